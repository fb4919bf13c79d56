-- A lane at work may make a new object of what it reserved.
use Rattle.std.proofs.Common.{◌≡◌, ◌≢◌, inl, inr, ℕ, ◌+◌, ◌*◌, ◌/◌, ◌%◌, ◌&&◌, ◌-◌, ◌<◌, ◌≤◌, ◌⊎◌, ⊎_elim, Bool, true, false, not, cond, eqb, leb, ltb, ◌||◌, All, List, [], ◌∷◌, is_some, length, length-append, set, slice_index, refl, sym, ap, ◌∙◌, subst, arith, eq-eqb, get_or-set_same, get_or-set_other}
use Rattle.std.specs.List.{list_any}
use Rattle.std.proofs.lemmas.Bool.{and_from, and_left, and_parts, and_right, cases_Bool, cases_eq, cases_lt, false_from_ne_true, false≢true, le-leb, leb-true, lt-ltb, ltb-true, or_from, or_left, or_parts, or_right, cond-true}
use Rattle.std.proofs.lemmas.List.Folds.{list_any-append}
use Rattle.pm_image.specs.Logs.{slot_line}
use Rattle.solo_view.specs.declared.change.Change.{Change}
use Rattle.solo_view.specs.Area.{is_in_area, part_of}
use Rattle.solo_view.specs.Area.Part.{OtherWord}
use Rattle.solo_view.specs.Blocks.{descriptor_word, is_chunk, is_run, tells_nothing}
use Rattle.solo_view.specs.Changes.{drained, flushed, is_in_line, mark, store_change}
use Rattle.solo_view.specs.Counts.{DropsSome, HasRoom, is_unflushed}
use Rattle.solo_view.specs.Held.{is_known, is_reserved, is_held, is_under}
use Rattle.solo_view.specs.Log.{Log, log_drained, log_stored}
use Rattle.solo_view.specs.Log.Phase.{Open}
use Rattle.solo_view.specs.Steps.Step.{Store, Flush, Drain}
use Rattle.solo_view.specs.View.{View, Taken}
use Rattle.solo_view.specs.Views.{after, after_all, log_after_drain}
use Rattle.solo_world.specs.Lawful.{Allowed, MayStore, StoreFits}
use Rattle.solo_world.specs.Sequences.{one, IsForeseen, Ready}
use Rattle.solo_world.specs.Opening.{IsChunk}
use Rattle.solo_world.proofs.Chunks.{chunk_here}
use Rattle.solo_world.proofs.Living.{descriptor_page}
use Rattle.solo_world.proofs.Going.{Goes, goes_counted, goes_one, goes_then, goes_weaker}
use Rattle.solo_world.proofs.StoreWord.{drained_more}
use Rattle.solo_undo.specs.Working.{HasMadeRoom, IsSameCall, IsSettled, IsWorking}
use Rattle.solo_undo.proofs.Areas.{other_part, slot_part}
use Rattle.solo_undo.proofs.Dropping.{flush_drops}
use Rattle.solo_undo.proofs.Restored.{open_settled}
use Rattle.solo_undo.proofs.Settled.{may_flush, same_many}
use Rattle.solo_undo.proofs.Staying.{same_call, same_call-then, same_changed, same_coursed, same_settled}
use Rattle.solo_undo.proofs.Storing.{goes_stores}
use Rattle.solo_undo.proofs.Unflushed.{clean_drained, clean_more, drained_clean, flush_cleans, flush_keeps_clean, unclean_more}
use Rattle.solo_undo.proofs.Written.{work_goes_on}
use Rattle.solo_fresh.specs.Filled.{CanFill, IsAmong, IsFilled, describes_run}
use Rattle.solo_fresh.specs.Filling.{fresh_word, stores_fresh, stores_line, fills_line, fills_lines, fills}
use Rattle.solo_fresh.specs.Made.{touches}
use Rattle.solo_fresh.proofs.Reserving.{reserved_kept}

-- a flush leaves each change in its line
marked_line : (k line : ℕ) (c : Change) → is_in_line k (mark line c) ≡ is_in_line k c
marked_line k line c = at (is_in_line line c) where
  at : (b : Bool) → is_in_line k (cond b (record c { flushed = true }) c) ≡ is_in_line k c
  at true = refl
  at false = refl

flushed_lines : (k line : ℕ) (changes : List Change) → list_any (is_in_line k) (flushed line changes) ≡ list_any (is_in_line k) changes
flushed_lines k line [] = refl
flushed_lines k line (c ∷ changes) =
    ap (λ b. b || list_any (is_in_line k) (flushed line changes)) (marked_line k line c) ∙ ap (λ b. is_in_line k c || b) (flushed_lines k line changes)

-- changes that are of no line are none
pub no_lines : (changes : List Change) → ((k : ℕ) → list_any (is_in_line k) changes ≡ false) → changes ≡ []
no_lines [] none = refl
no_lines (c ∷ changes) none =
    absurd (false≢true (sym (or_parts (is_in_line (c.word / 8) c) (list_any (is_in_line (c.word / 8)) changes) (none (c.word / 8))).0 ∙ eq-eqb (c.word / 8) (c.word / 8) refl))

-- an open call's log stays as it is
pub open_drained : (changes : List Change) (v : View) → v.log.phase ≡ Open [] [] → log_after_drain changes v ≡ v.log
open_drained [] v e = ap (λ p. log_drained p (is_some v.number) v.log) e
open_drained (c ∷ changes) v e = refl

-- the word is one of the lines, and the test for those that are not
abbrev is_within : ℕ → ℕ → ℕ → Bool
is_within line lines w = leb (8 * line) w && ltb w (8 * (line + lines))

abbrev outside : ℕ → ℕ → (ℕ → Bool) → ℕ → Bool
outside line lines test w = test w && not (is_within line lines w)

-- where no change is of a word that passes the test, none is of one outside of the lines
outside_none : (line lines : ℕ) (test : ℕ → Bool) (changes : List Change) → touches test changes ≡ false → touches (outside line lines test) changes ≡ false
outside_none line lines test [] none = refl
outside_none line lines test (c ∷ changes) none =
    let t = or_parts (test c.word) (touches test changes) none in
    or_from (outside line lines test c.word) (touches (outside line lines test) changes) (and_left (test c.word) (not (is_within line lines c.word)) t.0) (outside_none line lines test changes t.1)

-- and the other way round, where none is of the lines
outside_all : (line lines : ℕ) (test : ℕ → Bool) (changes : List Change) → ((k : ℕ) → IsAmong line lines k → list_any (is_in_line k) changes ≡ false) → touches (outside line lines test) changes ≡ false → touches test changes ≡ false
outside_all line lines test [] clean none = refl
outside_all line lines test (c ∷ changes) clean none =
    let t = or_parts (outside line lines test c.word) (touches (outside line lines test) changes) none in
    or_from (test c.word) (touches test changes)
    (⊎_elim
    (λ (within : is_within line lines c.word ≡ true).
    let s = and_parts (leb (8 * line) c.word) (ltb c.word (8 * (line + lines))) within in
    let low = leb-true (8 * line) c.word s.0 in let high = ltb-true c.word (8 * (line + lines)) s.1 in
    let none_here = clean (c.word / 8) (omega (arith, low), omega (arith, high)) in
    absurd (false≢true (sym (or_parts (is_in_line (c.word / 8) c) (list_any (is_in_line (c.word / 8)) changes) none_here).0 ∙ eq-eqb (c.word / 8) (c.word / 8) refl)))
    (λ (apart : is_within line lines c.word ≡ false). false_from_ne_true (test c.word) (λ passes. false≢true (sym t.0 ∙ and_from (test c.word) (not (is_within line lines c.word)) passes (ap not apart))))
    (cases_Bool (is_within line lines c.word)))
    (outside_all line lines test changes (λ k among. (or_parts (is_in_line k c) (list_any (is_in_line k) changes) (clean k among)).1) t.1)

-- a flush leaves each change its word, and a drain leaves fewer
touches_flushed : (p : ℕ → Bool) (line : ℕ) (changes : List Change) → touches p (flushed line changes) ≡ touches p changes
touches_flushed p line [] = refl
touches_flushed p line (c ∷ changes) = ap (λ b. b || touches p (flushed line changes)) (at (is_in_line line c)) ∙ ap (λ b. p c.word || b) (touches_flushed p line changes) where
  at : (b : Bool) → p (cond b (record c { flushed = true }) c).word ≡ p c.word
  at true = refl
  at false = refl

touches_drained : (p : ℕ → Bool) (changes : List Change) → touches p changes ≡ false → touches p (drained changes) ≡ false
touches_drained p [] none = refl
touches_drained p (c ∷ changes) none =
    let t = or_parts (p c.word) (touches p changes) none in
    let rest = touches_drained p changes t.1 in
    at c.flushed t.0 rest where
      at : (f : Bool) → p c.word ≡ false → touches p (drained changes) ≡ false → touches p (cond (not f) (c ∷ drained changes) (drained changes)) ≡ false
      at true apart rest = rest
      at false apart rest = or_from (p c.word) (touches p (drained changes)) apart rest

-- the first so many words are those of a new object, and no other word changed
record IsStored (v : View) (line lines kind size p : ℕ) (u : View) : Type 0 where
  call : IsSameCall v u
  log : u.log ≡ v.log
  run_words : u.run_words ≡ v.run_words
  zone_words : u.zone_words ≡ v.zone_words
  slots : (s : ℕ) → s < length v.log.records → not (list_any (is_in_line (slot_line v.lane s)) u.changes) ≡ true
  there : (place : ℕ) → place < p → slice_index u.words (8 * line + place) ≡ fresh_word kind size place
  knows : (place : ℕ) → place < p → is_known u (8 * line + place) ≡ true
  others : (w : ℕ) → (w < 8 * line) ⊎ (8 * line + p ≤ w) → slice_index u.words w ≡ slice_index v.words w
  beside : (test : ℕ → Bool) → touches test v.changes ≡ false → touches (outside line lines test) u.changes ≡ false

module _ (v : View) (line lines kind size : ℕ) (working : IsWorking v) (can : (w : ℕ) → 8 * line ≤ w → w < 8 * (line + lines) → CanFill v w) where
  abbrev Stored : ℕ → View → Type 0
  Stored p u = IsStored v line lines kind size p u

  -- only changes, counts and log are others
  quiet : (p : ℕ) (u m : View) → IsSameCall u m → m.log ≡ u.log → m.words ≡ u.words → m.run_words ≡ u.run_words → m.zone_words ≡ u.zone_words
      → ((s : ℕ) → not (list_any (is_in_line (slot_line v.lane s)) u.changes) ≡ true → not (list_any (is_in_line (slot_line v.lane s)) m.changes) ≡ true)
      → ((test : ℕ → Bool) → touches test u.changes ≡ false → touches test m.changes ≡ false) → Stored p u → Stored p m
  quiet p u m call log words run_words zone_words slots fewer q = record {
    call = same_call-then v u m q.call call;
    log = log ∙ q.log;
    run_words = run_words ∙ q.run_words;
    zone_words = zone_words ∙ q.zone_words;
    slots = λ s low. slots s (q.slots s low);
    there = λ place low. ap (λ ws. slice_index ws (8 * line + place)) words ∙ q.there place low;
    knows = λ place low. call.known (8 * line + place) (q.knows place low);
    others = λ w out. ap (λ ws. slice_index ws w) words ∙ q.others w out;
    beside = λ test none. fewer (outside line lines test) (q.beside test none);
  }

  settled : (p : ℕ) (u m : View) → IsSettled u m → Stored p u → Stored p m
  settled p u m e q =
      quiet p u m (same_settled u m e) (ap (λ (z : View). z.log) e ∙ open_settled u.changes u [] [] (ap (λ (l : Log). l.phase) q.log ∙ working.is_open))
      (ap (λ (z : View). z.words) e) (ap (λ (z : View). z.run_words) e) (ap (λ (z : View). z.zone_words) e)
      (λ s none. ap (λ (z : View). not (list_any (is_in_line (slot_line v.lane s)) z.changes)) e) (λ test none. ap (λ (z : View). touches test z.changes) e) q

  roomy : (p : ℕ) (u m : View) → HasMadeRoom u m → Stored p u → Stored p m
  roomy p u m made q = ⊎_elim (λ (same : m ≡ u). subst (Stored p) (sym same) q) (λ (full : (512 ≤ length u.changes) × IsSettled u m). settled p u m full.1 q) made.1

  clean_roomy : (k : ℕ) (u m : View) → HasMadeRoom u m → is_unflushed u.changes k ≡ false → is_unflushed m.changes k ≡ false
  clean_roomy k u m made e =
      ⊎_elim (λ (same : m ≡ u). ap (λ (z : View). is_unflushed z.changes k) same ∙ e) (λ (full : (512 ≤ length u.changes) × IsSettled u m). ap (λ (z : View). is_unflushed z.changes k) full.1) made.1

  -- what the lane reserved it has so still
  still_reserved : (p : ℕ) (u : View) → p ≤ 8 * lines → Stored p u → (w : ℕ) → is_reserved u w ≡ is_reserved v w
  still_reserved p u most q = reserved_kept v u q.call.lane.lanes q.call.reserved each where
    each : (w : ℕ) → (slice_index u.words w ≡ slice_index v.words w) ⊎ All (λ (t : Taken). describes_run v.lanes w t.at ≡ false) v.reserved
    each w =
        ⊎_elim (λ (low : w < 8 * line). inl (q.others w (inl low)))
        (λ (from : 8 * line ≤ w). ⊎_elim (λ (to : w < 8 * line + p). inr ((can w from (omega (arith, to, most))).silent)) (λ (high : 8 * line + p ≤ w). inl (q.others w (inr high))) (cases_lt w (8 * line + p)))
        (cases_lt w (8 * line))

  module _ (p : ℕ) (low : p < 8 * lines) where
    abbrev w : ℕ
    w = 8 * line + p

    abbrev x : ℕ
    x = fresh_word kind size p

    can_w : CanFill v w
    can_w = can w (omega arith) (omega (arith, low))

    part : (m : View) → Stored p m → part_of m.lane w ≡ OtherWord
    part m q = ap (λ n. part_of n w) q.call.lane.lane ∙ other_part v.lane w can_w.outside

    inside : (m : View) → Stored p m → w < length m.words
    inside m q = let below = can_w.inside in let same = q.call.lane.size in omega (arith, below, same)

    -- it tells of no block still, since what describes its chunk is in none
    plain : (m : View) → Stored p m → tells_nothing m.lanes m.words w ≡ true
    plain m q =
        let page : ℕ = w / 512 in
        let d : ℕ = descriptor_word v.lanes page in
        let chunk : IsChunk v.lanes page = chunk_here v.lanes page (and_parts (is_chunk v.lanes page) (not (eqb (w % 512) 0 && is_run (slice_index v.words d))) can_w.plain).0 in
        let beside : (d < 8 * line) ⊎ (8 * line + p ≤ d) = ⊎_elim (λ (under : d < 8 * line). inl under)
        (λ (from : 8 * line ≤ d). ⊎_elim
        (λ (to : d < 8 * line + p). absurd (false≢true (sym (descriptor_page v.lanes page chunk) ∙ (and_parts (is_chunk v.lanes (d / 512)) (not (eqb (d % 512) 0 && is_run (slice_index v.words (descriptor_word v.lanes (d / 512))))) (can d from (omega (arith, to, low))).plain).0)))
        (λ (high : 8 * line + p ≤ d). inr high) (cases_lt d (8 * line + p)))
        (cases_lt d (8 * line)) in
        ap (λ n. tells_nothing n m.words w) q.call.lane.lanes ∙ ap (λ x. is_chunk v.lanes page && not (eqb (w % 512) 0 && is_run x)) (q.others d beside) ∙ can_w.plain

    may : (m : View) → HasRoom m.changes → Stored p m → MayStore m w x
    may m room q = record {
      inside = inside m q;
      room = room;
      fits = subst (λ part. StoreFits m w x m.log.phase part) (sym (part m q))
          (subst (λ phase. StoreFits m w x phase OtherWord) (sym (ap (λ (l : Log). l.phase) q.log ∙ working.is_open)) (inr (inl (record { reserved = still_reserved p m (omega (arith, low)) q w ∙ can_w.own; plain = plain m q }))));
    }

    stored : (m : View) → Stored p m → Stored (p + 1) (after m (Store w x))
    stored m q = record {
      call = same_call-then v m (after m (Store w x)) q.call changes;
      log = ap (λ part. log_stored m.log.phase part x m.log) (part m q) ∙ ap (λ phase. log_stored phase OtherWord x m.log) (ap (λ (l : Log). l.phase) q.log ∙ working.is_open) ∙ q.log;
      run_words = q.run_words;
      zone_words = q.zone_words;
      slots = λ s small. drained_more v.lane s m.changes (store_change w (slice_index m.words w) x)
          (λ same. false≢true (sym can_w.outside ∙ (slot_part v.lane s (w - 8 * slot_line v.lane s) w (let most = working.records.most in omega (arith, small, most)) (omega (arith, same)) (omega (arith, same))).1)) (q.slots s small);
      there = λ place upto. ⊎_elim
          (λ (this : place ≡ p). ap (λ n. slice_index (set m.words w x) (8 * line + n)) this ∙ (get_or-set_same m.words w x 0 (inside m q) ∙ ap (fresh_word kind size) (sym this)))
          (λ (other : place ≢ p). get_or-set_other m.words w (8 * line + place) x 0 (λ same. other (omega (arith, same))) ∙ q.there place (omega (arith, upto, other)))
          (cases_eq place p);
      knows = λ place upto. ⊎_elim
          (λ (this : place ≡ p). or_right (is_in_area m.lane (8 * line + place)) (list_any (λ other. eqb other (8 * line + place)) (cond (is_held m w) (w ∷ m.known) m.known))
          (ap (list_any (λ other. eqb other (8 * line + place))) (cond-true (is_held m w) (w ∷ m.known) m.known held)
          ∙ or_left (eqb w (8 * line + place)) (list_any (λ other. eqb other (8 * line + place)) m.known) (eq-eqb w (8 * line + place) (omega (arith, this)))))
          (λ (other : place ≢ p). changes.known (8 * line + place) (q.knows place (omega (arith, upto, other))))
          (cases_eq place p);
      others = λ u out. get_or-set_other m.words w u x 0 (λ same. ⊎_elim (λ (under : u < 8 * line). absurd (omega (arith, same, under))) (λ (high : 8 * line + (p + 1) ≤ u). absurd (omega (arith, same, high))) out)
          ∙ q.others u (⊎_elim (λ (under : u < 8 * line). inl under) (λ (high : 8 * line + (p + 1) ≤ u). inr (omega (arith, high))) out);
      beside = λ test none.
          let c : Change = store_change w (slice_index m.words w) x in
          let within : is_within line lines w ≡ true = and_from (leb (8 * line) w) (ltb w (8 * (line + lines))) (le-leb (8 * line) w (omega arith)) (lt-ltb w (8 * (line + lines)) (omega (arith, low))) in
          list_any-append (λ (d : Change). outside line lines test d.word) m.changes (c ∷ [])
          ∙ or_from (touches (outside line lines test) m.changes) (touches (outside line lines test) (c ∷ [])) (q.beside test none) (or_from (outside line lines test w) false (and_right (test w) (not (is_within line lines w)) (ap not within)) refl);
    } where
      changes : IsSameCall m (after m (Store w x))
      changes = same_changed m w x _ _

      held : is_held m w ≡ true
      held = or_right (is_in_area m.lane w || list_any (is_under w) m.locks) (is_reserved m w) (still_reserved p m (omega (arith, low)) q w ∙ can_w.own)

  -- where all changes have room, there are so many more, and so many more calls were made
  abbrev Counts : ℕ → ℕ → View → Type 0
  Counts p n u = length v.changes + 8 * lines ≤ 512 → (length u.changes ≡ length v.changes + p) × (u.calls ≡ v.calls + n)

  counts_roomy : (p n : ℕ) (u m : View) → p < 8 * lines → HasMadeRoom u m → Counts p n u → Counts p n m
  counts_roomy p n u m low made counts fits =
      let is = counts fits in
      ⊎_elim (λ (same : m ≡ u). (ap (λ (z : View). length z.changes) same ∙ is.0, ap (λ (z : View). z.calls) same ∙ is.1))
      (λ (full : (512 ≤ length u.changes) × IsSettled u m). absurd (let most = full.0 in let many = is.0 in omega (arith, most, many, fits, low))) made.1

  -- a line of those before line i of the block, or that had nothing unflushed
  abbrev IsFine : ℕ → ℕ → Type 0
  IsFine i k = IsAmong line i k ⊎ (is_unflushed v.changes k ≡ false)

  -- so many lines are filled, and nothing unflushed is of them
  abbrev Lines : ℕ → View → Type 0
  Lines i u = Stored (8 * i) u × ((k : ℕ) → IsFine i k → is_unflushed u.changes k ≡ false) × (0 < i → DropsSome u.changes) × Counts (8 * i) (9 * i) u

  -- and so many words of the next one, which is not flushed
  abbrev Words : ℕ → ℕ → View → Type 0
  Words i j u = Stored (8 * i + j) u × ((k : ℕ) → k ≢ line + i → IsFine i k → is_unflushed u.changes k ≡ false) × (0 < j → is_unflushed u.changes (line + i) ≡ true) × Counts (8 * i + j) (9 * i + j) u

  module _ (i : ℕ) (low_i : i < lines) where
    word_filled : (j : ℕ) → j < 8 → Goes (Words i j) (stores_fresh line kind size (8 * i + j)) (Words i (j + 1))
    word_filled j low =
        goes_stores (Words i j) (Words i (j + 1)) (8 * line + (8 * i + j)) (fresh_word kind size (8 * i + j))
        (λ u m at made.
        let below : 8 * i + j < 8 * lines = omega (arith, low, low_i) in
        let here : (8 * line + (8 * i + j)) / 8 ≡ line + i = omega (arith, low) in
        let q = roomy (8 * i + j) u m made at.0 in
        let c : Change = store_change (8 * line + (8 * i + j)) (slice_index m.words (8 * line + (8 * i + j))) (fresh_word kind size (8 * i + j)) in (
          may (8 * i + j) below m made.0 q,
          (
            subst (λ n. Stored n (after m (Store (8 * line + (8 * i + j)) (fresh_word kind size (8 * i + j))))) (let e : 8 * i + j + 1 ≡ 8 * i + (j + 1) = omega arith in e) (stored (8 * i + j) below m q),
            (λ k other fine. clean_more k m.changes c (λ same. other (sym same ∙ here)) (clean_roomy k u m made (at.1 k other fine))),
            (λ some. unclean_more (line + i) m.changes c here refl),
            (λ fits. let is = counts_roomy (8 * i + j) (9 * i + j) u m below made at.3 fits in let many = is.0 in let calls = is.1 in
                ((let more = length-append m.changes (c ∷ []) in omega (arith, more, many)), omega (arith, calls))),
          ),
        ))

    flushes_line : (m : View) → Words i 8 m → Allowed m (Flush (line + i)) × IsForeseen m (Flush (line + i)) × Lines (i + 1) (after m (Flush (line + i)))
    flushes_line m at =
        let u : View = after m (Flush (line + i)) in
        let due = may_flush m.changes (line + i) (at.2 (omega arith)) in (
          due,
          tt,
          (
            subst (λ n. Stored n u) (let e : 8 * i + 8 ≡ 8 * (i + 1) = omega arith in e)
                (quiet (8 * i + 8) m u (same_coursed m (flushed (line + i) m.changes) (m.calls + 1) m.log) refl refl refl refl (λ s none. ap not (flushed_lines (slot_line v.lane s) (line + i) m.changes) ∙ none)
                (λ test none. touches_flushed test (line + i) m.changes ∙ none) at.0),
            (λ k fine. ⊎_elim
                (λ (this : k ≡ line + i). ap (λ n. is_unflushed (flushed (line + i) m.changes) n) this ∙ flush_cleans (line + i) m.changes)
                (λ (other : k ≢ line + i). flush_keeps_clean (line + i) k m.changes (at.1 k other
                (⊎_elim (λ (among : IsAmong line (i + 1) k). inl (among.0, (let to = among.1 in omega (arith, to, other)))) (λ (clean : is_unflushed v.changes k ≡ false). inr clean) fine)))
                (cases_eq k (line + i))),
            (λ some. flush_drops (line + i) m.changes due),
            (λ fits. let is = at.3 fits in let many = is.0 in let calls = is.1 in ((let same = same_many (line + i) m.changes in omega (arith, same, many)), omega (arith, calls))),
          ),
        )

    begins_line : (u : View) → Lines i u → Words i 0 u
    begins_line u at = (
      subst (λ n. Stored n u) (let e : 8 * i ≡ 8 * i + 0 = omega arith in e) at.0,
      (λ k other fine. at.1 k fine),
      (λ none. absurd (omega (arith, none))),
      (λ fits. let is = at.3 fits in let many = is.0 in let calls = is.1 in (omega (arith, many), omega (arith, calls))),
    )

    line_filled : Goes (Lines i) (fills_line line kind size i) (Lines (i + 1))
    unfolding fills_line stores_line
    line_filled =
        goes_then (Lines i) (Words i 8) (Lines (i + 1)) (stores_line line kind size i) (one (Flush (line + i)))
        (goes_weaker (Words i 0) (Lines i) (Words i 8) (Words i 8) (stores_line line kind size i) begins_line (λ u at. at) (goes_counted (Words i) (λ j. stores_fresh line kind size (8 * i + j)) 8 word_filled))
        (goes_one (Words i 8) (Lines (i + 1)) (Flush (line + i)) flushes_line)

  begun : Lines 0 v
  begun = (
    record {
      call = same_call v;
      log = refl;
      run_words = refl;
      zone_words = refl;
      slots = working.drained;
      there = λ place low. absurd (omega (arith, low));
      knows = λ place low. absurd (omega (arith, low));
      others = λ w out. refl;
      beside = λ test none. outside_none line lines test v.changes none;
    },
    (λ k fine. ⊎_elim (λ (among : IsAmong line 0 k). absurd (let from = among.0 in let to = among.1 in omega (arith, from, to))) (λ (clean : is_unflushed v.changes k ≡ false). clean) fine),
    (λ none. absurd (omega (arith, none))),
    (λ fits. (omega arith, omega arith)),
  )

  lines_filled : Goes (Lines 0) (fills_lines line lines kind size) (Lines lines)
  unfolding fills_lines
  lines_filled = goes_counted Lines (fills_line line kind size) lines line_filled

  -- no word of the lane's area is another
  same_area : (p : ℕ) (u : View) → p ≤ 8 * lines → Stored p u → (w : ℕ) → is_in_area v.lane w ≡ true → slice_index u.words w ≡ slice_index v.words w
  same_area p u most q w area =
      q.others w
      (⊎_elim (λ (low : w < 8 * line). inl low)
      (λ (from : 8 * line ≤ w). ⊎_elim (λ (to : w < 8 * line + p). absurd (false≢true (sym (can w from (omega (arith, to, most))).outside ∙ area))) (λ (high : 8 * line + p ≤ w). inr high) (cases_lt w (8 * line + p)))
      (cases_lt w (8 * line)))

  drains_all : 1 ≤ lines → (m : View) → Lines lines m → Allowed m Drain × IsForeseen m Drain × IsFilled v line lines kind size (after m Drain)
  drains_all some m at = (at.2 some, tt, filled) where
    u : View
    u = after m Drain

    log : log_after_drain (drained m.changes) m ≡ m.log
    log = open_drained (drained m.changes) m (ap (λ (l : Log). l.phase) at.0.log ∙ working.is_open)

    q : Stored (8 * lines) u
    q = quiet (8 * lines) m u (same_coursed m (drained m.changes) (m.calls + 1) (log_after_drain (drained m.changes) m)) log refl refl refl
        (λ s none. ap not (drained_clean (slot_line v.lane s) m.changes (clean_drained (slot_line v.lane s) m.changes none))) (λ test none. touches_drained test m.changes none) at.0

    filled : IsFilled v line lines kind size u
    filled = record {
      call = q.call;
      working = work_goes_on v u working q.call q.log (same_area (8 * lines) u (omega arith) q) q.slots;
      log = q.log;
      run_words = q.run_words;
      zone_words = q.zone_words;
      there = q.there;
      knows = q.knows;
      others = λ w out. q.others w (⊎_elim (λ (low : w < 8 * line). inl low) (λ (high : 8 * (line + lines) ≤ w). inr (omega (arith, high))) out);
      reserved = still_reserved (8 * lines) u (omega arith) q;
      drained = λ k fine. drained_clean k m.changes (at.1 k fine);
      beside = λ test none. outside_all line lines test (drained m.changes) (λ k among. drained_clean k m.changes (at.1 k (inl among))) (q.beside test none);
      calls = λ fits. (let calls = (at.3 fits).1 in omega (arith, calls));
    }

  pub fill_lawful : 1 ≤ lines → Ready v (fills line lines kind size v) × IsFilled v line lines kind size (after_all v (fills line lines kind size v))
  unfolding fills
  fill_lawful some =
      goes_then (Lines 0) (Lines lines) (IsFilled v line lines kind size) (fills_lines line lines kind size) (one Drain) lines_filled
      (goes_one (Lines lines) (IsFilled v line lines kind size) Drain (drains_all some)) v begun
