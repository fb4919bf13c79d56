-- A store of the next word of a record's slot.
use Rattle.std.proofs.Common.{◌≡◌, ◌≢◌, ℕ, zero, suc, ◌+◌, ◌-◌, ◌*◌, ◌/◌, ◌<◌, ◌≤◌, ◌⊎◌, inl, inr, ⊎_elim, Bool, true, false, eqb, leb, ltb, ◌&&◌, All, Contains, List, [], ◌∷◌, ◌++◌, length, take, drop, replicate, slice_get, slice_index, slice_range, get_or, Some, refl, sym, ap, ◌∙◌, subst, arith, length-append, cond}
use Rattle.std.specs.List.{list_any}
use Rattle.std.proofs.lemmas.Bool.{cases_lt, and_parts, or_cases, or_from, or_left, or_right, eqb-true, leb-true, ltb-true, false≢true, false_from_ne_true}
use Rattle.std.proofs.lemmas.List.{take_all, length-take-le, length-drop, length-replicate, length-set, get_or-take, get_or-drop, get_or_append_left, get_or_push, ext_get_or}
use Rattle.std.proofs.lemmas.List.Elements.{All-push, All-weaker}
use Rattle.std.proofs.lemmas.List.Folds.{list_any_at, Any-from_list_any}
use Rattle.std.proofs.lemmas.Option.{none-some, same_Some, slice_get_within, get_or_from_slice_get}
use Rattle.pm_record.specs.Undo.{undo_of, undo_front, undo_words}
use Rattle.pm_record.specs.declared.undo.Undo.{Undo}
use Rattle.solo_view.specs.Area.{area_word, is_in_area, part_of}
use Rattle.solo_view.specs.Area.Part.{SlotWord}
use Rattle.solo_view.specs.Changes.{store_change}
use Rattle.solo_view.specs.Counts.{MayCount, HasRoom}
use Rattle.solo_view.specs.Held.{is_known, is_held}
use Rattle.solo_view.specs.Log.{Log, Recorded, with_slot}
use Rattle.solo_view.specs.Log.Phase.{Open}
use Rattle.solo_view.specs.View.{View}
use Rattle.solo_view.specs.Views.{changed}
use Rattle.pm_image.specs.Logs.{undo_slot, slot_line}
use Rattle.solo_world.specs.Course.{flight_in}
use Rattle.solo_world.specs.Entries.{HasNone, entry_word, is_in_log, is_redoing, is_redone, seal_in, IsGrowing}
use Rattle.solo_world.specs.Fits.{EntriesFit, OpenChange, OpenFits, LaneFits, LogFits, PhaseFits, RecordFits, RecordedWordFits}
use Rattle.solo_world.specs.History.{Entry, Flies, settled}
use Rattle.solo_world.specs.Laws.{with_view}
use Rattle.solo_world.specs.Lawful.{AppendsToSlot, generation_limit}
use Rattle.solo_world.specs.Memory.{Memory, Becomes}
use Rattle.solo_world.specs.Memory.Location.{PoolWord}
use Rattle.solo_world.specs.Opening.{Opening}
use Rattle.solo_world.specs.Records.{IsRecordAt, generation_of, slot_word, covers, is_recorded, is_drained_slot, is_logged_from, is_logged, spelled, records_generation, used_slots}
use Rattle.solo_world.specs.World.{Views, World}
use Rattle.solo_world.proofs.Apart.{area_bounds, outside_behind}
use Rattle.solo_world.proofs.Exclusion.{writes_under, one_writer}
use Rattle.solo_world.proofs.Living.{guarded_lives}
use Rattle.solo_world.proofs.Frame.{in_phase}
use Rattle.solo_world.proofs.Pairs.{entries_sealed, in_log_before, in_log_written, none_redone}
use Rattle.solo_world.proofs.Parts.{slot_part}
use Rattle.solo_world.proofs.Recoursed.{logged_upto, open_again}
use Rattle.solo_world.proofs.Slots.{unrecorded}
use Rattle.solo_world.proofs.Stored.{IsPlainWord, change_still, slot_set_other, other_word, this_word, known_more, stored_fits, stored_world}
use Rattle.solo_world.proofs.StoreWord.{drained_more}
use Rattle.solo_world.proofs.Worlds.{own, unlogged_before}

-- fewer than eight words are no record yet
pub with_slot-short : (log : Log) (slot pair : List ℕ) → length slot < 8 → with_slot log slot pair ≡ in_phase (Open slot pair) log
with_slot-short log [] pair low = refl
with_slot-short log (a ∷ []) pair low = refl
with_slot-short log (a ∷ b ∷ []) pair low = refl
with_slot-short log (a ∷ b ∷ c ∷ []) pair low = refl
with_slot-short log (a ∷ b ∷ c ∷ d ∷ []) pair low = refl
with_slot-short log (a ∷ b ∷ c ∷ d ∷ e ∷ []) pair low = refl
with_slot-short log (a ∷ b ∷ c ∷ d ∷ e ∷ f ∷ []) pair low = refl
with_slot-short log (a ∷ b ∷ c ∷ d ∷ e ∷ f ∷ g ∷ []) pair low = refl
with_slot-short log (a ∷ b ∷ c ∷ d ∷ e ∷ f ∷ g ∷ h ∷ slot) pair low = absurd (omega arith)

abbrev pub with_record : Log → List ℕ → Recorded → Log
with_record log pair r = record log { phase = Open [] pair; records = log.records ++ r ∷ [] }

-- eight are one
with_slot-whole' : (log : Log) (generation word : ℕ) (old pair : List ℕ) → 1 ≤ length old → length old ≤ 4
    → with_slot log (spelled generation (record { word = word; old = old })) pair ≡ with_record log pair (record { word = word; old = old })
with_slot-whole' log generation word [] pair some most = absurd (omega arith)
with_slot-whole' log generation word (a ∷ []) pair some most = ap (λ u. with_record log pair (record { word = u; old = a ∷ [] })) (let e : 8 * word / 8 ≡ word = omega arith in e)
with_slot-whole' log generation word (a ∷ b ∷ []) pair some most = ap (λ u. with_record log pair (record { word = u; old = a ∷ b ∷ [] })) (let e : 8 * word / 8 ≡ word = omega arith in e)
with_slot-whole' log generation word (a ∷ b ∷ c ∷ []) pair some most = ap (λ u. with_record log pair (record { word = u; old = a ∷ b ∷ c ∷ [] })) (let e : 8 * word / 8 ≡ word = omega arith in e)
with_slot-whole' log generation word (a ∷ b ∷ c ∷ d ∷ []) pair some most = ap (λ u. with_record log pair (record { word = u; old = a ∷ b ∷ c ∷ d ∷ [] })) (let e : 8 * word / 8 ≡ word = omega arith in e)
with_slot-whole' log generation word (a ∷ b ∷ c ∷ d ∷ e ∷ old) pair some most = absurd (omega arith)

pub with_slot-whole : (log : Log) (generation : ℕ) (r : Recorded) (pair : List ℕ) → 1 ≤ length r.old → length r.old ≤ 4 → with_slot log (spelled generation r) pair ≡ with_record log pair r
with_slot-whole log generation r pair some most = with_slot-whole' log generation r.word r.old pair some most

pub length-spelled : (generation : ℕ) (r : Recorded) → length r.old ≤ 4 → length (spelled generation r) ≡ 8
length-spelled generation r most =
    let one = length-append r.old (replicate (4 - length r.old) 0) in let two = length-replicate {A = ℕ} (4 - length r.old) 0 in
    let u : Undo = record { generation = generation; place = 8 * r.word; count = length r.old; old = r.old ++ replicate (4 - length r.old) 0 } in
    let three : length (undo_words u) ≡ length (undo_front u) + 1 = length-append (undo_front u) _ in
    let four : length (undo_front u) ≡ 3 + length (r.old ++ replicate (4 - length r.old) 0) = omega arith in
    three ∙ (let e : length (undo_front u) + 1 ≡ 8 = omega (arith, one, two, four, most) in e)

used-more : (slot pair : List ℕ) (x : ℕ) (v : View) → used_slots (Open (slot ++ x ∷ []) pair) v ≡ length v.log.records + 1
used-more [] pair x v = refl
used-more (y ∷ slot) pair x v = refl

used-most : (slot pair : List ℕ) (v : View) → used_slots (Open slot pair) v ≤ length v.log.records + 1
used-most [] pair v = omega arith
used-most (y ∷ slot) pair v = omega arith

pub get-push_cases : {X : Type 0} (xs : List X) (y : X) (i : ℕ) (x : X) → slice_get (xs ++ y ∷ []) i ≡ Some x → (slice_get xs i ≡ Some x) ⊎ ((i ≡ length xs) × (y ≡ x))
get-push_cases [] y zero x e = inr (refl, same_Some y x e)
get-push_cases [] y (suc i) x e = absurd (none-some x e)
get-push_cases (z ∷ xs) y zero x e = inl e
get-push_cases (z ∷ xs) y (suc i) x e = ⊎_elim (λ (there : slice_get xs i ≡ Some x). inl there) (λ (t : (i ≡ length xs) × (y ≡ x)). let t₀ = t.0 in inr (omega arith, t.1)) (get-push_cases xs y i x e)

recorded-at : (records : List Recorded) (slot w : ℕ) (r : Recorded) → slice_get records slot ≡ Some r → covers r w ≡ true → is_recorded records w ≡ true
recorded-at records slot w r there of = list_any_at (λ q. covers q w) records slot r (slice_get_within records slot r there) (ap (λ q. covers q w) (get_or_from_slice_get records slot r r there) ∙ of)

logged-longer : (v : View) (slot : ℕ) (records others : List Recorded) (w : ℕ) → is_logged_from v slot records w ≡ true → is_logged_from v slot (records ++ others) w ≡ true
logged-longer v slot [] others w e = absurd (false≢true e)
logged-longer v slot (r ∷ records) others w e =
    ⊎_elim (λ (here : (covers r w && is_drained_slot v slot) ≡ true). or_left (covers r w && is_drained_slot v slot) (is_logged_from v (slot + 1) (records ++ others) w) here)
    (λ (later : is_logged_from v (slot + 1) records w ≡ true). or_right (covers r w && is_drained_slot v slot) (is_logged_from v (slot + 1) (records ++ others) w) (logged-longer v (slot + 1) records others w later))
    (or_cases (covers r w && is_drained_slot v slot) (is_logged_from v (slot + 1) records w) e)

known-contained : (v : View) (w : ℕ) → is_known v w ≡ true → (is_in_area v.lane w ≡ true → ⊥) → Contains v.known w
known-contained v w e outside =
    ⊎_elim (λ (area : is_in_area v.lane w ≡ true). absurd (outside area))
    (λ (listed : list_any (λ other. eqb other w) v.known ≡ true).
    let t = Any-from_list_any (λ other. eqb other w) v.known listed in
    (t.0, t.2, subst (λ y. get_or v.known t.0 y ≡ y) (eqb-true t.1 w t.4) t.3))
    (or_cases (is_in_area v.lane w) (list_any (λ other. eqb other w) v.known) e)

-- eight words one by one
eight : (words slot : List ℕ) (from : ℕ) → length slot ≡ 8 → from + 8 ≤ length words → ((i : ℕ) → i < 8 → slice_index words (from + i) ≡ slice_index slot i) → slice_range words from (from + 8) ≡ slot
eight words slot from size inside same =
    let n : from + 8 - from ≡ 8 = omega arith in
    let behind : length (drop from words) ≡ length words - from = length-drop from words in
    let taken : length (take 8 (drop from words)) ≡ 8 = length-take-le 8 (drop from words) (omega arith) in
    ap (λ m. take m (drop from words)) n ∙ ext_get_or 0 (take 8 (drop from words)) slot (taken ∙ sym size)
    (λ i low. let here : i < 8 = omega arith in get_or-take 8 (drop from words) i 0 here ∙ (get_or-drop from words i 0 ∙ same i here))

module _ (o : Opening) (old : Memory) (views : Views) (log : List Entry) (decided : ℕ → Bool) (world : World o old views log decided) (k : ℕ) (inside : k < o.lanes) (v : View) (is : views k ≡ v)
    (new : Memory) (w x : ℕ) (moves : Becomes (PoolWord w) x old new) (in_pool : w < length v.words) (may : MayCount v) (room : HasRoom v.changes) where
  mine : LaneFits o old (settled o log decided) (Flies log decided k) k v
  mine = own o old views log decided world k inside v is

  module _ (slot pair : List ℕ) (open_ : v.log.phase ≡ Open slot pair) (part : part_of v.lane w ≡ SlotWord) (adds : AppendsToSlot v w x slot) where
    right : IsPlainWord v w
    right = inl (slot_part v.lane w part)

    open_fits : OpenFits v slot pair
    open_fits = subst (PhaseFits (Flies log decided k) v) open_ mine.phase

    open_log : LogFits (settled o log decided) v (generation_of v)
    open_log = subst (λ p. LogFits (settled o log decided) v (records_generation p v)) open_ mine.log

    abbrev view' : Log → View
    view' lg = changed v w x (store_change w (slice_index v.words w) x) lg

    others : (u : ℕ) → u ≢ w → slice_index (view' v.log).words u ≡ slice_index v.words u
    others = other_word o old views log decided world k inside v is new w x moves in_pool may room

    now : slice_index (view' v.log).words w ≡ x
    now = this_word o old views log decided world k inside v is new w x moves in_pool may room

    slot_apart : (s : ℕ) → s ≢ length v.log.records → (w < 8 * slot_line v.lane s) ⊎ (8 * slot_line v.lane s + 8 ≤ w)
    slot_apart s other =
        let here = adds.at in let short = open_fits.short in
        ⊎_elim (λ (low : s < length v.log.records). inr (omega arith)) (λ (high : length v.log.records ≤ s). inl (omega arith)) (cases_lt s (length v.log.records))

    generation : (lg : Log) → generation_of (view' lg) ≡ generation_of v
    generation lg = others (area_word v.lane) (λ same. let here = adds.at in absurd (omega arith))

    slot_same : (s : ℕ) → s ≢ length v.log.records → undo_slot (view' v.log).words v.lane s ≡ undo_slot v.words v.lane s
    slot_same s other = slot_set_other v.words w x v.lane s (slot_apart s other)

    stale : (s : ℕ) (u : Undo) → length v.log.records + 1 ≤ s → s < 64 → undo_of (undo_slot (view' v.log).words v.lane s) ≡ Some u → u.generation < generation_of v
    stale s u low high there =
        open_log.stale s u (subst (λ p. used_slots p v ≤ s) (sym open_) (let most = used-most slot pair v in omega arith)) high (ap undo_of (sym (slot_same s (λ same. absurd (omega arith)))) ∙ there)

    -- the entries stand, and the seal is 0
    entries_stand : (lg : Log) → IsGrowing lg.phase → lg.entries ≡ v.log.entries → 0 ≡ seal_in lg.phase (view' lg) → HasNone lg.phase (view' lg) → EntriesFit (view' lg)
    entries_stand lg grows same seal none =
        let here = adds.at in
        entries_sealed v (view' lg) refl same (λ u low high. others u (λ this. absurd (omega arith))) (λ u own_word. own_word) (λ i f at free. inr (free.0, grows, free.2))
        (others (area_word v.lane + 1) (λ this. absurd (omega arith)) ∙ (mine.entries.seal ∙ (ap (λ p. seal_in p v) open_ ∙ seal))) none mine.entries

    -- the pair in the making stands
    pair_stands : (i : ℕ) → i < length pair → slice_index (view' v.log).words (entry_word v.lane (length v.log.entries) + i) ≡ slice_index pair i
    pair_stands i low =
        let here = adds.at in let room = open_fits.in_pairs in
        others (entry_word v.lane (length v.log.entries) + i) (λ this. absurd (omega arith)) ∙ open_fits.pair_stands i low

    -- the slots of records stay drained
    logged_same : (lg : Log) (u : ℕ) → is_logged v u ≡ true → is_logged_from (view' lg) 0 v.log.records u ≡ true
    logged_same lg u = logged_upto v (view' lg) 0 v.log.records
        (λ s low. drained_more v.lane s v.changes (store_change w (slice_index v.words w) x) (λ same. let here = adds.at in let short = open_fits.short in absurd (omega arith))) u

    -- the slot's words as they stand
    stands : (i : ℕ) → i < length (slot ++ x ∷ []) → slice_index (view' v.log).words (slot_word v.lane (length v.log.records) + i) ≡ slice_index (slot ++ x ∷ []) i
    stands i low =
        let here = adds.at in let size = length-append slot (x ∷ []) in
        ⊎_elim (λ (before : i < length slot). others (slot_word v.lane (length v.log.records) + i) (λ same. absurd (omega arith)) ∙ (open_fits.stands i before ∙ sym (get_or_append_left slot (x ∷ []) 0 i before)))
        (λ (last : length slot ≤ i).
        let same : i ≡ length slot = omega (arith, size, low, last) in
        ap (λ n. slice_index (view' v.log).words (slot_word v.lane (length v.log.records) + n)) same ∙ (ap (slice_index (view' v.log).words) (sym here) ∙ (now ∙ sym (get_or_push slot x 0 i (sym same)))))
        (cases_lt i (length slot))

    changes_fit : (lg : Log) → ((u : ℕ) → is_logged v u ≡ true → is_logged (view' lg) u ≡ true) → All (OpenChange (view' lg)) (view' lg).changes
    changes_fit lg logged = All-push (OpenChange (view' lg)) v.changes (store_change w (slice_index v.words w) x)
        (All-weaker (OpenChange v) (OpenChange (view' lg)) (λ c of. open_again v (view' lg) c refl logged (change_still o old views log decided world k inside v is new w x moves in_pool right may room (store_change w (slice_index v.words w) x) lg c) of) v.changes open_fits.changes)
        (record { whole = refl; of = inl part })

    goes_on : (lg : Log) → LogFits (settled o log decided) (view' lg) (records_generation lg.phase (view' lg)) → EntriesFit (view' lg) → is_redoing lg.phase ≡ false → PhaseFits (Flies log decided k) (view' lg) lg.phase → ((u : ℕ) → is_logged v u ≡ true → is_logged (view' lg) u ≡ true)
        → World o new (with_view views k (view' lg)) log decided
    goes_on lg log_fits entries_fit quiet phase_fits logged =
        stored_world o old views log decided world k inside v is new w x moves in_pool right may room (store_change w (slice_index v.words w) x) lg
        (stored_fits o old views log decided world k inside v is new w x moves in_pool right may room (store_change w (slice_index v.words w) x) lg log_fits entries_fit
        (λ u again. absurd (false≢true (sym (none_redone (view' lg) u quiet) ∙ again))) phase_fits
        (subst (λ g. 1 ≤ g) (sym (generation lg)) mine.first_generation) (subst (λ g. g ≤ generation_limit) (sym (generation lg)) mine.last_generation))
        (λ n flying. absurd (none-some n (sym (ap (λ p. flight_in p v.number) open_) ∙ flying)))
        (λ u heap un. (
          (λ same. let b = area_bounds v.lane w (slot_part v.lane w part) in let b₀ = b.0 in let b₁ = b.1 in let lane = mine.lane.lane in
              ⊎_elim (λ (root : u ≡ 64). absurd (omega arith)) (λ (t : (512 + 1024 * o.lanes ≤ u) × (u < _)). let low = t.0 in absurd (omega arith)) heap.heap),
          in_log_before v (view' lg) u (logged u) (λ redone. absurd (false≢true (sym (none_redone v u (ap is_redoing open_)) ∙ redone))) un,
        ))

    -- the record is not whole yet
    grows : length slot + 1 < 8 → World o new (with_view views k (view' (in_phase (Open (slot ++ x ∷ []) pair) v.log))) log decided
    grows short =
        let lg : Log = in_phase (Open (slot ++ x ∷ []) pair) v.log in
        goes_on lg
        (subst (LogFits (settled o log decided) (view' lg)) (sym (generation lg)) (record {
          most = open_log.most;
          stored = λ s r there. let low = slice_get_within v.log.records s r there in slot_same s (λ same. absurd (omega arith)) ∙ open_log.stored s r there;
          each = λ s r there. let f = open_log.each s r there in record {
            some = f.some;
            most = f.most;
            each = λ i low. let e = f.each i low in record { own = e.own; known = known_more o old views log decided world k inside v is new w x moves in_pool may room (r.word + i) e.known; before = e.before };
          };
          once = open_log.once;
          stale = λ s u low. stale s u (subst (λ n. n ≤ s) (used-more slot pair x (view' lg)) low);
        }))
        (entries_stand lg tt refl refl tt) refl
        (record {
          undrawn = open_fits.undrawn;
          short = let size = length-append slot (x ∷ []) in omega (arith, size, short);
          stands = stands;
          changes = changes_fit lg (logged_same lg);
          short_pair = open_fits.short_pair;
          in_pairs = open_fits.in_pairs;
          pair_stands = pair_stands;
        })
        (logged_same lg)

    -- a word of the new record has no record yet, and is settled
    new_word : (i : ℕ) → i < length adds.next.old → RecordedWordFits (settled o log decided) v (adds.next.word + i) (slice_index adds.next.old i)
    new_word i low =
        let u : ℕ = adds.next.word + i in
        let can = adds.can.each i low in
        let under = writes_under o old k v u mine.locks can.own in
        let behind = world.sound.behind_areas under.0 u under.1 in
        let known = known-contained v u can.known (λ area. let b = (area_bounds v.lane u area).1 in let lane = mine.lane.lane in absurd (omega arith)) in
        record {
          own = can.own;
          known = known;
          before = sym can.present ∙ (sym (mine.picture.known u known) ∙ world.each_word u (guarded_lives o world.sound under.0 u under.1)
              (unlogged_before o old views log decided world k inside v is v u (or_from (is_logged v u) (is_redone v u) (unrecorded v u can.new) (none_redone v u (ap is_redoing open_)))
              (λ j low' other. let fits = world.each_lane j low' in false_from_ne_true (is_in_log (views j) u) (λ logged. other (one_writer o old j k u world.sound
              (writes_under o old j (views j) u fits.locks (in_log_written (settled o log decided) (views j) (records_generation (views j).log.phase (views j)) u fits.log fits.entries
              (ap (λ n. is_in_area n u) fits.lane.lane ∙ outside_behind o.lanes j u low' behind) logged)) under)))));
        }

    new_only : (s u : ℕ) (r : Recorded) → IsRecordAt v s r → covers r u ≡ true → covers adds.next u ≡ true → ⊥
    new_only s u r there of again =
        let t = and_parts (leb adds.next.word u) (ltb u (adds.next.word + length adds.next.old)) again in
        let low = leb-true adds.next.word u t.0 in let high = ltb-true u (adds.next.word + length adds.next.old) t.1 in
        let same : adds.next.word + (u - adds.next.word) ≡ u = omega arith in
        false≢true (sym (adds.can.each (u - adds.next.word) (omega arith)).new ∙ (ap (is_recorded v.log.records) same ∙ recorded-at v.log.records s u r there of))

    -- the record is whole
    completes : length slot + 1 ≡ 8 → World o new (with_view views k (view' (with_record v.log pair adds.next))) log decided
    completes last =
        let lg : Log = with_record v.log pair adds.next in
        let logged : (u : ℕ) → is_logged v u ≡ true → is_logged (view' lg) u ≡ true = λ u there. logged-longer (view' lg) 0 v.log.records (adds.next ∷ []) u (logged_same lg u there) in
        let size = length-append slot (x ∷ []) in
        let longer : length (v.log.records ++ adds.next ∷ []) ≡ length v.log.records + 1 = length-append v.log.records (adds.next ∷ []) in
        let more : (u : ℕ) → Contains v.known u → Contains (cond (is_held v w) (w ∷ v.known) v.known) u = known_more o old views log decided world k inside v is new w x moves in_pool may room in
        let spelled_now : undo_slot (view' v.log).words v.lane (length v.log.records) ≡ spelled (generation_of v) adds.next =
        let pool = world.sound.size in let words = mine.lane.size in let lane = mine.lane.lane in let free = adds.free in let set_size = length-set v.words w x in
        eight (view' v.log).words (slot ++ x ∷ []) (8 * slot_line v.lane (length v.log.records)) (omega (arith, size, last)) (omega (arith, pool, words, lane, free, set_size, inside)) (λ i low. stands i (omega (arith, size, last, low)))
        ∙ (adds.spells ∙ (ap (λ n. take n (spelled (generation_of v) adds.next)) last ∙ take_all 8 (spelled (generation_of v) adds.next) (let e = length-spelled (generation_of v) adds.next adds.can.most in omega (arith, e)))) in
        goes_on lg
        (subst (LogFits (settled o log decided) (view' lg)) (sym (generation lg)) (record {
          most = let free = adds.free in omega (arith, longer, free);
          stored = λ s r there. ⊎_elim
              (λ (before : slice_get v.log.records s ≡ Some r). let low = slice_get_within v.log.records s r before in slot_same s (λ same. absurd (omega arith)) ∙ open_log.stored s r before)
              (λ (t : (s ≡ length v.log.records) × (adds.next ≡ r)). ap (undo_slot (view' v.log).words v.lane) t.0 ∙ (spelled_now ∙ ap (spelled (generation_of v)) t.1))
              (get-push_cases v.log.records adds.next s r there);
          each = λ s r there. ⊎_elim
              (λ (before : slice_get v.log.records s ≡ Some r). let f = open_log.each s r before in let g : RecordFits (settled o log decided) (view' lg) r = record {
                some = f.some;
                most = f.most;
                each = λ i low. let e = f.each i low in record { own = e.own; known = more (r.word + i) e.known; before = e.before };
              } in g)
              (λ (t : (s ≡ length v.log.records) × (adds.next ≡ r)). subst (RecordFits (settled o log decided) (view' lg)) t.1 (record {
                some = adds.can.some;
                most = adds.can.most;
                each = λ i low. let e = new_word i low in record { own = e.own; known = more (adds.next.word + i) e.known; before = e.before };
              }))
              (get-push_cases v.log.records adds.next s r there);
          once = λ s other r q u there there' of of'. ⊎_elim
              (λ (before : slice_get v.log.records s ≡ Some r). ⊎_elim
              (λ (before' : slice_get v.log.records other ≡ Some q). open_log.once s other r q u before before' of of')
              (λ (t' : (other ≡ length v.log.records) × (adds.next ≡ q)). absurd (new_only s u r before of (ap (λ z. covers z u) t'.1 ∙ of')))
              (get-push_cases v.log.records adds.next other q there'))
              (λ (t : (s ≡ length v.log.records) × (adds.next ≡ r)). ⊎_elim
              (λ (before' : slice_get v.log.records other ≡ Some q). absurd (new_only other u q before' of' (ap (λ z. covers z u) t.1 ∙ of)))
              (λ (t' : (other ≡ length v.log.records) × (adds.next ≡ q)). t.0 ∙ sym t'.0)
              (get-push_cases v.log.records adds.next other q there'))
              (get-push_cases v.log.records adds.next s r there);
          stale = λ s u low. stale s u (omega (arith, longer, low));
        }))
        (entries_stand lg tt refl refl tt) refl
        (record {
          undrawn = open_fits.undrawn;
          short = omega arith;
          stands = λ i low. absurd (omega arith);
          changes = changes_fit lg logged;
          short_pair = open_fits.short_pair;
          in_pairs = open_fits.in_pairs;
          pair_stands = pair_stands;
        })
        logged

    pub stores_slot : World o new (with_view views k (view' (with_slot v.log (slot ++ x ∷ []) pair))) log decided
    stores_slot =
        let size = length-append slot (x ∷ []) in let most = open_fits.short in
        ⊎_elim (λ (short : length slot + 1 < 8). subst (λ lg. World o new (with_view views k (view' lg)) log decided) (sym (with_slot-short v.log (slot ++ x ∷ []) pair (omega (arith, size, short)))) (grows short))
        (λ (whole : 8 ≤ length slot + 1).
        let last : length slot + 1 ≡ 8 = omega (arith, whole, most) in
        let spells : slot ++ x ∷ [] ≡ spelled (generation_of v) adds.next =
        adds.spells ∙ (ap (λ n. take n (spelled (generation_of v) adds.next)) last ∙ take_all 8 (spelled (generation_of v) adds.next) (let e = length-spelled (generation_of v) adds.next adds.can.most in omega (arith, e))) in
        subst (λ lg. World o new (with_view views k (view' lg)) log decided)
        (sym (ap (λ s. with_slot v.log s pair) spells ∙ with_slot-whole v.log (generation_of v) adds.next pair adds.can.some adds.can.most)) (completes last))
        (cases_lt (length slot + 1) 8)
