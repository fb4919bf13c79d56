-- An entry takes effect while the entries are applied, the lane's generation being the last: a store, an OR or an AND.
use Rattle.std.proofs.Common.{◌≡◌, ◌≢◌, ℕ, zero, suc, ◌+◌, ◌*◌, ◌<◌, ◌≤◌, ◌⊎◌, inl, inr, ⊎_elim, Bool, true, false, eqb, IsTrue, All, List, [], ◌∷◌, ◌++◌, length, take, drop, slice_get, slice_index, Some, refl, sym, ap, ◌∙◌, subst, arith, eq-eqb, ne_eqb, length-append, drop-cons, get_or-set_same, get_or-set_other, ◌^◌, bit_or, bit_and, ◌&&◌, w64}
use Rattle.std.proofs.Math.Seq.{take-suc}
use Rattle.std.proofs.lemmas.Bool.{cases_eq, le-leb, lt-ltb, and_parts, and_from, cond-true, cond-false, or_cases, or_left, or_right, or_parts, eqb-true, false≢true}
use Rattle.std.proofs.lemmas.List.Elements.{All-contains, All-push, All-weaker}
use Rattle.std.proofs.lemmas.List.Folds.{Any-from_list_any, list_any-append, list_any_at}
use Rattle.std.proofs.lemmas.Nat.{and_le_r, or_lt}
use Rattle.std.proofs.lemmas.Nat.Bits.{bit_at_ones, bit_at-lt, bit_at_and}
use Rattle.std.proofs.lemmas.Option.{none-some, slice_get_within, get_or_from_slice_get}
use Rattle.std.specs.Int.{bit_at, bit_not}
use Rattle.pm_record.specs.declared.redo.Op.TheVariants.{Or, And}
use Rattle.solo_view.specs.declared.change.Change.{Change}
use Rattle.solo_view.specs.Area.{area_word, is_in_area}
use Rattle.solo_view.specs.Changes.{store_change, or_change, and_change}
use Rattle.solo_view.specs.Counts.{MayCount, HasRoom}
use Rattle.solo_view.specs.Log.{Final}
use Rattle.solo_view.specs.Log.Phase.{Applying}
use Rattle.solo_view.specs.Rights.{is_written}
use Rattle.solo_view.specs.View.{View}
use Rattle.solo_view.specs.Views.{changed}
use Rattle.pm_image.specs.Logs.{slot_line}
use Rattle.solo_view.specs.Bits.{with_bits, all_bits}
use Rattle.solo_world.specs.Course.{flight_in}
use Rattle.solo_world.specs.Entries.{AreWhole, applied_in, ends_with, is_entered, is_redoing, is_redone, seal_in, set_word, IsEntryAt, is_bit_entered, is_or_entered, IsKnownWord, KnowsOrs, final_by, IsGrowing}
use Rattle.solo_world.specs.Fits.{AppliedChange, ApplyingFits, LaneFits, LogFits, PhaseFits, RedoneWord, IsOfEntries}
use Rattle.solo_world.specs.History.{Entry, Flies, settled, made_final}
use Rattle.solo_world.specs.Laws.{with_view}
use Rattle.solo_world.specs.Lawful.{IsNextEntry, generation_limit}
use Rattle.solo_world.specs.Memory.{Memory, Becomes}
use Rattle.solo_world.specs.Memory.Location.{PoolWord}
use Rattle.solo_world.specs.Opening.{Opening}
use Rattle.solo_world.specs.Records.{generation_of, is_logged, records_generation, used_slots}
use Rattle.solo_world.specs.World.{Views, World}
use Rattle.solo_world.proofs.Differences.{with_all_bits}
use Rattle.solo_world.proofs.Exclusion.{writes_under}
use Rattle.solo_world.proofs.Frame.{in_phase}
use Rattle.solo_world.proofs.Locations.{other_pool}
use Rattle.solo_world.proofs.MadeBits.{or_makes, and_makes}
use Rattle.solo_world.proofs.Pairs.{in_log_before}
use Rattle.solo_world.proofs.Recoursed.{logged_upto}
use Rattle.solo_world.proofs.Stored.{IsPlainWord, other_word, this_word, log_beside, entries_beside, stored_fits, stored_world, known_more}
use Rattle.solo_world.proofs.StoreSlot.{get-push_cases}
use Rattle.solo_world.proofs.Worlds.{own}

-- the next element is the first of those behind, and the last of those before
drop_next : {X : Type 0} (xs : List X) (n : ℕ) (x : X) → slice_get xs n ≡ Some x → drop n xs ≡ x ∷ drop (n + 1) xs
drop_next xs n x at =
    let next : suc n ≡ n + 1 = omega arith in
    drop-cons xs n x (slice_get_within xs n x at) ∙ (λ i. get_or_from_slice_get xs n x x at i ∷ drop (next i) xs)

pub take_next : {X : Type 0} (xs : List X) (n : ℕ) (x : X) → slice_get xs n ≡ Some x → take (n + 1) xs ≡ take n xs ++ x ∷ []
take_next xs n x at =
    let next : n + 1 ≡ suc n = omega arith in
    ap (λ m. take m xs) next ∙ (take-suc xs n x (slice_get_within xs n x at) ∙ ap (λ y. take n xs ++ y ∷ []) (get_or_from_slice_get xs n x x at))

-- where the entry is applied already, the others make of any word what all make of what it was
made_next : (f : Final) (entries : List Final) (u y z : ℕ) → (u ≡ f.word → z ≡ with_bits f.mask f.bits y) → (u ≢ f.word → z ≡ y) → made_final (f ∷ entries) u y ≡ made_final entries u z
unfolding made_final
made_next f entries u y z here else_ =
    ⊎_elim (λ (this : u ≡ f.word). ap (made_final entries u) (cond-true _ _ _ (eq-eqb f.word u (sym this)) ∙ sym (here this)))
    (λ (other : u ≢ f.word). ap (made_final entries u) (cond-false _ _ _ (ne_eqb f.word u (λ same. other (sym same))) ∙ sym (else_ other)))
    (cases_eq u f.word)

-- an entry of the first ones is one of those before the others
pub entered_early : (n : ℕ) (front rest : List Final) (u : ℕ) → n ≤ length front → is_entered (take n (front ++ rest)) u ≡ true → is_entered front u ≡ true
entered_early zero front rest u low e = absurd (false≢true e)
entered_early (suc n) [] rest u low e = absurd (omega arith)
entered_early (suc n) (f ∷ front) rest u low e =
    ⊎_elim (λ (here : eqb f.word u ≡ true). or_left (eqb f.word u) (is_entered front u) here)
    (λ (later : is_entered (take n (front ++ rest)) u ≡ true). or_right (eqb f.word u) (is_entered front u) (entered_early n front rest u (omega arith) later))
    (or_cases (eqb f.word u) (is_entered (take n (front ++ rest)) u) e)

pub entered_owned : (v : View) (front : List Final) (u : ℕ) → All (λ (f : Final). IsTrue (is_written v f.word)) front → is_entered front u ≡ true → IsTrue (is_written v u)
entered_owned v front u owned e =
    let t = Any-from_list_any (λ (f : Final). eqb f.word u) front e in
    let f : Final = t.1 in
    subst (λ n. IsTrue (is_written v n)) (eqb-true f.word u t.4) (All-contains (λ (g : Final). IsTrue (is_written v g.word)) front f owned (t.0, t.2, t.3))

-- while an entry is to come the generation has not ended
pub unended : (v : View) (applied : ℕ) (f : Final) → IsEntryAt v applied f → records_generation (Applying applied) v ≡ generation_of v + 1
unended v applied f next =
    let low = slice_get_within v.log.entries applied f next in
    cond-false _ (generation_of v) (generation_of v + 1) (ne_eqb applied (length v.log.entries) (λ same. absurd (omega arith)))

-- the entry is of a word that the lane writes, or it is the last one, which ends the lane's generation
pub next_entry : (v : View) (applied : ℕ) (f : Final) → ApplyingFits v applied → IsEntryAt v applied f
    → (IsTrue (is_written v f.word) × (applied + 1 < length v.log.entries)) ⊎ ((f ≡ ends_with v (generation_of v + 1)) × (applied + 1 ≡ length v.log.entries))
next_entry v applied f fits next =
    let whole : AreWhole v (records_generation (Applying applied) v) = fits.whole in
    let last : Final = ends_with v (records_generation (Applying applied) v) in
    let size : length v.log.entries ≡ length whole.front + 1 = ap length whole.are ∙ length-append whole.front (last ∷ []) in
    ⊎_elim (λ (there : slice_get whole.front applied ≡ Some f).
    let inner = slice_get_within whole.front applied f there in
    let own_word : IsTrue (is_written v f.word) = subst (λ (g : Final). IsTrue (is_written v g.word)) (get_or_from_slice_get whole.front applied f f there) (whole.owned applied f inner) in
    inl (own_word, omega arith))
    (λ (t : (applied ≡ length whole.front) × (last ≡ f)). let place = t.0 in
    inr (sym t.1 ∙ ap (ends_with v) (unended v applied f next), omega arith))
    (get-push_cases whole.front last applied f (ap (λ fs. slice_get fs applied) (sym whole.are) ∙ next))

-- its effect on this word leaves the generation that the last entry sets
pub applied_generation : (v : View) (applied x : ℕ) (f : Final) (c : Change) → ApplyingFits v applied → IsEntryAt v applied f → f.word < length v.words → (f ≡ ends_with v (generation_of v + 1) → x ≡ generation_of v + 1)
    → (IsTrue (is_written v f.word) → area_word v.lane ≢ f.word)
    → records_generation (Applying (applied + 1)) (changed v f.word x c (in_phase (Applying (applied + 1)) v.log)) ≡ records_generation (Applying applied) v
applied_generation v applied x f c fits next inside ends apart =
    let v' : View = changed v f.word x c (in_phase (Applying (applied + 1)) v.log) in
    ⊎_elim (λ (t : IsTrue (is_written v f.word) × (applied + 1 < length v.log.entries)).
    let more = t.1 in
    cond-false _ (generation_of v') (generation_of v' + 1) (ne_eqb (applied + 1) (length v.log.entries) (λ all. absurd (omega arith)))
    ∙ (ap (λ g. g + 1) (get_or-set_other v.words f.word (area_word v.lane) x 0 (apart t.0)) ∙ sym (unended v applied f next)))
    (λ (t : (f ≡ ends_with v (generation_of v + 1)) × (applied + 1 ≡ length v.log.entries)).
    cond-true _ (generation_of v') (generation_of v' + 1) (eq-eqb (applied + 1) (length v.log.entries) t.1)
    ∙ (ap (λ (g : Final). slice_index v'.words g.word) (sym t.0) ∙ (get_or-set_same v.words f.word x 0 inside ∙ (ends t.0 ∙ sym (unended v applied f next)))))
    (next_entry v applied f fits next)

-- the word of an entry is one of them, whichever it is
listed_at : (entries : List Final) (i : ℕ) (f : Final) → slice_get entries i ≡ Some f → is_entered entries f.word ≡ true
listed_at entries i f at = list_any_at (λ (g : Final). eqb g.word f.word) entries i f (slice_get_within entries i f at) (ap (λ (g : Final). eqb g.word f.word) (get_or_from_slice_get entries i f f at) ∙ eq-eqb f.word f.word refl)

-- and so is each bit of its mask
pub bit_listed : (entries : List Final) (i j : ℕ) (f : Final) → slice_get entries i ≡ Some f → is_bit_entered entries f.word j ≡ false → bit_at f.mask j ≡ 0
bit_listed entries i j f at none =
    let bound = bit_at-lt f.mask j in
    ⊎_elim (λ (clear : bit_at f.mask j ≡ 0). clear)
    (λ (set : bit_at f.mask j ≢ 0).
    let one : bit_at f.mask j ≡ 1 = omega arith in
    absurd (false≢true (sym none ∙ list_any_at (λ (g : Final). eqb g.word f.word && eqb (bit_at g.mask j) 1) entries i f (slice_get_within entries i f at)
    (ap (λ (g : Final). eqb g.word f.word && eqb (bit_at g.mask j) 1) (get_or_from_slice_get entries i f f at) ∙ and_from (eqb f.word f.word) (eqb (bit_at f.mask j) 1) (eq-eqb f.word f.word refl) (eq-eqb (bit_at f.mask j) 1 one)))))
    (cases_eq (bit_at f.mask j) 0)

-- what an entry's effect is: what the memory then has, and the change
pub record Effects (v : View) (old : Memory) (f : Final) (x : ℕ) (c : Change) : Type 0 where
  pub makes : x ≡ with_bits f.mask f.bits (old (PoolWord f.word))
  pub word : c.word ≡ f.word
  pub bits : IsOfEntries v.log.entries c
  pub ends : f.word ≡ area_word v.lane → (c.mask ≡ all_bits) × (c.old ≡ slice_index v.words f.word)
  pub small : is_or_entered v.log.entries f.word ≡ true → x < 2 ^ 64

module _ (o : Opening) (old : Memory) (views : Views) (log : List Entry) (decided : ℕ → Bool) (world : World o old views log decided) (k : ℕ) (inside : k < o.lanes) (v : View) (is : views k ≡ v)
    (new : Memory) (x : ℕ) (applied : ℕ) (e : v.log.phase ≡ Applying applied) (f : Final) (next : IsEntryAt v applied f) (c : Change) (effect : Effects v old f x c)
    (moves : Becomes (PoolWord f.word) x old new) (in_pool : f.word < length v.words) (may : MayCount v) (room : HasRoom v.changes) where
  abbrev w : ℕ
  w = f.word

  mine : LaneFits o old (settled o log decided) (Flies log decided k) k v
  mine = own o old views log decided world k inside v is

  fits : ApplyingFits v applied
  fits = subst (PhaseFits (Flies log decided k) v) e mine.phase

  low : applied < length v.log.entries
  low = slice_get_within v.log.entries applied f next

  listed : is_entered v.log.entries w ≡ true
  listed = listed_at v.log.entries applied f next

  abbrev view' : View
  view' = changed v w x c (in_phase (Applying (applied + 1)) v.log)

  before : records_generation (Applying applied) v ≡ generation_of v + 1
  before = unended v applied f next

  -- a change of an applied entry's word is one still, and this is one
  applied_more : (u : ℕ) → is_entered (take applied v.log.entries) u ≡ true → is_entered (take (applied + 1) v.log.entries) u ≡ true
  applied_more u there = ap (λ fs. is_entered fs u) (take_next v.log.entries applied f next)
      ∙ (list_any-append (λ (g : Final). eqb g.word u) (take applied v.log.entries) (f ∷ []) ∙ or_left (is_entered (take applied v.log.entries) u) (is_entered (f ∷ []) u) there)

  applied_now : is_entered (take (applied + 1) v.log.entries) w ≡ true
  applied_now = ap (λ fs. is_entered fs w) (take_next v.log.entries applied f next)
      ∙ (list_any-append (λ (g : Final). eqb g.word w) (take applied v.log.entries) (f ∷ [])
      ∙ or_right (is_entered (take applied v.log.entries) w) (is_entered (f ∷ []) w) (or_left (eqb w w) false (eq-eqb w w refl)))

  -- the last entry is to come, so nothing undrained is of the generation
  not_yet : (u : ℕ) → is_entered (take applied v.log.entries) u ≡ true → u ≡ area_word v.lane → ⊥
  not_yet u there here =
      let whole : AreWhole v (records_generation (Applying applied) v) = fits.whole in
      let size : length v.log.entries ≡ length whole.front + 1 = ap length whole.are ∙ length-append whole.front (ends_with v (records_generation (Applying applied) v) ∷ []) in
      let less = low in
      let early : is_entered whole.front u ≡ true = entered_early applied whole.front (ends_with v (records_generation (Applying applied) v) ∷ []) u (omega arith) (ap (λ fs. is_entered (take applied fs) u) (sym whole.are) ∙ there) in
      let under = writes_under o old k v u mine.locks (entered_owned v whole.front u whole.owned early) in
      let behind = world.sound.behind_areas under.0 u under.1 in let lane = mine.lane.lane in omega arith

  redone_now : (u : ℕ) → IsTrue (is_redone view' u) → IsTrue (is_written v u) → RedoneWord new (settled o log decided) view' u
  redone_now u again own_word =
      let word = mine.redone u (and_from (is_redoing v.log.phase) (is_entered v.log.entries u) (ap is_redoing e) again) own_word in
      let rest : drop (applied_in v.log.phase v) v.log.entries ≡ f ∷ drop (applied + 1) v.log.entries = ap (λ p. drop (applied_in p v) v.log.entries) e ∙ drop_next v.log.entries applied f next in
      record {
        again = word.again;
        rest = sym (ap (λ fs. made_final fs u (old (PoolWord u))) rest
            ∙ made_next f (drop (applied + 1) v.log.entries) u (old (PoolWord u)) (new (PoolWord u))
            (λ this. ap (λ n. new (PoolWord n)) this ∙ (moves.1 ∙ (effect.makes ∙ ap (λ n. with_bits f.mask f.bits (old (PoolWord n))) (sym this)))) (λ other. moves.0 (PoolWord u) (other_pool u w other))) ∙ word.rest;
      }

  -- the world then, from where the word lies and what the generation is
  module _ (right : IsPlainWord v w) (pairs : (w < 520 + 1024 * v.lane) ⊎ (648 + 1024 * v.lane ≤ w)) (slots : (s : ℕ) → s < 64 → (w < 8 * slot_line v.lane s) ⊎ (8 * slot_line v.lane s + 8 ≤ w))
      (seal : area_word v.lane + 1 ≢ w) (now_next : w ≡ area_word v.lane → slice_index v.words w + 1 ≡ generation_of view') (generation : records_generation (Applying (applied + 1)) view' ≡ generation_of v + 1) (first : 1 ≤ generation_of view') (last : generation_of view' ≤ generation_limit) where
    changes_fit : All (AppliedChange view' (applied + 1)) view'.changes
    changes_fit = All-push (AppliedChange view' (applied + 1)) v.changes c
        (All-weaker (AppliedChange v applied) (AppliedChange view' (applied + 1)) (λ (d : Change) of. record { of = applied_more d.word of.of; bits = of.bits; next = λ at. absurd (not_yet d.word of.of at) }) v.changes fits.changes)
        (record {
          of = subst (λ u. is_entered (take (applied + 1) v.log.entries) u ≡ true) (sym effect.word) applied_now;
          bits = effect.bits;
          next = λ at. let here = sym effect.word ∙ at in let t = effect.ends here in (t.0, ap (λ n. n + 1) t.1 ∙ now_next here);
        })

    unlogged : (u : ℕ) → is_logged v u ≡ true → is_logged view' u ≡ true
    unlogged u = logged_upto v view' 0 v.log.records (λ s under. absurd (let none : length v.log.records ≡ 0 = ap length fits.no_records in omega arith)) u

    knows_still : KnowsOrs view'
    knows_still u or =
        let t = fits.known u or in (
          record {
            known = known_more o old views log decided world k inside v is new w x moves in_pool may room u t.0.known;
            small = ⊎_elim
                (λ (this : u ≡ w). subst (λ n. n < 2 ^ 64) (sym (ap (slice_index view'.words) this ∙ this_word o old views log decided world k inside v is new w x moves in_pool may room))
                (effect.small (ap (is_or_entered v.log.entries) (sym this) ∙ or)))
                (λ (other : u ≢ w). subst (λ n. n < 2 ^ 64) (sym (other_word o old views log decided world k inside v is new w x moves in_pool may room u other)) t.0.small) (cases_eq u w);
          },
          t.1,
        )

    applies : World o new (with_view views k view') log decided
    applies =
        let same_generation : records_generation (Applying (applied + 1)) view' ≡ records_generation (Applying applied) v = generation ∙ sym before in
        let now : records_generation (Applying (applied + 1)) view' ≡ records_generation v.log.phase v = same_generation ∙ sym (ap (λ p. records_generation p v) e) in
        stored_world o old views log decided world k inside v is new w x moves in_pool right may room c (in_phase (Applying (applied + 1)) v.log)
        (stored_fits o old views log decided world k inside v is new w x moves in_pool right may room c (in_phase (Applying (applied + 1)) v.log)
        (subst (LogFits (settled o log decided) view') (sym now)
        (log_beside o old views log decided world k inside v is new w x moves in_pool may room c (Applying (applied + 1)) (records_generation v.log.phase v) slots (sym (ap (λ p. used_slots p v) e)) mine.log))
        (entries_beside o old views log decided world k inside v is new w x moves in_pool may room c (Applying (applied + 1)) (λ grows. absurd (subst IsGrowing e grows)) pairs (other_word o old views log decided world k inside v is new w x moves in_pool may room (area_word v.lane + 1) seal ∙ (mine.entries.seal ∙ ap (λ p. seal_in p v) e)) tt)
        redone_now
        (record {
          no_records = fits.no_records;
          most = let less = low in omega arith;
          changes = changes_fit;
          whole = let whole = subst (AreWhole v) (sym same_generation) fits.whole in record { front = whole.front; are = whole.are; owned = whole.owned };
          known = knows_still;
          last = subst (λ g. g ≤ generation_limit) (sym same_generation) fits.last;
        })
        first last)
        (λ n flying. absurd (none-some n (sym (ap (λ p. flight_in p v.number) e) ∙ flying)))
        (λ u heap un. (
          (λ this. false≢true (sym (or_parts (is_logged view' u) (is_redone view' u) un).1 ∙ (ap (is_entered v.log.entries) this ∙ listed))),
          in_log_before v view' u (unlogged u) (λ redone. (and_parts (is_redoing v.log.phase) (is_entered v.log.entries u) redone).1) un,
        ))

  -- of a word that the lane writes
  applies_word : IsTrue (is_written v w) → applied + 1 < length v.log.entries → World o new (with_view views k view') log decided
  applies_word own_word more =
      let right : IsPlainWord v w = inr (inl own_word) in
      let under = writes_under o old k v w mine.locks own_word in
      let behind = world.sound.behind_areas under.0 w under.1 in let lane = mine.lane.lane in
      let same : generation_of view' ≡ generation_of v = other_word o old views log decided world k inside v is new w x moves in_pool may room (area_word v.lane) (λ this. absurd (omega arith)) in
      applies right (inr (omega arith)) (λ s under'. inr (omega arith)) (λ this. absurd (omega arith)) (λ this. absurd (omega arith))
      (cond-false _ (generation_of view') (generation_of view' + 1) (ne_eqb (applied + 1) (length v.log.entries) (λ all. absurd (omega arith))) ∙ ap (λ g. g + 1) same)
      (subst (λ g. 1 ≤ g) (sym same) mine.first_generation) (subst (λ g. g ≤ generation_limit) (sym same) mine.last_generation)

  -- of the lane's generation
  applies_generation : f ≡ ends_with v (generation_of v + 1) → applied + 1 ≡ length v.log.entries → World o new (with_view views k view') log decided
  applies_generation is_last all =
      let here : w ≡ area_word v.lane = ap (λ (g : Final). g.word) is_last in
      let is_next : x ≡ generation_of v + 1 = effect.makes ∙ (ap (λ (g : Final). with_bits g.mask g.bits (old (PoolWord g.word))) is_last ∙ with_all_bits (old (PoolWord (area_word v.lane))) (generation_of v + 1)) in
      let within : is_in_area v.lane w ≡ true = ap (is_in_area v.lane) here ∙ and_from _ _ (le-leb (area_word v.lane) (area_word v.lane) (omega arith)) (lt-ltb (area_word v.lane) (area_word v.lane + 1024) (omega arith)) in
      let right : IsPlainWord v w = inl within in
      let now : generation_of view' ≡ x = ap (slice_index view'.words) (sym here) ∙ this_word o old views log decided world k inside v is new w x moves in_pool may room in
      let most : generation_of v + 1 ≤ generation_limit = subst (λ g. g ≤ generation_limit) before fits.last in
      applies right (inl (omega arith)) (λ s under. inl (omega arith)) (λ this. absurd (omega arith))
      (λ this. ap (λ n. slice_index v.words n + 1) here ∙ (sym is_next ∙ sym now))
      (cond-true _ (generation_of view') (generation_of view' + 1) (eq-eqb (applied + 1) (length v.log.entries) all) ∙ (now ∙ is_next))
      (omega arith) (subst (λ g. g ≤ generation_limit) (sym (now ∙ is_next)) most)

  pub applies_entry : World o new (with_view views k view') log decided
  applies_entry = ⊎_elim (λ (t : IsTrue (is_written v w) × (applied + 1 < length v.log.entries)). applies_word t.0 t.1)
      (λ (t : (f ≡ ends_with v (generation_of v + 1)) × (applied + 1 ≡ length v.log.entries)). applies_generation t.0 t.1)
      (next_entry v applied f fits next)

-- a store is what an entry says that sets the word
module _ (o : Opening) (old : Memory) (views : Views) (log : List Entry) (decided : ℕ → Bool) (world : World o old views log decided) (k : ℕ) (inside : k < o.lanes) (v : View) (is : views k ≡ v)
    (new : Memory) (w x : ℕ) (moves : Becomes (PoolWord w) x old new) (in_pool : w < length v.words) (may : MayCount v) (room : HasRoom v.changes) where
  pub stores_entry : (applied : ℕ) → v.log.phase ≡ Applying applied → IsNextEntry v applied w x → World o new (with_view views k (changed v w x (store_change w (slice_index v.words w) x) (in_phase (Applying (applied + 1)) v.log))) log decided
  stores_entry applied e next =
      let mine = own o old views log decided world k inside v is in
      let fits : ApplyingFits v applied = subst (PhaseFits (Flies log decided k) v) e mine.phase in
      applies_entry o old views log decided world k inside v is new x applied e (set_word w x) next (store_change w (slice_index v.words w) x)
      (record {
        makes = sym (with_all_bits (old (PoolWord w)) x);
        word = refl;
        bits = record {
          mask = omega arith;
          bits = λ i small none. let clear = bit_listed v.log.entries applied i (set_word w x) next none in let set = bit_at_ones 64 i small in absurd (omega arith);
          small = λ or. (fits.known w or).0.small;
        };
        ends = λ here. (refl, refl);
        small = λ or.
            let fs : List Final = v.log.entries in
            let f : Final = set_word w x in
            subst (λ (g : Final). g.word ≡ w → g.bits < 2 ^ 64) (get_or_from_slice_get fs applied f f next) ((fits.known w or).1 applied f (slice_get_within fs applied f next)) refl;
      })
      moves in_pool may room

-- an OR and an AND are what entries say that set or clear those bits of the word
module _ (o : Opening) (old : Memory) (views : Views) (log : List Entry) (decided : ℕ → Bool) (world : World o old views log decided) (k : ℕ) (inside : k < o.lanes) (v : View) (is : views k ≡ v)
    (new : Memory) (w bits found : ℕ) (finds : found ≡ old (PoolWord w)) (in_pool : w < length v.words) (may : MayCount v) (room : HasRoom v.changes) (known : IsKnownWord v w) (word : bits < 2 ^ 64) where
  own_fits : LaneFits o old (settled o log decided) (Flies log decided k) k v
  own_fits = own o old views log decided world k inside v is

  small : found < 2 ^ 64
  small = subst (λ n. n < 2 ^ 64) (sym (finds ∙ own_fits.picture.known w known.known)) known.small

  module _ (no_generation : w ≡ area_word v.lane → ⊥) (applied : ℕ) (e : v.log.phase ≡ Applying applied) where
    pub sets_bits : Becomes (PoolWord w) (bit_or found bits) old new → (ors : Bool) → IsEntryAt v applied (record (final_by Or w bits) { ors = ors }) → World o new (with_view views k (changed v w (bit_or found bits) (or_change w bits found) (in_phase (Applying (applied + 1)) v.log))) log decided
    sets_bits moves ors next =
        applies_entry o old views log decided world k inside v is new (bit_or found bits) applied e (record (final_by Or w bits) { ors = ors }) next (or_change w bits found)
        (record {
          makes = or_makes bits found word small ∙ ap (with_bits bits bits) finds;
          word = refl;
          bits = record {
            mask = word;
            bits = λ i under none.
                let clear = bit_listed v.log.entries applied i (record (final_by Or w bits) { ors = ors }) next none in
                let both = bit_at_and found bits i in
                (clear, omega arith);
            small = λ or. let least = and_le_r found bits in omega arith;
          };
          ends = λ here. absurd (no_generation here);
          small = λ or. or_lt 64 found bits small word;
        })
        moves in_pool may room

    pub clears_bits : Becomes (PoolWord w) (bit_and found bits) old new → (ors : Bool) → IsEntryAt v applied (record (final_by And w bits) { ors = ors }) → World o new (with_view views k (changed v w (bit_and found bits) (and_change w bits found) (in_phase (Applying (applied + 1)) v.log))) log decided
    clears_bits moves ors next =
        applies_entry o old views log decided world k inside v is new (bit_and found bits) applied e (record (final_by And w bits) { ors = ors }) next (and_change w bits found)
        (record {
          makes = and_makes bits found word ∙ ap (with_bits (bit_not w64 bits) 0) finds;
          word = refl;
          bits = record {
            mask = omega arith;
            bits = λ i under none.
                let clear = bit_listed v.log.entries applied i (record (final_by And w bits) { ors = ors }) next none in
                let both = bit_at_and found (bit_not w64 bits) i in
                (clear, omega arith);
            small = λ or. let least = and_le_r found (bit_not w64 bits) in omega arith;
          };
          ends = λ here. absurd (no_generation here);
          small = λ or. let least = and_le_r found bits in omega arith;
        })
        moves in_pool may room
