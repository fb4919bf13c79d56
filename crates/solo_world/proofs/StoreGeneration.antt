-- A store of the next generation: it ends a call that has drawn, or one that is given up.
use Rattle.std.proofs.Common.{◌≡◌, ◌≢◌, ℕ, zero, suc, ◌+◌, ◌-◌, ◌*◌, ◌^◌, ◌<◌, ◌≤◌, inl, ⊎_elim, Bool, true, false, List, [], ◌∷◌, ◌++◌, length, map, flat_map, slice_get, slice_index, Some, refl, sym, ap, ◌∙◌, subst, arith}
use Rattle.std.specs.List.{range_with_len}
use Rattle.std.proofs.lemmas.Bool.{and_parts, false≢true}
use Rattle.std.proofs.lemmas.List.Elements.{All-nil, All-push, All-same}
use Rattle.std.proofs.lemmas.Option.{none-some}
use Rattle.solo_view.specs.Area.{area_word, is_in_area, part_of}
use Rattle.solo_view.specs.Area.Part.{GenerationWord}
use Rattle.solo_view.specs.Changes.{store_change}
use Rattle.solo_view.specs.Counts.{MayCount, HasRoom}
use Rattle.solo_view.specs.Log.{Phase, Recorded, Final}
use Rattle.solo_view.specs.Log.Phase.{Open, Drawn, Retiring}
use Rattle.solo_view.specs.View.{View}
use Rattle.solo_view.specs.Views.{changed}
use Rattle.solo_world.specs.Course.{flight_in}
use Rattle.solo_world.specs.Entries.{is_entered, is_redoing, seal_in}
use Rattle.solo_world.specs.Fits.{RetiringChange, EndFits, LaneFits, LogFits, PhaseFits}
use Rattle.solo_world.specs.History.{Entry, Flies, settled}
use Rattle.solo_world.specs.Laws.{with_view}
use Rattle.solo_world.specs.Lawful.{EndsGeneration, GivesUp}
use Rattle.solo_world.specs.Memory.{Memory, Becomes}
use Rattle.solo_world.specs.Memory.Location.{PoolWord}
use Rattle.solo_world.specs.Opening.{Opening}
use Rattle.solo_world.specs.Records.{IsRecordAt, generation_of, finals_of, pool_entries, difference_of, records_generation, used_slots}
use Rattle.solo_world.specs.World.{Views, World}
use Rattle.solo_world.proofs.Exclusion.{writes_under}
use Rattle.solo_world.proofs.Frame.{in_phase}
use Rattle.solo_world.proofs.Pairs.{in_log_before, no_entries}
use Rattle.solo_world.proofs.Parts.{generation_part}
use Rattle.solo_world.proofs.Recoursed.{logged_upto}
use Rattle.solo_world.proofs.Stored.{IsPlainWord, other_word, this_word, log_beside, stored_fits, stored_world}
use Rattle.solo_world.proofs.StoreWord.{drained_more}
use Rattle.solo_world.proofs.Worlds.{own}

range_same : (words others : List ℕ) (from n : ℕ) → ((i : ℕ) → i < n → slice_index others (from + i) ≡ slice_index words (from + i))
    → map (λ w. record { word = w; mask = 2 ^ 64 - 1; bits = slice_index others w; ors = false }) (range_with_len from n) ≡ map (λ (w : ℕ). let f : Final = record { word = w; mask = 2 ^ 64 - 1; bits = slice_index words w; ors = false } in f) (range_with_len from n)
range_same words others from zero same = refl
range_same words others from (suc n) same =
    let here : slice_index others from ≡ slice_index words from = subst (λ u. slice_index others u ≡ slice_index words u) (let e : from + 0 ≡ from = omega arith in e) (same 0 (omega arith)) in
    λ i. record { word = from; mask = 2 ^ 64 - 1; bits = here i; ors = false } ∷ range_same words others (from + 1) n (λ j low. subst (λ u. slice_index others u ≡ slice_index words u) (let e : from + (j + 1) ≡ from + 1 + j = omega arith in e) (same (j + 1) (omega arith))) i

-- the difference is the same where the recorded words are
pub difference_same : (words others : List ℕ) (records : List Recorded) → ((slot : ℕ) (r : Recorded) (i : ℕ) → slice_get records slot ≡ Some r → i < length r.old → slice_index others (r.word + i) ≡ slice_index words (r.word + i))
    → flat_map (finals_of others) records ≡ flat_map (finals_of words) records
difference_same words others [] same = refl
difference_same words others (r ∷ records) same =
    λ i. range_same words others r.word (length r.old) (λ j low. same 0 r j refl low) i ++ difference_same words others records (λ slot q j there low. same (suc slot) q j there low) i

module _ (o : Opening) (old : Memory) (views : Views) (log : List Entry) (decided : ℕ → Bool) (world : World o old views log decided) (k : ℕ) (inside : k < o.lanes) (v : View) (is : views k ≡ v)
    (new : Memory) (w x : ℕ) (moves : Becomes (PoolWord w) x old new) (in_pool : w < length v.words) (may : MayCount v) (room : HasRoom v.changes) where
  mine : LaneFits o old (settled o log decided) (Flies log decided k) k v
  mine = own o old views log decided world k inside v is

  module _ (part : part_of v.lane w ≡ GenerationWord) (ends : EndsGeneration v x) (first : (phase : Phase) → v.log.phase ≡ phase → (records_generation phase v ≡ generation_of v) × (used_slots phase v ≡ length v.log.records) × (seal_in phase v ≡ 0)) where
    at : (is_in_area v.lane w ≡ true) × (w ≡ area_word v.lane)
    at = generation_part v.lane w part

    right : IsPlainWord v w
    right = inl at.0

    abbrev view' : View
    view' = changed v w x (store_change w (slice_index v.words w) x) (in_phase Retiring v.log)

    others : (u : ℕ) → u ≢ w → slice_index view'.words u ≡ slice_index v.words u
    others = other_word o old views log decided world k inside v is new w x moves in_pool may room

    now : generation_of view' ≡ x
    now = ap (slice_index view'.words) (sym at.1) ∙ this_word o old views log decided world k inside v is new w x moves in_pool may room

    -- a recorded word is none of the area
    recorded_word : (slot : ℕ) (r : Recorded) (i : ℕ) → IsRecordAt v slot r → i < length r.old → slice_index view'.words (r.word + i) ≡ slice_index v.words (r.word + i)
    recorded_word slot r i there low = others (r.word + i) (λ same.
        let under = writes_under o old k v (r.word + i) mine.locks ((mine.log.each slot r there).each i low).own in
        let behind = world.sound.behind_areas under.0 (r.word + i) under.1 in let lane = mine.lane.lane in let here = at.1 in absurd (omega arith))

    same_difference : difference_of view' ≡ difference_of v
    same_difference = ap (λ difference. difference ++ pool_entries v) (difference_same v.words view'.words v.log.records recorded_word)

    retires : EndFits (Flies log decided k) view' v.number → ((n : ℕ) → flight_in v.log.phase v.number ≡ Some n → v.number ≡ Some n)
        → World o new (with_view views k view') log decided
    retires end flies =
        let here = at.1 in let lane = mine.lane.lane in
        let is_next = ends.next in let below = ends.below in let is_now = now in
        let t = first v.log.phase refl in
        let before : LogFits (settled o log decided) v (generation_of v) = subst (LogFits (settled o log decided) v) t.0 mine.log in
        let earlier : generation_of v ≡ generation_of view' - 1 = omega arith in
        stored_world o old views log decided world k inside v is new w x moves in_pool right may room (store_change w (slice_index v.words w) x) (in_phase Retiring v.log)
        (stored_fits o old views log decided world k inside v is new w x moves in_pool right may room (store_change w (slice_index v.words w) x) (in_phase Retiring v.log)
        (subst (LogFits (settled o log decided) view') earlier
        (log_beside o old views log decided world k inside v is new w x moves in_pool may room (store_change w (slice_index v.words w) x) Retiring (generation_of v) (λ s low. inl (omega arith)) (sym t.1) before))
        (no_entries v view' ends.unentered (others (area_word v.lane + 1) (λ same. absurd (omega arith))) (mine.entries.seal ∙ t.2) ends.unentered)
        (λ u again. absurd (false≢true again))
        (record {
          changes = All-push (RetiringChange view') v.changes (store_change w (slice_index v.words w) x) (All-same (RetiringChange view') v.changes [] ends.drained (All-nil (RetiringChange view')))
              (record { whole = refl; of = here; before = let e = ap (slice_index v.words) here in omega arith });
          ends = end;
        })
        (omega arith) (omega arith))
        flies
        (λ u heap un. (
          (λ same. ⊎_elim (λ (root : u ≡ 64). absurd (omega arith)) (λ (t : (512 + 1024 * o.lanes ≤ u) × (u < _)). let low = t.0 in absurd (omega arith)) heap.heap),
          in_log_before v view' u
              (logged_upto v view' 0 v.log.records (λ s low. drained_more v.lane s v.changes (store_change w (slice_index v.words w) x) (λ same. absurd (omega arith))) u)
              (λ redone. absurd (false≢true (sym (ap (λ fs. is_entered fs u) ends.unentered) ∙ (and_parts (is_redoing v.log.phase) (is_entered v.log.entries u) redone).1))) un,
        ))

  -- after the draw
  pub stores_generation : v.log.phase ≡ Drawn → part_of v.lane w ≡ GenerationWord → EndsGeneration v x → World o new (with_view views k (changed v w x (store_change w (slice_index v.words w) x) (in_phase Retiring v.log))) log decided
  stores_generation e part ends =
      let fits = subst (PhaseFits (Flies log decided k) v) e mine.phase in
      let first : (phase : Phase) → v.log.phase ≡ phase → (records_generation phase v ≡ generation_of v) × (used_slots phase v ≡ length v.log.records) × (seal_in phase v ≡ 0) =
      λ phase is_phase. subst (λ p. (records_generation p v ≡ generation_of v) × (used_slots p v ≡ length v.log.records) × (seal_in p v ≡ 0)) (sym e ∙ is_phase) (refl, refl, refl) in
      retires part ends first
      (subst (EndFits (Flies log decided k) (view' part ends first)) (sym fits.drawn) (subst (Flies log decided k fits.number) (sym (same_difference part ends first)) fits.flying))
      (λ n flying. sym (ap (λ p. flight_in p v.number) e) ∙ flying)

  -- of a call that is given up
  pub stores_last : (slot pair : List ℕ) → v.log.phase ≡ Open slot pair → part_of v.lane w ≡ GenerationWord → GivesUp v x slot pair → World o new (with_view views k (changed v w x (store_change w (slice_index v.words w) x) (in_phase Retiring v.log))) log decided
  stores_last slot pair e part gives =
      let fits = subst (PhaseFits (Flies log decided k) v) e mine.phase in
      let whole : v.log.phase ≡ Open [] pair = e ∙ ap (λ s. Open s pair) gives.whole in
      let first : (phase : Phase) → v.log.phase ≡ phase → (records_generation phase v ≡ generation_of v) × (used_slots phase v ≡ length v.log.records) × (seal_in phase v ≡ 0) =
      λ phase is_phase. subst (λ p. (records_generation p v ≡ generation_of v) × (used_slots p v ≡ length v.log.records) × (seal_in p v ≡ 0)) (sym whole ∙ is_phase) (refl, refl, refl) in
      retires part gives.ends first
      (subst (EndFits (Flies log decided k) (view' part gives.ends first)) (sym fits.undrawn) (λ s r i there low. recorded_word part gives.ends first s r i there low ∙ gives.restored s r i there low))
      (λ n flying. absurd (none-some n (sym (ap (λ p. flight_in p v.number) e) ∙ flying)))
