-- A store of the seal: it seals the entries, or clears the seal once all of them are applied.
use Rattle.std.proofs.Common.{◌≡◌, ◌≢◌, ℕ, ◌+◌, ◌*◌, ◌<◌, ◌≤◌, inl, ⊎_elim, Bool, true, IsTrue, All, List, [], ◌++◌, length, drop, slice_index, Some, refl, sym, ap, ◌∙◌, subst, arith, eq-eqb, ◌^◌}
use Rattle.std.proofs.lemmas.Bool.{and_parts, and_from, cond-true, false≢true}
use Rattle.std.proofs.lemmas.List.Elements.{All-nil, All-push, All-same}
use Rattle.std.proofs.lemmas.Option.{none-some}
use Rattle.solo_view.specs.Area.{area_word, is_in_area, part_of}
use Rattle.solo_view.specs.Area.Part.{SealWord}
use Rattle.solo_view.specs.Changes.{store_change}
use Rattle.solo_view.specs.Counts.{MayCount, HasRoom}
use Rattle.solo_view.specs.Log.{Phase}
use Rattle.solo_view.specs.Log.Phase.{Drawn, Sealing, Applying, Clearing}
use Rattle.solo_view.specs.Rights.{is_written}
use Rattle.solo_view.specs.View.{View}
use Rattle.solo_view.specs.Views.{changed}
use Rattle.solo_world.specs.Course.{flight, flight_in}
use Rattle.solo_world.specs.Entries.{AreWhole, HasNone, applied_in, is_entered, is_redoing, is_redone, seal_in, KnowsOrs, IsGrowing}
use Rattle.solo_world.specs.Fits.{ApplyingFits, DrawnFits, SealChange, LaneFits, LogFits, PhaseFits, RedoneWord}
use Rattle.solo_world.specs.History.{Entry, Flies, settled, made_final}
use Rattle.solo_world.specs.Laws.{with_view}
use Rattle.solo_world.specs.Lawful.{ClearsSeal, SealsEntries, generation_limit}
use Rattle.solo_world.specs.Memory.{Memory, Becomes}
use Rattle.solo_world.specs.Memory.Location.{PoolWord}
use Rattle.solo_world.specs.Opening.{Opening}
use Rattle.solo_world.specs.Records.{generation_of, pool_entries, difference_of, records_generation, used_slots}
use Rattle.solo_world.specs.World.{Views, World}
use Rattle.solo_world.proofs.Exclusion.{writes_under}
use Rattle.solo_world.proofs.Frame.{in_phase}
use Rattle.solo_world.proofs.Locations.{other_pool}
use Rattle.solo_world.proofs.Pairs.{in_log_before, none_redone, or_written}
use Rattle.solo_world.proofs.Parts.{seal_part}
use Rattle.solo_world.proofs.Recoursed.{logged_upto}
use Rattle.solo_world.proofs.Stored.{IsPlainWord, other_word, this_word, log_beside, entries_beside, stored_fits, stored_world, known_more}
use Rattle.solo_world.proofs.StoreGeneration.{difference_same}
use Rattle.solo_world.proofs.StoreWord.{drained_more}
use Rattle.solo_world.proofs.Worlds.{own}

module _ (o : Opening) (old : Memory) (views : Views) (log : List Entry) (decided : ℕ → Bool) (world : World o old views log decided) (k : ℕ) (inside : k < o.lanes) (v : View) (is : views k ≡ v)
    (new : Memory) (w x : ℕ) (moves : Becomes (PoolWord w) x old new) (in_pool : w < length v.words) (may : MayCount v) (room : HasRoom v.changes) where
  mine : LaneFits o old (settled o log decided) (Flies log decided k) k v
  mine = own o old views log decided world k inside v is

  module _ (part : part_of v.lane w ≡ SealWord) where
    at : (is_in_area v.lane w ≡ true) × (w ≡ area_word v.lane + 1)
    at = seal_part v.lane w part

    right : IsPlainWord v w
    right = inl at.0

    abbrev view' : Phase → View
    view' phase = changed v w x (store_change w (slice_index v.words w) x) (in_phase phase v.log)

    others : (u : ℕ) → u ≢ w → slice_index (view' v.log.phase).words u ≡ slice_index v.words u
    others = other_word o old views log decided world k inside v is new w x moves in_pool may room

    now : slice_index (view' v.log.phase).words (area_word v.lane + 1) ≡ x
    now = ap (slice_index (view' v.log.phase).words) (sym at.1) ∙ this_word o old views log decided world k inside v is new w x moves in_pool may room

    generation : generation_of (view' v.log.phase) ≡ generation_of v
    generation = others (area_word v.lane) (λ same. let here = at.1 in absurd (omega arith))

    -- what the lane writes is none of its area
    own_other : (u : ℕ) → IsTrue (is_written v u) → u ≢ w
    own_other u own_word same =
        let under = writes_under o old k v u mine.locks own_word in
        let behind = world.sound.behind_areas under.0 u under.1 in let lane = mine.lane.lane in let here = at.1 in absurd (omega arith)

    -- what it knows it knows still
    knows_still : (IsGrowing v.log.phase → ⊥) → (phase : Phase) → KnowsOrs v → KnowsOrs (view' phase)
    knows_still quiet phase knows u or =
        let t = knows u or in (
          record {
            known = known_more o old views log decided world k inside v is new w x moves in_pool may room u t.0.known;
            small = subst (λ n. n < 2 ^ 64) (sym (others u (own_other u (or_written v u mine.entries quiet or)))) t.0.small;
          },
          t.1,
        )

    same_difference : (phase : Phase) → difference_of (view' phase) ≡ difference_of v
    same_difference phase = ap (λ difference. difference ++ pool_entries v) (difference_same v.words (view' phase).words v.log.records
        (λ slot r i there low. others (r.word + i) (own_other (r.word + i) ((mine.log.each slot r there).each i low).own)))

    seal_change : (phase : Phase) (before : ℕ) → v.changes ≡ [] → seal_in v.log.phase v ≡ before → All (SealChange (view' phase) before) (view' phase).changes
    seal_change phase before drained sealed =
        All-push (SealChange (view' phase) before) v.changes (store_change w (slice_index v.words w) x) (All-same (SealChange (view' phase) before) v.changes [] drained (All-nil (SealChange (view' phase) before)))
        (record { whole = refl; of = at.1; before = ap (slice_index v.words) at.1 ∙ (mine.entries.seal ∙ sealed) })

    -- the world then, from what the phases say
    turns : (IsGrowing v.log.phase → ⊥) → (phase : Phase) → used_slots phase (view' phase) ≡ used_slots v.log.phase v → records_generation phase (view' phase) ≡ records_generation v.log.phase v → x ≡ seal_in phase (view' phase)
        → HasNone phase (view' phase) → ((u : ℕ) → IsTrue (is_redone (view' phase) u) → IsTrue (is_written v u) → RedoneWord new (settled o log decided) (view' phase) u)
        → PhaseFits (Flies log decided k) (view' phase) phase → ((n : ℕ) → flight v ≡ Some n → flight (view' phase) ≡ Some n) → ((u : ℕ) → is_redone v u ≡ true → is_redone (view' phase) u ≡ true)
        → World o new (with_view views k (view' phase)) log decided
    turns quiet phase used records seal none redone fits flies redoes =
        let here = at.1 in let lane = mine.lane.lane in
        stored_world o old views log decided world k inside v is new w x moves in_pool right may room (store_change w (slice_index v.words w) x) (in_phase phase v.log)
        (stored_fits o old views log decided world k inside v is new w x moves in_pool right may room (store_change w (slice_index v.words w) x) (in_phase phase v.log)
        (subst (LogFits (settled o log decided) (view' phase)) (sym records)
        (log_beside o old views log decided world k inside v is new w x moves in_pool may room (store_change w (slice_index v.words w) x) phase (records_generation v.log.phase v) (λ s low. inl (omega arith)) used mine.log))
        (entries_beside o old views log decided world k inside v is new w x moves in_pool may room (store_change w (slice_index v.words w) x) phase (λ grows. absurd (quiet grows)) (inl (omega arith)) (now ∙ seal) none)
        redone fits
        (subst (λ g. 1 ≤ g) (sym generation) mine.first_generation) (subst (λ g. g ≤ generation_limit) (sym generation) mine.last_generation))
        flies
        (λ u heap un. (
          (λ same. ⊎_elim (λ (root : u ≡ 64). absurd (omega arith)) (λ (t : (512 + 1024 * o.lanes ≤ u) × (u < _)). let low = t.0 in absurd (omega arith)) heap.heap),
          in_log_before v (view' phase) u
              (logged_upto v (view' phase) 0 v.log.records (λ s low. drained_more v.lane s v.changes (store_change w (slice_index v.words w) x) (λ same. absurd (omega arith))) u)
              (redoes u) un,
        ))

  -- after the draw
  pub stores_seal : v.log.phase ≡ Drawn → part_of v.lane w ≡ SealWord → SealsEntries v x → World o new (with_view views k (changed v w x (store_change w (slice_index v.words w) x) (in_phase Sealing v.log))) log decided
  stores_seal e part adds =
      let fits : DrawnFits (Flies log decided k) v = subst (PhaseFits (Flies log decided k) v) e mine.phase in
      let is_same = generation part in
      turns part (λ grows. subst IsGrowing e grows) Sealing (sym (ap (λ p. used_slots p v) e)) (is_same ∙ sym (ap (λ p. records_generation p v) e)) adds.all tt
      (λ u again. absurd (false≢true again))
      (record {
        number = fits.number;
        drawn = fits.drawn;
        flying = subst (Flies log decided k fits.number) (sym (same_difference part Sealing)) fits.flying;
        changes = seal_change part Sealing 0 adds.drained (ap (λ p. seal_in p v) e);
        whole = let whole = subst (λ g. AreWhole v (g + 1)) (sym is_same) adds.whole in record { front = whole.front; are = whole.are; owned = whole.owned };
        known = knows_still part (λ grows. subst IsGrowing e grows) Sealing adds.known;
        below = subst (λ g. g < generation_limit) (sym is_same) adds.below;
      })
      (λ n flying. sym (ap (λ p. flight_in p v.number) e) ∙ flying)
      (λ u redone. absurd (false≢true (sym (none_redone v u (ap is_redoing e)) ∙ redone)))

  module _ (applied : ℕ) (e : v.log.phase ≡ Applying applied) (part : part_of v.lane w ≡ SealWord) (adds : ClearsSeal v x applied) where
    fits : ApplyingFits v applied
    fits = subst (PhaseFits (Flies log decided k) v) e mine.phase

    ended : records_generation (Applying applied) v ≡ generation_of v
    ended = cond-true _ (generation_of v) (generation_of v + 1) (eq-eqb applied (length v.log.entries) adds.all)

    redone_still : (u : ℕ) → IsTrue (is_redone (view' part Clearing) u) → IsTrue (is_written v u) → RedoneWord new (settled o log decided) (view' part Clearing) u
    redone_still u again own_word =
        let before = mine.redone u (and_from (is_redoing v.log.phase) (is_entered v.log.entries u) (ap is_redoing e) again) own_word in
        let word : new (PoolWord u) ≡ old (PoolWord u) = moves.0 (PoolWord u) (other_pool u w (own_other part u own_word)) in
        let all : length v.log.entries ≡ applied_in v.log.phase v = sym adds.all ∙ sym (ap (λ p. applied_in p v) e) in
        record { again = before.again; rest = (λ i. made_final (drop (all i) v.log.entries) u (word i)) ∙ before.rest }

    pub clears_seal : World o new (with_view views k (changed v w x (store_change w (slice_index v.words w) x) (in_phase Clearing v.log))) log decided
    clears_seal =
        let is_same = generation part in
        turns part (λ grows. subst IsGrowing e grows) Clearing (sym (ap (λ p. used_slots p v) e)) (is_same ∙ sym (ap (λ p. records_generation p v) e ∙ ended)) adds.zero tt
        redone_still
        (record {
          no_records = fits.no_records;
          changes = seal_change part Clearing (length v.log.entries) adds.drained (ap (λ p. seal_in p v) e);
          whole = let whole = subst (AreWhole v) (ended ∙ sym is_same) fits.whole in record { front = whole.front; are = whole.are; owned = whole.owned };
          known = knows_still part (λ grows. subst IsGrowing e grows) Clearing fits.known;
        })
        (λ n flying. absurd (none-some n (sym (ap (λ p. flight_in p v.number) e) ∙ flying)))
        (λ u redone. (and_parts (is_redoing v.log.phase) (is_entered v.log.entries u) redone).1)
