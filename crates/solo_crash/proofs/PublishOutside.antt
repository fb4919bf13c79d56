-- A publish outside of a transaction: it answers as the plain model's, by what the lane holds of all that is pending, or is refused, which changes nothing; and of words
-- alone, with an entry for each, it is a whole call.
use Rattle.std.proofs.Common.{◌≡◌, ◌≢◌, ⊎_elim, ℕ, ◌≤◌, Bool, true, false, cond, leb, List, [], ◌∷◌, ◌++◌, length, get_or, Option, Some, None, refl, sym, ◌∙◌, ap, subst, arith}
use Rattle.std.specs.List.{All, find, list_any}
use Rattle.std.specs.Option.{option_map}
use Rattle.std.proofs.lemmas.Bool.{and_from, and_right, cases_Bool, le-leb}
use Rattle.std.proofs.lemmas.List.Elements.{All-nil, Contains-get_or}
use Rattle.std.proofs.lemmas.List.Folds.{list_any_none}
use Rattle.pm_header.specs.declared.header.Header.{Header}
use Rattle.pm_objects.specs.declared.calls.Operation.{Operation}
use Rattle.pm_objects.specs.declared.calls.Operation.TheVariants.{Publish}
use Rattle.pm_objects.specs.declared.calls.Want.{Want}
use Rattle.pm_objects.specs.declared.history.Value.{Value}
use Rattle.pm_objects.specs.declared.history.Value.TheVariants.{Refused}
use Rattle.pm_objects.specs.declared.ids.Oid.{Oid}
use Rattle.pm_objects.specs.declared.pool.PoolView.{PoolView}
use Rattle.pm_objects.specs.declared.refusal.Refusal.{Refusal}
use Rattle.pm_objects.specs.declared.refusal.Refusal.TheVariants as refusal
use Rattle.pm_image.specs.Blocks.{blocks}
use Rattle.pm_image.specs.Contents.{size_in}
use Rattle.solo_model.specs.Actions.{Action, Pending, none_pending, only_sets, passes_object, wants_pending, with_actions}
use Rattle.solo_model.specs.Answers.{StandsOnceDone, changes_nothing}
use Rattle.solo_model.specs.Checks.{frees_listed, frees_root, is_listed, is_root}
use Rattle.solo_model.specs.Outside.{AnswersOutside, AreNamed, Outside, as_resting, names_missing, names_no_place, refusal_outside}
use Rattle.solo_model.specs.Places.{has_place}
use Rattle.solo_model.specs.Transaction.{resting}
use Rattle.solo_model.proofs.Alike.{stands_plain}
use Rattle.solo_view.specs.View.{View}
use Rattle.solo_world.specs.History.{made_final}
use Rattle.solo_crash.specs.CallBlocks.{AgreesOnRoot, AllTellOfRoot, CallBlocks, FreeNoRoot, MayPrecede, TellsOfRoot, allocated_in, allocated_told, blocks_in, blocks_told, no_blocks}
use Rattle.solo_crash.specs.Held.{HoldsPool}
use Rattle.solo_crash.specs.OnActions.{CanSet, HoldsNamed, IsOutsideReason, PublishesOutside, RefusesOutside}
use Rattle.solo_crash.specs.OpenCall.{IsBefore, IsWholeCall, LeavesFree, MakesItsStep, call_words, made_words}
use Rattle.solo_crash.specs.Pending.{pending_before, sets_before}
use Rattle.solo_crash.specs.Performing.{performed}
use Rattle.solo_crash.proofs.ActionsOutside.{alone_step, answers_outside, found_missing, goes_whole, none_recorded, outside_of, outside_with, refused_outside, ChangesAlone, GoesFrom}
use Rattle.solo_crash.proofs.Begun.{no_call_words, none_fails, wanted_has_place, wanted_is_there}
use Rattle.solo_crash.proofs.CallBlocks.{first_agrees, room_for_none}
use Rattle.solo_crash.proofs.CallWords.{object_found}
use Rattle.solo_crash.proofs.FreeChecks.{held_unlisted}
use Rattle.solo_crash.proofs.NamedObjects.{all_perform, none_passes_end, one_passes_end, FindsObjects}
use Rattle.solo_crash.proofs.Passing.{only_plain}
use Rattle.solo_crash.proofs.Performed.{Performs, performs}
use Rattle.solo_crash.proofs.PublishChecks.{none_is_root, one_is_root}

-- ---- the checks

-- the first refusal, by what the checks of places, of missing objects, of what is gone, of the root, of lists and of ends say
first_of_publish : Bool → Bool → Bool → Bool → Bool → Bool → Option Refusal
first_of_publish no_place missing late of_root listed past = option_map (λ (check : Refusal × Bool). check.0) (find (λ (check : Refusal × Bool). check.1)
    ((refusal.NoObject, no_place) ∷ (refusal.NoObject, missing) ∷ (refusal.NoObject, late) ∷ (refusal.RootKept, of_root) ∷ (refusal.Listed, listed) ∷ (refusal.OutOfRange, past) ∷ []))

publish_checks : (missing : Bool) (pool : PoolView) (p : Pending) → let s : Outside = outside_with pool p in
    (refusal_outside (found_missing missing) s Publish
    ≡ first_of_publish (names_no_place s Publish) (names_missing (found_missing missing) s Publish) p.late (frees_root (as_resting s) Publish) (frees_listed (as_resting s) Publish) (list_any (passes_object pool.objects) p.sets))
unfolding refusal_outside first_of_publish
publish_checks missing pool p = refl

module _ (v : View) (w : ℕ → ℕ) (header : Header) (pool : PoolView) (no_records : v.log.records ≡ []) (named : HoldsNamed v) (holds : HoldsPool w v.lanes v.zones header pool) (same_id : v.pool ≡ header.id) (before : IsBefore v w) where
  abbrev p : Pending
  p = pending_before v

  abbrev s : Outside
  s = outside_of v pool

  -- the lane finds each object that it holds among the pool's
  pub finds_named : FindsObjects v w (resting pool none_pending) (λ off. Unit {0})
  finds_named =
      let same : call_words v w ≡ w = no_call_words v no_records w in
      record {
        under = λ id write of held size_known.
            object_found v w header pool (resting pool none_pending) id write named.in_lanes named.takes.chunks before (subst (λ (f : ℕ → ℕ). HoldsPool f v.lanes v.zones header pool) (sym same) holds)
            (ap (λ (f : ℕ → ℕ). blocks f v.lanes v.zones) same) held size_known refl;
        sizes = λ block there. ap (λ (f : ℕ → ℕ). size_in f block) same;
      }

  -- what is to be freed or set has a place, is there, and is in no list
  named_have_places : names_no_place s Publish ≡ false
  named_have_places =
      none_fails (λ (want : Want). has_place pool want.id) (wants_pending p) (λ want there. wanted_has_place v w header pool want holds same_id (named.takes.wanted want there))

  pub named_are_there : AreNamed s Publish
  named_are_there k d inside =
      let wants : List Want = wants_pending p in
      wanted_is_there v w header pool (get_or wants k d) holds before (named.takes.wanted (get_or wants k d) (Contains-get_or wants k d inside))

  none_listed : frees_listed (as_resting s) Publish ≡ false
  none_listed = list_any_none (λ (id : Oid). is_listed pool.objects id.off) p.frees (λ k d inside. held_unlisted w v.lanes v.zones header pool holds _)

  -- so a publish is refused at most for the root, or for an end that is passed
  first_found : (of_root past : Bool) → p.late ≡ false → list_any (is_root pool) p.frees ≡ of_root → list_any (passes_object pool.objects) p.sets ≡ past
      → refusal_outside (found_missing false) s Publish ≡ first_of_publish false false false of_root false past
  first_found of_root past in_time root ends =
      publish_checks false pool p
      ∙ (λ j. first_of_publish (named_have_places j) (and_right (leb 1 (length (wants_pending p))) false refl j) (in_time j) (root j) (none_listed j) (ends j))

  -- and is done, where neither is so
  pub publish_answers : p.late ≡ false → FreeNoRoot pool.root p.frees → All (CanSet v) p.sets → StandsOnceDone (as_resting s) Publish → AnswersOutside s Publish None
  unfolding first_of_publish
  publish_answers in_time others each stands =
      let passes : refusal_outside (found_missing false) s Publish ≡ None =
      first_found false false in_time (none_is_root pool p.frees others) (none_passes_end v w (resting pool none_pending) (λ off. Unit {0}) finds_named p.sets (λ k d inside. tt) each) in
      answers_outside s Publish None false refl named_are_there stands passes refl

-- ---- words alone

pub publish_is_step : (v : View) → PublishesOutside v → IsWholeCall v
publish_is_step v publishes =
    goes_whole v Publish None publishes.call publishes.no_records
    (λ w header pool holds id before.
    let actions : List Action = sets_before v in
    let alone = publishes.alone in
    let finds : FindsObjects v w (resting pool none_pending) (λ off. Unit {0}) = finds_named v w header pool publishes.no_records publishes.holds holds id before in
    let same : made_words v w ≡ performed actions w = (λ j i. made_final (publishes.entries j) i (no_call_words v publishes.no_records w j i)) in
    let performs_all : Performs w v.lanes v.zones header pool actions = performs w v.lanes v.zones header pool actions holds (all_perform v w (resting pool none_pending) (λ off. Unit {0}) finds actions (λ k d inside. tt) publishes.each) in
    let answers : AnswersOutside (outside_of v pool) Publish None =
    publish_answers v w header pool publishes.no_records publishes.holds holds id before (ap (λ (p : Pending). p.late) alone)
    (subst (λ (p : Pending). FreeNoRoot pool.root p.frees) (sym alone) (All-nil (λ (id : Oid). pool.root ≢ Some id.off))) publishes.each
    (stands_plain (resting pool (pending_before v)) Publish (only_plain (pending_before v) alone)) in
    subst (λ (p : Pending). GoesFrom v w header pool p Publish None) (sym alone) (record {
      answers = subst (λ (p : Pending). AnswersOutside (outside_with pool p) Publish None) alone answers;
      holds = subst (λ (f : ℕ → ℕ). HoldsPool f v.lanes v.zones header (with_actions actions pool)) (sym same) performs_all.holds;
      leaves = refl;
    }))

-- ---- a publish that is refused

-- where something is named, an object may be missing: one has no place, or is not there
missing_answers : (pool : PoolView) (p : Pending) → 1 ≤ length (wants_pending p) → AnswersOutside (outside_with pool p) Publish (Some (Refused refusal.NoObject))
unfolding first_of_publish
missing_answers pool p some = ⊎_elim
    (λ (lacks : names_no_place s Publish ≡ true).
    refused_outside s Publish false refusal.NoObject refl
    (publish_checks false pool p ∙ (λ j. first_of_publish (lacks j) (names_missing (found_missing false) s Publish) p.late (frees_root (as_resting s) Publish) (frees_listed (as_resting s) Publish) (list_any (passes_object pool.objects) p.sets))) refl)
    (λ (placed : names_no_place s Publish ≡ false).
    let named : names_missing (found_missing true) s Publish ≡ true = and_from (leb 1 (length (wants_pending p))) true (le-leb 1 (length (wants_pending p)) some) refl in
    refused_outside s Publish true refusal.NoObject refl
    (publish_checks true pool p ∙ (λ j. first_of_publish (placed j) (named j) p.late (frees_root (as_resting s) Publish) (frees_listed (as_resting s) Publish) (list_any (passes_object pool.objects) p.sets))) refl)
    (cases_Bool (names_no_place s Publish)) where
      s : Outside
      s = outside_with pool p

outside_refused : (v : View) (r : Refusal) (w : ℕ → ℕ) (header : Header) (pool : PoolView) → v.log.records ≡ [] → IsOutsideReason v r → HoldsPool w v.lanes v.zones header pool → v.pool ≡ header.id → IsBefore v w
    → TellsOfRoot pool.root Publish (Some (Refused r)) (pending_before v) → AnswersOutside (outside_of v pool) Publish (Some (Refused r))
unfolding first_of_publish
outside_refused v refusal.NoObject w header pool no_records reason holds id before tells = missing_answers pool (pending_before v) reason
outside_refused v refusal.RootKept w header pool no_records reason holds id before tells =
    refused_outside (outside_of v pool) Publish false refusal.RootKept refl
    (first_found v w header pool no_records reason.0.holds holds id before true (list_any (passes_object pool.objects) (sets_before v)) reason.0.in_time (one_is_root pool (pending_before v).frees tells) refl) refl
outside_refused v refusal.OutOfRange w header pool no_records reason holds id before tells =
    let finds : FindsObjects v w (resting pool none_pending) (λ off. Unit {0}) = finds_named v w header pool no_records reason.0.holds holds id before in
    refused_outside (outside_of v pool) Publish false refusal.OutOfRange refl
    (first_found v w header pool no_records reason.0.holds holds id before false true reason.0.in_time (none_is_root pool (pending_before v).frees tells)
    (one_passes_end v w (resting pool none_pending) (λ off. Unit {0}) finds (sets_before v) (λ k d inside. tt) reason.1)) refl
outside_refused v r w header pool no_records reason holds id before tells = absurd reason

-- the one operation of a call agrees with a root where the call does
pub first_tells : (v : View) (op : Operation) (reply : Option Value) → v.call ≡ record { operation = op; reply = reply } ∷ [] → (root : Option ℕ) → AgreesOnRoot v root → TellsOfRoot root op reply (pending_before v)
unfolding AllTellOfRoot
first_tells v op reply call root agrees = (subst (AllTellOfRoot root (pending_before v)) call agrees).0

pub refused_publish_steps : (v : View) (r : Refusal) → RefusesOutside v r → MakesItsStep v
refused_publish_steps v r refuses = record {
  outside = none_recorded v refuses.no_records;
  makes = λ w header pool holds id before may free.
      let tells : TellsOfRoot pool.root Publish (Some (Refused r)) (pending_before v) = first_tells v Publish (Some (Refused r)) refuses.call pool.root may.root in
      let alone : ChangesAlone pool (pending_before v) Publish (Some (Refused r)) = record { answers = outside_refused v r w header pool refuses.no_records refuses.reason holds id before tells; leaves = refl } in
      alone_step v w header pool Publish (Some (Refused r)) refuses.call refuses.no_records refuses.no_entries holds alone;
}

-- where words alone are pending it tells nothing of the root
tells_none : (v : View) (r : Refusal) (root : Option ℕ) → pending_before v ≡ only_sets (sets_before v) → IsOutsideReason v r → TellsOfRoot root Publish (Some (Refused r)) (pending_before v)
tells_none v refusal.RootKept root alone reason =
    let some = reason.1 in let none : length (pending_before v).frees ≡ 0 = ap (λ (p : Pending). length p.frees) alone in absurd (omega (arith, some, none))
tells_none v refusal.OutOfRange root alone reason = subst (TellsOfRoot root Publish (Some (Refused refusal.OutOfRange))) (sym alone) (All-nil (λ (id : Oid). root ≢ Some id.off))
tells_none v refusal.NoObject root alone reason = tt
tells_none v r root alone reason = absurd reason

allocates_none : (v : View) (r : Refusal) → v.call ≡ record { operation = Publish; reply = Some (Refused r) } ∷ [] → allocated_in v ≡ []
unfolding allocated_told
allocates_none v r call = ap (allocated_told (pending_before v)) call

-- nor does it make any, be it aborted by the refusal or not
none_either : (stays : Bool) → cond stays no_blocks no_blocks ≡ no_blocks
none_either true = refl
none_either false = refl

makes_none : (v : View) (r : Refusal) → v.call ≡ record { operation = Publish; reply = Some (Refused r) } ∷ [] → blocks_in v ≡ no_blocks
unfolding blocks_told
makes_none v r call = ap (blocks_told (pending_before v) no_blocks) call ∙ none_either (changes_nothing r)

-- so from any pool
pub refused_publish_is_step : (v : View) (r : Refusal) → RefusesOutside v r → pending_before v ≡ only_sets (sets_before v) → IsWholeCall v
refused_publish_is_step v r refuses alone =
    let steps : MakesItsStep v = refused_publish_steps v r refuses in
    let none : allocated_in v ≡ [] = allocates_none v r refuses.call in
    record {
      outside = steps.outside;
      makes = λ w header pool holds id before.
          let may : MayPrecede pool v = record { room = room_for_none v pool none; root = first_agrees v Publish (Some (Refused r)) refuses.call pool.root (tells_none v r pool.root alone refuses.reason) } in
          steps.makes w header pool holds id before may (subst (λ (b : CallBlocks). All (LeavesFree v w) (b.made ++ b.dropped)) (sym (makes_none v r refuses.call)) (All-nil (LeavesFree v w)));
    }
