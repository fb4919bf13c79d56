-- A LANE THAT LOOKED UP THE ROOT is where it was, or stopped without a number.
use Rattle.std.proofs.Common.{◌≡◌, zero, false, None, Result, Ok, Err, sym, ap, ◌∙◌, subst}
use Rattle.pm_objects.specs.declared.ids.Oid.{Oid}
use Rattle.pm_objects.specs.declared.refusal.Refusal.{Refusal}
use Rattle.pm_objects.specs.declared.refusal.Refusal.TheVariants as refusal
use Rattle.pm_view.specs.View.{View}
use Rattle.pm_world.specs.LaneFields.{Fields, Standing}
use Rattle.pm_world.specs.declared.lane.Lane.{Lane}
use Rattle.pm_call.specs.Histories.{LaneHistory}
use Rattle.pm_call.specs.Positions.{Position}
use Rattle.pm_call.specs.Standing.{StandsWith}
use Rattle.pm_root.specs.Root.{FieldsStay, FoundAs, FoundBy, RootFound}
use Rattle.pm_exec.specs.Running.{RestsWith, RootCame}
use Rattle.pm_exec.proofs.Spent.{root_spent}

abbrev position_in : Fields → Position
position_in f = record { stopped = f.stopped; level = f.level; stage = f.stage; error = f.error }

-- between two calls no number waits for its answer
pub rests_undrawn : {M : Type 0} (at : M → View → Type 0) (lane : Lane M) (h : LaneHistory)
    → RestsWith at lane h → lane.drawn ≡ None
rests_undrawn at lane h rests =
    let going = ap (λ (p : Position). p.stopped) rests.1 in
    let outside = ap (λ (p : Position). p.level) rests.1 in
    ap (λ (f : Fields). f.drawn) (rests.0.between going outside).0.rests.fields

module _ {M : Type 0} (at : M → View → Type 0) (old new : Lane M) (h : LaneHistory)
    (rests : RestsWith at old h) (stands : StandsWith at new h) where
  -- no other refusal comes
  refused_for : (r : Refusal) (s : Standing) → RootFound at old new (Err r) → FoundAs at new (Err r) s
      → FieldsStay old new (Err r) → RootCame at new h (Err r)
  refused_for refusal.Spent s did found stay =
      root_spent at old new h rests.0 (ap (λ (p : Position). p.stopped) rests.1)
      (ap (λ (p : Position). p.level) rests.1) did stands (ap position_in stay ∙ rests.1)
  refused_for refusal.Stopped s did found stay =
      (stands, ap (λ (f : Fields). f.stopped) stay, ap (λ (f : Fields). f.drawn) stay ∙ rests_undrawn at old h rests)
  refused_for r s did found stay = absurd found.holds

  pub found_root : (id : Oid) → FieldsStay old new (Ok id) → RestsWith at new h
  found_root id stay = (stands, ap position_in stay ∙ rests.1)

  pub refused : (r : Refusal) (result : Result (Unit {0}) Refusal) → result ≡ Err r
      → RootFound at old new (Err r) → FieldsStay old new (Err r) → RootCame at new h result
  unfolding RootFound
  refused r result is found stay =
      let by : FoundBy false zero at old new (Err r) =
      subst (λ (p : Position). FoundBy p.stopped p.level at old new (Err r)) rests.1 found in
      let going = ap (λ (p : Position). p.stopped) rests.1 in
      let outside = ap (λ (p : Position). p.level) rests.1 in
      let here = (rests.0.between going outside).0 in
      subst (RootCame at new h) (sym is)
      (refused_for r here.standing found (by here.standing here.rests here.between) stay)
