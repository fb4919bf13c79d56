-- WHERE A CALL LEAVES ITS LANE in its transactions, from what the lane's fields say before and
-- after; and what that tells of which calls are refused.
use Rattle.std.proofs.Common.{◌≡◌, ℕ, suc, ◌==◌, false, if◌then◌else◌, ⊎_elim, Option, Some, None, Result, Ok, Err, refl, sym, ap, ◌∙◌}
use Rattle.std.proofs.Math.Dec.{eqb-suc-zero}
use Rattle.pm_objects.specs.declared.calls.Operation.{Operation}
use Rattle.pm_objects.specs.declared.refusal.Refusal.{Refusal}
use Rattle.pm_objects.specs.declared.refusal.Refusal.TheVariants as refusal
use Rattle.pm_view.specs.View.{View}
use Rattle.pm_world.specs.LaneFields.{Fields, Rests, Standing, Works, moved}
use Rattle.pm_world.specs.declared.lane.Lane.{Lane}
use Rattle.pm_plan.specs.Plans.{Plan}
use Rattle.pm_call.specs.At.{At}
use Rattle.pm_call.specs.Between.{MayOpen, saw_number}
use Rattle.pm_call.specs.Did.{Did, DidSo, Ends, stage_refusal, work_refusal}
use Rattle.pm_call.specs.Histories.{LaneHistory}
use Rattle.pm_call.specs.Opening.{NoneIsLeft}
use Rattle.pm_call.specs.Positions.{AbortedLanesMayEnd, CommittedLanesMayEnd, Position, RestingLanesMayBegin, StoppedLanesAreRefused, WorkingLanesMayWork, moved_by, position_of, resting, unless_refused, working}
use Rattle.pm_call.specs.Stages.{stage_end_refusal}
use Rattle.pm_call.specs.Standing.{StandsWith}

-- ---- BY FIELDS

abbrev pub position_in : Fields → Position
position_in f =
    record { stopped = f.stopped; level = f.level; stage = f.stage; error = f.error }

-- with no level it is between two calls; so it is where no number was left for one
module _ {M : Type 0} (at : M → View → Type 0) (lane : Lane M) where
  pub rests_between : (s : Standing) → s.level ≡ 0 → Rests at lane s → position_of lane ≡ resting
  rests_between s outside rests =
      ap position_in rests.fields ∙ ap (λ (n : ℕ). record resting { level = n }) outside

  pub spent_between : (s : Standing) → s.level ≡ 0 → NoneIsLeft at lane s
      → position_of lane ≡ resting
  spent_between s outside none = ⊎_elim
      (λ z. rests_between s outside z.1)
      (λ z. rests_between (saw_number s z.0) outside z.2)
      none

module _ {M : Type 0} (at : M → View → Type 0) (old new : Lane M) (h : LaneHistory) where
  -- ---- A CALL AT WORK, from what it leaves of a lane at work at a level

  pub moves_at_work : (Says : Option Refusal → Type 0) (to : Position → Position)
      → StandsWith at old h
      → ((r : Refusal) → Says (Some r) → new ≡ old)
      → (Says None → (s : Standing) → Works at old s → At s
      → position_of new ≡ to (working s.level))
      → Says (work_refusal old)
      → position_of new ≡ unless_refused (work_refusal old) (to (position_of old)) (position_of old)
  moves_at_work Says to stands refused moves says = by (work_refusal old) refl says where
    by : (w : Option Refusal) → work_refusal old ≡ w → Says w
        → position_of new ≡ unless_refused w (to (position_of old)) (position_of old)
    by (Some r) some d = ap (λ (lane : Lane M). position_of lane) (refused r d)
    by None none d =
        let here = (stands.work none).0 in
        moves d here.standing here.works here.stands
        ∙ ap to (sym (ap position_in here.works.fields))

  -- ---- A CALL OUTSIDE, from between two calls

  pub moves_outside : (to : Position → Position) → StandsWith at old h → old.stopped ≡ false
      → old.level ≡ 0
      → ((s : Standing) → s.level ≡ 0 → Rests at old s → MayOpen s → position_of new ≡ to resting)
      → position_of new ≡ to (position_of old)
  moves_outside to stands going none moves =
      let here = (stands.between going none).0 in
      let s = here.standing in
      let outside : s.level ≡ 0 = sym (ap (λ (f : Fields). f.level) here.rests.fields) ∙ none in
      moves s outside here.rests here.between
      ∙ ap to (sym (rests_between at old s outside here.rests))

  module _ {T : Type 0} (op : Operation) (plan : View → Plan) (Is : View → T → Type 0) where
    ends_moves : (s : Standing) (result : Result T Refusal) → Ends at new op plan Is result s
        → position_of new ≡ moved_by result (working s.level)
    ends_moves s (Ok x) ends = ap position_in ends.0.works.fields
    ends_moves s (Err refusal.Stopped) ends = ⊎_elim
        (λ c. ap position_in c.1.0.fields)
        (λ c. ap position_in c.3.fields)
        ends
    ends_moves s (Err r) ends = ap position_in ends.sees.fields

    pub did_moves : (result : Result T Refusal) → StandsWith at old h
        → Did at old new op plan Is result
        → position_of new ≡ unless_refused (work_refusal old) (moved_by result (position_of old))
        (position_of old)
    unfolding Did
    did_moves result stands did = moves_at_work (λ w. DidSo w at old new op plan Is result)
        (moved_by result) stands (λ r d. d.1)
        (λ d s works is. let t = d s works is in ends_moves (moved s t.view) result t.holds) did

-- ---- WHAT IS REFUSED

abbrev pub work_refused : Position → Option Refusal
work_refused p = if p.stopped then Some refusal.Stopped else stage_refusal p.stage p.level

abbrev pub end_refused : Position → Option Refusal
end_refused p = if p.stopped then Some refusal.Stopped else stage_end_refusal p.stage p.level

-- a level is open
unless_open : (r : Refusal) (n : ℕ) → (if suc n == 0 then Some r else None) ≡ None
unless_open r n = ap (λ b. if b then Some r else None) (eqb-suc-zero n)

module _ {M : Type 0} (at : M → View → Type 0) where
  pub working_lanes_may_work : WorkingLanesMayWork at
  working_lanes_may_work lane n is = ap work_refused is ∙ unless_open refusal.NoTx n

  pub resting_lanes_may_begin : RestingLanesMayBegin at
  resting_lanes_may_begin lane is = (
    ap work_refused is,
    ap (λ (p : Position). p.stopped) is,
    ap (λ (p : Position). p.level) is,
  )

  pub committed_lanes_may_end : CommittedLanesMayEnd at
  committed_lanes_may_end lane n is = ap end_refused is ∙ unless_open refusal.NoTx n

  pub aborted_lanes_may_end : AbortedLanesMayEnd at
  aborted_lanes_may_end lane e n is = ap end_refused is ∙ unless_open refusal.NoTx n

  pub stopped_lanes_are_refused : StoppedLanesAreRefused at
  stopped_lanes_are_refused lane p is = (ap work_refused is, ap end_refused is)
