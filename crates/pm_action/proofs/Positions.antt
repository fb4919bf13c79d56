-- WHERE EACH CALL ON WHAT IS PENDING LEAVES ITS LANE, from what the call says that it did.
use Rattle.std.proofs.Common.{◌≡◌, ℕ, zero, suc, Bool, true, false, if◌then◌else◌, ⊎_elim, Option, Some, None, Result, Ok, Err, refl, sym, ap, ◌∙◌}
use Rattle.pm_model.specs.declared.stage.Stage.{Stage}
use Rattle.pm_model.specs.declared.stage.Stage.TheVariants as stage
use Rattle.pm_objects.specs.declared.calls.Operation.{Operation}
use Rattle.pm_objects.specs.declared.calls.Operation.TheVariants.{Cancel}
use Rattle.pm_objects.specs.declared.refusal.Refusal.{Refusal}
use Rattle.pm_objects.specs.declared.refusal.Refusal.TheVariants as refusal
use Rattle.pm_view.specs.View.{View}
use Rattle.pm_world.specs.LaneFields.{Standing}
use Rattle.pm_world.specs.declared.lane.Lane.{Lane}
use Rattle.pm_call.specs.Between.{saw_number}
use Rattle.pm_call.specs.Did.{stage_refusal, work_refusal}
use Rattle.pm_call.specs.Histories.{LaneHistory}
use Rattle.pm_call.specs.Positions.{Position, at_stop, moved_by, position_of, resting, stopped_by, unless_refused, working}
use Rattle.pm_call.specs.Standing.{StandsWith}
use Rattle.pm_call.proofs.Positions.{moves_at_work, moves_outside, position_in, rests_between, spent_between}
use Rattle.pm_action.specs.Actions.{Asked, AskedAs, AskedSo}
use Rattle.pm_action.specs.Calls.{ByLevel, IfOutside}
use Rattle.pm_action.specs.Inside.{Cancelled, CancelledAs, CancelledSo}
use Rattle.pm_action.specs.Outside.{AskedAloneAs, AskedOutside, AskedOutsideAs, Finished, FinishedSo}
use Rattle.pm_action.specs.Publications.{PublishedAloneAs, PublishedBy, PublishedOpenAs, PublishedOutside}

-- outside no transaction is at work
unworking : (st : Stage) → stage_refusal st 0 ≡ Some refusal.NoTx
unworking stage.Work = refl
unworking st = refl

work_refused_outside : (stopped : Bool) (st : Stage) (level : ℕ) → stopped ≡ false → level ≡ 0
    → (if stopped then Some refusal.Stopped else stage_refusal st level) ≡ Some refusal.NoTx
work_refused_outside false st zero going outside = unworking st
work_refused_outside true st level going outside = absurd cc
work_refused_outside false st (suc n) going outside = absurd cc

same_unless : (w : Option Refusal) (p : Position) → unless_refused w p p ≡ p
same_unless None p = refl
same_unless (Some r) p = refl

module _ {M : Type 0} (at : M → View → Type 0) (old new : Lane M) (h : LaneHistory) where
  -- ---- inside a transaction

  told_stays : (op : Operation) (s : Standing) (result : Result (Unit {0}) Refusal)
      → AskedAs at new op result s → position_of new ≡ working s.level
  told_stays op s (Ok done) a = ap position_in a.1.works.fields
  told_stays op s (Err r) a = ap position_in a.1.works.fields

  asked_stays : (op : Operation) (result : Result (Unit {0}) Refusal) → StandsWith at old h
      → Asked at old new op result → position_of new ≡ position_of old
  unfolding Asked
  asked_stays op result stands asked =
      moves_at_work at old new h (λ w. AskedSo w at old new op result) (λ p. p) stands (λ r d. d.1)
      (λ d s works is. told_stays op s result (d s works is)) asked
      ∙ same_unless (work_refusal old) (position_of old)

  cancel_moves : (s : Standing) (result : Result (Unit {0}) Refusal) → CancelledAs at new result s
      → position_of new ≡ moved_by result (working s.level)
  cancel_moves s (Ok done) c = ap position_in c.works.fields
  cancel_moves s (Err refusal.Stopped) c = ap position_in c.1.fields
  cancel_moves s (Err r) c = absurd c

  cancelled_moves : (result : Result (Unit {0}) Refusal) → StandsWith at old h
      → Cancelled at old new result
      → position_of new ≡ unless_refused (work_refusal old) (moved_by result (position_of old))
      (position_of old)
  unfolding Cancelled
  cancelled_moves result stands cancelled =
      moves_at_work at old new h (λ w. CancelledSo w at old new result) (moved_by result) stands
      (λ r d. d.1) (λ d s works is. cancel_moves s result (d s works is)) cancelled

  -- ---- outside

  alone_rests : (op : Operation) (s : Standing) → s.level ≡ 0
      → (result : Result (Unit {0}) Refusal) → AskedAloneAs at new op result s
      → position_of new ≡ resting
  alone_rests op s outside (Ok done) a = rests_between at new _ outside a.1.rests
  alone_rests op s outside (Err r) a = rests_between at new _ outside a.1.rests

  opened_rests : (op : Operation) (s : Standing) → s.level ≡ 0
      → (result : Result (Unit {0}) Refusal) → AskedOutsideAs at new op result s
      → position_of new ≡ resting
  opened_rests op s outside (Err refusal.Spent) a = spent_between at new s outside a
  opened_rests op s outside result a =
      alone_rests op (saw_number s a.number) outside result a.holds

  asked_outside_stays : (op : Operation) (result : Result (Unit {0}) Refusal)
      → old.stopped ≡ false → old.level ≡ 0 → StandsWith at old h
      → AskedOutside at old new op result → position_of new ≡ position_of old
  unfolding AskedOutside
  asked_outside_stays op result going none stands asked =
      moves_outside at old new h (λ p. p) stands going none
      (λ s outside rests may. opened_rests op s outside result (asked s rests may))

  -- ---- wherever its lane is

  pub asked_by_level_stays : (op : Operation) (result : Result (Unit {0}) Refusal)
      → StandsWith at old h
      → ByLevel old (AskedOutside at old new op result) (Asked at old new op result)
      → position_of new ≡ position_of old
  unfolding ByLevel
  asked_by_level_stays op result stands did = by old.stopped old.level refl refl did where
    by : (stopped : Bool) (level : ℕ) → old.stopped ≡ stopped → old.level ≡ level
        → IfOutside stopped level (AskedOutside at old new op result) (Asked at old new op result)
        → position_of new ≡ position_of old
    by false zero going none d = asked_outside_stays op result going none stands d
    by true level going some d = asked_stays op result stands d
    by false (suc n) going some d = asked_stays op result stands d

  pub cancelled_by_level_moves : (result : Result (Unit {0}) Refusal) → StandsWith at old h
      → ByLevel old (AskedOutside at old new Cancel result) (Cancelled at old new result)
      → position_of new ≡ unless_refused (work_refusal old) (moved_by result (position_of old))
      (position_of old)
  unfolding ByLevel
  cancelled_by_level_moves result stands did = by old.stopped old.level refl refl did where
    by : (stopped : Bool) (level : ℕ) → old.stopped ≡ stopped → old.level ≡ level
        → IfOutside stopped level (AskedOutside at old new Cancel result)
        (Cancelled at old new result)
        → position_of new ≡ unless_refused (work_refusal old) (moved_by result (position_of old))
        (position_of old)
    by false zero going none d = asked_outside_stays Cancel result going none stands d
        ∙ sym (ap (λ w. unless_refused w (moved_by result (position_of old)) (position_of old))
        (work_refused_outside old.stopped old.stage old.level going none))
    by true level going some d = cancelled_moves result stands d
    by false (suc n) going some d = cancelled_moves result stands d

  -- ---- a publish outside

  published_open_stays : (s : Standing) → s.level ≡ 0 → (result : Result (Unit {0}) Refusal)
      → PublishedOpenAs at new result s → position_of new ≡ stopped_by result resting
  published_open_stays s outside (Ok done) p =
      rests_between at new _ outside p.holds.holds.rests
  published_open_stays s outside (Err refusal.Stopped) p =
      ⊎_elim (λ w. ap position_in w.fields) (λ a. ap position_in a.holds.holds.fields) p
      ∙ ap (λ (n : ℕ). at_stop (record resting { level = n })) outside
  published_open_stays s outside (Err refusal.NoObject) p =
      rests_between at new _ outside p.refused.rests
  published_open_stays s outside (Err refusal.OutOfRange) p =
      rests_between at new _ outside p.holds.holds.1.rests
  published_open_stays s outside (Err r) p = absurd p

  published_alone_stays : (s : Standing) → s.level ≡ 0 → (result : Result (Unit {0}) Refusal)
      → PublishedAloneAs at new result s → position_of new ≡ stopped_by result resting
  published_alone_stays s outside (Err refusal.Spent) p = spent_between at new s outside p
  published_alone_stays s outside result p =
      published_open_stays (saw_number s p.number) outside result p.holds

  pub published_outside_stays : (result : Result (Unit {0}) Refusal) → StandsWith at old h
      → PublishedOutside at old new result
      → position_of new ≡ stopped_by result (position_of old)
  unfolding PublishedOutside
  published_outside_stays result stands published = by old.stopped old.level refl refl published
    where
      -- a lane that did nothing for this refusal
      same : (r : Refusal) → (result ≡ Err r) × (new ≡ old)
          → stopped_by {T = Unit {0}} (Err r) (position_of old) ≡ position_of old
          → position_of new ≡ stopped_by result (position_of old)
      same r d is = ap (λ (lane : Lane M). position_of lane) d.1
          ∙ sym (ap (λ (q : Result (Unit {0}) Refusal). stopped_by q (position_of old)) d.0 ∙ is)

      by : (stopped : Bool) (level : ℕ) → old.stopped ≡ stopped → old.level ≡ level
          → PublishedBy stopped level at old new result
          → position_of new ≡ stopped_by result (position_of old)
      by true level is some p = same refusal.Stopped p
          (ap (λ (b : Bool). record (position_of old) { stopped = b }) (sym is))
      by false (suc n) going some p = same refusal.InTx p refl
      by false zero going none p = moves_outside at old new h (stopped_by result) stands going none
          (λ s outside rests may. published_alone_stays s outside result (p s rests may))

  -- ---- the end of its work

  pub finished_stays : (result : Result (Unit {0}) Refusal) → StandsWith at old h
      → (old.stopped ≡ false → old.level ≡ 0) → Finished at old new result
      → position_of new ≡ position_of old
  unfolding Finished
  finished_stays result stands none finished = by old.stopped refl finished where
    by : (stopped : Bool) → old.stopped ≡ stopped → FinishedSo stopped at old new result
        → position_of new ≡ position_of old
    by true is f = ap (λ (lane : Lane M). position_of lane) f.1
    by false is f = moves_outside at old new h (λ p. p) stands is (none is)
        (λ s outside rests may. ap position_in (f.1 s rests).fields
        ∙ ap (λ (n : ℕ). record resting { level = n }) outside)
