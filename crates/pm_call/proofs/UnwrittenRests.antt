-- A LANE THAT WAITS FOR A LOCK, OR IS BETWEEN TWO CALLS, is writing no record of its log.
use Rattle.std.proofs.Common.{◌≡◌, ⊎_elim, ℕ, zero, suc, ◌<◌, Bool, true, false, List, [], ◌∷◌, ◌++◌, length, refl, sym, ap, ◌∙◌, subst, arith}
use Rattle.std.specs.List.{AllByRecursion}
use Rattle.std.proofs.lemmas.List.{take_all}
use Rattle.pm_layout.specs.declared.shape.Shape.{Shape}
use Rattle.pm_objects.specs.declared.calls.Want.{Want}
use Rattle.pm_view.specs.Changes.{Undrained}
use Rattle.pm_view.specs.Log.{Idle, Log, Open, Phase, new_log}
use Rattle.pm_view.specs.Steps.{Step}
use Rattle.pm_view.specs.Steps.Step.{StopSeen}
use Rattle.pm_view.specs.View.{View}
use Rattle.pm_view.specs.Views.{after_all}
use Rattle.pm_world.specs.LaneFields.{Standing}
use Rattle.pm_world.specs.Logs.{used_slots}
use Rattle.pm_world.specs.Sights.{is_slot_drained}
use Rattle.pm_world.specs.declared.lane.HeldLock.{HeldLock}
use Rattle.pm_world.specs.declared.lane.Lane.{Lane}
use Rattle.pm_undo.specs.Working.{IsWorking}
use Rattle.pm_lock.specs.Locking.{lock_at}
use Rattle.pm_lock.specs.Steps.{AreWaits, refusals, stops, takes, waits}
use Rattle.pm_call.specs.Between.{MayOpen, opened_with}
use Rattle.pm_call.specs.Locking.{to_take}
use Rattle.pm_call.specs.Opening.{WaitWasStopped}
use Rattle.pm_call.specs.Unwritten.{WritesNoRecord}
use Rattle.pm_call.proofs.Slotless.{AreSlotless, IsSlotless, slotless_so_far, unslotted_unwritten, working_unslotted}

-- ---- it waits

module _ (sh : Shape) (lane : ℕ) where
  both : (one two : List Step) → AreSlotless sh lane one → AreSlotless sh lane two → AreSlotless sh lane (one ++ two)
  both [] two a b = b
  both (s ∷ one) two a b = (a.0, both one two a.1 b)

  tried : (line : ℕ) (write won : Bool) → IsSlotless sh lane (takes line write won)
  tried line true won = tt
  tried line false won = tt

  refused : (n line : ℕ) (write : Bool) → AreSlotless sh lane (refusals n line write)
  unfolding refusals
  refused zero line write = tt
  refused (suc n) line write = (tried line write false, (tt, refused n line write))

  waited : (locks : List HeldLock) (steps : List Step) → AreWaits locks steps → AreSlotless sh lane steps
  unfolding AreWaits waits
  waited [] steps are = subst (AreSlotless sh lane) (sym are) tt
  waited (l ∷ locks) steps are = subst (AreSlotless sh lane) (sym are.2)
      (both (waits are.0 l.line l.write) are.1
      (both (refusals are.0 l.line l.write) (takes l.line l.write true ∷ []) (refused are.0 l.line l.write) (tried l.line l.write true, tt))
      (waited locks are.1 are.3))

  pub stopped : (n line : ℕ) (write : Bool) → AreSlotless sh lane (stops n line write)
  unfolding stops
  stopped n line write = both (refusals n line write) (takes line write false ∷ StopSeen true ∷ []) (refused n line write) (tried line write false, (tt, tt))

pub all_unwritten : (v : View) → IsWorking v → (steps : List Step) → AreSlotless v.fixed.shape v.fixed.lane steps → WritesNoRecord (after_all v steps)
all_unwritten v works steps are = subst (λ (all : List Step). WritesNoRecord (after_all v all)) (take_all (length steps) steps (omega arith))
    (unslotted_unwritten _ (slotless_so_far v steps (length steps) (working_unslotted v works) are))

pub wait_unwritten : {M : Type 0} (at : M → View → Type 0) (lane : Lane M) (s : Standing) (wants : List Want) → IsWorking s.view → (w : WaitWasStopped at lane s wants)
    → WritesNoRecord (after_all s.view (w.steps ++ stops w.refused (lock_at (to_take s wants) w.count).line (lock_at (to_take s wants) w.count).write))
wait_unwritten at lane s wants works w =
    let l : HeldLock = lock_at (to_take s wants) w.count in
    all_unwritten s.view works (w.steps ++ stops w.refused l.line l.write)
    (both s.view.fixed.shape s.view.fixed.lane w.steps (stops w.refused l.line l.write)
    (waited s.view.fixed.shape s.view.fixed.lane (Rattle.std.specs.Prelude.take w.count (to_take s wants)) w.steps w.waits)
    (stopped s.view.fixed.shape s.view.fixed.lane w.refused l.line l.write))

-- ---- it is between two calls

-- it has nothing undrained, and its log is new
new_used : (phase : Phase) (generation j : ℕ) → j < used_slots (new_log phase generation) → ⊥
new_used phase generation j low = omega (arith, low)

new_unwritten : (v : View) (phase : Phase) (generation : ℕ) → v.log ≡ new_log phase generation
    → v.changes ≡ [] → WritesNoRecord v
new_unwritten v phase generation log none j low writing = ⊎_elim
    (λ (d : is_slot_drained v.fixed.shape v.fixed.lane v.changes j ≡ false).
    let clash : true ≡ false =
    sym (ap (λ (cs : List Undrained). is_slot_drained v.fixed.shape v.fixed.lane cs j) none) ∙ d in
    cc)
    (λ z. new_used phase generation j (subst (λ (l : Log). j < used_slots l) log z.1)) writing

pub may_open_unwritten : (s : Standing) → MayOpen s → WritesNoRecord s.view
may_open_unwritten s may =
    let b : Standing = may.before in
    let none : b.view.changes ≡ [] = may.between.over.drained in ⊎_elim
    (λ e. subst (λ (t : Standing). WritesNoRecord t.view) (sym e)
    (new_unwritten b.view Idle b.view.log.generation may.between.over.log none))
    (λ z. subst (λ (t : Standing). WritesNoRecord t.view) (sym z.1)
    (new_unwritten (opened_with b z.0).view Open b.view.log.generation refl none))
    may.since
