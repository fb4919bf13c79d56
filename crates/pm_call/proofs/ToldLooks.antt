-- WHAT LOOKS AND LOCKS LEAVE of what a lane recorded: all of it.
use Rattle.std.proofs.Common.{◌≡◌, ℕ, zero, suc, Bool, true, false, List, [], ◌∷◌, ◌++◌, map, take, refl, sym, ap, ◌∙◌, subst, None}
use Rattle.pm_objects.specs.declared.calls.Want.{Want}
use Rattle.pm_view.specs.Log.{Phase, Idle, Open, Drawn, Sealing, Applying, Clearing, Retiring, Voiding}
use Rattle.pm_view.specs.Steps.{Step}
use Rattle.pm_view.specs.Steps.Step.{Give, NumberSeen, Raise, StopSeen}
use Rattle.pm_view.specs.View.{View}
use Rattle.pm_view.specs.Views.{after_all, begun}
use Rattle.pm_world.specs.LaneFields.{Standing}
use Rattle.pm_world.specs.declared.lane.HeldLock.{HeldLock}
use Rattle.pm_world.specs.declared.lane.Lane.{Lane}
use Rattle.pm_lock.specs.Locking.{lock_at}
use Rattle.pm_lock.specs.Steps.{AreWaits, gives, refusals, stops, takes, waits}
use Rattle.pm_call.specs.Between.{saw_number}
use Rattle.pm_call.specs.Held.{Looks}
use Rattle.pm_call.specs.Histories.{LaneHistory, history_of}
use Rattle.pm_call.specs.LockRefusals.{TriedLocks}
use Rattle.pm_call.specs.Locking.{TakesLocks, to_take}
use Rattle.pm_call.specs.Opening.{WaitWasStopped}
use Rattle.pm_call.specs.Quiet.{WentQuietly}
use Rattle.pm_call.specs.Standing.{HasHistory}
use Rattle.pm_call.proofs.HasHistories.{quiet_history}
use Rattle.pm_call.proofs.HeldWords.{looks_claims}
use Rattle.pm_call.proofs.Quiet.{gives_quiet, looks_quiet, quiet_both, quiet_by, quiet_one, quiet_then, stops_quiet, waits_quiet}
use Rattle.pm_call.proofs.SilentPlans.{AreSilent, IsAsTold, is_silent, silent_both, silent_map, silent_steps, told_then}
use Rattle.pm_call.proofs.ToldPlans.{silent_history}
use Rattle.pm_call.proofs.TriedLocks.{view_on}

-- what a lane recorded stays as it is, over steps of no plan
pub record SaidNothing (v w : View) : Type 0 where
  pub told : IsAsTold v w
  pub went : WentQuietly v w

pub nothing_then : (u v w : View) → SaidNothing u v → SaidNothing v w → SaidNothing u w
nothing_then u v w one more = record {
  told = told_then u v w one.told more.told;
  went = quiet_then u v w one.went more.went;
}

-- ---- LOOKS

pub looks_told : (n : ℕ) (v w : View) → Looks n v w → SaidNothing v w
looks_told n v w looks =
    let same = looks_claims n v w looks in record {
      told = record {
        call = ap (λ (y : View). y.call) same;
        entries = ap (λ (y : View). y.entries) same;
        number = ap (λ (y : View). y.number) same;
        fixed = ap (λ (y : View). y.fixed) same;
      };
      went = looks_quiet n v w looks;
    }

-- how many numbers were drawn: where no call is open none is as one opens
begun_history : (phase : Phase) (v : View) → (history_of v).call ≡ []
    → history_of (begun phase v) ≡ history_of v
begun_history Idle v none = λ i. record {
  lane = v.fixed.lane;
  done = (history_of v).done;
  call = (sym none) i;
  within = None;
}
begun_history Open v none = refl
begun_history (Drawn n) v none = refl
begun_history (Sealing n) v none = refl
begun_history (Applying todo) v none = refl
begun_history Clearing v none = refl
begun_history (Retiring n) v none = refl
begun_history Voiding v none = refl

pub saw_history : (s : Standing) (n : ℕ) (h : LaneHistory) → HasHistory s.view h → h.call ≡ []
    → HasHistory (saw_number s n).view h
saw_history s n h has none = quiet_history s.view (saw_number s n).view h
    (quiet_one s.view (NumberSeen n) refl)
    (begun_history s.view.log.phase s.view (ap (λ (x : LaneHistory). x.call) has.is ∙ none) ∙ has.is)
    has

-- ---- LOCKS

pub gives_told : (v : View) (locks : List HeldLock) → SaidNothing v (after_all v (gives locks))
gives_told v locks = record {
  told = silent_steps v (gives locks)
      (silent_map (λ (l : HeldLock). Give l.line) (λ l. refl) locks);
  went = quiet_by v (gives locks) (gives_quiet locks);
}

pub taken_told : (s : Standing) (wants : List Want) (x : View) → TakesLocks s wants x
    → SaidNothing s.view x
taken_told s wants x tk =
    let looked : View = after_all tk.taken tk.looks in
    let got : IsAsTold s.view tk.taken = subst (IsAsTold s.view) (sym tk.takes)
    (record { call = refl; entries = refl; number = refl; fixed = refl }) in
    let seen : IsAsTold tk.taken looked = subst (IsAsTold tk.taken) (sym tk.stays.same)
    (record { call = refl; entries = refl; number = refl; fixed = refl }) in
    let rose : IsAsTold looked x = subst (IsAsTold looked) (sym tk.raises_)
    (silent_steps looked (map (λ (l : HeldLock). Raise l.line true) _)
    (silent_map (λ (l : HeldLock). Raise l.line true) (λ l. refl) _)) in
    record {
      told = told_then s.view looked x (told_then s.view tk.taken looked got seen) rose;
      went = tk.quiet;
    }

pub tried_told : (s : Standing) (wants : List Want) (all : List HeldLock) (x : View)
    → TriedLocks s wants all x → SaidNothing s.view x
tried_told s wants all x tk = record {
  told = subst (IsAsTold s.view) (sym (view_on s wants all x tk))
      (record { call = refl; entries = refl; number = refl; fixed = refl });
  went = tk.quiet;
}

-- so the history is as it was, and the call as open
pub nothing_history : (v w : View) (h : LaneHistory) → SaidNothing v w → HasHistory v h
    → HasHistory w h
nothing_history v w h nothing has =
    quiet_history v w h nothing.went (silent_history v w nothing.told ∙ has.is) has

pub told_history : (v w : View) (h : LaneHistory) → IsAsTold v w → history_of v ≡ h
    → history_of w ≡ h
told_history v w h told is = silent_history v w told ∙ is

pub told_open : (v w : View) → IsAsTold v w → v.number ≡ None → w.number ≡ None
told_open v w told none = told.number ∙ none

-- ---- WAITS that the lane's stop ended

takes_silent : (line : ℕ) (write won : Bool) → is_silent (takes line write won) ≡ true
takes_silent line true won = refl
takes_silent line false won = refl

refusals_silent : (n line : ℕ) (write : Bool) → AreSilent (refusals n line write)
unfolding refusals
refusals_silent zero line write = tt
refusals_silent (suc n) line write =
    (takes_silent line write false, (refl, refusals_silent n line write))

waits_silent : (locks : List HeldLock) (steps : List Step) → AreWaits locks steps
    → AreSilent steps
unfolding AreWaits waits
waits_silent [] steps are = subst AreSilent (sym are) tt
waits_silent (l ∷ locks) steps are = subst AreSilent (sym are.2)
    (silent_both (waits are.0 l.line l.write) are.1
    (silent_both (refusals are.0 l.line l.write) (takes l.line l.write true ∷ [])
    (refusals_silent are.0 l.line l.write) (takes_silent l.line l.write true, tt))
    (waits_silent locks are.1 are.3))

pub stops_silent : (n line : ℕ) (write : Bool) → AreSilent (stops n line write)
unfolding stops
stops_silent n line write =
    silent_both (refusals n line write) (takes line write false ∷ StopSeen true ∷ [])
    (refusals_silent n line write) (takes_silent line write false, (refl, tt))

pub wait_told : {M : Type 0} (at : M → View → Type 0) (lane : Lane M) (s : Standing)
    (wants : List Want) → (w : WaitWasStopped at lane s wants)
    → SaidNothing s.view (after_all s.view (w.steps ++ stops w.refused
    (lock_at (to_take s wants) w.count).line (lock_at (to_take s wants) w.count).write))
wait_told at lane s wants w =
    let l : HeldLock = lock_at (to_take s wants) w.count in
    let steps : List Step = w.steps ++ stops w.refused l.line l.write in record {
      told = silent_steps s.view steps
          (silent_both w.steps (stops w.refused l.line l.write)
          (waits_silent (take w.count (to_take s wants)) w.steps w.waits)
          (stops_silent w.refused l.line l.write));
      went = quiet_by s.view steps
          (quiet_both w.steps (stops w.refused l.line l.write)
          (waits_quiet (take w.count (to_take s wants)) w.steps w.waits)
          (stops_quiet w.refused l.line l.write));
    }
