-- What an abort leaves of its lane.
use Rattle.std.proofs.Common.{◌≡◌, ℕ, true, false, inr, Some, None, Result, Ok, Err, refl, sym, ap, subst}
use Rattle.pm_memory.specs.declared.lane_mem.Stopped.{Stopped}
use Rattle.pm_model.specs.Inside.{error_for}
use Rattle.pm_objects.specs.declared.calls.Operation.TheVariants.{Abort}
use Rattle.pm_objects.specs.declared.history.TxErr.{TxErr}
use Rattle.pm_objects.specs.declared.refusal.Refusal.{Refusal}
use Rattle.pm_objects.specs.declared.refusal.Refusal.TheVariants as refusal
use Rattle.pm_view.specs.View.{View}
use Rattle.pm_world.specs.LaneFields.{Fields, Standing, Works}
use Rattle.pm_world.specs.declared.lane.Lane.{Lane}
use Rattle.pm_call.specs.At.{At}
use Rattle.pm_call.specs.Did.{Cut, IsAt, work_refusal}
use Rattle.pm_call.specs.GivenUp.{GivenUp, GivesUp, IsAtBut, WasGivenUp}
use Rattle.pm_call.specs.Plans.{gives_up}
use Rattle.pm_tx.specs.Outcome.{Aborted, AbortedAs, AbortedSo}

module _ {M : Type 0} (at : M → View → Type 0) (old : Lane M) (errnum : ℕ) where
  gives_it_up : (s : Standing) → GivesUp s (Abort errnum) None
  gives_it_up s = inr (record { errnum = errnum; is = refl; replied = refl })

  -- refused for its stage
  pub abort_refused : (r : Refusal) → Some r ≡ work_refusal old → Aborted at old old errnum (Err r)
  unfolding Aborted
  abort_refused r e = subst (λ o. AbortedSo o at old old errnum (Err r)) e (refl, refl)

  pub abort_stands : IsAt at old → IsAtBut at old (λ s. GivesUp s (Abort errnum) None)
  abort_stands is = record { standing = is.standing; locks = is.standing.locks; works = is.works; stands = is.stands; holds = gives_it_up is.standing }

  at_work : (new : Lane M) (result : Result (Unit {0}) Refusal) → None ≡ work_refusal old → ((s : Standing) → Works at old s → At s → AbortedAs at new errnum result s) → Aborted at old new errnum result
  unfolding Aborted
  at_work new result e so = subst (λ o. AbortedSo o at old new errnum result) e so

  pub abort_ok : (new : Lane M) (error : TxErr) → None ≡ work_refusal old → error ≡ error_for errnum → GivenUp at old new (Abort errnum) None error (Ok tt) → Aborted at old new errnum (Ok tt)
  unfolding GivenUp
  abort_ok new error e is_error gave = at_work new (Ok tt) e (λ s works is. subst (WasGivenUp at new s (Abort errnum) None) is_error (gave s s.locks works is (gives_it_up s)))

  pub abort_cut : (mid new : Lane M) (error : TxErr) (answer : Refusal) (stopped : Stopped) → None ≡ work_refusal old → GivenUp at old mid (Abort errnum) None error (Err stopped)
      → answer ≡ refusal.Stopped → new ≡ record mid { stopped = true } → Aborted at old new errnum (Err answer)
  unfolding GivenUp
  abort_cut mid new error answer stopped e gave is_stopped says = subst (λ (r : Refusal). Aborted at old new errnum (Err r)) (sym is_stopped) (at_work new (Err refusal.Stopped) e (λ s works is.
      let c : (n : ℕ) × Cut at mid s (gives_up (Abort errnum) None n) false = gave s s.locks works is (gives_it_up s) in (
        c.0,
        subst (λ (lane : Lane M). Cut at lane s (gives_up (Abort errnum) None c.0) true) (sym says)
            (record { working = c.1.working; ready = c.1.ready; stops = c.1.stops; fields = ap (λ (f : Fields). record f { stopped = true }) c.1.fields; facts = c.1.facts }),
      )))
