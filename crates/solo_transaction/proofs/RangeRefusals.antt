-- An operation on a range of any object that is refused gives up the open call, unless the lane stops before.
use Rattle.std.proofs.Common.{◌≡◌, ◌≢◌, ⊎_elim, inl, inr, ℕ, List, Option, None, Some, refl, sym, subst}
use Rattle.solo_crash.proofs.GivenUp.{refusal_aborts}
use Rattle.solo_crash.proofs.GoneRanges.{gone_range_aborts, new_range_aborts}
use Rattle.solo_crash.specs.CallBlocks.{IsOldIn, LeavesReserved, TellsOfRoot}
use Rattle.solo_crash.specs.Pending.{pending_in}
use Rattle.solo_model.specs.Actions.{Pending}
use Rattle.solo_crash.specs.OpenCall.{WasAborted}
use Rattle.solo_crash.specs.Operations.{IsReason, TakesBack, Tells}
use Rattle.solo_made.specs.Made.{BlockLists}
use Rattle.solo_model.specs.Checks.{Range, range_of}
use Rattle.pm_objects.specs.declared.calls.Operation.{Operation}
use Rattle.pm_objects.specs.declared.calls.Operation.TheVariants.{AddRange, Read, Write}
use Rattle.pm_objects.specs.declared.history.TxErr.TheVariants as error
use Rattle.pm_objects.specs.declared.history.Value.{Value}
use Rattle.pm_objects.specs.declared.history.Value.TheVariants.{Refused}
use Rattle.pm_objects.specs.declared.refusal.Refusal.{Refusal}
use Rattle.pm_objects.specs.declared.refusal.Refusal.TheVariants as refusal
use Rattle.solo_view.specs.View.{View}
use Rattle.solo_world.specs.Opening.{Opening}
use Rattle.solo_world.specs.Sequences.{Sequence}
use Rattle.solo_world.specs.declared.lane.Lane.{Lane}
use Rattle.solo_world.specs.declared.lane.Span.{Span}
use Rattle.solo_tx.proofs.BorneOut.{gives_up_so}
use Rattle.solo_tx.proofs.Checked.{looks_call, looks_entries}
use Rattle.solo_tx.proofs.LearnsAtWork.{looks_none}
use Rattle.solo_tx.specs.AtWork.{IsAtWork}
use Rattle.solo_tx.specs.Calls.{HasLooked, IsGivenUpFor, IsStoppedAt, IsStoppedFor}
use Rattle.solo_tx.specs.Ending.{GivesUpBy, IsEndedBy, IsStoppedIn, MayGiveUp}
use Rattle.solo_tx.specs.Sequences.{gives_up}
use Rattle.solo_transaction.proofs.GoingWith.{old_still}
use Rattle.solo_transaction.specs.AnyRanges.{IsRangeReason, IsRefusedFor, IsStoppedAnywhere, IsStoppedRefusing}
use Rattle.solo_transaction.specs.AtWork.{IsAtWorkWith}

-- no refusal of a range allocates, nor tells of the root
none_allocated : (op : Operation) (range : Range) (reply : Option Value) (p : Pending) → range_of op ≡ Some range → LeavesReserved op reply p
none_allocated (AddRange id off len) range reply p is = (refl, refl)
none_allocated (Write id off bytes) range reply p is = (refl, refl)
none_allocated (Read id off len) range reply p is = (refl, refl)
none_allocated op range reply p is = absurd cc

no_root_told : (op : Operation) (range : Range) (reply : Option Value) (p : Pending) → range_of op ≡ Some range → (root : Option ℕ) → TellsOfRoot root op reply p
no_root_told (AddRange id off len) range reply p is root = tt
no_root_told (Write id off bytes) range reply p is root = tt
no_root_told (Read id off len) range reply p is root = tt
no_root_told op range reply p is root = absurd cc

pub may_give_up : {M : Type 0} (o : Opening) (at : M → View → Type 0) (lane : Lane M) (blocks : BlockLists) (v : View) → IsAtWorkWith o at lane blocks v → MayGiveUp v
may_give_up o at lane blocks v all = inr (all.alone, all.borne_out)

-- a refusal for such a reason gives the call up
module _ {M : Type 0} (o : Opening) (at : M → View → Type 0) (lane : Lane M) (blocks : BlockLists) (v : View) (all : IsAtWorkWith o at lane blocks v) (op : Operation) (range : Range) (of_range : range_of op ≡ Some range) where
  by_range : (r : Refusal) → IsReason v op range r → (range.id.pool ≡ v.pool → IsOldIn v range.id.off) → (r ≢ refusal.NotLocked → IsOldIn v range.id.off) → (next : View) → Tells v next op (Some (Refused r)) → TakesBack v next → WasAborted next (error.Refused r)
  by_range r reason here kept next tells back =
      refusal_aborts v next op range r lane.level all.work.level all.work.under_way (record { is_range = of_range; reason = reason; tells = tells; takes_back = back }) (λ same. (here same).found) (λ other. (kept other).kept)

  aborts : (r : Refusal) → IsRangeReason v op range r → (next : View) → Tells v next op (Some (Refused r)) → TakesBack v next → WasAborted next (error.Refused r)
  aborts r (inl found) next tells back = by_range r found.1 (λ same. found.0) (λ other. found.0) next tells back
  aborts r (inr (inl gone)) next tells back =
      subst (λ (e : Refusal). WasAborted next (error.Refused e)) (sym gone.0)
      (gone_range_aborts v next op range lane.level all.work.level all.work.under_way
      (record { is_range = of_range; gone = gone.1; tells = subst (λ (e : Refusal). Tells v next op (Some (Refused e))) gone.0 tells; takes_back = back }))
  aborts r (inr (inr (inl past))) next tells back =
      subst (λ (e : Refusal). WasAborted next (error.Refused e)) (sym past.0)
      (new_range_aborts v next op range lane.level all.work.level all.work.under_way
      (record { is_range = of_range; past = past.1; tells = subst (λ (e : Refusal). Tells v next op (Some (Refused e))) past.0 tells; takes_back = back }))
  aborts r (inr (inr (inr other))) next tells back =
      subst (λ (e : Refusal). WasAborted next (error.Refused e)) (sym other.0)
      (by_range refusal.NotLocked (λ same. absurd (other.1 same)) (λ same. absurd (other.1 same)) (λ differs. absurd (differs refl)) next (subst (λ (e : Refusal). Tells v next op (Some (Refused e))) other.0 tells) back)

  pub gives_up_by_range : (r : Refusal) → IsRangeReason v op range r → GivesUpBy v op (Some (Refused r)) (error.Refused r)
  gives_up_by_range r reason =
      gives_up_so o at lane v all.work (may_give_up o at lane blocks v all) op (Some (Refused r)) (error.Refused r) (none_allocated op range (Some (Refused r)) (pending_in v) of_range) (no_root_told op range (Some (Refused r)) (pending_in v) of_range) (aborts r reason)

-- ---- refused before anything is looked at

module _ {M : Type 0} (at : M → View → Type 0) (old new : Lane M) (blocks : BlockLists) (op : Operation) (range : Range) (of_range : range_of op ≡ Some range) (r answer : Refusal)
    (finds : (o : Opening) (v : View) → IsAtWorkWith o at old blocks v → IsRangeReason v op range r) (answers : answer ≢ refusal.Stopped → answer ≡ r) where
  pub refused_at_once : (answer ≢ refusal.Stopped → (o : Opening) (v : View) → IsAtWork o at old v → GivesUpBy v op (Some (Refused r)) (error.Refused r)
      → IsEndedBy at new v (gives_up old.records.items op (Some (Refused r)) new.last) op (Some (Refused r)))
      → answer ≢ refusal.Stopped → (o : Opening) (v : View) → IsAtWorkWith o at old blocks v → HasLooked v (IsRefusedFor at new old.records.items op range answer)
  refused_at_once ends stays o v all =
      subst (λ (a : Refusal). HasLooked v (IsRefusedFor at new old.records.items op range a)) (sym (answers stays))
      (record {
        loads = 0;
        view = v;
        looks = looks_none v;
        working = all.work.working;
        holds = record { reason = finds o v all; ended = ends stays o v all.work (gives_up_by_range o at old blocks v all op range of_range r (finds o v all)) };
      })

  pub stopped_at_once : (answer ≡ refusal.Stopped → (o : Opening) (v : View) → IsAtWork o at old v → GivesUpBy v op (Some (Refused r)) (error.Refused r)
      → IsStoppedIn at new v (gives_up old.records.items op (Some (Refused r)) new.last) op (Some (Refused r)))
      → answer ≡ refusal.Stopped → (o : Opening) (v : View) → IsAtWorkWith o at old blocks v → HasLooked v (IsStoppedRefusing at new old.records.items op range)
  stopped_at_once stops stopped o v all = record {
    loads = 0;
    view = v;
    looks = looks_none v;
    working = all.work.working;
    holds = record { refusal = r; reason = finds o v all; stopped = stops stopped o v all.work (gives_up_by_range o at old blocks v all op range of_range r (finds o v all)) };
  }

-- ---- refused as of an object that the call found

module _ {M : Type 0} (at : M → View → Type 0) (new : Lane M) (spans : List Span) (op : Operation) (range : Range) (v : View) (old : IsOldIn v range.id.off) where
  pub refused_found : (r : Refusal) → HasLooked v (λ w. IsGivenUpFor at new spans op range r w) → HasLooked v (IsRefusedFor at new spans op range r)
  refused_found r t = record {
    loads = t.loads;
    view = t.view;
    looks = t.looks;
    working = t.working;
    holds = record { reason = inl (old_still v t.view (looks_entries t.loads v t.view t.looks) (looks_call t.loads v t.view t.looks) range.id.off old, t.holds.reason); ended = t.holds.ended };
  }

  refusing : (w : View) → IsOldIn w range.id.off → IsStoppedFor at new spans op range w → IsStoppedRefusing at new spans op range w
  refusing w still t = record { refusal = t.refusal; reason = inl (still, t.reason); stopped = t.stopped }

  pub stopped_found : HasLooked v (λ w. IsStoppedFor at new spans op range w) → HasLooked v (IsStoppedRefusing at new spans op range)
  stopped_found t = record {
    loads = t.loads;
    view = t.view;
    looks = t.looks;
    working = t.working;
    holds = refusing t.view (old_still v t.view (looks_entries t.loads v t.view t.looks) (looks_call t.loads v t.view t.looks) range.id.off old) t.holds;
  }

  pub stopped_anywhere : (Can More : View → Type 0) (steps : Sequence) → ((w : View) → Can w → More w) → HasLooked v (λ w. IsStoppedAt at new spans op range Can steps w) → HasLooked v (IsStoppedAnywhere at new spans op range More steps)
  stopped_anywhere Can More steps more t = record {
    loads = t.loads;
    view = t.view;
    looks = t.looks;
    working = t.working;
    holds = ⊎_elim
        (λ (in_steps : Can t.view × IsStoppedIn at new t.view steps op None). inl (more t.view in_steps.0, in_steps.1))
        (λ (refused : IsStoppedFor at new spans op range t.view). inr (refusing t.view (old_still v t.view (looks_entries t.loads v t.view t.looks) (looks_call t.loads v t.view t.looks) range.id.off old) refused))
        t.holds;
  }

-- a lane that stopped as it refused did so anywhere
pub refusing_anywhere : {M : Type 0} (at : M → View → Type 0) (new : Lane M) (spans : List Span) (op : Operation) (range : Range) (v : View) (Can : View → Type 0) (steps : Sequence)
    → HasLooked v (IsStoppedRefusing at new spans op range) → HasLooked v (IsStoppedAnywhere at new spans op range Can steps)
refusing_anywhere at new spans op range v Can steps t = record { loads = t.loads; view = t.view; looks = t.looks; working = t.working; holds = inr t.holds }
