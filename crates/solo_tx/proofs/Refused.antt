-- A call on a range that is refused gives up the open call, unless the lane stops before.
use Rattle.std.proofs.Common.{◌≡◌, ◌≢◌, ◌⊎◌, ⊎_elim, inl, inr, ℕ, List, Option, None, Some, true, refl, sym, ◌∙◌, subst}
use Rattle.solo_crash.proofs.GivenUp.{refusal_aborts}
use Rattle.solo_crash.specs.CallBlocks.{IsOldIn, LeavesReserved, TellsOfRoot}
use Rattle.pm_objects.specs.declared.calls.Operation.TheVariants.{AddRange, Read, Write}
use Rattle.pm_objects.specs.declared.history.Value.{Value}
use Rattle.solo_tx.proofs.BorneOut.{gives_up_so}
use Rattle.solo_crash.specs.Operations.{IsReason}
use Rattle.solo_crash.specs.Pending.{pending_in}
use Rattle.solo_model.specs.Actions.{Pending}
use Rattle.solo_model.specs.Checks.{Range, range_of}
use Rattle.pm_objects.specs.declared.calls.Operation.{Operation}
use Rattle.pm_objects.specs.declared.history.TxErr.TheVariants as error
use Rattle.pm_objects.specs.declared.history.Value.TheVariants.{Refused}
use Rattle.pm_objects.specs.declared.refusal.Refusal.{Refusal}
use Rattle.pm_objects.specs.declared.refusal.Refusal.TheVariants as refusal
use Rattle.solo_view.specs.View.{View}
use Rattle.solo_world.specs.Opening.{Opening}
use Rattle.solo_world.specs.Sequences.{Sequence}
use Rattle.solo_world.specs.declared.lane.Lane.{Lane}
use Rattle.solo_world.specs.declared.lane.Span.{Span}
use Rattle.solo_tx.proofs.Checked.{looked_giving_up}
use Rattle.solo_tx.proofs.GivenUp.{undrawn_lane}
use Rattle.solo_tx.specs.AtWork.{IsAtWork}
use Rattle.solo_tx.specs.Calls.{HasLooked, IsGivenUpFor, IsStoppedAt, IsStoppedFor}
use Rattle.solo_tx.specs.Ending.{GivesUpBy, IsEndedBy, IsLaneAtWork, IsStoppedIn, MayGiveUp}
use Rattle.solo_tx.specs.Learning.{HasChecked}
use Rattle.solo_tx.specs.Ranges.{StopsUndrawn}
use Rattle.solo_tx.specs.Sequences.{gives_up}

-- a refusal is that of a lane that stopped, or another
pub stopped_or_not : (r : Refusal) → (r ≡ refusal.Stopped) ⊎ (r ≢ refusal.Stopped)
stopped_or_not refusal.Stopped = inl refl
stopped_or_not r = inr (λ e. absurd cc)

-- a check that found no lock, or no end, found no stop
pub not_stopped : (r : Refusal) → (r ≡ refusal.NotLocked) ⊎ (r ≡ refusal.OutOfRange) → r ≢ refusal.Stopped
not_stopped r cause stopped =
    ⊎_elim (λ (e : r ≡ refusal.NotLocked). let clash : refusal.NotLocked ≡ refusal.Stopped = sym e ∙ stopped in absurd cc) (λ (e : r ≡ refusal.OutOfRange). let clash : refusal.OutOfRange ≡ refusal.Stopped = sym e ∙ stopped in absurd cc) cause

-- no refusal of a range allocates, nor tells of the root
ranged_leaves_reserved : (op : Operation) (range : Range) (reply : Option Value) (p : Pending) → range_of op ≡ Some range → LeavesReserved op reply p
ranged_leaves_reserved (AddRange id off len) range reply p is = (refl, refl)
ranged_leaves_reserved (Write id off bytes) range reply p is = (refl, refl)
ranged_leaves_reserved (Read id off len) range reply p is = (refl, refl)
ranged_leaves_reserved op range reply p is = absurd cc

ranged_tells_no_root : (op : Operation) (range : Range) (reply : Option Value) (p : Pending) → range_of op ≡ Some range → (root : Option ℕ) → TellsOfRoot root op reply p
ranged_tells_no_root (AddRange id off len) range reply p is root = tt
ranged_tells_no_root (Write id off bytes) range reply p is root = tt
ranged_tells_no_root (Read id off len) range reply p is root = tt
ranged_tells_no_root op range reply p is root = absurd cc

-- a refusal for the operation's reason gives the call up
pub gives_up_by_reason : {M : Type 0} (at : M → View → Type 0) (lane : Lane M) (o : Opening) (v : View) → IsAtWork o at lane v → (op : Operation) (range : Range) (r : Refusal) → IsOldIn v range.id.off → MayGiveUp v
    → range_of op ≡ Some range → IsReason v op range r → GivesUpBy v op (Some (Refused r)) (error.Refused r)
gives_up_by_reason at lane o v is op range r found may of_range reason =
    gives_up_so o at lane v is may op (Some (Refused r)) (error.Refused r) (ranged_leaves_reserved op range (Some (Refused r)) (pending_in v) of_range) (ranged_tells_no_root op range (Some (Refused r)) (pending_in v) of_range)
    (λ next tells back. refusal_aborts v next op range r lane.level is.level is.under_way (record { is_range = of_range; reason = reason; tells = tells; takes_back = back }) (λ same. found.found) (λ other. found.kept))

module _ {M : Type 0} (at : M → View → Type 0) (old mid new : Lane M) (op : Operation) (range : Range) (of_range : range_of op ≡ Some range) (r answer : Refusal) where
  -- what a refusal leaves, and what a stop does
  abbrev Ends : List Span → Type 0
  Ends spans = answer ≢ refusal.Stopped → (o : Opening) (v : View) → IsAtWork o at mid v → GivesUpBy v op (Some (Refused r)) (error.Refused r) → IsEndedBy at new v (gives_up spans op (Some (Refused r)) new.last) op (Some (Refused r))

  abbrev Stops : List Span → Type 0
  Stops spans =
      r ≢ refusal.Stopped → answer ≡ refusal.Stopped → (o : Opening) (v : View) → IsAtWork o at mid v → GivesUpBy v op (Some (Refused r)) (error.Refused r)
      → IsStoppedIn at new v (gives_up spans op (Some (Refused r)) new.last) op (Some (Refused r))

  -- the check found the reason
  abbrev Finds : Type 0
  Finds = r ≢ refusal.Stopped → (o : Opening) (v : View) → IsAtWork o at old v → HasChecked o at mid v (λ w. IsReason w op range r)

  -- some view is at work still
  pub still_at_work : IsLaneAtWork at old → Finds → r ≢ refusal.Stopped → IsLaneAtWork at mid
  still_at_work is finds stays = let t = finds stays is.0 is.1.0 is.1.1 in (is.0, (t.view, t.works))

  -- what is answered is the reason, where the lane did not stop
  abbrev Answers : Type 0
  Answers = (r ≡ refusal.Stopped → answer ≡ refusal.Stopped) × (answer ≢ refusal.Stopped → answer ≡ r)

  module _ (finds : Finds) (kept : r ≢ refusal.Stopped → mid.records.items ≡ old.records.items) (answers : Answers) where
    pub given_up_for : Ends mid.records.items → answer ≢ refusal.Stopped → (o : Opening) (v : View) → IsAtWork o at old v → IsOldIn v range.id.off → MayGiveUp v → HasLooked v (λ w. IsGivenUpFor at new old.records.items op range answer w)
    given_up_for ends stays o v work found may =
        let goes : r ≢ refusal.Stopped = λ e. stays (answers.0 e) in
        subst (λ (a : Refusal). HasLooked v (λ w. IsGivenUpFor at new old.records.items op range a w)) (sym (answers.1 stays))
        (looked_giving_up o at mid v (λ w. IsReason w op range r) (λ w. IsGivenUpFor at new old.records.items op range r w) range.id.off (finds goes o v work) found may
        (λ w works found_still may_still reason. record {
          reason = reason;
          ended =
              subst (λ (spans : List Span). IsEndedBy at new w (gives_up spans op (Some (Refused r)) new.last) op (Some (Refused r))) (kept goes) (ends stays o w works (gives_up_by_reason at mid o w works op range r found_still may_still of_range reason));
        }))

    pub stopped_for : Stops mid.records.items → r ≢ refusal.Stopped → answer ≡ refusal.Stopped → (o : Opening) (v : View) → IsAtWork o at old v → IsOldIn v range.id.off → MayGiveUp v → HasLooked v (λ w. IsStoppedFor at new old.records.items op range w)
    stopped_for stops goes stopped o v work found may =
        looked_giving_up o at mid v (λ w. IsReason w op range r) (λ w. IsStoppedFor at new old.records.items op range w) range.id.off (finds goes o v work) found may
        (λ w works found_still may_still reason. record {
          refusal = r;
          reason = reason;
          stopped =
              subst (λ (spans : List Span). IsStoppedIn at new w (gives_up spans op (Some (Refused r)) new.last) op (Some (Refused r))) (kept goes) (stops goes stopped o w works (gives_up_by_reason at mid o w works op range r found_still may_still of_range reason));
        })

    module _ (Can : View → Type 0) (steps : Sequence) (cut : r ≡ refusal.Stopped → (o : Opening) (v : View) → IsAtWork o at old v → HasLooked v (λ w. Can w × StopsUndrawn (at mid.memory) w steps)) (at_once : r ≡ refusal.Stopped → new ≡ record mid { stopped = true }) (drawn : mid.drawn ≡ old.drawn) where
      -- the lane stopped in the steps of the operation
      stopped_in_steps : r ≡ refusal.Stopped → (o : Opening) (v : View) → IsAtWork o at old v → HasLooked v (λ w. IsStoppedAt at new old.records.items op range Can steps w)
      stopped_in_steps e o v work =
          let t = cut e o v work in
          let s : StopsUndrawn (at mid.memory) t.view steps = t.holds.1 in
          let in_steps : IsStoppedIn at (record mid { stopped = true }) t.view steps op None = record {
            ready = s.ready;
            draws = s.draws;
            stops = s.stops;
            stopped = refl;
            drawn = drawn ∙ (undrawn_lane at old v work.seen work.working.undrawn ∙ sym s.number);
            came = record { told = inl s.number; entries = inl (s.number, s.entries) };
          } in
          record { loads = t.loads; view = t.view; looks = t.looks; working = t.working; holds = inl (t.holds.0, subst (λ (lane : Lane M). IsStoppedIn at lane t.view steps op None) (sym (at_once e)) in_steps) }

      pub stopped_at : Stops mid.records.items → answer ≡ refusal.Stopped → (o : Opening) (v : View) → IsAtWork o at old v → IsOldIn v range.id.off → MayGiveUp v → HasLooked v (λ w. IsStoppedAt at new old.records.items op range Can steps w)
      stopped_at stops stopped o v work found may = ⊎_elim (λ (e : r ≡ refusal.Stopped). stopped_in_steps e o v work)
          (λ (goes : r ≢ refusal.Stopped).
          let t = stopped_for stops goes stopped o v work found may in record { loads = t.loads; view = t.view; looks = t.looks; working = t.working; holds = inr t.holds })
          (stopped_or_not r)
