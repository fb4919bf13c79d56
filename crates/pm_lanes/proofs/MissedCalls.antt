-- A CALL THAT ENDED AS NoObject has its cause: its lane saw why, and the run of the lanes tells after
-- which number no object stood there.
use Rattle.std.proofs.Common.{◌≡◌, ◌⊎◌, ℕ, true, ◌<◌, ◌%◌, ⊎_elim, List, inl, inr, refl, arith}
use Rattle.std.proofs.lemmas.Bool.{eqb-true}
use Rattle.pm_objects.specs.declared.calls.Operation.{Operation}
use Rattle.pm_view.specs.View.{View}
use Rattle.pm_world.specs.Causes.{drawn_by}
use Rattle.pm_crash.specs.Answers.{NoObjectAt, ReportCauses}
use Rattle.pm_crash.specs.Facts.{HasNoObjectCause, HaveFacts}
use Rattle.pm_crash.specs.Missed.{SawEmptyRun, lists_before}
use Rattle.pm_crash.proofs.KnownClasses as classes
use Rattle.pm_crash.proofs.Missing as missing
use Rattle.pm_crash.proofs.NoObjects as objects
use Rattle.pm_model.specs.Transaction.{is_gone}
use Rattle.pm_shared.proofs.BareRuns.{calls_tell_none}
use Rattle.pm_shared.specs.Closings.{Closes}
use Rattle.pm_shared.specs.Openings.{fixed_of, generation_of, opening_of}
use Rattle.pm_shared.specs.declared.rule.Beginning.{Beginning}
use Rattle.pm_lanes.specs.Closed.{AllAreBack, AllHaveFacts, EntriesAreBefore, HasMissCause}
use Rattle.pm_lanes.specs.Closed.{LackedObject, MissedCallsHaveCauses}
use Rattle.pm_lanes.specs.Opens.{IsOpened}
use Rattle.pm_lanes.proofs.Closed.{again, facts, footprints, id_is, of_lanes, opens}

module _ (before layout words image : List ℕ) (b : Beginning) (back : List View)
    (opened : IsOpened before layout b.words.items b.shape b.pool)
    (closed : Closes b back words) (all : AllAreBack b.lanes back) (each : AllHaveFacts back)
    (call : ℕ) (inside : call < closed.last.past.length) where
  -- up to the number no object stood there
  lacked : (off : ℕ)
      → NoObjectAt (opening_of b) closed.last.past (drawn_by closed.last.past call) call off
      → LackedObject b closed.last opened.pool image call off
  lacked off cause = record {
    number = cause.number;
    least = cause.least;
    below = cause.below;
    leads = missing.images (opening_of b) closed.last.views closed.last.past
        (again before layout b opened).header opened.pool image
        (footprints b back words closed (again before layout b opened).header.id
        (id_is before layout b opened))
        (facts b back words closed (again before layout b opened).header.id
        (id_is before layout b opened) all each)
        (opens before layout b opened) (drawn_by closed.last.past call) call off
        (omega (arith, inside)) cause;
  }

  -- no lane saw a run of blocks without lines
  no_empty_run : SawEmptyRun (closed.last.past.drew call).claims → ⊥
  no_empty_run saw =
      let run : saw.descriptor % 256 ≡ 1 = eqb-true (saw.descriptor % 256) 1 saw.run in
      let empty = saw.empty in
      calls_tell_none b back words closed call inside saw.chunk saw.descriptor saw.saw
      (omega (arith, run, empty))

  cause_of : (op : Operation)
      → HasNoObjectCause (opening_of b) b.pool closed.last.past call op
      → HasMissCause b closed.last opened.pool image call op
  cause_of op is = record {
    id = is.id;
    named = is.named;
    why = ⊎_elim
        (λ other. inl other)
        (λ (rest : NoObjectAt (opening_of b) closed.last.past (drawn_by closed.last.past call)
        call is.id.off ⊎ (SawEmptyRun (closed.last.past.drew call).claims
        ⊎ (is_gone (lists_before (closed.last.past.drew call)) is.id.off ≡ true))).
        ⊎_elim
        (λ none. inr (inl (lacked is.id.off none)))
        (λ (last : SawEmptyRun (closed.last.past.drew call).claims
        ⊎ (is_gone (lists_before (closed.last.past.drew call)) is.id.off ≡ true)).
        ⊎_elim (λ saw. absurd (no_empty_run saw)) (λ gone. inr (inr gone)) last)
        rest)
        is.why;
  }

pub have_causes : MissedCallsHaveCauses
have_causes before layout words image b back call op opened closed all each inside last =
    let now = closed.last in
    let run = closed.run in
    let begins = run.begins in
    let causes : ReportCauses (opening_of b) now.mem now.views now.past =
    missing.runs (opening_of b) (fixed_of b) (generation_of b) run.turns run.begun now begins.world
    begins.taken begins.no_call begins.views_are run.run in
    ⊎_elim
    (λ (is : HasNoObjectCause (opening_of b) b.pool now.past call op).
    inl (cause_of before layout words image b back opened closed all each call inside op is))
    (λ late. inr late)
    (objects.have_causes (opening_of b) b.pool now.mem now.views now.past closed.world
    (footprints b back words closed b.pool refl) causes
    (λ k low. classes.runs (opening_of b) (fixed_of b) (generation_of b) run.turns run.begun now
    begins.world begins.views_are run.run k)
    (of_lanes b back words closed HaveFacts all each) call op inside last)

pub entries_before : EntriesAreBefore
entries_before b back words call closed inside =
    (footprints b back words closed b.pool refl).entries call inside
