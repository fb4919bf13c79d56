-- A lane that may publish may make each part of it, and where each was made, or stopped, so was the whole.
use Rattle.std.proofs.Common.{◌≡◌, ℕ, List, [], ◌∷◌, ◌++◌, None, Ok, Err, OnErr, Result, refl, sym, ap, ◌∙◌, subst}
use Rattle.solo_memory.specs.Runs.{Ran}
use Rattle.solo_memory.specs.declared.lane_mem.Stopped.{Stopped}
use Rattle.pm_objects.specs.declared.calls.Operation.{Operation}
use Rattle.pm_record.specs.declared.redo.Redo.{Redo}
use Rattle.solo_redo.specs.Entering.{IsSeenInPool, ending}
use Rattle.solo_redo.specs.Sequences.{ending_of, logs, performs}
use Rattle.solo_view.proofs.SameLane.{same_lane-after_all}
use Rattle.solo_view.specs.View.{View}
use Rattle.solo_view.specs.Views.{after_all}
use Rattle.solo_world.proofs.Sequencing.{ready_left, ready_right, runs_then}
use Rattle.solo_world.specs.Sequences.{IsMade, IsReady, Ready, Runs, in_turn, one}
use Rattle.solo_tx.proofs.KeptGeneration.{logs_generation}
use Rattle.solo_tx.proofs.Published.{end_ready, ending_behind, perform_may, perform_ready, written}
use Rattle.solo_tx.specs.Ending.{IsReadyForAny}
use Rattle.solo_tx.specs.Publishing.{MayPublish, StopsPublished, logged_view, published_view}
use Rattle.solo_tx.specs.Sequences.{ends_call, performs_logged, publishes}

-- logging leaves the entry that ends the generation as it was, and so does the end of the call
logged_ending : (v : View) (entries : List Redo) → ending (logged_view v entries) ≡ ending v
logged_ending v entries = (λ j. ending_of ((same_lane-after_all v (logs entries v)).lane j) (logs_generation entries v j))

ended_ending : (v : View) (operation : Operation) (n : ℕ) → ending (after_all v (ends_call operation None n v)) ≡ ending v
unfolding ends_call in_turn one after_all
ended_ending v operation n = refl

module _ (old : View → Type 0) (entries : List Redo) (may : (v : View) × (old v × MayPublish v entries)) where
  abbrev v : View
  v = may.0

  pub log_ready : IsReady old (logs entries)
  unfolding IsReady
  log_ready = (v, (may.1.0, (written v entries may.1.1).0))

  module _ {T : Type 0} (mid : View → Type 0) (answer : T) (ran : Runs old mid (logs entries) (Ok answer)) (operation : Operation) where
    there : mid (logged_view v entries)
    unfolding Runs
    there = ran v may.1.0 (written v entries may.1.1).0

    pub may_end : IsReadyForAny mid (ends_call operation None)
    unfolding IsReadyForAny
    may_end = (logged_view v entries, (there, end_ready v entries may.1.1 operation))

    module _ (behind : View → Type 0) (n : ℕ) (made : IsMade mid behind (ends_call operation None n)) where
      drawn_there : behind (published_view v entries operation n)
      unfolding Runs
      drawn_there = made (logged_view v entries) there (end_ready v entries may.1.1 operation n)

      pub may_place : IsSeenInPool behind
      may_place = (published_view v entries operation n, (drawn_there, (perform_may v entries may.1.1 operation n).place))

      pub may_perform : (listed : List Redo) → ((u : View) → old u → listed ≡ entries ++ ending u ∷ []) → IsReady behind (performs listed)
      unfolding IsReady performs_logged
      may_perform listed is =
          let d : View = published_view v entries operation n in (
            d,
            (
              drawn_there,
              subst (λ (all : List Redo). Ready d (performs all d))
                  (ap (λ e. entries ++ e ∷ []) (ending_behind v entries may.1.1 operation n) ∙ sym (is v may.1.0)) (perform_ready v entries may.1.1 operation n),
            ),
          )

module _ {T : Type 0} (old mid behind new : View → Type 0) (entries listed : List Redo) (operation : Operation) (n : ℕ) (answer : T) (ran : Runs old mid (logs entries) (Ok answer))
    (is : (v : View) → old v → listed ≡ entries ++ ending v ∷ []) (made : IsMade mid behind (ends_call operation None n)) where
  -- the list has the entry that ends the generation of the view
  abbrev Knows : (View → Type 0) → View → Type 0
  Knows at u = at u × (listed ≡ entries ++ ending u ∷ [])

  known_logged : Runs old (Knows mid) (logs entries) (Ok answer)
  unfolding Runs
  known_logged v seen ready = (ran v seen ready, is v seen ∙ ap (λ e. entries ++ e ∷ []) (sym (logged_ending v entries)))

  known_ended : IsMade (Knows mid) (Knows behind) (ends_call operation None n)
  unfolding Runs
  known_ended u known ready = (made u known.0 ready, known.1 ∙ ap (λ e. entries ++ e ∷ []) (sym (ended_ending u operation n)))

  module _ (result : Result (Unit {0}) Stopped) (done : Runs behind new (performs listed) result) where
    known_performed : Runs (Knows behind) new (performs_logged entries) result
    unfolding Runs performs_logged
    known_performed d known ready = subst (λ (all : List Redo). Ran new d (performs all d) result) known.1 (done d known.0 (subst (λ (all : List Redo). Ready d (performs all d)) (sym known.1) ready))

    pub published : Runs old new (publishes entries operation n) result
    unfolding publishes
    published =
        runs_then old (Knows mid) new (logs entries) (in_turn (ends_call operation None n) (performs_logged entries)) answer result known_logged
        (runs_then (Knows mid) (Knows behind) new (ends_call operation None n) (performs_logged entries) tt result known_ended known_performed)

  stops_behind : (stopped : Stopped) → Runs {T = Unit {0}} behind new (performs listed) (Err stopped) → StopsPublished old new entries operation n
  unfolding Runs publishes in_turn
  stops_behind stopped done v seen ready =
      let first = logs entries v in
      let m : View = logged_view v entries in
      let ends = ends_call operation None n m in
      let d : View = published_view v entries operation n in
      let rest = ready_right v first (ends ++ performs_logged entries d) ready in
      let logged = known_logged v seen (ready_left v first (ends ++ performs_logged entries d) ready) in
      let ended = known_ended m logged (ready_left m ends (performs_logged entries d) rest) in
      known_performed (Err stopped) done d ended (ready_right m ends (performs_logged entries d) rest)

  -- the lane stopped as the log was performed
  pub stops_published : (result : Result (Unit {0}) Stopped) → Runs behind new (performs listed) result → OnErr result (StopsPublished old new entries operation n)
  stops_published (Ok done) ran = tt
  stops_published (Err stopped) ran = stops_behind stopped ran
