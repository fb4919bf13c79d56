-- THE OUTERMOST LEVEL OF A CALL WITHOUT ENTRIES MAY BE COMMITTED, whatever number it takes; and the call is over then.
use Rattle.std.proofs.Common.{◌≡◌, ◌≢◌, ℕ, suc, ◌+◌, ◌*◌, inl, inr, true, ◌==◌, List, [], ◌∷◌, ◌++◌, length, map, refl, sym, ap, ◌∙◌, subst, arith, None, Some}
use Rattle.std.proofs.lemmas.Bool.{cond-false, ne_eqb}
use Rattle.std.proofs.lemmas.List.Elements.{All-nil}
use Rattle.pm_layout.specs.Areas.{word_of_generation, word_of_seal}
use Rattle.pm_model.specs.Pending.{SetWord}
use Rattle.pm_objects.specs.declared.calls.Operation.TheVariants.{Commit}
use Rattle.pm_record.specs.declared.redo.Redo.{Redo}
use Rattle.pm_view.specs.Claims.{header_in}
use Rattle.pm_view.specs.Log.{Idle, Recorded, new_log}
use Rattle.pm_view.specs.Places.{Place}
use Rattle.pm_view.specs.Steps.{Step}
use Rattle.pm_view.specs.Steps.Step.{Draw, Tell}
use Rattle.pm_view.specs.View.{View}
use Rattle.pm_view.specs.Views.{after, after_all, value_in}
use Rattle.pm_world.specs.LaneFields.{Standing, last_number, moved}
use Rattle.pm_world.specs.Lawful.{MayDraw}
use Rattle.pm_world.specs.Sights.{is_recorded}
use Rattle.pm_crash.specs.Calls.{Fact}
use Rattle.pm_crash.specs.Facts.{HaveFacts}
use Rattle.pm_crash.specs.Looked.{IsChanged}
use Rattle.pm_crash.specs.Sim.{lists_of}
use Rattle.pm_crash.specs.SimCommits.{sets_at}
use Rattle.pm_crash.proofs.EntryFacts.{draws_keep_facts, records_no_miss, told_plainly}
use Rattle.pm_crash.proofs.Rollbacks.{committed_calls}
use Rattle.pm_crash.proofs.Simulation.{no_turn}
use Rattle.pm_crash.proofs.Telling.{tells_grow}
use Rattle.pm_plan.specs.Notes.{AreNotes, Note}
use Rattle.pm_plan.specs.Plans.{Ready, in_turn, one, persists_all}
use Rattle.pm_plan.proofs.Going.{persists_all_lawful}
use Rattle.pm_plan.proofs.Plans.{after_all-append, ready_both}
use Rattle.pm_undo.specs.Plans.{retires}
use Rattle.pm_undo.specs.Working.{CanRetire, IsRetired}
use Rattle.pm_undo.proofs.Retired.{retire_lawful}
use Rattle.pm_call.specs.At.{At, IsAt, set_entry}
use Rattle.pm_call.specs.Commits.{LeavesCommitted, generation_left}
use Rattle.pm_call.specs.Did.{IsOver}
use Rattle.pm_call.specs.Finishing.{CanEndRecords}
use Rattle.pm_call.specs.GivenUp.{generation_after}
use Rattle.pm_call.specs.Plans.{commits, ends_call, ends_records}
use Rattle.pm_call.specs.Waiting.{HasPending, uncalled}
use Rattle.pm_call.proofs.InnerLevels.{commit_unrefused_at, ran_commit, sets_none}
use Rattle.pm_call.proofs.Frames.{noting}
use Rattle.pm_call.proofs.Noting.{data_told}
use Rattle.pm_call.proofs.OverCalls.{ClaimsStand, claims_at_work, claims_ended, claims_noted, ended_pending, over_by, size_no_generation}
use Rattle.pm_call.proofs.Persisted.{IsDrained, drained_at, drained_by, drained_view}
use Rattle.pm_call.proofs.RangeReads.{begun_more}
use Rattle.pm_call.proofs.Staying.{has_pending}

no_sets : (sets : List SetWord) → [] ≡ map set_entry sets → sets ≡ []
no_sets [] e = refl
no_sets (a ∷ sets) e = absurd cc

module _ (s : Standing) (at : At s) (one_ : s.level ≡ 1) (none : s.entries ≡ []) (records : List Recorded) (are : s.view.log.records ≡ records) where
  abbrev v : View
  v = s.view

  pub d : IsDrained s.view (after_all s.view (persists_all s.view)) records
  d = drained_by s.view at.working at.unbumped records are

  abbrev p : View
  p = drained_view s s.level at records are (after_all s.view (persists_all s.view)) d

  here : IsAt (moved s p) s.level
  here = drained_at s s.level at records are (after_all s.view (persists_all s.view)) d

  abbrev told : View
  told = after p (Tell Commit None)

  abbrev pub done : ℕ → View
  done n = after told (Draw n)

  level_is : (lists_of p).level ≡ 1
  level_is = here.lists.level_is ∙ one_

  sets_empty : [] ≡ sets_at (lists_of p).level (lists_of p).sets
  sets_empty = sym (ap (λ l. sets_at l (lists_of p).sets) level_is ∙ no_sets (lists_of p).sets (sym none ∙ here.lists.sets))

  changed : (q : Place) → is_recorded told.log.records q ≡ true → IsChanged told q
  changed q e = let x = data_told p told.call told.actions told.published here.sound q (here.recorded q e) in (x.object.block, x.index, x.at, x.within, inr (x.found, x.object.object.inside, x.data_))

  -- ---- its call has its fact
  fact : Fact told
  fact = committed_calls p told None (ran_commit (moved s p) s.level here) here.sim
      (record { keeps = record { fixed = refl; entries = refl }; call = refl })
      (inr here.lists.works)
      (λ kept. tells_grow p Commit None kept)
      (record {
        commits = refl;
        replied = refl;
        looks = (commit_unrefused_at (moved s p) s.level here).looks;
        unrefused = (commit_unrefused_at (moved s p) s.level here).none;
        settings = [];
        are = sets_empty;
        sets = sets_none p told (λ q b. refl);
      })
      level_is
      (begun_more p.call (record { operation = Commit; reply = None }) here.begun)
      refl
      changed

  may_draw : MayDraw told
  may_draw = record {
    is_open = refl;
    whole = (refl, refl);
    first = here.number.none;
    drained = inl refl;
    found = here.number.seen;
    seen = here.number.told;
    below = here.number.below;
    new_blocks = λ B e. absurd (let z : Some true ≡ None = sym e ∙ no_turn B in cc);
    root = All-nil _;
    entries = inl refl;
  }

  facts : (n : ℕ) → HaveFacts (done n)
  facts n = draws_keep_facts told n fact (told_plainly p.call Commit told.seen) (records_no_miss told p.call Commit refl) here.facts

  -- ---- and then it holds what it held
  done_claims : (n : ℕ) → ClaimsStand (done n) s.locks
  done_claims n = claims_ended p Commit None n s.locks (claims_at_work (moved s p) s.level s.locks here)

  done_pending : (n : ℕ) → HasPending (uncalled (done n))
  done_pending n = ended_pending p Commit None n (λ q. refl) refl here.pending

  over_then : (n : ℕ) (notes : List Note) (calls : List Step) (generation : ℕ) → AreNotes v.fixed.shape p.claims notes
      → ((u : ℕ) → u ≢ word_of_generation v.fixed.shape v.fixed.lane → value_in (noting (done n) notes [] calls (new_log Idle generation)) u ≡ value_in (done n) u)
      → value_in (noting (done n) notes [] calls (new_log Idle generation)) (word_of_generation v.fixed.shape v.fixed.lane) ≡ Some generation
      → value_in (noting (done n) notes [] calls (new_log Idle generation)) (word_of_seal v.fixed.shape v.fixed.lane) ≡ Some 0
      → IsOver (moved s (noting (done n) notes [] calls (new_log Idle generation)))
  over_then n notes calls generation each others known sealed = over_by (moved s (noting (done n) notes [] calls (new_log Idle generation))) refl refl known sealed (facts n)
      (has_pending (uncalled (done n)) (uncalled (noting (done n) notes [] calls (new_log Idle generation))) refl refl (done_pending n))
      (claims_noted (done n) notes [] calls (new_log Idle generation) each s.locks
      (λ B found inside. others (8 * header_in v.fixed.shape p.claims B + 1) (size_no_generation p here.working.lane B inside))
      (done_claims n))

-- WHAT THE END OF THE RECORDS LEAVES
record EndsBy (s : Standing) (u : View) (steps : List Step) (records : List Recorded) (number : ℕ) : Type 0 where
  pub ready : Ready u steps
  pub over : IsOver (moved s (after_all u steps))
  pub generation : (after_all u steps).log.generation ≡ generation_after records s.view.log.generation
  pub number_is : last_number (after_all u steps).entries ≡ number
  pub fixed : (after_all u steps).fixed ≡ s.view.fixed
  pub pending : (after_all u steps).actions ≡ s.view.actions

abbrev Ends : Standing → View → List Recorded → ℕ → Type 0
Ends s u records number = EndsBy s u (ends_records u) records number

module _ (s : Standing) (at : At s) (one_ : s.level ≡ 1) (none : s.entries ≡ []) (n : ℕ) where
  ends_none : (are : s.view.log.records ≡ []) → Ends s (done s at one_ none [] are n) [] (suc n)
  unfolding Ready after_all
  ends_none are = record {
    ready = tt;
    over = over_then s at one_ none [] are n [] (done s at one_ none [] are n).calls s.view.log.generation tt (λ u far. refl) (here s at one_ none [] are).working.known (here s at one_ none [] are).sealed;
    generation = refl;
    number_is = refl;
    fixed = refl;
    pending = refl;
  }

  module _ (r : Recorded) (rest : List Recorded) (are : s.view.log.records ≡ r ∷ rest) where
    abbrev u : View
    u = done s at one_ none (r ∷ rest) are n

    can : CanRetire u
    can = let h = here s at one_ none (r ∷ rest) are in record {
      ends = tt;
      whole = (refl, refl);
      unentered = refl;
      below = h.working.below;
      lane = h.working.lane;
      unmaking = h.working.unmaking;
      drained = refl;
      known = h.working.known;
    }

    abbrev w : View
    w = after_all u (retires u)

    t : IsRetired u w
    t = (retire_lawful u can).1

    abbrev final : View
    final = noting u t.noted.notes [] w.calls (new_log Idle (s.view.log.generation + 1))

    same : w ≡ final
    same = t.same ∙ ap (λ c. record u { claims = c; changes = []; calls = w.calls; log = new_log Idle (s.view.log.generation + 1) }) t.noted.are

    others : (y : ℕ) → y ≢ word_of_generation s.view.fixed.shape s.view.fixed.lane → value_in final y ≡ value_in u y
    others y far = sym (ap (λ (z : View). value_in z y) same) ∙ t.others y far

    known : value_in final (word_of_generation s.view.fixed.shape s.view.fixed.lane) ≡ Some (s.view.log.generation + 1)
    known = sym (ap (λ (y : View). value_in y (word_of_generation s.view.fixed.shape s.view.fixed.lane)) same) ∙ t.next

    sealed : value_in final (word_of_seal s.view.fixed.shape s.view.fixed.lane) ≡ Some 0
    sealed = others (word_of_seal s.view.fixed.shape s.view.fixed.lane) (λ e. omega (arith, e)) ∙ (here s at one_ none (r ∷ rest) are).sealed

    ends_some : Ends s (done s at one_ none (r ∷ rest) are n) (r ∷ rest) (suc n)
    ends_some = subst (λ (steps : List Step). EndsBy s u steps (r ∷ rest) (suc n)) (sym (cond-false (suc (length rest) == 0) [] (retires u) (ne_eqb (suc (length rest)) 0 (λ e. omega (arith, e))))) (record {
      ready = (retire_lawful u can).0;
      over = subst (λ (y : View). IsOver (moved s y)) (sym same) (over_then s at one_ none (r ∷ rest) are n t.noted.notes w.calls (s.view.log.generation + 1) t.noted.each others known sealed);
      generation = ap (λ (y : View). y.log.generation) same;
      number_is = ap (λ (y : View). last_number y.entries) same;
      fixed = ap (λ (y : View). y.fixed) same;
      pending = ap (λ (y : View). y.actions) same;
    })

  ends_by : (records : List Recorded) (are : s.view.log.records ≡ records) → Ends s (done s at one_ none records are n) records (suc n)
  ends_by [] are = ends_none are
  ends_by (r ∷ rest) are = ends_some r rest are

  -- ---- the steps
  abbrev recs : List Recorded
  recs = s.view.log.records

  abbrev u_ : View
  u_ = done s at one_ none recs refl n

  abbrev steps : List Step
  steps = Tell Commit None ∷ Draw n ∷ ends_records (done s at one_ none recs refl n)

  end_ : Ends s (done s at one_ none recs refl n) recs (suc n)
  end_ = ends_by recs refl

  abbrev w_ : View
  w_ = after_all s.view (persists_all s.view)

  drained_same : w_ ≡ p s at one_ none recs refl
  drained_same = (d s at one_ none recs refl).same

  steps_at : (y : View) → in_turn (ends_call Commit None n) ends_records y ≡ Tell Commit None ∷ Draw n ∷ ends_records (after (after y (Tell Commit None)) (Draw n))
  unfolding in_turn one after_all
  steps_at y = refl

  plan_is : (found : ℕ → ℕ) → commits s.entries found n s.view ≡ persists_all s.view ++ steps
  unfolding in_turn
  plan_is found = ap (λ (es : List Redo). commits es found n s.view) none
      ∙ ap (λ z. persists_all s.view ++ z) (steps_at w_ ∙ ap (λ (y : View). Tell Commit None ∷ Draw n ∷ ends_records (after (after y (Tell Commit None)) (Draw n))) drained_same)

  steps_ready : Ready w_ steps
  unfolding Ready
  steps_ready = subst (λ (y : View). Ready y steps) (sym drained_same) (refl, tt, (may_draw s at one_ none recs refl, tt, end_.ready))

  told_so : (y : View) → after_all y steps ≡ after_all (after (after y (Tell Commit None)) (Draw n)) (ends_records (done s at one_ none recs refl n))
  unfolding after_all
  told_so y = refl

  ends_at : (found : ℕ → ℕ) → after_all s.view (commits s.entries found n s.view) ≡ after_all (done s at one_ none recs refl n) (ends_records (done s at one_ none recs refl n))
  ends_at found = ap (after_all s.view) (plan_is found)
      ∙ (after_all-append s.view (persists_all s.view) steps
      ∙ (told_so w_ ∙ ap (λ (y : View). after_all (after (after y (Tell Commit None)) (Draw n)) (ends_records (done s at one_ none recs refl n))) drained_same))

  pub leaves_committed : (found : ℕ → ℕ) → LeavesCommitted s found n
  leaves_committed found = record {
    unrefused = commit_unrefused_at s s.level at;
    ready = subst (Ready s.view) (sym (plan_is found)) (ready_both s.view (persists_all s.view) steps (persists_all_lawful s.view).0 steps_ready);
    over = subst (λ (y : View). IsOver (moved s y)) (sym (ends_at found)) end_.over;
    generation = ap (λ (y : View). y.log.generation) (ends_at found) ∙ (end_.generation ∙ sym (ap (λ (es : List Redo). generation_left es recs s.view.log.generation) none));
    number = ap (λ (y : View). last_number y.entries) (ends_at found) ∙ end_.number_is;
    fixed = ap (λ (y : View). y.fixed) (ends_at found) ∙ end_.fixed;
    pending = ap (λ (y : View). y.actions) (ends_at found) ∙ end_.pending;
  }

  -- ---- and so do its parts, once all is persistent
  ends_after : (y : View) → after_all y (ends_call Commit None n y) ≡ after (after y (Tell Commit None)) (Draw n)
  unfolding in_turn one after_all
  ends_after y = refl

  retires_then : (records : List Recorded) (are : s.view.log.records ≡ records) → CanEndRecords (done s at one_ none records are n)
  unfolding CanEndRecords
  retires_then [] are some = absurd (some refl)
  retires_then (r ∷ rest) are some = can r rest are

  pub numbers_ready : Ready (after_all s.view (persists_all s.view)) (ends_call Commit None n (after_all s.view (persists_all s.view)))
  unfolding Ready in_turn one
  numbers_ready = subst (λ (y : View). Ready y (Tell Commit None ∷ Draw n ∷ [])) (sym drained_same) (refl, tt, (may_draw s at one_ none recs refl, tt, tt))

  pub numbers_then : CanEndRecords (after_all (after_all s.view (persists_all s.view)) (ends_call Commit None n (after_all s.view (persists_all s.view))))
  numbers_then = subst CanEndRecords (sym (ends_after w_ ∙ ap (λ (y : View). after (after y (Tell Commit None)) (Draw n)) drained_same)) (retires_then recs refl)
