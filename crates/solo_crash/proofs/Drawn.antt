-- A lane that draws a whole call adds a step of the model to the history, whatever of the calls in flight is left out.
use Rattle.std.proofs.Common.{◌≡◌, ⊎_elim, ℕ, ◌<◌, Bool, true, false, List, [], ◌∷◌, ◌++◌, slice_index, None, sym, ◌∙◌, ap, subst}
use Rattle.std.proofs.lemmas.Bool.{cases_Bool}
use Rattle.std.proofs.lemmas.Option.{none-some}
use Rattle.pm_header.specs.declared.header.Header.{Header}
use Rattle.pm_objects.specs.declared.history.TxErr.{TxErr}
use Rattle.pm_objects.specs.declared.pool.PoolView.{PoolView}
use Rattle.solo_model.specs.Actions.{none_pending}
use Rattle.solo_view.specs.View.{View}
use Rattle.solo_world.specs.Course.{entry_of, flight}
use Rattle.solo_world.specs.Entries.{is_redoing}
use Rattle.solo_world.specs.History.{Entry}
use Rattle.solo_world.specs.Memory.{Memory}
use Rattle.solo_world.specs.Opening.{Opening}
use Rattle.solo_world.specs.World.{Views, World}
use Rattle.solo_crash.specs.Held.{HoldsPool}
use Rattle.solo_crash.specs.OpenCall.{IsBefore, IsGivenUp, IsWholeCall, MakesStep, made_words}
use Rattle.solo_crash.specs.Draws.{DrawsStep, KeepsDecided, kept_log, kept_words}
use Rattle.solo_crash.specs.Pending.{pending_after, pending_before, pending_from}
use Rattle.solo_crash.proofs.Begun.{no_call_words}
use Rattle.solo_crash.proofs.CallWords.{made_unentered}
use Rattle.solo_crash.proofs.Continued.{two_same}
use Rattle.solo_crash.proofs.GivenUp.{given_up_changes_nothing}
use Rattle.solo_crash.proofs.HistoryActs.{own_entries_pass, turns_history}
use Rattle.solo_crash.proofs.InFlight.{drawn_makes_words, past_calls_in_flight}

-- the words with the drawn call are those that it makes
with_drawn : (o : Opening) (keep : ℕ → Bool) (log : List Entry) (v : View) (n : ℕ) → keep n ≡ true → kept_words o keep (log ++ entry_of v n ∷ []) ≡ made_words v (kept_words o keep log)
with_drawn o keep log v n kept = (λ j i. drawn_makes_words keep log v n i (slice_index o.words) kept j)

module _ (o : Opening) (mem : Memory) (views : Views) (log : List Entry) (decided : ℕ → Bool) (x : World o mem views log decided) (keep : ℕ → Bool) (k n : ℕ) (inside : k < o.lanes) (idle : flight (views k) ≡ None) (still : is_redoing (views k).log.phase ≡ false)
    (keeps : KeepsDecided decided keep) (header : Header) (pool : PoolView) (holds : HoldsPool (kept_words o keep log) o.lanes o.zones header pool) (id : (views k).pool ≡ header.id) where
  before : IsBefore (views k) (kept_words o keep log)
  before = past_calls_in_flight o mem views log decided x keep k inside idle still keeps holds.no_fault

  of_view : HoldsPool (kept_words o keep log) (views k).lanes (views k).zones header pool
  of_view =
      two_same (λ (a b : ℕ). HoldsPool (kept_words o keep log) a b header pool) o.lanes (views k).lanes o.zones (views k).zones (sym (x.each_lane k inside).lane.lanes) (sym (x.each_lane k inside).lane.zones) holds

  made : (next : PoolView) → keep n ≡ true → HoldsPool (made_words (views k) (kept_words o keep log)) (views k).lanes (views k).zones header next
      → HoldsPool (kept_words o keep (log ++ entry_of (views k) n ∷ [])) o.lanes o.zones header next
  made next kept after =
      subst (λ (f : ℕ → ℕ). HoldsPool f o.lanes o.zones header next) (sym (with_drawn o keep log (views k) n kept))
      (two_same (λ (a b : ℕ). HoldsPool (made_words (views k) (kept_words o keep log)) a b header next) (views k).lanes o.lanes (views k).zones o.zones (x.each_lane k inside).lane.lanes (x.each_lane k inside).lane.zones after)

  -- its earlier calls are decided, and so kept
  pub own : pending_after (kept_log keep log) (views k).lane ≡ pending_before (views k)
  own =
      ap (pending_after (kept_log keep log)) (x.each_lane k inside).lane.lane
      ∙ ap (pending_from none_pending) (own_entries_pass k keep log (λ e there of. ⊎_elim
      (λ (is_decided : decided e.number ≡ true). keeps e.number is_decided)
      (λ (undecided : decided e.number ≡ false). absurd (none-some e.number (sym idle ∙ (ap (λ (j : ℕ). flight (views j)) (sym of) ∙ (x.each_entry e there).in_flight undecided))))
      (cases_Bool (decided e.number))) ∙ x.own_entries k inside)

  pub whole_draws : keep n ≡ true → IsWholeCall (views k) → DrawsStep o keep log (views k) n header pool
  whole_draws kept whole =
      let step : MakesStep (views k) (kept_words o keep log) header pool = whole.makes (kept_words o keep log) header pool of_view id before in
      record { next = step.next; holds = made step.next kept step.holds; steps = turns_history (views k) n pool step.next (kept_log keep log) own step.steps }

  pub given_up_draws : (e : TxErr) → keep n ≡ true → IsGivenUp (views k) e → (views k).log.records ≡ [] → (views k).log.entries ≡ [] → DrawsStep o keep log (views k) n header pool
  given_up_draws e kept given_up none unentered =
      record {
        next = pool;
        holds = made pool kept (subst (λ (f : ℕ → ℕ). HoldsPool f (views k).lanes (views k).zones header pool) (sym (made_unentered (views k) unentered (kept_words o keep log) ∙ no_call_words (views k) none (kept_words o keep log))) of_view);
        steps = turns_history (views k) n pool pool (kept_log keep log) own (given_up_changes_nothing (views k) e given_up (kept_words o keep log) header pool of_view id before);
      }
