-- A call that has ended, by a commit or by an abort, is a step of the model.
use Rattle.std.proofs.Common.{◌≡◌, ℕ, List, [], ap, ◌∙◌}
use Rattle.pm_header.specs.declared.header.Header.{Header}
use Rattle.pm_objects.specs.declared.history.TxErr.{TxErr}
use Rattle.pm_objects.specs.declared.pool.PoolView.{PoolView}
use Rattle.solo_view.specs.Log.{Recorded}
use Rattle.solo_view.specs.View.{View}
use Rattle.solo_world.specs.Opening.{Opening}
use Rattle.solo_world.specs.Records.{is_recorded}
use Rattle.solo_crash.specs.OneLane.{IsModelStep}
use Rattle.solo_crash.specs.CallBlocks.{MayPrecede}
use Rattle.solo_crash.specs.Held.{HoldsPool}
use Rattle.solo_crash.specs.OpenCall.{IsBefore, IsGivenUp, IsWholeCall, MakesItsStep, MakesStep, WasAborted, made_words}
use Rattle.solo_crash.proofs.CallWords.{made_unentered, other_call_word}
use Rattle.solo_crash.proofs.GivenUp.{aborted_changes_nothing}
use Rattle.solo_crash.proofs.HeapWordsAlone.{held_by_heap}

pub whole_steps : (o : Opening) (v : View) → IsWholeCall v → IsModelStep o v
whole_steps o v whole w header pool tells = whole.makes w header pool

-- without records and entries no word is the call's
aborted_makes : (v : View) (e : TxErr) → WasAborted v e → v.log.records ≡ [] → v.log.entries ≡ [] → (w : ℕ → ℕ) (header : Header) (pool : PoolView) → HoldsPool w v.lanes v.zones header pool → v.pool ≡ header.id
    → IsBefore v w → MayPrecede pool v → MakesStep v w header pool
aborted_makes v e was_aborted none unentered w header pool holds id before may = record {
  next = pool;
  holds = held_by_heap w (made_words v w) v.lanes v.zones header pool holds (λ i heap. ap (λ (f : ℕ → ℕ). f i) (made_unentered v unentered w) ∙ other_call_word v w i (ap (λ (records : List Recorded). is_recorded records i) none));
  steps = aborted_changes_nothing v e was_aborted w header pool holds id before may;
}

pub aborted_makes_its_step : (v : View) (e : TxErr) → WasAborted v e → v.log.records ≡ [] → v.log.entries ≡ [] → MakesItsStep v
aborted_makes_its_step v e was_aborted none unentered = record {
  outside = was_aborted.outside;
  makes = λ w header pool holds id before may free. aborted_makes v e was_aborted none unentered w header pool holds id before may;
}

pub given_up_steps : (o : Opening) (v : View) (e : TxErr) → IsGivenUp v e → v.log.records ≡ [] → v.log.entries ≡ [] → IsModelStep o v
given_up_steps o v e given_up none unentered w header pool tells holds id before =
    aborted_makes v e given_up.aborted none unentered w header pool holds id before (given_up.any_pool pool)
