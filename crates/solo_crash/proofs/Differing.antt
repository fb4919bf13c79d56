-- The words of a call are what its difference makes.
use Rattle.std.proofs.Common.{◌≡◌, ⊎_elim, ℕ, true, false, sym, ◌∙◌, ap}
use Rattle.std.proofs.lemmas.Bool.{cases_Bool}
use Rattle.solo_view.specs.View.{View}
use Rattle.solo_world.specs.History.{made_final}
use Rattle.solo_world.specs.Records.{difference_of, is_recorded, pool_entries}
use Rattle.solo_world.proofs.Differences.{difference-recorded, difference-unrecorded}
use Rattle.solo_crash.specs.OpenCall.{made_words}
use Rattle.solo_crash.proofs.CallWords.{other_call_word, recorded_call_word}

pub difference_makes_call : (v : View) (w : ℕ → ℕ) (i : ℕ) → made_final (difference_of v) i (w i) ≡ made_words v w i
difference_makes_call v w i = ⊎_elim
    (λ (is : is_recorded v.log.records i ≡ true). difference-recorded v i (w i) is ∙ ap (made_final (pool_entries v) i) (sym (recorded_call_word v w i is)))
    (λ (is : is_recorded v.log.records i ≡ false). difference-unrecorded v i (w i) is ∙ ap (made_final (pool_entries v) i) (sym (other_call_word v w i is)))
    (cases_Bool (is_recorded v.log.records i))
