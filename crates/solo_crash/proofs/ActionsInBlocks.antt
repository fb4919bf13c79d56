-- An action on an object of a pool changes words of that object's block alone.
use Rattle.std.proofs.Common.{◌≡◌, ⊎_elim, inl, inr, ℕ, ◌+◌, ◌/◌, ◌<◌, ◌≤◌, false, sym, ◌∙◌, arith}
use Rattle.std.proofs.lemmas.Bool.{cases_lt, false≢true}
use Rattle.pm_header.specs.declared.header.Header.{Header}
use Rattle.pm_objects.specs.declared.pool.PoolView.{PoolView}
use Rattle.pm_image.specs.Contents.{data_words, size_in}
use Rattle.pm_image.specs.Reads.{ReadsBlock}
use Rattle.solo_model.specs.Actions.{Action}
use Rattle.solo_view.specs.Occupancy.{is_in_block}
use Rattle.solo_crash.specs.Held.{HoldsPool}
use Rattle.solo_crash.specs.Performing.{CanPerform}
use Rattle.solo_crash.specs.Writes.{KeepsOthers}
use Rattle.solo_crash.proofs.FreeWords.{read_in_block}
use Rattle.solo_crash.proofs.Performed.{keeps_others, made}

module _ (w : ℕ → ℕ) (lanes zones : ℕ) (header : Header) (pool : PoolView) (holds : HoldsPool w lanes zones header pool) where
  pub outside_stays : (a : Action) → CanPerform w lanes zones a → (i : ℕ) → is_in_block w lanes i ≡ false → made a w i ≡ w i
  outside_stays a can i outside =
      let keeps : KeepsOthers w (made a w) can.block = keeps_others w lanes zones header pool holds a can in
      let from : ℕ = can.block.place / 8 + 8 in
      let to : ℕ = can.block.place / 8 + 8 + data_words (size_in w can.block) in
      ⊎_elim
      (λ (before : i < from). keeps.same i (inl before))
      (λ (begun : from ≤ i). ⊎_elim
      (λ (inside : i < to).
      let read : ReadsBlock w can.block i = record { from = omega arith; to = omega arith } in
      absurd (false≢true (sym outside ∙ read_in_block w lanes zones i can.block holds.no_fault can.is_there read)))
      (λ (behind : to ≤ i). keeps.same i (inr behind))
      (cases_lt i to))
      (cases_lt i from)
