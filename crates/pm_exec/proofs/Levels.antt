-- THE LEVELS OF AN ABORTED TRANSACTION END, the innermost first, up to the outermost.
use Rattle.std.proofs.Common.{◌≡◌, ◌≢◌, ℕ, zero, suc, ◌+◌, ◌≤◌, ◌<◌, Result, refl, ap, ◌∙◌, arith}
use Rattle.pm_objects.specs.declared.history.TxErr.{TxErr}
use Rattle.pm_objects.specs.declared.history.TxErr.TheVariants as error
use Rattle.pm_objects.specs.declared.refusal.Refusal.{Refusal}
use Rattle.pm_view.specs.View.{View}
use Rattle.pm_world.specs.declared.lane.Lane.{Lane}
use Rattle.pm_call.specs.Histories.{LaneHistory}
use Rattle.pm_call.specs.Positions.{Position, aborted_at, position_of, resting, unless_refused}
use Rattle.pm_call.specs.Stages.{Ended}
use Rattle.pm_call.specs.Standing.{StandsWith}
use Rattle.pm_tx.specs.Positions.{ended_at, ended_by}
use Rattle.pm_exec.specs.Known.{CallsAreKnown}
use Rattle.pm_exec.specs.Running.{RestsWith}

-- aborted, with so many levels left
abbrev pub left_open : TxErr → ℕ → Position
left_open e zero = resting
left_open e (suc n) = aborted_at e (suc n)

ended_is : (e : TxErr) (n : ℕ) → e ≢ error.None → ended_at e (suc n) (aborted_at e (suc n)) ≡ left_open e n
ended_is error.None n some = absurd (some refl)
ended_is error.Canceled zero some = refl
ended_is error.Canceled (suc n) some = refl
ended_is (error.User errnum) zero some = refl
ended_is (error.User errnum) (suc n) some = refl
ended_is (error.Refused r) zero some = refl
ended_is (error.Refused r) (suc n) some = refl

-- so many of the levels, all of which were open with this history, ended; so many are left
abbrev pub LevelsEnded : {M : Type 0} → (M → View → Type 0) → Lane M → Lane M → ℕ → ℕ → Type 0
LevelsEnded at old new ended all = (h : LaneHistory) (e : TxErr) (n : ℕ) → StandsWith at old h → e ≢ error.None → position_of old ≡ aborted_at e (suc n)
    → (left : ℕ) × (left + ended ≡ all) × StandsWith at new h × (position_of new ≡ left_open e left)

module _ {M : Type 0} (at : M → View → Type 0) where
  one_ended : CallsAreKnown at → (old new : Lane M) (h : LaneHistory) (e : TxErr) (n : ℕ) (result : Result TxErr Refusal) → e ≢ error.None → StandsWith at old h
      → position_of old ≡ aborted_at e (suc n) → Ended at old new result → position_of new ≡ left_open e n
  one_ended known old new h e n result some stands here did =
      let may = known.aborted old e n here in
      let returns = known.end_returns result old new h stands did may in
      known.end_moves result old new h stands did
      ∙ ((λ i. unless_refused (may i) (ended_by (returns i) (position_of old)) (position_of old))
      ∙ ((λ i. ended_at (here i).error (here i).level (here i)) ∙ ended_is e n some))

  pub none_ended : (lane : Lane M) (all : ℕ) → all ≡ lane.level → LevelsEnded at lane lane 0 all
  none_ended lane all is h e n stands some here = (suc n, (let l = ap (λ (p : Position). p.level) here in omega (arith, l, is)), stands, here)

  pub one_more_ended : CallsAreKnown at → (first old new : Lane M) (ended all : ℕ) (result : Result TxErr Refusal) → LevelsEnded at first old ended all → ended < all → Ended at old new result
      → LevelsEnded at first new (ended + 1) all
  one_more_ended known first old new ended all result so below did h e n stands some here = by_left (so h e n stands some here)
    where
      by_left : (left : ℕ) × (left + ended ≡ all) × StandsWith at old h × (position_of old ≡ left_open e left)
          → (left : ℕ) × (left + (ended + 1) ≡ all) × StandsWith at new h × (position_of new ≡ left_open e left)
      by_left (zero, sum, with_h, there) = absurd (none_below sum)
        where
          none_below : 0 + ended ≡ all → ⊥
          none_below s = omega (arith, s, below)
      by_left (suc left, sum, with_h, there) =
          (left, omega (arith, sum), known.end result old new h with_h did, one_ended known old new h e left result some with_h there did)

  pub all_ended : (first lane : Lane M) (ended all : ℕ) → LevelsEnded at first lane ended all → all ≤ ended → (h : LaneHistory) (e : TxErr) (n : ℕ) → StandsWith at first h → e ≢ error.None
      → position_of first ≡ aborted_at e (suc n) → RestsWith at lane h
  all_ended first lane ended all so above h e n stands some here = by_left (so h e n stands some here)
    where
      by_left : (left : ℕ) × (left + ended ≡ all) × StandsWith at lane h × (position_of lane ≡ left_open e left) → RestsWith at lane h
      by_left (zero, sum, with_h, there) = (with_h, there)
      by_left (suc left, sum, with_h, there) = absurd (more_left sum)
        where
          more_left : suc left + ended ≡ all → ⊥
          more_left s = omega (arith, s, above)
