-- A lane that stopped made as many counted calls as its stop number says, and no lane makes more.
use Rattle.std.proofs.Common.{◌≡◌, ℕ, ◌<◌, ◌≤◌, ◌%◌, ◌^◌, Option, Some, None, refl, sym, ap, ◌∙◌, subst, arith}
use Rattle.std.specs.Option.{ForSome, IsSomeAnd}
use Rattle.solo_memory.specs.Solo.{Sees, Solo}
use Rattle.solo_view.specs.Constants.{IsSameLane}
use Rattle.solo_view.specs.Counts.{IsAtStop}
use Rattle.solo_view.specs.View.{View}

-- no more and no fewer
exactly : (stop : Option ℕ) (calls : ℕ) → IsSomeAnd stop (λ n. n ≤ calls) → ForSome stop (λ n. calls ≤ n) → stop ≡ Some calls
exactly None calls reached within = absurd reached
exactly (Some n) calls reached within = let most = within n refl in let same : n ≡ calls = omega (arith, reached, most) in ap Some same

module _ (first v : View) (m : Solo) (same : IsSameLane first v) (seen : Sees m v) where
  pub within_stop : (n : ℕ) → first.stop ≡ Some n → v.calls ≤ n
  within_stop n is = seen.within n (sym seen.stop ∙ same.stop ∙ is)

  pub stopped_at : IsAtStop v → first.stop ≡ Some v.calls
  stopped_at reached = sym same.stop ∙ exactly v.stop v.calls reached (subst (λ (s : Option ℕ). ForSome s (λ n. v.calls ≤ n)) (sym seen.stop) seen.within)

  -- so its calls are counted exactly
  pub counted_exactly : ForSome first.stop (λ n. n < 2 ^ 64) → IsAtStop v → v.calls % 2 ^ 64 ≡ v.calls
  counted_exactly fits reached = let low = fits v.calls (stopped_at reached) in omega (arith, low)
