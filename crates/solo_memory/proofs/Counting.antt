-- One more counted call, or a stop in its place.
use Rattle.std.proofs.Common.{◌≡◌, ℕ, ◌+◌, ◌%◌, ◌^◌, ◌<◌, ◌≤◌, Option, Some, None, IsSomeAnd, sym, ◌∙◌, subst, arith}
use Rattle.std.specs.Option.{ForSome}
use Rattle.solo_view.specs.Counts.{MayCount, IsAtStop}
use Rattle.solo_view.specs.View.{View}
use Rattle.solo_memory.specs.Solo.{Solo, Sees, IsDue, IsSpent}

-- up to the stop number the calls are counted exactly
below_stop : (calls counted stop : ℕ) → calls % 2 ^ 64 ≡ counted → calls ≤ stop → stop < 2 ^ 64 → counted < stop → calls < stop
below_stop calls counted stop same within fits less = omega arith

pub may_count : (m : Solo) (v : View) → Sees m v → IsDue m → ForSome m.stop (λ stop. stop < 2 ^ 64) → MayCount v
may_count m v sees due fits stop is =
    let of_memory : m.stop ≡ Some stop = sym sees.stop ∙ is in
    below_stop v.calls m.calls stop sees.calls (sees.within stop of_memory) (fits stop of_memory) (due stop of_memory)

-- so the count stays within the stop number
pub within_next : (m : Solo) (v : View) → Sees m v → IsDue m → ForSome m.stop (λ stop. stop < 2 ^ 64) → ForSome m.stop (λ stop. v.calls + 1 ≤ stop)
within_next m v sees due fits stop is = let less : v.calls < stop = may_count m v sees due fits stop (sees.stop ∙ is) in omega arith

pub calls_next : (calls counted : ℕ) → calls % 2 ^ 64 ≡ counted → (calls + 1) % 2 ^ 64 ≡ (counted + 1) % 2 ^ 64
calls_next calls counted same = omega arith

at_most : (stop : Option ℕ) (few many : ℕ) → few ≤ many → IsSomeAnd stop (λ n. n ≤ few) → IsSomeAnd stop (λ n. n ≤ many)
at_most None few many more spent = spent
at_most (Some n) few many more spent = omega arith

pub is_at_stop : (m : Solo) (v : View) → Sees m v → IsSpent m → IsAtStop v
is_at_stop m v sees spent =
    let more : m.calls ≤ v.calls = omega (arith, sees.calls) in
    subst (λ (stop : Option ℕ). IsSomeAnd stop (λ n. n ≤ v.calls)) (sym sees.stop) (at_most m.stop m.calls v.calls more spent)
