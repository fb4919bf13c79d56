-- A zone without room for n chunks in a row: in each stretch of n chunks some chunk is set, so stretches
-- that were free at the opening are no more than the chunks that the lanes got.
use Rattle.std.proofs.Common.{◌≡◌, ◌≢◌, ⊎_elim, ℕ, zero, suc, ◌+◌, ◌*◌, ◌≤◌, not, ◌&&◌, true, false, List, [], ◌∷◌, length, sym, ap, subst, arith}
use Rattle.std.proofs.lemmas.Bool.{and_from, cases_eq, cond-true}
use Rattle.pm_view.specs.Places.{Big}
use Rattle.pm_world.specs.Causes.{filled}
use Rattle.pm_world.specs.Memory.{bit}
use Rattle.pm_world.specs.Opens.{takes}
use Rattle.pm_world.specs.World.{Opening}
use Rattle.pm_crash.specs.Answers.{FullZoneIsGot, HasNoRoom, Stretches}

module _ (o : Opening) (zone x : ℕ) where
  up_to : (i j : ℕ) → i ≤ j → filled o zone x i ≤ filled o zone x j
  up_to i zero l = let e : i ≡ zero = omega arith in
      subst (λ m. filled o zone x m ≤ filled o zone x zero) (sym e) (omega arith)
  up_to i (suc j) l = ⊎_elim
      (λ (q : i ≡ suc j). subst (λ m. filled o zone x m ≤ filled o zone x (suc j)) (sym q) (omega arith))
      (λ (ne : i ≢ suc j). let r = up_to i j (omega arith) in omega arith)
      (cases_eq i (suc j))

  -- a chunk that is set and was free is one more
  one_more : (j : ℕ) → bit x j ≡ true → takes o (Big (64 * zone + j)) ≡ false
      → filled o zone x (suc j) ≡ 1 + filled o zone x j
  one_more j set free = ap (λ n. n + filled o zone x j)
      (cond-true (bit x j && not (takes o (Big (64 * zone + j)))) 1 0
      (and_from (bit x j) (not (takes o (Big (64 * zone + j)))) set (ap not free)))

  many : (n : ℕ) → HasNoRoom x n → (from : ℕ) (starts : List ℕ) → from ≤ 64
      → Stretches o zone n from starts → filled o zone x from + length starts ≤ filled o zone x 64
  unfolding Stretches
  many n full from [] l s = let r = up_to from 64 l in omega arith
  many n full from (i ∷ rest) l s =
      let a = s.0 in let b = s.1 in
      let there = full i b in
      let j : ℕ = there.0 in
      let low = there.1 in let high = there.2 in
      let one = one_more j there.3 (s.2 j low high) in
      let first = up_to from j (omega arith) in
      let next = up_to (suc j) (i + n) (omega arith) in
      let later = many n full (i + n) rest b s.3 in
      omega arith

pub full_is_got : FullZoneIsGot
full_is_got o views zone x n starts filled_by full s =
    let m = many o zone x n full 0 starts (omega arith) s in omega arith
