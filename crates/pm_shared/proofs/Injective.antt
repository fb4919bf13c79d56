-- No two locations have one word of the table.
use Rattle.std.proofs.Common.{◌≡◌, ◌≢◌, ℕ, zero, suc, ◌+◌, ◌-◌, ◌<◌, ◌≤◌, ⊎_elim, cond, refl, sym, ap, ◌∙◌, subst, arith, lt-ltb, le-ltb}
use Rattle.std.proofs.lemmas.Bool.{cases_eq, cases_lt}
use Rattle.pm_layout.specs.declared.shape.Shape.{Shape}
use Rattle.pm_world.specs.Memory.{Location, PoolWord, LockWord, RunWord, ZoneWord, ZoneLock, CommitCounter, StopWord}
use Rattle.pm_shared.specs.Placing.{sort_of, number_of, count_of, start_of, table_size, place}

start_more : (sh : Shape) (a d : ℕ) → start_of sh a ≤ start_of sh (a + d)
start_more sh a zero = let e : start_of sh (a + 0) ≡ start_of sh a = ap (start_of sh) (let z : a + 0 ≡ a = omega arith in z) in omega arith
start_more sh a (suc d) = let h = start_more sh a d in let e : start_of sh (a + suc d) ≡ start_of sh (a + d) + count_of sh (a + d) = ap (start_of sh) (let z : a + suc d ≡ suc (a + d) = omega arith in z) in omega arith

pub start_after : (sh : Shape) (a b : ℕ) → a ≤ b → start_of sh a ≤ start_of sh b
start_after sh a b le = let e : a + (b - a) ≡ b = omega arith in subst (λ c. start_of sh a ≤ start_of sh c) e (start_more sh a (b - a))

-- a location that the table has
pub record Lies (sh : Shape) (l : Location) : Type 0 where
  pub fewer : number_of l < count_of sh (sort_of l)
  pub at : place sh l ≡ start_of sh (sort_of l) + number_of l

pub lies : (sh : Shape) (l : Location) → place sh l < table_size sh → Lies sh l
lies sh l inside = ⊎_elim (λ (less : number_of l < count_of sh (sort_of l)). record { fewer = less; at = ap (λ b. cond b (start_of sh (sort_of l) + number_of l) (table_size sh)) (lt-ltb (number_of l) (count_of sh (sort_of l)) less) })
    (λ (not_less : count_of sh (sort_of l) ≤ number_of l). let e : place sh l ≡ table_size sh = ap (λ b. cond b (start_of sh (sort_of l) + number_of l) (table_size sh)) (le-ltb (number_of l) (count_of sh (sort_of l)) not_less) in absurd (omega arith)) (cases_lt (number_of l) (count_of sh (sort_of l)))

-- the location of a sort with this number
abbrev from : ℕ → ℕ → Location
from zero n = PoolWord n
from (suc zero) n = LockWord n
from (suc (suc zero)) n = RunWord n
from (suc (suc (suc zero))) n = ZoneWord n
from (suc (suc (suc (suc zero)))) n = ZoneLock n
from (suc (suc (suc (suc (suc zero))))) n = CommitCounter
from (suc (suc (suc (suc (suc (suc s)))))) n = StopWord

from_is : (l : Location) → from (sort_of l) (number_of l) ≡ l
from_is (PoolWord w) = refl
from_is (LockWord w) = refl
from_is (RunWord w) = refl
from_is (ZoneWord w) = refl
from_is (ZoneLock w) = refl
from_is CommitCounter = refl
from_is StopWord = refl

below : (sh : Shape) (l m : Location) → Lies sh l → Lies sh m → sort_of l < sort_of m → place sh l < place sh m
below sh l m a b less = let e : start_of sh (suc (sort_of l)) ≡ start_of sh (sort_of l) + count_of sh (sort_of l) = refl in let h = start_after sh (suc (sort_of l)) (sort_of m) less in let x = a.at in let y = b.at in let z = a.fewer in omega arith

pub apart : (sh : Shape) (l m : Location) → place sh l < table_size sh → place sh l ≡ place sh m → l ≡ m
apart sh l m inside same = let a = lies sh l inside in let b = lies sh m (subst (λ z. z < table_size sh) same inside) in
    ⊎_elim (λ (e : sort_of l ≡ sort_of m). let f : start_of sh (sort_of l) ≡ start_of sh (sort_of m) = ap (start_of sh) e in let x = a.at in let y = b.at in let n : number_of l ≡ number_of m = omega arith in
    sym (from_is l) ∙ (ap (λ s. from s (number_of l)) e ∙ (ap (from (sort_of m)) n ∙ from_is m)))
    (λ (ne : sort_of l ≢ sort_of m). ⊎_elim (λ (less : sort_of l < sort_of m). let h = below sh l m a b less in absurd (omega arith)) (λ (le : sort_of m ≤ sort_of l). let h = below sh m l b a (omega arith) in absurd (omega arith)) (cases_lt (sort_of l) (sort_of m))) (cases_eq (sort_of l) (sort_of m))

-- a location that the pool has lies in the table
pub below_size : (sh : Shape) (l : Location) → number_of l < count_of sh (sort_of l) → place sh l ≡ start_of sh (sort_of l) + number_of l → place sh l < table_size sh
below_size sh l fewer is = let n : start_of sh (suc (sort_of l)) ≡ start_of sh (sort_of l) + count_of sh (sort_of l) = refl in let h : start_of sh (suc (sort_of l)) ≤ table_size sh = start_after sh (suc (sort_of l)) 8 (few l) in omega arith
  where
    few : (l : Location) → suc (sort_of l) ≤ 8
    few (PoolWord w) = omega arith
    few (LockWord line) = omega arith
    few (RunWord page) = omega arith
    few (ZoneWord zone) = omega arith
    few (ZoneLock zone) = omega arith
    few CommitCounter = omega arith
    few StopWord = omega arith
