-- What loads of words that a lane may not know yet leave of its view.
use Rattle.std.proofs.Common.{◌≡◌, ℕ, zero, suc, ◌+◌, ◌-◌, ◌*◌, ◌/◌, ◌<◌, Bool, true, false, cond, eqb, length, refl, ap, ◌∙◌, subst, length-set, arith}
use Rattle.std.proofs.lemmas.Bool.Decides.{nat_tests}
use Rattle.solo_view.specs.Steps.Step.{Load}
use Rattle.solo_view.specs.View.{View}
use Rattle.solo_view.specs.Views.{after}
use Rattle.solo_tx.specs.Learning.{Finds, Learns}
use Rattle.solo_tx.specs.Sequences.{word_count}

pub learns_none : (first : ℕ) (v : View) → Learns first 0 v v
unfolding Learns
learns_none first v = refl

pub learns_more : (first n : ℕ) (v m : View) (x : ℕ) → Learns first n v m → Finds m (first + n) x → Learns first (n + 1) v (after m (Load (first + n) x))
unfolding Learns
learns_more first n v m x before finds = subst (λ k. Learns first k v (after m (Load (first + n) x))) (let e : suc n ≡ n + 1 = omega arith in e) (m, x, before, finds, refl)

pub learns_size : (first n : ℕ) (v w : View) → Learns first n v w → length w.words ≡ length v.words
unfolding Learns
learns_size first zero v w is = ap (λ (u : View). length u.words) is
learns_size first (suc n) v w t = ap (λ (u : View). length u.words) t.4 ∙ (length-set t.0.words (first + n) t.1 ∙ learns_size first n v t.0 t.2)

-- a word that is one of so many has some of the bytes
pub counted_inside : (place len i : ℕ) → i < word_count place len → (8 * (place / 8 + i) < place + len) × (place < 8 * (place / 8 + i) + 8) × (0 < len)
counted_inside place len i = at (eqb len 0) refl where
  at : (b : Bool) → eqb len 0 ≡ b → i < cond b 0 ((place + len - 1) / 8 + 1 - place / 8) → (8 * (place / 8 + i) < place + len) × (place < 8 * (place / 8 + i) + 8) × (0 < len)
  at true e below = absurd (omega (arith, below))
  at false e below = let some : 0 < len = grind (arith, nat_tests) in (omega (arith, below, some), omega arith, some)
