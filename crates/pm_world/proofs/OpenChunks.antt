-- Which huge block a chunk is in, as a world opens: its first chunk is the nearest one before it whose descriptor has the chunk.
use Rattle.std.proofs.Common.{◌≡◌, ◌≢◌, ℕ, zero, suc, ◌+◌, ◌-◌, ◌/◌, ◌%◌, ◌^◌, ◌<◌, ◌≤◌, ◌⊎◌, inl, inr, ⊎_elim, nat_le, nat_lt, Bool, true, false, cond, ◌&&◌, refl, ap, ◌∙◌, arith}
use Rattle.std.proofs.lemmas.Bool.{cases_eq, cases_lt, cases_Bool, both_ways, eqb-true, ltb-true, lt-ltb, leb-true, le-leb, and_parts, and_from, cond-true, cond-false}
use Rattle.std.specs.Prelude.{slice_index}
use Rattle.pm_layout.specs.Chunks.{chunks_of}
use Rattle.pm_view.specs.Claims.{is_huge}
use Rattle.pm_view.specs.Places.{Descr, is_place, in_span}
use Rattle.pm_world.specs.Opens.{descriptor, first_of, is_head, nearest}
use Rattle.pm_world.specs.World.{Opening}
use Rattle.pm_world.proofs.OpenWords.{IsRunIn, IsHugeIn, InTable}

module _ (o : Opening) (small : (w : ℕ) → slice_index o.words w < 2 ^ 64) (table : (c : ℕ) → c < chunks_of o.shape → InTable o c) where
  head_huge : (f c : ℕ) → is_head o f c ≡ true → IsHugeIn o f × (f ≤ c) × (c < f + descriptor o f / 256)
  head_huge f c t = let y = and_parts (is_place o.shape (Descr f)) (is_huge (descriptor o f) && in_span f (descriptor o f / 256) c) t in let z = and_parts (is_huge (descriptor o f)) (in_span f (descriptor o f / 256) c) y.1 in
      let s = and_parts (nat_le f c) (nat_lt c (f + descriptor o f / 256)) z.1 in let e = eqb-true (descriptor o f % 256) 2 z.0 in
      (⊎_elim (λ (d : descriptor o f ≡ 0). absurd (omega arith)) (λ (d : IsRunIn o f ⊎ IsHugeIn o f). ⊎_elim (λ (r : IsRunIn o f). let q = r.0 in absurd (omega arith)) (λ (r : IsHugeIn o f). r) d) (table f (ltb-true f (chunks_of o.shape) y.0)), leb-true f c s.0, ltb-true c (f + descriptor o f / 256) s.1)

  -- a chunk is in one huge block at most
  one_head : (f e c : ℕ) → is_head o f c ≡ true → is_head o e c ≡ true → f < e → ⊥
  one_head f e c s t l = let y = head_huge f c s in let z = head_huge e c t in let q = y.0.3 e l (omega arith) in let r = z.0.0 in absurd (omega arith)

  same_head : (f e c : ℕ) → is_head o f c ≡ true → is_head o e c ≡ true → f ≡ e
  same_head f e c s t = ⊎_elim (λ (q : f ≡ e). q) (λ (ne : f ≢ e). ⊎_elim (λ (l : f < e). absurd (one_head f e c s t l)) (λ (l : e ≤ f). absurd (one_head e f c t s (omega arith))) (cases_lt f e)) (cases_eq f e)

  -- the scan finds it, or there is none
  finds : (c n f : ℕ) → (is_head o (nearest o c n f) c ≡ true) ⊎ (nearest o c n f ≡ c)
  finds c zero f = inr refl
  finds c (suc n) f = ⊎_elim (λ (t : is_head o f c ≡ true). let e = cond-true (is_head o f c) f (nearest o c n (f - 1)) t in inl (ap (λ d. is_head o d c) e ∙ t))
      (λ (u : is_head o f c ≡ false). let e = cond-false (is_head o f c) f (nearest o c n (f - 1)) u in ⊎_elim (λ (t : is_head o (nearest o c n (f - 1)) c ≡ true). inl (ap (λ d. is_head o d c) e ∙ t)) (λ (q : nearest o c n (f - 1) ≡ c). inr (e ∙ q)) (finds c n (f - 1))) (cases_Bool (is_head o f c))

  meets : (c e n f : ℕ) → is_head o e c ≡ true → e ≤ f → f < e + n → nearest o c n f ≡ e
  meets c e zero f t l r = absurd (omega arith)
  meets c e (suc n) f t l r = ⊎_elim (λ (q : is_head o f c ≡ true). cond-true (is_head o f c) f (nearest o c n (f - 1)) q ∙ same_head f e c q t)
      (λ (u : is_head o f c ≡ false). let ne : f ≢ e = λ q. both_ways (is_head o f c) u (ap (λ d. is_head o d c) q ∙ t) in cond-false (is_head o f c) f (nearest o c n (f - 1)) u ∙ meets c e n (f - 1) t (omega arith) (omega arith)) (cases_Bool (is_head o f c))

  pub first_is : (e c : ℕ) → is_head o e c ≡ true → first_of o c ≡ e
  first_is e c t = let y = head_huge e c t in let room = y.0.2 in let l = y.1 in let r = y.2 in meets c e (suc (c % 64)) c t l (omega arith)

  pub first_cases : (c : ℕ) → (is_head o (first_of o c) c ≡ true) ⊎ (first_of o c ≡ c)
  first_cases c = finds c (suc (c % 64)) c

  self_head : (f c : ℕ) → is_head o f c ≡ true → is_head o f f ≡ true
  self_head f c t = let y = head_huge f c t in let p = and_parts (is_place o.shape (Descr f)) (is_huge (descriptor o f) && in_span f (descriptor o f / 256) c) t in let z = and_parts (is_huge (descriptor o f)) (in_span f (descriptor o f / 256) c) p.1 in let some = y.0.1 in
      and_from (is_place o.shape (Descr f)) (is_huge (descriptor o f) && in_span f (descriptor o f / 256) f) p.0 (and_from (is_huge (descriptor o f)) (in_span f (descriptor o f / 256) f) z.0 (and_from (nat_le f f) (nat_lt f (f + descriptor o f / 256)) (le-leb f f (omega arith)) (lt-ltb f (f + descriptor o f / 256) (omega arith))))

  pub twice : (c : ℕ) → first_of o (first_of o c) ≡ first_of o c
  twice c = ⊎_elim (λ (t : is_head o (first_of o c) c ≡ true). first_is (first_of o c) (first_of o c) (self_head (first_of o c) c t)) (λ (q : first_of o c ≡ c). ap (first_of o) q) (first_cases c)
