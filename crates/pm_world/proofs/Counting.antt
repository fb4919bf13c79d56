-- How many lanes may still take a number, and the entries of a lane, as one lane's view changes.
use Rattle.std.proofs.Common.{◌≡◌, ◌≢◌, ℕ, zero, suc, ◌<◌, ◌≤◌, ⊎_elim, Bool, true, false, cond, refl, sym, ap, ◌∙◌, arith}
use Rattle.std.proofs.lemmas.Bool.{cases_eq}
use Rattle.pm_view.specs.View.{View}
use Rattle.pm_world.specs.World.{Views, may_draw, may_draw_count}
use Rattle.pm_world.specs.Laws.{Turn}

abbrev one : Bool → ℕ
one t = cond t 1 0

module _ (views views' : Views) (k : ℕ) (v : View) (t : Turn views views' k v) where
  others : (j : ℕ) → j ≢ k → one (may_draw (views' j)) ≡ one (may_draw (views j))
  others j ne = ap (λ y. one (may_draw y)) (t.else_ j ne)

  pub count_below : (n : ℕ) → n ≤ k → may_draw_count views' n ≡ may_draw_count views n
  count_below zero l = refl
  count_below (suc n) l = let e = count_below n (omega arith) in let o = others n (λ q. omega arith) in omega arith

  -- where lane k may take a number as before, as many may
  pub count_same : may_draw v ≡ may_draw (views k) → (n : ℕ) → may_draw_count views' n ≡ may_draw_count views n
  count_same s zero = refl
  count_same s (suc n) = let e = count_same s n in ⊎_elim (λ (q : n ≡ k). let o : one (may_draw (views' n)) ≡ one (may_draw (views n)) = ap (λ i. one (may_draw (views' i))) q ∙ (ap (λ y. one (may_draw y)) t.here ∙ (ap one s ∙ sym (ap (λ i. one (may_draw (views i))) q))) in omega arith)
      (λ (ne : n ≢ k). let o = others n ne in omega arith) (cases_eq n k)

  -- where it took one, one less may
  pub count_less : may_draw (views k) ≡ true → may_draw v ≡ false → (n : ℕ) → k < n → suc (may_draw_count views' n) ≡ may_draw_count views n
  count_less a b zero l = absurd (omega arith)
  count_less a b (suc n) l = ⊎_elim (λ (q : n ≡ k). let e = count_below n (omega arith) in let o : one (may_draw (views' n)) ≡ 0 = ap (λ i. one (may_draw (views' i))) q ∙ (ap (λ y. one (may_draw y)) t.here ∙ ap one b) in
      let u : one (may_draw (views n)) ≡ 1 = ap (λ i. one (may_draw (views i))) q ∙ ap one a in omega arith)
      (λ (ne : n ≢ k). let e = count_less a b n (omega arith) in let o = others n ne in omega arith) (cases_eq n k)
