-- THE ENTRIES OF A LANE are its calls of the history, each with the view of its lane as it took its
-- number.
use Rattle.std.proofs.Common.{◌≡◌, ◌≢◌, ⊎_elim, ℕ, zero, suc, ◌<◌, ◌==◌, Bool, true, false, cond, Contains, [], ◌∷◌, refl, sym, subst, arith, eq-eqb}
use Rattle.std.proofs.lemmas.Bool.{cases_eq, cond-true, eqb-true}
use Rattle.std.proofs.lemmas.List.Elements.{Contains-append_right}
use Rattle.pm_view.specs.View.{Numbered, View, entry_drawn}
use Rattle.pm_world.specs.World.{numbered_by}

-- the entry is that of a call below a number, by this lane
pub record IsDrawn (lane : ℕ) (drew : ℕ → View) (m : ℕ) (e : Numbered) : Type 0 where
  pub call : ℕ
  pub below : call < m
  pub of : (drew call).fixed.lane ≡ lane
  pub is : entry_drawn call (drew call) ≡ e

module _ (lane : ℕ) (drew : ℕ → View) where
  by_lane : (m : ℕ) (b : Bool) → (drew m).fixed.lane == lane ≡ b → (e : Numbered)
      → (Contains (numbered_by lane drew m) e → IsDrawn lane drew (suc m) e)
      → Contains (cond b (entry_drawn m (drew m) ∷ numbered_by lane drew m) (numbered_by lane drew m)) e
      → IsDrawn lane drew (suc m) e
  by_lane m false is e earlier there = earlier there
  by_lane m true is e earlier (zero, low, here) = record {
    call = m;
    below = omega arith;
    of = eqb-true (drew m).fixed.lane lane is;
    is = here;
  }
  by_lane m true is e earlier (suc i, low, there) = earlier (i, omega (arith, low), there)

  pub drawn_entry : (m : ℕ) (e : Numbered) → Contains (numbered_by lane drew m) e → IsDrawn lane drew m e
  drawn_entry zero e there = absurd (let low = there.1 in omega (arith, low))
  drawn_entry (suc m) e there =
      by_lane m ((drew m).fixed.lane == lane) refl e
      (λ earlier. let d = drawn_entry m e earlier in record { call = d.call; below = (let l = d.below in omega (arith, l)); of = d.of; is = d.is })
      there

  -- and each call of the lane is among them
  pub entry_of_call : (m p : ℕ) → p < m → (drew p).fixed.lane ≡ lane
      → Contains (numbered_by lane drew m) (entry_drawn p (drew p))
  entry_of_call zero p low of = absurd (omega (arith, low))
  entry_of_call (suc m) p low of = ⊎_elim
      (λ (q : p ≡ m). subst (λ (k : ℕ). Contains (cond ((drew m).fixed.lane == lane) (entry_drawn m (drew m) ∷ numbered_by lane drew m) (numbered_by lane drew m)) (entry_drawn k (drew k))) (sym q)
      (subst (λ es. Contains es (entry_drawn m (drew m)))
      (sym (cond-true ((drew m).fixed.lane == lane) (entry_drawn m (drew m) ∷ numbered_by lane drew m) (numbered_by lane drew m)
      (eq-eqb (drew m).fixed.lane lane (subst (λ (k : ℕ). (drew k).fixed.lane ≡ lane) q of))))
      (0, omega arith, refl)))
      (λ (ne : p ≢ m). or_later ((drew m).fixed.lane == lane) (entry_of_call m p (omega (arith, low, ne)) of))
      (cases_eq p m)
    where
      or_later : (b : Bool) → Contains (numbered_by lane drew m) (entry_drawn p (drew p))
          → Contains (cond b (entry_drawn m (drew m) ∷ numbered_by lane drew m) (numbered_by lane drew m)) (entry_drawn p (drew p))
      or_later true there = Contains-append_right (entry_drawn m (drew m) ∷ []) (numbered_by lane drew m) (entry_drawn p (drew p)) there
      or_later false there = there
