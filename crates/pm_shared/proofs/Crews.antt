-- LANES ARE HANDED OUT by the pool's seat, and come back to it: the rule is kept, since a lane's seat is named by `owner`.
use Rattle.std.proofs.Common.{◌≡◌, ◌≢◌, ℕ, zero, suc, ◌<◌, ◌⊎◌, inl, inr, ⊎_elim, List, [], ◌∷◌, ◌++◌, length, set, cond, eqb, Option, None, refl, sym, ap, ◌∙◌, subst, arith, eq-eqb, ne_eqb, length-set}
use mathlib.Core.Option.{some, some-injective, some-ne-none}
use lib.ListN.{get_elem?}
use Rattle.atomic_table.specs.Table.{Splits, Joins}
use Rattle.atomic_table.proofs.Lists.{at_set}
use Rattle.pm_view.specs.View.{View}
use Rattle.pm_world.specs.Memory.{Memory}
use Rattle.pm_world.specs.World.{Opening, Views}
use Rattle.pm_shared.specs.Placing.{memory_of}
use Rattle.pm_shared.specs.Rule.{Knowledge, Pool, Lane, Spent, Bound, Owned, SeatFits}
use Rattle.pm_shared.specs.declared.rule.Beginning.{Beginning}
use Rattle.pm_shared.specs.Openings.{opening_of}
use Rattle.pm_shared.specs.TableRule.{Ruled}

-- the owners with lane k's changed
abbrev owner_with : (ℕ → ℕ) → ℕ → ℕ → ℕ → ℕ
owner_with owner k id j = cond (eqb j k) id (owner j)

owner_here : (owner : ℕ → ℕ) (k id : ℕ) → owner_with owner k id k ≡ id
owner_here owner k id = ap (λ b. cond b id (owner k)) (eq-eqb k k refl)

owner_else : (owner : ℕ → ℕ) (k id j : ℕ) → j ≢ k → owner_with owner k id j ≡ owner j
owner_else owner k id j ne = ap (λ b. cond b id (owner j)) (ne_eqb j k ne)

module _ {A : Type 0} where
  -- one more at the end of a list, by its place
  at_end : (l : List A) (a b : A) (j : ℕ) → get_elem? (l ++ a ∷ []) j ≡ some b → (get_elem? l j ≡ some b) ⊎ ((j ≡ length l) × (a ≡ b))
  at_end [] a b zero e = inr (refl, some-injective a b e)
  at_end [] a b (suc j) e = absurd (some-ne-none b (sym e))
  at_end (x ∷ xs) a b zero e = inl e
  at_end (x ∷ xs) a b (suc j) e = ⊎_elim (λ t. inl t) (λ (t : (j ≡ length xs) × (a ≡ b)). inr (ap suc t.0, t.1)) (at_end xs a b j e)

  inside : (l : List A) (b : A) (j : ℕ) → get_elem? l j ≡ some b → j < length l
  inside [] b j e = absurd (some-ne-none b (sym e))
  inside (x ∷ xs) b zero e = omega arith
  inside (x ∷ xs) b (suc j) e = let h = inside xs b j e in omega arith

module _ (o : Opening) (mem : Memory) (views : Views) (owner : ℕ → ℕ) (k new : ℕ) where
  -- a seat that does not have lane k keeps its own
  owned_else : (id : ℕ) (w : View) → w.fixed.lane ≢ k → Owned o views owner id w → Owned o views (owner_with owner k new) id w
  owned_else id w ne h = record { inside = h.inside; view = h.view; owner_is = owner_else owner k new w.fixed.lane ne ∙ h.owner_is }

  seat_else : (id : ℕ) → owner k ≢ id → (w : Knowledge) → SeatFits o mem views owner id w → SeatFits o mem views (owner_with owner k new) id w
  seat_else id ne (Pool vs) h = record { each = λ n w at. let own = h.each n w at in owned_else id w (λ e. ne (ap owner (sym e) ∙ own.owner_is)) own; apart = h.apart }
  seat_else id ne (Lane w b) h = (owned_else id w (λ e. ne (ap owner (sym e) ∙ h.0.owner_is)) h.0, h.1)
  seat_else id ne Spent h = tt

module _ (key : Beginning) where
  abbrev o : Opening
  o = opening_of key

  -- the pool's first lane is handed out
  pub splits : (id : ℕ) (v : View) (vs : List View) → Splits (Ruled key) id (Pool (v ∷ vs)) (Pool vs) (Lane v None)
  splits id v vs s r at = let mem : Memory = memory_of o.shape s.words in let h = r.seats id (Pool (v ∷ vs)) at in let own = h.each 0 v refl in let k : ℕ = v.fixed.lane in let new : ℕ = length s.views in let owner' : ℕ → ℕ = owner_with r.owner k new in
      let old_id : id < new = inside s.views (Pool (v ∷ vs)) id at in let long = length-set s.views id (Pool vs) in record {
        views = r.views;
        owner = owner';
        past = r.past;
        size = r.size;
        world = r.world;
        run = r.run;
        sound = r.sound;
        seats = λ j w e. ⊎_elim
            (λ (before : get_elem? (set s.views id (Pool vs)) j ≡ some w). ⊎_elim
            (λ (t : (j ≡ id) × (Pool vs ≡ w)). subst (SeatFits o mem r.views owner' j) t.1 record {
              each = λ n w at'. let one = h.each (suc n) w at' in subst (λ z. Owned o r.views owner' z w) (sym t.0)
                  (owned_else o mem r.views r.owner k new id w (λ same. let c = h.apart (suc n) 0 w v at' refl same in absurd (omega arith)) one);
              apart = λ n m a b at₁ at₂ same. let c = h.apart (suc n) (suc m) a b at₁ at₂ same in omega arith;
            })
            (λ (t : (j ≢ id) × (get_elem? s.views j ≡ some w)). seat_else o mem r.views r.owner k new j (λ q. t.0 (sym q ∙ own.owner_is)) w (r.seats j w t.1))
            (at_set s.views id j (Pool vs) w before))
            (λ (t : (j ≡ length (set s.views id (Pool vs))) × (Lane v None ≡ w)). subst (SeatFits o mem r.views owner' j) t.1 (
              record {
                inside = own.inside;
                view = own.view;
                owner_is = owner_here r.owner k new ∙ (sym long ∙ sym t.0);
              },
              tt,
            ))
            (at_end (set s.views id (Pool vs)) (Lane v None) w j e);
      }

  -- a lane comes back
  pub joins : (id : ℕ) (vs : List View) (other : ℕ) (v : View) (bound : Option Bound) → Joins (Ruled key) id (Pool vs) other (Lane v bound) (Pool (vs ++ v ∷ [])) Spent
  joins id vs other v bound s r at ne at' = let mem : Memory = memory_of o.shape s.words in let both : Knowledge = Pool (vs ++ v ∷ []) in let h = r.seats id (Pool vs) at in let k : ℕ = v.fixed.lane in let owner' : ℕ → ℕ = owner_with r.owner k id in
      let own = ⊎_elim (λ (t : (other ≡ id) × (both ≡ Lane v bound)). absurd (ne t.0)) (λ (t : (other ≢ id) × (get_elem? s.views other ≡ some (Lane v bound))). (r.seats other (Lane v bound) t.1).0) (at_set s.views id other both (Lane v bound) at') in
      let away : (n : ℕ) (w : View) → get_elem? vs n ≡ some w → w.fixed.lane ≢ k = λ n w here same. ne (sym own.owner_is ∙ (ap r.owner (sym same) ∙ (h.each n w here).owner_is)) in record {
        views = r.views;
        owner = owner';
        past = r.past;
        size = r.size;
        world = r.world;
        run = r.run;
        sound = r.sound;
        seats = λ j w e. ⊎_elim
            (λ (t : (j ≡ other) × (Spent ≡ w)). subst (SeatFits o mem r.views owner' j) t.1 tt)
            (λ (t : (j ≢ other) × (get_elem? (set s.views id both) j ≡ some w)). ⊎_elim
            (λ (q : (j ≡ id) × (both ≡ w)). subst (SeatFits o mem r.views owner' j) q.1 record {
              each = λ n a here. subst (λ z. Owned o r.views owner' z a) (sym q.0) (⊎_elim (λ (old : get_elem? vs n ≡ some a). owned_else o mem r.views r.owner k id id a (away n a old) (h.each n a old))
                  (λ (p : (n ≡ length vs) × (v ≡ a)). subst (Owned o r.views owner' id) p.1 record { inside = own.inside; view = own.view; owner_is = owner_here r.owner k id }) (at_end vs v a n here));
              apart = λ n m a b at₁ at₂ same. ⊎_elim
                  (λ (x : get_elem? vs n ≡ some a). ⊎_elim (λ (y : get_elem? vs m ≡ some b). h.apart n m a b x y same)
                  (λ (y : (m ≡ length vs) × (v ≡ b)). absurd (away n a x (same ∙ ap (λ (z : View). z.fixed.lane) (sym y.1)))) (at_end vs v b m at₂))
                  (λ (x : (n ≡ length vs) × (v ≡ a)). ⊎_elim (λ (y : get_elem? vs m ≡ some b). absurd (away m b y (sym same ∙ ap (λ (z : View). z.fixed.lane) (sym x.1))))
                  (λ (y : (m ≡ length vs) × (v ≡ b)). x.0 ∙ sym y.0) (at_end vs v b m at₂)) (at_end vs v a n at₁);
            })
            (λ (q : (j ≢ id) × (get_elem? s.views j ≡ some w)). seat_else o mem r.views r.owner k id j (λ p. t.0 (sym p ∙ own.owner_is)) w (r.seats j w q.1))
            (at_set s.views id j both w t.1))
            (at_set (set s.views id both) other j Spent w e);
      }
