-- WHAT A LANE FINDS IN A WORD, in a world: it fits what the lane knows of the blocks that it has.
use Rattle.std.proofs.Common.{inl, inr, ◌≡◌, ℕ, zero, suc, ◌+◌, ◌<◌, ◌≤◌, ◌⊎◌, ⊎_elim, nat_le, nat_lt, Bool, true, false, cond, Contains, refl, sym, ap, ◌∙◌, subst, arith, ne_eqb, eq-eqb}
use Rattle.std.specs.Prelude.{eqb}
use Rattle.std.proofs.lemmas.Bool.{both_ways, and_parts, cases_lt, cond-true, eqb-true, ltb-true, or_cases, false_from_ne_true}
use Rattle.pm_view.specs.Places.{Block, Small, Big, in_span}
use Rattle.pm_view.specs.Steps.Step.{Load}
use Rattle.pm_view.specs.View.{Numbered, View}
use Rattle.pm_view.specs.Views.{after}
use Rattle.pm_world.specs.Causes.{times_missed}
use Rattle.pm_world.specs.Course.{past_after}
use Rattle.pm_world.specs.InWorld.{InWorld}
use Rattle.pm_world.specs.Lanes.{HoldFits, own, valid}
use Rattle.pm_world.specs.Lanes as lanes
use Rattle.pm_world.specs.Lawful.{IsLawful}
use Rattle.pm_world.specs.Laws.{Turn}
use Rattle.pm_world.specs.Memory.{Memory, cells_of}
use Rattle.pm_world.specs.Sights.{sight_of}
use Rattle.pm_world.specs.States.{there}
use Rattle.pm_world.specs.World.{Opening, Views, Past, World, ghost_of, settled_words}
use Rattle.pm_world.proofs.CausesKept as causes
use Rattle.pm_world.proofs.CrashDescriptors.{some_below}
use Rattle.pm_world.proofs.EveryStep.{every_step}
use Rattle.pm_world.proofs.Frame.{found_has, mine_own, not_making, own_has}
use Rattle.pm_world.proofs.InWorlds.{seen_agrees, seen_is_sound}
use Rattle.pm_lock.specs.Objects.{FitsLook, HasSound, MissesGrow, has}
use Rattle.pm_lock.proofs.Numbering.{drawn_entry}

module _ (o : Opening) (mem : Memory) (views : Views) (g : Past) (k : ℕ) (x : World o mem views g) (ink : k < o.lanes) where
  shape_is : (views k).fixed.shape ≡ o.shape
  shape_is = (x.each_lane k ink).shape

  f : HoldFits o.shape (cells_of o.shape mem).writer (cells_of o.shape mem).reader (cells_of o.shape mem).descr (settled_words o g) (ghost_of g) k (sight_of (views k)).hold
  f = (x.bits.each_lane k).hold

  has_it : (B : Block) → has (views k) B ≡ true → lanes.has (sight_of (views k)).hold B ≡ true
  has_it B e = ⊎_elim (λ (m : (sight_of (views k)).hold.mine B ≡ true). own_has (sight_of (views k)).hold B (mine_own (sight_of (views k)).hold B m))
      (λ (m : (sight_of (views k)).hold.found B ≡ true). found_has (sight_of (views k)).hold B m)
      (or_cases ((sight_of (views k)).hold.mine B) ((sight_of (views k)).hold.found B) e)

  is_valid : (B : Block) → has (views k) B ≡ true → valid (ghost_of g) B ≡ true
  is_valid B e = ⊎_elim (λ (m : (sight_of (views k)).hold.mine B ≡ true). (f.mine B m).1)
      (λ (m : (sight_of (views k)).hold.found B ≡ true). (f.found B m).1)
      (or_cases ((sight_of (views k)).hold.mine B) ((sight_of (views k)).hold.found B) e)

  -- a chunk that is told to be a run of some class is one, or is made one
  told_run : (c n : ℕ) → (cells_of o.shape mem).descr c ≡ suc n → (g.runs c ≡ true) ⊎ ((j : ℕ) × ((sight_of (views j)).hold.making c ≡ true))
  told_run c n e = ⊎_elim (λ (y : (j : ℕ) × ((sight_of (views j)).hold.making c ≡ true)). inr y)
      (λ (y : (j : ℕ) → (sight_of (views j)).hold.making c ≡ false). inl (run (g.runs c) (sym e ∙ x.bits.descr c y)))
      makers
    where
      makers : ((j : ℕ) × ((sight_of (views j)).hold.making c ≡ true)) ⊎ ((j : ℕ) → (sight_of (views j)).hold.making c ≡ false)
      makers = ⊎_elim (λ (y : (j : ℕ) × (j < o.lanes) × ((sight_of (views j)).hold.making c ≡ true)). inl (y.0, y.2))
          (λ (h : (j : ℕ) → j < o.lanes → (sight_of (views j)).hold.making c ≡ false). inr (λ j. ⊎_elim (λ (l : j < o.lanes). h j l) (λ (out : o.lanes ≤ j). not_making (sight_of (views j)).hold c 0 (x.bits.beyond j out (Small c 0)).0) (cases_lt j o.lanes)))
          (some_below (λ j. (sight_of (views j)).hold.making c) o.lanes)

      run : (t : Bool) → suc n ≡ cond t (g.geo.class c) 0 → t ≡ true
      run true e = refl
      run false e = absurd (omega arith)

  head_is : (h c : ℕ) → has (views k) (Big h) ≡ true → in_span h ((sight_of (views k)).hold.span h) c ≡ true → g.geo.first c ≡ h
  head_is h c e s = eqb-true (g.geo.first c) h (f.span h (has_it (Big h) e) c ∙ s)

  -- who makes the chunk a run has it for its own, and it is one alone
  module _ (h c j : ℕ) (head : g.geo.first c ≡ h) (making_j : (sight_of (views j)).hold.making c ≡ true) where
    made : (sight_of (views j)).hold.mine (Big c) ≡ true
    made = ((x.bits.each_lane j).hold.making c making_j).0

    made_first : g.geo.first c ≡ c
    made_first = eqb-true (g.geo.first c) c ((x.bits.each_lane j).hold.mine (Big c) made).1

    same_head : h ≡ c
    same_head = sym head ∙ made_first

    not_found : (sight_of (views k)).hold.found (Big h) ≡ true → ⊥
    not_found e = both_ways (there (settled_words o g) (Big c)) ((x.bits.each_lane j).hold.mine (Big c) made).2 (ap (λ n. there (settled_words o g) (Big n)) (sym same_head) ∙ (f.found (Big h) e).2)

    my_own : (sight_of (views k)).hold.mine (Big h) ≡ true → (sight_of (views k)).hold.making c ≡ true
    my_own e = let mine_k : g.holder (Big c) ≡ suc k = ap (λ n. g.holder (Big n)) (sym same_head) ∙ (f.mine (Big h) e).0 in let mine_j = ((x.bits.each_lane j).hold.mine (Big c) made).0 in
        let same : j ≡ k = omega (arith, mine_k, mine_j) in ap (λ n. (sight_of (views n)).hold.making c) (sym same) ∙ making_j

  no_run : (h c : ℕ) → has (views k) (Big h) ≡ true → g.geo.first c ≡ h → g.runs c ≡ false
  no_run h c e head = ⊎_elim (λ (m : (sight_of (views k)).hold.mine (Big h) ≡ true). f.free c (ap (λ n. (sight_of (views k)).hold.mine (Big n)) head ∙ m))
      (λ (m : (sight_of (views k)).hold.found (Big h) ≡ true). x.bits.geo.huge c (ap (λ n. there (settled_words o g) (Big n)) head ∙ (f.found (Big h) m).2))
      (or_cases ((sight_of (views k)).hold.mine (Big h)) ((sight_of (views k)).hold.found (Big h)) e)

  no_class : (h c : ℕ) → has (views k) (Big h) ≡ true → g.geo.first c ≡ h → (sight_of (views k)).hold.making c ≡ false → (m : ℕ) → (sight_of (views k)).hold.class c ≡ m → (sight_of (views k)).hold.class c ≡ 0
  no_class h c e head un zero q = q
  no_class h c e head un (suc n) q = absurd (⊎_elim (λ (r : g.runs c ≡ true). both_ways (g.runs c) (no_run h c e head) r)
      (λ (y : (j : ℕ) × ((sight_of (views j)).hold.making c ≡ true)). ⊎_elim (λ (m : (sight_of (views k)).hold.mine (Big h) ≡ true). both_ways ((sight_of (views k)).hold.making c) un (my_own h c y.0 head y.1 m))
      (λ (m : (sight_of (views k)).hold.found (Big h) ≡ true). not_found h c y.0 head y.1 m)
      (or_cases ((sight_of (views k)).hold.mine (Big h)) ((sight_of (views k)).hold.found (Big h)) e)) (told_run c n (f.seen c n q)))

  pub has_sound : HasSound (views k)
  has_sound = record {
    apart = λ B m. false_from_ne_true ((sight_of (views k)).hold.found B) (λ e. both_ways (there (settled_words o g) B) (f.mine B m).2 (f.found B e).2);
    some = λ h e. let z = and_parts (nat_le h h) (nat_lt h (h + (sight_of (views k)).hold.span h)) (sym (f.span h (has_it (Big h) e) h) ∙ is_valid (Big h) e) in let l = ltb-true h (h + (sight_of (views k)).hold.span h) z.1 in omega (arith, l);
    huge = λ h c e s un. let head = head_is h c e s in (f.first c (ap (λ n. lanes.has (sight_of (views k)).hold (Big n)) head ∙ has_it (Big h) e) ∙ head, no_class h c e head un ((sight_of (views k)).hold.class c) refl);
    small = λ c i e z. let r = and_parts (g.runs c) (nat_lt i (Rattle.pm_layout.specs.Sizes.blocks_of (g.geo.class c))) (is_valid (Small c i) e) in let some = (x.bits.geo.classes c r.0).0 in let same = f.class c i (has_it (Small c i) e) in omega (arith, some, same, z);
  }

-- THE LOOK is a step of the lane: so its view is one of a world after it too
pub seen_after : (v : View) (w x : ℕ) → InWorld v w x → InWorld (after v (Load w x)) w x
seen_after v w x i = record {
  opening = i.opening;
  memory = i.memory;
  views = next;
  past = past_after i.past (i.views v.fixed.lane) (Load w x);
  world = (every_step (Load w x) i.opening i.memory i.memory i.views next i.past v.fixed.lane i.world i.runs lawful (λ l. refl, sym i.word) turn).0;
  runs = i.runs;
  here = turn.here ∙ ap (λ (u : View). after u (Load w x)) i.here;
  inside = i.inside;
  word = i.word;
  sizes = i.sizes;
  causes = causes.goes_on (Load w x) i.opening i.memory i.memory i.views next i.past v.fixed.lane
      i.world i.causes i.runs lawful (λ l. refl, sym i.word) turn;
}
  where
    next : Views
    next j = cond (eqb j v.fixed.lane) (after (i.views v.fixed.lane) (Load w x)) (i.views j)

    turn : Turn i.views next v.fixed.lane (after (i.views v.fixed.lane) (Load w x))
    turn = record { here = cond-true (eqb v.fixed.lane v.fixed.lane) _ _ (eq-eqb v.fixed.lane v.fixed.lane refl); else_ = λ j ne. ap (λ b. cond b (after (i.views v.fixed.lane) (Load w x)) (i.views j)) (ne_eqb j v.fixed.lane ne) }

    lawful : IsLawful (i.views v.fixed.lane) (Load w x)
    lawful = subst (λ (u : View). IsLawful u (Load w x)) (sym i.here) (record { allowed = i.inside; due = λ u. absurd (both_ways false refl u) })

sound_in : (v : View) (w x : ℕ) → InWorld v w x → HasSound v
sound_in v w x i = subst HasSound i.here (has_sound i.opening i.memory i.views i.past v.fixed.lane i.world i.runs)

-- what it counts as misses grew since it took the numbers of its entries
misses_grow : (v : View) (w x : ℕ) → InWorld v w x → MissesGrow v
misses_grow v w x i = subst MissesGrow i.here (λ e there B.
    let k : ℕ = v.fixed.lane in
    let fits = i.world.each_lane k i.runs in
    let d = drawn_entry k i.past.drew i.past.length e (subst (λ es. Contains es e) fits.entries there) in
    subst (λ sh. times_missed sh B e.claims ≤ times_missed sh B (i.views k).claims) (sym fits.shape)
    (subst (λ (n : Numbered). times_missed i.opening.shape B n.claims ≤ times_missed i.opening.shape B (i.views k).claims) d.is
    (i.causes.counts.missed k d.call B d.below d.of)))

pub seen_fits : (v : View) (w x : ℕ) → InWorld v w x → FitsLook v w x
seen_fits v w x i = record {
  agrees = seen_agrees v w x i;
  sound = (seen_is_sound v w x i).1;
  has_before = sound_in v w x i;
  has_after = sound_in (after v (Load w x)) w x (seen_after v w x i);
  grown = misses_grow v w x i;
}
