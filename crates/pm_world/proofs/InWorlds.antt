-- WHAT A LOOK AT A WORD TELLS A LANE OF ITS WORLD.
use Rattle.std.proofs.Common.{inl, inr, ◌≡◌, ℕ, zero, suc, ◌+◌, ◌*◌, ◌/◌, ◌%◌, ◌<◌, ◌≤◌, ◌⊎◌, ⊎_elim, nat_le, nat_lt, Bool, true, false, cond, refl, sym, ap, ◌∙◌, subst, arith, ne_eqb, eq-eqb}
use Rattle.std.specs.Prelude.{eqb}
use Rattle.std.proofs.lemmas.Bool.{both_ways, and_parts, cond-true, cases_lt, eqb-true, ltb-true, lt-ltb, or_right}
use Rattle.pm_layout.specs.Chunks.{chunks_of, word_of_descriptor}
use Rattle.pm_view.specs.Claims.{is_run}
use Rattle.pm_view.specs.Parts.{Part, GenerationPart, SealPart, EntryPart, SlotPart, RootPart, DescriptorPart, ChunkPart, OtherPart, part_of}
use Rattle.pm_view.specs.Places.{Block, Small, Big, Descr, in_span, is_place}
use Rattle.pm_view.specs.Steps.Step.{Load}
use Rattle.pm_view.specs.View.{View}
use Rattle.pm_view.specs.Views.{after, part_in}
use Rattle.pm_world.specs.Course.{past_after}
use Rattle.pm_world.specs.InWorld.{InWorld, AgreesAt, SeenAgrees, IsSound, SeenIsSound}
use Rattle.pm_world.specs.Lanes.{HoldFits, has, own}
use Rattle.pm_world.specs.Lawful.{IsLawful}
use Rattle.pm_world.specs.Laws.{Turn}
use Rattle.pm_world.specs.Memory.{Memory, PoolWord, run_told, cells_of}
use Rattle.pm_world.specs.Sights.{sight_of}
use Rattle.pm_world.specs.World.{Opening, Views, Past, LaneFits, World, ghost_of, settled_words}
use Rattle.pm_world.proofs.EveryStep.{every_step}
use Rattle.pm_world.proofs.CrashDescriptors.{some_below}
use Rattle.pm_world.proofs.Frame.{not_making}
use Rattle.pm_world.proofs.StepChange.{seal_word, generation_word}
use Rattle.pm_world.proofs.StepMark.{descriptor_at}

-- ---- what a descriptor tells of a run is one word

run_word : (d n : ℕ) → run_told d ≡ suc n → d ≡ 1 + 256 * suc n
run_word d n = go (is_run d) refl
  where
    go : (t : Bool) → is_run d ≡ t → cond t (d / 256) 0 ≡ suc n → d ≡ 1 + 256 * suc n
    go true r e = let m : d % 256 ≡ 1 = eqb-true (d % 256) 1 r in omega arith
    go false r e = absurd (omega arith)

module _ (v : View) (w x : ℕ) (i : InWorld v w x) where
  abbrev o : Opening
  o = i.opening

  fits : LaneFits o i.memory i.past v.fixed.lane v
  fits = subst (λ (u : View). LaneFits o i.memory i.past v.fixed.lane u) i.here (i.world.each_lane v.fixed.lane i.runs)

  hold : HoldFits o.shape (cells_of o.shape i.memory).writer (cells_of o.shape i.memory).reader (cells_of o.shape i.memory).descr (settled_words o i.past) (ghost_of i.past) v.fixed.lane (sight_of v).hold
  hold = subst (λ (u : View). HoldFits o.shape (cells_of o.shape i.memory).writer (cells_of o.shape i.memory).reader (cells_of o.shape i.memory).descr (settled_words o i.past) (ghost_of i.past) v.fixed.lane (sight_of u).hold) i.here
      (i.world.bits.each_lane v.fixed.lane).hold

  found_at : (u : ℕ) → w ≡ u → x ≡ i.memory (PoolWord u)
  found_at u e = sym i.word ∙ ap (λ n. i.memory (PoolWord n)) e

  agrees_at : (p : Part) → part_of o.shape v.fixed.lane w ≡ p → AgreesAt v p x
  agrees_at GenerationPart e = found_at _ (generation_word o.shape v.fixed.lane w e) ∙ fits.log.stored
  agrees_at SealPart e = found_at _ (seal_word o.shape v.fixed.lane w e) ∙ fits.log.sealed
  agrees_at (DescriptorPart c) e = λ n known. let at = descriptor_at o.shape v.fixed.lane w c e in
      found_at _ at.0 ∙ run_word (i.memory (PoolWord (word_of_descriptor o.shape c))) n (sym (cond-true (is_place o.shape (Descr c)) _ _ (lt-ltb c (chunks_of o.shape) at.1)) ∙ hold.seen c n known)
  agrees_at EntryPart e = tt
  agrees_at SlotPart e = tt
  agrees_at RootPart e = tt
  agrees_at (ChunkPart c n) e = tt
  agrees_at OtherPart e = tt

pub seen_agrees : SeenAgrees
seen_agrees v w x i = agrees_at v w x i (part_in v w) (ap (λ s. part_of s v.fixed.lane w) (sym (fits v w x i).shape))

-- ---- THE BLOCKS FOUND

module _ (o : Opening) (mem : Memory) (views : Views) (g : Past) (k : ℕ) (x : World o mem views g) (ink : k < o.lanes) where
  f : HoldFits o.shape (cells_of o.shape mem).writer (cells_of o.shape mem).reader (cells_of o.shape mem).descr (settled_words o g) (ghost_of g) k (sight_of (views k)).hold
  f = (x.bits.each_lane k).hold

  has_found : (B : Block) → (sight_of (views k)).hold.found B ≡ true → has (sight_of (views k)).hold B ≡ true
  has_found B e = or_right (own (sight_of (views k)).hold B) ((sight_of (views k)).hold.found B) e

  -- a chunk that is told to be a run of some class is one, or is made one
  told_run : (c n : ℕ) → (cells_of o.shape mem).descr c ≡ suc n → (g.runs c ≡ true) ⊎ ((j : ℕ) × ((sight_of (views j)).hold.making c ≡ true))
  told_run c n e = ⊎_elim (λ (y : (j : ℕ) × ((sight_of (views j)).hold.making c ≡ true)). inr y)
      (λ (y : (j : ℕ) → (sight_of (views j)).hold.making c ≡ false). inl (run (g.runs c) (sym e ∙ x.bits.descr c y)))
      makers
    where
      makers : ((j : ℕ) × ((sight_of (views j)).hold.making c ≡ true)) ⊎ ((j : ℕ) → (sight_of (views j)).hold.making c ≡ false)
      makers = ⊎_elim (λ (y : (j : ℕ) × (j < o.lanes) × ((sight_of (views j)).hold.making c ≡ true)). inl (y.0, y.2))
          (λ (h : (j : ℕ) → j < o.lanes → (sight_of (views j)).hold.making c ≡ false). inr (λ j. ⊎_elim (λ (l : j < o.lanes). h j l) (λ (out : o.lanes ≤ j). not_making (sight_of (views j)).hold c 0 (x.bits.beyond j out (Small c 0)).0) (cases_lt j o.lanes)))
          (some_below (λ j. (sight_of (views j)).hold.making c) o.lanes)

      run : (t : Bool) → suc n ≡ cond t (g.geo.class c) 0 → t ≡ true
      run true e = refl
      run false e = absurd (omega arith)

  pub sound : IsSound (views k)
  sound = record {
    small = λ c i e. let t = f.found (Small c i) e in let v = and_parts (g.runs c) (nat_lt i (blocks_at c)) t.1 in let same = f.class c i (has_found (Small c i) e) in let some = (x.bits.geo.classes c v.0).0 in
        ((λ z. let q = same in omega arith), subst (λ m. i < Rattle.pm_layout.specs.Sizes.blocks_of m) (sym same) (ltb-true i (blocks_at c) v.1));
    some = λ h e. let t = f.found (Big h) e in let z = and_parts (nat_le h h) (nat_lt h (h + (sight_of (views k)).hold.span h)) (sym (f.span h (has_found (Big h) e) h) ∙ t.1) in
        let l = ltb-true h (h + (sight_of (views k)).hold.span h) z.1 in omega (arith, l);
    zone = λ h e. f.zone h (has_found (Big h) e);
    huge = huge;
  }
    where
      blocks_at : ℕ → ℕ
      blocks_at c = Rattle.pm_layout.specs.Sizes.blocks_of (g.geo.class c)

      huge : (h c : ℕ) → (sight_of (views k)).hold.found (Big h) ≡ true → in_span h ((sight_of (views k)).hold.span h) c ≡ true → ((sight_of (views k)).hold.first c ≡ h) × ((sight_of (views k)).hold.class c ≡ 0)
      huge h c e s = (first_is, class_is ((sight_of (views k)).hold.class c) refl)
        where
          head : g.geo.first c ≡ h
          head = eqb-true (g.geo.first c) h (f.span h (has_found (Big h) e) c ∙ s)

          found_head : (sight_of (views k)).hold.found (Big (g.geo.first c)) ≡ true
          found_head = ap (λ n. (sight_of (views k)).hold.found (Big n)) head ∙ e

          first_is : (sight_of (views k)).hold.first c ≡ h
          first_is = f.first c (has_found (Big (g.geo.first c)) found_head) ∙ head

          class_is : (m : ℕ) → (sight_of (views k)).hold.class c ≡ m → (sight_of (views k)).hold.class c ≡ 0
          class_is zero q = q
          class_is (suc n) q = absurd (⊎_elim (λ (r : g.runs c ≡ true). both_ways (g.runs c) (x.bits.geo.huge c (f.found (Big (g.geo.first c)) found_head).2) r)
              (λ (y : (j : ℕ) × ((sight_of (views j)).hold.making c ≡ true)). made y.0 ((x.bits.each_lane y.0).hold.making c y.1).0) (told_run c n (f.seen c n q)))
            where
              made : (j : ℕ) → (sight_of (views j)).hold.mine (Big c) ≡ true → ⊥
              made j m = let t = (x.bits.each_lane j).hold.mine (Big c) m in let own_first : g.geo.first c ≡ c = eqb-true (g.geo.first c) c t.1 in
                  both_ways (Rattle.pm_world.specs.States.there (settled_words o g) (Big c)) t.2 (ap (λ n. Rattle.pm_world.specs.States.there (settled_words o g) (Big n)) (sym own_first) ∙ (f.found (Big (g.geo.first c)) found_head).2)

-- the look itself is a step of the lane
pub seen_is_sound : SeenIsSound
seen_is_sound v w x i = (
  subst IsSound i.here (sound i.opening i.memory i.views i.past v.fixed.lane i.world i.runs),
  subst IsSound (turn.here ∙ ap (λ (u : View). after u (Load w x)) i.here) (sound i.opening i.memory next (past_after i.past (i.views v.fixed.lane) (Load w x)) v.fixed.lane (every_step (Load w x) i.opening i.memory i.memory i.views next i.past v.fixed.lane i.world i.runs lawful (λ l. refl, sym i.word) turn).0 i.runs),
)
  where
    next : Views
    next j = cond (eqb j v.fixed.lane) (after (i.views v.fixed.lane) (Load w x)) (i.views j)

    turn : Turn i.views next v.fixed.lane (after (i.views v.fixed.lane) (Load w x))
    turn = record { here = cond-true (eqb v.fixed.lane v.fixed.lane) _ _ (eq-eqb v.fixed.lane v.fixed.lane refl); else_ = λ j ne. ap (λ b. cond b (after (i.views v.fixed.lane) (Load w x)) (i.views j)) (ne_eqb j v.fixed.lane ne) }

    lawful : IsLawful (i.views v.fixed.lane) (Load w x)
    lawful = subst (λ (u : View). IsLawful u (Load w x)) (sym i.here) (record { allowed = i.inside; due = λ u. absurd (both_ways false refl u) })
