-- Scenes that lose some blocks and gain others, one after another.
use Rattle.std.proofs.Common.{◌≡◌, ◌≢◌, ⊎_elim, inl, inr, ℕ, ◌+◌, ◌*◌, ◌%◌, ◌≤◌, ◌&&◌, ◌||◌, ◌==◌, not, Bool, true, false, List, [], ◌∷◌, map, refl, sym, ◌∙◌, ap, subst}
use Rattle.std.specs.List.{Contains}
use Rattle.std.proofs.lemmas.Bool.{and_from, and_parts, both_ways, eq-eqb, eqb-true, false_from_ne_true, or_cases, or_left, or_right}
use Rattle.pm_image.specs.declared.block.Block.{Block as Lines}
use Rattle.pm_image.specs.Contents.{data_words, offset_in, size_in}
use Rattle.pm_image.proofs.Members.{first_member, later_member}
use Rattle.pm_model.specs.Items.{Items, all_edited, edited, freed_item, made_item}
use Rattle.pm_view.specs.Places.{Block, Small, Big, Root, same}
use Rattle.pm_crash.specs.Objects.{item_in}
use Rattle.pm_crash.specs.Scenes.{AreApart, IsScene}
use Rattle.pm_crash.specs.SimBlocks.{New, NewOnce, Old, OldOnce, is_coming, is_going}
use Rattle.pm_crash.proofs.SceneSteps.{scenes_gain, scenes_lose}

pub same_true : (B C : Block) → same B C ≡ true → B ≡ C
same_true (Small c i) (Small d j) e = let y = and_parts (c == d) (i == j) e in let p = eqb-true c d y.0 in let q = eqb-true i j y.1 in λ k. Small (p k) (q k)
same_true (Small c i) (Big f) e = absurd (both_ways false refl e)
same_true (Small c i) Root e = absurd (both_ways false refl e)
same_true (Big f) (Small c i) e = absurd (both_ways false refl e)
same_true (Big f) (Big g) e = ap (λ n. Big n) (eqb-true f g e)
same_true (Big f) Root e = absurd (both_ways false refl e)
same_true Root (Small c i) e = absurd (both_ways false refl e)
same_true Root (Big f) e = absurd (both_ways false refl e)
same_true Root Root e = refl

pub same_refl : (B : Block) → same B B ≡ true
same_refl (Small c i) = and_from (c == c) (i == i) (eq-eqb c c refl) (eq-eqb i i refl)
same_refl (Big f) = eq-eqb f f refl
same_refl Root = refl

not_false : (b : Bool) → not b ≡ true → b ≡ false
not_false true e = absurd (both_ways false refl e)
not_false false e = refl

not_true : (b : Bool) → b ≡ false → not b ≡ true
not_true b e = ap not e

-- ---- WHICH BLOCKS ARE LEFT

abbrev pub without : (Block → Bool) → Block → Block → Bool
without among B C = among C && not (same B C)

abbrev pub with_one : (Block → Bool) → Block → Block → Bool
with_one among B C = among C || same B C

unfoldable pub minus : (Block → Bool) → List Old → Block → Bool
minus among [] = among
minus among (o ∷ olds) = minus (without among o.block) olds

unfoldable pub plus : (Block → Bool) → List New → Block → Bool
plus among [] = among
plus among (n ∷ news) = plus (with_one among n.block) news

minus_by : (a s r : Bool) → ((a && not s) && not r) ≡ (a && not (s || r))
minus_by true true r = refl
minus_by true false r = refl
minus_by false s r = refl

pub minus_is : (among : Block → Bool) (olds : List Old) (C : Block) → minus among olds C ≡ (among C && not (is_going olds C))
unfolding minus
minus_is among [] C = by (among C)
  where
    by : (a : Bool) → a ≡ (a && true)
    by true = refl
    by false = refl
minus_is among (o ∷ olds) C = minus_is (without among o.block) olds C ∙ minus_by (among C) (same o.block C) (is_going olds C)

plus_by : (a s r : Bool) → ((a || s) || r) ≡ (a || (s || r))
plus_by true s r = refl
plus_by false s r = refl

pub plus_is : (among : Block → Bool) (news : List New) (C : Block) → plus among news C ≡ (among C || is_coming news C)
unfolding plus
plus_is among [] C = by (among C)
  where
    by : (a : Bool) → a ≡ (a || false)
    by true = refl
    by false = refl
plus_is among (n ∷ news) C = plus_is (with_one among n.block) news C ∙ plus_by (among C) (same n.block C) (is_coming news C)

-- ---- BLOCKS GO

module _ (at : Block → Lines) (w : ℕ → ℕ) where
  pub lose_all : (olds : List Old) (among : Block → Bool) (items : Items) → IsScene among at w items → OldOnce olds
      → ((o : Old) → Contains olds o → (among o.block ≡ true) × (offset_in (at o.block) ≡ o.off))
      → IsScene (minus among olds) at w (all_edited (map (λ (o : Old). freed_item o.off) olds) items)
  unfolding minus OldOnce all_edited
  lose_all [] among items x once goes = x
  lose_all (o ∷ olds) among items x once goes =
      let here = goes o (first_member o olds) in
      lose_all olds (without among o.block) (edited (freed_item o.off) items)
      (subst (λ n. IsScene (without among o.block) at w (edited (freed_item n) items)) here.1
      (scenes_lose among (without among o.block) at w items x o.block here.0 (record {
        gone = λ e. both_ways (same o.block o.block) (not_false (same o.block o.block) (and_parts (among o.block) (not (same o.block o.block)) e).1) (same_refl o.block);
        from = λ C e. (and_parts (among C) (not (same o.block C)) e).0;
        stay = λ C a ne. and_from (among C) (not (same o.block C)) a (not_true (same o.block C) (false_from_ne_true (same o.block C) (λ e. ne (sym (same_true o.block C e)))));
      }))) once.1
      (λ p there. let q = goes p (later_member o olds p there) in (
        and_from (among p.block) (not (same o.block p.block)) q.0
            (not_true (same o.block p.block) (false_from_ne_true (same o.block p.block) (λ e.
            both_ways (is_going olds o.block) once.0 (found olds p there o.block (sym (same_true o.block p.block e)))))),
        q.1,
      ))
    where
      found : (olds : List Old) (p : Old) → Contains olds p → (B : Block) → p.block ≡ B → is_going olds B ≡ true
      found olds p there B e = Rattle.pm_crash.proofs.NoHeapFault.member_passes (λ (o : Old). same o.block B) olds p there (subst (λ D. same p.block D ≡ true) e (same_refl p.block))

  -- ---- BLOCKS COME

  pub gain_all : (news : List New) (among : Block → Bool) (items : Items) → IsScene among at w items → NewOnce news
      → ((n : New) → Contains news n → ((at n.block).place % 8 ≡ 0) × (8 + data_words (size_in w (at n.block)) ≤ 8 * (at n.block).lines)
      × (offset_in (at n.block) ≡ n.off) × (item_in w (at n.block) ≡ n.item))
      → ((n : New) (C : Block) → Contains news n → among C ≡ true → AreApart (at n.block) (at C))
      → ((n m : New) → Contains news n → Contains news m → n.block ≢ m.block → AreApart (at n.block) (at m.block))
      → IsScene (plus among news) at w (all_edited (map (λ (n : New). made_item n.off n.item) news) items)
  unfolding plus NewOnce all_edited
  gain_all [] among items x once comes apart others = x
  gain_all (n ∷ news) among items x once comes apart others =
      let here = comes n (first_member n news) in
      gain_all news (with_one among n.block) (edited (made_item n.off n.item) items)
      (subst (λ o. IsScene (with_one among n.block) at w (edited (made_item o n.item) items)) here.2
      (subst (λ i. IsScene (with_one among n.block) at w (edited (made_item (offset_in (at n.block)) i) items)) here.3
      (scenes_gain among (with_one among n.block) at w w items x n.block (record {
        comes = or_right (among n.block) (same n.block n.block) (same_refl n.block);
        from = λ C e. ⊎_elim (λ (a : among C ≡ true). inr a) (λ (b : same n.block C ≡ true). inl (sym (same_true n.block C b))) (or_cases (among C) (same n.block C) e);
        stay = λ C a. or_left (among C) (same n.block C) a;
        begins = here.0;
        fits = here.1;
        apart = λ C a. apart n C (first_member n news) a;
        others = λ C a. record { same = λ i read. refl };
      })))) once.1
      (λ m there. comes m (later_member n news m there))
      (λ m C there a. ⊎_elim
      (λ (b : among C ≡ true). apart m C (later_member n news m there) b)
      (λ (b : same n.block C ≡ true). subst (λ D. AreApart (at m.block) (at D)) (same_true n.block C b)
      (others m n (later_member n news m there) (first_member n news) (λ e. both_ways (is_coming news n.block) once.0 (found news m there n.block e))))
      (or_cases (among C) (same n.block C) a))
      (λ m l there there' ne. others m l (later_member n news m there) (later_member n news l there') ne)
    where
      found : (news : List New) (m : New) → Contains news m → (B : Block) → m.block ≡ B → is_coming news B ≡ true
      found news m there B e = Rattle.pm_crash.proofs.NoHeapFault.member_passes (λ (o : New). same o.block B) news m there (subst (λ D. same m.block D ≡ true) e (same_refl m.block))
