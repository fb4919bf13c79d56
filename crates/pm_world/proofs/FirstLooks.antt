-- A LANE'S FIRST LOOKS, at its generation and its seal.
use Rattle.std.proofs.Common.{◌==◌, ◌≡◌, ℕ, ◌<◌, refl, sym, ap, ◌∙◌, subst, arith, ne_eqb, eq-eqb}
use Rattle.std.proofs.lemmas.Bool.{cond-true, cond-false}
use Rattle.pm_layout.specs.declared.shape.Shape.{Shape}
use Rattle.pm_layout.specs.Areas.{word_of_generation, word_of_seal}
use Rattle.pm_layout.specs.Chunks.{words_of}
use Rattle.pm_view.specs.Parts.{GenerationPart, SealPart, part_of}
use Rattle.pm_view.specs.Founds.{Found}
use Rattle.pm_view.specs.Steps.{Step}
use Rattle.pm_view.specs.Steps.Step.{Load}
use Rattle.pm_view.specs.View.{View, Constants, idle}
use Rattle.pm_view.specs.Views.{after}
use Rattle.pm_world.specs.InWorld.{InWorld, AgreesAt}
use Rattle.pm_world.specs.LaneFields.{IsUnused, opened}
use Rattle.pm_world.specs.Lawful.{Allowed}
use Rattle.pm_world.proofs.InWorlds.{seen_agrees}

pub generation_inside : (sh : Shape) (lane : ℕ) → lane < sh.lanes → word_of_generation sh lane < words_of sh
generation_inside sh lane inside = omega arith

pub seal_inside : (sh : Shape) (lane : ℕ) → lane < sh.lanes → word_of_seal sh lane < words_of sh
seal_inside sh lane inside = omega arith

pub seal_within : (sh : Shape) (fixed : Constants) (lane w : ℕ) → w ≡ word_of_seal sh lane → lane ≡ fixed.lane → fixed.shape ≡ sh → fixed.lane < sh.lanes → w < words_of fixed.shape
seal_within sh fixed lane w e n s l = subst (λ y. y < words_of fixed.shape) (sym (e ∙ (ap (word_of_seal sh) n ∙ ap (λ h. word_of_seal h fixed.lane) (sym s)))) (seal_inside fixed.shape fixed.lane (subst (λ (h : Shape). fixed.lane < h.lanes) (sym s) l))

generation_part : (sh : Shape) (lane : ℕ) → part_of sh lane (word_of_generation sh lane) ≡ GenerationPart
generation_part sh lane = cond-true (word_of_generation sh lane == word_of_generation sh lane) _ _ (eq-eqb (word_of_generation sh lane) (word_of_generation sh lane) refl)

seal_part : (sh : Shape) (lane : ℕ) → part_of sh lane (word_of_seal sh lane) ≡ SealPart
seal_part sh lane = cond-false (word_of_seal sh lane == word_of_generation sh lane) _ _ (ne_eqb (word_of_seal sh lane) (word_of_generation sh lane) (λ e. omega arith))
    ∙ cond-true (word_of_seal sh lane == word_of_seal sh lane) _ _ (eq-eqb (word_of_seal sh lane) (word_of_seal sh lane) refl)

-- the generation is the log's, and the seal is 0
pub first_generation : (fixed : Constants) (generation x : ℕ) → InWorld (idle fixed generation) (word_of_generation fixed.shape fixed.lane) x → x ≡ generation
first_generation fixed generation x i = subst (λ p. AgreesAt (idle fixed generation) p x) (generation_part fixed.shape fixed.lane) (seen_agrees (idle fixed generation) (word_of_generation fixed.shape fixed.lane) x i)

abbrev pub looked : Constants → ℕ → View
looked fixed generation = after (idle fixed generation) (Load (word_of_generation fixed.shape fixed.lane) generation)

pub first_seal : (fixed : Constants) (generation x : ℕ) → InWorld (looked fixed generation) (word_of_seal fixed.shape fixed.lane) x → x ≡ 0
first_seal fixed generation x i = subst (λ p. AgreesAt (looked fixed generation) p x) (seal_part fixed.shape fixed.lane) (seen_agrees (looked fixed generation) (word_of_seal fixed.shape fixed.lane) x i)

-- ---- over a memory that tells of its world

module _ {M : Type 0} (at : M → View → Type 0) (may : View → Step → Type 0) (grants : (v : View) (s : Step) → Allowed v s → may v s) where
  -- what a look at the word gave
  pub record Looked (m new : M) (w x : ℕ) : Type 0 where
    pub made : (v : View) → at m v → may v (Load w x) → at new (after v (Load w x)) × Found v (Load w x)
    pub world : (v : View) → at m v → may v (Load w x) → InWorld v w x

  inside : (sh : Shape) (fixed : Constants) → fixed.shape ≡ sh → fixed.lane < sh.lanes → fixed.lane < fixed.shape.lanes
  inside sh fixed e l = subst (λ (s : Shape). fixed.lane < s.lanes) (sym e) l

  pub looks_first : (m new : M) (sh : Shape) (lane w x : ℕ) (fixed : Constants) (generation : ℕ) → Looked m new w x → w ≡ word_of_generation sh lane → lane ≡ fixed.lane → IsUnused at m sh fixed generation
      → (x ≡ generation) × at new (looked fixed generation)
  looks_first m new sh lane w x fixed generation k e n u = (is, subst (λ y. at new (after (idle fixed generation) (Load (word_of_generation fixed.shape fixed.lane) y))) is (there.made (idle fixed generation) u.seen may_).0)
    where
      word : w ≡ word_of_generation fixed.shape fixed.lane
      word = e ∙ (ap (word_of_generation sh) n ∙ ap (λ s. word_of_generation s fixed.lane) (sym u.shape))

      there : Looked m new (word_of_generation fixed.shape fixed.lane) x
      there = subst (λ y. Looked m new y x) word k

      may_ : may (idle fixed generation) (Load (word_of_generation fixed.shape fixed.lane) x)
      may_ = grants (idle fixed generation) (Load (word_of_generation fixed.shape fixed.lane) x) (generation_inside fixed.shape fixed.lane (inside sh fixed u.shape u.lane))

      is : x ≡ generation
      is = first_generation fixed generation x (there.world (idle fixed generation) u.seen may_)

  pub looks_second : (m new : M) (sh : Shape) (lane w x : ℕ) (fixed : Constants) (generation : ℕ) → Looked m new w x → w ≡ word_of_seal sh lane → lane ≡ fixed.lane → fixed.shape ≡ sh → fixed.lane < sh.lanes → at m (looked fixed generation)
      → at new (opened fixed generation)
  looks_second m new sh lane w x fixed generation k e n s l seen = subst (λ y. at new (after (looked fixed generation) (Load (word_of_seal fixed.shape fixed.lane) y))) is (there.made (looked fixed generation) seen may_).0
    where
      word : w ≡ word_of_seal fixed.shape fixed.lane
      word = e ∙ (ap (word_of_seal sh) n ∙ ap (λ h. word_of_seal h fixed.lane) (sym s))

      there : Looked m new (word_of_seal fixed.shape fixed.lane) x
      there = subst (λ y. Looked m new y x) word k

      may_ : may (looked fixed generation) (Load (word_of_seal fixed.shape fixed.lane) x)
      may_ = grants (looked fixed generation) (Load (word_of_seal fixed.shape fixed.lane) x) (seal_inside fixed.shape fixed.lane (inside sh fixed s l))

      is : x ≡ 0
      is = first_seal fixed generation x (there.world (looked fixed generation) seen may_)
