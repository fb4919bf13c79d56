-- A LOOK AS MEMORY CALLS: what is seen of the words is what the look's law asks for.
use Rattle.std.proofs.Common.{◌≡◌, ◌≢◌, ℕ, ◌*◌, ◌/◌, ◌%◌, ◌<◌, leb, Bool, true, false, ◌&&◌, ◌==◌, ◌∷◌, refl, sym, ap, ◌∙◌, subst, arith, ne_eqb, eq-eqb}
use Rattle.std.proofs.lemmas.Bool.{and_from, and_left, and_right, both_ways, le-leb, cond-false, cond-true}
use Rattle.pm_layout.specs.declared.shape.Shape.{Shape}
use Rattle.pm_layout.specs.Chunks.{chunks_of, word_of_chunk, word_of_descriptor, words_of}
use Rattle.pm_view.specs.Claims.{is_huge, is_run}
use Rattle.pm_view.specs.Steps.Step.{Load}
use Rattle.pm_view.specs.View.{View}
use Rattle.pm_view.specs.Views.{after, after_all}
use Rattle.pm_world.specs.InWorld.{InWorld}
use Rattle.pm_lock.specs.Objects.{CanLook, FitsLook, IsOfWorld, LookedAs, LookTells, chunk_of_line, finds, has_lines, looks_at_bitmap, shows, shows_small}
use Rattle.pm_lock.proofs.LookLaw.{Leaves, look_leaves}
use Rattle.pm_lock.proofs.Looks.{chunk_line}
use Rattle.pm_lock.proofs.Sights.{seen_after, seen_fits}

-- the words are of the pool
pub descriptor_allowed : (v : View) (sh : Shape) (line w : ℕ) → CanLook v sh line → w ≡ word_of_descriptor sh (chunk_of_line sh line) → w < words_of v.fixed.shape
descriptor_allowed v sh line w can is = subst (λ s. w < words_of s) (sym can.shape) (let i = (chunk_line sh line can.chunk).0 in low (chunk_of_line sh line) i is)
  where
    low : (c : ℕ) → c < chunks_of sh → w ≡ word_of_descriptor sh c → w < words_of sh
    low c i is = omega (arith, i, is)

pub bitmap_word : (sh : Shape) (line w : ℕ) → (chunk : (Rattle.pm_lock.specs.Objects.is_chunk_line sh line) ≡ true) → w ≡ 512 * (line / 64) → w ≡ word_of_chunk sh (chunk_of_line sh line)
bitmap_word sh line w chunk is = is ∙ ap (λ p. 512 * p) (sym (chunk_line sh line chunk).1)

pub bitmap_allowed : (v : View) (sh : Shape) (line w : ℕ) → CanLook v sh line → w ≡ 512 * (line / 64) → w < words_of v.fixed.shape
bitmap_allowed v sh line w can is = subst (λ s. w < words_of s) (sym can.shape) (let i = (chunk_line sh line can.chunk).0 in low (chunk_of_line sh line) i (bitmap_word sh line w can.chunk is))
  where
    low : (c : ℕ) → c < chunks_of sh → w ≡ word_of_chunk sh c → w < words_of sh
    low c i is = omega (arith, i, is)

module _ (at : View → Type 0) (v : View) (sh : Shape) (line d : ℕ) (can : CanLook v sh line) (wd : ℕ) (is : wd ≡ word_of_descriptor sh (chunk_of_line sh line)) (seen : InWorld v wd d) where
  abbrev c : ℕ
  c = chunk_of_line sh line

  looked_as : (b : ℕ) (there : Bool) → Leaves v line d b (after_all v (finds sh line d b)) → at (after_all v (finds sh line d b)) → IsOfWorld (after_all v (finds sh line d b)) → there ≡ shows d b (line % 64) → LookedAs at v sh line there
  looked_as b there l m world e = record {
    descriptor = d;
    bitmap = b;
    memory = m;
    stays = l.stays;
    sound = l.sound;
    world = world;
    tells = subst (λ t. LookTells v line t (after_all v (finds sh line d b))) (sym e) l.tells;
  }

  fits : FitsLook v (word_of_descriptor sh c) d
  fits = seen_fits v (word_of_descriptor sh c) d (subst (λ w. InWorld v w d) is seen)

  once : (b : ℕ) → after_all v (Load (word_of_descriptor sh c) d ∷ looks_at_bitmap sh c b false) ≡ after v (Load (word_of_descriptor sh c) d)
  unfolding after_all
  once b = refl

  twice : (b : ℕ) → after_all v (Load (word_of_descriptor sh c) d ∷ looks_at_bitmap sh c b true) ≡ after (after v (Load (word_of_descriptor sh c) d)) (Load (word_of_chunk sh c) b)
  unfolding after_all
  twice b = refl

  -- the descriptor alone
  pub one_seen : at (after v (Load wd d)) → has_lines d ≡ false → (there : Bool) → there ≡ shows d 0 (line % 64) → LookedAs at v sh line there
  one_seen m none there e = looked_as 0 there (look_leaves v sh line d 0 can fits (λ h. absurd (both_ways (has_lines d) none h)))
      (subst at (sym (ap (λ x. after_all v (Load (word_of_descriptor sh c) d ∷ looks_at_bitmap sh c 0 x)) none ∙ once 0)) (subst (λ w. at (after v (Load w d))) is m))
      (subst IsOfWorld (sym (ap (λ x. after_all v (Load (word_of_descriptor sh c) d ∷ looks_at_bitmap sh c 0 x)) none ∙ once 0)) (subst (λ w. IsOfWorld (after v (Load w d))) is (record { word = wd; value = d; there = seen_after v wd d seen }))) e

  -- and the bitmap
  pub two_seen : (wb b : ℕ) → wb ≡ 512 * (line / 64) → at (after (after v (Load wd d)) (Load wb b)) → InWorld (after v (Load wd d)) wb b → has_lines d ≡ true → (there : Bool) → there ≡ shows d b (line % 64) → LookedAs at v sh line there
  two_seen wb b word m also some there e =
      let at_bitmap = bitmap_word sh line wb can.chunk word in
      looked_as b there (look_leaves v sh line d b can fits (λ h. seen_fits (after v (Load (word_of_descriptor sh c) d)) (word_of_chunk sh c) b (subst (λ w. InWorld (after v (Load w d)) (word_of_chunk sh c) b) is (subst (λ w. InWorld (after v (Load wd d)) w b) at_bitmap also))))
      (subst at (sym (ap (λ x. after_all v (Load (word_of_descriptor sh c) d ∷ looks_at_bitmap sh c b x)) some ∙ twice b)) (subst (λ w. at (after (after v (Load w d)) (Load (word_of_chunk sh c) b))) is (subst (λ w. at (after (after v (Load wd d)) (Load w b))) at_bitmap m)))
      (subst IsOfWorld (sym (ap (λ x. after_all v (Load (word_of_descriptor sh c) d ∷ looks_at_bitmap sh c b x)) some ∙ twice b)) (subst (λ w. IsOfWorld (after (after v (Load w d)) (Load (word_of_chunk sh c) b))) is
      (subst (λ w. IsOfWorld (after (after v (Load wd d)) (Load w b))) at_bitmap (record { word = wb; value = b; there = seen_after (after v (Load wd d)) wb b also })))) e

-- ---- what the code computes

pub shows_huge : (d b at : ℕ) → d % 256 ≢ 1 → (is_huge d && at == 0) ≡ shows d b at
shows_huge d b at other = sym (cond-false (is_run d) (shows_small (d / 256) b at) (is_huge d && at == 0) (ne_eqb (d % 256) 1 other))

pub no_lines_there : (d : ℕ) → d % 256 ≢ 1 → has_lines d ≡ false
no_lines_there d other = and_left (is_run d) (leb 1 (d / 256)) (ne_eqb (d % 256) 1 other)

pub shows_none : (d b at : ℕ) → d % 256 ≡ 1 → d / 256 ≡ 0 → false ≡ shows d b at
shows_none d b at run zero_ = sym (cond-true (is_run d) (shows_small (d / 256) b at) (is_huge d && at == 0) (eq-eqb (d % 256) 1 run) ∙ ap (λ n. shows_small n b at) zero_)

pub empty_run : (d : ℕ) → d / 256 ≡ 0 → has_lines d ≡ false
empty_run d zero_ = and_right (is_run d) (leb 1 (d / 256)) (ap (leb 1) zero_)

pub shows_run : (d b at : ℕ) → d % 256 ≡ 1 → shows_small (d / 256) b at ≡ shows d b at
shows_run d b at run = sym (cond-true (is_run d) (shows_small (d / 256) b at) (is_huge d && at == 0) (eq-eqb (d % 256) 1 run))

pub lines_there : (d : ℕ) → d % 256 ≡ 1 → d / 256 ≢ 0 → has_lines d ≡ true
lines_there d run some = and_from (is_run d) (leb 1 (d / 256)) (eq-eqb (d % 256) 1 run) (le-leb 1 (d / 256) (omega (arith, some)))
