-- A LOOK THAT FITS leaves what the lane has, and tells whether an object stands at its line.
use Rattle.std.proofs.Common.{◌≡◌, ℕ, suc, ◌+◌, ◌*◌, ◌/◌, ◌%◌, ◌<◌, ◌≤◌, Bool, true, false, ◌&&◌, ◌∷◌, leb, refl, sym, ap, ◌∙◌, subst, arith}
use Rattle.std.proofs.lemmas.Bool.{and_from, and_left, and_right, leb-false, leb-true}
use Rattle.pm_layout.specs.declared.shape.Shape.{Shape}
use Rattle.pm_layout.specs.Chunks.{chunks_of, word_of_chunk, word_of_descriptor}
use Rattle.pm_view.specs.Claims.{class, is_run}
use Rattle.pm_view.specs.Parts.{DescriptorPart}
use Rattle.pm_view.specs.Steps.Step.{Load}
use Rattle.pm_view.specs.View.{View}
use Rattle.pm_view.specs.Views.{after, after_all, part_in}
use Rattle.pm_world.specs.InWorld.{AgreesAt, IsSound}
use Rattle.pm_lock.specs.Objects.{CanLook, FitsLook, HasLooked, HasSound, LookTells, LooksTell, MissesGrow, chunk_of_line, finds, has_lines, looks_at_bitmap, shows}
use Rattle.pm_lock.proofs.Looks.{bitmap_is, chunk_line, descriptor_is, learns_bitmap, learns_descriptor}
use Rattle.pm_lock.proofs.Stays.{bitmap_stays, descriptor_stays, stays_on}
use Rattle.pm_lock.proofs.Tells.{class_told, tells_empty, tells_no_run, tells_run, told_bitmap, told_descriptor}

-- what a look leaves, with all that is said of it
pub record Leaves (v : View) (line d b : ℕ) (w : View) : Type 0 where
  pub stays : HasLooked v w
  pub sound : IsSound w
  pub tells : LookTells v line (shows d b (line % 64)) w

module _ (v : View) (line d b : ℕ) (can : CanLook v v.fixed.shape line) (grown : MissesGrow v) where
  abbrev c : ℕ
  c = chunk_of_line v.fixed.shape line

  inside : c < chunks_of v.fixed.shape
  inside = (chunk_line v.fixed.shape line can.chunk).0

  abbrev pub first_view : View
  first_view = record v { claims = told_descriptor v line d b can grown }

  abbrev pub second_view : View
  second_view = record v { claims = told_bitmap v line d b can grown }

  is_part : part_in v (word_of_descriptor v.fixed.shape c) ≡ DescriptorPart c
  is_part = descriptor_is v.fixed.shape v.fixed.lane c can.lane inside

  pub first_is : after v (Load (word_of_descriptor v.fixed.shape c) d) ≡ first_view
  first_is = ap (λ t. record v { claims = t }) (learns_descriptor v.log.phase c (word_of_descriptor v.fixed.shape c) d (part_in v (word_of_descriptor v.fixed.shape c)) v.claims can.early is_part)

  pub second_is : after first_view (Load (word_of_chunk v.fixed.shape c) b) ≡ second_view
  second_is = ap (λ t. record v { claims = t }) (learns_bitmap v.log.phase c (word_of_chunk v.fixed.shape c) b (part_in first_view (word_of_chunk v.fixed.shape c)) first_view.claims can.early (bitmap_is v.fixed.shape v.fixed.lane c can.lane inside))

  pub one_look : after_all v (Load (word_of_descriptor v.fixed.shape c) d ∷ looks_at_bitmap v.fixed.shape c b false) ≡ first_view
  unfolding after_all
  one_look = first_is

  pub two_looks : after_all v (Load (word_of_descriptor v.fixed.shape c) d ∷ looks_at_bitmap v.fixed.shape c b true) ≡ second_view
  unfolding after_all
  two_looks = ap (λ u. after u (Load (word_of_chunk v.fixed.shape c) b)) first_is ∙ second_is

  module _ (fits : FitsLook v (word_of_descriptor v.fixed.shape c) d) where
    agrees : (n : ℕ) → class v.claims c ≡ suc n → d ≡ 1 + 256 * suc n
    agrees = subst (λ p. AgreesAt v p d) is_part fits.agrees

    first_stays : HasLooked v first_view
    first_stays = descriptor_stays v c d can.lane inside fits.has_before (subst HasSound first_is fits.has_after) can.unmaking agrees (subst IsSound first_is fits.sound)

    pub no_run_leaves : is_run d ≡ false → Leaves v line d b first_view
    no_run_leaves r = record { stays = first_stays; sound = subst IsSound first_is fits.sound; tells = tells_no_run v line d b can grown r }

    pub empty_leaves : is_run d ≡ true → d / 256 ≡ 0 → Leaves v line d b first_view
    empty_leaves r zero_ = record { stays = first_stays; sound = subst IsSound first_is fits.sound; tells = tells_empty v line d b can grown r zero_ }

    pub run_leaves : is_run d ≡ true → 1 ≤ d / 256 → FitsLook first_view (word_of_chunk v.fixed.shape c) b → Leaves v line d b second_view
    run_leaves r some also = record {
      stays = stays_on v first_view second_view first_stays (bitmap_stays first_view c b can.lane inside also.has_before (subst HasSound second_is also.has_after) can.unmaking (λ z. let k = class_told v line d b can grown r in omega (arith, some, sym k ∙ z)) (subst IsSound second_is also.sound));
      sound = subst IsSound second_is also.sound;
      tells = tells_run v line d b can grown r some;
    }

    -- by whether the bitmap is looked at
    pub leaves : (has_lines d ≡ true → FitsLook first_view (word_of_chunk v.fixed.shape c) b) → Leaves v line d b (after_all v (finds v.fixed.shape line d b))
    leaves also = at (is_run d) refl (leb 1 (d / 256)) refl where
      at : (r : Bool) → is_run d ≡ r → (s : Bool) → leb 1 (d / 256) ≡ s → Leaves v line d b (after_all v (Load (word_of_descriptor v.fixed.shape c) d ∷ looks_at_bitmap v.fixed.shape c b (is_run d && leb 1 (d / 256))))
      at false r s q = subst (λ w. Leaves v line d b w) (sym (ap (λ x. after_all v (Load (word_of_descriptor v.fixed.shape c) d ∷ looks_at_bitmap v.fixed.shape c b x)) (and_left (is_run d) (leb 1 (d / 256)) r) ∙ one_look)) (no_run_leaves r)
      at true r false q = subst (λ w. Leaves v line d b w) (sym (ap (λ x. after_all v (Load (word_of_descriptor v.fixed.shape c) d ∷ looks_at_bitmap v.fixed.shape c b x)) (and_right (is_run d) (leb 1 (d / 256)) q) ∙ one_look)) (empty_leaves r (let z = leb-false 1 (d / 256) q in omega (arith, z)))
      at true r true q = let both = and_from (is_run d) (leb 1 (d / 256)) r q in
          subst (λ w. Leaves v line d b w) (sym (ap (λ x. after_all v (Load (word_of_descriptor v.fixed.shape c) d ∷ looks_at_bitmap v.fixed.shape c b x)) both ∙ two_looks)) (run_leaves r (leb-true 1 (d / 256) q) (also both))

pub look_leaves : (v : View) (sh : Shape) (line d b : ℕ) → CanLook v sh line → FitsLook v (word_of_descriptor sh (chunk_of_line sh line)) d
    → (has_lines d ≡ true → FitsLook (after v (Load (word_of_descriptor sh (chunk_of_line sh line)) d)) (word_of_chunk sh (chunk_of_line sh line)) b) → Leaves v line d b (after_all v (finds sh line d b))
look_leaves v sh line d b can fits also = by v.fixed.shape can.shape can fits also where
  by : (s : Shape) → s ≡ sh → CanLook v sh line → FitsLook v (word_of_descriptor sh (chunk_of_line sh line)) d
      → (has_lines d ≡ true → FitsLook (after v (Load (word_of_descriptor sh (chunk_of_line sh line)) d)) (word_of_chunk sh (chunk_of_line sh line)) b) → Leaves v line d b (after_all v (finds sh line d b))
  by s e = subst (λ sh. CanLook v sh line → FitsLook v (word_of_descriptor sh (chunk_of_line sh line)) d
      → (has_lines d ≡ true → FitsLook (after v (Load (word_of_descriptor sh (chunk_of_line sh line)) d)) (word_of_chunk sh (chunk_of_line sh line)) b) → Leaves v line d b (after_all v (finds sh line d b))) can.shape
      (λ can fits also. leaves v line d b can fits.grown fits (λ h. subst (λ u. FitsLook u (word_of_chunk v.fixed.shape (chunk_of_line v.fixed.shape line)) b) (first_is v line d b can fits.grown) (also h)))

pub looks_tell : LooksTell
looks_tell v sh line d b can fits also = let l = look_leaves v sh line d b can fits also in (l.stays, l.tells)
