-- An image has one cause at most not to be opened, and none where it is opened; of memory nothing is
-- said.
use Rattle.std.proofs.Common.{◌≡◌, ℕ, ◌<◌, ◌≤◌, ⊎_elim, List, Ok, Err, sym, ap, ◌∙◌, arith}
use Rattle.pm_image.proofs.Meanings.{no_meaning_and_fault, one_fault, one_meaning}
use Rattle.pm_image.specs.Means.{IsMeaning}
use Rattle.pm_layout.specs.declared.shape.Shape.{Shape}
use Rattle.pm_objects.specs.declared.pool.PoolView.{PoolView}
use Rattle.pm_lanes.specs.declared.fault.OpenFault.{OpenFault}
use Rattle.pm_lanes.specs.declared.fault.OpenFault.TheVariants.{Image, Layout, Lanes, Memory}
use Rattle.pm_lanes.specs.Opens.{IsOpenCause, IsOpened, IsRefusedFor}

module _ (image layout : List ℕ) (lanes : ℕ) where
  -- of one image all pools have one name, and as many lanes
  names : (pool other : PoolView) → IsMeaning image pool → IsMeaning image other
      → pool.name ≡ other.name
  names pool other is also = ap (λ (p : PoolView). p.name) (one_meaning image pool other is also)

  counts : (pool other : PoolView) → IsMeaning image pool → IsMeaning image other
      → pool.lanes ≡ other.lanes
  counts pool other is also = ap (λ (p : PoolView). p.lanes) (one_meaning image pool other is also)

  pub told_for : (T : Type 0) (fault told : OpenFault) → IsOpenCause image layout lanes fault
      → IsOpenCause image layout lanes told → IsRefusedFor {T = T} fault (Err (image, told))
  told_for T Memory told a b = tt
  told_for T (Image found) Memory a b = tt
  told_for T (Image found) (Image told) a b = one_fault image told found b a
  told_for T (Image found) (Layout asked kept) a b =
      no_meaning_and_fault image b.1.pool found b.1.means a
  told_for T (Image found) (Lanes asked kept) a b =
      no_meaning_and_fault image b.1.pool found b.1.means a
  told_for T (Layout asked kept) Memory a b = tt
  told_for T (Layout asked kept) (Image told) a b =
      no_meaning_and_fault image a.1.pool told a.1.means b
  told_for T (Layout asked kept) (Layout wanted told) a b =
      sym b.1.named ∙ (names b.1.pool a.1.pool b.1.means a.1.means ∙ a.1.named)
  told_for T (Layout asked kept) (Lanes wanted told) a b =
      a.1.other (sym a.1.named ∙ (names a.1.pool b.1.pool a.1.means b.1.means ∙ b.1.named))
  told_for T (Lanes asked kept) Memory a b = tt
  told_for T (Lanes asked kept) (Image told) a b =
      no_meaning_and_fault image a.1.pool told a.1.means b
  told_for T (Lanes asked kept) (Layout wanted told) a b =
      b.1.other (sym b.1.named ∙ (names b.1.pool a.1.pool b.1.means a.1.means ∙ a.1.named))
  told_for T (Lanes asked kept) (Lanes wanted told) a b =
      sym b.1.of_lanes ∙ (counts b.1.pool a.1.pool b.1.means a.1.means ∙ a.1.of_lanes)

  pub no_cause : (T : Type 0) (value : T) (words : List ℕ) (shape : Shape) (id : ℕ)
      → IsOpened image layout words shape id → 1 ≤ lanes → lanes ≤ shape.lanes
      → (fault : OpenFault) → IsOpenCause image layout lanes fault
      → IsRefusedFor {T = T} fault (Ok value)
  no_cause T value words shape id is some most Memory a = tt
  no_cause T value words shape id is some most (Image found) a =
      no_meaning_and_fault image is.pool found is.means a
  no_cause T value words shape id is some most (Layout asked kept) a =
      a.1.other (sym a.1.named ∙ (names a.1.pool is.pool a.1.means is.means ∙ is.named))
  no_cause T value words shape id is some most (Lanes asked kept) a =
      let same = counts a.1.pool is.pool a.1.means is.means in let kept_so = a.1.of_lanes in
      let of = is.of_lanes in let asked_so = a.0 in
      ⊎_elim
      (λ (none : asked ≡ 0). omega (arith, none, asked_so, some))
      (λ (more : kept < asked). omega (arith, more, same, kept_so, of, asked_so, most))
      a.1.other
