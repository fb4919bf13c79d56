-- What the words of a pool say of runs and of descriptors, as a world opens, where each descriptor is one of the table and no bitmap has a bit past its run's
-- blocks.
use Rattle.std.proofs.Common.{◌≡◌, ℕ, ◌+◌, ◌/◌, ◌%◌, ◌<◌, ◌≤◌, ◌⊎◌, ⊎_elim, nat_lt, true, false, not, ◌==◌, ◌&&◌, ap, ◌∙◌, arith, eq-eqb, ne_eqb}
use Rattle.std.proofs.lemmas.Bool.{cases_Bool, both_ways, eqb-true, ltb-true, lt-ltb, and_parts, and_from, and_left, and_right}
use Rattle.std.proofs.lemmas.Nat.Bits.{bit_at-zero}
use Rattle.pm_layout.specs.Chunks.{chunks_of}
use Rattle.pm_layout.specs.Sizes.{blocks_of}
use Rattle.pm_view.specs.Claims.{is_run}
use Rattle.pm_view.specs.Places.{InRun, Descr, Small, Big, is_place, word_of}
use Rattle.pm_world.specs.States.{there}
use Rattle.pm_world.specs.Lanes.{valid}
use Rattle.pm_world.specs.Memory.{bit, huge_told}
use Rattle.pm_world.specs.Opens.{descriptor}
use Rattle.pm_world.specs.World.{Opening, Views, origin, ghost_of, was_run}
use Rattle.pm_world.proofs.Opened.{opened}
use Rattle.pm_world.proofs.StepMark.{some_class}
use Rattle.std.specs.Int.{bit_at}
use Rattle.std.specs.Prelude.{slice_index}

-- a run of some class, whose bitmap has no bit past its blocks
abbrev pub IsRunIn : Opening → ℕ → Type 0
IsRunIn o c = (descriptor o c % 256 ≡ 1) × (0 < blocks_of (descriptor o c / 256)) × ((i : ℕ) → bit (Rattle.std.specs.Prelude.slice_index o.words (word_of o.shape (InRun c 0))) i ≡ true → i < blocks_of (descriptor o c / 256))

-- the first of some chunks of a zone, those behind which are described by 0
abbrev pub IsHugeIn : Opening → ℕ → Type 0
IsHugeIn o c = (descriptor o c % 256 ≡ 2) × (1 ≤ descriptor o c / 256) × (c % 64 + descriptor o c / 256 ≤ 64) × ((d : ℕ) → c < d → d < c + descriptor o c / 256 → descriptor o d ≡ 0)

abbrev pub InTable : Opening → ℕ → Type 0
InTable o c = (descriptor o c ≡ 0) ⊎ (IsRunIn o c ⊎ IsHugeIn o c)

module _ (o : Opening) (views : Views) (first : ℕ → ℕ) (table : (c : ℕ) → c < chunks_of o.shape → InTable o c) where
  run_in : (c : ℕ) → is_place o.shape (Descr c) ≡ true → is_run (descriptor o c) ≡ true → IsRunIn o c
  run_in c p r = let e = eqb-true (descriptor o c % 256) 1 r in ⊎_elim (λ (z : descriptor o c ≡ 0). absurd (omega arith)) (λ (t : IsRunIn o c ⊎ IsHugeIn o c). ⊎_elim (λ (y : IsRunIn o c). y) (λ (y : IsHugeIn o c). let q = y.0 in absurd (omega arith)) t) (table c (ltb-true c (chunks_of o.shape) p))

  pub classes : (c : ℕ) → (opened o views first).runs c ≡ true → (1 ≤ descriptor o c / 256) × (0 < blocks_of (descriptor o c / 256))
  classes c r = let y = and_parts (is_place o.shape (Descr c)) (is_run (descriptor o c)) r in let z = run_in c y.0 y.1 in (some_class (descriptor o c / 256) z.1, z.1)

  pub within : (c i : ℕ) → there (origin o) (Small c i) ≡ true → valid (ghost_of (opened o views first)) (Small c i) ≡ true
  within c i t = let y = and_parts (was_run o c) (is_place o.shape (InRun c 0) && bit (slice_index o.words (word_of o.shape (InRun c 0))) i) t in let z = and_parts (is_place o.shape (InRun c 0)) (bit (slice_index o.words (word_of o.shape (InRun c 0))) i) y.1 in
      let p = (and_parts (nat_lt c (chunks_of o.shape)) (nat_lt 0 512) z.0).0 in let r = run_in c p y.0 in
      and_from (is_place o.shape (Descr c) && is_run (descriptor o c)) (nat_lt i (blocks_of (descriptor o c / 256))) (and_from (is_place o.shape (Descr c)) (is_run (descriptor o c)) p y.0) (lt-ltb i (blocks_of (descriptor o c / 256)) (r.2 i z.1))

  pub zeros : (c : ℕ) → there (origin o) (Big c) ≡ false → (b : ℕ) → origin o (Descr c) b ≡ false
  zeros c u b = ⊎_elim (λ (p : is_place o.shape (Descr c) ≡ true). ⊎_elim
      (λ (z : descriptor o c ≡ 0). and_right (is_place o.shape (Descr c)) (huge_told (descriptor o c) b) (and_right (not (is_run (descriptor o c))) (bit (descriptor o c) b) (ap (λ y. bit y b) z ∙ ap (λ y. y == 1) (bit_at-zero b))))
      (λ (t : IsRunIn o c ⊎ IsHugeIn o c). ⊎_elim
      (λ (y : IsRunIn o c). and_right (is_place o.shape (Descr c)) (huge_told (descriptor o c) b) (and_left (not (is_run (descriptor o c))) (bit (descriptor o c) b) (ap not (eq-eqb (descriptor o c % 256) 1 y.0))))
      (λ (y : IsHugeIn o c). let q = y.0 in absurd (both_ways (there (origin o) (Big c)) u (and_from (is_place o.shape (Descr c)) (huge_told (descriptor o c) 1) p (and_from (not (is_run (descriptor o c))) (bit (descriptor o c) 1) (ap not (ne_eqb (descriptor o c % 256) 1 (λ e. absurd (omega arith)))) (eq-eqb (bit_at (descriptor o c) 1) 1 (omega arith)))))) t)
      (table c (ltb-true c (chunks_of o.shape) p))) (λ (p : is_place o.shape (Descr c) ≡ false). and_left (is_place o.shape (Descr c)) (huge_told (descriptor o c) b) p) (cases_Bool (is_place o.shape (Descr c)))
