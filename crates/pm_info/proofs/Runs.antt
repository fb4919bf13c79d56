-- Which descriptors are those of runs.
use Rattle.std.proofs.Common.{◌≡◌, ℕ, ◌/◌, ◌%◌, ◌&&◌, Bool, true, false, cond, eqb, nat_lt, nat_le, Some, None, refl}
use Rattle.pm_layout.specs.Sizes.{blocks_of}
use Rattle.pm_layout.specs.declared.class.Class.TheVariants.{Lines, Chunks}
use Rattle.pm_image.specs.Blocks.{class_in}
use Rattle.pm_info.specs.Facts.{is_run}

pub run_class : (d : ℕ) → is_run (class_in d) ≡ (eqb (d % 256) 1 && nat_lt 0 (blocks_of (d / 256)))
unfolding class_in
run_class d = one (eqb (d % 256) 1 && nat_lt 0 (blocks_of (d / 256))) (eqb (d % 256) 2 && (nat_le 1 (d / 256) && nat_le (d / 256) 64)) where
  one : (a b : Bool) → is_run (cond a (Some (Lines (d / 256))) (cond b (Some (Chunks (d / 256))) None)) ≡ a
  one true b = refl
  one false true = refl
  one false false = refl
