-- A LINE RUNS as its operation does, wherever it may stand.
use Rattle.std.proofs.Common.{◌≡◌, ℕ, zero, suc, ◌-◌, arith, true, false, sym, ap, ◌∙◌, subst}
use Rattle.pm_script.specs.Operations.{place_of, stands_outside}
use Rattle.pm_script.specs.declared.script.Place.TheVariants.{Inside}
use Rattle.pm_script.specs.declared.script.ScriptOp.{ScriptOp}
use Rattle.pm_view.specs.View.{View}
use Rattle.pm_world.specs.declared.lane.Lane.{Lane}
use Rattle.pm_calls.specs.Calls.{level_behind, operation_of, stands_at}
use Rattle.pm_calls.specs.declared.names.Names.{Names}
use Rattle.pm_exec.specs.Lines.{LineRan}
use Rattle.pm_exec.specs.declared.line_end.LineEnd.{LineEnd}

-- one level less
pub level_less : (n : ℕ) → n ≡ suc n - 1
level_less n = omega arith

module _ {M : Type 0} (at : M → View → Type 0) (old new : Lane M) (names : Names) (e : LineEnd) where
  -- it ran wherever it may stand, by what it says
  pub line_ran : (operation said : ScriptOp) → operation ≡ said
      → ((level : ℕ) → stands_at level said ≡ true
      → LineRan at old new (operation_of names said) level (level_behind level said) e)
      → (level : ℕ) → stands_at level operation ≡ true
      → LineRan at old new (operation_of names operation) level (level_behind level operation) e
  line_ran operation said is ran = subst (λ (o : ScriptOp). (level : ℕ) → stands_at level o ≡ true
      → LineRan at old new (operation_of names o) level (level_behind level o) e) (sym is) ran

  -- in a transaction alone
  pub inside_ran : (operation said : ScriptOp) → operation ≡ said → place_of said ≡ Inside
      → ((n : ℕ) → LineRan at old new (operation_of names said) (suc n) (level_behind (suc n) said) e)
      → (level : ℕ) → stands_at level operation ≡ true
      → LineRan at old new (operation_of names operation) level (level_behind level operation) e
  inside_ran operation said is inside ran = line_ran operation said is by where
    by : (level : ℕ) → stands_at level said ≡ true
        → LineRan at old new (operation_of names said) level (level_behind level said) e
    by zero stands = absurd (let clash : false ≡ true =
        sym (ap stands_outside inside) ∙ stands in cc)
    by (suc n) stands = ran n
