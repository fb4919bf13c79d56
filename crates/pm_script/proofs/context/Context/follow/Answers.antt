use Rattle.std.proofs.Common.{◌≡◌, ℕ, Some, sym, ap, ◌∙◌}
use Rattle.std.specs.Option.{option_map_or}
use Rattle.pm_script.specs.Contexts.{Context}
use Rattle.pm_script.specs.Scripts.{begun_behind, bound_behind, context_behind}
use Rattle.pm_script.specs.declared.script.ScriptOp.{ScriptOp}
use Rattle.pm_script.specs.declared.statement.Statement.TheVariants as says
use Rattle.pm_script.proofs.context.Context.follow.Goals as goal

-- what an operation of the present lane leaves
of_lane : (context : Context) (lane n : ℕ) (operation : ScriptOp) → context.lane ≡ Some lane
    → record context { begun = begun_behind lane n operation context.begun; bound = bound_behind lane n operation context.bound } ≡ context_behind context n (Some (says.Operation operation))
of_lane context lane n operation present =
    sym (ap (λ lane. record context {
      begun = option_map_or (λ l. begun_behind l n operation context.begun) lane context.begun;
      bound = option_map_or (λ l. bound_behind l n operation context.bound) lane context.bound;
    }) present)

pub returns : goal.returns
returns c =
    c.in_ok-follow_letter.ensures
    ∙ ap (λ (context : Context). record context { bound = bound_behind c.args.lane c.args.line c.args.operation.now context.bound }) c.in_ok-follow_level.ensures
    ∙ of_lane c.args.self.now c.args.lane c.args.line c.args.operation.now c.requires
