use Rattle.std.proofs.Common.{◌≡◌, ℕ, List, not, Some, sym, ap, ◌∙◌, subst, rules, tests}
use Rattle.std.specs.List.{filter}
use Rattle.std.specs.Option.{option_map_or}
use Rattle.std.proofs.lemmas.Fn.{filter_same}
use Rattle.solo_script.specs.Contexts.{Context}
use Rattle.solo_script.specs.Scripts.{begun_behind, bound_behind, context_behind, is_of_lane}
use Rattle.solo_script.specs.declared.context.OpenTransaction.{OpenTransaction}
use Rattle.solo_script.specs.declared.script.ScriptOp.{ScriptOp}
use Rattle.solo_script.specs.declared.script.ScriptOp.TheVariants.{Commit}
use Rattle.solo_script.specs.declared.statement.Statement.TheVariants as says
use Rattle.solo_script.proofs.context.Context.follow.Goals as goal

abbrev others : ℕ → List OpenTransaction → List OpenTransaction
others lane begun = filter (λ (t : OpenTransaction). not (is_of_lane lane t)) begun

-- what an operation of the present lane leaves
of_lane : (context : Context) (lane n : ℕ) (operation : ScriptOp) → context.lane ≡ Some lane
    → record context { begun = begun_behind lane n operation context.begun; bound = bound_behind lane n operation context.bound } ≡ context_behind context n (Some (says.Operation operation))
of_lane context lane n operation present =
    sym (ap (λ lane. record context {
      begun = option_map_or (λ l. begun_behind l n operation context.begun) lane context.begun;
      bound = option_map_or (λ l. bound_behind l n operation context.bound) lane context.bound;
    }) present)

-- what a commit leaves
closed : (context : Context) (lane n : ℕ) (operation : ScriptOp) (kept : List OpenTransaction) → context.lane ≡ Some lane → operation ≡ Commit → kept ≡ others lane context.begun
    → record context { begun = kept } ≡ context_behind context n (Some (says.Operation operation))
closed context lane n operation kept present commit is =
    subst (λ x. record context { begun = kept } ≡ context_behind context n (Some (says.Operation x))) (sym commit)
    (ap (λ (begun : List OpenTransaction). record context { begun = begun }) is ∙ of_lane context lane n Commit present)

pub returns-in-Commit : goal.returns-in-Commit
returns-in-Commit c =
    let kept = filter_same _ (λ (t : OpenTransaction). not (is_of_lane c.args.lane t)) _ (λ x b q r. search (rules, tests)) _ _ c.retain.ensures.filtered in
    ap (λ (context : Context). record context { begun = c.retain.new.self.items }) c.self.view_is
    ∙ closed c.args.self.now c.args.lane c.args.line c.args.operation.now c.retain.new.self.items c.requires c.in-Commit.is (kept ∙ ap (λ (context : Context). others c.args.lane context.begun) c.self.view_is)
