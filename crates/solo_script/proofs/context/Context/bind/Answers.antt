use Rattle.std.proofs.Common.{not, List, [], ◌∷◌, ◌++◌, ap, ◌∙◌, rules, tests}
use Rattle.std.proofs.lemmas.Fn.{filter_same}
use Rattle.solo_script.specs.Contexts.{Context, binds}
use Rattle.solo_script.specs.Scripts.{rebound}
use Rattle.solo_script.specs.declared.context.Binding.{Binding}
use Rattle.solo_script.proofs.context.Context.bind.Goals as goal

pub returns : goal.returns
returns c =
    let kept = filter_same _ (λ (old : Binding). not (binds c.args.new.lane c.args.new.letter old)) _ (λ x b q r. search (rules, tests)) _ _ c.retain.ensures.filtered in
    ap (λ (context : Context). record context { bound = c.push.new.self.items }) c.self.view_is
    ∙ ap (λ (bound : List Binding). record c.args.self.now { bound = bound })
    (c.in_ok-push.ensures.items ∙ ap (λ (bound : List Binding). bound ++ c.args.new ∷ []) kept ∙ ap (λ (context : Context). rebound c.args.new context.bound) c.self.view_is)
