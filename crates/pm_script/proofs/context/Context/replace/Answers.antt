use Rattle.std.proofs.Common.{not, List, [], ◌∷◌, ◌++◌, Some, sym, ap, ◌∙◌, rules, tests}
use Rattle.std.specs.List.{filter}
use Rattle.std.proofs.lemmas.Fn.{filter_same}
use Rattle.std.proofs.lemmas.List.{append-nil}
use Rattle.pm_script.specs.Contexts.{Context}
use Rattle.pm_script.specs.Scripts.{is_of_lane, replaced}
use Rattle.pm_script.specs.declared.context.OpenTransaction.{OpenTransaction}
use Rattle.pm_script.proofs.context.Context.replace.Goals as goal

pub returns-in_ok-push-in-Some : goal.returns-in_ok-push-in-Some
returns-in_ok-push-in-Some c =
    let kept = filter_same _ (λ (t : OpenTransaction). not (is_of_lane c.args.lane t)) _ (λ x b q r. search (rules, tests)) _ _ c.retain.ensures.filtered in
    ap (λ (context : Context). record context { begun = c.push.new.self.items }) c.self.view_is
    ∙ ap (λ (begun : List OpenTransaction). record c.args.self.now { begun = begun })
    (
    c.in_ok-push-in-Some.ensures.items
    ∙ ap (λ (begun : List OpenTransaction). begun ++ c.in-Some.transaction ∷ []) kept
    ∙ ap (λ (context : Context). replaced c.args.lane (Some c.in-Some.transaction) context.begun) c.self.view_is
    ∙ ap (λ t. replaced c.args.lane t c.args.self.now.begun) (sym c.in-Some.is)
    )

pub returns-in-None : goal.returns-in-None
returns-in-None c =
    let kept = filter_same _ (λ (t : OpenTransaction). not (is_of_lane c.args.lane t)) _ (λ x b q r. search (rules, tests)) _ _ c.retain.ensures.filtered in
    ap (λ (context : Context). record context { begun = c.retain.new.self.items }) c.self.view_is
    ∙ ap (λ (begun : List OpenTransaction). record c.args.self.now { begun = begun })
    (
    kept
    ∙ ap (λ (context : Context). filter (λ (t : OpenTransaction). not (is_of_lane c.args.lane t)) context.begun) c.self.view_is
    ∙ sym (append-nil (filter (λ (t : OpenTransaction). not (is_of_lane c.args.lane t)) c.args.self.now.begun))
    ∙ ap (λ t. replaced c.args.lane t c.args.self.now.begun) (sym c.in-None.is)
    )
