use Rattle.std.proofs.Common.{◌≡◌, Option, None, Some, refl, sym, ap, ◌∙◌, rules, tests}
use Rattle.std.specs.List.{find}
use Rattle.std.specs.Option.{option_map}
use Rattle.std.proofs.lemmas.Iterator.{YieldsList-from_slice}
use Rattle.std.proofs.lemmas.Iterator.Consumers.{YieldsList-from_copied}
use Rattle.std.proofs.lemmas.Iterator.Search.{find_from_yields_List}
use Rattle.solo_script.specs.Contexts.{Context}
use Rattle.solo_script.specs.Scripts.{is_of_lane}
use Rattle.solo_script.specs.declared.context.OpenTransaction.{OpenTransaction}
use Rattle.solo_script.proofs.context.Context.transaction_of.Goals as goal

own : (found : Option OpenTransaction) → option_map (λ (t : OpenTransaction). t) found ≡ found
own None = refl
own (Some t) = refl

pub returns : goal.returns
returns c =
    let found : option_map (λ (t : OpenTransaction). t) c.find.result ≡ find (is_of_lane c.args.lane) c.deref.result.now =
    find_from_yields_List (is_of_lane c.args.lane) _ _ c.find.result c.find.ensures.ran (YieldsList-from_copied (YieldsList-from_slice c.deref.result.now cc)) (λ x b q k. search (rules, tests)) in
    sym (own c.find.result) ∙ (found ∙ (ap (find (is_of_lane c.args.lane)) c.deref.ensures.value ∙ ap (λ (context : Context). find (is_of_lane c.args.lane) context.begun) c.self.view_is))
