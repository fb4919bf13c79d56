use Rattle.std.proofs.Common.{◌≡◌, ap, sym, ◌∙◌, rules, tests}
use Rattle.std.specs.List.{list_any}
use Rattle.std.proofs.lemmas.Iterator.{YieldsList-from_slice}
use Rattle.std.proofs.lemmas.Iterator.Search.{any_from_yields_List}
use Rattle.pm_script.specs.Operations.{ids_of}
use Rattle.pm_script.specs.declared.script.ScriptOp.{ScriptOp}
use Rattle.pm_script.specs.declared.script.ScriptWant.{ScriptWant}
use Rattle.pm_calls.specs.Calls.{is_root}
use Rattle.pm_calls.proofs.Roots.{any_mapped}
use Rattle.pm_calls.proofs.names.has_root.Goals as goal

pub returns-in-Begin : goal.returns-in-Begin
returns-in-Begin c =
    let found : c.any.result ≡ list_any (λ (want : ScriptWant). is_root want.id) c.as_slice.result.now = any_from_yields_List (λ (want : ScriptWant). is_root want.id) _ _ c.any.result c.any.ensures.ran (YieldsList-from_slice _ c.iter.ensures.rest) (λ x b q k. search (rules, tests)) in
    found
    ∙ ap (list_any (λ (want : ScriptWant). is_root want.id)) c.as_slice.ensures
    ∙ sym (any_mapped is_root (λ (want : ScriptWant). want.id) c.in-Begin.wants)
    ∙ sym (ap (λ (o : ScriptOp). list_any is_root (ids_of o)) c.in-Begin.is)
