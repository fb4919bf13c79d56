use Rattle.std.proofs.Common.{◌≡◌, ap, sym, ◌∙◌, Bool, cond, Some, None, rules, tests}
use Rattle.std.specs.List.{list_any}
use Rattle.std.proofs.lemmas.Iterator.{YieldsList-from_slice}
use Rattle.std.proofs.lemmas.Iterator.Search.{any_from_yields_List}
use Rattle.solo_script.specs.declared.script.ScriptLine.{ScriptLine}
use Rattle.solo_exec.specs.Calls.{has_root}
use Rattle.solo_exec.proofs.calls.root_in.Goals as goal

pub returns-else-any : goal.returns-else-any
returns-else-any c =
    let found : c.any.result ≡ list_any (λ (line : ScriptLine). has_root line.operation) c.args.lines.now = any_from_yields_List (λ (line : ScriptLine). has_root line.operation) _ _ c.any.result c.any.ensures.ran (YieldsList-from_slice _ c.iter.ensures.rest) (λ x b q k. search (rules, tests)) in
    ap (λ (b : Bool). cond b (Some c.args.names.root.off) None) (sym c.if-any.false ∙ found)
