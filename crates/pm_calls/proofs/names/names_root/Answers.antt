use Rattle.std.proofs.Common.{◌≡◌, sym, ◌∙◌, rules, tests}
use Rattle.std.specs.Borrow.{Bor}
use Rattle.std.specs.List.{list_any}
use Rattle.std.proofs.lemmas.Iterator.{YieldsList-from_slice}
use Rattle.std.proofs.lemmas.Iterator.Search.{any_from_yields_List}
use Rattle.pm_script.specs.declared.script.ScriptLine.{ScriptLine}
use Rattle.pm_calls.specs.Calls.{has_root, line_of}
use Rattle.pm_calls.proofs.Roots.{any_mapped}
use Rattle.pm_calls.proofs.names.names_root.Goals as goal

pub returns : goal.returns
returns c =
    let found : c.any.result ≡ list_any (λ (line : Bor ScriptLine). has_root line.now) c.args.lines.now = any_from_yields_List (λ (line : Bor ScriptLine). has_root line.now) _ _ c.any.result c.any.ensures.ran (YieldsList-from_slice _ c.iter.ensures.rest) (λ x b q k. search (rules, tests)) in
    found ∙ sym (any_mapped has_root line_of c.args.lines.now)
