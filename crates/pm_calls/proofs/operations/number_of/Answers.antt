use Rattle.std.proofs.Common.{◌<◌, length, map, sym, ap, ◌∙◌, subst}
use Rattle.std.proofs.lemmas.List.{get_or-map, length-map}
use Rattle.pm_script.specs.declared.script.ScriptLine.{ScriptLine}
use Rattle.pm_calls.specs.Calls.{line_of}
use Rattle.pm_calls.proofs.operations.number_of.Goals as goal

pub returns : goal.returns
returns c =
    let lines = c.args.lines.now in
    let said = c.index-lines-k.result in
    let low : c.args.k < length (map line_of lines) = subst (λ n. c.args.k < n) (sym (length-map lines line_of)) c.requires in
    sym (get_or-map (λ (line : ScriptLine). line.line) (map line_of lines) c.args.k said.now 0 low ∙ ap (λ (line : ScriptLine). line.line) (get_or-map line_of lines c.args.k said said.now c.requires))
