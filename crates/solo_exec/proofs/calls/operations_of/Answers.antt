use Rattle.std.proofs.Common.{◌≡◌, ◌++◌, ◌∷◌, [], List, map, sym, ap, ◌∙◌, rules}
use Rattle.solo_script.specs.declared.script.ScriptLine.{ScriptLine}
use Rattle.solo_exec.specs.Calls.{operation_of}
use Rattle.solo_exec.specs.Letters.{Offsets, resolved, resolved_line}
use Rattle.solo_exec.proofs.GivenLetters.{none_more, operations_taken}
use Rattle.solo_exec.proofs.ScriptParts.{taken_all}
use Rattle.solo_exec.proofs.calls.operations_of.Goals as goal

pub loop-line-preserved : goal.loop-line-preserved
loop-line-preserved c =
    let line : c.in_ok-line.line ≡ resolved_line c.args.given.now c.line-item.result = c.in_ok-line.ensures ∙ ap (λ (g : Offsets). resolved_line g c.line-item.result) (none_more c.args.given.now) in
    let says : c.in_ok-operation.operation ≡ operation_of c.args.names (resolved_line c.args.given.now c.line-item.result).operation = c.in_ok-operation.ensures ∙ ap (λ (l : ScriptLine). operation_of c.args.names l.operation) line in
    let pushed : c.push.new.self.items ≡ c.loop-line.operations.items ++ c.in_ok-operation.operation ∷ [] = search rules in
    pushed
    ∙ (λ i. c.loop-line.invariant i ++ says i ∷ [])
    ∙ sym (operations_taken c.args.names c.args.given.now c.args.lines.now c.loop-line.line-index c.line-item.result c.loop-line-test.true c.line-item.is)

pub returns : goal.returns
returns c =
    c.loop-line.invariant
    ∙ ap (λ (ls : List ScriptLine). map (λ (l : ScriptLine). operation_of c.args.names l.operation) (resolved c.args.given.now ls)) (taken_all c.args.lines.now c.loop-line.line-index c.loop-line-test.false)
