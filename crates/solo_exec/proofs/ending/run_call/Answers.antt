use Rattle.std.proofs.Common.{◌≡◌, ◌++◌, ◌∷◌, [], List, sym, subst, rules, ◌∙◌}
use Rattle.std.proofs.lemmas.Result.{IfOk-weaker}
use Rattle.solo_script.specs.declared.script.ScriptLine.{ScriptLine}
use Rattle.solo_exec.specs.Letters.{KeepsLetters, offsets_in, resolved}
use Rattle.solo_exec.specs.Progress.{HasCome, values_given}
use Rattle.solo_exec.proofs.Closed.{from_both}
use Rattle.solo_exec.proofs.CallParts.{one_line, transaction_lines}
use Rattle.solo_exec.proofs.ResolvedLines.{one_keeps, one_resolved}
use Rattle.solo_exec.proofs.ending.run_call.Goals as goal

pub returns-in_ok-said-clause-made : goal.returns-in_ok-said-clause-made
returns-in_ok-said-clause-made c =
    let raw = c.index-lines-0.result in
    let one = one_line c.args.lines.now raw c.requires.call c.index-lines-0.is (search rules) in
    from_both c.run_outside.result _ _ _
    (λ ended made letters o first is.
    subst (λ (ls : List ScriptLine). HasCome o first c.run_outside.new.lane c.run_outside.new.blocks c.run_outside.new.pending c.args.names ls ended)
    (one_resolved c.args.given.now c.args.lines.now c.requires.ordered raw c.in_ok-said.said one c.in_ok-said.ensures (values_given ended) letters)
    (made o first is)) c.run_outside.ensures.made c.run_outside.ensures.letters

pub returns-in_ok-said-clause-letters : goal.returns-in_ok-said-clause-letters
returns-in_ok-said-clause-letters c =
    let raw = c.index-lines-0.result in
    let one = one_line c.args.lines.now raw c.requires.call c.index-lines-0.is (search rules) in
    IfOk-weaker c.run_outside.result _ (λ ended. KeepsLetters c.args.lines.now [] (values_given ended))
    (λ ended letters. one_keeps c.args.given.now c.args.lines.now c.requires.ordered raw c.in_ok-said.said one c.in_ok-said.ensures (values_given ended) letters) c.run_outside.ensures.letters

pub run_transaction-requires-clause-transaction : goal.run_transaction-requires-clause-transaction
run_transaction-requires-clause-transaction c =
    transaction_lines c.args.lines.now c.index-lines-0.result c.requires.call c.index-lines-0.is (sym c.stands_alone.ensures ∙ c.if-stands_alone.false)
