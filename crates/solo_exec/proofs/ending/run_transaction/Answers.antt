use Rattle.std.proofs.lemmas.Result.{IfOk-weaker}
use Rattle.std.proofs.Common.{◌≡◌, ◌++◌, [], List, ℕ, slice_index, sym, ap, subst, ◌∙◌, Err}
use Rattle.solo_script.specs.declared.script.ScriptLine.{ScriptLine}
use Rattle.solo_exec.specs.Letters.{KeepsLetters, LettersKept, Offsets, offsets_in, resolved}
use Rattle.solo_exec.specs.Replies.{Values}
use Rattle.solo_exec.specs.Progress.{HasCome, IsHalted, IsNotDone, values_given}
use Rattle.solo_exec.specs.declared.lines.NotDone.{NotDone}
use Rattle.solo_exec.proofs.Closed.{ended_done, ended_refused, from_both, halted}
use Rattle.solo_exec.proofs.GivenLetters.{letters_same, numbers_resolved, transaction_resolved}
use Rattle.solo_exec.proofs.ScriptParts.{transaction_starts}
use Rattle.solo_exec.proofs.ending.run_transaction.Goals as goal

pub returns-in-Ok-clause-made : goal.returns-in-Ok-clause-made
returns-in-Ok-clause-made c =
    let values : Values = c.transact.new.values.items in
    let g : Offsets = c.args.given.now ++ offsets_in values in
    let lines : List ScriptLine = resolved g c.args.lines.now in
    let left = c.transact.new.pending in
    let blocks = c.transact.new.blocks in
    let reply = c.reply_of.ensures in
    from_both c.answer.result _ _ _ (λ ended gave made o first is.
    let d = c.in-Ok.ensures.made o first is in
    subst (λ (vs : Values). HasCome o first c.answer.new.lane blocks left c.args.names (resolved (c.args.given.now ++ offsets_in vs) c.args.lines.now) ended) (sym (gave ∙ reply.values))
    (made o first blocks c.args.names lines d.told _ d.over
    (ended_done o first c.transact.new.lane blocks left c.args.names lines values c.reply_of.result (transaction_starts lines (transaction_resolved g c.args.lines.now c.requires.transaction)) d reply.values reply.at))) c.answer.ensures.gives c.answer.ensures.made

pub returns-in-Ok-clause-letters : goal.returns-in-Ok-clause-letters
returns-in-Ok-clause-letters c = IfOk-weaker c.answer.result (λ ended. values_given ended ≡ c.reply_of.result.values) (λ ended. KeepsLetters c.args.lines.now [] (values_given ended)) (λ ended gave. subst (KeepsLetters c.args.lines.now []) (sym (gave ∙ c.reply_of.ensures.values)) c.in-Ok.ensures.letters) c.answer.ensures.gives

pub returns-in-Err-GivenUp-clause-made : goal.returns-in-Err-GivenUp-clause-made
returns-in-Err-GivenUp-clause-made c =
    let w = c.in-Err-GivenUp in
    let reply = c.reply_of-in-Err-GivenUp in
    let a = c.answer-in-Err-GivenUp in
    let values : Values = c.transact.new.values.items in
    let g : Offsets = c.args.given.now ++ offsets_in values in
    let lines : List ScriptLine = resolved g c.args.lines.now in
    let left = c.transact.new.pending in
    let blocks = c.transact.new.blocks in
    from_both a.result _ _ _ (λ ended gave made o first is.
    let n = subst (λ (why : NotDone). IsNotDone o first c.transact.new.lane blocks left c.args.names lines values why) w.field-0-is (w.ensures.made o first is) in
    subst (λ (vs : Values). HasCome o first a.new.lane blocks left c.args.names (resolved (c.args.given.now ++ offsets_in vs) c.args.lines.now) ended) (sym (gave ∙ reply.ensures.values))
    (made o first blocks c.args.names lines n.told _ n.over
    (ended_refused o first c.transact.new.lane blocks left c.args.names lines values w.line _ reply.result (transaction_starts lines (transaction_resolved g c.args.lines.now c.requires.transaction)) n reply.ensures.values reply.ensures.at))) a.ensures.gives a.ensures.made

pub returns-in-Err-GivenUp-clause-letters : goal.returns-in-Err-GivenUp-clause-letters
returns-in-Err-GivenUp-clause-letters c =
    let w = c.in-Err-GivenUp in
    let reply = c.reply_of-in-Err-GivenUp in
    IfOk-weaker c.answer-in-Err-GivenUp.result (λ ended. values_given ended ≡ reply.result.values) (λ ended. KeepsLetters c.args.lines.now [] (values_given ended))
    (λ ended gave.
    subst (KeepsLetters c.args.lines.now []) (sym (gave ∙ reply.ensures.values))
    (subst (λ (why : NotDone). LettersKept {T = Unit {0}} c.args.lines.now [] c.transact.new.values.items (Err why)) w.field-0-is w.ensures.letters)) c.answer-in-Err-GivenUp.ensures.gives

pub returns-in-Err-Stopped-clause-made : goal.returns-in-Err-Stopped-clause-made
returns-in-Err-Stopped-clause-made c o first is =
    let w = c.in-Err-Stopped in
    let reply = c.reply_of-in-Err-Stopped in
    let values : Values = c.transact.new.values.items in
    let lines : List ScriptLine = resolved (c.args.given.now ++ offsets_in values) c.args.lines.now in
    subst (λ (vs : Values). IsHalted o first c.transact.new.lane c.args.names (resolved (c.args.given.now ++ offsets_in vs) c.args.lines.now) c.transact.new.lane.drawn reply.result) (sym reply.ensures.values)
    (halted o first c.transact.new.lane c.args.names lines values reply.result
    (subst (λ (why : NotDone). IsNotDone o first c.transact.new.lane c.transact.new.blocks c.transact.new.pending c.args.names lines values why) w.field-0-is (w.ensures.made o first is)) reply.ensures.values reply.ensures.at)

pub returns-in-Err-Stopped-clause-letters : goal.returns-in-Err-Stopped-clause-letters
returns-in-Err-Stopped-clause-letters c =
    let w = c.in-Err-Stopped in
    let reply = c.reply_of-in-Err-Stopped in
    subst (KeepsLetters c.args.lines.now []) (sym reply.ensures.values)
    (subst (λ (why : NotDone). LettersKept {T = Unit {0}} c.args.lines.now [] c.transact.new.values.items (Err why)) w.field-0-is w.ensures.letters)

pub returns-in-Err-Spent-clause-made : goal.returns-in-Err-Spent-clause-made
returns-in-Err-Spent-clause-made c o first is =
    let w = c.in-Err-Spent in
    let values : Values = c.transact.new.values.items in
    let g : Offsets = c.args.given.now ++ offsets_in values in
    let before : Offsets = c.args.given.now ++ offsets_in [] in
    let lines : List ScriptLine = resolved g c.args.lines.now in
    let n = subst (λ (why : NotDone). IsNotDone o first c.transact.new.lane c.transact.new.blocks c.transact.new.pending c.args.names lines values why) w.field-0-is (w.ensures.made o first is) in
    (n.0, ap (λ (ns : List ℕ). slice_index ns 0) (numbers_resolved before c.args.lines.now ∙ sym (numbers_resolved g c.args.lines.now)) ∙ n.1)

pub returns-in-Err-Spent-clause-letters : goal.returns-in-Err-Spent-clause-letters
returns-in-Err-Spent-clause-letters c = letters_same c.args.lines.now []

pub answer-requires : goal.answer-requires
answer-requires c =
    let f = c.requires.first in
    let d = c.in-Ok.ensures.made f.0 f.1.0 f.1.1 in
    let lines : List ScriptLine = resolved (c.args.given.now ++ offsets_in c.transact.new.values.items) c.args.lines.now in
    (f.0, (f.1.0, (c.transact.new.blocks, (c.args.names, (lines, (d.told, (_, d.over)))))))

pub answer-requires-in-Err-GivenUp : goal.answer-requires-in-Err-GivenUp
answer-requires-in-Err-GivenUp c =
    let f = c.requires.first in
    let w = c.in-Err-GivenUp in
    let lines : List ScriptLine = resolved (c.args.given.now ++ offsets_in c.transact.new.values.items) c.args.lines.now in
    let n = subst (λ (why : NotDone). IsNotDone f.0 f.1.0 c.transact.new.lane c.transact.new.blocks c.transact.new.pending c.args.names lines c.transact.new.values.items why) w.field-0-is (w.ensures.made f.0 f.1.0 f.1.1) in
    (f.0, (f.1.0, (c.transact.new.blocks, (c.args.names, (lines, (n.told, (_, n.over)))))))
