use Rattle.std.proofs.Common.{◌≡◌, true, false, Some, Result, Ok, Err, sym, ap, ◌∙◌, subst}
use Rattle.std.specs.Option.{IfSome}
use Rattle.std.proofs.lemmas.Result.{on_ok_weaker}
use Rattle.solo_script.specs.Reading.{AreReadAs, next_line}
use Rattle.solo_script.specs.Scripts.{IfBad, fault_of}
use Rattle.solo_script.specs.Words.{is_skipped, is_text, texts, words}
use Rattle.solo_script.specs.declared.fault.LineFault.{LineFault}
use Rattle.solo_script.specs.declared.statement.Statement.{Statement}
use Rattle.solo_script.proofs.Answering.{if_err_bad}
use Rattle.solo_script.proofs.Judging.{words_lane, bad_line, bad_place, taken_line}
use Rattle.solo_script.proofs.reader.Reader.read.Goals as goal
use Rattle.solo_script.proofs.reader.Reader.read.Goals.{After-statement_of}

is_good : (c : After-statement_of) → (is_text c.args.line.now ≡ true) × (c.in_ok-text.text.now ≡ c.args.line.now)
is_good c = subst (λ found. IfSome found (λ text. (is_text c.args.line.now ≡ true) × (text.now ≡ c.args.line.now))) c.in_ok-text.ensures.ok_part c.text_of.ensures.some

the_words : (c : After-statement_of) → texts c.in_ok-words.words.items ≡ words c.args.line.now
the_words c = c.in_ok-words.ensures ∙ ap words (is_good c).1

kept : (c : After-statement_of) → is_skipped (words c.args.line.now) ≡ false
kept c = ap is_skipped (sym (the_words c) ∙ ap texts (sym c.deref.ensures.value)) ∙ sym c.is_skipped.ensures ∙ c.if-is_skipped.false

read : (c : After-statement_of) (result : Result Statement LineFault) → AreReadAs c.args.self.now.context (texts c.deref-2.result.now) result → AreReadAs c.args.self.now.context (words c.args.line.now) result
read c result is = subst (λ line. AreReadAs c.args.self.now.context line result) (ap texts c.deref-2.ensures.value ∙ the_words c) is

pub take-requires : goal.take-requires
take-requires c = words_lane c.args.self.now.context (texts c.deref-2.result.now) c.in-Ok.statement c.in-Ok.ensures

pub returns-in-Ok-clause-ok : goal.returns-in-Ok-clause-ok
returns-in-Ok-clause-ok c =
    let before = (goal.at.returns-in-Ok-clause-ok c).After-statement_of in
    on_ok_weaker c.take.result
    (λ takes. taken_line c.args.self.now c.args.number c.args.line.now (is_good before).0 (kept before) c.in-Ok.statement (read before (Ok c.in-Ok.statement) c.in-Ok.ensures) c.take.new.self takes) c.take.ensures.ok

pub returns-in-Ok-clause-bad : goal.returns-in-Ok-clause-bad
returns-in-Ok-clause-bad c =
    let before = (goal.at.returns-in-Ok-clause-bad c).After-statement_of in
    if_err_bad c.take.result
    (λ bad out. bad_place c.args.self.now c.args.number c.args.line.now (is_good before).0 (kept before) c.in-Ok.statement (read before (Ok c.in-Ok.statement) c.in-Ok.ensures) bad out) c.take.ensures.bad

pub returns-clause-bad : goal.returns-clause-bad
returns-clause-bad c =
    let before = (goal.at.returns-clause-bad c).After-statement_of in
    subst (λ e. IfBad e (λ bad. fault_of (next_line c.args.self.now c.args.number c.args.line.now) ≡ Some bad)) (sym c.at.ensures)
    (bad_line c.args.self.now c.args.number c.args.line.now (is_good before).0 (kept before) c.in-Err.fault (read before (Err c.in-Err.fault) c.in-Err.ensures))
