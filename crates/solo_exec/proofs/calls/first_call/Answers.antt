use Rattle.std.proofs.Common.{◌≡◌, ◌+◌, ◌∷◌, ℕ, length, take, drop, ltb, cond, Some, None, sym, ap, subst, ◌∙◌, rules, tests}
use Rattle.std.specs.List.{position_or_len}
use Rattle.std.proofs.lemmas.Iterator.{YieldsList-from_slice}
use Rattle.std.proofs.lemmas.Iterator.Search.{position_from_yields_List}
use Rattle.solo_script.specs.declared.script.ScriptLine.{ScriptLine}
use Rattle.solo_exec.specs.Calls.{call_lines, stands_alone}
use Rattle.solo_exec.proofs.FirstCall.{commit_found, commits, first_alone, first_inside, first_of_all, first_to_commit, no_commit}
use Rattle.solo_exec.proofs.calls.first_call.Goals as goal

pub returns-in-Some-clause-first : goal.returns-in-Some-clause-first
returns-in-Some-clause-first c =
    let lines = c.args.lines.now in
    let n : ℕ = position_or_len commits lines in
    let found : c.position.result ≡ cond (ltb n (length lines)) (Some n) None = position_from_yields_List commits _ _ c.position.result c.position.ensures.ran (YieldsList-from_slice _ c.iter.ensures.rest) (λ x b q k. search (rules, tests)) in
    let at = commit_found lines n c.in-Some.index (sym c.in-Some.is ∙ found) in
    subst (λ (i : ℕ). call_lines lines ≡ take (i + 1) lines ∷ call_lines (drop (i + 1) lines)) at.0
    (first_inside lines c.index-lines-0.result c.requires c.index-lines-0.is (ap (λ (l : ScriptLine). stands_alone l.operation) c.index-lines-0.is ∙ sym c.stands_alone.ensures ∙ c.if-stands_alone.false) ∙ first_to_commit lines at.1)

pub returns-in-None-clause-first : goal.returns-in-None-clause-first
returns-in-None-clause-first c =
    let lines = c.args.lines.now in
    let n : ℕ = position_or_len commits lines in
    let found : c.position.result ≡ cond (ltb n (length lines)) (Some n) None = position_from_yields_List commits _ _ c.position.result c.position.ensures.ran (YieldsList-from_slice _ c.iter.ensures.rest) (λ x b q k. search (rules, tests)) in
    first_inside lines c.index-lines-0.result c.requires c.index-lines-0.is (ap (λ (l : ScriptLine). stands_alone l.operation) c.index-lines-0.is ∙ sym c.stands_alone.ensures ∙ c.if-stands_alone.false) ∙ first_of_all lines c.requires (no_commit lines n (sym c.in-None.is ∙ found))

pub returns-then-stands_alone-clause-first : goal.returns-then-stands_alone-clause-first
returns-then-stands_alone-clause-first c =
    first_alone c.args.lines.now c.index-lines-0.result c.requires c.index-lines-0.is (ap (λ (l : ScriptLine). stands_alone l.operation) c.index-lines-0.is ∙ sym c.stands_alone.ensures ∙ c.if-stands_alone.true)
