use Rattle.std.proofs.Common.{◌≡◌, ◌++◌, ◌∷◌, [], ◌+◌, ◌<◌, List, length, take, drop, sym, ap, ◌∙◌, subst, append-nil, append_assoc, rules}
use Rattle.std.proofs.lemmas.Result.{err_from_is_err_and}
use Rattle.solo_script.specs.Scripts.{IsChange}
use Rattle.solo_script.specs.declared.script.ScriptLine.{ScriptLine}
use Rattle.solo_exec.specs.Letters.{offsets_in, resolved, resolved_line}
use Rattle.solo_exec.specs.Replies.{Values}
use Rattle.solo_exec.specs.Progress.{IsAtLine, IsNotDone}
use Rattle.solo_exec.proofs.GivenLetters.{change_resolved, letters_same, letters_then}
use Rattle.solo_exec.proofs.ResolvedLines.{letters_so, letters_wide, one_more, unless_memory, up_to}
use Rattle.solo_exec.proofs.ScriptParts.{change_at_index, taken_all}
use Rattle.solo_exec.proofs.lines.change_all.Goals as goal

pub loop-said-init : goal.loop-said-init
loop-said-init c = (
  λ o first front a. subst (λ (ls : List ScriptLine). IsAtLine o first c.args.lane.now c.args.blocks.now c.args.pending.now c.args.names ls c.args.values.now.items) (sym (append-nil front)) a,
  letters_same c.args.lines.now c.args.values.now.items,
)

pub change_at-requires-clause-is_change : goal.change_at-requires-clause-is_change
change_at-requires-clause-is_change c =
    subst IsChange (sym (ap (λ (l : ScriptLine). l.operation) c.in_ok-said.ensures))
    (change_resolved _ c.said-item.result.operation (change_at_index c.args.lines.now c.requires.are_changes c.loop-said.said-index c.said-item.result c.loop-said-test.true c.said-item.is))

pub change_at-requires-clause-at_work : goal.change_at-requires-clause-at_work
change_at-requires-clause-at_work c =
    let r = c.requires.at_work in
    (r.0, r.1, r.2 ++ resolved (c.args.given.now ++ offsets_in c.loop-said.values.items) (take c.loop-said.said-index c.args.lines.now), c.loop-said.invariant.0 r.0 r.1 r.2 r.3)

pub loop-said-preserved : goal.loop-said-preserved
loop-said-preserved c =
    let low : c.loop-said.said-index < length c.args.lines.now = c.loop-said-test.true in
    let lines = c.args.lines.now in
    let i = c.loop-said.said-index in
    let y = c.said-item.result in
    let given = c.args.given.now in
    let a : Values = c.loop-said.values.items in
    let b : Values = c.change_at.new.values.items in
    let s = c.in_ok-said.said in
    let seen : c.as_slice.result.now ≡ a = search rules in
    let so : s ≡ resolved_line (given ++ offsets_in a) y = c.in_ok-said.ensures ∙ ap (λ (vs : Values). resolved_line (given ++ offsets_in vs) y) seen in
    let kept = c.in_ok-change_at.ensures.letters in (
      λ o first front at.
          let before : List ScriptLine = resolved (given ++ offsets_in a) (take i lines) in
          subst (λ (ls : List ScriptLine). IsAtLine o first c.change_at.new.lane c.change_at.new.blocks c.change_at.new.pending c.args.names ls b)
          (append_assoc front before (s ∷ []) ∙ ap (λ (ls : List ScriptLine). front ++ ls) (one_more given lines c.requires.ordered i y low c.said-item.is a b s so kept))
          (c.in_ok-change_at.ensures.done o first (front ++ before) (c.loop-said.invariant.0 o first front at)),
      letters_then lines c.args.values.now.items a b c.loop-said.invariant.1 (letters_wide given lines c.requires.ordered i y low c.said-item.is a b s so kept),
    )

pub returns-clause-done : goal.returns-clause-done
returns-clause-done c o first front a =
    subst (λ (ls : List ScriptLine). IsAtLine o first c.loop-said.lane c.loop-said.blocks c.loop-said.pending c.args.names (front ++ resolved (c.args.given.now ++ offsets_in c.loop-said.values.items) ls) c.loop-said.values.items)
    (taken_all c.args.lines.now c.loop-said.said-index c.loop-said-test.false)
    (c.loop-said.invariant.0 o first front a)

pub returns-clause-letters : goal.returns-clause-letters
returns-clause-letters c = c.loop-said.invariant.1

pub returns-clause-at_work : goal.returns-clause-at_work
returns-clause-at_work c =
    let r = c.requires.at_work in
    (r.0, r.1, r.2 ++ resolved (c.args.given.now ++ offsets_in c.loop-said.values.items) (take c.loop-said.said-index c.args.lines.now), c.loop-said.invariant.0 r.0 r.1 r.2 r.3)

pub returns-in_err-change_at-clause-ends : goal.returns-in_err-change_at-clause-ends
returns-in_err-change_at-clause-ends c =
    let p = err_from_is_err_and c.from_residual-in_err-change_at.result c.from_residual-in_err-change_at.ensures.1 in
    rw (p.1, p.2)
    (λ o first front rest at.
    let low : c.loop-said.said-index < length c.args.lines.now = c.loop-said-test.true in
    let lines = c.args.lines.now in
    let i = c.loop-said.said-index in
    let y = c.said-item.result in
    let given = c.args.given.now in
    let a : Values = c.loop-said.values.items in
    let b : Values = c.change_at.new.values.items in
    let s = c.in_ok-said.said in
    let seen : c.as_slice.result.now ≡ a = search rules in
    let so : s ≡ resolved_line (given ++ offsets_in a) y = c.in_ok-said.ensures ∙ ap (λ (vs : Values). resolved_line (given ++ offsets_in vs) y) seen in
    let before : List ScriptLine = resolved (given ++ offsets_in a) (take i lines) in
    let new = c.change_at.new.lane in
    let blocks = c.change_at.new.blocks in
    let actions = c.change_at.new.pending in
    unless_memory (s ∷ []) a b o first new blocks actions c.args.names (front ++ resolved (given ++ offsets_in b) lines ++ rest) b c.in_err-change_at.field-0.0 c.in_err-change_at.ensures.letters
    (λ kept.
    subst (λ (ls : List ScriptLine). IsNotDone o first new blocks actions c.args.names ls b c.in_err-change_at.field-0.0) (up_to given lines c.requires.ordered i y low c.said-item.is a b s so kept front rest)
    (c.in_err-change_at.ensures.ends o first (front ++ before) (resolved (given ++ offsets_in b) (drop (i + 1) lines) ++ rest) (c.loop-said.invariant.0 o first front at))))

pub returns-in_err-change_at-clause-letters : goal.returns-in_err-change_at-clause-letters
returns-in_err-change_at-clause-letters c =
    let p = err_from_is_err_and c.from_residual-in_err-change_at.result c.from_residual-in_err-change_at.ensures.1 in
    let low : c.loop-said.said-index < length c.args.lines.now = c.loop-said-test.true in
    let lines = c.args.lines.now in
    let i = c.loop-said.said-index in
    let y = c.said-item.result in
    let given = c.args.given.now in
    let a : Values = c.loop-said.values.items in
    let b : Values = c.change_at.new.values.items in
    let s = c.in_ok-said.said in
    let seen : c.as_slice.result.now ≡ a = search rules in
    let so : s ≡ resolved_line (given ++ offsets_in a) y = c.in_ok-said.ensures ∙ ap (λ (vs : Values). resolved_line (given ++ offsets_in vs) y) seen in
    rw (p.1, p.2)
    (letters_so (s ∷ []) lines a b c.args.values.now.items b c.in_err-change_at.field-0.0 c.in_err-change_at.ensures.letters
    (λ kept. letters_then lines c.args.values.now.items a b c.loop-said.invariant.1 (letters_wide given lines c.requires.ordered i y low c.said-item.is a b s so kept)))
