use Rattle.std.proofs.Common.{◌≡◌, ◌++◌, [], ◌∷◌, List, ◌-◌, drop, take, length, map, Err, sym, ap, ◌∙◌, subst, arith, rules}
use Rattle.std.proofs.lemmas.Result.{err_from_is_err_and}
use Rattle.solo_script.specs.declared.script.ScriptLine.{ScriptLine}
use Rattle.solo_exec.specs.Letters.{KeepsLetters, LettersKept, Offsets, offsets_in, resolved, resolved_line, resolved_op, resolved_want}
use Rattle.solo_exec.specs.Replies.{Values}
use Rattle.solo_exec.specs.Progress.{CameTo, IsAtLine, IsNotDone}
use Rattle.solo_exec.proofs.GivenLetters.{kept_as_they_are, order_drop, order_take}
use Rattle.solo_exec.proofs.ResolvedLines.{begun, letters_all, letters_any, letters_so, unless_memory, whole}
use Rattle.solo_exec.proofs.ScriptParts.{begins_there, changes_are, first_line, parts, two}
use Rattle.solo_exec.proofs.lines.transact.Goals as goal

pub begin_at-requires-clause-begins : goal.begin_at-requires-clause-begins
begin_at-requires-clause-begins c =
    let p = parts c.args.lines.now c.requires.transaction in
    let g : Offsets = c.args.given.now ++ offsets_in c.as_slice.result.now in
    (map (resolved_want g) p.wants, ap (λ (l : ScriptLine). l.operation) c.in_ok-begin.ensures ∙ ap (resolved_op g) (begins_there c.args.lines.now p c.index-lines-0.result c.index-lines-0.is))

pub begin_at-requires-clause-first : goal.begin_at-requires-clause-first
begin_at-requires-clause-first c =
    let f = c.requires.first in
    (f.0, (f.1.0, (c.args.pending.now, f.1.1)))

pub slice_bounds-change_all-count : goal.slice_bounds-change_all-count
slice_bounds-change_all-count c = let n = two c.args.lines.now (parts c.args.lines.now c.requires.transaction) in omega (arith, n)

pub slice_bounds-change_all-start : goal.slice_bounds-change_all-start
slice_bounds-change_all-start c = let n = two c.args.lines.now (parts c.args.lines.now c.requires.transaction) in search (rules, n)

pub change_all-requires-clause-are_changes : goal.change_all-requires-clause-are_changes
change_all-requires-clause-are_changes c = changes_are c.args.lines.now (parts c.args.lines.now c.requires.transaction)

pub change_all-requires-clause-ordered : goal.change_all-requires-clause-ordered
change_all-requires-clause-ordered c = order_take (length c.args.lines.now - 1 - 1) (drop 1 c.args.lines.now) (order_drop 1 c.args.lines.now c.requires.ordered)

pub change_all-requires-clause-at_work : goal.change_all-requires-clause-at_work
change_all-requires-clause-at_work c =
    let f = c.requires.first in
    let begin = c.in_ok-begin.begin in
    let at = c.in_ok-begin_at.ensures.done f.0 f.1.0 c.args.pending.now f.1.1 in (
      f.0,
      f.1.0,
      begin ∷ [],
      subst (λ (vs : Values). IsAtLine f.0 f.1.0 c.begin_at.new.lane c.begin_at.new.blocks c.args.pending.now c.args.names (begin ∷ []) vs) (sym c.requires.none) at,
    )

pub returns-in_err-begin_at-clause-made : goal.returns-in_err-begin_at-clause-made
returns-in_err-begin_at-clause-made c o first is =
    let p = err_from_is_err_and c.from_residual-in_err-begin_at.result c.from_residual-in_err-begin_at.ensures.1 in
    let script = c.args.lines.now in
    let t = parts script c.requires.transaction in
    let values : Values = c.args.values.now.items in
    let g : Offsets = c.args.given.now ++ offsets_in values in
    let seen : c.as_slice.result.now ≡ values = search rules in
    let so = c.in_ok-begin.ensures ∙ ap (λ (vs : Values). resolved_line (c.args.given.now ++ offsets_in vs) c.index-lines-0.result) seen in
    let why = c.in_err-begin_at.field-0.0 in
    rw (p.1, p.2)
    (subst (λ (vs : Values). IsNotDone o first c.begin_at.new.lane c.begin_at.new.blocks c.args.pending.now c.args.names (resolved g script) vs why) (sym c.requires.none)
    (subst (λ (ls : List ScriptLine). IsNotDone o first c.begin_at.new.lane c.begin_at.new.blocks c.args.pending.now c.args.names ls [] why)
    (begun c.args.given.now script c.requires.ordered t g c.in_ok-begin.begin c.index-lines-0.result so c.index-lines-0.is)
    (c.in_err-begin_at.ensures.ends o first c.args.pending.now (resolved g (t.changes ++ t.commit ∷ [])) is)))

pub returns-in_err-begin_at-clause-letters : goal.returns-in_err-begin_at-clause-letters
returns-in_err-begin_at-clause-letters c = subst (λ (vs : Values). LettersKept c.args.lines.now [] vs c.from_residual-in_err-begin_at.result) (sym c.requires.none) (kept_as_they_are c.args.lines.now [] c.from_residual-in_err-begin_at.result)

pub returns-in_err-change_all-clause-made : goal.returns-in_err-change_all-clause-made
returns-in_err-change_all-clause-made c o first is =
    let p = err_from_is_err_and c.from_residual-in_err-change_all.result c.from_residual-in_err-change_all.ensures.1 in
    let script = c.args.lines.now in
    let t = parts script c.requires.transaction in
    let given = c.args.given.now in
    let values : Values = c.change_all.new.values.items in
    let g : Offsets = given ++ offsets_in values in
    let slice : List ScriptLine = take (length script - 1 - 1) (drop 1 script) in
    let begin = c.in_ok-begin.begin in
    let seen : c.as_slice.result.now ≡ [] = search rules in
    let so = c.in_ok-begin.ensures ∙ (ap (λ (vs : Values). resolved_line (given ++ offsets_in vs) c.index-lines-0.result) seen ∙ ap (resolved_line (given ++ offsets_in [])) (c.index-lines-0.is ∙ first_line script t c.index-lines-0.result)) in
    let new = c.change_all.new.lane in
    let blocks = c.change_all.new.blocks in
    let actions = c.change_all.new.pending in
    let why = c.in_err-change_all.field-0.0 in
    let at = subst (λ (vs : Values). IsAtLine o first c.begin_at.new.lane c.begin_at.new.blocks c.args.pending.now c.args.names (begin ∷ []) vs) (sym c.requires.none) (c.in_ok-begin_at.ensures.done o first c.args.pending.now is) in
    rw (p.1, p.2)
    (unless_memory slice [] values o first new blocks actions c.args.names (resolved g script) values why
    (subst (λ (vs : Values). LettersKept {T = Unit {0}} slice vs values (Err why)) c.requires.none c.in_err-change_all.ensures.letters)
    (λ kept.
    subst (λ (ls : List ScriptLine). IsNotDone o first new blocks actions c.args.names ls values why) (whole given script c.requires.ordered t values begin so kept)
    (c.in_err-change_all.ensures.ends o first (begin ∷ []) (resolved_line g t.commit ∷ []) at)))

pub returns-in_err-change_all-clause-letters : goal.returns-in_err-change_all-clause-letters
returns-in_err-change_all-clause-letters c =
    let p = err_from_is_err_and c.from_residual-in_err-change_all.result c.from_residual-in_err-change_all.ensures.1 in
    let script = c.args.lines.now in
    let t = parts script c.requires.transaction in
    let given = c.args.given.now in
    let values : Values = c.change_all.new.values.items in
    let slice : List ScriptLine = take (length script - 1 - 1) (drop 1 script) in
    let why = c.in_err-change_all.field-0.0 in
    rw (p.1, p.2)
    (letters_so slice script [] values [] values why (subst (λ (vs : Values). LettersKept {T = Unit {0}} slice vs values (Err why)) c.requires.none c.in_err-change_all.ensures.letters)
    (letters_all given script c.requires.ordered t [] values))

pub returns-clause-made : goal.returns-clause-made
returns-clause-made c o first is =
    let script = c.args.lines.now in
    let t = parts script c.requires.transaction in
    let given = c.args.given.now in
    let values : Values = c.change_all.new.values.items in
    let g : Offsets = given ++ offsets_in values in
    let slice : List ScriptLine = take (length script - 1 - 1) (drop 1 script) in
    let begin = c.in_ok-begin.begin in
    let seen : c.as_slice.result.now ≡ [] = search rules in
    let so = c.in_ok-begin.ensures ∙ (ap (λ (vs : Values). resolved_line (given ++ offsets_in vs) c.index-lines-0.result) seen ∙ ap (resolved_line (given ++ offsets_in [])) (c.index-lines-0.is ∙ first_line script t c.index-lines-0.result)) in
    let at = subst (λ (vs : Values). IsAtLine o first c.begin_at.new.lane c.begin_at.new.blocks c.args.pending.now c.args.names (begin ∷ []) vs) (sym c.requires.none) (c.in_ok-begin_at.ensures.done o first c.args.pending.now is) in
    let kept = subst (λ (vs : Values). KeepsLetters slice vs values) c.requires.none c.in_ok-change_all.ensures.letters in
    subst (λ (ls : List ScriptLine). CameTo o first c.commit_all.new.lane c.change_all.new.blocks c.change_all.new.pending c.args.names ls values c.commit_all.result) (whole given script c.requires.ordered t values begin so kept)
    (c.commit_all.ensures o first c.change_all.new.pending (begin ∷ resolved g slice) values (resolved_line g t.commit) (c.in_ok-change_all.ensures.done o first (begin ∷ []) at) (ap (resolved_op g) t.commits))

pub returns-clause-letters : goal.returns-clause-letters
returns-clause-letters c =
    let script = c.args.lines.now in
    let t = parts script c.requires.transaction in
    let given = c.args.given.now in
    let values : Values = c.change_all.new.values.items in
    let slice : List ScriptLine = take (length script - 1 - 1) (drop 1 script) in
    letters_any script [] values c.commit_all.result (letters_all given script c.requires.ordered t [] values (subst (λ (vs : Values). KeepsLetters slice vs values) c.requires.none c.in_ok-change_all.ensures.letters))
