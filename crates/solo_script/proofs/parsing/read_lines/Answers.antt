use Rattle.std.proofs.Common.{◌≡◌, ℕ, ◌+◌, ◌<◌, List, [], ◌∷◌, ◌++◌, length, take, drop, get_or, sym, ap, ◌∙◌, subst, arith}
use Rattle.std.proofs.lemmas.List.{drop_more, length-take-le, take-append-drop, take_more}
use Rattle.std.proofs.lemmas.Result.{err_from_is_err_and}
use Rattle.solo_script.specs.Reading.{HasRead}
use Rattle.solo_script.specs.Scripts.{IsBadLine}
use Rattle.solo_script.specs.Words.{texts}
use Rattle.solo_script.proofs.Answering.{if_bad}
use Rattle.solo_script.proofs.LinesInPlace.{has_read_more, is_bad_line}
use Rattle.solo_script.proofs.WordLists.{text_at, text_inside}
use Rattle.solo_script.proofs.parsing.read_lines.Goals as goal

module _ (lines : List (List ℕ)) (k : ℕ) (inside : k < length lines) (line : List ℕ) (here : get_or lines k [] ≡ line) where
  counted : 1 + length (take k lines) ≡ k + 1
  counted = let size = length-take-le k lines (omega arith) in omega (arith, size)

  more : take k lines ++ line ∷ [] ≡ take (k + 1) lines
  more = ap (λ l. take k lines ++ l ∷ []) (sym here) ∙ sym (take_more lines k [] inside)

  all : take k lines ++ line ∷ drop (k + 1) lines ≡ lines
  all = ap (λ l. take k lines ++ l ∷ drop (k + 1) lines) (sym here) ∙ ap (λ rest. take k lines ++ rest) (sym (drop_more lines k [] inside)) ∙ take-append-drop k lines

pub returns-in_err-read-clause-bad : goal.returns-in_err-read-clause-bad
returns-in_err-read-clause-bad c =
    let lines = c.args.lines.now in
    let k = c.loop-index.index in
    let inside = text_inside lines k c.loop-index-test.true in
    let here = text_at lines k _ c.loop-index-test.true in
    let p = err_from_is_err_and c.from_residual.result c.from_residual.ensures.1 in
    rw (p.1, p.2) (if_bad c.in_err-read.field-0.0
    (λ bad is. subst (λ all. IsBadLine all bad) (all (texts lines) k inside _ here) (is_bad_line c.loop-index.reader (take k (texts lines)) (k + 1) (counted (texts lines) k inside _ here) _ c.loop-index.invariant bad (drop (k + 1) (texts lines)) is))
    c.in_err-read.ensures.bad)

pub loop-index-preserved : goal.loop-index-preserved
loop-index-preserved c =
    let lines = c.args.lines.now in
    let k = c.loop-index.index in
    let inside = text_inside lines k c.loop-index-test.true in
    let here = text_at lines k _ c.loop-index-test.true in
    subst (HasRead c.read.new.self) (more (texts lines) k inside _ here) (has_read_more c.loop-index.reader (take k (texts lines)) (k + 1) (counted (texts lines) k inside _ here) _ c.loop-index.invariant c.read.new.self c.in_ok-read.ensures.ok)
