use Rattle.std.proofs.Common.{◌≡◌, ◌++◌, ◌∷◌, [], List, ap, sym, ◌∙◌, subst, rules}
use Rattle.pm_undo.specs.declared.spans.Span.{Span}
use Rattle.pm_undo.specs.Spans.{AreSpansOf}
use Rattle.pm_undo.proofs.Planning.{joins_last, stands_apart, is_first, one_too_many, first_of_all}
use Rattle.pm_undo.proofs.spans.add.Goals as goal

pub returns-in-Some-clause-added : goal.returns-in-Some-clause-added
returns-in-Some-clause-added c words are is =
    let before = subst (λ (spans : List Span). AreSpansOf spans words) c.in-Some.ensures.items are in
    let yes = c.continues.ensures.yes (search rules) in
    subst (λ (spans : List Span). AreSpansOf spans (words ++ c.args.word ∷ [])) (sym c.push.ensures.items) (joins_last c.pop.new.self.items c.in-Some.last words c.args.word before yes.0 yes.1)

pub returns-in-Some-2-clause-added : goal.returns-in-Some-2-clause-added
returns-in-Some-2-clause-added c words are is =
    let before = subst (λ (spans : List Span). AreSpansOf spans words) c.in-Some.ensures.items are in
    let other = c.continues.ensures.no_ c.if-continues.false in
    let begun = c.begin.ensures.begun is ∙ ap (λ (spans : List Span). spans ++ record { word = c.args.word; count = 1 } ∷ []) c.push-in-Some-2.ensures.items in
    subst (λ (spans : List Span). AreSpansOf spans (words ++ c.args.word ∷ [])) (sym begun) (stands_apart c.pop.new.self.items c.in-Some.last words c.args.word before other)

pub returns-in-Some-2-clause-many : goal.returns-in-Some-2-clause-many
returns-in-Some-2-clause-many c words are is =
    let before = subst (λ (spans : List Span). AreSpansOf spans words) c.in-Some.ensures.items are in
    let other = c.continues.ensures.no_ c.if-continues.false in
    let full = c.begin.ensures.full is in
    let items = c.push-in-Some-2.ensures.items in
    let more = one_too_many c.pop.new.self.items c.in-Some.last words c.args.word before other in
    search (rules, full, items, more)

pub returns-in-None-clause-added : goal.returns-in-None-clause-added
returns-in-None-clause-added c words are is =
    let none : c.args.planned.now.items ≡ [] = search rules in
    let begun : c.begin-in-None.new.planned.items ≡ record { word = c.args.word; count = 1 } ∷ [] = search rules in
    subst (λ (spans : List Span). AreSpansOf spans (words ++ c.args.word ∷ [])) (sym begun) (is_first words c.args.word (subst (λ (spans : List Span). AreSpansOf spans words) none are))

pub returns-in-None-clause-many : goal.returns-in-None-clause-many
returns-in-None-clause-many c words are is =
    let none : c.args.planned.now.items ≡ [] = search rules in
    let full = c.begin-in-None.ensures.full is in
    let first = first_of_all words c.args.word (subst (λ (spans : List Span). AreSpansOf spans words) none are) in
    search (rules, full, first)
