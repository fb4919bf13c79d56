use Rattle.std.proofs.Common.{Err, refl, ap, sym, ◌∙◌, ◌∷◌, ◌++◌, [], subst}
use Rattle.solo_made.specs.Made.{BlockLists}
use Rattle.solo_memory.specs.Solo.{Solo}
use Rattle.solo_world.specs.declared.lane.Lane.{Lane}
use Rattle.solo_exec.proofs.AddAndWrite.{ends_so, unrefused}
use Rattle.solo_exec.proofs.AllocLine.{make_cut, make_done, make_given_up, make_not_spent, may_make}
use Rattle.solo_exec.specs.Replies.{Values}
use Rattle.solo_exec.specs.Progress.{IsAtLine, IsGivenUpAt}
use Rattle.solo_exec.specs.Letters.{KeepsLetters}
use Rattle.solo_exec.proofs.GivenLetters.{kept_as_they_are, letters_one}
use Rattle.solo_exec.proofs.lines.make_at.Goals as goal

pub alloc-requires : goal.alloc-requires
alloc-requires c = record {
  at_work = λ none.
      let names = c.requires.at_work.0 in
      let actions = c.requires.at_work.1.0 in
      let s = c.requires.at_work.1.1 in
      (s.0, (s.3.view, may_make s.0 s.1 c.args.lane.now c.args.blocks.now actions names s.2 c.args.values.now.items s.3));
}

pub returns-in_ok-push-in-Ok-clause-done : goal.returns-in_ok-push-in-Ok-clause-done
returns-in_ok-push-in-Ok-clause-done c o first actions names front letter a is =
    let old = c.args.lane.now in
    let new = c.alloc.new.lane in
    let blocks = c.args.blocks.now in
    let values = c.args.values.now.items in
    let e = c.in-Ok.ensures in
    let level = ap (λ (l : Lane Solo). l.level) e.lane ∙ a.level in
    let may = may_make o first old blocks actions names front values a in
    subst (λ (vs : Values). IsAtLine o first new c.alloc.new.blocks actions names (front ++ c.args.said.now ∷ []) vs) (sym c.in_ok-push-in-Ok.ensures.items)
    (make_done o first old blocks actions names front values a new c.args.said.now letter c.args.size c.args.kind is c.alloc.new.blocks c.in-Ok.id (e.done o a.view may) level)

pub returns-in-Err-clause-ends : goal.returns-in-Err-clause-ends
returns-in-Err-clause-ends c o first actions names front rest letter a is =
    let old = c.args.lane.now in
    let new = c.alloc.new.lane in
    let blocks = c.args.blocks.now in
    let now = c.alloc.new.blocks in
    let said = c.args.said.now in
    let values = c.args.values.now.items in
    let r = c.in-Err.why in
    let size = c.args.size in
    let kind = c.args.kind in
    let none = unrefused old a.works.work.unstopped a.level a.works.work.works in
    let may = may_make o first old blocks actions names front values a in
    let e = c.in-Err.ensures in
    rw c.not_done.ensures
    (ends_so o first old blocks actions names front values a new said now rest values r (make_not_spent r (e.causes none)) refl
    (λ goes.
    subst (λ (b : BlockLists). IsGivenUpAt o first new b actions names (front ++ said ∷ rest) values said.line r) (sym e.unlisted)
    (make_given_up o first old blocks actions names front values a new said letter size kind is r (e.given_up none goes o a.view may) (e.given_up_lane none goes) rest))
    (λ stops. make_cut o first old blocks actions names front values a new said letter size kind is rest (e.stopped none stops o a.view may)))

pub returns-in_ok-push-in-Ok-clause-letters : goal.returns-in_ok-push-in-Ok-clause-letters
returns-in_ok-push-in-Ok-clause-letters c =
    subst (λ (vs : Values). KeepsLetters (c.args.said.now ∷ []) c.args.values.now.items vs) (sym c.in_ok-push-in-Ok.ensures.items) (letters_one c.args.said.now c.args.values.now.items _)

pub returns-in-Err-clause-letters : goal.returns-in-Err-clause-letters
returns-in-Err-clause-letters c = kept_as_they_are {T = Unit {0}} (c.args.said.now ∷ []) c.args.values.now.items (Err c.not_done.result)
