use Rattle.std.proofs.Common.{◌++◌, ◌∷◌, [], ap, sym, ◌∙◌, subst}
use Rattle.solo_memory.specs.Solo.{Solo}
use Rattle.pm_objects.specs.declared.history.Value.TheVariants.{Refused}
use Rattle.solo_pending.specs.declared.pending.PendingActions.{PendingActions}
use Rattle.solo_world.specs.declared.lane.Lane.{Lane}
use Rattle.solo_exec.specs.Letters.{KeepsLetters}
use Rattle.solo_exec.specs.Replies.{Values}
use Rattle.solo_exec.specs.Progress.{IsAtLine, IsCut}
use Rattle.solo_exec.proofs.AddAndWrite.{unrefused}
use Rattle.solo_exec.proofs.AllocLine.{may_make, reserve_cut, reserve_done, reserve_refused}
use Rattle.solo_exec.proofs.GivenLetters.{letters_one}
use Rattle.solo_exec.proofs.RefusedLines.{refused_done, refused_ends, refused_letters, why_of}
use Rattle.solo_exec.proofs.actions.reserve_at.Goals as goal

pub reserve-requires : goal.reserve-requires
reserve-requires c = record {
  at_work = λ none.
      let names = c.requires.at_work.0 in
      let s = c.requires.at_work.1 in
      (s.0, (s.3.view, may_make s.0 s.1 c.args.lane.now c.args.blocks.now c.args.pending.now names s.2 c.args.values.now.items s.3));
}

pub returns-in_ok-push-in-Ok-clause-done : goal.returns-in_ok-push-in-Ok-clause-done
returns-in_ok-push-in-Ok-clause-done c o first names front letter a is =
    let old = c.args.lane.now in
    let new = c.reserve.new.lane in
    let blocks = c.args.blocks.now in
    let pending = c.args.pending.now in
    let values = c.args.values.now.items in
    let e = c.in-Ok.ensures in
    let level = ap (λ (l : Lane Solo). l.level) (e.lane (λ clash. cc)) ∙ a.level in
    let may = may_make o first old blocks pending names front values a in
    subst (λ (vs : Values). IsAtLine o first new blocks c.reserve.new.pending names (front ++ c.args.said.now ∷ []) vs) (sym c.in_ok-push-in-Ok.ensures.items)
    (reserve_done o first old blocks pending names front values a new c.args.said.now letter c.args.size c.args.kind is c.reserve.new.pending c.in-Ok.id (e.done o a.view may a.pending) level)

pub returns-in_ok-push-in-Ok-clause-letters : goal.returns-in_ok-push-in-Ok-clause-letters
returns-in_ok-push-in-Ok-clause-letters c =
    subst (λ (vs : Values). KeepsLetters (c.args.said.now ∷ []) c.args.values.now.items vs) (sym c.in_ok-push-in-Ok.ensures.items) (letters_one c.args.said.now c.args.values.now.items _)

pub returns-in-Err-clause-done : goal.returns-in-Err-clause-done
returns-in-Err-clause-done c =
    refused_done _ c.in-Err.why c.args.said.now.line c.args.values.now.items c.give_refusal.new.values.items c.give_refusal.result c.give_refusal.ensures
    (λ goes given o first names front letter a is.
    let old = c.args.lane.now in
    let new = c.reserve.new.lane in
    let blocks = c.args.blocks.now in
    let pending = c.args.pending.now in
    let e = c.in-Err.ensures in
    let none = unrefused old a.works.work.unstopped a.level a.works.work.works in
    let may = may_make o first old blocks pending names front c.args.values.now.items a in
    let kept = e.lane (λ stops. goes (ap why_of stops)) in
    let level = ap (λ (l : Lane Solo). l.level) kept ∙ a.level in
    let locks = ap (λ (l : Lane Solo). l.locks) kept in
    subst (λ (vs : Values). IsAtLine o first new blocks c.reserve.new.pending names (front ++ c.args.said.now ∷ []) vs) (sym given)
    (subst (λ (p : PendingActions). IsAtLine o first new blocks p names (front ++ c.args.said.now ∷ []) (c.args.values.now.items ++ (c.args.said.now.line, Refused c.in-Err.why) ∷ [])) (sym e.unchanged)
    (reserve_refused o first old blocks pending names front c.args.values.now.items a new c.args.said.now letter c.args.size c.args.kind is c.in-Err.why (e.refuses none goes o a.view may a.pending) level locks)))

pub returns-in-Err-clause-ends : goal.returns-in-Err-clause-ends
returns-in-Err-clause-ends c =
    refused_ends _ c.in-Err.why c.args.said.now.line c.args.values.now.items c.give_refusal.new.values.items c.give_refusal.result c.give_refusal.ensures (λ o first names front rest letter a is. tt)
    (λ stops same o first names front rest letter a is.
    let old = c.args.lane.now in
    let new = c.reserve.new.lane in
    let blocks = c.args.blocks.now in
    let pending = c.args.pending.now in
    let e = c.in-Err.ensures in
    let none = unrefused old a.works.work.unstopped a.level a.works.work.works in
    let may = may_make o first old blocks pending names front c.args.values.now.items a in
    subst (λ (vs : Values). IsCut o first new names (front ++ c.args.said.now ∷ rest) vs) (sym same)
    (reserve_cut o first old blocks pending names front c.args.values.now.items a new c.args.said.now letter c.args.size c.args.kind is rest (e.stopped none stops o a.view may)))

pub returns-in-Err-clause-letters : goal.returns-in-Err-clause-letters
returns-in-Err-clause-letters c = refused_letters c.args.said.now c.in-Err.why c.args.values.now.items c.give_refusal.new.values.items c.give_refusal.result c.give_refusal.ensures
