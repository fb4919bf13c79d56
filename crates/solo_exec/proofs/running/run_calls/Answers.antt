use Rattle.std.proofs.Common.{[], List, All, inl, inr, refl, sym, ◌∙◌, subst, arith}
use Rattle.std.proofs.lemmas.List.Elements.{All-head, All-nil, All-tail}
use Rattle.pm_objects.specs.declared.history.Entry.{Entry}
use Rattle.solo_pending.specs.declared.pending.PendingActions.{PendingActions}
use Rattle.solo_script.specs.declared.script.ScriptLine.{ScriptLine}
use Rattle.solo_exec.specs.Calls.{call_lines}
use Rattle.solo_exec.specs.Letters.{AreInOrder, AreTold, KeepsGiven}
use Rattle.solo_view.specs.View.{View}
use Rattle.solo_world.specs.Opening.{Opening}
use Rattle.solo_exec.specs.Running.{HasAnswered, HasComeTo, MayRun}
use Rattle.solo_exec.proofs.CallParts.{IsCallOf, are_calls, none_left, split_call}
use Rattle.solo_exec.proofs.GivenCalls.{halted_next, none_given, one_call_more, through_all, told_still}
use Rattle.solo_exec.proofs.GivenLetters.{AreAbove, order_drop, order_take}
use Rattle.solo_exec.proofs.running.run_calls.Goals as goal

pub loop-rest-init : goal.loop-rest-init
loop-rest-init c =
    let begun : (o : Opening) (first : View) → MayRun o first c.args.lane.now c.args.names c.args.history.now.items
    → HasComeTo o first c.args.lane.now c.in_ok-blocks.blocks c.args.pending.now c.args.names [] c.args.history.now.items = λ o first h.
    h.begins c.in_ok-blocks.blocks c.args.pending.now (let pages = c.in_ok-blocks.ensures.pages in let lanes = h.of_shape.lanes in let zones = h.of_shape.zones in omega (arith, pages, lanes, zones)) c.requires.nothing in (
      are_calls c.args.lines.now c.requires.calls,
      c.requires.ordered,
      none_given c.args.names c.args.history.now.items (begun c.requires.start.0 c.requires.start.1.0 c.requires.start.1.1).answered.view.entries (begun c.requires.start.0 c.requires.start.1.0 c.requires.start.1.1).answered.called.are c.args.given.now.items c.requires.none,
      λ o first h. record { calls = []; are = refl; above = All-nil (AreAbove c.args.lines.now); came = begun o first h },
    )

pub run_next-requires-clause-call : goal.run_next-requires-clause-call
run_next-requires-clause-call c =
    let call = c.split_at.result.0.now in
    let behind = c.split_at.result.1.now in
    let split = split_call c.loop-rest.rest.now call behind c.first_call.result c.first_call.ensures.first c.split_at.ensures.front c.split_at.ensures.back in
    All-head IsCallOf call (call_lines behind) (subst (All IsCallOf) split c.loop-rest.invariant.0)

pub run_next-requires-clause-ordered : goal.run_next-requires-clause-ordered
run_next-requires-clause-ordered c = subst AreInOrder (sym c.split_at.ensures.front) (order_take c.first_call.result c.loop-rest.rest.now c.loop-rest.invariant.1)

pub run_next-requires-clause-start : goal.run_next-requires-clause-start
run_next-requires-clause-start c =
    let r = c.requires.start in
    let t = c.loop-rest.invariant.3 r.0 r.1.0 r.1.1 in
    (r.0, (r.1.0, (_, t.came)))

pub returns-in-Some-clause-made : goal.returns-in-Some-clause-made
returns-in-Some-clause-made c o first h =
    let rest = c.loop-rest.rest.now in
    let call = c.split_at.result.0.now in
    let behind = c.split_at.result.1.now in
    let n = c.first_call.result in
    let split = split_call rest call behind n c.first_call.ensures.first c.split_at.ensures.front c.split_at.ensures.back in
    let t = c.loop-rest.invariant.3 o first h in
    let halts = rw c.in-Some.is at c.in_ok-halt.ensures.halted in
    inr (halted_next o first c.loop-rest.lane c.loop-rest.blocks c.loop-rest.pending c.args.names c.loop-rest.given.items c.args.lines.now rest c.loop-rest.history.items t
    c.loop-rest.invariant.1 n c.first_call.ensures.some c.first_call.ensures.inside call behind c.split_at.ensures.front c.split_at.ensures.back split c.run_next.new.given.items c.in_ok-halt.ensures.letters
    c.run_next.new.lane c.run_next.new.pending c.run_next.new.history.items c.in-Some.halt (halts o first _))

pub loop-rest-preserved : goal.loop-rest-preserved
loop-rest-preserved c =
    let rest = c.loop-rest.rest.now in
    let call = c.split_at.result.0.now in
    let behind = c.split_at.result.1.now in
    let n = c.first_call.result in
    let split = split_call rest call behind n c.first_call.ensures.first c.split_at.ensures.front c.split_at.ensures.back in
    let answers = rw c.in_default.is at c.in_ok-halt.ensures.answered in
    let gives = rw c.in_default.is at c.in_ok-halt.ensures.gave in (
      All-tail IsCallOf call (call_lines behind) (subst (All IsCallOf) split c.loop-rest.invariant.0),
      subst AreInOrder (sym c.split_at.ensures.back) (order_drop n rest c.loop-rest.invariant.1),
      gives c.loop-rest.invariant.2,
      λ o first h.
          one_call_more o first c.loop-rest.lane c.loop-rest.blocks c.loop-rest.pending c.args.names c.loop-rest.given.items c.args.lines.now rest c.loop-rest.history.items (c.loop-rest.invariant.3 o first h)
          c.loop-rest.invariant.1 n c.first_call.ensures.some c.first_call.ensures.inside call behind c.split_at.ensures.front c.split_at.ensures.back split c.run_next.new.given.items c.in_ok-halt.ensures.letters
          c.run_next.new.lane c.run_next.new.blocks c.run_next.new.pending c.run_next.new.history.items (answers o first _),
    )

pub returns-clause-made : goal.returns-clause-made
returns-clause-made c o first h =
    let rest = c.loop-rest.rest.now in
    let t = c.loop-rest.invariant.3 o first h in
    let none = none_left rest (sym c.loop-rest-test.false ∙ c.is_empty.ensures) in
    let all = through_all o first c.loop-rest.lane c.loop-rest.blocks c.loop-rest.pending c.args.names c.loop-rest.given.items c.args.lines.now rest c.loop-rest.history.items t none in
    inl (record {
      header = t.came.header;
      pool = t.came.pool;
      begins = t.came.begins;
      blocks = c.loop-rest.blocks;
      answered = subst (λ (calls : List (List ScriptLine)). HasAnswered o first c.loop-rest.lane c.loop-rest.blocks c.loop-rest.pending c.args.names calls c.loop-rest.history.items) (sym all) t.came.answered;
      is_open = refl;
      ends = refl;
    })

pub returns-in-Some-clause-told : goal.returns-in-Some-clause-told
returns-in-Some-clause-told c =
    let rest = c.loop-rest.rest.now in
    let r = c.requires.start in
    let n = c.first_call.result in
    let t = c.loop-rest.invariant.3 r.0 r.1.0 r.1.1 in
    let kept = rw c.in-Some.is at c.in_ok-halt.ensures.kept in
    let keeps = subst (λ (ls : List ScriptLine). KeepsGiven ls c.loop-rest.given.items c.run_next.new.given.items) c.split_at.ensures.front c.in_ok-halt.ensures.letters in
    subst (λ (es : List Entry). AreTold es c.run_next.new.given.items) (sym kept)
    (told_still r.0 r.1.0 c.loop-rest.lane c.loop-rest.blocks c.loop-rest.pending c.args.names c.loop-rest.given.items c.args.lines.now rest c.loop-rest.history.items t n c.run_next.new.given.items c.loop-rest.invariant.2 keeps)
