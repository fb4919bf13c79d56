use Rattle.std.proofs.Common.{rules, ◌≡◌, ◌≤◌, ◌++◌, List, [], ◌∷◌, length, map, refl, sym, ap, ◌∙◌, subst, arith, append_assoc}
use Rattle.pm_calls.specs.Calls.{IsWhole}
use Rattle.pm_calls.specs.LaneRooms.{said_in}
use Rattle.pm_calls.specs.declared.room.LineRoom.{LineRoom}
use Rattle.pm_exec.proofs.CallLines.{any_awaits, began, count_more, is_last, last_ran, next_went, none_unread, word_at}
use Rattle.pm_exec.proofs.running.run_lines.Goals as goal

pub loop-room-init : goal.loop-room-init
loop-room-init g c =
    let rest = c.into_iter-room-iterator.result.rest.items in
    let all : rest ≡ c.args.rooms.items = search rules in
    record {
      all = all;
      room = refl;
      count = subst (λ values. length values ≤ 0) (sym c.requires.empty) (omega arith);
      went = λ h rests. began g.M.LaneMem.at c.args.names h c.args.lane.now (map said_in rest) c.args.values.now.items rests
          (subst (λ rooms. IsWhole (map said_in rooms)) (sym all) c.requires.made.whole) c.requires.empty;
    }

pub run_line-requires-clause-stands : goal.run_line-requires-clause-stands
run_line-requires-clause-stands g c =
    any_awaits g.M.LaneMem.at c.args.names c.args.lane.now c.loop-room.lane (map said_in c.loop-room.yielded) (map said_in c.loop-room.room-iterator.rest.items) c.loop-room.values.items
    c.loop-room.invariant.went c.requires.rests

pub run_line-requires-clause-word : goal.run_line-requires-clause-word
run_line-requires-clause-word g c =
    word_at c.loop-room.yielded c.next.new.self.rest.items c.args.rooms.items c.in-Some.room
    (ap (λ (l : List LineRoom). c.loop-room.yielded ++ l) (sym c.in-Some.ensures.steps.0) ∙ c.loop-room.invariant.all) c.requires.made.words

pub loop-room-preserved : goal.loop-room-preserved
loop-room-preserved g c =
    let i = c.loop-room.invariant in
    let yielded = c.loop-room.yielded in
    let rest = c.next.new.self.rest.items in
    record {
      all = append_assoc yielded (c.in-Some.room ∷ []) rest ∙ (ap (λ (l : List LineRoom). yielded ++ l) (sym c.in-Some.ensures.steps.0) ∙ i.all);
      room = c.note.ensures.room ∙ i.room;
      count = count_more c.loop-room.values.items c.note.new.values.items c.in-Some.room.said.now.line c.in-GoesOn.value yielded c.in-Some.room c.note.ensures.items i.count;
      went = λ h rests. next_went g.M.LaneMem.at c.args.names h c.loop-room.lane c.run_line.new.lane yielded c.loop-room.room-iterator.rest.items rest c.in-Some.room c.loop-room.values.items
          c.in-Some.ensures.steps.0 (i.went h rests) c.run_line.result c.run_line.ensures c.in-GoesOn.value c.in-GoesOn.is c.note.new.values.items c.note.ensures.items;
    }

pub returns-in_default : goal.returns-in_default
returns-in_default g c h rests =
    let i = c.loop-room.invariant in
    last_ran g.M.LaneMem.at c.args.names h c.loop-room.lane c.run_line.new.lane c.loop-room.yielded c.loop-room.room-iterator.rest.items c.next.new.self.rest.items c.in-Some.room c.loop-room.values.items
    c.in-Some.ensures.steps.0 (i.went h rests) c.run_line.result c.run_line.ensures (is_last c.run_line.result c.in_default.not-GoesOn) c.args.rooms.items
    (ap (λ (l : List LineRoom). c.loop-room.yielded ++ l) (sym c.in-Some.ensures.steps.0) ∙ i.all)

pub unreachable-requires : goal.unreachable-requires
unreachable-requires g c =
    none_unread g.M.LaneMem.at c.args.names c.args.lane.now c.loop-room.lane (map said_in c.loop-room.yielded) c.loop-room.room-iterator.rest.items c.loop-room.values.items
    c.loop-room.invariant.went c.requires.rests (sym c.loop-room.room-iterator.rest.ok.0 ∙ c.in-None.ensures.steps.0)
