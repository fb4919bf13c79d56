use Rattle.std.proofs.Common.{ap, ◌∷◌, [], Err}
use Rattle.solo_memory.specs.Solo.{Solo}
use Rattle.solo_world.specs.declared.lane.Lane.{Lane}
use Rattle.solo_exec.proofs.Begun.{begun_at_line, not_begun}
use Rattle.solo_exec.proofs.Starts.{start_alone}
use Rattle.solo_exec.proofs.lines.begin_with.Goals as goal

pub returns-in-Ok-clause-done : goal.returns-in-Ok-clause-done
returns-in-Ok-clause-done c o first actions is =
    let b = c.requires.begins in
    begun_at_line o first c.args.lane.now c.begin.new.lane c.args.blocks.now actions c.args.names is c.args.said.now b.0 b.1.0 c.args.wants.now b.1.1 c.begin.new.blocks c.in-Ok.ensures.pages
    (c.in-Ok.ensures.begun first is.rests (start_alone o c.args.lane.now c.args.blocks.now actions first is)) (ap (λ (l : Lane Solo). l.level) c.in-Ok.ensures.opened)

pub returns-in-Ok-clause-at_work : goal.returns-in-Ok-clause-at_work
returns-in-Ok-clause-at_work c o first actions is =
    let b = c.requires.begins in (
      o,
      first,
      c.args.said.now ∷ [],
      begun_at_line o first c.args.lane.now c.begin.new.lane c.args.blocks.now actions c.args.names is c.args.said.now b.0 b.1.0 c.args.wants.now b.1.1 c.begin.new.blocks c.in-Ok.ensures.pages
          (c.in-Ok.ensures.begun first is.rests (start_alone o c.args.lane.now c.args.blocks.now actions first is)) (ap (λ (l : Lane Solo). l.level) c.in-Ok.ensures.opened),
    )

pub returns-in-Err-clause-ends : goal.returns-in-Err-clause-ends
returns-in-Err-clause-ends c o first actions rest is =
    let b = c.requires.begins in
    rw (c.not_done.ensures, c.in-Err.ensures.unlisted)
    (not_begun o first c.args.lane.now c.begin.new.lane c.args.blocks.now actions c.args.names is c.args.said.now b.0 b.1.0 c.args.wants.now b.1.1 rest c.in-Err.why
    (λ same. c.in-Err.ensures.missing (ap Err same) first is.rests (start_alone o c.args.lane.now c.args.blocks.now actions first is))
    (c.in-Err.ensures.fails first is.rests) c.in-Err.ensures.leaves)
