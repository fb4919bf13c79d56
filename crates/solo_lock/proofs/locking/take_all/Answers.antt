use Rattle.solo_lock.proofs.TakenAll.{lost, may_try, room, take_begins, taken_more}
use Rattle.solo_lock.proofs.locking.take_all.Goals as goal

pub loop-held-init : goal.loop-held-init
loop-held-init g c = take_begins g.M.LaneMem.at c.args.lane.now c.args.plan.now c.requires.free

pub take_line-requires-clause-free : goal.take_line-requires-clause-free
take_line-requires-clause-free g c =
    let is = c.requires.begun in
    may_try g.M.LaneMem.at c.args.lane.now c.loop-held.lane c.args.plan.now c.loop-held.held-index c.loop-held-test.true c.requires.rises c.requires.chunks c.loop-held.invariant is.0 is.1

pub take_line-requires-clause-room : goal.take_line-requires-clause-room
take_line-requires-clause-room g c =
    let is = c.requires.begun in
    room g.M.LaneMem.at c.args.lane.now c.loop-held.lane c.args.plan.now c.loop-held.held-index c.loop-held-test.true c.requires.rises c.requires.chunks c.loop-held.invariant is.0 is.1 c.requires.few

pub returns-then-not-take_line-clause-not_taken : goal.returns-then-not-take_line-clause-not_taken
returns-then-not-take_line-clause-not_taken g c e =
    lost g.M.LaneMem.at c.args.lane.now c.loop-held.lane c.args.plan.now c.loop-held.held-index c.loop-held-test.true c.requires.rises c.requires.chunks c.loop-held.invariant
    c.take_line.new.lane c.take_line.result (λ v there. (c.take_line.ensures.made v there).2) c.take_line.ensures.taken c.if-not-take_line.true

pub loop-held-preserved : goal.loop-held-preserved
loop-held-preserved g c =
    taken_more g.M.LaneMem.at c.args.lane.now c.loop-held.lane c.args.plan.now c.loop-held.held-index c.loop-held-test.true c.requires.rises c.requires.chunks c.loop-held.invariant
    c.take_line.new.lane c.take_line.result (λ v there. (c.take_line.ensures.made v there).2) c.take_line.ensures.taken c.if-not-take_line.false c.take_line.ensures.else_same
