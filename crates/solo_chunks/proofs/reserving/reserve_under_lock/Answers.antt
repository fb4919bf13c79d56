use Rattle.std.proofs.Common.{◌-◌, ◌≤◌, arith}
use Rattle.solo_chunks.proofs.Tried.{tries_end, tries_more, tries_none}
use Rattle.solo_chunks.proofs.reserving.reserve_under_lock.Goals as goal

pub loop-first-init : goal.loop-first-init
loop-first-init g c v there is =
    let made = c.occupied-found.ensures v there in
    tries_none (g.M.LaneMem.at c.occupied-found.new.self) v c.args.zone c.args.count c.occupied-found.result made.0 made.2 is

pub loop-first-preserved : goal.loop-first-preserved
loop-first-preserved g c v there is =
    let tried = c.loop-first.invariant v there is in
    tries_more (g.M.LaneMem.at c.try_chunks.new.mem) v c.args.zone c.args.count c.occupied-found.result (g.M.LaneMem.at c.loop-first.mem) c.loop-first.first tried
    (c.try_chunks.ensures.lost c.if-try_chunks.false tried.looks.view tried.looks.there tried.looks.holds.0)

pub returns-clause-none : goal.returns-clause-none
returns-clause-none g c none v there is =
    let far : 65 - c.args.count ≤ c.loop-first.first = omega arith in
    tries_end (g.M.LaneMem.at c.loop-first.mem) v c.args.zone c.args.count c.occupied-found.result (g.M.LaneMem.at c.loop-first.mem) c.loop-first.first (c.loop-first.invariant v there is) (65 - c.args.count) far
