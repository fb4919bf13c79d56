use Rattle.std.proofs.Common.{◌≡◌, true, ap, sym, subst, arith, rules}
use Rattle.pm_world.specs.declared.lane.Lane.{Lane}
use Rattle.pm_world.specs.Lawful.{MayRaise}
use Rattle.pm_lock.specs.Locking.{Stands, lock_at}
use Rattle.pm_lock.specs.Raising.{RaisedOne, is_raised}
use Rattle.pm_lock.specs.Wants.{wants_to_write}
use Rattle.pm_lock.proofs.RaisedLocks.{all_raised, raise_next, raised_more, raised_none, raised_up, room}
use Rattle.pm_lock.proofs.raising.raise_wanted.Goals as goal

pub loop-i-init : goal.loop-i-init
loop-i-init g c = raised_none g.M.LaneMem.at (wants_to_write c.args.lane.now.shape c.args.lane.now.pool c.args.wants.now) c.args.lane.now

pub raise_one-requires-clause-inside : goal.raise_one-requires-clause-inside
raise_one-requires-clause-inside g c = room g.M.LaneMem.at (wants_to_write c.args.lane.now.shape c.args.lane.now.pool c.args.wants.now) c.args.lane.now c.loop-i.i c.loop-i.lane c.loop-i.invariant (let t = c.loop-i-test.true in let e = c.len-i-end.ensures.value in omega (arith, t, e)) c.requires

pub raise_one-requires-clause-stands : goal.raise_one-requires-clause-stands
raise_one-requires-clause-stands g c =
    let s = c.requires in let same = ap (λ (l : Lane g.row.M.Denot). wants_to_write l.shape l.pool c.args.wants.now) (c.loop-i.invariant s.0 s.1 s.2).1 in
    subst (λ w. Stands g.M.LaneMem.at c.loop-i.lane (λ v. is_raised w (lock_at c.loop-i.lane.locks.items c.loop-i.i) ≡ true → MayRaise v (lock_at c.loop-i.lane.locks.items c.loop-i.i).line)) (sym same)
    (raise_next g.M.LaneMem.at (wants_to_write c.args.lane.now.shape c.args.lane.now.pool c.args.wants.now) c.args.lane.now c.loop-i.i c.loop-i.lane c.loop-i.invariant (let t = c.loop-i-test.true in let e = c.len-i-end.ensures.value in omega (arith, t, e)) c.requires)

pub returns-then-not-raise_one : goal.returns-then-not-raise_one
returns-then-not-raise_one g c =
    let s = c.requires in let same = ap (λ (l : Lane g.row.M.Denot). wants_to_write l.shape l.pool c.args.wants.now) (c.loop-i.invariant s.0 s.1 s.2).1 in
    raised_up g.M.LaneMem.at (wants_to_write c.args.lane.now.shape c.args.lane.now.pool c.args.wants.now) c.args.lane.now c.loop-i.i c.loop-i.lane c.loop-i.invariant (let t = c.loop-i-test.true in let e = c.len-i-end.ensures.value in omega (arith, t, e)) c.raise_one.new.lane c.raise_one.result (search rules)
    (subst (λ w. RaisedOne g.M.LaneMem.at w c.loop-i.i c.loop-i.lane c.raise_one.new.lane c.raise_one.result) same c.raise_one.ensures)

pub loop-i-preserved : goal.loop-i-preserved
loop-i-preserved g c =
    let s = c.requires in let same = ap (λ (l : Lane g.row.M.Denot). wants_to_write l.shape l.pool c.args.wants.now) (c.loop-i.invariant s.0 s.1 s.2).1 in
    raised_more g.M.LaneMem.at (wants_to_write c.args.lane.now.shape c.args.lane.now.pool c.args.wants.now) c.args.lane.now c.loop-i.i c.loop-i.lane c.loop-i.invariant (let t = c.loop-i-test.true in let e = c.len-i-end.ensures.value in omega (arith, t, e)) c.raise_one.new.lane c.raise_one.result (search rules)
    (subst (λ w. RaisedOne g.M.LaneMem.at w c.loop-i.i c.loop-i.lane c.raise_one.new.lane c.raise_one.result) same c.raise_one.ensures)

pub returns : goal.returns
returns g c = all_raised g.M.LaneMem.at (wants_to_write c.args.lane.now.shape c.args.lane.now.pool c.args.wants.now) c.args.lane.now c.loop-i.i c.loop-i.lane c.loop-i.invariant (let t = c.loop-i-test.false in let e = c.len-i-end.ensures.value in omega (arith, t, e))
