use Rattle.solo_view.specs.View.{View}
use Rattle.solo_lock.specs.Begun.{IsBegun}
use Rattle.solo_lock.specs.Resting.{IsAtRest}
use Rattle.solo_tx.specs.Begins.{FailsToBegin, HasBegun, IsStartedCause}
use Rattle.solo_tx.proofs.BeginPlanned.{begun_further, err_so, fails_further, no_locks, none_further, ok_so, started_led}
use Rattle.solo_tx.proofs.LookedAlone.{lacks_alone}
use Rattle.solo_tx.proofs.beginning.begin.Goals as goal

pub begin_started-requires-clause-free : goal.begin_started-requires-clause-free
begin_started-requires-clause-free g c =
    let r = c.requires.rests c.if-lane.false in
    no_locks g.M.LaneMem.at c.args.lane.now c.start.new.lane r.0 c.in_ok-start.field-0 (c.in_ok-start.ensures.begun r.0 r.1) r.1 c.start.ensures.else_same

pub returns-clause-begun : goal.returns-clause-begun
returns-clause-begun g c =
    ok_so ((v : View) → IsBegun g.M.LaneMem.at c.start.new.lane v → HasBegun g.M.LaneMem.at c.begin_started.new.lane v c.args.wants.now)
    ((v : View) → IsAtRest g.M.LaneMem.at c.args.lane.now v → HasBegun g.M.LaneMem.at c.begin_started.new.lane v c.args.wants.now) c.begin_started.result
    (λ was v rests.
    let s = c.in_ok-start.ensures.begun v rests in
    begun_further g.M.LaneMem.at c.begin_started.new.lane v _ c.args.wants.now (started_led g.M.LaneMem.at c.args.lane.now c.start.new.lane v c.in_ok-start.field-0 s) s.entries (was _ s.begun))
    c.begin_started.ensures.begun

pub returns-clause-fails : goal.returns-clause-fails
returns-clause-fails g c =
    err_so (λ r. (v : View) → IsBegun g.M.LaneMem.at c.start.new.lane v → FailsToBegin g.M.LaneMem.at c.begin_started.new.lane v c.args.wants.now r) IsStartedCause
    (λ r. (v : View) → IsAtRest g.M.LaneMem.at c.args.lane.now v → FailsToBegin g.M.LaneMem.at c.begin_started.new.lane v c.args.wants.now r) c.begin_started.result
    (λ r cause was v rests.
    let s = c.in_ok-start.ensures.begun v rests in
    fails_further g.M.LaneMem.at c.begin_started.new.lane v _ c.args.wants.now r (started_led g.M.LaneMem.at c.args.lane.now c.start.new.lane v c.in_ok-start.field-0 s) s.entries cause (was _ s.begun))
    c.begin_started.ensures.causes c.begin_started.ensures.fails

pub returns-clause-lacks : goal.returns-clause-lacks
returns-clause-lacks g c same v rests =
    let s = c.in_ok-start.ensures.begun v rests in
    none_further g.M.LaneMem.at c.begin_started.new.lane v _ c.args.wants.now (started_led g.M.LaneMem.at c.args.lane.now c.start.new.lane v c.in_ok-start.field-0 s) s.entries (c.begin_started.ensures.lacks same _ s.begun)

pub returns-clause-missing : goal.returns-clause-missing
returns-clause-missing g c same v rests alone = lacks_alone g.M.LaneMem.at c.begin_started.new.lane v c.args.wants.now (returns-clause-lacks g c same v rests) alone
