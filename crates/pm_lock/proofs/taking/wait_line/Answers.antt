use Rattle.std.proofs.Common.{◌+◌, true, false, subst}
use Rattle.pm_view.specs.Founds.{Found}
use Rattle.pm_view.specs.Steps.Step.{StopSeen}
use Rattle.pm_view.specs.Views.{after, after_all}
use Rattle.pm_lock.specs.Locking.{Waited}
use Rattle.pm_lock.specs.Steps.{refusals, takes}
use Rattle.pm_lock.proofs.Waiting.{got_now, may_still, none_refused, refused_now, refusals_try, stopped_now}
use Rattle.pm_lock.proofs.taking.wait_line.Goals as goal

pub loop-init : goal.loop-init
loop-init g c v seen may = (0, none_refused (g.M.LaneMem.at c.args.mem.now) v c.args.line c.args.write seen)

pub try_line-requires : goal.try_line-requires
try_line-requires g c =
    let s = c.requires in
    let i = c.loop.invariant s.0 s.1 s.2 in
    (after_all s.0 (refusals i.0 c.args.line c.args.write), i.1, may_still s.0 (after_all s.0 (refusals i.0 c.args.line c.args.write)) c.args.line (refusals_try i.0 s.0 c.args.line c.args.write) s.2)

pub returns-then-try_line : goal.returns-then-try_line
unfolding Waited
returns-then-try_line g c v seen may =
    let i = c.loop.invariant v seen may in
    let u = after_all v (refusals i.0 c.args.line c.args.write) in (
      i.0,
      got_now (g.M.LaneMem.at c.try_line.new.mem) v i.0 c.args.line c.args.write
          (subst (λ won. g.M.LaneMem.at c.try_line.new.mem (after u (takes c.args.line c.args.write won))) c.if-try_line.true ((c.try_line.ensures u i.1 (may_still v u c.args.line (refusals_try i.0 v c.args.line c.args.write) may)).0)),
    )

pub stop_seen-requires : goal.stop_seen-requires
stop_seen-requires g c set =
    let s = c.requires in
    let i = c.loop.invariant s.0 s.1 s.2 in
    let u = after_all s.0 (refusals i.0 c.args.line c.args.write) in
    g.met.M.LawfulMem.meets c.try_line.new.mem (after u (takes c.args.line c.args.write c.try_line.result)) (StopSeen set) ((c.try_line.ensures u i.1 (may_still s.0 u c.args.line (refusals_try i.0 s.0 c.args.line c.args.write) s.2)).0) tt

pub returns-then-stop_seen : goal.returns-then-stop_seen
unfolding Waited
returns-then-stop_seen g c v seen may =
    let i = c.loop.invariant v seen may in
    let u = after_all v (refusals i.0 c.args.line c.args.write) in
    let w = after u (takes c.args.line c.args.write c.try_line.result) in
    let there = (c.stop_seen.ensures w ((c.try_line.ensures u i.1 (may_still v u c.args.line (refusals_try i.0 v c.args.line c.args.write) may)).0) (g.met.M.LawfulMem.grants w (StopSeen c.stop_seen.result) tt)).0 in (
      i.0,
      stopped_now (g.M.LaneMem.at c.stop_seen.new.self) v i.0 c.args.line c.args.write
          (subst (λ won. g.M.LaneMem.at c.stop_seen.new.self (after (after u (takes c.args.line c.args.write won)) (StopSeen true))) c.if-try_line.false
          (subst (λ set. g.M.LaneMem.at c.stop_seen.new.self (after w (StopSeen set))) c.if-stop_seen.true there)),
      subst (λ won. Found u (takes c.args.line c.args.write won)) c.if-try_line.false ((c.try_line.ensures u i.1 (may_still v u c.args.line (refusals_try i.0 v c.args.line c.args.write) may)).1),
    )

pub loop-preserved : goal.loop-preserved
loop-preserved g c v seen may =
    let i = c.loop.invariant v seen may in
    let u = after_all v (refusals i.0 c.args.line c.args.write) in
    let w = after u (takes c.args.line c.args.write c.try_line.result) in
    let there = (c.stop_seen.ensures w ((c.try_line.ensures u i.1 (may_still v u c.args.line (refusals_try i.0 v c.args.line c.args.write) may)).0) (g.met.M.LawfulMem.grants w (StopSeen c.stop_seen.result) tt)).0 in (
      i.0 + 1,
      refused_now (g.M.LaneMem.at c.stop_seen.new.self) v i.0 c.args.line c.args.write
          (subst (λ won. g.M.LaneMem.at c.stop_seen.new.self (after (after u (takes c.args.line c.args.write won)) (StopSeen false))) c.if-try_line.false
          (subst (λ set. g.M.LaneMem.at c.stop_seen.new.self (after w (StopSeen set))) c.if-stop_seen.false there)),
    )
