use Rattle.std.proofs.Common.{sym, ap, subst}
use Rattle.pm_layout.specs.declared.shape.Shape.{Shape}
use Rattle.solo_chunks.proofs.Resting.{rests_ended}
use Rattle.solo_chunks.specs.Tests.{Rests}
use Rattle.solo_chunks.proofs.tests.reserve.Goals as goal

pub returns : goal.returns
returns c =
    let rests = c.requires.rests in
    let new = c.reserve_chunks.new.lane in
    let ends = c.reserve_chunks.ensures in
    subst (λ (s : Shape). Rests new.memory s) (sym (ap (λ l. l.shape) ends.else_same))
    (rests_ended c.args.lane.now.memory c.args.lane.now.shape rests new.memory c.args.count c.reserve_chunks.result ends.causes (ends.ends rests.view rests.sees rests.may))
