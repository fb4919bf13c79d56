use Rattle.std.proofs.Common.{All, List, refl, sym, ap, subst}
use Rattle.std.proofs.lemmas.List.Elements.{All-nil}
use Rattle.pm_image.specs.declared.block.Block.{Block}
use Rattle.pm_layout.specs.declared.shape.Shape.{Shape}
use Rattle.solo_runs.proofs.Resting.{holds_more, holds_none}
use Rattle.solo_runs.specs.Tests.{HoldsAll, IsMine}
use Rattle.solo_runs.proofs.tests.reserve_all.Goals as goal

pub loop-init : goal.loop-init
loop-init c =
    let rests = c.requires.rests in
    record { rests = rests; mine = subst (All (IsMine rests.view c.args.class)) (sym c.new-blocks.ensures.items) (All-nil (IsMine rests.view c.args.class)) }

pub returns-in_default : goal.returns-in_default
returns-in_default c =
    let holds = c.loop.invariant in
    let none = c.in_default.ensures.none refl holds.rests.view holds.rests.sees holds.rests.may in
    subst (λ (s : Shape). HoldsAll c.reserve_small.new.lane.memory s c.args.class c.loop.blocks.items) (sym (ap (λ l. l.shape) c.reserve_small.ensures.else_same))
    (holds_none c.loop.lane.memory c.loop.lane.shape c.args.class c.loop.blocks.items holds c.reserve_small.new.lane.memory none)

pub loop-preserved : goal.loop-preserved
loop-preserved c =
    let holds = c.loop.invariant in
    let new = c.reserve_small.new.lane.memory in
    let got = c.in-Some.ensures.got holds.rests.view holds.rests.sees holds.rests.may in
    let more = holds_more c.loop.lane.memory c.loop.lane.shape c.args.class c.loop.blocks.items holds new c.in-Some.block got in
    subst (λ (s : Shape). HoldsAll new s c.args.class c.push.new.self.items) (sym (ap (λ l. l.shape) c.reserve_small.ensures.else_same))
    (subst (λ (bs : List Block). HoldsAll new c.loop.lane.shape c.args.class bs) (sym c.in_ok-push.ensures.items) more)
