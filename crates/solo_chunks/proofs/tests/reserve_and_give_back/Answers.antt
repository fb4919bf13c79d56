use Rattle.std.proofs.Common.{◌≡◌, sym, ap, ◌∙◌, subst}
use Rattle.pm_layout.specs.declared.shape.Shape.{Shape}
use Rattle.solo_world.specs.Lanes.{IsOfShape}
use Rattle.solo_chunks.proofs.Resting.{got_there, may_give_back, rests_ended, rests_given, rests_got}
use Rattle.solo_chunks.specs.Chunks.{chunk_bits, chunk_block}
use Rattle.solo_chunks.specs.Tests.{Rests}
use Rattle.solo_chunks.proofs.tests.reserve_and_give_back.Goals as goal

pub give_back-requires : goal.give_back-requires
give_back-requires c =
    let rests = c.requires.rests in
    let shape = c.args.lane.now.shape in
    let mid = c.reserve_chunks.new.lane in
    let block = c.in_ok-block.block in
    let got = c.in_ok-block.ensures.ends rests.view rests.sees rests.may in
    let on = rests_got c.args.lane.now.memory shape rests mid.memory c.args.count block got in
    let may = may_give_back c.args.lane.now.memory shape rests mid.memory c.args.count block got shape.zones_to c.requires.some in
    let same : mid.shape ≡ shape = ap (λ l. l.shape) c.reserve_chunks.ensures.else_same in
    (on.view, (on.sees, subst (λ (s : Shape). IsOfShape on.view s) (sym same) on.may.shape, may))

pub returns-in_err-block : goal.returns-in_err-block
returns-in_err-block c =
    let rests = c.requires.rests in
    let new = c.reserve_chunks.new.lane in
    let ends = c.reserve_chunks.ensures in
    subst (λ (s : Shape). Rests new.memory s) (sym (ap (λ l. l.shape) ends.else_same))
    (rests_ended c.args.lane.now.memory c.args.lane.now.shape rests new.memory c.args.count c.reserve_chunks.result ends.causes (ends.ends rests.view rests.sees rests.may))

pub returns : goal.returns
returns c =
    let rests = c.requires.rests in
    let shape = c.args.lane.now.shape in
    let mid = c.reserve_chunks.new.lane in
    let new = c.give_back.new.lane in
    let block = c.in_ok-block.block in
    let got = c.in_ok-block.ensures.ends rests.view rests.sees rests.may in
    let on = rests_got c.args.lane.now.memory shape rests mid.memory c.args.count block got in
    let same : mid.shape ≡ shape = ap (λ l. l.shape) c.reserve_chunks.ensures.else_same in
    let still : new.shape ≡ shape = ap (λ l. l.shape) c.give_back.ensures.else_same ∙ same in
    let there = got_there c.args.lane.now.memory shape rests mid.memory c.args.count block got in
    let here = subst (λ (s : Shape). block ≡ chunk_block s.lanes got.zone got.first c.args.count) (sym same) there in
    let given = c.give_back.ensures.given got.zone got.first c.args.count c.requires.some got.in_zone here on.view on.sees in
    subst (λ (s : Shape). Rests new.memory s) (sym still) (rests_given mid.memory shape on new.memory got.zone (chunk_bits got.first c.args.count) given.0)
