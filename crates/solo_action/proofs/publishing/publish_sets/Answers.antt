use Rattle.std.proofs.Common.{◌∙◌, ap, sym}
use Rattle.solo_tx.proofs.Committed.{on_err}
use Rattle.solo_tx.proofs.GivenBack.{after_call_told}
use Rattle.solo_world.specs.declared.lane.Lane.{Lane}
use Rattle.solo_action.proofs.PublishedSets.{ended_sets, published_sets, stopped_sets}
use Rattle.solo_action.proofs.publishing.publish_sets.Goals as goal

pub returns-in_err-publish_held-clause-stops : goal.returns-in_err-publish_held-clause-stops
returns-in_err-publish_held-clause-stops g c = on_err _ c.from_residual.result
    (λ v h. stopped_sets g.M.LaneMem.at c.args.lane.now c.args.pending.now v h c.requires.no_frees c.requires.none_reserved c.requires.some c.as_slice.result.now c.as_slice.ensures.value c.publish_held.new.lane g.met.M.ReservedMem.counts
    c.in_err-publish_held.ensures.stops)

pub returns-clause-done : goal.returns-clause-done
returns-clause-done g c v h =
    let at = g.M.LaneMem.at in
    let told = c.publish_held.new.lane in
    let rested = c.come_to_rest.new.lane in
    let same = sym (ap (λ (l : Lane g.row.M.Denot). l.last) c.come_to_rest.ensures.lane) in
    let ended = ended_sets at c.args.lane.now c.args.pending.now v h c.requires.no_frees c.requires.none_reserved c.requires.some c.as_slice.result.now c.as_slice.ensures.value told rested same g.met.M.ReservedMem.counts c.in_ok-publish_held.ensures.ended in
    let closed = c.come_to_rest.ensures.closed _ (after_call_told at told _ ended.behind) (ap (λ (l : Lane g.row.M.Denot). l.error) c.in_ok-publish_held.ensures.lane ∙ h.begun.unharmed) in
    published_sets at c.args.lane.now c.args.pending.now v h c.requires.no_frees c.requires.none_reserved c.requires.some c.as_slice.result.now c.as_slice.ensures.value told rested same g.met.M.ReservedMem.counts c.in_ok-publish_held.ensures.ended closed
