use Rattle.std.proofs.Common.{◌∙◌, ap, refl, sym}
use Rattle.std.proofs.lemmas.List.Elements.{All-nil}
use Rattle.solo_reclaim.specs.KeptBlocks.{Keeps}
use Rattle.solo_tx.proofs.Committed.{on_err}
use Rattle.solo_tx.proofs.GivenBack.{after_call_told}
use Rattle.solo_world.specs.declared.lane.Lane.{Lane}
use Rattle.solo_action.proofs.HoldingAll.{holds_here, holds_somewhere}
use Rattle.solo_action.proofs.PublishedBlocks.{behind_there, may_give_back, published_held, stopped_held}
use Rattle.solo_action.proofs.publishing.publish_blocks.Goals as goal

pub publish_all_held-requires-clause-may : goal.publish_all_held-requires-clause-may
publish_all_held-requires-clause-may g c = holds_somewhere g.M.LaneMem.at c.args.lane.now c.args.pending.now c.requires.may.0 c.requires.may.1

pub returns-in_err-publish_all_held-clause-stops : goal.returns-in_err-publish_all_held-clause-stops
returns-in_err-publish_all_held-clause-stops g c = on_err _ c.from_residual.result
    (λ v h. stopped_held g.M.LaneMem.at c.args.lane.now c.publish_all_held.new.lane c.args.pending.now c.publish_all_held.new.blocks v h c.requires.some
    (c.in_err-publish_all_held.ensures.lists h.world.0 v (holds_here g.M.LaneMem.at c.args.lane.now c.args.pending.now v h)) c.in_err-publish_all_held.ensures.stops)

pub come_to_rest-requires : goal.come_to_rest-requires
come_to_rest-requires g c =
    let v = c.requires.may.0 in let h = c.requires.may.1 in let at = g.M.LaneMem.at in
    let told = c.publish_all_held.new.lane in
    let lists = c.in_ok-publish_all_held.ensures.lists h.world.0 v (holds_here at c.args.lane.now c.args.pending.now v h) in
    let behind = behind_there at c.args.lane.now c.args.pending.now c.publish_all_held.new.blocks v h c.requires.some lists told told refl c.in_ok-publish_all_held.ensures.done g.met.M.ReservedMem.counts in
    record { after = (_, after_call_told at told _ behind) }

pub reclaim-requires : goal.reclaim-requires
reclaim-requires g c =
    let v = c.requires.may.0 in let h = c.requires.may.1 in let at = g.M.LaneMem.at in
    let told = c.publish_all_held.new.lane in
    let rested = c.come_to_rest.new.lane in
    let same = sym (ap (λ (l : Lane g.row.M.Denot). l.last) c.come_to_rest.ensures.lane) in
    let lists = c.in_ok-publish_all_held.ensures.lists h.world.0 v (holds_here at c.args.lane.now c.args.pending.now v h) in
    let behind = behind_there at c.args.lane.now c.args.pending.now c.publish_all_held.new.blocks v h c.requires.some lists told rested same c.in_ok-publish_all_held.ensures.done g.met.M.ReservedMem.counts in
    let closed = c.come_to_rest.ensures.closed _ (after_call_told at told _ behind) (ap (λ (l : Lane g.row.M.Denot). l.error) c.in_ok-publish_all_held.ensures.lane ∙ h.begun.unharmed) in
    let may = may_give_back at c.args.lane.now c.args.pending.now c.publish_all_held.new.blocks v h c.requires.some lists told rested same c.in_ok-publish_all_held.ensures.done g.met.M.ReservedMem.counts closed in
    (_, (closed.rests.seen.memory, may, All-nil (Keeps _)))

pub returns-clause-done : goal.returns-clause-done
returns-clause-done g c v h =
    let at = g.M.LaneMem.at in
    let told = c.publish_all_held.new.lane in
    let rested = c.come_to_rest.new.lane in
    let same = sym (ap (λ (l : Lane g.row.M.Denot). l.last) c.come_to_rest.ensures.lane) in
    let lists = c.in_ok-publish_all_held.ensures.lists h.world.0 v (holds_here at c.args.lane.now c.args.pending.now v h) in
    let behind = behind_there at c.args.lane.now c.args.pending.now c.publish_all_held.new.blocks v h c.requires.some lists told rested same c.in_ok-publish_all_held.ensures.done g.met.M.ReservedMem.counts in
    let closed = c.come_to_rest.ensures.closed _ (after_call_told at told _ behind) (ap (λ (l : Lane g.row.M.Denot). l.error) c.in_ok-publish_all_held.ensures.lane ∙ h.begun.unharmed) in
    let may = may_give_back at c.args.lane.now c.args.pending.now c.publish_all_held.new.blocks v h c.requires.some lists told rested same c.in_ok-publish_all_held.ensures.done g.met.M.ReservedMem.counts closed in
    published_held at c.args.lane.now c.args.pending.now c.publish_all_held.new.blocks v h c.requires.some lists told rested same c.in_ok-publish_all_held.ensures.done g.met.M.ReservedMem.counts closed c.reclaim.new.mem
    (c.reclaim.ensures _ closed.rests.seen.memory may (All-nil (Keeps _)))

pub returns-clause-unlisted : goal.returns-clause-unlisted
returns-clause-unlisted g c = ap (λ (l : Lane g.row.M.Denot). l.entries.items) c.come_to_rest.ensures.lane ∙ c.in_ok-publish_all_held.ensures.unlisted
