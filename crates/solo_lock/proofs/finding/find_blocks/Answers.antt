use Rattle.std.proofs.Common.{◌∙◌, ◌∷◌, [], ◌/◌, ap, get_or, refl, subst, sym, take, take_all, rules}
use Rattle.solo_world.specs.declared.lane.Lane.{Lane}
use Rattle.solo_lock.specs.Finding.{HasLooked}
use Rattle.solo_lock.specs.Lacking.{pages_of}
use Rattle.solo_lock.specs.Locking.{no_lock}
use Rattle.solo_lock.proofs.FoundUnder.{looked_none, looked_then, pages_more}
use Rattle.solo_lock.proofs.finding.find_blocks.Goals as goal

pub loop-held-init : goal.loop-held-init
loop-held-init g c = (looked_none g.M.LaneMem.at c.args.lane.now, refl)

pub loop-held-preserved : goal.loop-held-preserved
loop-held-preserved g c = (
  λ v is.
      let first = c.loop-held.invariant.0 v is in
      let i = c.loop-held.held-index in
      subst (HasLooked g.M.LaneMem.at c.look_at_chunk.new.lane v) (sym (pages_more c.args.plan.now i no_lock c.loop-held-test.true))
      (looked_then g.M.LaneMem.at c.loop-held.lane c.look_at_chunk.new.lane v (pages_of (take i c.args.plan.now)) ((get_or c.args.plan.now i no_lock).line / 64 ∷ []) first (c.look_at_chunk.ensures.looked first.view first.begun)),
  c.look_at_chunk.ensures.else_same ∙ ap (λ (l : Lane g.row.M.Denot). record l { memory = c.look_at_chunk.new.lane.memory; locks = c.look_at_chunk.new.lane.locks }) c.loop-held.invariant.1,
)

pub returns-clause-looked : goal.returns-clause-looked
returns-clause-looked g c v is =
    subst (λ plan. HasLooked g.M.LaneMem.at c.loop-held.lane v (pages_of plan)) (take_all c.loop-held.held-index c.args.plan.now (search rules)) (c.loop-held.invariant.0 v is)
