use Rattle.std.proofs.Common.{◌≡◌, true, false, List, map, refl, sym, ◌∙◌, subst}
use Rattle.std.specs.List.{All}
use Rattle.std.specs.Option.{is_some}
use Rattle.std.proofs.lemmas.Bool.{or_from}
use Rattle.solo_crash.specs.CallBlocks.{blocks_in}
use Rattle.solo_crash.specs.OpenCall.{lock_of, locks_of}
use Rattle.solo_model.specs.Transaction.{is_locked}
use Rattle.solo_world.specs.Lanes.{lock_of as view_lock}
use Rattle.solo_world.specs.declared.lane.HeldLock.{HeldLock}
use Rattle.solo_transaction.proofs.Owned.{blocks_listed, gone_here, made_by, not_made, old_here, pool_seen, under_its_lock, unlocked_seen}
use Rattle.solo_transaction.specs.AtWork.{HasBlock}
use Rattle.solo_transaction.proofs.freeing.owned_at.Goals as goal

pub returns-then-is_gone-clause-gone : goal.returns-then-is_gone-clause-gone
returns-then-is_gone-clause-gone g c e o v is =
    gone_here o g.M.LaneMem.at c.args.lane.now c.args.blocks.now v is c.args.id (c.if-id-lane.false ∙ pool_seen o g.M.LaneMem.at c.args.lane.now c.args.blocks.now v is)
    (sym (c.is_gone.ensures (blocks_in v) is.lists) ∙ c.if-is_gone.true)

pub returns-then-is_some-clause-ok : goal.returns-then-is_some-clause-ok
returns-then-is_some-clause-ok g c o v is =
    made_by o g.M.LaneMem.at c.args.lane.now c.args.blocks.now v is c.args.id (c.if-id-lane.false ∙ pool_seen o g.M.LaneMem.at c.args.lane.now c.args.blocks.now v is)
    c.made_at.result (sym c.is_some.ensures ∙ c.if-is_some.true) (c.made_at.ensures (blocks_in v) is.lists)

pub returns-in-Some-clause-ok : goal.returns-in-Some-clause-ok
returns-in-Some-clause-ok g c o v is =
    let at = g.M.LaneMem.at in (
      c.if-id-lane.false ∙ pool_seen o at c.args.lane.now c.args.blocks.now v is,
      under_its_lock o at c.args.lane.now c.args.blocks.now v is c.args.id.off c.in-Some.lines
          (subst (λ (locks : List HeldLock). HasBlock locks c.args.id.off c.in-Some.lines) c.as_slice.ensures.value c.in-Some.ensures.some),
      old_here o at c.args.lane.now c.args.blocks.now v is c.args.id.off (sym (c.is_gone.ensures (blocks_in v) is.lists) ∙ c.if-is_gone.false)
          (not_made c.args.id.off (blocks_in v).made c.made_at.result (sym c.is_some.ensures ∙ c.if-is_some.false) (c.made_at.ensures (blocks_in v) is.lists)),
    )

pub returns-in-None-clause-not_locked : goal.returns-in-None-clause-not_locked
returns-in-None-clause-not_locked g c e o v is same =
    let at = g.M.LaneMem.at in
    let old = old_here o at c.args.lane.now c.args.blocks.now v is c.args.id.off (sym (c.is_gone.ensures (blocks_in v) is.lists) ∙ c.if-is_gone.false)
    (not_made c.args.id.off (blocks_in v).made c.made_at.result (sym c.is_some.ensures ∙ c.if-is_some.false) (c.made_at.ensures (blocks_in v) is.lists)) in
    or_from _ (is_locked (locks_of v) c.args.id.off true) old.found
    (unlocked_seen o at c.args.lane.now c.args.blocks.now v is c.args.id.off
    (subst (λ (locks : List HeldLock). All (λ (l : HeldLock). is_some l.block ≡ true) locks → is_locked (map lock_of (map view_lock locks)) c.args.id.off true ≡ false) c.as_slice.ensures.value (c.in-None.ensures.none refl)
    (blocks_listed o at c.args.lane.now c.args.blocks.now v is)))
