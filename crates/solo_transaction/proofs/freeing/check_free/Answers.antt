use Rattle.std.proofs.Common.{◌≢◌, refl, sym, ◌∙◌, rules}
use Rattle.solo_transaction.proofs.Frees.{refused_as_root, refused_for_lack}
use Rattle.solo_transaction.specs.declared.freeing.Owned.TheVariants as owned
use Rattle.solo_transaction.proofs.freeing.check_free.Goals as goal

pub returns-then-root-id-clause-refused : goal.returns-then-root-id-clause-refused
returns-then-root-id-clause-refused g c o v is root =
    refused_as_root o g.M.LaneMem.at c.args.lane.now c.args.blocks.now v is c.args.id c.in_ok-owned.owned (c.in_ok-owned.ensures.ok o v is) (root ∙ c.if-root-id.true)

pub returns-then-not-has_room-clause-refused : goal.returns-then-not-has_room-clause-refused
returns-then-not-has_room-clause-refused g c o v is root =
    let other : c.in_ok-owned.owned ≢ owned.Made = search rules in
    refused_for_lack o g.M.LaneMem.at c.args.lane.now c.args.blocks.now v is c.args.id c.in_ok-owned.owned other (c.in_ok-owned.ensures.ok o v is) (λ same. c.if-root-id.false (sym root ∙ same)) (c.if-not-has_room.ensures.no_ refl o v is)
