-- Items that stand in the allocated blocks, each in one, are the pool's.
use Rattle.std.proofs.Common.{◌≡◌, Option, Some, None, refl, sym, ◌∙◌, ap}
use Rattle.pm_model.specs.Items.{Item, plain_pool}
use Rattle.pm_crash.specs.Objects.{item_of}
use Rattle.pm_crash.specs.Writes.{ItemsAreTold}
use Rattle.pm_crash.proofs.ItemsOfBits.{blocks_have_items, items_have_blocks}

pub items_told : ItemsAreTold
items_told sh class s header pool items holds has stands off = by_item ((plain_pool pool).items off) refl
  where
    by_other : (a b : Option Item) → (plain_pool pool).items off ≡ None → items off ≡ b → (plain_pool pool).items off ≡ items off
    by_other a None e q = e ∙ sym q
    by_other a (Some item) e q =
        let y = stands off item q in
        let there_ : None ≡ Some (item_of sh class s y.block) =
        sym e ∙ (ap (λ n. (plain_pool pool).items n) y.at ∙ blocks_have_items sh class s header pool holds y.block y.allocated) in
        absurd cc

    by_item : (a : Option Item) → (plain_pool pool).items off ≡ a → (plain_pool pool).items off ≡ items off
    by_item (Some item) e =
        let y = items_have_blocks sh class s header pool holds off item e in
        e ∙ (ap (λ (i : Item). Some i) y.is ∙ sym (ap items y.at ∙ has y.block y.allocated))
    by_item None e = by_other None (items off) e refl
