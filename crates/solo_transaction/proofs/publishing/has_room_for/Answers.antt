use Rattle.std.proofs.Common.{◌+◌, ◌≡◌, count_by, length, List, ap, refl, ◌∙◌, arith}
use Rattle.std.specs.List.{list_any}
use Rattle.std.proofs.lemmas.Bool.{leb-false, leb-true}
use Rattle.solo_crash.specs.CallBlocks.{blocks_in, is_at}
use Rattle.pm_objects.specs.declared.ids.Oid.{Oid}
use Rattle.solo_transaction.proofs.FreedInTurn.{entries_all}
use Rattle.solo_transaction.proofs.publishing.has_room_for.Goals as goal

pub returns-then-added-room-clause-yes : goal.returns-then-added-room-clause-yes
returns-then-added-room-clause-yes g c is o v all pending late =
    let fits = leb-true _ _ is in
    let many = ap (λ (ids : List Oid). length ids) c.as_slice-frees.ensures.value in
    let e = entries_all o g.M.LaneMem.at c.args.lane.now c.args.blocks.now v all c.args.pending.now pending late c.count_made-made.result
    (c.count_made-made.ensures.made (blocks_in v) all.lists ∙ ap (λ (ids : List Oid). count_by (λ (id : Oid). list_any (is_at id.off) (blocks_in v).made) ids) c.as_slice-frees.ensures.value) c.count.result (c.count.ensures.of_call (blocks_in v) all.lists) in
    omega (arith, fits, many, e)

pub returns-then-added-room-clause-no_ : goal.returns-then-added-room-clause-no_
returns-then-added-room-clause-no_ g c is o v all pending late =
    let over = leb-false _ _ is in
    let many = ap (λ (ids : List Oid). length ids) c.as_slice-frees.ensures.value in
    let e = entries_all o g.M.LaneMem.at c.args.lane.now c.args.blocks.now v all c.args.pending.now pending late c.count_made-made.result
    (c.count_made-made.ensures.made (blocks_in v) all.lists ∙ ap (λ (ids : List Oid). count_by (λ (id : Oid). list_any (is_at id.off) (blocks_in v).made) ids) c.as_slice-frees.ensures.value) c.count.result (c.count.ensures.of_call (blocks_in v) all.lists) in
    omega (arith, over, many, e)

pub returns-else-added-room-clause-no_ : goal.returns-else-added-room-clause-no_
returns-else-added-room-clause-no_ g c is o v all pending late =
    let over = leb-false _ _ is in
    let many = ap (λ (ids : List Oid). length ids) c.as_slice-frees.ensures.value in
    let made : c.count_made-made.result ≡ count_by (λ (id : Oid). list_any (is_at id.off) (blocks_in v).made) c.args.pending.now.frees.items = c.count_made-made.ensures.made (blocks_in v) all.lists ∙ ap (λ (ids : List Oid). count_by (λ (id : Oid). list_any (is_at id.off) (blocks_in v).made) ids) c.as_slice-frees.ensures.value in
    let e = entries_all o g.M.LaneMem.at c.args.lane.now c.args.blocks.now v all c.args.pending.now pending late c.count_made-made.result made (length (blocks_in v).freed + length (blocks_in v).made) refl in
    omega (arith, over, many, e)
