use Rattle.std.proofs.Common.{◌^◌, ◌<◌, true, Err, sym, ap, ◌∙◌, rules}
use Rattle.solo_crash.specs.CallBlocks.{IsOldIn, blocks_in}
use Rattle.solo_crash.specs.Operations.{HasRange, IsNotHeld, PassesEnd}
use Rattle.solo_tx.proofs.Checked.{of_err}
use Rattle.solo_tx.specs.Learning.{HasChecked}
use Rattle.solo_world.specs.declared.lane.Lane.{Lane}
use Rattle.solo_transaction.proofs.PublishChecks.{err_when, found_past, found_set, new_past, new_set, ok_when, still_checked}
use Rattle.solo_transaction.proofs.RangeOrigins.{new_range_of, old_of, on_ok}
use Rattle.solo_transaction.proofs.publish_checks.ends_in_object.Goals as goal

pub returns-in-Ok-Found-clause-yes : goal.returns-in-Ok-Found-clause-yes
returns-in-Ok-Found-clause-yes g c is o v all =
    let at = g.M.LaneMem.at in
    let a = c.args.action in
    let low : c.args.action.value < 2 ^ 64 = search rules in
    let old : IsOldIn v c.args.action.id.off = old_of o at c.args.lane.now c.args.blocks.now v all a.id a.off 8 c.in-Ok-Found.field-0 c.in-Ok-Found.field-0-is (c.in-Ok-Found.ensures (blocks_in v) all.lists) in
    let checked : HasChecked o g.M.LaneMem.at c.check_range.new.lane v (λ w. HasRange w c.args.action.id c.args.action.off 8 true) = ok_when c.check_range.result _ (sym c.is_ok.ensures.value ∙ is) c.check_range.ensures.ok o v all.work in
    found_set o at c.args.lane.now c.check_range.new.lane c.args.blocks.now v all (ap (λ (lane : Lane g.row.M.Denot). lane.locks) c.check_range.ensures.else_same) a.id a.off a.value c.requires.aligned low old checked

pub returns-in-Ok-Found-clause-no_ : goal.returns-in-Ok-Found-clause-no_
returns-in-Ok-Found-clause-no_ g c is o v all left =
    let at = g.M.LaneMem.at in
    let a = c.args.action in
    let old : IsOldIn v c.args.action.id.off = old_of o at c.args.lane.now c.args.blocks.now v all a.id a.off 8 c.in-Ok-Found.field-0 c.in-Ok-Found.field-0-is (c.in-Ok-Found.ensures (blocks_in v) all.lists) in
    let r = err_when c.check_range.result (sym c.is_ok.ensures.value ∙ is) in
    found_past o at c.args.lane.now c.check_range.new.lane c.args.blocks.now v all (ap (λ (lane : Lane g.row.M.Denot). lane.locks) c.check_range.ensures.else_same) a.id a.off a.value old left r.0
    (of_err _ c.check_range.result r.0 r.1 c.check_range.ensures.causes) (λ e. c.check_range.ensures.not_locked (r.1 ∙ ap Err e) o v all.work) (λ e. c.check_range.ensures.out_of_range (r.1 ∙ ap Err e) o v all.work)

pub returns-in-Ok-Found-clause-still : goal.returns-in-Ok-Found-clause-still
returns-in-Ok-Found-clause-still g c =
    let is = c.requires.work in
    let a = c.args.action in
    still_checked is.0 g.M.LaneMem.at c.args.lane.now c.check_range.new.lane c.args.blocks.now is.1.0 is.1.1 (ap (λ (lane : Lane g.row.M.Denot). lane.locks) c.check_range.ensures.else_same) c.check_range.result
    (λ w. HasRange w a.id a.off 8 true) (λ w. IsNotHeld w a.id true) (λ w. PassesEnd w a.id a.off 8 true)
    (on_ok _ _ (λ ok. ok is.0 is.1.0 is.1.1.work) c.check_range.result c.check_range.ensures.ok) (λ e. c.check_range.ensures.not_locked e is.0 is.1.0 is.1.1.work) (λ e. c.check_range.ensures.out_of_range e is.0 is.1.0 is.1.1.work) c.check_range.ensures.causes

pub returns-in-Ok-Made-clause-yes : goal.returns-in-Ok-Made-clause-yes
returns-in-Ok-Made-clause-yes g c is o v all =
    let at = g.M.LaneMem.at in
    let a = c.args.action in
    let low : c.args.action.value < 2 ^ 64 = search rules in
    new_set o at c.args.lane.now c.args.blocks.now v all a.id a.off a.value c.requires.aligned low
    (new_range_of o at c.args.lane.now c.args.blocks.now v all a.id a.off 8 c.in-Ok-Made.field-0 c.in-Ok-Made.field-0-is (c.in-Ok-Made.ensures (blocks_in v) all.lists))

pub returns-in-Err-clause-no_ : goal.returns-in-Err-clause-no_
returns-in-Err-clause-no_ g c is o v all left =
    new_past o g.M.LaneMem.at c.args.lane.now c.args.blocks.now v all c.args.action.id c.args.action.off c.args.action.value c.in-Err.field-0 (c.in-Err.ensures (blocks_in v) all.lists) left
