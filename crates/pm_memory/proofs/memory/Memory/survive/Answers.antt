use Rattle.std.proofs.Common.{◌≡◌, ◌<◌, ◌+◌, ℕ, List, [], length, get_or, sym, ap, ◌∙◌, subst, arith}
use Rattle.std.proofs.lemmas.List.{get_or_read, with_items_is}
use Rattle.std.specs.Vec.{with_items}
use Rattle.pm_view.specs.declared.change.Change.{Change}
use Rattle.pm_memory.specs.Keep.{touched_below}
use Rattle.pm_memory.specs.Keeping.{kept_after, IsTakenBack}
use Rattle.pm_memory.proofs.Imaging.{IsImageOfFirst, image_more}
use Rattle.pm_memory.proofs.memory.Memory.survive.Goals as goal

pub loop-changes-preserved : goal.loop-changes-preserved
loop-changes-preserved c =
    let lanes = c.deref-changes-items.result.now in
    let i = c.loop-changes.changes-index in
    let inside : i < length lanes = omega arith in
    let item : c.as_slice.result.now ≡ get_or lanes i [] = c.as_slice.ensures ∙ get_or_read lanes i c.changes-item.result inside c.changes-item.is [] in
    let before : c.deref_mut.result.now ≡ c.loop-changes.left.items = c.deref_mut.ensures.value in
    let after : List ℕ = c.take_back.new.words in
    let whole : (with_items c.loop-changes.left after).items ≡ after = with_items_is c.loop-changes.left after (omega (arith, c.take_back.auto.words, c.deref_mut.ensures.len)) in
    let more = image_more c.args.keep c.args.self.now.words c.loop-changes.left.items after lanes i c.loop-changes.kept c.take_back.new.kept inside c.loop-changes.invariant
    (λ seed draws is. subst (λ (changes : List Change). IsTakenBack seed draws changes c.loop-changes.left.items after) item (subst (λ (words : List ℕ). IsTakenBack seed draws c.as_slice.result.now words after) before (c.take_back.ensures.left seed draws is)))
    (λ seed draws is.
    c.take_back.ensures.moved seed draws is
    ∙ (ap (λ (words : List ℕ). kept_after seed (draws + touched_below (length words) c.as_slice.result.now)) before ∙ ap (λ (changes : List Change). kept_after seed (draws + touched_below (length c.loop-changes.left.items) changes)) item)) in
    subst (λ (words : List ℕ). IsImageOfFirst c.args.keep c.args.self.now.words words lanes (i + 1) c.take_back.new.kept) (sym whole) more
