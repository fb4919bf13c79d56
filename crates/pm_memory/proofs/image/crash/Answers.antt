use Rattle.std.proofs.Common.{◌≡◌, ◌<◌, ◌+◌, ◌∙◌, ℕ, Global, List, [], Vec, ap, arith, get_or, length, map, subst, sym}
use Rattle.std.proofs.lemmas.List.{get_or-map, length-map, with_items_is}
use Rattle.std.specs.Vec.{with_items}
use Rattle.pm_view.specs.declared.change.Change.{Change}
use Rattle.pm_memory.specs.Keep.{touched_below}
use Rattle.pm_memory.specs.Keeping.{kept_after, IsTakenBack}
use Rattle.pm_memory.proofs.Imaging.{IsImageOfFirst, image_all, image_more, image_none}
use Rattle.pm_memory.proofs.image.crash.Goals as goal

abbrev changes_in : Vec Change Global → List Change
changes_in changes = changes.items

pub loop-changes-init : goal.loop-changes-init
loop-changes-init c = image_none c.args.keep c.args.words.items (map changes_in c.args.undrained.now)
    c.of-kept.result c.of-kept.ensures

pub loop-changes-preserved : goal.loop-changes-preserved
loop-changes-preserved c =
    let each = c.args.undrained.now in
    let lanes : List (List Change) = map changes_in each in
    let i = c.loop-changes.changes-index in
    let within : i < length each = omega arith in
    let inside : i < length lanes = omega (arith, length-map each changes_in) in
    let lane : c.as_slice.result.now ≡ get_or lanes i [] =
    c.as_slice.ensures.value ∙ ap changes_in c.changes-item.is
    ∙ sym (get_or-map changes_in each i c.changes-item.result [] within) in
    let before : c.deref_mut.result.now ≡ c.loop-changes.left.items = c.deref_mut.ensures.value in
    let after : List ℕ = c.take_back.new.words in
    let whole : (with_items c.loop-changes.left after).items ≡ after =
    with_items_is c.loop-changes.left after
    (omega (arith, c.take_back.auto.words, c.deref_mut.ensures.len)) in
    let more = image_more c.args.keep c.args.words.items c.loop-changes.left.items after lanes i
    c.loop-changes.kept c.take_back.new.kept inside c.loop-changes.invariant
    (λ seed draws is. subst
    (λ (changes : List Change). IsTakenBack seed draws changes c.loop-changes.left.items after)
    lane
    (subst (λ (words : List ℕ). IsTakenBack seed draws c.as_slice.result.now words after)
    before (c.take_back.ensures.left seed draws is)))
    (λ seed draws is. c.take_back.ensures.moved seed draws is
    ∙ ap (λ (words : List ℕ). kept_after seed
    (draws + touched_below (length words) c.as_slice.result.now)) before
    ∙ ap (λ (changes : List Change). kept_after seed
    (draws + touched_below (length c.loop-changes.left.items) changes)) lane) in
    subst
    (λ (words : List ℕ). IsImageOfFirst c.args.keep c.args.words.items words lanes (i + 1)
    c.take_back.new.kept)
    (sym whole) more

pub returns : goal.returns
returns c =
    let lanes : List (List Change) = map changes_in c.args.undrained.now in
    image_all c.args.keep c.args.words.items c.loop-changes.left.items lanes
    c.loop-changes.changes-index c.loop-changes.kept
    (omega (arith, length-map c.args.undrained.now changes_in, c.loop-changes-test.false))
    c.loop-changes.invariant
