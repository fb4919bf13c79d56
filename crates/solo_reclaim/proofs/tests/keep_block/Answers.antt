use Rattle.std.proofs.Common.{rules, true, slice_index, ◌≡◌, ◌/◌, [], ◌∷◌, refl, sym, ap, ◌∙◌, subst, arith}
use Rattle.std.proofs.lemmas.List.Elements.{All-cons, All-nil}
use Rattle.pm_image.specs.declared.block.Block.{Block}
use Rattle.pm_layout.specs.Layout.{zone_place}
use Rattle.solo_memory.specs.Solo.{Sees, Solo}
use Rattle.solo_view.specs.declared.occ.Occ.TheVariants.{Run}
use Rattle.solo_view.specs.Steps.Step.{Occupy}
use Rattle.solo_view.specs.View.{View}
use Rattle.solo_view.specs.Views.{after}
use Rattle.solo_reclaim.specs.KeptBlocks.{Keeps}
use Rattle.solo_reclaim.specs.Tests.{Rests}
use Rattle.solo_reclaim.proofs.Resting.{may_then, reserves_these}
use Rattle.solo_reclaim.proofs.TestPlaces.{block_kept, first_run}
use Rattle.solo_reclaim.proofs.tests.keep_block.Goals as goal

pub returns : goal.returns
returns c = λ x is.
    let rests = c.requires.rests in
    let v = rests.view in
    let shape = c.args.shape in
    let place = c.chunk_at-place.result in
    let sees = subst (λ (m : Solo). Sees m v) (sym c.load-descriptor.ensures.same) rests.sees in
    let made = c.occupy.ensures.made v sees in
    let there = first_run v shape rests.may place c.chunk_at-place.ensures.value in
    let w : View = after v (Occupy (Run place) c.mask.result c.occupy.result) in
    let block : Block = record { place = c.block_at.result; lines = 2 } in
    let same : block ≡ x = cc in
    let found = ap (λ ws. slice_index ws (zone_place shape.lanes 0 / 8)) rests.sees.words ∙ (ap (λ z. slice_index c.args.memory.now.words (z / 8)) (sym c.zone_at.ensures.value) ∙ (sym c.load-descriptor.ensures.found ∙ c.if-descriptor-ne513.false)) in
    let won : c.occupy.result ≡ true = search rules in
    subst (λ b. Rests c.occupy.new.self shape (b ∷ [])) same (record {
      view = w;
      sees = made.0;
      may = may_then v (Run place) c.mask.result rests.may.rests there c.occupy.result shape made.2 rests.may;
      keeps = All-cons (Keeps w) block [] (block_kept v w shape place c.block_at.result c.args.index rests.may refl refl refl c.chunk_at-place.ensures.value c.block_at.ensures.value c.requires.index found
          (reserves_these v (Run place) c.mask.result rests.may.rests there c.occupy.result won c.args.index (c.mask.ensures.bits.inside c.args.index (omega arith) (omega arith)))) (All-nil (Keeps w));
    })
