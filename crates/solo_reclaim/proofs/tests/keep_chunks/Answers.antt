use Rattle.std.proofs.Common.{rules, true, slice_index, ◌≡◌, ◌+◌, ◌/◌, [], ◌∷◌, refl, sym, ap, ◌∙◌, subst, arith}
use Rattle.std.proofs.lemmas.List.Elements.{All-cons, All-head, All-nil}
use Rattle.pm_image.specs.declared.block.Block.{Block}
use Rattle.pm_layout.specs.Layout.{zone_place}
use Rattle.solo_memory.specs.Solo.{Sees, Solo}
use Rattle.solo_view.specs.declared.occ.Occ.TheVariants.{Zone}
use Rattle.solo_view.specs.Steps.Step.{Occupy}
use Rattle.solo_view.specs.View.{View}
use Rattle.solo_view.specs.Views.{after}
use Rattle.solo_reclaim.specs.KeptBlocks.{Keeps}
use Rattle.solo_reclaim.specs.Tests.{Rests}
use Rattle.solo_reclaim.proofs.Resting.{keeps_then, may_then, reserves_these}
use Rattle.solo_reclaim.proofs.TestPlaces.{chunks_kept, first_zone}
use Rattle.solo_reclaim.proofs.tests.keep_chunks.Goals as goal

pub returns : goal.returns
returns c = λ x is.
    let rests = c.requires.rests in
    let v = rests.view in
    let shape = c.args.shape in
    let first = c.args.first in
    let bits = c.mask.result in
    let sees = subst (λ (m : Solo). Sees m v) (sym (c.load-next.ensures.same ∙ c.load-descriptor.ensures.same)) rests.sees in
    let made = c.occupy.ensures.made v sees in
    let there = first_zone v shape rests.may in
    let w : View = after v (Occupy (Zone 0) bits c.occupy.result) in
    let chunks : Block = record { place = c.chunk_at.result; lines = 128 } in
    let same : chunks ≡ x = cc in
    let won : c.occupy.result ≡ true = search rules in
    let found = ap (λ ws. slice_index ws (zone_place shape.lanes 0 / 8 + first)) rests.sees.words
    ∙ (ap (λ z. slice_index c.args.memory.now.words (z / 8 + first)) (sym c.zone_at.ensures.value) ∙ (sym c.load-descriptor.ensures.found ∙ c.if-descriptor-ne0.false)) in
    let next = ap (λ ws. slice_index ws (zone_place shape.lanes 0 / 8 + first + 1)) rests.sees.words
    ∙ (ap (λ z. slice_index c.args.memory.now.words (z / 8 + first + 1)) (sym c.zone_at.ensures.value)
    ∙ (ap (λ (m : Solo). slice_index m.words (c.zone_at.result / 8 + first + 1)) (sym c.load-descriptor.ensures.same) ∙ (sym c.load-next.ensures.found ∙ c.if-next-ne0.false))) in
    let its = c.mask.ensures.bits.inside in
    let low = c.requires.first in
    let kept = keeps_then v (Zone 0) bits rests.may.rests there c.occupy.result (c.args.block ∷ []) rests.keeps in
    subst (λ b. Rests c.occupy.new.self shape (c.args.block ∷ b ∷ [])) same (record {
      view = w;
      sees = made.0;
      may = may_then v (Zone 0) bits rests.may.rests there c.occupy.result shape made.2 rests.may;
      keeps = All-cons (Keeps w) c.args.block (chunks ∷ []) (All-head (Keeps w) c.args.block [] kept)
          (All-cons (Keeps w) chunks [] (chunks_kept v w shape c.chunk_at.result first rests.may refl refl refl c.chunk_at.ensures.value low found next
          (reserves_these v (Zone 0) bits rests.may.rests there c.occupy.result won first (its first (omega arith) (omega arith)))
          (reserves_these v (Zone 0) bits rests.may.rests there c.occupy.result won (first + 1) (its (first + 1) (omega arith) (omega arith)))) (All-nil (Keeps w)));
    })
