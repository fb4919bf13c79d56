use Rattle.std.proofs.Common.{◌≡◌, ◌≤◌, bit_or, refl, sym, ◌∙◌, ap, arith}
use Rattle.pm_image.specs.Logs.{seal_word}
use Rattle.pm_image.proofs.Masks.{bits_more, bits_to, mask_of_entries}
use Rattle.pm_image.proofs.Redoing.{entries_sealed, entries_unsealed, sealed_few}
use Rattle.pm_image.proofs.clashes.lane_mask.Goals as goal

pub returns-then-not-is_sealed : goal.returns-then-not-is_sealed
returns-then-not-is_sealed c =
    mask_of_entries c.args.image.now c.args.place c.args.lane _ (sym (entries_unsealed c.args.image.now c.args.lane (sym c.is_sealed.ensures ∙ c.if-not-is_sealed.true)))

pub loop-i-init : goal.loop-i-init
loop-i-init c =
    let few : seal_word c.args.image.now c.args.lane ≤ 64 = sealed_few c.args.image.now c.args.lane (sym c.is_sealed.ensures ∙ c.if-not-is_sealed.false) in
    record { few = omega (arith, few, c.seal-i-end.ensures); so_far = refl }

pub loop-i-preserved : goal.loop-i-preserved
loop-i-preserved c = record {
  few = c.loop-i.invariant.few;
  so_far =
      (λ j. bit_or (c.loop-i.invariant.so_far j) (c.entry_mask-bits.ensures j))
      ∙ sym (bits_more c.args.image.now c.args.lane c.loop-i.i c.args.place);
}

pub returns : goal.returns
returns c =
    let all : c.loop-i.i ≡ seal_word c.args.image.now c.args.lane = omega (arith, c.seal-i-end.ensures) in
    c.loop-i.invariant.so_far ∙ ap (bits_to c.args.image.now c.args.lane c.args.place) all
    ∙ mask_of_entries c.args.image.now c.args.place c.args.lane _ (entries_sealed c.args.image.now c.args.lane (sym c.is_sealed.ensures ∙ c.if-not-is_sealed.false))
