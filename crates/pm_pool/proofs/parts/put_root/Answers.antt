use Rattle.std.proofs.Common.{◌≡◌, ◌+◌, ◌-◌, ◌*◌, ◌/◌, ℕ, List, slice_index, slice_set, sym, ◌∙◌, ap, arith}
use Rattle.pm_layout.specs.Layout.{zone_place}
use Rattle.pm_layout.specs.Sizes.{class_of, descriptor_of}
use Rattle.pm_layout.specs.declared.class.Class.TheVariants.{Lines, Chunks}
use Rattle.pm_pool.specs.Created.{root_block, zone_word}
use Rattle.pm_pool.proofs.RootBlock.{Places, run_put, chunks_put}
use Rattle.pm_pool.proofs.parts.put_root.Goals as goal
use Rattle.pm_pool.proofs.parts.put_root.Goals.{in-Lines, in_default}

pub returns-clause-zones : goal.returns-clause-zones
returns-clause-zones c i behind =
    let lanes : ℕ = c.args.shape.lanes in
    let v : ℕ = 512 + 1024 * lanes in
    let place : 8 * v ≡ zone_place lanes 0 = omega arith in
    let places : Places c.args.image.now v c.args.root = record {
      room = omega arith;
      zero = λ k h. c.requires.zero k (omega arith);
      some = c.if-root-eq0.false;
    } in
    ap (λ (xs : List ℕ). slice_index xs i) c.set-2.ensures ∙
    (elim c.match-class.branch [
      | in-Lines w ↦
          let is_run : class_of c.args.root ≡ Lines w.in-Lines.field-0 = sym c.class_of-class.ensures.value ∙ w.in-Lines.is in
          let block : c.root_block.result ≡ root_block lanes (Lines w.in-Lines.field-0) = c.root_block.ensures ∙ ap (root_block lanes) is_run in
          ap (λ (xs : List ℕ). slice_index (slice_set xs (c.root_block.result / 8 + 1) c.args.root) i)
          (w.image-is ∙ w.set-in-Lines.ensures ∙ ap (λ (xs : List ℕ). slice_set xs (w.chunk_at.result / 8) 1) c.set.ensures)
          ∙ run_put c.args.image.now v w.in-Lines.field-0 c.args.root c.descriptor_of.result (c.zone_at.result / 8) (w.chunk_at.result / 8) (c.root_block.result / 8 + 1) i places is_run
          (c.descriptor_of.ensures ∙ ap descriptor_of c.class_of-class.ensures.value) (omega (arith, c.zone_at.ensures.value)) (omega (arith, w.chunk_at.ensures.value)) (omega (arith, block)) (omega arith)
      | in_default w ↦
          let is_huge : class_of c.args.root ≡ Chunks w.in_default.field-0 = sym c.class_of-class.ensures.value ∙ w.in_default.is in
          let block : c.root_block.result ≡ root_block lanes (Chunks w.in_default.field-0) = c.root_block.ensures ∙ ap (root_block lanes) is_huge in
          ap (λ (xs : List ℕ). slice_index (slice_set xs (c.root_block.result / 8 + 1) c.args.root) i) (w.image-is ∙ c.set.ensures)
          ∙ chunks_put c.args.image.now v w.in_default.field-0 c.args.root c.descriptor_of.result (c.zone_at.result / 8) (c.root_block.result / 8 + 1) i places is_huge
          (c.descriptor_of.ensures ∙ ap descriptor_of c.class_of-class.ensures.value) (omega (arith, c.zone_at.ensures.value)) (omega (arith, block)) (omega arith)
    ])
    ∙ ap (λ (n : ℕ). zone_word c.args.root (8 * i - n)) place
