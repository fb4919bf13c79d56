use Rattle.std.proofs.Common.{◌+◌, ℕ, Bool, refl, sym, ◌∙◌, arith}
use Rattle.pm_image.specs.LogFaults.{in_chunk}
use Rattle.pm_image.proofs.Ranges.{all_more, all_fails, all_at_end}
use Rattle.pm_image.proofs.targets.are_in_chunks.Goals as goal

pub loop-k-init : goal.loop-k-init
loop-k-init c = refl

pub loop-k-preserved : goal.loop-k-preserved
loop-k-preserved c =
    let inside : ℕ → Bool = λ k. in_chunk c.args.shape.lanes c.args.shape.zones (c.args.first + k) in
    all_more inside c.loop-k.k c.loop-k.invariant (sym c.is_in_chunk.ensures ∙ c.if-not-is_in_chunk.false)

pub returns-then-not-is_in_chunk : goal.returns-then-not-is_in_chunk
returns-then-not-is_in_chunk c =
    let inside : ℕ → Bool = λ k. in_chunk c.args.shape.lanes c.args.shape.zones (c.args.first + k) in
    sym (all_fails inside c.args.count c.loop-k.k (omega arith) (sym c.is_in_chunk.ensures ∙ c.if-not-is_in_chunk.true))

pub returns : goal.returns
returns c =
    let inside : ℕ → Bool = λ k. in_chunk c.args.shape.lanes c.args.shape.zones (c.args.first + k) in
    sym (all_at_end inside c.args.count c.loop-k.k (omega arith) c.loop-k.invariant)
