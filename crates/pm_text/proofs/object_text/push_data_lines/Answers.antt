use Rattle.std.proofs.Common.{◌≡◌, ℕ, min, length, ◌∙◌, ap}
use Rattle.std.specs.Iterator.Adapters.{enumerate_source, enumerate_count}
use Rattle.std.specs.Slice.Iter.{chunks_rest}
use Rattle.pm_text.proofs.Pieces.{piece_cut, cut_more, lines_more, lines_all}
use Rattle.pm_text.proofs.object_text.push_data_lines.Goals as goal

pub loop-k-preserved : goal.loop-k-preserved
loop-k-preserved c =
    let steps = c.in-Some.ensures.steps in
    let so_far = c.loop-k.invariant in
    let rest = chunks_rest (enumerate_source c.loop-k.k-iterator) in
    let after = chunks_rest (enumerate_source c.next.new.self) in
    let k : ℕ = enumerate_count c.loop-k.k-iterator in
    let next : ℕ = enumerate_count c.next.new.self in
    let long : length c.in-Some.piece.now ≡ min 16 (length rest) = steps.0.1.1 ∙ ap (λ (n : ℕ). min n (length rest)) so_far.by_16 in
    record {
      by_16 = steps.0.0 ∙ so_far.by_16;
      cut = cut_more c.args.bytes.now rest c.in-Some.piece.now after k next so_far.cut steps.0.1.0 long steps.0.1.2 steps.2;
      lines = lines_more c.args.out.now.items c.loop-k.out.items _ c.args.bytes.now c.in-Some.piece.now k c.in-Some.k next (piece_cut c.args.bytes.now rest c.in-Some.piece.now after k so_far.cut steps.0.1.0 long)
          so_far.lines steps.1 steps.2 c.in_ok-push_data_line.ensures;
    }

pub returns : goal.returns
returns c =
    lines_all c.args.out.now.items _ c.args.bytes.now (chunks_rest (enumerate_source c.loop-k.k-iterator)) (enumerate_count c.loop-k.k-iterator) c.loop-k.invariant.cut c.in-None.ensures.steps.0.1.0 c.loop-k.invariant.lines
