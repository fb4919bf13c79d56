use Rattle.std.proofs.Common.{◌≡◌, ◌++◌}
use Rattle.std.specs.List.{flat_map, range_with_len}
use Rattle.std.specs.Iterator.Adapters.{enumerate_source, enumerate_count}
use Rattle.std.specs.Slice.Iter.{chunks_rest, chunks_size}
use Rattle.pm_text.specs.Dump.{data_line}
use Rattle.pm_text.proofs.Pieces.{IsCut}
use Rattle.pm_text.proofs.object_text.push_data_lines.Given as goal

abbrev pub invariant-loop-k : goal.invariant-loop-k
invariant-loop-k l = record {
  by_16 : chunks_size (enumerate_source l.k-iterator) ≡ 16;
  cut : IsCut l.bytes (chunks_rest (enumerate_source l.k-iterator)) (enumerate_count l.k-iterator);
  lines : l.out.items ≡ l.initial.out.items ++ flat_map (data_line l.bytes) (range_with_len 0 (enumerate_count l.k-iterator));
}
