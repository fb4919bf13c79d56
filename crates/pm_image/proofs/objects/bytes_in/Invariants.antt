use Rattle.std.proofs.Common.{◌≡◌, get_or, map}
use Rattle.std.specs.List.{range_with_len}
use Rattle.pm_words.specs.Words.{bytes_of}
use Rattle.pm_image.proofs.objects.bytes_in.Given as goal

abbrev pub invariant-loop-k : goal.invariant-loop-k
invariant-loop-k l = l.bytes.items ≡ bytes_of (map (λ i. get_or l.words i 0) (range_with_len l.first l.k))
