use Rattle.std.proofs.Common.{◌≡◌, ℕ, ◌+◌, ◌*◌, ◌<◌, ◌≤◌, cond, get_or, length}
use Rattle.pm_image.specs.Logs.{covers}
use Rattle.pm_image.proofs.clashes.mark_record.Given as goal

abbrev pub invariant-loop-word : goal.invariant-loop-word
invariant-loop-word l = record {
  as_long : length l.marks ≡ length l.initial.marks;
  passed : (i : ℕ) → i < length l.marks → i < l.word → get_or l.marks i 0 ≡ get_or l.initial.marks i 0 + cond (covers l.found (8 * i)) 1 0;
  ahead : (i : ℕ) → l.word ≤ i → get_or l.marks i 0 ≡ get_or l.initial.marks i 0;
}
