use Rattle.std.proofs.Common.{◌≡◌, ℕ, ◌*◌, ◌<◌, get_or, length, take}
use Rattle.std.specs.List.{filter}
use Rattle.pm_image.specs.Logs.{covers}
use Rattle.pm_image.proofs.clashes.mark_records.Given as goal

abbrev pub invariant-loop-one : goal.invariant-loop-one
invariant-loop-one l = record {
  as_long : length l.marks ≡ length l.initial.marks;
  counted : (i : ℕ) → i < length l.marks → get_or l.marks i 0 ≡ length (filter (λ u. covers u (8 * i)) (take l.one-index l.found));
}
