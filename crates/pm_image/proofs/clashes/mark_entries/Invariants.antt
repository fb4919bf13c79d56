use Rattle.std.proofs.Common.{◌≡◌, ℕ, ◌*◌, ◌<◌, eqb, get_or, length, take}
use Rattle.std.specs.List.{filter}
use Rattle.pm_image.proofs.clashes.mark_entries.Given as goal

abbrev pub invariant-loop-one : goal.invariant-loop-one
invariant-loop-one l = record {
  as_long : length l.marks ≡ length l.initial.marks;
  counted : (i : ℕ) → i < length l.marks → get_or l.marks i 0 ≡ length (filter (λ e. eqb e.place (8 * i)) (take l.one-index l.found));
}
