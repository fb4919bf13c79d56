use Rattle.std.proofs.Common.{◌≡◌, true}
use Rattle.std.specs.List.{list_all, range_with_len}
use Rattle.pm_record.specs.Undo.{is_record}
use Rattle.pm_image.specs.Logs.{undo_slot}
use Rattle.pm_reopen.proofs.generation.has_torn_slot.Given as goal

abbrev pub invariant-loop-slot : goal.invariant-loop-slot
invariant-loop-slot l = list_all (λ slot. is_record (undo_slot l.image l.lane slot)) (range_with_len 0 l.slot) ≡ true
