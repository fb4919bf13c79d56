use Rattle.std.proofs.Common.{◌≡◌, ℕ, ◌<◌, length, slice_index}
use Rattle.std.specs.Mem.Slots.{slots_items}
use mathlib.Core.Option.{some}
use lib.ListN.{get_elem?}
use Rattle.pm_shared.proofs.pool.copy.Given as goal

-- the words so far are the table's
abbrev pub invariant-loop-word : goal.invariant-loop-word
invariant-loop-word l = (length l.words.items ≡ length l.initial.words.items) × ((w : ℕ) → w < l.word → get_elem? (slots_items l.closed.words) w ≡ some (slice_index l.words.items w))
