use Rattle.std.proofs.Common.{◌++◌, ◌∷◌, [], map}
use Rattle.pm_image.specs.Logs.{slot_line}
use Rattle.pm_reopen.specs.Plan.{zeros}
use Rattle.pm_reopen.specs.Plan.MemoryCall.{Change, Flush}
use Rattle.pm_reopen.proofs.Making.{halts_after, halts_at, halts_before, makes_one, makes_then, ran_error}
use Rattle.pm_reopen.proofs.Unflushed.{can_flush, zeros_unflushed}
use Rattle.pm_reopen.proofs.clearing.clear_slot.Goals as goal

pub zero_line-requires-clause-words : goal.zero_line-requires-clause-words
zero_line-requires-clause-words c = c.requires.words

pub flush-requires : goal.flush-requires
flush-requires c =
    can_flush (slot_line c.args.lane c.args.slot) c.zero_line.new.mem.changes
    (zeros_unflushed c.args.mem.now c.zero_line.new.mem (slot_line c.args.lane c.args.slot) c.in_ok-zero_line.ensures)

pub returns-in_err-zero_line : goal.returns-in_err-zero_line
returns-in_err-zero_line c =
    ran_error c.args.mem.now c.zero_line.new.mem (map Change (zeros (slot_line c.args.lane c.args.slot)) ++ Flush (slot_line c.args.lane c.args.slot) ∷ []) c.from_residual.result c.from_residual.ensures.0
    (halts_before c.args.mem.now c.zero_line.new.mem (map Change (zeros (slot_line c.args.lane c.args.slot))) (Flush (slot_line c.args.lane c.args.slot) ∷ []) c.in_err-zero_line.ensures)

pub returns-in_err-flush : goal.returns-in_err-flush
returns-in_err-flush c =
    ran_error c.args.mem.now c.flush.new.self (map Change (zeros (slot_line c.args.lane c.args.slot)) ++ Flush (slot_line c.args.lane c.args.slot) ∷ []) c.from_residual-in_err-flush.result c.from_residual-in_err-flush.ensures.0
    (halts_after c.args.mem.now c.zero_line.new.mem c.flush.new.self (map Change (zeros (slot_line c.args.lane c.args.slot))) (Flush (slot_line c.args.lane c.args.slot) ∷ []) c.in_ok-zero_line.ensures
    (halts_at c.zero_line.new.mem c.flush.new.self (Flush (slot_line c.args.lane c.args.slot)) c.in_err-flush.ensures.stop c.in_err-flush.ensures.said))

pub returns : goal.returns
returns c =
    makes_then c.args.mem.now c.zero_line.new.mem c.flush.new.self (map Change (zeros (slot_line c.args.lane c.args.slot))) (Flush (slot_line c.args.lane c.args.slot) ∷ []) c.in_ok-zero_line.ensures
    (makes_one c.zero_line.new.mem c.flush.new.self (Flush (slot_line c.args.lane c.args.slot)) c.in_ok-flush.ensures.due c.in_ok-flush.ensures.done)
