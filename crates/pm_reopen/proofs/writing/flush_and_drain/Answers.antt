use Rattle.std.proofs.Common.{◌++◌, ◌∷◌, [], map, arith}
use Rattle.pm_reopen.specs.Plan.{lines_of}
use Rattle.pm_reopen.specs.Plan.MemoryCall.{Drain, Flush}
use Rattle.pm_reopen.proofs.Making.{halts_after, halts_at, halts_before, makes_one, makes_then, ran_error}
use Rattle.pm_reopen.proofs.writing.flush_and_drain.Goals as goal

pub drain-requires : goal.drain-requires
drain-requires c = let some = c.requires in let many = c.in_ok-flush_all.ensures.as_many in omega (arith, some, many)

pub returns-in_err-flush_all : goal.returns-in_err-flush_all
returns-in_err-flush_all c = λ es is.
    ran_error c.args.mem.now c.flush_all.new.mem (map Flush (lines_of c.args.lines es) ++ Drain ∷ []) c.from_residual.result c.from_residual.ensures.0
    (halts_before c.args.mem.now c.flush_all.new.mem (map Flush (lines_of c.args.lines es)) (Drain ∷ []) (c.in_err-flush_all.ensures.made es is))

pub returns-in_err-drain : goal.returns-in_err-drain
returns-in_err-drain c = λ es is.
    ran_error c.args.mem.now c.drain.new.self (map Flush (lines_of c.args.lines es) ++ Drain ∷ []) c.from_residual-in_err-drain.result c.from_residual-in_err-drain.ensures.0
    (halts_after c.args.mem.now c.flush_all.new.mem c.drain.new.self (map Flush (lines_of c.args.lines es)) (Drain ∷ []) (c.in_ok-flush_all.ensures.made es is)
    (halts_at c.flush_all.new.mem c.drain.new.self Drain c.in_err-drain.ensures.stop c.in_err-drain.ensures.said))

pub returns : goal.returns
returns c = λ es is.
    makes_then c.args.mem.now c.flush_all.new.mem c.drain.new.self (map Flush (lines_of c.args.lines es)) (Drain ∷ []) (c.in_ok-flush_all.ensures.made es is)
    (makes_one c.flush_all.new.mem c.drain.new.self Drain c.in_ok-drain.ensures.due c.in_ok-drain.ensures.done)
