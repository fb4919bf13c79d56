use Rattle.std.proofs.Common.{◌≡◌, ◌<◌, length, subst, rules}
use Rattle.pm_reopen.specs.Plan.{written_back}
use Rattle.pm_reopen.specs.Running.{Halts, Makes}
use Rattle.pm_reopen.proofs.Flushing.{nothing_back, something_back}
use Rattle.pm_reopen.proofs.Making.{makes_none, ran_error}
use Rattle.pm_reopen.proofs.writing.write_back.Goals as goal

pub returns-then-undrained-eq0 : goal.returns-then-undrained-eq0
returns-then-undrained-eq0 c = λ es is.
    let none : length c.args.mem.now.changes ≡ 0 = search rules in
    subst (Makes c.args.mem.now c.args.mem.now) (nothing_back c.args.lines es c.args.mem.now.changes is none) (makes_none c.args.mem.now)

pub flush_and_drain-requires : goal.flush_and_drain-requires
flush_and_drain-requires c = search rules

pub returns-in_err-flush_and_drain : goal.returns-in_err-flush_and_drain
returns-in_err-flush_and_drain c = λ es is.
    let some : 0 < length c.args.mem.now.changes = search rules in
    ran_error c.args.mem.now c.flush_and_drain.new.mem (written_back c.args.lines es) c.from_residual.result c.from_residual.ensures.0
    (subst (Halts c.args.mem.now c.flush_and_drain.new.mem) (something_back c.args.lines es c.args.mem.now.changes is some) (c.in_err-flush_and_drain.ensures es is))

pub returns-in_ok-flush_and_drain : goal.returns-in_ok-flush_and_drain
returns-in_ok-flush_and_drain c = λ es is.
    let some : 0 < length c.args.mem.now.changes = search rules in
    subst (Makes c.args.mem.now c.flush_and_drain.new.mem) (something_back c.args.lines es c.args.mem.now.changes is some) (c.in_ok-flush_and_drain.ensures es is)
