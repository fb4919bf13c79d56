use Rattle.std.proofs.Common.{Ok}
use Rattle.pm_call.specs.Ranges.{HasRange, HasSeen}
use Rattle.pm_call.proofs.Calls.{checked_err, checked_so, checked_then}
use Rattle.pm_call.proofs.RangeLooks.{an_operation}
use Rattle.pm_call.proofs.checking.check_words.Goals as goal

pub look_words-requires : goal.look_words-requires
look_words-requires g c =
    let o = an_operation c.args.id c.args.off c.args.len c.args.write in
    let is = checked_so g.M.LaneMem.at c.args.lane.now c.check_range.new.lane c.check_range.new.lane o.0 (λ s (done : Unit {0}). HasRange s c.args.id c.args.off c.args.len c.args.write) tt c.requires (c.in-Ok.ensures o.0 o.1) in
    record { standing = is.standing; works = is.works; stands = is.stands; holds = (c.args.write, is.holds) }

pub returns-in-Ok : goal.returns-in-Ok
returns-in-Ok g c op is =
    checked_then g.M.LaneMem.at c.args.lane.now c.check_range.new.lane c.look_words.new.lane op (λ s (done : Unit {0}). HasRange s c.args.id c.args.off c.args.len c.args.write) (λ s (done : Unit {0}). HasSeen s c.args.id c.args.off c.args.len c.args.write) tt (Ok tt)
    (c.in-Ok.ensures op is) (λ s works stands range. c.look_words.ensures c.args.write s works stands range)

pub returns-in-Err : goal.returns-in-Err
returns-in-Err g c op is =
    checked_err g.M.LaneMem.at c.args.lane.now c.check_range.new.lane c.check_range.new.lane op (λ s (done : Unit {0}). HasRange s c.args.id c.args.off c.args.len c.args.write) (λ s (done : Unit {0}). HasSeen s c.args.id c.args.off c.args.len c.args.write) c.in-Err.why (c.in-Err.ensures op is)
