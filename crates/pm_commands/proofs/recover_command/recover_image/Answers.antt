use Rattle.pm_commands.proofs.Recovering.{with_stop, without_stop}
use Rattle.pm_commands.proofs.recover_command.recover_image.Goals as goal

pub returns-in_ok-recover_stop-in-Some-clause-recovered : goal.returns-in_ok-recover_stop-in-Some-clause-recovered
returns-in_ok-recover_stop-in-Some-clause-recovered c =
    with_stop c.args.image.now c.recover_stop.new.image c.args.stop c.in-Some.stop c.args.keep c.in_ok-recover_stop-in-Some.field-0 c.in_ok-recover_stop-in-Some.ensures.done c.in-Some.is
    c.in_ok-recover_stop-in-Some.ensures.ends c.in_ok-recover_stop-in-Some.ensures.left c.in_ok-recover_stop-in-Some.ensures.whole c.in_ok-recover_stop-in-Some.ensures.again

pub returns-in_ok-recover-in-None-clause-recovered : goal.returns-in_ok-recover-in-None-clause-recovered
returns-in_ok-recover-in-None-clause-recovered c =
    without_stop c.args.image.now c.recover.new.image c.args.stop c.args.keep c.in_ok-recover-in-None.field-0 c.in_ok-recover-in-None.ensures.done c.in-None.is
    c.in_ok-recover-in-None.ensures.calls c.in_ok-recover-in-None.ensures.made c.in_ok-recover-in-None.ensures.recovered c.in_ok-recover-in-None.ensures.again
