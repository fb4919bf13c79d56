use Rattle.std.proofs.Common.{◌≡◌, codes, rules}
use Rattle.clap.specs.Words.{found_of, rows_of}
use Rattle.pm_options.proofs.Commands.{not_check, not_create, not_exec, not_recover}
use Rattle.pm_options.proofs.Usages.{usage_passed}
use Rattle.pm_options.proofs.reading.named_command.Goals as goal

pub returns-in_err-create_in-clause-faulty : goal.returns-in_err-create_in-clause-faulty
returns-in_err-create_in-clause-faulty c =
    let is : c.args.name.now ≡ codes "create" = search rules in
    usage_passed c.from_residual.result c.in_err-create_in.field-0.0 _ _ (not_create c.args.name.now (rows_of (found_of c.args.given.now)) is) c.in_err-create_in.ensures.none c.from_residual.ensures.1

pub returns-in_err-exec_in-clause-faulty : goal.returns-in_err-exec_in-clause-faulty
returns-in_err-exec_in-clause-faulty c =
    let is : c.args.name.now ≡ codes "exec" = search rules in
    usage_passed c.from_residual-in_err-exec_in.result c.in_err-exec_in.field-0.0 _ _ (not_exec c.args.name.now (rows_of (found_of c.args.given.now)) is) c.in_err-exec_in.ensures.none c.from_residual-in_err-exec_in.ensures.1

pub returns-in_err-check_in-clause-faulty : goal.returns-in_err-check_in-clause-faulty
returns-in_err-check_in-clause-faulty c =
    let is : c.args.name.now ≡ codes "check" = search rules in
    usage_passed c.from_residual-in_err-check_in.result c.in_err-check_in.field-0.0 _ _ (not_check c.args.name.now (rows_of (found_of c.args.given.now)) is) c.in_err-check_in.ensures.none c.from_residual-in_err-check_in.ensures.1

pub returns-in_err-recover_in-clause-faulty : goal.returns-in_err-recover_in-clause-faulty
returns-in_err-recover_in-clause-faulty c =
    let is : c.args.name.now ≡ codes "recover" = search rules in
    usage_passed c.from_residual-in_err-recover_in.result c.in_err-recover_in.field-0.0 _ _ (not_recover c.args.name.now (rows_of (found_of c.args.given.now)) is) c.in_err-recover_in.ensures.none c.from_residual-in_err-recover_in.ensures.1
