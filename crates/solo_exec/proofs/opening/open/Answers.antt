use Rattle.std.proofs.lemmas.Result.{err_from_is_err_and}
use Rattle.solo_exec.proofs.opening.open.Goals as goal

pub returns-in_err-pool-clause-cause : goal.returns-in_err-pool-clause-cause
returns-in_err-pool-clause-cause c =
    let p = err_from_is_err_and c.from_residual.result c.from_residual.ensures.1 in
    rw (p.1, p.2) (c.in_err-pool.ensures.cause c.args.layout.now c.args.lanes)

pub returns-in_err-named-clause-cause : goal.returns-in_err-named-clause-cause
returns-in_err-named-clause-cause c =
    let p = err_from_is_err_and c.from_residual-in_err-named.result c.from_residual-in_err-named.ensures.1 in
    rw (p.1, p.2) (c.in_err-named.ensures.cause c.args.image.now c.args.lanes c.in_ok-pool.ensures.means)

pub returns-in_err-check_lanes-clause-cause : goal.returns-in_err-check_lanes-clause-cause
returns-in_err-check_lanes-clause-cause c =
    let p = err_from_is_err_and c.from_residual-in_err-check_lanes.result c.from_residual-in_err-check_lanes.ensures.1 in
    rw (p.1, p.2) (c.in_err-check_lanes.ensures.cause c.args.image.now c.args.layout.now c.in_ok-pool.pool c.in_ok-pool.ensures.means c.in_ok-named.ensures.named)

pub returns-in_err-recover_image-clause-cause : goal.returns-in_err-recover_image-clause-cause
returns-in_err-recover_image-clause-cause c =
    let p = err_from_is_err_and c.from_residual-in_err-recover_image.result c.from_residual-in_err-recover_image.ensures.1 in
    rw (p.1, p.2) (c.in_err-recover_image.ensures.cause c.args.layout.now c.args.lanes)
