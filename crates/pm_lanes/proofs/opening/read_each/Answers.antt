use Rattle.std.proofs.Common.{◌<◌, ◌≤◌, ⊎_elim, length, arith}
use Rattle.std.proofs.lemmas.Bool.{cases_lt}
use Rattle.std.proofs.lemmas.List.{get_or_past}
use Rattle.pm_lanes.proofs.opening.read_each.Goals as goal

pub loop-i-init : goal.loop-i-init
loop-i-init c = λ w low. omega (arith, low)

pub returns : goal.returns
returns c = λ w.
    let long : length c.args.words.now ≤ c.loop-i.i = omega arith in
    ⊎_elim
    (λ (l : w < length c.args.words.now). c.loop-i.invariant w (omega (arith, l, long)))
    (λ (l : length c.args.words.now ≤ w).
    let e = get_or_past c.args.words.now w 0 l in omega (arith, e))
    (cases_lt w (length c.args.words.now))
