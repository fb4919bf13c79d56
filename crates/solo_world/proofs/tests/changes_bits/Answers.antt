use Rattle.std.proofs.Common.{◌≡◌, Ok, rules, subst}
use Rattle.solo_memory.specs.Solo.{Sees}
use Rattle.solo_world.specs.Sequences.{Runs, ands, ors}
use Rattle.solo_world.proofs.OneLane.{may_change}
use Rattle.solo_world.proofs.Sequencing.{ready_first, ready_then}
use Rattle.solo_world.proofs.tests.changes_bits.Goals as goal

pub or-requires : goal.or-requires
or-requires g c =
    let made = c.in_ok-memory in
    ready_first (Sees made.memory) (ors 1544 8) (ands 1544 28) (may_change made.memory made.ensures.opened made.ensures.size made.ensures.seven)

pub and-requires : goal.and-requires
and-requires g c =
    let made = c.in_ok-memory in
    let set : c.or.result ≡ Ok tt = search rules in
    ready_then (Sees made.memory) (Sees c.or.new.mem) (ors 1544 8) (ands 1544 28) tt (may_change made.memory made.ensures.opened made.ensures.size made.ensures.seven)
    (subst (Runs (Sees made.memory) (Sees c.or.new.mem) (ors 1544 8)) set c.or.ensures)
