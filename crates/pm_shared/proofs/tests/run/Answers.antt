use Rattle.std.proofs.Common.{◌≡◌, ◌-◌, List, [], ◌∷◌, ◌++◌}
use Rattle.pm_view.specs.View.{View}
use Rattle.pm_shared.specs.declared.rule.Beginning.{Beginning}
use Rattle.pm_shared.specs.Openings.{idle_from, pool_of}
use Rattle.pm_shared.proofs.TestLanes.{fresh}
use Rattle.pm_shared.proofs.tests.run.Goals as goal

pub both-first-requires-clause-first : goal.both-first-requires-clause-first
both-first-requires-clause-first g c κs within = fresh c.args.memory.table.shared.key 0 c.in_ok-first.first c.in_ok-first.ensures.lane

pub both-first-requires-clause-second : goal.both-first-requires-clause-second
both-first-requires-clause-second g c κs within = fresh c.args.memory.table.shared.key 1 c.in_ok-second.second c.in_ok-second.ensures.lane

pub join-requires-2-clause-pool : goal.join-requires-2-clause-pool
join-requires-2-clause-pool g c = let key : Beginning = c.args.memory.table.shared.key in let rest : List View = idle_from key 2 (key.lanes - 2) ++ [] in let first = c.both-first.ensures.first in
    let at : c.split-2.new.pool.me ≡ pool_of key 2 [] = c.in_ok-second.ensures.pool [] (c.in_ok-first.ensures.pool [] c.requires.pool) in
    (rest ++ first.view ∷ [], c.join.ensures.pool rest first.view at first.seen)
