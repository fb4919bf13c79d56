use Rattle.std.proofs.Common.{List, ap, sym, subst, ◌∙◌}
use Rattle.std.specs.List.{All}
use Rattle.atomic_table.specs.Table.{Me}
use Rattle.pm_memory.specs.Changes.{AreUndrained}
use Rattle.pm_view.specs.Changes.{IsFormed}
use Rattle.pm_view.specs.declared.change.Change.{Change}
use Rattle.pm_shared.specs.Rule.{Knowledge}
use Rattle.pm_shared.proofs.Pools.{some_words, takes, took}
use Rattle.pm_shared.proofs.Seats.{seen_now}
use Rattle.pm_shared.proofs.lane.SharedLane.join.Goals as goal

pub join_seat-requires : goal.join_seat-requires
join_seat-requires g c = let lane = c.self.inside in let named = c.self.invariant in let seen = seen_now c.args.self _ c.self.view_is c.requires.lane.0 c.requires.lane.1 in (
  c.requires.table ∙ sym named.1,
  named.0 ∙ sym named.1,
  ap (λ (m : Me _ Knowledge). m.1) seen.knows,
  some_words lane.memory.now,
  takes c.requires.pool.0 c.requires.lane.0 c.args.pool.now.me lane.seat.me c.requires.pool.1 seen.knows lane.memory.now.table.shared.key c.args.pool.now.id lane.seat.id,
)

pub returns-clause-pool : goal.returns-clause-pool
returns-clause-pool g c back v at seen = c.join_seat.ensures.2 ∙ took back v c.args.pool.now.me c.self.inside.seat.me at (seen_now c.args.self _ c.self.view_is v seen).knows

pub returns-clause-changes : goal.returns-clause-changes
returns-clause-changes g c v seen = subst (λ (changes : List Change). AreUndrained changes v.changes) (sym c.into_changes.ensures) (seen_now c.args.self _ c.self.view_is v seen).tally.changes

pub returns-clause-formed : goal.returns-clause-formed
returns-clause-formed g c = subst (All IsFormed) (sym c.into_changes.ensures) (seen_now c.args.self _ c.self.view_is c.requires.lane.0 c.requires.lane.1).tally.formed
