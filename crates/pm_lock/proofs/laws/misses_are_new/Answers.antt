use Rattle.std.proofs.Common.{Contains, sym, subst, arith}
use Rattle.pm_view.specs.View.{entry_drawn}
use Rattle.pm_lock.proofs.Numbering.{entry_of_call}
use Rattle.pm_lock.proofs.laws.misses_are_new.Goals as goal

pub returns : goal.returns
returns c g lane n v w line m entries classes same B has begins =
    let missed = m classes same B has begins in
    record {
      some = let more = missed.more in omega (arith, more);
      since = λ p low of. missed.since (entry_drawn p (g.drew p))
          (subst (λ es. Contains es (entry_drawn p (g.drew p))) (sym entries) (entry_of_call lane g.drew n p low of));
    }
