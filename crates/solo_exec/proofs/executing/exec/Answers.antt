use Rattle.std.proofs.Common.{ℕ, List, subst}
use Rattle.pm_image.proofs.Meanings.{one_meaning}
use Rattle.pm_objects.specs.declared.pool.PoolView.{PoolView}
use Rattle.pm_recover.specs.Recovery.{IsRecovered}
use Rattle.solo_exec.specs.Letters.{resolved}
use Rattle.solo_exec.specs.Runs.{IsHistoryOf, LeavesReplay, MakesCallsOf}
use Rattle.solo_exec.specs.Torn.{HasNoTornMatch}
use Rattle.solo_exec.proofs.executing.exec.Goals as goal

pub returns-clause-history : goal.returns-clause-history
returns-clause-history c pool means =
    let out = c.in_ok-outcome in
    subst (λ (p : PoolView). IsHistoryOf p (resolved out.outcome.given.items c.args.script.now.lines) c.args.stop out.outcome.history.items out.outcome.end) (one_meaning c.args.image c.in_ok-pool.pool pool c.in_ok-pool.ensures.means means) out.ensures.history

pub returns-clause-made : goal.returns-clause-made
returns-clause-made c pool means =
    let out = c.in_ok-outcome in
    subst (λ (p : PoolView). MakesCallsOf c.args.image p (resolved out.outcome.given.items c.args.script.now.lines) c.args.stop c.args.keep out.outcome.history.items out.outcome.end out.outcome.words.items)
    (one_meaning c.args.image c.in_ok-pool.pool pool c.in_ok-pool.ensures.means means)
    (record { words = c.open.new.image; recovered = c.in_ok-pool.ensures.recovered; makes = out.ensures.made })

pub returns-clause-replay : goal.returns-clause-replay
returns-clause-replay c pool means =
    let out = c.in_ok-outcome in
    subst
    (λ (p : PoolView). ((words : List ℕ) → IsRecovered c.args.image words p.lanes → HasNoTornMatch words p (resolved out.outcome.given.items c.args.script.now.lines) c.args.stop) → LeavesReplay c.args.image p out.outcome.history.items out.outcome.words.items)
    (one_meaning c.args.image c.in_ok-pool.pool pool c.in_ok-pool.ensures.means means)
    (λ none. out.ensures.replay c.args.image c.in_ok-pool.ensures.means c.in_ok-pool.ensures.recovered (none c.open.new.image c.in_ok-pool.ensures.recovered))
