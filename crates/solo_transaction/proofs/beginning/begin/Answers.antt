use Rattle.solo_transaction.proofs.Begun.{begun_with}
use Rattle.solo_transaction.proofs.RangeOrigins.{on_ok}
use Rattle.solo_transaction.proofs.beginning.begin.Goals as goal

pub returns-then-is_ok-clause-begun : goal.returns-then-is_ok-clause-begun
returns-then-is_ok-clause-begun g c =
    on_ok _ _ (λ begun v rests alone. begun_with g.M.LaneMem.at c.begin-begun.new.lane c.clear.new.self v c.args.wants.now c.clear.ensures.none alone (begun v rests)) c.begin-begun.result c.begin-begun.ensures.begun
