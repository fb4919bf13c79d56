use Rattle.std.proofs.Common.{◌≡◌, List, [], ◌∷◌, length, refl, arith, rules}
use Rattle.pm_call.proofs.RollbackLanes.{persist_ready, taken_none, taken_some}
use Rattle.pm_call.proofs.rollback.take_back.Goals as goal

empty : {A : Type 0} (xs : List A) → length xs ≡ 0 → xs ≡ []
empty [] e = refl
empty (x ∷ xs) e = absurd (omega (arith, e))

pub persist_all-requires : goal.persist_all-requires
persist_all-requires g c = persist_ready g.M.LaneMem.at c.args.lane.now c.requires

pub returns-then-is_empty : goal.returns-then-is_empty
returns-then-is_empty g c = taken_none g.M.LaneMem.at c.args.lane.now c.persist_all.new.mem c.persist_all.result (empty c.args.lane.now.log.records.items (search rules)) c.persist_all.ensures

pub returns-else-is_empty : goal.returns-else-is_empty
returns-else-is_empty g c = taken_some g.M.LaneMem.at c.args.lane.now c.undo.new.lane c.undo.result (search rules) c.undo.ensures
