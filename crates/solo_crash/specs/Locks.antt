-- Locks apart from their order: a transaction has them as they were wanted, a lane as it took them.
use Rattle.std.specs.Prelude.{◌≡◌, ℕ, Bool, List, length}
use Rattle.solo_model.specs.Transaction.{Lock, is_locked}

-- the same objects are locked, each for writing in both or in neither, by as many locks
pub record AreSameLocks (locks others : List Lock) : Type 0 where
  pub same : (off : ℕ) (write : Bool) → is_locked locks off write ≡ is_locked others off write
  pub count : length locks ≡ length others
