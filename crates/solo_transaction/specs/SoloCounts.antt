-- What the memory of one lane alone counts.
use Rattle.std.proofs.Common.{◌≤◌, sym, subst}
use Rattle.std.specs.Option.{ForSome}
use Rattle.solo_memory.specs.Solo.{Sees, Solo}
use Rattle.solo_view.specs.Founds.{IsAlone}
use Rattle.solo_view.specs.View.{View}
use Rattle.solo_transaction.specs.Published.{HasOwnCounts}

-- a memory that may be seen as a view counts the view's calls and numbers
pub counts_solo : (m : Solo) (v : View) → Sees m v → IsAlone v → HasOwnCounts v
counts_solo m v sees alone = record { numbered = sees.numbers; within = subst (λ stop. ForSome stop (λ n. v.calls ≤ n)) (sym sees.stop) sees.within }
