-- A lane's own tally of its memory calls, and the views that it is the tally of.
use Rattle.std.specs.Prelude.{length, ◌≡◌, ℕ, ◌+◌, ◌%◌, ◌^◌, All, List, ◌∷◌, ◌++◌, [], Option}
use Rattle.pm_memory.specs.Changes.{AreUndrained}
use Rattle.pm_memory.specs.Solo.{IsCount}
use Rattle.pm_view.specs.declared.change.Change.{Change}
use Rattle.pm_view.specs.Changes.{IsFormed}
use Rattle.pm_view.specs.View.{View}

-- after how many counted calls the lane stops, how many it made, modulo 2 ^ 64, and its undrained
-- changes, the oldest first
pub record Tallied : Type 0 where
  pub stop : Option ℕ
  pub calls : ℕ
  pub changes : List Change

-- before the first call
abbrev pub untallied : Option ℕ → Tallied
untallied stop = record { stop = stop; calls = 0; changes = [] }

-- one more counted call, which left these changes undrained
abbrev pub tallied : List Change → Tallied → Tallied
tallied changes t = record t { calls = (t.calls + 1) % 2 ^ 64; changes = changes }

-- and one that made this change
abbrev pub with_change : Change → Tallied → Tallied
with_change c t = tallied (t.changes ++ c ∷ []) t

-- THE TALLY IS THE VIEW'S, and its changes have masks of words and no bit outside of them
pub record IsTally (t : Tallied) (v : View) : Type 0 where
  pub stop : v.fixed.stop ≡ t.stop
  pub calls : IsCount t.stop t.calls (length v.calls)
  pub changes : AreUndrained t.changes v.changes
  pub formed : All IsFormed t.changes
