-- HOW THE HISTORY IS KEPT, with what each call knew as it took its number: from the opening on,
-- and by every lawful step.
use Rattle.std.specs.Prelude.{◌≡◌, ℕ, ◌<◌}
use Rattle.pm_view.specs.Steps.{Step}
use Rattle.pm_view.specs.Steps.Step.{Draw}
use Rattle.pm_world.specs.States.{State, put1}
use Rattle.pm_world.specs.Lanes.{Ghost}
use Rattle.pm_world.specs.Memory.{Memory}
use Rattle.pm_world.specs.Lawful.{IsLawful}
use Rattle.pm_world.specs.Course.{past_after}
use Rattle.pm_world.specs.World.{Opening, Views, Past, World, ghost_of, settled_words}
use Rattle.pm_world.specs.Laws.{History}

-- the settled words and the ghosts at each draw: a draw adds those of its moment, at its number
abbrev pub was_after : Opening → Past → Step → (ℕ → State) → ℕ → State
was_after o g (Draw n) was = put1 was g.length (settled_words o g)
was_after o g s was = was

abbrev pub ghosts_after : Past → Step → (ℕ → Ghost) → ℕ → Ghost
ghosts_after g (Draw n) ghosts = put1 ghosts g.length (ghost_of g)
ghosts_after g s ghosts = ghosts

-- OF A PAST IN WHICH NO NUMBER IS DRAWN the history holds at once
abbrev pub HistoryBegins : Type 0
HistoryBegins = (o : Opening) (g : Past) (was : ℕ → State) (ghosts : ℕ → Ghost)
    → g.length ≡ 0 → History o g was ghosts

-- A LAWFUL STEP KEEPS THE HISTORY, whatever the lanes hold and whichever calls are in flight
abbrev pub KeepsHistory : Step → Type 0
KeepsHistory s = (o : Opening) (mem : Memory) (views : Views) (g : Past) (k : ℕ)
    → World o mem views g → k < o.lanes → IsLawful (views k) s
    → (was : ℕ → State) (ghosts : ℕ → Ghost) → History o g was ghosts
    → History o (past_after g (views k) s) (was_after o g s was) (ghosts_after g s ghosts)
