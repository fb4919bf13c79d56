-- THE LAWS of a world.
use Rattle.std.specs.Prelude.{◌≡◌, ◌≢◌, ℕ, ◌<◌, Bool, true, false, List, None, ◌||◌}
use Rattle.pm_image.specs.LogFaults.{log_fault}
use Rattle.pm_view.specs.Places.{Place}
use Rattle.pm_view.specs.Log.{Phase}
use Rattle.pm_view.specs.Parts.{Part}
use Rattle.pm_view.specs.Steps.{Step}
use Rattle.pm_view.specs.Steps.Step.{Store}
use Rattle.pm_view.specs.View.{View}
use Rattle.pm_view.specs.Views.{after, part_in}
use Rattle.pm_view.specs.Founds.{Found}
use Rattle.pm_world.specs.States.{State, replay}
use Rattle.pm_world.specs.Sights.{sight_of}
use Rattle.pm_world.specs.Lanes.{Ghost, owns, sees}
use Rattle.pm_world.specs.Memory.{Memory}
use Rattle.pm_world.specs.Moves.{Moves}
use Rattle.pm_world.specs.Lawful.{IsLawful}
use Rattle.pm_world.specs.Course.{past_after}
use Rattle.pm_world.specs.World.{Opening, Views, Past, World, origin, ghost_of, settled_words}
use Rattle.pm_world.specs.Crash.{Survives, NoneTorn, MeansKept}

-- lane k's view is v, the others' are as before
pub record Turn (views new : Views) (k : ℕ) (v : View) : Type 0 where
  pub here : new k ≡ v
  pub else_ : (j : ℕ) → (j ≡ k → ⊥) → new j ≡ views j

-- A LAWFUL STEP KEEPS THE WORLD, moves its ghosts on, and is answered as the lane's view knows
abbrev pub Keeps : Step → Type 0
Keeps s = (o : Opening) (old mem : Memory) (views new : Views) (g : Past) (k : ℕ)
    → World o old views g → k < o.lanes → IsLawful (views k) s → Moves k s old mem → Turn views new k (after (views k) s)
    → World o mem new (past_after g (views k) s) × Found (views k) s

-- A LAWFUL STORE KEEPS THE WORLD where its lane's call has come so far and the word is such to the lane
abbrev pub KeepsAt : Phase → Part → Type 0
KeepsAt ph part = (w x : ℕ) (o : Opening) (old mem : Memory) (views new : Views) (g : Past) (k : ℕ) → World o old views g → k < o.lanes → IsLawful (views k) (Store w x)
    → (views k).log.phase ≡ ph → part_in (views k) w ≡ part → Moves k (Store w x) old mem → Turn views new k (after (views k) (Store w x)) → World o mem new (past_after g (views k) (Store w x))

-- NO BIT IS OWNED BY TWO LANES
abbrev pub RightsApart : Type 0
RightsApart = (o : Opening) (mem : Memory) (views : Views) (g : Past) → World o mem views g → (j k : ℕ) → j ≢ k → (p : Place) (b : ℕ)
    → owns g.geo (settled_words o g) (sight_of (views j)).hold p b ≡ true → owns g.geo (settled_words o g) (sight_of (views k)).hold p b ≡ false

-- EVERY CRASH IMAGE MEANS WHAT THE KEPT CALLS DO
abbrev pub CrashLaw : Type 0
CrashLaw = (o : Opening) (mem : Memory) (views : Views) (g : Past) (image : List ℕ) → World o mem views g → Survives o mem views image → NoneTorn o views image → MeansKept o views g image

-- and has no fault in its logs
abbrev pub CrashLogsLaw : Type 0
CrashLogsLaw = (o : Opening) (mem : Memory) (views : Views) (g : Past) (image : List ℕ) → World o mem views g → Survives o mem views image → NoneTorn o views image
    → log_fault image o.shape.lanes o.shape.zones ≡ None

-- EACH CALL FINDS WHAT IT KNEW: whatever its lane owned or saw as it took its number, the words before it are what they were settled to be then, whichever of
-- the calls in flight are kept. `was` has the settled words at each draw
pub record History (o : Opening) (g : Past) (was : ℕ → State) (geo : ℕ → Ghost) : Type 0 where
  pub finds : (keep : ℕ → Bool) → ((m : ℕ) → m < g.length → g.decided m ≡ true → keep m ≡ true) → (n : ℕ) → n < g.length → (p : Place) (b : ℕ)
      → (owns (geo n).geo (was n) (sight_of (g.drew n)).hold p b || sees (geo n).geo (was n) (sight_of (g.drew n)).hold p b) ≡ true
      → replay keep (origin o) (ghost_of g).log n p b ≡ was n p b
