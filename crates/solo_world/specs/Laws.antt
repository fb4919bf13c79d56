-- The laws of a world: each lawful step of a lane keeps it, whatever the others hold; and what a power failure leaves.
use Rattle.std.specs.Prelude.{◌≡◌, ℕ, ◌<◌, ◌==◌, Bool, true, false, if◌then◌else◌, Contains, List}
use Rattle.solo_view.specs.Blocks.{descriptor_word, is_run}
use Rattle.solo_view.specs.Founds.{Found}
use Rattle.solo_view.specs.Steps.{Step}
use Rattle.solo_view.specs.Steps.Step.{Draw}
use Rattle.solo_view.specs.View.{View}
use Rattle.solo_view.specs.Views.{after, changes_heap}
use Rattle.solo_world.specs.Course.{log_after, decided_after}
use Rattle.solo_world.specs.Crash.{Survives, NoneTorn, MeansKept, IsAcknowledged, is_kept}
use Rattle.solo_world.specs.History.{Entry}
use Rattle.solo_world.specs.Lawful.{IsLawful}
use Rattle.solo_world.specs.Memory.{Memory}
use Rattle.solo_world.specs.Memory.Location.{PoolWord}
use Rattle.solo_world.specs.Moves.{Moves}
use Rattle.solo_world.specs.Opening.{IsChunk, Opening}
use Rattle.solo_world.specs.World.{Views, World}

-- the views, with another of lane k
abbrev pub with_view : Views → ℕ → View → Views
with_view views k v j = if j == k then v else views j

-- a step that lane k makes from such a view keeps the world, moves its history on, and is answered as the lane's view knows
abbrev pub KeepsFrom : (View → Type 0) → Step → Type 0
KeepsFrom may s = (o : Opening) (old new : Memory) (views : Views) (log : List Entry) (decided : ℕ → Bool) (k : ℕ) (v : View)
    → World o old views log decided → k < o.lanes → views k ≡ v → may v → Moves k s old new
    → World o new (with_view views k (after v s)) (log_after log v s) (decided_after decided v s) × Found v s

-- a lawful step keeps the world
abbrev pub Keeps : Step → Type 0
Keeps s = KeepsFrom (λ v. IsLawful v s) s

-- the lane draws its call's number, and the call allocates and frees no block: one that does leaves the world as it draws, and so far only a lane that is
-- alone makes it
abbrev pub DrawsPlainly : ℕ → View → Type 0
DrawsPlainly n v = IsLawful v (Draw n) × (changes_heap v ≡ false)

-- A run stays one: no lawful step of any lane changes the word that describes it.
abbrev pub KeepsRuns : Type 0
KeepsRuns = (s : Step) (o : Opening) (old new : Memory) (views : Views) (log : List Entry) (decided : ℕ → Bool) (k page : ℕ)
    → World o old views log decided → k < o.lanes → IsLawful (views k) s → Moves k s old new
    → IsChunk o.lanes page → is_run (old (PoolWord (descriptor_word o.lanes page))) ≡ true
    → new (PoolWord (descriptor_word o.lanes page)) ≡ old (PoolWord (descriptor_word o.lanes page))

-- every image that survives means the history without the entries that it loses
abbrev pub CrashLaw : Type 0
CrashLaw = (o : Opening) (mem : Memory) (views : Views) (log : List Entry) (decided : ℕ → Bool) (image : List ℕ)
    → World o mem views log decided → Survives o mem views image → NoneTorn o views image → MeansKept o views log image

-- no image loses an acknowledged entry
abbrev pub AcknowledgedLaw : Type 0
AcknowledgedLaw = (o : Opening) (mem : Memory) (views : Views) (log : List Entry) (decided : ℕ → Bool) (image : List ℕ) (e : Entry)
    → World o mem views log decided → Contains log e → IsAcknowledged views e → is_kept o views image e.number ≡ true
