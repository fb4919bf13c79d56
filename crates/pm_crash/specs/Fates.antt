-- THE FATE OF A LANE'S OPEN CALL, where power fails: whether an image keeps it, told from words
-- and from the lane's undrained changes alone. Each other call of the lane is kept by every image.
use Rattle.std.specs.Prelude.{◌≡◌, ◌≢◌, ◌⊎◌, ℕ, suc, ◌<◌, ◌==◌, ◌||◌, not, Bool, true, cond}
use Rattle.std.specs.Prelude.{List, [], ◌∷◌, slice_index, Option, None, Some}
use Rattle.pm_layout.specs.Areas.{word_of_generation, word_of_seal}
use Rattle.pm_layout.specs.Chunks.{words_of}
use Rattle.pm_layout.specs.declared.shape.Shape.{Shape}
use Rattle.pm_memory.specs.Changes.{AreUndrained}
use Rattle.pm_view.specs.Changes.{Undrained}
use Rattle.pm_view.specs.declared.change.Change.{Change}
use Rattle.pm_view.specs.Log.{Phase, Idle, Sealing, Clearing, Retiring, Voiding}
use Rattle.pm_view.specs.Steps.{Step}
use Rattle.pm_view.specs.View.{Constants, View}
use Rattle.pm_view.specs.Views.{after}
use Rattle.pm_world.specs.Crash.{Survives, is_kept}
use Rattle.pm_world.specs.Lawful.{IsLawful}
use Rattle.pm_world.specs.Memory.{Memory, PoolWord}
use Rattle.pm_world.specs.Opens.{idle_views}
use Rattle.pm_world.specs.Runs.{IsRun, LaneStep, Moment}
use Rattle.pm_world.specs.World.{Opening, Views, Past, World}

-- in this view no call waits to be decided; or the one of this number does
abbrev pub EndsOpen : Option ℕ → View → Type 0
EndsOpen None v = (v.log.phase ≡ Idle) ⊎ (v.number ≡ None)
EndsOpen (Some n) v = (v.number ≡ Some n) × (v.log.phase ≢ Idle)

-- ---- FROM WORDS

-- what the word would be if all these changes, the oldest first, were lost: what the oldest of the
-- word found
unfoldable pub drained_value : List ℕ → List Change → ℕ → ℕ
drained_value words [] w = slice_index words w
drained_value words (c ∷ changes) w = cond (c.word == w) c.old (drained_value words changes w)

-- THE IMAGE KEEPS THE CALL that a lane with these changes has open: its seal is drained; or the
-- image has its seal; or its generation is not the drained one
abbrev pub is_judged_kept : Shape → List ℕ → List Change → List ℕ → ℕ → Bool
is_judged_kept sh words changes image lane =
    not (drained_value words changes (word_of_seal sh lane) == 0)
    || not (slice_index image (word_of_seal sh lane) == 0)
    || not (slice_index image (word_of_generation sh lane)
    == drained_value words changes (word_of_generation sh lane))

-- ---- A STORE OF THE SEAL OR OF THE NEXT GENERATION is drained before anything else is stored

-- the word that a lane stored last, and whose drain its log awaits
abbrev pub awaited : Shape → ℕ → Phase → Option ℕ
awaited sh lane (Sealing n) = Some (word_of_seal sh lane)
awaited sh lane Clearing = Some (word_of_seal sh lane)
awaited sh lane (Retiring n) = Some (word_of_generation sh lane)
awaited sh lane Voiding = Some (word_of_generation sh lane)
awaited sh lane phase = None

-- where a word is awaited, it alone is undrained
abbrev pub IsOnlyChange : Option ℕ → List Undrained → Type 0
IsOnlyChange None changes = Unit {0}
IsOnlyChange (Some w) changes = (c : Undrained) × (changes ≡ c ∷ []) × (c.word ≡ w)

abbrev pub AwaitsOne : View → Type 0
AwaitsOne v = IsOnlyChange (awaited v.fixed.shape v.fixed.lane v.log.phase) v.changes

-- it is so of every lane as lanes begin, and every lawful step and every run of them keeps it
abbrev pub AwaitsBegin : Type 0
AwaitsBegin = (fixed : ℕ → Constants) (generation : ℕ → ℕ) (k : ℕ)
    → AwaitsOne (idle_views fixed generation k)

abbrev pub KeepsAwaits : Step → Type 0
KeepsAwaits s = (v : View) → IsLawful v s → AwaitsOne v → AwaitsOne (after v s)

abbrev pub RunsKeepAwaits : Type 0
RunsKeepAwaits = (o : Opening) (turns : List LaneStep) (old new : Moment) → IsRun o old turns new
    → ((k : ℕ) → AwaitsOne (old.views k)) → (k : ℕ) → AwaitsOne (new.views k)

-- ---- THE LAWS

-- each call of a lane but its open one is kept by every image
abbrev pub OthersAreKept : Type 0
OthersAreKept = (o : Opening) (mem : Memory) (views : Views) (g : Past) (image : List ℕ)
    (number : Option ℕ) (call : ℕ) → World o mem views g → call < g.length
    → EndsOpen number (views (g.drew call).fixed.lane) → number ≢ Some (suc call)
    → is_kept o views g image call ≡ true

-- OF THE OPEN ONE THE WORDS TELL
abbrev pub OpenIsJudged : Type 0
OpenIsJudged = (o : Opening) (mem : Memory) (views : Views) (g : Past) (image words : List ℕ)
    (changes : List Change) (k call : ℕ) → World o mem views g → AwaitsOne (views k)
    → Survives o mem views image
    → ((w : ℕ) → w < words_of o.shape → slice_index words w ≡ mem (PoolWord w))
    → AreUndrained changes (views k).changes
    → call < g.length → (g.drew call).fixed.lane ≡ k → EndsOpen (Some (suc call)) (views k)
    → is_kept o views g image call ≡ is_judged_kept o.shape words changes image k
