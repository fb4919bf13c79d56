-- EACH OBJECT FITS ITS BLOCK, beside the world: no entry and no store changes an object's size, and
-- a new block has room for its object as its call takes its number.
use Rattle.std.specs.Prelude.{◌≡◌, ℕ, ◌+◌, ◌*◌, ◌<◌, ◌≤◌, Bool, true, false, List, Some}
use Rattle.pm_view.specs.Entries.{turn}
use Rattle.pm_view.specs.Places.{Place, InHuge, RootWord, Block, Small, Big, Root, Geometry}
use Rattle.pm_view.specs.Steps.{Step}
use Rattle.pm_view.specs.View.{View}
use Rattle.pm_world.specs.Course.{past_after}
use Rattle.pm_world.specs.Lawful.{IsLawful}
use Rattle.pm_world.specs.Memory.{Memory}
use Rattle.pm_world.specs.Moves.{Moves}
use Rattle.pm_world.specs.Runs.{IsRun, IsWorld, LaneStep, Moment}
use Rattle.pm_world.specs.Sights.{call_in}
use Rattle.pm_world.specs.States.{State, diff, after_diff, there, val, size_at}
use Rattle.pm_world.specs.World.{Opening, Views, Past, World, settled_words}

-- the word of a block's header that has its object's size, and the size that is there
abbrev pub size_place : Geometry → Block → Place
size_place G (Small c i) = size_at (G.class c) c i
size_place G (Big f) = InHuge f 1
size_place G Root = RootWord

abbrev pub stored_size : Geometry → State → Block → ℕ
stored_size G s B = val (s (size_place G B)) 0 64

-- the block has room for so many bytes after its header: a block of a run by its lines; a huge one
-- where each chunk in which some of the bytes are is the block's
abbrev pub HasRoomFor : Geometry → Block → ℕ → Type 0
HasRoomFor G (Small c i) size = 64 + size ≤ 64 * G.class c
HasRoomFor G (Big f) size = (n : ℕ) → 4096 * n < 64 + size → G.first (f + n) ≡ f
HasRoomFor G Root size = Unit {0}

-- of settled words S and a history: each allocated block has room for its object, and so has each
-- block that a call in flight allocates, whatever words S' are before the call
pub record AreFitting (G : Geometry) (S : State) (drew : ℕ → View) (length : ℕ)
    (decided : ℕ → Bool) : Type 0 where
  pub settled : (B : Block) → there S B ≡ true → HasRoomFor G B (stored_size G S B)
  pub flying : (n : ℕ) → n < length → decided n ≡ false → (B : Block)
      → turn (diff (call_in (drew n))) B ≡ Some true
      → (S' : State) → HasRoomFor G B (stored_size G (after_diff (diff (call_in (drew n))) S') B)

abbrev pub ObjectsFit : Opening → Past → Type 0
ObjectsFit o g = AreFitting g.geo (settled_words o g) g.drew g.length g.decided

-- A LAWFUL STEP KEEPS IT, and so does every run of such steps
abbrev pub KeepsSizes : Step → Type 0
KeepsSizes s = (o : Opening) (old mem : Memory) (views : Views) (g : Past) (k : ℕ)
    → World o old views g → k < o.lanes → IsLawful (views k) s → Moves k s old mem
    → ObjectsFit o g → ObjectsFit o (past_after g (views k) s)

abbrev pub RunsKeepSizes : Type 0
RunsKeepSizes = (o : Opening) (turns : List LaneStep) (old new : Moment) → IsWorld o old
    → IsRun o old turns new → ObjectsFit o old.past → ObjectsFit o new.past
