-- WHICH LINES A BLOCK HAS, and two laws: no two blocks share a line, and a run stays a run.
use Rattle.std.specs.Prelude.{◌≡◌, ◌⊎◌, ℕ, suc, ◌+◌, ◌*◌, ◌/◌, ◌<◌, ◌≤◌, true}
use Rattle.pm_layout.specs.declared.shape.Shape.{Shape}
use Rattle.pm_layout.specs.Chunks.{line_of_chunk, word_of_root}
use Rattle.pm_view.specs.Places.{Block, Small, Big, Root, Descr, Geometry, in_span}
use Rattle.pm_view.specs.Steps.{Step}
use Rattle.pm_view.specs.View.{View}
use Rattle.pm_world.specs.States.{State, val, there}
use Rattle.pm_world.specs.Sights.{Hold, sight_of}
use Rattle.pm_world.specs.Memory.{Memory}
use Rattle.pm_world.specs.World.{Opening, Views, Past, World, settled_words}
use Rattle.pm_world.specs.Lawful.{IsLawful}
use Rattle.pm_world.specs.Course.{past_after}

-- the line is one of the chunk's 64
pub record IsInChunk (sh : Shape) (c line : ℕ) : Type 0 where
  pub from : line_of_chunk sh c ≤ line
  pub to : line < line_of_chunk sh c + 64

-- block i of a run: as many lines as the run's class says, after the line of the bitmap and
-- the blocks before it
pub record IsInSmall (sh : Shape) (class c i line : ℕ) : Type 0 where
  pub from : line_of_chunk sh c + 1 + class * i ≤ line
  pub to : line < line_of_chunk sh c + 1 + class * suc i

-- THE LINES OF A BLOCK: of a run's block its own; of a huge block of so many chunks all lines of
-- these chunks; of the root word the line that it stands in
abbrev pub IsLineOf : Shape → Geometry → ℕ → Block → ℕ → Type 0
IsLineOf sh G chunks (Small c i) line = IsInSmall sh (G.class c) c i line
IsLineOf sh G chunks (Big f) line =
    (c : ℕ) × (in_span f chunks c ≡ true) × IsInChunk sh c line
IsLineOf sh G chunks Root line = line ≡ word_of_root sh / 8

-- how many chunks a huge block has: as its descriptor tells, and as its lane knows of its own
abbrev pub chunks_told : State → Block → ℕ
chunks_told s (Small c i) = 0
chunks_told s (Big f) = val (s (Descr f)) 8 56
chunks_told s Root = 0

abbrev pub chunks_claimed : Hold → Block → ℕ
chunks_claimed h (Small c i) = 0
chunks_claimed h (Big f) = h.span f
chunks_claimed h Root = 0

-- the block is allocated and has the line
pub record AllocatedHas (sh : Shape) (s : State) (G : Geometry) (B : Block) (line : ℕ)
    : Type 0 where
  pub allocated : there s B ≡ true
  pub has : IsLineOf sh G (chunks_told s B) B line

-- the block is the lane's own, not allocated, and has the line
pub record OwnHas (sh : Shape) (h : Hold) (G : Geometry) (B : Block) (line : ℕ) : Type 0 where
  pub mine : h.mine B ≡ true
  pub has : IsLineOf sh G (chunks_claimed h B) B line

-- the block is allocated or some lane's own, and has the line
abbrev pub HasLine : Opening → Views → Past → Block → ℕ → Type 0
HasLine o views g B line =
    AllocatedHas o.shape (settled_words o g) g.geo B line
    ⊎ ((k : ℕ) × OwnHas o.shape (sight_of (views k)).hold g.geo B line)

-- BLOCKS SHARE NO LINE: two that have one line are one block
abbrev pub LinesApart : Type 0
LinesApart = (o : Opening) (mem : Memory) (views : Views) (g : Past) → World o mem views g
    → (B C : Block) (line : ℕ) → HasLine o views g B line → HasLine o views g C line → B ≡ C

-- A RUN STAYS A RUN, whatever step a lane makes
abbrev pub RunsStay : Type 0
RunsStay = (g : Past) (v : View) (s : Step) (c : ℕ) → g.runs c ≡ true
    → (past_after g v s).runs c ≡ true

-- and its class stays, whatever lawful step a lane of a world makes
abbrev pub ClassesStay : Type 0
ClassesStay = (o : Opening) (mem : Memory) (views : Views) (g : Past) → World o mem views g
    → (k : ℕ) (s : Step) → IsLawful (views k) s → (c : ℕ) → g.runs c ≡ true
    → (past_after g (views k) s).geo.class c ≡ g.geo.class c
