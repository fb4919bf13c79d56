-- THE RULE OF THE TABLE: its words are the memory of a world, to which lawful steps of its lanes
-- led from the moment in which they began; and what each seat knows is so of that world.
use Rattle.std.specs.Prelude.{◌≡◌, ℕ, length}
use mathlib.Core.Option.{some}
use lib.ListN.{get_elem?}
use Rattle.atomic_table.specs.Table.{State, Me, Allows}
use Rattle.pm_world.specs.World.{Views, Past, World}
use Rattle.pm_shared.specs.declared.rule.Beginning.{Beginning}
use Rattle.pm_shared.specs.Openings.{idle_view, opening_of}
use Rattle.pm_shared.specs.Placing.{table_size, memory_of}
use Rattle.pm_shared.specs.Rule.{Knowledge, SeatFits, Sound}
use Rattle.pm_shared.specs.TableRun.{HasRun, moment}

-- THE RULE of a table that begins so. A lane's seat is named by `owner`, so that seats that come
-- and go change nothing of the others
pub record Ruled (b : Beginning) (s : State ℕ Knowledge) : Type 0 where
  pub views : Views
  pub owner : ℕ → ℕ
  pub past : Past
  pub size : length s.words ≡ table_size b.shape
  pub world : World (opening_of b) (memory_of b.shape s.words) views past
  pub run : HasRun (opening_of b) (idle_view b) (moment (memory_of b.shape s.words) views past)
  pub sound : Sound (opening_of b) (memory_of b.shape s.words) views
  pub seats : (id : ℕ) (w : Knowledge) → get_elem? s.views id ≡ some w
      → SeatFits (opening_of b) (memory_of b.shape s.words) views owner id w

-- what a call of the table asks: whatever the table is, the rule is kept, and what the call tells
-- is so
abbrev pub TableAllows : Beginning → ℕ → Me ℕ Knowledge → ℕ → (ℕ → ℕ)
    → (ℕ → Me ℕ Knowledge → Type 0) → Type 0
TableAllows b id me word becomes told = Allows (Ruled b) 0 id me word becomes told
