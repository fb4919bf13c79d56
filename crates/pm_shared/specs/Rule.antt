-- WHAT SEATS OF THE TABLE KNOW of the world whose memory its words are: a lane's view of that world, views that the pool has to hand out or has taken
-- back, or nothing any more.
use Rattle.std.specs.Prelude.{◌≡◌, ◌≢◌, ℕ, ◌<◌, nat_le, Bool, true, ◌==◌, List, [], slice_get, Option, None, Some}
use Rattle.std.specs.List.{list_any}
use mathlib.Core.Option.{some}
use lib.ListN.{get_elem?}
use Rattle.atomic_table.specs.Table.{Me}
use Rattle.pm_layout.specs.declared.shape.Shape.{Shape}
use Rattle.pm_layout.specs.Chunks.{chunks_of, word_of_descriptor}
use Rattle.pm_record.specs.declared.redo.Op.TheVariants as op
use Rattle.pm_view.specs.Entries.{Entry}
use Rattle.pm_view.specs.Places.{Place, InRun, InHuge, Descr, RootWord}
use Rattle.pm_view.specs.Founds.{Found}
use Rattle.pm_view.specs.Steps.{Step}
use Rattle.pm_view.specs.View.{View}
use Rattle.pm_view.specs.Views.{after}
use Rattle.pm_world.specs.Lawful.{IsLawful}
use Rattle.pm_world.specs.Memory.{Memory, PoolWord, ZoneWord, bit}
use Rattle.pm_world.specs.World.{Opening, Views}

-- what a lane found in the occupancy word of a zone whose lock it holds: no bit beyond these is set, since other lanes only clear bits there
pub record Bound : Type 0 where
  pub zone : ℕ
  pub bits : ℕ

-- WHAT A SEAT KNOWS
pub data Knowledge : Type 0 where
  -- the views of lanes that are with the pool
  Pool : List View → Knowledge
  Lane : View → Option Bound → Knowledge
  -- it was taken in by another seat
  Spent : Knowledge

-- the view is the lane's in the world, and the lane is this seat's
pub record Owned (o : Opening) (views : Views) (owner : ℕ → ℕ) (id : ℕ) (v : View) : Type 0 where
  pub inside : v.fixed.lane < o.lanes
  pub view : views v.fixed.lane ≡ v
  pub owner_is : owner v.fixed.lane ≡ id

-- the pool's views are of lanes of its own, each lane once
pub record Crew (o : Opening) (views : Views) (owner : ℕ → ℕ) (id : ℕ) (vs : List View) : Type 0 where
  pub each : (n : ℕ) (v : View) → get_elem? vs n ≡ some v → Owned o views owner id v
  pub apart : (n m : ℕ) (v w : View) → get_elem? vs n ≡ some v → get_elem? vs m ≡ some w → v.fixed.lane ≡ w.fixed.lane → n ≡ m

pub record BoundHolds (mem : Memory) (v : View) (b : Bound) : Type 0 where
  pub held : list_any (λ other. other == b.zone) v.zones ≡ true
  pub within : (i : ℕ) → bit (mem (ZoneWord b.zone)) i ≡ true → bit b.bits i ≡ true

abbrev pub BoundFits : Memory → View → Option Bound → Type 0
BoundFits mem v None = Unit {0}
BoundFits mem v (Some b) = BoundHolds mem v b

abbrev pub SeatFits : Opening → Memory → Views → (ℕ → ℕ) → ℕ → Knowledge → Type 0
SeatFits o mem views owner id (Pool vs) = Crew o views owner id vs
SeatFits o mem views owner id (Lane v b) = Owned o views owner id v × BoundFits mem v b
SeatFits o mem views owner id Spent = Unit {0}

-- BESIDE THE WORLD: no chunk is told to be a run of blocks without lines, and of a run's words before its blocks no entry sets all bits
abbrev pub DescriptorsFit : Shape → Memory → Type 0
DescriptorsFit sh mem = (c : ℕ) → c < chunks_of sh → mem (PoolWord (word_of_descriptor sh c)) ≢ 1

abbrev pub is_settable : Place → Bool
is_settable (InRun c w) = nat_le 8 w
is_settable (InHuge c w) = true
is_settable (Descr c) = true
is_settable RootWord = true

abbrev pub SetsFit : List Entry → Type 0
SetsFit entries = (i : ℕ) (e : Entry) (p : Place) → slice_get entries i ≡ Some e → e.op ≡ op.Set → e.place ≡ Some p → is_settable p ≡ true

pub record Sound (o : Opening) (mem : Memory) (views : Views) : Type 0 where
  pub descriptors : DescriptorsFit o.shape mem
  pub sets : (k : ℕ) → SetsFit (views k).log.entries

-- ---- WHAT A CALL TELLS: one form for every kind of step

-- what a lane's seat knows between its calls, and that it has no slot of the table
abbrev pub lane_of : View → Me ℕ Knowledge
lane_of v = (Lane v None, [])

-- the step was made as it was answered, where r was found: the seat's view is the view after it, and the reply is what the view knew
abbrev pub Made : (ℕ → Step) → View → ℕ → Me ℕ Knowledge → Type 0
Made step v r n = (n ≡ lane_of (after v (step r))) × Found v (step r)

-- a lane's seat may make this step, whatever it finds: of the lane of this number
pub record SeatAsks (sh : Shape) (lane : ℕ) (me : Me ℕ Knowledge) (step : ℕ → Step) : Type 0 where
  pub view : View
  pub sees : me ≡ lane_of view
  pub shape : view.fixed.shape ≡ sh
  pub lane_is : view.fixed.lane ≡ lane
  pub lawful : (r : ℕ) → IsLawful view (step r)

-- and made it, with this reply
abbrev pub SeatMade : Me ℕ Knowledge → Me ℕ Knowledge → Step → Type 0
SeatMade old new s = (v : View) → old ≡ lane_of v → (new ≡ lane_of (after v s)) × Found v s
