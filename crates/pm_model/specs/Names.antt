-- A state read name by name, and which names a call reads and writes.
use Rattle.std.specs.Prelude.{ℕ, ◌==◌, ◌&&◌, ◌||◌, not, Bool, true, false, List, Option}
use Rattle.std.specs.List.{list_any}
use Rattle.pm_objects.specs.declared.calls.Want.{Want}
use Rattle.pm_model.specs.Items.{Item, is_root}
use Rattle.pm_model.specs.Blocks.{Block, are_covered, item_covers}
use Rattle.pm_model.specs.Pending.{Pending}
use Rattle.pm_model.specs.Parts.{Parts}
use Rattle.pm_model.specs.CallStep.{CallRun, CallStep, State}
use Rattle.pm_model.specs.Framed.{IsFramed, AreApart, AreAllApart, Follows}

pub data Name : Type 0 where
  -- what no call changes: the pool's id, layout name and shape
  Fixed : Name
  -- the root's offset
  RootWord : Name
  -- what stands at an offset, with the list that it is in, and whether it is the root
  ObjectAt : ℕ → Name
  -- whose block has the line
  LineAt : ℕ → Name
  -- what a lane has pending
  PendingOf : ℕ → Name

pub data Content : Type 0 where
  FixedIs : ℕ → List ℕ → ℕ → ℕ → Content
  RootIs : Option ℕ → Content
  ObjectIs : Option Item → Bool → Content
  LineIs : (ℕ → Bool) → Content
  PendingIs : Pending → Content

-- what a state has under a name
abbrev pub content : State → Name → Content
content s Fixed = FixedIs s.pool.id s.pool.name s.pool.lanes s.pool.zones
content s RootWord = RootIs s.pool.root
content s (ObjectAt off) = ObjectIs (s.pool.items off) (is_root s.pool.root off)
content s (LineAt l) = LineIs (λ off. item_covers off (s.pool.items off) l)
content s (PendingOf lane) = PendingIs (s.pending lane)

-- the call locks the object at the offset, for writing if so asked
abbrev pub locks_object : Parts → ℕ → Bool → Bool
locks_object p off write =
    list_any (λ (want : Want). want.id.off == off && (want.write || not write)) p.locks

-- a block of its parts is that of an object at the offset
abbrev pub has_block : Parts → ℕ → Bool
has_block p off = list_any (λ (b : Block). b.off == off) p.blocks

-- the written part: what it locks for writing, the root word, its blocks with the objects there,
-- and its lane's pending list
abbrev pub writes : CallRun → Name → Bool
writes run Fixed = false
writes run RootWord = run.parts.writes_root
writes run (ObjectAt off) = locks_object run.parts off true || has_block run.parts off
writes run (LineAt l) = are_covered run.parts.blocks l
writes run (PendingOf lane) = lane == run.lane

-- the written and the read part
abbrev pub touches : CallRun → Name → Bool
touches run Fixed = true
touches run RootWord = run.parts.writes_root || run.parts.reads_root
touches run (ObjectAt off) = locks_object run.parts off false || has_block run.parts off
touches run (LineAt l) = are_covered run.parts.blocks l
touches run (PendingOf lane) = lane == run.lane

-- a call reads and changes its parts alone
abbrev pub IsFramedCall : CallRun → Type 0
IsFramedCall run = IsFramed content CallStep writes touches run

-- neither call's written part meets a part of the other
abbrev pub Apart : CallRun → CallRun → Type 0
Apart a b = AreApart writes touches a b

abbrev pub ApartFromAll : CallRun → List CallRun → Type 0
ApartFromAll a calls = AreAllApart writes touches a calls

-- the state after the calls, one whole call after another
abbrev pub Replays : State → List CallRun → State → Type 0
Replays s calls t = Follows CallStep s calls t
