-- WHAT THE CAUSES OF ANSWERS MEAN FOR A REPORT: by offsets and pools and by the calls of the history,
-- in place of blocks and bits.
use Rattle.std.specs.Prelude.{◌≡◌, ◌≢◌, ◌⊎◌, ℕ, ◌+◌, ◌-◌, ◌*◌, ◌<◌, ◌≤◌, nat_lt, ◌&&◌}
use Rattle.std.specs.Prelude.{Bool, true, false, All, Contains, IsSome, List, [], ◌∷◌, None, Some}
use Rattle.std.specs.Prelude.{length, zero, suc}
use Rattle.pm_header.specs.declared.header.Header.{Header}
use Rattle.pm_layout.specs.Chunks.{chunks_of}
use Rattle.pm_layout.specs.Sizes.{block_place, blocks_of}
use Rattle.pm_layout.specs.declared.shape.Shape.{Shape}
use Rattle.pm_objects.specs.Pool.{object_at}
use Rattle.pm_objects.specs.declared.pool.PoolView.{PoolView}
use Rattle.pm_image.specs.Blocks.{chunk_word}
use Rattle.pm_view.specs.declared.occ.Occ.TheVariants.{Run, Zone}
use Rattle.pm_view.specs.Claims.{class, making, run_chunk}
use Rattle.pm_view.specs.Entries.{latest, redos, turn}
use Rattle.pm_view.specs.Places.{Block, Small, Big, Root}
use Rattle.pm_view.specs.Steps.Step.{Occupied, Occupy}
use Rattle.pm_view.specs.View.{Constants, View}
use Rattle.pm_world.specs.Causes.{BusyHasCause, Causes, CountsNew, IsCall, NoObjectCause}
use Rattle.pm_world.specs.Causes.{FilledByLanes, NoSpaceHasCause, all_got, chunks_got, drawn_by}
use Rattle.pm_world.specs.Causes.{times_missed}
use Rattle.pm_world.specs.Crash.{is_kept}
use Rattle.pm_world.specs.Lanes.{in_flight}
use Rattle.pm_world.specs.Lawful.{IsLawful, is_mine}
use Rattle.pm_world.specs.Memory.{Memory, bit}
use Rattle.pm_world.specs.Moves.{Moves}
use Rattle.pm_world.specs.Opens.{IsTaken, idle_views, takes}
use Rattle.pm_world.specs.Runs.{IsRun, IsWorld, LaneStep, Moment}
use Rattle.pm_world.specs.States.{put1}
use Rattle.pm_world.specs.World.{Opening, Views, Past, World}
use Rattle.pm_crash.specs.Footprints.{Footprints, KeepsDecided}
use Rattle.pm_crash.specs.Images.{OpensPool}
use Rattle.pm_crash.specs.Replayed.{HasFacts, HoldsReplay, Replay, kept_calls, kept_pending}

-- ---- BLOCKS BY THEIR OFFSETS, in runs of these classes

-- the shape has the block: one of as many as a run of the chunk's class has, or whole chunks
abbrev pub has_block : Shape → (ℕ → ℕ) → Block → Bool
has_block sh classes (Small c i) =
    nat_lt c (chunks_of sh) && nat_lt i (blocks_of (classes c))
has_block sh classes (Big f) = nat_lt f (chunks_of sh)
has_block sh classes Root = false

-- the offset of the object that may stand in it: it lies after the 64 bytes of its header
abbrev pub offset_by : Shape → (ℕ → ℕ) → Block → ℕ
offset_by sh classes (Small c i) =
    block_place (8 * chunk_word sh.lanes c) (classes c) i + 64
offset_by sh classes (Big f) = 8 * chunk_word sh.lanes f + 64
offset_by sh classes Root = 64

-- the offset is that of this block
pub record IsOffsetOf (o : Opening) (g : Past) (off : ℕ) (B : Block) : Type 0 where
  pub is_block : has_block o.shape g.geo.class B ≡ true
  pub is_offset : offset_by o.shape g.geo.class B ≡ off

-- THE CLASSES THAT A LANE KNOWS are the history's, so the offsets that it tells by them are the blocks'
abbrev pub KnownClassesHold : Type 0
KnownClassesHold = (o : Opening) (mem : Memory) (views : Views) (g : Past) → World o mem views g
    → (k c : ℕ) → class (views k).claims c ≢ 0 → g.geo.class c ≡ class (views k).claims c

-- ---- NoObject

-- NO OBJECT STANDS AT AN OFFSET after the entries up to this number, whichever of the undecided calls
-- are kept
abbrev pub NoneStands : Opening → Past → ℕ → ℕ → Type 0
NoneStands o g number off = (keep : ℕ → Bool) → KeepsDecided g keep
    → (header : Header) (pool : PoolView) (r : HoldsReplay o g keep number header pool)
    → object_at r.last.objects off ≡ None

-- THE CAUSE OF NoObject AT AN OFFSET, in call c of a lane, whose number is 1 + c: after the entries
-- up to some number, at least that of the lane's last entry before c and below c's own, no object
-- stands there
pub record NoObjectAt (o : Opening) (g : Past) (lane c off : ℕ) : Type 0 where
  pub number : ℕ
  pub least : (p : ℕ) → p < c → drawn_by g p ≡ lane → 1 + p ≤ number
  pub below : number < 1 + c
  pub none : NoneStands o g number off

-- a block that is gone leaves no object at its offset
abbrev pub MissedIsGone : Type 0
MissedIsGone = (o : Opening) (g : Past) (lane c off : ℕ) (B : Block)
    → NoObjectCause o g lane c B → IsOffsetOf o g off B → NoObjectAt o g lane c off

-- an offset that is no block's has no object, after any number
abbrev pub NoBlockNoObject : Type 0
NoBlockNoObject = (o : Opening) (g : Past) (off : ℕ) → ((B : Block) → ¬ IsOffsetOf o g off B)
    → (number : ℕ) → NoneStands o g number off

-- the calls of the first n that are kept lead to a pool without an object at the offset
pub record LeadsWithout (g : Past) (keep : ℕ → Bool) (pool : PoolView) (n off : ℕ) : Type 0 where
  pub last : PoolView
  pub replay : Replay pool (kept_calls keep g.drew n) last (kept_pending keep g.drew n)
  pub none : object_at last.objects off ≡ None

-- OF EVERY IMAGE: the calls that it does not lose, up to the number, lead to such a pool
abbrev pub ImagesLackObject : Type 0
ImagesLackObject = (o : Opening) (views : Views) (g : Past) (header : Header) (pool : PoolView)
    (image : List ℕ)
    → Footprints o header.id views g → HasFacts g → OpensPool o header pool
    → (lane c off : ℕ) → c ≤ g.length → (cause : NoObjectAt o g lane c off)
    → LeadsWithout g (is_kept o views g image) pool cause.number off

-- ---- NoSpace

-- a zone's word has no n clear bits in a row
abbrev pub HasNoRoom : ℕ → ℕ → Type 0
HasNoRoom x n = (i : ℕ) → i + n ≤ 64 → (j : ℕ) × (i ≤ j) × (j < i + n) × (bit x j ≡ true)

-- disjoint stretches of n chunks of a zone, by their first chunks in rising order, that the pool read
-- has free
unfoldable pub Stretches : Opening → ℕ → ℕ → ℕ → List ℕ → Type 0
Stretches o zone n from [] = Unit {0}
Stretches o zone n from (i ∷ rest) = (from ≤ i) × (i + n ≤ 64)
    × ((j : ℕ) → i ≤ j → j < i + n → takes o (Big (64 * zone + j)) ≡ false)
    × Stretches o zone n (i + n) rest

-- A ZONE WITHOUT ROOM for n chunks in a row, by a word that lanes filled: the chunks that all lanes
-- got of it are at least as many as such stretches
abbrev pub FullZoneIsGot : Type 0
FullZoneIsGot = (o : Opening) (views : Views) (zone x n : ℕ) (starts : List ℕ)
    → FilledByLanes o views zone x → HasNoRoom x n → Stretches o zone n 0 starts
    → length starts ≤ all_got zone views o.lanes

-- ---- NoSpace, BY LINES OF SCRIPTS: one is what a lane does from one moment of a run to another

-- how many chunks of a zone a line of lane k got
abbrev pub got_by_line : ℕ → ℕ → Moment → Moment → ℕ
got_by_line zone k begun now =
    chunks_got zone (now.views k).claims - chunks_got zone (begun.views k).claims

-- A LINE THAT GETS NONE: of these steps of all lanes none is lane k's that gets chunks of the zone
abbrev pub GetsNone : ℕ → ℕ → List LaneStep → Type 0
GetsNone zone k turns =
    All (λ (t : LaneStep). t.lane ≡ k → (bits : ℕ) → t.step ≢ Occupy (Zone zone) bits true) turns

abbrev pub LinesGetNone : Type 0
LinesGetNone = (o : Opening) (turns : List LaneStep) (begun now : Moment)
    → IsRun o begun turns now
    → (zone k : ℕ) → GetsNone zone k turns → got_by_line zone k begun now ≡ 0

-- the moments at which a run is cut: lawful steps lead to each from the one before
unfoldable pub AreCuts : Opening → Moment → List Moment → Moment → Type 0
AreCuts o old [] new = new ≡ old
AreCuts o old (next ∷ rest) new =
    (turns : List LaneStep) × IsRun o old turns next × AreCuts o next rest new

-- how many chunks of a zone lane k's lines got, each of which ends at a cut
abbrev pub got_by_lines : ℕ → ℕ → Moment → List Moment → ℕ
got_by_lines zone k old [] = 0
got_by_lines zone k old (next ∷ rest) = got_by_line zone k old next + got_by_lines zone k next rest

-- and the lines of the first n lanes, each lane's run with its own cuts
abbrev pub got_by_all_lines : ℕ → Moment → (ℕ → List Moment) → ℕ → ℕ
got_by_all_lines zone old cuts zero = 0
got_by_all_lines zone old cuts (suc n) =
    got_by_all_lines zone old cuts n + got_by_lines zone n old (cuts n)

-- WHAT ALL OTHER LINES GOT so far, for a line of lane k: the other lanes all that they got, lane k
-- what it had got as this line began
abbrev pub got_by_others : Opening → ℕ → ℕ → Moment → Moment → ℕ
got_by_others o zone k begun now = all_got zone (put1 now.views k (begun.views k)) o.lanes

-- it is the sum of what these lines got, however each lane's run from the opening is cut in lines:
-- lane k's up to where this line began, the others' up to now
abbrev pub OthersAreLines : Type 0
OthersAreLines = (o : Opening) (fixed : ℕ → Constants) (generation : ℕ → ℕ)
    (old begun now : Moment) (cuts : ℕ → List Moment) (zone k : ℕ)
    → old.views ≡ idle_views fixed generation → AreCuts o old (cuts k) begun
    → ((j : ℕ) → j ≢ k → AreCuts o old (cuts j) now)
    → got_by_others o zone k begun now ≡ got_by_all_lines zone old cuts o.lanes

-- with what this line got it is all that the lanes got
abbrev pub OthersGetTheRest : Type 0
OthersGetTheRest = (o : Opening) (turns : List LaneStep) (begun now : Moment)
    → IsRun o begun turns now → (zone k : ℕ) → k < o.lanes
    → got_by_others o zone k begun now + got_by_line zone k begun now
    ≡ all_got zone now.views o.lanes

-- A LINE WITHOUT ROOM for n chunks in a row, in a run from an opening: it got no chunk of the zone
-- so far, and of a word of the zone that its lane saw or made no n bits in a row are clear. The
-- other lines got at least as many chunks of the zone as it had disjoint stretches of n free ones
abbrev pub LinesHaveCauses : Type 0
LinesHaveCauses = (o : Opening) (fixed : ℕ → Constants) (generation : ℕ → ℕ)
    (turns line : List LaneStep) (old begun now : Moment)
    → IsWorld o old → IsTaken o old.mem → old.past.length ≡ 0
    → old.views ≡ idle_views fixed generation
    → IsRun o old turns begun → IsRun o begun line now
    → (zone k x n : ℕ) (starts : List ℕ) → zone < o.shape.zones → k < o.lanes
    → GetsNone zone k line
    → Contains (now.views k).occupancy (record { at = Zone zone; bits = x })
    → HasNoRoom x n → Stretches o zone n 0 starts
    → length starts ≤ got_by_others o zone k begun now

-- ---- A FULL RUN, block by block

-- AN OBJECT STANDS AT AN OFFSET after all entries so far, whichever undecided calls are kept
abbrev pub ObjectStands : Opening → Past → ℕ → Type 0
ObjectStands o g off = (keep : ℕ → Bool) → KeepsDecided g keep
    → (header : Header) (pool : PoolView) (r : HoldsReplay o g keep g.length header pool)
    → IsSome (object_at r.last.objects off)

-- the lane's call in flight frees the block
abbrev pub IsFreeing : View → Block → Type 0
IsFreeing v B =
    (in_flight v.log.phase ≡ true) × (turn (latest (redos v.log.entries)) B ≡ Some false)

-- BLOCK i OF A RUN IS SOME LANE'S: its own, which it reserved or freed by a decided call; or its
-- call in flight frees it; or it makes the run
pub record IsSomeLanes (o : Opening) (views : Views) (c i : ℕ) : Type 0 where
  pub lane : ℕ
  pub runs : lane < o.lanes
  pub is : (is_mine (views lane) (Small c i) ≡ true)
      ⊎ (IsFreeing (views lane) (Small c i)
      ⊎ (making (views lane).fixed.shape (views lane).claims c ≡ true))

-- A BIT THAT A LANE FINDS SET in a run's word, of a block of the class that it knows of the run:
-- an object stands in the block, or the block is some lane's
abbrev pub FullRuns : Type 0
FullRuns = (o : Opening) (old new : Memory) (views : Views) (g : Past) (k place found i : ℕ)
    → World o old views g → k < o.lanes → IsLawful (views k) (Occupied (Run place) found)
    → Moves k (Occupied (Run place) found) old new
    → (c : ℕ) → c ≡ run_chunk o.shape place → i < blocks_of (class (views k).claims c)
    → bit found i ≡ true
    → ObjectStands o g (offset_by o.shape (class (views k).claims) (Small c i))
    ⊎ IsSomeLanes o views c i

-- the calls of the first n that are kept lead to a pool with an object at the offset
pub record LeadsWith (g : Past) (keep : ℕ → Bool) (pool : PoolView) (n off : ℕ) : Type 0 where
  pub last : PoolView
  pub replay : Replay pool (kept_calls keep g.drew n) last (kept_pending keep g.drew n)
  pub some : IsSome (object_at last.objects off)

-- OF EVERY IMAGE: the calls that it does not lose lead to a pool with the object
abbrev pub ImagesHaveObject : Type 0
ImagesHaveObject = (o : Opening) (views : Views) (g : Past) (header : Header) (pool : PoolView)
    (image : List ℕ)
    → Footprints o header.id views g → HasFacts g → OpensPool o header pool
    → (off : ℕ) → ObjectStands o g off → LeadsWith g (is_kept o views g image) pool g.length off

-- ---- EACH ANSWER HAS ITS CAUSE in a report

-- each look that missed a block, in an entry or in a call that has no number yet
abbrev pub MissesHaveCauses : Opening → Views → Past → Type 0
MissesHaveCauses o views g = (k n : ℕ) (v : View) → k < o.lanes → IsCall views g k n v
    → (B : Block) → CountsNew (times_missed o.shape B) g k n v
    → (off : ℕ) → IsOffsetOf o g off B → NoObjectAt o g k n off

pub record ReportCauses (o : Opening) (mem : Memory) (views : Views) (g : Past) : Type 0 where
  pub busy : BusyHasCause o views g
  pub no_object : MissesHaveCauses o views g
  pub no_space : NoSpaceHasCause o mem views

abbrev pub CausesBearReports : Type 0
CausesBearReports = (o : Opening) (mem : Memory) (views : Views) (g : Past)
    → Causes o mem views g → ReportCauses o mem views g

-- SO IT IS OF EVERY RUN of lawful steps, of any lanes in any order, from an opening
abbrev pub RunsHaveCauses : Type 0
RunsHaveCauses = (o : Opening) (fixed : ℕ → Constants) (generation : ℕ → ℕ)
    (turns : List LaneStep) (old new : Moment)
    → IsWorld o old → IsTaken o old.mem → old.past.length ≡ 0
    → old.views ≡ idle_views fixed generation → IsRun o old turns new
    → ReportCauses o new.mem new.views new.past
