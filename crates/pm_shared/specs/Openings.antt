-- HOW THE TABLE BEGINS: the words that lanes share, and what the pool's seat knows: each lane's view, of which nothing was asked.
use Rattle.std.specs.Prelude.{◌≡◌, ℕ, zero, suc, ◌+◌, ◌-◌, ◌/◌, ◌^◌, ◌<◌, ◌≤◌, true, List, [], ◌∷◌, ◌++◌, length, replicate, slice_index, slice_index_or, None}
use Rattle.pm_layout.specs.Areas.{page_words, word_of_generation}
use Rattle.pm_layout.specs.Chunks.{words_of}
use Rattle.pm_layout.specs.declared.shape.Shape.{Shape}
use Rattle.pm_image.specs.HeapFaults.{heap_fault}
use Rattle.pm_view.specs.Places.{Block}
use Rattle.pm_view.specs.View.{View, Constants, idle}
use Rattle.pm_world.specs.Lanes.{is_occupancy}
use Rattle.pm_world.specs.Memory.{occupancy_bit}
use Rattle.pm_world.specs.Opens.{IsRetired, takes}
use Rattle.pm_world.specs.World.{Opening}
use Rattle.atomic_table.specs.Table.{Me}
use Rattle.pm_shared.specs.Rule.{Knowledge, Pool, Lane, Spent}
use Rattle.pm_shared.specs.declared.rule.Beginning.{Beginning}

-- the pool's recovered words, on which so many lanes run
abbrev pub pool_opening : Shape → ℕ → List ℕ → Opening
pool_opening shape lanes words = record { shape = shape; lanes = lanes; words = words }

abbrev pub opening_of : Beginning → Opening
opening_of b = pool_opening b.shape b.lanes b.words.items

-- what stays of a lane, and the generation that its log goes on with
abbrev pub fixed_of : Beginning → ℕ → Constants
fixed_of b lane = record { shape = b.shape; pool = b.pool; lane = lane; stop = slice_index_or b.stops lane None; lanes = b.lanes }

abbrev pub generation_of : Beginning → ℕ → ℕ
generation_of b lane = slice_index b.words.items (word_of_generation b.shape lane)

abbrev pub idle_view : Beginning → ℕ → View
idle_view b lane = idle (fixed_of b lane) (generation_of b lane)

-- the views of so many lanes, from this one on
abbrev pub idle_from : Beginning → ℕ → ℕ → List View
idle_from b lane zero = []
idle_from b lane (suc n) = idle_view b lane ∷ idle_from b (suc lane) n

abbrev pub first_known : Beginning → Knowledge
first_known b = Pool (idle_from b 0 b.lanes)

-- THE OCCUPANCY WORDS, one a page and one a zone, are what the opening's words take
pub record OccupancyFits (o : Opening) (runs zones : List ℕ) : Type 0 where
  pub pages : length runs ≡ words_of o.shape / page_words
  pub zone_count : length zones ≡ o.shape.zones
  pub taken : (a : Block) → is_occupancy o.shape a ≡ true → occupancy_bit o.shape (slice_index runs) (slice_index zones) a ≡ takes o a

-- lanes may begin on these words: they are recovered, nothing of the heap is wrong, each log is retired, and the occupancy words are what the words take
pub record CanBegin (b : Beginning) : Type 0 where
  pub some_lanes : 1 ≤ b.lanes
  pub most_lanes : b.lanes ≤ b.shape.lanes
  pub size : length b.words.items ≡ words_of b.shape
  pub small : (w : ℕ) → slice_index b.words.items w < 2 ^ 64
  pub whole : heap_fault (slice_index b.words.items) b.shape.lanes b.shape.zones ≡ None
  pub retired : (lane : ℕ) → lane < b.shape.lanes → IsRetired (opening_of b) lane (generation_of b lane)
  pub occupancy : OccupancyFits (opening_of b) b.runs.items b.zones.items

-- the words of the table: those of the pool, no lock held, the occupancy words, no zone's lock held, no number drawn, no lane stopped
abbrev pub table_words : Beginning → List ℕ
table_words b = b.words.items ++ (replicate (words_of b.shape / 8) 0 ++ (b.runs.items ++ (b.zones.items ++ replicate (b.shape.zones + 2 + b.shape.lanes) 0)))

-- ---- LANES ARE HANDED OUT in their order, and come back

-- lanes from `next` on are with the pool, and these came back
abbrev pub pool_with : List View → Me ℕ Knowledge
pool_with views = (Pool views, [])

abbrev pub pool_of : Beginning → ℕ → List View → Me ℕ Knowledge
pool_of b next back = pool_with (idle_from b next (b.lanes - next) ++ back)

-- the pool's seat without its first lane, and the first lane's seat
abbrev pub rest_of : Knowledge → Knowledge
rest_of (Pool []) = Pool []
rest_of (Pool (v ∷ vs)) = Pool vs
rest_of (Lane v b) = Lane v b
rest_of Spent = Spent

abbrev pub handed_out : Knowledge → Knowledge
handed_out (Pool []) = Spent
handed_out (Pool (v ∷ vs)) = Lane v None
handed_out (Lane v b) = Spent
handed_out Spent = Spent

-- the pool's seat with a lane that came back
abbrev pub taken_back : Knowledge → Knowledge → Knowledge
taken_back (Pool vs) (Lane v b) = Pool (vs ++ v ∷ [])
taken_back (Pool vs) (Pool ws) = Pool vs
taken_back (Pool vs) Spent = Pool vs
taken_back (Lane v b) other = Lane v b
taken_back Spent other = Spent

abbrev pub no_one : Knowledge
no_one = Spent
