-- THE WORDS THAT BITS AT PLACES SPELL, as far as a meaning reads them. A chunk in which a block of a
-- run is allocated is a run; its class, the lines of a block, stands in no bit of a state and is
-- given beside it. A run without blocks holds nothing, so it is spelled as a free chunk.
use Rattle.std.specs.Prelude.{ℕ, ◌+◌, ◌*◌, Bool, cond}
use Rattle.std.specs.List.{list_any, range_with_len}
use Rattle.pm_layout.specs.declared.shape.Shape.{Shape}
use Rattle.pm_header.specs.declared.header.Header.{Header}
use Rattle.pm_objects.specs.declared.pool.PoolView.{PoolView}
use Rattle.pm_view.specs.Places.{Place, InRun, InHuge, Descr, RootWord}
use Rattle.pm_view.specs.Parts.{Part, RootPart, DescriptorPart, ChunkPart, pool_part}
use Rattle.pm_world.specs.States.{State, Word, val}
use Rattle.pm_crash.specs.Held.{HoldsPool}

-- some block of a run is allocated in the chunk
abbrev pub has_blocks : State → ℕ → Bool
has_blocks s c = list_any (s (InRun c 0)) (range_with_len 0 64)

-- the number that the bits of a word spell
abbrev pub number : Word → ℕ
number w = val w 0 64

-- the use that a word of a chunk has
abbrev pub use_in : State → ℕ → ℕ → Place
use_in s c w = cond (has_blocks s c) (InRun c w) (InHuge c w)

-- the descriptor of a chunk: a run's, that of the first chunk of a huge block, or 0
abbrev pub descriptor_by : (ℕ → ℕ) → State → ℕ → ℕ
descriptor_by class s c =
    cond (has_blocks s c) (1 + 256 * class c) (cond (s (Descr c) 1) (number (s (Descr c))) 0)

abbrev pub word_by : (ℕ → ℕ) → State → Part → ℕ
word_by class s RootPart = number (s RootWord)
word_by class s (DescriptorPart c) = descriptor_by class s c
word_by class s (ChunkPart c w) = number (s (use_in s c w))
word_by class s part = 0

abbrev pub words_by : Shape → (ℕ → ℕ) → State → ℕ → ℕ
words_by sh class s i = word_by class s (pool_part sh i)

-- THE BITS HOLD A POOL, under a header: the words that they spell do
abbrev pub Holds : Shape → (ℕ → ℕ) → State → Header → PoolView → Type 0
Holds sh class s header pool = HoldsPool (words_by sh class s) sh.lanes sh.zones header pool
