-- Places and blocks. A word may have two uses: the first word of a chunk is a run's bitmap, or the first of a huge block's header; a place is
-- a word with its use. Chunks are numbered through all zones.
use Rattle.std.specs.Prelude.{ℕ, ◌+◌, ◌-◌, ◌*◌, ◌/◌, ◌%◌, nat_le, nat_lt, Bool, true, false, cond, ◌==◌, ◌&&◌}
use Rattle.pm_layout.specs.Areas.{page_words}
use Rattle.pm_layout.specs.declared.shape.Shape.{Shape}
use Rattle.pm_layout.specs.Chunks.{chunks_of, word_of_chunk, line_of_chunk, word_of_descriptor, word_of_root}

pub data Place : Type 0 where
  -- a word of a chunk, 0 to 511, in its use as a run's: word 0 is the bitmap
  InRun : ℕ → ℕ → Place
  -- the same in its use as a huge block's
  InHuge : ℕ → ℕ → Place
  -- the descriptor of a chunk
  Descr : ℕ → Place
  -- the word of the root's offset
  RootWord : Place

pub data Block : Type 0 where
  -- a block of a run, by the run's chunk and the block's index
  Small : ℕ → ℕ → Block
  -- a huge block, by its first chunk
  Big : ℕ → Block
  -- the root word, as a block of its own
  Root : Block

-- which chunks a huge block has, by the first of them for each chunk; and how many lines each block of a run has
pub record Geometry : Type 0 where
  pub first : ℕ → ℕ
  pub class : ℕ → ℕ

-- which block of a run of this class bit b of word w belongs to: a bit of the bitmap to its block
abbrev pub part : ℕ → ℕ → ℕ → ℕ
part cl w b = cond (w == 0) b ((w / 8 - 1) / cl)

-- the block that a place's bit belongs to
abbrev pub block_of : Geometry → Place → ℕ → Block
block_of G (InRun c w) b = Small c (part (G.class c) w b)
block_of G (InHuge c w) b = Big (G.first c)
block_of G (Descr c) b = Big (G.first c)
block_of G RootWord b = Root

-- the place and the bit that say whether a block is allocated; the root word always stands
abbrev pub place_of : Block → Place
place_of (Small c i) = InRun c 0
place_of (Big f) = Descr f
place_of Root = RootWord

abbrev pub bit_of : Block → ℕ
bit_of (Small c i) = i
bit_of (Big f) = 1
bit_of Root = 0

-- the line at which a block begins: its lock is that line's
abbrev pub header : Shape → Geometry → Block → ℕ
header sh G (Small c i) = line_of_chunk sh c + (1 + G.class c * i)
header sh G (Big f) = line_of_chunk sh f
header sh G Root = 0

-- chunk c is among the n chunks from f on
abbrev pub in_span : ℕ → ℕ → ℕ → Bool
in_span f n c = nat_le f c && nat_lt c (f + n)

-- a block's data, and not what says whether it is allocated
abbrev pub is_data : Place → Bool
is_data (InRun c w) = nat_le 8 w
is_data (InHuge c w) = true
is_data (Descr c) = false
is_data RootWord = false

-- the other use of a word
abbrev pub twin : Place → Place
twin (InRun c w) = InHuge c w
twin (InHuge c w) = InRun c w
twin (Descr c) = Descr c
twin RootWord = RootWord

abbrev pub same : Block → Block → Bool
same (Small c i) (Small d j) = (c == d) && (i == j)
same (Small c i) (Big f) = false
same (Small c i) Root = false
same (Big f) (Small c i) = false
same (Big f) (Big e) = f == e
same (Big f) Root = false
same Root (Small c i) = false
same Root (Big f) = false
same Root Root = true

abbrev pub same_place : Place → Place → Bool
same_place (InRun c w) (InRun d v) = (c == d) && (w == v)
same_place (InRun c w) (InHuge d v) = false
same_place (InRun c w) (Descr d) = false
same_place (InRun c w) RootWord = false
same_place (InHuge c w) (InRun d v) = false
same_place (InHuge c w) (InHuge d v) = (c == d) && (w == v)
same_place (InHuge c w) (Descr d) = false
same_place (InHuge c w) RootWord = false
same_place (Descr c) (InRun d v) = false
same_place (Descr c) (InHuge d v) = false
same_place (Descr c) (Descr d) = c == d
same_place (Descr c) RootWord = false
same_place RootWord (InRun d v) = false
same_place RootWord (InHuge d v) = false
same_place RootWord (Descr d) = false
same_place RootWord RootWord = true

-- the word that a place is
abbrev pub word_of : Shape → Place → ℕ
word_of sh (InRun c w) = word_of_chunk sh c + w
word_of sh (InHuge c w) = word_of_chunk sh c + w
word_of sh (Descr c) = word_of_descriptor sh c
word_of sh RootWord = word_of_root sh

-- the pool has the place
abbrev pub is_place : Shape → Place → Bool
is_place sh (InRun c w) = nat_lt c (chunks_of sh) && nat_lt w page_words
is_place sh (InHuge c w) = nat_lt c (chunks_of sh) && nat_lt w page_words
is_place sh (Descr c) = nat_lt c (chunks_of sh)
is_place sh RootWord = true

-- the place so many words after another, of the same use: a huge block's words go on in its next chunk
abbrev pub place_after : Place → ℕ → Place
place_after (InRun c w) n = InRun c (w + n)
place_after (InHuge c w) n = InHuge (c + (w + n) / page_words) ((w + n) % page_words)
place_after (Descr c) n = Descr (c + n)
place_after RootWord n = RootWord

-- how many words one place is after another: none where it is before it, or elsewhere
abbrev pub is_after : Place → Place → Bool
is_after (InRun c w) (InRun d v) = (c == d) && nat_le w v
is_after (InHuge c w) (InHuge d v) = nat_lt v page_words && nat_le (page_words * c + w) (page_words * d + v)
is_after RootWord RootWord = true
is_after p q = false

abbrev pub distance : Place → Place → ℕ
distance (InRun c w) (InRun d v) = v - w
distance (InHuge c w) (InHuge d v) = (page_words * d + v) - (page_words * c + w)
distance p q = 0
