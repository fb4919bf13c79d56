-- What a lane has taken, found, learned and given up: a list, the latest first, and what follows from it of each line, block, chunk and word.
use Rattle.std.specs.Prelude.{ℕ, zero, suc, ◌+◌, ◌-◌, ◌*◌, ◌/◌, ◌%◌, nat_lt, Bool, true, false, cond, not, ◌==◌, ◌&&◌, ◌||◌, List, [], ◌∷◌, Option, None, Some}
use Rattle.pm_layout.specs.Areas.{page_bytes}
use Rattle.std.specs.Int.{bit_at}
use Rattle.pm_layout.specs.declared.shape.Shape.{Shape}
use Rattle.pm_layout.specs.Sizes.{blocks_of}
use Rattle.pm_layout.specs.Chunks.{chunk_at, word_of_descriptor, word_of_root}
use Rattle.pm_view.specs.declared.occ.Occ.{Occ}
use Rattle.pm_view.specs.declared.occ.Occ.TheVariants.{Run, Zone}
use Rattle.pm_view.specs.Changes.{Undrained, is_dirty}
use Rattle.pm_view.specs.Places.{Place, InRun, InHuge, Descr, RootWord, Block, Small, Big, Root, Geometry, block_of, header, in_span, is_data}
use Rattle.pm_view.specs.Entries.{Redo, latest, turn}
use Rattle.pm_view.specs.Log.{place_at}

pub data Claim : Type 0 where
  -- the lock of a line was taken, for writing or for reading alone; raised from reading to writing; given back
  Took : ℕ → Bool → Claim
  Raised : ℕ → Claim
  Gave : ℕ → Claim
  -- a chunk's descriptor, a chunk's bitmap, was loaded with this value
  SawDescriptor : ℕ → ℕ → Claim
  SawBitmap : ℕ → ℕ → Claim
  -- bits of an occupancy word were set, and were cleared
  Reserved : Occ → ℕ → Claim
  Released : Occ → ℕ → Claim
  -- the descriptor of a run of this class was stored for a chunk
  Marked : ℕ → ℕ → Claim
  -- a drain left these changes
  Drained : List Undrained → Claim
  -- the call with these entries was decided
  Decided : List Redo → Claim
  -- the word has this value
  Knows : ℕ → ℕ → Claim

-- ---- numbers

-- a descriptor is that of a run, or of the first chunk of a huge block; the rest says of how many lines or chunks
abbrev pub is_run : ℕ → Bool
is_run descriptor = descriptor % 256 == 1

abbrev pub is_huge : ℕ → Bool
is_huge descriptor = descriptor % 256 == 2

-- the least set bit among the first n, and how many of them are set
abbrev pub lowest : ℕ → ℕ → ℕ
lowest zero w = 0
lowest (suc n) w = cond (w % 2 == 1) 0 (suc (lowest n (w / 2)))

abbrev pub ones : ℕ → ℕ → ℕ
ones zero w = 0
ones (suc n) w = w % 2 + ones n (w / 2)

-- the chunk of a run's occupancy word
abbrev pub run_chunk : Shape → ℕ → ℕ
run_chunk sh place = chunk_at sh (place / page_bytes)

-- the block that bits of an occupancy word are, where they are one's
abbrev pub is_block_of : Shape → Occ → ℕ → Block → Bool
is_block_of sh (Run place) bits (Small c i) = (c == run_chunk sh place) && (bit_at bits i == 1)
is_block_of sh (Zone zone) bits (Big f) = f == 64 * zone + lowest 64 bits
is_block_of sh at bits B = false

-- the bits are of this block, among others
abbrev pub is_among : Shape → Occ → ℕ → Block → Bool
is_among sh (Run place) bits (Small c i) = (c == run_chunk sh place) && (bit_at bits i == 1)
is_among sh (Zone zone) bits (Big f) = (f / 64 == zone) && (bit_at bits (f % 64) == 1)
is_among sh at bits B = false

-- ---- locks

abbrev pub locked : List Claim → ℕ → Bool
locked [] l = false
locked (Took m w ∷ t) l = (w && (m == l)) || locked t l
locked (Raised m ∷ t) l = (m == l) || locked t l
locked (Gave m ∷ t) l = not (m == l) && locked t l
locked (c ∷ t) l = locked t l

abbrev pub reads : List Claim → ℕ → Bool
reads [] l = false
reads (Took m w ∷ t) l = (not w && (m == l)) || reads t l
reads (Raised m ∷ t) l = not (m == l) && reads t l
reads (Gave m ∷ t) l = not (m == l) && reads t l
reads (c ∷ t) l = reads t l

abbrev pub holds : List Claim → ℕ → Bool
holds t l = locked t l || reads t l

-- ---- runs: the class of a chunk that the lane saw to be a run, or makes one; else 0

abbrev pub class : List Claim → ℕ → ℕ
class [] c = 0
class (SawDescriptor d x ∷ t) c = cond ((d == c) && is_run x) (x / 256) (class t c)
class (Marked d cl ∷ t) c = cond (d == c) cl (class t c)
class (e ∷ t) c = class t c

-- the chunks whose descriptor the lane stored, and did not drain
abbrev pub making : Shape → List Claim → ℕ → Bool
making sh [] c = false
making sh (Marked d cl ∷ t) c = (d == c) || making sh t c
making sh (Drained left ∷ t) c = is_dirty left (word_of_descriptor sh c) && making sh t c
making sh (e ∷ t) c = making sh t c

-- a chunk that a drain with these changes left makes a run
abbrev pub becomes : Shape → List Undrained → List Claim → ℕ → Bool
becomes sh left t c = making sh t c && not (is_dirty left (word_of_descriptor sh c))

-- ---- blocks

-- the line of a block's header, as the lane knows the run's class
abbrev pub header_in : Shape → List Claim → Block → ℕ
header_in sh t B = header sh (record { first = λ c. c; class = class t }) B

-- a load of a bitmap, of a descriptor, shows that a block is allocated whose lock the lane holds
abbrev pub shown_by_bitmap : Shape → List Claim → ℕ → ℕ → Block → Bool
shown_by_bitmap sh t c x (Small d i) = (d == c) && ((bit_at x i == 1) && (not (class t d == 0) && holds t (header_in sh t (Small d i))))
shown_by_bitmap sh t c x B = false

abbrev pub shown_by_descriptor : Shape → List Claim → ℕ → ℕ → Block → Bool
shown_by_descriptor sh t c x (Big f) = (f == c) && (is_huge x && holds t (header_in sh t (Big f)))
shown_by_descriptor sh t c x B = false

-- a block that the call allocates is found by its lane, one that it frees no more
abbrev pub found_after : Option Bool → Bool → Bool
found_after None f = f
found_after (Some made) f = made

-- a block that the call allocates is reserved no more, one that it frees is the lane's own
abbrev pub mine_after : Option Bool → Bool → Bool
mine_after None m = m
mine_after (Some made) m = not made

-- THE BLOCKS THAT THE LANE FOUND: allocated, seen so under a lock that the lane holds since
abbrev pub found : Shape → List Claim → Block → Bool
found sh [] B = false
found sh (Gave m ∷ t) B = not (m == header_in sh t B) && found sh t B
found sh (SawDescriptor c x ∷ t) B = shown_by_descriptor sh t c x B || found sh t B
found sh (SawBitmap c x ∷ t) B = shown_by_bitmap sh t c x B || found sh t B
found sh (Decided es ∷ t) B = found_after (turn (latest es) B) (found sh t B)
found sh (e ∷ t) B = found sh t B

-- so, and its lock is held for writing
abbrev pub here : Shape → List Claim → Block → Bool
here sh t B = found sh t B && locked t (header_in sh t B)

-- THE BLOCKS THAT ARE THE LANE'S OWN: it has the occupancy bits, and they are not allocated: reserved, or freed by a decided call
abbrev pub mine : Shape → List Claim → Block → Bool
mine sh [] B = false
mine sh (Reserved at bits ∷ t) B = is_block_of sh at bits B || mine sh t B
mine sh (Released at bits ∷ t) B = not (is_among sh at bits B) && mine sh t B
mine sh (Drained left ∷ t) (Small c i) = (becomes sh left t c && nat_lt i (blocks_of (class t c))) || mine sh t (Small c i)
mine sh (Drained left ∷ t) (Big c) = not (becomes sh left t c) && mine sh t (Big c)
mine sh (Drained left ∷ t) Root = mine sh t Root
mine sh (Decided es ∷ t) B = mine_after (turn (latest es) B) (mine sh t B)
mine sh (e ∷ t) B = mine sh t B

-- how many chunks a huge block has that the lane reserved or found
abbrev pub span : Shape → List Claim → ℕ → ℕ
span sh [] f = 0
span sh (Reserved at bits ∷ t) f = cond (is_block_of sh at bits (Big f)) (ones 64 bits) (span sh t f)
span sh (SawDescriptor c x ∷ t) f = cond (shown_by_descriptor sh t c x (Big f) && not (found sh t (Big f))) (x / 256) (span sh t f)
span sh (e ∷ t) f = span sh t f

-- the first chunk of the huge block, reserved or found, that a chunk is in; the latest that has it
abbrev pub first_by : Occ → ℕ → ℕ → ℕ → ℕ
first_by (Run place) bits c f = f
first_by (Zone zone) bits c f = cond ((c / 64 == zone) && (bit_at bits (c % 64) == 1)) (64 * zone + lowest 64 bits) f

abbrev pub last_first : Shape → List Claim → ℕ → ℕ
last_first sh [] c = c
last_first sh (Reserved at bits ∷ t) c = first_by at bits c (last_first sh t c)
last_first sh (SawDescriptor d x ∷ t) c = cond (shown_by_descriptor sh t d x (Big d) && in_span d (x / 256) c) d (last_first sh t c)
last_first sh (e ∷ t) c = last_first sh t c

-- the same, where the block still has the chunk: one reserved again may have fewer
abbrev pub within_span : Shape → List Claim → ℕ → ℕ → ℕ
within_span sh t f c = cond (in_span f (span sh t f) c) f c

abbrev pub first : Shape → List Claim → ℕ → ℕ
first sh t c = within_span sh t (last_first sh t c) c

-- what the lane knows of which blocks words are in
abbrev pub geometry : Shape → List Claim → Geometry
geometry sh t = record { first = first sh t; class = class t }

-- the block that a word's bit belongs to, as the lane knows
abbrev pub block_in : Shape → List Claim → Option Place → ℕ → Option Block
block_in sh t None b = None
block_in sh t (Some p) b = Some (block_of (geometry sh t) p b)

abbrev pub block_at : Shape → List Claim → ℕ → Option Block
block_at sh t w = block_in sh t (place_at sh (class t) w) 64

-- a test of a block, if there is one
abbrev pub passes : (Block → Bool) → Option Block → Bool
passes P None = false
passes P (Some B) = P B

-- ---- words

-- a word that comes to be the lane's own, or under its lock, is not known
abbrev pub is_new_by : Shape → List Claim → Occ → ℕ → ℕ → Bool
is_new_by sh t at bits w = passes (λ B. is_block_of sh at bits B && not (mine sh t B)) (block_at sh (Reserved at bits ∷ t) w)

abbrev pub is_new : (Block → Bool) → (Block → Bool) → Option Block → Bool
is_new shown before B = passes (λ C. shown C && not (before C)) B

-- WHAT THE LANE LAST SAW OR MADE OF A WORD since it has it
abbrev pub pictured : Shape → List Claim → ℕ → Option ℕ
pictured sh [] w = None
pictured sh (Knows v x ∷ t) w = cond (v == w) (Some x) (pictured sh t w)
pictured sh (Took m write ∷ t) w = cond ((m == 0) && (w == word_of_root sh)) None (pictured sh t w)
pictured sh (Reserved at bits ∷ t) w = cond (is_new_by sh t at bits w) None (pictured sh t w)
pictured sh (SawDescriptor c x ∷ t) w = cond (is_new (shown_by_descriptor sh t c x) (found sh t) (block_at sh (SawDescriptor c x ∷ t) w)) None (pictured sh t w)
pictured sh (SawBitmap c x ∷ t) w = cond (is_new (shown_by_bitmap sh t c x) (found sh t) (block_at sh t w)) None (pictured sh t w)
pictured sh (e ∷ t) w = pictured sh t w

-- THE RIGHTS OF THE LANE, block by block: its own blocks, those found under its lock for writing, those of a chunk that it makes a run
abbrev pub making_of : (ℕ → Bool) → Block → Bool
making_of made (Small c i) = made c
making_of made (Big f) = false
making_of made Root = false

-- the word is data of a block that the lane has, or found
abbrev pub is_held_at : Shape → List Claim → Option Place → Bool
is_held_at sh t None = false
is_held_at sh t (Some p) = is_data p && (mine sh t (block_of (geometry sh t) p 64) || found sh t (block_of (geometry sh t) p 64))

-- so it is; or it is the root word, and the lane has line 0's lock
abbrev pub is_held : Shape → List Claim → ℕ → Bool
is_held sh t w = is_held_at sh t (place_at sh (class t) w) || ((w == word_of_root sh) && holds t 0)

-- THE VALUE THAT THE LANE KNOWS of a word: of one that it has, or of any where it runs with no other
abbrev pub known : Shape → Bool → List Claim → ℕ → Option ℕ
known sh one t w = cond (one || is_held sh t w) (pictured sh t w) None
