-- A LANE AT WORK, block by block: the blocks that it has before it, where they lie, the words as it
-- reads them, and the items that stand there. Each thing that it does to one block is one edit.
use Rattle.std.specs.Prelude.{◌≡◌, ◌≢◌, ◌⊎◌, ℕ, ◌+◌, ◌*◌, ◌%◌, ◌≤◌, Bool, true, List, length, map, take, drop, Some}
use Rattle.pm_words.specs.Words.{AreBytes, bytes_of}
use Rattle.pm_header.specs.declared.header.Header.{Header}
use Rattle.pm_layout.specs.declared.shape.Shape.{Shape}
use Rattle.pm_objects.specs.declared.pool.PoolView.{PoolView}
use Rattle.pm_image.specs.declared.block.Block.{Block as Lines}
use Rattle.pm_image.specs.Contents.{data_words, offset_in, size_in}
use Rattle.pm_image.specs.Reads.{AgreeOn, ReadsBlock}
use Rattle.pm_model.specs.Items.{Item, Items, bytes_at, edited, freed_item, made_item, plain_pool, put_into}
use Rattle.pm_model.specs.Transaction.{covered_words}
use Rattle.pm_view.specs.Places.{Block}
use Rattle.pm_world.specs.States.{State}
use Rattle.pm_crash.specs.Objects.{is_allocated, item_in, lines_of}
use Rattle.pm_crash.specs.Spelled.{Holds, words_by}
use Rattle.pm_crash.specs.Writes.{IsWritten}

-- no line of one is the other's
abbrev pub AreApart : Lines → Lines → Type 0
AreApart b c = (b.place + 64 * b.lines ≤ c.place) ⊎ (c.place + 64 * c.lines ≤ b.place)

pub record IsScene (among : Block → Bool) (at : Block → Lines) (w : ℕ → ℕ) (items : Items)
    : Type 0 where
  pub begins : (B : Block) → among B ≡ true → (at B).place % 8 ≡ 0
  pub fits : (B : Block) → among B ≡ true
      → 8 + data_words (size_in w (at B)) ≤ 8 * (at B).lines
  pub apart : (B C : Block) → among B ≡ true → among C ≡ true
      → (B ≡ C) ⊎ AreApart (at B) (at C)
  -- in each block stands its item, and no item but in these
  pub has : (B : Block) → among B ≡ true → items (offset_in (at B)) ≡ Some (item_in w (at B))
  pub only : (off : ℕ) (item : Item) → items off ≡ Some item
      → (B : Block) × (among B ≡ true) × (off ≡ offset_in (at B))

-- BITS THAT HOLD A POOL are one
abbrev pub ScenesBegin : Type 0
ScenesBegin = (sh : Shape) (class : ℕ → ℕ) (s : State) (header : Header) (pool : PoolView)
    → Holds sh class s header pool
    → IsScene (is_allocated sh s) (lines_of sh class s) (words_by sh class s) (plain_pool pool).items

-- A READ finds the bytes of the item
abbrev pub ScenesAreRead : Type 0
ScenesAreRead = (among : Block → Bool) (at : Block → Lines) (w : ℕ → ℕ) (items : Items)
    → IsScene among at w items → (B : Block) (from len : ℕ) → among B ≡ true
    → from + len ≤ size_in w (at B)
    → bytes_at from len (item_in w (at B)).bytes
    ≡ take len (drop (from % 8) (bytes_of (map w (covered_words (offset_in (at B) + from) len))))

-- A WRITE inside a block puts bytes into its item
abbrev pub ScenesAreWritten : Type 0
ScenesAreWritten = (among : Block → Bool) (at : Block → Lines) (w v : ℕ → ℕ) (items : Items)
    → IsScene among at w items → (B : Block) (from : ℕ) (bytes : List ℕ) → among B ≡ true
    → from + length bytes ≤ size_in w (at B) → AreBytes bytes
    → IsWritten w v (offset_in (at B) + from) bytes
    → IsScene among at v (edited (put_into (offset_in (at B)) from bytes) items)

-- A BLOCK THAT GOES takes its item with it
pub record IsWithout (among left : Block → Bool) (B : Block) : Type 0 where
  pub gone : left B ≡ true → ⊥
  pub from : (C : Block) → left C ≡ true → among C ≡ true
  pub stay : (C : Block) → among C ≡ true → C ≢ B → left C ≡ true

abbrev pub ScenesLoseBlocks : Type 0
ScenesLoseBlocks = (among left : Block → Bool) (at : Block → Lines) (w : ℕ → ℕ) (items : Items)
    → IsScene among at w items → (B : Block) → among B ≡ true → IsWithout among left B
    → IsScene left at w (edited (freed_item (offset_in (at B))) items)

-- A BLOCK THAT COMES, where none is, brings what stands in it
pub record IsWith (among more : Block → Bool) (at : Block → Lines) (w v : ℕ → ℕ) (B : Block)
    : Type 0 where
  pub comes : more B ≡ true
  pub from : (C : Block) → more C ≡ true → (C ≡ B) ⊎ (among C ≡ true)
  pub stay : (C : Block) → among C ≡ true → more C ≡ true
  pub begins : (at B).place % 8 ≡ 0
  pub fits : 8 + data_words (size_in v (at B)) ≤ 8 * (at B).lines
  pub apart : (C : Block) → among C ≡ true → AreApart (at B) (at C)
  -- the words of the others stay
  pub others : (C : Block) → among C ≡ true → AgreeOn (ReadsBlock w (at C)) w v

abbrev pub ScenesGainBlocks : Type 0
ScenesGainBlocks = (among more : Block → Bool) (at : Block → Lines) (w v : ℕ → ℕ) (items : Items)
    → IsScene among at w items → (B : Block) → IsWith among more at w v B
    → IsScene more at v (edited (made_item (offset_in (at B)) (item_in v (at B))) items)

-- AT THE END the items are those of the pool that bits hold, where the blocks are the bits' and have
-- their words
pub record EndsIn (sh : Shape) (class : ℕ → ℕ) (s : State) (among : Block → Bool)
    (at : Block → Lines) (w : ℕ → ℕ) : Type 0 where
  pub blocks : (B : Block) → among B ≡ is_allocated sh s B
  pub places : (B : Block) → among B ≡ true → at B ≡ lines_of sh class s B
  pub words : (B : Block) → among B ≡ true → AgreeOn (ReadsBlock w (at B)) w (words_by sh class s)

abbrev pub ScenesEnd : Type 0
ScenesEnd = (sh : Shape) (class : ℕ → ℕ) (s : State) (header : Header) (pool : PoolView)
    (among : Block → Bool) (at : Block → Lines) (w : ℕ → ℕ) (items : Items)
    → Holds sh class s header pool → IsScene among at w items → EndsIn sh class s among at w
    → (off : ℕ) → (plain_pool pool).items off ≡ items off
