-- BYTES THAT ARE READ AND WRITTEN in the words of a pool. Word i has the bytes from place 8 * i on;
-- `w` gives words by their number before, and `v` after.
use Rattle.std.specs.Prelude.{◌≡◌, ℕ, ◌+◌, ◌-◌, ◌*◌, ◌%◌, ◌≤◌, true, false, List, length, map, take, drop, Contains, Some}
use Rattle.pm_words.specs.Words.{AreBytes, bytes_of, patched}
use Rattle.pm_header.specs.declared.header.Header.{Header}
use Rattle.pm_layout.specs.declared.shape.Shape.{Shape}
use Rattle.pm_objects.specs.declared.pool.PoolView.{PoolView}
use Rattle.pm_image.specs.Contents.{size_in}
use Rattle.pm_model.specs.Items.{Item, Items, bytes_at, edited, plain_pool, put_into}
use Rattle.pm_model.specs.Transaction.{covered_words}
use Rattle.pm_view.specs.Entries.{turn}
use Rattle.pm_view.specs.Places.{Block}
use Rattle.pm_world.specs.States.{State, Diff, after_diff, given}
use Rattle.pm_crash.specs.HeapChanges.{ChangesHeap}
use Rattle.pm_crash.specs.Objects.{StandsIn, is_allocated, item_of, lines_of, offset_of}
use Rattle.pm_crash.specs.Spelled.{Holds, words_by}

-- word i, which was x, with those of its bytes replaced that are among the bytes written from a
-- place on
abbrev pub written_word : ℕ → List ℕ → ℕ → ℕ → ℕ
written_word place bytes i x =
    patched (place - 8 * i) (take (8 - (place - 8 * i)) (drop (8 * i - place) bytes)) x

-- the words after are those before with the bytes written from the place on
pub record IsWritten (w v : ℕ → ℕ) (place : ℕ) (bytes : List ℕ) : Type 0 where
  pub covered : (i : ℕ) → Contains (covered_words place (length bytes)) i
      → v i ≡ written_word place bytes i (w i)
  pub others : (i : ℕ) → ¬ Contains (covered_words place (length bytes)) i → v i ≡ w i

-- the size of the object in a block
abbrev pub size_of : Shape → (ℕ → ℕ) → State → Block → ℕ
size_of sh class s B = size_in (words_by sh class s) (lines_of sh class s B)

-- ---- WHAT A POOL IS TOLD BY: these are all its items where they stand in the allocated blocks,
-- each in one
abbrev pub ItemsAreTold : Type 0
ItemsAreTold = (sh : Shape) (class : ℕ → ℕ) (s : State) (header : Header) (pool : PoolView)
    (items : Items) → Holds sh class s header pool
    → ((B : Block) → is_allocated sh s B ≡ true
    → items (offset_of sh class s B) ≡ Some (item_of sh class s B))
    → ((off : ℕ) (item : Item) → items off ≡ Some item → StandsIn sh class s off item)
    → (off : ℕ) → (plain_pool pool).items off ≡ items off

-- ---- A READ FINDS THE BYTES OF THE OBJECT, in the words that the range covers
abbrev pub ReadsFindBytes : Type 0
ReadsFindBytes = (sh : Shape) (class : ℕ → ℕ) (s : State) (B : Block) (at len : ℕ)
    → at + len ≤ size_of sh class s B
    → bytes_at at len (item_of sh class s B).bytes
    ≡ take len (drop (at % 8)
    (bytes_of (map (words_by sh class s) (covered_words (offset_of sh class s B + at) len))))

-- ---- A WRITE PUTS BYTES INTO ONE OBJECT: from bits that hold a pool, inside an object
pub record WritesBytes (sh : Shape) (class : ℕ → ℕ) (s : State) (d : Diff) (B : Block) (at : ℕ)
    (bytes : List ℕ) : Type 0 where
  pub allocated : is_allocated sh s B ≡ true
  pub inside : at + length bytes ≤ size_of sh class s B
  pub are_bytes : AreBytes bytes
  pub is_written : IsWritten (words_by sh class s) (words_by sh class (after_diff d s))
      (offset_of sh class s B + at) bytes
  -- no block comes or goes
  pub changes : ChangesHeap sh class s d
  pub stay : (C : Block) → given (turn d C) ≡ false

abbrev pub WritesPutBytes : Type 0
WritesPutBytes = (sh : Shape) (class : ℕ → ℕ) (s : State) (d : Diff) (header : Header)
    (pool pool' : PoolView) (B : Block) (at : ℕ) (bytes : List ℕ)
    → Holds sh class s header pool → WritesBytes sh class s d B at bytes
    → Holds sh class (after_diff d s) header pool' → (off : ℕ)
    → (plain_pool pool').items off
    ≡ edited (put_into (offset_of sh class s B) at bytes) (plain_pool pool).items off
