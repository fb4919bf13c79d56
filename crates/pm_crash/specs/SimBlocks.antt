-- OBJECTS THAT GO AND COME in an open call: free, alloc, and publish.
use Rattle.std.specs.Prelude.{◌≡◌, ◌≢◌, ◌⊎◌, ℕ, ◌+◌, ◌-◌, ◌/◌, ◌<◌, ◌≤◌, Bool, true, false, Contains, List, [], ◌∷◌, ◌++◌, map, take, None}
use Rattle.std.specs.List.{list_any, range_with_len}
use Rattle.pm_words.specs.Words.{bytes_of}
use Rattle.pm_image.specs.Contents.{data_words}
use Rattle.pm_model.specs.Items.{Edit, Item, freed_item, made_item}
use Rattle.pm_view.specs.Entries.{Entry, turn}
use Rattle.pm_view.specs.Places.{Place, Descr, Block, Big, is_data, same}
use Rattle.pm_view.specs.View.{View}
use Rattle.pm_world.specs.BlockLines.{IsLineOf, chunks_claimed}
use Rattle.pm_world.specs.Sights.{sight_of}
use Rattle.pm_crash.specs.Footprints.{geometry_of}
use Rattle.pm_crash.specs.HeapChanges.{Frees, Makes}
use Rattle.pm_crash.specs.Looked.{Enters, IsObject, KnowsWord, word_place, words_in}
use Rattle.pm_crash.specs.Sim.{change_so_far, known_offset}

-- a block with the offset of the object in it, which goes; and with the object that comes
pub record Old : Type 0 where
  pub block : Block
  pub off : ℕ

pub record New : Type 0 where
  pub block : Block
  pub off : ℕ
  pub item : Item

abbrev pub is_going : List Old → Block → Bool
is_going olds C = list_any (λ (o : Old). same o.block C) olds

abbrev pub is_coming : List New → Block → Bool
is_coming news C = list_any (λ (n : New). same n.block C) news

-- each once
unfoldable pub OldOnce : List Old → Type 0
OldOnce [] = Unit {0}
OldOnce (o ∷ olds) = (is_going olds o.block ≡ false) × OldOnce olds

unfoldable pub NewOnce : List New → Type 0
NewOnce [] = Unit {0}
NewOnce (n ∷ news) = (is_coming news n.block ≡ false) × NewOnce news

abbrev pub object_edits : List Old → List New → List Edit
object_edits olds news = map (λ (o : Old). freed_item o.off) olds
    ++ map (λ (n : New). made_item n.off n.item) news

-- THE OBJECT COMES TO BE in a block that the call makes: the lane knows its words, by their numbers
pub record ComesToBe (next : View) (entries : List Entry) (n : New) : Type 0 where
  pub at : known_offset next n.block ≡ n.off
  pub object : IsObject next entries n.block
  pub makes : Makes (change_so_far next entries) n.block
  pub size : ℕ
  pub kind : ℕ
  pub sized : KnowsWord next entries n.block 1 size
  pub kinded : KnowsWord next entries n.block 0 kind
  pub fits : 8 + data_words size ≤ words_in next n.block
  pub words : ℕ → ℕ
  pub knows : (i : ℕ) → n.off / 8 ≤ i → i < n.off / 8 + data_words size
      → KnowsWord next entries n.block (i - (n.off / 8 - 8)) (words i)
  pub is : n.item ≡ record {
    kind = kind;
    bytes = take size (bytes_of (map words (range_with_len (n.off / 8) (data_words size))));
    members = [];
    list = None;
  }

-- the block has the line, as the lane knows
abbrev pub HasLineTo : View → Block → ℕ → Type 0
HasLineTo v B line =
    IsLineOf v.fixed.shape (geometry_of v) (chunks_claimed (sight_of v).hold B) B line

-- THESE OBJECTS GO AND THESE COME, and all other bits of objects stay
pub record ChangesObjects (v : View) (entries : List Entry) (next : View) (entries' : List Entry)
    (olds : List Old) (news : List New) : Type 0 where
  pub enters : Enters next entries'
  -- an existing object is freed; of one that the call made the entry is taken back
  pub goes : (o : Old) → Contains olds o
      → IsObject v entries o.block × (known_offset v o.block ≡ o.off)
  pub goes_once : OldOnce olds
  pub gone : (B : Block) → is_going olds B ≡ true → Frees (change_so_far next entries') B
      ⊎ ((turn (change_so_far next entries') B ≡ None) × Makes (change_so_far v entries) B)
  pub comes : (n : New) → Contains news n → ComesToBe next entries' n
  pub comes_once : NewOnce news
  pub was_none : (B : Block) → is_coming news B ≡ true → Makes (change_so_far v entries) B → ⊥
  -- no line of a new one is another's that the call made
  pub apart : (B C : Block) (line : ℕ) → is_coming news B ≡ true
      → Makes (change_so_far next entries') C → B ≢ C
      → HasLineTo next B line → HasLineTo next C line → ⊥
  pub stay : (C : Block) → is_going olds C ≡ false → is_coming news C ≡ false
      → turn (change_so_far next entries') C ≡ turn (change_so_far v entries) C
  pub descriptors : (f b : ℕ) → is_going olds (Big f) ≡ false → is_coming news (Big f) ≡ false
      → change_so_far next entries' (Descr f) b ≡ change_so_far v entries (Descr f) b
  pub words : (p : Place) (b : ℕ) → is_data p ≡ true
      → ((B : Block) (k : ℕ) → is_going olds B ≡ true → k < words_in v B → p ≢ word_place v B k)
      → ((B : Block) (k : ℕ) → is_coming news B ≡ true → k < words_in next B
      → p ≢ word_place next B k)
      → change_so_far next entries' p b ≡ change_so_far v entries p b
