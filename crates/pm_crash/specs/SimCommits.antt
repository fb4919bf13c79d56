-- A COMMIT: an inner one ends its level alone; the outermost one sets the published words, in their
-- order, each in its object as it stands then. A word of an object that the call freed is set nowhere.
use Rattle.std.specs.Prelude.{◌≡◌, ◌≢◌, ◌⊎◌, ℕ, ◌+◌, ◌-◌, ◌*◌, ◌/◌, ◌^◌, ◌<◌, ◌≤◌, ◌&&◌, nat_le, nat_lt, Bool, true, false, cond, if◌then◌else◌, Contains, List, [], ◌∷◌, map, length, Option, None, Some}
use Rattle.pm_words.specs.Words.{AreBytes}
use Rattle.pm_layout.specs.Sizes.{blocks_of}
use Rattle.pm_objects.specs.declared.calls.Operation.TheVariants.{Commit}
use Rattle.pm_model.specs.Inside.{Ran, is_kept_by}
use Rattle.pm_model.specs.Items.{number_bytes}
use Rattle.pm_model.specs.Pending.{SetWord}
use Rattle.pm_view.specs.Claims.{class}
use Rattle.pm_view.specs.Entries.{Entry, turn}
use Rattle.pm_view.specs.Places.{Place, Block, Small, Big, Root}
use Rattle.pm_view.specs.View.{View}
use Rattle.pm_world.specs.Lanes.{is_occupancy}
use Rattle.pm_world.specs.Memory.{bit}
use Rattle.pm_crash.specs.Footprints.{has_found}
use Rattle.pm_crash.specs.HeapChanges.{Frees}
use Rattle.pm_crash.specs.OwnBlocks.{own_span}
use Rattle.pm_crash.specs.Looked.{IsObject, KnowsWord, refusal_by, word_place}
use Rattle.pm_crash.specs.Sim.{Grows, MayTell, Sim, Tells, change_so_far, is_kept_block, known_offset, lists_of}
use Rattle.pm_crash.specs.SimOps.{LookedAt}
use Rattle.pm_crash.specs.Writes.{written_word}

-- a word to be set, with the block that its object stands in; none where the call freed it
pub record Setting : Type 0 where
  pub set : SetWord
  pub block : Option Block

-- the place of its bytes, and the bytes
abbrev pub set_place : Setting → ℕ
set_place p = p.set.id.off + p.set.off

abbrev pub set_bytes : Setting → List ℕ
set_bytes p = number_bytes p.set.value

-- word i has some of them
abbrev pub is_put_in : Option Block → Bool
is_put_in None = false
is_put_in (Some B) = true

abbrev pub is_word_set : ℕ → Setting → Bool
is_word_set i p = is_put_in p.block && (nat_lt 0 (length (set_bytes p))
    && (nat_lt (8 * i) (set_place p + length (set_bytes p)) && nat_lt (set_place p) (8 * i + 8)))

-- word i, which was x, after one of them and after all
abbrev pub set_one : ℕ → Setting → ℕ → ℕ
set_one i p x = cond (is_word_set i p) (written_word (set_place p) (set_bytes p) i x) x

unfoldable pub set_all : ℕ → List Setting → ℕ → ℕ
set_all i [] x = x
set_all i (p ∷ settings) x = set_all i settings (set_one i p x)

-- a block of its own has a line
abbrev pub HasSomeLine : View → Block → Type 0
HasSomeLine v (Small c i) = Unit {0}
HasSomeLine v (Big f) = 1 ≤ own_span v f
HasSomeLine v Root = Unit {0}

-- an object that the call freed, where it stood: nothing of the copy is at its offset
pub record WasFreed (v : View) (entries : List Entry) (off : ℕ) : Type 0 where
  pub block : Block
  pub at : known_offset v block ≡ off
  pub inside : is_occupancy v.fixed.shape block ≡ true
  pub index : (c i : ℕ) → block ≡ Small c i → i < blocks_of (class v.claims c)
  -- an existing one is freed; of one that the call had made the entry was taken back
  pub gone : ((has_found v block ≡ true) × Frees (change_so_far v entries) block)
      ⊎ ((is_kept_block v false block ≡ true)
      × (turn (change_so_far v entries) block ≡ None) × HasSomeLine v block)

-- the word may be set in the object in this block
pub record CanSet (v : View) (entries : List Entry) (a : SetWord) (B : Block) : Type 0 where
  pub at : known_offset v B ≡ a.id.off
  pub object : IsObject v entries B
  pub size : ℕ
  pub sized : KnowsWord v entries B 1 size
  pub inside : a.off + length (number_bytes a.value) ≤ size

abbrev pub Settles : View → List Entry → SetWord → Option Block → Type 0
Settles v entries a None = WasFreed v entries a.id.off
Settles v entries a (Some B) = CanSet v entries a B

-- word i, one of those that a setting covers in a block, by its index there
pub record IsSetIn (settings : List Setting) (B : Block) (i : ℕ) : Type 0 where
  pub setting : Setting
  pub among : Contains settings setting
  pub block : setting.block ≡ Some B
  pub covers : is_word_set i setting ≡ true

abbrev pub index_of : View → Block → ℕ → ℕ
index_of v B i = i - (known_offset v B / 8 - 8)

-- THE WORDS ARE SET, and all other bits stay
pub record SetsWords (v : View) (entries : List Entry) (next : View) (entries' : List Entry)
    (settings : List Setting) : Type 0 where
  pub each : (p : Setting) → Contains settings p → Settles v entries p.set p.block
  pub are_bytes : (p : Setting) → Contains settings p → AreBytes (set_bytes p)
  -- the words before, by their numbers
  pub words : ℕ → ℕ
  pub knows : (B : Block) (i : ℕ) → IsSetIn settings B i
      → KnowsWord v entries B (index_of v B i) (words i)
  pub small : (B : Block) (i : ℕ) → IsSetIn settings B i → set_all i settings (words i) < 2 ^ 64
  pub puts : (B : Block) (i b : ℕ) → IsSetIn settings B i → b < 64
      → change_so_far next entries' (word_place v B (index_of v B i)) b
      ≡ Some (bit (set_all i settings (words i)) b)
  pub others : (q : Place) (b : ℕ)
      → ((B : Block) (i : ℕ) → IsSetIn settings B i → q ≢ word_place v B (index_of v B i))
      → change_so_far next entries' q b ≡ change_so_far v entries q b

-- the words that a commit of this level sets
abbrev pub sets_at : ℕ → List SetWord → List SetWord
sets_at level sets = if nat_le level 1 then sets else []

pub record IsCommit (v : View) (entries : List Entry) (next : View) (entries' : List Entry)
    (root : Option ℕ) (ran : Ran) : Type 0 where
  pub commits : ran.operation ≡ Commit
  pub replied : ran.reply ≡ None
  pub looks : LookedAt v entries root ran.operation
  pub unrefused : refusal_by ran.seen v root ran.operation ≡ None
  pub settings : List Setting
  pub are : map (λ (p : Setting). p.set) settings ≡ sets_at (lists_of v).level (lists_of v).sets
  pub sets : SetsWords v entries next entries' settings

abbrev pub SimCommits : Type 0
SimCommits = (v next : View) (entries entries' : List Entry) (root : Option ℕ) (ran : Ran)
    → Sim v entries → Tells v next ran → MayTell v
    → ((kept : Bool) → Grows v (is_kept_by ran.operation kept) next kept)
    → IsCommit v entries next entries' root ran → Sim next entries'
