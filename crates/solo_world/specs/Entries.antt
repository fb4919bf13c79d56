-- A lane's redo entries as its view has them: how they stand in its area, and which words they give after a power failure. In a world of lanes each is
-- of a word that its lane has for itself; one that allocates or frees a block is so far entered by a lane that is alone, and sealed outside of such a world.
use Rattle.std.specs.Prelude.{◌≡◌, ◌≢◌, ◌⊎◌, ℕ, ◌+◌, ◌*◌, ◌^◌, ◌<◌, ◌==◌, Bool, true, false, ◌&&◌, ◌||◌, IsTrue, All, Contains, List, [], ◌∷◌, ◌++◌, length, slice_get, slice_index, Some}
use Rattle.std.specs.Int.{bit_at, bit_not, w64}
use Rattle.std.specs.List.{list_any}
use Rattle.pm_record.specs.Redo.{redo_words}
use Rattle.pm_record.specs.declared.redo.Op.{Op}
use Rattle.pm_record.specs.declared.redo.Op.TheVariants.{Set, Or, And}
use Rattle.pm_record.specs.declared.redo.Redo.{Redo}
use Rattle.solo_view.specs.Area.{area_word, is_in_area}
use Rattle.solo_view.specs.Bits.{all_bits}
use Rattle.solo_view.specs.Log.{Phase, Final}
use Rattle.solo_view.specs.Founds.{IsAlone}
use Rattle.solo_view.specs.Log.Phase.{Idle, Open, Sealing, Applying, Clearing, Retiring}
use Rattle.solo_view.specs.Rights.{is_written}
use Rattle.solo_view.specs.View.{View}
use Rattle.solo_world.specs.Records.{is_logged}

-- the first word of an entry's pair
abbrev pub entry_word : ℕ → ℕ → ℕ
entry_word lane i = area_word lane + 8 + 2 * i

-- the word becomes x
abbrev pub set_word : ℕ → ℕ → Final
set_word w x = record { word = w; mask = all_bits; bits = x; ors = false }

-- what an operation makes of a word: all bits become those of x, the bits set in x are set, or those clear in x are cleared
abbrev pub final_by : Op → ℕ → ℕ → Final
final_by Set w x = set_word w x
final_by Or w x = record { word = w; mask = x; bits = x; ors = true }
final_by And w x = record { word = w; mask = bit_not w64 x; bits = 0; ors = false }

-- the entry that ends a generation: the lane's generation becomes this
abbrev pub ends_with : View → ℕ → Final
ends_with v generation = set_word (area_word v.lane) generation

-- the entry stands in this pair
abbrev pub IsEntryAt : View → ℕ → Final → Type 0
IsEntryAt v i f = slice_get v.log.entries i ≡ Some f

-- the two words of a pair, as the view has them
abbrev pub pair_at : View → ℕ → List ℕ
pair_at v i = slice_index v.words (entry_word v.lane i) ∷ slice_index v.words (entry_word v.lane i + 1) ∷ []

-- the redo entry of an operation on a word
abbrev pub redo_on : Op → ℕ → ℕ → Redo
redo_on op w x = record { place = 8 * w; op = op; value = x }

-- the log may grow
abbrev pub IsGrowing : Phase → Type 0
IsGrowing (Open slot pair) = Unit {0}
IsGrowing phase = ⊥

-- a lane that is alone may enter any word outside of its area while its log may grow: what it then seals is to be whole
abbrev pub EntersAlone : View → ℕ → Type 0
EntersAlone v w = IsAlone v × IsGrowing v.log.phase × (is_in_area v.lane w ≡ false)

-- an entry may be of a word that the lane locked for writing, or set its own generation, or be that of a lane that is alone; an OR and an AND are of 64 bits
pub record IsEnterable (v : View) (op : Op) (w x : ℕ) : Type 0 where
  pub of : IsTrue (is_written v w) ⊎ (((w ≡ area_word v.lane) × (op ≡ Set)) ⊎ EntersAlone v w)
  pub word : op ≢ Set → x < 2 ^ 64

-- the entry is of an operation on a word that it may be of, and its pair spells it
pub record EntryStands (v : View) (i : ℕ) (f : Final) : Type 0 where
  pub op : Op
  pub value : ℕ
  pub is : f ≡ final_by op f.word value
  pub may : IsEnterable v op f.word value
  pub spells : pair_at v i ≡ redo_words (redo_on op f.word value)

-- one of these entries is of word w
abbrev pub is_entered : List Final → ℕ → Bool
is_entered entries w = list_any (λ (f : Final). f.word == w) entries

-- one of these entries is of this bit of word w
abbrev pub is_bit_entered : List Final → ℕ → ℕ → Bool
is_bit_entered entries w i = list_any (λ (f : Final). f.word == w && bit_at f.mask i == 1) entries

-- two values of word w agree on the bits that none of these entries is of
abbrev pub AgreeBeside : List Final → ℕ → ℕ → ℕ → Type 0
AgreeBeside entries w x y = (i : ℕ) → i < 64 → is_bit_entered entries w i ≡ false → bit_at x i ≡ bit_at y i

-- one of these entries is an OR of word w
abbrev pub is_or_entered : List Final → ℕ → Bool
is_or_entered entries w = list_any (λ (f : Final). f.word == w && f.ors) entries

-- the lane knows the word, as one of 64 bits
pub record IsKnownWord (v : View) (w : ℕ) : Type 0 where
  pub known : Contains v.known w
  pub small : slice_index v.words w < 2 ^ 64

-- each of these entries leaves word w one of 64 bits
abbrev pub LeaveWord : List Final → ℕ → Type 0
LeaveWord entries w = All (λ (f : Final). f.word ≡ w → f.bits < 2 ^ 64) entries

-- a word that an entry ORs is one of 64 bits: the lane knows it so, and the entries leave it so
abbrev pub KnowsOrs : View → Type 0
KnowsOrs v = (w : ℕ) → is_or_entered v.log.entries w ≡ true → IsKnownWord v w × LeaveWord v.log.entries w

-- the entries are of words that the lane locked for writing, and the last one, behind them, sets the lane's generation to this
pub record AreWhole (v : View) (generation : ℕ) : Type 0 where
  pub front : List Final
  pub are : v.log.entries ≡ front ++ ends_with v generation ∷ []
  pub owned : All (λ (f : Final). IsTrue (is_written v f.word)) front

-- the seal is drained, and not yet cleared for good: the lane's call is decided by it
abbrev pub is_redoing : Phase → Bool
is_redoing (Applying applied) = true
is_redoing Clearing = true
is_redoing phase = false

-- the lane's log would redo word w after a power failure
abbrev pub is_redone : View → ℕ → Bool
is_redone v w = is_redoing v.log.phase && is_entered v.log.entries w

-- the lane's log would restore word w, or redo it
abbrev pub is_in_log : View → ℕ → Bool
is_in_log v w = is_logged v w || is_redone v w

-- how many of the entries are applied: all while the seal is cleared
abbrev pub applied_in : Phase → View → ℕ
applied_in (Applying applied) v = applied
applied_in phase v = length v.log.entries

-- what the seal's word holds
abbrev pub seal_in : Phase → View → ℕ
seal_in Sealing v = length v.log.entries
seal_in (Applying applied) v = length v.log.entries
seal_in phase v = 0

-- there are no entries in these phases
abbrev pub HasNone : Phase → View → Type 0
HasNone Idle v = v.log.entries ≡ []
HasNone Retiring v = v.log.entries ≡ []
HasNone phase v = Unit {0}
