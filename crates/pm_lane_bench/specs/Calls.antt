-- A lane that makes calls, each with ORs of a word of the pool's first chunk.
use Rattle.std.specs.Prelude.{◌≡◌, ◌++◌, ℕ, ◌<◌, List, [], ◌∷◌, replicate, Some}
use Rattle.pm_layout.specs.Areas.{greatest_generation}
use Rattle.pm_record.specs.declared.redo.Op.TheVariants.{Or, Set}
use Rattle.pm_record.specs.declared.redo.Redo.{Redo}
use Rattle.pm_view.specs.Entries.{Entry}
use Rattle.pm_view.specs.Places.{InHuge}
use Rattle.pm_view.specs.Steps.Step.{NumberSeen}
use Rattle.pm_view.specs.View.{View}
use Rattle.pm_view.specs.Views.{after, value_in}
use Rattle.pm_world.specs.Logs.{ends_with}
use Rattle.pm_world.specs.declared.lane.Lane.{Lane}
use Rattle.pm_redo.specs.Calls.{KeepsEntries, MayLog}
use Rattle.pm_redo.specs.Stages.{CanSeal, generation_word, seal_word}
use Rattle.pm_lane_bench.specs.Lanes.{CanReserve, HasChunk, OwnsChunk}

-- ---- THE ENTRIES OF A CALL

-- the OR of bit 0 of the chunk's word, as the lane lists it, and as its log has it
abbrev pub or_listed : Redo
or_listed = record { place = 24640; op = Or; value = 1 }

abbrev pub or_logged : Entry
or_logged = record { word = 3080; place = Some (InHuge 0 8); op = Or; value = 1 }

-- a call's ORs as the lane lists them; and with one more entry
abbrev pub ors_listed : List Redo
ors_listed = replicate 32 or_listed

abbrev pub ors_before : Redo → List Redo
ors_before e = ors_listed ++ e ∷ []

-- as its log has them, and after them the entry that ends the generation
abbrev pub ors_logged : View → List Entry
ors_logged v =
    replicate 32 or_logged ++ ends_with v.fixed.shape v.fixed.lane v.log.generation ∷ []

-- the entries are a call's ORs, and after them one that sets a word
pub record AreOrs (entries : List Redo) : Type 0 where
  pub last : Redo
  pub are : entries ≡ ors_before last
  pub sets : last.op ≡ Set

-- ---- HOW FAR THE LANE HAS COME

-- the lane knows its generation, and that its seal is 0
pub record KnowsLog (v : View) : Type 0 where
  pub seal : value_in v (seal_word v) ≡ Some 0
  pub generation : value_in v (generation_word v) ≡ Some v.log.generation

-- before the first call
pub record CanStart (v : View) : Type 0 where
  pub reserves : CanReserve v
  pub log_ : KnowsLog v

-- between two calls: nothing is undrained
pub record AwaitsCall (v : View) : Type 0 where
  pub owns : OwnsChunk v
  pub drained : v.changes ≡ []
  pub log_ : KnowsLog v

-- the call has its number and its log, which is to be sealed
pub record IsNumbered (v : View) : Type 0 where
  pub can : CanSeal v
  pub chunk : HasChunk v
  pub entries : v.log.entries ≡ ors_logged v

module _ {M : Type 0} (at : M → View → Type 0) where
  -- the lane may be seen so that this is so, with its list and its generation
  pub record LaneHas (P : View → Type 0) (lane : Lane M) : Type 0 where
    pub view : View
    pub keeps : KeepsEntries at lane view
    pub generation : lane.log.generation ≡ view.log.generation
    pub so : P view

  -- the lane saw a number, and lists a call's ORs: so many calls had one, and its view was this
  pub record HasListed (lane : Lane M) : Type 0 where
    pub before : View
    pub number : ℕ
    pub may : MayLog at lane lane.log.generation (after before (NumberSeen number))
    pub awaits : AwaitsCall before
    pub few : number < greatest_generation before.fixed.shape
    pub entries : lane.entries.items ≡ ors_listed
