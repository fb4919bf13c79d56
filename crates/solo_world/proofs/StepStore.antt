-- A store keeps the world: of a word whose record is drained, of one in a reserved block, of the next generation, of the next word of a record or of an entry, of the seal, and of
-- the word of an entry that is applied.
use Rattle.std.proofs.Common.{◌≡◌, ℕ, ◌<◌, inl, inr, Bool, List, length, slice_index, refl, sym, ◌∙◌, subst}
use Rattle.solo_view.specs.Area.{Part, part_of}
use Rattle.solo_view.specs.Area.Part.{GenerationWord, SealWord, EntryWord, SlotWord, OtherWord}
use Rattle.solo_view.specs.Changes.{store_change}
use Rattle.solo_view.specs.Counts.{MayCount, HasRoom}
use Rattle.solo_view.specs.Log.{Phase, log_stored}
use Rattle.solo_view.specs.Log.Phase.{Idle, Open, Drawn, Sealing, Applying, Clearing, Retiring}
use Rattle.solo_view.specs.Steps.Step.{Store}
use Rattle.solo_view.specs.View.{View}
use Rattle.solo_view.specs.Views.{changed}
use Rattle.solo_world.specs.History.{Entry}
use Rattle.solo_world.specs.Laws.{Keeps, with_view}
use Rattle.solo_world.specs.Lawful.{StoreFits}
use Rattle.solo_world.specs.Memory.{Memory, Becomes}
use Rattle.solo_world.specs.Memory.Location.{PoolWord}
use Rattle.solo_world.specs.Opening.{Opening}
use Rattle.solo_world.specs.World.{Views, World}
use Rattle.solo_world.specs.Entries.{IsGrowing}
use Rattle.std.proofs.lemmas.Bool.{false≢true}
use Rattle.solo_world.proofs.Worlds.{own}
use Rattle.solo_world.proofs.Plain.{plain_still}
use Rattle.solo_world.proofs.StoreAside.{stores_aside}
use Rattle.solo_world.proofs.StoreDescriptor.{stores_descriptor}
use Rattle.solo_world.proofs.StoreGeneration.{stores_generation, stores_last}
use Rattle.solo_world.proofs.StoreEntry.{stores_entry}
use Rattle.solo_world.proofs.StorePair.{stores_pair}
use Rattle.solo_world.proofs.StoreSeal.{clears_seal, stores_seal}
use Rattle.solo_world.proofs.StoreSlot.{stores_slot}
use Rattle.solo_world.proofs.StoreWord.{stores_word}

module _ (o : Opening) (old : Memory) (views : Views) (log : List Entry) (decided : ℕ → Bool) (world : World o old views log decided) (k : ℕ) (inside : k < o.lanes) (v : View) (is : views k ≡ v)
    (new : Memory) (w x : ℕ) (moves : Becomes (PoolWord w) x old new) (in_pool : w < length v.words) (may : MayCount v) (room : HasRoom v.changes) where
  by_part : (phase : Phase) → v.log.phase ≡ phase → (part : Part) → part_of v.lane w ≡ part → StoreFits v w x phase part
      → World o new (with_view views k (changed v w x (store_change w (slice_index v.words w) x) (log_stored phase part x v.log))) log decided
  by_part (Open slot pair) e SlotWord f fits = stores_slot o old views log decided world k inside v is new w x moves in_pool may room slot pair e f fits
  by_part (Open slot pair) e OtherWord f (inl writes) = stores_word o old views log decided world k inside v is new w x moves in_pool may room slot pair e writes
  by_part (Open slot pair) e OtherWord f (inr (inl fills)) = stores_aside o old views log decided world k inside v is new w x moves in_pool may room slot pair e fills
  by_part (Open slot pair) e OtherWord f (inr (inr describes)) = stores_descriptor o old views log decided world k inside v is new w x moves in_pool may room describes slot pair e
  by_part (Open slot pair) e GenerationWord f fits = stores_last o old views log decided world k inside v is new w x moves in_pool may room slot pair e f fits
  by_part (Open slot pair) e SealWord f fits = absurd fits
  by_part (Open slot pair) e EntryWord f fits = stores_pair o old views log decided world k inside v is new w x moves in_pool may room slot pair e f fits
  by_part Drawn e GenerationWord f fits = stores_generation o old views log decided world k inside v is new w x moves in_pool may room e f fits
  by_part Drawn e SealWord f (inl seals) = stores_seal o old views log decided world k inside v is new w x moves in_pool may room e f seals
  by_part Drawn e SealWord f (inr alone) =
      absurd (false≢true (sym (plain_still v (own o old views log decided world k inside v is).entries (λ grows. subst IsGrowing e grows)) ∙ alone.heap))
  by_part Drawn e EntryWord f fits = absurd fits
  by_part Drawn e SlotWord f fits = absurd fits
  by_part Drawn e OtherWord f fits = absurd fits
  by_part Idle e part f fits = absurd fits
  by_part Sealing e part f fits = absurd fits
  by_part (Applying applied) e OtherWord f fits = stores_entry o old views log decided world k inside v is new w x moves in_pool may room applied e fits
  by_part (Applying applied) e GenerationWord f fits = stores_entry o old views log decided world k inside v is new w x moves in_pool may room applied e fits
  by_part (Applying applied) e SealWord f fits = clears_seal o old views log decided world k inside v is new w x moves in_pool may room applied e f fits
  by_part (Applying applied) e EntryWord f fits = absurd fits
  by_part (Applying applied) e SlotWord f fits = absurd fits
  by_part Clearing e part f fits = absurd fits
  by_part Retiring e part f fits = absurd fits

pub stores : (w x : ℕ) → Keeps (Store w x)
stores w x o old new views log decided k v world inside is lawful moves =
    let may = lawful.allowed in
    (by_part o old views log decided world k inside v is new w x moves may.inside (lawful.due refl) may.room v.log.phase refl (part_of v.lane w) refl may.fits, tt)
