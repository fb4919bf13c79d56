-- No lawful step of any lane changes the word that describes a run.
use Rattle.std.proofs.Common.{◌≡◌, ◌≢◌, ℕ, ◌+◌, ◌<◌, inl, inr, ⊎_elim, Bool, true, false, IsTrue, List, length, refl, sym, ap, ◌∙◌, subst, arith, leb, ltb, bit_or, bit_and}
use Rattle.std.proofs.lemmas.Bool.{false≢true, and_from, le-leb, lt-ltb}
use Rattle.solo_view.specs.Area.{Part, area_word, is_in_area, part_of}
use Rattle.solo_view.specs.Area.Part.{GenerationWord, SealWord, EntryWord, SlotWord, OtherWord}
use Rattle.solo_view.specs.Blocks.{descriptor_word, is_run}
use Rattle.solo_view.specs.Counts.{MayCount, HasRoom}
use Rattle.solo_view.specs.Log.{Final, Phase}
use Rattle.solo_view.specs.Log.Phase.{Idle, Open, Drawn, Sealing, Applying, Clearing, Retiring}
use Rattle.solo_view.specs.Rights.{is_written}
use Rattle.solo_view.specs.Steps.{Step}
use Rattle.solo_view.specs.Steps.Step.{Load, Store, Or, And, Flush, Drain, TakeWrite, TakeRead, Raise, Give, ZoneTry, ZoneGive, Occupied, Occupy, Vacate, Draw, NumberSeen, StopSeen, SetStop, Tell}
use Rattle.solo_view.specs.View.{View}
use Rattle.pm_record.specs.declared.redo.Op.{Op}
use Rattle.pm_record.specs.declared.redo.Op.TheVariants as op
use Rattle.solo_world.specs.Entries.{ends_with, set_word}
use Rattle.solo_world.specs.Fits.{LaneFits, PhaseFits}
use Rattle.solo_world.specs.History.{Entry, Flies, settled}
use Rattle.solo_world.specs.Laws.{KeepsRuns}
use Rattle.solo_world.specs.Lawful.{BitsFit, IsLawful, MayDescribe, StoreFits}
use Rattle.solo_world.specs.Memory.{Memory, Becomes}
use Rattle.solo_world.specs.Memory.Location.{PoolWord}
use Rattle.solo_world.specs.Moves.{Moves}
use Rattle.solo_world.specs.Opening.{IsChunk, Opening}
use Rattle.solo_world.specs.Records.{generation_of}
use Rattle.solo_world.specs.World.{Views, World}
use Rattle.solo_world.proofs.Locations.{other_occ, other_pool, other_zone_lock, plain_pool, pool-counter, pool-lock, pool-stop}
use Rattle.solo_world.proofs.Parts.{entry_part, generation_part, seal_part, slot_part}
use Rattle.solo_world.proofs.StepChange.{changes_next, changes_written}
use Rattle.solo_world.proofs.StoreDescriptor.{at_word, memory_zero}
use Rattle.solo_world.proofs.StoreEntry.{next_entry}
use Rattle.solo_world.proofs.Stored.{IsPlainWord, no_descriptor}
use Rattle.solo_world.proofs.Worlds.{own}

own_area : (lane w : ℕ) → w ≡ area_word lane → is_in_area lane w ≡ true
own_area lane w is = and_from (leb (area_word lane) w) (ltb w (area_word lane + 1024)) (le-leb (area_word lane) w (omega (arith, is))) (lt-ltb w (area_word lane + 1024) (omega (arith, is)))

module _ (o : Opening) (old : Memory) (views : Views) (log : List Entry) (decided : ℕ → Bool) (world : World o old views log decided) (k page : ℕ) (inside : k < o.lanes) (chunk : IsChunk o.lanes page)
    (run : is_run (old (PoolWord (descriptor_word o.lanes page))) ≡ true) (new : Memory) where
  abbrev told : ℕ
  told = descriptor_word o.lanes page

  abbrev v : View
  v = views k

  mine : LaneFits o old (settled o log decided) (Flies log decided k) k v
  mine = own o old views log decided world k inside v refl

  -- a word of the lane's area, under a lock that it holds for writing, or in a block that it reserved, describes no chunk
  plain : (w x : ℕ) → Becomes (PoolWord w) x old new → w < length v.words → MayCount v → HasRoom v.changes → IsPlainWord v w → told ≢ w
  plain w x moves in_pool may room is_plain = no_descriptor o old views log decided world k inside v refl new w x moves in_pool is_plain may room page chunk

  -- the word of the next entry is one of those
  entered : (w x applied : ℕ) → v.log.phase ≡ Applying applied → StoreFits v w x (Applying applied) OtherWord → IsPlainWord v w
  entered w x applied e next =
      ⊎_elim (λ (s : IsTrue (is_written v w) × (applied + 1 < length v.log.entries)). inr (inl s.0))
      (λ (s : (set_word w x ≡ ends_with v (generation_of v + 1)) × (applied + 1 ≡ length v.log.entries)). inl (own_area v.lane w (ap (λ (f : Final). f.word) s.0)))
      (next_entry v applied (set_word w x) (subst (PhaseFits (Flies log decided k) v) e mine.phase) next)

  module _ (w x : ℕ) (moves : Becomes (PoolWord w) x old new) (in_pool : w < length v.words) (may : MayCount v) (room : HasRoom v.changes) where
    area : is_in_area v.lane w ≡ true → told ≢ w
    area there = plain w x moves in_pool may room (inl there)

    -- what becomes a run was described by 0
    describes : MayDescribe v w x → told ≢ w
    describes d same =
        let zero_word = memory_zero o old views log decided world k inside v refl new w x moves in_pool may room d in
        let here = at_word o old views log decided world k inside v refl new w x moves in_pool may room d in
        false≢true (sym (ap is_run (ap (λ u. old (PoolWord u)) (same ∙ here) ∙ zero_word)) ∙ run)

    by_part : (phase : Phase) → v.log.phase ≡ phase → (part : Part) → part_of v.lane w ≡ part → StoreFits v w x phase part → told ≢ w
    by_part phase e SlotWord f fits = area (slot_part v.lane w f)
    by_part phase e EntryWord f fits = area (entry_part v.lane w f)
    by_part phase e GenerationWord f fits = area (generation_part v.lane w f).0
    by_part phase e SealWord f fits = area (seal_part v.lane w f).0
    by_part (Open slot pair) e OtherWord f (inl writes) = plain w x moves in_pool may room (inr (inl writes.own))
    by_part (Open slot pair) e OtherWord f (inr (inl fills)) = plain w x moves in_pool may room (inr (inr fills))
    by_part (Open slot pair) e OtherWord f (inr (inr d)) = describes d
    by_part (Applying applied) e OtherWord f next = plain w x moves in_pool may room (entered w x applied e next)
    by_part Idle e OtherWord f fits = absurd fits
    by_part Drawn e OtherWord f fits = absurd fits
    by_part Sealing e OtherWord f fits = absurd fits
    by_part Clearing e OtherWord f fits = absurd fits
    by_part Retiring e OtherWord f fits = absurd fits

  -- bits are set or cleared of a word of the next entry, which the lane wrote
  changed : (operation : Op) (w bits x : ℕ) → Becomes (PoolWord w) x old new → w < length v.words → MayCount v → HasRoom v.changes → BitsFit v operation w bits v.log.phase (part_of v.lane w) → told ≢ w
  changed operation w bits x moves in_pool may room fits =
      plain w x moves in_pool may room (inr (inl (changes_written (Flies log decided k) v operation w bits mine.phase (changes_next v operation w bits v.log.phase refl (part_of v.lane w) refl fits)).0))

  stays : (w x : ℕ) → Becomes (PoolWord w) x old new → told ≢ w → new (PoolWord told) ≡ old (PoolWord told)
  stays w x moves differ = moves.0 (PoolWord told) (other_pool told w differ)

  pub by_step : (s : Step) → IsLawful v s → Moves k s old new → new (PoolWord told) ≡ old (PoolWord told)
  by_step (Load w found) lawful moves = moves.0 (PoolWord told)
  by_step (Store w x) lawful moves = let may = lawful.allowed in stays w x moves (by_part w x moves may.inside (lawful.due refl) may.room v.log.phase refl (part_of v.lane w) refl may.fits)
  by_step (Or w bits found) lawful moves = let may = lawful.allowed in stays w (bit_or found bits) moves.0 (changed op.Or w bits (bit_or found bits) moves.0 may.inside (lawful.due refl) may.room may.fits)
  by_step (And w bits found) lawful moves = let may = lawful.allowed in stays w (bit_and found bits) moves.0 (changed op.And w bits (bit_and found bits) moves.0 may.inside (lawful.due refl) may.room may.fits)
  by_step (Flush line) lawful moves = moves (PoolWord told)
  by_step Drain lawful moves = moves (PoolWord told)
  by_step (TakeWrite line true) lawful moves = moves.0 (PoolWord told) (pool-lock told line)
  by_step (TakeWrite line false) lawful moves = moves.0 (PoolWord told)
  by_step (TakeRead line true) lawful moves = moves.0 (PoolWord told) (pool-lock told line)
  by_step (TakeRead line false) lawful moves = moves.0 (PoolWord told)
  by_step (Raise line won) lawful moves = absurd moves
  by_step (Give line) lawful moves = moves.0 (PoolWord told) (pool-lock told line)
  by_step (ZoneTry zone true) lawful moves = moves.0.0 (PoolWord told) (other_zone_lock zone (PoolWord told) (plain_pool told))
  by_step (ZoneTry zone false) lawful moves = moves.0 (PoolWord told)
  by_step (ZoneGive zone) lawful moves = moves.0 (PoolWord told) (other_zone_lock zone (PoolWord told) (plain_pool told))
  by_step (Occupied at found) lawful moves = moves.0 (PoolWord told)
  by_step (Occupy at bits true) lawful moves = moves.0.0 (PoolWord told) (other_occ at (PoolWord told) (plain_pool told))
  by_step (Occupy at bits false) lawful moves = moves.0 (PoolWord told)
  by_step (Vacate at bits) lawful moves = moves.0 (PoolWord told) (other_occ at (PoolWord told) (plain_pool told))
  by_step (Draw n) lawful moves = moves.0.0 (PoolWord told) (pool-counter told)
  by_step (NumberSeen n) lawful moves = moves.0 (PoolWord told)
  by_step (StopSeen set) lawful moves = moves.0 (PoolWord told)
  by_step SetStop lawful moves = moves.0 (PoolWord told) (pool-stop told)
  by_step (Tell operation reply) lawful moves = moves (PoolWord told)

pub keeps_runs : KeepsRuns
keeps_runs s o old new views log decided k page world inside lawful moves chunk run = by_step o old views log decided world k page inside chunk run new s lawful moves
