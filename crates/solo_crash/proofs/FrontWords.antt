-- No lane changes a word before the lanes' areas, so every image has the header page.
use Rattle.std.proofs.Common.{◌≡◌, inr, inl, ⊎_elim, IsTrue, ℕ, ◌*◌, ◌<◌, ◌≤◌, Bool, true, false, List, length, slice_index, take, refl, sym, ◌∙◌, ap, subst, arith}
use Rattle.std.proofs.lemmas.List.{ext_get_or, get_or-take, length-take}
use Rattle.pm_record.specs.declared.redo.Op.TheVariants as op
use Rattle.pm_header.specs.Pairs.{IsHeaderIn}
use Rattle.pm_header.specs.declared.header.Header.{Header}
use Rattle.pm_image.specs.Means.{HasHeader, page}
use Rattle.pm_record.specs.declared.redo.Op.{Op}
use Rattle.solo_view.specs.Area.{Part, area_word, part_of}
use Rattle.solo_view.specs.Area.Part.{EntryWord, GenerationWord, OtherWord, SealWord, SlotWord}
use Rattle.solo_view.specs.Log.{Phase}
use Rattle.solo_view.specs.Log.Phase.{Idle, Open, Drawn, Sealing, Applying, Clearing, Retiring}
use Rattle.solo_view.specs.Rights.{is_written}
use Rattle.solo_view.specs.Steps.{Step}
use Rattle.solo_view.specs.Steps.Step.{Load, Store, Or, And, Flush, Drain, TakeWrite, TakeRead, Raise, Give, ZoneTry, ZoneGive, Occupied, Occupy, Vacate, Draw, NumberSeen, StopSeen, SetStop, Tell}
use Rattle.solo_world.specs.Crash.{Survives}
use Rattle.solo_world.specs.Entries.{is_redone, set_word, EntersAlone, IsGrowing}
use Rattle.solo_world.specs.History.{Entry, Flies}
use Rattle.solo_world.specs.Lawful.{IsLawful, StoreFits, MayChange}
use Rattle.solo_world.specs.Memory.{Memory}
use Rattle.solo_world.specs.Memory.Location.{PoolWord}
use Rattle.solo_world.specs.Moves.{Moves}
use Rattle.solo_world.specs.Opening.{Opening}
use Rattle.solo_world.specs.Records.{is_logged}
use Rattle.solo_world.specs.World.{Views, World}
use Rattle.solo_world.proofs.CrashLogs.{logged_recorded}
use Rattle.solo_world.proofs.CrashWords.{behind_areas, recorded_writes, reserved_word, word_stays}
use Rattle.solo_world.proofs.Living.{before_zones}
use Rattle.solo_world.proofs.Exclusion.{WritesUnder, writes_under}
use Rattle.solo_world.proofs.Locations.{other_occ, other_zone_lock, plain_pool, other_pool, pool-counter, pool-lock, pool-stop}
use Rattle.solo_world.proofs.Parts.{generation_part, seal_part}
use Rattle.solo_world.proofs.StepChange.{changes_next, changes_written}
use Rattle.solo_world.proofs.Reserved.{describing_reserved}

-- a list's front is another's, where its words are
pub front_same : (one other : List ℕ) → 512 ≤ length one → length other ≡ length one → ((i : ℕ) → i < 512 → slice_index other i ≡ slice_index one i) → page other ≡ page one
front_same one other long as_long same =
    let count : (xs : List ℕ) → 512 ≤ length xs → length (take 512 xs) ≡ 512 = λ xs h. let taken = length-take 512 xs in omega (arith, taken) in
    ext_get_or 0 (take 512 other) (take 512 one) (count other (omega arith) ∙ sym (count one long))
    (λ i h. let inside : i < 512 = omega (arith, count other (omega arith)) in get_or-take 512 other i 0 inside ∙ same i inside ∙ sym (get_or-take 512 one i 0 inside))

module _ (o : Opening) (mem : Memory) (views : Views) (log : List Entry) (decided : ℕ → Bool) (x : World o mem views log decided) where
  module _ (k : ℕ) (inside : k < o.lanes) where
    -- what the lane may store is not there
    store_behind : (w x' : ℕ) (phase : Phase) → (views k).log.phase ≡ phase → (part : Part) → part_of (views k).lane w ≡ part → StoreFits (views k) w x' phase part → 512 ≤ w
    store_behind w x' Idle phase_is part is fits = absurd fits
    store_behind w x' (Open slot pair) phase_is GenerationWord is fits = let at = (generation_part (views k).lane w is).1 in omega arith
    store_behind w x' (Open slot pair) phase_is SealWord is fits = absurd fits
    store_behind w x' (Open slot pair) phase_is EntryWord is fits = let at = fits.at in omega arith
    store_behind w x' (Open slot pair) phase_is SlotWord is fits = let at = fits.at in omega arith
    store_behind w x' (Open slot pair) phase_is OtherWord is (inl writes) =
        let behind = behind_areas o mem views log decided x k w (writes_under o mem k (views k) w (x.each_lane k inside).locks writes.own) in omega arith
    store_behind w x' (Open slot pair) phase_is OtherWord is (inr (inl fills)) = let behind = (reserved_word o mem views log decided x k w inside fills.reserved).behind in omega arith
    store_behind w x' (Open slot pair) phase_is OtherWord is (inr (inr describes)) =
        let behind = (reserved_word o mem views log decided x k w inside (describing_reserved (views k) w x' describes)).behind in omega arith
    store_behind w x' Drawn phase_is GenerationWord is fits = let at = (generation_part (views k).lane w is).1 in omega arith
    store_behind w x' Drawn phase_is SealWord is fits = let at = (seal_part (views k).lane w is).1 in omega arith
    store_behind w x' Drawn phase_is EntryWord is fits = absurd fits
    store_behind w x' Drawn phase_is SlotWord is fits = absurd fits
    store_behind w x' Drawn phase_is OtherWord is fits = absurd fits
    store_behind w x' Sealing phase_is part is fits = absurd fits
    store_behind w x' (Applying applied) phase_is GenerationWord is fits = let at = (generation_part (views k).lane w is).1 in omega arith
    store_behind w x' (Applying applied) phase_is SealWord is fits = let at = (seal_part (views k).lane w is).1 in omega arith
    store_behind w x' (Applying applied) phase_is EntryWord is fits = absurd fits
    store_behind w x' (Applying applied) phase_is SlotWord is fits = absurd fits
    store_behind w x' (Applying applied) phase_is OtherWord is fits =
        ⊎_elim (λ (own : IsTrue (is_written (views k) w)).
        let behind = behind_areas o mem views log decided x k w (writes_under o mem k (views k) w (x.each_lane k inside).locks own) in omega arith)
        (λ other. ⊎_elim (λ (generation : (w ≡ area_word (views k).lane) × (((x.each_lane k inside).entries.each applied (set_word w x') fits).op ≡ op.Set)). let here = generation.0 in omega arith)
        (λ (alone : EntersAlone (views k) w). absurd (subst IsGrowing phase_is alone.1)) other) ((x.each_lane k inside).entries.each applied (set_word w x') fits).may.of
    store_behind w x' Clearing phase_is part is fits = absurd fits
    store_behind w x' Retiring phase_is part is fits = absurd fits

    -- nor what it may set or clear bits of
    change_behind : (op : Op) (w bits : ℕ) → MayChange (views k) op w bits → 512 ≤ w
    change_behind op w bits may =
        let t = changes_next (views k) op w bits (views k).log.phase refl (part_of (views k).lane w) refl may.fits in
        let own = (changes_written (Flies log decided k) (views k) op w bits (x.each_lane k inside).phase t).0 in
        let behind = behind_areas o mem views log decided x k w (writes_under o mem k (views k) w (x.each_lane k inside).locks own) in omega arith

    -- so a step leaves these words
    pub front_stays : (s : Step) (new : Memory) (i : ℕ) → IsLawful (views k) s → Moves k s mem new → i < 512 → new (PoolWord i) ≡ mem (PoolWord i)
    front_stays (Load w found) new i lawful moves low = moves.0 (PoolWord i)
    front_stays (Store w x') new i lawful moves low =
        let behind = store_behind w x' (views k).log.phase refl (part_of (views k).lane w) refl lawful.allowed.fits in
        moves.0 (PoolWord i) (other_pool i w (λ same. omega arith))
    front_stays (Or w bits found) new i lawful moves low =
        let behind = change_behind op.Or w bits lawful.allowed in moves.0.0 (PoolWord i) (other_pool i w (λ same. omega arith))
    front_stays (And w bits found) new i lawful moves low =
        let behind = change_behind op.And w bits lawful.allowed in moves.0.0 (PoolWord i) (other_pool i w (λ same. omega arith))
    front_stays (Flush line) new i lawful moves low = moves (PoolWord i)
    front_stays Drain new i lawful moves low = moves (PoolWord i)
    front_stays (TakeWrite line true) new i lawful moves low = moves.0 (PoolWord i) (pool-lock i line)
    front_stays (TakeWrite line false) new i lawful moves low = moves.0 (PoolWord i)
    front_stays (TakeRead line true) new i lawful moves low = moves.0 (PoolWord i) (pool-lock i line)
    front_stays (TakeRead line false) new i lawful moves low = moves.0 (PoolWord i)
    front_stays (Raise line won) new i lawful moves low = absurd moves
    front_stays (Give line) new i lawful moves low = moves.0 (PoolWord i) (pool-lock i line)
    front_stays (ZoneTry zone true) new i lawful moves low = moves.0.0 (PoolWord i) (other_zone_lock zone (PoolWord i) (plain_pool i))
    front_stays (ZoneTry zone false) new i lawful moves low = moves.0 (PoolWord i)
    front_stays (ZoneGive zone) new i lawful moves low = moves.0 (PoolWord i) (other_zone_lock zone (PoolWord i) (plain_pool i))
    front_stays (Occupied at found) new i lawful moves low = moves.0 (PoolWord i)
    front_stays (Occupy at bits true) new i lawful moves low = moves.0.0 (PoolWord i) (other_occ at (PoolWord i) (plain_pool i))
    front_stays (Occupy at bits false) new i lawful moves low = moves.0 (PoolWord i)
    front_stays (Vacate at bits) new i lawful moves low = moves.0 (PoolWord i) (other_occ at (PoolWord i) (plain_pool i))
    front_stays (Draw n) new i lawful moves low = moves.0.0 (PoolWord i) (pool-counter i)
    front_stays (NumberSeen n) new i lawful moves low = moves.0 (PoolWord i)
    front_stays (StopSeen set) new i lawful moves low = moves.0 (PoolWord i)
    front_stays SetStop new i lawful moves low = moves.0 (PoolWord i) (pool-stop i)
    front_stays (Tell operation reply) new i lawful moves low = moves (PoolWord i)

  -- and no power failure takes one back
  pub front_survives : (image : List ℕ) → Survives o mem views image → (i : ℕ) → i < 512 → slice_index image i ≡ mem (PoolWord i)
  front_survives image survives i low =
      let size = x.sound.size in
      word_stays o mem views log decided x image survives i (omega arith) (inl low) (before_zones o i (omega arith))
      (λ k c inside there is logs.
      let writes : WritesUnder o mem k i = ⊎_elim (λ (logged : is_logged (views k) i ≡ true). recorded_writes o mem views log decided x k i inside (logged_recorded (views k) i logged))
      (λ (redone : (is_redone (views k) i ≡ true) × (is_written (views k) i ≡ true)). writes_under o mem k (views k) i (x.each_lane k inside).locks redone.1) logs in
      let behind = behind_areas o mem views log decided x k i writes in omega arith)

  pub header_survives : (header : Header) (image : List ℕ) → Survives o mem views image → ((i : ℕ) → i < 512 → mem (PoolWord i) ≡ slice_index o.words i) → HasHeader o.words o.lanes o.zones header
      → HasHeader image o.lanes o.zones header
  header_survives header image survives front has =
      let size = x.sound.size in
      let same : page image ≡ page o.words = front_same o.words image (omega arith) survives.size (λ i low. front_survives image survives i low ∙ front i low) in
      record {
        has_shape = record { shape = has.has_shape.shape; size = has.has_shape.size ∙ ap (λ (n : ℕ). 8 * n) (sym survives.size) };
        header_in = subst (λ (words : List ℕ). IsHeaderIn words header) (sym same) has.header_in;
      }
