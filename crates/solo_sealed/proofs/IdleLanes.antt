-- In a world each lane of which no call is open has a clean log, by words that the memory has.
use Rattle.std.proofs.Common.{◌≡◌, ℕ, ◌+◌, ◌*◌, ◌<◌, ◌≤◌, Bool, true, List, length, slice_index, sym, ap, ◌∙◌, subst, arith}
use Rattle.std.proofs.lemmas.Bool.{and_from, le-leb, lt-ltb}
use Rattle.pm_record.specs.Undo.{undo_of}
use Rattle.solo_view.specs.Area.{area_word, is_in_area}
use Rattle.solo_view.specs.Log.{Recorded}
use Rattle.solo_view.specs.Log.Phase.{Idle}
use Rattle.pm_image.specs.Logs.{slot_line, undo_slot}
use Rattle.solo_world.specs.Entries.{seal_in}
use Rattle.solo_world.specs.Fits.{LaneFits, PhaseFits}
use Rattle.solo_world.specs.History.{Entry, Flies, settled}
use Rattle.solo_world.specs.Memory.{Memory}
use Rattle.solo_world.specs.Memory.Location.{PoolWord}
use Rattle.solo_world.specs.Opening.{Opening}
use Rattle.solo_world.specs.Opens.{IsClean}
use Rattle.solo_world.specs.Records.{generation_of, records_generation, used_slots}
use Rattle.solo_world.specs.World.{Views, World}
use Rattle.solo_world.proofs.CrashWords.{slot_same}

module _ (o : Opening) (mem : Memory) (views : Views) (log : List Entry) (decided : ℕ → Bool) (world : World o mem views log decided) (words : List ℕ) (long : length words ≡ length o.words) (sees : (w : ℕ) → mem (PoolWord w) ≡ slice_index words w)
    (j : ℕ) (in_lanes : j < o.lanes) (idle : (views j).log.phase ≡ Idle) where
  its : LaneFits o mem (settled o log decided) (Flies log decided j) j (views j)
  its = world.each_lane j in_lanes

  -- a word of its area is as these have it
  area : (w : ℕ) → area_word j ≤ w → w < area_word j + 1024 → slice_index words w ≡ slice_index (views j).words w
  area w low high =
      let here : is_in_area (views j).lane w ≡ true = ap (λ lane. is_in_area lane w) its.lane.lane ∙ and_from _ _ (le-leb (area_word j) w low) (lt-ltb w (area_word j + 1024) high) in
      sym (sees w) ∙ its.picture.area w here

  its_lane : (lane : ℕ) → lane ≡ j → slice_index (views j).words (area_word lane) ≡ slice_index words (area_word j)
  its_lane lane same = ap (λ l. slice_index (views j).words (area_word l)) same ∙ sym (area (area_word j) (omega arith) (omega arith))

  generation : generation_of (views j) ≡ slice_index words (area_word j)
  generation = its_lane (views j).lane its.lane.lane

  slot_stays : (slot : ℕ) → slot < 64 → undo_slot words j slot ≡ undo_slot (views j).words (views j).lane slot
  slot_stays slot low =
      let all = world.sound.size in let its_long = its.lane.size in
      slot_same words (views j).words (8 * slot_line j slot) (omega (arith, all, long, in_lanes, low)) (omega (arith, all, its_long, in_lanes, low))
      (λ i from to. area i (omega (arith, from)) (omega (arith, to, low)))
      ∙ ap (λ lane. undo_slot (views j).words lane slot) (sym its.lane.lane)

  pub idle_clean : IsClean (record o { words = words }) j
  idle_clean =
      let same = generation in let first = its.first_generation in let last = its.last_generation in record {
        unsealed = area (area_word j + 1) (omega arith) (omega arith) ∙ (ap (λ l. slice_index (views j).words (area_word l + 1)) (sym its.lane.lane) ∙ (its.entries.seal ∙ ap (λ p. seal_in p (views j)) idle));
        first_generation = omega (arith, same, first);
        last_generation = omega (arith, same, last);
        stale = λ slot u low there.
            let none = (subst (PhaseFits (Flies log decided j) (views j)) idle its.phase).no_records in
            let no_records : used_slots (views j).log.phase (views j) ≡ 0 = ap (λ p. used_slots p (views j)) idle ∙ ap (λ (rs : List Recorded). length rs) none in
            let older = its.log.stale slot u (omega (arith, no_records)) low (ap undo_of (sym (slot_stays slot low)) ∙ there) in
            let is : records_generation (views j).log.phase (views j) ≡ generation_of (views j) = ap (λ p. records_generation p (views j)) idle in
            omega (arith, older, is, same);
      }
