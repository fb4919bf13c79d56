-- A WORD OF AN UNDO RECORD is stored: a record is whole with its eighth word.
use Rattle.std.specs.Prelude.{List, [], ◌∷◌, ◌++◌, length, take, slice_index, slice_get, unwrap_or}
use Rattle.std.proofs.Common.{◌||◌, ◌≡◌, ◌≢◌, ℕ, zero, suc, ◌+◌, ◌-◌, ◌*◌, ◌/◌, ◌^◌, ◌<◌, ◌≤◌, ◌⊎◌, inl, inr, ⊎_elim, nat_le, nat_lt, Bool, true, false, cond, ◌==◌, ◌&&◌, refl, sym, ap, ◌∙◌, subst, arith, ne_eqb, Option, None, Some}
use Rattle.std.proofs.lemmas.Bool.{leb-true, cases_lt, cases_Bool, eqb-true, both_ways, and_parts, and_from, cond-true, cond-false, false_from_ne_true}
use Rattle.std.proofs.lemmas.List.{length-append}
use Rattle.std.proofs.lemmas.Option.{slice_get_within}
use Rattle.std.proofs.Math.ListN.{get_or-append}
use Rattle.std.proofs.Math.Seq.{get_or-append_seam}
use Rattle.pm_layout.specs.declared.shape.Shape.{Shape}
use Rattle.pm_layout.specs.Areas.{greatest_generation, word_of_generation, word_of_seal, word_of_entry, line_of_slot}
use Rattle.pm_record.specs.Undo.{undo_of}
use Rattle.pm_view.specs.Changes.{Undrained}
use Rattle.pm_view.specs.Claims.{class, first, pictured}
use Rattle.pm_view.specs.Counts.{MayCount}
use Rattle.pm_view.specs.Log.{Open, Recorded, Log, old_in, old_of, place_at, recorded, with_slot}
use Rattle.pm_view.specs.Parts.{Part, SlotPart, part_of}
use Rattle.pm_view.specs.Places.{Place, InRun, InHuge, Descr, RootWord, Small, Big, block_of, is_data, is_place, word_of, place_after, distance}
use Rattle.pm_view.specs.View.{View}
use Rattle.pm_world.specs.States.{given, read, put1}
use Rattle.pm_world.specs.Sights.{is_pictured, is_recorded, is_logged, call_of, sight_of}
use Rattle.pm_world.specs.Lanes.{owns, SightFits, Flies}
use Rattle.pm_world.specs.Lawful.{CanRecordAt, AppendsToSlot, MayStore}
use Rattle.pm_world.specs.Logs.{IsRecordAt, AreInRow, spelled, slot_list, used_slots, AreaChange, LogFits}
use Rattle.pm_world.specs.Laws.{Turn}
use Rattle.pm_world.specs.Memory.{Memory, PoolWord, Becomes, bit, cells_of}
use Rattle.pm_world.specs.World.{Opening, Views, Past, origin, ghost_of, settled_words, World}
use Rattle.pm_world.proofs.Basics.{some_cond}
use Rattle.pm_world.proofs.BlocksKnown.{first_so}
use Rattle.pm_world.proofs.RecordsAtPlaces.{data_pictured}
use Rattle.pm_world.proofs.Frame.{here_own, own_has}
use Rattle.pm_world.proofs.AfterStore.{after_store, keeps_at}
use Rattle.pm_world.proofs.Entering.{logged_recorded}
use Rattle.pm_world.proofs.EntryBits.{change_owned, change_plain, change_size}
use Rattle.pm_world.proofs.Going.{at_phase}
use Rattle.pm_world.proofs.PlacesAt.{HasUse, IsAt, is_at}
use Rattle.pm_world.proofs.RecordBits.{settled_known, run_alive, huge_alive}
use Rattle.pm_world.proofs.Recording.{Records, recorded_at, old_cases, logged_more, old_in_at, old_in_is, place_is, recorded_fits}
use Rattle.pm_world.proofs.Replays.{put1_here, put1_else}
use Rattle.pm_world.proofs.StepDraw.{all_cons}
use Rattle.pm_world.proofs.StoreArea.{undrained_by, logged_else, sight_logged, apart_in, Logged, area_world}
use Rattle.pm_world.proofs.StoreEntry.{root_owned, same_bits, get_more}
use Rattle.pm_world.specs.Laws.{KeepsAt}

-- ---- what eight words spell
abbrev Spells : Shape → (ℕ → ℕ) → ℕ → Recorded → Type 0
Spells sh class generation r = (recorded sh class (take 8 (spelled sh generation r)) ≡ r) × (take 8 (spelled sh generation r) ≡ spelled sh generation r)

spells : (sh : Shape) (class : ℕ → ℕ) (generation : ℕ) (p : Place) (old : List ℕ) → place_at sh class (word_of sh p) ≡ Some p → 1 ≤ length old → length old ≤ 4 → Spells sh class generation (record { place = p; old = old })
spells sh class generation p old e some most = go old some most
  where
    place_same : unwrap_or (place_at sh class (8 * word_of sh p / 8)) RootWord ≡ p
    place_same = ap (λ w. unwrap_or (place_at sh class w) RootWord) (let q : 8 * word_of sh p / 8 ≡ word_of sh p = omega arith in q) ∙ ap (λ y. unwrap_or y RootWord) e

    go : (old : List ℕ) → 1 ≤ length old → length old ≤ 4 → Spells sh class generation (record { place = p; old = old })
    go [] some most = absurd (omega arith)
    go (a ∷ []) some most = ((λ i. record { place = place_same i; old = a ∷ [] }), refl)
    go (a ∷ b ∷ []) some most = ((λ i. record { place = place_same i; old = a ∷ b ∷ [] }), refl)
    go (a ∷ b ∷ c ∷ []) some most = ((λ i. record { place = place_same i; old = a ∷ b ∷ c ∷ [] }), refl)
    go (a ∷ b ∷ c ∷ d ∷ []) some most = ((λ i. record { place = place_same i; old = a ∷ b ∷ c ∷ d ∷ [] }), refl)
    go (a ∷ b ∷ c ∷ d ∷ y ∷ old) some most = absurd (omega arith)

data_zero : (p : Place) → is_data (place_after p 0) ≡ true → is_data p ≡ true
data_zero (InRun c u) e = ap (nat_le 8) (let q : u ≡ u + 0 = omega arith in q) ∙ e
data_zero (InHuge c u) e = refl
data_zero (Descr c) e = absurd (both_ways false refl e)
data_zero RootWord e = absurd (both_ways false refl e)

used_most : (r s : ℕ) → r + cond (s == 0) 0 1 ≤ r + 1
used_most r s = go (s == 0)
  where
    go : (t : Bool) → r + cond t 0 1 ≤ r + 1
    go true = omega arith
    go false = omega arith

module _ (w n : ℕ) (o : Opening) (mem new : Memory) (views views' : Views) (g : Past) (k : ℕ) (x : World o mem views g) (ink : k < o.lanes) (m : MayStore (views k) w n) (due : MayCount (views k)) (a : AppendsToSlot (views k) w n)
    (open_ : (views k).log.phase ≡ Open) (in_slot : part_of (views k).fixed.shape (views k).fixed.lane w ≡ SlotPart) (b : Becomes (PoolWord w) n mem new) where
  abbrev rs : List Recorded
  rs = (views k).log.records

  abbrev OldLog : Log → Type 0
  OldLog log = LogFits o.shape k ((cells_of o.shape mem).generation k) ((cells_of o.shape mem).seal k) ((cells_of o.shape mem).entry k) ((cells_of o.shape mem).slot k) (settled_words o g) (owns g.geo (settled_words o g) (sight_of (views k)).hold) (sight_of (views k)).picture log (views k).changes

  l : OldLog (record (views k).log { phase = Open })
  l = subst (λ z. OldLog (record (views k).log { phase = z })) open_ (x.each_lane k ink).log

  at_open : SightFits o.shape (cells_of o.shape mem) (settled_words o g) (Flies (ghost_of g) k) (ghost_of g) k (record (sight_of (views k)) { phase = Open })
  at_open = at_phase o.shape o.lanes (origin o) (cells_of o.shape mem) (λ j. sight_of (views j)) (ghost_of g) x.bits k ink Open open_

  short : length (views k).log.slot < 8
  short = l.phase.0

  free : length (views k).log.records < 64
  free = a.free

  lane_at : w ≡ 8 * line_of_slot o.shape k (length (views k).log.records) + length (views k).log.slot
  lane_at = let e = (x.each_lane k ink).lane in let q = a.at in omega arith

  at : w ≡ word_of_generation o.shape k + (136 + 8 * length (views k).log.records + length (views k).log.slot)
  at = let q = lane_at in omega arith

  in_area : 136 + 8 * length (views k).log.records + length (views k).log.slot < 1024
  in_area = let s = short in let r = free in omega arith

  abbrev LoggedNow : Log → Type 0
  LoggedNow log = Logged o mem new views views' g x k ink w n (136 + 8 * length (views k).log.records + length (views k).log.slot) at in_area m due b log

  else_ : (u : ℕ) → u ≢ w → put1 (λ u. mem (PoolWord u)) w n u ≡ mem (PoolWord u)
  else_ u ne = put1_else (λ u. mem (PoolWord u)) w n u ne

  slot_else : (j y : ℕ) → j ≢ length (views k).log.records → y < 8 → put1 (λ u. mem (PoolWord u)) w n (8 * line_of_slot o.shape k j + y) ≡ mem (PoolWord (8 * line_of_slot o.shape k j + y))
  slot_else j y ne s = else_ (8 * line_of_slot o.shape k j + y) (λ q. ne (let p = lane_at in let z = short in omega arith))

  slots : (j : ℕ) → j ≢ length (views k).log.records → slot_list (λ y. put1 (λ u. mem (PoolWord u)) w n (8 * line_of_slot o.shape k j + y)) ≡ slot_list ((cells_of o.shape mem).slot k j)
  slots j ne = λ t. slot_else j 0 ne (omega arith) t ∷ slot_else j 1 ne (omega arith) t ∷ slot_else j 2 ne (omega arith) t ∷ slot_else j 3 ne (omega arith) t ∷ slot_else j 4 ne (omega arith) t ∷ slot_else j 5 ne (omega arith) t ∷ slot_else j 6 ne (omega arith) t ∷ slot_else j 7 ne (omega arith) t ∷ []

  entry_else : (j h : ℕ) → j < 64 → h < 2 → put1 (λ u. mem (PoolWord u)) w n (word_of_entry o.shape k j + h) ≡ mem (PoolWord (word_of_entry o.shape k j + h))
  entry_else j h r s = else_ (word_of_entry o.shape k j + h) (λ q. let p = lane_at in omega arith)

  no_entries : length (views k).log.entries ≡ 0
  no_entries = ap length a.unentered

  -- the log over the new words
  log_with : (rs' : List Recorded) (slot' : List ℕ) → used_slots (record (views k).log { records = rs'; slot = slot' }) ≡ length (views k).log.records + 1 → length slot' < 8
      → ((j : ℕ) (r : Recorded) → slice_get rs' j ≡ Some r → ((y : ℕ) → y < 8 → put1 (λ u. mem (PoolWord u)) w n (8 * line_of_slot o.shape k j + y) ≡ slice_index (spelled o.shape (views k).log.generation r) y) × (1 ≤ length r.old) × (length r.old ≤ 4)
      × (is_place o.shape r.place ≡ true) × (is_data r.place ≡ true) × AreInRow o.shape r)
      → ((j i : ℕ) (r q : Recorded) (p : Place) (y z : ℕ) → slice_get rs' j ≡ Some r → slice_get rs' i ≡ Some q → old_in r p ≡ Some y → old_in q p ≡ Some z → j ≡ i)
      → ((p : Place) (y : ℕ) → old_of rs' p ≡ Some y → (c : ℕ) → (owns g.geo (settled_words o g) (sight_of (views k)).hold p c ≡ true) × (settled_words o g p c ≡ bit y c))
      → ((y : ℕ) → y < length slot' → put1 (λ u. mem (PoolWord u)) w n (8 * line_of_slot o.shape k (length rs') + y) ≡ slice_index slot' y)
      → LoggedNow (record (views k).log { phase = Open; records = rs'; slot = slot' })
  log_with rs' slot' used few records once olds parts = record {
    first = l.first;
    last = l.last;
    below = λ _. subst (λ s. (views k).log.generation < greatest_generation s) (x.each_lane k ink).shape a.below;
    stored = else_ (word_of_generation o.shape k) (λ q. let p = lane_at in omega arith) ∙ l.stored;
    bump = l.bump;
    sealed = else_ (word_of_seal o.shape k) (λ q. let p = lane_at in omega arith) ∙ l.sealed;
    entries_most = l.entries_most;
    records_most = let u = used in let r = free in omega arith;
    pairs = λ j e q. let t = l.pairs j e q in let r = slice_get_within (views k).log.entries j e q in let z = no_entries in absurd (omega arith);
    pair_part = λ j q. let z = no_entries in let s = l.phase.1 in entry_else (length (views k).log.entries) j (omega arith) (omega arith) ∙ l.pair_part j q;
    records = records;
    once = once;
    olds = λ p y q c. let t = olds p y q c in (t.0, λ _. t.1);
    slot_part = parts;
    stale = λ j u q z t. let s = used in let ne : j ≢ length (views k).log.records = λ e. omega arith in l.stale j u (let r = used_most (length (views k).log.records) (length (views k).log.slot) in omega arith) z (sym (ap undo_of (slots j ne)) ∙ t);
    slot_changes = all_cons (λ (c : Undrained). part_of o.shape k c.word ≡ Rattle.pm_view.specs.Parts.SlotPart → c.word < 8 * line_of_slot o.shape k (Rattle.pm_world.specs.Logs.used_slots (record (views k).log { records = rs'; slot = slot' }))) (undrained_by (views k) w) (views k).changes (λ _. let e = lane_at in let s = short in let u = used in omega arith)
        (λ i d q p. let z = l.slot_changes i d q p in let r = used_most (length (views k).log.records) (length (views k).log.slot) in let u = used in omega arith);
    area_changes = all_cons (λ (c : Undrained). AreaChange Open (length (views k).log.entries) (views k).log.generation (part_of o.shape k c.word) c) (undrained_by (views k) w) (views k).changes
        (subst (λ p. AreaChange Open (length (views k).log.entries) (views k).log.generation p (undrained_by (views k) w)) (sym (subst (λ i. part_of o.shape i w ≡ SlotPart) (x.each_lane k ink).lane (subst (λ s. part_of s (views k).fixed.lane w ≡ SlotPart) (x.each_lane k ink).shape in_slot))) tt) l.area_changes;
    phase = (few, l.phase.1);
  }

  old_records : (j : ℕ) (r : Recorded) → slice_get (views k).log.records j ≡ Some r → ((y : ℕ) → y < 8 → put1 (λ u. mem (PoolWord u)) w n (8 * line_of_slot o.shape k j + y) ≡ slice_index (spelled o.shape (views k).log.generation r) y) × (1 ≤ length r.old) × (length r.old ≤ 4)
      × (is_place o.shape r.place ≡ true) × (is_data r.place ≡ true) × AreInRow o.shape r
  old_records j r q = let t = l.records j r q in let z = slice_get_within (views k).log.records j r q in (λ y s. slot_else j y (λ e. omega arith) s ∙ t.0 y s, t.1, t.2, t.3, t.4, t.5)

  -- THE WORLD with this log
  world_with_log : (rs' : List Recorded) (slot' : List ℕ) → ((p : Place) → is_recorded rs' p ≡ true → Rattle.pm_world.specs.World.RecordedFits g.geo (sight_of (views k)) p) → ((p : Place) → is_logged (views k).fixed.shape (views k).fixed.lane (undrained_by (views k) w ∷ (views k).changes) rs' p ≡ is_logged (views k).fixed.shape (views k).fixed.lane (views k).changes (views k).log.records p)
      → SightFits o.shape (cells_of o.shape mem) (settled_words o g) (Flies (ghost_of g) k) (ghost_of g) k (record (sight_of (views k)) { phase = Open; call = call_of (views k).fixed.shape (views k).claims (record (views k).log { records = rs'; slot = slot' }) })
      → LoggedNow (record (views k).log { phase = Open; records = rs'; slot = slot' }) → Turn views views' k (after_store (views k) w n (record (views k).log { records = rs'; slot = slot' })) → World o new views' g
  world_with_log rs' slot' recs same sight fits t = let log = record (views k).log { records = rs'; slot = slot' } in let i = 136 + 8 * length (views k).log.records + length (views k).log.slot in let apart = apart_in o mem new views views' g x k ink w n i at in_area m due b in
      area_world o mem new views views' g x k ink w n i at in_area m due b log (λ j y. y)
      (subst (λ z. SightFits o.shape (cells_of o.shape mem) (settled_words o g) (Flies (ghost_of g) k) (ghost_of g) k (record (sight_logged (views k) w n apart log) { phase = z })) (sym open_)
      (subst (λ y. SightFits o.shape (cells_of o.shape mem) (settled_words o g) (Flies (ghost_of g) k) (ghost_of g) k (record (sight_logged (views k) w n apart log) { phase = Open; logged = y })) (λ c p. sym (same p) c) sight))
      (subst (λ z. LoggedNow (record (views k).log { phase = z; records = rs'; slot = slot' })) (sym open_) fits) (x.each_lane k ink).number (λ u. absurd (both_ways (Rattle.pm_world.specs.Lanes.is_decided (views k).log.phase) (ap Rattle.pm_world.specs.Lanes.is_decided open_) u)) (λ _ p q. recs p q) t

  line_at : w / 8 ≡ line_of_slot (views k).fixed.shape (views k).fixed.lane (0 + length (views k).log.records)
  line_at = let e = (x.each_lane k ink).lane in let q = lane_at in let s = short in omega arith

  -- the words stored so far, and this one
  stored_part : (y : ℕ) → y < length (views k).log.slot + 1 → put1 (λ u. mem (PoolWord u)) w n (8 * line_of_slot o.shape k (length (views k).log.records) + y) ≡ slice_index ((views k).log.slot ++ n ∷ []) y
  stored_part y s = ⊎_elim (λ (q : y < length (views k).log.slot). else_ (8 * line_of_slot o.shape k (length (views k).log.records) + y) (λ e. let p = lane_at in omega arith) ∙ (l.slot_part y q ∙ sym (get_or-append (views k).log.slot (n ∷ []) 0 y q)))
      (λ (q : length (views k).log.slot ≤ y). let z : y ≡ length (views k).log.slot = omega arith in let p : 8 * line_of_slot o.shape k (length (views k).log.records) + y ≡ w = let e = lane_at in omega arith in
      ap (put1 (λ u. mem (PoolWord u)) w n) p ∙ (put1_here (λ u. mem (PoolWord u)) w n ∙ sym (ap (slice_index ((views k).log.slot ++ n ∷ [])) z ∙ get_or-append_seam (views k).log.slot n [] 0))) (cases_lt y (length (views k).log.slot))

  -- a word before the last
  part_word : (length ((views k).log.slot ++ n ∷ []) == 8) ≡ false → Turn views views' k (after_store (views k) w n (record (views k).log { slot = (views k).log.slot ++ n ∷ [] })) → World o new views' g
  part_word few t = let len = length-append (views k).log.slot (n ∷ []) in let s = short in world_with_log (views k).log.records ((views k).log.slot ++ n ∷ []) (λ p q. (x.each_lane k ink).recorded (ap Rattle.pm_world.specs.Lanes.is_decided open_) p q)
      (λ p. logged_else (views k).fixed.shape (views k).fixed.lane (undrained_by (views k) w) (views k).changes 0 (views k).log.records p (λ i r q. let e = line_at in omega arith)) at_open
      (log_with (views k).log.records ((views k).log.slot ++ n ∷ []) (ap (λ y. length (views k).log.records + cond y 0 1) (ne_eqb (length ((views k).log.slot ++ n ∷ [])) 0 (λ e. omega arith)))
      (not_eight (length ((views k).log.slot ++ n ∷ [])) (omega arith) few) old_records l.once (λ p y q c. let z = l.olds p y q c in (z.0, z.1 refl)) (λ y q. stored_part y (omega arith))) t
    where
      not_eight : (y : ℕ) → y ≤ 8 → (y == 8) ≡ false → y < 8
      not_eight y le ne = ⊎_elim (λ (q : y < 8). q) (λ (q : 8 ≤ y). absurd (both_ways (y == 8) ne (Rattle.std.proofs.Common.eq-eqb y 8 (omega arith)))) (cases_lt y 8)

  -- ---- the last word: the record is whole
  next : Recorded
  next = a.next

  use_at : IsAt (views k).fixed.shape (class (views k).claims) (word_of (views k).fixed.shape a.next.place) a.next.place
  use_at = is_at (views k).fixed.shape (class (views k).claims) (word_of (views k).fixed.shape a.next.place) a.next.place a.can.use_

  of_word : (p : Place) → given (old_in a.next p) ≡ true → CanRecordAt (views k) p (slice_index a.next.old (distance a.next.place p))
  of_word p t = let y = old_in_at a.next p t in subst (λ q. CanRecordAt (views k) q (slice_index a.next.old (distance a.next.place p))) (place_is a.next.place p y.0) (a.can.each (distance a.next.place p) y.1)

  word_use : (p : Place) → given (old_in a.next p) ≡ true → HasUse (class (views k).claims) p
  word_use p t = (is_at (views k).fixed.shape (class (views k).claims) (word_of (views k).fixed.shape p) p (of_word p t).word.use_).use_

  asked : Records (settled_words o g) (ghost_of g) (views k) a.next
  asked = record {
    reach = λ p c t. change_owned o.shape (cells_of o.shape mem) (settled_words o g) (Flies (ghost_of g) k) (ghost_of g) x.bits.geo k (views k) at_open (root_owned o mem views g x k ink) p (of_word p t).word.own c;
    plain = λ p t. change_plain o.shape (cells_of o.shape mem) (settled_words o g) (Flies (ghost_of g) k) (ghost_of g) x.bits.geo k (views k) at_open (root_owned o mem views g x k ink) p (word_use p t) (of_word p t).word.own;
    sizes = λ p t. change_size o.shape (cells_of o.shape mem) (settled_words o g) (Flies (ghost_of g) k) (ghost_of g) x.bits.geo k (views k) at_open (root_owned o mem views g x k ink) p (of_word p t).word.own;
  }

  small_word : (p : Place) (y : ℕ) → is_data p ≡ true → ((c : ℕ) → read (cells_of o.shape mem).pool p c ≡ bit y c) → y < 2 ^ 64
  small_word p y d h = go p d h
    where
      by_word : (t : Bool) (u : ℕ) → u < 2 ^ 64 → ((c : ℕ) → (t && bit u c) ≡ bit y c) → y < 2 ^ 64
      by_word true u s h = subst (λ z. z < 2 ^ 64) (same_bits u y h) s
      by_word false u s h = subst (λ z. z < 2 ^ 64) (same_bits 0 y (λ c. ap (λ z. z == 1) (Rattle.std.proofs.lemmas.Nat.Bits.bit_at-zero c) ∙ h c)) (omega arith)

      go : (p : Place) → is_data p ≡ true → ((c : ℕ) → read (cells_of o.shape mem).pool p c ≡ bit y c) → y < 2 ^ 64
      go (InRun c u) d h = by_word (is_place o.shape (InRun c u)) (mem (PoolWord (word_of o.shape (InRun c u)))) (x.small (word_of o.shape (InRun c u))) h
      go (InHuge c u) d h = by_word (is_place o.shape (InRun c u)) (mem (PoolWord (word_of o.shape (InRun c u)))) (x.small (word_of o.shape (InRun c u))) h
      go (Descr c) d h = absurd (both_ways false refl d)
      go RootWord d h = absurd (both_ways false refl d)

  -- what is recorded is settled
  settled_word : (p : Place) (y : ℕ) → CanRecordAt (views k) p y → ((c : ℕ) → owns g.geo (settled_words o g) (sight_of (views k)).hold p c ≡ true) → (c : ℕ) → settled_words o g p c ≡ bit y c
  settled_word p y q own c = go p q own
    where
      unlogged : (p : Place) → is_recorded (views k).log.records p ≡ false → (sight_of (views k)).logged p ≡ false
      unlogged p e = false_from_ne_true ((sight_of (views k)).logged p) (λ t. both_ways (is_recorded (views k).log.records p) e (logged_recorded (views k).fixed.shape (views k).fixed.lane (views k).changes 0 (views k).log.records p t))

      go : (p : Place) → CanRecordAt (views k) p y → ((c : ℕ) → owns g.geo (settled_words o g) (sight_of (views k)).hold p c ≡ true) → settled_words o g p c ≡ bit y c
      go (InRun d u) q own = let high = (and_parts (nat_lt d (Rattle.pm_layout.specs.Chunks.chunks_of (views k).fixed.shape)) (nat_lt u 512) q.word.place).1 in
          (settled_known o.shape (cells_of o.shape mem) (settled_words o g) (Flies (ghost_of g) k) (ghost_of g) x.bits.geo k (views k) at_open small_word (InRun d u) y (and_from (nat_le 8 u) (nat_lt u 512) q.word.plain high) q.word.present
          (run_alive o.shape (cells_of o.shape mem) (settled_words o g) (Flies (ghost_of g) k) (ghost_of g) x.bits.geo k (views k) at_open small_word d u q.word.plain high q.word.own.0 q.size q.sized q.within) (unlogged (InRun d u) q.word.new) c (own c)).0
      go (InHuge d u) q own = let high = (and_parts (nat_lt d (Rattle.pm_layout.specs.Chunks.chunks_of (views k).fixed.shape)) (nat_lt u 512) q.word.place).1 in
          (settled_known o.shape (cells_of o.shape mem) (settled_words o g) (Flies (ghost_of g) k) (ghost_of g) x.bits.geo k (views k) at_open small_word (InHuge d u) y high q.word.present
          (huge_alive o.shape (cells_of o.shape mem) (settled_words o g) (Flies (ghost_of g) k) (ghost_of g) x.bits.geo k (views k) at_open small_word d u high q.word.own.0 q.size q.sized q.within) (unlogged (InHuge d u) q.word.new) c (own c)).0
      go (Descr d) q own = absurd q.word.own
      go RootWord q own = absurd (both_ways false refl q.word.plain)

  module _ (full : length ((views k).log.slot ++ n ∷ []) ≡ 8) where
    seven : length (views k).log.slot ≡ 7
    seven = let e = length-append (views k).log.slot (n ∷ []) in omega arith

    eight : (views k).log.slot ++ n ∷ [] ≡ take 8 (spelled (views k).fixed.shape (views k).log.generation a.next)
    eight = a.spells ∙ ap (λ y. take (y + 1) (spelled (views k).fixed.shape (views k).log.generation a.next)) seven

    spelled_ : Spells (views k).fixed.shape (class (views k).claims) (views k).log.generation a.next
    spelled_ = spells (views k).fixed.shape (class (views k).claims) (views k).log.generation a.next.place a.next.old a.can.use_ a.can.some a.can.most

    is_next : recorded (views k).fixed.shape (class (views k).claims) ((views k).log.slot ++ n ∷ []) ≡ a.next
    is_next = ap (recorded (views k).fixed.shape (class (views k).claims)) eight ∙ spelled_.0

    inside : (p : Place) → is_place (views k).fixed.shape p ≡ true → is_place o.shape p ≡ true
    inside p e = subst (λ s. is_place s p ≡ true) (x.each_lane k ink).shape e

    next_record : (j : ℕ) (r : Recorded) → j ≡ length (views k).log.records → a.next ≡ r → ((y : ℕ) → y < 8 → put1 (λ u. mem (PoolWord u)) w n (8 * line_of_slot o.shape k j + y) ≡ slice_index (spelled o.shape (views k).log.generation r) y) × (1 ≤ length r.old) × (length r.old ≤ 4)
        × (is_place o.shape r.place ≡ true) × (is_data r.place ≡ true) × AreInRow o.shape r
    next_record j r z q = subst (λ r. ((y : ℕ) → y < 8 → put1 (λ u. mem (PoolWord u)) w n (8 * line_of_slot o.shape k j + y) ≡ slice_index (spelled o.shape (views k).log.generation r) y) × (1 ≤ length r.old) × (length r.old ≤ 4)
        × (is_place o.shape r.place ≡ true) × (is_data r.place ≡ true) × AreInRow o.shape r) q (
          λ y s. ap (λ i. put1 (λ u. mem (PoolWord u)) w n (8 * line_of_slot o.shape k i + y)) z ∙ (stored_part y (let e = seven in omega arith) ∙ (ap (λ t. slice_index t y) (eight ∙ spelled_.1) ∙ ap (λ h. slice_index (spelled h (views k).log.generation a.next) y) (x.each_lane k ink).shape)),
          a.can.some,
          a.can.most,
          inside a.next.place use_at.inside,
          data_zero a.next.place (a.can.each 0 (let e = a.can.some in omega arith)).word.plain,
          subst (λ h. AreInRow h a.next) (x.each_lane k ink).shape a.can.row,
        )

    next_once : (j i : ℕ) (r q : Recorded) (p : Place) (y z : ℕ) → slice_get ((views k).log.records ++ a.next ∷ []) j ≡ Some r → slice_get ((views k).log.records ++ a.next ∷ []) i ≡ Some q → old_in r p ≡ Some y → old_in q p ≡ Some z → j ≡ i
    next_once j i r q p y z e d s t = ⊎_elim (λ (u : slice_get (views k).log.records j ≡ Some r). ⊎_elim (λ (v : slice_get (views k).log.records i ≡ Some q). l.once j i r q p y z u v s t)
        (λ (v : (i ≡ length (views k).log.records) × (a.next ≡ q)). absurd (clash j r p u (ap given s) (ap (λ h. given (old_in h p)) v.1 ∙ ap given t))) (get_more (views k).log.records a.next i q d))
        (λ (u : (j ≡ length (views k).log.records) × (a.next ≡ r)). ⊎_elim (λ (v : slice_get (views k).log.records i ≡ Some q). absurd (clash i q p v (ap given t) (ap (λ h. given (old_in h p)) u.1 ∙ ap given s)))
        (λ (v : (i ≡ length (views k).log.records) × (a.next ≡ q)). u.0 ∙ sym v.0) (get_more (views k).log.records a.next i q d)) (get_more (views k).log.records a.next j r e)
      where
        clash : (j : ℕ) (r : Recorded) (p : Place) → slice_get (views k).log.records j ≡ Some r → given (old_in r p) ≡ true → given (old_in a.next p) ≡ true → ⊥
        clash j r p e s t = both_ways (is_recorded (views k).log.records p) (of_word p t).word.new (recorded_at (views k).log.records j r p e s)

    next_olds : (p : Place) (y : ℕ) → old_of ((views k).log.records ++ a.next ∷ []) p ≡ Some y → (c : ℕ) → (owns g.geo (settled_words o g) (sight_of (views k)).hold p c ≡ true) × (settled_words o g p c ≡ bit y c)
    next_olds p y e c = ⊎_elim (λ (t : old_of (views k).log.records p ≡ Some y). let z = l.olds p y t c in (z.0, z.1 refl))
        (λ (t : old_in a.next p ≡ Some y). let s = ap given t in (asked.reach p c s, settled_word p y (subst (CanRecordAt (views k) p) (old_in_is a.next p y t) (of_word p s)) (λ b. asked.reach p b s) c)) (old_cases (views k).log.records a.next p y e)

    fits_of : (p : Place) (y : ℕ) → CanRecordAt (views k) p y → Rattle.pm_world.specs.World.RecordedFits g.geo (sight_of (views k)) p
    fits_of p y q = (q.word.plain, λ b. (found_here p q b, seen b))
      where
        pic : pictured (views k).fixed.shape (views k).claims (word_of (views k).fixed.shape p) ≡ Some y
        pic = some_cond (Rattle.pm_view.specs.View.runs_one (views k) || Rattle.pm_view.specs.Claims.is_held (views k).fixed.shape (views k).claims (word_of (views k).fixed.shape p)) (pictured (views k).fixed.shape (views k).claims (word_of (views k).fixed.shape p)) y q.word.present

        seen : (b : ℕ) → given ((sight_of (views k)).picture p b) ≡ true
        seen b = ap given (cond-true (is_pictured p) _ _ (data_pictured (views k).fixed.shape p q.word.plain q.word.place) ∙ ap (Rattle.std.specs.Option.option_map (λ z. Rattle.std.specs.Int.bit_at z b == 1)) pic)

        found_here : (p : Place) → CanRecordAt (views k) p y → (b : ℕ) → (sight_of (views k)).hold.here (block_of g.geo p b) ≡ true
        found_here (InRun d u) q b = let low = leb-true 8 u q.word.plain in let z : (u == 0) ≡ false = ne_eqb u 0 (λ e. omega arith) in let i = (u / 8 - 1) / class (views k).claims d in
            let h : (sight_of (views k)).hold.here (Small d i) ≡ true = sym (ap (λ m. (sight_of (views k)).hold.here (Small d m)) (cond-false (u == 0) 64 i z)) ∙ q.word.own.0 in
            let same = (x.bits.each_lane k).hold.class d i (own_has (sight_of (views k)).hold (Small d i) (here_own (sight_of (views k)).hold (Small d i) h)) in
            ap (λ m. (sight_of (views k)).hold.here (Small d m)) (cond-false (u == 0) b ((u / 8 - 1) / g.geo.class d) z ∙ ap (λ m. (u / 8 - 1) / m) (sym same)) ∙ h
        found_here (InHuge d u) q b = let f = first (views k).fixed.shape (views k).claims d in
            let same = sym (first_so o.shape (cells_of o.shape mem) (settled_words o g) (Flies (ghost_of g) k) (ghost_of g) x.bits.geo k (views k) (views k).log.phase (x.bits.each_lane k) d (own_has (sight_of (views k)).hold (Big f) (here_own (sight_of (views k)).hold (Big f) q.word.own.0))) in
            ap (λ m. (sight_of (views k)).hold.here (Big m)) same ∙ q.word.own.0
        found_here (Descr d) q b = absurd q.word.own
        found_here RootWord q b = absurd (both_ways false refl q.word.plain)

    next_recorded : (p : Place) → is_recorded ((views k).log.records ++ a.next ∷ []) p ≡ true → Rattle.pm_world.specs.World.RecordedFits g.geo (sight_of (views k)) p
    next_recorded p q = let y = Rattle.pm_world.proofs.Basics.some_of (old_of ((views k).log.records ++ a.next ∷ []) p) q in
        ⊎_elim (λ (t : old_of (views k).log.records p ≡ Some y.0). (x.each_lane k ink).recorded (ap Rattle.pm_world.specs.Lanes.is_decided open_) p (ap given t))
        (λ (t : old_in a.next p ≡ Some y.0). fits_of p y.0 (subst (CanRecordAt (views k) p) (old_in_is a.next p y.0 t) (of_word p (ap given t)))) (old_cases (views k).log.records a.next p y.0 y.1)

    last_word : Turn views views' k (after_store (views k) w n (record (views k).log { records = (views k).log.records ++ recorded (views k).fixed.shape (class (views k).claims) ((views k).log.slot ++ n ∷ []) ∷ []; slot = [] })) → World o new views' g
    last_word t = world_with_log ((views k).log.records ++ a.next ∷ []) [] next_recorded
        (λ p. logged_more (views k).fixed.shape (views k).fixed.lane (undrained_by (views k) w) (views k).changes 0 (views k).log.records a.next p line_at)
        (recorded_fits o.shape (cells_of o.shape mem) (settled_words o g) (Flies (ghost_of g) k) (ghost_of g) k (views k) at_open a.next asked)
        (log_with ((views k).log.records ++ a.next ∷ []) [] (let e = length-append (views k).log.records (a.next ∷ []) in omega arith) (omega arith)
        (λ j r q. ⊎_elim (λ (z : slice_get (views k).log.records j ≡ Some r). old_records j r z) (λ (z : (j ≡ length (views k).log.records) × (a.next ≡ r)). next_record j r z.0 z.1) (get_more (views k).log.records a.next j r q))
        next_once next_olds (λ y q. absurd (omega arith)))
        (subst (λ r. Turn views views' k (after_store (views k) w n (record (views k).log { records = (views k).log.records ++ r ∷ []; slot = [] }))) is_next t)

  record_word : Turn views views' k (after_store (views k) w n (with_slot (views k).fixed.shape (class (views k).claims) ((views k).log.slot ++ n ∷ []) (views k).log)) → World o new views' g
  record_word t = let words = (views k).log.slot ++ n ∷ [] in let whole = record (views k).log { records = (views k).log.records ++ recorded (views k).fixed.shape (class (views k).claims) words ∷ []; slot = [] } in let part = record (views k).log { slot = words } in
      ⊎_elim (λ (e : (length words == 8) ≡ true). last_word (eqb-true (length words) 8 e) (subst (λ y. Turn views views' k (after_store (views k) w n (cond y whole part))) e t))
      (λ (e : (length words == 8) ≡ false). part_word e (subst (λ y. Turn views views' k (after_store (views k) w n (cond y whole part))) e t)) (cases_Bool (length words == 8))

-- A WORD OF A RECORD KEEPS THE WORLD
pub store_record : KeepsAt Open SlotPart
store_record = keeps_at Open SlotPart (λ w n o mem new views views' g k x ink m due a e p b t. record_word w n o mem new views views' g k x ink m due a e p b t)
