-- The logs of an image that a power failure leaves of a log that is published have no fault.
use Rattle.std.proofs.Common.{◌≡◌, ◌≢◌, ◌⊎◌, ⊎_elim, inl, inr, ℕ, zero, suc, ◌+◌, ◌*◌, ◌/◌, ◌%◌, ◌<◌, ◌≤◌, ◌&&◌, ◌||◌, Bool, true, false, not, eqb, leb, ltb, List, [], ◌∷◌, ◌++◌, length, get_or, slice_get, slice_index, Option, Some, None, refl, sym, ◌∙◌, ap, subst, arith, length-append}
use Rattle.std.specs.List.{filter, flat_map, range_with_len}
use Rattle.std.specs.Int.Bits.{and_zero_l, and_zero_r}
use Rattle.std.specs.Option.{option_map_or, option_to_list}
use Rattle.std.proofs.lemmas.Bool.{and_from, and_right, cases_eq, cases_lt, cond-false, cond-true, eq-eqb, false≢true, le-leb, le-ltb, ne_eqb, not_from_true, or_from, or_left, or_right}
use Rattle.std.proofs.lemmas.Option.{slice_get-get_or, slice_get_within}
use Rattle.pm_record.specs.declared.redo.Op.{Op}
use Rattle.pm_record.specs.declared.redo.Op.TheVariants.{And, Or, Set}
use Rattle.pm_record.specs.Redo.{redo_of}
use Rattle.pm_record.specs.declared.undo.Undo.{Undo}
use Rattle.pm_image.specs.LogFaults.{bad_entry, bad_slot, bits_of, clashes, ends_log, good_entry, good_lane, good_record, is_target, lane_mask, lanes_clash, log_fault, records_for}
use Rattle.pm_image.specs.Logs as logs
use Rattle.pm_image.specs.Logs.{entries as sealed_entries, entries_for, entry_pair, generation, generation_word, is_sealed, records, seal_word}
use Rattle.pm_image.specs.Steps.{valid_record}
use Rattle.pm_image.proofs.Firsts.{none_passes}
use Rattle.pm_image.proofs.Gathering.{record_at, records_by_number}
use Rattle.pm_image.proofs.LogRows.{clash_row}
use Rattle.pm_image.proofs.Masks.{any_nowhere, in_common, lane_clashes, mask_of_entries, no_clash_at_end}
use Rattle.pm_image.proofs.Redoing.{entries_unsealed}
use Rattle.solo_view.specs.Area.{area_word}
use Rattle.solo_view.specs.Log.{Final}
use Rattle.solo_view.specs.Steps.{Step}
use Rattle.solo_view.specs.View.{View}
use Rattle.solo_world.specs.Entries.{ends_with, final_by, is_entered, redo_on}
use Rattle.solo_world.specs.Records.{generation_of}
use Rattle.solo_world.proofs.CrashEntries.{of_word, redo_again}
use Rattle.solo_world.proofs.CrashRecords.{generation_unsealed, unsealed}
use Rattle.solo_world.proofs.Replays.{made_final-other}
use Rattle.solo_world.proofs.StoreSlot.{get-push_cases}
use Rattle.solo_sealed.specs.Sealed.{AreTargets, IsOutside, IsSpelled, LeavesSealed, MaySeal, has_nothing}
use Rattle.solo_sealed.proofs.LeftImages.{Cleared, Kind, Nothing, Sealed, at_end, has_none, kind_of}
use Rattle.solo_sealed.proofs.SealedImages.{IsClearedImage, IsSealedImage, generation_sealed, next_generation, no_seal, none_valid, other_generation, other_seal, outside_apart, pair_stays}
use Rattle.solo_sealed.proofs.Stages.{entries, seal_at}
use Rattle.solo_sealed.proofs.Unentered.{unentered, unmade}

-- ---- lists without members

nowhere : {X : Type 0} (f : ℕ → List X) (from n : ℕ) → ((k : ℕ) → from ≤ k → k < from + n → f k ≡ []) → flat_map f (range_with_len from n) ≡ []
nowhere f from zero none = refl
nowhere {X = X} f from (suc n) none =
    ap (λ (xs : List X). xs ++ flat_map f (range_with_len (from + 1) n)) (none from (omega arith) (omega arith)) ∙ nowhere f (from + 1) n (λ k low high. none k (omega (arith, low)) (omega (arith, high)))

-- an entry that sets all of a word is a SET
sets : (word x value : ℕ) (op : Op) → 1 ≤ x → final_by Set word x ≡ final_by op word value → op ≡ Set
sets word x value Set some same = refl
sets word x value Or some same = absurd (false≢true (ap (λ (f : Final). f.ors) same))
sets word x value And some same = let bits = ap (λ (f : Final). f.bits) same in absurd (omega (arith, bits, some))

module _ (b : View) (may_seal : MaySeal b) (targets : AreTargets b) (image : List ℕ) (as_long : length image ≡ length b.words)
    (area : (lane u : ℕ) → lane < b.lanes → area_word lane ≤ u → u < area_word lane + 1024 → u ≢ area_word b.lane → u ≢ seal_at b → slice_index image u ≡ slice_index b.words u)
    (word : (slice_index image (area_word b.lane) ≡ generation_of b) ⊎ (slice_index image (area_word b.lane) ≡ generation_of b + 1))
    (own : generation image b.lane ≡ generation_of b + 1) where
  abbrev g : ℕ
  g = generation_of b

  in_range : (1 ≤ generation_word image b.lane) × (generation_word image b.lane ≤ 4611686018427387904)
  in_range =
      let first = may_seal.first in let below = may_seal.below in
      ⊎_elim (λ (present : generation_word image b.lane ≡ g). (omega (arith, present, first), omega (arith, present, below))) (λ (next : generation_word image b.lane ≡ g + 1). (omega (arith, next), omega (arith, next, below))) word

  few_sealed : (seal_word image b.lane ≡ 0) ⊎ (seal_word image b.lane ≡ length (entries b)) → seal_word image b.lane ≤ 64
  few_sealed seal = let few = may_seal.few in ⊎_elim (λ none. omega (arith, none)) (λ all. omega (arith, all, few)) seal

  lane_good : (seal_word image b.lane ≡ 0) ⊎ (seal_word image b.lane ≡ length (entries b)) → (j : ℕ) → j < b.lanes → good_lane image j ≡ true
  unfolding good_lane
  lane_good seal j inside =
      let n : ℕ = generation_word image j in
      let s : ℕ = seal_word image j in
      let fit : ((1 ≤ n) × (n ≤ 4611686018427387904)) × (s ≤ 64) = ⊎_elim
      (λ (same : j ≡ b.lane). subst (λ k. ((1 ≤ generation_word image k) × (generation_word image k ≤ 4611686018427387904)) × (seal_word image k ≤ 64)) (sym same) (in_range, few_sealed seal))
      (λ (other : j ≢ b.lane).
      let clean = may_seal.clean j inside other in
      let first = clean.first_generation in let last = clean.last_generation in
      let is = area j (area_word j) inside (omega arith) (omega arith) (λ same. other (omega (arith, same))) (λ same. absurd (omega (arith, same))) in
      let unsealed_ = other_seal b may_seal image as_long area j inside other in
      ((omega (arith, is, first), omega (arith, is, last)), omega (arith, unsealed_)))
      (cases_eq j b.lane) in
      and_from (leb 1 n && leb n 4611686018427387904) (leb s 64) (and_from (leb 1 n) (leb n 4611686018427387904) (le-leb 1 n fit.0.0) (le-leb n 4611686018427387904 fit.0.1)) (le-leb s 64 fit.1)

  -- no slot is valid
  no_valid : (lane slot : ℕ) → lane < b.lanes → slot < 64 → valid_record image lane slot ≡ None
  no_valid lane slot inside low = by_found (valid_record image lane slot) refl where
    by_found : (found : Option Undo) → valid_record image lane slot ≡ found → valid_record image lane slot ≡ None
    by_found None is = is
    by_found (Some u) is = absurd (none_valid b may_seal image as_long area own (other_generation b may_seal image as_long area) lane slot u inside low is)

  slot_passes : (lane slot : ℕ) → lane < b.lanes → slot < 64 → bad_slot image b.lanes b.zones lane slot ≡ false
  unfolding bad_slot
  slot_passes lane slot inside low = ap (λ (found : Option Undo). option_map_or (λ u. not (good_record b.lanes b.zones u)) found false) (no_valid lane slot inside low)

  no_records : (lane : ℕ) → lane < b.lanes → records image lane ≡ []
  no_records lane inside = records_by_number image lane ∙ nowhere (record_at image lane) 0 64 (λ slot from low. ap (λ (found : Option Undo). option_to_list found) (no_valid lane slot inside (omega (arith, low))))

  no_record_for : (place : ℕ) → records_for image b.lanes place ≡ []
  unfolding records_for
  no_record_for place = ap (filter (λ u. logs.covers u place)) (nowhere (records image) 0 b.lanes (λ lane from low. no_records lane (omega (arith, low))))

  -- another lane has no entry, so that no two lanes' entries meet
  no_mask : (j i : ℕ) → j < b.lanes → j ≢ b.lane → lane_mask image (8 * i) j ≡ 0
  no_mask j i inside other =
      sym (mask_of_entries image (8 * i) j (sealed_entries image j) refl) ∙ ap (λ es. bits_of (of_word i es)) (entries_unsealed image j (unsealed image j (other_seal b may_seal image as_long area j inside other)))

  no_lanes_clash : (i : ℕ) → lanes_clash image b.lanes (8 * i) ≡ false
  no_lanes_clash i = no_clash_at_end image b.lanes (8 * i) b.lanes refl
      (any_nowhere (lane_clashes image (8 * i)) b.lanes (λ k inside. any_nowhere (λ j. in_common (lane_mask image (8 * i) j) (lane_mask image (8 * i) k)) k (λ j near. apart j k near inside)))
    where
      apart : (j k : ℕ) → j < k → k < b.lanes → in_common (lane_mask image (8 * i) j) (lane_mask image (8 * i) k) ≡ false
      apart j k near inside = ⊎_elim
          (λ (here : j ≡ b.lane). ap (in_common (lane_mask image (8 * i) j)) (no_mask k i inside (λ same. omega (arith, here, same, near))) ∙ ap (λ n. not (eqb n 0)) (and_zero_r (lane_mask image (8 * i) j)))
          (λ (other : j ≢ b.lane). ap (λ n. in_common n (lane_mask image (8 * i) k)) (no_mask j i (omega (arith, near, inside)) other) ∙ ap (λ n. not (eqb n 0)) (and_zero_l (lane_mask image (8 * i) k)))
          (cases_eq j b.lane)

  no_clashes : (i : ℕ) → clashes image b.lanes (8 * i) ≡ false
  unfolding clashes
  no_clashes i =
      let m : ℕ = length (entries_for image b.lanes (8 * i)) in
      or_from (ltb 1 (length (records_for image b.lanes (8 * i))) || ltb 0 (length (records_for image b.lanes (8 * i))) && ltb 0 m) (lanes_clash image b.lanes (8 * i))
      (ap (λ (us : List Undo). ltb 1 (length us) || ltb 0 (length us) && ltb 0 m) (no_record_for (8 * i))) (no_lanes_clash i)

  -- where the entries pass
  no_log_fault : (seal_word image b.lane ≡ 0) ⊎ (seal_word image b.lane ≡ length (entries b)) → ((j i : ℕ) → j < b.lanes → bad_entry image b.lanes b.zones j i ≡ false) → log_fault image b.lanes b.zones ≡ None
  no_log_fault seal entry_passes =
      sym (clash_row image b.lanes b.zones None
      (none_passes (λ j. not (good_lane image j)) b.lanes (λ j inside. not_from_true (good_lane image j) (lane_good seal j inside)))
      (none_passes (λ n. bad_entry image b.lanes b.zones (n / 64) (n % 64)) (64 * b.lanes) (λ n inside. entry_passes (n / 64) (n % 64) (omega (arith, inside))))
      (none_passes (λ n. bad_slot image b.lanes b.zones (n / 64) (n % 64)) (64 * b.lanes) (λ n inside. slot_passes (n / 64) (n % 64) (omega (arith, inside)) (omega arith)))
      (none_passes (λ i. clashes image b.lanes (8 * i)) (length image) (λ i inside. no_clashes i)))

  -- a lane without a seal has no entry
  unsealed_passes : (j i : ℕ) → seal_word image j ≡ 0 → bad_entry image b.lanes b.zones j i ≡ false
  unsealed_passes j i none = ap (λ (s : Bool). s && ltb i (seal_word image j) && not (good_entry image b.lanes b.zones j i (redo_of (entry_pair image j i)))) (unsealed image j none)

  -- ---- with the seal

  module _ (seal : slice_index image (seal_at b) ≡ length (entries b)) where
    -- the last entry ends the log
    ends_good : (i : ℕ) (f : Final) (s : IsSpelled b i f) → ends_with b (g + 1) ≡ f → ends_log image b.lane (redo_on s.op f.word s.value) ≡ true
    ends_good i f s is =
        let op : s.op ≡ Set = sets (area_word b.lane) (g + 1) s.value s.op (omega arith) (is ∙ (s.is ∙ ap (λ w. final_by s.op w s.value) (sym (ap (λ (h : Final). h.word) is)))) in
        let value : g + 1 ≡ s.value = ap (λ (h : Final). h.bits) (is ∙ (s.is ∙ ap (λ o. final_by o f.word s.value) op)) in
        let spelled : redo_on s.op f.word s.value ≡ redo_on Set (area_word b.lane) (g + 1) = λ n. redo_on (op n) (sym (ap (λ (h : Final). h.word) is) n) (sym value n) in
        let first = may_seal.first in let below = may_seal.below in
        ap (ends_log image b.lane) spelled
        ∙ and_from (eqb (8 * area_word b.lane) (8 * logs.area_word b.lane) && leb 2 (g + 1) && leb (g + 1) 4611686018427387904) (eqb (generation_word image b.lane) (g + 1) || eqb (generation_word image b.lane + 1) (g + 1))
        (and_from (eqb (8 * area_word b.lane) (8 * logs.area_word b.lane) && leb 2 (g + 1)) (leb (g + 1) 4611686018427387904)
        (and_from (eqb (8 * area_word b.lane) (8 * logs.area_word b.lane)) (leb 2 (g + 1)) (eq-eqb (8 * area_word b.lane) (8 * logs.area_word b.lane) refl) (le-leb 2 (g + 1) (omega (arith, first))))
        (le-leb (g + 1) 4611686018427387904 (omega (arith, below))))
        (⊎_elim (λ (present : generation_word image b.lane ≡ g). or_right (eqb (generation_word image b.lane) (g + 1)) (eqb (generation_word image b.lane + 1) (g + 1)) (eq-eqb (generation_word image b.lane + 1) (g + 1) (omega (arith, present))))
        (λ (next : generation_word image b.lane ≡ g + 1). or_left (eqb (generation_word image b.lane) (g + 1)) (eqb (generation_word image b.lane + 1) (g + 1)) (eq-eqb (generation_word image b.lane) (g + 1) next)) word)

    -- a sealed entry is one that a log may have
    entry_good : (i : ℕ) → i < seal_word image b.lane → good_entry image b.lanes b.zones b.lane i (redo_of (entry_pair image b.lane i)) ≡ true
    entry_good i low =
        let d : Final = ends_with b (g + 1) in
        let f : Final = get_or (entries b) i d in
        let at : slice_get (entries b) i ≡ Some f = slice_get-get_or (entries b) i d (omega (arith, low, seal)) in
        let long : length (entries b) ≡ length may_seal.front + 1 = ap length may_seal.ends ∙ length-append may_seal.front (d ∷ []) in
        let s = may_seal.spelled i f at in
        let read : redo_of (entry_pair image b.lane i) ≡ Some (redo_on s.op f.word s.value) = ap redo_of (pair_stays b may_seal image as_long area seal i f at s) ∙ redo_again s.op f.word s.value in
        ap (good_entry image b.lanes b.zones b.lane i) read
        ∙ ⊎_elim
        (λ (there : slice_get may_seal.front i ≡ Some f).
        let early = slice_get_within may_seal.front i f there in
        let place : 8 * f.word / 8 ≡ f.word = omega arith in
        cond-false _ (ends_log image b.lane (redo_on s.op f.word s.value)) (is_target b.lanes b.zones (8 * f.word / 8)) (ne_eqb (i + 1) (seal_word image b.lane) (λ same. omega (arith, same, seal, long, early)))
        ∙ (ap (is_target b.lanes b.zones) place ∙ targets i f at (omega (arith, early, long))))
        (λ (t : (i ≡ length may_seal.front) × (d ≡ f)).
        let last = t.0 in
        cond-true _ (ends_log image b.lane (redo_on s.op f.word s.value)) (is_target b.lanes b.zones (8 * f.word / 8)) (eq-eqb (i + 1) (seal_word image b.lane) (omega (arith, last, long, seal)))
        ∙ ends_good i f s t.1)
        (get-push_cases may_seal.front d i f (ap (λ fs. slice_get fs i) (sym may_seal.ends) ∙ at))

    entry_passes : (j i : ℕ) → j < b.lanes → bad_entry image b.lanes b.zones j i ≡ false
    entry_passes j i inside = ⊎_elim
        (λ (same : j ≡ b.lane). subst (λ k. bad_entry image b.lanes b.zones k i ≡ false) (sym same) own_passes)
        (λ (other : j ≢ b.lane). unsealed_passes j i (other_seal b may_seal image as_long area j inside other))
        (cases_eq j b.lane)
      where
        own_passes : bad_entry image b.lanes b.zones b.lane i ≡ false
        own_passes =
            let bad : Bool = not (good_entry image b.lanes b.zones b.lane i (redo_of (entry_pair image b.lane i))) in ⊎_elim
            (λ (low : i < seal_word image b.lane). and_right (is_sealed image b.lane && ltb i (seal_word image b.lane)) bad (not_from_true (good_entry image b.lanes b.zones b.lane i (redo_of (entry_pair image b.lane i))) (entry_good i low)))
            (λ (high : seal_word image b.lane ≤ i). ap (λ (low : Bool). low && bad) (and_right (is_sealed image b.lane) (ltb i (seal_word image b.lane)) (le-ltb i (seal_word image b.lane) high)))
            (cases_lt i (seal_word image b.lane))

-- ---- of the images that have something of the call

module _ (b : View) (may_seal : MaySeal b) (targets : AreTargets b) (image : List ℕ) where
  sealed_none : IsSealedImage b image → log_fault image b.lanes b.zones ≡ None
  sealed_none is =
      let area : (lane u : ℕ) → lane < b.lanes → area_word lane ≤ u → u < area_word lane + 1024 → u ≢ area_word b.lane → u ≢ seal_at b → slice_index image u ≡ slice_index b.words u =
      λ lane u in_lanes low high other apart. (is.looks u (let size = may_seal.size in omega (arith, size, high, in_lanes)) apart).same (unentered b may_seal lane u in_lanes low high other) in
      no_log_fault b may_seal targets image is.size area is.generation (generation_sealed b may_seal image is.size area is.seal) (inr is.seal)
      (entry_passes b may_seal targets image is.size area is.generation (generation_sealed b may_seal image is.size area is.seal) is.seal)

  cleared_none : IsClearedImage b image → log_fault image b.lanes b.zones ≡ None
  cleared_none is =
      let area : (lane u : ℕ) → lane < b.lanes → area_word lane ≤ u → u < area_word lane + 1024 → u ≢ area_word b.lane → u ≢ seal_at b → slice_index image u ≡ slice_index b.words u =
      λ lane u in_lanes low high other apart. is.made u (let size = may_seal.size in omega (arith, size, high, in_lanes)) apart ∙ unmade b may_seal lane u (slice_index b.words u) in_lanes low high other in
      let next = next_generation b may_seal image is in
      let own : generation image b.lane ≡ generation_of b + 1 = generation_unsealed image b.lane is.seal ∙ next in
      no_log_fault b may_seal targets image is.size area (inr next) own (inl is.seal)
      (λ j i inside. unsealed_passes b may_seal targets image is.size area (inr next) own j i (no_seal b may_seal image is.size area is.seal next j inside))

module _ (b w : View) (steps : List Step) (keep : ℕ) (image : List ℕ) (leaves : LeavesSealed b steps w keep image) where
  abbrev kind : Kind b leaves.may w (at_end b w steps keep image leaves) keep image leaves.left
  kind = kind_of b leaves.may w (at_end b w steps keep image leaves) keep image leaves.left

  pub no_fault : AreTargets b → has_nothing image b ≡ false → log_fault image b.lanes b.zones ≡ None
  no_fault targets some = by_kind kind where
    by_kind : Kind b leaves.may w (at_end b w steps keep image leaves) keep image leaves.left → log_fault image b.lanes b.zones ≡ None
    by_kind (Nothing same) = absurd (false≢true (sym some ∙ has_none b leaves.may w (at_end b w steps keep image leaves) keep image leaves.left same))
    by_kind (Sealed s) = sealed_none b leaves.may targets image s
    by_kind (Cleared s) = cleared_none b leaves.may targets image s

  -- a word without an entry is as it was
  pub beside : (i : ℕ) → i < length b.words → IsOutside b.lanes i → is_entered b.log.entries i ≡ false → slice_index image i ≡ slice_index b.words i
  beside i inside outside never = by_kind kind where
    by_kind : Kind b leaves.may w (at_end b w steps keep image leaves) keep image leaves.left → slice_index image i ≡ slice_index b.words i
    by_kind (Nothing same) = same i inside
    by_kind (Sealed s) = (s.looks i inside (outside_apart b leaves.may i outside)).same never
    by_kind (Cleared s) = s.made i inside (outside_apart b leaves.may i outside) ∙ made_final-other b.log.entries i (slice_index b.words i) never
