-- Of the logs of a surviving image: each lane's generation and seal are in range, each sealed entry is one that a log has, and so is each valid record.
use Rattle.std.proofs.Common.{◌≡◌, ◌≢◌, ℕ, zero, suc, ◌+◌, ◌-◌, ◌*◌, ◌/◌, ◌%◌, ◌^◌, ◌<◌, ◌≤◌, ◌⊎◌, inl, inr, ⊎_elim, nat_le, nat_lt, IfSome, Bool, true, false, not, ◌&&◌, ◌||◌, ◌==◌, List, [], ◌∷◌, ◌++◌, length, length-append, slice_get, refl, sym, ap, ◌∙◌, subst, arith, eq-eqb, ne_eqb, Option, None, Some}
use Rattle.std.specs.List.{list_all, range_with_len}
use Rattle.std.specs.Option.{option_map_or}
use Rattle.std.proofs.lemmas.Bool.{cases_eq, cases_lt, cases_Bool, both_ways, and_from, and_parts, or_left, or_right, cond-true, cond-false, false_from_ne_true, le-leb, lt-ltb, ltb-true, leb-true}
use Rattle.std.proofs.lemmas.Option.{none-some, same_Some}
use Rattle.pm_layout.specs.declared.shape.Shape.{Shape}
use Rattle.pm_layout.specs.Areas.{greatest_generation, word_of_generation}
use Rattle.pm_layout.specs.Chunks.{chunks_of, word_of_chunk, word_of_descriptor}
use Rattle.pm_record.specs.Redo.{redo_of}
use Rattle.pm_record.specs.declared.redo.Op.TheVariants.{Set}
use Rattle.pm_record.specs.declared.undo.Undo.{Undo}
use Rattle.pm_image.specs.Logs.{area_word, generation_word, seal_word, is_sealed, entry_pair}
use Rattle.pm_image.specs.Steps.{valid_record}
use Rattle.pm_image.specs.LogFaults.{good_lane, zones_word, in_chunk, in_descriptors, is_target, is_set, ends_log, good_entry, bad_entry, good_record, bad_slot}
use Rattle.pm_image.proofs.Firsts.{none_passes}
use Rattle.pm_image.proofs.LogRows.{NoBadLane, first_entry, first_slot}
use Rattle.pm_image.proofs.Unsealed.{not_sealed}
use Rattle.pm_view.specs.Places.{Place, InRun, InHuge, Descr, RootWord, word_of, is_place, place_after}
use Rattle.pm_view.specs.Entries.{Entry}
use Rattle.pm_view.specs.Log.{Phase, Idle, Open, Drawn, Sealing, Applying, Clearing, Retiring, Voiding, Recorded, Log}
use Rattle.pm_world.specs.Lanes.{is_decided}
use Rattle.pm_world.specs.Logs.{IsRecordAt, EntryOf, AreInRow, AreWhole, BumpFits, PhaseFits, ends_with, used_slots}
use Rattle.pm_world.specs.Memory.{Memory}
use Rattle.pm_world.specs.Sights.{sight_of}
use Rattle.pm_world.specs.World.{Opening, Views, Past, World}
use Rattle.pm_world.specs.Crash.{Survives, NoneTorn, IsNextRecord}
use Rattle.pm_world.proofs.Frame.{is_single}
use Rattle.pm_world.proofs.SurvivingWords.{log_fits, SealIs, GenerationIs, seal_is, generation_is}
use Rattle.pm_world.proofs.ImageLogs.{redo_at, redo_again, undo_from}
use Rattle.pm_world.proofs.LanesInImages.{Silent, Sealed, Current, held_now, get_within, get_some}
use Rattle.pm_world.proofs.EntriesAtPlaces.{all_get, last_or}
use Rattle.pm_world.proofs.ImageSays.{three_cases}

-- ---- places are targets

chunk_there : (sh : Shape) (c u : ℕ) → c < chunks_of sh → u < 512 → in_chunk sh.lanes sh.zones (word_of_chunk sh c + u) ≡ true
chunk_there sh c u a b = let w : ℕ = word_of_chunk sh c + u in let z : ℕ = zones_word sh.lanes in
    and_from (nat_le z w && nat_lt ((w - z) / 33280) sh.zones) (nat_le 512 ((w - z) % 33280)) (and_from (nat_le z w) (nat_lt ((w - z) / 33280) sh.zones) (le-leb z w (omega arith)) (lt-ltb ((w - z) / 33280) sh.zones (omega arith))) (le-leb 512 ((w - z) % 33280) (omega arith))

descriptor_there : (sh : Shape) (c : ℕ) → c < chunks_of sh → in_descriptors sh.lanes sh.zones (word_of_descriptor sh c) ≡ true
descriptor_there sh c a = let w : ℕ = word_of_descriptor sh c in let z : ℕ = zones_word sh.lanes in
    and_from (nat_le z w && nat_lt ((w - z) / 33280) sh.zones) (nat_lt ((w - z) % 33280) 64) (and_from (nat_le z w) (nat_lt ((w - z) / 33280) sh.zones) (le-leb z w (omega arith)) (lt-ltb ((w - z) / 33280) sh.zones (omega arith))) (lt-ltb ((w - z) % 33280) 64 (omega arith))

place_chunk : (sh : Shape) (p : Place) → is_single p ≡ false → is_place sh p ≡ true → in_chunk sh.lanes sh.zones (word_of sh p) ≡ true
place_chunk sh (InRun c u) s e = let t = and_parts (nat_lt c (chunks_of sh)) (nat_lt u 512) e in chunk_there sh c u (ltb-true c (chunks_of sh) t.0) (ltb-true u 512 t.1)
place_chunk sh (InHuge c u) s e = let t = and_parts (nat_lt c (chunks_of sh)) (nat_lt u 512) e in chunk_there sh c u (ltb-true c (chunks_of sh) t.0) (ltb-true u 512 t.1)
place_chunk sh (Descr c) s e = absurd (both_ways true s refl)
place_chunk sh RootWord s e = absurd (both_ways true s refl)

target : (sh : Shape) (p : Place) → is_place sh p ≡ true → is_target sh.lanes sh.zones (word_of sh p) ≡ true
target sh (InRun c u) e = or_right (word_of sh (InRun c u) == 64 || in_descriptors sh.lanes sh.zones (word_of sh (InRun c u))) (in_chunk sh.lanes sh.zones (word_of sh (InRun c u))) (place_chunk sh (InRun c u) refl e)
target sh (InHuge c u) e = or_right (word_of sh (InHuge c u) == 64 || in_descriptors sh.lanes sh.zones (word_of sh (InHuge c u))) (in_chunk sh.lanes sh.zones (word_of sh (InHuge c u))) (place_chunk sh (InHuge c u) refl e)
target sh (Descr c) e = let w : ℕ = word_of_descriptor sh c in or_left (w == 64 || in_descriptors sh.lanes sh.zones w) (in_chunk sh.lanes sh.zones w) (or_right (w == 64) (in_descriptors sh.lanes sh.zones w) (descriptor_there sh c (ltb-true c (chunks_of sh) e)))
target sh RootWord e = refl

module _ (o : Opening) (mem : Memory) (views : Views) (g : Past) (x : World o mem views g) (image : List ℕ) (sv : Survives o mem views image) (torn : NoneTorn o views image) where
  module _ (k : ℕ) (ink : k < o.shape.lanes) where
    abbrev log : Log
    log = (views k).log

    -- ---- THE LANE'S NUMBERS

    generation_range : (ph : Phase) (found : ℕ) → (views k).log.phase ≡ ph → GenerationIs (views k).log.generation found ph → (1 ≤ found) × (found ≤ 2 ^ 62)
    generation_range ph found e n = let l = log_fits o mem views g x k ink in go ph n (subst (λ z. BumpFits z (views k).log.bumped) e l.bump) (subst (PhaseFits o.shape k (sight_of (views k)).picture (views k).log (views k).changes) e l.phase) l.first l.last l.below
      where
        plain : (b : ℕ) → found ≡ b → 1 ≤ b → b ≤ greatest_generation o.shape → (1 ≤ found) × (found ≤ 2 ^ 62)
        plain b q one most = (omega arith, omega arith)

        next : (b : ℕ) → found ≡ suc b → b < greatest_generation o.shape → (1 ≤ found) × (found ≤ 2 ^ 62)
        next b q below = (omega arith, omega arith)

        some_entry : AreWhole o.shape k (views k).log → 1 ≤ length (views k).log.entries
        some_entry w = let n = ap length w.are ∙ length-append w.front (ends_with o.shape k (views k).log.generation ∷ []) in omega arith

        go : (ph : Phase) → GenerationIs (views k).log.generation found ph → BumpFits ph (views k).log.bumped → PhaseFits o.shape k (sight_of (views k)).picture (views k).log (views k).changes ph → 1 ≤ (views k).log.generation → (views k).log.generation ≤ greatest_generation o.shape
            → (((views k).log.bumped ≡ true) ⊎ ((1 ≤ used_slots (views k).log) ⊎ (1 ≤ length (views k).log.entries)) → (views k).log.generation < greatest_generation o.shape) → (1 ≤ found) × (found ≤ 2 ^ 62)
        go Idle n b f one most below = plain (views k).log.generation n one most
        go Open n b f one most below = plain (views k).log.generation n one most
        go (Drawn m) n b f one most below = plain (views k).log.generation n one most
        go (Sealing m) n b f one most below = plain (views k).log.generation n one most
        go (Applying t) n b f one most below = ⊎_elim (λ q. plain (views k).log.generation q one most) (λ q. next (views k).log.generation q (below (inr (inr (some_entry f.0))))) n
        go Clearing n b f one most below = next (views k).log.generation n (below (inl b))
        go (Retiring m) n b f one most below = ⊎_elim (λ q. next (views k).log.generation q (below (inl b))) (λ q. plain (views k).log.generation q one most) n
        go Voiding n b f one most below = ⊎_elim (λ q. next (views k).log.generation q (below (inl b))) (λ q. plain (views k).log.generation q one most) n

    seal_range : (ph : Phase) (seal : ℕ) → SealIs (length (views k).log.entries) seal ph → seal ≤ 64
    seal_range ph seal s = let most = (log_fits o mem views g x k ink).entries_most in go ph s most
      where
        go : (ph : Phase) → SealIs (length (views k).log.entries) seal ph → length (views k).log.entries ≤ 64 → seal ≤ 64
        go Idle s most = omega arith
        go Open s most = omega arith
        go (Drawn m) s most = omega arith
        go (Sealing m) s most = ⊎_elim (λ q. omega arith) (λ q. omega arith) s
        go (Applying t) s most = omega arith
        go Clearing s most = ⊎_elim (λ q. omega arith) (λ q. omega arith) s
        go (Retiring m) s most = omega arith
        go Voiding s most = omega arith

    pub lane_good : good_lane image k ≡ true
    unfolding good_lane
    lane_good = let n = generation_range (views k).log.phase (generation_word image k) refl (generation_is o mem views g x image sv k ink) in let s = seal_range (views k).log.phase (seal_word image k) (seal_is o mem views g x image sv k ink) in
        and_from (nat_le 1 (generation_word image k) && nat_le (generation_word image k) (2 ^ 62)) (nat_le (seal_word image k) 64) (and_from (nat_le 1 (generation_word image k)) (nat_le (generation_word image k) (2 ^ 62)) (le-leb 1 (generation_word image k) n.0) (le-leb (generation_word image k) (2 ^ 62) n.1)) (le-leb (seal_word image k) 64 s)

    -- ---- ITS VALID RECORDS

    after_kind : (p : Place) (n : ℕ) → is_single p ≡ false → is_single (place_after p n) ≡ false
    after_kind (InRun c u) n s = refl
    after_kind (InHuge c u) n s = refl
    after_kind (Descr c) n s = absurd (both_ways true s refl)
    after_kind RootWord n s = absurd (both_ways true s refl)

    all_in : (P : ℕ → Bool) (from n : ℕ) → ((i : ℕ) → from ≤ i → i < from + n → P i ≡ true) → list_all P (range_with_len from n) ≡ true
    all_in P from zero h = refl
    all_in P from (suc n) h = and_from (P from) (list_all P (range_with_len (from + 1) n)) (h from (omega arith) (omega arith)) (all_in P (from + 1) n (λ i a b. h i (omega arith) (omega arith)))

    record_good : (r : Recorded) → is_single r.place ≡ false → 1 ≤ length r.old → length r.old ≤ 4 → AreInRow o.shape r → (views k).log.generation < greatest_generation o.shape
        → good_record o.shape.lanes o.shape.zones (undo_from o.shape (views k).log.generation r) ≡ true
    unfolding good_record
    record_good r s one four each below = let W : ℕ = word_of o.shape r.place in let n = length r.old in let lanes = o.shape.lanes in let zones = o.shape.zones in
        and_from (nat_le 1 n && nat_le n 4 && (8 * W) % 8 == 0 && list_all (λ i. in_chunk lanes zones (8 * W / 8 + i)) (range_with_len 0 n)) (not ((views k).log.generation == 2 ^ 62))
        (and_from (nat_le 1 n && nat_le n 4 && (8 * W) % 8 == 0) (list_all (λ i. in_chunk lanes zones (8 * W / 8 + i)) (range_with_len 0 n))
        (and_from (nat_le 1 n && nat_le n 4) ((8 * W) % 8 == 0) (and_from (nat_le 1 n) (nat_le n 4) (le-leb 1 n one) (le-leb n 4 four)) (eq-eqb ((8 * W) % 8) 0 (omega arith)))
        (all_in (λ i. in_chunk lanes zones (8 * W / 8 + i)) 0 n (λ i a b. let at : 8 * W / 8 + i ≡ W + i = omega arith in ap (in_chunk lanes zones) (at ∙ sym (each i (omega arith)).1) ∙ place_chunk o.shape (place_after r.place i) (after_kind r.place i s) (each i (omega arith)).0)))
        (ap not (ne_eqb (views k).log.generation (2 ^ 62) (λ q. omega arith)))

    data_kind : (p : Place) → Rattle.pm_view.specs.Places.is_data p ≡ true → is_single p ≡ false
    data_kind (InRun c u) e = refl
    data_kind (InHuge c u) e = refl
    data_kind (Descr c) e = absurd (both_ways false refl e)
    data_kind RootWord e = absurd (both_ways false refl e)

    before_kind : (p : Place) (n : ℕ) → Rattle.pm_view.specs.Places.is_data (place_after p n) ≡ true → is_single p ≡ false
    before_kind (InRun c u) n e = refl
    before_kind (InHuge c u) n e = refl
    before_kind (Descr c) n e = absurd (both_ways false refl e)
    before_kind RootWord n e = absurd (both_ways false refl e)

    valid_good : (j : ℕ) (u : Undo) → j < 64 → valid_record image k j ≡ Some u → good_record o.shape.lanes o.shape.zones u ≡ true
    valid_good j u a valid = ⊎_elim (λ (z : Silent o mem views g x image sv torn k ink). absurd (z.bare.none_valid j u a valid)) (λ z. ⊎_elim (λ (z : Sealed o mem views g x image sv torn k ink). absurd (z.bare.none_valid j u a valid))
        (λ (z : Current o mem views g x image sv torn k ink × (is_decided (views k).log.phase ≡ false)). let h = held_now o mem views g x image sv torn k ink z.0 j u a valid in ap (good_record o.shape.lanes o.shape.zones) h.is ∙ by h.held h.most (x.each_lane k z.0.runs).shape h.raisable h.lawful) z) (three_cases o mem views g x image sv torn k ink)
      where
        by : (r : Recorded) → length r.old ≤ 4 → (views k).fixed.shape ≡ o.shape → (views k).log.generation < 2 ^ 62 → IsRecordAt (views k).log j r ⊎ ((length (views k).log.records ≡ j) × IsNextRecord (views k) r) → good_record o.shape.lanes o.shape.zones (undo_from o.shape (views k).log.generation r) ≡ true
        by r most same low (inl at) = let f = (log_fits o mem views g x k ink).records j r at in record_good r (data_kind r.place f.4) f.1 most f.5 low
        by r most same low (inr z) = let can = z.1 in let one = can.some in record_good r (before_kind r.place 0 (can.each 0 (omega arith)).plain) can.some most (subst (λ s. AreInRow s r) same can.row) low

    pub slot_good : (j : ℕ) → j < 64 → bad_slot image o.shape.lanes o.shape.zones k j ≡ false
    unfolding bad_slot
    slot_good j a = go (valid_record image k j) refl
      where
        go : (d : Option Undo) → valid_record image k j ≡ d → option_map_or (λ u. not (good_record o.shape.lanes o.shape.zones u)) d false ≡ false
        go None e = refl
        go (Some u) e = ap not (valid_good j u a e)

    -- ---- ITS SEALED ENTRIES

    either : (ph : Phase) (before found : ℕ) → GenerationIs before found ph → (found ≡ before) ⊎ (found ≡ suc before)
    either Idle before found e = inl e
    either Open before found e = inl e
    either (Drawn m) before found e = inl e
    either (Sealing m) before found e = inl e
    either (Applying t) before found e = e
    either Clearing before found e = inr e
    either (Retiring m) before found e = ⊎_elim (λ q. inr q) (λ q. inl q) e
    either Voiding before found e = ⊎_elim (λ q. inr q) (λ q. inl q) e

    -- the last ends the log
    ends_good : 1 ≤ length (views k).log.entries → ends_log image k (redo_at (ends_with o.shape k (views k).log.generation)) ≡ true
    ends_good some = let v : ℕ = (views k).log.generation + 1 in let gw = generation_word image k in let place : ℕ = 8 * word_of_generation o.shape k in let l = log_fits o mem views g x k ink in let one = l.first in let below = l.below (inr (inr some)) in
        let one_of : (gw == v || gw + 1 == v) ≡ true = ⊎_elim (λ (q : gw ≡ (views k).log.generation). or_right (gw == v) (gw + 1 == v) (eq-eqb (gw + 1) v (omega arith))) (λ (q : gw ≡ suc (views k).log.generation). or_left (gw == v) (gw + 1 == v) (eq-eqb gw v (omega arith)))
        (either (views k).log.phase (views k).log.generation (generation_word image k) (generation_is o mem views g x image sv k ink)) in
        and_from (is_set Set && place == 8 * area_word k && nat_le 2 v && nat_le v (2 ^ 62)) (gw == v || gw + 1 == v)
        (and_from (is_set Set && place == 8 * area_word k && nat_le 2 v) (nat_le v (2 ^ 62)) (and_from (is_set Set && place == 8 * area_word k) (nat_le 2 v) (and_from (is_set Set) (place == 8 * area_word k) refl (eq-eqb place (8 * area_word k) (omega arith))) (le-leb 2 v (omega arith))) (le-leb v (2 ^ 62) (omega arith))) one_of

    -- the others are of places
    other_good : (e : Entry) (d : Option Place) → e.place ≡ d → e.place ≢ None → IfSome d (λ q. (is_place o.shape q ≡ true) × (word_of o.shape q ≡ e.word) × EntryOf q e.op e.value) → is_target o.shape.lanes o.shape.zones (8 * e.word / 8) ≡ true
    other_good e None is ne t = absurd (ne is)
    other_good e (Some q) is ne t = let w : 8 * e.word / 8 ≡ e.word = omega arith in ap (is_target o.shape.lanes o.shape.zones) (w ∙ sym t.1) ∙ target o.shape q t.0

    sealed_good : (z : Sealed o mem views g x image sv torn k ink) (i : ℕ) → i < seal_word image k → good_entry image o.shape.lanes o.shape.zones k i (redo_of (entry_pair image k i)) ≡ true
    sealed_good z i inside = let l = log_fits o mem views g x k ink in let full = z.full in let got = get_some (views k).log.entries i (omega arith) in let e = got.0 in
        let long : length (views k).log.entries ≡ length z.whole.front + 1 = ap length z.whole.are ∙ length-append z.whole.front (ends_with o.shape k (views k).log.generation ∷ []) in
        let at : slice_get (z.whole.front ++ ends_with o.shape k (views k).log.generation ∷ []) i ≡ Some e = sym (ap (λ es. slice_get es i) z.whole.are) ∙ got.1 in
        ap (good_entry image o.shape.lanes o.shape.zones k i) (ap redo_of (z.read i e got.1) ∙ redo_again e) ∙ ⊎_elim
        (λ (q : i + 1 ≡ seal_word image k). cond-true (i + 1 == seal_word image k) _ _ (eq-eqb (i + 1) (seal_word image k) q) ∙ ⊎_elim (λ (y : slice_get z.whole.front i ≡ Some e). absurd (let m = get_within z.whole.front i e y in omega arith))
        (λ (y : e ≡ ends_with o.shape k (views k).log.generation). ap (λ d. ends_log image k (redo_at d)) y ∙ ends_good (omega arith)) (last_or z.whole.front (ends_with o.shape k (views k).log.generation) e i at))
        (λ (ne : i + 1 ≢ seal_word image k). cond-false (i + 1 == seal_word image k) _ _ (ne_eqb (i + 1) (seal_word image k) ne) ∙ ⊎_elim (λ (y : slice_get z.whole.front i ≡ Some e). other_good e e.place refl (all_get (λ (d : Entry). d.place ≢ None) z.whole.front i e z.whole.placed y) ((l.pairs i e got.1).3))
        (λ (y : e ≡ ends_with o.shape k (views k).log.generation). absurd (ne (last_place z i e at y inside))) (last_or z.whole.front (ends_with o.shape k (views k).log.generation) e i at)) (cases_eq (i + 1) (seal_word image k))
      where
        last_place : (z : Sealed o mem views g x image sv torn k ink) (i : ℕ) (e : Entry) → slice_get (z.whole.front ++ ends_with o.shape k (views k).log.generation ∷ []) i ≡ Some e → e ≡ ends_with o.shape k (views k).log.generation → i < seal_word image k → i + 1 ≡ seal_word image k
        last_place z i e at y inside = let full = z.full in let long : length (views k).log.entries ≡ length z.whole.front + 1 = ap length z.whole.are ∙ length-append z.whole.front (ends_with o.shape k (views k).log.generation ∷ []) in
            ⊎_elim (λ (l : i < length z.whole.front). let r = get_some z.whole.front i l in absurd (all_get (λ (d : Entry). d.place ≢ None) z.whole.front i r.0 z.whole.placed r.1
            (ap (λ (d : Entry). d.place) (same_Some r.0 e (sym (front_get z.whole.front (ends_with o.shape k (views k).log.generation) i r.0 r.1) ∙ at) ∙ y)))) (λ (l : length z.whole.front ≤ i). omega arith) (cases_lt i (length z.whole.front))
          where
            front_get : (xs : List Entry) (d : Entry) (i : ℕ) (y : Entry) → slice_get xs i ≡ Some y → slice_get (xs ++ d ∷ []) i ≡ Some y
            front_get [] d i y q = absurd (none-some y q)
            front_get (h ∷ xs) d zero y q = q
            front_get (h ∷ xs) d (suc i) y q = front_get xs d i y q

    no_and : (a b : Bool) → (a && b && false) ≡ false
    no_and true true = refl
    no_and true false = refl
    no_and false b = refl

    no_middle : (a c : Bool) → (a && false && c) ≡ false
    no_middle true c = refl
    no_middle false c = refl

    unsealed_good : seal_word image k ≡ 0 → (i : ℕ) → bad_entry image o.shape.lanes o.shape.zones k i ≡ false
    unsealed_good z i = ap (λ t. t && nat_lt i (seal_word image k) && not (good_entry image o.shape.lanes o.shape.zones k i (redo_of (entry_pair image k i)))) (not_sealed image k z)

    pub entry_good : (i : ℕ) → bad_entry image o.shape.lanes o.shape.zones k i ≡ false
    entry_good i = ⊎_elim (λ (z : Silent o mem views g x image sv torn k ink). unsealed_good z.unsealed i) (λ z. ⊎_elim (λ (z : Sealed o mem views g x image sv torn k ink). ⊎_elim
        (λ (l : i < seal_word image k). ap (λ t. is_sealed image k && nat_lt i (seal_word image k) && not t) (sealed_good z i l) ∙ no_and (is_sealed image k) (nat_lt i (seal_word image k)))
        (λ (l : seal_word image k ≤ i). ap (λ t. is_sealed image k && t && not (good_entry image o.shape.lanes o.shape.zones k i (redo_of (entry_pair image k i)))) (Rattle.std.proofs.lemmas.Bool.le-ltb i (seal_word image k) l)
        ∙ no_middle (is_sealed image k) (not (good_entry image o.shape.lanes o.shape.zones k i (redo_of (entry_pair image k i))))) (cases_lt i (seal_word image k)))
        (λ z. unsealed_good z.0.unsealed i) z) (three_cases o mem views g x image sv torn k ink)

  -- NO LANE, NO ENTRY AND NO RECORD HAS A FAULT
  pub no_bad_lane : NoBadLane image o.shape.lanes
  no_bad_lane = none_passes (λ k. not (good_lane image k)) o.shape.lanes (λ k l. ap not (lane_good k l))

  pub no_bad_entry : first_entry image o.shape.lanes o.shape.zones ≡ None
  no_bad_entry = none_passes (λ n. bad_entry image o.shape.lanes o.shape.zones (n / 64) (n % 64)) (64 * o.shape.lanes) (λ n l. entry_good (n / 64) (omega arith) (n % 64))

  pub no_bad_slot : first_slot image o.shape.lanes o.shape.zones ≡ None
  no_bad_slot = none_passes (λ n. bad_slot image o.shape.lanes o.shape.zones (n / 64) (n % 64)) (64 * o.shape.lanes) (λ n l. slot_good (n / 64) (omega arith) (n % 64) (omega arith))
