-- The bits of a word that entries change, lane by lane, and which lanes have some in common.
use Rattle.std.proofs.Common.{◌≡◌, ⊎_elim, ℕ, ◌+◌, ◌*◌, ◌<◌, ◌≤◌, ◌&&◌, ◌||◌, Bool, true, false, not, cond, eqb, ltb, List, [], ◌∷◌, ◌++◌, length, slice_index, Option, Some, bit_and, bit_or, refl, sym, ◌∙◌, ap, subst, arith, zero-add}
use Rattle.std.specs.List.{cons_option, filter, filter_map, flat_map, list_any, range_with_len}
use Rattle.std.specs.Int.Bits.{and_zero_l, and_zero_r, or_zero_l, or_zero_r}
use Rattle.std.proofs.lemmas.Bool.{cases_lt, eqb-false, eqb-true, le-ltb, lt-ltb, ne_eqb}
use Rattle.std.proofs.Math.Bool.{or-false}
use Rattle.std.proofs.lemmas.List.Elements.{filter-append, filter_map-append}
use Rattle.std.proofs.lemmas.List.Folds.{list_any-append, list_any_at, list_any_none}
use Rattle.std.proofs.lemmas.List.FromFn.{length-range_with_len, get_or-range_with_len}
use Rattle.std.proofs.lemmas.Nat.{and_assoc, and_comm, and_or_apart, and_or_self}
use Rattle.std.proofs.lemmas.Nat.Bits.{bit_at_or, same_from_bits}
use Rattle.pm_record.specs.Redo.{redo_mask, redo_of}
use Rattle.pm_record.specs.declared.redo.Redo.{Redo}
use Rattle.pm_image.specs.Logs.{covers, entries, entries_for, entry_pair, records}
use Rattle.pm_image.specs.LogFaults.{bits_of, clashes, lane_mask, lanes_clash, records_for}
use Rattle.pm_image.specs.Steps.{AreMarks, entry_for}
use Rattle.pm_image.proofs.Counting.{two_counted}
use Rattle.pm_image.proofs.Redoing.{range_more}

or_assoc : (a b c : ℕ) → bit_or (bit_or a b) c ≡ bit_or a (bit_or b c)
or_assoc a b c =
    same_from_bits (bit_or (bit_or a b) c) (bit_or a (bit_or b c)) (λ k.
    let left = bit_at_or (bit_or a b) c k in
    let within = bit_at_or a b k in
    let right = bit_at_or a (bit_or b c) k in
    let behind = bit_at_or b c k in
    omega (arith, left, within, right, behind))

bits_of-append : (xs ys : List Redo) → bits_of (xs ++ ys) ≡ bit_or (bits_of xs) (bits_of ys)
bits_of-append [] ys = sym (or_zero_l (bits_of ys))
bits_of-append (x ∷ xs) ys = ap (bit_or (redo_mask x)) (bits_of-append xs ys) ∙ sym (or_assoc (redo_mask x) (bits_of xs) (bits_of ys))

-- the bits of one entry for the word
pub one_mask : (r : Option Redo) (e : Redo) (place : ℕ) → r ≡ Some e → eqb e.place place ≡ true → bits_of (filter (λ x. eqb x.place place) (cons_option r [])) ≡ redo_mask e
one_mask r e place is here =
    ap (λ (o : Option Redo). bits_of (filter (λ x. eqb x.place place) (cons_option o []))) is ∙ ap (λ (b : Bool). bits_of (cond b (e ∷ []) [])) here ∙ or_zero_r (redo_mask e)

-- the bits of the word that so many of the lane's entries change
abbrev pub bits_to : List ℕ → ℕ → ℕ → ℕ → ℕ
bits_to image lane place n = bits_of (filter (λ e. eqb e.place place) (filter_map (λ k. redo_of (entry_pair image lane k)) (range_with_len 0 n)))

-- one entry more
pub bits_more : (image : List ℕ) (lane i place : ℕ) → bits_to image lane place (i + 1) ≡ bit_or (bits_to image lane place i) (bits_of (entry_for image lane i place))
bits_more image lane i place =
    let more : range_with_len 0 (i + 1) ≡ range_with_len 0 i ++ i ∷ [] = range_more 0 i ∙ ap (λ (k : ℕ). range_with_len 0 i ++ k ∷ []) (zero-add i) in
    let read : List ℕ → List Redo = λ (ks : List ℕ). filter_map (λ k. redo_of (entry_pair image lane k)) ks in
    ap (λ (ks : List ℕ). bits_of (filter (λ e. eqb e.place place) (read ks))) more
    ∙ ap (λ (es : List Redo). bits_of (filter (λ e. eqb e.place place) es)) (filter_map-append (λ k. redo_of (entry_pair image lane k)) (range_with_len 0 i) (i ∷ []))
    ∙ ap bits_of (filter-append (λ e. eqb e.place place) (read (range_with_len 0 i)) (read (i ∷ [])))
    ∙ bits_of-append (filter (λ e. eqb e.place place) (read (range_with_len 0 i))) (entry_for image lane i place)

pub mask_of_entries : (image : List ℕ) (place lane : ℕ) (es : List Redo) → es ≡ entries image lane → bits_of (filter (λ e. eqb e.place place) es) ≡ lane_mask image place lane
unfolding lane_mask
mask_of_entries image place lane es is = ap (λ (xs : List Redo). bits_of (filter (λ e. eqb e.place place) xs)) is

-- two words have a bit in common
abbrev pub in_common : ℕ → ℕ → Bool
in_common a b = not (eqb (bit_and a b) 0)

both_apart : (a b x : ℕ) → bit_and (bit_or a b) x ≡ 0 → bit_and b x ≡ 0
both_apart a b x none =
    ap (λ (n : ℕ). bit_and n x) (sym (and_or_self b a)) ∙ and_assoc x (bit_or a b) b ∙ ap (bit_and (bit_or a b)) (and_comm b x) ∙ sym (and_assoc b (bit_or a b) x)
    ∙ ap (λ (n : ℕ). bit_and n b) none ∙ and_zero_l b

or_true : (b : Bool) → (b || true) ≡ true
or_true true = refl
or_true false = refl

-- the bits of several words together
common_or : (a b x : ℕ) → in_common (bit_or a b) x ≡ (in_common a x || in_common b x)
common_or a b x = go (eqb (bit_and b x) 0) refl where
  go : (t : Bool) → eqb (bit_and b x) 0 ≡ t → in_common (bit_or a b) x ≡ (in_common a x || in_common b x)
  go true apart =
      ap (λ (n : ℕ). not (eqb n 0)) (and_or_apart x a b (eqb-true (bit_and b x) 0 apart)) ∙ sym (or-false (in_common a x)) ∙ ap (λ (t : Bool). in_common a x || not t) (sym apart)
  go false common =
      let apart : bit_and (bit_or a b) x ≡ 0 → ⊥ = λ none. eqb-false (bit_and b x) 0 common (both_apart a b x none) in
      ap not (ne_eqb (bit_and (bit_or a b) x) 0 apart) ∙ sym (or_true (in_common a x)) ∙ ap (λ (t : Bool). in_common a x || not t) (sym common)

-- a number of the range passes, and none does
pub any_more : (p : ℕ → Bool) (k : ℕ) → list_any p (range_with_len 0 (k + 1)) ≡ (list_any p (range_with_len 0 k) || p k)
any_more p k =
    ap (list_any p) (range_more 0 k) ∙ list_any-append p (range_with_len 0 k) ((0 + k) ∷ [])
    ∙ ap (λ (b : Bool). list_any p (range_with_len 0 k) || b) (or-false (p (0 + k)) ∙ ap p (zero-add k))

pub any_there : (p : ℕ → Bool) (n k : ℕ) → k < n → p k ≡ true → list_any p (range_with_len 0 n) ≡ true
any_there p n k inside passes =
    let long : k < length (range_with_len 0 n) = omega (arith, length-range_with_len 0 n) in
    list_any_at p (range_with_len 0 n) k 0 long (ap p (get_or-range_with_len 0 n k 0 inside ∙ zero-add k) ∙ passes)

pub any_nowhere : (p : ℕ → Bool) (n : ℕ) → ((k : ℕ) → k < n → p k ≡ false) → list_any p (range_with_len 0 n) ≡ false
any_nowhere p n fails = list_any_none p (range_with_len 0 n) (λ k d inside.
    let near : k < n = omega (arith, length-range_with_len 0 n) in
    ap p (get_or-range_with_len 0 n k d near ∙ zero-add k) ∙ fails k near)

-- the lanes' bits together have one in common with a word exactly where some lane's have
abbrev pub AreTogether : List ℕ → ℕ → ℕ → ℕ → Type 0
AreTogether image place lanes all = (x : ℕ) → list_any (λ j. in_common (lane_mask image place j) x) (range_with_len 0 lanes) ≡ in_common all x

pub together_more : (image : List ℕ) (place lane earlier : ℕ) → AreTogether image place lane earlier → AreTogether image place (lane + 1) (bit_or earlier (lane_mask image place lane))
together_more image place lane earlier before x =
    any_more (λ j. in_common (lane_mask image place j) x) lane ∙ ap (λ (b : Bool). b || in_common (lane_mask image place lane) x) (before x)
    ∙ sym (common_or earlier (lane_mask image place lane) x)

-- the lane has a bit in common with an earlier one
abbrev pub lane_clashes : List ℕ → ℕ → ℕ → Bool
lane_clashes image place k = list_any (λ j. in_common (lane_mask image place j) (lane_mask image place k)) (range_with_len 0 k)

pub clash_there : (image : List ℕ) (lanes place k : ℕ) → k < lanes → lane_clashes image place k ≡ true → lanes_clash image lanes place ≡ true
unfolding lanes_clash
clash_there image lanes place k inside here = any_there (lane_clashes image place) lanes k inside here

pub no_clash_at_end : (image : List ℕ) (lanes place n : ℕ) → n ≡ lanes → list_any (lane_clashes image place) (range_with_len 0 n) ≡ false → lanes_clash image lanes place ≡ false
unfolding lanes_clash
no_clash_at_end image lanes place n end none = ap (λ (k : ℕ). list_any (lane_clashes image place) (range_with_len 0 k)) (sym end) ∙ none

nothing_counted : (es : List Redo) → length es ≤ 0 → es ≡ []
nothing_counted [] none = refl
nothing_counted (e ∷ es) none = absurd (omega arith)

no_mask : (image : List ℕ) (place lane : ℕ) → length (filter (λ e. eqb e.place place) (entries image lane)) ≤ 0 → lane_mask image place lane ≡ 0
unfolding lane_mask
no_mask image place lane none = ap bits_of (nothing_counted (filter (λ e. eqb e.place place) (entries image lane)) none)

-- one entry for a word makes no two lanes clash
pub no_clash_if_few : (image : List ℕ) (lanes place : ℕ) → length (entries_for image lanes place) ≤ 1 → lanes_clash image lanes place ≡ false
unfolding lanes_clash entries_for
no_clash_if_few image lanes place few =
    any_nowhere (lane_clashes image place) lanes (λ k inside. any_nowhere (λ j. in_common (lane_mask image place j) (lane_mask image place k)) k (λ j near. apart j k near inside)) where
      apart : (j k : ℕ) → j < k → k < lanes → in_common (lane_mask image place j) (lane_mask image place k) ≡ false
      apart j k near inside =
          let both = two_counted (λ (e : Redo). eqb e.place place) (entries image) 0 lanes j k (omega arith) near (omega arith) in
          let one : ℕ = length (filter (λ (e : Redo). eqb e.place place) (entries image j)) in
          ⊎_elim
          (λ (some : 0 < one). ap (λ (n : ℕ). in_common (lane_mask image place j) n) (no_mask image place k (omega (arith, both, few, some))) ∙ ap (λ (n : ℕ). not (eqb n 0)) (and_zero_r (lane_mask image place j)))
          (λ (none : one ≤ 0). ap (λ (n : ℕ). in_common n (lane_mask image place k)) (no_mask image place j none) ∙ ap (λ (n : ℕ). not (eqb n 0)) (and_zero_l (lane_mask image place k)))
          (cases_lt 0 one)

-- a word with two entries at least, or none of it
clash_counted : (image : List ℕ) (lanes place entry_count : ℕ) → entry_count ≡ length (entries_for image lanes place) → (ltb 1 entry_count && lanes_clash image lanes place) ≡ lanes_clash image lanes place
clash_counted image lanes place entry_count is =
    ⊎_elim
    (λ (two : 1 < entry_count). ap (λ (b : Bool). b && lanes_clash image lanes place) (lt-ltb 1 entry_count two))
    (λ (few : entry_count ≤ 1).
    ap (λ (b : Bool). b && lanes_clash image lanes place) (le-ltb 1 entry_count few) ∙ sym (no_clash_if_few image lanes place (subst (λ (n : ℕ). n ≤ 1) is few)))
    (cases_lt 1 entry_count)

pub or_first : (a b : Bool) → a ≡ true → a ≡ (a || b)
or_first a b is = is ∙ ap (λ (t : Bool). t || b) (sym is)

-- what marks count
pub marks_are : (image : List ℕ) (lanes i : ℕ) (record_marks entry_marks : List ℕ) → AreMarks (flat_map (records image) (range_with_len 0 lanes)) (flat_map (entries image) (range_with_len 0 lanes)) (length image) record_marks entry_marks
    → i < length image → slice_index record_marks i ≡ length (records_for image lanes (8 * i))
unfolding records_for
marks_are image lanes i record_marks entry_marks marks inside = marks.of_records i inside

pub entries_are : (image : List ℕ) (lanes i : ℕ) (record_marks entry_marks : List ℕ) → AreMarks (flat_map (records image) (range_with_len 0 lanes)) (flat_map (entries image) (range_with_len 0 lanes)) (length image) record_marks entry_marks
    → i < length image → slice_index entry_marks i ≡ length (entries_for image lanes (8 * i))
unfolding entries_for
entries_are image lanes i record_marks entry_marks marks inside = marks.of_entries i inside

-- what the counts of records and entries say of a word
pub clash_by_counts : (image : List ℕ) (lanes place record_count entry_count : ℕ) → record_count ≡ length (records_for image lanes place) → entry_count ≡ length (entries_for image lanes place)
    → (ltb 1 record_count || (ltb 0 record_count && ltb 0 entry_count) || (ltb 1 entry_count && lanes_clash image lanes place)) ≡ clashes image lanes place
unfolding clashes
clash_by_counts image lanes place record_count entry_count records_are entries_are =
    (λ i. ltb 1 (records_are i) || (ltb 0 (records_are i) && ltb 0 (entries_are i)) || clash_counted image lanes place entry_count entries_are i)

-- no log holds a record or an entry
no_record : (image : List ℕ) (lanes place : ℕ) → flat_map (records image) (range_with_len 0 lanes) ≡ [] → 0 ≡ length (records_for image lanes place)
unfolding records_for
no_record image lanes place none = sym (ap (λ us. length (filter (λ u. covers u place) us)) none)

no_entry : (image : List ℕ) (lanes place : ℕ) → flat_map (entries image) (range_with_len 0 lanes) ≡ [] → 0 ≡ length (entries_for image lanes place)
unfolding entries_for
no_entry image lanes place none = sym (ap (λ es. length (filter (λ e. eqb e.place place) es)) none)

-- so no two speak of one word
pub no_clash_without_logs : (image : List ℕ) (lanes place : ℕ) → flat_map (records image) (range_with_len 0 lanes) ≡ [] → flat_map (entries image) (range_with_len 0 lanes) ≡ [] → clashes image lanes place ≡ false
no_clash_without_logs image lanes place no_records no_entries =
    sym (clash_by_counts image lanes place 0 0 (no_record image lanes place no_records) (no_entry image lanes place no_entries))
