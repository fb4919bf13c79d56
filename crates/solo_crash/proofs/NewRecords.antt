-- New records of words: what they cover, and where they stand among all.
use Rattle.std.proofs.Common.{◌≡◌, ⊎_elim, ℕ, zero, suc, ◌+◌, ◌&&◌, Bool, true, false, not, eqb, ltb, List, [], ◌∷◌, ◌++◌, length, map, flat_map, slice_get, Some, None, refl, sym, ◌∙◌, ap}
use Rattle.std.specs.List.{Contains, range_with_len}
use Rattle.std.proofs.lemmas.Bool.{cases_Bool, cond-false, cond-true, eqb-true, and_parts, false≢true, or_cases}
use Rattle.std.proofs.lemmas.List.{append_assoc, length-map, map-id}
use Rattle.std.proofs.lemmas.List.Concat.{flat_map-append}
use Rattle.std.proofs.lemmas.List.FromFn.{map-range_with_len_more}
use Rattle.pm_image.proofs.Members.{first_member, later_member, member_cases, member_kept, no_member}
use Rattle.solo_model.specs.Bytes.{is_among, new_words, records_from, records_of}
use Rattle.solo_view.specs.Log.{Recorded}
use Rattle.solo_world.specs.Records.{covers, is_recorded}
use Rattle.solo_crash.specs.OpenCall.{words_of_record, words_recorded}
use Rattle.solo_crash.specs.Operations.{extent}
use Rattle.solo_crash.proofs.Covered.{among_tested}
use Rattle.solo_crash.proofs.RecordedWords.{among_recorded}

-- the words of a record by its first word and how many it has
abbrev run : ℕ × ℕ → List ℕ
run e = range_with_len e.0 e.1

run_more : (a n : ℕ) → range_with_len a (n + 1) ≡ range_with_len a n ++ (a + n) ∷ []
run_more a n =
    sym (map-id (range_with_len a (n + 1))) ∙ map-range_with_len_more (λ (x : ℕ). x) a n (a + n) refl ∙ ap (λ (l : List ℕ). l ++ (a + n) ∷ []) (map-id (range_with_len a n))

-- the records of some words have these words, in their order
spread_from : (open_one : ℕ × ℕ) (words : List ℕ) → flat_map run (records_from open_one words) ≡ run open_one ++ words
unfolding records_from
spread_from open_one [] = refl
spread_from open_one (w ∷ words) =
    let joins : Bool = eqb w (open_one.0 + open_one.1) && ltb open_one.1 4 in
    let one : List (ℕ × ℕ) = records_from (open_one.0, open_one.1 + 1) words in
    let two : List (ℕ × ℕ) = open_one ∷ records_from (w, 1) words in
    ⊎_elim
    (λ (yes : joins ≡ true).
    let next : w ≡ open_one.0 + open_one.1 = eqb-true w (open_one.0 + open_one.1) (and_parts (eqb w (open_one.0 + open_one.1)) (ltb open_one.1 4) yes).0 in
    ap (flat_map run) (cond-true joins one two yes)
    ∙ spread_from (open_one.0, open_one.1 + 1) words
    ∙ ap (λ (l : List ℕ). l ++ words) (run_more open_one.0 open_one.1)
    ∙ append_assoc (run open_one) ((open_one.0 + open_one.1) ∷ []) words
    ∙ ap (λ (x : ℕ). run open_one ++ (x ∷ words)) (sym next))
    (λ (no : joins ≡ false).
    ap (flat_map run) (cond-false joins one two no) ∙ ap (λ (l : List ℕ). run open_one ++ l) (spread_from (w, 1) words))
    (cases_Bool joins)

spread : (words : List ℕ) → flat_map run (records_of words) ≡ words
unfolding records_of
spread [] = refl
spread (w ∷ words) = spread_from (w, 1) words

by_extents : (records : List Recorded) → words_recorded records ≡ flat_map run (map extent records)
by_extents [] = refl
by_extents (r ∷ records) = ap (λ (l : List ℕ). words_of_record r ++ l) (by_extents records)

pub words_of_new : (added : List Recorded) (words : List ℕ) → map extent added ≡ records_of words → words_recorded added ≡ words
words_of_new added words extents = by_extents added ∙ ap (flat_map run) extents ∙ spread words

pub words_of_all : (records added : List Recorded) → words_recorded (records ++ added) ≡ words_recorded records ++ words_recorded added
words_of_all records added = flat_map-append words_of_record records added

pub number_of_new : (added : List Recorded) (words : List ℕ) → map extent added ≡ records_of words → length (records_of words) ≡ length added
number_of_new added words extents = sym (ap (λ (l : List (ℕ × ℕ)). length l) extents) ∙ length-map added extent

-- a word of new records is one of the words that they are of
pub new_is_covered : (added : List Recorded) (recorded words : List ℕ) (i : ℕ) → map extent added ≡ records_of (new_words recorded words) → is_recorded added i ≡ true → Contains words i
unfolding new_words
new_is_covered added recorded words i extents is =
    let among : is_among (new_words recorded words) i ≡ true = ap (λ (ws : List ℕ). is_among ws i) (sym (words_of_new added (new_words recorded words) extents)) ∙ among_recorded added i ∙ is in
    member_kept (λ (w : ℕ). not (is_among recorded w)) words i (among_tested (new_words recorded words) i among)

-- a recorded word has its record
pub recorded_member : (records : List Recorded) (i : ℕ) → is_recorded records i ≡ true → (r : Recorded) × Contains records r × (covers r i ≡ true)
recorded_member [] i is = absurd (false≢true is)
recorded_member (r ∷ records) i is = ⊎_elim
    (λ (here : covers r i ≡ true). (r, first_member r records, here))
    (λ (later : is_recorded records i ≡ true). let found = recorded_member records i later in (found.0, later_member r records found.0 found.1, found.2))
    (or_cases (covers r i) (is_recorded records i) is)

-- a record keeps its slot where more are added, and a new one has a slot behind
pub slot_kept : (records added : List Recorded) (slot : ℕ) (r : Recorded) → slice_get records slot ≡ Some r → slice_get (records ++ added) slot ≡ Some r
slot_kept [] added slot r at = absurd (let clash : None ≡ Some r = at in cc)
slot_kept (q ∷ records) added zero r at = at
slot_kept (q ∷ records) added (suc slot) r at = slot_kept records added slot r at

slot_found : (records : List Recorded) (r : Recorded) → Contains records r → (slot : ℕ) × (slice_get records slot ≡ Some r)
slot_found [] r there = absurd (no_member r there)
slot_found (q ∷ records) r there = ⊎_elim
    (λ (here : q ≡ r). (zero, ap (λ (x : Recorded). Some x) here))
    (λ (later : Contains records r). let found = slot_found records r later in (suc found.0, found.1))
    (member_cases q records r there)

pub slot_added : (records added : List Recorded) (r : Recorded) → Contains added r → (slot : ℕ) × (slice_get (records ++ added) slot ≡ Some r)
slot_added [] added r there = slot_found added r there
slot_added (q ∷ records) added r there = let found = slot_added records added r there in (suc found.0, found.1)
