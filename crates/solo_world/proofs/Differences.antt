-- What the open call makes final: each word that it recorded, as its view has it, and then what its entries make.
use Rattle.std.proofs.Common.{◌≡◌, ◌≢◌, ℕ, zero, suc, ◌+◌, ◌<◌, ◌≤◌, ⊎_elim, eqb, ltb, leb, true, false, cond, ◌&&◌, ◌||◌, All, List, [], ◌∷◌, length, ◌++◌, map, slice_index, flat_map, bit_or, not, refl, sym, ap, ◌∙◌, arith, eq-eqb}
use Rattle.std.specs.List.{filter, range_with_len}
use Rattle.std.specs.Int.Bits.{and_zero_r, or_zero_l}
use Rattle.std.proofs.lemmas.Bool.{cases_Bool, cond-true, cond-false, eqb-true, leb-true, ltb-true, le-leb, lt-ltb, and_parts, and_from, or_cases, or_from, or_left, or_right, cases_eq, false_from_ne_true, false≢true}
use Rattle.std.proofs.lemmas.List.{append-nil}
use Rattle.std.proofs.lemmas.List.Elements.{All-nil, All-cons, All-append, All-head, All-tail}
use Rattle.std.proofs.lemmas.List.Folds.{list_any-append}
use Rattle.solo_view.specs.Area.{is_in_area}
use Rattle.solo_view.specs.Bits.{all_bits, with_bits}
use Rattle.solo_view.specs.Log.{Recorded, Final}
use Rattle.solo_view.specs.View.{View}
use Rattle.solo_world.specs.History.{made_final, is_final}
use Rattle.solo_world.specs.Records.{is_recorded, finals_of, pool_entries, difference_of}
use Rattle.solo_world.proofs.Replays.{made_final-append, made_final-other}

-- the word is made what these words have
pub record IsTakenFrom (words : List ℕ) (f : Final) : Type 0 where
  pub whole : f.mask ≡ all_bits
  pub bits : f.bits ≡ slice_index words f.word

pub with_all_bits : (x y : ℕ) → with_bits all_bits y x ≡ y
with_all_bits x y = ap (λ n. bit_or n y) (and_zero_r x) ∙ or_zero_l y

pub made_final-taken : (words : List ℕ) (difference : List Final) (w x : ℕ) → All (IsTakenFrom words) difference → is_final difference w ≡ true → made_final difference w x ≡ slice_index words w
unfolding made_final
made_final-taken words [] w x taken e = absurd (false≢true e)
made_final-taken words (f ∷ difference) w x taken e =
    let first = All-head (IsTakenFrom words) f difference taken in
    let rest = All-tail (IsTakenFrom words) f difference taken in
    ⊎_elim (λ (again : is_final difference w ≡ true). made_final-taken words difference w (cond (eqb f.word w) (with_bits f.mask f.bits x) x) rest again)
    (λ (never : is_final difference w ≡ false).
    let here : eqb f.word w ≡ true = ⊎_elim (λ (h : eqb f.word w ≡ true). h) (λ (later : is_final difference w ≡ true). absurd (false≢true (sym never ∙ later))) (or_cases (eqb f.word w) (is_final difference w) e) in
    ap (made_final difference w) (cond-true _ _ _ here) ∙ (made_final-other difference w (with_bits f.mask f.bits x) never
    ∙ (ap (λ m. with_bits m f.bits x) first.whole ∙ (with_all_bits x f.bits ∙ (first.bits ∙ ap (slice_index words) (eqb-true f.word w here))))))
    (cases_Bool (is_final difference w))

range_taken : (words : List ℕ) (from n : ℕ) → All (IsTakenFrom words) (map (λ w. record { word = w; mask = all_bits; bits = slice_index words w; ors = false }) (range_with_len from n))
range_taken words from zero = All-nil (IsTakenFrom words)
range_taken words from (suc n) = All-cons (IsTakenFrom words) _ _ (record { whole = refl; bits = refl }) (range_taken words (from + 1) n)

records_taken : (words : List ℕ) (records : List Recorded) → All (IsTakenFrom words) (flat_map (finals_of words) records)
records_taken words [] = All-nil (IsTakenFrom words)
records_taken words (r ∷ records) = All-append (IsTakenFrom words) (finals_of words r) (flat_map (finals_of words) records) (range_taken words r.word (length r.old)) (records_taken words records)

abbrev range_finals : List ℕ → ℕ → ℕ → List Final
range_finals words from n = map (λ u. record { word = u; mask = all_bits; bits = slice_index words u; ors = false }) (range_with_len from n)

final-in_range : (words : List ℕ) (from n w : ℕ) → is_final (range_finals words from n) w ≡ true → (from ≤ w) × (w < from + n)
final-in_range words from zero w e = absurd (false≢true e)
final-in_range words from (suc n) w e =
    ⊎_elim (λ (here : eqb from w ≡ true). let same = eqb-true from w here in (omega arith, omega arith))
    (λ (later : is_final (range_finals words (from + 1) n) w ≡ true). let t = final-in_range words (from + 1) n w later in let low = t.0 in let high = t.1 in (omega arith, omega arith))
    (or_cases (eqb from w) (is_final (range_finals words (from + 1) n) w) e)

range-final : (words : List ℕ) (from n w : ℕ) → from ≤ w → w < from + n → is_final (range_finals words from n) w ≡ true
range-final words from zero w low high = absurd (omega arith)
range-final words from (suc n) w low high =
    ⊎_elim (λ (same : from ≡ w). or_left (eqb from w) (is_final (range_finals words (from + 1) n) w) (eq-eqb from w same))
    (λ (differ : from ≢ w). or_right (eqb from w) (is_final (range_finals words (from + 1) n) w) (range-final words (from + 1) n w (omega arith) (omega arith)))
    (cases_eq from w)

range_final : (words : List ℕ) (from n w : ℕ) → is_final (range_finals words from n) w ≡ (leb from w && ltb w (from + n))
range_final words from n w =
    ⊎_elim (λ (yes : is_final (range_finals words from n) w ≡ true). let t = final-in_range words from n w yes in yes ∙ sym (and_from (leb from w) (ltb w (from + n)) (le-leb from w t.0) (lt-ltb w (from + n) t.1)))
    (λ (no : is_final (range_finals words from n) w ≡ false). no ∙ sym (false_from_ne_true (leb from w && ltb w (from + n)) (λ both. let t = and_parts (leb from w) (ltb w (from + n)) both in
    false≢true (sym no ∙ range-final words from n w (leb-true from w t.0) (ltb-true w (from + n) t.1)))))
    (cases_Bool (is_final (range_finals words from n) w))

records_final : (words : List ℕ) (records : List Recorded) (w : ℕ) → is_final (flat_map (finals_of words) records) w ≡ is_recorded records w
records_final words [] w = refl
records_final words (r ∷ records) w =
    list_any-append (λ (f : Final). eqb f.word w) (finals_of words r) (flat_map (finals_of words) records)
    ∙ (λ i. range_final words r.word (length r.old) w i || records_final words records w i)

-- the entry sets a whole word
abbrev pub SetsWhole : Final → Type 0
SetsWhole f = f.mask ≡ all_bits

pub made_whole : (f : Final) (x : ℕ) → SetsWhole f → with_bits f.mask f.bits x ≡ f.bits
made_whole f x whole = ap (λ m. with_bits m f.bits x) whole ∙ with_all_bits x f.bits

-- the entries of words outside of an area
abbrev outside : ℕ → List Final → List Final
outside lane entries = filter (λ (f : Final). not (is_in_area lane f.word)) entries

-- an entry of a word of the area is of no word outside of it
no_word-outside : (lane w : ℕ) (f : Final) → is_in_area lane w ≡ false → is_in_area lane f.word ≡ true → eqb f.word w ≡ false
no_word-outside lane w f out within = false_from_ne_true (eqb f.word w) (λ e. false≢true (sym out ∙ (ap (is_in_area lane) (sym (eqb-true f.word w e)) ∙ within)))

dropped : (lane : ℕ) (f : Final) (entries : List Final) → is_in_area lane f.word ≡ true → outside lane (f ∷ entries) ≡ outside lane entries
dropped lane f entries within = ap (λ b. cond (not b) (f ∷ outside lane entries) (outside lane entries)) within

retained : (lane : ℕ) (f : Final) (entries : List Final) → is_in_area lane f.word ≡ false → outside lane (f ∷ entries) ≡ f ∷ outside lane entries
retained lane f entries out = ap (λ b. cond (not b) (f ∷ outside lane entries) (outside lane entries)) out

outside-final : (lane : ℕ) (entries : List Final) (w : ℕ) → is_in_area lane w ≡ false → is_final (outside lane entries) w ≡ is_final entries w
outside-final lane [] w out = refl
outside-final lane (f ∷ entries) w out =
    ⊎_elim (λ (within : is_in_area lane f.word ≡ true). ap (λ fs. is_final fs w) (dropped lane f entries within)
    ∙ (outside-final lane entries w out ∙ sym (ap (λ b. b || is_final entries w) (no_word-outside lane w f out within))))
    (λ (free : is_in_area lane f.word ≡ false). ap (λ fs. is_final fs w) (retained lane f entries free) ∙ ap (λ b. eqb f.word w || b) (outside-final lane entries w out))
    (cases_Bool (is_in_area lane f.word))

outside-makes : (lane : ℕ) (entries : List Final) (w x : ℕ) → is_in_area lane w ≡ false → made_final (outside lane entries) w x ≡ made_final entries w x
unfolding made_final
outside-makes lane [] w x out = refl
outside-makes lane (f ∷ entries) w x out =
    ⊎_elim (λ (within : is_in_area lane f.word ≡ true). ap (λ fs. made_final fs w x) (dropped lane f entries within)
    ∙ (outside-makes lane entries w x out ∙ sym (ap (made_final entries w) (cond-false _ _ _ (no_word-outside lane w f out within)))))
    (λ (free : is_in_area lane f.word ≡ false). ap (λ fs. made_final fs w x) (retained lane f entries free) ∙ outside-makes lane entries w (cond (eqb f.word w) (with_bits f.mask f.bits x) x) out)
    (cases_Bool (is_in_area lane f.word))

outside-area : (lane : ℕ) (entries : List Final) (w : ℕ) → is_in_area lane w ≡ true → is_final (outside lane entries) w ≡ false
outside-area lane [] w within = refl
outside-area lane (f ∷ entries) w within =
    ⊎_elim (λ (inner : is_in_area lane f.word ≡ true). ap (λ fs. is_final fs w) (dropped lane f entries inner) ∙ outside-area lane entries w within)
    (λ (free : is_in_area lane f.word ≡ false). ap (λ fs. is_final fs w) (retained lane f entries free)
    ∙ or_from (eqb f.word w) (is_final (outside lane entries) w) (false_from_ne_true (eqb f.word w) (λ e. false≢true (sym free ∙ (ap (is_in_area lane) (eqb-true f.word w e) ∙ within)))) (outside-area lane entries w within))
    (cases_Bool (is_in_area lane f.word))

-- they are of no word of the lane's area
pub pool_entries-area : (v : View) (w : ℕ) → is_in_area v.lane w ≡ true → is_final (pool_entries v) w ≡ false
pool_entries-area v w within = outside-area v.lane v.log.entries w within

-- outside of the lane's area the pool's entries are the entries
pub pool_entries-final : (v : View) (w : ℕ) → is_in_area v.lane w ≡ false → is_final (pool_entries v) w ≡ is_final v.log.entries w
pool_entries-final v w out = outside-final v.lane v.log.entries w out

pub pool_entries-makes : (v : View) (w x : ℕ) → is_in_area v.lane w ≡ false → made_final (pool_entries v) w x ≡ made_final v.log.entries w x
pool_entries-makes v w x out = outside-makes v.lane v.log.entries w x out

-- the difference is of the recorded words and of the pool's entries
pub difference-words : (v : View) (w : ℕ) → is_final (difference_of v) w ≡ (is_recorded v.log.records w || is_final (pool_entries v) w)
difference-words v w =
    list_any-append (λ (f : Final). eqb f.word w) (flat_map (finals_of v.words) v.log.records) (pool_entries v) ∙ ap (λ b. b || is_final (pool_entries v) w) (records_final v.words v.log.records w)

-- it makes a recorded word what the entries make of the view's
pub difference-recorded : (v : View) (w x : ℕ) → is_recorded v.log.records w ≡ true → made_final (difference_of v) w x ≡ made_final (pool_entries v) w (slice_index v.words w)
difference-recorded v w x e =
    made_final-append (flat_map (finals_of v.words) v.log.records) (pool_entries v) w x
    ∙ ap (made_final (pool_entries v) w) (made_final-taken v.words (flat_map (finals_of v.words) v.log.records) w x (records_taken v.words v.log.records) (records_final v.words v.log.records w ∙ e))

-- and any other what they make of it
pub difference-unrecorded : (v : View) (w x : ℕ) → is_recorded v.log.records w ≡ false → made_final (difference_of v) w x ≡ made_final (pool_entries v) w x
difference-unrecorded v w x e =
    made_final-append (flat_map (finals_of v.words) v.log.records) (pool_entries v) w x
    ∙ ap (made_final (pool_entries v) w) (made_final-other (flat_map (finals_of v.words) v.log.records) w x (records_final v.words v.log.records w ∙ e))

-- without entries the difference is that of the records
pub difference-unentered : (v : View) → v.log.entries ≡ [] → difference_of v ≡ flat_map (finals_of v.words) v.log.records
difference-unentered v none = ap (λ entries. flat_map (finals_of v.words) v.log.records ++ outside v.lane entries) none ∙ append-nil (flat_map (finals_of v.words) v.log.records)
