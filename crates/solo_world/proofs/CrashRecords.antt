-- The recovered word of an image whose lanes have sealed nothing: the old word of a valid record that covers it, else the image's.
use Rattle.std.proofs.Common.{◌≡◌, ℕ, zero, suc, ◌+◌, ◌*◌, ◌<◌, ◌≤◌, ◌⊎◌, inl, inr, ⊎_elim, eqb, leb, Bool, true, false, cond, ◌&&◌, List, [], ◌∷◌, ◌++◌, slice_index, Option, Some, None, refl, sym, ap, ◌∙◌, arith}
use Rattle.std.specs.List.{filter, flat_map, find, range_with_len}
use Rattle.std.specs.Option.{option_or, option_to_list}
use Rattle.std.proofs.lemmas.Bool.{cases_Bool, cases_eq, cond-false, false_from_ne_true}
use Rattle.std.proofs.lemmas.Option.{none-some, same_Some}
use Rattle.std.proofs.lemmas.List.Folds.{find-append}
use Rattle.pm_record.specs.declared.redo.Redo.{Redo}
use Rattle.pm_record.specs.declared.undo.Undo.{Undo}
use Rattle.pm_image.specs.Logs.{seal_word, is_sealed, generation, generation_word, entries, entries_for, records, record_for, covers, old_word, restored, recovered_by, recovered}
use Rattle.pm_image.specs.Steps.{valid_record}
use Rattle.pm_image.proofs.Gathering.{record_at, records_by_number}
use Rattle.pm_image.proofs.Redoing.{entries_unsealed}

-- the part in which the first element that passes the test is found
record FoundIn {X : Type 0} (p : X → Bool) (f : ℕ → List X) (from n : ℕ) : Type 0 where
  part : ℕ
  element : X
  low : from ≤ part
  high : part < from + n
  here : find p (f part) ≡ Some element
  whole : find p (flat_map f (range_with_len from n)) ≡ Some element

-- none passes it
record FoundNowhere {X : Type 0} (p : X → Bool) (f : ℕ → List X) (from n : ℕ) : Type 0 where
  parts : (k : ℕ) → from ≤ k → k < from + n → find p (f k) ≡ None
  whole : find p (flat_map f (range_with_len from n)) ≡ None

cases_find : {X : Type 0} (p : X → Bool) (xs : List X) → (find p xs ≡ None) ⊎ ((x : X) × (find p xs ≡ Some x))
cases_find p [] = inl refl
cases_find {X = X} p (x ∷ xs) =
    ⊎_elim (λ (passes : p x ≡ true). inr (x, cond-of x passes)) (λ (fails : p x ≡ false). rest fails (cases_find p xs)) (cases_Bool (p x)) where
      cond-of : (y : X) → p y ≡ true → cond (p y) (Some y) (find p xs) ≡ Some y
      cond-of y passes = ap (λ b. cond b (Some y) (find p xs)) passes

      rest : p x ≡ false → (find p xs ≡ None) ⊎ ((y : X) × (find p xs ≡ Some y)) → (cond (p x) (Some x) (find p xs) ≡ None) ⊎ ((y : X) × (cond (p x) (Some x) (find p xs) ≡ Some y))
      rest fails (inl none) = inl (ap (λ b. cond b (Some x) (find p xs)) fails ∙ none)
      rest fails (inr (y, some)) = inr (y, ap (λ b. cond b (Some x) (find p xs)) fails ∙ some)

cases_found : {X : Type 0} (p : X → Bool) (f : ℕ → List X) (from n : ℕ) → FoundNowhere p f from n ⊎ FoundIn p f from n
cases_found p f from zero = inl (record { parts = λ k low high. absurd (omega arith); whole = refl })
cases_found {X = X} p f from (suc n) = first (cases_find p (f from)) (cases_found p f (from + 1) n) where
  step : find p (flat_map f (range_with_len from (suc n))) ≡ option_or (find p (f from)) (find p (flat_map f (range_with_len (from + 1) n)))
  step = find-append p (f from) (flat_map f (range_with_len (from + 1) n))

  first : (find p (f from) ≡ None) ⊎ ((x : X) × (find p (f from) ≡ Some x)) → FoundNowhere p f (from + 1) n ⊎ FoundIn p f (from + 1) n → FoundNowhere p f from (suc n) ⊎ FoundIn p f from (suc n)
  first (inr (x, some)) later = inr (record { part = from; element = x; low = omega arith; high = omega arith; here = some; whole = step ∙ ap (λ o. option_or o (find p (flat_map f (range_with_len (from + 1) n)))) some })
  first (inl none) (inl nowhere) =
      inl (record {
        parts = λ k low high. ⊎_elim (λ (same : from ≡ k). ap (λ j. find p (f j)) (sym same) ∙ none) (λ (differ : from ≡ k → ⊥). nowhere.parts k (omega arith) (omega arith)) (cases_eq from k);
        whole = step ∙ (ap (λ o. option_or o (find p (flat_map f (range_with_len (from + 1) n)))) none ∙ nowhere.whole);
      })
  first (inl none) (inr found) =
      let low = found.low in let high = found.high in
      inr (record { part = found.part; element = found.element; low = omega arith; high = omega arith; here = found.here; whole = step ∙ (ap (λ o. option_or o (find p (flat_map f (range_with_len (from + 1) n)))) none ∙ found.whole) })

-- what is found in the list of one
of_one : {X : Type 0} (p : X → Bool) (o : Option X) (x : X) → find p (option_to_list o) ≡ Some x → (o ≡ Some x) × (p x ≡ true)
of_one p None x e = absurd (none-some x e)
of_one {X = X} p (Some y) x e = go (p y) refl e where
  go : (b : Bool) → p y ≡ b → cond b (Some y) None ≡ Some x → (Some y ≡ Some x) × (p x ≡ true)
  go true is e = (e, ap p (sym (same_Some y x e)) ∙ is)
  go false is e = absurd (none-some x e)

not_in_one : {X : Type 0} (p : X → Bool) (o : Option X) (x : X) → o ≡ Some x → find p (option_to_list o) ≡ None → p x ≡ false
not_in_one {X = X} p o x is none = false_from_ne_true (p x) (λ passes. none-some x (sym none ∙ (ap (λ q. find p (option_to_list q)) is ∙ ap (λ b. cond b (Some x) None) passes)))

-- a valid record that covers the word at the place
pub record Covering (image : List ℕ) (lanes place : ℕ) : Type 0 where
  pub lane : ℕ
  pub slot : ℕ
  pub found : Undo
  pub of_lane : lane < lanes
  pub of_slot : slot < 64
  pub valid : valid_record image lane slot ≡ Some found
  pub covering : covers found place ≡ true
  pub first : record_for image lanes place ≡ Some found

-- fails valid record covers it
pub record NoneCovers (image : List ℕ) (lanes place : ℕ) : Type 0 where
  pub none : (lane slot : ℕ) (u : Undo) → lane < lanes → slot < 64 → valid_record image lane slot ≡ Some u → covers u place ≡ false
  pub nothing : record_for image lanes place ≡ None

abbrev is_of : ℕ → Undo → Bool
is_of place u = covers u place

pub record_for-cases : (image : List ℕ) (lanes place : ℕ) → NoneCovers image lanes place ⊎ Covering image lanes place
unfolding record_for
record_for-cases image lanes place = by_lane (cases_found (is_of place) (records image) 0 lanes) where
  by_slot : (lane : ℕ) → FoundNowhere (is_of place) (record_at image lane) 0 64 ⊎ FoundIn (is_of place) (record_at image lane) 0 64
  by_slot lane = cases_found (is_of place) (record_at image lane) 0 64

  nowhere : (lane slot : ℕ) (u : Undo) → find (is_of place) (records image lane) ≡ None → slot < 64 → valid_record image lane slot ≡ Some u
      → FoundNowhere (is_of place) (record_at image lane) 0 64 ⊎ FoundIn (is_of place) (record_at image lane) 0 64 → covers u place ≡ false
  nowhere lane slot u none inside valid (inl not_there) = not_in_one (is_of place) (valid_record image lane slot) u valid (not_there.parts slot (omega arith) (omega arith))
  nowhere lane slot u none inside valid (inr there) = absurd (none-some there.element (sym none ∙ (ap (find (is_of place)) (records_by_number image lane) ∙ there.whole)))

  somewhere : (lane : ℕ) (u : Undo) → lane < lanes → find (is_of place) (records image lane) ≡ Some u → record_for image lanes place ≡ Some u
      → FoundNowhere (is_of place) (record_at image lane) 0 64 ⊎ FoundIn (is_of place) (record_at image lane) 0 64 → Covering image lanes place
  somewhere lane u inside here whole (inl not_there) = absurd (none-some u (sym not_there.whole ∙ (sym (ap (find (is_of place)) (records_by_number image lane)) ∙ here)))
  somewhere lane u inside here whole (inr there) =
      let same : there.element ≡ u = same_Some there.element u (sym there.whole ∙ (sym (ap (find (is_of place)) (records_by_number image lane)) ∙ here)) in
      let one = of_one (is_of place) (valid_record image lane there.part) there.element there.here in
      let high = there.high in
      record { lane = lane; slot = there.part; found = u; of_lane = inside; of_slot = omega arith; valid = one.0 ∙ ap Some same; covering = ap (is_of place) (sym same) ∙ one.1; first = whole }

  by_lane : FoundNowhere (is_of place) (records image) 0 lanes ⊎ FoundIn (is_of place) (records image) 0 lanes → NoneCovers image lanes place ⊎ Covering image lanes place
  by_lane (inl not_there) =
      inl (record { none = λ lane slot u in_lanes inside valid. nowhere lane slot u (not_there.parts lane (omega arith) (omega arith)) inside valid (by_slot lane); nothing = not_there.whole })
  by_lane (inr there) = let high = there.high in inr (somewhere there.part there.element (omega arith) there.here there.whole (by_slot there.part))

pub unsealed : (image : List ℕ) (lane : ℕ) → seal_word image lane ≡ 0 → is_sealed image lane ≡ false
unsealed image lane zero_seal = ap (λ n. leb 1 n && leb n 64) zero_seal

no_entries : (image : List ℕ) (from n : ℕ) → ((lane : ℕ) → lane < from + n → seal_word image lane ≡ 0) → flat_map (entries image) (range_with_len from n) ≡ []
no_entries image from zero zeros = refl
no_entries image from (suc n) zeros =
    ap (λ (es : List Redo). es ++ flat_map (entries image) (range_with_len (from + 1) n)) (entries_unsealed image from (unsealed image from (zeros from (omega arith))))
    ∙ no_entries image (from + 1) n (λ lane inside. zeros lane (omega arith))

no_entries_for : (image : List ℕ) (lanes place : ℕ) → ((lane : ℕ) → lane < lanes → seal_word image lane ≡ 0) → entries_for image lanes place ≡ []
unfolding entries_for
no_entries_for image lanes place zeros = ap (filter (λ (e : Redo). eqb e.place place)) (no_entries image 0 lanes (λ lane inside. zeros lane (omega arith)))

-- the recovered word is y, where no sealed entry is of it, each valid record that covers it says y, and without one the image does
pub recovered_unentered : (image : List ℕ) (lanes w y : ℕ) → entries_for image lanes (8 * w) ≡ []
    → ((lane slot : ℕ) (u : Undo) → lane < lanes → slot < 64 → valid_record image lane slot ≡ Some u → covers u (8 * w) ≡ true → old_word u (8 * w) ≡ y)
    → (((lane slot : ℕ) (u : Undo) → lane < lanes → slot < 64 → valid_record image lane slot ≡ Some u → covers u (8 * w) ≡ false) → slice_index image w ≡ y)
    → recovered image lanes w ≡ y
unfolding recovered
recovered_unentered image lanes w y none says plain =
    ap (λ es. recovered_by es (record_for image lanes (8 * w)) (8 * w) (slice_index image w)) none
    ∙ ⊎_elim (λ (nothing : NoneCovers image lanes (8 * w)). ap (λ r. restored r (8 * w) (slice_index image w)) nothing.nothing ∙ plain nothing.none)
    (λ (there : Covering image lanes (8 * w)). ap (λ r. restored r (8 * w) (slice_index image w)) there.first ∙ says there.lane there.slot there.found there.of_lane there.of_slot there.valid there.covering)
    (record_for-cases image lanes (8 * w))

-- the same where no lane sealed anything
pub recovered_is : (image : List ℕ) (lanes w y : ℕ) → ((lane : ℕ) → lane < lanes → seal_word image lane ≡ 0)
    → ((lane slot : ℕ) (u : Undo) → lane < lanes → slot < 64 → valid_record image lane slot ≡ Some u → covers u (8 * w) ≡ true → old_word u (8 * w) ≡ y)
    → (((lane slot : ℕ) (u : Undo) → lane < lanes → slot < 64 → valid_record image lane slot ≡ Some u → covers u (8 * w) ≡ false) → slice_index image w ≡ y)
    → recovered image lanes w ≡ y
recovered_is image lanes w y zeros says plain = recovered_unentered image lanes w y (no_entries_for image lanes (8 * w) zeros) says plain

-- the generation of a lane that sealed nothing
pub generation_unsealed : (image : List ℕ) (lane : ℕ) → seal_word image lane ≡ 0 → generation image lane ≡ generation_word image lane
generation_unsealed image lane zero_seal = cond-false _ _ _ (unsealed image lane zero_seal)
