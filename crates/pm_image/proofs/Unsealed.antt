-- Where no lane is sealed: no entry has a fault, and records alone clash.
use Rattle.std.proofs.Common.{◌≡◌, ℕ, ◌+◌, ◌*◌, ◌/◌, ◌%◌, ◌<◌, ◌≤◌, ◌&&◌, ◌||◌, Bool, true, false, not, eqb, leb, ltb, List, [], length, Option, None, refl, sym, ◌∙◌, ap, arith, zero, suc}
use Rattle.std.specs.List.{filter, find, flat_map, range_with_len}
use Rattle.std.specs.Option.{option_map}
use Rattle.pm_record.specs.Redo.{redo_of}
use Rattle.pm_record.specs.declared.redo.Redo.{Redo}
use Rattle.pm_record.specs.declared.undo.Undo.{Undo}
use Rattle.pm_image.specs.declared.fault.ImageFault.TheVariants as fault
use Rattle.pm_image.specs.Logs.{covers, entry_pair, entries, entries_for, records, is_sealed, seal_word}
use Rattle.pm_image.specs.LogFaults.{good_lane, good_entry, bad_entry, bad_slot, records_for, clashes, log_fault}
use Rattle.pm_image.proofs.Firsts.{none_passes, same_first}
use Rattle.pm_image.proofs.Local.{flat_map_same}
use Rattle.pm_image.proofs.LogRows.{clash_row}
use Rattle.pm_image.proofs.Masks.{no_clash_if_few}
use Rattle.pm_image.proofs.Redoing.{entries_unsealed}

pub not_sealed : (image : List ℕ) (lane : ℕ) → seal_word image lane ≡ 0 → is_sealed image lane ≡ false
not_sealed image lane none = ap (λ (n : ℕ). leb 1 n && leb n 64) none

no_entries : (image : List ℕ) (lane : ℕ) → seal_word image lane ≡ 0 → entries image lane ≡ []
no_entries image lane none = entries_unsealed image lane (not_sealed image lane none)

no_entry : (image : List ℕ) (lanes zones lane i : ℕ) → seal_word image lane ≡ 0 → bad_entry image lanes zones lane i ≡ false
no_entry image lanes zones lane i none = ap (λ (b : Bool). b && ltb i (seal_word image lane) && not (good_entry image lanes zones lane i (redo_of (entry_pair image lane i)))) (not_sealed image lane none)

abbrev nothing : {X : Type 0} → ℕ → List X
nothing k = []

pub nothing_in : {X : Type 0} (f : ℕ → List X) (n : ℕ) → ((k : ℕ) → k < n → f k ≡ []) → flat_map f (range_with_len 0 n) ≡ []
nothing_in {X = X} f n empty = flat_map_same f (nothing {X = X}) 0 n (λ k behind near. empty k (omega arith)) ∙ none 0 n where
  none : (a m : ℕ) → flat_map (nothing {X = X}) (range_with_len a m) ≡ []
  none a zero = refl
  none a (suc m) = none (a + 1) m

pub no_entries_for : (image : List ℕ) (lanes place : ℕ) → ((lane : ℕ) → lane < lanes → seal_word image lane ≡ 0) → entries_for image lanes place ≡ []
unfolding entries_for
no_entries_for image lanes place unsealed = ap (filter (λ (e : Redo). eqb e.place place)) (nothing_in (entries image) lanes (λ k inside. no_entries image k (unsealed k inside)))

or_rest : (a b : Bool) → ((a || (b && false)) || false) ≡ a
or_rest true b = refl
or_rest false true = refl
or_rest false false = refl

records_clash : (image : List ℕ) (lanes place : ℕ) (us : List Undo) → ((lane : ℕ) → lane < lanes → seal_word image lane ≡ 0) → us ≡ flat_map (records image) (range_with_len 0 lanes)
    → clashes image lanes place ≡ ltb 1 (length (filter (λ u. covers u place) us))
unfolding clashes records_for
records_clash image lanes place us unsealed all =
    let covering : List Undo → ℕ = λ vs. length (filter (λ u. covers u place) vs) in
    let found : List Undo = flat_map (records image) (range_with_len 0 lanes) in
    let none : length (entries_for image lanes place) ≡ 0 = ap length (no_entries_for image lanes place unsealed) in
    let few : length (entries_for image lanes place) ≤ 1 = omega (arith, none) in
    (λ i. (ltb 1 (covering found) || (ltb 0 (covering found) && ltb 0 (none i))) || no_clash_if_few image lanes place few i)
    ∙ or_rest (ltb 1 (covering found)) (ltb 0 (covering found)) ∙ ap (λ (vs : List Undo). ltb 1 (covering vs)) (sym all)

-- where no lane and no slot has a fault, a clash of records is the first, or there is none
pub records_row : (image : List ℕ) (lanes zones : ℕ) (us : List Undo) (o : Option ℕ) → ((lane : ℕ) → lane < lanes → seal_word image lane ≡ 0) → find (λ k. not (good_lane image k)) (range_with_len 0 lanes) ≡ None
    → find (λ m. bad_slot image lanes zones (m / 64) (m % 64)) (range_with_len 0 (64 * lanes)) ≡ None → us ≡ flat_map (records image) (range_with_len 0 lanes)
    → find (λ i. ltb 1 (length (filter (λ u. covers u (8 * i)) us))) (range_with_len 0 (length image)) ≡ o → option_map (λ i. fault.Clash (8 * i)) o ≡ log_fault image lanes zones
records_row image lanes zones us o unsealed none no_slot all is =
    clash_row image lanes zones o none
    (none_passes (λ n. bad_entry image lanes zones (n / 64) (n % 64)) (64 * lanes) (λ n inside. no_entry image lanes zones (n / 64) (n % 64) (unsealed (n / 64) (omega arith))))
    no_slot
    (same_first (λ i. clashes image lanes (8 * i)) (λ i. ltb 1 (length (filter (λ u. covers u (8 * i)) us))) (length image) (λ i inside. records_clash image lanes (8 * i) us unsealed all) ∙ is)
