-- The rows of the logs' faults, each where the earlier ones found nothing.
use Rattle.std.proofs.Common.{◌≡◌, ℕ, ◌*◌, ◌/◌, ◌%◌, not, List, length, Option, Some, None, sym, ap}
use Rattle.std.specs.List.{find, range_with_len}
use Rattle.std.specs.Option.{option_map, option_or}
use Rattle.pm_image.specs.declared.fault.ImageFault.TheVariants as fault
use Rattle.pm_image.specs.LogFaults.{good_lane, lane_fault, bad_entry, redo_fault, bad_slot, undo_fault, clashes, clash_fault, log_fault}

-- no lane has a fault
abbrev pub NoBadLane : List ℕ → ℕ → Type 0
NoBadLane image lanes = find (λ k. not (good_lane image k)) (range_with_len 0 lanes) ≡ None

-- the first bad entry, and the first bad slot
abbrev pub first_entry : List ℕ → ℕ → ℕ → Option ℕ
first_entry image lanes zones = find (λ n. bad_entry image lanes zones (n / 64) (n % 64)) (range_with_len 0 (64 * lanes))

abbrev pub first_slot : List ℕ → ℕ → ℕ → Option ℕ
first_slot image lanes zones = find (λ n. bad_slot image lanes zones (n / 64) (n % 64)) (range_with_len 0 (64 * lanes))

-- a lane's fault is the first
pub lane_row : (image : List ℕ) (lanes zones lane : ℕ) → find (λ k. not (good_lane image k)) (range_with_len 0 lanes) ≡ Some lane → Some (fault.Lane lane) ≡ log_fault image lanes zones
unfolding log_fault lane_fault
lane_row image lanes zones lane is =
    sym (ap (λ (o : Option ℕ). option_or (option_map fault.Lane o) (option_or (redo_fault image lanes zones) (option_or (undo_fault image lanes zones) (clash_fault image lanes)))) is)

no_lane_fault : (image : List ℕ) (lanes : ℕ) → NoBadLane image lanes → lane_fault image lanes ≡ None
unfolding lane_fault
no_lane_fault image lanes none = ap (option_map fault.Lane) none

entry_fault : (image : List ℕ) (lanes zones : ℕ) (o : Option ℕ) → first_entry image lanes zones ≡ o → redo_fault image lanes zones ≡ option_map (λ n. fault.Redo (n / 64) (n % 64)) o
unfolding redo_fault
entry_fault image lanes zones o is = ap (option_map (λ n. fault.Redo (n / 64) (n % 64))) is

slot_fault : (image : List ℕ) (lanes zones : ℕ) (o : Option ℕ) → first_slot image lanes zones ≡ o → undo_fault image lanes zones ≡ option_map (λ n. fault.Undo (n / 64) (n % 64)) o
unfolding undo_fault
slot_fault image lanes zones o is = ap (option_map (λ n. fault.Undo (n / 64) (n % 64))) is

-- where no lane has a fault, an entry's is the first
pub entry_row : (image : List ℕ) (lanes zones n : ℕ) → NoBadLane image lanes → first_entry image lanes zones ≡ Some n → Some (fault.Redo (n / 64) (n % 64)) ≡ log_fault image lanes zones
unfolding log_fault
entry_row image lanes zones n none is =
    sym (λ i. option_or (no_lane_fault image lanes none i) (option_or (entry_fault image lanes zones (Some n) is i) (option_or (undo_fault image lanes zones) (clash_fault image lanes))))

-- where no entry has one either, a slot's
pub slot_row : (image : List ℕ) (lanes zones n : ℕ) → NoBadLane image lanes → first_entry image lanes zones ≡ None → first_slot image lanes zones ≡ Some n → Some (fault.Undo (n / 64) (n % 64)) ≡ log_fault image lanes zones
unfolding log_fault
slot_row image lanes zones n none no_entry is =
    sym (λ i. option_or (no_lane_fault image lanes none i) (option_or (entry_fault image lanes zones None no_entry i) (option_or (slot_fault image lanes zones (Some n) is i) (clash_fault image lanes))))

clash_found : (image : List ℕ) (lanes : ℕ) (o : Option ℕ) → find (λ i. clashes image lanes (8 * i)) (range_with_len 0 (length image)) ≡ o → clash_fault image lanes ≡ option_map (λ i. fault.Clash (8 * i)) o
unfolding clash_fault
clash_found image lanes o is = ap (option_map (λ i. fault.Clash (8 * i))) is

-- and where no slot has one, a clash, or there is none
pub clash_row : (image : List ℕ) (lanes zones : ℕ) (o : Option ℕ) → NoBadLane image lanes → first_entry image lanes zones ≡ None → first_slot image lanes zones ≡ None
    → find (λ i. clashes image lanes (8 * i)) (range_with_len 0 (length image)) ≡ o → option_map (λ i. fault.Clash (8 * i)) o ≡ log_fault image lanes zones
unfolding log_fault
clash_row image lanes zones o none no_entry no_slot is =
    sym (λ i. option_or (no_lane_fault image lanes none i) (option_or (entry_fault image lanes zones None no_entry i) (option_or (slot_fault image lanes zones None no_slot i) (clash_found image lanes o is i))))
