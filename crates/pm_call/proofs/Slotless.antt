-- STEPS THAT LEAVE A LANE'S UNDO SLOTS ALONE: no word of a slot is undrained, and no record is in the
-- making.
use Rattle.std.proofs.Common.{◌≡◌, ◌⊎◌, inl, inr, ⊎_elim, ℕ, zero, suc, ◌*◌, ◌/◌, ◌<◌, ◌≤◌, ◌==◌, Bool, true, false, cond, not, List, [], ◌∷◌, length, take, refl, sym, ap, ◌∙◌, subst, arith}
use Rattle.std.specs.List.{AllByRecursion, list_any}
use Rattle.std.proofs.lemmas.Bool.{both_ways, cases_lt, ne_eqb, or_from}
use Rattle.pm_layout.specs.declared.shape.Shape.{Shape}
use Rattle.pm_layout.specs.Areas.{line_of_slot, undo_slots}
use Rattle.pm_view.specs.Changes.{Undrained, drained, flushed, is_in_line}
use Rattle.pm_view.specs.Log.{Phase, Idle, Open, Drawn, Sealing, Applying, Clearing, Retiring, Voiding, Log, log_changed, log_drained, log_stored, phase_drawn, with_pair, Recorded}
use Rattle.pm_view.specs.Entries.{Entry}
use Rattle.pm_view.specs.Parts.{Part, GenerationPart, SealPart, EntryPart, SlotPart, RootPart, DescriptorPart, ChunkPart, OtherPart, part_of}
use Rattle.pm_view.specs.Steps.{Step}
use Rattle.pm_view.specs.Steps.Step.{Load, Store, Or, And, Flush, Drain, TakeWrite, TakeRead, Raise, Give, ZoneTry, ZoneGive, Occupied, Occupy, Vacate, Draw, NumberSeen, StopSeen, SetStop, Tell}
use Rattle.pm_view.specs.View.{View, Constants}
use Rattle.pm_view.specs.Views.{after, after_all, begun, log_left, occupied, part_in}
use Rattle.pm_view.specs.declared.occ.Occ.{Occ}
use Rattle.pm_record.specs.declared.redo.Op.{Op}
use Rattle.pm_record.specs.declared.redo.Op.TheVariants as op
use Rattle.pm_plan.specs.Notes.{IsBeyond}
use Rattle.pm_plan.specs.Plans.{Ready}
use Rattle.pm_undo.specs.Working.{IsNoSlot, IsWorking}
use Rattle.pm_world.specs.Lawful.{Allowed, ChangeFits, StoreFits}
use Rattle.pm_world.specs.Logs.{used_slots}
use Rattle.pm_world.specs.Sights.{is_slot_drained}
use Rattle.pm_world.proofs.SlotWords.{slot_range}
use Rattle.pm_world.proofs.SurvivingWords.{slot_part}
use Rattle.pm_call.specs.Unwritten.{WritesNoRecord}
use Rattle.pm_call.proofs.SilentPlans.{AreSilent, is_silent}

-- no word of its slots is undrained, and no record is in the making
pub record IsUnslotted (v : View) : Type 0 where
  pub slot : v.log.slot ≡ []
  pub changes : AllByRecursion (λ (u : Undrained). IsNoSlot v.fixed.shape v.fixed.lane u.word)
      v.changes

-- ---- such a lane writes no record

no_slot_dirty : (sh : Shape) (lane j : ℕ) (changes : List Undrained) → j < 64
    → AllByRecursion (λ (u : Undrained). IsNoSlot sh lane u.word) changes
    → list_any (is_in_line (line_of_slot sh lane j)) changes ≡ false
no_slot_dirty sh lane j [] few all = refl
no_slot_dirty sh lane j (c ∷ changes) few all =
    or_from (c.word / 8 == line_of_slot sh lane j)
    (list_any (is_in_line (line_of_slot sh lane j)) changes)
    (ne_eqb (c.word / 8) (line_of_slot sh lane j) (λ e.
    ⊎_elim (λ (low : c.word < 8 * line_of_slot sh lane 0). omega (arith, e, low, few))
    (λ (high : 8 * line_of_slot sh lane (undo_slots sh) ≤ c.word). omega (arith, e, high, few))
    all.0))
    (no_slot_dirty sh lane j changes few all.1)

pub unslotted_unwritten : (v : View) → IsUnslotted v → WritesNoRecord v
unslotted_unwritten v un j few writing = ⊎_elim
    (λ (d : is_slot_drained v.fixed.shape v.fixed.lane v.changes j ≡ false).
    both_ways (is_slot_drained v.fixed.shape v.fixed.lane v.changes j) d
    (ap not (no_slot_dirty v.fixed.shape v.fixed.lane j v.changes few un.changes)))
    (λ (z : (length v.log.records ≤ j) × (j < used_slots v.log)).
    let none = ap {B = ℕ} (λ (slot : List ℕ). cond (length slot == 0) 0 1) un.slot in
    let low = z.0 in let high = z.1 in omega (arith, none, low, high)) writing

-- a word past the lanes' areas is of none of its slots
pub beyond_no_slot : (sh : Shape) (lane w : ℕ) → lane < sh.lanes → IsBeyond sh w
    → IsNoSlot sh lane w
beyond_no_slot sh lane w low far = inr (omega (arith, low, far))

pub working_unslotted : (v : View) → IsWorking v → IsUnslotted v
working_unslotted v working =
    record { slot = working.whole.0; changes = all v.changes working.clean }
  where
    all : (changes : List Undrained)
        → AllByRecursion (λ (u : Undrained). IsBeyond v.fixed.shape u.word) changes
        → AllByRecursion (λ (u : Undrained). IsNoSlot v.fixed.shape v.fixed.lane u.word) changes
    all [] far = tt
    all (c ∷ changes) far =
        (beyond_no_slot v.fixed.shape v.fixed.lane c.word working.lane far.0, all changes far.1)

-- ---- a word is of a slot where it is a slot's part

is_slot : Part → Bool
is_slot SlotPart = true
is_slot part = false

slot_or_not : (p : Part) → (p ≡ SlotPart) ⊎ (is_slot p ≡ false)
unfolding is_slot
slot_or_not SlotPart = inl refl
slot_or_not GenerationPart = inr refl
slot_or_not SealPart = inr refl
slot_or_not EntryPart = inr refl
slot_or_not RootPart = inr refl
slot_or_not (DescriptorPart c) = inr refl
slot_or_not (ChunkPart c i) = inr refl
slot_or_not OtherPart = inr refl

no_slot_part : (sh : Shape) (lane w : ℕ) → IsNoSlot sh lane w → is_slot (part_of sh lane w) ≡ false
no_slot_part sh lane w out = ⊎_elim
    (λ (e : part_of sh lane w ≡ SlotPart). absurd (
    let r = slot_range sh lane w e in let low = r.0 in let high = r.1 in
    ⊎_elim (λ (l : w < 8 * line_of_slot sh lane 0). omega (arith, l, low))
    (λ (h : 8 * line_of_slot sh lane (undo_slots sh) ≤ w). omega (arith, h, high)) out))
    (λ (f : is_slot (part_of sh lane w) ≡ false). f) (slot_or_not (part_of sh lane w))

part_no_slot : (sh : Shape) (lane w : ℕ) → is_slot (part_of sh lane w) ≡ false → IsNoSlot sh lane w
unfolding is_slot
part_no_slot sh lane w is = ⊎_elim (λ (low : w < 8 * line_of_slot sh lane 0). inl low)
    (λ (from : 8 * line_of_slot sh lane 0 ≤ w).
    ⊎_elim (λ (below : w < 8 * line_of_slot sh lane (undo_slots sh)).
    absurd (both_ways (is_slot (part_of sh lane w)) is (ap is_slot (slot_part sh lane w from below))))
    (λ (high : 8 * line_of_slot sh lane (undo_slots sh) ≤ w). inr high)
    (cases_lt w (8 * line_of_slot sh lane (undo_slots sh))))
    (cases_lt w (8 * line_of_slot sh lane 0))

-- ---- what steps make of the lists of changes

flushed_no_slot : (sh : Shape) (lane line : ℕ) (changes : List Undrained)
    → AllByRecursion (λ (u : Undrained). IsNoSlot sh lane u.word) changes
    → AllByRecursion (λ (u : Undrained). IsNoSlot sh lane u.word) (flushed line changes)
flushed_no_slot sh lane line [] all = tt
flushed_no_slot sh lane line (c ∷ changes) all =
    (by (is_in_line line c), flushed_no_slot sh lane line changes all.1)
  where
    by : (b : Bool) → IsNoSlot sh lane (cond b (record c { flushed = true }) c).word
    by true = all.0
    by false = all.0

drained_no_slot : (sh : Shape) (lane : ℕ) (changes : List Undrained)
    → AllByRecursion (λ (u : Undrained). IsNoSlot sh lane u.word) changes
    → AllByRecursion (λ (u : Undrained). IsNoSlot sh lane u.word) (drained changes)
drained_no_slot sh lane [] all = tt
drained_no_slot sh lane (c ∷ changes) all =
    by (not c.flushed) (drained_no_slot sh lane changes all.1)
  where
    by : (b : Bool) → AllByRecursion (λ (u : Undrained). IsNoSlot sh lane u.word) (drained changes)
        → AllByRecursion (λ (u : Undrained). IsNoSlot sh lane u.word)
        (cond b (c ∷ drained changes) (drained changes))
    by true rest = (all.0, rest)
    by false rest = rest

-- ---- what steps make of the record in the making

pair_slot : (sh : Shape) (class : ℕ → ℕ) (pair : List ℕ) (x : ℕ) (log : Log)
    → (with_pair sh class pair x log).slot ≡ log.slot
pair_slot sh class [] x log = refl
pair_slot sh class (head ∷ rest) x log = refl

stored_slot : (sh : Shape) (class : ℕ → ℕ) (phase : Phase) (part : Part) (x : ℕ) (log : Log)
    → is_slot part ≡ false → (log_stored sh class phase part x log).slot ≡ log.slot
unfolding is_slot
stored_slot sh class Open SlotPart x log is = absurd (both_ways true is refl)
stored_slot sh class Open EntryPart x log is = pair_slot sh class log.pair x log
stored_slot sh class Open GenerationPart x log is = refl
stored_slot sh class Open SealPart x log is = refl
stored_slot sh class Open RootPart x log is = refl
stored_slot sh class Open (DescriptorPart c) x log is = refl
stored_slot sh class Open (ChunkPart c i) x log is = refl
stored_slot sh class Open OtherPart x log is = refl
stored_slot sh class Idle part x log is = refl
stored_slot sh class (Drawn n) GenerationPart x log is = refl
stored_slot sh class (Drawn n) SealPart x log is = refl
stored_slot sh class (Drawn n) EntryPart x log is = refl
stored_slot sh class (Drawn n) SlotPart x log is = refl
stored_slot sh class (Drawn n) RootPart x log is = refl
stored_slot sh class (Drawn n) (DescriptorPart c) x log is = refl
stored_slot sh class (Drawn n) (ChunkPart c i) x log is = refl
stored_slot sh class (Drawn n) OtherPart x log is = refl
stored_slot sh class (Sealing n) part x log is = refl
stored_slot sh class (Applying todo) GenerationPart x log is = refl
stored_slot sh class (Applying todo) SealPart x log is = refl
stored_slot sh class (Applying todo) EntryPart x log is = refl
stored_slot sh class (Applying todo) SlotPart x log is = refl
stored_slot sh class (Applying todo) RootPart x log is = refl
stored_slot sh class (Applying todo) (DescriptorPart c) x log is = refl
stored_slot sh class (Applying todo) (ChunkPart c i) x log is = refl
stored_slot sh class (Applying todo) OtherPart x log is = refl
stored_slot sh class Clearing part x log is = refl
stored_slot sh class (Retiring n) part x log is = refl
stored_slot sh class Voiding part x log is = refl

changed_slot : (phase : Phase) (log : Log) → (log_changed phase log).slot ≡ log.slot
changed_slot Idle log = refl
changed_slot Open log = refl
changed_slot (Drawn n) log = refl
changed_slot (Sealing n) log = refl
changed_slot (Applying todo) log = refl
changed_slot Clearing log = refl
changed_slot (Retiring n) log = refl
changed_slot Voiding log = refl

drained_slot : (phase : Phase) (log : Log) → log.slot ≡ [] → (log_drained phase log).slot ≡ []
drained_slot Idle log none = none
drained_slot Open log none = none
drained_slot (Drawn n) log none = none
drained_slot (Sealing n) log none = none
drained_slot (Applying todo) log none = none
drained_slot Clearing log none = refl
drained_slot (Retiring n) log none = refl
drained_slot Voiding log none = refl

left_slot : (left : List Undrained) (log : Log) → log.slot ≡ [] → (log_left left log).slot ≡ []
left_slot [] log none = drained_slot log.phase log none
left_slot (c ∷ left) log none = none

-- ---- A STEP

-- the step changes no word of a slot
abbrev pub IsSlotless : Shape → ℕ → Step → Type 0
IsSlotless sh lane (Store w x) = IsNoSlot sh lane w
IsSlotless sh lane (Or w bits found) = IsNoSlot sh lane w
IsSlotless sh lane (And w bits found) = IsNoSlot sh lane w
IsSlotless sh lane s = Unit {0}

abbrev pub AreSlotless : Shape → ℕ → List Step → Type 0
AreSlotless sh lane steps = AllByRecursion (IsSlotless sh lane) steps

occupied_unslotted : (won : Bool) (v : View) (at : Occ) (bits : ℕ) → IsUnslotted v
    → IsUnslotted (occupied won v at bits)
occupied_unslotted true v at bits un = record { slot = un.slot; changes = un.changes }
occupied_unslotted false v at bits un = un

begun_unslotted : (phase : Phase) (v : View) → IsUnslotted v → IsUnslotted (begun phase v)
begun_unslotted Idle v un = record { slot = refl; changes = un.changes }
begun_unslotted Open v un = un
begun_unslotted (Drawn n) v un = un
begun_unslotted (Sealing n) v un = un
begun_unslotted (Applying todo) v un = un
begun_unslotted Clearing v un = un
begun_unslotted (Retiring n) v un = un
begun_unslotted Voiding v un = un

unslotted_step : (v : View) (s : Step) → IsUnslotted v → IsSlotless v.fixed.shape v.fixed.lane s
    → IsUnslotted (after v s)
unslotted_step v (Load w x) un is = record { slot = un.slot; changes = un.changes }
unslotted_step v (Store w x) un is = record {
  slot = stored_slot v.fixed.shape _ v.log.phase (part_in v w) x v.log
      (no_slot_part v.fixed.shape v.fixed.lane w is) ∙ un.slot;
  changes = (is, un.changes);
}
unslotted_step v (Or w bits found) un is =
    record { slot = changed_slot v.log.phase v.log ∙ un.slot; changes = (is, un.changes) }
unslotted_step v (And w bits found) un is =
    record { slot = changed_slot v.log.phase v.log ∙ un.slot; changes = (is, un.changes) }
unslotted_step v (Flush line) un is = record {
  slot = un.slot;
  changes = flushed_no_slot v.fixed.shape v.fixed.lane line v.changes un.changes;
}
unslotted_step v Drain un is = record {
  slot = left_slot (drained v.changes) v.log un.slot;
  changes = drained_no_slot v.fixed.shape v.fixed.lane v.changes un.changes;
}
unslotted_step v (TakeWrite line won) un is = record { slot = un.slot; changes = un.changes }
unslotted_step v (TakeRead line won) un is = record { slot = un.slot; changes = un.changes }
unslotted_step v (Raise line won) un is = record { slot = un.slot; changes = un.changes }
unslotted_step v (Give line) un is = record { slot = un.slot; changes = un.changes }
unslotted_step v (ZoneTry zone won) un is = record { slot = un.slot; changes = un.changes }
unslotted_step v (ZoneGive zone) un is = record { slot = un.slot; changes = un.changes }
unslotted_step v (Occupied at found) un is = record { slot = un.slot; changes = un.changes }
unslotted_step v (Occupy at bits won) un is =
    let o = occupied_unslotted won v at bits un in record { slot = o.slot; changes = o.changes }
unslotted_step v (Vacate at bits) un is = record { slot = un.slot; changes = un.changes }
unslotted_step v (Draw n) un is = record { slot = un.slot; changes = un.changes }
unslotted_step v (NumberSeen n) un is =
    let b = begun_unslotted v.log.phase v un in record { slot = b.slot; changes = b.changes }
unslotted_step v (StopSeen set) un is = record { slot = un.slot; changes = un.changes }
unslotted_step v SetStop un is = un
unslotted_step v (Tell operation reply) un is = record { slot = un.slot; changes = un.changes }

-- the pool's shape and the lane stay
occupied_fixed : (won : Bool) (v : View) (at : Occ) (bits : ℕ)
    → (occupied won v at bits).fixed ≡ v.fixed
occupied_fixed true v at bits = refl
occupied_fixed false v at bits = refl

begun_fixed : (phase : Phase) (v : View) → (begun phase v).fixed ≡ v.fixed
begun_fixed Idle v = refl
begun_fixed Open v = refl
begun_fixed (Drawn n) v = refl
begun_fixed (Sealing n) v = refl
begun_fixed (Applying todo) v = refl
begun_fixed Clearing v = refl
begun_fixed (Retiring n) v = refl
begun_fixed Voiding v = refl

fixed_step : (v : View) (s : Step) → (after v s).fixed ≡ v.fixed
fixed_step v (Load w x) = refl
fixed_step v (Store w x) = refl
fixed_step v (Or w bits found) = refl
fixed_step v (And w bits found) = refl
fixed_step v (Flush line) = refl
fixed_step v Drain = refl
fixed_step v (TakeWrite line won) = refl
fixed_step v (TakeRead line won) = refl
fixed_step v (Raise line won) = refl
fixed_step v (Give line) = refl
fixed_step v (ZoneTry zone won) = refl
fixed_step v (ZoneGive zone) = refl
fixed_step v (Occupied at found) = refl
fixed_step v (Occupy at bits won) = occupied_fixed won v at bits
fixed_step v (Vacate at bits) = refl
fixed_step v (Draw n) = refl
fixed_step v (NumberSeen n) = begun_fixed v.log.phase v
fixed_step v (StopSeen set) = refl
fixed_step v SetStop = refl
fixed_step v (Tell operation reply) = refl

pub fixed_steps : (v : View) (steps : List Step) → (after_all v steps).fixed ≡ v.fixed
unfolding after_all
fixed_steps v [] = refl
fixed_steps v (s ∷ steps) = fixed_steps (after v s) steps ∙ fixed_step v s

-- ---- STEPS

pub slotless_so_far : (v : View) (steps : List Step) (k : ℕ) → IsUnslotted v
    → AreSlotless v.fixed.shape v.fixed.lane steps → IsUnslotted (after_all v (take k steps))
unfolding after_all
slotless_so_far v steps zero un are = un
slotless_so_far v [] (suc k) un are = un
slotless_so_far v (s ∷ steps) (suc k) un are =
    slotless_so_far (after v s) steps k (unslotted_step v s un are.0)
    (subst (λ (f : Constants). AreSlotless f.shape f.lane steps) (sym (fixed_step v s)) are.1)

-- all of them
pub slotless_all : (v : View) (steps : List Step) → IsUnslotted v
    → AreSlotless v.fixed.shape v.fixed.lane steps → IsUnslotted (after_all v steps)
unfolding after_all
slotless_all v [] un are = un
slotless_all v (s ∷ steps) un are =
    slotless_all (after v s) steps (unslotted_step v s un are.0)
    (subst (λ (f : Constants). AreSlotless f.shape f.lane steps) (sym (fixed_step v s)) are.1)

-- ---- ONCE THE CALL HAS ITS NUMBER every lawful step is such

-- the phase is none in which a log grows, nor the voiding of one that may grow again
abbrev pub is_past : Phase → Bool
is_past Open = false
is_past Voiding = false
is_past phase = true

store_no_slot : (v : View) (w x : ℕ) (phase : Phase) (part : Part) → is_past phase ≡ true
    → StoreFits v w x phase part → is_slot part ≡ false
unfolding is_slot
store_no_slot v w x Idle SlotPart past fits = absurd fits
store_no_slot v w x Open SlotPart past fits = absurd (both_ways false refl past)
store_no_slot v w x (Drawn n) SlotPart past fits = absurd fits
store_no_slot v w x (Sealing n) SlotPart past fits = absurd fits
store_no_slot v w x (Applying todo) SlotPart past fits = absurd fits
store_no_slot v w x Clearing SlotPart past fits = absurd fits
store_no_slot v w x (Retiring n) SlotPart past fits = absurd fits
store_no_slot v w x Voiding SlotPart past fits = absurd (both_ways false refl past)
store_no_slot v w x phase GenerationPart past fits = refl
store_no_slot v w x phase SealPart past fits = refl
store_no_slot v w x phase EntryPart past fits = refl
store_no_slot v w x phase RootPart past fits = refl
store_no_slot v w x phase (DescriptorPart c) past fits = refl
store_no_slot v w x phase (ChunkPart c i) past fits = refl
store_no_slot v w x phase OtherPart past fits = refl

change_no_slot : (v : View) (o : Op) (w bits : ℕ) (phase : Phase) (part : Part)
    → ChangeFits v o w bits phase part → is_slot part ≡ false
unfolding is_slot
change_no_slot v o w bits Idle SlotPart fits = absurd fits
change_no_slot v o w bits Open SlotPart fits = absurd fits
change_no_slot v o w bits (Drawn n) SlotPart fits = absurd fits
change_no_slot v o w bits (Sealing n) SlotPart fits = absurd fits
change_no_slot v o w bits (Applying todo) SlotPart fits = absurd fits
change_no_slot v o w bits Clearing SlotPart fits = absurd fits
change_no_slot v o w bits (Retiring n) SlotPart fits = absurd fits
change_no_slot v o w bits Voiding SlotPart fits = absurd fits
change_no_slot v o w bits phase GenerationPart fits = refl
change_no_slot v o w bits phase SealPart fits = refl
change_no_slot v o w bits phase EntryPart fits = refl
change_no_slot v o w bits phase RootPart fits = refl
change_no_slot v o w bits phase (DescriptorPart c) fits = refl
change_no_slot v o w bits phase (ChunkPart c i) fits = refl
change_no_slot v o w bits phase OtherPart fits = refl

-- a lawful step in such a phase changes no word of a slot
lawful_slotless : (v : View) (s : Step) → is_past v.log.phase ≡ true → Allowed v s
    → IsSlotless v.fixed.shape v.fixed.lane s
lawful_slotless v (Store w x) past may = part_no_slot v.fixed.shape v.fixed.lane w
    (store_no_slot v w x v.log.phase (part_in v w) past may.fits)
lawful_slotless v (Or w bits found) past may = part_no_slot v.fixed.shape v.fixed.lane w
    (change_no_slot v op.Or w bits v.log.phase (part_in v w) may.fits)
lawful_slotless v (And w bits found) past may = part_no_slot v.fixed.shape v.fixed.lane w
    (change_no_slot v op.And w bits v.log.phase (part_in v w) may.fits)
lawful_slotless v (Load w x) past may = tt
lawful_slotless v (Flush line) past may = tt
lawful_slotless v Drain past may = tt
lawful_slotless v (TakeWrite line won) past may = tt
lawful_slotless v (TakeRead line won) past may = tt
lawful_slotless v (Raise line won) past may = tt
lawful_slotless v (Give line) past may = tt
lawful_slotless v (ZoneTry zone won) past may = tt
lawful_slotless v (ZoneGive zone) past may = tt
lawful_slotless v (Occupied at found) past may = tt
lawful_slotless v (Occupy at bits won) past may = tt
lawful_slotless v (Vacate at bits) past may = tt
lawful_slotless v (Draw n) past may = tt
lawful_slotless v (NumberSeen n) past may = tt
lawful_slotless v (StopSeen set) past may = tt
lawful_slotless v SetStop past may = tt
lawful_slotless v (Tell operation reply) past may = tt

-- ---- and the phase stays such

past_stored : (sh : Shape) (class : ℕ → ℕ) (phase : Phase) (part : Part) (x : ℕ) (log : Log)
    → is_past phase ≡ true → is_past log.phase ≡ true
    → is_past (log_stored sh class phase part x log).phase ≡ true
past_stored sh class Open part x log past same = absurd (both_ways false refl past)
past_stored sh class Idle part x log past same = same
past_stored sh class (Drawn n) GenerationPart x log past same = refl
past_stored sh class (Drawn n) SealPart x log past same = refl
past_stored sh class (Drawn n) EntryPart x log past same = same
past_stored sh class (Drawn n) SlotPart x log past same = same
past_stored sh class (Drawn n) RootPart x log past same = same
past_stored sh class (Drawn n) (DescriptorPart c) x log past same = same
past_stored sh class (Drawn n) (ChunkPart c i) x log past same = same
past_stored sh class (Drawn n) OtherPart x log past same = same
past_stored sh class (Sealing n) part x log past same = same
past_stored sh class (Applying todo) GenerationPart x log past same = refl
past_stored sh class (Applying todo) SealPart x log past same = refl
past_stored sh class (Applying todo) EntryPart x log past same = refl
past_stored sh class (Applying todo) SlotPart x log past same = refl
past_stored sh class (Applying todo) RootPart x log past same = refl
past_stored sh class (Applying todo) (DescriptorPart c) x log past same = refl
past_stored sh class (Applying todo) (ChunkPart c i) x log past same = refl
past_stored sh class (Applying todo) OtherPart x log past same = refl
past_stored sh class Clearing part x log past same = same
past_stored sh class (Retiring n) part x log past same = same
past_stored sh class Voiding part x log past same = same

past_changed : (phase : Phase) (log : Log) → is_past log.phase ≡ true
    → is_past (log_changed phase log).phase ≡ true
past_changed Idle log same = same
past_changed Open log same = same
past_changed (Drawn n) log same = same
past_changed (Sealing n) log same = same
past_changed (Applying todo) log same = refl
past_changed Clearing log same = same
past_changed (Retiring n) log same = same
past_changed Voiding log same = same

past_drained : (phase : Phase) (log : Log) → is_past phase ≡ true → is_past log.phase ≡ true
    → is_past (log_drained phase log).phase ≡ true
past_drained Idle log past same = same
past_drained Open log past same = same
past_drained (Drawn n) log past same = same
past_drained (Sealing n) log past same = refl
past_drained (Applying todo) log past same = same
past_drained Clearing log past same = refl
past_drained (Retiring n) log past same = refl
past_drained Voiding log past same = absurd (both_ways false refl past)

past_left : (left : List Undrained) (log : Log) → is_past log.phase ≡ true
    → is_past (log_left left log).phase ≡ true
past_left [] log past = past_drained log.phase log past past
past_left (c ∷ left) log past = past

past_occupied : (won : Bool) (v : View) (at : Occ) (bits : ℕ) → is_past v.log.phase ≡ true
    → is_past (occupied won v at bits).log.phase ≡ true
past_occupied true v at bits past = past
past_occupied false v at bits past = past

past_step : (v : View) (s : Step) → is_past v.log.phase ≡ true → is_silent s ≡ true
    → is_past (after v s).log.phase ≡ true
past_step v (Load w x) past e = past
past_step v (Store w x) past e =
    past_stored v.fixed.shape _ v.log.phase (part_in v w) x v.log past past
past_step v (Or w bits found) past e = past_changed v.log.phase v.log past
past_step v (And w bits found) past e = past_changed v.log.phase v.log past
past_step v (Flush line) past e = past
past_step v Drain past e = past_left (drained v.changes) v.log past
past_step v (TakeWrite line won) past e = past
past_step v (TakeRead line won) past e = past
past_step v (Raise line won) past e = past
past_step v (Give line) past e = past
past_step v (ZoneTry zone won) past e = past
past_step v (ZoneGive zone) past e = past
past_step v (Occupied at found) past e = past
past_step v (Occupy at bits won) past e = past_occupied won v at bits past
past_step v (Vacate at bits) past e = past
past_step v (Draw n) past e = absurd (both_ways false refl e)
past_step v (NumberSeen n) past e = absurd (both_ways false refl e)
past_step v (StopSeen set) past e = past
past_step v SetStop past e = past
past_step v (Tell operation reply) past e = absurd (both_ways false refl e)

pub past_so_far : (v : View) (steps : List Step) (k : ℕ) → IsUnslotted v
    → is_past v.log.phase ≡ true → AreSilent steps → Ready v steps
    → IsUnslotted (after_all v (take k steps))
unfolding after_all Ready
past_so_far v steps zero un past are may = un
past_so_far v [] (suc k) un past are may = un
past_so_far v (s ∷ steps) (suc k) un past are may =
    past_so_far (after v s) steps k (unslotted_step v s un (lawful_slotless v s past may.0))
    (past_step v s past are.0) are.1 may.2

-- so is the phase of a call that took its number
pub drawn_past : (n : ℕ) (records : List Recorded) (entries : List Entry)
    → is_past (phase_drawn n records entries) ≡ true
drawn_past n [] [] = refl
drawn_past n [] (e ∷ entries) = refl
drawn_past n (r ∷ records) entries = refl
