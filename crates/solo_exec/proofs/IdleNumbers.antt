-- A lane whose log is empty behind a call that drew a number has that number still.
use Rattle.std.proofs.Common.{◌≡◌, ℕ, Bool, true, false, List, [], ◌∷◌, ◌++◌, length, length-append, Option, None, Some, is_some, refl, sym, ap, subst, arith}
use Rattle.std.proofs.lemmas.Bool.{false≢true}
use Rattle.std.proofs.lemmas.Option.{none-some}
use Rattle.solo_crash.specs.Leading.{Leads}
use Rattle.solo_view.specs.Area.{Part, part_of}
use Rattle.solo_view.specs.Area.Part.{EntryWord, GenerationWord, OtherWord, SealWord, SlotWord}
use Rattle.solo_view.specs.Changes.{drained}
use Rattle.solo_view.specs.declared.change.Change.{Change}
use Rattle.solo_view.specs.Log.{Log, Phase, log_changed, log_drained, log_stored, no_log, with_pair, with_slot}
use Rattle.solo_view.specs.Log.Phase.{Applying, Clearing, Drawn, Idle, Open, Retiring, Sealing}
use Rattle.solo_view.specs.Steps.{Step}
use Rattle.solo_view.specs.Steps.Step.{Load, Store, Or, And, Flush, Drain, TakeWrite, TakeRead, Raise, Give, ZoneTry, ZoneGive, Occupied, Occupy, Vacate, Draw, NumberSeen, StopSeen, SetStop, Tell}
use Rattle.solo_view.specs.View.{Numbered, View}
use Rattle.solo_view.specs.Views.{after, begun, log_after_drain}

-- a lane without a number has these entries still, or a call open, or one that is being given up
abbrev IsUndecided : List Numbered → List Numbered → Phase → Type 0
IsUndecided old now Idle = now ≡ old
IsUndecided old now (Open slot pair) = Unit {0}
IsUndecided old now Retiring = Unit {0}
IsUndecided old now phase = ⊥

module _ (old now : List Numbered) where
  abbrev Is : Log → Type 0
  Is log = IsUndecided old now log.phase

  slot_open : (log : Log) (slot pair : List ℕ) → Is (with_slot log slot pair)
  slot_open log [] pair = tt
  slot_open log (a ∷ []) pair = tt
  slot_open log (a ∷ b ∷ []) pair = tt
  slot_open log (a ∷ b ∷ c ∷ []) pair = tt
  slot_open log (a ∷ b ∷ c ∷ d ∷ []) pair = tt
  slot_open log (a ∷ b ∷ c ∷ d ∷ e ∷ []) pair = tt
  slot_open log (a ∷ b ∷ c ∷ d ∷ e ∷ f ∷ []) pair = tt
  slot_open log (a ∷ b ∷ c ∷ d ∷ e ∷ f ∷ g ∷ []) pair = tt
  slot_open log (a ∷ b ∷ c ∷ d ∷ e ∷ f ∷ g ∷ h ∷ []) pair = tt
  slot_open log (a ∷ b ∷ c ∷ d ∷ e ∷ f ∷ g ∷ h ∷ i ∷ slot) pair = tt

  pair_open : (log : Log) (slot pair : List ℕ) → Is (with_pair log slot pair)
  pair_open log slot [] = tt
  pair_open log slot (a ∷ []) = tt
  pair_open log slot (a ∷ b ∷ []) = tt
  pair_open log slot (a ∷ b ∷ c ∷ pair) = tt

  open_stored : (part : Part) (x : ℕ) (log : Log) (slot pair : List ℕ) → log.phase ≡ Open slot pair → Is (log_stored (Open slot pair) part x log)
  open_stored SlotWord x log slot pair is = slot_open log (slot ++ x ∷ []) pair
  open_stored EntryWord x log slot pair is = pair_open log slot (pair ++ x ∷ [])
  open_stored GenerationWord x log slot pair is = tt
  open_stored SealWord x log slot pair is = subst (IsUndecided old now) (sym is) tt
  open_stored OtherWord x log slot pair is = subst (IsUndecided old now) (sym is) tt

  stored : (p : Phase) (part : Part) (x : ℕ) (log : Log) → log.phase ≡ p → IsUndecided old now p → Is (log_stored p part x log)
  stored Idle part x log is so = subst (IsUndecided old now) (sym is) so
  stored (Open slot pair) part x log is so = open_stored part x log slot pair is
  stored Retiring part x log is so = subst (IsUndecided old now) (sym is) tt
  stored Drawn part x log is so = absurd so
  stored Sealing part x log is so = absurd so
  stored (Applying applied) part x log is so = absurd so
  stored Clearing part x log is so = absurd so

  changed : (p : Phase) (log : Log) → log.phase ≡ p → IsUndecided old now p → Is (log_changed p log)
  changed Idle log is so = subst (IsUndecided old now) (sym is) so
  changed (Open slot pair) log is so = subst (IsUndecided old now) (sym is) tt
  changed Retiring log is so = subst (IsUndecided old now) (sym is) tt
  changed Drawn log is so = absurd so
  changed Sealing log is so = absurd so
  changed (Applying applied) log is so = absurd so
  changed Clearing log is so = absurd so

  settled : (p : Phase) (drawn : Bool) (log : Log) → log.phase ≡ p → drawn ≡ false → IsUndecided old now p → Is (log_drained p drawn log)
  settled Idle drawn log is none so = subst (IsUndecided old now) (sym is) so
  settled (Open slot pair) drawn log is none so = subst (IsUndecided old now) (sym is) tt
  settled Retiring true log is none so = absurd (false≢true (sym none))
  settled Retiring false log is none so = tt
  settled Drawn drawn log is none so = absurd so
  settled Sealing drawn log is none so = absurd so
  settled (Applying applied) drawn log is none so = absurd so
  settled Clearing drawn log is none so = absurd so

  after_drain : (changes : List Change) (v : View) → v.number ≡ None → Is v.log → Is (log_after_drain changes v)
  after_drain [] v none so = settled v.log.phase (is_some v.number) v.log refl (ap is_some none) so
  after_drain (c ∷ changes) v none so = so

-- so it is of the view
abbrev HasNoOther : List Numbered → View → Type 0
HasNoOther old v = v.number ≡ None → IsUndecided old v.entries v.log.phase

begun_so : (old : List Numbered) (p : Phase) (v : View) → HasNoOther old v → HasNoOther old (begun p v)
begun_so old Idle v so = λ none. tt
begun_so old (Open slot pair) v so = so
begun_so old Drawn v so = so
begun_so old Sealing v so = so
begun_so old (Applying applied) v so = so
begun_so old Clearing v so = so
begun_so old Retiring v so = so

so_after : (old : List Numbered) (v : View) (s : Step) → HasNoOther old v → HasNoOther old (after v s)
so_after old v (Load w x) so = so
so_after old v (Store w x) so = λ none. stored old v.entries v.log.phase (part_of v.lane w) x v.log refl (so none)
so_after old v (Or w bits x) so = λ none. changed old v.entries v.log.phase v.log refl (so none)
so_after old v (And w bits x) so = λ none. changed old v.entries v.log.phase v.log refl (so none)
so_after old v (Flush line) so = so
so_after old v Drain so = λ none. after_drain old v.entries (drained v.changes) v none (so none)
so_after old v (TakeWrite line won) so = so
so_after old v (TakeRead line won) so = so
so_after old v (Raise line won) so = so
so_after old v (Give line) so = so
so_after old v (ZoneTry zone won) so = so
so_after old v (ZoneGive zone) so = so
so_after old v (Occupied at x) so = so
so_after old v (Occupy at bits won) so = so
so_after old v (Vacate at bits) so = so
so_after old v (Draw n) so = λ none. absurd (none-some n (sym none))
so_after old v (NumberSeen n) so = begun_so old v.log.phase v so
so_after old v (StopSeen set) so = so
so_after old v SetStop so = so
so_after old v (Tell operation reply) so = so

so_along : (old : List Numbered) (v w : View) (steps : List Step) → Leads v steps w → HasNoOther old v → HasNoOther old w
unfolding Leads
so_along old v w [] leads so = subst (HasNoOther old) (sym leads) so
so_along old v w (s ∷ steps) leads so = so_along old (after v s) w steps leads.3 (so_after old v s so)

some_number : (x : Option ℕ) → (x ≡ None → ⊥) → (n : ℕ) × (x ≡ Some n)
some_number None other = absurd (other refl)
some_number (Some n) other = (n, refl)

-- from one empty log to another, where a call came between
pub idle_numbered : (v w : View) (steps : List Step) → Leads v steps w → v.log ≡ no_log Idle → w.log ≡ no_log Idle → (e : Numbered) → w.entries ≡ v.entries ++ e ∷ [] → (n : ℕ) × (w.number ≡ Some n)
idle_numbered v w steps leads first last e more = some_number w.number (λ none.
    let kept : w.entries ≡ v.entries = subst (IsUndecided v.entries w.entries) (ap (λ (l : Log). l.phase) last) (so_along v.entries v w steps leads (λ was. subst (IsUndecided v.entries v.entries) (sym (ap (λ (l : Log). l.phase) first)) refl) none) in
    let same = ap length kept in
    let longer = ap length more in
    let count = length-append v.entries (e ∷ []) in
    absurd (omega (arith, same, longer, count)))
