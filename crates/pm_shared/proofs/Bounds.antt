-- Bits of a zone's occupancy word are set by the lane alone that holds the zone's lock.
use Rattle.std.proofs.Common.{◌≡◌, ◌≢◌, ℕ, suc, ◌/◌, ◌<◌, ⊎_elim, Bool, true, false, ◌==◌, Option, None, Some, bit_and, sym, ap, ◌∙◌, subst, arith, eq-eqb}
use Rattle.std.specs.Int.{bit_at, bit_not, w64}
use Rattle.std.specs.List.{list_any}
use Rattle.std.proofs.lemmas.Bool.{cases_eq, eqb-true}
use Rattle.std.proofs.lemmas.Nat.Bits.{bit_at_and, bit_at-lt}
use Rattle.pm_layout.specs.Areas.{page_bytes}
use Rattle.pm_view.specs.declared.occ.Occ.{Occ}
use Rattle.pm_view.specs.declared.occ.Occ.TheVariants.{Run, Zone}
use Rattle.pm_view.specs.Steps.{Step}
use Rattle.pm_view.specs.Steps.Step.{Load, Store, Or, And, Flush, Drain, TakeWrite, TakeRead, Raise, Give, ZoneTry, ZoneGive, Occupied, Occupy, Vacate, Draw, NumberSeen, StopSeen, SetStop, Tell}
use Rattle.pm_view.specs.View.{View}
use Rattle.pm_world.specs.Lawful.{IsLawful}
use Rattle.pm_world.specs.Memory.{Memory, Location, PoolWord, LockWord, RunWord, ZoneWord, ZoneLock, CommitCounter, StopWord, IsSameBut, bit}
use Rattle.pm_world.specs.Moves.{Moves}
use Rattle.pm_world.specs.World.{Opening, Views, Past, World}
use Rattle.pm_shared.specs.Placing.{sort_of}
use Rattle.pm_shared.specs.Rule.{Bound, BoundFits}

-- the zone's lock has one holder
one_holder : (o : Opening) (mem : Memory) (views : Views) (g : Past) → World o mem views g → (j k zone : ℕ) → j < o.lanes → k < o.lanes
    → list_any (λ other. other == zone) (views j).zones ≡ true → list_any (λ other. other == zone) (views k).zones ≡ true → j ≡ k
one_holder o mem views g world j k zone inj ink here there =
    let a : mem (ZoneLock zone) ≡ suc j = eqb-true (mem (ZoneLock zone)) (suc j) ((world.each_lane j inj).zones zone ∙ here) in
    let b : mem (ZoneLock zone) ≡ suc k = eqb-true (mem (ZoneLock zone)) (suc k) ((world.each_lane k ink).zones zone ∙ there) in omega arith

module _ (zone i : ℕ) (old new : Memory) where
  Shrinks : Type 0
  Shrinks = bit (new (ZoneWord zone)) i ≡ true → bit (old (ZoneWord zone)) i ≡ true

  stayed : new (ZoneWord zone) ≡ old (ZoneWord zone) → bit (new (ZoneWord zone)) i ≡ true → bit (old (ZoneWord zone)) i ≡ true
  stayed same t = sym (ap (λ x. bit x i) same) ∙ t

  apart : (at : Location) → sort_of at ≢ 3 → IsSameBut at old new → bit (new (ZoneWord zone)) i ≡ true → bit (old (ZoneWord zone)) i ≡ true
  apart at ne same = stayed (same (ZoneWord zone) (λ e. ne (sym (ap sort_of e))))

  fewer : (bits : ℕ) → new (ZoneWord zone) ≡ bit_and (old (ZoneWord zone)) bits → bit (new (ZoneWord zone)) i ≡ true → bit (old (ZoneWord zone)) i ≡ true
  fewer bits is t = let x : ℕ = old (ZoneWord zone) in let a = bit_at_and x bits i in let top = bit_at-lt x i in let e : bit_at (bit_and x bits) i ≡ 1 = eqb-true (bit_at (bit_and x bits) i) 1 (sym (ap (λ y. bit y i) is) ∙ t) in
      eq-eqb (bit_at x i) 1 (omega (arith, a, top, e))

  occupied : (o : Opening) (views : Views) (g : Past) → World o old views g → (j k : ℕ) → j < o.lanes → k < o.lanes → j ≢ k → list_any (λ other. other == zone) (views j).zones ≡ true → (at : Occ) (bits : ℕ) (won : Bool)
      → IsLawful (views k) (Occupy at bits won) → Moves k (Occupy at bits won) old new → bit (new (ZoneWord zone)) i ≡ true → bit (old (ZoneWord zone)) i ≡ true
  occupied o views g world j k inj ink ne held at bits false law m = stayed (m.0 (ZoneWord zone))
  occupied o views g world j k inj ink ne held (Run place) bits true law m = apart (RunWord (place / page_bytes)) (λ e. absurd (omega arith)) m.0.0
  occupied o views g world j k inj ink ne held (Zone other) bits true law m = ⊎_elim
      (λ (e : zone ≡ other). absurd (ne (one_holder o old views g world j k zone inj ink held (subst (λ z. list_any (λ a. a == z) (views k).zones ≡ true) (sym e) law.allowed.open_))))
      (λ (d : zone ≢ other). stayed (m.0.0 (ZoneWord zone) (λ e. d (at_zone zone other e)))) (cases_eq zone other)
    where
      number : Location → ℕ
      number (ZoneWord z) = z
      number l = 0

      at_zone : (a b : ℕ) → ZoneWord a ≡ ZoneWord b → a ≡ b
      at_zone a b e = ap number e

  vacated : (k : ℕ) (at : Occ) (bits : ℕ) → Moves k (Vacate at bits) old new → bit (new (ZoneWord zone)) i ≡ true → bit (old (ZoneWord zone)) i ≡ true
  vacated k (Run place) bits m = apart (RunWord (place / page_bytes)) (λ e. absurd (omega arith)) m.0
  vacated k (Zone other) bits m = ⊎_elim
      (λ (e : zone ≡ other). fewer (bit_not w64 bits) (subst (λ z. new (ZoneWord z) ≡ bit_and (old (ZoneWord z)) (bit_not w64 bits)) (sym e) m.1))
      (λ (d : zone ≢ other). stayed (m.0 (ZoneWord zone) (λ e. d (at_zone zone other e)))) (cases_eq zone other)
    where
      number : Location → ℕ
      number (ZoneWord z) = z
      number l = 0

      at_zone : (a b : ℕ) → ZoneWord a ≡ ZoneWord b → a ≡ b
      at_zone a b e = ap number e

  won : (k line : ℕ) (t : Bool) → Moves k (TakeWrite line t) old new → bit (new (ZoneWord zone)) i ≡ true → bit (old (ZoneWord zone)) i ≡ true
  won k line true m = apart (LockWord line) (λ e. absurd (omega arith)) m.0
  won k line false m = stayed (m.0 (ZoneWord zone))

  read : (k line : ℕ) (t : Bool) → Moves k (TakeRead line t) old new → bit (new (ZoneWord zone)) i ≡ true → bit (old (ZoneWord zone)) i ≡ true
  read k line true m = apart (LockWord line) (λ e. absurd (omega arith)) m.0
  read k line false m = stayed (m.0 (ZoneWord zone))

  raised : (k line : ℕ) (t : Bool) → Moves k (Raise line t) old new → bit (new (ZoneWord zone)) i ≡ true → bit (old (ZoneWord zone)) i ≡ true
  raised k line true m = apart (LockWord line) (λ e. absurd (omega arith)) m.0
  raised k line false m = stayed (m.0 (ZoneWord zone))

  tried : (k z : ℕ) (t : Bool) → Moves k (ZoneTry z t) old new → bit (new (ZoneWord zone)) i ≡ true → bit (old (ZoneWord zone)) i ≡ true
  tried k z true m = apart (ZoneLock z) (λ e. absurd (omega arith)) m.0.0
  tried k z false m = stayed (m.0 (ZoneWord zone))

  shrinks : (o : Opening) (views : Views) (g : Past) → World o old views g → (j k : ℕ) → j < o.lanes → k < o.lanes → j ≢ k → list_any (λ other. other == zone) (views j).zones ≡ true → (s : Step) → IsLawful (views k) s → Moves k s old new
      → bit (new (ZoneWord zone)) i ≡ true → bit (old (ZoneWord zone)) i ≡ true
  shrinks o views g world j k inj ink ne held (Load w x) law m = stayed (m.0 (ZoneWord zone))
  shrinks o views g world j k inj ink ne held (Store w x) law m = apart (PoolWord w) (λ e. absurd (omega arith)) m.0
  shrinks o views g world j k inj ink ne held (Or w bits x) law m = apart (PoolWord w) (λ e. absurd (omega arith)) m.0.0
  shrinks o views g world j k inj ink ne held (And w bits x) law m = apart (PoolWord w) (λ e. absurd (omega arith)) m.0.0
  shrinks o views g world j k inj ink ne held (Flush line) law m = stayed (m (ZoneWord zone))
  shrinks o views g world j k inj ink ne held Drain law m = stayed (m (ZoneWord zone))
  shrinks o views g world j k inj ink ne held (TakeWrite line t) law m = won k line t m
  shrinks o views g world j k inj ink ne held (TakeRead line t) law m = read k line t m
  shrinks o views g world j k inj ink ne held (Raise line t) law m = raised k line t m
  shrinks o views g world j k inj ink ne held (Give line) law m = apart (LockWord line) (λ e. absurd (omega arith)) m.0
  shrinks o views g world j k inj ink ne held (ZoneTry z t) law m = tried k z t m
  shrinks o views g world j k inj ink ne held (ZoneGive z) law m = apart (ZoneLock z) (λ e. absurd (omega arith)) m.0
  shrinks o views g world j k inj ink ne held (Occupied at x) law m = stayed (m.0 (ZoneWord zone))
  shrinks o views g world j k inj ink ne held (Occupy at bits t) law m = occupied o views g world j k inj ink ne held at bits t law m
  shrinks o views g world j k inj ink ne held (Vacate at bits) law m = vacated k at bits m
  shrinks o views g world j k inj ink ne held (Draw n) law m = apart CommitCounter (λ e. absurd (omega arith)) m.0.0
  shrinks o views g world j k inj ink ne held (NumberSeen n) law m = stayed (m.0 (ZoneWord zone))
  shrinks o views g world j k inj ink ne held (StopSeen set) law m = stayed (m.0 (ZoneWord zone))
  shrinks o views g world j k inj ink ne held SetStop law m = apart StopWord (λ e. absurd (omega arith)) m.0
  shrinks o views g world j k inj ink ne held (Tell operation reply) law m = stayed (m (ZoneWord zone))

-- what a lane holds in mind of a zone that it has locked stays so, whatever step another lane makes
pub bound_kept : (o : Opening) (old new : Memory) (views : Views) (g : Past) (k : ℕ) (s : Step) (u : View) (c : Option Bound) → World o old views g → k < o.lanes → u.fixed.lane < o.lanes → u.fixed.lane ≢ k → views u.fixed.lane ≡ u
    → IsLawful (views k) s → Moves k s old new → BoundFits old u c → BoundFits new u c
bound_kept o old new views g k s u None world ink inu ne is law m h = tt
bound_kept o old new views g k s u (Some b) world ink inu ne is law m h = record {
  held = h.held;
  within = λ i t. h.within i (shrinks b.zone i old new o views g world u.fixed.lane k inu ink ne (subst (λ (w : View). list_any (λ a. a == b.zone) w.zones ≡ true) (sym is) h.held) s law m t);
}
