-- A lane that looked at the root word under an object's lock knows whether the object is the root.
use Rattle.std.proofs.Common.{◌≡◌, ⊎_elim, ℕ, zero, suc, ◌+◌, ◌-◌, ◌*◌, ◌/◌, ◌^◌, ◌<◌, ◌==◌, Bool, true, false, None, Some, refl, sym, ap, ◌∙◌, arith, eq-eqb, ne_eqb}
use Rattle.std.proofs.lemmas.Bool.{both_ways, cases_Bool, cond-false, eqb-true, false_from_ne_true, or_left}
use Rattle.pm_model.specs.Items.{is_root}
use Rattle.pm_view.specs.Claims.{holds}
use Rattle.pm_view.specs.Places.{Block, RootWord}
use Rattle.pm_view.specs.View.{View}
use Rattle.pm_world.specs.Memory.{bit}
use Rattle.pm_world.specs.States.{State, live}
use Rattle.pm_crash.specs.Footprints.{MayPrecedeBut, bit_before, geometry_of, is_run_to}
use Rattle.pm_crash.specs.Freshness.{root_told}
use Rattle.pm_crash.specs.Roots.{is_root_line, saw_root}
use Rattle.pm_crash.specs.SimRoots.{RootIsKnown, SawRoot}
use Rattle.pm_crash.specs.Spelled.{number}
use Rattle.pm_crash.proofs.ItemsOfBits.{root_is_told}
use Rattle.pm_crash.proofs.Spelling.{number_is}

-- a word that names the object at an offset names the one of its line
names_line : (n off line : ℕ) → off ≡ 64 * line + 64 → is_root (root_told n) off ≡ true → is_root_line n line ≡ true
names_line zero off line at e = absurd (both_ways false refl e)
names_line (suc n) off line at e =
    let told : root_told (suc n) ≡ Some (suc n) = cond-false (suc n == 0) None (Some (suc n)) (ne_eqb (suc n) 0 (λ q. omega arith)) in
    let same : suc n ≡ off = eqb-true (suc n) off (sym (ap (λ r. is_root r off) told) ∙ e) in
    or_left (suc n / 64 - 1 == line) false (eq-eqb (suc n / 64 - 1) line (omega arith))

module _ (v : View) (classes : ℕ → ℕ) (own : Block → Bool) (s : State) (x : MayPrecedeBut classes v own s) (value off : ℕ) where
  pub same_root : SawRoot v value off → is_root (root_told (number (s RootWord))) off ≡ is_root (root_told value) off
  same_root saw = ⊎_elim
      (λ (y : (line : ℕ) × (off ≡ 64 * line + 64) × (saw_root v.fixed.shape v.claims line value ≡ true)).
      ⊎_elim
      (λ (t : is_root_line value y.0 ≡ true). ap (λ n. is_root (root_told n) off) (x.roots.same y.0 value y.2 t))
      (λ (f : is_root_line value y.0 ≡ false).
      false_from_ne_true (is_root (root_told (number (s RootWord))) off)
      (λ e. both_ways (is_root_line (number (s RootWord)) y.0) (x.roots.other y.0 value y.2 f) (names_line (number (s RootWord)) off y.0 y.1 e))
      ∙ sym (false_from_ne_true (is_root (root_told value) off) (λ e. both_ways (is_root_line value y.0) f (names_line value off y.0 y.1 e))))
      (cases_Bool (is_root_line value y.0)))
      (λ (y : (holds v.claims 0 ≡ true) × (value < 2 ^ 64) × ((b : ℕ) → b < 64 → bit_before v RootWord b ≡ Some (bit value b))).
      ap (λ n. is_root (root_told n) off) (number_is (s RootWord) value y.1 (λ b l. x.known RootWord b (bit value b) y.0
      (Rattle.std.proofs.lemmas.Bool.or_right (Rattle.pm_world.specs.Sights.is_recorded v.log.records RootWord) (live s (geometry_of v) (is_run_to v) RootWord) refl) (y.2 b l))))
      saw

pub root_is_known : RootIsKnown
root_is_known v root op looked kept classes s header pool x holds id named held stays =
    ap (λ r. is_root r id.off) (root_is_told v.fixed.shape classes s header pool holds)
    ∙ (same_root v classes _ s x looked.value id.off (looked.saw id named held stays)
    ∙ sym (ap (λ r. is_root r id.off) looked.is))
