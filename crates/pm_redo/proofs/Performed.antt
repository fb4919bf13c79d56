-- A log that is sealed may be applied, and one that is applied may be retired: so it may be
-- performed.
use Rattle.std.proofs.Common.{◌≡◌, ◌≢◌, ⊎_elim, ℕ, false, List, [], ◌∷◌, ◌++◌, length, refl, sym, ap, ◌∙◌, subst, arith, None, Some}
use Rattle.std.specs.List.{AllByRecursion}
use Rattle.pm_layout.specs.declared.shape.Shape.{Shape}
use Rattle.pm_layout.specs.Areas.{word_of_generation, word_of_seal}
use Rattle.pm_view.specs.Claims.{Claim, class, making, pictured}
use Rattle.pm_view.specs.Entries.{Entry, first_of_two}
use Rattle.pm_view.specs.Log.{Idle, next_log}
use Rattle.pm_view.specs.View.{View}
use Rattle.pm_view.specs.Views.{after_all, value_in}
use Rattle.pm_view.specs.Steps.{Step}
use Rattle.pm_world.specs.Logs.{ends_with}
use Rattle.pm_plan.specs.Notes.{AreNotes, HasNoted, Note, noted}
use Rattle.pm_plan.specs.Plans.{Ready, in_turn}
use Rattle.pm_plan.proofs.Going.{goes_then}
use Rattle.pm_plan.proofs.Notes.{making_same}
use Rattle.pm_redo.specs.Entries.{last_made}
use Rattle.pm_redo.specs.Plans.{applies, clears, performs, seals}
use Rattle.pm_redo.specs.Stages.{CanApply, CanClear, CanSeal, IsApplied, IsCleared, IsOfPlace, IsPerformed, IsSealed, decided}
use Rattle.pm_redo.proofs.EntriesApplied.{apply_lawful}
use Rattle.pm_redo.proofs.LastMade.{last_none}
use Rattle.pm_plan.proofs.AreaParts.{place_outside}
use Rattle.pm_redo.proofs.SealStored.{clear_lawful, seal_lawful}
use Rattle.pm_plan.specs.Notes.{IsBeyond}

-- notes upon notes
noted_more : (ns ms : List Note) (t : List Claim) → noted (ns ++ ms) t ≡ noted ns (noted ms t)
noted_more [] ms t = refl
noted_more (n ∷ ns) ms t = ap (λ c. Rattle.pm_plan.specs.Notes.claim_of n ∷ c) (noted_more ns ms t)

notes_more : (sh : Shape) (ns ms : List Note) (t : List Claim) → AreNotes sh (noted ms t) ns
    → AreNotes sh t ms → AreNotes sh t (ns ++ ms)
notes_more sh [] ms t a b = b
notes_more sh (n ∷ ns) ms t a b = (
  subst (λ c. Rattle.pm_plan.specs.Notes.IsNote sh c n)
      (sym (noted_more ns ms t)) a.0,
  notes_more sh ns ms t a.1 b,
)

module _ (v : View) (found : ℕ → ℕ) (can : CanSeal v) where
  abbrev shape : Shape
  shape = v.fixed.shape

  abbrev seal : ℕ
  seal = word_of_seal shape v.fixed.lane

  abbrev sealed : List Step → View
  sealed calls = record (decided v) { calls = calls }

  -- ---- a sealed log may be applied
  still_placed : (calls : List Step) (es : List Entry) → AllByRecursion (IsOfPlace v) es
      → AllByRecursion (IsOfPlace (sealed calls)) es
  still_placed calls [] all = tt
  still_placed calls (e ∷ es) all = (
    record {
      place = all.0.place;
      is = all.0.is;
      at = all.0.at;
      root = all.0.root;
      small = all.0.small;
    },
    still_placed calls es all.1,
  )

  may_apply : (calls : List Step)
      → value_in (sealed calls) (word_of_generation shape v.fixed.lane) ≡ value_in v
      (word_of_generation shape v.fixed.lane) → CanApply (sealed calls)
  may_apply calls seen = record {
    applying = refl;
    log_ = record {
      front = can.log_.front;
      are = can.log_.are;
      each = still_placed calls can.log_.front can.log_.each;
      few = can.log_.few;
      below = can.log_.below;
      lane = can.log_.lane;
    };
    unmaking = λ c. refl;
    drained = refl;
    known = seen ∙ can.generation;
  }

  pub can_apply : (w : View) → IsSealed v w → CanApply w
  can_apply w is = subst CanApply (sym is.same)
      (may_apply w.calls (ap (λ (y : View). value_in y (word_of_generation shape v.fixed.lane))
      (sym is.same) ∙ is.seen (word_of_generation shape v.fixed.lane) (λ e. omega (arith, e))))

  -- ---- no entry is of the seal
  elsewhere : (es : List Entry) → AllByRecursion (IsOfPlace v) es
      → AllByRecursion (λ (e : Entry). e.word ≢ seal)
      (es ++ ends_with shape v.fixed.lane v.log.generation ∷ [])
  elsewhere [] all = ((λ e. omega (arith, e)), tt)
  elsewhere (e ∷ es) all = (
    (λ same. ⊎_elim (λ (root : e.word ≡ 64). let r = root in omega (arith, r, same))
        (λ (far : IsBeyond shape e.word). let low = can.log_.lane in
        omega (arith, far, low, same)) (place_outside shape v.fixed.lane e.word (class v.claims)
        all.0.place all.0.at)),
    elsewhere es all.1,
  )

  unmade : last_made found v.log.entries seal ≡ None
  unmade = last_none found v.log.entries seal (subst (AllByRecursion (λ (e : Entry). e.word ≢ seal))
      (sym can.log_.are) (elsewhere can.log_.front can.log_.each))

  -- ---- one that is applied may be retired
  abbrev IsHalf : View → Type 0
  IsHalf u = (calls : List Step) × IsApplied (sealed calls) found u

  pub can_clear : (calls : List Step) (u : View) → value_in (sealed calls) seal ≡ Some
      (length v.log.entries) → IsApplied (sealed calls) found u → CanClear u
  can_clear calls u known is =
      let quiet : (c : ℕ) → making shape u.claims c ≡ false =
      subst (λ t. (c : ℕ) → making shape t c ≡ false) (sym is.noted.are)
      (making_same shape is.noted.notes (decided v).claims is.noted.each (λ c. refl)) in
      let value : value_in u seal ≡ Some (length v.log.entries) = is.made seal
      ∙ (ap (λ o. first_of_two o (value_in (sealed calls) seal)) unmade ∙ known) in
      subst CanClear (sym is.same) (record {
        applied = refl;
        lane = can.log_.lane;
        unmaking = quiet;
        drained = refl;
        known = ap (λ (y : View). pictured y.fixed.shape u.claims seal) (sym is.same) ∙ value;
      })

  -- ---- so it may be performed
  joined : (calls : List Step) (u w : View) → value_in (sealed calls) seal ≡ Some (length v.log.entries)
      → ((y : ℕ) → y ≢ seal → value_in (sealed calls) y ≡ value_in v y) → IsApplied (sealed calls)
      found u → IsCleared u w → IsPerformed v found w
  joined calls u w known seen a c =
      let here : seal ≡ word_of_seal u.fixed.shape u.fixed.lane =
      ap (λ (y : View). word_of_seal y.fixed.shape y.fixed.lane) (sym a.same) in
      record {
        same = c.same ∙ ap (λ (y : View). record y {
          claims = w.claims;
          changes = [];
          calls = w.calls;
          log = next_log Idle y.log;
        }) a.same;
        noted = record {
          notes = c.noted.notes ++ a.noted.notes;
          are = c.noted.are
              ∙ (ap (noted c.noted.notes) a.noted.are
              ∙ sym (noted_more c.noted.notes a.noted.notes (decided v).claims));
          each = notes_more shape c.noted.notes a.noted.notes (decided v).claims
              (subst (λ t. AreNotes shape t c.noted.notes) a.noted.are
              (subst (λ (sh : Shape). AreNotes sh u.claims c.noted.notes)
              (ap (λ (y : View). y.fixed.shape) a.same) c.noted.each)) a.noted.each;
        };
        made = λ y other. (c.known y (λ e. other (e ∙ sym here))).1
            ∙ (a.made y ∙ ap (first_of_two (last_made found v.log.entries y)) (seen y other));
        seal = subst (λ n. value_in w n ≡ Some 0) (sym here) c.seal;
      }

  pub perform_lawful : Ready v (performs found v)
      × IsPerformed v found (after_all v (performs found v))
  unfolding performs
  perform_lawful = goes_then (λ u. u ≡ v) (IsSealed v) (IsPerformed v found) seals
      (in_turn (applies found) clears)
      (λ u same. subst (λ y. Ready y (seals y) × IsSealed v (after_all y (seals y))) (sym same)
      (seal_lawful v can))
      (λ u s.
      let known : value_in (sealed u.calls) seal ≡ Some (length v.log.entries) =
      ap (λ (y : View). value_in y seal) (sym s.same) ∙ s.seal in
      let seen : (y : ℕ) → y ≢ seal → value_in (sealed u.calls) y ≡ value_in v y =
      (λ y other. ap (λ (z : View). value_in z y) (sym s.same) ∙ s.seen y other) in
      goes_then (λ w. w ≡ u) (IsApplied (sealed u.calls) found) (IsPerformed v found)
      (applies found) clears
      (λ w same. subst (λ y. Ready y (applies found y) × IsApplied (sealed u.calls) found
      (after_all y (applies found y))) (sym (same ∙ s.same))
      (apply_lawful (sealed u.calls) found (subst CanApply s.same (can_apply u s))))
      (λ w a. let t = clear_lawful w (can_clear u.calls w known a) in
      (t.0, joined u.calls w (after_all w (clears w)) known seen a t.1))
      u refl)
      v refl
