-- Ending the generation is lawful.
use Rattle.std.proofs.Common.{◌≡◌, ℕ, ◌+◌, ◌/◌, ◌<◌, Bool, true, false, ◌==◌, List, [], ◌∷◌, length, refl, sym, ap, ◌∙◌, subst, arith, eq-eqb, Some}
use Rattle.std.specs.Option.{option_map}
use Rattle.std.proofs.lemmas.Bool.{cond-true}
use Rattle.pm_layout.specs.declared.shape.Shape.{Shape}
use Rattle.pm_layout.specs.Areas.{word_of_generation}
use Rattle.pm_view.specs.Bits.{all_bits}
use Rattle.pm_view.specs.Changes.{Undrained, is_in_line, mark}
use Rattle.pm_view.specs.Claims.{Knows, Drained, class, known, pictured}
use Rattle.pm_view.specs.Log.{Phase, Idle, Open, Drawn, Sealing, Applying, Clearing, Retiring, Voiding, log_stored, next_log}
use Rattle.pm_view.specs.Parts.{GenerationPart}
use Rattle.pm_view.specs.Steps.Step.{Store, Flush, Drain}
use Rattle.pm_view.specs.View.{View, runs_one}
use Rattle.pm_view.specs.Views.{after, after_all, changed_from, drained_to, marked_by, value_in, was_of}
use Rattle.pm_view.specs.Steps.{Step}
use Rattle.pm_world.specs.Lawful.{MayStore, StoreFits}
use Rattle.pm_plan.specs.Plans.{IsPersisted, Ready, claims_persisted, in_turn, log_persisted, one, persists, stores}
use Rattle.pm_plan.proofs.Going.{Goes, goes_one, goes_stores, goes_then}
use Rattle.pm_undo.specs.Plans.{ends_word, retires}
use Rattle.pm_plan.specs.Notes.{DrainedTo, Valued}
use Rattle.pm_undo.specs.Working.{CanEndAt, CanRetire, IsRetired, phase_ended}
use Rattle.pm_plan.proofs.AreaParts.{part_generation}
use Rattle.pm_plan.proofs.Notes.{known_noted, pictured_noted}

-- how far the call is once the next generation is stored
abbrev phase_stored : Phase → Phase
phase_stored (Drawn n) = Retiring n
phase_stored phase = Voiding

module _ (v : View) (can : CanRetire v) where
  abbrev sh : Shape
  sh = v.fixed.shape

  abbrev w : ℕ
  w = word_of_generation sh v.fixed.lane

  abbrev x : ℕ
  x = v.log.generation + 1

  abbrev line : ℕ
  line = w / 8

  abbrev change : Bool → Undrained
  change flushed = record { word = w; mask = all_bits; old = option_map (λ old. Rattle.std.specs.Prelude.bit_and old all_bits) (value_in v w); flushed = flushed }

  -- nothing is done yet; the generation is stored; and flushed; and drained
  abbrev Before : View → Type 0
  Before u = u ≡ record v { calls = u.calls }

  abbrev StoredSo : Bool → View → Type 0
  StoredSo flushed u = u ≡ record v { claims = Knows w x ∷ v.claims; changes = change flushed ∷ []; calls = u.calls; log = record v.log { phase = phase_stored v.log.phase; bumped = true } }

  abbrev Ended : View → Type 0
  Ended u = u ≡ record v { claims = Drained [] ∷ Knows w x ∷ v.claims; changes = []; calls = u.calls; log = next_log (phase_ended v.log.phase) v.log }

  stays : (u t : View) → Before u → IsPersisted u t → Before t
  stays u t same is = is ∙ (ap (λ changes. record u { claims = claims_persisted changes u.log u.claims; changes = []; calls = t.calls; log = log_persisted changes u.log }) none
      ∙ (ap (λ (y : View). record y { changes = []; calls = t.calls }) same ∙ ap (λ changes. record v { changes = changes; calls = t.calls }) (sym can.drained)))
    where
      none : u.changes ≡ []
      none = ap (λ (y : View). y.changes) same ∙ can.drained

  -- the store, by how far the call is
  store_is : (ph : Phase) → CanEndAt v ph → (n : List Step) → changed_from (Store w x) (record v { calls = n }) w all_bits (was_of ph GenerationPart (value_in v w)) x (marked_by ph GenerationPart x v.claims) (log_stored sh (class v.claims) ph GenerationPart x v.log)
      ≡ record v { claims = Knows w x ∷ v.claims; changes = change false ∷ v.changes; calls = Store w x ∷ n; log = record v.log { phase = phase_stored ph; bumped = true } }
  store_is Open ends n = refl
  store_is (Drawn m) ends n = refl
  store_is Idle ends n = absurd ends
  store_is (Sealing m) ends n = absurd ends
  store_is (Applying todo) ends n = absurd ends
  store_is Clearing ends n = absurd ends
  store_is (Retiring m) ends n = absurd ends
  store_is Voiding ends n = absurd ends

  fits : (ph : Phase) → v.log.phase ≡ ph → CanEndAt v ph → (n : List Step) → StoreFits (record v { calls = n }) w x ph GenerationPart
  fits Open e ends n = record { ends = record { next = refl; known = can.known; below = can.below; drained = can.drained; unentered = can.unentered }; restored = ends; whole = can.whole }
  fits (Drawn m) e ends n = record { next = refl; known = can.known; below = can.below; drained = can.drained; unentered = can.unentered }
  fits Idle e ends n = absurd ends
  fits (Sealing m) e ends n = absurd ends
  fits (Applying todo) e ends n = absurd ends
  fits Clearing e ends n = absurd ends
  fits (Retiring m) e ends n = absurd ends
  fits Voiding e ends n = absurd ends

  may : (n : List Step) → MayStore (record v { calls = n }) w x
  may n = record {
    inside = let low = can.lane in omega (arith, low);
    room = subst (λ (changes : List Undrained). length changes < 512) (sym can.drained) (omega arith);
    small = let b = can.below in omega (arith, b);
    fits = subst (λ q. StoreFits (record v { calls = n }) w x v.log.phase q) (sym (part_generation sh v.fixed.lane)) (fits v.log.phase refl can.ends n);
  }

  stored : (u : View) → Before u → StoredSo false (after u (Store w x))
  stored u same = ap (λ (y : View). after y (Store w x)) same ∙ (ap (λ q. changed_from (Store w x) (record v { calls = u.calls }) w all_bits (was_of v.log.phase q (value_in v w)) x (marked_by v.log.phase q x v.claims) (log_stored sh (class v.claims) v.log.phase q x v.log)) (part_generation sh v.fixed.lane)
      ∙ (store_is v.log.phase can.ends u.calls ∙ (ap (λ changes. record v { claims = Knows w x ∷ v.claims; changes = change false ∷ changes; calls = Store w x ∷ u.calls; log = record v.log { phase = phase_stored v.log.phase; bumped = true } }) can.drained
      ∙ ap (λ n. record v { claims = Knows w x ∷ v.claims; changes = change false ∷ []; calls = n; log = record v.log { phase = phase_stored v.log.phase; bumped = true } }) count)))
    where
      count : Store w x ∷ u.calls ≡ (after u (Store w x)).calls
      count = refl

  drains_to : (ph : Phase) → CanEndAt v ph → (n : List Step) → drained_to (record v { claims = Knows w x ∷ v.claims; changes = change true ∷ []; calls = n; log = record v.log { phase = phase_stored ph; bumped = true } }) []
      ≡ record v { claims = Drained [] ∷ Knows w x ∷ v.claims; changes = []; calls = Drain ∷ n; log = next_log (phase_ended ph) v.log }
  drains_to Open ends n = refl
  drains_to (Drawn m) ends n = refl
  drains_to Idle ends n = absurd ends
  drains_to (Sealing m) ends n = absurd ends
  drains_to (Applying todo) ends n = absurd ends
  drains_to Clearing ends n = absurd ends
  drains_to (Retiring m) ends n = absurd ends
  drains_to Voiding ends n = absurd ends

  marked : mark line (change false) ≡ change true
  marked = cond-true (is_in_line line (change false)) (change true) (change false) (eq-eqb (w / 8) line refl)

  all_ended : Goes Before (ends_word w v.log.generation) Ended
  unfolding ends_word persists
  all_ended = goes_then Before (StoredSo false) Ended (stores w x) (in_turn (one (Flush line)) (one Drain))
      (goes_stores Before (StoredSo false) w x stays (λ u same room. (subst (λ (y : View). MayStore y w x) (sym same) (may u.calls), stored u same)))
      (goes_then (StoredSo false) (StoredSo true) Ended (one (Flush line)) (one Drain)
      (goes_one (StoredSo false) (StoredSo true) (Flush line) (λ u same. (
        subst (λ (y : View). Rattle.pm_view.specs.Counts.FlushesSome line y.changes) (sym same) (0, change false, omega arith, refl, (eq-eqb (w / 8) line refl, refl)),
        tt,
        ap (λ (y : View). after y (Flush line)) same ∙ ap (λ c. record v { claims = Knows w x ∷ v.claims; changes = c ∷ []; calls = Flush line ∷ u.calls; log = record v.log { phase = phase_stored v.log.phase; bumped = true } }) marked,
      )))
      (goes_one (StoredSo true) Ended Drain (λ u same. (
        subst (λ (y : View). Rattle.pm_view.specs.Counts.DropsSome y.changes) (sym same) (0, change true, omega arith, refl, refl),
        tt,
        ap (λ (y : View). after y Drain) same ∙ drains_to v.log.phase can.ends u.calls,
      ))))

  -- ENDING THE GENERATION IS LAWFUL
  pub retire_lawful : Ready v (retires v) × IsRetired v (after_all v (retires v))
  unfolding retires
  retire_lawful =
      let t = all_ended v refl in
      let u : View = after_all v (ends_word w v.log.generation v) in
      let claims : u.claims ≡ Drained [] ∷ Knows w x ∷ v.claims = ap (λ (y : View). y.claims) t.1 in (
        t.0,
        record {
          same = t.1 ∙ ap (λ c. record v { claims = c; changes = []; calls = u.calls; log = next_log (phase_ended v.log.phase) v.log }) (sym claims);
          noted = record { notes = DrainedTo [] ∷ Valued w x ∷ []; are = claims; each = (can.unmaking, (tt, tt)) };
          known = λ y far. ap (λ (z : View). known z.fixed.shape (runs_one z) z.claims y) t.1
              ∙ (known_noted sh (Knows w x ∷ v.claims) (runs_one v) (DrainedTo []) can.unmaking y tt ∙ known_noted sh v.claims (runs_one v) (Valued w x) tt y (λ e. let low = can.lane in omega (arith, e, low, far)));
          others = λ y far. ap (λ (z : View). value_in z y) t.1
              ∙ pictured_noted sh v.claims (Valued w x) tt y (λ e. far (sym e));
          next = ap (λ (z : View). value_in z w) t.1 ∙ cond-true (w == w) (Some x) (pictured sh v.claims w) (eq-eqb w w refl);
        },
      )
