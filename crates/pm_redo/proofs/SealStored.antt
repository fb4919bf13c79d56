-- A seal is stored and made persistent.
use Rattle.std.proofs.Common.{◌≡◌, ◌≢◌, ℕ, ◌+◌, ◌*◌, ◌/◌, ◌^◌, ◌<◌, ◌≤◌, Bool, true, false, cond, ◌==◌, List, [], ◌∷◌, length, refl, sym, ap, ◌∙◌, subst, arith, eq-eqb, ne_eqb, Option, Some, None, IsTrue}
use Rattle.std.specs.List.{AllByRecursion}
use Rattle.std.specs.Option.{option_map}
use Rattle.std.proofs.lemmas.List.Elements.{All-from_recursion}
use Rattle.std.proofs.lemmas.Option.{none-some}
use Rattle.std.specs.Prelude.{bit_and}
use Rattle.std.proofs.lemmas.Bool.{both_ways, cond-true, cond-false}
use Rattle.pm_layout.specs.Areas.{word_of_seal}
use Rattle.pm_view.specs.Bits.{all_bits}
use Rattle.pm_view.specs.Changes.{Undrained, mark}
use Rattle.pm_view.specs.Claims.{Claim, Knows, Drained, Decided, class, known, pictured}
use Rattle.pm_view.specs.Counts.{DropsSome, FlushesSome}
use Rattle.pm_view.specs.Entries.{Entry, redos}
use Rattle.pm_view.specs.Log.{Log, Idle, Drawn, Sealing, Applying, Clearing, log_stored, next_log}
use Rattle.pm_view.specs.Parts.{Part, part_of}
use Rattle.pm_view.specs.Steps.Step.{Store, Flush, Drain}
use Rattle.pm_view.specs.View.{View, runs_one}
use Rattle.pm_view.specs.Views.{after, after_all, changed_from, drained_to, marked_by, value_in, was_of}
use Rattle.pm_view.specs.Steps.{Step}
use Rattle.pm_world.specs.Lawful.{MayStore, StoreFits}
use Rattle.pm_world.specs.Logs.{AreWhole}
use Rattle.pm_plan.specs.Notes.{DrainedTo, Valued}
use Rattle.pm_plan.specs.Plans.{IsPersisted, Ready, claims_persisted, in_turn, log_persisted, one, persists, stores}
use Rattle.pm_plan.proofs.Going.{Goes, goes_one, goes_stores, goes_then}
use Rattle.pm_plan.proofs.Notes.{known_noted}
use Rattle.pm_redo.specs.Plans.{clears, seals, writes_seal}
use Rattle.pm_redo.specs.Stages.{CanClear, CanSeal, IsOfPlace, IsCleared, IsSealed}
use Rattle.pm_plan.proofs.AreaParts.{part_seal}

is_true : (b : Bool) → b ≡ true → IsTrue b
is_true true e = search Rattle.std.proofs.Common.rules
is_true false e = absurd (both_ways false refl e)

-- a word is stored, its line flushed, and that drained, where nothing was undrained
module _ (v : View) (w x : ℕ) (was : Option ℕ) (mid last : Log) (ended : List Claim) where
  abbrev change : Bool → Undrained
  change flushed = record {
    word = w;
    mask = all_bits;
    old = option_map (λ old. bit_and old all_bits) was;
    flushed = flushed;
  }

  abbrev stored_as : Bool → List Step → View
  stored_as flushed n = record v {
    claims = Knows w x ∷ v.claims;
    changes = change flushed ∷ [];
    calls = n;
    log = mid;
  }

  abbrev ended_as : List Step → View
  ended_as n = record v { claims = ended; changes = []; calls = n; log = last }

  abbrev Before : View → Type 0
  Before u = u ≡ record v { calls = u.calls }

  abbrev StoredSo : Bool → View → Type 0
  StoredSo flushed u = u ≡ stored_as flushed u.calls

  abbrev EndedSo : View → Type 0
  EndedSo u = u ≡ ended_as u.calls

  module _ (none : v.changes ≡ []) (may : (n : List Step) → MayStore (record v { calls = n }) w x)
      (stores_so : (n : List Step) → after (record v { calls = n }) (Store w x) ≡ stored_as false (Store w x ∷ n))
      (drains_so : (n : List Step) → drained_to (stored_as true n) [] ≡ ended_as (Drain ∷ n)) where
    stays : (u t : View) → Before u → IsPersisted u t → Before t
    stays u t same is = is
        ∙ (ap (λ changes. record u {
          claims = claims_persisted changes u.log u.claims;
          changes = [];
          calls = t.calls;
          log = log_persisted changes u.log;
        }) empty
        ∙ (ap (λ (y : View). record y { changes = []; calls = t.calls }) same
        ∙ ap (λ changes. record v { changes = changes; calls = t.calls }) (sym none)))
      where
        empty : u.changes ≡ []
        empty = ap (λ (y : View). y.changes) same ∙ none

    marked : mark (w / 8) (change false) ≡ change true
    marked = cond-true (w / 8 == w / 8) (change true) (change false) (eq-eqb (w / 8) (w / 8) refl)

    stored : (u : View) → Before u → StoredSo false (after u (Store w x))
    stored u same = ap (λ (y : View). after y (Store w x)) same ∙ stores_so u.calls

    pub seal_goes : Goes Before (writes_seal w x) EndedSo
    unfolding writes_seal persists
    seal_goes = goes_then Before (StoredSo false) EndedSo (stores w x)
        (in_turn (one (Flush (w / 8))) (one Drain))
        (goes_stores Before (StoredSo false) w x stays
        (λ u same room. (
          subst (λ (y : View). MayStore y w x) (sym same) (may u.calls),
          stored u same,
        )))
        (goes_then (StoredSo false) (StoredSo true) EndedSo (one (Flush (w / 8))) (one Drain)
        (goes_one (StoredSo false) (StoredSo true) (Flush (w / 8)) (λ u same. (
          subst (λ (y : View). FlushesSome (w / 8) y.changes) (sym same) (
            0,
            change false,
            omega arith,
            refl,
            (is_true (w / 8 == w / 8) (eq-eqb (w / 8) (w / 8) refl), refl),
          ),
          tt,
          ap (λ (y : View). after y (Flush (w / 8))) same
              ∙ ap (λ c. record v {
                claims = Knows w x ∷ v.claims;
                changes = c ∷ [];
                calls = Flush (w / 8) ∷ u.calls;
                log = mid;
              }) marked,
        )))
        (goes_one (StoredSo true) EndedSo Drain (λ u same. (
          subst (λ (y : View). DropsSome y.changes) (sym same) (
            0,
            change true,
            omega arith,
            refl,
            refl,
          ),
          tt,
          ap (λ (y : View). after y Drain) same ∙ drains_so u.calls,
        ))))

-- ---- the seal
module _ (v : View) (can : CanSeal v) where
  abbrev seal : ℕ
  seal = word_of_seal v.fixed.shape v.fixed.lane

  abbrev seal_part : Part
  seal_part = part_of v.fixed.shape v.fixed.lane seal

  abbrev count : ℕ
  count = length v.log.entries

  abbrev sealing : Log
  sealing = record v.log { phase = Sealing can.number }

  abbrev decided : List Claim
  decided = Decided (redos v.log.entries) ∷ Drained [] ∷ Knows seal count ∷ v.claims

  placed_ : (es : List Entry) → AllByRecursion (IsOfPlace v) es
      → AllByRecursion (λ (e : Entry). e.place ≢ None) es
  placed_ [] all = tt
  placed_ (e ∷ es) all = ((λ none. none-some all.0.place (sym none ∙ all.0.is)), placed_ es all.1)

  whole_ : AreWhole v.fixed.shape v.fixed.lane v.log
  whole_ = record {
    front = can.log_.front;
    are = can.log_.are;
    placed = All-from_recursion (λ (e : Entry). e.place ≢ None) can.log_.front
        (placed_ can.log_.front can.log_.each);
  }

  seal_may : (n : List Step) → MayStore (record v { calls = n }) seal count
  seal_may n = record {
    inside = let low = can.log_.lane in omega (arith, low);
    room = subst (λ (changes : List Undrained). length changes < 512) (sym can.drained)
        (omega arith);
    small = let few = can.log_.few in omega (arith, few);
    fits = subst (λ ph. StoreFits (record v { calls = n }) seal count ph seal_part) (sym can.drawn)
        (subst (λ q. StoreFits (record v { calls = n }) seal count (Drawn can.number) q)
        (sym (part_seal v.fixed.shape v.fixed.lane seal refl))
        (record {
          all = refl;
          known = can.seal;
          whole = whole_;
          below = can.log_.below;
          drained = can.drained;
        }));
  }

  seal_stores : (n : List Step) → after (record v { calls = n }) (Store seal count) ≡ stored_as v seal count
      (value_in v seal) sealing v.log decided false (Store seal count ∷ n)
  seal_stores n =
      ap (λ ph. changed_from (Store seal count) (record v { calls = n }) seal all_bits
      (was_of ph seal_part (value_in v seal)) count (marked_by ph seal_part count v.claims)
      (log_stored v.fixed.shape (class v.claims) ph seal_part count v.log)) can.drawn
      ∙ (ap (λ q. changed_from (Store seal count) (record v { calls = n }) seal all_bits
      (was_of (Drawn can.number) q (value_in v seal)) count
      (marked_by (Drawn can.number) q count v.claims) (log_stored v.fixed.shape (class v.claims)
      (Drawn can.number) q count v.log)) (part_seal v.fixed.shape v.fixed.lane seal refl)
      ∙ ap (λ changes. record v {
        claims = Knows seal count ∷ v.claims;
        changes = change v seal count (value_in v seal) sealing v.log decided false ∷ changes;
        calls = Store seal count ∷ n;
        log = sealing;
      }) can.drained)

  pub seal_lawful : Ready v (seals v) × IsSealed v (after_all v (seals v))
  unfolding seals
  seal_lawful =
      let t = seal_goes v seal count (value_in v seal) sealing
      (record v.log { phase = Applying v.log.entries }) decided can.drained seal_may seal_stores
      (λ n. refl) v refl in
      let u : View = after_all v (writes_seal seal count v) in (
        t.0,
        record {
          same = t.1;
          seal = ap (λ (z : View). value_in z seal) t.1 ∙ cond-true (seal == seal) (Some count)
              (pictured v.fixed.shape v.claims seal) (eq-eqb seal seal refl);
          seen = λ y other. ap (λ (z : View). value_in z y) t.1
              ∙ cond-false (seal == y) (Some count) (pictured v.fixed.shape v.claims y)
              (ne_eqb seal y (λ e. other (sym e)));
        },
      )

-- ---- and its end
module _ (v : View) (can : CanClear v) where
  abbrev seal_at : ℕ
  seal_at = word_of_seal v.fixed.shape v.fixed.lane

  abbrev cleared_part : Part
  cleared_part = part_of v.fixed.shape v.fixed.lane seal_at

  abbrev clearing : Log
  clearing = record v.log { phase = Clearing }

  abbrev cleared : List Claim
  cleared = Drained [] ∷ Knows seal_at 0 ∷ v.claims

  clear_may : (n : List Step) → MayStore (record v { calls = n }) seal_at 0
  clear_may n = record {
    inside = let low = can.lane in omega (arith, low);
    room = subst (λ (changes : List Undrained). length changes < 512) (sym can.drained)
        (omega arith);
    small = omega arith;
    fits = subst (λ ph. StoreFits (record v { calls = n }) seal_at 0 ph cleared_part)
        (sym can.applied)
        (subst (λ q. StoreFits (record v { calls = n }) seal_at 0 (Applying []) q)
        (sym (part_seal v.fixed.shape v.fixed.lane seal_at refl))
        (record { zero_ = refl; known = can.known; all = refl; drained = can.drained }));
  }

  clear_stores : (n : List Step) → after (record v { calls = n }) (Store seal_at 0) ≡ stored_as v seal_at 0
      (value_in v seal_at) clearing v.log cleared false (Store seal_at 0 ∷ n)
  clear_stores n =
      ap (λ ph. changed_from (Store seal_at 0) (record v { calls = n }) seal_at all_bits
      (was_of ph cleared_part (value_in v seal_at)) 0 (marked_by ph cleared_part 0 v.claims)
      (log_stored v.fixed.shape (class v.claims) ph cleared_part 0 v.log)) can.applied
      ∙ (ap (λ q. changed_from (Store seal_at 0) (record v { calls = n }) seal_at all_bits
      (was_of (Applying []) q (value_in v seal_at)) 0 (marked_by (Applying []) q 0 v.claims)
      (log_stored v.fixed.shape (class v.claims) (Applying []) q 0 v.log))
      (part_seal v.fixed.shape v.fixed.lane seal_at refl)
      ∙ ap (λ changes. record v {
        claims = Knows seal_at 0 ∷ v.claims;
        changes = change v seal_at 0 (value_in v seal_at) clearing v.log cleared false ∷ changes;
        calls = Store seal_at 0 ∷ n;
        log = clearing;
      }) can.drained)

  pub clear_lawful : Ready v (clears v) × IsCleared v (after_all v (clears v))
  unfolding clears
  clear_lawful =
      let t = seal_goes v seal_at 0 (value_in v seal_at) clearing (next_log Idle v.log) cleared
      can.drained clear_may clear_stores (λ n. refl) v refl in
      let u : View = after_all v (writes_seal seal_at 0 v) in
      let claims : u.claims ≡ cleared = ap (λ (y : View). y.claims) t.1 in (
        t.0,
        record {
          same = t.1 ∙ ap (λ c. record v {
            claims = c;
            changes = [];
            calls = u.calls;
            log = next_log Idle v.log;
          }) (sym claims);
          noted = record {
            notes = DrainedTo [] ∷ Valued seal_at 0 ∷ [];
            are = claims;
            each = (can.unmaking, (tt, tt));
          };
          seal = ap (λ (z : View). value_in z seal_at) t.1 ∙ cond-true (seal_at == seal_at) (Some 0)
              (pictured v.fixed.shape v.claims seal_at) (eq-eqb seal_at seal_at refl);
          known = λ y other. (
            ap (λ (z : View). known z.fixed.shape (runs_one z) z.claims y) t.1
                ∙ (known_noted v.fixed.shape (Knows seal_at 0 ∷ v.claims) (runs_one v)
                (DrainedTo []) can.unmaking y tt ∙ known_noted v.fixed.shape v.claims
                (runs_one v) (Valued seal_at 0) tt y (λ e. other (sym e))),
            ap (λ (z : View). value_in z y) t.1 ∙ cond-false (seal_at == y) (Some 0)
                (pictured v.fixed.shape v.claims y) (ne_eqb seal_at y (λ e. other (sym e))),
          );
        },
      )
