-- Searches one after another, and what they keep.
use Rattle.std.proofs.Common.{◌≡◌, ◌≢◌, ⊎_elim, ℕ, true, eqb, eq-eqb, IsTrue, Contains, List, [], ◌∷◌, ◌++◌, length, length-set, set, slice_index, refl, sym, ap, ◌∙◌, subst, arith}
use Rattle.std.specs.List.{list_any}
use Rattle.std.proofs.lemmas.Bool.{cases_eq, false≢true, or_right}
use Rattle.std.proofs.lemmas.List.{get_or-set_other, set-get_or}
use Rattle.std.proofs.lemmas.List.Elements.{Contains-append_left, Contains-append_right}
use Rattle.std.proofs.lemmas.List.Folds.{list_any_at}
use Rattle.pm_layout.specs.declared.shape.Shape.{Shape}
use Rattle.solo_view.specs.declared.occ.Occ.{Occ}
use Rattle.solo_view.specs.declared.occ.Occ.TheVariants.{Run, Zone}
use Rattle.solo_view.specs.Area.{is_in_area}
use Rattle.solo_view.specs.Founds.{Found, FoundAlone, IsAlone}
use Rattle.solo_view.specs.Held.{is_held, is_known}
use Rattle.solo_view.specs.Steps.{Step}
use Rattle.solo_view.specs.Steps.Step.{Load, Store, Or, And, Flush, Drain, TakeWrite, TakeRead, Raise, Give, ZoneTry, ZoneGive, Occupied, Occupy, Vacate, Draw, NumberSeen, StopSeen, SetStop, Tell}
use Rattle.solo_view.specs.View.{View}
use Rattle.solo_view.specs.Views.{after, occ_in, occupied_word, runs_with, zones_with}
use Rattle.solo_world.specs.Lanes.{IsOfShape}
use Rattle.solo_world.specs.Lawful.{Allowed, IsEarly}
use Rattle.solo_world.specs.Searches.{IsKeptBySearch, Searches, is_search}
use Rattle.solo_world.proofs.StepLoad.{contains-more}

pub searches_none : (v : View) → Searches v [] v
unfolding Searches
searches_none v = refl

pub searches_one : (v : View) (s : Step) → IsTrue (is_search s) → Allowed v s → Found v s → FoundAlone v s → Searches v (s ∷ []) (after v s)
unfolding Searches
searches_one v s is may found alone = (is, may, found, alone, refl)

pub searches_then : (u v w : View) (xs ys : List Step) → Searches u xs v → Searches v ys w → Searches u (xs ++ ys) w
unfolding Searches
searches_then u v w [] ys first second = subst (λ z. Searches z ys w) first second
searches_then u v w (x ∷ xs) ys first second = (first.0, first.1, first.2, first.3, searches_then (after u x) v w xs ys first.4 second)

-- ---- what was seen

module _ (s : Step) (seen : List Step) where
  remembers_one : (t : Step) → Contains seen t → Contains (seen ++ s ∷ []) t
  remembers_one t there = Contains-append_left seen (s ∷ []) t there

  pub saw_one : Contains (seen ++ s ∷ []) s
  saw_one = Contains-append_right seen (s ∷ []) s (0, omega arith, refl)

-- ---- what is kept

pub kept_none : (v : View) → IsKeptBySearch v v
kept_none v = record { same = refl; words = refl; run_words = refl; zone_words = refl; remembers = λ s there. there; known = λ u there. there; values = λ u there. refl }

pub kept_then : (u v w : View) → IsKeptBySearch u v → IsKeptBySearch v w → IsKeptBySearch u w
kept_then u v w first second = record {
  same = second.same ∙ ap (λ (z : View). record z { words = w.words; known = w.known; run_words = w.run_words; zone_words = w.zone_words; locks = w.locks; zone_locks = w.zone_locks; reserved = w.reserved; seen = w.seen }) first.same;
  words = second.words ∙ first.words;
  run_words = second.run_words ∙ first.run_words;
  zone_words = second.zone_words ∙ first.zone_words;
  remembers = λ s there. second.remembers s (first.remembers s there);
  known = λ u there. second.known u (first.known u there);
  values = λ u there. second.values u (first.known u there) ∙ first.values u there;
}

-- an occupancy word is made another, and none is added
as_many_runs : (at : Occ) (x : ℕ) (runs : List ℕ) → length (runs_with at x runs) ≡ length runs
as_many_runs (Run place) x runs = length-set runs _ x
as_many_runs (Zone zone) x runs = refl

as_many_zones : (at : Occ) (x : ℕ) (zones : List ℕ) → length (zones_with at x zones) ≡ length zones
as_many_zones (Run place) x zones = refl
as_many_zones (Zone zone) x zones = length-set zones zone x

-- a word in the list is known
listed : (v : View) (u : ℕ) → Contains v.known u → is_known v u ≡ true
listed v u there = or_right (is_in_area v.lane u) (list_any (λ other. eqb other u) v.known) (list_any_at (λ other. eqb other u) v.known there.0 u there.1 (eq-eqb _ u there.2))

pub kept_one : (v : View) (s : Step) → IsTrue (is_search s) → Found v s → IsKeptBySearch v (after v s)
kept_one v (Load w found) is found_so = record {
  same = refl;
  words = length-set v.words w found;
  run_words = refl;
  zone_words = refl;
  remembers = remembers_one (Load w found) v.seen;
  known = λ u there. contains-more (is_held v w) w v.known u there;
  values = λ u there. ⊎_elim
      (λ (this : u ≡ w). ap (λ x. slice_index (set v.words w x) u) (found_so (listed v w (subst (Contains v.known) this there))) ∙ ap (λ (ws : List ℕ). slice_index ws u) (set-get_or v.words w 0))
      (λ (other : u ≢ w). get_or-set_other v.words w u found 0 other) (cases_eq u w);
}
kept_one v (Occupied at found) is found_so = record {
  same = refl;
  words = refl;
  run_words = as_many_runs at found v.run_words;
  zone_words = as_many_zones at found v.zone_words;
  remembers = remembers_one (Occupied at found) v.seen;
  known = λ u there. there;
  values = λ u there. refl;
}
kept_one v (Occupy at bits won) is found_so =
    let x : ℕ = occupied_word won bits (occ_in v at) in
    record { same = refl; words = refl; run_words = as_many_runs at x v.run_words; zone_words = as_many_zones at x v.zone_words; remembers = remembers_one (Occupy at bits won) v.seen; known = λ u there. there; values = λ u there. refl }
kept_one v (ZoneTry zone won) is found_so = record { same = refl; words = refl; run_words = refl; zone_words = refl; remembers = remembers_one (ZoneTry zone won) v.seen; known = λ u there. there; values = λ u there. refl }
kept_one v (ZoneGive zone) is found_so = record { same = refl; words = refl; run_words = refl; zone_words = refl; remembers = remembers_one (ZoneGive zone) v.seen; known = λ u there. there; values = λ u there. refl }
kept_one v (Store w x) is found_so = absurd (false≢true is)
kept_one v (Or w bits found) is found_so = absurd (false≢true is)
kept_one v (And w bits found) is found_so = absurd (false≢true is)
kept_one v (Flush line) is found_so = absurd (false≢true is)
kept_one v Drain is found_so = absurd (false≢true is)
kept_one v (TakeWrite line won) is found_so = absurd (false≢true is)
kept_one v (TakeRead line won) is found_so = absurd (false≢true is)
kept_one v (Raise line won) is found_so = absurd (false≢true is)
kept_one v (Give line) is found_so = absurd (false≢true is)
kept_one v (Vacate at bits) is found_so = absurd (false≢true is)
kept_one v (Draw n) is found_so = absurd (false≢true is)
kept_one v (NumberSeen n) is found_so = absurd (false≢true is)
kept_one v (StopSeen set) is found_so = absurd (false≢true is)
kept_one v SetStop is found_so = absurd (false≢true is)
kept_one v (Tell operation reply) is found_so = absurd (false≢true is)

pub kept_by_search : (v w : View) (steps : List Step) → Searches v steps w → IsKeptBySearch v w
unfolding Searches
kept_by_search v w [] searches = subst (IsKeptBySearch v) (sym searches) (kept_none v)
kept_by_search v w (s ∷ steps) searches = kept_then v (after v s) w (kept_one v s searches.0 searches.2) (kept_by_search (after v s) w steps searches.4)

module _ (v w : View) (kept : IsKeptBySearch v w) where
  pub still_alone : IsAlone v → IsAlone w
  still_alone is = ap (λ (z : View). z.table) kept.same ∙ is

  pub alone_before : IsAlone w → IsAlone v
  alone_before is = sym (ap (λ (z : View). z.table) kept.same) ∙ is

  pub early_still : IsEarly v.log.phase → IsEarly w.log.phase
  early_still early = subst IsEarly (sym (ap (λ (z : View). z.log.phase) kept.same)) early

  pub shape_still : (shape : Shape) → IsOfShape v shape → IsOfShape w shape
  shape_still shape of = record {
    lanes = ap (λ (z : View). z.lanes) kept.same ∙ of.lanes;
    zones = ap (λ (z : View). z.zones) kept.same ∙ of.zones;
    size = kept.words ∙ of.size;
  }
