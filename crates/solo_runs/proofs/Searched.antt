-- Looks of a search, one after another.
use Rattle.std.proofs.Common.{ℕ, ◌/◌, false, set, [], ◌∷◌, ◌++◌, refl, ap, ◌∙◌}
use Rattle.std.proofs.lemmas.List.{set-get_or}
use Rattle.solo_view.specs.declared.occ.Occ.TheVariants.{Run}
use Rattle.solo_view.specs.Founds.{Found, FoundAlone}
use Rattle.solo_view.specs.Steps.Step.{Load, Occupied, Occupy}
use Rattle.solo_view.specs.View.{View}
use Rattle.solo_view.specs.Views.{after}
use Rattle.solo_world.proofs.Searched.{kept_none, kept_one, kept_then, searches_none, searches_one, searches_then, still_alone}
use Rattle.solo_world.specs.Lawful.{Allowed}
use Rattle.solo_runs.specs.Looking.{LookedOn}

pub looked_none : (v : View) → LookedOn v v
looked_none v = record { steps = []; searches = searches_none v; kept = kept_none v; same = refl; alone = λ is. (refl, refl) }

pub looked_then : (u v w : View) → LookedOn u v → LookedOn v w → LookedOn u w
looked_then u v w first second = record {
  steps = first.steps ++ second.steps;
  searches = searches_then u v w first.steps second.steps first.searches second.searches;
  kept = kept_then u v w first.kept second.kept;
  same = second.same ∙ ap (λ (z : View). record z { words = w.words; known = w.known; run_words = w.run_words; locks = w.locks; seen = w.seen }) first.same;
  alone = λ is.
      let a = first.alone is in
      let b = second.alone (still_alone u v first.kept is) in
      (b.0 ∙ a.0, b.1 ∙ a.1);
}

-- a load
pub looked_load : (v : View) (word found : ℕ) → Allowed v (Load word found) → Found v (Load word found) → FoundAlone v (Load word found) → LookedOn v (after v (Load word found))
looked_load v word found may known alone = record {
  steps = Load word found ∷ [];
  searches = searches_one v (Load word found) refl may known alone;
  kept = kept_one v (Load word found) refl known;
  same = refl;
  alone = λ is. (ap (set v.words word) (alone is) ∙ set-get_or v.words word 0, refl);
}

-- a look at a run's occupancy word
pub looked_occupied : (v : View) (place found : ℕ) → Allowed v (Occupied (Run place) found) → FoundAlone v (Occupied (Run place) found) → LookedOn v (after v (Occupied (Run place) found))
looked_occupied v place found may alone = record {
  steps = Occupied (Run place) found ∷ [];
  searches = searches_one v (Occupied (Run place) found) refl may tt alone;
  kept = kept_one v (Occupied (Run place) found) refl tt;
  same = refl;
  alone = λ is. (refl, ap (set v.run_words (place / 4096)) (alone is) ∙ set-get_or v.run_words (place / 4096) 0);
}

-- bits of it that were tried, and not got
pub looked_lost : (v : View) (place bits : ℕ) → Allowed v (Occupy (Run place) bits false) → FoundAlone v (Occupy (Run place) bits false) → LookedOn v (after v (Occupy (Run place) bits false))
looked_lost v place bits may alone = record {
  steps = Occupy (Run place) bits false ∷ [];
  searches = searches_one v (Occupy (Run place) bits false) refl may tt alone;
  kept = kept_one v (Occupy (Run place) bits false) refl tt;
  same = refl;
  alone = λ is. (refl, set-get_or v.run_words (place / 4096) 0);
}
