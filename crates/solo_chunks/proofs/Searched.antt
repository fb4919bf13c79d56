-- Looks of a search, one after another.
use Rattle.std.proofs.Common.{◌≡◌, ℕ, ◌<◌, Bool, false, set, [], ◌∷◌, ◌++◌, refl, sym, ap, ◌∙◌, subst, inl, inr}
use Rattle.std.proofs.lemmas.List.{set-get_or}
use Rattle.solo_view.specs.declared.occ.Occ.TheVariants.{Zone}
use Rattle.solo_view.specs.Founds.{FoundAlone, IsAlone}
use Rattle.solo_view.specs.Steps.Step.{Occupied, Occupy, ZoneGive, ZoneTry}
use Rattle.solo_view.specs.View.{View}
use Rattle.solo_view.specs.Views.{after, occ_in}
use Rattle.solo_world.proofs.Searched.{early_still, kept_none, kept_one, kept_then, searches_none, searches_one, searches_then, still_alone}
use Rattle.solo_world.specs.Lawful.{Allowed}
use Rattle.solo_chunks.specs.Chunks.{SawOneTaken}
use Rattle.solo_chunks.specs.Looking.{HoldsZone, LookedOn}

pub looked_none : (v : View) → LookedOn v v
looked_none v = record { steps = []; searches = searches_none v; kept = kept_none v; same = refl; alone = λ is. refl }

pub looked_then : (u v w : View) → LookedOn u v → LookedOn v w → LookedOn u w
looked_then u v w first second = record {
  steps = first.steps ++ second.steps;
  searches = searches_then u v w first.steps second.steps first.searches second.searches;
  kept = kept_then u v w first.kept second.kept;
  same = second.same ∙ ap (λ (z : View). record z { zone_words = w.zone_words; zone_locks = w.zone_locks; seen = w.seen }) first.same;
  alone = λ is. second.alone (still_alone u v first.kept is) ∙ first.alone is;
}

module _ (v : View) (zone : ℕ) where
  -- a look at a zone's occupancy word
  pub looked_occupied : (found : ℕ) → Allowed v (Occupied (Zone zone) found) → FoundAlone v (Occupied (Zone zone) found) → LookedOn v (after v (Occupied (Zone zone) found))
  looked_occupied found may alone = record {
    steps = Occupied (Zone zone) found ∷ [];
    searches = searches_one v (Occupied (Zone zone) found) refl may tt alone;
    kept = kept_one v (Occupied (Zone zone) found) refl tt;
    same = refl;
    alone = λ is. ap (set v.zone_words zone) (alone is) ∙ set-get_or v.zone_words zone 0;
  }

  -- bits of it that were tried, and not got
  pub looked_lost : (bits : ℕ) → Allowed v (Occupy (Zone zone) bits false) → FoundAlone v (Occupy (Zone zone) bits false) → LookedOn v (after v (Occupy (Zone zone) bits false))
  looked_lost bits may alone = record {
    steps = Occupy (Zone zone) bits false ∷ [];
    searches = searches_one v (Occupy (Zone zone) bits false) refl may tt alone;
    kept = kept_one v (Occupy (Zone zone) bits false) refl tt;
    same = refl;
    alone = λ is. set-get_or v.zone_words zone 0;
  }

  -- a try of the zone's lock, and the lock given back
  pub looked_try : (won : Bool) → Allowed v (ZoneTry zone won) → FoundAlone v (ZoneTry zone won) → LookedOn v (after v (ZoneTry zone won))
  looked_try won may alone = record {
    steps = ZoneTry zone won ∷ [];
    searches = searches_one v (ZoneTry zone won) refl may tt alone;
    kept = kept_one v (ZoneTry zone won) refl tt;
    same = refl;
    alone = λ is. refl;
  }

  pub looked_give : Allowed v (ZoneGive zone) → LookedOn v (after v (ZoneGive zone))
  looked_give may = record {
    steps = ZoneGive zone ∷ [];
    searches = searches_one v (ZoneGive zone) refl may tt tt;
    kept = kept_one v (ZoneGive zone) refl tt;
    same = refl;
    alone = λ is. refl;
  }

module _ (v w : View) (looked : LookedOn v w) where
  pub zones_same : w.zones ≡ v.zones
  zones_same = ap (λ (z : View). z.zones) looked.same

  pub holds_still : (zone : ℕ) → w.zone_locks ≡ v.zone_locks → HoldsZone v zone → HoldsZone w zone
  holds_still zone locks is = record {
    there = record { of_pool = subst (λ n. zone < n) (sym zones_same) is.there.of_pool; inside = is.there.inside };
    locked = locks ∙ is.locked;
    early = early_still v w looked.kept is.early;
  }

  -- the picture of a zone's word, where the lane is alone
  pub word_same : (zone : ℕ) → IsAlone v → occ_in w (Zone zone) ≡ occ_in v (Zone zone)
  word_same zone is = ap (λ (z : View). occ_in z (Zone zone)) (λ i. record w { zone_words = looked.alone is i })

  -- what was seen stays seen
  pub saw_still : (zone first count : ℕ) → SawOneTaken v zone first count → SawOneTaken w zone first count
  saw_still zone first count saw = elim saw [
    | inl one ↦ inl (one.0, (one.1.0, one.1.1, (one.1.2.0, (looked.kept.remembers _ one.1.2.1.0, one.1.2.1.1))))
    | inr tried ↦ inr (looked.kept.remembers _ tried)
  ]
