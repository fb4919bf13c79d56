-- A zone is searched under its lock, which is then given back.
use Rattle.std.proofs.Common.{◌≡◌, ℕ, ◌-◌, ◌<◌, ◌≤◌, ◌==◌, Bool, true, false, not, cond, bit_and, List, [], ◌∷◌, ◌++◌, refl, sym, ap, ◌∙◌, subst, arith, eq-eqb}
use Rattle.std.specs.List.{filter, list_any}
use Rattle.std.proofs.lemmas.Bool.{false≢true}
use Rattle.pm_layout.specs.declared.shape.Shape.{Shape}
use Rattle.solo_view.specs.declared.occ.Occ.TheVariants.{Zone}
use Rattle.solo_view.specs.Founds.{FoundAlone}
use Rattle.solo_view.specs.Steps.{Step}
use Rattle.solo_view.specs.Steps.Step.{Occupy, ZoneGive, ZoneTry}
use Rattle.solo_view.specs.View.{View}
use Rattle.solo_view.specs.Views.{after, occ_in}
use Rattle.solo_world.proofs.Searched.{kept_by_search, saw_one, searches_one, searches_then, still_alone}
use Rattle.solo_world.specs.Lawful.{MayGiveZone, MayTryZone}
use Rattle.solo_world.specs.Searches.{Searches}
use Rattle.solo_chunks.proofs.Searched.{looked_give, looked_then, looked_try, saw_still, word_same, zones_same}
use Rattle.solo_chunks.proofs.Tried.{zone_held}
use Rattle.solo_chunks.specs.Chunks.{MaySearch, chunk_bits, taken_chunks}
use Rattle.solo_chunks.specs.Looking.{AreTaken, HasGotIn, HasGotOf, HasNoneBelow, HasNoneOf, HoldsZone, IsOneSet, IsRefused, LookedOn}

-- the zone's lock was tried so
abbrev pub IsAsked : (View → Type 0) → View → ℕ → Bool → Type 0
IsAsked at v zone won = at (after v (ZoneTry zone won)) × FoundAlone v (ZoneTry zone won)

pub asked_as : (at : View → Type 0) (v : View) (zone : ℕ) (won got : Bool) → won ≡ got → IsAsked at v zone won → IsAsked at v zone got
asked_as at v zone won got so is = subst (λ w. IsAsked at v zone w) so is

-- the memory that may be seen so may be seen so once the zone's lock is given back
abbrev pub IsGivenBack : (View → Type 0) → (View → Type 0) → ℕ → Type 0
IsGivenBack old new zone = (w : View) → old w → new (after w (ZoneGive zone))

module _ (v : View) (shape : Shape) (zone : ℕ) (may : MaySearch v shape) (inside : zone < shape.zones) (few : shape.zones ≤ 32) where
  in_zones : zone < v.zones
  in_zones = let same = may.shape.zones in omega (arith, same, inside)

  may_try : MayTryZone v zone
  may_try = record { inside = in_zones; few = omega (arith, inside, few); free = ap (list_any (λ held. held == zone)) may.unlocked; early = may.early }

  pub refused : (at : View → Type 0) → IsAsked at v zone false → IsRefused at v zone
  refused at (there, alone) = record {
    looks = record { view = after v (ZoneTry zone false); looked = looked_try v zone false may_try alone; locks = refl; there = there; holds = saw_one (ZoneTry zone false) v.seen };
    apart = λ is. false≢true (alone is);
  }

  module _ (alone : FoundAlone v (ZoneTry zone true)) where
    abbrev pub held : View
    held = after v (ZoneTry zone true)

    pub holds_it : HoldsZone held zone
    holds_it = record {
      there = record { of_pool = in_zones; inside = omega (arith, inside, few) };
      locked = ap (λ zones. zones ++ zone ∷ []) may.unlocked;
      early = may.early;
    }

    looked_held : LookedOn v held
    looked_held = looked_try v zone true may_try alone

    taken_before : (count n : ℕ) → AreTaken held zone count n → AreTaken v zone count n
    taken_before count n taken = λ is first low. subst (λ word. IsOneSet word first count) (word_same v held looked_held zone is) (taken (still_alone v held looked_held.kept is) first low)

    module _ (w : View) (looked : LookedOn v w) (locked : w.zone_locks ≡ zone ∷ []) where
      may_give : MayGiveZone w zone
      may_give = record { inside = subst (λ n. zone < n) (sym (zones_same v w looked)) in_zones; few = omega (arith, inside, few); held = zone_held w zone locked }

      locks_back : (after w (ZoneGive zone)).zone_locks ≡ v.zone_locks
      locks_back = ap (filter (λ other. not (other == zone))) locked ∙ ap (λ b. cond (not b) (zone ∷ []) []) (eq-eqb zone zone refl) ∙ sym may.unlocked

    module _ (old new : View → Type 0) (given : IsGivenBack old new zone) where
      pub none_of : (count : ℕ) → HasNoneBelow old held zone count (65 - count) → HasNoneOf new v zone count
      none_of count below =
          let w : View = below.looks.view in
          let on : LookedOn v w = looked_then v held w looked_held below.looks.looked in
          let locked : w.zone_locks ≡ zone ∷ [] = below.looks.locks ∙ holds_it.locked in
          let back : LookedOn w (after w (ZoneGive zone)) = looked_give w zone (may_give w on locked) in
          record {
            looks = record {
              view = after w (ZoneGive zone);
              looked = looked_then v w (after w (ZoneGive zone)) on back;
              locks = locks_back w on locked;
              there = given w below.looks.there;
              holds = λ first within. saw_still w (after w (ZoneGive zone)) back zone first count (below.looks.holds first (omega (arith, within)));
            };
            taken = taken_before count (65 - count) below.taken;
          }

      pub got_of : (first count : ℕ) → HasGotIn old held zone first count → HasGotOf new v zone first count
      got_of first count got =
          let w : View = got.from in
          let on : LookedOn v w = looked_then v held w looked_held got.looked in
          let take : Step = Occupy (Zone zone) (chunk_bits first count) true in
          let t : View = after w take in
          let x : View = after t (ZoneGive zone) in
          let locked : w.zone_locks ≡ zone ∷ [] = got.locks ∙ holds_it.locked in
          let give : MayGiveZone t zone = record { inside = (may_give w on locked).inside; few = (may_give w on locked).few; held = (may_give w on locked).held } in
          let took = searches_one w take refl got.won.may tt got.won.found in
          let gave = searches_one t (ZoneGive zone) refl give tt tt in
          let steps : List Step = on.steps ++ (take ∷ [] ++ ZoneGive zone ∷ []) in
          let searches : Searches v steps x = searches_then v w x on.steps (take ∷ [] ++ ZoneGive zone ∷ []) on.searches (searches_then w t x (take ∷ []) (ZoneGive zone ∷ []) took gave) in
          record {
            in_zone = got.in_zone;
            searched = record {
              view = x;
              steps = steps;
              searches = searches;
              kept = kept_by_search v x steps searches;
              there = given t got.won.there;
              reserved = ap (λ (z : View). z.reserved ++ taken_chunks zone first count ∷ []) on.same;
              zones = locks_back w on locked;
              holds = tt;
            };
            clear = λ is.
                let clear : bit_and (occ_in w (Zone zone)) (chunk_bits first count) ≡ 0 = (got.won.found (still_alone v w on.kept is)).0 refl in
                subst (λ word. bit_and word (chunk_bits first count) ≡ 0) (word_same v w on zone is) clear;
            lower = taken_before count first got.lower;
          }
