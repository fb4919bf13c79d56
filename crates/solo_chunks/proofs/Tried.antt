-- Chunks of a zone are tried from each place on, by rising place.
use Rattle.std.proofs.Common.{◌≡◌, ◌≢◌, ℕ, ◌+◌, ◌<◌, ◌≤◌, ◌==◌, ◌||◌, Bool, true, false, bit_and, [], ◌∷◌, refl, sym, ap, ◌∙◌, subst, inl, inr, arith, below_more, eq-eqb}
use Rattle.std.specs.List.{list_any}
use Rattle.std.proofs.lemmas.Bool.{false≢true}
use Rattle.solo_view.specs.declared.occ.Occ.TheVariants.{Zone}
use Rattle.solo_view.specs.Founds.{FoundAlone}
use Rattle.solo_view.specs.Steps.Step.{Occupied, Occupy}
use Rattle.solo_view.specs.View.{View}
use Rattle.solo_view.specs.Views.{after, occ_in}
use Rattle.solo_world.proofs.Searched.{alone_before, saw_one, still_alone}
use Rattle.solo_world.specs.Heap.{holds_zone}
use Rattle.solo_world.specs.Lawful.{MayOccupy}
use Rattle.solo_chunks.proofs.ChunkBits.{bits_small, one_set}
use Rattle.solo_chunks.proofs.Searched.{holds_still, looked_lost, looked_none, looked_occupied, looked_then, saw_still, word_same}
use Rattle.solo_chunks.specs.Chunks.{SawOneTaken, chunk_bits}
use Rattle.solo_chunks.specs.Looking.{AreTaken, CanTry, HasGotIn, HasLooked, HasLost, HasNoneBelow, HasWon, HoldsZone, IsOneSet, LookedOn}

-- the lane holds the zone's lock
pub zone_held : (v : View) (zone : ℕ) → v.zone_locks ≡ zone ∷ [] → holds_zone v zone ≡ true
zone_held v zone locked = ap (list_any (λ held. held == zone)) locked ∙ ap (λ b. b || false) (eq-eqb zone zone refl)

pub may_occupy : (v : View) (zone first count : ℕ) → first + count ≤ 64 → HoldsZone v zone → MayOccupy v (Zone zone) (chunk_bits first count)
may_occupy v zone first count within is = record {
  there = is.there;
  small = bits_small first count within;
  one = (first, count, refl);
  locked = zone_held v zone is.locked;
  run = tt;
  early = is.early;
}

-- the bits were tried so
abbrev pub IsTried : (View → Type 0) → View → ℕ → ℕ → Bool → Type 0
IsTried at v zone bits won = at (after v (Occupy (Zone zone) bits won)) × FoundAlone v (Occupy (Zone zone) bits won)

pub tried_as : (at : View → Type 0) (v : View) (zone bits tried : ℕ) (won got : Bool) → bits ≡ tried → won ≡ got → IsTried at v zone bits won → IsTried at v zone tried got
tried_as at v zone bits tried won got same so is = subst (λ w. IsTried at v zone tried w) so (subst (λ b. IsTried at v zone b won) same is)

module _ (at : View → Type 0) (v : View) (zone found first count : ℕ) (can : CanTry v zone found) where
  -- one of the chunks was taken in the word that was read
  pub lost_untried : at v → bit_and found (chunk_bits first count) ≢ 0 → HasLost at v zone first count
  lost_untried there some =
      let one : IsOneSet found first count = one_set found first count some in
      record {
        looks = record { view = v; looked = looked_none v; locks = refl; there = there; holds = inl (one.chunk, (one.low, one.high, (found, (can.saw, one.set)))) };
        taken = λ is. subst (λ word. IsOneSet word first count) (can.alone is) one;
      }

  -- their bits were tried, and not got
  pub lost_tried : first + count ≤ 64 → IsTried at v zone (chunk_bits first count) false → bit_and found (chunk_bits first count) ≡ 0 → HasLost at v zone first count
  lost_tried within (there, alone) clear = record {
    looks = record {
      view = after v (Occupy (Zone zone) (chunk_bits first count) false);
      looked = looked_lost v zone (chunk_bits first count) (may_occupy v zone first count within can.holds) alone;
      locks = refl;
      there = there;
      holds = inr (saw_one (Occupy (Zone zone) (chunk_bits first count) false) v.seen);
    };
    taken = λ is. absurd (false≢true ((alone is).1 (ap (λ word. bit_and word (chunk_bits first count)) (sym (can.alone is)) ∙ clear)));
  }

  pub won_tried : first + count ≤ 64 → IsTried at v zone (chunk_bits first count) true → HasWon at v zone first count
  won_tried within (there, alone) = record { may = may_occupy v zone first count within can.holds; there = there; found = alone }

-- of so many chunks from any of the first n on one was seen taken, and the zone's word may be tried on
pub record HasTried (at : View → Type 0) (v : View) (zone count found n : ℕ) : Type 0 where
  pub looks : HasLooked at v (λ w. CanTry w zone found × ((first : ℕ) → first < n → SawOneTaken w zone first count))
  pub taken : AreTaken v zone count n

module _ (at : View → Type 0) (v : View) (zone count found : ℕ) where
  pub tries_none : at (after v (Occupied (Zone zone) found)) → FoundAlone v (Occupied (Zone zone) found) → HoldsZone v zone → HasTried at v zone count found 0
  tries_none there alone is =
      let w : View = after v (Occupied (Zone zone) found) in
      let looked : LookedOn v w = looked_occupied v zone found is.there alone in
      record {
        looks = record {
          view = w;
          looked = looked;
          locks = refl;
          there = there;
          holds = (
            record {
              holds = holds_still v w looked zone refl is;
              saw = saw_one (Occupied (Zone zone) found) v.seen;
              alone = λ lone. let is = alone_before v w looked.kept lone in alone is ∙ sym (word_same v w looked zone is);
            },
            λ first low. absurd (omega (arith, low)),
          );
        };
        taken = λ lone first low. absurd (omega (arith, low));
      }

  module _ (old : View → Type 0) (n : ℕ) (tried : HasTried old v zone count found n) where
    abbrev pub from : View
    from = tried.looks.view

    pub tries_more : HasLost at from zone n count → HasTried at v zone count found (n + 1)
    tries_more lost =
        let w : View = lost.looks.view in
        let on : LookedOn from w = lost.looks.looked in
        let can : CanTry from zone found = tried.looks.holds.0 in
        record {
          looks = record {
            view = w;
            looked = looked_then v from w tried.looks.looked on;
            locks = lost.looks.locks ∙ tried.looks.locks;
            there = lost.looks.there;
            holds = (
              record {
                holds = holds_still from w on zone lost.looks.locks can.holds;
                saw = on.kept.remembers _ can.saw;
                alone = λ lone. let is = alone_before from w on.kept lone in can.alone is ∙ sym (word_same from w on zone is);
              },
              below_more (λ first. SawOneTaken w zone first count) n (λ first low. saw_still from w on zone first count (tried.looks.holds.1 first low)) lost.looks.holds,
            );
          };
          taken = λ lone. below_more (λ first. IsOneSet (occ_in v (Zone zone)) first count) n (tried.taken lone)
              (subst (λ word. IsOneSet word n count) (word_same v from tried.looks.looked zone lone) (lost.taken (still_alone v from tried.looks.looked.kept lone)));
        }

    pub tries_won : n + count ≤ 64 → HasWon at from zone n count → HasGotIn at v zone n count
    tries_won within won = record { in_zone = within; from = from; looked = tried.looks.looked; locks = tried.looks.locks; won = won; lower = tried.taken }

    pub tries_end : (m : ℕ) → m ≤ n → HasNoneBelow old v zone count m
    tries_end m low = record {
      looks = record { view = tried.looks.view; looked = tried.looks.looked; locks = tried.looks.locks; there = tried.looks.there; holds = λ first below. tried.looks.holds.1 first (omega (arith, below, low)) };
      taken = λ lone first below. tried.taken lone first (omega (arith, below, low));
    }
