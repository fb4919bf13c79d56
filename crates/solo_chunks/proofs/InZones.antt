-- The zones are searched one after another.
use Rattle.std.proofs.Common.{◌≡◌, ⊎_elim, ℕ, ◌+◌, ◌-◌, ◌*◌, ◌<◌, ◌≤◌, false, Contains, List, [], ◌∷◌, ◌++◌, refl, sym, ap, ◌∙◌, subst, arith, append-nil, below_more}
use Rattle.std.specs.Int.{bit_at}
use Rattle.pm_image.specs.declared.block.Block.{Block}
use Rattle.pm_layout.specs.Layout.{chunk_place}
use Rattle.pm_layout.specs.declared.shape.Shape.{Shape}
use Rattle.solo_view.specs.declared.occ.Occ.TheVariants.{Zone}
use Rattle.solo_view.specs.Founds.{IsAlone}
use Rattle.solo_view.specs.Steps.Step.{ZoneTry}
use Rattle.solo_view.specs.View.{View, Taken}
use Rattle.solo_view.specs.Views.{occ_in}
use Rattle.solo_world.proofs.Searched.{early_still, kept_then, searches_then, shape_still, still_alone}
use Rattle.solo_world.specs.Searches.{HasSearched}
use Rattle.solo_chunks.proofs.ChunkBits.{clear_inside}
use Rattle.solo_chunks.proofs.Searched.{looked_none, looked_then, saw_still, word_same}
use Rattle.solo_chunks.specs.Chunks.{AreFree, AreLeastFree, HasFoundNone, HasGot, IsBefore, IsBusy, MaySearch, SawNoneIn, chunk_block, taken_chunks}
use Rattle.solo_chunks.specs.Looking.{AreTaken, HasGotOf, HasLooked, HasNoneOf, IsOneSet, IsRefused, LookedOn}

-- the first n zones were seen to have none
pub record HasNoneBefore (at : View → Type 0) (v : View) (count n : ℕ) : Type 0 where
  pub looks : HasLooked at v (λ w. (zone : ℕ) → zone < n → SawNoneIn w zone count)
  pub taken : (zone : ℕ) → zone < n → AreTaken v zone count (65 - count)

pub may_still : (v w : View) (shape : Shape) → LookedOn v w → w.zone_locks ≡ v.zone_locks → MaySearch v shape → MaySearch w shape
may_still v w shape looked locks may = record {
  shape = shape_still v w looked.kept shape may.shape;
  early = early_still v w looked.kept may.early;
  unlocked = locks ∙ may.unlocked;
}

pub none_first : (at : View → Type 0) (v : View) (count : ℕ) → at v → HasNoneBefore at v count 0
none_first at v count there = record {
  looks = record { view = v; looked = looked_none v; locks = refl; there = there; holds = λ zone low. absurd (omega (arith, low)) };
  taken = λ zone low. absurd (omega (arith, low));
}

-- looks, and a search after them
searched_looks : (at : View → Type 0) (v : View) (Q : View → Type 0) → HasLooked at v Q → HasSearched at v [] Q
searched_looks at v Q looks = record {
  view = looks.view;
  steps = looks.looked.steps;
  searches = looks.looked.searches;
  kept = looks.looked.kept;
  there = looks.there;
  reserved = ap (λ (z : View). z.reserved) looks.looked.same ∙ sym (append-nil v.reserved);
  zones = looks.locks;
  holds = looks.holds;
}

searched_then : (at : View → Type 0) (v w : View) (more : List Taken) (Q : View → Type 0) → LookedOn v w → w.zone_locks ≡ v.zone_locks → HasSearched at w more Q → HasSearched at v more Q
searched_then at v w more Q looked locks searched = record {
  view = searched.view;
  steps = looked.steps ++ searched.steps;
  searches = searches_then v w searched.view looked.steps searched.steps looked.searches searched.searches;
  kept = kept_then v w searched.view looked.kept searched.kept;
  there = searched.there;
  reserved = searched.reserved ∙ ap (λ (z : View). z.reserved ++ more) looked.same;
  zones = searched.zones ∙ locks;
  holds = searched.holds;
}

pub place_is : (lanes zone first count place : ℕ) → place ≡ chunk_place lanes zone first → (let b : Block = record { place = place; lines = 64 * count } in b) ≡ chunk_block lanes zone first count
place_is lanes zone first count place is =
    let same : place ≡ 4096 * (2 + 2 * lanes + 65 * zone + first) = omega (arith, is) in
    ap (λ p. let b : Block = record { place = p; lines = 64 * count } in b) same

module _ (v : View) (count n : ℕ) (old : View → Type 0) (none : HasNoneBefore old v count n) where
  abbrev pub from : View
  from = none.looks.view

  taken_here : (k : ℕ) → AreTaken from n count k → AreTaken v n count k
  taken_here k taken = λ is first low.
      subst (λ word. IsOneSet word first count) (word_same v from none.looks.looked n is) (taken (still_alone v from none.looks.looked.kept is) first low)

  pub none_more : (at : View → Type 0) → HasNoneOf at from n count → HasNoneBefore at v count (n + 1)
  none_more at here =
      let w : View = here.looks.view in
      let on : LookedOn from w = here.looks.looked in
      record {
        looks = record {
          view = w;
          looked = looked_then v from w none.looks.looked on;
          locks = here.looks.locks ∙ none.looks.locks;
          there = here.looks.there;
          holds = below_more (λ zone. SawNoneIn w zone count) n (λ zone low first within. saw_still from w on zone first count (none.looks.holds zone low first within)) here.looks.holds;
        };
        taken = below_more (λ zone. AreTaken v zone count (65 - count)) n none.taken (taken_here (65 - count) here.taken);
      }

  pub found_none : v.zones ≤ n → HasFoundNone old v count
  found_none all = searched_looks old v (λ w. (zone : ℕ) → zone < v.zones → SawNoneIn w zone count) (record {
    view = from;
    looked = none.looks.looked;
    locks = none.looks.locks;
    there = none.looks.there;
    holds = λ zone low. none.looks.holds zone (omega (arith, low, all));
  })

  pub least_none : v.zones ≤ n → IsAlone v → (zone first : ℕ) → AreFree v count zone first → ⊥
  least_none all is zone first free =
      let low = free.in_zones in
      let within = free.in_zone in
      let one : IsOneSet (occ_in v (Zone zone)) first count = none.taken zone (omega (arith, low, all)) is first (omega (arith, within)) in
      free.clear one.chunk one.low one.high one.set

  module _ (inside : n < v.zones) (at : View → Type 0) where
    pub is_busy : IsRefused at from n → IsBusy at v
    is_busy refused = searched_then at v from [] (λ w. (zone : ℕ) × ((zone < v.zones) × Contains w.seen (ZoneTry zone false))) none.looks.looked none.looks.locks
        (searched_looks at from (λ w. (zone : ℕ) × ((zone < v.zones) × Contains w.seen (ZoneTry zone false))) (record {
          view = refused.looks.view;
          looked = refused.looks.looked;
          locks = refused.looks.locks;
          there = refused.looks.there;
          holds = (n, (inside, refused.looks.holds));
        }))

    pub never_busy : IsRefused at from n → IsAlone v → ⊥
    never_busy refused is = refused.apart (still_alone v from none.looks.looked.kept is)

    module _ (first : ℕ) (got : HasGotOf at from n first count) (block : Block) (is_block : block ≡ chunk_block v.lanes n first count) where
      pub has_got : HasGot at v count block
      has_got = record {
        zone = n;
        first = first;
        in_zones = inside;
        in_zone = got.in_zone;
        is_block = is_block;
        searched = searched_then at v from (taken_chunks n first count ∷ []) (λ w. Unit {0}) none.looks.looked none.looks.locks got.searched;
      }

      are_free : IsAlone v → AreFree v count n first
      are_free is = record {
        in_zones = inside;
        in_zone = got.in_zone;
        clear = λ chunk low high set.
            let zero = clear_inside first count (occ_in from (Zone n)) (got.clear (still_alone v from none.looks.looked.kept is)) chunk low high in
            let same = ap (λ word. bit_at word chunk) (word_same v from none.looks.looked n is) in
            omega (arith, zero, same, set);
      }

      -- no chunks before them are free
      none_before : IsAlone v → (other place : ℕ) → IsBefore other place n first → AreFree v count other place → ⊥
      none_before is other place before free = ⊎_elim
          (λ (lower : other < n).
          let within = free.in_zone in
          let one : IsOneSet (occ_in v (Zone other)) place count = none.taken other lower is place (omega (arith, within)) in
          free.clear one.chunk one.low one.high one.set)
          (λ (same : (other ≡ n) × (place < first)).
          let here : AreFree v count n place = subst (λ z. AreFree v count z place) same.0 free in
          let one : IsOneSet (occ_in v (Zone n)) place count = taken_here first got.lower is place same.1 in
          here.clear one.chunk one.low one.high one.set)
          before

      pub are_least : IsAlone v → AreLeastFree v count block
      are_least is = record { zone = n; first = first; is_block = is_block; free = are_free is; least = none_before is }
