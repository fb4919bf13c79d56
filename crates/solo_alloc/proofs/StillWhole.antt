-- What a lane that is alone knows of its pool behind a search.
use Rattle.std.proofs.Common.{◌≡◌, ⊎_elim, ℕ, ◌/◌, ◌%◌, true, false, All, List, slice_index, Bool, sym, ap, ◌∙◌, subst}
use Rattle.std.specs.List.{list_any}
use Rattle.std.proofs.lemmas.Bool.{or_cases, or_right}
use Rattle.std.proofs.lemmas.List.Elements.{All-append}
use Rattle.std.proofs.lemmas.List.Folds.{list_any-append}
use Rattle.pm_layout.specs.declared.shape.Shape.{Shape}
use Rattle.solo_view.specs.Blocks.{covers, describes, descriptor_word, is_run}
use Rattle.solo_view.specs.Held.{is_reserved}
use Rattle.solo_view.specs.View.{Taken, View}
use Rattle.solo_world.specs.Heap.{IsOcc}
use Rattle.solo_world.specs.Searches.{HasSearched}
use Rattle.solo_fresh.specs.Filled.{HasWholePool}
use Rattle.solo_fresh.specs.Made.{touches}
use Rattle.solo_blocks.proofs.Searching.{IsLeft, is_searched, left_by_search}
use Rattle.solo_blocks.specs.NewRuns.{MayMakeRun}

module _ (v : View) (shape : Shape) (may : MayMakeRun v shape) (at : View → Type 0) (more : List Taken) (Q : View → Type 0) (searched : HasSearched at v more Q) where
  abbrev w : View
  w = searched.view

  left : IsLeft v w
  left = left_by_search v w searched.steps searched.searches may.alone may.locked

  -- but for what it knows, holds, sees and has reserved it is the view before
  abbrev still : View
  still = record v { known = w.known; run_words = w.run_words; zone_words = w.zone_words; locks = w.locks; zone_locks = w.zone_locks; reserved = w.reserved; seen = w.seen }

  is_still : w ≡ still
  is_still = is_searched v w searched.kept left

  pub words_still : w.words ≡ v.words
  words_still = left.words

  pub lanes_still : w.lanes ≡ v.lanes
  lanes_still = ap (λ (z : View). z.lanes) searched.kept.same

  pub beside_still : (p : ℕ → Bool) → touches p v.changes ≡ false → touches p w.changes ≡ false
  beside_still p none = ap (λ (z : View). touches p z.changes) searched.kept.same ∙ none

  abbrev has : ℕ → List Taken → Type 0
  has u blocks = list_any (λ (t : Taken). covers v.lanes v.words t.at t.bits u) blocks ≡ true

  -- what was got last is reserved
  pub own_still : (u : ℕ) → has u more → is_reserved w u ≡ true
  own_still u there =
      let it = λ (t : Taken). covers v.lanes v.words t.at t.bits u in
      ap (λ (z : View). is_reserved z u) is_still ∙ (ap (list_any it) searched.reserved ∙ (list_any-append it v.reserved more ∙ or_right (list_any it v.reserved) (list_any it more) there))

  pub pool_still : HasWholePool v → All (λ (t : Taken). IsOcc v.lanes v.zones t.at) more
      → ((u : ℕ) → u % 512 ≡ 0 → describes v.lanes u ≡ false → has u more → is_run (slice_index v.words (descriptor_word v.lanes (u / 512))) ≡ false) → HasWholePool w
  pool_still pool of_pool no_run = subst HasWholePool (sym is_still) (record {
    lane = pool.lane;
    size = pool.size;
    of_pool = subst (All (λ (t : Taken). IsOcc v.lanes v.zones t.at)) (sym searched.reserved) (All-append (λ (t : Taken). IsOcc v.lanes v.zones t.at) v.reserved more pool.of_pool of_pool);
    no_bitmap = λ u there plain first.
        let it = λ (t : Taken). covers v.lanes v.words t.at t.bits u in
        ⊎_elim
        (λ (before : has u v.reserved). pool.no_bitmap u before plain first)
        (λ (now : has u more). no_run u first plain now)
        (or_cases (list_any it v.reserved) (list_any it more) (sym (ap (list_any it) searched.reserved ∙ list_any-append it v.reserved more) ∙ there));
  })
