-- Words that a lane alone filled, and that are undrained, stay filled where it makes an object, or looks for a block and finds none: nothing else is undrained then.
use Rattle.std.proofs.Common.{◌≡◌, ⊎_elim, ℕ, ◌+◌, ◌*◌, ◌/◌, ◌≤◌, Bool, true, false, eqb, eq-eqb, eqb-true, leb, All, Contains, List, [], ◌∷◌, ◌++◌, refl, sym, ap, ◌∙◌, subst, arith}
use Rattle.std.specs.List.{list_any}
use Rattle.std.proofs.lemmas.Bool.{and_parts, cases_Bool, false≢true, leb-true}
use Rattle.std.proofs.lemmas.List.{append-nil}
use Rattle.std.proofs.lemmas.List.Elements.{All-contains, All-contains_itself, All-weaker}
use Rattle.std.proofs.lemmas.List.Folds.{Any-from_list_any, list_any-from_Any}
use Rattle.pm_header.specs.declared.header.Header.{Header}
use Rattle.pm_image.specs.declared.block.Block.{Block}
use Rattle.pm_layout.specs.declared.class.Class.{Class}
use Rattle.pm_layout.specs.declared.class.Class.TheVariants.{Chunks, Lines}
use Rattle.pm_layout.specs.declared.shape.Shape.{Shape}
use Rattle.pm_objects.specs.declared.pool.PoolView.{PoolView}
use Rattle.pm_objects.specs.declared.refusal.Refusal.TheVariants as refusal
use Rattle.solo_view.specs.declared.change.Change.{Change}
use Rattle.solo_view.specs.Area.Part.{EntryWord, SlotWord}
use Rattle.solo_view.specs.Area.{is_in_area, part_of}
use Rattle.solo_view.specs.Blocks.{chunk_of, covers, describes, is_chunk, tells_nothing, zone_page}
use Rattle.solo_view.specs.Held.{is_reserved}
use Rattle.solo_view.specs.Steps.{Step}
use Rattle.solo_view.specs.View.{Taken, View}
use Rattle.solo_world.specs.Fits.{LaneFits, OpenChange, OpenFits, PhaseFits, ReservedChange}
use Rattle.solo_world.specs.History.{Flies, settled}
use Rattle.solo_world.specs.Lawful.{FilledChange, OnlyFilled}
use Rattle.solo_world.specs.Opening.{Opening}
use Rattle.solo_world.specs.Records.{is_logged}
use Rattle.solo_world.specs.Searches.{HasSearched}
use Rattle.solo_world.proofs.Apart.{area_bounds}
use Rattle.solo_world.proofs.CrashLogs.{not_logged}
use Rattle.solo_world.proofs.Filled.{filled_behind}
use Rattle.solo_world.proofs.HeapWords.{described}
use Rattle.solo_world.proofs.Parts.{entry_part, slot_part}
use Rattle.solo_fresh.specs.Made.{touches}
use Rattle.solo_blocks.specs.AnyBlocks.{HasNoRoom}
use Rattle.solo_blocks.specs.declared.making.NoBlock.TheVariants as no_block
use Rattle.solo_alloc.specs.NewObjects.{CanMakeObject}
use Rattle.solo_alloc.proofs.StillWhole.{words_still}
use Rattle.solo_crash.specs.Alone.{WorksAlone}
use Rattle.solo_crash.proofs.AloneCourse.{StandsAlone}
use Rattle.solo_crash.proofs.AloneMemory.{memory_of}
use Rattle.solo_epoch.specs.Allocating.{MakesObject}
use Rattle.solo_epoch.proofs.GainedObjects.{stood}
use Rattle.solo_epoch.proofs.HeldApart.{reserved_in_none, written_in_block}
use Rattle.solo_epoch.proofs.RoomSteps.{is_filled, is_room, works_made}
use Rattle.solo_epoch.proofs.StandingPools.{own_fits}

-- a chunk's word describes no chunk
describes_none : (lanes w : ℕ) (words : List ℕ) → tells_nothing lanes words w ≡ true → describes lanes w ≡ true → ⊥
describes_none lanes w words plain is =
    let chunk = (and_parts (is_chunk lanes (w / 512)) _ plain).0 in
    let some : 1 ≤ chunk_of lanes (w / 512) = leb-true 1 (chunk_of lanes (w / 512)) (and_parts (leb (zone_page lanes 0) (w / 512)) (leb 1 (chunk_of lanes (w / 512))) chunk).1 in
    let first = (described lanes w is).first in
    omega (arith, some, first)

-- ---- an object was made

module _ (v : View) (shape : Shape) (can : CanMakeObject v shape) (u : View) (size kind : ℕ) (block : Block) (makes : MakesObject v u size kind block) where
  -- a word that has something undrained had it before
  undrained_before : (p : ℕ → Bool) → touches p v.changes ≡ false → touches p u.changes ≡ false
  undrained_before p none = (is_filled v shape can u size kind block makes).beside p ((is_room v shape can u size kind block makes).beside p none)

  none_undrained : (changes : List Change) → touches (λ w. true) changes ≡ false → changes ≡ []
  none_undrained [] none = refl
  none_undrained (c ∷ changes) none = absurd (false≢true (sym none))

  pub drained_still : v.changes ≡ [] → u.changes ≡ []
  drained_still none = none_undrained u.changes (undrained_before (λ w. true) (ap (touches (λ w. true)) none))

  module _ (o : Opening) (header : Header) (pool : PoolView) (start : View) (steps : List Step) (works : WorksAlone o header pool start steps v) (only : OnlyFilled v) where
    at_v : StandsAlone o header pool v
    at_v = stood o header pool start v steps works

    at_u : StandsAlone o header pool u
    at_u = let on = works_made v shape can u size kind block makes o header pool start steps works in stood o header pool start u (steps ++ on.0) on.1

    fits_v : LaneFits o (memory_of v) (settled o at_v.log at_v.decided) (Flies at_v.log at_v.decided 0) 0 v
    fits_v = own_fits o header pool v at_v

    fits_u : LaneFits o (memory_of u) (settled o at_u.log at_u.decided) (Flies at_u.log at_u.decided 0) 0 u
    fits_u = own_fits o header pool u at_u

    open_u : OpenFits u [] []
    open_u = subst (PhaseFits (Flies at_u.log at_u.decided 0) u) (is_filled v shape can u size kind block makes).working.is_open fits_u.phase

    -- the change that the word had
    module _ (c : Change) (there : Contains u.changes c) where
      touched : touches (λ w. eqb w c.word) u.changes ≡ true
      touched = list_any-from_Any (λ (d : Change). eqb d.word c.word) u.changes (there.0, c, there.1, there.2, eq-eqb c.word c.word refl)

      had : touches (λ w. eqb w c.word) v.changes ≡ true
      had = ⊎_elim (λ (so : touches (λ w. eqb w c.word) v.changes ≡ true). so)
          (λ (none : touches (λ w. eqb w c.word) v.changes ≡ false). absurd (false≢true (sym (undrained_before (λ w. eqb w c.word) none) ∙ touched)))
          (cases_Bool (touches (λ w. eqb w c.word) v.changes))

      before : (d : Change) × ((d.word ≡ c.word) × FilledChange v d)
      before =
          let t = Any-from_list_any (λ (d : Change). eqb d.word c.word) v.changes had in
          (t.1, (eqb-true t.1.word c.word t.4, All-contains (FilledChange v) v.changes t.1 only (t.0, t.2, t.3)))

      own : is_reserved v c.word ≡ true
      own = subst (λ w. is_reserved v w ≡ true) before.1.0 before.1.1.may.reserved

      plain : tells_nothing v.lanes v.words c.word ≡ true
      plain = subst (λ w. tells_nothing v.lanes v.words w ≡ true) before.1.0 before.1.1.may.plain

      behind : 512 + 1024 * v.lanes ≤ c.word
      behind = let low = filled_behind v before.0 before.1.1 in let word = before.1.0 in omega (arith, low, word)

      outside : is_in_area u.lane c.word ≡ true → ⊥
      outside area =
          let high = (area_bounds u.lane c.word area).1 in let low = behind in
          let lane = fits_u.lane.lane in let lanes = fits_v.lane.lanes in let some = at_v.goes.in_lanes in
          omega (arith, high, low, lane, lanes, some)

      unlogged : is_logged u c.word ≡ false
      unlogged = not_logged u c.word (λ slot r at covered. absurd (reserved_in_none o header pool v at_v c.word own
          (written_in_block o header pool u at_u c.word ((is_filled v shape can u size kind block makes).working.records.each slot r c.word at covered).own)))

      in_block : ReservedChange u c → FilledChange u c
      in_block of = ⊎_elim
          (λ (silent : tells_nothing u.lanes u.words c.word ≡ true). record { whole = (All-contains (OpenChange u) u.changes c open_u.changes there).whole; may = record { reserved = of.reserved; plain = silent } })
          (λ (told : (describes u.lanes c.word ≡ true) × (c.old ≡ 0)). absurd (describes_none v.lanes c.word v.words plain (ap (λ n. describes n c.word) (fits_v.lane.lanes ∙ sym fits_u.lane.lanes) ∙ told.0)))
          of.plain

      filled_now : FilledChange u c
      filled_now = ⊎_elim
          (λ (slot : part_of u.lane c.word ≡ SlotWord). absurd (outside (slot_part u.lane c.word slot)))
          (⊎_elim
          (λ (entry : part_of u.lane c.word ≡ EntryWord). absurd (outside (entry_part u.lane c.word entry)))
          (⊎_elim
          (λ (logged : is_logged u c.word ≡ true). absurd (false≢true (sym unlogged ∙ logged)))
          in_block))
          (All-contains (OpenChange u) u.changes c open_u.changes there).of

    pub filled_still : OnlyFilled u
    filled_still = All-weaker (Contains u.changes) (FilledChange u) filled_now u.changes (All-contains_itself u.changes)

-- ---- no block was found

module _ (v : View) (shape : Shape) (can : CanMakeObject v shape) (w : View) where
  module _ (Q : View → Type 0) (searched : HasSearched (λ z. z ≡ w) v [] Q) where
    abbrev x : View
    x = searched.view

    same_changes : x.changes ≡ v.changes
    same_changes = ap (λ (z : View). z.changes) searched.kept.same

    same_words : x.words ≡ v.words
    same_words = words_still v shape can.run (λ z. z ≡ w) [] Q searched

    same_lanes : x.lanes ≡ v.lanes
    same_lanes = ap (λ (z : View). z.lanes) searched.kept.same

    still : (c : Change) → FilledChange v c → FilledChange x c
    still c of = record {
      whole = of.whole;
      may = record {
        reserved = (λ j. list_any (λ (t : Taken). covers (same_lanes j) (same_words j) t.at t.bits c.word) ((searched.reserved ∙ append-nil v.reserved) j)) ∙ of.may.reserved;
        plain = (λ j. tells_nothing (same_lanes j) (same_words j) c.word) ∙ of.may.plain;
      };
    }

    searched_same : w.changes ≡ v.changes
    searched_same = ap (λ (z : View). z.changes) (sym searched.there) ∙ same_changes

    searched_filled : OnlyFilled v → OnlyFilled w
    searched_filled only = subst OnlyFilled searched.there (subst (All (FilledChange x)) (sym same_changes) (All-weaker (FilledChange v) (FilledChange x) still v.changes only))

  pub refused_same : (class : Class) → HasNoRoom (λ z. z ≡ w) v class (no_block.Refused refusal.NoSpace) → w.changes ≡ v.changes
  refused_same (Lines lines) none = searched_same _ none.1.searched
  refused_same (Chunks count) none = searched_same _ none.0

  pub refused_filled : (class : Class) → HasNoRoom (λ z. z ≡ w) v class (no_block.Refused refusal.NoSpace) → OnlyFilled v → OnlyFilled w
  refused_filled (Lines lines) none = searched_filled _ none.1.searched
  refused_filled (Chunks count) none = searched_filled _ none.0
