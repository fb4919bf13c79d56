-- A lane that rests: it gives back the chunks that it got, and rests on.
use Rattle.std.proofs.Common.{◌≡◌, ◌⊎◌, ⊎_elim, ℕ, ◌≤◌, ◌&&◌, Bool, true, false, IsTrue, List, [], ◌∷◌, set, slice_index, Result, Ok, Err, IfErr, refl, sym, ap, ◌∙◌, subst, arith}
use Rattle.std.proofs.lemmas.Bool.{false≢true}
use Rattle.std.proofs.lemmas.List.{set-get_or}
use Rattle.pm_image.specs.declared.block.Block.{Block}
use Rattle.pm_layout.specs.declared.shape.Shape.{Shape}
use Rattle.solo_memory.specs.Solo.{Sees, Solo}
use Rattle.pm_objects.specs.declared.refusal.Refusal.{Refusal}
use Rattle.pm_objects.specs.declared.refusal.Refusal.TheVariants as refusal
use Rattle.solo_view.specs.declared.occ.Occ.TheVariants.{Zone}
use Rattle.solo_view.specs.Blocks.{descriptor_word, is_run}
use Rattle.solo_view.specs.Founds.{FoundAlone, IsAlone}
use Rattle.solo_view.specs.Steps.{Step}
use Rattle.solo_view.specs.Steps.Step.{Load, Store, Or, And, Flush, Drain, TakeWrite, TakeRead, Raise, Give, ZoneTry, ZoneGive, Occupied, Occupy, Vacate, Draw, NumberSeen, StopSeen, SetStop, Tell}
use Rattle.solo_view.specs.View.{View, Taken}
use Rattle.solo_view.specs.Views.{after, has_chunk}
use Rattle.solo_world.proofs.Resting.{may_vacate_at_rest, reserved_last}
use Rattle.solo_world.proofs.Searched.{early_still, kept_one, shape_still, still_alone}
use Rattle.solo_world.specs.Searches.{HasSearched, Searches, is_search}
use Rattle.solo_chunks.proofs.ChunkBits.{bits_small}
use Rattle.solo_chunks.specs.Chunks.{HasGot, MayGiveBack, ReserveEnds, chunk_bits, chunk_block, taken_chunks}
use Rattle.solo_chunks.specs.Tests.{Rests}

-- a search by a lane that is alone finds each word as the lane has it
unchanged_by_one : (v : View) (s : Step) → IsTrue (is_search s) → FoundAlone v s → IsAlone v → (after v s).words ≡ v.words
unchanged_by_one v (Load w found) is found_so alone = ap (set v.words w) (found_so alone) ∙ set-get_or v.words w 0
unchanged_by_one v (Occupied at found) is found_so alone = refl
unchanged_by_one v (Occupy at bits won) is found_so alone = refl
unchanged_by_one v (ZoneTry zone won) is found_so alone = refl
unchanged_by_one v (ZoneGive zone) is found_so alone = refl
unchanged_by_one v (Store w x) is found_so alone = absurd (false≢true is)
unchanged_by_one v (Or w bits found) is found_so alone = absurd (false≢true is)
unchanged_by_one v (And w bits found) is found_so alone = absurd (false≢true is)
unchanged_by_one v (Flush line) is found_so alone = absurd (false≢true is)
unchanged_by_one v Drain is found_so alone = absurd (false≢true is)
unchanged_by_one v (TakeWrite line won) is found_so alone = absurd (false≢true is)
unchanged_by_one v (TakeRead line won) is found_so alone = absurd (false≢true is)
unchanged_by_one v (Raise line won) is found_so alone = absurd (false≢true is)
unchanged_by_one v (Give line) is found_so alone = absurd (false≢true is)
unchanged_by_one v (Vacate at bits) is found_so alone = absurd (false≢true is)
unchanged_by_one v (Draw n) is found_so alone = absurd (false≢true is)
unchanged_by_one v (NumberSeen n) is found_so alone = absurd (false≢true is)
unchanged_by_one v (StopSeen set) is found_so alone = absurd (false≢true is)
unchanged_by_one v SetStop is found_so alone = absurd (false≢true is)
unchanged_by_one v (Tell operation reply) is found_so alone = absurd (false≢true is)

unchanged_by_search : (v w : View) (steps : List Step) → IsAlone v → Searches v steps w → w.words ≡ v.words
unfolding Searches
unchanged_by_search v w [] alone searches = ap (λ (z : View). z.words) searches
unchanged_by_search v w (s ∷ steps) alone searches =
    unchanged_by_search (after v s) w steps (still_alone v (after v s) (kept_one v s searches.0 searches.2) alone) searches.4 ∙ unchanged_by_one v s searches.0 searches.3 alone

made_none : (has run : Bool) → run ≡ false → (has && run) ≡ false
made_none true run none = none
made_none false run none = refl

module _ (memory : Solo) (shape : Shape) (rests : Rests memory shape) where
  abbrev v : View
  v = rests.view

  -- behind a search, and once bits of a zone were given back
  rests_on : (new : Solo) (more : List Taken) (Q : View → Type 0) → HasSearched (Sees new) v more Q → Rests new shape
  rests_on new more Q searched = record {
    view = searched.view;
    sees = searched.there;
    may = record {
      shape = shape_still v searched.view searched.kept shape rests.may.shape;
      early = early_still v searched.view searched.kept rests.may.early;
      unlocked = searched.zones ∙ rests.may.unlocked;
    };
    drained = ap (λ (z : View). z.changes) searched.kept.same ∙ rests.drained;
    log = ap (λ (z : View). z.log) searched.kept.same ∙ rests.log;
    alone = still_alone v searched.view searched.kept rests.alone;
    no_run = λ page.
        ap (λ n. is_run (slice_index searched.view.words (descriptor_word n page))) (ap (λ (z : View). z.lanes) searched.kept.same)
        ∙ (ap (λ words. is_run (slice_index words (descriptor_word v.lanes page))) (unchanged_by_search v searched.view searched.steps rests.alone searched.searches) ∙ rests.no_run page);
  }

  -- whatever the search of chunks came to
  pub rests_ended : (new : Solo) (count : ℕ) (result : Result Block Refusal) → IfErr result (λ r. (r ≡ refusal.NoSpace) ⊎ (r ≡ refusal.Busy)) → ReserveEnds (Sees new) v count result → Rests new shape
  rests_ended new count (Ok block) causes got = rests_on new _ _ got.searched
  rests_ended new count (Err r) causes ends = ⊎_elim
      (λ (full : r ≡ refusal.NoSpace). rests_on new _ _ (subst (λ q. ReserveEnds (Sees new) v count (Err q)) full ends))
      (λ (busy : r ≡ refusal.Busy). rests_on new _ _ (subst (λ q. ReserveEnds (Sees new) v count (Err q)) busy ends))
      causes

  pub rests_given : (new : Solo) (zone bits : ℕ) → Sees new (after v (Vacate (Zone zone) bits)) → Rests new shape
  rests_given new zone bits sees = record {
    view = after v (Vacate (Zone zone) bits);
    sees = sees;
    may = record { shape = record { lanes = rests.may.shape.lanes; zones = rests.may.shape.zones; size = rests.may.shape.size }; early = rests.may.early; unlocked = rests.may.unlocked };
    drained = rests.drained;
    log = rests.log;
    alone = rests.alone;
    no_run = rests.no_run;
  }

  module _ (new : Solo) (count : ℕ) (block : Block) (got : HasGot (Sees new) v count block) where
    pub rests_got : Rests new shape
    rests_got = rests_on new _ _ got.searched

    pub got_there : block ≡ chunk_block shape.lanes got.zone got.first count
    got_there = got.is_block ∙ ap (λ lanes. chunk_block lanes got.zone got.first count) rests.may.shape.lanes

    pub may_give_back : shape.zones ≤ 32 → 1 ≤ count → MayGiveBack rests_got.view block
    unfolding rests_got rests_on
    may_give_back few some =
        let w : View = rests_got.view in
        let zones = rests.may.shape.zones in
        let still = rests_got.may.shape.zones in
        let inside = got.in_zones in
        record {
          zone = got.zone;
          first = got.first;
          count = count;
          some = some;
          in_zone = got.in_zone;
          is_block = got_there ∙ ap (λ lanes. chunk_block lanes got.zone got.first count) (sym rests_got.may.shape.lanes);
          may = may_vacate_at_rest w (Zone got.zone) (chunk_bits got.first count) (record { of_pool = omega (arith, zones, still, inside); inside = omega (arith, zones, inside, few) }) (bits_small got.first count got.in_zone)
              (reserved_last w v.reserved (taken_chunks got.zone got.first count) got.searched.reserved) (λ page chunk zone set. made_none (has_chunk w page) _ (rests_got.no_run page)) rests_got.drained rests_got.log;
        }
