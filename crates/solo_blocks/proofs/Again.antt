-- A search that reserved nothing leaves a lane that is alone as it was: what is made behind it is made behind the view before it.
use Rattle.std.proofs.Common.{◌≡◌, ℕ, ◌+◌, ◌<◌, ◌≤◌, true, false, IsTrue, List, [], ◌∷◌, ◌++◌, length, set, length-append, append-nil, Result, Ok, Err, IfOk, IfErr, refl, sym, ap, ◌∙◌, subst, arith}
use Rattle.std.proofs.lemmas.Bool.{false≢true}
use Rattle.std.proofs.lemmas.List.{set-get_or}
use Rattle.pm_image.specs.declared.block.Block.{Block}
use Rattle.pm_layout.specs.declared.shape.Shape.{Shape}
use Rattle.pm_objects.specs.declared.refusal.Refusal.{Refusal}
use Rattle.pm_objects.specs.declared.refusal.Refusal.TheVariants as refusal
use Rattle.solo_view.specs.declared.occ.Occ.{Occ}
use Rattle.solo_view.specs.declared.occ.Occ.TheVariants.{Run, Zone}
use Rattle.solo_view.specs.Founds.{FoundAlone, IsAlone}
use Rattle.solo_view.specs.Steps.{Step}
use Rattle.solo_view.specs.Steps.Step.{Load, Store, Or, And, Flush, Drain, TakeWrite, TakeRead, Raise, Give, ZoneTry, ZoneGive, Occupied, Occupy, Vacate, Draw, NumberSeen, StopSeen, SetStop, Tell}
use Rattle.solo_view.specs.View.{Taken, View}
use Rattle.solo_view.specs.Views.{after, occ_in, runs_with, zones_with}
use Rattle.solo_world.proofs.Searched.{kept_one, kept_then, searches_then, still_alone}
use Rattle.solo_world.specs.Searches.{HasSearched, Searches, is_search}
use Rattle.solo_chunks.specs.Chunks.{AreFree, AreLeastFree, chunk_block}
use Rattle.solo_blocks.proofs.Searching.{IsLeft, is_searched, left_by_search}
use Rattle.solo_blocks.specs.declared.making.NoBlock.{NoBlock}
use Rattle.solo_blocks.specs.declared.making.NoBlock.TheVariants as no_block
use Rattle.solo_blocks.specs.NewRuns.{GivesNone, HasNewRun, MayMakeRun, first_block}

-- the pictures of the occupancy words are the same
pub record HasPictures (v w : View) : Type 0 where
  pub runs : w.run_words ≡ v.run_words
  pub zones : w.zone_words ≡ v.zone_words

runs_same : (at : Occ) (v : View) → runs_with at (occ_in v at) v.run_words ≡ v.run_words
runs_same (Run place) v = set-get_or v.run_words _ 0
runs_same (Zone zone) v = refl

zones_same : (at : Occ) (v : View) → zones_with at (occ_in v at) v.zone_words ≡ v.zone_words
zones_same (Run place) v = refl
zones_same (Zone zone) v = set-get_or v.zone_words zone 0

one_more : (blocks : List Taken) (t : Taken) → length (blocks ++ t ∷ []) ≡ length blocks + 1
one_more blocks t = length-append blocks (t ∷ [])

-- one step reserves no less, and where it reserves nothing it keeps the pictures
reserves_more : (v : View) (s : Step) → IsTrue (is_search s) → length v.reserved ≤ length (after v s).reserved
reserves_more v (Load w x) is = omega arith
reserves_more v (Occupied at found) is = omega arith
reserves_more v (Occupy at bits true) is = let more = one_more v.reserved (record { at = at; bits = bits }) in omega (arith, more)
reserves_more v (Occupy at bits false) is = omega arith
reserves_more v (ZoneTry zone won) is = omega arith
reserves_more v (ZoneGive zone) is = omega arith
reserves_more v (Store w x) is = absurd (false≢true is)
reserves_more v (Or w bits found) is = absurd (false≢true is)
reserves_more v (And w bits found) is = absurd (false≢true is)
reserves_more v (Flush line) is = absurd (false≢true is)
reserves_more v Drain is = absurd (false≢true is)
reserves_more v (TakeWrite line won) is = absurd (false≢true is)
reserves_more v (TakeRead line won) is = absurd (false≢true is)
reserves_more v (Raise line won) is = absurd (false≢true is)
reserves_more v (Give line) is = absurd (false≢true is)
reserves_more v (Vacate at bits) is = absurd (false≢true is)
reserves_more v (Draw n) is = absurd (false≢true is)
reserves_more v (NumberSeen n) is = absurd (false≢true is)
reserves_more v (StopSeen set) is = absurd (false≢true is)
reserves_more v SetStop is = absurd (false≢true is)
reserves_more v (Tell operation reply) is = absurd (false≢true is)

pub pictures_one : (v : View) (s : Step) → IsTrue (is_search s) → FoundAlone v s → IsAlone v → length (after v s).reserved ≡ length v.reserved → HasPictures v (after v s)
pictures_one v (Load w x) is found_so alone none = record { runs = refl; zones = refl }
pictures_one v (Occupied at found) is found_so alone none =
    record { runs = ap (λ x. runs_with at x v.run_words) (found_so alone) ∙ runs_same at v; zones = ap (λ x. zones_with at x v.zone_words) (found_so alone) ∙ zones_same at v }
pictures_one v (Occupy at bits true) is found_so alone none = absurd (let more = one_more v.reserved (record { at = at; bits = bits }) in omega (arith, more, none))
pictures_one v (Occupy at bits false) is found_so alone none = record { runs = runs_same at v; zones = zones_same at v }
pictures_one v (ZoneTry zone won) is found_so alone none = record { runs = refl; zones = refl }
pictures_one v (ZoneGive zone) is found_so alone none = record { runs = refl; zones = refl }
pictures_one v (Store w x) is found_so alone none = absurd (false≢true is)
pictures_one v (Or w bits found) is found_so alone none = absurd (false≢true is)
pictures_one v (And w bits found) is found_so alone none = absurd (false≢true is)
pictures_one v (Flush line) is found_so alone none = absurd (false≢true is)
pictures_one v Drain is found_so alone none = absurd (false≢true is)
pictures_one v (TakeWrite line won) is found_so alone none = absurd (false≢true is)
pictures_one v (TakeRead line won) is found_so alone none = absurd (false≢true is)
pictures_one v (Raise line won) is found_so alone none = absurd (false≢true is)
pictures_one v (Give line) is found_so alone none = absurd (false≢true is)
pictures_one v (Vacate at bits) is found_so alone none = absurd (false≢true is)
pictures_one v (Draw n) is found_so alone none = absurd (false≢true is)
pictures_one v (NumberSeen n) is found_so alone none = absurd (false≢true is)
pictures_one v (StopSeen set) is found_so alone none = absurd (false≢true is)
pictures_one v SetStop is found_so alone none = absurd (false≢true is)
pictures_one v (Tell operation reply) is found_so alone none = absurd (false≢true is)

all_more : (v w : View) (steps : List Step) → Searches v steps w → length v.reserved ≤ length w.reserved
unfolding Searches
all_more v w [] searches = let same = ap (λ (z : View). length z.reserved) searches in omega (arith, same)
all_more v w (s ∷ steps) searches =
    let first = reserves_more v s searches.0 in
    let rest = all_more (after v s) w steps searches.4 in
    omega (arith, first, rest)

pub pictures_kept : (v w : View) (steps : List Step) → Searches v steps w → IsAlone v → length w.reserved ≡ length v.reserved → HasPictures v w
unfolding Searches
pictures_kept v w [] searches alone none = subst (HasPictures v) (sym searches) (record { runs = refl; zones = refl })
pictures_kept v w (s ∷ steps) searches alone none =
    let first = reserves_more v s searches.0 in
    let rest = all_more (after v s) w steps searches.4 in
    let one : HasPictures v (after v s) = pictures_one v s searches.0 searches.3 alone (omega (arith, first, rest, none)) in
    let others : HasPictures (after v s) w = pictures_kept (after v s) w steps searches.4 (still_alone v (after v s) (kept_one v s searches.0 searches.2) alone) (omega (arith, first, rest, none)) in
    record { runs = others.runs ∙ one.runs; zones = others.zones ∙ one.zones }

-- ---- a search that reserved nothing, and what comes behind it

module _ (v : View) (shape : Shape) (may : MayMakeRun v shape) (at : View → Type 0) (Q : View → Type 0) (searched : HasSearched at v [] Q) where
  abbrev w : View
  w = searched.view

  reserved_same : w.reserved ≡ v.reserved
  reserved_same = searched.reserved ∙ append-nil v.reserved

  left : IsLeft v w
  left = left_by_search v w searched.steps searched.searches may.alone may.locked

  pictures : HasPictures v w
  pictures = pictures_kept v w searched.steps searched.searches may.alone (ap (length {A = Taken}) reserved_same)

  abbrev still : View
  still = record v { known = w.known; locks = w.locks; seen = w.seen }

  is_still : w ≡ still
  is_still = is_searched v w searched.kept left
      ∙ (λ i. record still { run_words = pictures.runs i; zone_words = pictures.zones i; zone_locks = searched.zones i; reserved = reserved_same i })

  -- what was searched behind it was searched behind the view before
  then : (new : View → Type 0) (more : List Taken) (P R : View → Type 0) → ((z : View) → P z → R z) → HasSearched new w more P → HasSearched new v more R
  then new more P R weaker last = record {
    view = last.view;
    steps = searched.steps ++ last.steps;
    searches = searches_then v w last.view searched.steps last.steps searched.searches last.searches;
    kept = kept_then v w last.view searched.kept last.kept;
    there = last.there;
    reserved = last.reserved ∙ ap (λ blocks. blocks ++ more) reserved_same;
    zones = last.zones ∙ searched.zones;
    holds = weaker last.view last.holds;
  }

  free_as : (zone chunk : ℕ) → AreFree v 1 zone chunk → AreFree still 1 zone chunk
  free_as zone chunk free = record { in_zones = free.in_zones; in_zone = free.in_zone; clear = free.clear }

  free_then : (zone chunk : ℕ) → AreFree v 1 zone chunk → AreFree w 1 zone chunk
  free_then zone chunk free = subst (λ z. AreFree z 1 zone chunk) (sym is_still) (free_as zone chunk free)

  least_before : (block : Block) → AreLeastFree w 1 block → AreLeastFree v 1 block
  least_before block least =
      let here : AreLeastFree still 1 block = subst (λ z. AreLeastFree z 1 block) is_still least in
      record {
        zone = here.zone;
        first = here.first;
        is_block = here.is_block;
        free = record { in_zones = here.free.in_zones; in_zone = here.free.in_zone; clear = here.free.clear };
        least = λ other place before free. here.least other place before (free_as other place free);
      }

  lanes_same : w.lanes ≡ v.lanes
  lanes_same = ap (λ (z : View). z.lanes) is_still

  zones_now : w.zones ≡ v.zones
  zones_now = ap (λ (z : View). z.zones) is_still

  least_there : (zone chunk : ℕ) → AreLeastFree w 1 (chunk_block w.lanes zone chunk 1) → AreLeastFree v 1 (chunk_block v.lanes zone chunk 1)
  least_there zone chunk least = subst (λ lanes. AreLeastFree v 1 (chunk_block lanes zone chunk 1)) lanes_same (least_before (chunk_block w.lanes zone chunk 1) least)

  module _ (new : View → Type 0) (lines : ℕ) where
    pub new_run_then : (block : Block) → HasNewRun new w lines block → HasNewRun new v lines block
    new_run_then block run = record {
      zone = run.zone;
      chunk = run.chunk;
      in_zone = run.in_zone;
      is_block = run.is_block ∙ ap (λ lanes. first_block lanes run.zone run.chunk lines) lanes_same;
      least = least_there run.zone run.chunk run.least;
      made = then _ _ _ _ (λ z holds. holds) run.made;
    }

    pub none_then : (why : NoBlock) → GivesNone new w lines why → GivesNone new v lines why
    none_then (no_block.Refused r) gives = refused r gives where
      refused : (r : Refusal) → GivesNone new w lines (no_block.Refused r) → GivesNone new v lines (no_block.Refused r)
      refused refusal.NoSpace none = record {
        searched = then _ _ _ _ (λ z saw zone inside. saw zone (subst (λ n. zone < n) (sym zones_now) inside)) none.searched;
        none = λ zone chunk free. none.none zone chunk (free_then zone chunk free);
      }
      refused r none = none
    none_then (no_block.Stopped stopped) gives = record {
      zone = gives.zone;
      chunk = gives.chunk;
      in_zone = gives.in_zone;
      least = least_there gives.zone gives.chunk gives.least;
      made = then _ _ _ _ (λ z holds. holds) gives.made;
    }

-- ---- what holds of an answer

pub ok_leads : {T E : Type 0} (P Q : T → Type 0) (r : Result T E) → ((x : T) → P x → Q x) → IfOk r P → IfOk r Q
ok_leads P Q (Ok x) leads is = leads x is
ok_leads P Q (Err e) leads is = tt

pub err_leads : {T E : Type 0} (P Q : E → Type 0) (r : Result T E) → ((e : E) → P e → Q e) → IfErr r P → IfErr r Q
err_leads P Q (Ok x) leads is = tt
err_leads P Q (Err e) leads is = leads e is
