-- A lane that rests: it keeps the blocks that it has while it searches on, and gives one back after another.
use Rattle.std.proofs.Common.{◌≡◌, ◌≢◌, ⊎_elim, ℕ, ◌*◌, ◌/◌, ◌^◌, ◌<◌, Bool, true, false, cond, All, List, [], ◌∷◌, ◌++◌, refl, sym, ap, ◌∙◌, subst, arith}
use Rattle.std.specs.Int.{bit_at}
use Rattle.std.specs.List.{list_any}
use Rattle.std.proofs.lemmas.Bool.{cases_eq, false≢true, or_left}
use Rattle.std.proofs.lemmas.List.Elements.{All-nil, All-push, All-weaker}
use Rattle.std.proofs.lemmas.List.Folds.{list_any-append}
use Rattle.std.proofs.lemmas.Nat.{pow_below}
use Rattle.std.proofs.lemmas.Nat.Bits.{bit_at-pow_other, bit_at-pow_same}
use Rattle.pm_image.specs.declared.block.Block.{Block}
use Rattle.pm_layout.specs.declared.shape.Shape.{Shape}
use Rattle.pm_layout.specs.Sizes.{blocks_of}
use Rattle.solo_memory.specs.Solo.{Sees, Solo}
use Rattle.solo_view.specs.declared.change.Change.{Change}
use Rattle.solo_view.specs.declared.occ.Occ.{Occ}
use Rattle.solo_view.specs.declared.occ.Occ.TheVariants.{Run, Zone}
use Rattle.solo_view.specs.Blocks.{covers, zone_of}
use Rattle.solo_view.specs.Steps.Step.{Vacate}
use Rattle.solo_view.specs.View.{View, Taken}
use Rattle.solo_view.specs.Views.{after, all_of_run, chunk_bit, exchanged, has_bit, is_made, reserves, without_taken, zone_at}
use Rattle.solo_world.proofs.Resting.{may_vacate_at_rest, reserved_before, reserved_last}
use Rattle.solo_world.proofs.Searched.{early_still, shape_still}
use Rattle.solo_world.proofs.Vacated.{vacated_after}
use Rattle.solo_world.specs.Lawful.{HasOcc, IsGivenWhole}
use Rattle.solo_world.specs.Searches.{HasSearched}
use Rattle.solo_runs.proofs.Rows.{index_low}
use Rattle.solo_runs.proofs.SearchedRuns.{has_occ}
use Rattle.solo_runs.specs.Runs.{HasFoundNone, HasGot, MayGiveBack, page_of, run_block, run_of, taken_block}
use Rattle.solo_runs.specs.Tests.{HoldsAll, IsMine, Rests}

-- the view has the block, by its bit
mine_on : (v w : View) (class : ℕ) (block : Block) → w.lanes ≡ v.lanes → w.zones ≡ v.zones → (m : IsMine v class block) → reserves w (run_of v.lanes m.chunk) m.index ≡ true → IsMine w class block
mine_on v w class block lanes zones m own = record {
  chunk = m.chunk;
  index = m.index;
  in_zones = (let inside = m.in_zones in omega (arith, zones, inside));
  in_run = m.in_run;
  is_block = m.is_block ∙ ap (λ n. run_block n m.chunk class m.index) (sym lanes);
  own = ap (λ n. reserves w (run_of n m.chunk) m.index) lanes ∙ own;
}

module _ (memory : Solo) (shape : Shape) (rests : Rests memory shape) (new : Solo) where
  abbrev v : View
  v = rests.view

  rests_searched : (more : List Taken) (Q : View → Type 0) → HasSearched (Sees new) v more Q → Rests new shape
  rests_searched more Q searched = record {
    view = searched.view;
    sees = searched.there;
    may = record { of_shape = shape_still v searched.view searched.kept shape rests.may.of_shape; early = early_still v searched.view searched.kept rests.may.early };
    drained = ap (λ (z : View). z.changes) searched.kept.same ∙ rests.drained;
    log = ap (λ (z : View). z.log) searched.kept.same ∙ rests.log;
  }

  mine_searched : (more : List Taken) (Q : View → Type 0) (searched : HasSearched (Sees new) v more Q) (class : ℕ) (block : Block) → IsMine v class block → IsMine searched.view class block
  mine_searched more Q searched class block m =
      mine_on v searched.view class block (ap (λ (z : View). z.lanes) searched.kept.same) (ap (λ (z : View). z.zones) searched.kept.same) m
      (reserved_before searched.view v.reserved more searched.reserved (run_of v.lanes m.chunk) m.index m.own)

-- what it has it has behind a search, and the block that was got besides
module _ (memory : Solo) (shape : Shape) (class : ℕ) (blocks : List Block) (holds : HoldsAll memory shape class blocks) (new : Solo) where
  abbrev from : View
  from = holds.rests.view

  pub holds_none : HasFoundNone (Sees new) from class → HoldsAll new shape class blocks
  unfolding rests_searched
  holds_none searched = record {
    rests = rests_searched memory shape holds.rests new _ _ searched;
    mine = All-weaker (IsMine from class) (IsMine searched.view class) (mine_searched memory shape holds.rests new _ _ searched class) blocks holds.mine;
  }

  pub holds_more : (block : Block) → HasGot (Sees new) from block × (block.lines ≡ class) → HoldsAll new shape class (blocks ++ block ∷ [])
  unfolding rests_searched
  holds_more block (got, lines) =
      let w : View = got.searched.view in
      let same = got.searched.kept.same in
      let of_class : IsMine w class block = record {
        chunk = got.chunk;
        index = got.index;
        in_zones = (let inside = got.in_zones in let zones = ap (λ (z : View). z.zones) same in omega (arith, zones, inside));
        in_run = subst (λ n. got.index < blocks_of n) lines got.in_run;
        is_block = got.is_block ∙ ap (λ n. run_block from.lanes got.chunk n got.index) lines ∙ ap (λ n. run_block n got.chunk class got.index) (sym (ap (λ (z : View). z.lanes) same));
        own = ap (λ n. reserves w (run_of n got.chunk) got.index) (ap (λ (z : View). z.lanes) same)
            ∙ reserved_last w from.reserved (taken_block from.lanes got.chunk got.index) got.searched.reserved got.index (bit_at-pow_same got.index);
      } in
      record {
        rests = rests_searched memory shape holds.rests new _ _ got.searched;
        mine = All-push (IsMine w class) blocks block (All-weaker (IsMine from class) (IsMine w class) (mine_searched memory shape holds.rests new _ _ got.searched class) blocks holds.mine) of_class;
      }

-- ---- a block is given back

is_zone : Occ → Bool
is_zone (Run place) = false
is_zone (Zone zone) = true

no_zone : (place zone : ℕ) → Run place ≡ Zone zone → ⊥
unfolding is_zone
no_zone place zone same = false≢true (ap is_zone same)

-- what a lane has of runs it has still as it gives back blocks of one
run_kept : (v : View) (place other bit : ℕ) → bit < 64 → reserves v (Run other) bit ≡ true → list_any (has_bit (Run other) bit) (exchanged v (Run place)) ≡ true
run_kept v place other bit low own = at (is_made v page) where
  page : ℕ
  page = place / 4096

  left : List Taken
  left = without_taken (zone_at v.lanes page) (2 ^ chunk_bit v.lanes page) v.reserved

  small : 2 ^ chunk_bit v.lanes page < 2 ^ 64
  small = pow_below (chunk_bit v.lanes page) 64 (omega arith)

  at : (made : Bool) → list_any (has_bit (Run other) bit) (cond made (left ++ all_of_run v place ∷ []) v.reserved) ≡ true
  at false = own
  at true =
      list_any-append (has_bit (Run other) bit) left (all_of_run v place ∷ [])
      ∙ or_left (list_any (has_bit (Run other) bit) left) (list_any (has_bit (Run other) bit) (all_of_run v place ∷ []))
      (vacated_after (zone_at v.lanes page) (2 ^ chunk_bit v.lanes page) small (Run other) bit v.reserved low (λ same. absurd (no_zone other (zone_of v.lanes page) same)) own)

-- a lane that rests has those of these blocks, all of one class, that begin behind a place
pub record HoldsBehind (memory : Solo) (shape : Shape) (blocks : List Block) (last : ℕ) : Type 0 where
  pub class : ℕ
  pub rests : Rests memory shape
  pub mine : All (λ (b : Block). last < b.place → IsMine rests.view class b) blocks

pub holds_behind : (memory : Solo) (shape : Shape) (class : ℕ) (blocks : List Block) → HoldsAll memory shape class blocks → HoldsBehind memory shape blocks 0
holds_behind memory shape class blocks holds = record {
  class = class;
  rests = holds.rests;
  mine = All-weaker (IsMine holds.rests.view class) (λ (b : Block). 0 < b.place → IsMine holds.rests.view class b) (λ b mine behind. mine) blocks holds.mine;
}

module _ (memory : Solo) (shape : Shape) (rests : Rests memory shape) (class : ℕ) (block : Block) (mine : IsMine rests.view class block) where
  abbrev had : View
  had = rests.view

  lines_are : block.lines ≡ class
  lines_are = ap (λ (b : Block). b.lines) mine.is_block

  pub in_its_run : mine.index < blocks_of block.lines
  in_its_run = subst (λ n. mine.index < blocks_of n) (sym lines_are) mine.in_run

  pub is_its_block : block ≡ run_block had.lanes mine.chunk block.lines mine.index
  is_its_block = mine.is_block ∙ ap (λ n. run_block had.lanes mine.chunk n mine.index) (sym lines_are)

  small : 2 ^ mine.index < 2 ^ 64
  small = pow_below mine.index 64 (index_low class mine.index mine.in_run)

  owns : (bit : ℕ) → bit_at (2 ^ mine.index) bit ≡ 1 → reserves had (run_of had.lanes mine.chunk) bit ≡ true
  owns bit set = ⊎_elim
      (λ (same : bit ≡ mine.index). ap (reserves had (run_of had.lanes mine.chunk)) same ∙ mine.own)
      (λ (other : bit ≢ mine.index). absurd (let none = bit_at-pow_other mine.index bit other in omega (arith, none, set)))
      (cases_eq bit mine.index)

  has_its_word : HasOcc had (run_of had.lanes mine.chunk)
  has_its_word =
      let zones = rests.may.of_shape.zones in
      let inside = mine.in_zones in
      subst (λ n. HasOcc had (run_of n mine.chunk)) (sym rests.may.of_shape.lanes) (has_occ had shape rests.may mine.chunk (omega (arith, zones, inside)))

  -- nothing is undrained, of whatever chunk
  whole : IsGivenWhole had (run_of had.lanes mine.chunk) (2 ^ mine.index)
  whole made =
      let page : ℕ = 4096 * page_of had.lanes mine.chunk / 4096 in
      let is_beside : Change → Type 0 = λ c. covers had.lanes had.words (zone_at had.lanes page) (2 ^ chunk_bit had.lanes page) c.word ≡ false in
      subst (All is_beside) (sym rests.drained) (All-nil is_beside)

  pub may_give_back : MayGiveBack had block
  may_give_back = record {
    chunk = mine.chunk;
    index = mine.index;
    in_run = in_its_run;
    is_block = is_its_block;
    may = may_vacate_at_rest had (run_of had.lanes mine.chunk) (2 ^ mine.index) has_its_word small owns whole rests.drained rests.log;
  }

  abbrev pub given : View
  given = after had (Vacate (run_of had.lanes mine.chunk) (2 ^ mine.index))

  rests_given : (new : Solo) → Sees new given → Rests new shape
  rests_given new sees = record {
    view = given;
    sees = sees;
    may = record { of_shape = record { lanes = rests.may.of_shape.lanes; zones = rests.may.of_shape.zones; size = rests.may.of_shape.size }; early = rests.may.early };
    drained = rests.drained;
    log = rests.log;
  }

  -- a block behind it is there still
  mine_behind : (other : Block) → block.place < other.place → IsMine had class other → IsMine given class other
  mine_behind other behind m = mine_on had given class other refl refl m
      (vacated_after (run_of had.lanes mine.chunk) (2 ^ mine.index) small (run_of had.lanes m.chunk) m.index (exchanged had (run_of had.lanes mine.chunk)) (index_low class m.index m.in_run) apart
      (run_kept had (4096 * page_of had.lanes mine.chunk) (4096 * page_of had.lanes m.chunk) m.index (index_low class m.index m.in_run) m.own)) where
        apart : run_of had.lanes m.chunk ≡ run_of had.lanes mine.chunk → bit_at (2 ^ mine.index) m.index ≢ 1
        apart same set = ⊎_elim
            (λ (here : m.index ≡ mine.index).
            let page : 4096 * page_of had.lanes m.chunk ≡ 4096 * page_of had.lanes mine.chunk = cc in
            let lines : class * m.index ≡ class * mine.index = ap (λ k. class * k) here in
            let first = ap (λ (b : Block). b.place) mine.is_block in
            let second = ap (λ (b : Block). b.place) m.is_block in
            absurd (omega (arith, page, lines, first, second, behind)))
            (λ (elsewhere : m.index ≢ mine.index). absurd (let none = bit_at-pow_other mine.index m.index elsewhere in omega (arith, none, set)))
            (cases_eq m.index mine.index)

  pub behind_given : (blocks : List Block) (last : ℕ) → All (λ (b : Block). last < b.place → IsMine had class b) blocks → last < block.place → (new : Solo) → Sees new given → HoldsBehind new shape blocks block.place
  unfolding rests_given
  behind_given blocks last mine low new sees = record {
    class = class;
    rests = rests_given new sees;
    mine = All-weaker (λ (b : Block). last < b.place → IsMine had class b) (λ (b : Block). block.place < b.place → IsMine given class b) (λ other has behind. mine_behind other behind (has (omega (arith, low, behind)))) blocks mine;
  }
