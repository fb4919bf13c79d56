-- Blocks that a lane alone reserved, given back one after another: it may make each step, and has of them no bit then, and each other bit as before.
use Rattle.std.proofs.Common.{◌≡◌, ◌⊎◌, ◌↔◌, ⊎_elim, inl, inr, ℕ, zero, suc, ◌+◌, ◌*◌, ◌/◌, ◌%◌, ◌<◌, ◌≤◌, ◌||◌, true, All, AllPairs, Contains, List, [], ◌∷◌, ◌++◌, map, slice_index, refl, sym, ap, ◌∙◌, subst, arith}
use Rattle.std.specs.List.{list_any}
use Rattle.std.proofs.lemmas.Bool.{or_cases, or_left, or_right}
use Rattle.std.proofs.lemmas.List.Elements.{All-head, All-tail}
use Rattle.pm_image.specs.declared.block.Block.{Block}
use Rattle.pm_image.specs.Blocks.{chunk_word, descriptor_word}
use Rattle.pm_layout.specs.declared.shape.Shape.{Shape}
use Rattle.solo_view.specs.declared.occ.Occ.{Occ}
use Rattle.solo_view.specs.declared.occ.Occ.TheVariants.{Run, Zone}
use Rattle.solo_view.specs.Area.{is_in_area}
use Rattle.solo_view.specs.Founds.{FoundAlone}
use Rattle.solo_view.specs.Held.{is_held, is_reserved, is_under}
use Rattle.solo_view.specs.Steps.{Step}
use Rattle.solo_view.specs.Steps.Step.{Vacate}
use Rattle.solo_view.specs.View.{View}
use Rattle.solo_view.specs.Views.{after, after_all, reserves}
use Rattle.solo_world.specs.Lawful.{Allowed, MayVacate}
use Rattle.solo_world.specs.Sequences.{IsForeseen, Ready}
use Rattle.solo_world.proofs.StepGive.{contains-filter}
use Rattle.solo_blocks.specs.Giving.{vacates_block}
use Rattle.solo_crash.specs.HeapChanges.{AreDisjoint}
use Rattle.solo_crash.specs.HeldHistory.{DrawsEnded}
use Rattle.solo_crash.specs.Leading.{Leads}
use Rattle.solo_crash.specs.NewObjects.{block_of_run}
use Rattle.solo_crash.proofs.Classes.{run_has_lines}
use Rattle.solo_reclaim.specs.KeptBlocks.{IsBitOf, IsKeptBit, Keeps, KeepsChunks, KeepsInRun}
use Rattle.solo_reclaim.specs.KnownTaken.{KnowsTaken}
use Rattle.solo_reclaim.proofs.BlockBits.{chunks_bits, kept_inside, kept_reserved, run_bits}
use Rattle.solo_reclaim.proofs.Keeping.{keeps_by}
use Rattle.solo_epoch.proofs.GivingSteps.{ClearsBits, MayGive, allowed, clears, gives_still, left_reserved, may_give, word_before}

-- ---- blocks apart

-- one occupancy word is not another's
same_place : (place other : ℕ) (at : Occ) → at ≡ Run place → at ≡ Run other → place ≡ other
same_place place other at one two = let both : Run place ≡ Run other = sym one ∙ two in cc

same_zone : (zone other : ℕ) (at : Occ) → at ≡ Zone zone → at ≡ Zone other → zone ≡ other
same_zone zone other at one two = let both : Zone zone ≡ Zone other = sym one ∙ two in cc

two_kinds : (place zone : ℕ) (at : Occ) → at ≡ Run place → at ≡ Zone zone → ⊥
two_kinds place zone at one two = let both : Run place ≡ Zone zone = sym one ∙ two in cc

-- blocks that the lane keeps and that do not overlap have no bit in common
module _ (v : View) (knows : KnowsTaken v) (b c : Block) (apart : AreDisjoint b c) (at : Occ) (bit : ℕ) (one : IsBitOf v.lanes b at bit) (two : IsBitOf v.lanes c at bit) where
  in_run : (block : Block) (is : KeepsInRun v block) → IsBitOf v.lanes block at bit → (at ≡ Run (8 * chunk_word v.lanes is.chunk)) × (bit ≡ is.index)
  in_run block is of = (run_bits v.lanes is.chunk is.lines is.index (kept_inside v knows block is) at bit).0 (subst (λ (z : Block). IsBitOf v.lanes z at bit) is.is_block of)

  of_chunks : (block : Block) (is : KeepsChunks v block) → IsBitOf v.lanes block at bit → (at ≡ Zone ((64 * is.zone + is.first) / 64)) × (((64 * is.zone + is.first) % 64 ≤ bit) × (bit < (64 * is.zone + is.first) % 64 + is.count))
  of_chunks block is of = (chunks_bits v.lanes (64 * is.zone + is.first) is.count at bit).0 (subst (λ (z : Block). IsBitOf v.lanes z at bit) is.is_block of)

  two_runs : KeepsInRun v b → KeepsInRun v c → ⊥
  two_runs x y =
      let first = in_run b x one in
      let second = in_run c y two in
      let word : 8 * chunk_word v.lanes x.chunk ≡ 8 * chunk_word v.lanes y.chunk = same_place _ _ at first.0 second.0 in
      let chunk : x.chunk ≡ y.chunk = omega (arith, word) in
      let lines : x.lines ≡ y.lines = (let d = sym x.described ∙ (ap (λ n. slice_index v.words (descriptor_word v.lanes n)) chunk ∙ y.described) in omega (arith, d)) in
      let index : x.index ≡ y.index = sym first.1 ∙ second.1 in
      let same : b ≡ c = x.is_block ∙ ((λ j. block_of_run v.lanes (chunk j) (lines j) (index j)) ∙ sym y.is_block) in
      let place = ap (λ (z : Block). z.place) same in
      let many = ap (λ (z : Block). z.lines) x.is_block in
      let less = ap (λ (z : Block). z.lines) same in
      let some = run_has_lines x.lines x.index (kept_inside v knows b x) in
      ⊎_elim (λ (before : b.place + 64 * b.lines ≤ c.place). omega (arith, before, place, many, some)) (λ (behind : c.place + 64 * c.lines ≤ b.place). omega (arith, behind, place, many, less, some)) apart

  two_rows : KeepsChunks v b → KeepsChunks v c → ⊥
  two_rows x y =
      let first = of_chunks b x one in
      let second = of_chunks c y two in
      let zone = same_zone _ _ at first.0 second.0 in
      let from = first.1.0 in let to = first.1.1 in let start = second.1.0 in let end = second.1.1 in
      let low = x.low in let other_low = y.low in
      let place = ap (λ (z : Block). z.place) x.is_block in let other = ap (λ (z : Block). z.place) y.is_block in
      let many = ap (λ (z : Block). z.lines) x.is_block in let more = ap (λ (z : Block). z.lines) y.is_block in
      ⊎_elim (λ (before : b.place + 64 * b.lines ≤ c.place). omega (arith, before, zone, from, to, start, end, low, other_low, place, other, many, more))
      (λ (behind : c.place + 64 * c.lines ≤ b.place). omega (arith, behind, zone, from, to, start, end, low, other_low, place, other, many, more)) apart

  pub no_bit_of_both : Keeps v b → Keeps v c → ⊥
  no_bit_of_both (inl x) (inl y) = two_runs x y
  no_bit_of_both (inl x) (inr y) = two_kinds _ _ at (in_run b x one).0 (of_chunks c y two).0
  no_bit_of_both (inr x) (inl y) = two_kinds _ _ at (in_run c y two).0 (of_chunks b x one).0
  no_bit_of_both (inr x) (inr y) = two_rows x y

-- ---- bits of some blocks

kept_first : (lanes : ℕ) (block : Block) (kept : List Block) (at : Occ) (bit : ℕ) → IsBitOf lanes block at bit → IsKeptBit lanes (block ∷ kept) at bit
kept_first lanes block kept at bit is = (0, block, omega arith, refl, is)

kept_later : (lanes : ℕ) (block : Block) (kept : List Block) (at : Occ) (bit : ℕ) → IsKeptBit lanes kept at bit → IsKeptBit lanes (block ∷ kept) at bit
kept_later lanes block kept at bit (k, other, low, same, is) = (suc k, other, omega (arith, low), same, is)

pub kept_cases : (lanes : ℕ) (block : Block) (kept : List Block) (at : Occ) (bit : ℕ) → IsKeptBit lanes (block ∷ kept) at bit → IsBitOf lanes block at bit ⊎ IsKeptBit lanes kept at bit
kept_cases lanes block kept at bit (zero, other, low, same, is) = inl (subst (λ (b : Block). IsBitOf lanes b at bit) (sym same) is)
kept_cases lanes block kept at bit (suc k, other, low, same, is) = inr (k, other, omega (arith, low), same, is)

pub none_kept : (lanes : ℕ) (at : Occ) (bit : ℕ) → IsKeptBit lanes [] at bit → ⊥
none_kept lanes at bit (k, other, low, same, is) = omega (arith, low)

-- ---- one block

-- the lane may give, and these blocks lie in what it reserved, each apart from the others
pub record GivesAll (v : View) (shape : Shape) (kept : List Block) : Type 0 where
  pub may : MayGive v shape
  pub some : All (λ (b : Block). 1 ≤ b.lines) kept
  pub keeps : All (Keeps v) kept
  pub apart : AllPairs AreDisjoint kept

-- the view but for what the lane has of the heap and what it knows, as the other has that
abbrev pub beside : View → View → View
beside v w = record v { run_words = w.run_words; zone_words = w.zone_words; known = w.known; reserved = w.reserved; freed = w.freed }

-- the lane may make the step, which gives the block back and leaves the rest
pub record GivesOne (lanes : ℕ) (v : View) (shape : Shape) (block : Block) (rest : List Block) (s : Step) : Type 0 where
  pub may : Allowed v s
  pub found : FoundAlone v s
  pub foreseen : IsForeseen v s
  pub owes : DrawsEnded v s
  pub still : GivesAll (after v s) shape rest
  pub same : after v s ≡ beside v (after v s)
  -- it holds no word more, and knows still what it holds still
  pub held : (i : ℕ) → is_held (after v s) i ≡ true → is_held v i ≡ true
  pub known : (i : ℕ) → Contains v.known i → is_held (after v s) i ≡ true → Contains (after v s).known i
  pub left : (at : Occ) (bit : ℕ) → bit < 64 → (reserves (after v s) at bit ≡ true) ↔ ((reserves v at bit ≡ true) × (IsBitOf lanes block at bit → ⊥))

module _ (v : View) (shape : Shape) (block : Block) (rest : List Block) (all : GivesAll v shape (block ∷ rest)) where
  abbrev c : ClearsBits v.lanes block
  c = clears v.lanes block

  keeps_it : Keeps v block
  keeps_it = All-head (Keeps v) block rest all.keeps

  vacates : MayVacate v c.word c.bits
  vacates = subst (Allowed v) c.is (allowed v block (may_give v shape all.may block (All-head (λ (b : Block). 1 ≤ b.lines) block rest all.some) keeps_it))

  abbrev w : View
  w = after v (Vacate c.word c.bits)

  left_one : (at : Occ) (bit : ℕ) → bit < 64 → (reserves w at bit ≡ true) ↔ ((reserves v at bit ≡ true) × (IsBitOf v.lanes block at bit → ⊥))
  left_one at bit low =
      let left = left_reserved v shape all.may c.word c.bits vacates at bit low in (
        λ has. ((left.0 has).0, λ is. (left.0 has).1 ((c.its at bit).0 is)),
        λ both. left.1 (both.0, λ is. both.1 ((c.its at bit).1 is)),
      )

  -- the rest of the blocks it has still
  stays : (at : Occ) (bit : ℕ) → IsKeptBit v.lanes rest at bit → reserves w at bit ≡ true
  stays at bit (k, other, low, same, is) =
      let of = kept_reserved v all.may.knows rest (All-tail (Keeps v) block rest all.keeps) at bit (k, other, low, same, is) in
      let keeps_other : Keeps v other = subst (Keeps v) same (all.keeps (suc k) other (omega (arith, low))) in
      let between : AreDisjoint block other = subst (AreDisjoint block) same (all.apart 0 (suc k) other (omega arith) (omega (arith, low))) in
      (left_one at bit of.low).1 (of.reserved, λ one. no_bit_of_both v all.may.knows block other between at bit one is keeps_it keeps_other)

  held_before : (i : ℕ) → is_held w i ≡ true → is_held v i ≡ true
  held_before i is = ⊎_elim
      (λ (mine : (is_in_area v.lane i || list_any (is_under i) v.locks) ≡ true). or_left (is_in_area v.lane i || list_any (is_under i) v.locks) (is_reserved v i) mine)
      (λ (own : is_reserved w i ≡ true). or_right (is_in_area v.lane i || list_any (is_under i) v.locks) (is_reserved v i) (word_before v shape all.may c.word c.bits vacates i own))
      (or_cases (is_in_area v.lane i || list_any (is_under i) v.locks) (is_reserved w i) is)

  gives_one : GivesOne v.lanes v shape block rest (Vacate c.word c.bits)
  gives_one = record {
    may = vacates;
    found = tt;
    foreseen = tt;
    owes = tt;
    still = record {
      may = gives_still v shape all.may c.word c.bits vacates;
      some = All-tail (λ (b : Block). 1 ≤ b.lines) block rest all.some;
      keeps = keeps_by v w all.may.knows refl rest (All-tail (Keeps v) block rest all.keeps) stays;
      apart = λ i j d before low. all.apart (suc i) (suc j) d (omega (arith, before)) (omega (arith, low));
    };
    same = refl;
    held = held_before;
    known = λ i there is. contains-filter (is_held w) v.known i there is;
    left = left_one;
  }

  pub gives_block : GivesOne v.lanes v shape block rest (vacates_block v.lanes block)
  gives_block = subst (GivesOne v.lanes v shape block rest) (sym c.is) gives_one

-- ---- all of them

-- the steps led from the one view to the other, and gave back the one part of the blocks
pub record HasGiven (lanes : ℕ) (v x : View) (shape : Shape) (given rest : List Block) : Type 0 where
  pub ready : Ready v (map (vacates_block lanes) given)
  pub leads : Leads v (map (vacates_block lanes) given) x
  pub still : GivesAll x shape rest
  pub same : x ≡ beside v x
  pub held : (i : ℕ) → is_held x i ≡ true → is_held v i ≡ true
  pub known : (i : ℕ) → Contains v.known i → is_held x i ≡ true → Contains x.known i
  pub left : (at : Occ) (bit : ℕ) → bit < 64 → (reserves x at bit ≡ true) ↔ ((reserves v at bit ≡ true) × (IsKeptBit lanes given at bit → ⊥))

pub has_given : (lanes : ℕ) (v : View) (shape : Shape) (given rest : List Block) → v.lanes ≡ lanes → GivesAll v shape (given ++ rest) → HasGiven lanes v (after_all v (map (vacates_block lanes) given)) shape given rest
unfolding Ready Leads after_all
has_given lanes v shape [] rest of all = record {
  ready = tt;
  leads = refl;
  still = all;
  same = refl;
  held = λ i is. is;
  known = λ i there is. there;
  left = λ at bit low. (λ has. (has, none_kept lanes at bit), λ both. both.0);
}
has_given lanes v shape (block ∷ given) rest of all =
    let s : Step = vacates_block lanes block in
    let first : GivesOne lanes v shape block (given ++ rest) s = subst (λ n. GivesOne n v shape block (given ++ rest) (vacates_block n block)) of (gives_block v shape block (given ++ rest) all) in
    let u : View = after v s in
    let x : View = after_all u (map (vacates_block lanes) given) in
    let then : HasGiven lanes u x shape given rest = has_given lanes u shape given rest (ap (λ (z : View). z.lanes) first.same ∙ of) first.still in
    record {
      ready = (first.may, first.foreseen, then.ready);
      leads = (first.may, first.found, first.owes, then.leads);
      still = then.still;
      same = then.same ∙ ap (λ (z : View). beside z x) first.same;
      held = λ i is. first.held i (then.held i is);
      known = λ i there is. then.known i (first.known i there (then.held i is)) is;
      left = λ at bit low. (
        λ has.
            let later = (then.left at bit low).0 has in
            let sooner = (first.left at bit low).0 later.0 in
            (sooner.0, λ is. ⊎_elim sooner.1 later.1 (kept_cases lanes block given at bit is)),
        λ both. (then.left at bit low).1
            ((first.left at bit low).1 (both.0, λ is. both.1 (kept_first lanes block given at bit is)), λ is. both.1 (kept_later lanes block given at bit is)),
      );
    }
