-- The members that a list leads to depend on header lines alone: each offset on the way is that of a block.
use Rattle.std.proofs.Common.{◌≡◌, ◌⊎◌, inl, inr, ℕ, zero, suc, ◌+◌, ◌-◌, ◌/◌, ◌&&◌, Bool, cond, eqb, [], ◌∷◌, None, refl, sym, ◌∙◌, ap, subst, arith}
use Rattle.std.specs.List.{Contains}
use Rattle.std.proofs.lemmas.Bool.{and_parts, eqb-true}
use Rattle.pm_image.specs.declared.block.Block.{Block}
use Rattle.pm_image.specs.Blocks.{blocks}
use Rattle.pm_image.specs.Contents.{first_in, header_word, offset_in, walk}
use Rattle.pm_image.specs.HeapFaults.{heap_fault}
use Rattle.pm_image.specs.Reads.{AgreeOn}
use Rattle.pm_image.proofs.FaultFree.{links_taken}
use Rattle.pm_image.proofs.Heads.{agree_on_header, head_same, ReadsHeads}
use Rattle.pm_image.proofs.LocalPool.{first_none}
use Rattle.pm_image.proofs.Reading.{walk_nowhere}
use Rattle.solo_crash.proofs.Standing.{block_begins_line}

-- the offset is 0, or that of a block
pub record IsOffset (w : ℕ → ℕ) (lanes zones off : ℕ) : Type 0 where
  pub block : Block
  pub is_there : Contains (blocks w lanes zones) block
  pub is_offset : off ≡ offset_in block

abbrev pub Leads : (ℕ → ℕ) → ℕ → ℕ → ℕ → Type 0
Leads w lanes zones off = (off ≡ 0) ⊎ IsOffset w lanes zones off

-- each block's links lead to blocks: the only place that reads how this stage takes links
first_leads : (w : ℕ → ℕ) (lanes zones : ℕ) (block : Block) → heap_fault w lanes zones ≡ None → Contains (blocks w lanes zones) block → Leads w lanes zones (first_in w block)
first_leads w lanes zones block none there = inl (first_none w block (links_taken w lanes zones block none there))

next_leads : (w : ℕ → ℕ) (lanes zones : ℕ) (block : Block) → heap_fault w lanes zones ≡ None → Contains (blocks w lanes zones) block → Leads w lanes zones (header_word w block 2)
next_leads w lanes zones block none there =
    let second : Bool = eqb (header_word w block 2) 0 in
    let third : Bool = eqb (header_word w block 3) 0 in
    let fourth : Bool = eqb (header_word w block 4) 0 in
    let p3 = and_parts (second && third && fourth) (eqb (header_word w block 5) 0) (links_taken w lanes zones block none there) in
    let p2 = and_parts (second && third) fourth p3.0 in
    let p1 = and_parts second third p2.0 in
    inl (eqb-true (header_word w block 2) 0 p1.0)

walk_same : (w v : ℕ → ℕ) (lanes zones n off : ℕ) → heap_fault w lanes zones ≡ None → AgreeOn (ReadsHeads w lanes zones) w v → Leads w lanes zones off → walk v n off ≡ walk w n off
unfolding walk
walk_same w v lanes zones zero off none agree leads = refl
walk_same w v lanes zones (suc n) off none agree (inl nowhere) =
    ap (walk v (suc n)) nowhere ∙ walk_nowhere v (suc n) ∙ sym (ap (walk w (suc n)) nowhere ∙ walk_nowhere w (suc n))
walk_same w v lanes zones (suc n) off none agree (inr is) =
    let line = block_begins_line w lanes zones is.block is.is_there in
    let offset : off ≡ offset_in is.block = is.is_offset in
    let place : off / 8 - 6 ≡ is.block.place / 8 + 2 = omega arith in
    let same : v (off / 8 - 6) ≡ w (off / 8 - 6) = ap v place ∙ head_same w v is.block 2 (omega arith) (agree_on_header w v lanes zones is.block agree is.is_there) ∙ ap w (sym place) in
    let next : Leads w lanes zones (w (off / 8 - 6)) = subst (λ (k : ℕ). Leads w lanes zones (w k)) (sym place) (next_leads w lanes zones is.block none is.is_there) in
    (λ j. cond (eqb off 0) [] (off ∷ walk v n (same j)))
    ∙ (λ j. cond (eqb off 0) [] (off ∷ walk_same w v lanes zones n (w (off / 8 - 6)) none agree next j))

-- the members of the object in a block
pub members_same : (w v : ℕ → ℕ) (lanes zones count : ℕ) (block : Block) → heap_fault w lanes zones ≡ None → AgreeOn (ReadsHeads w lanes zones) w v → Contains (blocks w lanes zones) block
    → walk v count (first_in v block) ≡ walk w count (first_in w block)
members_same w v lanes zones count block none agree there =
    ap (walk v count) (head_same w v block 5 (omega arith) (agree_on_header w v lanes zones block agree there))
    ∙ walk_same w v lanes zones count (first_in w block) none agree (first_leads w lanes zones block none there)
