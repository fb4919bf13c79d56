-- A heap of which each chunk, each block and the root pass their tests has no fault.
use Rattle.std.proofs.Common.{◌≡◌, ℕ, ◌+◌, ◌*◌, ◌/◌, ◌%◌, ◌<◌, ◌≤◌, Bool, true, false, not, cond, eqb, List, [], ◌∷◌, Some, None, refl, ◌∙◌, ap, arith, inl, inr}
use Rattle.std.specs.List.{Contains, find, list_any, range_with_len}
use Rattle.std.specs.Option.{option_map, option_or}
use Rattle.std.proofs.lemmas.Bool.{eqb-true, false≢true, not-false, or_cases, or_left, or_right}
use Rattle.pm_image.specs.declared.block.Block.{Block}
use Rattle.pm_image.specs.declared.fault.ImageFault.TheVariants as fault
use Rattle.pm_image.specs.Blocks.{blocks}
use Rattle.pm_image.specs.Contents.{offset_in}
use Rattle.pm_image.specs.HeapFaults.{bad_bitmap, bad_chunk, bad_root, bitmap_fault, block_fault, chunk_fault, good_block, heap_fault, link_fault, root_fault}
use Rattle.pm_image.specs.Narrowings.{takes_links}
use Rattle.pm_image.proofs.Members.{first_member, in_range, later_member, member_cases, no_member}

-- where no member passes, nothing is found
finds_none : {X : Type 0} (p : X → Bool) (xs : List X) → ((x : X) → Contains xs x → p x ≡ false) → find p xs ≡ None
finds_none p [] fails = refl
finds_none {X = X} p (x ∷ xs) fails = ap (λ (t : Bool). cond t (Some x) (find p xs)) (fails x (first_member x xs)) ∙ finds_none p xs (λ y there. fails y (later_member x xs y there))

-- a member that passes, and that one does
pub passing_member : {X : Type 0} (p : X → Bool) (xs : List X) → list_any p xs ≡ true → (x : X) × (Contains xs x × (p x ≡ true))
passing_member p [] any = absurd (false≢true any)
passing_member p (x ∷ xs) any = elim (or_cases (p x) (list_any p xs) any) [
  | inl here ↦ (x, (first_member x xs, here))
  | inr later ↦ let rest = passing_member p xs later in (rest.0, (later_member x xs rest.0 rest.1.0, rest.1.1))
]

pub member_passes : {X : Type 0} (p : X → Bool) (xs : List X) (y : X) → Contains xs y → p y ≡ true → list_any p xs ≡ true
member_passes p [] y there passes = absurd (no_member y there)
member_passes p (x ∷ xs) y there passes = elim (member_cases x xs y there) [
  | inl here ↦ or_left (p x) (list_any p xs) (ap p here ∙ passes)
  | inr later ↦ or_right (p x) (list_any p xs) (member_passes p xs y later passes)
]

-- the tests, one by one
pub record PassesTests (w : ℕ → ℕ) (lanes zones : ℕ) : Type 0 where
  pub chunks : (c : ℕ) → c < 64 * zones → bad_chunk w lanes c ≡ false
  pub bitmaps : (c : ℕ) → c < 64 * zones → bad_bitmap w lanes c ≡ false
  pub sizes : (block : Block) → Contains (blocks w lanes zones) block → good_block w block ≡ true
  pub links : (block : Block) → Contains (blocks w lanes zones) block → takes_links w block ≡ true
  pub root : bad_root w (blocks w lanes zones) ≡ false

module _ (w : ℕ → ℕ) (lanes zones : ℕ) (passes : PassesTests w lanes zones) where
  below : (c : ℕ) → Contains (range_with_len 0 (64 * zones)) c → c < 64 * zones
  below c there = let within : (0 ≤ c) × (c < 0 + 64 * zones) = in_range 0 (64 * zones) c there in omega arith

  no_chunk_fault : chunk_fault w lanes zones ≡ None
  unfolding chunk_fault
  no_chunk_fault = ap (option_map (λ c. fault.Chunk (c / 64) (c % 64))) (finds_none (bad_chunk w lanes) (range_with_len 0 (64 * zones)) (λ c there. passes.chunks c (below c there)))

  no_bitmap_fault : bitmap_fault w lanes zones ≡ None
  unfolding bitmap_fault
  no_bitmap_fault = ap (option_map (λ c. fault.Bitmap (c / 64) (c % 64))) (finds_none (bad_bitmap w lanes) (range_with_len 0 (64 * zones)) (λ c there. passes.bitmaps c (below c there)))

  no_block_fault : block_fault w (blocks w lanes zones) ≡ None
  unfolding block_fault
  no_block_fault = ap (option_map (λ block. fault.Block (offset_in block))) (finds_none (λ block. not (good_block w block)) (blocks w lanes zones) (λ block there. ap not (passes.sizes block there)))

  no_link_fault : link_fault w (blocks w lanes zones) ≡ None
  unfolding link_fault
  no_link_fault = ap (option_map (λ block. fault.Link (offset_in block))) (finds_none (λ block. not (takes_links w block)) (blocks w lanes zones) (λ block there. ap not (passes.links block there)))

  no_root_fault : root_fault w (blocks w lanes zones) ≡ None
  unfolding root_fault
  no_root_fault = ap (λ (t : Bool). cond t (Some (fault.Root (w 64))) None) passes.root

  pub no_heap_fault : heap_fault w lanes zones ≡ None
  unfolding heap_fault
  no_heap_fault = (λ j. option_or (no_chunk_fault j) (option_or (no_bitmap_fault j) (option_or (no_block_fault j) (option_or (no_link_fault j) (no_root_fault j)))))

-- the root's test stays where the root's word does, and the block that it names is there still
pub root_stays : (w v : ℕ → ℕ) (bs cs : List Block) → v 64 ≡ w 64 → ((b : Block) → Contains bs b → offset_in b ≡ w 64 → Contains cs b) → bad_root w bs ≡ false → bad_root v cs ≡ false
unfolding bad_root
root_stays w v bs cs same stays good =
    ap (λ (root : ℕ). cond (eqb root 0) false (not (list_any (λ b. eqb (offset_in b) root) cs))) same ∙ go (eqb (w 64) 0) good where
      still : list_any (λ b. eqb (offset_in b) (w 64)) bs ≡ true → list_any (λ b. eqb (offset_in b) (w 64)) cs ≡ true
      still any =
          let named = passing_member (λ (b : Block). eqb (offset_in b) (w 64)) bs any in
          member_passes (λ (b : Block). eqb (offset_in b) (w 64)) cs named.0 (stays named.0 named.1.0 (eqb-true (offset_in named.0) (w 64) named.1.1)) named.1.1

      go : (t : Bool) → cond t false (not (list_any (λ b. eqb (offset_in b) (w 64)) bs)) ≡ false → cond t false (not (list_any (λ b. eqb (offset_in b) (w 64)) cs)) ≡ false
      go true is = refl
      go false is = ap not (still (not-false (list_any (λ b. eqb (offset_in b) (w 64)) bs) is))
