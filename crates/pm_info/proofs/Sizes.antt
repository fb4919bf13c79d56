-- How large an image with a meaning is, and how many objects it has at most.
use Rattle.std.proofs.Common.{eqb, leb, ◌≡◌, ℕ, zero, suc, ◌+◌, ◌*◌, ◌≤◌, ◌&&◌, Bool, true, false, cond, List, [], ◌∷◌, ◌++◌, length, length-append, map, Option, Some, None, refl, sym, ◌∙◌, ap, subst, arith}
use Rattle.std.specs.List.{filter, find, flat_map, list_all, range_with_len}
use Rattle.std.specs.Option.{option_map_or}
use Rattle.std.specs.Int.{bit_at}
use Rattle.std.proofs.lemmas.Bool.{false≢true, leb-true}
use Rattle.std.proofs.lemmas.List.{length-map}
use Rattle.std.proofs.lemmas.List.FromFn.{length-range_with_len}
use Rattle.pm_layout.specs.Sizes.{block_place, blocks_by_class, blocks_of}
use Rattle.pm_layout.specs.declared.class.Class.{Class}
use Rattle.pm_layout.specs.declared.class.Class.TheVariants.{Lines, Chunks}
use Rattle.pm_objects.specs.declared.pool.PoolView.{PoolView}
use Rattle.pm_image.specs.declared.block.Block.{Block}
use Rattle.pm_image.specs.Blocks.{blocks, blocks_in, chunk_blocks, chunk_word, class_in, descriptor_word, run_blocks}
use Rattle.pm_image.specs.Contents.{object_in, objects_in, offset_in}
use Rattle.pm_image.specs.Logs.{recovered_at}
use Rattle.pm_image.specs.Means.{IsMeaning}
use Rattle.pm_image.specs.Steps.{HasLanes}

-- the image has the words of its lanes and zones, and no more than the largest pool
pub words_there : (image : List ℕ) (pool : PoolView) → IsMeaning image pool → 512 + 1024 * pool.lanes + 33280 * pool.zones ≡ length image
words_there image pool is =
    let size : 4096 + 8192 * is.lanes + 266240 * is.zones ≡ 8 * length image = is.has_header.has_shape.size in
    let lanes : pool.lanes ≡ is.lanes = ap (λ (p : PoolView). p.lanes) is.is_pool in
    let zones : pool.zones ≡ is.zones = ap (λ (p : PoolView). p.zones) is.is_pool in
    omega arith

pub lanes_there : (image : List ℕ) (pool : PoolView) → IsMeaning image pool → HasLanes image pool.lanes
lanes_there image pool is =
    let size : 4096 + 8192 * is.lanes + 266240 * is.zones ≡ 8 * length image = is.has_header.has_shape.size in
    let few : is.lanes ≤ 32 = is.has_header.has_shape.shape.lanes_to in
    let few_zones : is.zones ≤ 32 = is.has_header.has_shape.shape.zones_to in
    let lanes : pool.lanes ≡ is.lanes = ap (λ (p : PoolView). p.lanes) is.is_pool in
    record { lanes_fit = omega arith; areas = omega arith; small = omega arith }

filtered_few : {X : Type 0} (p : X → Bool) (xs : List X) → length (filter p xs) ≤ length xs
filtered_few p [] = omega arith
filtered_few {X = X} p (x ∷ xs) = one (p x) (filtered_few p xs) where
  one : (b : Bool) → length (filter p xs) ≤ length xs → length (cond b (x ∷ filter p xs) (filter p xs)) ≤ suc (length xs)
  one true rest = omega arith
  one false rest = omega arith

-- what is found passes a test that all pass
found_of_all : {X : Type 0} (p q : X → Bool) (xs : List X) (x : X) → list_all q xs ≡ true → find p xs ≡ Some x → q x ≡ true
found_of_all p q [] x all is = absurd cc
found_of_all {X = X} p q (y ∷ ys) x all is = go (p y) (q y) refl all is (found_of_all p q ys x) where
  go : (b t : Bool) → q y ≡ t → (t && list_all q ys) ≡ true → cond b (Some y) (find p ys) ≡ Some x → (list_all q ys ≡ true → find p ys ≡ Some x → q x ≡ true) → q x ≡ true
  go true true passes rest found later = let same : y ≡ x = cc in ap q (sym same) ∙ passes
  go false true passes rest found later = later rest found
  go b false fails rest found later = absurd (false≢true rest)

few_found : (entry : Option (ℕ × ℕ)) → ((e : ℕ × ℕ) → entry ≡ Some e → e.1 ≤ 64) → option_map_or (λ e. e.1) entry 0 ≤ 64
few_found None each = omega arith
few_found (Some e) each = each e refl

class_few : (lines : ℕ) → blocks_of lines ≤ 64
class_few lines =
    few_found (find (λ e. eqb e.0 lines) blocks_by_class) (λ e is. leb-true e.1 64 (found_of_all (λ x. eqb x.0 lines) (λ x. leb x.1 64) blocks_by_class e refl is))

run_few : (place bitmap lines : ℕ) → length (run_blocks place bitmap lines) ≤ 64
unfolding run_blocks
run_few place bitmap lines =
    let found = filtered_few (λ i. eqb (bit_at bitmap i) 1) (range_with_len 0 (blocks_of lines)) in
    let long = length-range_with_len 0 (blocks_of lines) in
    let few = class_few lines in
    let same = length-map {B = Block} (filter (λ i. eqb (bit_at bitmap i) 1) (range_with_len 0 (blocks_of lines))) (λ (i : ℕ). record { place = block_place place lines i; lines = lines }) in
    omega (arith, found, long, few, same)

kind_few : (class : Option Class) (place bitmap : ℕ) → length (blocks_in class place bitmap) ≤ 64
kind_few None place bitmap = omega arith
kind_few (Some (Lines lines)) place bitmap = run_few place bitmap lines
kind_few (Some (Chunks chunks)) place bitmap = omega arith

chunk_few : (w : ℕ → ℕ) (lanes c : ℕ) → length (chunk_blocks w lanes c) ≤ 64
unfolding chunk_blocks
chunk_few w lanes c = kind_few (class_in (w (descriptor_word lanes c))) (8 * chunk_word lanes c) (w (chunk_word lanes c))

parts_few : {X : Type 0} (f : ℕ → List X) (xs : List ℕ) → ((x : ℕ) → length (f x) ≤ 64) → length (flat_map f xs) ≤ 64 * length xs
parts_few f [] each = omega arith
parts_few f (x ∷ xs) each =
    let here = each x in
    let rest = parts_few f xs each in
    let both = length-append (f x) (flat_map f xs) in
    omega (arith, here, rest, both)

blocks_few : (w : ℕ → ℕ) (lanes zones : ℕ) → length (blocks w lanes zones) ≤ 64 * (64 * zones)
unfolding blocks
blocks_few w lanes zones =
    let parts = parts_few (chunk_blocks w lanes) (range_with_len 0 (64 * zones)) (chunk_few w lanes) in
    let long = length-range_with_len 0 (64 * zones) in
    omega (arith, parts, long)

length-objects_in : (w : ℕ → ℕ) (bs : List Block) → length (objects_in w bs) ≡ length bs
unfolding objects_in
length-objects_in w bs = length-map bs (λ (block : Block). (offset_in block, object_in w (length bs) block))

pub objects_few : (image : List ℕ) (pool : PoolView) → IsMeaning image pool → length pool.objects ≤ 131072
objects_few image pool is =
    let w : ℕ → ℕ = recovered_at image is.lanes in
    let few_zones : is.zones ≤ 32 = is.has_header.has_shape.shape.zones_to in
    let objects : length pool.objects ≡ length (objects_in w (blocks w is.lanes is.zones)) = ap (λ (p : PoolView). length p.objects) is.is_pool in
    let same = length-objects_in w (blocks w is.lanes is.zones) in
    let few = blocks_few w is.lanes is.zones in
    omega (arith, objects, same, few)
