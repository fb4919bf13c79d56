-- What stands in a block that has a new object: that object, with no links; and a block that was filled for one has it, of zeros.
use Rattle.std.proofs.Common.{◌≡◌, ℕ, zero, suc, ◌+◌, ◌-◌, ◌*◌, ◌/◌, ◌<◌, ◌≤◌, ◌&&◌, Bool, true, cond, eqb, leb, List, [], ◌∷◌, ◌++◌, length, map, take, replicate, refl, sym, ◌∙◌, ap, arith}
use Rattle.std.specs.List.{range_with_len}
use Rattle.std.proofs.lemmas.Bool.{and_from, eq-eqb, le-leb, ne_eqb}
use Rattle.std.proofs.lemmas.Grind.{div_ceil_times}
use Rattle.std.proofs.lemmas.List.{length-replicate, replicate-append-replicate, take-replicate}
use Rattle.pm_words.specs.Words.{bytes_of}
use Rattle.pm_words.proofs.Reading.{bytes_of-append}
use Rattle.pm_layout.specs.Sizes.{class_of}
use Rattle.pm_objects.specs.Pool.{block_lines}
use Rattle.pm_image.specs.declared.block.Block.{Block}
use Rattle.pm_image.specs.Contents.{bytes_in, data_words, first_in, header_word, object_in, size_in, walk}
use Rattle.pm_image.specs.HeapFaults.{good_block}
use Rattle.pm_image.specs.Narrowings.{takes_links}
use Rattle.pm_image.proofs.Reading.{walk_nowhere}
use Rattle.solo_crash.specs.NewObjects.{HasNewObject, IsFreshBlock, fresh_word, unlinked}

-- the bytes of a word that is 0, and of some such words
zero_word : bytes_of (0 ∷ []) ≡ replicate 8 0
unfolding bytes_of
zero_word = refl

zero_words : (v : ℕ → ℕ) (from n : ℕ) → ((i : ℕ) → from ≤ i → i < from + n → v i ≡ 0) → bytes_of (map v (range_with_len from n)) ≡ replicate (8 * n) 0
unfolding bytes_of
zero_words v from zero zeros = refl
zero_words v from (suc n) zeros =
    let rest : List ℕ = map v (range_with_len (from + 1) n) in
    let many : 8 + 8 * n ≡ 8 * suc n = omega arith in
    bytes_of-append (v from ∷ []) rest
    ∙ (λ j. bytes_of (zeros from (omega arith) (omega arith) j ∷ []) ++ zero_words v (from + 1) n (λ i low high. zeros i (omega arith) (omega arith)) j)
    ∙ ap (λ (bytes : List ℕ). bytes ++ replicate (8 * n) 0) zero_word
    ∙ replicate-append-replicate 8 (8 * n) 0
    ∙ ap (λ (k : ℕ). replicate k 0) many

module _ (v : ℕ → ℕ) (block : Block) (kind : ℕ) (bytes : List ℕ) (object : HasNewObject v block kind bytes) where
  size_is : size_in v block ≡ length bytes
  size_is = object.header 1 (omega arith)

  pub fresh_is_good : good_block v block ≡ true
  unfolding good_block
  fresh_is_good =
      let size : ℕ = length bytes in
      let fits : Bool = eqb (block_lines (class_of (size_in v block))) block.lines in
      let six : Bool = eqb (header_word v block 6) 0 in
      let seven : Bool = eqb (header_word v block 7) 0 in
      let some : leb 1 (size_in v block) ≡ true = ap (leb 1) size_is ∙ le-leb 1 size object.some in
      let most : leb (size_in v block) 262080 ≡ true = ap (λ (n : ℕ). leb n 262080) size_is ∙ le-leb size 262080 object.most in
      let lines : fits ≡ true = eq-eqb (block_lines (class_of (size_in v block))) block.lines (ap (λ (n : ℕ). block_lines (class_of n)) size_is ∙ object.of_size) in
      and_from (leb 1 (size_in v block) && leb (size_in v block) 262080 && fits && six) seven
      (and_from (leb 1 (size_in v block) && leb (size_in v block) 262080 && fits) six
      (and_from (leb 1 (size_in v block) && leb (size_in v block) 262080) fits (and_from (leb 1 (size_in v block)) (leb (size_in v block) 262080) some most) lines)
      (eq-eqb (header_word v block 6) 0 (object.header 6 (omega arith))))
      (eq-eqb (header_word v block 7) 0 (object.header 7 (omega arith)))

  pub fresh_has_no_links : takes_links v block ≡ true
  fresh_has_no_links =
      let second : Bool = eqb (header_word v block 2) 0 in
      let third : Bool = eqb (header_word v block 3) 0 in
      let fourth : Bool = eqb (header_word v block 4) 0 in
      and_from (second && third && fourth) (eqb (header_word v block 5) 0)
      (and_from (second && third) fourth
      (and_from second third (eq-eqb (header_word v block 2) 0 (object.header 2 (omega arith))) (eq-eqb (header_word v block 3) 0 (object.header 3 (omega arith))))
      (eq-eqb (header_word v block 4) 0 (object.header 4 (omega arith))))
      (eq-eqb (header_word v block 5) 0 (object.header 5 (omega arith)))

  pub fresh_object : (count : ℕ) → object_in v count block ≡ unlinked kind bytes
  fresh_object count =
      let members : walk v count (first_in v block) ≡ [] = ap (walk v count) (object.header 5 (omega arith)) ∙ walk_nowhere v count in
      (λ j. record { kind = object.header 0 (omega arith) j; bytes = object.holds j; members = members j })

-- ---- a block as it is filled

module _ (v : ℕ → ℕ) (block : Block) (kind size : ℕ) (fresh : IsFreshBlock v block kind size) where
  long : length {A = ℕ} (replicate size 0) ≡ size
  long = length-replicate size 0

  zero_behind : (i : ℕ) → block.place / 8 + 8 ≤ i → i < block.place / 8 + 8 + data_words size → v i ≡ 0
  zero_behind i from to =
      let place : ℕ = i - block.place / 8 in
      let is : block.place / 8 + place ≡ i = omega arith in
      ap v (sym is) ∙ fresh.words place (omega arith) ∙ (λ j. cond (ne_eqb place 0 (λ e. omega arith) j) kind (cond (ne_eqb place 1 (λ e. omega arith) j) size 0))

  zero_bytes : bytes_in v block ≡ replicate size 0
  unfolding bytes_in
  zero_bytes =
      let enough = div_ceil_times size 8 (omega arith) in
      let is : size_in v block ≡ size = fresh.words 1 (omega arith) in
      (λ j. take (is j) (bytes_of (map v (range_with_len (block.place / 8 + 8) (data_words (is j))))))
      ∙ ap (take size) (zero_words v (block.place / 8 + 8) (data_words size) zero_behind)
      ∙ take-replicate size (8 * data_words size) 0 (omega arith)

  -- it is a new object, of zeros
  pub filled_is_new : HasNewObject v block kind (replicate size 0)
  filled_is_new = record {
    some = let some = fresh.some in let is = long in omega (arith, some, is);
    most = let most = fresh.most in let is = long in omega (arith, most, is);
    of_size = ap (λ (n : ℕ). block_lines (class_of n)) long ∙ fresh.of_size;
    header = λ place low. fresh.words place (omega (arith, low)) ∙ ap (λ (n : ℕ). fresh_word kind n place) (sym long);
    holds = zero_bytes;
  }
