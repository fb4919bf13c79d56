-- What place a word of a chunk is; and bits of numbers.
use Rattle.std.specs.Prelude.{bit_and, bit_or, max}
use Rattle.std.specs.Int.{bit_at}
use Rattle.std.proofs.Common.{◌≡◌, ◌≢◌, ℕ, ◌+◌, ◌*◌, ◌/◌, ◌%◌, ◌^◌, ◌<◌, ◌≤◌, ⊎_elim, nat_le, nat_lt, true, false, cond, ◌==◌, ◌&&◌, ◌||◌, eqb, sym, ap, ◌∙◌, arith, eq-eqb, ne_eqb}
use Rattle.std.proofs.lemmas.Bool.{cases_eq, cases_lt, le-leb, lt-ltb, leb-false, ltb-false, and_from, and_left, and_right, cond-true, cond-false, both_ways}
use Rattle.std.proofs.lemmas.Nat.Bits.{bit_at_or, bit_at_and, bit_at-pow_same, bit_at-pow_other, bit_at-zero, bit_at-lt}
use Rattle.pm_layout.specs.declared.shape.Shape.{Shape}
use Rattle.pm_layout.specs.Chunks.{chunks_of, page_of_zone, page_of_chunk, word_of_chunk, word_of_root, zone_at, page_in_zone, is_in_zone, is_chunk_page, chunk_at, is_descriptor_word, chunk_described}
use Rattle.pm_view.specs.Parts.{Part, RootPart, DescriptorPart, ChunkPart, OtherPart, pool_part}
use Rattle.pm_world.specs.Memory.{bit}

module _ (sh : Shape) (c u : ℕ) (small : u < 512) where
  page_is : (word_of_chunk sh c + u) / 512 ≡ page_of_chunk sh c
  page_is = omega arith

  rest_is : (word_of_chunk sh c + u) % 512 ≡ u
  rest_is = omega arith

  in_zone_is : page_in_zone sh (page_of_chunk sh c) ≡ 1 + c % 64
  in_zone_is = omega arith

  chunk_is : chunk_at sh (page_of_chunk sh c) ≡ c
  chunk_is = let z : zone_at sh (page_of_chunk sh c) ≡ c / 64 = omega arith in let y = in_zone_is in omega arith

  not_root : eqb (word_of_chunk sh c + u) (word_of_root sh) ≡ false
  not_root = ne_eqb (word_of_chunk sh c + u) (word_of_root sh) (λ e. omega arith)

  abbrev w : ℕ
  w = word_of_chunk sh c + u

  abbrev rest : Part
  rest = cond (is_chunk_page sh (w / 512)) (ChunkPart (chunk_at sh (w / 512)) (w % 512)) OtherPart

  -- the word of a chunk of the pool
  pub chunk_part : c < chunks_of sh → pool_part sh (word_of_chunk sh c + u) ≡ ChunkPart c u
  chunk_part l = cond-false (w == word_of_root sh) RootPart (cond (is_descriptor_word sh w) (DescriptorPart (chunk_described sh w)) rest) not_root
      ∙ (cond-false (is_descriptor_word sh w) (DescriptorPart (chunk_described sh w)) rest no_descriptor
      ∙ (cond-true (is_chunk_page sh (w / 512)) (ChunkPart (chunk_at sh (w / 512)) (w % 512)) OtherPart chunk_page
      ∙ (ap (λ p. ChunkPart (chunk_at sh p) (w % 512)) page_is ∙ (ap (λ d. ChunkPart d (w % 512)) chunk_is ∙ ap (λ r. ChunkPart c r) rest_is))))
    where
      in_zone : is_in_zone sh (page_of_chunk sh c) ≡ true
      in_zone = and_from (nat_le (page_of_zone sh 0) (page_of_chunk sh c)) (nat_lt (page_of_chunk sh c) (page_of_zone sh sh.zones)) (le-leb (page_of_zone sh 0) (page_of_chunk sh c) (omega arith)) (lt-ltb (page_of_chunk sh c) (page_of_zone sh sh.zones) (omega arith))

      no_descriptor : is_descriptor_word sh w ≡ false
      no_descriptor = let e : eqb (page_in_zone sh (w / 512)) 0 ≡ false = ne_eqb (page_in_zone sh (w / 512)) 0 (λ q. let y = in_zone_is in let z : page_in_zone sh (w / 512) ≡ page_in_zone sh (page_of_chunk sh c) = ap (page_in_zone sh) page_is in omega arith) in
          and_left (is_in_zone sh (w / 512) && page_in_zone sh (w / 512) == 0) (nat_lt (w % 512) 64) (and_right (is_in_zone sh (w / 512)) (page_in_zone sh (w / 512) == 0) e)

      chunk_page : is_chunk_page sh (w / 512) ≡ true
      chunk_page = ap (is_chunk_page sh) page_is ∙ and_from (is_in_zone sh (page_of_chunk sh c)) (nat_le 1 (page_in_zone sh (page_of_chunk sh c))) in_zone (le-leb 1 (page_in_zone sh (page_of_chunk sh c)) (let y = in_zone_is in omega arith))

  -- the pool ends before the words of other chunks
  pub no_part : chunks_of sh ≤ c → pool_part sh (word_of_chunk sh c + u) ≡ OtherPart
  no_part l = cond-false (w == word_of_root sh) RootPart (cond (is_descriptor_word sh w) (DescriptorPart (chunk_described sh w)) rest) not_root
      ∙ (cond-false (is_descriptor_word sh w) (DescriptorPart (chunk_described sh w)) rest (and_left (is_in_zone sh (w / 512) && page_in_zone sh (w / 512) == 0) (nat_lt (w % 512) 64) (and_left (is_in_zone sh (w / 512)) (page_in_zone sh (w / 512) == 0) outside))
      ∙ cond-false (is_chunk_page sh (w / 512)) (ChunkPart (chunk_at sh (w / 512)) (w % 512)) OtherPart (and_left (is_in_zone sh (w / 512)) (nat_le 1 (page_in_zone sh (w / 512))) outside))
    where
      outside : is_in_zone sh (w / 512) ≡ false
      outside = ap (is_in_zone sh) page_is ∙ and_right (nat_le (page_of_zone sh 0) (page_of_chunk sh c)) (nat_lt (page_of_chunk sh c) (page_of_zone sh sh.zones)) (ltb_no (page_of_chunk sh c) (page_of_zone sh sh.zones) (omega arith))
        where
          ltb_no : (a b : ℕ) → b ≤ a → nat_lt a b ≡ false
          ltb_no a b l = Rattle.std.proofs.lemmas.Bool.false_from_ne_true (nat_lt a b) (λ t. let q = Rattle.std.proofs.lemmas.Bool.ltb-true a b t in absurd (omega arith))

pub run_chunk_is : (sh : Shape) (c place : ℕ) → place ≡ 4096 * page_of_chunk sh c → chunk_at sh (place / 4096) ≡ c
run_chunk_is sh c place e = let q : place / 4096 ≡ page_of_chunk sh c = omega arith in ap (chunk_at sh) q ∙ chunk_is sh c 0 (omega arith)

pub page_apart : (sh : Shape) (c d : ℕ) → page_of_chunk sh c ≡ page_of_chunk sh d → c ≡ d
page_apart sh c d e = omega arith

-- ---- bits
pub pow_bit : (i j : ℕ) → bit (2 ^ i) j ≡ (j == i)
pow_bit i j = ⊎_elim (λ (e : j ≡ i). eq-eqb (bit_at (2 ^ i) j) 1 (ap (bit_at (2 ^ i)) e ∙ bit_at-pow_same i) ∙ sym (eq-eqb j i e))
    (λ (ne : j ≢ i). let z = bit_at-pow_other i j ne in ne_eqb (bit_at (2 ^ i) j) 1 (λ e. omega arith) ∙ sym (ne_eqb j i ne)) (cases_eq j i)

pub or_bit : (a b j : ℕ) → bit (bit_or a b) j ≡ (bit b j || bit a j)
or_bit a b j = let y = bit_at_or a b j in go (bit_at a j) (bit_at b j) (bit_at-lt a j) (bit_at-lt b j) (bit_at (bit_or a b) j) y
  where
    go : (x y : ℕ) → x < 2 → y < 2 → (z : ℕ) → z ≡ max x y → (z == 1) ≡ ((y == 1) || (x == 1))
    go x y p q z e = ⊎_elim (λ (a : y ≡ 1). eq-eqb z 1 (e ∙ omega arith) ∙ sym (Rattle.std.proofs.lemmas.Bool.or_left (y == 1) (x == 1) (eq-eqb y 1 a)))
        (λ (a : y ≢ 1). let r : z ≡ x = e ∙ omega arith in ap (λ m. m == 1) r ∙ sym (ap (λ t. t || (x == 1)) (ne_eqb y 1 a))) (cases_eq y 1)

-- where none of some bits is set, each of them is clear
pub clear_bit : (a b j : ℕ) → bit_and a b ≡ 0 → bit b j ≡ true → bit a j ≡ false
clear_bit a b j e t = ne_eqb (bit_at a j) 1 (λ q. let z = sym (bit_at_and a b j) ∙ (ap (λ n. bit_at n j) e ∙ bit_at-zero j) in let y = Rattle.std.proofs.lemmas.Bool.eqb-true (bit_at b j) 1 t in absurd (omega arith))
