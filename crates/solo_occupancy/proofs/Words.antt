-- The occupancy words that a pool's words give have each bit as it is to be, and are the only such words.
use Rattle.std.proofs.Common.{◌≡◌, ◌↔◌, ⊎_elim, ℕ, zero, suc, ◌+◌, ◌-◌, ◌*◌, ◌^◌, ◌<◌, ◌≤◌, Bool, true, false, ltb, List, length, map, slice_index, refl, sym, ap, ◌∙◌, subst, arith}
use Rattle.std.specs.Int.{bit_at}
use Rattle.std.specs.List.{range_with_len}
use Rattle.std.proofs.lemmas.Bool.{cases_Bool, cases_lt, cond-true, cond-false, le-ltb, lt-ltb}
use Rattle.std.proofs.lemmas.List.{ext_get_or}
use Rattle.std.proofs.lemmas.List.FromFn.{get_or-map-range_with_len, length-map-range_with_len}
use Rattle.std.proofs.lemmas.Nat.Bits.{bit_at-lt, bit_at_cat_high, bit_at_cat_low, same_from_bits_below}
use Rattle.solo_view.specs.Blocks.{is_chunk}
use Rattle.solo_view.specs.Occupancy.{IsOccupancy, is_block_taken, is_chunk_taken}
use Rattle.solo_occupancy.specs.Words.{bit_if, page_word_of, run_words_of, word_of_bits, zone_word_of, zone_words_of}

bit_most : (b : Bool) → bit_if b ≤ 1
bit_most true = omega arith
bit_most false = omega arith

word_below : (test : ℕ → Bool) (n : ℕ) → word_of_bits test n < 2 ^ n
unfolding word_of_bits
word_below test zero = omega arith
word_below test (suc n) =
    let rest = word_below test n in
    let double : 2 ^ suc n ≡ 2 * 2 ^ n = omega arith in
    top (test n) (2 ^ n) (word_of_bits test n) (2 ^ suc n) rest double
  where
    top : (b : Bool) (p r q : ℕ) → r < p → q ≡ 2 * p → bit_if b * p + r < q
    top true p r q low is = omega (arith, low, is)
    top false p r q low is = omega (arith, low, is)

bit_of_if : (b : Bool) → bit_at (bit_if b) 0 ≡ bit_if b
bit_of_if true = refl
bit_of_if false = refl

-- each bit is as the test says
bit_of_word : (test : ℕ → Bool) (n i : ℕ) → i < n → bit_at (word_of_bits test n) i ≡ bit_if (test i)
unfolding word_of_bits
bit_of_word test zero i low = absurd (omega arith)
bit_of_word test (suc n) i low =
    ⊎_elim (λ (below : i < n). bit_at_cat_low (bit_if (test n)) n (word_of_bits test n) i below ∙ bit_of_word test n i below)
    (λ (last : n ≤ i). let same : i ≡ n = omega arith in
    bit_at_cat_high (bit_if (test n)) n (word_of_bits test n) i (word_below test n) last
    ∙ (ap (bit_at (bit_if (test n))) (let e : i - n ≡ 0 = omega arith in e) ∙ (bit_of_if (test n) ∙ ap (λ j. bit_if (test j)) (sym same))))
    (cases_lt i n)

bit_is : (b : Bool) (x : ℕ) → x ≡ bit_if b → (x ≡ 1) ↔ (b ≡ true)
bit_is true x is = ((λ one. refl), (λ yes. is))
bit_is false x is = ((λ one. absurd (omega (arith, is, one))), (λ yes. absurd (let e : false ≡ true = yes in cc)))

pub run_words_count : (words : ℕ → ℕ) (lanes zones : ℕ) → length (run_words_of words lanes zones) ≡ 1 + 2 * lanes + 65 * zones
unfolding run_words_of
run_words_count words lanes zones = length-map-range_with_len (page_word_of words lanes) 0 (1 + 2 * lanes + 65 * zones)

pub zone_words_count : (words : ℕ → ℕ) (lanes zones : ℕ) → length (zone_words_of words lanes zones) ≡ 32
unfolding zone_words_of
zone_words_count words lanes zones = length-map-range_with_len (zone_word_of words lanes zones) 0 32

at_range : (f : ℕ → ℕ) (n i : ℕ) → i < n → slice_index (map f (range_with_len 0 n)) i ≡ f i
at_range f n i low =
    get_or-map-range_with_len f 0 n i i 0 low (omega arith)

page_word_at : (words : ℕ → ℕ) (lanes zones page : ℕ) → page < 1 + 2 * lanes + 65 * zones → slice_index (run_words_of words lanes zones) page ≡ page_word_of words lanes page
unfolding run_words_of
page_word_at words lanes zones page low = at_range (page_word_of words lanes) (1 + 2 * lanes + 65 * zones) page low

zone_word_at : (words : ℕ → ℕ) (lanes zones zone : ℕ) → zone < 32 → slice_index (zone_words_of words lanes zones) zone ≡ zone_word_of words lanes zones zone
unfolding zone_words_of
zone_word_at words lanes zones zone low = at_range (zone_word_of words lanes zones) 32 zone low

page_bit : (words : ℕ → ℕ) (lanes page block : ℕ) → is_chunk lanes page ≡ true → block < 64 → bit_at (page_word_of words lanes page) block ≡ bit_if (is_block_taken words lanes page block)
page_bit words lanes page block chunk low =
    ap (λ w. bit_at w block) (cond-true (is_chunk lanes page) (word_of_bits (is_block_taken words lanes page) 64) 0 chunk) ∙ bit_of_word (is_block_taken words lanes page) 64 block low

zone_bit : (words : ℕ → ℕ) (lanes zones zone chunk : ℕ) → zone < zones → chunk < 64 → bit_at (zone_word_of words lanes zones zone) chunk ≡ bit_if (is_chunk_taken words lanes zone chunk)
zone_bit words lanes zones zone chunk inside low =
    ap (λ w. bit_at w chunk) (cond-true (ltb zone zones) (word_of_bits (is_chunk_taken words lanes zone) 64) 0 (lt-ltb zone zones inside)) ∙ bit_of_word (is_chunk_taken words lanes zone) 64 chunk low

-- they are the occupancy words
pub words_are_occupancy : (words : ℕ → ℕ) (lanes zones : ℕ) → zones ≤ 32 → IsOccupancy (run_words_of words lanes zones) (zone_words_of words lanes zones) words lanes zones
words_are_occupancy words lanes zones most = record {
  pages = run_words_count words lanes zones;
  zone_count = zone_words_count words lanes zones;
  blocks = λ page block chunk inside low. bit_is (is_block_taken words lanes page block) _ (ap (λ w. bit_at w block) (page_word_at words lanes zones page inside) ∙ page_bit words lanes page block chunk low);
  chunks = λ zone chunk inside low. bit_is (is_chunk_taken words lanes zone chunk) _ (ap (λ w. bit_at w chunk) (zone_word_at words lanes zones zone (omega arith)) ∙ zone_bit words lanes zones zone chunk inside low);
}

bit_by : (b : Bool) (x : ℕ) → x < 2 → (x ≡ 1) ↔ (b ≡ true) → x ≡ bit_if b
bit_by true x small is = is.1 refl
bit_by false x small is = let not_one : x ≡ 1 → ⊥ = λ one. (let e : false ≡ true = is.0 one in cc) in omega (arith, small, not_one)

-- and there are no others whose words are 0 where there is no chunk, and no zone
pub one_page_word : (words : ℕ → ℕ) (lanes page x : ℕ) → x < 2 ^ 64 → (is_chunk lanes page ≡ false → x ≡ 0)
    → ((block : ℕ) → is_chunk lanes page ≡ true → block < 64 → (bit_at x block ≡ 1) ↔ (is_block_taken words lanes page block ≡ true)) → x ≡ page_word_of words lanes page
one_page_word words lanes page x small none bits =
    ⊎_elim (λ (chunk : is_chunk lanes page ≡ true).
    same_from_bits_below 64 x (page_word_of words lanes page) small (subst (λ w. w < 2 ^ 64) (sym (cond-true (is_chunk lanes page) (word_of_bits (is_block_taken words lanes page) 64) 0 chunk)) (word_below (is_block_taken words lanes page) 64))
    (λ block low. bit_by (is_block_taken words lanes page block) (bit_at x block) (bit_at-lt x block) (bits block chunk low) ∙ sym (page_bit words lanes page block chunk low)))
    (λ (no : is_chunk lanes page ≡ false). none no ∙ sym (cond-false (is_chunk lanes page) (word_of_bits (is_block_taken words lanes page) 64) 0 no))
    (cases_Bool (is_chunk lanes page))

pub one_zone_word : (words : ℕ → ℕ) (lanes zones zone x : ℕ) → x < 2 ^ 64 → (zones ≤ zone → x ≡ 0)
    → ((chunk : ℕ) → zone < zones → chunk < 64 → (bit_at x chunk ≡ 1) ↔ (is_chunk_taken words lanes zone chunk ≡ true)) → x ≡ zone_word_of words lanes zones zone
one_zone_word words lanes zones zone x small none bits =
    ⊎_elim (λ (inside : zone < zones).
    same_from_bits_below 64 x (zone_word_of words lanes zones zone) small (subst (λ w. w < 2 ^ 64) (sym (cond-true (ltb zone zones) (word_of_bits (is_chunk_taken words lanes zone) 64) 0 (lt-ltb zone zones inside))) (word_below (is_chunk_taken words lanes zone) 64))
    (λ chunk low. bit_by (is_chunk_taken words lanes zone chunk) (bit_at x chunk) (bit_at-lt x chunk) (bits chunk inside low) ∙ sym (zone_bit words lanes zones zone chunk inside low)))
    (λ (past : zones ≤ zone). none past ∙ sym (cond-false (ltb zone zones) (word_of_bits (is_chunk_taken words lanes zone) 64) 0 (le-ltb zone zones past)))
    (cases_lt zone zones)

-- lists of such words
pub run_words_are : (words : ℕ → ℕ) (lanes zones : ℕ) (runs : List ℕ) → length runs ≡ 1 + 2 * lanes + 65 * zones → ((page : ℕ) → page < 1 + 2 * lanes + 65 * zones → slice_index runs page ≡ page_word_of words lanes page)
    → runs ≡ run_words_of words lanes zones
run_words_are words lanes zones runs count each =
    ext_get_or 0 runs (run_words_of words lanes zones) (count ∙ sym (run_words_count words lanes zones))
    (λ page low. each page (omega arith) ∙ sym (page_word_at words lanes zones page (omega arith)))

pub zone_words_are : (words : ℕ → ℕ) (lanes zones : ℕ) (all : List ℕ) → length all ≡ 32 → ((zone : ℕ) → zone < 32 → slice_index all zone ≡ zone_word_of words lanes zones zone) → all ≡ zone_words_of words lanes zones
zone_words_are words lanes zones all count each =
    ext_get_or 0 all (zone_words_of words lanes zones) (count ∙ sym (zone_words_count words lanes zones))
    (λ zone low. each zone (omega arith) ∙ sym (zone_word_at words lanes zones zone (omega arith)))
