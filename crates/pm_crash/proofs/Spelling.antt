-- What the words are that bits at places spell, at the root's word, at descriptors and in chunks.
use Rattle.std.proofs.Common.{◌≡◌, ◌≢◌, ⊎_elim, ℕ, zero, suc, ◌+◌, ◌*◌, ◌/◌, ◌%◌, ◌^◌, ◌<◌, ◌≤◌, nat_le, nat_lt, ◌==◌, ◌&&◌, Bool, true, false, cond, refl, sym, ◌∙◌, ap, arith, eq-eqb, ne_eqb}
use Rattle.std.specs.List.{list_any, range_with_len}
use Rattle.std.proofs.lemmas.Bool.{and_from, and_parts, both_ways, cases_Bool, cond-false, cond-true, false_from_ne_true, le-leb, lt-ltb, or_cases, or_left, or_right}
use Rattle.pm_layout.specs.declared.shape.Shape.{Shape}
use Rattle.pm_layout.specs.Chunks.{chunk_at, chunk_described, chunks_of, is_chunk_page, is_descriptor_word, is_in_zone, page_in_zone, page_of_chunk, page_of_zone, word_of_chunk, word_of_descriptor, word_of_root}
use Rattle.pm_image.specs.Blocks.{chunk_word, descriptor_word}
use Rattle.pm_view.specs.Places.{InRun, RootWord}
use Rattle.pm_view.specs.Parts.{DescriptorPart, ChunkPart, pool_part}
use Rattle.pm_world.specs.States.{State, Word, val}
use Rattle.pm_world.specs.Memory.{bit}
use Rattle.pm_world.proofs.Values.{val_word}
use Rattle.pm_crash.specs.Spelled.{descriptor_by, has_blocks, number, use_in, word_by, words_by}

-- ---- NUMBERS

-- bits that are the same spell the same
pub same_number : (f h : Word) (i n : ℕ) → ((b : ℕ) → i ≤ b → b < i + n → f b ≡ h b) → val f i n ≡ val h i n
same_number f h i zero same = refl
same_number f h i (suc n) same =
    let here : f i ≡ h i = same i (omega arith) (omega arith) in
    let rest : val f (suc i) n ≡ val h (suc i) n = same_number f h (suc i) n (λ b l m. same b (omega arith) (omega arith)) in
    λ j. cond (here j) 1 0 + 2 * rest j

-- a word is what its bits spell
pub number_is : (f : Word) (x : ℕ) → x < 2 ^ 64 → ((b : ℕ) → b < 64 → f b ≡ bit x b) → number f ≡ x
number_is f x small same = same_number f (bit x) 0 64 (λ b l m. same b (omega arith)) ∙ val_word x small

-- no bits spell 0
pub number_zero : (f : Word) → ((b : ℕ) → b < 64 → f b ≡ false) → number f ≡ 0
number_zero f none = same_number f (λ b. false) 0 64 (λ b l m. none b (omega arith)) ∙ zeros 0 64
  where
    zeros : (i n : ℕ) → val (λ b. false) i n ≡ 0
    zeros i zero = refl
    zeros i (suc n) = ap (λ x. 0 + 2 * x) (zeros (suc i) n)

-- ---- WORDS AND THEIR PARTS

pub descriptor_is : (sh : Shape) (c : ℕ) → word_of_descriptor sh c ≡ descriptor_word sh.lanes c
descriptor_is sh c = omega arith

pub chunk_is : (sh : Shape) (c : ℕ) → word_of_chunk sh c ≡ chunk_word sh.lanes c
chunk_is sh c = omega arith

in_a_zone : (sh : Shape) (c page : ℕ) → c < chunks_of sh → page_of_zone sh (c / 64) ≤ page → page ≤ page_of_zone sh (c / 64) + 64
    → is_in_zone sh page ≡ true
in_a_zone sh c page inside from to = and_from (nat_le (page_of_zone sh 0) page) (nat_lt page (page_of_zone sh sh.zones))
    (le-leb (page_of_zone sh 0) page (omega arith)) (lt-ltb page (page_of_zone sh sh.zones) (omega arith))

pub descriptor_part : (sh : Shape) (c : ℕ) → c < chunks_of sh → pool_part sh (word_of_descriptor sh c) ≡ DescriptorPart c
descriptor_part sh c inside =
    let w : ℕ = word_of_descriptor sh c in
    let page : w / 512 ≡ page_of_zone sh (c / 64) = omega arith in
    let zone : is_in_zone sh (w / 512) ≡ true = in_a_zone sh c (w / 512) inside (omega arith) (omega arith) in
    let first : (page_in_zone sh (w / 512) == 0) ≡ true = eq-eqb (page_in_zone sh (w / 512)) 0 (omega arith) in
    let low : nat_lt (w % 512) 64 ≡ true = lt-ltb (w % 512) 64 (omega arith) in
    let number : chunk_described sh w ≡ c = omega arith in
    cond-false (w == word_of_root sh) _ _ (ne_eqb w (word_of_root sh) (λ q. omega arith))
    ∙ (cond-true (is_descriptor_word sh w) _ _ (and_from (is_in_zone sh (w / 512) && page_in_zone sh (w / 512) == 0) (nat_lt (w % 512) 64)
    (and_from (is_in_zone sh (w / 512)) (page_in_zone sh (w / 512) == 0) zone first) low)
    ∙ ap (λ n. DescriptorPart n) number)

pub chunk_part : (sh : Shape) (c r : ℕ) → c < chunks_of sh → r < 512 → pool_part sh (word_of_chunk sh c + r) ≡ ChunkPart c r
chunk_part sh c r inside low =
    let w : ℕ = word_of_chunk sh c + r in
    let page : w / 512 ≡ page_of_chunk sh c = omega arith in
    let place : w % 512 ≡ r = omega arith in
    let zone : is_in_zone sh (w / 512) ≡ true = in_a_zone sh c (w / 512) inside (omega arith) (omega arith) in
    let within : page_in_zone sh (w / 512) ≡ 1 + c % 64 = omega arith in
    let chunk : chunk_at sh (w / 512) ≡ c = omega arith in
    cond-false (w == word_of_root sh) _ _ (ne_eqb w (word_of_root sh) (λ q. omega arith))
    ∙ (cond-false (is_descriptor_word sh w) _ _ (false_from_ne_true (is_descriptor_word sh w) (λ t.
    let y = and_parts (is_in_zone sh (w / 512) && page_in_zone sh (w / 512) == 0) (nat_lt (w % 512) 64) t in
    let z = Rattle.std.proofs.lemmas.Bool.eqb-true (page_in_zone sh (w / 512)) 0 (and_parts (is_in_zone sh (w / 512)) (page_in_zone sh (w / 512) == 0) y.0).1 in omega arith))
    ∙ (cond-true (is_chunk_page sh (w / 512)) _ _ (and_from (is_in_zone sh (w / 512)) (nat_le 1 (page_in_zone sh (w / 512))) zone (le-leb 1 (page_in_zone sh (w / 512)) (omega arith)))
    ∙ (λ i. ChunkPart (chunk i) (place i))))

-- WHAT THE BITS SPELL
pub root_spelled : (sh : Shape) (class : ℕ → ℕ) (s : State) → words_by sh class s 64 ≡ number (s RootWord)
root_spelled sh class s = refl

pub descriptor_spelled : (sh : Shape) (class : ℕ → ℕ) (s : State) (c : ℕ) → c < chunks_of sh
    → words_by sh class s (descriptor_word sh.lanes c) ≡ descriptor_by class s c
descriptor_spelled sh class s c inside =
    ap (words_by sh class s) (sym (descriptor_is sh c)) ∙ ap (word_by class s) (descriptor_part sh c inside)

pub chunk_spelled : (sh : Shape) (class : ℕ → ℕ) (s : State) (c r : ℕ) → c < chunks_of sh → r < 512
    → words_by sh class s (chunk_word sh.lanes c + r) ≡ number (s (use_in s c r))
chunk_spelled sh class s c r inside low =
    ap (λ n. words_by sh class s (n + r)) (sym (chunk_is sh c)) ∙ ap (word_by class s) (chunk_part sh c r inside low)

-- ---- WHETHER A CHUNK HAS BLOCKS

any_from : (p : ℕ → Bool) (from n : ℕ) → list_any p (range_with_len from n) ≡ true → (i : ℕ) × (from ≤ i) × (i < from + n) × (p i ≡ true)
any_from p from zero e = absurd (both_ways false refl e)
any_from p from (suc n) e = ⊎_elim
    (λ (t : p from ≡ true). (from, (omega arith), (omega arith), t))
    (λ (t : list_any p (range_with_len (from + 1) n) ≡ true). let y = any_from p (from + 1) n t in (y.0, (let a = y.1 in omega arith), (let b = y.2 in omega arith), y.3))
    (or_cases (p from) (list_any p (range_with_len (from + 1) n)) e)

any_at : (p : ℕ → Bool) (from n i : ℕ) → from ≤ i → i < from + n → p i ≡ true → list_any p (range_with_len from n) ≡ true
any_at p from zero i a b e = absurd (omega arith)
any_at p from (suc n) i a b e = ⊎_elim
    (λ (q : i ≡ from). or_left (p from) (list_any p (range_with_len (from + 1) n)) (ap p (sym q) ∙ e))
    (λ (ne : i ≢ from). or_right (p from) (list_any p (range_with_len (from + 1) n)) (any_at p (from + 1) n i (omega arith) (omega arith) e))
    (Rattle.std.proofs.lemmas.Bool.cases_eq i from)

pub some_block : (s : State) (c : ℕ) → has_blocks s c ≡ true → (i : ℕ) × (i < 64) × (s (InRun c 0) i ≡ true)
some_block s c e = let y = any_from (s (InRun c 0)) 0 64 e in (y.0, (let b = y.2 in omega arith), y.3)

pub with_block : (s : State) (c i : ℕ) → i < 64 → s (InRun c 0) i ≡ true → has_blocks s c ≡ true
with_block s c i l e = any_at (s (InRun c 0)) 0 64 i (omega arith) (omega arith) e

pub no_block : (s : State) (c : ℕ) → has_blocks s c ≡ false → (i : ℕ) → i < 64 → s (InRun c 0) i ≡ false
no_block s c e i l = false_from_ne_true (s (InRun c 0) i) (λ t. both_ways (has_blocks s c) e (with_block s c i l t))
