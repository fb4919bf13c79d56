-- The blocks of a heap without a fault stand in rising places, each behind the end of the one before. Places and ends are in bytes.
use Rattle.std.proofs.Common.{◌≡◌, ℕ, zero, suc, ◌+◌, ◌-◌, ◌*◌, ◌%◌, ◌<◌, ◌≤◌, Bool, true, false, cond, eqb, leb, List, [], ◌∷◌, ◌++◌, length, get_or, map, Option, Some, None, refl, sym, ◌∙◌, ap, subst, arith}
use Rattle.std.specs.Int.{bit_at}
use Rattle.std.specs.List.{filter, flat_map, list_all, range_with_len}
use Rattle.std.proofs.lemmas.Bool.{false≢true, eqb-true}
use Rattle.std.proofs.Math.Nat.{mul-suc}
use Rattle.pm_layout.specs.Sizes.{block_place, blocks_of}
use Rattle.pm_layout.specs.declared.class.Class.{Class}
use Rattle.pm_layout.specs.declared.class.Class.TheVariants.{Lines, Chunks}
use Rattle.pm_image.specs.declared.block.Block.{Block}
use Rattle.pm_image.specs.Blocks.{descriptor_word, chunk_word, class_in, run_blocks, blocks_in, chunk_blocks, blocks}
use Rattle.pm_image.specs.HeapFaults.{bad_chunk, zeros_behind}
use Rattle.pm_image.proofs.FaultFree.{described}
use Rattle.pm_image.proofs.Ranges.{all_fails}
use Rattle.pm_image.proofs.Rooms.{run_fits}
use Rattle.pm_image.proofs.HeapWords.{both, chunks_fit}

-- each block stands behind the one before, the first not before `from`
abbrev pub Rise : ℕ → List Block → Type 0
Rise from [] = Unit {0}
Rise from (b ∷ bs) = (from ≤ b.place) × Rise (b.place + 64 * b.lines) bs

-- and all of them end before `to`
abbrev RiseTo : ℕ → List Block → ℕ → Type 0
RiseTo from [] to = from ≤ to
RiseTo from (b ∷ bs) to = (from ≤ b.place) × RiseTo (b.place + 64 * b.lines) bs to

lower : (before from : ℕ) (bs : List Block) → before ≤ from → Rise from bs → Rise before bs
lower before from [] less is = tt
lower before from (b ∷ bs) less is = let first : from ≤ b.place = is.0 in (omega arith, is.1)

lower_to : (before from to : ℕ) (bs : List Block) → before ≤ from → RiseTo from bs to → RiseTo before bs to
lower_to before from to [] less is = omega arith
lower_to before from to (b ∷ bs) less is = let first : from ≤ b.place = is.0 in (omega arith, is.1)

higher_to : (from to beyond : ℕ) (bs : List Block) → to ≤ beyond → RiseTo from bs to → RiseTo from bs beyond
higher_to from to beyond [] more is = omega arith
higher_to from to beyond (b ∷ bs) more is = (is.0, higher_to (b.place + 64 * b.lines) to beyond bs more is.1)

joined : (from to : ℕ) (xs ys : List Block) → RiseTo from xs to → Rise to ys → Rise from (xs ++ ys)
joined from to [] ys is rest = lower from to ys is rest
joined from to (x ∷ xs) ys is rest = (is.0, joined (x.place + 64 * x.lines) to xs ys is.1 rest)

abbrev made : ℕ → ℕ → ℕ → Block
made place lines i = record { place = block_place place lines i; lines = lines }

next_place : (place lines k : ℕ) → place + 64 * (1 + lines * k) + 64 * lines ≡ place + 64 * (1 + lines * (k + 1))
next_place place lines k =
    let at : k + 1 ≡ suc k = omega arith in
    let more : lines * (k + 1) ≡ lines * k + lines = ap (λ (j : ℕ). lines * j) at ∙ mul-suc lines k in
    omega arith

-- one block of a run more, or not
one_kept : (place lines k to : ℕ) (rest : List ℕ) (b : Bool) → RiseTo (place + 64 * (1 + lines * (k + 1))) (map (made place lines) rest) to
    → RiseTo (place + 64 * (1 + lines * k)) (map (made place lines) (cond b (k ∷ rest) rest)) to
one_kept place lines k to rest true later =
    let next = next_place place lines k in
    (omega arith, subst (λ (n : ℕ). RiseTo n (map (made place lines) rest) to) (sym next) later)
one_kept place lines k to rest false later =
    let next = next_place place lines k in
    lower_to (place + 64 * (1 + lines * k)) (place + 64 * (1 + lines * (k + 1))) to (map (made place lines) rest) (omega arith) later

-- the blocks of a run from the k-th on
run_rises : (place lines : ℕ) (p : ℕ → Bool) (k n : ℕ) → RiseTo (place + 64 * (1 + lines * k)) (map (made place lines) (filter p (range_with_len k n))) (place + 64 * (1 + lines * (k + n)))
run_rises place lines p k zero =
    let none : k + 0 ≡ k = omega arith in
    let same : lines * (k + 0) ≡ lines * k = ap (λ (j : ℕ). lines * j) none in
    omega arith
run_rises place lines p k (suc n) =
    let last : k + 1 + n ≡ k + suc n = omega arith in
    one_kept place lines k (place + 64 * (1 + lines * (k + suc n))) (filter p (range_with_len (k + 1) n)) (p k)
    (subst (λ (m : ℕ). RiseTo (place + 64 * (1 + lines * (k + 1))) (map (made place lines) (filter p (range_with_len (k + 1) n))) (place + 64 * (1 + lines * m))) last (run_rises place lines p (k + 1) n))

-- a run has room for its blocks behind its bitmap's line
room : (lines n : ℕ) → blocks_of lines ≡ n → 1 + lines * n ≤ 64
room lines zero is = omega arith
room lines (suc m) is =
    let fits : 1 + lines * m + lines ≤ 64 = run_fits lines m (subst (λ (n : ℕ). m < n) (sym is) (omega arith)) in
    let more : lines * suc m ≡ lines * m + lines = mul-suc lines m in
    omega arith

run_ends : (place bitmap lines : ℕ) → RiseTo place (run_blocks place bitmap lines) (place + 4096)
unfolding run_blocks
run_ends place bitmap lines =
    let fits : 1 + lines * blocks_of lines ≤ 64 = room lines (blocks_of lines) refl in
    let none : lines * 0 ≡ 0 = omega arith in
    let all : 0 + blocks_of lines ≡ blocks_of lines = omega arith in
    let rises = run_rises place lines (λ i. eqb (bit_at bitmap i) 1) 0 (blocks_of lines) in
    let ended : RiseTo (place + 64 * (1 + lines * 0)) (map (made place lines) (filter (λ i. eqb (bit_at bitmap i) 1) (range_with_len 0 (blocks_of lines)))) (place + 64 * (1 + lines * blocks_of lines)) =
    subst (λ (n : ℕ). RiseTo (place + 64 * (1 + lines * 0)) (map (made place lines) (filter (λ i. eqb (bit_at bitmap i) 1) (range_with_len 0 (blocks_of lines)))) (place + 64 * (1 + lines * n))) all rises in
    higher_to place (place + 64 * (1 + lines * blocks_of lines)) (place + 4096) _ (omega arith) (lower_to place (place + 64 * (1 + lines * 0)) (place + 64 * (1 + lines * blocks_of lines)) _ (omega arith) ended)

-- the chunk behind this one
next_chunk : (lanes c : ℕ) → 8 * chunk_word lanes c + 4096 ≤ 8 * chunk_word lanes (c + 1)
next_chunk lanes c = omega arith

behind_chunks : (lanes c n : ℕ) → c % 64 + n ≤ 64 → 8 * chunk_word lanes c + 4096 * n ≤ 8 * chunk_word lanes (c + 1 + (n - 1))
behind_chunks lanes c n fits = omega arith

passes_at : (p : ℕ → Bool) (n k : ℕ) → k < n → list_all p (range_with_len 0 n) ≡ true → p k ≡ true
passes_at p n k inside all = go (p k) refl where
  go : (b : Bool) → p k ≡ b → b ≡ true
  go true is = refl
  go false is = absurd (false≢true (sym (all_fails p n k inside is) ∙ all))

-- the descriptors of the further chunks of a block are 0
pub further_zeros : (w : ℕ → ℕ) (lanes c n : ℕ) → bad_chunk w lanes c ≡ false → class_in (w (descriptor_word lanes c)) ≡ Some (Chunks n) → (k : ℕ) → k < n - 1 → w (descriptor_word lanes (c + 1 + k)) ≡ 0
unfolding zeros_behind
further_zeros w lanes c n good is k inside =
    let at : ℕ = descriptor_word lanes c in
    let is_zero : ℕ → Bool = λ j. eqb (w (at + 1 + j)) 0 in
    let fits : c % 64 + n ≤ 64 = chunks_fit w lanes c n good is in
    let all : list_all is_zero (range_with_len 0 (n - 1)) ≡ true = (both (leb (c % 64 + n) 64) (list_all is_zero (range_with_len 0 (n - 1))) (described w lanes c (Some (Chunks n)) good is)).1 in
    let place : descriptor_word lanes (c + 1 + k) ≡ at + 1 + k = omega arith in
    ap w place ∙ eqb-true (w (at + 1 + k)) 0 (passes_at is_zero (n - 1) k inside all)

none_in : (w : ℕ → ℕ) (lanes c : ℕ) → class_in (w (descriptor_word lanes c)) ≡ None → chunk_blocks w lanes c ≡ []
unfolding chunk_blocks
none_in w lanes c is = ap (λ (o : Option Class). blocks_in o (8 * chunk_word lanes c) (w (chunk_word lanes c))) is

pub no_class : class_in 0 ≡ None
unfolding class_in
no_class = refl

-- the blocks of a chunk and of those behind it, by what the chunk is
chunk_and_rest : (w : ℕ → ℕ) (lanes c from : ℕ) (rest : List Block) (class : Option Class) → bad_chunk w lanes c ≡ false → class_in (w (descriptor_word lanes c)) ≡ class → from ≤ 8 * chunk_word lanes c
    → ((skip next : ℕ) → ((k : ℕ) → k < skip → w (descriptor_word lanes (c + 1 + k)) ≡ 0) → next ≤ 8 * chunk_word lanes (c + 1 + skip) → Rise next rest)
    → Rise from (blocks_in class (8 * chunk_word lanes c) (w (chunk_word lanes c)) ++ rest)
chunk_and_rest w lanes c from rest None good is behind later =
    let next = next_chunk lanes c in
    let here : c + 1 + 0 ≡ c + 1 = omega arith in
    later 0 from (λ k inside. absurd (omega arith)) (subst (λ (j : ℕ). from ≤ 8 * chunk_word lanes j) (sym here) (omega arith))
chunk_and_rest w lanes c from rest (Some (Lines lines)) good is behind later =
    let place : ℕ = 8 * chunk_word lanes c in
    let next = next_chunk lanes c in
    let here : c + 1 + 0 ≡ c + 1 = omega arith in
    joined from (place + 4096) (run_blocks place (w (chunk_word lanes c)) lines) rest (lower_to from place (place + 4096) (run_blocks place (w (chunk_word lanes c)) lines) behind (run_ends place (w (chunk_word lanes c)) lines))
    (later 0 (place + 4096) (λ k inside. absurd (omega arith)) (subst (λ (j : ℕ). place + 4096 ≤ 8 * chunk_word lanes j) (sym here) next))
chunk_and_rest w lanes c from rest (Some (Chunks n)) good is behind later =
    let fits : c % 64 + n ≤ 64 = chunks_fit w lanes c n good is in
    let end = behind_chunks lanes c n fits in
    (behind, later (n - 1) (8 * chunk_word lanes c + 64 * (64 * n)) (further_zeros w lanes c n good is) (omega arith))

whole_chunk : (w : ℕ → ℕ) (lanes c from : ℕ) (rest : List Block) → bad_chunk w lanes c ≡ false → from ≤ 8 * chunk_word lanes c
    → ((skip next : ℕ) → ((k : ℕ) → k < skip → w (descriptor_word lanes (c + 1 + k)) ≡ 0) → next ≤ 8 * chunk_word lanes (c + 1 + skip) → Rise next rest)
    → Rise from (chunk_blocks w lanes c ++ rest)
unfolding chunk_blocks
whole_chunk w lanes c from rest good behind later = chunk_and_rest w lanes c from rest (class_in (w (descriptor_word lanes c))) good refl behind later

-- the blocks of so many chunks from chunk c on, the first `skip` of which belong to a block before
chunks_rise : (w : ℕ → ℕ) (lanes zones m c skip from : ℕ) → ((k : ℕ) → k < 64 * zones → bad_chunk w lanes k ≡ false) → c + m ≤ 64 * zones
    → ((k : ℕ) → k < skip → w (descriptor_word lanes (c + k)) ≡ 0) → from ≤ 8 * chunk_word lanes (c + skip) → Rise from (flat_map (chunk_blocks w lanes) (range_with_len c m))
chunks_rise w lanes zones zero c skip from good few zeros behind = tt
chunks_rise w lanes zones (suc m) c (suc skip) from good few zeros behind =
    let here : c + 0 ≡ c = omega arith in
    let free : class_in (w (descriptor_word lanes c)) ≡ None = ap class_in (ap (λ (j : ℕ). w (descriptor_word lanes j)) (sym here) ∙ zeros 0 (omega arith)) ∙ no_class in
    let place : c + suc skip ≡ c + 1 + skip = omega arith in
    subst (λ (bs : List Block). Rise from (bs ++ flat_map (chunk_blocks w lanes) (range_with_len (c + 1) m))) (sym (none_in w lanes c free))
    (chunks_rise w lanes zones m (c + 1) skip from good (omega arith)
    (λ k inside. let at : c + 1 + k ≡ c + suc k = omega arith in ap (λ (j : ℕ). w (descriptor_word lanes j)) at ∙ zeros (suc k) (omega arith))
    (subst (λ (j : ℕ). from ≤ 8 * chunk_word lanes j) place behind))
chunks_rise w lanes zones (suc m) c zero from good few zeros behind =
    let here : c + 0 ≡ c = omega arith in
    whole_chunk w lanes c from (flat_map (chunk_blocks w lanes) (range_with_len (c + 1) m)) (good c (omega arith)) (subst (λ (j : ℕ). from ≤ 8 * chunk_word lanes j) here behind)
    (λ skip next free reach. chunks_rise w lanes zones m (c + 1) skip next good (omega arith) free reach)

-- all blocks of a heap
pub blocks_rise : (w : ℕ → ℕ) (lanes zones : ℕ) → ((k : ℕ) → k < 64 * zones → bad_chunk w lanes k ≡ false) → Rise 0 (blocks w lanes zones)
unfolding blocks
blocks_rise w lanes zones good = chunks_rise w lanes zones (64 * zones) 0 0 0 good (omega arith) (λ k inside. absurd (omega arith)) (omega arith)

-- a block and the next
pub rise_at : (from : ℕ) (bs : List Block) (k : ℕ) (d : Block) → Rise from bs → k + 1 < length bs → (get_or bs k d).place + 64 * (get_or bs k d).lines ≤ (get_or bs (k + 1) d).place
rise_at from [] k d is inside = absurd (omega arith)
rise_at from (b ∷ []) k d is inside = absurd (omega arith)
rise_at from (a ∷ b ∷ bs) zero d is inside = is.1.0
rise_at from (a ∷ b ∷ bs) (suc k) d is inside =
    let place : suc k + 1 ≡ suc (k + 1) = omega arith in
    subst (λ (n : ℕ). (get_or (b ∷ bs) k d).place + 64 * (get_or (b ∷ bs) k d).lines ≤ (get_or (a ∷ b ∷ bs) n d).place) (sym place) (rise_at (a.place + 64 * a.lines) (b ∷ bs) k d is.1 (omega arith))
