-- In a heap without a fault each word of a block lies in a chunk that is taken, and, where that is a run, under the block's bit.
use Rattle.std.proofs.Common.{◌≡◌, ⊎_elim, ℕ, ◌+◌, ◌-◌, ◌*◌, ◌/◌, ◌%◌, ◌<◌, ◌≤◌, ◌&&◌, ◌||◌, Bool, true, false, not, eqb, leb, ltb, Some, sym, ◌∙◌, ap, subst, arith, eq-eqb, ne_eqb}
use Rattle.std.specs.Int.{bit_at}
use Rattle.std.specs.List.{Contains, list_any, range_with_len}
use Rattle.std.proofs.lemmas.Bool.{and_from, cases_eq, le-leb, lt-ltb, not_from_false, or_left, or_right}
use Rattle.std.proofs.lemmas.List.Folds.{list_any_at}
use Rattle.std.proofs.lemmas.Nat.{div-mul-add}
use Rattle.std.proofs.Math.Nat.{mul_comm}
use Rattle.pm_layout.specs.declared.class.Class.TheVariants.{Chunks}
use Rattle.pm_image.specs.declared.block.Block.{Block}
use Rattle.pm_image.specs.Blocks.{chunk_word, class_in, descriptor_word}
use Rattle.pm_image.specs.HeapFaults.{bad_chunk}
use Rattle.pm_image.proofs.HeapWords.{chunks_fit}
use Rattle.pm_image.proofs.Members.{range_member}
use Rattle.pm_image.proofs.Ordered.{further_zeros}
use Rattle.pm_image.proofs.Rooms.{run_fits}
use Rattle.solo_view.specs.Blocks.{bitmap_word, chunk_of, descriptor_word as lane_descriptor, is_chunk, is_huge, is_run, zone_of, zone_page}
use Rattle.solo_view.specs.Occupancy.{is_chunk_taken, is_in_block, reaches}
use Rattle.solo_crash.proofs.Classes.{chunks_of_class, lines_of_class}
use Rattle.solo_crash.proofs.FoundBlocks.{IsPageOf, page_of_chunk}
use Rattle.solo_crash.proofs.Standing.{IsChunkBlock, IsRunBlock}

-- the word is in the block's
pub record IsIn (block : Block) (i : ℕ) : Type 0 where
  pub from : block.place ≤ 8 * i
  pub to : 8 * i < block.place + 64 * block.lines

-- the two ways to be in a block, from the parts
by_parts : (in_chunk taken not_run bit : Bool) → in_chunk ≡ true → taken ≡ true → (not_run || bit) ≡ true → (in_chunk && taken && (not_run || bit)) ≡ true
by_parts in_chunk taken not_run bit one two three = and_from (in_chunk && taken) (not_run || bit) (and_from in_chunk taken one two) three

pub in_run_block : (w : ℕ → ℕ) (lanes c i : ℕ) (block : Block) → IsRunBlock w lanes c block → IsIn block i → is_in_block w lanes i ≡ true
in_run_block w lanes c i block run inside =
    let lines : ℕ = run.lines in
    let before : ℕ = lines * run.index in
    let here : IsIn (record { place = 8 * chunk_word lanes c + 64 * (1 + lines * run.index); lines = lines }) i = subst (λ (b : Block). IsIn b i) (sym run.is_block) inside in
    let from = here.from in
    let to = here.to in
    let fits : 1 + before + lines ≤ 64 = run_fits lines run.index run.inside in
    let page : ℕ = i / 512 in
    let at : page ≡ 2 + 2 * lanes + 65 * (c / 64) + c % 64 = omega arith in
    let of : IsPageOf lanes page c = page_of_chunk lanes page c at in
    let zone : zone_of lanes page ≡ c / 64 = omega arith in
    let chunk : chunk_of lanes page ≡ 1 + c % 64 = omega arith in
    let class = lines_of_class (w (descriptor_word lanes c)) lines run.is_run in
    let count : w (lane_descriptor lanes page) / 256 ≡ lines = ap (λ n. w n / 256) of.descriptor ∙ class.1 in
    let is : is_run (w (lane_descriptor lanes page)) ≡ true = eq-eqb (w (lane_descriptor lanes page) % 256) 1 (ap (λ n. w n % 256) of.descriptor ∙ class.0) in
    let described : 512 * zone_page lanes (zone_of lanes page) + (chunk_of lanes page - 1) ≡ lane_descriptor lanes page = omega arith in
    let taken : is_chunk_taken w lanes (zone_of lanes page) (chunk_of lanes page - 1) ≡ true =
    or_left (is_run (w (512 * zone_page lanes (zone_of lanes page) + (chunk_of lanes page - 1)))) (list_any (reaches w lanes (zone_of lanes page) (chunk_of lanes page - 1)) (range_with_len 0 (chunk_of lanes page - 1 + 1))) (ap (λ n. is_run (w n)) described ∙ is) in
    let line : ℕ = i % 512 / 8 - 1 in
    let rest : ℕ = line - before in
    let near : rest < lines = omega arith in
    let low : 8 ≤ i % 512 = omega arith in
    let split : line ≡ run.index * lines + rest = (let e : before + rest ≡ line = omega arith in let turned : lines * run.index ≡ run.index * lines = mul_comm lines run.index in omega arith) in
    let index : line / (w (lane_descriptor lanes page) / 256) ≡ run.index = ap (λ n. line / n) count ∙ (ap (λ n. n / lines) split ∙ div-mul-add run.index lines rest near) in
    let set : bit_at (w (bitmap_word page)) (line / (w (lane_descriptor lanes page) / 256)) ≡ 1 = ap (bit_at (w (bitmap_word page))) index ∙ (ap (λ n. bit_at (w n) run.index) of.bitmap ∙ run.is_set) in
    by_parts (is_chunk lanes page) (is_chunk_taken w lanes (zone_of lanes page) (chunk_of lanes page - 1)) (not (is_run (w (lane_descriptor lanes page)))) (leb 8 (i % 512) && eqb (bit_at (w (bitmap_word page)) (line / (w (lane_descriptor lanes page) / 256))) 1)
    of.in_chunk taken
    (or_right (not (is_run (w (lane_descriptor lanes page)))) (leb 8 (i % 512) && eqb (bit_at (w (bitmap_word page)) (line / (w (lane_descriptor lanes page) / 256))) 1)
    (and_from (leb 8 (i % 512)) (eqb (bit_at (w (bitmap_word page)) (line / (w (lane_descriptor lanes page) / 256))) 1) (le-leb 8 (i % 512) low) (eq-eqb _ 1 set)))

-- the descriptor of a whole block's chunk is no run's
no_run_in : (w : ℕ → ℕ) (lanes c n k : ℕ) → bad_chunk w lanes c ≡ false → class_in (w (descriptor_word lanes c)) ≡ Some (Chunks n) → k < n → is_run (w (descriptor_word lanes (c + k))) ≡ false
no_run_in w lanes c n k good is low =
    ⊎_elim
    (λ (first : k ≡ 0). let two = (chunks_of_class (w (descriptor_word lanes c)) n is).0 in
    let same : w (descriptor_word lanes (c + k)) ≡ w (descriptor_word lanes c) = ap (λ j. w (descriptor_word lanes j)) (let e : c + k ≡ c = omega arith in e) in
    ne_eqb (w (descriptor_word lanes (c + k)) % 256) 1 (λ one. absurd (omega arith)))
    (λ (later : k ≡ 0 → ⊥).
    let zero : w (descriptor_word lanes (c + k)) ≡ 0 = ap (λ j. w (descriptor_word lanes j)) (let e : c + k ≡ c + 1 + (k - 1) = omega arith in e) ∙ further_zeros w lanes c n good is (k - 1) (omega arith) in
    ne_eqb (w (descriptor_word lanes (c + k)) % 256) 1 (λ one. absurd (omega arith)))
    (cases_eq k 0)

pub in_chunk_block : (w : ℕ → ℕ) (lanes c i : ℕ) (block : Block) → bad_chunk w lanes c ≡ false → IsChunkBlock w lanes c block → IsIn block i → is_in_block w lanes i ≡ true
in_chunk_block w lanes c i block good whole inside =
    let n : ℕ = whole.chunks in
    let here : IsIn (record { place = 8 * chunk_word lanes c; lines = 64 * n }) i = subst (λ (b : Block). IsIn b i) (sym whole.is_block) inside in
    let from = here.from in
    let to = here.to in
    let fits : c % 64 + n ≤ 64 = chunks_fit w lanes c n good whole.is_first in
    let page : ℕ = i / 512 in
    let k : ℕ = page - (2 + 2 * lanes + 65 * (c / 64) + c % 64) in
    let low : k < n = omega arith in
    let at : page ≡ 2 + 2 * lanes + 65 * (c / 64) + c % 64 + k = omega arith in
    let of : IsPageOf lanes page (c + k) = page_of_chunk lanes page (c + k) (omega arith) in
    let zone : zone_of lanes page ≡ c / 64 = omega arith in
    let chunk : chunk_of lanes page ≡ 1 + c % 64 + k = omega arith in
    let class = chunks_of_class (w (descriptor_word lanes c)) n whole.is_first in
    let first : ℕ = c % 64 in
    let described : 512 * zone_page lanes (zone_of lanes page) + first ≡ descriptor_word lanes c = omega arith in
    let huge : is_huge (w (512 * zone_page lanes (zone_of lanes page) + first)) ≡ true = eq-eqb (w (512 * zone_page lanes (zone_of lanes page) + first) % 256) 2 (ap (λ m. w m % 256) described ∙ class.0) in
    let count : w (512 * zone_page lanes (zone_of lanes page) + first) / 256 ≡ n = ap (λ m. w m / 256) described ∙ class.1 in
    let reached : reaches w lanes (zone_of lanes page) (chunk_of lanes page - 1) first ≡ true =
    and_from (is_huge (w (512 * zone_page lanes (zone_of lanes page) + first))) (ltb (chunk_of lanes page - 1) (first + w (512 * zone_page lanes (zone_of lanes page) + first) / 256)) huge
    (lt-ltb (chunk_of lanes page - 1) (first + w (512 * zone_page lanes (zone_of lanes page) + first) / 256) (omega arith)) in
    let member : Contains (range_with_len 0 (chunk_of lanes page - 1 + 1)) first = range_member (chunk_of lanes page - 1 + 1) first (omega arith) in
    let taken : is_chunk_taken w lanes (zone_of lanes page) (chunk_of lanes page - 1) ≡ true =
    or_right (is_run (w (512 * zone_page lanes (zone_of lanes page) + (chunk_of lanes page - 1)))) (list_any (reaches w lanes (zone_of lanes page) (chunk_of lanes page - 1)) (range_with_len 0 (chunk_of lanes page - 1 + 1)))
    (list_any_at (reaches w lanes (zone_of lanes page) (chunk_of lanes page - 1)) (range_with_len 0 (chunk_of lanes page - 1 + 1)) member.0 first member.1 (ap (reaches w lanes (zone_of lanes page) (chunk_of lanes page - 1)) member.2 ∙ reached)) in
    by_parts (is_chunk lanes page) (is_chunk_taken w lanes (zone_of lanes page) (chunk_of lanes page - 1)) (not (is_run (w (lane_descriptor lanes page)))) (leb 8 (i % 512) && eqb (bit_at (w (bitmap_word page)) ((i % 512 / 8 - 1) / (w (lane_descriptor lanes page) / 256))) 1)
    of.in_chunk taken
    (or_left (not (is_run (w (lane_descriptor lanes page)))) (leb 8 (i % 512) && eqb (bit_at (w (bitmap_word page)) ((i % 512 / 8 - 1) / (w (lane_descriptor lanes page) / 256))) 1)
    (not_from_false (is_run (w (lane_descriptor lanes page))) (ap (λ m. is_run (w m)) of.descriptor ∙ no_run_in w lanes c n k good whole.is_first low)))
