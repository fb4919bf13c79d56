-- No two blocks of a heap without a fault have a word in common, and the words of an object's bytes are none that tell of blocks.
use Rattle.std.proofs.Common.{◌≡◌, ◌≢◌, ◌⊎◌, ⊎_elim, inl, inr, ℕ, ◌+◌, ◌-◌, ◌*◌, ◌/◌, ◌%◌, ◌<◌, ◌≤◌, false, List, [], ◌∷◌, Some, None, sym, ◌∙◌, ap, subst, arith}
use Rattle.std.specs.List.{Contains}
use Rattle.std.proofs.lemmas.Bool.{cases_lt}
use Rattle.pm_layout.specs.declared.class.Class.TheVariants.{Lines}
use Rattle.pm_image.specs.declared.block.Block.{Block}
use Rattle.pm_image.specs.Blocks.{descriptor_word, chunk_word, class_in, blocks}
use Rattle.pm_image.specs.Contents.{data_words, size_in}
use Rattle.pm_image.specs.HeapFaults.{bad_chunk, heap_fault}
use Rattle.pm_image.specs.Reads.{AgreeOn, ReadsBlock}
use Rattle.pm_image.proofs.FaultFree.{block_good, chunk_good}
use Rattle.pm_image.proofs.Heads.{ReadsHeads}
use Rattle.pm_image.proofs.HeapWords.{chunks_fit, in_pool, object_fits}
use Rattle.pm_image.proofs.Members.{member_cases, no_member, range_member}
use Rattle.pm_image.proofs.Ordered.{blocks_rise, further_zeros, no_class, Rise}
use Rattle.pm_image.proofs.Pools.{good_size, some_lines, GoodSize}
use Rattle.pm_image.proofs.Rooms.{run_fits}
use Rattle.solo_crash.specs.Writes.{KeepsOthers}
use Rattle.solo_crash.proofs.Standing.{block_stands, IsChunkBlock, IsRunBlock, Stands}

-- each chunk of a heap without a fault is good, and its blocks rise
pub good_chunk : (w : ℕ → ℕ) (lanes zones c : ℕ) → heap_fault w lanes zones ≡ None → c < 64 * zones → bad_chunk w lanes c ≡ false
good_chunk w lanes zones c none inside = chunk_good w lanes zones c none (range_member (64 * zones) c inside)

pub rising : (w : ℕ → ℕ) (lanes zones : ℕ) → heap_fault w lanes zones ≡ None → Rise 0 (blocks w lanes zones)
rising w lanes zones none = blocks_rise w lanes zones (λ c inside. good_chunk w lanes zones c none inside)

pub size_of_block : (w : ℕ → ℕ) (lanes zones : ℕ) (block : Block) → heap_fault w lanes zones ≡ None → Contains (blocks w lanes zones) block → GoodSize w block
size_of_block w lanes zones block none there = good_size w block (block_good w lanes zones block none there)

pub lines_of_block : (w : ℕ → ℕ) (lanes zones : ℕ) (block : Block) → heap_fault w lanes zones ≡ None → Contains (blocks w lanes zones) block → 1 ≤ block.lines
lines_of_block w lanes zones block none there = some_lines w block (size_of_block w lanes zones block none there)

-- of rising blocks none begins before the first may
pub rise_member : (from : ℕ) (bs : List Block) (b : Block) → Rise from bs → Contains bs b → from ≤ b.place
rise_member from [] b rise there = absurd (no_member b there)
rise_member from (c ∷ bs) b rise there = ⊎_elim
    (λ (here : c ≡ b). subst (λ (x : Block). from ≤ x.place) here rise.0)
    (λ (later : Contains bs b). let first : from ≤ c.place = rise.0 in let behind : c.place + 64 * c.lines ≤ b.place = rise_member (c.place + 64 * c.lines) bs b rise.1 later in omega arith)
    (member_cases c bs b there)

-- of two of them one is the other, or ends before the other begins
pub apart : (from : ℕ) (bs : List Block) (b c : Block) → Rise from bs → Contains bs b → Contains bs c → (b ≡ c) ⊎ ((b.place + 64 * b.lines ≤ c.place) ⊎ (c.place + 64 * c.lines ≤ b.place))
apart from [] b c rise there other = absurd (no_member b there)
apart from (a ∷ bs) b c rise there other = ⊎_elim
    (λ (first : a ≡ b). ⊎_elim
    (λ (same : a ≡ c). inl (sym first ∙ same))
    (λ (later : Contains bs c). inr (inl (subst (λ (x : Block). x.place + 64 * x.lines ≤ c.place) first (rise_member (a.place + 64 * a.lines) bs c rise.1 later))))
    (member_cases a bs c other))
    (λ (rest : Contains bs b). ⊎_elim
    (λ (first : a ≡ c). inr (inr (subst (λ (x : Block). x.place + 64 * x.lines ≤ b.place) first (rise_member (a.place + 64 * a.lines) bs b rise.1 rest))))
    (λ (later : Contains bs c). apart (a.place + 64 * a.lines) bs b c rise.1 rest later)
    (member_cases a bs c other))
    (member_cases a bs b there)

-- the words of a block of a chunk are in its zone, behind the descriptors
pub record IsInZone (lanes c : ℕ) (block : Block) : Type 0 where
  pub begins : chunk_word lanes c ≤ block.place / 8
  pub ends : block.place / 8 + 8 * block.lines ≤ 33792 + 1024 * lanes + 33280 * (c / 64)

pub in_its_zone : (w : ℕ → ℕ) (lanes c : ℕ) (block : Block) → bad_chunk w lanes c ≡ false → IsRunBlock w lanes c block ⊎ IsChunkBlock w lanes c block → IsInZone lanes c block
in_its_zone w lanes c block good (inl run) =
    let before : ℕ = run.lines * run.index in
    let fits : 1 + run.lines * run.index + run.lines ≤ 64 = run_fits run.lines run.index run.inside in
    subst (IsInZone lanes c) run.is_block (record { begins = omega arith; ends = omega arith })
in_its_zone w lanes c block good (inr whole) =
    let fits : c % 64 + whole.chunks ≤ 64 = chunks_fit w lanes c whole.chunks good whole.is_first in
    subst (IsInZone lanes c) whole.is_block (record { begins = omega arith; ends = omega arith })

-- the bitmap of a run is in no other block's words behind their first line
pub record IsBehindHeader (block : Block) (i : ℕ) : Type 0 where
  pub from : block.place / 8 + 8 ≤ i
  pub to : i < block.place / 8 + 8 * block.lines

pub no_bitmap : (w : ℕ → ℕ) (lanes c other lines : ℕ) (block : Block) → bad_chunk w lanes c ≡ false → IsRunBlock w lanes c block ⊎ IsChunkBlock w lanes c block
    → class_in (w (descriptor_word lanes other)) ≡ Some (Lines lines) → IsBehindHeader block (chunk_word lanes other) → ⊥
no_bitmap w lanes c other lines block good (inl run) is_run inside =
    let before : ℕ = run.lines * run.index in
    let fits : 1 + run.lines * run.index + run.lines ≤ 64 = run_fits run.lines run.index run.inside in
    let here : IsBehindHeader (record { place = 8 * chunk_word lanes c + 64 * (1 + run.lines * run.index); lines = run.lines }) (chunk_word lanes other) = subst (λ (b : Block). IsBehindHeader b (chunk_word lanes other)) (sym run.is_block) inside in
    let from = here.from in
    let to = here.to in
    omega arith
no_bitmap w lanes c other lines block good (inr whole) is_run inside =
    let n : ℕ = whole.chunks in
    let fits : c % 64 + n ≤ 64 = chunks_fit w lanes c n good whole.is_first in
    let here : IsBehindHeader (record { place = 8 * chunk_word lanes c; lines = 64 * n }) (chunk_word lanes other) = subst (λ (b : Block). IsBehindHeader b (chunk_word lanes other)) (sym whole.is_block) inside in
    let from = here.from in
    let to = here.to in
    let zone : other / 64 ≡ c / 64 = omega arith in
    let later : c < other = omega arith in
    let near : other - c - 1 < n - 1 = omega arith in
    let place : c + 1 + (other - c - 1) ≡ other = omega arith in
    let free : w (descriptor_word lanes other) ≡ 0 = ap (λ (k : ℕ). w (descriptor_word lanes k)) (sym place) ∙ further_zeros w lanes c n good whole.is_first (other - c - 1) near in
    let clash : Some (Lines lines) ≡ None = sym is_run ∙ ap class_in free ∙ no_class in
    cc

-- the words that hold bytes of an object are read by nothing but its block
no_head : (w : ℕ → ℕ) (lanes zones : ℕ) (block : Block) (i : ℕ) → heap_fault w lanes zones ≡ None → Contains (blocks w lanes zones) block → ReadsHeads w lanes zones i
    → block.place / 8 + 8 ≤ i → i < block.place / 8 + 8 + data_words (size_in w block) → ⊥
no_head w lanes zones block i none there (inl root) from to =
    let stands = in_pool w lanes zones block none there in
    let begins = stands.begins in
    omega arith
no_head w lanes zones block i none there (inr (inl descriptor)) from to =
    let stands : Stands w lanes zones block = block_stands w lanes zones block there in
    let zone : IsInZone lanes stands.chunk block = in_its_zone w lanes stands.chunk block (good_chunk w lanes zones stands.chunk none stands.in_zones) stands.is in
    let fits : 8 + data_words (size_in w block) ≤ 8 * block.lines = object_fits w block (block_good w lanes zones block none there) in
    let begins = zone.begins in
    let ends = zone.ends in
    let is : i ≡ descriptor_word lanes descriptor.chunk = descriptor.is_word in
    omega arith
no_head w lanes zones block i none there (inr (inr (inl bitmap))) from to =
    let stands : Stands w lanes zones block = block_stands w lanes zones block there in
    let fits : 8 + data_words (size_in w block) ≤ 8 * block.lines = object_fits w block (block_good w lanes zones block none there) in
    no_bitmap w lanes stands.chunk bitmap.chunk bitmap.lines block (good_chunk w lanes zones stands.chunk none stands.in_zones) stands.is bitmap.is_run
    (subst (IsBehindHeader block) bitmap.is_word (record { from = from; to = omega arith }))
no_head w lanes zones block i none there (inr (inr (inr header))) from to =
    let fits : 8 + data_words (size_in w block) ≤ 8 * block.lines = object_fits w block (block_good w lanes zones block none there) in
    let lines : 1 ≤ header.block.lines = lines_of_block w lanes zones header.block none header.is_there in
    let read = header.is_read.to in
    let begun = header.is_read.from in
    ⊎_elim
    (λ (same : header.block ≡ block). let first : block.place / 8 ≡ header.block.place / 8 = ap (λ (b : Block). b.place / 8) (sym same) in omega arith)
    (λ (other : (header.block.place + 64 * header.block.lines ≤ block.place) ⊎ (block.place + 64 * block.lines ≤ header.block.place)). ⊎_elim
    (λ (before : header.block.place + 64 * header.block.lines ≤ block.place). omega arith)
    (λ (behind : block.place + 64 * block.lines ≤ header.block.place). omega arith)
    other)
    (apart 0 (blocks w lanes zones) header.block block (rising w lanes zones none) header.is_there there)

-- so a word that is read besides is not among them
outside_unless : (from to i : ℕ) → (from ≤ i → i < to → ⊥) → (i < from) ⊎ (to ≤ i)
outside_unless from to i never = ⊎_elim
    (λ (before : i < from). inl before)
    (λ (begun : from ≤ i). ⊎_elim (λ (inside : i < to). absurd (never begun inside)) (λ (behind : to ≤ i). inr behind) (cases_lt i to))
    (cases_lt i from)

pub heads_kept : (w v : ℕ → ℕ) (lanes zones : ℕ) (block : Block) → heap_fault w lanes zones ≡ None → Contains (blocks w lanes zones) block → KeepsOthers w v block → AgreeOn (ReadsHeads w lanes zones) w v
heads_kept w v lanes zones block none there keeps = record {
  same = λ i read. sym (keeps.same i (outside_unless (block.place / 8 + 8) (block.place / 8 + 8 + data_words (size_in w block)) i (λ from to. no_head w lanes zones block i none there read from to)));
}

-- nor is what another block reads
no_other : (w : ℕ → ℕ) (lanes zones : ℕ) (block other : Block) (i : ℕ) → heap_fault w lanes zones ≡ None → Contains (blocks w lanes zones) block → Contains (blocks w lanes zones) other
    → other.place ≢ block.place → ReadsBlock w other i → block.place / 8 + 8 ≤ i → i < block.place / 8 + 8 + data_words (size_in w block) → ⊥
no_other w lanes zones block other i none there other_there differ read from to =
    let fits : 8 + data_words (size_in w block) ≤ 8 * block.lines = object_fits w block (block_good w lanes zones block none there) in
    let other_fits : 8 + data_words (size_in w other) ≤ 8 * other.lines = object_fits w other (block_good w lanes zones other none other_there) in
    let begun = read.from in
    let read_to = read.to in
    ⊎_elim
    (λ (same : other ≡ block). differ (ap (λ (b : Block). b.place) same))
    (λ (either : (other.place + 64 * other.lines ≤ block.place) ⊎ (block.place + 64 * block.lines ≤ other.place)). ⊎_elim
    (λ (before : other.place + 64 * other.lines ≤ block.place). omega arith)
    (λ (behind : block.place + 64 * block.lines ≤ other.place). omega arith)
    either)
    (apart 0 (blocks w lanes zones) other block (rising w lanes zones none) other_there there)

pub others_kept : (w v : ℕ → ℕ) (lanes zones : ℕ) (block other : Block) → heap_fault w lanes zones ≡ None → Contains (blocks w lanes zones) block → KeepsOthers w v block
    → Contains (blocks w lanes zones) other → other.place ≢ block.place → AgreeOn (ReadsBlock w other) w v
others_kept w v lanes zones block other none there keeps other_there differ = record {
  same = λ i read. sym (keeps.same i (outside_unless (block.place / 8 + 8) (block.place / 8 + 8 + data_words (size_in w block)) i (λ from to. no_other w lanes zones block other i none there other_there differ read from to)));
}
