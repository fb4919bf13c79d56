-- No two blocks of a heap without a fault have a word in common.
use Rattle.std.proofs.Common.{◌≡◌, ◌⊎◌, ⊎_elim, inl, inr, ℕ, ◌+◌, ◌*◌, ◌<◌, ◌≤◌, false, List, [], ◌∷◌, None, sym, ◌∙◌, subst, arith}
use Rattle.std.specs.List.{Contains}
use Rattle.pm_image.specs.declared.block.Block.{Block}
use Rattle.pm_image.specs.Blocks.{blocks}
use Rattle.pm_image.specs.HeapFaults.{bad_chunk, heap_fault}
use Rattle.pm_image.proofs.FaultFree.{block_good, chunk_good}
use Rattle.pm_image.proofs.Members.{member_cases, no_member, range_member}
use Rattle.pm_image.proofs.Ordered.{blocks_rise, Rise}
use Rattle.pm_image.proofs.Pools.{good_size, some_lines, GoodSize}

-- each chunk of a heap without a fault is good, and its blocks rise
pub good_chunk : (w : ℕ → ℕ) (lanes zones c : ℕ) → heap_fault w lanes zones ≡ None → c < 64 * zones → bad_chunk w lanes c ≡ false
good_chunk w lanes zones c none inside = chunk_good w lanes zones c none (range_member (64 * zones) c inside)

pub rising : (w : ℕ → ℕ) (lanes zones : ℕ) → heap_fault w lanes zones ≡ None → Rise 0 (blocks w lanes zones)
rising w lanes zones none = blocks_rise w lanes zones (λ c inside. good_chunk w lanes zones c none inside)

pub size_of_block : (w : ℕ → ℕ) (lanes zones : ℕ) (block : Block) → heap_fault w lanes zones ≡ None → Contains (blocks w lanes zones) block → GoodSize w block
size_of_block w lanes zones block none there = good_size w block (block_good w lanes zones block none there)

pub lines_of_block : (w : ℕ → ℕ) (lanes zones : ℕ) (block : Block) → heap_fault w lanes zones ≡ None → Contains (blocks w lanes zones) block → 1 ≤ block.lines
lines_of_block w lanes zones block none there = some_lines w block (size_of_block w lanes zones block none there)

-- of rising blocks none begins before the first may
pub rise_member : (from : ℕ) (bs : List Block) (b : Block) → Rise from bs → Contains bs b → from ≤ b.place
rise_member from [] b rise there = absurd (no_member b there)
rise_member from (c ∷ bs) b rise there = ⊎_elim
    (λ (here : c ≡ b). subst (λ (x : Block). from ≤ x.place) here rise.0)
    (λ (later : Contains bs b). let first : from ≤ c.place = rise.0 in let behind : c.place + 64 * c.lines ≤ b.place = rise_member (c.place + 64 * c.lines) bs b rise.1 later in omega arith)
    (member_cases c bs b there)

-- of two of them one is the other, or ends before the other begins
pub apart : (from : ℕ) (bs : List Block) (b c : Block) → Rise from bs → Contains bs b → Contains bs c → (b ≡ c) ⊎ ((b.place + 64 * b.lines ≤ c.place) ⊎ (c.place + 64 * c.lines ≤ b.place))
apart from [] b c rise there other = absurd (no_member b there)
apart from (a ∷ bs) b c rise there other = ⊎_elim
    (λ (first : a ≡ b). ⊎_elim
    (λ (same : a ≡ c). inl (sym first ∙ same))
    (λ (later : Contains bs c). inr (inl (subst (λ (x : Block). x.place + 64 * x.lines ≤ c.place) first (rise_member (a.place + 64 * a.lines) bs c rise.1 later))))
    (member_cases a bs c other))
    (λ (rest : Contains bs b). ⊎_elim
    (λ (first : a ≡ c). inr (inr (subst (λ (x : Block). x.place + 64 * x.lines ≤ b.place) first (rise_member (a.place + 64 * a.lines) bs b rise.1 rest))))
    (λ (later : Contains bs c). apart (a.place + 64 * a.lines) bs b c rise.1 rest later)
    (member_cases a bs c other))
    (member_cases a bs b there)
