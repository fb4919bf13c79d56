-- The bits of blocks, one block after another.
use Rattle.std.proofs.Common.{◌≡◌, ◌≢◌, ◌↔◌, ⊎_elim, ℕ, ◌+◌, ◌<◌, bit_or, List, length, get_or, ap, ◌∙◌, sym, subst, arith}
use Rattle.std.specs.Int.{bit_at}
use Rattle.std.proofs.lemmas.Bool.{cases_eq}
use Rattle.std.proofs.lemmas.List.{get_or_default}
use Rattle.pm_image.specs.declared.block.Block.{Block}
use Rattle.solo_view.specs.declared.occ.Occ.{Occ}
use Rattle.solo_world.proofs.Vacated.{or_bit_left, or_bit_right, or_bits}
use Rattle.solo_reclaim.specs.KeptBlocks.{IsBitOf}

-- the bit is one of some of the first so many blocks
abbrev pub IsBitOfFirst : ℕ → List Block → ℕ → Occ → ℕ → Type 0
IsBitOfFirst lanes kept n at bit = (k : ℕ) × (b : Block) × (k < n) × (k < length kept) × (get_or kept k b ≡ b) × IsBitOf lanes b at bit

-- a word has the bits, and no other, of which this holds
abbrev pub HasThese : ℕ → (ℕ → Type 0) → Type 0
HasThese word these = (bit : ℕ) → (bit_at word bit ≡ 1) ↔ these bit

pub one_more : (lanes : ℕ) (kept : List Block) (at : Occ) (n bits more : ℕ) (d : Block) → n < length kept → HasThese bits (IsBitOfFirst lanes kept n at) → HasThese more (IsBitOf lanes (get_or kept n d) at)
    → HasThese (bit_or bits more) (IsBitOfFirst lanes kept (n + 1) at)
one_more lanes kept at n bits more d low before its bit = (
  λ one. ⊎_elim
      (λ (set : bit_at bits bit ≡ 1). let old = (before bit).0 set in let few = old.2 in (old.0, old.1, omega (arith, few), old.3, old.4, old.5))
      (λ (set : bit_at more bit ≡ 1). (n, get_or kept n d, omega arith, low, get_or_default kept n (get_or kept n d) d low, (its bit).0 set))
      (or_bits bits more bit one),
  λ some. ⊎_elim
      (λ (last : some.0 ≡ n). or_bit_right bits more bit ((its bit).1 (subst (λ x. IsBitOf lanes x at bit)
      (sym some.4 ∙ (ap (λ k. get_or kept k some.1) last ∙ get_or_default kept n some.1 d low)) some.5)))
      (λ (other : some.0 ≢ n). let few = some.2 in or_bit_left bits more bit ((before bit).1 (some.0, some.1, omega (arith, few, other), some.3, some.4, some.5)))
      (cases_eq some.0 n),
)
