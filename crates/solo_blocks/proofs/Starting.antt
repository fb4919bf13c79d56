-- A lane alone over an empty pool, in a call that has just begun, may make a run.
use Rattle.std.proofs.Common.{◌≡◌, ℕ, ◌*◌, ◌/◌, ◌-◌, ◌<◌, ◌^◌, List, length, replicate, slice_index, Option, ⊎_elim, ◌≤◌, refl, sym, ap, ◌∙◌, subst, arith}
use Rattle.std.proofs.lemmas.Bool.{cases_lt}
use Rattle.std.proofs.lemmas.List.{get_or-replicate, get_or_past, length-replicate}
use Rattle.std.proofs.lemmas.List.Elements.{All-nil}
use Rattle.std.proofs.lemmas.Nat.Bits.{bit_at_ones}
use Rattle.std.specs.Int.{bit_at}
use Rattle.pm_layout.specs.declared.shape.Shape.{Shape}
use Rattle.solo_undo.proofs.Begun.{begin_works}
use Rattle.solo_view.specs.Area.{area_word}
use Rattle.solo_view.specs.Blocks.{descriptor_word}
use Rattle.solo_view.specs.Steps.Step.{NumberSeen}
use Rattle.solo_view.specs.View.{View}
use Rattle.solo_view.specs.Views.{after}
use Rattle.solo_world.proofs.Resting.{first_view}
use Rattle.solo_world.specs.Lanes.{IsOfShape}
use Rattle.solo_world.specs.Lawful.{generation_limit}
use Rattle.solo_fresh.specs.Making.{page_in}
use Rattle.solo_blocks.specs.NewRuns.{IsThere, MayMakeRun}

module _ (words runs zones : List ℕ) (stop : Option ℕ) (n : ℕ) (empty : words ≡ replicate 34816 0) (some : 1 ≤ length zones) (none : runs ≡ replicate 68 (2 ^ 64 - 1)) where
  abbrev first : View
  first = first_view words runs zones stop 7 1 1

  abbrev pub begun_view : View
  begun_view = after first (NumberSeen n)

  size : length words ≡ 34816
  size = ap (length {A = ℕ}) empty ∙ length-replicate {A = ℕ} 34816 0

  zeros : (k w : ℕ) → slice_index (replicate k 0) w ≡ 0
  zeros k w = ⊎_elim (λ (low : w < k). get_or-replicate k w 0 0 low) (λ (high : k ≤ w). get_or_past (replicate k 0) w 0 (let e = length-replicate {A = ℕ} k 0 in omega (arith, e, high))) (cases_lt w k)

  zero : (w : ℕ) → slice_index words w ≡ 0
  zero w = ap (λ (ws : List ℕ). slice_index ws w) empty ∙ zeros 34816 w

  closed : (zone chunk : ℕ) → zone < 1 → chunk < 64 → (bit : ℕ) → bit < 64 → bit_at (slice_index runs (4096 * page_in 1 zone chunk / 4096)) bit ≡ 1
  closed zone chunk inside low bit few =
      let page : ℕ = 4096 * page_in 1 zone chunk / 4096 in
      let below : page < 68 = omega (arith, inside, low) in
      ap (λ (ws : List ℕ). bit_at (slice_index ws page) bit) none ∙ (ap (λ n. bit_at n bit) (get_or-replicate 68 page (2 ^ 64 - 1) 0 below) ∙ bit_at_ones 64 bit few)

  pub may_begin : (shape : Shape) → 1 ≡ shape.lanes → 1 ≡ shape.zones → MayMakeRun begun_view shape
  may_begin shape lanes one_zone = record {
    search = record { shape = record { lanes = lanes; zones = one_zone; size = (let length_is = size in omega (arith, length_is, lanes, one_zone)) }; early = tt; unlocked = refl };
    alone = refl;
    working = begin_works first n (record { lane = omega arith; few = omega arith; inside = (let length_is = size in omega (arith, length_is)); below = subst (λ g. g < generation_limit) (sym (zero (area_word 0))) (omega arith) }) refl;
    locked = All-nil (IsThere begun_view);
    pictured = some;
    unused = λ zone chunk inside low clear. record { undescribed = zero (descriptor_word 1 (page_in 1 zone chunk)); closed = closed zone chunk inside low; no_chunk = refl; no_block = λ bit. refl; drained = refl; unlogged = λ w here. (refl, refl) };
  }

-- the shape however it is spelled
pub may_as : (v : View) (shape other : Shape) → MayMakeRun v shape → IsOfShape v other → MayMakeRun v other
may_as v shape other may is = record {
  search = record { shape = is; early = may.search.early; unlocked = may.search.unlocked };
  alone = may.alone;
  working = may.working;
  locked = may.locked;
  pictured = may.pictured;
  unused = may.unused;
}
