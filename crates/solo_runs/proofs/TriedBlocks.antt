-- One block of a run is tried.
use Rattle.std.proofs.Common.{◌≡◌, ◌≢◌, inl, inr, ℕ, ◌*◌, ◌/◌, ◌^◌, ◌<◌, false, bit_and, refl, sym, ap, ◌∙◌, arith}
use Rattle.std.specs.Int.{bit_at}
use Rattle.std.proofs.lemmas.Bool.{false≢true}
use Rattle.std.proofs.lemmas.Nat.{pow_below, pow_pos}
use Rattle.std.proofs.lemmas.Nat.Bits.{and_pow, bit_at-lt, bit_at-pow_same, shr_and_one}
use Rattle.solo_view.specs.declared.occ.Occ.TheVariants.{Run}
use Rattle.solo_view.specs.Founds.{FoundAlone}
use Rattle.solo_view.specs.Steps.Step.{Occupy}
use Rattle.solo_view.specs.View.{View}
use Rattle.solo_view.specs.Views.{after, occ_in}
use Rattle.solo_world.proofs.Searched.{saw_one}
use Rattle.solo_world.specs.Lawful.{MayOccupy}
use Rattle.solo_runs.specs.Looking.{CanTry, HasLost}
use Rattle.solo_runs.proofs.Searched.{looked_lost, looked_none}

-- a bit that is not 0 is 1
pub bit_is_set : (x i : ℕ) → bit_at x i ≢ 0 → bit_at x i ≡ 1
bit_is_set x i some = omega (arith, bit_at-lt x i, some)

-- the bits of a block are tried in vain where its bit is set, and got where it is clear
pub clear_alone : (x i : ℕ) → bit_at x i ≡ 0 → bit_and x (2 ^ i) ≡ 0
clear_alone x i clear = and_pow x i ∙ (let none : bit_at x i * 2 ^ i ≡ 0 * 2 ^ i = ap (λ b. b * 2 ^ i) clear in omega (arith, none))

pub set_in_vain : (x i : ℕ) → bit_and x (2 ^ i) ≢ 0 → bit_at x i ≡ 1
set_in_vain x i some = bit_is_set x i (λ clear. some (clear_alone x i clear))

pub clear_bit : (x i : ℕ) → bit_and x (2 ^ i) ≡ 0 → bit_at x i ≢ 1
clear_bit x i none set =
    let one : bit_at x i * 2 ^ i ≡ 1 * 2 ^ i = ap (λ b. b * 2 ^ i) set in
    let same = and_pow x i in
    let some = pow_pos i in
    absurd (omega (arith, one, same, some, none))

module _ (v : View) (place found index : ℕ) (can : CanTry v place found) where
  pub may_occupy : index < 64 → MayOccupy v (Run place) (2 ^ index)
  may_occupy low = record { there = can.there; small = pow_below index 64 low; one = (index, refl); locked = tt; run = can.run; early = can.early }

  -- its bit was set in the word as it was found
  pub lost_as_found : bit_and (found / 2 ^ index) 1 ≢ 0 → (at : View → Type 0) → at v → HasLost at v place index
  lost_as_found some at there =
      let set : bit_at found index ≡ 1 = bit_is_set found index (λ clear. some (shr_and_one found index ∙ clear)) in
      record {
        looks = record { view = v; looked = looked_none v; there = there; holds = (refl, inl (found, (can.saw, set))) };
        taken = λ alone. ap (λ x. bit_at x index) (sym (can.alone alone)) ∙ set;
      }

  -- or as it was tried
  pub lost_as_tried : index < 64 → FoundAlone v (Occupy (Run place) (2 ^ index) false) → (at : View → Type 0) → at (after v (Occupy (Run place) (2 ^ index) false)) → HasLost at v place index
  lost_as_tried low alone at there = record {
    looks = record {
      view = after v (Occupy (Run place) (2 ^ index) false);
      looked = looked_lost v place (2 ^ index) (may_occupy low) alone;
      there = there;
      holds = (refl, inr (2 ^ index, (saw_one (Occupy (Run place) (2 ^ index) false) v.seen, bit_at-pow_same index)));
    };
    taken = λ is. set_in_vain (occ_in v (Run place)) index (λ clear. false≢true ((alone is).1 clear));
  }
