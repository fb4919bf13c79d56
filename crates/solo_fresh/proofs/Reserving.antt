-- What the lane reserved stays so where no word changes that tells of it.
use Rattle.std.proofs.Common.{◌≡◌, ℕ, ◌-◌, ◌/◌, ◌%◌, ◌⊎◌, inl, inr, ⊎_elim, true, false, leb, eqb, ◌&&◌, ◌||◌, All, List, [], ◌∷◌, slice_index, refl, sym, ap, ◌∙◌, eq-eqb}
use Rattle.std.specs.Int.{bit_at}
use Rattle.std.specs.List.{list_any}
use Rattle.std.proofs.lemmas.Bool.{false≢true}
use Rattle.std.proofs.lemmas.List.Elements.{All-head, All-tail}
use Rattle.solo_view.specs.declared.occ.Occ.{Occ}
use Rattle.solo_view.specs.declared.occ.Occ.TheVariants.{Run, Zone}
use Rattle.solo_view.specs.Blocks.{covers, descriptor_word}
use Rattle.solo_view.specs.Held.{is_reserved}
use Rattle.solo_view.specs.View.{View, Taken}
use Rattle.solo_fresh.specs.Filled.{describes_run}

module _ (lanes w : ℕ) (words other : List ℕ) where
  covers_kept : (at : Occ) (bits : ℕ) → ((u : ℕ) → describes_run lanes u at ≡ true → slice_index other u ≡ slice_index words u) → covers lanes other at bits w ≡ covers lanes words at bits w
  covers_kept (Run place) bits same =
      ap (λ d. eqb (w / 512) (place / 4096) && leb 8 (w % 512) && eqb (bit_at bits ((w % 512 / 8 - 1) / (d / 256))) 1)
      (same (descriptor_word lanes (place / 4096)) (eq-eqb (descriptor_word lanes (place / 4096)) (descriptor_word lanes (place / 4096)) refl))
  covers_kept (Zone zone) bits same = refl

  any_kept : (blocks : List Taken) → ((u : ℕ) → (slice_index other u ≡ slice_index words u) ⊎ All (λ (t : Taken). describes_run lanes u t.at ≡ false) blocks)
      → list_any (λ (t : Taken). covers lanes other t.at t.bits w) blocks ≡ list_any (λ (t : Taken). covers lanes words t.at t.bits w) blocks
  any_kept [] same = refl
  any_kept (t ∷ blocks) same =
      ap (λ b. b || list_any (λ (q : Taken). covers lanes other q.at q.bits w) blocks)
      (covers_kept t.at t.bits (λ u tells. ⊎_elim (λ (e : slice_index other u ≡ slice_index words u). e)
      (λ (none : All (λ (q : Taken). describes_run lanes u q.at ≡ false) (t ∷ blocks)). absurd (false≢true (sym (All-head (λ (q : Taken). describes_run lanes u q.at ≡ false) t blocks none) ∙ tells))) (same u)))
      ∙ ap (λ b. covers lanes words t.at t.bits w || b)
      (any_kept blocks (λ u. ⊎_elim (λ (e : slice_index other u ≡ slice_index words u). inl e)
      (λ (none : All (λ (q : Taken). describes_run lanes u q.at ≡ false) (t ∷ blocks)). inr (All-tail (λ (q : Taken). describes_run lanes u q.at ≡ false) t blocks none)) (same u)))

pub reserved_kept : (v u : View) → u.lanes ≡ v.lanes → u.reserved ≡ v.reserved → ((w : ℕ) → (slice_index u.words w ≡ slice_index v.words w) ⊎ All (λ (t : Taken). describes_run v.lanes w t.at ≡ false) v.reserved)
    → (w : ℕ) → is_reserved u w ≡ is_reserved v w
reserved_kept v u lanes reserved same w = (λ i. list_any (λ (t : Taken). covers (lanes i) u.words t.at t.bits w) (reserved i)) ∙ any_kept v.lanes w v.words u.words v.reserved same
