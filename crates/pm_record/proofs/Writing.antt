-- The words that a slot gets, one after the other.
use Rattle.std.proofs.Common.{◌≡◌, ℕ, List, [], ◌∷◌, ◌++◌, length, take, set, ◌∙◌, ap, arith}
use borrow.Rule.Slice.PartMut.{put_mid}
use Rattle.pm_words.specs.Sums.{sum64}
use Rattle.pm_record.specs.Undo.{undo_words}
use Rattle.pm_record.specs.declared.undo.Undo.{Undo}

-- three words, the old ones behind them, and the sum of these seven make the record
pub slot_written : (u : Undo) (slot old : List ℕ) (sum : ℕ) → length slot ≡ 8 → length old ≡ 4 → old ≡ u.old
    → sum ≡ sum64 (take 7 (put_mid 3 4 (set (set (set slot 0 u.generation) 1 u.place) 2 u.count) old))
    → set (put_mid 3 4 (set (set (set slot 0 u.generation) 1 u.place) 2 u.count) old) 7 sum ≡ undo_words u
slot_written u (a ∷ b ∷ c ∷ d ∷ e ∷ f ∷ g ∷ h ∷ []) (w ∷ x ∷ y ∷ z ∷ []) sum eight four old_is sum_is =
    let summed = sum_is ∙ ap (λ (ws : List ℕ). sum64 (u.generation ∷ u.place ∷ u.count ∷ ws)) old_is in
    (λ i. u.generation ∷ u.place ∷ u.count ∷ (old_is i ++ summed i ∷ []))
slot_written u _ _ sum eight four old_is sum_is = absurd (omega arith)
