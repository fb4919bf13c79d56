-- What the words of a slot make of the log, one after another.
use Rattle.std.proofs.Common.{◌≡◌, ℕ, zero, suc, ◌*◌, ◌/◌, ◌^◌, ◌<◌, ◌≤◌, List, [], ◌∷◌, ◌++◌, length, Some, refl, ap, ◌∙◌, arith, ◌==◌, eq-eqb, ne_eqb}
use Rattle.std.specs.Prelude.{slice_index, unwrap_or}
use Rattle.std.specs.List.{AllByRecursion}
use Rattle.std.proofs.lemmas.Bool.{cond-true, cond-false}
use Rattle.pm_layout.specs.declared.shape.Shape.{Shape}
use Rattle.pm_words.specs.Sums.{sum64}
use Rattle.pm_view.specs.Log.{Log, Recorded, place_at, recorded, with_slot}
use Rattle.pm_view.specs.Places.{Place, RootWord, word_of}
use Rattle.pm_world.specs.Logs.{spelled}

pub all_index : (P : ℕ → Type 0) (xs : List ℕ) (i : ℕ) → AllByRecursion P xs → i < length xs → P (slice_index xs i)
all_index P [] i all low = absurd (omega (arith, low))
all_index P (x ∷ xs) zero all low = all.0
all_index P (x ∷ xs) (suc i) all low = all_index P xs i all.1 (omega (arith, low))

small_sum : (ws : List ℕ) → sum64 ws < 2 ^ 64
unfolding sum64
small_sum ws = omega arith

module _ (sh : Shape) (class : ℕ → ℕ) (generation : ℕ) where
  abbrev IsBack : Place → List ℕ → Type 0
  IsBack p old = recorded sh class (spelled sh generation (record { place = p; old = old })) ≡ record { place = p; old = old }

  abbrev with_old : List ℕ → Place → Recorded
  with_old old p = record { place = p; old = old }

  by_place : (p : Place) (old : List ℕ) → place_at sh class (word_of sh p) ≡ Some p → with_old old (unwrap_or (place_at sh class (8 * word_of sh p / 8)) RootWord) ≡ with_old old p
  by_place p old at = ap (λ w. with_old old (unwrap_or (place_at sh class w) RootWord)) (let e : 8 * word_of sh p / 8 ≡ word_of sh p = omega arith in e) ∙ ap (λ q. with_old old (unwrap_or q RootWord)) at

  back : (p : Place) (old : List ℕ) → 1 ≤ length old → length old ≤ 4 → place_at sh class (word_of sh p) ≡ Some p → IsBack p old
  back p [] some most at = absurd (omega arith)
  back p (a ∷ []) some most at = by_place p (a ∷ []) at
  back p (a ∷ b ∷ []) some most at = by_place p (a ∷ b ∷ []) at
  back p (a ∷ b ∷ c ∷ []) some most at = by_place p (a ∷ b ∷ c ∷ []) at
  back p (a ∷ b ∷ c ∷ d ∷ []) some most at = by_place p (a ∷ b ∷ c ∷ d ∷ []) at
  back p (a ∷ b ∷ c ∷ d ∷ e ∷ old) some most at = absurd (omega arith)

  -- the words of a slot are those of its record
  pub spelled_back : (r : Recorded) → 1 ≤ length r.old → length r.old ≤ 4 → place_at sh class (word_of sh r.place) ≡ Some r.place → recorded sh class (spelled sh generation r) ≡ r
  spelled_back r some most at = back r.place r.old some most at

  eight : (p : Place) (old : List ℕ) → length old ≤ 4 → length (spelled sh generation (record { place = p; old = old })) ≡ 8
  eight p [] most = refl
  eight p (a ∷ []) most = refl
  eight p (a ∷ b ∷ []) most = refl
  eight p (a ∷ b ∷ c ∷ []) most = refl
  eight p (a ∷ b ∷ c ∷ d ∷ []) most = refl
  eight p (a ∷ b ∷ c ∷ d ∷ e ∷ old) most = absurd (omega arith)

  pub length_spelled : (r : Recorded) → length r.old ≤ 4 → length (spelled sh generation r) ≡ 8
  length_spelled r most = eight r.place r.old most

  abbrev IsSmall : ℕ → Type 0
  IsSmall x = x < 2 ^ 64

  all_small : (p : Place) (old : List ℕ) → generation < 2 ^ 62 → word_of sh p < 2 ^ 60 → length old ≤ 4 → ((i : ℕ) → i < length old → slice_index old i < 2 ^ 64) → AllByRecursion IsSmall (spelled sh generation (record { place = p; old = old }))
  all_small p [] g w most s = (omega (arith, g), (omega (arith, w), (omega arith, (omega arith, (omega arith, (omega arith, (omega arith, (small_sum _, tt))))))))
  all_small p (a ∷ []) g w most s = (omega (arith, g), (omega (arith, w), (omega arith, (s 0 (omega arith), (omega arith, (omega arith, (omega arith, (small_sum _, tt))))))))
  all_small p (a ∷ b ∷ []) g w most s = (omega (arith, g), (omega (arith, w), (omega arith, (s 0 (omega arith), (s 1 (omega arith), (omega arith, (omega arith, (small_sum _, tt))))))))
  all_small p (a ∷ b ∷ c ∷ []) g w most s = (omega (arith, g), (omega (arith, w), (omega arith, (s 0 (omega arith), (s 1 (omega arith), (s 2 (omega arith), (omega arith, (small_sum _, tt))))))))
  all_small p (a ∷ b ∷ c ∷ d ∷ []) g w most s = (omega (arith, g), (omega (arith, w), (omega arith, (s 0 (omega arith), (s 1 (omega arith), (s 2 (omega arith), (s 3 (omega arith), (small_sum _, tt))))))))
  all_small p (a ∷ b ∷ c ∷ d ∷ e ∷ old) g w most s = absurd (omega arith)

  pub small_spelled : (r : Recorded) (i : ℕ) → generation < 2 ^ 62 → word_of sh r.place < 2 ^ 60 → length r.old ≤ 4 → ((i : ℕ) → i < length r.old → slice_index r.old i < 2 ^ 64) → i < 8 → slice_index (spelled sh generation r) i < 2 ^ 64
  small_spelled r i g w most s low = all_index IsSmall (spelled sh generation r) i (all_small r.place r.old g w most s) (let n = length_spelled r most in omega (arith, n, low))

-- fewer than eight words are no record yet, and eight are one
pub slot_short : (sh : Shape) (class : ℕ → ℕ) (words : List ℕ) (log : Log) → length words < 8 → with_slot sh class words log ≡ record log { slot = words }
slot_short sh class words log low = cond-false (length words == 8) (record log { records = log.records ++ recorded sh class words ∷ []; slot = [] }) (record log { slot = words }) (ne_eqb (length words) 8 (λ e. omega (arith, e, low)))

pub slot_whole : (sh : Shape) (class : ℕ → ℕ) (words : List ℕ) (log : Log) (r : Recorded) → length words ≡ 8 → recorded sh class words ≡ r → with_slot sh class words log ≡ record log { records = log.records ++ r ∷ []; slot = [] }
slot_whole sh class words log r eight_ is = cond-true (length words == 8) (record log { records = log.records ++ recorded sh class words ∷ []; slot = [] }) (record log { slot = words }) (eq-eqb (length words) 8 eight_) ∙ ap (λ q. record log { records = log.records ++ q ∷ []; slot = [] }) is
