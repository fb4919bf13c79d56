-- What holds of a view and of each that a sequence leads to, with how many stores of the generation came before it.
use Rattle.std.proofs.Common.{◌≡◌, ℕ, zero, suc, ◌+◌, ◌<◌, List, [], ◌∷◌, ◌++◌, take, slice_index, sym, subst, arith}
use Rattle.solo_crash.proofs.Raises.{raise_by, raises_append}
use Rattle.solo_crash.specs.Alone.{raises}
use Rattle.solo_view.proofs.Sequences.{after_all-append}
use Rattle.solo_view.specs.Steps.{Step}
use Rattle.solo_view.specs.View.{View}
use Rattle.solo_view.specs.Views.{after, after_all}
use Rattle.solo_world.specs.Sequences.{Sequence, by_lane, by_view, counted, in_turn, looks, nothing, one, with_word}
use Rattle.solo_tx.proofs.StepKinds.{Each, HasOnly}

-- it holds of the view and of each that the steps lead to
unfoldable pub Throughout : (ℕ → View → Type 0) → ℕ → View → List Step → Type 0
Throughout I r v [] = I r v
Throughout I r v (s ∷ steps) = I r v × Throughout I (r + raise_by s) (after v s) steps

module _ (I : ℕ → View → Type 0) where
  here : (r : ℕ) (v : View) (steps : List Step) → Throughout I r v steps → I r v
  unfolding Throughout
  here r v [] all = all
  here r v (s ∷ steps) all = all.0

  nothing_more : (r : ℕ) (v : View) → I r v → I (r + 0) v
  nothing_more r v holds = subst (λ n. I n v) (let e : r ≡ r + 0 = omega arith in e) holds

  -- so behind the first of them
  pub throughout_at : (r : ℕ) (v : View) (steps : List Step) (k : ℕ) → Throughout I r v steps → I (r + raises (take k steps)) (after_all v (take k steps))
  unfolding Throughout raises after_all
  throughout_at r v steps zero all = nothing_more r v (here r v steps all)
  throughout_at r v [] (suc k) all = nothing_more r v all
  throughout_at r v (s ∷ steps) (suc k) all =
      subst (λ n. I n (after_all (after v s) (take k steps)))
      (let e : r + raise_by s + raises (take k steps) ≡ r + (raise_by s + raises (take k steps)) = omega arith in e)
      (throughout_at (r + raise_by s) (after v s) steps k all.1)

  pub throughout_both : (r : ℕ) (v : View) (xs ys : List Step) → Throughout I r v xs → Throughout I (r + raises xs) (after_all v xs) ys → Throughout I r v (xs ++ ys)
  unfolding Throughout raises after_all
  throughout_both r v [] ys first second = subst (λ n. Throughout I n v ys) (let e : r + 0 ≡ r = omega arith in e) second
  throughout_both r v (x ∷ xs) ys first second = (
    first.0,
    throughout_both (r + raise_by x) (after v x) xs ys first.1
        (subst (λ n. Throughout I n (after_all (after v x) xs) ys) (let e : r + (raise_by x + raises xs) ≡ r + raise_by x + raises xs = omega arith in e) second),
  )

  -- from each view of which the first holds it holds throughout the sequence, and the second of where that ends
  abbrev pub Course : (ℕ → View → Type 0) → Sequence → (ℕ → View → Type 0) → Type 0
  Course P steps Q = (r : ℕ) (v : View) → P r v → Throughout I r v (steps v) × Q (r + raises (steps v)) (after_all v (steps v))

  pub course_in_turn : (P Q R : ℕ → View → Type 0) (s t : Sequence) → Course P s Q → Course Q t R → Course P (in_turn s t) R
  unfolding in_turn
  course_in_turn P Q R s t first second r v p =
      let m : View = after_all v (s v) in
      let one = first r v p in
      let two = second (r + raises (s v)) m one.1 in (
        throughout_both r v (s v) (t m) one.0 two.0,
        subst (λ n. R n (after_all v (s v ++ t m))) (let sum = raises_append (s v) (t m) in let e : r + raises (s v) + raises (t m) ≡ r + raises (s v ++ t m) = omega (arith, sum) in e)
            (subst (R (r + raises (s v) + raises (t m))) (sym (after_all-append v (s v) (t m))) two.1),
      )

  pub course_nothing : (P : ℕ → View → Type 0) → ((r : ℕ) (v : View) → P r v → I r v) → Course P nothing P
  unfolding nothing Throughout raises after_all
  course_nothing P holds r v p = (holds r v p, subst (λ n. P n v) (let e : r ≡ r + 0 = omega arith in e) p)

  pub course_one : (P Q : ℕ → View → Type 0) (s : Step) → ((r : ℕ) (v : View) → P r v → I r v) → ((r : ℕ) (v : View) → Q r v → I r v) → ((r : ℕ) (v : View) → P r v → Q (r + raise_by s) (after v s)) → Course P (one s) Q
  unfolding one Throughout raises after_all
  course_one P Q s before behind step r v p =
      let q = step r v p in
      ((before r v p, behind (r + raise_by s) (after v s) q), subst (λ n. Q n (after v s)) (let e : r + raise_by s ≡ r + (raise_by s + 0) = omega arith in e) q)

  pub course_weaker : (P Q R : ℕ → View → Type 0) (steps : Sequence) → ((r : ℕ) (v : View) → Q r v → R r v) → Course P steps Q → Course P steps R
  course_weaker P Q R steps behind course r v p = let c = course r v p in (c.0, behind (r + raises (steps v)) (after_all v (steps v)) c.1)

  -- sequences one after another, where each leads on from the one before
  pub course_counted : (P : ℕ → ℕ → View → Type 0) (steps : ℕ → Sequence) (n : ℕ) → ((r : ℕ) (v : View) → P 0 r v → I r v) → ((k : ℕ) → k < n → Course (P k) (steps k) (P (k + 1))) → Course (P 0) (counted steps n) (P n)
  unfolding counted
  course_counted P steps zero holds each = course_nothing (P 0) holds
  course_counted P steps (suc n) holds each =
      course_in_turn (P 0) (P n) (P (suc n)) (counted steps n) (steps n) (course_counted P steps n holds (λ k below. each k (omega (arith, below))))
      (course_weaker (P n) (P (n + 1)) (P (suc n)) (steps n) (λ r v p. subst (λ k. P k r v) (let e : n + 1 ≡ suc n = omega arith in e) p) (each n (omega arith)))

  pub course_by_lane : (P Q : ℕ → View → Type 0) (steps : ℕ → Sequence) → ((r : ℕ) (v : View) → P r v → v.lane ≡ 0) → Course P (steps 0) Q → Course P (by_lane steps) Q
  unfolding by_lane by_view
  course_by_lane P Q steps lane course r v p =
      subst (λ n. Throughout I r v (steps n v) × Q (r + raises (steps n v)) (after_all v (steps n v))) (sym (lane r v p)) (course r v p)

  pub course_with_word : (P Q : ℕ → View → Type 0) (w : ℕ) (steps : ℕ → Sequence) → ((x : ℕ) → Course P (in_turn (looks w) (steps x)) Q) → Course P (with_word w steps) Q
  unfolding with_word by_view
  course_with_word P Q w steps course r v p = course (slice_index v.words w) r v p

  -- a kind of steps that keep what holds
  module _ (C : Step → Type 0) (P : ℕ → View → Type 0) (holds : (r : ℕ) (v : View) → P r v → I r v) (lane : (r : ℕ) (v : View) → P r v → v.lane ≡ 0)
      (keeps : (r : ℕ) (v : View) (s : Step) → P r v → C s → P (r + raise_by s) (after v s)) where
    kept_by_each : (r : ℕ) (v : View) (steps : List Step) → P r v → Each C steps → Throughout I r v steps × P (r + raises steps) (after_all v steps)
    unfolding Throughout Each raises after_all
    kept_by_each r v [] p each = (holds r v p, subst (λ n. P n v) (let e : r ≡ r + 0 = omega arith in e) p)
    kept_by_each r v (s ∷ steps) p each =
        let rest = kept_by_each (r + raise_by s) (after v s) steps (keeps r v s p each.0) each.1 in (
          (holds r v p, rest.0),
          subst (λ n. P n (after_all (after v s) steps)) (let e : r + raise_by s + raises steps ≡ r + (raise_by s + raises steps) = omega arith in e) rest.1,
        )

    pub course_of_kind : (steps : Sequence) → HasOnly C steps → Course P steps P
    course_of_kind steps only r v p = kept_by_each r v (steps v) p (only v (lane r v p))
