-- The flags of lanes, by their drained logs, are those by words and changes.
use Rattle.std.proofs.Common.{◌≡◌, ◌≢◌, ℕ, zero, suc, ◌+◌, ◌<◌, ◌≤◌, ◌==◌, ◌||◌, not, Bool, false}
use Rattle.std.proofs.Common.{List, [], ◌∷◌, drop, get_or, length, refl, ap, ◌∙◌, arith}
use Rattle.std.proofs.lemmas.Bool.{cond-false, cond-true, eq-eqb, ne_eqb}
use Rattle.std.specs.Prelude.{slice_index}
use Rattle.pm_crash.specs.Fates.{drained_value}
use Rattle.pm_layout.specs.Areas.{word_of_generation, word_of_seal}
use Rattle.pm_layout.specs.declared.shape.Shape.{Shape}
use Rattle.pm_view.specs.declared.change.Change.{Change}
use Rattle.pm_run.specs.Fates.{AreDrained, AreJudged, AreTold}
use Rattle.pm_run.specs.declared.fates.DrainedLog.{DrainedLog}
use Rattle.pm_run.proofs.Jobs.{some_item}

-- ---- THE DRAINED VALUE of a word, after the first so many changes

pub drained_found : (words : List ℕ) (changes : List Change) (w i : ℕ) (d : Change)
    → i < length changes → (get_or changes i d).word ≡ w
    → drained_value words (drop i changes) w ≡ (get_or changes i d).old
unfolding drained_value
drained_found words [] w i d l e = absurd (omega (arith, l))
drained_found words (c ∷ changes) w zero d l e = cond-true (c.word == w) _ _ (eq-eqb c.word w e)
drained_found words (c ∷ changes) w (suc i) d l e =
    drained_found words changes w i d (omega (arith, l)) e

drained_after : (words : List ℕ) (changes : List Change) (w i : ℕ) (d : Change)
    → i < length changes → (get_or changes i d).word ≢ w
    → drained_value words (drop i changes) w ≡ drained_value words (drop (suc i) changes) w
unfolding drained_value
drained_after words [] w i d l ne = absurd (omega (arith, l))
drained_after words (c ∷ changes) w zero d l ne =
    cond-false (c.word == w) _ _ (ne_eqb c.word w ne)
drained_after words (c ∷ changes) w (suc i) d l ne =
    drained_after words changes w i d (omega (arith, l)) ne

pub drained_next : (words : List ℕ) (changes : List Change) (w i : ℕ) (d : Change)
    → i < length changes → (get_or changes i d).word ≢ w
    → drained_value words (drop i changes) w ≡ drained_value words (drop (i + 1) changes) w
drained_next words changes w i d l ne =
    let next : suc i ≡ i + 1 = omega arith in
    drained_after words changes w i d l ne
    ∙ ap (λ n. drained_value words (drop n changes) w) next

pub drained_end : (words : List ℕ) (changes : List Change) (w i : ℕ) → length changes ≤ i
    → drained_value words (drop i changes) w ≡ slice_index words w
unfolding drained_value
drained_end words [] w zero l = refl
drained_end words [] w (suc i) l = refl
drained_end words (c ∷ changes) w zero l = absurd (omega (arith, l))
drained_end words (c ∷ changes) w (suc i) l = drained_end words changes w i (omega (arith, l))

-- ---- ALL LANES' FLAGS

pub judged : (sh : Shape) (words : List ℕ) (undrained : List (List Change)) (image : List ℕ)
    (logs : List DrainedLog) (flags : List Bool) → AreDrained sh words undrained logs
    → AreTold sh logs image flags → AreJudged sh words undrained image flags
judged sh words undrained image logs flags noted told = record {
  count = told.count ∙ noted.count;
  each = λ k l.
      let low : k < length logs = let n = noted.count in omega (arith, l, n) in
      let log : DrainedLog = some_item logs k low in
      let is = noted.each k log low in
      told.each k false log (let n = told.count in omega (arith, low, n))
      ∙ (ap (λ s. not (s == 0) || not (slice_index image (word_of_seal sh k) == 0)
      || not (slice_index image (word_of_generation sh k) == (get_or logs k log).generation)) is.0
      ∙ ap (λ s. not (drained_value words (get_or undrained k []) (word_of_seal sh k) == 0)
      || not (slice_index image (word_of_seal sh k) == 0)
      || not (slice_index image (word_of_generation sh k) == s)) is.1);
}
