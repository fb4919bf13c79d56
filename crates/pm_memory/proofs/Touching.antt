-- Which words a lane's changes are of, and how many of these there are below a word.
use Rattle.std.proofs.Common.{◌≡◌, ℕ, zero, suc, ◌+◌, ◌-◌, ◌<◌, ◌≤◌, Bool, true, false, cond, ◌||◌, eqb, List, [], ◌∷◌, map, drop, refl, sym, ap, ◌∙◌, arith, eq-eqb, ne_eqb, add-zero}
use Rattle.std.specs.List.{filter, list_any, range_with_len, sum_by, All, Any}
use Rattle.std.proofs.lemmas.List.{map-id, drop_all}
use Rattle.std.proofs.lemmas.List.Folds.{list_any_none, list_any_at}
use Rattle.std.proofs.lemmas.List.FromFn.{sum_by-map-range_with_len_more}
use Rattle.pm_view.specs.declared.change.Change.{Change}
use Rattle.pm_memory.specs.Keep.{touched_below}
use Rattle.pm_memory.specs.Survivors.{all_taken_back, survivor}

-- some change is of the word
abbrev pub is_touched : ℕ → List Change → Bool
is_touched w changes = list_any (λ (c : Change). eqb c.word w) changes

pub touched_below-none : (changes : List Change) → touched_below 0 changes ≡ 0
touched_below-none changes = refl

pub touched_below-next : (w : ℕ) (changes : List Change) → touched_below (w + 1) changes ≡ touched_below w changes + cond (is_touched w changes) 1 0
touched_below-next w changes =
    let g : ℕ → ℕ = λ u. cond (is_touched u changes) 1 0 in
    let more : sum_by g (map (λ (u : ℕ). u) (range_with_len 0 (w + 1))) ≡ sum_by g (map (λ (u : ℕ). u) (range_with_len 0 w)) + g w = sum_by-map-range_with_len_more g (λ (u : ℕ). u) 0 w w (omega arith) in
    ap (sum_by g) (sym (map-id (range_with_len 0 (w + 1)))) ∙ (more ∙ ap (λ us. sum_by g us + g w) (map-id (range_with_len 0 w)))

-- no word is touched from one to the other
touched_below-stays : (k from : ℕ) (changes : List Change) → ((u : ℕ) → from ≤ u → u < from + k → is_touched u changes ≡ false) → touched_below (from + k) changes ≡ touched_below from changes
touched_below-stays zero from changes none = ap (λ n. touched_below n changes) (add-zero from)
touched_below-stays (suc k) from changes none =
    let e : from + suc k ≡ from + k + 1 = omega arith in
    let here : is_touched (from + k) changes ≡ false = none (from + k) (omega arith) (omega arith) in
    ap (λ n. touched_below n changes) e
    ∙ (touched_below-next (from + k) changes ∙ (ap (λ b. touched_below (from + k) changes + cond b 1 0) here ∙ (add-zero (touched_below (from + k) changes) ∙ touched_below-stays k from changes (λ u low high. none u low (omega arith)))))

pub touched_below-gap : (from to : ℕ) (changes : List Change) → from ≤ to → ((u : ℕ) → from ≤ u → u < to → is_touched u changes ≡ false) → touched_below to changes ≡ touched_below from changes
touched_below-gap from to changes le none =
    let e : to ≡ from + (to - from) = omega arith in
    ap (λ n. touched_below n changes) e ∙ touched_below-stays (to - from) from changes (λ u low high. none u low (omega arith))

-- below the least touched word none is touched
pub untouched : (from least : ℕ) (changes : List Change) → All (λ (c : Change). from ≤ c.word → least ≤ c.word) changes → (u : ℕ) → from ≤ u → u < least → is_touched u changes ≡ false
untouched from least changes above u low high = list_any_none (λ (c : Change). eqb c.word u) changes (λ k d within. ne_eqb _ u (λ e. let up = above k d within (omega arith) in absurd (omega arith)))

pub is_touched-changed : (w : ℕ) (changes : List Change) → Any (λ (c : Change). c.word ≡ w) changes → is_touched w changes ≡ true
is_touched-changed w changes some =
    let c : Change = some.1 in
    list_any_at (λ (d : Change). eqb d.word w) changes some.0 c some.2 (ap (λ (d : Change). eqb d.word w) some.3 ∙ eq-eqb c.word w some.4)

filter_none : (test : Change → Bool) (changes : List Change) → list_any test changes ≡ false → filter test changes ≡ []
filter_none test [] none = refl
filter_none test (c ∷ changes) none =
    let P : Bool → Type 0 = λ b. (b || list_any test changes) ≡ false → cond b (c ∷ filter test changes) (filter test changes) ≡ [] in
    (elim (test c) as P [ true ↦ λ e. cc | false ↦ λ e. filter_none test changes e ]) none

-- an untouched word is as it was
pub survivor-untouched : (kept w x : ℕ) (changes : List Change) → is_touched w changes ≡ false → survivor kept changes w x ≡ x
survivor-untouched kept w x changes none = ap (λ (cs : List Change). all_taken_back (drop kept cs) x) (filter_none (λ (c : Change). eqb c.word w) changes none) ∙ ap (λ (cs : List Change). all_taken_back cs x) (drop_all kept [] (omega arith))
