-- What a history makes of one word.
use Rattle.std.proofs.Common.{◌≡◌, ℕ, zero, suc, ◌+◌, ◌<◌, ⊎_elim, eqb, Bool, true, false, cond, ◌||◌, Contains, List, [], ◌∷◌, ◌++◌, refl, sym, ap, ◌∙◌, arith}
use Rattle.std.proofs.lemmas.Bool.{cases_Bool, cond-true, cond-false, false≢true}
use Rattle.solo_view.specs.Bits.{with_bits}
use Rattle.solo_view.specs.Log.{Final}
use Rattle.solo_world.specs.History.{Entry, made_final, is_final, replayed, AreNumbered}
use Rattle.solo_world.proofs.Histories.{number_from}

-- a difference of other words
pub made_final-other : (difference : List Final) (w x : ℕ) → is_final difference w ≡ false → made_final difference w x ≡ x
unfolding made_final
made_final-other [] w x other = refl
made_final-other (f ∷ difference) w x other =
    ⊎_elim (λ (here : eqb f.word w ≡ true). absurd (false≢true (sym other ∙ ap (λ b. b || is_final difference w) here)))
    (λ (there : eqb f.word w ≡ false). ap (made_final difference w) (cond-false _ _ _ there) ∙ made_final-other difference w x (sym (ap (λ b. b || is_final difference w) there) ∙ other))
    (cases_Bool (eqb f.word w))

-- one difference after another
pub made_final-append : (first second : List Final) (w x : ℕ) → made_final (first ++ second) w x ≡ made_final second w (made_final first w x)
unfolding made_final
made_final-append [] second w x = refl
made_final-append (f ∷ first) second w x = made_final-append first second w (cond (eqb f.word w) (with_bits f.mask f.bits x) x)

-- the entry is of other words, or is left out
passed_over : (keep : ℕ → Bool) (e : Entry) (w x : ℕ) → is_final e.difference w ≡ false → cond (keep e.number) (made_final e.difference w x) x ≡ x
passed_over keep e w x other = ⊎_elim (λ (kept : keep e.number ≡ true). cond-true _ _ _ kept ∙ made_final-other e.difference w x other) (λ (left : keep e.number ≡ false). cond-false _ _ _ left) (cases_Bool (keep e.number))

-- no entry is of the word
pub replayed-other : (keep : ℕ → Bool) (log : List Entry) (w x : ℕ) → ((e : Entry) → Contains log e → is_final e.difference w ≡ false) → replayed keep log w x ≡ x
unfolding replayed
replayed-other keep [] w x other = refl
replayed-other keep (e ∷ log) w x other =
    ap (replayed keep log w) (passed_over keep e w x (other e (0, omega arith, refl)))
    ∙ replayed-other keep log w x (λ d there. other d (suc there.0, (let inside = there.1 in omega arith), there.2))

-- two tests that agree on the entries of the word
pub replayed-same : (keep other : ℕ → Bool) (log : List Entry) (w x : ℕ) → ((e : Entry) → Contains log e → is_final e.difference w ≡ true → keep e.number ≡ other e.number) → replayed keep log w x ≡ replayed other log w x
unfolding replayed
replayed-same keep other [] w x same = refl
replayed-same keep other (e ∷ log) w x same =
    let one : cond (keep e.number) (made_final e.difference w x) x ≡ cond (other e.number) (made_final e.difference w x) x =
    ⊎_elim (λ (of : is_final e.difference w ≡ true). ap (λ b. cond b (made_final e.difference w x) x) (same e (0, omega arith, refl) of))
    (λ (not_of : is_final e.difference w ≡ false). passed_over keep e w x not_of ∙ sym (passed_over other e w x not_of))
    (cases_Bool (is_final e.difference w)) in
    ap (replayed keep log w) one
    ∙ replayed-same keep other log w (cond (other e.number) (made_final e.difference w x) x) (λ d there. same d (suc there.0, (let inside = there.1 in omega arith), there.2))

-- the last entry of the word is kept by one test and left out by another, which agree on those before: it makes the word what it makes of what the
-- other gives
pub replayed-added : (keep other : ℕ → Bool) (n : ℕ) (log : List Entry) (w x : ℕ) (e : Entry) → AreNumbered n log → Contains log e → keep e.number ≡ true → other e.number ≡ false
    → ((d : Entry) → Contains log d → d.number < e.number → is_final d.difference w ≡ true → keep d.number ≡ other d.number)
    → ((d : Entry) → Contains log d → e.number < d.number → is_final d.difference w ≡ false) → replayed keep log w x ≡ made_final e.difference w (replayed other log w x)
unfolding replayed AreNumbered
replayed-added keep other n [] w x e numbered (k, inside, at) kept left same last = absurd (omega arith)
replayed-added keep other n (d ∷ log) w x e numbered (zero, inside, at) kept left same last =
    let first = numbered.0 in let number = ap (λ (z : Entry). z.number) at in
    let none : (c : Entry) → Contains log c → is_final c.difference w ≡ false = λ c there. let later = number_from (n + 1) log c numbered.1 there in last c (suc there.0, (let i = there.1 in omega arith), there.2) (omega arith) in
    ap (replayed keep log w) (cond-true _ _ _ (ap keep number ∙ kept) ∙ ap (λ (z : Entry). made_final z.difference w x) at)
    ∙ (replayed-other keep log w (made_final e.difference w x) none
    ∙ ap (made_final e.difference w) (sym (ap (replayed other log w) (cond-false _ _ _ (ap other number ∙ left)) ∙ replayed-other other log w x none)))
replayed-added keep other n (d ∷ log) w x e numbered (suc k, inside, at) kept left same last =
    let first = numbered.0 in
    let before = number_from (n + 1) log e numbered.1 (k, omega arith, at) in
    let one : cond (keep d.number) (made_final d.difference w x) x ≡ cond (other d.number) (made_final d.difference w x) x =
    ⊎_elim (λ (of : is_final d.difference w ≡ true). ap (λ b. cond b (made_final d.difference w x) x) (same d (0, omega arith, refl) (omega arith) of))
    (λ (not_of : is_final d.difference w ≡ false). passed_over keep d w x not_of ∙ sym (passed_over other d w x not_of))
    (cases_Bool (is_final d.difference w)) in
    ap (replayed keep log w) one
    ∙ replayed-added keep other (n + 1) log w (cond (other d.number) (made_final d.difference w x) x) e numbered.1 (k, omega arith, at) kept left
    (λ c there low of. same c (suc there.0, (let i = there.1 in omega arith), there.2) low of) (λ c there after. last c (suc there.0, (let i = there.1 in omega arith), there.2) after)

-- one more entry, that is left out
pub replayed-more : (keep : ℕ → Bool) (log : List Entry) (e : Entry) (w x : ℕ) → keep e.number ≡ false → replayed keep (log ++ e ∷ []) w x ≡ replayed keep log w x
unfolding replayed
replayed-more keep [] e w x left = cond-false _ _ _ left
replayed-more keep (d ∷ log) e w x left = replayed-more keep log e w (cond (keep d.number) (made_final d.difference w x) x) left
