-- The lines that are to be flushed, while they are flushed one after another.
use Rattle.std.proofs.Common.{◌≡◌, ◌≢◌, ℕ, zero, suc, ◌+◌, ◌/◌, ◌<◌, ◌≤◌, max, Bool, true, false, not, cond, eqb, ◌&&◌, ◌||◌, List, [], ◌∷◌, length, drop, slice_index, Some, None, refl, sym, ap, ◌∙◌, subst, arith, rules}
use Rattle.std.specs.List.{filter, range_with_len}
use Rattle.std.proofs.lemmas.Bool.{cond-true, cond-false}
use Rattle.std.proofs.lemmas.Bool.Decides.{nat_tests}
use Rattle.pm_view.specs.Changes.{Undrained, flushed, mark}
use Rattle.pm_view.specs.Counts.{is_unflushed, lines_up_to, unflushed_lines, IsFirstUnflushed}

-- Numbers of a range that pass one test, and those that pass another.

none_passes : (p : ℕ → Bool) (a n : ℕ) → ((k : ℕ) → p k ≡ false) → filter p (range_with_len a n) ≡ []
none_passes p a zero none = refl
none_passes p a (suc n) none = cond-false (p a) _ _ (none a) ∙ none_passes p (a + 1) n none

same_above : (p q : ℕ → Bool) (m a n : ℕ) → m < a → ((k : ℕ) → k ≢ m → p k ≡ q k) → filter p (range_with_len a n) ≡ filter q (range_with_len a n)
same_above p q m a zero above same = refl
same_above p q m a (suc n) above same =
    ap (λ b. cond b (a ∷ filter p (range_with_len (a + 1) n)) (filter p (range_with_len (a + 1) n))) (same a (λ e. absurd (omega (arith, e, above))))
    ∙ ap (λ l. cond (q a) (a ∷ l) l) (same_above p q m (a + 1) n (omega (arith, above)) same)

-- one number more at most
one_more : (p q : ℕ → Bool) (m a n : ℕ) → ((k : ℕ) → k ≢ m → p k ≡ q k) → length (filter p (range_with_len a n)) ≤ length (filter q (range_with_len a n)) + 1
one_more p q m a zero same = omega arith
one_more p q m a (suc n) same = at (eqb a m) refl (one_more p q m (a + 1) n same) where
  xs : List ℕ
  xs = filter p (range_with_len (a + 1) n)

  ys : List ℕ
  ys = filter q (range_with_len (a + 1) n)

  most : (b c : Bool) → length xs ≤ length ys → length (cond b (a ∷ xs) xs) ≤ length (cond c (a ∷ ys) ys) + 1
  most true true le = omega (arith, le)
  most true false le = omega (arith, le)
  most false true le = omega (arith, le)
  most false false le = omega (arith, le)

  both : (b : Bool) → length xs ≤ length ys + 1 → length (cond b (a ∷ xs) xs) ≤ length (cond b (a ∷ ys) ys) + 1
  both true le = omega (arith, le)
  both false le = le

  at : (b : Bool) → eqb a m ≡ b → length xs ≤ length ys + 1 → length (cond (p a) (a ∷ xs) xs) ≤ length (cond (q a) (a ∷ ys) ys) + 1
  at true e behind = let is : a ≡ m = grind (arith, nat_tests) in let same_length = ap length (same_above p q m (a + 1) n (omega (arith, is)) same) in most (p a) (q a) (omega (arith, same_length))
  at false e behind =
      let is = same a (λ is. grind (arith, nat_tests)) in
      subst (λ b. length (cond b (a ∷ xs) xs) ≤ length (cond (q a) (a ∷ ys) ys) + 1) (sym is) (both (q a) behind)

-- the least that passes stands first
first_passes : (p : ℕ → Bool) (x a n : ℕ) → a ≤ x → x < a + n → p x ≡ true → ((other : ℕ) → other < x → p other ≡ false)
    → filter p (range_with_len a n) ≡ x ∷ drop 1 (filter p (range_with_len a n))
first_passes p x a zero from to is none = absurd (omega (arith, from, to))
first_passes p x a (suc n) from to is none = at (eqb a x) refl (λ below. first_passes p x (a + 1) n (omega (arith, below)) (omega (arith, to)) is none) where
  at : (b : Bool) → eqb a x ≡ b → (a < x → filter p (range_with_len (a + 1) n) ≡ x ∷ drop 1 (filter p (range_with_len (a + 1) n)))
      → filter p (range_with_len a (suc n)) ≡ x ∷ drop 1 (filter p (range_with_len a (suc n)))
  at true e behind =
      let same : a ≡ x = grind (arith, nat_tests) in
      let here : filter p (range_with_len a (suc n)) ≡ a ∷ filter p (range_with_len (a + 1) n) = cond-true (p a) _ _ (ap p same ∙ is) in
      here ∙ (ap (λ k. k ∷ filter p (range_with_len (a + 1) n)) same ∙ ap (λ l. x ∷ drop 1 l) (sym here))
  at false e behind =
      let below : a < x = grind (arith, nat_tests) in
      let here : filter p (range_with_len a (suc n)) ≡ filter p (range_with_len (a + 1) n) = cond-false (p a) _ _ (none a below) in
      here ∙ (behind below ∙ ap (λ l. x ∷ drop 1 l) (sym here))

-- without the first that passes, the others pass
rest_passes : (p q : ℕ → Bool) (x a n : ℕ) (rest : List ℕ) → q x ≡ false → ((k : ℕ) → k ≢ x → q k ≡ p k) → filter p (range_with_len a n) ≡ x ∷ rest → filter q (range_with_len a n) ≡ rest
rest_passes p q x a zero rest gone same e = absurd (search rules)
rest_passes p q x a (suc n) rest gone same e = at (p a) refl (rest_passes p q x (a + 1) n rest gone same) where
  fails : (b : Bool) → eqb a x ≡ b → p a ≡ false → q a ≡ false
  fails true is out = ap q (let same_number : a ≡ x = grind (arith, nat_tests) in same_number) ∙ gone
  fails false other out = same a (λ is. grind (arith, nat_tests)) ∙ out

  at : (b : Bool) → p a ≡ b → (filter p (range_with_len (a + 1) n) ≡ x ∷ rest → filter q (range_with_len (a + 1) n) ≡ rest) → filter q (range_with_len a (suc n)) ≡ rest
  at true in_it behind =
      let here : a ∷ filter p (range_with_len (a + 1) n) ≡ x ∷ rest = sym (cond-true (p a) _ _ in_it) ∙ e in
      let is : a ≡ x = ap (λ l. slice_index l 0) here in
      cond-false (q a) _ _ (ap q is ∙ gone) ∙ (same_above q p x (a + 1) n (omega (arith, is)) same ∙ ap (drop 1) here)
  at false out behind = cond-false (q a) _ _ (fails (eqb a x) refl out) ∙ behind (sym (cond-false (p a) _ _ out) ∙ e)

-- What a flush makes of the lines with unflushed changes.

mark_here : (line : ℕ) (c : Undrained) → eqb (c.word / 8) line ≡ true → mark line c ≡ record c { flushed = true }
mark_here line c e = cond-true (eqb (c.word / 8) line) (record c { flushed = true }) c e

mark_elsewhere : (line : ℕ) (c : Undrained) → eqb (c.word / 8) line ≡ false → mark line c ≡ c
mark_elsewhere line c e = cond-false (eqb (c.word / 8) line) (record c { flushed = true }) c e

-- whether one change is unflushed and in a line
abbrev dirties : ℕ → Undrained → Bool
dirties k c = eqb (c.word / 8) k && not c.flushed

-- the flushed line has none
none_in_flushed : (line : ℕ) (changes : List Undrained) → is_unflushed (flushed line changes) line ≡ false
none_in_flushed line [] = refl
none_in_flushed line (c ∷ changes) = at (eqb (c.word / 8) line) refl (none_in_flushed line changes) where
  at : (b : Bool) → eqb (c.word / 8) line ≡ b → is_unflushed (flushed line changes) line ≡ false → is_unflushed (flushed line (c ∷ changes)) line ≡ false
  at true e others = ap (λ (d : Undrained). dirties line d || is_unflushed (flushed line changes) line) (mark_here line c e) ∙ (ap (λ b. (b && false) || is_unflushed (flushed line changes) line) e ∙ others)
  at false e others = ap (λ (d : Undrained). dirties line d || is_unflushed (flushed line changes) line) (mark_elsewhere line c e) ∙ (ap (λ b. (b && not c.flushed) || is_unflushed (flushed line changes) line) e ∙ others)

-- any other line has as many
others_stay : (line k : ℕ) (changes : List Undrained) → k ≢ line → is_unflushed (flushed line changes) k ≡ is_unflushed changes k
others_stay line k [] other = refl
others_stay line k (c ∷ changes) other =
    ap (λ b. dirties k (mark line c) || b) (others_stay line k changes other) ∙ ap (λ b. b || is_unflushed changes k) (at (eqb (c.word / 8) line) refl) where
      at : (b : Bool) → eqb (c.word / 8) line ≡ b → dirties k (mark line c) ≡ dirties k c
      at true e =
          let not_k : eqb (c.word / 8) k ≡ false = grind (arith, nat_tests) in
          ap (dirties k) (mark_here line c e) ∙ (ap (λ b. b && false) not_k ∙ sym (ap (λ b. b && not c.flushed) not_k))
      at false e = ap (dirties k) (mark_elsewhere line c e)

same_reach : (line : ℕ) (changes : List Undrained) → lines_up_to (flushed line changes) ≡ lines_up_to changes
unfolding lines_up_to
same_reach line [] = refl
same_reach line (c ∷ changes) = ap (λ n. max ((mark line c).word / 8 + 1) n) (same_reach line changes) ∙ ap (λ w. max (w / 8 + 1) (lines_up_to changes)) (at (eqb (c.word / 8) line) refl) where
  at : (b : Bool) → eqb (c.word / 8) line ≡ b → (mark line c).word ≡ c.word
  at true e = ap (λ (d : Undrained). d.word) (mark_here line c e)
  at false e = ap (λ (d : Undrained). d.word) (mark_elsewhere line c e)

-- no line past the last change has any
within_reach : (line : ℕ) (changes : List Undrained) → is_unflushed changes line ≡ true → line < lines_up_to changes
unfolding lines_up_to
within_reach line [] e = absurd (search rules)
within_reach line (c ∷ changes) e = at (eqb (c.word / 8) line) refl (within_reach line changes) where
  at : (b : Bool) → eqb (c.word / 8) line ≡ b → (is_unflushed changes line ≡ true → line < lines_up_to changes) → line < max (c.word / 8 + 1) (lines_up_to changes)
  at true here others = let is : c.word / 8 ≡ line = grind (arith, nat_tests) in omega (arith, is)
  at false there others = let far = others (sym (ap (λ b. (b && not c.flushed) || is_unflushed changes line) there) ∙ e) in omega (arith, far)

-- At most as many lines are to be flushed as there are changes.
pub few_unflushed : (changes : List Undrained) → length (unflushed_lines changes) ≤ length changes
unfolding unflushed_lines
few_unflushed changes = in_range changes (lines_up_to changes) where
  in_range : (changes : List Undrained) (n : ℕ) → length (filter (is_unflushed changes) (range_with_len 0 n)) ≤ length changes
  in_range [] n = let is = ap length (none_passes (is_unflushed []) 0 n (λ k. refl)) in omega (arith, is)
  in_range (c ∷ changes) n =
      let more = one_more (is_unflushed (c ∷ changes)) (is_unflushed changes) (c.word / 8) 0 n (λ k other.
      ap (λ b. (b && not c.flushed) || is_unflushed changes k) (let is : eqb (c.word / 8) k ≡ false = grind (arith, nat_tests) in is)) in
      let few = in_range changes n in
      omega (arith, more, few)

-- With no first line none is to be flushed.
pub none_unflushed : (changes : List Undrained) → IsFirstUnflushed changes None → unflushed_lines changes ≡ []
unfolding unflushed_lines
none_unflushed changes none = none_passes (is_unflushed changes) 0 (lines_up_to changes) none

-- The first line comes first, and after it come those that are left once it is flushed.
pub first_unflushed : (changes : List Undrained) (line : ℕ) → IsFirstUnflushed changes (Some line) → unflushed_lines changes ≡ line ∷ unflushed_lines (flushed line changes)
unfolding unflushed_lines
first_unflushed changes line first =
    let n : ℕ = lines_up_to changes in
    let within : line < n = within_reach line changes first.0 in
    let head : filter (is_unflushed changes) (range_with_len 0 n) ≡ line ∷ drop 1 (filter (is_unflushed changes) (range_with_len 0 n))
    = first_passes (is_unflushed changes) line 0 n (omega arith) (omega (arith, within)) first.0 first.1 in
    head ∙ ap (λ l. line ∷ l) (sym (subst (λ m. filter (is_unflushed (flushed line changes)) (range_with_len 0 m) ≡ drop 1 (filter (is_unflushed changes) (range_with_len 0 n))) (sym (same_reach line changes))
    (rest_passes (is_unflushed changes) (is_unflushed (flushed line changes)) line 0 n _ (none_in_flushed line changes) (λ k other. others_stay line k changes other) head)))

-- Whatever line comes first, after it come those that are left once it is flushed.
pub rest_unflushed : (changes : List Undrained) (line : ℕ) (rest : List ℕ) → unflushed_lines changes ≡ line ∷ rest → unflushed_lines (flushed line changes) ≡ rest
unfolding unflushed_lines
rest_unflushed changes line rest e =
    subst (λ m. filter (is_unflushed (flushed line changes)) (range_with_len 0 m) ≡ rest) (sym (same_reach line changes))
    (rest_passes (is_unflushed changes) (is_unflushed (flushed line changes)) line 0 (lines_up_to changes) rest (none_in_flushed line changes) (λ k other. others_stay line k changes other) e)
