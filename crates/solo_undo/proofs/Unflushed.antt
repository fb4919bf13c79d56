-- Lines with no unflushed change: flushes and drains keep them so, and a flush makes its line one.
use Rattle.std.proofs.Common.{◌≡◌, ◌≢◌, ℕ, ◌/◌, Bool, true, false, not, cond, ◌&&◌, ◌||◌, List, [], ◌∷◌, ◌++◌, refl, ap, ◌∙◌, ne_eqb, eq-eqb}
use Rattle.std.specs.List.{list_any}
use Rattle.std.proofs.lemmas.Bool.{cond-true, cond-false, or_from, or_parts, or_right}
use Rattle.std.proofs.lemmas.List.Folds.{list_any-append}
use Rattle.solo_view.specs.declared.change.Change.{Change}
use Rattle.solo_view.specs.Changes.{drained, flushed, is_in_line, mark}
use Rattle.solo_view.specs.Counts.{is_unflushed}

abbrev dirties : ℕ → Change → Bool
dirties k c = is_in_line k c && not c.flushed

flushed_here : (line : ℕ) (c : Change) → dirties line (mark line c) ≡ false
flushed_here line c = at (is_in_line line c) refl where
  at : (b : Bool) → is_in_line line c ≡ b → dirties line (mark line c) ≡ false
  at true e = ap (dirties line) (cond-true (is_in_line line c) (record c { flushed = true }) c e) ∙ none (is_in_line line c)
    where
      none : (b : Bool) → (b && false) ≡ false
      none true = refl
      none false = refl
  at false e = ap (dirties line) (cond-false (is_in_line line c) (record c { flushed = true }) c e) ∙ ap (λ b. b && not c.flushed) e

-- the flushed line has none
pub flush_cleans : (line : ℕ) (changes : List Change) → is_unflushed (flushed line changes) line ≡ false
flush_cleans line [] = refl
flush_cleans line (c ∷ changes) = or_from (dirties line (mark line c)) (is_unflushed (flushed line changes) line) (flushed_here line c) (flush_cleans line changes)

still_clean : (line k : ℕ) (c : Change) → dirties k c ≡ false → dirties k (mark line c) ≡ false
still_clean line k c clean = at (is_in_line line c) where
  none : (b : Bool) → (b && false) ≡ false
  none true = refl
  none false = refl

  at : (b : Bool) → dirties k (cond b (record c { flushed = true }) c) ≡ false
  at true = none (is_in_line k c)
  at false = clean

-- what has none has none after a flush
pub flush_keeps_clean : (line k : ℕ) (changes : List Change) → is_unflushed changes k ≡ false → is_unflushed (flushed line changes) k ≡ false
flush_keeps_clean line k [] clean = refl
flush_keeps_clean line k (c ∷ changes) clean =
    let t = or_parts (dirties k c) (is_unflushed changes k) clean in
    or_from (dirties k (mark line c)) (is_unflushed (flushed line changes) k) (still_clean line k c t.0) (flush_keeps_clean line k changes t.1)

-- one change more, of another line
pub clean_more : (k : ℕ) (changes : List Change) (c : Change) → c.word / 8 ≢ k → is_unflushed changes k ≡ false → is_unflushed (changes ++ c ∷ []) k ≡ false
clean_more k changes c apart clean =
    list_any-append (dirties k) changes (c ∷ []) ∙ or_from (is_unflushed changes k) (is_unflushed (c ∷ []) k) clean (or_from (dirties k c) false (ap (λ b. b && not c.flushed) (ne_eqb (c.word / 8) k apart)) refl)

-- one change more of the line
pub unclean_more : (k : ℕ) (changes : List Change) (c : Change) → c.word / 8 ≡ k → c.flushed ≡ false → is_unflushed (changes ++ c ∷ []) k ≡ true
unclean_more k changes c here unflushed =
    list_any-append (dirties k) changes (c ∷ []) ∙ or_right (is_unflushed changes k) (is_unflushed (c ∷ []) k) (ap (λ b. (b && not c.flushed) || false) (eq-eqb (c.word / 8) k here) ∙ ap (λ b. not b || false) unflushed)

-- a drain leaves nothing of such a line
pub drained_clean : (k : ℕ) (changes : List Change) → is_unflushed changes k ≡ false → list_any (is_in_line k) (drained changes) ≡ false
drained_clean k [] clean = refl
drained_clean k (c ∷ changes) clean = let t = or_parts (dirties k c) (is_unflushed changes k) clean in at c.flushed t.0 (drained_clean k changes t.1) where
  none : (b : Bool) → (b && true) ≡ false → b ≡ false
  none true e = absurd cc
  none false e = refl

  at : (f : Bool) → (is_in_line k c && not f) ≡ false → list_any (is_in_line k) (drained changes) ≡ false → list_any (is_in_line k) (cond (not f) (c ∷ drained changes) (drained changes)) ≡ false
  at true e rest = rest
  at false e rest = or_from (is_in_line k c) (list_any (is_in_line k) (drained changes)) (none (is_in_line k c) e) rest

-- and what is drained has none
pub clean_drained : (k : ℕ) (changes : List Change) → not (list_any (is_in_line k) changes) ≡ true → is_unflushed changes k ≡ false
clean_drained k [] clean = refl
clean_drained k (c ∷ changes) clean =
    let t = or_parts (is_in_line k c) (list_any (is_in_line k) changes) (negated (is_in_line k c || list_any (is_in_line k) changes) clean) in
    or_from (dirties k c) (is_unflushed changes k) (ap (λ b. b && not c.flushed) t.0) (clean_drained k changes (ap not t.1)) where
      negated : (b : Bool) → not b ≡ true → b ≡ false
      negated true e = absurd cc
      negated false e = refl
