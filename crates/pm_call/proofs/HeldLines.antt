-- WHICH LINES A LANE HOLDS once it took some locks and raised some of them: those of its list.
use Rattle.std.specs.Prelude.{drop, filter, length, take}
use Rattle.std.proofs.Common.{◌≡◌, ◌≢◌, ⊎_elim, inl, inr, ◌⊎◌, ℕ, zero, suc, ◌+◌, Bool, true, false, cond, not, ◌==◌, ◌&&◌, ◌||◌, List, [], ◌∷◌, ◌++◌, refl, ap, arith, ne_eqb}
use Rattle.std.specs.List.{AllByRecursion, list_any}
use Rattle.std.proofs.lemmas.Bool.{and_from, both_ways, or_cases, or_left, or_right}
use Rattle.pm_view.specs.Claims.{Claim, Raised, Took, holds, locked, reads}
use Rattle.pm_view.specs.View.{View}
use Rattle.pm_world.specs.declared.lane.HeldLock.{HeldLock}
use Rattle.pm_lock.specs.Holding.{AreOnce, IsHeldAs, took}
use Rattle.pm_lock.specs.Locking.{lock_of}
use Rattle.pm_lock.specs.Raising.{is_raised, raised, rose}
use Rattle.pm_lock.specs.Wants.{is_listed}
use Rattle.pm_lock.proofs.Acquired.{held_as}
use Rattle.pm_call.specs.Held.{AreHeld, HasObject}

-- ---- the lines of a list, and those that are held
abbrev pub has_lock : List HeldLock → ℕ → Bool
has_lock locks line = list_any (λ (l : HeldLock). l.line == line) locks

one_taken : (w a b c : Bool) → (((w && a) || b) || ((not w && a) || c)) ≡ true → (a ≡ true) ⊎ ((b || c) ≡ true)
one_taken w true b c e = inl refl
one_taken true false b c e = inr e
one_taken false false b c e = inr e

one_raised : (a b c : Bool) → ((a || b) || (not a && c)) ≡ true → (a ≡ true) ⊎ ((b || c) ≡ true)
one_raised true b c e = inl refl
one_raised false b c e = inr e

pub holds_taken : (locks : List HeldLock) (t : List Claim) (line : ℕ) → holds (took locks t) line ≡ true → (holds t line ≡ true) ⊎ (has_lock locks line ≡ true)
holds_taken [] t line e = inl e
holds_taken (l ∷ locks) t line e = ⊎_elim
    (λ (h : holds (Took l.line l.write ∷ t) line ≡ true). ⊎_elim (λ (q : (l.line == line) ≡ true). inr (or_left (l.line == line) (has_lock locks line) q)) (λ (q : holds t line ≡ true). inl q) (one_taken l.write (l.line == line) (locked t line) (reads t line) h))
    (λ (h : has_lock locks line ≡ true). inr (or_right (l.line == line) (has_lock locks line) h))
    (holds_taken locks (Took l.line l.write ∷ t) line e)

pub holds_rose : (locks : List HeldLock) (t : List Claim) (line : ℕ) → holds (rose locks t) line ≡ true → (holds t line ≡ true) ⊎ (has_lock locks line ≡ true)
holds_rose [] t line e = inl e
holds_rose (l ∷ locks) t line e = ⊎_elim
    (λ (h : holds (Raised l.line ∷ t) line ≡ true). ⊎_elim (λ (q : (l.line == line) ≡ true). inr (or_left (l.line == line) (has_lock locks line) q)) (λ (q : holds t line ≡ true). inl q) (one_raised (l.line == line) (locked t line) (reads t line) h))
    (λ (h : has_lock locks line ≡ true). inr (or_right (l.line == line) (has_lock locks line) h))
    (holds_rose locks (Raised l.line ∷ t) line e)

pub has_filter : (P : HeldLock → Bool) (locks : List HeldLock) (line : ℕ) → has_lock (filter P locks) line ≡ true → has_lock locks line ≡ true
has_filter P [] line e = e
has_filter P (l ∷ locks) line e = by (P l) (has_filter P locks line) e where
  by : (b : Bool) → (has_lock (filter P locks) line ≡ true → has_lock locks line ≡ true) → has_lock (cond b (l ∷ filter P locks) (filter P locks)) line ≡ true → (l.line == line || has_lock locks line) ≡ true
  by true rest e = ⊎_elim (λ (h : (l.line == line) ≡ true). or_left (l.line == line) (has_lock locks line) h) (λ (h : has_lock (filter P locks) line ≡ true). or_right (l.line == line) (has_lock locks line) (rest h)) (or_cases (l.line == line) (has_lock (filter P locks) line) e)
  by false rest e = or_right (l.line == line) (has_lock locks line) (rest e)

pub has_left : (one two : List HeldLock) (line : ℕ) → has_lock one line ≡ true → has_lock (one ++ two) line ≡ true
has_left [] two line e = absurd (both_ways false refl e)
has_left (l ∷ one) two line e = ⊎_elim (λ (h : (l.line == line) ≡ true). or_left (l.line == line) (has_lock (one ++ two) line) h) (λ (h : has_lock one line ≡ true). or_right (l.line == line) (has_lock (one ++ two) line) (has_left one two line h)) (or_cases (l.line == line) (has_lock one line) e)

pub has_right : (one two : List HeldLock) (line : ℕ) → has_lock two line ≡ true → has_lock (one ++ two) line ≡ true
has_right [] two line e = e
has_right (l ∷ one) two line e = or_right (l.line == line) (has_lock (one ++ two) line) (has_right one two line e)

pub has_raised : (writes : ℕ → Bool) (locks : List HeldLock) (line : ℕ) → has_lock (raised writes locks) line ≡ has_lock locks line
has_raised writes [] line = refl
has_raised writes (l ∷ locks) line = ap (λ b. l.line == line || b) (has_raised writes locks line)

pub listed_has : (locks : List HeldLock) (line : ℕ) → is_listed locks [] line ≡ true → has_lock locks line ≡ true
listed_has locks line e = ⊎_elim (λ (h : has_lock locks line ≡ true). h) (λ (h : false ≡ true). absurd (both_ways false refl h)) (or_cases (has_lock locks line) false e)

-- ---- two lists as one, and all that are raised
pub all_on : {A : Type 0} (P : A → Type 0) (xs ys : List A) → AllByRecursion P xs → AllByRecursion P ys → AllByRecursion P (xs ++ ys)
all_on P [] ys a b = b
all_on P (x ∷ xs) ys a b = (a.0, all_on P xs ys a.1 b)

pub length_both : {A : Type 0} (xs ys : List A) → length (xs ++ ys) ≡ length xs + length ys
length_both [] ys = omega arith
length_both (x ∷ xs) ys = let n = length_both xs ys in omega (arith, n)

pub length_raised : (writes : ℕ → Bool) (locks : List HeldLock) → length (raised writes locks) ≡ length locks
length_raised writes [] = refl
length_raised writes (l ∷ locks) = ap (λ n. suc n) (length_raised writes locks)

-- each lock of the list has its object, and is held as the list says
pub all_held : (v : View) (writes : ℕ → Bool) (locks : List HeldLock) → AllByRecursion (λ (l : HeldLock). (l.line ≡ 0) ⊎ HasObject v l.line) locks → AllByRecursion (IsHeldAs v.claims) (raised writes locks) → AreHeld v (raised writes locks)
all_held v writes [] objects held = tt
all_held v writes (l ∷ locks) objects held = (record { held = (held.0.0, held_as v.claims (lock_of l.line (l.write || writes l.line)) held.0); object = objects.0 }, all_held v writes locks objects.1 held.1)

-- ---- THE FIRST SO MANY ARE RAISED
pub all_take : {A : Type 0} (P : A → Type 0) (n : ℕ) (xs : List A) → AllByRecursion P xs → AllByRecursion P (take n xs)
all_take P zero xs all = tt
all_take P (suc n) [] all = tt
all_take P (suc n) (x ∷ xs) all = (all.0, all_take P n xs all.1)

all_drop : {A : Type 0} (P : A → Type 0) (n : ℕ) (xs : List A) → AllByRecursion P xs → AllByRecursion P (drop n xs)
all_drop P zero xs all = all
all_drop P (suc n) [] all = tt
all_drop P (suc n) (x ∷ xs) all = all_drop P n xs all.1

abbrev pub raised_to : (ℕ → Bool) → ℕ → List HeldLock → List HeldLock
raised_to writes n locks = raised writes (take n locks) ++ drop n locks

pub has_take : (n : ℕ) (locks : List HeldLock) (line : ℕ) → has_lock (take n locks) line ≡ true → has_lock locks line ≡ true
has_take zero locks line e = absurd (both_ways false refl e)
has_take (suc n) [] line e = e
has_take (suc n) (l ∷ locks) line e = ⊎_elim (λ (h : (l.line == line) ≡ true). or_left (l.line == line) (has_lock locks line) h) (λ (h : has_lock (take n locks) line ≡ true). or_right (l.line == line) (has_lock locks line) (has_take n locks line h)) (or_cases (l.line == line) (has_lock (take n locks) line) e)

module _ (writes : ℕ → Bool) where
  pub has_to : (n : ℕ) (locks : List HeldLock) (line : ℕ) → has_lock (raised_to writes n locks) line ≡ has_lock locks line
  has_to zero locks line = refl
  has_to (suc n) [] line = refl
  has_to (suc n) (l ∷ locks) line = ap (λ b. l.line == line || b) (has_to n locks line)

  pub lines_to : (P : ℕ → Type 0) (n : ℕ) (locks : List HeldLock) → AllByRecursion (λ (l : HeldLock). P l.line) locks → AllByRecursion (λ (l : HeldLock). P l.line) (raised_to writes n locks)
  lines_to P zero locks all = all
  lines_to P (suc n) [] all = tt
  lines_to P (suc n) (l ∷ locks) all = (all.0, lines_to P n locks all.1)

  pub once_to : (n : ℕ) (locks : List HeldLock) → AreOnce locks → AreOnce (raised_to writes n locks)
  once_to zero locks once = once
  once_to (suc n) [] once = tt
  once_to (suc n) (l ∷ locks) once = (lines_to (λ line. l.line ≢ line) n locks once.0, once_to n locks once.1)

-- a line is none of theirs
abbrev IsApart : List HeldLock → ℕ → Type 0
IsApart locks line = AllByRecursion (λ (l : HeldLock). l.line ≢ line) locks

all_apart : (n : ℕ) (locks : List HeldLock) → AreOnce locks → AllByRecursion (λ (k : HeldLock). IsApart (take n locks) k.line) (drop n locks)
all_apart zero locks once = each locks where
  each : (locks : List HeldLock) → AllByRecursion (λ (k : HeldLock). IsApart [] k.line) locks
  each [] = tt
  each (l ∷ locks) = (tt, each locks)
all_apart (suc n) [] once = tt
all_apart (suc n) (l ∷ locks) once = both (drop n locks) (all_drop (λ (k : HeldLock). l.line ≢ k.line) n locks once.0) (all_apart n locks once.1) where
  both : (more : List HeldLock) → AllByRecursion (λ (k : HeldLock). l.line ≢ k.line) more → AllByRecursion (λ (k : HeldLock). IsApart (take n locks) k.line) more → AllByRecursion (λ (k : HeldLock). IsApart (l ∷ take n locks) k.line) more
  both [] a b = tt
  both (k ∷ more) a b = ((a.0, b.0), both more a.1 b.1)

apart_filter : (P : HeldLock → Bool) (locks : List HeldLock) (line : ℕ) → IsApart locks line → IsApart (filter P locks) line
apart_filter P [] line apart = tt
apart_filter P (l ∷ locks) line apart = by (P l) (apart_filter P locks line apart.1) where
  by : (b : Bool) → IsApart (filter P locks) line → IsApart (cond b (l ∷ filter P locks) (filter P locks)) line
  by true rest = (apart.0, rest)
  by false rest = rest

pub locked_rose : (locks : List HeldLock) (t : List Claim) (line : ℕ) → locked t line ≡ true → locked (rose locks t) line ≡ true
locked_rose [] t line e = e
locked_rose (l ∷ locks) t line e = locked_rose locks (Raised l.line ∷ t) line (or_right (l.line == line) (locked t line) e)

reads_rose : (locks : List HeldLock) (t : List Claim) (line : ℕ) → IsApart locks line → reads t line ≡ true → reads (rose locks t) line ≡ true
reads_rose [] t line apart e = e
reads_rose (l ∷ locks) t line apart e = reads_rose locks (Raised l.line ∷ t) line apart.1 (and_from (not (l.line == line)) (reads t line) (ap not (ne_eqb l.line line apart.0)) e)

-- those that are not raised are held as they were
module _ (writes : ℕ → Bool) (n : ℕ) (locks : List HeldLock) (t : List Claim) where
  abbrev now : List Claim
  now = rose (filter (is_raised writes) (take n locks)) t

  held_on : (one two : List HeldLock) → AllByRecursion (IsHeldAs now) one → AllByRecursion (IsHeldAs t) two → AllByRecursion (λ (k : HeldLock). IsApart (take n locks) k.line) two → AllByRecursion (IsHeldAs now) (one ++ two)
  held_on [] [] a b c = tt
  held_on [] (k ∷ two) a b c = (
    (λ e. locked_rose (filter (is_raised writes) (take n locks)) t k.line (b.0.0 e), λ e. reads_rose (filter (is_raised writes) (take n locks)) t k.line (apart_filter (is_raised writes) (take n locks) k.line c.0) (b.0.1 e)),
    held_on [] two tt b.1 c.1,
  )
  held_on (l ∷ one) two a b c = (a.0, held_on one two a.1 b c)

  pub held_to : AreOnce locks → AllByRecursion (IsHeldAs t) locks → AllByRecursion (IsHeldAs now) (raised writes (take n locks)) → AllByRecursion (IsHeldAs now) (raised_to writes n locks)
  held_to once held up = held_on (raised writes (take n locks)) (drop n locks) up (all_drop (IsHeldAs t) n locks held) (all_apart n locks once)
