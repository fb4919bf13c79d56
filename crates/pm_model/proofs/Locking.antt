-- The locks that are held after a begin are those held before and those asked for.
use Rattle.std.proofs.Common.{◌≡◌, ⊎_elim, ◌⊎◌, inl, inr, ℕ, List, [], ◌∷◌, Bool, true, false, not, cond, eqb, ◌&&◌, ◌||◌, refl, ◌∙◌, subst}
use Rattle.std.specs.List.{list_any}
use Rattle.std.proofs.lemmas.Bool.{cases_Bool, false≢true, eqb-true, eq-eqb, or_cases, or_left, or_right, and_parts, and_from}
use Rattle.pm_objects.specs.declared.calls.Want.{Want}
use Rattle.pm_model.specs.Transaction.{Lock, locked, all_locked, is_locked}

-- a test that asks less passes as well
pub list_any_weaker : {A : Type 0} (p q : A → Bool) (xs : List A)
    → ((x : A) → p x ≡ true → q x ≡ true) → list_any p xs ≡ true → list_any q xs ≡ true
list_any_weaker p q [] weaker holds = holds
list_any_weaker p q (x ∷ xs) weaker holds = ⊎_elim
    (λ (here : p x ≡ true). or_left (q x) (list_any q xs) (weaker x here))
    (λ (there : list_any p xs ≡ true). or_right (q x) (list_any q xs)
    (list_any_weaker p q xs weaker there))
    (or_cases (p x) (list_any p xs) holds)

-- a lock held or wanted for writing is one for reading too
weaker_lock : (one other write : Bool) → (one && (other || not write)) ≡ true
    → (one && (other || not false)) ≡ true
weaker_lock one other write holds = and_from one (other || true)
    (and_parts one (other || not write) holds).0 (or_right other true refl)

pub is_locked_to_read : (locks : List Lock) (off : ℕ) (write : Bool)
    → is_locked locks off write ≡ true → is_locked locks off false ≡ true
is_locked_to_read locks off write =
    list_any_weaker (λ (l : Lock). eqb l.off off && (l.write || not write))
    (λ (l : Lock). eqb l.off off && (l.write || not false)) locks
    (λ l. weaker_lock (eqb l.off off) l.write write)

-- a lock that stands for two is one of them
one_of_two : (old new write : Bool) → ((old || new) || not write) ≡ true
    → ((old || not write) ≡ true) ⊎ ((new || not write) ≡ true)
one_of_two true new write holds = inl refl
one_of_two false new write holds = inr holds

-- what is locked after one more lock was locked before, or is this one
pub locked_from : (o : ℕ) (w : Bool) (locks : List Lock) (x : ℕ) (write : Bool)
    → is_locked (locked o w locks) x write ≡ true
    → ((eqb o x && (w || not write)) ≡ true) ⊎ (is_locked locks x write ≡ true)
unfolding locked
locked_from o w [] x write holds = ⊎_elim
    (λ (here : (eqb o x && (w || not write)) ≡ true). inl here)
    (λ (none : false ≡ true). absurd (false≢true none))
    (or_cases (eqb o x && (w || not write)) false holds)
locked_from o w (l ∷ locks) x write holds = ⊎_elim
    (λ (same : eqb l.off o ≡ true).
    let one : ((eqb o x && ((l.write || w) || not write)) || is_locked locks x write) ≡ true =
    subst (λ (b : Bool). is_locked
    (cond b (record { off = o; write = l.write || w } ∷ locks)
    (l ∷ locked o w locks)) x write ≡ true) same holds in
    ⊎_elim
    (λ (here : (eqb o x && ((l.write || w) || not write)) ≡ true).
    let parts : (eqb o x ≡ true)
    × (((l.write || w) || not write) ≡ true) = and_parts (eqb o x)
    ((l.write || w) || not write) here in
    ⊎_elim
    (λ (old : (l.write || not write) ≡ true). inr
    (or_left (eqb l.off x && (l.write || not write)) (is_locked locks x write)
    (and_from (eqb l.off x) (l.write || not write)
    (eq-eqb l.off x (eqb-true l.off o same ∙ eqb-true o x parts.0)) old)))
    (λ (new : (w || not write) ≡ true). inl (and_from (eqb o x) (w || not write) parts.0 new))
    (one_of_two l.write w write parts.1))
    (λ (there : is_locked locks x write ≡ true). inr
    (or_right (eqb l.off x && (l.write || not write)) (is_locked locks x write) there))
    (or_cases (eqb o x && ((l.write || w) || not write)) (is_locked locks x write) one))
    (λ (other : eqb l.off o ≡ false).
    let rest : ((eqb l.off x && (l.write || not write))
    || is_locked (locked o w locks) x write) ≡ true =
    subst (λ (b : Bool). is_locked
    (cond b (record { off = o; write = l.write || w } ∷ locks)
    (l ∷ locked o w locks)) x write ≡ true) other holds in
    ⊎_elim
    (λ (here : (eqb l.off x && (l.write || not write)) ≡ true). inr
    (or_left (eqb l.off x && (l.write || not write)) (is_locked locks x write) here))
    (λ (there : is_locked (locked o w locks) x write ≡ true). ⊎_elim
    (λ (mine : (eqb o x && (w || not write)) ≡ true). inl mine)
    (λ (old : is_locked locks x write ≡ true). inr
    (or_right (eqb l.off x && (l.write || not write)) (is_locked locks x write) old))
    (locked_from o w locks x write there))
    (or_cases (eqb l.off x && (l.write || not write)) (is_locked (locked o w locks) x write) rest))
    (cases_Bool (eqb l.off o))

-- what is locked after a begin was locked before, or is asked for
pub all_locked_from : (wants : List Want) (locks : List Lock) (x : ℕ) (write : Bool)
    → is_locked (all_locked wants locks) x write ≡ true
    → (list_any (λ (want : Want). eqb want.id.off x && (want.write || not write)) wants ≡ true)
    ⊎ (is_locked locks x write ≡ true)
unfolding all_locked
all_locked_from [] locks x write holds = inr holds
all_locked_from (want ∷ wants) locks x write holds =
    let asks : Want → Bool = λ w. eqb w.id.off x && (w.write || not write) in
    ⊎_elim
    (λ (later : list_any asks wants ≡ true). inl
    (or_right (asks want) (list_any asks wants) later))
    (λ (now : is_locked (locked want.id.off want.write locks) x write ≡ true). ⊎_elim
    (λ (mine : asks want ≡ true). inl (or_left (asks want) (list_any asks wants) mine))
    (λ (old : is_locked locks x write ≡ true). inr old)
    (locked_from want.id.off want.write locks x write now))
    (all_locked_from wants (locked want.id.off want.write locks) x write holds)
