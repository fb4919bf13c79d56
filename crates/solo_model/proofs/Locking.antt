-- The locks that are held after a begin are those held before and those wanted.
use Rattle.std.proofs.Common.{◌≡◌, ⊎_elim, ◌⊎◌, inl, inr, ℕ, List, [], ◌∷◌, Bool, true, false, not, cond, eqb, ◌&&◌, ◌||◌, refl, ◌∙◌, subst}
use Rattle.std.specs.List.{filter, list_any}
use Rattle.std.proofs.lemmas.Bool.{cases_Bool, false≢true, eqb-true, eq-eqb, or_cases, or_left, or_right, and_parts, and_from}
use Rattle.pm_objects.specs.declared.calls.Want.{Want}
use Rattle.solo_model.specs.Transaction.{Lock, Transaction, locked, locked_all, is_locked, is_new, holds_object, wants_of_old}
use Rattle.solo_model.specs.Names.{is_wanted}

-- a test that asks less passes as well
pub list_any_weaker : {A : Type 0} (p q : A → Bool) (xs : List A) → ((x : A) → p x ≡ true → q x ≡ true) → list_any p xs ≡ true → list_any q xs ≡ true
list_any_weaker p q [] weaker holds = holds
list_any_weaker p q (x ∷ xs) weaker holds = ⊎_elim
    (λ (here : p x ≡ true). or_left (q x) (list_any q xs) (weaker x here))
    (λ (there : list_any p xs ≡ true). or_right (q x) (list_any q xs) (list_any_weaker p q xs weaker there))
    (or_cases (p x) (list_any p xs) holds)

-- a lock held or wanted for writing is one for reading too
weaker_lock : (one other write : Bool) → (one && (other || not write)) ≡ true → (one && (other || not false)) ≡ true
weaker_lock one other write holds = and_from one (other || true) (and_parts one (other || not write) holds).0 (or_right other true refl)

pub is_locked_to_read : (locks : List Lock) (off : ℕ) (write : Bool) → is_locked locks off write ≡ true → is_locked locks off false ≡ true
is_locked_to_read locks off write =
    list_any_weaker (λ (l : Lock). eqb l.off off && (l.write || not write)) (λ (l : Lock). eqb l.off off && (l.write || not false)) locks
    (λ l. weaker_lock (eqb l.off off) l.write write)

pub is_wanted_to_read : (wants : List Want) (off : ℕ) (write : Bool) → is_wanted wants off write ≡ true → is_wanted wants off false ≡ true
is_wanted_to_read wants off write =
    list_any_weaker (λ (w : Want). eqb w.id.off off && (w.write || not write)) (λ (w : Want). eqb w.id.off off && (w.write || not false)) wants
    (λ w. weaker_lock (eqb w.id.off off) w.write write)

-- an object that is held to write is held to read
pub holds_to_read : (tx : Transaction) (off : ℕ) (write : Bool) → holds_object tx off write ≡ true → holds_object tx off false ≡ true
holds_to_read tx off write holds = ⊎_elim
    (λ (new : is_new tx off ≡ true). or_left (is_new tx off) (is_locked tx.locks off false) new)
    (λ (old : is_locked tx.locks off write ≡ true). or_right (is_new tx off) (is_locked tx.locks off false) (is_locked_to_read tx.locks off write old))
    (or_cases (is_new tx off) (is_locked tx.locks off write) holds)

-- what passes a test among some of a list does among all of it
pub any_of_some : {A : Type 0} (p q : A → Bool) (xs : List A) → list_any p (filter q xs) ≡ true → list_any p xs ≡ true
any_of_some p q [] holds = holds
any_of_some p q (x ∷ xs) holds = by_test (q x) holds (any_of_some p q xs) where
  by_test : (kept : Bool) → list_any p (cond kept (x ∷ filter q xs) (filter q xs)) ≡ true → (list_any p (filter q xs) ≡ true → list_any p xs ≡ true) → (p x || list_any p xs) ≡ true
  by_test true found rest = ⊎_elim
      (λ (here : p x ≡ true). or_left (p x) (list_any p xs) here)
      (λ (there : list_any p (filter q xs) ≡ true). or_right (p x) (list_any p xs) (rest there))
      (or_cases (p x) (list_any p (filter q xs)) found)
  by_test false found rest = or_right (p x) (list_any p xs) (rest found)

-- a lock that stands for two is one of them
one_of_two : (old new write : Bool) → ((old || new) || not write) ≡ true → ((old || not write) ≡ true) ⊎ ((new || not write) ≡ true)
one_of_two true new write holds = inl refl
one_of_two false new write holds = inr holds

-- what is locked after one more lock was locked before, or is this one
pub locked_from : (o : ℕ) (w : Bool) (locks : List Lock) (x : ℕ) (write : Bool) → is_locked (locked o w locks) x write ≡ true
    → ((eqb o x && (w || not write)) ≡ true) ⊎ (is_locked locks x write ≡ true)
unfolding locked
locked_from o w [] x write holds = ⊎_elim (λ (here : (eqb o x && (w || not write)) ≡ true). inl here) (λ (none : false ≡ true). absurd (false≢true none))
    (or_cases (eqb o x && (w || not write)) false holds)
locked_from o w (l ∷ locks) x write holds = ⊎_elim
    (λ (same : eqb l.off o ≡ true).
    let one : ((eqb o x && ((l.write || w) || not write)) || is_locked locks x write) ≡ true =
    subst (λ (b : Bool). is_locked (cond b (record { off = o; write = l.write || w } ∷ locks) (l ∷ locked o w locks)) x write ≡ true) same holds in
    ⊎_elim
    (λ (here : (eqb o x && ((l.write || w) || not write)) ≡ true).
    let parts : (eqb o x ≡ true) × (((l.write || w) || not write) ≡ true) = and_parts (eqb o x) ((l.write || w) || not write) here in
    ⊎_elim
    (λ (old : (l.write || not write) ≡ true). inr (or_left (eqb l.off x && (l.write || not write)) (is_locked locks x write)
    (and_from (eqb l.off x) (l.write || not write) (eq-eqb l.off x (eqb-true l.off o same ∙ eqb-true o x parts.0)) old)))
    (λ (new : (w || not write) ≡ true). inl (and_from (eqb o x) (w || not write) parts.0 new))
    (one_of_two l.write w write parts.1))
    (λ (there : is_locked locks x write ≡ true). inr (or_right (eqb l.off x && (l.write || not write)) (is_locked locks x write) there))
    (or_cases (eqb o x && ((l.write || w) || not write)) (is_locked locks x write) one))
    (λ (other : eqb l.off o ≡ false).
    let rest : ((eqb l.off x && (l.write || not write)) || is_locked (locked o w locks) x write) ≡ true =
    subst (λ (b : Bool). is_locked (cond b (record { off = o; write = l.write || w } ∷ locks) (l ∷ locked o w locks)) x write ≡ true) other holds in
    ⊎_elim
    (λ (here : (eqb l.off x && (l.write || not write)) ≡ true). inr (or_left (eqb l.off x && (l.write || not write)) (is_locked locks x write) here))
    (λ (there : is_locked (locked o w locks) x write ≡ true). ⊎_elim
    (λ (mine : (eqb o x && (w || not write)) ≡ true). inl mine)
    (λ (old : is_locked locks x write ≡ true). inr (or_right (eqb l.off x && (l.write || not write)) (is_locked locks x write) old))
    (locked_from o w locks x write there))
    (or_cases (eqb l.off x && (l.write || not write)) (is_locked (locked o w locks) x write) rest))
    (cases_Bool (eqb l.off o))

-- what is locked after a begin was locked before, or is wanted by it
pub locked_all_from : (wants : List Want) (locks : List Lock) (x : ℕ) (write : Bool) → is_locked (locked_all wants locks) x write ≡ true
    → (is_wanted wants x write ≡ true) ⊎ (is_locked locks x write ≡ true)
unfolding locked_all
locked_all_from [] locks x write holds = inr holds
locked_all_from (want ∷ wants) locks x write holds = ⊎_elim
    (λ (later : is_wanted wants x write ≡ true). inl (or_right (eqb want.id.off x && (want.write || not write)) (is_wanted wants x write) later))
    (λ (now : is_locked (locked want.id.off want.write locks) x write ≡ true). ⊎_elim
    (λ (mine : (eqb want.id.off x && (want.write || not write)) ≡ true). inl (or_left (eqb want.id.off x && (want.write || not write)) (is_wanted wants x write) mine))
    (λ (old : is_locked locks x write ≡ true). inr old)
    (locked_from want.id.off want.write locks x write now))
    (locked_all_from wants (locked want.id.off want.write locks) x write holds)

-- what is held after a begin was held before, or is wanted by it
pub held_from : (wants : List Want) (tx : Transaction) (x : ℕ) (write : Bool) → (is_new tx x || is_locked (locked_all (wants_of_old tx wants) tx.locks) x write) ≡ true
    → (is_wanted wants x write ≡ true) ⊎ (holds_object tx x write ≡ true)
held_from wants tx x write holds = ⊎_elim
    (λ (new : is_new tx x ≡ true). inr (or_left (is_new tx x) (is_locked tx.locks x write) new))
    (λ (lock : is_locked (locked_all (wants_of_old tx wants) tx.locks) x write ≡ true). ⊎_elim
    (λ (wanted : is_wanted (wants_of_old tx wants) x write ≡ true).
    inl (any_of_some (λ (w : Want). eqb w.id.off x && (w.write || not write)) (λ (w : Want). not (is_new tx w.id.off)) wants wanted))
    (λ (old : is_locked tx.locks x write ≡ true). inr (or_right (is_new tx x) (is_locked tx.locks x write) old))
    (locked_all_from (wants_of_old tx wants) tx.locks x write lock))
    (or_cases (is_new tx x) (is_locked (locked_all (wants_of_old tx wants) tx.locks) x write) holds)
