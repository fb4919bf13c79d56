-- Which objects are locked, and by how many locks, once more are wanted: this does not depend on the order of the wants.
use Rattle.std.proofs.Common.{◌≡◌, ◌≢◌, ⊎_elim, ℕ, ◌+◌, Bool, true, false, not, cond, eqb, ◌&&◌, ◌||◌, List, [], ◌∷◌, length, refl, sym, ◌∙◌, ap, arith}
use Rattle.std.proofs.lemmas.Bool.{and_left, cases_Bool, cases_eq, cond-false, cond-true, eq-eqb, eqb-true, ne_eqb, or_right}
use Rattle.pm_objects.specs.declared.calls.Want.{Want}
use Rattle.solo_model.specs.Transaction.{Lock, is_locked, locked, locked_all}
use Rattle.solo_crash.specs.Locks.{AreSameLocks}

pub same_locks : (ls : List Lock) → AreSameLocks ls ls
same_locks ls = record { same = λ off write. refl; count = refl }

pub turned_locks : (ls ms : List Lock) → AreSameLocks ls ms → AreSameLocks ms ls
turned_locks ls ms are = record { same = λ off write. sym (are.same off write); count = sym are.count }

pub joined_locks : (ls ms ns : List Lock) → AreSameLocks ls ms → AreSameLocks ms ns → AreSameLocks ls ns
joined_locks ls ms ns one two = record { same = λ off write. one.same off write ∙ two.same off write; count = one.count ∙ two.count }

pub or_none : (a : Bool) → (a || false) ≡ a
or_none true = refl
or_none false = refl

pub or_assoc : (a b c : Bool) → (a || (b || c)) ≡ ((a || b) || c)
or_assoc true b c = refl
or_assoc false b c = refl

pub or_turned : (a b : Bool) → (a || b) ≡ (b || a)
or_turned true true = refl
or_turned true false = refl
or_turned false true = refl
or_turned false false = refl

-- a lock that stands for two
pub joined_tests : (a p q n r : Bool) → ((a && ((p || q) || n)) || r) ≡ (((a && (p || n)) || r) || (a && (q || n)))
joined_tests false p q n r = sym (or_none r)
joined_tests true true q n r = refl
joined_tests true false true true r = refl
joined_tests true false true false r = sym (or_right r true refl)
joined_tests true false false true r = refl
joined_tests true false false false r = sym (or_none r)

-- what is locked after one more lock
pub is_locked_after : (off : ℕ) (w : Bool) (ls : List Lock) (x : ℕ) (write : Bool) → is_locked (locked off w ls) x write ≡ (is_locked ls x write || (eqb off x && (w || not write)))
unfolding locked
is_locked_after off w [] x write = or_none (eqb off x && (w || not write))
is_locked_after off w (l ∷ ls) x write = ⊎_elim
    (λ (here : eqb l.off off ≡ true).
    ap (λ (locks : List Lock). is_locked locks x write) (cond-true (eqb l.off off) (record { off = off; write = l.write || w } ∷ ls) (l ∷ locked off w ls) here)
    ∙ joined_tests (eqb off x) l.write w (not write) (is_locked ls x write)
    ∙ ap (λ (o : ℕ). ((eqb o x && (l.write || not write)) || is_locked ls x write) || (eqb off x && (w || not write))) (sym (eqb-true l.off off here)))
    (λ (other : eqb l.off off ≡ false).
    ap (λ (locks : List Lock). is_locked locks x write) (cond-false (eqb l.off off) (record { off = off; write = l.write || w } ∷ ls) (l ∷ locked off w ls) other)
    ∙ ap (λ (b : Bool). (eqb l.off x && (l.write || not write)) || b) (is_locked_after off w ls x write)
    ∙ or_assoc (eqb l.off x && (l.write || not write)) (is_locked ls x write) (eqb off x && (w || not write)))
    (cases_Bool (eqb l.off off))

-- one lock more where none was held of the object
abbrev pub one_unless : Bool → ℕ
one_unless held = cond held 0 1

pub count_after : (off : ℕ) (w : Bool) (ls : List Lock) → length (locked off w ls) ≡ length ls + one_unless (is_locked ls off false)
unfolding locked
count_after off w [] = refl
count_after off w (l ∷ ls) = ⊎_elim
    (λ (here : eqb l.off off ≡ true).
    let held : is_locked (l ∷ ls) off false ≡ true = (λ j. (here j && or_right l.write true refl j) || is_locked ls off false) in
    let more : one_unless (is_locked (l ∷ ls) off false) ≡ 0 = ap one_unless held in
    ap (λ (locks : List Lock). length locks) (cond-true (eqb l.off off) (record { off = off; write = l.write || w } ∷ ls) (l ∷ locked off w ls) here) ∙ omega arith)
    (λ (other : eqb l.off off ≡ false).
    let held : is_locked (l ∷ ls) off false ≡ is_locked ls off false = (λ j. (other j && (l.write || true)) || is_locked ls off false) in
    let more : one_unless (is_locked (l ∷ ls) off false) ≡ one_unless (is_locked ls off false) = ap one_unless held in
    let rest : length (locked off w ls) ≡ length ls + one_unless (is_locked ls off false) = count_after off w ls in
    ap (λ (locks : List Lock). length locks) (cond-false (eqb l.off off) (record { off = off; write = l.write || w } ∷ ls) (l ∷ locked off w ls) other) ∙ omega arith)
    (cases_Bool (eqb l.off off))

pub locked_alike : (off : ℕ) (w : Bool) (ls ms : List Lock) → AreSameLocks ls ms → AreSameLocks (locked off w ls) (locked off w ms)
locked_alike off w ls ms are =
    record {
      same = λ x write. is_locked_after off w ls x write ∙ ap (λ (b : Bool). b || (eqb off x && (w || not write))) (are.same x write) ∙ sym (is_locked_after off w ms x write);
      count = count_after off w ls ∙ (λ j. are.count j + one_unless (are.same off false j)) ∙ sym (count_after off w ms);
    }

-- the same wants over the same locks
pub wanted_alike : (wants : List Want) (ls ms : List Lock) → AreSameLocks ls ms → AreSameLocks (locked_all wants ls) (locked_all wants ms)
unfolding locked_all
wanted_alike [] ls ms are = are
wanted_alike (want ∷ wants) ls ms are = wanted_alike wants (locked want.id.off want.write ls) (locked want.id.off want.write ms) (locked_alike want.id.off want.write ls ms are)

-- two locks in either order
turned_two : (a b : ℕ) (v w : Bool) (ls : List Lock) → AreSameLocks (locked b w (locked a v ls)) (locked a v (locked b w ls))
turned_two a b v w ls = record {
  same = λ x write.
      let one : Bool = eqb a x && (v || not write) in
      let two : Bool = eqb b x && (w || not write) in
      is_locked_after b w (locked a v ls) x write ∙ ap (λ (t : Bool). t || two) (is_locked_after a v ls x write)
      ∙ sym (or_assoc (is_locked ls x write) one two) ∙ ap (λ (t : Bool). is_locked ls x write || t) (or_turned one two) ∙ or_assoc (is_locked ls x write) two one
      ∙ sym (ap (λ (t : Bool). t || one) (is_locked_after b w ls x write)) ∙ sym (is_locked_after a v (locked b w ls) x write);
  count =
      let one = count_after a v ls in
      let two = count_after b w (locked a v ls) in
      let first = count_after b w ls in
      let second = count_after a v (locked b w ls) in
      let for_b : is_locked (locked a v ls) b false ≡ (is_locked ls b false || (eqb a b && (v || true))) = is_locked_after a v ls b false in
      let for_a : is_locked (locked b w ls) a false ≡ (is_locked ls a false || (eqb b a && (w || true))) = is_locked_after b w ls a false in
      let more_b : one_unless (is_locked (locked a v ls) b false) ≡ one_unless (is_locked ls b false || (eqb a b && (v || true))) = ap one_unless for_b in
      let more_a : one_unless (is_locked (locked b w ls) a false) ≡ one_unless (is_locked ls a false || (eqb b a && (w || true))) = ap one_unless for_a in
      ⊎_elim
      (λ (same : a ≡ b).
      let held_b : (is_locked ls b false || (eqb a b && (v || true))) ≡ true = or_right (is_locked ls b false) (eqb a b && (v || true)) (λ j. eq-eqb a b same j && or_right v true refl j) in
      let held_a : (is_locked ls a false || (eqb b a && (w || true))) ≡ true = or_right (is_locked ls a false) (eqb b a && (w || true)) (λ j. eq-eqb b a (sym same) j && or_right w true refl j) in
      let none_b : one_unless (is_locked ls b false || (eqb a b && (v || true))) ≡ 0 = ap one_unless held_b in
      let none_a : one_unless (is_locked ls a false || (eqb b a && (w || true))) ≡ 0 = ap one_unless held_a in
      let alike : one_unless (is_locked ls a false) ≡ one_unless (is_locked ls b false) = ap (λ (x : ℕ). one_unless (is_locked ls x false)) same in
      omega arith)
      (λ (other : a ≢ b).
      let held_b : (is_locked ls b false || (eqb a b && (v || true))) ≡ is_locked ls b false =
      ap (λ (t : Bool). is_locked ls b false || t) (and_left (eqb a b) (v || true) (ne_eqb a b other)) ∙ or_none (is_locked ls b false) in
      let held_a : (is_locked ls a false || (eqb b a && (w || true))) ≡ is_locked ls a false =
      ap (λ (t : Bool). is_locked ls a false || t) (and_left (eqb b a) (w || true) (ne_eqb b a (λ e. other (sym e)))) ∙ or_none (is_locked ls a false) in
      let as_b : one_unless (is_locked ls b false || (eqb a b && (v || true))) ≡ one_unless (is_locked ls b false) = ap one_unless held_b in
      let as_a : one_unless (is_locked ls a false || (eqb b a && (w || true))) ≡ one_unless (is_locked ls a false) = ap one_unless held_a in
      omega arith)
      (cases_eq a b);
}

-- two neighbours among the wants in either order
pub wanted_in_turn : (a b : Want) (wants : List Want) (ls : List Lock) → AreSameLocks (locked_all (a ∷ b ∷ wants) ls) (locked_all (b ∷ a ∷ wants) ls)
unfolding locked_all
wanted_in_turn a b wants ls =
    wanted_alike wants (locked b.id.off b.write (locked a.id.off a.write ls)) (locked a.id.off a.write (locked b.id.off b.write ls)) (turned_two a.id.off b.id.off a.write b.write ls)
