-- Members of a list with one more, and without one.
use Rattle.std.proofs.Common.{◌≡◌, ℕ, List, [], ◌∷◌, ◌++◌, Bool, true, false, not, cond, eqb, ◌&&◌, ◌||◌, refl, sym, ◌∙◌, ap}
use Rattle.std.proofs.lemmas.Bool.{eq-eqb, eqb-true, false≢true, false_from_ne_true, ne_eqb, or_parts}
use Rattle.pm_objects.specs.declared.calls.At.{At}
use Rattle.pm_model.specs.Items.{is_among}
use Rattle.pm_model.specs.Outside.{inserted, inserted_beside, is_beside_none, is_null, taken_out}
use Rattle.pm_model.specs.Sound.{AreOnce}
use Rattle.pm_model.proofs.Lists.{any_append}

-- a number and those of a list, with the number itself
abbrev pub with_one : ℕ → List ℕ → ℕ → Bool
with_one off members x = cond (eqb off x) true (is_among members x)

or_is_cond : (a b : Bool) → (a || b) ≡ cond a true b
or_is_cond true b = refl
or_is_cond false b = refl

or_after : (a b : Bool) → (b || (a || false)) ≡ cond a true b
or_after true true = refl
or_after true false = refl
or_after false true = refl
or_after false false = refl

swap_cond : (a m r : Bool) → (m || cond a true r) ≡ cond a true (m || r)
swap_cond true true r = refl
swap_cond true false r = refl
swap_cond false m r = refl

among_beside : (dest : ℕ) (before : Bool) (off : ℕ) (members : List ℕ)
    → is_among members dest ≡ true → (x : ℕ)
    → is_among (inserted_beside dest before off members) x ≡ with_one off members x
among_beside dest before off [] there x = absurd (false≢true there)
among_beside dest before off (m ∷ rest) there x =
    by (eqb m dest) before there (λ t. among_beside dest before off rest t x) where
      by : (here before_it : Bool) → (here || is_among rest dest) ≡ true
          → (is_among rest dest ≡ true
          → is_among (inserted_beside dest before off rest) x ≡ with_one off rest x)
          → is_among (cond here (cond before_it (off ∷ m ∷ rest) (m ∷ off ∷ rest))
          (m ∷ inserted_beside dest before off rest)) x ≡ with_one off (m ∷ rest) x
      by true true t later = or_is_cond (eqb off x) (is_among (m ∷ rest) x)
      by true false t later = ap (λ (b : Bool). eqb m x || b)
          (or_is_cond (eqb off x) (is_among rest x))
          ∙ swap_cond (eqb off x) (eqb m x) (is_among rest x)
      by false b t later = ap (λ (c : Bool). eqb m x || c) (later t)
          ∙ swap_cond (eqb off x) (eqb m x) (is_among rest x)

dest_there : (n a : Bool) → n ≡ false → (not n && not a) ≡ false → a ≡ true
dest_there true a is e = absurd (false≢true (sym is))
dest_there false true is e = refl
dest_there false false is e = absurd (false≢true (sym e))

-- those of a list with one more are these and it
pub among_inserted : (at : At) (off : ℕ) (members : List ℕ) → is_beside_none at members ≡ false
    → (x : ℕ) → is_among (inserted at off members) x ≡ with_one off members x
among_inserted at off members beside x = by (is_null at.dest) refl at.before where
  by : (n : Bool) → is_null at.dest ≡ n → (b : Bool)
      → is_among (cond n (cond b (off ∷ members) (members ++ off ∷ []))
      (inserted_beside at.dest.off at.before off members)) x ≡ with_one off members x
  by true is true = or_is_cond (eqb off x) (is_among members x)
  by true is false = any_append (λ other. eqb other x) members (off ∷ [])
      ∙ or_after (eqb off x) (is_among members x)
  by false is b = among_beside at.dest.off at.before off members
      (dest_there (is_null at.dest) (is_among members at.dest.off) is beside) x

-- none twice
not_same : (off m : ℕ) (rest : List ℕ) → is_among (m ∷ rest) off ≡ false → eqb off m ≡ false
not_same off m rest out = ne_eqb off m
    (λ e. false≢true (sym (or_parts (eqb m off) (is_among rest off) out).0 ∙ eq-eqb m off (sym e)))

among_less : (dest : ℕ) (before : Bool) (off : ℕ) (members : List ℕ) (x : ℕ)
    → eqb off x ≡ false → is_among members x ≡ false
    → is_among (inserted_beside dest before off members) x ≡ false
among_less dest before off [] x else none = refl
among_less dest before off (m ∷ rest) x else none =
    let p = or_parts (eqb m x) (is_among rest x) none in
    by (eqb m dest) before p.0 p.1 (among_less dest before off rest x else p.1) where
      by : (here before_it : Bool) → eqb m x ≡ false → is_among rest x ≡ false
          → is_among (inserted_beside dest before off rest) x ≡ false
          → is_among (cond here (cond before_it (off ∷ m ∷ rest) (m ∷ off ∷ rest))
          (m ∷ inserted_beside dest before off rest)) x ≡ false
      by true true a b later = (λ i. else i || (a i || b i))
      by true false a b later = (λ i. a i || (else i || b i))
      by false c a b later = (λ i. a i || later i)

once_beside : (dest : ℕ) (before : Bool) (off : ℕ) (members : List ℕ)
    → is_among members off ≡ false → AreOnce members
    → AreOnce (inserted_beside dest before off members)
once_beside dest before off [] out once = tt
once_beside dest before off (m ∷ rest) out once =
    by (eqb m dest) before
    (once_beside dest before off rest
    (or_parts (eqb m off) (is_among rest off) out).1 once.1) where
      by : (here before_it : Bool) → AreOnce (inserted_beside dest before off rest)
          → AreOnce (cond here (cond before_it (off ∷ m ∷ rest) (m ∷ off ∷ rest))
          (m ∷ inserted_beside dest before off rest))
      by true true later = (out, once)
      by true false later = (
        (λ i. not_same off m rest out i || once.0 i),
        ((or_parts (eqb m off) (is_among rest off) out).1, once.1),
      )
      by false b later = (
        among_less dest before off rest m (not_same off m rest out) once.0,
        later,
      )

once_behind : (off : ℕ) (members : List ℕ) → is_among members off ≡ false → AreOnce members
    → AreOnce (members ++ off ∷ [])
once_behind off [] out once = (refl, tt)
once_behind off (m ∷ rest) out once = (
  any_append (λ other. eqb other m) rest (off ∷ [])
      ∙ (λ i. once.0 i || (not_same off m rest out i || false)),
  once_behind off rest (or_parts (eqb m off) (is_among rest off) out).1 once.1,
)

pub once_inserted : (at : At) (off : ℕ) (members : List ℕ) → is_among members off ≡ false
    → AreOnce members → AreOnce (inserted at off members)
once_inserted at off members out once = by (is_null at.dest) at.before where
  by : (n b : Bool)
      → AreOnce (cond n (cond b (off ∷ members) (members ++ off ∷ []))
      (inserted_beside at.dest.off at.before off members))
  by true true = (out, once)
  by true false = once_behind off members out once
  by false b = once_beside at.dest.off at.before off members out once

-- ---- without one

flip : (a b : ℕ) → eqb a b ≡ true → eqb b a ≡ true
flip a b e = eq-eqb b a (sym (eqb-true a b e))

pub among_taken : (off : ℕ) (members : List ℕ) (x : ℕ)
    → is_among (taken_out off members) x ≡ cond (eqb off x) false (is_among members x)
among_taken off [] x = by (eqb off x) where
  by : (b : Bool) → false ≡ cond b false false
  by true = refl
  by false = refl
among_taken off (m ∷ rest) x = by (eqb m off) refl (among_taken off rest x) where
  gone : (b : Bool) → eqb m x ≡ b → eqb m off ≡ true
      → cond (eqb off x) false (is_among rest x) ≡ cond (eqb off x) false (b || is_among rest x)
  gone true e f = ap (λ (c : Bool). cond c false (is_among rest x))
      (eq-eqb off x (sym (eqb-true m off f) ∙ eqb-true m x e))
      ∙ sym (ap (λ (c : Bool). cond c false true)
      (eq-eqb off x (sym (eqb-true m off f) ∙ eqb-true m x e)))
  gone false e f = refl

  stays : (a b r : Bool) → (a ≡ true → b ≡ false) → (b || cond a false r) ≡ cond a false (b || r)
  stays true b r out = (λ i. out refl i || false)
  stays false b r out = refl

  by : (b : Bool) → eqb m off ≡ b
      → is_among (taken_out off rest) x ≡ cond (eqb off x) false (is_among rest x)
      → is_among (cond (not b) (m ∷ taken_out off rest) (taken_out off rest)) x ≡ cond
      (eqb off x) false (is_among (m ∷ rest) x)
  by true f later = later ∙ gone (eqb m x) refl f
  by false f later = ap (λ (c : Bool). eqb m x || c) later
      ∙ stays (eqb off x) (eqb m x) (is_among rest x)
      (λ e. false_from_ne_true (eqb m x)
      (λ g. false≢true (sym f ∙ eq-eqb m off (eqb-true m x g ∙ sym (eqb-true off x e)))))

pub once_taken : (off : ℕ) (members : List ℕ) → AreOnce members → AreOnce (taken_out off members)
once_taken off [] once = tt
once_taken off (m ∷ rest) once = by (eqb m off) (once_taken off rest once.1) where
  least : (b : Bool) → cond b false false ≡ false
  least true = refl
  least false = refl

  by : (b : Bool) → AreOnce (taken_out off rest)
      → AreOnce (cond (not b) (m ∷ taken_out off rest) (taken_out off rest))
  by true later = later
  by false later = (
    among_taken off rest m
        ∙ (ap (λ (c : Bool). cond (eqb off m) false c) once.0 ∙ least (eqb off m)),
    later,
  )
