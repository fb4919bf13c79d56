-- Objects by their offsets: the list in rising offsets is known by what stands at each, and new bytes in one leave the others.
use Rattle.std.proofs.Common.{◌≡◌, ◌≢◌, ⊎_elim, ℕ, suc, ◌+◌, ◌-◌, ◌<◌, ◌≤◌, ◌||◌, List, [], ◌∷◌, ◌++◌, length, take, drop, map, get_or, Option, Some, None, Bool, true, false, cond, eqb, refl, sym, ◌∙◌, ap, subst, arith}
use Rattle.std.specs.List.{list_any}
use Rattle.std.specs.Option.{option_map, option_map_or, is_some}
use Rattle.std.specs.List.Sorted.{IsStrictlyIncreasing}
use Rattle.std.proofs.lemmas.Bool.{cases_eq, cases_lt, eq-eqb, ne_eqb, eqb-true, false≢true}
use Rattle.std.proofs.lemmas.List.{length-append, length-take-le, length-drop}
use Rattle.pm_objects.specs.Pool.{Objects, offsets, object_at, all_members}
use Rattle.pm_objects.specs.declared.pool.Object.{Object}
use Rattle.solo_model.specs.Bytes.{put_bytes, put_object, with_bytes, bytes_of}

-- a function goes into both cases of a choice
pub ap_cond : {A B : Type 0} (f : A → B) (b : Bool) (x y : A) → f (cond b x y) ≡ cond b (f x) (f y)
ap_cond f true x y = refl
ap_cond f false x y = refl

same_case : {A : Type 0} (b : Bool) (x : A) → cond b x x ≡ x
same_case true x = refl
same_case false x = refl

-- the first entry of a map, in which new bytes are put where p; q says that it is looked for, r that what is looked for gets new bytes
put_first : {O : Type 0} (p q r : Bool) (new : O → O) (o : O) (rest put_rest : Option O) → (p ≡ true → q ≡ true → r ≡ true) → (p ≡ true → q ≡ false → r ≡ false)
    → (p ≡ false → q ≡ true → r ≡ false) → put_rest ≡ cond r (option_map new rest) rest
    → cond p (cond q (Some (new o)) rest) (cond q (Some o) put_rest) ≡ cond r (option_map new (cond q (Some o) rest)) (cond q (Some o) rest)
put_first true true r new o rest put_rest both one other is = ap (λ (b : Bool). cond b (Some (new o)) (Some o)) (sym (both refl refl))
put_first true false r new o rest put_rest both one other is = ap (λ (b : Bool). cond b (option_map new rest) rest) (sym (one refl refl))
put_first false true r new o rest put_rest both one other is = ap (λ (b : Bool). cond b (Some (new o)) (Some o)) (sym (other refl refl))
put_first false false r new o rest put_rest both one other is = is

-- what stands at an offset after new bytes were put
pub object_at-put : (off at : ℕ) (new : List ℕ) (objects : Objects) (x : ℕ)
    → object_at (put_object off at new objects) x ≡ cond (eqb x off) (option_map (with_bytes at new) (object_at objects x)) (object_at objects x)
unfolding put_object
object_at-put off at new [] x = sym (same_case (eqb x off) None)
object_at-put off at new (entry ∷ objects) x =
    ap_cond (λ (es : Objects). object_at es x) (eqb entry.0 off) ((entry.0, with_bytes at new entry.1) ∷ objects) (entry ∷ put_object off at new objects)
    ∙ put_first (eqb entry.0 off) (eqb entry.0 x) (eqb x off) (with_bytes at new) entry.1 (object_at objects x) (object_at (put_object off at new objects) x)
    (λ p q. eq-eqb x off (sym (eqb-true entry.0 x q) ∙ eqb-true entry.0 off p))
    (λ p q. ne_eqb x off (λ e. false≢true (sym q ∙ eq-eqb entry.0 x (eqb-true entry.0 off p ∙ sym e))))
    (λ p q. ne_eqb x off (λ e. false≢true (sym p ∙ eq-eqb entry.0 off (eqb-true entry.0 x q ∙ e))))
    (object_at-put off at new objects x)

-- new bytes leave the offsets
pub offsets-put : (off at : ℕ) (new : List ℕ) (objects : Objects) → offsets (put_object off at new objects) ≡ offsets objects
unfolding put_object
offsets-put off at new [] = refl
offsets-put off at new (entry ∷ objects) =
    ap_cond offsets (eqb entry.0 off) ((entry.0, with_bytes at new entry.1) ∷ objects) (entry ∷ put_object off at new objects)
    ∙ ap (λ (keys : List ℕ). cond (eqb entry.0 off) (entry.0 ∷ offsets objects) (entry.0 ∷ keys)) (offsets-put off at new objects)
    ∙ same_case (eqb entry.0 off) (entry.0 ∷ offsets objects)

-- new bytes leave every list
pub members-put : (off at : ℕ) (new : List ℕ) (objects : Objects) → all_members (put_object off at new objects) ≡ all_members objects
unfolding put_object
members-put off at new [] = refl
members-put off at new (entry ∷ objects) =
    ap_cond all_members (eqb entry.0 off) ((entry.0, with_bytes at new entry.1) ∷ objects) (entry ∷ put_object off at new objects)
    ∙ ap (λ (members : List ℕ). cond (eqb entry.0 off) (entry.1.members ++ all_members objects) (entry.1.members ++ members)) (members-put off at new objects)
    ∙ same_case (eqb entry.0 off) (entry.1.members ++ all_members objects)

-- an entry as its block shows it: where it is, and its size
abbrev pub size_of : ℕ × Object → ℕ × ℕ
size_of entry = (entry.0, length entry.1.bytes)

-- new bytes that end in the old ones leave their number
length-put : (at : ℕ) (new bytes : List ℕ) → at + length new ≤ length bytes → length (put_bytes at new bytes) ≡ length bytes
length-put at new bytes fits =
    length-append (take at bytes ++ new) (drop (at + length new) bytes)
    ∙ (let front : length (take at bytes ++ new) ≡ length (take at bytes) + length new = length-append (take at bytes) new in
    let taken : length (take at bytes) ≡ at = length-take-le at bytes (omega arith) in
    let dropped : length (drop (at + length new) bytes) ≡ length bytes - (at + length new) = length-drop (at + length new) bytes in
    omega arith)

sizes-put_first : (off at : ℕ) (new : List ℕ) (entry : ℕ × Object) (objects rest : Objects) (here : Bool)
    → (here ≡ true → length (with_bytes at new entry.1).bytes ≡ length entry.1.bytes) → (here ≡ false → map size_of rest ≡ map size_of objects)
    → map size_of (cond here ((entry.0, with_bytes at new entry.1) ∷ objects) (entry ∷ rest)) ≡ map size_of (entry ∷ objects)
sizes-put_first off at new entry objects rest true same behind = ap (λ (n : ℕ). (entry.0, n) ∷ map size_of objects) (same refl)
sizes-put_first off at new entry objects rest false same behind = ap (λ (sizes : List (ℕ × ℕ)). size_of entry ∷ sizes) (behind refl)

-- and so every size
pub sizes-put : (off at : ℕ) (new : List ℕ) (objects : Objects) → at + length new ≤ length (bytes_of objects off) → map size_of (put_object off at new objects) ≡ map size_of objects
unfolding put_object
sizes-put off at new [] fits = refl
sizes-put off at new (entry ∷ objects) fits =
    let bytes_by : Bool → List ℕ = λ b. option_map_or (λ (object : Object). object.bytes) (cond b (Some entry.1) (object_at objects off)) [] in
    sizes-put_first off at new entry objects (put_object off at new objects) (eqb entry.0 off)
    (λ here. length-put at new entry.1.bytes (subst (λ (b : Bool). at + length new ≤ length (bytes_by b)) here fits))
    (λ other. sizes-put off at new objects (subst (λ (b : Bool). at + length new ≤ length (bytes_by b)) other fits))

-- whether an object is at an offset is told by the offsets
present_first : (b : Bool) (object : Object) (rest : Option Object) (found : Bool) → is_some rest ≡ found → is_some (cond b (Some object) rest) ≡ (b || found)
present_first true object rest found same = refl
present_first false object rest found same = same

pub present : (objects : Objects) (off : ℕ) → is_some (object_at objects off) ≡ list_any (λ key. eqb key off) (offsets objects)
present [] off = refl
present (entry ∷ objects) off =
    present_first (eqb entry.0 off) entry.1 (object_at objects off) (list_any (λ key. eqb key off) (offsets objects)) (present objects off)

pub rising_tail : (x : ℕ) (xs : List ℕ) → IsStrictlyIncreasing (x ∷ xs) → IsStrictlyIncreasing xs
rising_tail x xs rising k h =
    let place : suc k + 1 ≡ suc (k + 1) = omega arith in
    subst (λ (n : ℕ). get_or xs k 0 < get_or (x ∷ xs) n 0) place (rising (suc k) (omega arith))

-- below the first offset nothing stands
pub absent : (objects : Objects) (first off : ℕ) → IsStrictlyIncreasing (first ∷ offsets objects) → off ≤ first → object_at objects off ≡ None
absent [] first off rising below = refl
absent (entry ∷ objects) first off rising below =
    let above : first < entry.0 = rising 0 (omega arith) in
    let other : eqb entry.0 off ≡ false = ne_eqb entry.0 off (λ same. omega arith) in
    ap (λ (b : Bool). cond b (Some entry.1) (object_at objects off)) other
    ∙ absent objects entry.0 off (rising_tail first (offsets (entry ∷ objects)) rising) (omega arith)

at_first : (entry : ℕ × Object) (objects : Objects) → object_at (entry ∷ objects) entry.0 ≡ Some entry.1
at_first entry objects = ap (λ (b : Bool). cond b (Some entry.1) (object_at objects entry.0)) (eq-eqb entry.0 entry.0 refl)

behind_first : (entry : ℕ × Object) (objects : Objects) (off : ℕ) → entry.0 ≢ off → object_at (entry ∷ objects) off ≡ object_at objects off
behind_first entry objects off ne = ap (λ (b : Bool). cond b (Some entry.1) (object_at objects off)) (ne_eqb entry.0 off ne)

-- an object with a lesser offset than all of a map is not in it
no_lesser : {A : Type 0} (entry : ℕ × Object) (xs ys : Objects) (y : ℕ × Object) → IsStrictlyIncreasing (offsets (y ∷ ys)) → entry.0 < y.0
    → object_at (entry ∷ xs) entry.0 ≡ object_at (y ∷ ys) entry.0 → A
no_lesser entry xs ys y rising below same =
    let none : object_at (y ∷ ys) entry.0 ≡ None =
    behind_first y ys entry.0 (λ e. omega arith) ∙ absent ys y.0 entry.0 rising (omega arith) in
    let clash : Some entry.1 ≡ None = sym (at_first entry xs) ∙ (same ∙ none) in
    absurd (let bad : ⊥ = cc in bad)

-- two maps with the same at each offset are one
pub same_objects : (xs ys : Objects) → IsStrictlyIncreasing (offsets xs) → IsStrictlyIncreasing (offsets ys) → ((off : ℕ) → object_at xs off ≡ object_at ys off) → xs ≡ ys
same_objects [] [] rx ry same = refl
same_objects [] (y ∷ ys) rx ry same = absurd (let clash : None ≡ Some y.1 = same y.0 ∙ at_first y ys in cc)
same_objects (x ∷ xs) [] rx ry same = absurd (let clash : Some x.1 ≡ None = sym (at_first x xs) ∙ same x.0 in cc)
same_objects (x ∷ xs) (y ∷ ys) rx ry same = ⊎_elim
    (λ (below : x.0 < y.0). no_lesser x xs ys y ry below (same x.0))
    (λ (from : y.0 ≤ x.0). ⊎_elim
    (λ (above : y.0 < x.0). no_lesser y ys xs x rx above (sym (same y.0)))
    (λ (to : x.0 ≤ y.0).
    let keys : x.0 ≡ y.0 = omega arith in
    let found : Some x.1 ≡ Some y.1 = sym (at_first x xs) ∙ (same x.0 ∙ (ap (object_at (y ∷ ys)) keys ∙ at_first y ys)) in
    let values : x.1 ≡ y.1 = cc in
    let rests : (off : ℕ) → object_at xs off ≡ object_at ys off = λ off. ⊎_elim
    (λ (here : x.0 ≡ off). absent xs x.0 off rx (omega arith) ∙ sym (absent ys y.0 off ry (omega arith)))
    (λ (else : x.0 ≢ off). sym (behind_first x xs off else) ∙ (same off ∙ behind_first y ys off (λ e. else (keys ∙ e))))
    (cases_eq x.0 off) in
    let tails : xs ≡ ys = same_objects xs ys (rising_tail x.0 (offsets xs) rx) (rising_tail y.0 (offsets ys) ry) rests in
    (λ i. (keys i, values i) ∷ tails i))
    (cases_lt y.0 x.0))
    (cases_lt x.0 y.0)
