-- Small facts that many files cite: of tests, of what is given, of bits, and of places.
use Rattle.std.specs.Prelude.{[]}
use Rattle.std.proofs.Common.{◌≡◌, ℕ, zero, suc, ◌+◌, ◌*◌, ◌<◌, ◌⊎◌, inl, inr, Bool, true, false, cond, ◌==◌, ◌&&◌, ◌||◌, eq-eqb, refl, ap, ◌∙◌, arith, Option, None, Some}
use Rattle.std.proofs.lemmas.Bool.{both_ways, and_from, or_left, or_right}
use Rattle.pm_view.specs.Places.{Place, InRun, InHuge, Descr, RootWord, Block, Small, Big, Root, same_place, twin}
use Rattle.pm_view.specs.Entries.{first_of_two, latest, turn}
use Rattle.pm_view.specs.Log.{Phase, Idle, Open, Drawn, Sealing, Applying, Clearing, Retiring, Voiding, is_early}
use Rattle.pm_world.specs.States.{given, val}
use Rattle.pm_world.specs.Sights.{is_made}
use Rattle.pm_world.specs.Lanes.{is_decided, in_flight}

-- ---- tests
pub and_false : (t : Bool) → (t && false) ≡ false
and_false true = refl
and_false false = refl

pub more3 : (m h h' y : Bool) → (h ≡ true → h' ≡ true) → (m || (h || y)) ≡ true → (m || (h' || y)) ≡ true
more3 true h h' y u e = refl
more3 false true h' y u e = or_left h' y (u refl)
more3 false false h' y u e = or_right h' y e

-- ---- what is given
pub given_cond : (t : Bool) (y : Option Bool) → given (cond t y None) ≡ true → (t ≡ true) × (given y ≡ true)
given_cond true y e = (refl, e)
given_cond false y e = absurd (both_ways false refl e)

pub some_cond : {A : Type 0} → (t : Bool) (y : Option A) (z : A) → cond t y None ≡ Some z → y ≡ Some z
some_cond true y z e = e
some_cond false y z e = absurd (both_ways false refl (ap given e))

pub some_else : {A : Type 0} → (t : Bool) (y : Option A) (z : A) → cond t None y ≡ Some z → y ≡ Some z
some_else true y z e = absurd (both_ways false refl (ap given e))
some_else false y z e = e

pub given_cases : {A : Type 0} → (a c : Option A) → given (first_of_two a c) ≡ true → (given a ≡ true) ⊎ (given c ≡ true)
given_cases None c e = inr e
given_cases (Some y) c e = inl refl

pub first_given : {A : Type 0} → (a c : Option A) → given a ≡ true → given (first_of_two a c) ≡ true
first_given None c e = absurd (both_ways false refl e)
first_given (Some y) c e = refl

pub second_given : {A : Type 0} → (a c : Option A) → given c ≡ true → given (first_of_two a c) ≡ true
second_given None c e = e
second_given (Some y) c e = refl

pub some_of : {A : Type 0} → (d : Option A) → given d ≡ true → (y : A) × (d ≡ Some y)
some_of None e = absurd (both_ways false refl e)
some_of (Some y) e = (y, refl)

pub none_of : {A : Type 0} → (d : Option A) → given d ≡ false → d ≡ None
none_of None e = refl
none_of (Some y) e = absurd (both_ways true e refl)

pub first_none : {A : Type 0} → (d : Option A) → first_of_two d None ≡ d
first_none None = refl
first_none (Some y) = refl

pub made_turn : (a : Option Bool) → is_made a ≡ true → a ≡ Some true
made_turn None e = absurd (both_ways false refl e)
made_turn (Some y) e = ap (λ t. Some t) e

pub no_turn : (B : Block) → turn (latest []) B ≡ None
no_turn (Small c i) = refl
no_turn (Big c) = refl
no_turn Root = refl

-- ---- numbers
pub val_alike : (w y : ℕ → Bool) (i n : ℕ) → ((b : ℕ) → b < i + n → w b ≡ y b) → val w i n ≡ val y i n
val_alike w y i zero h = refl
val_alike w y i (suc n) h = ap (λ t. cond t 1 0 + 2 * val w (suc i) n) (h i (omega arith)) ∙ ap (λ t. cond (y i) 1 0 + 2 * t) (val_alike w y (suc i) n (λ b l. h b (omega arith)))

-- ---- places
pub same_place_refl : (p : Place) → same_place p p ≡ true
same_place_refl (InRun c w) = and_from (c == c) (w == w) (eq-eqb c c refl) (eq-eqb w w refl)
same_place_refl (InHuge c w) = and_from (c == c) (w == w) (eq-eqb c c refl) (eq-eqb w w refl)
same_place_refl (Descr c) = eq-eqb c c refl
same_place_refl RootWord = refl

pub twin_twin : (p : Place) → twin (twin p) ≡ p
twin_twin (InRun c w) = refl
twin_twin (InHuge c w) = refl
twin_twin (Descr c) = refl
twin_twin RootWord = refl

-- ---- phases: a fact of the two before the number is drawn
pub early_cases : (P : Phase → Type 0) → P Idle → P Open → (ph : Phase) → is_early ph ≡ true → P ph
early_cases P a b Idle e = a
early_cases P a b Open e = b
early_cases P a b (Drawn n) e = absurd (both_ways false refl e)
early_cases P a b (Sealing n) e = absurd (both_ways false refl e)
early_cases P a b (Applying todo) e = absurd (both_ways false refl e)
early_cases P a b Clearing e = absurd (both_ways false refl e)
early_cases P a b (Retiring n) e = absurd (both_ways false refl e)
early_cases P a b Voiding e = absurd (both_ways false refl e)

pub early_undecided : (ph : Phase) → is_early ph ≡ true → (is_decided ph ≡ false) × (in_flight ph ≡ false)
early_undecided = early_cases (λ ph. (is_decided ph ≡ false) × (in_flight ph ≡ false)) (refl, refl) (refl, refl)
