-- What the last of some entries makes of a word.
use Rattle.std.proofs.Common.{◌≡◌, ◌≢◌, ℕ, suc, ◌+◌, Bool, true, false, cond, ◌==◌, List, [], ◌∷◌, ◌++◌, length, refl, sym, ap, ◌∙◌, arith, Option, None, Some, ne_eqb}
use Rattle.std.specs.List.{AllByRecursion}
use Rattle.std.proofs.lemmas.Bool.{cond-false}
use Rattle.std.proofs.lemmas.Option.{none-some}
use Rattle.pm_record.specs.Redo.{outcome}
use Rattle.pm_view.specs.Entries.{Entry, first_of_two}
use Rattle.pm_redo.specs.Entries.{last_made}

first_none : (x : Option ℕ) → first_of_two x None ≡ x
first_none None = refl
first_none (Some y) = refl

pub first_first : (a b c : Option ℕ) → first_of_two (first_of_two a b) c ≡ first_of_two a
    (first_of_two b c)
first_first None b c = refl
first_first (Some y) b c = refl

-- what an entry makes of a word
abbrev pub made_by : ℕ → Entry → ℕ → Option ℕ
made_by found e w = cond (e.word == w) (Some (outcome e.op e.value found)) None

pub last_more : (found : ℕ → ℕ) (es : List Entry) (e : Entry) (w : ℕ)
    → last_made found (es ++ e ∷ []) w ≡ first_of_two (made_by (found (length es)) e w)
    (last_made found es w)
last_more found [] e w = sym (first_none (made_by (found 0) e w))
last_more found (d ∷ es) e w =
    ap (λ o. first_of_two o (made_by (found 0) d w)) (last_more (λ i. found (i + 1)) es e w
    ∙ ap (λ n. first_of_two (made_by (found n) e w) (last_made (λ i. found (i + 1)) es w))
    (let q : length es + 1 ≡ suc (length es) = omega arith in q))
    ∙ first_first (made_by (found (suc (length es))) e w) (last_made (λ i. found (i + 1)) es w)
    (made_by (found 0) d w)

-- a word of none of them has nothing made of it
pub last_none : (found : ℕ → ℕ) (es : List Entry) (w : ℕ)
    → AllByRecursion (λ (e : Entry). e.word ≢ w) es → last_made found es w ≡ None
last_none found [] w all = refl
last_none found (e ∷ es) w all =
    ap (λ o. first_of_two o (made_by (found 0) e w)) (last_none (λ i. found (i + 1)) es w all.1)
    ∙ cond-false (e.word == w) (Some (outcome e.op e.value (found 0))) None
    (ne_eqb e.word w all.0)

-- where nothing is made of a word by some entries and one more, it is not that one's
pub not_made : (x : ℕ) (b : Bool) (rest : Option ℕ) → first_of_two (cond b (Some x) None)
    rest ≡ None → (b ≡ false) × (rest ≡ None)
not_made x true rest e = absurd (none-some x (sym e))
not_made x false rest e = (refl, e)
