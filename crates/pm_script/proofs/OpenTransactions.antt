-- The open transaction of a lane, after operations of the lane and of others.
use Rattle.std.proofs.Common.{◌≡◌, ◌==◌, ℕ, Bool, true, false, not, cond, ltb, List, [], ◌∷◌, Option, Some, None, option_to_list, refl, sym, ap, ◌∙◌, eq-eqb}
use Rattle.std.specs.List.{filter}
use Rattle.std.specs.Option.{option_or}
use Rattle.std.proofs.lemmas.Bool.{eqb-true}
use Rattle.std.proofs.lemmas.List.Folds.{find-append}
use Rattle.pm_script.specs.Operations.{closes, opens}
use Rattle.pm_script.specs.Scripts.{begun_behind, closed, is_of_lane, opened, replaced, transaction_of}
use Rattle.pm_script.specs.declared.context.OpenTransaction.{OpenTransaction}
use Rattle.pm_script.specs.declared.script.ScriptOp.{ScriptOp}

-- what an operation of the lane on line n makes of its transaction
abbrev pub transaction_behind : ℕ → ℕ → ScriptOp → Option OpenTransaction → Option OpenTransaction
transaction_behind lane n operation current = cond (opens operation) (Some (opened lane n current)) (cond (closes operation) (closed lane current) current)

abbrev IsOf : ℕ → Option OpenTransaction → Type 0
IsOf lane None = Unit {0}
IsOf lane (Some transaction) = transaction.lane ≡ lane

opened_of : (lane n : ℕ) (current : Option OpenTransaction) → IsOf lane (Some (opened lane n current))
opened_of lane n None = refl
opened_of lane n (Some t) = refl

left_of : (lane line inner : ℕ) (b : Bool) → IsOf lane (cond b (Some (record { lane = lane; line = line; inner = inner })) None)
left_of lane line inner true = refl
left_of lane line inner false = tt

closed_of : (lane : ℕ) (current : Option OpenTransaction) → IsOf lane (closed lane current)
closed_of lane None = tt
closed_of lane (Some t) = left_of lane t.line _ (ltb 0 t.inner)

abbrev others : ℕ → List OpenTransaction → List OpenTransaction
others lane begun = filter (λ transaction. not (is_of_lane lane transaction)) begun

-- ---- the lane's own operations

none_one : (lane : ℕ) (b : Bool) (t : OpenTransaction) (begun : List OpenTransaction) → is_of_lane lane t ≡ b → transaction_of lane begun ≡ None → transaction_of lane (cond (not b) (t ∷ begun) begun) ≡ None
none_one lane true t begun is rest = rest
none_one lane false t begun is rest = ap (λ (b : Bool). cond b (Some t) (transaction_of lane begun)) is ∙ rest

none_left : (lane : ℕ) (begun : List OpenTransaction) → transaction_of lane (others lane begun) ≡ None
none_left lane [] = refl
none_left lane (t ∷ begun) = none_one lane (is_of_lane lane t) t (others lane begun) refl (none_left lane begun)

own_there : (lane : ℕ) (transaction : Option OpenTransaction) → IsOf lane transaction → transaction_of lane (option_to_list transaction) ≡ transaction
own_there lane None is = refl
own_there lane (Some t) is = ap (λ (b : Bool). cond b (Some t) None) (eq-eqb t.lane lane is)

own_replaced : (lane : ℕ) (transaction : Option OpenTransaction) (begun : List OpenTransaction) → IsOf lane transaction → transaction_of lane (replaced lane transaction begun) ≡ transaction
own_replaced lane transaction begun is =
    find-append (is_of_lane lane) (others lane begun) (option_to_list transaction)
    ∙ ap (λ found. option_or found (transaction_of lane (option_to_list transaction))) (none_left lane begun)
    ∙ own_there lane transaction is

own_by : (lane n : ℕ) (begun : List OpenTransaction) (b c : Bool)
    → transaction_of lane (cond b (replaced lane (Some (opened lane n (transaction_of lane begun))) begun) (cond c (replaced lane (closed lane (transaction_of lane begun)) begun) begun))
    ≡ cond b (Some (opened lane n (transaction_of lane begun))) (cond c (closed lane (transaction_of lane begun)) (transaction_of lane begun))
own_by lane n begun true c = own_replaced lane (Some (opened lane n (transaction_of lane begun))) begun (opened_of lane n (transaction_of lane begun))
own_by lane n begun false true = own_replaced lane (closed lane (transaction_of lane begun)) begun (closed_of lane (transaction_of lane begun))
own_by lane n begun false false = refl

pub own_behind : (lane n : ℕ) (x : ScriptOp) (begun : List OpenTransaction) → transaction_of lane (begun_behind lane n x begun) ≡ transaction_behind lane n x (transaction_of lane begun)
own_behind lane n x begun = own_by lane n begun (opens x) (closes x)

-- ---- another lane's operations

not_both : (n one other : ℕ) → (one == other) ≡ false → (n == one) ≡ true → (n == other) ≡ false
not_both n one other differ is = ap (λ m. m == other) (eqb-true n one is) ∙ differ

or_none : (found : Option OpenTransaction) → option_or found None ≡ found
or_none None = refl
or_none (Some t) = refl

kept_one : (one other : ℕ) (b : Bool) (t : OpenTransaction) (begun kept : List OpenTransaction) → (one == other) ≡ false → is_of_lane one t ≡ b → transaction_of other kept ≡ transaction_of other begun
    → transaction_of other (cond (not b) (t ∷ kept) kept) ≡ transaction_of other (t ∷ begun)
kept_one one other true t begun kept differ is rest = rest ∙ ap (λ (b : Bool). cond b (Some t) (transaction_of other begun)) (sym (not_both t.lane one other differ is))
kept_one one other false t begun kept differ is rest = ap (λ found. cond (is_of_lane other t) (Some t) found) rest

kept : (one other : ℕ) (begun : List OpenTransaction) → (one == other) ≡ false → transaction_of other (others one begun) ≡ transaction_of other begun
kept one other [] differ = refl
kept one other (t ∷ begun) differ = kept_one one other (is_of_lane one t) t begun (others one begun) differ refl (kept one other begun differ)

not_there : (one other : ℕ) (transaction : Option OpenTransaction) → (one == other) ≡ false → IsOf one transaction → transaction_of other (option_to_list transaction) ≡ None
not_there one other None differ is = refl
not_there one other (Some t) differ is = ap (λ l. cond (l == other) (Some t) None) is ∙ ap (λ (b : Bool). cond b (Some t) None) differ

other_replaced : (one other : ℕ) (transaction : Option OpenTransaction) (begun : List OpenTransaction) → (one == other) ≡ false → IsOf one transaction → transaction_of other (replaced one transaction begun) ≡ transaction_of other begun
other_replaced one other transaction begun differ is =
    find-append (is_of_lane other) (others one begun) (option_to_list transaction)
    ∙ ap (option_or (transaction_of other (others one begun))) (not_there one other transaction differ is)
    ∙ or_none (transaction_of other (others one begun))
    ∙ kept one other begun differ

other_by : (one other n : ℕ) (begun : List OpenTransaction) (b c : Bool) → (one == other) ≡ false
    → transaction_of other (cond b (replaced one (Some (opened one n (transaction_of one begun))) begun) (cond c (replaced one (closed one (transaction_of one begun)) begun) begun)) ≡ transaction_of other begun
other_by one other n begun true c differ = other_replaced one other (Some (opened one n (transaction_of one begun))) begun differ (opened_of one n (transaction_of one begun))
other_by one other n begun false true differ = other_replaced one other (closed one (transaction_of one begun)) begun differ (closed_of one (transaction_of one begun))
other_by one other n begun false false differ = refl

-- they change nothing
pub other_behind : (one other n : ℕ) (x : ScriptOp) (begun : List OpenTransaction) → (one == other) ≡ false → transaction_of other (begun_behind one n x begun) ≡ transaction_of other begun
other_behind one other n x begun differ = other_by one other n begun (opens x) (closes x) differ
