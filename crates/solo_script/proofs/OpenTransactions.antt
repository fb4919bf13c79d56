-- The open transaction of a lane, behind operations of the lane and of others.
use Rattle.std.proofs.Common.{◌≡◌, ◌==◌, ℕ, Bool, true, false, not, cond, List, [], ◌∷◌, Option, Some, None, refl, sym, ap, ◌∙◌, eq-eqb}
use Rattle.std.specs.List.{filter, find}
use Rattle.std.specs.Option.{option_or}
use Rattle.std.proofs.lemmas.Bool.{eqb-true}
use Rattle.std.proofs.lemmas.List.Folds.{find-append}
use Rattle.solo_script.specs.Scripts.{begun_behind, is_of_lane, opened}
use Rattle.solo_script.specs.declared.context.OpenTransaction.{OpenTransaction}
use Rattle.solo_script.specs.declared.script.ScriptOp.{ScriptOp}
use Rattle.solo_script.specs.declared.script.ScriptOp.TheVariants.{Begin, Add, Write, Read, Alloc, Free, Reserve, WriteReserved, DeferFree, Set, Publish, Cancel, Commit}

-- a lane's transaction
abbrev pub transaction_of : ℕ → List OpenTransaction → Option OpenTransaction
transaction_of lane begun = find (is_of_lane lane) begun

-- what an operation of the lane on line n makes of its transaction
abbrev pub transaction_behind : ℕ → ℕ → ScriptOp → Option OpenTransaction → Option OpenTransaction
transaction_behind lane n (Begin wants) current = option_or current (Some (opened lane n))
transaction_behind lane n Commit current = None
transaction_behind lane n operation current = current

-- ---- the lane's own operations

closed_one : (lane : ℕ) (b : Bool) (t : OpenTransaction) (begun : List OpenTransaction) → is_of_lane lane t ≡ b → transaction_of lane begun ≡ None → transaction_of lane (cond (not b) (t ∷ begun) begun) ≡ None
closed_one lane true t begun is rest = rest
closed_one lane false t begun is rest = ap (λ (b : Bool). cond b (Some t) (transaction_of lane begun)) is ∙ rest

abbrev others : ℕ → List OpenTransaction → List OpenTransaction
others lane begun = filter (λ transaction. not (is_of_lane lane transaction)) begun

closed : (lane : ℕ) (begun : List OpenTransaction) → transaction_of lane (others lane begun) ≡ None
closed lane [] = refl
closed lane (t ∷ begun) = closed_one lane (is_of_lane lane t) t (others lane begun) refl (closed lane begun)

pub own_behind : (lane n : ℕ) (x : ScriptOp) (begun : List OpenTransaction) → transaction_of lane (begun_behind lane n x begun) ≡ transaction_behind lane n x (transaction_of lane begun)
own_behind lane n (Begin wants) begun =
    find-append (is_of_lane lane) begun (opened lane n ∷ [])
    ∙ ap (λ (b : Bool). option_or (transaction_of lane begun) (cond b (Some (opened lane n)) None)) (eq-eqb lane lane refl)
own_behind lane n (Add id off len) begun = refl
own_behind lane n (Write id off bytes) begun = refl
own_behind lane n (Read id off len) begun = refl
own_behind lane n (Alloc letter size kind) begun = refl
own_behind lane n (Free id) begun = refl
own_behind lane n (Reserve letter size kind) begun = refl
own_behind lane n (WriteReserved id off bytes) begun = refl
own_behind lane n (DeferFree id) begun = refl
own_behind lane n (Set id off value) begun = refl
own_behind lane n Publish begun = refl
own_behind lane n Cancel begun = refl
own_behind lane n Commit begun = closed lane begun

-- ---- another lane's operations

not_both : (n one other : ℕ) → (one == other) ≡ false → (n == one) ≡ true → (n == other) ≡ false
not_both n one other differ is = ap (λ m. m == other) (eqb-true n one is) ∙ differ

or_none : (found : Option OpenTransaction) → option_or found None ≡ found
or_none None = refl
or_none (Some t) = refl

kept_one : (one other : ℕ) (b : Bool) (t : OpenTransaction) (begun kept : List OpenTransaction) → (one == other) ≡ false → is_of_lane one t ≡ b → transaction_of other kept ≡ transaction_of other begun
    → transaction_of other (cond (not b) (t ∷ kept) kept) ≡ transaction_of other (t ∷ begun)
kept_one one other true t begun kept differ is rest = rest ∙ ap (λ (b : Bool). cond b (Some t) (transaction_of other begun)) (sym (not_both t.lane one other differ is))
kept_one one other false t begun kept differ is rest = ap (λ found. cond (is_of_lane other t) (Some t) found) rest

kept : (one other : ℕ) (begun : List OpenTransaction) → (one == other) ≡ false → transaction_of other (others one begun) ≡ transaction_of other begun
kept one other [] differ = refl
kept one other (t ∷ begun) differ = kept_one one other (is_of_lane one t) t begun (others one begun) differ refl (kept one other begun differ)

-- they change nothing
pub other_behind : (one other n : ℕ) (x : ScriptOp) (begun : List OpenTransaction) → (one == other) ≡ false → transaction_of other (begun_behind one n x begun) ≡ transaction_of other begun
other_behind one other n (Begin wants) begun differ =
    find-append (is_of_lane other) begun (opened one n ∷ [])
    ∙ ap (λ (b : Bool). option_or (transaction_of other begun) (cond b (Some (opened one n)) None)) differ ∙ or_none (transaction_of other begun)
other_behind one other n (Add id off len) begun differ = refl
other_behind one other n (Write id off bytes) begun differ = refl
other_behind one other n (Read id off len) begun differ = refl
other_behind one other n (Alloc letter size kind) begun differ = refl
other_behind one other n (Free id) begun differ = refl
other_behind one other n (Reserve letter size kind) begun differ = refl
other_behind one other n (WriteReserved id off bytes) begun differ = refl
other_behind one other n (DeferFree id) begun differ = refl
other_behind one other n (Set id off value) begun differ = refl
other_behind one other n Publish begun differ = refl
other_behind one other n Cancel begun differ = refl
other_behind one other n Commit begun differ = kept one other begun differ
