-- The calls of lines that are transactions, and calls outside of them, are whole.
use Rattle.std.proofs.Common.{◌≡◌, ℕ, suc, ◌+◌, ◌-◌, ◌≤◌, Bool, true, false, cond, List, [], ◌∷◌, ◌++◌, refl, sym, ap, ◌∙◌, subst, append_assoc, arith}
use Rattle.std.specs.List.{All}
use Rattle.std.proofs.lemmas.List.Elements.{All-cons, All-nil}
use Rattle.pm_script.specs.Operations.{closes, opens}
use Rattle.pm_script.specs.Scripts.{AreCalls, AreInside, IsClose, operations}
use Rattle.pm_script.specs.Scripts.AreCalls.{none, transaction, outside}
use Rattle.pm_script.specs.Scripts.AreInside.{change, level, no_more}
use Rattle.pm_script.specs.declared.script.ScriptLine.{ScriptLine}
use Rattle.pm_script.specs.declared.script.ScriptOp.{ScriptOp}
use Rattle.pm_script.specs.declared.script.ScriptOp.TheVariants.{Commit, Abort}
use Rattle.pm_calls.specs.Calls.{IsWhole, IsWholeFrom, calls_from, calls_of, level_behind, stands_at, with_line}
use Rattle.pm_calls.proofs.CallsOfLines.{by_calls}

-- ---- OPERATIONS THAT STAND WHERE THEY DO

-- each may stand where so many levels are open, and none is open after the last
abbrev StandFrom : ℕ → List ScriptOp → Type 0
StandFrom n [] = n ≡ 0
StandFrom n (x ∷ xs) = (stands_at n x ≡ true) × StandFrom (level_behind n x) xs

close_stands : (n : ℕ) (x : ScriptOp) (rest : List ScriptOp) → IsClose x → StandFrom n rest → StandFrom (suc n) (x ∷ rest)
close_stands n Commit rest is stand = (refl, subst (λ m. StandFrom m rest) (let e : n ≡ suc n - 1 = omega arith in e) stand)
close_stands n (Abort errnum) rest is stand = (refl, subst (λ m. StandFrom m rest) (let e : n ≡ suc n - 1 = omega arith in e) stand)
close_stands n x rest is stand = cc

no_level : (n : ℕ) (x : ScriptOp) → opens x ≡ false → closes x ≡ false → level_behind n x ≡ n
no_level n x kept stays = ap (λ b. cond b (n + 1) (cond (closes x) (n - 1) n)) kept ∙ ap (λ b. cond b (n - 1) n) stays

one_more : (n : ℕ) (ops : List ScriptOp) → StandFrom (suc n) ops → StandFrom (n + 1) ops
one_more n ops stand = subst (λ m. StandFrom m ops) (let e : suc n ≡ n + 1 = omega arith in e) stand

inside_stand : (n : ℕ) (inner rest : List ScriptOp) → AreInside inner → StandFrom (suc n) rest → StandFrom (suc n) (inner ++ rest)
inside_stand n _ rest no_more stand = stand
inside_stand n _ rest (change one others is more) stand =
    (is.0, subst (λ m. StandFrom m (others ++ rest)) (sym (no_level (suc n) one is.1 is.2)) (inside_stand n others rest more stand))
inside_stand n _ rest (level wants inner close others within is more) stand =
    let behind : StandFrom (suc (suc n)) (close ∷ (others ++ rest)) = close_stands (suc n) close (others ++ rest) is (inside_stand n others rest more stand) in
    let all : StandFrom (suc (suc n)) (inner ++ (close ∷ (others ++ rest))) = inside_stand (suc n) inner (close ∷ (others ++ rest)) within behind in
    let joined : inner ++ (close ∷ (others ++ rest)) ≡ (inner ++ close ∷ others) ++ rest = sym (append_assoc inner (close ∷ others) rest) in
    (refl, one_more (suc n) ((inner ++ close ∷ others) ++ rest) (subst (StandFrom (suc (suc n))) joined all))

none_left : (b : Bool) → ◌≡◌ {A = ℕ} (cond b (0 - 1) 0) 0
none_left true = refl
none_left false = refl

level_outside : (x : ScriptOp) → opens x ≡ false → level_behind 0 x ≡ 0
level_outside x kept = ap (λ (b : Bool). cond b (0 + 1) (cond (closes x) (0 - 1) 0)) kept ∙ none_left (closes x)

calls_stand : (ops : List ScriptOp) → AreCalls ops → StandFrom 0 ops
calls_stand _ none = refl
calls_stand _ (transaction wants inner close others within is more) =
    (refl, inside_stand 0 inner (close ∷ others) within (close_stands 0 close others is (calls_stand others more)))
calls_stand _ (outside one others is more) = (is.0, subst (λ m. StandFrom m others) (sym (level_outside one is.1)) (calls_stand others more))

-- ---- CALLS

-- calls, the first of which begins where so many levels are open
abbrev WholeFrom : ℕ → List (List ScriptLine) → Type 0
WholeFrom n [] = n ≡ 0
WholeFrom n (call ∷ calls) = IsWholeFrom n call × All IsWhole calls

all_whole : (calls : List (List ScriptLine)) → WholeFrom 0 calls → All IsWhole calls
all_whole [] whole = All-nil IsWhole
all_whole (call ∷ calls) whole = All-cons IsWhole call calls whole.0 whole.1

last_whole : (n : ℕ) (line : ScriptLine) (calls : List (List ScriptLine)) → stands_at n line.operation ≡ true → level_behind n line.operation ≡ 0 → WholeFrom 0 calls → WholeFrom n ((line ∷ []) ∷ calls)
unfolding IsWholeFrom
last_whole n line calls stands over whole = ((stands, over), all_whole calls whole)

whole_with : (n : ℕ) (line : ScriptLine) (calls : List (List ScriptLine)) → stands_at n line.operation ≡ true → 1 ≤ level_behind n line.operation → WholeFrom (level_behind n line.operation) calls → WholeFrom n (with_line line calls)
unfolding IsWholeFrom
whole_with n line [] stands open_ whole = absurd (omega (arith, open_, whole))
whole_with n line ([] ∷ calls) stands open_ whole = absurd whole.0
whole_with n line ((next ∷ call) ∷ calls) stands open_ whole = ((stands, open_, whole.0), whole.1)

whole_from : (n : ℕ) (lines : List ScriptLine) → StandFrom n (operations lines) → WholeFrom n (calls_from n lines)
whole_from = by_calls (λ n lines calls. StandFrom n (operations lines) → WholeFrom n calls)
    (λ n stand. stand)
    (λ n line lines over rest stand. last_whole n line (calls_from 0 lines) stand.0 over (rest (subst (λ m. StandFrom m (operations lines)) over stand.1)))
    (λ n line lines open_ rest stand. whole_with n line (calls_from (level_behind n line.operation) lines) stand.0 open_ (rest stand.1))

pub calls_are_whole : (lines : List ScriptLine) → AreCalls (operations lines) → All IsWhole (calls_of lines)
calls_are_whole lines are = all_whole (calls_of lines) (whole_from 0 lines (calls_stand (operations lines) are))
