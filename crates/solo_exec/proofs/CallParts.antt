-- The calls that a script's lines are, where its operations are call_lines.
use Rattle.std.proofs.Common.{◌≡◌, inl, inr, ℕ, suc, Bool, true, false, cond, All, List, [], ◌∷◌, ◌++◌, length, take, drop, get_or, eqb, refl, sym, ap, ◌∙◌, subst, arith, append_assoc}
use Rattle.std.proofs.lemmas.Bool.{eqb-true, false≢true}
use Rattle.std.proofs.lemmas.List.Elements.{All-cons, All-head, All-nil, All-tail, All-weaker}
use Rattle.solo_script.specs.Scripts.{AreCalls, IsChange, IsOutside, IsTransaction, operations}
use Rattle.solo_script.specs.Scripts.AreCalls.{none, transaction, outside}
use Rattle.solo_script.specs.declared.script.ScriptLine.{ScriptLine}
use Rattle.solo_script.specs.declared.script.ScriptOp.{ScriptOp}
use Rattle.solo_script.specs.declared.script.ScriptOp.TheVariants.{Begin, Add, Write, Read, Alloc, Free, Reserve, WriteReserved, DeferFree, Set, Publish, Cancel, Commit}
use Rattle.solo_script.specs.declared.script.ScriptWant.{ScriptWant}
use Rattle.solo_exec.specs.Calls.{IsCall, is_commit, call_lines, call_lines_from, stands_alone, with_line}
use Rattle.solo_exec.proofs.FirstCall.{alone_first, begins_inside}

-- the lines of these operations up to a commit are the first transaction, and the others are those behind it
pub record IsFirstOf (front behind : List ScriptOp) (lines : List ScriptLine) : Type 0 where
  pub first : List ScriptLine
  pub rest : List ScriptLine
  pub are : call_lines_from true lines ≡ first ∷ call_lines rest
  pub first_is : operations first ≡ front ++ Commit ∷ []
  pub rest_is : operations rest ≡ behind

-- the operation is no commit
abbrev IsNoCommit : ScriptOp → Type 0
IsNoCommit op = is_commit op ≡ false

-- a change is no commit
no_commit : (op : ScriptOp) → IsChange op → IsNoCommit op
no_commit (Begin wants) change = refl
no_commit (Add id off len) change = refl
no_commit (Write id off bytes) change = refl
no_commit (Read id off len) change = refl
no_commit (Alloc letter size kind) change = refl
no_commit (Free id) change = refl
no_commit (Reserve letter size kind) change = refl
no_commit (WriteReserved id off bytes) change = refl
no_commit (DeferFree id) change = refl
no_commit (Set id off value) change = refl
no_commit Publish change = refl
no_commit Cancel change = refl
no_commit Commit change = absurd change

-- operations up to the first commit are those of the first transaction
first_of : (front behind : List ScriptOp) (lines : List ScriptLine) → operations lines ≡ front ++ Commit ∷ behind → All IsNoCommit front → IsFirstOf front behind lines
unfolding call_lines_from
first_of [] behind [] are never = absurd (let e : [] ≡ Commit ∷ behind = are in cc)
first_of [] behind (line ∷ lines) are never =
    let commits : line.operation ≡ Commit = cc in
    let others : operations lines ≡ behind = cc in
    record {
      first = line ∷ [];
      rest = lines;
      are = ap (λ (b : Bool). cond b ((line ∷ []) ∷ call_lines lines) (with_line line (call_lines_from true lines))) (ap is_commit commits);
      first_is = ap (λ (op : ScriptOp). op ∷ []) commits;
      rest_is = others;
    }
first_of (op ∷ front) behind [] are never = absurd (let e : [] ≡ op ∷ front ++ Commit ∷ behind = are in cc)
first_of (op ∷ front) behind (line ∷ lines) are never =
    let said : line.operation ≡ op = cc in
    let others : operations lines ≡ front ++ Commit ∷ behind = cc in
    let inner : IsFirstOf front behind lines = first_of front behind lines others (All-tail IsNoCommit op front never) in
    record {
      first = line ∷ inner.first;
      rest = inner.rest;
      are = ap (λ (b : Bool). cond b ((line ∷ []) ∷ call_lines lines) (with_line line (call_lines_from true lines))) (ap is_commit said ∙ All-head IsNoCommit op front never) ∙ ap (with_line line) inner.are;
      first_is = ap (λ (o : ScriptOp). o ∷ operations inner.first) said ∙ ap (λ (ops : List ScriptOp). op ∷ ops) inner.first_is;
      rest_is = inner.rest_is;
    }

-- what may stand outside of a transaction stands alone
outside_stands : (op : ScriptOp) → IsOutside op → stands_alone op ≡ true
outside_stands (Begin wants) may = absurd may
outside_stands (Add id off len) may = absurd may
outside_stands (Write id off bytes) may = absurd may
outside_stands (Read id off len) may = absurd may
outside_stands (Alloc letter size kind) may = absurd may
outside_stands (Free id) may = absurd may
outside_stands (Reserve letter size kind) may = refl
outside_stands (WriteReserved id off bytes) may = refl
outside_stands (DeferFree id) may = refl
outside_stands (Set id off value) may = refl
outside_stands Publish may = refl
outside_stands Cancel may = refl
outside_stands Commit may = absurd may

-- these lines are one call
abbrev pub IsCallOf : List ScriptLine → Type 0
IsCallOf lines = IsCall (operations lines)

-- the lines of a transaction before others are the first call
transaction_first : (wants : List ScriptWant) (changes behind : List ScriptOp) (lines : List ScriptLine) → operations lines ≡ Begin wants ∷ changes ++ Commit ∷ behind → (first : IsFirstOf (Begin wants ∷ changes) behind lines)
    → call_lines lines ≡ first.first ∷ call_lines first.rest
transaction_first wants changes behind [] are first = absurd (let e : [] ≡ Begin wants ∷ changes ++ Commit ∷ behind = are in cc)
transaction_first wants changes behind (line ∷ lines) are first =
    let said : line.operation ≡ Begin wants = cc in
    begins_inside line lines (ap stands_alone said) ∙ first.are

-- so of these calls, one after another
all_calls : (ops : List ScriptOp) → AreCalls ops → (lines : List ScriptLine) → operations lines ≡ ops → All IsCallOf (call_lines lines)
unfolding call_lines_from
all_calls ops none [] are = All-nil IsCallOf
all_calls ops none (line ∷ lines) are = absurd (let e : line.operation ∷ operations lines ≡ [] = are in cc)
all_calls ops (transaction one others t rest) lines are =
    let so : operations lines ≡ Begin t.0 ∷ t.1 ++ Commit ∷ others = are ∙ ap (λ (o : List ScriptOp). o ++ others) t.2 ∙ append_assoc (Begin t.0 ∷ t.1) (Commit ∷ []) others in
    let first : IsFirstOf (Begin t.0 ∷ t.1) others lines = first_of (Begin t.0 ∷ t.1) others lines so (All-cons IsNoCommit (Begin t.0) t.1 refl (All-weaker IsChange IsNoCommit no_commit t.1 t.3)) in
    subst (All IsCallOf) (sym (transaction_first t.0 t.1 others lines so first))
    (All-cons IsCallOf first.first (call_lines first.rest) (inl (t.0, t.1, first.first_is, t.3)) (all_calls others rest first.rest first.rest_is))
all_calls ops (outside one others alone rest) [] are = absurd (let e : [] ≡ one ∷ others = are in cc)
all_calls ops (outside one others alone rest) (line ∷ lines) are =
    let said : line.operation ≡ one = cc in
    let behind : operations lines ≡ others = cc in
    let stands : stands_alone line.operation ≡ true = ap stands_alone said ∙ outside_stands one alone in
    subst (All IsCallOf) (sym (alone_first line lines stands)) (All-cons IsCallOf (line ∷ []) (call_lines lines) (inr (line.operation, refl, stands)) (all_calls others rest lines behind))

-- where the operations are calls, each of the calls of a script is one
pub are_calls : (lines : List ScriptLine) → AreCalls (operations lines) → All IsCallOf (call_lines lines)
are_calls lines are = all_calls (operations lines) are lines refl

-- the first call, as it is split off
pub split_call : (rest call behind : List ScriptLine) (n : ℕ) → call_lines rest ≡ take n rest ∷ call_lines (drop n rest) → call ≡ take n rest → behind ≡ drop n rest → call_lines rest ≡ call ∷ call_lines behind
split_call rest call behind n first front back =
    first ∙ ap (λ (ls : List ScriptLine). ls ∷ call_lines (drop n rest)) (sym front) ∙ ap (λ (ls : List ScriptLine). call ∷ call_lines ls) (sym back)

-- no lines are no calls
pub none_left : (rest : List ScriptLine) → true ≡ eqb (length rest) 0 → call_lines rest ≡ []
unfolding call_lines_from
none_left [] nothing = refl
none_left (line ∷ rest) nothing = absurd (let e : suc (length rest) ≡ 0 = eqb-true (suc (length rest)) 0 (sym nothing) in omega (arith, e))

-- lines that are a call and begin with one that stands alone are that line
pub one_line : (lines : List ScriptLine) (first : ScriptLine) → IsCall (operations lines) → first ≡ get_or lines 0 first → stands_alone first.operation ≡ true → lines ≡ first ∷ []
one_line [] first (inl t) is alone = absurd (let clash = ap length t.2 in omega (arith, clash))
one_line [] first (inr t) is alone = absurd (let clash = ap length t.1 in omega (arith, clash))
one_line (line ∷ lines) first (inl t) is alone =
    let begins : line.operation ≡ Begin t.0 = ap (λ (ops : List ScriptOp). get_or ops 0 Commit) t.2 in
    absurd (false≢true (sym (ap stands_alone begins) ∙ ap (λ (l : ScriptLine). stands_alone l.operation) (sym is) ∙ alone))
one_line (line ∷ []) first (inr t) is alone = ap (λ (l : ScriptLine). l ∷ []) (sym is)
one_line (line ∷ more ∷ lines) first (inr t) is alone = absurd (let long = ap length t.1 in omega (arith, long))

-- and if they begin with one that does not, they are a transaction
pub transaction_lines : (lines : List ScriptLine) (first : ScriptLine) → IsCall (operations lines) → first ≡ get_or lines 0 first → stands_alone first.operation ≡ false → IsTransaction (operations lines)
transaction_lines lines first (inl t) is other = t
transaction_lines [] first (inr t) is other = absurd (let clash = ap length t.1 in omega (arith, clash))
transaction_lines (line ∷ lines) first (inr t) is other =
    let says : line.operation ≡ t.0 = ap (λ (ops : List ScriptOp). get_or ops 0 Commit) t.1 in
    absurd (false≢true (sym other ∙ ap (λ (l : ScriptLine). stands_alone l.operation) is ∙ ap stands_alone says ∙ t.2))
