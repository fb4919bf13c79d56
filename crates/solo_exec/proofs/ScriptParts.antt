-- A script's lines: a begin, changes, and a commit.
use Rattle.std.proofs.Common.{false, ◌≡◌, ℕ, zero, suc, ◌+◌, ◌-◌, ◌<◌, ◌≤◌, All, List, [], ◌∷◌, ◌++◌, drop, get_or, length, take, refl, sym, ap, ◌∙◌, subst, arith, length-append}
use Rattle.std.proofs.Math.ListN.{get_or-map}
use Rattle.std.proofs.Math.Seq.{take-length}
use Rattle.std.proofs.lemmas.List.{length-map, take-append-le, take_more}
use Rattle.std.proofs.lemmas.List.Elements.{All-get_or}
use Rattle.solo_script.specs.Scripts.{IsChange, IsTransaction, operations}
use Rattle.solo_script.specs.declared.script.ScriptLine.{ScriptLine}
use Rattle.solo_script.specs.declared.script.ScriptOp.{ScriptOp}
use Rattle.solo_script.specs.declared.script.ScriptOp.TheVariants as op
use Rattle.solo_script.specs.declared.script.ScriptWant.{ScriptWant}
use Rattle.solo_exec.specs.Calls.{stands_alone, starts_alone}

pub record Parts (script : List ScriptLine) : Type 0 where
  pub begin : ScriptLine
  pub changes : List ScriptLine
  pub commit : ScriptLine
  pub is : script ≡ (begin ∷ changes) ++ commit ∷ []
  pub wants : List ScriptWant
  pub begins : begin.operation ≡ op.Begin wants
  pub are : All IsChange (operations changes)
  pub commits : commit.operation ≡ op.Commit

-- the last of some lines, and those before it
record Ends (script : List ScriptLine) (ops : List ScriptOp) : Type 0 where
  before : List ScriptLine
  last : ScriptLine
  is : script ≡ before ++ last ∷ []
  same : operations before ≡ ops
  commits : last.operation ≡ op.Commit

ends_with : (script : List ScriptLine) (ops : List ScriptOp) → operations script ≡ ops ++ op.Commit ∷ [] → Ends script ops
ends_with [] [] same = absurd cc
ends_with [] (o ∷ ops) same = absurd cc
ends_with (x ∷ []) [] same = record { before = []; last = x; is = refl; same = refl; commits = cc }
ends_with (x ∷ y ∷ script) [] same = absurd cc
ends_with (x ∷ script) (o ∷ ops) same =
    let head : x.operation ≡ o = cc in
    let rest : Ends script ops = ends_with script ops cc in
    record { before = x ∷ rest.before; last = rest.last; is = ap (λ (ls : List ScriptLine). x ∷ ls) rest.is; same = (λ i. head i ∷ rest.same i); commits = rest.commits }

pub parts : (script : List ScriptLine) → IsTransaction (operations script) → Parts script
parts [] t = absurd (let clash = t.2 in cc)
parts (x ∷ script) t =
    let same = t.2 in
    let e : Ends script t.1 = ends_with script t.1 cc in
    record {
      begin = x;
      changes = e.before;
      commit = e.last;
      is = ap (λ (ls : List ScriptLine). x ∷ ls) e.is;
      wants = t.0;
      begins = cc;
      are = subst (All IsChange) (sym e.same) t.3;
      commits = e.commits;
    }

-- a transaction does not stand alone
pub transaction_starts : (script : List ScriptLine) → IsTransaction (operations script) → starts_alone script ≡ false
transaction_starts [] t = refl
transaction_starts (x ∷ script) t = let begins : x.operation ≡ op.Begin t.0 = (let same = t.2 in cc) in ap stands_alone begins

module _ (script : List ScriptLine) (p : Parts script) where
  long : length script ≡ length p.changes + 2
  long = ap length p.is ∙ (let e = length-append (p.begin ∷ p.changes) (p.commit ∷ []) in omega (arith, e))

  pub two : 2 ≤ length script
  two = let n = long in omega (arith, n)

  middle_of : (xs : List ScriptLine) (last : ScriptLine) (n : ℕ) → n ≡ length xs → take n (xs ++ last ∷ []) ≡ xs
  middle_of xs last n is = ap (λ k. take k (xs ++ last ∷ [])) is ∙ (take-append-le (length xs) xs (last ∷ []) (omega arith) ∙ take-length xs)

  pub middle : take (length script - 1 - 1) (drop 1 script) ≡ p.changes
  middle =
      ap (λ (ls : List ScriptLine). take (length script - 1 - 1) (drop 1 ls)) p.is
      ∙ middle_of p.changes p.commit (length script - 1 - 1) (let n = long in omega (arith, n))

  pub first_line : (d : ScriptLine) → get_or script 0 d ≡ p.begin
  first_line d = ap (λ (ls : List ScriptLine). get_or ls 0 d) p.is

  pub changes_are : All IsChange (operations (take (length script - 1 - 1) (drop 1 script)))
  changes_are = subst (λ (ls : List ScriptLine). All IsChange (operations ls)) (sym middle) p.are

  pub begins_there : (d : ScriptLine) → d ≡ get_or script 0 d → d.operation ≡ op.Begin p.wants
  begins_there d is = ap (λ (l : ScriptLine). l.operation) (is ∙ first_line d) ∙ p.begins

-- the first of some lines, and one more
pub lines_taken : (lines : List ScriptLine) (i : ℕ) (said : ScriptLine) → i < length lines → said ≡ get_or lines i said → take (i + 1) lines ≡ take i lines ++ said ∷ []
lines_taken lines i said low is = take_more lines i said low ∙ ap (λ (s : ScriptLine). take i lines ++ s ∷ []) (sym is)

-- a line of some changes is one
pub change_at_index : (lines : List ScriptLine) → All IsChange (operations lines) → (i : ℕ) (said : ScriptLine) → i < length lines → said ≡ get_or lines i said → IsChange said.operation
change_at_index lines are i said low is =
    subst IsChange (get_or-map (λ (l : ScriptLine). l.operation) lines i said ∙ ap (λ (l : ScriptLine). l.operation) (sym is))
    (All-get_or IsChange (operations lines) i said.operation (let n = length-map lines (λ (l : ScriptLine). l.operation) in omega (arith, low, n)) are)

-- all the lines
pub taken_all : (lines : List ScriptLine) (i : ℕ) → length lines ≤ i → take i lines ≡ lines
taken_all [] zero past = refl
taken_all [] (suc i) past = refl
taken_all (l ∷ lines) zero past = absurd (omega (arith, past))
taken_all (l ∷ lines) (suc i) past = ap (λ (ls : List ScriptLine). l ∷ ls) (taken_all lines i (omega (arith, past)))
