-- Lines whose letters are resolved one by one, as their call comes to them, are the call's lines resolved by all that it gave.
use Rattle.std.proofs.Common.{◌≡◌, ℕ, ◌+◌, ◌-◌, ◌<◌, ◌≤◌, All, List, [], ◌∷◌, ◌++◌, map, length, take, drop, get_or, Result, Ok, Err, sym, ap, ◌∙◌, subst, arith, append_assoc}
use Rattle.std.proofs.lemmas.List.{map-append, take-append-drop}
use Rattle.std.proofs.lemmas.List.Elements.{All-cons, All-get_or, All-head, All-nil, All-tail}
use Rattle.solo_made.specs.Made.{BlockLists}
use Rattle.solo_memory.specs.Solo.{Solo}
use Rattle.solo_pending.specs.declared.pending.PendingActions.{PendingActions}
use Rattle.solo_script.specs.Scripts.{IsChange, NamesEarlierLines, operations}
use Rattle.solo_script.specs.declared.script.ScriptLine.{ScriptLine}
use Rattle.solo_view.specs.View.{View}
use Rattle.solo_world.specs.Opening.{Opening}
use Rattle.solo_world.specs.declared.lane.Lane.{Lane}
use Rattle.solo_exec.specs.Letters.{AreInOrder, KeepsLetters, LettersKept, Offsets, offsets_in, resolved, resolved_line, resolved_op, resolved_want}
use Rattle.solo_exec.specs.Replies.{Values}
use Rattle.solo_exec.specs.Progress.{IsNotDone}
use Rattle.solo_exec.specs.declared.calls.Names.{Names}
use Rattle.solo_exec.specs.declared.lines.NotDone.{NotDone}
use Rattle.solo_exec.specs.declared.lines.NotDone.TheVariants.{GivenUp, Memory, Spent, Stopped}
use Rattle.solo_exec.proofs.GivenLetters.{StandsBefore, all_drop, all_stay, all_take, all_resolved, change_resolved, letters_of, operations_resolved, stand_before}
use Rattle.solo_exec.proofs.ScriptParts.{Parts, first_line, lines_taken, middle}

-- an answer that is not for want of memory has its fact where letters are kept
pub unless_memory : (lines : List ScriptLine) (a b : Values) (o : Opening) (first : View) (lane : Lane Solo) (blocks : BlockLists) (actions : PendingActions) (names : Names) (ls : List ScriptLine) (values : Values) (why : NotDone)
    → LettersKept {T = Unit {0}} lines a b (Err why) → (KeepsLetters lines a b → IsNotDone o first lane blocks actions names ls values why) → IsNotDone o first lane blocks actions names ls values why
unless_memory lines a b o first lane blocks actions names ls values (GivenUp line r) kept so = so kept
unless_memory lines a b o first lane blocks actions names ls values Stopped kept so = so kept
unless_memory lines a b o first lane blocks actions names ls values (Spent line) kept so = so kept
unless_memory lines a b o first lane blocks actions names ls values (Memory e) kept so = tt

-- so are letters kept
pub letters_so : (lines others : List ScriptLine) (a b c d : Values) (why : NotDone) → LettersKept {T = Unit {0}} lines a b (Err why) → (KeepsLetters lines a b → KeepsLetters others c d) → LettersKept {T = Unit {0}} others c d (Err why)
letters_so lines others a b c d (GivenUp line r) kept so = so kept
letters_so lines others a b c d Stopped kept so = so kept
letters_so lines others a b c d (Spent line) kept so = so kept
letters_so lines others a b c d (Memory e) kept so = tt

pub letters_any : {T : Type 0} (lines : List ScriptLine) (a b : Values) (r : Result T NotDone) → KeepsLetters lines a b → LettersKept lines a b r
letters_any lines a b (Ok x) kept = kept
letters_any lines a b (Err (GivenUp line r)) kept = kept
letters_any lines a b (Err Stopped) kept = kept
letters_any lines a b (Err (Spent line)) kept = kept
letters_any lines a b (Err (Memory e)) kept = tt

-- lines that a lane goes through, one of them
module _ (given : Offsets) (lines : List ScriptLine) (order : AreInOrder lines) (i : ℕ) (y : ScriptLine) (low : i < length lines) (is : y ≡ get_or lines i y) (a b : Values) (s : ScriptLine) (so : s ≡ resolved_line (given ++ offsets_in a) y) where
  abbrev before : Offsets
  before = given ++ offsets_in a

  abbrev behind : Offsets
  behind = given ++ offsets_in b

  taken : (g : Offsets) → resolved g (take (i + 1) lines) ≡ resolved g (take i lines) ++ resolved_line g y ∷ []
  taken g = ap (resolved g) (lines_taken lines i y low is) ∙ map-append (resolved_line g) (take i lines) (y ∷ [])

  module _ (kept : KeepsLetters (s ∷ []) a b) where
    of_it : KeepsLetters (y ∷ []) a b
    of_it = letters_of s y a b (ap (λ (x : ScriptLine). x.line) so) kept

    pub letters_wide : KeepsLetters lines a b
    letters_wide g l names above =
        let low_enough : l.line ≤ y.line = subst (λ (x : ScriptLine). l.line ≤ x.line) (sym is) (All-get_or (λ (other : ScriptLine). l.line ≤ other.line) lines i y low above) in
        of_it g l names (All-cons (λ (other : ScriptLine). l.line ≤ other.line) y [] low_enough (All-nil (λ (other : ScriptLine). l.line ≤ other.line)))

    same : resolved behind (take (i + 1) lines) ≡ resolved before (take (i + 1) lines)
    same = all_stay (y ∷ []) (take (i + 1) lines) before behind (of_it given) (stand_before lines order i y low is)

    -- with this one more all are resolved by what was given by then
    pub one_more : resolved before (take i lines) ++ s ∷ [] ≡ resolved behind (take (i + 1) lines)
    one_more = ap (λ (x : ScriptLine). resolved before (take i lines) ++ x ∷ []) so ∙ (sym (taken before) ∙ sym same)

    -- and so with those behind it
    pub up_to : (front rest : List ScriptLine) → (front ++ resolved before (take i lines)) ++ s ∷ (resolved behind (drop (i + 1) lines) ++ rest) ≡ front ++ resolved behind lines ++ rest
    up_to front rest =
        let there : List ScriptLine = resolved behind (drop (i + 1) lines) in
        let all : resolved behind (take (i + 1) lines) ++ there ≡ resolved behind lines =
        sym (map-append (resolved_line behind) (take (i + 1) lines) (drop (i + 1) lines)) ∙ ap (resolved behind) (take-append-drop (i + 1) lines) in
        append_assoc front (resolved before (take i lines)) (s ∷ (there ++ rest))
        ∙ ap (λ (ls : List ScriptLine). front ++ ls)
        (sym (append_assoc (resolved before (take i lines)) (s ∷ []) (there ++ rest))
        ∙ (ap (λ (ls : List ScriptLine). ls ++ (there ++ rest)) one_more
        ∙ (sym (append_assoc (resolved behind (take (i + 1) lines)) there rest) ∙ ap (λ (ls : List ScriptLine). ls ++ rest) all)))
        ∙ sym (append_assoc front (resolved behind lines) rest)

module _ (given : Offsets) (script : List ScriptLine) (order : AreInOrder script) (p : Parts script) where
  abbrev pub slice : List ScriptLine
  slice = take (length script - 1 - 1) (drop 1 script)

  -- the first line stands before the changes
  pub begin_before : StandsBefore slice p.begin
  begin_before = record { names = first.names; before = subst (λ (ls : List ScriptLine). All (λ (other : ScriptLine). p.begin.line ≤ other.line) ls) (sym (middle script p)) rest }
    where
      there : AreInOrder ((p.begin ∷ p.changes) ++ p.commit ∷ [])
      there = subst AreInOrder p.is order

      above : (x : ℕ) (ls more : List ScriptLine) → All (λ (other : ScriptLine). x < other.line) (ls ++ more) → All (λ (other : ScriptLine). x ≤ other.line) ls
      above x [] more all = All-nil (λ (other : ScriptLine). x ≤ other.line)
      above x (l ∷ ls) more all =
          All-cons (λ (other : ScriptLine). x ≤ other.line) l ls (let less = All-head (λ (other : ScriptLine). x < other.line) l (ls ++ more) all in omega (arith, less))
          (above x ls more (All-tail (λ (other : ScriptLine). x < other.line) l (ls ++ more) all))

      rest : All (λ (other : ScriptLine). p.begin.line ≤ other.line) p.changes
      rest = above p.begin.line p.changes (p.commit ∷ []) there.1

      first : StandsBefore [] p.begin
      first = record { names = there.0; before = All-nil (λ (other : ScriptLine). p.begin.line ≤ other.line) }

  -- letters that are kept by the changes are by all lines
  pub letters_all : (a b : Values) → KeepsLetters slice a b → KeepsLetters script a b
  letters_all a b kept g l names above =
      kept g l names (all_take (λ (other : ScriptLine). l.line ≤ other.line) (length script - 1 - 1) (drop 1 script) (all_drop (λ (other : ScriptLine). l.line ≤ other.line) 1 script above))

  -- the first line, as it was resolved, and the others
  pub begun : (g : Offsets) (begin d : ScriptLine) → begin ≡ resolved_line g d → d ≡ get_or script 0 d → begin ∷ resolved g (p.changes ++ p.commit ∷ []) ≡ resolved g script
  begun g begin d so is =
      let first : begin ≡ resolved_line g p.begin = so ∙ ap (resolved_line g) (is ∙ first_line script p d) in
      ap (λ (x : ScriptLine). x ∷ resolved g (p.changes ++ p.commit ∷ [])) first ∙ ap (resolved g) (sym p.is)

  module _ (values : Values) (begin : ScriptLine) (so : begin ≡ resolved_line (given ++ offsets_in []) p.begin) (kept : KeepsLetters slice [] values) where
    begin_same : begin ≡ resolved_line (given ++ offsets_in values) p.begin
    begin_same = so ∙ sym (kept given p.begin begin_before.names begin_before.before)

    -- the begin and the changes as they were resolved, and the commit, are the transaction's lines resolved
    pub whole : begin ∷ (resolved (given ++ offsets_in values) slice ++ resolved_line (given ++ offsets_in values) p.commit ∷ []) ≡ resolved (given ++ offsets_in values) script
    whole =
        let g : Offsets = given ++ offsets_in values in
        (λ i. begin_same i ∷ (resolved g (middle script p i) ++ resolved_line g p.commit ∷ []))
        ∙ sym (ap (resolved g) p.is ∙ map-append (resolved_line g) (p.begin ∷ p.changes) (p.commit ∷ []))

-- the line of a call that is one line, as it was resolved before its call gave anything, is so behind that too
module _ (given : Offsets) (lines : List ScriptLine) (order : AreInOrder lines) (raw said : ScriptLine) (one : lines ≡ raw ∷ []) (so : said ≡ resolved_line (given ++ offsets_in []) raw) (values : Values) (kept : KeepsLetters (said ∷ []) [] values) where
  kept_raw : KeepsLetters (raw ∷ []) [] values
  kept_raw = letters_of said raw [] values (ap (λ (l : ScriptLine). l.line) so) kept

  names : NamesEarlierLines raw
  names = (subst AreInOrder one order).0

  pub one_resolved : said ∷ [] ≡ resolved (given ++ offsets_in values) lines
  one_resolved =
      ap (λ (l : ScriptLine). l ∷ []) (so ∙ sym (kept_raw given raw names (All-cons (λ (other : ScriptLine). raw.line ≤ other.line) raw [] (omega arith) (All-nil (λ (other : ScriptLine). raw.line ≤ other.line)))))
      ∙ sym (ap (resolved (given ++ offsets_in values)) one)

  pub one_keeps : KeepsLetters lines [] values
  one_keeps = subst (λ (ls : List ScriptLine). KeepsLetters ls [] values) (sym one) kept_raw
