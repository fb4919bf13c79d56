-- What a script's letters stand for.
use Rattle.std.proofs.Common.{◌≡◌, ◌==◌, ℕ, ◌+◌, ◌<◌, Bool, true, false, cond, nat_eq, All, Contains, List, [], ◌∷◌, drop, codes, Option, Some, None, is_some, refl, sym, ap, ◌∙◌, subst, arith}
use Rattle.std.specs.List.{cons_option, filter_map, find, starts_with}
use Rattle.std.specs.Option.{option_and_then, option_map, option_map_or}
use Rattle.std.specs.Str.{bytes_eq}
use Rattle.std.proofs.lemmas.Bool.{and_parts, eqb-true}
use Rattle.std.proofs.lemmas.List.Elements.{All-nil, All-cons, All-head, All-tail, All-weaker, All-filter, All-push, All-contains_itself}
use Rattle.pm_script.specs.Contexts.{Context, binds, bound_line, start}
use Rattle.pm_script.specs.Numbers.{number_of}
use Rattle.pm_script.specs.Operands.{id_of, letter_of}
use Rattle.pm_script.specs.Operations.{ids_of, letter_bound}
use Rattle.pm_script.specs.Scripts.{Binds, HasBindingLine, IsBoundBefore, IsScript, NamesBindingLines, NamesEarlierLines, bound_behind, context_behind, line_of, line_said, lines_from, rebound, said}
use Rattle.pm_script.specs.Words.{words}
use Rattle.pm_script.specs.declared.context.Binding.{Binding}
use Rattle.pm_script.specs.declared.script.Script.{Script}
use Rattle.pm_script.specs.declared.script.ScriptId.{ScriptId}
use Rattle.pm_script.specs.declared.script.ScriptId.TheVariants.{Root, At, Bound}
use Rattle.pm_script.specs.declared.script.ScriptLine.{ScriptLine}
use Rattle.pm_script.specs.declared.script.ScriptOp.{ScriptOp}
use Rattle.pm_script.specs.declared.statement.Statement.{Statement}
use Rattle.pm_script.specs.declared.statement.Statement.TheVariants as says
use Rattle.pm_script.proofs.Statements.{ids_said, words_ids}

-- ---- the bindings

-- a line before line n, one of these, has the binding
abbrev HasLine : List ScriptLine → ℕ → Binding → Type 0
HasLine lines n binding = (binding.line < n) × HasBindingLine lines binding.lane (Bound binding.line)

-- what a letter of the lane on line n is to stand for
abbrev StandsFor : List ScriptLine → ℕ → ℕ → ScriptId → Type 0
StandsFor lines lane n id = IsBoundBefore n id × HasBindingLine lines lane id

found_one : {A : Type 0} (P : A → Type 0) (test : A → Bool) (b : Bool) (x found : A) (others : Option A) → test x ≡ b → P x → (others ≡ Some found → P found × (test found ≡ true)) → cond b (Some x) others ≡ Some found → P found × (test found ≡ true)
found_one P test true x found others own holds rest is = let same : x ≡ found = cc in subst (λ y. P y × (test y ≡ true)) same (holds, own)
found_one P test false x found others own holds rest is = rest is

-- what was found passes the test, and is one of the list
found : {A : Type 0} (P : A → Type 0) (test : A → Bool) (xs : List A) (x : A) → All P xs → find test xs ≡ Some x → P x × (test x ≡ true)
found P test [] x all is = cc
found P test (y ∷ xs) x all is = found_one P test (test y) y x (find test xs) refl (All-head P y xs all) (found P test xs x (All-tail P y xs all)) is

line_after : (lines : List ScriptLine) (n : ℕ) (bound : List Binding) → All (HasLine lines n) bound → All (HasLine lines (n + 1)) bound
line_after lines n bound all = All-weaker (HasLine lines n) (HasLine lines (n + 1)) (λ binding has. (let low = has.0 in omega (arith, low), has.1)) bound all

module _ (lines : List ScriptLine) (n : ℕ) where
  -- a binding on line n, which is one of the lines
  bound_new : (lane letter : ℕ) (x : ScriptOp) (bound : List Binding) → Binds x → Contains lines (record { line = n; lane = lane; operation = x }) → All (HasLine lines n) bound
      → All (HasLine lines (n + 1)) (rebound (record { lane = lane; letter = letter; line = n }) bound)
  bound_new lane letter x bound binds_one there all =
      let new : Binding = record { lane = lane; letter = letter; line = n } in
      All-push (HasLine lines (n + 1)) _ new (All-filter _ (HasLine lines (n + 1)) bound (line_after lines n bound all)) (omega arith, (record { line = n; lane = lane; operation = x }, there, refl, refl, binds_one))

  -- an operation on line n, which is one of the lines
  bound_after : (lane : ℕ) (x : ScriptOp) (bound : List Binding) → Contains lines (record { line = n; lane = lane; operation = x }) → All (HasLine lines n) bound → All (HasLine lines (n + 1)) (bound_behind lane n x bound)
  bound_after lane x bound there all = after (letter_bound x) refl where
    after : (letter : Option ℕ) → letter_bound x ≡ letter → All (HasLine lines (n + 1)) (option_map_or (λ l. rebound (record { lane = lane; letter = l; line = n }) bound) letter bound)
    after None is = line_after lines n bound all
    after (Some letter) is = bound_new lane letter x bound (ap is_some is) there all

  -- ---- a word

  module _ (context : Context) (lane : ℕ) (present : context.lane ≡ Some lane) (all : All (HasLine lines n) context.bound) where
    of_binding : (letter m : ℕ) (binding : Option Binding) → find (binds lane letter) context.bound ≡ binding → option_map (λ (b : Binding). b.line) binding ≡ Some m → StandsFor lines lane n (Bound m)
    of_binding letter m None is line = cc
    of_binding letter m (Some binding) is line =
        let has = found (HasLine lines n) (binds lane letter) context.bound binding all is in
        let same : binding.line ≡ m = cc in
        let own : binding.lane ≡ lane = eqb-true binding.lane lane (and_parts (binding.lane == lane) (binding.letter == letter) has.1).0 in
        subst (λ k. StandsFor lines lane n (Bound k)) same (subst (λ l. StandsFor lines l n (Bound binding.line)) own has.0)

    of_letter : (letter : Option ℕ) (id : ScriptId) → option_map Bound (option_and_then (bound_line context) letter) ≡ Some id → StandsFor lines lane n id
    of_letter None id is = cc
    of_letter (Some letter) id is =
        bound_there (find (binds lane letter) context.bound) refl (sym (ap (λ l. option_map Bound (option_map (λ (b : Binding). b.line) (option_and_then (λ k. find (binds k letter) context.bound) l))) present) ∙ is) where
          bound_there : (binding : Option Binding) → find (binds lane letter) context.bound ≡ binding → option_map Bound (option_map (λ (b : Binding). b.line) binding) ≡ Some id → StandsFor lines lane n id
          bound_there None there is = cc
          bound_there (Some binding) there is = let same : Bound binding.line ≡ id = cc in subst (StandsFor lines lane n) same (of_binding letter binding.line (Some binding) there refl)

    of_number : (number : Option ℕ) (id : ScriptId) → option_map At number ≡ Some id → StandsFor lines lane n id
    of_number None id is = cc
    of_number (Some offset) id is = let same : At offset ≡ id = cc in subst (StandsFor lines lane n) same (tt, tt)

    named : (root letter : Bool) (bound number : Option ScriptId) (id : ScriptId) → (bound ≡ Some id → StandsFor lines lane n id) → (number ≡ Some id → StandsFor lines lane n id) → cond root (Some Root) (cond letter bound number) ≡ Some id → StandsFor lines lane n id
    named true letter bound number id of_bound of_offset is = let same : Root ≡ id = cc in subst (StandsFor lines lane n) same (tt, tt)
    named false true bound number id of_bound of_offset is = of_bound is
    named false false bound number id of_bound of_offset is = of_offset is

    word_named : (word : List ℕ) (id : ScriptId) → id_of context word ≡ Some id → StandsFor lines lane n id
    word_named word id is =
        let letter = letter_of (drop 1 word) in
        named (bytes_eq word (codes "root")) (starts_with nat_eq word (codes "$")) (option_map Bound (option_and_then (bound_line context) letter)) (option_map At (number_of word)) id
        (of_letter letter id) (of_number (number_of word) id) is

-- ---- lines

abbrev pub NamesLines : List ScriptLine → ScriptLine → Type 0
NamesLines lines line = NamesEarlierLines line × NamesBindingLines lines line

module _ (lines : List ScriptLine) (context : Context) (n : ℕ) (others : List ScriptLine) (all : All (HasLine lines n) context.bound) where
  operation_named : (x : ScriptOp) (present : Option ℕ) → ((lane : ℕ) → present ≡ Some lane → All (StandsFor lines lane n) (ids_of x))
      → All (Contains lines) (cons_option (option_map (λ l. record { line = n; lane = l; operation = x }) present) others)
      → (All (HasLine lines (n + 1)) (option_map_or (λ l. bound_behind l n x context.bound) present context.bound) → All (Contains lines) others → All (NamesLines lines) others)
      → All (NamesLines lines) (cons_option (option_map (λ l. record { line = n; lane = l; operation = x }) present) others)
  operation_named x None stand there rest = rest (line_after lines n context.bound all) there
  operation_named x (Some lane) stand there rest =
      let line : ScriptLine = record { line = n; lane = lane; operation = x } in
      let ids = stand lane refl in
      All-cons (NamesLines lines) line others
      (All-weaker (StandsFor lines lane n) (IsBoundBefore n) (λ id is. is.0) (ids_of x) ids, All-weaker (StandsFor lines lane n) (HasBindingLine lines lane) (λ id is. is.1) (ids_of x) ids)
      (rest (bound_after lines n lane x context.bound (All-head (Contains lines) line others there) all) (All-tail (Contains lines) line others there))

  line_named : (statement : Option Statement) → ((s : Statement) (lane : ℕ) → statement ≡ Some s → context.lane ≡ Some lane → All (StandsFor lines lane n) (ids_said s))
      → All (Contains lines) (cons_option (option_and_then (line_said context n) statement) others)
      → (All (HasLine lines (n + 1)) (context_behind context n statement).bound → All (Contains lines) others → All (NamesLines lines) others)
      → All (NamesLines lines) (cons_option (option_and_then (line_said context n) statement) others)
  line_named None stand there rest = rest (line_after lines n context.bound all) there
  line_named (Some (says.Lane k)) stand there rest = rest (line_after lines n context.bound all) there
  line_named (Some (says.Operation x)) stand there rest = operation_named x context.lane (λ lane present. stand (says.Operation x) lane refl present) there rest

named_from : (lines : List ScriptLine) (context : Context) (n : ℕ) (texts : List (List ℕ)) → All (HasLine lines n) context.bound → All (Contains lines) (filter_map line_of (lines_from context n texts))
    → All (NamesLines lines) (filter_map line_of (lines_from context n texts))
named_from lines context n [] all there = All-nil (NamesLines lines)
named_from lines context n (text ∷ texts) all there =
    let statement = said context (words text) in
    let next = context_behind context n statement in
    line_named lines context n (filter_map line_of (lines_from next (n + 1) texts)) all statement
    (λ s lane is present. words_ids context (StandsFor lines lane n) (word_named lines n context lane present all) (words text) s is)
    there (named_from lines next (n + 1) texts)

pub letters_named : (texts : List (List ℕ)) (script : Script) → IsScript texts script → All (NamesLines script.lines) script.lines
letters_named texts script is =
    subst (λ ls. All (NamesLines ls) ls) (sym is.lines_said)
    (let lines = filter_map line_of (lines_from start 1 texts) in named_from lines start 1 texts (All-nil (HasLine lines 1)) (All-contains_itself lines))
