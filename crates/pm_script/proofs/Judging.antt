-- A line that was read: its reason if it is bad, and what it leaves.
use Rattle.std.proofs.Common.{◌≡◌, ◌==◌, ℕ, ◌+◌, ◌++◌, Bool, true, false, not, cond, List, [], ◌∷◌, Option, None, Some, Ok, Err, option_map, option_to_list, slice_index, refl, sym, ap, ◌∙◌}
use Rattle.std.specs.List.{cons_option, filter_map}
use Rattle.std.specs.Option.{option_and_then, option_map_or}
use Rattle.std.proofs.lemmas.Bool.{eqb-true}
use Rattle.std.proofs.lemmas.List.{append-nil}
use Rattle.pm_script.specs.Reading.{AreReadAs, AreReadBehind, HasLane, IsOutOfPlace, Reads, Takes, fault_at, next_line, place_why}
use Rattle.pm_script.specs.Contexts.{Context}
use Rattle.pm_script.specs.Grammar.{form, form_tests, keyword_of, place_asked, place_said, statement_of}
use Rattle.pm_script.specs.Scripts.{IfBad, first_failed, line_said, lines_from, place_tests, said, why_of, why_of_words, context_behind, fault_of}
use Rattle.pm_script.specs.Words.{words, is_text, is_skipped}
use Rattle.pm_script.specs.declared.fault.BadLine.{BadLine}
use Rattle.pm_script.specs.declared.fault.LineFault.{LineFault}
use Rattle.pm_script.specs.declared.fault.LineFault.TheVariants.{Bad, Memory}
use Rattle.pm_script.specs.declared.fault.Why.{Why}
use Rattle.pm_script.specs.declared.fault.Why.TheVariants.{Text, Word}
use Rattle.pm_script.specs.declared.reader.Reader.{Reader}
use Rattle.pm_script.specs.declared.statement.Keyword.{Keyword}
use Rattle.pm_script.specs.declared.statement.Statement.{Statement}
use Rattle.pm_script.proofs.Statements.{place_is, has_lane}
use Rattle.pm_script.proofs.FailedTests.{back_passed, behind_passed, front_failed, front_passed}

-- ---- the words of a line

-- a good form, in its place or not
said_there : (context : Context) (found : Option Keyword) (operands : List (List ℕ)) (statement : Statement) → AreReadBehind context found operands (Ok statement)
    → (option_map_or (λ keyword. first_failed (form_tests context (form keyword) operands ++ place_tests context (place_asked keyword))) found (Some Word) ≡ place_why context (place_said statement))
    × (option_and_then (λ keyword. statement_of context keyword operands) found ≡ Some statement)
said_there context (Some keyword) operands statement read =
    (behind_passed (form_tests context (form keyword) operands) (place_tests context (place_asked keyword)) read.1 ∙ ap (place_why context) (sym (place_is context keyword operands statement read.0)), read.0)
said_there context None operands statement read = cc

bad_form : (context : Context) (found : Option Keyword) (operands : List (List ℕ)) (why : Why) → AreReadBehind context found operands (Err (Bad why))
    → option_map_or (λ keyword. first_failed (form_tests context (form keyword) operands ++ place_tests context (place_asked keyword))) found (Some Word) ≡ Some why
bad_form context (Some keyword) operands why read = front_failed (form_tests context (form keyword) operands) (place_tests context (place_asked keyword)) why read
bad_form context None operands why read = let same : why ≡ Word = cc in ap Some (sym same)

-- what words were read as, they say, and they are bad where that is out of place
pub words_said : (context : Context) (line : List (List ℕ)) (statement : Statement) → AreReadAs context line (Ok statement)
    → (why_of_words context line ≡ place_why context (place_said statement)) × (said context line ≡ Some statement)
words_said context [] statement read = absurd read
words_said context (word ∷ operands) statement read = said_there context (keyword_of word) operands statement read

-- a fault that was found is the reason
pub words_bad : (context : Context) (line : List (List ℕ)) (why : Why) → AreReadAs context line (Err (Bad why)) → why_of_words context line ≡ Some why
words_bad context [] why read = absurd read
words_bad context (word ∷ operands) why read = bad_form context (keyword_of word) operands why read

lane_behind : (context : Context) (found : Option Keyword) (operands : List (List ℕ)) (statement : Statement) → AreReadBehind context found operands (Ok statement) → HasLane statement
lane_behind context (Some keyword) operands statement read = has_lane context keyword operands statement read.0 read.1
lane_behind context None operands statement read = cc

-- a lane that words name is one of the 32
pub words_lane : (context : Context) (line : List (List ℕ)) (statement : Statement) → AreReadAs context line (Ok statement) → HasLane statement
words_lane context [] statement read = absurd read
words_lane context (word ∷ operands) statement read = lane_behind context (keyword_of word) operands statement read

other_first : (word : List ℕ) → (slice_index word 0 == 35) ≡ true → keyword_of word ≡ None
other_first [] skipped = cc
other_first (b ∷ word) skipped = ap (λ x. keyword_of (x ∷ word)) (eqb-true b 35 skipped)

-- a skipped line says nothing
pub skipped_says : (context : Context) (line : List (List ℕ)) → is_skipped line ≡ true → said context line ≡ None
skipped_says context [] skipped = refl
skipped_says context (word ∷ operands) skipped = ap (option_and_then (λ keyword. statement_of context keyword operands)) (other_first word skipped)

place_there : (context : Context) (found : Option Keyword) (operands : List (List ℕ)) (statement : Statement)
    → option_map_or (λ keyword. first_failed (form_tests context (form keyword) operands ++ place_tests context (place_asked keyword))) found (Some Word) ≡ None
    → option_and_then (λ keyword. statement_of context keyword operands) found ≡ Some statement → place_why context (place_said statement) ≡ None
place_there context (Some keyword) operands statement fine is = ap (place_why context) (place_is context keyword operands statement is) ∙ back_passed (form_tests context (form keyword) operands) (place_tests context (place_asked keyword)) fine
place_there context None operands statement fine is = cc

words_in_place : (context : Context) (line : List (List ℕ)) (statement : Statement) → why_of_words context line ≡ None → said context line ≡ Some statement → place_why context (place_said statement) ≡ None
words_in_place context [] statement fine is = cc
words_in_place context (word ∷ operands) statement fine is = place_there context (keyword_of word) operands statement fine is

lane_there : (context : Context) (found : Option Keyword) (operands : List (List ℕ)) (statement : Statement)
    → option_map_or (λ keyword. first_failed (form_tests context (form keyword) operands ++ place_tests context (place_asked keyword))) found (Some Word) ≡ None
    → option_and_then (λ keyword. statement_of context keyword operands) found ≡ Some statement → HasLane statement
lane_there context (Some keyword) operands statement fine is = has_lane context keyword operands statement is (front_passed (form_tests context (form keyword) operands) (place_tests context (place_asked keyword)) fine)
lane_there context None operands statement fine is = cc

good_words_lane : (context : Context) (line : List (List ℕ)) (statement : Statement) → why_of_words context line ≡ None → said context line ≡ Some statement → HasLane statement
good_words_lane context [] statement fine is = cc
good_words_lane context (word ∷ operands) statement fine is = lane_there context (keyword_of word) operands statement fine is

-- ---- a line

not_skipped : (good skipped : Bool) (why : Option Why) → cond (not good) (Some Text) (cond skipped None why) ≡ None → (skipped ≡ true → ⊥) → why ≡ None
not_skipped true false why fine other = fine
not_skipped true true why fine other = absurd (other refl)
not_skipped false skipped why fine other = cc

-- the words of a line that is not bad are not, where they say something
good_words : (context : Context) (text : List ℕ) (statement : Statement) → why_of context text ≡ None → said context (words text) ≡ Some statement → why_of_words context (words text) ≡ None
good_words context text statement fine is =
    not_skipped (is_text text) (is_skipped (words text)) (why_of_words context (words text)) fine (λ skipped. let nothing = skipped_says context (words text) skipped in cc)

-- what a line says that is not bad is in place
pub in_place : (context : Context) (text : List ℕ) (statement : Statement) → why_of context text ≡ None → said context (words text) ≡ Some statement → place_why context (place_said statement) ≡ None
in_place context text statement fine is = words_in_place context (words text) statement (good_words context text statement fine is) is

-- a lane that a line names that is not bad is one of the 32
pub good_lane : (context : Context) (text : List ℕ) (statement : Statement) → why_of context text ≡ None → said context (words text) ≡ Some statement → HasLane statement
good_lane context text statement fine is = good_words_lane context (words text) statement (good_words context text statement fine is) is

why_there : (context : Context) (text : List ℕ) → is_text text ≡ true → why_of context text ≡ cond (is_skipped (words text)) None (why_of_words context (words text))
why_there context text good = ap (λ (b : Bool). cond (not b) (Some Text) (cond (is_skipped (words text)) None (why_of_words context (words text)))) good

why_kept : (context : Context) (text : List ℕ) → is_text text ≡ true → is_skipped (words text) ≡ false → why_of context text ≡ why_of_words context (words text)
why_kept context text good kept = why_there context text good ∙ ap (λ (b : Bool). cond b None (why_of_words context (words text))) kept

why_skipped : (context : Context) (text : List ℕ) → is_text text ≡ true → is_skipped (words text) ≡ true → why_of context text ≡ None
why_skipped context text good skipped = why_there context text good ∙ ap (λ (b : Bool). cond b None (why_of_words context (words text))) skipped

abbrev fault : ℕ → Why → BadLine
fault n why = record { line = n; why = why }

-- ---- lines none of which is bad

nothing : {A : Type 0} (found : Option A) (others : List A) → cons_option found others ≡ [] → (found ≡ None) × (others ≡ [])
nothing (Some x) others is = cc
nothing None others is = (refl, is)

no_why : {A : Type 0} (f : Why → A) (why : Option Why) → option_map f why ≡ None → why ≡ None
no_why f (Some x) is = cc
no_why f None is = refl

-- the first is not, and none of the others
pub first_good : (context : Context) (n : ℕ) (text : List ℕ) (lines : List (List ℕ)) → filter_map fault_of (lines_from context n (text ∷ lines)) ≡ []
    → (why_of context text ≡ None) × (filter_map fault_of (lines_from (context_behind context n (said context (words text))) (n + 1) lines) ≡ [])
first_good context n text lines good =
    let next = context_behind context n (said context (words text)) in
    let fine = nothing (option_map (fault n) (why_of context text)) (filter_map fault_of (lines_from next (n + 1) lines)) good in
    (no_why (fault n) (why_of context text) fine.0, fine.1)

-- ---- a line after those that were read

module _ (old : Reader) (n : ℕ) (text : List ℕ) where
  pub bad_text : is_text text ≡ false → fault_of (next_line old n text) ≡ Some (fault n Text)
  bad_text bad = ap (λ (b : Bool). option_map (fault n) (cond (not b) (Some Text) (cond (is_skipped (words text)) None (why_of_words old.context (words text))))) bad

  pub skipped_line : is_text text ≡ true → is_skipped (words text) ≡ true → Reads old old (next_line old n text)
  skipped_line good skipped =
      let none = skipped_says old.context (words text) skipped in
      record {
        good = ap (option_map (fault n)) (why_skipped old.context text good skipped);
        context = sym (ap (context_behind old.context n) none);
        said = sym (ap (λ s. old.lines.items ++ option_to_list (option_and_then (line_said old.context n) s)) none ∙ append-nil old.lines.items);
      }

  module _ (good : is_text text ≡ true) (kept : is_skipped (words text) ≡ false) where
    pub bad_words : (why : Why) → AreReadAs old.context (words text) (Err (Bad why)) → fault_of (next_line old n text) ≡ Some (fault n why)
    bad_words why read = ap (option_map (fault n)) (why_kept old.context text good kept ∙ words_bad old.context (words text) why read)

    -- a fault that was found is the line's, but for want of memory
    pub bad_line : (fault : LineFault) → AreReadAs old.context (words text) (Err fault) → IfBad (fault_at fault n) (λ bad. fault_of (next_line old n text) ≡ Some bad)
    bad_line (Bad why) read = bad_words why read
    bad_line (Memory error) read = tt

    module _ (statement : Statement) (read : AreReadAs old.context (words text) (Ok statement)) where
      pub bad_place : (bad : BadLine) → IsOutOfPlace old n statement bad → fault_of (next_line old n text) ≡ Some bad
      bad_place bad out =
          ap (option_map (fault n)) (why_kept old.context text good kept ∙ (words_said old.context (words text) statement read).0 ∙ out.1)
          ∙ ap Some (λ i. record { line = sym out.0 i; why = bad.why })

      pub taken_line : (new : Reader) → Takes old new n statement → Reads old new (next_line old n text)
      taken_line new takes =
          let is = words_said old.context (words text) statement read in
          record {
            good = ap (option_map (fault n)) (why_kept old.context text good kept ∙ is.0 ∙ takes.in_place);
            context = takes.context ∙ sym (ap (context_behind old.context n) is.1);
            said = takes.said ∙ sym (ap (λ s. old.lines.items ++ option_to_list (option_and_then (line_said old.context n) s)) is.1);
          }
