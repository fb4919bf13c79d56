use Rattle.std.proofs.Common.{◌≡◌, ◌≤◌, ℕ, true, false, List, Option, None, Some, Result, Ok, Err, ◌&&◌, get_or, is_some, is_ok, sym, ◌∙◌, nat_le, arith}
use Rattle.std.proofs.lemmas.Bool.{false≢true, and_parts, leb-true}
use Rattle.std.proofs.lemmas.List.Sums.{AllPass-from_list_all}
use Rattle.std.proofs.lemmas.Str.{IsUtf8-from_ascii}
use Rattle.std.proofs.lemmas.Str.Ascii.{IsAscii-from_all}
use Rattle.std.specs.Option.{IfNone}
use Rattle.std.specs.Result.{MatchResult}
use Rattle.std.specs.Str.{IsUtf8}
use Rattle.solo_script.specs.Words.{is_text}
use Rattle.solo_script.proofs.words.text_of.Goals as goal

text_is_utf8 : (line : List ℕ) → is_text line ≡ true → IsUtf8 line
text_is_utf8 line text = IsUtf8-from_ascii line (IsAscii-from_all line (λ k d inside.
    let b = get_or line k d in
    let passes = AllPass-from_list_all (λ b. nat_le 0x20 b && nat_le b 0x7e) line text k d inside in
    let below : b ≤ 126 = leb-true b 126 (and_parts (nat_le 0x20 b) (nat_le b 0x7e) passes).1 in
    omega (arith, below)))

-- so from_utf8 gave a text
no_text : {S E : Type 0} (line : List ℕ) (found : Result S E) (answer : Option S) (P : S → Type 0) (Q : E → Type 0) → is_text line ≡ true
    → MatchResult found P (λ e. ¬ (IsUtf8 line) × Q e) → is_some answer ≡ is_ok found → IfNone answer (is_text line ≡ false)
no_text line found (Some s) P Q text cases variant = tt
no_text line (Ok s) None P Q text cases variant = absurd (false≢true variant)
no_text line (Err e) None P Q text cases variant = absurd (cases.0 (text_is_utf8 line text))

pub returns-then-are_text-clause-none : goal.returns-then-are_text-clause-none
returns-then-are_text-clause-none c = no_text c.args.line.now c.from_utf8.result c.ok.result _ _ (sym c.are_text.ensures ∙ c.if-are_text.true) c.from_utf8.ensures.cases c.ok.ensures.variant
