use Rattle.std.proofs.Common.{◌≡◌, ◌≢◌, ◌-◌, ℕ, List, [], ◌∷◌, length, take, drop, slice_index_or, Option, Some, None, Result, Err, refl, sym, ap, ◌∙◌, subst, arith, Bor}
use Rattle.std.proofs.lemmas.Grind.{common_steps}
use Rattle.std.proofs.lemmas.Result.{err_from_is_err_and}
use Rattle.pm_script.specs.Contexts.{Context}
use Rattle.pm_script.specs.Grammar.{keyword_of}
use Rattle.pm_script.specs.Reading.{AreReadAs, AreReadBehind}
use Rattle.pm_script.specs.Words.{texts}
use Rattle.pm_script.specs.declared.fault.LineFault.{LineFault}
use Rattle.pm_script.specs.declared.fault.LineFault.TheVariants.{Bad}
use Rattle.pm_script.specs.declared.fault.Why.TheVariants.{Word}
use Rattle.pm_script.specs.declared.statement.Keyword.{Keyword}
use Rattle.pm_script.specs.declared.statement.Keyword.TheVariants as keyword
use Rattle.pm_script.specs.declared.statement.Statement.{Statement}
use Rattle.pm_script.proofs.Answering.{none_found, value_found}
use Rattle.pm_script.proofs.statement.statement_of.Goals as goal

-- what was read after the first word was read from the line
read_there : (context : Context) (words : List (Bor (List ℕ))) (d : Bor (List ℕ)) (found : Option Keyword) (result : Result Statement LineFault) (operands : List (Bor (List ℕ)))
    → texts words ≢ [] → found ≡ keyword_of (slice_index_or words 0 d).now → AreReadBehind context found (texts operands) result → operands ≡ drop 1 words → AreReadAs context (texts words) result
read_there context [] d found result operands some is read rest = absurd (some refl)
read_there context (word ∷ words) d found result operands some is read rest =
    subst (λ f. AreReadBehind context f (texts words) result) is (subst (λ ops. AreReadBehind context found (texts ops) result) rest read)

take_all : {A : Type 0} (xs : List A) → take (length xs) xs ≡ xs
take_all [] = refl
take_all (x ∷ xs) = ap (λ l. x ∷ l) (take_all xs)

range_rest : {A : Type 0} (xs : List A) → take (length xs - 1) (drop 1 xs) ≡ drop 1 xs
range_rest [] = refl
range_rest (x ∷ xs) = let less : length (x ∷ xs) - 1 ≡ length xs = omega arith in ap (λ n. take n xs) less ∙ take_all xs

pub returns-in_err-keyword : goal.returns-in_err-keyword
returns-in_err-keyword c =
    let none = none_found c.keyword_of.result _ c.in_err-keyword.field-0.0 (sym c.ok_or.ensures.value ∙ c.in_err-keyword.was) in
    let p = err_from_is_err_and c.from_residual.result c.from_residual.ensures.1 in
    rw (p.1, p.2, none.1) (read_there c.args.context.now c.args.words.now _ None (Err (Bad Word)) (drop 1 c.args.words.now) c.requires (sym none.0 ∙ c.keyword_of.ensures) refl refl)

pub returns-in-Lane : goal.returns-in-Lane
returns-in-Lane c = let read = c.lane_of.ensures c.args.context.now in grind (arith, common_steps)

pub returns-in-Inside : goal.returns-in-Inside
returns-in-Inside c =
    let is = value_found c.keyword_of.result _ c.in_ok-keyword.keyword (sym c.ok_or.ensures.value ∙ c.in_ok-keyword.was) in
    read_there c.args.context.now c.args.words.now _ (Some (keyword.Inside c.in-Inside.word)) c.read-in-Inside.result _ c.requires (sym (is ∙ ap Some c.in-Inside.is) ∙ c.keyword_of.ensures) c.read-in-Inside.ensures
    (range_rest c.args.words.now)

pub returns-in-Outside : goal.returns-in-Outside
returns-in-Outside c =
    let is = value_found c.keyword_of.result _ c.in_ok-keyword.keyword (sym c.ok_or.ensures.value ∙ c.in_ok-keyword.was) in
    read_there c.args.context.now c.args.words.now _ (Some (keyword.Outside c.in-Outside.word)) c.read-in-Outside.result _ c.requires (sym (is ∙ ap Some c.in-Outside.is) ∙ c.keyword_of.ensures) c.read-in-Outside.ensures
    (range_rest c.args.words.now)
