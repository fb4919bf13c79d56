use Rattle.std.proofs.Common.{◌≡◌, take, Some, sym, ◌∙◌, ap, subst}
use Rattle.pm_header.specs.Name.{IsName, name_bytes}
use Rattle.std.proofs.lemmas.Bool.{false≢true}
use Rattle.std.proofs.lemmas.Slice.Eq.{bytes_eq-Decides}
use Rattle.pm_header.proofs.NameLines.{front_of_name}
use Rattle.pm_header.proofs.name.Name.of_line.Goals as goal

pub returns-in_err-name-clause-again : goal.returns-in_err-name-clause-again
returns-in_err-name-clause-again c = λ name is spelled.
    let front : take c.front_length.result c.args.line.now ≡ name =
    front_of_name name c.args.line.now c.front_length.result is spelled c.front_length.ensures.within c.front_length.ensures.before c.front_length.ensures.zero in
    absurd (false≢true (c.in_err-name.ensures.names.1 (subst IsName (sym front) is)))

pub returns-then-eq-clause-again : goal.returns-then-eq-clause-again
returns-then-eq-clause-again c = λ name is spelled.
    ap Some (c.in_ok-name.ensures.value ∙ front_of_name name c.args.line.now c.front_length.result is spelled c.front_length.ensures.within c.front_length.ensures.before c.front_length.ensures.zero)

pub returns-else-eq-clause-again : goal.returns-else-eq-clause-again
returns-else-eq-clause-again c = λ name is spelled.
    let own : c.in_ok-name.name ≡ name =
    c.in_ok-name.ensures.value ∙ front_of_name name c.args.line.now c.front_length.result is spelled c.front_length.ensures.within c.front_length.ensures.before c.front_length.ensures.zero in
    absurd (false≢true (sym c.if-eq.false ∙ c.eq.ensures ∙ (bytes_eq-Decides c.line.result.now c.args.line.now).1 (c.line.ensures.value ∙ ap name_bytes own ∙ sym spelled)))
