use Rattle.std.proofs.Common.{◌≡◌, ◌*◌, eqb, get_or, sym, ◌∙◌, ap, List, Some, None}
use Rattle.std.specs.List.{filter, find}
use Rattle.std.specs.Option.{option_map}
use Rattle.pm_record.specs.declared.redo.Redo.{Redo}
use Rattle.pm_image.specs.Logs.{covers, old_word}
use Rattle.pm_image.specs.Steps.{made}
use Rattle.pm_image.proofs.Words.{by_entries, by_record, as_it_stands}
use Rattle.pm_image.proofs.Logged.{found_passes, none_from_not}
use Rattle.pm_image.proofs.restoring.logged_word.Goals as goal

pub returns-in-Some : goal.returns-in-Some
returns-in-Some c =
    let es = c.args.logs.now.entries.items in
    let us = c.args.logs.now.records.items in
    let made_it : made None (filter (λ e. eqb e.place (8 * c.args.i)) es) c.word-word.result ≡ Some c.in-Some.value =
    ap (λ (xs : List Redo). made None (filter (λ e. eqb e.place (8 * c.args.i)) xs) c.word-word.result) (sym c.deref.ensures.value) ∙ sym c.redone.ensures ∙ c.in-Some.is in
    by_entries (filter (λ e. eqb e.place (8 * c.args.i)) es) (find (λ u. covers u (8 * c.args.i)) us) (8 * c.args.i) (get_or c.args.image.now c.args.i 0) c.in-Some.value
    (ap (made None (filter (λ e. eqb e.place (8 * c.args.i)) es)) (sym c.word-word.ensures) ∙ made_it)

pub old_word-requires : goal.old_word-requires
old_word-requires c = found_passes (λ u. covers u (8 * c.args.i)) c.deref-2.result.now c.in-Some-first_covering.one (sym c.first_covering.ensures ∙ c.in-Some-first_covering.is)

pub returns-in-Some-first_covering : goal.returns-in-Some-first_covering
returns-in-Some-first_covering c =
    let es = c.args.logs.now.entries.items in
    let us = c.args.logs.now.records.items in
    let made_none : made None (filter (λ e. eqb e.place (8 * c.args.i)) es) c.word-word.result ≡ None =
    ap (λ (xs : List Redo). made None (filter (λ e. eqb e.place (8 * c.args.i)) xs) c.word-word.result) (sym c.deref.ensures.value) ∙ sym c.redone.ensures ∙ none_from_not c.redone.result c.in_default.not-Some in
    let found : find (λ u. covers u (8 * c.args.i)) us ≡ Some c.in-Some-first_covering.one =
    ap (find (λ u. covers u (8 * c.args.i))) (sym c.deref-2.ensures.value) ∙ sym c.first_covering.ensures ∙ c.in-Some-first_covering.is in
    by_record (filter (λ e. eqb e.place (8 * c.args.i)) es) (find (λ u. covers u (8 * c.args.i)) us) (8 * c.args.i) (get_or c.args.image.now c.args.i 0) c.old_word.result
    (ap (made None (filter (λ e. eqb e.place (8 * c.args.i)) es)) (sym c.word-word.ensures) ∙ made_none)
    (ap (option_map (λ u. old_word u (8 * c.args.i))) found ∙ ap Some (sym c.old_word.ensures))

pub returns-in-None : goal.returns-in-None
returns-in-None c =
    let es = c.args.logs.now.entries.items in
    let us = c.args.logs.now.records.items in
    let made_none : made None (filter (λ e. eqb e.place (8 * c.args.i)) es) c.word-word.result ≡ None =
    ap (λ (xs : List Redo). made None (filter (λ e. eqb e.place (8 * c.args.i)) xs) c.word-word.result) (sym c.deref.ensures.value) ∙ sym c.redone.ensures ∙ none_from_not c.redone.result c.in_default.not-Some in
    let none : find (λ u. covers u (8 * c.args.i)) us ≡ None =
    ap (find (λ u. covers u (8 * c.args.i))) (sym c.deref-2.ensures.value) ∙ sym c.first_covering.ensures ∙ c.in-None.is in
    c.word-word.ensures
    ∙ as_it_stands (filter (λ e. eqb e.place (8 * c.args.i)) es) (find (λ u. covers u (8 * c.args.i)) us) (8 * c.args.i) (get_or c.args.image.now c.args.i 0)
    (ap (made None (filter (λ e. eqb e.place (8 * c.args.i)) es)) (sym c.word-word.ensures) ∙ made_none)
    (ap (option_map (λ u. old_word u (8 * c.args.i))) none)
