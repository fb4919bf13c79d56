-- The operands of a begin, one by one.
use Rattle.std.proofs.Common.{◌≡◌, ℕ, ◌+◌, ◌<◌, Bool, true, cond, List, [], ◌∷◌, ◌++◌, length, take, get_or, is_some, Some, None, ap, ◌∙◌}
use Rattle.std.proofs.lemmas.Bool.{and_from}
use Rattle.std.proofs.lemmas.List.{take_more}
use Rattle.std.proofs.lemmas.List.Elements.{filter_map-append}
use Rattle.std.proofs.lemmas.List.Folds.{list_all_at, list_all_more}
use Rattle.std.specs.List.{cons_option, filter_map, list_all}
use Rattle.pm_script.specs.Contexts.{Context}
use Rattle.pm_script.specs.Operands.{is_want, want_of}
use Rattle.pm_script.specs.Reading.{form_why}
use Rattle.pm_script.specs.declared.either.EitherWord.TheVariants as either
use Rattle.pm_script.specs.declared.fault.Why.TheVariants.{Letter}
use Rattle.pm_script.specs.declared.script.ScriptWant.{ScriptWant}
use Rattle.pm_script.specs.declared.statement.Keyword.TheVariants as keyword

module _ (context : Context) (operands : List (List ℕ)) (k : ℕ) (inside : k < length operands) (word : List ℕ) (here : get_or operands k [] ≡ word) where
  -- it says one want more
  pub wants_more : (want : ScriptWant) → want_of context word ≡ Some want → filter_map (want_of context) (take (k + 1) operands) ≡ filter_map (want_of context) (take k operands) ++ want ∷ []
  wants_more want is =
      ap (filter_map (want_of context)) (take_more operands k [] inside ∙ ap (λ w. take k operands ++ w ∷ []) here)
      ∙ (filter_map-append (want_of context) (take k operands) (word ∷ []) ∙ ap (λ found. filter_map (want_of context) (take k operands) ++ cons_option found []) is)

  -- all so far are wants
  pub all_wants : (want : ScriptWant) → want_of context word ≡ Some want → list_all (is_want context) (take k operands) ≡ true → list_all (is_want context) (take (k + 1) operands) ≡ true
  all_wants want is all = list_all_more (is_want context) operands k [] inside ∙ and_from _ _ all (ap (is_want context) here ∙ ap is_some is)

  -- one that is none makes the line bad
  pub no_want : want_of context word ≡ None → form_why context (keyword.Either either.Begin) operands ≡ Some Letter
  no_want none = ap (λ (b : Bool). cond b None (Some Letter)) (list_all_at (is_want context) operands k [] inside (ap (is_want context) here ∙ ap is_some none))
