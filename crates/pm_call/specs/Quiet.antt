-- STEPS THAT ARE OF NO PLAN: looks, locks, and what was seen of numbers and of the stop word.
use Rattle.std.specs.Prelude.{◌≡◌, Bool, true, false, not, List}
use Rattle.std.specs.List.{AllByRecursion}
use Rattle.pm_view.specs.Counts.{is_counted}
use Rattle.pm_view.specs.Steps.{Step}
use Rattle.pm_view.specs.Steps.Step.{Draw, Tell}
use Rattle.pm_view.specs.View.{View}
use Rattle.pm_view.specs.Views.{after_all}

-- the step makes no counted call, records no operation, and takes no number
abbrev pub is_quiet : Step → Bool
is_quiet (Draw n) = false
is_quiet (Tell operation reply) = false
is_quiet s = not (is_counted s)

abbrev pub AreQuiet : List Step → Type 0
AreQuiet steps = AllByRecursion (λ s. is_quiet s ≡ true) steps

-- the second view came from the first by such steps
pub record WentQuietly (v w : View) : Type 0 where
  pub steps : List Step
  pub quiet : AreQuiet steps
  pub then : w ≡ after_all v steps
