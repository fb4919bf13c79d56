-- Steps one after the other.
use Rattle.std.proofs.Common.{◌≡◌, List, [], ◌∷◌, ◌++◌, refl}
use Rattle.solo_view.specs.Steps.{Step}
use Rattle.solo_view.specs.View.{View}
use Rattle.solo_view.specs.Views.{after, after_all}

pub after_all-append : (v : View) (first second : List Step) → after_all v (first ++ second) ≡ after_all (after_all v first) second
unfolding after_all
after_all-append v [] second = refl
after_all-append v (s ∷ first) second = after_all-append (after v s) first second
