-- What a lane alone was told was granted.
use Rattle.std.proofs.Common.{List, [], ◌∷◌, ◌++◌, false, IsTrue, rules}
use Rattle.std.specs.List.{All}
use Rattle.std.proofs.lemmas.List.Elements.{All-head, All-tail}
use Rattle.solo_view.specs.Steps.{Step}
use Rattle.solo_memory.specs.Solo.{IsGranted}

-- the last of some granted steps was granted
pub granted_last : (steps : List Step) (s : Step) → All IsGranted (steps ++ s ∷ []) → IsGranted s
granted_last [] s all = All-head IsGranted s [] all
granted_last (t ∷ steps) s all = granted_last steps s (All-tail IsGranted t (steps ++ s ∷ []) all)

pub never : IsTrue false → ⊥
never granted = absurd (search rules)
