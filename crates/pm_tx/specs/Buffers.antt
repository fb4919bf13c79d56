-- WHAT A CALL LEAVES IN A BUFFER that its caller gave it.
use Rattle.std.specs.Prelude.{◌≡◌, ℕ, List, length, Result, Ok, Err}
use Rattle.pm_objects.specs.declared.refusal.Refusal.{Refusal}

-- as many bytes as before were read into it, or it is as it was
abbrev pub IsReadInto : List ℕ → List ℕ → Result (Unit {0}) Refusal → Type 0
IsReadInto old new (Ok done) = length new ≡ length old
IsReadInto old new (Err why) = new ≡ old
