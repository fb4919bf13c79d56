-- How a recovery ends.
use Rattle.std.specs.Prelude.{ℕ, nat_le, if◌then◌else◌}
use Rattle.pm_reopen.specs.declared.end.RecoverEnd.{RecoverEnd}
use Rattle.pm_reopen.specs.declared.end.RecoverEnd.TheVariants.{Stopped, Whole}

-- after so many calls
abbrev pub calls_of : RecoverEnd → ℕ
calls_of (Stopped calls) = calls
calls_of (Whole calls) = calls

-- how a recovery of so many calls ends that makes at most so many
abbrev pub end_of : ℕ → ℕ → RecoverEnd
end_of calls stop = if nat_le calls stop then Whole calls else Stopped stop
