-- Calls that are to fail, by their numbers, and the counts of calls and of failures.
use Rattle.std.specs.Prelude.{ℕ, ◌+◌, ◌-◌, ◌^◌, List, Bool, min, ◌==◌, if◌then◌else◌}
use Rattle.std.specs.List.{list_any}

-- the numbers of the calls that are to fail, how many calls were made, and how many of them failed
pub record Plan : Type 0 where
  pub failing : List ℕ
  pub calls : ℕ
  pub faults : ℕ

-- one more, where a count of 64 bits stands still at its largest
abbrev pub one_more : ℕ → ℕ
one_more count = min (count + 1) (2 ^ 64 - 1)

-- whether the next call is to fail; the first has the number 0
abbrev pub is_due : Plan → Bool
is_due plan = list_any (λ number. number == plan.calls) plan.failing

-- the plan after one more call, and one more failure exactly where that call was to fail
abbrev pub after_call : Plan → Plan
after_call plan = record {
  failing = plan.failing;
  calls = one_more plan.calls;
  faults = (if is_due plan then one_more plan.faults else plan.faults);
}
