use Rattle.std.proofs.Common.{ℕ, List, [], sym, subst, ◌∙◌}
use Rattle.atomic_table.specs.Table.{opening}
use Rattle.pm_shared.specs.Openings.{first_known}
use Rattle.pm_shared.specs.TableRule.{Ruled}
use Rattle.pm_shared.proofs.Beginnings.{ruled}
use Rattle.pm_shared.proofs.mem.SharedMem.new.Goals as goal

pub of_words-requires : goal.of_words-requires
of_words-requires c = let b = c.args.beginning in subst (λ (ws : List ℕ). Ruled b (opening ws [] (first_known b))) (sym (c.as_slice.ensures.value ∙ c.in_ok-all.ensures)) (ruled b c.requires)
