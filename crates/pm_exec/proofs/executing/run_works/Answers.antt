use Rattle.std.proofs.Common.{Bool, List, sym, subst}
use Rattle.pm_exec.specs.Entries.{HaveAllNumbers}
use Rattle.pm_exec.specs.Reports.{all_entries}
use Rattle.pm_exec.proofs.LaneWorks.{all_have_lines, all_have_numbers}
use Rattle.pm_exec.proofs.Ran.{PoolLaws}
use Rattle.pm_exec.proofs.executing.run_works.Goals as goal

pub entries_of-requires-clause-lines : goal.entries_of-requires-clause-lines
entries_of-requires-clause-lines g c =
    let laws : PoolLaws = record {
      means = c.closed_pools_mean_their_histories.ensures.means;
      replays = c.closed_pools_mean_their_histories.ensures.replays;
      others = c.open_calls_are_judged.ensures.others;
      judges = c.open_calls_are_judged.ensures.open_call;
    } in
    let made = c.in_ok-image.field-0 in
    all_have_lines c.args.beginning c.args.keep c.args.works.items made.works.items made.image.items made.kept.items c.in_ok-image.ensures
    c.requires.count c.requires.calls laws c.requires.works.1 c.requires.works.2

pub entries_of-requires-clause-numbers : goal.entries_of-requires-clause-numbers
entries_of-requires-clause-numbers g c =
    let laws : PoolLaws = record {
      means = c.closed_pools_mean_their_histories.ensures.means;
      replays = c.closed_pools_mean_their_histories.ensures.replays;
      others = c.open_calls_are_judged.ensures.others;
      judges = c.open_calls_are_judged.ensures.open_call;
    } in
    let made = c.in_ok-image.field-0 in
    subst (λ (l : List Bool). HaveAllNumbers (all_entries l made.works.items)) (sym c.as_slice-2.ensures.value)
    (all_have_numbers c.args.beginning c.args.keep c.args.works.items made.works.items made.image.items made.kept.items c.in_ok-image.ensures
    c.requires.count c.requires.calls laws c.requires.works.1 c.requires.works.2)
