-- Lanes may begin on the words of a pool without objects.
use Rattle.std.proofs.Common.{slice_index, sym, subst}
use Rattle.pm_world.proofs.Bare.{bare_retired, bare_whole, bare_taken}
use Rattle.pm_world.specs.Opens.{IsRetired}
use Rattle.pm_shared.specs.Bare.{BeginsBare}
use Rattle.pm_shared.specs.declared.rule.Beginning.{Beginning}
use Rattle.pm_shared.specs.Openings.{CanBegin, opening_of}

pub can_begin : (b : Beginning) → BeginsBare b → CanBegin b
can_begin b bare = record {
  some_lanes = bare.opening.some_lanes;
  most_lanes = bare.opening.most_lanes;
  size = bare.opening.words.size;
  small = bare.opening.words.small;
  whole = bare_whole (opening_of b) bare.opening;
  retired = λ lane few. subst (IsRetired (opening_of b) lane) (sym (bare.opening.words.first lane few)) (bare_retired (opening_of b) bare.opening lane few);
  occupancy = record {
    pages = bare.runs;
    zone_count = bare.zones;
    taken = bare_taken (opening_of b) bare.opening (slice_index b.runs.items) (slice_index b.zones.items) bare.untaken;
  };
}
