use Rattle.pm_objects.proofs.Lookups.{lookup_rising}
use Rattle.pm_objects.proofs.laws.objects_are_a_map.Goals as goal

pub returns : goal.returns
returns c = lookup_rising
