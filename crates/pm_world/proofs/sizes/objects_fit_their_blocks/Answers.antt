use Rattle.pm_world.proofs.SizesKept.{keeps, runs_keep_sizes}
use Rattle.pm_world.proofs.SizesSeen.{size_found, sizes_seen}
use Rattle.pm_world.proofs.sizes.objects_fit_their_blocks.Goals as goal

pub returns-clause-found : goal.returns-clause-found
returns-clause-found c = size_found

pub returns-clause-keeps : goal.returns-clause-keeps
returns-clause-keeps c = keeps

pub returns-clause-runs : goal.returns-clause-runs
returns-clause-runs c = runs_keep_sizes

pub returns-clause-seen : goal.returns-clause-seen
returns-clause-seen c = sizes_seen
