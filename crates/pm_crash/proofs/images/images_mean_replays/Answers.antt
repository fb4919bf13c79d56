use Rattle.pm_crash.proofs.ImageMeans as means
use Rattle.pm_crash.proofs.images.images_mean_replays.Goals as goal

pub returns-clause-means : goal.returns-clause-means
returns-clause-means _ = means.images

pub returns-clause-answered : goal.returns-clause-answered
returns-clause-answered _ = means.answered
