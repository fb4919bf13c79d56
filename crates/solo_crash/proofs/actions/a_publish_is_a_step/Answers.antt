use Rattle.solo_crash.proofs.PublishOutside.{publish_is_step}
use Rattle.solo_crash.proofs.PublishedOutside.{publish_commits}
use Rattle.solo_crash.proofs.actions.a_publish_is_a_step.Goals as goal

pub returns-clause-sets : goal.returns-clause-sets
returns-clause-sets c = publish_is_step

pub returns-clause-all : goal.returns-clause-all
returns-clause-all c = publish_commits
