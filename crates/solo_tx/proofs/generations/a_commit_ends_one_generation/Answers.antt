use Rattle.solo_tx.proofs.CommitCourse.{commits_of}
use Rattle.solo_tx.proofs.PublishCourse.{publishes_so}
use Rattle.solo_tx.proofs.generations.a_commit_ends_one_generation.Goals as goal

pub returns : goal.returns
returns c = record { commits = commits_of; publishes = λ v entries operation n k lane may. publishes_so v entries may lane operation n k }
