use Rattle.std.proofs.Common.{length}
use Rattle.solo_tx.proofs.CommitCourse.{commits_of}
use Rattle.solo_tx.proofs.GiveUpCourse.{gives_up_of}
use Rattle.solo_tx.proofs.OpeningGeneration.{commit_first, give_up_first, looks_first, publish_first, unraised_first}
use Rattle.solo_tx.proofs.PublishCourse.{publishes_so}
use Rattle.solo_tx.proofs.Published.{publish_lawful}
use Rattle.solo_tx.specs.Sequences.{commits, gives_up, publishes}
use Rattle.solo_tx.proofs.generations.a_first_generation_is_the_openings.Goals as goal

pub returns : goal.returns
returns c = record {
  unraised = λ o v steps k lane unended first ready none. unraised_first o v steps k lane ready first unended none;
  looks = looks_first;
  commits = λ o v spans entries n k lane working are can first ready. commit_first o v (commits spans entries n v) k lane ready first entries (λ i. commits_of v spans entries n i lane working are can);
  publishes = λ o v entries operation n k lane may first. publish_first o v (publishes entries operation n v) k lane (publish_lawful v entries may operation n).0 first (length entries) (publishes_so v entries may lane operation n k);
  gives_up = λ o v spans operation reply n k lane working none are first ready.
      give_up_first o v (gives_up spans operation reply n v) k lane ready first (λ i. gives_up_of v spans operation reply n i lane working none are);
}
