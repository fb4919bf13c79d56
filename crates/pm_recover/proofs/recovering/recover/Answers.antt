use Rattle.std.proofs.Common.{sym, subst}
use Rattle.pm_image.proofs.Meanings.{no_meaning_and_fault}
use Rattle.pm_recover.specs.Recovery.{IsRecovered}
use Rattle.pm_recover.proofs.Meaning.{meaning_kept}
use Rattle.pm_recover.proofs.recovering.recover.Goals as goal

pub returns-clause-recovered : goal.returns-clause-recovered
returns-clause-recovered c = λ pool is. subst (IsRecovered c.args.image.now c.recover_lanes.new.image) (sym ((c.in_ok-lanes.ensures {u = tt}).lanes pool is)) c.recover_lanes.ensures

pub returns-clause-seals : goal.returns-clause-seals
returns-clause-seals c = λ pool lane is inside. (returns-clause-recovered c pool is).seals lane inside

pub returns-clause-meaning : goal.returns-clause-meaning
returns-clause-meaning c = λ pool is. meaning_kept c.args.image.now c.recover_lanes.new.image pool is (returns-clause-recovered c pool is)

pub returns-clause-refused : goal.returns-clause-refused
returns-clause-refused c = λ found fault. let means = (c.in_ok-lanes.ensures {u = tt}).done in no_meaning_and_fault c.args.image.now means.0 found means.1 fault
