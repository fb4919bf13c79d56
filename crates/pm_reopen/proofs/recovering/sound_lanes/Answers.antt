use Rattle.pm_image.proofs.Meanings.{no_meaning_and_fault, one_fault}
use Rattle.pm_recover.proofs.Sound.{sound_if_meaning}
use Rattle.pm_reopen.proofs.Targets.{targets_if_meaning, whole_lines}
use Rattle.pm_reopen.proofs.recovering.sound_lanes.Goals as goal

pub returns-in-Ok-clause-sound : goal.returns-in-Ok-clause-sound
returns-in-Ok-clause-sound c = sound_if_meaning c.args.image.now c.in-Ok.pool c.in-Ok.ensures.pool

pub returns-in-Ok-clause-targets : goal.returns-in-Ok-clause-targets
returns-in-Ok-clause-targets c = targets_if_meaning c.args.image.now c.in-Ok.pool c.in-Ok.ensures.pool

pub returns-in-Ok-clause-lines : goal.returns-in-Ok-clause-lines
returns-in-Ok-clause-lines c = whole_lines c.args.image.now c.in-Ok.pool c.in-Ok.ensures.pool

pub returns-in-Ok-clause-refused : goal.returns-in-Ok-clause-refused
returns-in-Ok-clause-refused c = λ found fault. no_meaning_and_fault c.args.image.now c.in-Ok.pool found c.in-Ok.ensures.pool fault

pub returns-in-Err-Image-clause-refused : goal.returns-in-Err-Image-clause-refused
returns-in-Err-Image-clause-refused c = λ found fault.
    one_fault c.args.image.now c.in-Err-Image.found found (rw c.in-Err-Image.field-0-is at c.in-Err-Image.ensures.fault) fault
