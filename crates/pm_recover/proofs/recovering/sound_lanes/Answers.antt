use Rattle.pm_image.proofs.Meanings.{no_meaning_and_fault, one_fault}
use Rattle.pm_recover.proofs.Sound.{apart_if_meaning, sound_if_meaning}
use Rattle.pm_recover.proofs.recovering.sound_lanes.Goals as goal

pub returns-in-Ok-clause-sound : goal.returns-in-Ok-clause-sound
returns-in-Ok-clause-sound c = sound_if_meaning c.args.image.now c.in-Ok.pool c.in-Ok.ensures.pool

pub returns-in-Ok-clause-apart : goal.returns-in-Ok-clause-apart
returns-in-Ok-clause-apart c = apart_if_meaning c.args.image.now c.in-Ok.pool c.in-Ok.ensures.pool

pub returns-in-Ok-clause-refused : goal.returns-in-Ok-clause-refused
returns-in-Ok-clause-refused c = λ found fault. no_meaning_and_fault c.args.image.now c.in-Ok.pool found c.in-Ok.ensures.pool fault

pub returns-in-Err-Image-clause-refused : goal.returns-in-Err-Image-clause-refused
returns-in-Err-Image-clause-refused c = λ found fault.
    one_fault c.args.image.now c.in-Err-Image.found found (rw c.in-Err-Image.field-0-is at c.in-Err-Image.ensures.fault) fault
