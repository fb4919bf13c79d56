use Rattle.std.proofs.Common.{map, sym, ◌∙◌, subst, arith}
use Rattle.std.specs.List.{flat_map}
use Rattle.std.specs.Option.{option_to_list}
use Rattle.pm_image.specs.Steps.{valid_record}
use Rattle.pm_reopen.specs.Plan.{restores}
use Rattle.pm_reopen.specs.Plan.MemoryCall.{Change}
use Rattle.pm_reopen.specs.Running.{Halts, Makes}
use Rattle.pm_reopen.proofs.Making.{makes_none, ran_error}
use Rattle.pm_reopen.proofs.Parts.{of_one, of_none}
use Rattle.pm_reopen.proofs.writing.restore_slot.Goals as goal

pub restore-requires-clause-few : goal.restore-requires-clause-few
restore-requires-clause-few c =
    (c.requires.sound.restorable c.args.lane c.args.slot c.in-Some.one (omega arith) c.requires.slot (sym c.valid_record.ensures ∙ c.in-Some.is)).few

pub restore-requires-clause-within : goal.restore-requires-clause-within
restore-requires-clause-within c =
    let inside = (c.requires.sound.restorable c.args.lane c.args.slot c.in-Some.one (omega arith) c.requires.slot (sym c.valid_record.ensures ∙ c.in-Some.is)).within in
    let same = c.requires.words in
    omega (arith, inside, same)

pub restore-requires-clause-small : goal.restore-requires-clause-small
restore-requires-clause-small c =
    let small = c.requires.sound.has_lanes.small in
    let same = c.requires.words in
    omega (arith, small, same)

pub returns-in_err-restore-in-Some : goal.returns-in_err-restore-in-Some
returns-in_err-restore-in-Some c =
    ran_error c.args.mem.now c.restore.new.mem (map Change (flat_map restores (option_to_list (valid_record c.args.image.now c.args.lane c.args.slot)))) c.from_residual.result c.from_residual.ensures.0
    (subst (Halts c.args.mem.now c.restore.new.mem) (of_one (valid_record c.args.image.now c.args.lane c.args.slot) c.in-Some.one (sym c.valid_record.ensures ∙ c.in-Some.is)) c.in_err-restore-in-Some.ensures)

pub returns-in_ok-restore-in-Some : goal.returns-in_ok-restore-in-Some
returns-in_ok-restore-in-Some c =
    subst (Makes c.args.mem.now c.restore.new.mem) (of_one (valid_record c.args.image.now c.args.lane c.args.slot) c.in-Some.one (sym c.valid_record.ensures ∙ c.in-Some.is)) c.in_ok-restore-in-Some.ensures

pub returns-in-None : goal.returns-in-None
returns-in-None c =
    subst (Makes c.args.mem.now c.args.mem.now) (of_none (valid_record c.args.image.now c.args.lane c.args.slot) (sym c.valid_record.ensures ∙ c.in-None.is)) (makes_none c.args.mem.now)
