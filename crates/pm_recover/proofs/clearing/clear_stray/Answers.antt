use Rattle.std.proofs.Common.{◌≤◌, sym, ◌∙◌, subst, arith, rules}
use Rattle.pm_image.specs.Logs.{generation_word}
use Rattle.pm_recover.proofs.Strays.{stray_cleared}
use Rattle.pm_recover.proofs.clearing.clear_stray.Goals as goal

pub returns-then-found-generation-clause-slot : goal.returns-then-found-generation-clause-slot
returns-then-found-generation-clause-slot c =
    let areas = c.requires.lanes.areas in
    let few = c.requires.slot in
    let late : generation_word c.args.image.now c.args.lane ≤ c.in-Some.found.generation = search rules in
    stray_cleared c.args.image.now c.clear_slot.new.image c.args.lane c.args.slot c.in-Some.found c.clear_slot.ensures.as_long (omega (arith, areas, few)) (sym c.record_in_slot.ensures ∙ c.in-Some.is) late c.clear_slot.ensures.cleared
