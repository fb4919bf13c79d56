use Rattle.solo_world.specs.Sequences.{in_turn}
use Rattle.solo_world.proofs.Sequencing.{ready_by_view, runs_by_view, ready_view_first, chosen_behind, ready_then, runs_then}
use Rattle.solo_undo.specs.Sequences.{looks_from, writes_slot, writes_record}
use Rattle.solo_undo.proofs.Recording.{writes_span, spelled_as_seen}
use Rattle.solo_undo.proofs.record.write_record.Goals as goal

pub words_of-old-requires-clause-ready : goal.words_of-old-requires-clause-ready
unfolding writes_record
words_of-old-requires-clause-ready g c =
    ready_view_first (g.M.LaneMem.at c.args.mem.now) (looks_from c.args.span.word c.args.span.count) (writes_span c.args.lane c.args.generation c.args.slot c.args.span) c.requires.ready

pub write_slot-requires-clause-ready : goal.write_slot-requires-clause-ready
unfolding writes_record
write_slot-requires-clause-ready g c =
    let old = g.M.LaneMem.at c.args.mem.now in
    let looks = looks_from c.args.span.word c.args.span.count in
    let slot = writes_slot c.args.lane c.args.slot c.spell-words.result in
    let choose = writes_span c.args.lane c.args.generation c.args.slot c.args.span in
    let is = spelled_as_seen old c.args.lane c.args.generation c.args.slot c.args.span c.words_of-old.result c.spell-words.result c.words_of-old.ensures.found c.spell-words.ensures in
    ready_then old (g.M.LaneMem.at c.words_of-old.new.mem) looks slot tt
    (ready_by_view old (λ v. in_turn looks (choose v)) (in_turn looks slot) (chosen_behind old looks slot choose is) c.requires.ready) c.words_of-old.ensures.made

pub returns : goal.returns
unfolding writes_record
returns g c =
    let old = g.M.LaneMem.at c.args.mem.now in
    let looks = looks_from c.args.span.word c.args.span.count in
    let slot = writes_slot c.args.lane c.args.slot c.spell-words.result in
    let choose = writes_span c.args.lane c.args.generation c.args.slot c.args.span in
    let is = spelled_as_seen old c.args.lane c.args.generation c.args.slot c.args.span c.words_of-old.result c.spell-words.result c.words_of-old.ensures.found c.spell-words.ensures in
    runs_by_view old (g.M.LaneMem.at c.write_slot.new.mem) (λ v. in_turn looks (choose v)) (in_turn looks slot) c.write_slot.result (chosen_behind old looks slot choose is)
    (runs_then old (g.M.LaneMem.at c.words_of-old.new.mem) (g.M.LaneMem.at c.write_slot.new.mem) looks slot tt c.write_slot.result c.words_of-old.ensures.made c.write_slot.ensures)
