use Rattle.std.proofs.Common.{◌≡◌, length, refl, rules}
use Rattle.pm_call.proofs.WordsSet.{enter_places, enter_room, give_logged, give_numbered, may_end, may_finish, set_cut, set_logged, set_numbered}
use Rattle.pm_call.proofs.publications.set_words.Goals as goal

pub enter_words-requires-clause-room : goal.enter_words-requires-clause-room
enter_words-requires-clause-room g c = enter_room g.M.LaneMem.at c.args.lane.now c.requires

pub enter_words-requires-clause-places : goal.enter_words-requires-clause-places
enter_words-requires-clause-places g c = enter_places g.M.LaneMem.at c.args.lane.now c.requires

pub end_outside-requires : goal.end_outside-requires
end_outside-requires g c = may_end g.M.LaneMem.at c.args.lane.now (record c.args.lane.now { entries = c.enter_words.new.entries; pending = c.enter_words.new.pending }) c.enter_words.new.entries.items c.enter_words.new.pending.items refl refl c.enter_words.ensures.entries c.enter_words.ensures.pending c.requires (let e : length c.enter_words.new.entries.items ≡ 0 = search rules in e)

pub give_back-requires : goal.give_back-requires
give_back-requires g c = give_numbered g.M.LaneMem.at c.args.lane.now (record c.args.lane.now { entries = c.enter_words.new.entries; pending = c.enter_words.new.pending }) c.enter_words.new.entries.items c.enter_words.new.pending.items refl refl c.enter_words.ensures.entries c.enter_words.ensures.pending c.end_outside.new.lane c.requires (let e : length c.enter_words.new.entries.items ≡ 0 = search rules in e) c.end_outside.result c.end_outside.ensures.made c.end_outside.ensures.fields

pub returns-then-is_empty : goal.returns-then-is_empty
returns-then-is_empty g c = set_numbered g.M.LaneMem.at c.args.lane.now (record c.args.lane.now { entries = c.enter_words.new.entries; pending = c.enter_words.new.pending }) c.enter_words.new.entries.items c.enter_words.new.pending.items refl refl c.enter_words.ensures.entries c.enter_words.ensures.pending c.end_outside.new.lane (let e : length c.enter_words.new.entries.items ≡ 0 = search rules in e) c.end_outside.result c.end_outside.ensures.made c.end_outside.ensures.fields c.give_back.new.lane c.give_back.ensures

pub finish_entries-requires : goal.finish_entries-requires
finish_entries-requires g c = may_finish g.M.LaneMem.at c.args.lane.now (record c.args.lane.now { entries = c.enter_words.new.entries; pending = c.enter_words.new.pending }) c.enter_words.new.entries.items c.enter_words.new.pending.items refl refl c.enter_words.ensures.entries c.enter_words.ensures.pending c.requires

pub returns-in-Err : goal.returns-in-Err
returns-in-Err g c = set_cut g.M.LaneMem.at c.args.lane.now (record c.args.lane.now { entries = c.enter_words.new.entries; pending = c.enter_words.new.pending }) c.enter_words.new.entries.items c.enter_words.new.pending.items refl refl c.enter_words.ensures.entries c.enter_words.ensures.pending c.finish_entries.new.lane (λ (e : length c.enter_words.new.entries.items ≡ 0). absurd (search rules)) c.in-Err.field-0 c.in-Err.ensures c.stop.result c.stop.ensures.answer c.stop.new.lane c.stop.ensures.lane

pub give_back-requires-2 : goal.give_back-requires-2
give_back-requires-2 g c = give_logged g.M.LaneMem.at c.args.lane.now (record c.args.lane.now { entries = c.enter_words.new.entries; pending = c.enter_words.new.pending }) c.enter_words.new.entries.items c.enter_words.new.pending.items refl refl c.enter_words.ensures.entries c.enter_words.ensures.pending c.finish_entries.new.lane c.requires (λ (e : length c.enter_words.new.entries.items ≡ 0). absurd (search rules)) c.in_default.ensures

pub returns : goal.returns
returns g c = set_logged g.M.LaneMem.at c.args.lane.now (record c.args.lane.now { entries = c.enter_words.new.entries; pending = c.enter_words.new.pending }) c.enter_words.new.entries.items c.enter_words.new.pending.items refl refl c.enter_words.ensures.entries c.enter_words.ensures.pending c.finish_entries.new.lane (λ (e : length c.enter_words.new.entries.items ≡ 0). absurd (search rules)) c.in_default.ensures c.give_back-2.new.lane c.give_back-2.ensures
