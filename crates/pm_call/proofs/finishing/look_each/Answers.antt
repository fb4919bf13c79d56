use Rattle.std.proofs.Common.{◌≡◌, ◌/◌, ◌∙◌, length, sym, ap, rules}
use Rattle.pm_view.specs.Steps.Step.{Load}
use Rattle.pm_world.specs.LaneFields.{at_work, moved}
use Rattle.pm_redo.specs.Entries.{entry_at}
use Rattle.pm_call.proofs.EntryLooks.{all_seen, entry_inside, none_seen, see_more}
use Rattle.pm_call.proofs.finishing.look_each.Goals as goal

pub loop-entry-init : goal.loop-entry-init
loop-entry-init g c s seen is are = none_seen (g.M.LaneMem.at c.args.mem.now) s seen is

pub see-found-requires : goal.see-found-requires
see-found-requires g c =
    let r = c.requires in
    let a = c.loop-entry.invariant r.0 r.1 r.2 r.3 in
    λ found.
    g.met.M.LawfulMem.meets c.loop-entry.mem a.view (Load ((entry_at c.args.entries.now c.loop-entry.entry-index).place / 8) found) a.holds.memory
    (entry_inside (moved r.0 a.view) a.holds.stands c.args.entries.now r.3 c.loop-entry.entry-index c.loop-entry-test.true)

pub loop-entry-preserved : goal.loop-entry-preserved
loop-entry-preserved g c s seen is are =
    let a = c.loop-entry.invariant s seen is are in
    let may = g.met.M.LawfulMem.grants a.view (Load ((entry_at c.args.entries.now c.loop-entry.entry-index).place / 8) c.see-found.result)
    (entry_inside (moved s a.view) a.holds.stands c.args.entries.now are c.loop-entry.entry-index c.loop-entry-test.true) in
    see_more (g.M.LaneMem.at c.loop-entry.mem) (g.M.LaneMem.at c.see-found.new.self) (at_work s) c.loop-entry.entry-index c.see-found.result s c.args.entries.now are a c.loop-entry-test.true c.see-found.type_inv
    (c.see-found.ensures.world a.view a.holds.memory may) (c.see-found.ensures.made a.view a.holds.memory may).0

pub returns : goal.returns
returns g c s seen is are = all_seen (g.M.LaneMem.at c.loop-entry.mem) c.loop-entry.entry-index s
    (let e : c.loop-entry.entry-index ≡ length c.args.entries.now = search rules in e ∙ sym (ap length are)) (c.loop-entry.invariant s seen is are)
