use Rattle.std.proofs.Common.{rules, ◌≡◌, length}
use Rattle.solo_action.proofs.RootSeen.{frees_none, root_among, root_other}
use Rattle.solo_action.proofs.holding.frees_root.Goals as goal

pub returns-then-is_empty-clause-other : goal.returns-then-is_empty-clause-other
returns-then-is_empty-clause-other g c other v there work alone =
    let none : length c.args.frees.now ≡ 0 = search rules in
    frees_none (g.M.LaneMem.at c.args.mem.now) v there c.args.frees.now none

pub returns-clause-other : goal.returns-clause-other
returns-clause-other g c other v there work alone =
    let made = c.load-root.ensures v there in
    root_other v work alone c.load-root.result made.1 made.2 (g.M.LaneMem.at c.load-root.new.self) made.0 c.args.frees.now (rw c.is_among.ensures at other)

pub returns-clause-root : goal.returns-clause-root
returns-clause-root g c among v there work alone =
    let made = c.load-root.ensures v there in
    root_among v work alone c.load-root.result made.1 made.2 (g.M.LaneMem.at c.load-root.new.self) made.0 c.args.frees.now (rw c.is_among.ensures at among)
