use Rattle.std.proofs.Common.{◌≡◌, length, rules, subst, Ok}
use Rattle.solo_world.proofs.Sequencing.{counted_none, counted_next, counted_more, counted_err}
use Rattle.solo_world.specs.Sequences.{Runs, counted}
use Rattle.solo_redo.specs.Sequences.{applies_each, applies_entry, entry_at}
use Rattle.solo_redo.proofs.applying.apply_each.Goals as goal

pub loop-entry-init : goal.loop-entry-init
loop-entry-init g c = counted_none (g.M.LaneMem.at c.args.mem.now) (λ i. applies_entry (entry_at c.args.entries.now i))

pub apply-requires : goal.apply-requires
unfolding applies_each
apply-requires g c =
    counted_next (g.M.LaneMem.at c.args.mem.now) (λ i. applies_entry (entry_at c.args.entries.now i)) (length c.args.entries.now) c.loop-entry.entry-index (g.M.LaneMem.at c.loop-entry.mem) tt c.loop-entry-test.true c.requires.ready c.loop-entry.invariant

pub returns-in_err-apply : goal.returns-in_err-apply
unfolding applies_each
returns-in_err-apply g c =
    counted_err (g.M.LaneMem.at c.args.mem.now) (λ i. applies_entry (entry_at c.args.entries.now i)) (Unit {0}) (Unit {0}) (length c.args.entries.now) c.loop-entry.entry-index (g.M.LaneMem.at c.loop-entry.mem) (g.M.LaneMem.at c.apply.new.mem) tt
    c.in_err-apply.field-0.0 c.from_residual.result c.loop-entry-test.true c.loop-entry.invariant c.in_err-apply.ensures c.from_residual.ensures.0

pub loop-entry-preserved : goal.loop-entry-preserved
loop-entry-preserved g c =
    counted_more (g.M.LaneMem.at c.args.mem.now) (λ i. applies_entry (entry_at c.args.entries.now i)) c.loop-entry.entry-index (g.M.LaneMem.at c.loop-entry.mem) (g.M.LaneMem.at c.apply.new.mem) tt tt c.loop-entry.invariant c.in_ok-apply.ensures

pub returns : goal.returns
unfolding applies_each
returns g c =
    subst (λ n. Runs {T = Unit {0}} (g.M.LaneMem.at c.args.mem.now) (g.M.LaneMem.at c.loop-entry.mem) (counted (λ i. applies_entry (entry_at c.args.entries.now i)) n) (Ok tt))
    (let e : c.loop-entry.entry-index ≡ (length c.args.entries.now) = search rules in e) c.loop-entry.invariant
