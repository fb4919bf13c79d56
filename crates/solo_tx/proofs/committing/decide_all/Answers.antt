use Rattle.std.proofs.Common.{List, inr, sym, subst, ◌∙◌, ap, rules}
use Rattle.pm_record.specs.declared.redo.Redo.{Redo}
use Rattle.solo_world.specs.Sequences.{Runs, Sequence}
use Rattle.solo_tx.specs.Ending.{IsDecidable, StopsEnded}
use Rattle.solo_tx.specs.Sequences.{decides_all}
use Rattle.solo_tx.proofs.Committed.{on_err_so}
use Rattle.solo_tx.proofs.Deciding.{decides_none, decides_some, may_publish, none_listed, published_stops}
use Rattle.solo_tx.proofs.committing.decide_all.Goals as goal

pub decide-requires : goal.decide-requires
decide-requires g c =
    record { decidable = subst (λ (entries : List Redo). IsDecidable (g.M.LaneMem.at c.args.lane.now.memory) c.args.lane.now.records.items entries) (none_listed c.args.lane.now.entries.items (search rules)) c.requires.decidable }

pub publish_log-requires : goal.publish_log-requires
publish_log-requires g c =
    let can = c.requires.decidable in
    record { may = (can.0, (can.1.0, may_publish c.args.lane.now.records.items can.0 c.args.lane.now.entries.items (search rules) can.1.1)) }

pub returns-then-is_empty-clause-ran : goal.returns-then-is_empty-clause-ran
returns-then-is_empty-clause-ran g c =
    let n = c.decide.new.lane.last in
    let spans = c.args.lane.now.records.items in
    subst (λ (s : Sequence). Runs (g.M.LaneMem.at c.args.lane.now.memory) (g.M.LaneMem.at c.decide.new.lane.memory) s c.decide.result)
    (sym (ap (λ (entries : List Redo). decides_all spans entries n) (none_listed c.args.lane.now.entries.items (search rules)) ∙ decides_none spans n)) c.decide.ensures.ran

pub returns-else-is_empty-clause-ran : goal.returns-else-is_empty-clause-ran
returns-else-is_empty-clause-ran g c =
    subst (λ (s : Sequence). Runs (g.M.LaneMem.at c.args.lane.now.memory) (g.M.LaneMem.at c.publish_log.new.lane.memory) s c.publish_log.result)
    (sym (decides_some c.args.lane.now.records.items c.args.lane.now.entries.items c.publish_log.new.lane.last (search rules))) c.publish_log.ensures.ran

pub returns-then-is_empty-clause-stops : goal.returns-then-is_empty-clause-stops
returns-then-is_empty-clause-stops g c =
    let old = g.M.LaneMem.at c.args.lane.now.memory in
    let new = g.M.LaneMem.at c.decide.new.lane.memory in
    on_err_so _ _ c.decide.result
    (λ stops. inr (c.decide.ensures.drawn, subst (λ (entries : List Redo). StopsEnded old new c.args.lane.now.records.items entries c.decide.new.lane.last) (sym (none_listed c.args.lane.now.entries.items (search rules))) stops))
    c.decide.ensures.stops

pub returns-else-is_empty-clause-stops : goal.returns-else-is_empty-clause-stops
returns-else-is_empty-clause-stops g c =
    let old = g.M.LaneMem.at c.args.lane.now.memory in
    let new = g.M.LaneMem.at c.publish_log.new.lane.memory in
    on_err_so _ _ c.publish_log.result (published_stops c.args.lane.now.records.items _ _ old new c.args.lane.now.entries.items c.publish_log.new.lane.last (search rules)) c.publish_log.ensures.stops
