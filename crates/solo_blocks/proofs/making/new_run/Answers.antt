use Rattle.std.proofs.Common.{◌≡◌, ◌<◌, sym, ap, subst}
use Rattle.solo_blocks.proofs.Classes.{class_has}
use Rattle.solo_blocks.proofs.Onward.{another, another_view}
use Rattle.solo_blocks.proofs.StillMay.{goes_on}
use Rattle.solo_blocks.proofs.Taking.{below, first_so, has_new, has_stopped, if_err, is_chunk, is_ready, made_so, zone_inside}
use Rattle.solo_blocks.specs.declared.making.NoBlock.{NoBlock}
use Rattle.solo_blocks.specs.NewRuns.{GivesNone}
use Rattle.solo_blocks.proofs.making.new_run.Goals as goal

pub make_run-requires-clause-zone : goal.make_run-requires-clause-zone
make_run-requires-clause-zone g c =
    let v = c.requires.may.0 in
    let may = c.requires.may.1.1 in
    let old = c.args.lane.now in
    let mid = c.reserve_chunks.new.lane in
    let at = g.M.LaneMem.at mid.memory in
    let chunk = c.in_ok-chunk.chunk in
    let got = c.in_ok-chunk.ensures.ends v c.requires.may.1.0 may.search in
    let least = c.in_ok-chunk.ensures.least v c.requires.may.1.0 may.search may.alone in
    let same : mid.shape ≡ old.shape = ap (λ l. l.shape) c.reserve_chunks.ensures.else_same in
    let low = below v old.shape may c.args.lines (class_has c.args.lines c.requires.class) at chunk got least in
    let is = is_chunk v old.shape may c.args.lines (class_has c.args.lines c.requires.class) at chunk got least mid.shape same in
    subst (λ z. z < mid.shape.zones) (sym (c.run_of-run.ensures.zone got.zone got.first low is)) (zone_inside v old.shape may c.args.lines (class_has c.args.lines c.requires.class) at chunk got least mid.shape same)

pub make_run-requires-clause-ready : goal.make_run-requires-clause-ready
make_run-requires-clause-ready g c =
    let v = c.requires.may.0 in
    let may = c.requires.may.1.1 in
    let old = c.args.lane.now in
    let mid = c.reserve_chunks.new.lane in
    let at = g.M.LaneMem.at mid.memory in
    let chunk = c.in_ok-chunk.chunk in
    let got = c.in_ok-chunk.ensures.ends v c.requires.may.1.0 may.search in
    let least = c.in_ok-chunk.ensures.least v c.requires.may.1.0 may.search may.alone in
    let same : mid.shape ≡ old.shape = ap (λ l. l.shape) c.reserve_chunks.ensures.else_same in
    let low = below v old.shape may c.args.lines (class_has c.args.lines c.requires.class) at chunk got least in
    let is = is_chunk v old.shape may c.args.lines (class_has c.args.lines c.requires.class) at chunk got least mid.shape same in
    let run = c.run_of-run.result in
    is_ready v old.shape may c.args.lines (class_has c.args.lines c.requires.class) at chunk got least _
    (made_so v old.shape may c.args.lines (class_has c.args.lines c.requires.class) at chunk got least mid.shape same run.zone run.chunk run.lines
    (c.run_of-run.ensures.zone got.zone got.first low is) (c.run_of-run.ensures.chunk got.zone got.first low is) c.run_of-run.ensures.lines)

pub returns-in_err-make_run-clause-none : goal.returns-in_err-make_run-clause-none
returns-in_err-make_run-clause-none g c =
    if_err _ _ c.from_residual-in_err-make_run.result c.from_residual-in_err-make_run.ensures.1 (λ why is v there may.
    let old = c.args.lane.now in
    let mid = c.reserve_chunks.new.lane in
    let at = g.M.LaneMem.at mid.memory in
    let new = g.M.LaneMem.at c.make_run.new.mem in
    let chunk = c.in_ok-chunk.chunk in
    let got = c.in_ok-chunk.ensures.ends v there may.search in
    let least = c.in_ok-chunk.ensures.least v there may.search may.alone in
    let same : mid.shape ≡ old.shape = ap (λ l. l.shape) c.reserve_chunks.ensures.else_same in
    let low = below v old.shape may c.args.lines (class_has c.args.lines c.requires.class) at chunk got least in
    let here = is_chunk v old.shape may c.args.lines (class_has c.args.lines c.requires.class) at chunk got least mid.shape same in
    let run = c.run_of-run.result in
    let stopped = c.in_err-make_run.field-0.0 in
    subst (λ (e : NoBlock). GivesNone new v c.args.lines e) (sym is)
    (has_stopped v old.shape may c.args.lines (class_has c.args.lines c.requires.class) at chunk got least _
    (made_so v old.shape may c.args.lines (class_has c.args.lines c.requires.class) at chunk got least mid.shape same run.zone run.chunk run.lines
    (c.run_of-run.ensures.zone got.zone got.first low here) (c.run_of-run.ensures.chunk got.zone got.first low here) c.run_of-run.ensures.lines)
    new stopped c.in_err-make_run.ensures))

pub returns-clause-got : goal.returns-clause-got
returns-clause-got g c v there may =
    let old = c.args.lane.now in
    let mid = c.reserve_chunks.new.lane in
    let at = g.M.LaneMem.at mid.memory in
    let new = g.M.LaneMem.at c.make_run.new.mem in
    let chunk = c.in_ok-chunk.chunk in
    let got = c.in_ok-chunk.ensures.ends v there may.search in
    let least = c.in_ok-chunk.ensures.least v there may.search may.alone in
    let same : mid.shape ≡ old.shape = ap (λ l. l.shape) c.reserve_chunks.ensures.else_same in
    let low = below v old.shape may c.args.lines (class_has c.args.lines c.requires.class) at chunk got least in
    let is = is_chunk v old.shape may c.args.lines (class_has c.args.lines c.requires.class) at chunk got least mid.shape same in
    let run = c.run_of-run.result in
    has_new v old.shape may c.args.lines (class_has c.args.lines c.requires.class) at chunk got least _
    (made_so v old.shape may c.args.lines (class_has c.args.lines c.requires.class) at chunk got least mid.shape same run.zone run.chunk run.lines
    (c.run_of-run.ensures.zone got.zone got.first low is) (c.run_of-run.ensures.chunk got.zone got.first low is) c.run_of-run.ensures.lines)
    new c.in_ok-make_run.ensures _ (first_so v old.shape may c.args.lines (class_has c.args.lines c.requires.class) at chunk got least)

pub returns-clause-next : goal.returns-clause-next
returns-clause-next g c v there may =
    let new = g.M.LaneMem.at c.make_run.new.mem in
    let run = returns-clause-got g c v there may in
    let shape = c.args.lane.now.shape in
    (another_view v shape may new c.args.lines _ run, (run.made.there, another v shape may new c.args.lines _ run))

pub returns-in_err-chunk-clause-next : goal.returns-in_err-chunk-clause-next
returns-in_err-chunk-clause-next g c v there may =
    goes_on v c.args.lane.now.shape may (g.M.LaneMem.at c.reserve_chunks.new.lane.memory) 1 c.in_err-chunk.field-0.0 c.from_residual.result c.from_residual.ensures.1
    (c.in_err-chunk.ensures.ends v there may.search) (c.in_err-chunk.ensures.least v there may.search may.alone)
