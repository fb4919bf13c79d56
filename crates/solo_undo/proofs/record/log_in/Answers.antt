use Rattle.std.proofs.Common.{sym, subst}
use Rattle.solo_view.specs.Steps.Step.{Load}
use Rattle.solo_world.specs.Sequences.{IsReady, Runs, with_word}
use Rattle.solo_world.proofs.Sequencing.{word_allowed, word_ready, word_runs}
use Rattle.solo_undo.specs.Sequences.{writes_all}
use Rattle.solo_undo.proofs.record.log_in.Goals as goal

pub load-generation-requires : goal.load-generation-requires
load-generation-requires g c found =
    let r = word_allowed (g.M.LaneMem.at c.args.mem.now) c.area_word.result (writes_all c.args.slot c.args.spans.now c.args.lane) (subst (λ w. IsReady (g.M.LaneMem.at c.args.mem.now) (with_word w (writes_all c.args.slot c.args.spans.now c.args.lane))) (sym c.area_word.ensures) c.requires.ready) in
    g.met.M.LawfulMem.meets c.args.mem.now r.0 (Load c.area_word.result found) r.1.0 (r.1.1 found)

pub write_all-requires-clause-ready : goal.write_all-requires-clause-ready
write_all-requires-clause-ready g c =
    word_ready (g.M.LaneMem.at c.args.mem.now) c.area_word.result (writes_all c.args.slot c.args.spans.now c.args.lane) (g.M.LaneMem.at c.load-generation.new.self) c.load-generation.result c.load-generation.ensures
    (subst (λ w. IsReady (g.M.LaneMem.at c.args.mem.now) (with_word w (writes_all c.args.slot c.args.spans.now c.args.lane))) (sym c.area_word.ensures) c.requires.ready)

pub returns : goal.returns
returns g c =
    subst (λ w. Runs (g.M.LaneMem.at c.args.mem.now) (g.M.LaneMem.at c.write_all.new.mem) (with_word w (writes_all c.args.slot c.args.spans.now c.args.lane)) c.write_all.result) (sym (sym c.area_word.ensures))
    (word_runs (g.M.LaneMem.at c.args.mem.now) c.area_word.result (writes_all c.args.slot c.args.spans.now c.args.lane) (g.M.LaneMem.at c.load-generation.new.self) c.load-generation.result c.load-generation.ensures (g.M.LaneMem.at c.write_all.new.mem) c.write_all.result c.write_all.ensures)
