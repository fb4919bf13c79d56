use Rattle.std.proofs.Common.{sym, ap, subst, ◌+◌, ◌*◌}
use Rattle.solo_view.specs.Steps.Step.{Load}
use Rattle.solo_world.specs.Sequences.{IsReady, Runs, with_word}
use Rattle.solo_world.proofs.Sequencing.{word_allowed, word_ready, word_runs}
use Rattle.solo_world.specs.Sequences.{stores}
use Rattle.solo_undo.specs.Sequences.{restores_word}
use Rattle.solo_undo.proofs.restoring.restore_word.Goals as goal

pub load-old-requires : goal.load-old-requires
unfolding restores_word
load-old-requires g c found =
    let r = word_allowed (g.M.LaneMem.at c.args.mem.now) (8 * c.slot_line.result + 3 + c.args.i) (λ x. stores (c.args.word + c.args.i) x) (subst (λ w. IsReady (g.M.LaneMem.at c.args.mem.now) (with_word w (λ x. stores (c.args.word + c.args.i) x))) (ap (λ line. 8 * line + 3 + c.args.i) (sym c.slot_line.ensures)) c.requires.ready) in
    g.met.M.LawfulMem.meets c.args.mem.now r.0 (Load (8 * c.slot_line.result + 3 + c.args.i) found) r.1.0 (r.1.1 found)

pub store-requires : goal.store-requires
unfolding restores_word
store-requires g c =
    word_ready (g.M.LaneMem.at c.args.mem.now) (8 * c.slot_line.result + 3 + c.args.i) (λ x. stores (c.args.word + c.args.i) x) (g.M.LaneMem.at c.load-old.new.self) c.load-old.result c.load-old.ensures
    (subst (λ w. IsReady (g.M.LaneMem.at c.args.mem.now) (with_word w (λ x. stores (c.args.word + c.args.i) x))) (ap (λ line. 8 * line + 3 + c.args.i) (sym c.slot_line.ensures)) c.requires.ready)

pub returns : goal.returns
unfolding restores_word
returns g c =
    subst (λ w. Runs (g.M.LaneMem.at c.args.mem.now) (g.M.LaneMem.at c.store.new.mem) (with_word w (λ x. stores (c.args.word + c.args.i) x)) c.store.result) (sym (ap (λ line. 8 * line + 3 + c.args.i) (sym c.slot_line.ensures)))
    (word_runs (g.M.LaneMem.at c.args.mem.now) (8 * c.slot_line.result + 3 + c.args.i) (λ x. stores (c.args.word + c.args.i) x) (g.M.LaneMem.at c.load-old.new.self) c.load-old.result c.load-old.ensures (g.M.LaneMem.at c.store.new.mem) c.store.result c.store.ensures)
