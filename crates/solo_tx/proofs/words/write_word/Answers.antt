use Rattle.std.proofs.Common.{sym, subst}
use Rattle.solo_crash.specs.Writes.{written_word}
use Rattle.solo_view.specs.Steps.Step.{Load}
use Rattle.solo_world.specs.Sequences.{IsReady, Runs, stores}
use Rattle.solo_world.proofs.Sequencing.{word_allowed, word_ready, word_runs}
use Rattle.solo_tx.specs.Sequences.{writes_word}
use Rattle.solo_tx.proofs.words.write_word.Goals as goal

pub load-x-requires : goal.load-x-requires
unfolding writes_word
load-x-requires g c found =
    let r = word_allowed (g.M.LaneMem.at c.args.mem.now) c.args.word (λ x. stores c.args.word (written_word c.args.place c.args.bytes.now c.args.word x)) c.requires.ready in
    g.met.M.LawfulMem.meets c.args.mem.now r.0 (Load c.args.word found) r.1.0 (r.1.1 found)

pub store-requires : goal.store-requires
unfolding writes_word
store-requires g c =
    subst (λ x. IsReady (g.M.LaneMem.at c.load-x.new.self) (stores c.args.word x)) (sym c.patched_word.ensures)
    (word_ready (g.M.LaneMem.at c.args.mem.now) c.args.word (λ x. stores c.args.word (written_word c.args.place c.args.bytes.now c.args.word x)) (g.M.LaneMem.at c.load-x.new.self) c.load-x.result c.load-x.ensures
    c.requires.ready)

pub returns : goal.returns
unfolding writes_word
returns g c =
    word_runs (g.M.LaneMem.at c.args.mem.now) c.args.word (λ x. stores c.args.word (written_word c.args.place c.args.bytes.now c.args.word x)) (g.M.LaneMem.at c.load-x.new.self) c.load-x.result c.load-x.ensures
    (g.M.LaneMem.at c.store.new.mem) c.store.result
    (subst (λ x. Runs (g.M.LaneMem.at c.load-x.new.self) (g.M.LaneMem.at c.store.new.mem) (stores c.args.word x) c.store.result) c.patched_word.ensures c.store.ensures)
