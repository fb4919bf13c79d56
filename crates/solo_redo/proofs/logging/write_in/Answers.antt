use Rattle.std.proofs.Common.{◌≡◌, List, ◌++◌, [], ◌∷◌, sym, ap, ◌∙◌, subst}
use Rattle.solo_view.specs.Steps.Step.{Load}
use Rattle.solo_world.specs.Sequences.{IsReady, Runs, with_word}
use Rattle.solo_world.proofs.Sequencing.{word_allowed, word_ready, word_runs}
use Rattle.pm_record.specs.declared.redo.Redo.{Redo}
use Rattle.solo_redo.specs.Sequences.{ending_of, writes_entries, writes_log}
use Rattle.solo_redo.proofs.logging.write_in.Goals as goal

pub load-generation-requires : goal.load-generation-requires
load-generation-requires g c found =
    let r = word_allowed (g.M.LaneMem.at c.args.mem.now) c.area_word.result (writes_log c.args.entries.now.items c.args.lane) (subst (λ w. IsReady (g.M.LaneMem.at c.args.mem.now) (with_word w (writes_log c.args.entries.now.items c.args.lane))) (sym c.area_word.ensures) c.requires.ready) in
    g.met.M.LawfulMem.meets c.args.mem.now r.0 (Load c.area_word.result found) r.1.0 (r.1.1 found)

-- what is stored is what was listed, and the entry that ends the generation that was found
pub write_entries-requires-clause-ready : goal.write_entries-requires-clause-ready
write_entries-requires-clause-ready g c =
    let listed : c.as_slice.result.now ≡ c.args.entries.now.items ++ ending_of c.args.lane c.load-generation.result ∷ [] =
    c.as_slice.ensures.value ∙ c.push.ensures.items ∙ ap (λ (e : Redo). c.args.entries.now.items ++ e ∷ []) c.ending.ensures in
    subst (λ (es : List Redo). IsReady (g.M.LaneMem.at c.load-generation.new.self) (writes_entries c.args.lane es)) (sym listed)
    (word_ready (g.M.LaneMem.at c.args.mem.now) c.area_word.result (writes_log c.args.entries.now.items c.args.lane) (g.M.LaneMem.at c.load-generation.new.self) c.load-generation.result c.load-generation.ensures
    (subst (λ w. IsReady (g.M.LaneMem.at c.args.mem.now) (with_word w (writes_log c.args.entries.now.items c.args.lane))) (sym c.area_word.ensures) c.requires.ready))

pub returns-clause-ran : goal.returns-clause-ran
returns-clause-ran g c =
    let listed : c.as_slice.result.now ≡ c.args.entries.now.items ++ ending_of c.args.lane c.load-generation.result ∷ [] =
    c.as_slice.ensures.value ∙ c.push.ensures.items ∙ ap (λ (e : Redo). c.args.entries.now.items ++ e ∷ []) c.ending.ensures in
    subst (λ w. Runs (g.M.LaneMem.at c.args.mem.now) (g.M.LaneMem.at c.write_entries.new.mem) (with_word w (writes_log c.args.entries.now.items c.args.lane)) c.write_entries.result) c.area_word.ensures
    (word_runs (g.M.LaneMem.at c.args.mem.now) c.area_word.result (writes_log c.args.entries.now.items c.args.lane) (g.M.LaneMem.at c.load-generation.new.self) c.load-generation.result c.load-generation.ensures (g.M.LaneMem.at c.write_entries.new.mem) c.write_entries.result
    (subst (λ (es : List Redo). Runs (g.M.LaneMem.at c.load-generation.new.self) (g.M.LaneMem.at c.write_entries.new.mem) (writes_entries c.args.lane es) c.write_entries.result) listed c.write_entries.ensures))
