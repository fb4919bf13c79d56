use Rattle.pm_call.proofs.WriteLanes.{word_look, word_runs, word_store}
use Rattle.pm_call.proofs.writing.write_word.Goals as goal

pub look-x-requires : goal.look-x-requires
look-x-requires g c = word_look (g.M.LaneMem.at c.args.mem.now) c.args.place c.args.bytes.now c.args.word c.requires.ready

pub store-requires : goal.store-requires
store-requires g c = word_store (g.M.LaneMem.at c.args.mem.now) (g.M.LaneMem.at c.look-x.new.mem) c.args.place c.args.bytes.now c.args.word c.look-x.result c.patched_word.result c.patched_word.ensures c.look-x.ensures.made c.look-x.ensures.found c.requires.ready

pub returns : goal.returns
returns g c = word_runs (g.M.LaneMem.at c.args.mem.now) (g.M.LaneMem.at c.look-x.new.mem) c.args.place c.args.bytes.now c.args.word c.look-x.result c.patched_word.result c.patched_word.ensures c.look-x.ensures.made c.look-x.ensures.found
    (g.M.LaneMem.at c.store.new.mem) c.store.result c.store.ensures
