use Rattle.std.proofs.Common.{ap, refl}
use Rattle.solo_world.specs.declared.lane.Lane.{Lane}
use Rattle.solo_transaction.proofs.BlockCommits.{freed_in_pool, has_committed, has_ended, has_stopped, has_stopped_ended, lists_few, made_in_pool, may_commit}
use Rattle.solo_transaction.proofs.committing.commit_outer.Goals as goal

pub list_entries-requires-clause-few : goal.list_entries-requires-clause-few
list_entries-requires-clause-few g c = let t = c.requires.at_work in lists_few t.0 g.M.LaneMem.at c.args.lane.now c.args.blocks.now t.1.0 t.1.1.0 t.1.1.1

pub list_entries-requires-clause-freed : goal.list_entries-requires-clause-freed
list_entries-requires-clause-freed g c = let t = c.requires.at_work in freed_in_pool t.0 g.M.LaneMem.at c.args.lane.now c.args.blocks.now t.1.0 t.1.1.0 t.1.1.1

pub list_entries-requires-clause-made : goal.list_entries-requires-clause-made
list_entries-requires-clause-made g c = let t = c.requires.at_work in made_in_pool t.0 g.M.LaneMem.at c.args.lane.now c.args.blocks.now t.1.0 t.1.1.0 t.1.1.1

pub commit_call-requires : goal.commit_call-requires
commit_call-requires g c =
    let t = c.requires.at_work in
    record { may = may_commit t.0 g.M.LaneMem.at c.args.lane.now c.args.blocks.now t.1.0 t.1.1.0 t.1.1.1 c.list_entries.new.lane c.list_entries.ensures.listed c.list_entries.ensures.else_same }

pub returns-in-Ok-clause-committed : goal.returns-in-Ok-clause-committed
returns-in-Ok-clause-committed g c o v is can =
    has_committed o g.M.LaneMem.at c.args.lane.now c.args.blocks.now v is can c.list_entries.new.lane c.list_entries.ensures.listed c.list_entries.ensures.else_same _ c.in-Ok.ensures.ran
    (ap (λ (lane : Lane g.row.M.Denot). lane.locks.items) c.in-Ok.ensures.else_same) c.in-Ok.ensures.none c.in-Ok.ensures.unlisted c.in-Ok.ensures.drawn
    (record { pool = ap (λ (lane : Lane g.row.M.Denot). lane.pool) c.in-Ok.ensures.else_same; shape = ap (λ (lane : Lane g.row.M.Denot). lane.shape) c.in-Ok.ensures.else_same })
    (ap (λ (lane : Lane g.row.M.Denot). lane.stopped) c.in-Ok.ensures.else_same)

pub returns-in-Ok-clause-ended : goal.returns-in-Ok-clause-ended
returns-in-Ok-clause-ended g c o v is can no_block outer =
    has_ended o g.M.LaneMem.at c.args.lane.now c.args.blocks.now v is can c.list_entries.new.lane c.list_entries.ensures.listed c.list_entries.ensures.else_same _ no_block outer c.in-Ok.ensures.ran
    (ap (λ (lane : Lane g.row.M.Denot). lane.locks.items) c.in-Ok.ensures.else_same) c.in-Ok.ensures.none c.in-Ok.ensures.unlisted c.in-Ok.ensures.drawn
    (record { pool = ap (λ (lane : Lane g.row.M.Denot). lane.pool) c.in-Ok.ensures.else_same; shape = ap (λ (lane : Lane g.row.M.Denot). lane.shape) c.in-Ok.ensures.else_same })
    (ap (λ (lane : Lane g.row.M.Denot). lane.stopped) c.in-Ok.ensures.else_same)

pub returns-in-Err-clause-stops : goal.returns-in-Err-clause-stops
returns-in-Err-clause-stops g c o v is can =
    has_stopped o g.M.LaneMem.at c.args.lane.now c.args.blocks.now v is can c.list_entries.new.lane c.list_entries.ensures.listed c.list_entries.ensures.else_same _ c.in-Err.ensures.stops refl

pub returns-in-Err-clause-stops_ended : goal.returns-in-Err-clause-stops_ended
returns-in-Err-clause-stops_ended g c o v is can no_block outer =
    has_stopped_ended o g.M.LaneMem.at c.args.lane.now c.args.blocks.now v is can c.list_entries.new.lane c.list_entries.ensures.listed c.list_entries.ensures.else_same _ no_block outer c.in-Err.ensures.stops refl
