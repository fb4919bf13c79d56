use Rattle.solo_transaction.proofs.BlocksAtWork.{may_publish_blocks}
use Rattle.solo_memory.specs.Solo.{Sees}
use Rattle.solo_script.specs.declared.script.ScriptOp.TheVariants as op
use Rattle.solo_transaction.specs.Committing.{MayPublishBlocks}
use Rattle.solo_exec.proofs.AddAndWrite.{unrefused, works_here}
use Rattle.solo_exec.proofs.CommitLine.{commit_cut, committed}
use Rattle.solo_exec.proofs.lines.commit_all.Goals as goal

pub commit-requires : goal.commit-requires
commit-requires c = record {
  at_work = λ open_.
      let t = c.requires.at_work in
      let a = t.1.1.3 in
      let works = works_here t.1.1.0 t.1.1.1 c.args.lane.now c.args.blocks.now t.0 c.args.names t.1.1.2 t.1.0 a c.args.lane.now (record { line = 0; lane = 0; operation = op.Commit }) in
      (t.1.1.0, (a.view, (a.works, may_publish_blocks t.1.1.0 Sees c.args.lane.now c.args.blocks.now a.header a.pool t.1.1.1 a.view a.steps works a.works)));
}

pub returns-in-Ok : goal.returns-in-Ok
returns-in-Ok c o first actions front values said a commits =
    let old = c.args.lane.now in
    let blocks = c.args.blocks.now in
    let new = c.commit.new.lane in
    let may : MayPublishBlocks a.view blocks = may_publish_blocks o Sees old blocks a.header a.pool first a.view a.steps (works_here o first old blocks actions c.args.names front values a new said) a.works in
    let e = c.in-Ok.ensures in
    committed o first old blocks actions c.args.names front values a new said commits may (e.committed o a.view a.works may a.level) (λ none. e.ended o a.view a.works may none a.level) (e.lane a.level)

pub returns-in-Err : goal.returns-in-Err
returns-in-Err c o first actions front values said a commits =
    let old = c.args.lane.now in
    let blocks = c.args.blocks.now in
    let new = c.commit.new.lane in
    let may : MayPublishBlocks a.view blocks = may_publish_blocks o Sees old blocks a.header a.pool first a.view a.steps (works_here o first old blocks actions c.args.names front values a new said) a.works in
    let open_ = unrefused old a.works.work.unstopped a.level a.works.work.works in
    let e = c.in-Err.ensures in
    commit_cut o first old blocks actions c.args.names front values a new said commits may (e.stops open_ o a.view a.works may) (λ none. e.stops_ended open_ o a.view a.works may none)
