use Rattle.pm_crash.proofs.SceneSteps as scenes
use Rattle.pm_crash.proofs.scenes.scenes_go_on.Goals as goal

pub returns-clause-begins : goal.returns-clause-begins
returns-clause-begins _ = scenes.scenes_begin

pub returns-clause-reads : goal.returns-clause-reads
returns-clause-reads _ = scenes.scenes_are_read

pub returns-clause-writes : goal.returns-clause-writes
returns-clause-writes _ = scenes.scenes_are_written

pub returns-clause-loses : goal.returns-clause-loses
returns-clause-loses _ = scenes.scenes_lose

pub returns-clause-gains : goal.returns-clause-gains
returns-clause-gains _ = scenes.scenes_gain

pub returns-clause-ends : goal.returns-clause-ends
returns-clause-ends _ = scenes.scenes_end
