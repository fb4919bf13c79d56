use Rattle.pm_crash.proofs.Written as written
use Rattle.pm_crash.proofs.writes.bytes_stand_in_words.Goals as goal

pub returns-clause-reads : goal.returns-clause-reads
returns-clause-reads _ = written.reads_find

pub returns-clause-writes : goal.returns-clause-writes
returns-clause-writes _ = written.writes_put
