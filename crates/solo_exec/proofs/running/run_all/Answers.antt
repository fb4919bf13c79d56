use Rattle.solo_exec.proofs.running.run_all.Goals as goal

pub close_run-requires : goal.close_run-requires
close_run-requires c = record { run = (let r = c.requires.start in (r.0, (r.1.0, (_, (_, (_, c.in_ok-halt.ensures.made r.0 r.1.0 r.1.1)))))) }

pub returns-clause-made : goal.returns-clause-made
returns-clause-made c o first may = c.close_run.ensures.closed o first _ _ _ (c.in_ok-halt.ensures.made o first may)
