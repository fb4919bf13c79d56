use Rattle.pm_run.proofs.job.Job.run.Goals as goal

pub run-requires : goal.run-requires
run-requires g c = record {
  work = c.requires.0;
  lane = (c.args.self.now.number, c.requires.1);
}

pub returns : goal.returns
returns g c = let x = c.run.ensures c.args.self.now.number c.requires.1 in record {
  view = x.0.view;
  seen = x.0.seen;
  facts = x.0.facts;
  lane_is = x.1;
  work_says = x.2;
}
