use Rattle.std.proofs.Common.{◌++◌}
use Rattle.solo_action.proofs.WorkingFurther.{works_further}
use Rattle.solo_action.proofs.laws.a_lane_alone_rests_behind_its_publish.Goals as goal

pub returns : goal.returns
returns g c = record {
  sets = λ o header pool start v steps lane actions works was. was.keeps o header pool start (steps ++ was.led.steps) (works_further o header pool start v was.holding steps works was.led was.counts);
  all = λ o header pool start v steps lane pending blocks works was. was.done.keeps o header pool start (steps ++ was.led.steps) (works_further o header pool start v was.holding steps works was.led was.counts);
  begins = λ o header pool start v steps lane pending blocks works was. was.done.begins o header pool start (steps ++ was.led.steps) (works_further o header pool start v was.holding steps works was.led was.counts);
  logs = λ o header pool start v steps lane pending blocks works was. was.done.logs o header pool start (steps ++ was.led.steps) (works_further o header pool start v was.holding steps works was.led was.counts);
  stops = λ o header pool start v steps lane pending blocks works was. was.stops.logs o header pool start (steps ++ was.led.steps) (works_further o header pool start v was.holding steps works was.led was.counts);
}
