use Rattle.std.proofs.Common.{refl}
use Rattle.solo_exec.proofs.ClosedRuns.{closed_cut, closed_done, closed_stopped, given_still, may_close}
use Rattle.solo_exec.proofs.running.close_run.Goals as goal

pub returns-in-Stopped-clause-closed : goal.returns-in-Stopped-clause-closed
returns-in-Stopped-clause-closed c o first names calls history run = closed_stopped o first c.args.lane.now c.args.pending.now names calls history c.args.halt c.in-Stopped.field-0 c.in-Stopped.is c.args.lane.now refl run

pub finish-requires : goal.finish-requires
finish-requires c = record {
  rests =
      let r = c.requires.run in
      let t = r.1.1.1.1 in
      let m = may_close r.0 r.1.0 c.args.lane.now c.args.pending.now r.1.1.0 r.1.1.1.0 t.0 c.args.halt c.in_default.not-Stopped t.1 in (m.view, (m.rests, m.pending));
}

pub returns-in-Ok : goal.returns-in-Ok
returns-in-Ok c = record {
  closed = λ o first names calls history run.
      let old = c.args.lane.now in
      let pending = c.args.pending.now in
      let m = may_close o first old pending names calls history c.args.halt c.in_default.not-Stopped run in
      closed_done o first old pending names calls history c.args.halt m c.finish.new.lane (c.in-Ok.ensures.done m.view m.rests m.pending);
  gave = λ history given are. are;
}

pub returns-in-Err : goal.returns-in-Err
returns-in-Err c = record {
  closed = λ o first names calls history run.
      let old = c.args.lane.now in
      let pending = c.args.pending.now in
      let m = may_close o first old pending names calls history c.args.halt c.in_default.not-Stopped run in
      closed_cut o first old pending names calls history c.args.halt m c.finish.new.lane (c.in-Err.ensures.stops m.view m.rests m.pending) c.calls.result c.calls.ensures _ refl refl;
  gave = λ history given are. given_still history given c.args.halt _ c.calls.result refl refl are;
}
