use Rattle.std.proofs.Common.{◌≡◌, ℕ, Ok, Err, refl, sym, ap, ◌∙◌}
use Rattle.pm_objects.specs.declared.refusal.Refusal.TheVariants as refusal
use Rattle.pm_text.specs.declared.report.LaneEnd.TheVariants as end
use Rattle.pm_call.specs.Positions.{Position}
use Rattle.pm_exec.proofs.LaneCalls.{closed, going_ok, stopped_err}
use Rattle.pm_exec.proofs.Spent.{spent_closed}
use Rattle.pm_exec.proofs.running.close.Goals as goal

pub finish-requires : goal.finish-requires
finish-requires g c going =
    (c.requires.1.between going (ap (λ (p : Position). p.level) (c.requires.2 going))).0

pub returns-in-Ok-clause-closed : goal.returns-in-Ok-clause-closed
returns-in-Ok-clause-closed g c h stands here =
    closed g.M.LaneMem.at c.args.lane.now c.finish.new.lane c.finish.result c.finish.ensures c.finished_lanes_have_facts.ensures h stands here
    c.args.end c.args.end (λ going. refl)
    (λ is v seen. absurd (let clash : Ok tt ≡ Err refusal.Stopped =
    sym c.in-Ok.is ∙ stopped_err g.M.LaneMem.at c.args.lane.now c.finish.new.lane c.finish.result c.finish.ensures is in cc))

pub returns-in-Err-clause-closed : goal.returns-in-Err-clause-closed
returns-in-Err-clause-closed g c h stands here =
    closed g.M.LaneMem.at c.args.lane.now c.finish.new.lane c.finish.result c.finish.ensures c.finished_lanes_have_facts.ensures h stands here
    c.args.end (end.Stopped c.calls.result)
    (λ going. absurd (let clash : Ok tt ≡ Err _ =
    sym (going_ok g.M.LaneMem.at c.args.lane.now c.finish.new.lane c.finish.result c.finish.ensures going) ∙ c.in-Err.is in cc))
    (λ is v seen. ap (λ (k : ℕ). end.Stopped k) (c.calls.ensures v seen))

pub returns-in-Ok-clause-spent : goal.returns-in-Ok-clause-spent
returns-in-Ok-clause-spent g c h is =
    (spent_closed g.M.LaneMem.at c.args.lane.now c.finish.new.lane c.finish.result c.finish.ensures h is, refl)

pub returns-in-Err-clause-spent : goal.returns-in-Err-clause-spent
returns-in-Err-clause-spent g c h is =
    absurd (let clash : Ok tt ≡ Err _ =
    sym (going_ok g.M.LaneMem.at c.args.lane.now c.finish.new.lane c.finish.result c.finish.ensures
    (ap (λ (p : Position). p.stopped) is.here)) ∙ c.in-Err.is in cc)
