use Rattle.std.proofs.Common.{◌≡◌, ◌≤◌, ℕ, ◌++◌, List, [], ◌∷◌, length, Some, None, refl, sym, ap, ◌∙◌, subst, arith, append_assoc, vec_capacity}
use Rattle.pm_calls.specs.declared.lanes.LaneRoom.{LaneRoom}
use Rattle.pm_text.specs.declared.report.LaneEnd.TheVariants as end
use Rattle.pm_exec.specs.Reports.{AreWorksOf}
use Rattle.pm_exec.specs.declared.work.LaneWork.{LaneWork}
use Rattle.pm_exec.proofs.LaneWorks.{one_more_of}
use Rattle.pm_exec.proofs.executing.works_of.Goals as goal

pub loop-room-preserved : goal.loop-room-preserved
loop-room-preserved g c =
    let i = c.loop-room.invariant in
    let yielded = c.loop-room.yielded in
    let room : LaneRoom = c.in-Some.room in
    let rest = c.next.new.self.rest.items in
    let works = c.loop-room.works.items in
    let number : ℕ = c.len-in-loop-room-2.result in
    let at : number ≡ length works = let e = c.len-in-loop-room-2.ensures in let o = c.loop-room.works.ok.0 in omega (arith, e, o) in
    let enough : length room.calls.items ≤ vec_capacity c.in_ok-answers.answers =
    let e = c.len-in-loop-room.ensures in
    let o = room.calls.ok.0 in
    let x = c.in_ok-answers.ensures.exact in
    omega (arith, e, o, x) in
    let work : LaneWork g.row.G.Denot = record {
      number = number;
      names = c.args.names;
      gate = c.args.gate;
      calls = Some room.calls;
      answers = c.in_ok-answers.answers;
      unanswered = None;
      end = end.Ended;
    } in
    record {
      all = append_assoc yielded (room ∷ []) rest ∙ (ap (λ (l : List LaneRoom). yielded ++ l) (sym c.in-Some.ensures.steps.0) ∙ i.all);
      made = subst (λ (l : List (LaneWork g.row.G.Denot)). AreWorksOf c.args.names (yielded ++ room ∷ []) l) (sym c.in_ok-push.ensures.items)
          (one_more_of c.args.names yielded works room work
          (record { number = at; names_are = refl; calls = refl; none = c.in_ok-answers.ensures.items; room_is = enough }) i.made);
    }
