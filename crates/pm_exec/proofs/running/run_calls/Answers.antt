use Rattle.std.proofs.Common.{◌≡◌, ℕ, ◌++◌, List, [], ◌∷◌, length, map, refl, sym, ap, ◌∙◌, subst, append_assoc, ◌+◌, All}
use Rattle.std.proofs.lemmas.List.{length_push, map-append, nil_from_length}
use Rattle.pm_script.specs.declared.script.ScriptLine.{ScriptLine}
use Rattle.pm_calls.specs.LaneRooms.{lines_to_run}
use Rattle.pm_calls.specs.declared.room.CallRoom.{CallRoom}
use Rattle.pm_exec.specs.Made.{MayBeMade}
use Rattle.pm_exec.specs.declared.answer.Answer.{Answer}
use Rattle.pm_exec.proofs.CallLines.{all_at}
use Rattle.pm_exec.proofs.LaneCalls.{CallsMade, none_made, one_more, one_more_rests, rests_after, spent_after, stopped_after}
use Rattle.pm_text.specs.declared.report.LaneEnd.TheVariants as end
use Rattle.pm_exec.proofs.running.run_calls.Goals as goal

pub loop-room-init : goal.loop-room-init
loop-room-init g c = record {
  all = c.into_iter-room-iterator.ensures.into_iter_gives.0;
  room = refl;
  count = ap (λ (said : List Answer). length said) c.requires.empty;
  rests = c.requires.rests;
  made = λ n rests. none_made g.M.LaneMem.at c.args.names c.args.lane.now n c.args.answers.now.items c.requires.empty rests;
}

pub run_call-requires-clause-made : goal.run_call-requires-clause-made
run_call-requires-clause-made g c =
    all_at MayBeMade (map lines_to_run c.loop-room.yielded) (lines_to_run c.in-Some.room) (map lines_to_run c.next.new.self.rest.items)
    (subst (λ (ls : List (List ScriptLine)). All MayBeMade ls)
    (ap (λ (rooms : List CallRoom). map lines_to_run rooms) (sym (ap (λ (l : List CallRoom). c.loop-room.yielded ++ l) (sym c.in-Some.ensures.steps.0) ∙ c.loop-room.invariant.all))
    ∙ map-append lines_to_run c.loop-room.yielded (c.in-Some.room ∷ c.next.new.self.rest.items)) c.requires.made)

pub loop-room-preserved : goal.loop-room-preserved
loop-room-preserved g c =
    let i = c.loop-room.invariant in
    let yielded = c.loop-room.yielded in
    let rest = c.next.new.self.rest.items in
    record {
      all = append_assoc yielded (c.in-Some.room ∷ []) rest ∙ (ap (λ (l : List CallRoom). yielded ++ l) (sym c.in-Some.ensures.steps.0) ∙ i.all);
      room = c.push_reserved.ensures.capacity ∙ i.room;
      count = ap (λ (said : List Answer). length said) c.push_reserved.ensures.items
          ∙ (length_push c.loop-room.answers.items c.in-Answered.answer ∙ (ap (λ (k : ℕ). k + 1) i.count ∙ sym (length_push yielded c.in-Some.room)));
      rests = one_more_rests g.M.LaneMem.at c.args.names c.loop-room.lane c.run_call.new.lane (lines_to_run c.in-Some.room) c.in-Answered.answer c.in-Answered.ensures i.rests;
      made = λ n first. subst (λ (said : List Answer). CallsMade g.M.LaneMem.at c.run_call.new.lane c.args.names n (map lines_to_run (yielded ++ c.in-Some.room ∷ [])) said)
          (sym c.push_reserved.ensures.items)
          (subst (λ (ls : List (List ScriptLine)). CallsMade g.M.LaneMem.at c.run_call.new.lane c.args.names n ls (c.loop-room.answers.items ++ c.in-Answered.answer ∷ []))
          (sym (map-append lines_to_run yielded (c.in-Some.room ∷ [])))
          (one_more g.M.LaneMem.at c.args.names c.loop-room.lane c.run_call.new.lane (lines_to_run c.in-Some.room) n (map lines_to_run yielded) c.loop-room.answers.items c.in-Answered.answer c.in-Answered.ensures (i.made n first)));
    }

pub returns-in-Stopped : goal.returns-in-Stopped
returns-in-Stopped g c n first =
    let i = c.loop-room.invariant in
    let yielded = c.loop-room.yielded in
    let rest = c.next.new.self.rest.items in
    stopped_after g.M.LaneMem.at c.args.names c.loop-room.lane c.run_call.new.lane (lines_to_run c.in-Some.room) n (map lines_to_run c.args.calls.items) (map lines_to_run yielded) (map lines_to_run rest)
    c.loop-room.answers.items (i.made n first) c.in-Stopped.answer c.calls.result c.in-Stopped.ensures
    (sym (map-append lines_to_run yielded (c.in-Some.room ∷ rest))
    ∙ ap (λ (rooms : List CallRoom). map lines_to_run rooms) (ap (λ (l : List CallRoom). yielded ++ l) (sym c.in-Some.ensures.steps.0) ∙ i.all))

pub returns-in-Spent : goal.returns-in-Spent
returns-in-Spent g c n first =
    let i = c.loop-room.invariant in
    let yielded = c.loop-room.yielded in
    let rest = c.next.new.self.rest.items in
    spent_after g.M.LaneMem.at c.args.names c.loop-room.lane c.run_call.new.lane (lines_to_run c.in-Some.room) n (map lines_to_run c.args.calls.items) (map lines_to_run yielded) (map lines_to_run (c.in-Some.room ∷ rest))
    c.loop-room.answers.items (i.made n first) c.in-Spent.line c.in-Spent.ensures
    (sym (map-append lines_to_run yielded (c.in-Some.room ∷ rest))
    ∙ ap (λ (rooms : List CallRoom). map lines_to_run rooms) (ap (λ (l : List CallRoom). yielded ++ l) (sym c.in-Some.ensures.steps.0) ∙ i.all))

pub returns : goal.returns
returns g c n first =
    let i = c.loop-room.invariant in
    let yielded = c.loop-room.yielded in
    let rest = c.loop-room.room-iterator.rest.items in
    rests_after g.M.LaneMem.at c.args.names c.loop-room.lane n (map lines_to_run c.args.calls.items) (map lines_to_run yielded) (map lines_to_run rest)
    c.loop-room.answers.items end.Ended (i.made n first)
    (sym (map-append lines_to_run yielded rest) ∙ ap (λ (rooms : List CallRoom). map lines_to_run rooms) i.all)
    (λ is. ap (λ (rooms : List CallRoom). map lines_to_run rooms) (nil_from_length rest (sym c.loop-room.room-iterator.rest.ok.0 ∙ c.in-None.ensures.steps.0)))
    (λ k is. let clash : end.Ended ≡ end.Stopped k = is in cc)
    (λ line is. absurd (let clash : end.Ended ≡ end.Spent line = is in cc))
