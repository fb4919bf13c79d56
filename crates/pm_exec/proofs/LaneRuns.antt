-- THE WORK OF A LANE: its calls, and then its end.
use Rattle.std.proofs.Common.{◌≡◌, ◌≢◌, ◌⊎◌, inl, inr, ℕ, Bool, true, false, List, [], length, map, reverse, take, ◌%◌, ◌^◌, option_map, Option, Some, None, Vec, refl, sym, ap, ◌∙◌, subst}
use Rattle.std.specs.Prelude.{slice_index_or}
use Rattle.std.proofs.lemmas.Bool.{both_ways}
use Rattle.std.proofs.lemmas.List.{reverse-reverse}
use Rattle.std.specs.Global.{Global}
use Rattle.std.specs.List.{AllZip}
use Rattle.std.specs.Option.{option_map_or}
use Rattle.pm_script.specs.declared.script.ScriptLine.{ScriptLine}
use Rattle.pm_text.specs.declared.report.LaneEnd.{LaneEnd}
use Rattle.pm_text.specs.declared.report.LaneEnd.TheVariants as end
use Rattle.pm_view.specs.View.{View}
use Rattle.pm_world.specs.declared.lane.Lane.{Lane}
use Rattle.pm_crash.specs.Fates.{EndsOpen}
use Rattle.pm_call.specs.Histories.{Ended, LaneHistory, calls_ended, nothing_told}
use Rattle.pm_call.specs.Positions.{Position, position_of, resting}
use Rattle.pm_call.specs.Standing.{IsLaneStopped, IsStopDue, StandsWith, StoppedWith}
use Rattle.pm_calls.specs.LaneRooms.{lines_to_run}
use Rattle.pm_calls.specs.declared.names.Names.{Names}
use Rattle.pm_calls.specs.declared.room.CallRoom.{CallRoom}
use Rattle.pm_call.specs.Unwritten.{WritesNoRecord, is_adding_in}
use Rattle.pm_exec.specs.Answers.{AddsRange, AreFirst, IsAnswer, IsSpent, IsSpentView, lines_of}
use Rattle.pm_exec.specs.Running.{CallsCame, Closed, RestsWith, SpentClosed}
use Rattle.pm_exec.specs.Works.{AddedNext, DidCalls, WorkLeft, all_answers, lines_left}
use Rattle.pm_exec.specs.declared.answer.Answer.{Answer}
use Rattle.pm_exec.specs.declared.work.LaneWork.{LaneWork}
use Rattle.pm_exec.proofs.CallLines.{rests_plain}
use Rattle.pm_exec.proofs.RootLooks.{rests_undrawn}

same_count : (k n : ℕ) → end.Stopped k ≡ end.Stopped n → k ≡ n
same_count k n is = ap (λ (e : LaneEnd). count_in e) is
  where
    count_in : LaneEnd → ℕ
    count_in (end.Stopped n) = n
    count_in e = 0

module _ {G M : Type 0} (at : M → View → Type 0) (before after : LaneWork G) (ran closed : Lane M) (n : ℕ)
    (calls : Vec CallRoom Global) (has : before.calls ≡ Some calls) (e : LaneEnd)
    (same : (after.number ≡ before.number) × (after.names ≡ before.names))
    (came : CallsCame at ran before.names n (map lines_to_run calls.items) after.answers.items after.unanswered e)
    (ends : Closed at ran closed (record { lane = n; done = reverse came.done; call = came.call; within = came.within }) e after.end)
    (spent : (line : ℕ) → after.end ≡ end.Spent line → IsSpentView ends.stops.view) where
  left_are : map lines_to_run calls.items ≡ lines_left before
  left_are = ap (λ (c : Option (Vec CallRoom Global)). option_map_or (λ (room : Vec CallRoom Global). map lines_to_run room.items) c []) (sym has)

  abbrev number_of : Option ℕ
  number_of = option_map (λ (a : Answer). a.number) after.unanswered

  drawn_is : (b : Bool) → ran.stopped ≡ b → ran.drawn ≡ number_of
  drawn_is true s = came.stopped s
  drawn_is false g =
      rests_undrawn at ran (record { lane = n; done = reverse came.done; call = came.call; within = came.within }) (came.stands, (came.going g).0)
      ∙ ap (λ (o : Option Answer). option_map (λ (a : Answer). a.number) o) (sym (came.going g).1)

  whole_when : (b : Bool) → ran.stopped ≡ b → after.end ≡ end.Ended → length after.answers.items ≡ length (map lines_to_run calls.items)
  whole_when true s is = absurd (let clash : end.Stopped _ ≡ end.Ended = sym (ends.stopped s) ∙ is in cc)
  whole_when false g is = came.whole (sym (ends.going g) ∙ is)

  stopped_when : (b : Bool) → ran.stopped ≡ b → after.unanswered ≢ None → (k : ℕ) × (after.end ≡ end.Stopped k)
  stopped_when true s some = (_, ends.stopped s)
  stopped_when false g some = absurd (some (came.going g).1)

  counted_when : (b : Bool) → ran.stopped ≡ b → (k : ℕ) → after.end ≡ end.Stopped k → k ≡ length ends.stops.view.calls % 2 ^ 64
  counted_when true s k is = same_count k (length ends.stops.view.calls % 2 ^ 64) (sym is ∙ ends.stopped s)
  counted_when false g k is = absurd (came.unstopped g k (sym (ends.going g) ∙ is))

  due_when : (b : Bool) → ran.stopped ≡ b → (k : ℕ) → after.end ≡ end.Stopped k → IsStopDue ends.stops.view
  due_when true s k is = ends.due s
  due_when false g k is = absurd (came.unstopped g k (sym (ends.going g) ∙ is))

  added_when : (b : Bool) → ran.stopped ≡ b → is_adding_in came.within ≡ true → AddedNext before after
  added_when true s is = record {
    calls = length ends.stops.view.calls % 2 ^ 64;
    stopped = ends.stopped s;
    none = (came.adds is).0;
    adds = subst (λ (l : List (List ScriptLine)). AddsRange before.names
        (slice_index_or l (length after.answers.items) [])) left_are (came.adds is).1;
  }
  added_when false g is = absurd (both_ways (is_adding_in came.within) (ap is_adding_in (rests_plain at ran
      (record { lane = n; done = reverse came.done; call = came.call; within = came.within })
      (came.stands, (came.going g).0))) is)

  unwritten_by : (b : Bool) → is_adding_in came.within ≡ b
      → WritesNoRecord ends.stops.view ⊎ AddedNext before after
  unwritten_by true is = inr (added_when ran.stopped refl is)
  unwritten_by false is = inl (ends.unwritten is)

  pub work_did : DidCalls before after ends.stops.view
  work_did = record {
    same = same;
    calls = subst (λ (l : List (List ScriptLine)). map lines_of (all_answers after) ≡ take (length (all_answers after)) l) left_are came.of_calls;
    shown = subst (λ (k : ℕ). AllZip (IsAnswer before.names k) (all_answers after) (reverse (calls_ended ends.stops.view))) (sym ends.lane)
        (subst (λ (d : List Ended). AllZip (IsAnswer before.names n) (all_answers after) d)
        (sym (ap (λ (d : List Ended). reverse d) ends.done ∙ reverse-reverse came.done)) came.shown);
    answered = came.answered;
    open_ = subst (λ (o : Option ℕ). EndsOpen o ends.stops.view) (drawn_is ran.stopped refl) ends.ends;
    either = λ a d is shows. came.either a d is (subst (λ (k : ℕ). IsAnswer before.names k a d) ends.lane shows);
    whole = λ is. whole_when ran.stopped refl is ∙ ap (λ (l : List (List ScriptLine)). length l) left_are;
    stopped = stopped_when ran.stopped refl;
    counted = counted_when ran.stopped refl;
    due = due_when ran.stopped refl;
    spent = spent;
    unwritten = unwritten_by (is_adding_in came.within) refl;
    planned = record {
      call = came.call;
      within = came.within;
      first = subst (λ (l : List (List ScriptLine)). AreFirst before.names
          (slice_index_or l (length (all_answers after)) []) came.call came.within) left_are came.first;
      plans = subst (StoppedWith ends.stops.view) (λ i. record {
        lane = (sym ends.lane) i;
        done = (sym ends.done) i;
        call = came.call;
        within = came.within;
      }) ends.plans;
    };
  }

module _ {G M : Type 0} (at : M → View → Type 0) (before self : LaneWork G) (lane closed : Lane M) (n : ℕ) (result : LaneEnd)
    (closes : (h : LaneHistory) → StandsWith at lane h → (lane.stopped ≡ false → position_of lane ≡ resting) → Closed at lane closed h self.end result)
    (spends : (h : LaneHistory) → IsSpent at lane h → SpentClosed at lane closed h × (result ≡ self.end)) where
  -- the lane was closed, spent still where it was spent
  abbrev ClosedSo : LaneHistory → Type 0
  ClosedSo h = (c : Closed at lane closed h self.end result)
      × ((line : ℕ) → result ≡ end.Spent line → IsSpentView c.stops.view)

  plain : (h : LaneHistory) (e : LaneEnd) → ((line : ℕ) → e ≡ end.Spent line → ⊥) → self.end ≡ e
      → StandsWith at lane h → (lane.stopped ≡ false → position_of lane ≡ resting) → ClosedSo h
  plain h e unspent is stands here =
      let c = closes h stands here in (c, λ line spent. absurd (by c line spent lane.stopped refl))
    where
      by : (c : Closed at lane closed h self.end result) (line : ℕ) → result ≡ end.Spent line
          → (b : Bool) → lane.stopped ≡ b → ⊥
      by c line spent true s =
          let clash : end.Stopped _ ≡ end.Spent line = sym (c.stopped s) ∙ spent in cc
      by c line spent false g = unspent line (sym is ∙ (sym (c.going g) ∙ spent))

  closed_so : (h : LaneHistory) (e : LaneEnd) → self.end ≡ e → StandsWith at lane h
      → (lane.stopped ≡ false → position_of lane ≡ resting)
      → ((line : ℕ) → self.end ≡ end.Spent line → IsSpent at lane h) → ClosedSo h
  closed_so h (end.Spent line) is stands here spent =
      let was = spent line is in
      let z = spends h was in
      let not : lane.stopped ≡ true → ⊥ = λ s.
      let clash : true ≡ false = sym s ∙ ap (λ (p : Position). p.stopped) was.here in cc in (
        record {
          stops = z.0.stops;
          done = z.0.done;
          lane = z.0.lane;
          ends = z.0.ends;
          going = λ g. z.1;
          stopped = λ s. absurd (not s);
          due = λ s. absurd (not s);
          unwritten = λ g. z.0.unwritten;
          plans = z.0.plans;
        },
        λ other so. z.0.spent,
      )
  closed_so h end.Ended is stands here spent =
      plain h end.Ended (λ line e. let clash : end.Ended ≡ end.Spent line = e in cc) is stands here
  closed_so h (end.Stopped k) is stands here spent =
      plain h (end.Stopped k) (λ line e. let clash : end.Stopped k ≡ end.Spent line = e in cc) is
      stands here

  -- the calls came to this on the lane, which was then closed
  pub lane_ran : (calls : Vec CallRoom Global) → before.calls ≡ Some calls → (left : Option (Vec CallRoom Global))
      → (answers : Vec Answer Global) (unanswered : Option Answer) (e : LaneEnd) (ran : Lane M)
      → self ≡ record { number = before.number; names = before.names; gate = before.gate; calls = left; answers = answers; unanswered = unanswered; end = e }
      → lane ≡ ran
      → CallsCame at ran before.names n (map lines_to_run calls.items) answers.items unanswered e
      → (x : IsLaneStopped at closed) × (x.view.fixed.lane ≡ n) × WorkLeft before (record self { end = result }) x.view
  lane_ran calls has left answers unanswered e ran self_is lane_is came =
      let here = subst (λ (l : Lane M). CallsCame at l before.names n (map lines_to_run calls.items) answers.items unanswered e) (sym lane_is) came in
      let came_so = subst (λ (w : LaneWork G). CallsCame at lane before.names n (map lines_to_run calls.items) w.answers.items w.unanswered w.end) (sym self_is) here in
      let ends = closed_so
      (record { lane = n; done = reverse came_so.done; call = came_so.call; within = came_so.within }) self.end refl
      came_so.stands (λ g. (came_so.going g).0) came_so.spent in (
        ends.0.stops,
        ends.0.lane,
        λ some. work_did at before (record self { end = result }) lane closed n calls has self.end
            (ap (λ (w : LaneWork G). w.number) self_is, ap (λ (w : LaneWork G). w.names) self_is) came_so ends.0 ends.1,
      )

  -- nothing was left to do
  pub lane_idle : before.calls ≡ None → (ran : Lane M) → lane ≡ ran → RestsWith at ran (nothing_told n)
      → (x : IsLaneStopped at closed) × (x.view.fixed.lane ≡ n) × WorkLeft before (record self { end = result }) x.view
  lane_idle none ran lane_is rests =
      let here = subst (λ (l : Lane M). RestsWith at l (nothing_told n)) (sym lane_is) rests in
      let ends = closes (nothing_told n) here.0 (λ g. here.1) in
      (ends.stops, ends.lane, λ some. absurd (some none))

-- where the calls came to this the lane may be closed
pub came_closes : {M : Type 0} (at : M → View → Type 0) (lane ran : Lane M) (names : Names) (n : ℕ) (calls : List (List ScriptLine))
    (answers : List Answer) (unanswered : Option Answer) (e : LaneEnd) → lane ≡ ran
    → CallsCame at ran names n calls answers unanswered e
    → (h : LaneHistory) × StandsWith at lane h × (lane.stopped ≡ false → position_of lane ≡ resting)
came_closes {M} at lane ran names n calls answers unanswered e is came =
    let here = subst (λ (l : Lane M). CallsCame at l names n calls answers unanswered e) (sym is) came in
    (record { lane = n; done = reverse here.done; call = here.call; within = here.within }, here.stands, λ g. (here.going g).0)

pub rests_closes : {M : Type 0} (at : M → View → Type 0) (lane ran : Lane M) (n : ℕ) → lane ≡ ran
    → RestsWith at ran (nothing_told n)
    → (h : LaneHistory) × StandsWith at lane h × (lane.stopped ≡ false → position_of lane ≡ resting)
rests_closes {M} at lane ran n is rests =
    let here = subst (λ (l : Lane M). RestsWith at l (nothing_told n)) (sym is) rests in
    (nothing_told n, here.0, λ g. here.1)
