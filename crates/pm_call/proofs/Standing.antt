-- A LANE STANDS WITH ITS HISTORY at each stage, and after a call, from what the call says that it did.
use Rattle.std.proofs.Common.{◌≡◌, ◌≢◌, ℕ, zero, suc, ◌==◌, ◌≤◌, Bool, true, false, if◌then◌else◌, ⊎_elim, List, [], ◌∷◌, map, take, Option, Some, None, Result, Ok, Err, refl, sym, ap, ◌∙◌, subst, arith}
use Rattle.std.proofs.lemmas.Bool.{both_ways}
use Rattle.pm_model.specs.Transaction.{is_working}
use Rattle.pm_model.specs.declared.stage.Stage.{Stage}
use Rattle.pm_model.specs.declared.stage.Stage.TheVariants as stage
use Rattle.pm_objects.specs.declared.calls.Operation.{Operation}
use Rattle.pm_objects.specs.declared.calls.Operation.TheVariants.{Commit}
use Rattle.pm_objects.specs.declared.history.TxErr.{TxErr}
use Rattle.pm_objects.specs.declared.history.TxErr.TheVariants as error
use Rattle.pm_objects.specs.declared.history.Value.{Value}
use Rattle.pm_objects.specs.declared.history.Value.TheVariants.{Refused}
use Rattle.pm_objects.specs.declared.refusal.Refusal.{Refusal}
use Rattle.pm_objects.specs.declared.refusal.Refusal.TheVariants as refusal
use Rattle.pm_view.specs.Log.{Phase, Idle}
use Rattle.pm_view.specs.Steps.{Step}
use Rattle.pm_view.specs.Steps.Step.{Draw, NumberSeen, Tell}
use Rattle.pm_view.specs.View.{Constants, Numbered, View}
use Rattle.pm_view.specs.Views.{after, after_all, begun}
use Rattle.pm_world.specs.LaneFields.{Fields, Rests, Standing, Works, at_rest, at_work, fields_of, last_number, moved}
use Rattle.pm_world.specs.declared.lane.Lane.{Lane}
use Rattle.pm_plan.specs.Plans.{Plan}
use Rattle.pm_record.specs.declared.redo.Redo.{Redo}
use Rattle.pm_call.specs.At.{At}
use Rattle.pm_call.specs.Between.{IsLaneBetween, MayOpen, saw_number}
use Rattle.pm_call.specs.Commits.{CommitCut, WasCommitted}
use Rattle.pm_call.specs.Did.{Cut, Did, DidSo, Ends, GaveUp, IsAt, IsOver, WasUnwritten, next, stage_refusal, work_refusal}
use Rattle.pm_call.specs.GivenUp.{WasGivenUp}
use Rattle.pm_call.specs.Histories.{IsPlanOf, LaneHistory, PlanTellsMore, calls_ended, ended_of, history_of, last_ended, told_by, told_last, told_more, turned, unless}
use Rattle.pm_call.specs.Opening.{NoneIsLeft}
use Rattle.pm_call.specs.Planned.{entries_to_log, is_given_up}
use Rattle.pm_call.specs.Planned.Planned.{Commits, RollsBack}
use Rattle.pm_call.specs.Plans.{commits, gives_up}
use Rattle.pm_call.specs.Stages.{Ended, EndedAs, EndedBy, EndedSo, IsLanePast, IsPastAt, Leaves, at_level, closed, end_refusal, fields_past, stage_end_refusal, unlisted}
use Rattle.pm_call.specs.Unwritten.{WritesNoRecord, is_adding, is_adding_in}
use Rattle.pm_crash.specs.Fates.{EndsOpen}
use Rattle.pm_call.specs.Standing.{HasHistory, IsLaneStopped, IsOverFor, Stands, StandsWith, StoppedWith}
use Rattle.pm_call.proofs.HasHistories.{by_operations, goes_on, plan_ends, plan_stopped, plan_tells}
use Rattle.pm_call.proofs.OpenedCalls.{between_may_open, look_may_open}
use Rattle.pm_call.proofs.SilentPlans.{silent_step}
use Rattle.pm_call.proofs.Slotless.{slotless_so_far, unslotted_unwritten, working_unslotted}
use Rattle.pm_call.proofs.SlotlessPlans.{slotless_gives_up}
use Rattle.pm_call.proofs.StoppedLanes.{commit_is_stopped, cut_is_stopped}
use Rattle.pm_call.proofs.StoppedNumbers.{commits_unended, ends_open, ends_untold, gives_up_unnumbered}
use Rattle.pm_call.proofs.ToldLooks.{gives_told, looks_told, nothing_history, saw_history, told_history, told_open}
use Rattle.pm_call.proofs.ToldPlans.{commits_tell, rollbacks_tell}

-- ---- WHAT IS REFUSED, by the lane's fields

abbrev work_by : Fields → Option Refusal
work_by f = if f.stopped then Some refusal.Stopped else stage_refusal f.stage f.level

abbrev end_by : Fields → Option Refusal
end_by f = if f.stopped then Some refusal.Stopped else stage_end_refusal f.stage f.level

either_way : {A : Type 0} (b : Bool) (x y : A) → (if b then Some x else Some y) ≡ None → ⊥
either_way true x y e = cc
either_way false x y e = cc

not_in_work : (st : Stage) (level : ℕ) → is_working st ≡ false → stage_refusal st level ≡ None → ⊥
not_in_work stage.Work level past e = cc
not_in_work st level past e = either_way (level == 0) _ _ e

-- ---- HISTORIES

-- steps leave what never changes
begun_fixed : (phase : Phase) (v : View) → (begun phase v).fixed ≡ v.fixed
begun_fixed Idle v = refl
begun_fixed phase v = refl

fixed_stays : (v : View) (s : Step) → (after v s).fixed ≡ v.fixed
fixed_stays v (Draw n) = refl
fixed_stays v (NumberSeen n) = begun_fixed v.log.phase v
fixed_stays v (Tell op reply) = refl
fixed_stays v s = (silent_step v s refl).fixed

pub all_fixed : (v : View) (steps : List Step) → (after_all v steps).fixed ≡ v.fixed
unfolding after_all
all_fixed v [] = refl
all_fixed v (s ∷ steps) = all_fixed (after v s) steps ∙ fixed_stays v s

last_same : (entries : List Numbered) → last_number entries ≡ last_ended (map ended_of entries)
last_same [] = refl
last_same (e ∷ entries) = refl

pub over_for : (level : ℕ) (e : TxErr) (h : LaneHistory) → h.call ≡ [] → IsOverFor level e h
over_for zero e h none = none
over_for (suc zero) e h none = none
over_for (suc (suc n)) error.None h none = tt
over_for (suc (suc n)) e h none = none

-- an inner level that was committed leaves the call open
pub over_inner : (level : ℕ) (h : LaneHistory) → 2 ≤ level → IsOverFor level error.None h
over_inner zero h inner = absurd (omega arith)
over_inner (suc zero) h inner = absurd (omega arith)
over_inner (suc (suc n)) h inner = tt

-- ---- AT EACH STAGE

module _ {M : Type 0} (at : M → View → Type 0) (lane : Lane M) where
  level_of : (f : Fields) → fields_of lane ≡ f → lane.level ≡ f.level
  level_of f fields = ap (λ (g : Fields). g.level) fields

  goes : {A : Type 0} (f : Fields) → fields_of lane ≡ f → f.stopped ≡ false
      → lane.stopped ≡ true → A
  goes f fields going e = absurd (both_ways lane.stopped (ap (λ (g : Fields). g.stopped) fields
      ∙ going) e)

  -- its last number, where the fields tell that of the view
  numbers : (v : View) (h : LaneHistory) → lane.last ≡ last_number v.entries → history_of v ≡ h
      → lane.last ≡ last_ended h.done
  numbers v h last is = last ∙ last_same v.entries ∙ ap (λ (x : LaneHistory). last_ended x.done) is

  last_of : (f : Fields) → fields_of lane ≡ f → lane.last ≡ f.last
  last_of f fields = ap (λ (g : Fields). g.last) fields

  pub stopped_stands : (h : LaneHistory) → lane.stopped ≡ true → (x : IsLaneStopped at lane)
      → calls_ended x.view ≡ h.done → x.view.fixed.lane ≡ h.lane → EndsOpen lane.drawn x.view
      → (is_adding_in h.within ≡ false → WritesNoRecord x.view) → StoppedWith x.view h
      → StandsWith at lane h
  stopped_stands h is stopped calls of ends unwritten plans = record {
    work = λ e. absurd (let s = stops stage_refusal in cc);
    past = λ e. absurd (let s = stops stage_end_refusal in cc);
    between = λ e low. absurd (cc);
    stopped = λ e. (stopped, calls, of, ends, unwritten, plans);
    last = λ e. absurd (cc);
  }
    where
      stops : (by : Stage → ℕ → Option Refusal)
          → (if lane.stopped then Some refusal.Stopped else by lane.stage lane.level)
          ≡ Some refusal.Stopped
      stops by = ap (λ b. if b then Some refusal.Stopped else by lane.stage lane.level) is

  pub working_stands : (h : LaneHistory) (s : Standing) → Works at lane s → At s
      → HasHistory s.view h → StandsWith at lane h
  working_stands h s works is same = record {
    work = λ e. (record { standing = s; works = works; stands = is }, same);
    past = λ e. absurd (either_way (s.level == 0) _ _ (sym (ap end_by works.fields) ∙ e));
    between = λ e low. absurd (let l = level_of (at_work s) works.fields in
        let some = is.some in omega (arith, l, low, some));
    stopped = λ e. goes (at_work s) works.fields refl e;
    last = λ e. numbers s.view h (last_of (at_work s) works.fields) same.is;
  }

  pub past_stands : (h : LaneHistory) (s : Standing) (st : Stage) (x : TxErr)
      → IsPastAt at lane s st x → HasHistory s.view h → IsOverFor s.level x h
      → StandsWith at lane h
  past_stands h s st x is same over = record {
    work = λ e. absurd (not_in_work st s.level is.past.past (sym (ap work_by is.sees.fields) ∙ e));
    past = λ e. (record { standing = s; stage = st; error = x; stands = is }, same, over);
    between = λ e low. absurd (let l = level_of (fields_past st x s) is.sees.fields in
        let some = is.past.some in omega (arith, l, low, some));
    stopped = λ e. goes (fields_past st x s) is.sees.fields refl e;
    last = λ e. numbers s.view h (last_of (fields_past st x s) is.sees.fields) same.is;
  }

  pub idle_stands : (h : LaneHistory) (s : Standing) → s.level ≡ 0 → Rests at lane s → MayOpen s
      → HasHistory s.view h → h.call ≡ [] → StandsWith at lane h
  idle_stands h s outside rests may same none = record {
    work = λ e. absurd (either_way (s.level == 0) _ _ (sym (ap work_by rests.fields) ∙ e));
    past = λ e. absurd (let n : stage_end_refusal stage.None 0 ≡ None =
        subst (λ k. stage_end_refusal stage.None k ≡ None) outside
        (sym (ap end_by rests.fields) ∙ e) in cc);
    between = λ e low. (record { standing = s; rests = rests; between = may }, same, none);
    stopped = λ e. goes (at_rest s) rests.fields refl e;
    last = λ e. numbers s.view h (ap (λ (g : Fields). g.last) rests.fields) same.is;
  }

  -- no number is left for a call
  pub spent_stands : (h : LaneHistory) (s : Standing) → s.level ≡ 0 → MayOpen s
      → NoneIsLeft at lane s → HasHistory s.view h → h.call ≡ [] → StandsWith at lane h
  spent_stands h s outside may none same empty = ⊎_elim
      (λ z. idle_stands h s outside z.1 may same empty)
      (λ z. idle_stands h (saw_number s z.0) outside z.2 (look_may_open s z.0 may)
      (saw_history s z.0 h same empty) empty)
      none

  -- ---- it came to its stop, and says so

  -- in an operation, from where its history was this
  pub stopped_in : (h : LaneHistory) (v : View) (op : Operation) → lane.stopped ≡ true
      → (x : IsLaneStopped at lane) → x.view.fixed ≡ v.fixed → HasHistory v h
      → calls_ended x.view ≡ (told_by lane.drawn op None h).done → EndsOpen lane.drawn x.view
      → ((n : ℕ) → lane.drawn ≡ Some n → is_adding op ≡ false)
      → (is_adding op ≡ false → WritesNoRecord x.view)
      → StoppedWith x.view (told_by lane.drawn op None h)
      → StandsWith at lane (told_by lane.drawn op None h)
  stopped_in h v op is x fixed same calls ends plain unwritten plans =
      stopped_stands (told_by lane.drawn op None h) is x calls
      (ap (λ (f : Constants). f.lane) fixed ∙ ap (λ (y : LaneHistory). y.lane) same.is
      ∙ of_lane lane.drawn) ends (adds lane.drawn refl) plans
    where
      adds : (d : Option ℕ) → lane.drawn ≡ d
          → is_adding_in (told_by d op None h).within ≡ false
          → WritesNoRecord x.view
      adds None e = unwritten
      adds (Some n) e = λ added. unwritten (plain n e)

      of_lane : (d : Option ℕ) → h.lane ≡ (told_by d op None h).lane
      of_lane None = refl
      of_lane (Some n) = refl

  -- in one that goes on
  pub cut_stands : (h : LaneHistory) (s : Standing) (op : Operation) (plan : Plan)
      → (cut : Cut at lane s plan true) → HasHistory s.view h → IsPlanOf plan op s.view
      → calls_ended (after_all s.view (take cut.stops.made (plan s.view))) ≡ h.done
      → (after_all s.view (take cut.stops.made (plan s.view))).number ≡ None
      → (is_adding op ≡ false → WasUnwritten cut)
      → StandsWith at lane (told_by lane.drawn op None h)
  cut_stands h s op plan cut same of calls none unwritten =
      let w : View = after_all s.view (take cut.stops.made (plan s.view)) in
      let drawn : lane.drawn ≡ None = ap (λ (f : Fields). f.drawn) cut.fields in
      stopped_in h s.view op (ap (λ (f : Fields). f.stopped) cut.fields)
      (cut_is_stopped at lane s plan true cut)
      (all_fixed s.view (take cut.stops.made (plan s.view))) same
      (calls ∙ sym (ap (λ d. (told_by d op None h).done) drawn))
      (ends_untold lane.drawn w drawn none)
      (λ n e. absurd (let clash : None ≡ Some n = sym drawn ∙ e in cc)) unwritten
      (plan_stopped of.by op s.view w h (told_by lane.drawn op None h) of.operation
      (by_operations lane.drawn op None h (goes_on s.view h same)) same cut.stops.made
      (ap (λ (steps : List Step). after_all s.view (take cut.stops.made steps)) of.same))

  -- as it gave its call up
  pub cut_rollback_stands : (h : LaneHistory) (s : Standing) (op : Operation)
      (reply : Option Value) (n : ℕ) → is_given_up op reply ≡ true → s.view.number ≡ None
      → HasHistory s.view h
      → Cut at lane s (gives_up op reply n) true → StandsWith at lane (told_by lane.drawn op None h)
  cut_rollback_stands h s op reply n given none same cut =
      let w : View = after_all s.view (take cut.stops.made (gives_up op reply n s.view)) in
      let told = gives_up_unnumbered op reply n s.view cut.stops.made cut.stops.due in
      cut_stands h s op (gives_up op reply n) cut same
      (record { by = RollsBack op reply n given; operation = refl; same = refl })
      (ap (λ (x : LaneHistory). x.done) (told_history s.view w h told same.is))
      (told_open s.view w told none)
      (λ _. unslotted_unwritten w (slotless_so_far s.view (gives_up op reply n s.view)
      cut.stops.made (working_unslotted s.view cut.working)
      (slotless_gives_up s.view op reply n cut.working)))

  -- where its entries are those of the words that it published
  pub cut_commit_stands : (h : LaneHistory) (s : Standing) → s.entries ≡ entries_to_log s.view
      → s.view.number ≡ None → HasHistory s.view h → CommitCut at lane s true
      → StandsWith at lane (told_by lane.drawn Commit None h)
  cut_commit_stands h s sets none same cut = stopped_in h s.view Commit
      (ap (λ (f : Fields). f.stopped) cut.fields) (commit_is_stopped at lane s true cut)
      (all_fixed s.view (take cut.stops.made (commits s.entries cut.found cut.number s.view))) same
      ((commits_tell s.entries cut.found cut.number).on_the_way s.view cut.stops.made none
      ∙ λ i. (told_by (sym cut.numbered.drawn i) Commit None (same.is i)).done)
      (ends_open lane.drawn
      (after_all s.view (take cut.stops.made (commits s.entries cut.found cut.number s.view)))
      cut.numbered.drawn (commits_unended s.entries cut.found cut.number s.view none cut.ready
      cut.stops.made cut.stops.fewer)) (λ n e. refl) (λ _. cut.unwritten)
      (plan_stopped (Commits cut.found cut.number) Commit s.view
      (after_all s.view (take cut.stops.made (commits s.entries cut.found cut.number s.view))) h
      (told_by lane.drawn Commit None h) refl
      (by_operations lane.drawn Commit None h (goes_on s.view h same)) same cut.stops.made
      (ap (λ (es : List Redo). after_all s.view
      (take cut.stops.made (commits es cut.found cut.number s.view))) sets))

  -- ---- its call is over, and its locks are held still

  over_unlisted : (s : Standing) → IsOver s → IsOver (unlisted s)
  over_unlisted s over = record {
    log = over.log;
    drained = over.drained;
    lane = over.lane;
    lanes = over.lanes;
    zones = over.zones;
    unmaking = over.unmaking;
    sound = over.sound;
    sizes = over.sizes;
    known = over.known;
    sealed = over.sealed;
    holds = over.holds;
    own = over.own;
    pending = over.pending;
    facts = over.facts;
  }

  leaves_aborted : (x : TxErr) → x ≢ error.None → (n : ℕ) (s : Standing) → IsOver s
      → Leaves x n (unlisted s)
  leaves_aborted error.None aborted n s over = absurd (aborted refl)
  leaves_aborted x aborted n s over = (over_unlisted s over, refl)

  -- the history as the lane's field tells the number
  pub by_last : (h : LaneHistory) (v : View) (n : ℕ) (op : Operation) (reply : Option Value)
      → lane.last ≡ last_number v.entries → HasHistory v (told_last (suc n) op reply h)
      → HasHistory v (told_last lane.last op reply h)
  by_last h v n op reply last has = subst (λ k. HasHistory v (told_last k op reply h))
      (sym (numbers v (told_last (suc n) op reply h) last has.is)) has

  -- it was aborted, at whatever level
  pub aborted_call_stands : (h : LaneHistory) (s : Standing) (op : Operation)
      (reply : Option Value) (x : TxErr) → 1 ≤ s.level → s.level ≤ 64 → x ≢ error.None
      → is_given_up op reply ≡ true → s.view.number ≡ None → HasHistory s.view h
      → WasGivenUp at lane s op reply x → StandsWith at lane (told_last lane.last op reply h)
  aborted_call_stands h s op reply x some most aborted given none same up =
      let t : Standing = next s (gives_up op reply up.number) in
      past_stands (told_last lane.last op reply h) (unlisted t) stage.OnAbort x (record {
        sees = record { memory = up.sees.memory; fields = up.sees.fields };
        past = record {
          past = refl;
          some = some;
          most = most;
          leaves = leaves_aborted x aborted s.level t up.over;
        };
      })
      (by_last h t.view up.number op reply (ap (λ (g : Fields). g.last) up.sees.fields)
      (plan_ends (RollsBack op reply up.number given) op reply s.view t.view h refl refl same
      (suc up.number) ((rollbacks_tell op reply up.number).whole s.view none)))
      (over_for s.level x (told_last lane.last op reply h) refl)

  pub refused_stands : (h : LaneHistory) (s : Standing) → 1 ≤ s.level → s.level ≤ 64
      → (op : Operation) (r : Refusal) → s.view.number ≡ None → HasHistory s.view h
      → GaveUp at lane s op r → StandsWith at lane (told_last lane.last op (Some (Refused r)) h)
  refused_stands h s some most op r none same up =
      aborted_call_stands h s op (Some (Refused r)) (error.Refused r) some most (λ e. cc) refl none same
      (record { number = up.number; ready = up.ready; sees = up.sees; over = up.over })

  -- it was committed at its outermost level
  pub committed_call_stands : (h : LaneHistory) (s : Standing) → s.level ≡ 1
      → s.entries ≡ entries_to_log s.view → s.view.number ≡ None → HasHistory s.view h
      → WasCommitted at lane s
      → StandsWith at lane (told_last lane.last Commit None h)
  committed_call_stands h s outermost sets none same by =
      let t : Standing = next s (commits s.entries by.found by.number) in
      past_stands (told_last lane.last Commit None h) (unlisted t) stage.OnCommit error.None (record {
        sees = record { memory = by.sees.memory; fields = by.sees.fields };
        past = record {
          past = refl;
          some = omega (arith, outermost);
          most = omega (arith, outermost);
          leaves = subst (λ n. Leaves error.None n (unlisted t)) (sym outermost)
              (over_unlisted t by.over, refl);
        };
      })
      (by_last h t.view by.number Commit None (ap (λ (g : Fields). g.last) by.sees.fields)
      (plan_ends (Commits by.found by.number) Commit None s.view t.view h refl
      (ap (λ (es : List Redo). after_all s.view (commits es by.found by.number s.view)) sets) same
      (suc by.number) ((commits_tell s.entries by.found by.number).whole s.view none)))
      (over_for s.level error.None (told_last lane.last Commit None h) refl)

-- ---- WHAT A LANE THAT STANDS MAY BE ASKED

module _ {M : Type 0} {at : M → View → Type 0} {lane : Lane M} where
  pub stands_work : Stands at lane → work_refusal lane ≡ None → IsAt at lane
  stands_work stands = stands.work

  pub stands_past : Stands at lane → end_refusal lane ≡ None → IsLanePast at lane
  stands_past stands = stands.past

  pub stands_between : Stands at lane → lane.stopped ≡ false → lane.level ≡ 0
      → IsLaneBetween at lane
  stands_between stands = stands.between

  pub stands_stopped : Stands at lane → lane.stopped ≡ true → IsLaneStopped at lane
  stands_stopped stands = stands.stopped

-- ---- AFTER EACH CALL

module _ {M : Type 0} (at : M → View → Type 0) (old new : Lane M) (h : LaneHistory) where
  pub same_stands : StandsWith at old h → new ≡ old → StandsWith at new h
  same_stands stands same = subst (λ (lane : Lane M). StandsWith at lane h) (sym same) stands

  -- ---- an operation that is done, aborts the transaction, or stops

  module _ {T : Type 0} (op : Operation) (plan : View → Plan) (Is : View → T → Type 0)
      (said : View → View → Option Value) (reply : T → Option Value)
      (tells : (v : View) → PlanTellsMore (plan v) op (said v))
      (replies : (v : View) (x : T) → Is v x → said v v ≡ reply x) where
    ends_stands : (s : Standing) → 1 ≤ s.level → s.level ≤ 64 → s.view.number ≡ None
        → HasHistory s.view h → (result : Result T Refusal) → Ends at new op plan Is result s
        → StandsWith at new (turned new op reply result h)
    ends_stands s some most none same (Ok x) ends =
        let of = (tells s.view).planned s.view in
        working_stands at new (told_more op (reply x) h) (next s (plan s.view)) ends.0.works
        ends.0.stands (plan_tells of.by op (reply x) s.view (next s (plan s.view)).view h
        of.operation (ap (after_all s.view) of.same) same ((tells s.view).whole s.view none
        ∙ λ i. told_more op (replies s.view x ends.1 i) (history_of s.view)))
    ends_stands s some most none same (Err refusal.Stopped) ends = ⊎_elim
        (λ c. cut_stands at new h s op (plan s.view) c.1.0 same ((tells s.view).planned s.view)
        ((tells s.view).on_the_way s.view c.1.0.stops.made none
        ∙ ap (λ (x : LaneHistory). x.done) same.is)
        ((tells s.view).unnumbered s.view c.1.0.stops.made none) c.1.1)
        (λ c. cut_rollback_stands at new h s op (Some (Refused c.0)) c.1 refl none same c.3)
        ends
    ends_stands s some most none same (Err r) ends =
        refused_stands at new h s some most op r none same ends

    pub did_turns : (result : Result T Refusal) → StandsWith at old h
        → Did at old new op plan Is result
        → StandsWith at new (unless (work_refusal old) (turned new op reply result h) h)
    unfolding Did
    did_turns result stands did = by (work_refusal old) refl did where
      by : (w : Option Refusal) → work_refusal old ≡ w → DidSo w at old new op plan Is result
          → StandsWith at new (unless w (turned new op reply result h) h)
      by (Some r) some d = same_stands stands d.1
      by None none d =
          let here = stands.work none in
          let s = here.0.standing in
          let t = d s here.0.works here.0.stands in
          let looked = looks_told t.looks s.view t.view t.looked in
          ends_stands (moved s t.view) here.0.stands.some here.0.stands.most
          (told_open s.view t.view looked.told here.0.stands.number.none)
          (nothing_history s.view t.view h looked here.1) result t.holds

  -- ---- the end of a level

  end_stands : (s : Standing) (x : TxErr) (n : ℕ) → HasHistory s.view h → IsOverFor n x h
      → EndedAs at new x n s → StandsWith at new h
  end_stands s x zero same over ends = absurd ends
  end_stands s x (suc zero) same over ends =
      idle_stands at new h (closed s) refl ends.0 (between_may_open (closed s) ends.1)
      (nothing_history s.view (closed s).view h (gives_told s.view s.locks) same) over
  end_stands s error.None (suc (suc n)) same over ends =
      working_stands at new h (at_level (suc n) s) ends.0 ends.1 same
  end_stands s x (suc (suc n)) same over ends =
      past_stands at new h (at_level (suc n) s) stage.OnAbort x ends same (over_for (suc n) x h over)

  answer_stands : (s : Standing) (x : TxErr) (result : Result TxErr Refusal)
      → HasHistory s.view h → IsOverFor s.level x h → EndedBy at new result x s
      → StandsWith at new h
  answer_stands s x (Ok answer) same over d = end_stands s x s.level same over d.1
  answer_stands s x (Err r) same over d = absurd d

  pub ended_turns : (result : Result TxErr Refusal) → StandsWith at old h
      → Ended at old new result → StandsWith at new h
  unfolding Ended
  ended_turns result stands ended = by (end_refusal old) refl ended where
    by : (w : Option Refusal) → end_refusal old ≡ w → EndedSo w at old new result
        → StandsWith at new h
    by (Some r) some d = same_stands stands d.1
    by None none d =
        let here = stands.past none in
        answer_stands here.0.standing here.0.error result here.1 here.2
        (d here.0.standing here.0.stage here.0.error here.0.stands)

-- ---- WITH WHATEVER HISTORY

pub stands_so : {M : Type 0} (at : M → View → Type 0) (lane : Lane M) (h : LaneHistory)
    → StandsWith at lane h → Stands at lane
stands_so at lane h stands = record {
  history = h;
  stands = stands;
  work = λ none. (stands.work none).0;
  past = λ none. (stands.past none).0;
  between = λ going outside. (stands.between going outside).0;
  stopped = λ is. (stands.stopped is).0;
}

-- so it stands after a call that turns its history
pub stands_turned : {M : Type 0} (at : M → View → Type 0) (old new : Lane M)
    (turn : LaneHistory → LaneHistory)
    → ((h : LaneHistory) → StandsWith at old h → StandsWith at new (turn h)) → Stands at old
    → Stands at new
stands_turned at old new turn turns stands =
    stands_so at new (turn stands.history) (turns stands.history stands.stands)

pub ended_stands : {M : Type 0} (at : M → View → Type 0) (old new : Lane M)
    (result : Result TxErr Refusal) → Stands at old → Ended at old new result → Stands at new
ended_stands at old new result stands did = stands_turned at old new (λ h. h)
    (λ h w. ended_turns at old new h result w did) stands
