-- A LANE STANDS WITH ITS HISTORY TURNED after each call on what is pending, from what the call says
-- that it did.
use Rattle.std.proofs.Common.{◌≡◌, ℕ, zero, suc, Bool, true, false, ⊎_elim, inl, List, [], take, Option, Some, None, Result, Ok, Err, refl, sym, ap, ◌∙◌, subst}
use Rattle.std.proofs.lemmas.Bool.{both_ways}
use Rattle.pm_objects.specs.declared.calls.Operation.{Operation}
use Rattle.pm_objects.specs.declared.calls.Operation.TheVariants.{Cancel, Publish}
use Rattle.pm_objects.specs.declared.history.Value.{Value}
use Rattle.pm_objects.specs.declared.history.Value.TheVariants.{Refused}
use Rattle.pm_objects.specs.declared.refusal.Refusal.{Refusal}
use Rattle.pm_objects.specs.declared.refusal.Refusal.TheVariants as refusal
use Rattle.pm_view.specs.Steps.{Step}
use Rattle.pm_view.specs.View.{View}
use Rattle.pm_view.specs.Views.{after_all}
use Rattle.pm_world.specs.LaneFields.{Fields, Standing, moved}
use Rattle.pm_world.specs.declared.lane.Lane.{Lane}
use Rattle.pm_call.specs.Between.{MayOpen, saw_number}
use Rattle.pm_call.specs.Did.{next, work_refusal}
use Rattle.pm_call.specs.GivenUp.{with_locks}
use Rattle.pm_call.specs.Histories.{LaneHistory, calls_ended, no_value, told_by, told_last, told_more, turned, turned_alone, turned_last, unless}
use Rattle.pm_call.specs.Locking.{IsOpened, locks_with}
use Rattle.pm_call.specs.Opening.{WaitWasStopped}
use Rattle.pm_call.specs.Planned.{is_call_alone, is_recorded_alone}
use Rattle.pm_call.specs.Planned.Planned.{Cancels, Lone, Publishes, Records}
use Rattle.pm_call.specs.Plans.{cancels, ends_call, tells}
use Rattle.pm_plan.specs.Plans.{one}
use Rattle.pm_call.specs.PublicationParts.{PublishWasCut, PublishWasRefused, WasPublishedOutside, WordsSetAs}
use Rattle.pm_call.specs.Publications.{publishes, unlocked, wants_to_set}
use Rattle.pm_call.specs.Publishing.{words_pending}
use Rattle.pm_crash.specs.Fates.{EndsOpen}
use Rattle.pm_call.specs.Standing.{HasHistory, IsLaneStopped, Stands, StandsWith, StoppedWith}
use Rattle.pm_call.proofs.HasHistories.{by_operations, goes_on, has_stopped, plan_ends, plan_stopped, plan_tells, stopped_before}
use Rattle.pm_call.proofs.OpenedCalls.{between_may_open}
use Rattle.pm_call.proofs.Standing.{all_fixed, by_last, cut_stands, idle_stands, same_stands, spent_stands, stands_turned, stopped_in, working_stands}
use Rattle.pm_call.proofs.StoppedLanes.{facts_on_the_way, may_open_facts, wait_is_stopped}
use Rattle.pm_call.proofs.StoppedNumbers.{ends_open, ends_untold, may_open_ends, publishes_unended}
use Rattle.pm_call.proofs.ToldLooks.{gives_told, looks_told, nothing_history, nothing_then, saw_history, taken_told, told_open, tried_told, wait_told}
use Rattle.pm_call.specs.Unwritten.{WritesNoRecord, is_adding_in}
use Rattle.pm_call.proofs.UnwrittenRests.{may_open_unwritten, wait_unwritten}
use Rattle.pm_call.proofs.UnwrittenStops.{cancels_unwritten}
use Rattle.pm_call.proofs.ToldPlans.{cancels_tell, lone_calls_tell, publishes_tell, tells_history}
use Rattle.pm_action.specs.Actions.{Asked, AskedAs, AskedSo}
use Rattle.pm_action.specs.Calls.{ByLevel, IfOutside}
use Rattle.pm_action.specs.Inside.{Cancelled, CancelledAs, CancelledSo}
use Rattle.pm_action.specs.Publications.{AfterLocks, PublishedAloneAs, PublishedBy, PublishedOpenAs, PublishedOutside}
use Rattle.pm_action.specs.Outside.{AskedAloneAs, AskedOutside, AskedOutsideAs, Finished, FinishedSo, WasAsked}
use Rattle.pm_action.specs.Standing.{if_outside, turned_action, turned_asked, turned_ended}

-- the operation is a call by itself, whatever it replies
abbrev IsCallAlone : Operation → Type 0
IsCallAlone op = (reply : Option Value) → is_call_alone op reply ≡ true

module _ {M : Type 0} (at : M → View → Type 0) (old new : Lane M) (h : LaneHistory) where
  -- ---- inside a transaction

  tells_so : (op : Operation) → is_recorded_alone op ≡ true → (reply : Option Value) (s : Standing)
      → s.view.number ≡ None
      → HasHistory s.view h → HasHistory (next s (tells op reply)).view (told_more op reply h)
  unfolding one after_all
  tells_so op alone reply s none same = plan_tells (Records op reply alone) op reply s.view
      (next s (tells op reply)).view h refl refl same (tells_history op reply s.view none)

  told_turns : (op : Operation) → is_recorded_alone op ≡ true → (s : Standing) (result : Result (Unit {0}) Refusal)
      → s.view.number ≡ None → HasHistory s.view h → AskedAs at new op result s
      → StandsWith at new (turned_action op result h)
  told_turns op alone s (Ok done) none same a =
      working_stands at new (told_more op None h) (next s (tells op None)) a.1.works a.1.stands
      (tells_so op alone None s none same)
  told_turns op alone s (Err r) none same a =
      working_stands at new (told_more op (Some (Refused r)) h)
      (next s (tells op (Some (Refused r)))) a.1.works a.1.stands
      (tells_so op alone (Some (Refused r)) s none same)

  pub asked_turns : (op : Operation) → is_recorded_alone op ≡ true
      → (result : Result (Unit {0}) Refusal) → StandsWith at old h
      → Asked at old new op result
      → StandsWith at new (unless (work_refusal old) (turned_action op result h) h)
  unfolding Asked
  asked_turns op alone result stands asked = by (work_refusal old) refl asked where
    by : (w : Option Refusal) → work_refusal old ≡ w → AskedSo w at old new op result
        → StandsWith at new (unless w (turned_action op result h) h)
    by (Some r) some d = same_stands at old new h stands d.1
    by None none d =
        let here = stands.work none in
        told_turns op alone here.0.standing result here.0.stands.number.none here.1
        (d here.0.standing here.0.works here.0.stands)

  cancel_turns : (s : Standing) (result : Result (Unit {0}) Refusal) → s.view.number ≡ None
      → HasHistory s.view h → CancelledAs at new result s
      → StandsWith at new (turned new Cancel no_value result h)
  cancel_turns s (Ok done) none same c =
      working_stands at new (told_more Cancel None h) (next s cancels) c.works c.stands
      (plan_tells Cancels Cancel None s.view (next s cancels).view h refl refl same
      (cancels_tell.whole s.view none))
  cancel_turns s (Err refusal.Stopped) none same c = cut_stands at new h s Cancel cancels c.1 same
      (cancels_tell.planned s.view)
      (cancels_tell.on_the_way s.view c.1.stops.made none
      ∙ ap (λ (x : LaneHistory). x.done) same.is)
      (cancels_tell.unnumbered s.view c.1.stops.made none)
      (λ _. cancels_unwritten s.view c.1.working c.1.stops.made)
  cancel_turns s (Err r) none same c = absurd c

  pub cancelled_turns : (result : Result (Unit {0}) Refusal) → StandsWith at old h
      → Cancelled at old new result
      → StandsWith at new (unless (work_refusal old) (turned new Cancel no_value result h) h)
  unfolding Cancelled
  cancelled_turns result stands cancelled = by (work_refusal old) refl cancelled where
    by : (w : Option Refusal) → work_refusal old ≡ w → CancelledSo w at old new result
        → StandsWith at new (unless w (turned new Cancel no_value result h) h)
    by (Some r) some d = same_stands at old new h stands d.1
    by None none d =
        let here = stands.work none in
        cancel_turns here.0.standing result here.0.stands.number.none here.1
        (d here.0.standing here.0.works here.0.stands)

  -- ---- outside

  was_asked_turns : (op : Operation) (s : Standing) (reply : Option Value)
      → is_call_alone op reply ≡ true → s.level ≡ 0
      → s.view.number ≡ None → HasHistory s.view h → WasAsked at new s op reply
      → StandsWith at new (told_last new.last op reply h)
  was_asked_turns op s reply alone outside none same a =
      let t : Standing = next s (ends_call op reply a.number) in
      idle_stands at new (told_last new.last op reply h) t outside a.rests
      (between_may_open t a.between)
      (by_last at new h t.view a.number op reply (ap (λ (f : Fields). f.last) a.rests.fields)
      (plan_ends (Lone op reply a.number alone) op reply s.view t.view h refl refl same
      (suc a.number) ((lone_calls_tell op reply a.number).whole s.view none))) refl

  alone_turns : (op : Operation) → IsCallAlone op → (s : Standing) → s.level ≡ 0
      → s.view.number ≡ None
      → HasHistory s.view h → (result : Result (Unit {0}) Refusal)
      → AskedAloneAs at new op result s → StandsWith at new (turned_ended new op result h)
  alone_turns op alone s outside none same (Ok done) a =
      was_asked_turns op s None (alone None) outside none same a.1
  alone_turns op alone s outside none same (Err r) a =
      was_asked_turns op s (Some (Refused r)) (alone (Some (Refused r))) outside none same a.1

  opened_turns : (op : Operation) → IsCallAlone op → (s : Standing) → s.level ≡ 0 → MayOpen s
      → HasHistory s.view h → h.call ≡ [] → (result : Result (Unit {0}) Refusal)
      → AskedOutsideAs at new op result s → StandsWith at new (turned_asked new op result h)
  opened_turns op alone s outside may same none (Err refusal.Spent) a =
      spent_stands at new h s outside may a same none
  opened_turns op alone s outside may same none result a =
      alone_turns op alone (saw_number s a.number) outside a.opened.number.none
      (saw_history s a.number h same none) result a.holds

  pub asked_outside_turns : (op : Operation) → IsCallAlone op → (result : Result (Unit {0}) Refusal)
      → old.stopped ≡ false → old.level ≡ 0 → StandsWith at old h
      → AskedOutside at old new op result → StandsWith at new (turned_asked new op result h)
  unfolding AskedOutside
  asked_outside_turns op alone result going outside stands asked =
      let here = stands.between going outside in
      let s = here.0.standing in
      opened_turns op alone s (sym (ap (λ (f : Fields). f.level) here.0.rests.fields) ∙ outside)
      here.0.between here.1 here.2 result (asked s here.0.rests here.0.between)

  -- ---- wherever its lane is

  by_level : (outside inside : Type 0) (h_out h_in : LaneHistory)
      → (old.stopped ≡ false → old.level ≡ 0 → outside → StandsWith at new h_out)
      → (inside → StandsWith at new h_in) → ByLevel old outside inside
      → StandsWith at new (if_outside old.stopped old.level h_out h_in)
  unfolding ByLevel
  by_level outside inside h_out h_in out in_ did = by old.stopped old.level refl refl did where
    by : (stopped : Bool) (level : ℕ) → old.stopped ≡ stopped → old.level ≡ level
        → IfOutside stopped level outside inside
        → StandsWith at new (if_outside stopped level h_out h_in)
    by false zero going none d = out going none d
    by true level going some d = in_ d
    by false (suc n) going some d = in_ d

  pub asked_by_level_turns : (op : Operation) → IsCallAlone op → is_recorded_alone op ≡ true
      → (result : Result (Unit {0}) Refusal)
      → StandsWith at old h
      → ByLevel old (AskedOutside at old new op result) (Asked at old new op result)
      → StandsWith at new (if_outside old.stopped old.level (turned_asked new op result h)
      (unless (work_refusal old) (turned_action op result h) h))
  asked_by_level_turns op alone told result stands did =
      by_level (AskedOutside at old new op result) (Asked at old new op result)
      (turned_asked new op result h) (unless (work_refusal old) (turned_action op result h) h)
      (λ going outside d. asked_outside_turns op alone result going outside stands d)
      (λ d. asked_turns op told result stands d) did

  pub cancelled_by_level_turns : (result : Result (Unit {0}) Refusal) → StandsWith at old h
      → ByLevel old (AskedOutside at old new Cancel result) (Cancelled at old new result)
      → StandsWith at new (if_outside old.stopped old.level (turned_asked new Cancel result h)
      (unless (work_refusal old) (turned new Cancel no_value result h) h))
  cancelled_by_level_turns result stands did =
      by_level (AskedOutside at old new Cancel result) (Cancelled at old new result)
      (turned_asked new Cancel result h)
      (unless (work_refusal old) (turned new Cancel no_value result h) h)
      (λ going outside d. asked_outside_turns Cancel (λ reply. refl) result going outside stands d)
      (λ d. cancelled_turns result stands d) did

  -- ---- a publish outside

  unpublished_turns : (t : Standing) → t.level ≡ 0 → t.view.number ≡ None
      → HasHistory t.view h → (r : Refusal) → PublishWasRefused at new t r
      → StandsWith at new (told_last new.last Publish (Some (Refused r)) h)
  unpublished_turns t outside none same r p =
      let w : Standing = next t (ends_call Publish (Some (Refused r)) p.number) in
      let u : Standing = unlocked w in
      let given = gives_told w.view w.locks in
      idle_stands at new (told_last new.last Publish (Some (Refused r)) h) u outside p.rests
      (between_may_open u p.between)
      (by_last at new h u.view p.number Publish (Some (Refused r))
      (ap (λ (f : Fields). f.last) p.rests.fields)
      (nothing_history w.view u.view (told_last (suc p.number) Publish (Some (Refused r)) h) given
      (plan_ends (Lone Publish (Some (Refused r)) p.number refl) Publish (Some (Refused r)) t.view
      w.view h refl refl same (suc p.number)
      ((lone_calls_tell Publish (Some (Refused r)) p.number).whole t.view none)))) refl

  words_set_turn : (t : Standing) → t.level ≡ 0 → t.view.number ≡ None → HasHistory t.view h
      → WasPublishedOutside at new t → StandsWith at new (told_last new.last Publish None h)
  words_set_turn t outside none same p =
      let w : Standing = next t (publishes (words_pending t) p.found p.number) in
      let u : Standing = unlocked w in
      let given = gives_told w.view w.locks in
      idle_stands at new (told_last new.last Publish None h) u outside p.rests
      (between_may_open u p.between)
      (by_last at new h u.view p.number Publish None (ap (λ (f : Fields). f.last) p.rests.fields)
      (nothing_history w.view u.view (told_last (suc p.number) Publish None h) given
      (plan_ends (Publishes p.found p.number) Publish None t.view w.view h refl refl same
      (suc p.number) ((publishes_tell (words_pending t) p.found p.number).whole t.view none)))) refl

  cut_publish_turns : (t : Standing) → t.view.number ≡ None → HasHistory t.view h
      → PublishWasCut at new t → StandsWith at new (told_by new.drawn Publish None h)
  cut_publish_turns t none same c =
      let plan : List Step = publishes (words_pending t) c.found c.number t.view in
      stopped_in at new h t.view Publish (ap (λ (f : Fields). f.stopped) c.fields) (record {
        view = after_all t.view (take c.stops.made plan);
        seen = c.stops.seen;
        facts = facts_on_the_way t.view plan c.stops.made c.facts;
        due = λ is. inl c.stops.stopped;
      }) (all_fixed t.view (take c.stops.made plan)) same
      ((publishes_tell (words_pending t) c.found c.number).on_the_way t.view
      c.stops.made none
      ∙ λ i. (told_by (sym c.numbered.drawn i) Publish None (same.is i)).done)
      (ends_open new.drawn (after_all t.view (take c.stops.made plan)) c.numbered.drawn
      (publishes_unended (words_pending t) c.found c.number t.view none c.ready c.stops.made
      c.stops.fewer)) (λ n e. refl) (λ _. c.unwritten)
      (plan_stopped (Publishes c.found c.number) Publish t.view
      (after_all t.view (take c.stops.made plan)) h (told_by new.drawn Publish None h) refl
      (by_operations new.drawn Publish None h (goes_on t.view h same)) same c.stops.made refl)

  -- its locks were taken, and words looked at: the call is open as it was
  locked_open : (s : Standing) (P : Standing → Type 0) → s.view.number ≡ None
      → HasHistory s.view h → (a : AfterLocks s P)
      → (a.holds.view.number ≡ None) × HasHistory a.holds.view h
  locked_open s P none same a =
      let looked = nothing_then s.view a.view a.holds.view
      (taken_told s (wants_to_set s) a.view a.takes)
      (looks_told a.holds.looks a.view a.holds.view a.holds.looked) in
      (told_open s.view a.holds.view looked.told none, nothing_history s.view a.holds.view h looked same)

  published_open_turns : (s : Standing) → IsOpened s → s.level ≡ 0 → HasHistory s.view h
      → (result : Result (Unit {0}) Refusal) → PublishedOpenAs at new result s
      → StandsWith at new (turned_last new Publish result h)
  published_open_turns s is outside same (Ok done) p =
      let l = locked_open s _ is.number.none same p in
      words_set_turn (moved (with_locks (locks_with s (wants_to_set s)) s) p.holds.view) outside
      l.0 l.1 p.holds.holds
  published_open_turns s is outside same (Err refusal.Stopped) p = ⊎_elim
      (λ (w : WaitWasStopped at new s (wants_to_set s)).
      let told = wait_told at new s (wants_to_set s) w in
      let drawn : new.drawn ≡ None = ap (λ (f : Fields). f.drawn) w.fields in
      stopped_in at new h s.view Publish
      (ap (λ (f : Fields). f.stopped) w.fields)
      (wait_is_stopped at new s (wants_to_set s) is.facts w) told.told.fixed same
      (ap (λ (x : LaneHistory). x.done) (nothing_history s.view _ h told same).is
      ∙ sym (ap (λ d. (told_by d Publish None h).done) drawn))
      (ends_untold new.drawn _ drawn (told_open s.view _ told.told is.number.none))
      (λ n e. refl) (λ _. wait_unwritten at new s (wants_to_set s) is.working w)
      (stopped_before Publish (Publishes (λ i. 0) 0) _ h (told_by new.drawn Publish None h) refl
      (by_operations new.drawn Publish None h (goes_on s.view h same))
      (nothing_history s.view _ h told same)))
      (λ (a : AfterLocks s (WordsSetAs at new (Err refusal.Stopped))).
      let l = locked_open s _ is.number.none same a in
      cut_publish_turns (moved (with_locks (locks_with s (wants_to_set s)) s) a.holds.view)
      l.0 l.1 a.holds.holds) p
  published_open_turns s is outside same (Err refusal.NoObject) p =
      let tried = tried_told s (wants_to_set s) p.all p.view p.tried in
      unpublished_turns (with_locks p.all (moved s p.view)) outside
      (told_open s.view p.view tried.told is.number.none) (nothing_history s.view p.view h tried same)
      refusal.NoObject p.refused
  published_open_turns s is outside same (Err refusal.OutOfRange) p =
      let l = locked_open s _ is.number.none same p in
      unpublished_turns (moved (with_locks (locks_with s (wants_to_set s)) s) p.holds.view) outside
      l.0 l.1 refusal.OutOfRange p.holds.holds.1
  published_open_turns s is outside same (Err r) p = absurd p

  published_alone_turns : (s : Standing) → s.level ≡ 0 → MayOpen s → HasHistory s.view h
      → h.call ≡ [] → (result : Result (Unit {0}) Refusal) → PublishedAloneAs at new result s
      → StandsWith at new (turned_alone new Publish result h)
  published_alone_turns s outside may same none (Err refusal.Spent) p =
      spent_stands at new h s outside may p same none
  published_alone_turns s outside may same none result p =
      published_open_turns (saw_number s p.number) p.opened outside
      (saw_history s p.number h same none) result p.holds

  pub published_outside_turns : (result : Result (Unit {0}) Refusal) → StandsWith at old h
      → PublishedOutside at old new result
      → StandsWith at new (if_outside old.stopped old.level (turned_alone new Publish result h) h)
  unfolding PublishedOutside
  published_outside_turns result stands published = by old.stopped old.level refl refl published
    where
      by : (stopped : Bool) (level : ℕ) → old.stopped ≡ stopped → old.level ≡ level
          → PublishedBy stopped level at old new result
          → StandsWith at new (if_outside stopped level (turned_alone new Publish result h) h)
      by true level going some p = same_stands at old new h stands p.1
      by false (suc n) going some p = same_stands at old new h stands p.1
      by false zero going outside p =
          let here = stands.between going outside in
          let s = here.0.standing in
          published_alone_turns s
          (sym (ap (λ (f : Fields). f.level) here.0.rests.fields) ∙ outside) here.0.between here.1
          here.2 result (p s here.0.rests here.0.between)

  -- ---- the end of its work

  pub finished_has_facts : (result : Result (Unit {0}) Refusal) → StandsWith at old h
      → (old.stopped ≡ false → old.level ≡ 0) → Finished at old new result
      → (x : IsLaneStopped at new) × (calls_ended x.view ≡ h.done)
      × (x.view.fixed.lane ≡ h.lane) × EndsOpen old.drawn x.view
      × (is_adding_in h.within ≡ false → WritesNoRecord x.view) × StoppedWith x.view h
  unfolding Finished
  finished_has_facts result stands outside finished = by old.stopped refl finished where
    by : (stopped : Bool) → old.stopped ≡ stopped → FinishedSo stopped at old new result
        → (x : IsLaneStopped at new) × (calls_ended x.view ≡ h.done)
        × (x.view.fixed.lane ≡ h.lane) × EndsOpen old.drawn x.view
        × (is_adding_in h.within ≡ false → WritesNoRecord x.view) × StoppedWith x.view h
    by true is f = subst
        (λ (lane : Lane M). (x : IsLaneStopped at lane) × (calls_ended x.view ≡ h.done)
        × (x.view.fixed.lane ≡ h.lane) × EndsOpen old.drawn x.view
        × (is_adding_in h.within ≡ false → WritesNoRecord x.view) × StoppedWith x.view h)
        (sym f.1) (stands.stopped is)
    by false is f =
        let here = stands.between is (outside is) in (
          record {
            view = here.0.standing.view;
            seen = (f.1 here.0.standing here.0.rests).memory;
            facts = may_open_facts here.0.standing here.0.between;
            due = λ e. absurd (both_ways new.stopped
                (ap (λ (g : Fields). g.stopped) (f.1 here.0.standing here.0.rests).fields) e);
          },
          ap (λ (x : LaneHistory). x.done) here.1.is,
          ap (λ (x : LaneHistory). x.lane) here.1.is,
          subst (λ d. EndsOpen d here.0.standing.view)
              (sym (ap (λ (g : Fields). g.drawn) here.0.rests.fields))
              (may_open_ends here.0.standing here.0.between),
          λ _. may_open_unwritten here.0.standing here.0.between,
          has_stopped here.0.standing.view h here.1,
        )

-- ---- SO IT STANDS, with whatever history

module _ {M : Type 0} (at : M → View → Type 0) (old new : Lane M) where
  pub asked_by_level_stands : (op : Operation) → IsCallAlone op → is_recorded_alone op ≡ true
      → (result : Result (Unit {0}) Refusal)
      → Stands at old
      → ByLevel old (AskedOutside at old new op result) (Asked at old new op result)
      → Stands at new
  asked_by_level_stands op alone told result stands did =
      stands_turned at old new _
      (λ h w. asked_by_level_turns at old new h op alone told result w did) stands

  pub cancelled_by_level_stands : (result : Result (Unit {0}) Refusal) → Stands at old
      → ByLevel old (AskedOutside at old new Cancel result) (Cancelled at old new result)
      → Stands at new
  cancelled_by_level_stands result stands did =
      stands_turned at old new _
      (λ h w. cancelled_by_level_turns at old new h result w did) stands

  pub published_outside_stands : (result : Result (Unit {0}) Refusal) → Stands at old
      → PublishedOutside at old new result → Stands at new
  published_outside_stands result stands did =
      stands_turned at old new _
      (λ h w. published_outside_turns at old new h result w did) stands
