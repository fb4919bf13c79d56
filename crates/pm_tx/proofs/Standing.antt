-- A LANE STANDS WITH ITS HISTORY TURNED after each call on a range, and each that commits, publishes
-- or aborts, from what the call says that it did.
use Rattle.std.proofs.Common.{◌≡◌, ◌≢◌, ℕ, zero, suc, ◌==◌, ◌≤◌, Bool, true, false, if◌then◌else◌, List, map, Option, Some, None, Result, Ok, Err, refl, sym, ap, ◌∙◌, subst, arith}
use Rattle.pm_model.specs.Inside.{error_for}
use Rattle.pm_model.specs.declared.stage.Stage.{Stage}
use Rattle.pm_model.specs.declared.stage.Stage.TheVariants as stage
use Rattle.pm_crash.specs.Sim.{lists_of}
use Rattle.pm_objects.specs.declared.calls.Operation.{Operation}
use Rattle.pm_objects.specs.declared.calls.Operation.TheVariants.{Abort, AddRange, Commit, Increment, Publish, Read, Write}
use Rattle.pm_objects.specs.declared.history.TxErr.TheVariants as error
use Rattle.pm_objects.specs.declared.history.Value.TheVariants.{Bytes, Number, Refused}
use Rattle.pm_objects.specs.declared.ids.Oid.{Oid}
use Rattle.pm_objects.specs.declared.refusal.Refusal.{Refusal}
use Rattle.pm_objects.specs.declared.refusal.Refusal.TheVariants as refusal
use Rattle.pm_plan.specs.Plans.{one}
use Rattle.pm_view.specs.Steps.Step.{Tell}
use Rattle.pm_view.specs.View.{View}
use Rattle.pm_view.specs.Views.{after, after_all}
use Rattle.pm_world.specs.LaneFields.{Fields, Standing, moved}
use Rattle.pm_world.specs.declared.lane.Lane.{Lane}
use Rattle.pm_call.specs.Adding.{HasCounted}
use Rattle.pm_call.specs.At.{At, set_entry}
use Rattle.pm_call.specs.Did.{Did, next, work_refusal}
use Rattle.pm_call.specs.Histories.{LaneHistory, no_value, told_more, turned, turned_commit, turned_last, unless}
use Rattle.pm_call.specs.Incrementing.{HasSum}
use Rattle.pm_call.specs.Planned.{entries_to_log}
use Rattle.pm_call.specs.Planned.Planned.{Records}
use Rattle.pm_call.specs.Plans.{adds, commits_inner, gets, increments, known_sum, puts, tells}
use Rattle.pm_call.specs.Publishing.{words_entered}
use Rattle.pm_call.specs.Reading.{HasRead}
use Rattle.pm_call.specs.Stages.{end_refusal, next_stage}
use Rattle.pm_call.specs.Standing.{HasHistory, Stands, StandsWith}
use Rattle.pm_call.proofs.HasHistories.{plan_tells}
use Rattle.pm_call.proofs.Standing.{aborted_call_stands, committed_call_stands, cut_commit_stands, cut_rollback_stands, did_turns, over_inner, past_stands, refused_stands, same_stands, stands_turned, working_stands}
use Rattle.pm_call.proofs.SilentPlans.{IsAsTold}
use Rattle.pm_call.proofs.ToldLooks.{looks_told, nothing_history, told_open}
use Rattle.pm_call.proofs.ToldPlans.{adds_tell, increments_tell, inner_commits_tell, reads_tell, tells_history, writes_tell}
use Rattle.pm_tx.specs.Commits.{InnerEnds, LevelCommitted, LevelCommittedSo, LevelEnds, OutermostEnds, PassedSo, Processed, ProcessedFrom}
use Rattle.pm_tx.specs.Outcome.{Aborted, AbortedAs, AbortedSo}
use Rattle.pm_tx.specs.Publishing.{Published, PublishedAs, PublishedSo}
use Rattle.pm_tx.specs.Standing.{read_bytes, summed, turned_level, turned_stage, uncounted}

module _ {M : Type 0} (at : M → View → Type 0) (old new : Lane M) (h : LaneHistory) where
  -- ---- ranges

  pub added_turns : (id : Oid) (off len : ℕ) (result : Result ℕ Refusal) → StandsWith at old h
      → Did at old new (AddRange id off len) (λ v. adds id off len) (HasCounted id off len) result
      → StandsWith at new
      (unless (work_refusal old) (turned new (AddRange id off len) uncounted result h) h)
  added_turns id off len = did_turns at old new h (AddRange id off len) (λ v. adds id off len)
      (HasCounted id off len) (λ v w. None) uncounted (λ v. adds_tell id off len) (λ v n is. refl)

  pub written_turns : (id : Oid) (off : ℕ) (bytes : List ℕ) (result : Result (Unit {0}) Refusal)
      → StandsWith at old h
      → Did at old new (Write id off bytes) (λ v. puts id off bytes) (λ v done. Unit) result
      → StandsWith at new
      (unless (work_refusal old) (turned new (Write id off bytes) no_value result h) h)
  written_turns id off bytes = did_turns at old new h (Write id off bytes)
      (λ v. puts id off bytes) (λ v (done : Unit {0}). Unit {0}) (λ v w. None) no_value
      (λ v. writes_tell id off bytes) (λ v n is. refl)

  pub read_turns : (id : Oid) (off len : ℕ) (into : List ℕ) (result : Result (Unit {0}) Refusal)
      → StandsWith at old h
      → Did at old new (Read id off len) (λ v. gets id off len) (HasRead id off len into) result
      → StandsWith at new
      (unless (work_refusal old) (turned new (Read id off len) (read_bytes into) result h) h)
  read_turns id off len into = did_turns at old new h (Read id off len) (λ v. gets id off len)
      (HasRead id off len into) _ (read_bytes into) (λ v. reads_tell id off len)
      (λ v n is. ap (λ bytes. Some (Bytes bytes)) (sym is))

  pub incremented_turns : (id : Oid) (off by : ℕ) (result : Result ℕ Refusal)
      → StandsWith at old h
      → Did at old new (Increment id off by) (λ v. increments id off by) (HasSum id off by) result
      → StandsWith at new
      (unless (work_refusal old) (turned new (Increment id off by) summed result h) h)
  incremented_turns id off by = did_turns at old new h (Increment id off by)
      (λ v. increments id off by) (HasSum id off by)
      (λ v w. Some (Number (known_sum w id off by))) summed (λ v. increments_tell id off by)
      (λ v n is. ap summed (sym is))

  -- ---- a commit

  inner_turns : (s : Standing) (result : Result (Unit {0}) Refusal) → At s → 2 ≤ s.level
      → HasHistory s.view h → InnerEnds at new result s
      → StandsWith at new (turned new Commit no_value result h)
  inner_turns s (Ok done) is inner same ends =
      past_stands at new (told_more Commit None h) (next s commits_inner) stage.OnCommit error.None
      ends.1 (plan_tells (Records Commit None refl) Commit None s.view (next s commits_inner).view h
      refl refl same (inner_commits_tell.whole s.view is.number.none))
      (over_inner s.level (told_more Commit None h) inner)
  inner_turns s (Err r) is inner same ends = absurd ends

  -- looks leave what was published as it is
  logs_same : (v w : View) → IsAsTold v w → entries_to_log v ≡ entries_to_log w
  logs_same v w told = λ i. map set_entry (lists_of (record v {
    call = (sym told.call) i;
    entries = (sym told.entries) i;
  })).sets

  outermost_turns : (s : Standing) → s.level ≡ 1 → s.entries ≡ entries_to_log s.view
      → s.view.number ≡ None → HasHistory s.view h
      → (result : Result (Unit {0}) Refusal) → OutermostEnds at new result s
      → StandsWith at new (turned_last new Commit result h)
  outermost_turns s outermost sets none same (Ok done) ends =
      committed_call_stands at new h s outermost sets none same ends
  outermost_turns s outermost sets none same (Err refusal.Stopped) ends =
      cut_commit_stands at new h s sets none same ends
  outermost_turns s outermost sets none same (Err r) ends = absurd ends

  level_turns : (s : Standing) (result : Result (Unit {0}) Refusal) (n : ℕ) → s.level ≡ n → At s
      → HasHistory s.view h → LevelEnds at new result n s
      → StandsWith at new (turned_commit n new result h)
  level_turns s result zero is work same ends =
      absurd (let some = work.some in omega (arith, is, some))
  level_turns s result (suc zero) is work same ends =
      let looked = looks_told ends.looks s.view ends.view ends.looked in
      outermost_turns (moved s ends.view) is
      (work.lists.sets ∙ logs_same s.view ends.view looked.told)
      (told_open s.view ends.view looked.told work.number.none)
      (nothing_history s.view ends.view h looked same) result ends.holds
  level_turns s result (suc (suc n)) is work same ends =
      inner_turns s result work (omega (arith, is)) same ends

  pub committed_turns : (result : Result (Unit {0}) Refusal) → StandsWith at old h
      → LevelCommitted at old new result → StandsWith at new (turned_level old new result h)
  unfolding LevelCommitted
  committed_turns result stands committed = by (work_refusal old) refl committed where
    by : (w : Option Refusal) → work_refusal old ≡ w → LevelCommittedSo w at old new result
        → StandsWith at new (unless w (turned_commit old.level new result h) h)
    by (Some r) some d = same_stands at old new h stands d.1
    by None none d =
        let here = stands.work none in
        let s = here.0.standing in
        let level : old.level ≡ s.level = ap (λ (f : Fields). f.level) here.0.works.fields in
        level_turns s result old.level (sym level) here.0.stands here.1
        (subst (λ n. LevelEnds at new result n s) (sym level) (d s here.0.works here.0.stands))

  -- ---- a step to the next stage

  passed_stands : (result : Result (Unit {0}) Refusal) → StandsWith at old h
      → PassedSo (end_refusal old) at old new result → StandsWith at new h
  passed_stands result stands passed = by (end_refusal old) refl passed where
    by : (w : Option Refusal) → end_refusal old ≡ w → PassedSo w at old new result
        → StandsWith at new h
    by (Some r) some d = same_stands at old new h stands d.1
    by None none d =
        let here = stands.past none in
        let p = here.0 in
        past_stands at new h p.standing (next_stage p.stage) p.error
        (d p.standing p.stage p.error p.stands).1 here.1 here.2

  pub processed_turns : (result : Result (Unit {0}) Refusal) → StandsWith at old h
      → Processed at old new result → StandsWith at new (turned_stage old.stage old new result h)
  unfolding Processed
  processed_turns result stands processed = by old.stage processed where
    by : (st : Stage) → ProcessedFrom st at old new result
        → StandsWith at new (turned_stage st old new result h)
    by stage.Work p = committed_turns result stands p
    by st p = passed_stands result stands p

  -- ---- an abort

  is_error : (errnum : ℕ) → error_for errnum ≢ error.None
  is_error errnum = by (errnum == 0) where
    by : (b : Bool) → (if b then error.Canceled else error.User errnum) ≢ error.None
    by true e = cc
    by false e = cc

  abort_turns : (errnum : ℕ) (s : Standing) → At s → HasHistory s.view h
      → (result : Result (Unit {0}) Refusal) → AbortedAs at new errnum result s
      → StandsWith at new (turned_last new (Abort errnum) result h)
  abort_turns errnum s is same (Ok done) a =
      aborted_call_stands at new h s (Abort errnum) None (error_for errnum) is.some is.most
      (is_error errnum) refl is.number.none same a
  abort_turns errnum s is same (Err refusal.Stopped) a =
      cut_rollback_stands at new h s (Abort errnum) None a.0 refl is.number.none same a.1
  abort_turns errnum s is same (Err r) a = absurd a

  pub aborted_turns : (errnum : ℕ) (result : Result (Unit {0}) Refusal) → StandsWith at old h
      → Aborted at old new errnum result
      → StandsWith at new (unless (work_refusal old) (turned_last new (Abort errnum) result h) h)
  unfolding Aborted
  aborted_turns errnum result stands aborted = by (work_refusal old) refl aborted where
    by : (w : Option Refusal) → work_refusal old ≡ w → AbortedSo w at old new errnum result
        → StandsWith at new (unless w (turned_last new (Abort errnum) result h) h)
    by (Some r) some d = same_stands at old new h stands d.1
    by None none d =
        let here = stands.work none in
        abort_turns errnum here.0.standing here.0.stands here.1 result
        (d here.0.standing here.0.works here.0.stands)

  -- ---- a publish

  told_once : (v : View) (op : Operation) → after v (Tell op None) ≡ after_all v (tells op None v)
  unfolding one after_all
  told_once v op = refl

  publish_turns : (s : Standing) → 1 ≤ s.level → s.level ≤ 64 → s.view.number ≡ None
      → HasHistory s.view h → (result : Result (Unit {0}) Refusal) → PublishedAs at new result s
      → StandsWith at new (turned new Publish no_value result h)
  publish_turns s some most none same (Ok done) p =
      working_stands at new (told_more Publish None h) (words_entered s) p.works p.stands
      (plan_tells (Records Publish None refl) Publish None s.view (words_entered s).view h refl
      (told_once s.view Publish) same (tells_history Publish None s.view none))
  publish_turns s some most none same (Err refusal.Stopped) p =
      cut_rollback_stands at new h s Publish (Some (Refused p.refusal)) p.number refl none same p.cut
  publish_turns s some most none same (Err r) p =
      refused_stands at new h s some most Publish r none same p

  pub published_turns : (result : Result (Unit {0}) Refusal) → StandsWith at old h
      → Published at old new result
      → StandsWith at new (unless (work_refusal old) (turned new Publish no_value result h) h)
  unfolding Published
  published_turns result stands published = by (work_refusal old) refl published where
    by : (w : Option Refusal) → work_refusal old ≡ w → PublishedSo w at old new result
        → StandsWith at new (unless w (turned new Publish no_value result h) h)
    by (Some r) some d = same_stands at old new h stands d.1
    by None none d =
        let here = stands.work none in
        let s = here.0.standing in
        let t = d s here.0.works here.0.stands in
        let looked = looks_told t.looks s.view t.view t.looked in
        publish_turns (moved s t.view) here.0.stands.some here.0.stands.most
        (told_open s.view t.view looked.told here.0.stands.number.none)
        (nothing_history s.view t.view h looked here.1) result t.holds

-- ---- SO IT STANDS, with whatever history

module _ {M : Type 0} (at : M → View → Type 0) (old new : Lane M) where
  pub added_stands : (id : Oid) (off len : ℕ) (result : Result ℕ Refusal) → Stands at old
      → Did at old new (AddRange id off len) (λ v. adds id off len) (HasCounted id off len) result
      → Stands at new
  added_stands id off len result stands did =
      stands_turned at old new _
      (λ h w. added_turns at old new h id off len result w did) stands

  pub written_stands : (id : Oid) (off : ℕ) (bytes : List ℕ) (result : Result (Unit {0}) Refusal)
      → Stands at old
      → Did at old new (Write id off bytes) (λ v. puts id off bytes) (λ v done. Unit) result
      → Stands at new
  written_stands id off bytes result stands did =
      stands_turned at old new _
      (λ h w. written_turns at old new h id off bytes result w did) stands

  pub read_stands : (id : Oid) (off len : ℕ) (into : List ℕ) (result : Result (Unit {0}) Refusal)
      → Stands at old
      → Did at old new (Read id off len) (λ v. gets id off len) (HasRead id off len into) result
      → Stands at new
  read_stands id off len into result stands did =
      stands_turned at old new _
      (λ h w. read_turns at old new h id off len into result w did) stands

  pub incremented_stands : (id : Oid) (off by : ℕ) (result : Result ℕ Refusal) → Stands at old
      → Did at old new (Increment id off by) (λ v. increments id off by) (HasSum id off by) result
      → Stands at new
  incremented_stands id off by result stands did = stands_turned at old new _
      (λ h w. incremented_turns at old new h id off by result w did) stands

  pub committed_stands : (result : Result (Unit {0}) Refusal) → Stands at old
      → LevelCommitted at old new result → Stands at new
  committed_stands result stands did =
      stands_turned at old new _
      (λ h w. committed_turns at old new h result w did) stands

  pub processed_stands : (result : Result (Unit {0}) Refusal) → Stands at old
      → Processed at old new result → Stands at new
  processed_stands result stands did =
      stands_turned at old new _
      (λ h w. processed_turns at old new h result w did) stands

  pub aborted_stands : (errnum : ℕ) (result : Result (Unit {0}) Refusal) → Stands at old
      → Aborted at old new errnum result → Stands at new
  aborted_stands errnum result stands did =
      stands_turned at old new _
      (λ h w. aborted_turns at old new h errnum result w did) stands

  pub published_stands : (result : Result (Unit {0}) Refusal) → Stands at old
      → Published at old new result → Stands at new
  published_stands result stands did =
      stands_turned at old new _
      (λ h w. published_turns at old new h result w did) stands
