-- A LANE FOR WHOSE NEXT CALL NO NUMBER IS LEFT, from what the call says that it did.
use Rattle.std.proofs.Common.{◌≡◌, inl, inr, ⊎_elim, Bool, true, false, Contains, List, ◌∷◌}
use Rattle.std.proofs.Common.{Some, Result, Err, refl, sym, ap, ◌∙◌, subst, arith}
use Rattle.std.proofs.lemmas.Bool.{both_ways}
use Rattle.pm_objects.specs.declared.calls.Operation.{Operation}
use Rattle.pm_objects.specs.declared.calls.Want.{Want}
use Rattle.pm_objects.specs.declared.refusal.Refusal.{Refusal}
use Rattle.pm_objects.specs.declared.refusal.Refusal.TheVariants as refusal
use Rattle.pm_view.specs.Log.{Log, is_early}
use Rattle.pm_view.specs.Steps.{Step}
use Rattle.pm_view.specs.View.{View}
use Rattle.pm_world.specs.LaneFields.{Fields, Rests, Standing}
use Rattle.pm_world.specs.declared.lane.Lane.{Lane}
use Rattle.pm_call.specs.Between.{MayOpen, saw_number}
use Rattle.pm_call.specs.Did.{work_refusal}
use Rattle.pm_call.specs.Histories.{LaneHistory, calls_ended}
use Rattle.pm_call.specs.Opening.{NoneIsLeft, OutermostBegun}
use Rattle.pm_call.specs.Positions.{Position, position_of, resting}
use Rattle.pm_call.specs.Standing.{HasHistory, IsLaneStopped, StandsWith, StoppedWith}
use Rattle.pm_call.proofs.HasHistories.{has_stopped}
use Rattle.pm_call.proofs.OpenedCalls.{look_may_open}
use Rattle.pm_call.proofs.StoppedLanes.{may_open_facts}
use Rattle.pm_call.proofs.StoppedNumbers.{may_open_ends}
use Rattle.pm_call.proofs.ToldLooks.{saw_history}
use Rattle.pm_crash.specs.Fates.{EndsOpen}
use Rattle.pm_root.specs.Root.{FoundBy, RootFound}
use Rattle.pm_tx.specs.Begins.{LevelBegun, LevelBegunSo}
use Rattle.pm_action.specs.Calls.{ByLevel, IfOutside}
use Rattle.pm_action.specs.Outside.{AskedOutside, Finished, FinishedSo}
use Rattle.pm_action.specs.Publications.{PublishedBy, PublishedOutside}
use Rattle.pm_call.specs.Unwritten.{WritesNoRecord}
use Rattle.pm_call.proofs.UnwrittenRests.{may_open_unwritten}
use Rattle.pm_exec.specs.Answers.{IsSpent, IsSpentView}
use Rattle.pm_exec.specs.Running.{SpentClosed}

first : (s : Step) (rest : List Step) → Contains (s ∷ rest) s
first s rest = (0, omega arith, refl)

module _ {M : Type 0} (at : M → View → Type 0) (old new : Lane M) (h : LaneHistory)
    (stands : StandsWith at old h) (going : old.stopped ≡ false) (outside : old.level ≡ 0) where
  abbrev s : Standing
  s = (stands.between going outside).0.standing

  abbrev rests : Rests at old s
  rests = (stands.between going outside).0.rests

  abbrev between : MayOpen s
  between = (stands.between going outside).0.between

  pub spent_so : NoneIsLeft at new s → StandsWith at new h → position_of new ≡ resting
      → IsSpent at new h
  spent_so none then here =
      let was = stands.between going outside in ⊎_elim
      (λ z. record {
        stands = then;
        here = here;
        standing = s;
        rests = z.1;
        between = between;
        same = was.1;
        none = inl z.0;
      })
      (λ z. record {
        stands = then;
        here = here;
        standing = saw_number s z.0;
        rests = z.2;
        between = look_may_open s z.0 between;
        same = saw_history s z.0 h was.1 was.2;
        none = inr (z.0, z.1, first _ _);
      }) none

  pub begin_spent : (wants : List Want) → work_refusal old ≡ Some refusal.NoTx
      → LevelBegun at old new wants (Err refusal.Spent) → StandsWith at new h
      → position_of new ≡ resting → IsSpent at new h
  unfolding LevelBegun OutermostBegun
  begin_spent wants none did =
      let d : OutermostBegun at old new wants (Err refusal.Spent) =
      subst (λ w. LevelBegunSo w at old new wants (Err refusal.Spent)) none did in
      spent_so (d s rests between)

  pub asked_spent : (op : Operation) (result : Result (Unit {0}) Refusal) (inside : Type 0)
      → ByLevel old (AskedOutside at old new op result) inside → result ≡ Err refusal.Spent
      → StandsWith at new h → position_of new ≡ resting → IsSpent at new h
  unfolding ByLevel AskedOutside
  asked_spent op result inside did is =
      let one : IfOutside false old.level (AskedOutside at old new op result) inside =
      subst (λ (b : Bool). IfOutside b old.level (AskedOutside at old new op result) inside) going did in
      let d : AskedOutside at old new op (Err refusal.Spent) =
      subst (AskedOutside at old new op) is
      (subst (λ n. IfOutside false n (AskedOutside at old new op result) inside) outside one) in
      spent_so (d s rests between)

  pub publish_spent : PublishedOutside at old new (Err refusal.Spent) → StandsWith at new h
      → position_of new ≡ resting → IsSpent at new h
  unfolding PublishedOutside
  publish_spent did =
      let one : PublishedBy false old.level at old new (Err refusal.Spent) =
      subst (λ (b : Bool). PublishedBy b old.level at old new (Err refusal.Spent)) going did in
      let d : PublishedBy false 0 at old new (Err refusal.Spent) =
      subst (λ n. PublishedBy false n at old new (Err refusal.Spent)) outside one in
      spent_so (d s rests between)

  pub root_spent : RootFound at old new (Err refusal.Spent) → StandsWith at new h
      → position_of new ≡ resting → IsSpent at new h
  unfolding RootFound
  root_spent did =
      let one : FoundBy false old.level at old new (Err refusal.Spent) =
      subst (λ (b : Bool). FoundBy b old.level at old new (Err refusal.Spent)) going did in
      let d : FoundBy false 0 at old new (Err refusal.Spent) =
      subst (λ n. FoundBy false n at old new (Err refusal.Spent)) outside one in
      spent_so (d s rests between)

-- ---- ITS END: nothing is left to do, and its view stays

-- the call of a lane between two calls has no number
may_open_early : (s : Standing) → MayOpen s → is_early s.view.log.phase ≡ true
may_open_early s may = ⊎_elim
    (λ e. ap (λ (t : Standing). is_early t.view.log.phase) e
    ∙ ap (λ (l : Log). is_early l.phase) may.between.over.log)
    (λ z. ap (λ (t : Standing). is_early t.view.log.phase) z.1) may.since

-- the lane that was between two calls makes none any more, with the view that it had
pub record RestClosed {M : Type 0} (at : M → View → Type 0) (old new : Lane M) (h : LaneHistory)
    (v : View) : Type 0 where
  pub stops : IsLaneStopped at new
  pub is : stops.view ≡ v
  pub done : calls_ended stops.view ≡ h.done
  pub lane : stops.view.fixed.lane ≡ h.lane
  pub ends : EndsOpen old.drawn stops.view
  pub unwritten : WritesNoRecord stops.view
  pub plans : StoppedWith stops.view h

pub rest_closed : {M : Type 0} (at : M → View → Type 0) (old new : Lane M)
    (result : Result (Unit {0}) Refusal) → Finished at old new result → old.stopped ≡ false
    → (h : LaneHistory) (s : Standing) → Rests at old s → MayOpen s → HasHistory s.view h
    → RestClosed at old new h s.view
unfolding Finished
rest_closed at old new result did going h s rests between same =
    let d : FinishedSo false at old new result =
    subst (λ (b : Bool). FinishedSo b at old new result) going did in
    let seen = d.1 s rests in record {
      stops = record {
        view = s.view;
        seen = seen.memory;
        facts = may_open_facts s between;
        due = λ e.
            absurd (both_ways new.stopped (ap (λ (f : Fields). f.stopped) seen.fields) e);
      };
      is = refl;
      done = ap (λ (x : LaneHistory). x.done) same.is;
      lane = ap (λ (x : LaneHistory). x.lane) same.is;
      ends = subst (λ d. EndsOpen d s.view) (sym (ap (λ (f : Fields). f.drawn) rests.fields))
          (may_open_ends s between);
      unwritten = may_open_unwritten s between;
      plans = has_stopped s.view h same;
    }

pub spent_closed : {M : Type 0} (at : M → View → Type 0) (old new : Lane M)
    (result : Result (Unit {0}) Refusal) → Finished at old new result → (h : LaneHistory)
    → IsSpent at old h → SpentClosed at old new h
spent_closed at old new result did h is =
    let c = rest_closed at old new result did (ap (λ (p : Position). p.stopped) is.here) h
    is.standing is.rests is.between is.same in record {
      stops = c.stops;
      done = c.done;
      lane = c.lane;
      ends = c.ends;
      spent = subst IsSpentView (sym c.is)
          (record { none = is.none; early = may_open_early is.standing is.between });
      unwritten = c.unwritten;
      plans = c.plans;
    }
