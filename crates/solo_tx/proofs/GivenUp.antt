-- A call at work may be given up, and then it is over.
use Rattle.std.proofs.Common.{◌≡◌, ℕ, ◌+◌, ◌-◌, ◌/◌, ◌<◌, ◌≤◌, ⊎_elim, All, inl, inr, List, [], ◌∷◌, ◌++◌, map, length, length-append, take, Option, Err, Ok, None, Some, true, false, refl, sym, ap, ◌∙◌, subst, arith}
use Rattle.std.specs.List.{IsDistinct}
use Rattle.std.specs.Prelude.{nat_eq}
use Rattle.solo_crash.proofs.EndedCalls.{aborted_makes_its_step}
use Rattle.solo_crash.specs.HeldHistory.{IsEndedCall}
use Rattle.solo_crash.specs.OpenCall.{IsGivenUp, WasAborted}
use Rattle.solo_crash.specs.Reserved.{IsBorneOut}
use Rattle.solo_crash.specs.Operations.{TakesBack, Tells}
use Rattle.pm_objects.specs.declared.calls.Operation.{Operation}
use Rattle.pm_objects.specs.declared.history.TxErr.{TxErr}
use Rattle.pm_objects.specs.declared.history.Value.{Value}
use Rattle.solo_memory.specs.declared.lane_mem.Stopped.{Stopped}
use Rattle.solo_undo.specs.Working.{IsWorking}
use Rattle.solo_view.proofs.Sequences.{after_all-append}
use Rattle.solo_view.specs.Constants.{IsSameLane}
use Rattle.solo_view.specs.Log.{Log, log_drawn, no_log}
use Rattle.solo_view.specs.Log.Phase.{Idle}
use Rattle.solo_view.specs.Steps.{Step}
use Rattle.solo_view.specs.Steps.Step.{NumberSeen, Tell}
use Rattle.solo_view.specs.View.{Lock, View, Numbered, Told}
use Rattle.solo_view.specs.Views.{after, after_all}
use Rattle.solo_world.proofs.Plain.{empty_plain}
use Rattle.solo_world.proofs.Sequencing.{ready_both}
use Rattle.solo_world.specs.Lanes.{IsSeenAs, last_number_of, lock_of, span_of}
use Rattle.solo_world.specs.Lawful.{MayDraw, MayTell}
use Rattle.solo_world.specs.Opening.{Opening}
use Rattle.solo_world.specs.Sequences.{Ready, Runs, in_turn, one}
use Rattle.solo_world.specs.declared.lane.Lane.{Lane}
use Rattle.solo_world.specs.declared.lane.Span.{Span}
use Rattle.solo_world.proofs.Shapes.{IsOfSamePool, shape_seen}
use Rattle.solo_lock.proofs.Drawless.{drawless, drawn_in_turn}
use Rattle.solo_lock.specs.Begun.{HoldsLines, MayCome}
use Rattle.solo_lock.specs.Leading.{DrawEnded}
use Rattle.solo_lock.specs.Resting.{HasPlace}
use Rattle.solo_tx.specs.AtWork.{IsAtWork}
use Rattle.solo_memory.specs.Runs.{Stops}
use Rattle.std.proofs.lemmas.Bool.{cases_lt}
use Rattle.std.proofs.lemmas.List.{take-append-le}
use Rattle.std.proofs.Math.Seq.{take-append-add}
use Rattle.std.proofs.lemmas.Option.{none-some}
use Rattle.solo_tx.proofs.Fronts.{front_undrawn}
use Rattle.solo_tx.specs.Ending.{told_more, drawn_more, EndsGivenUp, GivesUpBy, IsAfterCall, IsEndedBy, IsOver, IsReadyForAny, IsStoppedIn, IsTakenBack, IsUndrawn, IsWorkingLane}
use Rattle.solo_tx.specs.Sequences.{ends_call, gives_up, takes_back}
use Rattle.solo_tx.proofs.TakenBack.{take_back_lawful}

-- the call came to this operation, and its entry is the last
abbrev pub IsLast : View → View → ℕ → Operation → Option Value → Type 0
IsLast v w n operation reply = (w.call ≡ told_more v.call operation reply) × (w.entries ≡ drawn_more v.entries n w.call)

-- the number of the last of some entries
pub last_behind : (entries : List Numbered) (e : Numbered) → last_number_of (entries ++ e ∷ []) ≡ e.number
last_behind [] e = refl
last_behind (d ∷ []) e = refl
last_behind (c ∷ d ∷ entries) e = last_behind (d ∷ entries) e

-- a call that was given up, with no record and no entry, is an ended one
ended_so : (v : View) (error : TxErr) → EndsGivenUp v error → v.log.records ≡ [] → v.log.entries ≡ [] → IsEndedCall v
ended_so v error ends none unentered = ⊎_elim
    (λ (given_up : IsGivenUp v error). inr (inl (error, given_up, none, unentered)))
    (λ (aborted : WasAborted v error × IsBorneOut v). inr (inr (aborted_makes_its_step v error aborted.0 none unentered, aborted.1)))
    ends

module _ (v m : View) (working : IsWorking v) (may : MayCome v) (back : IsTakenBack v m) (operation : Operation) (reply : Option Value) where
  abbrev pub told : View
  told = after m (Tell operation reply)

  may_draw : MayDraw told
  may_draw = record {
    is_open = ap (λ (log : Log). log.phase) back.log;
    first = back.call.number ∙ working.undrawn;
    drained = inl back.drained;
    found = may.found;
    seen = back.call.seen (NumberSeen may.found) may.seen;
    below = may.below;
    entered = inl (ap (λ (log : Log). log.entries) back.log);
  }

  pub end_ready : (n : ℕ) → Ready m (ends_call operation reply n m)
  unfolding ends_call in_turn one Ready after_all
  end_ready n = (subst (λ (log : Log). MayTell log.phase) (sym back.log) tt, tt, (may_draw, tt, tt))

  pub end_is_over : (n : ℕ) → IsOver v (after_all m (ends_call operation reply n m)) n
  unfolding ends_call in_turn one after_all
  end_is_over n =
      let lane = back.call.lane in
      record {
        lane = record { lanes = lane.lanes; zones = lane.zones; pool = lane.pool; lane = lane.lane; stop = lane.stop; table = lane.table; size = lane.size };
        locks = back.call.locks;
        log = ap (λ (log : Log). log_drawn log.phase log) back.log;
        drained = back.drained;
        number = refl;
        last = last_behind m.entries (record { number = n; call = told.call });
      }

  tells : Tells v told operation reply
  tells =
      let lane = back.call.lane in
      record {
        keeps = record { lanes = lane.lanes; zones = lane.zones; pool = lane.pool; lane = lane.lane; entries = back.call.entries; known = back.call.remembers };
        locks = back.call.locks;
        call = ap (λ (call : List Told). call ++ record { operation = operation; reply = reply } ∷ []) back.call.call;
      }

  taken_back : TakesBack v told
  taken_back = let t = back.takes_back in record { restored = t.restored; known = t.known; others = t.others; records = t.records }

  -- it came to the operation, and its entry is the last
  pub end_is_last : (n : ℕ) → IsLast v (after_all m (ends_call operation reply n m)) n operation reply
  unfolding ends_call in_turn one after_all
  end_is_last n = let call = ap (λ (call : List Told). told_more call operation reply) back.call.call in (call, ap (λ (entries : List Numbered). drawn_more entries n told.call) back.call.entries)

  -- before the draw none is drawn
  pub told_is_undrawn : IsUndrawn v told
  told_is_undrawn = (back.call.number ∙ working.undrawn, back.call.entries)

  pub end_is_drawn : (error : TxErr) → GivesUpBy v operation reply error → (n : ℕ) → DrawEnded m (ends_call operation reply n m)
  unfolding ends_call in_turn one DrawEnded after_all
  end_is_drawn error why n = (tt, ((ended_so told error (why told tells taken_back back.call.reserved) (ap (λ (log : Log). log.records) back.log) (ap (λ (log : Log). log.entries) back.log), empty_plain told (ap (λ (log : Log). log.entries) back.log)), tt))

end_is_two : (m : View) (operation : Operation) (reply : Option Value) (n : ℕ) → length (ends_call operation reply n m) ≡ 2
unfolding ends_call in_turn one
end_is_two m operation reply n = refl

-- the first of the two is the telling
told_undrawn : (m : View) (operation : Operation) (reply : Option Value) (n : ℕ) (P : View → Type 0) → P (after m (Tell operation reply)) → P (after_all m (take 1 (ends_call operation reply n m)))
unfolding ends_call in_turn one after_all
told_undrawn m operation reply n P p = p

module _ (v : View) (working : IsWorking v) (none : v.log.entries ≡ []) (may : MayCome v) (operation : Operation) (reply : Option Value) (n : ℕ) where
  abbrev first : List Step
  first = takes_back (map span_of v.log.records) v

  abbrev mid : View
  mid = after_all v first

  abbrev second : List Step
  second = ends_call operation reply n mid

  taken : Ready v first × IsTakenBack v mid
  taken = take_back_lawful v working none

  pub give_up_lawful : Ready v (gives_up (map span_of v.log.records) operation reply n v) × IsOver v (after_all v (gives_up (map span_of v.log.records) operation reply n v)) n
  unfolding gives_up in_turn
  give_up_lawful = (
    ready_both v first second taken.0 (end_ready v mid working may taken.1 operation reply n),
    subst (λ (w : View). IsOver v w n) (sym (after_all-append v first second)) (end_is_over v mid working may taken.1 operation reply n),
  )

  pub give_up_last : IsLast v (after_all v (gives_up (map span_of v.log.records) operation reply n v)) n operation reply
  unfolding gives_up in_turn
  give_up_last = subst (λ (w : View). IsLast v w n operation reply) (sym (after_all-append v first second)) (end_is_last v mid working may taken.1 operation reply n)

  -- what was taken back drew nothing
  first_few : length mid.entries ≤ length v.entries
  first_few = let e = ap length taken.1.call.entries in omega (arith, e)

  -- a stop comes before the draw
  pub give_up_undrawn : (made : ℕ) → made < length (gives_up (map span_of v.log.records) operation reply n v) → IsUndrawn v (after_all v (take made (gives_up (map span_of v.log.records) operation reply n v)))
  unfolding gives_up in_turn
  give_up_undrawn made fewer = ⊎_elim
      (λ (behind : length first < made).
      let k : ℕ = made - length first in
      let at : made ≡ length first + k = omega (arith, behind) in
      let one : k ≡ 1 = (let all = length-append first second in let two = end_is_two mid operation reply n in omega (arith, fewer, all, two, behind)) in
      subst (λ (steps : List Step). IsUndrawn v (after_all v steps)) (sym (ap (λ j. take j (first ++ second)) at ∙ take-append-add first second k))
      (subst (λ (w : View). IsUndrawn v w) (sym (after_all-append v first (take k second)))
      (subst (λ j. IsUndrawn v (after_all mid (take j second))) (sym one) (told_undrawn mid operation reply n (IsUndrawn v) (told_is_undrawn v mid working may taken.1 operation reply)))))
      (λ (front : made ≤ length first).
      subst (λ (steps : List Step). IsUndrawn v (after_all v steps)) (sym (take-append-le made first second front)) (front_undrawn v first made first_few working.undrawn))
      (cases_lt (length first) made)

  pub give_up_drawn : (error : TxErr) → GivesUpBy v operation reply error → DrawEnded v (gives_up (map span_of v.log.records) operation reply n v)
  unfolding gives_up in_turn
  give_up_drawn error why =
      drawn_in_turn v first second (drawless v first (let e = ap length taken.1.call.entries in omega (arith, e))) (end_is_drawn v mid working may taken.1 operation reply error why n)

-- a lane whose call drew no number says so
pub undrawn_lane : {M : Type 0} (at : M → View → Type 0) (lane : Lane M) (v : View) → IsSeenAs at lane v → v.number ≡ None → lane.drawn ≡ None
undrawn_lane at lane v seen none = by lane.drawn refl where
  by : (drawn : Option ℕ) → lane.drawn ≡ drawn → lane.drawn ≡ None
  by None is = is
  by (Some n) is = absurd (none-some n (sym none ∙ seen.drawn n is))

-- the lane is seen as a view behind its call
pub seen_behind : {M : Type 0} (at : M → View → Type 0) (lane new : Lane M) (v w : View) → IsSeenAs at lane v → at new.memory w → IsSameLane v w → w.locks ≡ v.locks → w.log ≡ no_log Idle → w.number ≡ Some new.last → last_number_of w.entries ≡ new.last → new.locks.items ≡ lane.locks.items → new.records.items ≡ []
    → new.drawn ≡ Some new.last → IsOfSamePool lane new → IsSeenAs at new w
seen_behind at lane new v w seen memory same held log number last locks none drawn pool = record {
  memory = memory;
  pool = same.pool ∙ (seen.pool ∙ sym pool.pool);
  shape = shape_seen lane new v w pool same seen.shape;
  locks = ap (map lock_of) locks ∙ (seen.locks ∙ sym held);
  records = none ∙ sym (ap (λ (log : Log). map span_of log.records) log);
  drawn = λ n is. number ∙ (sym drawn ∙ is);
  last = sym last;
}

-- it holds locks of the same lines, and its area lies in the pool still
pub lines_behind : (v w : View) → IsSameLane v w → w.locks ≡ v.locks → HoldsLines v → HoldsLines w
lines_behind v w same held lines = record {
  inside = subst (λ (locks : List Lock). All (λ (l : Lock). l.line < length w.words / 8) locks) (sym held) (subst (λ n. All (λ (l : Lock). l.line < n / 8) v.locks) (sym same.size) lines.inside);
  once = subst (λ (locks : List Lock). IsDistinct nat_eq (map (λ (l : Lock). l.line) locks)) (sym held) lines.once;
}

pub place_behind : (v w : View) → IsSameLane v w → HasPlace v → HasPlace w
place_behind v w same place =
    let lane = same.lane in let lanes = same.lanes in let size = same.size in
    record {
      lane = (let low = place.lane in omega (arith, low, lane, lanes));
      few = (let few = place.few in omega (arith, few, lane));
      inside = (let inside = place.inside in omega (arith, inside, lane, size));
    }

pub after_over : {M : Type 0} (at : M → View → Type 0) (lane new : Lane M) (v w : View) → IsSeenAs at lane v → HoldsLines v → at new.memory w → IsOver v w new.last → new.locks.items ≡ lane.locks.items → new.records.items ≡ [] → new.entries.items ≡ []
    → new.drawn ≡ Some new.last → IsOfSamePool lane new → new.stopped ≡ false → HasPlace v → IsAfterCall at new w
after_over at lane new v w seen lines memory over locks none unlisted drawn pool unstopped place = record {
  seen = seen_behind at lane new v w seen memory over.lane over.locks over.log over.number over.last locks none drawn pool;
  unstopped = unstopped;
  unlisted = unlisted;
  log = over.log;
  drained = over.drained;
  lines = lines_behind v w over.lane over.locks lines;
  place = place_behind v w over.lane place;
}

pub place_at_work : (v : View) → IsWorking v → HasPlace v
place_at_work v working = let area = working.area in record { lane = area.lane; few = area.few; inside = area.inside }

pub is_working_lane : {M : Type 0} (at : M → View → Type 0) (lane : Lane M) (o : Opening) (v : View) → IsAtWork o at lane v → IsWorkingLane at lane
is_working_lane at lane o v is = (v, (is.seen, is.working, is.no_entries))

module _ {M : Type 0} (at : M → View → Type 0) (lane : Lane M) (o : Opening) (v : View) (is : IsAtWork o at lane v) (operation : Operation) (reply : Option Value) where
  abbrev pub spans : List Span
  spans = lane.records.items

  abbrev same : spans ≡ map span_of v.log.records
  same = is.seen.records

  pub giving_up_lawful : (n : ℕ) → Ready v (gives_up spans operation reply n v) × IsOver v (after_all v (gives_up spans operation reply n v)) n
  giving_up_lawful n =
      subst (λ (spans : List Span). Ready v (gives_up spans operation reply n v) × IsOver v (after_all v (gives_up spans operation reply n v)) n) (sym same)
      (give_up_lawful v is.working is.no_entries is.may_come operation reply n)

  abbrev giving_steps : ℕ → List Span → List Step
  giving_steps n spans = gives_up spans operation reply n v

  pub giving_up_last : (n : ℕ) → IsLast v (after_all v (gives_up spans operation reply n v)) n operation reply
  giving_up_last n = subst (λ (spans : List Span). IsLast v (after_all v (giving_steps n spans)) n operation reply) (sym same) (give_up_last v is.working is.no_entries is.may_come operation reply n)

  giving_up_undrawn : (n made : ℕ) → made < length (gives_up spans operation reply n v) → IsUndrawn v (after_all v (take made (gives_up spans operation reply n v)))
  giving_up_undrawn n made =
      subst (λ (spans : List Span). made < length (giving_steps n spans) → IsUndrawn v (after_all v (take made (giving_steps n spans)))) (sym same) (give_up_undrawn v is.working is.no_entries is.may_come operation reply n made)

  pub giving_up_drawn : (error : TxErr) → GivesUpBy v operation reply error → (n : ℕ) → DrawEnded v (gives_up spans operation reply n v)
  giving_up_drawn error why n =
      subst (λ (spans : List Span). DrawEnded v (gives_up spans operation reply n v)) (sym same) (give_up_drawn v is.working is.no_entries is.may_come operation reply n error why)

  taking : Ready v (takes_back spans v) × IsTakenBack v (after_all v (takes_back spans v))
  taking = subst (λ (spans : List Span). Ready v (takes_back spans v) × IsTakenBack v (after_all v (takes_back spans v))) (sym same) (take_back_lawful v is.working is.no_entries)

  -- once it is taken back, the call may end with whatever number
  pub end_ready_for_any : (behind : View → Type 0) → Runs {T = Unit {0}} (at lane.memory) behind (takes_back spans) (Ok tt) → IsReadyForAny behind (ends_call operation reply)
  unfolding Runs IsReadyForAny
  end_ready_for_any behind ran = (
    after_all v (takes_back spans v),
    (ran v is.seen.memory taking.0, λ n. end_ready v (after_all v (takes_back spans v)) is.working is.may_come taking.1 operation reply n),
  )

  module _ (error : TxErr) (why : GivesUpBy v operation reply error) (new : Lane M) where
    -- it was given up
    pub given_up : Runs {T = Unit {0}} (at lane.memory) (at new.memory) (gives_up spans operation reply new.last) (Ok tt) → new.locks.items ≡ lane.locks.items → new.records.items ≡ [] → new.entries.items ≡ [] → new.drawn ≡ Some new.last → IsOfSamePool lane new → new.stopped ≡ lane.stopped
        → IsEndedBy at new v (gives_up spans operation reply new.last) operation reply
    unfolding Runs
    given_up ran locks none unlisted drawn pool stops =
        let lawful = giving_up_lawful new.last in
        let over = lawful.1 in
        let last = giving_up_last new.last in
        record {
          ready = lawful.0;
          draws = giving_up_drawn error why new.last;
          behind = after_over at lane new v (after_all v (gives_up spans operation reply new.last v)) is.seen is.lines (ran v is.seen.memory lawful.0) over locks none unlisted drawn pool (stops ∙ is.unstopped) (place_at_work v is.working);
          over = over;
          told = last.0;
          entries = last.1;
        }

    -- it stopped before that
    pub stopped_giving_up : (stopped : Stopped) → Runs {T = Unit {0}} (at lane.memory) (at new.memory) (gives_up spans operation reply new.last) (Err stopped) → new.stopped ≡ true → new.drawn ≡ lane.drawn
        → IsStoppedIn at new v (gives_up spans operation reply new.last) operation reply
    unfolding Runs
    stopped_giving_up stopped ran says drawn =
        let lawful = giving_up_lawful new.last in
        let stops : Stops (at new.memory) v (gives_up spans operation reply new.last v) = ran v is.seen.memory lawful.0 in
        let undrawn = giving_up_undrawn new.last stops.made stops.fewer in
        record {
          ready = lawful.0;
          draws = giving_up_drawn error why new.last;
          stops = stops;
          stopped = says;
          drawn = drawn ∙ (undrawn_lane at lane v is.seen is.working.undrawn ∙ sym undrawn.0);
          came = record { told = inl undrawn.0; entries = inl undrawn };
        }
