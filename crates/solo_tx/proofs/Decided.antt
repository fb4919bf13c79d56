-- A call at work may be decided once all of it is persistent, and then it is over.
use Rattle.std.proofs.Common.{◌≡◌, not, take, ℕ, ◌≤◌, inl, All, List, [], ◌∷◌, ◌++◌, map, length, slice_index, None, Some, refl, sym, ap, ◌∙◌, subst, arith}
use Rattle.std.specs.List.{filter}
use Rattle.std.proofs.lemmas.List.Elements.{All-weaker}
use Rattle.solo_crash.specs.Operations.{Tells}
use Rattle.solo_tx.proofs.BorneOut.{whole_ended}
use Rattle.pm_record.specs.declared.redo.Redo.{Redo}
use Rattle.solo_redo.proofs.Whole.{may_enter_kept, of_pool_kept}
use Rattle.solo_redo.specs.Entering.{IsOfPool, MayEnter}
use Rattle.pm_objects.specs.declared.calls.Operation.TheVariants.{Commit}
use Rattle.solo_undo.proofs.Retired.{retire_drawn}
use Rattle.solo_undo.proofs.Staying.{same_settled}
use Rattle.solo_undo.proofs.Restored.{open_settled}
use Rattle.solo_undo.proofs.Written.{settled_works}
use Rattle.solo_undo.specs.Sequences.{retires}
use Rattle.solo_undo.specs.Working.{HasArea, IsRetired, IsSameCall, IsSettled, IsWorking}
use Rattle.solo_view.proofs.SameLane.{same_lane-then}
use Rattle.solo_view.proofs.Sequences.{after_all-append}
use Rattle.solo_view.specs.Constants.{IsSameLane}
use Rattle.solo_view.specs.Area.{is_in_area}
use Rattle.solo_view.specs.Log.{Final, Log, Phase, Recorded, log_drawn}
use Rattle.solo_view.specs.Log.Phase.{Idle, Open}
use Rattle.solo_view.specs.Steps.{Step}
use Rattle.solo_view.specs.Steps.Step.{Draw, NumberSeen, Tell}
use Rattle.solo_view.specs.View.{Numbered, Told, View}
use Rattle.solo_view.specs.Views.{after, after_all}
use Rattle.solo_world.proofs.Plain.{empty_plain}
use Rattle.solo_world.proofs.Sequencing.{ready_both}
use Rattle.solo_world.specs.Lanes.{last_number_of, span_of}
use Rattle.solo_world.specs.Lawful.{MayDraw, MayTell}
use Rattle.solo_world.specs.Sequences.{Ready, in_turn, nothing, one}
use Rattle.solo_world.specs.declared.lane.Span.{Span}
use Rattle.solo_lock.proofs.Drawless.{drawless, drawn_in_turn}
use Rattle.solo_lock.specs.Begun.{MayCome}
use Rattle.solo_lock.specs.Leading.{DrawEnded}
use Rattle.solo_tx.specs.Ending.{CanDecide, IsDrawnBy, IsOver, decided_view, drawn_more, told_more}
use Rattle.solo_tx.specs.Publishing.{IsWholeOnceLogged, MayPublish, TellsLogged, published_view}
use Rattle.solo_tx.proofs.Fronts.{front_drawn}
use Rattle.solo_tx.proofs.Published.{performing_drawn, publish_drawn, publish_last, publish_lawful, written}
use Rattle.solo_tx.specs.Sequences.{completes, decides, decides_all, ends_call, logs_listed, performs_logged, publishes, retires_any}
use Rattle.solo_tx.proofs.GivenUp.{last_behind}

-- the steps of deciding a call, in their parts
pub decides_in_parts : (m : View) (spans : List Span) (entries : List Redo) (n : ℕ) → decides_all spans entries n m
    ≡ logs_listed entries m ++ (ends_call Commit None n (after_all m (logs_listed entries m)) ++ completes spans entries (decided_view m entries n))
unfolding decides_all decides publishes logs_listed completes in_turn nothing after_all
decides_in_parts m spans [] n = refl
decides_in_parts m spans (e ∷ entries) n = refl

-- from the view where all is persistent the call may be decided, and this is what that leaves of the view before
pub record IsDeciding (v m : View) (spans : List Span) (entries : List Redo) (n : ℕ) : Type 0 where
  pub ready : Ready m (decides_all spans entries n m)
  pub over : IsOver v (after_all m (decides_all spans entries n m)) n
  pub last : IsDrawnBy v (after_all m (decides_all spans entries n m)) Commit None n
  pub still : (after_all m (logs_listed entries m)).entries ≡ m.entries
  pub behind : (k : ℕ) → IsDrawnBy v (after_all (decided_view m entries n) (take k (completes spans entries (decided_view m entries n)))) Commit None n

module _ (v m : View) (working : IsWorking v) (no_entries : v.log.entries ≡ []) (may : MayCome v) (settled : IsSettled v m) where
  call : IsSameCall v m
  call = same_settled v m settled

  log : m.log ≡ v.log
  log = ap (λ (u : View). u.log) settled ∙ open_settled v.changes v [] [] working.is_open

  gone : m.changes ≡ []
  gone = ap (λ (u : View). u.changes) settled

  abbrev told : View
  told = after m (Tell Commit None)

  abbrev drawn : ℕ → View
  drawn n = after told (Draw n)

  may_draw : MayDraw told
  may_draw = record {
    is_open = ap (λ (l : Log). l.phase) log ∙ working.is_open;
    first = call.number ∙ working.undrawn;
    drained = inl gone;
    found = may.found;
    seen = call.seen (NumberSeen may.found) may.seen;
    below = may.below;
    entered = inl (ap (λ (l : Log). l.entries) log ∙ no_entries);
  }

  end_ready : (n : ℕ) → Ready m (ends_call Commit None n m)
  unfolding ends_call in_turn one Ready after_all
  end_ready n = (subst (λ (phase : Phase). MayTell phase) (sym (ap (λ (l : Log). l.phase) log ∙ working.is_open)) tt, tt, (may_draw, tt, tt))

  tells : Tells v told Commit None
  tells =
      let lane = call.lane in
      record {
        keeps = record { lanes = lane.lanes; zones = lane.zones; pool = lane.pool; lane = lane.lane; entries = call.entries; known = call.remembers };
        locks = call.locks;
        call = ap (λ (told : List Told). told ++ record { operation = Commit; reply = None } ∷ []) call.call;
      }

  -- a call that published nothing needs no entry
  tells_logged : TellsLogged v told [] Commit
  tells_logged = record {
    tells = tells;
    records = ap (λ (l : Log). l.records) log;
    words = record { words = λ i outside. ap (λ (u : View). slice_index u.words i) settled };
    logged =
        ap (λ (l : Log). filter (λ (f : Final). not (is_in_area m.lane f.word)) l.entries) log
        ∙ ap (filter (λ (f : Final). not (is_in_area m.lane f.word))) no_entries;
    reserved = ap (λ (u : View). u.reserved) settled;
  }

  end_drawn : IsWholeOnceLogged v [] Commit → (n : ℕ) → DrawEnded m (ends_call Commit None n m)
  unfolding ends_call in_turn one DrawEnded after_all
  end_drawn whole n = (
    tt,
    (
      (
        whole_ended told (whole told tells_logged),
        empty_plain told (ap (λ (l : Log). l.entries) log ∙ no_entries),
      ),
      tt,
    ),
  )

  is_drawn : (n : ℕ) → after_all m (ends_call Commit None n m) ≡ drawn n
  unfolding ends_call in_turn one after_all
  is_drawn n = refl

  area : (n : ℕ) → HasArea (drawn n)
  area n = let a = (settled_works v m working settled).area in record { lane = a.lane; few = a.few; inside = a.inside; below = a.below }

  lane_drawn : (n : ℕ) → IsSameLane v (drawn n)
  lane_drawn n = let l = call.lane in record { lanes = l.lanes; zones = l.zones; pool = l.pool; lane = l.lane; stop = l.stop; table = l.table; size = l.size }

  last_drawn : (n : ℕ) → last_number_of (drawn n).entries ≡ n
  last_drawn n = last_behind m.entries (record { number = n; call = told.call })

  abbrev open_log : List Recorded → Log
  open_log records = record { phase = Open [] []; records = records; entries = [] }

  log_of : (records : List Recorded) → v.log.records ≡ records → m.log ≡ open_log records
  log_of records are =
      log
      ∙ (ap (λ phase. record v.log { phase = phase }) working.is_open
      ∙ (ap (λ records. record v.log { phase = Open [] []; records = records }) are
      ∙ ap (λ entries. record v.log { phase = Open [] []; records = records; entries = entries }) no_entries))

  -- what comes behind the draw
  abbrev IsTail : List Recorded → ℕ → View → Type 0
  IsTail records n d =
      Ready d (retires_any (map span_of records) d) × IsOver v (after_all d (retires_any (map span_of records) d)) n
      × ((after_all d (retires_any (map span_of records) d)).entries ≡ d.entries) × ((after_all d (retires_any (map span_of records) d)).call ≡ d.call)

  retired_over : (n : ℕ) (w : View) → IsRetired Idle (drawn n) w → IsOver v w n
  retired_over n w retired = record {
    lane = same_lane-then v (drawn n) w (lane_drawn n) retired.call.lane;
    locks = retired.call.locks ∙ call.locks;
    log = retired.log;
    drained = retired.drained;
    number = retired.call.number;
    last = ap last_number_of retired.call.entries ∙ last_drawn n;
  }

  tail : (records : List Recorded) → v.log.records ≡ records → (n : ℕ) → IsTail records n (drawn n)
  unfolding retires_any nothing Ready after_all
  tail [] are n = (
    tt,
    record { lane = lane_drawn n; locks = call.locks; log = ap (λ (l : Log). log_drawn l.phase l) (log_of [] are); drained = gone; number = refl; last = last_drawn n },
    refl,
    refl,
  )
  tail (r ∷ records) are n = behind (retire_drawn (drawn n) (area n) (ap (λ (l : Log). (log_drawn l.phase l).phase) (log_of (r ∷ records) are)) refl gone (ap (λ (l : Log). (log_drawn l.phase l).entries) (log_of (r ∷ records) are))) where
    behind : Ready (drawn n) (retires (drawn n)) × IsRetired Idle (drawn n) (after_all (drawn n) (retires (drawn n)))
        → Ready (drawn n) (retires (drawn n)) × IsOver v (after_all (drawn n) (retires (drawn n))) n × ((after_all (drawn n) (retires (drawn n))).entries ≡ (drawn n).entries)
        × ((after_all (drawn n) (retires (drawn n))).call ≡ (drawn n).call)
    behind r = (r.0, retired_over n (after_all (drawn n) (retires (drawn n))) r.1, r.1.call.entries, r.1.call.call)

  abbrev spans : List Span
  spans = map span_of v.log.records

  tail_behind : (n : ℕ) → IsTail v.log.records n (after_all m (ends_call Commit None n m))
  tail_behind n = subst (IsTail v.log.records n) (sym (is_drawn n)) (tail v.log.records refl n)

  decided_lawful : (n : ℕ) → Ready m (decides spans n m) × IsOver v (after_all m (decides spans n m)) n
  unfolding decides in_turn
  decided_lawful n =
      let ends : List Step = ends_call Commit None n m in
      let t = tail_behind n in
      (ready_both m ends (retires_any spans (after_all m ends)) (end_ready n) t.0, subst (λ (w : View). IsOver v w n) (sym (after_all-append m ends (retires_any spans (after_all m ends)))) t.1)

  -- the call came to the commit, and its entry is the last
  drawn_last : (n : ℕ) → IsDrawnBy v (drawn n) Commit None n
  drawn_last n = (
    ap (λ (told : List Told). told_more told Commit None) call.call,
    record { number = refl; entries = ap (λ (entries : List Numbered). drawn_more entries n told.call) call.entries },
  )

  last_then : (n : ℕ) (d w : View) → IsDrawnBy v d Commit None n → w.number ≡ Some n → w.entries ≡ d.entries → w.call ≡ d.call → IsDrawnBy v w Commit None n
  last_then n d w last number entries call = (
    call ∙ last.0,
    record { number = number; entries = entries ∙ (last.1.entries ∙ ap (λ (told : List Told). drawn_more v.entries n told) (sym call)) },
  )

  abbrev behind_draw : ℕ → View
  behind_draw n = after_all m (ends_call Commit None n m)

  ended_last : (n : ℕ) → IsDrawnBy v (behind_draw n) Commit None n
  ended_last n = subst (λ (w : View). IsDrawnBy v w Commit None n) (sym (is_drawn n)) (drawn_last n)

  decided_last : (n : ℕ) → IsDrawnBy v (after_all m (decides spans n m)) Commit None n
  unfolding decides in_turn
  decided_last n =
      let t = tail_behind n in
      subst (λ (w : View). IsDrawnBy v w Commit None n) (sym (after_all-append m (ends_call Commit None n m) (retires_any spans (behind_draw n))))
      (last_then n (behind_draw n) (after_all (behind_draw n) (retires_any spans (behind_draw n))) (ended_last n) t.1.number t.2 t.3)

  -- behind the draw it stays so, wherever the lane stops
  front_is_drawn : (n made : ℕ) → IsDrawnBy v (after_all (behind_draw n) (take made (retires_any spans (behind_draw n)))) Commit None n
  front_is_drawn n made =
      let w : View = after_all (behind_draw n) (take made (retires_any spans (behind_draw n))) in
      let t = tail_behind n in
      let stays = front_drawn (behind_draw n) (retires_any spans (behind_draw n)) made n (let e = ap length t.2 in omega (arith, e)) t.1.number (let e = ap length t.3 in omega (arith, e)) in
      last_then n (behind_draw n) w (ended_last n) stays.0 stays.1 stays.2

  pub none_drawn : IsWholeOnceLogged v [] Commit → (n : ℕ) → DrawEnded m (decides_all spans [] n m)
  unfolding decides_all decides in_turn
  none_drawn whole n =
      let ends : List Step = ends_call Commit None n m in
      drawn_in_turn m ends (retires_any spans (after_all m ends)) (end_drawn whole n) (drawless (after_all m ends) (retires_any spans (after_all m ends)) (let e = ap length (tail_behind n).2 in omega (arith, e)))

  -- without entries the call may be decided so
  pub deciding_none : (n : ℕ) → IsDeciding v m spans [] n
  unfolding decides_all logs_listed completes nothing after_all
  deciding_none n = record {
    ready = (decided_lawful n).0;
    over = (decided_lawful n).1;
    last = decided_last n;
    still = refl;
    behind = front_is_drawn n;
  }

  pub can_decide_none : CanDecide m spans []
  can_decide_none = ((settled_works v m working settled).area, λ n. (decided_lawful n).0)

  -- and entries that are listed may be published
  pub may_publish : (entries : List Redo) → 1 ≤ length entries → length entries ≤ 63 → All (MayEnter v) entries → MayPublish m entries
  may_publish entries some few each =
      let area = (settled_works v m working settled).area in
      let none : m.log.entries ≡ [] = ap (λ (l : Log). l.entries) log ∙ no_entries in
      record {
        ready = record {
          entering = record { is_open = ap (λ (l : Log). l.phase) log ∙ working.is_open; undrawn = call.number ∙ working.undrawn; area = area; few = (let count = ap length gone in omega (arith, count)) };
          none = none;
        };
        place = record { lane = area.lane; few = area.few; inside = area.inside };
        some = some;
        few = few;
        each = All-weaker (MayEnter v) (MayEnter m) (λ e o. may_enter_kept v m e call (λ u out. ap (λ (z : View). slice_index z.words u) settled) o) entries each;
        may_come = record { found = may.found; seen = call.seen (NumberSeen may.found) may.seen; below = may.below };
      }

  over_before : (w : View) (n : ℕ) → IsOver m w n → IsOver v w n
  over_before w n over = record { lane = same_lane-then v m w call.lane over.lane; locks = over.locks ∙ call.locks; log = over.log; drained = over.drained; number = over.number; last = over.last }

  last_before : (w : View) (n : ℕ) → IsDrawnBy m w Commit None n → IsDrawnBy v w Commit None n
  last_before w n last = (
    last.0 ∙ ap (λ (told : List Told). told_more told Commit None) call.call,
    record { number = last.1.number; entries = last.1.entries ∙ ap (λ (entries : List Numbered). drawn_more entries n w.call) call.entries },
  )

  -- and with some, each one that the lane may enter, so
  pub deciding_some : (spans : List Span) (e : Redo) (entries : List Redo) → length (e ∷ entries) ≤ 63 → All (MayEnter v) (e ∷ entries) → (n : ℕ) → IsDeciding v m spans (e ∷ entries) n
  unfolding decides_all logs_listed completes
  deciding_some spans e entries few each n =
      let all : List Redo = e ∷ entries in
      let mays : MayPublish m all = may_publish all (omega arith) few each in
      let lawful = publish_lawful m all mays Commit n in
      record {
        ready = lawful.0;
        over = over_before (after_all m (publishes all Commit n m)) n lawful.1;
        last = last_before (after_all m (publishes all Commit n m)) n (publish_last m all mays Commit n);
        still = (written m all mays).1.call.entries;
        behind = λ k. last_before (after_all (published_view m all Commit n) (take k (performs_logged all (published_view m all Commit n)))) n (performing_drawn m all mays Commit n k);
      }

  -- what that draws is an ended call's, where each is of a word that it locked, and the call is whole once they are logged
  pub some_drawn : (spans : List Span) (e : Redo) (entries : List Redo) → length (e ∷ entries) ≤ 63 → All (IsOfPool v) (e ∷ entries) → IsWholeOnceLogged m (e ∷ entries) Commit → (n : ℕ) → DrawEnded m (decides_all spans (e ∷ entries) n m)
  unfolding decides_all
  some_drawn spans e entries few each whole n =
      let all : List Redo = e ∷ entries in
      let mays : MayPublish m all = may_publish all (omega arith) few (All-weaker (IsOfPool v) (MayEnter v) (λ e o. inl o) all each) in
      publish_drawn m all mays Commit n (All-weaker (IsOfPool v) (IsOfPool m) (λ e o. of_pool_kept v m e call (λ u out. ap (λ (z : View). slice_index z.words u) settled) o) all each) whole
