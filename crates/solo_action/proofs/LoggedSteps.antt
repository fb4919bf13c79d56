-- A call that one log decides, from where nothing is made persistent yet: it may make all of its steps, and wherever the lane stops in them the call drew no number, or came
-- to the operation.
use Rattle.std.proofs.Common.{◌≡◌, ◌⊎◌, ⊎_elim, inl, inr, append_assoc, take, ℕ, true, false, List, [], ◌++◌, length, None, Ok, Some, sym, ap, ◌∙◌, subst, arith}
use Rattle.solo_lock.specs.Begun.{HoldsLines}
use Rattle.solo_memory.specs.Runs.{Stops}
use Rattle.pm_objects.specs.declared.calls.Operation.{Operation}
use Rattle.pm_record.specs.declared.redo.Redo.{Redo}
use Rattle.solo_redo.specs.Sequences.{logs}
use Rattle.solo_tx.proofs.Decided.{may_publish}
use Rattle.solo_tx.proofs.Fronts.{among_left, among_right, front_undrawn}
use Rattle.solo_tx.proofs.GivenUp.{after_over, place_at_work, undrawn_lane}
use Rattle.solo_tx.proofs.Published.{performing_drawn, publish_last, publish_lawful, written}
use Rattle.solo_tx.specs.Ending.{IsAfterCall, IsDrawnBy, IsOver, IsStoppedAmong, IsUndrawn, drawn_more, told_more}
use Rattle.solo_tx.specs.Publishing.{MayPublish, StopsPublished, logged_view}
use Rattle.solo_tx.specs.Sequences.{ends_call, performs_logged, publishes}
use Rattle.solo_undo.proofs.Settled.{settle_lawful}
use Rattle.solo_undo.proofs.Staying.{same_settled}
use Rattle.solo_view.proofs.SameLane.{same_lane-then}
use Rattle.solo_undo.specs.Working.{IsSameCall, IsSettled}
use Rattle.solo_view.proofs.Sequences.{after_all-append}
use Rattle.solo_view.specs.Steps.{Step}
use Rattle.solo_view.specs.View.{Numbered, Told, View}
use Rattle.solo_view.specs.Views.{after_all}
use Rattle.solo_world.proofs.Sequencing.{ready_both, ready_left, ready_right}
use Rattle.solo_world.proofs.Shapes.{IsOfSamePool}
use Rattle.solo_world.specs.Lanes.{IsSeenAs}
use Rattle.solo_world.specs.Sequences.{IsStopped, Ready, Runs, in_turn, settles}
use Rattle.solo_world.specs.declared.lane.Lane.{Lane}
use Rattle.solo_transaction.specs.Published.{logs_call}
use Rattle.solo_action.specs.PublishingAll.{MayLogCall, StopsDecided, decided_view}

module _ (v : View) (entries : List Redo) (may : MayLogCall v entries) where
  abbrev mid : View
  mid = after_all v (settles v)

  settled : IsSettled v mid
  settled = (settle_lawful v).1

  call : IsSameCall v mid
  call = same_settled v mid settled

  -- once all is persistent the entries may be published
  pub can_publish : MayPublish mid entries
  can_publish = may_publish v mid may.working may.no_entries may.may_come settled entries may.some may.few may.each

  module _ (op : Operation) (n : ℕ) where
    last_before : (w : View) → IsDrawnBy mid w op None n → IsDrawnBy v w op None n
    last_before w last = (
      last.0 ∙ ap (λ (told : List Told). told_more told op None) call.call,
      record { number = last.1.number; entries = last.1.entries ∙ ap (λ (entries : List Numbered). drawn_more entries n w.call) call.entries },
    )

    over_before : (w : View) → IsOver mid w n → IsOver v w n
    over_before w over = record { lane = same_lane-then v mid w call.lane over.lane; locks = over.locks ∙ call.locks; log = over.log; drained = over.drained; number = over.number; last = over.last }

    pub log_lawful : Ready v (logs_call op entries n v) × IsOver v (after_all v (logs_call op entries n v)) n
    unfolding logs_call in_turn
    log_lawful =
        let lawful = publish_lawful mid entries can_publish op n in (
          ready_both v (settles v) (publishes entries op n mid) (settle_lawful v).0 lawful.0,
          subst (λ (w : View). IsOver v w n) (sym (after_all-append v (settles v) (publishes entries op n mid))) (over_before (after_all mid (publishes entries op n mid)) lawful.1),
        )

    pub log_last : IsDrawnBy v (after_all v (logs_call op entries n v)) op None n
    unfolding logs_call in_turn
    log_last =
        subst (λ (w : View). IsDrawnBy v w op None n) (sym (after_all-append v (settles v) (publishes entries op n mid)))
        (last_before (after_all mid (publishes entries op n mid)) (publish_last mid entries can_publish op n))

    -- ---- in parts

    -- all is made persistent, and the entries are logged
    abbrev pub readied : List Step
    readied = in_turn settles (logs entries) v

    abbrev pub ends : List Step
    ends = ends_call op None n (logged_view mid entries)

    abbrev pub performing : List Step
    performing = performs_logged entries (decided_view v entries op n)

    readied_there : after_all v readied ≡ logged_view mid entries
    unfolding in_turn
    readied_there = after_all-append v (settles v) (logs entries mid)

    pub readied_first : logs_call op entries n v ≡ readied ++ (ends ++ performing)
    unfolding logs_call publishes in_turn
    readied_first = sym (append_assoc (settles v) (logs entries mid) (ends ++ performing))

    pub performing_last : logs_call op entries n v ≡ (readied ++ ends) ++ performing
    performing_last = readied_first ∙ sym (append_assoc readied ends performing)

    pub decided_there : after_all v (readied ++ ends) ≡ decided_view v entries op n
    decided_there = after_all-append v readied ends ∙ ap (λ (u : View). after_all u ends) readied_there

    -- so far nothing is drawn
    pub readied_undrawn : (made : ℕ) → IsUndrawn v (after_all v (take made readied))
    readied_undrawn made =
        front_undrawn v readied made
        (let there = ap (λ (u : View). length u.entries) readied_there in
        let logged = ap length (written mid entries can_publish).1.call.entries in let same = ap length call.entries in omega (arith, there, logged, same))
        may.working.undrawn

    -- and then the number is
    pub performing_so : (made : ℕ) → IsDrawnBy v (after_all (decided_view v entries op n) (take made performing)) op None n
    performing_so made = last_before (after_all (decided_view v entries op n) (take made performing)) (performing_drawn mid entries can_publish op n made)

-- where all was made persistent the entries may be published
pub may_publish_settled : (old new : View → Type 0) (v : View) → old v → (entries : List Redo) → MayLogCall v entries → Runs {T = Unit {0}} old new settles (Ok tt) → (u : View) × (new u × MayPublish u entries)
unfolding Runs
may_publish_settled old new v seen entries may ran = (after_all v (settles v), (ran v seen (settle_lawful v).0, can_publish v entries may))

-- and where the lane stops behind the draw then, it does so from before that too
pub stops_decided : (old settled_so new : View → Type 0) (entries : List Redo) (op : Operation) (n : ℕ) → Runs {T = Unit {0}} old settled_so settles (Ok tt) → StopsPublished settled_so new entries op n → StopsDecided old new entries op n
unfolding Runs logs_call in_turn
stops_decided old settled_so new entries op n made stops v seen ready =
    let behind : View = after_all v (settles v) in
    stops behind (made v seen (ready_left v (settles v) (publishes entries op n behind) ready)) (ready_right v (settles v) (publishes entries op n behind) ready)

-- ---- of a lane that lists the entries

module _ {M : Type 0} (at : M → View → Type 0) (lane : Lane M) (v : View) (seen : IsSeenAs at lane v) (op : Operation) (entries : List Redo) (may : MayLogCall v entries) (new : Lane M) where
  abbrev n : ℕ
  n = new.last

  -- once the log is performed the lane is behind its call
  pub behind_log : HoldsLines v → Runs {T = Unit {0}} (at lane.memory) (at new.memory) (logs_call op entries n) (Ok tt) → new.locks.items ≡ lane.locks.items → new.records.items ≡ [] → new.entries.items ≡ [] → new.drawn ≡ Some n → IsOfSamePool lane new → new.stopped ≡ false
      → IsAfterCall at new (after_all v (logs_call op entries n v))
  unfolding Runs
  behind_log lines ran locks none unlisted drawn pool unstopped =
      let lawful = log_lawful v entries may op n in
      after_over at lane new v (after_all v (logs_call op entries n v)) seen lines (ran v seen.memory lawful.0) lawful.1 locks none unlisted drawn pool unstopped (place_at_work v may.working)

  -- it stopped before the draw
  stopped_undrawn : IsStopped (at lane.memory) (at new.memory) (in_turn settles (logs entries)) → new.stopped ≡ true → new.drawn ≡ lane.drawn → IsStoppedAmong at new v (logs_call op entries n) op None
  unfolding Runs
  stopped_undrawn stops says drawn =
      let lawful = log_lawful v entries may op n in
      let first : List Step = in_turn settles (logs entries) v in
      let rest : List Step = ends v entries may op n ++ performing v entries may op n in
      let are = readied_first v entries may op n in
      let s : Stops (at new.memory) v first = stops.1 v seen.memory (ready_left v first rest (subst (Ready v) are lawful.0)) in
      let undrawn = readied_undrawn v entries may op n s.made in
      among_left at new v (logs_call op entries n) op None first rest are lawful.0 s says (drawn ∙ (undrawn_lane at lane v seen may.working.undrawn ∙ sym undrawn.0)) (record { told = inl undrawn.0; entries = inl undrawn })

  -- it stopped behind the draw
  stopped_decided : StopsDecided (at lane.memory) (at new.memory) entries op n → new.stopped ≡ true → new.drawn ≡ Some n → IsStoppedAmong at new v (logs_call op entries n) op None
  stopped_decided stops says drawn =
      let lawful = log_lawful v entries may op n in
      let s : Stops (at new.memory) (decided_view v entries op n) (performing v entries may op n) = stops v seen.memory lawful.0 in
      let behind = performing_so v entries may op n s.made in
      among_right at new v (logs_call op entries n) op None (readied v entries may op n ++ ends v entries may op n) (decided_view v entries op n) (performing v entries may op n)
      (decided_there v entries may op n) (performing_last v entries may op n) lawful.0 s says (drawn ∙ sym behind.1.number) (record { told = inr behind.0; entries = inr (n, behind.1) })

  -- it stopped in one of the two
  pub stopped_logging : ((new.drawn ≡ lane.drawn) × IsStopped (at lane.memory) (at new.memory) (in_turn settles (logs entries))) ⊎ ((new.drawn ≡ Some n) × StopsDecided (at lane.memory) (at new.memory) entries op n) → new.stopped ≡ true
      → IsStoppedAmong at new v (logs_call op entries n) op None
  stopped_logging where_ says =
      ⊎_elim (λ (first : (new.drawn ≡ lane.drawn) × IsStopped (at lane.memory) (at new.memory) (in_turn settles (logs entries))). stopped_undrawn first.1 says first.0)
      (λ (behind : (new.drawn ≡ Some n) × StopsDecided (at lane.memory) (at new.memory) entries op n). stopped_decided behind.1 says behind.0) where_
