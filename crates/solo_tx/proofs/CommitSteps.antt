-- What a commit makes: of a call that may be decided once all of it is persistent, it may make all of its steps, and wherever the lane stops in them the call
-- drew no number, or came to the commit.
use Rattle.std.proofs.Common.{◌≡◌, ◌⊎◌, ⊎_elim, inl, inr, take, append_assoc, ℕ, zero, suc, ◌+◌, ◌-◌, ◌<◌, ◌≤◌, true, false, List, [], ◌∷◌, ◌++◌, map, length, None, Ok, Some, sym, ap, ◌∙◌, subst, arith}
use Rattle.std.proofs.Math.Seq.{take-append-add, take-length}
use Rattle.std.proofs.lemmas.Bool.{cases_lt}
use Rattle.std.proofs.lemmas.List.{take-append-le}
use Rattle.solo_memory.specs.Runs.{Stops}
use Rattle.pm_objects.specs.declared.calls.Operation.TheVariants.{Commit}
use Rattle.pm_record.specs.declared.redo.Redo.{Redo}
use Rattle.solo_undo.proofs.Settled.{settle_lawful}
use Rattle.solo_undo.specs.Working.{IsWorking}
use Rattle.solo_view.proofs.Sequences.{after_all-append}
use Rattle.solo_view.specs.Steps.{Step}
use Rattle.solo_view.specs.View.{View}
use Rattle.solo_view.specs.Views.{after_all}
use Rattle.solo_world.proofs.Sequencing.{ready_both, ready_left}
use Rattle.solo_world.proofs.Shapes.{IsOfSamePool}
use Rattle.solo_world.specs.Lanes.{IsSeenAs, span_of}
use Rattle.solo_world.specs.Sequences.{IsStopped, Ready, Runs, in_turn, one, settles}
use Rattle.solo_world.specs.declared.lane.Lane.{Lane}
use Rattle.solo_world.specs.declared.lane.Span.{Span}
use Rattle.solo_lock.proofs.Drawless.{drawless, drawn_in_turn}
use Rattle.solo_lock.specs.Begun.{HoldsLines}
use Rattle.solo_lock.specs.Leading.{DrawEnded}
use Rattle.solo_tx.specs.Ending.{CanDecide, IsAfterCall, IsDecidable, IsDrawnBy, IsDrawnOrNot, IsOver, IsStoppedAmong, IsUndrawn, StopsDrawn, drawn_view}
use Rattle.solo_tx.specs.Generations.{CanPublish}
use Rattle.solo_tx.specs.Sequences.{commits, completes, decides_all, ends_call, logs_listed}
use Rattle.solo_tx.proofs.Decided.{IsDeciding, can_decide_none, decides_in_parts, deciding_none, deciding_some, may_publish}
use Rattle.solo_tx.proofs.Fronts.{among_left, among_right, front_undrawn}
use Rattle.solo_tx.proofs.GivenUp.{after_over, place_at_work, undrawn_lane}

-- a count is within another, or further by some
before_or_behind : (k n : ℕ) → (k ≤ n) ⊎ ((j : ℕ) × (k ≡ n + j))
before_or_behind k n = ⊎_elim (λ (behind : n < k). inr (k - n, omega (arith, behind))) (λ (within : k ≤ n). inl within) (cases_lt n k)

module _ (v : View) (working : IsWorking v) (spans : List Span) (entries : List Redo) (n : ℕ) (deciding : IsDeciding v (after_all v (settles v)) spans entries n) where
  abbrev mid : View
  mid = after_all v (settles v)

  abbrev first : List Step
  first = settles v

  pub commit_lawful : Ready v (commits spans entries n v) × IsOver v (after_all v (commits spans entries n v)) n
  unfolding commits in_turn
  commit_lawful = (
    ready_both v first (decides_all spans entries n mid) (settle_lawful v).0 deciding.ready,
    subst (λ (w : View). IsOver v w n) (sym (after_all-append v first (decides_all spans entries n mid))) deciding.over,
  )

  pub commit_last : IsDrawnBy v (after_all v (commits spans entries n v)) Commit None n
  unfolding commits in_turn
  commit_last = subst (λ (w : View). IsDrawnBy v w Commit None n) (sym (after_all-append v first (decides_all spans entries n mid))) deciding.last

  settled_few : length mid.entries ≤ length v.entries
  settled_few = let same = ap (λ (u : View). length u.entries) (settle_lawful v).1 in omega (arith, same)

  pub commit_drawn : DrawEnded mid (decides_all spans entries n mid) → DrawEnded v (commits spans entries n v)
  unfolding commits in_turn
  commit_drawn draws = drawn_in_turn v first (decides_all spans entries n mid) (drawless v first settled_few) draws

  -- all is made persistent, and the entries are logged
  abbrev readied : List Step
  readied = in_turn settles (logs_listed entries) v

  readied_there : after_all v readied ≡ after_all mid (logs_listed entries mid)
  unfolding in_turn
  readied_there = after_all-append v first (logs_listed entries mid)

  -- so far nothing is drawn
  pub readied_undrawn : (made : ℕ) → IsUndrawn v (after_all v (take made readied))
  readied_undrawn made =
      front_undrawn v readied made
      (let there = ap (λ (u : View). length u.entries) readied_there in let same = ap length deciding.still in let few = settled_few in omega (arith, there, same, few))
      working.undrawn

  abbrev ends : List Step
  ends = ends_call Commit None n (after_all mid (logs_listed entries mid))

  abbrev completing : List Step
  completing = completes spans entries (drawn_view v entries n)

  pub readied_first : commits spans entries n v ≡ readied ++ (ends ++ completing)
  unfolding commits in_turn
  readied_first = ap (λ (steps : List Step). first ++ steps) (decides_in_parts mid spans entries n) ∙ sym (append_assoc first (logs_listed entries mid) (ends ++ completing))

  pub tail_last : commits spans entries n v ≡ (readied ++ ends) ++ completing
  tail_last = readied_first ∙ sym (append_assoc readied ends completing)

  pub drawn_there : after_all v (readied ++ ends) ≡ drawn_view v entries n
  drawn_there = after_all-append v readied ends ∙ ap (λ (u : View). after_all u ends) readied_there

  pub behind_is_drawn : (made : ℕ) → IsDrawnBy v (after_all (drawn_view v entries n) (take made completing)) Commit None n
  behind_is_drawn made = deciding.behind made

  undrawn_there : IsUndrawn v (after_all mid (logs_listed entries mid))
  undrawn_there = subst (IsUndrawn v) readied_there (subst (λ (steps : List Step). IsUndrawn v (after_all v steps)) (take-length readied) (readied_undrawn (length readied)))

  -- wherever the lane stops behind that, the number is drawn or not
  behind_readied : (k : ℕ) → IsDrawnOrNot v (after_all (after_all mid (logs_listed entries mid)) (take k (ends ++ completing))) Commit None
  unfolding ends_call in_turn one after_all
  behind_readied zero = record { told = inl undrawn_there.0; entries = inl undrawn_there }
  behind_readied (suc zero) = record { told = inl undrawn_there.0; entries = inl undrawn_there }
  behind_readied (suc (suc k)) = let behind = behind_is_drawn k in record { told = inr behind.0; entries = inr (n, behind.1) }

  -- and wherever it stops at all
  pub commit_front : (k : ℕ) → IsDrawnOrNot v (after_all v (take k (commits spans entries n v))) Commit None
  commit_front k =
      let rest : List Step = ends ++ completing in
      subst (λ (steps : List Step). IsDrawnOrNot v (after_all v (take k steps)) Commit None) (sym readied_first)
      (⊎_elim
      (λ (before : k ≤ length readied).
      subst (λ (steps : List Step). IsDrawnOrNot v (after_all v steps) Commit None) (sym (take-append-le k readied rest before))
      (let undrawn = readied_undrawn k in record { told = inl undrawn.0; entries = inl undrawn }))
      (λ (behind : (j : ℕ) × (k ≡ length readied + j)).
      subst (λ (u : View). IsDrawnOrNot v u Commit None)
      (sym (ap (λ (i : ℕ). after_all v (take i (readied ++ rest))) behind.1 ∙ (ap (after_all v) (take-append-add readied rest behind.0)
      ∙ (after_all-append v readied (take behind.0 rest) ∙ ap (λ (u : View). after_all u (take behind.0 rest)) readied_there))))
      (behind_readied behind.0))
      (before_or_behind k (length readied)))

-- a call at work, with entries that it may publish, may be decided so
pub deciding_of : (v : View) → IsWorking v → (spans : List Span) (entries : List Redo) → spans ≡ map span_of v.log.records → CanPublish v entries → (n : ℕ) → IsDeciding v (after_all v (settles v)) spans entries n
deciding_of v working spans [] are can n =
    subst (λ (s : List Span). IsDeciding v (after_all v (settles v)) s [] n) (sym are) (deciding_none v (after_all v (settles v)) working can.unentered can.may_come (settle_lawful v).1 n)
deciding_of v working spans (e ∷ entries) are can n = deciding_some v (after_all v (settles v)) working can.unentered can.may_come (settle_lawful v).1 spans e entries can.few can.each n

can_decide : (v : View) → IsWorking v → (spans : List Span) (entries : List Redo) → spans ≡ map span_of v.log.records → CanPublish v entries → CanDecide (after_all v (settles v)) spans entries
can_decide v working spans [] are can =
    subst (λ (s : List Span). CanDecide (after_all v (settles v)) s []) (sym are) (can_decide_none v (after_all v (settles v)) working can.unentered can.may_come (settle_lawful v).1)
can_decide v working spans (e ∷ entries) are can = may_publish v (after_all v (settles v)) working can.unentered can.may_come (settle_lawful v).1 (e ∷ entries) (omega arith) can.few can.each

module _ {M : Type 0} (at : M → View → Type 0) (lane : Lane M) (v : View) (seen : IsSeenAs at lane v) (working : IsWorking v) (can : CanPublish v lane.entries.items) where
  abbrev records : List Span
  records = lane.records.items

  abbrev listed : List Redo
  listed = lane.entries.items

  abbrev settled_view : View
  settled_view = after_all v (settles v)

  pub decidable : (behind : View → Type 0) → Runs {T = Unit {0}} (at lane.memory) behind settles (Ok tt) → IsDecidable behind records listed
  unfolding Runs
  decidable behind ran = (settled_view, (ran v seen.memory (settle_lawful v).0, can_decide v working records listed seen.records can))

  module _ (new : Lane M) where
    abbrev decides_so : IsDeciding v settled_view records listed new.last
    decides_so = deciding_of v working records listed seen.records can new.last

    -- the lane is behind its call
    pub behind_commit : HoldsLines v → Runs {T = Unit {0}} (at lane.memory) (at new.memory) (commits records listed new.last) (Ok tt) → new.locks.items ≡ lane.locks.items → new.records.items ≡ [] → new.entries.items ≡ [] → new.drawn ≡ Some new.last → IsOfSamePool lane new → new.stopped ≡ false
        → IsAfterCall at new (after_all v (commits records listed new.last v))
    unfolding Runs
    behind_commit lines ran locks none unlisted drawn pool unstopped =
        let lawful = commit_lawful v working records listed new.last decides_so in
        after_over at lane new v (after_all v (commits records listed new.last v)) seen lines (ran v seen.memory lawful.0) lawful.1 locks none unlisted drawn pool unstopped (place_at_work v working)

    -- it stopped before the draw
    stopped_undrawn : IsStopped (at lane.memory) (at new.memory) (in_turn settles (logs_listed listed)) → new.stopped ≡ true → new.drawn ≡ lane.drawn → IsStoppedAmong at new v (commits records listed new.last) Commit None
    unfolding Runs
    stopped_undrawn stops says drawn =
        let lawful = commit_lawful v working records listed new.last decides_so in
        let first : List Step = in_turn settles (logs_listed listed) v in
        let ends : List Step = ends_call Commit None new.last (after_all settled_view (logs_listed listed settled_view)) in
        let rest : List Step = ends ++ completes records listed (drawn_view v listed new.last) in
        let are = readied_first v working records listed new.last decides_so in
        let s : Stops (at new.memory) v first = stops.1 v seen.memory (ready_left v first rest (subst (Ready v) are lawful.0)) in
        let undrawn = readied_undrawn v working records listed new.last decides_so s.made in
        among_left at new v (commits records listed new.last) Commit None first rest are lawful.0 s says
        (drawn ∙ (undrawn_lane at lane v seen working.undrawn ∙ sym undrawn.0)) (record { told = inl undrawn.0; entries = inl undrawn })

    -- it stopped behind the draw
    stopped_drawn : StopsDrawn (at lane.memory) (at new.memory) records listed new.last → new.stopped ≡ true → new.drawn ≡ Some new.last → IsStoppedAmong at new v (commits records listed new.last) Commit None
    stopped_drawn stops says drawn =
        let lawful = commit_lawful v working records listed new.last decides_so in
        let d : View = drawn_view v listed new.last in
        let tail : List Step = completes records listed d in
        let ends : List Step = ends_call Commit None new.last (after_all settled_view (logs_listed listed settled_view)) in
        let s : Stops (at new.memory) d tail = stops v seen.memory lawful.0 in
        let behind = behind_is_drawn v working records listed new.last decides_so s.made in
        among_right at new v (commits records listed new.last) Commit None (in_turn settles (logs_listed listed) v ++ ends) d tail
        (drawn_there v working records listed new.last decides_so) (tail_last v working records listed new.last decides_so) lawful.0 s says
        (drawn ∙ sym behind.1.number) (record { told = inr behind.0; entries = inr (new.last, behind.1) })

    -- it stopped in one of the two
    pub stopped_among : ((new.drawn ≡ lane.drawn) × IsStopped (at lane.memory) (at new.memory) (in_turn settles (logs_listed listed))) ⊎ ((new.drawn ≡ Some new.last) × StopsDrawn (at lane.memory) (at new.memory) records listed new.last) → new.stopped ≡ true
        → IsStoppedAmong at new v (commits records listed new.last) Commit None
    stopped_among where_ says =
        ⊎_elim (λ (first : (new.drawn ≡ lane.drawn) × IsStopped (at lane.memory) (at new.memory) (in_turn settles (logs_listed listed))). stopped_undrawn first.1 says first.0)
        (λ (behind : (new.drawn ≡ Some new.last) × StopsDrawn (at lane.memory) (at new.memory) records listed new.last). stopped_drawn behind.1 says behind.0) where_
