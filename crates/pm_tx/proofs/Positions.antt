-- WHERE EACH CALL OF A TRANSACTION LEAVES ITS LANE, from what the call says that it did.
use Rattle.std.proofs.Common.{◌≡◌, ℕ, zero, suc, ◌+◌, false, add-one, ⊎_elim, List, Option, Some, None, Result, Ok, Err, refl, sym, ap, ◌∙◌, subst}
use Rattle.pm_model.specs.declared.stage.Stage.{Stage}
use Rattle.pm_model.specs.declared.stage.Stage.TheVariants as stage
use Rattle.pm_objects.specs.declared.calls.Operation.{Operation}
use Rattle.pm_objects.specs.declared.calls.Operation.TheVariants.{Begin}
use Rattle.pm_objects.specs.declared.calls.Want.{Want}
use Rattle.pm_objects.specs.declared.history.TxErr.{TxErr}
use Rattle.pm_objects.specs.declared.history.TxErr.TheVariants as error
use Rattle.pm_objects.specs.declared.refusal.Refusal.{Refusal}
use Rattle.pm_objects.specs.declared.refusal.Refusal.TheVariants as refusal
use Rattle.pm_view.specs.View.{View}
use Rattle.pm_world.specs.LaneFields.{Standing, Works, moved}
use Rattle.pm_world.specs.declared.lane.Lane.{Lane}
use Rattle.pm_call.specs.At.{At}
use Rattle.pm_call.specs.Did.{work_refusal}
use Rattle.pm_call.specs.Histories.{LaneHistory}
use Rattle.pm_call.specs.LockOps.{BeganInner, DeepAs, LockedAs}
use Rattle.pm_call.specs.Opening.{OutermostBegun, OutermostBegunAs}
use Rattle.pm_call.specs.Positions.{Position, aborted_at, at_stop, moved_by, position_of, resting, unless_refused, working}
use Rattle.pm_call.specs.Stages.{Ended, EndedAs, EndedBy, EndedSo, IsLanePast, end_refusal, next_stage}
use Rattle.pm_call.specs.Standing.{StandsWith}
use Rattle.pm_call.proofs.Positions.{moves_at_work, moves_outside, position_in, spent_between}
use Rattle.pm_tx.specs.Begins.{LevelBegun, LevelBegunSo}
use Rattle.pm_tx.specs.Commits.{InnerEnds, LevelCommitted, LevelCommittedSo, LevelEnds, OutermostEnds, PassedSo, Processed, ProcessedFrom}
use Rattle.pm_tx.specs.Locks.{DidLock, DidLockSo}
use Rattle.pm_tx.specs.Outcome.{Aborted, AbortedAs, AbortedSo}
use Rattle.pm_tx.specs.Positions.{aborted_by, begun_by, committed_by, ended_at, ended_by, processed_by}
use Rattle.pm_tx.specs.Publishing.{Published, PublishedAs, PublishedSo}
use Rattle.pm_tx.proofs.LevelBegins.{outside}

module _ {M : Type 0} (at : M → View → Type 0) (old new : Lane M) (h : LaneHistory) where
  -- ---- locks

  refused_lock_moves : (s : Standing) (op : Operation) (wants : List Want) (level : ℕ) (r : Refusal)
      → LockedAs at new s op wants level (Err r)
      → position_of new ≡ moved_by {T = Unit {0}} (Err r) (working s.level)
  refused_lock_moves s op wants level refusal.Stopped l = ap position_in l.3.fields
  refused_lock_moves s op wants level r l = ap position_in l.1.sees.fields

  locked_moves : (s : Standing) (op : Operation) (wants : List Want)
      (result : Result (Unit {0}) Refusal) → LockedAs at new s op wants s.level result
      → position_of new ≡ moved_by result (working s.level)
  locked_moves s op wants (Ok done) l = ap position_in l.4.fields
  locked_moves s op wants (Err r) l = refused_lock_moves s op wants s.level r l

  pub lock_moves : (op : Operation) (wants : List Want) (result : Result (Unit {0}) Refusal)
      → StandsWith at old h → DidLock at old new op wants result
      → position_of new ≡ unless_refused (work_refusal old) (moved_by result (position_of old))
      (position_of old)
  unfolding DidLock
  lock_moves op wants result stands did =
      moves_at_work at old new h (λ w. DidLockSo w at old new op wants result) (moved_by result)
      stands (λ r d. d.1) (λ d s works is. locked_moves s op wants result (d s works is)) did

  -- ---- a publish

  publish_moves : (s : Standing) (result : Result (Unit {0}) Refusal) → PublishedAs at new result s
      → position_of new ≡ moved_by result (working s.level)
  publish_moves s (Ok done) p = ap position_in p.works.fields
  publish_moves s (Err refusal.Stopped) p = ap position_in p.cut.fields
  publish_moves s (Err r) p = ap position_in p.sees.fields

  pub published_moves : (result : Result (Unit {0}) Refusal) → StandsWith at old h
      → Published at old new result
      → position_of new ≡ unless_refused (work_refusal old) (moved_by result (position_of old))
      (position_of old)
  unfolding Published
  published_moves result stands published =
      moves_at_work at old new h (λ w. PublishedSo w at old new result) (moved_by result) stands
      (λ r d. d.1)
      (λ d s works is. let t = d s works is in publish_moves (moved s t.view) result t.holds)
      published

  -- ---- a commit

  outermost_moves : (s : Standing) (result : Result (Unit {0}) Refusal)
      → OutermostEnds at new result s → position_of new ≡ committed_by result (working s.level)
  outermost_moves s (Ok done) ends = ap position_in ends.sees.fields
  outermost_moves s (Err refusal.Stopped) ends = ap position_in ends.fields
  outermost_moves s (Err r) ends = absurd ends

  inner_moves : (s : Standing) (result : Result (Unit {0}) Refusal) → InnerEnds at new result s
      → position_of new ≡ committed_by result (working s.level)
  inner_moves s (Ok done) ends = ap position_in ends.1.sees.fields
  inner_moves s (Err r) ends = absurd ends

  level_moves : (s : Standing) (result : Result (Unit {0}) Refusal) (n : ℕ)
      → LevelEnds at new result n s → position_of new ≡ committed_by result (working s.level)
  level_moves s result (suc zero) ends = outermost_moves (moved s ends.view) result ends.holds
  level_moves s result n ends = inner_moves s result ends

  pub committed_moves : (result : Result (Unit {0}) Refusal) → StandsWith at old h
      → LevelCommitted at old new result
      → position_of new ≡ unless_refused (work_refusal old) (committed_by result (position_of old))
      (position_of old)
  unfolding LevelCommitted
  committed_moves result stands committed =
      moves_at_work at old new h (λ w. LevelCommittedSo w at old new result) (committed_by result)
      stands (λ r d. d.1) (λ d s works is. level_moves s result s.level (d s works is)) committed

  -- ---- an abort

  abort_moves : (errnum : ℕ) (s : Standing) (result : Result (Unit {0}) Refusal)
      → AbortedAs at new errnum result s
      → position_of new ≡ aborted_by errnum result (working s.level)
  abort_moves errnum s (Ok done) a = ap position_in a.sees.fields
  abort_moves errnum s (Err refusal.Stopped) a = ap position_in a.1.fields
  abort_moves errnum s (Err r) a = absurd a

  pub aborted_moves : (errnum : ℕ) (result : Result (Unit {0}) Refusal) → StandsWith at old h
      → Aborted at old new errnum result
      → position_of new ≡ unless_refused (work_refusal old)
      (aborted_by errnum result (position_of old)) (position_of old)
  unfolding Aborted
  aborted_moves errnum result stands aborted =
      moves_at_work at old new h (λ w. AbortedSo w at old new errnum result)
      (aborted_by errnum result) stands (λ r d. d.1)
      (λ d s works is. abort_moves errnum s result (d s works is)) aborted

  -- ---- the next stage

  passed_moves : (result : Result (Unit {0}) Refusal) (st : Stage) → old.stage ≡ st
      → StandsWith at old h → PassedSo (end_refusal old) at old new result
      → position_of new ≡ unless_refused (end_refusal old)
      (record (position_of old) { stage = next_stage st }) (position_of old)
  passed_moves result st is stands passed = by (end_refusal old) refl passed where
    by : (w : Option Refusal) → end_refusal old ≡ w → PassedSo w at old new result
        → position_of new ≡ unless_refused w (record (position_of old) { stage = next_stage st })
        (position_of old)
    by (Some r) some d = ap (λ (lane : Lane M). position_of lane) d.1
    by None none d =
        let p = (stands.past none).0 in
        let was = ap position_in p.stands.sees.fields in
        ap position_in (d p.standing p.stage p.error p.stands).1.sees.fields
        ∙ ap (λ (q : Position). record q { stage = next_stage q.stage }) (sym was)
        ∙ ap (λ (t : Stage). record (position_of old) { stage = next_stage t }) is

  pub processed_moves : (result : Result (Unit {0}) Refusal) → StandsWith at old h
      → Processed at old new result
      → position_of new ≡ processed_by old.stage old result (position_of old)
  unfolding Processed
  processed_moves result stands processed = by old.stage refl processed where
    by : (st : Stage) → old.stage ≡ st → ProcessedFrom st at old new result
        → position_of new ≡ processed_by st old result (position_of old)
    by stage.Work is p = committed_moves result stands p
    by st is p = passed_moves result st is stands p

  -- ---- the end of a level

  end_moves : (s : Standing) (e : TxErr) (n : ℕ) (p : Position) → EndedAs at new e n s
      → position_of new ≡ ended_at e n p
  end_moves s e zero p ends = absurd ends
  end_moves s e (suc zero) p ends = ap position_in ends.0.fields
  end_moves s error.None (suc (suc n)) p ends = ap position_in ends.0.fields
  end_moves s e (suc (suc n)) p ends = ap position_in ends.sees.fields

  answer_moves : (p : IsLanePast at old) (result : Result TxErr Refusal)
      → EndedBy at new result p.error p.standing
      → (position_of new ≡ ended_by result (position_of old)) × (result ≡ Ok old.error)
  answer_moves p (Ok e) d =
      let was = ap position_in p.stands.sees.fields in (
        end_moves p.standing p.error p.standing.level (position_of old) d.1
            ∙ (λ i. ended_at (sym d.0 i) (sym was i).level (position_of old)),
        ap Ok (d.0 ∙ ap (λ (q : Position). q.error) (sym was)),
      )
  answer_moves p (Err r) d = absurd d

  pub ended_moves : (result : Result TxErr Refusal) → StandsWith at old h
      → Ended at old new result
      → position_of new ≡ unless_refused (end_refusal old) (ended_by result (position_of old))
      (position_of old)
  unfolding Ended
  ended_moves result stands ended = by (end_refusal old) refl ended where
    by : (w : Option Refusal) → end_refusal old ≡ w → EndedSo w at old new result
        → position_of new ≡ unless_refused w (ended_by result (position_of old)) (position_of old)
    by (Some r) some d = ap (λ (lane : Lane M). position_of lane) d.1
    by None none d =
        let p = (stands.past none).0 in
        (answer_moves p result (d p.standing p.stage p.error p.stands)).0

  pub end_returns : (result : Result TxErr Refusal) → StandsWith at old h
      → Ended at old new result → end_refusal old ≡ None → result ≡ Ok old.error
  unfolding Ended
  end_returns result stands ended none =
      let p = (stands.past none).0 in
      let d : EndedSo None at old new result =
      subst (λ w. EndedSo w at old new result) none ended in
      (answer_moves p result (d p.standing p.stage p.error p.stands)).1

  module _ (wants : List Want) where
    -- ---- the begin of an inner level

    deep_moves : (s : Standing) (result : Result (Unit {0}) Refusal) → DeepAs at new s wants result
        → position_of new ≡ begun_by None result (working s.level)
    deep_moves s (Ok done) d = absurd d
    deep_moves s (Err refusal.Stopped) d = ap position_in d.1.fields
    deep_moves s (Err r) d = ap position_in d.1.sees.fields
        ∙ ap (λ q. aborted_at (error.Refused q) s.level) (sym d.0)

    inner_locks_move : (s : Standing) (result : Result (Unit {0}) Refusal)
        → LockedAs at new s (Begin wants) wants (s.level + 1) result
        → position_of new ≡ begun_by None result (working s.level)
    inner_locks_move s (Ok done) l =
        ap position_in l.4.fields ∙ ap working (add-one s.level)
    inner_locks_move s (Err r) l = refused_lock_moves s (Begin wants) wants (s.level + 1) r l

    began_inner_moves : (s : Standing) → Works at old s → At s
        → (result : Result (Unit {0}) Refusal) → BeganInner at old new wants result
        → position_of new ≡ begun_by None result (working s.level)
    unfolding BeganInner
    began_inner_moves s works is result began = ⊎_elim
        (λ d. deep_moves s result d.1)
        (λ l. inner_locks_move s result l.1)
        (began s works is)

    -- ---- the begin of the outermost level

    opened_moves : (s : Standing) → s.level ≡ 0 → (result : Result (Unit {0}) Refusal)
        → OutermostBegunAs at new wants result s
        → position_of new ≡ begun_by (Some refusal.NoTx) result resting
    opened_moves s outside (Ok done) b = ap position_in b.holds.works.fields
    opened_moves s outside (Err refusal.Spent) b = spent_between at new s outside b
    opened_moves s outside (Err refusal.Stopped) b = ap position_in b.holds.fields
        ∙ ap (λ (n : ℕ). at_stop (record resting { level = n })) outside
    opened_moves s outside (Err r) b = ap position_in b.holds.ended.sees.fields

    begun_outermost_moves : (result : Result (Unit {0}) Refusal) → old.stopped ≡ false
        → old.level ≡ 0 → StandsWith at old h → OutermostBegun at old new wants result
        → position_of new ≡ begun_by (Some refusal.NoTx) result (position_of old)
    unfolding OutermostBegun
    begun_outermost_moves result going none stands begun =
        moves_outside at old new h (begun_by (Some refusal.NoTx) result) stands going none
        (λ s outside rests may. opened_moves s outside result (begun s rests may))

    -- ---- a begin

    pub begun_level_moves : (result : Result (Unit {0}) Refusal) → StandsWith at old h
        → LevelBegun at old new wants result
        → position_of new ≡ begun_by (work_refusal old) result (position_of old)
    unfolding LevelBegun
    begun_level_moves result stands begun = by (work_refusal old) refl begun where
      by : (w : Option Refusal) → work_refusal old ≡ w → LevelBegunSo w at old new wants result
          → position_of new ≡ begun_by w result (position_of old)
      by None none b =
          let here = (stands.work none).0 in
          began_inner_moves here.standing here.works here.stands result b
          ∙ ap (begun_by None result) (sym (ap position_in here.works.fields))
      by (Some refusal.NoTx) is b =
          let o = outside old.stopped old.stage old.level is in
          begun_outermost_moves result o.0 o.1 stands b
      by (Some r) is b = ap (λ (lane : Lane M). position_of lane) b.1
