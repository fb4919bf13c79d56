-- WHAT A LINE CAME TO, from how its call turned the lane's history and where it left the lane.
use Rattle.std.proofs.Common.{◌≡◌, ℕ, zero, suc, Bool, true, false, inl, inr, List, [], ◌∷◌, ◌++◌, length, take, Option, Some, None, Result, Ok, Err, refl, sym, ap, ◌∙◌, subst, arith}
use Rattle.pm_model.specs.Inside.{error_for, is_action}
use Rattle.pm_model.specs.Outside.{is_outside}
use Rattle.pm_objects.specs.declared.calls.Operation.{Operation}
use Rattle.pm_objects.specs.declared.calls.Operation.TheVariants as operation
use Rattle.pm_objects.specs.declared.calls.Want.{Want}
use Rattle.pm_objects.specs.declared.history.TxErr.{TxErr}
use Rattle.pm_objects.specs.declared.history.TxErr.TheVariants as error
use Rattle.pm_objects.specs.declared.history.Value.{Value}
use Rattle.pm_objects.specs.declared.history.Value.TheVariants.{Refused}
use Rattle.pm_objects.specs.declared.refusal.Refusal.{Refusal}
use Rattle.pm_objects.specs.declared.refusal.Refusal.TheVariants as refusal
use Rattle.pm_view.specs.View.{View}
use Rattle.pm_world.specs.declared.lane.Lane.{Lane}
use Rattle.pm_call.specs.Did.{work_refusal}
use Rattle.pm_call.specs.Histories.{LaneHistory, no_value, told_by, told_last, told_more, turned, turned_alone, turned_commit, turned_last, turned_open, unless}
use Rattle.pm_call.specs.Positions.{Position, committed_at, moved_by, position_of, resting, stopped_by, unless_refused, working}
use Rattle.pm_call.specs.Stages.{end_refusal}
use Rattle.pm_call.specs.Standing.{StandsWith}
use Rattle.pm_tx.specs.Positions.{aborted_by, begun_by, committed_by, ended_by}
use Rattle.pm_tx.specs.Standing.{turned_begin}
use Rattle.pm_action.specs.Calls.{ByLevel, IfOutside}
use Rattle.pm_action.specs.Inside.{Cancelled}
use Rattle.pm_action.specs.Standing.{if_outside, turned_action, turned_asked}
use Rattle.pm_exec.specs.Answers.{GoesOnSo, IsSpent, LineCame}
use Rattle.pm_exec.specs.Lines.{at_level, end_alone, end_asked, end_at_work, end_noted, end_opened, unvalued}
use Rattle.pm_exec.specs.declared.line_end.LineEnd.TheVariants as ends
use Rattle.pm_exec.proofs.Stopping.{cancel_stops}

-- no number and some
none_drawn : (d : Option ℕ) (k : ℕ) → d ≡ None → d ≡ Some k → ⊥
none_drawn d k none is = let clash : None ≡ Some k = sym none ∙ is in cc

-- the front of two lists
pub take_front : (xs ys : List ℕ) (n : ℕ) → length xs ≡ n → take n (xs ++ ys) ≡ xs
take_front [] ys zero is = refl
take_front [] ys (suc n) is = absurd cc
take_front (x ∷ xs) ys zero is = absurd cc
take_front (x ∷ xs) ys (suc n) is =
    ap (λ (l : List ℕ). x ∷ l) (take_front xs ys n (let e : suc (length xs) ≡ suc n = is in omega (arith, e)))

-- ---- LEVELS

level_there : (level : ℕ) → (at_level level).level ≡ level
level_there zero = refl
level_there (suc n) = refl

module _ {M : Type 0} (old : Lane M) (level : ℕ) (here : position_of old ≡ at_level level) where
  pub level_is : old.level ≡ level
  level_is = ap (λ (p : Position). p.level) here ∙ level_there level

module _ {M : Type 0} (at : M → View → Type 0) (old new : Lane M) (h : LaneHistory) where
  -- what its stage does not refuse
  unrefused : (next : LaneHistory) → work_refusal old ≡ None
      → StandsWith at new (unless (work_refusal old) next h) → StandsWith at new next
  unrefused next none = subst (λ (w : Option Refusal). StandsWith at new (unless w next h)) none

  moved_so : (to : Position → Position) (p : Position) → work_refusal old ≡ None
      → position_of old ≡ p
      → position_of new ≡ unless_refused (work_refusal old) (to (position_of old)) (position_of old)
      → position_of new ≡ to p
  moved_so to p none here moved =
      moved
      ∙ ap (λ (w : Option Refusal). unless_refused w (to (position_of old)) (position_of old)) none
      ∙ ap to here

  -- outside a transaction, and inside one
  pub outside_history : (outside inside : LaneHistory) → old.stopped ≡ false → old.level ≡ 0
      → StandsWith at new (if_outside old.stopped old.level outside inside)
      → StandsWith at new outside
  outside_history outside inside going none stands =
      subst (λ (n : ℕ). StandsWith at new (if_outside false n outside inside)) none
      (subst (λ (b : Bool). StandsWith at new (if_outside b old.level outside inside)) going stands)

  module _ (n : ℕ) (here : position_of old ≡ working (suc n)) where
    pub inside_history : (outside inside : LaneHistory) → work_refusal old ≡ None
        → StandsWith at new (if_outside old.stopped old.level outside (unless (work_refusal old) inside h))
        → StandsWith at new inside
    inside_history outside inside none stands =
        unrefused inside none
        (subst (λ (p : Position). StandsWith at new (if_outside p.stopped p.level outside (unless (work_refusal old) inside h))) here stands)

    pub inside_call : (outside inside : Type 0) → ByLevel old outside inside → inside
    unfolding ByLevel
    inside_call outside inside call =
        subst (λ (p : Position). IfOutside p.stopped p.level outside inside) here call

  -- ---- AN OPERATION AT WORK

  module _ (op : Operation) (n : ℕ) (here : position_of old ≡ working (suc n))
      (none : work_refusal old ≡ None) where
    -- it is done, with this reply
    pub came_done : {T : Type 0} (reply : T → Option Value) (x : T) → GoesOnSo op (reply x)
        → StandsWith at new (unless (work_refusal old) (turned new op reply (Ok x) h) h)
        → position_of new ≡ unless_refused (work_refusal old)
        (moved_by {T = T} (Ok x) (position_of old)) (position_of old)
        → LineCame at new op (suc n) (suc n) h (ends.GoesOn (reply x))
    came_done {T} reply x goes stands moved = (
      unrefused (told_more op (reply x) h) none stands,
      moved_so (moved_by {T = T} (Ok x)) (working (suc n)) none here moved,
      omega arith,
      goes,
    )

    -- the lane stopped in it
    pub came_stopped : {T : Type 0} (reply : T → Option Value)
        → StandsWith at new (unless (work_refusal old)
        (turned {T = T} new op reply (Err refusal.Stopped) h) h)
        → position_of new ≡ unless_refused (work_refusal old)
        (moved_by {T = T} (Err refusal.Stopped) (position_of old)) (position_of old)
        → new.drawn ≡ None → (behind : ℕ) → LineCame at new op (suc n) behind h ends.Stopped
    came_stopped {T} reply stands moved unnumbered behind = (
      unrefused (told_by new.drawn op None h) none stands,
      ap (λ (p : Position). p.stopped)
          (moved_so (moved_by {T = T} (Err refusal.Stopped)) (working (suc n)) none here moved),
      λ k is. absurd (none_drawn new.drawn k unnumbered is),
    )

    -- refused, it gives the transaction up, unless the lane stopped
    pub came_refused : {T : Type 0} (reply : T → Option Value) (r : Refusal)
        → is_action op ≡ false
        → StandsWith at new (unless (work_refusal old) (turned {T = T} new op reply (Err r) h) h)
        → position_of new ≡ unless_refused (work_refusal old)
        (moved_by {T = T} (Err r) (position_of old)) (position_of old)
        → (r ≡ refusal.Stopped → new.drawn ≡ None)
        → LineCame at new op (suc n) (suc n) h (end_at_work (Err r))
    came_refused {T} reply refusal.Stopped plain stands moved unnumbered =
        came_stopped {T = T} reply stands moved (unnumbered refl) (suc n)
    came_refused {T} reply r plain stands moved unnumbered = (
      Some (Refused r),
      n,
      inl (r, plain, refl, refl),
      unrefused (told_last new.last op (Some (Refused r)) h) none stands,
      moved_so (moved_by {T = T} (Err r)) (working (suc n)) none here moved,
      λ zero. absurd (let e : suc n ≡ 0 = zero in omega (arith, e)),
    )

    -- an operation without a reply
    pub came_unreplied : (result : Result (Unit {0}) Refusal) → is_action op ≡ false
        → GoesOnSo op None
        → StandsWith at new (unless (work_refusal old) (turned new op no_value result h) h)
        → position_of new ≡ unless_refused (work_refusal old) (moved_by result (position_of old))
        (position_of old)
        → (result ≡ Err refusal.Stopped → new.drawn ≡ None)
        → LineCame at new op (suc n) (suc n) h (end_at_work (unvalued result))
    came_unreplied (Ok done) plain goes stands moved unnumbered =
        came_done {T = Unit {0}} no_value done goes stands moved
    came_unreplied (Err r) plain goes stands moved unnumbered =
        came_refused {T = Unit {0}} no_value r plain stands moved
        (λ is. unnumbered (ap (λ (q : Refusal). Err q) is))

  -- no number is left, where the lane stands and is here so
  abbrev pub SpentThen : Type 0
  SpentThen = StandsWith at new h → position_of new ≡ resting → IsSpent at new h

  -- ---- A BEGIN

  module _ (wants : List Want) where
    -- of the outermost level
    pub came_opened : (result : Result (Unit {0}) Refusal) → position_of old ≡ resting
        → work_refusal old ≡ Some refusal.NoTx
        → StandsWith at new (turned_begin (work_refusal old) new wants result h)
        → position_of new ≡ begun_by (work_refusal old) result (position_of old)
        → (result ≡ Err refusal.Stopped → new.drawn ≡ None)
        → (result ≡ Err refusal.Spent → SpentThen)
        → LineCame at new (operation.Begin wants) 0 1 h (end_opened result)
    came_opened result here outside stands moved unnumbered spent =
        by result
        (subst (λ (w : Option Refusal). StandsWith at new (turned_begin w new wants result h)) outside
        stands)
        (moved ∙ (λ i. begun_by (outside i) result (here i)))
        unnumbered spent
      where
        by : (done : Result (Unit {0}) Refusal)
            → StandsWith at new (turned_open new (operation.Begin wants) done h)
            → position_of new ≡ begun_by (Some refusal.NoTx) done resting
            → (done ≡ Err refusal.Stopped → new.drawn ≡ None)
            → (done ≡ Err refusal.Spent → SpentThen)
            → LineCame at new (operation.Begin wants) 0 1 h (end_opened done)
        by (Ok done) s m u p = (s, m, omega arith, refl)
        by (Err refusal.Stopped) s m u p = (
          s,
          ap (λ (p : Position). p.stopped) m,
          λ k is. absurd (none_drawn new.drawn k (u refl) is),
        )
        by (Err refusal.Spent) s m u p = p refl s m
        by (Err r) s m u p =
            (Some (Refused r), 0, inl (r, refl, refl, refl), s, m, λ zero. refl)

    -- of an inner one
    pub came_inner : (result : Result (Unit {0}) Refusal) (n : ℕ)
        → position_of old ≡ working (suc n) → work_refusal old ≡ None
        → StandsWith at new (turned_begin (work_refusal old) new wants result h)
        → position_of new ≡ begun_by (work_refusal old) result (position_of old)
        → (result ≡ Err refusal.Stopped → new.drawn ≡ None)
        → LineCame at new (operation.Begin wants) (suc n) (suc (suc n)) h
        (end_at_work (unvalued result))
    came_inner result n here none stands moved unnumbered =
        by result
        (subst (λ (w : Option Refusal). StandsWith at new (turned_begin w new wants result h)) none
        stands)
        (moved ∙ (λ i. begun_by (none i) result (here i)))
        unnumbered
      where
        by : (done : Result (Unit {0}) Refusal)
            → StandsWith at new (turned new (operation.Begin wants) no_value done h)
            → position_of new ≡ begun_by None done (working (suc n))
            → (done ≡ Err refusal.Stopped → new.drawn ≡ None)
            → LineCame at new (operation.Begin wants) (suc n) (suc (suc n)) h
            (end_at_work (unvalued done))
        by (Ok done) s m u = (s, m, omega arith, refl)
        by (Err refusal.Stopped) s m u = (
          s,
          ap (λ (p : Position). p.stopped) m,
          λ k is. absurd (none_drawn new.drawn k (u refl) is),
        )
        by (Err r) s m u = (
          Some (Refused r),
          n,
          inl (r, refl, refl, refl),
          s,
          m,
          λ zero. absurd (let e : suc n ≡ 0 = zero in omega (arith, e)),
        )

  -- ---- A CALL ON WHAT IS PENDING, outside a transaction

  module _ (op : Operation) (alone : is_outside op ≡ true) where
    -- that is asked for alone
    pub came_asked : (result : Result (Unit {0}) Refusal)
        → StandsWith at new (turned_asked new op result h) → position_of new ≡ resting
        → (result ≡ Err refusal.Spent → SpentThen) → LineCame at new op 0 0 h (end_asked result)
    came_asked (Ok done) s m p = (s, m, refl, inr (alone, refl))
    came_asked (Err refusal.Spent) s m p = p refl s m
    came_asked (Err r) s m p = (s, m, refl, inr (alone, refl))

    -- a publish
    pub came_alone : (result : Result (Unit {0}) Refusal)
        → StandsWith at new (turned_alone new op result h)
        → position_of new ≡ stopped_by result resting
        → (result ≡ Err refusal.Spent → SpentThen) → LineCame at new op 0 0 h (end_alone result)
    came_alone (Ok done) s m p = (s, m, refl, inr (alone, refl))
    came_alone (Err refusal.Spent) s m p = p refl s m
    came_alone (Err refusal.Stopped) s m p =
        (s, ap (λ (q : Position). q.stopped) m, λ k is. (refl, inr (alone, refl)))
    came_alone (Err r) s m p = (s, m, refl, inr (alone, refl))

  -- ---- A WORD THAT IS ASKED FOR in a transaction

  pub came_noted : (op : Operation) (n : ℕ) (result : Result (Unit {0}) Refusal)
      → is_action op ≡ true → GoesOnSo op None → ((r : Refusal) → GoesOnSo op (Some (Refused r)))
      → StandsWith at new (turned_action op result h) → position_of new ≡ working (suc n)
      → LineCame at new op (suc n) (suc n) h (end_noted result)
  came_noted op n (Ok done) action plain noted s m = (s, m, omega arith, plain)
  came_noted op n (Err r) action plain noted s m = (s, m, omega arith, noted r)

  -- ---- A CANCEL

  pub unmoved_outside : (result : Result (Unit {0}) Refusal) → position_of old ≡ resting
      → work_refusal old ≡ Some refusal.NoTx
      → position_of new ≡ unless_refused (work_refusal old) (moved_by result (position_of old))
      (position_of old)
      → position_of new ≡ resting
  unmoved_outside result here outside moved =
      moved
      ∙ ap (λ (w : Option Refusal). unless_refused w (moved_by result (position_of old)) (position_of old)) outside
      ∙ here

  -- in a transaction: no refusal but the stop
  pub came_cancelled : (n : ℕ) → position_of old ≡ working (suc n) → work_refusal old ≡ None
      → (result : Result (Unit {0}) Refusal)
      → StandsWith at new (turned new operation.Cancel no_value result h)
      → position_of new ≡ unless_refused (work_refusal old) (moved_by result (position_of old))
      (position_of old)
      → Cancelled at old new result → StandsWith at old h
      → LineCame at new operation.Cancel (suc n) (suc n) h (end_at_work (unvalued result))
  came_cancelled n here none (Ok done) told moved did stands = (
    told,
    moved_so (moved_by {T = Unit {0}} (Ok done)) (working (suc n)) none here moved,
    omega arith,
    refl,
  )
  came_cancelled n here none (Err r) told moved did stands =
      by r (cancel_stops at old new h stands none r did) told moved
    where
      by : (q : Refusal) → (q ≡ refusal.Stopped) × (new.drawn ≡ None)
          → StandsWith at new (turned {T = Unit {0}} new operation.Cancel no_value (Err q) h)
          → position_of new ≡ unless_refused (work_refusal old)
          (moved_by {T = Unit {0}} (Err q) (position_of old)) (position_of old)
          → LineCame at new operation.Cancel (suc n) (suc n) h (end_at_work (Err q))
      by refusal.Stopped stops t m = (
        t,
        ap (λ (p : Position). p.stopped)
            (moved_so (moved_by {T = Unit {0}} (Err refusal.Stopped)) (working (suc n)) none here m),
        λ k is. absurd (none_drawn new.drawn k stops.1 is),
      )
      by q stops t m = absurd (let clash = stops.0 in cc)

  -- ---- AN ABORT

  module _ (errnum n : ℕ) (here : position_of old ≡ working (suc n))
      (none : work_refusal old ≡ None) where
    pub came_aborted : StandsWith at new (unless (work_refusal old)
        (turned_last new (operation.Abort errnum) (Ok tt) h) h)
        → position_of new ≡ unless_refused (work_refusal old)
        (aborted_by errnum (Ok tt) (position_of old)) (position_of old)
        → LineCame at new (operation.Abort errnum) (suc n) n h (ends.GivenUp (error_for errnum))
    came_aborted stands moved = (
      None,
      n,
      inr (errnum, refl, refl, refl),
      unrefused (told_last new.last (operation.Abort errnum) None h) none stands,
      moved_so (aborted_by errnum (Ok tt)) (working (suc n)) none here moved,
      λ zero. absurd (let e : suc n ≡ 0 = zero in omega (arith, e)),
    )

    pub came_stopped_aborting : StandsWith at new (unless (work_refusal old)
        (turned_last new (operation.Abort errnum) (Err refusal.Stopped) h) h)
        → position_of new ≡ unless_refused (work_refusal old)
        (aborted_by errnum (Err refusal.Stopped) (position_of old)) (position_of old)
        → new.drawn ≡ None
        → LineCame at new (operation.Abort errnum) (suc n) n h ends.Stopped
    came_stopped_aborting stands moved unnumbered = (
      unrefused (told_by new.drawn (operation.Abort errnum) None h) none stands,
      ap (λ (p : Position). p.stopped)
          (moved_so (aborted_by errnum (Err refusal.Stopped)) (working (suc n)) none here moved),
      λ k is. absurd (none_drawn new.drawn k unnumbered is),
    )

  -- ---- A COMMIT

  pub came_stopped_committing : (n : ℕ) → position_of old ≡ working (suc n)
      → work_refusal old ≡ None → old.level ≡ 1
      → StandsWith at new (unless (work_refusal old)
      (turned_commit old.level new (Err refusal.Stopped) h) h)
      → position_of new ≡ unless_refused (work_refusal old)
      (committed_by (Err refusal.Stopped) (position_of old)) (position_of old)
      → LineCame at new operation.Commit (suc n) n h ends.Stopped
  came_stopped_committing n here none outermost stands moved = (
    subst (λ (k : ℕ). StandsWith at new (turned_commit k new (Err refusal.Stopped) h)) outermost
        (unrefused (turned_commit old.level new (Err refusal.Stopped) h) none stands),
    ap (λ (p : Position). p.stopped)
        (moved_so (committed_by (Err refusal.Stopped)) (working (suc n)) none here moved),
    λ k is. (let e = level in omega (arith, e), inl (refl, level, refl)),
  )
    where
      level : suc n ≡ 1
      level = sym (ap (λ (p : Position). p.level) here) ∙ outermost

  -- by which the lane came to this, and then its level ended
  module _ (mid : Lane M) (none : work_refusal old ≡ None)
      (stands : StandsWith at mid (unless (work_refusal old) (turned_commit old.level mid (Ok tt) h) h))
      (moved : position_of mid ≡ unless_refused (work_refusal old)
      (committed_by (Ok tt) (position_of old)) (position_of old)) where
    pub committed_history : StandsWith at mid (turned_commit old.level mid (Ok tt) h)
    committed_history = subst (λ (w : Option Refusal).
        StandsWith at mid (unless w (turned_commit old.level mid (Ok tt) h) h)) none stands

    pub committed_there : (n : ℕ) → position_of old ≡ working (suc n)
        → position_of mid ≡ committed_at (suc n)
    committed_there n here =
        moved
        ∙ ap (λ (w : Option Refusal). unless_refused w (committed_by (Ok tt) (position_of old)) (position_of old)) none
        ∙ ap (committed_by (Ok tt)) here

    module _ (result : Result TxErr Refusal) (returns : result ≡ Ok mid.error)
        (past : end_refusal mid ≡ None)
        (same : (g : LaneHistory) → StandsWith at mid g → StandsWith at new g)
        (ends_so : position_of new ≡ unless_refused (end_refusal mid)
        (ended_by result (position_of mid)) (position_of mid)) where
      ended_there : (n : ℕ) → position_of old ≡ working (suc n)
          → position_of new ≡ ended_by (Ok error.None) (committed_at (suc n))
      ended_there n here =
          let there = committed_there n here in
          ends_so
          ∙ ap (λ (w : Option Refusal). unless_refused w (ended_by result (position_of mid)) (position_of mid)) past
          ∙ ap (λ (r : Result TxErr Refusal). ended_by r (position_of mid)) (returns ∙ ap (λ (p : Position). Ok p.error) there)
          ∙ ap (ended_by (Ok error.None)) there

      pub came_committed : (n : ℕ) → position_of old ≡ working (suc n) → n ≡ 0
          → LineCame at new operation.Commit (suc n) n h (ends.Over None)
      came_committed n here is =
          let level : old.level ≡ 1 = ap (λ (p : Position). p.level) here ∙ ap suc is in
          let stands_mid : StandsWith at mid (told_last mid.last operation.Commit None h) =
          subst (λ (k : ℕ). StandsWith at mid (turned_commit k mid (Ok tt) h)) level committed_history in
          let stands_new = same (told_last mid.last operation.Commit None h) stands_mid in
          let rests : position_of new ≡ resting =
          ended_there n here ∙ ap (λ (k : ℕ). ended_by (Ok error.None) (committed_at (suc k))) is in
          let last : new.last ≡ mid.last = stands_new.last (ap (λ (p : Position). p.stopped) rests) in (
            subst (λ (k : ℕ). StandsWith at new (told_last k operation.Commit None h)) (sym last) stands_new,
            rests,
            is,
            inl (refl, ap suc is, refl),
          )

      pub came_committed_inner : (n m : ℕ) → position_of old ≡ working (suc n) → n ≡ suc m
          → LineCame at new operation.Commit (suc n) n h (ends.GoesOn None)
      came_committed_inner n m here is =
          let level : old.level ≡ suc (suc m) = ap (λ (p : Position). p.level) here ∙ ap suc is in (
            same (told_more operation.Commit None h)
                (subst (λ (k : ℕ). StandsWith at mid (turned_commit k mid (Ok tt) h)) level committed_history),
            ended_there n here ∙ ap (λ (k : ℕ). ended_by (Ok error.None) (committed_at (suc k))) is
                ∙ ap working (sym is),
            omega (arith, is),
            refl,
          )
