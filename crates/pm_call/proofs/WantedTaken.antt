-- TAKING THE LOCKS THAT ARE WANTED leaves a lane at work with each of them, or with those that it got.
use Rattle.std.specs.Prelude.{drop, take}
use Rattle.std.proofs.Common.{◌≡◌, ◌≢◌, ⊎_elim, inl, inr, ℕ, ◌+◌, ◌*◌, ◌<◌, ◌≤◌, Bool, true, false, not, ◌==◌, ◌&&◌, ◌||◌, List, [], ◌∷◌, ◌++◌, length, refl, sym, ap, ◌∙◌, subst, arith, eq-eqb, Some, Result, Ok, Err}
use Rattle.std.specs.Result.{IsErrAnd}
use Rattle.std.proofs.lemmas.Bool.{and_from, and_parts, both_ways, eqb-true, or_left}
use Rattle.pm_objects.specs.declared.calls.Want.{Want}
use Rattle.pm_objects.specs.declared.refusal.Refusal.{Refusal}
use Rattle.pm_objects.specs.declared.refusal.Refusal.TheVariants as refusal
use Rattle.pm_model.specs.Refusals.{Seen, first_of}
use Rattle.pm_view.specs.Log.{is_early}
use Rattle.pm_view.specs.Steps.Step.{Raise}
use Rattle.pm_view.specs.View.{Constants, View}
use Rattle.pm_view.specs.Views.{after, after_all}
use Rattle.pm_world.specs.Causes.{times_missed, was_refused}
use Rattle.pm_world.specs.LaneFields.{Fields, Standing, Works, at_work, fields_of, moved}
use Rattle.pm_world.specs.declared.lane.HeldLock.{HeldLock}
use Rattle.pm_world.specs.declared.lane.Lane.{Lane}
use Rattle.pm_crash.specs.Facts.{WasTried}
use Rattle.pm_crash.proofs.NoHeapFault.{passing_member}
use Rattle.pm_lock.specs.Acquiring.{FindsAll, FindsNone}
use Rattle.pm_lock.specs.Held.{HoldsEach}
use Rattle.pm_lock.specs.Holding.{AreOnce, IsTaken, took}
use Rattle.pm_lock.specs.Locking.{Stands, lock_at}
use Rattle.pm_lock.specs.Objects.{MissesAt, ToldNoRun}
use Rattle.pm_lock.specs.Raising.{AreRaised, MayRaiseAll, RaisedAll, RaisedAllAs, is_raised, raised, raises}
use Rattle.pm_lock.specs.Steps.{takes, tries}
use Rattle.pm_lock.specs.Wants.{has_unplaced, wants_to_write}
use Rattle.pm_lock.proofs.HeldLocks.{held_grow, held_may_be_raised, held_stay}
use Rattle.pm_lock.proofs.Holds.{tries_taken}
use Rattle.pm_lock.proofs.KeptBlocks.{taken_keep}
use Rattle.pm_lock.proofs.RaisedClaims.{are_raised}
use Rattle.pm_lock.proofs.Waiting.{all_then, once_more}
use Rattle.pm_call.specs.At.{At}
use Rattle.pm_call.specs.Did.{IsAt, unseen}
use Rattle.pm_call.specs.Held.{is_in_locks}
use Rattle.pm_call.specs.LockRefusals.{TriedLocks, locking_tests}
use Rattle.pm_call.specs.Locking.{locks_with, to_take, to_write}
use Rattle.pm_call.specs.WantedTaken.{TriesOnce, WantedTaken, WantedTakenAs, WantsRefused}
use Rattle.pm_call.specs.WantedTried.{AreFew, IsPlaced, WantedTried, WantedTriedAs, WorksWith, got_all}
use Rattle.pm_call.proofs.Quiet.{quiet_none}
use Rattle.pm_call.proofs.LockLists.{wants_off}
use Rattle.pm_call.proofs.LocksGot.{busy_locks_are_tried, busy_once, last_is, missed_locks_are_tried, missed_once, none_looked, none_once, raise_once, refused_raises_are_tried, some_raised, taken_once}
use Rattle.pm_call.proofs.RefusedWants.{all_at, busy_first, full_first, is_missing, is_tried, is_wanted, missing_first, none_writes, not_in, tests_at, unlisted, unplaced_first, written_wanted}
use Rattle.pm_call.proofs.TakenLocks.{can_lock, locks_may_be_wanted}
use Rattle.pm_call.proofs.TriedLocks.{fixed_on, some}

-- ---- what it saw
abbrev saw_busy : Seen
saw_busy = record unseen { busy = true }

abbrev saw_missing : ℕ → Seen
saw_missing off = record unseen { missing = off ∷ [] }

try_refused_here : (v : View) (line : ℕ) (write : Bool) → was_refused line (after v (takes line write false)).seen ≡ true
try_refused_here v line true = or_left (line == line && true) (was_refused line v.seen) (and_from (line == line) true (eq-eqb line line refl) refl)
try_refused_here v line false = or_left (line == line && true) (was_refused line v.seen) (and_from (line == line) true (eq-eqb line line refl) refl)

try_refused : (v : View) (got : List HeldLock) (line : ℕ) (write : Bool) → was_refused line (after_all v (tries got ++ takes line write false ∷ [])).seen ≡ true
try_refused v got line write = subst (λ (y : View). was_refused line y.seen ≡ true) (sym (all_then v (tries got) (takes line write false ∷ []) ∙ once_more (after_all v (tries got)) (takes line write false)))
    (try_refused_here (after_all v (tries got)) line write)

raise_refused : (v : View) (writes : ℕ → Bool) (locks : List HeldLock) (line : ℕ) → was_refused line (after_all v (raises writes locks ++ Raise line false ∷ [])).seen ≡ true
raise_refused v writes locks line = subst (λ (y : View). was_refused line y.seen ≡ true) (sym (last_is v writes locks line))
    (or_left (line == line && true) (was_refused line (after_all v (raises writes locks)).seen) (and_from (line == line) true (eq-eqb line line refl) refl))

-- so the lock was tried that is wanted
was_tried : (wants : List Want) (line : ℕ) (write : Bool) (v : View) → wants_off wants (64 * line + 64) write ≡ true → was_refused line v.seen ≡ true → WasTried wants v.seen
was_tried wants line write v wanted refused =
    let m = passing_member (λ (want : Want). want.id.off == 64 * line + 64 && (want.write || not write)) wants wanted in
    record {
      want = m.0;
      among = m.1.0;
      line = line;
      before = eqb-true m.0.id.off (64 * line + 64) (and_parts (m.0.id.off == 64 * line + 64) (m.0.write || not write) m.1.1).0;
      refused = refused;
    }

-- none is missed as locks are taken
pub missed_before : (v u : View) (plan : List HeldLock) → IsTaken v plan u → (line : ℕ) (w : View) → MissesAt u line w → MissesAt v line w
missed_before v u plan taken line w m =
    let then : View = record v { claims = took plan v.claims; seen = u.seen } in
    let n : MissesAt then line w = subst (λ (y : View). MissesAt y line w) taken m in
    λ classes same B has head. let missed = n classes same B has head in record {
      more = subst (λ k. k < times_missed v.fixed.shape B w.claims) ((taken_keep v then plan refl).missed B) missed.more;
      since = missed.since;
    }

module _ (s : Standing) (wants : List Want) (at : At s) where
  each_got : HoldsEach (got_all s wants) (s.locks ++ to_take s wants)
  each_got = held_grow s.view (got_all s wants) s.view.fixed.shape s.view.fixed.pool s.locks [] wants (locks_may_be_wanted s (can_lock s at)) at.holds.each (tries_taken s.view (to_take s wants))

  once_all : AreOnce (s.locks ++ to_take s wants)
  once_all = each_got.once

  high : (k : ℕ) → k < length (to_take s wants) → 1 ≤ (lock_at (to_take s wants) k).line
  high k low = let ne = all_at (λ (l : HeldLock). l.line ≢ 0) (to_take s wants) k (some s wants (can_lock s at)) low in by (lock_at (to_take s wants) k).line ne
    where
      by : (n : ℕ) → n ≢ 0 → 1 ≤ n
      by n ne = omega (arith, ne)

  first_at : (seen : Seen) (all : List HeldLock) (x : View) (r : Refusal) → TriedLocks s wants all x → first_of (locking_tests seen s wants) ≡ Some r → first_of (locking_tests seen (moved s x) wants) ≡ Some r
  first_at seen all x r tried first = ap first_of (tests_at s wants seen x (fixed_on s wants all x tried)) ∙ first

  module _ {M : Type 0} (m : M → View → Type 0) (lane : Lane M) where
    -- nothing is done
    refused_first : (r : Refusal) → r ≢ refusal.Stopped → first_of (locking_tests unseen s wants) ≡ Some r → Works m lane s → WantsRefused m lane s wants r
    refused_first r un first works = (
      record {
        view = s.view;
        all = s.locks;
        tried = nothing.0;
        once = nothing.1;
        seen = unseen;
        first = first;
        unstopped = un;
        busy = λ e. absurd (both_ways false refl e);
        missing = λ off e. absurd (both_ways false refl e);
      },
      works,
    )
      where
        nil : (locks : List HeldLock) → locks ++ [] ≡ locks
        nil [] = refl
        nil (l ∷ locks) = ap (λ more. l ∷ more) (nil locks)

        nothing : (tried : TriedLocks s wants s.locks s.view) × TriesOnce tried
        nothing = subst (λ ls. (tried : TriedLocks s wants ls s.view) × TriesOnce tried) (nil s.locks) (none_looked s wants 0 s.view refl (λ n there. there) (quiet_none s.view), none_once s wants)

    -- a try is refused
    refused_try : (k : ℕ) → k < length (to_take s wants) → AreFew s wants → IsPlaced s wants
        → WorksWith m lane s (after_all s.view (tries (take k (to_take s wants)) ++ takes (lock_at (to_take s wants) k).line (lock_at (to_take s wants) k).write false ∷ [])) (take k (to_take s wants))
        → WantsRefused m lane s wants refusal.Busy
    refused_try k low few placed works =
        let l : HeldLock = lock_at (to_take s wants) k in
        let got : List HeldLock = take k (to_take s wants) in
        let x : View = after_all s.view (tries got ++ takes l.line l.write false ∷ []) in
        let tried : TriedLocks s wants (s.locks ++ got) x = busy_locks_are_tried s wants k l.line l.write in (
          record {
            view = x;
            all = s.locks ++ got;
            tried = tried;
            once = busy_once s wants k low;
            seen = saw_busy;
            first = first_at saw_busy (s.locks ++ got) x refusal.Busy tried (busy_first s wants saw_busy refl few placed
                (is_tried s wants (64 * l.line + 64) false (λ w _. unlisted s wants (can_lock s at).lists placed once_all k low (high k low) w) (is_wanted s wants (can_lock s at).lists placed once_all k low (high k low))));
            unstopped = other;
            busy = λ _. was_tried wants l.line false x (is_wanted s wants (can_lock s at).lists placed once_all k low (high k low)) (try_refused s.view got l.line l.write);
            missing = λ off e. absurd (both_ways false refl e);
          },
          works,
        )
      where
        other : refusal.Busy ≢ refusal.Stopped
        other e = search Rattle.std.proofs.Common.rules

    -- no object is found under a lock
    refused_look : (mem : View → Type 0) (missed : FindsNone mem (got_all s wants) s.view.fixed.shape (to_take s wants)) → AreFew s wants → IsPlaced s wants
        → WorksWith m lane s (after_all (got_all s wants) missed.steps) (to_take s wants) → WantsRefused m lane s wants refusal.NoObject
    refused_look mem missed few placed works =
        let k : ℕ = missed.before in
        let line : ℕ = (lock_at (to_take s wants) k).line in
        let x : View = after_all (got_all s wants) missed.steps in
        let tried : TriedLocks s wants (s.locks ++ to_take s wants) x = missed_locks_are_tried mem s wants (tries (to_take s wants)) (inl refl) missed in (
          record {
            view = x;
            all = s.locks ++ to_take s wants;
            tried = tried;
            once = missed_once s wants mem missed;
            seen = saw_missing (64 * line + 64);
            first = first_at (saw_missing (64 * line + 64)) (s.locks ++ to_take s wants) x refusal.NoObject tried (missing_first s wants (saw_missing (64 * line + 64)) refl few placed
                (is_missing s wants (64 * line + 64) (unlisted s wants (can_lock s at).lists placed once_all k missed.low (high k missed.low) false) (is_wanted s wants (can_lock s at).lists placed once_all k missed.low (high k missed.low))));
            unstopped = other;
            busy = λ e. absurd (both_ways false refl e);
            missing = λ off e. (
              line,
              sym (eqb-true (64 * line + 64) off (one (64 * line + 64 == off) e)),
              ⊎_elim (λ (a : MissesAt (got_all s wants) line x). inl (missed_before s.view (got_all s wants) (to_take s wants) (tries_taken s.view (to_take s wants)) line x a)) (λ (a : ToldNoRun x line). inr a) missed.misses,
            );
          },
          works,
        )
      where
        other : refusal.NoObject ≢ refusal.Stopped
        other e = search Rattle.std.proofs.Common.rules

        one : (b : Bool) → (b || false) ≡ true → b ≡ true
        one true e = refl
        one false e = e

    -- a raise is refused
    refused_raise : (mem : View → Type 0) (found : FindsAll mem (got_all s wants) s.view.fixed.shape (to_take s wants)) (k : ℕ) → k < length (s.locks ++ to_take s wants) → AreFew s wants → IsPlaced s wants
        → is_raised (to_write s wants) (lock_at (s.locks ++ to_take s wants) k) ≡ true
        → Works m lane (record s {
          view = after_all (after_all (got_all s wants) found.steps) (raises (to_write s wants) (take k (s.locks ++ to_take s wants)) ++ Raise (lock_at (s.locks ++ to_take s wants) k).line false ∷ []);
          locks = raised (to_write s wants) (take k (s.locks ++ to_take s wants)) ++ drop k (s.locks ++ to_take s wants);
        }) → WantsRefused m lane s wants refusal.Busy
    refused_raise mem found k low few placed up works =
        let all : List HeldLock = s.locks ++ to_take s wants in
        let l : HeldLock = lock_at all k in
        let t = and_parts (not l.write) (to_write s wants l.line) up in
        let y : View = after_all (got_all s wants) found.steps in
        let x : View = after_all y (raises (to_write s wants) (take k all) ++ Raise l.line false ∷ []) in
        let now : List HeldLock = raised (to_write s wants) (take k all) ++ drop k all in
        let tried : TriedLocks s wants now x = refused_raises_are_tried mem s wants (tries (to_take s wants)) k l.line (inl refl) found in (
          record {
            view = x;
            all = now;
            tried = tried;
            once = raise_once s wants mem found k low;
            seen = saw_busy;
            first = first_at saw_busy now x refusal.Busy tried (busy_first s wants saw_busy refl few placed
                (is_tried s wants (64 * l.line + 64) true (to_read l.line (not_in s.locks l.line true (none_writes s.locks (to_take s wants) k once_all low (reader l.write t.0))))
                (written_wanted s.view.fixed.shape s.view.fixed.pool wants l.line t.1)));
            unstopped = other;
            busy = λ _. was_tried wants l.line true x (written_wanted s.view.fixed.shape s.view.fixed.pool wants l.line t.1) (raise_refused y (to_write s wants) (take k all) l.line);
            missing = λ off e. absurd (both_ways false refl e);
          },
          works,
        )
      where
        other : refusal.Busy ≢ refusal.Stopped
        other e = search Rattle.std.proofs.Common.rules

        reader : (b : Bool) → not b ≡ true → b ≡ false
        reader true e = absurd (both_ways false refl e)
        reader false e = refl

        to_read : (line : ℕ) → is_in_locks s.locks (64 * line + 64) true ≡ false → (w : Bool) → (w || false) ≡ true → is_in_locks s.locks (64 * line + 64) w ≡ false
        to_read line none true e = none
        to_read line none false e = absurd (both_ways false refl e)

    -- THE TRY'S REFUSALS
    refused_so : (r : Refusal) → WantedTriedAs m lane s wants (Err r) → WantsRefused m lane s wants r
    refused_so refusal.LocksFull t = refused_first refusal.LocksFull other (full_first s wants unseen t.0) t.1 where
      other : refusal.LocksFull ≢ refusal.Stopped
      other e = search Rattle.std.proofs.Common.rules
    refused_so refusal.NoObject t = ⊎_elim
        (λ (u : AreFew s wants × (has_unplaced s.view.fixed.shape s.view.fixed.pool wants ≡ true) × Works m lane s). refused_first refusal.NoObject other (unplaced_first s wants unseen u.0 u.1) u.2)
        (λ (u : AreFew s wants × IsPlaced s wants × ((missed : FindsNone (m lane.memory) (got_all s wants) s.view.fixed.shape (to_take s wants)) × WorksWith m lane s (after_all (got_all s wants) missed.steps) (to_take s wants))).
        refused_look (m lane.memory) u.2.0 u.0 u.1 u.2.1)
        t
      where
        other : refusal.NoObject ≢ refusal.Stopped
        other e = search Rattle.std.proofs.Common.rules
    refused_so refusal.Busy t = refused_try t.2.0 t.2.1 t.0 t.1 t.2.2
    refused_so r t = absurd t

-- ---- THE LANE
module _ {M : Type 0} (at : M → View → Type 0) (old : Lane M) (wants : List Want) where
  pub wants_refused : (mid : Lane M) (r : Refusal) (result : Result (Unit {0}) Refusal) → IsErrAnd result (λ other. other ≡ r) → WantedTried at old mid wants (Err r) → WantedTaken at old mid wants result
  unfolding WantedTried WantedTaken
  wants_refused mid r (Ok done) is tried s works stands = absurd is
  wants_refused mid r (Err other) is tried s works stands = subst (WantsRefused at mid s wants) (sym is) (refused_so s wants stands at mid r (tried s works stands))

  module _ (mid : Lane M) (s : Standing) (stands : At s) (found : FindsAll (at mid.memory) (got_all s wants) s.view.fixed.shape (to_take s wants))
      (works : WorksWith at mid s (after_all (got_all s wants) found.steps) (to_take s wants)) where
    abbrev all : List HeldLock
    all = s.locks ++ to_take s wants

    abbrev looked : View
    looked = after_all (got_all s wants) found.steps

    -- the fields, with the pool and the shape that it had
    abbrev has_fields : Fields
    has_fields = record (at_work (record s { view = looked; locks = all })) { pool = s.view.fixed.pool; shape = s.view.fixed.shape }

    fields_are : fields_of mid ≡ has_fields
    fields_are = works.fields ∙ ap (λ (c : Constants). record (at_work (record s { view = looked; locks = all })) { pool = c.pool; shape = c.shape })
        (ap (λ (y : View). y.fixed) found.stays.same ∙ ap (λ (y : View). y.fixed) (tries_taken s.view (to_take s wants)))

    locks_are : mid.locks.items ≡ all
    locks_are = ap (λ (f : Fields). f.locks) works.fields

    may_raise_all : MayRaiseAll looked mid.locks.items
    may_raise_all = subst (MayRaiseAll looked) (sym locks_are) (held_may_be_raised looked all
        (ap (λ (y : View). is_early y.log.phase) found.stays.same ∙ (ap (λ (y : View). is_early y.log.phase) (tries_taken s.view (to_take s wants)) ∙ ap is_early stands.working.is_open))
        (held_stay (got_all s wants) looked all found.stays (each_got s wants stands)))

    module _ (new : Lane M) where
      -- what is left of the lane, by its fields
      abbrev IsLeft : View → List HeldLock → Type 0
      IsLeft x locks = at new.memory x × (new ≡ record mid { memory = new.memory; locks = new.locks }) × (new.locks.items ≡ locks)

      abbrev RaisedBy : Fields → Type 0
      RaisedBy f = IsLeft (after_all looked (raises (wants_to_write f.shape f.pool wants) f.locks)) (raised (wants_to_write f.shape f.pool wants) f.locks)

      abbrev RefusedBy : Fields → Type 0
      RefusedBy f = (k : ℕ) × (k < length f.locks) × (is_raised (wants_to_write f.shape f.pool wants) (lock_at f.locks k) ≡ true)
          × IsLeft (after_all looked (raises (wants_to_write f.shape f.pool wants) (take k f.locks) ++ Raise (lock_at f.locks k).line false ∷ [])) (raised (wants_to_write f.shape f.pool wants) (take k f.locks) ++ drop k f.locks)

      works_left : (writes : ℕ → Bool) (up now : List HeldLock) (x : View) → AreRaised looked writes up x → IsLeft x now → Works at new (record s { view = x; locks = now })
      works_left writes up now x is left = record {
        memory = left.0;
        fields = ap (λ (l : Lane M). fields_of l) left.1 ∙ (ap (λ ls. record (fields_of mid) { locks = ls }) left.2 ∙ (ap (λ (f : Fields). record f { locks = now }) works.fields
            ∙ subst (λ (u : View). at_work (record s { view = looked; locks = now }) ≡ at_work (record s { view = u; locks = now })) (sym is.same) refl));
      }

      all_taken : AreFew s wants → IsPlaced s wants → RaisedAllAs at (wants_to_write mid.shape mid.pool wants) looked mid new true → WantedTakenAs at new s wants (Ok tt)
      all_taken few placed r =
          let x : View = after_all looked (raises (to_write s wants) all) in
          let left : RaisedBy has_fields = subst RaisedBy fields_are r in
          (few, placed, (x, taken_once s wants (at mid.memory) found, works_left (to_write s wants) all (locks_with s wants) x (are_raised (to_write s wants) looked all) left))

      one_refused : AreFew s wants → IsPlaced s wants → RaisedAllAs at (wants_to_write mid.shape mid.pool wants) looked mid new false → WantsRefused at new s wants refusal.Busy
      one_refused few placed r =
          let mids : RefusedBy (fields_of mid) = (r.0, r.1, r.2, (r.3, r.4, r.5)) in
          let left : RefusedBy has_fields = subst RefusedBy fields_are mids in
          let k : ℕ = left.0 in let line : ℕ = (lock_at all k).line in
          refused_raise s wants stands at new (at mid.memory) found k left.1 few placed left.2
          (works_left (to_write s wants) (take k all) (raised (to_write s wants) (take k all) ++ drop k all) (after_all looked (raises (to_write s wants) (take k all) ++ Raise line false ∷ []))
          (some_raised looked (to_write s wants) (take k all) line) left.3)

  pub may_raise : (mid : Lane M) (done : Unit {0}) → IsAt at old → WantedTried at old mid wants (Ok done) → Stands at mid (λ v. MayRaiseAll v mid.locks.items)
  unfolding WantedTried
  may_raise mid done is tried =
      let t = tried is.standing is.works is.stands in
      (after_all (got_all is.standing wants) t.2.0.steps, t.2.1.memory, may_raise_all mid is.standing is.stands t.2.0 t.2.1)

  pub wants_taken : (mid new : Lane M) (done end : Unit {0}) → WantedTried at old mid wants (Ok done) → RaisedAll at (wants_to_write mid.shape mid.pool wants) mid new true → WantedTaken at old new wants (Ok end)
  unfolding WantedTried WantedTaken RaisedAll
  wants_taken mid new done end tried raised_ s works stands =
      let t = tried s works stands in
      all_taken mid s stands t.2.0 t.2.1 new t.0 t.1 (raised_ (after_all (got_all s wants) t.2.0.steps) t.2.1.memory (may_raise_all mid s stands t.2.0 t.2.1))

  pub raise_was_refused : (mid new : Lane M) (done : Unit {0}) → WantedTried at old mid wants (Ok done) → RaisedAll at (wants_to_write mid.shape mid.pool wants) mid new false → WantedTaken at old new wants (Err refusal.Busy)
  unfolding WantedTried WantedTaken RaisedAll
  raise_was_refused mid new done tried raised_ s works stands =
      let t = tried s works stands in
      one_refused mid s stands t.2.0 t.2.1 new t.0 t.1 (raised_ (after_all (got_all s wants) t.2.0.steps) t.2.1.memory (may_raise_all mid s stands t.2.0 t.2.1))
