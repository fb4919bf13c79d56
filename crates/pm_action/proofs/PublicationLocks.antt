-- THE LOCKS OF A PUBLISH OUTSIDE A TRANSACTION, as they were waited for: all are got, and each has its
-- object; the lane stopped as it waited; or the publish is refused for them.
use Rattle.std.proofs.Common.{◌≡◌, ◌≢◌, inl, inr, ℕ, suc, ◌+◌, ◌<◌, ◌≤◌, nat_lt, not, ◌&&◌, ◌||◌, ◌==◌, Bool, true, false, cond, Option, List, [], ◌∷◌, ◌++◌, length, map, refl, sym, ap, ◌∙◌, subst, arith, None, Some, Result, Ok, Err}
use Rattle.std.specs.List.{list_any}
use Rattle.std.proofs.lemmas.Bool.{and_right, both_ways, false_from_ne_true, lt-ltb, ltb-true}
use Rattle.pm_model.specs.Items.{is_among}
use Rattle.pm_model.specs.Outside.{found_tests}
use Rattle.pm_model.specs.Pending.{Pending, SetWord, want_to_write, wants_pending}
use Rattle.pm_model.specs.Refusals.{first_of}
use Rattle.pm_objects.specs.declared.calls.Want.{Want}
use Rattle.pm_objects.specs.declared.ids.Oid.{Oid}
use Rattle.pm_objects.specs.declared.refusal.Refusal.{Refusal}
use Rattle.pm_objects.specs.declared.refusal.Refusal.TheVariants as refusal
use Rattle.pm_view.specs.View.{View}
use Rattle.pm_world.specs.LaneFields.{Fields, Rests, Standing, listed, moved}
use Rattle.pm_world.specs.declared.lane.HeldLock.{HeldLock}
use Rattle.pm_world.specs.declared.lane.Lane.{Lane}
use Rattle.pm_crash.specs.SimPublish.{early_refusal}
use Rattle.pm_layout.specs.declared.shape.Shape.{Shape}
use Rattle.pm_crash.specs.Looked.{pool_seen}
use Rattle.pm_lock.specs.Objects.{line_of}
use Rattle.pm_lock.specs.Locking.{lock_of}
use Rattle.pm_lock.specs.Plans.{planned}
use Rattle.pm_lock.specs.Wants.{has_unplaced, is_listed, planned_all, planned_for, planned_unless}
use Rattle.pm_call.proofs.MissedObjects.{none_there}
use Rattle.pm_call.proofs.KeptGrows.{locking}
use Rattle.pm_call.proofs.PendingLooks.{now_open}
use Rattle.pm_lock.specs.Acquiring.{Acquired, AcquiredAs, CanAcquire}
use Rattle.pm_call.specs.Did.{After, unseen}
use Rattle.pm_call.specs.GivenUp.{with_locks}
use Rattle.pm_call.specs.Held.{Looks, has_line, is_in_locks}
use Rattle.pm_call.specs.Locking.{IsOpened, locks_with, to_take}
use Rattle.pm_call.specs.Outside.{IsOpenWith}
use Rattle.pm_call.specs.PublicationParts.{IsHolding, LookedSo, MayRefuse, PublishRefused, WordsLooked, WordsSet, WordsSetAs, wants_of_actions}
use Rattle.pm_call.specs.Publications.{FindsPast, HoldsWords, SeesWords, wants_to_set}
use Rattle.pm_call.specs.Waiting.{listed_set, pending_now}
use Rattle.pm_call.proofs.LonePublications.{words_past_the_end_are_refused}
use Rattle.pm_call.proofs.HeldWords.{none_entered}
use Rattle.pm_call.proofs.LockRefusals.{first_skip}
use Rattle.pm_call.proofs.RefusedPublications.{tried_locks_leave_open}
use Rattle.pm_call.proofs.TriedLocks.{view_on}
use Rattle.pm_call.proofs.WaitedLocks.{HasTaken, HasTried, can_acquire, plan_is, taken_so, tried_so, wait_was_stopped}
use Rattle.pm_action.specs.Publications.{AfterLocks, IsLaneOpen, PublishedOpen, PublishedOpenAs, RefusedForLocks}

-- ---- WHICH LOCKS

wanted_each : (ws : List SetWord)
    → wants_of_actions (map listed_set ws) ≡ map (λ (a : SetWord). want_to_write a.id) ws
wanted_each [] = refl
wanted_each (a ∷ ws) = ap (λ rest. want_to_write a.id ∷ rest) (wanted_each ws)

-- no more locks than are wanted
one_more : (line : ℕ) (write : Bool) (locks : List HeldLock)
    → length (planned line write locks) ≤ length locks + 1
unfolding planned
one_more line write [] = omega arith
one_more line write (l ∷ locks) =
    at (nat_lt line l.line) (l.line == line) (one_more line write locks)
  where
    at : (less same : Bool) → length (planned line write locks) ≤ length locks + 1 → length (cond less (lock_of line write ∷ l ∷ locks)
        (cond same (lock_of line (l.write || write) ∷ locks) (l ∷ planned line write locks)))
        ≤ suc (length locks) + 1
    at true same r = omega arith
    at false true r = omega arith
    at false false r = omega (arith, r)

one_for : (listed : ℕ → Bool) (o : Option ℕ) (write : Bool) (plan : List HeldLock)
    → length (planned_for listed o write plan) ≤ length plan + 1
one_for listed None write plan = omega arith
one_for listed (Some line) write plan = by (listed line)
  where
    by : (b : Bool) → length (planned_unless b line write plan) ≤ length plan + 1
    by true = omega arith
    by false = one_more line write plan

all_few : (sh : Shape) (pool : ℕ) (listed : ℕ → Bool) (wants : List Want) (plan : List HeldLock)
    → length (planned_all sh pool listed wants plan) ≤ length plan + length wants
unfolding planned_all
all_few sh pool listed [] plan = omega arith
all_few sh pool listed (w ∷ wants) plan =
    let one = one_for listed (line_of sh pool w.id) w.write plan in
    let rest = all_few sh pool listed wants (planned_for listed (line_of sh pool w.id) w.write plan) in
    omega (arith, one, rest)

module _ {M : Type 0} (at : M → View → Type 0) (old : Lane M) where
  module _ (s : Standing) (rests : Rests at old s) (is : IsOpened s) where
    abbrev now : Pending
    now = pending_now s.view

    pub wants_are : wants_of_actions old.pending.items ≡ wants_to_set s
    wants_are = ap wants_of_actions (ap (λ (f : Fields). f.pending) rests.fields ∙ is.pending.lists)
        ∙ (wanted_each now.sets
        ∙ ap (λ (ids : List Oid). map want_to_write ids
        ++ map (λ (a : SetWord). want_to_write a.id) now.sets) (sym is.pending.no_frees))

  module _ (wants : List Want) (are : wants ≡ wants_of_actions old.pending.items) where
    wants_so : (s : Standing) → Rests at old s → IsOpened s → wants ≡ wants_to_set s
    wants_so s rests is = are ∙ wants_are s rests is

    pub may_lock : IsLaneOpen at old → (v : View) × CanAcquire at old [] v
    may_lock lane =
        (lane.standing.view, can_acquire at old wants lane.standing lane.rests lane.opened)

    module _ (mid : Lane M) where
      got_at : (result : Result (Unit {0}) Refusal) → Acquired at [] wants old mid result
          → (s : Standing) → Rests at old s → IsOpened s
          → AcquiredAs at (to_take s (wants_to_set s)) (wants_to_set s) s.view old mid result
      unfolding Acquired
      got_at result got s rests is =
          subst (λ ws. AcquiredAs at (to_take s ws) ws s.view old mid result) (wants_so s rests is)
          (subst (λ plan. AcquiredAs at plan wants s.view old mid result)
          (plan_is at old wants s rests is)
          (got s.view (can_acquire at old wants s rests is)))

      -- ---- all are got
      module _ (got : Acquired at [] wants old mid (Ok tt)) where
        module _ (s : Standing) (rests : Rests at old s) (is : IsOpened s) where
          a : AcquiredAs at (to_take s (wants_to_set s)) (wants_to_set s) s.view old mid (Ok tt)
          a = got_at (Ok tt) got s rests is

          pub taken : HasTaken at old (wants_to_set s) s rests is mid
          taken = taken_so at old (wants_to_set s) s rests is mid a

          abbrev pub locked : Standing
          locked = record s { view = taken.view; locks = locks_with s (wants_to_set s) }

          pub holding : HoldsWords locked
          unfolding Looks
          holding = record {
            before = s;
            opened = is;
            placed = subst (λ (f : Fields). has_unplaced f.shape f.pool
                (wants_to_set s) ≡ false) rests.fields a.0.placed;
            few = subst (λ (f : Fields). length f.locks + length (to_take s (wants_to_set s)) ≤ 64)
                rests.fields a.0.few;
            locked = taken.view;
            takes = taken.takes;
            looks = 0;
            looked = refl;
            since = refl;
          }

          pub rests_locked : Rests at mid locked
          rests_locked = record { memory = taken.memory; fields = taken.fields }

        pub may_look : IsLaneOpen at old → IsHolding at mid HoldsWords
        may_look lane = record {
          standing = locked lane.standing lane.rests lane.opened;
          rests = rests_locked lane.standing lane.rests lane.opened;
          holding = holding lane.standing lane.rests lane.opened;
          holds = holding lane.standing lane.rests lane.opened;
        }

        -- ---- and the words were looked at
        module _ (new : Lane M) where
          looked_at : (inside : Bool) → WordsLooked at mid new inside
              → (s : Standing) (rests : Rests at old s) (is : IsOpened s)
              → After (locked s rests is) (λ t.
              LookedSo inside t × Rests at new t × HoldsWords t)
          unfolding WordsLooked
          looked_at inside looked s rests is =
              looked (locked s rests is) (rests_locked s rests is) (holding s rests is)

          pub may_set : IsLaneOpen at old → WordsLooked at mid new true → IsHolding at new SeesWords
          may_set lane looked =
              let l = looked_at true looked lane.standing lane.rests lane.opened in record {
                standing = moved (locked lane.standing lane.rests lane.opened) l.view;
                rests = l.holds.1;
                holding = l.holds.2;
                holds = l.holds.0;
              }

          set_as : (last : Lane M) (result : Result (Unit {0}) Refusal) (s : Standing)
              → AfterLocks s (WordsSetAs at last result) → PublishedOpenAs at last result s
          set_as last (Ok tt) s p = p
          set_as last (Err refusal.Stopped) s p = inr p
          set_as last (Err r) s p = absurd (p.holds.holds)

          pub published : WordsLooked at mid new true → (last : Lane M)
              → (result : Result (Unit {0}) Refusal) → WordsSet at new last result
              → PublishedOpen at old last result
          unfolding PublishedOpen WordsSet
          published looked last result set s rests is =
              let l = looked_at true looked s rests is in set_as last result s (record {
                view = (taken s rests is).view;
                takes = (taken s rests is).takes;
                holds = record {
                  looks = l.looks;
                  view = l.view;
                  looked = l.looked;
                  holds = set (moved (locked s rests is) l.view) l.holds.1 l.holds.2 l.holds.0;
                };
              })

          may_refuse_at : (t : Standing) → HoldsWords t
              → FindsPast t → MayRefuse t refusal.OutOfRange
          may_refuse_at t h f =
              let l = words_past_the_end_are_refused t h f in record {
                seen = unseen;
                opens = l.opens;
                unspent = refl;
                why = inr l.late;
                missing = λ off e. absurd (both_ways false refl e);
                unlisted = none_entered t h;
              }

          pub may_refuse_past : IsLaneOpen at old → WordsLooked at mid new false
              → (t : Standing) × Rests at new t × MayRefuse t refusal.OutOfRange
          may_refuse_past lane looked =
              let l = looked_at false looked lane.standing lane.rests lane.opened in
              let t = moved (locked lane.standing lane.rests lane.opened) l.view in
              (t, l.holds.1, may_refuse_at t l.holds.2 l.holds.0)

          pub refused_past : WordsLooked at mid new false → (last : Lane M)
              → PublishRefused at new last refusal.OutOfRange
              → PublishedOpen at old last (Err refusal.OutOfRange)
          unfolding PublishedOpen PublishRefused
          refused_past looked last refused s rests is =
              let l = looked_at false looked s rests is in
              let t = moved (locked s rests is) l.view in record {
                view = (taken s rests is).view;
                takes = (taken s rests is).takes;
                holds = record {
                  looks = l.looks;
                  view = l.view;
                  looked = l.looked;
                  holds = (l.holds.0, refused t l.holds.1 (may_refuse_at t l.holds.2 l.holds.0));
                };
              }

      -- ---- the lane stopped as it waited
      pub stopped_waiting : (why answer : Refusal) → why ≡ refusal.Stopped
          → Acquired at [] wants old mid (Err why) → (last : Lane M) → answer ≡ refusal.Stopped
          → last ≡ record mid { stopped = true } → PublishedOpen at old last (Err answer)
      unfolding PublishedOpen
      stopped_waiting why answer stopped got last is_stopped same s rests is =
          subst (λ (r : Refusal). PublishedOpenAs at last (Err r) s) (sym is_stopped)
          (subst (λ (l : Lane M). PublishedOpenAs at l (Err refusal.Stopped) s) (sym same)
          (inl (wait_was_stopped at old (wants_to_set s) s rests is mid
          (got_at (Err refusal.Stopped) (subst (λ (r : Refusal). Acquired at [] wants old mid (Err r))
          stopped got) s rests is))))

      -- ---- it is refused for them
      module _ (few : length wants ≤ 63) (why : Refusal) (goes : why ≢ refusal.Stopped)
          (got : Acquired at [] wants old mid (Err why)) where
        module _ (s : Standing) (rests : Rests at old s) (is : IsOpened s) where
          tried : HasTried at old (wants_to_set s) s rests is mid why
          tried = tried_so at old (wants_to_set s) s rests is mid why
              (got_at (Err why) got s rests is) goes

          abbrev x : View
          x = tried.view

          view_is : x ≡ locking s.view x.claims x.seen
          view_is = view_on s (wants_to_set s) tried.all x tried.tried

          none_held : (off : ℕ) → not (is_in_locks s.locks off false) ≡ true
          none_held off = ap not (ap (λ (ls : List HeldLock). is_in_locks ls off false) is.locks
              ∙ and_right (has_line off) false refl)

          missing_same : (ws : List Want)
              → list_any (λ (w : Want). not (is_in_locks s.locks w.id.off false)
              && is_among tried.seen.missing w.id.off) ws
              ≡ list_any (λ (w : Want). is_among tried.seen.missing w.id.off) ws
          missing_same [] = refl
          missing_same (w ∷ ws) = λ i.
              (none_held w.id.off i && is_among tried.seen.missing w.id.off) || missing_same ws i

          few_locks : nat_lt 64 (length s.locks + length (to_take s (wants_to_set s))) ≡ false
          few_locks = false_from_ne_true _ (λ e.
              let low = ltb-true 64 (length s.locks + length (to_take s (wants_to_set s))) e in
              let none = ap length is.locks in
              let most = all_few s.view.fixed.shape s.view.fixed.pool (is_listed s.locks [])
              (wants_to_set s) [] in
              let many = ap length (wants_so s rests is) in
              omega (arith, low, none, most, many, few))

          abbrev placed : Bool
          placed = has_unplaced s.view.fixed.shape s.view.fixed.pool (wants_to_set s)

          first : early_refusal tried.seen x ≡ Some why
          unfolding first_of
          first = ap (early_refusal tried.seen) view_is
              ∙ (ap (λ (p : Pending). first_of ((refusal.Spent, tried.seen.spent)
              ∷ found_tests tried.seen (pool_seen s.view None) (wants_pending p)))
              (sym (now_open s.view is.call))
              ∙ (first_skip _ (found_tests tried.seen (pool_seen s.view None)
              (wants_pending (pending_now s.view))) tried.unspent
              ∙ (sym ((λ i. cond placed (Some refusal.NoObject) (first_skip (
                refusal.Busy,
                list_any (λ (w : Want). not (is_in_locks s.locks w.id.off w.write)) (wants_to_set s)
                    && tried.seen.busy,
              ) ((
                refusal.NoObject,
                list_any (λ (w : Want).
                    not (is_in_locks s.locks w.id.off false)
                    && is_among tried.seen.missing w.id.off) (wants_to_set s),
              ) ∷ [])
              (and_right (list_any (λ (w : Want). not (is_in_locks s.locks w.id.off w.write))
              (wants_to_set s)) tried.seen.busy tried.unbusy) i))
              ∙ (λ i. cond placed (Some refusal.NoObject)
              (first_of ((refusal.NoObject, missing_same (wants_to_set s) i) ∷ []))))
              ∙ (sym (first_skip _ ((refusal.NoObject, placed) ∷ (
                refusal.Busy,
                list_any (λ (w : Want). not (is_in_locks s.locks w.id.off w.write)) (wants_to_set s)
                    && tried.seen.busy,
              ) ∷ (
                refusal.NoObject,
                list_any (λ (w : Want).
                    not (is_in_locks s.locks w.id.off false)
                    && is_among tried.seen.missing w.id.off) (wants_to_set s),
              ) ∷ []) few_locks)
              ∙ tried.first))))

          abbrev t : Standing
          t = with_locks tried.all (moved s tried.view)

          may : MayRefuse (with_locks tried.all (moved s tried.view)) why
          may = record {
            seen = tried.seen;
            opens = subst (λ (ls : List HeldLock). IsOpenWith (with_locks ls (moved s tried.view))
                tried.all) is.locks (tried_locks_leave_open s (wants_to_set s) tried.all tried.view is
                tried.tried);
            unspent = tried.unspent;
            why = inl first;
            missing = λ off e. let m = tried.missing off e in
                none_there s (wants_to_set s) tried.all tried.view tried.tried m.0 off m.1 m.2;
            unlisted = is.entries;
          }

          rests_tried : Rests at mid (with_locks tried.all (moved s tried.view))
          rests_tried = record { memory = tried.memory; fields = tried.fields }

        pub may_refuse_locks : IsLaneOpen at old → (t : Standing) × Rests at mid t × MayRefuse t why
        may_refuse_locks lane = (
          t lane.standing lane.rests lane.opened,
          rests_tried lane.standing lane.rests lane.opened,
          may lane.standing lane.rests lane.opened,
        )

        -- so many locks there are not
        not_full : (s : Standing) (rests : Rests at old s) (is : IsOpened s)
            → 64 < length old.locks.items + length (to_take s (wants_to_set s)) → ⊥
        not_full s rests is low =
            let e = ap (λ (f : Fields). length f.locks) rests.fields in
            both_ways (nat_lt 64 (length s.locks + length (to_take s (wants_to_set s))))
            (few_locks s rests is)
            (lt-ltb 64 (length s.locks + length (to_take s (wants_to_set s))) (omega (arith, low, e)))

        refused_as : (r : Refusal) (last : Lane M) (s : Standing) (rests : Rests at old s)
            → (is : IsOpened s) → r ≢ refusal.Stopped
            → AcquiredAs at (to_take s (wants_to_set s)) (wants_to_set s) s.view old mid (Err r)
            → RefusedForLocks at last s r → PublishedOpenAs at last (Err r) s
        refused_as refusal.LocksFull last s rests is ne a f = absurd (not_full s rests is a.0)
        refused_as refusal.NoObject last s rests is ne a f = f
        refused_as refusal.Stopped last s rests is ne a f = absurd (ne refl)
        refused_as r last s rests is ne a f = absurd a

        pub refused_locks : (last : Lane M) → PublishRefused at mid last why
            → PublishedOpen at old last (Err why)
        unfolding PublishedOpen PublishRefused
        refused_locks last refused s rests is =
            let h = tried s rests is in
            refused_as why last s rests is goes (got_at (Err why) got s rests is) (record {
              all = h.all;
              view = h.view;
              tried = h.tried;
              seen = h.seen;
              first = first s rests is;
              missing = h.missing;
              refused = refused (t s rests is) (rests_tried s rests is) (may s rests is);
            })
