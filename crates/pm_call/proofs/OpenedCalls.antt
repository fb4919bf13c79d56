-- A CALL OPENS as its lane, between two calls, sees a number; and a lane whose call is open takes the locks that are wanted and begins the outermost level.
use Rattle.std.proofs.Common.{◌≡◌, ℕ, ◌<◌, List, [], ◌∷◌, refl, sym, ap, subst, arith, None, inl, inr, ⊎_elim, ◌⊎◌, ◌+◌, ◌≤◌, nat_le, true, false, not, ◌==◌, ◌++◌, ◌∙◌}
use Rattle.std.specs.List.{AllByRecursion, Contains}
use Rattle.pm_layout.specs.Areas.{greatest_generation}
use Rattle.pm_view.specs.Changes.{Undrained}
use Rattle.pm_view.specs.Log.{Log, Phase}
use Rattle.pm_view.specs.Places.{Small, Big, Root, Place}
use Rattle.pm_view.specs.Steps.{Step}
use Rattle.pm_view.specs.Steps.Step.{NumberSeen}
use Rattle.pm_view.specs.View.{Constants, View, Told}
use Rattle.pm_view.specs.Views.{begun, with_seen}
use Rattle.pm_world.specs.InWorld.{SizesFit}
use Rattle.pm_world.specs.LaneFields.{Standing, moved, kept_of}
use Rattle.pm_world.specs.declared.lane.HeldLock.{HeldLock}
use Rattle.pm_plan.specs.Notes.{IsBeyond}
use Rattle.pm_call.specs.Did.{IsOver}
use Rattle.pm_call.specs.Held.{HoldsAll, AreHeld, has_line, is_in_locks}
use Rattle.pm_call.specs.Locking.{CallsMayOpen, IsOpened, AgreesOn, CanLock, OpenedLanesMayLock, TransactionsMayBegin, LeadsLocks, TakesLocks, to_take}
use Rattle.pm_call.specs.Stages.{IsBetween}
use Rattle.pm_call.specs.Between.{LookedCallsMayOpen, MayOpen, opened_with, saw_number}
use Rattle.pm_call.proofs.Staying.{holds_with, pending_opened}
use Rattle.std.specs.Prelude.{length, map}
use Rattle.std.proofs.lemmas.Bool.{and_left, and_right, both_ways}
use Rattle.pm_objects.specs.declared.calls.Operation.TheVariants.{Begin}
use Rattle.pm_objects.specs.declared.calls.Want.{Want}
use Rattle.pm_model.specs.Transaction.{Transaction, idle, is_working, with_locks}
use Rattle.pm_world.specs.Sights.{is_recorded}
use Rattle.pm_crash.specs.Calls.{pending_after, pending_of}
use Rattle.pm_crash.specs.OpenRuns.{after_told, no_pool}
use Rattle.pm_crash.specs.SimFacts.{is_begun}
use Rattle.pm_crash.proofs.Simulation.{sim_begins}
use Rattle.pm_crash.specs.Sim.{lists_of}
use Rattle.pm_lock.specs.Wants.{has_unplaced}
use Rattle.pm_call.proofs.LockedObjects.{all_placed_there, leads, no_first, none_gone, none_missing, not_busy, not_full}
use Rattle.pm_model.specs.declared.stage.Stage.TheVariants as stage
use Rattle.pm_undo.specs.Spans as spans

first_seen : (x : Step) (seen : List Step) → Contains (x ∷ seen) x
first_seen x seen = (0, omega arith, refl)

module _ (s : Standing) (n : ℕ) (earlier : List Step) (is : IsBetween s) (more : s.view.log.generation < greatest_generation s.view.fixed.shape) (below : n < greatest_generation s.view.fixed.shape) where
  abbrev over : IsOver s
  over = is.over

  abbrev next : View
  next = (opened_with s (NumberSeen n ∷ earlier)).view

  sizes : SizesFit next
  sizes (Small c i) = over.sizes (Small c i)
  sizes (Big f) = over.sizes (Big f)
  sizes Root = over.sizes Root

  opened : IsOpened (moved s next)
  opened = record {
    working = record {
      is_open = refl;
      whole = (refl, refl);
      unentered = refl;
      below = more;
      lane = over.lane;
      lanes = over.lanes;
      zones = over.zones;
      unmaking = over.unmaking;
      clean = subst (λ (cs : List Undrained). AllByRecursion (λ (u : Undrained). IsBeyond s.view.fixed.shape u.word) cs) (sym over.drained) tt;
      few = omega arith;
      standing = tt;
      once = tt;
      known = over.known;
    };
    unbumped = refl;
    sound = record { small = over.sound.small; some = over.sound.some; zone = over.sound.zone; huge = over.sound.huge };
    sizes = sizes;
    sealed = over.sealed;
    number = record { seen = n; told = first_seen (NumberSeen n) earlier; below = below; none = refl };
    call = refl;
    records = refl;
    drained = over.drained;
    locks = is.unlocked;
    holds = holds_with s.view next [] refl refl (subst (λ (ls : List HeldLock). HoldsAll s.view ls) is.unlocked over.holds);
    own = over.own;
    entries = is.unlisted;
    pending = pending_opened s.view next refl refl refl over.pending;
    facts = over.facts;
  }

-- it opens as the lane looks for the first time, and stays so as it looks again
saw_first : (s : Standing) → IsBetween s → (n : ℕ) → saw_number s n ≡ opened_with s (NumberSeen n ∷ [])
saw_first s is n = ap (λ (ph : Phase). moved s (with_seen (NumberSeen n) (begun ph s.view))) (ap (λ (l : Log). l.phase) is.over.log)

pub calls_may_open : CallsMayOpen
calls_may_open s n is more below = subst IsOpened (sym (saw_first s is n)) (opened s n [] is more below)

pub between_may_open : (s : Standing) → IsBetween s → MayOpen s
between_may_open s is = record { before = s; between = is; since = inl refl }

pub saw_open : (s : Standing) (n : ℕ) → (may : MayOpen s) → (earlier : List Step) × (saw_number s n ≡ opened_with may.before (NumberSeen n ∷ earlier))
saw_open s n may = ⊎_elim
    (λ (e : s ≡ may.before). ([], ap (λ (t : Standing). saw_number t n) e ∙ saw_first may.before may.between n))
    (λ (z : (seen : List Step) × (s ≡ opened_with may.before seen)). (z.0, ap (λ (t : Standing). saw_number t n) z.1))
    may.since

pub look_may_open : (s : Standing) (n : ℕ) → MayOpen s → MayOpen (saw_number s n)
look_may_open s n may = let o = saw_open s n may in record { before = may.before; between = may.between; since = inr (NumberSeen n ∷ o.0, o.1) }

pub looked_calls_may_open : LookedCallsMayOpen
looked_calls_may_open s n may more below =
    let o = saw_open s n may in
    let b = kept may.since in
    subst IsOpened (sym o.1) (opened may.before n o.0 may.between
    (subst (λ (f : Constants). may.before.view.log.generation < greatest_generation f.shape) b.1 (subst (λ g. g < greatest_generation s.view.fixed.shape) b.0 more))
    (subst (λ (f : Constants). n < greatest_generation f.shape) b.1 below))
  where
    kept : (s ≡ may.before) ⊎ ((seen : List Step) × (s ≡ opened_with may.before seen)) → (s.view.log.generation ≡ may.before.view.log.generation) × (s.view.fixed ≡ may.before.view.fixed)
    kept since = ⊎_elim
        (λ (e : s ≡ may.before). (ap (λ (t : Standing). t.view.log.generation) e, ap (λ (t : Standing). t.view.fixed) e))
        (λ (z : (seen : List Step) × (s ≡ opened_with may.before seen)). (ap (λ (t : Standing). t.view.log.generation) z.1, ap (λ (t : Standing). t.view.fixed) z.1))
        since

-- ---- THE OUTERMOST LEVEL BEGINS in an open call
module _ (s : Standing) (op : IsOpened s) where
  none_told : lists_of s.view ≡ idle no_pool (pending_of s.view.entries)
  unfolding after_told
  none_told = ap (λ call. Rattle.pm_crash.specs.OpenRuns.after_told call (idle no_pool (pending_of s.view.entries))) op.call

  none_recorded : (p : Place) → is_recorded s.view.log.records p ≡ true → ⊥
  none_recorded p e = both_ways (is_recorded s.view.log.records p) (ap (λ rs. is_recorded rs p) op.records) e

  agrees : AgreesOn s (lists_of s.view)
  unfolding spans.words_in pending_after
  agrees = subst (AgreesOn s) (sym none_told) (record {
    locks = λ off write. sym (ap (λ (ls : List HeldLock). is_in_locks ls off write) op.locks ∙ and_right (has_line off) false refl);
    count = sym (ap (λ (ls : List HeldLock). length ls) op.locks);
    recorded = sym (ap (λ rs. spans.words_in (map (kept_of s.view.fixed.shape) rs)) op.records);
    records = sym (ap length op.records);
    blocks = (refl, refl, refl);
    pending = sym (ap (λ call. pending_after call (pending_of s.view.entries)) op.call);
    sets = op.entries;
    may_set = tt;
    error_is = refl;
  })

  opened_can_lock : CanLock s
  opened_can_lock = record {
    working = op.working;
    unbumped = op.unbumped;
    sound = op.sound;
    sizes = op.sizes;
    sealed = op.sealed;
    number = op.number;
    held = subst (AreHeld s.view) (sym op.locks) tt;
    holds = subst (HoldsAll s.view) (sym op.locks) op.holds;
    own = op.own;
    room = subst (λ es. length es < 64) (sym op.entries) (omega arith);
    recorded = λ p e. absurd (none_recorded p e);
    lists = agrees;
    pending = op.pending;
    sim = sim_begins s.view op.call op.records;
    facts = op.facts;
    tells = inl op.call;
  }

  no_level : (lists_of s.view).level ≡ 0
  no_level = ap (λ (tx : Transaction). tx.level) none_told

  first_leads : (wants : List Want) (x : View) → has_unplaced s.view.fixed.shape s.view.fixed.pool wants ≡ false → length s.locks + length (to_take s wants) ≤ 64 → TakesLocks s wants x
      → LeadsLocks s (Begin wants) wants 1 x
  first_leads wants x placed few tk = leads s (Begin wants) wants 1 x opened_can_lock tk placed few (record {
    leaves = refl;
    wanted = refl;
    replies = λ w. refl;
    sized = refl;
    freed = refl;
    stage_then = stage.Work;
    works = refl;
    asks_none = λ p. refl;
    lists_none = refl;
    done = ap (λ n. record (with_locks wants (lists_of s.view)) { level = n + 1; stage = stage.Work }) no_level;
  }) (ap (λ (call : List Told). is_begun (call ++ record { operation = Begin wants; reply = None } ∷ [])) op.call) (omega arith) (omega arith) (no_first _ (
    and_left (nat_le 1 (lists_of s.view).level) (not (is_working (lists_of s.view).stage)) (ap (nat_le 1) no_level),
    (
      and_right ((lists_of s.view).level == 0) false refl,
      (
        ap (nat_le 64) no_level,
        (
          not_full s (Begin wants) wants 1 x opened_can_lock tk placed few,
          (
            all_placed_there s (Begin wants) wants 1 x opened_can_lock tk placed few,
            (not_busy s (Begin wants) wants 1 x opened_can_lock tk placed few, (none_missing s (Begin wants) wants 1 x opened_can_lock tk placed few, (none_gone s (Begin wants) wants 1 x opened_can_lock tk placed few, tt))),
          ),
        ),
      ),
    ),
  ))

-- THE LAWS
pub opened_lanes_may_lock : OpenedLanesMayLock
opened_lanes_may_lock s op = opened_can_lock s op

pub transactions_may_begin : TransactionsMayBegin
transactions_may_begin s wants x op placed few tk = first_leads s op wants x placed few tk
