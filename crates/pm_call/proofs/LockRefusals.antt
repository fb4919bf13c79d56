-- WHY A LOCK IS REFUSED: the tests by the lane's list are the plain model's.
use Rattle.std.proofs.Common.{◌≡◌, inl, inr, ℕ, ◌%◌, nat_le, Bool, true, false, cond, not, ◌==◌, ◌&&◌, ◌||◌, Contains, List, [], ◌∷◌, refl, sym, ap, ◌∙◌, subst, arith, rules, ne_eqb, eq-eqb, None, Some}
use Rattle.std.specs.List.{list_any}
use Rattle.std.proofs.lemmas.Bool.{and_from, and_left, and_right, both_ways, cond-false, cond-true, false_from_ne_true, le-leb, leb-true}
use Rattle.pm_objects.specs.declared.calls.Operation.{Operation}
use Rattle.pm_objects.specs.declared.calls.Operation.TheVariants.{Begin, Lock}
use Rattle.pm_objects.specs.declared.calls.Want.{Want}
use Rattle.pm_objects.specs.declared.ids.Oid.{Oid}
use Rattle.pm_objects.specs.declared.refusal.Refusal.{Refusal}
use Rattle.pm_model.specs.Blocks.{Block as Placed}
use Rattle.pm_model.specs.Items.{is_among}
use Rattle.pm_model.specs.Refusals.{Seen, Test, first_of, is_first_lock, is_tried, lock_tests, passes_locks}
use Rattle.pm_model.specs.Transaction.{Transaction, is_gone, is_locked, is_new, is_working}
use Rattle.pm_view.specs.Places.{Place}
use Rattle.pm_world.specs.LaneFields.{Standing}
use Rattle.pm_world.specs.Sights.{is_recorded}
use Rattle.pm_world.specs.declared.lane.HeldLock.{HeldLock}
use Rattle.pm_crash.specs.Facts.{WasTried}
use Rattle.pm_crash.specs.Looked.{IsChanged, items_seen, pool_seen}
use Rattle.pm_crash.specs.Looks.{ids_freed, ids_sized}
use Rattle.pm_crash.specs.Sim.{lists_of, tx_with}
use Rattle.pm_crash.specs.SimOps.{LookedAt}
use Rattle.pm_crash.proofs.SimFacts.{no_entries}
use Rattle.pm_crash.proofs.Telling.{no_root_is_asked}
use Rattle.pm_lock.specs.ModelLocks.{HasLocksOf, PlansAs}
use Rattle.pm_lock.specs.Objects as objects
use Rattle.pm_lock.specs.Wants.{is_listed}
use Rattle.pm_lock.proofs.CanBegin.{has_header}
use Rattle.pm_lock.proofs.ModelPlans.{plans_as}
use Rattle.pm_call.specs.Locking.{AgreesOn}
use Rattle.pm_call.specs.At.{IsAtWith, entries_so_far}
use Rattle.pm_call.specs.Did.{unseen}
use Rattle.pm_objects.specs.declared.refusal.Refusal.TheVariants.{Deep}
use Rattle.pm_call.specs.Held.{has_line, is_in_locks, line_of}
use Rattle.pm_call.specs.LockRefusals.{DeepBeginsGiveUp, LockRefusals, RefusedLocksGiveUp, locking_tests}
use Rattle.pm_call.proofs.LockLists.{any_at, chunk_high, listed_is, none_any, same_any}
use Rattle.pm_call.proofs.TakenLocks.{work_may_lock}

pub first_skip : (t : Test) (rest : List Test) → t.1 ≡ false → first_of (t ∷ rest) ≡ first_of rest
unfolding first_of
first_skip t rest e = cond-false t.1 (Some t.0) (first_of rest) e

first_same : (r : Refusal) (a b : Bool) (rest more : List Test) → a ≡ b → first_of rest ≡ first_of more → first_of ((r, a) ∷ rest) ≡ first_of ((r, b) ∷ more)
unfolding first_of
first_same r a b rest more e f = λ i. cond (e i) (Some r) (f i)

first_last : (t : Test) → t.1 ≡ false → first_of (t ∷ []) ≡ first_of []
first_last t e = first_skip t [] e

module _ (s : Standing) (wants : List Want) (seen : Seen) (lists : AgreesOn s (lists_of s.view)) where
  abbrev tx : Transaction
  tx = tx_with s.view (pool_seen s.view None) (items_seen s.view)

  none_new : (off : ℕ) → is_new tx off ≡ false
  none_new off = ap (λ (made : List Placed). list_any (λ (b : Placed). b.off == off) made) lists.blocks.0

  pub has_locks : HasLocksOf tx s.view.fixed.shape s.view.fixed.pool s.locks []
  has_locks = record {
    id = refl;
    lanes = refl;
    zones = refl;
    count = lists.count;
    held = λ id line is _. held_line id line is;
    made = λ id line is new. absurd (both_ways (is_new tx id.off) (none_new id.off) new);
  }
    where
      held_line : (id : Oid) (line : ℕ) → objects.line_of s.view.fixed.shape s.view.fixed.pool id ≡ Some line → is_listed s.locks [] line ≡ is_locked tx.locks id.off false
      held_line id line is =
          let b = has_header s.view.fixed.shape s.view.fixed.pool line id is in
          let before = b.before in
          let high = chunk_high s.view.fixed.shape line b.chunk in
          let has_ : has_line id.off ≡ true = and_from (id.off % 64 == 0) (nat_le 128 id.off) (eq-eqb (id.off % 64) 0 (omega (arith, before))) (le-leb 128 id.off (omega (arith, before, high))) in
          let same : line ≡ line_of id.off = omega (arith, before) in
          ap (is_listed s.locks []) same ∙ (sym (listed_is s.locks (line_of id.off)) ∙ sym (lists.locks id.off false ∙ ap (λ c. c && any_at s.locks (line_of id.off) false) has_))

  plans : PlansAs tx s.view.fixed.shape s.view.fixed.pool s.locks [] wants
  plans = plans_as tx s.view.fixed.shape s.view.fixed.pool s.locks [] has_locks wants

  held_as : (off : ℕ) (write : Bool) → not (is_new tx off || is_locked tx.locks off write) ≡ not (is_in_locks s.locks off write)
  held_as off write = λ i. not (none_new off i || lists.locks off write i)

  -- whether a lock was another lane's matters where a level is open
  abbrev pub BusyCounts : Type 0
  BusyCounts = (b : Bool) → (nat_le 1 tx.level && b && seen.busy) ≡ (b && seen.busy)

  tried_same : BusyCounts → (nat_le 1 tx.level && list_any (is_tried tx) wants && seen.busy) ≡ (list_any (λ (want : Want). not (is_in_locks s.locks want.id.off want.write)) wants && seen.busy)
  tried_same counts = counts (list_any (is_tried tx) wants)
      ∙ ap (λ b. b && seen.busy) (same_any (is_tried tx) (λ (want : Want). not (is_in_locks s.locks want.id.off want.write)) wants (λ want. held_as want.id.off want.write))

  missing_same : list_any (λ (want : Want). is_first_lock tx want && is_among seen.missing want.id.off) wants
      ≡ list_any (λ (want : Want). not (is_in_locks s.locks want.id.off false) && is_among seen.missing want.id.off) wants
  missing_same = same_any (λ (want : Want). is_first_lock tx want && is_among seen.missing want.id.off) (λ (want : Want). not (is_in_locks s.locks want.id.off false) && is_among seen.missing want.id.off) wants
      (λ want. ap (λ b. b && is_among seen.missing want.id.off) (held_as want.id.off false))

  none_gone : list_any (λ (want : Want). is_gone tx want.id.off) wants ≡ false
  none_gone = none_any (λ (want : Want). is_gone tx want.id.off) wants (λ want. λ i. is_among (lists.blocks.2 i) want.id.off || is_among (lists.blocks.1 i) want.id.off)

  -- the tests of locks are the list's
  pub tests_same : BusyCounts → first_of ((Rattle.pm_objects.specs.declared.refusal.Refusal.TheVariants.LocksFull, passes_locks tx wants) ∷ lock_tests seen tx wants) ≡ first_of (locking_tests seen s wants)
  tests_same counts = first_same _ _ _ _ _ plans.full (first_same _ _ _ _ _ plans.unplaced (first_same _ _ _ _ _ (tried_same counts) (first_same _ _ _ _ _ missing_same (first_last _ none_gone))))

-- at work a level is open
module _ (s : Standing) (wants : List Want) (seen : Seen) (all : List HeldLock) (at : IsAtWith s s.level all) where
  tests_at_work : first_of ((Rattle.pm_objects.specs.declared.refusal.Refusal.TheVariants.LocksFull, passes_locks (tx_with s.view (pool_seen s.view None) (items_seen s.view)) wants) ∷ lock_tests seen (tx_with s.view (pool_seen s.view None) (items_seen s.view)) wants)
      ≡ first_of (locking_tests seen s wants)
  tests_at_work = tests_same s wants seen (work_may_lock s s.level all at).lists (λ b. ap (λ o. o && b && seen.busy) (le-leb 1 (lists_of s.view).level (let l = at.lists.level_is in let some = at.some in omega (arith, l, some))))

  pub at_work : (nat_le 1 (lists_of s.view).level && not (is_working (lists_of s.view).stage)) ≡ false
  at_work = and_right (nat_le 1 (lists_of s.view).level) (not (is_working (lists_of s.view).stage)) (ap not at.lists.works)

  pub open_so : ((lists_of s.view).level == 0) ≡ false
  open_so = ne_eqb (lists_of s.view).level 0 (λ e. let l = at.lists.level_is in let some = at.some in omega (arith, e, l, some))

pub lock_refusals : LockRefusals
lock_refusals s all (Lock want) wants level seen at is =
    first_skip _ _ (at_work s wants seen all at) ∙ (first_skip _ _ (open_so s wants seen all at) ∙ (tests_at_work s (want ∷ []) seen all at ∙ ap (λ ws. first_of (locking_tests seen s ws)) (sym is.0)))
lock_refusals s all (Begin these) wants level seen at is =
    first_skip _ _ (at_work s wants seen all at)
    ∙ (first_skip _ _ (and_left ((lists_of s.view).level == 0) seen.spent (open_so s wants seen all at))
    ∙ (first_skip _ _ (false_from_ne_true (nat_le 64 (lists_of s.view).level) (λ e. let l = leb-true 64 (lists_of s.view).level e in let level_is = at.lists.level_is in let low = is.2 in omega (arith, l, level_is, low)))
    ∙ (tests_at_work s these seen all at ∙ ap (λ ws. first_of (locking_tests seen s ws)) (sym is.0))))
lock_refusals s all op wants level seen at is = absurd is

-- ---- and it looked at all that such an operation asks for
no_id : (id : Oid) → Contains [] id → ⊥
no_id id among = search rules

locks_look : (s : Standing) (all : List HeldLock) (op : Operation) → IsAtWith s s.level all → ids_sized (lists_of s.view) op ≡ [] → ids_freed (lists_of s.view) op ≡ [] → LookedAt s.view (entries_so_far s) None op
locks_look s all op at sized freed = record {
  enters = no_entries s.view changed;
  sizes = λ id write among held stays. absurd (no_id id (subst (λ (ids : List Oid). Contains ids id) sized among));
  knows_root = no_root_is_asked s.view None op freed;
}
  where
    changed : (p : Place) → is_recorded s.view.log.records p ≡ true → IsChanged s.view p
    changed p e = let d = at.recorded p e in (d.object.block, d.index, d.at, d.within, inr (d.found, d.object.object.inside, d.data_))

pub refused_locks_give_up : RefusedLocksGiveUp
refused_locks_give_up s all (Lock want) wants level seen r at is first tried missing =
    inl (record { inside = refl; plain = refl; seen = seen; root = None; looks = locks_look s all (Lock want) at refl refl; refusal = r; first = lock_refusals s all (Lock want) wants level seen at is ∙ first; replied = refl; busy = λ e. subst (λ ws. WasTried ws s.view.seen) is.0 (tried e); missing = missing })
refused_locks_give_up s all (Begin these) wants level seen r at is first tried missing =
    inl (record { inside = refl; plain = refl; seen = seen; root = None; looks = locks_look s all (Begin these) at refl refl; refusal = r; first = lock_refusals s all (Begin these) wants level seen at is ∙ first; replied = refl; busy = λ e. subst (λ ws. WasTried ws s.view.seen) is.0 (tried e); missing = missing })
refused_locks_give_up s all op wants level seen r at is first tried missing = absurd is

-- ---- a begin at the deepest level
pub first_here : (t : Test) (rest : List Test) → t.1 ≡ true → first_of (t ∷ rest) ≡ Some t.0
unfolding first_of
first_here t rest e = cond-true t.1 (Some t.0) (first_of rest) e

pub deep_begins_give_up : DeepBeginsGiveUp
deep_begins_give_up s wants at deep = inl (record {
  inside = refl;
  plain = refl;
  seen = unseen;
  root = None;
  looks = locks_look s s.locks (Begin wants) at refl refl;
  refusal = Deep;
  first = first_skip _ _ (and_right (nat_le 1 (lists_of s.view).level) (not (is_working (lists_of s.view).stage)) (ap not at.lists.works))
      ∙ (first_skip _ _ (and_right ((lists_of s.view).level == 0) false refl)
      ∙ first_here _ _ (le-leb 64 (lists_of s.view).level (let l = at.lists.level_is in omega (arith, l, deep))));
  replied = refl;
  busy = λ e. absurd (both_ways false refl e);
  missing = λ off e. absurd (both_ways false refl e);
})
