-- A LANE AT WORK THAT LOCKED OBJECTS is at work, with the longer list of locks.
use Rattle.std.specs.Prelude.{filter, length}
use Rattle.std.proofs.Common.{◌≡◌, ⊎_elim, inl, inr, ◌⊎◌, ℕ, ◌+◌, ◌*◌, ◌-◌, ◌%◌, ◌<◌, ◌≤◌, nat_le, nat_lt, Bool, true, false, not, ◌==◌, ◌&&◌, ◌||◌, All, Contains, List, [], ◌∷◌, ◌++◌, refl, sym, ap, ◌∙◌, subst, arith, ne_eqb, eq-eqb, None, Some}
use Rattle.std.specs.List.{AllByRecursion, list_any}
use Rattle.std.proofs.lemmas.Bool.{and_from, and_left, and_right, both_ways, cond-false, eqb-true, false_from_ne_true, le-leb, leb-true, ltb-true, or_left, or_right}
use Rattle.std.proofs.lemmas.List.Elements.{All-from_recursion}
use Rattle.pm_layout.specs.declared.shape.Shape.{Shape}
use Rattle.pm_objects.specs.declared.calls.Operation.{Operation}
use Rattle.pm_objects.specs.declared.calls.Operation.TheVariants.{Begin, Lock}
use Rattle.pm_objects.specs.declared.calls.Want.{Want}
use Rattle.pm_objects.specs.declared.ids.Oid.{Oid}
use Rattle.pm_model.specs.Blocks.{Block as Placed}
use Rattle.pm_model.specs.Inside.{Ran, after_reply, wants_of}
use Rattle.pm_model.specs.Items.{is_among}
use Rattle.pm_model.specs.Pending.{Pending}
use Rattle.pm_model.specs.Places.{has_place}
use Rattle.pm_model.specs.Refusals.{Test, first_of, is_first_lock, is_tried, passes_locks}
use Rattle.pm_model.specs.Transaction.{Transaction, idle, all_locked, is_gone, is_locked, is_new, is_working, wants_of_old, with_locks}
use Rattle.pm_model.specs.declared.stage.Stage.{Stage}
use Rattle.pm_model.specs.declared.stage.Stage.TheVariants as stage
use Rattle.pm_view.specs.Places.{Place}
use Rattle.pm_view.specs.Steps.{Step}
use Rattle.pm_view.specs.Steps.Step.{Tell}
use Rattle.pm_view.specs.View.{Told, View}
use Rattle.pm_view.specs.Views.{actions_told, after}
use Rattle.pm_world.specs.InWorld.{IsSound, SizesFit}
use Rattle.pm_world.specs.LaneFields.{Standing}
use Rattle.pm_world.specs.Sights.{is_recorded}
use Rattle.pm_world.specs.declared.lane.HeldLock.{HeldLock}
use Rattle.pm_crash.specs.Looked.{IsChanged, items_seen, pool_seen, refusal_by}
use Rattle.pm_crash.specs.Looks.{ids_freed, ids_sized}
use Rattle.pm_crash.specs.Calls.{pending_of, pending_with}
use Rattle.pm_crash.specs.OpenRuns.{no_pool}
use Rattle.pm_crash.specs.SimFacts.{is_begun}
use Rattle.pm_crash.specs.Sim.{Sim, lists_of, tx_with}
use Rattle.pm_crash.specs.SimOps.{Finds, LookedAt, RepliesBy, leaves_copy}
use Rattle.pm_crash.proofs.OpenRuns.{told_once_more}
use Rattle.pm_crash.proofs.SimFacts.{no_entries}
use Rattle.pm_crash.proofs.SimOps.{sim_extends}
use Rattle.pm_crash.proofs.Telling.{no_root_is_asked, tells_grow}
use Rattle.pm_lock.specs.Held.{HoldsEach}
use Rattle.pm_lock.specs.ModelLocks.{HasLocksOf}
use Rattle.pm_lock.specs.Objects.{StandsAt}
use Rattle.pm_lock.specs.Objects as objects
use Rattle.pm_lock.specs.Wants.{has_unplaced, is_listed}
use Rattle.pm_lock.proofs.CanBegin.{has_header}
use Rattle.pm_lock.proofs.ModelPlans.{plans_as}
use Rattle.pm_call.specs.At.{AreLists, At, IsDataOf, MaySet, entries_so_far}
use Rattle.pm_call.specs.Did.{unseen}
use Rattle.pm_call.specs.Held.{AreHeld, HasObject, IsHeld, has_line, is_in_locks, line_of}
use Rattle.pm_call.specs.Locking.{CanLock, LeadsLocks, ObjectsMayBeLocked, TakesLocks, locks_with, to_take, to_write}
use Rattle.pm_call.proofs.HeldLines.{all_held, all_on, length_both, length_raised}
use Rattle.pm_call.proofs.KeptGrows.{KeepsPictures, locking, own_on}
use Rattle.pm_call.proofs.KeptWork.{data_on, held_size_on, object_on, seal_on, sim_on, working_on}
use Rattle.pm_call.proofs.KnownObjects.{held_object, object_stands}
use Rattle.pm_call.proofs.LockLists.{all_locked_is, any_at, chunk_high, listed_is, locks_are, locks_count, none_any, wants_off}
use Rattle.pm_call.proofs.Noting.{all_map, data_told, held_told, sizes_told, sound_told, working_told}
use Rattle.pm_call.proofs.RangeReads.{begun_more}
use Rattle.pm_call.proofs.Staying.{has_pending, now_told, pending_told}
use Rattle.pm_call.proofs.TakenLocks.{IsTakenView, can_lock, is_taken_view}

-- no test applies
pub no_first : (list : List Test) → AllByRecursion (λ (t : Test). t.1 ≡ false) list → first_of list ≡ None
unfolding first_of
no_first [] all = refl
no_first (t ∷ list) all = cond-false t.1 (Some t.0) (first_of list) all.0 ∙ no_first list all.1

-- of a transaction that made nothing no want is new
old_wants : (tx : Transaction) (wants : List Want) → tx.made ≡ [] → wants_of_old tx wants ≡ wants
old_wants tx wants none = ap (λ (made : List Placed). filter (λ (want : Want). not (list_any (λ (b : Placed). b.off == want.id.off) made)) wants) none ∙ all wants
  where
    all : (more : List Want) → filter (λ (want : Want). true) more ≡ more
    all [] = refl
    all (want ∷ more) = ap (λ rest. want ∷ rest) (all more)

-- each that is wanted is among those that are wanted
each_wanted : (wants more : List Want) → ((off : ℕ) → wants_off more off false ≡ true → wants_off wants off false ≡ true) → AllByRecursion (λ (want : Want). wants_off wants want.id.off false ≡ true) more
each_wanted wants [] so = tt
each_wanted wants (want ∷ more) so = (
  so want.id.off (or_left (want.id.off == want.id.off && (want.write || true)) (wants_off more want.id.off false) (and_from (want.id.off == want.id.off) (want.write || true) (eq-eqb want.id.off want.id.off refl) (or_right want.write true refl))),
  each_wanted wants more (λ off e. so off (or_right (want.id.off == off && (want.write || true)) (wants_off more off false) e)),
)

-- WHAT THE OPERATION IS to the model
pub record IsOp (v : View) (op : Operation) (wants : List Want) (level : ℕ) : Type 0 where
  pub leaves : leaves_copy op ≡ true
  pub wanted : wants_of op ≡ wants
  pub replies : (w : View) → RepliesBy w [] op None
  pub sized : ids_sized (lists_of v) op ≡ []
  pub freed : ids_freed (lists_of v) op ≡ []
  pub stage_then : Stage
  pub works : is_working stage_then ≡ true
  pub done : after_reply op None (lists_of v) ≡ record (with_locks wants (lists_of v)) { level = level; stage = stage_then }
  pub asks_none : (p : Pending) → pending_with op None p ≡ p
  pub lists_none : actions_told op None v.actions ≡ v.actions

module _ (s : Standing) (op : Operation) (wants : List Want) (level : ℕ) (x : View) (at : CanLock s) (tk : TakesLocks s wants x)
    (placed : has_unplaced s.view.fixed.shape s.view.fixed.pool wants ≡ false) (few : length s.locks + length (to_take s wants) ≤ 64) where
  abbrev v : View
  v = s.view

  abbrev sh : Shape
  sh = s.view.fixed.shape

  pub taken : IsTakenView s wants x
  taken = is_taken_view s wants x at tk

  abbrev pub next : View
  next = locking s.view taken.claims taken.seen

  pub next_is : x ≡ next
  next_is = taken.same

  sound : IsSound next
  sound = subst IsSound taken.same taken.sound

  fit : SizesFit next
  fit = subst SizesFit taken.same taken.sizes

  pics : KeepsPictures s.view taken.claims
  pics = taken.pictures

  abbrev L : List HeldLock
  L = locks_with s wants

  each : HoldsEach next (locks_with s wants)
  each = subst (λ (u : View). HoldsEach u (locks_with s wants)) taken.same taken.each

  stands_object : (line : ℕ) → StandsAt next line → HasObject next line
  stands_object line o = record { block = o.block; found = o.found; at = o.begins; inside = o.inside }

  held : AreHeld next (locks_with s wants)
  held = all_held next (to_write s wants) (s.locks ++ to_take s wants)
      (all_on (λ (l : HeldLock). (l.line ≡ 0) ⊎ HasObject next l.line) s.locks (to_take s wants)
      (all_map (IsHeld s.view) (λ (l : HeldLock). (l.line ≡ 0) ⊎ HasObject next l.line) s.locks
      (λ l o. ⊎_elim (λ (z : l.line ≡ 0). inl z) (λ (b : HasObject s.view l.line). inr (object_on s at taken.claims taken.seen taken.keeps at.own sound pics l.line b)) o.object) at.held)
      (all_map (λ (l : HeldLock). StandsAt x l.line) (λ (l : HeldLock). (l.line ≡ 0) ⊎ HasObject next l.line) (to_take s wants)
      (λ l o. inr (stands_object l.line (subst (λ (u : View). StandsAt u l.line) taken.same o))) taken.stands))
      each.held

  many : length (locks_with s wants) ≡ length s.locks + length (to_take s wants)
  many = length_raised (to_write s wants) (s.locks ++ to_take s wants) ∙ length_both s.locks (to_take s wants)

  abbrev tx : Transaction
  tx = lists_of s.view

  locks_same : (off : ℕ) (write : Bool) → is_locked (all_locked wants tx.locks) off write ≡ is_in_locks (locks_with s wants) off write
  locks_same = locks_are sh v.fixed.pool s.locks wants placed tx.locks at.lists.locks

  -- ---- what the model says of it
  abbrev seen_tx : Transaction
  seen_tx = tx_with next (pool_seen next None) (items_seen next)

  has_locks : HasLocksOf seen_tx sh v.fixed.pool s.locks []
  has_locks = record {
    id = refl;
    lanes = refl;
    zones = refl;
    count = at.lists.count;
    held = λ id line is _. held_line id line is;
    made = λ id line is new. absurd (both_ways (is_new seen_tx id.off) (ap (λ (made : List Placed). list_any (λ (b : Placed). b.off == id.off) made) at.lists.blocks.0) new);
  }
    where
      held_line : (id : Oid) (line : ℕ) → objects.line_of sh v.fixed.pool id ≡ Some line → is_listed s.locks [] line ≡ is_locked tx.locks id.off false
      held_line id line is =
          let b = has_header sh v.fixed.pool line id is in
          let before = b.before in
          let high = chunk_high sh line b.chunk in
          let has_ : has_line id.off ≡ true = and_from (id.off % 64 == 0) (nat_le 128 id.off) (eq-eqb (id.off % 64) 0 (omega (arith, before))) (le-leb 128 id.off (omega (arith, before, high))) in
          let same : line ≡ line_of id.off = omega (arith, before) in
          ap (is_listed s.locks []) same ∙ (sym (listed_is s.locks (line_of id.off)) ∙ sym (at.lists.locks id.off false ∙ ap (λ c. c && any_at s.locks (line_of id.off) false) has_))

  plans : Rattle.pm_lock.specs.ModelLocks.PlansAs seen_tx sh v.fixed.pool s.locks [] wants
  plans = plans_as seen_tx sh v.fixed.pool s.locks [] has_locks wants

  pub not_full : passes_locks seen_tx wants ≡ false
  not_full = plans.full ∙ false_from_ne_true (nat_lt 64 (length s.locks + length (to_take s wants))) (λ e. let l = ltb-true 64 (length s.locks + length (to_take s wants)) e in omega (arith, l, few))

  pub all_placed_there : list_any (λ (want : Want). not (has_place seen_tx.before want.id)) wants ≡ false
  all_placed_there = plans.unplaced ∙ placed

  pub not_busy : (nat_le 1 seen_tx.level && list_any (is_tried seen_tx) wants && unseen.busy) ≡ false
  not_busy = and_right (nat_le 1 seen_tx.level && list_any (is_tried seen_tx) wants) false refl

  pub none_missing : list_any (λ (want : Want). is_first_lock seen_tx want && is_among unseen.missing want.id.off) wants ≡ false
  none_missing = none_any (λ (want : Want). is_first_lock seen_tx want && is_among unseen.missing want.id.off) wants (λ want. and_right (is_first_lock seen_tx want) false refl)

  pub none_gone : list_any (λ (want : Want). is_gone seen_tx want.id.off) wants ≡ false
  none_gone = none_any (λ (want : Want). is_gone seen_tx want.id.off) wants (λ want. λ i. is_among (at.lists.blocks.2 i) want.id.off || is_among (at.lists.blocks.1 i) want.id.off)

  -- ---- and it is told
  module _ (is : IsOp s.view op wants level) (begun : is_begun (s.view.call ++ record { operation = op; reply = None } ∷ []) ≡ true) (some : 1 ≤ level) (most : level ≤ 64) (unrefused : refusal_by unseen next None op ≡ None) where
    abbrev t : Told
    t = record { operation = op; reply = None }

    abbrev pub told : View
    told = after next (Tell op None)

    abbrev then : Standing
    then = record s { view = told; locks = locks_with s wants; level = level }

    lists_then : lists_of told ≡ record (with_locks wants tx) { level = level; stage = is.stage_then }
    lists_then = told_once_more s.view.call t (Rattle.pm_model.specs.Transaction.idle no_pool (pending_of s.view.entries)) ∙ is.done

    wants_same : all_locked (wants_of_old tx wants) tx.locks ≡ all_locked wants tx.locks
    wants_same = ap (λ ws. all_locked ws tx.locks) (old_wants tx wants at.lists.blocks.0)

    locks_then : (off : ℕ) (write : Bool) → is_locked (all_locked (wants_of_old tx wants) tx.locks) off write ≡ is_in_locks (locks_with s wants) off write
    locks_then off write = ap (λ T. is_locked T off write) wants_same ∙ locks_same off write

    count_then : length (all_locked (wants_of_old tx wants) tx.locks) ≡ length (locks_with s wants)
    count_then = ap (λ T. length T) wants_same ∙ (locks_count sh v.fixed.pool s.locks wants tx.locks placed at.lists.count at.lists.locks ∙ sym many)

    still_locked : (off : ℕ) → is_in_locks s.locks off true ≡ true → is_in_locks (locks_with s wants) off true ≡ true
    still_locked off e = sym (locks_same off true) ∙ (all_locked_is wants tx.locks off true ∙ or_left (is_locked tx.locks off true) (wants_off wants off true) (at.lists.locks off true ∙ e))

    lists : AreLists then level (lists_of told)
    lists = subst (AreLists then level) (sym lists_then) (record {
      level_is = refl;
      works = is.works;
      locks = locks_then;
      count = count_then;
      recorded = at.lists.recorded;
      records = at.lists.records;
      blocks = at.lists.blocks;
      pending = at.lists.pending ∙ sym (now_told next op None is.asks_none);
      sets = at.lists.sets;
      may_set = all_map (MaySet s) (MaySet then) tx.sets (λ a m. let o = held_object s.view s.locks at.held a.id.off true m.locked in record {
        locked = still_locked a.id.off m.locked;
        aligned = m.aligned;
        size = m.size;
        sized = held_size_on s at taken.claims taken.seen taken.keeps at.own sound pics a.id.off o.0 o.1 ∙ m.sized;
        inside = m.inside;
        small = m.small;
      }) at.lists.may_set;
      error_is = at.lists.error_is;
    })

    sound_then : IsSound told
    sound_then = sound_told next told.call told.actions told.published sound

    held_then : AreHeld told (locks_with s wants)
    held_then = held_told next told.call told.actions told.published (locks_with s wants) held

    recorded_next : (p : Place) → is_recorded s.view.log.records p ≡ true → IsDataOf next p
    recorded_next p e = data_on s at taken.claims taken.seen taken.keeps at.own sound pics p (at.recorded p e)

    recorded_then : (p : Place) → is_recorded s.view.log.records p ≡ true → IsDataOf told p
    recorded_then p e = data_told next told.call told.actions told.published sound p (recorded_next p e)

    changed_by : (w : View) → ((p : Place) → is_recorded s.view.log.records p ≡ true → IsDataOf w p) → (p : Place) → is_recorded s.view.log.records p ≡ true → IsChanged w p
    changed_by w data_ p e = let d = data_ p e in (d.object.block, d.index, d.at, d.within, inr (d.found, d.object.object.inside, d.data_))

    looks : LookedAt next (entries_so_far s) None op
    looks = record {
      enters = no_entries next (changed_by next recorded_next);
      sizes = λ id write among held stays. absurd (no_id id (subst (λ (ids : List Oid). Contains ids id) is.sized among));
      knows_root = no_root_is_asked next None op is.freed;
    }
      where
        no_id : (id : Oid) → Contains [] id → ⊥
        no_id id among = search Rattle.std.proofs.Common.rules

    finds : (want : Want) → wants_off wants want.id.off false ≡ true → Finds told (entries_so_far s) want.id.off
    finds want e =
        let o = held_object told (locks_with s wants) held_then want.id.off false (sym (locks_same want.id.off false) ∙ (all_locked_is wants tx.locks want.id.off false ∙ or_right (is_locked tx.locks want.id.off false) (wants_off wants want.id.off false) e)) in
        let both = Rattle.std.proofs.lemmas.Bool.and_parts (want.id.off % 64 == 0) (nat_le 128 want.id.off) o.0 in
        let even = eqb-true (want.id.off % 64) 0 both.0 in let high = leb-true 128 want.id.off both.1 in
        record {
          block = o.1.block;
          at = ap (λ n. 64 * n + 64) o.1.at ∙ omega (arith, even, high);
          object = object_stands told sound_then (line_of want.id.off) o.1;
        }

    abbrev ran : Ran
    ran = record { operation = op; seen = unseen; reply = None }

    sim : Sim told (entries_so_far s)
    sim = sim_extends next told (entries_so_far s) (entries_so_far s) None ran (sim_on s at taken.claims taken.seen taken.keeps at.own sound pics)
        (record { keeps = record { fixed = refl; entries = refl }; call = refl }) at.tells (tells_grow next op None) (record {
          leaves = is.leaves;
          looks = looks;
          unrefused = unrefused;
          replies = is.replies next;
          enters = no_entries told (changed_by told recorded_then);
          there = subst (λ ws. All (λ (want : Want). is_first_lock (lists_of next) want ≡ true → Finds told (entries_so_far s) want.id.off) ws) (sym is.wanted)
              (All-from_recursion (λ (want : Want). is_first_lock (lists_of next) want ≡ true → Finds told (entries_so_far s) want.id.off) wants (all_map (λ (want : Want). wants_off wants want.id.off false ≡ true) (λ (want : Want). is_first_lock (lists_of next) want ≡ true → Finds told (entries_so_far s) want.id.off) wants
              (λ want e _. finds want e) (each_wanted wants wants (λ off e. e))));
          same = λ p b. inl refl;
        })

    stands : At then
    stands = record {
      working = working_told next told.call told.actions told.published (working_on s at taken.claims taken.seen taken.keeps at.own sound pics);
      unbumped = at.unbumped;
      begun = begun;
      some = some;
      most = most;
      sound = sound_then;
      sizes = sizes_told next told.call told.actions told.published fit;
      sealed = seal_on s at taken.claims taken.seen taken.keeps at.own sound pics;
      number = record { seen = at.number.seen; told = taken.saw (Rattle.pm_view.specs.Steps.Step.NumberSeen at.number.seen) at.number.told; below = at.number.below; none = at.number.none };
      held = held_then;
      lines = record { once = each.once; inside = each.inside };
      few = let m = many in omega (arith, m, few);
      holds = record { each = record { once = each.once; inside = each.inside; held = each.held }; only = taken.only };
      own = own_on s.view taken.claims taken.seen taken.keeps at.own;
      room = at.room;
      recorded = recorded_then;
      lists = lists;
      pending = pending_told next op None is.asks_none is.lists_none (has_pending s.view next refl refl at.pending);
      sim = sim;
      facts = at.facts;
    }

    pub leads : LeadsLocks s op wants level x
    leads = subst (LeadsLocks s op wants level) (sym taken.same) (record {
      unrefused = record { looks = looks; none = unrefused };
      allowed = at.working.is_open;
      stands = stands;
    })

-- ---- A LOCK, and an inner level that begins
module _ (s : Standing) (at : At s) (x : View) where
  open_ : ((lists_of s.view).level == 0) ≡ false
  open_ = ne_eqb (lists_of s.view).level 0 (λ e. let l = at.lists.level_is in let some = at.some in omega (arith, e, l, some))

  at_work : (nat_le 1 (lists_of s.view).level && not (is_working (lists_of s.view).stage)) ≡ false
  at_work = and_right (nat_le 1 (lists_of s.view).level) (not (is_working (lists_of s.view).stage)) (ap not at.lists.works)

  lock_leads : (want : Want) → has_unplaced s.view.fixed.shape s.view.fixed.pool (want ∷ []) ≡ false → length s.locks + length (to_take s (want ∷ [])) ≤ 64 → TakesLocks s (want ∷ []) x
      → LeadsLocks s (Lock want) (want ∷ []) s.level x
  lock_leads want placed few tk = leads s (Lock want) (want ∷ []) s.level x (can_lock s at) tk placed few (record {
    leaves = refl;
    wanted = refl;
    replies = λ w. refl;
    sized = refl;
    freed = refl;
    stage_then = (lists_of s.view).stage;
    works = at.lists.works;
    asks_none = λ p. refl;
    lists_none = refl;
    done = ap (λ n. record (with_locks (want ∷ []) (lists_of s.view)) { level = n; stage = (lists_of s.view).stage }) at.lists.level_is;
  }) (begun_more s.view.call (record { operation = Lock want; reply = None }) at.begun) at.some at.most (no_first _ (
    at_work,
    (
      open_,
      (
        not_full s (Lock want) (want ∷ []) s.level x (can_lock s at) tk placed few,
        (
          all_placed_there s (Lock want) (want ∷ []) s.level x (can_lock s at) tk placed few,
          (not_busy s (Lock want) (want ∷ []) s.level x (can_lock s at) tk placed few, (none_missing s (Lock want) (want ∷ []) s.level x (can_lock s at) tk placed few, (none_gone s (Lock want) (want ∷ []) s.level x (can_lock s at) tk placed few, tt))),
        ),
      ),
    ),
  ))

  begin_leads : (wants : List Want) → s.level < 64 → has_unplaced s.view.fixed.shape s.view.fixed.pool wants ≡ false → length s.locks + length (to_take s wants) ≤ 64 → TakesLocks s wants x
      → LeadsLocks s (Begin wants) wants (s.level + 1) x
  begin_leads wants deep placed few tk = leads s (Begin wants) wants (s.level + 1) x (can_lock s at) tk placed few (record {
    leaves = refl;
    wanted = refl;
    replies = λ w. refl;
    sized = refl;
    freed = refl;
    stage_then = stage.Work;
    works = refl;
    asks_none = λ p. refl;
    lists_none = refl;
    done = ap (λ n. record (with_locks wants (lists_of s.view)) { level = n + 1; stage = stage.Work }) at.lists.level_is;
  }) (begun_more s.view.call (record { operation = Begin wants; reply = None }) at.begun) (omega arith) (omega (arith, deep)) (no_first _ (
    at_work,
    (
      and_left ((lists_of s.view).level == 0) unseen.spent open_,
      (
        not_deep,
        (
          not_full s (Begin wants) wants (s.level + 1) x (can_lock s at) tk placed few,
          (
            all_placed_there s (Begin wants) wants (s.level + 1) x (can_lock s at) tk placed few,
            (not_busy s (Begin wants) wants (s.level + 1) x (can_lock s at) tk placed few, (none_missing s (Begin wants) wants (s.level + 1) x (can_lock s at) tk placed few, (none_gone s (Begin wants) wants (s.level + 1) x (can_lock s at) tk placed few, tt))),
          ),
        ),
      ),
    ),
  ))
    where
      not_deep : nat_le 64 (lists_of s.view).level ≡ false
      not_deep = false_from_ne_true (nat_le 64 (lists_of s.view).level) (λ e. let l = leb-true 64 (lists_of s.view).level e in let is = at.lists.level_is in omega (arith, l, is, deep))

-- THE LAW
pub objects_may_be_locked : ObjectsMayBeLocked
objects_may_be_locked s (Lock want) wants level x at may tk =
    subst (λ n. LeadsLocks s (Lock want) wants n x) (sym may.is.1)
    (subst (λ ws. has_unplaced s.view.fixed.shape s.view.fixed.pool ws ≡ false → length s.locks + length (to_take s ws) ≤ 64 → TakesLocks s ws x → LeadsLocks s (Lock want) ws s.level x) (sym may.is.0) (lock_leads s at x want) may.placed may.few tk)
objects_may_be_locked s (Begin these) wants level x at may tk =
    subst (λ n. LeadsLocks s (Begin these) wants n x) (sym may.is.1)
    (subst (λ ws. has_unplaced s.view.fixed.shape s.view.fixed.pool ws ≡ false → length s.locks + length (to_take s ws) ≤ 64 → TakesLocks s ws x → LeadsLocks s (Begin these) ws (s.level + 1) x) (sym may.is.0) (begin_leads s at x these may.is.2) may.placed may.few tk)
objects_may_be_locked s op wants level x at may tk = absurd may.is
