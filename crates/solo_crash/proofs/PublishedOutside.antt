-- A publish of all that is pending outside of a transaction is a committed call: it turns the pool before it into the one with what is reserved made and what is to be
-- freed gone, and the words that are to be set set.
use Rattle.std.proofs.Common.{◌≡◌, inl, inr, ℕ, ◌+◌, ◌*◌, ◌/◌, ◌≤◌, true, Bool, List, [], ◌∷◌, ◌++◌, length, map, Option, None, refl, sym, ◌∙◌, ap, subst, arith}
use Rattle.std.specs.List.{All, Contains}
use Rattle.std.proofs.lemmas.Bool.{false≢true}
use Rattle.std.proofs.lemmas.List.Elements.{All-contains, All-weaker}
use Rattle.pm_header.specs.declared.header.Header.{Header}
use Rattle.pm_layout.specs.Sizes.{class_of}
use Rattle.pm_objects.specs.declared.calls.Operation.{Operation}
use Rattle.pm_objects.specs.declared.calls.Operation.TheVariants.{Publish}
use Rattle.pm_objects.specs.declared.history.Value.{Value}
use Rattle.pm_objects.specs.declared.ids.Oid.{Oid}
use Rattle.pm_objects.specs.declared.pool.PoolView.{PoolView}
use Rattle.pm_image.specs.declared.block.Block.{Block}
use Rattle.pm_image.specs.Blocks.{blocks}
use Rattle.pm_image.specs.Reads.{Reads}
use Rattle.solo_model.specs.Actions.{Action, Pending, Reservation, none_pending, wants_pending, with_actions}
use Rattle.solo_model.specs.Actions.Action.{SetWord}
use Rattle.solo_model.specs.Answers.{IsBeside, MayStand}
use Rattle.solo_model.specs.Outside.{AnswersOutside}
use Rattle.solo_model.specs.Places.{CanHold, can_begin}
use Rattle.solo_model.specs.Step.{State, with_pending}
use Rattle.solo_model.specs.Transaction.{Transaction, all_made, all_released, given_over, locked_all, published, resting}
use Rattle.solo_view.specs.Blocks.{is_chunk}
use Rattle.solo_view.specs.View.{Lock, Told, View}
use Rattle.solo_crash.specs.CallBlocks.{AgreesOnRoot, AllTellOfRoot, KeepsBlocks, MayPrecede, NewObject, allocated_in, allocated_told, block_of, blocks_in, object_made}
use Rattle.solo_crash.specs.Held.{HoldsPool}
use Rattle.solo_crash.specs.HeapChanges.{AreDisjoint}
use Rattle.solo_crash.specs.Locks.{AreSameLocks}
use Rattle.solo_crash.specs.OnActions.{CanFree, CanFreeIn, CanSet, HoldsNamed, PublishesAll}
use Rattle.solo_crash.specs.OpenCall.{CommitsTo, HasMade, IsBefore, IsChanged, IsCommitted, IsPerformable, TracksBlocks, Turns, call_words, lock_of}
use Rattle.solo_crash.specs.Operations.{HasRange, IsHeld, IsWantHeld, TakesWanted, Tells}
use Rattle.solo_crash.specs.Pending.{pending_before, pending_in, published_in, sets_before, told_of}
use Rattle.solo_crash.specs.Performing.{CanPerform}
use Rattle.solo_crash.specs.Reserving.{HasReserved}
use Rattle.solo_crash.proofs.ActionsOutside.{none_recorded, outside_of}
use Rattle.solo_crash.proofs.Begun.{has_none, no_call_words}
use Rattle.solo_crash.proofs.CallBlocks.{none_made, old_of_none}
use Rattle.solo_crash.proofs.CallWords.{under_is_outside}
use Rattle.solo_crash.proofs.Continued.{two_same}
use Rattle.solo_crash.proofs.Following.{Follows}
use Rattle.solo_crash.proofs.MadeInTurn.{blocks_alone}
use Rattle.solo_crash.proofs.NamedObjects.{all_perform}
use Rattle.solo_crash.proofs.NewPlaces.{found_has}
use Rattle.solo_crash.proofs.ObjectsOfBlocks.{objects_rise}
use Rattle.solo_crash.proofs.PendingOn.{pending_first, published_first, same_before}
use Rattle.solo_crash.proofs.PublishOutside.{finds_named, first_tells, publish_answers}
use Rattle.solo_crash.proofs.PublishedBlocks.{IsNewTo, beside_before, changed, has, lies_before, stand, unfound}
use Rattle.solo_crash.proofs.ReservedStays.{nothing_made, pending_at_rest}
use Rattle.solo_crash.proofs.WritesWithin.{room_apart}

-- a call that told nothing agrees with any root, and keeps the blocks
untold_agrees : (v : View) → v.call ≡ [] → (root : Option ℕ) → AgreesOnRoot v root
unfolding AllTellOfRoot
untold_agrees v untold root = subst (AllTellOfRoot root (pending_before v)) (sym untold) tt

untold_keeps : (v : View) → v.call ≡ [] → KeepsBlocks v
unfolding allocated_told
untold_keeps v untold = record {
  blocks = nothing_made v untold;
  allocated = ap (allocated_told (pending_before v)) untold;
  any_root = λ root. untold_agrees v untold root;
}

-- ---- what is held is so once the publish is told

held_told : (v next : View) (op : Operation) (reply : Option Value) → Tells v next op reply → (id : Oid) (write : Bool) → IsHeld v id write → IsHeld next id write
held_told v next op reply tells id write h = record {
  lock = h.lock;
  lines = h.lines;
  held = subst (λ (ls : List Lock). Contains ls h.lock) (sym tells.locks) h.held;
  block = h.block;
  allows = h.allows;
  of_pool = h.of_pool ∙ sym tells.keeps.pool;
  place = h.place;
}

module _ (v next : View) (publishes : PublishesAll v next) where
  tells : Tells v next Publish None
  tells = publishes.tells

  same_pending : pending_before next ≡ pending_before v
  same_pending = same_before v next tells.keeps.entries

  takes_next : TakesWanted next [] (wants_pending (pending_before v))
  takes_next =
      let takes : TakesWanted v [] (wants_pending (pending_before v)) = publishes.holds.holds.takes in
      record {
        few = subst (λ (ls : List Lock). length ls ≤ 64) (sym tells.locks) takes.few;
        locks = subst (λ (ls : List Lock). AreSameLocks (map lock_of ls) (locked_all (wants_pending (pending_before v)) [])) (sym tells.locks) takes.locks;
        wanted = λ want there.
            let t : IsWantHeld v want = takes.wanted want there in
            record {
              place = two_same (λ (lanes zones : ℕ). can_begin lanes zones want.id.off ≡ true) v.lanes next.lanes v.zones next.zones (sym tells.keeps.lanes) (sym tells.keeps.zones) t.place;
              held = held_told v next Publish None tells want.id want.write t.held;
            };
        chunks = λ l lines held found. ap (λ (n : ℕ). is_chunk n (l.line / 64)) tells.keeps.lanes ∙ takes.chunks l lines (subst (λ (ls : List Lock). Contains ls l) tells.locks held) found;
      }

  named_next : HoldsNamed next
  named_next = record {
    in_lanes = (let low = publishes.holds.holds.in_lanes in let lane = tells.keeps.lane in let lanes = tells.keeps.lanes in omega (arith, low, lane, lanes));
    takes = subst (λ (p : Pending). TakesWanted next [] (wants_pending p)) (sym same_pending) takes_next;
  }

  set_next : (a : Action) → CanSet v a → CanSet next a
  unfolding held_told
  set_next (SetWord id off value) can =
      let range : HasRange v id off 8 true = can.0 in
      let h : IsHeld v id true = range.object in
      let named : HoldsNamed v = publishes.holds.holds in
      let size = publishes.words.words (8 * h.lock.line + 1) (under_is_outside v h.lock h.lines (8 * h.lock.line + 1) named.in_lanes named.takes.chunks h.held h.block (omega arith)) in
      let inside = range.inside in
      (record { object = held_told v next Publish None tells id true h; size_known = tells.keeps.known (8 * h.lock.line + 1) range.size_known; inside = omega (arith, size, inside) }, can.1)

  each_next : All (CanSet next) (sets_before next)
  each_next = subst (λ (p : Pending). All (CanSet next) p.sets) (sym same_pending) (All-weaker (CanSet v) (CanSet next) set_next (sets_before v) publishes.each)

  call_next : next.call ≡ record { operation = Publish; reply = None } ∷ []
  call_next = tells.call ∙ ap (λ (told : List Told). told ++ record { operation = Publish; reply = None } ∷ []) publishes.untold

-- ---- the call is committed

module _ (v next : View) (reserved : HasReserved v) (publishes : PublishesAll v next) where
  keeps : KeepsBlocks v
  keeps = untold_keeps v publishes.untold

  made : HasMade v
  made = has_none v keeps

  now_pending : pending_in v ≡ pending_before v
  now_pending = pending_at_rest v publishes.untold

  frees : All (CanFreeIn v) (pending_in v).frees
  frees = subst (λ (p : Pending). All (CanFreeIn v) p.frees) (sym now_pending)
      (All-weaker (CanFree v) (CanFreeIn v) (λ id can. inl (can, old_of_none v keeps id.off)) (pending_before v).frees publishes.frees)

  next_has : HasMade next
  next_has = has v next made reserved publishes.tells publishes.words frees

  module _ (w : ℕ → ℕ) (header : Header) (pool : PoolView) (holds : HoldsPool w next.lanes next.zones header pool) (same_id : next.pool ≡ header.id) (before : IsBefore next w) (may : MayPrecede pool next) where
    abbrev p : Pending
    p = pending_in v

    abbrev given : Transaction
    given = given_over (resting pool p)

    abbrev last : Transaction
    last = all_made p.reserved (all_released p.frees given)

    start : Follows (object_made v) pool given (blocks_in v)
    start = record {
      fixed = refl;
      rising = objects_rise w next.lanes next.zones header pool holds;
      new = λ n there. none_made v keeps n there;
      long = λ n there. none_made v keeps n there;
      gone = λ off freed. absurd (false≢true (sym (old_of_none v keeps off).kept ∙ freed));
      others = λ off not_made kept. refl;
      unfound = λ off new. absurd (false≢true (sym (old_of_none v keeps off).found ∙ new));
      tracks = subst (TracksBlocks given) (sym keeps.blocks) (record { made = refl; dropped = refl; freed = refl });
      apart = lies_before v next made reserved publishes.tells publishes.words frees;
    }

    no_room_taken : (r : Reservation) → Contains p.reserved r → All (IsBeside (length r.bytes) r.off) pool.objects
    no_room_taken r there = beside_before v next made reserved publishes.tells publishes.words frees pool may r there

    are_new : (r : Reservation) → Contains p.reserved r → IsNewTo pool pool r
    are_new r there = record {
      beside = λ off object is. found_has (IsBeside (length r.bytes) r.off) pool.objects off object (no_room_taken r there) is;
      before = no_room_taken r there;
      place = two_same (λ (lanes zones : ℕ). CanHold lanes zones (class_of (length r.bytes)) r.off) v.lanes pool.lanes v.zones pool.zones
          (sym publishes.tells.keeps.lanes ∙ sym (ap (λ (x : PoolView). x.lanes) holds.is_pool)) (sym publishes.tells.keeps.zones ∙ sym (ap (λ (x : PoolView). x.zones) holds.is_pool))
          (reserved.each r there).place;
    }

    abbrev then_pending : Pending
    then_pending = pending_before next

    as_then : p ≡ then_pending
    as_then = now_pending ∙ sym (same_pending v next publishes)

    -- the transaction of its own that the call is
    abbrev done : Transaction
    done = published (resting pool then_pending)

    is_done : last ≡ done
    is_done = (λ j. published (resting pool (as_then j)))

    moved : done.moved ≡ then_pending.sets
    moved = ap (λ (x : Transaction). x.moved) (blocks_alone then_pending.frees then_pending.reserved (given_over (resting pool then_pending)))

    all_stand : MayStand then_pending.reserved (all_released then_pending.frees (given_over (resting pool then_pending)))
    all_stand = subst (λ (q : Pending). MayStand q.reserved (all_released q.frees (given_over (resting pool q)))) as_then
        (stand v next made reserved publishes.tells publishes.words frees pool pool given start refl refl are_new)

    answers : AnswersOutside (outside_of next pool) Publish None
    answers = publish_answers next w header pool publishes.no_records (named_next v next publishes) holds same_id before
        (ap (λ (q : Pending). q.late) (same_pending v next publishes) ∙ publishes.holds.in_time)
        (first_tells next Publish None (call_next v next publishes) pool.root may.root) (each_next v next publishes) all_stand

    same_words : call_words next w ≡ w
    same_words = no_call_words next publishes.no_records w

    published_now : published_in next ≡ then_pending.sets
    published_now = published_first next (record { operation = Publish; reply = None }) (call_next v next publishes)

    turns : Turns next pool (with_actions (published_in next) done.pool)
    turns actions own = inr (record {
      operation = Publish;
      reply = None;
      alone = ap (map told_of) (call_next v next publishes);
      answers = answers;
      leaves = record {
        pending = own;
        leaves = (λ j. let s : State = record { pool = with_actions ((published_now ∙ sym moved) j) done.pool; actions = with_pending actions next.lane (pending_first next (record { operation = Publish; reply = None }) (call_next v next publishes) j) } in s);
      };
    })

    can_perform : (a : Action) → CanPerform w next.lanes next.zones a → IsPerformable next (call_words next w) a
    can_perform a can = inl (subst (λ (f : ℕ → ℕ). CanPerform f next.lanes next.zones a) (sym same_words) can)

    performable : All (IsPerformable next (call_words next w)) (published_in next)
    performable = subst (All (IsPerformable next (call_words next w))) (sym published_now)
        (All-weaker (CanPerform w next.lanes next.zones) (IsPerformable next (call_words next w)) can_perform then_pending.sets
        (all_perform next w (resting pool none_pending) (λ off. Unit {0}) (finds_named next w header pool publishes.no_records (named_next v next publishes) holds same_id before) then_pending.sets (λ k d inside. tt) (each_next v next publishes)))

    apart_made : (n : NewObject) (block : Block) → Contains (blocks_in next).made n → Contains (blocks (call_words next w) next.lanes next.zones) block → AreDisjoint (block_of n) block
    apart_made n block there is_there =
        room_apart w next.lanes next.zones header pool n block holds (All-contains (λ (m : NewObject). All (IsBeside m.size m.off) pool.objects) (allocated_in next) n may.room (next_has.listed n there))
        (subst (λ (f : ℕ → ℕ). Contains (blocks f next.lanes next.zones) block) same_words is_there)

    commits_to : CommitsTo next w header pool
    commits_to = record {
      base = pool;
      copy = done.pool;
      holds = subst (λ (f : ℕ → ℕ). HoldsPool f next.lanes next.zones header pool) (sym same_words) holds;
      changed = subst (λ (x : Transaction). IsChanged next pool x.pool) is_done (changed v next made reserved publishes.tells publishes.words frees pool pool given start refl refl are_new);
      unfound = unfound v next made reserved publishes.tells publishes.words frees pool pool given start refl refl are_new;
      performable = performable;
      apart = apart_made;
      reads = λ i. subst (λ (f : ℕ → ℕ). Reads f next.lanes next.zones i → Reads w next.lanes next.zones i) (sym same_words) (λ reads. reads);
      turns = turns;
    }

pub publish_commits : (v next : View) → HasReserved v → PublishesAll v next → IsCommitted next
publish_commits v next reserved publishes = record {
  outside = none_recorded next publishes.no_records;
  has = next_has v next reserved publishes;
  comes = commits_to v next reserved publishes;
}
