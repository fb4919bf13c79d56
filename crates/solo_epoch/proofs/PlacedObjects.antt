-- An object that a lane that works alone made, and tells: it lies apart from all that the lane has, no word that the lane knew changed, and the lane goes on.
use Rattle.std.proofs.Common.{◌≡◌, ⊎_elim, ℕ, ◌+◌, ◌*◌, ◌≤◌, false, cond, eqb, All, Contains, List, [], ◌∷◌, ◌++◌, slice_index, Option, None, Some, sym, ap, ◌∙◌, subst, arith, append_assoc}
use Rattle.std.proofs.lemmas.Bool.{false_from_ne_true}
use Rattle.std.proofs.lemmas.List.Elements.{All-contains, All-weaker}
use Rattle.pm_header.specs.declared.header.Header.{Header}
use Rattle.pm_layout.specs.Sizes.{class_of}
use Rattle.pm_layout.specs.declared.shape.Shape.{Shape}
use Rattle.pm_image.specs.declared.block.Block.{Block}
use Rattle.solo_model.specs.Actions.{Reservation}
use Rattle.solo_model.specs.Answers.{IsBesideReserved}
use Rattle.solo_model.specs.NewObjects.{new_object}
use Rattle.solo_model.specs.Places.{CanHold}
use Rattle.pm_objects.specs.declared.calls.Operation.{Operation}
use Rattle.pm_objects.specs.declared.history.Value.{Value}
use Rattle.pm_objects.specs.declared.pool.PoolView.{PoolView}
use Rattle.solo_view.specs.Area.{is_in_area}
use Rattle.solo_view.specs.Steps.{Step}
use Rattle.solo_view.specs.Steps.Step.{Tell}
use Rattle.solo_view.specs.View.{Lock, Told, View}
use Rattle.solo_view.specs.Views.{after}
use Rattle.solo_world.specs.History.{settled}
use Rattle.solo_world.specs.Opening.{Opening}
use Rattle.solo_world.specs.Records.{records_generation}
use Rattle.solo_world.proofs.Slots.{word_recorded}
use Rattle.solo_crash.specs.Alone.{WorksAlone}
use Rattle.solo_crash.specs.CallBlocks.{IsMadeIn, NewObject, block_of, blocks_in, is_freed_in, object_made, reserved_object}
use Rattle.solo_crash.specs.HeapChanges.{AreDisjoint}
use Rattle.solo_crash.specs.OpenCall.{block_at_line}
use Rattle.solo_crash.specs.Operations.{KeepsKnown, KeepsLog, Tells}
use Rattle.solo_crash.specs.Pending.{pending_in}
use Rattle.solo_crash.specs.Reserved.{IsBorneOut, IsReservedFor, LiesFree, root_in}
use Rattle.solo_crash.proofs.AloneCourse.{StandsAlone}
use Rattle.solo_crash.proofs.LyingStill.{free_within, reserved_lies_free}
use Rattle.solo_crash.proofs.StillReserved.{each_reserved}
use Rattle.solo_alloc.specs.NewObjects.{CanMakeObject}
use Rattle.solo_epoch.specs.Allocating.{HasLockedFreed, IsFoundAt, MakesObject, object_in_block}
use Rattle.solo_epoch.proofs.ApartObjects.{made_apart, reserved_still}
use Rattle.solo_epoch.proofs.GainedObjects.{aligned, has_object, is_long, is_of_zeros, may_make_another, object_gained, read_known, read_outside, stands_in_chunk, stands_u, stood, works_on}
use Rattle.solo_epoch.proofs.GainedRooms.{Gains}
use Rattle.solo_epoch.proofs.HeldApart.{AllFound, block_has_lines, found_apart, found_has_lines, opening_has_no_fault}
use Rattle.solo_epoch.proofs.StandingPools.{own_fits}
use Rattle.solo_epoch.proofs.ToldViews.{can_where_told, reserved_where_told, works_where_told}

-- The lane works alone, and may make an object: what it has bears out what its call told, if it told any. Under each of its locks it found a block, and it has locked
-- what the call freed
pub record MayMakeAlone (o : Opening) (header : Header) (pool : PoolView) (start : View) (steps : List Step) (v : View) (shape : Shape) : Type 0 where
  pub works : WorksAlone o header pool start steps v
  pub can : CanMakeObject v shape
  pub borne_out : IsBorneOut v
  pub locked : AllFound v.locks
  pub freed : HasLockedFreed v

module _ (o : Opening) (header : Header) (pool : PoolView) (start : View) (steps : List Step) (v : View) (shape : Shape) (c : MayMakeAlone o header pool start steps v shape) (u : View) (size kind : ℕ) (block : Block)
    (makes : MakesObject v u size kind block) where
  abbrev n : NewObject
  n = object_in_block block size kind

  pub gains : Gains v u n
  gains = object_gained o header pool start v steps c.works shape c.can c.locked u size kind block makes

  s : StandsAlone o header pool u
  s = stands_u o header pool start v steps c.works shape c.can c.locked u size kind block makes

  at_v : StandsAlone o header pool v
  at_v = stood o header pool start v steps c.works

  -- ---- it lies apart

  held_still : (l : Lock) → Contains v.locks l → Contains u.locks l
  held_still l there = subst (λ (locks : List Lock). Contains locks l) (sym gains.still.locks) there

  pub apart_found : (l : Lock) (lines : ℕ) → Contains v.locks l → l.block ≡ Some lines → AreDisjoint (block_of n) (block_at_line l.line lines)
  apart_found l lines there is = found_apart o header pool u s (opening_has_no_fault o header pool start v steps c.works) n gains.own l lines (held_still l there) is

  pub apart_made : (m : NewObject) → Contains ((blocks_in v).made ++ (blocks_in v).dropped) m → AreDisjoint (block_of n) (block_of m)
  apart_made m there = made_apart v u n gains o header pool s m (All-contains (IsReservedFor v) ((blocks_in v).made ++ (blocks_in v).dropped) m c.borne_out.made there)

  -- what the call freed it found under a lock, and so elsewhere
  not_freed : IsFoundAt v n.off → ⊥
  not_freed t =
      let some = found_has_lines o header pool u s (opening_has_no_fault o header pool start v steps c.works) t.lock t.lines (held_still t.lock t.held) t.found in
      let some_too = block_has_lines n in
      let place = t.place in
      ⊎_elim
      (λ (before : (block_of n).place + 64 * (block_of n).lines ≤ 64 * t.lock.line). omega (arith, before, some_too, place))
      (λ (behind : 64 * t.lock.line + 64 * t.lines ≤ (block_of n).place). omega (arith, behind, some, place))
      (apart_found t.lock t.lines t.held t.found)

  pub unfreed : is_freed_in v n.off ≡ false
  unfreed = false_from_ne_true (is_freed_in v n.off) (λ freed. not_freed (c.freed n.off freed))

  -- and from what is reserved
  pub unreserved : All (IsBesideReserved n.size n.off) (pending_in v).reserved
  unreserved =
      All-weaker (λ (r : Reservation). IsReservedFor v (reserved_object r)) (IsBesideReserved n.size n.off) (λ r before. made_apart v u n gains o header pool s (reserved_object r) before) (pending_in v).reserved
      (each_reserved (IsReservedFor v) (pending_in v).reserved c.borne_out.pending)

  pub stands : CanHold v.lanes v.zones (class_of size) n.off
  stands = stands_in_chunk o header pool start v steps c.works shape c.can c.locked u size kind block makes

  -- the root's word is the same
  pub same_root : root_in (slice_index v.words) ≡ root_in (slice_index u.words)
  same_root = ap (λ i. cond (eqb i 0) None (Some i)) (sym gains.root)

  -- ---- once it is told

  module _ (op : Operation) (reply : Option Value) where
    abbrev w : View
    w = after u (Tell op reply)

    pub call_is : w.call ≡ v.call ++ record { operation = op; reply = reply } ∷ []
    call_is = ap (λ (call : List Told). call ++ record { operation = op; reply = reply } ∷ []) gains.still.call

    pub tells : Tells v w op reply
    tells = record {
      keeps = record {
        lanes = gains.still.lanes;
        zones = gains.still.zones;
        pool = gains.still.pool;
        lane = gains.still.lane;
        entries = gains.still.entries;
        known = gains.still.known;
      };
      locks = gains.still.locks;
      call = call_is;
    }

    pub logs : KeepsLog v w
    logs = record { records = ap (λ log. log.records) gains.still.log; entries = ap (λ log. log.entries) gains.still.log }

    pub keeps : KeepsKnown v w
    keeps = record {
      known = λ i out known. gains.words i known out;
      recorded = λ i out recorded.
          gains.words i (word_recorded (settled o at_v.log at_v.decided) v (records_generation v.log.phase v) i (own_fits o header pool v at_v).log recorded).fits.known out;
    }

    module _ (some : 1 ≤ size) (most : size ≤ 262080) where
      pub made : IsMadeIn w n
      made = record {
        behind = omega arith;
        aligned = let whole = aligned o header pool start v steps c.works shape c.can c.locked u size kind block makes in omega (arith, whole);
        object = has_object o header pool start v steps c.works shape c.can c.locked u size kind block makes some most;
        long = is_long o header pool start v steps c.works shape c.can c.locked u size kind block makes some most;
        known = λ i reads. read_known o header pool start v steps c.works shape c.can c.locked u size kind block makes some most i reads;
        outside = λ i reads. ap (λ k. is_in_area k i) gains.still.lane ∙ read_outside o header pool start v steps c.works shape c.can c.locked u size kind block makes some most i reads;
      }

      pub zeros : object_made w n ≡ new_object kind size
      zeros = is_of_zeros o header pool start v steps c.works shape c.can c.locked u size kind block makes some most

    -- what was reserved before is so still, and so is the object's block
    pub still_reserved : (m : NewObject) → IsReservedFor v m → IsReservedFor w m
    still_reserved m before = reserved_where_told u op reply m (reserved_still v u n gains m before)

    pub own : IsReservedFor w n
    own = reserved_where_told u op reply n gains.own

    pub freed_same : ((off : ℕ) → is_freed_in w off ≡ is_freed_in v off) → HasLockedFreed w
    freed_same same off freed =
        let t = c.freed off (sym (same off) ∙ freed) in
        record { lock = t.lock; lines = t.lines; held = held_still t.lock t.held; found = t.found; place = t.place }

    pub all_found : AllFound w.locks
    all_found = subst AllFound (sym gains.still.locks) c.locked

    pub can_still : CanMakeObject w shape
    can_still = can_where_told u op reply shape (may_make_another o header pool start v steps c.works shape c.can c.locked u size kind block makes)

    pub works_still : (more : List Step) × WorksAlone o header pool start (steps ++ more) w
    works_still =
        let on = works_on o header pool start v steps c.works shape c.can c.locked u size kind block makes in
        let can = may_make_another o header pool start v steps c.works shape c.can c.locked u size kind block makes in
        let told : Step = Tell op reply in
        (on.0 ++ told ∷ [], subst (λ (all : List Step). WorksAlone o header pool start all w) (append_assoc steps on.0 (told ∷ [])) (works_where_told u op reply o header pool start (steps ++ on.0) can.run.working on.1))

    -- what lay in room that the words had free lies so still, and so does the object's block
    pub still_free : (m : NewObject) → LiesFree v m → LiesFree w m
    still_free = let on = works_still in free_within o header pool start v w steps (steps ++ on.0) c.works on.1

    pub own_free : LiesFree w n
    own_free = let on = works_still in reserved_lies_free o header pool start w (steps ++ on.0) on.1 n own
