-- A lane that took the locks of the objects that are named, and found each object, holds them.
use Rattle.std.proofs.Common.{◌≡◌, ℕ, ◌+◌, ◌*◌, ◌/◌, ◌<◌, Bool, true, not, eqb, ◌&&◌, ◌||◌, All, Contains, List, [], length, map, get_or, refl, sym, ap, ◌∙◌, subst, arith}
use Rattle.std.proofs.Math.ListN.{get_or-map}
use Rattle.std.proofs.lemmas.Bool.{and_parts, eqb-true}
use Rattle.std.proofs.lemmas.List.{get_or_default}
use Rattle.std.proofs.lemmas.List.Elements.{All-contains, All-contains_itself, All-weaker, Contains-append_left, Contains-append_right}
use Rattle.std.proofs.lemmas.List.Folds.{Any-from_list_any}
use Rattle.std.proofs.lemmas.Option.{same_Some}
use Rattle.solo_crash.proofs.Includes.{made_member}
use Rattle.solo_crash.specs.OnActions.{CanFree}
use Rattle.solo_crash.specs.OpenCall.{lock_of as model_lock, locks_of}
use Rattle.solo_crash.specs.Operations.{IsHeld, IsWantHeld, TakesWanted}
use Rattle.solo_model.specs.Actions.{wants_for, wants_pending}
use Rattle.solo_model.specs.Places.{can_begin}
use Rattle.solo_model.specs.Transaction.{Lock as Locked}
use Rattle.pm_objects.specs.declared.calls.Want.{Want}
use Rattle.pm_objects.specs.declared.ids.Oid.{Oid}
use Rattle.solo_pending.specs.Pending.{action_of, sets_of}
use Rattle.solo_pending.specs.declared.actions.SetAction.{SetAction}
use Rattle.solo_pending.specs.declared.pending.PendingActions.{PendingActions}
use Rattle.solo_view.specs.Blocks.{is_chunk}
use Rattle.solo_view.specs.View.{View, Lock}
use Rattle.solo_world.specs.Lanes.{lock_of}
use Rattle.solo_world.specs.declared.lane.HeldLock.{HeldLock}
use Rattle.solo_lock.proofs.PlannedLocks.{all_at}
use Rattle.solo_lock.specs.Begun.{HoldsLines}
use Rattle.solo_lock.specs.Finding.{FindsObject, FindsObjects}
use Rattle.solo_lock.specs.Locking.{no_lock}
use Rattle.solo_lock.specs.Plans.{IsChunkLine, IsPlan, model_locks}
use Rattle.solo_tx.proofs.BeganWanted.{count, locked_by, same_locks, wanted_locked}
use Rattle.solo_action.specs.Holding.{HoldsEach, HoldsObject, named_in}
use Rattle.solo_action.proofs.WantedObjects.{want_for, want_of}

module _ (pool : ℕ) (v : View) (wants : List Want) (plan : List HeldLock) (of_pool : v.pool ≡ pool) (is : IsPlan pool v.lanes v.zones wants plan) (models : locks_of v ≡ model_locks plan) where
  -- each lock is of a line of a chunk, as the plan has it
  lock_in_chunk : (l : Lock) → Contains v.locks l → is_chunk v.lanes (l.line / 64) ≡ true
  lock_in_chunk l there =
      let k : ℕ = there.0 in
      let n = count pool v wants plan of_pool is models in
      let low = there.1 in
      let inside : k < length plan = omega (arith, low, n) in
      let chunk = (all_at (IsChunkLine v.lanes v.zones) plan k inside is.chunks).0 in
      let same : model_lock (get_or v.locks k (lock_of no_lock)) ≡ model_lock (lock_of (get_or plan k no_lock)) =
      sym (get_or-map model_lock v.locks k (lock_of no_lock)) ∙ ap (λ (ls : List Locked). get_or ls k (model_lock (lock_of no_lock))) models
      ∙ get_or-map model_lock (map lock_of plan) k (lock_of no_lock) ∙ ap model_lock (get_or-map lock_of plan k no_lock) in
      let this : get_or v.locks k (lock_of no_lock) ≡ l = get_or_default v.locks k (lock_of no_lock) l low ∙ there.2 in
      let off = ap (λ (m : Locked). m.off) same in
      let line : (get_or plan k no_lock).line ≡ l.line = (let e = ap (λ (m : Lock). m.line) this in omega (arith, e, off)) in
      subst (λ i. is_chunk v.lanes (i / 64) ≡ true) line chunk

  module _ (objects : FindsObjects v) where
    pub want_held : (want : Want) → Contains wants want → IsWantHeld v want
    want_held want there =
        let form = and_parts (eqb want.id.pool pool) (can_begin v.lanes v.zones want.id.off) (is.placed want there) in
        let holds = sym (locked_by v.locks want.id.off want.write) ∙ (same_locks pool v wants plan of_pool is models).same want.id.off want.write ∙ wanted_locked wants [] want there in
        let t = Any-from_list_any (λ (l : Lock). eqb (64 * l.line + 64) want.id.off && (l.write || not want.write)) v.locks holds in
        let test = and_parts (eqb (64 * t.1.line + 64) want.id.off) (t.1.write || not want.write) t.4 in
        let held : Contains v.locks t.1 = (t.0, t.2, t.3) in
        let object : FindsObject v t.1 = objects t.1 held in
        record {
          place = form.1;
          held = record {
            lock = t.1;
            lines = object.lines;
            held = held;
            block = object.block;
            allows = test.1;
            of_pool = eqb-true want.id.pool pool form.0 ∙ sym of_pool;
            place = sym (eqb-true (64 * t.1.line + 64) want.id.off test.0);
          };
        }

    pub takes_all : TakesWanted v [] wants
    takes_all = record {
      few = (let n = count pool v wants plan of_pool is models in let few = is.few in omega (arith, n, few));
      locks = same_locks pool v wants plan of_pool is models;
      wanted = want_held;
      chunks = λ l lines there block. lock_in_chunk l there;
    }

    pub object_held : HoldsLines v → (want : Want) → want.write ≡ true → Contains wants want → HoldsObject v want.id
    object_held lines want write there =
        let h : IsHeld v want.id true = subst (λ (w : Bool). IsHeld v want.id w) write (want_held want there).held in
        record {
          held = h;
          known = (objects h.lock h.held).known;
          chunk = lock_in_chunk h.lock h.held;
          inside = All-contains (λ (l : Lock). l.line < length v.words / 8) v.locks h.lock lines.inside h.held;
        }

-- an object that is held has a line to be freed with
pub can_free : (v : View) → FindsObjects v → (id : Oid) → HoldsObject v id → CanFree v id
can_free v objects id is =
    let h : IsHeld v id true = is.held in
    let object : FindsObject v h.lock = objects h.lock h.held in
    let same : object.lines ≡ h.lines = same_Some object.lines h.lines (sym object.block ∙ h.block) in
    (h, (let fits = object.fits in omega (arith, same, fits)))

-- so of all that is pending, of which the wants are the objects that are named
module _ (pool : ℕ) (v : View) (list : PendingActions) (plan : List HeldLock) (of_pool : v.pool ≡ pool) (is : IsPlan pool v.lanes v.zones (wants_pending (named_in list)) plan) (models : locks_of v ≡ model_locks plan) (objects : FindsObjects v)
    (lines : HoldsLines v) where
  abbrev frees : List Want
  frees = map want_of list.frees.items

  abbrev sets : List Want
  sets = wants_for (sets_of list.sets.items)

  freed_held : (id : Oid) → Contains list.frees.items id → HoldsObject v id
  freed_held id there = object_held pool v (wants_pending (named_in list)) plan of_pool is models objects lines (want_of id) refl (Contains-append_left frees sets (want_of id) (made_member want_of list.frees.items id there))

  set_held : (a : SetAction) → Contains list.sets.items a → HoldsObject v a.id
  set_held a there = object_held pool v (wants_pending (named_in list)) plan of_pool is models objects lines (want_of a.id) refl
      (Contains-append_right frees sets (want_of a.id) (made_member want_for (sets_of list.sets.items) (action_of a) (made_member action_of list.sets.items a there)))

  pub each_held : HoldsEach v list.sets.items
  each_held = All-weaker (Contains list.sets.items) (λ (a : SetAction). HoldsObject v a.id) set_held list.sets.items (All-contains_itself list.sets.items)

  pub each_freed : All (CanFree v) list.frees.items
  each_freed = All-weaker (Contains list.frees.items) (CanFree v) (λ id there. can_free v objects id (freed_held id there)) list.frees.items (All-contains_itself list.frees.items)
