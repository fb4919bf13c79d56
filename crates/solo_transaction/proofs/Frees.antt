-- A free of a lane at work: told, it leaves the lane at work; refused, it gives the call up.
use Rattle.std.proofs.Common.{◌≡◌, ◌≢◌, ◌⊎◌, ⊎_elim, inl, inr, ℕ, ◌+◌, ◌<◌, ◌≤◌, Bool, true, false, not, cond, eqb, [], ◌∷◌, ◌++◌, Contains, map, length, slice_index, Some, None, refl, sym, ◌∙◌, ap, subst, arith}
use Rattle.std.specs.List.{All, list_any}
use Rattle.std.proofs.lemmas.Bool.{cases_Bool, cond-false, cond-true, eq-eqb, false≢true, ne_eqb, or_left, or_parts}
use Rattle.std.proofs.lemmas.List.{append-nil}
use Rattle.std.proofs.lemmas.List.Elements.{All-append, All-cons, All-nil, All-weaker}
use Rattle.std.proofs.lemmas.Option.{same_Some}
use Rattle.solo_crash.proofs.CallBlocks.{blocks_once_more}
use Rattle.solo_crash.proofs.FreeOn.{found_free_goes_on, made_free_goes_on}
use Rattle.solo_crash.proofs.OnceMade.{member_kept}
use Rattle.solo_crash.proofs.RefusedFree.{refused_free_aborts}
use Rattle.solo_crash.specs.CallBlocks.{CallBlocks, NewObject, blocks_in, is_at, is_made_in, reserved_in, reserved_object, with_freed}
use Rattle.solo_crash.specs.OpenCall.{IsUnderWay}
use Rattle.solo_crash.specs.Operations.{FreesFound, FreesMade, KeepsKnown, KeepsLog, Tells, entries_so_far}
use Rattle.solo_crash.specs.Pending.{published_in}
use Rattle.solo_crash.specs.Reserved.{root_in, LiesFree}
use Rattle.solo_lock.specs.Leading.{DrawEnded}
use Rattle.solo_made.specs.Made.{BlockLists, ListsBlocks, begins_at}
use Rattle.solo_model.specs.declared.stage.Stage.TheVariants as model_stage
use Rattle.pm_objects.specs.declared.calls.Operation.TheVariants.{Free}
use Rattle.pm_objects.specs.declared.history.TxErr.TheVariants as error
use Rattle.pm_objects.specs.declared.history.Value.TheVariants.{Refused}
use Rattle.pm_objects.specs.declared.ids.Oid.{Oid}
use Rattle.pm_objects.specs.declared.refusal.Refusal.{Refusal}
use Rattle.pm_objects.specs.declared.refusal.Refusal.TheVariants as refusal
use Rattle.solo_model.specs.Actions.{Pending, max_entries}
use Rattle.solo_undo.proofs.Begun.{tell_works}
use Rattle.solo_undo.specs.Spans.{IsSpan}
use Rattle.solo_view.proofs.SameLane.{same_lane-after}
use Rattle.solo_view.specs.Log.{Phase}
use Rattle.solo_view.specs.Steps.Step.{Tell}
use Rattle.solo_view.specs.View.{View}
use Rattle.solo_view.specs.Views.{after}
use Rattle.solo_world.specs.Lawful.{MayTell}
use Rattle.solo_world.specs.Opening.{Opening}
use Rattle.solo_world.specs.Sequences.{Ready, one}
use Rattle.solo_world.specs.declared.lane.Lane.{Lane}
use Rattle.solo_crash.proofs.PendingOn.{pending_once_more, published_once_more}
use Rattle.solo_crash.proofs.ReservedStays.{found_free_stays, made_free_stays}
use Rattle.solo_crash.proofs.StillReserved.{HasSameHeads, free_still}
use Rattle.solo_crash.specs.Reserving.{HasReserved}
use Rattle.solo_lock.specs.Finding.{FindsObject}
use Rattle.solo_tx.proofs.BorneOut.{heads_taken_back}
use Rattle.solo_tx.proofs.GoingOn.{HasSameFields, goes_on}
use Rattle.solo_tx.proofs.NoneMade.{made_none_before}
use Rattle.solo_tx.specs.AtWork.{IsAtWork}
use Rattle.solo_tx.specs.Ending.{GivesUpBy}
use Rattle.solo_crash.proofs.StillReserved.{borne_told}
use Rattle.solo_made.proofs.CallLists.{made_is}
use Rattle.solo_transaction.proofs.GoingWith.{lies_still}
use Rattle.solo_transaction.proofs.Owned.{behind_owned, its_block, left_here, member_passes}
use Rattle.solo_transaction.proofs.NotMaking.{not_making_still}
use Rattle.solo_transaction.specs.AtWork.{IsAtWorkWith, IsHeldFreed, IsUnderLock, LiesInReserved}
use Rattle.solo_transaction.specs.Freeing.{CanFree, HasFreed, IsFreeRefused, IsOwned, lines_of}
use Rattle.solo_transaction.specs.declared.freeing.Owned.{Owned}
use Rattle.solo_transaction.specs.declared.freeing.Owned.TheVariants as owned

-- the root, where its word is this
pub root_there : (w : ℕ → ℕ) (off : ℕ) → 1 ≤ off → w 64 ≡ off → root_in w ≡ Some off
root_there w off some same = cond-false (eqb (w 64) 0) None (Some (w 64)) (ne_eqb (w 64) 0 (λ none. omega (arith, same, none, some))) ∙ ap (λ (x : ℕ). Some x) same

pub root_elsewhere : (w : ℕ → ℕ) (off : ℕ) → w 64 ≢ off → root_in w ≢ Some off
root_elsewhere w off other same = ⊎_elim
    (λ (zero : eqb (w 64) 0 ≡ true). let clash : None ≡ Some off = sym (cond-true (eqb (w 64) 0) None (Some (w 64)) zero) ∙ same in cc)
    (λ (some : eqb (w 64) 0 ≡ false). other (same_Some (w 64) off (sym (cond-false (eqb (w 64) 0) None (Some (w 64)) some) ∙ same)))
    (cases_Bool (eqb (w 64) 0))

module _ {M : Type 0} (o : Opening) (at : M → View → Type 0) (lane : Lane M) (blocks : BlockLists) (v : View) (is : IsAtWorkWith o at lane blocks v) (id : Oid) where
  abbrev told : View
  told = after v (Tell (Free id) None)

  tells : Tells v told (Free id) None
  tells = record { keeps = record { lanes = refl; zones = refl; pool = refl; lane = refl; entries = refl; known = λ i there. there }; locks = refl; call = refl }

  logs : KeepsLog v told
  logs = record { records = refl; entries = refl }

  knows : KeepsKnown v told
  knows = record { known = λ i outside there. refl; recorded = λ i outside there. refl }

  pub may_tell : MayTell v.log.phase
  may_tell = subst (λ (phase : Phase). MayTell phase) (sym is.work.working.is_open) tt

  tell_ready : Ready v (one (Tell (Free id) None) v)
  unfolding one Ready
  tell_ready = (may_tell, tt, tt)

  tell_draws : DrawEnded v (one (Tell (Free id) None) v)
  unfolding one DrawEnded
  tell_draws = (tt, tt)

  -- the call goes on
  frees_so : (x : Owned) → CanFree v id x → FreesMade v told id ⊎ FreesFound v told id
  frees_so owned.Made can = inl (record { tells = tells; logs = logs; keeps = knows; made = can.own })
  frees_so (owned.Found lines) can =
      let own = can.own in
      let under = own.1 in
      inr (record {
        tells = tells;
        logs = logs;
        keeps = knows;
        held = record { lock = under.lock; lines = lines; held = under.held; block = under.block; allows = or_left under.lock.write _ under.write; of_pool = own.0; place = under.place };
        old = own.2;
        fits = can.room;
      })

  still_under_way : (x : Owned) → CanFree v id x → IsUnderWay told lane.level model_stage.Work error.None
  still_under_way x can = ⊎_elim
      (λ (made : FreesMade v told id). made_free_goes_on v told id lane.level is.work.level is.work.under_way made)
      (λ (found : FreesFound v told id). found_free_goes_on v told id lane.level is.work.level is.work.under_way found)
      (frees_so x can)

  tell_at_work : (next : Lane M) → HasSameFields lane next → next.records ≡ lane.records → at next.memory told → (x : Owned) → CanFree v id x → IsAtWork o at next told
  tell_at_work next fields records seen x can =
      goes_on o at lane next v told is.work fields
      (record { lane = same_lane-after v (Tell (Free id) None); locks = refl; number = refl; entries = refl; remembers = λ i there. there; seen = λ s there. there; sizes = λ l held. refl })
      seen (ap (λ rs. rs.items) records ∙ is.work.seen.records) (subst (λ rs. All IsSpan rs.items) (sym records) is.work.spans)
      (let f = is.work.opening in record { lane = f.lane; lanes = f.lanes; size = f.size; descriptors = f.descriptors; locks = f.locks })
      (tell_works v (Free id) None is.work.working) is.work.no_entries (published_once_more v told (Free id) None refl refl ∙ append-nil (published_in v)) (made_none_before v told (Free id) None refl refl tt) (still_under_way x can)

  -- a block that was found has a line, that of the object's header
  found_has_lines : (frees : FreesFound v told id) → 1 ≤ frees.held.lines
  found_has_lines frees =
      let object : FindsObject v frees.held.lock = is.work.objects frees.held.lock frees.held.held in
      let same = same_Some object.lines frees.held.lines (sym object.block ∙ frees.held.block) in
      let fits = object.fits in
      omega (arith, same, fits)

  still_reserved : (x : Owned) → CanFree v id x → HasReserved told
  still_reserved x can = ⊎_elim
      (λ (made : FreesMade v told id). made_free_stays v told id is.has_reserved made)
      (λ (found : FreesFound v told id). found_free_stays v told id is.has_reserved found (found_has_lines found))
      (frees_so x can)

  heads_told : HasSameHeads v told
  heads_told = record { lanes = refl; zones = refl; reserved = refl; described = λ c in_pool. refl; bitmaps = λ c in_pool run. refl; root = refl }

  reserved_still : All (LiesInReserved told) (reserved_in told)
  reserved_still =
      subst (λ (p : Pending). All (LiesInReserved told) (map reserved_object p.reserved)) (sym (pending_once_more v told (Free id) None refl refl))
      (All-weaker (LiesInReserved v) (LiesInReserved told) (lies_still v told heads_told) (reserved_in v) is.reserved_within)

  -- what is made behind it was made before
  made_before : (n : NewObject) → Contains (with_freed id.off (blocks_in v)).made n → Contains (blocks_in v).made n
  made_before n there = ⊎_elim
      (λ (own : list_any (is_at id.off) (blocks_in v).made ≡ true).
      (member_kept (λ (n : NewObject). not (is_at id.off n)) (blocks_in v).made n (subst (λ (b : CallBlocks). Contains b.made n) (cond-true (list_any (is_at id.off) (blocks_in v).made) _ _ own) there)).0)
      (λ (other : list_any (is_at id.off) (blocks_in v).made ≡ false). subst (λ (b : CallBlocks). Contains b.made n) (cond-false (list_any (is_at id.off) (blocks_in v).made) _ _ other) there)
      (cases_Bool (list_any (is_at id.off) (blocks_in v).made))

  -- what is listed as freed is held
  module _ (x : Owned) (can : CanFree v id x) (now : BlockLists) where
    abbrev made_there : Bool
    made_there = list_any (begins_at id.off) blocks.made

    listed_held : (lines : ℕ) → (made_there ≡ false → IsHeldFreed lane.locks.items (record { off = id.off; lines = lines })) → now.freed ≡ cond made_there blocks.freed (blocks.freed ++ record { off = id.off; lines = lines } ∷ [])
        → All (IsHeldFreed lane.locks.items) now.freed
    listed_held lines held are = ⊎_elim
        (λ (there : made_there ≡ true). subst (All (IsHeldFreed lane.locks.items)) (sym (are ∙ cond-true made_there _ _ there)) is.freed_held)
        (λ (none : made_there ≡ false).
        subst (All (IsHeldFreed lane.locks.items)) (sym (are ∙ cond-false made_there _ _ none))
        (All-append (IsHeldFreed lane.locks.items) blocks.freed _ is.freed_held (All-cons (IsHeldFreed lane.locks.items) _ [] (held none) (All-nil (IsHeldFreed lane.locks.items)))))
        (cases_Bool made_there)

    pub has_freed : (next : Lane M) → HasSameFields lane next → next.records ≡ lane.records → at next.memory told → (lines : ℕ) → (made_there ≡ false → IsHeldFreed lane.locks.items (record { off = id.off; lines = lines }))
        → ((call : CallBlocks) → ListsBlocks blocks call → ListsBlocks now (with_freed id.off call))
        → now.freed ≡ cond made_there blocks.freed (blocks.freed ++ record { off = id.off; lines = lines } ∷ []) → length now.dropped ≡ length blocks.dropped → HasFreed o at next now v id
    has_freed next fields records seen lines held of_call are as_many = record {
      ready = tell_ready;
      draws = tell_draws;
      works = record {
        work = tell_at_work next fields records seen x can;
        lists = subst (ListsBlocks now) (sym (blocks_once_more v told (Free id) None refl refl)) (of_call (blocks_in v) is.lists);
        pages = as_many ∙ is.pages;
        alone = is.alone;
        not_making = not_making_still v told heads_told refl is.not_making;
        borne_out = borne_told v told heads_told (Free id) None refl refl (refl, refl) (root_elsewhere (slice_index v.words) id.off can.not_root) is.borne_out;
        freed_held = subst (λ ls. All (IsHeldFreed ls.items) now.freed) (sym fields.locks) (listed_held lines held are);
        within = λ n there. lies_still v told heads_told n (is.within n (made_before n (subst (λ (b : CallBlocks). Contains b.made n) (blocks_once_more v told (Free id) None refl refl) there)));
        has_reserved = still_reserved x can;
        reserved_within = reserved_still;
        reserved_free =
            subst (λ (p : Pending). All (LiesFree told) (map reserved_object p.reserved)) (sym (pending_once_more v told (Free id) None refl refl))
            (All-weaker (LiesFree v) (LiesFree told) (free_still v told heads_told) (reserved_in v) is.reserved_free);
      };
      frees = frees_so x can;
    }

  -- one that it made is listed so, and any other it found
  made_listed : IsOwned v id owned.Made → list_any (begins_at id.off) blocks.made ≡ true
  made_listed made =
      made_is blocks (blocks_in v) id.off is.lists
      ∙ member_passes (is_at id.off) (blocks_in v).made made.new made.has (eq-eqb made.new.off id.off (sym made.place))

  pub found_not_made : (x : Owned) → CanFree v id x → list_any (begins_at id.off) blocks.made ≡ false → x ≢ owned.Made
  found_not_made x can none same = false≢true (sym none ∙ made_listed (subst (λ (y : Owned). IsOwned v id y) same can.own))

  pub held_when_found : (x : Owned) (lines : ℕ) → lines ≡ lines_of x → CanFree v id x → list_any (begins_at id.off) blocks.made ≡ false → IsHeldFreed lane.locks.items (record { off = id.off; lines = lines })
  held_when_found owned.Made lines same can none = absurd (false≢true (sym none ∙ made_listed can.own))
  held_when_found (owned.Found its) lines same can none =
      its_block o at lane blocks v is id.off lines (subst (λ (n : ℕ). IsUnderLock v id.off n) (sym same) can.own.1)

  -- why the free is refused: the object is the root, or the log has no room
  pub refused_as_root : (x : Owned) → IsOwned v id x → slice_index v.words 64 ≡ id.off → IsFreeRefused v id refusal.RootKept
  refused_as_root x own same = record {
    reason = left_here o at lane blocks v is id x own;
    root = root_there (slice_index v.words) id.off (let behind = behind_owned o at lane blocks v is id x own in omega (arith, behind)) same;
  }

  pub refused_for_room : (lines : ℕ) → IsOwned v id (owned.Found lines) → slice_index v.words 64 ≢ id.off → max_entries < entries_so_far v + 2 → IsFreeRefused v id refusal.ActionsFull
  refused_for_room lines own other full = record {
    reason = (left_here o at lane blocks v is id (owned.Found lines) own, (or_parts (is_made_in v id.off) (list_any (is_at id.off) (blocks_in v).dropped) own.2.found).0, full);
    root = root_elsewhere (slice_index v.words) id.off other;
  }

  pub refused_for_lack : (x : Owned) → x ≢ owned.Made → IsOwned v id x → slice_index v.words 64 ≢ id.off → max_entries < entries_so_far v + 2 → IsFreeRefused v id refusal.ActionsFull
  refused_for_lack owned.Made other own away full = absurd (other refl)
  refused_for_lack (owned.Found lines) other own away full = refused_for_room lines own away full

  -- a refusal gives the call up
  pub refusal_gives_up : (r : Refusal) → IsFreeRefused v id r → GivesUpBy v (Free id) (Some (Refused r)) (error.Refused r)
  refusal_gives_up r why next its back reserved =
      inr (
        refused_free_aborts v next id r lane.level is.work.level is.work.under_way (record { reason = why.reason; tells = its; takes_back = back }),
        borne_told v next (heads_taken_back o at lane v is.work next (Free id) (Some (Refused r)) its back reserved) (Free id) (Some (Refused r)) its.keeps.entries its.call (refl, refl) why.root is.borne_out,
      )

-- none of these refusals is that of a lane that stopped
pub not_a_stop : (r : Refusal) → (r ≡ refusal.NotLocked) ⊎ (r ≡ refusal.NoObject) ⊎ (r ≡ refusal.RootKept) ⊎ (r ≡ refusal.ActionsFull) → r ≢ refusal.Stopped
not_a_stop r cause stopped = ⊎_elim
    (λ (e : r ≡ refusal.NotLocked). let clash : refusal.NotLocked ≡ refusal.Stopped = sym e ∙ stopped in absurd cc)
    (λ (rest : (r ≡ refusal.NoObject) ⊎ (r ≡ refusal.RootKept) ⊎ (r ≡ refusal.ActionsFull)). ⊎_elim
    (λ (e : r ≡ refusal.NoObject). let clash : refusal.NoObject ≡ refusal.Stopped = sym e ∙ stopped in absurd cc)
    (λ (more : (r ≡ refusal.RootKept) ⊎ (r ≡ refusal.ActionsFull)). ⊎_elim
    (λ (e : r ≡ refusal.RootKept). let clash : refusal.RootKept ≡ refusal.Stopped = sym e ∙ stopped in absurd cc)
    (λ (e : r ≡ refusal.ActionsFull). let clash : refusal.ActionsFull ≡ refusal.Stopped = sym e ∙ stopped in absurd cc)
    more)
    rest)
    cause
