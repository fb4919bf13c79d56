-- An object is refused, before any block was looked for or since none is free: the lane is at work still, and gives its call up.
use Rattle.std.proofs.Common.{◌≡◌, ◌≢◌, ◌⊎◌, ⊎_elim, inr, ℕ, ◌+◌, ◌*◌, List, [], map, length, slice_index, Some, refl, sym, ap, ◌∙◌, subst, arith}
use Rattle.std.specs.List.{All}
use Rattle.std.specs.Option.{IfSome}
use Rattle.std.proofs.lemmas.List.{append-nil}
use Rattle.pm_image.specs.Blocks.{chunk_word, descriptor_word}
use Rattle.pm_layout.specs.declared.class.Class.{Class}
use Rattle.pm_layout.specs.declared.class.Class.TheVariants.{Chunks, Lines}
use Rattle.solo_model.specs.declared.stage.Stage.TheVariants as model_stage
use Rattle.pm_objects.specs.declared.calls.Operation.TheVariants.{Alloc}
use Rattle.pm_objects.specs.declared.history.TxErr.TheVariants as error
use Rattle.pm_objects.specs.declared.history.Value.TheVariants.{Refused}
use Rattle.pm_objects.specs.declared.refusal.Refusal.{Refusal}
use Rattle.pm_objects.specs.declared.refusal.Refusal.TheVariants as refusal
use Rattle.solo_view.specs.Log.{Log}
use Rattle.solo_view.specs.Blocks.{block_at}
use Rattle.solo_view.specs.View.{Lock, View}
use Rattle.solo_world.specs.Lanes.{span_of}
use Rattle.solo_world.specs.Opening.{Opening}
use Rattle.solo_world.specs.Searches.{HasSearched}
use Rattle.solo_world.specs.declared.lane.Lane.{Lane}
use Rattle.solo_undo.specs.Spans.{IsSpan}
use Rattle.solo_undo.specs.Working.{FindsOpening}
use Rattle.solo_blocks.proofs.Searching.{IsLeft, left_by_search, works_still}
use Rattle.solo_blocks.specs.AnyBlocks.{HasNoRoom}
use Rattle.solo_blocks.specs.declared.making.NoBlock.TheVariants as no_block
use Rattle.solo_alloc.proofs.SomeRoom.{searched_then}
use Rattle.solo_crash.proofs.CallBlocks.{same_blocks}
use Rattle.solo_crash.proofs.PendingOn.{published_same}
use Rattle.solo_crash.proofs.RefusedAlloc.{refused_alloc_aborts}
use Rattle.solo_crash.proofs.Staying.{goes_on_quietly}
use Rattle.solo_crash.specs.CallBlocks.{CallBlocks}
use Rattle.solo_crash.specs.OpenCall.{IsUnderWay}
use Rattle.solo_crash.specs.Operations.{IsAllocReason, entries_so_far}
use Rattle.solo_crash.specs.Reserved.{IsBorneOut}
use Rattle.solo_epoch.proofs.GainedRooms.{IsCallStill, search_still}
use Rattle.solo_made.specs.Made.{BlockLists}
use Rattle.solo_model.specs.Actions.{Action}
use Rattle.solo_crash.proofs.StillReserved.{HasSameHeads, borne_still}
use Rattle.solo_tx.proofs.BorneOut.{heads_taken_back}
use Rattle.solo_tx.proofs.GoingOn.{HasSameFields, KeepsObjects, goes_on}
use Rattle.solo_tx.proofs.NoneMade.{made_none_same}
use Rattle.solo_tx.specs.AtWork.{IsAtWork}
use Rattle.solo_tx.specs.Ending.{GivesUpBy}
use Rattle.solo_transaction.proofs.GainedAtWork.{all_found}
use Rattle.solo_crash.proofs.StillReserved.{borne_told}
use Rattle.solo_transaction.specs.Allocating.{CameToRefuse, MayAllocate}
use Rattle.solo_transaction.specs.AtWork.{IsAtWorkWith}

-- a refusal gives the call up
pub refusal_gives_up : {M : Type 0} (o : Opening) (at : M → View → Type 0) (lane : Lane M) (v : View) → IsAtWork o at lane v → IsBorneOut v → (size kind : ℕ) (r : Refusal) → IsAllocReason v size r
    → GivesUpBy v (Alloc size kind) (Some (Refused r)) (error.Refused r)
refusal_gives_up o at lane v work borne size kind r why next its back reserved =
    inr (
      refused_alloc_aborts v next size kind r lane.level work.level work.under_way (record { reason = why; tells = its; takes_back = back }),
      borne_told v next (heads_taken_back o at lane v work next (Alloc size kind) (Some (Refused r)) its back reserved) (Alloc size kind) (Some (Refused r)) its.keeps.entries its.call (refl, refl) tt borne,
    )

-- ---- where no block is free

-- that is the one refusal of a search
pub refused_for_room : (at : View → Type 0) (v : View) (class : Class) (r : Refusal) → HasNoRoom at v class (no_block.Refused r) → r ≡ refusal.NoSpace
refused_for_room at v (Lines lines) refusal.NoSpace none = refl
refused_for_room at v (Lines lines) r none = absurd none.1
refused_for_room at v (Chunks count) refusal.NoSpace none = refl
refused_for_room at v (Chunks count) r none = absurd none

-- the search, which reserved nothing
abbrev pub search_of : (at : View → Type 0) (v : View) (class : Class) → HasNoRoom at v class (no_block.Refused refusal.NoSpace) → (Q : View → Type 0) × HasSearched at v [] Q
search_of at v (Lines lines) none = (_, none.1.searched)
search_of at v (Chunks count) none = (_, none.0)

-- and it came to its view
pub search_to : (at : View → Type 0) (v : View) (class : Class) (none : HasNoRoom at v class (no_block.Refused refusal.NoSpace))
    → HasNoRoom (λ w. w ≡ (search_of at v class none).1.view) v class (no_block.Refused refusal.NoSpace)
search_to at v (Lines lines) none =
    let x : View = none.1.searched.view in
    (none.0, record { searched = searched_then at v (λ w. w ≡ x) at [] _ none.1.searched refl; none = none.1.none })
search_to at v (Chunks count) none =
    let x : View = none.0.view in
    (searched_then at v (λ w. w ≡ x) at [] _ none.0 refl, none.1)

module _ {M : Type 0} (o : Opening) (at : M → View → Type 0) (lane : Lane M) (blocks : BlockLists) (v : View) (may : MayAllocate o at lane blocks v) (seen : View → Type 0) (Q : View → Type 0) (searched : HasSearched seen v [] Q) where
  abbrev x : View
  x = searched.view

  is : IsAtWorkWith o at lane blocks v
  is = may.works

  left : IsLeft v x
  left = left_by_search v x searched.steps searched.searches may.can.run.alone may.can.run.locked

  pub still : IsCallStill v x
  still = search_still v lane.shape may.can (all_found o at lane blocks v is) seen [] Q searched

  pub same_word : (i : ℕ) → slice_index x.words i ≡ slice_index v.words i
  same_word i = ap (λ (ws : List ℕ). slice_index ws i) left.words

  objects : KeepsObjects v x
  objects = record {
    lane = still.same_lane;
    locks = still.locks;
    number = still.number;
    entries = still.entries;
    remembers = still.known;
    seen = still.seen;
    sizes = λ l held. same_word (8 * l.line + 1);
  }

  opening : FindsOpening o x
  opening =
      let t = is.work.opening in
      let s = still.same_lane in
      let before = t.lane in let lanes = s.lanes in let lane = s.lane in
      record {
        lane = omega (arith, before, lanes, lane);
        lanes = s.lanes ∙ t.lanes;
        size = s.size ∙ t.size;
        descriptors = λ page chunk taken. same_word _ ∙ t.descriptors page chunk taken;
        locks = subst (λ locks. All (λ (l : Lock). IfSome l.block (λ lines. block_at o.lanes o.words l.line ≡ Some lines)) locks) (sym still.locks) t.locks;
      }

  under_way_still : IsUnderWay x lane.level model_stage.Work error.None
  under_way_still =
      goes_on_quietly v x lane.level model_stage.Work error.None is.work.under_way
      (record { keeps = record { lanes = still.lanes; zones = still.zones; pool = still.pool; lane = still.lane; entries = still.entries; known = still.known }; locks = still.locks; call = still.call })
      (record { records = ap (λ (l : Log). l.records) still.log; entries = ap (λ (l : Log). l.entries) still.log })
      (record { words = λ i outside. same_word i })

  pub works_behind : (next : Lane M) → HasSameFields lane next → next.records ≡ lane.records → at next.memory x → IsAtWork o at next x
  works_behind next fields records there =
      goes_on o at lane next v x is.work fields objects there
      (ap (λ rs. rs.items) records ∙ (is.work.seen.records ∙ ap (λ (l : Log). map span_of l.records) (sym still.log)))
      (subst (λ rs. All IsSpan rs.items) (sym records) is.work.spans)
      opening (works_still v x searched.kept left is.work.working) (ap (λ (l : Log). l.entries) still.log ∙ is.work.no_entries)
      (published_same v x still.entries still.call) (made_none_same v x still.entries still.call) under_way_still

  pub heads : HasSameHeads v x
  heads = record { lanes = still.lanes; zones = still.zones; reserved = searched.reserved ∙ append-nil v.reserved; described = λ c in_pool. same_word (descriptor_word v.lanes c); bitmaps = λ c in_pool run. same_word (chunk_word v.lanes c); root = same_word 64 }

  pub borne_behind : IsBorneOut x
  borne_behind = borne_still v x heads still.entries still.call is.borne_out

  pub entries_behind : entries_so_far x ≡ entries_so_far v
  entries_behind =
      let published = ap (λ (actions : List Action). length actions) (published_same v x still.entries still.call) in
      let made = ap (λ (b : CallBlocks). length b.made) (same_blocks v x still.entries still.call) in
      let freed = ap (λ (b : CallBlocks). length b.freed) (same_blocks v x still.entries still.call) in
      omega (arith, published, made, freed)

-- a size alone, or want of room in the log, is no want of space
pub came_at_once : (v : View) (size : ℕ) (r : Refusal) → (r ≡ refusal.BadSize) ⊎ (r ≡ refusal.ActionsFull) → CameToRefuse v size r v
came_at_once v size r cause = ⊎_elim
    (λ (e : r ≡ refusal.BadSize). subst (λ q. CameToRefuse v size q v) (sym e) refl)
    (λ (e : r ≡ refusal.ActionsFull). subst (λ q. CameToRefuse v size q v) (sym e) refl)
    cause

pub not_a_stop : (r : Refusal) → (r ≡ refusal.BadSize) ⊎ (r ≡ refusal.ActionsFull) → r ≢ refusal.Stopped
not_a_stop r cause stopped = ⊎_elim
    (λ (e : r ≡ refusal.BadSize). let clash : refusal.BadSize ≡ refusal.Stopped = sym e ∙ stopped in absurd cc)
    (λ (e : r ≡ refusal.ActionsFull). let clash : refusal.ActionsFull ≡ refusal.Stopped = sym e ∙ stopped in absurd cc)
    cause
