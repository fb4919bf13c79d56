-- What a lane that works alone leaves where it gives up in a transaction all that is pending: it is told, the blocks of what was reserved are given back, and the lane is at work still.
use Rattle.std.proofs.Common.{◌≡◌, ◌↔◌, ℕ, ◌+◌, ◌*◌, ◌<◌, ◌≤◌, true, All, Contains, List, [], ◌∷◌, ◌++◌, length, map, None, slice_index, is_some, refl, sym, ap, ◌∙◌, subst, arith}
use Rattle.std.specs.List.{list_any}
use Rattle.std.proofs.lemmas.List.Elements.{All-contains, All-map, All-nil, All-weaker, Contains-append_left, Contains-get_or}
use Rattle.solo_crash.proofs.CallBlocks.{same_blocks}
use Rattle.solo_crash.proofs.Leading.{leads_then}
use Rattle.solo_crash.proofs.PendingOn.{pending_same, published_same}
use Rattle.solo_crash.proofs.ReservedOn.{none_reserved}
use Rattle.solo_crash.proofs.StillReserved.{HasSameHeads, reserved_still}
use Rattle.solo_crash.specs.Alone.{WorksAlone}
use Rattle.solo_crash.specs.CallBlocks.{CallBlocks, NewObject, block_of, blocks_in, reserved_in, reserved_object}
use Rattle.solo_crash.specs.GivingUnused.{GivesUnused}
use Rattle.solo_crash.specs.Operations.{Tells}
use Rattle.solo_crash.specs.Pending.{pending_in}
use Rattle.solo_crash.specs.Reserved.{IsReservedFor, LiesFree}
use Rattle.solo_epoch.proofs.GainedObjects.{stood}
use Rattle.solo_epoch.proofs.GivenAll.{reserved_apart}
use Rattle.solo_epoch.proofs.GivenBlocks.{beside}
use Rattle.solo_epoch.proofs.GivenInCall.{call_may_give, canceled_apart, gives_in_call, goes_on_in_call, left_in_call, may_each_in_call, ready_in_call, same_in_call, working_in_call, works_in_call}
use Rattle.solo_epoch.proofs.OpeningSeen.{finds_opening}
use Rattle.solo_epoch.specs.Allocating.{IsCallAlone}
use Rattle.solo_epoch.specs.GivingBack.{MayGiveInCall, gives_back, with_given_back}
use Rattle.pm_header.specs.declared.header.Header.{Header}
use Rattle.pm_image.specs.Blocks.{chunk_word, descriptor_word}
use Rattle.solo_lock.proofs.Drawless.{drawless, drawn_in_turn}
use Rattle.solo_lock.proofs.Leading.{ready_leads}
use Rattle.solo_lock.specs.Begun.{HoldsLines}
use Rattle.solo_lock.specs.Finding.{FindsObject}
use Rattle.solo_lock.specs.Leading.{DrawEnded}
use Rattle.solo_made.specs.Made.{BlockLists, ListsBlocks}
use Rattle.solo_model.specs.Actions.{Pending, none_pending}
use Rattle.pm_objects.specs.declared.calls.Operation.TheVariants.{Cancel}
use Rattle.pm_objects.specs.declared.pool.PoolView.{PoolView}
use Rattle.solo_pending.specs.AllPending.{IsPendingAs, object_of}
use Rattle.solo_pending.specs.declared.pending.PendingActions.{PendingActions}
use Rattle.solo_reclaim.specs.KeptBlocks.{IsKeptBit}
use Rattle.solo_tx.proofs.GoingOn.{lists_on}
use Rattle.solo_tx.specs.Actions.{HasCanceled, cancels}
use Rattle.solo_tx.specs.AtWork.{IsAtWork}
use Rattle.solo_undo.proofs.Settled.{settle_lawful}
use Rattle.solo_undo.specs.Working.{log_settled}
use Rattle.solo_view.proofs.Sequences.{after_all-append}
use Rattle.solo_view.specs.Constants.{IsSameLane}
use Rattle.solo_view.specs.Founds.{IsAlone}
use Rattle.solo_view.specs.Log.{Log, Phase, log_drained}
use Rattle.solo_view.specs.Log.Phase.{Open}
use Rattle.solo_view.specs.Steps.{Step}
use Rattle.solo_view.specs.Steps.Step.{NumberSeen, Tell}
use Rattle.solo_view.specs.View.{Lock, Numbered, Taken, View}
use Rattle.solo_view.specs.Views.{after, after_all, has_bit, reserves}
use Rattle.solo_view.specs.declared.change.Change.{Change}
use Rattle.solo_view.specs.declared.occ.Occ.{Occ}
use Rattle.solo_world.proofs.Sequencing.{ready_both}
use Rattle.solo_world.specs.Opening.{Opening}
use Rattle.solo_world.specs.Sequences.{Ready, by_view, in_turn, one, settles}
use Rattle.solo_world.specs.declared.lane.Lane.{Lane}
use Rattle.solo_transaction.proofs.ActionsWithLists.{canceled_with_lists}
use Rattle.solo_transaction.proofs.EndingAlone.{may_allocate}
use Rattle.solo_transaction.proofs.GainedAtWork.{all_found, freed_found}
use Rattle.solo_transaction.proofs.GivenInTurn.{objects_listed, seen_given}
use Rattle.solo_transaction.proofs.LyingReserved.{lies_in_reserved}
use Rattle.solo_transaction.proofs.NotMaking.{not_making_able}
use Rattle.solo_transaction.specs.AtWork.{IsAtWorkWith, LiesInReserved}
use Rattle.solo_transaction.specs.Canceling.{HasCanceledWith, cancels_pending, given_up_view}
use Rattle.solo_transaction.specs.GivingInTurn.{MayGiveInTurn}
use Rattle.solo_transaction.specs.Published.{HasOwnCounts}

-- the records of a call at work are the same once all is persistent
pub settled_log : (v : View) → v.log.phase ≡ Open [] [] → (changes : List Change) → log_settled changes v ≡ v.log
settled_log v is [] = refl
settled_log v is (c ∷ changes) = ap (λ (p : Phase). log_drained p (is_some v.number) v.log) is

module _ {M : Type 0} (o : Opening) (header : Header) (pool : PoolView) (at : M → View → Type 0) (start v : View) (steps : List Step) (lane mid : Lane M) (blocks : BlockLists) (works : WorksAlone o header pool start steps v)
    (is : IsAtWorkWith o at lane blocks v) (same : mid ≡ record lane { memory = mid.memory }) (has : HasCanceled o at mid v) (counts : (u : View) → at mid.memory u → IsAlone u → HasOwnCounts u) where
  abbrev w : View
  w = after_all v (cancels v)

  abbrev ns : List NewObject
  ns = reserved_in v

  abbrev x : View
  x = with_given_back w ns

  abbrev behind_cancel : List Step
  behind_cancel = steps ++ cancels v

  abbrev gives : List Step
  gives = gives_back w.lanes ns

  -- ---- once it is told

  told_is : w ≡ after (after_all v (settles v)) (Tell Cancel None)
  unfolding cancels in_turn one after_all
  told_is = after_all-append v (settles v) (Tell Cancel None ∷ [])

  told_so : w ≡ after (record v { changes = []; calls = (after_all v (settles v)).calls; log = log_settled v.changes v }) (Tell Cancel None)
  told_so = told_is ∙ ap (λ (u : View). after u (Tell Cancel None)) (settle_lawful v).1

  heads : HasSameHeads v w
  heads = record {
    lanes = ap (λ (u : View). u.lanes) told_so;
    zones = ap (λ (u : View). u.zones) told_so;
    reserved = ap (λ (u : View). u.reserved) told_so;
    described = λ c in_pool. ap (λ (u : View). slice_index u.words (descriptor_word v.lanes c)) told_so;
    bitmaps = λ c in_pool run. ap (λ (u : View). slice_index u.words (chunk_word v.lanes c)) told_so;
    root = ap (λ (u : View). slice_index u.words 64) told_so;
  }

  tells : Tells v w Cancel None
  tells = record {
    keeps = record {
      lanes = ap (λ (u : View). u.lanes) told_so;
      zones = ap (λ (u : View). u.zones) told_so;
      pool = ap (λ (u : View). u.pool) told_so;
      lane = ap (λ (u : View). u.lane) told_so;
      entries = ap (λ (u : View). u.entries) told_so;
      known = λ i there. subst (λ (u : View). Contains u.known i) (sym told_so) there;
    };
    locks = ap (λ (u : View). u.locks) told_so;
    call = ap (λ (u : View). u.call) told_so;
  }

  drained : w.changes ≡ []
  drained = ap (λ (u : View). u.changes) told_so

  logged : w.log ≡ v.log
  logged = ap (λ (u : View). u.log) told_so ∙ settled_log v is.work.working.is_open v.changes

  at_w : IsAtWorkWith o at mid blocks w
  at_w = canceled_with_lists o at lane mid blocks v is (ap (λ (l : Lane M). l.locks) same) has

  works_w : WorksAlone o header pool start behind_cancel w
  works_w =
      let own : HasOwnCounts w = counts w at_w.work.seen.memory at_w.alone in
      record { begins = works.begins; leads = leads_then start v w steps (cancels v) works.leads (ready_leads v (cancels v) has.ready has.draws); numbered = own.numbered; within = own.within }

  call_w : IsCallAlone o header pool start behind_cancel w mid.shape mid.level
  call_w = record {
    works = works_w;
    can = (may_allocate o header pool at mid start w behind_cancel works_w blocks at_w).can;
    under_way = at_w.work.under_way;
    borne_out = at_w.borne_out;
    locked = all_found o at mid blocks w at_w;
    freed = freed_found o at mid blocks w at_w;
  }

  -- ---- what was reserved may be given back

  may : MayGiveInCall o header pool start behind_cancel w mid.shape ns
  may =
      call_may_give o header pool start w behind_cancel mid.shape mid.level ns call_w drained
      (All-weaker (IsReservedFor v) (IsReservedFor w) (reserved_still v w heads) ns is.borne_out.pending) (reserved_apart v is.has_reserved) (canceled_apart v w is.has_reserved tells)

  pub may_give_up : (list : PendingActions) → IsPendingAs list (pending_in v) → MayGiveInTurn w mid.shape (map object_of list.reserved.items)
  may_give_up list listed = subst (MayGiveInTurn w mid.shape) (sym (objects_listed list (pending_in v) listed)) (record {
    of_shape = at_w.work.seen.shape;
    behind = All-map (λ (n : NewObject). 64 ≤ n.off) reserved_object (pending_in v).reserved (λ k d low. (is.has_reserved.each _ (Contains-get_or (pending_in v).reserved k d low)).made.behind);
    most = All-map (λ (n : NewObject). n.size ≤ 262080) reserved_object (pending_in v).reserved
        (λ k d low. let made = (is.has_reserved.each _ (Contains-get_or (pending_in v).reserved k d low)).made in subst (λ (size : ℕ). size ≤ 262080) made.long made.object.most);
    each = λ given rest n parts. may_each_in_call o header pool start w behind_cancel mid.shape given rest n (subst (MayGiveInCall o header pool start behind_cancel w mid.shape) parts may);
  })

  -- ---- and once it is

  unused : GivesUnused w x
  unused = gives_in_call o header pool start w behind_cancel mid.shape ns may

  beside_w : x ≡ beside w x
  beside_w = same_in_call o header pool start w behind_cancel mid.shape ns may

  works_x : WorksAlone o header pool start (behind_cancel ++ gives) x
  works_x = works_in_call o header pool start w behind_cancel mid.shape ns may

  call_x : IsCallAlone o header pool start (behind_cancel ++ gives) x mid.shape mid.level
  call_x = goes_on_in_call o header pool start w behind_cancel mid.shape ns may mid.level call_w

  none_x : pending_in x ≡ none_pending
  none_x = pending_same w x unused.entries unused.call ∙ has.none

  same_blocks_x : blocks_in x ≡ blocks_in w
  same_blocks_x = same_blocks w x unused.entries unused.call

  none_reserved_x : reserved_in x ≡ []
  none_reserved_x = ap (λ (p : Pending). map reserved_object p.reserved) none_x

  same_lane_x : IsSameLane w x
  same_lane_x = record {
    lanes = unused.lanes;
    zones = unused.zones;
    pool = unused.pool;
    lane = unused.lane;
    stop = ap (λ (u : View). u.stop) beside_w;
    table = ap (λ (u : View). u.table) beside_w;
    size = ap (λ (u : View). length u.words) beside_w;
  }

  found_still : (l : Lock) → Contains x.locks l → FindsObject x l
  found_still l there =
      let held : Contains w.locks l = subst (λ (locks : List Lock). Contains locks l) unused.locks there in
      let object : FindsObject w l = at_w.work.objects l held in
      let most = object.fits in
      record {
        lines = object.lines;
        block = object.block;
        known = unused.known_found (8 * l.line + 1) object.known (record { lock = l; lines = object.lines; held = held; found = object.block; from = omega arith; to = omega (arith, most) });
        fits = (let words = ap (λ (ws : List ℕ). slice_index ws (8 * l.line + 1)) unused.words in omega (arith, most, words));
      }

  module _ (new : Lane M) (later : new ≡ record mid { memory = new.memory }) (there : at new.memory x) where
    at_work_x : IsAtWork o at (record mid { memory = new.memory }) x
    at_work_x = record {
      seen = seen_given at mid (record mid { memory = new.memory }) w x at_w.work.seen beside_w refl there;
      level = at_w.work.level;
      works = at_w.work.works;
      unharmed = at_w.work.unharmed;
      unstopped = at_w.work.unstopped;
      spans = at_w.work.spans;
      sound = at_w.work.sound;
      zones = at_w.work.zones;
      opening = finds_opening o header pool x (stood o header pool start x (behind_cancel ++ gives) works_x);
      working = working_in_call o header pool start w behind_cancel mid.shape ns may at_w.work.working;
      no_entries = unused.entered ∙ at_w.work.no_entries;
      published = lists_on mid (record mid { memory = new.memory }) w x refl same_lane_x unused.locks (published_same w x unused.entries unused.call) (subst (λ (b : CallBlocks). (b.made ≡ []) × (b.dropped ≡ [])) same_blocks_x) at_w.work.published;
      under_way = call_x.under_way;
      may_come = record { found = at_w.work.may_come.found; seen = subst (λ (u : View). Contains u.seen (NumberSeen at_w.work.may_come.found)) (sym beside_w) at_w.work.may_come.seen; below = at_w.work.may_come.below };
      lines = subst HoldsLines (sym beside_w) (record { inside = at_w.work.lines.inside; once = at_w.work.lines.once });
      objects = found_still;
    }

    at_work : IsAtWorkWith o at (record mid { memory = new.memory }) blocks x
    at_work = record {
      work = at_work_x;
      lists = subst (ListsBlocks blocks) (sym same_blocks_x) at_w.lists;
      pages = (let pages = at_w.pages in let lanes = unused.lanes in let zones = unused.zones in omega (arith, pages, lanes, zones));
      alone = same_lane_x.table ∙ at_w.alone;
      not_making = not_making_able x mid.shape call_x.can;
      borne_out = call_x.borne_out;
      freed_held = at_w.freed_held;
      within = λ n made. lies_in_reserved o header pool start (behind_cancel ++ gives) x works_x n
          (All-contains (IsReservedFor x) ((blocks_in x).made ++ (blocks_in x).dropped) n call_x.borne_out.made (Contains-append_left (blocks_in x).made (blocks_in x).dropped n made));
      has_reserved = none_reserved x (ap (λ (p : Pending). p.reserved) none_x);
      reserved_within = subst (All (LiesInReserved x)) (sym none_reserved_x) (All-nil (LiesInReserved x));
      reserved_free = subst (All (LiesFree x)) (sym none_reserved_x) (All-nil (LiesFree x));
    }

    behind : given_up_view v ≡ x
    unfolding cancels_pending by_view in_turn
    behind = after_all-append v (cancels v) gives

    ready : Ready v (cancels_pending v)
    unfolding cancels_pending by_view in_turn
    ready = ready_both v (cancels v) gives has.ready (ready_in_call o header pool start w behind_cancel mid.shape ns may)

    draws : DrawEnded v (cancels_pending v)
    unfolding cancels_pending by_view in_turn
    draws = drawn_in_turn v (cancels v) gives has.draws (drawless w gives (let long = ap (λ (es : List Numbered). length es) unused.entries in omega (arith, long)))

    left : (word : Occ) (bit : ℕ) → bit < 64 → (reserves x word bit ≡ true) ↔ ((reserves v word bit ≡ true) × ¬ IsKeptBit v.lanes (map block_of ns) word bit)
    left word bit low =
        subst (λ (lanes : ℕ). (reserves x word bit ≡ true) ↔ ((reserves v word bit ≡ true) × ¬ IsKeptBit lanes (map block_of ns) word bit)) heads.lanes
        (subst (λ (taken : List Taken). (reserves x word bit ≡ true) ↔ ((list_any (has_bit word bit) taken ≡ true) × ¬ IsKeptBit w.lanes (map block_of ns) word bit)) heads.reserved (left_in_call o header pool start w behind_cancel mid.shape ns may word bit low))

    has_canceled : HasCanceledWith o at new blocks v
    has_canceled = record {
      ready = ready;
      draws = draws;
      works = subst (λ (l : Lane M). IsAtWorkWith o at l blocks (given_up_view v)) (sym later) (subst (IsAtWorkWith o at (record mid { memory = new.memory }) blocks) (sym behind) at_work);
      none = ap pending_in behind ∙ none_x;
      words = ap (λ (u : View). u.words) behind ∙ unused.words ∙ ap (λ (u : View). u.words) told_so;
      records = ap (λ (u : View). u.log.records) behind ∙ unused.records ∙ ap (λ (log : Log). log.records) logged;
      drained = ap (λ (u : View). u.changes) behind ∙ ap (λ (u : View). u.changes) beside_w ∙ drained;
      call = ap (λ (u : View). u.call) behind ∙ unused.call ∙ tells.call;
      entries = ap (λ (u : View). u.entries) behind ∙ unused.entries ∙ tells.keeps.entries;
      left = λ word bit low. subst (λ (u : View). (reserves u word bit ≡ true) ↔ ((reserves v word bit ≡ true) × ¬ IsKeptBit v.lanes (map block_of ns) word bit)) (sym behind) (left word bit low);
    }

  -- the list's blocks being given back, it gave up all that was pending
  pub gave_up : (new : Lane M) → new ≡ record mid { memory = new.memory } → (list : PendingActions) → IsPendingAs list (pending_in v)
      → ((u : View) → at mid.memory u → u.lanes ≡ mid.shape.lanes → at new.memory (with_given_back u (map object_of list.reserved.items))) → HasCanceledWith o at new blocks v
  gave_up new later list listed gave =
      has_canceled new later (subst (λ (os : List NewObject). at new.memory (with_given_back w os)) (objects_listed list (pending_in v) listed) (gave w at_w.work.seen.memory at_w.work.seen.shape.lanes))
