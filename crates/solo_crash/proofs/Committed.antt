-- A call that commits at the outermost level is a step of the model, and so is one that was given up.
use Rattle.std.proofs.Common.{◌≡◌, ⊎_elim, inl, inr, ℕ, false, leb, List, [], ◌∷◌, ◌++◌, length, map, None, IsSome, refl, sym, ◌∙◌, ap, subst, arith}
use Rattle.std.specs.List.{All, Contains, list_any}
use Rattle.std.specs.List.Sorted.{IsStrictlyIncreasing}
use Rattle.std.proofs.lemmas.List.Elements.{All-contains, All-nil, All-weaker}
use Rattle.std.proofs.lemmas.Bool.{cond-true, false_from_ne_true, false≢true, le-leb}
use Rattle.std.proofs.lemmas.List.{append-nil, length-append}
use Rattle.pm_header.specs.declared.header.Header.{Header}
use Rattle.pm_objects.specs.Pool.{object_at, offsets}
use Rattle.pm_objects.specs.declared.history.TxErr.{TxErr}
use Rattle.pm_objects.specs.declared.pool.PoolView.{PoolView}
use Rattle.pm_image.specs.declared.block.Block.{Block}
use Rattle.pm_image.specs.Blocks.{blocks, descriptor_word}
use Rattle.pm_image.specs.HeapFaults.{heap_fault}
use Rattle.pm_image.specs.Reads.{Reads}
use Rattle.pm_objects.specs.declared.calls.Operation.TheVariants.{Commit}
use Rattle.pm_objects.specs.declared.history.TxErr.TheVariants as error
use Rattle.solo_model.specs.declared.stage.Stage.TheVariants as stage
use Rattle.solo_model.specs.declared.stage.Stage.{Stage}
use Rattle.solo_model.specs.Actions.{Action, Pending, with_actions}
use Rattle.solo_model.specs.Transaction.{Transaction, resting, committed, ended_inner, is_working}
use Rattle.solo_model.specs.Answers.{Told as Answered, Answers, IsBeside, after_reply}
use Rattle.solo_model.specs.Bytes.{is_among}
use Rattle.solo_model.proofs.Objects.{same_objects}
use Rattle.solo_model.specs.Step.{RunsFrom, State, with_pending}
use Rattle.solo_view.specs.View.{View}
use Rattle.solo_world.specs.History.{made_final}
use Rattle.solo_world.specs.Records.{is_recorded, pool_entries}
use Rattle.solo_crash.specs.CallBlocks.{CallBlocks, KeepsBlocks, MayPrecede, NewObject, allocated_in, block_of, blocks_in, is_at}
use Rattle.solo_crash.specs.Held.{HoldsPool, IsObjectAt}
use Rattle.solo_crash.specs.HeapChanges.{AreDisjoint}
use Rattle.solo_crash.specs.NewObjects.{IsWordOf}
use Rattle.solo_crash.specs.OpenCall.{block_at_line, CommitsTo, ComesTo, IsBefore, IsChanged, IsCommitted, IsOpen, IsPerformable, IsUnderBlock, IsUnderWay, IsWholeCall, LeavesFree, LiesInNew, MakesItsStep, RecordsUnder, RunsTo, Turns, call_words}
use Rattle.solo_crash.specs.Operations.{CommitsCall, KeepsWords, Tells}
use Rattle.solo_crash.specs.Pending.{pending_before, pending_in, published_in, told_in}
use Rattle.solo_crash.specs.Performing.{CanPerform, IsUnseen, entry_for, performed}
use Rattle.solo_crash.proofs.CallBlocks.{any_may_precede, keeps_on, may_before}
use Rattle.solo_crash.proofs.Apart.{good_chunk, in_its_zone, IsInZone}
use Rattle.solo_crash.proofs.CallWords.{call_works, other_call_word}
use Rattle.solo_crash.proofs.Continued.{answers_done, known_new, leaves_told, left_changed, left_new, told_has, told_listed, told_once_more, two_same, LeavesBlocks}
use Rattle.solo_crash.proofs.KeptWords.{before_back, keeps_known, outside_kept, same_call_words, same_found}
use Rattle.solo_crash.proofs.KeptHeads.{reads_back}
use Rattle.solo_crash.proofs.NewStay.{lies_still, new_there, news_in}
use Rattle.solo_crash.proofs.WritesWithin.{room_apart}
use Rattle.solo_crash.proofs.ObjectsOfBlocks.{object_is_there, objects_rise}
use Rattle.solo_crash.proofs.Passing.{AsksNoLock, Works, passes_all}
use Rattle.solo_crash.proofs.PendingOn.{pending_once_more, published_once_more, same_before}
use Rattle.solo_crash.proofs.PublishedInTurn.{actions_hold, MayPerform}
use Rattle.solo_crash.proofs.Standing.{block_stands, Stands}
use Rattle.solo_crash.proofs.WordsOfNew.{new_word}
use Rattle.solo_crash.proofs.Runs.{runs_once_more, runs_some}

pub some_told : (told : List Answered) (t : Answered) → told ++ t ∷ [] ≡ [] → ⊥
some_told told t none = let long = length-append told (t ∷ []) in let same : length (told ++ t ∷ []) ≡ 0 = ap length none in omega arith

-- the outermost commit leaves the pool with what was published, where nothing is open
commits : (tx : Transaction) → tx.level ≡ 1 → after_reply Commit None tx ≡ resting (with_actions tx.moved tx.pool) tx.actions
commits tx level = cond-true (leb tx.level 1) (resting (with_actions tx.moved tx.pool) tx.actions) (ended_inner (committed tx)) (le-leb tx.level 1 (omega arith))

-- what could be performed of the words before the call can be of those that it stored
can_of_stored : (v : View) (w : ℕ → ℕ) (header : Header) (pool : PoolView) (level : ℕ) (at_stage : Stage) (e : TxErr) → ComesTo v w header pool level at_stage e
    → (a : Action) → CanPerform w v.lanes v.zones a → CanPerform (call_words v w) v.lanes v.zones a
can_of_stored v w header pool level at_stage e c a can = record {
  block = can.block;
  is_there = subst (λ (bs : List Block). Contains bs can.block) (sym c.blocks_stay) can.is_there;
  begins = can.begins;
  inside = (let size = c.sizes_stay can.block can.is_there in let inside = can.inside in omega (arith, size, inside));
  whole = can.whole;
}

-- no descriptor is recorded, since what is recorded lies in blocks
descriptor_unrecorded : (v : View) (w : ℕ → ℕ) → heap_fault w v.lanes v.zones ≡ None → RecordsUnder v → IsBefore v w → (k : ℕ) → is_recorded v.log.records (descriptor_word v.lanes k) ≡ false
descriptor_unrecorded v w none under before k = false_from_ne_true (is_recorded v.log.records (descriptor_word v.lanes k)) (λ recorded.
    let is : IsUnderBlock v (descriptor_word v.lanes k) = under (descriptor_word v.lanes k) recorded in
    let block : Block = block_at_line is.lock.line is.lines in
    let there : Contains (blocks w v.lanes v.zones) block = before.found is.lock is.lines is.held is.found in
    let stands : Stands w v.lanes v.zones block = block_stands w v.lanes v.zones block there in
    let zone : IsInZone v.lanes stands.chunk block = in_its_zone w v.lanes stands.chunk block (good_chunk w v.lanes v.zones stands.chunk none stands.in_zones) stands.is in
    let begins = zone.begins in let ends = zone.ends in let from = is.from in let to = is.to in
    omega (arith, begins, ends, from, to))

-- a call that commits, and did nothing else, turns the pool so
module _ (v next : View) (under_way : IsUnderWay v 1 stage.Work error.None) (tells : Tells v next Commit None) (records : next.log.records ≡ v.log.records) (keeps : KeepsWords v next)
    (w : ℕ → ℕ) (header : Header) (pool : PoolView) (holds : HoldsPool w next.lanes next.zones header pool) (id : next.pool ≡ header.id) (before : IsBefore next w) (may : MayPrecede pool next) where
  old_before : IsBefore v w
  old_before = before_back v next tells.keeps (same_found v next tells.locks) records (λ i outside none. keeps.words i outside) w before

  old_holds : HoldsPool w v.lanes v.zones header pool
  old_holds = two_same (λ (n m : ℕ). HoldsPool w n m header pool) next.lanes v.lanes next.zones v.zones tells.keeps.lanes tells.keeps.zones holds

  abbrev c : ComesTo v w header pool 1 stage.Work error.None
  c = under_way.comes w header pool old_holds (sym tells.keeps.pool ∙ id) old_before (may_before v next Commit None tells.keeps.entries tells.call pool may)

  abbrev last : Transaction
  last = after_reply Commit None c.tx

  abbrev last_pool : PoolView
  last_pool = with_actions (published_in v) c.tx.pool

  rests : last ≡ resting last_pool (pending_in v)
  rests = commits c.tx c.levels ∙ (λ j. resting (with_actions (c.moved j) c.tx.pool) (c.actions j))

  ran : RunsFrom (resting pool (pending_before next)) (told_in next) last
  ran =
      let works : Works c.tx = call_works v w header pool 1 (omega arith) under_way c in
      let asks : AsksNoLock Commit = record { no_wants = refl; no_begin = refl; no_alloc = refl; no_free = refl; no_put = refl; no_publish = refl; aligned = refl; no_more = λ tx. refl; no_action = refl } in
      let answers : Answers c.tx Commit None = answers_done c.tx Commit None refl asks (passes_all c.tx Commit works asks refl refl refl refl refl) refl in
      let told : List Answered = told_in v ++ record { operation = Commit; reply = None } ∷ [] in
      let goes : RunsTo pool (pending_before v) told last = runs_once_more (told_in v) (record { operation = Commit; reply = None }) pool (pending_before v) c.tx c.runs (ap is_working c.stands) answers in
      let runs : RunsFrom (resting pool (pending_before v)) told last = runs_some told pool (pending_before v) last goes (ap (λ (x : Transaction). is_working x.stage) rests) (some_told (told_in v) (record { operation = Commit; reply = None })) in
      subst (λ (ts : List Answered). RunsFrom (resting pool (pending_before next)) ts last) (sym (told_once_more v next Commit None tells.call))
      (subst (λ (p : Pending). RunsFrom (resting pool p) told last) (sym (same_before v next tells.keeps.entries)) runs)

  leaves : LeavesBlocks v next
  leaves = leaves_told v next Commit None tells.keeps.entries tells.call refl (known_new v next (keeps_known v next keeps) under_way.has.each)

  same_words : call_words next w ≡ call_words v w
  same_words = same_call_words v next records keeps under_way.outside w

  same_published : published_in next ≡ published_in v
  same_published = published_once_more v next Commit None tells.keeps.entries tells.call ∙ append-nil (published_in v)

  can_still : (a : Action) → IsPerformable v w a → IsPerformable next (call_words next w) a
  can_still a (inl can) = inl
      (two_same (λ (n m : ℕ). CanPerform (call_words next w) n m a) v.lanes next.lanes v.zones next.zones (sym tells.keeps.lanes) (sym tells.keeps.zones)
      (subst (λ (f : ℕ → ℕ). CanPerform f v.lanes v.zones a) (sym same_words) (can_of_stored v w header pool 1 stage.Work error.None c a can)))
  can_still a (inr lies) = inr (lies_still v next a (λ n there. subst (λ (b : CallBlocks). Contains (news_in b) n) (sym leaves.blocks) there) lies)

  -- the blocks are those before the call, so what it made lies apart from them
  blocks_before : blocks (call_words next w) next.lanes next.zones ≡ blocks w next.lanes next.zones
  blocks_before =
      two_same (λ (n m : ℕ). blocks (call_words next w) n m ≡ blocks w n m) v.lanes next.lanes v.zones next.zones (sym tells.keeps.lanes) (sym tells.keeps.zones)
      (ap (λ (f : ℕ → ℕ). blocks f v.lanes v.zones) same_words ∙ c.blocks_stay)

  apart_made : (n : NewObject) (block : Block) → Contains (blocks_in next).made n → Contains (blocks (call_words next w) next.lanes next.zones) block → AreDisjoint (block_of n) block
  apart_made n block there is_there =
      let listed : Contains (allocated_in next) n = told_listed v next Commit None tells.keeps.entries tells.call n (under_way.has.listed n (subst (λ (b : CallBlocks). Contains b.made n) leaves.blocks there)) in
      room_apart w next.lanes next.zones header pool n block holds (All-contains (λ (m : NewObject). All (IsBeside m.size m.off) pool.objects) (allocated_in next) n may.room listed)
      (subst (λ (bs : List Block). Contains bs block) blocks_before is_there)

  reads_before : (i : ℕ) → Reads (call_words next w) next.lanes next.zones i → Reads w next.lanes next.zones i
  reads_before i =
      two_same (λ (n m : ℕ). Reads (call_words next w) n m i → Reads w n m i) v.lanes next.lanes v.zones next.zones (sym tells.keeps.lanes) (sym tells.keeps.zones)
      (subst (λ (f : ℕ → ℕ). Reads f v.lanes v.zones i → Reads w v.lanes v.zones i) (sym same_words)
      (reads_back w (call_words v w) v.lanes v.zones i (λ k inside. other_call_word v w (descriptor_word v.lanes k) (descriptor_unrecorded v w old_holds.no_fault under_way.under old_before k)) c.blocks_stay c.sizes_stay))

  turns : Turns next pool last_pool
  turns actions own = inl (record {
    last = last;
    runs = ran;
    leaves = record {
      pending = own;
      leaves = (λ j. let s : State = record { pool = sym (ap (λ (x : Transaction). x.pool) rests) j; actions = with_pending actions next.lane ((pending_once_more v next Commit None tells.keeps.entries tells.call ∙ sym (ap (λ (x : Transaction). x.actions) rests)) j) } in s);
    };
  })

  pub commits_to : CommitsTo next w header pool
  commits_to = record {
    base = c.base;
    copy = c.tx.pool;
    holds =
        two_same (λ (n m : ℕ). HoldsPool (call_words next w) n m header c.base) v.lanes next.lanes v.zones next.zones (sym tells.keeps.lanes) (sym tells.keeps.zones)
        (subst (λ (f : ℕ → ℕ). HoldsPool f v.lanes v.zones header c.base) (sym same_words) c.holds);
    changed = left_changed v next c.base c.tx.pool leaves c.changed;
    unfound = λ o new. c.unfound o (sym (left_new v next o leaves) ∙ new);
    performable = subst (All (IsPerformable next (call_words next w))) (sym same_published) (All-weaker (IsPerformable v w) (IsPerformable next (call_words next w)) can_still (published_in v) c.performable);
    apart = apart_made;
    reads = reads_before;
    turns = subst (λ (actions : List Action). Turns next pool (with_actions actions c.tx.pool)) (sym same_published) turns;
  }

-- so it is committed
pub commit_is_told : (v next : View) → IsUnderWay v 1 stage.Work error.None → Tells v next Commit None → next.log.records ≡ v.log.records → KeepsWords v next → IsCommitted next
commit_is_told v next under_way tells records keeps =
    let leaves : LeavesBlocks v next = leaves_told v next Commit None tells.keeps.entries tells.call refl (known_new v next (keeps_known v next keeps) under_way.has.each) in
    record {
      outside = outside_kept v next tells.keeps records under_way.outside;
      has = told_has v next leaves tells under_way.has;
      comes = commits_to v next under_way tells records keeps;
    }

-- a call that has nothing that it made, and freed nothing that it found, left no change of the pool but what its words hold
unchanged_pool : (v : View) (base pool : PoolView) → IsStrictlyIncreasing (offsets base.objects) → (blocks_in v).made ≡ [] → (blocks_in v).freed ≡ [] → IsChanged v base pool → pool ≡ base
unchanged_pool v base pool rising none_made none_freed changed =
    let same : pool.objects ≡ base.objects = same_objects pool.objects base.objects changed.rising rising (λ off.
    changed.others off
    (ap (list_any (is_at off)) none_made)
    (ap (λ (freed : List ℕ). is_among freed off) none_freed)) in
    changed.fixed ∙ (λ j. let p : PoolView = record base { objects = same j } in p)

-- an action in what the call made is on no object of the words that it stored, where what it made is free by those before
unseen_new : (v : View) (w : ℕ → ℕ) (header : Header) (pool : PoolView) (to : CommitsTo v w header pool) → All (LeavesFree v w) (news_in (blocks_in v)) → (a : Action) → LiesInNew v a → IsUnseen (call_words v w) v.lanes v.zones a
unseen_new v w header pool to free a lies =
    let n : NewObject = lies.new in
    let left : LeavesFree v w n = All-contains (LeavesFree v w) (news_in (blocks_in v)) n free lies.is_new in
    let word : IsWordOf (block_of n) (entry_for a).word = new_word v a lies in
    record {
      in_chunk = left.in_chunks (entry_for a).word word;
      unread = λ read. left.unread (entry_for a).word word (to.reads (entry_for a).word read);
      none_there = λ block there at.
          let stands : IsObjectAt (call_words v w) v.lanes v.zones to.base.objects block = object_is_there (call_words v w) v.lanes v.zones header to.base block to.holds there in
          let found : IsSome (object_at to.base.objects n.off) = subst (λ (o : ℕ). IsSome (object_at to.base.objects o)) (at ∙ sym lies.begins) (subst IsSome (sym stands.found) refl) in
          false≢true (subst IsSome (to.unfound n.off (new_there v n lies.is_new)) found);
      whole = lies.whole;
    }

-- so such a call makes its step once it is committed, with an entry for each action that it published
pub commit_makes_its_step : (v : View) → IsCommitted v → (blocks_in v).made ≡ [] → (blocks_in v).freed ≡ [] → pool_entries v ≡ map entry_for (published_in v) → MakesItsStep v
commit_makes_its_step v committed none_made none_freed entries = record {
  outside = committed.outside;
  makes = λ w header pool holds id before may free.
      let to : CommitsTo v w header pool = committed.comes w header pool holds id before may in
      let performs_all : HoldsPool (performed (published_in v) (call_words v w)) v.lanes v.zones header (with_actions (published_in v) to.base) =
      actions_hold (call_words v w) v.lanes v.zones header to.base (published_in v) to.holds
      (All-weaker (IsPerformable v (call_words v w)) (MayPerform (call_words v w) v.lanes v.zones) (λ a is. ⊎_elim (λ (can : CanPerform (call_words v w) v.lanes v.zones a). inl can) (λ (lies : LiesInNew v a). inr (unseen_new v w header pool to free a lies)) is) (published_in v) to.performable) in
      let same : to.copy ≡ to.base = unchanged_pool v to.base to.copy (objects_rise (call_words v w) v.lanes v.zones header to.base to.holds) none_made none_freed to.changed in
      let last_pool : PoolView = with_actions (published_in v) to.copy in
      record {
        next = last_pool;
        holds =
            subst (λ (f : ℕ → ℕ). HoldsPool f v.lanes v.zones header last_pool) (λ j i. made_final (sym entries j) i (call_words v w i))
            (subst (λ (p : PoolView). HoldsPool (performed (published_in v) (call_words v w)) v.lanes v.zones header (with_actions (published_in v) p)) (sym same) performs_all);
        steps = to.turns;
      };
}

-- and is whole where it told nothing of the heap
pub commit_is_whole : (v next : View) → IsOpen v 1 stage.Work error.None → CommitsCall v next → IsWholeCall next
commit_is_whole v next is_open commits_call = record {
  outside = committed.outside;
  makes = λ w header pool holds id before. its.makes w header pool holds id before (any_may_precede next keeps pool) (subst (λ (b : CallBlocks). All (LeavesFree next w) (news_in b)) (sym keeps.blocks) (All-nil (LeavesFree next w)));
} where
  tells : Tells v next Commit None
  tells = commits_call.tells

  keeps : KeepsBlocks next
  keeps = keeps_on v next Commit None tells.keeps.entries tells.call refl refl (λ root. tt) is_open.keeps

  committed : IsCommitted next
  committed = commit_is_told v next is_open.under_way tells commits_call.records commits_call.words

  entries : pool_entries next ≡ map entry_for (published_in next)
  entries = commits_call.entries ∙ ap (map entry_for) (sym (published_once_more v next Commit None tells.keeps.entries tells.call ∙ append-nil (published_in v)))

  its : MakesItsStep next
  its = commit_makes_its_step next committed (ap (λ (b : CallBlocks). b.made) keeps.blocks) (ap (λ (b : CallBlocks). b.freed) keeps.blocks) entries
