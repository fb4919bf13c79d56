-- A call goes on by an operation that is told, if the model's transaction goes on so and the words made so far are those of its pool.
use Rattle.std.proofs.Common.{◌≡◌, ℕ, ◌<◌, ◌≤◌, ◌/◌, ◌||◌, true, false, List, [], ◌∷◌, ◌++◌, length, map, Option, None, MatchOption, sym, ◌∙◌, ap, subst, arith}
use Rattle.std.specs.Prelude.{IsTrue, IsSome, nat_eq}
use Rattle.std.specs.List.{All, Contains, IsDistinct, list_any}
use Rattle.std.proofs.lemmas.Bool.{false≢true}
use Rattle.std.proofs.lemmas.List.{map-append}
use Rattle.std.proofs.lemmas.List.Elements.{All-append, All-nil, Contains-append_left}
use Rattle.pm_header.specs.declared.header.Header.{Header}
use Rattle.pm_objects.specs.Pool.{object_at}
use Rattle.pm_objects.specs.declared.calls.Operation.{Operation}
use Rattle.pm_objects.specs.declared.calls.Operation.TheVariants.{Publish}
use Rattle.pm_objects.specs.declared.calls.Want.{Want}
use Rattle.pm_objects.specs.declared.history.TxErr.TheVariants as error
use Rattle.pm_objects.specs.declared.history.Value.{Value}
use Rattle.pm_objects.specs.declared.pool.PoolView.{PoolView}
use Rattle.pm_objects.specs.declared.refusal.Refusal.{Refusal}
use Rattle.pm_image.specs.declared.block.Block.{Block}
use Rattle.pm_image.specs.Blocks.{blocks}
use Rattle.pm_image.specs.Contents.{size_in}
use Rattle.solo_model.specs.declared.stage.Stage.TheVariants as stage
use Rattle.solo_model.specs.Actions.{Action, Pending}
use Rattle.solo_model.specs.Bytes.{is_among}
use Rattle.solo_model.specs.Transaction.{Transaction, holds_object, is_working}
use Rattle.solo_model.specs.Checks.{first_refusal, is_publish}
use Rattle.solo_model.specs.Answers.{Told as Answered, Answers, IsDone, IsRefused, StandsOnceDone, after_reply, is_known, value_of}
use Rattle.solo_model.proofs.Alike.{value_known}
use Rattle.solo_view.specs.Area.{is_in_area}
use Rattle.solo_view.specs.Blocks.{is_chunk}
use Rattle.solo_view.specs.View.{View, Lock}
use Rattle.solo_world.specs.Records.{is_recorded}
use Rattle.solo_crash.specs.CallBlocks.{CallBlocks, IsMadeIn, MayPrecede, NewObject, allocated_by, allocated_in, blocks_behind, blocks_in, is_at, is_new_in}
use Rattle.solo_crash.specs.Locks.{AreSameLocks}
use Rattle.solo_crash.specs.Held.{HoldsPool}
use Rattle.solo_crash.specs.OpenCall.{IsBefore, call_words, ComesTo, IsChanged, HasMade, IsPerformable, IsUnderWay, LieApart, RecordsUnder, RunsTo, TracksBlocks, locks_of, place_and_size, words_recorded}
use Rattle.solo_crash.specs.Operations.{KeepsKnown, KeepsLane, Tells}
use Rattle.solo_crash.proofs.Passing.{unhindered, wants_none, AsksNoLock, WantsNone}
use Rattle.solo_crash.specs.Pending.{pending_before, pending_behind, pending_in, published_by, published_in, told_in, told_of}
use Rattle.solo_crash.proofs.NewStay.{news_in, news_stay, performable_still}
use Rattle.solo_crash.proofs.PendingOn.{after_pending, pending_once_more, published_once_more, same_before}
use Rattle.solo_crash.proofs.Runs.{runs_once_more}
use Rattle.solo_crash.proofs.CallBlocks.{SameNew, allocated_once_more, blocks_once_more, changed_stays, made_stays, may_before}

-- what is reserved has to stand for a publish alone
stands_else : (tx : Transaction) (op : Operation) → is_publish op ≡ false → StandsOnceDone tx op
stands_else tx Publish other = absurd (false≢true (sym other))
stands_else tx op other = tt

-- an operation that asks for no lock, makes no object, and is not refused, answers its value
pub answers_value : (tx : Transaction) (op : Operation) (reply : Option Value) → IsTrue (is_known op) → WantsNone op → StandsOnceDone tx op → first_refusal unhindered tx op ≡ None → reply ≡ value_of tx op
    → Answers tx op reply
answers_value tx op reply known asks stands none value =
    let done : IsDone tx op reply = record {
      there =
          subst (λ (wants : List Want). All (λ (want : Want). holds_object tx want.id.off false ≡ false → IsSome (object_at tx.pool.objects want.id.off)) wants) (sym asks.no_wants)
          (All-nil (λ (want : Want). holds_object tx want.id.off false ≡ false → IsSome (object_at tx.pool.objects want.id.off)));
      stands = stands;
      value = value_known tx op reply asks.no_alloc value;
    } in
    record {
      known = known;
      seen = unhindered;
      answer = subst (λ (fr : Option Refusal). MatchOption fr (IsDone tx op reply) (λ r. IsRefused r reply)) (sym none) done;
    }

pub answers_done : (tx : Transaction) (op : Operation) (reply : Option Value) → IsTrue (is_known op) → AsksNoLock op → first_refusal unhindered tx op ≡ None → reply ≡ value_of tx op
    → Answers tx op reply
answers_done tx op reply known asks = answers_value tx op reply known (wants_none op asks) (stands_else tx op asks.no_publish)

pub two_same : (P : ℕ → ℕ → Type 0) (a b c d : ℕ) → a ≡ b → c ≡ d → P a c → P b d
two_same P a b c d e f holds = subst (λ (n : ℕ). P n d) e (subst (P a) f holds)

-- the operations as the model has them, with one more
pub told_once_more : (v next : View) (op : Operation) (reply : Option Value) → next.call ≡ v.call ++ record { operation = op; reply = reply } ∷ []
    → told_in next ≡ told_in v ++ record { operation = op; reply = reply } ∷ []
told_once_more v next op reply call = ap (map told_of) call ∙ map-append told_of v.call (record { operation = op; reply = reply } ∷ [])

-- what ran to a transaction, for a view that has these operations and the same calls before
pub runs_told : {told : List Answered} (v next : View) (pool : PoolView) (tx : Transaction) → next.entries ≡ v.entries → told_in next ≡ told → RunsTo pool (pending_before v) told tx
    → RunsTo pool (pending_before next) (told_in next) tx
runs_told {told = before} v next pool tx entries told runs =
    subst (λ (ts : List Answered). RunsTo pool (pending_before next) ts tx) (sym told)
    (subst (λ (p : Pending). RunsTo pool p before tx) (sym (same_before v next entries)) runs)

-- the model's transaction goes on by the operation, with the words that the lane made
pub record Continues (v next : View) (w : ℕ → ℕ) (header : Header) (op : Operation) (reply : Option Value) (to : ℕ) (tx : Transaction) : Type 0 where
  pub answers : Answers tx op reply
  pub base : PoolView
  pub holds : HoldsPool (call_words next w) v.lanes v.zones header base
  pub changed : IsChanged next base (after_reply op reply tx).pool
  pub unfound : (off : ℕ) → is_new_in next off ≡ true → object_at base.objects off ≡ None
  pub tracks : TracksBlocks (after_reply op reply tx) (blocks_in next)
  pub before : (after_reply op reply tx).before ≡ tx.before
  pub locks : AreSameLocks (after_reply op reply tx).locks (locks_of next)
  pub recorded : (after_reply op reply tx).recorded ≡ words_recorded next.log.records
  pub records : (after_reply op reply tx).records ≡ length next.log.records
  pub levels : (after_reply op reply tx).level ≡ to
  pub stands : (after_reply op reply tx).stage ≡ tx.stage
  pub fails : (after_reply op reply tx).error ≡ tx.error
  pub moved : (after_reply op reply tx).moved ≡ tx.moved ++ published_by op reply tx.actions
  pub performable : All (IsPerformable v w) (published_by op reply tx.actions)
  pub blocks_stay : blocks (call_words next w) v.lanes v.zones ≡ blocks (call_words v w) v.lanes v.zones
  pub sizes_stay : (block : Block) → Contains (blocks w v.lanes v.zones) block → size_in (call_words next w) block ≡ size_in (call_words v w) block

-- the call's blocks stay, and the words of what it made
pub record LeavesBlocks (v next : View) : Type 0 where
  pub blocks : blocks_in next ≡ blocks_in v
  pub same : (n : NewObject) → Contains (blocks_in v).made n → SameNew v next n

pub left_changed : (v next : View) (base pool : PoolView) → LeavesBlocks v next → IsChanged v base pool → IsChanged next base pool
left_changed v next base pool leaves = changed_stays v next base pool leaves.blocks leaves.same

pub left_new : (v next : View) (off : ℕ) → LeavesBlocks v next → is_new_in next off ≡ is_new_in v off
left_new v next off leaves = ap (λ (b : CallBlocks). list_any (is_at off) b.made || list_any (is_at off) b.dropped) leaves.blocks

pub left_tracks : (v next : View) (tx : Transaction) → LeavesBlocks v next → TracksBlocks tx (blocks_in v) → TracksBlocks tx (blocks_in next)
left_tracks v next tx leaves = subst (TracksBlocks tx) (sym leaves.blocks)

-- another transaction with the same lists tracks the same
pub tracks_more : (tx other : Transaction) {b : CallBlocks} → other.made ≡ tx.made → other.dropped ≡ tx.dropped → other.freed ≡ tx.freed → TracksBlocks tx b → TracksBlocks other b
tracks_more tx other made dropped freed tracks = record { made = made ∙ tracks.made; dropped = ap (map place_and_size) dropped ∙ tracks.dropped; freed = freed ∙ tracks.freed }

pub left_apart : (v next : View) → LeavesBlocks v next → next.locks ≡ v.locks → LieApart v → LieApart next
left_apart v next leaves locks apart n l lines there held found =
    apart n l lines (subst (λ (b : CallBlocks). Contains b.made n) leaves.blocks there) (subst (λ (ls : List Lock). Contains ls l) locks held) found

pub left_has : (v next : View) → LeavesBlocks v next → KeepsLane v next → ((n : NewObject) → Contains (allocated_in v) n → Contains (allocated_in next) n) → LieApart next → HasMade v → HasMade next
left_has v next leaves lane listed apart has = record {
  each = λ n there. made_stays v next n lane.lane lane.known (leaves.same n (before n there)) (has.each n (before n there));
  listed = λ n there. listed n (has.listed n (before n there));
  kept = λ n there. ap (λ (b : CallBlocks). is_among b.freed n.off || list_any (is_at n.off) b.dropped) leaves.blocks ∙ has.kept n (before n there);
  once = subst (λ (b : CallBlocks). IsDistinct nat_eq (map (λ (n : NewObject). n.off) b.made)) (sym leaves.blocks) has.once;
  apart_new = λ n m there too differ. has.apart_new n m (before n there) (before m too) differ;
  apart_gone = λ n m there gone. has.apart_gone n m (before n there) (subst (λ (b : CallBlocks). Contains b.dropped m) leaves.blocks gone);
  apart_found = apart;
} where
  before : (n : NewObject) → Contains (blocks_in next).made n → Contains (blocks_in v).made n
  before n there = subst (λ (b : CallBlocks). Contains b.made n) leaves.blocks there

-- what was allocated is, whatever is told
pub told_listed : (v next : View) (op : Operation) (reply : Option Value) → next.entries ≡ v.entries → next.call ≡ v.call ++ record { operation = op; reply = reply } ∷ [] → (n : NewObject) → Contains (allocated_in v) n → Contains (allocated_in next) n
told_listed v next op reply entries call n there =
    subst (λ (ns : List NewObject). Contains ns n) (sym (allocated_once_more v next op reply entries call)) (Contains-append_left (allocated_in v) (allocated_by op reply (pending_in v)) n there)

pub told_has : {op : Operation} {reply : Option Value} (v next : View) → LeavesBlocks v next → Tells v next op reply → HasMade v → HasMade next
told_has {op = op} {reply = reply} v next leaves tells has = left_has v next leaves tells.keeps (told_listed v next op reply tells.keeps.entries tells.call) (left_apart v next leaves tells.locks has.apart_found) has

-- where no word changes but in the lane's area, or none that it knows, those of what it made stay
pub known_new : (v next : View) → KeepsKnown v next → ((n : NewObject) → Contains (blocks_in v).made n → IsMadeIn v n) → (n : NewObject) → Contains (blocks_in v).made n → SameNew v next n
known_new v next keeps makes n there i reads = let is : IsMadeIn v n = makes n there in keeps.known i (is.outside i reads) (is.known i reads)

pub leaves_told : (v next : View) (op : Operation) (reply : Option Value) → next.entries ≡ v.entries → next.call ≡ v.call ++ record { operation = op; reply = reply } ∷ [] → blocks_behind op reply (pending_in v) (blocks_in v) ≡ blocks_in v
    → ((n : NewObject) → Contains (blocks_in v).made n → SameNew v next n) → LeavesBlocks v next
leaves_told v next op reply entries call none same = record { blocks = blocks_once_more v next op reply entries call ∙ none; same = same }

-- what was published before the operation, and by it, lies in objects of the pool or in what the call made
performed_on : {level : ℕ} {header : Header} {pool : PoolView} (v next : View) (op : Operation) (reply : Option Value) (w : ℕ → ℕ) → KeepsLane v next
    → next.call ≡ v.call ++ record { operation = op; reply = reply } ∷ [] → (c : ComesTo v w header pool level stage.Work error.None) → (after_reply op reply c.tx).stage ≡ c.tx.stage
    → All (IsPerformable v w) (published_by op reply c.tx.actions) → All (IsPerformable next w) (published_in next)
performed_on v next op reply w lane call c works more =
    let now : List Action = published_in v ++ published_by op reply (pending_in v) in
    subst (All (IsPerformable next w)) (sym (published_once_more v next op reply lane.entries call))
    (performable_still v next w now lane.lanes lane.zones
    (λ n there. subst (λ (b : CallBlocks). Contains (news_in b) n) (sym (blocks_once_more v next op reply lane.entries call)) (news_stay op reply (pending_in v) (blocks_in v) c.tx n (ap is_working (works ∙ c.stands)) there))
    (All-append (IsPerformable v w) (published_in v) (published_by op reply (pending_in v)) c.performable
    (subst (λ (p : Pending). All (IsPerformable v w) (published_by op reply p)) c.actions more)))

pub next_comes : (v next : View) (level to : ℕ) (op : Operation) (reply : Option Value) (w : ℕ → ℕ) (header : Header) (pool : PoolView) → KeepsLane v next
    → next.call ≡ v.call ++ record { operation = op; reply = reply } ∷ [] → (c : ComesTo v w header pool level stage.Work error.None) → Continues v next w header op reply to c.tx → ComesTo next w header pool to stage.Work error.None
next_comes v next level to op reply w header pool lane call c on =
    let tx : Transaction = after_reply op reply c.tx in
    record {
      tx = tx;
      runs =
          runs_told v next pool tx lane.entries (told_once_more v next op reply call)
          (runs_once_more (told_in v) (record { operation = op; reply = reply }) pool (pending_before v) c.tx c.runs (ap is_working c.stands) on.answers);
      base = on.base;
      holds = two_same (λ (lanes zones : ℕ). HoldsPool (call_words next w) lanes zones header on.base) v.lanes next.lanes v.zones next.zones (sym lane.lanes) (sym lane.zones) on.holds;
      changed = on.changed;
      unfound = on.unfound;
      tracks = on.tracks;
      before = on.before ∙ c.before;
      locks = on.locks;
      recorded = on.recorded;
      records = on.records;
      levels = on.levels;
      stands = on.stands ∙ c.stands;
      fails = on.fails ∙ c.fails;
      actions = after_pending op reply c.tx ∙ ap (pending_behind op reply) c.actions ∙ sym (pending_once_more v next op reply lane.entries call);
      moved = on.moved ∙ (λ j. c.moved j ++ published_by op reply (c.actions j)) ∙ sym (published_once_more v next op reply lane.entries call);
      performable = performed_on v next op reply w lane call c on.stands on.performable;
      blocks_stay =
          two_same (λ (lanes zones : ℕ). blocks (call_words next w) lanes zones ≡ blocks w lanes zones) v.lanes next.lanes v.zones next.zones (sym lane.lanes) (sym lane.zones)
          (on.blocks_stay ∙ c.blocks_stay);
      sizes_stay =
          two_same (λ (lanes zones : ℕ). (block : Block) → Contains (blocks w lanes zones) block → size_in (call_words next w) block ≡ size_in w block) v.lanes next.lanes v.zones next.zones
          (sym lane.lanes) (sym lane.zones) (λ block there. on.sizes_stay block there ∙ c.sizes_stay block there);
    }

-- what the words before the call are, for the view before the operation
pub record GoesBack (v next : View) : Type 0 where
  pub outside : (i : ℕ) → is_recorded next.log.records i ≡ true → is_in_area v.lane i ≡ false
  pub under : RecordsUnder next
  pub before : (w : ℕ → ℕ) (header : Header) (pool : PoolView) → HoldsPool w v.lanes v.zones header pool → MayPrecede pool next → IsBefore next w → IsBefore v w
  pub entries : next.log.entries ≡ v.log.entries

pub still_under_way : (v next : View) (level to : ℕ) (op : Operation) (reply : Option Value) → IsUnderWay v level stage.Work error.None → Tells v next op reply → GoesBack v next
    → HasMade next
    → ((w : ℕ → ℕ) (header : Header) (pool : PoolView) → HoldsPool w v.lanes v.zones header pool → v.pool ≡ header.id → IsBefore v w → IsBefore next w → MayPrecede pool next → (c : ComesTo v w header pool level stage.Work error.None)
    → Continues v next w header op reply to c.tx)
    → IsUnderWay next to stage.Work error.None
still_under_way v next level to op reply under_way tells back has continues =
    let lane : next.lane ≡ v.lane = tells.keeps.lane in
    let lanes : next.lanes ≡ v.lanes = tells.keeps.lanes in
    let inside : v.lane < v.lanes = under_way.in_lanes in
    record {
      in_lanes = omega arith;
      few = subst (λ (locks : List Lock). length locks ≤ 64) (sym tells.locks) under_way.few;
      chunks = λ l lines held found. ap (λ (n : ℕ). is_chunk n (l.line / 64)) lanes ∙ under_way.chunks l lines (subst (λ (locks : List Lock). Contains locks l) tells.locks held) found;
      outside = λ i is. ap (λ (n : ℕ). is_in_area n i) lane ∙ back.outside i is;
      under = back.under;
      unentered = back.entries ∙ under_way.unentered;
      has = has;
      comes = λ w header pool holds id before room.
          let old_id : v.pool ≡ header.id = sym tells.keeps.pool ∙ id in
          let old_holds : HoldsPool w v.lanes v.zones header pool = two_same (λ (n m : ℕ). HoldsPool w n m header pool) next.lanes v.lanes next.zones v.zones tells.keeps.lanes tells.keeps.zones holds in
          let old_before : IsBefore v w = back.before w header pool old_holds room before in
          let old_may : MayPrecede pool v = may_before v next op reply tells.keeps.entries tells.call pool room in
          let c : ComesTo v w header pool level stage.Work error.None = under_way.comes w header pool old_holds old_id old_before old_may in
          next_comes v next level to op reply w header pool tells.keeps tells.call c (continues w header pool old_holds old_id old_before before room c);
    }
