-- A call that has begun with the locks that it wanted is the model's transaction at its first level.
use Rattle.std.proofs.Common.{◌≡◌, ℕ, ◌≤◌, ◌||◌, Bool, true, false, not, eqb, ltb, cond, List, [], ◌∷◌, length, map, get_or, slice_index, Option, None, MatchOption, refl, sym, ◌∙◌, ap, subst, arith}
use Rattle.std.specs.Prelude.{IsSome}
use Rattle.std.specs.List.{All, Contains, IsDistinct, filter, find, list_any}
use Rattle.std.specs.List.Sorted.{IsStrictlyIncreasing}
use Rattle.std.specs.Option.{option_map}
use Rattle.std.proofs.lemmas.Bool.{and_from, and_right, cond-true, eq-eqb, false≢true, le-ltb, or_from}
use Rattle.std.proofs.lemmas.List.{length-map}
use Rattle.std.proofs.lemmas.List.Elements.{All-nil, Contains-get_or}
use Rattle.pm_header.specs.declared.header.Header.{Header}
use Rattle.pm_objects.specs.Pool.{Objects, object_at, offsets}
use Rattle.pm_objects.specs.declared.calls.Operation.{Operation}
use Rattle.pm_objects.specs.declared.calls.Operation.TheVariants.{Begin}
use Rattle.pm_objects.specs.declared.calls.Want.{Want}
use Rattle.pm_objects.specs.declared.history.TxErr.TheVariants as error
use Rattle.pm_objects.specs.declared.pool.Object.{Object}
use Rattle.pm_objects.specs.declared.pool.PoolView.{PoolView}
use Rattle.pm_objects.specs.declared.refusal.Refusal.{Refusal}
use Rattle.pm_objects.specs.declared.refusal.Refusal.TheVariants as refusal
use Rattle.pm_image.specs.Blocks.{blocks}
use Rattle.pm_image.specs.Contents.{size_in}
use Rattle.pm_image.proofs.Members.{first_member, later_member}
use Rattle.solo_model.specs.declared.stage.Stage.TheVariants as stage
use Rattle.solo_model.specs.Actions.{Pending}
use Rattle.solo_model.specs.Bytes.{is_among}
use Rattle.solo_model.specs.Places.{can_begin, has_place}
use Rattle.solo_model.specs.Transaction.{Transaction, locked_all, resting}
use Rattle.solo_model.specs.Checks.{objects_named, passes_locks, wants_no_place, takes_first_lock, is_missing, first_refusal}
use Rattle.solo_model.specs.Answers.{Told as Answered, Answers, IsDone, IsRefused, after}
use Rattle.solo_view.specs.Log.{Recorded}
use Rattle.solo_view.specs.View.{View}
use Rattle.solo_world.specs.Records.{is_recorded}
use Rattle.solo_crash.proofs.SameLocks.{turned_locks}
use Rattle.solo_crash.specs.CallBlocks.{CallBlocks, KeepsBlocks, allocated_told, blocks_told, is_at, is_new_in, no_blocks}
use Rattle.solo_crash.specs.Held.{HoldsPool}
use Rattle.solo_crash.specs.Locks.{AreSameLocks}
use Rattle.solo_crash.specs.OpenCall.{HasMade, IsBefore, IsChanged, IsOpen, IsUnderWay, RunsTo, TracksBlocks, block_at_line, call_words, words_recorded, lock_of, locks_of, IsPerformable}
use Rattle.solo_crash.specs.Pending.{pending_before, told_of}
use Rattle.solo_crash.specs.Operations.{BeginsCall, IsHeld, IsWantHeld}
use Rattle.solo_crash.proofs.ManyObjects.{AreOnce}
use Rattle.solo_crash.proofs.ObjectsOfBlocks.{object_is_there, objects_rise}
use Rattle.solo_crash.proofs.CallBlocks.{first_agrees, none_made}
use Rattle.solo_crash.proofs.Passing.{none_named, unhindered}
use Rattle.solo_crash.proofs.PendingOn.{pending_first, published_first}
use Rattle.solo_crash.proofs.Runs.{runs_first}

-- what all pass is filtered by nothing, and none fails it
pub all_pass : {X : Type 0} (p : X → Bool) (xs : List X) → ((x : X) → Contains xs x → p x ≡ true) → filter p xs ≡ xs
all_pass p [] passes = refl
all_pass p (x ∷ xs) passes =
    cond-true (p x) (x ∷ filter p xs) (filter p xs) (passes x (first_member x xs)) ∙ ap (λ (ys : List _). x ∷ ys) (all_pass p xs (λ y there. passes y (later_member x xs y there)))

pub none_fails : {X : Type 0} (p : X → Bool) (xs : List X) → ((x : X) → Contains xs x → p x ≡ true) → list_any (λ (x : X). not (p x)) xs ≡ false
none_fails p [] passes = refl
none_fails p (x ∷ xs) passes =
    or_from (not (p x)) (list_any (λ y. not (p y)) xs) (ap not (passes x (first_member x xs))) (none_fails p xs (λ y there. passes y (later_member x xs y there)))

-- the checks of a begin where no transaction is open
begin_passes : (pool : PoolView) (actions : Pending) (wants : List Want) → ((want : Want) → Contains wants want → has_place pool want.id ≡ true) → length (locked_all wants []) ≤ 64
    → first_refusal unhindered (resting pool actions) (Begin wants) ≡ None
unfolding first_refusal
begin_passes pool actions wants places few =
    let tx : Transaction = resting pool actions in
    let op : Operation = Begin wants in
    let placed : Want → Bool = λ want. has_place pool want.id in
    let locks : passes_locks tx op ≡ false =
    ap (λ (ws : List Want). ltb 64 (length (locked_all ws []))) (all_pass placed wants places) ∙ le-ltb 64 (length (locked_all wants [])) few in
    let place : wants_no_place tx op ≡ false = none_fails placed wants places in
    let missing : is_missing unhindered tx op ≡ false = and_right (takes_first_lock tx op) false refl in
    (λ j. option_map (λ (check : Refusal × Bool). check.0) (find (λ (check : Refusal × Bool). check.1)
    ((refusal.NotWork, false)
    ∷ (refusal.NoTx, false)
    ∷ (refusal.Spent, false)
    ∷ (refusal.Deep, false)
    ∷ (refusal.LocksFull, locks j)
    ∷ (refusal.NotLocked, false)
    ∷ (refusal.NoObject, place j)
    ∷ (refusal.Busy, false)
    ∷ (refusal.NoObject, missing j)
    ∷ (refusal.NoObject, none_named tx (objects_named tx op) (λ off there. refl) j)
    ∷ (refusal.OutOfRange, false)
    ∷ (refusal.NotAdded, false)
    ∷ (refusal.LogFull, false)
    ∷ [])))

-- what is wanted has a place in the pool that the words hold
pub wanted_has_place : (v : View) (w : ℕ → ℕ) (header : Header) (pool : PoolView) (want : Want) → HoldsPool w v.lanes v.zones header pool → v.pool ≡ header.id → IsWantHeld v want
    → has_place pool want.id ≡ true
wanted_has_place v w header pool want holds id wanted =
    and_from (eqb want.id.pool pool.id) (can_begin pool.lanes pool.zones want.id.off)
    (eq-eqb want.id.pool pool.id (wanted.held.of_pool ∙ id ∙ sym (ap (λ (p : PoolView). p.id) holds.is_pool)))
    (ap (λ (p : PoolView). can_begin p.lanes p.zones want.id.off) holds.is_pool ∙ wanted.place)

-- and an object is there
pub wanted_is_there : (v : View) (w : ℕ → ℕ) (header : Header) (pool : PoolView) (want : Want) → HoldsPool w v.lanes v.zones header pool → IsBefore v w → IsWantHeld v want
    → IsSome (object_at pool.objects want.id.off)
wanted_is_there v w header pool want holds before wanted =
    let held : IsHeld v want.id want.write = wanted.held in
    let object = object_is_there w v.lanes v.zones header pool (block_at_line held.lock.line held.lines) holds (before.found held.lock held.lines held.held held.block) in
    subst (λ (o : Option Object). IsSome o) (sym (ap (object_at pool.objects) held.place ∙ object.found)) refl

begin_answers : (v : View) (wants : List Want) (w : ℕ → ℕ) (header : Header) (pool : PoolView) (actions : Pending) → BeginsCall v wants → HoldsPool w v.lanes v.zones header pool → v.pool ≡ header.id → IsBefore v w
    → Answers (resting pool actions) (Begin wants) None
begin_answers v wants w header pool actions begins holds id before =
    let long : length (locked_all wants []) ≡ length v.locks = sym begins.takes.locks.count ∙ length-map v.locks lock_of in
    let few : length v.locks ≤ 64 = begins.takes.few in
    let passes : first_refusal unhindered (resting pool actions) (Begin wants) ≡ None =
    begin_passes pool actions wants (λ want there. wanted_has_place v w header pool want holds id (begins.takes.wanted want there)) (omega arith) in
    let done : IsDone (resting pool actions) (Begin wants) None = record {
      there = λ k d inside first. wanted_is_there v w header pool (get_or wants k d) holds before (begins.takes.wanted (get_or wants k d) (Contains-get_or wants k d inside));
      stands = tt;
      value = refl;
    } in
    record {
      known = refl;
      seen = unhindered;
      answer = subst (λ (fr : Option Refusal). MatchOption fr (IsDone (resting pool actions) (Begin wants) None) (λ r. IsRefused r None)) (sym passes) done;
    }

-- nothing is recorded, so the words are those from before
pub no_call_words : (v : View) → v.log.records ≡ [] → (w : ℕ → ℕ) → call_words v w ≡ w
no_call_words v none w = (λ j i. at i j) where
  at : (i : ℕ) → call_words v w i ≡ w i
  at i = ap (λ (records : List Recorded). cond (is_recorded records i) (slice_index v.words i) (w i)) none

-- the call made and freed nothing
begin_keeps : (v : View) (wants : List Want) → BeginsCall v wants → KeepsBlocks v
unfolding blocks_told allocated_told
begin_keeps v wants begins = record {
  blocks = ap (blocks_told (pending_before v) no_blocks) begins.call;
  allocated = ap (allocated_told (pending_before v)) begins.call;
  any_root = λ root. first_agrees v (Begin wants) None begins.call root tt;
}

-- a pool is changed by nothing
pub changed_none : (v : View) (pool : PoolView) → IsStrictlyIncreasing (offsets pool.objects) → KeepsBlocks v → IsChanged v pool pool
changed_none v pool rising keeps = record {
  fixed = refl;
  rising = rising;
  new = λ n there. none_made v keeps n there;
  gone = λ off freed. absurd (false≢true (sym (ap (λ (b : CallBlocks). is_among b.freed off) keeps.blocks) ∙ freed));
  others = λ off found kept. refl;
}

pub unfound_none : (v : View) (objects : Objects) → KeepsBlocks v → (off : ℕ) → is_new_in v off ≡ true → object_at objects off ≡ None
unfound_none v objects keeps off new = absurd (false≢true (sym (ap (λ (b : CallBlocks). list_any (is_at off) b.made || list_any (is_at off) b.dropped) keeps.blocks) ∙ new))

none_once : AreOnce []
unfolding IsDistinct
none_once = tt

-- nothing that it made is wanting
pub has_none : (v : View) → KeepsBlocks v → HasMade v
has_none v keeps = record {
  each = λ n there. none_made v keeps n there;
  listed = λ n there. none_made v keeps n there;
  kept = λ n there. none_made v keeps n there;
  once = subst (λ (b : CallBlocks). AreOnce b.made) (sym keeps.blocks) none_once;
  apart_new = λ n m there too differ. none_made v keeps n there;
  apart_gone = λ n m there gone. none_made v keeps n there;
  apart_found = λ n l lines there held found. none_made v keeps n there;
}

pub begin_under_way : (v : View) (wants : List Want) → BeginsCall v wants → IsUnderWay v 1 stage.Work error.None
begin_under_way v wants begins = record {
  in_lanes = begins.in_lanes;
  few = begins.takes.few;
  chunks = begins.takes.chunks;
  unentered = begins.no_entries;
  outside = λ i is. absurd (let clash : false ≡ true = sym (ap (λ (records : List Recorded). is_recorded records i) begins.no_records) ∙ is in cc);
  under = λ i is. absurd (let clash : false ≡ true = sym (ap (λ (records : List Recorded). is_recorded records i) begins.no_records) ∙ is in cc);
  has = has_none v (begin_keeps v wants begins);
  comes = λ w header pool holds id before room.
      let told : Answered = record { operation = Begin wants; reply = None } in
      let tx : Transaction = after told (resting pool (pending_before v)) in
      let same : call_words v w ≡ w = no_call_words v begins.no_records w in
      let keeps : KeepsBlocks v = begin_keeps v wants begins in
      record {
        tx = tx;
        runs = subst (λ (ts : List Answered). RunsTo pool (pending_before v) ts tx) (sym (ap (map told_of) begins.call)) (runs_first told pool (pending_before v) (begin_answers v wants w header pool (pending_before v) begins holds id before));
        base = pool;
        holds = subst (λ (f : ℕ → ℕ). HoldsPool f v.lanes v.zones header pool) (sym same) holds;
        changed = changed_none v pool (objects_rise w v.lanes v.zones header pool holds) keeps;
        unfound = unfound_none v pool.objects keeps;
        tracks = subst (TracksBlocks tx) (sym keeps.blocks) (record { made = refl; dropped = refl; freed = refl });
        before = refl;
        locks =
            subst (λ (ws : List Want). AreSameLocks (locked_all ws []) (locks_of v)) (sym (all_pass (λ (want : Want). true) wants (λ want there. refl)))
            (turned_locks (locks_of v) (locked_all wants []) begins.takes.locks);
        recorded = ap words_recorded (sym begins.no_records);
        records = ap (λ (records : List Recorded). length records) (sym begins.no_records);
        levels = refl;
        stands = refl;
        fails = refl;
        actions = sym (pending_first v (record { operation = Begin wants; reply = None }) begins.call);
        moved = sym (published_first v (record { operation = Begin wants; reply = None }) begins.call);
        performable = subst (All (IsPerformable v w)) (sym (published_first v (record { operation = Begin wants; reply = None }) begins.call)) (All-nil (IsPerformable v w));
        blocks_stay = ap (λ (f : ℕ → ℕ). blocks f v.lanes v.zones) same;
        sizes_stay = λ block there. ap (λ (f : ℕ → ℕ). size_in f block) same;
      };
}

pub begin_opens : (v : View) (wants : List Want) → BeginsCall v wants → IsOpen v 1 stage.Work error.None
begin_opens v wants begins = record { under_way = begin_under_way v wants begins; keeps = begin_keeps v wants begins }
