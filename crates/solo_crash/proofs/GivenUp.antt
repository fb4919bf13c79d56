-- A refused operation, and an abort, give up the call: the model's pool is as before it, and so are the words.
use Rattle.std.proofs.Common.{◌++◌, ◌≡◌, ◌≢◌, ⊎_elim, ℕ, ◌+◌, ◌*◌, ◌<◌, ◌≤◌, ◌&&◌, ◌||◌, Bool, cond, inl, true, false, not, eqb, leb, ltb, List, [], ◌∷◌, length, slice_get, slice_index, Option, Some, None, MatchOption, refl, sym, ◌∙◌, ap, subst, arith}
use Rattle.std.specs.List.{Contains, list_all, list_any}
use Rattle.std.specs.Option.{option_map_or}
use Rattle.std.proofs.lemmas.Bool.{and_from, and_left, and_right, cases_eq, false≢true, le-leb, le-ltb, lt-ltb, ne_eqb, or_from}
use Rattle.pm_header.specs.declared.header.Header.{Header}
use Rattle.pm_objects.specs.declared.calls.Operation.{Operation}
use Rattle.pm_objects.specs.declared.calls.Operation.TheVariants.{Abort, AddRange, Read, Write}
use Rattle.pm_objects.specs.declared.history.TxErr.{TxErr}
use Rattle.pm_objects.specs.declared.history.TxErr.TheVariants as error
use Rattle.pm_objects.specs.declared.history.Value.{Value}
use Rattle.pm_objects.specs.declared.history.Value.TheVariants.{Refused}
use Rattle.pm_objects.specs.declared.ids.Oid.{Oid}
use Rattle.pm_objects.specs.declared.pool.PoolView.{PoolView}
use Rattle.pm_objects.specs.declared.refusal.Refusal.{Refusal}
use Rattle.pm_objects.specs.declared.refusal.Refusal.TheVariants as refusal
use Rattle.pm_image.proofs.Members.{member_cases, no_member}
use Rattle.solo_model.specs.declared.stage.Stage.TheVariants as stage
use Rattle.solo_model.specs.Transaction.{Transaction, aborted, holds_object, is_gone, is_locked, is_new, is_working, resting}
use Rattle.solo_model.specs.Bytes.{bytes_of, is_among, new_words, records_of}
use Rattle.solo_model.specs.Actions.{Pending, passes_object}
use Rattle.solo_model.specs.Checks.{Range, range_of, is_publish, is_unlocked_action, frees_unlocked, is_record, is_write, needs_write, is_lock_missing, is_not_held, is_not_locked, names_gone, objects_named, passes_end_of, passes_end, publishes_past_end, has_unrecorded, is_not_added, overfills, passes_log, first_refusal, words_in}
use Rattle.solo_model.specs.Answers.{Told as Answered, Answers, IsDone, IsRefused, after_reply, changes_nothing, error_for, is_known}
use Rattle.solo_model.specs.Step.{RunsFrom, State, with_pending}
use Rattle.solo_model.proofs.Alike.{after_refused}
use Rattle.solo_model.proofs.Asked.{frees_none_unlocked}
use Rattle.solo_view.specs.Area.{is_in_area}
use Rattle.solo_view.specs.Log.{Recorded}
use Rattle.solo_view.specs.View.{View}
use Rattle.solo_world.specs.Records.{covers, is_recorded}
use Rattle.solo_world.proofs.CrashLogs.{recorded_from}
use Rattle.solo_crash.specs.CallBlocks.{IsOldIn, KeepsBlocks, MayPrecede, TellsOfRoot, allocated_by, blocks_in, is_freed_in, is_new_in}
use Rattle.solo_crash.specs.Locks.{AreSameLocks}
use Rattle.solo_crash.specs.Held.{HoldsPool}
use Rattle.solo_crash.specs.OpenCall.{IsBefore, ComesTo, ComesToNothing, IsGivenUp, IsOpen, IsUnderWay, RecordsUnder, RunsTo, TracksBlocks, Turns, WasAborted, locks_of, words_recorded}
use Rattle.solo_crash.specs.Pending.{pending_before, pending_behind, pending_in, told_in}
use Rattle.solo_crash.specs.Operations.{HasRange, KeepsFound, IsHeld, IsNotAdded, IsNotHeld, IsReason, Overfills, Refuses, KeepsLane, TakesBack, Tells}
use Rattle.solo_crash.proofs.CallWords.{call_works, held_is_locked, object_under, one_is_kept, same_pool}
use Rattle.solo_crash.proofs.CallBlocks.{any_may_still, may_before, old_of_none, tracks_new}
use Rattle.solo_crash.proofs.Continued.{answers_done, runs_told, told_once_more, two_same}
use Rattle.solo_crash.proofs.KeptWords.{found_back, same_found, under_further, under_kept}
use Rattle.solo_crash.proofs.Passing.{fails_added, fails_end, fails_lock, fails_room, none_gone_named, not_late, passes_all, puts_none, unhindered, wants_none, AsksNoLock, Works}
use Rattle.solo_crash.proofs.RecordedWords.{among_recorded}
use Rattle.solo_crash.proofs.Runs.{runs_once_more, runs_to_end}
use Rattle.solo_crash.proofs.PendingOn.{pending_once_more}

-- what was before the call, for the view before it was taken back
pub taken_back : (v next : View) → KeepsLane v next → KeepsFound v next → TakesBack v next → ((i : ℕ) → is_recorded v.log.records i ≡ true → is_in_area v.lane i ≡ false)
    → RecordsUnder v → (w : ℕ → ℕ) → IsBefore next w → IsBefore v w
taken_back v next lane finds back outside under w before =
    record {
      recorded = λ slot r i at inside.
          let covered : covers r (r.word + i) ≡ true = and_from (leb r.word (r.word + i)) (ltb (r.word + i) (r.word + length r.old)) (le-leb r.word (r.word + i) (omega arith)) (lt-ltb (r.word + i) (r.word + length r.old) (omega arith)) in
          let is : is_recorded v.log.records (r.word + i) ≡ true = recorded_from v (r.word + i) slot r at covered in
          ⊎_elim
          (λ (none : next.log.records ≡ []).
          before.known (r.word + i) (back.known slot r i at inside) (ap (λ (n : ℕ). is_in_area n (r.word + i)) lane.lane ∙ outside (r.word + i) is)
          (ap (λ (records : List Recorded). is_recorded records (r.word + i)) none)
          (under_further v next finds (r.word + i) (under (r.word + i) is))
          ∙ back.restored slot r i at inside)
          (λ (same : next.log.records ≡ v.log.records). before.recorded slot r i (ap (λ (records : List Recorded). slice_get records slot) same ∙ at) inside)
          back.records;
      known = λ i known out none of_found.
          before.known i (lane.known i known) (ap (λ (n : ℕ). is_in_area n i) lane.lane ∙ out)
          (⊎_elim
          (λ (nothing : next.log.records ≡ []). ap (λ (records : List Recorded). is_recorded records i) nothing)
          (λ (same : next.log.records ≡ v.log.records). ap (λ (records : List Recorded). is_recorded records i) same ∙ none)
          back.records) (under_further v next finds i of_found)
          ∙ back.others i out none;
      found = found_back v next lane finds w before;
    }

-- and recorded words of found blocks alone
pub under_taken_back : (v next : View) → KeepsFound v next → TakesBack v next → RecordsUnder v → RecordsUnder next
under_taken_back v next finds back under i is = ⊎_elim
    (λ (none : next.log.records ≡ []). absurd (false≢true (sym (ap (λ (records : List Recorded). is_recorded records i) none) ∙ is)))
    (λ (same : next.log.records ≡ v.log.records). under_kept v next finds same under i is)
    back.records

-- it recorded no word of its own area
pub outside_taken_back : (v next : View) → KeepsLane v next → TakesBack v next → ((i : ℕ) → is_recorded v.log.records i ≡ true → is_in_area v.lane i ≡ false)
    → (i : ℕ) → is_recorded next.log.records i ≡ true → is_in_area next.lane i ≡ false
outside_taken_back v next lane back outside i is = ⊎_elim
    (λ (none : next.log.records ≡ []). absurd (false≢true (sym (ap (λ (records : List Recorded). is_recorded records i) none) ∙ is)))
    (λ (same : next.log.records ≡ v.log.records). ap (λ (n : ℕ). is_in_area n i) lane.lane ∙ outside i (sym (ap (λ (records : List Recorded). is_recorded records i) same) ∙ is))
    back.records

-- the operations on ranges ask for no lock, and are known
pub ranged_asks : (op : Operation) (range : Range) → range_of op ≡ Some range → AsksNoLock op
ranged_asks (AddRange id off len) range is = record { no_wants = refl; no_begin = refl; no_alloc = refl; no_free = refl; no_put = refl; no_publish = refl; aligned = refl; no_more = λ tx. refl; no_action = refl }
ranged_asks (Write id off bytes) range is = record { no_wants = refl; no_begin = refl; no_alloc = refl; no_free = refl; no_put = refl; no_publish = refl; aligned = refl; no_more = λ tx. refl; no_action = refl }
ranged_asks (Read id off len) range is = record { no_wants = refl; no_begin = refl; no_alloc = refl; no_free = refl; no_put = refl; no_publish = refl; aligned = refl; no_more = λ tx. refl; no_action = refl }
ranged_asks op range is = absurd cc

pub ranged_known : (op : Operation) (range : Range) → range_of op ≡ Some range → is_known op ≡ true
ranged_known (AddRange id off len) range is = refl
ranged_known (Write id off bytes) range is = refl
ranged_known (Read id off len) range is = refl
ranged_known op range is = absurd cc

ranged_publishes_none : (op : Operation) (range : Range) → range_of op ≡ Some range → is_publish op ≡ false
ranged_publishes_none (AddRange id off len) range is = refl
ranged_publishes_none (Write id off bytes) range is = refl
ranged_publishes_none (Read id off len) range is = refl
ranged_publishes_none op range is = absurd cc

record_is_no_write : (op : Operation) → is_record op ≡ true → is_write op ≡ false
record_is_no_write (Write id off bytes) is = absurd (false≢true is)
record_is_no_write op is = refl

-- the checks of an operation on a range
pub lock_check : (tx : Transaction) (op : Operation) (range : Range) → range_of op ≡ Some range → is_not_locked tx op ≡ is_lock_missing tx (needs_write op) range
lock_check tx op range is = ap (λ (b : Bool). (b && (list_any (is_not_held tx true) tx.actions.frees || list_any (is_unlocked_action tx) tx.actions.sets)) || frees_unlocked tx op || option_map_or (is_lock_missing tx (needs_write op)) (range_of op) false) (ranged_publishes_none op range is)
    ∙ ap (λ (b : Bool). b || option_map_or (is_lock_missing tx (needs_write op)) (range_of op) false) (frees_none_unlocked tx op (ranged_asks op range is).no_free)
    ∙ ap (λ (r : Option Range). option_map_or (is_lock_missing tx (needs_write op)) r false) is

pub end_check : (tx : Transaction) (op : Operation) (range : Range) → range_of op ≡ Some range → passes_end tx op ≡ passes_end_of tx range
end_check tx op range is = ap (λ (b : Bool). b || (publishes_past_end tx op || option_map_or (passes_end_of tx) (range_of op) false)) (puts_none tx.actions op (ranged_asks op range is).no_put)
    ∙ ap (λ (b : Bool). (b && list_any (passes_object tx.pool.objects) tx.actions.sets) || option_map_or (passes_end_of tx) (range_of op) false) (ranged_publishes_none op range is)
    ∙ ap (λ (r : Option Range). option_map_or (passes_end_of tx) r false) is

added_check : (tx : Transaction) (op : Operation) (range : Range) → range_of op ≡ Some range → is_not_added tx op ≡ (is_write op && has_unrecorded tx range)
added_check tx op range is = ap (λ (r : Option Range). is_write op && option_map_or (has_unrecorded tx) r false) is

room_check : (tx : Transaction) (op : Operation) (range : Range) → range_of op ≡ Some range → passes_log tx op ≡ (is_record op && overfills tx range)
room_check tx op range is = ap (λ (r : Option Range). is_record op && option_map_or (overfills tx) r false) is

-- a word that is not among those recorded
not_all : (words xs : List ℕ) (x : ℕ) → Contains xs x → is_among words x ≡ false → list_all (is_among words) xs ≡ false
not_all words [] x there none = absurd (no_member x there)
not_all words (y ∷ xs) x there none = ⊎_elim
    (λ (here : y ≡ x). and_left (is_among words y) (list_all (is_among words) xs) (ap (is_among words) here ∙ none))
    (λ (later : Contains xs x). and_right (is_among words y) (list_all (is_among words) xs) (not_all words xs x later none))
    (member_cases y xs x there)

-- the object that is named is the range's
pub ranged_named : (tx : Transaction) (op : Operation) (range : Range) → range_of op ≡ Some range → objects_named tx op ≡ range.id.off ∷ []
ranged_named tx (AddRange id off len) range is = ap (λ (r : Option Range). option_map_or (λ (x : Range). x.id.off ∷ []) r []) is
ranged_named tx (Write id off bytes) range is = ap (λ (r : Option Range). option_map_or (λ (x : Range). x.id.off ∷ []) r []) is
ranged_named tx (Read id off len) range is = ap (λ (r : Option Range). option_map_or (λ (x : Range). x.id.off ∷ []) r []) is
ranged_named tx op range is = absurd cc

-- the transaction of the open call, and what it finds of a range of an object of its pool that the call did not make
record Asked (v : View) (w : ℕ → ℕ) (header : Header) (op : Operation) (range : Range) (tx : Transaction) : Type 0 where
  works : Works tx
  is_range : range_of op ≡ Some range
  of_pool : tx.pool.id ≡ v.pool
  locks : AreSameLocks tx.locks (locks_of v)
  recorded : tx.recorded ≡ words_recorded v.log.records
  records : tx.records ≡ length v.log.records
  tracks : TracksBlocks tx (blocks_in v)
  found : range.id.pool ≡ v.pool → is_new_in v range.id.off ≡ false
  long : (write : Bool) → (held : IsHeld v range.id write) → Contains v.known (8 * held.lock.line + 1) → is_freed_in v range.id.off ≡ false → length (bytes_of tx.pool.objects range.id.off) ≡ slice_index v.words (8 * held.lock.line + 1)

asked_lock : (v : View) (w : ℕ → ℕ) (header : Header) (op : Operation) (range : Range) (tx : Transaction) → Asked v w header op range tx → IsHeld v range.id (needs_write op) → is_not_locked tx op ≡ false
asked_lock v w header op range tx asked held = lock_check tx op range asked.is_range ∙ held_is_locked v range.id (needs_write op) tx held asked.locks asked.of_pool

asked_kept : (v : View) (w : ℕ → ℕ) (header : Header) (op : Operation) (range : Range) (tx : Transaction) → Asked v w header op range tx → range.id.pool ≡ v.pool → is_freed_in v range.id.off ≡ false
    → names_gone tx op ≡ false
asked_kept v w header op range tx asked same kept =
    none_gone_named tx op (not_late tx.actions op (ranged_asks op range asked.is_range).no_publish) (ap (list_any (is_gone tx)) (ranged_named tx op range asked.is_range) ∙ one_is_kept v tx asked.tracks range.id.off (record { found = asked.found same; kept = kept }))

asked_end : (v : View) (w : ℕ → ℕ) (header : Header) (op : Operation) (range : Range) (tx : Transaction) → Asked v w header op range tx → HasRange v range.id range.off range.len (needs_write op)
    → is_freed_in v range.id.off ≡ false → passes_end tx op ≡ false
asked_end v w header op range tx asked has kept =
    let long = asked.long (needs_write op) has.object has.size_known kept in
    let inside : range.off + range.len ≤ slice_index v.words (8 * has.object.lock.line + 1) = has.inside in
    end_check tx op range asked.is_range ∙ le-ltb (length (bytes_of tx.pool.objects range.id.off)) (range.off + range.len) (omega arith)

-- the operation is refused for the reason, which leaves a trace
pub record IsRefusedFor (tx : Transaction) (op : Operation) (r : Refusal) : Type 0 where
  pub refused_first : first_refusal unhindered tx op ≡ Some r
  pub traced : changes_nothing r ≡ false

pub lock_is_missing : (v : View) (tx : Transaction) (id : Oid) (write : Bool) → tx.pool.id ≡ v.pool → AreSameLocks tx.locks (locks_of v) → (id.pool ≡ v.pool → is_new tx id.off ≡ false) → IsNotHeld v id write → is_not_held tx write id ≡ true
lock_is_missing v tx id write of_pool locks found unheld =
    ap not (⊎_elim
    (λ (same : id.pool ≡ tx.pool.id). and_right (eqb id.pool tx.pool.id) (holds_object tx id.off write) (or_from (is_new tx id.off) (is_locked tx.locks id.off write) (found (same ∙ of_pool)) (locks.same id.off write ∙ unheld (same ∙ of_pool))))
    (λ (other : id.pool ≢ tx.pool.id). and_left (eqb id.pool tx.pool.id) (holds_object tx id.off write) (ne_eqb id.pool tx.pool.id other))
    (cases_eq id.pool tx.pool.id))

-- it is refused for the reason that the lane has: unless that is its lock, the call did not free the object
by_reason : (v : View) (w : ℕ → ℕ) (header : Header) (op : Operation) (range : Range) (tx : Transaction) (r : Refusal) → Asked v w header op range tx → (r ≢ refusal.NotLocked → is_freed_in v range.id.off ≡ false)
    → IsReason v op range r → IsRefusedFor tx op r
by_reason v w header op range tx refusal.NotLocked asked unless reason = record {
  refused_first =
      fails_lock tx op asked.works (wants_none op (ranged_asks op range asked.is_range)) (ranged_asks op range asked.is_range).aligned
      (lock_check tx op range asked.is_range ∙ lock_is_missing v tx range.id (needs_write op) asked.of_pool asked.locks (λ same. tracks_new v tx asked.tracks range.id.off ∙ asked.found same) reason);
  traced = refl;
}
by_reason v w header op range tx refusal.OutOfRange asked unless reason =
    let kept : is_freed_in v range.id.off ≡ false = unless (λ same. absurd cc) in
    let long = asked.long (needs_write op) reason.object reason.size_known kept in
    let outside : slice_index v.words (8 * reason.object.lock.line + 1) < range.off + range.len = reason.outside in
    record {
      refused_first =
          fails_end tx op asked.works (ranged_asks op range asked.is_range) (asked_kept v w header op range tx asked reason.object.of_pool kept) (asked_lock v w header op range tx asked reason.object)
          (end_check tx op range asked.is_range ∙ lt-ltb (length (bytes_of tx.pool.objects range.id.off)) (range.off + range.len) (omega arith));
      traced = refl;
    }
by_reason v w header op range tx refusal.NotAdded asked unless reason =
    let kept : is_freed_in v range.id.off ≡ false = unless (λ same. absurd cc) in
    let missing : IsNotAdded v range.id range.off range.len (needs_write op) = reason.1 in
    let none : is_among tx.recorded missing.word ≡ false = ap (λ (ws : List ℕ). is_among ws missing.word) asked.recorded ∙ among_recorded v.log.records missing.word ∙ missing.unrecorded in
    let old : not (is_new tx range.id.off) ≡ true = ap not (tracks_new v tx asked.tracks range.id.off ∙ asked.found missing.range.object.of_pool) in
    record {
      refused_first =
          fails_added tx op asked.works (ranged_asks op range asked.is_range) (asked_kept v w header op range tx asked missing.range.object.of_pool kept) (asked_lock v w header op range tx asked missing.range.object) (asked_end v w header op range tx asked missing.range kept)
          (added_check tx op range asked.is_range ∙ and_from (is_write op) (has_unrecorded tx range) reason.0
          (and_from (not (is_new tx range.id.off)) (not (list_all (is_among tx.recorded) (words_in range))) old (ap not (not_all tx.recorded (words_in range) missing.word missing.written none))));
      traced = refl;
    }
by_reason v w header op range tx refusal.LogFull asked unless reason =
    let kept : is_freed_in v range.id.off ≡ false = unless (λ same. absurd cc) in
    let full : Overfills v range.id range.off range.len (needs_write op) = reason.1 in
    let records : tx.records ≡ length v.log.records = asked.records in
    let number : length (records_of (new_words tx.recorded (words_in range))) ≡ length (records_of (new_words (words_recorded v.log.records) (words_in range))) =
    ap (λ (ws : List ℕ). length (records_of (new_words ws (words_in range)))) asked.recorded in
    let over : 64 < length v.log.records + length (records_of (new_words (words_recorded v.log.records) (words_in range))) = full.overfull in
    let old : not (is_new tx range.id.off) ≡ true = ap not (tracks_new v tx asked.tracks range.id.off ∙ asked.found full.range.object.of_pool) in
    record {
      refused_first =
          fails_room tx op asked.works (ranged_asks op range asked.is_range) (asked_kept v w header op range tx asked full.range.object.of_pool kept) (asked_lock v w header op range tx asked full.range.object) (asked_end v w header op range tx asked full.range kept)
          (added_check tx op range asked.is_range ∙ and_left (is_write op) (has_unrecorded tx range) (record_is_no_write op reason.0))
          (room_check tx op range asked.is_range
          ∙ and_from (is_record op) (overfills tx range) reason.0
          (and_from (not (is_new tx range.id.off)) (ltb 64 (tx.records + length (records_of (new_words tx.recorded (words_in range))))) old (lt-ltb 64 (tx.records + length (records_of (new_words tx.recorded (words_in range)))) (omega arith))));
      traced = refl;
    }
by_reason v w header op range tx r asked unless reason = absurd reason

pub refused_answers : (tx : Transaction) (op : Operation) (r : Refusal) → is_known op ≡ true → IsRefusedFor tx op r → Answers tx op (Some (Refused r))
refused_answers tx op r known is = record {
  known = known;
  seen = unhindered;
  answer =
      subst (λ (fr : Option Refusal). MatchOption fr (IsDone tx op (Some (Refused r))) (λ (x : Refusal). IsRefused x (Some (Refused r)))) (sym is.refused_first)
      (record { traced = is.traced; told = refl });
}

-- a call that was aborted came to nothing
comes_to_nothing : (v next : View) (op : Operation) (reply : Option Value) (level : ℕ) (e : TxErr) (w : ℕ → ℕ) (header : Header) (pool : PoolView)
    → next.entries ≡ v.entries → ((p : Pending) → pending_behind op reply p ≡ p) → next.call ≡ v.call ++ record { operation = op; reply = reply } ∷ [] → (c : ComesTo v w header pool level stage.Work error.None) → Answers c.tx op reply → after_reply op reply c.tx ≡ aborted e c.tx → ComesToNothing next pool e
comes_to_nothing v next op reply level e w header pool entries kept call c answers aborts =
    let last : Transaction = after_reply op reply c.tx in
    record {
      tx = last;
      runs =
          runs_told v next pool last entries (told_once_more v next op reply call)
          (runs_once_more (told_in v) (record { operation = op; reply = reply }) pool (pending_before v) c.tx c.runs (ap is_working c.stands) answers);
      stands = ap (λ (x : Transaction). x.stage) aborts;
      fails = ap (λ (x : Transaction). x.error) aborts;
      actions = ap (λ (x : Transaction). x.actions) aborts ∙ c.actions ∙ sym (pending_once_more v next op reply entries call ∙ kept (pending_in v));
      unchanged = ap (λ (x : Transaction). x.pool) aborts ∙ c.before;
    }

-- so a call is aborted by such an operation, whatever pool may precede it
pub aborts_from : (v next : View) (op : Operation) (reply : Option Value) (level : ℕ) (e : TxErr) → IsUnderWay v level stage.Work error.None → KeepsLane v next → KeepsFound v next
    → ((p : Pending) → pending_behind op reply p ≡ p) → next.call ≡ v.call ++ record { operation = op; reply = reply } ∷ [] → TakesBack v next
    → ((w : ℕ → ℕ) (header : Header) (pool : PoolView) → HoldsPool w v.lanes v.zones header pool → v.pool ≡ header.id → IsBefore v w → MayPrecede pool next → (c : ComesTo v w header pool level stage.Work error.None)
    → Answers c.tx op reply × (after_reply op reply c.tx ≡ aborted e c.tx))
    → WasAborted next e
aborts_from v next op reply level e under_way lane finds kept call back aborts = record {
  outside = outside_taken_back v next lane back under_way.outside;
  under = under_taken_back v next finds back under_way.under;
  comes = λ w header pool holds id before room.
      let old_id : v.pool ≡ header.id = sym lane.pool ∙ id in
      let old_before : IsBefore v w = taken_back v next lane finds back under_way.outside under_way.under w before in
      let old_holds : HoldsPool w v.lanes v.zones header pool = two_same (λ (n m : ℕ). HoldsPool w n m header pool) next.lanes v.lanes next.zones v.zones lane.lanes lane.zones holds in
      let c : ComesTo v w header pool level stage.Work error.None = under_way.comes w header pool old_holds old_id old_before (may_before v next op reply lane.entries call pool room) in
      let how = aborts w header pool old_holds old_id old_before room c in
      comes_to_nothing v next op reply level e w header pool lane.entries kept call c how.0 how.1;
}

pub aborts_call : (v next : View) (op : Operation) (reply : Option Value) (level : ℕ) (e : TxErr) → IsUnderWay v level stage.Work error.None → KeepsLane v next → KeepsFound v next
    → ((p : Pending) → pending_behind op reply p ≡ p) → next.call ≡ v.call ++ record { operation = op; reply = reply } ∷ [] → TakesBack v next
    → ((w : ℕ → ℕ) (header : Header) (pool : PoolView) → v.pool ≡ header.id → IsBefore v w → (c : ComesTo v w header pool level stage.Work error.None)
    → Answers c.tx op reply × (after_reply op reply c.tx ≡ aborted e c.tx))
    → WasAborted next e
aborts_call v next op reply level e under_way lane finds kept call back aborts =
    aborts_from v next op reply level e under_way lane finds kept call back (λ w header pool holds same_id before may c. aborts w header pool same_id before c)

-- the range is of no object of the pool that the call made; nor of one that it freed, unless its lock is missing
pub refusal_aborts : (v next : View) (op : Operation) (range : Range) (r : Refusal) (level : ℕ) → 1 ≤ level → IsUnderWay v level stage.Work error.None → Refuses v next op range r
    → (range.id.pool ≡ v.pool → is_new_in v range.id.off ≡ false) → (r ≢ refusal.NotLocked → is_freed_in v range.id.off ≡ false) → WasAborted next (error.Refused r)
refusal_aborts v next op range r level some under_way refuses found unless =
    aborts_call v next op (Some (Refused r)) level (error.Refused r) under_way refuses.tells.keeps (same_found v next refuses.tells.locks) (λ actions. refl) refuses.tells.call refuses.takes_back
    (λ w header pool same_id before c.
    let asked : Asked v w header op range c.tx = record {
      works = call_works v w header pool level some under_way c;
      is_range = refuses.is_range;
      of_pool = same_pool v w header c.base c.tx c.holds c.changed same_id;
      locks = c.locks;
      recorded = c.recorded;
      records = c.records;
      tracks = c.tracks;
      found = found;
      long = λ write held size_known kept. (object_under v w header pool level range.id write under_way before c held size_known (record { found = found held.of_pool; kept = kept })).long;
    } in
    let is : IsRefusedFor c.tx op r = by_reason v w header op range c.tx r asked unless refuses.reason in (
      refused_answers c.tx op r (ranged_known op range refuses.is_range) is,
      after_refused op (Some (Refused r)) c.tx r (record { traced = is.traced; told = refl }) ∙ ap (λ (b : Bool). cond b c.tx (aborted (error.Refused r) c.tx)) (ranged_asks op range refuses.is_range).no_action,
    ))

-- an abort that is asked for
pub abort_aborts : (v next : View) (errnum level : ℕ) → 1 ≤ level → IsUnderWay v level stage.Work error.None → Tells v next (Abort errnum) None → TakesBack v next → WasAborted next (error_for errnum)
abort_aborts v next errnum level some under_way tells back =
    aborts_call v next (Abort errnum) None level (error_for errnum) under_way tells.keeps (same_found v next tells.locks) (λ actions. refl) tells.call back
    (λ w header pool same_id before c.
    let asks : AsksNoLock (Abort errnum) = record { no_wants = refl; no_begin = refl; no_alloc = refl; no_free = refl; no_put = refl; no_publish = refl; aligned = refl; no_more = λ tx. refl; no_action = refl } in (
      answers_done c.tx (Abort errnum) None refl asks (passes_all c.tx (Abort errnum) (call_works v w header pool level some under_way c) asks refl refl refl refl refl) refl,
      refl,
    ))

-- what was given up has run, and is a step that changes nothing
aborted_runs : (told : List Answered) (pool : PoolView) (actions : Pending) (last : Transaction) → RunsTo pool actions told last → last.stage ≡ stage.OnAbort → RunsFrom (resting pool actions) told last
unfolding RunsTo
aborted_runs [] pool actions last runs stands =
    let rests : last ≡ resting pool actions = runs in
    let clash : stage.None ≡ stage.OnAbort = sym (ap (λ (x : Transaction). x.stage) rests) ∙ stands in
    absurd cc
aborted_runs (t ∷ told) pool actions last runs stands = runs_to_end t told pool actions last runs (ap is_working stands)

pub aborted_changes_nothing : (v : View) (e : TxErr) → WasAborted v e → (w : ℕ → ℕ) (header : Header) (pool : PoolView) → HoldsPool w v.lanes v.zones header pool → v.pool ≡ header.id → IsBefore v w
    → MayPrecede pool v → Turns v pool pool
aborted_changes_nothing v e was_aborted w header pool holds id before room = λ actions own.
    let c : ComesToNothing v pool e = was_aborted.comes w header pool holds id before room in
    inl (record {
      last = c.tx;
      runs = aborted_runs (told_in v) pool (pending_before v) c.tx c.runs c.stands;
      leaves = record { pending = own; leaves = (λ i. let s : State = record { pool = sym c.unchanged i; actions = with_pending actions v.lane (sym c.actions i) } in s) };
    })

pub given_up_changes_nothing : (v : View) (e : TxErr) → IsGivenUp v e → (w : ℕ → ℕ) (header : Header) (pool : PoolView) → HoldsPool w v.lanes v.zones header pool → v.pool ≡ header.id → IsBefore v w
    → Turns v pool pool
given_up_changes_nothing v e given_up w header pool holds id before = aborted_changes_nothing v e given_up.aborted w header pool holds id before (given_up.any_pool pool)

-- ---- calls that allocated and freed nothing

pub gives_up : (v next : View) (op : Operation) (reply : Option Value) → allocated_by op reply (pending_in v) ≡ [] → ((root : Option ℕ) → TellsOfRoot root op reply (pending_in v)) → next.entries ≡ v.entries → next.call ≡ v.call ++ record { operation = op; reply = reply } ∷ [] → KeepsBlocks v → (e : TxErr) → WasAborted next e → IsGivenUp next e
gives_up v next op reply none no_root entries call keeps e was_aborted = record { aborted = was_aborted; any_pool = any_may_still v next op reply entries call none no_root keeps }

-- no refusal of a range allocates
ranged_allocates_none : (op : Operation) (range : Range) (reply : Option Value) (p : Pending) → range_of op ≡ Some range → allocated_by op reply p ≡ []
ranged_allocates_none (AddRange id off len) range reply p is = refl
ranged_allocates_none (Write id off bytes) range reply p is = refl
ranged_allocates_none (Read id off len) range reply p is = refl
ranged_allocates_none op range reply p is = absurd cc

-- nor tells one of the root
ranged_tells_no_root : (op : Operation) (range : Range) (reply : Option Value) (p : Pending) → range_of op ≡ Some range → (root : Option ℕ) → TellsOfRoot root op reply p
ranged_tells_no_root (AddRange id off len) range reply p is root = tt
ranged_tells_no_root (Write id off bytes) range reply p is root = tt
ranged_tells_no_root (Read id off len) range reply p is root = tt
ranged_tells_no_root op range reply p is root = absurd cc

pub refusal_gives_up : (v next : View) (op : Operation) (range : Range) (r : Refusal) (level : ℕ) → 1 ≤ level → IsOpen v level stage.Work error.None → Refuses v next op range r
    → IsGivenUp next (error.Refused r)
refusal_gives_up v next op range r level some is_open refuses =
    let old : IsOldIn v range.id.off = old_of_none v is_open.keeps range.id.off in
    gives_up v next op (Some (Refused r)) (ranged_allocates_none op range (Some (Refused r)) (pending_in v) refuses.is_range) (ranged_tells_no_root op range (Some (Refused r)) (pending_in v) refuses.is_range) refuses.tells.keeps.entries refuses.tells.call is_open.keeps (error.Refused r)
    (refusal_aborts v next op range r level some is_open.under_way refuses (λ same. old.found) (λ other. old.kept))

pub abort_gives_up : (v next : View) (errnum level : ℕ) → 1 ≤ level → IsOpen v level stage.Work error.None → Tells v next (Abort errnum) None → TakesBack v next → IsGivenUp next (error_for errnum)
abort_gives_up v next errnum level some is_open tells back =
    gives_up v next (Abort errnum) None refl (λ root. tt) tells.keeps.entries tells.call is_open.keeps (error_for errnum) (abort_aborts v next errnum level some is_open.under_way tells back)
