-- A begin that is refused, of a call or of a further level, is refused by the model for the same reason.
use Rattle.std.proofs.Common.{◌≡◌, ⊎_elim, ℕ, ◌<◌, ◌≤◌, ◌&&◌, ◌||◌, Bool, true, false, not, eqb, leb, ltb, List, [], ◌∷◌, length, map, Option, Some, MatchOption, refl, sym, ◌∙◌, ap, subst, arith}
use Rattle.std.specs.List.{Contains, filter, find, list_any}
use Rattle.std.specs.Option.{option_map}
use Rattle.std.proofs.lemmas.Bool.{and_from, and_right, cases_Bool, le-leb, le-ltb, lt-leb, lt-ltb}
use Rattle.pm_objects.specs.declared.calls.Operation.TheVariants.{Begin}
use Rattle.pm_objects.specs.declared.calls.Want.{Want}
use Rattle.pm_objects.specs.declared.history.TxErr.TheVariants as error
use Rattle.pm_objects.specs.declared.history.Value.TheVariants.{Refused}
use Rattle.pm_objects.specs.declared.pool.PoolView.{PoolView}
use Rattle.pm_objects.specs.declared.refusal.Refusal.{Refusal}
use Rattle.pm_objects.specs.declared.refusal.Refusal.TheVariants as refusal
use Rattle.solo_model.specs.declared.stage.Stage.TheVariants as stage
use Rattle.solo_model.specs.Places.{can_begin, has_place}
use Rattle.solo_model.specs.Transaction.{Transaction, Lock as Locked, aborted, holds_object, is_locked, is_new, locked_all, resting}
use Rattle.solo_model.specs.Checks.{Seen, finds_no_work, names_gone, objects_named, passes_locks, wants_no_place, takes_lock, takes_first_lock, first_refusal}
use Rattle.solo_model.specs.Answers.{Told as Answered, Answers, IsDone, IsRefused, after, after_reply, changes_nothing}
use Rattle.solo_model.proofs.Alike.{after_refused}
use Rattle.solo_view.specs.Log.{Recorded}
use Rattle.solo_view.specs.View.{View}
use Rattle.solo_world.specs.Records.{is_recorded}
use Rattle.solo_crash.proofs.SameLocks.{same_locks, wanted_alike}
use Rattle.solo_crash.specs.CallBlocks.{IsOldIn, allocated_told}
use Rattle.solo_crash.specs.Locks.{AreSameLocks}
use Rattle.solo_crash.specs.OpenCall.{IsGivenUp, IsOpen, IsUnderWay, RunsTo, WasAborted, locks_of}
use Rattle.solo_crash.specs.Pending.{pending_before, told_of}
use Rattle.solo_crash.specs.Operations.{IsBeginReason, RefusesCall, RefusesLevel, is_placed, lacks_place, locks_wanted, wants_first, wants_more}
use Rattle.solo_crash.proofs.CallWords.{call_works, same_lanes, same_pool, same_zones}
use Rattle.solo_crash.proofs.CallBlocks.{any_alike, filter_alike, first_agrees, no_want_gone, old_of_none, old_want, room_for_none}
use Rattle.solo_crash.proofs.GivenUp.{aborts_call, gives_up}
use Rattle.solo_crash.proofs.Passing.{no_work, none_named}
use Rattle.solo_crash.proofs.PendingOn.{pending_first}
use Rattle.solo_crash.proofs.Runs.{runs_first}

-- the first refusal of a begin, by what the checks of depth, locks and places say
first_of_five : Bool → Bool → Bool → Bool → Bool → Option Refusal
first_of_five deep full placeless busy missing = option_map (λ (check : Refusal × Bool). check.0) (find (λ (check : Refusal × Bool). check.1)
    ((refusal.Deep, deep) ∷ (refusal.LocksFull, full) ∷ (refusal.NoObject, placeless) ∷ (refusal.Busy, busy) ∷ (refusal.NoObject, missing) ∷ []))

-- what the lane saw of other lanes, where its numbers are not at their end
abbrev saw : Bool → Bool → Seen
saw busy missing = record { spent = false; busy = busy; missing = missing; full = false }

five_checks : (busy missing : Bool) (tx : Transaction) (wants : List Want) → finds_no_work tx ≡ false → names_gone tx (Begin wants) ≡ false
    → first_refusal (saw busy missing) tx (Begin wants)
    ≡ first_of_five (leb 64 tx.level) (passes_locks tx (Begin wants)) (wants_no_place tx (Begin wants)) (leb 1 tx.level && takes_lock tx (Begin wants) && busy) (takes_first_lock tx (Begin wants) && missing)
unfolding first_refusal first_of_five
five_checks busy missing tx wants works kept =
    (λ j. option_map (λ (check : Refusal × Bool). check.0) (find (λ (check : Refusal × Bool). check.1)
    ((refusal.NotWork, works j)
    ∷ (refusal.NoTx, and_right (eqb tx.level 0) false refl j)
    ∷ (refusal.Spent, and_right (eqb tx.level 0) false refl j)
    ∷ (refusal.Deep, leb 64 tx.level)
    ∷ (refusal.LocksFull, passes_locks tx (Begin wants))
    ∷ (refusal.NotLocked, false)
    ∷ (refusal.NoObject, wants_no_place tx (Begin wants))
    ∷ (refusal.Busy, leb 1 tx.level && takes_lock tx (Begin wants) && busy)
    ∷ (refusal.NoObject, takes_first_lock tx (Begin wants) && missing)
    ∷ (refusal.NoObject, kept j)
    ∷ (refusal.OutOfRange, false)
    ∷ (refusal.NotAdded, false)
    ∷ (refusal.LogFull, false)
    ∷ [])))

-- the transaction is of the lane's pool, at this level and with these locks, and what is wanted is neither new nor gone
record IsAt (v : View) (level : ℕ) (before : List Locked) (wants : List Want) (tx : Transaction) : Type 0 where
  works : finds_no_work tx ≡ false
  levels : tx.level ≡ level
  locks : AreSameLocks tx.locks before
  placed : (λ (want : Want). has_place tx.pool want.id) ≡ is_placed v
  old : (want : Want) → Contains wants want → is_new tx want.id.off ≡ false
  kept : names_gone tx (Begin wants) ≡ false

-- the check of room for locks does not depend on their order
full_check : (v : View) (level : ℕ) (before : List Locked) (tx : Transaction) (wants : List Want) → IsAt v level before wants tx
    → passes_locks tx (Begin wants) ≡ ltb 64 (length (locks_wanted v before wants))
full_check v level before tx wants at =
    ap (λ (ws : List Want). ltb 64 (length (locked_all ws tx.locks)))
    (filter_alike (λ (want : Want). not (is_new tx want.id.off) && has_place tx.pool want.id) (is_placed v) wants (λ want there. (λ j. not (at.old want there j) && at.placed j want)))
    ∙ ap (ltb 64) (wanted_alike (filter (is_placed v) wants) tx.locks before at.locks).count

-- nothing that is wanted is new, so it is held where its lock is
held_alike : (v : View) (level : ℕ) (before : List Locked) (tx : Transaction) (wants : List Want) → IsAt v level before wants tx → (write : Want → Bool)
    → list_any (λ (want : Want). not (holds_object tx want.id.off (write want))) wants ≡ list_any (λ (want : Want). not (is_locked before want.id.off (write want))) wants
held_alike v level before tx wants at write =
    any_alike (λ (want : Want). not (holds_object tx want.id.off (write want))) (λ (want : Want). not (is_locked before want.id.off (write want))) wants
    (λ want there. (λ j. not (at.old want there j || at.locks.same want.id.off (write want) j)))

-- the begin is refused for this reason, whatever else holds
record IsBeginRefused (tx : Transaction) (wants : List Want) (r : Refusal) : Type 0 where
  seen : Seen
  refused_first : first_refusal seen tx (Begin wants) ≡ Some r
  traced : changes_nothing r ≡ false

begin_refused : (v : View) (level : ℕ) (before : List Locked) (tx : Transaction) (wants : List Want) (r : Refusal) → IsAt v level before wants tx → IsBeginReason v level before wants r
    → IsBeginRefused tx wants r
unfolding first_of_five
begin_refused v level before tx wants refusal.Deep at reason =
    let levels : tx.level ≡ level = at.levels in
    let deep : leb 64 tx.level ≡ true = le-leb 64 tx.level (omega arith) in
    record {
      seen = saw false false;
      refused_first = five_checks false false tx wants at.works at.kept ∙ (λ j. first_of_five (deep j) (passes_locks tx (Begin wants)) (wants_no_place tx (Begin wants)) (leb 1 tx.level && takes_lock tx (Begin wants) && false) (takes_first_lock tx (Begin wants) && false));
      traced = refl;
    }
begin_refused v level before tx wants refusal.LocksFull at reason =
    let levels : tx.level ≡ level = at.levels in
    let shallow : level < 64 = reason.0 in
    let deep : leb 64 tx.level ≡ false = lt-leb 64 tx.level (omega arith) in
    let full : passes_locks tx (Begin wants) ≡ true =
    full_check v level before tx wants at ∙ lt-ltb 64 (length (locks_wanted v before wants)) reason.1 in
    record {
      seen = saw false false;
      refused_first = five_checks false false tx wants at.works at.kept ∙ (λ j. first_of_five (deep j) (full j) (wants_no_place tx (Begin wants)) (leb 1 tx.level && takes_lock tx (Begin wants) && false) (takes_first_lock tx (Begin wants) && false));
      traced = refl;
    }
begin_refused v level before tx wants refusal.NoObject at reason =
    let levels : tx.level ≡ level = at.levels in
    let shallow : level < 64 = reason.0 in
    let deep : leb 64 tx.level ≡ false = lt-leb 64 tx.level (omega arith) in
    let full : passes_locks tx (Begin wants) ≡ false =
    full_check v level before tx wants at ∙ le-ltb 64 (length (locks_wanted v before wants)) reason.1 in
    let place : wants_no_place tx (Begin wants) ≡ lacks_place v wants = (λ j. list_any (λ (want : Want). not (at.placed j want)) wants) in
    let first : takes_first_lock tx (Begin wants) ≡ wants_first before wants = held_alike v level before tx wants at (λ want. false) in
    let by_place : lacks_place v wants ≡ true → IsBeginRefused tx wants refusal.NoObject = λ lacks.
    record {
      seen = saw false false;
      refused_first =
          five_checks false false tx wants at.works at.kept
          ∙ (λ j. first_of_five (deep j) (full j) ((place ∙ lacks) j) (leb 1 tx.level && takes_lock tx (Begin wants) && false) (takes_first_lock tx (Begin wants) && false));
      traced = refl;
    } in
    ⊎_elim by_place
    (λ (more : wants_first before wants ≡ true). ⊎_elim by_place
    (λ (all_placed : lacks_place v wants ≡ false). record {
      seen = saw false true;
      refused_first =
          five_checks false true tx wants at.works at.kept
          ∙ (λ j. first_of_five (deep j) (full j) ((place ∙ all_placed) j) (and_right (leb 1 tx.level && takes_lock tx (Begin wants)) false refl j)
          (and_from (takes_first_lock tx (Begin wants)) true (first ∙ more) refl j));
      traced = refl;
    })
    (cases_Bool (lacks_place v wants)))
    reason.2
begin_refused v level before tx wants refusal.Busy at reason =
    let levels : tx.level ≡ level = at.levels in
    let shallow : level < 64 = reason.0 in
    let some : 1 ≤ level = reason.3 in
    let deep : leb 64 tx.level ≡ false = lt-leb 64 tx.level (omega arith) in
    let full : passes_locks tx (Begin wants) ≡ false =
    full_check v level before tx wants at ∙ le-ltb 64 (length (locks_wanted v before wants)) reason.1 in
    let place : wants_no_place tx (Begin wants) ≡ lacks_place v wants = (λ j. list_any (λ (want : Want). not (at.placed j want)) wants) in
    let more : takes_lock tx (Begin wants) ≡ wants_more before wants = held_alike v level before tx wants at (λ want. want.write) in
    let busy : (leb 1 tx.level && takes_lock tx (Begin wants) && true) ≡ true =
    and_from (leb 1 tx.level && takes_lock tx (Begin wants)) true (and_from (leb 1 tx.level) (takes_lock tx (Begin wants)) (le-leb 1 tx.level (omega arith)) (more ∙ reason.4)) refl in
    record {
      seen = saw true false;
      refused_first = five_checks true false tx wants at.works at.kept ∙ (λ j. first_of_five (deep j) (full j) ((place ∙ reason.2) j) (busy j) (takes_first_lock tx (Begin wants) && false));
      traced = refl;
    }
begin_refused v level before tx wants r at reason = absurd reason

begin_refused_answers : (tx : Transaction) (wants : List Want) (r : Refusal) → IsBeginRefused tx wants r → Answers tx (Begin wants) (Some (Refused r))
begin_refused_answers tx wants r is = record {
  known = refl;
  seen = is.seen;
  answer =
      subst (λ (fr : Option Refusal). MatchOption fr (IsDone tx (Begin wants) (Some (Refused r))) (λ (x : Refusal). IsRefused x (Some (Refused r)))) (sym is.refused_first)
      (record { traced = is.traced; told = refl });
}

begin_refused_aborts : (tx : Transaction) (wants : List Want) (r : Refusal) → IsBeginRefused tx wants r → after_reply (Begin wants) (Some (Refused r)) tx ≡ aborted (error.Refused r) tx
begin_refused_aborts tx wants r is = after_refused (Begin wants) (Some (Refused r)) tx r (record { traced = is.traced; told = refl })

-- ids have the same form in the pool and for the lane
same_places : (v : View) (pool : PoolView) → pool.id ≡ v.pool → pool.lanes ≡ v.lanes → pool.zones ≡ v.zones → (λ (want : Want). has_place pool want.id) ≡ is_placed v
same_places v pool id lanes zones = (λ j want. eqb want.id.pool (id j) && can_begin (lanes j) (zones j) want.id.off)

call_aborted : (v : View) (wants : List Want) (r : Refusal) → RefusesCall v wants r → WasAborted v (error.Refused r)
call_aborted v wants r refuses = record {
  outside = λ i is. absurd (let clash : false ≡ true = sym (ap (λ (records : List Recorded). is_recorded records i) refuses.no_records) ∙ is in cc);
  under = λ i is. absurd (let clash : false ≡ true = sym (ap (λ (records : List Recorded). is_recorded records i) refuses.no_records) ∙ is in cc);
  comes = λ w header pool holds id before room.
      let told : Answered = record { operation = Begin wants; reply = Some (Refused r) } in
      let rest : Transaction = resting pool (pending_before v) in
      let at : IsAt v 0 [] wants rest = record {
        works = refl;
        levels = refl;
        locks = same_locks [];
        placed =
            same_places v pool (ap (λ (p : PoolView). p.id) holds.is_pool ∙ sym id) (ap (λ (p : PoolView). p.lanes) holds.is_pool) (ap (λ (p : PoolView). p.zones) holds.is_pool);
        old = λ want there. refl;
        kept = none_named rest (objects_named rest (Begin wants)) (λ off there. refl);
      } in
      let is : IsBeginRefused rest wants r = begin_refused v 0 [] rest wants r at refuses.reason in
      let last : Transaction = after told rest in
      let aborts : last ≡ aborted (error.Refused r) rest = begin_refused_aborts rest wants r is in
      record {
        tx = last;
        runs = subst (λ (ts : List Answered). RunsTo pool (pending_before v) ts last) (sym (ap (map told_of) refuses.call)) (runs_first told pool (pending_before v) (begin_refused_answers rest wants r is));
        stands = ap (λ (x : Transaction). x.stage) aborts;
        fails = ap (λ (x : Transaction). x.error) aborts;
        actions = ap (λ (x : Transaction). x.actions) aborts ∙ sym (pending_first v (record { operation = Begin wants; reply = Some (Refused r) }) refuses.call);
        unchanged = ap (λ (x : Transaction). x.pool) aborts;
      };
}

pub call_refused : (v : View) (wants : List Want) (r : Refusal) → RefusesCall v wants r → IsGivenUp v (error.Refused r)
unfolding allocated_told
call_refused v wants r refuses = record {
  aborted = call_aborted v wants r refuses;
  any_pool = λ pool. record {
    room = room_for_none v pool (ap (allocated_told (pending_before v)) refuses.call);
    root = first_agrees v (Begin wants) (Some (Refused r)) refuses.call pool.root tt;
  };
}

-- what is wanted the call found, and did not free
pub level_aborted : (v next : View) (level : ℕ) (wants : List Want) (r : Refusal) → 1 ≤ level → IsUnderWay v level stage.Work error.None → RefusesLevel v next level wants r
    → ((want : Want) → Contains wants want → IsOldIn v want.id.off) → WasAborted next (error.Refused r)
level_aborted v next level wants r some under_way refuses old =
    aborts_call v next (Begin wants) (Some (Refused r)) level (error.Refused r) under_way refuses.keeps refuses.finds (λ actions. refl) refuses.call refuses.takes_back
    (λ w header pool same_id before c.
    let at : IsAt v level (locks_of v) wants c.tx = record {
      works = no_work c.tx (call_works v w header pool level some under_way c);
      levels = c.levels;
      locks = c.locks;
      placed =
          same_places v c.tx.pool (same_pool v w header c.base c.tx c.holds c.changed same_id) (same_lanes v w header c.base c.tx c.holds c.changed) (same_zones v w header c.base c.tx c.holds c.changed);
      old = λ want there. old_want v c.tx want c.tracks (old want there);
      kept = no_want_gone v c.tx wants c.tracks old;
    } in
    let is : IsBeginRefused c.tx wants r = begin_refused v level (locks_of v) c.tx wants r at refuses.reason in
    (begin_refused_answers c.tx wants r is, begin_refused_aborts c.tx wants r is))

-- so it is of a call that allocated and freed nothing
pub level_refused : (v next : View) (level : ℕ) (wants : List Want) (r : Refusal) → 1 ≤ level → IsOpen v level stage.Work error.None → RefusesLevel v next level wants r
    → IsGivenUp next (error.Refused r)
level_refused v next level wants r some is_open refuses =
    gives_up v next (Begin wants) (Some (Refused r)) refl (λ root. tt) refuses.keeps.entries refuses.call is_open.keeps (error.Refused r)
    (level_aborted v next level wants r some is_open.under_way refuses (λ want there. old_of_none v is_open.keeps want.id.off))
