-- A call under way goes on where it writes bytes into what is reserved, as the plain model's transaction does, or refuses to.
use Rattle.std.proofs.Common.{◌≡◌, ℕ, ◌+◌, ◌≤◌, ◌&&◌, Bool, cond, true, false, not, eqb, ltb, List, [], ◌∷◌, length, slice_index, Option, Some, None, MatchOption, refl, sym, ◌∙◌, ap, subst, arith}
use Rattle.std.specs.List.{Contains, find}
use Rattle.std.specs.Option.{option_map, option_map_or}
use Rattle.std.proofs.Math.Bool.{or-false}
use Rattle.std.proofs.lemmas.Bool.{and_from, eq-eqb, le-ltb}
use Rattle.std.proofs.lemmas.List.Elements.{All-nil, Contains-append_left}
use Rattle.std.proofs.lemmas.List.Folds.{list_any-from_Any}
use Rattle.pm_objects.specs.declared.calls.Operation.{Operation}
use Rattle.pm_objects.specs.declared.calls.Operation.TheVariants.{WriteReserved}
use Rattle.pm_objects.specs.declared.history.TxErr.TheVariants as error
use Rattle.pm_objects.specs.declared.history.Value.{Value}
use Rattle.pm_objects.specs.declared.history.Value.TheVariants.{Refused}
use Rattle.pm_objects.specs.declared.ids.Oid.{Oid}
use Rattle.pm_objects.specs.declared.refusal.Refusal.{Refusal}
use Rattle.pm_objects.specs.declared.refusal.Refusal.TheVariants as refusal
use Rattle.solo_model.specs.declared.stage.Stage.TheVariants as stage
use Rattle.solo_model.specs.Actions.{Pending, Reservation, bytes_reserved, is_reserved, with_put}
use Rattle.solo_model.specs.Answers.{IsDone, IsRefused, changes_nothing}
use Rattle.solo_model.specs.Checks.{first_refusal}
use Rattle.solo_model.specs.Transaction.{Transaction, locked_all}
use Rattle.solo_view.specs.Area.{is_in_area}
use Rattle.solo_view.specs.View.{Lock, View}
use Rattle.solo_crash.specs.CallBlocks.{NewObject, block_of, blocks_in, reserved_object}
use Rattle.solo_crash.specs.HeapChanges.{AreDisjoint}
use Rattle.solo_crash.specs.OpenCall.{IsPerformable, IsUnderWay, block_at_line, call_words}
use Rattle.solo_crash.specs.Pending.{pending_in}
use Rattle.solo_crash.specs.Reserving.{HasReserved, IsReservedOne, RefusesPut, WritesReserved, put_refusal}
use Rattle.solo_crash.specs.Writes.{words_written}
use Rattle.solo_crash.proofs.CallWords.{call_works, same_pool}
use Rattle.solo_crash.proofs.Continued.{leaves_told, GoesBack, LeavesBlocks}
use Rattle.solo_crash.proofs.KeptWords.{keeps_known}
use Rattle.solo_crash.proofs.MovedOn.{moves_known, moves_none, moves_told, Moves}
use Rattle.solo_crash.proofs.Passing.{no_tx, no_work, not_busy, not_spent, unhindered, Works}
use Rattle.solo_crash.proofs.ReservedOn.{reserved_told}
use Rattle.solo_crash.proofs.ReservedOnce.{reserved_found, AreOnceReserved}
use Rattle.solo_crash.proofs.WritesWithin.{other_same, same_words_written, written_back, WritesWithin}

-- ---- the model's transaction

-- the first refusal, by what the checks of the reservation and of its end say
unfoldable pub first_put : Bool → Bool → Option Refusal
first_put lacks past = option_map (λ (check : Refusal × Bool). check.0) (find (λ (check : Refusal × Bool). check.1) ((refusal.NotReserved, lacks) ∷ (refusal.OutOfRange, past) ∷ []))

put_checks : (tx : Transaction) (id : Oid) (off : ℕ) (bytes : List ℕ) → Works tx
    → first_refusal unhindered tx (WriteReserved id off bytes) ≡ first_put (not (eqb id.pool tx.pool.id && is_reserved tx.actions id.off)) (ltb (length (bytes_reserved tx.actions id.off)) (off + length bytes))
unfolding first_refusal first_put locked_all
put_checks tx id off bytes works =
    (λ j. option_map (λ (check : Refusal × Bool). check.0) (find (λ (check : Refusal × Bool). check.1)
    ((refusal.NotWork, no_work tx works j)
    ∷ (refusal.NoTx, no_tx tx (WriteReserved id off bytes) works j)
    ∷ (refusal.Spent, not_spent tx j)
    ∷ (refusal.Deep, false)
    ∷ (refusal.LocksFull, (le-ltb 64 (length tx.locks) works.few) j)
    ∷ (refusal.Unaligned, false)
    ∷ (refusal.BadSize, false)
    ∷ (refusal.NotReserved, not (eqb id.pool tx.pool.id && is_reserved tx.actions id.off))
    ∷ (refusal.NotLocked, false)
    ∷ (refusal.NoObject, false)
    ∷ (refusal.Busy, not_busy tx (WriteReserved id off bytes) j)
    ∷ (refusal.NoObject, false)
    ∷ (refusal.NoObject, false)
    ∷ (refusal.RootKept, false)
    ∷ (refusal.Listed, false)
    ∷ (refusal.OutOfRange, or-false (ltb (length (bytes_reserved tx.actions id.off)) (off + length bytes)) j)
    ∷ (refusal.NotAdded, false)
    ∷ (refusal.LogFull, false)
    ∷ (refusal.ActionsFull, false)
    ∷ (refusal.NoSpace, false)
    ∷ [])))

put_stays : (tx : Transaction) (id : Oid) (off : ℕ) (bytes : List ℕ) (r : Refusal) → first_refusal unhindered tx (WriteReserved id off bytes) ≡ Some r → changes_nothing r ≡ false → Moves (WriteReserved id off bytes) (Some (Refused r)) tx
put_stays tx id off bytes r first traced = record {
  answers = record {
    known = refl;
    seen = unhindered;
    answer =
        subst (λ (fr : Option Refusal). MatchOption fr (IsDone tx (WriteReserved id off bytes) (Some (Refused r))) (λ (x : Refusal). IsRefused x (Some (Refused r)))) (sym first)
        (record { traced = traced; told = refl });
  };
  leaves = moves_none tx tx.actions;
}

put_done : (tx : Transaction) (id : Oid) (off : ℕ) (bytes : List ℕ) → first_refusal unhindered tx (WriteReserved id off bytes) ≡ None → Moves (WriteReserved id off bytes) None tx
put_done tx id off bytes passes =
    let done : IsDone tx (WriteReserved id off bytes) None = record { there = λ k d inside. absurd (omega (arith, inside)); stands = tt; value = refl } in
    record {
      answers = record {
        known = refl;
        seen = unhindered;
        answer = subst (λ (fr : Option Refusal). MatchOption fr (IsDone tx (WriteReserved id off bytes) None) (λ r. IsRefused r None)) (sym passes) done;
      };
      leaves = moves_none tx (with_put id.off off bytes tx.actions);
    }

put_moves : (tx : Transaction) (id : Oid) (off : ℕ) (bytes : List ℕ) (reply : Option Value) → Works tx → reply ≡ option_map Refused (put_refusal tx.pool.id tx.actions id off (length bytes)) → Moves (WriteReserved id off bytes) reply tx
unfolding first_put
put_moves tx id off bytes reply works told =
    by_tests (not (eqb id.pool tx.pool.id && is_reserved tx.actions id.off)) (ltb (length (bytes_reserved tx.actions id.off)) (off + length bytes)) (put_checks tx id off bytes works) told where
      op : Operation
      op = WriteReserved id off bytes

      by_tests : (lacks past : Bool) → first_refusal unhindered tx op ≡ first_put lacks past
          → reply ≡ option_map Refused (cond lacks (Some refusal.NotReserved) (cond past (Some refusal.OutOfRange) None)) → Moves op reply tx
      by_tests true past first told = subst (λ (x : Option Value). Moves op x tx) (sym told) (put_stays tx id off bytes refusal.NotReserved first refl)
      by_tests false true first told = subst (λ (x : Option Value). Moves op x tx) (sym told) (put_stays tx id off bytes refusal.OutOfRange first refl)
      by_tests false false first told = subst (λ (x : Option Value). Moves op x tx) (sym told) (put_done tx id off bytes first)

-- what is reserved takes bytes that end where it ends, or before
pub none_refuses : (pool : ℕ) (p : Pending) (id : Oid) (off len : ℕ) → AreOnceReserved p.reserved → (is : IsReservedOne pool p id) → off + len ≤ length is.one.bytes → put_refusal pool p id off len ≡ None
none_refuses pool p id off len once is inside =
    let there : is_reserved p id.off ≡ true = list_any-from_Any (λ (r : Reservation). eqb r.off id.off) p.reserved (is.is_one.0, is.one, is.is_one.1, is.is_one.2, eq-eqb is.one.off id.off (sym is.place)) in
    let has : not (eqb id.pool pool && is_reserved p id.off) ≡ false = ap not (and_from (eqb id.pool pool) (is_reserved p id.off) (eq-eqb id.pool pool is.of_pool) there) in
    let found : find (λ (r : Reservation). eqb r.off id.off) p.reserved ≡ Some is.one = ap (λ (o : ℕ). find (λ (r : Reservation). eqb r.off o) p.reserved) is.place ∙ reserved_found p.reserved is.one once is.is_one in
    let bytes : bytes_reserved p id.off ≡ is.one.bytes = ap (λ (o : Option Reservation). option_map_or (λ (r : Reservation). r.bytes) o []) found in
    let ends : ltb (length (bytes_reserved p id.off)) (off + len) ≡ false = ap (λ (bs : List ℕ). ltb (length bs) (off + len)) bytes ∙ le-ltb (length is.one.bytes) (off + len) inside in
    (λ j. cond (has j) (Some refusal.NotReserved) (cond (ends j) (Some refusal.OutOfRange) None))

-- ---- the call

module _ (v next : View) (id : Oid) (off : ℕ) (bytes : List ℕ) (has : HasReserved v) (writes : WritesReserved v next id off bytes) where
  abbrev pub written_one : Reservation
  written_one = writes.has.one

  abbrev n : NewObject
  n = reserved_object written_one

  pub writes_within : WritesWithin v next (reserved_object writes.has.one) off bytes
  writes_within = record {
    stands = (has.each writes.has.one writes.has.is_one).made;
    inside = writes.inside;
    are_bytes = writes.are_bytes;
    written = subst (λ (o : ℕ). (i : ℕ) → is_in_area v.lane i ≡ false → slice_index next.words i ≡ words_written (o + off) bytes (slice_index v.words) i) writes.has.place writes.written;
  }

  apart_found : (l : Lock) (lines : ℕ) → Contains v.locks l → l.block ≡ Some lines → AreDisjoint (block_of n) (block_at_line l.line lines)
  apart_found l lines held found = has.apart_found writes.has.one l lines writes.has.is_one held found

  module _ (level : ℕ) (some_level : 1 ≤ level) (under_way : IsUnderWay v level stage.Work error.None) where
    back : GoesBack v next
    back = written_back v next n off bytes writes_within writes.tells.keeps writes.logs writes.tells.locks under_way.outside under_way.under apart_found

    leaves : LeavesBlocks v next
    leaves = leaves_told v next (WriteReserved id off bytes) None writes.tells.keeps.entries writes.tells.call refl
        (λ m there. other_same v next n off bytes writes_within m (under_way.has.each m there)
        (has.apart_made writes.has.one m writes.has.is_one (Contains-append_left (blocks_in v).made (blocks_in v).dropped m there)))

    same_words : (w : ℕ → ℕ) → call_words next w ≡ call_words v w
    same_words = same_words_written v next n off bytes writes_within writes.tells.keeps writes.logs writes.tells.locks under_way.outside under_way.under apart_found

    put_goes_on : IsUnderWay next level stage.Work error.None
    put_goes_on =
        moves_told v next (WriteReserved id off bytes) None level under_way writes.tells writes.logs back leaves same_words
        (λ w header pool holds same_id before may c.
        let of_pool : c.tx.pool.id ≡ v.pool = same_pool v w header c.base c.tx c.holds c.changed same_id in
        let passes : put_refusal c.tx.pool.id c.tx.actions id off (length bytes) ≡ None =
        (λ j. put_refusal (of_pool j) (c.actions j) id off (length bytes)) ∙ none_refuses v.pool (pending_in v) id off (length bytes) has.once writes.has writes.inside in (
          put_moves c.tx id off bytes None (call_works v w header pool level some_level under_way c) (ap (option_map Refused) (sym passes)),
          All-nil (IsPerformable v w),
        ))

pub reserved_write_goes_on : (v next : View) (id : Oid) (off level : ℕ) (bytes : List ℕ) → 1 ≤ level → IsUnderWay v level stage.Work error.None → HasReserved v → WritesReserved v next id off bytes → IsUnderWay next level stage.Work error.None
reserved_write_goes_on v next id off level bytes some under_way has writes = put_goes_on v next id off bytes has writes level some under_way

pub refused_put_goes_on : (v next : View) (id : Oid) (off level : ℕ) (bytes : List ℕ) (r : Refusal) → 1 ≤ level → IsUnderWay v level stage.Work error.None → RefusesPut v next id off bytes r → IsUnderWay next level stage.Work error.None
refused_put_goes_on v next id off level bytes r some under_way refuses =
    moves_known v next (WriteReserved id off bytes) (Some (Refused r)) level under_way refuses.tells refuses.logs (keeps_known v next refuses.words) refl
    (λ w header pool holds same_id before may c.
    let of_pool : c.tx.pool.id ≡ v.pool = same_pool v w header c.base c.tx c.holds c.changed same_id in
    let refused : put_refusal c.tx.pool.id c.tx.actions id off (length bytes) ≡ Some r = (λ j. put_refusal (of_pool j) (c.actions j) id off (length bytes)) ∙ refuses.reason in (
      put_moves c.tx id off bytes (Some (Refused r)) (call_works v w header pool level some under_way c) (ap (option_map Refused) (sym refused)),
      All-nil (IsPerformable v w),
    ))

pub refused_put_keeps : (v next : View) (id : Oid) (off : ℕ) (bytes : List ℕ) (r : Refusal) → HasReserved v → RefusesPut v next id off bytes r → HasReserved next
refused_put_keeps v next id off bytes r has refuses = reserved_told v next (WriteReserved id off bytes) (Some (Refused r)) has refuses.tells (keeps_known v next refuses.words) refl refl
