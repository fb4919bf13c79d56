-- A range of an object that is gone is refused, and one that passes the end of an object which the call made.
use Rattle.std.proofs.Common.{◌≡◌, ℕ, ◌+◌, ◌<◌, ◌≤◌, Bool, true, false, cond, length, Some, refl, ◌∙◌, ap, arith}
use Rattle.std.specs.List.{list_any}
use Rattle.std.proofs.lemmas.Bool.{lt-ltb, or_left, or_right}
use Rattle.pm_objects.specs.declared.calls.Operation.{Operation}
use Rattle.pm_objects.specs.declared.history.TxErr.TheVariants as error
use Rattle.pm_objects.specs.declared.history.Value.TheVariants.{Refused}
use Rattle.pm_objects.specs.declared.refusal.Refusal.{Refusal}
use Rattle.pm_objects.specs.declared.refusal.Refusal.TheVariants as refusal
use Rattle.solo_model.specs.declared.stage.Stage.TheVariants as stage
use Rattle.solo_model.specs.Answers.{Answers, after_reply}
use Rattle.solo_model.specs.Bytes.{bytes_of}
use Rattle.solo_model.specs.Checks.{Range, is_not_locked, names_gone, needs_write, objects_named, publishes_late, passes_end, range_of}
use Rattle.solo_model.specs.Transaction.{Transaction, aborted, is_gone}
use Rattle.solo_model.proofs.Alike.{after_refused}
use Rattle.solo_view.specs.View.{View}
use Rattle.solo_crash.specs.OpenCall.{IsUnderWay, WasAborted}
use Rattle.solo_crash.specs.Operations.{RefusesGone, RefusesNewRange}
use Rattle.solo_crash.proofs.CallBlocks.{all_tracks_gone}
use Rattle.solo_crash.proofs.CallWords.{call_works, same_pool}
use Rattle.solo_crash.proofs.FreeChecks.{had_is_held}
use Rattle.solo_crash.proofs.GivenUp.{aborts_call, end_check, lock_check, ranged_asks, ranged_known, ranged_named, refused_answers, IsRefusedFor}
use Rattle.solo_crash.proofs.KeptWords.{same_found}
use Rattle.solo_crash.proofs.NewRanges.{new_is_held, new_is_kept, new_long}
use Rattle.solo_crash.proofs.Passing.{fails_end, fails_gone, none_gone_named, not_late, wants_none}

-- what a refused operation on a range answers, and leaves
ranged_aborts : (tx : Transaction) (op : Operation) (range : Range) (r : Refusal) → range_of op ≡ Some range → IsRefusedFor tx op r
    → Answers tx op (Some (Refused r)) × (after_reply op (Some (Refused r)) tx ≡ aborted (error.Refused r) tx)
ranged_aborts tx op range r ranged is = (
  refused_answers tx op r (ranged_known op range ranged) is,
  after_refused op (Some (Refused r)) tx r (record { traced = is.traced; told = refl }) ∙ ap (λ (b : Bool). cond b tx (aborted (error.Refused r) tx)) (ranged_asks op range ranged).no_action,
)

pub gone_range_aborts : (v next : View) (op : Operation) (range : Range) (level : ℕ) → 1 ≤ level → IsUnderWay v level stage.Work error.None → RefusesGone v next op range → WasAborted next (error.Refused refusal.NoObject)
gone_range_aborts v next op range level some under_way refuses =
    aborts_call v next op (Some (Refused refusal.NoObject)) level (error.Refused refusal.NoObject) under_way refuses.tells.keeps (same_found v next refuses.tells.locks) (λ actions. refl) refuses.tells.call refuses.takes_back
    (λ w header pool same_id before c.
    let locked : is_not_locked c.tx op ≡ false = lock_check c.tx op range refuses.is_range
    ∙ had_is_held v c.tx range.id (needs_write op) (same_pool v w header c.base c.tx c.holds c.changed same_id) c.locks c.tracks refuses.gone.of_pool refuses.gone.has in
    let gone : names_gone c.tx op ≡ true = or_right (publishes_late c.tx.actions op) (list_any (is_gone c.tx) (objects_named c.tx op))
    (ap (list_any (is_gone c.tx)) (ranged_named c.tx op range refuses.is_range)
    ∙ or_left (is_gone c.tx range.id.off) false (all_tracks_gone v c.tx c.tracks range.id.off ∙ refuses.gone.gone)) in
    let asks = ranged_asks op range refuses.is_range in
    let is : IsRefusedFor c.tx op refusal.NoObject = record { refused_first = fails_gone c.tx op (call_works v w header pool level some under_way c) (wants_none op asks) asks.aligned locked gone; traced = refl } in
    ranged_aborts c.tx op range refusal.NoObject refuses.is_range is)

pub new_range_aborts : (v next : View) (op : Operation) (range : Range) (level : ℕ) → 1 ≤ level → IsUnderWay v level stage.Work error.None → RefusesNewRange v next op range
    → WasAborted next (error.Refused refusal.OutOfRange)
new_range_aborts v next op range level some under_way refuses =
    aborts_call v next op (Some (Refused refusal.OutOfRange)) level (error.Refused refusal.OutOfRange) under_way refuses.tells.keeps (same_found v next refuses.tells.locks) (λ actions. refl) refuses.tells.call refuses.takes_back
    (λ w header pool same_id before c.
    let made = refuses.past.made in
    let outside : made.new.size < range.off + range.len = refuses.past.outside in
    let long : length (bytes_of c.tx.pool.objects range.id.off) ≡ made.new.size = new_long v w header pool level under_way c range.id made in
    let kept : names_gone c.tx op ≡ false =
    none_gone_named c.tx op (not_late c.tx.actions op (ranged_asks op range refuses.is_range).no_publish) (ap (list_any (is_gone c.tx)) (ranged_named c.tx op range refuses.is_range) ∙ new_is_kept v w header pool level under_way c range.id made) in
    let locked : is_not_locked c.tx op ≡ false = lock_check c.tx op range refuses.is_range ∙ new_is_held v w header pool level under_way c range.id made (needs_write op) same_id in
    let ends : passes_end c.tx op ≡ true = end_check c.tx op range refuses.is_range ∙ lt-ltb (length (bytes_of c.tx.pool.objects range.id.off)) (range.off + range.len) (omega (arith, outside, long)) in
    let is : IsRefusedFor c.tx op refusal.OutOfRange = record {
      refused_first = fails_end c.tx op (call_works v w header pool level some under_way c) (ranged_asks op range refuses.is_range) kept locked ends;
      traced = refl;
    } in
    ranged_aborts c.tx op range refusal.OutOfRange refuses.is_range is)
