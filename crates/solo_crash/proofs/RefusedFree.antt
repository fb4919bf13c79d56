-- A free that is refused is refused by the model for the same reason.
use Rattle.std.proofs.Common.{◌≡◌, ℕ, ◌+◌, ◌<◌, ◌≤◌, true, false, not, ltb, Some, refl, ◌∙◌, ap, arith}
use Rattle.std.proofs.lemmas.Bool.{and_from, lt-ltb, or_parts}
use Rattle.pm_header.specs.declared.header.Header.{Header}
use Rattle.pm_objects.specs.declared.calls.Operation.TheVariants.{Free}
use Rattle.pm_objects.specs.declared.history.TxErr.TheVariants as error
use Rattle.pm_objects.specs.declared.history.Value.TheVariants.{Refused}
use Rattle.pm_objects.specs.declared.ids.Oid.{Oid}
use Rattle.pm_objects.specs.declared.pool.PoolView.{PoolView}
use Rattle.pm_objects.specs.declared.refusal.Refusal.{Refusal}
use Rattle.pm_objects.specs.declared.refusal.Refusal.TheVariants as refusal
use Rattle.solo_model.specs.declared.stage.Stage.TheVariants as stage
use Rattle.solo_model.specs.Actions.{max_entries}
use Rattle.solo_model.specs.Bytes.{is_among}
use Rattle.solo_model.specs.Checks.{is_not_held, passes_actions}
use Rattle.solo_model.specs.Transaction.{entries_of, is_gone, is_locked}
use Rattle.solo_model.proofs.Alike.{after_refused}
use Rattle.solo_view.specs.View.{View}
use Rattle.solo_crash.specs.CallBlocks.{TellsOfRoot, is_new_in}
use Rattle.solo_crash.specs.Pending.{pending_in}
use Rattle.solo_crash.specs.Held.{HoldsPool}
use Rattle.solo_crash.specs.OpenCall.{ComesTo, IsUnderWay, WasAborted, locks_of}
use Rattle.solo_crash.specs.Operations.{IsFreeReason, IsLeft, RefusesFree, entries_so_far}
use Rattle.solo_crash.proofs.CallBlocks.{all_tracks_gone, tells_of_root, tracks_new}
use Rattle.solo_crash.proofs.CallWords.{as_many_entries, call_works, same_pool}
use Rattle.solo_crash.proofs.FreeChecks.{free_gone, free_of_root, free_roomless, free_unheld, had_is_held, not_the_root, the_root, tracks_made, unlisted}
use Rattle.solo_crash.proofs.GivenUp.{aborts_from, lock_is_missing, refused_answers, IsRefusedFor}
use Rattle.solo_crash.proofs.KeptWords.{same_found}
use Rattle.solo_crash.proofs.Passing.{Works}

module _ (v : View) (w : ℕ → ℕ) (header : Header) (pool : PoolView) (level : ℕ) (id : Oid) (some_level : 1 ≤ level) (under_way : IsUnderWay v level stage.Work error.None)
    (holds : HoldsPool w v.lanes v.zones header pool) (same_id : v.pool ≡ header.id) (c : ComesTo v w header pool level stage.Work error.None) where
  works : Works c.tx
  works = call_works v w header pool level some_level under_way c

  of_pool : c.tx.pool.id ≡ v.pool
  of_pool = same_pool v w header c.base c.tx c.holds c.changed same_id

  left_held : IsLeft v id true → is_not_held c.tx true id ≡ false
  left_held is = had_is_held v c.tx id true of_pool c.locks c.tracks is.of_pool is.has

  left_there : IsLeft v id true → is_gone c.tx id.off ≡ false
  left_there is = all_tracks_gone v c.tx c.tracks id.off ∙ is.left

  by_reason : (r : Refusal) → IsFreeReason v id r → TellsOfRoot pool.root (Free id) (Some (Refused r)) (pending_in v) → IsRefusedFor c.tx (Free id) r
  by_reason refusal.NotLocked reason tells = record {
    refused_first = free_unheld c.tx id works (lock_is_missing v c.tx id true of_pool c.locks
        (λ same. tracks_new v c.tx c.tracks id.off ∙ (or_parts (is_new_in v id.off) (is_locked (locks_of v) id.off true) (reason same)).0)
        (λ same. (or_parts (is_new_in v id.off) (is_locked (locks_of v) id.off true) (reason same)).1));
    traced = refl;
  }
  by_reason refusal.NoObject reason tells = record {
    refused_first = free_gone c.tx id works (had_is_held v c.tx id true of_pool c.locks c.tracks reason.of_pool reason.has) (all_tracks_gone v c.tx c.tracks id.off ∙ reason.gone);
    traced = refl;
  }
  by_reason refusal.RootKept reason tells = record {
    refused_first = free_of_root c.tx id works (left_held reason) (left_there reason) (the_root v w header pool level under_way holds c id tells);
    traced = refl;
  }
  by_reason refusal.ActionsFull reason tells =
      let over : max_entries < entries_so_far v + 2 = reason.2 in
      let same : entries_of c.tx ≡ entries_so_far v = as_many_entries v w header pool level c in
      let full : passes_actions c.tx (Free id) ≡ true = and_from (not (is_among c.tx.made id.off)) (ltb max_entries (entries_of c.tx + 2))
      (ap not (tracks_made v c.tx c.tracks id.off ∙ reason.1)) (lt-ltb max_entries (entries_of c.tx + 2) (omega (arith, over, same))) in
      record {
        refused_first = free_roomless c.tx id works (left_held reason.0) (left_there reason.0) (not_the_root v w header pool level under_way holds c id tells) (unlisted v w header pool level under_way holds c id.off) full;
        traced = refl;
      }
  by_reason r reason tells = absurd reason

-- so the call is aborted
pub refused_free_aborts : (v next : View) (id : Oid) (r : Refusal) (level : ℕ) → 1 ≤ level → IsUnderWay v level stage.Work error.None → RefusesFree v next id r → WasAborted next (error.Refused r)
refused_free_aborts v next id r level some under_way refuses =
    aborts_from v next (Free id) (Some (Refused r)) level (error.Refused r) under_way refuses.tells.keeps (same_found v next refuses.tells.locks) (λ actions. refl) refuses.tells.call refuses.takes_back
    (λ w header pool holds same_id before may c.
    let is : IsRefusedFor c.tx (Free id) r = by_reason v w header pool level id some under_way holds same_id c r refuses.reason (tells_of_root v next (Free id) (Some (Refused r)) refuses.tells.keeps.entries refuses.tells.call pool may) in
    (refused_answers c.tx (Free id) r refl is, after_refused (Free id) (Some (Refused r)) c.tx r (record { traced = is.traced; told = refl })))
