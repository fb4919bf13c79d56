-- What a lane alone has reserved and pending stands behind its transaction's commit, be it decided by its log or not.
use Rattle.std.proofs.Common.{◌≡◌, ℕ, Contains, List, [], ◌∷◌, ◌++◌, map, None, refl, sym, subst, arith}
use Rattle.std.proofs.lemmas.List.Elements.{All-contains}
use Rattle.pm_header.specs.declared.header.Header.{Header}
use Rattle.solo_model.specs.Actions.{Pending, Reservation}
use Rattle.pm_objects.specs.declared.calls.Operation.TheVariants.{Commit}
use Rattle.pm_objects.specs.declared.pool.PoolView.{PoolView}
use Rattle.pm_record.specs.declared.redo.Redo.{Redo}
use Rattle.solo_view.specs.Steps.{Step}
use Rattle.solo_view.specs.View.{View}
use Rattle.solo_view.specs.Views.{after_all}
use Rattle.solo_world.specs.Lanes.{span_of}
use Rattle.solo_world.specs.Opening.{Opening}
use Rattle.solo_world.specs.Sequences.{Ready, Sequence}
use Rattle.solo_world.specs.declared.lane.Lane.{Lane}
use Rattle.solo_world.specs.declared.lane.Span.{Span}
use Rattle.solo_crash.specs.Alone.{WorksAlone}
use Rattle.solo_crash.specs.CallBlocks.{reserved_in, reserved_object}
use Rattle.solo_crash.specs.Operations.{KeepsWords, Tells}
use Rattle.solo_crash.specs.Pending.{pending_in}
use Rattle.solo_crash.specs.Reserving.{HasReserved}
use Rattle.solo_crash.proofs.Includes.{made_member}
use Rattle.solo_crash.proofs.KeptWords.{keeps_known}
use Rattle.solo_crash.proofs.PendingOn.{pending_once_more}
use Rattle.solo_crash.proofs.ReservedStays.{told_stays}
use Rattle.solo_crash.proofs.StillReserved.{HasSameHeads}
use Rattle.solo_made.specs.Entries.{entries_of}
use Rattle.solo_made.specs.Made.{BlockLists}
use Rattle.solo_tx.specs.Sequences.{commits}
use Rattle.solo_transaction.proofs.EndedCommit.{by_one_log, logs}
use Rattle.solo_transaction.proofs.EndedLog.{at_end}
use Rattle.solo_transaction.proofs.GoingWith.{lies_still}
use Rattle.solo_transaction.proofs.LogViews.{heads, is_told, performed_view, told_view}
use Rattle.solo_transaction.proofs.RestingViews.{LeavesStanding, left_rests}
use Rattle.solo_transaction.proofs.StandsCommitted.{published_leaves}
use Rattle.solo_transaction.proofs.StandsUnpublished.{plainly_heads, plainly_tells, plainly_words, told_plainly, unpublished_leaves}
use Rattle.solo_transaction.specs.AtWork.{IsAtWorkWith, LiesInReserved}
use Rattle.solo_transaction.specs.Committing.{commits_with}
use Rattle.solo_transaction.specs.Published.{CommitsAlone, HasOwnCounts, logs_call}
use Rattle.solo_transaction.specs.Resting.{StandsAtRest}

module _ {M : Type 0} (o : Opening) (header : Header) (pool : PoolView) (start v : View) (steps : List Step) (at : M → View → Type 0) (lane : Lane M) (blocks : BlockLists) (n : ℕ)
    (works : WorksAlone o header pool start steps v) (is : IsAtWorkWith o at lane blocks v) (outer : lane.level ≡ 1) where
  -- what is reserved stands once the commit is told
  module _ (u : View) (tells : Tells v u Commit None) (words : KeepsWords v u) (same : HasSameHeads v u) where
    still_has : HasReserved u
    still_has = told_stays v u Commit None is.has_reserved tells (keeps_known v u words) (refl, refl) refl

    still_lies : (r : Reservation) → Contains (pending_in u).reserved r → LiesInReserved u (reserved_object r)
    still_lies r there =
        let before : Contains (pending_in v).reserved r = subst (λ (p : Pending). Contains p.reserved r) (pending_once_more v u Commit None tells.keeps.entries tells.call) there in
        lies_still v u same (reserved_object r) (All-contains (LiesInReserved v) (reserved_in v) (reserved_object r) is.reserved_within (made_member reserved_object (pending_in v).reserved r before))

    still_rests : (y : View) → LeavesStanding u y → StandsAtRest y
    still_rests y left =
        left_rests u y (let low = is.work.working.area.lane in let l = tells.keeps.lane in let ls = tells.keeps.lanes in let k = left.lane in let ks = left.lanes in omega (arith, low, l, ls, k, ks)) still_has left

  abbrev all : List Redo
  all = lane.entries.items ++ entries_of v.lanes blocks

  -- the records that the lane lists are those of its view
  abbrev Rests : List Span → List Redo → Type 0
  Rests spans entries = StandsAtRest (after_all v (commits spans entries n v))

  by_entries : (entries : List Redo) → all ≡ entries → Ready v (commits lane.records.items entries n v) → HasOwnCounts (after_all v (commits lane.records.items entries n v)) → Rests lane.records.items entries
  by_entries [] are ready own =
      let w : IsAtWorkWith o at lane blocks v = is in
      let u : View = told_plainly v is.work.working is.work.no_entries n in
      let t = plainly_tells v is.work.working is.work.no_entries n in
      let words = plainly_words v is.work.working is.work.no_entries n in
      let same = plainly_heads v is.work.working is.work.no_entries n in
      subst (λ (spans : List Span). Rests spans []) (sym is.work.seen.records)
      (still_rests u t words same (after_all v (commits (map span_of v.log.records) [] n v))
      (unpublished_leaves v is.work.working is.work.no_entries n (still_has u t words same) (still_lies u t words same)))
  by_entries (e ∷ entries) are ready own =
      let alone : CommitsAlone o header pool start steps at lane blocks v (e ∷ entries) = record { works = works; work = is; outer = outer; are = sym are; some = omega arith } in
      let c = logs o header pool start v steps at lane blocks (e ∷ entries) lane.records.items n alone in
      let one_log = by_one_log lane.records.items (e ∷ entries) n (omega arith) in
      let told = is_told c in
      let ready_log : Ready v (logs_call Commit (e ∷ entries) n v) = subst (λ (s : Sequence). Ready v (s v)) (sym one_log) ready in
      let own_log : HasOwnCounts (after_all v (logs_call Commit (e ∷ entries) n v)) = subst (λ (s : Sequence). HasOwnCounts (after_all v (s v))) (sym one_log) own in
      let u : View = told_view v Commit (e ∷ entries) in
      let rests = still_rests u told.tells told.words (heads c) (performed_view v Commit (e ∷ entries) n)
      (published_leaves c n ready_log own_log (still_has u told.tells told.words (heads c)) (still_lies u told.tells told.words (heads c))) in
      subst (λ (s : Sequence). StandsAtRest (after_all v (s v))) one_log (subst StandsAtRest (sym (at_end c n ready_log)) rests)

  pub commit_leaves_standing : Ready v (commits_with lane blocks v.lanes n v) → HasOwnCounts (after_all v (commits_with lane blocks v.lanes n v)) → StandsAtRest (after_all v (commits_with lane blocks v.lanes n v))
  commit_leaves_standing = by_entries all refl
