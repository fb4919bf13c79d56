-- A commit of a lane that works alone, with entries, is decided by one log: so it publishes its call, and that has ended behind it. Wherever the lane stops on the way, it
-- works alone still, or it publishes.
use Rattle.std.proofs.Common.{◌≡◌, ℕ, ◌<◌, ◌≤◌, All, List, [], ◌∷◌, ◌++◌, length, length-append, map, None, slice_index, take, refl, sym, ap, ◌∙◌, subst, arith}
use Rattle.std.specs.Prelude.{nat_eq}
use Rattle.std.specs.List.{IsDistinct}
use Rattle.std.proofs.lemmas.List.{append-nil, length-map}
use Rattle.pm_header.specs.declared.header.Header.{Header}
use Rattle.pm_objects.specs.declared.calls.Operation.TheVariants.{Commit}
use Rattle.pm_objects.specs.declared.history.TxErr.TheVariants as error
use Rattle.pm_objects.specs.declared.pool.PoolView.{PoolView}
use Rattle.solo_model.specs.declared.stage.Stage.TheVariants as model_stage
use Rattle.solo_pending.specs.Pending.{entry_of}
use Rattle.pm_record.specs.declared.redo.Redo.{Redo}
use Rattle.solo_redo.specs.Entering.{MayEnter}
use Rattle.solo_view.specs.Steps.{Step}
use Rattle.solo_view.specs.View.{View}
use Rattle.solo_view.specs.Views.{after_all}
use Rattle.solo_world.specs.Opening.{Opening}
use Rattle.solo_world.specs.Records.{generation_of}
use Rattle.solo_world.specs.Sequences.{Ready, Sequence}
use Rattle.solo_world.specs.declared.lane.Lane.{Lane}
use Rattle.solo_world.specs.declared.lane.Span.{Span}
use Rattle.solo_crash.proofs.CallBlocks.{blocks_once_more}
use Rattle.solo_crash.proofs.Committed.{commit_is_told}
use Rattle.solo_crash.proofs.PendingOn.{published_once_more}
use Rattle.solo_crash.proofs.StillReserved.{HasSameHeads, borne_on}
use Rattle.solo_crash.specs.OpenCall.{IsUnderWay}
use Rattle.solo_crash.specs.Pending.{published_in}
use Rattle.solo_epoch.specs.Epochs.{HasEnded}
use Rattle.solo_made.specs.Entries.{entries_of, entry_freeing, entry_making}
use Rattle.solo_made.specs.Made.{BlockLists, ListsBlocks}
use Rattle.solo_tx.proofs.BorneOut.{same_heads_outside}
use Rattle.solo_tx.specs.Sequences.{commits, decides_all}
use Rattle.solo_transaction.proofs.BlocksAtWork.{freed_not_root, freed_once, freed_under, made_lies, may_publish_blocks}
use Rattle.solo_transaction.proofs.EndedLog.{log_drawn, log_ends, log_keeps_page, log_publishes, log_stops, log_stops_in, log_unlocks}
use Rattle.solo_transaction.specs.Committing.{MayPublishBlocks}
use Rattle.solo_transaction.specs.Published.{CommitsAlone, HasDrawn, HasOwnCounts, IsCommittedWith, IsCommittingAlone, IsCommittingIn, IsToldBy, LogsCall, logs_call}

-- with entries, the commit is of one log
pub by_one_log : (spans : List Span) (entries : List Redo) (n : ℕ) → 1 ≤ length entries → logs_call Commit entries n ≡ commits spans entries n
unfolding logs_call commits decides_all
by_one_log spans [] n some = absurd (omega (arith, some))
by_one_log spans (e ∷ entries) n some = refl

module _ {M : Type 0} (o : Opening) (header : Header) (pool : PoolView) (start v : View) (steps : List Step) (at : M → View → Type 0) (lane : Lane M) (blocks : BlockLists) (all : List Redo) (spans : List Span) (n : ℕ)
    (c : CommitsAlone o header pool start steps at lane blocks v all) where
  may_publish : MayPublishBlocks v blocks
  may_publish = may_publish_blocks o at lane blocks header pool start v steps c.works c.work

  are : all ≡ map entry_of (published_in v) ++ entries_of v.lanes blocks
  are = c.are ∙ ap (λ (es : List Redo). es ++ entries_of v.lanes blocks) c.work.work.published.listed

  few : length all ≤ 63
  few =
      let listed = ap length are ∙ length-append (map entry_of (published_in v)) (entries_of v.lanes blocks) in
      let blocks_all = length-append (map (entry_freeing v.lanes) blocks.freed) (map (entry_making v.lanes) blocks.made) in
      let freed = length-map blocks.freed (entry_freeing v.lanes) in let made = length-map blocks.made (entry_making v.lanes) in
      let sets = length-map (published_in v) entry_of in let most = may_publish.few in
      omega (arith, listed, blocks_all, freed, made, sets, most)

  under_way : IsUnderWay v 1 model_stage.Work error.None
  under_way = subst (λ k. IsUnderWay v k model_stage.Work error.None) c.outer c.work.work.under_way

  told : (next : View) → IsToldBy v next Commit → IsCommittedWith next (published_in v) blocks
  told next is =
      let t = is.tells in
      let heads : HasSameHeads v next = same_heads_outside v next under_way.in_lanes t.keeps.lanes t.keeps.zones is.reserved is.words.words in
      record {
        committed = commit_is_told v next under_way t is.records is.words;
        borne_out = borne_on v next heads Commit None t.keeps.entries t.call (refl, refl) (λ root. tt) c.work.borne_out;
        published = published_once_more v next Commit None t.keeps.entries t.call ∙ append-nil (published_in v);
        lists = subst (ListsBlocks blocks) (sym (blocks_once_more v next Commit None t.keeps.entries t.call)) c.work.lists;
      }

  pub logs : LogsCall o header pool start steps Commit (published_in v) blocks v all
  logs = record {
    works = c.works;
    working = c.work.work.working;
    no_entries = c.work.work.no_entries;
    alone = c.work.alone;
    not_making = c.work.not_making;
    are = are;
    some = c.some;
    few = few;
    may_set = subst (All (MayEnter v)) c.work.work.published.listed c.work.work.published.may_enter;
    enters_heap = may_publish.enters;
    told = told;
    freed_once = subst (IsDistinct nat_eq) (sym c.work.lists.freed) (freed_once o at lane blocks header pool start v steps c.works c.work);
    freed_under = freed_under o at lane blocks header pool start v steps c.works c.work;
    not_root = freed_not_root o at lane blocks header pool start v steps c.works c.work;
    made_within = made_lies o at lane blocks header pool start v steps c.works c.work;
  }

  -- what holds of the steps of one log holds of the commit's
  of_commit : (P : Sequence → Type 0) → P (logs_call Commit all n) → P (commits spans all n)
  of_commit P holds = subst P (by_one_log spans all n c.some) holds

  pub commit_publishes : Ready v (commits spans all n v) → HasOwnCounts (after_all v (commits spans all n v)) → HasDrawn o header pool n (after_all v (commits spans all n v))
  commit_publishes = of_commit (λ (s : Sequence). Ready v (s v) → HasOwnCounts (after_all v (s v)) → HasDrawn o header pool n (after_all v (s v))) (log_publishes logs n)

  pub commit_ends : Ready v (commits spans all n v) → HasOwnCounts (after_all v (commits spans all n v)) → HasEnded o header pool (after_all v (commits spans all n v))
  commit_ends = of_commit (λ (s : Sequence). Ready v (s v) → HasOwnCounts (after_all v (s v)) → HasEnded o header pool (after_all v (s v))) (log_ends logs n)

  pub commit_keeps_page : Ready v (commits spans all n v) → HasOwnCounts (after_all v (commits spans all n v)) → (i : ℕ) → i < 512 → slice_index (after_all v (commits spans all n v)).words i ≡ slice_index o.words i
  commit_keeps_page = of_commit (λ (s : Sequence). Ready v (s v) → HasOwnCounts (after_all v (s v)) → (i : ℕ) → i < 512 → slice_index (after_all v (s v)).words i ≡ slice_index o.words i) (log_keeps_page logs n)

  pub commit_unlocks : Ready v (commits spans all n v) → (after_all v (commits spans all n v)).zone_locks ≡ []
  commit_unlocks = of_commit (λ (s : Sequence). Ready v (s v) → (after_all v (s v)).zone_locks ≡ []) (log_unlocks logs n)

  pub commit_stops_in : (made : ℕ) → Ready v (commits spans all n v) → HasOwnCounts (after_all v (take made (commits spans all n v))) → IsCommittingIn (generation_of v) o header pool start steps n (after_all v (take made (commits spans all n v)))
  commit_stops_in made =
      of_commit (λ (s : Sequence). Ready v (s v) → HasOwnCounts (after_all v (take made (s v))) → IsCommittingIn (generation_of v) o header pool start steps n (after_all v (take made (s v)))) (λ ready own. log_stops_in logs n ready made own)

  pub commit_stops : (made : ℕ) → Ready v (commits spans all n v) → HasOwnCounts (after_all v (take made (commits spans all n v))) → IsCommittingAlone o header pool start steps n (after_all v (take made (commits spans all n v)))
  commit_stops made =
      of_commit (λ (s : Sequence). Ready v (s v) → HasOwnCounts (after_all v (take made (s v))) → IsCommittingAlone o header pool start steps n (after_all v (take made (s v)))) (λ ready own. log_stops logs n ready made own)

  pub commit_drawn : (made : ℕ) → Ready v (commits spans all n v) → HasOwnCounts (after_all v (take made (commits spans all n v))) → length v.entries < length (after_all v (take made (commits spans all n v))).entries
      → (has : HasDrawn o header pool n (after_all v (take made (commits spans all n v)))) × (generation_of has.drawn ≡ generation_of v)
  commit_drawn made =
      of_commit (λ (s : Sequence). Ready v (s v) → HasOwnCounts (after_all v (take made (s v))) → length v.entries < length (after_all v (take made (s v))).entries
      → (has : HasDrawn o header pool n (after_all v (take made (s v)))) × (generation_of has.drawn ≡ generation_of v)) (λ ready own more. log_drawn logs n ready made own more)
