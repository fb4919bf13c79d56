-- A lane at work with its lists commits what it published and its objects, whose entries it lists behind those of the published actions.
use Rattle.std.proofs.Common.{◌≡◌, ◌⊎◌, ⊎_elim, inr, ℕ, ◌+◌, ◌≤◌, true, All, List, [], ◌∷◌, ◌++◌, map, length, length-append, Ok, None, Option, Some, refl, sym, ap, ◌∙◌, subst, arith}
use Rattle.std.proofs.lemmas.List.{append-nil, length-map}
use Rattle.std.proofs.lemmas.List.Elements.{All-append, All-weaker}
use Rattle.solo_crash.proofs.CallBlocks.{blocks_once_more}
use Rattle.solo_crash.specs.CallBlocks.{CallBlocks, KeepsBlocks, blocks_in}
use Rattle.solo_crash.specs.Pending.{published_in}
use Rattle.solo_crash.specs.Reserved.{IsBorneOut}
use Rattle.solo_made.specs.Entries.{IsBlockIn, block_freed, block_made, entries_of, entry_freeing, entry_making}
use Rattle.solo_made.specs.Made.{BlockLists, new_of}
use Rattle.solo_made.specs.declared.objects.Freed.{Freed}
use Rattle.solo_made.specs.declared.objects.Made.{Made}
use Rattle.pm_objects.specs.declared.calls.Operation.TheVariants.{Commit}
use Rattle.solo_pending.specs.Pending.{entry_of}
use Rattle.pm_record.specs.declared.redo.Redo.{Redo}
use Rattle.solo_redo.specs.Entering.{EntersHeap, MayEnter}
use Rattle.solo_view.specs.Steps.Step.{Tell}
use Rattle.solo_view.specs.View.{View}
use Rattle.solo_view.specs.Views.{after}
use Rattle.solo_world.proofs.Shapes.{IsOfSamePool}
use Rattle.solo_world.specs.Lanes.{IsSeenAs}
use Rattle.solo_world.specs.Opening.{Opening}
use Rattle.solo_world.specs.Sequences.{IsStopped, Runs, in_turn, settles}
use Rattle.solo_world.specs.declared.lane.Lane.{Lane}
use Rattle.solo_world.specs.declared.lane.Span.{Span}
use Rattle.solo_tx.proofs.CommitSteps.{behind_commit, commit_last, commit_lawful, deciding_of, stopped_among}
use Rattle.solo_tx.proofs.Committed.{committed, stopped_committing}
use Rattle.solo_tx.specs.AtWork.{IsAtWork, PublishesLocked}
use Rattle.solo_tx.specs.Ending.{IsEndedBy, IsStoppedAmong, IsStoppedIn, MayCommitCall, PublishesNoBlock, StopsDrawn}
use Rattle.solo_tx.specs.Generations.{CanPublish}
use Rattle.solo_tx.specs.Sequences.{commits, logs_listed}
use Rattle.solo_transaction.proofs.ActionsWithLists.{told_with_lists}
use Rattle.solo_transaction.specs.AtWork.{IsAtWorkWith}
use Rattle.solo_transaction.specs.Committing.{HasCommitted, MayPublishBlocks, commits_with}

-- where a map lists nothing, nothing was there
none_mapped : {A B : Type 0} (f : A → B) (xs : List A) → map f xs ≡ [] → xs ≡ []
none_mapped f [] none = refl
none_mapped f (x ∷ xs) none = absurd (let many = ap length none in omega (arith, many))

-- where the lane stopped in a commit of these entries, before the draw or behind it
abbrev StopsEither : {M : Type 0} → (M → View → Type 0) → Lane M → Lane M → List Span → List Redo → Type 0
StopsEither at lane new spans entries =
    ((new.drawn ≡ lane.drawn) × IsStopped (at lane.memory) (at new.memory) (in_turn settles (logs_listed entries))) ⊎ ((new.drawn ≡ Some new.last) × StopsDrawn (at lane.memory) (at new.memory) spans entries new.last)

module _ {M : Type 0} (o : Opening) (at : M → View → Type 0) (lane : Lane M) (blocks : BlockLists) (v : View) (is : IsAtWorkWith o at lane blocks v) where
  -- the commit of an inner level leaves it what it has
  pub stays_with : (next : Lane M) → next.locks ≡ lane.locks → IsAtWork o at next (after v (Tell Commit None)) → IsAtWorkWith o at next blocks (after v (Tell Commit None))
  stays_with next locks work = told_with_lists o at lane next blocks v is locks Commit None (blocks_once_more v (after v (Tell Commit None)) Commit None refl refl) (refl, refl) (λ root. tt) work

  -- where it publishes no change of a block it lists none
  no_entries : PublishesNoBlock v → entries_of v.lanes blocks ≡ []
  no_entries no_block =
      let none : ((blocks_in v).made ≡ []) × ((blocks_in v).freed ≡ []) = ⊎_elim
      (λ (keeps : KeepsBlocks v). (ap (λ (b : CallBlocks). b.made) keeps.blocks, ap (λ (b : CallBlocks). b.freed) keeps.blocks))
      (λ (borne : ((blocks_in v).made ≡ []) × ((blocks_in v).freed ≡ []) × IsBorneOut v × PublishesLocked v). (borne.0, borne.1)) no_block in
      let freed : blocks.freed ≡ [] = none_mapped (λ (f : Freed). f.off) blocks.freed (is.lists.freed ∙ none.1) in
      let made : blocks.made ≡ [] = none_mapped new_of blocks.made (is.lists.made ∙ none.0) in
      λ i. map (entry_freeing v.lanes) (freed i) ++ map (entry_making v.lanes) (made i)

  module _ (can : MayPublishBlocks v blocks) where
    pub lists_few : length lane.entries.items + (length blocks.freed + length blocks.made) ≤ 63
    lists_few = let many = ap length is.work.published.listed ∙ length-map (published_in v) entry_of in let few = can.few in omega (arith, many, few)

    pub freed_in_pool : All (λ (f : Freed). IsBlockIn lane.shape.lanes lane.shape.zones (block_freed f)) blocks.freed
    freed_in_pool = let shape = is.work.seen.shape in subst (λ lanes. All (λ (f : Freed). IsBlockIn lanes lane.shape.zones (block_freed f)) blocks.freed) shape.lanes (subst (λ zones. All (λ (f : Freed). IsBlockIn v.lanes zones (block_freed f)) blocks.freed) shape.zones can.freed)

    pub made_in_pool : All (λ (m : Made). IsBlockIn lane.shape.lanes lane.shape.zones (block_made m)) blocks.made
    made_in_pool = let shape = is.work.seen.shape in subst (λ lanes. All (λ (m : Made). IsBlockIn lanes lane.shape.zones (block_made m)) blocks.made) shape.lanes (subst (λ zones. All (λ (m : Made). IsBlockIn v.lanes zones (block_made m)) blocks.made) shape.zones can.made)

    abbrev entries : List Redo
    entries = lane.entries.items ++ entries_of v.lanes blocks

    can_publish : CanPublish v entries
    can_publish = record {
      unentered = is.work.no_entries;
      few =
          (let all = length-append lane.entries.items (entries_of v.lanes blocks) in
          let both = length-append (map (entry_freeing v.lanes) blocks.freed) (map (entry_making v.lanes) blocks.made) in
          let freed = length-map blocks.freed (entry_freeing v.lanes) in
          let made = length-map blocks.made (entry_making v.lanes) in
          let few = lists_few in omega (arith, all, both, freed, made, few));
      each = All-append (MayEnter v) lane.entries.items (entries_of v.lanes blocks)
          is.work.published.may_enter
          (All-weaker (EntersHeap v) (MayEnter v) (λ e heap. inr heap) (entries_of v.lanes blocks) can.enters);
      may_come = is.work.may_come;
    }

    -- once the lane lists them
    module _ (next : Lane M) (lists : next.entries.items ≡ lane.entries.items ++ entries_of lane.shape.lanes blocks) (fields : next ≡ record lane { entries = next.entries }) where
      listed : next.entries.items ≡ entries
      listed = lists ∙ ap (λ lanes. lane.entries.items ++ entries_of lanes blocks) (sym is.work.seen.shape.lanes)

      seen : IsSeenAs at next v
      seen =
          let s = is.work.seen in let shape = s.shape in
          subst (λ (l : Lane M). IsSeenAs at l v) (sym fields)
          (record { memory = s.memory; pool = s.pool; shape = record { lanes = shape.lanes; zones = shape.zones; size = shape.size }; locks = s.locks; records = s.records; drawn = s.drawn; last = s.last })

      can_next : CanPublish v next.entries.items
      can_next = subst (CanPublish v) (sym listed) can_publish

      pub may_commit : MayCommitCall at next
      may_commit = (v, (seen, is.work.working, can_next))

      module _ (new : Lane M) where
        -- the steps are these
        same_steps : commits next.records.items next.entries.items new.last ≡ commits_with lane blocks v.lanes new.last
        same_steps = ap (λ (l : Lane M). commits l.records.items next.entries.items new.last) fields ∙ ap (λ (es : List Redo). commits lane.records.items es new.last) listed

        pub has_committed : Runs {T = Unit {0}} (at next.memory) (at new.memory) (commits next.records.items next.entries.items new.last) (Ok tt) → new.locks.items ≡ next.locks.items → new.records.items ≡ [] → new.entries.items ≡ [] → new.drawn ≡ Some new.last → IsOfSamePool next new
            → new.stopped ≡ next.stopped → HasCommitted at new v (commits_with lane blocks v.lanes new.last)
        has_committed ran locks none unlisted drawn pool stops =
            let working = is.work.working in
            let decides = deciding_of v working next.records.items next.entries.items seen.records can_next new.last in
            let lawful = commit_lawful v working next.records.items next.entries.items new.last decides in
            let last = commit_last v working next.records.items next.entries.items new.last decides in
            subst (HasCommitted at new v) same_steps
            (record {
              ready = lawful.0;
              behind = behind_commit at next v seen working can_next new is.work.lines ran locks none unlisted drawn pool (stops ∙ (ap (λ (l : Lane M). l.stopped) fields ∙ is.work.unstopped));
              over = lawful.1;
              told = last.0;
              entries = last.1.entries;
            })

        pub has_stopped : StopsEither at next new next.records.items next.entries.items → new.stopped ≡ true → IsStoppedAmong at new v (commits_with lane blocks v.lanes new.last) Commit None
        has_stopped stops says = subst (λ steps. IsStoppedAmong at new v steps Commit None) same_steps (stopped_among at next v seen is.work.working can_next new stops says)

        -- where it publishes no change of a block, it is a commit of what it published alone
        module _ (no_block : PublishesNoBlock v) (outer : lane.level ≡ 1) where
          published_alone : next ≡ record lane { entries = next.entries } × (next.entries.items ≡ lane.entries.items)
          published_alone = (fields, listed ∙ ap (λ (es : List Redo). lane.entries.items ++ es) (no_entries no_block) ∙ append-nil lane.entries.items)

          as_alone : (P : M → List Span → List Redo → Option ℕ → Type 0) → P next.memory next.records.items next.entries.items next.drawn → P lane.memory lane.records.items lane.entries.items lane.drawn
          as_alone P holds = subst (λ (es : List Redo). P lane.memory lane.records.items es lane.drawn) published_alone.1 (subst (λ (l : Lane M). P l.memory l.records.items next.entries.items l.drawn) fields holds)

          pub has_ended : Runs {T = Unit {0}} (at next.memory) (at new.memory) (commits next.records.items next.entries.items new.last) (Ok tt) → new.locks.items ≡ next.locks.items → new.records.items ≡ [] → new.entries.items ≡ [] → new.drawn ≡ Some new.last → IsOfSamePool next new
              → new.stopped ≡ next.stopped → IsEndedBy at new v (commits lane.records.items lane.entries.items new.last) Commit None
          has_ended ran locks none unlisted drawn pool stops =
              committed at lane o v is.work no_block outer new
              (as_alone (λ memory spans es drawn. Runs {T = Unit {0}} (at memory) (at new.memory) (commits spans es new.last) (Ok tt)) ran) (locks ∙ ap (λ (l : Lane M). l.locks.items) fields) none unlisted drawn
              (record { pool = pool.pool ∙ ap (λ (l : Lane M). l.pool) fields; shape = pool.shape ∙ ap (λ (l : Lane M). l.shape) fields }) (stops ∙ ap (λ (l : Lane M). l.stopped) fields)

          pub has_stopped_ended : StopsEither at next new next.records.items next.entries.items → new.stopped ≡ true → IsStoppedIn at new v (commits lane.records.items lane.entries.items new.last) Commit None
          has_stopped_ended stops says =
              stopped_committing at lane o v is.work no_block outer new
              (as_alone (λ memory spans es drawn. ((new.drawn ≡ drawn) × IsStopped (at memory) (at new.memory) (in_turn settles (logs_listed es))) ⊎ ((new.drawn ≡ Some new.last) × StopsDrawn (at memory) (at new.memory) spans es new.last)) stops) says
