-- What a call of a lane that works alone has entered as one log decides it: what it sets, and the changes of the heap that free and allocate its blocks.
use Rattle.std.proofs.Common.{◌≡◌, ◌≢◌, ℕ, Contains, List, [], ◌∷◌, ◌++◌, map, None, slice_index, refl, sym, ap, ◌∙◌, subst}
use Rattle.std.specs.Prelude.{nat_eq}
use Rattle.std.specs.List.{AllZip, IsDistinct}
use Rattle.std.proofs.lemmas.List.{map-append}
use Rattle.pm_header.specs.declared.header.Header.{Header}
use Rattle.pm_image.specs.HeapFaults.{heap_fault}
use Rattle.solo_model.specs.Actions.{Action}
use Rattle.pm_objects.specs.declared.calls.Operation.{Operation}
use Rattle.pm_objects.specs.declared.pool.PoolView.{PoolView}
use Rattle.solo_pending.specs.Pending.{entry_of as action_entry}
use Rattle.pm_record.specs.declared.redo.Redo.{Redo}
use Rattle.solo_redo.proofs.Whole.{ending_final}
use Rattle.solo_redo.specs.Entering.{ending, final_of}
use Rattle.solo_view.specs.Founds.{IsAlone}
use Rattle.solo_view.specs.Log.{Final}
use Rattle.solo_view.specs.View.{Lock, View}
use Rattle.solo_world.specs.Opening.{Opening}
use Rattle.solo_view.specs.Steps.{Step}
use Rattle.solo_crash.proofs.AloneCourse.{StandsAlone}
use Rattle.solo_crash.specs.Alone.{WorksAlone}
use Rattle.solo_crash.specs.HeapChanges.{HeapChange, entry_of}
use Rattle.solo_crash.specs.Pending.{published_in}
use Rattle.solo_crash.specs.Performing.{entry_for}
use Rattle.solo_crash.specs.Publishing.{Published, entry_published}
use Rattle.solo_crash.specs.Publishing.Published.{Changes, Performs}
use Rattle.solo_world.proofs.CrashLaw.{all_drained}
use Rattle.solo_epoch.proofs.CallPools.{holds_committed}
use Rattle.solo_epoch.proofs.GainedObjects.{stood}
use Rattle.solo_epoch.proofs.HeldApart.{opening_has_no_fault}
use Rattle.solo_epoch.specs.Epochs.{AllocatesIts, FreesIts, HasEnteredCall}
use Rattle.solo_made.specs.declared.objects.Freed.{Freed}
use Rattle.solo_made.specs.Entries.{entries_of, entry_freeing, entry_making}
use Rattle.solo_made.specs.Made.{BlockLists, new_of}
use Rattle.solo_tx.proofs.Committed.{finals_for}
use Rattle.solo_transaction.proofs.BlockChanges.{FreesAll, MakesAll, frees_all, frees_so, makes_all, makes_so}
use Rattle.solo_transaction.proofs.LogViews.{below_l, call_l, committed_u, drained_l, heads, logged_l, open_l, steps_to_draw, told_view}
use Rattle.solo_transaction.proofs.GoingWith.{lies_still}
use Rattle.solo_transaction.specs.AtWork.{IsUnderLock}
use Rattle.solo_transaction.specs.Published.{LogsCall}

-- ---- what the entries of all that is published make final

performs_final : (lanes : ℕ) (actions : List Action) → map (entry_published lanes) (map Performs actions) ≡ map entry_for actions
performs_final lanes [] = refl
performs_final lanes (a ∷ actions) = ap (λ (fs : List Final). entry_for a ∷ fs) (performs_final lanes actions)

changes_final : (lanes : ℕ) (changes : List HeapChange) → map (entry_published lanes) (map Changes changes) ≡ map (entry_of lanes) changes
changes_final lanes [] = refl
changes_final lanes (c ∷ changes) = ap (λ (fs : List Final). entry_of lanes c ∷ fs) (changes_final lanes changes)

all_final : (lanes : ℕ) (actions : List Action) (freed made : List HeapChange)
    → map (entry_published lanes) (map Performs actions ++ map Changes (freed ++ made)) ≡ map entry_for actions ++ (map (entry_of lanes) freed ++ map (entry_of lanes) made)
all_final lanes actions freed made =
    map-append (entry_published lanes) (map Performs actions) (map Changes (freed ++ made))
    ∙ (λ j. performs_final lanes actions j ++ (changes_final lanes (freed ++ made) ∙ map-append (entry_of lanes) freed made) j)

module _ {o : Opening} {header : Header} {pool : PoolView} {start v : View} {steps : List Step} {op : Operation} {actions : List Action} {blocks : BlockLists} {entries : List Redo}
    (c : LogsCall o header pool start steps op actions blocks v entries) where
  abbrev u : View
  u = told_view v op entries

  module _ (works_u : WorksAlone o header pool start (steps ++ steps_to_draw v op entries) u) where
    s_u : StandsAlone o header pool u
    s_u = stood o header pool start u (steps ++ steps_to_draw v op entries) works_u

    no_fault_u : heap_fault (slice_index u.words) o.lanes o.zones ≡ None
    no_fault_u = (holds_committed o header pool u s_u (open_l c) (λ slot within. all_drained u slot (drained_l c)) start c.works.begins (committed_u c).borne_out (committed_u c).committed).holds.no_fault

    alone_u : IsAlone u
    alone_u = (call_l c).lane.table ∙ c.alone

    under_u : (f : Freed) → Contains blocks.freed f → IsUnderLock u f.off f.lines
    under_u f there =
        let t : IsUnderLock v f.off f.lines = c.freed_under f there in
        record { lock = t.lock; held = subst (λ (ls : List Lock). Contains ls t.lock) (sym (call_l c).locks) t.held; write = t.write; block = t.block; place = t.place }

    not_root_u : (f : Freed) → Contains blocks.freed f → slice_index u.words 64 ≢ f.off
    not_root_u f there same = c.not_root f there (sym (heads c).root ∙ same)

    frees_u : FreesAll u blocks.freed
    frees_u = frees_all u blocks.freed (λ f there. frees_so o header pool u s_u alone_u (opening_has_no_fault o header pool start v steps c.works) no_fault_u f (under_u f there) (not_root_u f there))

    makes_u : MakesAll u blocks.made
    makes_u = makes_all u blocks.made
        (λ m there. makes_so o header pool u s_u alone_u (opening_has_no_fault o header pool start v steps c.works) no_fault_u m (lies_still v u (heads c) (new_of m) (c.made_within m there)))

    abbrev all_published : List Published
    all_published = map Performs (published_in u) ++ map Changes (frees_u.changes ++ makes_u.changes)

    -- of what the call sets, and of its blocks
    abbrev entries_at : ℕ → List Redo
    entries_at lanes = map action_entry actions ++ entries_of lanes blocks

    finals_at : map final_of (entries_at u.lanes) ≡ map (entry_published u.lanes) all_published
    finals_at =
        map-append final_of (map action_entry actions) (entries_of u.lanes blocks)
        ∙ ((λ j. (finals_for actions ∙ ap (map entry_for) (sym (committed_u c).published)) j
        ++ (map-append final_of (map (entry_freeing u.lanes) blocks.freed) (map (entry_making u.lanes) blocks.made) ∙ (λ k. frees_u.finals k ++ makes_u.finals k)) j)
        ∙ sym (all_final u.lanes (published_in u) frees_u.changes makes_u.changes))

    entries_final : map final_of entries ≡ map (entry_published u.lanes) all_published
    entries_final = ap (map final_of) (c.are ∙ ap entries_at (sym (call_l c).lane.lanes)) ∙ finals_at

    has_entered : HasEnteredCall u all_published
    has_entered =
        let lists = (committed_u c).lists in
        record {
          freed = frees_u.changes;
          made = makes_u.changes;
          are = refl;
          entries = logged_l c ∙ (map-append final_of entries (ending u ∷ []) ∙ (λ j. entries_final j ++ ending_final u j ∷ []));
          not_last = below_l c;
          frees = subst (AllZip (FreesIts u) frees_u.changes) lists.freed frees_u.frees;
          once_freed = subst (IsDistinct nat_eq) lists.freed c.freed_once;
          allocates = subst (AllZip (AllocatesIts u) makes_u.changes) lists.made makes_u.allocates;
          once_made = (committed_u c).committed.has.once;
        }

    pub entered_call : (all : List Published) × HasEnteredCall u all
    entered_call = (all_published, has_entered)
