-- How many stores the lines of a script make.
use Rattle.std.proofs.Common.{◌≡◌, ℕ, ◌+◌, ◌*◌, ◌≤◌, List, [], ◌∷◌, ◌++◌, length, map, Some, subst, arith, length-append}
use Rattle.std.proofs.lemmas.List.{length-map}
use Rattle.solo_crash.specs.Pending.{published_in}
use Rattle.solo_made.specs.Entries.{entries_of, entry_freeing, entry_making}
use Rattle.solo_made.specs.Made.{BlockLists}
use Rattle.pm_objects.specs.declared.history.Value.TheVariants.{Refused}
use Rattle.pm_objects.specs.declared.refusal.Refusal.{Refusal}
use Rattle.solo_pending.specs.Pending.{entry_of}
use Rattle.pm_record.specs.declared.redo.Redo.{Redo}
use Rattle.solo_script.specs.declared.script.ScriptId.{ScriptId}
use Rattle.solo_script.specs.declared.script.ScriptOp.{ScriptOp}
use Rattle.solo_tx.proofs.LineStores.{add_stores, commit_few, commit_listed_stores, give_up_few}
use Rattle.solo_tx.proofs.PlannedWords.{plan_short}
use Rattle.solo_tx.specs.Sequences.{commits}
use Rattle.solo_view.specs.Counts.{stores_among}
use Rattle.solo_view.specs.View.{View}
use Rattle.solo_world.specs.Sequences.{by_view}
use Rattle.solo_world.specs.declared.lane.Span.{Span}
use Rattle.solo_exec.specs.Bounds.{logs_of, recorded_count, words_of_range}
use Rattle.solo_exec.specs.Calls.{id_of, operation_of}
use Rattle.solo_exec.specs.Course.{add_calls, commit_calls, published_entries, refused_calls, spans_of}
use Rattle.solo_exec.specs.declared.calls.Names.{Names}
use Rattle.solo_exec.proofs.FewStores.{spans_count}

pub adds_few : (names : Names) (id : ScriptId) (off len : ℕ) (v : View) → stores_among (add_calls names id off len v) ≤ 8 * words_of_range names id off len
unfolding by_view
adds_few names id off len v =
    let all = add_stores (spans_of v) (id_of names id) off len v in
    let few = plan_short (spans_of v) ((id_of names id).off + off) len in omega (arith, all, few)

-- three for each entry of a full redo log, and two of the seal
pub listed_few : (spans : List Span) (entries : List Redo) (n : ℕ) (v : View) → length entries ≤ 63 → stores_among (commits spans entries n v) ≤ 1 + logs_of (length entries)
listed_few spans [] n v few = commit_few spans n v
listed_few spans (e ∷ entries) n v few = let all = commit_listed_stores spans (e ∷ entries) n v (omega arith) in omega (arith, all, few)

-- an entry for each action, and for each block
pub entries_count : (v : View) (blocks : BlockLists) → length (published_entries v ++ entries_of v.lanes blocks) ≡ length (published_in v) + (length blocks.freed + length blocks.made)
entries_count v blocks =
    let all = length-append (published_entries v) (entries_of v.lanes blocks) in
    let both = length-append (map (entry_freeing v.lanes) blocks.freed) (map (entry_making v.lanes) blocks.made) in
    let actions = length-map (published_in v) entry_of in
    let freed = length-map blocks.freed (entry_freeing v.lanes) in
    let made = length-map blocks.made (entry_making v.lanes) in omega (arith, all, both, actions, freed, made)

pub commits_few : (blocks : BlockLists) (n : ℕ) (v : View) → length (published_in v) + (length blocks.freed + length blocks.made) ≤ 63
    → stores_among (commit_calls blocks n v) ≤ 1 + logs_of (length (published_in v) + (length blocks.freed + length blocks.made))
unfolding by_view
commits_few blocks n v few =
    let count = entries_count v blocks in
    subst (λ k. stores_among (commits (spans_of v) (published_entries v ++ entries_of v.lanes blocks) n v) ≤ 1 + logs_of k) count
    (listed_few (spans_of v) (published_entries v ++ entries_of v.lanes blocks) n v (omega (arith, count, few)))

pub refused_few : (names : Names) (op : ScriptOp) (r : Refusal) (n : ℕ) (v : View) → stores_among (refused_calls names op r n v) ≤ recorded_count v + 1
unfolding by_view
refused_few names op r n v =
    let few = give_up_few (spans_of v) (operation_of names op) (Some (Refused r)) n v in
    let same = spans_count v.log.records in omega (arith, few, same)
