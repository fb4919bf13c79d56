-- How many stores the lines of a transaction make.
use Rattle.std.proofs.Common.{◌≡◌, ℕ, ◌+◌, ◌*◌, ◌/◌, ◌≤◌, List, [], ◌∷◌, ◌++◌, length, length-append, None, Option, Some, refl, arith}
use Rattle.solo_crash.specs.Writes.{written_word}
use Rattle.pm_objects.specs.declared.calls.Operation.{Operation}
use Rattle.pm_objects.specs.declared.calls.Operation.TheVariants.{AddRange, Commit, Read, Write}
use Rattle.pm_objects.specs.declared.history.Value.{Value}
use Rattle.pm_objects.specs.declared.history.Value.TheVariants.{Bytes}
use Rattle.pm_objects.specs.declared.ids.Oid.{Oid}
use Rattle.pm_record.specs.Redo.{op_code}
use Rattle.pm_record.specs.declared.redo.Redo.{Redo}
use Rattle.solo_redo.specs.Entering.{ending}
use Rattle.solo_redo.specs.Sequences.{applies, applies_each, applies_entry, ending_of, entry_at, logs, performs, performs_on, stores_two, writes_entries, writes_log, writes_pair, writes_pairs, writes_seal}
use Rattle.solo_undo.specs.Sequences.{persists, restores, retires, snapshots}
use Rattle.solo_undo.specs.Spans.{plan_of, words_in}
use Rattle.solo_view.specs.Counts.{stores_among}
use Rattle.solo_view.specs.Area.{area_word}
use Rattle.solo_view.specs.Steps.Step.{Drain, Draw, Flush, Tell}
use Rattle.solo_view.specs.View.{View}
use Rattle.solo_world.specs.Entries.{entry_word}
use Rattle.solo_world.specs.Sequences.{in_turn, one, settles, stores}
use Rattle.solo_world.specs.declared.lane.Span.{Span}
use Rattle.solo_tx.proofs.StoreCounts.{HasStores, none_in_looks_from, none_in_nothing, none_in_one, none_in_settles, one_in_does, one_in_stores, restore_stores, retire_stores, snapshot_stores, stores_by_lane, stores_in_turn, stores_of_each, stores_with_generation, stores_with_word}
use Rattle.solo_tx.specs.Ranges.{adds_range, reads_range, writes_range}
use Rattle.solo_tx.specs.Sequences.{commits, decides, decides_all, ends_call, gives_up, performs_logged, publishes, reads, retires_any, takes_back, undoes, word_count, writes, writes_word}

pub add_stores : (spans : List Span) (id : Oid) (off len : ℕ) → HasStores (8 * length (plan_of spans (id.off + off) len)) (adds_range spans id off len)
unfolding adds_range
add_stores spans id off len =
    let n : ℕ = 8 * length (plan_of spans (id.off + off) len) in
    stores_in_turn n 0 n (snapshots spans (id.off + off) len) (one (Tell (AddRange id off len) None)) (omega arith)
    (snapshot_stores spans (id.off + off) len) (none_in_one (Tell (AddRange id off len) None) refl)

pub write_stores : (id : Oid) (off : ℕ) (bytes : List ℕ) → HasStores (word_count (id.off + off) (length bytes)) (writes_range id off bytes)
unfolding writes_range writes writes_word
write_stores id off bytes =
    let place : ℕ = id.off + off in
    let n : ℕ = word_count (id.off + off) (length bytes) in
    stores_in_turn (n * 1) 0 n (writes place bytes) (one (Tell (Write id off bytes) None)) (omega arith)
    (stores_of_each (λ i. writes_word place bytes (place / 8 + i)) 1 n
    (λ i. stores_with_word 1 (place / 8 + i) (λ x. stores (place / 8 + i) (written_word place bytes (place / 8 + i) x)) (λ x. one_in_stores (place / 8 + i) (written_word place bytes (place / 8 + i) x))))
    (none_in_one (Tell (Write id off bytes) None) refl)

pub read_stores : (id : Oid) (off len : ℕ) (bytes : List ℕ) → HasStores 0 (reads_range id off len bytes)
unfolding reads_range reads
read_stores id off len bytes =
    stores_in_turn 0 0 0 (reads (id.off + off) len) (one (Tell (Read id off len) (Some (Bytes bytes)))) (omega arith)
    (none_in_looks_from ((id.off + off) / 8) (word_count (id.off + off) len)) (none_in_one (Tell (Read id off len) (Some (Bytes bytes))) refl)

end_stores : (operation : Operation) (reply : Option Value) (n : ℕ) → HasStores 0 (ends_call operation reply n)
unfolding ends_call
end_stores operation reply n = stores_in_turn 0 0 0 (one (Tell operation reply)) (one (Draw n)) (omega arith) (none_in_one (Tell operation reply) refl) (none_in_one (Draw n) refl)

-- one for the generation, where there are records
abbrev generations : List Span → ℕ
generations [] = 0
generations (s ∷ spans) = 1

retire_any_stores : (spans : List Span) → HasStores (generations spans) (retires_any spans)
unfolding retires_any
retire_any_stores [] = none_in_nothing
retire_any_stores (s ∷ spans) = retire_stores

commit_stores : (spans : List Span) (n : ℕ) → HasStores (generations spans) (commits spans [] n)
unfolding commits decides_all decides
commit_stores spans n =
    stores_in_turn 0 (generations spans) (generations spans) settles (decides spans n) (omega arith) none_in_settles
    (stores_in_turn 0 (generations spans) (generations spans) (ends_call Commit None n) (retires_any spans) (omega arith) (end_stores Commit None n) (retire_any_stores spans))

pub commit_few : (spans : List Span) (n : ℕ) (v : View) → stores_among (commits spans [] n v) ≤ 1
commit_few [] n v = let e = commit_stores [] n v in omega (arith, e)
commit_few (s ∷ spans) n v = let e = commit_stores (s ∷ spans) n v in omega (arith, e)

-- two for each entry that is logged, and for the one that ends the generation
pair_stores : (lane i : ℕ) (e : Redo) → HasStores 2 (writes_pair lane i e)
unfolding writes_pair stores_two
pair_stores lane i e =
    let word : ℕ = entry_word lane i in
    stores_in_turn 1 1 2 (stores word (e.place + op_code e.op)) (stores (word + 1) e.value) (omega arith) (one_in_stores word (e.place + op_code e.op)) (one_in_stores (word + 1) e.value)

entries_stores : (lane k : ℕ) (all : List Redo) → length all ≡ k → HasStores (2 * k) (writes_entries lane all)
unfolding writes_entries writes_pairs
entries_stores lane k all many =
    stores_in_turn (length all * 2) 0 (2 * k) (writes_pairs lane all) settles (omega (arith, many))
    (stores_of_each (λ i. writes_pair lane i (entry_at all i)) 2 (length all) (λ i. pair_stores lane i (entry_at all i))) none_in_settles

log_stores : (entries : List Redo) → HasStores (2 * (length entries + 1)) (logs entries)
unfolding logs
log_stores entries =
    stores_with_generation (2 * (length entries + 1)) (writes_log entries)
    (λ lane x. entries_stores lane (length entries + 1) (entries ++ ending_of lane x ∷ []) (length-append entries (ending_of lane x ∷ [])))

-- one for the seal, one for each entry that is applied, and one that clears the seal
seal_stores : (lane n : ℕ) → HasStores 1 (writes_seal lane n)
unfolding writes_seal persists
seal_stores lane n =
    let line : ℕ = area_word lane / 8 in
    stores_in_turn 1 0 1 (stores (area_word lane + 1) n) (persists line) (omega arith) (one_in_stores (area_word lane + 1) n)
    (stores_in_turn 0 0 0 (one (Flush line)) (one Drain) (omega arith) (none_in_one (Flush line) refl) (none_in_one Drain refl))

apply_stores : (all : List Redo) → HasStores (length all) (applies all)
unfolding applies applies_each applies_entry
apply_stores all =
    stores_in_turn (length all * 1) 0 (length all) (applies_each all) settles (omega arith)
    (stores_of_each (λ i. applies_entry (entry_at all i)) 1 (length all) (λ i. one_in_does (entry_at all i).op ((entry_at all i).place / 8) (entry_at all i).value)) none_in_settles

perform_stores : (all : List Redo) → HasStores (length all + 2) (performs all)
unfolding performs performs_on
perform_stores all =
    stores_by_lane (length all + 2) (λ lane. performs_on lane all)
    (λ lane.
    stores_in_turn 1 (length all + 1) (length all + 2) (writes_seal lane (length all)) (in_turn (applies all) (writes_seal lane 0)) (omega arith) (seal_stores lane (length all))
    (stores_in_turn (length all) 1 (length all + 1) (applies all) (writes_seal lane 0) refl (apply_stores all) (seal_stores lane 0)))

logged_stores : (entries : List Redo) → HasStores (length entries + 3) (performs_logged entries)
unfolding performs_logged
logged_stores entries v =
    let all = perform_stores (entries ++ ending v ∷ []) v in
    let many = length-append entries (ending v ∷ []) in omega (arith, all, many)

pub publish_stores : (entries : List Redo) (operation : Operation) (n : ℕ) → HasStores (3 * (length entries + 1) + 2) (publishes entries operation n)
unfolding publishes
publish_stores entries operation n =
    let m : ℕ = length entries in
    stores_in_turn (2 * (m + 1)) (m + 3) (3 * (m + 1) + 2) (logs entries) (in_turn (ends_call operation None n) (performs_logged entries)) (omega arith) (log_stores entries)
    (stores_in_turn 0 (m + 3) (m + 3) (ends_call operation None n) (performs_logged entries) (omega arith) (end_stores operation None n) (logged_stores entries))

pub commit_listed_stores : (spans : List Span) (entries : List Redo) (n : ℕ) (v : View) → 1 ≤ length entries → stores_among (commits spans entries n v) ≡ 3 * (length entries + 1) + 2
unfolding commits decides_all
commit_listed_stores spans [] n v some = absurd (omega (arith, some))
commit_listed_stores spans (e ∷ entries) n v some =
    let all : ℕ = 3 * (length (e ∷ entries) + 1) + 2 in
    stores_in_turn 0 all all settles (publishes (e ∷ entries) Commit n) (omega arith) none_in_settles (publish_stores (e ∷ entries) Commit n) v

back_stores : (spans : List Span) → HasStores (length (words_in spans) + generations spans) (takes_back spans)
unfolding takes_back undoes words_in
back_stores [] = none_in_settles
back_stores (s ∷ spans) = stores_in_turn (length (words_in (s ∷ spans))) 1 (length (words_in (s ∷ spans)) + 1) (restores (s ∷ spans)) retires refl (restore_stores (s ∷ spans)) retire_stores

pub give_up_few : (spans : List Span) (operation : Operation) (reply : Option Value) (n : ℕ) (v : View) → stores_among (gives_up spans operation reply n v) ≤ length (words_in spans) + 1
unfolding gives_up
give_up_few spans operation reply n v =
    let m : ℕ = length (words_in spans) + generations spans in
    let e = stores_in_turn m 0 m (takes_back spans) (ends_call operation reply n) (omega arith) (back_stores spans) (end_stores operation reply n) v in
    let most = at spans in omega (arith, e, most) where
      at : (spans : List Span) → generations spans ≤ 1
      at [] = omega arith
      at (s ∷ spans) = omega arith
