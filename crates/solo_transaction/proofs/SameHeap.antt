-- The sequences of ranges leave what a lane has of the heap as it was, from whatever view they are made.
use Rattle.std.proofs.Common.{ℕ, zero, suc, ◌+◌, ◌/◌, Bool, true, false, cond, eqb, ltb, List, [], ◌∷◌, map, length, slice_index, Some, None, refl, sym, subst}
use Rattle.pm_image.specs.Logs.{slot_line}
use Rattle.pm_objects.specs.declared.calls.Operation.{Operation}
use Rattle.pm_objects.specs.declared.calls.Operation.TheVariants.{AddRange, Read, Write}
use Rattle.pm_objects.specs.declared.history.Value.TheVariants.{Bytes}
use Rattle.pm_objects.specs.declared.ids.Oid.{Oid}
use Rattle.solo_crash.specs.Writes.{written_word}
use Rattle.solo_view.proofs.Sequences.{after_all-append}
use Rattle.solo_view.specs.Area.{area_word}
use Rattle.solo_view.specs.Counts.{max_changes, unflushed_lines}
use Rattle.solo_view.specs.Steps.{Step}
use Rattle.solo_view.specs.Steps.Step.{Drain, Flush, Store, Tell}
use Rattle.solo_view.specs.View.{View}
use Rattle.solo_view.specs.Views.{after, after_all}
use Rattle.solo_undo.specs.Sequences.{logs, logs_any, looks_from, recorded_in, snapshots, span_at, stores_from, with_generation, writes_all, writes_record, writes_records, writes_slot}
use Rattle.solo_undo.specs.Spans.{plan_of}
use Rattle.solo_world.specs.Records.{slot_word, spelled}
use Rattle.solo_world.specs.Sequences.{Sequence, by_lane, by_view, counted, drains, flushes, in_turn, looks, makes_room, nothing, one, settles, stores, with_word}
use Rattle.solo_world.specs.declared.lane.Span.{Span}
use Rattle.solo_lock.proofs.Leads.{heap_still, heap_then}
use Rattle.solo_lock.specs.Leading.{KeepsHeap}
use Rattle.solo_tx.specs.Ranges.{adds_range, reads_range, writes_range}
use Rattle.solo_tx.specs.Sequences.{reads, word_count, writes, writes_word}

-- it leaves it so
abbrev pub LeavesHeap : Sequence → Type 0
LeavesHeap steps = (v : View) → KeepsHeap v (after_all v (steps v))

by_nothing : LeavesHeap nothing
unfolding nothing after_all
by_nothing v = heap_still v

by_one : (s : Step) → ((v : View) → KeepsHeap v (after v s)) → LeavesHeap (one s)
unfolding one after_all
by_one s same v = same v

by_look : (w : ℕ) → LeavesHeap (looks w)
unfolding looks after_all
by_look w v = record { zone_locks = refl; reserved = refl; freed = refl }

by_both : (s t : Sequence) → LeavesHeap s → LeavesHeap t → LeavesHeap (in_turn s t)
unfolding in_turn
by_both s t first second v =
    let m : View = after_all v (s v) in
    subst (KeepsHeap v) (sym (after_all-append v (s v) (t m))) (heap_then v m (after_all m (t m)) (first v) (second m))

by_each : (steps : ℕ → Sequence) (n : ℕ) → ((i : ℕ) → LeavesHeap (steps i)) → LeavesHeap (counted steps n)
unfolding counted
by_each steps zero each = by_nothing
by_each steps (suc n) each = by_both (counted steps n) (steps n) (by_each steps n each) (each n)

by_any_view : (steps : View → Sequence) → ((u : View) → LeavesHeap (steps u)) → LeavesHeap (by_view steps)
unfolding by_view
by_any_view steps each v = each v v

by_any_lane : (steps : ℕ → Sequence) → ((lane : ℕ) → LeavesHeap (steps lane)) → LeavesHeap (by_lane steps)
unfolding by_lane
by_any_lane steps each = by_any_view (λ v. steps v.lane) (λ u. each u.lane)

by_any_word : (w : ℕ) (steps : ℕ → Sequence) → ((x : ℕ) → LeavesHeap (steps x)) → LeavesHeap (with_word w steps)
unfolding with_word
by_any_word w steps each = by_any_view (λ u. in_turn (looks w) (steps (slice_index u.words w))) (λ u. by_both (looks w) (steps (slice_index u.words w)) (by_look w) (each (slice_index u.words w)))

flushed_lines : (lines : List ℕ) (v : View) → KeepsHeap v (after_all v (map Flush lines))
unfolding after_all
flushed_lines [] v = heap_still v
flushed_lines (line ∷ lines) v = let m : View = after v (Flush line) in heap_then v m (after_all m (map Flush lines)) record { zone_locks = refl; reserved = refl; freed = refl } (flushed_lines lines m)

by_flushes : LeavesHeap flushes
unfolding flushes
by_flushes v = flushed_lines (unflushed_lines v.changes) v

by_drains : LeavesHeap drains
unfolding drains after_all
by_drains v = at (eqb (length v.changes) 0) where
  at : (b : Bool) → KeepsHeap v (after_all v (cond b [] (Drain ∷ [])))
  at true = heap_still v
  at false = record { zone_locks = refl; reserved = refl; freed = refl }

by_settles : LeavesHeap settles
unfolding settles
by_settles = by_both flushes drains by_flushes by_drains

by_room : LeavesHeap makes_room
unfolding makes_room after_all
by_room v = at (ltb (length v.changes) max_changes) where
  at : (b : Bool) → KeepsHeap v (after_all v (cond b [] (settles v)))
  at true = heap_still v
  at false = by_settles v

by_stores : (w x : ℕ) → LeavesHeap (stores w x)
unfolding stores
by_stores w x = by_both makes_room (one (Store w x)) by_room (by_one (Store w x) (λ v. record { zone_locks = refl; reserved = refl; freed = refl }))

by_looks : (word count : ℕ) → LeavesHeap (looks_from word count)
unfolding looks_from
by_looks word count = by_each (λ i. looks (word + i)) count (λ i. by_look (word + i))

by_slot : (lane slot : ℕ) (words : List ℕ) → LeavesHeap (writes_slot lane slot words)
unfolding writes_slot stores_from
by_slot lane slot words =
    by_both (counted (λ i. stores (slot_word lane slot + i) (slice_index words i)) (length words)) (one (Flush (slot_line lane slot)))
    (by_each (λ i. stores (slot_word lane slot + i) (slice_index words i)) (length words) (λ i. by_stores (slot_word lane slot + i) (slice_index words i))) (by_one (Flush (slot_line lane slot)) (λ v. record { zone_locks = refl; reserved = refl; freed = refl }))

by_record : (lane generation slot : ℕ) (s : Span) → LeavesHeap (writes_record lane generation slot s)
unfolding writes_record
by_record lane generation slot s =
    by_any_view (λ v. in_turn (looks_from s.word s.count) (writes_slot lane slot (spelled generation (recorded_in v s))))
    (λ u. by_both (looks_from s.word s.count) (writes_slot lane slot (spelled generation (recorded_in u s))) (by_looks s.word s.count) (by_slot lane slot (spelled generation (recorded_in u s))))

by_records : (slot : ℕ) (spans : List Span) (lane generation : ℕ) → LeavesHeap (writes_all slot spans lane generation)
unfolding writes_all writes_records
by_records slot spans lane generation =
    by_both (counted (λ i. writes_record lane generation (slot + i) (span_at spans i)) (length spans)) (one Drain)
    (by_each (λ i. writes_record lane generation (slot + i) (span_at spans i)) (length spans) (λ i. by_record lane generation (slot + i) (span_at spans i))) (by_one Drain (λ v. record { zone_locks = refl; reserved = refl; freed = refl }))

by_logs : (slot : ℕ) (spans : List Span) → LeavesHeap (logs_any slot spans)
unfolding logs_any logs with_generation
by_logs slot [] = by_nothing
by_logs slot (s ∷ spans) =
    by_any_lane (λ lane. with_word (area_word lane) (writes_all slot (s ∷ spans) lane)) (λ lane. by_any_word (area_word lane) (writes_all slot (s ∷ spans) lane) (λ x. by_records slot (s ∷ spans) lane x))

pub adds_leave : (spans : List Span) (id : Oid) (off len : ℕ) → LeavesHeap (adds_range spans id off len)
unfolding adds_range snapshots
adds_leave spans id off len =
    by_both (logs_any (length spans) (plan_of spans (id.off + off) len)) (one (Tell (AddRange id off len) None)) (by_logs (length spans) (plan_of spans (id.off + off) len)) (by_one (Tell (AddRange id off len) None) (λ v. record { zone_locks = refl; reserved = refl; freed = refl }))

pub reads_leave : (id : Oid) (off len : ℕ) (bytes : List ℕ) → LeavesHeap (reads_range id off len bytes)
unfolding reads_range reads
reads_leave id off len bytes =
    by_both (looks_from ((id.off + off) / 8) (word_count (id.off + off) len)) (one (Tell (Read id off len) (Some (Bytes bytes)))) (by_looks ((id.off + off) / 8) (word_count (id.off + off) len))
    (by_one (Tell (Read id off len) (Some (Bytes bytes))) (λ v. record { zone_locks = refl; reserved = refl; freed = refl }))

by_word_written : (place : ℕ) (bytes : List ℕ) (w : ℕ) → LeavesHeap (writes_word place bytes w)
unfolding writes_word
by_word_written place bytes w = by_any_word w (λ x. stores w (written_word place bytes w x)) (λ x. by_stores w (written_word place bytes w x))

pub told_writes_leave : (place : ℕ) (bytes : List ℕ) (op : Operation) → LeavesHeap (in_turn (writes place bytes) (one (Tell op None)))
unfolding writes
told_writes_leave place bytes op =
    by_both (counted (λ i. writes_word place bytes (place / 8 + i)) (word_count place (length bytes))) (one (Tell op None))
    (by_each (λ i. writes_word place bytes (place / 8 + i)) (word_count place (length bytes)) (λ i. by_word_written place bytes (place / 8 + i)))
    (by_one (Tell op None) (λ v. record { zone_locks = refl; reserved = refl; freed = refl }))

pub writes_leave : (id : Oid) (off : ℕ) (bytes : List ℕ) → LeavesHeap (writes_range id off bytes)
unfolding writes_range
writes_leave id off bytes = told_writes_leave (id.off + off) bytes (Write id off bytes)
