-- Steps that take and give nothing of the heap leave a lane what it had of it, where what they draw is an ended call's; a transaction's are such.
use Rattle.std.proofs.Common.{ℕ, ◌+◌, ◌/◌, List, [], ◌∷◌, ◌++◌, length, Option, None, slice_index, refl, sym, subst}
use Rattle.solo_crash.specs.HeldHistory.{DrawsEnded}
use Rattle.solo_crash.specs.Leading.{Leads}
use Rattle.pm_objects.specs.declared.calls.Operation.{Operation}
use Rattle.pm_objects.specs.declared.calls.Operation.TheVariants.{Commit}
use Rattle.pm_objects.specs.declared.history.Value.{Value}
use Rattle.pm_record.specs.Redo.{op_code}
use Rattle.pm_record.specs.declared.redo.Op.{Op}
use Rattle.pm_record.specs.declared.redo.Op.TheVariants as op
use Rattle.pm_record.specs.declared.redo.Redo.{Redo}
use Rattle.solo_redo.specs.Entering.{ending}
use Rattle.solo_redo.specs.Sequences.{applies, applies_each, applies_entry, does, ending_of, entry_at, logs, performs, performs_on, stores_two, writes_entries, writes_log, writes_pair, writes_pairs, writes_seal}
use Rattle.solo_undo.specs.Sequences.{ends_generation, persists, restores, retires}
use Rattle.solo_view.specs.Area.{area_word}
use Rattle.solo_view.specs.Log.{Phase}
use Rattle.solo_view.specs.Log.Phase.{Applying, Clearing, Drawn, Idle, Open, Retiring, Sealing}
use Rattle.solo_view.specs.Steps.{Step}
use Rattle.solo_view.specs.Steps.Step.{Load, Store, Or, And, Flush, Drain, TakeWrite, TakeRead, Raise, Give, ZoneTry, ZoneGive, Occupied, Occupy, Vacate, Draw, NumberSeen, StopSeen, SetStop, Tell}
use Rattle.solo_view.specs.View.{View}
use Rattle.solo_view.specs.Views.{after, begun}
use Rattle.solo_world.specs.Entries.{entry_word}
use Rattle.solo_world.specs.Sequences.{finds_in, in_turn, makes_room, one, ors, ands, settles, stores}
use Rattle.solo_world.specs.declared.lane.Span.{Span}
use Rattle.solo_lock.proofs.Leads.{heap_drawn, heap_still, heap_then}
use Rattle.solo_lock.specs.Leading.{KeepsHeap}
use Rattle.solo_tx.proofs.StepKinds.{Each, HasOnly, HasQuietSteps, only_by_lane, only_counted, only_in_turn, only_makes_room, only_nothing, only_one, only_persists, only_restores, only_settles, only_stores, only_with_generation}
use Rattle.solo_tx.specs.Sequences.{commits, decides, decides_all, ends_call, gives_up, performs_logged, publishes, retires_any, takes_back, undoes}

-- a step that takes and gives no zone's lock, and neither reserves nor gives back
abbrev pub IsHeapless : Step → Type 0
IsHeapless (ZoneTry zone won) = ⊥
IsHeapless (ZoneGive zone) = ⊥
IsHeapless (Occupy at bits won) = ⊥
IsHeapless (Vacate at bits) = ⊥
IsHeapless s = Unit {0}

pub begun_heap : (p : Phase) (v : View) → KeepsHeap v (begun p v)
begun_heap Idle v = record { zone_locks = refl; reserved = refl; freed = refl }
begun_heap (Open slot pair) v = heap_still v
begun_heap Drawn v = heap_still v
begun_heap Sealing v = heap_still v
begun_heap (Applying applied) v = heap_still v
begun_heap Clearing v = heap_still v
begun_heap Retiring v = heap_still v

heap_after : (v : View) (s : Step) → IsHeapless s → DrawsEnded v s → KeepsHeap v (after v s)
heap_after v (Load w x) only ended = record { zone_locks = refl; reserved = refl; freed = refl }
heap_after v (Store w x) only ended = record { zone_locks = refl; reserved = refl; freed = refl }
heap_after v (Or w bits x) only ended = record { zone_locks = refl; reserved = refl; freed = refl }
heap_after v (And w bits x) only ended = record { zone_locks = refl; reserved = refl; freed = refl }
heap_after v (Flush line) only ended = record { zone_locks = refl; reserved = refl; freed = refl }
heap_after v Drain only ended = record { zone_locks = refl; reserved = refl; freed = refl }
heap_after v (TakeWrite line won) only ended = record { zone_locks = refl; reserved = refl; freed = refl }
heap_after v (TakeRead line won) only ended = record { zone_locks = refl; reserved = refl; freed = refl }
heap_after v (Raise line won) only ended = record { zone_locks = refl; reserved = refl; freed = refl }
heap_after v (Give line) only ended = record { zone_locks = refl; reserved = refl; freed = refl }
heap_after v (ZoneTry zone won) only ended = absurd only
heap_after v (ZoneGive zone) only ended = absurd only
heap_after v (Occupied at x) only ended = record { zone_locks = refl; reserved = refl; freed = refl }
heap_after v (Occupy at bits won) only ended = absurd only
heap_after v (Vacate at bits) only ended = absurd only
heap_after v (Draw n) only ended = heap_drawn v n ended.1
heap_after v (NumberSeen n) only ended = let b = begun_heap v.log.phase v in record { zone_locks = b.zone_locks; reserved = b.reserved; freed = b.freed }
heap_after v (StopSeen set) only ended = record { zone_locks = refl; reserved = refl; freed = refl }
heap_after v SetStop only ended = heap_still v
heap_after v (Tell operation reply) only ended = record { zone_locks = refl; reserved = refl; freed = refl }

pub heap_along : (v w : View) (steps : List Step) → Each IsHeapless steps → Leads v steps w → KeepsHeap v w
unfolding Each Leads
heap_along v w [] only leads = subst (KeepsHeap v) (sym leads) (heap_still v)
heap_along v w (s ∷ steps) only leads = heap_then v (after v s) w (heap_after v s only.0 leads.2) (heap_along (after v s) w steps only.1 leads.3)

-- ---- a transaction's steps

heapless_steps : HasQuietSteps IsHeapless
heapless_steps = record { load = λ w x. tt; flush = λ line. tt; drain = tt }

store_heapless : (w x : ℕ) → HasOnly IsHeapless (stores w x)
store_heapless w x = only_stores IsHeapless heapless_steps w x tt

ends_heapless : (operation : Operation) (reply : Option Value) (n : ℕ) → HasOnly IsHeapless (ends_call operation reply n)
unfolding ends_call
ends_heapless operation reply n =
    only_in_turn IsHeapless (one (Tell operation reply)) (one (Draw n)) (only_one IsHeapless (Tell operation reply) tt) (only_one IsHeapless (Draw n) tt)

retires_heapless : HasOnly IsHeapless retires
unfolding retires ends_generation
retires_heapless =
    only_with_generation IsHeapless heapless_steps ends_generation
    (λ x. only_in_turn IsHeapless (stores (area_word 0) (x + 1)) (persists (area_word 0 / 8)) (store_heapless (area_word 0) (x + 1)) (only_persists IsHeapless heapless_steps (area_word 0 / 8)))

retires_any_heapless : (spans : List Span) → HasOnly IsHeapless (retires_any spans)
unfolding retires_any
retires_any_heapless [] = only_nothing IsHeapless
retires_any_heapless (s ∷ spans) = retires_heapless

-- entries are logged
entries_heapless : (all : List Redo) → HasOnly IsHeapless (writes_entries 0 all)
unfolding writes_entries writes_pairs writes_pair stores_two
entries_heapless all =
    only_in_turn IsHeapless (writes_pairs 0 all) settles
    (only_counted IsHeapless (λ i. writes_pair 0 i (entry_at all i)) (length all)
    (λ i below. only_in_turn IsHeapless (stores (entry_word 0 i) ((entry_at all i).place + op_code (entry_at all i).op)) (stores (entry_word 0 i + 1) (entry_at all i).value) (store_heapless (entry_word 0 i) ((entry_at all i).place + op_code (entry_at all i).op)) (store_heapless (entry_word 0 i + 1) (entry_at all i).value)))
    (only_settles IsHeapless heapless_steps)

logs_heapless : (entries : List Redo) → HasOnly IsHeapless (logs entries)
unfolding logs
logs_heapless entries = only_with_generation IsHeapless heapless_steps (writes_log entries) (λ x. entries_heapless (entries ++ ending_of 0 x ∷ []))

-- and performed
finds_heapless : (w : ℕ) (s : ℕ → Step) → ((x : ℕ) → IsHeapless (s x)) → HasOnly IsHeapless (in_turn makes_room (finds_in w s))
unfolding finds_in Each
finds_heapless w s is = only_in_turn IsHeapless makes_room (finds_in w s) (only_makes_room IsHeapless heapless_steps) (λ v lane. (is (slice_index v.words w), tt))

does_heapless : (o : Op) (w x : ℕ) → HasOnly IsHeapless (does o w x)
unfolding ors ands
does_heapless op.Set w x = store_heapless w x
does_heapless op.Or w x = finds_heapless w (Or w x) (λ found. tt)
does_heapless op.And w x = finds_heapless w (And w x) (λ found. tt)

seal_heapless : (n : ℕ) → HasOnly IsHeapless (writes_seal 0 n)
unfolding writes_seal
seal_heapless n = only_in_turn IsHeapless (stores (area_word 0 + 1) n) (persists (area_word 0 / 8)) (store_heapless (area_word 0 + 1) n) (only_persists IsHeapless heapless_steps (area_word 0 / 8))

applies_heapless : (all : List Redo) → HasOnly IsHeapless (applies all)
unfolding applies applies_each applies_entry
applies_heapless all =
    only_in_turn IsHeapless (applies_each all) settles
    (only_counted IsHeapless (λ i. applies_entry (entry_at all i)) (length all) (λ i below. does_heapless (entry_at all i).op ((entry_at all i).place / 8) (entry_at all i).value))
    (only_settles IsHeapless heapless_steps)

performs_heapless : (all : List Redo) → HasOnly IsHeapless (performs all)
unfolding performs performs_on
performs_heapless all =
    only_by_lane IsHeapless (λ lane. performs_on lane all)
    (only_in_turn IsHeapless (writes_seal 0 (length all)) (in_turn (applies all) (writes_seal 0 0)) (seal_heapless (length all))
    (only_in_turn IsHeapless (applies all) (writes_seal 0 0) (applies_heapless all) (seal_heapless 0)))

performs_logged_heapless : (entries : List Redo) → HasOnly IsHeapless (performs_logged entries)
unfolding performs_logged
performs_logged_heapless entries v lane = performs_heapless (entries ++ ending v ∷ []) v lane

pub publishes_heapless : (entries : List Redo) (operation : Operation) (n : ℕ) → HasOnly IsHeapless (publishes entries operation n)
unfolding publishes
publishes_heapless entries operation n =
    only_in_turn IsHeapless (logs entries) (in_turn (ends_call operation None n) (performs_logged entries)) (logs_heapless entries)
    (only_in_turn IsHeapless (ends_call operation None n) (performs_logged entries) (ends_heapless operation None n) (performs_logged_heapless entries))

decides_heapless : (spans : List Span) (entries : List Redo) (n : ℕ) → HasOnly IsHeapless (decides_all spans entries n)
unfolding decides_all decides
decides_heapless spans [] n = only_in_turn IsHeapless (ends_call Commit None n) (retires_any spans) (ends_heapless Commit None n) (retires_any_heapless spans)
decides_heapless spans (e ∷ entries) n = publishes_heapless (e ∷ entries) Commit n

pub commits_heapless : (spans : List Span) (entries : List Redo) (n : ℕ) → HasOnly IsHeapless (commits spans entries n)
unfolding commits
commits_heapless spans entries n = only_in_turn IsHeapless settles (decides_all spans entries n) (only_settles IsHeapless heapless_steps) (decides_heapless spans entries n)

-- a call is taken back, and given up
takes_back_heapless : (spans : List Span) → HasOnly IsHeapless (takes_back spans)
unfolding takes_back undoes
takes_back_heapless [] = only_settles IsHeapless heapless_steps
takes_back_heapless (s ∷ spans) =
    only_in_turn IsHeapless (restores (s ∷ spans)) retires (only_restores IsHeapless heapless_steps (s ∷ spans) (λ slot i x low below. tt)) retires_heapless

pub gives_up_heapless : (spans : List Span) (operation : Operation) (reply : Option Value) (n : ℕ) → HasOnly IsHeapless (gives_up spans operation reply n)
unfolding gives_up
gives_up_heapless spans operation reply n =
    only_in_turn IsHeapless (takes_back spans) (ends_call operation reply n) (takes_back_heapless spans) (ends_heapless operation reply n)
