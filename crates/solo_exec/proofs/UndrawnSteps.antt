-- Steps that draw no number and take and give no lock keep the entries, the number, the lines of the locks and what the lane has of the heap.
use Rattle.std.proofs.Common.{◌≡◌, ◌⊎◌, ⊎_elim, inl, inr, ℕ, zero, suc, ◌+◌, ◌/◌, ◌<◌, Bool, true, false, cond, List, [], ◌∷◌, ◌++◌, length, map, take, None, Some, refl, ◌∙◌, arith}
use Rattle.pm_objects.specs.declared.calls.Operation.TheVariants.{AddRange, Read, Write}
use Rattle.pm_objects.specs.declared.history.Value.TheVariants.{Bytes}
use Rattle.pm_objects.specs.declared.ids.Oid.{Oid}
use Rattle.solo_crash.specs.Writes.{written_word}
use Rattle.solo_lock.proofs.Leads.{heap_still, heap_then}
use Rattle.solo_lock.specs.Leading.{KeepsHeap, LeaveBlocks}
use Rattle.solo_tx.proofs.StepKinds.{Each, HasOnly, HasQuietSteps, each_first, only_counted, only_in_turn, only_looks_from, only_one, only_persists, only_restores, only_settles, only_snapshots, only_stores, only_with_generation, only_with_word}
use Rattle.solo_tx.specs.Ranges.{adds_range, reads_range, writes_range}
use Rattle.solo_tx.specs.Sequences.{reads, takes_back, undoes, word_count, writes, writes_word}
use Rattle.solo_undo.specs.Sequences.{ends_generation, persists, restores, retires, snapshots}
use Rattle.solo_view.specs.Area.{area_word}
use Rattle.solo_view.specs.Blocks.{allocation_word, block_at, is_word}
use Rattle.solo_view.specs.Steps.{Step}
use Rattle.solo_view.specs.Steps.Step.{Load, Store, Flush, Drain, Tell}
use Rattle.solo_view.specs.View.{Lock, View}
use Rattle.solo_view.specs.Views.{after, after_all, with_block}
use Rattle.solo_world.specs.Sequences.{one, settles, stores}
use Rattle.solo_world.specs.declared.lane.Span.{Span}

-- a step that draws no number, and neither takes nor gives a lock
abbrev pub IsUndrawn : Step → Type 0
IsUndrawn (Load w x) = Unit {0}
IsUndrawn (Store w x) = Unit {0}
IsUndrawn (Flush line) = Unit {0}
IsUndrawn Drain = Unit {0}
IsUndrawn (Tell operation reply) = Unit {0}
IsUndrawn s = ⊥

abbrev pub lines_of : List Lock → List ℕ
lines_of locks = map (λ (l : Lock). l.line) locks

-- the entries, the number and the lines of the locks are the same, and what the lane has of the heap
pub record Keeps (v w : View) : Type 0 where
  pub number : w.number ≡ v.number
  pub entries : w.entries ≡ v.entries
  pub lines : lines_of w.locks ≡ lines_of v.locks
  pub heap : KeepsHeap v w

pub keeps_all : (v : View) → Keeps v v
keeps_all v = record { number = refl; entries = refl; lines = refl; heap = heap_still v }

pub keeps_then : (u v w : View) → Keeps u v → Keeps v w → Keeps u w
keeps_then u v w first second = record { number = second.number ∙ first.number; entries = second.entries ∙ first.entries; lines = second.lines ∙ first.lines; heap = heap_then u v w first.heap second.heap }

-- a load may find a block under a lock, and keeps the lock
lines_loaded : (lanes : ℕ) (words : List ℕ) (w : ℕ) (locks : List Lock) → lines_of (map (with_block lanes words w) locks) ≡ lines_of locks
lines_loaded lanes words w [] = refl
lines_loaded lanes words w (l ∷ locks) = (λ i. at (is_word (allocation_word lanes words l.line) w) i ∷ lines_loaded lanes words w locks i) where
  at : (b : Bool) → (cond b (record l { block = block_at lanes words l.line }) l).line ≡ l.line
  at true = refl
  at false = refl

pub undrawn_keeps : (v : View) (s : Step) → IsUndrawn s → Keeps v (after v s)
undrawn_keeps v (Load w x) quiet = record { number = refl; entries = refl; lines = lines_loaded v.lanes (after v (Load w x)).words w v.locks; heap = record { zone_locks = refl; reserved = refl; freed = refl } }
undrawn_keeps v (Store w x) quiet = record { number = refl; entries = refl; lines = refl; heap = record { zone_locks = refl; reserved = refl; freed = refl } }
undrawn_keeps v (Flush line) quiet = record { number = refl; entries = refl; lines = refl; heap = record { zone_locks = refl; reserved = refl; freed = refl } }
undrawn_keeps v Drain quiet = record { number = refl; entries = refl; lines = refl; heap = record { zone_locks = refl; reserved = refl; freed = refl } }
undrawn_keeps v (Tell operation reply) quiet = record { number = refl; entries = refl; lines = refl; heap = record { zone_locks = refl; reserved = refl; freed = refl } }
undrawn_keeps v s quiet = absurd quiet

-- steps of this kind leave what is reserved
pub undrawn_leave : (v : View) (steps : List Step) → Each IsUndrawn steps → LeaveBlocks v steps
unfolding Each LeaveBlocks
undrawn_leave v [] each = tt
undrawn_leave v (s ∷ steps) each = ((undrawn_keeps v s each.0).heap.reserved, undrawn_leave (after v s) steps each.1)

pub all_undrawn_keep : (v : View) (steps : List Step) → Each IsUndrawn steps → Keeps v (after_all v steps)
unfolding Each after_all
all_undrawn_keep v [] each = keeps_all v
all_undrawn_keep v (s ∷ steps) each = keeps_then v (after v s) (after_all (after v s) steps) (undrawn_keeps v s each.0) (all_undrawn_keep (after v s) steps each.1)

-- so do the first of them
pub first_undrawn_keep : (v : View) (steps : List Step) (k : ℕ) → Each IsUndrawn steps → Keeps v (after_all v (take k steps))
first_undrawn_keep v steps k each = all_undrawn_keep v (take k steps) (each_first IsUndrawn k steps each)

pub undrawn_steps : HasQuietSteps IsUndrawn
undrawn_steps = record { load = λ w x. tt; flush = λ line. tt; drain = tt }

pub adds_undrawn : (spans : List Span) (id : Oid) (off len : ℕ) → HasOnly IsUndrawn (adds_range spans id off len)
unfolding adds_range
adds_undrawn spans id off len =
    only_in_turn IsUndrawn (snapshots spans (id.off + off) len) (one (Tell (AddRange id off len) None))
    (only_snapshots IsUndrawn undrawn_steps (λ slot i x. tt) spans (id.off + off) len)
    (only_one IsUndrawn (Tell (AddRange id off len) None) tt)

pub writes_undrawn : (id : Oid) (off : ℕ) (bytes : List ℕ) → HasOnly IsUndrawn (writes_range id off bytes)
unfolding writes_range writes writes_word
writes_undrawn id off bytes =
    let place : ℕ = id.off + off in
    only_in_turn IsUndrawn (writes place bytes) (one (Tell (Write id off bytes) None))
    (only_counted IsUndrawn (λ i. writes_word place bytes (place / 8 + i)) (word_count place (length bytes))
    (λ i below. only_with_word IsUndrawn undrawn_steps (place / 8 + i) (λ x. stores (place / 8 + i) (written_word place bytes (place / 8 + i) x))
    (λ x. only_stores IsUndrawn undrawn_steps (place / 8 + i) (written_word place bytes (place / 8 + i) x) tt)))
    (only_one IsUndrawn (Tell (Write id off bytes) None) tt)

pub reads_undrawn : (id : Oid) (off len : ℕ) (bytes : List ℕ) → HasOnly IsUndrawn (reads_range id off len bytes)
unfolding reads_range reads
reads_undrawn id off len bytes =
    only_in_turn IsUndrawn (reads (id.off + off) len) (one (Tell (Read id off len) (Some (Bytes bytes))))
    (only_looks_from IsUndrawn undrawn_steps ((id.off + off) / 8) (word_count (id.off + off) len))
    (only_one IsUndrawn (Tell (Read id off len) (Some (Bytes bytes))) tt)

pub settles_undrawn : HasOnly IsUndrawn settles
settles_undrawn = only_settles IsUndrawn undrawn_steps

pub retires_undrawn : HasOnly IsUndrawn retires
unfolding retires ends_generation
retires_undrawn =
    only_with_generation IsUndrawn undrawn_steps ends_generation
    (λ x. only_in_turn IsUndrawn (stores (area_word 0) (x + 1)) (persists (area_word 0 / 8)) (only_stores IsUndrawn undrawn_steps (area_word 0) (x + 1) tt) (only_persists IsUndrawn undrawn_steps (area_word 0 / 8)))

pub takes_back_undrawn : (spans : List Span) → HasOnly IsUndrawn (takes_back spans)
unfolding takes_back undoes
takes_back_undrawn [] = settles_undrawn
takes_back_undrawn (s ∷ spans) =
    only_in_turn IsUndrawn (restores (s ∷ spans)) retires (only_restores IsUndrawn undrawn_steps (s ∷ spans) (λ slot i x low below. tt)) retires_undrawn

-- of such steps, one more and a draw, with some behind: the first of them draw no number, or are these and the first of those behind
pub before_or_behind : (v : View) (xs : List Step) (t d : Step) (ys : List Step) (k : ℕ) → Each IsUndrawn xs → IsUndrawn t → k < length (xs ++ t ∷ d ∷ ys)
    → Keeps v (after_all v (take k (xs ++ t ∷ d ∷ ys)))
    ⊎ ((j : ℕ) × ((j < length ys) × (after_all v (take k (xs ++ t ∷ d ∷ ys)) ≡ after_all (after_all v (xs ++ t ∷ d ∷ [])) (take j ys))))
unfolding Each after_all
before_or_behind v xs t d ys zero each quiet below = inl (keeps_all v)
before_or_behind v [] t d ys (suc zero) each quiet below = inl (undrawn_keeps v t quiet)
before_or_behind v [] t d ys (suc (suc j)) each quiet below = inr (j, (omega arith, refl))
before_or_behind v (x ∷ xs) t d ys (suc k) each quiet below =
    ⊎_elim
    (λ (keeps : Keeps (after v x) (after_all (after v x) (take k (xs ++ t ∷ d ∷ ys)))). inl (keeps_then v (after v x) (after_all (after v x) (take k (xs ++ t ∷ d ∷ ys))) (undrawn_keeps v x each.0) keeps))
    (λ (behind : (j : ℕ) × ((j < length ys) × (after_all (after v x) (take k (xs ++ t ∷ d ∷ ys)) ≡ after_all (after_all (after v x) (xs ++ t ∷ d ∷ [])) (take j ys)))). inr behind)
    (before_or_behind (after v x) xs t d ys k each.1 quiet (omega (arith, below)))
