-- Looks, records, writes and reads of a transaction store no generation.
use Rattle.std.proofs.Common.{◌≡◌, ◌≢◌, ℕ, zero, suc, ◌+◌, ◌/◌, ◌<◌, Bool, true, false, cond, Contains, List, [], ◌∷◌, ◌++◌, length, None, Option, Some, refl, sym, ap, ◌∙◌, arith, ne_eqb}
use Rattle.std.proofs.lemmas.Bool.{false≢true}
use Rattle.solo_crash.proofs.Leading.{leads_then}
use Rattle.solo_crash.proofs.Raises.{raise_by}
use Rattle.solo_crash.specs.Alone.{is_raise, raises}
use Rattle.solo_crash.specs.Leading.{Leads}
use Rattle.solo_crash.specs.Writes.{written_word}
use Rattle.solo_model.specs.Bytes.{covered_words}
use Rattle.pm_objects.specs.declared.calls.Operation.{Operation}
use Rattle.pm_objects.specs.declared.calls.Operation.TheVariants.{AddRange, Read, Write}
use Rattle.pm_objects.specs.declared.history.Value.TheVariants.{Bytes}
use Rattle.pm_objects.specs.declared.history.Value.{Value}
use Rattle.pm_objects.specs.declared.ids.Oid.{Oid}
use Rattle.solo_undo.proofs.Areas.{generation_in_area}
use Rattle.solo_undo.proofs.Kept.{is_of}
use Rattle.solo_undo.specs.Sequences.{snapshots}
use Rattle.solo_undo.specs.Working.{IsWorking}
use Rattle.solo_view.specs.Area.{area_word, is_in_area}
use Rattle.solo_view.specs.Steps.{Step}
use Rattle.solo_view.specs.Steps.Step.{Load, Store, Flush, Drain, TakeWrite, TakeRead, Give, Draw, NumberSeen, Tell}
use Rattle.solo_view.specs.View.{View}
use Rattle.solo_world.specs.Records.{is_recorded}
use Rattle.solo_world.specs.Sequences.{looks, one, stores}
use Rattle.solo_world.specs.declared.lane.HeldLock.{HeldLock}
use Rattle.solo_world.specs.declared.lane.Span.{Span}
use Rattle.solo_lock.specs.Locking.{gives, line_at, takes}
use Rattle.solo_tx.proofs.StepKinds.{Each, HasOnly, HasQuietSteps, only_by_lane, only_counted, only_in_turn, only_looks, only_looks_from, only_one, only_snapshots, only_stores, only_with_word}
use Rattle.solo_tx.proofs.WrittenBytes.{counted_covered}
use Rattle.solo_tx.specs.Learning.{Looks}
use Rattle.solo_tx.specs.Ranges.{adds_range, reads_range, writes_range}
use Rattle.solo_tx.specs.Sequences.{ends_call, reads, sees_generation, starts, word_count, writes, writes_word}

-- a step of lane 0 that ends no generation: none but a store of it does
abbrev pub IsWork : Step → Type 0
IsWork (Load w x) = Unit {0}
IsWork (Store w x) = w ≢ 512
IsWork (Flush line) = Unit {0}
IsWork Drain = Unit {0}
IsWork (TakeWrite line won) = Unit {0}
IsWork (TakeRead line won) = Unit {0}
IsWork (Give line) = Unit {0}
IsWork (Draw n) = Unit {0}
IsWork (NumberSeen n) = Unit {0}
IsWork (Tell operation reply) = Unit {0}
IsWork s = ⊥

pub quiet_work : HasQuietSteps IsWork
quiet_work = record { load = λ w x. tt; flush = λ line. tt; drain = tt }

pub work_raises : (s : Step) → IsWork s → is_raise s ≡ false
work_raises (Load w x) work = refl
work_raises (Store w x) work = ne_eqb w 512 work
work_raises (Flush line) work = refl
work_raises Drain work = refl
work_raises (TakeWrite line won) work = refl
work_raises (TakeRead line won) work = refl
work_raises (Give line) work = refl
work_raises (Draw n) work = refl
work_raises (NumberSeen n) work = refl
work_raises (Tell operation reply) work = refl
work_raises s work = absurd work

pub all_work_raises : (steps : List Step) → Each IsWork steps → raises steps ≡ 0
unfolding Each raises
all_work_raises [] each = refl
all_work_raises (s ∷ steps) each =
    let none : raise_by s ≡ 0 = ap (λ (b : Bool). cond b 1 0) (work_raises s each.0) in
    let rest = all_work_raises steps each.1 in omega (arith, none, rest)

-- a word outside of the lane's area is not its generation
pub other_than_generation : (w : ℕ) → is_in_area 0 w ≡ false → w ≢ 512
other_than_generation w outside same = false≢true (sym outside ∙ (ap (is_in_area 0) same ∙ generation_in_area 0))

pub adds_work : (spans : List Span) (id : Oid) (off len : ℕ) → HasOnly IsWork (adds_range spans id off len)
unfolding adds_range
adds_work spans id off len =
    only_in_turn IsWork (snapshots spans (id.off + off) len) (one (Tell (AddRange id off len) None))
    (only_snapshots IsWork quiet_work (λ slot i x same. omega (arith, same)) spans (id.off + off) len)
    (only_one IsWork (Tell (AddRange id off len) None) tt)

pub reads_work : (id : Oid) (off len : ℕ) (bytes : List ℕ) → HasOnly IsWork (reads_range id off len bytes)
unfolding reads_range reads
reads_work id off len bytes =
    only_in_turn IsWork (reads (id.off + off) len) (one (Tell (Read id off len) (Some (Bytes bytes))))
    (only_looks_from IsWork quiet_work ((id.off + off) / 8) (word_count (id.off + off) len))
    (only_one IsWork (Tell (Read id off len) (Some (Bytes bytes))) tt)

pub writes_work : (id : Oid) (off : ℕ) (bytes : List ℕ) → ((u : ℕ) → u < word_count (id.off + off) (length bytes) → is_in_area 0 ((id.off + off) / 8 + u) ≡ false) → HasOnly IsWork (writes_range id off bytes)
unfolding writes_range writes writes_word
writes_work id off bytes outside =
    let place : ℕ = id.off + off in
    only_in_turn IsWork (writes place bytes) (one (Tell (Write id off bytes) None))
    (only_counted IsWork (λ i. writes_word place bytes (place / 8 + i)) (word_count place (length bytes))
    (λ i below. only_with_word IsWork quiet_work (place / 8 + i) (λ x. stores (place / 8 + i) (written_word place bytes (place / 8 + i) x))
    (λ x. only_stores IsWork quiet_work (place / 8 + i) (written_word place bytes (place / 8 + i) x) (other_than_generation (place / 8 + i) (outside i below)))))
    (only_one IsWork (Tell (Write id off bytes) None) tt)

pub starts_work : (n : ℕ) → HasOnly IsWork (starts n)
unfolding starts sees_generation
starts_work n =
    only_in_turn IsWork sees_generation (one (NumberSeen n))
    (only_by_lane IsWork (λ lane. looks (area_word lane)) (only_looks IsWork quiet_work (area_word 0)))
    (only_one IsWork (NumberSeen n) tt)

pub ends_work : (operation : Operation) (reply : Option Value) (n : ℕ) → HasOnly IsWork (ends_call operation reply n)
unfolding ends_call
ends_work operation reply n = only_in_turn IsWork (one (Tell operation reply)) (one (Draw n)) (only_one IsWork (Tell operation reply) tt) (only_one IsWork (Draw n) tt)

pub gives_work : (locks : List HeldLock) → HasOnly IsWork (gives locks)
unfolding gives
gives_work locks = only_counted IsWork (λ i. one (Give (line_at locks i))) (length locks) (λ i below. only_one IsWork (Give (line_at locks i)) tt)

pub takes_work : (line : ℕ) (write won : Bool) → raises (takes line write won ∷ []) ≡ 0
unfolding raises
takes_work line true won = refl
takes_work line false won = refl

pub tells_work : (operation : Operation) (reply : Option Value) → raises (Tell operation reply ∷ []) ≡ 0
unfolding raises
tells_work operation reply = refl

-- recorded words are outside of the area
pub recorded_outside : (v : View) → v.lane ≡ 0 → IsWorking v → (w : ℕ) → is_recorded v.log.records w ≡ true → is_in_area 0 w ≡ false
recorded_outside v lane working w recorded =
    let t = is_of v.log.records w recorded in
    ap (λ n. is_in_area n w) (sym lane) ∙ (working.records.each t.slot t.recorded w t.there t.covering).outside

pub added_outside : (v : View) (place len : ℕ) → v.lane ≡ 0 → IsWorking v → ((i : ℕ) → Contains (covered_words place len) i → is_recorded v.log.records i ≡ true)
    → (u : ℕ) → u < word_count place len → is_in_area 0 (place / 8 + u) ≡ false
added_outside v place len lane working added u below = recorded_outside v lane working (place / 8 + u) (added (place / 8 + u) (counted_covered place len u below))

work_behind : (xs : List Step) (s : Step) → Each IsWork xs → IsWork s → Each IsWork (xs ++ s ∷ [])
unfolding Each
work_behind [] s each is = (is, tt)
work_behind (x ∷ xs) s each is = (each.0, work_behind xs s each.1 is)

-- the loads of some looks, as steps
pub looks_lead : (n : ℕ) (v w : View) → Looks n v w → (steps : List Step) × (Leads v steps w × Each IsWork steps)
unfolding Looks Leads Each
looks_lead zero v w is = ([], (is, tt))
looks_lead (suc n) v w t =
    let front = looks_lead n v t.0 t.3 in
    let load : Step = Load t.1 t.2 in
    (front.0 ++ load ∷ [], (leads_then v t.0 w front.0 (load ∷ []) front.1.0 (t.4, t.5.1, tt, t.6), work_behind front.0 load front.1.1 tt))
