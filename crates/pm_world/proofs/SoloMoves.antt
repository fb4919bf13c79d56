-- Each call of one lane's memory is one step on the words that lanes share.
use Rattle.std.proofs.Common.{◌≡◌, ℕ, ◌+◌, ◌/◌, ◌<◌, cond, Bool, true, false, not, eqb, List, length, set, Some, refl, sym, ap, ◌∙◌, subst, bit_and, bit_or}
use Rattle.std.specs.Int.{bit_not, w64}
use Rattle.std.proofs.lemmas.Bool.{false≢true}
use Rattle.std.proofs.lemmas.List.{get_or-set_same, get_or-set_other}
use Rattle.pm_layout.specs.Areas.{page_bytes}
use Rattle.pm_view.specs.declared.occ.Occ.{Occ}
use Rattle.pm_view.specs.declared.occ.Occ.TheVariants.{Run, Zone}
use Rattle.pm_view.specs.LockWords.{reader_bit, writer_bit, with_writer, with_reader, with_raised}
use Rattle.pm_view.specs.Steps.{Step}
use Rattle.pm_view.specs.Steps.Step.{Load, Store, Or, And, Flush, Drain, TakeWrite, TakeRead, Raise, Give, ZoneTry, ZoneGive, Occupied, Occupy, Vacate, Draw, NumberSeen, StopSeen, SetStop, Tell}
use Rattle.pm_memory.specs.Solo.{Solo, HasWord, with_occ}
use Rattle.pm_memory.specs.SoloCalls.{occ_in}
use Rattle.pm_world.specs.Memory.{Memory, PoolWord, LockWord, RunWord, ZoneWord, ZoneLock, CommitCounter, StopWord, occ_at, IsSame, IsSameBut, Becomes}
use Rattle.pm_world.specs.Moves.{Moves}
use Rattle.pm_world.specs.SoloWorld.{memory_of, memory_by, CallsMove}

-- ---- one word changes

module _ (ws ls rs zs : List ℕ) (zl : List Bool) (n : ℕ) (stopped : Bool) where
  now : Memory
  now = memory_by ws ls rs zs zl n stopped

  pool_but : (w x : ℕ) → IsSameBut (PoolWord w) (memory_by ws ls rs zs zl n stopped) (memory_by (set ws w x) ls rs zs zl n stopped)
  pool_but w x (PoolWord v) ne = get_or-set_other ws w v x 0 (λ e. ne (ap PoolWord e))
  pool_but w x (LockWord l) ne = refl
  pool_but w x (RunWord p) ne = refl
  pool_but w x (ZoneWord z) ne = refl
  pool_but w x (ZoneLock z) ne = refl
  pool_but w x CommitCounter ne = refl
  pool_but w x StopWord ne = refl

  lock_but : (l x : ℕ) → IsSameBut (LockWord l) (memory_by ws ls rs zs zl n stopped) (memory_by ws (set ls l x) rs zs zl n stopped)
  lock_but l x (PoolWord w) ne = refl
  lock_but l x (LockWord m) ne = get_or-set_other ls l m x 0 (λ e. ne (ap LockWord e))
  lock_but l x (RunWord p) ne = refl
  lock_but l x (ZoneWord z) ne = refl
  lock_but l x (ZoneLock z) ne = refl
  lock_but l x CommitCounter ne = refl
  lock_but l x StopWord ne = refl

  run_but : (p x : ℕ) → IsSameBut (RunWord p) (memory_by ws ls rs zs zl n stopped) (memory_by ws ls (set rs p x) zs zl n stopped)
  run_but p x (PoolWord w) ne = refl
  run_but p x (LockWord l) ne = refl
  run_but p x (RunWord q) ne = get_or-set_other rs p q x 0 (λ e. ne (ap RunWord e))
  run_but p x (ZoneWord z) ne = refl
  run_but p x (ZoneLock z) ne = refl
  run_but p x CommitCounter ne = refl
  run_but p x StopWord ne = refl

  zone_but : (z x : ℕ) → IsSameBut (ZoneWord z) (memory_by ws ls rs zs zl n stopped) (memory_by ws ls rs (set zs z x) zl n stopped)
  zone_but z x (PoolWord w) ne = refl
  zone_but z x (LockWord l) ne = refl
  zone_but z x (RunWord p) ne = refl
  zone_but z x (ZoneWord y) ne = get_or-set_other zs z y x 0 (λ e. ne (ap ZoneWord e))
  zone_but z x (ZoneLock y) ne = refl
  zone_but z x CommitCounter ne = refl
  zone_but z x StopWord ne = refl

  zone_lock_but : (z : ℕ) (b : Bool) → IsSameBut (ZoneLock z) (memory_by ws ls rs zs zl n stopped) (memory_by ws ls rs zs (set zl z b) n stopped)
  zone_lock_but z b (PoolWord w) ne = refl
  zone_lock_but z b (LockWord l) ne = refl
  zone_lock_but z b (RunWord p) ne = refl
  zone_lock_but z b (ZoneWord y) ne = refl
  zone_lock_but z b (ZoneLock y) ne = ap (λ c. cond c 1 0) (get_or-set_other zl z y b false (λ e. ne (ap ZoneLock e)))
  zone_lock_but z b CommitCounter ne = refl
  zone_lock_but z b StopWord ne = refl

  number_but : (m : ℕ) → IsSameBut CommitCounter (memory_by ws ls rs zs zl n stopped) (memory_by ws ls rs zs zl m stopped)
  number_but m (PoolWord w) ne = refl
  number_but m (LockWord l) ne = refl
  number_but m (RunWord p) ne = refl
  number_but m (ZoneWord z) ne = refl
  number_but m (ZoneLock z) ne = refl
  number_but m CommitCounter ne = absurd (ne refl)
  number_but m StopWord ne = refl

  stop_but : (b : Bool) → IsSameBut StopWord (memory_by ws ls rs zs zl n stopped) (memory_by ws ls rs zs zl n b)
  stop_but b (PoolWord w) ne = refl
  stop_but b (LockWord l) ne = refl
  stop_but b (RunWord p) ne = refl
  stop_but b (ZoneWord z) ne = refl
  stop_but b (ZoneLock z) ne = refl
  stop_but b CommitCounter ne = refl
  stop_but b StopWord ne = absurd (ne refl)

same : (old new : Solo) → new ≡ old → IsSame (memory_of old) (memory_of new)
same old new is l = ap (λ (m : Solo). memory_of m l) is

-- the memory after, by an equation
by : (old new made : Solo) (P : Memory → Type 0) → new ≡ made → P (memory_of made) → P (memory_of new)
by old new made P is fits = subst (λ (m : Solo). P (memory_of m)) (sym is) fits

occ_becomes : (old : Solo) (at : Occ) (x : ℕ) → HasWord old.runs old.zones at → Becomes (occ_at at) x (memory_of old) (memory_of (with_occ old at x))
occ_becomes old (Run place) x there = (run_but old.words old.locks old.runs old.zones old.zone_locks old.number old.stopped (place / page_bytes) x, get_or-set_same old.runs (place / page_bytes) x 0 there.1)
occ_becomes old (Zone zone) x there = (zone_but old.words old.locks old.runs old.zones old.zone_locks old.number old.stopped zone x, get_or-set_same old.zones zone x 0 there)

occ_is : (old : Solo) (at : Occ) → occ_in old at ≡ memory_of old (occ_at at)
occ_is old (Run place) = refl
occ_is old (Zone zone) = refl

stop_is : (b : Bool) → b ≡ not (eqb (cond b 1 0) 0)
stop_is true = refl
stop_is false = refl

lock_becomes : (old : Solo) (line x : ℕ) → line < length old.locks → Becomes (LockWord line) x (memory_of old) (memory_of (record old { locks = set old.locks line x }))
lock_becomes old line x inside = (lock_but old.words old.locks old.runs old.zones old.zone_locks old.number old.stopped line x, get_or-set_same old.locks line x 0 inside)

pub calls_move : (s : Step) → CallsMove s
calls_move (Load w found) old new can is = (same old new is.0, is.1)
calls_move (Store w x) old new can is = subst (λ (m : Solo). Moves 0 (Store w x) (memory_of old) (memory_of m)) (sym is)
    (pool_but old.words old.locks old.runs old.zones old.zone_locks old.number old.stopped w x, get_or-set_same old.words w x 0 can.0)
calls_move (Or w bits found) old new can is = subst (λ (m : Solo). Moves 0 (Or w bits found) (memory_of old) (memory_of m)) (sym is.0)
    ((pool_but old.words old.locks old.runs old.zones old.zone_locks old.number old.stopped w _, get_or-set_same old.words w _ 0 can.0 ∙ ap (λ n. bit_or n bits) (sym is.1)), is.1)
calls_move (And w bits found) old new can is = subst (λ (m : Solo). Moves 0 (And w bits found) (memory_of old) (memory_of m)) (sym is.0)
    ((pool_but old.words old.locks old.runs old.zones old.zone_locks old.number old.stopped w _, get_or-set_same old.words w _ 0 can.0 ∙ ap (λ n. bit_and n bits) (sym is.1)), is.1)
calls_move (Flush line) old new can is = λ l. ap (λ (m : Solo). memory_of m l) is
calls_move Drain old new can is = λ l. ap (λ (m : Solo). memory_of m l) is
calls_move (TakeWrite line true) old new can is = subst (λ (m : Solo). Moves 0 (TakeWrite line true) (memory_of old) (memory_of m)) (sym is.0)
    (let b = lock_becomes old line (writer_bit 0) can.0 in (b.0, ap (with_writer 0) can.1 ∙ ap Some (sym b.1)))
calls_move (TakeWrite line false) old new can is = absurd (false≢true is.1)
calls_move (TakeRead line true) old new can is = subst (λ (m : Solo). Moves 0 (TakeRead line true) (memory_of old) (memory_of m)) (sym is.0)
    (let b = lock_becomes old line (reader_bit 0) can.0 in (b.0, ap (with_reader 0) can.1 ∙ ap Some (sym b.1)))
calls_move (TakeRead line false) old new can is = absurd (false≢true is.1)
calls_move (Raise line true) old new can is = subst (λ (m : Solo). Moves 0 (Raise line true) (memory_of old) (memory_of m)) (sym is.0)
    (let b = lock_becomes old line (writer_bit 0) can.0 in (b.0, ap (with_raised 0) can.1 ∙ ap Some (sym b.1)))
calls_move (Raise line false) old new can is = absurd (false≢true is.1)
calls_move (Give line) old new can is = subst (λ (m : Solo). Moves 0 (Give line) (memory_of old) (memory_of m)) (sym is) (lock_becomes old line _ can)
calls_move (ZoneTry zone true) old new can is = subst (λ (m : Solo). Moves 0 (ZoneTry zone true) (memory_of old) (memory_of m)) (sym is.0)
    ((zone_lock_but old.words old.locks old.runs old.zones old.zone_locks old.number old.stopped zone true, ap (λ c. cond c 1 0) (get_or-set_same old.zone_locks zone true false can.0)), ap (λ c. cond c 1 0) can.1)
calls_move (ZoneTry zone false) old new can is = absurd (false≢true is.1)
calls_move (ZoneGive zone) old new can is = subst (λ (m : Solo). Moves 0 (ZoneGive zone) (memory_of old) (memory_of m)) (sym is)
    (zone_lock_but old.words old.locks old.runs old.zones old.zone_locks old.number old.stopped zone false, ap (λ c. cond c 1 0) (get_or-set_same old.zone_locks zone false false can))
calls_move (Occupied at found) old new can is = (same old new is.0, is.1 ∙ occ_is old at)
calls_move (Occupy at bits true) old new can is = subst (λ (m : Solo). Moves 0 (Occupy at bits true) (memory_of old) (memory_of m)) (sym is.0)
    (let b = occ_becomes old at (bit_or (occ_in old at) bits) can in ((b.0, b.1 ∙ ap (λ n. bit_or n bits) (occ_is old at)), ap (λ n. bit_and n bits) (sym (occ_is old at)) ∙ is.1))
calls_move (Occupy at bits false) old new can is = (same old new is.0, λ e. is.1 (ap (λ n. bit_and n bits) (occ_is old at) ∙ e))
calls_move (Vacate at bits) old new can is = subst (λ (m : Solo). Moves 0 (Vacate at bits) (memory_of old) (memory_of m)) (sym is)
    (let b = occ_becomes old at (bit_and (occ_in old at) (bit_not w64 bits)) can in (b.0, b.1 ∙ ap (λ n. bit_and n (bit_not w64 bits)) (occ_is old at)))
calls_move (Draw n) old new can is = subst (λ (m : Solo). Moves 0 (Draw n) (memory_of old) (memory_of m)) (sym is.0)
    ((number_but old.words old.locks old.runs old.zones old.zone_locks old.number old.stopped (old.number + 1), ap (λ m. m + 1) (sym is.1)), is.1)
calls_move (NumberSeen n) old new can is = (same old new is.0, is.1)
calls_move (StopSeen said) old new can is = (same old new is.0, is.1 ∙ stop_is old.stopped)
calls_move SetStop old new can is = subst (λ (m : Solo). Moves 0 SetStop (memory_of old) (memory_of m)) (sym is)
    (stop_but old.words old.locks old.runs old.zones old.zone_locks old.number old.stopped true, refl)
calls_move (Tell operation reply) old new can is = same old new is
