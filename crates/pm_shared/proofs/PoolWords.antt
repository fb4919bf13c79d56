-- Words of the pool are changed by stores, ORs and ANDs alone, and by these at one word.
use Rattle.std.proofs.Common.{◌≡◌, ◌≢◌, ℕ, true, false, ap, refl, sym, arith}
use Rattle.std.proofs.lemmas.Bool.{both_ways}
use Rattle.pm_view.specs.declared.occ.Occ.TheVariants.{Run, Zone}
use Rattle.pm_view.specs.Counts.{is_store}
use Rattle.pm_view.specs.Steps.{Step}
use Rattle.pm_view.specs.Steps.Step.{Load, Store, Or, And, Flush, Drain, TakeWrite, TakeRead, Raise, Give, ZoneTry, ZoneGive, Occupied, Occupy, Vacate, Draw, NumberSeen, StopSeen, SetStop, Tell}
use Rattle.pm_world.specs.Memory.{Memory, Location, PoolWord, LockWord, ZoneLock, CommitCounter, StopWord, occ_at, IsSameBut}
use Rattle.pm_world.specs.Moves.{Moves}
use Rattle.pm_shared.specs.Placing.{sort_of, number_of}

module _ (old new : Memory) (u : ℕ) where
  else_ : (at : Location) → sort_of at ≢ 0 → IsSameBut at old new → new (PoolWord u) ≡ old (PoolWord u)
  else_ at ne same = same (PoolWord u) (λ e. ne (sym (ap sort_of e)))

  -- another word
  pub word_stays : (w : ℕ) → u ≢ w → IsSameBut (PoolWord w) old new → new (PoolWord u) ≡ old (PoolWord u)
  word_stays w ne same = same (PoolWord u) (λ e. ne (ap number_of e))

  pub pool_stays : (k : ℕ) (s : Step) → is_store s ≡ false → Moves k s old new → new (PoolWord u) ≡ old (PoolWord u)
  pool_stays k (Load w x) plain m = m.0 (PoolWord u)
  pool_stays k (Store w x) plain m = absurd (both_ways true plain refl)
  pool_stays k (Or w bits x) plain m = absurd (both_ways true plain refl)
  pool_stays k (And w bits x) plain m = absurd (both_ways true plain refl)
  pool_stays k (Flush line) plain m = m (PoolWord u)
  pool_stays k Drain plain m = m (PoolWord u)
  pool_stays k (TakeWrite line true) plain m = else_ (LockWord line) (λ e. absurd (omega arith)) m.0
  pool_stays k (TakeWrite line false) plain m = m.0 (PoolWord u)
  pool_stays k (TakeRead line true) plain m = else_ (LockWord line) (λ e. absurd (omega arith)) m.0
  pool_stays k (TakeRead line false) plain m = m.0 (PoolWord u)
  pool_stays k (Raise line true) plain m = else_ (LockWord line) (λ e. absurd (omega arith)) m.0
  pool_stays k (Raise line false) plain m = m.0 (PoolWord u)
  pool_stays k (Give line) plain m = else_ (LockWord line) (λ e. absurd (omega arith)) m.0
  pool_stays k (ZoneTry z true) plain m = else_ (ZoneLock z) (λ e. absurd (omega arith)) m.0.0
  pool_stays k (ZoneTry z false) plain m = m.0 (PoolWord u)
  pool_stays k (ZoneGive z) plain m = else_ (ZoneLock z) (λ e. absurd (omega arith)) m.0
  pool_stays k (Occupied at x) plain m = m.0 (PoolWord u)
  pool_stays k (Occupy (Run place) bits true) plain m = else_ (occ_at (Run place)) (λ e. absurd (omega arith)) m.0.0
  pool_stays k (Occupy (Zone zone) bits true) plain m = else_ (occ_at (Zone zone)) (λ e. absurd (omega arith)) m.0.0
  pool_stays k (Occupy at bits false) plain m = m.0 (PoolWord u)
  pool_stays k (Vacate (Run place) bits) plain m = else_ (occ_at (Run place)) (λ e. absurd (omega arith)) m.0
  pool_stays k (Vacate (Zone zone) bits) plain m = else_ (occ_at (Zone zone)) (λ e. absurd (omega arith)) m.0
  pool_stays k (Draw n) plain m = else_ CommitCounter (λ e. absurd (omega arith)) m.0.0
  pool_stays k (NumberSeen n) plain m = m.0 (PoolWord u)
  pool_stays k (StopSeen set) plain m = m.0 (PoolWord u)
  pool_stays k SetStop plain m = else_ StopWord (λ e. absurd (omega arith)) m.0
  pool_stays k (Tell operation reply) plain m = m (PoolWord u)
