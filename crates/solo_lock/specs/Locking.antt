-- Locks that a call takes, each tried once, and gives back.
use Rattle.std.specs.Prelude.{◌≡◌, ℕ, ◌/◌, ◌<◌, Bool, true, false, All, Contains, List, length, None, slice_index_or}
use Rattle.solo_view.specs.Constants.{IsSameLane}
use Rattle.solo_view.specs.Steps.Step.{TakeRead, TakeWrite, Give}
use Rattle.solo_view.specs.Steps.{Step}
use Rattle.solo_view.specs.View.{View, Lock}
use Rattle.solo_world.specs.Lawful.{is_holder}
use Rattle.solo_world.specs.Sequences.{Sequence, counted, one}
use Rattle.solo_world.specs.declared.lane.HeldLock.{HeldLock}
use Rattle.solo_world.specs.declared.lane.Lane.{Lane}
use Rattle.solo_lock.specs.Begun.{IsBegun}
use Rattle.solo_lock.specs.Leading.{IsLed}
use Rattle.solo_lock.specs.Resting.{IsAtRest}

-- a line's lock is tried once, for writing or for reading; whether it was got
abbrev pub takes : ℕ → Bool → Bool → Step
takes line true won = TakeWrite line won
takes line false won = TakeRead line won

-- the line is of the pool, and the lane holds no lock of it
pub record IsFreeLine (v : View) (line : ℕ) : Type 0 where
  pub inside : line < length v.words / 8
  pub free : is_holder v.locks line ≡ false

-- the view has a call that has begun, without a block under any lock
pub record HoldsUnfound {M : Type 0} (at : M → View → Type 0) (lane : Lane M) (v : View) : Type 0 where
  pub begun : IsBegun at lane v
  pub unfound : All (λ (l : Lock). l.block ≡ None) v.locks

-- the locks of the plan were all taken
pub record HasTaken {M : Type 0} (at : M → View → Type 0) (lane : Lane M) (v : View) (locks : List Lock) : Type 0 where
  pub view : View
  pub led : IsLed v view
  pub begun : IsBegun at lane view
  pub locks_are : view.locks ≡ locks
  pub entries : view.entries ≡ v.entries

-- the first of them were taken, and then one was refused
pub record HasNotTaken {M : Type 0} (at : M → View → Type 0) (lane : Lane M) (v : View) : Type 0 where
  pub view : View
  pub led : IsLed v view
  pub held : HoldsUnfound at lane view
  pub entries : view.entries ≡ v.entries
  pub line : ℕ
  pub write : Bool
  pub refused : Contains view.seen (takes line write false)

abbrev pub no_lock : HeldLock
no_lock = record { line = 0; write = false; block = None }

-- the line of a lock, by the lock's place in the lane's list
abbrev pub line_at : List HeldLock → ℕ → ℕ
line_at locks i = (slice_index_or locks i no_lock).line

-- each lock is given back, in their order
unfoldable pub gives : List HeldLock → Sequence
gives locks = counted (λ i. one (Give (line_at locks i))) (length locks)

-- the locks were given back, and the lane rests
pub record IsGivenBack {M : Type 0} (at : M → View → Type 0) (lane : Lane M) (v : View) : Type 0 where
  pub view : View
  pub led : IsLed v view
  pub rests : IsAtRest at lane view
  pub seen : view.seen ≡ v.seen
  pub entries : view.entries ≡ v.entries

-- a lock was refused, every other was given back, and the lane rests
pub record IsBusy {M : Type 0} (at : M → View → Type 0) (lane : Lane M) (v : View) : Type 0 where
  pub view : View
  pub led : IsLed v view
  pub same : IsSameLane v view
  pub rests : IsAtRest at lane view
  pub entries : view.entries ≡ v.entries
  pub line : ℕ
  pub write : Bool
  pub refused : Contains view.seen (takes line write false)
