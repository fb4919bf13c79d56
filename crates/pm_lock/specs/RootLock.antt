-- THE ROOT WORD under its lock, that of line 0.
use Rattle.std.specs.Prelude.{◌≡◌, ℕ, ◌<◌, Bool, [], ◌∷◌, Some, Result, Ok, Err}
use Rattle.pm_layout.specs.Chunks.{word_of_root}
use Rattle.pm_memory.specs.declared.lane_mem.Stopped.{Stopped}
use Rattle.pm_view.specs.Claims.{Knows, Took}
use Rattle.pm_view.specs.Founds.{knows}
use Rattle.pm_view.specs.Steps.Step.{Load}
use Rattle.pm_view.specs.View.{View}
use Rattle.pm_view.specs.Views.{after, after_all}
use Rattle.pm_world.specs.Lawful.{MayTake}
use Rattle.pm_world.specs.declared.lane.Lane.{Lane}
use Rattle.pm_lock.specs.Locking.{HasGrown, LockedAs, lock_of}
use Rattle.pm_lock.specs.Steps.{waits}

-- the lane may take the lock
pub record MayLockRoot (v : View) : Type 0 where
  pub take : MayTake v 0
  pub lane : v.fixed.lane < v.fixed.shape.lanes

-- the lane holds it, and knows the word
pub record KnowsRootWord (v : View) (write : Bool) (x : ℕ) (w : View) : Type 0 where
  pub same : w ≡ record v {
    claims = Knows (word_of_root v.fixed.shape) x ∷ Took 0 write
        ∷ v.claims;
    seen = w.seen;
  }
  pub known : knows w (word_of_root v.fixed.shape) ≡ Some x

-- after so many tries
abbrev pub root_seen : View → ℕ → Bool → ℕ → View
root_seen v n write x = after (after_all v (waits n 0 write)) (Load (word_of_root v.fixed.shape) x)

-- IT WAS WAITED FOR, and the word looked at
abbrev pub RootLockedAs : {M : Type 0} → (M → View → Type 0) → Bool → View → Lane M → Lane M
    → Result ℕ Stopped → Type 0
RootLockedAs at write v old new (Ok x) =
    ((n : ℕ) × at new.memory (root_seen v n write x)
    × KnowsRootWord v write x (root_seen v n write x)) × HasGrown (lock_of 0 write ∷ []) old new
RootLockedAs at write v old new (Err stopped) = LockedAs at 0 write v old new (Err stopped)

unfoldable pub RootLocked : {M : Type 0} → (M → View → Type 0) → Bool → Lane M → Lane M
    → Result ℕ Stopped → Type 0
RootLocked at write old new result = (v : View) → at old.memory v → MayLockRoot v
    → RootLockedAs at write v old new result
