-- FRESHNESS: a lane's numbers rise in its own order, and a root that a lane reads is that after the
-- calls up to some number between its last and its next.
use Rattle.std.specs.Prelude.{◌≡◌, ℕ, ◌<◌, ◌≤◌, ◌==◌, Bool, true, All, List, [], ◌∷◌, Option, None, Some, if◌then◌else◌}
use Rattle.pm_header.specs.declared.header.Header.{Header}
use Rattle.pm_objects.specs.declared.pool.PoolView.{PoolView}
use Rattle.pm_layout.specs.Chunks.{word_of_root}
use Rattle.pm_view.specs.Claims.{holds}
use Rattle.pm_view.specs.Log.{is_early}
use Rattle.pm_view.specs.View.{Numbered}
use Rattle.pm_view.specs.Views.{value_in}
use Rattle.pm_world.specs.Memory.{Memory}
use Rattle.pm_world.specs.World.{Opening, Views, Past, World}
use Rattle.pm_crash.specs.Footprints.{KeepsDecided}
use Rattle.pm_crash.specs.Replayed.{HoldsReplay}

-- each number is above those after it in the list
abbrev pub AreFalling : List Numbered → Type 0
AreFalling [] = Unit {0}
AreFalling (e ∷ earlier) = All (λ (f : Numbered). f.number < e.number) earlier × AreFalling earlier

-- NUMBERS RISE in a lane's own order, and none is above how many were drawn
abbrev pub NumbersRise : Type 0
NumbersRise = (o : Opening) (mem : Memory) (views : Views) (g : Past) → World o mem views g
    → (k : ℕ) → k < o.lanes
    → AreFalling (views k).entries × All (λ (e : Numbered). e.number ≤ g.length) (views k).entries

-- the history goes on: its calls stay, and what is decided
pub record GoesOn (g later : Past) : Type 0 where
  pub longer : g.length ≤ later.length
  pub same : (n : ℕ) → n < g.length → later.drew n ≡ g.drew n
  pub decided : (n : ℕ) → g.decided n ≡ true → later.decided n ≡ true

-- the pool's root by its word
abbrev pub root_told : ℕ → Option ℕ
root_told x = if x == 0 then None else Some x

-- THE ROOT THAT A LANE SEES under the lock of line 0 is that after the calls drawn so far, of which
-- its last is one and its next is none, whichever calls are kept in the end
abbrev pub RootIsFresh : Type 0
RootIsFresh = (o : Opening) (mem : Memory) (views : Views) (g : Past) → World o mem views g
    → (k : ℕ) → k < o.lanes → is_early (views k).log.phase ≡ true
    → holds (views k).claims 0 ≡ true
    → (x : ℕ) → value_in (views k) (word_of_root o.shape) ≡ Some x
    → (later : Past) → GoesOn g later → (keep : ℕ → Bool) → KeepsDecided later keep
    → (header : Header) (pool : PoolView)
    → (r : HoldsReplay o later keep g.length header pool) → r.last.root ≡ root_told x
