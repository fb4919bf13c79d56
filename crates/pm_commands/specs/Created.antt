-- What `create` makes, which values it takes, and why it refuses the others: the first cause in the order shape, id, layout, size.
use Rattle.std.specs.Prelude.{◌≡◌, ◌≤◌, ◌<◌, ℕ, List, Option, ⊤}
use Rattle.pm_words.specs.Words.{bytes_of}
use Rattle.pm_layout.specs.Layout.{IsShape}
use Rattle.pm_header.specs.Name.{IsName}
use Rattle.pm_options.specs.Words.{Create}
use Rattle.pm_pool.specs.Created.{Wanted, CanCreate, created}
use Rattle.pm_pool.specs.declared.creating.CreateFault.TheVariants.{BadId, BadLayout, BadSize}
use Rattle.pm_shelf.specs.Outside.{Adds, Held}
use Rattle.pm_commands.specs.Lines.{created_line}
use Rattle.pm_commands.specs.declared.failure.Failure.{Failure}
use Rattle.pm_commands.specs.declared.failure.Failure.TheVariants.{BadShape, BadValue, NoMemory}

-- such a pool can be made
pub record HasGoodValues (w : Wanted) : Type 0 where
  pub shape : IsShape w.lanes w.zones
  pub values : CanCreate w.id w.layout w.root

-- why these values are refused, or there was no memory
abbrev pub IsValueCause : Wanted → Failure → Type 0
IsValueCause w BadShape = ¬ IsShape w.lanes w.zones
IsValueCause w (BadValue BadId) = IsShape w.lanes w.zones × (w.id ≡ 0)
IsValueCause w (BadValue BadLayout) = IsShape w.lanes w.zones × (1 ≤ w.id) × ¬ IsName w.layout
IsValueCause w (BadValue BadSize) = IsShape w.lanes w.zones × (1 ≤ w.id) × IsName w.layout × (262080 < w.root)
IsValueCause w NoMemory = ⊤
IsValueCause w failure = ⊥

-- the bytes of the pool that is asked for
abbrev pub pool_bytes : Create → List ℕ
pool_bytes c = bytes_of (created c.wanted)

-- the pool was made and stands under its new name, and this is the line that tells of it
pub record IsCreated (c : Create) (held after : Option Held) (text : List ℕ) : Type 0 where
  pub good : HasGoodValues c.wanted
  pub added : Adds held after c.pool (pool_bytes c)
  pub told : text ≡ created_line c.wanted
