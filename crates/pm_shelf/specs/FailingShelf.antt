use Rattle.std.specs.Prelude.{Option}
use Rattle.pm_shelf.specs.Outside.{Held}
use Rattle.pm_shelf.specs.Plan.{Plan}
use Rattle.pm_shelf.specs.MapShelf.{held_by, map_content}
use Rattle.pm_shelf.specs.declared.failing_shelf.FailingShelf.{FailingShelf}

-- the calls, and those that are to fail
abbrev pub shelf_plan : FailingShelf → Plan
shelf_plan shelf = shelf.plan

-- the bytes of each name
abbrev pub failing_held_by : FailingShelf → Held
failing_held_by shelf = held_by shelf.shelf

-- the same, as what the shelf tells
abbrev pub failing_content : FailingShelf → Option Held
failing_content shelf = map_content shelf.shelf
