-- PENDING WORDS AS ENTRIES of a call, which a publish makes of them.
use Rattle.std.specs.Prelude.{◌+◌, ◌^◌, ◌<◌, List, [], ◌∷◌}
use Rattle.std.specs.List.{flat_map}
use Rattle.pm_record.specs.declared.redo.Redo.{Redo}
use Rattle.pm_world.specs.declared.lane.PendingAction.{PendingAction}
use Rattle.pm_world.specs.declared.lane.PendingAction.TheVariants.{Set}
use Rattle.pm_call.specs.At.{set_entry}

-- the entry of an action; none where it is no word to be set
abbrev pub entry_of : PendingAction → List Redo
entry_of (Set id off value) =
    set_entry (record { id = id; off = off; value = value }) ∷ []
entry_of action = []

abbrev pub entries_of : List PendingAction → List Redo
entries_of actions = flat_map entry_of actions

-- each word to be set has a place
abbrev pub HasPlace : PendingAction → Type 0
HasPlace (Set id off value) = id.off + off < 2 ^ 64
HasPlace action = Unit {0}
