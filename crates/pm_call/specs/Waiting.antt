-- WHAT A LANE HAS PENDING, by what it told: each action that it lists is a word to be set. No call of these crates reserves or frees a block.
use Rattle.std.specs.Prelude.{◌≡◌, ◌%◌, ◌^◌, ◌<◌, ◌≤◌, false, [], length, map}
use Rattle.std.specs.List.{AllByRecursion}
use Rattle.pm_model.specs.Pending.{Pending, SetWord, max_actions}
use Rattle.pm_view.specs.View.{View}
use Rattle.pm_world.specs.LaneFields.{listed}
use Rattle.pm_world.specs.declared.lane.PendingAction.{PendingAction}
use Rattle.pm_world.specs.declared.lane.PendingAction.TheVariants.{Set}
use Rattle.pm_crash.specs.Calls.{pending_after, pending_of}

-- what the model has pending, after the lane's entries and what it told since
abbrev pub pending_now : View → Pending
pending_now v = pending_after v.call (pending_of v.entries)

-- a view whose call has its number: what it told is among the entries, and nothing was told since
abbrev pub uncalled : View → View
uncalled v = record v { call = [] }

-- a word to be set, as the lane lists it
abbrev pub listed_set : SetWord → PendingAction
listed_set a = Set a.id a.off a.value

-- it begins at a multiple of eight, and its value has eight bytes
abbrev pub IsWord : SetWord → Type 0
IsWord a = (a.off % 8 ≡ 0) × (a.value < 2 ^ 64)

-- THE LANE LISTS WHAT IS PENDING, in order
pub record HasPending (v : View) : Type 0 where
  pub lists : listed v.actions ≡ map listed_set (pending_now v).sets
  pub no_frees : (pending_now v).frees ≡ []
  pub none_reserved : (pending_now v).reserved ≡ []
  pub on_time : (pending_now v).late ≡ false
  pub few : length (pending_now v).sets ≤ max_actions
  pub words : AllByRecursion IsWord (pending_now v).sets
