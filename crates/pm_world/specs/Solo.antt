-- The memory of one lane takes each step that the lane's view allows, and so does lane 0 over it: values that a trait asks for.
use Rattle.std.specs.Prelude.{ℕ, ◌/◌, ◌<◌, ◌≤◌}
use Rattle.std.proofs.Common.{sym, subst, arith}
use Rattle.pm_layout.specs.declared.shape.Shape.{Shape}
use Rattle.pm_layout.specs.Chunks.{words_of, chunks_of, page_of_chunk}
use Rattle.pm_view.specs.declared.occ.Occ.{Occ}
use Rattle.pm_view.specs.declared.occ.Occ.TheVariants.{Run, Zone}
use Rattle.pm_view.specs.Steps.{Step}
use Rattle.pm_view.specs.Steps.Step.{Load, Store, Or, And, Flush, Drain, TakeWrite, TakeRead, Raise, Give, ZoneTry, ZoneGive, Occupied, Occupy, Vacate, Draw, NumberSeen, StopSeen, SetStop, Tell}
use Rattle.pm_view.specs.View.{View}
use Rattle.pm_memory.specs.Solo.{Solo, Sees, CanStep, HasWord}
use Rattle.pm_memory.proofs.Meeting.{word_inside, room_for, flushes_some, drains_some, line_inside, lock_free, lock_read, zone_inside, zone_free, page_inside, number_below}
use Rattle.pm_world.specs.Lawful.{Allowed, HasOcc}
use Rattle.pm_world.specs.SoloLanes.{StandsAs}

few_zones : (sh : Shape) (zone : ℕ) → zone < sh.zones → zone < 32
few_zones sh zone inside = let most : sh.zones ≤ 32 = sh.zones_to in omega (arith, inside, most)

chunk_inside : (sh : Shape) (c : ℕ) → c < chunks_of sh → page_of_chunk sh c < words_of sh / 512
chunk_inside sh c inside = omega (arith, inside)

has_word : (m : Solo) (v : View) (at : Occ) → Sees m v → HasOcc v at → HasWord m.runs m.zones at
has_word m v (Run place) sees there = subst (λ p. HasWord m.runs m.zones (Run p)) (sym there.2) (page_inside m v (page_of_chunk v.fixed.shape there.0) sees (chunk_inside v.fixed.shape there.0 there.1))
has_word m v (Zone zone) sees inside = let few = few_zones v.fixed.shape zone inside in let size = sees.sizes.zones_are in omega (arith, few, size)

pub meets_solo : (m : Solo) (v : View) (s : Step) → Sees m v → Allowed v s → CanStep m s
meets_solo m v (Load w found) sees may = word_inside m v w sees may
meets_solo m v (Store w x) sees may = (word_inside m v w sees may.inside, room_for m v sees may.room)
meets_solo m v (Or w bits found) sees may = (word_inside m v w sees may.inside, room_for m v sees may.room)
meets_solo m v (And w bits found) sees may = (word_inside m v w sees may.inside, room_for m v sees may.room)
meets_solo m v (Flush line) sees may = flushes_some m v line sees may
meets_solo m v Drain sees may = drains_some m v sees may
meets_solo m v (TakeWrite line won) sees may = (line_inside m v line sees may.inside, lock_free m v line sees may.inside may.free)
meets_solo m v (TakeRead line won) sees may = (line_inside m v line sees may.inside, lock_free m v line sees may.inside may.free)
meets_solo m v (Raise line won) sees may = (line_inside m v line sees may.inside, lock_read m v line sees may.inside may.held)
meets_solo m v (Give line) sees may = line_inside m v line sees may.inside
meets_solo m v (ZoneTry zone won) sees may = let few = few_zones v.fixed.shape zone may.inside in (zone_inside m v zone sees few, zone_free m v zone sees few may.free)
meets_solo m v (ZoneGive zone) sees may = zone_inside m v zone sees (few_zones v.fixed.shape zone may.inside)
meets_solo m v (Occupied at found) sees may = has_word m v at sees may
meets_solo m v (Occupy at bits won) sees may = has_word m v at sees may.there
meets_solo m v (Vacate at bits) sees may = has_word m v at sees may.there
meets_solo m v (Draw n) sees may = number_below m v may.found sees may.first may.seen may.below
meets_solo m v (NumberSeen n) sees may = tt
meets_solo m v (StopSeen set) sees may = tt
meets_solo m v SetStop sees may = tt
meets_solo m v (Tell operation reply) sees may = tt

-- so does lane 0 over it, in whatever world the memory stands
pub meets_standing : (m : Solo) (v : View) (s : Step) → StandsAs m v → Allowed v s → CanStep m s
meets_standing m v s stands may = meets_solo m v s stands.1.sees may

-- which promises what it does of the steps that the view allows
pub grants_allowed : (v : View) (s : Step) → Allowed v s → Allowed v s
grants_allowed v s may = may
