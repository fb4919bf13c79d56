-- That one lane's memory takes each step that its view allows: a value that the trait asks for.
use Rattle.std.specs.Prelude.{◌≡◌, ℕ, ◌/◌, ◌<◌, ◌==◌, false, List, [], ◌∷◌, length, slice_index}
use Rattle.std.proofs.Common.{refl, sym, subst, ◌∙◌, arith}
use Rattle.std.proofs.lemmas.Bool.{cond-false, or_parts}
use Rattle.solo_view.specs.declared.change.Change.{Change}
use Rattle.solo_view.specs.declared.occ.Occ.{Occ}
use Rattle.solo_view.specs.declared.occ.Occ.TheVariants.{Run, Zone}
use Rattle.solo_view.specs.Counts.{HasRoom, FlushesSome, DrainsSome, DropsSome}
use Rattle.solo_view.specs.Steps.{Step}
use Rattle.solo_view.specs.Steps.Step.{Load, Store, Or, And, Flush, Drain, TakeWrite, TakeRead, Raise, Give, ZoneTry, ZoneGive, Occupied, Occupy, Vacate, Draw, NumberSeen, StopSeen, SetStop, Tell}
use Rattle.solo_view.specs.View.{View, Lock}
use Rattle.solo_memory.specs.Solo.{Solo, Sees, CanStep, HasOcc, lock_word}
use Rattle.solo_world.specs.Lawful.{Allowed, LiesInside, is_holder}

near : (m : Solo) (v : View) (line : ℕ) → Sees m v → line < length v.words / 8 → line < length m.locks
near m v line sees inside = subst (λ n. line < n) (sym sees.lines) (subst (λ (words : List ℕ). line < length words / 8) sees.words inside)

free : (m : Solo) (v : View) (line : ℕ) → Sees m v → line < length m.locks → is_holder v.locks line ≡ false → slice_index m.locks line ≡ 0
free m v line sees inside none = sees.locks line inside ∙ no_hold v.locks line none where
  no_hold : (locks : List Lock) (line : ℕ) → is_holder locks line ≡ false → lock_word locks line ≡ 0
  no_hold [] line e = refl
  no_hold (l ∷ locks) line e =
      let t = or_parts (l.line == line) (is_holder locks line) e in
      cond-false _ _ (lock_word locks line) t.0 ∙ no_hold locks line t.1

near_zone : (m : Solo) (v : View) (zone : ℕ) → Sees m v → zone < 32 → zone < length m.zone_locks
near_zone m v zone sees few = subst (λ n. zone < n) (sym sees.zone_lock_count) few

has_occ : (m : Solo) (v : View) (at : Occ) → Sees m v → LiesInside v at → HasOcc m at
has_occ m v (Run place) sees inside = subst (λ n. place / 4096 < n) (sym sees.pages) (subst (λ (words : List ℕ). place / 4096 < length words / 512) sees.words inside)
has_occ m v (Zone zone) sees few = subst (λ n. zone < n) (sym sees.zone_count) few

-- where a drain drops a change, one is undrained
pub some_undrained : (changes : List Change) → DropsSome changes → DrainsSome changes
some_undrained [] drops = absurd (let none = drops.2 in omega (arith, none))
some_undrained (c ∷ changes) drops = omega arith

pub meets_solo : (m : Solo) (v : View) (s : Step) → Sees m v → Allowed v s → CanStep m s
meets_solo m v (Load w found) sees may = subst (λ (words : List ℕ). w < length words) sees.words may
meets_solo m v (Store w x) sees may = (subst (λ (words : List ℕ). w < length words) sees.words may.inside, subst HasRoom sees.changes may.room)
meets_solo m v (Or w bits found) sees may = (subst (λ (words : List ℕ). w < length words) sees.words may.inside, subst HasRoom sees.changes may.room)
meets_solo m v (And w bits found) sees may = (subst (λ (words : List ℕ). w < length words) sees.words may.inside, subst HasRoom sees.changes may.room)
meets_solo m v (Flush line) sees may = subst (FlushesSome line) sees.changes may
meets_solo m v Drain sees may = subst DrainsSome sees.changes (some_undrained v.changes may)
meets_solo m v (TakeWrite line won) sees may = let inside = near m v line sees may.inside in (inside, free m v line sees inside may.free)
meets_solo m v (TakeRead line won) sees may = let inside = near m v line sees may.inside in (inside, free m v line sees inside may.free)
meets_solo m v (Raise line won) sees may = absurd may
meets_solo m v (Give line) sees may = near m v line sees may.inside
meets_solo m v (ZoneTry zone won) sees may = let inside = near_zone m v zone sees may.few in (inside, sees.zone_locks zone inside ∙ may.free)
meets_solo m v (ZoneGive zone) sees may = near_zone m v zone sees may.few
meets_solo m v (Occupied at found) sees may = has_occ m v at sees may.inside
meets_solo m v (Occupy at bits won) sees may = has_occ m v at sees may.there.inside
meets_solo m v (Vacate at bits) sees may = has_occ m v at sees may.there.inside
meets_solo m v (Draw n) sees may = let same = sees.counter may.first may.found may.seen in let below = may.below in omega (arith, same, below)
meets_solo m v (NumberSeen n) sees may = tt
meets_solo m v (StopSeen set) sees may = tt
meets_solo m v SetStop sees may = tt
meets_solo m v (Tell operation reply) sees may = tt
