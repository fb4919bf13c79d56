-- A block can begin exactly where chunks and the blocks of runs do.
use Rattle.std.proofs.Common.{get_or, lit<, ◌≡◌, ⊎_elim, ◌⊎◌, inl, inr, ℕ, ◌+◌, ◌-◌, ◌*◌, ◌/◌, ◌%◌, ◌<◌, ◌≤◌, Option, Some, None, Bool, true, false, cond, eqb, ltb, leb, ◌&&◌, refl, sym, ◌∙◌, ap, subst, arith}
use Rattle.std.specs.List.{list_any}
use Rattle.std.specs.Option.{option_map_or}
use Rattle.std.proofs.lemmas.Bool.{false≢true, and_parts, and_from, or_cases, or_right, eqb-true, eq-eqb, ltb-true, leb-true, lt-ltb, le-leb}
use Rattle.std.proofs.lemmas.List.Folds.{list_any_at}
use Rattle.pm_layout.specs.Layout.{zone_place, chunk_place}
use Rattle.pm_layout.specs.Sizes.{blocks_of, blocks_by_class, block_place}
use Rattle.pm_model.specs.Places.{can_begin_at_line, bytes_in_zones, can_begin, CanBegin}

-- the line at which block `index` of a run of so many lines begins
abbrev Begins : ℕ → Type 0
Begins line = (line ≡ 0)
    ⊎ ((lines : ℕ) × (index : ℕ) × (index < blocks_of lines) × (line ≡ 1 + lines * index))

abbrev in_class : ℕ → ℕ → ℕ → Bool
in_class line lines count = eqb ((line - 1) % lines) 0 && ltb ((line - 1) / lines) count

from_class : (line lines count : ℕ) → blocks_of lines ≡ count → 0 < lines → 1 ≤ line
    → in_class line lines count ≡ true → Begins line
from_class line lines count is positive some found =
    let parts : (eqb ((line - 1) % lines) 0 ≡ true)
    × (ltb ((line - 1) / lines) count ≡ true) = and_parts (eqb ((line - 1) % lines) 0)
    (ltb ((line - 1) / lines) count) found in
    let whole : (line - 1) % lines ≡ 0 = eqb-true ((line - 1) % lines) 0 parts.0 in
    let index : ℕ = (line - 1) / lines in
    let below : index < count = ltb-true index count parts.1 in
    let place : line ≡ 1 + lines * index = omega arith in
    inr (lines, index, subst (λ (n : ℕ). index < n) (sym is) below, place)

begins : (line : ℕ) → can_begin_at_line line ≡ true → Begins line
unfolding can_begin_at_line
begins line can = ⊎_elim
    (λ (first : eqb line 0 ≡ true). inl (eqb-true line 0 first))
    (λ (run : (leb 1 line
    && list_any (λ class. in_class line class.0 class.1) blocks_by_class) ≡ true).
    let parts : (leb 1 line ≡ true)
    × (list_any (λ class. in_class line class.0 class.1) blocks_by_class ≡ true) =
    and_parts (leb 1 line)
    (list_any (λ class. in_class line class.0 class.1) blocks_by_class) run in
    let some : 1 ≤ line = leb-true 1 line parts.0 in
    class_of_8 line some parts.1)
    (or_cases (eqb line 0)
    (leb 1 line && list_any (λ class. in_class line class.0 class.1) blocks_by_class) can)
  where
    class_of_8 : (line : ℕ) → 1 ≤ line
        → list_any (λ class. in_class line class.0 class.1) blocks_by_class ≡ true → Begins line
    class_of_8 line some any =
        ⊎_elim (from_class line 2 31 refl (omega arith) some)
        (λ r2. ⊎_elim (from_class line 3 21 refl (omega arith) some) (λ r3.
        ⊎_elim (from_class line 4 15 refl (omega arith) some)
        (λ r4. ⊎_elim (from_class line 5 12 refl (omega arith) some) (λ r5.
        ⊎_elim (from_class line 7 9 refl (omega arith) some)
        (λ r7. ⊎_elim (from_class line 9 7 refl (omega arith) some) (λ r9.
        ⊎_elim (from_class line 15 4 refl (omega arith) some)
        (λ r15. ⊎_elim (from_class line 31 2 refl (omega arith) some)
        (λ none. absurd (false≢true none))
        (or_cases (in_class line 31 2) _ r15)) (or_cases (in_class line 15 4) _ r9))
        (or_cases (in_class line 9 7) _ r7)) (or_cases (in_class line 7 9) _ r5))
        (or_cases (in_class line 5 12) _ r4)) (or_cases (in_class line 4 15) _ r3))
        (or_cases (in_class line 3 21) _ r2)) (or_cases (in_class line 2 31) _ any)

-- the zone, the chunk and the line of a place behind the lanes
place_parts : (place : ℕ) → 4096 ≤ place % 266240 → place % 64 ≡ 0
    → ((place % 266240 - 4096) / 4096 < 64)
    × (place ≡ 266240 * (place / 266240) + 4096 + 4096 *
    ((place % 266240 - 4096) / 4096) + 64 * (place % 4096 / 64))
place_parts place behind whole = (omega arith, omega arith)

-- a block can begin where the test says so
pub begins_at : (lanes zones off : ℕ) → can_begin lanes zones off ≡ true → CanBegin lanes zones off
unfolding can_begin
begins_at lanes zones off can =
    let place : ℕ = bytes_in_zones lanes off in
    let a : Bool = leb (zone_place lanes 0 + 64) off in
    let b : Bool = ltb (place / 266240) zones in
    let c : Bool = leb 4096 (place % 266240) in
    let d : Bool = eqb (place % 64) 0 in
    let e : Bool = can_begin_at_line (place % 4096 / 64) in
    let last : ((((a && b) && c) && d) ≡ true)
    × (e ≡ true) = and_parts (((a && b) && c) && d) e can in
    let third : (((a && b) && c) ≡ true) × (d ≡ true) = and_parts ((a && b) && c) d last.0 in
    let second : ((a && b) ≡ true) × (c ≡ true) = and_parts (a && b) c third.0 in
    let first : (a ≡ true) × (b ≡ true) = and_parts a b second.0 in
    let from : zone_place lanes 0 + 64 ≤ off = leb-true (zone_place lanes 0 + 64) off first.0 in
    let whole : place % 64 ≡ 0 = eqb-true (place % 64) 0 third.1 in
    let parts : ((place % 266240 - 4096) / 4096 < 64)
    × (place ≡ 266240 * (place / 266240) + 4096 + 4096 *
    ((place % 266240 - 4096) / 4096) + 64 * (place % 4096 / 64)) =
    place_parts place (leb-true 4096 (place % 266240) second.1) whole in
    let zone : ℕ = place / 266240 in
    let chunk : ℕ = (place % 266240 - 4096) / 4096 in
    let line : ℕ = place % 4096 / 64 in
    let is : place ≡ 266240 * zone + 4096 + 4096 * chunk + 64 * line = parts.1 in
    let at : off ≡ chunk_place lanes zone chunk + 64 * line + 64 = omega arith in
    record {
      zone = zone;
      chunk = chunk;
      zone_in_range = ltb-true zone zones first.1;
      chunk_in_range = parts.0;
      begins = ⊎_elim
          (λ (none : line ≡ 0). inl (omega arith))
          (λ (run : (lines : ℕ) × (index : ℕ) × (index < blocks_of lines)
          × (line ≡ 1 + lines * index)). inr (
            run.0,
            run.1,
            run.2,
            at ∙ ap (λ (n : ℕ). chunk_place lanes zone chunk + 64 * n + 64) run.3,
          ))
          (begins line last.1);
    }

-- a block of a class can begin at its line, which is one of the chunk's
Fits : ℕ → Type 0
Fits line = (can_begin_at_line line ≡ true) × (line < 64)

fits : (line lines count i : ℕ) → i < 8 → get_or blocks_by_class i (0, 0) ≡ (lines, count)
    → 1 ≤ line → line < 64 → (line - 1) % lines ≡ 0 → (line - 1) / lines < count → Fits line
unfolding Fits can_begin_at_line
fits line lines count i inside is some bound whole below = (
  or_right (eqb line 0)
      (leb 1 line && list_any (λ class. in_class line class.0 class.1) blocks_by_class)
      (and_from (leb 1 line) (list_any (λ class. in_class line class.0 class.1) blocks_by_class)
      (le-leb 1 line some)
      (list_any_at (λ class. in_class line class.0 class.1) blocks_by_class i (0, 0) inside
      (subst (λ (class : ℕ × ℕ). in_class line class.0 class.1 ≡ true) (sym is)
      (and_from (eqb ((line - 1) % lines) 0) (ltb ((line - 1) / lines) count)
      (eq-eqb ((line - 1) % lines) 0 whole) (lt-ltb ((line - 1) / lines) count below))))),
  bound,
)

-- a class is the first of the table, or one of the rest
peel : (here : Bool) (first : ℕ × ℕ) (rest : Option (ℕ × ℕ)) (index : ℕ)
    → index < option_map_or (λ entry. entry.1) (cond here (Some first) rest) 0
    → ((here ≡ true) × (index < first.1)) ⊎ (index < option_map_or (λ entry. entry.1) rest 0)
peel true first rest index inside = inl (refl, inside)
peel false first rest index inside = inr inside

-- the line of a block, told at the number of its class
line_for : (own lines line index : ℕ) → eqb own lines ≡ true → line ≡ 1 + lines * index
    → line ≡ 1 + own * index
line_for own lines line index same is =
    is ∙ ap (λ (n : ℕ). 1 + n * index) (sym (eqb-true own lines same))

line_of_run : (lines index line : ℕ) → index < blocks_of lines → line ≡ 1 + lines * index
    → Fits line
line_of_run lines index line inside is =
    ⊎_elim (λ h. let at : line ≡ 1 + 2 * index = line_for 2 lines line index h.0 is in
    let n : index < 31 = h.1 in
    fits line 2 31 0 (lit< tt) refl (omega arith) (omega arith) (omega arith) (omega arith))
    (λ r3.
    ⊎_elim (λ h. let at : line ≡ 1 + 3 * index = line_for 3 lines line index h.0 is in
    let n : index < 21 = h.1 in
    fits line 3 21 1 (lit< tt) refl (omega arith) (omega arith) (omega arith) (omega arith))
    (λ r4.
    ⊎_elim (λ h. let at : line ≡ 1 + 4 * index = line_for 4 lines line index h.0 is in
    let n : index < 15 = h.1 in
    fits line 4 15 2 (lit< tt) refl (omega arith) (omega arith) (omega arith) (omega arith))
    (λ r5.
    ⊎_elim (λ h. let at : line ≡ 1 + 5 * index = line_for 5 lines line index h.0 is in
    let n : index < 12 = h.1 in
    fits line 5 12 3 (lit< tt) refl (omega arith) (omega arith) (omega arith) (omega arith))
    (λ r7.
    ⊎_elim (λ h. let at : line ≡ 1 + 7 * index = line_for 7 lines line index h.0 is in
    let n : index < 9 = h.1 in
    fits line 7 9 4 (lit< tt) refl (omega arith) (omega arith) (omega arith) (omega arith))
    (λ r9.
    ⊎_elim (λ h. let at : line ≡ 1 + 9 * index = line_for 9 lines line index h.0 is in
    let n : index < 7 = h.1 in
    fits line 9 7 5 (lit< tt) refl (omega arith) (omega arith) (omega arith) (omega arith))
    (λ r15.
    ⊎_elim (λ h. let at : line ≡ 1 + 15 * index = line_for 15 lines line index h.0 is in
    let n : index < 4 = h.1 in
    fits line 15 4 6 (lit< tt) refl (omega arith) (omega arith) (omega arith) (omega arith))
    (λ r31.
    ⊎_elim (λ h. let at : line ≡ 1 + 31 * index = line_for 31 lines line index h.0 is in
    let n : index < 2 = h.1 in
    fits line 31 2 7 (lit< tt) refl (omega arith) (omega arith) (omega arith) (omega arith))
    (λ none. absurd (omega arith))
    (peel (eqb 31 lines) (31, 2) None index r31)) (peel (eqb 15 lines) (15, 4) _ index r15))
    (peel (eqb 9 lines) (9, 7) _ index r9)) (peel (eqb 7 lines) (7, 9) _ index r7))
    (peel (eqb 5 lines) (5, 12) _ index r5)) (peel (eqb 4 lines) (4, 15) _ index r4))
    (peel (eqb 3 lines) (3, 21) _ index r3)) (peel (eqb 2 lines) (2, 31) _ index inside)

place_of : (lanes zone chunk line off : ℕ)
    → off ≡ chunk_place lanes zone chunk + 64 * line + 64
    → bytes_in_zones lanes off ≡ 266240 * zone + 4096 + 4096 * chunk + 64 * line
place_of lanes zone chunk line off at = omega arith

parts_of : (place zone chunk line : ℕ) → chunk < 64 → line < 64
    → place ≡ 266240 * zone + 4096 + 4096 * chunk + 64 * line
    → (place / 266240 ≡ zone) × (4096 ≤ place % 266240) × (place % 64 ≡ 0)
    × (place % 4096 / 64 ≡ line)
parts_of place zone chunk line c l is = (omega arith, omega arith, omega arith, omega arith)

at_line : (lanes zones off zone chunk line : ℕ) → zone < zones → chunk < 64 → Fits line
    → off ≡ chunk_place lanes zone chunk + 64 * line + 64 → can_begin lanes zones off ≡ true
unfolding can_begin Fits
at_line lanes zones off zone chunk line in_zones in_chunks fits at =
    let place : ℕ = bytes_in_zones lanes off in
    let parts : (place / 266240 ≡ zone) × (4096 ≤ place % 266240) × (place % 64 ≡ 0)
    × (place % 4096 / 64 ≡ line) =
    parts_of place zone chunk line in_chunks fits.1 (place_of lanes zone chunk line off at) in
    let a : Bool = leb (zone_place lanes 0 + 64) off in
    let b : Bool = ltb (place / 266240) zones in
    let c : Bool = leb 4096 (place % 266240) in
    let d : Bool = eqb (place % 64) 0 in
    let below : place / 266240 < zones = subst (λ (z : ℕ). z < zones) (sym parts.0) in_zones in
    and_from (((a && b) && c) && d) (can_begin_at_line (place % 4096 / 64))
    (and_from ((a && b) && c) d
    (and_from (a && b) c
    (and_from a b (le-leb (zone_place lanes 0 + 64) off (omega arith))
    (lt-ltb (place / 266240) zones below))
    (le-leb 4096 (place % 266240) parts.1))
    (eq-eqb (place % 64) 0 parts.2))
    (ap can_begin_at_line parts.3 ∙ fits.0)

first_line : Fits 0
unfolding Fits can_begin_at_line
first_line = (refl, lit< tt)

-- and only there
pub can_begin_there : (lanes zones off : ℕ) → CanBegin lanes zones off
    → can_begin lanes zones off ≡ true
can_begin_there lanes zones off is = ⊎_elim
    (λ (whole : off ≡ chunk_place lanes is.zone is.chunk + 64). at_line lanes zones off is.zone is.chunk 0 is.zone_in_range is.chunk_in_range first_line (omega arith))
    (λ (run : (lines : ℕ) × (index : ℕ) × (index < blocks_of lines)
    × (off ≡ block_place (chunk_place lanes is.zone is.chunk) lines index + 64)).
    at_line lanes zones off is.zone is.chunk
    (1 + run.0 * run.1) is.zone_in_range is.chunk_in_range
    (line_of_run run.0 run.1 (1 + run.0 * run.1) run.2 refl) run.3)
    is.begins
