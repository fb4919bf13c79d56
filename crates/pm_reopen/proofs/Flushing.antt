-- Lines flushed one after the other, in rising place.
use Rattle.std.proofs.Common.{◌≡◌, ◌≢◌, ⊎_elim, ℕ, ◌+◌, ◌/◌, ◌<◌, ◌≤◌, Bool, true, false, cond, eqb, List, [], ◌∷◌, ◌++◌, length, map, refl, sym, ◌∙◌, ap, subst, arith}
use Rattle.std.specs.List.{flat_map, list_any, range_with_len}
use Rattle.std.proofs.lemmas.Bool.{cases_lt}
use Rattle.std.proofs.lemmas.List.{length-map}
use Rattle.pm_record.specs.declared.redo.Redo.{Redo}
use Rattle.pm_view.specs.declared.change.Change.{Change as ChangeOf}
use Rattle.pm_memory.specs.Changes.{change_flushed, has_unflushed}
use Rattle.pm_memory.specs.Solo.{Solo}
use Rattle.pm_reopen.specs.Plan.{MemoryCall, lines_of, written_back}
use Rattle.pm_reopen.specs.Plan.MemoryCall.{Drain, Flush}
use Rattle.pm_reopen.specs.Running.{Halts, Makes}
use Rattle.pm_reopen.specs.Steps.{AreUnflushed}
use Rattle.pm_reopen.proofs.Making.{makes_none, parts_halt, parts_made}
use Rattle.pm_reopen.proofs.Parts.{chosen_calls, same_calls}
use Rattle.pm_reopen.proofs.Unflushed.{flushed_elsewhere, flushed_here}

-- the line's part: a flush, if it has an unflushed change
abbrev pub flush_part : List ChangeOf → ℕ → List MemoryCall
flush_part changes line = cond (has_unflushed changes line) (Flush line ∷ []) []

-- the lines below this one are flushed, and the others are as they were
pub record AreFlushed (old now : Solo) (line : ℕ) : Type 0 where
  pub made : Makes old now (flat_map (flush_part old.changes) (range_with_len 0 line))
  pub below : (other : ℕ) → other < line → has_unflushed now.changes other ≡ false
  pub above : (other : ℕ) → line ≤ other → has_unflushed now.changes other ≡ has_unflushed old.changes other
  pub many : length now.changes ≡ length old.changes

pub none_flushed : (m : Solo) → AreFlushed m m 0
none_flushed m = record { made = makes_none m; below = λ other low. absurd (omega (arith, low)); above = λ other from. refl; many = refl }

-- what a line's part leaves of other lines, and of it
part_leaves : (now new : Solo) (line : ℕ) (b : Bool) → has_unflushed now.changes line ≡ b → Makes now new (cond b (Flush line ∷ []) [])
    → (has_unflushed new.changes line ≡ false) × ((other : ℕ) → line ≢ other → has_unflushed new.changes other ≡ has_unflushed now.changes other)
unfolding Makes
part_leaves now new line true is made = (
  ap (λ (m : Solo). has_unflushed m.changes line) made.1 ∙ flushed_here line now.changes,
  λ other apart. ap (λ (m : Solo). has_unflushed m.changes other) made.1 ∙ flushed_elsewhere line other now.changes apart,
)
part_leaves now new line false is made =
    (ap (λ (m : Solo). has_unflushed m.changes line) made ∙ is, λ other apart. ap (λ (m : Solo). has_unflushed m.changes other) made)

part_many : (now new : Solo) (line : ℕ) (b : Bool) → Makes now new (cond b (Flush line ∷ []) []) → length new.changes ≡ length now.changes
unfolding Makes
part_many now new line true made = ap (λ (m : Solo). length m.changes) made.1 ∙ length-map now.changes (change_flushed line)
part_many now new line false made = ap (λ (m : Solo). length m.changes) made

pub flushed_more : (old now new : Solo) (line : ℕ) → AreFlushed old now line → Makes now new (flush_part now.changes line) → AreFlushed old new (line + 1)
flushed_more old now new line before made =
    let left = part_leaves now new line (has_unflushed now.changes line) refl made in
    let here : has_unflushed now.changes line ≡ has_unflushed old.changes line = before.above line (omega arith) in
    record {
      made = parts_made (flush_part old.changes) old now new line before.made (subst (λ (b : Bool). Makes now new (cond b (Flush line ∷ []) [])) here made);
      below = λ other low. ⊎_elim
          (λ (earlier : other < line). left.1 other (λ same. omega (arith, same, earlier)) ∙ before.below other earlier)
          (λ (last : line ≤ other). let same : line ≡ other = omega (arith, low, last) in subst (λ (l : ℕ). has_unflushed new.changes l ≡ false) same left.0)
          (cases_lt other line);
      above = λ other from. left.1 other (λ same. omega (arith, same, from)) ∙ before.above other (omega (arith, from));
      many = part_many now new line (has_unflushed now.changes line) made ∙ before.many;
    }

-- the part of each line by the entries
pub lines_as : (es : List Redo) (changes : List ChangeOf) (lines : ℕ) → AreUnflushed es changes → flat_map (flush_part changes) (range_with_len 0 lines) ≡ map Flush (lines_of lines es)
unfolding lines_of
lines_as es changes lines is =
    let test : ℕ → Bool = λ (line : ℕ). list_any (λ (e : Redo). eqb (e.place / 64) line) es in
    same_calls (flush_part changes) (λ line. cond (test line) (Flush line ∷ []) []) (range_with_len 0 lines) (λ line. ap (λ (b : Bool). cond b (Flush line ∷ []) []) (is.lines line))
    ∙ sym (chosen_calls test Flush (range_with_len 0 lines))

pub all_flushed : (old now : Solo) (lines line : ℕ) (es : List Redo) → line ≡ lines → AreUnflushed es old.changes → AreFlushed old now line → Makes old now (map Flush (lines_of lines es))
all_flushed old now lines line es end is flushed =
    subst (Makes old now) (ap (λ (n : ℕ). flat_map (flush_part old.changes) (range_with_len 0 n)) end ∙ lines_as es old.changes lines is) flushed.made

pub flush_halts : (old now new : Solo) (lines line : ℕ) (es : List Redo) → line < lines → AreUnflushed es old.changes → AreFlushed old now line → Halts now new (flush_part now.changes line) → Halts old new (map Flush (lines_of lines es))
flush_halts old now new lines line es inside is flushed stops =
    subst (Halts old new) (lines_as es old.changes lines is)
    (parts_halt (flush_part old.changes) old now new line lines inside flushed.made
    (subst (λ (b : Bool). Halts now new (cond b (Flush line ∷ []) [])) (flushed.above line (omega arith)) stops))

pub nothing_back : (lines : ℕ) (es : List Redo) (changes : List ChangeOf) → AreUnflushed es changes → length changes ≡ 0 → [] ≡ written_back lines es
nothing_back lines [] changes is none = refl
nothing_back lines (e ∷ es) changes is none = let many = is.as_many in absurd (omega (arith, many, none))

pub something_back : (lines : ℕ) (es : List Redo) (changes : List ChangeOf) → AreUnflushed es changes → 0 < length changes → map Flush (lines_of lines es) ++ Drain ∷ [] ≡ written_back lines es
something_back lines [] changes is some = let many = is.as_many in absurd (omega (arith, many, some))
something_back lines (e ∷ es) changes is some = refl
