-- Lines with an unflushed change, after changes and flushes.
use Rattle.std.proofs.Common.{◌≡◌, ◌≢◌, ⊎_elim, ℕ, ◌+◌, ◌*◌, ◌/◌, ◌<◌, ◌≤◌, ◌&&◌, ◌||◌, Bool, true, false, cond, not, eqb, List, [], ◌∷◌, length, map, Some, refl, sym, ◌∙◌, ap, arith}
use Rattle.std.specs.List.{list_any, range_with_len}
use Rattle.std.proofs.lemmas.Bool.{and_parts, cases_eq, cases_lt, eq-eqb, eqb-true, false≢true, ne_eqb, not-true}
use Rattle.std.proofs.lemmas.List.Folds.{Any-from_list_any, list_any-append}
use Rattle.pm_record.specs.declared.redo.Redo.{Redo}
use Rattle.pm_record.specs.declared.redo.Op.{Op}
use Rattle.pm_record.specs.declared.redo.Op.TheVariants as op
use Rattle.pm_view.specs.declared.change.Change.{Change as ChangeOf}
use Rattle.pm_memory.specs.Changes.{CanFlush, IsLeastUnflushed, change_flushed, changes_flushed, has_unflushed, lies_in}
use Rattle.pm_memory.specs.Solo.{Solo}
use Rattle.pm_reopen.specs.Plan.{store_of, zeros}
use Rattle.pm_reopen.specs.Plan.MemoryCall.{Change}
use Rattle.pm_reopen.specs.Running.{Makes, after_call, after_change}
use Rattle.pm_reopen.specs.Steps.{AreUnflushed}
use Rattle.pm_reopen.proofs.Counting.{changes_many}

-- whether the change is unflushed and of the line
abbrev counts : ℕ → ChangeOf → Bool
counts line c = lies_in line c && not c.flushed

plain : (b : Bool) → ((b && true) || false) ≡ b
plain true = refl
plain false = refl

same_or : (a b d : Bool) → ((a || b) || d) ≡ (a || (b || d))
same_or true b d = refl
same_or false b d = refl

-- a change more
change_counts : (o : Op) (m : Solo) (w x line : ℕ) → has_unflushed (after_change o m w x).changes line ≡ (has_unflushed m.changes line || eqb (w / 8) line)
change_counts op.Set m w x line = list_any-append (counts line) m.changes _ ∙ ap (λ (b : Bool). has_unflushed m.changes line || b) (plain (eqb (w / 8) line))
change_counts op.Or m w x line = list_any-append (counts line) m.changes _ ∙ ap (λ (b : Bool). has_unflushed m.changes line || b) (plain (eqb (w / 8) line))
change_counts op.And m w x line = list_any-append (counts line) m.changes _ ∙ ap (λ (b : Bool). has_unflushed m.changes line || b) (plain (eqb (w / 8) line))

pub changes_count : (a b : Solo) (es : List Redo) (line : ℕ) → Makes a b (map Change es) → has_unflushed b.changes line ≡ (has_unflushed a.changes line || list_any (λ (e : Redo). eqb (e.place / 64) line) es)
unfolding Makes
changes_count a b [] line is = ap (λ (m : Solo). has_unflushed m.changes line) is ∙ sym (none (has_unflushed a.changes line)) where
  none : (d : Bool) → (d || false) ≡ d
  none true = refl
  none false = refl
changes_count a b (e ∷ es) line is =
    let place : e.place / 8 / 8 ≡ e.place / 64 = omega arith in
    let rest : Bool = list_any (λ (f : Redo). eqb (f.place / 64) line) es in
    changes_count (after_call a (Change e)) b es line is.1
    ∙ ap (λ (d : Bool). d || rest) (change_counts e.op a (e.place / 8) e.value line ∙ ap (λ (n : ℕ). has_unflushed a.changes line || eqb n line) place)
    ∙ same_or (has_unflushed a.changes line) (eqb (e.place / 64) line) rest

-- from a memory without changes
pub changes_unflushed : (a b : Solo) (es : List Redo) → a.changes ≡ [] → Makes a b (map Change es) → AreUnflushed es b.changes
changes_unflushed a b es none is = record {
  as_many = let many = changes_many a b es is in let empty = ap (λ (cs : List ChangeOf). length cs) none in omega (arith, many, empty);
  lines = λ line. changes_count a b es line is ∙ ap (λ (cs : List ChangeOf). has_unflushed cs line || list_any (λ (e : Redo). eqb (e.place / 64) line) es) none;
}

-- ---- a flush

mark_counts : (line other : ℕ) (c : ChangeOf) → line ≢ other → counts other (change_flushed line c) ≡ counts other c
mark_counts line other c apart = go (eqb (c.word / 8) line) refl where
  go : (b : Bool) → eqb (c.word / 8) line ≡ b → counts other (cond b (record c { flushed = true }) c) ≡ counts other c
  go false is = refl
  go true is = ap (λ (d : Bool). d && false) away ∙ sym (ap (λ (d : Bool). d && not c.flushed) away) where
    away : eqb (c.word / 8) other ≡ false
    away = ne_eqb (c.word / 8) other (λ same. apart (sym (eqb-true (c.word / 8) line is) ∙ same))

mark_here : (line : ℕ) (c : ChangeOf) → counts line (change_flushed line c) ≡ false
mark_here line c = go (eqb (c.word / 8) line) refl where
  go : (b : Bool) → eqb (c.word / 8) line ≡ b → counts line (cond b (record c { flushed = true }) c) ≡ false
  go true is = ap (λ (d : Bool). d && false) is
  go false is = ap (λ (d : Bool). d && not c.flushed) is

pub flushed_elsewhere : (line other : ℕ) (changes : List ChangeOf) → line ≢ other → has_unflushed (changes_flushed line changes) other ≡ has_unflushed changes other
flushed_elsewhere line other [] apart = refl
flushed_elsewhere line other (c ∷ changes) apart =
    let first = mark_counts line other c apart in
    let rest = flushed_elsewhere line other changes apart in
    (λ j. first j || rest j)

pub flushed_here : (line : ℕ) (changes : List ChangeOf) → has_unflushed (changes_flushed line changes) line ≡ false
flushed_here line [] = refl
flushed_here line (c ∷ changes) =
    let first = mark_here line c in
    let rest = flushed_here line changes in
    (λ j. first j || rest j)

pub can_flush : (line : ℕ) (changes : List ChangeOf) → has_unflushed changes line ≡ true → CanFlush line changes
can_flush line changes some =
    let found = Any-from_list_any (counts line) changes some in
    let parts = and_parts (lies_in line found.1) (not found.1.flushed) found.4 in
    (found.0, found.1, found.2, found.3, (parts.0, not-true found.1.flushed parts.1))

-- the least line with an unflushed change is this one, or this one has none
pub least_is : (changes : List ChangeOf) (least line : ℕ) → IsLeastUnflushed changes (Some least) → ((other : ℕ) → other < line → has_unflushed changes other ≡ false) → eqb least line ≡ has_unflushed changes line
least_is changes least line is none = ⊎_elim
    (λ (same : least ≡ line). eq-eqb least line same ∙ sym (ap (has_unflushed changes) (sym same) ∙ is.0))
    (λ (apart : least ≢ line). ⊎_elim
    (λ (low : least < line). absurd (false≢true (sym (none least low) ∙ is.0)))
    (λ (high : line ≤ least). ne_eqb least line apart ∙ sym (is.1 line (omega (arith, high, apart))))
    (cases_lt least line))
    (cases_eq least line)

-- a line whose eight words were made 0 has an unflushed change
pub zeros_unflushed : (a b : Solo) (line : ℕ) → Makes a b (map Change (zeros line)) → has_unflushed b.changes line ≡ true
zeros_unflushed a b line is =
    changes_count a b (zeros line) line is ∙ ap (λ (d : Bool). has_unflushed a.changes line || (d || rest)) first ∙ last (has_unflushed a.changes line) where
      rest : Bool
      rest = list_any (λ (e : Redo). eqb (e.place / 64) line) (map (λ k. store_of (8 * line + k) 0) (range_with_len 1 7))

      first : eqb (8 * (8 * line + 0) / 64) line ≡ true
      first = eq-eqb (8 * (8 * line + 0) / 64) line (omega arith)

      last : (d : Bool) → (d || true) ≡ true
      last true = refl
      last false = refl
