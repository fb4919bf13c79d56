-- What is persistent after a part of the plan: everything.
use Rattle.std.proofs.Common.{◌≡◌, ◌≢◌, ⊎_elim, ℕ, zero, suc, ◌+◌, ◌*◌, ◌/◌, ◌<◌, ◌≤◌, ◌&&◌, ◌||◌, Bool, true, false, cond, not, eqb, All, List, [], ◌∷◌, ◌++◌, length, map, refl, sym, ◌∙◌, ap, subst, arith}
use Rattle.std.specs.List.{flat_map, list_any, range_with_len}
use Rattle.std.proofs.lemmas.Bool.{cases_eq, cases_lt, eq-eqb, ne_eqb, or_parts, false≢true}
use Rattle.std.proofs.lemmas.List.Elements.{All-head, All-tail}
use Rattle.std.proofs.lemmas.List.{length-map, nil_from_length}
use Rattle.pm_record.specs.declared.redo.Redo.{Redo}
use Rattle.pm_view.specs.declared.change.Change.{Change as ChangeOf}
use Rattle.pm_image.specs.Logs.{slot_line}
use Rattle.pm_image.proofs.Ranges.{parts_more}
use Rattle.pm_memory.specs.Changes.{change_flushed, changes_drained, changes_flushed, has_unflushed}
use Rattle.pm_memory.specs.Solo.{Solo}
use Rattle.pm_reopen.specs.Plan.{MemoryCall, cleared, cleared_slot, drained, lines_of, store_of, written_back, zeros}
use Rattle.pm_reopen.specs.Plan.MemoryCall.{Change, Drain, Flush}
use Rattle.pm_reopen.specs.Running.{Makes, after_calls}
use Rattle.pm_reopen.specs.Steps.{AreUnflushed}
use Rattle.pm_reopen.proofs.Counting.{changes_many}
use Rattle.pm_reopen.proofs.Flushing.{AreFlushed, flush_part, flushed_more, lines_as, none_flushed}
use Rattle.pm_reopen.proofs.Making.{makes_left, makes_right}
use Rattle.pm_reopen.proofs.Unflushed.{changes_count, flushed_elsewhere, flushed_here}

-- every change is flushed
abbrev pub AllFlushed : List ChangeOf → Type 0
AllFlushed changes = (line : ℕ) → has_unflushed changes line ≡ false

pub none_left : (changes : List ChangeOf) → AllFlushed changes → changes_drained changes ≡ []
none_left [] all = refl
none_left (c ∷ changes) all =
    let here = or_parts (eqb (c.word / 8) (c.word / 8) && not c.flushed) (has_unflushed changes (c.word / 8)) (all (c.word / 8)) in
    let marked : not c.flushed ≡ false = unmarked (eqb (c.word / 8) (c.word / 8)) (not c.flushed) (eq-eqb (c.word / 8) (c.word / 8) refl) here.0 in
    ap (λ (b : Bool). cond b (c ∷ changes_drained changes) (changes_drained changes)) marked
    ∙ none_left changes (λ line. (or_parts (eqb (c.word / 8) line && not c.flushed) (has_unflushed changes line) (all line)).1) where
      unmarked : (a b : Bool) → a ≡ true → (a && b) ≡ false → b ≡ false
      unmarked true b is none = none
      unmarked false b is none = absurd (false≢true is)

drain_leaves : (a b : Solo) → AllFlushed a.changes → Makes a b (Drain ∷ []) → b.changes ≡ []
unfolding Makes
drain_leaves a b all made = ap (λ (m : Solo). m.changes) made.1 ∙ none_left a.changes all

made_nothing : (m n : Solo) → Makes m n [] → n ≡ m
unfolding Makes
made_nothing m n same = same

-- ---- changes, flushes and a drain

parts_flushed : (a b : Solo) (n : ℕ) → Makes a b (flat_map (flush_part a.changes) (range_with_len 0 n)) → AreFlushed a b n
parts_flushed a b zero made = subst (λ (m : Solo). AreFlushed a m 0) (sym (made_nothing a b made)) (none_flushed a)
parts_flushed a b (suc n) made =
    let next : suc n ≡ n + 1 = omega arith in
    let before : List MemoryCall = flat_map (flush_part a.changes) (range_with_len 0 n) in
    let split : Makes a b (before ++ flush_part a.changes n) = subst (Makes a b) (ap (λ (k : ℕ). flat_map (flush_part a.changes) (range_with_len 0 k)) next ∙ parts_more (flush_part a.changes) n) made in
    let mid : Solo = after_calls a before in
    let flushed : AreFlushed a mid n = parts_flushed a mid n (makes_left a b before (flush_part a.changes n) split) in
    let last : Makes mid b (flush_part a.changes n) = makes_right a b before (flush_part a.changes n) split in
    subst (AreFlushed a b) (sym next)
    (flushed_more a mid b n flushed (subst (λ (c : Bool). Makes mid b (cond c (Flush n ∷ []) [])) (sym (flushed.above n (omega arith))) last))

-- no entry is of a line past the end
none_past : (es : List Redo) (lines line : ℕ) → All (λ (e : Redo). e.place / 64 < lines) es → lines ≤ line → list_any (λ (e : Redo). eqb (e.place / 64) line) es ≡ false
none_past [] lines line all past = refl
none_past (e ∷ es) lines line all past =
    let low : e.place / 64 < lines = All-head (λ (f : Redo). f.place / 64 < lines) e es all in
    ap (λ (b : Bool). b || list_any (λ (f : Redo). eqb (f.place / 64) line) es) (ne_eqb (e.place / 64) line (λ same. omega (arith, same, low, past)))
    ∙ none_past es lines line (All-tail (λ (f : Redo). f.place / 64 < lines) e es all) past

pub back_drains : (b d : Solo) (lines : ℕ) (es : List Redo) → AreUnflushed es b.changes → All (λ (e : Redo). e.place / 64 < lines) es → Makes b d (written_back lines es) → d.changes ≡ []
back_drains b d lines [] is all made = ap (λ (m : Solo). m.changes) (made_nothing b d made) ∙ nil_from_length b.changes is.as_many
back_drains b d lines (e ∷ es) is all made =
    let calls : List MemoryCall = map Flush (lines_of lines (e ∷ es)) in
    let mid : Solo = after_calls b calls in
    let flushes : Makes b mid calls = makes_left b d calls (Drain ∷ []) made in
    let flushed : AreFlushed b mid lines = parts_flushed b mid lines (subst (Makes b mid) (sym (lines_as (e ∷ es) b.changes lines is)) flushes) in
    drain_leaves mid d
    (λ line. ⊎_elim (λ (low : line < lines). flushed.below line low)
    (λ (past : lines ≤ line). flushed.above line past ∙ is.lines line ∙ none_past (e ∷ es) lines line all past) (cases_lt line lines))
    (makes_right b d calls (Drain ∷ []) made)

-- ---- cleared slots

zeros_elsewhere : (line other a n : ℕ) → line ≢ other → a + n ≤ 8 → list_any (λ (e : Redo). eqb (e.place / 64) other) (map (λ k. store_of (8 * line + k) 0) (range_with_len a n)) ≡ false
zeros_elsewhere line other a zero apart few = refl
zeros_elsewhere line other a (suc n) apart few =
    ap (λ (b : Bool). b || list_any (λ (e : Redo). eqb (e.place / 64) other) (map (λ k. store_of (8 * line + k) 0) (range_with_len (a + 1) n))) (ne_eqb (8 * (8 * line + a) / 64) other (λ same. apart (omega (arith, same, few))))
    ∙ zeros_elsewhere line other (a + 1) n apart (omega (arith, few))

flush_is : (a b : Solo) (line : ℕ) → Makes a b (Flush line ∷ []) → b.changes ≡ changes_flushed line a.changes
unfolding Makes
flush_is a b line made = ap (λ (m : Solo). m.changes) made.1

slot_flushed : (a b : Solo) (lane slot : ℕ) → AllFlushed a.changes → Makes a b (cleared_slot lane slot) → AllFlushed b.changes
slot_flushed a b lane slot all made other =
    let line : ℕ = slot_line lane slot in
    let stores : List MemoryCall = map Change (zeros line) in
    let mid : Solo = after_calls a stores in
    let is : b.changes ≡ changes_flushed line mid.changes = flush_is mid b line (makes_right a b stores (Flush line ∷ []) made) in
    ⊎_elim
    (λ (same : line ≡ other). ap (λ (cs : List ChangeOf). has_unflushed cs other) is ∙ ap (λ (n : ℕ). has_unflushed (changes_flushed line mid.changes) n) (sym same) ∙ flushed_here line mid.changes)
    (λ (apart : line ≢ other).
    ap (λ (cs : List ChangeOf). has_unflushed cs other) is ∙ flushed_elsewhere line other mid.changes apart
    ∙ changes_count a mid (zeros line) other (makes_left a b stores (Flush line ∷ []) made)
    ∙ ap (λ (d : Bool). d || list_any (λ (e : Redo). eqb (e.place / 64) other) (zeros line)) (all other)
    ∙ zeros_elsewhere line other 0 8 apart (omega arith))
    (cases_eq line other)

slot_adds : (a b : Solo) (lane slot : ℕ) → Makes a b (cleared_slot lane slot) → length b.changes ≡ length a.changes + 8
slot_adds a b lane slot made =
    let line : ℕ = slot_line lane slot in
    let stores : List MemoryCall = map Change (zeros line) in
    let mid : Solo = after_calls a stores in
    let is : b.changes ≡ changes_flushed line mid.changes = flush_is mid b line (makes_right a b stores (Flush line ∷ []) made) in
    ap (λ (cs : List ChangeOf). length cs) is ∙ length-map mid.changes (change_flushed line) ∙ changes_many a mid (zeros line) (makes_left a b stores (Flush line ∷ []) made)

pub slots_add : (a b : Solo) (lane : ℕ) (slots : List ℕ) → Makes a b (flat_map (cleared_slot lane) slots) → length b.changes ≡ length a.changes + 8 * length slots
slots_add a b lane [] made = let same = ap (λ (m : Solo). length m.changes) (made_nothing a b made) in omega (arith, same)
slots_add a b lane (slot ∷ slots) made =
    let mid : Solo = after_calls a (cleared_slot lane slot) in
    let first = slot_adds a mid lane slot (makes_left a b (cleared_slot lane slot) (flat_map (cleared_slot lane) slots) made) in
    let rest = slots_add mid b lane slots (makes_right a b (cleared_slot lane slot) (flat_map (cleared_slot lane) slots) made) in
    omega (arith, first, rest)

slots_flushed : (a b : Solo) (lane : ℕ) (slots : List ℕ) → AllFlushed a.changes → Makes a b (flat_map (cleared_slot lane) slots) → AllFlushed b.changes
slots_flushed a b lane [] all made = λ line. ap (λ (m : Solo). has_unflushed m.changes line) (made_nothing a b made) ∙ all line
slots_flushed a b lane (slot ∷ slots) all made =
    let mid : Solo = after_calls a (cleared_slot lane slot) in
    slots_flushed mid b lane slots (slot_flushed a mid lane slot all (makes_left a b (cleared_slot lane slot) (flat_map (cleared_slot lane) slots) made))
    (makes_right a b (cleared_slot lane slot) (flat_map (cleared_slot lane) slots) made)

-- the drain is there exactly where there is a change
pub drain_part : (a b : Solo) (lane : ℕ) (slots : List ℕ) → a.changes ≡ [] → Makes a b (flat_map (cleared_slot lane) slots) → cond (eqb (length b.changes) 0) [] (Drain ∷ []) ≡ drained slots
drain_part a b lane [] none made =
    let many = slots_add a b lane [] made in
    let empty = ap (λ (cs : List ChangeOf). length cs) none in
    ap (λ (b : Bool). cond b [] (Drain ∷ [])) (eq-eqb (length b.changes) 0 (omega (arith, many, empty)))
drain_part a b lane (slot ∷ slots) none made =
    let many = slots_add a b lane (slot ∷ slots) made in
    ap (λ (b : Bool). cond b [] (Drain ∷ [])) (ne_eqb (length b.changes) 0 (λ zero_is. omega (arith, many, zero_is)))

pub cleared_drains : (a b : Solo) (lane : ℕ) (slots : List ℕ) → a.changes ≡ [] → Makes a b (cleared lane slots) → b.changes ≡ []
cleared_drains a b lane [] none made = ap (λ (m : Solo). m.changes) (made_nothing a b made) ∙ none
cleared_drains a b lane (slot ∷ slots) none made =
    let calls : List MemoryCall = flat_map (cleared_slot lane) (slot ∷ slots) in
    let mid : Solo = after_calls a calls in
    drain_leaves mid b
    (slots_flushed a mid lane (slot ∷ slots) (λ line. ap (λ (cs : List ChangeOf). has_unflushed cs line) none) (makes_left a b calls (Drain ∷ []) made))
    (makes_right a b calls (Drain ∷ []) made)
