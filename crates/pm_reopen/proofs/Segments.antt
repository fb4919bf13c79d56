-- A part of the plan: changes and flushes, then a drain if there were any. What survives in it, and
-- what it leaves.
use Rattle.std.proofs.Common.{◌≡◌, ◌⊎◌, ⊎_elim, inl, inr, ℕ, ◌<◌, ◌≤◌, All, List, [], ◌∷◌, ◌++◌, length, length-append, map, take, drop, slice_index, Some, None, refl, sym, ◌∙◌, ap, subst, arith}
use Rattle.std.specs.List.{flat_map}
use Rattle.std.proofs.lemmas.Bool.{cases_lt}
use Rattle.std.proofs.lemmas.List.{append-nil, append_assoc, drop_all, take-append-le, take_all}
use Rattle.pm_record.specs.declared.redo.Redo.{Redo}
use Rattle.pm_image.specs.Logs.{all_applied, slot_line}
use Rattle.pm_view.specs.declared.change.Change.{Change as ChangeOf}
use Rattle.pm_memory.specs.Changes.{changes_of}
use Rattle.pm_memory.specs.Solo.{Solo, IsDue}
use Rattle.pm_memory.specs.Survivors.{Survives, all_taken_back}
use Rattle.pm_reopen.specs.Plan.{MemoryCall, cleared, cleared_slot, drained, lines_of, persisted, zeros}
use Rattle.pm_reopen.specs.Plan.MemoryCall.{Change, Drain, Flush}
use Rattle.pm_reopen.specs.Running.{Makes, after_call, after_calls}
use Rattle.pm_reopen.proofs.Phases.{AreSmall, HasNoDrain, IsInside, calls_write, changes_among, part_survives}
use Rattle.pm_reopen.proofs.Stopping.{call_counted}
use Rattle.pm_reopen.proofs.Surviving.{IsPartlyWritten, IsWriting, for_word, nothing_written, words_written}

-- ---- a memory without a stop number makes all calls

pub after_append : (m : Solo) (xs ys : List MemoryCall) → after_calls m (xs ++ ys) ≡ after_calls (after_calls m xs) ys
unfolding after_calls
after_append m [] ys = refl
after_append m (x ∷ xs) ys = after_append (after_call m x) xs ys

pub unstopped_after : (m : Solo) (xs : List MemoryCall) → m.stop ≡ None → (after_calls m xs).stop ≡ None
unfolding after_calls
unstopped_after m [] none = none
unstopped_after m (x ∷ xs) none = unstopped_after (after_call m x) xs ((call_counted m x).1 ∙ none)

due : (m : Solo) → m.stop ≡ None → IsDue m
due m none = λ stop is. let clash : None ≡ Some stop = sym none ∙ is in absurd cc

pub all_made : (m : Solo) (xs : List MemoryCall) → m.stop ≡ None → Makes m (after_calls m xs) xs
unfolding Makes after_calls
all_made m [] none = refl
all_made m (x ∷ xs) none = (due m none, all_made (after_call m x) xs ((call_counted m x).1 ∙ none))

-- ---- a part

abbrev pub IsTail : List MemoryCall → Type 0
IsTail tail = (tail ≡ []) ⊎ (tail ≡ Drain ∷ [])

tail_words : (m : Solo) (tail : List MemoryCall) → IsTail tail → (after_calls m tail).words ≡ m.words
unfolding after_calls
tail_words m tail (inl none) = ap (λ (cs : List MemoryCall). (after_calls m cs).words) none
tail_words m tail (inr drain) = ap (λ (cs : List MemoryCall). (after_calls m cs).words) drain

pub part_words : (m : Solo) (calls tail : List MemoryCall) → m.changes ≡ [] → AreSmall m.words → HasNoDrain calls → All (IsInside (length m.words)) (changes_among calls) → IsTail tail
    → (w : ℕ) → w < length m.words → slice_index (after_calls m (calls ++ tail)).words w ≡ all_applied (for_word w (changes_among calls)) (slice_index m.words w)
part_words m calls tail none small no_drain all is_tail w inside =
    let writing : IsWriting (changes_among calls) m.words (after_calls m calls) = calls_write [] m.words m calls (nothing_written m none small) no_drain all in
    ap (λ (n : Solo). slice_index n.words w) (after_append m calls tail)
    ∙ ap (λ (ws : List ℕ). slice_index ws w) (tail_words (after_calls m calls) tail is_tail)
    ∙ words_written (changes_among calls) m.words (after_calls m calls) w writing inside

pub part_length : (m : Solo) (calls tail : List MemoryCall) → m.changes ≡ [] → AreSmall m.words → HasNoDrain calls → All (IsInside (length m.words)) (changes_among calls) → IsTail tail
    → length (after_calls m (calls ++ tail)).words ≡ length m.words
part_length m calls tail none small no_drain all is_tail =
    let writing : IsWriting (changes_among calls) m.words (after_calls m calls) = calls_write [] m.words m calls (nothing_written m none small) no_drain all in
    ap (λ (n : Solo). length n.words) (after_append m calls tail) ∙ ap (λ (ws : List ℕ). length ws) (tail_words (after_calls m calls) tail is_tail) ∙ writing.as_long

-- with nothing undrained the words survive as they are
pub drained_survives : (m : Solo) (left : List ℕ) (w : ℕ) → m.changes ≡ [] → Survives m.words (m.changes ∷ []) left → w < length m.words → slice_index left w ≡ slice_index m.words w
drained_survives m left w none survives inside =
    survives.is.each w inside
    ∙ ap (λ (cs : List ChangeOf). all_taken_back (drop (survives.choice 0 w) (changes_of w cs)) (slice_index m.words w)) none
    ∙ ap (λ (cs : List ChangeOf). all_taken_back cs (slice_index m.words w)) (drop_all (survives.choice 0 w) [] (omega arith))

pub segment_survives : (m : Solo) (calls tail : List MemoryCall) (n : ℕ) (left : List ℕ) → m.changes ≡ [] → AreSmall m.words → HasNoDrain calls → All (IsInside (length m.words)) (changes_among calls) → IsTail tail
    → (after_calls m (calls ++ tail)).changes ≡ [] → Survives (after_calls m (take n (calls ++ tail))).words ((after_calls m (take n (calls ++ tail))).changes ∷ []) left → IsPartlyWritten (changes_among calls) m.words left
segment_survives m calls tail n left none small no_drain all is_tail end survives = ⊎_elim
    (λ (past : length calls < n).
    let whole : take n (calls ++ tail) ≡ calls ++ tail = take_all n (calls ++ tail) (few past is_tail) in
    let final : Survives (after_calls m (calls ++ tail)).words ((after_calls m (calls ++ tail)).changes ∷ []) left = subst (λ (cs : List MemoryCall). Survives (after_calls m cs).words ((after_calls m cs).changes ∷ []) left) whole survives in
    let long = part_length m calls tail none small no_drain all is_tail in
    record {
      as_long = final.is.size ∙ long;
      each = λ w inside. (
        length (for_word w (changes_among calls)),
        drained_survives (after_calls m (calls ++ tail)) left w end final (omega (arith, inside, long)) ∙ part_words m calls tail none small no_drain all is_tail w inside
            ∙ ap (λ (es : List Redo). all_applied es (slice_index m.words w)) (sym (take_all (length (for_word w (changes_among calls))) (for_word w (changes_among calls)) (omega arith))),
      );
    })
    (λ (within : n ≤ length calls).
    part_survives m calls n left none small no_drain all
    (subst (λ (cs : List MemoryCall). Survives (after_calls m cs).words ((after_calls m cs).changes ∷ []) left) (take-append-le n calls tail within) survives))
    (cases_lt (length calls) n)
  where
    few : length calls < n → IsTail tail → length (calls ++ tail) ≤ n
    few past (inl nothing) = let long = length-append calls tail in let empty = ap (λ (cs : List MemoryCall). length cs) nothing in omega (arith, past, long, empty)
    few past (inr drain) = let long = length-append calls tail in let one = ap (λ (cs : List MemoryCall). length cs) drain in omega (arith, past, long, one)

-- ---- the parts of the plan are such

among-append : (xs ys : List MemoryCall) → changes_among (xs ++ ys) ≡ changes_among xs ++ changes_among ys
unfolding changes_among
among-append [] ys = refl
among-append (Change e ∷ xs) ys = ap (λ (es : List Redo). e ∷ es) (among-append xs ys)
among-append (Flush line ∷ xs) ys = among-append xs ys
among-append (Drain ∷ xs) ys = among-append xs ys

no_drain-append : (xs ys : List MemoryCall) → HasNoDrain xs → HasNoDrain ys → HasNoDrain (xs ++ ys)
unfolding HasNoDrain
no_drain-append [] ys one two = two
no_drain-append (Change e ∷ xs) ys one two = no_drain-append xs ys one two
no_drain-append (Flush line ∷ xs) ys one two = no_drain-append xs ys one two
no_drain-append (Drain ∷ xs) ys one two = absurd one

among_changes : (es : List Redo) → changes_among (map Change es) ≡ es
unfolding changes_among
among_changes [] = refl
among_changes (e ∷ es) = ap (λ (fs : List Redo). e ∷ fs) (among_changes es)

no_drain_changes : (es : List Redo) → HasNoDrain (map Change es)
unfolding HasNoDrain
no_drain_changes [] = tt
no_drain_changes (e ∷ es) = no_drain_changes es

among_flushes : (ls : List ℕ) → changes_among (map Flush ls) ≡ []
unfolding changes_among
among_flushes [] = refl
among_flushes (l ∷ ls) = among_flushes ls

no_drain_flushes : (ls : List ℕ) → HasNoDrain (map Flush ls)
unfolding HasNoDrain
no_drain_flushes [] = tt
no_drain_flushes (l ∷ ls) = no_drain_flushes ls

-- a part as its calls without the drain, and the drain
pub record Part (part : List MemoryCall) (es : List Redo) : Type 0 where
  pub calls : List MemoryCall
  pub tail : List MemoryCall
  pub split : part ≡ calls ++ tail
  pub among : changes_among calls ≡ es
  pub no_drain : HasNoDrain calls
  pub is_tail : IsTail tail

pub persisted_part : (lines : ℕ) (es : List Redo) → Part (persisted lines es) es
unfolding changes_among HasNoDrain
persisted_part lines [] = record { calls = []; tail = []; split = refl; among = refl; no_drain = tt; is_tail = inl refl }
persisted_part lines (e ∷ es) = record {
  calls = map Change (e ∷ es) ++ map Flush (lines_of lines (e ∷ es));
  tail = Drain ∷ [];
  split = sym (append_assoc (map Change (e ∷ es)) (map Flush (lines_of lines (e ∷ es))) (Drain ∷ []));
  among =
      among-append (map Change (e ∷ es)) (map Flush (lines_of lines (e ∷ es)))
      ∙ (λ j. among_changes (e ∷ es) j ++ among_flushes (lines_of lines (e ∷ es)) j) ∙ append-nil (e ∷ es);
  no_drain = no_drain-append (map Change (e ∷ es)) (map Flush (lines_of lines (e ∷ es))) (no_drain_changes (e ∷ es)) (no_drain_flushes (lines_of lines (e ∷ es)));
  is_tail = inr refl;
}

-- the words of cleared slots
abbrev pub clears : ℕ → List ℕ → List Redo
clears k slots = flat_map (λ slot. zeros (slot_line k slot)) slots

slot_among : (k slot : ℕ) → changes_among (cleared_slot k slot) ≡ zeros (slot_line k slot)
unfolding changes_among
slot_among k slot =
    among-append (map Change (zeros (slot_line k slot))) (Flush (slot_line k slot) ∷ []) ∙ ap (λ (es : List Redo). es ++ []) (among_changes (zeros (slot_line k slot))) ∙ append-nil (zeros (slot_line k slot))

slots_among : (k : ℕ) (slots : List ℕ) → changes_among (flat_map (cleared_slot k) slots) ≡ clears k slots
unfolding changes_among
slots_among k [] = refl
slots_among k (slot ∷ slots) = among-append (cleared_slot k slot) (flat_map (cleared_slot k) slots) ∙ (λ j. slot_among k slot j ++ slots_among k slots j)

slots_no_drain : (k : ℕ) (slots : List ℕ) → HasNoDrain (flat_map (cleared_slot k) slots)
unfolding HasNoDrain
slots_no_drain k [] = tt
slots_no_drain k (slot ∷ slots) =
    no_drain-append (cleared_slot k slot) (flat_map (cleared_slot k) slots) (no_drain-append (map Change (zeros (slot_line k slot))) (Flush (slot_line k slot) ∷ []) (no_drain_changes (zeros (slot_line k slot))) tt) (slots_no_drain k slots)

pub cleared_part : (k : ℕ) (slots : List ℕ) → Part (cleared k slots) (clears k slots)
cleared_part k slots = record { calls = flat_map (cleared_slot k) slots; tail = drained slots; split = refl; among = slots_among k slots; no_drain = slots_no_drain k slots; is_tail = tail_of slots } where
  tail_of : (ss : List ℕ) → IsTail (drained ss)
  tail_of [] = inl refl
  tail_of (s ∷ ss) = inr refl

-- what survives in such a part, and what it leaves
module _ (m : Solo) (part : List MemoryCall) (es : List Redo) (p : Part part es) (none : m.changes ≡ []) (small : AreSmall m.words) (all : All (IsInside (length m.words)) es) where
  inside : All (IsInside (length m.words)) (changes_among p.calls)
  inside = subst (All (IsInside (length m.words))) (sym p.among) all

  pub left_partly : (n : ℕ) (left : List ℕ) → (after_calls m part).changes ≡ [] → Survives (after_calls m (take n part)).words ((after_calls m (take n part)).changes ∷ []) left → IsPartlyWritten es m.words left
  left_partly n left end survives =
      subst (λ (fs : List Redo). IsPartlyWritten fs m.words left) p.among
      (segment_survives m p.calls p.tail n left none small p.no_drain inside p.is_tail (subst (λ (cs : List MemoryCall). (after_calls m cs).changes ≡ []) p.split end)
      (subst (λ (cs : List MemoryCall). Survives (after_calls m (take n cs)).words ((after_calls m (take n cs)).changes ∷ []) left) p.split survives))

  pub left_words : (w : ℕ) → w < length m.words → slice_index (after_calls m part).words w ≡ all_applied (for_word w es) (slice_index m.words w)
  left_words w near =
      ap (λ (cs : List MemoryCall). slice_index (after_calls m cs).words w) p.split
      ∙ part_words m p.calls p.tail none small p.no_drain inside p.is_tail w near ∙ ap (λ (fs : List Redo). all_applied (for_word w fs) (slice_index m.words w)) p.among

  pub left_length : length (after_calls m part).words ≡ length m.words
  left_length = ap (λ (cs : List MemoryCall). length (after_calls m cs).words) p.split ∙ part_length m p.calls p.tail none small p.no_drain inside p.is_tail
