-- The words of a sequence that may be made lie in the pool.
use Rattle.std.proofs.Common.{◌≡◌, ℕ, ◌+◌, ◌*◌, ◌<◌, ◌≤◌, ◌^◌, [], ◌∷◌, length, arith}
use Rattle.solo_view.proofs.SameLane.{same_lane-after_all}
use Rattle.solo_view.specs.Steps.Step.{Flush, Drain, Store}
use Rattle.solo_view.specs.View.{View}
use Rattle.solo_view.specs.Views.{after_all}
use Rattle.solo_world.specs.Sequences.{Sequence, counted, in_turn, one, makes_room, stores, IsReady, Ready}
use Rattle.solo_world.proofs.Sequencing.{counted_ready, ready_left, ready_right}
use Rattle.solo_fresh.specs.Filling.{fresh_word, stores_fresh, stores_line, fills_line, fills_lines, fills}

stored_inside : (v : View) (w x : ℕ) → Ready v (stores w x v) → w < length v.words
unfolding stores in_turn one Ready
stored_inside v w x ready =
    let stored = ready_right v (makes_room v) (Store w x ∷ []) ready in
    let inside = stored.0.inside in
    let size = (same_lane-after_all v (makes_room v)).size in
    omega (arith, inside, size)

line_inside : (v : View) (line kind size i : ℕ) → Ready v (stores_line line kind size i v) → 8 * (line + i) + 8 ≤ length v.words
unfolding stores_line
line_inside v line kind size i ready =
    let each : ℕ → Sequence = λ j. stores_fresh line kind size (8 * i + j) in
    let last = counted_ready each v 8 7 (omega arith) ready in
    let inside = stored_inside (after_all v (counted each 7 v)) (8 * line + (8 * i + 7)) (fresh_word kind size (8 * i + 7)) last.1 in
    let same = (same_lane-after_all v (counted each 7 v)).size in
    omega (arith, inside, same)

lines_inside : (v : View) (line lines kind size i : ℕ) → i < lines → Ready v (fills line lines kind size v) → 8 * (line + i) + 8 ≤ length v.words
unfolding fills fills_lines fills_line in_turn one
lines_inside v line lines kind size i low ready =
    let front = ready_left v (fills_lines line lines kind size v) (Drain ∷ []) ready in
    let there = counted_ready (fills_line line kind size) v lines i low front in
    let m : View = after_all v (counted (fills_line line kind size) i v) in
    let inside = line_inside m line kind size i (ready_left m (stores_line line kind size i m) (Flush (line + i) ∷ []) there.1) in
    let same = (same_lane-after_all v (counted (fills_line line kind size) i v)).size in
    omega (arith, inside, same)

-- so their numbers are those of a machine
pub words_inside : (old : View → Type 0) (words line lines kind size : ℕ) → words < 2 ^ 64 → ((v : View) → old v → words ≡ length v.words) → IsReady old (fills line lines kind size)
    → (i : ℕ) → i < lines → 8 * (line + i) + 8 ≤ 2 ^ 64
unfolding IsReady
words_inside old words line lines kind size few counts ready i low =
    let inside = lines_inside ready.0 line lines kind size i low ready.1.1 in
    let same = counts ready.0 ready.1.0 in
    omega (arith, inside, same, few)
