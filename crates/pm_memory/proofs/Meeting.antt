-- What a view allows of its own, the memory that is seen so can do.
use Rattle.std.proofs.Common.{IsTrue, ◌≡◌, ℕ, ◌+◌, ◌*◌, ◌/◌, ◌^◌, ◌<◌, Bool, true, false, not, ◌&&◌, ◌||◌, eqb, length, slice_index, get_or, None, refl, sym, ap, ◌∙◌, subst, arith, rules}
use Rattle.std.specs.List.{list_any, Any, Contains}
use Rattle.std.proofs.lemmas.Bool.{false≢true}
use Rattle.std.proofs.lemmas.List.Folds.{list_any_at, Any-from_list_any}
use Rattle.pm_layout.specs.Chunks.{words_of}
use Rattle.pm_view.specs.declared.change.Change.{Change}
use Rattle.pm_view.specs.declared.occ.Occ.TheVariants.{Run}
use Rattle.pm_view.specs.Changes.{Undrained, is_in_line}
use Rattle.pm_view.specs.Claims.{locked, reads, holds}
use Rattle.pm_view.specs.Counts.{HasRoom, FlushesSome, DropsSome, is_unflushed}
use Rattle.pm_view.specs.LockWords.{reader_bit}
use Rattle.pm_view.specs.Steps.Step.{NumberSeen}
use Rattle.pm_view.specs.View.{View}
use Rattle.pm_memory.specs.Changes.{CanAdd, CanFlush, CanDrain, lies_in}
use Rattle.pm_memory.specs.Solo.{Solo, Sees, IsLockWord, HasWord}
use Rattle.pm_memory.proofs.Undrained.{undrained-length, undrained-unflushed}

pub word_inside : (m : Solo) (v : View) (w : ℕ) → Sees m v → w < words_of v.fixed.shape → w < length m.words
word_inside m v w sees inside = let size = sees.fixed.size in omega (arith, inside, size)

pub line_inside : (m : Solo) (v : View) (line : ℕ) → Sees m v → line < words_of v.fixed.shape / 8 → line < length m.locks
line_inside m v line sees inside =
    let lines : length m.locks ≡ words_of v.fixed.shape / 8 = sees.sizes.lines ∙ ap (λ n. n / 8) sees.fixed.size in
    subst (λ n. line < n) (sym lines) inside

pub room_for : (m : Solo) (v : View) → Sees m v → HasRoom v.changes → CanAdd m.changes
room_for m v sees room = let same = undrained-length m.changes v.changes sees.changes in omega (arith, same, room)

both : (a b : Bool) → IsTrue a → b ≡ false → (a && not b) ≡ true
both true false here plain = refl
both true true here plain = absurd (false≢true (sym plain))
both false b here plain = absurd (search rules)

split : (a b : Bool) → (a && not b) ≡ true → IsTrue a × (b ≡ false)
split true false is = (search rules, refl)
split true true is = absurd (false≢true is)
split false b is = absurd (false≢true is)

pub flushes_some : (m : Solo) (v : View) (line : ℕ) → Sees m v → FlushesSome line v.changes → CanFlush line m.changes
flushes_some m v line sees some =
    let test : Undrained → Bool = λ u. is_in_line line u && not u.flushed in
    let u : Undrained = some.1 in
    let seen : is_unflushed v.changes line ≡ true = list_any_at test v.changes some.0 u some.2 (ap test some.3 ∙ both (is_in_line line u) u.flushed some.4.0 some.4.1) in
    let found : Any (λ (c : Change). (lies_in line c && not c.flushed) ≡ true) m.changes = Any-from_list_any (λ (c : Change). lies_in line c && not c.flushed) m.changes (undrained-unflushed line m.changes v.changes sees.changes ∙ seen) in
    let c : Change = found.1 in
    (found.0, c, found.2, found.3, split (lies_in line c) c.flushed found.4)

pub drains_some : (m : Solo) (v : View) → Sees m v → DropsSome v.changes → CanDrain m.changes
drains_some m v sees some = let same = undrained-length m.changes v.changes sees.changes in let within = some.2 in omega (arith, same, within)

free_word : (a b : Bool) (word : ℕ) → IsLockWord a b word → (a || b) ≡ false → word ≡ 0
free_word true b word is free = absurd (false≢true (sym free))
free_word false true word is free = absurd (false≢true (sym free))
free_word false false word is free = is

reading_word : (a b : Bool) (word : ℕ) → IsLockWord a b word → b ≡ true → word ≡ reader_bit 0
reading_word true true word is held = absurd is
reading_word false true word is held = is
reading_word a false word is held = absurd (false≢true held)

pub lock_free : (m : Solo) (v : View) (line : ℕ) → Sees m v → line < words_of v.fixed.shape / 8 → holds v.claims line ≡ false → slice_index m.locks line ≡ 0
lock_free m v line sees inside free = free_word (locked v.claims line) (reads v.claims line) (slice_index m.locks line) (sees.locks line (line_inside m v line sees inside)) free

pub lock_read : (m : Solo) (v : View) (line : ℕ) → Sees m v → line < words_of v.fixed.shape / 8 → reads v.claims line ≡ true → slice_index m.locks line ≡ reader_bit 0
lock_read m v line sees inside held = reading_word (locked v.claims line) (reads v.claims line) (slice_index m.locks line) (sees.locks line (line_inside m v line sees inside)) held

pub zone_inside : (m : Solo) (v : View) (zone : ℕ) → Sees m v → zone < 32 → zone < length m.zone_locks
zone_inside m v zone sees inside = let size = sees.sizes.zone_locks_are in omega (arith, inside, size)

pub zone_free : (m : Solo) (v : View) (zone : ℕ) → Sees m v → zone < 32 → list_any (λ other. eqb other zone) v.zones ≡ false → get_or m.zone_locks zone false ≡ false
zone_free m v zone sees inside free = sees.zone_locks zone (zone_inside m v zone sees inside) ∙ free

pub page_inside : (m : Solo) (v : View) (page : ℕ) → Sees m v → page < words_of v.fixed.shape / 512 → HasWord m.runs m.zones (Run (4096 * page))
page_inside m v page sees inside =
    let pages : length m.runs ≡ words_of v.fixed.shape / 512 = sees.sizes.pages ∙ ap (λ n. n / 512) sees.fixed.size in
    let here : page < length m.runs = subst (λ n. page < n) (sym pages) inside in
    (omega arith, omega (arith, here))

pub number_below : (m : Solo) (v : View) (n : ℕ) → Sees m v → v.number ≡ None → Contains v.seen (NumberSeen n) → n < 2 ^ 62 → m.number < 2 ^ 62 + 32
number_below m v n sees first seen below = let same = sees.counter.still first n seen in omega (arith, same, below)
