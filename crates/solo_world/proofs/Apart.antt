-- What one lane may write another neither writes nor knows.
use Rattle.std.proofs.Common.{◌≡◌, ◌≢◌, ℕ, ◌+◌, ◌*◌, ◌^◌, ◌<◌, ◌≤◌, ◌⊎◌, ⊎_elim, Bool, true, false, leb, ltb, eqb, ◌||◌, IsTrue, IfSome, All, List, Option, Some, None, sym, ap, ◌∙◌, arith, pow_mono}
use Rattle.std.specs.List.{list_any}
use Rattle.std.proofs.lemmas.Bool.{and_parts, or_cases, leb-true, ltb-true, eqb-true, false_from_ne_true}
use Rattle.std.proofs.lemmas.List.Elements.{All-contains}
use Rattle.std.proofs.lemmas.List.Folds.{Any-from_list_any}
use Rattle.solo_view.specs.Area.{area_word, is_in_area}
use Rattle.solo_view.specs.Blocks.{block_at}
use Rattle.solo_view.specs.Held.{root_word, is_under_found, is_under, is_reserved, is_held}
use Rattle.solo_view.specs.Log.{Final}
use Rattle.solo_view.specs.Rights.{is_written}
use Rattle.solo_view.specs.View.{View, Lock}
use Rattle.pm_image.specs.Reads.{IsHeapWord}
use Rattle.solo_memory.specs.LockWords.{writer_bit}
use Rattle.solo_world.specs.Fits.{ShowsHold, LockFits, LaneFits}
use Rattle.solo_world.specs.Memory.{Memory}
use Rattle.solo_world.specs.Memory.Location.{LockWord}
use Rattle.solo_world.specs.Opening.{Opening, Guards, IsSound}
use Rattle.solo_world.proofs.Reserved.{reserved_apart}
use Rattle.solo_world.proofs.Exclusion.{WritesUnder, writes_under, one_writer, pow_injective}

pub area_bounds : (lane w : ℕ) → IsTrue (is_in_area lane w) → (512 + 1024 * lane ≤ w) × (w < 1536 + 1024 * lane)
area_bounds lane w e =
    let t = and_parts (leb (area_word lane) w) (ltb w (area_word lane + 1024)) e in
    let low = leb-true (area_word lane) w t.0 in let high = ltb-true w (area_word lane + 1024) t.1 in (omega arith, omega arith)

-- what lies behind the areas, and the root, is of no lane's area
pub outside_behind : (lanes lane w : ℕ) → lane < lanes → 512 + 1024 * lanes ≤ w → is_in_area lane w ≡ false
outside_behind lanes lane w inside low = false_from_ne_true (is_in_area lane w) (λ e. let b = (area_bounds lane w e).1 in absurd (omega arith))

pub heap_outside : (lanes zones lane w : ℕ) → lane < lanes → IsHeapWord lanes zones w → is_in_area lane w ≡ false
heap_outside lanes zones lane w inside heap =
    ⊎_elim (λ (root : w ≡ 64). false_from_ne_true (is_in_area lane w) (λ e. let b = (area_bounds lane w e).0 in absurd (omega arith)))
    (λ (t : (512 + 1024 * lanes ≤ w) × (w < _)). outside_behind lanes lane w inside t.0) heap

-- the word is of lane k's area, or under a lock that it holds for writing
abbrev pub IsOwn : Opening → Memory → ℕ → ℕ → Type 0
IsOwn o mem k w = IsTrue (is_in_area k w) ⊎ WritesUnder o mem k w

-- it is no word of another lane's area
pub area_apart : (o : Opening) (mem : Memory) (j k w : ℕ) → IsSound o → j < o.lanes → k < o.lanes → j ≢ k → IsOwn o mem k w → IsTrue (is_in_area j w) → ⊥
area_apart o mem j k w sound low inside other own there =
    let b = area_bounds j w there in let b₀ = b.0 in let b₁ = b.1 in
    ⊎_elim (λ (area : IsTrue (is_in_area k w)). let a = area_bounds k w area in let a₀ = a.0 in let a₁ = a.1 in other (omega arith))
    (λ (t : WritesUnder o mem k w). let behind = sound.behind_areas t.0 w t.1 in absurd (omega arith)) own

-- it is no word that another lane may write
pub written_apart : (o : Opening) (mem : Memory) (j k w : ℕ) (v : View) → IsSound o → k < o.lanes → j ≢ k → IsOwn o mem k w → All (LockFits o mem j) v.locks → IsTrue (is_written v w) → ⊥
written_apart o mem j k w v sound inside other own locks written =
    let under = writes_under o mem j v w locks written in
    ⊎_elim (λ (area : IsTrue (is_in_area k w)). let a = (area_bounds k w area).1 in let behind = sound.behind_areas under.0 w under.1 in absurd (omega arith))
    (λ (t : WritesUnder o mem k w). other (one_writer o mem j k w sound under t)) own

holds_apart : (o : Opening) (mem : Memory) (j k w line : ℕ) (write : Bool) (block : Option ℕ) → IsSound o → j < o.lanes → k < o.lanes → j ≢ k → IsOwn o mem k w
    → ShowsHold j write (mem (LockWord line)) → IfSome block (λ lines. block_at o.lanes o.words line ≡ Some lines) → is_under_found line block w ≡ true → ⊥
holds_apart o mem j k w line write None sound low inside other own shows found e =
    let root = eqb-true w root_word (and_parts (eqb line 0) (eqb w root_word) e).1 in
    ⊎_elim (λ (area : IsTrue (is_in_area k w)). let a = (area_bounds k w area).0 in absurd (omega arith))
    (λ (t : WritesUnder o mem k w). let behind = sound.behind_areas t.0 w t.1 in absurd (omega arith)) own
holds_apart o mem j k w line write (Some lines) sound low inside other own shows found e =
    let guard : Guards o line w = record { lines = lines; block = found; inside = e } in
    ⊎_elim (λ (area : IsTrue (is_in_area k w)). let a = (area_bounds k w area).1 in let behind = sound.behind_areas line w guard in absurd (omega arith))
    (λ (t : WritesUnder o mem k w). two_holds j k (mem (LockWord line)) write other shows (ap (λ l. mem (LockWord l)) (sound.one_guard line t.0 w guard t.1) ∙ t.2)) own
  where
    two_holds : (a b word : ℕ) (for : Bool) → a ≢ b → ShowsHold a for word → word ≡ writer_bit b → ⊥
    two_holds a b word true differ one two = differ (let e' = pow_injective (32 + a) (32 + b) (sym one ∙ two) in omega arith)
    two_holds a b word false differ one two = let small = one.1 in let more : 32 ≤ 32 + b = omega arith in let big : 2 ^ 32 ≤ 2 ^ (32 + b) = pow_mono {i = 32} {j = 32 + b} more in absurd (omega arith)

-- it is no word that another lane holds
pub held_apart : (o : Opening) (mem : Memory) (settled : ℕ → ℕ) (flies : ℕ → List Final → Type 0) (j k w : ℕ) (v : View) → IsSound o → j < o.lanes → k < o.lanes → j ≢ k → IsOwn o mem k w
    → LaneFits o mem settled flies j v → IsTrue (is_held v w) → ⊥
held_apart o mem settled flies j k w v sound low inside other own fits e =
    let by_lock : list_any (is_under w) v.locks ≡ true → ⊥ = λ under.
    let t = Any-from_list_any (is_under w) v.locks under in
    let l : Lock = t.1 in
    let fit = All-contains (LockFits o mem j) v.locks l fits.locks (t.0, t.2, t.3) in
    holds_apart o mem j k w l.line l.write l.block sound low inside other own fit.shows fit.found t.4 in
    let reserved : is_reserved v w ≡ true → ⊥ = λ there.
    let apart = reserved_apart o mem v w fits.lane.lanes fits.blocks there in
    ⊎_elim (λ (area : IsTrue (is_in_area k w)). let a = (area_bounds k w area).1 in let behind = apart.behind in absurd (omega arith)) (λ (t : WritesUnder o mem k w). apart.outside (sound.in_blocks t.0 w t.1)) own in
    let by_area : is_in_area v.lane w ≡ true → ⊥ = λ there. area_apart o mem j k w sound low inside other own (ap (λ n. is_in_area n w) (sym fits.lane.lane) ∙ there) in
    ⊎_elim (λ (one : (is_in_area v.lane w || list_any (is_under w) v.locks) ≡ true). ⊎_elim by_area by_lock (or_cases (is_in_area v.lane w) (list_any (is_under w) v.locks) one)) reserved
    (or_cases (is_in_area v.lane w || list_any (is_under w) v.locks) (is_reserved v w) e)
