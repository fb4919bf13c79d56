-- The words that a range of an object covers are guarded by the object's lock, and none of them is the size of an object.
use Rattle.std.proofs.Common.{◌≡◌, ℕ, ◌+◌, ◌-◌, ◌*◌, ◌^◌, ◌<◌, ◌≤◌, ◌≢◌, ⊎_elim, ◌&&◌, length, Bool, true, ◌||◌, leb, ltb, eqb, Contains, slice_index, Option, Some, is_some, IsTrue, sym, ap, ◌∙◌, subst, arith}
use Rattle.std.proofs.lemmas.Bool.{and_from, cases_eq, le-leb, lt-ltb, or_right}
use Rattle.pm_objects.specs.declared.ids.Oid.{Oid}
use Rattle.solo_crash.proofs.Covered.{covered_has_byte}
use Rattle.solo_crash.specs.OpenCall.{IsUnderBlock}
use Rattle.solo_crash.specs.Operations.{HasRange}
use Rattle.solo_model.specs.Bytes.{covered_words}
use Rattle.solo_view.specs.Held.{is_guarded, is_under, is_under_found}
use Rattle.solo_view.specs.View.{View, Lock}
use Rattle.solo_undo.proofs.Lockings.{found_guards}
use Rattle.solo_undo.specs.Working.{FindsOpening}
use Rattle.solo_world.specs.Opening.{Opening, Guards, IsSound}
use Rattle.solo_lock.specs.Finding.{FindsObject, FindsObjects}

-- a guarded word of the block that was found
under_block : (l : Lock) (lines w : ℕ) → l.block ≡ Some lines → 8 * l.line ≤ w → w < 8 * (l.line + lines) → is_guarded (w - 8 * l.line) ≡ true → is_under w l ≡ true
under_block l lines w block from to guarded =
    ap (λ (b : Option ℕ). is_under_found l.line b w) block
    ∙ and_from (leb (8 * l.line) w && ltb w (8 * (l.line + lines))) (is_guarded (w - 8 * l.line))
    (and_from (leb (8 * l.line) w) (ltb w (8 * (l.line + lines))) (le-leb (8 * l.line) w from) (lt-ltb w (8 * (l.line + lines)) to)) guarded

-- its data, and its size
data_guarded : (n : ℕ) → 8 ≤ n → is_guarded n ≡ true
data_guarded n from = or_right (ltb n 2 || eqb n 5) (leb 8 n) (le-leb 8 n from)

size_guarded : (n : ℕ) → n ≡ 1 → is_guarded n ≡ true
size_guarded n is = ap is_guarded is

found : (l : Lock) (lines : ℕ) → l.block ≡ Some lines → IsTrue (is_some l.block)
found l lines block = ap is_some block

module _ (v : View) (objects : FindsObjects v) where
  pub size_under : (l : Lock) → Contains v.locks l → is_under (8 * l.line + 1) l ≡ true
  size_under l held =
      let object : FindsObject v l = objects l held in
      let most = object.fits in
      under_block l object.lines (8 * l.line + 1) object.block (omega arith) (omega (arith, most)) (size_guarded (8 * l.line + 1 - 8 * l.line) (omega arith))

  pub is_found : (l : Lock) → Contains v.locks l → IsTrue (is_some l.block)
  is_found l held = let object : FindsObject v l = objects l held in found l object.lines object.block

  module _ (id : Oid) (off len : ℕ) (write : Bool) (range : HasRange v id off len write) where
    abbrev pub lock : Lock
    lock = range.object.lock

    -- a covered word is behind the header's line
    covered_behind : (i : ℕ) → Contains (covered_words (id.off + off) len) i → 8 * lock.line + 8 ≤ i
    covered_behind i there =
        let has = covered_has_byte (id.off + off) len i there in
        let place = range.object.place in
        let above = has.2 in
        let at : id.off ≡ 64 * lock.line + 64 = place in
        omega (arith, at, above)

    pub covered_under : (i : ℕ) → Contains (covered_words (id.off + off) len) i → is_under i lock ≡ true
    covered_under i there =
        let object : FindsObject v lock = objects lock range.object.held in
        let has = covered_has_byte (id.off + off) len i there in
        let place : id.off ≡ 64 * lock.line + 64 = range.object.place in
        let below = has.1 in
        let inside : off + len ≤ slice_index v.words (8 * lock.line + 1) = range.inside in
        let most = object.fits in
        let behind = covered_behind i there in
        under_block lock object.lines i object.block (omega (arith, behind)) (omega (arith, place, below, inside, most)) (data_guarded (i - 8 * lock.line) (omega (arith, behind)))

    -- and a word of the block that was found there
    pub covered_block : (i : ℕ) → Contains (covered_words (id.off + off) len) i → IsUnderBlock v i
    covered_block i there =
        let object : FindsObject v lock = objects lock range.object.held in
        let has = covered_has_byte (id.off + off) len i there in
        let place : id.off ≡ 64 * lock.line + 64 = range.object.place in
        let below = has.1 in
        let inside : off + len ≤ slice_index v.words (8 * lock.line + 1) = range.inside in
        let most = object.fits in
        let behind = covered_behind i there in
        record { lock = lock; lines = object.lines; held = range.object.held; found = object.block; from = omega (arith, behind); to = omega (arith, place, below, inside, most) }

    -- and so it is in the pool
    covered_guarded : (o : Opening) → FindsOpening o v → (i : ℕ) → Contains (covered_words (id.off + off) len) i → Guards o lock.line i
    covered_guarded o finds i there = found_guards o v finds lock i range.object.held true (and_from (is_some lock.block) (is_under i lock) (is_found lock range.object.held) (covered_under i there))

    pub covered_in_pool : (o : Opening) → IsSound o → FindsOpening o v → (i : ℕ) → Contains (covered_words (id.off + off) len) i → i < length v.words
    covered_in_pool o sound finds i there = let low = sound.within lock.line i (covered_guarded o finds i there) in let size = finds.size in omega (arith, low, size)

    -- the range ends with the pool's words, or before
    module _ (o : Opening) (sound : IsSound o) (finds : FindsOpening o v) where
      guards_word : (w : ℕ) → is_under w lock ≡ true → w < length o.words
      guards_word w under = sound.within lock.line w (found_guards o v finds lock w range.object.held true (and_from (is_some lock.block) (is_under w lock) (is_found lock range.object.held) under))

      pub range_is_low : o.zones ≤ 32 → id.off + off + len < 2 ^ 60
      range_is_low few =
          let object : FindsObject v lock = objects lock range.object.held in
          let place : id.off ≡ 64 * lock.line + 64 = range.object.place in
          let inside : off + len ≤ slice_index v.words (8 * lock.line + 1) = range.inside in
          let most = object.fits in
          let size = sound.size in
          let lanes = sound.most_lanes in
          ⊎_elim
          (λ (one : object.lines ≡ 1). let head = guards_word (8 * lock.line + 1) (size_under lock range.object.held) in omega (arith, one, head, place, inside, most, size, lanes, few))
          (λ (more : object.lines ≢ 1).
          let some : 2 ≤ object.lines = grind (arith, more, most) in
          let tail = guards_word (8 * (lock.line + object.lines) - 1) (under_block lock object.lines (8 * (lock.line + object.lines) - 1) object.block (omega (arith, some)) (omega (arith, some)) (data_guarded (8 * (lock.line + object.lines) - 1 - 8 * lock.line) (omega (arith, some)))) in
          omega (arith, tail, place, inside, most, size, lanes, few))
          (cases_eq object.lines 1)

    -- so it is no object's size
    pub covers_no_size : (o : Opening) → IsSound o → FindsOpening o v → (i : ℕ) → Contains (covered_words (id.off + off) len) i → (l : Lock) → Contains v.locks l → i ≡ 8 * l.line + 1 → ⊥
    covers_no_size o sound finds i there l held is =
        let one : Guards o lock.line i = covered_guarded o finds i there in
        let other : Guards o l.line i =
        subst (Guards o l.line) (sym is) (found_guards o v finds l (8 * l.line + 1) held true (and_from (is_some l.block) (is_under (8 * l.line + 1) l) (is_found l held) (size_under l held))) in
        let same = sound.one_guard lock.line l.line i one other in
        let behind = covered_behind i there in
        omega (arith, same, behind, is)
