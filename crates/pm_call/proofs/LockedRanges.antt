-- A RANGE OF AN OBJECT UNDER ITS LOCK: its words may be recorded once they were looked at.
use Rattle.std.proofs.Common.{◌≡◌, ◌^◌, ℕ, ◌+◌, ◌*◌, ◌/◌, ◌%◌, ◌<◌, ◌≤◌, ⊎_elim, nat_le, true, false, ◌==◌, ◌&&◌, ◌||◌, Contains, List, [], ◌∷◌, sym, ap, ◌∙◌, subst, arith, Bool, refl, Some}
use Rattle.std.specs.List.{list_any}
use Rattle.std.proofs.lemmas.Bool.{and_from, and_parts, both_ways, eqb-true, leb-true, or_cases}
use Rattle.pm_model.specs.Transaction.{covered_words}
use Rattle.pm_objects.specs.declared.ids.Oid.{Oid}
use Rattle.pm_view.specs.Claims.{class, header_in, locked}
use Rattle.pm_view.specs.Founds.{knows}
use Rattle.pm_view.specs.Places.{Block, Small, Big, Root, word_of}
use Rattle.pm_view.specs.View.{View}
use Rattle.pm_view.specs.Views.{value_in}
use Rattle.pm_world.specs.LaneFields.{Standing}
use Rattle.pm_world.specs.declared.lane.HeldLock.{HeldLock}
use Rattle.pm_world.proofs.BlockLines.{run_fits}
use Rattle.pm_crash.specs.Footprints.{has_found}
use Rattle.pm_crash.specs.Looked.{word_place, words_in}
use Rattle.pm_crash.proofs.Covered.{byte_is_covered, covered_has_byte}
use Rattle.pm_undo.specs.Ranges.{HoldsObject, IsInObject, KnowsNew}
use Rattle.pm_plan.proofs.AreaParts.{in_pool}
use Rattle.pm_call.specs.At.{At}
use Rattle.pm_call.specs.Held.{AreHeld, IsObjectWord, has_line, is_in_locks, line_of}
use Rattle.pm_call.specs.Ranges.{HasRange, KnowsWords}
use Rattle.pm_call.proofs.KnownObjects.{size_word, word_number}
use Rattle.pm_call.proofs.ObjectWords.{object_known, object_place}
use Rattle.pm_call.proofs.RangeWords.{has_line_, has_room, index, object, range_number, range_word}

-- a lock for writing that is in the list is held
pub lock_held : (v : View) (locks : List HeldLock) → AreHeld v locks → (off : ℕ) → is_in_locks locks off true ≡ true → locked v.claims (line_of off) ≡ true
lock_held v locks held off e = go locks held (and_parts (has_line off) (list_any (λ (l : HeldLock). l.line == line_of off && (l.write || false)) locks) e).1
  where
    writes : (b : Bool) → (b || false) ≡ true → b ≡ true
    writes true e = refl
    writes false e = absurd (both_ways false refl e)

    go : (locks : List HeldLock) → AreHeld v locks → list_any (λ (l : HeldLock). l.line == line_of off && (l.write || false)) locks ≡ true → locked v.claims (line_of off) ≡ true
    go [] all q = absurd (both_ways false refl q)
    go (l ∷ locks) all q = ⊎_elim
        (λ (y : (l.line == line_of off && (l.write || false)) ≡ true). let t = and_parts (l.line == line_of off) (l.write || false) y in subst (λ n. locked v.claims n ≡ true) (eqb-true l.line (line_of off) t.0) (all.0.held.0 (writes l.write t.1)))
        (λ (y : list_any (λ (l : HeldLock). l.line == line_of off && (l.write || false)) locks ≡ true). go locks all.1 y)
        (or_cases (l.line == line_of off && (l.write || false)) (list_any (λ (l : HeldLock). l.line == line_of off && (l.write || false)) locks) q)

module _ (s : Standing) (at : At s) (id : Oid) (off len : ℕ) (write : Bool) (range : HasRange s id off len write) where
  abbrev pub block : Block
  block = (object s at id off len write range).block

  pub found : has_found s.view block ≡ true
  found = (object s at id off len write range).found

  -- its header's line; its data begin a line later
  pub header_at : 64 * header_in s.view.fixed.shape s.view.claims block + 64 ≡ id.off
  header_at =
      let l = and_parts (id.off % 64 == 0) (nat_le 128 id.off) (has_line_ s at id off len write range) in
      let even = eqb-true (id.off % 64) 0 l.0 in
      let high = leb-true 128 id.off l.1 in
      ap (λ n. 64 * n + 64) (object s at id off len write range).at ∙ omega (arith, even, high)

  -- ---- a covered word

  pub record InRange (w : ℕ) : Type 0 where
    pub word : IsObjectWord s.view block (index s at id off len write range w)
    pub data_ : 8 ≤ index s at id off len write range w
    pub is : word_of s.view.fixed.shape (word_place s.view block (index s at id off len write range w)) ≡ w
    pub alive : index s at id off len write range w / 8 ≤ (range.size + 63) / 64

  pub in_range : (w : ℕ) → Contains (covered_words (id.off + off) len) w → InRange w
  in_range w c =
      let b = covered_has_byte (id.off + off) len w c in let low = b.1 in let above = b.2 in
      let h = header_at in let i = range.inside in record {
        word = range_word s at id off len write range w c;
        data_ = omega (arith, h, above);
        is = range_number s at id off len write range w c;
        alive = omega (arith, h, low, above, i);
      }

  -- what was seen of it the lane knows
  pub known_word_of : (w : ℕ) → Contains (covered_words (id.off + off) len) w → knows s.view w ≡ value_in s.view w
  known_word_of w c = let r = in_range w c in sym (ap (knows s.view) r.is) ∙ (object_known s.view at.sound block (index s at id off len write range w) r.word ∙ ap (value_in s.view) r.is)

  -- ---- its bytes are those of a pool

  block_small : (B : Block) → has_found s.view B ≡ true → words_in s.view B ≤ 32768
  block_small (Small c i) f = let n = run_fits (class s.view.claims c) i (at.sound.small c i f).1 in omega (arith, n)
  block_small (Big h) f = let n = at.sound.zone h f in omega (arith, n)
  block_small Root f = omega arith

  pub range_low : id.off + off + len < 2 ^ 60
  range_low =
      let o = object s at id off len write range in
      let is = size_word s.view at.sound (line_of id.off) o in
      let place = object_place s.view at.sound o.block 1 is in
      let low = in_pool s.view.fixed.shape (word_place s.view o.block 1) place.data_ place.there in
      let number = word_number s.view at.sound o.block 1 is in
      let few = block_small block found in
      let room = has_room s at id off len write range in
      let h = header_at in let i = range.inside in
      let lanes = at.working.lanes in let zones = at.working.zones in
      omega (arith, low, number, few, room, h, i, lanes, zones)

-- ---- under its write lock
module _ (s : Standing) (at : At s) (id : Oid) (off len : ℕ) (range : HasRange s id off len true) where
  pub holds_object : HoldsObject s.view (block s at id off len true range) range.size
  holds_object =
      let o = object s at id off len true range in
      let w = size_word s.view at.sound (line_of id.off) o in
      let h = header_at s at id off len true range in
      let sized : value_in s.view (8 * header_in s.view.fixed.shape s.view.claims o.block + 1) ≡ Some range.size = ap (value_in s.view) (omega (arith, h)) ∙ range.sized in record {
        inside = o.inside;
        here_ = and_from (has_found s.view o.block) (locked s.view.claims (header_in s.view.fixed.shape s.view.claims o.block)) o.found (ap (locked s.view.claims) o.at ∙ lock_held s.view s.locks at.held id.off range.locked);
        sized = sym (ap (knows s.view) (word_number s.view at.sound o.block 1 w)) ∙ (object_known s.view at.sound o.block 1 w ∙ (ap (value_in s.view) (word_number s.view at.sound o.block 1 w) ∙ sized));
        fits = at.sizes o.block range.size o.found o.inside sized;
      }

  pub in_object : IsInObject s.view (block s at id off len true range) range.size (id.off + off) len
  in_object = let h = header_at s at id off len true range in let i = range.inside in record { from = omega (arith, h); to = omega (arith, h, i) }

  pub knows_new : KnowsWords s.view (id.off + off) len → KnowsNew s.view (id.off + off) len
  knows_new looked w has new = let c = byte_is_covered (id.off + off) len w has.0 has.2 has.1 in let k = looked w c in (k.value, k.small, known_word_of s at id off len true range w c ∙ k.known)
