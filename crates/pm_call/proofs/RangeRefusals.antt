-- The first refusal of an operation on a range: as the model has it, and by what the lane looked at.
use Rattle.std.proofs.Common.{◌≡◌, ℕ, zero, suc, ◌+◌, inl, inr, ⊎_elim, nat_le, nat_lt, Bool, true, false, cond, ◌==◌, ◌&&◌, ◌||◌, not, Contains, List, [], ◌∷◌, length, refl, sym, ap, ◌∙◌, subst, arith, ne_eqb, Option, None, Some}
use Rattle.std.specs.List.{list_all, list_any}
use Rattle.std.specs.Option.{option_map, option_map_or}
use Rattle.std.proofs.lemmas.Bool.{and_from, and_parts, and_right, both_ways, or_left, or_right, or_cases}
use Rattle.std.proofs.lemmas.List.{length-replicate}
use Rattle.pm_objects.specs.declared.calls.Operation.{Operation}
use Rattle.pm_objects.specs.declared.calls.Operation.TheVariants.{AddRange, Write, Read, Increment}
use Rattle.pm_objects.specs.declared.ids.Oid.{Oid}
use Rattle.pm_objects.specs.declared.refusal.Refusal.TheVariants as refusal
use Rattle.pm_model.specs.Blocks.{Block}
use Rattle.pm_model.specs.Items.{Item, is_among, new_item, size_of}
use Rattle.pm_model.specs.Refusals.{first_of, is_not_held}
use Rattle.pm_model.specs.Transaction.{Transaction, covered_words, is_gone, is_new, is_working, new_words, records_of}
use Rattle.pm_view.specs.Places.{Place}
use Rattle.pm_view.specs.View.{View}
use Rattle.pm_world.specs.LaneFields.{Standing}
use Rattle.pm_world.specs.Sights.{is_recorded}
use Rattle.pm_world.specs.declared.lane.HeldLock.{HeldLock}
use Rattle.pm_crash.specs.Looked.{Enters, IsChanged, KnowsSize, items_seen, pool_seen, refusal_by, size_seen}
use Rattle.pm_crash.specs.Sim.{lists_of, tx_with}
use Rattle.pm_crash.specs.SimOps.{LookedAt}
use Rattle.pm_crash.proofs.SimFacts.{no_entries}
use Rattle.pm_crash.proofs.Telling.{no_root_is_asked}
use Rattle.pm_call.specs.At.{At, entries_so_far}
use Rattle.pm_call.specs.Did.{unseen}
use Rattle.pm_call.specs.Held.{has_line, is_in_locks, line_of}
use Rattle.pm_call.specs.RangeLaws.{IsSizedIfHeld, RangeRefusals, RangesAreLookedAt}
use Rattle.pm_call.specs.Ranges.{IsRangeOf, has_records, is_held_so, range_tests, size_or_none}
use Rattle.pm_call.proofs.KnownObjects.{held_object, size_known}

-- an object that is seen with a size has it
size_is : (o : Option ℕ) → length (option_map_or (λ (i : Item). i.bytes) (option_map (λ n. new_item 0 n None) o) []) ≡ option_map_or (λ n. n) o 0
size_is None = refl
size_is (Some n) = length-replicate n 0

-- a range's end is asked for twice, but not judged twice
once : (unheld past b c : Bool)
    → first_of ((refusal.NotLocked, unheld) ∷ (refusal.OutOfRange, past)
    ∷ (refusal.NotLocked, b) ∷ (refusal.OutOfRange, past) ∷ (refusal.NotAdded, c) ∷ [])
    ≡ first_of ((refusal.NotLocked, unheld) ∷ (refusal.OutOfRange, past)
    ∷ (refusal.NotLocked, b) ∷ (refusal.NotAdded, c) ∷ [])
unfolding first_of
once unheld true b c = refl
once unheld false b c = refl

module _ (s : Standing) (at : At s) where
  abbrev v : View
  v = s.view

  abbrev tx : Transaction
  tx = lists_of s.view

  -- ---- test by test

  pub works : (nat_le 1 (lists_of s.view).level && not (is_working (lists_of s.view).stage)) ≡ false
  works = and_right (nat_le 1 (lists_of s.view).level) (not (is_working (lists_of s.view).stage)) (ap not at.lists.works)

  pub is_open : ((lists_of s.view).level == 0) ≡ false
  is_open = let l = at.lists.level_is in let some = at.some in ne_eqb (lists_of s.view).level 0 (λ q. omega (arith, l, some, q))

  pub none_new : (off : ℕ) → is_new (lists_of s.view) off ≡ false
  none_new off = ap (list_any (λ (b : Block). b.off == off)) at.lists.blocks.0

  pub none_gone : (off : ℕ) → is_gone (lists_of s.view) off ≡ false
  none_gone off = λ i. is_among (at.lists.blocks.2 i) off || is_among (at.lists.blocks.1 i) off

  pub not_held : (id : Oid) (write : Bool) → is_not_held (tx_with s.view (pool_seen s.view None) (items_seen s.view)) write id ≡ not (is_held_so s id write)
  not_held id write = λ i. not (id.pool == s.view.fixed.pool && (none_new id.off i || at.lists.locks id.off write i))

  pub passes : (id : Oid) (end : ℕ) → nat_lt (size_of (items_seen s.view) id.off) end ≡ nat_lt (size_or_none s.view id.off) end
  passes id end = ap (λ n. nat_lt n end) (size_is (size_seen s.view id.off))

  -- ---- all of them

  of_add : (id : Oid) (off len : ℕ) → refusal_by unseen s.view None (AddRange id off len) ≡ first_of (range_tests s (AddRange id off len) id off len true)
  unfolding first_of
  of_add id off len = λ i. first_of (
      (refusal.NotWork, works i) ∷ (refusal.NoTx, is_open i) ∷ (refusal.NotLocked, not_held id true i) ∷ (refusal.NoObject, none_gone id.off i) ∷ (refusal.OutOfRange, passes id (off + len) i)
      ∷ (refusal.LogFull, not (none_new id.off i) && nat_lt 64 (at.lists.records i + length (records_of (cond (none_new id.off i) [] (new_words (at.lists.recorded i) (covered_words (id.off + off) len)))))) ∷ [])

  of_write : (id : Oid) (off : ℕ) (bytes : List ℕ) → refusal_by unseen s.view None (Write id off bytes) ≡ first_of (range_tests s (Write id off bytes) id off (length bytes) true)
  unfolding first_of
  of_write id off bytes = λ i. first_of (
      (refusal.NotWork, works i) ∷ (refusal.NoTx, is_open i) ∷ (refusal.NotLocked, not_held id true i) ∷ (refusal.NoObject, none_gone id.off i) ∷ (refusal.OutOfRange, passes id (off + length bytes) i)
      ∷ (refusal.NotAdded, not (none_new id.off i) && not (list_all (is_among (at.lists.recorded i)) (covered_words (id.off + off) (length bytes)))) ∷ [])

  of_read : (id : Oid) (off len : ℕ) → refusal_by unseen s.view None (Read id off len) ≡ first_of (range_tests s (Read id off len) id off len false)
  unfolding first_of
  of_read id off len = λ i. first_of (
      (refusal.NotWork, works i) ∷ (refusal.NoTx, is_open i) ∷ (refusal.NotLocked, not_held id false i) ∷ (refusal.NoObject, none_gone id.off i) ∷ (refusal.OutOfRange, passes id (off + len) i) ∷ [])

  of_increment : (id : Oid) (off by : ℕ) → refusal_by unseen s.view None (Increment id off by)
      ≡ first_of (range_tests s (Increment id off by) id off 8 false)
  unfolding first_of
  of_increment id off by = (λ i. first_of (
      (refusal.NotWork, works i) ∷ (refusal.NoTx, is_open i)
      ∷ (refusal.NotLocked, not_held id false i) ∷ (refusal.NoObject, none_gone id.off i)
      ∷ (refusal.OutOfRange, passes id (off + 8) i)
      ∷ (refusal.NotWork, works i) ∷ (refusal.NoTx, is_open i)
      ∷ (refusal.NotLocked, not_held id true i) ∷ (refusal.NoObject, none_gone id.off i)
      ∷ (refusal.OutOfRange, passes id (off + 8) i)
      ∷ (
        refusal.NotAdded,
        not (none_new id.off i)
            && not (list_all (is_among (at.lists.recorded i)) (covered_words (id.off + off) 8)),
      ) ∷ []))
      ∙ once (not (is_held_so s id false)) (nat_lt (size_or_none s.view id.off) (off + 8))
      (not (is_held_so s id true)) (not (has_records s.view (id.off + off) 8))

  refused : (op : Operation) (id : Oid) (off len : ℕ) (write : Bool) → IsRangeOf op id off len write → refusal_by unseen s.view None op ≡ first_of (range_tests s op id off len write)
  refused (AddRange o at n) id off len write is = of_add o at n ∙ λ j. first_of (range_tests s (AddRange o at n) (sym is.0 j) (sym is.1 j) (sym is.2 j) (sym is.3 j))
  refused (Write o at bytes) id off len write is = of_write o at bytes ∙ λ j. first_of (range_tests s (Write o at bytes) (sym is.0 j) (sym is.1 j) (sym is.2 j) (sym is.3 j))
  refused (Read o at n) id off len write is = of_read o at n ∙ λ j. first_of (range_tests s (Read o at n) (sym is.0 j) (sym is.1 j) (sym is.2 j) (sym is.3 j))
  refused (Increment o at n) id off len write is = of_increment o at n
      ∙ λ j. first_of (range_tests s (Increment o at n) (sym is.0 j) (sym is.1 j) (sym is.2 j)
      (sym is.3 j))
  refused op id off len write is = absurd is

  -- ---- what was looked at

  -- a recorded word is one that the call changes
  changed : (p : Place) → is_recorded s.view.log.records p ≡ true → IsChanged s.view p
  changed p e = let d = at.recorded p e in (d.object.block, d.index, d.at, d.within, inr (d.found, d.object.object.inside, d.data_))

  pub enters : Enters s.view (entries_so_far s)
  enters = no_entries s.view changed

  held_for_reading : (off : ℕ) (write : Bool) (locks : List HeldLock) → list_any (λ (l : HeldLock). l.line == line_of off && (l.write || not write)) locks ≡ true → list_any (λ (l : HeldLock). l.line == line_of off && (l.write || not false)) locks ≡ true
  held_for_reading off write [] e = e
  held_for_reading off write (l ∷ locks) e = ⊎_elim
      (λ (y : (l.line == line_of off && (l.write || not write)) ≡ true). or_left (l.line == line_of off && (l.write || true)) (list_any (λ (l : HeldLock). l.line == line_of off && (l.write || true)) locks)
      (and_from (l.line == line_of off) (l.write || true) (and_parts (l.line == line_of off) (l.write || not write) y).0 (or_right l.write true refl)))
      (λ (y : list_any (λ (l : HeldLock). l.line == line_of off && (l.write || not write)) locks ≡ true). or_right (l.line == line_of off && (l.write || true)) (list_any (λ (l : HeldLock). l.line == line_of off && (l.write || true)) locks) (held_for_reading off write locks y))
      (or_cases (l.line == line_of off && (l.write || not write)) (list_any (λ (l : HeldLock). l.line == line_of off && (l.write || not write)) locks) e)

  pub held_so : (id : Oid) (write : Bool) → is_held_so s id write ≡ true → is_held_so s id false ≡ true
  held_so id write e = let t = and_parts (id.pool == s.view.fixed.pool) (is_in_locks s.locks id.off write) e in let l = and_parts (has_line id.off) (list_any (λ (l : HeldLock). l.line == line_of id.off && (l.write || not write)) s.locks) t.1 in
      and_from (id.pool == s.view.fixed.pool) (is_in_locks s.locks id.off false) t.0 (and_from (has_line id.off) (list_any (λ (l : HeldLock). l.line == line_of id.off && (l.write || not false)) s.locks) l.0 (held_for_reading id.off write s.locks l.1))

  not_false : (b : Bool) → not b ≡ false → b ≡ true
  not_false true e = refl
  not_false false e = absurd (both_ways true e refl)

  one_size : (id : Oid) (write : Bool) → IsSizedIfHeld s id → is_held_so s id write ≡ true → KnowsSize s.view [] id.off
  one_size id write (inl k) e = let o = held_object s.view s.locks at.held id.off write (and_parts (id.pool == s.view.fixed.pool) (is_in_locks s.locks id.off write) e).1 in size_known s.view at.sound id.off k.size o.0 o.1 k.sized k.small
  one_size id write (inr n) e = absurd (both_ways (is_held_so s id false) n (held_so id write e))

  of_one : (id other : Oid) → Contains (id ∷ []) other → id ≡ other
  of_one id other (zero, low, e) = e
  of_one id other (suc i, low, e) = absurd (omega (arith, low))

  abbrev pub AskedSize : Oid → Type 0
  AskedSize id = (write : Bool) → is_not_held (tx_with s.view (pool_seen s.view None) (items_seen s.view)) write id ≡ false → KnowsSize s.view [] id.off

  pub asked : (id : Oid) → IsSizedIfHeld s id → AskedSize id
  asked id sized write h = one_size id write sized (not_false (is_held_so s id write) (sym (not_held id write) ∙ h))

  looked : (op : Operation) (id : Oid) (off len : ℕ) (write : Bool) → IsRangeOf op id off len write → IsSizedIfHeld s id → LookedAt s.view (entries_so_far s) None op
  looked (AddRange o at n) id off len write is sized = record {
    enters = enters;
    sizes = λ other w c h gone. subst AskedSize (is.0 ∙ of_one o other c) (asked id sized) w h;
    knows_root = no_root_is_asked s.view None (AddRange o at n) refl;
  }
  looked (Write o at bytes) id off len write is sized = record {
    enters = enters;
    sizes = λ other w c h gone. subst AskedSize (is.0 ∙ of_one o other c) (asked id sized) w h;
    knows_root = no_root_is_asked s.view None (Write o at bytes) refl;
  }
  looked (Read o at n) id off len write is sized = record {
    enters = enters;
    sizes = λ other w c h gone. subst AskedSize (is.0 ∙ of_one o other c) (asked id sized) w h;
    knows_root = no_root_is_asked s.view None (Read o at n) refl;
  }
  looked (Increment o at n) id off len write is sized = record {
    enters = enters;
    sizes = λ other w c h gone. subst AskedSize (is.0 ∙ of_one o other c) (asked id sized) w h;
    knows_root = no_root_is_asked s.view None (Increment o at n) refl;
  }
  looked op id off len write is sized = absurd is

pub range_refusals : RangeRefusals
range_refusals s op id off len write at is = refused s at op id off len write is

pub ranges_are_looked_at : RangesAreLookedAt
ranges_are_looked_at s op id off len write at is sized = looked s at op id off len write is sized
