-- THE WORDS THAT A TRANSACTION PUBLISHED, as entries: each is data of an object under its write lock, so that the lane may enter it.
use Rattle.std.proofs.Common.{◌≡◌, ◌≢◌, ℕ, zero, suc, ◌+◌, ◌-◌, ◌*◌, ◌/◌, ◌%◌, ◌^◌, ◌<◌, ◌≤◌, inr, inl, nat_le, Bool, true, false, ◌==◌, ◌&&◌, ◌||◌, List, [], ◌∷◌, ◌++◌, map, length, refl, sym, ap, ◌∙◌, subst, arith, ne_eqb, None, Some}
use Rattle.std.specs.List.{AllByRecursion}
use Rattle.std.proofs.lemmas.Bool.{and_from, and_parts, both_ways, cond-false, eqb-true, le-leb, leb-true}
use Rattle.std.proofs.Math.Nat.{mul_comm}
use Rattle.std.proofs.lemmas.Nat.{div-mul-add}
use Rattle.pm_model.specs.Pending.{SetWord}
use Rattle.pm_record.specs.declared.redo.Op.TheVariants as op
use Rattle.pm_view.specs.Claims.{class, first, header_in, locked, span}
use Rattle.pm_view.specs.Places.{Place, InRun, InHuge, Descr, RootWord, Block, Small, Big, Root, is_data, word_of}
use Rattle.pm_view.specs.View.{View}
use Rattle.pm_view.specs.Views.{value_in}
use Rattle.pm_world.specs.InWorld.{IsSound, block_bytes}
use Rattle.pm_world.specs.LaneFields.{Standing}
use Rattle.pm_world.specs.Lawful.{EntersAt, MayChangeAt, is_guarded, is_here, place_in}
use Rattle.pm_world.specs.Logs.{EntryOf}
use Rattle.pm_crash.specs.Footprints.{has_found}
use Rattle.pm_crash.specs.Looked.{word_place, words_in}
use Rattle.pm_redo.specs.Stages.{CanEnter}
use Rattle.pm_call.specs.At.{IsAt, MaySet, set_entry}
use Rattle.pm_call.specs.Held.{HasObject, IsObjectWord, has_line, line_of}
use Rattle.pm_call.proofs.KnownObjects.{held_object, word_number}
use Rattle.pm_call.proofs.LockedRanges.{lock_held}
use Rattle.pm_call.proofs.ObjectWords.{object_place}

guarded : (k : ℕ) → 8 ≤ k → is_guarded k ≡ true
guarded k high = ap (λ t. k == 0 || k == 5 || t) (le-leb 8 k high) ∙ last (k == 0) (k == 5)
  where
    last : (a b : Bool) → (a || b || true) ≡ true
    last true true = refl
    last true false = refl
    last false true = refl
    last false false = refl

-- ---- a word of data of a block that the lane found under its write lock, may be changed
module _ (v : View) (sound : IsSound v) where
  offset_small : (c i k : ℕ) → IsObjectWord v (Small c i) k → (8 * (1 + class v.claims c * i) + k) - 8 * (1 + class v.claims c * (((8 * (1 + class v.claims c * i) + k) / 8 - 1) / class v.claims c)) ≡ k
  offset_small c i k is = ap (λ j. (8 * (1 + class v.claims c * i) + k) - 8 * (1 + class v.claims c * j)) index
      ∙ (let n : ℕ = class v.claims c * i in let e : 8 * (1 + n) + k - 8 * (1 + n) ≡ k = omega arith in e)
    where
      index : ((8 * (1 + class v.claims c * i) + k) / 8 - 1) / class v.claims c ≡ i
      index = ap (λ x. x / class v.claims c) (let m = mul_comm (class v.claims c) i in
          let e : (8 * (1 + class v.claims c * i) + k) / 8 - 1 ≡ i * class v.claims c + k / 8 = omega (arith, m) in e)
          ∙ div-mul-add i (class v.claims c) (k / 8) (let w = is.within in omega (arith, w))

  offset_big : (f k : ℕ) → IsObjectWord v (Big f) k → 512 * (f + k / 512 - first v.fixed.shape v.claims (f + k / 512)) + k % 512 ≡ k
  offset_big f k is = ap (λ g. 512 * (f + k / 512 - g) + k % 512) (sound.huge f (f + k / 512) is.found (and_from (nat_le f (f + k / 512)) (Rattle.std.proofs.Common.nat_lt (f + k / 512) (f + span v.fixed.shape v.claims f)) (le-leb f (f + k / 512) (omega arith)) (Rattle.std.proofs.lemmas.Bool.lt-ltb (f + k / 512) (f + span v.fixed.shape v.claims f) (let w = is.within in omega (arith, w))))).0
      ∙ (let e : 512 * (f + k / 512 - f) + k % 512 ≡ k = omega arith in e)

  may_change : (B : Block) (k : ℕ) → IsObjectWord v B k → 8 ≤ k → is_here v B ≡ true → MayChangeAt v (word_place v B k)
  may_change (Small c i) k is high here_ = let at = object_place v sound (Small c i) k is in
      (ap (is_here v) at.block ∙ here_, at.data_, ap is_guarded (offset_small c i k is) ∙ guarded k high)
  may_change (Big f) k is high here_ = let at = object_place v sound (Big f) k is in
      (ap (is_here v) at.block ∙ here_, ap is_guarded (offset_big f k is) ∙ guarded k high)
  may_change Root k is high here_ = absurd (both_ways false refl is.inside)

  -- so it may be set
  enters_at : (B : Block) (k x : ℕ) → IsObjectWord v B k → 8 ≤ k → is_here v B ≡ true → EntersAt v (word_place v B k) op.Set x
  enters_at (Small c i) k x is high here_ = at_run (8 * (1 + class v.claims c * i) + k) (omega arith) (may_change (Small c i) k is high here_)
    where
      at_run : (w : ℕ) → 8 ≤ w → MayChangeAt v (InRun c w) → EntersAt v (InRun c w) op.Set x
      at_run zero low may = absurd (omega (arith, low))
      at_run (suc w) low may = inl may
  enters_at (Big f) k x is high here_ = inl (may_change (Big f) k is high here_)
  enters_at Root k x is high here_ = absurd (both_ways false refl is.inside)

-- an entry of data gives some bit
gives_some : (p : Place) (x : ℕ) → is_data p ≡ true → EntryOf p op.Set x
gives_some (InRun c w) x plain = (0, omega arith, refl)
gives_some (InHuge c w) x plain = (0, omega arith, refl)
gives_some (Descr c) x plain = absurd (both_ways false refl plain)
gives_some RootWord x plain = (0, omega arith, refl)

-- a word to be set, where it stands: in the data of its object's block
pub record IsSetAt (v : View) (a : SetWord) : Type 0 where
  pub block : Block
  pub word : IsObjectWord v block (8 + a.off / 8)
  pub here_ : is_here v block ≡ true
  pub at : 64 * header_in v.fixed.shape v.claims block + 64 ≡ a.id.off
  pub number : word_of v.fixed.shape (word_place v block (8 + a.off / 8)) ≡ (a.id.off + a.off) / 8
  pub use_ : place_in v ((a.id.off + a.off) / 8) ≡ Some (word_place v block (8 + a.off / 8))

module _ (s : Standing) (level : ℕ) (at : IsAt s level) (a : SetWord) (may : MaySet s a) where
  held : (has_line a.id.off ≡ true) × HasObject s.view (line_of a.id.off)
  held = held_object s.view s.locks at.held a.id.off true may.locked

  abbrev o : HasObject s.view (line_of a.id.off)
  o = held.1

  header_at : 64 * header_in s.view.fixed.shape s.view.claims o.block + 64 ≡ a.id.off
  header_at =
      let l = and_parts (a.id.off % 64 == 0) (nat_le 128 a.id.off) held.0 in
      let even = eqb-true (a.id.off % 64) 0 l.0 in
      let high = leb-true 128 a.id.off l.1 in
      ap (λ n. 64 * n + 64) o.at ∙ omega (arith, even, high)

  room : (B : Block) → 64 + may.size ≤ block_bytes s.view B → 8 + a.off / 8 < words_in s.view B
  room (Small c i) fits = let i_ = may.inside in let e = may.aligned in omega (arith, fits, i_, e)
  room (Big f) fits = let i_ = may.inside in let e = may.aligned in omega (arith, fits, i_, e)
  room Root fits = let i_ = may.inside in absurd (omega (arith, fits))

  sized : value_in s.view (8 * header_in s.view.fixed.shape s.view.claims o.block + 1) ≡ Some may.size
  sized = let h = header_at in ap (value_in s.view) (let e : 8 * header_in s.view.fixed.shape s.view.claims o.block + 1 ≡ a.id.off / 8 - 7 = omega (arith, h) in e) ∙ may.sized

  pub set_at : IsSetAt s.view a
  set_at = record {
    block = o.block;
    word = is;
    here_ = and_from (has_found s.view o.block) (locked s.view.claims (header_in s.view.fixed.shape s.view.claims o.block)) o.found (ap (locked s.view.claims) o.at ∙ lock_held s.view s.locks at.held a.id.off may.locked);
    at = header_at;
    number = number;
    use_ = ap (place_in s.view) (sym number) ∙ (object_place s.view at.sound o.block (8 + a.off / 8) is).use_;
  }
    where
      is : IsObjectWord s.view o.block (8 + a.off / 8)
      is = record { found = o.found; inside = o.inside; within = room o.block (at.sizes o.block may.size o.found o.inside sized); kind = inr (omega arith) }

      number : word_of s.view.fixed.shape (word_place s.view o.block (8 + a.off / 8)) ≡ (a.id.off + a.off) / 8
      number = word_number s.view at.sound o.block (8 + a.off / 8) is ∙ (let h = header_at in omega (arith, h))

  -- THE LANE MAY ENTER IT
  pub can_enter : CanEnter s.view (set_entry a)
  can_enter = record {
    place = word_place s.view set_at.block (8 + a.off / 8);
    at = set_at.use_;
    may = enters_at s.view at.sound set_at.block (8 + a.off / 8) a.value set_at.word (omega arith) set_at.here_;
    gives = gives_some (word_place s.view set_at.block (8 + a.off / 8)) a.value (object_place s.view at.sound set_at.block (8 + a.off / 8) set_at.word).data_;
    aligned = let h = header_at in let e = may.aligned in omega (arith, h, e);
    small = may.small;
  }

module _ (s : Standing) (level : ℕ) (at : IsAt s level) where
  pub can_enter_all : (sets : List SetWord) → AllByRecursion (MaySet s) sets → AllByRecursion (CanEnter s.view) (map set_entry sets)
  can_enter_all [] all = tt
  can_enter_all (a ∷ sets) all = (can_enter s level at a all.0, can_enter_all sets all.1)
