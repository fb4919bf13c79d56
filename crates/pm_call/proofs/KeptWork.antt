-- A LANE AT WORK THAT HAS AND KNOWS WHAT IT DID, in a world: what it recorded is data of objects
-- that it finds still, and its call goes on.
use Rattle.std.proofs.Common.{◌≡◌, ⊎_elim, inl, inr, ℕ, ◌+◌, ◌*◌, ◌-◌, ◌/◌, ◌%◌, ◌<◌, nat_le, Bool, true, false, cond, ◌==◌, ◌&&◌, List, [], ◌∷◌, refl, sym, ap, ◌∙◌, subst, arith, Option, None, Some}
use Rattle.std.specs.List.{AllByRecursion}
use Rattle.std.specs.Option.{option_map}
use Rattle.std.proofs.lemmas.Bool.{and_from, and_parts, and_right, eqb-true, leb-true, both_ways, cond-false, or_right}
use Rattle.pm_layout.specs.Areas.{word_of_generation, word_of_seal}
use Rattle.pm_view.specs.Claims.{Claim, class, found, header_in, is_held_at, mine}
use Rattle.pm_view.specs.Entries.{first_of_two}
use Rattle.pm_view.specs.Log.{Recorded, old_in, old_of, place_at}
use Rattle.pm_view.specs.Places.{Place, Block, Small, Big, Root, is_data, place_after, word_of}
use Rattle.pm_view.specs.Steps.{Step}
use Rattle.pm_view.specs.View.{View}
use Rattle.pm_view.specs.Views.{value_in}
use Rattle.pm_world.specs.InWorld.{IsSound}
use Rattle.pm_world.specs.LaneFields.{Standing}
use Rattle.pm_world.specs.Memory.{bit}
use Rattle.pm_world.specs.Sights.{is_pictured, is_recorded, picture}
use Rattle.pm_world.specs.States.{given}
use Rattle.pm_crash.specs.Footprints.{has_found}
use Rattle.pm_crash.specs.Looked.{KnowsSize, size_seen, word_place, words_in}
use Rattle.pm_crash.specs.Sim.{Sim, SameBits, change_so_far}
use Rattle.pm_crash.proofs.Simulation.{sim_stays}
use Rattle.pm_plan.specs.Notes.{IsBeyond}
use Rattle.pm_plan.proofs.AreaParts.{no_place, place_outside}
use Rattle.pm_undo.specs.Working.{IsStanding, IsWorking}
use Rattle.pm_undo.proofs.Putting.{old_at}
use Rattle.pm_lock.specs.Objects.{has}
use Rattle.pm_call.specs.At.{IsDataOf, entries_so_far}
use Rattle.pm_call.specs.Locking.{CanLock}
use Rattle.pm_call.specs.Held.{HasObject, IsObjectWord, KnowsOwn, has_line, line_of}
use Rattle.pm_call.proofs.KeptClaims.{KeepsAll}
use Rattle.pm_call.proofs.KeptGrows.{KeepsPictures, keeps_grows, locking}
use Rattle.pm_call.proofs.KnownObjects.{fresh_is, size_known, size_word, word_number}
use Rattle.pm_call.proofs.Noting.{header_line, offset_line}
use Rattle.pm_call.proofs.ObjectWords.{object_place}

-- the word of a lane's seal is no place
seal_no_place : (sh : Rattle.pm_layout.specs.declared.shape.Shape.Shape) (cl : ℕ → ℕ) (lane : ℕ) → lane < sh.lanes → place_at sh cl (word_of_seal sh lane) ≡ None
seal_no_place sh cl lane low = go (place_at sh cl (word_of_seal sh lane)) refl
  where
    go : (o : Option Place) → place_at sh cl (word_of_seal sh lane) ≡ o → o ≡ None
    go None e = refl
    go (Some p) e = absurd (⊎_elim (λ (root : word_of_seal sh lane ≡ 64). let r = root in omega (arith, r)) (λ (far : IsBeyond sh (word_of_seal sh lane)). omega (arith, far, low)) (place_outside sh lane (word_of_seal sh lane) cl p e))

module _ (s : Standing) (at : CanLock s) (t : List Claim) (seen : List Step) (k : KeepsAll s.view t) (own : KnowsOwn s.view) (sound : IsSound (locking s.view t seen)) (pics : KeepsPictures s.view t) where
  abbrev v : View
  v = s.view

  abbrev next : View
  next = locking s.view t seen

  pub generation_on : value_in next (word_of_generation v.fixed.shape v.fixed.lane) ≡ Some v.log.generation
  generation_on = k.beside (word_of_generation v.fixed.shape v.fixed.lane) (λ cl. no_place v.fixed.shape cl v.fixed.lane at.working.lane) ∙ at.working.known

  pub seal_on : value_in next (word_of_seal v.fixed.shape v.fixed.lane) ≡ Some 0
  seal_on = k.beside (word_of_seal v.fixed.shape v.fixed.lane) (λ cl. seal_no_place v.fixed.shape cl v.fixed.lane at.working.lane) ∙ at.sealed

  -- ---- words of objects that it found
  place_on : (B : Block) (i : ℕ) → has_found v B ≡ true → word_place next B i ≡ word_place v B i
  place_on (Small c l) i f = λ j. Rattle.pm_view.specs.Places.InRun c (8 * (1 + k.class_same c (at.sound.small c l f).0 j * l) + i)
  place_on (Big h) i f = refl
  place_on Root i f = refl

  words_on : (B : Block) → has_found v B ≡ true → words_in next B ≡ words_in v B
  words_on (Small c l) f = λ j. 8 * k.class_same c (at.sound.small c l f).0 j
  words_on (Big h) f = λ j. 512 * k.span_same h (or_right (mine v.fixed.shape v.claims (Big h)) (found v.fixed.shape v.claims (Big h)) f) j
  words_on Root f = refl

  header_on : (B : Block) → has_found v B ≡ true → header_in v.fixed.shape t B ≡ header_in v.fixed.shape v.claims B
  header_on (Small c l) f = λ j. Rattle.pm_layout.specs.Chunks.line_of_chunk v.fixed.shape c + (1 + k.class_same c (at.sound.small c l f).0 j * l)
  header_on (Big h) f = refl
  header_on Root f = refl

  pub object_on : (line : ℕ) → HasObject v line → HasObject next line
  object_on line o = record { block = o.block; found = k.found_on o.block o.found; at = header_on o.block o.found ∙ o.at; inside = o.inside }

  word_on : (B : Block) (i : ℕ) → IsObjectWord v B i
      → (place_at v.fixed.shape (class t) (word_of v.fixed.shape (word_place v B i)) ≡ Some (word_place v B i)) × (value_in next (word_of v.fixed.shape (word_place v B i)) ≡ value_in v (word_of v.fixed.shape (word_place v B i)))
  word_on B i is =
      let a = object_place v at.sound B i is in
      let same = k.data_same (word_of v.fixed.shape (word_place v B i)) (ap (is_held_at v.fixed.shape v.claims) a.use_
      ∙ and_from (is_data (word_place v B i)) (has v (Rattle.pm_view.specs.Places.block_of (Rattle.pm_view.specs.Claims.geometry v.fixed.shape v.claims) (word_place v B i) 64)) a.data_
      (ap (has v) a.block ∙ or_right (mine v.fixed.shape v.claims B) (found v.fixed.shape v.claims B) is.found)) in
      (same.0 ∙ a.use_, same.2)

  size_on : (off : ℕ) (o : KnowsSize v [] off) → has_found v o.block ≡ true → size_seen next off ≡ Some o.size
  size_on off o f =
      let h : HasObject v (header_in v.fixed.shape v.claims o.block) = record { block = o.block; found = f; at = refl; inside = o.object.inside } in
      let is = size_word v at.sound (header_in v.fixed.shape v.claims o.block) h in
      let n = word_number v at.sound o.block 1 is in
      let e : off / 8 - 7 ≡ word_of v.fixed.shape (word_place v o.block 1) = (let a = o.at in let q : off / 8 - 7 ≡ 8 * header_in v.fixed.shape v.claims o.block + 1 = omega (arith, a) in q) ∙ sym n in
      ap (value_in next) e ∙ ((word_on o.block 1 is).1 ∙ (ap (value_in v) (sym e) ∙ o.seen))

  pub known_size_on : (off : ℕ) (o : KnowsSize v [] off) → has_found v o.block ≡ true → size_seen next off ≡ size_seen v off
  known_size_on off o f = size_on off o f ∙ sym o.seen

  pub held_size_on : (off : ℕ) → has_line off ≡ true → HasObject v (line_of off) → size_seen next off ≡ size_seen v off
  held_size_on off has_ o =
      let is = size_word v at.sound (line_of off) o in
      let n = word_number v at.sound o.block 1 is in
      let both = and_parts (off % 64 == 0) (nat_le 128 off) has_ in
      let even = eqb-true (off % 64) 0 both.0 in let high = leb-true 128 off both.1 in
      let e : off / 8 - 7 ≡ word_of v.fixed.shape (word_place v o.block 1) = (let a = o.at in let q : off / 8 - 7 ≡ 8 * header_in v.fixed.shape v.claims o.block + 1 = omega (arith, a, even, high) in q) ∙ sym n in
      ap (value_in next) e ∙ ((word_on o.block 1 is).1 ∙ ap (value_in v) (sym e))

  data_word : (p : Place) (d : IsDataOf v p) → IsObjectWord v d.object.block d.index
  data_word p d = record { found = d.found; inside = d.object.object.inside; within = d.within; kind = inr d.data_ }

  data_value : (p : Place) (d : IsDataOf v p) → value_in next (word_of v.fixed.shape p) ≡ value_in v (word_of v.fixed.shape p)
  data_value p d = ap (λ q. value_in next (word_of v.fixed.shape q)) d.at ∙ ((word_on d.object.block d.index (data_word p d)).1 ∙ ap (λ q. value_in v (word_of v.fixed.shape q)) (sym d.at))

  data_place : (p : Place) (d : IsDataOf v p) → place_at v.fixed.shape (class t) (word_of v.fixed.shape p) ≡ Some p
  data_place p d = ap (λ q. place_at v.fixed.shape (class t) (word_of v.fixed.shape q)) d.at ∙ ((word_on d.object.block d.index (data_word p d)).0 ∙ ap (λ q. Some q) (sym d.at))

  pub data_on : (p : Place) → IsDataOf v p → IsDataOf next p
  data_on p d =
      let o = d.object in
      let h : HasObject next (line_of d.off) = record { block = o.block; found = k.found_on o.block d.found; at = header_on o.block d.found ∙ header_line v at.sound d.off o d.found; inside = o.object.inside } in
      record {
        off = d.off;
        object = size_known next sound d.off o.size (offset_line v at.sound d.off o d.found) h (size_on d.off o d.found) o.knows.small;
        found = k.found_on o.block d.found;
        index = d.index;
        at = d.at ∙ sym (place_on o.block d.index d.found);
        data_ = d.data_;
        within = subst (λ n. d.index < n) (sym (words_on o.block d.found)) d.within;
        alive = d.alive;
        value = d.value;
        known = data_value p d ∙ d.known;
        small = d.small;
      }

  -- ---- its records may be put back still
  is_one : (r : Recorded) (records : List Recorded) (p : Place) → given (old_in r p) ≡ true → is_recorded (r ∷ records) p ≡ true
  is_one r records p e = by (old_in r p) e
    where
      by : (o : Option ℕ) → given o ≡ true → given (first_of_two o (old_of records p)) ≡ true
      by None e = absurd (both_ways false refl e)
      by (Some x) e = refl

  is_more : (r : Recorded) (records : List Recorded) (p : Place) → is_recorded records p ≡ true → is_recorded (r ∷ records) p ≡ true
  is_more r records p e = by (old_in r p)
    where
      by : (o : Option ℕ) → given (first_of_two o (old_of records p)) ≡ true
      by None = e
      by (Some x) = refl

  standing_on : (records : List Recorded) → ((p : Place) → is_recorded records p ≡ true → IsDataOf v p) → AllByRecursion (IsStanding v) records → AllByRecursion (IsStanding next) records
  standing_on [] data_ all = tt
  standing_on (r ∷ records) data_ all = let one = all.0 in (
    record {
      some = one.some;
      most = one.most;
      data_ = one.data_;
      row = one.row;
      use_ = λ i low. data_place (place_after r.place i) (data_ (place_after r.place i) (is_one r records (place_after r.place i) (ap given (old_at r.place r.old i (one.data_ i low) low))));
      small = one.small;
    },
    standing_on records (λ p e. data_ p (is_more r records p e)) all.1,
  )

  pub working_on : IsWorking next
  working_on = record {
    is_open = at.working.is_open;
    whole = at.working.whole;
    unentered = at.working.unentered;
    below = at.working.below;
    lane = at.working.lane;
    lanes = at.working.lanes;
    zones = at.working.zones;
    unmaking = λ c. k.making_same c ∙ at.working.unmaking c;
    clean = at.working.clean;
    few = at.working.few;
    standing = standing_on v.log.records at.recorded at.working.standing;
    once = at.working.once;
    known = generation_on;
  }

  -- ---- THE BITS STAY, and the call goes on
  same_bits : (q : Place) (b : ℕ) (r : Bool) → is_recorded v.log.records q ≡ r → change_so_far next [] q b ≡ change_so_far v [] q b
  same_bits q b true e = let d = at.recorded q e in
      let same : picture v.fixed.shape t q b ≡ picture v.fixed.shape v.claims q b = ap (λ o. cond (is_pictured q) (option_map (λ x. bit x b) o) None) (data_value q d) in
      fresh_is v.fixed.shape t v.log q b ∙ (ap (λ o. cond (is_data q && is_recorded v.log.records q) o None) same ∙ sym (fresh_is v.fixed.shape v.claims v.log q b))
  same_bits q b false e = let none = and_right (is_data q) (is_recorded v.log.records q) e in
      fresh_is v.fixed.shape t v.log q b ∙ (cond-false (is_data q && is_recorded v.log.records q) (picture v.fixed.shape t q b) None none
      ∙ (sym (cond-false (is_data q && is_recorded v.log.records q) (picture v.fixed.shape v.claims q b) None none) ∙ sym (fresh_is v.fixed.shape v.claims v.log q b)))

  pub bits_on : SameBits s.view (entries_so_far s) next (entries_so_far s)
  bits_on q b = inl (same_bits q b (is_recorded v.log.records q) refl)

  pub sim_on : Sim next (entries_so_far s)
  sim_on = sim_stays s.view next (entries_so_far s) (entries_so_far s) at.sim (record { fixed = refl; entries = refl }) refl (keeps_grows s.view t seen k at.sound sound own pics) bits_on
