-- CHECKS OF A RANGE: what was found is why the operation is refused, or what it asks.
use Rattle.std.proofs.Common.{◌≡◌, ℕ, ◌+◌, ◌*◌, ◌-◌, ◌/◌, ◌%◌, ◌^◌, ◌<◌, ◌≤◌, inl, inr, Bool, true, false, not, ◌==◌, nat_lt, nat_le, List, ◌∷◌, refl, sym, ap, ◌∙◌, subst, arith, Some, Result, Ok, Err}
use Rattle.std.specs.Option.{option_map_or}
use Rattle.std.proofs.lemmas.Bool.{and_parts, both_ways, eqb-true, leb-true, lt-ltb, false_from_ne_true}
use Rattle.pm_layout.specs.Chunks.{words_of}
use Rattle.pm_objects.specs.declared.calls.Operation.{Operation}
use Rattle.pm_objects.specs.declared.ids.Oid.{Oid}
use Rattle.pm_objects.specs.declared.refusal.Refusal.{Refusal}
use Rattle.pm_objects.specs.declared.refusal.Refusal.TheVariants as refusal
use Rattle.pm_model.specs.Refusals.{first_of}
use Rattle.pm_view.specs.Places.{word_of}
use Rattle.pm_view.specs.Steps.Step.{Load}
use Rattle.pm_view.specs.View.{View}
use Rattle.pm_view.specs.Views.{after, value_in}
use Rattle.pm_world.specs.InWorld.{InWorld}
use Rattle.pm_world.specs.LaneFields.{Standing, Works, moved}
use Rattle.pm_world.specs.declared.lane.Lane.{Lane}
use Rattle.pm_crash.specs.Looked.{size_seen, word_place}
use Rattle.pm_plan.proofs.AreaParts.{in_pool}
use Rattle.pm_call.specs.At.{At}
use Rattle.pm_call.specs.Did.{After, Found}
use Rattle.pm_call.specs.Held.{HasObject, IsObjectWord, Looks, LooksAt, has_line, is_in_locks, line_of}
use Rattle.pm_call.specs.Ranges.{HasRange, IsRangeOf, Judged, is_held_so, own_tests, size_or_none}
use Rattle.pm_call.proofs.KnownObjects.{held_object, size_word, word_number}
use Rattle.pm_call.proofs.Looking.{looked_at, looked_value}
use Rattle.pm_call.proofs.ObjectWords.{object_place}
use Rattle.pm_call.proofs.RangeRefusals.{held_so, range_refusals, ranges_are_looked_at}
use Rattle.pm_call.proofs.LooksInWorlds.{look_at}

-- the first test applies; the second does
first_applies : (r : Refusal) (b : Bool) (tests : List (Refusal × Bool)) → b ≡ true → first_of ((r, b) ∷ tests) ≡ Some r
unfolding first_of
first_applies r b tests e = λ i. first_of ((r, e i) ∷ tests)

second_applies : (r q : Refusal) (b c : Bool) (tests : List (Refusal × Bool)) → b ≡ false → c ≡ true → first_of ((r, b) ∷ (q, c) ∷ tests) ≡ Some q
unfolding first_of
second_applies r q b c tests e d = λ i. first_of ((r, e i) ∷ (q, d i) ∷ tests)

-- ---- the lane does not hold the object at all
pub not_held_at_all : {M : Type 0} (at : M → View → Type 0) (lane : Lane M) (s : Standing) (op : Operation) (id : Oid) (off len : ℕ) (write : Bool) (Q : Standing → Unit {0} → Type 0)
    → Works at lane s → At s → IsRangeOf op id off len write → is_held_so s id false ≡ false → After s (Found at lane Q op (Err refusal.NotLocked))
unfolding Looks
not_held_at_all at lane s op id off len write Q works stands is none = record {
  looks = 0;
  view = s.view;
  looked = refl;
  holds = (
    record {
      looks = ranges_are_looked_at s op id off len write stands is (inr none);
      first = range_refusals s op id off len write stands is ∙ first_applies refusal.NotLocked (not (is_held_so s id write)) _ (ap not (false_from_ne_true (is_held_so s id write) (λ e. both_ways (is_held_so s id false) none (held_so s stands id write e))));
    },
    works,
    stands,
  );
}

-- ---- it holds the object for reading at least, and looks at its size
module _ (s : Standing) (stands : At s) (id : Oid) (held : is_in_locks s.locks id.off false ≡ true) where
  abbrev pub size_at : ℕ
  size_at = id.off / 8 - 7

  abbrev object : HasObject s.view (line_of id.off)
  object = (held_object s.view s.locks stands.held id.off false held).1

  line : has_line id.off ≡ true
  line = (held_object s.view s.locks stands.held id.off false held).0

  even : id.off % 64 ≡ 0
  even = eqb-true (id.off % 64) 0 (and_parts (id.off % 64 == 0) (nat_le 128 id.off) line).0

  high : 128 ≤ id.off
  high = leb-true 128 id.off (and_parts (id.off % 64 == 0) (nat_le 128 id.off) line).1

  abbrev own : IsObjectWord s.view (held_object s.view s.locks stands.held id.off false held).1.block 1
  own = size_word s.view stands.sound (line_of id.off) (held_object s.view s.locks stands.held id.off false held).1

  word : word_of s.view.fixed.shape (word_place s.view object.block 1) ≡ id.off / 8 - 7
  word = word_number s.view stands.sound object.block 1 own ∙ (ap (λ l. 8 * l + 1) object.at ∙ (let e = even in let h = high in omega (arith, e, h)))

  pub size_inside : id.off / 8 - 7 < words_of s.view.fixed.shape
  size_inside = let p = object_place s.view stands.sound object.block 1 own in subst (λ w. w < words_of s.view.fixed.shape) word (in_pool s.view.fixed.shape (word_place s.view object.block 1) p.data_ p.there)

  module _ (size : ℕ) (small : size < 2 ^ 64) (world : InWorld s.view (id.off / 8 - 7) size) where
    abbrev pub seen : View
    seen = after s.view (Load (id.off / 8 - 7) size)

    abbrev look : LooksAt s.view (after s.view (Load (id.off / 8 - 7) size))
    look = look_at s.view object.block 1 (id.off / 8 - 7) size stands.sound own word world

    pub seen_at : At (moved s (after s.view (Load (id.off / 8 - 7) size)))
    seen_at = looked_at s s.level stands seen look

    pub sized : size_seen (after s.view (Load (id.off / 8 - 7) size)) id.off ≡ Some size
    sized = ap (value_in seen) (sym word) ∙ looked_value s s.level stands seen look

    module _ {M : Type 0} (at : M → View → Type 0) (lane : Lane M) (works : Works at lane (moved s (after s.view (Load (id.off / 8 - 7) size)))) (op : Operation) (off len : ℕ) (write : Bool) (Q : Standing → Unit {0} → Type 0) (is : IsRangeOf op id off len write) where
      abbrev t : Standing
      t = moved s (after s.view (Load (id.off / 8 - 7) size))

      found : (result : Result (Unit {0}) Refusal) → Found at lane Q op result t → After s (Found at lane Q op result)
      unfolding Looks
      found result f = record { looks = 1; view = seen; looked = (seen, look, refl); holds = f }

      pub not_held_so : is_held_so t id write ≡ false → After s (Found at lane Q op (Err refusal.NotLocked))
      not_held_so none = found (Err refusal.NotLocked) (
        record {
          looks = ranges_are_looked_at t op id off len write seen_at is (inl (record { size = size; sized = sized; small = small }));
          first = range_refusals t op id off len write seen_at is ∙ first_applies refusal.NotLocked (not (is_held_so t id write)) _ (ap not none);
        },
        works,
        seen_at,
      )

      pub past_end : is_held_so t id write ≡ true → size < off + len → After s (Found at lane Q op (Err refusal.OutOfRange))
      past_end has past = found (Err refusal.OutOfRange) (
        record {
          looks = ranges_are_looked_at t op id off len write seen_at is (inl (record { size = size; sized = sized; small = small }));
          first = range_refusals t op id off len write seen_at is ∙ second_applies refusal.NotLocked refusal.OutOfRange (not (is_held_so t id write)) (nat_lt (size_or_none t.view id.off) (off + len)) (own_tests t op) (ap not has)
              (ap (λ o. nat_lt (option_map_or (λ n. n) o 0) (off + len)) sized ∙ lt-ltb size (off + len) past);
        },
        works,
        seen_at,
      )

      pub range_had : (is_held_so t id write ≡ true) → off + len ≤ size → (HasRange t id off len write → Q t tt) → After s (Found at lane Q op (Ok tt))
      range_had has inside q = found (Ok tt) (
        q (record {
          pool = eqb-true id.pool t.view.fixed.pool (and_parts (id.pool == t.view.fixed.pool) (is_in_locks t.locks id.off write) has).0;
          locked = (and_parts (id.pool == t.view.fixed.pool) (is_in_locks t.locks id.off write) has).1;
          size = size;
          sized = sized;
          small = small;
          inside = inside;
        }),
        works,
        seen_at,
      )

      -- so it is, whatever it comes to
      by_judgement : (result : Result (Unit {0}) Refusal) → Judged (is_held_so t id write) size off len result → (HasRange t id off len write → Q t tt) → After s (Found at lane Q op result)
      by_judgement (Ok tt) j q = range_had j.0 j.1 q
      by_judgement (Err refusal.NotLocked) j q = not_held_so j
      by_judgement (Err refusal.OutOfRange) j q = past_end j.0 j.1
      by_judgement (Err r) j q = absurd j

      pub judged : (result : Result (Unit {0}) Refusal) (held : Bool) → held ≡ is_held_so t id write → Judged held size off len result → (HasRange t id off len write → Q t tt) → After s (Found at lane Q op result)
      judged result held is j q = by_judgement result (subst (λ b. Judged b size off len result) is j) q
