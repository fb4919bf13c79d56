-- A RANGE IS LOOKED AT, word by word: the lane stays at work, has the range still, and knows each word that it looked at.
use Rattle.std.proofs.Common.{◌≡◌, ℕ, ◌+◌, ◌-◌, ◌/◌, ◌^◌, ◌<◌, ◌≤◌, ⊎_elim, Bool, true, false, Contains, length, refl, sym, ap, ◌∙◌, subst, arith, Some}
use Rattle.std.proofs.Math.Nat.{eq-or-lt_of_le}
use Rattle.pm_layout.specs.Chunks.{words_of}
use Rattle.pm_model.specs.Transaction.{covered_words}
use Rattle.pm_objects.specs.declared.calls.Operation.{Operation}
use Rattle.pm_objects.specs.declared.calls.Operation.TheVariants.{AddRange, Read}
use Rattle.pm_objects.specs.declared.ids.Oid.{Oid}
use Rattle.pm_view.specs.Steps.Step.{Load}
use Rattle.pm_view.specs.View.{View}
use Rattle.pm_view.specs.Views.{after, value_in}
use Rattle.pm_world.specs.InWorld.{InWorld}
use Rattle.pm_world.specs.LaneFields.{Standing, Works, moved}
use Rattle.pm_world.specs.declared.lane.Lane.{Lane}
use Rattle.pm_crash.specs.Looked.{word_place}
use Rattle.pm_crash.proofs.Covered.{covered_has_byte}
use Rattle.pm_plan.proofs.AreaParts.{in_pool}
use Rattle.pm_call.specs.At.{At}
use Rattle.pm_call.specs.Did.{After}
use Rattle.pm_call.specs.Held.{Looks, LooksAt}
use Rattle.pm_call.specs.Ranges.{HasRange, HasSeen, IsRangeOf, KnowsWord, KnowsWords}
use Rattle.pm_call.proofs.AddedLanes.{at_once}
use Rattle.pm_call.proofs.Calls.{after_then}
use Rattle.pm_call.proofs.Looking.{looked_at, looked_value, looked_values}
use Rattle.pm_call.proofs.LooksInWorlds.{look_at}
use Rattle.pm_call.proofs.ObjectWords.{object_place}
use Rattle.pm_call.proofs.RangeWords.{index, object, range_number, range_word}
use Rattle.pm_call.proofs.RangeWrites.{below_top}

-- an operation that asks for such a range
pub an_operation : (id : Oid) (off len : ℕ) (write : Bool) → (op : Operation) × IsRangeOf op id off len write
an_operation id off len true = (AddRange id off len, (refl, refl, refl, refl))
an_operation id off len false = (Read id off len, (refl, refl, refl, refl))

-- ---- one word

module _ (s : Standing) (stands : At s) (id : Oid) (off len : ℕ) (write : Bool) (range : HasRange s id off len write) (w : ℕ) (c : Contains (covered_words (id.off + off) len) w) where
  pub word_inside : w < words_of s.view.fixed.shape
  word_inside =
      let p = object_place s.view stands.sound (object s stands id off len write range).block (index s stands id off len write range w) (range_word s stands id off len write range w c) in
      subst (λ n. n < words_of s.view.fixed.shape) (range_number s stands id off len write range w c)
      (in_pool s.view.fixed.shape (word_place s.view (object s stands id off len write range).block (index s stands id off len write range w)) p.data_ p.there)

  module _ (x : ℕ) (world : InWorld s.view w x) where
    abbrev pub then : Standing
    then = moved s (after s.view (Load w x))

    abbrev pub look : LooksAt s.view (after s.view (Load w x))
    look = look_at s.view (object s stands id off len write range).block (index s stands id off len write range w) w x stands.sound (range_word s stands id off len write range w c) (range_number s stands id off len write range w c) world

    pub then_at : At (moved s (after s.view (Load w x)))
    then_at = looked_at s s.level stands (after s.view (Load w x)) look

    pub then_value : value_in (after s.view (Load w x)) w ≡ Some x
    then_value = ap (value_in (after s.view (Load w x))) (sym (range_number s stands id off len write range w c)) ∙ looked_value s s.level stands (after s.view (Load w x)) look

    pub then_stays : (u z : ℕ) → value_in s.view u ≡ Some z → value_in (after s.view (Load w x)) u ≡ Some z
    then_stays u z e = looked_values s s.level stands (after s.view (Load w x)) look u z e

    pub then_range : HasRange (moved s (after s.view (Load w x))) id off len write
    then_range = record { pool = range.pool; locked = range.locked; size = range.size; sized = then_stays (id.off / 8 - 7) range.size range.sized; small = range.small; inside = range.inside }

-- it was looked at, and then this holds
pub after_look : (s : Standing) (next : View) (P : Standing → Type 0) → LooksAt s.view next → P (moved s next) → After s P
unfolding Looks
after_look s next P l p = record { looks = 1; view = next; looked = (next, l, refl); holds = p }

-- ---- the first so many words

abbrev pub KnowsFirst : View → ℕ → ℕ → Type 0
KnowsFirst v first n = (k : ℕ) → k < n → KnowsWord v (first + k)

first_more : (v next : View) (first n x : ℕ) → x < 2 ^ 64 → ((u z : ℕ) → value_in v u ≡ Some z → value_in next u ≡ Some z) → value_in next (first + n) ≡ Some x → KnowsFirst v first n → KnowsFirst next first (n + 1)
first_more v next first n x small stays value known k low = ⊎_elim
    (λ (last : k ≡ n). record { value = x; known = ap (λ j. value_in next (first + j)) last ∙ value; small = small })
    (λ (front : k < n). let o = known k front in record { value = o.value; known = stays (first + k) o.value o.known; small = o.small })
    (eq-or-lt_of_le (let e : k ≤ n = omega (arith, low) in e))

pub all_known : (v : View) (place len : ℕ) → KnowsFirst v (place / 8) (length (covered_words place len)) → KnowsWords v place len
all_known v place len known w c =
    let high = (covered_has_byte place len w c).2 in
    let top = below_top place len w c in
    subst (KnowsWord v) (let e : place / 8 + (w - place / 8) ≡ w = omega (arith, high) in e) (known (w - place / 8) (omega (arith, high, top)))

module _ {M : Type 0} (at : M → View → Type 0) where
  -- the first so many words of the range were looked at
  pub record HasSeenFirst (lane : Lane M) (id : Oid) (off len : ℕ) (write : Bool) (n : ℕ) (t : Standing) : Type 0 where
    pub range : HasRange t id off len write
    pub first : KnowsFirst t.view ((id.off + off) / 8) n
    pub works : Works at lane t
    pub stands : At t

  pub none_seen : (lane : Lane M) (id : Oid) (off len : ℕ) (write : Bool) (s : Standing) → Works at lane s → At s → HasRange s id off len write → After s (HasSeenFirst lane id off len write 0)
  none_seen lane id off len write s works stands range = at_once s (HasSeenFirst lane id off len write 0) (record { range = range; first = λ k low. absurd (omega (arith, low)); works = works; stands = stands })

  -- one more
  pub one_seen : (lane new : Lane M) (id : Oid) (off len : ℕ) (write : Bool) (n x : ℕ) (t : Standing) → HasSeenFirst lane id off len write n t → Contains (covered_words (id.off + off) len) ((id.off + off) / 8 + n) → x < 2 ^ 64
      → InWorld t.view ((id.off + off) / 8 + n) x → Works at new (moved t (after t.view (Load ((id.off + off) / 8 + n) x))) → HasSeenFirst new id off len write (n + 1) (moved t (after t.view (Load ((id.off + off) / 8 + n) x)))
  one_seen lane new id off len write n x t h c small world works =
      let w : ℕ = (id.off + off) / 8 + n in
      record {
        range = then_range t h.stands id off len write h.range w c x world;
        first = first_more t.view (after t.view (Load w x)) ((id.off + off) / 8) n x small (then_stays t h.stands id off len write h.range w c x world) (then_value t h.stands id off len write h.range w c x world) h.first;
        works = works;
        stands = then_at t h.stands id off len write h.range w c x world;
      }

  -- a look at the next word, wherever the looks so far led
  pub see_more : (lane new : Lane M) (id : Oid) (off len : ℕ) (write : Bool) (n x : ℕ) (s : Standing) → (a : After s (HasSeenFirst lane id off len write n)) → Contains (covered_words (id.off + off) len) ((id.off + off) / 8 + n) → x < 2 ^ 64
      → InWorld a.view ((id.off + off) / 8 + n) x → Works at new (moved s (after a.view (Load ((id.off + off) / 8 + n) x))) → After s (HasSeenFirst new id off len write (n + 1))
  see_more lane new id off len write n x s a c small world works =
      let t : Standing = moved s a.view in
      let w : ℕ = (id.off + off) / 8 + n in
      after_then s (HasSeenFirst new id off len write (n + 1)) (record {
        looks = a.looks;
        view = a.view;
        looked = a.looked;
        holds = after_look t (after a.view (Load w x)) (HasSeenFirst new id off len write (n + 1)) (look t a.holds.stands id off len write a.holds.range w c x world) (one_seen lane new id off len write n x t a.holds c small world works);
      })

  -- all of them
  pub all_seen : (lane : Lane M) (id : Oid) (off len : ℕ) (write : Bool) (n : ℕ) (s : Standing) → n ≡ length (covered_words (id.off + off) len) → After s (HasSeenFirst lane id off len write n) → After s (λ t. HasSeen t id off len write × Works at lane t × At t)
  all_seen lane id off len write n s e a = record {
    looks = a.looks;
    view = a.view;
    looked = a.looked;
    holds = (record { range = a.holds.range; words = all_known a.view (id.off + off) len (subst (KnowsFirst a.view ((id.off + off) / 8)) e a.holds.first) }, a.holds.works, a.holds.stands);
  }
