-- THE ENTRIES ARE LOOKED AT, one by one: the lane stays at work, and knows each word that it published.
use Rattle.std.proofs.Common.{◌≡◌, ℕ, zero, suc, ◌+◌, ◌/◌, ◌^◌, ◌<◌, ◌≤◌, ⊎_elim, List, [], ◌∷◌, length, map, refl, sym, ap, ◌∙◌, subst, arith, Result}
use Rattle.std.specs.List.{AllByRecursion}
use Rattle.std.proofs.Math.Nat.{eq-or-lt_of_le}
use Rattle.pm_layout.specs.Chunks.{words_of}
use Rattle.pm_memory.specs.declared.lane_mem.Stopped.{Stopped}
use Rattle.pm_model.specs.Pending.{SetWord}
use Rattle.pm_record.specs.declared.redo.Redo.{Redo}
use Rattle.pm_view.specs.Places.{Block, word_of}
use Rattle.pm_view.specs.Steps.Step.{Load}
use Rattle.pm_view.specs.View.{View}
use Rattle.pm_view.specs.Views.{after, value_in}
use Rattle.pm_world.specs.InWorld.{InWorld}
use Rattle.pm_world.specs.LaneFields.{Fields, Standing, Works, at_work, moved}
use Rattle.pm_world.specs.declared.lane.Lane.{Lane}
use Rattle.pm_crash.specs.Looked.{word_place}
use Rattle.pm_crash.specs.Sim.{lists_of}
use Rattle.pm_plan.proofs.AreaParts.{in_pool}
use Rattle.pm_redo.specs.Entries.{entry_at}
use Rattle.pm_call.specs.At.{At, MaySet, set_entry}
use Rattle.pm_call.specs.Commits.{CallCommitted, Committed, KnowsEntries, LookedAtEntries}
use Rattle.pm_call.specs.Did.{After, IsAtSo}
use Rattle.pm_call.specs.Held.{IsObjectWord, LooksAt}
use Rattle.pm_call.specs.Ranges.{KnowsWord}
use Rattle.pm_call.proofs.AddedLanes.{at_once}
use Rattle.pm_call.proofs.Calls.{after_then}
use Rattle.pm_call.proofs.Looking.{looked_at, looked_value, looked_values}
use Rattle.pm_call.proofs.LooksInWorlds.{look_at}
use Rattle.pm_call.proofs.ObjectWords.{object_place}
use Rattle.pm_call.proofs.RangeLooks.{after_look}
use Rattle.pm_call.proofs.SetEntries.{IsSetAt, set_at}

-- ---- lists, by their indices

at_index : (P : Redo → Type 0) (xs : List Redo) (k : ℕ) → AllByRecursion P xs → k < length xs → P (entry_at xs k)
at_index P [] k all low = absurd (omega (arith, low))
at_index P (x ∷ xs) zero all low = all.0
at_index P (x ∷ xs) (suc k) all low = at_index P xs k all.1 (omega (arith, low))

from_index : (P : Redo → Type 0) (xs : List Redo) → ((k : ℕ) → k < length xs → P (entry_at xs k)) → AllByRecursion P xs
from_index P [] each = tt
from_index P (x ∷ xs) each = (each 0 (omega arith), from_index P xs (λ k low. each (suc k) (omega (arith, low))))

-- ---- the word of an entry

pub record MayLook (v : View) (w : ℕ) : Type 0 where
  pub block : Block
  pub index : ℕ
  pub word : IsObjectWord v block index
  pub number : word_of v.fixed.shape (word_place v block index) ≡ w
  pub inside : w < words_of v.fixed.shape

module _ (s : Standing) (is : At s) where
  may_look : (a : SetWord) → MaySet s a → MayLook s.view ((set_entry a).place / 8)
  may_look a may =
      let set : IsSetAt s.view a = set_at s s.level is a may in
      let p = object_place s.view is.sound set.block (8 + a.off / 8) set.word in
      record {
        block = set.block;
        index = 8 + a.off / 8;
        word = set.word;
        number = set.number;
        inside = subst (λ n. n < words_of s.view.fixed.shape) set.number (in_pool s.view.fixed.shape (word_place s.view set.block (8 + a.off / 8)) p.data_ p.there);
      }

  may_look_all : (sets : List SetWord) → AllByRecursion (MaySet s) sets → AllByRecursion (λ (e : Redo). MayLook s.view (e.place / 8)) (map set_entry sets)
  may_look_all [] all = tt
  may_look_all (a ∷ sets) all = (may_look a all.0, may_look_all sets all.1)

  pub entry_word : (k : ℕ) → k < length s.entries → MayLook s.view ((entry_at s.entries k).place / 8)
  entry_word k low = at_index (λ (e : Redo). MayLook s.view (e.place / 8)) s.entries k
      (subst (AllByRecursion (λ (e : Redo). MayLook s.view (e.place / 8))) (sym is.lists.sets) (may_look_all (lists_of s.view).sets is.lists.may_set)) low

-- ---- the first so many were looked at

pub record SeenFirst (at : View → Type 0) (f : Fields) (n : ℕ) (t : Standing) : Type 0 where
  pub first : (k : ℕ) → k < n → KnowsWord t.view ((entry_at t.entries k).place / 8)
  pub memory : at t.view
  pub stands : At t
  pub fields : at_work t ≡ f

pub none_seen : (at : View → Type 0) (s : Standing) → at s.view → At s → After s (SeenFirst at (at_work s) 0)
none_seen at s seen is = at_once s (SeenFirst at (at_work s) 0) (record { first = λ k low. absurd (omega (arith, low)); memory = seen; stands = is; fields = refl })

-- one more
one_seen : (at new : View → Type 0) (f : Fields) (n x : ℕ) (t : Standing) → SeenFirst at f n t → (m : MayLook t.view ((entry_at t.entries n).place / 8)) → x < 2 ^ 64 → InWorld t.view ((entry_at t.entries n).place / 8) x
    → new (after t.view (Load ((entry_at t.entries n).place / 8) x)) → After t (SeenFirst new f (n + 1))
one_seen at new f n x t h m small world seen = after_look t next (SeenFirst new f (n + 1)) look (record { first = first; memory = seen; stands = looked_at t t.level h.stands next look; fields = h.fields })
  where
    w : ℕ
    w = (entry_at t.entries n).place / 8

    next : View
    next = after t.view (Load ((entry_at t.entries n).place / 8) x)

    look : LooksAt t.view (after t.view (Load ((entry_at t.entries n).place / 8) x))
    look = look_at t.view m.block m.index ((entry_at t.entries n).place / 8) x h.stands.sound m.word m.number world

    first : (k : ℕ) → k < n + 1 → KnowsWord (after t.view (Load ((entry_at t.entries n).place / 8) x)) ((entry_at t.entries k).place / 8)
    first k low = ⊎_elim
        (λ (last : k ≡ n). subst (λ j. KnowsWord next ((entry_at t.entries j).place / 8)) (sym last)
        (record { value = look.value; known = ap (value_in next) (sym m.number ∙ refl) ∙ looked_value t t.level h.stands next look; small = look.small }))
        (λ (front : k < n). let o = h.first k front in record { value = o.value; known = looked_values t t.level h.stands next look ((entry_at t.entries k).place / 8) o.value o.known; small = o.small })
        (eq-or-lt_of_le (let e : k ≤ n = omega (arith, low) in e))

pub see_more : (at new : View → Type 0) (f : Fields) (n x : ℕ) (s : Standing) (es : List Redo) → s.entries ≡ es → (a : After s (SeenFirst at f n)) → n < length es → x < 2 ^ 64 → InWorld a.view ((entry_at es n).place / 8) x
    → new (after a.view (Load ((entry_at es n).place / 8) x)) → After s (SeenFirst new f (n + 1))
see_more at new f n x s es are a = subst (λ (ds : List Redo). n < length ds → x < 2 ^ 64 → InWorld a.view ((entry_at ds n).place / 8) x → new (after a.view (Load ((entry_at ds n).place / 8) x)) → After s (SeenFirst new f (n + 1))) are
    (λ low small world seen. after_then s (SeenFirst new f (n + 1)) (record {
      looks = a.looks;
      view = a.view;
      looked = a.looked;
      holds = one_seen at new f n x (moved s a.view) a.holds (entry_word (moved s a.view) a.holds.stands n low) small world seen;
    }))

pub entry_inside : (s : Standing) → At s → (es : List Redo) → s.entries ≡ es → (n : ℕ) → n < length es → (entry_at es n).place / 8 < words_of s.view.fixed.shape
entry_inside s is es are n = subst (λ (ds : List Redo). n < length ds → (entry_at ds n).place / 8 < words_of s.view.fixed.shape) are (λ low. (entry_word s is n low).inside)

-- all of them
pub all_seen : (at : View → Type 0) (n : ℕ) (s : Standing) → n ≡ length s.entries → After s (SeenFirst at (at_work s) n) → After s (λ t. KnowsEntries t × at t.view × At t × (at_work t ≡ at_work s))
all_seen at n s e a = record {
  looks = a.looks;
  view = a.view;
  looked = a.looked;
  holds = (from_index (λ (d : Redo). KnowsWord a.view (d.place / 8)) s.entries (λ k low. a.holds.first k (subst (λ m. k < m) (sym e) low)), a.holds.memory, a.holds.stands, a.holds.fields);
}

-- ---- so a lane does
module _ {M : Type 0} (at : M → View → Type 0) (old : Lane M) where
  pub lane_entries : (s : Standing) → Works at old s → s.entries ≡ old.entries.items
  lane_entries s works = sym (ap (λ (f : Fields). f.entries) works.fields)

  pub lane_looked : (new : M) (es : List Redo) → old.entries.items ≡ es → ((s : Standing) → at old.memory s.view → At s → s.entries ≡ es → After s (λ t. KnowsEntries t × at new t.view × At t × (at_work t ≡ at_work s))) → LookedAtEntries at old (record old { memory = new })
  unfolding LookedAtEntries
  lane_looked new es are looked s works is =
      let a = looked s works.memory is (lane_entries s works ∙ are) in
      record { looks = a.looks; view = a.view; looked = a.looked; holds = (a.holds.0, record { memory = a.holds.1; fields = works.fields ∙ sym a.holds.3 }, a.holds.2) }

  pub looked_so : (mid : Lane M) → IsAtSo at old (λ s. s.level ≡ 1) → LookedAtEntries at old mid → IsAtSo at mid (λ s. (s.level ≡ 1) × KnowsEntries s)
  unfolding LookedAtEntries
  looked_so mid is looked = let a = looked is.standing is.works is.stands in
      record { standing = moved is.standing a.view; works = a.holds.1; stands = a.holds.2; holds = (is.holds, a.holds.0) }

  pub call_committed : (mid new : Lane M) (result : Result (Unit {0}) Stopped) → LookedAtEntries at old mid → Committed at mid new result → CallCommitted at old new result
  unfolding LookedAtEntries Committed CallCommitted
  call_committed mid new result looked committed s works is one_ = let a = looked s works is in record { looks = a.looks; view = a.view; looked = a.looked; holds = committed (moved s a.view) a.holds.1 a.holds.2 one_ a.holds.0 }
