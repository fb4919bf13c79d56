-- A RANGE THAT IS THE LANE'S TO WRITE may be written, or a word of it has no record and the write is refused.
use Rattle.std.proofs.Common.{◌≡◌, sym, nat_lt, ◌≢◌, ℕ, ◌+◌, inl, Bool, true, false, not, List, [], ◌∷◌, length, refl, ap, ◌∙◌, Some, Ok, Err}
use Rattle.std.specs.List.{list_all}
use Rattle.pm_objects.specs.declared.calls.Operation.{Operation}
use Rattle.pm_objects.specs.declared.calls.Operation.TheVariants.{AddRange, Increment, Read, Write}
use Rattle.pm_objects.specs.declared.ids.Oid.{Oid}
use Rattle.pm_objects.specs.declared.refusal.Refusal.{Refusal}
use Rattle.pm_objects.specs.declared.refusal.Refusal.TheVariants as refusal
use Rattle.pm_model.specs.Items.{is_among}
use Rattle.pm_model.specs.Refusals.{Test, first_of}
use Rattle.pm_model.specs.Transaction.{covered_words}
use Rattle.pm_view.specs.View.{View}
use Rattle.pm_words.specs.Words.{AreBytes}
use Rattle.pm_world.specs.LaneFields.{Fields, Standing, Works}
use Rattle.pm_world.specs.declared.lane.Lane.{Lane}
use Rattle.pm_undo.specs.Records.{kept_by}
use Rattle.pm_undo.specs.Spans as spans
use Rattle.pm_call.specs.At.{At}
use Rattle.pm_call.specs.Did.{Found, IsRefused}
use Rattle.pm_call.specs.Ranges.{HasRange, IsRangeOf, has_records, is_held_so, own_tests, size_or_none}
use Rattle.pm_call.specs.Writing.{MayPut}
use Rattle.pm_call.proofs.RangeReads.{range_passes}
use Rattle.pm_call.proofs.RangeRefusals.{range_refusals, ranges_are_looked_at}

not_added : (s : Standing) (id : Oid) (off : ℕ) (bytes : List ℕ) → At s → HasRange s id off (length bytes) true
    → list_all (is_among (spans.words_in (kept_by s.view))) (covered_words (id.off + off) (length bytes)) ≡ false → IsRefused s (Write id off bytes) refusal.NotAdded
unfolding first_of
not_added s id off bytes at r none = let t = range_passes s id off (length bytes) true r in record {
  looks = ranges_are_looked_at s (Write id off bytes) id off (length bytes) true at (refl, refl, refl, refl) (inl (record { size = r.size; sized = r.sized; small = r.small }));
  first = range_refusals s (Write id off bytes) id off (length bytes) true at (refl, refl, refl, refl)
      ∙ (λ i. first_of ((refusal.NotLocked, t.0 i) ∷ (refusal.OutOfRange, t.1 i) ∷ (refusal.NotAdded, not (none i)) ∷ []));
}

-- ---- no operation on a range is refused for a stop
later : (b : Bool) (r : Refusal) (tests : List Test) → Some r ≢ Some refusal.Stopped → first_of tests ≢ Some refusal.Stopped → first_of ((r, b) ∷ tests) ≢ Some refusal.Stopped
unfolding first_of
later true r tests other none e = other e
later false r tests other none e = none e

none_stops : first_of [] ≢ Some refusal.Stopped
unfolding first_of
none_stops e = absurd cc

own_never : (s : Standing) (op : Operation) (id : Oid) (off len : ℕ) (write : Bool) → IsRangeOf op id off len write → first_of (own_tests s op) ≢ Some refusal.Stopped
own_never s (AddRange o a n) id off len write is = later _ refusal.LogFull [] (λ e. absurd cc) none_stops
own_never s (Write o a bytes) id off len write is = later _ refusal.NotAdded [] (λ e. absurd cc) none_stops
own_never s (Read o a n) id off len write is = none_stops
own_never s (Increment o a n) id off len write is =
    later (not (is_held_so s o true)) refusal.NotLocked
    ((refusal.NotAdded, not (has_records s.view (o.off + a) 8)) ∷ []) (λ e. absurd cc)
    (later _ refusal.NotAdded [] (λ e. absurd cc) none_stops)
own_never s op id off len write is = absurd is

pub range_never_stops : (s : Standing) (op : Operation) (id : Oid) (off len : ℕ) (write : Bool) → At s → IsRangeOf op id off len write → IsRefused s op refusal.Stopped → ⊥
range_never_stops s op id off len write at is refused =
    later (not (is_held_so s id write)) refusal.NotLocked ((refusal.OutOfRange, nat_lt (size_or_none s.view id.off) (off + len)) ∷ own_tests s op) (λ e. absurd cc)
    (later (nat_lt (size_or_none s.view id.off) (off + len)) refusal.OutOfRange (own_tests s op) (λ e. absurd cc) (own_never s op id off len write is))
    (sym (range_refusals s op id off len write at is) ∙ refused.first)

-- what the lane lists as recorded is so in its view
pub recorded_so : {M : Type 0} (at : M → View → Type 0) (lane : Lane M) (s : Standing)
    → Works at lane s → (place len : ℕ) (b : Bool)
    → list_all (is_among (spans.words_in lane.log.records.items)) (covered_words place len) ≡ b
    → has_records s.view place len ≡ b
recorded_so at lane s works place len b e =
    ap (λ rs. list_all (is_among (spans.words_in rs)) (covered_words place len))
    (sym (ap (λ (f : Fields). f.records) works.fields)) ∙ e

module _ {M : Type 0} (at : M → View → Type 0) (lane : Lane M) (id : Oid) (off : ℕ) (bytes : List ℕ) (s : Standing) (works : Works at lane s) (stands : At s) (range : HasRange s id off (length bytes) true) where
  abbrev Recorded : Bool → Type 0
  Recorded b = list_all (is_among (spans.words_in lane.log.records.items)) (covered_words (id.off + off) (length bytes)) ≡ b

  seen_so : (b : Bool) → Recorded b → has_records s.view (id.off + off) (length bytes) ≡ b
  seen_so = recorded_so at lane s works (id.off + off) (length bytes)

  pub recorded_ok : AreBytes bytes → Recorded true → Found {T = Unit {0}} at lane (λ s done. MayPut s id off bytes) (Write id off bytes) (Ok tt) s
  recorded_ok are e = (record { range = range; recorded = seen_so true e; are_bytes = are }, works, stands)

  pub recorded_none : Recorded false → Found {T = Unit {0}} at lane (λ s done. MayPut s id off bytes) (Write id off bytes) (Err refusal.NotAdded) s
  recorded_none e = (not_added s id off bytes stands range (seen_so false e), works, stands)
