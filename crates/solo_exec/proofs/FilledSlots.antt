-- A transaction that records a range stores consecutive slot words, from behind its records on, and no others.
use Rattle.std.proofs.Common.{◌≡◌, ℕ, zero, suc, ◌+◌, ◌<◌, ◌≤◌, Bool, true, false, cond, eqb, ltb, ◌&&◌, List, [], ◌∷◌, ◌++◌, length, map, take, None, slice_index, refl, sym, ap, ◌∙◌, subst, arith}
use Rattle.std.proofs.lemmas.Bool.{ltb-true}
use Rattle.std.proofs.lemmas.List.FromFn.{length-map-range_with_len}
use Rattle.pm_image.specs.Logs.{slot_line}
use Rattle.solo_model.specs.Bytes.{covered_words, new_words, records_from, records_of}
use Rattle.pm_objects.specs.declared.calls.Operation.TheVariants.{AddRange}
use Rattle.pm_objects.specs.declared.ids.Oid.{Oid}
use Rattle.solo_tx.proofs.StepKinds.{Each, HasOnly, HasQuietSteps, only_looks, only_looks_from, only_makes_room}
use Rattle.solo_tx.specs.Ranges.{adds_range}
use Rattle.solo_undo.specs.Sequences.{logs, logs_any, looks_from, recorded_in, snapshots, span_at, stores_from, with_generation, words_of_span, writes_all, writes_record, writes_records, writes_slot}
use Rattle.solo_undo.specs.Spans.{plan_of, span_in, spans_for, words_in}
use Rattle.solo_view.proofs.SameLane.{same_lane-after_all}
use Rattle.solo_view.specs.Area.{area_word}
use Rattle.solo_view.specs.Steps.{Step}
use Rattle.solo_view.specs.Steps.Step.{Load, Store, Flush, Drain, Tell}
use Rattle.solo_view.specs.View.{View}
use Rattle.solo_view.specs.Views.{after_all}
use Rattle.solo_world.proofs.StoreSlot.{length-spelled}
use Rattle.solo_world.specs.Records.{slot_word, spelled}
use Rattle.solo_world.specs.Sequences.{Sequence, by_lane, by_view, counted, in_turn, looks, makes_room, nothing, one, stores, with_word}
use Rattle.solo_world.specs.declared.lane.Span.{Span}

-- from the next word n on the step leads to the next word k: it stores n, or no word
abbrev pub Next : ℕ → Step → ℕ → Type 0
Next n (Load w x) k = k ≡ n
Next n (Store w x) k = (w ≡ n) × (k ≡ n + 1)
Next n (Flush line) k = k ≡ n
Next n Drain k = k ≡ n
Next n (Tell operation reply) k = k ≡ n
Next n s k = ⊥

-- the steps store the words from the first on up to the last, which they don't, in order
unfoldable pub Fills : ℕ → List Step → ℕ → Type 0
Fills n [] m = n ≡ m
Fills n (s ∷ steps) m = (k : ℕ) × Next n s k × Fills k steps m

-- so do those of the sequence, from whatever view of lane 0
abbrev pub FillsFrom : ℕ → Sequence → ℕ → Type 0
FillsFrom n steps m = (v : View) → v.lane ≡ 0 → Fills n (steps v) m

-- a step that stores nothing
abbrev IsStill : Step → Type 0
IsStill (Load w x) = Unit {0}
IsStill (Flush line) = Unit {0}
IsStill Drain = Unit {0}
IsStill (Tell operation reply) = Unit {0}
IsStill s = ⊥

still_steps : HasQuietSteps IsStill
still_steps = record { load = λ w x. tt; flush = λ line. tt; drain = tt }

still_next : (n : ℕ) (s : Step) → IsStill s → Next n s n
still_next n (Load w x) still = refl
still_next n (Flush line) still = refl
still_next n Drain still = refl
still_next n (Tell operation reply) still = refl
still_next n s still = absurd still

fills_none : (n : ℕ) (steps : List Step) → Each IsStill steps → Fills n steps n
unfolding Fills Each
fills_none n [] each = refl
fills_none n (s ∷ steps) each = (n, still_next n s each.0, fills_none n steps each.1)

fills_both : (n m l : ℕ) (xs ys : List Step) → Fills n xs m → Fills m ys l → Fills n (xs ++ ys) l
unfolding Fills
fills_both n m l [] ys first second = subst (λ k. Fills k ys l) (sym first) second
fills_both n m l (x ∷ xs) ys first second = (first.0, first.1, fills_both first.0 m l xs ys first.2 second)

-- the first of them fill up to some word
pub fills_first : (n m : ℕ) (steps : List Step) (k : ℕ) → Fills n steps m → (l : ℕ) × Fills n (take k steps) l
unfolding Fills
fills_first n m steps zero fills = (n, refl)
fills_first n m [] (suc k) fills = (n, refl)
fills_first n m (s ∷ steps) (suc k) fills = let rest = fills_first fills.0 m steps k fills.2 in (rest.0, (fills.0, fills.1, rest.1))

still_fills : (n : ℕ) (steps : Sequence) → HasOnly IsStill steps → FillsFrom n steps n
still_fills n steps only v lane = fills_none n (steps v) (only v lane)

turn_fills : (n m l : ℕ) (s t : Sequence) → FillsFrom n s m → FillsFrom m t l → FillsFrom n (in_turn s t) l
unfolding in_turn
turn_fills n m l s t first second v lane =
    let u : View = after_all v (s v) in
    fills_both n m l (s v) (t u) (first v lane) (second u ((same_lane-after_all v (s v)).lane ∙ lane))

counted_fills : (at : ℕ → ℕ) (steps : ℕ → Sequence) (count : ℕ) → ((i : ℕ) → i < count → FillsFrom (at i) (steps i) (at (suc i))) → FillsFrom (at 0) (counted steps count) (at count)
unfolding counted nothing Fills
counted_fills at steps zero each v lane = refl
counted_fills at steps (suc n) each v lane = turn_fills (at 0) (at n) (at (suc n)) (counted steps n) (steps n) (counted_fills at steps n (λ i below. each i (omega (arith, below)))) (each n (omega arith)) v lane

one_fills : (n : ℕ) (s : Step) (m : ℕ) → Next n s m → FillsFrom n (one s) m
unfolding one Fills
one_fills n s m next v lane = (m, next, refl)

store_fills : (w x : ℕ) → FillsFrom w (stores w x) (w + 1)
unfolding stores
store_fills w x = turn_fills w w (w + 1) makes_room (one (Store w x)) (still_fills w makes_room (only_makes_room IsStill still_steps)) (one_fills w (Store w x) (w + 1) (refl, refl))

stores_fill : (word : ℕ) (values : List ℕ) → FillsFrom (word + 0) (stores_from word values) (word + length values)
unfolding stores_from
stores_fill word values =
    counted_fills (λ i. word + i) (λ i. stores (word + i) (slice_index values i)) (length values)
    (λ i below. subst (FillsFrom (word + i) (stores (word + i) (slice_index values i))) (let e : word + i + 1 ≡ word + suc i = omega arith in e) (store_fills (word + i) (slice_index values i)))

-- a record fills its slot
record_fills : (generation slot : ℕ) (s : Span) → s.count ≤ 4 → FillsFrom (slot_word 0 slot) (writes_record 0 generation slot s) (slot_word 0 (slot + 1))
unfolding writes_record by_view writes_slot
record_fills generation slot s few v lane =
    let words : List ℕ = spelled generation (recorded_in v s) in
    let first : ℕ = slot_word 0 slot in
    let count : length (words_of_span v s) ≡ s.count = length-map-range_with_len (slice_index v.words) s.word s.count in
    let eight : length words ≡ 8 = length-spelled generation (recorded_in v s) (omega (arith, count, few)) in
    let slots : FillsFrom first (in_turn (stores_from first words) (one (Flush (slot_line 0 slot)))) (slot_word 0 (slot + 1)) =
    turn_fills first (slot_word 0 (slot + 1)) (slot_word 0 (slot + 1)) (stores_from first words) (one (Flush (slot_line 0 slot)))
    (subst (λ n. FillsFrom n (stores_from first words) (slot_word 0 (slot + 1))) (let e : first + 0 ≡ first = omega arith in e)
    (subst (FillsFrom (first + 0) (stores_from first words)) (let e : first + length words ≡ slot_word 0 (slot + 1) = omega (arith, eight) in e) (stores_fill first words)))
    (one_fills (slot_word 0 (slot + 1)) (Flush (slot_line 0 slot)) (slot_word 0 (slot + 1)) refl) in
    turn_fills first first (slot_word 0 (slot + 1)) (looks_from s.word s.count) (in_turn (stores_from first words) (one (Flush (slot_line 0 slot))))
    (still_fills first (looks_from s.word s.count) (only_looks_from IsStill still_steps s.word s.count)) slots v lane

-- spans of at most four words
unfoldable pub AreFew : List Span → Type 0
AreFew [] = Unit {0}
AreFew (s ∷ spans) = (s.count ≤ 4) × AreFew spans

few_at : (spans : List Span) (i : ℕ) → AreFew spans → (span_at spans i).count ≤ 4
unfolding AreFew
few_at [] i few = omega arith
few_at (s ∷ spans) zero few = few.0
few_at (s ∷ spans) (suc i) few = few_at spans i few.1

few_from : (o : ℕ × ℕ) (ws : List ℕ) → o.1 ≤ 4 → AreFew (map span_in (records_from o ws))
unfolding records_from AreFew
few_from o [] few = (few, tt)
few_from o (w ∷ ws) few = at (eqb w (o.0 + o.1)) (ltb o.1 4) refl (λ more. few_from (o.0, o.1 + 1) ws more) (few_from (w, 1) ws (omega arith)) where
  at : (b c : Bool) → ltb o.1 4 ≡ c → (o.1 + 1 ≤ 4 → AreFew (map span_in (records_from (o.0, o.1 + 1) ws))) → AreFew (map span_in (records_from (w, 1) ws))
      → AreFew (map span_in (cond (b && c) (records_from (o.0, o.1 + 1) ws) (o ∷ records_from (w, 1) ws)))
  at true true e joined apart = joined (let low = ltb-true o.1 4 e in omega (arith, low))
  at true false e joined apart = (few, apart)
  at false c e joined apart = (few, apart)

few_planned : (spans : List Span) (place len : ℕ) → AreFew (plan_of spans place len)
unfolding plan_of spans_for records_of AreFew
few_planned spans place len = at (new_words (words_in spans) (covered_words place len)) where
  at : (ws : List ℕ) → AreFew (map span_in (records_of ws))
  at [] = tt
  at (w ∷ ws) = few_from (w, 1) ws (omega arith)

records_fill : (generation slot : ℕ) (spans : List Span) → AreFew spans → FillsFrom (slot_word 0 slot) (writes_records 0 generation slot spans) (slot_word 0 (slot + length spans))
unfolding writes_records
records_fill generation slot spans few =
    subst (λ n. FillsFrom n (writes_records 0 generation slot spans) (slot_word 0 (slot + length spans))) (ap (slot_word 0) (let e : slot + 0 ≡ slot = omega arith in e))
    (counted_fills (λ i. slot_word 0 (slot + i)) (λ i. writes_record 0 generation (slot + i) (span_at spans i)) (length spans)
    (λ i below. subst (λ n. FillsFrom (slot_word 0 (slot + i)) (writes_record 0 generation (slot + i) (span_at spans i)) (slot_word 0 n)) (let e : slot + i + 1 ≡ slot + suc i = omega arith in e)
    (record_fills generation (slot + i) (span_at spans i) (few_at spans i few))))

all_fill : (generation slot : ℕ) (spans : List Span) → AreFew spans → FillsFrom (slot_word 0 slot) (writes_all slot spans 0 generation) (slot_word 0 (slot + length spans))
unfolding writes_all
all_fill generation slot spans few =
    turn_fills (slot_word 0 slot) (slot_word 0 (slot + length spans)) (slot_word 0 (slot + length spans)) (writes_records 0 generation slot spans) (one Drain)
    (records_fill generation slot spans few) (one_fills (slot_word 0 (slot + length spans)) Drain (slot_word 0 (slot + length spans)) refl)

logs_fill : (slot : ℕ) (spans : List Span) → AreFew spans → FillsFrom (slot_word 0 slot) (logs slot spans) (slot_word 0 (slot + length spans))
unfolding logs with_generation by_lane by_view with_word
logs_fill slot spans few v lane =
    subst (λ n. Fills (slot_word 0 slot) (in_turn (looks (area_word n)) (writes_all slot spans n (slice_index v.words (area_word n))) v) (slot_word 0 (slot + length spans))) (sym lane)
    (turn_fills (slot_word 0 slot) (slot_word 0 slot) (slot_word 0 (slot + length spans)) (looks (area_word 0)) (writes_all slot spans 0 (slice_index v.words (area_word 0)))
    (still_fills (slot_word 0 slot) (looks (area_word 0)) (only_looks IsStill still_steps (area_word 0)))
    (all_fill (slice_index v.words (area_word 0)) slot spans few) v lane)

any_fill : (slot : ℕ) (spans : List Span) → AreFew spans → FillsFrom (slot_word 0 slot) (logs_any slot spans) (slot_word 0 (slot + length spans))
unfolding logs_any nothing Fills
any_fill slot [] few v lane = ap (slot_word 0) (let e : slot ≡ slot + 0 = omega arith in e)
any_fill slot (s ∷ spans) few v lane = logs_fill slot (s ∷ spans) few v lane

pub adds_fill : (spans : List Span) (id : Oid) (off len : ℕ) → FillsFrom (slot_word 0 (length spans)) (adds_range spans id off len) (slot_word 0 (length spans + length (plan_of spans (id.off + off) len)))
unfolding adds_range snapshots
adds_fill spans id off len =
    let last : ℕ = slot_word 0 (length spans + length (plan_of spans (id.off + off) len)) in
    turn_fills (slot_word 0 (length spans)) last last (logs_any (length spans) (plan_of spans (id.off + off) len)) (one (Tell (AddRange id off len) None))
    (any_fill (length spans) (plan_of spans (id.off + off) len) (few_planned spans (id.off + off) len))
    (one_fills last (Tell (AddRange id off len) None) last refl)
