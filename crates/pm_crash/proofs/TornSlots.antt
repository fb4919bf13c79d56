-- A slot that is being written while the power fails and is valid in the image holds a whole record, where none that its lane is writing has a torn match.
use Rattle.std.proofs.Common.{◌≡◌, ◌≢◌, ◌⊎◌, ⊎_elim, inl, inr, ℕ, zero, suc, ◌+◌, ◌-◌, ◌*◌, ◌/◌, ◌<◌, ◌≤◌, ◌==◌, ◌&&◌, not, Bool, true, false, cond, List, [], ◌∷◌, length, take, drop, Option, None, Some, refl, sym, ap, ◌∙◌, subst, arith}
use Rattle.std.specs.Prelude.{slice_index, slice_get}
use Rattle.std.specs.List.{All, Contains, list_any}
use Rattle.std.proofs.lemmas.Bool.{both_ways, cases_Bool, cases_eq, cases_lt, cond-false, eqb-true, false_from_ne_true, le-leb}
use Rattle.std.proofs.lemmas.List.{ext_get_or, get_or-drop, get_or-take, length-drop, length-take-le}
use Rattle.std.proofs.lemmas.List.Elements.{All-contains}
use Rattle.pm_layout.specs.Areas.{line_of_slot}
use Rattle.pm_layout.specs.Chunks.{words_of}
use Rattle.pm_layout.specs.declared.shape.Shape.{Shape}
use Rattle.pm_record.specs.Undo.{is_record, undo_in, undo_of}
use Rattle.pm_record.specs.declared.undo.Undo.{Undo}
use Rattle.pm_image.specs.Logs.{generation, generation_word, is_sealed, seal_word, slot_line, undo_slot}
use Rattle.pm_image.specs.Steps.{valid_record}
use Rattle.pm_view.specs.Changes.{Undrained, is_in_line}
use Rattle.pm_view.specs.Log.{Phase, Idle, Open, Drawn, Sealing, Applying, Clearing, Retiring, Voiding, Log, Recorded}
use Rattle.pm_view.specs.Parts.{SlotPart, part_of}
use Rattle.pm_view.specs.View.{View}
use Rattle.pm_world.specs.Crash.{IsBeingWritten, IsNextRecord, IsWhole, Survives}
use Rattle.pm_world.specs.Logs.{AreaChange, IsRecordAt, PhaseFits, spelled, used_slots}
use Rattle.pm_world.specs.Memory.{Memory, PoolWord}
use Rattle.pm_world.specs.Sights.{is_slot_drained, sight_of}
use Rattle.pm_world.specs.States.{Diff}
use Rattle.pm_world.specs.World.{AreaFits, Opening, Views, Past, World}
use Rattle.pm_world.proofs.ImageLogs.{spelled_long, valid_parts}
use Rattle.pm_world.proofs.SurvivingWords.{generation_is, seal_is, slot_part}
use Rattle.pm_crash.specs.Torn.{IsTornMatch, IsWriting, LeavesSlots, NoRecordIsTorn, SlotsBefore, slot_word}

same_some : {A : Type 0} → (a b : A) → Some a ≡ Some b → a ≡ b
same_some {A = A} a b e = ap (λ (z : Option A). Rattle.std.specs.Prelude.unwrap_or z a) e

-- some element passes
some_element : {A : Type 0} (p : A → Bool) (xs : List A) → list_any p xs ≡ true → (y : A) × Contains xs y × (p y ≡ true)
some_element p [] e = absurd (both_ways false refl e)
some_element {A = A} p (a ∷ xs) e = ⊎_elim
    (λ (t : p a ≡ true). (a, (0, omega arith, refl), t))
    (λ (t : list_any p xs ≡ true). let y = some_element p xs t in (y.0, Rattle.pm_image.proofs.Members.later_member a xs y.0 y.1, y.2))
    (Rattle.std.proofs.lemmas.Bool.or_cases (p a) (list_any p xs) e)

not_false : (b : Bool) → not b ≡ false → b ≡ true
not_false true e = refl
not_false false e = absurd (both_ways true e refl)

-- changes of slots are there before the number is drawn alone
open_change : (ph : Phase) (count n : ℕ) (c : Undrained) → AreaChange ph count n SlotPart c → ph ≡ Open
open_change Idle count n c e = absurd e
open_change Open count n c e = refl
open_change (Drawn m) count n c e = absurd e
open_change (Sealing m) count n c e = absurd e
open_change (Applying t) count n c e = absurd e
open_change Clearing count n c e = absurd e
open_change (Retiring m) count n c e = absurd e
open_change Voiding count n c e = absurd e

-- and so are words of a record in the making
open_slot : (ph : Phase) (sh : Shape) (lane : ℕ) (pic : Diff) (l : Log) (changes : List Undrained) → PhaseFits sh lane pic l changes ph → (l.slot ≢ []) → ph ≡ Open
open_slot Idle sh lane pic l changes f ne = absurd (ne f.2)
open_slot Open sh lane pic l changes f ne = refl
open_slot (Drawn m) sh lane pic l changes f ne = absurd (ne f.1)
open_slot (Sealing m) sh lane pic l changes f ne = absurd (ne f.1)
open_slot (Applying t) sh lane pic l changes f ne = absurd (ne f.2)
open_slot Clearing sh lane pic l changes f ne = absurd (ne f.1)
open_slot (Retiring m) sh lane pic l changes f ne = absurd (ne f.1)
open_slot Voiding sh lane pic l changes f ne = absurd (ne f.1)

-- all of so many words are another's, or some is not
all_or_some : (f h : ℕ → ℕ) (n : ℕ) → ((i : ℕ) → i < n → f i ≡ h i) ⊎ ((i : ℕ) × (i < n) × (f i ≢ h i))
all_or_some f h zero = inl (λ i l. absurd (omega arith))
all_or_some f h (suc n) = ⊎_elim
    (λ (e : f n ≡ h n). ⊎_elim
    (λ (all : (i : ℕ) → i < n → f i ≡ h i). inl (λ i l. ⊎_elim (λ (q : i ≡ n). ap f q ∙ (e ∙ ap h (sym q))) (λ (ne : i ≢ n). all i (omega arith)) (cases_eq i n)))
    (λ (y : (i : ℕ) × (i < n) × (f i ≢ h i)). inr (y.0, (let l = y.1 in omega arith), y.2))
    (all_or_some f h n))
    (λ (ne : f n ≢ h n). inr (n, omega arith, ne))
    (cases_eq (f n) (h n))

-- a record that stands is one by its sum
sum_of : (slot : List ℕ) (u : Undo) → undo_of slot ≡ Some u → (is_record slot ≡ true) × (slice_index slot 0 ≡ u.generation)
sum_of slot u e = go (is_record slot) refl e
  where
    go : (t : Bool) → is_record slot ≡ t → cond t (Some (undo_in slot)) None ≡ Some u → (is_record slot ≡ true) × (slice_index slot 0 ≡ u.generation)
    go true is e = (is, ap (λ (z : Undo). z.generation) (same_some (undo_in slot) u e))
    go false is e = absurd cc

module _ (o : Opening) (mem : Memory) (views : Views) (g : Past) (before : SlotsBefore) (image : List ℕ) (x : World o mem views g) (sv : Survives o mem views image)
    (slots : LeavesSlots o mem views before image) (k j : ℕ) (ink : k < o.lanes) (inj : j < 64) (writing : IsBeingWritten (views k) j) (u : Undo) (valid : valid_record image k j ≡ Some u) where
  abbrev v : View
  v = views k

  of_pool : k < o.shape.lanes
  of_pool = let m = x.most_lanes in omega arith

  fits : AreaFits o mem g k (views k)
  fits = (x.each_lane k ink).log

  lane_is : v.fixed.lane ≡ k
  lane_is = (x.each_lane k ink).lane

  shape_is : v.fixed.shape ≡ o.shape
  shape_is = (x.each_lane k ink).shape

  -- the call has not taken its number
  is_open : v.log.phase ≡ Open
  is_open = ⊎_elim
      (λ (d : is_slot_drained v.fixed.shape v.fixed.lane v.changes j ≡ false).
      let dirty : list_any (is_in_line (line_of_slot v.fixed.shape v.fixed.lane j)) v.changes ≡ true = not_false (list_any (is_in_line (line_of_slot v.fixed.shape v.fixed.lane j)) v.changes) d in
      let y = some_element (is_in_line (line_of_slot v.fixed.shape v.fixed.lane j)) v.changes dirty in
      let at : y.0.word / 8 ≡ line_of_slot o.shape k j = eqb-true (y.0.word / 8) (line_of_slot v.fixed.shape v.fixed.lane j) y.2 ∙ ap (λ n. 81 + 128 * n + j) lane_is in
      let is : part_of o.shape k y.0.word ≡ SlotPart = slot_part o.shape k y.0.word (omega arith) (omega arith) in
      open_change v.log.phase (length v.log.entries) v.log.generation y.0
      (subst (λ p. AreaChange v.log.phase (length v.log.entries) v.log.generation p y.0) is
      (All-contains (λ (c : Undrained). AreaChange v.log.phase (length v.log.entries) v.log.generation (part_of o.shape k c.word) c) v.changes y.0 fits.area_changes y.1)))
      (λ (d : (length v.log.records ≤ j) × (j < used_slots v.log)).
      open_slot v.log.phase o.shape k (sight_of (views k)).picture v.log v.changes fits.phase (λ e. let z : used_slots v.log ≡ length v.log.records + 0 = ap (λ s. length v.log.records + cond (length s == 0) 0 1) e in let a = d.0 in let b = d.1 in omega arith))
      writing

  present : generation image k ≡ v.log.generation
  present =
      let seal : seal_word image k ≡ 0 = subst (Rattle.pm_world.proofs.SurvivingWords.SealIs (length v.log.entries) (seal_word image k)) is_open (seal_is o mem views g x image sv k of_pool) in
      let gen : generation_word image k ≡ v.log.generation = subst (Rattle.pm_world.proofs.SurvivingWords.GenerationIs v.log.generation (generation_word image k)) is_open (generation_is o mem views g x image sv k of_pool) in
      cond-false (is_sealed image k) _ _ (ap (λ n. Rattle.std.specs.Prelude.nat_le 1 n && Rattle.std.specs.Prelude.nat_le n 64) seal) ∙ gen

  -- ---- THE SLOT IN THE IMAGE
  abbrev torn : List ℕ
  torn = undo_slot image k j

  size : length image ≡ words_of o.shape
  size = sv.size ∙ x.size

  long : length torn ≡ 8
  long = let s = size in let b = length-drop (8 * slot_line k j) image in
      let c = length-take-le (8 * slot_line k j + 8 - 8 * slot_line k j) (drop (8 * slot_line k j) image) (omega (arith, b)) in omega (arith, c)

  at : (i : ℕ) → i < 8 → slice_index torn i ≡ slice_index image (slot_word o k j i)
  at i l = get_or-take (8 * slot_line k j + 8 - 8 * slot_line k j) (drop (8 * slot_line k j) image) i 0 (omega arith)
      ∙ (get_or-drop (8 * slot_line k j) image i 0 ∙ (let e : 8 * slot_line k j + i ≡ slot_word o k j i = omega arith in ap (slice_index image) e))

  stands : undo_of torn ≡ Some u
  stands = (valid_parts image k j u valid).0

  -- whatever record the lane is writing there, each word is its or was there before
  module _ (r : Recorded) (is : IsWriting (views k) j r) where
    abbrev whole : List ℕ
    whole = spelled o.shape v.log.generation r

    few : length r.old ≤ 4
    few = ⊎_elim (λ (e : IsRecordAt v.log j r). (fits.records j r e).2)
        (λ (e : (j ≡ length v.log.records) × IsNextRecord v r × (v.log.slot ≡ take (length v.log.slot) (spelled v.fixed.shape v.log.generation r))). e.1.most) is

    words : (i : ℕ) → i < 8 → (slice_index torn i ≡ slice_index whole i) ⊎ (slice_index torn i ≡ slice_index (before k j) i)
    words i l = ⊎_elim
        (λ (e : slice_index image (slot_word o k j i) ≡ mem (PoolWord (slot_word o k j i))). ⊎_elim
        (λ (y : IsRecordAt v.log j r). inl (at i l ∙ (e ∙ (fits.records j r y).0 i l)))
        (λ (y : (j ≡ length v.log.records) × IsNextRecord v r × (v.log.slot ≡ take (length v.log.slot) (spelled v.fixed.shape v.log.generation r))).
        ⊎_elim
        (λ (m : i < length v.log.slot). inl (at i l ∙ (e ∙ (ap (λ n. mem (PoolWord (slot_word o k n i))) y.0 ∙ (fits.slot_part i m
        ∙ (ap (λ s. slice_index s i) y.2 ∙ (get_or-take (length v.log.slot) (spelled v.fixed.shape v.log.generation r) i 0 m
        ∙ ap (λ s. slice_index (spelled s v.log.generation r) i) shape_is)))))))
        (λ (m : length v.log.slot ≤ i). inr (at i l ∙ (e ∙ (ap (λ n. mem (PoolWord (slot_word o k n i))) y.0 ∙ (slots.unstored k i ink m l
        ∙ ap (λ n. slice_index (before k n) i) (sym y.0))))))
        (cases_lt i (length v.log.slot)))
        is)
        (λ (e : slice_index image (slot_word o k j i) ≡ slice_index (before k j) i). inr (at i l ∙ e))
        (slots.left k j i ink inj l)

    first : slice_index torn 0 ≡ slice_index whole 0
    first = (sum_of torn u stands).1 ∙ ((valid_parts image k j u valid).1 ∙ present)

    lawful : IsRecordAt v.log j r ⊎ ((length v.log.records ≤ j) × IsNextRecord v r)
    lawful = ⊎_elim (λ (e : IsRecordAt v.log j r). inl e)
        (λ (e : (j ≡ length v.log.records) × IsNextRecord v r × (v.log.slot ≡ take (length v.log.slot) (spelled v.fixed.shape v.log.generation r))). inr ((let q = e.0 in omega arith), e.1)) is

    pub is_whole : ((t : List ℕ) → ¬ IsTornMatch (spelled (views k).fixed.shape (views k).log.generation r) (before k j) t) → IsWhole (views k) image j
    is_whole none = ⊎_elim
        (λ (all : (i : ℕ) → i < 8 → slice_index torn i ≡ slice_index whole i). record {
          held = r;
          lawful = lawful;
          spells = ap (λ n. undo_slot image n j) lane_is
              ∙ (ext_get_or 0 torn whole (long ∙ sym (spelled_long o.shape v.log.generation r few)) (λ i l. all i (let z = long in omega arith))
              ∙ ap (λ s. spelled s v.log.generation r) (sym shape_is));
        })
        (λ (some : (i : ℕ) × (i < 8) × (slice_index torn i ≢ slice_index whole i)).
        absurd (subst (λ s. ¬ IsTornMatch (spelled s v.log.generation r) (before k j) torn) shape_is (none torn)
        (record { each = words; first = first; not_all = some; sum = (sum_of torn u stands).0 })))
        (all_or_some (slice_index torn) (slice_index whole) 8)

pub none_torn : NoRecordIsTorn
none_torn o mem views g before image x sv slots none k j u ink inj writing valid =
    let y = none k j ink inj writing in
    is_whole o mem views g before image x sv slots k j ink inj writing u valid y.0 y.1 y.2
