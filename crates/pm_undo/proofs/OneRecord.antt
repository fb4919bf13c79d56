-- One record is written in the next slot, word by word, and its line is flushed.
use Rattle.std.proofs.Common.{◌≡◌, ℕ, ◌+◌, ◌*◌, ◌/◌, ◌^◌, ◌<◌, ◌≤◌, ◌⊎◌, inl, inr, ⊎_elim, Bool, true, false, cond, List, [], ◌∷◌, ◌++◌, length, take, refl, sym, ap, ◌∙◌, subst, arith, eq-eqb}
use Rattle.std.specs.Prelude.{slice_index}
use Rattle.std.specs.List.{AllByRecursion}
use Rattle.std.proofs.lemmas.Bool.{cond-true, cond-false}
use Rattle.std.proofs.lemmas.List.{take_more, take_all, length-take-le}
use Rattle.pm_layout.specs.declared.shape.Shape.{Shape}
use Rattle.pm_layout.specs.Areas.{line_of_slot}
use Rattle.pm_view.specs.Changes.{Undrained, flushed, is_in_line}
use Rattle.pm_view.specs.Claims.{class}
use Rattle.pm_view.specs.Counts.{DropsSome, FlushesSome, HasRoom}
use Rattle.pm_view.specs.Log.{Recorded, with_slot}
use Rattle.pm_view.specs.Parts.{SlotPart, part_of}
use Rattle.pm_view.specs.Places.{place_after, is_data, word_of}
use Rattle.pm_view.specs.Steps.Step.{Store, Flush}
use Rattle.pm_view.specs.View.{View}
use Rattle.pm_view.specs.Views.{after}
use Rattle.pm_world.specs.Lawful.{CanRecord, MayStore}
use Rattle.pm_world.specs.Logs.{AreInRow, spelled}
use Rattle.pm_world.specs.Sights.{is_recorded}
use Rattle.pm_plan.specs.Plans.{IsPersisted, Plan, one, repeated, stores}
use Rattle.pm_plan.proofs.Dropping.{flush_drops}
use Rattle.pm_plan.proofs.Going.{Goes, goes_one, goes_repeated, goes_stores, goes_then, goes_weaker}
use Rattle.pm_plan.specs.Plans.{stores_from}
use Rattle.pm_undo.specs.Plans.{writes_record, writes_slot}
use Rattle.pm_world.specs.LaneFields.{kept_of}
use Rattle.pm_plan.specs.Notes.{IsBeyond}
use Rattle.pm_undo.specs.Working.{IsNoSlot, IsWorking}
use Rattle.pm_plan.proofs.AreaParts.{in_pool, part_slot, small_word}
use Rattle.pm_undo.proofs.Logging.{Logging, log_with, may_store_slot, slot_change, slot_stored, still_logging}
use Rattle.pm_undo.proofs.Slots.{length_spelled, small_spelled, slot_short, slot_whole, spelled_back}

-- a change that is past the areas, or flushed; or of this line
abbrev pub IsAside : Shape → Undrained → Type 0
IsAside sh c = IsBeyond sh c.word ⊎ (c.flushed ≡ true)

abbrev IsAsideOr : Shape → ℕ → Undrained → Type 0
IsAsideOr sh line c = IsAside sh c ⊎ (c.word / 8 ≡ line)

-- a flush of the line leaves the others
flushed_aside : (sh : Shape) (line : ℕ) (changes : List Undrained)
    → AllByRecursion (IsAsideOr sh line) changes → AllByRecursion (IsAside sh)
    (flushed line changes)
flushed_aside sh line [] all = tt
flushed_aside sh line (c ∷ changes) all = (
  go (is_in_line line c) refl all.0,
  flushed_aside sh line
      changes all.1,
)
  where
    go : (b : Bool) → is_in_line line c ≡ b → IsAsideOr sh line c
        → IsAside sh (cond (is_in_line line c) (record c { flushed = true }) c)
    go true e is = subst (IsAside sh)
        (sym (cond-true (is_in_line line c) (record c { flushed = true }) c e)) (inr refl)
    go false e is = subst (IsAside sh)
        (sym (cond-false (is_in_line line c) (record c { flushed = true }) c e))
        (⊎_elim (λ (a : IsAside sh c). a)
        (λ (here : c.word / 8 ≡ line). absurd
        (Rattle.std.proofs.lemmas.Bool.both_ways (is_in_line line c) e
        (eq-eqb (c.word / 8) line here))) is)

aside_weaker : (sh : Shape) (line : ℕ) (changes : List Undrained) → AllByRecursion (IsAside sh)
    changes → AllByRecursion (IsAsideOr sh line) changes
aside_weaker sh line [] all = tt
aside_weaker sh line (c ∷ changes) all = (inl all.0, aside_weaker sh line changes all.1)

-- the first word of a record of the pool's data is small
pub first_small_at : (sh : Shape) (r : Recorded) → sh.lanes ≤ 32 → sh.zones ≤ 32
    → is_data (place_after r.place 0) ≡ true → 0 < length r.old → AreInRow sh r
    → word_of sh r.place < 2 ^ 60
first_small_at sh r lanes zones plain some row = let t = row 0 some in let l =
    in_pool sh (place_after r.place 0) plain t.0 in let w = t.1 in small_word sh
    (word_of sh r.place) lanes zones (omega (arith, l, w))

module _ (v : View) (working : IsWorking v) (records : List Recorded) (r : Recorded)
    (can : CanRecord v r) (new : (i : ℕ) → i < length r.old
    → is_recorded records (place_after r.place i) ≡ false) (free : length records < 64) where
  abbrev sh : Shape
  sh = v.fixed.shape

  abbrev line : ℕ
  line = line_of_slot sh v.fixed.lane (length records)

  abbrev words : List ℕ
  words = spelled sh v.log.generation r

  -- these records and words of the slot are stored, and all that is undrained and not flushed is
  -- past the areas, or in the line
  record Stored (rs : List Recorded) (slot : List ℕ) (u : View) : Type 0 where
    at : Logging v (IsNoSlot v.fixed.shape v.fixed.lane) rs slot u
    aside : AllByRecursion (IsAsideOr sh line) u.changes

  -- all the words are, and the last is not flushed
  abbrev Whole : View → Type 0
  Whole u = Stored (records ++ r ∷ []) [] u × FlushesSome line u.changes

  stays : (rs : List Recorded) (slot : List ℕ) (u w : View) → Stored rs slot u → IsPersisted u w
      → Stored rs slot w
  stays rs slot u w s is = let t = still_logging s.at working w is in record {
    at = t.0;
    aside = subst (AllByRecursion (IsAsideOr sh line)) (sym t.1) tt;
  }

  eight : length words ≡ 8
  eight = length_spelled sh (class v.claims) v.log.generation r can.most

  first_small : word_of sh r.place < 2 ^ 60
  first_small = let some : 0 < length r.old = (let a = can.some in omega (arith, a)) in
      first_small_at sh r working.lanes working.zones (can.each 0 some).word.plain some can.row

  part_at : (i : ℕ) → i < 8 → part_of sh v.fixed.lane (8 * line + i) ≡ SlotPart
  part_at i small = part_slot sh v.fixed.lane (8 * line + i) (length records) i free small refl

  -- the next word may be stored, and leaves the slot with one word more
  store_word : (i : ℕ) → i < 8 → (rs' : List Recorded) (slot' : List ℕ)
      → with_slot sh (class v.claims) (take i words ++ slice_index words i ∷ [])
      (log_with v records (take i words)) ≡ log_with v rs' slot'
      → (u : View) → Stored records (take i words) u → HasRoom u.changes → MayStore u (8 * line + i)
      (slice_index words i)
      × Stored rs' slot' (after u (Store (8 * line + i) (slice_index words i)))
      × FlushesSome line (after u (Store (8 * line + i) (slice_index words i))).changes
  store_word i small rs' slot' grows u s room =
      let long : length (take i words) ≡ i = length-take-le i words (omega (arith, eight, small)) in
      let low = working.lane in
      let t = slot_stored s.at (8 * line + i) (slice_index words i) (part_at i small)
      (λ y out e. ⊎_elim (λ (a : y < 8 * line_of_slot sh v.fixed.lane 0). omega (arith, a, e))
      (λ (a : 8 * line_of_slot sh v.fixed.lane 64 ≤ y). omega (arith, free, small, a, e)) out)
      rs' slot' grows in (
        may_store_slot s.at working (8 * line + i) (slice_index words i) (part_at i small)
            (omega (arith, free, small, low)) (small_spelled sh (class v.claims) v.log.generation r
            i (let b = working.below in omega (arith, b)) first_small can.most
            (λ j lower. (can.each j lower).small) small)
            room free r can new (sym (take_more words i 0 (omega (arith, eight, small)))
            ∙ ap (λ n. take (n + 1) words) (sym long)) (ap (λ n. 8 * line + n) (sym long)),
        subst (Stored rs' slot') (sym t.0)
            (record { at = t.1; aside = (inr (omega (arith, small)), s.aside) }),
        subst (λ (w : View). FlushesSome line w.changes) (sym t.0) (
          0,
          slot_change (8 * line + i),
          omega arith,
          refl,
          (eq-eqb ((8 * line + i) / 8) line (omega (arith, small)), refl),
        ),
      )

  one_more : (i : ℕ) → i < 7 → with_slot sh (class v.claims) (take i words ++ slice_index words i
      ∷ []) (log_with v records (take i words)) ≡ log_with v records (take (i + 1) words)
  one_more i small = ap (λ ws. with_slot sh (class v.claims) ws (log_with v records (take i words)))
      (sym (take_more words i 0 (omega (arith, eight, small))))
      ∙ slot_short sh (class v.claims) (take (i + 1) words) (log_with v records (take i words))
      (let n = length-take-le (i + 1) words (omega (arith, eight, small)) in
      omega (arith, n, small))

  last_one : with_slot sh (class v.claims) (take 7 words ++ slice_index words 7 ∷ [])
      (log_with v records (take 7 words)) ≡ log_with v (records ++ r ∷ []) []
  last_one = ap (λ ws. with_slot sh (class v.claims) ws (log_with v records (take 7 words)))
      (sym (take_more words 7 0 (omega (arith, eight))) ∙ take_all 8 words (omega (arith, eight)))
      ∙ slot_whole sh (class v.claims) words (log_with v records (take 7 words)) r eight
      (spelled_back sh (class v.claims) v.log.generation r can.some can.most can.use_)

  -- THE RECORD STANDS, and its line is flushed
  pub record Written (u : View) : Type 0 where
    pub at : Logging v (IsNoSlot v.fixed.shape v.fixed.lane) (records ++ r ∷ []) [] u
    pub aside : AllByRecursion (IsAside sh) u.changes
    pub drops : DropsSome u.changes

  abbrev pub Ready_ : View → Type 0
  Ready_ u = Logging v (IsNoSlot v.fixed.shape v.fixed.lane) records [] u × AllByRecursion (IsAside sh) u.changes

  pub record_written : Goes Ready_ (writes_record sh v.fixed.lane v.log.generation (length records)
      (kept_of sh r)) Written
  unfolding writes_slot stores_from repeated
  record_written = goes_then Ready_ Whole Written (repeated step (length words)) (one (Flush line))
      all_stored (goes_one Whole Written (Flush line) (λ u p. (
        p.1,
        tt,
        record {
          at = record {
            notes = p.0.at.notes;
            are = p.0.at.are;
            each = p.0.at.each;
            same = ap (λ (y : View). record y {
              changes = flushed line u.changes;
              calls = Flush line ∷ u.calls;
            }) p.0.at.same;
            known_ = p.0.at.known_;
            pictured_ = p.0.at.pictured_;
          };
          aside = flushed_aside sh line u.changes p.0.aside;
          drops = flush_drops line u.changes p.1;
        },
      )))
    where
      step : ℕ → Plan
      step i = stores (8 * line + i) (slice_index words i)

      all_stored : Goes Ready_ (repeated step (length words)) Whole
      all_stored = subst (λ n. Goes Ready_ (repeated step n) Whole) (sym eight)
          (goes_weaker (Stored records []) Ready_ Whole Whole (repeated step 8)
          (λ u p. record { at = p.0; aside = aside_weaker sh line u.changes p.1 }) (λ u p. p)
          (goes_then (Stored records []) (Stored records (take 7 words)) Whole (repeated step 7)
          (step 7)
          (goes_repeated (λ i. Stored records (take i words)) step 7
          (λ i small. goes_stores (Stored records (take i words))
          (Stored records (take (i + 1) words)) (8 * line + i) (slice_index words i)
          (stays records (take i words))
          (λ u s room. let t = store_word i (omega (arith, small)) records (take (i + 1) words)
          (one_more i small) u s room in (t.0, t.1))))
          (goes_stores (Stored records (take 7 words)) Whole (8 * line + 7) (slice_index words 7)
          (stays records (take 7 words)) (λ u s room. let t = store_word 7 (omega arith)
          (records ++ r ∷ []) [] last_one u s room in (t.0, (t.1, t.2))))))
