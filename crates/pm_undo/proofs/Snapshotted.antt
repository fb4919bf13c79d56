-- A snapshot is lawful, and leaves its records.
use Rattle.std.proofs.Common.{◌≡◌, ℕ, zero, suc, ◌+◌, ◌<◌, inl, ⊎_elim, Bool, true, false, cond, not, List, [], ◌∷◌, length, map, get_or, refl, sym, ap, ◌∙◌, subst, arith, Option, None, Some}
use Rattle.std.specs.Prelude.{slice_index, unwrap_or}
use Rattle.std.specs.List.{AllByRecursion}
use Rattle.std.proofs.lemmas.Bool.{both_ways}
use Rattle.std.proofs.lemmas.List.FromFn.{length-map-range_with_len}
use Rattle.pm_layout.specs.declared.shape.Shape.{Shape}
use Rattle.pm_layout.specs.Chunks.{words_of}
use Rattle.pm_view.specs.Changes.{Undrained, drained}
use Rattle.pm_view.specs.Claims.{Drained, class}
use Rattle.pm_view.specs.Founds.{knows}
use Rattle.pm_view.specs.Log.{Open, Recorded, log_drained}
use Rattle.pm_view.specs.Places.{Place, RootWord, place_after, is_data, word_of}
use Rattle.pm_view.specs.View.{View}
use Rattle.pm_view.specs.Views.{drained_to, decided_by}
use Rattle.pm_view.specs.Steps.Step.{Drain}
use Rattle.pm_world.specs.Lawful.{CanRecord, place_in}
use Rattle.pm_world.specs.LaneFields.{kept_of, padded}
use Rattle.pm_world.specs.Logs.{AreInRow}
use Rattle.pm_undo.specs.declared.spans.Span.{Span}
use Rattle.pm_world.proofs.PlacesAt.{is_at}
use Rattle.pm_plan.specs.Plans.{known_word}
use Rattle.pm_undo.specs.Records.{kept_in, recorded_in, words_of_span}
use Rattle.pm_undo.specs.Spans.{ArePast}
use Rattle.pm_plan.specs.Notes.{IsBeyond}
use Rattle.pm_world.specs.declared.lane.KeptRecord.{KeptRecord}
use Rattle.pm_undo.proofs.Apart.{span_of}
use Rattle.pm_plan.proofs.AreaParts.{in_pool}
use Rattle.pm_undo.proofs.OneRecord.{IsAside}

module _ (v : View) (s : Span) (can : CanRecord v (recorded_in v s)) where
  abbrev r : Recorded
  r = recorded_in v s

  -- it has as many words, from the span's word on
  pub count_so : length r.old ≡ s.count
  count_so = length-map-range_with_len (known_word v) s.word s.count

  first_low : 0 < length r.old
  first_low = let some = can.some in omega (arith, some)

  pub word_so : word_of v.fixed.shape r.place ≡ s.word
  word_so = go (place_in v s.word) refl (can.each 0 first_low).word.plain
    where
      go : (q : Option Place) → place_in v s.word ≡ q → is_data (place_after (unwrap_or (place_in v s.word) RootWord) 0) ≡ true → word_of v.fixed.shape (unwrap_or (place_in v s.word) RootWord) ≡ s.word
      go None e plain = absurd (both_ways false refl (sym (ap (λ o. is_data (place_after (unwrap_or o RootWord) 0)) e) ∙ plain))
      go (Some p) e plain = ap (λ o. word_of v.fixed.shape (unwrap_or o RootWord)) e ∙ (is_at v.fixed.shape (class v.claims) s.word p e).word

  -- each word is data of a chunk that the lane knows
  pub record Looks (i : ℕ) : Type 0 where
    pub place : Place
    pub plain : is_data place ≡ true
    pub at : place_in v (s.word + i) ≡ Some place
    pub inside : s.word + i < words_of v.fixed.shape
    pub known_ : knows v (s.word + i) ≡ Some (known_word v (s.word + i))

  some_known : (o : Option ℕ) (x : ℕ) → o ≡ Some x → o ≡ Some (unwrap_or o 0)
  some_known None x e = e ∙ absurd (Rattle.std.proofs.lemmas.Option.none-some x e)
  some_known (Some y) x e = refl

  pub looks_so : (i : ℕ) → i < s.count → Looks i
  looks_so i low =
      let small : i < length r.old = (let n = count_so in omega (arith, low, n)) in
      let c = can.each i small in
      let word : word_of v.fixed.shape (place_after r.place i) ≡ s.word + i = (can.row i small).1 ∙ ap (λ n. n + i) word_so in
      record {
        place = place_after r.place i;
        plain = c.word.plain;
        at = ap (place_in v) (sym word) ∙ c.word.use_;
        inside = subst (λ w. w < words_of v.fixed.shape) word (in_pool v.fixed.shape (place_after r.place i) c.word.plain c.word.place);
        known_ = some_known (knows v (s.word + i)) (slice_index r.old i) (ap (knows v) (sym word) ∙ c.word.present);
      }

-- the lane keeps of each span what its view records
pub kept_so : (v : View) (s : Span) → CanRecord v (recorded_in v s) → kept_in v s ≡ kept_of v.fixed.shape (recorded_in v s)
kept_so v s can = ap (λ w. kept w s.count) (sym (word_so v s can)) ∙ ap (kept (word_of v.fixed.shape (recorded_in v s).place)) (sym (count_so v s can))
  where
    kept : ℕ → ℕ → KeptRecord
    kept word count = record { word = word; count = count; old = padded (words_of_span v s) }

pub all_kept : (v : View) (spans : List Span) → AllByRecursion (λ (s : Span). CanRecord v (recorded_in v s)) spans → map (kept_in v) spans ≡ map (kept_of v.fixed.shape) (map (recorded_in v) spans)
all_kept v [] can = refl
all_kept v (s ∷ spans) can = ap (λ k. k ∷ map (kept_in v) spans) (kept_so v s can.0) ∙ ap (λ l. kept_of v.fixed.shape (recorded_in v s) ∷ l) (all_kept v spans can.1)

pub all_past : (v : View) (b : ℕ) (spans : List Span) → AllByRecursion (λ (s : Span). CanRecord v (recorded_in v s)) spans → ArePast b spans → ArePast b (map (span_of v.fixed.shape) (map (recorded_in v) spans))
all_past v b [] can past = tt
all_past v b (s ∷ spans) can past = let w = word_so v s can.0 in let n = count_so v s can.0 in let q = past.0 in
    (omega (arith, w, q), subst (λ e. ArePast e (map (span_of v.fixed.shape) (map (recorded_in v) spans))) (let e : s.word + s.count ≡ word_of v.fixed.shape (recorded_in v s).place + length (recorded_in v s).old = omega (arith, w, n) in e) (all_past v (s.word + s.count) spans can.1 past.1))

pub all_rows : (v : View) (spans : List Span) → AllByRecursion (λ (s : Span). CanRecord v (recorded_in v s)) spans → AllByRecursion (AreInRow v.fixed.shape) (map (recorded_in v) spans)
all_rows v [] can = tt
all_rows v (s ∷ spans) can = (can.0.row, all_rows v spans can.1)

pub at_index : {A : Type 0} (P : A → Type 0) (xs : List A) (d : A) (k : ℕ) → AllByRecursion P xs → k < length xs → P (get_or xs k d)
at_index P [] d k all low = absurd (omega (arith, low))
at_index P (x ∷ xs) d zero all low = all.0
at_index P (x ∷ xs) d (suc k) all low = at_index P xs d k all.1 (omega (arith, low))

-- a drain of an open call leaves what no flush has marked
pub drained_open : (u : View) (left : List Undrained) → u.log.phase ≡ Open → drained_to u left ≡ record u { claims = Drained left ∷ u.claims; changes = left; calls = Drain ∷ u.calls }
drained_open u [] open_ = ap (λ ph. record u { claims = decided_by ph u.log.entries (Drained [] ∷ u.claims); changes = []; calls = Drain ∷ u.calls; log = log_drained ph u.log }) open_
drained_open u (c ∷ left) open_ = refl

pub left_beyond : (sh : Shape) (changes : List Undrained) → AllByRecursion (IsAside sh) changes → AllByRecursion (λ (c : Undrained). IsBeyond sh c.word) (drained changes)
left_beyond sh [] all = tt
left_beyond sh (c ∷ changes) all = go c.flushed refl all.0 (left_beyond sh changes all.1)
  where
    go : (f : Bool) → c.flushed ≡ f → IsAside sh c → AllByRecursion (λ (d : Undrained). IsBeyond sh d.word) (drained changes) → AllByRecursion (λ (d : Undrained). IsBeyond sh d.word) (cond (not f) (c ∷ drained changes) (drained changes))
    go true e is rest = rest
    go false e is rest = (⊎_elim (λ (far : IsBeyond sh c.word). far) (λ (t : c.flushed ≡ true). absurd (both_ways c.flushed e t)) is, rest)

pub aside_beyond : (sh : Shape) (changes : List Undrained) → AllByRecursion (λ (c : Undrained). IsBeyond sh c.word) changes → AllByRecursion (IsAside sh) changes
aside_beyond sh [] all = tt
aside_beyond sh (c ∷ changes) all = (inl all.0, aside_beyond sh changes all.1)
