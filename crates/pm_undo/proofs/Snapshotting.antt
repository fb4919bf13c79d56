-- A snapshot is lawful: its words are looked at, and get records, which are drained.
use Rattle.std.proofs.Common.{◌≡◌, ℕ, zero, suc, ◌+◌, ◌<◌, ◌≤◌, false, List, [], ◌∷◌, ◌++◌, length, map, take, get_or, refl, sym, ap, ◌∙◌, subst, arith, Some, length-append}
use Rattle.std.specs.Prelude.{unwrap_or}
use Rattle.std.specs.List.{AllByRecursion}
use Rattle.std.proofs.lemmas.List.{append_assoc, append-nil, get_or-map, length-map, take_more, take_all, length-take-le}
use Rattle.pm_layout.specs.declared.shape.Shape.{Shape}
use Rattle.pm_layout.specs.Chunks.{words_of}
use Rattle.pm_view.specs.Changes.{Undrained, drained}
use Rattle.pm_view.specs.Claims.{Knows, SawBitmap, Drained, class, known}
use Rattle.pm_view.specs.Counts.{DropsSome}
use Rattle.pm_view.specs.Founds.{knows}
use Rattle.pm_view.specs.Log.{Recorded}
use Rattle.pm_view.specs.Parts.{ChunkPart}
use Rattle.pm_view.specs.Places.{place_after}
use Rattle.pm_view.specs.Steps.Step.{Load, Drain}
use Rattle.pm_view.specs.View.{View, Constants, runs_one}
use Rattle.pm_view.specs.Views.{after, drained_to, seen_by}
use Rattle.pm_world.specs.LaneFields.{kept_of}
use Rattle.pm_world.specs.Lawful.{CanRecord}
use Rattle.pm_world.specs.Sights.{is_recorded}
use Rattle.pm_world.proofs.PlacesAt.{is_at}
use Rattle.pm_plan.specs.Plans.{in_turn, known_word, looks, one, repeated}
use Rattle.pm_plan.proofs.Going.{Goes, goes_look, goes_one, goes_repeated, goes_then, goes_weaker}
use Rattle.pm_undo.specs.Plans.{looks_at, looks_first, looks_from, writes_all, writes_record, writes_records}
use Rattle.pm_undo.specs.Records.{no_record, record_at, recorded_in}
use Rattle.pm_undo.specs.Spans.{ArePast, no_span, span_at}
use Rattle.pm_plan.specs.Notes.{IsBeyond, Valued, Looked}
use Rattle.pm_undo.specs.Working.{IsNoSlot, IsWorking}
use Rattle.pm_undo.specs.declared.spans.Span.{Span}
use Rattle.pm_plan.proofs.AreaParts.{data_beyond, data_part}
use Rattle.pm_undo.proofs.Apart.{early_none, no_recorded, not_in_both}
use Rattle.pm_undo.proofs.Logging.{AreBeyond, Logging, beyond_slots, class_so, drained_more, fixed_so, knows_so, noted_more, noted_others, starts, view_with}
use Rattle.pm_plan.proofs.Notes.{known_again, known_noted, pictured_again}
use Rattle.pm_undo.proofs.OneRecord.{IsAside, Ready_, Written, record_written}
use Rattle.pm_undo.proofs.Snapshotted.{all_past, all_rows, aside_beyond, at_index, drained_open, left_beyond, looks_so}

module _ (v : View) (working : IsWorking v) where
  abbrev sh : Shape
  sh = v.fixed.shape

  abbrev before : List Recorded
  before = v.log.records

  -- the lane has these records, with nothing undrained in the areas
  abbrev pub HasClean : List Recorded → View → Type 0
  HasClean records u = Logging v (IsNoSlot sh v.fixed.lane) records [] u × AreBeyond sh u.changes

  pub clean_start : HasClean before v
  clean_start = (starts v working (IsNoSlot sh v.fixed.lane), working.clean)

  -- ---- looking at a word
  module _ (u : View) (at : Logging v (IsNoSlot sh v.fixed.lane) before [] u) (w x : ℕ) (e : knows u w ≡ Some x)
    where
      known_now : known sh (runs_one v) u.claims w ≡ Some x
      known_now = sym (ap (λ (y : View). knows y w) at.same) ∙ e

      looked : (c i : ℕ) → (i ≡ 0 → class v.claims c ≡ 0) → Logging v (IsNoSlot sh v.fixed.lane) before []
          (view_with v (Knows w x ∷ seen_by (ChunkPart c i) x u.claims) u.changes u.calls before [])
      looked c zero huge =
          let none : class u.claims c ≡ 0 = ap (λ cl. cl c) (class_so at) ∙ huge refl in
          let one = noted_others at (Looked c x) none (λ y out. tt) u.changes u.calls before [] in
          let seen : known sh (runs_one v) (SawBitmap c x ∷ u.claims) w ≡ Some x =
          known_noted sh u.claims (runs_one v) (Looked c x) none w tt ∙ known_now in
          noted_more one (Valued w x) tt
          (λ y out. known_again sh (SawBitmap c x ∷ u.claims) (runs_one v) w x seen y)
          (λ y out. pictured_again sh (SawBitmap c x ∷ u.claims) (runs_one v) w x seen y)
          u.changes u.calls before []
      looked c (suc i) huge = noted_more at (Valued w x) tt
          (λ y out. known_again sh u.claims (runs_one v) w x known_now y)
          (λ y out. pictured_again sh u.claims (runs_one v) w x known_now y)
          u.changes u.calls before []

  look_word : (s : Span) → CanRecord v (recorded_in v s) → (i : ℕ) → i < s.count
      → Goes (HasClean before) (looks (s.word + i)) (HasClean before)
  look_word s is i low = goes_look (HasClean before) (HasClean before) w (λ u p.
      let x : ℕ = known_word u w in
      let same : knows u w ≡ knows v w = knows_so p.0 w (beyond_slots v working w far) in
      let known_now_ : knows u w ≡ Some x = same
      ∙ (l.known_ ∙ ap (λ o. Some (unwrap_or o 0)) (sym same)) in
      let step : after u (Load w x) ≡ view_with v (Knows w x ∷ seen_by (ChunkPart d.chunk d.at) x
      u.claims) u.changes u.calls before [] =
      ap (λ (y : View). after y (Load w x)) p.0.same
      ∙ ap (λ q. view_with v (Knows w x ∷ seen_by q x u.claims) u.changes u.calls before [])
      d.part in (
        subst (λ (g : Constants). w < words_of g.shape) (sym (fixed_so p.0)) l.inside,
        known_now_,
        subst (HasClean before) (sym step) (
          looked u p.0 w x known_now_ d.chunk d.at d.huge,
          p.1,
        ),
      ))
    where
      w : ℕ
      w = s.word + i

      l : Rattle.pm_undo.proofs.Snapshotted.Looks v s is i
      l = looks_so v s is i low

      far : IsBeyond sh (s.word + i)
      far = subst (IsBeyond sh) (is_at sh (class v.claims) (s.word + i) l.place l.at).word
          (data_beyond sh l.place l.plain)

      d : Rattle.pm_plan.proofs.AreaParts.OfChunk sh (class v.claims) v.fixed.lane (s.word + i)
          l.place
      d = data_part sh (class v.claims) v.fixed.lane (s.word + i) l.place working.lane l.plain l.at

  pub looks_some : (s : Span) → CanRecord v (recorded_in v s) → (m : ℕ) → m ≤ s.count
      → Goes (HasClean before) (looks_from s.word m) (HasClean before)
  unfolding looks_from
  looks_some s is m most = goes_repeated (λ _. HasClean before) (λ i. looks (s.word + i)) m
      (λ i small. look_word s is i (omega (arith, small, most)))

  module _ (spans : List Span) (can : AllByRecursion (λ (s : Span). CanRecord v (recorded_in v s))
      spans) where
    pub looks_firsts : (n : ℕ) → n ≤ length spans → Goes (HasClean before) (looks_first spans n)
        (HasClean before)
    unfolding looks_first
    looks_firsts n most = goes_repeated (λ _. HasClean before)
        (λ i. looks_from (span_at spans i).word (span_at spans i).count) n
        (λ k low. looks_some (span_at spans k)
        (at_index (λ (s : Span). CanRecord v (recorded_in v s)) spans no_span k can
        (omega (arith, low, most))) (span_at spans k).count (omega arith))

    pub looks_all : Goes (HasClean before) (looks_at spans) (HasClean before)
    unfolding looks_at
    looks_all = looks_firsts (length spans) (omega arith)

    -- ---- writing the records
    module _ (past : ArePast 0 spans) (room : length before + length spans ≤ 64) where
      abbrev records : List Recorded
      records = map (recorded_in v) spans

      many : length records ≡ length spans
      many = length-map spans (recorded_in v)

      all_can : (ss : List Span) → AllByRecursion (λ (s : Span). CanRecord v (recorded_in v s)) ss
          → AllByRecursion (CanRecord v) (map (recorded_in v) ss)
      all_can [] is = tt
      all_can (s ∷ ss) is = (is.0, all_can ss is.1)

      -- so many of the records stand
      pub record Stand (k : ℕ) (u : View) : Type 0 where
        pub at : Logging v (IsNoSlot sh v.fixed.lane) (before ++ take k records) [] u
        pub aside : AllByRecursion (IsAside sh) u.changes
        pub drops : 1 ≤ k → DropsSome u.changes

      abbrev nth : ℕ → Recorded
      nth k = get_or records k no_recorded

      next : (k : ℕ) → k < length records
          → Goes (Stand k) (writes_record sh v.fixed.lane v.log.generation (length before + k)
          (record_at (map (kept_of sh) records) k)) (Stand (k + 1))
      next k low =
          subst (λ q. Goes (Stand k) (writes_record sh v.fixed.lane v.log.generation
          (length before + k) q) (Stand (k + 1)))
          (sym (get_or-map (kept_of sh) records k no_recorded no_record low))
          (subst (λ n. Goes (Stand k) (writes_record sh v.fixed.lane v.log.generation n
          (kept_of sh (nth k))) (Stand (k + 1))) slot
          (goes_weaker (Ready_ v working (before ++ take k records) (nth k) is new free) (Stand k)
          (Written v working (before ++ take k records) (nth k) is new free) (Stand (k + 1))
          (writes_record sh v.fixed.lane v.log.generation (length (before ++ take k records))
          (kept_of sh (nth k))) (λ u p. (p.at, p.aside))
          (λ u p. record {
            at = subst (λ rs. Logging v (IsNoSlot sh v.fixed.lane) rs [] u)
                (append_assoc before (take k records) (nth k ∷ [])
                ∙ ap (λ l. before ++ l) (sym (take_more records k no_recorded low))) p.at;
            aside = p.aside;
            drops = λ _. p.drops;
          })
          (record_written v working (before ++ take k records) (nth k) is new free)))
        where
          is : CanRecord v (get_or records k no_recorded)
          is = at_index (CanRecord v) records no_recorded k (all_can spans can) low

          slot : length (before ++ take k records) ≡ length before + k
          slot = length-append before (take k records) ∙ ap (λ n. length before + n)
              (length-take-le k records (omega (arith, low)))

          free : length (before ++ take k records) < 64
          free = let n = many in let m = slot in omega (arith, n, m, low, room)

          new : (i : ℕ) → i < length (get_or records k no_recorded).old
              → is_recorded (before ++ take k records)
              (place_after (get_or records k no_recorded).place i) ≡ false
          new i small = not_in_both before (take k records) (place_after (nth k).place i)
              (is.each i small).word.new
              (early_none sh 0 records k (all_past v 0 spans can past) (all_rows v spans can) low
              (place_after (nth k).place i) (let w = (is.row i small).1 in omega (arith, w)))

      written : Goes (Stand 0) (writes_records sh v.fixed.lane v.log.generation (length before)
          (map (kept_of sh) records)) (Stand (length records))
      unfolding writes_records
      written =
          subst (λ n. Goes (Stand 0)
          (repeated (λ i. writes_record sh v.fixed.lane v.log.generation (length before + i)
          (record_at (map (kept_of sh) records) i)) n) (Stand (length records)))
          (sym (length-map records (kept_of sh)))
          (goes_repeated Stand (λ i. writes_record sh v.fixed.lane v.log.generation
          (length before + i) (record_at (map (kept_of sh) records) i)) (length records) next)

      drained_all : 1 ≤ length records → Goes (Stand (length records)) (one Drain)
          (HasClean (before ++ records))
      drained_all some = goes_one (Stand (length records)) (HasClean (before ++ records)) Drain
          (λ u p.
          let left : List Undrained = drained u.changes in (
            p.drops some,
            tt,
            subst (HasClean (before ++ records))
                (sym (ap (λ (y : View). drained_to y left) p.at.same
                ∙ drained_open
                (view_with v u.claims u.changes u.calls (before ++ take (length records) records)
                []) left refl)) (
                  subst (λ rs. Logging v (IsNoSlot sh v.fixed.lane) (before ++ rs) []
                      (view_with v (Drained left ∷ u.claims) left (Drain ∷ u.calls)
                      (before ++ take (length records) records) []))
                      (take_all (length records) records (omega arith))
                      (drained_more p.at working left (Drain ∷ u.calls)),
                  left_beyond sh u.changes p.aside,
                ),
          ))

      -- the records are written after those that there are, and drained
      pub logs_some : 1 ≤ length records
          → Goes (HasClean before) (writes_all sh v.fixed.lane v.log.generation (length before)
          (map (kept_of sh) records)) (HasClean (before ++ records))
      unfolding writes_all
      logs_some some = goes_weaker (Stand 0) (HasClean before) (HasClean (before ++ records))
          (HasClean (before ++ records))
          (in_turn (writes_records sh v.fixed.lane v.log.generation (length before)
          (map (kept_of sh) records)) (one Drain))
          (λ u p. record {
            at = subst (λ rs. Logging v (IsNoSlot sh v.fixed.lane) rs [] u)
                (sym (append-nil before)) p.0;
            aside = aside_beyond sh u.changes p.1;
            drops = λ one_. absurd (omega (arith, one_));
          }) (λ u p. p)
          (goes_then (Stand 0) (Stand (length records)) (HasClean (before ++ records))
          (writes_records sh v.fixed.lane v.log.generation (length before)
          (map (kept_of sh) records)) (one Drain) written (drained_all some))
