-- A bit of a run's occupancy word that a lane finds set: an object stands in the block, in every
-- pool of kept calls, or the block is some lane's.
use Rattle.std.proofs.Common.{◌≡◌, ◌≢◌, ◌⊎◌, inl, inr, ⊎_elim, ℕ, zero, suc, ◌+◌, ◌*◌, ◌<◌, ◌≤◌}
use Rattle.std.proofs.Common.{nat_lt, ◌&&◌, Bool, true, false, IsSome}
use Rattle.std.proofs.Common.{Option, None, Some, refl, sym, ap, ◌∙◌, subst, arith}
use Rattle.std.proofs.lemmas.Bool.{and_from, both_ways, cases_Bool, cases_lt, cond-false}
use Rattle.std.proofs.lemmas.Bool.{cond-true, lt-ltb, or_left}
use Rattle.pm_layout.specs.Chunks.{chunks_of, page_of_chunk}
use Rattle.pm_layout.specs.Sizes.{block_place, blocks_of}
use Rattle.pm_layout.specs.declared.shape.Shape.{Shape}
use Rattle.pm_objects.specs.Pool.{object_at}
use Rattle.pm_objects.specs.declared.pool.Object.{Object}
use Rattle.pm_image.specs.Blocks.{chunk_word}
use Rattle.pm_view.specs.declared.occ.Occ.TheVariants.{Run}
use Rattle.pm_view.specs.Claims.{class, making}
use Rattle.pm_view.specs.Entries.{first_of_two, latest, redos, turn}
use Rattle.pm_view.specs.Log.{Phase, Idle, Open, Drawn, Sealing, Applying, Clearing, Retiring}
use Rattle.pm_view.specs.Log.{Voiding}
use Rattle.pm_view.specs.Places.{InRun, Small}
use Rattle.pm_world.specs.CauseLaws.{IsSomeones}
use Rattle.pm_world.specs.Crash.{is_decided_in, is_kept}
use Rattle.pm_world.specs.Lanes.{in_flight, is_occupancy, is_taken, own, valid}
use Rattle.pm_world.specs.Lawful.{is_mine}
use Rattle.pm_world.specs.Memory.{Memory, cells_of}
use Rattle.pm_world.specs.Sights.{sight_of}
use Rattle.pm_world.specs.States.{over, there}
use Rattle.pm_world.specs.World.{Opening, Past, Views, World, ghost_of, settled_words}
use Rattle.pm_world.proofs.Crashes.{some_lane}
use Rattle.pm_world.proofs.WordPlaces.{run_chunk_is}
use Rattle.pm_world.proofs.OccupancyShown.{load_shows_taken, taken_is_someones}
use Rattle.pm_crash.specs.Answers.{FullRuns, ImagesHaveObject, IsSomeLanes, ObjectStands}
use Rattle.pm_crash.specs.Answers.{offset_by}
use Rattle.pm_crash.specs.Footprints.{KeepsDecided, kept_bits}
use Rattle.pm_crash.specs.Objects.{is_allocated, lines_of}
use Rattle.pm_crash.specs.Spelled.{words_by}
use Rattle.pm_crash.proofs.BitsBlocks.{allocated_block}
use Rattle.pm_crash.proofs.Classes.{run_has_lines}
use Rattle.pm_crash.proofs.GoodBits.{few_blocks, held_good}
use Rattle.pm_crash.proofs.KeptBits.{is_flight_kept, kept_over, option_cases, owner_of}
use Rattle.pm_crash.proofs.KeptBits.{unowned_same}
use Rattle.pm_crash.proofs.Missing.{classes_hold}
use Rattle.pm_crash.proofs.ObjectsOfBlocks.{object_is_there}
use Rattle.pm_crash.proofs.Replaying.{history_holds}

kept_flies : (keep : ℕ → Bool) (ph : Phase) → is_flight_kept keep ph ≡ true → in_flight ph ≡ true
kept_flies keep Idle e = absurd (both_ways false refl e)
kept_flies keep Open e = absurd (both_ways false refl e)
kept_flies keep (Drawn n) e = refl
kept_flies keep (Sealing n) e = refl
kept_flies keep (Applying todo) e = absurd (both_ways false refl e)
kept_flies keep Clearing e = absurd (both_ways false refl e)
kept_flies keep (Retiring n) e = refl
kept_flies keep Voiding e = absurd (both_ways false refl e)

module _ (o : Opening) (mem : Memory) (views : Views) (g : Past) (x : World o mem views g)
    (c i : ℕ) where
  -- a lane that makes a run, or has a call in flight, is one that runs
  maker_runs : (j : ℕ) → making (views j).fixed.shape (views j).claims c ≡ true → j < o.lanes
  maker_runs j m = ⊎_elim (λ (l : j < o.lanes). l)
      (λ (l : o.lanes ≤ j). absurd (both_ways false refl
      (subst (λ t. making (views j).fixed.shape t c ≡ true) (x.idle_beyond j l).2 m)))
      (cases_lt j o.lanes)

  flight_runs : (j : ℕ) → in_flight (views j).log.phase ≡ true → j < o.lanes
  flight_runs j f = ⊎_elim (λ (l : j < o.lanes). l)
      (λ (l : o.lanes ≤ j). absurd (both_ways false refl
      (subst (λ ph. in_flight ph ≡ true) (x.idle_beyond j l).1 f)))
      (cases_lt j o.lanes)

  -- ---- THE BLOCK STANDS in the kept bits, or a call in flight frees it
  abbrev StandsKept : Type 0
  StandsKept = (keep : ℕ → Bool) → KeepsDecided g keep
      → there (kept_bits o g keep g.length) (Small c i) ≡ true

  module _ (set : there (settled_words o g) (Small c i) ≡ true) (j : ℕ)
      (others : (k : ℕ) → k ≢ j → own (sight_of (views k)).hold (Small c i) ≡ false) where
    abbrev act : Option Bool
    act = turn (latest (redos (views j).log.entries)) (Small c i)

    abbrev now : Bool
    now = settled_words o g (InRun c 0) i

    unless_freed : (in_flight (views j).log.phase ≡ true → act ≡ Some false → ⊥) → StandsKept
    unless_freed none keep d =
        let ph = (views j).log.phase in
        let is = kept_over o mem views g x keep d j (InRun c 0) i others in
        ⊎_elim
        (λ (f : is_flight_kept keep ph ≡ true).
        is ∙ (cond-true (is_flight_kept keep ph) (over (first_of_two act None) now) now f
        ∙ ⊎_elim
        (λ (e : act ≡ None). ap (λ a. over (first_of_two a None) now) e ∙ set)
        (⊎_elim
        (λ (e : act ≡ Some true). ap (λ a. over (first_of_two a None) now) e)
        (λ (e : act ≡ Some false). absurd (none (kept_flies keep ph f) e)))
        (option_cases act)))
        (λ (f : is_flight_kept keep ph ≡ false).
        is ∙ (cond-false (is_flight_kept keep ph) (over (first_of_two act None) now) now f ∙ set))
        (cases_Bool (is_flight_kept keep ph))

    by_owner : StandsKept ⊎ IsSomeLanes o views c i
    by_owner = ⊎_elim
        (λ (f : in_flight (views j).log.phase ≡ true). ⊎_elim
        (λ (e : act ≡ None).
        inl (unless_freed (λ _ q. let z : None ≡ Some false = sym e ∙ q in absurd cc)))
        (⊎_elim
        (λ (e : act ≡ Some true).
        inl (unless_freed (λ _ q. let z : Some true ≡ Some false = sym e ∙ q in absurd cc)))
        (λ (e : act ≡ Some false).
        inr (record { lane = j; runs = flight_runs j f; is = inr (inl (f, e)) })))
        (option_cases act))
        (λ (f : in_flight (views j).log.phase ≡ false).
        inl (unless_freed (λ t _. both_ways (in_flight (views j).log.phase) f t)))
        (cases_Bool (in_flight (views j).log.phase))

  stands : there (settled_words o g) (Small c i) ≡ true → StandsKept ⊎ IsSomeLanes o views c i
  stands set = ⊎_elim
      (λ (y : (j : ℕ) × (own (sight_of (views j)).hold (Small c i) ≡ true)
      × ((k : ℕ) → k ≢ j → own (sight_of (views k)).hold (Small c i) ≡ false)).
      by_owner set y.0 (λ k ne. y.2 k ne))
      (λ (y : (j : ℕ) → own (sight_of (views j)).hold (Small c i) ≡ false).
      inl (λ keep d. unowned_same o mem views g x keep d (InRun c 0) i (λ j. y j) ∙ set))
      (owner_of o mem views g x (λ n. true) (λ n l e. refl) (Small c i))

  -- ---- A KNOWN CLASS is that of a run, or of one that some lane makes
  module _ (k : ℕ) (inside : i < blocks_of (class (views k).claims c)) where
    some_lines : 1 ≤ class (views k).claims c
    some_lines = run_has_lines (class (views k).claims c) i inside

    known : g.geo.class c ≡ class (views k).claims c
    known = let n : ℕ = class (views k).claims c in let l : 1 ≤ n = some_lines in
        classes_hold o mem views g x k c (λ z. let none : n ≡ 0 = z in omega arith)

    abbrev maker : ℕ → Bool
    maker j = making (views j).fixed.shape (views j).claims c

    told : (n : ℕ) → class (views k).claims c ≡ n → 1 ≤ n → (cells_of o.shape mem).descr c ≡ n
    told zero e l = absurd (omega arith)
    told (suc n) e l = (x.bits.each_lane k).hold.seen c n e

    is_valid : ((j : ℕ) → maker j ≡ false) → valid (ghost_of g) (Small c i) ≡ true
    is_valid none =
        let n : ℕ = class (views k).claims c in let some : 1 ≤ n = some_lines in
        ⊎_elim
        (λ (r : g.runs c ≡ true). and_from (g.runs c) (nat_lt i (blocks_of (g.geo.class c))) r
        (lt-ltb i (blocks_of (g.geo.class c)) (subst (λ m. i < blocks_of m) (sym known) inside)))
        (λ (r : g.runs c ≡ false).
        let z : n ≡ 0 = sym (told n refl some) ∙ (x.bits.descr c (λ j. none j)
        ∙ cond-false (g.runs c) (g.geo.class c) 0 r) in absurd (omega arith))
        (cases_Bool (g.runs c))

    run_or_made : (valid (ghost_of g) (Small c i) ≡ true) ⊎ IsSomeLanes o views c i
    run_or_made = ⊎_elim
        (λ (y : (j : ℕ) × (maker j ≡ true)).
        inr (record { lane = y.0; runs = maker_runs y.0 y.1; is = inr (inr y.1) }))
        (λ (y : (j : ℕ) → j < o.lanes → maker j ≡ false). inl (is_valid (λ j. ⊎_elim
        (λ (l : j < o.lanes). y j l)
        (λ (l : o.lanes ≤ j). ap (λ t. making (views j).fixed.shape t c) (x.idle_beyond j l).2)
        (cases_lt j o.lanes))))
        (some_lane maker o.lanes)

    -- ---- AN OBJECT STANDS where the block does
    object_stands : c < chunks_of o.shape → StandsKept
        → ObjectStands o g (offset_by o.shape (class (views k).claims) (Small c i))
    object_stands l kept keep d header pool r =
        let sh = o.shape in let s = kept_bits o g keep g.length in
        let few = few_blocks (class (views k).claims c) in
        let good = held_good sh g.geo.class s header r.last r.holds in
        let a : is_allocated sh s (Small c i) ≡ true =
        and_from (is_occupancy sh (Small c i)) (true && s (InRun c 0) i)
        (and_from (nat_lt c (chunks_of sh)) (nat_lt i 64) (lt-ltb c (chunks_of sh) l)
        (lt-ltb i 64 (omega arith)))
        (kept keep d) in
        let at = object_is_there (words_by sh g.geo.class s) sh.lanes sh.zones header r.last
        (lines_of sh g.geo.class s (Small c i)) r.holds
        (allocated_block sh g.geo.class s good.runs good.whole (Small c i) a) in
        subst
        (λ m. IsSome (object_at r.last.objects (block_place (8 * chunk_word sh.lanes c) m i + 64)))
        known
        (subst (λ (found : Option Object). IsSome found) (sym at.found) refl)

-- ---- THE LAWS

pub full_runs : FullRuns
full_runs o old new views g k place found i x ink law moves c at inside set =
    let few = few_blocks (class (views k).claims c) in
    let small : i < 64 = omega arith in
    let has = law.allowed in
    let sh = (x.each_lane k ink).shape in
    let page : place ≡ 4096 * page_of_chunk o.shape has.0 =
    has.2 ∙ ap (λ h. 4096 * page_of_chunk h has.0) sh in
    let chunk : c ≡ has.0 = at ∙ run_chunk_is o.shape has.0 place page in
    let l : c < chunks_of o.shape = subst (λ n. n < chunks_of o.shape) (sym chunk)
    (subst (λ (h : Shape). has.0 < chunks_of h) sh has.1) in
    let taken : is_taken (settled_words o g) (ghost_of g) (Small c i) ≡ true =
    ap (λ n. is_taken (settled_words o g) (ghost_of g) (Small n i)) at
    ∙ (sym (load_shows_taken o old new views g k found (Run place) i x ink law moves small)
    ∙ set) in
    let someones : IsSomeones o views g (Small c i)
    → ObjectStands o g (offset_by o.shape (class (views k).claims) (Small c i))
    ⊎ IsSomeLanes o views c i =
    ⊎_elim
    (λ (t : there (settled_words o g) (Small c i) ≡ true). ⊎_elim
    (λ (y : StandsKept o old views g x c i). inl (object_stands o old views g x c i k inside l y))
    (λ (y : IsSomeLanes o views c i). inr y)
    (stands o old views g x c i t))
    (λ (y : (j : ℕ) × (j < o.lanes) × (is_mine (views j) (Small c i) ≡ true)).
    inr (record { lane = y.0; runs = y.1; is = inl y.2 })) in
    ⊎_elim
    (λ (v : valid (ghost_of g) (Small c i) ≡ true). ⊎_elim
    (λ (u : valid (ghost_of g) (Small c i) ≡ false).
    absurd (both_ways (valid (ghost_of g) (Small c i)) u v))
    someones
    (taken_is_someones o old views g x (Small c i) taken))
    (λ (y : IsSomeLanes o views c i). inr y)
    (run_or_made o old views g x c i k inside)

pub images : ImagesHaveObject
images o views g header pool image fp facts opens off is =
    let keep : ℕ → Bool = is_kept o views g image in
    let d : KeepsDecided g keep =
    λ n l e. or_left (g.decided n) (is_decided_in image views o.lanes n) e in
    let r = history_holds o views g header pool fp facts opens keep d g.length (omega arith) in
    record { last = r.last; replay = r.replay; some = is keep d header pool r }
