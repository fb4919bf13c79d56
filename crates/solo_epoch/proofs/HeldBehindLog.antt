-- What a lane that is alone knows, it holds, from its call's draw to its log's end.
use Rattle.std.proofs.Common.{◌≡◌, ⊎_elim, ℕ, ◌-◌, ◌/◌, ◌%◌, ◌&&◌, ◌||◌, Bool, true, false, not, cond, eqb, leb, IsTrue, IfSome, All, Contains, List, [], ◌∷◌, flat_map, map, Option, Some, slice_index, slice_set, refl, sym, ap, ◌∙◌, subst}
use Rattle.std.specs.Int.{bit_at}
use Rattle.std.specs.List.{filter, list_any}
use Rattle.std.proofs.lemmas.Bool.{and_parts, cases_Bool, cond-false, cond-true, eqb-true, false≢true, or_cases, or_left, or_right, true_from_ne_false}
use Rattle.std.proofs.lemmas.List.{set-get_or}
use Rattle.std.proofs.lemmas.List.Elements.{All-cons, All-contains, All-contains_itself, All-filter, All-head, All-map, All-tail, All-weaker, filter_passes}
use Rattle.std.proofs.lemmas.List.Folds.{Any-from_list_any, list_any-from_Any}
use Rattle.pm_header.specs.declared.header.Header.{Header}
use Rattle.pm_objects.specs.declared.pool.PoolView.{PoolView}
use Rattle.solo_view.specs.declared.occ.Occ.{Occ}
use Rattle.solo_view.specs.declared.occ.Occ.TheVariants.{Run, Zone}
use Rattle.solo_view.specs.Area.{is_in_area}
use Rattle.solo_view.specs.Blocks.{allocation_word, block_at, covers, descriptor_word, is_run, is_word}
use Rattle.solo_view.specs.Founds.{FoundAlone, IsAlone}
use Rattle.solo_view.specs.Held.{is_held, is_reserved, is_under, is_under_found}
use Rattle.solo_view.specs.Log.{Log, log_drawn}
use Rattle.solo_view.specs.Occupancy.{is_taken}
use Rattle.solo_view.specs.Steps.{Step}
use Rattle.solo_view.specs.Steps.Step.{Load, Store, Or, And, Flush, Drain, TakeWrite, TakeRead, Raise, Give, ZoneTry, ZoneGive, Occupied, Occupy, Vacate, Draw, NumberSeen, StopSeen, SetStop, Tell}
use Rattle.solo_view.specs.View.{Lock, Taken, View}
use Rattle.solo_view.specs.Views.{after, allocated_by, changes_heap, has_bit, reserves, unallocated, with_block}
use Rattle.solo_view.proofs.SameLane.{same_lane-after}
use Rattle.solo_world.specs.Entries.{is_entered}
use Rattle.solo_world.specs.Fits.{LaneFits, LockFits}
use Rattle.solo_world.specs.Heap.{heap_words}
use Rattle.solo_world.specs.History.{Flies, settled}
use Rattle.solo_world.specs.Lawful.{Allowed}
use Rattle.solo_world.specs.Opening.{IsChunk, Opening}
use Rattle.solo_world.proofs.Chunks.{found_block, under_found}
use Rattle.solo_world.proofs.HeapWords.{no_run_taken}
use Rattle.solo_world.proofs.Reserved.{bit_had, reserved_of_pool}
use Rattle.solo_crash.specs.Alone.{WorksAlone}
use Rattle.solo_crash.specs.Publishing.{Published}
use Rattle.solo_crash.proofs.AloneCourse.{StandsAlone, begins_alone, stands_at}
use Rattle.solo_crash.proofs.AloneMemory.{memory_of}
use Rattle.solo_crash.proofs.OnTheWay.{alone_on_the_way}
use Rattle.solo_sealed.specs.Sealed.{Publishes, is_publishing}
use Rattle.solo_sealed.proofs.Stages.{IsAtStage}
use Rattle.solo_sealed.proofs.Steps.{at_after, at_first, begun_same, early_none, tell_none}
use Rattle.solo_epoch.specs.Epochs.{HasEntriesFor, LoadsNoneOf, MayPublish}
use Rattle.solo_epoch.proofs.HandedOver.{allocated, reserved_drawn}
use Rattle.solo_epoch.proofs.LeftBlocks.{left_before}
use Rattle.solo_epoch.proofs.PublishingHeap.{same_after}
use Rattle.solo_crash.proofs.ReservedBlocks.{found_stands}
use Rattle.solo_epoch.proofs.StandingPools.{own_fits}
use Rattle.solo_epoch.proofs.StayingWords.{run_stays, same_block}

-- ---- a draw's entries are those of the open call

pub drawn_entries : (u : View) (n : ℕ) → Allowed u (Draw n) → (after u (Draw n)).log.entries ≡ u.log.entries
drawn_entries u n draws = ap (λ (l : Log). l.entries) (ap (λ p. log_drawn p u.log) draws.is_open)

pub has_before : (u : View) (n : ℕ) (header : Header) (before made : PoolView) (all : List Published) → Allowed u (Draw n) → MayPublish (after u (Draw n)) header before made all → HasEntriesFor u header before made all
has_before u n header before made all draws may =
    record { entries = sym (drawn_entries u n draws) ∙ may.has.entries; below = may.has.below; was = may.has.was; holds = may.has.holds; can = may.has.can; objects = may.has.objects; ordered = may.has.ordered }

-- ---- from the draw on, where each run that it has blocks of is one by its words

module _ (b : View) (header : Header) (before now : PoolView) (all : List Published) (may : MayPublish b header before now all)
    (of_runs : (place bit : ℕ) → reserves b (Run place) bit ≡ true → IsChunk b.lanes (place / 4096) × (is_run (slice_index b.words (descriptor_word b.lanes (place / 4096))) ≡ true)) where
  -- the block that was found under the lock begins there at the draw
  abbrev IsFound : Lock → Type 0
  IsFound l = IfSome l.block (λ lines. block_at b.lanes b.words l.line ≡ Some lines)

  -- on the way it has what it had reserved, and holds what it knows
  pub record Holds (v : View) : Type 0 where
    pub at : IsAtStage b v
    pub reserved : v.reserved ≡ b.reserved
    pub found : All IsFound v.locks
    pub held : All (λ i. is_held v i ≡ true) v.known

  -- whether a word is in a block of a run, by the run's descriptor
  abbrev covers_by : ℕ → ℕ → ℕ → ℕ → Bool
  covers_by place bits i d = eqb (i / 512) (place / 4096) && leb 8 (i % 512) && eqb (bit_at bits ((i % 512 / 8 - 1) / (d / 256))) 1

  module _ (v w : View) (here : IsAtStage b v) (there : IsAtStage b w) where
    covers_on : (at : Occ) (bits i : ℕ) → ((bit : ℕ) → bit_at bits bit ≡ 1 → reserves b at bit ≡ true) → covers v.lanes v.words at bits i ≡ true → covers w.lanes w.words at bits i ≡ true
    covers_on (Zone zone) bits i had e = ap (λ lanes. covers lanes w.words (Zone zone) bits i) (there.lanes ∙ sym here.lanes) ∙ e
    covers_on (Run place) bits i had e =
        let page : ℕ = place / 4096 in
        let d : ℕ = slice_index v.words (descriptor_word v.lanes page) in
        let set = eqb-true (bit_at bits ((i % 512 / 8 - 1) / (d / 256))) 1 (and_parts (eqb (i / 512) page && leb 8 (i % 512)) (eqb (bit_at bits ((i % 512 / 8 - 1) / (d / 256))) 1) e).1 in
        let run = of_runs place ((i % 512 / 8 - 1) / (d / 256)) (had ((i % 512 / 8 - 1) / (d / 256)) set) in
        let before_it : d ≡ slice_index b.words (descriptor_word b.lanes page) = ap (λ n. slice_index v.words (descriptor_word n page)) here.lanes ∙ run_stays b header before now all may v here page run.0 run.1 in
        let after_it : slice_index w.words (descriptor_word w.lanes page) ≡ slice_index b.words (descriptor_word b.lanes page) = ap (λ n. slice_index w.words (descriptor_word n page)) there.lanes ∙ run_stays b header before now all may w there page run.0 run.1 in
        ap (covers_by place bits i) (after_it ∙ sym before_it) ∙ e

    reserved_on : v.reserved ≡ b.reserved → w.reserved ≡ b.reserved → (i : ℕ) → is_reserved v i ≡ true → is_reserved w i ≡ true
    reserved_on first second i e =
        let t = Any-from_list_any (λ (t : Taken). covers v.lanes v.words t.at t.bits i) v.reserved e in
        let both : w.reserved ≡ v.reserved = second ∙ sym first in
        let had : (bit : ℕ) → bit_at t.1.bits bit ≡ 1 → reserves b t.1.at bit ≡ true =
        λ bit set. ap (list_any (has_bit t.1.at bit)) (sym first) ∙ list_any-from_Any (has_bit t.1.at bit) v.reserved (t.0, t.1, t.2, t.3, bit_had t.1 bit set) in
        ap (list_any (λ (t : Taken). covers w.lanes w.words t.at t.bits i)) both
        ∙ list_any-from_Any (λ (t : Taken). covers w.lanes w.words t.at t.bits i) v.reserved (t.0, t.1, t.2, t.3, covers_on t.1.at t.1.bits i had t.4)

    held_on : v.reserved ≡ b.reserved → w.reserved ≡ b.reserved → (i : ℕ) → (list_any (is_under i) v.locks ≡ true → list_any (is_under i) w.locks ≡ true) → is_held v i ≡ true → is_held w i ≡ true
    held_on first second i locked held = ⊎_elim
        (λ (outside : (is_in_area v.lane i || list_any (is_under i) v.locks) ≡ true). or_left (is_in_area w.lane i || list_any (is_under i) w.locks) (is_reserved w i)
        (⊎_elim (λ (own : is_in_area v.lane i ≡ true). or_left (is_in_area w.lane i) (list_any (is_under i) w.locks) (ap (λ lane. is_in_area lane i) (there.lane ∙ sym here.lane) ∙ own))
        (λ (under : list_any (is_under i) v.locks ≡ true). or_right (is_in_area w.lane i) (list_any (is_under i) w.locks) (locked under))
        (or_cases (is_in_area v.lane i) (list_any (is_under i) v.locks) outside)))
        (λ (inside : is_reserved v i ≡ true). or_right (is_in_area w.lane i || list_any (is_under i) w.locks) (is_reserved w i) (reserved_on first second i inside))
        (or_cases (is_in_area v.lane i || list_any (is_under i) v.locks) (is_reserved v i) held)

  -- ---- one step

  module _ (v : View) (holds : Holds v) (publishing : is_publishing v.log.phase ≡ true) (alone : IsAlone v) where
    -- a step that makes known what is held, and leaves what is under the locks
    goes_on : (s : Step) → Allowed v s → FoundAlone v s → All IsFound (after v s).locks → ((i : ℕ) → list_any (is_under i) v.locks ≡ true → list_any (is_under i) (after v s).locks ≡ true)
        → All (λ i. is_held v i ≡ true) (after v s).known → Holds (after v s)
    goes_on s may_step found_so found locked known =
        let there = at_after b may.seal v holds.at publishing alone s may_step found_so in
        let same = (same_after v s publishing alone may_step found_so).reserved ∙ holds.reserved in
        record {
          at = there;
          reserved = same;
          found = found;
          held = All-weaker (λ i. is_held v i ≡ true) (λ i. is_held (after v s) i ≡ true) (λ i held. held_on v (after v s) holds.at there holds.reserved same i (locked i) held) (after v s).known known;
        }

    -- a word that is found or made is known where it is held
    one_more : (i : ℕ) → All (λ j. is_held v j ≡ true) (cond (is_held v i) (i ∷ v.known) v.known)
    one_more i = ⊎_elim
        (λ (held : is_held v i ≡ true). subst (All (λ j. is_held v j ≡ true)) (sym (cond-true (is_held v i) (i ∷ v.known) v.known held)) (All-cons (λ j. is_held v j ≡ true) i v.known held holds.held))
        (λ (free : is_held v i ≡ false). subst (All (λ j. is_held v j ≡ true)) (sym (cond-false (is_held v i) (i ∷ v.known) v.known free)) holds.held)
        (cases_Bool (is_held v i))

    -- ---- a load of a word that no entry is of

    module _ (w x : ℕ) (is : x ≡ slice_index v.words w) (none : is_entered b.log.entries w ≡ false) where
      same_words : slice_set v.words w x ≡ v.words
      same_words = ap (slice_set v.words w) is ∙ set-get_or v.words w 0

      block_now : (l : Lock) → is_word (allocation_word v.lanes (slice_set v.words w x) l.line) w ≡ true → block_at v.lanes (slice_set v.words w x) l.line ≡ block_at b.lanes b.words l.line
      block_now l tells =
          (λ j. block_at (holds.at.lanes j) (same_words j) l.line)
          ∙ same_block b header before now all may v holds.at l.line w (sym (λ j. is_word (allocation_word (holds.at.lanes j) (same_words j) l.line) w) ∙ tells) none

      found_one : (l : Lock) → IsFound l → IsFound (with_block v.lanes (slice_set v.words w x) w l)
      found_one l found = ⊎_elim
          (λ (tells : is_word (allocation_word v.lanes (slice_set v.words w x) l.line) w ≡ true). subst IsFound (sym (cond-true (is_word (allocation_word v.lanes (slice_set v.words w x) l.line) w) (record l { block = block_at v.lanes (slice_set v.words w x) l.line }) l tells))
          (found_block b.lanes b.words l.line (block_at v.lanes (slice_set v.words w x) l.line) (sym (block_now l tells))))
          (λ (other : is_word (allocation_word v.lanes (slice_set v.words w x) l.line) w ≡ false). subst IsFound (sym (cond-false (is_word (allocation_word v.lanes (slice_set v.words w x) l.line) w) (record l { block = block_at v.lanes (slice_set v.words w x) l.line }) l other)) found)
          (cases_Bool (is_word (allocation_word v.lanes (slice_set v.words w x) l.line) w))

      under_one : (i : ℕ) (l : Lock) → IsFound l → is_under i l ≡ true → is_under i (with_block v.lanes (slice_set v.words w x) w l) ≡ true
      under_one i l found under = ⊎_elim
          (λ (tells : is_word (allocation_word v.lanes (slice_set v.words w x) l.line) w ≡ true). ap (is_under i) (cond-true (is_word (allocation_word v.lanes (slice_set v.words w x) l.line) w) (record l { block = block_at v.lanes (slice_set v.words w x) l.line }) l tells)
          ∙ (ap (λ block. is_under_found l.line block i) (block_now l tells) ∙ under_found b.lanes b.words l.line l.block i found under))
          (λ (other : is_word (allocation_word v.lanes (slice_set v.words w x) l.line) w ≡ false). ap (is_under i) (cond-false (is_word (allocation_word v.lanes (slice_set v.words w x) l.line) w) (record l { block = block_at v.lanes (slice_set v.words w x) l.line }) l other) ∙ under)
          (cases_Bool (is_word (allocation_word v.lanes (slice_set v.words w x) l.line) w))

      under_all : (i : ℕ) (locks : List Lock) → All IsFound locks → list_any (is_under i) locks ≡ true → list_any (is_under i) (map (with_block v.lanes (slice_set v.words w x) w) locks) ≡ true
      under_all i [] found e = e
      under_all i (l ∷ locks) found e =
          let after_it : Lock = with_block v.lanes (slice_set v.words w x) w l in
          let rest : List Lock = map (with_block v.lanes (slice_set v.words w x) w) locks in
          ⊎_elim
          (λ (here : is_under i l ≡ true). or_left (is_under i after_it) (list_any (is_under i) rest) (under_one i l (All-head IsFound l locks found) here))
          (λ (later : list_any (is_under i) locks ≡ true). or_right (is_under i after_it) (list_any (is_under i) rest) (under_all i locks (All-tail IsFound l locks found) later))
          (or_cases (is_under i l) (list_any (is_under i) locks) e)

    holds_after : (s : Step) → Allowed v s → FoundAlone v s → LoadsNoneOf b.log.entries s → Holds (after v s)
    holds_after (Load w x) step found_so loads =
        let is = found_so alone in
        goes_on (Load w x) step found_so (All-map IsFound (with_block v.lanes (slice_set v.words w x) w) v.locks
        (All-weaker IsFound (λ (l : Lock). IsFound (with_block v.lanes (slice_set v.words w x) w l)) (found_one w x is loads) v.locks holds.found))
        (λ i. under_all w x is loads i v.locks holds.found) (one_more w)
    holds_after (Store w x) step found_so loads = goes_on (Store w x) step found_so holds.found (λ i under. under) (one_more w)
    holds_after (Or w bits x) step found_so loads = goes_on (Or w bits x) step found_so holds.found (λ i under. under) (one_more w)
    holds_after (And w bits x) step found_so loads = goes_on (And w bits x) step found_so holds.found (λ i under. under) (one_more w)
    holds_after (Flush line) step found_so loads = goes_on (Flush line) step found_so holds.found (λ i under. under) holds.held
    holds_after Drain step found_so loads = goes_on Drain step found_so holds.found (λ i under. under) holds.held
    holds_after (TakeWrite line won) step found_so loads = absurd (early_none v.log.phase step.early publishing)
    holds_after (TakeRead line won) step found_so loads = absurd (early_none v.log.phase step.early publishing)
    holds_after (Raise line won) step found_so loads = absurd step
    holds_after (Give line) step found_so loads = record {
      at = at_after b may.seal v holds.at publishing alone (Give line) step found_so;
      reserved = holds.reserved;
      found = All-filter (λ (l : Lock). not (eqb l.line line)) IsFound v.locks holds.found;
      held = filter_passes (is_held (record v { locks = filter (λ (l : Lock). not (eqb l.line line)) v.locks })) v.known;
    }
    holds_after (ZoneTry zone won) step found_so loads = absurd (early_none v.log.phase step.early publishing)
    holds_after (ZoneGive zone) step found_so loads = goes_on (ZoneGive zone) step found_so holds.found (λ i under. under) holds.held
    holds_after (Occupied at x) step found_so loads = goes_on (Occupied at x) step found_so holds.found (λ i under. under) holds.held
    holds_after (Occupy at bits won) step found_so loads = absurd (early_none v.log.phase step.early publishing)
    holds_after (Vacate at bits) step found_so loads = absurd (early_none v.log.phase step.early publishing)
    holds_after (Draw n) step found_so loads = absurd (false≢true (sym (ap is_publishing step.is_open) ∙ publishing))
    holds_after (NumberSeen n) step found_so loads =
        let same = begun_same v.log.phase v publishing in
        goes_on (NumberSeen n) step found_so (subst (λ (u : View). All IsFound u.locks) (sym same) holds.found) (λ i under. ap (λ (u : View). list_any (is_under i) u.locks) same ∙ under)
        (subst (λ (u : View). All (λ i. is_held v i ≡ true) u.known) (sym same) holds.held)
    holds_after (StopSeen set) step found_so loads = goes_on (StopSeen set) step found_so holds.found (λ i under. under) holds.held
    holds_after SetStop step found_so loads = holds
    holds_after (Tell operation reply) step found_so loads = absurd (tell_none v.log.phase step publishing)

  -- ---- all steps

  pub holds_along : (v : View) (steps : List Step) (w : View) → Holds v → IsAlone v → Publishes v steps w → All (LoadsNoneOf b.log.entries) steps → Holds w
  unfolding Publishes
  holds_along v [] w holds alone leads loads = subst Holds (sym leads) holds
  holds_along v (s ∷ steps) w holds alone leads loads =
      holds_along (after v s) steps w (holds_after v holds leads.0 alone s leads.1 leads.2 (All-head (LoadsNoneOf b.log.entries) s steps loads)) ((same_lane-after v s).table ∙ alone) leads.3
      (All-tail (LoadsNoneOf b.log.entries) s steps loads)

-- ---- at the draw

module _ (o : Opening) (header : Header) (pool before made : PoolView) (start u : View) (steps : List Step) (n : ℕ) (all : List Published)
    (works : WorksAlone o header pool start steps u) (draws : Allowed u (Draw n)) (may : MayPublish (after u (Draw n)) header before made all) where
  abbrev b : View
  b = after u (Draw n)

  stands : StandsAlone o header pool u
  stands = stands_at o header pool start steps u works.begins works.leads works.numbered works.within

  fits : LaneFits o (memory_of u) (settled o stands.log stands.decided) (Flies stands.log stands.decided 0) 0 u
  fits = own_fits o header pool u stands

  -- what it reserved then it reserved before
  reserved_before : (at : Occ) (bit : ℕ) → reserves b at bit ≡ true → reserves u at bit ≡ true
  reserved_before at bit has =
      left_before (flat_map (allocated_by u) u.log.entries) u.reserved at bit (allocated o header pool before made start u steps all works (has_before u n header before made all draws may)).small
      (ap (list_any (has_bit at bit)) (sym (reserved_drawn u n)) ∙ has)

  -- a block of a run is free in what is one by the view's words
  of_runs : (place bit : ℕ) → reserves b (Run place) bit ≡ true → IsChunk u.lanes (place / 4096) × (is_run (slice_index u.words (descriptor_word u.lanes (place / 4096))) ≡ true)
  of_runs place bit has =
      let had = reserved_before (Run place) bit has in
      let lanes = fits.lane.lanes in
      let page : ℕ = place / 4096 in
      let free : is_taken (heap_words o (memory_of u)) o.lanes (Run place) bit ≡ false = fits.blocks.free (Run place) bit had in
      let run : is_run (heap_words o (memory_of u) (descriptor_word o.lanes page)) ≡ true =
      true_from_ne_false (is_run (heap_words o (memory_of u) (descriptor_word o.lanes page))) (λ plain. false≢true (sym free ∙ no_run_taken (heap_words o (memory_of u)) o.lanes place bit plain)) in (
        subst (λ m. IsChunk m page) (sym lanes) (reserved_of_pool o (heap_words o (memory_of u)) u (Run place) bit fits.blocks had).1,
        ap (λ m. is_run (slice_index u.words (descriptor_word m page))) lanes ∙ (ap is_run (fits.blocks.described (Run place) bit had) ∙ run),
      )

  held_drawn : All (λ i. is_held b i ≡ true) b.known
  held_drawn = ⊎_elim
      (λ (changes : changes_heap u ≡ true).
      subst (All (λ i. is_held b i ≡ true)) (sym (cond-true (changes_heap u) (filter (is_held (record u { reserved = unallocated u })) u.known) u.known changes))
      (All-weaker (λ i. is_held (record u { reserved = unallocated u }) i ≡ true) (λ i. is_held b i ≡ true) (λ i held. ap (λ (blocks : List Taken). is_held (record u { reserved = blocks }) i) (reserved_drawn u n) ∙ held)
      (filter (is_held (record u { reserved = unallocated u })) u.known) (filter_passes (is_held (record u { reserved = unallocated u })) u.known)))
      (λ (plain : changes_heap u ≡ false).
      subst (All (λ i. is_held b i ≡ true)) (sym (cond-false (changes_heap u) (filter (is_held (record u { reserved = unallocated u })) u.known) u.known plain))
      (All-weaker (Contains u.known) (λ i. is_held b i ≡ true) (λ i there. ap (λ (blocks : List Taken). is_held (record u { reserved = blocks }) i) (cond-false (changes_heap u) (unallocated u) u.reserved plain) ∙ fits.picture.held i there) u.known (All-contains_itself u.known)))
      (cases_Bool (changes_heap u))

  found_drawn : All (IsFound b header before made all may of_runs) u.locks
  found_drawn = All-weaker (LockFits o (memory_of u) 0) (IsFound b header before made all may of_runs) (λ l fit. found_now l fit.found) u.locks fits.locks where
    stands_here : (line : ℕ) → block_at u.lanes u.words line ≡ block_at o.lanes o.words line
    stands_here line = ap (λ m. block_at m u.words line) fits.lane.lanes
        ∙ subst (λ (x : View). block_at o.lanes x.words line ≡ block_at o.lanes o.words line) stands.here
        (found_stands o (memory_of u) stands.views stands.log stands.decided 0 stands.goes.world stands.goes.in_lanes (λ i. ap (λ (x : View). slice_index x.words i) (sym stands.here)) line)

    found_now : (l : Lock) → IfSome l.block (λ lines. block_at o.lanes o.words l.line ≡ Some lines) → IfSome l.block (λ lines. block_at u.lanes u.words l.line ≡ Some lines)
    found_now l found = subst (λ (x : Option ℕ). IfSome l.block (λ lines. x ≡ Some lines)) (sym (stands_here l.line)) found

  alone : IsAlone u
  alone = alone_on_the_way start u steps (begins_alone o header pool start works.begins) works.leads

  pub holds_behind : (w : View) (log_steps : List Step) (i : ℕ) → Publishes b log_steps w → All (LoadsNoneOf u.log.entries) log_steps → Contains w.known i → IsTrue (is_held w i)
  holds_behind w log_steps i publishes loads there =
      let holds = holds_along b header before made all may of_runs b log_steps w (record { at = at_first b may.seal; reserved = refl; found = found_drawn; held = held_drawn }) alone publishes
      (subst (λ entries. All (LoadsNoneOf entries) log_steps) (sym (drawn_entries u n draws)) loads) in
      All-contains (λ j. is_held w j ≡ true) w.known i holds.held there
