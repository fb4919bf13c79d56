-- While a lane that is alone records a range, no word outside of its area changes: it stores slot words of its area alone, up to the
-- last slot, since behind that it may store none.
use Rattle.std.proofs.Common.{◌≡◌, inr, inl, ◌⊎◌, ◌≢◌, ⊎_elim, IsTrue, ℕ, ◌+◌, ◌<◌, ◌≤◌, true, false, List, [], ◌∷◌, length, map, take, set, slice_index, refl, sym, ap, ◌∙◌, subst, arith, get_or-set_other}
use Rattle.std.specs.Option.{ForSome}
use Rattle.std.proofs.lemmas.Bool.{cases_lt, false≢true}
use Rattle.std.proofs.lemmas.List.{length-map, set-get_or}
use Rattle.pm_header.specs.declared.header.Header.{Header}
use Rattle.pm_objects.specs.declared.ids.Oid.{Oid}
use Rattle.pm_objects.specs.declared.pool.PoolView.{PoolView}
use Rattle.solo_crash.specs.Alone.{Begins}
use Rattle.solo_crash.specs.Leading.{Leads}
use Rattle.solo_crash.proofs.AloneCourse.{Grows, StandsAlone, due_along, grows_along, number_along, stands_after, stands_at, begins_alone}
use Rattle.solo_crash.proofs.AloneImages.{own_fits}
use Rattle.solo_crash.proofs.AloneMemory.{memory_of}
use Rattle.solo_crash.proofs.OnTheWay.{numbered_front}
use Rattle.solo_memory.specs.Solo.{AreNumbered}
use Rattle.solo_view.specs.Area.{Part, area_word, is_in_area, part_of}
use Rattle.solo_view.specs.Area.Part.{OtherWord}
use Rattle.solo_view.specs.Founds.{FoundAlone, IsAlone}
use Rattle.solo_view.specs.Held.{is_reserved}
use Rattle.solo_view.specs.Log.{Phase}
use Rattle.solo_view.specs.Log.Phase.{Idle, Open, Drawn, Sealing, Applying, Clearing, Retiring}
use Rattle.solo_view.specs.Rights.{is_written}
use Rattle.solo_view.specs.Steps.{Step}
use Rattle.solo_view.specs.Steps.Step.{Load, Store, Flush, Drain, Tell}
use Rattle.solo_view.specs.View.{View}
use Rattle.solo_view.specs.Views.{after, after_all}
use Rattle.solo_view.proofs.SameLane.{same_lane-after}
use Rattle.pm_record.specs.declared.redo.Op.TheVariants.{Set}
use Rattle.solo_world.proofs.CrashWords.{reserved_word}
use Rattle.solo_world.proofs.Exclusion.{writes_under}
use Rattle.solo_world.specs.Entries.{set_word, EntersAlone, IsGrowing}
use Rattle.solo_world.specs.Fits.{EntriesFit}
use Rattle.solo_world.specs.Lanes.{span_of}
use Rattle.solo_world.specs.Lawful.{Allowed, StoreFits}
use Rattle.solo_world.specs.Opening.{Opening}
use Rattle.solo_world.specs.Sequences.{Ready}
use Rattle.solo_world.specs.declared.lane.Span.{Span}
use Rattle.solo_lock.proofs.Leading.{front_leads}
use Rattle.solo_lock.specs.Leading.{DrawEnded}
use Rattle.solo_tx.specs.Ranges.{adds_range}
use Rattle.solo_undo.proofs.Areas.{in_area}
use Rattle.solo_undo.specs.Working.{IsWorking}
use Rattle.solo_exec.proofs.Along.{alone_along}
use Rattle.solo_exec.proofs.FilledSlots.{Fills, Next, adds_fill, fills_first}
use Rattle.solo_exec.proofs.UndrainedSlots.{alone_lane}
use Rattle.solo_world.proofs.Reserved.{describing_reserved}

-- the words outside of lane 0's area are the same
abbrev pub AreSameOutside : View → View → Type 0
AreSameOutside v w = (i : ℕ) → is_in_area 0 i ≡ false → slice_index w.words i ≡ slice_index v.words i

-- a load that finds what the view has
loaded_same : (words : List ℕ) (w x i : ℕ) → x ≡ slice_index words w → slice_index (set words w x) i ≡ slice_index words i
loaded_same words w x i found = ap (λ y. slice_index (set words w y) i) found ∙ ap (λ (ws : List ℕ). slice_index ws i) (set-get_or words w 0)

-- a store in the area
stored_same : (words : List ℕ) (w x i : ℕ) → is_in_area 0 w ≡ true → is_in_area 0 i ≡ false → slice_index (set words w x) i ≡ slice_index words i
stored_same words w x i inside outside = get_or-set_other words w i x 0 (λ same. false≢true (sym outside ∙ (ap (is_in_area 0) same ∙ inside)))

-- a word outside of the area is stored under a lock that is held for writing, or in a block that the lane reserved
may_write : (v : View) (w x : ℕ) (p : Phase) → v.log.phase ≡ p → EntriesFit v → w ≢ area_word v.lane → StoreFits v w x p OtherWord → IsTrue (is_written v w) ⊎ (is_reserved v w ≡ true)
may_write v w x Idle is entries other may = absurd may
may_write v w x (Open slot pair) is entries other (inl writes) = inl writes.own
may_write v w x (Open slot pair) is entries other (inr (inl fills)) = inr fills.reserved
may_write v w x (Open slot pair) is entries other (inr (inr describes)) = inr (describing_reserved v w x describes)
may_write v w x Drawn is entries other may = absurd may
may_write v w x Sealing is entries other may = absurd may
may_write v w x (Applying applied) is entries other may =
    let stands = entries.each applied (set_word w x) may in
    ⊎_elim (λ (own : IsTrue (is_written v w)). inl own) (λ (more : ((w ≡ area_word v.lane) × (stands.op ≡ Set)) ⊎ EntersAlone v w). absurd (⊎_elim (λ (generation : (w ≡ area_word v.lane) × (stands.op ≡ Set)). other generation.0)
    (λ (alone : EntersAlone v w). subst IsGrowing is alone.1) more)) stands.may.of
may_write v w x Clearing is entries other may = absurd may
may_write v w x Retiring is entries other may = absurd may

module _ (o : Opening) (header : Header) (pool : PoolView) where
  -- the word behind the last slot may not be stored
  behind_slots : (v : View) (x : ℕ) → StandsAlone o header pool v → v.lane ≡ 0 → Allowed v (Store 1160 x) → ⊥
  behind_slots v x stands lane may =
      let part : part_of v.lane 1160 ≡ OtherWord = ap (λ n. part_of n 1160) lane in
      let some = stands.goes.in_lanes in
      let write : IsTrue (is_written v 1160) ⊎ (is_reserved v 1160 ≡ true) = may_write v 1160 x v.log.phase refl (own_fits o header pool v stands).entries (λ same. omega (arith, same, lane)) (subst (λ (p : Part). StoreFits v 1160 x v.log.phase p) part may.fits) in
      ⊎_elim (λ (own : IsTrue (is_written v 1160)).
      let under = writes_under o (memory_of v) 0 v 1160 (own_fits o header pool v stands).locks own in
      let behind = stands.goes.world.sound.behind_areas under.0 1160 under.1 in omega (arith, behind, some))
      (λ (reserved : is_reserved v 1160 ≡ true).
      let behind = (reserved_word o (memory_of v) stands.views stands.log stands.decided stands.goes.world 0 1160 stands.goes.in_lanes (ap (λ u. is_reserved u 1160) stands.here ∙ reserved)).behind in
      omega (arith, behind, some)) write

  module _ (v : View) (stands : StandsAlone o header pool v) (alone : IsAlone v) (lane : v.lane ≡ 0) (n : ℕ) (from : 648 ≤ n) (to : n ≤ 1160) where
    -- the step changes no other word, and leads to a next word of the slots, or just behind them
    abbrev StaysInside : Step → ℕ → Type 0
    StaysInside s k = AreSameOutside v (after v s) × (648 ≤ k) × (k ≤ 1160)

    still_inside : (s : Step) (k : ℕ) → k ≡ n → AreSameOutside v (after v s) → StaysInside s k
    still_inside s k is same = (same, omega (arith, is, from), omega (arith, is, to))

    store_inside : (w x k : ℕ) → Allowed v (Store w x) → w ≡ n → k ≡ n + 1 → StaysInside (Store w x) k
    store_inside w x k may at next = ⊎_elim
        (λ (low : n < 1160). (
          λ i outside. stored_same v.words w x i (in_area 0 w (omega (arith, at, from)) (omega (arith, at, low))) outside,
          omega (arith, next, from),
          omega (arith, next, low),
        ))
        (λ (high : 1160 ≤ n). absurd (behind_slots v x stands lane (subst (λ u. Allowed v (Store u x)) (let e : w ≡ 1160 = omega (arith, at, high, to) in e) may)))
        (cases_lt n 1160)

    inside_after : (s : Step) (k : ℕ) → Allowed v s → FoundAlone v s → Next n s k → StaysInside s k
    inside_after (Load w x) k may found next = still_inside (Load w x) k next (λ i outside. loaded_same v.words w x i (found alone))
    inside_after (Store w x) k may found next = store_inside w x k may next.0 next.1
    inside_after (Flush line) k may found next = still_inside (Flush line) k next (λ i outside. refl)
    inside_after Drain k may found next = still_inside Drain k next (λ i outside. refl)
    inside_after (Tell operation reply) k may found next = still_inside (Tell operation reply) k next (λ i outside. refl)
    inside_after s k may found next = absurd next

  inside_along : (v : View) (steps : List Step) (w : View) (n m : ℕ) → StandsAlone o header pool v → IsAlone v → v.lane ≡ 0 → Leads v steps w → AreNumbered 1 w.entries
      → ForSome w.stop (λ stop. w.calls ≤ stop) → 648 ≤ n → n ≤ 1160 → Fills n steps m → AreSameOutside v w
  unfolding Leads Fills
  inside_along v [] w n m stands alone lane leads numbered within from to fills = λ i outside. ap (λ (u : View). slice_index u.words i) leads
  inside_along v (s ∷ steps) w n m stands alone lane leads numbered within from to fills =
      let u : View = after v s in
      let grows : Grows u w = grows_along u steps w leads.3 in
      let same = same_lane-after v s in
      let here = inside_after v stands alone lane n from to s fills.0 leads.0 leads.1 fills.1 in
      let next : StandsAlone o header pool u =
      stands_after o header pool v stands s alone leads.0 leads.1 leads.2 (due_along o header pool v s w grows within) (number_along o header pool v s w grows numbered) in
      λ i outside.
      inside_along u steps w fills.0 m next (same.table ∙ alone) (same.lane ∙ lane) leads.3 numbered within here.1 here.2 fills.2 i outside ∙ here.0 i outside

  -- behind each of the steps of a record
  pub added_outside_at : (first v : View) (before : List Step) (spans : List Span) (id : Oid) (off len k : ℕ) → Begins o header pool first → Leads first before v → IsWorking v → spans ≡ map span_of v.log.records
      → Ready v (adds_range spans id off len v) → DrawEnded v (adds_range spans id off len v) → AreNumbered 1 (after_all v (take k (adds_range spans id off len v))).entries
      → ForSome (after_all v (take k (adds_range spans id off len v))).stop (λ stop. (after_all v (take k (adds_range spans id off len v))).calls ≤ stop)
      → AreSameOutside v (after_all v (take k (adds_range spans id off len v)))
  added_outside_at first v before spans id off len k begins leads working are ready draws numbered within =
      let all : List Step = adds_range spans id off len v in
      let w : View = after_all v (take k all) in
      let on : Leads v (take k all) w = front_leads v all k ready draws in
      let grows : Grows v w = grows_along v (take k all) w on in
      let numbered_v : AreNumbered 1 v.entries = numbered_front 1 v.entries grows.rest (subst (AreNumbered 1) grows.entries numbered) in
      let within_v : ForSome v.stop (λ stop. v.calls ≤ stop) = (λ stop is. let most = within stop (grows.stop ∙ is) in let more = grows.calls in omega (arith, most, more)) in
      let stands : StandsAlone o header pool v = stands_at o header pool first before v begins leads numbered_v within_v in
      let lane : v.lane ≡ 0 = alone_lane o header pool first before v begins leads in
      let count : length spans ≡ length v.log.records = ap length are ∙ length-map v.log.records span_of in
      let most = working.records.most in
      let some = fills_first _ _ all k (adds_fill spans id off len v lane) in
      inside_along v (take k all) w _ some.0 stands (alone_along first v before leads (begins_alone o header pool first begins)) lane on numbered within (omega (arith)) (omega (arith, count, most)) some.1
