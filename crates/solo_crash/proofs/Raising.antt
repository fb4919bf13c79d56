-- A lane that is alone raises its generation by one with each store of it, and with nothing else.
use Rattle.std.proofs.Common.{◌≡◌, inr, inl, ◌≢◌, ⊎_elim, IsTrue, ℕ, ◌+◌, ◌*◌, ◌<◌, ◌≤◌, Bool, true, false, cond, List, [], ◌∷◌, length, slice_index, refl, sym, ◌∙◌, ap, subst, arith, eq-eqb, ne_eqb, get_or-set_same, get_or-set_other, set, bit_or, bit_and}
use Rattle.std.specs.Option.{ForSome}
use Rattle.pm_record.specs.declared.redo.Op.TheVariants as op
use Rattle.pm_header.specs.declared.header.Header.{Header}
use Rattle.pm_objects.specs.declared.pool.PoolView.{PoolView}
use Rattle.pm_image.specs.Logs.{generation_word}
use Rattle.solo_view.specs.Area.{Part, area_word, part_of}
use Rattle.solo_view.specs.Area.Part.{EntryWord, GenerationWord, OtherWord, SealWord, SlotWord}
use Rattle.solo_view.specs.Founds.{FoundAlone, IsAlone}
use Rattle.solo_view.specs.Held.{is_reserved}
use Rattle.solo_view.specs.Log.{Phase, Final}
use Rattle.solo_view.specs.Log.Phase.{Idle, Open, Drawn, Sealing, Applying, Clearing, Retiring}
use Rattle.solo_view.specs.Rights.{is_written}
use Rattle.solo_view.specs.Steps.{Step}
use Rattle.solo_view.specs.Steps.Step.{Load, Store, Or, And, Flush, Drain, TakeWrite, TakeRead, Raise, Give, ZoneTry, ZoneGive, Occupied, Occupy, Vacate, Draw, NumberSeen, StopSeen, SetStop, Tell}
use Rattle.solo_view.specs.View.{View}
use Rattle.solo_view.specs.Views.{after, begun}
use Rattle.solo_view.proofs.SameLane.{same_lane-after}
use Rattle.solo_memory.specs.Solo.{AreNumbered}
use Rattle.solo_world.specs.Fits.{PhaseFits}
use Rattle.solo_world.specs.History.{Flies}
use Rattle.solo_world.specs.Lawful.{Allowed, IsNextEntry, StoreFits, MayChange}
use Rattle.solo_world.specs.Opening.{Opening}
use Rattle.solo_world.specs.Records.{generation_of}
use Rattle.solo_world.proofs.Parts.{generation_part, seal_part}
use Rattle.solo_world.proofs.CrashWords.{reserved_word}
use Rattle.solo_world.proofs.StoreEntry.{next_entry}
use Rattle.solo_crash.specs.Alone.{WorksAlone, is_raise, raises}
use Rattle.solo_crash.specs.Leading.{Leads}
use Rattle.solo_crash.proofs.AloneCourse.{StandsAlone, due_along, grows_along, number_along, stands_after, stands_begun, begins_alone, begins_lane, begins_words}
use Rattle.solo_crash.proofs.AloneImages.{own_fits}
use Rattle.solo_crash.proofs.AloneMemory.{load_words, memory_of}
use Rattle.solo_crash.proofs.FirstLog.{behind}
use Rattle.solo_crash.proofs.Raises.{raise_by}
use Rattle.pm_record.specs.declared.redo.Op.{Op}
use Rattle.solo_world.proofs.StepChange.{changes_next, no_generation}
use Rattle.solo_world.specs.Entries.{set_word, ends_with}
use Rattle.solo_world.proofs.Reserved.{describing_reserved}

begun_generation : (phase : Phase) (v : View) → generation_of (begun phase v) ≡ generation_of v
begun_generation Idle v = refl
begun_generation (Open slot pair) v = refl
begun_generation Drawn v = refl
begun_generation Sealing v = refl
begun_generation (Applying applied) v = refl
begun_generation Clearing v = refl
begun_generation Retiring v = refl

module _ (o : Opening) (header : Header) (pool : PoolView) where
  module _ (v : View) (stands : StandsAlone o header pool v) (alone : IsAlone v) where
    lane : v.lane ≡ 0
    lane = (own_fits o header pool v stands).lane.lane

    still : (s : Step) → is_raise s ≡ false → generation_of (after v s) ≡ generation_of v → generation_of (after v s) ≡ generation_of v + raise_by s
    still s none same = same ∙ (let zero : raise_by s ≡ 0 = ap (λ (b : Bool). cond b 1 0) none in let e : generation_of v ≡ generation_of v + raise_by s = omega (arith, zero) in e)

    module _ (w y : ℕ) (inside : w < length v.words) where
      other : w ≢ 512 → generation_of (after v (Store w y)) ≡ generation_of v + raise_by (Store w y)
      other differ =
          let at = lane in
          still (Store w y) (ne_eqb w 512 differ) (get_or-set_other v.words w (area_word v.lane) y 0 (λ e. differ (omega (arith, e, at))))

      raised : w ≡ area_word v.lane → y ≡ generation_of v + 1 → generation_of (after v (Store w y)) ≡ generation_of v + raise_by (Store w y)
      raised at next =
          let zero = lane in
          let here : w ≡ 512 = omega (arith, at, zero) in
          let one : raise_by (Store w y) ≡ 1 = ap (λ (b : Bool). cond b 1 0) (eq-eqb w 512 here) in
          let is : generation_of (after v (Store w y)) ≡ y = ap (λ (i : ℕ). slice_index (after v (Store w y)).words i) (sym at) ∙ get_or-set_same v.words w y 0 inside in
          omega (arith, is, next, one)

      -- an entry's word
      applied_entry : (applied : ℕ) → v.log.phase ≡ Applying applied → IsNextEntry v applied w y → generation_of (after v (Store w y)) ≡ generation_of v + raise_by (Store w y)
      applied_entry applied is next =
          ⊎_elim (λ (t : IsTrue (is_written v w) × (applied + 1 < length v.log.entries)). other (λ e. let far = behind o header pool v stands alone w t.0 in omega (arith, e, far)))
          (λ (t : (set_word w y ≡ ends_with v (generation_of v + 1)) × (applied + 1 ≡ length v.log.entries)). raised (ap (λ (f : Final). f.word) t.0) (ap (λ (f : Final). f.bits) t.0))
          (next_entry v applied (set_word w y) (subst (PhaseFits (Flies stands.log stands.decided 0) v) is (own_fits o header pool v stands).phase) next)

      -- a word that the lane reserved
      beyond_areas : is_reserved v w ≡ true → generation_of (after v (Store w y)) ≡ generation_of v + raise_by (Store w y)
      beyond_areas reserved =
          other (λ e. let far = (reserved_word o (memory_of v) stands.views stands.log stands.decided stands.goes.world 0 w stands.goes.in_lanes (ap (λ u. is_reserved u w) stands.here ∙ reserved)).behind in omega (arith, e, far))

      stored : (p : Phase) (part : Part) → v.log.phase ≡ p → part_of v.lane w ≡ part → StoreFits v w y p part → generation_of (after v (Store w y)) ≡ generation_of v + raise_by (Store w y)
      stored Idle part is of may = absurd may
      stored (Open slot pair) GenerationWord is of may = raised (generation_part v.lane w of).1 may.ends.next
      stored (Open slot pair) SealWord is of may = absurd may
      stored (Open slot pair) EntryWord is of may = other (λ e. let at = may.at in omega (arith, e, at))
      stored (Open slot pair) SlotWord is of may = other (λ e. let at = may.at in omega (arith, e, at))
      stored (Open slot pair) OtherWord is of (inl writes) = other (λ e. let far = behind o header pool v stands alone w writes.own in omega (arith, e, far))
      stored (Open slot pair) OtherWord is of (inr (inl fills)) = beyond_areas fills.reserved
      stored (Open slot pair) OtherWord is of (inr (inr describes)) = beyond_areas (describing_reserved v w y describes)
      stored Drawn GenerationWord is of may = raised (generation_part v.lane w of).1 may.next
      stored Drawn SealWord is of may = other (λ e. let at = (seal_part v.lane w of).1 in omega (arith, e, at))
      stored Drawn EntryWord is of may = absurd may
      stored Drawn SlotWord is of may = absurd may
      stored Drawn OtherWord is of may = absurd may
      stored Sealing part is of may = absurd may
      stored (Applying applied) GenerationWord is of may = applied_entry applied is may
      stored (Applying applied) SealWord is of may = other (λ e. let at = (seal_part v.lane w of).1 in omega (arith, e, at))
      stored (Applying applied) EntryWord is of may = absurd may
      stored (Applying applied) SlotWord is of may = absurd may
      stored (Applying applied) OtherWord is of may = applied_entry applied is may
      stored Clearing part is of may = absurd may
      stored Retiring part is of may = absurd may

    -- bits of a word are set or cleared, which is none of the generation
    bits_stay : (op : Op) (w bits y : ℕ) → MayChange v op w bits → slice_index (set v.words w y) (area_word v.lane) ≡ generation_of v
    bits_stay op w bits y may =
        let t = changes_next v op w bits v.log.phase refl (part_of v.lane w) refl may.fits in
        get_or-set_other v.words w (area_word v.lane) y 0 (λ e. no_generation v.lane w t.outside (sym e))

    raised_after : (s : Step) → Allowed v s → FoundAlone v s → generation_of (after v s) ≡ generation_of v + raise_by s
    raised_after (Load w x) may found = still (Load w x) refl (ap (λ (words : List ℕ). slice_index words (area_word v.lane)) (load_words v w x (found alone)))
    raised_after (Store w y) may found = stored w y may.inside v.log.phase (part_of v.lane w) refl refl may.fits
    raised_after (Or w bits found) may f = still (Or w bits found) refl (bits_stay op.Or w bits (bit_or found bits) may)
    raised_after (And w bits found) may f = still (And w bits found) refl (bits_stay op.And w bits (bit_and found bits) may)
    raised_after (Flush line) may found = still (Flush line) refl refl
    raised_after Drain may found = still Drain refl refl
    raised_after (TakeWrite line won) may found = still (TakeWrite line won) refl refl
    raised_after (TakeRead line won) may found = still (TakeRead line won) refl refl
    raised_after (Raise line won) may found = absurd may
    raised_after (Give line) may found = still (Give line) refl refl
    raised_after (ZoneTry zone won) may found = still (ZoneTry zone won) refl refl
    raised_after (ZoneGive zone) may found = still (ZoneGive zone) refl refl
    raised_after (Occupied at found) may f = still (Occupied at found) refl refl
    raised_after (Occupy at bits won) may found = still (Occupy at bits won) refl refl
    raised_after (Vacate at bits) may found = still (Vacate at bits) refl refl
    raised_after (Draw n) may found = still (Draw n) refl refl
    raised_after (NumberSeen n) may found = still (NumberSeen n) refl (begun_generation v.log.phase v)
    raised_after (StopSeen set) may found = still (StopSeen set) refl refl
    raised_after SetStop may found = still SetStop refl refl
    raised_after (Tell operation reply) may found = still (Tell operation reply) refl refl

  raised_along : (v : View) (steps : List Step) (w : View) → StandsAlone o header pool v → IsAlone v → Leads v steps w → AreNumbered 1 w.entries → ForSome w.stop (λ stop. w.calls ≤ stop)
      → generation_of w ≡ generation_of v + raises steps
  unfolding Leads raises
  raised_along v [] w stands alone leads numbered within = ap (λ (u : View). generation_of u) leads ∙ (let e : generation_of v ≡ generation_of v + 0 = omega arith in e)
  raised_along v (s ∷ steps) w stands alone leads numbered within =
      let grows = grows_along (after v s) steps w leads.3 in
      let rest : generation_of w ≡ generation_of (after v s) + raises steps = raised_along (after v s) steps w
      (stands_after o header pool v stands s alone leads.0 leads.1 leads.2 (due_along o header pool v s w grows within) (number_along o header pool v s w grows numbered))
      ((same_lane-after v s).table ∙ alone) leads.3 numbered within in
      let here = raised_after v stands alone s leads.0 leads.1 in
      omega (arith, rest, here)

  pub generation_raised : (v w : View) (steps : List Step) → WorksAlone o header pool v steps w → generation_of w ≡ generation_word o.words 0 + raises steps
  generation_raised v w steps works =
      let words = begins_words o header pool v works.begins in let lane = begins_lane o header pool v works.begins in
      let from : generation_of v ≡ generation_word o.words 0 = (λ i. slice_index (words i) (512 + 1024 * lane i)) in
      raised_along v steps w (stands_begun o header pool v works.begins) (begins_alone o header pool v works.begins) works.leads works.numbered works.within
      ∙ ap (λ (g : ℕ). g + raises steps) from
