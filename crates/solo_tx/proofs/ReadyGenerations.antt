-- Steps that may be made raise the generation by one with each store of it, and with nothing else.
use Rattle.std.proofs.Common.{◌≡◌, ◌≢◌, ℕ, zero, suc, ◌+◌, ◌<◌, Bool, true, false, cond, eqb, List, [], ◌∷◌, take, length, set, slice_index, refl, sym, ap, ◌∙◌, subst, arith, eq-eqb, ne_eqb, get_or-set_same, get_or-set_other, ⊎_elim, bit_or, bit_and}
use Rattle.std.proofs.lemmas.Bool.{cases_eq, false≢true, or_left}
use Rattle.std.proofs.lemmas.List.{set-get_or}
use Rattle.std.specs.List.{list_any}
use Rattle.pm_record.specs.declared.redo.Op.TheVariants as op
use Rattle.solo_crash.proofs.Raises.{raise_by}
use Rattle.solo_crash.specs.Alone.{is_raise, raises}
use Rattle.pm_record.specs.declared.redo.Op.{Op}
use Rattle.solo_undo.proofs.Areas.{generation_in_area, generation_word}
use Rattle.solo_view.proofs.SameLane.{same_lane-after}
use Rattle.solo_view.specs.Area.{Part, area_word, is_in_area, part_of}
use Rattle.solo_view.specs.Area.Part.{GenerationWord}
use Rattle.solo_view.specs.Log.{Phase}
use Rattle.solo_view.specs.Log.Phase.{Idle, Open, Drawn, Sealing, Applying, Clearing, Retiring}
use Rattle.solo_view.specs.Steps.{Step}
use Rattle.solo_view.specs.Steps.Step.{Load, Store, Or, And, Flush, Drain, TakeWrite, TakeRead, Raise, Give, ZoneTry, ZoneGive, Occupied, Occupy, Vacate, Draw, NumberSeen, StopSeen, SetStop, Tell}
use Rattle.solo_view.specs.View.{View}
use Rattle.solo_view.specs.Views.{after, after_all, begun}
use Rattle.solo_world.specs.Entries.{is_redoing}
use Rattle.solo_world.specs.Lawful.{Allowed, StoreFits, MayChange}
use Rattle.solo_world.specs.Records.{generation_of}
use Rattle.solo_world.specs.Sequences.{IsForeseen, Ready}
use Rattle.solo_tx.specs.Generations.{AppliesNone}
use Rattle.solo_tx.specs.Learning.{Finds, Looks}
use Rattle.solo_world.proofs.StepChange.{changes_next, no_generation}

begun_generation : (phase : Phase) (v : View) → generation_of (begun phase v) ≡ generation_of v
begun_generation Idle v = refl
begun_generation (Open slot pair) v = refl
begun_generation Drawn v = refl
begun_generation Sealing v = refl
begun_generation (Applying applied) v = refl
begun_generation Clearing v = refl
begun_generation Retiring v = refl

-- a store of the generation stores the next one
fits_next : (v : View) (w y : ℕ) (p : Phase) → is_redoing p ≡ false → StoreFits v w y p GenerationWord → y ≡ generation_of v + 1
fits_next v w y Idle still fits = absurd fits
fits_next v w y (Open slot pair) still fits = fits.ends.next
fits_next v w y Drawn still fits = fits.next
fits_next v w y Sealing still fits = absurd fits
fits_next v w y (Applying applied) still fits = absurd (false≢true (sym still))
fits_next v w y Clearing still fits = absurd fits
fits_next v w y Retiring still fits = absurd fits

module _ (v : View) (lane : v.lane ≡ 0) where
  still : (s : Step) → is_raise s ≡ false → generation_of (after v s) ≡ generation_of v → generation_of (after v s) ≡ generation_of v + raise_by s
  still s none same = same ∙ (let zero : raise_by s ≡ 0 = ap (λ (b : Bool). cond b 1 0) none in let e : generation_of v ≡ generation_of v + raise_by s = omega (arith, zero) in e)

  stored : (w y : ℕ) → (is_raise (Store w y) ≡ true → is_redoing v.log.phase ≡ false) → w < length v.words → StoreFits v w y v.log.phase (part_of v.lane w) → generation_of (after v (Store w y)) ≡ generation_of v + raise_by (Store w y)
  stored w y quiet inside fits = ⊎_elim
      (λ (here : w ≡ 512).
      let at : w ≡ area_word v.lane = omega (arith, here, lane) in
      let part : part_of v.lane w ≡ GenerationWord = ap (part_of v.lane) at ∙ generation_word v.lane in
      let next = fits_next v w y v.log.phase (quiet (eq-eqb w 512 here)) (subst (λ (p : Part). StoreFits v w y v.log.phase p) part fits) in
      let one : raise_by (Store w y) ≡ 1 = ap (λ (b : Bool). cond b 1 0) (eq-eqb w 512 here) in
      let is : generation_of (after v (Store w y)) ≡ y = ap (λ (i : ℕ). slice_index (after v (Store w y)).words i) (sym at) ∙ get_or-set_same v.words w y 0 inside in
      let e : generation_of (after v (Store w y)) ≡ generation_of v + raise_by (Store w y) = omega (arith, is, next, one) in e)
      (λ (differ : w ≢ 512). still (Store w y) (ne_eqb w 512 differ) (get_or-set_other v.words w (area_word v.lane) y 0 (λ e. differ (omega (arith, e, lane)))))
      (cases_eq w 512)

  -- bits of a word are set or cleared, which is none of the generation
  bits_stay : (op : Op) (w bits y : ℕ) → MayChange v op w bits → slice_index (set v.words w y) (area_word v.lane) ≡ generation_of v
  bits_stay op w bits y may =
      let t = changes_next v op w bits v.log.phase refl (part_of v.lane w) refl may.fits in
      get_or-set_other v.words w (area_word v.lane) y 0 (λ e. no_generation v.lane w t.outside (sym e))

  raised_after : (s : Step) → (is_raise s ≡ true → is_redoing v.log.phase ≡ false) → Allowed v s → IsForeseen v s → generation_of (after v s) ≡ generation_of v + raise_by s
  raised_after (Load w x) quiet may found = still (Load w x) refl (ap (λ (words : List ℕ). slice_index words (area_word v.lane)) (ap (set v.words w) found.1 ∙ set-get_or v.words w 0))
  raised_after (Store w y) quiet may found = stored w y quiet may.inside may.fits
  raised_after (Or w bits found) quiet may f = still (Or w bits found) refl (bits_stay op.Or w bits (bit_or found bits) may)
  raised_after (And w bits found) quiet may f = still (And w bits found) refl (bits_stay op.And w bits (bit_and found bits) may)
  raised_after (Flush line) quiet may found = still (Flush line) refl refl
  raised_after Drain quiet may found = still Drain refl refl
  raised_after (TakeWrite line won) quiet may found = still (TakeWrite line won) refl refl
  raised_after (TakeRead line won) quiet may found = still (TakeRead line won) refl refl
  raised_after (Raise line won) quiet may found = absurd may
  raised_after (Give line) quiet may found = still (Give line) refl refl
  raised_after (ZoneTry zone won) quiet may found = still (ZoneTry zone won) refl refl
  raised_after (ZoneGive zone) quiet may found = still (ZoneGive zone) refl refl
  raised_after (Occupied at found) quiet may f = still (Occupied at found) refl refl
  raised_after (Occupy at bits won) quiet may found = still (Occupy at bits won) refl refl
  raised_after (Vacate at bits) quiet may found = still (Vacate at bits) refl refl
  raised_after (Draw n) quiet may found = still (Draw n) refl refl
  raised_after (NumberSeen n) quiet may found = still (NumberSeen n) refl (begun_generation v.log.phase v)
  raised_after (StopSeen set) quiet may found = still (StopSeen set) refl refl
  raised_after SetStop quiet may found = still SetStop refl refl
  raised_after (Tell operation reply) quiet may found = still (Tell operation reply) refl refl

pub raised_when_ready : (v : View) (steps : List Step) → v.lane ≡ 0 → Ready v steps → AppliesNone v steps → generation_of (after_all v steps) ≡ generation_of v + raises steps
unfolding Ready raises after_all AppliesNone
raised_when_ready v [] lane ready none = (let e : generation_of v ≡ generation_of v + 0 = omega arith in e)
raised_when_ready v (s ∷ steps) lane ready none =
    let rest = raised_when_ready (after v s) steps ((same_lane-after v s).lane ∙ lane) ready.2 none.1 in
    let here = raised_after v lane s (λ stores. none.0) ready.0 ready.1 in
    omega (arith, rest, here)

-- without a store of it the generation is as it was
pub unraised_when_ready : (v : View) (steps : List Step) → v.lane ≡ 0 → Ready v steps → raises steps ≡ 0 → generation_of (after_all v steps) ≡ generation_of v
unfolding Ready raises after_all
unraised_when_ready v [] lane ready none = refl
unraised_when_ready v (s ∷ steps) lane ready none =
    let zero : raise_by s ≡ 0 = omega (arith, none) in
    let here = raised_after v lane s (λ stores. absurd (let one : raise_by s ≡ 1 = ap (λ (b : Bool). cond b 1 0) stores in omega (arith, one, zero))) ready.0 ready.1 in
    let rest = unraised_when_ready (after v s) steps ((same_lane-after v s).lane ∙ lane) ready.2 (let e : raises steps ≡ 0 = omega (arith, none) in e) in
    rest ∙ (let e : generation_of (after v s) ≡ generation_of v = omega (arith, here, zero) in e)

-- where no first part of the steps is one at which an entry is applied
pub applies_none : (v : View) (steps : List Step) → ((k : ℕ) → is_redoing (after_all v (take k steps)).log.phase ≡ false) → AppliesNone v steps
unfolding AppliesNone after_all
applies_none v [] each = tt
applies_none v (s ∷ steps) each = (each 0, applies_none (after v s) steps (λ k. each (suc k)))

pub applies_none_first : (k : ℕ) (v : View) (steps : List Step) → AppliesNone v steps → AppliesNone v (take k steps)
unfolding AppliesNone
applies_none_first zero v steps none = tt
applies_none_first (suc k) v [] none = tt
applies_none_first (suc k) v (s ∷ steps) none = (none.0, applies_none_first k (after v s) steps none.1)

-- the first of steps that may be made may be made
pub ready_first_of : (k : ℕ) (v : View) (steps : List Step) → Ready v steps → Ready v (take k steps)
unfolding Ready
ready_first_of zero v steps ready = tt
ready_first_of (suc k) v [] ready = tt
ready_first_of (suc k) v (s ∷ steps) ready = (ready.0, ready.1, ready_first_of k (after v s) steps ready.2)

-- a load finds the generation that the view has
loaded_generation : (m : View) (word x : ℕ) → Finds m word x → generation_of (after m (Load word x)) ≡ generation_of m
loaded_generation m word x finds = ⊎_elim
    (λ (here : word ≡ area_word m.lane).
    let known = or_left (is_in_area m.lane word) (list_any (λ other. eqb other word) m.known) (ap (is_in_area m.lane) here ∙ generation_in_area m.lane) in
    ap (λ (words : List ℕ). slice_index words (area_word m.lane)) (ap (set m.words word) (finds.0 known) ∙ set-get_or m.words word 0))
    (λ (differ : word ≢ area_word m.lane). get_or-set_other m.words word (area_word m.lane) x 0 (λ e. differ (sym e)))
    (cases_eq word (area_word m.lane))

pub looks_generation : (n : ℕ) (v w : View) → Looks n v w → (generation_of w ≡ generation_of v) × (w.log ≡ v.log)
unfolding Looks
looks_generation zero v w is = (ap (λ (u : View). generation_of u) is, ap (λ (u : View). u.log) is)
looks_generation (suc n) v w t =
    let front = looks_generation n v t.0 t.3 in
    (ap (λ (u : View). generation_of u) t.6 ∙ (loaded_generation t.0 t.1 t.2 t.5 ∙ front.0), ap (λ (u : View). u.log) t.6 ∙ front.1)
