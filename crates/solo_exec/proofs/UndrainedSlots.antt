-- What a lane that begins alone has undrained of its slots, along its steps: words of the log's records and of the one in the making, and none
-- where the log may not grow. So at work, with its records drained, it is quiet.
use Rattle.std.proofs.Common.{◌≡◌, ⊎_elim, ℕ, ◌+◌, ◌-◌, ◌*◌, ◌/◌, ◌<◌, ◌≤◌, Bool, true, false, not, cond, List, [], ◌∷◌, ◌++◌, length, slice_index, refl, sym, ◌∙◌, ap, subst, arith, length-append, eq-eqb}
use Rattle.std.specs.List.{Contains, list_any}
use Rattle.std.proofs.lemmas.Bool.{false≢true}
use Rattle.std.proofs.lemmas.List.Folds.{list_any-from_Any}
use Rattle.std.proofs.lemmas.List.Elements.{Contains-append_cases}
use Rattle.pm_record.specs.declared.redo.Op.TheVariants as op
use Rattle.pm_header.specs.declared.header.Header.{Header}
use Rattle.pm_objects.specs.declared.pool.PoolView.{PoolView}
use Rattle.pm_image.proofs.Members.{member_kept, member_made, no_member, only_member}
use Rattle.pm_image.specs.Logs.{slot_line}
use Rattle.solo_view.specs.declared.change.Change.{Change}
use Rattle.solo_view.specs.Area.{Part, area_word, part_of}
use Rattle.solo_view.specs.Area.Part.{EntryWord, GenerationWord, OtherWord, SealWord, SlotWord}
use Rattle.solo_view.specs.Changes.{drained, flushed, is_in_line, mark, store_change, or_change, and_change}
use Rattle.solo_view.specs.Log.{Log, Phase, Recorded, log_drawn, log_stored, with_pair, with_slot, log_changed}
use Rattle.solo_view.specs.Log.Phase.{Idle, Open, Drawn, Sealing, Applying, Clearing, Retiring}
use Rattle.solo_view.specs.Steps.{Step}
use Rattle.solo_view.specs.Steps.Step.{Load, Store, Or, And, Flush, Drain, TakeWrite, TakeRead, Raise, Give, ZoneTry, ZoneGive, Occupied, Occupy, Vacate, Draw, NumberSeen, StopSeen, SetStop, Tell}
use Rattle.solo_view.specs.View.{View}
use Rattle.solo_view.specs.Views.{after, begun, changed, log_after_drain}
use Rattle.solo_world.specs.Lawful.{Allowed, EndsGeneration, MayDraw, OnlyFilled, StoreFits, MayChange}
use Rattle.solo_crash.proofs.AloneCourse.{begins_lane, begins_slots}
use Rattle.solo_world.proofs.CrashLogs.{InSlots, drained_slot}
use Rattle.solo_world.specs.Opening.{Opening}
use Rattle.solo_undo.specs.Working.{IsWorking}
use Rattle.solo_undo.proofs.Areas.{slot_part}
use Rattle.solo_crash.specs.Alone.{Begins}
use Rattle.solo_crash.specs.Leading.{Leads}
use Rattle.solo_crash.proofs.LogCourse.{Paired, Slotted, paired, slotted}
use Rattle.solo_exec.proofs.Along.{lane_along}
use Rattle.solo_exec.specs.Quiet.{IsQuiet, MakesNone}
use Rattle.pm_record.specs.declared.redo.Op.{Op}
use Rattle.solo_world.proofs.StepChange.{changes_next}

-- how many words of slots may be undrained
abbrev pub slot_words : Phase → Log → ℕ
slot_words (Open slot pair) log = 8 * length log.records + length slot
slot_words phase log = 0

-- undrained slot words are among the first so many
abbrev pub AreFirst : ℕ → ℕ → List Change → Type 0
AreFirst lane count changes = (c : Change) → Contains changes c → InSlots lane c.word → c.word < area_word lane + 136 + count

abbrev pub HasFirst : View → Type 0
HasFirst v = AreFirst v.lane (slot_words v.log.phase v.log) v.changes

none_first : (lane count : ℕ) → AreFirst lane count []
none_first lane count c there = absurd (no_member c there)

empty_first : (lane count : ℕ) (changes : List Change) → changes ≡ [] → AreFirst lane count changes
empty_first lane count changes none = subst (AreFirst lane count) (sym none) (none_first lane count)

-- a change more
one_more : (lane count : ℕ) (changes : List Change) (d : Change) → AreFirst lane count changes → (InSlots lane d.word → d.word < area_word lane + 136 + count) → AreFirst lane count (changes ++ d ∷ [])
one_more lane count changes d first last c there slots = ⊎_elim
    (λ (old : Contains changes c). first c old slots)
    (λ (new : Contains (d ∷ []) c).
    let word : d.word ≡ c.word = ap (λ (e : Change). e.word) (only_member d c new) in
    let low = last (subst (InSlots lane) (sym word) slots) in omega (arith, low, word))
    (Contains-append_cases changes (d ∷ []) c there)

wider : (lane count more : ℕ) (changes : List Change) → count ≤ more → AreFirst lane count changes → AreFirst lane more changes
wider lane count more changes at first c there slots = let low = first c there slots in omega (arith, low, at)

marked_word : (c : Change) (b : Bool) → (cond b (record c { flushed = true }) c).word ≡ c.word
marked_word c true = refl
marked_word c false = refl

flushed_first : (lane count line : ℕ) (changes : List Change) → AreFirst lane count changes → AreFirst lane count (flushed line changes)
flushed_first lane count line changes first c there slots =
    let d = member_made (mark line) changes c there in
    let word : d.0.word ≡ c.word = sym (marked_word d.0 (is_in_line line d.0)) ∙ ap (λ (x : Change). x.word) d.1.1 in
    let low = first d.0 d.1.0 (subst (InSlots lane) (sym word) slots) in omega (arith, low, word)

-- a word of the slots is a slot word
in_slots_part : (lane w : ℕ) → InSlots lane w → part_of lane w ≡ SlotWord
in_slots_part lane w slots =
    let low = slots.low in
    let high = slots.high in
    let slot : ℕ = w / 8 - (81 + 128 * lane) in
    let i : ℕ = w - 8 * (w / 8) in
    (slot_part lane slot i w (omega (arith, low, high)) (omega (arith, low, high)) (omega (arith, low, high))).0

slot_not_other : (lane w : ℕ) → part_of lane w ≡ OtherWord → InSlots lane w → ⊥
slot_not_other lane w part slots = let clash : SlotWord ≡ OtherWord = sym (in_slots_part lane w slots) ∙ part in cc

slot_not_generation : (lane w : ℕ) → part_of lane w ≡ GenerationWord → InSlots lane w → ⊥
slot_not_generation lane w part slots = let clash : SlotWord ≡ GenerationWord = sym (in_slots_part lane w slots) ∙ part in cc

slot_not_seal : (lane w : ℕ) → part_of lane w ≡ SealWord → InSlots lane w → ⊥
slot_not_seal lane w part slots = let clash : SlotWord ≡ SealWord = sym (in_slots_part lane w slots) ∙ part in cc

slot_not_entry : (lane w : ℕ) → part_of lane w ≡ EntryWord → InSlots lane w → ⊥
slot_not_entry lane w part slots = let clash : SlotWord ≡ EntryWord = sym (in_slots_part lane w slots) ∙ part in cc

module _ (v : View) (w x : ℕ) where
  abbrev change : Change
  change = store_change w (slice_index v.words w) x

  abbrev stored : Log → View
  stored log = changed v w x change log

  -- a slot's next word
  in_slot : (slot pair : List ℕ) → StoreFits v w x (Open slot pair) SlotWord → AreFirst v.lane (slot_words (Open slot pair) v.log) v.changes → HasFirst (stored (with_slot v.log (slot ++ x ∷ []) pair))
  in_slot slot pair may first =
      let s : Slotted v.log (slot ++ x ∷ []) pair = slotted v.log (slot ++ x ∷ []) pair in
      let at = may.at in
      let count = s.count in
      let more = length-append slot (x ∷ []) in
      let all : ℕ = 8 * length (with_slot v.log (slot ++ x ∷ []) pair).records + length s.slot in
      subst (λ (p : Phase). AreFirst v.lane (slot_words p (with_slot v.log (slot ++ x ∷ []) pair)) (v.changes ++ change ∷ [])) (sym s.is_open)
      (one_more v.lane all v.changes change (wider v.lane (8 * length v.log.records + length slot) all v.changes (omega (arith, count, more)) first)
      (λ slots. omega (arith, at, count, more)))

  -- a pair's next word
  in_pair : (slot pair : List ℕ) → part_of v.lane w ≡ EntryWord → AreFirst v.lane (slot_words (Open slot pair) v.log) v.changes → HasFirst (stored (with_pair v.log slot (pair ++ x ∷ [])))
  in_pair slot pair part first =
      let p : Paired v.log slot (pair ++ x ∷ []) = paired v.log slot (pair ++ x ∷ []) in
      subst (λ (q : Phase). AreFirst v.lane (slot_words q (with_pair v.log slot (pair ++ x ∷ []))) (v.changes ++ change ∷ [])) (sym p.is_open)
      (subst (λ (rs : List Recorded). AreFirst v.lane (8 * length rs + length slot) (v.changes ++ change ∷ [])) (sym p.same)
      (one_more v.lane (8 * length v.log.records + length slot) v.changes change first (λ slots. absurd (slot_not_entry v.lane w part slots))))

  -- the generation, with nothing undrained
  ends_first : (count : ℕ) → part_of v.lane w ≡ GenerationWord → EndsGeneration v x → AreFirst v.lane count (v.changes ++ change ∷ [])
  ends_first count part ends =
      one_more v.lane count v.changes change (empty_first v.lane count v.changes ends.drained) (λ slots. absurd (slot_not_generation v.lane w part slots))

  store_first : (p : Phase) (part : Part) → v.log.phase ≡ p → part_of v.lane w ≡ part → StoreFits v w x p part → AreFirst v.lane (slot_words p v.log) v.changes → HasFirst (stored (log_stored p part x v.log))
  store_first Idle part is of may first = absurd may
  store_first (Open slot pair) GenerationWord is of may first = ends_first 0 of may.ends
  store_first (Open slot pair) SealWord is of may first = absurd may
  store_first (Open slot pair) EntryWord is of may first = in_pair slot pair of first
  store_first (Open slot pair) SlotWord is of may first = in_slot slot pair may first
  store_first (Open slot pair) OtherWord is of may first =
      subst (λ (p : Phase). AreFirst v.lane (slot_words p v.log) (v.changes ++ change ∷ [])) (sym is)
      (one_more v.lane (8 * length v.log.records + length slot) v.changes change first (λ slots. absurd (slot_not_other v.lane w of slots)))
  store_first Drawn GenerationWord is of may first = ends_first 0 of may
  store_first Drawn SealWord is of may first = one_more v.lane 0 v.changes change first (λ slots. absurd (slot_not_seal v.lane w of slots))
  store_first Drawn EntryWord is of may first = absurd may
  store_first Drawn SlotWord is of may first = absurd may
  store_first Drawn OtherWord is of may first = absurd may
  store_first Sealing part is of may first = absurd may
  store_first (Applying applied) GenerationWord is of may first = one_more v.lane 0 v.changes change first (λ slots. absurd (slot_not_generation v.lane w of slots))
  store_first (Applying applied) SealWord is of may first = one_more v.lane 0 v.changes change first (λ slots. absurd (slot_not_seal v.lane w of slots))
  store_first (Applying applied) EntryWord is of may first = absurd may
  store_first (Applying applied) SlotWord is of may first = absurd may
  store_first (Applying applied) OtherWord is of may first = one_more v.lane 0 v.changes change first (λ slots. absurd (slot_not_other v.lane w of slots))
  store_first Clearing part is of may first = absurd may
  store_first Retiring part is of may first = absurd may

-- with some changes fewer, or none
abbrev emptied : View → List Change → View
emptied v left = record v { changes = left; calls = v.calls + 1; log = log_after_drain left v }

drain_first : (v : View) (left : List Change) → AreFirst v.lane (slot_words v.log.phase v.log) left → HasFirst (emptied v left)
drain_first v [] first = none_first v.lane (slot_words (log_after_drain [] v).phase (log_after_drain [] v))
drain_first v (c ∷ left) first = first

begun_first : (v : View) (p : Phase) → v.log.phase ≡ p → AreFirst v.lane (slot_words p v.log) v.changes → HasFirst (begun p v)
begun_first v Idle is first = first
begun_first v (Open slot pair) is first = subst (λ (p : Phase). AreFirst v.lane (slot_words p v.log) v.changes) (sym is) first
begun_first v Drawn is first = subst (λ (p : Phase). AreFirst v.lane (slot_words p v.log) v.changes) (sym is) first
begun_first v Sealing is first = subst (λ (p : Phase). AreFirst v.lane (slot_words p v.log) v.changes) (sym is) first
begun_first v (Applying applied) is first = subst (λ (p : Phase). AreFirst v.lane (slot_words p v.log) v.changes) (sym is) first
begun_first v Clearing is first = subst (λ (p : Phase). AreFirst v.lane (slot_words p v.log) v.changes) (sym is) first
begun_first v Retiring is first = subst (λ (p : Phase). AreFirst v.lane (slot_words p v.log) v.changes) (sym is) first

-- bits of a word are set or cleared, which is none of the slots
bits_first : (v : View) (op : Op) (w bits : ℕ) (c : Change) → c.word ≡ w → MayChange v op w bits → HasFirst v → AreFirst v.lane (slot_words (log_changed v.log.phase v.log).phase (log_changed v.log.phase v.log)) (v.changes ++ c ∷ [])
bits_first v op w bits c word may first =
    let t = changes_next v op w bits v.log.phase refl (part_of v.lane w) refl may.fits in
    subst (λ (p : Phase). AreFirst v.lane (slot_words (log_changed p v.log).phase (log_changed p v.log)) (v.changes ++ c ∷ [])) (sym t.phase)
    (one_more v.lane 0 v.changes c (subst (λ (p : Phase). AreFirst v.lane (slot_words p v.log) v.changes) t.phase first) (λ slots. absurd (slot_not_other v.lane w t.outside (subst (InSlots v.lane) word slots))))

-- a draw: with a record nothing is undrained, and without one no slot word is
draw_first : (v : View) (count : ℕ) → MayDraw v → HasFirst v → AreFirst v.lane count v.changes
draw_first v count may first = ⊎_elim
    (λ (none : v.changes ≡ []). empty_first v.lane count v.changes none)
    (λ (bare : (v.log.records ≡ []) × (v.log.entries ≡ []) × OnlyFilled v).
    let words : slot_words v.log.phase v.log ≡ 8 * length v.log.records + 0 = ap (λ (p : Phase). slot_words p v.log) may.is_open in
    let records : length v.log.records ≡ 0 = ap length bare.0 in
    λ c there slots. let low = first c there slots in omega (arith, low, words, records))
    may.drained

first_after : (v : View) (s : Step) → Allowed v s → HasFirst v → HasFirst (after v s)
first_after v (Load w x) may first = first
first_after v (Store w x) may first = store_first v w x v.log.phase (part_of v.lane w) refl refl may.fits first
first_after v (Or w bits found) may first = bits_first v op.Or w bits (or_change w bits found) refl may first
first_after v (And w bits found) may first = bits_first v op.And w bits (and_change w bits found) refl may first
first_after v (Flush line) may first = flushed_first v.lane (slot_words v.log.phase v.log) line v.changes first
first_after v Drain may first = drain_first v (drained v.changes) (λ c there. first c (member_kept (λ (d : Change). not d.flushed) v.changes c there))
first_after v (TakeWrite line won) may first = first
first_after v (TakeRead line won) may first = first
first_after v (Raise line won) may first = absurd may
first_after v (Give line) may first = first
first_after v (ZoneTry zone won) may first = first
first_after v (ZoneGive zone) may first = first
first_after v (Occupied at found) may first = first
first_after v (Occupy at bits won) may first = first
first_after v (Vacate at bits) may first = first
first_after v (Draw n) may first = draw_first v (slot_words (log_drawn v.log.phase v.log).phase (log_drawn v.log.phase v.log)) may first
first_after v (NumberSeen n) may first = begun_first v v.log.phase refl first
first_after v (StopSeen set) may first = first
first_after v SetStop may first = first
first_after v (Tell operation reply) may first = first

pub first_along : (v : View) (steps : List Step) (w : View) → Leads v steps w → HasFirst v → HasFirst w
unfolding Leads
first_along v [] w leads first = subst HasFirst (sym leads) first
first_along v (s ∷ steps) w leads first = first_along (after v s) steps w leads.3 (first_after v s leads.0 first)

drained_so : (b : Bool) → not b ≡ true → b ≡ true → ⊥
drained_so true drained is = false≢true drained
drained_so false drained is = false≢true is

module _ (o : Opening) (header : Header) (pool : PoolView) (v : View) (steps : List Step) (w : View) (begins : Begins o header pool v) (leads : Leads v steps w) where
  pub alone_lane : w.lane ≡ 0
  alone_lane = lane_along v w steps leads (begins_lane o header pool v begins)

  begins_first : HasFirst v
  begins_first c there slots =
      let low = slots.low in let high = slots.high in let lane = begins_lane o header pool v begins in
      absurd (drained_slot v (c.word / 8 - 81) c (begins_slots o header pool v begins (c.word / 8 - 81) (omega (arith, low, high, lane))) there (omega (arith, low, lane)))

  pub alone_first : HasFirst w
  alone_first = first_along v steps w leads begins_first

  -- at work it is quiet
  pub quiet_at_work : IsWorking w → IsQuiet w
  quiet_at_work working = record {
    lane = alone_lane;
    unchanged = λ c there slots.
        let lane = alone_lane in
        let first : AreFirst w.lane (8 * length w.log.records + 0) w.changes = subst (λ (p : Phase). AreFirst w.lane (slot_words p w.log) w.changes) working.is_open alone_first in
        let below = first c there (subst (λ n. InSlots n c.word) (sym lane) slots) in
        let low = slots.low in
        let slot : ℕ = c.word / 8 - 81 in
        let line : c.word / 8 ≡ slot_line w.lane slot = omega (arith, low, lane) in
        drained_so (list_any (is_in_line (slot_line w.lane slot)) w.changes) (working.drained slot (omega (arith, below, low, lane)))
        (list_any-from_Any (is_in_line (slot_line w.lane slot)) w.changes (there.0, c, there.1, there.2, eq-eqb (c.word / 8) (slot_line w.lane slot) line));
    unbegun = subst (λ (p : Phase). MakesNone p) (sym working.is_open) tt;
  }
