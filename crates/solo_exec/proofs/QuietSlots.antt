-- A lane of which no slot is being written: a power failure tears no record of it; and steps that store no slot word leave it so.
use Rattle.std.proofs.Common.{◌≡◌, ◌≢◌, ◌⊎◌, ⊎_elim, ℕ, zero, suc, ◌/◌, ◌<◌, ◌≤◌, Bool, true, false, not, cond, List, [], ◌∷◌, length, take, is_some, slice_index, refl, sym, ◌∙◌, ap, subst, arith}
use Rattle.std.specs.List.{Contains, list_any}
use Rattle.std.proofs.lemmas.Bool.{cases_eq, false≢true, eqb-true}
use Rattle.std.proofs.lemmas.List.Folds.{Any-from_list_any}
use Rattle.std.proofs.lemmas.List.Elements.{Contains-append_cases}
use Rattle.pm_image.proofs.Members.{member_kept, member_made, no_member, only_member}
use Rattle.pm_image.specs.Logs.{slot_line}
use Rattle.solo_view.specs.declared.change.Change.{Change}
use Rattle.solo_view.specs.Area.{Part, is_in_area, part_of}
use Rattle.solo_view.specs.Area.Part.{GenerationWord, OtherWord}
use Rattle.solo_view.specs.Changes.{drained, is_in_line, mark, store_change}
use Rattle.solo_view.specs.Log.{Final, Log, Phase, Recorded, log_drained, log_drawn, log_stored, no_log, phase_drawn}
use Rattle.solo_view.specs.Log.Phase.{Idle, Open, Drawn, Sealing, Applying, Clearing, Retiring}
use Rattle.solo_view.specs.Steps.{Step}
use Rattle.solo_view.specs.Steps.Step.{Load, Store, Or, And, Flush, Drain, TakeWrite, TakeRead, Raise, Give, ZoneTry, ZoneGive, Occupied, Occupy, Vacate, Draw, NumberSeen, StopSeen, SetStop, Tell}
use Rattle.solo_view.specs.View.{View}
use Rattle.solo_view.specs.Views.{after, after_all, begun, log_after_drain}
use Rattle.solo_world.specs.Crash.{IsBeingWritten, NoneTorn}
use Rattle.solo_world.specs.Opening.{Opening}
use Rattle.solo_world.specs.Records.{is_drained_slot, used_slots}
use Rattle.solo_world.proofs.CrashLogs.{InSlots}
use Rattle.solo_undo.proofs.Areas.{generation_word, in_area, other_part}
use Rattle.solo_crash.specs.Alone.{alone_views, idle_view}
use Rattle.solo_crash.proofs.AloneCourse.{alone_else}
use Rattle.solo_tx.specs.Learning.{Looks}
use Rattle.solo_tx.proofs.StepKinds.{Each, each_first}
use Rattle.solo_exec.specs.Quiet.{IsQuiet, MakesNone}

unbegun_uses : (w : View) (p : Phase) → MakesNone p → used_slots p w ≡ length w.log.records
unbegun_uses w Idle is = refl
unbegun_uses w (Open [] pair) is = refl
unbegun_uses w (Open (x ∷ slot) pair) is = absurd is
unbegun_uses w Drawn is = refl
unbegun_uses w Sealing is = refl
unbegun_uses w (Applying applied) is = refl
unbegun_uses w Clearing is = refl
unbegun_uses w Retiring is = refl

was_there : (b : Bool) → not b ≡ false → b ≡ true
was_there true e = refl
was_there false e = absurd (false≢true (sym e))

-- no slot of it is being written
pub quiet_writes_none : (w : View) → IsQuiet w → (slot : ℕ) → slot < 64 → IsBeingWritten w slot → ⊥
quiet_writes_none w quiet slot low being = ⊎_elim
    (λ (undrained : is_drained_slot w slot ≡ false).
    let t = Any-from_list_any (is_in_line (slot_line w.lane slot)) w.changes (was_there (list_any (is_in_line (slot_line w.lane slot)) w.changes) undrained) in
    let c : Change = t.1 in
    let line : c.word / 8 ≡ slot_line w.lane slot = eqb-true (c.word / 8) (slot_line w.lane slot) t.4 in
    let lane = quiet.lane in
    quiet.unchanged c (t.0, t.2, t.3) (record { low = omega (arith, line, lane); high = omega (arith, line, lane, low) }))
    (λ (used : (length w.log.records ≤ slot) × (slot < used_slots w.log.phase w)).
    let all = unbegun_uses w w.log.phase quiet.unbegun in
    let from = used.0 in
    let to = used.1 in omega (arith, all, from, to))
    being

-- a lane that makes no step writes no slot
idle_writes_none : (o : Opening) (j slot : ℕ) → IsBeingWritten (idle_view o j) slot → ⊥
idle_writes_none o j slot being = ⊎_elim
    (λ (undrained : true ≡ false). false≢true (sym undrained))
    (λ (used : (0 ≤ slot) × (slot < 0)). let low = used.1 in omega arith)
    being

-- so no image has a torn record of it
pub none_torn_where_quiet : (o : Opening) (w : View) (image : List ℕ) → IsQuiet w → NoneTorn o (alone_views o w) image
none_torn_where_quiet o w image quiet k slot u low within being valid = ⊎_elim
    (λ (same : k ≡ 0). absurd (quiet_writes_none w quiet slot within (subst (λ n. IsBeingWritten (alone_views o w n) slot) same being)))
    (λ (other : k ≢ 0). absurd (idle_writes_none o k slot (subst (λ (x : View). IsBeingWritten x slot) (alone_else o w k other) being)))
    (cases_eq k 0)

-- a step of lane 0 that stores no slot word
abbrev pub IsCalm : Step → Type 0
IsCalm (Load w x) = Unit {0}
IsCalm (Store w x) = (w ≡ 512) ⊎ (is_in_area 0 w ≡ false)
IsCalm (Flush line) = Unit {0}
IsCalm Drain = Unit {0}
IsCalm (TakeWrite line won) = Unit {0}
IsCalm (TakeRead line won) = Unit {0}
IsCalm (Give line) = Unit {0}
IsCalm (Draw n) = Unit {0}
IsCalm (NumberSeen n) = Unit {0}
IsCalm (StopSeen set) = Unit {0}
IsCalm SetStop = Unit {0}
IsCalm (Tell operation reply) = Unit {0}
IsCalm s = ⊥

-- the phase after a store of the generation, or of a word outside of the area
generation_unbegun : (x : ℕ) (log : Log) (p : Phase) → log.phase ≡ p → MakesNone p → MakesNone (log_stored p GenerationWord x log).phase
generation_unbegun x log Idle is un = subst MakesNone (sym is) tt
generation_unbegun x log (Open slot pair) is un = tt
generation_unbegun x log Drawn is un = tt
generation_unbegun x log Sealing is un = subst MakesNone (sym is) tt
generation_unbegun x log (Applying applied) is un = tt
generation_unbegun x log Clearing is un = subst MakesNone (sym is) tt
generation_unbegun x log Retiring is un = subst MakesNone (sym is) tt

other_unbegun : (x : ℕ) (log : Log) (p : Phase) → log.phase ≡ p → MakesNone p → MakesNone (log_stored p OtherWord x log).phase
other_unbegun x log Idle is un = subst MakesNone (sym is) tt
other_unbegun x log (Open slot pair) is un = subst MakesNone (sym is) un
other_unbegun x log Drawn is un = subst MakesNone (sym is) tt
other_unbegun x log Sealing is un = subst MakesNone (sym is) tt
other_unbegun x log (Applying applied) is un = tt
other_unbegun x log Clearing is un = subst MakesNone (sym is) tt
other_unbegun x log Retiring is un = subst MakesNone (sym is) tt

drained_unbegun : (drawn : Bool) (log : Log) (p : Phase) → log.phase ≡ p → MakesNone p → MakesNone (log_drained p drawn log).phase
drained_unbegun drawn log Idle is un = subst MakesNone (sym is) tt
drained_unbegun drawn log (Open slot pair) is un = subst MakesNone (sym is) un
drained_unbegun drawn log Drawn is un = subst MakesNone (sym is) tt
drained_unbegun drawn log Sealing is un = tt
drained_unbegun drawn log (Applying applied) is un = subst MakesNone (sym is) tt
drained_unbegun drawn log Clearing is un = tt
drained_unbegun true log Retiring is un = tt
drained_unbegun false log Retiring is un = tt

drain_unbegun : (v : View) (left : List Change) → MakesNone v.log.phase → MakesNone (log_after_drain left v).phase
drain_unbegun v [] un = drained_unbegun (is_some v.number) v.log v.log.phase refl un
drain_unbegun v (c ∷ left) un = un

ended_unbegun : (records : List Recorded) (entries : List Final) → MakesNone (phase_drawn records entries)
ended_unbegun [] [] = tt
ended_unbegun [] (f ∷ entries) = tt
ended_unbegun (r ∷ records) entries = tt

drawn_unbegun : (log : Log) (p : Phase) → log.phase ≡ p → MakesNone p → MakesNone (log_drawn p log).phase
drawn_unbegun log Idle is un = subst MakesNone (sym is) tt
drawn_unbegun log (Open slot pair) is un = ended_unbegun log.records log.entries
drawn_unbegun log Drawn is un = subst MakesNone (sym is) tt
drawn_unbegun log Sealing is un = subst MakesNone (sym is) tt
drawn_unbegun log (Applying applied) is un = subst MakesNone (sym is) tt
drawn_unbegun log Clearing is un = subst MakesNone (sym is) tt
drawn_unbegun log Retiring is un = subst MakesNone (sym is) tt

quiet_begun : (v : View) (p : Phase) → IsQuiet v → IsQuiet (begun p v)
quiet_begun v Idle quiet = record { lane = quiet.lane; unchanged = quiet.unchanged; unbegun = tt }
quiet_begun v (Open slot pair) quiet = quiet
quiet_begun v Drawn quiet = quiet
quiet_begun v Sealing quiet = quiet
quiet_begun v (Applying applied) quiet = quiet
quiet_begun v Clearing quiet = quiet
quiet_begun v Retiring quiet = quiet

pub marked_word : (c : Change) (b : Bool) → (cond b (record c { flushed = true }) c).word ≡ c.word
marked_word c true = refl
marked_word c false = refl

-- a store of a word outside of the slots
pub quiet_store : (v : View) (w x : ℕ) → IsQuiet v → (InSlots 0 w → ⊥) → MakesNone (log_stored v.log.phase (part_of v.lane w) x v.log).phase → IsQuiet (after v (Store w x))
quiet_store v w x quiet outside un = record {
  lane = quiet.lane;
  unchanged = λ c there slots. ⊎_elim
      (λ (old : Contains v.changes c). quiet.unchanged c old slots)
      (λ (last : Contains (store_change w (slice_index v.words w) x ∷ []) c).
      let word : w ≡ c.word = ap (λ (d : Change). d.word) (only_member (store_change w (slice_index v.words w) x) c last) in
      outside (subst (InSlots 0) (sym word) slots))
      (Contains-append_cases v.changes (store_change w (slice_index v.words w) x ∷ []) c there);
  unbegun = un;
}

quiet_stored : (v : View) (w x : ℕ) → IsQuiet v → (w ≡ 512) ⊎ (is_in_area 0 w ≡ false) → IsQuiet (after v (Store w x))
quiet_stored v w x quiet calm = ⊎_elim
    (λ (is : w ≡ 512).
    let part : part_of v.lane w ≡ GenerationWord = ap (λ n. part_of n w) quiet.lane ∙ (ap (part_of 0) is ∙ generation_word 0) in
    quiet_store v w x quiet (λ slots. let low = slots.low in omega (arith, low, is))
    (subst (λ (part : Part). MakesNone (log_stored v.log.phase part x v.log).phase) (sym part) (generation_unbegun x v.log v.log.phase refl quiet.unbegun)))
    (λ (outside : is_in_area 0 w ≡ false).
    let part : part_of v.lane w ≡ OtherWord = ap (λ n. part_of n w) quiet.lane ∙ other_part 0 w outside in
    quiet_store v w x quiet (λ slots. let low = slots.low in let high = slots.high in false≢true (sym outside ∙ in_area 0 w (omega (arith, low)) (omega (arith, high))))
    (subst (λ (part : Part). MakesNone (log_stored v.log.phase part x v.log).phase) (sym part) (other_unbegun x v.log v.log.phase refl quiet.unbegun)))
    calm

quiet_flushed : (v : View) (line : ℕ) → IsQuiet v → IsQuiet (after v (Flush line))
quiet_flushed v line quiet = record {
  lane = quiet.lane;
  unchanged = λ c there slots.
      let d = member_made (mark line) v.changes c there in
      let word : d.0.word ≡ c.word = sym (marked_word d.0 (is_in_line line d.0)) ∙ ap (λ (x : Change). x.word) d.1.1 in
      quiet.unchanged d.0 d.1.0 (subst (InSlots 0) (sym word) slots);
  unbegun = quiet.unbegun;
}

-- a quiet lane stays so
pub quiet_after : (v : View) (s : Step) → IsQuiet v → IsCalm s → IsQuiet (after v s)
quiet_after v (Load w x) quiet calm = record { lane = quiet.lane; unchanged = quiet.unchanged; unbegun = quiet.unbegun }
quiet_after v (Store w x) quiet calm = quiet_stored v w x quiet calm
quiet_after v (Or w bits found) quiet calm = absurd calm
quiet_after v (And w bits found) quiet calm = absurd calm
quiet_after v (Flush line) quiet calm = quiet_flushed v line quiet
quiet_after v Drain quiet calm = record {
  lane = quiet.lane;
  unchanged = λ c there. quiet.unchanged c (member_kept (λ (d : Change). not d.flushed) v.changes c there);
  unbegun = drain_unbegun v (drained v.changes) quiet.unbegun;
}
quiet_after v (TakeWrite line won) quiet calm = record { lane = quiet.lane; unchanged = quiet.unchanged; unbegun = quiet.unbegun }
quiet_after v (TakeRead line won) quiet calm = record { lane = quiet.lane; unchanged = quiet.unchanged; unbegun = quiet.unbegun }
quiet_after v (Raise line won) quiet calm = absurd calm
quiet_after v (Give line) quiet calm = record { lane = quiet.lane; unchanged = quiet.unchanged; unbegun = quiet.unbegun }
quiet_after v (ZoneTry zone won) quiet calm = absurd calm
quiet_after v (ZoneGive zone) quiet calm = absurd calm
quiet_after v (Occupied at found) quiet calm = absurd calm
quiet_after v (Occupy at bits won) quiet calm = absurd calm
quiet_after v (Vacate at bits) quiet calm = absurd calm
quiet_after v (Draw n) quiet calm = record { lane = quiet.lane; unchanged = quiet.unchanged; unbegun = drawn_unbegun v.log v.log.phase refl quiet.unbegun }
quiet_after v (NumberSeen n) quiet calm = let q = quiet_begun v v.log.phase quiet in record { lane = q.lane; unchanged = q.unchanged; unbegun = q.unbegun }
quiet_after v (StopSeen set) quiet calm = record { lane = quiet.lane; unchanged = quiet.unchanged; unbegun = quiet.unbegun }
quiet_after v SetStop quiet calm = quiet
quiet_after v (Tell operation reply) quiet calm = record { lane = quiet.lane; unchanged = quiet.unchanged; unbegun = quiet.unbegun }

pub quiet_along : (v : View) (steps : List Step) → IsQuiet v → Each IsCalm steps → IsQuiet (after_all v steps)
unfolding Each after_all
quiet_along v [] quiet each = quiet
quiet_along v (s ∷ steps) quiet each = quiet_along (after v s) steps (quiet_after v s quiet each.0) each.1

-- behind the first of such steps too
pub quiet_at : (v : View) (steps : List Step) (k : ℕ) → IsQuiet v → Each IsCalm steps → IsQuiet (after_all v (take k steps))
quiet_at v steps k quiet each = quiet_along v (take k steps) quiet (each_first IsCalm k steps each)

-- and behind looks
pub quiet_looks : (n : ℕ) (v w : View) → Looks n v w → IsQuiet v → IsQuiet w
unfolding Looks
quiet_looks zero v w is quiet = subst IsQuiet (sym is) quiet
quiet_looks (suc n) v w t quiet = subst IsQuiet (sym t.6) (quiet_after t.0 (Load t.1 t.2) (quiet_looks n v t.0 t.3 quiet) tt)
