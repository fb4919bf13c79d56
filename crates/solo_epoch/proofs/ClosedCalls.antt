-- A lane that works alone and has no call open may draw no number, until it sees again how many were drawn.
use Rattle.std.proofs.Common.{◌≡◌, ⊎_elim, ℕ, ◌&&◌, true, false, List, [], ◌∷◌, ◌++◌, is_none, is_some, Option, None, Some, refl, sym, ap, ◌∙◌, subst}
use Rattle.std.specs.List.{list_any}
use Rattle.std.proofs.lemmas.Bool.{and_from, and_parts, false_from_ne_true, false≢true}
use Rattle.pm_header.specs.declared.header.Header.{Header}
use Rattle.pm_objects.specs.declared.pool.PoolView.{PoolView}
use Rattle.solo_view.specs.declared.change.Change.{Change}
use Rattle.solo_view.specs.Area.{Part, part_of}
use Rattle.solo_view.specs.Area.Part.{GenerationWord, SealWord, EntryWord, SlotWord, OtherWord}
use Rattle.solo_view.specs.Changes.{drained}
use Rattle.solo_view.specs.Log.{Final, Log, Phase, Recorded, log_changed, log_drained, log_drawn, log_stored, no_log, phase_drawn, with_pair, with_slot}
use Rattle.solo_view.specs.Log.Phase.{Idle, Open, Drawn, Sealing, Applying, Clearing, Retiring}
use Rattle.solo_view.specs.Steps.{Step}
use Rattle.solo_view.specs.Steps.Step.{Load, Store, Or, And, Flush, Drain, TakeWrite, TakeRead, Raise, Give, ZoneTry, ZoneGive, Occupied, Occupy, Vacate, Draw, NumberSeen, StopSeen, SetStop, Tell}
use Rattle.solo_view.specs.View.{View}
use Rattle.solo_view.specs.Views.{after, begun, log_after_drain, with_seen}
use Rattle.solo_world.specs.Lawful.{Allowed, StoreFits}
use Rattle.solo_world.specs.Opening.{Opening}
use Rattle.solo_world.specs.World.{is_low, may_draw}
use Rattle.solo_world.proofs.StepSeen.{not_low_more}
use Rattle.solo_crash.specs.Alone.{Begins, BeginsAgain, BeginsAlone, WorksAlone}
use Rattle.solo_crash.specs.Leading.{Leads}

-- with no call open the lane may not draw, and behind its call's draw it has a number
abbrev IsClosed : Phase → View → Type 0
IsClosed Idle v = may_draw v ≡ false
IsClosed (Open slot pair) v = Unit {0}
IsClosed Retiring v = Unit {0}
IsClosed phase v = is_none v.number ≡ false

abbrev IsApplying : Phase → Type 0
IsApplying (Applying applied) = Unit {0}
IsApplying phase = ⊥

-- where a lane has the number that it had, and saw no low number more, it stays so
stays : (phase : Phase) (v w : View) → w.number ≡ v.number → (list_any is_low w.seen ≡ true → list_any is_low v.seen ≡ true) → IsClosed phase v → IsClosed phase w
stays Idle v w number seen closed = false_from_ne_true (may_draw w) (λ can.
    let both = and_parts (is_none w.number) (list_any is_low w.seen) can in
    false≢true (sym closed ∙ and_from (is_none v.number) (list_any is_low v.seen) (ap is_none (sym number) ∙ both.0) (seen both.1)))
stays (Open slot pair) v w number seen closed = tt
stays Drawn v w number seen closed = ap is_none number ∙ closed
stays Sealing v w number seen closed = ap is_none number ∙ closed
stays (Applying applied) v w number seen closed = ap is_none number ∙ closed
stays Clearing v w number seen closed = ap is_none number ∙ closed
stays Retiring v w number seen closed = tt

-- ---- stores

slot_open : (log : Log) (slot pair : List ℕ) (u : View) → IsClosed (with_slot log slot pair).phase u
slot_open log (generation ∷ place ∷ count ∷ a ∷ b ∷ c ∷ d ∷ sum ∷ []) pair u = tt
slot_open log slot pair u = tt

pair_open : (log : Log) (slot pair : List ℕ) (u : View) → IsClosed (with_pair log slot pair).phase u
pair_open log slot (place ∷ value ∷ []) u = tt
pair_open log slot pair u = tt

module _ (v : View) (w x : ℕ) where
  abbrev stored : View
  stored = after v (Store w x)

  closed_stored : (phase : Phase) (part : Part) → v.log.phase ≡ phase → StoreFits v w x phase part → IsClosed phase v → IsClosed (log_stored phase part x v.log).phase stored
  closed_stored (Open slot pair) SlotWord is fits closed = slot_open v.log (slot ++ x ∷ []) pair stored
  closed_stored (Open slot pair) EntryWord is fits closed = pair_open v.log slot (pair ++ x ∷ []) stored
  closed_stored (Open slot pair) GenerationWord is fits closed = tt
  closed_stored (Open slot pair) OtherWord is fits closed = subst (λ (p : Phase). IsClosed p stored) (sym is) tt
  closed_stored (Open slot pair) SealWord is fits closed = absurd fits
  closed_stored Drawn GenerationWord is fits closed = tt
  closed_stored Drawn SealWord is fits closed = closed
  closed_stored Drawn SlotWord is fits closed = absurd fits
  closed_stored Drawn EntryWord is fits closed = absurd fits
  closed_stored Drawn OtherWord is fits closed = absurd fits
  closed_stored (Applying applied) SealWord is fits closed = closed
  closed_stored (Applying applied) part is fits closed = closed
  closed_stored Idle part is fits closed = absurd fits
  closed_stored Sealing part is fits closed = absurd fits
  closed_stored Clearing part is fits closed = absurd fits
  closed_stored Retiring part is fits closed = absurd fits

-- ---- bits set or cleared, as entries are applied

module _ (v : View) (s : Step) where
  -- the view in this phase
  abbrev in_phase : Phase → View
  in_phase phase = record v { log = record v.log { phase = phase } }

  closed_changed : (phase : Phase) → ((Allowed (in_phase phase) s) → IsApplying phase) → v.log.phase ≡ phase → Allowed v s → IsClosed phase v → (u : View) → u.number ≡ v.number → IsClosed (log_changed phase v.log).phase u
  closed_changed (Applying applied) only is may closed u number = ap is_none number ∙ closed
  closed_changed phase only is may closed u number = absurd (only (subst (λ (p : Phase). Allowed (in_phase p) s) is may))

or_applies : (v : View) (w bits x : ℕ) (phase : Phase) → Allowed (in_phase v (Or w bits x) phase) (Or w bits x) → IsApplying phase
or_applies v w bits x (Applying applied) may = tt
or_applies v w bits x Idle may = absurd may.fits
or_applies v w bits x (Open slot pair) may = absurd may.fits
or_applies v w bits x Drawn may = absurd may.fits
or_applies v w bits x Sealing may = absurd may.fits
or_applies v w bits x Clearing may = absurd may.fits
or_applies v w bits x Retiring may = absurd may.fits

and_applies : (v : View) (w bits x : ℕ) (phase : Phase) → Allowed (in_phase v (And w bits x) phase) (And w bits x) → IsApplying phase
and_applies v w bits x (Applying applied) may = tt
and_applies v w bits x Idle may = absurd may.fits
and_applies v w bits x (Open slot pair) may = absurd may.fits
and_applies v w bits x Drawn may = absurd may.fits
and_applies v w bits x Sealing may = absurd may.fits
and_applies v w bits x Clearing may = absurd may.fits
and_applies v w bits x Retiring may = absurd may.fits

-- ---- drains, draws and looks at the numbers drawn

module _ (v : View) where
  abbrev settled : View
  settled = after v Drain

  closed_retired : (number : Option ℕ) → v.number ≡ number → IsClosed (log_drained Retiring (is_some number) v.log).phase settled
  closed_retired (Some n) is = ap (λ (o : Option ℕ). is_none o && list_any is_low v.seen) is
  closed_retired None is = tt

  closed_settled : (phase : Phase) → v.log.phase ≡ phase → IsClosed phase v → IsClosed (log_drained phase (is_some v.number) v.log).phase settled
  closed_settled Sealing is closed = closed
  closed_settled Clearing is closed = ap (λ none. none && list_any is_low v.seen) closed
  closed_settled Retiring is closed = closed_retired v.number refl
  closed_settled Idle is closed = subst (λ (p : Phase). IsClosed p settled) (sym is) closed
  closed_settled (Open slot pair) is closed = subst (λ (p : Phase). IsClosed p settled) (sym is) tt
  closed_settled Drawn is closed = subst (λ (p : Phase). IsClosed p settled) (sym is) closed
  closed_settled (Applying applied) is closed = subst (λ (p : Phase). IsClosed p settled) (sym is) closed

  closed_drained : (left : List Change) → IsClosed v.log.phase v → IsClosed (log_after_drain left v).phase settled
  closed_drained [] closed = closed_settled v.log.phase refl closed
  closed_drained (c ∷ left) closed = stays v.log.phase v settled refl (λ low. low) closed

  module _ (n : ℕ) where
    closed_by_log : (records : List Recorded) (entries : List Final) → IsClosed (phase_drawn records entries) (after v (Draw n))
    closed_by_log [] [] = refl
    closed_by_log [] (f ∷ entries) = refl
    closed_by_log (r ∷ records) entries = refl

    closed_drawn : v.log.phase ≡ Open [] [] → IsClosed (log_drawn v.log.phase v.log).phase (after v (Draw n))
    closed_drawn is = subst (λ (p : Phase). IsClosed (log_drawn p v.log).phase (after v (Draw n))) (sym is) (closed_by_log v.log.records v.log.entries)

    abbrev saw : Phase → View
    saw phase = with_seen (NumberSeen n) (begun phase v)

    closed_seen : (phase : Phase) → v.log.phase ≡ phase → IsClosed phase v → IsClosed (saw phase).log.phase (saw phase)
    closed_seen Idle is closed = tt
    closed_seen (Open slot pair) is closed = subst (λ (p : Phase). IsClosed p (saw (Open slot pair))) (sym is) tt
    closed_seen Drawn is closed = subst (λ (p : Phase). IsClosed p (saw Drawn)) (sym is) closed
    closed_seen Sealing is closed = subst (λ (p : Phase). IsClosed p (saw Sealing)) (sym is) closed
    closed_seen (Applying applied) is closed = subst (λ (p : Phase). IsClosed p (saw (Applying applied))) (sym is) closed
    closed_seen Clearing is closed = subst (λ (p : Phase). IsClosed p (saw Clearing)) (sym is) closed
    closed_seen Retiring is closed = subst (λ (p : Phase). IsClosed p (saw Retiring)) (sym is) tt

-- ---- each step

closed_after : (v : View) (s : Step) → Allowed v s → IsClosed v.log.phase v → IsClosed (after v s).log.phase (after v s)
closed_after v (Load w x) may closed = stays v.log.phase v (after v (Load w x)) refl (not_low_more v.seen (Load w x) refl) closed
closed_after v (Store w x) may closed = closed_stored v w x v.log.phase (part_of v.lane w) refl may.fits closed
closed_after v (Or w bits x) may closed = closed_changed v (Or w bits x) v.log.phase (or_applies v w bits x v.log.phase) refl may closed (after v (Or w bits x)) refl
closed_after v (And w bits x) may closed = closed_changed v (And w bits x) v.log.phase (and_applies v w bits x v.log.phase) refl may closed (after v (And w bits x)) refl
closed_after v (Flush line) may closed = stays v.log.phase v (after v (Flush line)) refl (λ low. low) closed
closed_after v Drain may closed = closed_drained v (drained v.changes) closed
closed_after v (TakeWrite line won) may closed = stays v.log.phase v (after v (TakeWrite line won)) refl (not_low_more v.seen (TakeWrite line won) refl) closed
closed_after v (TakeRead line won) may closed = stays v.log.phase v (after v (TakeRead line won)) refl (not_low_more v.seen (TakeRead line won) refl) closed
closed_after v (Raise line won) may closed = absurd may
closed_after v (Give line) may closed = stays v.log.phase v (after v (Give line)) refl (λ low. low) closed
closed_after v (ZoneTry zone won) may closed = stays v.log.phase v (after v (ZoneTry zone won)) refl (not_low_more v.seen (ZoneTry zone won) refl) closed
closed_after v (ZoneGive zone) may closed = stays v.log.phase v (after v (ZoneGive zone)) refl (not_low_more v.seen (ZoneGive zone) refl) closed
closed_after v (Occupied at x) may closed = stays v.log.phase v (after v (Occupied at x)) refl (not_low_more v.seen (Occupied at x) refl) closed
closed_after v (Occupy at bits won) may closed = stays v.log.phase v (after v (Occupy at bits won)) refl (not_low_more v.seen (Occupy at bits won) refl) closed
closed_after v (Vacate at bits) may closed = stays v.log.phase v (after v (Vacate at bits)) refl (λ low. low) closed
closed_after v (Draw n) may closed = closed_drawn v n may.is_open
closed_after v (NumberSeen n) may closed = closed_seen v n v.log.phase refl closed
closed_after v (StopSeen set) may closed = stays v.log.phase v (after v (StopSeen set)) refl (not_low_more v.seen (StopSeen set) refl) closed
closed_after v SetStop may closed = closed
closed_after v (Tell operation reply) may closed = stays v.log.phase v (after v (Tell operation reply)) refl (λ low. low) closed

closed_along : (v w : View) (steps : List Step) → Leads v steps w → IsClosed v.log.phase v → IsClosed w.log.phase w
unfolding Leads
closed_along v w [] leads closed = subst (λ (u : View). IsClosed u.log.phase u) (sym leads) closed
closed_along v w (s ∷ steps) leads closed = closed_along (after v s) w steps leads.3 (closed_after v s leads.0 closed)

closed_begun : (o : Opening) (header : Header) (pool : PoolView) (v : View) → Begins o header pool v → IsClosed v.log.phase v
closed_begun o header pool v = ⊎_elim
    (λ (first : BeginsAlone o header pool v). subst (λ (log : Log). IsClosed log.phase v) (sym first.fresh.idle) (false_from_ne_true (may_draw v) (λ can.
    false≢true (ap (list_any is_low) (sym first.fresh.nothing_seen) ∙ (and_parts (is_none v.number) (list_any is_low v.seen) can).1))))
    (λ (again : BeginsAgain o header pool v). subst (λ (log : Log). IsClosed log.phase v) (sym again.rested.idle) again.closed)

pub idle_is_closed : (o : Opening) (header : Header) (pool : PoolView) (start v : View) (steps : List Step) → WorksAlone o header pool start steps v → v.log ≡ no_log Idle → may_draw v ≡ false
idle_is_closed o header pool start v steps works idle = subst (λ (log : Log). IsClosed log.phase v) idle (closed_along start v steps works.leads (closed_begun o header pool start works.begins))
