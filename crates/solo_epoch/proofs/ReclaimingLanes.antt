-- A lane whose call has ended reclaims what it has, but for what it keeps, and begins again.
use Rattle.std.proofs.Common.{◌≡◌, ℕ, Bool, true, false, cond, IsTrue, All, Contains, List, [], ◌∷◌, ◌++◌, refl, sym, ap, ◌∙◌, subst}
use Rattle.std.proofs.lemmas.List.Elements.{All-cons, All-contains, All-contains_itself, All-head, All-tail, All-weaker}
use Rattle.pm_header.specs.declared.header.Header.{Header}
use Rattle.pm_image.specs.declared.block.Block.{Block}
use Rattle.pm_layout.specs.declared.shape.Shape.{Shape}
use Rattle.pm_objects.specs.declared.pool.PoolView.{PoolView}
use Rattle.solo_view.specs.Founds.{FoundAlone}
use Rattle.solo_view.specs.Held.{is_held}
use Rattle.solo_view.specs.Steps.{Step}
use Rattle.solo_view.specs.Steps.Step.{Load, Store, Or, And, Flush, Drain, TakeWrite, TakeRead, Raise, Give, ZoneTry, ZoneGive, Occupied, Occupy, Vacate, Draw, NumberSeen, StopSeen, SetStop, Tell}
use Rattle.solo_view.specs.View.{View}
use Rattle.solo_view.specs.Views.{after}
use Rattle.solo_world.specs.Lanes.{IsOfShape}
use Rattle.solo_world.specs.Lawful.{Allowed}
use Rattle.solo_world.specs.Opening.{Opening}
use Rattle.solo_crash.specs.Alone.{BeginsAgain, standing}
use Rattle.solo_crash.specs.Leading.{Leads}
use Rattle.solo_reclaim.specs.Reclaims.{AreOfPool, HasLeft, IsReclaiming, MayReclaim, Reclaims}
use Rattle.solo_reclaim.proofs.Steps.{load_same, look_same}
use Rattle.solo_epoch.specs.Epochs.{HasEnded}
use Rattle.solo_epoch.proofs.EndedCalls.{ended_begins, ended_kept}

module _ (o : Opening) (header : Header) (pool : PoolView) where
  pub ended_may : (v : View) (shape : Shape) → HasEnded o header pool v → v.locks ≡ [] → IsOfShape v shape → MayReclaim v shape
  ended_may v shape ended free of_shape = record { rests = record { alone = ended.alone; idle = ended.idle; drained = ended.drained; free = free; taken = ended.taken }; of_shape = of_shape }

  module _ (v : View) (ended : HasEnded o header pool v) where
    -- a call has ended still as its lane sees more, where it holds what it knows
    ended_seen : (known : List ℕ) (seen : List Step) → ((u : ℕ) → Contains known u → IsTrue (is_held v u)) → HasEnded o header pool (record v { known = known; seen = seen })
    ended_seen known seen held = record {
      now = ended.now;
      holds = ended.holds;
      replays = ended.replays;
      clean = λ j low. record { unsealed = (ended.clean j low).unsealed; first_generation = (ended.clean j low).first_generation; last_generation = (ended.clean j low).last_generation; stale = (ended.clean j low).stale };
      lane = record { lanes = ended.lane.lanes; zones = ended.lane.zones; lane = ended.lane.lane; size = refl };
      held = held;
      drained = ended.drained;
      idle = ended.idle;
      of_pool = ended.of_pool;
      small = ended.small;
      freed_of_pool = ended.freed_of_pool;
      taken = record { pages = ended.taken.pages; zone_count = ended.taken.zone_count; bits = ended.taken.bits; apart = ended.taken.apart; once = ended.taken.once };
      within = ended.within;
      of_header = ended.of_header;
      alone = ended.alone;
      numbered = ended.numbered;
      newest = ended.newest;
      few = ended.few;
    }

    -- what it knows with a word more, where it holds that
    held_more : (w : ℕ) (holds : Bool) → (holds ≡ true → IsTrue (is_held v w)) → (u : ℕ) → Contains (cond holds (w ∷ v.known) v.known) u → IsTrue (is_held v u)
    held_more w true is u there =
        let held : All (λ k. IsTrue (is_held v k)) v.known = All-weaker (Contains v.known) (λ k. IsTrue (is_held v k)) ended.held v.known (All-contains_itself v.known) in
        All-contains (λ k. IsTrue (is_held v k)) (w ∷ v.known) u (All-cons (λ k. IsTrue (is_held v k)) w v.known (is refl) held) there
    held_more w false is u there = ended.held u there

    ended_by : (s : Step) → v.locks ≡ [] → Allowed v s → FoundAlone v s → IsReclaiming s → HasEnded o header pool (after v s)
    ended_by (Vacate at bits) free may found is = ended_kept o header pool v (Vacate at bits) ended may tt
    ended_by (Load w x) free may found is = subst (HasEnded o header pool) (sym (load_same v w x (found ended.alone) free))
        (ended_seen (cond (is_held v w) (w ∷ v.known) v.known) (v.seen ++ Load w x ∷ []) (held_more w (is_held v w) (λ held. held)))
    ended_by (Occupied at x) free may found is = subst (HasEnded o header pool) (sym (look_same v at x (found ended.alone))) (ended_seen v.known (v.seen ++ Occupied at x ∷ []) ended.held)
    ended_by (Store w x) free may found is = absurd is
    ended_by (Or w bits x) free may found is = absurd is
    ended_by (And w bits x) free may found is = absurd is
    ended_by (Flush line) free may found is = absurd is
    ended_by Drain free may found is = absurd is
    ended_by (TakeWrite line won) free may found is = absurd is
    ended_by (TakeRead line won) free may found is = absurd is
    ended_by (Raise line won) free may found is = absurd is
    ended_by (Give line) free may found is = absurd is
    ended_by (ZoneTry zone won) free may found is = absurd is
    ended_by (ZoneGive zone) free may found is = absurd is
    ended_by (Occupy at bits won) free may found is = absurd is
    ended_by (Draw n) free may found is = absurd is
    ended_by (NumberSeen n) free may found is = absurd is
    ended_by (StopSeen set) free may found is = absurd is
    ended_by SetStop free may found is = absurd is
    ended_by (Tell operation reply) free may found is = absurd is

    free_by : (s : Step) → v.locks ≡ [] → FoundAlone v s → IsReclaiming s → (after v s).locks ≡ []
    free_by (Vacate at bits) free found is = free
    free_by (Load w x) free found is = ap (λ (z : View). z.locks) (load_same v w x (found ended.alone) free) ∙ free
    free_by (Occupied at x) free found is = free
    free_by (Store w x) free found is = absurd is
    free_by (Or w bits x) free found is = absurd is
    free_by (And w bits x) free found is = absurd is
    free_by (Flush line) free found is = absurd is
    free_by Drain free found is = absurd is
    free_by (TakeWrite line won) free found is = absurd is
    free_by (TakeRead line won) free found is = absurd is
    free_by (Raise line won) free found is = absurd is
    free_by (Give line) free found is = absurd is
    free_by (ZoneTry zone won) free found is = absurd is
    free_by (ZoneGive zone) free found is = absurd is
    free_by (Occupy at bits won) free found is = absurd is
    free_by (Draw n) free found is = absurd is
    free_by (NumberSeen n) free found is = absurd is
    free_by (StopSeen set) free found is = absurd is
    free_by SetStop free found is = absurd is
    free_by (Tell operation reply) free found is = absurd is

  ended_behind : (v w : View) (steps : List Step) → HasEnded o header pool v → v.locks ≡ [] → Leads v steps w → All IsReclaiming steps → HasEnded o header pool w
  unfolding Leads
  ended_behind v w [] ended free leads only = subst (HasEnded o header pool) (sym leads) ended
  ended_behind v w (s ∷ steps) ended free leads only =
      let is = All-head IsReclaiming s steps only in
      ended_behind (after v s) w steps (ended_by v ended s free leads.0 leads.1 is) (free_by v ended s free leads.1 is) leads.3 (All-tail IsReclaiming s steps only)

  pub ended_reclaimed : (v w : View) → HasEnded o header pool v → v.locks ≡ [] → Reclaims v w → HasEnded o header pool w
  ended_reclaimed v w ended free reclaims = ended_behind v w reclaims.steps ended free reclaims.leads reclaims.only

  pub begins_reclaimed : (v w : View) (kept : List Block) → HasEnded o header pool v → v.zone_locks ≡ [] → v.locks ≡ [] → Reclaims v w → HasLeft kept w → BeginsAgain (standing o w) header pool w
  begins_reclaimed v w kept ended unlocked free reclaims left =
      let same = reclaims.same in
      let still = ended_reclaimed v w ended free reclaims in
      ended_begins o header pool w still (ap (λ (z : View). z.locks) same ∙ free) (ap (λ (z : View). z.zone_locks) same ∙ unlocked)
      (left.none_freed (subst (λ n. AreOfPool n w.zones w.freed) (sym still.lane.lanes) (subst (λ n. AreOfPool o.lanes n w.freed) (sym still.lane.zones) still.freed_of_pool)))
