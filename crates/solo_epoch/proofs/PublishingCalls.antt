-- What a lane alone has and may do as it publishes its committed call: its number is the newest, its calls lead to the pool with all that is published, and it may
-- publish that.
use Rattle.std.proofs.Common.{◌≡◌, ⊎_elim, ℕ, suc, zero, ◌+◌, ◌<◌, ◌≤◌, true, List, [], ◌∷◌, ◌++◌, length, map, length-append, slice_index, cond, is_none, sym, ap, ◌∙◌, subst, arith}
use Rattle.std.specs.List.{list_any}
use Rattle.std.proofs.lemmas.Bool.{and_from, cases_lt, cond-true, lt-ltb}
use Rattle.pm_header.specs.declared.header.Header.{Header}
use Rattle.pm_objects.specs.declared.pool.PoolView.{PoolView}
use Rattle.solo_memory.specs.Solo.{AreNumbered}
use Rattle.std.proofs.lemmas.List.Folds.{list_any-from_Any}
use Rattle.solo_view.specs.Founds.{IsAlone}
use Rattle.solo_view.specs.Steps.Step.{Draw, NumberSeen}
use Rattle.solo_view.specs.Constants.{IsSameLane}
use Rattle.solo_view.specs.View.{Numbered, View}
use Rattle.solo_view.specs.Views.{after}
use Rattle.solo_world.specs.Entries.{ends_with}
use Rattle.solo_world.specs.Fits.{LaneFits}
use Rattle.solo_world.specs.History.{Flies, settled}
use Rattle.solo_world.specs.Lawful.{Allowed, generation_limit}
use Rattle.solo_world.specs.Opening.{Opening}
use Rattle.solo_world.specs.Records.{generation_of}
use Rattle.solo_world.specs.World.{Views, is_low, may_draw, may_draw_count}
use Rattle.solo_model.specs.Actions.{with_actions}
use Rattle.solo_model.specs.History.{opened}
use Rattle.solo_model.specs.Names.{Replays}
use Rattle.solo_crash.specs.Pending.{acts_alone, published_in, state_alone}
use Rattle.solo_crash.specs.HeapChanges.{HeapChange}
use Rattle.solo_crash.specs.Publishing.{Published, all_pool_published, entry_published}
use Rattle.solo_world.proofs.Filled.{logged_drained}
use Rattle.solo_crash.proofs.AloneCourse.{StandsAlone, begins_alone, stands_at}
use Rattle.solo_crash.proofs.AloneMemory.{memory_of}
use Rattle.solo_crash.proofs.OnTheWay.{alone_on_the_way}
use Rattle.solo_crash.proofs.PublishedCopy.{committed_is_published}
use Rattle.solo_epoch.specs.Epochs.{AllocatesOwn, HasEntriesFor, HasSameHeap, HoldsCommitted, IsPublishing, MayPublish}
use Rattle.solo_world.proofs.CrashLaw.{all_drained}
use Rattle.solo_epoch.proofs.CallPools.{holds_committed}
use Rattle.solo_epoch.proofs.DrawnCalls.{may_publish}
use Rattle.solo_epoch.proofs.EnteredCalls.{has_entries, of_call}
use Rattle.solo_epoch.proofs.OwnAllocations.{allocates_own}
use Rattle.solo_epoch.proofs.PublishingHeap.{same_along, same_lane_along}
use Rattle.solo_epoch.proofs.ReplayedCalls.{replays_with_call}
use Rattle.solo_epoch.proofs.StandingPools.{own_fits}

-- ---- its number

numbered_last : (m : ℕ) (xs : List Numbered) (e : Numbered) → AreNumbered m (xs ++ e ∷ []) → e.number ≡ m + length xs
unfolding AreNumbered
numbered_last m [] e numbered = let is = numbered.0 in omega (arith, is)
numbered_last m (x ∷ xs) e numbered = let rest = numbered_last (m + 1) xs e numbered.1 in omega (arith, rest)

-- a lane of these may draw: so many may
some_draws : (views : Views) (n k : ℕ) → k < n → may_draw (views k) ≡ true → 1 ≤ may_draw_count views n
unfolding may_draw_count
some_draws views zero k low may = absurd (omega (arith, low))
some_draws views (suc n) k low may = ⊎_elim
    (λ (before : k < n). let some = some_draws views n k before may in omega (arith, some))
    (λ (last : n ≤ k). let same : k ≡ n = omega (arith, last, low) in let one : ◌≡◌ {A = ℕ} (cond (may_draw (views n)) 1 0) 1 = cond-true (may_draw (views n)) 1 0 (ap (λ j. may_draw (views j)) (sym same) ∙ may) in omega (arith, one))
    (cases_lt k n)

may_still : (v : View) (n : ℕ) → Allowed v (Draw n) → may_draw v ≡ true
may_still v n may = and_from (is_none v.number) (list_any is_low v.seen) (ap is_none may.first) (list_any-from_Any is_low v.seen (may.seen.0, NumberSeen may.found, may.seen.1, may.seen.2, lt-ltb may.found generation_limit may.below))

module _ (o : Opening) (header : Header) (pool : PoolView) (u : View) (n : ℕ) (all : List Published) (w : View) (call : IsPublishing o header pool u n all w) where
  abbrev pub b : View
  b = after u (Draw n)

  pub stands : StandsAlone o header pool u
  stands = stands_at o header pool call.start call.steps u call.works.begins call.works.leads call.works.numbered call.works.within

  pub fits : LaneFits o (memory_of u) (settled o stands.log stands.decided) (Flies stands.log stands.decided 0) 0 u
  fits = own_fits o header pool u stands

  pub alone : IsAlone u
  alone = alone_on_the_way call.start u call.steps (begins_alone o header pool call.start call.works.begins) call.works.leads

  pub lane : IsSameLane b w
  lane = same_lane_along b call.log_steps w call.publishes

  pub heap : HasSameHeap b w
  heap = same_along b call.log_steps w alone call.publishes

  pub entries : w.entries ≡ u.entries ++ record { number = n; call = u.call } ∷ []
  entries = heap.entries

  pub newest : n ≡ length w.entries
  newest =
      let last = numbered_last 1 u.entries (record { number = n; call = u.call }) (subst (AreNumbered 1) entries call.numbered) in
      let long = ap (λ (es : List Numbered). length es) entries ∙ length-append u.entries (record { number = n; call = u.call } ∷ []) in
      omega (arith, last, long)

  pub few : length w.entries < generation_limit + 32
  few =
      let long = ap (λ (es : List Numbered). length es) entries ∙ length-append u.entries (record { number = n; call = u.call } ∷ []) in
      let some = some_draws stands.views o.lanes 0 stands.goes.in_lanes (ap may_draw stands.here ∙ may_still u n call.draws) in
      let room = stands.goes.world.counter_room in omega (arith, long, some, room)

  -- ---- to what its calls lead

  -- it has entries, so nothing was undrained as it drew
  pub drawn_drained : u.changes ≡ []
  drawn_drained = logged_drained u call.draws.drained (λ records none.
      let empty = ap length none in
      let some = ap length call.entered.entries ∙ length-append (map (entry_published u.lanes) all) (ends_with u (generation_of u + 1) ∷ []) in
      absurd (omega (arith, empty, some)))

  pub held : HoldsCommitted o u header pool
  held = holds_committed o header pool u stands call.draws.is_open (λ slot within. all_drained u slot drawn_drained) call.start call.works.begins call.borne_out call.committed

  -- the pool before it, and the one that it publishes all on, which the call stored
  abbrev pub before : PoolView
  before = held.held.before

  abbrev pub base : PoolView
  base = held.to.base

  pub has : HasEntriesFor u header before base all
  has = has_entries o header pool u stands held call.committed.has call.borne_out all call.entered

  abbrev last : PoolView
  last = with_actions (published_in u) held.to.copy

  abbrev changes : List HeapChange
  changes = call.entered.freed ++ call.entered.made

  published_last : all_pool_published o.lanes all base ≡ last
  published_last =
      ap (λ (lanes : ℕ). all_pool_published lanes all base) (sym fits.lane.lanes)
      ∙ (ap (λ (steps : List Published). all_pool_published u.lanes steps base) call.entered.are
      ∙ committed_is_published u held.words header before held.to changes call.committed.has (of_call o header pool u stands held call.committed.has call.borne_out all call.entered))

  pub led : Replays (opened pool) (acts_alone w.entries) (state_alone (all_pool_published o.lanes all base) w.entries)
  led = subst (λ (es : List Numbered). Replays (opened pool) (acts_alone es) (state_alone (all_pool_published o.lanes all base) es)) (sym entries)
      (subst (λ (p : PoolView). Replays (opened pool) (acts_alone (u.entries ++ record { number = n; call = u.call } ∷ [])) (state_alone p (u.entries ++ record { number = n; call = u.call } ∷ []))) (sym published_last)
      (replays_with_call u n fits.lane.lane pool before last held.held.replays held.to.turns))

  -- no other lane is at work, so it may publish what it has entries for
  pub may : MayPublish b header before base all
  may = subst (λ (x : View). MayPublish (after x (Draw n)) header before base all) stands.here
      (may_publish o (memory_of u) stands.views stands.log stands.decided 0 n header before base all stands.goes.world stands.goes.in_lanes
      (λ j low other. ap (λ (x : View). x.log.phase) (stands.others j other)) (λ i. ap (λ (x : View). slice_index x.words i) (sym stands.here))
      (subst (λ (x : View). Allowed x (Draw n)) (sym stands.here) call.draws) (subst (λ (x : View). HasEntriesFor x header before base all) (sym stands.here) has))

  -- what it allocates it reserved
  pub own : AllocatesOwn u all
  own = allocates_own u all call.entered
