-- The steps of a lane that is alone are a course of a world: its memory is what the lane's view says, and no other lane makes a step.
use Rattle.std.proofs.Common.{◌≡◌, ◌≢◌, ⊎_elim, inl, inr, ℕ, ◌+◌, ◌/◌, ◌<◌, ◌≤◌, Bool, true, false, eqb, is_none, List, [], ◌∷◌, ◌++◌, length, slice_index, Option, Some, refl, sym, ◌∙◌, ap, subst, arith, append_assoc, le_refl, ne_eqb}
use Rattle.std.specs.Option.{ForSome}
use Rattle.std.specs.List.{Contains, list_any}
use Rattle.std.proofs.lemmas.List.Elements.{All-contains_itself, All-weaker}
use Rattle.std.proofs.lemmas.Bool.{and_from, and_parts, cases_eq, cond-false, false≢true}
use Rattle.pm_header.specs.declared.header.Header.{Header}
use Rattle.pm_objects.specs.declared.pool.PoolView.{PoolView}
use Rattle.std.specs.Int.{bit_at}
use Rattle.solo_view.specs.declared.occ.Occ.{Occ}
use Rattle.solo_view.specs.declared.occ.Occ.TheVariants.{Run, Zone}
use Rattle.solo_view.specs.Area.{area_word}
use Rattle.solo_view.specs.Counts.{MayCount, is_counted}
use Rattle.solo_view.specs.Founds.{FoundAlone, IsAlone}
use Rattle.solo_view.specs.Log.{Phase, no_log}
use Rattle.solo_view.specs.Log.Phase.{Idle, Open, Drawn, Sealing, Applying, Clearing, Retiring}
use Rattle.solo_view.specs.Occupancy.{is_taken}
use Rattle.solo_view.specs.Steps.{Step}
use Rattle.solo_view.specs.Steps.Step.{Load, Store, Or, And, Flush, Drain, TakeWrite, TakeRead, Raise, Give, ZoneTry, ZoneGive, Occupied, Occupy, Vacate, Draw, NumberSeen, StopSeen, SetStop, Tell}
use Rattle.solo_view.specs.View.{Lock, Numbered, View}
use Rattle.solo_view.specs.Views.{after, begun}
use Rattle.solo_view.proofs.SameLane.{same_lane-after}
use Rattle.solo_memory.specs.Solo.{AreNumbered, lock_word}
use Rattle.solo_world.specs.History.{Entry}
use Rattle.solo_world.specs.Laws.{with_view}
use Rattle.solo_world.specs.Lawful.{Allowed, IsLawful, OnlyFilled}
use Rattle.solo_world.specs.Records.{is_drained_slot}
use Rattle.solo_world.specs.Heap.{IsOcc}
use Rattle.solo_world.specs.Memory.{occ_at}
use Rattle.solo_world.specs.Memory.Location.{PoolWord}
use Rattle.solo_world.specs.Moves.{Moves}
use Rattle.solo_world.specs.Opening.{Opening}
use Rattle.solo_world.specs.Opens.{IsFresh, IsClean}
use Rattle.solo_world.specs.World.{Views, is_low}
use Rattle.solo_crash.specs.Held.{HoldsImage, HoldsPool}
use Rattle.solo_crash.proofs.BeginsAgain.{again, begins_between, over_decided, over_log}
use Rattle.solo_world.proofs.Filled.{filled_slot, none_filled}
use Rattle.solo_world.proofs.Chunks.{chunk_is}
use Rattle.solo_world.proofs.Frame.{view_else, view_here}
use Rattle.solo_world.proofs.StepSeen.{not_low_more, told}
use Rattle.solo_world.proofs.Worlds.{room_kept}
use Rattle.solo_crash.specs.Alone.{BeginsAlone, alone_views, idle_view, Begins, BeginsAgain}
use Rattle.solo_crash.specs.CallBlocks.{NewObject, MayPrecede, blocks_in}
use Rattle.solo_crash.specs.HeldHistory.{DrawsEnded, IsEndedCall}
use Rattle.solo_crash.specs.Leading.{Leads}
use Rattle.solo_crash.specs.OneLane.{IsModelStep, IsPaid, Makes, Moment, Move, TellsAsOpening, moved}
use Rattle.solo_crash.specs.OpenCall.{LeavesFree, MakesItsStep}
use Rattle.solo_crash.specs.Reserved.{IsBorneOut}
use Rattle.solo_crash.proofs.AloneMemory.{draw_moves, drain_moves, flush_moves, give_moves, in_picture, load_moves, memory_of, number_moves, occupied_moves, occupy_moves, one_if, same_memory, sizes_after, store_moves, take_read_moves, take_write_moves, tell_moves, vacate_moves, zone_give_moves, zone_try_moves, or_moves, and_moves}
use Rattle.solo_crash.proofs.Continued.{two_same}
use Rattle.solo_crash.proofs.EndedCalls.{given_up_steps, whole_steps}
use Rattle.solo_crash.proofs.NewStay.{news_in}
use Rattle.solo_crash.proofs.LogCourse.{InRange, all_of, carried}
use Rattle.solo_crash.proofs.RoomForReserved.{leaves_free, may_precede as precedes}
use Rattle.solo_crash.proofs.OneCourse.{Goes, goes_first, goes_on, goes_between}

-- the calls and the entries of a lane grow
pub record Grows (v w : View) : Type 0 where
  pub calls : v.calls ≤ w.calls
  pub stop : w.stop ≡ v.stop
  pub rest : List Numbered
  pub entries : w.entries ≡ v.entries ++ rest

append_none : (entries : List Numbered) → entries ≡ entries ++ []
append_none [] = refl
append_none (e ∷ entries) = ap (λ (es : List Numbered). e ∷ es) (append_none entries)

grows_not : (v : View) → Grows v v
grows_not v = record { calls = le_refl v.calls; stop = refl; rest = []; entries = append_none v.entries }

-- other calls alone
grown : (v w : View) → v.calls ≤ w.calls → w.stop ≡ v.stop → w.entries ≡ v.entries → Grows v w
grown v w calls stop entries = record { calls = calls; stop = stop; rest = []; entries = entries ∙ append_none v.entries }

grows_begun : (phase : Phase) (v : View) → Grows v (begun phase v)
grows_begun Idle v = grown v (begun Idle v) (le_refl v.calls) refl refl
grows_begun (Open slot pair) v = grows_not v
grows_begun Drawn v = grows_not v
grows_begun Sealing v = grows_not v
grows_begun (Applying applied) v = grows_not v
grows_begun Clearing v = grows_not v
grows_begun Retiring v = grows_not v

grows_after : (v : View) (s : Step) → Grows v (after v s)
grows_after v (Load w x) = grown v (after v (Load w x)) (le_refl v.calls) refl refl
grows_after v (Store w x) = grown v (after v (Store w x)) (omega arith) refl refl
grows_after v (Or w bits found) = grown v (after v (Or w bits found)) (omega arith) refl refl
grows_after v (And w bits found) = grown v (after v (And w bits found)) (omega arith) refl refl
grows_after v (Flush line) = grown v (after v (Flush line)) (omega arith) refl refl
grows_after v Drain = grown v (after v Drain) (omega arith) refl refl
grows_after v (TakeWrite line won) = grown v (after v (TakeWrite line won)) (le_refl v.calls) refl refl
grows_after v (TakeRead line won) = grown v (after v (TakeRead line won)) (le_refl v.calls) refl refl
grows_after v (Raise line won) = grown v (after v (Raise line won)) (le_refl v.calls) refl refl
grows_after v (Give line) = grown v (after v (Give line)) (le_refl v.calls) refl refl
grows_after v (ZoneTry zone won) = grown v (after v (ZoneTry zone won)) (le_refl v.calls) refl refl
grows_after v (ZoneGive zone) = grown v (after v (ZoneGive zone)) (le_refl v.calls) refl refl
grows_after v (Occupied at found) = grown v (after v (Occupied at found)) (le_refl v.calls) refl refl
grows_after v (Occupy at bits won) = grown v (after v (Occupy at bits won)) (le_refl v.calls) refl refl
grows_after v (Vacate at bits) = grown v (after v (Vacate at bits)) (le_refl v.calls) refl refl
grows_after v (Draw n) = record { calls = le_refl v.calls; stop = refl; rest = record { number = n; call = v.call } ∷ []; entries = refl }
grows_after v (NumberSeen n) =
    let g = grows_begun v.log.phase v in
    record { calls = g.calls; stop = g.stop; rest = g.rest; entries = g.entries }
grows_after v (StopSeen set) = grown v (after v (StopSeen set)) (le_refl v.calls) refl refl
grows_after v SetStop = grows_not v
grows_after v (Tell operation reply) = grown v (after v (Tell operation reply)) (le_refl v.calls) refl refl

grows_then : (u v w : View) → Grows u v → Grows v w → Grows u w
grows_then u v w first second = record {
  calls = let low = first.calls in let high = second.calls in omega arith;
  stop = second.stop ∙ first.stop;
  rest = first.rest ++ second.rest;
  entries = second.entries ∙ ap (λ (es : List Numbered). es ++ second.rest) first.entries ∙ append_assoc u.entries first.rest second.rest;
}

pub grows_along : (v : View) (steps : List Step) (w : View) → Leads v steps w → Grows v w
unfolding Leads
grows_along v [] w leads = subst (Grows v) (sym leads) (grows_not v)
grows_along v (s ∷ steps) w leads = grows_then v (after v s) w (grows_after v s) (grows_along (after v s) steps w leads.3)

-- numbers that count on are those of the places
numbered_at : (n : ℕ) (before : List Numbered) (e : Numbered) (rest : List Numbered) → AreNumbered n (before ++ e ∷ rest) → e.number ≡ n + length before
unfolding AreNumbered
numbered_at n [] e rest numbered = numbered.0 ∙ (let same : n ≡ n + 0 = omega arith in same)
numbered_at n (d ∷ before) e rest numbered =
    let there = numbered_at (n + 1) before e rest numbered.1 in omega (arith, there)

-- the lane has made a counted call less than its stop number
counts_less : (stop other : Option ℕ) (calls last : ℕ) → other ≡ stop → calls < last → ForSome other (λ s. last ≤ s) → ForSome stop (λ s. calls < s)
counts_less stop other calls last same less within s is = let most = within s (same ∙ is) in omega arith

-- ---- what either beginning says

pub begins_alone : (o : Opening) (header : Header) (pool : PoolView) (v : View) → Begins o header pool v → IsAlone v
begins_alone o header pool v = ⊎_elim (λ (first : BeginsAlone o header pool v). first.alone) (λ (again : BeginsAgain o header pool v). again.alone)

pub begins_words : (o : Opening) (header : Header) (pool : PoolView) (v : View) → Begins o header pool v → v.words ≡ o.words
begins_words o header pool v = ⊎_elim (λ (first : BeginsAlone o header pool v). first.fresh.words) (λ (again : BeginsAgain o header pool v). again.rested.words)

pub begins_lane : (o : Opening) (header : Header) (pool : PoolView) (v : View) → Begins o header pool v → v.lane ≡ 0
begins_lane o header pool v = ⊎_elim (λ (first : BeginsAlone o header pool v). first.fresh.lane.lane) (λ (again : BeginsAgain o header pool v). again.rested.lane.lane)

pub begins_idle : (o : Opening) (header : Header) (pool : PoolView) (v : View) → Begins o header pool v → v.log ≡ no_log Idle
begins_idle o header pool v = ⊎_elim (λ (first : BeginsAlone o header pool v). first.fresh.idle) (λ (again : BeginsAgain o header pool v). again.rested.idle)

pub begins_lanes : (o : Opening) (header : Header) (pool : PoolView) (v : View) → Begins o header pool v → v.lanes ≡ o.lanes
begins_lanes o header pool v = ⊎_elim (λ (first : BeginsAlone o header pool v). first.fresh.lane.lanes) (λ (again : BeginsAgain o header pool v). again.rested.lane.lanes)

pub begins_filled : (o : Opening) (header : Header) (pool : PoolView) (v : View) → Begins o header pool v → OnlyFilled v
begins_filled o header pool v = ⊎_elim (λ (first : BeginsAlone o header pool v). none_filled v first.fresh.nothing_changed) (λ (again : BeginsAgain o header pool v). again.rested.changes)

pub begins_clean : (o : Opening) (header : Header) (pool : PoolView) (v : View) → Begins o header pool v → (j : ℕ) → j < o.lanes → IsClean o j
begins_clean o header pool v = ⊎_elim (λ (first : BeginsAlone o header pool v). first.clean) (λ (again : BeginsAgain o header pool v). again.clean)

pub begins_holds : (o : Opening) (header : Header) (pool : PoolView) (v : View) → Begins o header pool v → (now : PoolView) × HoldsImage o.words o.lanes o.zones header now
begins_holds o header pool v = ⊎_elim (λ (first : BeginsAlone o header pool v). (pool, first.holds)) (λ (again : BeginsAgain o header pool v). (again.now, again.holds))

-- no slot of the lane's log has an undrained word
pub begins_slots : (o : Opening) (header : Header) (pool : PoolView) (v : View) → Begins o header pool v → (slot : ℕ) → slot < 64 → is_drained_slot v slot ≡ true
begins_slots o header pool v begins slot low =
    let some = (begins_holds o header pool v begins).1.has_header.has_shape.shape.lanes_from in
    let lane = begins_lane o header pool v begins in let lanes = begins_lanes o header pool v begins in
    filled_slot v slot (omega (arith, some, lane, lanes)) low (begins_filled o header pool v begins)

-- the lane is at this view of a world that it alone made steps in
pub record StandsAlone (o : Opening) (header : Header) (pool : PoolView) (v : View) : Type 0 where
  pub views : Views
  pub log : List Entry
  pub decided : ℕ → Bool
  pub goes : Goes o 0 header pool (record { memory = memory_of v; views = views; log = log; decided = decided })
  pub here : views 0 ≡ v
  pub others : (j : ℕ) → j ≢ 0 → views j ≡ idle_view o j
  -- its picture has all occupancy words
  pub pages : length v.run_words ≡ length v.words / 512
  pub zone_count : length v.zone_words ≡ 32

-- the views of the lanes that make no step
pub alone_else : (o : Opening) (v : View) (j : ℕ) → j ≢ 0 → alone_views o v j ≡ idle_view o j
alone_else o v j other = cond-false (eqb j 0) v (idle_view o j) (ne_eqb j 0 other)

idle_fresh : (o : Opening) (j : ℕ) → IsFresh o j (idle_view o j)
idle_fresh o j = record {
  lane = record { lanes = refl; zones = refl; lane = refl; size = refl };
  words = refl;
  nothing_known = refl;
  nothing_changed = refl;
  no_calls = refl;
  idle = refl;
  no_locks = refl;
  nothing_reserved = refl;
  nothing_freed = refl;
  no_zones = refl;
  nothing_seen = refl;
  no_number = refl;
  no_entries = refl;
}

module _ (o : Opening) (header : Header) (pool : PoolView) where
  -- before its first step
  pub stands_first : (v : View) → BeginsAlone o header pool v → StandsAlone o header pool v
  stands_first v begins = record {
    views = alone_views o v;
    log = [];
    decided = λ n. false;
    goes = goes_first o (memory_of v) (alone_views o v) 0 header pool (record {
      holds = begins.holds;
      clean = begins.clean;
      fresh = λ j low. fresh j;
      opens = record {
        words = λ w. ap (λ (words : List ℕ). slice_index words w) begins.fresh.words;
        locks = λ line. ap (λ (locks : List Lock). lock_word locks line) begins.fresh.no_locks;
        set = λ at bit of low one. told_set at bit of low one;
        taken = λ at bit of low is_so. told_taken at bit of low is_so;
        zones = λ zone. ap (λ (zones : List ℕ). one_if (list_any (λ held. eqb held zone) zones)) begins.fresh.no_zones;
        counter = ap (λ (es : List Numbered). length es) begins.fresh.no_entries;
        stop_word = refl;
      };
      in_lanes = let some = begins.holds.has_header.has_shape.shape.lanes_from in omega arith;
      of_pool = begins.of_pool;
    });
    here = refl;
    others = alone_else o v;
    pages = let words : length v.words ≡ length o.words = ap (λ (words : List ℕ). length words) begins.fresh.words in let size = begins.holds.has_header.has_shape.size in let all = begins.occupied.pages in omega arith;
    zone_count = begins.occupied.zone_count;
  } where
    told_set : (at : Occ) (bit : ℕ) → IsOcc o.lanes o.zones at → bit < 64 → bit_at (memory_of v (occ_at at)) bit ≡ 1 → is_taken (slice_index o.words) o.lanes at bit ≡ true
    told_set (Run place) bit of low one = (begins.occupied.blocks (place / 4096) bit (chunk_is o.lanes (place / 4096) of.1) of.2 low).0 one
    told_set (Zone zone) bit of low one = (begins.occupied.chunks zone bit of low).0 one

    told_taken : (at : Occ) (bit : ℕ) → IsOcc o.lanes o.zones at → bit < 64 → is_taken (slice_index o.words) o.lanes at bit ≡ true → bit_at (memory_of v (occ_at at)) bit ≡ 1
    told_taken (Run place) bit of low is_so = (begins.occupied.blocks (place / 4096) bit (chunk_is o.lanes (place / 4096) of.1) of.2 low).1 is_so
    told_taken (Zone zone) bit of low is_so = (begins.occupied.chunks zone bit of low).1 is_so

    fresh : (j : ℕ) → IsFresh o j (alone_views o v j)
    fresh j = ⊎_elim
        (λ (same : j ≡ 0). subst (λ (n : ℕ). IsFresh o n (alone_views o v n)) (sym same) begins.fresh)
        (λ (other : j ≢ 0). subst (IsFresh o j) (sym (alone_else o v j other)) (idle_fresh o j))
        (cases_eq j 0)

  -- and between two calls, where it begins again
  stands_again : (v : View) → BeginsAgain o header pool v → StandsAlone o header pool v
  stands_again v begins = record {
    views = alone_views o v;
    log = over_log v.entries;
    decided = over_decided v.entries;
    goes = goes_between o 0 header pool (again o header pool v begins) (begins_between o header pool v begins);
    here = refl;
    others = alone_else o v;
    pages = let words : length v.words ≡ length o.words = ap (λ (words : List ℕ). length words) begins.rested.words in let size = begins.holds.has_header.has_shape.size in let all = begins.pages in omega arith;
    zone_count = begins.zone_count;
  }

  pub stands_begun : (v : View) → Begins o header pool v → StandsAlone o header pool v
  stands_begun v = ⊎_elim (λ (first : BeginsAlone o header pool v). stands_first v first) (λ (again : BeginsAgain o header pool v). stands_again v again)

  module _ (v : View) (stands : StandsAlone o header pool v) where
    abbrev now : Moment
    now = record { memory = memory_of v; views = stands.views; log = stands.log; decided = stands.decided }

    -- a step that moves the memory on
    goes_step : (s : Step) → IsLawful v s → Moves 0 s (memory_of v) (memory_of (after v s)) → IsPaid o v s → StandsAlone o header pool (after v s)
    goes_step s lawful moves paid =
        let move : Move = record { step = s; memory = memory_of (after v s) } in
        let makes : Makes o 0 now move = record {
          lawful = subst (λ (u : View). IsLawful u s) (sym stands.here) lawful;
          moves = moves;
          paid = subst (λ (u : View). IsPaid o u s) (sym stands.here) paid;
        } in
        let next : Moment = moved 0 now move in
        record {
          views = next.views;
          log = next.log;
          decided = next.decided;
          goes = goes_on o 0 header pool now move stands.goes makes;
          here = view_here stands.views 0 (after (stands.views 0) s) ∙ ap (λ (u : View). after u s) stands.here;
          others = λ j other. view_else stands.views 0 (after (stands.views 0) s) j other ∙ stands.others j other;
          pages = (sizes_after v s).pages ∙ (stands.pages ∙ ap (λ n. n / 512) (sym (same_lane-after v s).size));
          zone_count = (sizes_after v s).zones ∙ stands.zone_count;
        }

    -- what it sees of the stop word is no concern of a world
    sees_stop : (set : Bool) → StandsAlone o header pool (after v (StopSeen set))
    sees_stop set =
        let next : View = after v (StopSeen set) in
        let g = stands.goes in
        let here : (with_view stands.views 0 next) 0 ≡ next = view_here stands.views 0 next in
        let range : InRange (memory_of next (PoolWord (area_word 0))) next next.log.phase =
        carried (memory_of v (PoolWord (area_word 0))) (memory_of next (PoolWord (area_word 0))) v next v.log.phase refl refl refl refl (all_of v.changes)
        (subst (λ (u : View). InRange (memory_of v (PoolWord (area_word 0))) u u.log.phase) stands.here g.range) in
        record {
          views = with_view stands.views 0 next;
          log = stands.log;
          decided = stands.decided;
          goes = record {
            world =
                told o (memory_of v) stands.views stands.log stands.decided g.world 0 g.in_lanes v stands.here (memory_of next) (v.seen ++ StopSeen set ∷ []) v.call v.actions
                (same_memory v next (record { words = refl; locks = λ line. refl; count = refl; runs = refl; zones = refl; zone_locks = refl }))
                (room_kept o (memory_of v) stands.views stands.log stands.decided g.world 0 g.in_lanes v stands.here (record v { seen = v.seen ++ StopSeen set ∷ [] })
                (λ can.
                let t = and_parts (is_none v.number) (list_any is_low (v.seen ++ StopSeen set ∷ [])) can in
                and_from (is_none v.number) (list_any is_low v.seen) t.0 (not_low_more v.seen (StopSeen set) refl t.1)));
            in_lanes = g.in_lanes;
            alone = g.alone;
            others = λ j low other. ap (λ (u : View). u.log.phase) (view_else stands.views 0 next j other) ∙ g.others j low other;
            of_pool = ap (λ (u : View). u.pool) here ∙ (ap (λ (u : View). u.pool) (sym stands.here) ∙ g.of_pool);
            newest = λ n e. g.newest n (ap (λ (u : View). u.number) stands.here ∙ (ap (λ (u : View). u.number) (sym here) ∙ e));
            front = g.front;
            range = subst (λ (u : View). InRange (memory_of next (PoolWord (area_word 0))) u u.log.phase) (sym here) range;
            over = g.over;
            few = g.few;
            behind = λ n e low.
                let now : v.number ≡ Some n = ap (λ (u : View). u.number) (sym here) ∙ e in
                ap (λ (u : View). u.log.phase) here ∙ (ap (λ (u : View). u.log.phase) (sym stands.here) ∙ g.behind n (ap (λ (u : View). u.number) stands.here ∙ now) low);
            reached = g.reached;
          };
          here = here;
          others = λ j other. view_else stands.views 0 next j other ∙ stands.others j other;
          pages = stands.pages;
          zone_count = stands.zone_count;
        }

    lawful_so : (s : Step) → Allowed v s → (is_counted s ≡ true → MayCount v) → IsLawful v s
    lawful_so s may due = record { allowed = may; due = due }

    -- where it is borne out, a pool that words hold which tell of blocks and of the root what the opening's do may be the one before its call
    pub may_precede : (w : ℕ → ℕ) (its : Header) (was : PoolView) → TellsAsOpening o w → HoldsPool w o.lanes o.zones its was → IsBorneOut v → MayPrecede was v
    may_precede w its was tells holds borne_out =
        let sees : (i : ℕ) → slice_index v.words i ≡ slice_index (stands.views 0).words i = λ i. ap (λ (u : View). slice_index u.words i) (sym stands.here) in
        subst (MayPrecede was) stands.here
        (precedes o (memory_of v) stands.views stands.log stands.decided 0 stands.goes.world stands.goes.in_lanes sees w tells its was holds (sym (sees 64) ∙ stands.goes.front 64 (omega arith))
        (subst IsBorneOut (sym stands.here) borne_out))

    -- and what its call made is free by such words
    leaves : (w : ℕ → ℕ) (its : Header) (was : PoolView) → TellsAsOpening o w → HoldsPool w o.lanes o.zones its was → IsBorneOut v → (n : NewObject) → Contains (news_in (blocks_in v)) n → LeavesFree v w n
    leaves w its was tells holds =
        let sees : (i : ℕ) → slice_index v.words i ≡ slice_index (stands.views 0).words i = λ i. ap (λ (u : View). slice_index u.words i) (sym stands.here) in
        subst (λ (u : View). IsBorneOut u → (n : NewObject) → Contains (news_in (blocks_in u)) n → LeavesFree u w n) stands.here
        (leaves_free o (memory_of v) stands.views stands.log stands.decided 0 stands.goes.world stands.goes.in_lanes sees w tells its was holds)

    pub borne_out_steps : MakesItsStep v → IsBorneOut v → IsModelStep o v
    borne_out_steps makes_its borne_out w its was tells holds id before =
        let lane = (stands.goes.world.each_lane 0 stands.goes.in_lanes).lane in
        let lanes : v.lanes ≡ o.lanes = ap (λ (u : View). u.lanes) (sym stands.here) ∙ lane.lanes in
        let zones : v.zones ≡ o.zones = ap (λ (u : View). u.zones) (sym stands.here) ∙ lane.zones in
        let held : HoldsPool w o.lanes o.zones its was = two_same (λ (a b : ℕ). HoldsPool w a b its was) v.lanes o.lanes v.zones o.zones lanes zones holds in
        makes_its.makes w its was holds id before (may_precede w its was tells held borne_out) (All-weaker (Contains (news_in (blocks_in v))) (LeavesFree v w) (leaves w its was tells held borne_out) (news_in (blocks_in v)) (All-contains_itself (news_in (blocks_in v))))

    -- a call that draws is a step of the model
    owes : IsEndedCall v → IsModelStep o v
    owes (inl whole) = whole_steps o v whole
    owes (inr (inl (e, given_up, none, unentered))) = given_up_steps o v e given_up none unentered
    owes (inr (inr (makes_its, borne_out))) = borne_out_steps makes_its borne_out

    -- each step that it may make
    pub stands_after : (s : Step) → IsAlone v → Allowed v s → FoundAlone v s → DrawsEnded v s → (is_counted s ≡ true → MayCount v) → ((n : ℕ) → s ≡ Draw n → n ≡ length v.entries + 1)
        → StandsAlone o header pool (after v s)
    stands_after (Load w x) alone may found ended due next = goes_step (Load w x) (lawful_so (Load w x) may due) (load_moves v w x (found alone)) tt
    stands_after (Store w x) alone may found ended due next = goes_step (Store w x) (lawful_so (Store w x) may due) (store_moves v w x may.inside) tt
    stands_after (Or w bits found) alone may f ended due next = goes_step (Or w bits found) (lawful_so (Or w bits found) may due) (or_moves v w bits found may.inside (f alone)) tt
    stands_after (And w bits found) alone may f ended due next = goes_step (And w bits found) (lawful_so (And w bits found) may due) (and_moves v w bits found may.inside (f alone)) tt
    stands_after (Flush line) alone may found ended due next = goes_step (Flush line) (lawful_so (Flush line) may due) (flush_moves v line) tt
    stands_after Drain alone may found ended due next = goes_step Drain (lawful_so Drain may due) (drain_moves v) tt
    stands_after (TakeWrite line won) alone may found ended due next = goes_step (TakeWrite line won) (lawful_so (TakeWrite line won) may due) (take_write_moves v line won (found alone) may.free) tt
    stands_after (TakeRead line won) alone may found ended due next = goes_step (TakeRead line won) (lawful_so (TakeRead line won) may due) (take_read_moves v line won (found alone) may.free) tt
    stands_after (Raise line won) alone may found ended due next = absurd may
    stands_after (Give line) alone may found ended due next = goes_step (Give line) (lawful_so (Give line) may due) (give_moves v line) tt
    stands_after (ZoneTry zone won) alone may found ended due next = goes_step (ZoneTry zone won) (lawful_so (ZoneTry zone won) may due) (zone_try_moves v zone won (found alone) may.free) tt
    stands_after (ZoneGive zone) alone may found ended due next = goes_step (ZoneGive zone) (lawful_so (ZoneGive zone) may due) (zone_give_moves v zone) tt
    stands_after (Occupied at found) alone may f ended due next = goes_step (Occupied at found) (lawful_so (Occupied at found) may due) (occupied_moves v at found (f alone)) tt
    stands_after (Occupy at bits won) alone may found ended due next =
        goes_step (Occupy at bits won) (lawful_so (Occupy at bits won) may due) (occupy_moves v at bits won (in_picture v at stands.pages stands.zone_count may.there.inside) (found alone)) tt
    stands_after (Vacate at bits) alone may found ended due next = goes_step (Vacate at bits) (lawful_so (Vacate at bits) may due) (vacate_moves v at bits (in_picture v at stands.pages stands.zone_count may.there.inside)) tt
    stands_after (Draw n) alone may found ended due next = goes_step (Draw n) (lawful_so (Draw n) may due) (draw_moves v n (next n refl)) (owes ended.0, ended.1)
    stands_after (NumberSeen n) alone may found ended due next = goes_step (NumberSeen n) (lawful_so (NumberSeen n) may due) (number_moves v n (found alone)) tt
    stands_after (StopSeen set) alone may found ended due next = sees_stop set
    stands_after SetStop alone may found ended due next = stands
    stands_after (Tell operation reply) alone may found ended due next = goes_step (Tell operation reply) (lawful_so (Tell operation reply) may due) (tell_moves v operation reply) tt

  calls_more : (v : View) (s : Step) → is_counted s ≡ true → (after v s).calls ≡ v.calls + 1
  calls_more v (Load w x) counts = absurd (false≢true counts)
  calls_more v (Store w x) counts = refl
  calls_more v (Or w bits found) counts = refl
  calls_more v (And w bits found) counts = refl
  calls_more v (Flush line) counts = refl
  calls_more v Drain counts = refl
  calls_more v (TakeWrite line won) counts = absurd (false≢true counts)
  calls_more v (TakeRead line won) counts = absurd (false≢true counts)
  calls_more v (Raise line won) counts = absurd (false≢true counts)
  calls_more v (Give line) counts = absurd (false≢true counts)
  calls_more v (ZoneTry zone won) counts = absurd (false≢true counts)
  calls_more v (ZoneGive zone) counts = absurd (false≢true counts)
  calls_more v (Occupied at found) counts = absurd (false≢true counts)
  calls_more v (Occupy at bits won) counts = absurd (false≢true counts)
  calls_more v (Vacate at bits) counts = absurd (false≢true counts)
  calls_more v (Draw n) counts = absurd (false≢true counts)
  calls_more v (NumberSeen n) counts = absurd (false≢true counts)
  calls_more v (StopSeen set) counts = absurd (false≢true counts)
  calls_more v SetStop counts = absurd (false≢true counts)
  calls_more v (Tell operation reply) counts = absurd (false≢true counts)

  pub due_along : (v : View) (s : Step) (w : View) → Grows (after v s) w → ForSome w.stop (λ stop. w.calls ≤ stop) → is_counted s ≡ true → MayCount v
  due_along v s w grows within counts =
      let more = calls_more v s counts in
      let calls = grows.calls in
      counts_less v.stop w.stop v.calls w.calls (grows.stop ∙ (same_lane-after v s).stop) (omega arith) within

  drawn_along : (v : View) (n : ℕ) (w : View) → Grows (after v (Draw n)) w → AreNumbered 1 w.entries → n ≡ length v.entries + 1
  drawn_along v n w grows numbered =
      let e : Numbered = record { number = n; call = v.call } in
      let numbers : AreNumbered 1 (v.entries ++ e ∷ grows.rest) = subst (AreNumbered 1) (grows.entries ∙ append_assoc v.entries (e ∷ []) grows.rest) numbered in
      let at : n ≡ 1 + length v.entries = numbered_at 1 v.entries e grows.rest numbers in
      omega arith

  pub number_along : (v : View) (s : Step) (w : View) → Grows (after v s) w → AreNumbered 1 w.entries → (n : ℕ) → s ≡ Draw n → n ≡ length v.entries + 1
  number_along v s w grows numbered n is = drawn_along v n w (subst (λ (t : Step). Grows (after v t) w) is grows) numbered

  -- and so along all its steps
  pub stands_along : (v : View) (steps : List Step) (w : View) → StandsAlone o header pool v → IsAlone v → Leads v steps w → AreNumbered 1 w.entries → ForSome w.stop (λ stop. w.calls ≤ stop)
      → StandsAlone o header pool w
  unfolding Leads
  stands_along v [] w stands alone leads numbered within = subst (StandsAlone o header pool) (sym leads) stands
  stands_along v (s ∷ steps) w stands alone leads numbered within =
      let grows : Grows (after v s) w = grows_along (after v s) steps w leads.3 in
      stands_along (after v s) steps w
      (stands_after v stands s alone leads.0 leads.1 leads.2 (due_along v s w grows within) (number_along v s w grows numbered))
      ((same_lane-after v s).table ∙ alone) leads.3 numbered within

  pub stands_at : (v : View) (steps : List Step) (w : View) → Begins o header pool v → Leads v steps w → AreNumbered 1 w.entries → ForSome w.stop (λ stop. w.calls ≤ stop) → StandsAlone o header pool w
  stands_at v steps w begins = stands_along v steps w (stands_begun v begins) (begins_alone o header pool v begins)
