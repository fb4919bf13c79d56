-- A lane whose call has ended gives back what it has, and begins again.
use Rattle.std.proofs.Common.{◌≡◌, ◌↔◌, ◌⊎◌, inl, ⊎_elim, ℕ, ◌^◌, ◌<◌, ◌≤◌, true, IsTrue, eqb, ◌&&◌, All, Contains, List, [], length, slice_index, is_none, refl, sym, ap, ◌∙◌, subst, arith}
use Rattle.std.specs.Int.{bit_at}
use Rattle.std.specs.List.{filter, list_any}
use Rattle.std.proofs.lemmas.Bool.{and_parts, cases_lt, eqb-true}
use Rattle.std.proofs.lemmas.List.Elements.{All-contains}
use Rattle.std.proofs.lemmas.List.Folds.{Any-from_list_any}
use Rattle.std.proofs.lemmas.Nat.Bits.{bit_at_above}
use Rattle.std.proofs.lemmas.Option.{same_Some}
use Rattle.pm_header.specs.declared.header.Header.{Header}
use Rattle.pm_objects.specs.declared.pool.PoolView.{PoolView}
use Rattle.solo_view.specs.declared.occ.Occ.{Occ}
use Rattle.solo_view.specs.Held.{is_held}
use Rattle.solo_view.specs.Occupancy.{is_taken}
use Rattle.solo_view.specs.Steps.{Step}
use Rattle.solo_view.specs.Steps.Step.{Load, Store, Or, And, Flush, Drain, TakeWrite, TakeRead, Raise, Give, ZoneTry, ZoneGive, Occupied, Occupy, Vacate, Draw, NumberSeen, StopSeen, SetStop, Tell}
use Rattle.solo_view.specs.View.{Taken, View}
use Rattle.solo_view.specs.Views.{after, exchanged, has_bit, is_same_occ, occ_in, reserves}
use Rattle.solo_world.specs.Heap.{IsOcc, has_taken}
use Rattle.solo_world.specs.Lawful.{Allowed}
use Rattle.solo_world.specs.Opening.{Opening}
use Rattle.solo_world.specs.World.{is_low}
use Rattle.solo_world.proofs.Filled.{none_filled}
use Rattle.solo_world.proofs.Reserved.{occ_same}
use Rattle.solo_world.proofs.StepGive.{filter-passed}
use Rattle.solo_world.proofs.Vacated.{vacated_all, vacated_small}
use Rattle.solo_crash.specs.Alone.{BeginsAgain, standing}
use Rattle.solo_reclaim.specs.KnownTaken.{IsGiving}
use Rattle.solo_epoch.specs.Epochs.{HasEnded}
use Rattle.solo_reclaim.proofs.GivingBack.{giving_keeps, unmade}
use Rattle.solo_reclaim.proofs.Steps.{left_of_pool}

-- what the lane knows it holds, once it has forgotten the rest
still_held : (v : View) (known : List ℕ) (w : ℕ) → Contains (filter (is_held v) known) w → IsTrue (is_held v w)
still_held v known w = filter-passed (is_held v) known w

module _ (o : Opening) (header : Header) (pool : PoolView) (v : View) (ended : HasEnded o header pool v) where
  kept : (s : Step) → Allowed v s → IsGiving s → HasEnded o header pool (after v s)
  kept (Vacate at bits) may gives =
      let same = unmade v at bits ended.taken may at may.there.of_pool in record {
        now = ended.now;
        holds = ended.holds;
        replays = ended.replays;
        clean = λ j low. record { unsealed = (ended.clean j low).unsealed; first_generation = (ended.clean j low).first_generation; last_generation = (ended.clean j low).last_generation; stale = (ended.clean j low).stale };
        lane = record { lanes = ended.lane.lanes; zones = ended.lane.zones; lane = ended.lane.lane; size = refl };
        held = still_held (after v (Vacate at bits)) v.known;
        drained = ended.drained;
        idle = ended.idle;
        of_pool = vacated_all at bits may.small (IsOcc o.lanes o.zones) (exchanged v at) (subst (All (λ (t : Taken). IsOcc o.lanes o.zones t.at)) (sym same) ended.of_pool);
        small = vacated_small at bits may.small (exchanged v at) (subst (All (λ (t : Taken). t.bits < 2 ^ 64)) (sym same) ended.small);
        freed_of_pool = left_of_pool at bits o.lanes o.zones may.small v.freed ended.freed_of_pool;
        taken = giving_keeps v (Vacate at bits) ended.taken may gives;
        within = ended.within;
        of_header = ended.of_header;
        alone = ended.alone;
        numbered = ended.numbered;
        newest = ended.newest;
        few = ended.few;
      }
  kept (Give line) may gives = record {
    now = ended.now;
    holds = ended.holds;
    replays = ended.replays;
    clean = λ j low. record { unsealed = (ended.clean j low).unsealed; first_generation = (ended.clean j low).first_generation; last_generation = (ended.clean j low).last_generation; stale = (ended.clean j low).stale };
    lane = record { lanes = ended.lane.lanes; zones = ended.lane.zones; lane = ended.lane.lane; size = refl };
    held = still_held (after v (Give line)) v.known;
    drained = ended.drained;
    idle = ended.idle;
    of_pool = ended.of_pool;
    small = ended.small;
    freed_of_pool = ended.freed_of_pool;
    taken = giving_keeps v (Give line) ended.taken may gives;
    within = ended.within;
    of_header = ended.of_header;
    alone = ended.alone;
    numbered = ended.numbered;
    newest = ended.newest;
    few = ended.few;
  }
  kept (ZoneGive zone) may gives = record {
    now = ended.now;
    holds = ended.holds;
    replays = ended.replays;
    clean = λ j low. record { unsealed = (ended.clean j low).unsealed; first_generation = (ended.clean j low).first_generation; last_generation = (ended.clean j low).last_generation; stale = (ended.clean j low).stale };
    lane = record { lanes = ended.lane.lanes; zones = ended.lane.zones; lane = ended.lane.lane; size = refl };
    held = ended.held;
    drained = ended.drained;
    idle = ended.idle;
    of_pool = ended.of_pool;
    small = ended.small;
    freed_of_pool = ended.freed_of_pool;
    taken = giving_keeps v (ZoneGive zone) ended.taken may gives;
    within = ended.within;
    of_header = ended.of_header;
    alone = ended.alone;
    numbered = ended.numbered;
    newest = ended.newest;
    few = ended.few;
  }
  kept (Load w x) may gives = absurd gives
  kept (Store w x) may gives = absurd gives
  kept (Or w bits x) may gives = absurd gives
  kept (And w bits x) may gives = absurd gives
  kept (Flush line) may gives = absurd gives
  kept Drain may gives = absurd gives
  kept (TakeWrite line won) may gives = absurd gives
  kept (TakeRead line won) may gives = absurd gives
  kept (Raise line won) may gives = absurd gives
  kept (ZoneTry zone won) may gives = absurd gives
  kept (Occupied at x) may gives = absurd gives
  kept (Occupy at bits won) may gives = absurd gives
  kept (Draw n) may gives = absurd gives
  kept (NumberSeen n) may gives = absurd gives
  kept (StopSeen set) may gives = absurd gives
  kept SetStop may gives = absurd gives
  kept (Tell operation reply) may gives = absurd gives

  -- ---- with nothing left to give back

  reserved_there : (at : Occ) (bit : ℕ) → reserves v at bit ≡ true → IsOcc o.lanes o.zones at × (bit < 64)
  reserved_there at bit has =
      let t = Any-from_list_any (has_bit at bit) v.reserved has in
      let mine = and_parts (is_same_occ at t.1.at) (eqb (bit_at t.1.bits bit) 1) t.4 in
      let few : t.1.bits < 2 ^ 64 = All-contains (λ (u : Taken). u.bits < 2 ^ 64) v.reserved t.1 ended.small (t.0, t.2, t.3) in (
        subst (IsOcc o.lanes o.zones) (sym (occ_same at t.1.at mine.0)) (All-contains (λ (u : Taken). IsOcc o.lanes o.zones u.at) v.reserved t.1 ended.of_pool (t.0, t.2, t.3)),
        ⊎_elim (λ (low : bit < 64). low) (λ (high : 64 ≤ bit). absurd (let none = bit_at_above t.1.bits 64 bit few high in let one = eqb-true (bit_at t.1.bits bit) 1 mine.1 in omega (arith, one, none))) (cases_lt bit 64),
      )

  here : (at : Occ) → IsOcc o.lanes o.zones at → IsOcc v.lanes v.zones at
  here at of = subst (λ n. IsOcc n v.zones at) (sym ended.lane.lanes) (subst (λ n. IsOcc o.lanes n at) (sym ended.lane.zones) of)

  begun : v.locks ≡ [] → v.zone_locks ≡ [] → v.freed ≡ [] → BeginsAgain (standing o v) header pool v
  begun no_locks no_zones none_freed = record {
    now = ended.now;
    holds = ended.holds;
    replays = ended.replays;
    clean = ended.clean;
    rested = record {
      lane = ended.lane;
      words = refl;
      held = ended.held;
      changes = none_filled v ended.drained;
      room = let none : length v.changes ≡ 0 = ap length ended.drained in omega (arith, none);
      idle = ended.idle;
      no_locks = no_locks;
      of_pool = ended.of_pool;
      small = ended.small;
      free = λ at bit has. let there = reserved_there at bit has in ap (λ n. is_taken (slice_index v.words) n at bit) (sym ended.lane.lanes) ∙ ended.taken.apart at bit (here at there.0) there.1 (inl has);
      nothing_freed = none_freed;
      within = ended.within;
    };
    unlocked = no_zones;
    pages = let pages = ended.taken.pages in let lanes = ended.lane.lanes in let zones = ended.lane.zones in omega (arith, pages, lanes, zones);
    zone_count = ended.taken.zone_count;
    occupied = λ at bit of low. subst (λ n. (bit_at (occ_in v at) bit ≡ 1) ↔ ((is_taken (slice_index v.words) n at bit ≡ true) ⊎ (has_taken v at bit ≡ true))) ended.lane.lanes (ended.taken.bits at bit (here at of) low);
    of_pool = ended.of_header;
    alone = ended.alone;
    numbered = ended.numbered;
    newest = λ n is. same_Some n (length v.entries) (sym is ∙ ended.newest);
    closed = ap (λ number. is_none number && list_any is_low v.seen) ended.newest;
    few = ended.few;
  }

pub ended_kept : (o : Opening) (header : Header) (pool : PoolView) (v : View) (s : Step) → HasEnded o header pool v → Allowed v s → IsGiving s → HasEnded o header pool (after v s)
ended_kept o header pool v s ended = kept o header pool v ended s

pub ended_begins : (o : Opening) (header : Header) (pool : PoolView) (v : View) → HasEnded o header pool v → v.locks ≡ [] → v.zone_locks ≡ [] → v.freed ≡ [] → BeginsAgain (standing o v) header pool v
ended_begins o header pool v ended = begun o header pool v ended
