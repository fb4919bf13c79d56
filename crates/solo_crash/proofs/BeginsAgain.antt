-- Where a lane that is alone begins again a world begins, between calls.
use Rattle.std.proofs.Common.{◌≡◌, ◌≢◌, inl, inr, ⊎_elim, ℕ, zero, suc, ◌+◌, ◌<◌, Bool, true, false, eqb, leb, All, Contains, List, [], ◌∷◌, length, map, slice_index, refl, sym, ap, ◌∙◌, subst, arith, ◌^◌, cond}
use Rattle.std.specs.Int.{bit_at}
use Rattle.std.specs.List.{list_any}
use Rattle.std.proofs.lemmas.Bool.{cases_eq, cond-false, cond-true, false≢true, le-leb, false_from_ne_true, leb-true, ne_eqb, eq-eqb}
use Rattle.std.proofs.lemmas.List.{length-map}
use Rattle.std.proofs.lemmas.List.Elements.{All-contains, All-nil, All-cons}
use Rattle.std.proofs.lemmas.Option.{none-some}
use Rattle.pm_header.specs.declared.header.Header.{Header}
use Rattle.pm_objects.specs.declared.pool.PoolView.{PoolView}
use Rattle.solo_model.specs.History.{opened}
use Rattle.solo_model.specs.Names.{Replays}
use Rattle.solo_model.specs.Step.{Act, State}
use Rattle.solo_view.specs.declared.occ.Occ.{Occ}
use Rattle.solo_view.specs.declared.occ.Occ.TheVariants.{Run, Zone}
use Rattle.solo_view.specs.Occupancy.{is_taken}
use Rattle.solo_view.specs.View.{Lock, Numbered, Taken, View}
use Rattle.solo_view.specs.Views.{occ_in}
use Rattle.solo_memory.specs.Solo.{lock_word}
use Rattle.solo_memory.specs.Solo as solo
use Rattle.solo_world.specs.Heap.{IsOcc, has_taken, holds_zone}
use Rattle.solo_world.specs.History.{AreNumbered, Entry, entries_by}
use Rattle.solo_world.specs.Memory.{occ_at}
use Rattle.solo_world.specs.Opening.{Opening}
use Rattle.solo_world.specs.Opens.{IsRested}
use Rattle.solo_world.specs.World.{may_draw, may_draw_count}
use Rattle.solo_world.proofs.Filled.{none_filled}
use Rattle.solo_world.proofs.Numbers.{number_upto}
use Rattle.solo_crash.specs.Alone.{BeginsAgain, alone_views, idle_view}
use Rattle.solo_crash.specs.OneLane.{BeginsBetween, Moment}
use Rattle.solo_crash.specs.Pending.{acts_alone, acts_of, state_alone}
use Rattle.solo_crash.proofs.AloneMemory.{memory_of, one_if}
use Rattle.solo_crash.proofs.HistoryActs.{acts_of_all, state_of_one}

-- ---- the calls so far as a history that is over

abbrev over : Numbered → Entry
over e = record { number = e.number; lane = 0; call = e.call; difference = [] }

abbrev pub over_log : List Numbered → List Entry
over_log entries = map over entries

-- each is decided
abbrev pub over_decided : List Numbered → ℕ → Bool
over_decided entries n = leb n (length (over_log entries))

over_numbered : (n : ℕ) (entries : List Numbered) → solo.AreNumbered n entries → AreNumbered n (over_log entries)
unfolding solo.AreNumbered AreNumbered
over_numbered n [] numbered = tt
over_numbered n (e ∷ entries) numbered = (numbered.0, over_numbered (n + 1) entries numbered.1)

over_own : (entries : List Numbered) → entries_by 0 (over_log entries) ≡ entries
unfolding entries_by
over_own [] = refl
over_own (e ∷ entries) = ap (λ es. e ∷ es) (over_own entries)

over_else : (k : ℕ) → k ≢ 0 → (entries : List Numbered) → entries_by k (over_log entries) ≡ []
unfolding entries_by
over_else k other [] = refl
over_else k other (e ∷ entries) = cond-false (eqb 0 k) (e ∷ entries_by k (over_log entries)) (entries_by k (over_log entries)) (ne_eqb 0 k (λ same. other (sym same))) ∙ over_else k other entries

over_made : (entries : List Numbered) → All (λ (e : Entry). e.difference ≡ []) (over_log entries)
over_made [] = All-nil (λ (e : Entry). e.difference ≡ [])
over_made (e ∷ entries) = All-cons (λ (e : Entry). e.difference ≡ []) (over e) (over_log entries) refl (over_made entries)

over_lanes : (entries : List Numbered) → All (λ (e : Entry). e.lane ≡ 0) (over_log entries)
over_lanes [] = All-nil (λ (e : Entry). e.lane ≡ 0)
over_lanes (e ∷ entries) = All-cons (λ (e : Entry). e.lane ≡ 0) (over e) (over_log entries) refl (over_lanes entries)

pub over_lane : (entries : List Numbered) (e : Entry) → Contains (over_log entries) e → e.lane ≡ 0
over_lane entries e there = All-contains (λ (d : Entry). d.lane ≡ 0) (over_log entries) e (over_lanes entries) there

-- no lane but the first may draw
none_draws : (o : Opening) (v : View) (lanes : ℕ) → may_draw v ≡ false → may_draw_count (alone_views o v) lanes ≡ 0
unfolding may_draw_count
none_draws o v zero closed = refl
none_draws o v (suc lanes) closed = (λ i. none_draws o v lanes closed i + cond (this lanes i) 1 0) where
  this : (k : ℕ) → may_draw (alone_views o v k) ≡ false
  this k = ⊎_elim
      (λ (same : k ≡ 0). ap may_draw (cond-true (eqb k 0) v (idle_view o k) (eq-eqb k 0 same)) ∙ closed)
      (λ (other : k ≢ 0). ap may_draw (cond-false (eqb k 0) v (idle_view o k) (ne_eqb k 0 other)))
      (cases_eq k 0)

-- the picture of an occupancy word is the memory's
picture_is : (v : View) (at : Occ) → memory_of v (occ_at at) ≡ occ_in v at
picture_is v (Run place) = refl
picture_is v (Zone zone) = refl

-- a lane that makes no step has nothing
idle_has : (o : Opening) (j : ℕ) (at : Occ) (bit : ℕ) → has_taken (idle_view o j) at bit ≡ false
idle_has o j (Run place) bit = refl
idle_has o j (Zone zone) bit = refl

idle_rested : (o : Opening) (j : ℕ) → IsRested o j (idle_view o j)
idle_rested o j = record {
  lane = record { lanes = refl; zones = refl; lane = refl; size = refl };
  words = refl;
  held = λ w there. absurd (let inside = there.1 in omega (arith, inside));
  changes = none_filled (idle_view o j) refl;
  room = omega arith;
  idle = refl;
  no_locks = refl;
  of_pool = All-nil (λ (t : Taken). IsOcc o.lanes o.zones t.at);
  small = All-nil (λ (t : Taken). t.bits < 2 ^ 64);
  free = λ at bit reserved. absurd (false≢true reserved);
  nothing_freed = refl;
  within = λ stop is. absurd (none-some stop is);
}

module _ (o : Opening) (header : Header) (pool : PoolView) (v : View) (begins : BeginsAgain o header pool v) where
  abbrev pub again : Moment
  again = record { memory = memory_of v; views = alone_views o v; log = over_log v.entries; decided = over_decided v.entries }

  in_lanes : 0 < o.lanes
  in_lanes = let some = begins.holds.has_header.has_shape.shape.lanes_from in omega arith

  else_idle : (k : ℕ) → k ≢ 0 → alone_views o v k ≡ idle_view o k
  else_idle k other = cond-false (eqb k 0) v (idle_view o k) (ne_eqb k 0 other)

  rested : (k : ℕ) → IsRested o k (alone_views o v k)
  rested k = ⊎_elim
      (λ (same : k ≡ 0). subst (λ n. IsRested o n (alone_views o v n)) (sym same) begins.rested)
      (λ (other : k ≢ 0). subst (IsRested o k) (sym (else_idle k other)) (idle_rested o k))
      (cases_eq k 0)

  -- what is had is had by the lane
  has_own : (k : ℕ) (at : Occ) (bit : ℕ) → has_taken (alone_views o v k) at bit ≡ true → (k ≡ 0) × (has_taken v at bit ≡ true)
  has_own k at bit has = ⊎_elim
      (λ (same : k ≡ 0). (same, ap (λ (u : View). has_taken u at bit) (sym (cond-true (eqb k 0) v (idle_view o k) (eq-eqb k 0 same))) ∙ has))
      (λ (other : k ≢ 0). absurd (false≢true (sym (ap (λ (u : View). has_taken u at bit) (else_idle k other) ∙ idle_has o k at bit) ∙ has)))
      (cases_eq k 0)

  holds_none : (k zone : ℕ) → holds_zone (alone_views o v k) zone ≡ true → ⊥
  holds_none k zone holds = ⊎_elim
      (λ (same : k ≡ 0). false≢true (sym (ap (λ zones. list_any (λ held. eqb held zone) zones) begins.unlocked) ∙ (ap (λ (u : View). holds_zone u zone) (sym (cond-true (eqb k 0) v (idle_view o k) (eq-eqb k 0 same))) ∙ holds)))
      (λ (other : k ≢ 0). false≢true (sym (ap (λ (u : View). holds_zone u zone) (else_idle k other)) ∙ holds))
      (cases_eq k 0)

  set_so : (at : Occ) (bit : ℕ) → (bit_at (memory_of v (occ_at at)) bit ≡ 1) → bit_at (occ_in v at) bit ≡ 1
  set_so at bit set = ap (λ x. bit_at x bit) (sym (picture_is v at)) ∙ set

  pub begins_between : BeginsBetween o 0 header pool again
  begins_between = record {
    now = begins.now;
    holds = begins.holds;
    clean = begins.clean;
    rested = λ j low. rested j;
    over = record {
      numbered = over_numbered 1 v.entries begins.numbered;
      of_lanes = λ e there. let lane = over_lane v.entries e there in let low = in_lanes in omega (arith, lane, low);
      made = over_made v.entries;
      all = λ e there. le-leb e.number (length (over_log v.entries)) (let upto = number_upto 1 (over_log v.entries) e (over_numbered 1 v.entries begins.numbered) there in omega (arith, upto));
      undrawn = λ n beyond. false_from_ne_true (leb n (length (over_log v.entries))) (λ is. absurd (let low = leb-true n (length (over_log v.entries)) is in omega (arith, low, beyond)));
      own_entries = λ k low. ⊎_elim
          (λ (same : k ≡ 0). subst (λ n. entries_by n (over_log v.entries) ≡ (alone_views o v n).entries) (sym same) (over_own v.entries))
          (λ (other : k ≢ 0). over_else k other v.entries ∙ sym (ap (λ (u : View). u.entries) (else_idle k other)))
          (cases_eq k 0);
    };
    stands = record {
      words = λ w. ap (λ (words : List ℕ). slice_index words w) begins.rested.words;
      locks = λ line. ap (λ (locks : List Lock). lock_word locks line) begins.rested.no_locks;
      heap = record {
        set = λ at bit of low set. ⊎_elim (λ (taken : is_taken (slice_index o.words) o.lanes at bit ≡ true). inl taken) (λ (has : has_taken v at bit ≡ true). inr (0, in_lanes, has)) ((begins.occupied at bit of low).0 (set_so at bit set));
        taken = λ at bit of low taken. ap (λ x. bit_at x bit) (picture_is v at) ∙ (begins.occupied at bit of low).1 (inl taken);
        held = λ k at bit inside of low has. ap (λ x. bit_at x bit) (picture_is v at) ∙ (begins.occupied at bit of low).1 (inr (has_own k at bit has).1);
        apart = λ j k at bit low high one other. (has_own j at bit one).0 ∙ sym (has_own k at bit other).0;
        locked = λ k zone low holds. absurd (holds_none k zone holds);
        unlocked = λ zone. inl (ap (λ zones. one_if (list_any (λ held. eqb held zone) zones)) begins.unlocked);
      };
      counter = sym (length-map v.entries over);
      counter_room = let none = none_draws o v o.lanes begins.closed in let few = begins.few in omega (arith, none, few);
      stop_word = inl refl;
    };
    in_lanes = in_lanes;
    of_pool = begins.of_pool;
    alone = λ e there. over_lane v.entries e there;
    newest = λ n is. begins.newest n is ∙ sym (length-map v.entries over);
    replays =
        subst (λ (s : State). Replays (opened pool) (acts_of (over_log v.entries)) s) (sym (state_of_one begins.now (over_log v.entries) (over_lane v.entries)))
        (subst (λ (acts : List Act). Replays (opened pool) acts (state_alone begins.now (entries_by 0 (over_log v.entries)))) (sym (acts_of_all (over_log v.entries) (over_lane v.entries)))
        (subst (λ (calls : List Numbered). Replays (opened pool) (acts_alone calls) (state_alone begins.now calls)) (sym (over_own v.entries)) begins.replays));
  }
