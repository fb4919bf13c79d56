-- Lane 0 over its memory: what the memory's calls are to it, in whatever world the memory stands.
use Rattle.std.proofs.Common.{◌≡◌, ◌↔◌, ℕ, ◌<◌, Bool, true, false, IsTrue, slice_index, bit_and}
use Rattle.std.proofs.Common.{bit_or, Option, Result, Ok, Err, IfOk, OnOk, OnErr, refl, sym, ap}
use Rattle.std.proofs.Common.{◌∙◌, ⊎_elim, ◌/◌, ◌≤◌, List, length, replicate, subst, arith}
use Rattle.std.proofs.lemmas.Bool.{both_ways, cases_lt}
use Rattle.std.proofs.lemmas.List.{get_or-replicate, get_or_past, length-replicate}
use Rattle.std.specs.Bool.{OnTrue, OnFalse}
use Rattle.pm_layout.specs.declared.shape.Shape.{Shape}
use Rattle.pm_layout.specs.Chunks.{words_of}
use Rattle.pm_memory.specs.Runs.{AnyStep, Made, MadeOrStopped}
use Rattle.pm_memory.specs.Solo.{Solo, Sees, CanStep, says_stopped, with_occ, opened_with}
use Rattle.pm_memory.specs.SoloCalls.{Calls, occ_in}
use Rattle.pm_memory.specs.declared.lane_mem.Stopped.{Stopped}
use Rattle.pm_objects.specs.declared.calls.Operation.{Operation}
use Rattle.pm_objects.specs.declared.history.Value.{Value}
use Rattle.pm_view.specs.declared.occ.Occ.{Occ}
use Rattle.pm_view.specs.Counts.{is_counted}
use Rattle.pm_view.specs.Steps.{Step}
use Rattle.pm_view.specs.Steps.Step.{Occupy, SetStop, Tell}
use Rattle.pm_view.specs.View.{View, Constants, idle}
use Rattle.pm_view.specs.Views.{after}
use Rattle.pm_world.specs.Bare.{AreBare, IsBare, IsUntaken}
use Rattle.pm_world.specs.InWorld.{InWorld}
use Rattle.pm_world.specs.Lawful.{Allowed, IsLawful}
use Rattle.pm_world.specs.Opens.{OpensIdle}
use Rattle.pm_world.specs.SoloLanes.{Stands, StandsAs, only_lane}
use Rattle.pm_world.specs.SoloWorld.{memory_of}
use Rattle.pm_world.specs.World.{Opening}
use Rattle.pm_world.specs.Memory.{RunWord, ZoneWord}
use Rattle.pm_world.proofs.Bare.{bare_opens, bare_taken}
use Rattle.pm_world.proofs.SoloStands.{stands_after, opened_starts, opened_stands}

-- `now` is the memory as the lane's field has it
module _ (m now new : Solo) (same : now ≡ m) where
  pub seen_now : (v : View) → StandsAs m v → Sees now v
  seen_now v st = subst (λ n. Sees n v) (sym same) st.1.sees

  pub can_now : (s : Step) → CanStep m s → CanStep now s
  can_now s can = subst (λ n. CanStep n s) (sym same) can

  after_step : (s : Step) {v : View} (st : StandsAs m v) → IsLawful v s → Calls s now new → Sees new (after v s)
      → StandsAs new (after v s)
  after_step s {v} st law is sees =
      (st.0, stands_after s st.0 now new v (subst (λ n. Stands st.0 n v) (sym same) st.1) law is sees)

  -- a call that is not counted
  pub stood : (s : Step) → is_counted s ≡ false → Calls s now new → Made AnyStep (Sees now) (Sees new) s
      → Made Allowed (StandsAs m) (StandsAs new) s
  stood s plain is made v st may = let a = made v (seen_now v st) tt in let none = both_ways (is_counted s) plain in
      (after_step s st (record { allowed = may; due = λ c. absurd (none c) }) is a.0, a.1)

  -- and one that is, or the stop word in its place
  pub stood_or_stopped : {T : Type 0} (s : T → Step) (r : Result T Stopped)
      → MadeOrStopped AnyStep (Sees now) (Sees new) s r
      → IfOk r (λ x. Calls (s x) now new) → OnErr r (new ≡ says_stopped now)
      → MadeOrStopped Allowed (StandsAs m) (StandsAs new) s r
  stood_or_stopped s (Ok x) made is said = λ v st may. let a = made v (seen_now v st) tt in
      (after_step (s x) st (record { allowed = may; due = λ c. a.2 }) is a.0, a.1, a.2)
  stood_or_stopped s (Err e) made is said = λ v st. let a = made v (seen_now v st) in
      (after_step SetStop st (record { allowed = a.1; due = λ c. absurd (both_ways false refl c) }) said a.0, a.1)

-- a call with a reply did what it does with that one
pub with_reply : {T : Type 0} (P : Type 0) (Q : T → Type 0) (r : Result T Stopped)
    → OnOk r P → IfOk r Q → IfOk r (λ x. P × Q x)
with_reply P Q (Ok x) p q = (p, q)
with_reply P Q (Err e) p q = tt

pub occupy_calls : (old new : Solo) (at : Occ) (bits : ℕ) (won : Bool)
    → (IsTrue won ↔ (bit_and (occ_in old at) bits ≡ 0))
    → OnTrue won (new ≡ with_occ old at (bit_or (occ_in old at) bits))
    → OnFalse won (new ≡ old) → Calls (Occupy at bits won) old new
occupy_calls old new at bits true free done same = (done, free.0 refl)
occupy_calls old new at bits false free done same =
    (same, λ z. absurd (both_ways false refl (free.1 z)))

-- an operation is told with no call of the memory
pub tell_made : (m : Solo) (operation : Operation) (reply : Option Value)
    → Made AnyStep (Sees m) (Sees m) (Tell operation reply)
tell_made m operation reply v s _ = (
  record {
    fixed = s.fixed;
    words = s.words;
    occupancy = s.occupancy;
    changes = s.changes;
    calls = s.calls;
    counter = s.counter;
    locks = s.locks;
    zone_locks = s.zone_locks;
    sizes = s.sizes;
  },
  tt,
)

-- each view of the lane is one of a world, in which the words are the memory's
pub in_world : (m : Solo) (v : View) (w x : ℕ) → StandsAs m v
    → w < words_of v.fixed.shape → x ≡ slice_index m.words w → InWorld v w x
in_world m v w x st inside found = let some : 0 < st.0.lanes = let l = st.1.world.some_lanes in omega arith in record {
  opening = st.0;
  memory = memory_of m;
  views = st.1.views;
  past = st.1.past;
  world = st.1.world;
  runs = subst (λ k. k < st.0.lanes) (sym st.1.sees.fixed.lane) some;
  here = ap st.1.views st.1.sees.fixed.lane ∙ st.1.here;
  inside = inside;
  word = sym found;
  sizes = st.1.sizes;
  causes = st.1.causes;
}

-- ---- ON A POOL WITHOUT OBJECTS
module _ (sh : Shape) (pool : ℕ) (stop : Option ℕ) (words runs free : List ℕ) (bare : AreBare sh sh.lanes words)
    (full : runs ≡ replicate (length words / 512) 18446744073709551615) (clear : free ≡ replicate 32 0) where
  abbrev o : Opening
  o = record { shape = sh; lanes = 1; words = words }

  abbrev fixed : ℕ → Constants
  fixed k = record (only_lane sh pool stop) { lane = k }

  pages : length runs ≡ length words / 512
  pages = ap length full ∙ length-replicate {A = ℕ} (length words / 512) 18446744073709551615

  count : length free ≡ 32
  count = ap length clear ∙ length-replicate {A = ℕ} 32 0

  untaken : IsUntaken sh (slice_index runs) (slice_index free)
  untaken = record {
    full = λ page l. ap (λ (ws : List ℕ). slice_index ws page) full
        ∙ get_or-replicate (length words / 512) page 18446744073709551615 0 (let z = bare.size in omega (arith, l, z));
    free = λ zone. ap (λ (ws : List ℕ). slice_index ws zone) clear ∙ ⊎_elim
        (λ (l : zone < 32). get_or-replicate 32 zone 0 0 l)
        (λ (l : 32 ≤ zone). get_or_past (replicate 32 0) zone 0 (let q = length-replicate {A = ℕ} 32 0 in omega (arith, q, l)))
        (cases_lt zone 32);
  }

  is_bare : IsBare o
  is_bare = record { some_lanes = omega arith; most_lanes = sh.lanes_from; words = bare }

  opens : OpensIdle o (memory_of (opened_with words stop runs free)) fixed (λ k. 1)
  opens = bare_opens o (memory_of (opened_with words stop runs free)) fixed
      is_bare untaken
      (opened_starts o fixed stop runs free refl (λ k. refl) (λ k. refl) (λ k. refl))

  pub bare_stands : StandsAs (opened_with words stop runs free) (idle (only_lane sh pool stop) 1)
  bare_stands = (
    o,
    opened_stands o fixed (λ k. 1) runs free refl refl refl pages count
        (bare_taken o is_bare (λ p. memory_of (opened_with words stop runs free) (RunWord p))
        (λ z. memory_of (opened_with words stop runs free) (ZoneWord z)) untaken) opens,
  )
