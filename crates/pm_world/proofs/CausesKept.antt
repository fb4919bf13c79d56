-- EACH ANSWER THAT A VIEW KEEPS HAS ITS CAUSE: as a world opens, and by every lawful step of
-- every lane.
use Rattle.std.proofs.Common.{◌≡◌, ◌≢◌, ◌⊎◌, inl, inr, ⊎_elim, ℕ, zero, suc, ◌+◌, ◌<◌, ◌≤◌}
use Rattle.std.proofs.Common.{Bool, true, false, cond, List, [], ◌∷◌}
use Rattle.std.proofs.Common.{◌&&◌, ◌==◌, refl, sym, ap, ◌∙◌, subst, arith}
use Rattle.std.proofs.lemmas.Bool.{cases_eq, both_ways}
use Rattle.pm_view.specs.Changes.{drained}
use Rattle.pm_view.specs.Places.{Place, InRun, Descr, Block, Small, Big, Root, Geometry}
use Rattle.pm_view.specs.Parts.{Part, GenerationPart, SealPart, EntryPart, SlotPart, RootPart}
use Rattle.pm_view.specs.Parts.{DescriptorPart, ChunkPart, OtherPart, part_of}
use Rattle.pm_view.specs.Log.{Phase, Idle, Open, Drawn, Sealing, Applying, Clearing, Retiring}
use Rattle.pm_view.specs.Log.{Voiding}
use Rattle.pm_view.specs.Log.{is_early, phase_drawn}
use Rattle.pm_view.specs.Claims.{Claim, Knows, reads}
use Rattle.pm_view.specs.Steps.{Step}
use Rattle.pm_view.specs.Steps.Step.{Load, Store, Or, And, Flush, Drain, TakeWrite, TakeRead}
use Rattle.pm_view.specs.Steps.Step.{Raise, Give, ZoneTry, ZoneGive, Occupied, Occupy, Vacate}
use Rattle.pm_view.specs.Steps.Step.{Draw, NumberSeen, StopSeen, SetStop, Tell}
use Rattle.pm_view.specs.View.{View}
use Rattle.pm_view.specs.Views.{after, part_in, seen_by, learned}
use Rattle.pm_world.specs.States.{State, val, replay, diff}
use Rattle.pm_world.specs.Sights.{call_in}
use Rattle.pm_world.specs.Memory.{Memory, PoolWord}
use Rattle.pm_world.specs.Moves.{Moves}
use Rattle.pm_world.specs.Lawful.{IsLawful}
use Rattle.pm_world.specs.Laws.{Turn}
use Rattle.pm_world.specs.Opens.{idle_views}
use Rattle.pm_world.specs.Runs.{Moment, IsRun}
use Rattle.pm_world.specs.World.{Opening, Views, Past, World, origin, ghost_of}
use Rattle.pm_world.specs.Course.{is_idle, past_drawn, past_after, past_stored, past_drained}
use Rattle.pm_world.specs.Causes.{drawn_by, CountsNew, times_missed, NoObjectCause}
use Rattle.pm_world.specs.Causes.{NoObjectHasCause}
use Rattle.pm_world.specs.Causes.{stands, IsGone, misses_in_bitmap, misses_in_descriptor}
use Rattle.pm_world.specs.Causes.{Causes}
use Rattle.pm_world.specs.CauseLaws.{CausesBegin, KeepsCauses, RunsKeepCauses}
use Rattle.pm_world.proofs.ClaimCounts.{missed_by}
use Rattle.pm_world.proofs.Histories.{Grows, stays, stored_grows, drain_grows}
use Rattle.pm_world.proofs.Missed.{bitmap_misses, descriptor_misses}
use Rattle.pm_world.proofs.OverlappingCalls.{with_others, busy_kept, counts_kept, busy_drawn}
use Rattle.pm_world.proofs.OverlappingCalls.{counts_drawn}
use Rattle.pm_world.proofs.OverlappingCalls.{Moved, no_later, before, drew_old, drew_new, by_old}
use Rattle.pm_world.proofs.OverlappingCalls.{by_new, same_view, claims_same}
use Rattle.pm_world.proofs.Replays.{put1_else, replay_same}
use Rattle.pm_world.proofs.RunsKept.{next_world}
use Rattle.pm_world.proofs.StepLearn.{descriptor_word, bitmap_word}
use Rattle.pm_world.proofs.ZonesFilled.{zones_kept, zones_begin}

-- ---- A LOAD MISSES A BLOCK, or it is missed as often as before
module _ (o : Opening) (mem : Memory) (views : Views) (g : Past) (x : World o mem views g) (k : ℕ)
    (ink : k < o.lanes) (B : Block) where
  abbrev Missed : List Claim → Type 0
  Missed t = (times_missed o.shape B t ≡ times_missed o.shape B
      (views k).claims) ⊎ IsGone o g g.length B

  one_more : (now : Bool) → (now ≡ true → IsGone o g g.length B)
      → (cond now 1 0 + times_missed o.shape B (views k).claims ≡ times_missed o.shape B
      (views k).claims) ⊎ IsGone o g g.length B
  one_more true u = inr (u refl)
  one_more false u = inl (omega arith)

  module _ (w n : ℕ) (word : n ≡ mem (PoolWord w)) where
    by_part : is_early (views k).log.phase ≡ true → (part : Part) → part_in (views k) w ≡ part
        → Missed (Knows w n ∷ seen_by part n (views k).claims)
    by_part early (DescriptorPart c) p =
        let a = descriptor_word o.shape (views k).fixed.lane w c (subst
        (λ s. part_of s (views k).fixed.lane w ≡ DescriptorPart c)
        (x.each_lane k ink).shape p) in
        one_more (misses_in_descriptor o.shape (views k).claims c n B)
        (descriptor_misses o mem views g x k ink early c n a.0 (word
        ∙ ap (λ u. mem (PoolWord u)) (sym a.1)) B)
    by_part early (ChunkPart c zero) p =
        let a = bitmap_word o.shape (views k).fixed.lane w c (subst
        (λ s. part_of s (views k).fixed.lane w ≡ ChunkPart c 0) (x.each_lane k ink).shape p) in
        one_more (misses_in_bitmap o.shape (views k).claims c n B)
        (bitmap_misses o mem views g x k ink early c n (word
        ∙ ap (λ u. mem (PoolWord u)) (sym a.1)) B)
    by_part early (ChunkPart c (suc i)) p = inl refl
    by_part early GenerationPart p = inl refl
    by_part early SealPart p = inl refl
    by_part early EntryPart p = inl refl
    by_part early SlotPart p = inl refl
    by_part early RootPart p = inl refl
    by_part early OtherPart p = inl refl

    by_phase : (ph : Phase) → (views k).log.phase ≡ ph
        → Missed (learned ph (part_in (views k) w) w n (views k).claims)
    by_phase Idle q = by_part (ap is_early q) (part_in (views k) w) refl
    by_phase Open q = by_part (ap is_early q) (part_in (views k) w) refl
    by_phase (Drawn m) q = inl refl
    by_phase (Sealing m) q = inl refl
    by_phase (Applying todo) q = inl refl
    by_phase Clearing q = inl refl
    by_phase (Retiring m) q = inl refl
    by_phase Voiding q = inl refl

  missed_now : (new : Memory) (s : Step) → Moves k s mem new → Missed (after (views k) s).claims
  missed_now new s = missed_by o.shape B (views k) (λ s. Moves k s mem new
      → Missed (after (views k) s).claims)
      (λ w n m. by_phase w n m.1 (views k).log.phase refl) (λ s e m. inl e) s

-- ---- A STEP THAT DRAWS NO NUMBER
module _ (o : Opening) (old mem : Memory) (views new : Views) (g : Past) (x : World o old views g)
    (k : ℕ) (ink : k < o.lanes)
    (s : Step) (law : IsLawful (views k) s) (moves : Moves k s old mem)
    (t : Turn views new k (after (views k) s)) where
  module _ (decided runs : ℕ → Bool) (geo : Geometry) (holder : Block → ℕ) (grow : (m : ℕ)
      → g.decided m ≡ true → decided m ≡ true) where
    abbrev h : Past
    h = with_others g decided runs geo holder

    gone_on : (n : ℕ) (B : Block) → IsGone o g n B → IsGone o h n B
    gone_on n B u keep d = u keep (λ m l e. d m l (grow m e))

    cause_on : (lane n : ℕ) (B : Block) → NoObjectCause o g lane n B → NoObjectCause o h lane n B
    cause_on lane n B c = record {
      entries = c.entries;
      most = c.most;
      least = c.least;
      gone =
          gone_on c.entries B c.gone;
    }

    counts_back : (f : List Claim → ℕ) (lane n : ℕ) (v : View) → CountsNew f h lane n v
        → CountsNew f g lane n v
    counts_back f lane n v c = record { some = c.some; since = c.since }

    no_object_kept : NoObjectHasCause o views g → NoObjectHasCause o new h
    no_object_kept b j n v inj is B c = ⊎_elim
        (λ (q : (n < g.length) × (drawn_by g n ≡ j) × (v ≡ g.drew n)).
        cause_on j n B (b j n v inj (inl q) B (counts_back (times_missed o.shape B) j n v c)))
        (λ (q : (n ≡ g.length) × (v ≡ new j)). ⊎_elim
        (λ (r : j ≡ k). subst
        (λ i. NoObjectCause o h i n B) (sym r)
        (own q.0 (ap (λ (w : View). times_missed o.shape B w.claims) (q.1
        ∙ (ap new r ∙ t.here))) r))
        (λ (ne : j ≢ k).
        cause_on j n B (b j n v inj (inr (q.0, q.1 ∙ t.else_ j ne)) B
        (counts_back (times_missed o.shape B) j n v c))) (cases_eq j k)) is
      where
        own : n ≡ g.length
            → times_missed o.shape B v.claims ≡ times_missed o.shape B (after (views k) s).claims
            → j ≡ k → NoObjectCause o h k n B
        own a e r = ⊎_elim
            (λ (y : times_missed o.shape B (after (views k) s).claims ≡ times_missed o.shape B
            (views k).claims). cause_on k n B (b k n (views k) ink (inr (a, refl)) B record {
              some = subst (λ m. 0 < m) (e ∙ y) c.some;
              since = λ p l f. subst (λ m. times_missed o.shape B (g.drew p).claims < m) (e
                  ∙ y) (c.since p l (f ∙ sym r));
            }))
            (λ (y : IsGone o g g.length B).
            record {
              entries = g.length;
              most = omega arith;
              least = λ p l f.
                  omega arith;
              gone = gone_on g.length B y;
            })
            (missed_now o old views g x k ink B mem s moves)

  reading : (m : ℕ) (won : Bool) → s ≡ Raise m won → reads (views k).claims m ≡ true
  reading m won e = (subst (IsLawful (views k)) e law).allowed.held

  undrawn : Causes o old views g → (g' : Past) → Grows g g' → Causes o mem new g'
  undrawn c g' w = let p : g' ≡ with_others g g'.decided g'.runs g'.geo g'.holder = λ i.
      record g' { drew = w.drew i; length = w.length i } in
      subst (Causes o mem new) (sym p) record {
        busy = busy_kept o views new g k s t g'.decided g'.runs g'.geo g'.holder old mem ink x law
            moves c.busy c.counts;
        no_object = no_object_kept g'.decided g'.runs g'.geo g'.holder w.decided c.no_object;
        no_space = zones_kept o old mem views new k ink c.no_space s moves t;
        counts = counts_kept o views new g k s t g'.decided g'.runs g'.geo g'.holder ink c.counts
            reading;
      }

-- ---- LANE k TAKES A NUMBER
stands_same : (s s' : State) (B : Block) → ((p : Place) (b : ℕ) → s p b ≡ s' p b)
    → stands s B ≡ stands s' B
stands_same s s' (Small c i) u = u (InRun c 0) i
stands_same s s' (Big f) u =
    ap (λ (w : ℕ → Bool). w 1 && (val w 0 8 == 2)) (λ i b. u (Descr f) b i)
stands_same s s' Root u = refl

module _ (o : Opening) (views new : Views) (g : Past) (k : ℕ) (ink : k < o.lanes) (number : ℕ)
    (t : Turn views new k (after (views k) (Draw number)))
    (lane_is : (views k).fixed.lane ≡ k) where
  abbrev drawn : Past
  drawn = past_drawn g (views k)

  old_view : (p : ℕ) → p < g.length → drawn.drew p ≡ g.drew p
  old_view p a = drew_old o views new g k ink number t lane_is p a

  counts_earlier : (f : List Claim → ℕ) (lane n n' : ℕ) (v w : View) → n ≤ n' → n ≤ g.length
      → f v.claims ≡ f w.claims
      → CountsNew f drawn lane n' v → CountsNew f g lane n w
  counts_earlier f lane n n' v w a b e c = record {
    some = subst (λ m. 0 < m) e c.some;
    since = λ p l q. let z : p < g.length = omega arith in
        subst (λ (y : View). f y.claims < f w.claims) (old_view p z)
        (subst (λ m. f (drawn.drew p).claims < m) e
        (c.since p (omega arith) (by_old o views new g k ink number t lane_is p z ∙ q)));
  }

  cause_moved : (lane n n' : ℕ) (B : Block) → Moved o views new g k ink number t lane_is lane n n'
      → NoObjectCause o g lane n B → NoObjectCause o drawn lane n' B
  cause_moved lane n n' B m c = let l =
      no_later o views new g k ink number t lane_is lane n n' m in let top = c.most in record {
        entries = c.entries;
        most = let a = l.0 in omega arith;
        least = λ p a e. let q = before o views new g k ink number t lane_is lane n n' m p a e in
            c.least p q.0 q.2;
        gone = λ keep d. let i = l.1 in
            stands_same (replay keep (origin o) (ghost_of drawn).log c.entries)
            (replay keep (origin o) (ghost_of g).log c.entries) B
            (λ p b. replay_same keep keep (origin o) (ghost_of g).log
            (ghost_of drawn).log p b c.entries (λ y low. (
              ap (λ (v : View). diff (call_in v) p b) (old_view y (omega arith)),
              inl refl,
            )))
            ∙ c.gone keep
            (λ y low e.
            d y (omega arith)
            (put1_else g.decided g.length
            (is_idle (phase_drawn g.length (views k).log.records (views k).log.entries)) y
            (λ q. omega arith) ∙ e));
      }

  no_object_drawn : NoObjectHasCause o views g → NoObjectHasCause o new drawn
  no_object_drawn b j n v inj is B c = ⊎_elim
      (λ (q : (n < suc g.length) × (drawn_by drawn n ≡ j) × (v ≡ drawn.drew n)). let a = q.0 in
      ⊎_elim
      (λ (r : n ≡ g.length). let w : v ≡ views k = q.2
      ∙ (ap drawn.drew r ∙ drew_new o views new g k ink number t lane_is) in
      let i : j ≡ k = sym q.1
      ∙ (ap (drawn_by drawn) r ∙ by_new o views new g k ink number t lane_is) in
      cause_moved j n n B (inl (refl, omega arith)) (b j n v inj (inr (r, w ∙ ap views (sym i))) B
      (counts_earlier f j n n v v (omega arith) (omega arith) refl c)))
      (λ (r : n ≢ g.length). let z : n < g.length = omega arith in
      cause_moved j n n B (inl (refl, omega arith))
      (b j n v inj (inl (
        z,
        sym (by_old o views new g k ink number t lane_is n z) ∙ q.1,
        q.2
            ∙ old_view n z,
      )) B
      (counts_earlier f j n n v v (omega arith) (omega arith) refl c))) (cases_eq n g.length))
      (λ (q : (n ≡ suc g.length) × (v ≡ new j)). let a = q.0 in ⊎_elim
      (λ (r : j ≡ k).
      absurd (lost a r (ap f (ap (λ (w : View). w.claims) (q.1 ∙ ap new r)
      ∙ claims_same o views new g k ink number t lane_is k))))
      (λ (r : j ≢ k). cause_moved j g.length n B (inr (refl, a, r))
      (b j g.length v inj (inr (
        refl,
        q.1
            ∙ same_view o views new g k ink number t lane_is j r,
      )) B
      (counts_earlier f j g.length n v v (omega arith) (omega arith) refl c))) (cases_eq j k)) is
    where
      f : List Claim → ℕ
      f = times_missed o.shape B

      -- the lane has counted nothing since it took this number
      lost : n ≡ suc g.length → j ≡ k → f v.claims ≡ f (views k).claims → ⊥
      lost a r e = let z =
          c.since g.length (omega arith) (by_new o views new g k ink number t lane_is ∙ sym r) in
          let y : f (drawn.drew g.length).claims ≡ f (views k).claims = ap
          (λ (w : View). f w.claims) (drew_new o views new g k ink number t lane_is) in
          omega arith

-- ---- EVERY STEP
pub goes_on : (s : Step) → KeepsCauses s
goes_on (Draw n) o old mem views new g k x c ink law m t = let lane = (x.each_lane k ink).lane in
    record {
      busy = busy_drawn o views new g k ink n t lane law.allowed.first c.busy;
      no_object = no_object_drawn o views new g k ink n t lane c.no_object;
      no_space = zones_kept o old mem views new k ink c.no_space (Draw n) m t;
      counts = counts_drawn o views new g k ink n t lane c.counts;
    }
goes_on (Store w n) o old mem views new g k x c ink law m t =
    undrawn o old mem views new g x k ink (Store w n) law m t c
    (past_stored (views k).log.phase (part_in (views k) w) n g)
    (stored_grows (views k).log.phase (part_in (views k) w) n g)
goes_on Drain o old mem views new g k x c ink law m t =
    undrawn o old mem views new g x k ink Drain law m t c
    (past_drained g (views k) (drained (views k).changes))
    (drain_grows g (views k) (drained (views k).changes))
goes_on (Occupy at bits true) o old mem views new g k x c ink law m t =
    undrawn o old mem views new g x k ink (Occupy at bits true) law m t c
    (past_after g (views k) (Occupy at bits true)) (record {
      drew = refl;
      length = refl;
      decided =
          λ m e. e;
    })
goes_on (Occupy at bits false) o old mem views new g k x c ink law m t =
    undrawn o old mem views new g x k ink (Occupy at bits false) law m t c g (stays g)
goes_on (Vacate at bits) o old mem views new g k x c ink law m t =
    undrawn o old mem views new g x k ink (Vacate at bits) law m t c
    (past_after g (views k) (Vacate at bits)) (record {
      drew = refl;
      length = refl;
      decided =
          λ m e. e;
    })
goes_on (Load w n) o old mem views new g k x c ink law m t =
    undrawn o old mem views new g x k ink (Load w n) law m t c g (stays g)
goes_on (Or w bits found) o old mem views new g k x c ink law m t =
    undrawn o old mem views new g x k ink (Or w bits found) law m t c g (stays g)
goes_on (And w bits found) o old mem views new g k x c ink law m t =
    undrawn o old mem views new g x k ink (And w bits found) law m t c g (stays g)
goes_on (Flush line) o old mem views new g k x c ink law m t =
    undrawn o old mem views new g x k ink (Flush line) law m t c g (stays g)
goes_on (TakeWrite line won) o old mem views new g k x c ink law m t =
    undrawn o old mem views new g x k ink (TakeWrite line won) law m t c g (stays g)
goes_on (TakeRead line won) o old mem views new g k x c ink law m t =
    undrawn o old mem views new g x k ink (TakeRead line won) law m t c g (stays g)
goes_on (Raise line won) o old mem views new g k x c ink law m t =
    undrawn o old mem views new g x k ink (Raise line won) law m t c g (stays g)
goes_on (Give line) o old mem views new g k x c ink law m t =
    undrawn o old mem views new g x k ink (Give line) law m t c g (stays g)
goes_on (ZoneTry zone won) o old mem views new g k x c ink law m t =
    undrawn o old mem views new g x k ink (ZoneTry zone won) law m t c g (stays g)
goes_on (ZoneGive zone) o old mem views new g k x c ink law m t =
    undrawn o old mem views new g x k ink (ZoneGive zone) law m t c g (stays g)
goes_on (Occupied at found) o old mem views new g k x c ink law m t =
    undrawn o old mem views new g x k ink (Occupied at found) law m t c g (stays g)
goes_on (NumberSeen n) o old mem views new g k x c ink law m t =
    undrawn o old mem views new g x k ink (NumberSeen n) law m t c g (stays g)
goes_on (StopSeen set) o old mem views new g k x c ink law m t =
    undrawn o old mem views new g x k ink (StopSeen set) law m t c g (stays g)
goes_on SetStop o old mem views new g k x c ink law m t =
    undrawn o old mem views new g x k ink SetStop law m t c g (stays g)
goes_on (Tell operation reply) o old mem views new g k x c ink law m t =
    undrawn o old mem views new g x k ink (Tell operation reply) law m t c g (stays g)

-- ---- THE OPENING
pub begin : CausesBegin
begin o mem fixed generation g occ none_ = record {
  busy = record {
    drawn = λ n l a r. absurd (omega arith);
    open_ = λ k l ink n r.
        absurd (both_ways false refl r);
  };
  no_object = λ k n v ink is B c. ⊎_elim
      (λ (q : (n < g.length) × (drawn_by g n ≡ k) × (v ≡ g.drew n)). absurd (let a = q.0 in
      omega arith))
      (λ (q : (n ≡ g.length) × (v ≡ idle_views fixed generation k)).
      absurd (let a : 0 < 0 = subst
      (λ (w : View). 0 < times_missed o.shape B w.claims) q.1 c.some in omega arith)) is;
  no_space = zones_begin o mem occ fixed generation;
  counts = record {
    held = λ k l ink h. absurd (both_ways false refl h);
    locked = λ k p l a h. absurd (omega arith);
    missed = λ k p B a h. absurd (omega arith);
  };
}

-- ---- RUNS
pub runs : RunsKeepCauses
unfolding IsRun
runs o [] old new x c run = subst (λ (m : Moment). Causes o m.mem m.views m.past) (sym run) c
runs o (t ∷ rest) old new x c run = let next = run.0 in let l = run.1 in
    runs o rest next new (next_world o t old next x l) (subst
    (λ (g : Past). Causes o next.mem next.views g) (sym l.past)
    (goes_on t.step o old.mem next.mem old.views next.views old.past t.lane x c l.runs l.lawful
    l.moves l.view)) run.2
