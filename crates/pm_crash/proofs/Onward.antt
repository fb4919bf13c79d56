-- FOOTPRINTS STAND: as a world opens, by a draw for its own call, and by every other step, since the
-- calls stay, what is decided grows, and runs stay of their class.
use Rattle.std.proofs.Common.{◌≡◌, ◌≢◌, inl, ⊎_elim, ℕ, zero, suc, ◌+◌, ◌*◌, ◌/◌, ◌%◌, ◌^◌, ◌<◌, ◌≤◌, nat_lt, ◌==◌, ◌||◌, not, Bool, true, false, cond, List, [], ◌∷◌, Option, None, Some, refl, sym, ap, ◌∙◌, subst, arith}
use Rattle.std.specs.Prelude.{slice_index}
use Rattle.std.proofs.lemmas.Bool.{and_from, and_parts, both_ways, cases_Bool, cases_eq, cond-true, eqb-true, false_from_ne_true, or_cases}
use Rattle.pm_layout.specs.Chunks.{word_of_descriptor}
use Rattle.pm_layout.specs.Sizes.{blocks_of}
use Rattle.pm_view.specs.Changes.{Undrained, drained}
use Rattle.pm_view.specs.Claims.{is_run}
use Rattle.pm_view.specs.Entries.{first_of_two, latest, redos}
use Rattle.pm_view.specs.Parts.{Part, GenerationPart, SealPart, EntryPart, SlotPart, RootPart, DescriptorPart, ChunkPart, OtherPart}
use Rattle.pm_view.specs.Log.{Phase, Idle, Open, Drawn, Sealing, Applying, Clearing, Retiring, Voiding, is_early, phase_drawn}
use Rattle.pm_view.specs.Places.{Place, InRun, Descr, Block, Small, Big, Root, header, is_place}
use Rattle.pm_view.specs.Steps.{Step}
use Rattle.pm_view.specs.Steps.Step.{Load, Store, Or, And, Flush, Drain, TakeWrite, TakeRead, Raise, Give, ZoneTry, ZoneGive, Occupied, Occupy, Vacate, Draw, NumberSeen, StopSeen, SetStop, Tell}
use Rattle.pm_view.specs.View.{View, Constants, entry_drawn}
use Rattle.pm_view.specs.Views.{after, part_in}
use Rattle.pm_world.specs.States.{State, diff, over, replay, there}
use Rattle.pm_world.specs.Sights.{call_in, sight_of}
use Rattle.pm_world.specs.Lanes.{Flies, SightFits, TurnFits, valid, flies_at}
use Rattle.pm_world.specs.Laws.{Turn}
use Rattle.pm_world.specs.Lawful.{IsLawful}
use Rattle.pm_world.specs.Memory.{Memory, PoolWord, cells_of, run_told}
use Rattle.pm_world.specs.BlockLines.{AllocatedHas, IsInSmall}
use Rattle.pm_world.specs.Course.{is_idle, past_after, past_decided, past_drained, past_drawn, past_made, past_stored}
use Rattle.pm_world.specs.Runs.{IsRun, Leads, Moment}
use Rattle.pm_world.specs.World.{Opening, Views, Past, World, ghost_of, numbered_by, origin, settled_words}
use Rattle.pm_world.proofs.BlockLines.{classes_stay, runs_stay}
use Rattle.pm_world.proofs.EveryStep.{every_step}
use Rattle.pm_world.proofs.Frame.{maker_no_run}
use Rattle.pm_world.proofs.Replays.{put1_here, put1_else, replay_same}
use Rattle.pm_crash.specs.Footprints.{Footprints, KeepsDecided, MayPrecede, has_found, has_own, kept_bits}
use Rattle.pm_crash.specs.Laws.{FootprintsBegin, KeepsFootprints, RunsKeepFootprints}
use Rattle.pm_crash.specs.Roots.{HoldsItsRoots, RootsAreSeen, leaves_root, saw_root, sets_root}
use Rattle.pm_crash.proofs.Precede.{precedes}
use Rattle.pm_crash.proofs.RootHistory.{SeenKept, draw_holds, draw_sees, load_holds, load_sees_roots, other_holds, other_sees}
use Rattle.pm_crash.proofs.RootSteps.{bare, is_other, no_entries}

-- a block of a run that stands, in part
stands : (g : Past) (c i : ℕ) → g.runs c ≡ true → nat_lt i (blocks_of (g.geo.class c)) ≡ true
    → valid (ghost_of g) (Small c i) ≡ true
stands g c i r l = and_from (g.runs c) (nat_lt i (blocks_of (g.geo.class c))) r l

-- ---- THE GHOSTS GO ON: no number is drawn, what is decided grows, runs stay of their class
record IsOnward (g g' : Past) : Type 0 where
  drew : g'.drew ≡ g.drew
  length : g'.length ≡ g.length
  decided : (m : ℕ) → g.decided m ≡ true → g'.decided m ≡ true
  runs : (c : ℕ) → g.runs c ≡ true → g'.runs c ≡ true
  class : (c : ℕ) → g.runs c ≡ true → g'.geo.class c ≡ g.geo.class c

still_valid : (g g' : Past) → IsOnward g g' → (c i : ℕ) → valid (ghost_of g) (Small c i) ≡ true
    → valid (ghost_of g') (Small c i) ≡ true
still_valid g g' w c i v = let y = and_parts (g.runs c) (nat_lt i (blocks_of (g.geo.class c))) v in
    stands g' c i (w.runs c y.0)
    (subst (λ n. nat_lt i (blocks_of n) ≡ true) (sym (w.class c y.0)) y.1)

is_run_of : (g : Past) (c i : ℕ) → valid (ghost_of g) (Small c i) ≡ true → g.runs c ≡ true
is_run_of g c i v = (and_parts (g.runs c) (nat_lt i (blocks_of (g.geo.class c))) v).0

-- what is so of the root word, of each lane
abbrev KeepsRoots : Opening → Views → Past → Type 0
KeepsRoots o views g =
    ((k : ℕ) → k < o.lanes → HoldsItsRoots (views k).fixed.shape (views k).claims (views k).log)
    × ((k : ℕ) → k < o.lanes → leaves_root (views k).log ≡ true → SeenKept o g (views k).fixed.shape (views k).claims)

-- a footprint stands with other classes where those of the blocks that it looks at are the same
precedes_with : (cl cl' : ℕ → ℕ) (v : View) (s : State)
    → ((c i : ℕ) → there s (Small c i) ≡ true → cl' c ≡ cl c)
    → ((c i : ℕ) → has_own v (Small c i) ≡ true → cl' c ≡ cl c)
    → MayPrecede cl v s → MayPrecede cl' v s
precedes_with cl cl' v s there_ own p = record {
  found = p.found;
  spans = p.spans;
  whole = p.whole;
  plain = p.plain;
  class = λ c i t. ⊎_elim
      (λ (e : has_found v (Small c i) ≡ true). there_ c i (p.found (Small c i) e))
      (λ (e : has_own v (Small c i) ≡ true). own c i e)
      (or_cases (has_found v (Small c i)) (has_own v (Small c i)) t)
      ∙ p.class c i t;
  known = p.known;
  apart = λ B C line o a c. p.apart B C line o a (back C line c);
  roots = p.roots;
}
  where
    back : (C : Block) (line : ℕ)
        → AllocatedHas v.fixed.shape s (record { first = λ c. c; class = cl' }) C line
        → AllocatedHas v.fixed.shape s (record { first = λ c. c; class = cl }) C line
    back (Small c i) line a = record {
      allocated = a.allocated;
      has = subst (λ n. IsInSmall v.fixed.shape n c i line) (there_ c i a.allocated) a.has;
    }
    back (Big f) line a = record { allocated = a.allocated; has = a.has }
    back Root line a = record { allocated = a.allocated; has = a.has }

-- THEY STAND as the ghosts go on
module _ (o : Opening) (id : ℕ) (views new : Views) (g g' : Past) (w : IsOnward g g')
    (ids : (k : ℕ) → k < o.lanes → (new k).fixed.pool ≡ id) (roots : KeepsRoots o new g') (fp : Footprints o id views g) where
  abbrev With : (ℕ → View) → ℕ → Past
  With drew length = record g' { drew = drew; length = length }

  same_class : (c i : ℕ) → valid (ghost_of g) (Small c i) ≡ true → g'.geo.class c ≡ g.geo.class c
  same_class c i v = w.class c (is_run_of g c i v)

  alike : Footprints o id new (With g.drew g.length)
  alike = record {
    ids = ids;
    drawn_ids = fp.drawn_ids;
    shapes = fp.shapes;
    entries = fp.entries;
    earlier = λ m n l k e. w.decided m (fp.earlier m n l k e);
    small = fp.small;
    opening = λ c i t. fp.opening c i t
        ∙ ap (λ n. 1 + 256 * n) (sym (same_class c i (fp.blocks (λ m. true) 0 c i (omega arith) t)));
    blocks = λ keep n c i l t. still_valid g g' w c i (fp.blocks keep n c i l t);
    own = λ n c i l t. still_valid g g' w c i (fp.own n c i l t);
    precede = λ keep d n l. precedes_with g.geo.class g'.geo.class (g.drew n) (kept_bits o g keep n)
        (λ c i t. same_class c i (fp.blocks keep n c i (omega arith) t))
        (λ c i t. same_class c i (fp.own n c i l t))
        (fp.precede keep (λ m k e. d m k (w.decided m e)) n l);
    holds_roots = roots.0;
    sees_roots = λ k l e keep d. subst (λ n. RootsAreSeen (new k).fixed.shape (new k).claims (kept_bits o (With g.drew g.length) keep n)) w.length
        (subst (λ (dr : ℕ → View). RootsAreSeen (new k).fixed.shape (new k).claims (kept_bits o (With dr g.length) keep g'.length)) w.drew
        (roots.1 k l e keep (λ m i q. d m (subst (λ n. m < n) w.length i) q)));
  }

  go_on : Footprints o id new g'
  go_on = subst (λ z. Footprints o id new (With z g'.length)) (sym w.drew)
      (subst (λ z. Footprints o id new (With g.drew z)) (sym w.length) alike)

-- ---- STEPS OTHER THAN THE DRAW

pub stored_calls : (ph : Phase) (q : Part) (n : ℕ) (g : Past)
    → ((past_stored ph q n g).drew ≡ g.drew) × ((past_stored ph q n g).length ≡ g.length)
    × ((past_stored ph q n g).decided ≡ g.decided)
stored_calls Open GenerationPart n g = (refl, refl, refl)
stored_calls Open SealPart n g = (refl, refl, refl)
stored_calls Open EntryPart n g = (refl, refl, refl)
stored_calls Open SlotPart n g = (refl, refl, refl)
stored_calls Open RootPart n g = (refl, refl, refl)
stored_calls Open (DescriptorPart d) n g = (refl, refl, refl)
stored_calls Open (ChunkPart d i) n g = (refl, refl, refl)
stored_calls Open OtherPart n g = (refl, refl, refl)
stored_calls Idle q n g = (refl, refl, refl)
stored_calls (Drawn m) q n g = (refl, refl, refl)
stored_calls (Sealing m) q n g = (refl, refl, refl)
stored_calls (Applying todo) q n g = (refl, refl, refl)
stored_calls Clearing q n g = (refl, refl, refl)
stored_calls (Retiring m) q n g = (refl, refl, refl)
stored_calls Voiding q n g = (refl, refl, refl)

still_true : (t d : Bool) → d ≡ true → cond t true d ≡ true
still_true true d e = refl
still_true false d e = e

decided_calls : (ph : Phase) (v : View) (g : Past)
    → ((past_decided ph v g).drew ≡ g.drew) × ((past_decided ph v g).length ≡ g.length)
    × ((m : ℕ) → g.decided m ≡ true → (past_decided ph v g).decided m ≡ true)
decided_calls Idle v g = (refl, refl, λ m e. e)
decided_calls Open v g = (refl, refl, λ m e. e)
decided_calls (Drawn n) v g = (refl, refl, λ m e. e)
decided_calls (Sealing n) v g = (refl, refl, λ m e. still_true (m == n) (g.decided m) e)
decided_calls (Applying todo) v g = (refl, refl, λ m e. e)
decided_calls Clearing v g = (refl, refl, λ m e. e)
decided_calls (Retiring n) v g = (refl, refl, λ m e. still_true (m == n) (g.decided m) e)
decided_calls Voiding v g = (refl, refl, λ m e. e)

drained_calls : (g : Past) (v : View) (left : List Undrained)
    → ((past_drained g v left).drew ≡ g.drew) × ((past_drained g v left).length ≡ g.length)
    × ((m : ℕ) → g.decided m ≡ true → (past_drained g v left).decided m ≡ true)
drained_calls g v [] = decided_calls v.log.phase v (past_made g v [])
drained_calls g v (u ∷ left) = (refl, refl, λ m e. e)

-- a lane's constants stay
fixed_stays : (v : View) (s : Step) → (after v s).fixed ≡ v.fixed
fixed_stays v (Load w found) = refl
fixed_stays v (Store w n) = refl
fixed_stays v (Or w bits found) = refl
fixed_stays v (And w bits found) = refl
fixed_stays v (Flush line) = refl
fixed_stays v Drain = refl
fixed_stays v (TakeWrite line won) = refl
fixed_stays v (TakeRead line won) = refl
fixed_stays v (Raise line won) = refl
fixed_stays v (Give line) = refl
fixed_stays v (ZoneTry zone won) = refl
fixed_stays v (ZoneGive zone) = refl
fixed_stays v (Occupied at found) = refl
fixed_stays v (Occupy at bits true) = refl
fixed_stays v (Occupy at bits false) = refl
fixed_stays v (Vacate at bits) = refl
fixed_stays v (Draw n) = refl
fixed_stays v (NumberSeen n) = by_phase v.log.phase
  where
    by_phase : (ph : Phase) → (Rattle.pm_view.specs.Views.begun ph v).fixed ≡ v.fixed
    by_phase Idle = refl
    by_phase Open = refl
    by_phase (Drawn m) = refl
    by_phase (Sealing m) = refl
    by_phase (Applying todo) = refl
    by_phase Clearing = refl
    by_phase (Retiring m) = refl
    by_phase Voiding = refl
fixed_stays v (StopSeen set) = refl
fixed_stays v SetStop = refl
fixed_stays v (Tell operation reply) = refl

-- ---- THE DRAW

module _ (o : Opening) (mem : Memory) (views new : Views) (g : Past) (id k : ℕ) (x : World o mem views g)
    (ink : k < o.lanes) (is_open : (views k).log.phase ≡ Open)
    (ids : (j : ℕ) → j < o.lanes → (new j).fixed.pool ≡ id) (roots : KeepsRoots o new (past_drawn g (views k))) (fp : Footprints o id views g) where
  abbrev v : View
  v = views k

  abbrev g' : Past
  g' = past_drawn g (views k)

  fit : SightFits o.shape (cells_of o.shape mem) (settled_words o g) (Flies (ghost_of g) k) (ghost_of g) k (sight_of (views k))
  fit = x.bits.each_lane k

  new_call : g'.drew g.length ≡ v
  new_call = put1_here g.drew g.length v

  old_call : (m : ℕ) → m < g.length → g'.drew m ≡ g.drew m
  old_call m l = put1_else g.drew g.length v m (λ e. omega arith)

  -- the bits before any number so far are as they were
  same_bits : (keep : ℕ → Bool) (n : ℕ) → n ≤ g.length → kept_bits o g' keep n ≡ kept_bits o g keep n
  same_bits keep n l = λ i p b. at p b i
    where
      at : (p : Place) (b : ℕ) → kept_bits o g' keep n p b ≡ kept_bits o g keep n p b
      at p b = replay_same keep keep (origin o) (ghost_of g).log (ghost_of g').log p b n
          (λ m low. (ap (λ (y : View). diff (call_in y) p b) (old_call m (omega arith)), inl refl))

  same_numbers : (lane n : ℕ) → n ≤ g.length → numbered_by lane g'.drew n ≡ numbered_by lane g.drew n
  same_numbers lane zero l = refl
  same_numbers lane (suc n) l = let t = same_numbers lane n (omega arith) in let q = old_call n (omega arith) in
      λ i. cond ((q i).fixed.lane == lane) (entry_drawn n (q i) ∷ t i) (t i)

  still_decided : (m : ℕ) → m < g.length → g.decided m ≡ true → g'.decided m ≡ true
  still_decided m l e =
      put1_else g.decided g.length (is_idle (phase_drawn g.length v.log.records v.log.entries)) m (λ q. omega arith) ∙ e

  kept_before : (keep : ℕ → Bool) → KeepsDecided g' keep → KeepsDecided g keep
  kept_before keep d m l e = d m (omega arith) (still_decided m l e)

  -- a number is an old one, or the new
  by_number : (P : ℕ → Type 0) → ((n : ℕ) → n < g.length → P n) → P g.length → (n : ℕ) → n < g'.length → P n
  by_number P old now n l = ⊎_elim (λ (e : n ≡ g.length). subst P (sym e) now)
      (λ (ne : n ≢ g.length). old n (omega arith)) (cases_eq n g.length)

  -- the lane's earlier calls are decided
  decided_before : (m : ℕ) → m < g.length → (g.drew m).fixed.lane ≡ k → g.decided m ≡ true
  decided_before m l e = ⊎_elim (λ (t : g.decided m ≡ true). t)
      (λ (t : g.decided m ≡ false). absurd (subst (λ ph. flies_at ph m) is_open
      (subst (λ i. flies_at (sight_of (views i)).phase m) e (x.bits.flying m l t))))
      (cases_Bool (g.decided m))

  -- a block that the call allocates is of a run that stands
  allocates : (c i : ℕ) → latest (redos v.log.entries) (InRun c 0) i ≡ Some true → valid (ghost_of g) (Small c i) ≡ true
  allocates c i e = let l = (sight_of (views k)).hold.locked (header o.shape g.geo (Small c i)) in
      let h = (sight_of (views k)).hold in
      (fit.hold.mine (Small c i) (subst (λ a. TurnFits Open l (h.mine (Small c i)) (h.here (Small c i)) a) e
      (subst (λ ph. TurnFits ph l (h.mine (Small c i)) (h.here (Small c i)) (latest (redos v.log.entries) (InRun c 0) i)) is_open
      (fit.turns (Small c i))))).1

  new_blocks : (keep : ℕ → Bool) (c i : ℕ) → there (kept_bits o g' keep (suc g.length)) (Small c i) ≡ true
      → valid (ghost_of g) (Small c i) ≡ true
  new_blocks keep c i t = by_keep (keep g.length) t
    where
      before : there (kept_bits o g' keep g.length) (Small c i) ≡ true → valid (ghost_of g) (Small c i) ≡ true
      before t = fp.blocks keep g.length c i (omega arith)
          (subst (λ s. there s (Small c i) ≡ true) (same_bits keep g.length (omega arith)) t)

      by_entry : (a : Option Bool) → latest (redos v.log.entries) (InRun c 0) i ≡ a
          → over (first_of_two a None) (kept_bits o g' keep g.length (InRun c 0) i) ≡ true → valid (ghost_of g) (Small c i) ≡ true
      by_entry None e t = before t
      by_entry (Some true) e t = allocates c i e
      by_entry (Some false) e t = absurd (both_ways false refl t)

      made : over (diff (call_in (g'.drew g.length)) (InRun c 0) i) (kept_bits o g' keep g.length (InRun c 0) i) ≡ true
          → valid (ghost_of g) (Small c i) ≡ true
      made t = by_entry (latest (redos v.log.entries) (InRun c 0) i) refl
          (subst (λ (y : View). over (diff (call_in y) (InRun c 0) i) (kept_bits o g' keep g.length (InRun c 0) i) ≡ true) new_call t)

      by_keep : (q : Bool) → cond q (over (diff (call_in (g'.drew g.length)) (InRun c 0) i) (kept_bits o g' keep g.length (InRun c 0) i))
          (kept_bits o g' keep g.length (InRun c 0) i) ≡ true → valid (ghost_of g) (Small c i) ≡ true
      by_keep true t = made t
      by_keep false t = before t

  -- what is said of one call, by its view
  abbrev OfView : (View → Type 0) → ℕ → Type 0
  OfView P n = P (g'.drew n)

  of_views : (P : View → Type 0) → ((n : ℕ) → n < g.length → P (g.drew n)) → P v → (n : ℕ) → n < g'.length → P (g'.drew n)
  of_views P old now = by_number (λ n. P (g'.drew n)) (λ n l. subst P (sym (old_call n l)) (old n l)) (subst P (sym new_call) now)

  lane_is : v.fixed.lane ≡ k
  lane_is = (x.each_lane k ink).lane

  pub drawn : (v.fixed.pool ≡ id) → Footprints o id new g'
  drawn own_id = record {
    ids = ids;
    drawn_ids = of_views (λ (y : View). y.fixed.pool ≡ id) fp.drawn_ids own_id;
    shapes = of_views (λ (y : View). y.fixed.shape ≡ o.shape) fp.shapes (x.each_lane k ink).shape;
    entries = by_number (λ n. (g'.drew n).entries ≡ numbered_by (g'.drew n).fixed.lane g'.drew n)
        (λ n l. subst (λ (y : View). y.entries ≡ numbered_by y.fixed.lane g'.drew n) (sym (old_call n l))
        (fp.entries n l ∙ sym (same_numbers (g.drew n).fixed.lane n (omega arith))))
        (subst (λ (y : View). y.entries ≡ numbered_by y.fixed.lane g'.drew g.length) (sym new_call)
        ((x.each_lane k ink).entries ∙ (ap (λ j. numbered_by j g.drew g.length) (sym lane_is)
        ∙ sym (same_numbers v.fixed.lane g.length (omega arith)))));
    earlier = λ m n low l e. by_number (λ n. m < n → (g'.drew m).fixed.lane ≡ (g'.drew n).fixed.lane → g'.decided m ≡ true)
        (λ n l low e. still_decided m (omega arith) (fp.earlier m n low l
        (sym (ap (λ (y : View). y.fixed.lane) (old_call m (omega arith))) ∙ (e ∙ ap (λ (y : View). y.fixed.lane) (old_call n l)))))
        (λ low e. still_decided m low (decided_before m low
        (sym (ap (λ (y : View). y.fixed.lane) (old_call m low)) ∙ (e ∙ (ap (λ (y : View). y.fixed.lane) new_call ∙ lane_is)))))
        n l low e;
    small = fp.small;
    opening = fp.opening;
    blocks = λ keep n c i l. ⊎_elim
        (λ (e : n ≡ suc g.length). λ t. new_blocks keep c i (subst (λ z. there (kept_bits o g' keep z) (Small c i) ≡ true) e t))
        (λ (ne : n ≢ suc g.length). λ t. fp.blocks keep n c i (omega arith)
        (subst (λ s. there s (Small c i) ≡ true) (same_bits keep n (omega arith)) t))
        (cases_eq n (suc g.length));
    own = λ n c i l. of_views (λ (y : View). has_own y (Small c i) ≡ true → valid (ghost_of g) (Small c i) ≡ true)
        (λ n l t. fp.own n c i l t) (λ t. (fit.hold.mine (Small c i) t).1) n l;
    precede = λ keep d. by_number (λ n. MayPrecede g.geo.class (g'.drew n) (kept_bits o g' keep n))
        (λ n l. subst (λ (y : View). MayPrecede g.geo.class y (kept_bits o g' keep n)) (sym (old_call n l))
        (subst (λ s. MayPrecede g.geo.class (g.drew n) s) (sym (same_bits keep n (omega arith)))
        (fp.precede keep (kept_before keep d) n l)))
        (subst (λ (y : View). MayPrecede g.geo.class y (kept_bits o g' keep g.length)) (sym new_call)
        (subst (λ s. MayPrecede g.geo.class v s) (sym (same_bits keep g.length (omega arith)))
        (precedes o mem views g x k ink is_open keep (kept_before keep d)
        (fp.sees_roots k ink (ap (λ ph. is_early ph || not (sets_root (redos v.log.entries))) is_open) keep (kept_before keep d)))));
    holds_roots = roots.0;
    sees_roots = roots.1;
  }

-- ---- EVERY KIND OF STEP

new_ids : (o : Opening) (views new : Views) (g : Past) (id k : ℕ) (s : Step) → Turn views new k (after (views k) s)
    → Footprints o id views g → (j : ℕ) → j < o.lanes → (new j).fixed.pool ≡ id
new_ids o views new g id k s t fp j l = ⊎_elim
    (λ (e : j ≡ k). ap (λ i. (new i).fixed.pool) e ∙ (ap (λ (v : View). v.fixed.pool) t.here
    ∙ (ap (λ (f : Constants). f.pool) (fixed_stays (views k) s) ∙ fp.ids k (subst (λ i. i < o.lanes) e l))))
    (λ (ne : j ≢ k). ap (λ (v : View). v.fixed.pool) (t.else_ j ne) ∙ fp.ids j l)
    (cases_eq j k)

-- no number is drawn
abbrev CallsStay : Past → Past → Type 0
CallsStay g g' = (g'.drew ≡ g.drew) × (g'.length ≡ g.length) × ((m : ℕ) → g.decided m ≡ true → g'.decided m ≡ true)

onward : (s : Step) (o : Opening) (old mem : Memory) (views new : Views) (g : Past) (id k : ℕ)
    → World o old views g → k < o.lanes → IsLawful (views k) s → Turn views new k (after (views k) s)
    → CallsStay g (past_after g (views k) s) → KeepsRoots o new (past_after g (views k) s)
    → Footprints o id views g → Footprints o id new (past_after g (views k) s)
onward s o old mem views new g id k x ink law t calls roots fp = go_on o id views new g (past_after g (views k) s)
    (record {
      drew = calls.0;
      length = calls.1;
      decided = calls.2;
      runs = runs_stay g (views k) s;
      class = classes_stay o old views g x k s law;
    })
    (new_ids o views new g id k s t fp) roots fp

-- a step that is neither a load nor the draw
others : (s : Step) → is_other s ≡ true → ((g : Past) (v : View) → CallsStay g (past_after g v s)) → KeepsFootprints s
others s u stay o old mem views new g id k x ink law m t fp =
    let calls = stay g (views k) in
    onward s o old mem views new g id k x ink law t calls (
      other_holds o old mem views new g k x ink fp.holds_roots fp.sees_roots s law t u (past_after g (views k) s) calls.0 calls.1 calls.2,
      other_sees o old mem views new g k x ink fp.holds_roots fp.sees_roots s law t u (past_after g (views k) s) calls.0 calls.1 calls.2,
    ) fp

pub goes_on : (s : Step) → KeepsFootprints s
goes_on (Load w found) = λ o old mem views new g id k x ink law m t fp.
    onward (Load w found) o old mem views new g id k x ink law t (refl, refl, λ m e. e) (
      load_holds o old mem views new g k x ink fp.holds_roots fp.sees_roots w found law m t,
      load_sees_roots o old mem views new g k x ink fp.holds_roots fp.sees_roots w found law m t,
    ) fp
goes_on (Draw n) = λ o old mem views new g id k x ink law m t fp.
    drawn o old views new g id k x ink law.allowed.is_open (new_ids o views new g id k (Draw n) t fp) (
      draw_holds o old mem views new g k x ink fp.holds_roots fp.sees_roots n law m t,
      draw_sees o old mem views new g k x ink fp.holds_roots fp.sees_roots n law m t,
    ) fp (fp.ids k ink)
goes_on (Store w n) = others (Store w n) refl (λ g v. let c = stored_calls v.log.phase (part_in v w) n g in (c.0, c.1, λ m e. ap (λ z. z m) c.2 ∙ e))
goes_on Drain = others Drain refl (λ g v. drained_calls g v (drained v.changes))
goes_on (Occupy at bits true) = others (Occupy at bits true) refl (λ g v. (refl, refl, λ m e. e))
goes_on (Occupy at bits false) = others (Occupy at bits false) refl (λ g v. (refl, refl, λ m e. e))
goes_on (Vacate at bits) = others (Vacate at bits) refl (λ g v. (refl, refl, λ m e. e))
goes_on (Or w bits found) = others (Or w bits found) refl (λ g v. (refl, refl, λ m e. e))
goes_on (And w bits found) = others (And w bits found) refl (λ g v. (refl, refl, λ m e. e))
goes_on (Flush line) = others (Flush line) refl (λ g v. (refl, refl, λ m e. e))
goes_on (TakeWrite line won) = others (TakeWrite line won) refl (λ g v. (refl, refl, λ m e. e))
goes_on (TakeRead line won) = others (TakeRead line won) refl (λ g v. (refl, refl, λ m e. e))
goes_on (Raise line won) = others (Raise line won) refl (λ g v. (refl, refl, λ m e. e))
goes_on (Give line) = others (Give line) refl (λ g v. (refl, refl, λ m e. e))
goes_on (ZoneTry zone won) = others (ZoneTry zone won) refl (λ g v. (refl, refl, λ m e. e))
goes_on (ZoneGive zone) = others (ZoneGive zone) refl (λ g v. (refl, refl, λ m e. e))
goes_on (Occupied at found) = others (Occupied at found) refl (λ g v. (refl, refl, λ m e. e))
goes_on (NumberSeen n) = others (NumberSeen n) refl (λ g v. (refl, refl, λ m e. e))
goes_on (StopSeen set) = others (StopSeen set) refl (λ g v. (refl, refl, λ m e. e))
goes_on SetStop = others SetStop refl (λ g v. (refl, refl, λ m e. e))
goes_on (Tell operation reply) = others (Tell operation reply) refl (λ g v. (refl, refl, λ m e. e))

-- ---- AS A WORLD OPENS

pub begins : FootprintsBegin
begins o mem views g id x none same ids idle = record {
  ids = ids;
  drawn_ids = λ n l. absurd (omega arith);
  shapes = λ n l. absurd (omega arith);
  entries = λ n l. absurd (omega arith);
  earlier = λ m n low l. absurd (omega arith);
  small = λ w. subst (λ n. n < 2 ^ 64) (same w) (x.small w);
  opening = opening;
  blocks = λ keep n c i l t. let e : n ≡ 0 = omega arith in
      settled_valid c i (subst (λ z. there (kept_bits o g keep z) (Small c i) ≡ true) e t);
  own = λ n c i l. absurd (omega arith);
  precede = λ keep d n l. absurd (omega arith);
  holds_roots = λ k l. bare (views k).fixed.shape (views k).claims (views k).log (no_entries (views k).log.entries (idle k l).1);
  sees_roots = λ k l e keep d. record {
    same = λ line y s. absurd (both_ways false refl (sym (ap (λ t. saw_root (views k).fixed.shape t line y) (idle k l).0) ∙ s));
    other = λ line y s. absurd (both_ways false refl (sym (ap (λ t. saw_root (views k).fixed.shape t line y) (idle k l).0) ∙ s));
  };
}
  where
    settled_valid : (c i : ℕ) → there (origin o) (Small c i) ≡ true → valid (ghost_of g) (Small c i) ≡ true
    settled_valid c i t = x.bits.geo.within c i
        (subst (λ z. replay g.decided (origin o) (ghost_of g).log z (InRun c 0) i ≡ true) (sym none) t)

    told_so : (t : Bool) (y n : ℕ) → cond t y 0 ≡ n → 1 ≤ n → (t ≡ true) × (y ≡ n)
    told_so true y n e some = (refl, e)
    told_so false y n e some = absurd (omega arith)

    opening : (c i : ℕ) → there (origin o) (Small c i) ≡ true
        → slice_index o.words (word_of_descriptor o.shape c) ≡ 1 + 256 * g.geo.class c
    opening c i t =
        let w = word_of_descriptor o.shape c in
        let r = is_run_of g c i (settled_valid c i t) in
        let some = (x.bits.geo.classes c r).0 in
        let descr : (cells_of o.shape mem).descr c ≡ g.geo.class c = x.bits.descr c
        (λ k. false_from_ne_true ((sight_of (views k)).hold.making c) (λ m. both_ways (g.runs c)
        (maker_no_run o.shape (cells_of o.shape mem) (settled_words o g) (Flies (ghost_of g) k) (ghost_of g) x.bits.geo k (sight_of (views k)) (x.bits.each_lane k) c m) r))
        ∙ cond-true (g.runs c) (g.geo.class c) 0 r in
        let p = told_so (is_place o.shape (Descr c)) (run_told (mem (PoolWord w))) (g.geo.class c) descr some in
        let q = told_so (is_run (mem (PoolWord w))) (mem (PoolWord w) / 256) (g.geo.class c) p.1 some in
        let low = eqb-true (mem (PoolWord w) % 256) 1 q.0 in
        let high = q.1 in
        sym (same w) ∙ omega arith

-- ---- RUNS OF STEPS

pub runs : RunsKeepFootprints
unfolding IsRun
runs o id [] old new x r fp = subst (λ (m : Moment). Footprints o id m.views m.past) (sym r) fp
runs o id (t ∷ rest) old new x r fp =
    let next = r.0 in
    let led : Leads o old t next = r.1 in
    let w = subst (λ p. World o next.mem next.views p) (sym led.past)
    (every_step t.step o old.mem next.mem old.views next.views old.past t.lane x led.runs led.lawful led.moves led.view).0 in
    let f = subst (λ p. Footprints o id next.views p) (sym led.past)
    (goes_on t.step o old.mem next.mem old.views next.views old.past id t.lane x led.runs led.lawful led.moves led.view fp) in
    runs o id rest next new w r.2 f
