-- NO LANE IS EVER TOLD OF A RUN OF BLOCKS WITHOUT LINES: no chunk's descriptor has one as lanes begin,
-- and no lane stores one.
use Rattle.std.proofs.Common.{◌≡◌, ◌≢◌, ◌⊎◌, ℕ, zero, suc, ◌/◌, ◌%◌, ◌<◌, ◌==◌, ◌||◌, ⊎_elim, Bool, true, false, Contains, List, []}
use Rattle.std.proofs.Common.{◌∷◌, inl, inr, refl, sym, ap, ◌∙◌, subst, arith, eq-eqb, ne_eqb}
use Rattle.std.proofs.lemmas.Bool.{both_ways, cases_eq}
use Rattle.pm_layout.specs.Chunks.{chunks_of, word_of_descriptor}
use Rattle.pm_view.specs.Changes.{Undrained, drained}
use Rattle.pm_view.specs.Claims.{Claim, Drained, Knows, SawDescriptor}
use Rattle.pm_view.specs.Entries.{Entry}
use Rattle.pm_view.specs.Log.{Phase, Idle, Open, Drawn, Sealing, Applying, Clearing, Retiring}
use Rattle.pm_view.specs.Log.{Voiding, Log}
use Rattle.pm_view.specs.Parts.{Part, ChunkPart, DescriptorPart, part_of}
use Rattle.pm_view.specs.Steps.{Step}
use Rattle.pm_view.specs.Steps.Step.{Load, Store, Or, And, Flush, Drain, TakeWrite, TakeRead}
use Rattle.pm_view.specs.Steps.Step.{Raise, Give, ZoneTry, ZoneGive, Occupied, Occupy, Vacate}
use Rattle.pm_view.specs.Steps.Step.{Draw, NumberSeen, StopSeen, SetStop, Tell}
use Rattle.pm_view.specs.View.{View}
use Rattle.pm_view.specs.Views.{after, begun, claims_drained, decided_by, learned, marked_by}
use Rattle.pm_view.specs.Views.{occupied, part_in, seen_by, with_won}
use Rattle.pm_view.specs.declared.occ.Occ.{Occ}
use Rattle.pm_world.specs.Course.{past_after}
use Rattle.pm_world.specs.Memory.{PoolWord}
use Rattle.pm_world.specs.Moves.{Moves}
use Rattle.pm_world.specs.Opens.{descriptor}
use Rattle.pm_world.specs.Runs.{IsRun, IsWorld, LaneStep, Leads, Moment}
use Rattle.pm_world.specs.World.{Opening, Past, Views}
use Rattle.pm_world.proofs.Histories.{Grows, drain_grows, stored_grows}
use Rattle.pm_world.proofs.OpenFaults.{in_table}
use Rattle.pm_world.proofs.OpenWords.{IsHugeIn, IsRunIn}
use Rattle.pm_world.proofs.Replays.{put1_else, put1_here}
use Rattle.pm_world.proofs.RunsKept.{next_world}
use Rattle.pm_world.proofs.StepMark.{descriptor_at, some_class}
use Rattle.pm_shared.proofs.Sound.{part_here, sound_kept}
use Rattle.pm_shared.specs.Closings.{Closes}
use Rattle.pm_shared.specs.Openings.{idle_view, opening_of}
use Rattle.pm_shared.specs.Rule.{DescriptorsFit, Sound}
use Rattle.pm_shared.specs.TableRun.{Begins}
use Rattle.pm_shared.specs.declared.rule.Beginning.{Beginning}

-- ---- WHAT A LANE WAS TOLD

-- some chunk's descriptor is that of a run of blocks without lines
abbrev pub tells_bare : List Claim → Bool
tells_bare [] = false
tells_bare (SawDescriptor c x ∷ t) = (x == 1) || tells_bare t
tells_bare (e ∷ t) = tells_bare t

neither : (a b : Bool) → a ≡ false → b ≡ false → (a || b) ≡ false
neither true b x y = x
neither false b x y = y

parts : (a b : Bool) → (a || b) ≡ false → (a ≡ false) × (b ≡ false)
parts true b x = absurd (both_ways true x refl)
parts false b x = (refl, x)

skip : (e : Claim) (t : List Claim) → tells_bare (e ∷ t) ≡ false → tells_bare t ≡ false
skip (SawDescriptor c x) t none = (parts (x == 1) (tells_bare t) none).1
skip e t none = none

-- so none of its claims tells it
pub not_told : (claims : List Claim) → tells_bare claims ≡ false → (c x : ℕ)
    → Contains claims (SawDescriptor c x) → x ≢ 1
not_told [] none c x (i, low, is) = absurd (omega (arith, low))
not_told (e ∷ t) none c x (zero, low, is) = λ one. both_ways (x == 1)
    (parts (x == 1) (tells_bare t) (subst (λ (d : Claim). tells_bare (d ∷ t) ≡ false) is none)).0
    (eq-eqb x 1 one)
not_told (e ∷ t) none c x (suc i, low, is) =
    not_told t (skip e t none) c x (i, omega (arith, low), is)

-- ---- A STEP TELLS NONE, where no load finds one

seen_bare : (part : Part) (x : ℕ) (claims : List Claim)
    → ((c : ℕ) → part ≡ DescriptorPart c → x ≢ 1) → tells_bare claims ≡ false
    → tells_bare (seen_by part x claims) ≡ false
seen_bare (DescriptorPart c) x claims not none =
    neither (x == 1) (tells_bare claims) (ne_eqb x 1 (not c refl)) none
seen_bare (ChunkPart c zero) x claims not none = none
seen_bare (ChunkPart c (suc i)) x claims not none = none
seen_bare part x claims not none = none

learned_bare : (phase : Phase) (part : Part) (w x : ℕ) (claims : List Claim)
    → ((c : ℕ) → part ≡ DescriptorPart c → x ≢ 1) → tells_bare claims ≡ false
    → tells_bare (learned phase part w x claims) ≡ false
learned_bare Idle part w x claims not none = seen_bare part x claims not none
learned_bare Open part w x claims not none = seen_bare part x claims not none
learned_bare phase part w x claims not none = none

marked_bare : (phase : Phase) (part : Part) (x : ℕ) (claims : List Claim)
    → tells_bare claims ≡ false → tells_bare (marked_by phase part x claims) ≡ false
marked_bare Idle (DescriptorPart c) x claims none = none
marked_bare Open (DescriptorPart c) x claims none = none
marked_bare phase part x claims none = none

decided_bare : (phase : Phase) (entries : List Entry) (claims : List Claim)
    → tells_bare claims ≡ false → tells_bare (decided_by phase entries claims) ≡ false
decided_bare (Sealing n) entries claims none = none
decided_bare phase entries claims none = none

drained_bare : (left : List Undrained) (log : Log) (claims : List Claim)
    → tells_bare claims ≡ false → tells_bare (claims_drained left log claims) ≡ false
drained_bare [] log claims none = decided_bare log.phase log.entries claims none
drained_bare (c ∷ left) log claims none = none

won_bare : (won : Bool) (line : ℕ) (write : Bool) (claims : List Claim)
    → tells_bare claims ≡ false
    → tells_bare (with_won won (Rattle.pm_view.specs.Claims.Took line write) claims) ≡ false
won_bare true line write claims none = none
won_bare false line write claims none = none

raised_bare : (won : Bool) (line : ℕ) (claims : List Claim) → tells_bare claims ≡ false
    → tells_bare (with_won won (Rattle.pm_view.specs.Claims.Raised line) claims) ≡ false
raised_bare true line claims none = none
raised_bare false line claims none = none

occupied_bare : (won : Bool) (v : View) (at : Occ) (bits : ℕ) → tells_bare v.claims ≡ false
    → tells_bare (occupied won v at bits).claims ≡ false
occupied_bare true v at bits none = none
occupied_bare false v at bits none = none

begun_bare : (phase : Phase) (v : View) → tells_bare v.claims ≡ false
    → tells_bare (begun phase v).claims ≡ false
begun_bare Idle v none = none
begun_bare phase v none = none

abbrev FindsNone : View → Step → Type 0
FindsNone v s =
    (w x c : ℕ) → s ≡ Load w x → part_in v w ≡ DescriptorPart c → x ≢ 1

step_bare : (v : View) (s : Step) → FindsNone v s → tells_bare v.claims ≡ false
    → tells_bare (after v s).claims ≡ false
step_bare v (Load w x) not none = learned_bare v.log.phase (part_in v w) w x v.claims
    (λ c part. not w x c refl part) none
step_bare v (Store w x) not none = marked_bare v.log.phase (part_in v w) x v.claims none
step_bare v Drain not none = drained_bare (drained v.changes) v.log
    (Drained (drained v.changes) ∷ v.claims) none
step_bare v (TakeWrite line won) not none = won_bare won line true v.claims none
step_bare v (TakeRead line won) not none = won_bare won line false v.claims none
step_bare v (Raise line won) not none = raised_bare won line v.claims none
step_bare v (Occupy at bits won) not none = occupied_bare won v at bits none
step_bare v (NumberSeen n) not none = begun_bare v.log.phase v none
step_bare v s not none = none

-- ---- THE HISTORY after a step: its calls are those before it, and the view that takes a number

grown_so : (g next : Past) (P : View → Type 0) → Grows g next
    → ((n : ℕ) → n < g.length → P (g.drew n)) → (n : ℕ) → n < next.length → P (next.drew n)
grown_so g next P grows each n low =
    subst (λ (drew : ℕ → View). P (drew n)) (sym grows.drew)
    (each n (subst (λ m. n < m) grows.length low))

drawn_so : (g : Past) (v : View) (s : Step) (P : View → Type 0) → P v
    → ((n : ℕ) → n < g.length → P (g.drew n))
    → (n : ℕ) → n < (past_after g v s).length → P ((past_after g v s).drew n)
drawn_so g v (Store w x) P here each =
    grown_so g (past_after g v (Store w x)) P (stored_grows v.log.phase (part_in v w) x g) each
drawn_so g v Drain P here each =
    grown_so g (past_after g v Drain) P (drain_grows g v (drained v.changes)) each
drawn_so g v (Occupy at bits true) P here each = each
drawn_so g v (Occupy at bits false) P here each = each
drawn_so g v (Draw m) P here each = λ n low. ⊎_elim
    (λ (e : n ≡ g.length). subst (λ i. P ((past_after g v (Draw m)).drew i)) (sym e)
    (subst P (sym (put1_here g.drew g.length v)) here))
    (λ (ne : n ≢ g.length). subst P (sym (put1_else g.drew g.length v n ne))
    (each n (let l : n < suc g.length = low in omega (arith, l, ne))))
    (cases_eq n g.length)
drawn_so g v s P here each = each

-- ---- ALONG A RUN

record TellNone (o : Opening) (m : Moment) : Type 0 where
  sound : Sound o m.mem m.views
  each : (k : ℕ) → k < o.lanes → tells_bare (m.views k).claims ≡ false
  drew : (n : ℕ) → n < m.past.length → tells_bare (m.past.drew n).claims ≡ false

module _ (o : Opening) (old next : Moment) (t : LaneStep) (led : Leads o old t next)
    (x : IsWorld o old) (known : TellNone o old) where
  abbrev v : View
  v = old.views t.lane

  finds_none : FindsNone (old.views t.lane) t.step
  finds_none w found c is part one =
      let moved : Moves t.lane (Load w found) old.mem next.mem =
      subst (λ (s : Step). Moves t.lane s old.mem next.mem) is led.moves in
      let at = descriptor_at o.shape t.lane w c
      (part_here o old.mem old.views old.past x t.lane led.runs w (DescriptorPart c) part) in
      known.sound.descriptors c at.1
      (sym (ap (λ u. old.mem (PoolWord u)) at.0) ∙ (sym moved.1 ∙ one))

  told_none : tells_bare (after v t.step).claims ≡ false
  told_none = step_bare v t.step finds_none (known.each t.lane led.runs)

  tells_on : TellNone o next
  tells_on = record {
    sound = sound_kept o old.mem old.views old.past x t.lane led.runs next.mem next.views t.step
        known.sound led.lawful led.moves led.view;
    each = λ k low. ⊎_elim
        (λ (e : k ≡ t.lane). subst (λ i. tells_bare (next.views i).claims ≡ false) (sym e)
        (subst (λ (u : View). tells_bare u.claims ≡ false) (sym led.view.here) told_none))
        (λ (ne : k ≢ t.lane). subst (λ (u : View). tells_bare u.claims ≡ false)
        (sym (led.view.else_ k ne)) (known.each k low))
        (cases_eq k t.lane);
    drew = subst
        (λ (g : Past). (n : ℕ) → n < g.length → tells_bare (g.drew n).claims ≡ false)
        (sym led.past)
        (drawn_so old.past v t.step (λ u. tells_bare u.claims ≡ false)
        (known.each t.lane led.runs) known.drew);
  }

along : (o : Opening) (turns : List LaneStep) (old new : Moment) → IsWorld o old
    → IsRun o old turns new → TellNone o old → TellNone o new
unfolding IsRun
along o [] old new x r known = subst (TellNone o) (sym r) known
along o (t ∷ rest) old new x r known =
    along o rest r.0 new (next_world o t old r.0 x r.1) r.2 (tells_on o old r.0 t r.1 x known)

-- ---- AS LANES BEGIN

module _ (b : Beginning) (m : Moment) (begins : Begins (opening_of b) (idle_view b) m) where
  described : DescriptorsFit (opening_of b).shape m.mem
  described c inside one =
      let e : descriptor (opening_of b) c ≡ 1 =
      sym (begins.words_are (word_of_descriptor b.shape c)) ∙ one in
      ⊎_elim
      (λ (z : descriptor (opening_of b) c ≡ 0). absurd (omega (arith, e, z)))
      (λ (t : IsRunIn (opening_of b) c ⊎ IsHugeIn (opening_of b) c). ⊎_elim
      (λ (y : IsRunIn (opening_of b) c).
      let l = some_class (descriptor (opening_of b) c / 256) y.1 in
      let q : descriptor (opening_of b) c / 256 ≡ 0 = ap (λ n. n / 256) e in
      absurd (omega (arith, l, q)))
      (λ (y : IsHugeIn (opening_of b) c). let z = y.0 in
      let q : descriptor (opening_of b) c % 256 ≡ 1 = ap (λ n. n % 256) e in
      absurd (omega (arith, z, q))) t)
      (in_table (opening_of b) begins.whole c inside)

  begin_none : TellNone (opening_of b) m
  begin_none = record {
    sound = record {
      descriptors = described;
      sets = λ k i e p at. absurd
          (let none : Rattle.std.specs.Prelude.slice_get [] i ≡ Rattle.std.specs.Prelude.Some e =
          subst (λ (vs : Views). Rattle.std.specs.Prelude.slice_get (vs k).log.entries i
          ≡ Rattle.std.specs.Prelude.Some e) begins.views_are at in cc);
    };
    each = λ k low. ap (λ (vs : Views). tells_bare (vs k).claims) begins.views_are;
    drew = λ n low. absurd (let none = begins.no_call in omega (arith, none, low));
  }

-- ---- OF A TABLE THAT CLOSED
pub calls_tell_none : (b : Beginning) (back : List View) (words : List ℕ)
    → (closed : Closes b back words) → (n : ℕ) → n < closed.last.past.length
    → (c x : ℕ) → Contains (closed.last.past.drew n).claims (SawDescriptor c x) → x ≢ 1
calls_tell_none b back words closed n low =
    not_told (closed.last.past.drew n).claims
    ((along (opening_of b) closed.run.turns closed.run.begun closed.last closed.run.begins.world
    closed.run.run (begin_none b closed.run.begun closed.run.begins)).drew n low)
