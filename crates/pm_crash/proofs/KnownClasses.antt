-- THE CLASSES OF RUNS THAT A LANE KNOWS it knows on: a descriptor that it loads says what it knows, and
-- it makes no run of a chunk whose class it knows.
use Rattle.std.proofs.Common.{◌≡◌, ◌≢◌, ⊎_elim, ℕ, zero, suc, ◌/◌, ◌<◌, ◌==◌, ◌&&◌, Bool, true, false, cond, Contains, List, [], ◌∷◌, refl, sym, ap, ◌∙◌, subst}
use Rattle.std.proofs.lemmas.Bool.{and_parts, cases_eq, cond-false, cond-true, eqb-true, false_from_ne_true, lt-ltb}
use Rattle.pm_layout.specs.Chunks.{chunks_of, word_of_descriptor}
use Rattle.pm_image.proofs.Members.{member_cases, no_member}
use Rattle.pm_view.specs.Changes.{Undrained, drained}
use Rattle.pm_view.specs.Claims.{Claim, Drained, class, is_run}
use Rattle.pm_view.specs.Entries.{Entry}
use Rattle.pm_view.specs.Log.{Log, Phase, Idle, Open, Drawn, Sealing, Applying, Clearing, Retiring, Voiding}
use Rattle.pm_view.specs.Parts.{Part, GenerationPart, SealPart, EntryPart, SlotPart, RootPart, DescriptorPart, ChunkPart, OtherPart}
use Rattle.pm_view.specs.Places.{Descr, is_place}
use Rattle.pm_view.specs.Steps.{Step}
use Rattle.pm_view.specs.Steps.Step.{Load, Store, Or, And, Flush, Drain, TakeWrite, TakeRead, Raise, Give, ZoneTry, ZoneGive, Occupied, Occupy, Vacate, Draw, NumberSeen, StopSeen, SetStop, Tell}
use Rattle.pm_view.specs.View.{Numbered, View, entry_drawn}
use Rattle.pm_view.specs.Views.{after, begun, claims_drained, decided_by, learned, marked_by, part_in, seen_by}
use Rattle.pm_world.specs.Lawful.{IsLawful, StoreFits}
use Rattle.pm_world.specs.Memory.{Memory, PoolWord, cells_of, run_told}
use Rattle.pm_world.specs.Moves.{Moves}
use Rattle.pm_world.specs.Runs.{IsRun, Leads, LaneStep, Moment}
use Rattle.pm_world.specs.World.{Opening, Views, Past, World}
use Rattle.pm_world.proofs.EveryStep.{every_step}
use Rattle.pm_world.proofs.StepMark.{descriptor_at}
use Rattle.pm_crash.specs.Missed.{ClassesStayKnown, RunsKeepClassesKnown}

-- a class that is known among the claims is known so among the others
abbrev Keeps : List Claim → List Claim → Type 0
Keeps t u = (c : ℕ) → class t c ≢ 0 → class u c ≡ class t c

decides : (ph : Phase) (es : List Entry) (t : List Claim) (c : ℕ) → class (decided_by ph es t) c ≡ class t c
decides Idle es t c = refl
decides Open es t c = refl
decides (Drawn n) es t c = refl
decides (Sealing n) es t c = refl
decides (Applying todo) es t c = refl
decides Clearing es t c = refl
decides (Retiring n) es t c = refl
decides Voiding es t c = refl

drains : (left : List Undrained) (log : Log) (t : List Claim) (c : ℕ) → class (claims_drained left log (Drained left ∷ t)) c ≡ class t c
drains [] log t c = decides log.phase log.entries (Drained [] ∷ t) c
drains (u ∷ left) log t c = refl

begins : (ph : Phase) (v : View) → ((begun ph v).claims ≡ v.claims) × ((begun ph v).entries ≡ v.entries)
begins Idle v = (refl, refl)
begins Open v = (refl, refl)
begins (Drawn n) v = (refl, refl)
begins (Sealing n) v = (refl, refl)
begins (Applying todo) v = (refl, refl)
begins Clearing v = (refl, refl)
begins (Retiring n) v = (refl, refl)
begins Voiding v = (refl, refl)

-- ---- LOADS AND STORES

module _ (o : Opening) (mem : Memory) (views : Views) (g : Past) (k : ℕ) (x : World o mem views g) (ink : k < o.lanes) where
  abbrev v : View
  v = views k

  -- a descriptor of a run says the class that is known of its chunk
  says : (c w found : ℕ) → part_in (views k) w ≡ DescriptorPart c → found ≡ mem (PoolWord w) → is_run found ≡ true
      → class (views k).claims c ≢ 0 → found / 256 ≡ class (views k).claims c
  says c w found part is run some = by (class (views k).claims c) refl some
    where
      at : (w ≡ word_of_descriptor o.shape c) × (c < chunks_of o.shape)
      at = subst (λ sh. (w ≡ word_of_descriptor sh c) × (c < chunks_of sh)) (x.each_lane k ink).shape
          (descriptor_at (views k).fixed.shape (views k).fixed.lane w c part)

      word : found ≡ mem (PoolWord (word_of_descriptor o.shape c))
      word = is ∙ ap (λ u. mem (PoolWord u)) at.0

      told : (cells_of o.shape mem).descr c ≡ found / 256
      told = cond-true (is_place o.shape (Descr c)) (run_told (mem (PoolWord (word_of_descriptor o.shape c)))) 0 (lt-ltb c (chunks_of o.shape) at.1)
          ∙ (ap run_told (sym word) ∙ cond-true (is_run found) (found / 256) 0 run)

      by : (n : ℕ) → class (views k).claims c ≡ n → n ≢ 0 → found / 256 ≡ class (views k).claims c
      by zero e some = absurd (some refl)
      by (suc n) e some = sym told ∙ ((x.bits.each_lane k).hold.seen c n e ∙ sym e)

  seen_keeps : (part : Part) (w found : ℕ) → part_in (views k) w ≡ part → found ≡ mem (PoolWord w) → Keeps (views k).claims (seen_by part found (views k).claims)
  seen_keeps GenerationPart w found e is c some = refl
  seen_keeps SealPart w found e is c some = refl
  seen_keeps EntryPart w found e is c some = refl
  seen_keeps SlotPart w found e is c some = refl
  seen_keeps RootPart w found e is c some = refl
  seen_keeps (ChunkPart d zero) w found e is c some = refl
  seen_keeps (ChunkPart d (suc i)) w found e is c some = refl
  seen_keeps OtherPart w found e is c some = refl
  seen_keeps (DescriptorPart d) w found e is c some = by ((d == c) && is_run found) refl
    where
      by : (b : Bool) → ((d == c) && is_run found) ≡ b → cond b (found / 256) (class (views k).claims c) ≡ class (views k).claims c
      by false t = refl
      by true t = let both = and_parts (d == c) (is_run found) t in
          says c w found (e ∙ ap DescriptorPart (eqb-true d c both.0)) is both.1 some

  learned_keeps : (ph : Phase) (w found : ℕ) → found ≡ mem (PoolWord w) → Keeps (views k).claims (learned ph (part_in (views k) w) w found (views k).claims)
  learned_keeps Idle w found is c some = seen_keeps (part_in (views k) w) w found refl is c some
  learned_keeps Open w found is c some = seen_keeps (part_in (views k) w) w found refl is c some
  learned_keeps (Drawn n) w found is c some = refl
  learned_keeps (Sealing n) w found is c some = refl
  learned_keeps (Applying todo) w found is c some = refl
  learned_keeps Clearing w found is c some = refl
  learned_keeps (Retiring n) w found is c some = refl
  learned_keeps Voiding w found is c some = refl

  marked_keeps : (ph : Phase) (part : Part) (w n : ℕ) → StoreFits (views k) w n ph part → Keeps (views k).claims (marked_by ph part n (views k).claims)
  marked_keeps Open GenerationPart w n fits c some = refl
  marked_keeps Open SealPart w n fits c some = refl
  marked_keeps Open EntryPart w n fits c some = refl
  marked_keeps Open SlotPart w n fits c some = refl
  marked_keeps Open RootPart w n fits c some = refl
  marked_keeps Open (DescriptorPart d) w n fits c some = cond-false (d == c) (n / 256) (class (views k).claims c)
      (false_from_ne_true (d == c) (λ e. some (ap (class (views k).claims) (sym (eqb-true d c e)) ∙ fits.unknown)))
  marked_keeps Open (ChunkPart d i) w n fits c some = refl
  marked_keeps Open OtherPart w n fits c some = refl
  marked_keeps Idle GenerationPart w n fits c some = refl
  marked_keeps Idle SealPart w n fits c some = refl
  marked_keeps Idle EntryPart w n fits c some = refl
  marked_keeps Idle SlotPart w n fits c some = refl
  marked_keeps Idle RootPart w n fits c some = refl
  marked_keeps Idle (DescriptorPart d) w n fits c some = absurd fits
  marked_keeps Idle (ChunkPart d i) w n fits c some = refl
  marked_keeps Idle OtherPart w n fits c some = refl
  marked_keeps (Drawn m) part w n fits c some = refl
  marked_keeps (Sealing m) part w n fits c some = refl
  marked_keeps (Applying todo) part w n fits c some = refl
  marked_keeps Clearing part w n fits c some = refl
  marked_keeps (Retiring m) part w n fits c some = refl
  marked_keeps Voiding part w n fits c some = refl

-- ---- EVERY STEP

module _ (o : Opening) (old mem : Memory) (views : Views) (g : Past) (k : ℕ) (x : World o old views g) (ink : k < o.lanes) where
  -- the entries are the same, and what is known is
  abbrev Stays : Step → Type 0
  Stays s = ((after (views k) s).entries ≡ (views k).entries) × Keeps (views k).claims (after (views k) s).claims

  known_on : (s : Step) → Stays s → ClassesStayKnown (views k) → ClassesStayKnown (after (views k) s)
  known_on s stays known e there c some =
      let same = known e (subst (λ es. Contains es e) stays.0 there) c some in
      stays.1 c (λ none. some (sym same ∙ none)) ∙ same

  drawn_on : (n : ℕ) → ClassesStayKnown (views k) → ClassesStayKnown (after (views k) (Draw n))
  drawn_on n known e there c some = ⊎_elim
      (λ (here : entry_drawn n (views k) ≡ e). ap (λ (d : Numbered). class d.claims c) here)
      (λ (later : Contains (views k).entries e). known e later c some)
      (member_cases (entry_drawn n (views k)) (views k).entries e there)

  goes : (s : Step) → IsLawful (views k) s → Moves k s old mem → ClassesStayKnown (views k) → ClassesStayKnown (after (views k) s)
  goes (Load w found) law m = known_on (Load w found) (refl, learned_keeps o old views g k x ink (views k).log.phase w found m.1)
  goes (Store w n) law m = known_on (Store w n) (refl, marked_keeps o old views g k x ink (views k).log.phase (part_in (views k) w) w n law.allowed.fits)
  goes (Or w bits found) law m = known_on (Or w bits found) (refl, λ c some. refl)
  goes (And w bits found) law m = known_on (And w bits found) (refl, λ c some. refl)
  goes (Flush line) law m = known_on (Flush line) (refl, λ c some. refl)
  goes Drain law m = known_on Drain (refl, λ c some. drains (drained (views k).changes) (views k).log (views k).claims c)
  goes (TakeWrite line true) law m = known_on (TakeWrite line true) (refl, λ c some. refl)
  goes (TakeWrite line false) law m = known_on (TakeWrite line false) (refl, λ c some. refl)
  goes (TakeRead line true) law m = known_on (TakeRead line true) (refl, λ c some. refl)
  goes (TakeRead line false) law m = known_on (TakeRead line false) (refl, λ c some. refl)
  goes (Raise line true) law m = known_on (Raise line true) (refl, λ c some. refl)
  goes (Raise line false) law m = known_on (Raise line false) (refl, λ c some. refl)
  goes (Give line) law m = known_on (Give line) (refl, λ c some. refl)
  goes (ZoneTry zone won) law m = known_on (ZoneTry zone won) (refl, λ c some. refl)
  goes (ZoneGive zone) law m = known_on (ZoneGive zone) (refl, λ c some. refl)
  goes (Occupied at found) law m = known_on (Occupied at found) (refl, λ c some. refl)
  goes (Occupy at bits true) law m = known_on (Occupy at bits true) (refl, λ c some. refl)
  goes (Occupy at bits false) law m = known_on (Occupy at bits false) (refl, λ c some. refl)
  goes (Vacate at bits) law m = known_on (Vacate at bits) (refl, λ c some. refl)
  goes (Draw n) law m = drawn_on n
  goes (NumberSeen n) law m = let same = begins (views k).log.phase (views k) in
      known_on (NumberSeen n) (same.1, λ c some. ap (λ t. class t c) same.0)
  goes (StopSeen set) law m = known_on (StopSeen set) (refl, λ c some. refl)
  goes SetStop law m = known_on SetStop (refl, λ c some. refl)
  goes (Tell operation reply) law m = known_on (Tell operation reply) (refl, λ c some. refl)

-- ---- EVERY RUN

all_on : (o : Opening) (old next : Moment) (t : LaneStep) → World o old.mem old.views old.past → Leads o old t next
    → ((k : ℕ) → ClassesStayKnown (old.views k)) → (k : ℕ) → ClassesStayKnown (next.views k)
all_on o old next t x led known k = ⊎_elim
    (λ (e : k ≡ t.lane). subst (λ (j : ℕ). ClassesStayKnown (next.views j)) (sym e) (subst ClassesStayKnown (sym led.view.here)
    (goes o old.mem next.mem old.views old.past t.lane x led.runs t.step led.lawful led.moves (known t.lane))))
    (λ (ne : k ≢ t.lane). subst ClassesStayKnown (sym (led.view.else_ k ne)) (known k))
    (cases_eq k t.lane)

each_run : (o : Opening) (turns : List LaneStep) (old new : Moment) → World o old.mem old.views old.past → IsRun o old turns new
    → ((k : ℕ) → ClassesStayKnown (old.views k)) → (k : ℕ) → ClassesStayKnown (new.views k)
unfolding IsRun
each_run o [] old new x r known = subst (λ (m : Moment). (k : ℕ) → ClassesStayKnown (m.views k)) (sym r) known
each_run o (t ∷ rest) old new x r known =
    let next = r.0 in
    let led : Leads o old t next = r.1 in
    let w = subst (λ p. World o next.mem next.views p) (sym led.past)
    (every_step t.step o old.mem next.mem old.views next.views old.past t.lane x led.runs led.lawful led.moves led.view).0 in
    each_run o rest next new w r.2 (all_on o old next t x led known)

pub runs : RunsKeepClassesKnown
runs o fixed generation turns old new x idle r = each_run o turns old new x r
    (λ k. subst (λ (vs : Views). ClassesStayKnown (vs k)) (sym idle) (λ e there. absurd (no_member e there)))
