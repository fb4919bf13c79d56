-- Whether an image keeps a lane's open call is told from words: by phase, the seal and the
-- generation stand in memory and in the image as the log has them.
use Rattle.std.proofs.Common.{◌≡◌, ◌≢◌, ◌⊎◌, inl, inr, ⊎_elim, ℕ, zero, suc, ◌+◌, ◌/◌, ◌<◌, ◌≤◌}
use Rattle.std.proofs.Common.{Bool, true, false, cond, not, ◌&&◌, ◌||◌, ◌==◌, All, List, [], ◌∷◌}
use Rattle.std.proofs.Common.{◌++◌, length, length-append, Option, None, Some, IfSome, refl, sym}
use Rattle.std.proofs.Common.{ap, ◌∙◌, subst, arith}
use Rattle.std.specs.Prelude.{bit_and, slice_index}
use Rattle.std.specs.Option.{option_map}
use Rattle.std.proofs.lemmas.Bool.{cases_Bool, cases_eq, cond-false, cond-true, eq-eqb, ne_eqb}
use Rattle.std.proofs.lemmas.Bool.{or_left}
use Rattle.std.proofs.lemmas.Option.{none-some, same_Some}
use Rattle.std.proofs.lemmas.List.Elements.{All-head, All-tail, All-weaker}
use Rattle.pm_layout.specs.Areas.{word_of_generation, word_of_seal}
use Rattle.pm_layout.specs.Chunks.{words_of}
use Rattle.pm_layout.specs.declared.shape.Shape.{Shape}
use Rattle.pm_image.specs.Logs.{area_word, generation_word, seal_word}
use Rattle.pm_memory.specs.Changes.{AreUndrained}
use Rattle.pm_view.specs.Bits.{all_bits}
use Rattle.pm_view.specs.Claims.{class}
use Rattle.pm_view.specs.Changes.{Undrained, IsUndrained, drained, flushed, mark}
use Rattle.pm_view.specs.declared.change.Change.{Change}
use Rattle.pm_view.specs.Entries.{Entry}
use Rattle.pm_view.specs.Log.{Phase, Idle, Open, Drawn, Sealing, Applying, Clearing, Retiring}
use Rattle.pm_view.specs.Log.{Voiding, Log, Recorded, log_changed, log_drained, log_stored}
use Rattle.pm_view.specs.Log.{phase_drawn, recorded, with_pair, with_slot}
use Rattle.pm_view.specs.Parts.{Part, GenerationPart, SealPart, EntryPart, SlotPart, RootPart}
use Rattle.pm_view.specs.Parts.{DescriptorPart, ChunkPart, OtherPart, part_of}
use Rattle.pm_view.specs.Steps.{Step}
use Rattle.pm_view.specs.Steps.Step.{Load, Store, Or, And, Flush, Drain, TakeWrite, TakeRead}
use Rattle.pm_view.specs.Steps.Step.{Raise, Give, ZoneTry, ZoneGive, Occupied, Occupy, Vacate}
use Rattle.pm_view.specs.Steps.Step.{Draw, NumberSeen, StopSeen, SetStop, Tell}
use Rattle.pm_view.specs.View.{View}
use Rattle.pm_view.specs.Views.{after, begun, log_left, part_in, was_in}
use Rattle.pm_record.specs.declared.redo.Op.{Op}
use Rattle.pm_record.specs.declared.redo.Op.TheVariants as op
use Rattle.pm_world.specs.Crash.{Survives, decides_in, is_decided_in, is_kept}
use Rattle.pm_world.specs.Lanes.{FlightFits, Flies, flies_at}
use Rattle.pm_world.specs.Lawful.{ChangeFits, StoreFits}
use Rattle.pm_world.specs.Logs.{AreaChange, AreWhole, BumpFits, PhaseFits, ends_with, seal_in}
use Rattle.pm_world.specs.Memory.{Memory, PoolWord}
use Rattle.pm_world.specs.Runs.{IsRun, Leads, Moment}
use Rattle.pm_world.specs.Sights.{sight_of}
use Rattle.pm_world.specs.States.{Diff, diff}
use Rattle.pm_world.specs.World.{AreaFits, Opening, Views, Past, World, NumberFits, ghost_of}
use Rattle.pm_world.proofs.StepChange as words_of_parts
use Rattle.pm_world.proofs.SurvivingWords.{GenerationIs, SealIs, generation_is, log_fits, seal_is}
use Rattle.pm_crash.specs.Fates.{AwaitsBegin, AwaitsOne, EndsOpen, IsOnlyChange, KeepsAwaits}
use Rattle.pm_crash.specs.Fates.{OpenIsJudged, OthersAreKept, RunsKeepAwaits, awaited}
use Rattle.pm_crash.specs.Fates.{drained_value}

-- ---- A STORE THAT AWAITS ITS DRAIN IS ALONE

-- an open log stays open as it grows
slot_phase : (sh : Shape) (known : ℕ → ℕ) (words : List ℕ) (l : Log)
    → (with_slot sh known words l).phase ≡ l.phase
slot_phase sh known words l = go (length words == 8)
  where
    go : (b : Bool) → (cond b (record l
        { records = l.records ++ recorded sh known words ∷ []; slot = [] })
        (record l { slot = words })).phase ≡ l.phase
    go true = refl
    go false = refl

pair_phase : (sh : Shape) (known : ℕ → ℕ) (pair : List ℕ) (x : ℕ) (l : Log)
    → (with_pair sh known pair x l).phase ≡ l.phase
pair_phase sh known [] x l = refl
pair_phase sh known (head ∷ rest) x l = refl

module _ (v : View) where
  abbrev Only : List Undrained → Phase → Type 0
  Only changes ph = IsOnlyChange (awaited v.fixed.shape v.fixed.lane ph) changes

  free : (changes : List Undrained) (ph other : Phase) → ph ≡ other → Only changes other
      → Only changes ph
  free changes ph other e h = subst (Only changes) (sym e) h

  -- a store where nothing was undrained
  first : (w u : ℕ) (c : Undrained) (changes : List Undrained) → c.word ≡ w → w ≡ u → changes ≡ []
      → IsOnlyChange (Some u) (c ∷ changes)
  first w u c changes is same none = (c, ap (λ (l : List Undrained). c ∷ l) none, is ∙ same)

  module _ (w x : ℕ) (c : Undrained) (is : c.word ≡ w) where
    abbrev stored : Phase → Part → Log
    stored ph part = log_stored v.fixed.shape (class v.claims) ph part x v.log

    seal : part_in v w ≡ SealPart → v.changes ≡ []
        → IsOnlyChange (Some (word_of_seal v.fixed.shape v.fixed.lane)) (c ∷ v.changes)
    seal part none = first w (word_of_seal v.fixed.shape v.fixed.lane) c v.changes is
        (words_of_parts.seal_word v.fixed.shape v.fixed.lane w part) none

    generation : part_in v w ≡ GenerationPart → v.changes ≡ []
        → IsOnlyChange (Some (word_of_generation v.fixed.shape v.fixed.lane)) (c ∷ v.changes)
    generation part none = first w (word_of_generation v.fixed.shape v.fixed.lane) c v.changes is
        (words_of_parts.generation_word v.fixed.shape v.fixed.lane w part) none

    after_store : (ph : Phase) (part : Part) → v.log.phase ≡ ph → part_in v w ≡ part
        → StoreFits v w x ph part → Only (c ∷ v.changes) (stored ph part).phase
    after_store Idle GenerationPart e p f = absurd f
    after_store Idle SealPart e p f = absurd f
    after_store Idle EntryPart e p f = absurd f
    after_store Idle SlotPart e p f = absurd f
    after_store Idle RootPart e p f = absurd f
    after_store Idle (DescriptorPart d) e p f = absurd f
    after_store Idle (ChunkPart d i) e p f = free (c ∷ v.changes) v.log.phase Idle e tt
    after_store Idle OtherPart e p f = absurd f
    after_store Open GenerationPart e p f = generation p f.ends.drained
    after_store Open SealPart e p f = absurd f
    after_store Open EntryPart e p f =
        free (c ∷ v.changes) (stored Open EntryPart).phase Open
        (pair_phase v.fixed.shape (class v.claims) v.log.pair x v.log ∙ e) tt
    after_store Open SlotPart e p f =
        free (c ∷ v.changes) (stored Open SlotPart).phase Open
        (slot_phase v.fixed.shape (class v.claims) (v.log.slot ++ x ∷ []) v.log ∙ e) tt
    after_store Open RootPart e p f = absurd f
    after_store Open (DescriptorPart d) e p f = free (c ∷ v.changes) v.log.phase Open e tt
    after_store Open (ChunkPart d i) e p f = free (c ∷ v.changes) v.log.phase Open e tt
    after_store Open OtherPart e p f = absurd f
    after_store (Drawn n) GenerationPart e p f = generation p f.drained
    after_store (Drawn n) SealPart e p f = seal p f.drained
    after_store (Drawn n) EntryPart e p f = absurd f
    after_store (Drawn n) SlotPart e p f = absurd f
    after_store (Drawn n) RootPart e p f = absurd f
    after_store (Drawn n) (DescriptorPart d) e p f = absurd f
    after_store (Drawn n) (ChunkPart d i) e p f = absurd f
    after_store (Drawn n) OtherPart e p f = absurd f
    after_store (Sealing n) part e p f = absurd f
    after_store (Applying todo) GenerationPart e p f = tt
    after_store (Applying todo) SealPart e p f = seal p f.drained
    after_store (Applying todo) EntryPart e p f = absurd f
    after_store (Applying todo) SlotPart e p f = absurd f
    after_store (Applying todo) RootPart e p f = tt
    after_store (Applying todo) (DescriptorPart d) e p f = tt
    after_store (Applying todo) (ChunkPart d i) e p f = tt
    after_store (Applying todo) OtherPart e p f = absurd f
    after_store Clearing part e p f = absurd f
    after_store (Retiring n) part e p f = absurd f
    after_store Voiding part e p f = absurd f

  -- entries alone are applied by ORs and ANDs
  after_change : (how : Op) (w bits : ℕ) (changes : List Undrained) (ph : Phase) (part : Part)
      → ChangeFits v how w bits ph part → Only changes (log_changed ph v.log).phase
  after_change how w bits changes Idle part f = absurd f
  after_change how w bits changes Open part f = absurd f
  after_change how w bits changes (Drawn n) part f = absurd f
  after_change how w bits changes (Sealing n) part f = absurd f
  after_change how w bits changes (Applying todo) part f = tt
  after_change how w bits changes Clearing part f = absurd f
  after_change how w bits changes (Retiring n) part f = absurd f
  after_change how w bits changes Voiding part f = absurd f

  -- once nothing is undrained nothing is awaited
  all_drained : (ph : Phase) → v.log.phase ≡ ph → Only [] (log_drained ph v.log).phase
  all_drained Idle e = free [] v.log.phase Idle e tt
  all_drained Open e = free [] v.log.phase Open e tt
  all_drained (Drawn n) e = free [] v.log.phase (Drawn n) e tt
  all_drained (Sealing n) e = tt
  all_drained (Applying todo) e = free [] v.log.phase (Applying todo) e tt
  all_drained Clearing e = tt
  all_drained (Retiring n) e = tt
  all_drained Voiding e = tt

  -- a number is seen, or drawn, where nothing is awaited
  after_begin : (ph : Phase) → AwaitsOne v → AwaitsOne (begun ph v)
  after_begin Idle h = tt
  after_begin Open h = h
  after_begin (Drawn n) h = h
  after_begin (Sealing n) h = h
  after_begin (Applying todo) h = h
  after_begin Clearing h = h
  after_begin (Retiring n) h = h
  after_begin Voiding h = h

  after_draw : (n : ℕ) (changes : List Undrained) (records : List Recorded) (entries : List Entry)
      → Only changes (phase_drawn n records entries)
  after_draw n changes [] [] = tt
  after_draw n changes [] (e ∷ entries) = tt
  after_draw n changes (r ∷ records) entries = tt

-- a flush marks the change, and a drain leaves it or none
marked : (line : ℕ) (c : Undrained) → (mark line c).word ≡ c.word
marked line c = go (c.word / 8 == line)
  where
    go : (b : Bool) → (cond b (record c { flushed = true }) c).word ≡ c.word
    go true = refl
    go false = refl

after_flush : (line : ℕ) (waits : Option ℕ) (changes : List Undrained) → IsOnlyChange waits changes
    → IsOnlyChange waits (flushed line changes)
after_flush line None changes h = tt
after_flush line (Some w) changes h = (mark line h.0, ap (flushed line) h.1, marked line h.0 ∙ h.2)

some_left : (c u : Undrained) (left : List Undrained) → drained (c ∷ []) ≡ u ∷ left
    → c ∷ [] ≡ u ∷ left
some_left c u left e = go (not c.flushed) e
  where
    go : (b : Bool) → cond b (c ∷ []) [] ≡ u ∷ left → c ∷ [] ≡ u ∷ left
    go true q = q
    go false q = absurd (let n = ap length q in omega (arith, n))

after_drain : (waits : Option ℕ) (changes left : List Undrained) (u : Undrained)
    → drained changes ≡ u ∷ left → IsOnlyChange waits changes → IsOnlyChange waits (u ∷ left)
after_drain None changes left u e h = tt
after_drain (Some w) changes left u e h =
    (h.0, sym (some_left h.0 u left (sym (ap drained h.1) ∙ e)), h.2)

drains : (v : View) (left : List Undrained) → drained v.changes ≡ left → AwaitsOne v
    → IsOnlyChange (awaited v.fixed.shape v.fixed.lane (log_left left v.log).phase) left
drains v [] e h = all_drained v v.log.phase refl
drains v (u ∷ left) e h = after_drain
    (awaited v.fixed.shape v.fixed.lane v.log.phase) v.changes left u e h

pub keeps : (s : Step) → KeepsAwaits s
keeps (Load w found) v law h = h
keeps (Store w x) v law h = after_store v w x
    (record {
      word = w;
      mask = all_bits;
      old =
          option_map (λ old. bit_and old all_bits) (was_in v w);
      flushed = false;
    }) refl v.log.phase
    (part_in v w) refl refl law.allowed.fits
keeps (Or w bits found) v law h =
    after_change v op.Or w bits (after v (Or w bits found)).changes v.log.phase
    (part_in v w) law.allowed.fits
keeps (And w bits found) v law h =
    after_change v op.And w bits (after v (And w bits found)).changes v.log.phase
    (part_in v w) law.allowed.fits
keeps (Flush line) v law h = after_flush line
    (awaited v.fixed.shape v.fixed.lane v.log.phase) v.changes h
keeps Drain v law h = drains v (drained v.changes) refl h
keeps (TakeWrite line won) v law h = h
keeps (TakeRead line won) v law h = h
keeps (Raise line won) v law h = h
keeps (Give line) v law h = h
keeps (ZoneTry zone won) v law h = h
keeps (ZoneGive zone) v law h = h
keeps (Occupied at found) v law h = h
keeps (Occupy at bits true) v law h = h
keeps (Occupy at bits false) v law h = h
keeps (Vacate at bits) v law h = h
keeps (Draw n) v law h = after_draw v n v.changes v.log.records v.log.entries
keeps (NumberSeen n) v law h = after_begin v v.log.phase h
keeps (StopSeen set) v law h = h
keeps SetStop v law h = h
keeps (Tell operation reply) v law h = h

pub begins : AwaitsBegin
begins fixed generation k = tt

pub runs : RunsKeepAwaits
unfolding IsRun
runs o [] old new r h k = subst (λ (m : Moment). AwaitsOne (m.views k)) (sym r) (h k)
runs o (t ∷ rest) old new r h k =
    let led : Leads o old t r.0 = r.1 in
    runs o rest r.0 new r.2 (λ j. ⊎_elim
    (λ (e : j ≡ t.lane). subst (λ i. AwaitsOne (r.0.views i)) (sym e)
    (subst AwaitsOne (sym led.view.here)
    (keeps t.step (old.views t.lane) led.lawful (h t.lane))))
    (λ (ne : j ≢ t.lane). subst AwaitsOne (sym (led.view.else_ j ne)) (h j))
    (cases_eq j t.lane)) k

-- ---- EACH CALL BUT THE OPEN ONE

-- a call in flight has the open call's number
is_open : (ph : Phase) (number : Option ℕ) (n : ℕ) → flies_at ph n → NumberFits ph number
    → number ≡ Some (suc n)
is_open Idle number n f e = absurd f
is_open Open number n f e = absurd f
is_open (Drawn m) number n f e = e ∙ ap (λ i. Some (suc i)) f
is_open (Sealing m) number n f e = e ∙ ap (λ i. Some (suc i)) f
is_open (Applying todo) number n f e = absurd f
is_open Clearing number n f e = absurd f
is_open (Retiring m) number n f e = e ∙ ap (λ i. Some (suc i)) f
is_open Voiding number n f e = absurd f

not_open : (v : View) (n : ℕ) (number : Option ℕ) → NumberFits v.log.phase v.number
    → EndsOpen number v → number ≢ Some (suc n) → flies_at v.log.phase n → ⊥
not_open v n None fits ends ne f = ⊎_elim
    (λ (e : v.log.phase ≡ Idle). subst (λ ph. flies_at ph n) e f)
    (λ (e : v.number ≡ None). none-some (suc n) (sym e ∙ is_open v.log.phase v.number n f fits))
    ends
not_open v n (Some m) fits ends ne f = ne (sym ends.0 ∙ is_open v.log.phase v.number n f fits)

pub others : OthersAreKept
others o mem views g image number call x inside ends ne =
    let k : ℕ = (g.drew call).fixed.lane in ⊎_elim
    (λ (t : g.decided call ≡ true). or_left (g.decided call)
    (is_decided_in image views o.lanes call) t)
    (λ (t : g.decided call ≡ false). absurd
    (not_open (views k) call number (x.each_lane k (x.of_lanes call inside)).number ends ne
    (x.bits.flying call inside t)))
    (cases_Bool (g.decided call))

-- ---- DRAINED VALUES

-- of one change
pub of_one : (words : List ℕ) (c : Change) (w : ℕ) → c.word ≡ w
    → drained_value words (c ∷ []) w ≡ c.old
unfolding drained_value
of_one words c w e = cond-true (c.word == w) _ _ (eq-eqb c.word w e)

of_other : (words : List ℕ) (c : Change) (w : ℕ) → c.word ≢ w
    → drained_value words (c ∷ []) w ≡ slice_index words w
unfolding drained_value
of_other words c w ne = cond-false (c.word == w) _ _ (ne_eqb c.word w ne)

of_none : (words : List ℕ) (changes : List Change) (w : ℕ) → changes ≡ []
    → drained_value words changes w ≡ slice_index words w
unfolding drained_value
of_none words changes w e = ap (λ (l : List Change). drained_value words l w) e

-- the latest change is of another word
before_other : (words : List ℕ) (w : ℕ) (before : List Change) (c : Change) → c.word ≢ w
    → drained_value words (before ++ c ∷ []) w ≡ drained_value words before w
unfolding drained_value
before_other words w [] c ne = cond-false (c.word == w) _ _ (ne_eqb c.word w ne)
before_other words w (d ∷ before) c ne =
    ap (λ y. cond (d.word == w) d.old y) (before_other words w before c ne)

not_among : (words : List ℕ) (w : ℕ) (changes : List Change) (seen : List Undrained)
    → AreUndrained changes seen → All (λ (u : Undrained). u.word ≢ w) seen
    → drained_value words changes w ≡ slice_index words w
not_among words w changes [] are all = of_none words changes w are
not_among words w changes (u ∷ seen) are all =
    let is : IsUndrained are.1 u = are.3 in
    ap (λ (l : List Change). drained_value words l w) are.2
    ∙ (before_other words w are.0 are.1
    (λ (e : are.1.word ≡ w). All-head (λ (d : Undrained). d.word ≢ w) u seen all (sym is.word ∙ e))
    ∙ not_among words w are.0 seen are.4 (All-tail (λ (d : Undrained). d.word ≢ w) u seen all))

-- the memory's one change, where the view has one
record One (changes : List Change) (u : Undrained) : Type 0 where
  change : Change
  are : changes ≡ change ∷ []
  is : IsUndrained change u

one_change : (changes : List Change) (seen : List Undrained) (u : Undrained)
    → AreUndrained changes seen → seen ≡ u ∷ [] → One changes u
one_change changes seen u are e =
    let a = subst (AreUndrained changes) e are in
    record { change = a.1; are = a.2 ∙ ap (λ (l : List Change). l ++ a.1 ∷ []) a.4; is = a.3 }

-- ---- THE JUDGEMENT, of the drained seal, the image's seal and generation, and the generation
-- drained
abbrev judged : ℕ → ℕ → ℕ → ℕ → Bool
judged s i j d = not (s == 0) || not (i == 0) || not (j == d)

or_false : (b : Bool) → (b || false) ≡ b
or_false true = refl
or_false false = refl

by_drained : (s i j d : ℕ) → s ≢ 0 → judged s i j d ≡ true
by_drained s i j d ne = ap (λ t. not t || not (i == 0) || not (j == d)) (ne_eqb s 0 ne)

by_seal : (s i j d : ℕ) → s ≡ 0 → j ≡ d → judged s i j d ≡ not (i == 0)
by_seal s i j d e same = ap (λ t. not t || not (i == 0) || not (j == d)) (eq-eqb s 0 e)
    ∙ (ap (λ t. not (i == 0) || not t) (eq-eqb j d same) ∙ or_false (not (i == 0)))

by_generation : (s i j d : ℕ) → s ≡ 0 → i ≡ 0 → judged s i j d ≡ not (j == d)
by_generation s i j d e same = ap (λ t. not t || not (i == 0) || not (j == d)) (eq-eqb s 0 e)
    ∙ ap (λ t. not t || not (j == d)) (eq-eqb i 0 same)

-- ---- WHICH LANE DECIDES A CALL

module _ (o : Opening) (mem : Memory) (views : Views) (g : Past) (x : World o mem views g)
    (image : List ℕ) (k call : ℕ) (ink : k < o.lanes)
    (of_lane : (g.drew call).fixed.lane ≡ k) where
  flight : (j : ℕ) → FlightFits (Flies (ghost_of g) j) (views j).log.phase
      (diff (sight_of (views j)).call)
  flight j = (x.bits.each_lane j).call.flight

  -- no other lane has it in flight
  foreign : (j : ℕ) → j ≢ k → (ph : Phase) (d : Diff) → FlightFits (Flies (ghost_of g) j) ph d
      → decides_in image (views j) ph call ≡ false
  foreign j ne Idle d f = refl
  foreign j ne Open d f = refl
  foreign j ne (Drawn m) d f = refl
  foreign j ne (Sealing m) d f =
      ap (λ t. t && not (seal_word image (views j).fixed.lane == 0))
      (ne_eqb m call (λ (e : m ≡ call). ne
      (sym f.2 ∙ (ap (λ i. (g.drew i).fixed.lane) e ∙ of_lane))))
  foreign j ne (Applying todo) d f = refl
  foreign j ne Clearing d f = refl
  foreign j ne (Retiring m) d f =
      ap (λ t. t && (generation_word image (views j).fixed.lane == (views j).log.generation + 1))
      (ne_eqb m call (λ (e : m ≡ call). ne
      (sym f.2 ∙ (ap (λ i. (g.drew i).fixed.lane) e ∙ of_lane))))
  foreign j ne Voiding d f = refl

  abbrev decides : ℕ → Bool
  decides j = decides_in image (views j) (views j).log.phase call

  none_below : (n : ℕ) → n ≤ k → is_decided_in image views n call ≡ false
  none_below zero l = refl
  none_below (suc j) l = ap (λ t. t || is_decided_in image views j call)
      (foreign j (λ q. omega arith) (views j).log.phase _ (flight j)) ∙ none_below j (omega arith)

  its_own : (n : ℕ) → k < n → is_decided_in image views n call ≡ decides k
  its_own zero l = absurd (omega arith)
  its_own (suc j) l = ⊎_elim
      (λ (e : j ≡ k). ap (λ t. decides j || t) (none_below j (omega arith))
      ∙ (or_false (decides j) ∙ ap decides e))
      (λ (ne : j ≢ k). ap (λ t. t || is_decided_in image views j call)
      (foreign j ne (views j).log.phase _ (flight j)) ∙ its_own j (omega arith))
      (cases_eq j k)

  kept_by : (t : Bool) (ph : Phase) → g.decided call ≡ false → (views k).log.phase ≡ ph
      → decides_in image (views k) ph call ≡ t → is_kept o views g image call ≡ t
  kept_by t ph d e is = ap (λ b. b || is_decided_in image views o.lanes call) d
      ∙ (its_own o.lanes ink ∙ (ap (λ (p : Phase). decides_in image (views k) p call) e ∙ is))

-- ---- THE OPEN CALL

seal_part : (sh : Shape) (k : ℕ) → part_of sh k (word_of_seal sh k) ≡ SealPart
seal_part sh k = cond-false (word_of_seal sh k == word_of_generation sh k) _ _
    (ne_eqb (word_of_seal sh k) (word_of_generation sh k) (λ q. omega arith))
    ∙ cond-true (word_of_seal sh k == word_of_seal sh k) _ _
    (eq-eqb (word_of_seal sh k) (word_of_seal sh k) refl)

generation_part : (sh : Shape) (k : ℕ) → part_of sh k (word_of_generation sh k) ≡ GenerationPart
generation_part sh k = cond-true (word_of_generation sh k == word_of_generation sh k) _ _
    (eq-eqb (word_of_generation sh k) (word_of_generation sh k) refl)

module _ (o : Opening) (mem : Memory) (views : Views) (g : Past) (image words : List ℕ)
    (changes : List Change) (k call : ℕ) (x : World o mem views g) (waits : AwaitsOne (views k))
    (sv : Survives o mem views image)
    (same : (w : ℕ) → w < words_of o.shape → slice_index words w ≡ mem (PoolWord w))
    (are : AreUndrained changes (views k).changes) (inside : call < g.length)
    (of_lane : (g.drew call).fixed.lane ≡ k)
    (ends : EndsOpen (Some (suc call)) (views k)) where
  ink : k < o.lanes
  ink = subst (λ j. j < o.lanes) of_lane (x.of_lanes call inside)

  of_pool : k < o.shape.lanes
  of_pool = let m = x.most_lanes in let i = ink in omega arith

  abbrev v : View
  v = views k

  abbrev count : ℕ
  count = length (views k).log.entries

  abbrev before : ℕ
  before = (views k).log.generation

  abbrev ws : ℕ
  ws = word_of_seal o.shape k

  abbrev wg : ℕ
  wg = word_of_generation o.shape k

  -- the drained seal and generation, and the image's
  abbrev S : ℕ
  S = drained_value words changes ws

  abbrev G : ℕ
  G = drained_value words changes wg

  abbrev I : ℕ
  I = slice_index image ws

  abbrev J : ℕ
  J = slice_index image wg

  lane_is : (views k).fixed.lane ≡ k
  lane_is = (x.each_lane k ink).lane

  seal_place : seal_word image k ≡ I
  seal_place = let w : area_word k + 1 ≡ word_of_seal o.shape k = omega arith in
      ap (slice_index image) w

  seal_there : seal_word image (views k).fixed.lane ≡ I
  seal_there = ap (seal_word image) lane_is ∙ seal_place

  generation_there : generation_word image (views k).fixed.lane ≡ J
  generation_there = ap (generation_word image) lane_is

  abbrev fits : AreaFits o mem g k (views k)
  fits = log_fits o mem views g x k of_pool

  seal_in_memory : slice_index words ws ≡ seal_in (views k).log.phase count
  seal_in_memory = same ws (let i = of_pool in omega arith) ∙ fits.sealed

  generation_in_memory : slice_index words wg ≡ cond (views k).log.bumped (suc before) before
  generation_in_memory = same wg (let i = of_pool in omega arith) ∙ fits.stored

  -- what is so by how far the call has come
  record At (ph : Phase) : Type 0 where
    is : (views k).log.phase ≡ ph
    seal : slice_index words ws ≡ seal_in ph count
    bump : BumpFits ph (views k).log.bumped
    seal_left : SealIs count I ph
    generation_left : GenerationIs before J ph
    waits_for : IsOnlyChange (awaited o.shape k ph) (views k).changes
    area : All (λ (c : Undrained). AreaChange ph count before (part_of o.shape k c.word) c)
        (views k).changes
    number : NumberFits ph (views k).number
    flies : FlightFits (Flies (ghost_of g) k) ph (diff (sight_of (views k)).call)
    has : PhaseFits o.shape k (sight_of (views k)).picture (views k).log (views k).changes ph
    flying : g.decided call ≡ false → flies_at ph call

  here : At (views k).log.phase
  here = record {
    is = refl;
    seal = seal_in_memory;
    bump = fits.bump;
    seal_left = subst (λ n. SealIs count n (views k).log.phase) seal_place
        (seal_is o mem views g x image sv k of_pool);
    generation_left = generation_is o mem views g x image sv k of_pool;
    waits_for = subst (λ (j : ℕ). IsOnlyChange (awaited o.shape j (views k).log.phase)
        (views k).changes) lane_is
        (subst (λ (s : Shape). IsOnlyChange (awaited s (views k).fixed.lane (views k).log.phase)
        (views k).changes) (x.each_lane k ink).shape waits);
    area = fits.area_changes;
    number = (x.each_lane k ink).number;
    flies = flight o mem views g x image k call ink of_lane k;
    has = fits.phase;
    flying = λ d. subst (λ (j : ℕ). flies_at (views j).log.phase call) of_lane
        (x.bits.flying call inside d);
  }

  -- the numbers agree
  this : (m : ℕ) → (views k).number ≡ Some (suc m) → m ≡ call
  this m e = let q = same_Some (suc m) (suc call) (sym e ∙ ends.0) in omega (arith, q)

  undecided : (m : ℕ) → m ≡ call → g.decided m ≡ false → g.decided call ≡ false
  undecided m e d = subst (λ i. g.decided i ≡ false) e d

  kept_is : (t : Bool) (ph : Phase) → g.decided call ≡ false → (views k).log.phase ≡ ph
      → decides_in image (views k) ph call ≡ t → is_kept o views g image call ≡ t
  kept_is = kept_by o mem views g x image k call ink of_lane

  sure : (ph : Phase) → At ph → (flies_at ph call → ⊥) → is_kept o views g image call ≡ true
  sure ph a none = ⊎_elim (λ (t : g.decided call ≡ true). or_left (g.decided call)
      (is_decided_in image views o.lanes call) t)
      (λ (t : g.decided call ≡ false). absurd (none (a.flying t))) (cases_Bool (g.decided call))

  unbumped : (views k).log.bumped ≡ false → slice_index words wg ≡ before
  unbumped e = generation_in_memory ∙ ap (λ t. cond t (suc before) before) e

  -- where one change is undrained, the drained value of its word is what it found, that of another
  -- word the memory's
  module _ (u : Undrained) (one : (views k).changes ≡ u ∷ []) where
    its : One changes u
    its = one_change changes (views k).changes u are one

    drained_of : (w n : ℕ) → u.word ≡ w → u.old ≡ Some n → drained_value words changes w ≡ n
    drained_of w n e old = ap (λ (l : List Change). drained_value words l w) its.are
        ∙ (of_one words its.change w (its.is.word ∙ e)
        ∙ subst (λ d. IfSome d (λ z. its.change.old ≡ z)) old its.is.old)

    drained_else : (w : ℕ) → u.word ≢ w → drained_value words changes w ≡ slice_index words w
    drained_else w ne = ap (λ (l : List Change). drained_value words l w) its.are
        ∙ of_other words its.change w (λ (e : its.change.word ≡ w). ne (sym its.is.word ∙ e))

    change_is : (ph : Phase) (part : Part) (w : ℕ) → At ph → u.word ≡ w
        → part_of o.shape k w ≡ part → AreaChange ph count before part u
    change_is ph part w a e p = subst (λ q. AreaChange ph count before q u)
        (ap (part_of o.shape k) e ∙ p)
        (All-head (λ (c : Undrained). AreaChange ph count before (part_of o.shape k c.word) c) u []
        (subst (All (λ (c : Undrained). AreaChange ph count before
        (part_of o.shape k c.word) c)) one a.area))

  some_entries : AreWhole o.shape k (views k).log → count ≢ 0
  some_entries w e = let n = ap length w.are
      ∙ length-append w.front (ends_with o.shape k before ∷ []) in omega (arith, n, e)

  two_words : ws ≢ wg
  two_words q = omega arith

  tell : (ph : Phase) → At ph → is_kept o views g image call ≡ judged S I J G
  tell Idle a = absurd (ends.1 a.is)
  tell Open a = absurd (none-some (suc call) (sym a.number ∙ ends.0))
  tell (Drawn m) a =
      let e = this m a.number in
      let clean = of_none words changes in
      let none : changes ≡ [] = subst (AreUndrained changes) a.has.0 are in
      kept_is false (Drawn m) (undecided m e a.flies.3) a.is refl
      ∙ sym (by_seal S I J G (clean ws none ∙ a.seal)
      (a.generation_left ∙ sym (clean wg none ∙ unbumped a.bump))
      ∙ ap (λ n. not (n == 0)) a.seal_left)
  tell (Sealing m) a =
      let e = this m a.number in
      let w = a.waits_for in
      let c = change_is w.0 w.1 (Sealing m) SealPart ws a w.2 (seal_part o.shape k) in
      kept_is (not (I == 0)) (Sealing m) (undecided m e a.flies.3) a.is
      (ap (λ t. t && not (seal_word image (views k).fixed.lane == 0)) (eq-eqb m call e)
      ∙ ap (λ n. not (n == 0)) seal_there)
      ∙ sym (by_seal S I J G (drained_of w.0 w.1 ws 0 w.2 c.1)
      (a.generation_left ∙ sym (drained_else w.0 w.1 wg
      (λ (q : w.0.word ≡ wg). two_words (sym w.2 ∙ q)) ∙ unbumped a.bump)))
  tell (Applying todo) a = sure (Applying todo) a (λ f. f)
      ∙ sym (by_drained S I J G (λ (z : S ≡ 0).
      some_entries a.has.0 (sym (not_among words ws changes (views k).changes are
      (All-weaker _ (λ (u : Undrained). u.word ≢ ws) unstored (views k).changes a.area)
      ∙ a.seal) ∙ z)))
    where
      unstored : (u : Undrained) → AreaChange (Applying todo) count before
          (part_of o.shape k u.word) u → u.word ≢ ws
      unstored u c e = subst (λ q. AreaChange (Applying todo) count before q u)
          (ap (part_of o.shape k) e ∙ seal_part o.shape k) c
  tell Clearing a =
      let w = a.waits_for in
      let c = change_is w.0 w.1 Clearing SealPart ws a w.2 (seal_part o.shape k) in
      sure Clearing a (λ f. f) ∙ sym
      (by_drained S I J G (λ (z : S ≡ 0). some_entries a.has.0
      (sym (drained_of w.0 w.1 ws count w.2 c.1) ∙ z)))
  tell (Retiring m) a =
      let e = this m a.number in
      let w = a.waits_for in
      let c = change_is w.0 w.1 (Retiring m) GenerationPart wg a w.2 (generation_part o.shape k) in
      let old : G ≡ before = drained_of w.0 w.1 wg before w.2 c.1 in
      kept_is (J == before + 1) (Retiring m) (undecided m e a.flies.3) a.is
      (ap (λ t. t && (generation_word image (views k).fixed.lane == before + 1)) (eq-eqb m call e)
      ∙ ap (λ n. n == before + 1) generation_there)
      ∙ sym (by_generation S I J G (drained_else w.0 w.1 ws
      (λ (q : w.0.word ≡ ws). two_words (sym q ∙ w.2)) ∙ a.seal) a.seal_left
      ∙ (ap (λ n. not (J == n)) old ∙ one_of J before a.generation_left))
    where
      one_of : (j b : ℕ) → (j ≡ suc b) ⊎ (j ≡ b) → not (j == b) ≡ (j == b + 1)
      one_of j b (inl q) = ap not (ne_eqb j b (λ r. omega (arith, q, r)))
          ∙ sym (eq-eqb j (b + 1) (omega (arith, q)))
      one_of j b (inr q) = ap not (eq-eqb j b q)
          ∙ sym (ne_eqb j (b + 1) (λ r. omega (arith, q, r)))
  tell Voiding a = absurd (none-some (suc call) (sym a.number ∙ ends.0))

pub judges : OpenIsJudged
judges o mem views g image words changes k call x waits sv same are inside of_lane ends =
    tell o mem views g image words changes k call x waits sv same are inside of_lane ends
    (views k).log.phase
    (here o mem views g image words changes k call x waits sv same are inside of_lane ends)
