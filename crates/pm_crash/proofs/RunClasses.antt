-- DESCRIPTORS OF RUNS tell of classes: a lane stores one for a class, and no entry is of a run.
use Rattle.std.proofs.Common.{◌≡◌, ◌≢◌, ⊎_elim, ℕ, ◌*◌, ◌/◌, ◌%◌, ◌<◌, Bool, true, false, List, [], ◌∷◌, ◌++◌, Option, None, Some, refl, sym, ap, ◌∙◌, subst, arith}
use Rattle.std.specs.Prelude.{slice_index}
use Rattle.std.proofs.lemmas.Bool.{both_ways, cases_eq, eqb-true, lt-ltb}
use Rattle.pm_layout.specs.Chunks.{chunks_of, chunk_described, word_of_descriptor}
use Rattle.pm_layout.specs.Sizes.{blocks_of}
use Rattle.pm_layout.specs.declared.shape.Shape.{Shape}
use Rattle.pm_record.specs.declared.redo.Op.{Op}
use Rattle.pm_record.specs.declared.redo.Op.TheVariants as op
use Rattle.pm_image.specs.Blocks.{descriptor_word}
use Rattle.pm_image.proofs.FaultFree.{chunk_good}
use Rattle.pm_image.proofs.Members.{range_member}
use Rattle.pm_view.specs.Claims.{is_run}
use Rattle.pm_view.specs.Entries.{Entry}
use Rattle.pm_view.specs.Log.{Phase, Idle, Open, Drawn, Sealing, Applying, Clearing, Retiring, Voiding}
use Rattle.pm_view.specs.Parts.{DescriptorPart, part_of}
use Rattle.pm_view.specs.Places.{Place, Descr, word_of}
use Rattle.pm_view.specs.Steps.{Step}
use Rattle.pm_view.specs.Steps.Step.{Load, Store, Or, And, Flush, Drain, TakeWrite, TakeRead, Raise, Give, ZoneTry, ZoneGive, Occupied, Occupy, Vacate, Draw, NumberSeen, StopSeen, SetStop, Tell}
use Rattle.pm_view.specs.View.{View}
use Rattle.pm_view.specs.Views.{part_in}
use Rattle.pm_view.specs.declared.occ.Occ.{Occ}
use Rattle.pm_view.specs.declared.occ.Occ.TheVariants.{Run, Zone}
use Rattle.pm_world.specs.Lawful.{ChangeFits, IsNext, StoreFits}
use Rattle.pm_world.specs.Logs.{PhaseFits}
use Rattle.pm_world.specs.Memory.{Memory, PoolWord, LockWord, ZoneLock, CommitCounter, StopWord, Location, IsSameBut, occ_at}
use Rattle.pm_world.specs.Runs.{IsRun, Leads, Moment}
use Rattle.pm_world.specs.World.{Opening, Views, Past, World}
use Rattle.pm_world.proofs.Cells.{other_number, other_sort}
use Rattle.pm_world.proofs.CrashLaw.{descriptor_part}
use Rattle.pm_world.proofs.EntriesAtPlaces.{AllStand, Stands, log_stands, of_place}
use Rattle.pm_world.proofs.EveryStep.{every_step}
use Rattle.pm_crash.specs.Described.{ClassesBegin, KeepsClasses, MemoryHasClasses, RunsKeepClasses}
use Rattle.pm_crash.proofs.Classes.{class_has_blocks, run_by_byte}
use Rattle.pm_crash.proofs.Spelling.{descriptor_is}

-- a number that is no run's, or that of a class
abbrev HasClass : ℕ → Type 0
HasClass x = is_run x ≡ true → 0 < blocks_of (x / 256)

-- an entry that is left to be applied stands as all do
pub stands_among : (sh : Shape) (lane : ℕ) (ink : lane < sh.lanes) (done : List Entry) (e : Entry) (todo es : List Entry)
    → es ≡ done ++ e ∷ todo → AllStand sh lane ink es → Stands sh lane ink e.place e
stands_among sh lane ink done e todo es is s = go done (subst (AllStand sh lane ink) is s)
  where
    go : (done : List Entry) → AllStand sh lane ink (done ++ e ∷ todo) → Stands sh lane ink e.place e
    go [] s = s.0
    go (d ∷ done) s = go done s.1

module _ (o : Opening) (old : Memory) (views : Views) (g : Past) (k : ℕ) (x : World o old views g) (ink : k < o.lanes) (c : ℕ) (inside : c < chunks_of o.shape) where
  abbrev v : View
  v = views k

  abbrev w : ℕ
  w = word_of_descriptor o.shape c

  of_pool : k < o.shape.lanes
  of_pool = let m = x.most_lanes in omega arith

  part_here : part_in v w ≡ DescriptorPart (chunk_described o.shape w)
  part_here = let f = x.each_lane k ink in
      ap (λ s. part_of s v.fixed.lane w) f.shape ∙ (ap (λ j. part_of o.shape j w) f.lane ∙ descriptor_part o.shape k c of_pool inside)

  -- the next entry is of no run
  next_entry : (todo : List Entry) → v.log.phase ≡ Applying todo → (how : Op) (value : ℕ) → IsNext todo w how value
      → (how ≡ op.Set) × (is_run value ≡ false)
  next_entry [] ph how value n = absurd n
  next_entry (e ∷ todo) ph how value n =
      let f = x.each_lane k ink in
      let p = subst (PhaseFits o.shape k _ v.log v.changes) ph f.log.phase in
      let all = log_stands o.shape k of_pool v.log p.0 (λ i d at. (f.log.pairs i d at).3) in
      by_place e.place (stands_among o.shape k of_pool p.1.done e todo v.log.entries p.1.are all)
    where
      by_place : (d : Option Place) → Stands o.shape k of_pool d e → (how ≡ op.Set) × (is_run value ≡ false)
      by_place None s = absurd (let a = n.0 in omega arith)
      by_place (Some q) s = let there = lt-ltb c (chunks_of o.shape) inside in
          let at : word_of o.shape q ≡ word_of o.shape (Descr c) = s.1 ∙ n.0 in
          ⊎_elim (λ (z : q ≡ Descr c). is_of z) (λ (z : q ≡ Descr c). is_of z) (of_place o.shape k of_pool (Descr c) q there s.0 at)
        where
          is_of : q ≡ Descr c → (how ≡ op.Set) × (is_run value ≡ false)
          is_of z = let y = subst (λ r. Rattle.pm_world.specs.Logs.EntryOf r e.op e.value) z s.2 in
              (sym n.1 ∙ y.0, sym (ap is_run n.2) ∙ y.1)

  stored : (value d : ℕ) (ph : Phase) → v.log.phase ≡ ph → StoreFits v w value ph (DescriptorPart d) → HasClass value
  stored value d Idle e f = absurd f
  stored value d Open e f = λ r. let q = f.is in
      let high : value / 256 ≡ f.lines = omega arith in subst (λ n. 0 < blocks_of n) (sym high) f.some_blocks
  stored value d (Drawn n) e f = absurd f
  stored value d (Sealing n) e f = absurd f
  stored value d (Applying todo) e f = λ r. absurd (both_ways (is_run value) (next_entry todo e op.Set value f).1 r)
  stored value d Clearing e f = absurd f
  stored value d (Retiring n) e f = absurd f
  stored value d Voiding e f = absurd f

  changed : (how : Op) (bits d : ℕ) (ph : Phase) → v.log.phase ≡ ph → ChangeFits v how w bits ph (DescriptorPart d) → how ≡ op.Set
  changed how bits d Idle e f = absurd f
  changed how bits d Open e f = absurd f
  changed how bits d (Drawn n) e f = absurd f
  changed how bits d (Sealing n) e f = absurd f
  changed how bits d (Applying todo) e f = (next_entry todo e how bits f).0
  changed how bits d Clearing e f = absurd f
  changed how bits d (Retiring n) e f = absurd f
  changed how bits d Voiding e f = absurd f

-- operations that are no SETs
is_set : Op → Bool
is_set op.Set = true
is_set op.Or = false
is_set op.And = false

-- words that stay
stays : (o : Opening) (old mem : Memory) → ((w : ℕ) → mem (PoolWord w) ≡ old (PoolWord w)) → MemoryHasClasses o old → MemoryHasClasses o mem
stays o old mem same h = λ c l. subst HasClass (sym (same (word_of_descriptor o.shape c))) (h c l)

but : (at : Location) (old mem : Memory) → IsSameBut at old mem → ((w : ℕ) → PoolWord w ≢ at) → (w : ℕ) → mem (PoolWord w) ≡ old (PoolWord w)
but at old mem e ne w = e (PoolWord w) (ne w)

occ_sort : (at : Occ) (w : ℕ) → PoolWord w ≢ occ_at at
occ_sort (Run place) w = other_sort (PoolWord w) (occ_at (Run place)) (λ q. omega arith)
occ_sort (Zone zone) w = other_sort (PoolWord w) (occ_at (Zone zone)) (λ q. omega arith)

pub keeps : (s : Step) → KeepsClasses s
unfolding is_set
keeps (Store w n) o old mem views g k x ink law m h = λ c l. ⊎_elim
    (λ (e : word_of_descriptor o.shape c ≡ w). subst HasClass (sym (ap (λ i. mem (PoolWord i)) e ∙ m.1))
    (stored o old views g k x ink c l n (chunk_described o.shape (word_of_descriptor o.shape c)) (views k).log.phase refl
    (subst (StoreFits (views k) (word_of_descriptor o.shape c) n (views k).log.phase) (part_here o old views g k x ink c l)
    (subst (λ i. StoreFits (views k) i n (views k).log.phase (part_in (views k) i)) (sym e) law.allowed.fits))))
    (λ (ne : word_of_descriptor o.shape c ≢ w). subst HasClass (sym (m.0 (PoolWord (word_of_descriptor o.shape c))
    (other_number (PoolWord (word_of_descriptor o.shape c)) (PoolWord w) ne))) (h c l))
    (cases_eq (word_of_descriptor o.shape c) w)
keeps (Or w bits found) o old mem views g k x ink law m h = λ c l. ⊎_elim
    (λ (e : word_of_descriptor o.shape c ≡ w). absurd (both_ways false refl (ap is_set
    (changed o old views g k x ink c l op.Or bits (chunk_described o.shape (word_of_descriptor o.shape c)) (views k).log.phase refl
    (subst (ChangeFits (views k) op.Or (word_of_descriptor o.shape c) bits (views k).log.phase) (part_here o old views g k x ink c l)
    (subst (λ i. ChangeFits (views k) op.Or i bits (views k).log.phase (part_in (views k) i)) (sym e) law.allowed.fits))))))
    (λ (ne : word_of_descriptor o.shape c ≢ w). subst HasClass (sym (m.0.0 (PoolWord (word_of_descriptor o.shape c))
    (other_number (PoolWord (word_of_descriptor o.shape c)) (PoolWord w) ne))) (h c l))
    (cases_eq (word_of_descriptor o.shape c) w)
keeps (And w bits found) o old mem views g k x ink law m h = λ c l. ⊎_elim
    (λ (e : word_of_descriptor o.shape c ≡ w). absurd (both_ways false refl (ap is_set
    (changed o old views g k x ink c l op.And bits (chunk_described o.shape (word_of_descriptor o.shape c)) (views k).log.phase refl
    (subst (ChangeFits (views k) op.And (word_of_descriptor o.shape c) bits (views k).log.phase) (part_here o old views g k x ink c l)
    (subst (λ i. ChangeFits (views k) op.And i bits (views k).log.phase (part_in (views k) i)) (sym e) law.allowed.fits))))))
    (λ (ne : word_of_descriptor o.shape c ≢ w). subst HasClass (sym (m.0.0 (PoolWord (word_of_descriptor o.shape c))
    (other_number (PoolWord (word_of_descriptor o.shape c)) (PoolWord w) ne))) (h c l))
    (cases_eq (word_of_descriptor o.shape c) w)
keeps (Load w found) o old mem views g k x ink law m h = stays o old mem (λ w. m.0 (PoolWord w)) h
keeps (Flush line) o old mem views g k x ink law m h = stays o old mem (λ w. m (PoolWord w)) h
keeps Drain o old mem views g k x ink law m h = stays o old mem (λ w. m (PoolWord w)) h
keeps (TakeWrite line true) o old mem views g k x ink law m h =
    stays o old mem (but (LockWord line) old mem m.0 (λ w. other_sort (PoolWord w) (LockWord line) (λ q. omega arith))) h
keeps (TakeWrite line false) o old mem views g k x ink law m h = stays o old mem (λ w. m.0 (PoolWord w)) h
keeps (TakeRead line true) o old mem views g k x ink law m h =
    stays o old mem (but (LockWord line) old mem m.0 (λ w. other_sort (PoolWord w) (LockWord line) (λ q. omega arith))) h
keeps (TakeRead line false) o old mem views g k x ink law m h = stays o old mem (λ w. m.0 (PoolWord w)) h
keeps (Raise line true) o old mem views g k x ink law m h =
    stays o old mem (but (LockWord line) old mem m.0 (λ w. other_sort (PoolWord w) (LockWord line) (λ q. omega arith))) h
keeps (Raise line false) o old mem views g k x ink law m h = stays o old mem (λ w. m.0 (PoolWord w)) h
keeps (Give line) o old mem views g k x ink law m h =
    stays o old mem (but (LockWord line) old mem m.0 (λ w. other_sort (PoolWord w) (LockWord line) (λ q. omega arith))) h
keeps (ZoneTry zone true) o old mem views g k x ink law m h =
    stays o old mem (but (ZoneLock zone) old mem m.0.0 (λ w. other_sort (PoolWord w) (ZoneLock zone) (λ q. omega arith))) h
keeps (ZoneTry zone false) o old mem views g k x ink law m h = stays o old mem (λ w. m.0 (PoolWord w)) h
keeps (ZoneGive zone) o old mem views g k x ink law m h =
    stays o old mem (but (ZoneLock zone) old mem m.0 (λ w. other_sort (PoolWord w) (ZoneLock zone) (λ q. omega arith))) h
keeps (Occupied at found) o old mem views g k x ink law m h = stays o old mem (λ w. m.0 (PoolWord w)) h
keeps (Occupy at bits true) o old mem views g k x ink law m h = stays o old mem (but (occ_at at) old mem m.0.0 (occ_sort at)) h
keeps (Occupy at bits false) o old mem views g k x ink law m h = stays o old mem (λ w. m.0 (PoolWord w)) h
keeps (Vacate at bits) o old mem views g k x ink law m h = stays o old mem (but (occ_at at) old mem m.0 (occ_sort at)) h
keeps (Draw n) o old mem views g k x ink law m h =
    stays o old mem (but CommitCounter old mem m.0.0 (λ w. other_sort (PoolWord w) CommitCounter (λ q. omega arith))) h
keeps (NumberSeen n) o old mem views g k x ink law m h = stays o old mem (λ w. m.0 (PoolWord w)) h
keeps (StopSeen set) o old mem views g k x ink law m h = stays o old mem (λ w. m.0 (PoolWord w)) h
keeps SetStop o old mem views g k x ink law m h =
    stays o old mem (but StopWord old mem m.0 (λ w. other_sort (PoolWord w) StopWord (λ q. omega arith))) h
keeps (Tell operation reply) o old mem views g k x ink law m h = stays o old mem (λ w. m (PoolWord w)) h

-- as a world opens its words have no fault
pub begins : ClassesBegin
begins o mem none same = λ c l r.
    let w = slice_index o.words in
    let at : mem (PoolWord (word_of_descriptor o.shape c)) ≡ w (descriptor_word o.shape.lanes c) =
    same (word_of_descriptor o.shape c) ∙ ap w (descriptor_is o.shape c) in
    let good = chunk_good w o.shape.lanes o.shape.zones c none (range_member (64 * o.shape.zones) c l) in
    let low = eqb-true (w (descriptor_word o.shape.lanes c) % 256) 1 (sym (ap is_run at) ∙ r) in
    let class = run_by_byte w o.shape.lanes c good low in
    subst (λ n. 0 < blocks_of (n / 256)) (sym at)
    (class_has_blocks (w (descriptor_word o.shape.lanes c)) (w (descriptor_word o.shape.lanes c) / 256) class)

pub runs : RunsKeepClasses
unfolding IsRun
runs o [] old new x r h = subst (λ (m : Moment). MemoryHasClasses o m.mem) (sym r) h
runs o (t ∷ rest) old new x r h =
    let next = r.0 in
    let led : Leads o old t next = r.1 in
    let w = subst (λ p. World o next.mem next.views p) (sym led.past)
    (every_step t.step o old.mem next.mem old.views next.views old.past t.lane x led.runs led.lawful led.moves led.view).0 in
    runs o rest next new w r.2 (keeps t.step o old.mem next.mem old.views old.past t.lane x led.runs led.lawful led.moves h)
