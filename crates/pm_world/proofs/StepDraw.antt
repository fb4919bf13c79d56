-- A LANE DRAWS ITS CALL'S NUMBER.
use Rattle.std.specs.Prelude.{List, [], ◌∷◌, All, IsTrue, length, is_none}
use Rattle.pm_layout.specs.Areas.{greatest_generation}
use Rattle.std.specs.List.{list_any}
use Rattle.std.proofs.Common.{◌≡◌, ◌≢◌, ℕ, zero, suc, ◌+◌, ◌*◌, ◌^◌, ◌<◌, ◌≤◌, ◌⊎◌, inl, inr, ⊎_elim, Bool, true, false, cond, nat_lt, ◌==◌, ◌&&◌, ◌||◌, refl, sym, ap, ◌∙◌, subst, arith, eq-eqb, ne_eqb, Option, None, Some}
use Rattle.std.proofs.lemmas.Bool.{cases_eq, cases_Bool, eqb-true, lt-ltb, both_ways, and_from, and_parts, cond-true, cond-false}
use Rattle.std.proofs.lemmas.List.Folds.{list_any_at}
use Rattle.pm_layout.specs.Chunks.{line_of_chunk}
use Rattle.pm_view.specs.Changes.{Undrained}
use Rattle.pm_view.specs.Places.{Place, InRun, InHuge, Descr, RootWord, Block, Small, Big, Root, header, same_place}
use Rattle.pm_view.specs.Entries.{Entry, given_bit, latest, redos, with_redo, turn, first_of_two}
use Rattle.pm_view.specs.Log.{Phase, Idle, Open, Drawn, Recorded, Log, phase_drawn}
use Rattle.pm_view.specs.Claims.{class, locked, header_in}
use Rattle.pm_view.specs.Steps.Step.{Draw, NumberSeen}
use Rattle.pm_view.specs.View.{View, Numbered, entry_drawn}
use Rattle.pm_view.specs.Views.{after}
use Rattle.pm_view.specs.Counts.{IsAtStop}
use Rattle.pm_world.specs.States.{diff, given, over, after_diff, val, root_line, put1}
use Rattle.pm_world.specs.Sights.{Hold, is_use, is_soiled, call_of, call_in, sight_of}
use Rattle.pm_world.specs.Lanes.{Ghost, own, rights, owns, TurnBefore, TurnFlight, GuardsFit, SightFits, Flies, flies_at}
use Rattle.pm_world.specs.Logs.{LogFits, AreaChange}
use Rattle.pm_world.specs.Memory.{Memory, PoolWord, ZoneLock, CommitCounter, StopWord, bit, cells_of}
use Rattle.pm_world.specs.World.{Opening, Views, Past, origin, ghost_of, settled_words, numbered_by, LaneFits, NumberFits, is_low, may_draw, World}
use Rattle.pm_world.specs.Lawful.{HoldsRoot, KeepsRoot, NewBlock, FilledChange, HasDrained, MayDraw}
use Rattle.pm_world.specs.Course.{is_idle, past_drawn}
use Rattle.pm_world.specs.Laws.{Turn, Keeps}
use Rattle.pm_world.proofs.Basics.{and_false, val_alike}
use Rattle.pm_world.proofs.Births.{born}
use Rattle.pm_world.proofs.Cells.{cells_counted}
use Rattle.pm_world.proofs.Counting.{count_less}
use Rattle.pm_world.proofs.Draws.{Longer, settled_same, around, draws, draws_idle}
use Rattle.pm_world.proofs.Frame.{mine_own, own_has}
use Rattle.pm_world.proofs.Going.{Turned, at_phase}
use Rattle.pm_world.proofs.Replays.{put1_here, put1_else}
use Rattle.pm_world.proofs.Values.{val_word}
use Rattle.pm_world.proofs.Worlds.{Aside, turned, world_after, log_again, log_again}

-- ---- what is to be decided
drawn_cases : (rs : List Recorded) (es : List Entry) → ((rs ≡ []) × (es ≡ [])) ⊎ ((n : ℕ) → phase_drawn n rs es ≡ Drawn n)
drawn_cases [] [] = inl (refl, refl)
drawn_cases [] (e ∷ es) = inr (λ n. refl)
drawn_cases (r ∷ rs) es = inr (λ n. refl)

abbrev RootEntries : View → (ℕ → Option Bool) → Type 0
RootEntries v d = ((b : ℕ) → d b ≡ None) ⊎ ((x : ℕ) × (x < 2 ^ 64) × HoldsRoot v x × ((b : ℕ) → b < 64 → d b ≡ Some (bit x b)))

root_entries : (v : View) (es : List Entry) → All (KeepsRoot v) es → RootEntries v (latest (redos es) RootWord)
root_entries v [] a = inl (λ b. refl)
root_entries v (e ∷ es) a = go e.place refl (root_entries v es (λ k d l. a (suc k) d (omega arith)))
  where
    first_none : (d c : Option Bool) → d ≡ None → first_of_two d c ≡ c
    first_none d c q = ap (λ y. first_of_two y c) q

    first_some : (d c : Option Bool) (y : Bool) → d ≡ Some y → first_of_two d c ≡ Some y
    first_some d c y q = ap (λ z. first_of_two z c) q

    beside : (p : Place) → same_place p RootWord ≡ false → RootEntries v (latest (redos es) RootWord) → RootEntries v (latest (record { place = p; op = e.op; value = e.value } ∷ redos es) RootWord)
    beside p s r = ⊎_elim (λ (n : (b : ℕ) → latest (redos es) RootWord b ≡ None). inl (λ b. first_none (latest (redos es) RootWord b) (cond (same_place p RootWord) (given_bit e.op e.value b) None) (n b) ∙ cond-false (same_place p RootWord) (given_bit e.op e.value b) None s))
        (λ (n : (x : ℕ) × (x < 2 ^ 64) × HoldsRoot v x × ((b : ℕ) → b < 64 → latest (redos es) RootWord b ≡ Some (bit x b))). inr (n.0, n.1, n.2, λ b l. first_some (latest (redos es) RootWord b) (cond (same_place p RootWord) (given_bit e.op e.value b) None) (bit n.0 b) (n.3 b l))) r

    here : e.place ≡ Some RootWord → RootEntries v (latest (redos es) RootWord) → RootEntries v (latest (record { place = RootWord; op = e.op; value = e.value } ∷ redos es) RootWord)
    here q r = let y = a zero e (omega arith) q in ⊎_elim (λ (n : (b : ℕ) → latest (redos es) RootWord b ≡ None). inr (e.value, y.1, y.2, λ b l. first_none (latest (redos es) RootWord b) (given_bit e.op e.value b) (n b) ∙ (ap (λ z. given_bit z e.value b) y.0 ∙ cond-true (nat_lt b 64) (Some (bit e.value b)) None (lt-ltb b 64 l))))
        (λ (n : (x : ℕ) × (x < 2 ^ 64) × HoldsRoot v x × ((b : ℕ) → b < 64 → latest (redos es) RootWord b ≡ Some (bit x b))). inr (n.0, n.1, n.2, λ b l. first_some (latest (redos es) RootWord b) (given_bit e.op e.value b) (bit n.0 b) (n.3 b l))) r

    go : (p : Option Place) → e.place ≡ p → RootEntries v (latest (redos es) RootWord) → RootEntries v (latest (with_redo p e (redos es)) RootWord)
    go None q r = r
    go (Some (InRun c w)) q r = beside (InRun c w) refl r
    go (Some (InHuge c w)) q r = beside (InHuge c w) refl r
    go (Some (Descr c)) q r = beside (Descr c) refl r
    go (Some RootWord) q r = here q r

pub all_cons : {X : Type 0} → (P : X → Type 0) (y : X) (xs : List X) → P y → All P xs → All P (y ∷ xs)
all_cons P y xs p q zero d l = p
all_cons P y xs p q (suc i) d l = q i d (omega arith)

-- ---- entries of the history
pub numbered_alike : (k : ℕ) (drew drew' : ℕ → View) (n : ℕ) → ((m : ℕ) → m < n → drew' m ≡ drew m) → numbered_by k drew' n ≡ numbered_by k drew n
numbered_alike k drew drew' zero h = refl
numbered_alike k drew drew' (suc n) h = ap (λ v. cond (v.fixed.lane == k) (entry_drawn n v ∷ numbered_by k drew' n) (numbered_by k drew' n)) (h n (omega arith))
    ∙ ap (λ t. cond ((drew n).fixed.lane == k) (entry_drawn n (drew n) ∷ t) t) (numbered_alike k drew drew' n (λ m l. h m (omega arith)))

pub numbers_below : (k : ℕ) (drew : ℕ → View) (n m : ℕ) → n ≤ m → All (λ (e : Numbered). e.number ≤ m) (numbered_by k drew n)
numbers_below k drew zero m l = λ i d q. absurd (omega arith)
numbers_below k drew (suc n) m l = go ((drew n).fixed.lane == k) (numbers_below k drew n m (omega arith))
  where
    go : (t : Bool) → All (λ (e : Numbered). e.number ≤ m) (numbered_by k drew n) → All (λ (e : Numbered). e.number ≤ m) (cond t (entry_drawn n (drew n) ∷ numbered_by k drew n) (numbered_by k drew n))
    go true r = all_cons (λ (e : Numbered). e.number ≤ m) (entry_drawn n (drew n)) (numbered_by k drew n) l r
    go false r = r

pub all_numbered : (k : ℕ) (drew : ℕ → View) (n : ℕ) → ((m : ℕ) → m < n → (drew m).fixed.lane ≡ k) → length (numbered_by k drew n) ≡ n
all_numbered k drew zero h = refl
all_numbered k drew (suc n) h = ap (λ t. length (cond t (entry_drawn n (drew n) ∷ numbered_by k drew n) (numbered_by k drew n))) (eq-eqb (drew n).fixed.lane k (h n (omega arith))) ∙ ap suc (all_numbered k drew n (λ m l. h m (omega arith)))

undecided : (n : ℕ) (rs : List Recorded) (es : List Entry) → Rattle.pm_world.specs.Lanes.is_decided (phase_drawn n rs es) ≡ false
undecided n [] [] = refl
undecided n [] (e ∷ es) = refl
undecided n (r ∷ rs) [] = refl
undecided n (r ∷ rs) (e ∷ es) = refl

flight_of : (l m h : Bool) (a : Option Bool) → TurnBefore l m h a → (a ≡ Some true → m ≡ true → l ≡ true) → TurnFlight l m h a
flight_of l m h None f u = tt
flight_of l m h (Some true) f u = (f, u refl f)
flight_of l m h (Some false) f u = f

module _ (o : Opening) (mem new : Memory) (views views' : Views) (g : Past) (x : World o mem views g) (k : ℕ) (ink : k < o.lanes) (a : MayDraw (views k)) (same : Rattle.pm_world.specs.Memory.IsSameBut CommitCounter mem new) (count : new CommitCounter ≡ suc g.length) (t : Turn views views' k (after (views k) (Draw g.length))) where
  abbrev v : View
  v = views k

  abbrev g' : Past
  g' = past_drawn g (views k)

  f : LaneFits o mem g k (views k)
  f = x.each_lane k ink

  counter : mem CommitCounter ≡ g.length
  counter = x.bits.counter

  cells_new : cells_of o.shape new ≡ record (cells_of o.shape mem) { counter = suc (cells_of o.shape mem).counter }
  cells_new = cells_counted o.shape mem new same ∙ ap (λ n. record (cells_of o.shape mem) { counter = n }) (count ∙ sym (ap suc counter))

  longer_by : (done : Bool) → is_idle (phase_drawn g.length (views k).log.records (views k).log.entries) ≡ done → Longer (ghost_of g) k (sight_of (views k)).call done (ghost_of (past_drawn g (views k))).log (ghost_of (past_drawn g (views k))).who (ghost_of (past_drawn g (views k))).decided
  longer_by done e = record {
    log_here = λ p b. ap (λ y. diff (call_in y) p b) (put1_here g.drew g.length (views k));
    log_else = λ n l. ap call_in (put1_else g.drew g.length (views k) n (λ q. omega arith));
    who_here = ap (λ y. y.fixed.lane) (put1_here g.drew g.length (views k)) ∙ f.lane;
    who_else = λ n l. ap (λ y. y.fixed.lane) (put1_else g.drew g.length (views k) n (λ q. omega arith));
    decided_here = put1_here g.decided g.length (is_idle (phase_drawn g.length (views k).log.records (views k).log.entries)) ∙ e;
    decided_else = λ n l. put1_else g.decided g.length (is_idle (phase_drawn g.length (views k).log.records (views k).log.entries)) n (λ q. omega arith);
  }

  at_open : SightFits o.shape (cells_of o.shape mem) (settled_words o g) (Flies (ghost_of g) k) (ghost_of g) k (record (sight_of (views k)) { phase = Open })
  at_open = at_phase o.shape o.lanes (origin o) (cells_of o.shape mem) (λ j. sight_of (views j)) (ghost_of g) x.bits k ink Open a.is_open

  -- the new blocks are marked
  mark : (B : Block) → turn (latest (redos (views k).log.entries)) B ≡ Some true → (sight_of (views k)).hold.mine B ≡ true → (sight_of (views k)).hold.locked (header o.shape g.geo B) ≡ true
  mark (Small c i) e m = let h = at_open.hold.class c i (own_has (sight_of (views k)).hold (Small c i) (mine_own (sight_of (views k)).hold (Small c i) m)) in
      ap (λ s. locked (views k).claims (line_of_chunk s c + (1 + g.geo.class c * i))) (sym f.shape) ∙ (ap (λ n. locked (views k).claims (line_of_chunk (views k).fixed.shape c + (1 + n * i))) (sym h) ∙ (a.new_blocks (Small c i) e).marked)
  mark (Big y) e m = ap (λ s. locked (views k).claims (line_of_chunk s y)) (sym f.shape) ∙ (a.new_blocks (Big y) e).marked
  mark Root e m = absurd (a.new_blocks Root e)

  guarded : GuardsFit (settled_words o g) (ghost_of g) (sight_of (views k)).hold (diff (call_in (views k)))
  guarded b o' = ⊎_elim (λ (n : (b : ℕ) → latest (redos (views k).log.entries) RootWord b ≡ None).
      let e : after_diff (diff (call_in (views k))) (settled_words o g) RootWord ≡ settled_words o g RootWord = λ i c. ap (λ d. over (first_of_two d None) (settled_words o g RootWord c)) (n c) i in
      subst (λ w. rights (sight_of (views k)).hold Root (0 ∷ root_line (val w 0 64)) ≡ true) (sym e) o')
      (λ (n : (y : ℕ) × (y < 2 ^ 64) × HoldsRoot (views k) y × ((b : ℕ) → b < 64 → latest (redos (views k).log.entries) RootWord b ≡ Some (bit y b))).
      let e : val (after_diff (diff (call_in (views k))) (settled_words o g) RootWord) 0 64 ≡ n.0 = val_alike (after_diff (diff (call_in (views k))) (settled_words o g) RootWord) (bit n.0) 0 64 (λ c l. ap (λ d. over (first_of_two d None) (settled_words o g RootWord c)) (n.3 c (omega arith))) ∙ val_word n.0 n.1 in
      subst (λ w. rights (sight_of (views k)).hold Root (0 ∷ root_line w) ≡ true) (sym e) (Rattle.std.proofs.lemmas.Bool.or_right ((sight_of (views k)).hold.mine Root || false) (Rattle.pm_world.specs.Lanes.all_held (locked (views k).claims) (0 ∷ root_line n.0)) n.2)) (root_entries (views k) (views k).log.entries a.root)

  aside : Aside o k mem new g (past_drawn g (views k))
  aside = record {
    generation = λ j ne. ap (λ c. c.generation j) cells_new;
    seal = λ j ne. ap (λ c. c.seal j) cells_new;
    entry = λ j i h ne. ap (λ c. c.entry j i h) cells_new;
    slot = λ j m i ne. ap (λ c. c.slot j m i) cells_new;
    zone = λ z j ne. ap (λ c. c.zone z == suc j) cells_new;
    entries = λ j ne. let lane : (put1 g.drew g.length (views k) g.length).fixed.lane ≡ k = ap (λ y. y.fixed.lane) (put1_here g.drew g.length (views k)) ∙ f.lane in
        cond-false ((put1 g.drew g.length (views k) g.length).fixed.lane == j) (entry_drawn g.length (put1 g.drew g.length (views k) g.length) ∷ numbered_by j (put1 g.drew g.length (views k)) g.length) (numbered_by j (put1 g.drew g.length (views k)) g.length) (ne_eqb (put1 g.drew g.length (views k) g.length).fixed.lane j (λ q. ne (sym (sym lane ∙ q))))
        ∙ numbered_alike j g.drew (put1 g.drew g.length (views k)) g.length (λ m l. put1_else g.drew g.length (views k) m (λ q. omega arith));
  }

  own_entries : (entry_drawn g.length (views k) ∷ (views k).entries) ≡ numbered_by k (put1 g.drew g.length (views k)) (suc g.length)
  own_entries = let e = put1_here g.drew g.length (views k) in let lane : (put1 g.drew g.length (views k) g.length).fixed.lane ≡ k = ap (λ y. y.fixed.lane) e ∙ f.lane in
      ap (λ l. entry_drawn g.length (views k) ∷ l) (f.entries ∙ sym (numbered_alike k g.drew (put1 g.drew g.length (views k)) g.length (λ m l. put1_else g.drew g.length (views k) m (λ q. omega arith))))
      ∙ (ap (λ y. entry_drawn g.length y ∷ numbered_by k (put1 g.drew g.length (views k)) g.length) (sym e)
      ∙ sym (cond-true ((put1 g.drew g.length (views k) g.length).fixed.lane == k) (entry_drawn g.length (put1 g.drew g.length (views k) g.length) ∷ numbered_by k (put1 g.drew g.length (views k)) g.length) (numbered_by k (put1 g.drew g.length (views k)) g.length) (eq-eqb (put1 g.drew g.length (views k) g.length).fixed.lane k lane)))

  -- ---- the log
  abbrev Logged : Log → Type 0
  Logged l = LogFits o.shape k ((cells_of o.shape mem).generation k) ((cells_of o.shape mem).seal k) ((cells_of o.shape mem).entry k) ((cells_of o.shape mem).slot k) (settled_words o g) (owns g.geo (settled_words o g) (sight_of (views k)).hold) (sight_of (views k)).picture l (views k).changes

  open_log : Logged (record (views k).log { phase = Open })
  open_log = subst (λ ph. Logged (record (views k).log { phase = ph })) a.is_open f.log

  log_drawn : (views k).changes ≡ [] → Logged (record (views k).log { phase = Drawn g.length })
  log_drawn e = let l = open_log in log_again (Drawn g.length) l l.bump l.sealed l.olds
      (λ i d q. let z = ap length e in absurd (omega arith))
      (λ i d q. let z = ap length e in absurd (omega arith))
      ((e, a.whole.0, a.whole.1))

  chunk_change : (p : Rattle.pm_view.specs.Parts.Part) (c : Undrained) → Rattle.pm_world.specs.Lawful.is_chunk_part p ≡ true → AreaChange Idle (length (views k).log.entries) (views k).log.generation p c
  chunk_change Rattle.pm_view.specs.Parts.GenerationPart c e = both_ways false refl e
  chunk_change Rattle.pm_view.specs.Parts.SealPart c e = both_ways false refl e
  chunk_change Rattle.pm_view.specs.Parts.EntryPart c e = both_ways false refl e
  chunk_change Rattle.pm_view.specs.Parts.SlotPart c e = both_ways false refl e
  chunk_change Rattle.pm_view.specs.Parts.RootPart c e = tt
  chunk_change (Rattle.pm_view.specs.Parts.DescriptorPart d) c e = both_ways false refl e
  chunk_change (Rattle.pm_view.specs.Parts.ChunkPart d i) c e = tt
  chunk_change Rattle.pm_view.specs.Parts.OtherPart c e = both_ways false refl e

  log_idle : (views k).log.records ≡ [] → (views k).log.entries ≡ [] → Logged (record (views k).log { phase = Idle })
  log_idle er ee = let l = open_log in log_again Idle l l.bump l.sealed l.olds
      (⊎_elim (λ (e : (views k).changes ≡ []). λ i d q. let z = ap length e in absurd (omega arith))
      (λ (e : ((views k).log.records ≡ []) × ((views k).log.entries ≡ []) × All (FilledChange (views k)) (views k).changes). λ i d q s. let c = Rattle.std.specs.Prelude.slice_index_or (views k).changes i d in
      absurd (both_ways true (sym (subst (λ n. Rattle.pm_world.specs.Lawful.is_chunk_part (Rattle.pm_view.specs.Parts.part_of o.shape n c.word) ≡ true) f.lane (subst (λ t. Rattle.pm_world.specs.Lawful.is_chunk_part (Rattle.pm_view.specs.Parts.part_of t (views k).fixed.lane c.word) ≡ true) f.shape (e.2 i d q).0)) ∙ ap Rattle.pm_world.specs.Lawful.is_chunk_part s) refl)) a.drained)
      (⊎_elim (λ (e : (views k).changes ≡ []). λ i d q. let z = ap length e in absurd (omega arith))
      (λ (e : ((views k).log.records ≡ []) × ((views k).log.entries ≡ []) × All (FilledChange (views k)) (views k).changes). λ i d q. let c = Rattle.std.specs.Prelude.slice_index_or (views k).changes i d in
      chunk_change (Rattle.pm_view.specs.Parts.part_of o.shape k c.word) c (subst (λ n. Rattle.pm_world.specs.Lawful.is_chunk_part (Rattle.pm_view.specs.Parts.part_of o.shape n c.word) ≡ true) f.lane (subst (λ s. Rattle.pm_world.specs.Lawful.is_chunk_part (Rattle.pm_view.specs.Parts.part_of s (views k).fixed.lane c.word) ≡ true) f.shape (e.2 i d q).0))) a.drained)
      ((er, ee, a.whole.0, a.whole.1))

  alike : (w : ℕ) → new (PoolWord w) ≡ mem (PoolWord w)
  alike w = same (PoolWord w) (Rattle.pm_world.proofs.Cells.other_sort (PoolWord w) CommitCounter (λ q. omega arith))

  occ_sort : (at : Rattle.pm_view.specs.declared.occ.Occ.Occ) → Rattle.pm_world.specs.Memory.occ_at at ≢ CommitCounter
  occ_sort (Rattle.pm_view.specs.declared.occ.Occ.TheVariants.Run place) e = let q = ap Rattle.pm_world.proofs.Cells.sort e in omega arith
  occ_sort (Rattle.pm_view.specs.declared.occ.Occ.TheVariants.Zone zone) e = let q = ap Rattle.pm_world.proofs.Cells.sort e in omega arith

  could : may_draw (views k) ≡ true
  could = and_from (is_none (views k).number) (list_any (is_low (views k).fixed.shape) (views k).seen) (ap is_none a.first)
      (list_any_at (is_low (views k).fixed.shape) (views k).seen a.seen.0 (NumberSeen a.found) a.seen.1 (ap (is_low (views k).fixed.shape) a.seen.2 ∙ lt-ltb a.found (greatest_generation (views k).fixed.shape) a.below))

  -- ---- the world, where the words settled stay and the phase after is this one
  module _ (done : Bool) (ph : Phase) (e : phase_drawn g.length (views k).log.records (views k).log.entries ≡ ph) (e' : is_idle ph ≡ done) (u : (p : Place) (b : ℕ) → (done ≡ false) ⊎ (given (diff (sight_of (views k)).call p b) ≡ false))
      (log : Logged (record (views k).log { phase = ph })) (number : NumberFits ph (Some (suc g.length))) where
    longer_now : Longer (ghost_of g) k (sight_of (views k)).call done (ghost_of (past_drawn g (views k))).log (ghost_of (past_drawn g (views k))).who (ghost_of (past_drawn g (views k))).decided
    longer_now = longer_by done (ap is_idle e ∙ e')

    settled_now : settled_words o (past_drawn g (views k)) ≡ settled_words o g
    settled_now = settled_same o.shape o.lanes (origin o) (cells_of o.shape mem) (λ j. sight_of (views j)) (ghost_of g) x.bits k ink done (ghost_of (past_drawn g (views k))).log (ghost_of (past_drawn g (views k))).who (ghost_of (past_drawn g (views k))).decided longer_now u

    lane_now : LaneFits o new (past_drawn g (views k)) k (after (views k) (Draw g.length))
    lane_now = record {
      lane = f.lane;
      shape = f.shape;
      lanes = f.lanes;
      log = subst (λ s. LogFits o.shape k ((cells_of o.shape new).generation k) ((cells_of o.shape new).seal k) ((cells_of o.shape new).entry k) ((cells_of o.shape new).slot k) s (owns g.geo s (sight_of (views k)).hold) (sight_of (views k)).picture (record (views k).log { phase = phase_drawn g.length (views k).log.records (views k).log.entries }) (views k).changes) (sym settled_now)
          (subst (λ c. LogFits o.shape k (c.generation k) (c.seal k) (c.entry k) (c.slot k) (settled_words o g) (owns g.geo (settled_words o g) (sight_of (views k)).hold) (sight_of (views k)).picture (record (views k).log { phase = phase_drawn g.length (views k).log.records (views k).log.entries }) (views k).changes) (sym cells_new)
          (subst (λ z. Logged (record (views k).log { phase = z })) (sym e) log));
      made = λ t. absurd (both_ways (Rattle.pm_world.specs.Lanes.is_decided (phase_drawn g.length (views k).log.records (views k).log.entries)) (undecided g.length (views k).log.records (views k).log.entries) t);
      recorded = λ un p q. f.recorded (ap Rattle.pm_world.specs.Lanes.is_decided a.is_open) p q;
      number = subst (λ z. NumberFits z (Some (suc g.length))) (sym e) number;
      zones = λ z. ap (λ c. c.zone z == suc k) cells_new ∙ f.zones z;
      masks = f.masks;
      room = f.room;
      within = f.within;
      alone = λ one. let y = f.alone one in record { words = λ w n q. alike w ∙ y.words w n q; occupancy = λ at n q. let z = y.occupancy at n q in (same (Rattle.pm_world.specs.Memory.occ_at at) (occ_sort at) ∙ z.0, z.1) };
      entries = own_entries;
    }

    world_now : Rattle.pm_world.specs.Lanes.Bits o.shape o.lanes (origin o) (record (cells_of o.shape mem) { counter = suc (cells_of o.shape mem).counter }) (λ j. sight_of (views' j)) (ghost_of (past_drawn g (views k))) → World o new views' (past_drawn g (views k))
    world_now bits = world_after o mem views g x k ink new views' (past_drawn g (views k)) (settled_words o g) (after (views k) (Draw g.length)) settled_now
        (subst (λ c. Rattle.pm_world.proofs.Frame.Around k (sight_of (views k)).hold (λ j. (sight_of (views j)).hold) (cells_of o.shape mem) c (settled_words o g) (settled_words o g) (ghost_of g) (ghost_of (past_drawn g (views k)))) (sym cells_new)
        (around o.shape o.lanes (origin o) (cells_of o.shape mem) (λ j. sight_of (views j)) (ghost_of g) x.bits k ink done (ghost_of (past_drawn g (views k))).log (ghost_of (past_drawn g (views k))).who (ghost_of (past_drawn g (views k))).decided longer_now u))
        aside t (subst (λ c. Rattle.pm_world.specs.Lanes.Bits o.shape o.lanes (origin o) c (λ j. sight_of (views' j)) (ghost_of (past_drawn g (views k)))) (sym cells_new) bits) lane_now
        (λ n l. ⊎_elim (λ (q : n ≡ g.length). subst (λ i. i < o.lanes) (sym (ap (λ i. (put1 g.drew g.length (views k) i).fixed.lane) q ∙ (ap (λ y. y.fixed.lane) (put1_here g.drew g.length (views k)) ∙ f.lane))) ink)
        (λ (ne : n ≢ g.length). subst (λ y. y.fixed.lane < o.lanes) (sym (put1_else g.drew g.length (views k) n ne)) (x.of_lanes n (omega arith))) (cases_eq n g.length))
        (λ w. subst (λ n. n < 2 ^ 64) (sym (alike w)) (x.small w)) (λ w h. alike w ∙ x.header w h)
        (let less = count_less views views' k (after (views k) (Draw g.length)) t could refl o.lanes ink in let room = x.counter_room in let c = counter in let n = count in omega arith)
        (⊎_elim (λ (q : mem StopWord ≡ 0). inl (same StopWord (Rattle.pm_world.proofs.Cells.other_sort StopWord CommitCounter (λ z. omega arith)) ∙ q)) (λ (q : (j : ℕ) × (j < o.lanes) × IsAtStop (views j)). inr (q.0, q.1, Rattle.pm_world.proofs.Worlds.stops_stay views views' k (after (views k) (Draw g.length)) t (λ z. z) q.0 q.2)) x.stop_word)

  turned_to : (ph : Phase) → phase_drawn g.length (views k).log.records (views k).log.entries ≡ ph → Turned (λ j. sight_of (views j)) (λ j. sight_of (views' j)) k (record (sight_of (views k)) { phase = ph })
  turned_to ph e = subst (λ z. Turned (λ j. sight_of (views j)) (λ j. sight_of (views' j)) k (record (sight_of (views k)) { phase = z })) e (turned views views' k (after (views k) (Draw g.length)) t)

  -- a call that is to be decided
  flying_world : phase_drawn g.length (views k).log.records (views k).log.entries ≡ Drawn g.length → (views k).changes ≡ [] → World o new views' (past_drawn g (views k))
  flying_world e none_ = world_now false (Drawn g.length) e refl (λ p b. inl refl) (log_drawn none_) refl
      (draws o.shape o.lanes (origin o) (cells_of o.shape mem) (λ j. sight_of (views j)) (ghost_of g) x.bits k ink false (ghost_of (past_drawn g (views k))).log (ghost_of (past_drawn g (views k))).who (ghost_of (past_drawn g (views k))).decided (longer_by false (ap is_idle e)) refl a.is_open
      (λ p b. subst (λ c. is_soiled (views k).fixed.shape (sight_of (views k)).hold c p b ≡ false) (sym none_) (and_false (is_use (sight_of (views k)).hold p)))
      (λ B. flight_of ((sight_of (views k)).hold.locked (header o.shape g.geo B)) ((sight_of (views k)).hold.mine B) ((sight_of (views k)).hold.here B) (turn (latest (redos (views k).log.entries)) B) (at_open.turns B) (mark B))
      (born o.shape (cells_of o.shape mem) (settled_words o g) (Flies (ghost_of g) k) (ghost_of g) x.bits.geo k (views k) (x.bits.each_lane k) a.new_blocks) guarded (λ j. sight_of (views' j)) (turned_to (Drawn g.length) e))

  -- a call that makes nothing final
  nothing : (rs : List Recorded) (es : List Entry) → rs ≡ [] → es ≡ [] → (p : Place) (b : ℕ) → given (diff (call_of (views k).fixed.shape (views k).claims (record (views k).log { records = rs; entries = es })) p b) ≡ false
  nothing rs es er ee p b = subst (λ r. given (diff (call_of (views k).fixed.shape (views k).claims (record (views k).log { records = r; entries = es })) p b) ≡ false) (sym er) (subst (λ n. given (diff (call_of (views k).fixed.shape (views k).claims (record (views k).log { records = []; entries = n })) p b) ≡ false) (sym ee)
      (empty (Rattle.pm_view.specs.Places.is_data p) (turn (latest []) (Rattle.pm_view.specs.Places.block_of (Rattle.pm_view.specs.Claims.geometry (views k).fixed.shape (views k).claims) p b)) ((sight_of (views k)).picture p b) (no_turn (Rattle.pm_view.specs.Places.block_of (Rattle.pm_view.specs.Claims.geometry (views k).fixed.shape (views k).claims) p b))))
    where
      no_turn : (B : Block) → turn (latest []) B ≡ None
      no_turn (Small c i) = refl
      no_turn (Big c) = refl
      no_turn Root = refl

      empty : (d : Bool) (r y : Option Bool) → r ≡ None → given (cond (d && (Rattle.pm_world.specs.Sights.is_made r || false)) y None) ≡ false
      empty d r y q = subst (λ z. given (cond (d && (Rattle.pm_world.specs.Sights.is_made z || false)) y None) ≡ false) (sym q) (ap (λ z. given (cond z y None)) (and_false d))

  idle_turn : (es : List Entry) → es ≡ [] → (B : Block) → turn (latest (redos es)) B ≡ None
  idle_turn es ee (Small c i) = ap (λ n. latest (redos n) (InRun c 0) i) ee
  idle_turn es ee (Big c) = ap (λ n. latest (redos n) (Descr c) 1) ee
  idle_turn es ee Root = refl

  idle_world : (views k).log.records ≡ [] → (views k).log.entries ≡ [] → World o new views' (past_drawn g (views k))
  idle_world er ee = let e : phase_drawn g.length (views k).log.records (views k).log.entries ≡ Idle = ap (λ r. phase_drawn g.length r (views k).log.entries) er ∙ ap (λ n. phase_drawn g.length [] n) ee in
      let none_ = nothing (views k).log.records (views k).log.entries er ee in
      world_now true Idle e refl (λ p b. inr (none_ p b)) (log_idle er ee) tt
      (draws_idle o.shape o.lanes (origin o) (cells_of o.shape mem) (λ j. sight_of (views j)) (ghost_of g) x.bits k ink true (ghost_of (past_drawn g (views k))).log (ghost_of (past_drawn g (views k))).who (ghost_of (past_drawn g (views k))).decided (longer_by true (ap is_idle e)) refl a.is_open none_ (idle_turn (views k).log.entries ee) (λ j. sight_of (views' j)) (turned_to Idle e))

  pub drawn_world : World o new views' (past_drawn g (views k))
  drawn_world = ⊎_elim (λ (e : ((views k).log.records ≡ []) × ((views k).log.entries ≡ [])). idle_world e.0 e.1)
      (λ (e : (n : ℕ) → phase_drawn n (views k).log.records (views k).log.entries ≡ Drawn n). flying_world (e g.length) (⊎_elim (λ (q : (views k).changes ≡ []). q)
      (λ (q : ((views k).log.records ≡ []) × ((views k).log.entries ≡ []) × All (FilledChange (views k)) (views k).changes). absurd (not_both q.0 q.1 (e g.length))) a.drained)) (drawn_cases (views k).log.records (views k).log.entries)
    where
      not_both : (views k).log.records ≡ [] → (views k).log.entries ≡ [] → phase_drawn g.length (views k).log.records (views k).log.entries ≡ Drawn g.length → ⊥
      not_both er ee q = both_ways true (ap is_idle (sym (ap (λ r. phase_drawn g.length r (views k).log.entries) er ∙ ap (λ n. phase_drawn g.length [] n) ee) ∙ q)) refl

  -- it settles nothing: the call is not decided, or makes nothing final
  pub drawn_settled : settled_words o (past_drawn g (views k)) ≡ settled_words o g
  drawn_settled = ⊎_elim (λ (e : ((views k).log.records ≡ []) × ((views k).log.entries ≡ [])).
      let idle_now : phase_drawn g.length (views k).log.records (views k).log.entries ≡ Idle = ap (λ r. phase_drawn g.length r (views k).log.entries) e.0 ∙ ap (λ n. phase_drawn g.length [] n) e.1 in
      settled_same o.shape o.lanes (origin o) (cells_of o.shape mem) (λ j. sight_of (views j)) (ghost_of g) x.bits k ink true (ghost_of (past_drawn g (views k))).log (ghost_of (past_drawn g (views k))).who (ghost_of (past_drawn g (views k))).decided (longer_by true (ap is_idle idle_now))
      (λ p b. inr (nothing (views k).log.records (views k).log.entries e.0 e.1 p b)))
      (λ (e : (n : ℕ) → phase_drawn n (views k).log.records (views k).log.entries ≡ Drawn n).
      settled_same o.shape o.lanes (origin o) (cells_of o.shape mem) (λ j. sight_of (views j)) (ghost_of g) x.bits k ink false (ghost_of (past_drawn g (views k))).log (ghost_of (past_drawn g (views k))).who (ghost_of (past_drawn g (views k))).decided (longer_by false (ap is_idle (e g.length)))
      (λ p b. inl refl)) (drawn_cases (views k).log.records (views k).log.entries)

-- THE DRAW OF A NUMBER KEEPS THE WORLD
pub draw : (n : ℕ) → Keeps (Draw n)
draw n o mem new views views' g k x ink law moves t = let a = law.allowed in let f = x.each_lane k ink in let e : n ≡ g.length = moves.1 ∙ x.bits.counter in (
  drawn_world o mem new views views' g x k ink a moves.0.0 (let c = moves.0.1 in omega arith) (subst (λ m. Turn views views' k (after (views k) (Draw m))) e t),
  (
    subst (λ l. All (λ (y : Numbered). y.number ≤ n) l) (sym f.entries) (numbers_below k g.drew g.length n (omega arith)),
    λ one. let l : o.lanes ≡ 1 = sym f.lanes ∙ eqb-true (views k).fixed.lanes 1 one in e ∙ (sym (all_numbered k g.drew g.length (λ m q. let z = x.of_lanes m q in omega arith)) ∙ sym (ap length f.entries)),
    (let room = x.counter_room in let c = moves.1 in omega (arith, room, c)),
  ),
)
