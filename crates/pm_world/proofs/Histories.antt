-- THE HISTORY IS KEPT: only a draw owes anything, for its own call: no other in flight changes
-- what its lane owns or sees.
use Rattle.std.proofs.Common.{◌≡◌, ◌≢◌, ℕ, suc, ◌<◌, ◌≤◌, inl, inr, ⊎_elim, Bool, true, false}
use Rattle.std.proofs.Common.{cond, ◌==◌, ◌||◌, List, [], ◌∷◌, refl, sym, ap, ◌∙◌, subst, arith}
use Rattle.std.proofs.lemmas.Bool.{cases_eq, cases_Bool, both_ways, false_from_ne_true, or_cases}
use Rattle.pm_view.specs.Changes.{Undrained, drained}
use Rattle.pm_view.specs.Places.{Place}
use Rattle.pm_view.specs.Parts.{Part, GenerationPart, SealPart, EntryPart, SlotPart, RootPart}
use Rattle.pm_view.specs.Parts.{DescriptorPart, ChunkPart, OtherPart}
use Rattle.pm_view.specs.Log.{Phase, Idle, Open, Drawn, Sealing, Applying, Clearing}
use Rattle.pm_view.specs.Log.{Retiring, Voiding, phase_drawn}
use Rattle.pm_view.specs.Steps.{Step}
use Rattle.pm_view.specs.Steps.Step.{Load, Store, Or, And, Flush, Drain, TakeWrite, TakeRead}
use Rattle.pm_view.specs.Steps.Step.{Raise, Give, ZoneTry, ZoneGive, Occupied, Occupy, Vacate}
use Rattle.pm_view.specs.Steps.Step.{Draw, NumberSeen, StopSeen, SetStop, Tell}
use Rattle.pm_view.specs.View.{View}
use Rattle.pm_view.specs.Views.{part_in}
use Rattle.pm_world.specs.States.{State, Diff, Call, diff, given, replay, put1}
use Rattle.pm_world.specs.Sights.{Sight, call_in, sight_of}
use Rattle.pm_world.specs.Lanes.{Ghost, owns, sees, FlightFits, SightFits, Flies, flies_at}
use Rattle.pm_world.specs.Memory.{Memory, cells_of}
use Rattle.pm_world.specs.World.{Opening, Views, Past, World, origin, ghost_of, settled_words}
use Rattle.pm_world.specs.Course.{is_idle, past_drawn, past_made, past_decided, past_drained}
use Rattle.pm_world.specs.Course.{past_stored, past_after}
use Rattle.pm_world.specs.Laws.{History}
use Rattle.pm_world.specs.Histories.{HistoryBegins, KeepsHistory}
use Rattle.pm_world.proofs.Frame.{owns_apart, sees_apart}
use Rattle.pm_world.proofs.Replays.{put1_here, put1_else, replay_same}

pub begins : HistoryBegins
begins o g was ghosts e = record { finds = λ keep d n l. absurd (omega arith) }

-- ---- STEPS OTHER THAN THE DRAW: the entries stay, and the decided calls only grow
pub record Grows (g g' : Past) : Type 0 where
  pub drew : g'.drew ≡ g.drew
  pub length : g'.length ≡ g.length
  pub decided : (m : ℕ) → g.decided m ≡ true → g'.decided m ≡ true

pub stays : (g : Past) → Grows g g
stays g = record { drew = refl; length = refl; decided = λ m e. e }

pub stored_grows : (ph : Phase) (q : Part) (n : ℕ) (g : Past) → Grows g (past_stored ph q n g)
stored_grows Open GenerationPart n g = stays g
stored_grows Open SealPart n g = stays g
stored_grows Open EntryPart n g = stays g
stored_grows Open SlotPart n g = stays g
stored_grows Open RootPart n g = stays g
stored_grows Open (DescriptorPart d) n g =
    record { drew = refl; length = refl; decided = λ m e. e }
stored_grows Open (ChunkPart d i) n g = stays g
stored_grows Open OtherPart n g = stays g
stored_grows Idle q n g = stays g
stored_grows (Drawn m) q n g = stays g
stored_grows (Sealing m) q n g = stays g
stored_grows (Applying todo) q n g = stays g
stored_grows Clearing q n g = stays g
stored_grows (Retiring m) q n g = stays g
stored_grows Voiding q n g = stays g

still_true : (t d : Bool) → d ≡ true → cond t true d ≡ true
still_true true d e = refl
still_true false d e = e

drained_grows : (ph : Phase) (v : View) (g : Past) (left : List Undrained)
    → Grows g (past_decided ph v (past_made g v left))
drained_grows Idle v g left = record { drew = refl; length = refl; decided = λ m e. e }
drained_grows Open v g left = record { drew = refl; length = refl; decided = λ m e. e }
drained_grows (Drawn n) v g left = record { drew = refl; length = refl; decided = λ m e. e }
drained_grows (Sealing n) v g left =
    record { drew = refl; length = refl; decided = λ m e. still_true (m == n) (g.decided m) e }
drained_grows (Applying todo) v g left = record { drew = refl; length = refl; decided = λ m e. e }
drained_grows Clearing v g left = record { drew = refl; length = refl; decided = λ m e. e }
drained_grows (Retiring n) v g left =
    record { drew = refl; length = refl; decided = λ m e. still_true (m == n) (g.decided m) e }
drained_grows Voiding v g left = record { drew = refl; length = refl; decided = λ m e. e }

pub drain_grows : (g : Past) (v : View) (left : List Undrained) → Grows g (past_drained g v left)
drain_grows g v [] = drained_grows v.log.phase v g []
drain_grows g v (u ∷ left) = record { drew = refl; length = refl; decided = λ m e. e }

-- the bit is under a right of the lane's view as it drew, or seen
abbrev Knew : Ghost → State → View → Place → ℕ → Type 0
Knew ghost was v p b =
    (owns ghost.geo was (sight_of v).hold p b || sees ghost.geo was (sight_of v).hold p b) ≡ true

keeps : (o : Opening) (g g' : Past) (was : ℕ → State) (ghosts : ℕ → Ghost) → Grows g g'
    → History o g was ghosts → History o g' was ghosts
keeps o g g' was ghosts w h = record { finds = finds }
  where
    finds : (keep : ℕ → Bool) → ((m : ℕ) → m < g'.length → g'.decided m ≡ true → keep m ≡ true)
        → (n : ℕ) → n < g'.length → (p : Place) (b : ℕ) → Knew (ghosts n) (was n) (g'.drew n) p b
        → replay keep (origin o) (ghost_of g').log n p b ≡ was n p b
    finds keep d n low p b = let l = w.length in
        subst (λ (z : ℕ → View). Knew (ghosts n) (was n) (z n) p b
        → replay keep (origin o) (λ m. call_in (z m)) n p b ≡ was n p b) (sym w.drew)
        (h.finds keep (λ m t y. d m (omega arith) (w.decided m y)) n (omega arith) p b)

-- ---- THE DRAW
pub at_flight : (ph : Phase) (n : ℕ) (d : Diff) (P : ℕ → Diff → Type 0)
    → flies_at ph n → FlightFits P ph d → P n d
at_flight Idle n d P e f = absurd e
at_flight Open n d P e f = absurd e
at_flight (Drawn m) n d P e f = subst (λ z. P z d) e f
at_flight (Sealing m) n d P e f = subst (λ z. P z d) e f
at_flight (Applying t) n d P e f = absurd e
at_flight Clearing n d P e f = absurd e
at_flight (Retiring m) n d P e f = subst (λ z. P z d) e f
at_flight Voiding n d P e f = absurd e

module _ (o : Opening) (mem : Memory) (views : Views) (g : Past) (k : ℕ) (x : World o mem views g)
    (is_open : (views k).log.phase ≡ Open) where
  abbrev S : State
  S = settled_words o g

  abbrev G : Ghost
  G = ghost_of g

  abbrev sight : ℕ → Sight
  sight j = sight_of (views j)

  fit : (j : ℕ) → SightFits o.shape (cells_of o.shape mem) S (Flies G j) G j (sight j)
  fit j = x.bits.each_lane j

  abbrev owned : ℕ → Place → ℕ → Bool
  owned j p b = owns g.geo S (sight j).hold p b

  abbrev seen : Place → ℕ → Bool
  seen p b = sees g.geo S (sight k).hold p b

  -- what lane k owns or sees no other lane owns
  others_apart : (j : ℕ) → j ≢ k → (p : Place) (b : ℕ) → Knew G S (views k) p b
      → owned j p b ≡ false
  others_apart j ne p b t = ⊎_elim
      (λ (e : owned k p b ≡ true). owns_apart o.shape (cells_of o.shape mem) S (Flies G k)
      (Flies G j) G x.bits.geo x.bits.alone k j (sight k) (sight j) (fit k) (fit j)
      (λ e. ne (sym e)) p b e)
      (λ (e : seen p b ≡ true). sees_apart o.shape (cells_of o.shape mem) S (Flies G k)
      (Flies G j) G x.bits.geo x.bits.alone k j (sight k) (sight j) (fit k) (fit j)
      (λ e. ne (sym e)) p b e)
      (or_cases (owned k p b) (seen p b) t)

  -- a call that is not decided makes nothing of it
  undecided_apart : (m : ℕ) → m < g.length → g.decided m ≡ false → (p : Place) (b : ℕ)
      → Knew G S (views k) p b → given (diff (call_in (g.drew m)) p b) ≡ false
  undecided_apart m l u p b t =
      let j = (g.drew m).fixed.lane in
      let flies = x.bits.flying m l u in
      let d = diff (sight j).call in
      let f = at_flight (sight j).phase m d (Flies G j) flies (fit j).call.flight in
      ⊎_elim
      (λ (s : j ≡ k). absurd (subst (λ ph. flies_at ph m)
      (ap (λ i. (views i).log.phase) s ∙ is_open) flies))
      (λ (ne : j ≢ k). ap given (f.1 p b) ∙ false_from_ne_true (given (d p b))
      (λ e. both_ways (owned j p b) (others_apart j ne p b t) ((fit j).reach p b e)))
      (cases_eq j k)

  -- WHICHEVER CALLS ARE KEPT, the words are there as they are settled
  knows : (keep : ℕ → Bool)
      → ((m : ℕ) → m < g.length → g.decided m ≡ true → keep m ≡ true)
      → (p : Place) (b : ℕ) → Knew G S (views k) p b
      → replay keep (origin o) G.log g.length p b ≡ S p b
  knows keep d p b t = replay_same g.decided keep (origin o) G.log G.log p b g.length (λ m l. (
    refl,
    ⊎_elim (λ (y : g.decided m ≡ true). inl (d m l y ∙ sym y))
        (λ (y : g.decided m ≡ false). inr (undecided_apart m l y p b t))
        (cases_Bool (g.decided m)),
  ))

  module _ (was : ℕ → State) (ghosts : ℕ → Ghost) (h : History o g was ghosts) where
    abbrev drew' : ℕ → View
    drew' = put1 g.drew g.length (views k)

    abbrev was' : ℕ → State
    was' = put1 was g.length S

    abbrev ghosts' : ℕ → Ghost
    ghosts' = put1 ghosts g.length G

    abbrev log' : ℕ → Call
    log' m = call_in (drew' m)

    before : (keep : ℕ → Bool) (n : ℕ) (p : Place) (b : ℕ) → n ≤ g.length
        → replay keep (origin o) log' n p b ≡ replay keep (origin o) G.log n p b
    before keep n p b l = replay_same keep keep (origin o) G.log log' p b n (λ m low. (
      ap (λ (v : View). diff (call_in v) p b)
          (put1_else g.drew g.length (views k) m (λ s. omega arith)),
      inl refl,
    ))

    -- the fact of one call, by what its view, the settled words and the ghosts were then
    abbrev Fact : (ℕ → Bool) → Place → ℕ → ℕ → View → State → Ghost → Type 0
    Fact keep p b n v s ghost = Knew ghost s v p b → replay keep (origin o) log' n p b ≡ s p b

    module _ (keep : ℕ → Bool)
        (d : (m : ℕ) → m < suc g.length → (past_drawn g (views k)).decided m ≡ true
        → keep m ≡ true)
        (p : Place) (b : ℕ) where
      kept : (m : ℕ) → m < g.length → g.decided m ≡ true → keep m ≡ true
      kept m l y =
          let done = is_idle (phase_drawn g.length (views k).log.records (views k).log.entries) in
          d m (omega arith) (put1_else g.decided g.length done m (λ s. omega arith) ∙ y)

      of_new : Fact keep p b g.length (drew' g.length) (was' g.length) (ghosts' g.length)
      of_new =
          subst (λ v. Fact keep p b g.length v (was' g.length) (ghosts' g.length))
          (sym (put1_here g.drew g.length (views k)))
          (subst (λ s. Fact keep p b g.length (views k) s (ghosts' g.length))
          (sym (put1_here was g.length S))
          (subst (λ w. Fact keep p b g.length (views k) S w)
          (sym (put1_here ghosts g.length G))
          (λ t. before keep g.length p b (omega arith) ∙ knows keep kept p b t)))

      of_old : (n : ℕ) → n < g.length → Fact keep p b n (drew' n) (was' n) (ghosts' n)
      of_old n l =
          subst (λ v. Fact keep p b n v (was' n) (ghosts' n))
          (sym (put1_else g.drew g.length (views k) n (λ s. omega arith)))
          (subst (λ s. Fact keep p b n (g.drew n) s (ghosts' n))
          (sym (put1_else was g.length S n (λ s. omega arith)))
          (subst (λ w. Fact keep p b n (g.drew n) (was n) w)
          (sym (put1_else ghosts g.length G n (λ s. omega arith)))
          (λ t. before keep n p b (omega arith) ∙ h.finds keep kept n l p b t)))

      of_each : (n : ℕ) → n < suc g.length → Fact keep p b n (drew' n) (was' n) (ghosts' n)
      of_each n low = ⊎_elim
          (λ (e : n ≡ g.length). subst (λ i. Fact keep p b i (drew' i) (was' i) (ghosts' i))
          (sym e) of_new)
          (λ (ne : n ≢ g.length). of_old n (omega arith)) (cases_eq n g.length)

    drawn : History o (past_drawn g (views k)) was' ghosts'
    drawn = record { finds = λ keep d n low p b. of_each keep d p b n low }

-- EVERY KIND OF STEP KEEPS THE HISTORY
pub goes_on : (s : Step) → KeepsHistory s
goes_on (Store w n) o mem views g k x ink law was ghosts h =
    keeps o g (past_stored (views k).log.phase (part_in (views k) w) n g) was ghosts
    (stored_grows (views k).log.phase (part_in (views k) w) n g) h
goes_on Drain o mem views g k x ink law was ghosts h =
    keeps o g (past_drained g (views k) (drained (views k).changes)) was ghosts
    (drain_grows g (views k) (drained (views k).changes)) h
goes_on (Occupy at bits true) o mem views g k x ink law was ghosts h =
    keeps o g (past_after g (views k) (Occupy at bits true)) was ghosts
    (record { drew = refl; length = refl; decided = λ m e. e }) h
goes_on (Occupy at bits false) o mem views g k x ink law was ghosts h = h
goes_on (Vacate at bits) o mem views g k x ink law was ghosts h =
    keeps o g (past_after g (views k) (Vacate at bits)) was ghosts
    (record { drew = refl; length = refl; decided = λ m e. e }) h
goes_on (Draw n) o mem views g k x ink law was ghosts h =
    drawn o mem views g k x law.allowed.is_open was ghosts h
goes_on (Load w found) o mem views g k x ink law was ghosts h = h
goes_on (Or w bits found) o mem views g k x ink law was ghosts h = h
goes_on (And w bits found) o mem views g k x ink law was ghosts h = h
goes_on (Flush line) o mem views g k x ink law was ghosts h = h
goes_on (TakeWrite line won) o mem views g k x ink law was ghosts h = h
goes_on (TakeRead line won) o mem views g k x ink law was ghosts h = h
goes_on (Raise line won) o mem views g k x ink law was ghosts h = h
goes_on (Give line) o mem views g k x ink law was ghosts h = h
goes_on (ZoneTry zone won) o mem views g k x ink law was ghosts h = h
goes_on (ZoneGive zone) o mem views g k x ink law was ghosts h = h
goes_on (Occupied at found) o mem views g k x ink law was ghosts h = h
goes_on (NumberSeen n) o mem views g k x ink law was ghosts h = h
goes_on (StopSeen stopped) o mem views g k x ink law was ghosts h = h
goes_on SetStop o mem views g k x ink law was ghosts h = h
goes_on (Tell operation reply) o mem views g k x ink law was ghosts h = h
