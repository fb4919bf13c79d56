-- A NUMBER IS SEEN: a call begins where none is open, and may take a number where the one seen is low.
use Rattle.std.specs.Prelude.{[], ◌∷◌, All, length, is_none}
use Rattle.pm_layout.specs.Areas.{greatest_generation}
use Rattle.std.specs.List.{list_any}
use Rattle.std.proofs.Common.{◌≡◌, ◌≢◌, ℕ, zero, suc, ◌+◌, ◌<◌, ◌≤◌, nat_lt, ◌⊎◌, inl, inr, ⊎_elim, Bool, true, false, cond, ◌&&◌, ◌||◌, eqb, ◌==◌, refl, sym, ap, ◌∙◌, subst, arith, Option, None, Some}
use Rattle.std.proofs.lemmas.Bool.{cases_eq, cases_Bool, eqb-true, ltb-true, both_ways}
use Rattle.pm_view.specs.Changes.{Undrained}
use Rattle.pm_view.specs.Counts.{IsAtStop}
use Rattle.pm_view.specs.Parts.{Part, GenerationPart, SealPart, EntryPart, SlotPart, RootPart, DescriptorPart, ChunkPart, OtherPart, part_of}
use Rattle.pm_view.specs.Entries.{latest, turn}
use Rattle.pm_view.specs.Log.{Phase, Idle, Open, Drawn, Sealing, Applying, Clearing, Retiring, Voiding, Log, new_log}
use Rattle.pm_view.specs.Steps.Step.{NumberSeen}
use Rattle.pm_view.specs.View.{View, Numbered}
use Rattle.pm_view.specs.Views.{after}
use Rattle.pm_world.specs.Sights.{sight_of}
use Rattle.pm_world.specs.Lanes.{Ghost, SightFits, TurnBefore, Flies, flies_at, Bits}
use Rattle.pm_world.specs.Logs.{AreaChange, BumpFits, PhaseFits, seal_in}
use Rattle.pm_world.specs.Memory.{Memory, CommitCounter, StopWord, IsSame, cells_of}
use Rattle.pm_world.specs.World.{Opening, Views, Past, origin, ghost_of, settled_words, LaneFits, may_draw, may_draw_count, World}
use Rattle.pm_world.specs.Laws.{Turn, Keeps}
use Rattle.pm_world.proofs.Counting.{count_same}
use Rattle.pm_world.proofs.Going.{unchanged, at_phase}
use Rattle.pm_world.proofs.StepDraw.{numbers_below, all_numbered}
use Rattle.pm_world.proofs.StepPlain.{lane_told}
use Rattle.pm_world.proofs.Worlds.{turned, world_after, log_again}

-- ---- how many lanes may take a number
abbrev one : Bool → ℕ
one t = cond t 1 0

one_most : (t : Bool) → one t ≤ 1
one_most true = omega arith
one_most false = omega arith

count_most : (views : Views) (n : ℕ) → may_draw_count views n ≤ n
count_most views zero = omega arith
count_most views (suc n) = let a = count_most views n in let b = one_most (may_draw (views n)) in omega arith

-- where lane k may not, no more than before
count_no_more : (views views' : Views) (k : ℕ) (v : View) → Turn views views' k v → may_draw v ≡ false → (n : ℕ) → may_draw_count views' n ≤ may_draw_count views n
count_no_more views views' k v t e zero = omega arith
count_no_more views views' k v t e (suc n) = let a = count_no_more views views' k v t e n in ⊎_elim
    (λ (q : n ≡ k). let z : one (may_draw (views' n)) ≡ 0 = ap (λ i. one (may_draw (views' i))) q ∙ (ap (λ y. one (may_draw y)) t.here ∙ ap one e) in omega arith)
    (λ (ne : n ≢ k). let z : one (may_draw (views' n)) ≡ one (may_draw (views n)) = ap (λ y. one (may_draw y)) (t.else_ n ne) in omega arith) (cases_eq n k)

-- ---- the log of a call that begins
turn_begins : (l m h : Bool) (a : Option Bool) → a ≡ None → TurnBefore l m h a
turn_begins l m h None e = tt
turn_begins l m h (Some y) e = absurd (both_ways false refl (ap Rattle.pm_world.specs.States.given (sym e)))

area_begins : (count generation : ℕ) (part : Part) (c : Undrained) → AreaChange Idle count generation part c → AreaChange Open count generation part c
area_begins count generation GenerationPart c e = absurd e
area_begins count generation SealPart c e = absurd e
area_begins count generation EntryPart c e = tt
area_begins count generation SlotPart c e = tt
area_begins count generation RootPart c e = tt
area_begins count generation (DescriptorPart d) c e = absurd e
area_begins count generation (ChunkPart d i) c e = tt
area_begins count generation OtherPart c e = absurd e

module _ (o : Opening) (mem new : Memory) (views views' : Views) (g : Past) (x : World o mem views g) (k : ℕ) (ink : k < o.lanes) (same : IsSame mem new) (n : ℕ) (counted : n ≡ mem CommitCounter) (v : View) (t : Turn views views' k v) where
  -- numbers do not run out
  seen_room : (may_draw v ≡ true → nat_lt n (greatest_generation o.shape) ≡ true) ⊎ (may_draw v ≡ may_draw (views k)) → mem CommitCounter + may_draw_count views' o.lanes < greatest_generation o.shape + 32
  seen_room u = ⊎_elim (λ (e : may_draw v ≡ true). by_low e u) (λ (e : may_draw v ≡ false). let a = count_no_more views views' k v t e o.lanes in let b = x.counter_room in omega arith) (cases_Bool (may_draw v))
    where
      by_low : may_draw v ≡ true → (may_draw v ≡ true → nat_lt n (greatest_generation o.shape) ≡ true) ⊎ (may_draw v ≡ may_draw (views k)) → mem CommitCounter + may_draw_count views' o.lanes < greatest_generation o.shape + 32
      by_low e (inl low) = let l = ltb-true n (greatest_generation o.shape) (low e) in let m = count_most views' o.lanes in let few = x.few_lanes in omega arith
      by_low e (inr s) = subst (λ m. mem CommitCounter + m < greatest_generation o.shape + 32) (sym (count_same views views' k v t s o.lanes)) x.counter_room

  seen_world : (may_draw v ≡ true → nat_lt n (greatest_generation o.shape) ≡ true) ⊎ (may_draw v ≡ may_draw (views k)) → (IsAtStop (views k) → IsAtStop v) → LaneFits o mem g k v
      → Bits o.shape o.lanes (origin o) (cells_of o.shape mem) (λ j. sight_of (views' j)) (ghost_of g) → World o new views' g
  seen_world u stops lane bits = subst (λ m. World o m views' g) (λ i l. sym (same l) i) (world_after o mem views g x k ink mem views' g (settled_words o g) v refl
      record { writer = λ l j ne. refl; reader = λ l j ne. refl; pool = λ p b u w. refl; set = λ p b u. refl; descr = λ c u. refl; up = λ c n e. e; runs = λ c u. refl; holder = λ B j ne e. e; holder_back = λ B j ne e. e; class = λ c u. refl; first = λ c j ne. inl refl; flies = λ j n d ne w y. y }
      record { generation = λ j ne. refl; seal = λ j ne. refl; entry = λ j i h ne. refl; slot = λ j m i ne. refl; zone = λ z j ne. refl; entries = λ j ne. refl }
      t bits lane x.of_lanes x.small x.header (seen_room u)
      (⊎_elim (λ (e : mem StopWord ≡ 0). inl e) (λ (e : (j : ℕ) × (j < o.lanes) × IsAtStop (views j)). inr (e.0, e.1, still e.0 e.2)) x.stop_word))
    where
      still : (j : ℕ) → IsAtStop (views j) → IsAtStop (views' j)
      still j e = ⊎_elim (λ (q : j ≡ k). subst (λ i. IsAtStop (views' i)) (sym q) (subst IsAtStop (sym t.here) (stops (subst (λ i. IsAtStop (views i)) q e)))) (λ (ne : j ≢ k). subst IsAtStop (sym (t.else_ j ne)) e) (cases_eq j k)

-- a call may take a number once it saw a low one, or as before
draws_so : (none_ low before : Bool) → ((none_ && (low || before)) ≡ true → low ≡ true) ⊎ ((none_ && (low || before)) ≡ (none_ && before))
draws_so none_ true before = inl (λ e. refl)
draws_so none_ false before = inr refl

-- ---- WHERE A CALL IS OPEN
seen_open : (o : Opening) (mem new : Memory) (views views' : Views) (g : Past) (x : World o mem views g) (k : ℕ) (ink : k < o.lanes) → IsSame mem new → (n : ℕ) → n ≡ mem CommitCounter → Turn views views' k (record (views k) { seen = NumberSeen n ∷ (views k).seen }) → World o new views' g
seen_open o mem new views views' g x k ink same n counted t = let v : View = record (views k) { seen = NumberSeen n ∷ (views k).seen } in let f = x.each_lane k ink in
    seen_world o mem new views views' g x k ink same n counted v t
    (subst (λ s. (may_draw v ≡ true → nat_lt n (greatest_generation s) ≡ true) ⊎ (may_draw v ≡ may_draw (views k))) f.shape (draws_so (is_none (views k).number) (nat_lt n (greatest_generation (views k).fixed.shape)) (list_any (Rattle.pm_world.specs.World.is_low (views k).fixed.shape) (views k).seen)))
    (λ e. e) (lane_told o mem g k (views k) (NumberSeen n ∷ (views k).seen) (views k).call (views k).actions (views k).published f)
    (unchanged o.shape o.lanes (origin o) (cells_of o.shape mem) (λ j. sight_of (views j)) (ghost_of g) x.bits k ink (sight_of v) (λ j. sight_of (views' j)) refl (λ m y. y) (x.bits.each_lane k) (turned views views' k v t))

-- ---- WHERE NONE IS
module _ (o : Opening) (mem new : Memory) (views views' : Views) (g : Past) (x : World o mem views g) (k : ℕ) (ink : k < o.lanes) (same : IsSame mem new) (n : ℕ) (counted : n ≡ mem CommitCounter) (idle_ : (views k).log.phase ≡ Idle) where
  abbrev opened : Log
  opened = record (views k).log { phase = Open }

  abbrev begun_view : View
  begun_view = record (views k) { log = record (views k).log { phase = Open }; seen = NumberSeen n ∷ []; call = []; number = None; published = [] }

  idle_log : ((views k).log.records ≡ []) × ((views k).log.entries ≡ []) × ((views k).log.slot ≡ []) × ((views k).log.pair ≡ [])
  idle_log = subst (PhaseFits o.shape k (sight_of (views k)).picture (views k).log (views k).changes) idle_ (x.each_lane k ink).log.phase

  unbumped : (views k).log.bumped ≡ false
  unbumped = subst (λ ph. BumpFits ph (views k).log.bumped) idle_ (x.each_lane k ink).log.bump

  new_log_is : new_log Open (views k).log.generation ≡ opened
  new_log_is = λ i. record { phase = Open; generation = (views k).log.generation; bumped = sym unbumped i; records = sym idle_log.0 i; entries = sym idle_log.1 i; slot = sym idle_log.2 i; pair = sym idle_log.3 i }

  begins : Turn views views' k begun_view → World o new views' g
  begins t = let f = x.each_lane k ink in let q = f.log in let z = at_phase o.shape o.lanes (origin o) (cells_of o.shape mem) (λ j. sight_of (views j)) (ghost_of g) x.bits k ink Idle idle_ in
      seen_world o mem new views views' g x k ink same n counted begun_view t
      (subst (λ s. (may_draw begun_view ≡ true → nat_lt n (greatest_generation s) ≡ true) ⊎ (may_draw begun_view ≡ may_draw (views k))) f.shape (inl (low_alone (nat_lt n (greatest_generation (views k).fixed.shape)))))
      (λ e. e)
      record {
        lane = f.lane;
        shape = f.shape;
        lanes = f.lanes;
        log = log_again Open q unbumped (q.sealed ∙ ap (λ ph. seal_in ph (length (views k).log.entries)) idle_) (λ p y e b. let z = q.olds p y e b in (z.0, λ _. z.1 (ap Rattle.pm_world.specs.Lanes.is_decided idle_)))
            q.slot_changes
            (λ i d l. let c = Rattle.std.proofs.Common.get_or (views k).changes i d in area_begins (length (views k).log.entries) (views k).log.generation (part_of o.shape k c.word) c
            (subst (λ ph. AreaChange ph (length (views k).log.entries) (views k).log.generation (part_of o.shape k c.word) c) idle_ (q.area_changes i d l)))
            ((let e = ap length idle_log.2 in omega arith, let e = ap length idle_log.3 in omega arith));
        made = λ u. absurd (both_ways false refl u);
        recorded = λ u p y. f.recorded (ap Rattle.pm_world.specs.Lanes.is_decided idle_) p y;
        number = refl;
        zones = f.zones;
        masks = f.masks;
        room = f.room;
        within = f.within;
        alone = λ one. let a = f.alone one in record { words = a.words; occupancy = a.occupancy };
        entries = f.entries;
      }
      (unchanged o.shape o.lanes (origin o) (cells_of o.shape mem) (λ j. sight_of (views j)) (ghost_of g) x.bits k ink (record (sight_of (views k)) { phase = Open }) (λ j. sight_of (views' j)) refl (λ m y. subst (λ ph. flies_at ph m) idle_ y)
      record {
        hold = z.hold;
        bits = z.bits;
        picture = z.picture;
        turns = λ B. turn_begins ((sight_of (views k)).hold.locked (Rattle.pm_view.specs.Places.header o.shape g.geo B)) ((sight_of (views k)).hold.mine B) ((sight_of (views k)).hold.here B) (turn (latest (sight_of (views k)).call.entries) B) (z.turns B);
        call = record { flight = tt; todo = z.call.todo; descr = z.call.descr };
        reach = z.reach;
        plain = z.plain;
        logged = z.logged;
        stored = z.stored;
        fresh = z.fresh;
        sizes = z.sizes;
        born = z.born;
        guarded = z.guarded;
        soiled = z.soiled;
      } (turned views views' k begun_view t))
    where
      low_alone : (low : Bool) → (true && (low || false)) ≡ true → low ≡ true
      low_alone true e = refl
      low_alone false e = e

pub number_seen : (n : ℕ) → Keeps (NumberSeen n)
number_seen n o mem new views views' g k x ink law moves t = let f = x.each_lane k ink in let e : n ≡ g.length = moves.1 ∙ x.bits.counter in (
  by_phase (views k).log.phase refl law.allowed t,
  (
    subst (λ l. All (λ (y : Numbered). y.number ≤ n) l) (sym f.entries) (numbers_below k g.drew g.length n (omega arith)),
    λ one. let l : o.lanes ≡ 1 = sym f.lanes ∙ eqb-true (views k).fixed.lanes 1 one in e ∙ (sym (all_numbered k g.drew g.length (λ m q. let z = x.of_lanes m q in omega arith)) ∙ sym (ap length f.entries)),
  ),
)
  where
    by_phase : (ph : Phase) → (views k).log.phase ≡ ph → Rattle.pm_view.specs.Log.is_early ph ≡ true → Turn views views' k (Rattle.pm_view.specs.Views.with_seen (NumberSeen n) (Rattle.pm_view.specs.Views.begun ph (views k))) → World o new views' g
    by_phase Idle q e t = begins o mem new views views' g x k ink moves.0 n moves.1 q (subst (λ (l : Log). Turn views views' k (record (views k) { log = l; seen = NumberSeen n ∷ []; call = []; number = None; published = [] })) (new_log_is o mem new views views' g x k ink moves.0 n moves.1 q) t)
    by_phase Open q e t = seen_open o mem new views views' g x k ink moves.0 n moves.1 t
    by_phase (Drawn m) q e t = absurd (both_ways false refl e)
    by_phase (Sealing m) q e t = absurd (both_ways false refl e)
    by_phase (Applying es) q e t = absurd (both_ways false refl e)
    by_phase Clearing q e t = absurd (both_ways false refl e)
    by_phase (Retiring m) q e t = absurd (both_ways false refl e)
    by_phase Voiding q e t = absurd (both_ways false refl e)
