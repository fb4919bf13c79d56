-- EACH STEP OF AN OPEN CALL leaves the lane that makes it knowing no less.
use Rattle.std.proofs.Common.{◌≡◌, ◌≢◌, ◌⊎◌, inl, inr, ⊎_elim, ℕ, zero, suc, ◌+◌, ◌*◌, ◌<◌, ◌≤◌, ◌/◌, ◌%◌, nat_le, nat_lt, ◌==◌, ◌&&◌, ◌||◌, not, Bool, true, false, cond, List, [], ◌∷◌, ◌++◌, length, Option, None, Some, refl, sym, ap, ◌∙◌, subst, arith, eq-eqb, ne_eqb}
use Rattle.std.specs.Option.{option_map}
use Rattle.std.specs.List.{list_any}
use Rattle.pm_model.specs.Blocks.{Block as Placed}
use Rattle.std.proofs.lemmas.Bool.{and_from, and_parts, both_ways, cases_Bool, cond-false, cond-true, eqb-true, false_from_ne_true, le-leb, leb-true, lt-ltb, ltb-true, or_left, or_right}
use Rattle.pm_layout.specs.declared.shape.Shape.{Shape}
use Rattle.pm_layout.specs.Chunks.{chunks_of, word_of_chunk}
use Rattle.pm_view.specs.declared.occ.Occ.{Occ}
use Rattle.pm_view.specs.declared.occ.Occ.TheVariants.{Run, Zone}
use Rattle.pm_view.specs.Changes.{Undrained, drained, flushed}
use Rattle.pm_view.specs.Claims.{Claim, Took, Raised, Gave, SawDescriptor, SawBitmap, Reserved, Released, Marked, Drained, Knows, becomes, block_at, class, first, found, header_in, holds, is_among, is_block_of, is_new, is_new_by, locked, lowest, making, mine, passes, pictured, reads, shown_by_bitmap, shown_by_descriptor, span}
use Rattle.pm_view.specs.Log.{Phase, Open, Voiding, Log, log_drained, log_stored, old_of, recorded, with_pair}
use Rattle.pm_view.specs.Parts.{Part, GenerationPart, SealPart, EntryPart, SlotPart, RootPart, DescriptorPart, ChunkPart, OtherPart}
use Rattle.pm_view.specs.Places.{Place, InRun, InHuge, Descr, RootWord, Block, Small, Big, Root, is_data, part, word_of}
use Rattle.pm_view.specs.Steps.{Step}
use Rattle.pm_view.specs.Steps.Step.{Load, Store, Or, And, Flush, Drain, TakeWrite, TakeRead, Raise, Give, ZoneTry, ZoneGive, Occupied, Occupy, Vacate, Draw, NumberSeen, StopSeen, SetStop, Tell}
use Rattle.pm_view.specs.View.{Seen, View}
use Rattle.pm_view.specs.Views.{after, begun, changed, claims_drained, decided_by, drained_to, learned, log_left, marked_by, part_in, seen_by, with_seen}
use Rattle.pm_world.specs.States.{there}
use Rattle.pm_world.specs.Sights.{is_pictured, is_recorded, picture, sight_of}
use Rattle.pm_world.specs.Lawful.{ChangeFits, StoreFits}
use Rattle.pm_world.specs.Memory.{Memory, PoolWord, ZoneWord, bit}
use Rattle.pm_world.specs.Logs.{AreRestored, PhaseFits}
use Rattle.pm_view.specs.Entries.{first_of_two}
use Rattle.pm_world.specs.Course.{past_after, past_decided, past_drained, past_made, past_stored}
use Rattle.pm_world.specs.World.{Opening, Views, Past, World, origin, settled_words}
use Rattle.pm_world.proofs.BlockLines.{classes_stay}
use Rattle.pm_world.proofs.EveryStep.{every_step}
use Rattle.pm_world.proofs.Looks.{passed}
use Rattle.pm_world.proofs.Recording.{recorded_more}
use Rattle.pm_world.proofs.RowBits.{lowest_row, row_bit}
use Rattle.pm_world.proofs.WordPlaces.{clear_bit}
use Rattle.pm_crash.specs.Footprints.{bit_before, has_found, has_own}
use Rattle.pm_crash.specs.Roots.{saw_root}
use Rattle.pm_crash.specs.Sim.{Grows, IsInObject, blocks_kept, is_kept_block, known_offset, sees_at}
use Rattle.pm_crash.specs.SimSteps.{GivesUpNothing, IsStep, IsVoiding, StepsGrow, StepsKeepSims, VoidingGrows, goes_on}
use Rattle.pm_crash.proofs.Growing as growing
use Rattle.pm_crash.proofs.Onward.{stored_calls}
use Rattle.pm_crash.proofs.RootClaims.{held_by, saw_held}
use Rattle.pm_crash.proofs.Simulation.{sim_stays}
use Rattle.pm_crash.proofs.StepKnows as known
use Rattle.pm_crash.proofs.Telling.{still_place}

-- ---- THE SETTLED WORDS STAY, in an open call

stored_same : (o : Opening) (ph : Phase) (q : Part) (n : ℕ) (g : Past) → settled_words o (past_stored ph q n g) ≡ settled_words o g
stored_same o ph q n g = let c = stored_calls ph q n g in
    λ i. Rattle.pm_world.specs.States.replay (c.2 i) (origin o) (λ m. Rattle.pm_world.specs.Sights.call_in (c.0 i m)) (c.1 i)

drained_same : (o : Opening) (g : Past) (v : View) (left : List Undrained) → v.log.phase ≡ Open → settled_words o (past_drained g v left) ≡ settled_words o g
drained_same o g v (u ∷ left) e = refl
drained_same o g v [] e = ap (λ ph. settled_words o (past_decided ph v (past_made g v []))) e

same_settled : (o : Opening) (g : Past) (v : View) (s : Step) → v.log.phase ≡ Open → goes_on v s ≡ true → settled_words o (past_after g v s) ≡ settled_words o g
same_settled o g v (Store w n) e u = stored_same o v.log.phase (part_in v w) n g
same_settled o g v Drain e u = drained_same o g v (drained v.changes) e
same_settled o g v (Draw n) e u = absurd (both_ways false refl u)
same_settled o g v (Occupy at bits true) e u = refl
same_settled o g v (Occupy at bits false) e u = refl
same_settled o g v (Load w found) e u = refl
same_settled o g v (Or w bits found) e u = refl
same_settled o g v (And w bits found) e u = refl
same_settled o g v (Flush line) e u = refl
same_settled o g v (TakeWrite line won) e u = refl
same_settled o g v (TakeRead line won) e u = refl
same_settled o g v (Raise line won) e u = refl
same_settled o g v (Give line) e u = refl
same_settled o g v (ZoneTry zone won) e u = refl
same_settled o g v (ZoneGive zone) e u = refl
same_settled o g v (Occupied at found) e u = refl
same_settled o g v (Vacate at bits) e u = refl
same_settled o g v (NumberSeen n) e u = refl
same_settled o g v (StopSeen set) e u = refl
same_settled o g v SetStop e u = refl
same_settled o g v (Tell operation reply) e u = absurd (both_ways false refl u)

-- ---- STEPS THAT TEACH NOTHING

pub still : (v : View) (kept : Bool) (changes : List Undrained) (calls : List Step) (occupancy : List Seen) (zones : List ℕ) (seen : List Step)
    → Grows v kept (record v { changes = changes; calls = calls; occupancy = occupancy; zones = zones; seen = seen }) kept
still v kept changes calls occupancy zones seen = record {
  found = λ B t. t;
  spans = λ f t. refl;
  class = λ c i t. refl;
  own = λ B t. t;
  lines = λ B line t y. y;
  sees = λ p b t. (t, still_place v changes calls occupancy zones seen p);
  recorded = λ p b s t. inl t;
  knows = λ p b y t e. e;
  roots = λ l n t. t;
}

quiet : (v : View) (kept : Bool) → Grows v kept v kept
quiet v kept = still v kept v.changes v.calls v.occupancy v.zones v.seen

kept_own : (v : View) (kept : Bool) (B : Block) → is_kept_block v kept B ≡ true → has_own v B ≡ true
kept_own v kept B m = (and_parts (has_own v B) (list_any (λ (b : Placed). b.off == known_offset v B) (blocks_kept kept v)) m).0

-- ---- A STEP OF A WORLD
module _ (o : Opening) (old mem : Memory) (views new : Views) (g : Past) (k : ℕ) (kept : Bool) (s : Step) (yy : IsStep o old mem views new g k s) where
  abbrev v : View
  v = views k

  abbrev sh : Shape
  sh = (views k).fixed.shape

  abbrev t : List Claim
  t = (views k).claims

  x' : World o mem new (past_after g (views k) s)
  x' = (every_step s o old mem views new g k yy.world yy.runs yy.lawful yy.moves yy.turn).0

  -- ALL THAT IT KNOWS, after a step that comes to this view
  module _ (next : View) (is : after (views k) s ≡ next) (fixed : next.fixed ≡ (views k).fixed)
      (founds : (B : Block) → has_found (views k) B ≡ true → has_found next B ≡ true) where
    here : new k ≡ next
    here = yy.turn.here ∙ is

    same : settled_words o (past_after g (views k) s) ≡ settled_words o g
    same = same_settled o g (views k) s yy.is_open yy.goes

    classes : (c : ℕ) → g.runs c ≡ true → (past_after g (views k) s).geo.class c ≡ g.geo.class c
    classes = classes_stay o old views g yy.world k s yy.lawful

    apart : (B : Block) → has_found next B ≡ true → has_own next B ≡ true → ⊥
    apart = growing.found_own o old mem views new g (past_after g (views k) s) k yy.world x' yy.runs next here fixed same classes

    found_class : (c i : ℕ) → has_found (views k) (Small c i) ≡ true → class next.claims c ≡ class (views k).claims c
    found_class = growing.found_class o old mem views new g (past_after g (views k) s) k yy.world x' yy.runs next here fixed same classes founds

    found_first : (c : ℕ) → has_found (views k) (Big (first (views k).fixed.shape (views k).claims c)) ≡ true
        → first next.fixed.shape next.claims c ≡ first (views k).fixed.shape (views k).claims c
    found_first = growing.found_first o old mem views new g (past_after g (views k) s) k yy.world x' yy.runs next here fixed same classes founds

    -- a chunk of a huge block that it found is no run
    no_run : (c i : ℕ) → has_found (views k) (Big (first (views k).fixed.shape (views k).claims c)) ≡ true → (has_found next (Small c i) || has_own next (Small c i)) ≡ true → ⊥
    no_run = growing.huge_no_run o old mem views new g (past_after g (views k) s) k yy.world x' yy.runs next here fixed same classes founds

    grown : ((B : Block) → is_kept_block (views k) kept B ≡ true → has_own next B ≡ true)
        → ((f : ℕ) → has_found (views k) (Big f) ≡ true → span next.fixed.shape next.claims f ≡ span (views k).fixed.shape (views k).claims f)
        → ((f : ℕ) → is_kept_block (views k) kept (Big f) ≡ true → span next.fixed.shape next.claims f ≡ span (views k).fixed.shape (views k).claims f)
        → blocks_kept kept next ≡ blocks_kept kept (views k)
        → (holds (views k).claims 0 ≡ true → holds next.claims 0 ≡ true)
        → ((p : Place) → is_recorded (views k).log.records p ≡ true → is_recorded next.log.records p ≡ true)
        → ((p : Place) (b : ℕ) (y : Bool) → sees_at (views k) p b ≡ true → bit_before (views k) p b ≡ Some y → bit_before next p b ≡ Some y)
        → ((line value : ℕ) → saw_root (views k).fixed.shape (views k).claims line value ≡ true → saw_root next.fixed.shape next.claims line value ≡ true)
        → Grows (views k) kept next kept
    grown owns found_spans own_spans calls root recorded = growing.grown o old mem views new g (past_after g (views k) s) k yy.world x' yy.runs next here fixed same classes founds kept owns found_spans own_spans calls root
        (λ p b t r. inl (recorded p r))

    -- ---- WHAT IS FORGOTTEN is of blocks that come to be its own, or are found
    unforgot : (t' : List Claim) → ((c : ℕ) → class t' c ≡ class next.claims c) → ((c : ℕ) → first (views k).fixed.shape t' c ≡ first next.fixed.shape next.claims c)
        → (P : Block → Bool) → ((B : Block) → P B ≡ true → (has_found next B || has_own next B) ≡ true) → ((B : Block) → P B ≡ true → has_found (views k) B ≡ true → ⊥) → P Root ≡ false
        → (p : Place) (b : ℕ) → sees_at (views k) p b ≡ true → is_pictured p ≡ true → passes P (block_at (views k).fixed.shape t' (word_of (views k).fixed.shape p)) ≡ false
    unforgot t' cl fs P comes was root (InRun c u) b t q = false_from_ne_true (passes P (block_at (views k).fixed.shape t' (word_of_chunk (views k).fixed.shape c + u))) (λ e.
        let z = and_parts (is_data (InRun c u)) (Rattle.std.proofs.Common.nat_lt u 512) q in
        let i : ℕ = part (class (views k).claims c) u b in
        let same_class : class t' c ≡ class (views k).claims c = cl c ∙ found_class c i t in
        let r = known.run_class o old views g yy.world k yy.runs yy.is_open c i t in
        ⊎_elim
        (λ (a : (class t' c ≡ 0) × (P (Big (first (views k).fixed.shape t' c)) ≡ true)). let q : suc r.0 ≡ 0 = sym r.1 ∙ (sym same_class ∙ a.0) in absurd (omega arith))
        (λ (a : (n : ℕ) × (class t' c ≡ suc n) × (P (Small c (part (class t' c) u 64)) ≡ true)).
        was (Small c i) (subst (λ j. P (Small c j) ≡ true) (ap (λ n. part n u 64) same_class ∙ sym (known.data_part (class (views k).claims c) u b (leb-true 8 u z.0))) a.2) t)
        (passed (views k).fixed.shape t' c u (ltb-true u 512 z.1) P e).1)
    unforgot t' cl fs P comes was root (InHuge c u) b t q = false_from_ne_true (passes P (block_at (views k).fixed.shape t' (word_of_chunk (views k).fixed.shape c + u))) (λ e.
        ⊎_elim
        (λ (a : (class t' c ≡ 0) × (P (Big (first (views k).fixed.shape t' c)) ≡ true)).
        was (Big (first (views k).fixed.shape (views k).claims c)) (subst (λ j. P (Big j) ≡ true) (fs c ∙ found_first c t) a.1) t)
        (λ (a : (n : ℕ) × (class t' c ≡ suc n) × (P (Small c (part (class t' c) u 64)) ≡ true)).
        no_run c (part (class t' c) u 64) t (comes (Small c (part (class t' c) u 64)) a.2))
        (passed (views k).fixed.shape t' c u (ltb-true u 512 q) P e).1)
    unforgot t' cl fs P comes was root (Descr c) b t q = absurd (both_ways false refl q)
    unforgot t' cl fs P comes was root RootWord b t q = root

  -- ---- LOCKS

  -- what is pictured but for the root word, where line 0 is taken
  took_pic : (m : ℕ) (write : Bool) → holds (views k).claims m ≡ false → (p : Place) (b : ℕ) (z : Bool) → sees_at (views k) p b ≡ true
      → picture (views k).fixed.shape (views k).claims p b ≡ Some z → picture (views k).fixed.shape (Took m write ∷ (views k).claims) p b ≡ Some z
  took_pic m write free p b z t e =
      known.pictured_alike (views k).fixed.shape (views k).claims (Took m write ∷ (views k).claims) p b
      (ap (λ q. cond q None (pictured (views k).fixed.shape (views k).claims (word_of (views k).fixed.shape p)))
      (false_from_ne_true ((m == 0) && (word_of (views k).fixed.shape p == 64)) (λ q.
      let a = and_parts (m == 0) (word_of (views k).fixed.shape p == 64) q in
      other p t (known.of_pictured (views k).fixed.shape (views k).claims p b z e).0 (eqb-true m 0 a.0) (eqb-true (word_of (views k).fixed.shape p) 64 a.1))))
      ∙ e
    where
      other : (p : Place) → sees_at (views k) p b ≡ true → is_pictured p ≡ true → m ≡ 0 → word_of (views k).fixed.shape p ≡ 64 → ⊥
      other (InRun c u) t i e w = omega arith
      other (InHuge c u) t i e w = omega arith
      other (Descr c) t i e w = both_ways false refl i
      other RootWord t i e w = both_ways (holds (views k).claims 0) (ap (holds (views k).claims) (sym e) ∙ free) t

  took : (m : ℕ) (write : Bool) → after (views k) s ≡ record (views k) { claims = Took m write ∷ (views k).claims; seen = s ∷ (views k).seen }
      → holds (views k).claims m ≡ false → Grows (views k) kept (record (views k) { claims = Took m write ∷ (views k).claims; seen = s ∷ (views k).seen }) kept
  took m write is free = let w : View = record (views k) { claims = Took m write ∷ (views k).claims; seen = s ∷ (views k).seen } in
      grown w is refl (λ B f. f) (kept_own (views k) kept) (λ f e. refl) (λ f e. refl) refl
      (λ h. held_by (locked (views k).claims 0) (reads (views k).claims 0) (locked (Took m write ∷ (views k).claims) 0) (reads (Took m write ∷ (views k).claims) 0)
      (λ e. or_right (write && (m == 0)) (locked (views k).claims 0) e) (λ e. or_right (not write && (m == 0)) (reads (views k).claims 0) e) h)
      (λ p e. e)
      (known.knows_on (views k) w refl (λ p b z t bare e. took_pic m write free p b z t e))
      (λ line x r. and_from (not (m == line)) (saw_root (views k).fixed.shape (views k).claims line x)
      (ap not (false_from_ne_true (m == line) (λ e. both_ways (holds (views k).claims m) free
      (subst (λ l. holds (views k).claims l ≡ true) (sym (eqb-true m line e)) (saw_held (views k).fixed.shape (views k).claims line x r))))) r)

  raised : (m : ℕ) → after (views k) s ≡ record (views k) { claims = Raised m ∷ (views k).claims; seen = s ∷ (views k).seen }
      → Grows (views k) kept (record (views k) { claims = Raised m ∷ (views k).claims; seen = s ∷ (views k).seen }) kept
  raised m is = let w : View = record (views k) { claims = Raised m ∷ (views k).claims; seen = s ∷ (views k).seen } in
      grown w is refl (λ B f. f) (kept_own (views k) kept) (λ f e. refl) (λ f e. refl) refl
      (λ h. ⊎_elim
      (λ (e : (m == 0) ≡ true). or_left (locked (Raised m ∷ (views k).claims) 0) (reads (Raised m ∷ (views k).claims) 0) (or_left (m == 0) (locked (views k).claims 0) e))
      (λ (e : (m == 0) ≡ false). held_by (locked (views k).claims 0) (reads (views k).claims 0) (locked (Raised m ∷ (views k).claims) 0) (reads (Raised m ∷ (views k).claims) 0)
      (λ q. or_right (m == 0) (locked (views k).claims 0) q) (λ q. and_from (not (m == 0)) (reads (views k).claims 0) (ap not e) q) h)
      (cases_Bool (m == 0)))
      (λ p e. e) (known.knows_on (views k) w refl (λ p b z t bare e. e)) (λ line x r. r)

  gave : (m : ℕ) → after (views k) s ≡ record (views k) { claims = Gave m ∷ (views k).claims }
      → ((B : Block) → has_found (views k) B ≡ true → header_in (views k).fixed.shape (views k).claims B ≢ m)
      → m ≢ 0 → ((value : ℕ) → saw_root (views k).fixed.shape (views k).claims m value ≡ false)
      → Grows (views k) kept (record (views k) { claims = Gave m ∷ (views k).claims }) kept
  gave m is none some unseen = let w : View = record (views k) { claims = Gave m ∷ (views k).claims } in
      grown w is refl
      (λ B f. and_from (not (m == header_in (views k).fixed.shape (views k).claims B)) (has_found (views k) B)
      (ap not (ne_eqb m (header_in (views k).fixed.shape (views k).claims B) (λ e. none B f (sym e)))) f)
      (kept_own (views k) kept) (λ f e. refl) (λ f e. refl) refl
      (λ h. held_by (locked (views k).claims 0) (reads (views k).claims 0) (locked (Gave m ∷ (views k).claims) 0) (reads (Gave m ∷ (views k).claims) 0)
      (λ e. and_from (not (m == 0)) (locked (views k).claims 0) (ap not (ne_eqb m 0 some)) e) (λ e. and_from (not (m == 0)) (reads (views k).claims 0) (ap not (ne_eqb m 0 some)) e) h)
      (λ p e. e) (known.knows_on (views k) w refl (λ p b z t bare e. e))
      (λ line x r. and_from (not (m == line)) (saw_root (views k).fixed.shape (views k).claims line x)
      (ap not (false_from_ne_true (m == line) (λ e. both_ways (saw_root (views k).fixed.shape (views k).claims m x) (unseen x)
      (subst (λ l. saw_root (views k).fixed.shape (views k).claims l x ≡ true) (sym (eqb-true m line e)) r)))) r)

  -- ---- OCCUPANCY BITS

  vacated_ : (at : Occ) (bits : ℕ) (occupancy : List Seen) → after (views k) s ≡ record (views k) { claims = Released at bits ∷ (views k).claims; occupancy = occupancy }
      → ((B : Block) → is_kept_block (views k) kept B ≡ true → is_among (views k).fixed.shape at bits B ≡ false)
      → Grows (views k) kept (record (views k) { claims = Released at bits ∷ (views k).claims; occupancy = occupancy }) kept
  vacated_ at bits occupancy is stay = let w : View = record (views k) { claims = Released at bits ∷ (views k).claims; occupancy = occupancy } in
      grown w is refl (λ B f. f)
      (λ B m. and_from (not (is_among (views k).fixed.shape at bits B)) (has_own (views k) B) (ap not (stay B m)) (kept_own (views k) kept B m))
      (λ f e. refl) (λ f e. refl) refl (λ h. h) (λ p e. e) (known.knows_on (views k) w refl (λ p b z t bare e. e)) (λ line x r. r)

  occupied_ : (at : Occ) (bits : ℕ) (occupancy : List Seen)
      → after (views k) s ≡ record (views k) { claims = Reserved at bits ∷ (views k).claims; occupancy = occupancy; seen = s ∷ (views k).seen }
      → ((f : ℕ) → is_kept_block (views k) kept (Big f) ≡ true → is_block_of (views k).fixed.shape at bits (Big f) ≡ false)
      → Grows (views k) kept (record (views k) { claims = Reserved at bits ∷ (views k).claims; occupancy = occupancy; seen = s ∷ (views k).seen }) kept
  occupied_ at bits occupancy is stay =
      let w : View = record (views k) { claims = Reserved at bits ∷ (views k).claims; occupancy = occupancy; seen = s ∷ (views k).seen } in
      let other : (B : Block) → has_found (views k) B ≡ true → is_block_of (views k).fixed.shape at bits B ≡ false =
      λ B f. false_from_ne_true (is_block_of (views k).fixed.shape at bits B) (λ e. apart w is refl (λ B f. f) B f (or_left (is_block_of (views k).fixed.shape at bits B) (has_own (views k) B) e)) in
      grown w is refl (λ B f. f) (λ B m. or_right (is_block_of (views k).fixed.shape at bits B) (has_own (views k) B) (kept_own (views k) kept B m))
      (λ f e. ap (λ q. cond q (Rattle.pm_view.specs.Claims.ones 64 bits) (span (views k).fixed.shape (views k).claims f)) (other (Big f) e))
      (λ f e. ap (λ q. cond q (Rattle.pm_view.specs.Claims.ones 64 bits) (span (views k).fixed.shape (views k).claims f)) (stay f e))
      refl (λ h. h) (λ p e. e)
      (known.knows_on (views k) w refl (λ p b z t bare e.
      known.pictured_alike (views k).fixed.shape (views k).claims (Reserved at bits ∷ (views k).claims) p b
      (ap (λ q. cond q None (pictured (views k).fixed.shape (views k).claims (word_of (views k).fixed.shape p)))
      (unforgot w is refl (λ B f. f) (Reserved at bits ∷ (views k).claims) (λ c. refl) (λ c. refl)
      (λ B. is_block_of (views k).fixed.shape at bits B && not (mine (views k).fixed.shape (views k).claims B))
      (λ B q. or_right (has_found (views k) B) (is_block_of (views k).fixed.shape at bits B || has_own (views k) B)
      (or_left (is_block_of (views k).fixed.shape at bits B) (has_own (views k) B) (and_parts (is_block_of (views k).fixed.shape at bits B) (not (mine (views k).fixed.shape (views k).claims B)) q).0))
      (λ B q f. both_ways (is_block_of (views k).fixed.shape at bits B) (other B f) (and_parts (is_block_of (views k).fixed.shape at bits B) (not (mine (views k).fixed.shape (views k).claims B)) q).0)
      (no_root_block at) p b t (known.of_pictured (views k).fixed.shape (views k).claims p b z e).0))
      ∙ e))
      (λ line x r. r)
    where
      no_root_block : (at : Occ) → (is_block_of (views k).fixed.shape at bits Root && not (mine (views k).fixed.shape (views k).claims Root)) ≡ false
      no_root_block (Run place) = refl
      no_root_block (Zone zone) = refl

  -- ---- DRAINS

  drained_ : (left : List Undrained) (calls : List Step) (log : Log) → log.records ≡ (views k).log.records
      → after (views k) s ≡ record (views k) { claims = Drained left ∷ (views k).claims; changes = left; calls = calls; log = log }
      → ((c : ℕ) → is_kept_block (views k) kept (Big c) ≡ true → making (views k).fixed.shape (views k).claims c ≡ false)
      → Grows (views k) kept (record (views k) { claims = Drained left ∷ (views k).claims; changes = left; calls = calls; log = log }) kept
  drained_ left calls log same is stay = let w : View = record (views k) { claims = Drained left ∷ (views k).claims; changes = left; calls = calls; log = log } in
      grown w is refl (λ B f. f) own_ (λ f e. refl) (λ f e. refl) refl (λ h. h) (λ p e. ap (λ rs. is_recorded rs p) same ∙ e)
      (known.knows_on (views k) w same (λ p b z t bare e. e)) (λ line x r. r)
    where
      own_ : (B : Block) → is_kept_block (views k) kept B ≡ true → mine (views k).fixed.shape (Drained left ∷ (views k).claims) B ≡ true
      own_ (Small c i) m = or_right _ (has_own (views k) (Small c i)) (kept_own (views k) kept (Small c i) m)
      own_ (Big c) m = and_from (not (becomes (views k).fixed.shape left (views k).claims c)) (has_own (views k) (Big c))
          (ap (λ q. not (q && not (Rattle.pm_view.specs.Changes.is_dirty left (Rattle.pm_layout.specs.Chunks.word_of_descriptor (views k).fixed.shape c)))) (stay c m)) (kept_own (views k) kept (Big c) m)
      own_ Root m = kept_own (views k) kept Root m

  -- ---- LOADS

  loaded : (w y : ℕ) (t1 : List Claim) → after (views k) s ≡ record (views k) { claims = Knows w y ∷ t1 } → y ≡ old (PoolWord w)
      → ((B : Block) → has_found (views k) B ≡ true → found (views k).fixed.shape t1 B ≡ true)
      → ((B : Block) → mine (views k).fixed.shape t1 B ≡ has_own (views k) B)
      → ((f : ℕ) → has_found (views k) (Big f) ≡ true → span (views k).fixed.shape t1 f ≡ span (views k).fixed.shape (views k).claims f)
      → ((f : ℕ) → is_kept_block (views k) kept (Big f) ≡ true → span (views k).fixed.shape t1 f ≡ span (views k).fixed.shape (views k).claims f)
      → (holds t1 0 ≡ holds (views k).claims 0)
      → ((p : Place) (b : ℕ) → sees_at (views k) p b ≡ true → is_pictured p ≡ true
      → pictured (views k).fixed.shape t1 (word_of (views k).fixed.shape p) ≡ pictured (views k).fixed.shape (views k).claims (word_of (views k).fixed.shape p))
      → ((line x : ℕ) → saw_root (views k).fixed.shape t1 line x ≡ saw_root (views k).fixed.shape (views k).claims line x)
      → Grows (views k) kept (record (views k) { claims = Knows w y ∷ t1 }) kept
  loaded w y t1 is at founds owns found_spans own_spans held pic saw = let next : View = record (views k) { claims = Knows w y ∷ t1 } in
      grown next is refl founds (λ B m. owns B ∙ kept_own (views k) kept B m) found_spans own_spans refl (λ h. held ∙ h) (λ p e. e)
      (known.knows_on (views k) next refl (λ p b z t bare e.
      let q = known.of_pictured (views k).fixed.shape (views k).claims p b z e in
      known.as_pictured (views k).fixed.shape (Knows w y ∷ t1) p b z q.0 (⊎_elim
      (λ (m : (w == word_of (views k).fixed.shape p) ≡ true).
      ap (option_map (λ n. bit n b)) (cond-true (w == word_of (views k).fixed.shape p) (Some y) (pictured (views k).fixed.shape t1 (word_of (views k).fixed.shape p)) m)
      ∙ ap (λ n. Some n) (ap (λ n. bit n b) at ∙ known.load_finds o old views g yy.world k yy.runs yy.is_open w p b z t (sym (eqb-true w (word_of (views k).fixed.shape p) m)) e))
      (λ (m : (w == word_of (views k).fixed.shape p) ≡ false).
      ap (option_map (λ n. bit n b)) (cond-false (w == word_of (views k).fixed.shape p) (Some y) (pictured (views k).fixed.shape t1 (word_of (views k).fixed.shape p)) m ∙ pic p b t q.0) ∙ q.1)
      (cases_Bool (w == word_of (views k).fixed.shape p)))))
      (λ line x r. or_right _ (saw_root (views k).fixed.shape t1 line x) (saw line x ∙ r))

  load_by : (w y : ℕ) (part : Part) → after (views k) s ≡ record (views k) { claims = Knows w y ∷ seen_by part y (views k).claims } → y ≡ old (PoolWord w)
      → Grows (views k) kept (record (views k) { claims = Knows w y ∷ seen_by part y (views k).claims }) kept
  load_by w y (DescriptorPart c) is at =
      let next : View = record (views k) { claims = Knows w y ∷ SawDescriptor c y ∷ (views k).claims } in
      let shows : Block → Bool = shown_by_descriptor (views k).fixed.shape (views k).claims c y in
      let founds : (B : Block) → has_found (views k) B ≡ true → has_found next B ≡ true = λ B f. or_right (shown_by_descriptor (views k).fixed.shape (views k).claims c y B) (has_found (views k) B) f in
      loaded w y (SawDescriptor c y ∷ (views k).claims) is at founds (λ B. refl)
      (λ f e. ap (λ q. cond q (y / 256) (span (views k).fixed.shape (views k).claims f))
      (false_from_ne_true (shown_by_descriptor (views k).fixed.shape (views k).claims c y (Big f) && not (has_found (views k) (Big f))) (λ q.
      both_ways (not (has_found (views k) (Big f))) (ap not e) (and_parts (shown_by_descriptor (views k).fixed.shape (views k).claims c y (Big f)) (not (has_found (views k) (Big f))) q).1)))
      (λ f m. ap (λ q. cond q (y / 256) (span (views k).fixed.shape (views k).claims f))
      (false_from_ne_true (shown_by_descriptor (views k).fixed.shape (views k).claims c y (Big f) && not (has_found (views k) (Big f))) (λ q.
      apart next is refl founds (Big f)
      (or_left (shown_by_descriptor (views k).fixed.shape (views k).claims c y (Big f)) (has_found (views k) (Big f)) (and_parts (shown_by_descriptor (views k).fixed.shape (views k).claims c y (Big f)) (not (has_found (views k) (Big f))) q).0)
      (kept_own (views k) kept (Big f) m))))
      refl
      (λ p b t q. ap (λ z. cond z None (pictured (views k).fixed.shape (views k).claims (word_of (views k).fixed.shape p)))
      (unforgot next is refl founds (SawDescriptor c y ∷ (views k).claims) (λ c. refl) (λ c. refl)
      (λ B. shown_by_descriptor (views k).fixed.shape (views k).claims c y B && not (has_found (views k) B))
      (λ B e. or_left (has_found next B) (has_own next B) (or_left (shown_by_descriptor (views k).fixed.shape (views k).claims c y B) (has_found (views k) B)
      (and_parts (shown_by_descriptor (views k).fixed.shape (views k).claims c y B) (not (has_found (views k) B)) e).0))
      (λ B e f. both_ways (not (has_found (views k) B)) (ap not f) (and_parts (shown_by_descriptor (views k).fixed.shape (views k).claims c y B) (not (has_found (views k) B)) e).1)
      refl p b t q))
      (λ line x. refl)
  load_by w y (ChunkPart c zero) is at =
      let next : View = record (views k) { claims = Knows w y ∷ SawBitmap c y ∷ (views k).claims } in
      let founds : (B : Block) → has_found (views k) B ≡ true → has_found next B ≡ true = λ B f. or_right (shown_by_bitmap (views k).fixed.shape (views k).claims c y B) (has_found (views k) B) f in
      loaded w y (SawBitmap c y ∷ (views k).claims) is at founds (λ B. refl) (λ f e. refl) (λ f m. refl) refl
      (λ p b t q. ap (λ z. cond z None (pictured (views k).fixed.shape (views k).claims (word_of (views k).fixed.shape p)))
      (unforgot next is refl founds (views k).claims (λ c. refl) (λ c. refl)
      (λ B. shown_by_bitmap (views k).fixed.shape (views k).claims c y B && not (has_found (views k) B))
      (λ B e. or_left (has_found next B) (has_own next B) (or_left (shown_by_bitmap (views k).fixed.shape (views k).claims c y B) (has_found (views k) B)
      (and_parts (shown_by_bitmap (views k).fixed.shape (views k).claims c y B) (not (has_found (views k) B)) e).0))
      (λ B e f. both_ways (not (has_found (views k) B)) (ap not f) (and_parts (shown_by_bitmap (views k).fixed.shape (views k).claims c y B) (not (has_found (views k) B)) e).1)
      refl p b t q))
      (λ line x. refl)
  load_by w y (ChunkPart c (suc i)) is at = loaded w y (views k).claims is at (λ B f. f) (λ B. refl) (λ f e. refl) (λ f m. refl) refl (λ p b t q. refl) (λ line x. refl)
  load_by w y GenerationPart is at = loaded w y (views k).claims is at (λ B f. f) (λ B. refl) (λ f e. refl) (λ f m. refl) refl (λ p b t q. refl) (λ line x. refl)
  load_by w y SealPart is at = loaded w y (views k).claims is at (λ B f. f) (λ B. refl) (λ f e. refl) (λ f m. refl) refl (λ p b t q. refl) (λ line x. refl)
  load_by w y EntryPart is at = loaded w y (views k).claims is at (λ B f. f) (λ B. refl) (λ f e. refl) (λ f m. refl) refl (λ p b t q. refl) (λ line x. refl)
  load_by w y SlotPart is at = loaded w y (views k).claims is at (λ B f. f) (λ B. refl) (λ f e. refl) (λ f m. refl) refl (λ p b t q. refl) (λ line x. refl)
  load_by w y RootPart is at = loaded w y (views k).claims is at (λ B f. f) (λ B. refl) (λ f e. refl) (λ f m. refl) refl (λ p b t q. refl) (λ line x. refl)
  load_by w y OtherPart is at = loaded w y (views k).claims is at (λ B f. f) (λ B. refl) (λ f e. refl) (λ f m. refl) refl (λ p b t q. refl) (λ line x. refl)

  -- ---- STORES

  -- what a mark leaves
  record Marks (t1 : List Claim) : Type 0 where
    founds : (B : Block) → found (views k).fixed.shape t1 B ≡ has_found (views k) B
    owns : (B : Block) → mine (views k).fixed.shape t1 B ≡ has_own (views k) B
    spans : (f : ℕ) → span (views k).fixed.shape t1 f ≡ span (views k).fixed.shape (views k).claims f
    held : holds t1 0 ≡ holds (views k).claims 0
    pics : (w : ℕ) → pictured (views k).fixed.shape t1 w ≡ pictured (views k).fixed.shape (views k).claims w
    saw : (line x : ℕ) → saw_root (views k).fixed.shape t1 line x ≡ saw_root (views k).fixed.shape (views k).claims line x

  unmarked : Marks (views k).claims
  unmarked = record { founds = λ B. refl; owns = λ B. refl; spans = λ f. refl; held = refl; pics = λ w. refl; saw = λ l x. refl }

  marks : (part : Part) (n : ℕ) → Marks (marked_by Open part n (views k).claims)
  marks (DescriptorPart c) n = record { founds = λ B. refl; owns = λ B. refl; spans = λ f. refl; held = refl; pics = λ w. refl; saw = λ l x. refl }
  marks (ChunkPart c i) n = unmarked
  marks GenerationPart n = unmarked
  marks SealPart n = unmarked
  marks EntryPart n = unmarked
  marks SlotPart n = unmarked
  marks RootPart n = unmarked
  marks OtherPart n = unmarked

  module _ (w n : ℕ) (may : Rattle.pm_world.specs.Lawful.MayStore (views k) w n) (t1 : List Claim) (a : Marks t1) (changes : List Undrained) (calls : List Step) (log : Log)
      (is : after (views k) s ≡ record (views k) { claims = Knows w n ∷ t1; changes = changes; calls = calls; log = log }) where
    abbrev next : View
    next = record (views k) { claims = Knows w n ∷ t1; changes = changes; calls = calls; log = log }

    -- it is of no word that it sees and did not record
    store_pic : (p : Place) (b : ℕ) (z : Bool) → sees_at (views k) p b ≡ true → is_recorded (views k).log.records p ≡ false
        → picture (views k).fixed.shape (views k).claims p b ≡ Some z → picture (views k).fixed.shape (Knows w n ∷ t1) p b ≡ Some z
    store_pic p b z t bare e =
        let q = known.of_pictured (views k).fixed.shape (views k).claims p b z e in
        let no = known.stores_other o old views g yy.world k yy.runs yy.is_open w n may p b t q.0 bare in
        known.pictured_alike (views k).fixed.shape (views k).claims (Knows w n ∷ t1) p b
        (cond-false (w == word_of (views k).fixed.shape p) (Some n) (pictured (views k).fixed.shape t1 (word_of (views k).fixed.shape p)) no ∙ a.pics (word_of (views k).fixed.shape p)) ∙ e

    store_grows : ((p : Place) → is_recorded (views k).log.records p ≡ true → is_recorded log.records p ≡ true)
        → ((p : Place) (b : ℕ) (z : Bool) → sees_at (views k) p b ≡ true → bit_before (views k) p b ≡ Some z → bit_before next p b ≡ Some z)
        → Grows (views k) kept next kept
    store_grows recorded knows = grown next is refl (λ B f. a.founds B ∙ f) (λ B m. a.owns B ∙ kept_own (views k) kept B m) (λ f e. a.spans f) (λ f e. a.spans f) refl
        (λ h. a.held ∙ h) recorded knows (λ line x r. or_right _ (saw_root (views k).fixed.shape t1 line x) (a.saw line x ∙ r))

    -- one that completes no record
    plain_store : log.records ≡ (views k).log.records → Grows (views k) kept next kept
    plain_store same = store_grows (λ p e. ap (λ rs. is_recorded rs p) same ∙ e) (known.knows_on (views k) next same store_pic)

    -- one that does
    record_store : Rattle.pm_world.specs.Lawful.AppendsToSlot (views k) w n → length ((views k).log.slot ++ n ∷ []) ≡ 8
        → log.records ≡ (views k).log.records ++ recorded (views k).fixed.shape (class (views k).claims) ((views k).log.slot ++ n ∷ []) ∷ [] → Grows (views k) kept next kept
    record_store appends full more = store_grows
        (λ p e. ap (λ rs. is_recorded rs p) more ∙ recorded_more (views k).log.records (recorded (views k).fixed.shape (class (views k).claims) ((views k).log.slot ++ n ∷ [])) p e)
        (known.knows_more (views k) next (recorded (views k).fixed.shape (class (views k).claims) ((views k).log.slot ++ n ∷ [])) more store_pic
        (λ p b z m e r. known.records_known o old views g yy.world k yy.runs yy.is_open w n appends full p b z m e r))

  module _ (w n : ℕ) (may : Rattle.pm_world.specs.Lawful.MayStore (views k) w n) (changes : List Undrained) (calls : List Step) where
    abbrev At : Part → Log → View
    At part log = record (views k) { claims = Knows w n ∷ marked_by Open part n (views k).claims; changes = changes; calls = calls; log = log }

    abbrev Slotted : Bool → Log
    Slotted q = cond q (record (views k).log { records = (views k).log.records ++ recorded (views k).fixed.shape (class (views k).claims) ((views k).log.slot ++ n ∷ []) ∷ []; slot = [] })
        (record (views k).log { slot = (views k).log.slot ++ n ∷ [] })

    store_by : (part : Part) → StoreFits (views k) w n Open part
        → after (views k) s ≡ At part (log_stored (views k).fixed.shape (class (views k).claims) Open part n (views k).log)
        → Grows (views k) kept (At part (log_stored (views k).fixed.shape (class (views k).claims) Open part n (views k).log)) kept
    store_by GenerationPart f is = plain_store w n may (views k).claims unmarked changes calls (log_stored (views k).fixed.shape (class (views k).claims) Open GenerationPart n (views k).log) is refl
    store_by SlotPart f is = by (length ((views k).log.slot ++ n ∷ []) == 8) refl is
      where
        by : (q : Bool) → (length ((views k).log.slot ++ n ∷ []) == 8) ≡ q → after (views k) s ≡ At SlotPart (Slotted q) → Grows (views k) kept (At SlotPart (Slotted q)) kept
        by true e is = record_store w n may (views k).claims unmarked changes calls (Slotted true) is f (eqb-true (length ((views k).log.slot ++ n ∷ [])) 8 e) refl
        by false e is = plain_store w n may (views k).claims unmarked changes calls (Slotted false) is refl
    store_by EntryPart f is = by (views k).log.pair is
      where
        by : (pair : List ℕ) → after (views k) s ≡ At EntryPart (with_pair (views k).fixed.shape (class (views k).claims) pair n (views k).log)
            → Grows (views k) kept (At EntryPart (with_pair (views k).fixed.shape (class (views k).claims) pair n (views k).log)) kept
        by [] is = plain_store w n may (views k).claims unmarked changes calls (with_pair (views k).fixed.shape (class (views k).claims) [] n (views k).log) is refl
        by (head ∷ rest) is = plain_store w n may (views k).claims unmarked changes calls (with_pair (views k).fixed.shape (class (views k).claims) (head ∷ rest) n (views k).log) is refl
    store_by (DescriptorPart c) f is = plain_store w n may (Marked c (n / 256) ∷ (views k).claims) (marks (DescriptorPart c) n) changes calls (views k).log is refl
    store_by (ChunkPart c i) f is = plain_store w n may (views k).claims unmarked changes calls (views k).log is refl
    store_by SealPart f is = plain_store w n may (views k).claims unmarked changes calls (views k).log is refl
    store_by RootPart f is = plain_store w n may (views k).claims unmarked changes calls (views k).log is refl
    store_by OtherPart f is = plain_store w n may (views k).claims unmarked changes calls (views k).log is refl

-- ---- WHAT IS GOT was no lane's own before
module _ (o : Opening) (old mem : Memory) (views new : Views) (g : Past) (k : ℕ) (zone bits : ℕ) (y : IsStep o old mem views new g k (Occupy (Zone zone) bits true)) where
  got_new : (f : ℕ) → has_own (views k) (Big f) ≡ true → is_block_of (views k).fixed.shape (Zone zone) bits (Big f) ≡ false
  got_new f m = false_from_ne_true (is_block_of (views k).fixed.shape (Zone zone) bits (Big f)) (λ e.
      let one = y.lawful.allowed.one in
      let low : lowest 64 bits ≡ one.0 = ap (lowest 64) one.4 ∙ lowest_row 64 one.0 one.1 one.2 one.3 in
      let some = one.2 in
      let room = one.3 in
      let at : f ≡ 64 * zone + lowest 64 bits = eqb-true f (64 * zone + lowest 64 bits) e in
      let index : f % 64 ≡ one.0 = omega arith in
      let page : f / 64 ≡ zone = omega arith in
      let set : bit bits (f % 64) ≡ true = ap (λ i. bit bits i) index ∙ (ap (λ w. bit w one.0) one.4 ∙ (row_bit one.0 one.1 one.0
      ∙ and_from (nat_le one.0 one.0) (nat_lt one.0 (one.0 + one.1)) (le-leb one.0 one.0 (omega arith)) (lt-ltb one.0 (one.0 + one.1) (omega arith)))) in
      let inside : zone < o.shape.zones = subst (λ (sh : Shape). zone < sh.zones) (y.world.each_lane k y.runs).shape y.lawful.allowed.there in
      let clear : bit (old (ZoneWord (f / 64))) (f % 64) ≡ false = ap (λ q. bit (old (ZoneWord q)) (f % 64)) page ∙ clear_bit (old (ZoneWord zone)) bits (f % 64) y.moves.1 set in
      let h = (y.world.bits.each_lane k).hold.mine (Big f) m in
      let taken = y.world.bits.occ (Big f) (lt-ltb f (chunks_of o.shape) (omega arith)) in
      both_ways (bit (old (ZoneWord (f / 64))) (f % 64)) clear
      (taken ∙ or_right (g.runs f) (there (settled_words o g) (Big (g.geo.first f)) || not (g.holder (Big (g.geo.first f)) == 0))
      (or_right (there (settled_words o g) (Big (g.geo.first f))) (not (g.holder (Big (g.geo.first f)) == 0))
      (ap not (ne_eqb (g.holder (Big (g.geo.first f))) 0 (λ z. let held : g.holder (Big (g.geo.first f)) ≡ suc k = ap (λ n. g.holder (Big n)) (eqb-true (g.geo.first f) f h.1) ∙ h.0 in omega arith))))))

got : (o : Opening) (old mem : Memory) (views new : Views) (g : Past) (k : ℕ) (at : Occ) (bits : ℕ) → IsStep o old mem views new g k (Occupy at bits true)
    → (f : ℕ) → has_own (views k) (Big f) ≡ true → is_block_of (views k).fixed.shape at bits (Big f) ≡ false
got o old mem views new g k (Run place) bits y f m = refl
got o old mem views new g k (Zone zone) bits y f m = got_new o old mem views new g k zone bits y f m

-- ---- EVERY STEP

no_change : (v : View) (how : Rattle.pm_record.specs.declared.redo.Op.Op) (w bits : ℕ) (part : Part) → v.log.phase ≡ Open → ChangeFits v how w bits v.log.phase part → ⊥
no_change v how w bits part e f = subst (λ ph. ChangeFits v how w bits ph part) e f

same_view : (v a b : View) (kept : Bool) → a ≡ b → Grows v kept b kept → Grows v kept a kept
same_view v a b kept e = subst (λ z. Grows v kept z kept) (sym e)

pub steps_grow : (s : Step) → StepsGrow s
steps_grow (Load w found) o old mem views new g k kept y u =
    let is : after (views k) (Load w found) ≡ record (views k) { claims = Knows w found ∷ seen_by (part_in (views k) w) found (views k).claims } =
    ap (λ ph. record (views k) { claims = learned ph (part_in (views k) w) w found (views k).claims }) y.is_open in
    same_view (views k) (after (views k) (Load w found)) (record (views k) { claims = Knows w found ∷ seen_by (part_in (views k) w) found (views k).claims }) kept is
    (load_by o old mem views new g k kept (Load w found) y w found (part_in (views k) w) is y.moves.1)
steps_grow (Store w n) o old mem views new g k kept y u =
    let part : Part = part_in (views k) w in
    let changes : List Undrained = (after (views k) (Store w n)).changes in
    let stored : Phase → View = λ ph. record (views k) {
      claims = Knows w n ∷ marked_by ph part n (views k).claims;
      changes = changes;
      calls = Store w n ∷ (views k).calls;
      log = log_stored (views k).fixed.shape (class (views k).claims) ph part n (views k).log;
    } in
    let is : after (views k) (Store w n) ≡ stored Open = ap stored y.is_open in
    same_view (views k) (after (views k) (Store w n)) (stored Open) kept is
    (store_by o old mem views new g k kept (Store w n) y w n y.lawful.allowed changes (Store w n ∷ (views k).calls) part
    (subst (λ ph. StoreFits (views k) w n ph part) y.is_open y.lawful.allowed.fits) is)
steps_grow (Or w bits found) o old mem views new g k kept y u = absurd (no_change (views k) _ w bits (part_in (views k) w) y.is_open y.lawful.allowed.fits)
steps_grow (And w bits found) o old mem views new g k kept y u = absurd (no_change (views k) _ w bits (part_in (views k) w) y.is_open y.lawful.allowed.fits)
steps_grow (Flush line) o old mem views new g k kept y u = still (views k) kept (flushed line (views k).changes) (Flush line ∷ (views k).calls) (views k).occupancy (views k).zones (views k).seen
steps_grow Drain o old mem views new g k kept y u = by (drained (views k).changes) refl
  where
    by : (left : List Undrained) → after (views k) Drain ≡ drained_to (views k) left → Grows (views k) kept (after (views k) Drain) kept
    by (c ∷ left) is = same_view (views k) (after (views k) Drain) (drained_to (views k) (c ∷ left)) kept is
        (drained_ o old mem views new g k kept Drain y (c ∷ left) (Drain ∷ (views k).calls) (views k).log refl is u)
    by [] is =
        let drains : Phase → View = λ ph. record (views k) {
          claims = decided_by ph (views k).log.entries (Drained [] ∷ (views k).claims);
          changes = [];
          calls = Drain ∷ (views k).calls;
          log = log_drained ph (views k).log;
        } in
        let so : after (views k) Drain ≡ drains Open = is ∙ ap drains y.is_open in
        same_view (views k) (after (views k) Drain) (drains Open) kept so
        (drained_ o old mem views new g k kept Drain y [] (Drain ∷ (views k).calls) (views k).log refl so u)
steps_grow (TakeWrite line true) o old mem views new g k kept y u = took o old mem views new g k kept (TakeWrite line true) y line true refl y.lawful.allowed.free
steps_grow (TakeWrite line false) o old mem views new g k kept y u = still (views k) kept (views k).changes (views k).calls (views k).occupancy (views k).zones (TakeWrite line false ∷ (views k).seen)
steps_grow (TakeRead line true) o old mem views new g k kept y u = took o old mem views new g k kept (TakeRead line true) y line false refl y.lawful.allowed.free
steps_grow (TakeRead line false) o old mem views new g k kept y u = still (views k) kept (views k).changes (views k).calls (views k).occupancy (views k).zones (TakeRead line false ∷ (views k).seen)
steps_grow (Raise line true) o old mem views new g k kept y u = raised o old mem views new g k kept (Raise line true) y line refl
steps_grow (Raise line false) o old mem views new g k kept y u = still (views k) kept (views k).changes (views k).calls (views k).occupancy (views k).zones (Raise line false ∷ (views k).seen)
steps_grow (Give line) o old mem views new g k kept y u = gave o old mem views new g k kept (Give line) y line refl
    (subst (Rattle.pm_world.specs.Lawful.GiveFits (views k) line) y.is_open y.lawful.allowed.fits).0 u.0 u.1
steps_grow (ZoneTry zone won) o old mem views new g k kept y u = still (views k) kept (views k).changes (views k).calls (views k).occupancy (Rattle.pm_view.specs.Views.zone_taken won zone (views k).zones) (ZoneTry zone won ∷ (views k).seen)
steps_grow (ZoneGive zone) o old mem views new g k kept y u = still (views k) kept (views k).changes (views k).calls (views k).occupancy (after (views k) (ZoneGive zone)).zones (views k).seen
steps_grow (Occupied at found) o old mem views new g k kept y u = still (views k) kept (views k).changes (views k).calls (record { at = at; bits = found } ∷ (views k).occupancy) (views k).zones (views k).seen
steps_grow (Occupy at bits true) o old mem views new g k kept y u = occupied_ o old mem views new g k kept (Occupy at bits true) y at bits (after (views k) (Occupy at bits true)).occupancy refl (λ f m. got o old mem views new g k at bits y f (kept_own (views k) kept (Big f) m))
steps_grow (Occupy at bits false) o old mem views new g k kept y u = still (views k) kept (views k).changes (views k).calls (views k).occupancy (views k).zones (Occupy at bits false ∷ (views k).seen)
steps_grow (Vacate at bits) o old mem views new g k kept y u = vacated_ o old mem views new g k kept (Vacate at bits) y at bits (after (views k) (Vacate at bits)).occupancy refl u
steps_grow (Draw n) o old mem views new g k kept y u = absurd (both_ways false refl y.goes)
steps_grow (NumberSeen n) o old mem views new g k kept y u = subst (λ ph. Grows (views k) kept (with_seen (NumberSeen n) (begun ph (views k))) kept) (sym y.is_open)
    (still (views k) kept (views k).changes (views k).calls (views k).occupancy (views k).zones (NumberSeen n ∷ (views k).seen))
steps_grow (StopSeen set) o old mem views new g k kept y u = still (views k) kept (views k).changes (views k).calls (views k).occupancy (views k).zones (StopSeen set ∷ (views k).seen)
steps_grow SetStop o old mem views new g k kept y u = quiet (views k) kept
steps_grow (Tell operation reply) o old mem views new g k kept y u = absurd (both_ways false refl y.goes)

-- ---- AN ABORT'S DRAIN

voided_same : (o : Opening) (g : Past) (v : View) (left : List Undrained) → v.log.phase ≡ Voiding → settled_words o (past_drained g v left) ≡ settled_words o g
voided_same o g v (u ∷ left) e = refl
voided_same o g v [] e = ap (λ ph. settled_words o (past_decided ph v (past_made g v []))) e

module _ (o : Opening) (old mem : Memory) (views new : Views) (g : Past) (k : ℕ) (kept : Bool) (y : IsVoiding o old mem views new g k) (u : GivesUpNothing (views k) kept Drain) where
  -- the view then, where these changes are left
  abbrev Left : List Undrained → Log → View
  Left left log = record (views k) { claims = Drained left ∷ (views k).claims; changes = left; calls = Drain ∷ (views k).calls; log = log }

  grown_to : (left : List Undrained) (log : Log) → after (views k) Drain ≡ Left left log
      → ((p : Place) (b : ℕ) → sees_at (views k) p b ≡ true → is_recorded (views k).log.records p ≡ true → (is_recorded log.records p ≡ true) ⊎ IsInObject (Left left log) p)
      → ((p : Place) (b : ℕ) (z : Bool) → sees_at (views k) p b ≡ true → bit_before (views k) p b ≡ Some z → bit_before (Left left log) p b ≡ Some z)
      → Grows (views k) kept (after (views k) Drain) kept
  grown_to left log is recorded knows = same_view (views k) (after (views k) Drain) (Left left log) kept is
      (growing.grown o old mem views new g (past_after g (views k) Drain) k y.world
      (every_step Drain o old mem views new g k y.world y.runs y.lawful y.moves y.turn).0 y.runs (Left left log) (y.turn.here ∙ is) refl
      (voided_same o g (views k) (drained (views k).changes) y.voids) (classes_stay o old views g y.world k Drain y.lawful) (λ B f. f) kept own_
      (λ f e. refl) (λ f e. refl) refl (λ h. h) recorded knows (λ line x r. r))
    where
      own_ : (B : Block) → is_kept_block (views k) kept B ≡ true → mine (views k).fixed.shape (Drained left ∷ (views k).claims) B ≡ true
      own_ (Small c i) m = or_right _ (has_own (views k) (Small c i)) (kept_own (views k) kept (Small c i) m)
      own_ (Big c) m = and_from (not (becomes (views k).fixed.shape left (views k).claims c)) (has_own (views k) (Big c))
          (ap (λ q. not (q && not (Rattle.pm_view.specs.Changes.is_dirty left (Rattle.pm_layout.specs.Chunks.word_of_descriptor (views k).fixed.shape c)))) (u c m)) (kept_own (views k) kept (Big c) m)
      own_ Root m = kept_own (views k) kept Root m

  -- recorded words are restored
  restored : (p : Place) (b : ℕ) (z : Bool) → bit_before (views k) p b ≡ Some z → picture (views k).fixed.shape (views k).claims p b ≡ Some z
  restored p b z e = by (old_of (views k).log.records p) refl e
    where
      fits : AreRestored (picture (views k).fixed.shape (views k).claims) (views k).log.records
      fits = (subst (PhaseFits o.shape k (sight_of (views k)).picture (views k).log (views k).changes) y.voids (y.world.each_lane k y.runs).log.phase).3

      by : (d : Option ℕ) → old_of (views k).log.records p ≡ d → first_of_two (option_map (λ n. bit n b) d) (picture (views k).fixed.shape (views k).claims p b) ≡ Some z
          → picture (views k).fixed.shape (views k).claims p b ≡ Some z
      by None q e = e
      by (Some n) q e = fits p n b q ∙ e

  -- and known to be objects'
  objects : (p : Place) (b : ℕ) → sees_at (views k) p b ≡ true → is_recorded (views k).log.records p ≡ true → IsInObject (Left [] (log_drained Voiding (views k).log)) p
  objects (InRun c w) b s r = let z = y.known.objects (InRun c w) b s r in record {
    of_block = z.of_block;
    size = z.size;
    small = z.small;
    has_line = z.has_line;
    sees = z.sees;
    sized = λ d l. restored (Rattle.pm_crash.specs.Sim.size_place (views k) (InRun c w)) d (bit z.size d) (z.sized d l);
  }
  objects (InHuge c w) b s r = let z = y.known.objects (InHuge c w) b s r in record {
    of_block = z.of_block;
    size = z.size;
    small = z.small;
    has_line = z.has_line;
    sees = z.sees;
    sized = λ d l. restored (Rattle.pm_crash.specs.Sim.size_place (views k) (InHuge c w)) d (bit z.size d) (z.sized d l);
  }
  objects (Descr c) b s r = absurd (both_ways false refl (y.known.objects (Descr c) b s r).of_block)
  objects RootWord b s r = absurd (both_ways false refl (y.known.objects RootWord b s r).of_block)

  voided : (left : List Undrained) → after (views k) Drain ≡ drained_to (views k) left → Grows (views k) kept (after (views k) Drain) kept
  voided (c ∷ left) is = grown_to (c ∷ left) (views k).log is (λ p b s r. inl r) (λ p b z s e. e)
  voided [] is =
      let drains : Phase → View = λ ph. record (views k) {
        claims = decided_by ph (views k).log.entries (Drained [] ∷ (views k).claims);
        changes = [];
        calls = Drain ∷ (views k).calls;
        log = log_drained ph (views k).log;
      } in
      let so : after (views k) Drain ≡ drains Voiding = is ∙ ap drains y.voids in
      grown_to [] (log_drained Voiding (views k).log) so (λ p b s r. inr (objects p b s r))
      (λ p b z s e. restored p b z e)

pub voiding_grows : VoidingGrows
voiding_grows o old mem views new g k kept y u = voided o old mem views new g k kept y u (drained (views k).changes) refl

-- ---- SO THE SIMULATION GOES ON

kept_view : (v : View) (s : Step) → v.log.phase ≡ Open → goes_on v s ≡ true → (Rattle.pm_crash.specs.Sim.KeepsEntries v (after v s)) × ((after v s).call ≡ v.call)
kept_view v (Draw n) e u = absurd (both_ways false refl u)
kept_view v (Tell operation reply) e u = absurd (both_ways false refl u)
kept_view v (NumberSeen n) e u = subst (λ ph. (Rattle.pm_crash.specs.Sim.KeepsEntries v (with_seen (NumberSeen n) (begun ph v))) × ((with_seen (NumberSeen n) (begun ph v)).call ≡ v.call)) (sym e) (record { fixed = refl; entries = refl }, refl)
kept_view v (Occupy at bits true) e u = (record { fixed = refl; entries = refl }, refl)
kept_view v (Occupy at bits false) e u = (record { fixed = refl; entries = refl }, refl)
kept_view v (Load w found) e u = (record { fixed = refl; entries = refl }, refl)
kept_view v (Store w n) e u = (record { fixed = refl; entries = refl }, refl)
kept_view v (Or w bits found) e u = (record { fixed = refl; entries = refl }, refl)
kept_view v (And w bits found) e u = (record { fixed = refl; entries = refl }, refl)
kept_view v (Flush line) e u = (record { fixed = refl; entries = refl }, refl)
kept_view v Drain e u = (record { fixed = refl; entries = refl }, refl)
kept_view v (TakeWrite line won) e u = (record { fixed = refl; entries = refl }, refl)
kept_view v (TakeRead line won) e u = (record { fixed = refl; entries = refl }, refl)
kept_view v (Raise line won) e u = (record { fixed = refl; entries = refl }, refl)
kept_view v (Give line) e u = (record { fixed = refl; entries = refl }, refl)
kept_view v (ZoneTry zone won) e u = (record { fixed = refl; entries = refl }, refl)
kept_view v (ZoneGive zone) e u = (record { fixed = refl; entries = refl }, refl)
kept_view v (Occupied at found) e u = (record { fixed = refl; entries = refl }, refl)
kept_view v (Vacate at bits) e u = (record { fixed = refl; entries = refl }, refl)
kept_view v (StopSeen set) e u = (record { fixed = refl; entries = refl }, refl)
kept_view v SetStop e u = (record { fixed = refl; entries = refl }, refl)

pub steps_keep_sims : (s : Step) → StepsKeepSims s
steps_keep_sims s o old mem views new g k entries entries' y nothing same sim =
    let e = kept_view (views k) s y.is_open y.goes in
    sim_stays (views k) (after (views k) s) entries entries' sim e.0 e.1 (λ kept. steps_grow s o old mem views new g k kept y (nothing kept)) same
