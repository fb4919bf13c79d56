-- A LOAD tells a lane what a word is: before its number is drawn it learns from that, and later nothing changes.
use Rattle.std.specs.Prelude.{List, ◌∷◌}
use Rattle.std.specs.Option.{option_map}
use Rattle.std.specs.Int.{bit_at}
use Rattle.std.proofs.Common.{◌≡◌, ◌≢◌, ℕ, ◌+◌, ◌<◌, ◌≤◌, ◌⊎◌, inl, inr, ⊎_elim, nat_le, nat_lt, Bool, true, false, cond, ◌==◌, ◌&&◌, ◌||◌, refl, sym, ap, ◌∙◌, subst, arith, eq-eqb, ne_eqb, Option, None, Some}
use Rattle.std.proofs.lemmas.Bool.{cases_eq, cases_lt, eqb-true, lt-ltb, both_ways, and_parts, and_from, or_cases, cond-true, cond-false, false_from_ne_true}
use Rattle.pm_layout.specs.Chunks.{words_of, chunks_of, word_of_chunk}
use Rattle.pm_view.specs.Claims.{Knows, geometry, pictured}
use Rattle.pm_view.specs.Entries.{latest, redos, turn}
use Rattle.pm_view.specs.Founds.{FindsKnown}
use Rattle.pm_view.specs.Log.{Phase, Idle, Open, Drawn, Sealing, Applying, Clearing, Retiring, Voiding, is_early}
use Rattle.pm_view.specs.Parts.{Part}
use Rattle.pm_view.specs.Places.{Place, InRun, InHuge, Descr, RootWord, Block, Small, Big, Root, place_of, block_of, header, is_data, is_place, word_of}
use Rattle.pm_view.specs.Steps.Step.{Load}
use Rattle.pm_view.specs.View.{View}
use Rattle.pm_view.specs.Views.{part_in, learned}
use Rattle.pm_world.specs.States.{Diff, given, read}
use Rattle.pm_world.specs.Sights.{is_pictured, is_recorded, is_made, picture, fresh, sight_of}
use Rattle.pm_world.specs.Lanes.{owns, sees, is_in_making, TurnFits, Flies, SightFits}
use Rattle.pm_world.specs.Laws.{Turn, Keeps}
use Rattle.pm_world.specs.Memory.{Memory, PoolWord, bit, cells_of}
use Rattle.pm_world.specs.World.{Opening, Views, Past, origin, ghost_of, settled_words, World}
use Rattle.pm_world.proofs.Basics.{given_cond, some_cond, made_turn, early_undecided}
use Rattle.pm_world.proofs.Frame.{mine_own, own_has, some_first, maker_owns}
use Rattle.pm_world.proofs.BlocksKnown.{block_so}
use Rattle.pm_world.proofs.Known.{picture_so, in_pool, known_so}
use Rattle.pm_world.proofs.Learns.{Learns, learns}
use Rattle.pm_world.proofs.StepClaims.{claims_step}
use Rattle.pm_world.proofs.StepPlain.{plain_step}
use Rattle.pm_world.proofs.Worlds.{turned}

-- what is to be shown of a load in this phase of such a word, the phase and the word's part written out
abbrev pub KeepsLoadAt : Phase → Part → Type 0
KeepsLoadAt ph part = (w n : ℕ) (o : Opening) (mem : Memory) (views views' : Views) (g : Past) (k : ℕ) → World o mem views g → k < o.lanes → w < words_of o.shape → n ≡ mem (PoolWord w)
    → (views k).log.phase ≡ ph → part_in (views k) w ≡ part → Turn views views' k (record (views k) { claims = learned ph part w n (views k).claims }) → World o mem views' g

-- A LOAD KEEPS THE WORLD, where it does in each phase, of each word
pub load_from : ((ph : Phase) (part : Part) → KeepsLoadAt ph part) → (w n : ℕ) → Keeps (Load w n)
load_from keeps w n o mem new views views' g k x ink law moves t = let v = views k in (
  subst (λ m. World o m views' g) (λ i l. sym (moves.0 l) i) (keeps v.log.phase (part_in v w) w n o mem views views' g k x ink (subst (λ s. w < words_of s) (x.each_lane k ink).shape law.allowed) moves.1 refl refl t),
  subst (FindsKnown v w) (sym moves.1) (known_so o mem views g x k ink w),
)

-- ---- ONCE ITS NUMBER IS DRAWN a lane learns nothing from loads
unlearned : (o : Opening) (mem : Memory) (views views' : Views) (g : Past) (k : ℕ) → World o mem views g → k < o.lanes → Turn views views' k (views k) → World o mem views' g
unlearned o mem views views' g k x ink t = plain_step o mem mem views views' g x k ink (λ l. refl) (views k) t refl refl (λ e. e) (x.each_lane k ink)

pub load_drawn : (m : ℕ) (part : Part) → KeepsLoadAt (Drawn m) part
load_drawn m part w n o mem views views' g k x ink l e ph p t = unlearned o mem views views' g k x ink t

pub load_sealing : (m : ℕ) (part : Part) → KeepsLoadAt (Sealing m) part
load_sealing m part w n o mem views views' g k x ink l e ph p t = unlearned o mem views views' g k x ink t

pub load_applying : (todo : List Rattle.pm_view.specs.Entries.Entry) (part : Part) → KeepsLoadAt (Applying todo) part
load_applying todo part w n o mem views views' g k x ink l e ph p t = unlearned o mem views views' g k x ink t

pub load_clearing : (part : Part) → KeepsLoadAt Clearing part
load_clearing part w n o mem views views' g k x ink l e ph p t = unlearned o mem views views' g k x ink t

pub load_retiring : (m : ℕ) (part : Part) → KeepsLoadAt (Retiring m) part
load_retiring m part w n o mem views views' g k x ink l e ph p t = unlearned o mem views views' g k x ink t

pub load_voiding : (part : Part) → KeepsLoadAt Voiding part
load_voiding part w n o mem views views' g k x ink l e ph p t = unlearned o mem views views' g k x ink t

-- ---- BEFORE, IT KNOWS THE WORD
-- a record is of data, and the lane knows the word
abbrev pub RecordsKnown : View → Type 0
RecordsKnown v = (p : Place) → is_recorded v.log.records p ≡ true → (is_data p ≡ true) × ((b : ℕ) → given ((sight_of v).picture p b) ≡ true)

pub records_known : (o : Opening) (mem : Memory) (views : Views) (g : Past) (k : ℕ) → World o mem views g → k < o.lanes → is_early (views k).log.phase ≡ true → RecordsKnown (views k)
records_known o mem views g k x ink early p r = let f = (x.each_lane k ink).recorded (early_undecided (views k).log.phase early).0 p r in (f.0, λ b. (f.1 b).1)

picked : (t a : Bool) (q : Option ℕ) (n : ℕ) (f : ℕ → Bool) → given (cond a (option_map f q) None) ≡ true → given (cond a (option_map f (cond t (Some n) q)) None) ≡ true
picked t false q n f e = e
picked false true q n f e = e
picked true true q n f e = refl

picked_from : (t a : Bool) (q : Option ℕ) (n : ℕ) (f : ℕ → Bool) (y : Bool) → cond a (option_map f (cond t (Some n) q)) None ≡ Some y → (a ≡ true) × (((t ≡ true) × (f n ≡ y)) ⊎ (cond a (option_map f q) None ≡ Some y))
picked_from t false q n f y e = absurd (both_ways false refl (ap given e))
picked_from false true q n f y e = (refl, inr e)
picked_from true true q n f y e = (refl, inl (refl, some_bit (f n) y e))
  where
    value : Option Bool → Bool
    value None = false
    value (Some z) = z

    some_bit : (a c : Bool) → Some a ≡ Some c → a ≡ c
    some_bit a c e = ap value e

given_by : (C : Bool) (q : Option Bool) → C ≡ true → given q ≡ true → given (cond C q None) ≡ true
given_by C q c e = ap given (cond-true C q None c) ∙ e

early_mine : (ph : Phase) (l m h : Bool) → is_early ph ≡ true → TurnFits ph l m h (Some true) → m ≡ true
early_mine Idle l m h e t = absurd (both_ways false refl (ap given (sym t)))
early_mine Open l m h e t = t
early_mine (Drawn n) l m h e t = absurd (both_ways false refl e)
early_mine (Sealing n) l m h e t = absurd (both_ways false refl e)
early_mine (Applying todo) l m h e t = absurd (both_ways false refl e)
early_mine Clearing l m h e t = absurd (both_ways false refl e)
early_mine (Retiring n) l m h e t = absurd (both_ways false refl e)
early_mine Voiding l m h e t = absurd (both_ways false refl e)

module _ (o : Opening) (mem : Memory) (views : Views) (g : Past) (x : World o mem views g) (k : ℕ) (ink : k < o.lanes) (early : is_early (views k).log.phase ≡ true)
    (w n : ℕ) (inside : w < words_of o.shape) (word : n ≡ mem (PoolWord w)) where
  recorded : RecordsKnown (views k)
  recorded = records_known o mem views g k x ink early

  fit : SightFits o.shape (cells_of o.shape mem) (settled_words o g) (Flies (ghost_of g) k) (ghost_of g) k (sight_of (views k))
  fit = x.bits.each_lane k

  shape_is : (views k).fixed.shape ≡ o.shape
  shape_is = (x.each_lane k ink).shape

  abbrev made_at : Place → ℕ → Bool
  made_at p b = is_data p && (is_made (turn (latest (redos (views k).log.entries)) (block_of (geometry (views k).fixed.shape (views k).claims) p b)) || is_recorded (views k).log.records p)

  abbrev pc : Diff
  pc = picture (views k).fixed.shape (Knows w n ∷ (views k).claims)

  abbrev fr : Diff
  fr = fresh (views k).fixed.shape (Knows w n ∷ (views k).claims) (views k).log

  abbrev old : Place → Option ℕ
  old p = pictured (views k).fixed.shape (views k).claims (word_of (views k).fixed.shape p)

  -- a pictured place whose word the pool has is the pool's
  chunk_inside : (c u : ℕ) → word_of_chunk o.shape c + u ≡ w → c < chunks_of o.shape
  chunk_inside c u e = ⊎_elim (λ (l : c < chunks_of o.shape). l) (λ (l : chunks_of o.shape ≤ c). absurd (omega arith)) (cases_lt c (chunks_of o.shape))

  place_inside : (p : Place) → is_pictured p ≡ true → word_of o.shape p ≡ w → is_place o.shape p ≡ true
  place_inside (InRun c u) t e = and_from (nat_lt c (chunks_of o.shape)) (nat_lt u 512) (lt-ltb c (chunks_of o.shape) (chunk_inside c u e)) (and_parts (nat_le 8 u) (nat_lt u 512) t).1
  place_inside (InHuge c u) t e = and_from (nat_lt c (chunks_of o.shape)) (nat_lt u 512) (lt-ltb c (chunks_of o.shape) (chunk_inside c u e)) t
  place_inside (Descr c) t e = absurd (both_ways false refl t)
  place_inside RootWord t e = refl

  knows_so : (p : Place) (b : ℕ) (y : Bool) → (owns g.geo (settled_words o g) (sight_of (views k)).hold p b || sees g.geo (settled_words o g) (sight_of (views k)).hold p b) ≡ true → pc p b ≡ Some y → read (cells_of o.shape mem).pool p b ≡ y
  knows_so p b y u e = let z = picked_from (w == word_of (views k).fixed.shape p) (is_pictured p) (old p) n (λ m. bit_at m b == 1) y e in ⊎_elim
      (λ (q : ((w == word_of (views k).fixed.shape p) ≡ true) × (bit n b ≡ y)). let at : word_of o.shape p ≡ w = ap (λ s. word_of s p) (sym shape_is) ∙ sym (eqb-true w (word_of (views k).fixed.shape p) q.0) in
      in_pool o mem views g x k ink p b z.0 (place_inside p z.0 at) ∙ (ap (λ a. bit (mem (PoolWord a)) b) at ∙ (ap (λ m. bit m b) (sym word) ∙ q.1)))
      (λ (q : (sight_of (views k)).picture p b ≡ Some y). picture_so o mem views g x k ink p b y (or_cases (owns g.geo (settled_words o g) (sight_of (views k)).hold p b) (sees g.geo (settled_words o g) (sight_of (views k)).hold p b) u) q) z.1

  -- of a block that the call allocates the place that says so is in no run in the making
  turned_plain : (B : Block) → turn (latest (redos (views k).log.entries)) B ≡ Some true → is_in_making (sight_of (views k)).hold (place_of B) ≡ false
  turned_plain (Small c i) e = fit.plain (InRun c 0) i (some_first (latest (redos (views k).log.entries) (InRun c 0) i) ((sight_of (views k)).call.fresh (InRun c 0) i) (ap given e))
  turned_plain (Big f) e = fit.plain (Descr f) 1 (some_first (latest (redos (views k).log.entries) (Descr f) 1) ((sight_of (views k)).call.fresh (Descr f) 1) (ap given e))
  turned_plain Root e = absurd (both_ways false refl (ap given e))

  turned_mine : (B : Block) → turn (latest (redos (views k).log.entries)) B ≡ Some true → (sight_of (views k)).hold.mine B ≡ true
  turned_mine B e = early_mine (views k).log.phase ((sight_of (views k)).hold.locked (header o.shape g.geo B)) ((sight_of (views k)).hold.mine B) ((sight_of (views k)).hold.here B) early
      (subst (TurnFits (views k).log.phase ((sight_of (views k)).hold.locked (header o.shape g.geo B)) ((sight_of (views k)).hold.mine B) ((sight_of (views k)).hold.here B)) e (fit.turns B))

  of_turned : (p : Place) (b : ℕ) → is_data p ≡ true → turn (latest (redos (views k).log.entries)) (block_of g.geo p b) ≡ Some true
      → (owns g.geo (settled_words o g) (sight_of (views k)).hold p b ≡ true) × (is_in_making (sight_of (views k)).hold p ≡ false)
  of_turned (InRun c u) b d e = (mine_own (sight_of (views k)).hold (block_of g.geo (InRun c u) b) (turned_mine (block_of g.geo (InRun c u) b) e), turned_plain (block_of g.geo (InRun c u) b) e)
  of_turned (InHuge c u) b d e = (
    mine_own (sight_of (views k)).hold (Big (g.geo.first c)) (turned_mine (Big (g.geo.first c)) e),
    false_from_ne_true ((sight_of (views k)).hold.making c) (λ m. let y = maker_owns o.shape (cells_of o.shape mem) (settled_words o g) (Flies (ghost_of g) k) (ghost_of g) x.bits.geo k (sight_of (views k)) fit c m in
        both_ways ((sight_of (views k)).hold.making (g.geo.first c)) (turned_plain (Big (g.geo.first c)) e) (ap (sight_of (views k)).hold.making y.1 ∙ m)),
  )
  of_turned (Descr c) b d e = absurd (both_ways false refl d)
  of_turned RootWord b d e = absurd (both_ways false refl d)

  made_more : (p : Place) (b : ℕ) → given (fr p b) ≡ true
      → (given ((sight_of (views k)).call.fresh p b) ≡ true) ⊎ ((turn (latest (redos (views k).log.entries)) (block_of g.geo p b) ≡ Some true) × (owns g.geo (settled_words o g) (sight_of (views k)).hold p b ≡ true) × (is_in_making (sight_of (views k)).hold p ≡ false))
  made_more p b e = let B = block_of (geometry (views k).fixed.shape (views k).claims) p b in let M = is_made (turn (latest (redos (views k).log.entries)) B) in let R = is_recorded (views k).log.records p in
      let c = (given_cond (made_at p b) (pc p b) e).0 in let y = and_parts (is_data p) (M || R) c in ⊎_elim
      (λ (m : M ≡ true). let z = made_turn (turn (latest (redos (views k).log.entries)) B) m in
      let same = block_so o.shape (cells_of o.shape mem) (settled_words o g) (Flies (ghost_of g) k) (ghost_of g) x.bits.geo k (views k) (views k).log.phase fit p b (own_has (sight_of (views k)).hold B (mine_own (sight_of (views k)).hold B (turned_mine B z))) in
      let now = ap (turn (latest (redos (views k).log.entries))) (sym same) ∙ z in let q = of_turned p b y.0 now in inr (now, q.0, q.1))
      (λ (r : R ≡ true). inl (given_by (made_at p b) ((sight_of (views k)).picture p b) c ((recorded p r).1 b))) (or_cases M R y.1)

  learning_fits : Learns o.shape o.lanes (origin o) (cells_of o.shape mem) (λ j. sight_of (views j)) (ghost_of g) x.bits k ink pc fr
  learning_fits = record {
    early = early;
    pictures = λ p b u y e. knows_so p b y u e;
    fresh = λ p b y e. some_cond (made_at p b) (pc p b) y e;
    more = λ p b e. let z = given_cond (made_at p b) ((sight_of (views k)).picture p b) e in given_by (made_at p b) (pc p b) z.0 (picked (w == word_of (views k).fixed.shape p) (is_pictured p) (old p) n (λ m. bit_at m b == 1) z.1);
    made = made_more;
    descr = λ f b. refl;
  }

  -- it knows the word
  pub knows_word : (views' : Views) → Turn views views' k (record (views k) { claims = Knows w n ∷ (views k).claims }) → World o mem views' g
  knows_word views' t = let v = views k in claims_step o mem mem views views' g x k ink 0 (λ l ne. refl) (Knows w n ∷ v.claims) v.seen t early (λ p b r q. q) (λ p r B e. e)
      (λ p b r d e. picked (w == word_of (views k).fixed.shape p) (is_pictured p) (old p) n (λ m. bit_at m b == 1) e)
      (λ one u y e. ⊎_elim (λ (q : w ≡ u). ap (λ a. mem (PoolWord a)) (sym q) ∙ (sym word ∙ some_num n y (sym (cond-true (w == u) (Some n) (pictured v.fixed.shape v.claims u) (eq-eqb w u q)) ∙ e)))
      (λ (ne : w ≢ u). ((x.each_lane k ink).alone one).words u y (sym (cond-false (w == u) (Some n) (pictured v.fixed.shape v.claims u) (ne_eqb w u ne)) ∙ e)) (cases_eq w u))
      (λ m j ne. refl) (λ m j ne. refl) refl
      (learns o.shape o.lanes (origin o) (cells_of o.shape mem) (λ j. sight_of (views j)) (ghost_of g) x.bits k ink pc fr learning_fits (λ j. sight_of (views' j)) (turned views views' k (record v { claims = Knows w n ∷ v.claims }) t))
    where
      value : Option ℕ → ℕ
      value None = 0
      value (Some y) = y

      some_num : (a c : ℕ) → Some a ≡ Some c → a ≡ c
      some_num a c e = ap value e
