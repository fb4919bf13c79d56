-- Occupancy words at the world: a look at one; bits that are not all free; the bit of a run's block that is got.
use Rattle.std.specs.Prelude.{[], ◌∷◌, List, bit_and, bit_or, unwrap_or, ◌↔◌}
use Rattle.std.specs.Int.{bit_at}
use Rattle.std.specs.Option.{option_map}
use Rattle.std.proofs.Common.{◌≡◌, ◌≢◌, ℕ, zero, suc, ◌+◌, ◌-◌, ◌/◌, ◌%◌, ◌<◌, ◌≤◌, ⊎_elim, nat_le, nat_lt, Bool, true, false, cond, not, eqb, ◌==◌, ◌&&◌, ◌||◌, refl, sym, ap, ◌∙◌, subst, arith, eq-eqb, ne_eqb, Option, None, Some}
use Rattle.std.proofs.lemmas.Bool.{cases_eq, cases_lt, cases_Bool, both_ways, eqb-true, leb-true, ltb-true, lt-ltb, and_parts, and_from, and_left, or_parts, not_from_false, cond-true, cond-false, false_from_ne_true}
use Rattle.pm_layout.specs.Sizes.{blocks_of}
use Rattle.pm_layout.specs.Chunks.{chunks_of, page_of_chunk, word_of_chunk}
use Rattle.pm_view.specs.declared.occ.Occ.{Occ}
use Rattle.pm_view.specs.declared.occ.Occ.TheVariants.{Run, Zone}
use Rattle.pm_view.specs.Places.{Place, InRun, InHuge, Descr, RootWord, Block, Small, Big, Root, part, block_of, is_data, same, word_of}
use Rattle.pm_view.specs.Entries.{latest, redos, turn}
use Rattle.pm_view.specs.Parts.{chunk_place, place_in}
use Rattle.pm_view.specs.Claims.{Claim, Reserved, class, mine, geometry, block_in, passes, is_block_of, is_new_by, pictured, run_chunk}
use Rattle.pm_view.specs.Founds.{Found}
use Rattle.pm_view.specs.Steps.Step.{Occupied, Occupy}
use Rattle.pm_view.specs.View.{View, Seen}
use Rattle.pm_view.specs.Views.{after, is_same_occ, occupancy_of, occupancy_with}
use Rattle.pm_world.specs.States.{State, Diff, given, there, put1, Cells}
use Rattle.pm_world.specs.Sights.{Sight, is_pictured, is_made, is_recorded, picture, fresh, sight_of}
use Rattle.pm_world.specs.Lanes.{own, owns, valid, Flies, is_occupancy, Bits}
use Rattle.pm_world.specs.Lawful.{HasOcc, IsLawful}
use Rattle.pm_world.specs.Moves.{Moves}
use Rattle.pm_world.specs.Course.{past_after}
use Rattle.pm_world.specs.Memory.{Memory, RunWord, ZoneWord, Becomes, occ_at, bit, occupancy_bit, cells_of}
use Rattle.pm_world.specs.World.{Opening, Views, Past, origin, ghost_of, settled_words, is_at_page, LaneFits, World}
use Rattle.pm_world.specs.Laws.{Turn, Keeps}
use Rattle.pm_world.proofs.Basics.{some_else, early_undecided}
use Rattle.pm_world.proofs.Cells.{sort, number, cells_run}
use Rattle.pm_world.proofs.Frame.{Around, fresh_given, no_run}
use Rattle.pm_world.proofs.Going.{Turned}
use Rattle.pm_world.proofs.Replays.{put1_here, put1_else}
use Rattle.pm_world.proofs.Worlds.{turned}
use Rattle.pm_world.proofs.Occupies.{with_mine, more_owned, free_block, nobody, class_known, Pictured, occupies_small}
use Rattle.pm_world.proofs.OccWorlds.{data_owned, occ_world}
use Rattle.pm_world.proofs.WordPlaces.{chunk_part, no_part, run_chunk_is, page_apart, pow_bit, or_bit, clear_bit}
use Rattle.pm_world.proofs.StepPlain.{plain_step, lane_told}

some_is : (a b : ℕ) → Some a ≡ Some b → a ≡ b
some_is a b e = ap (λ z. unwrap_or z a) e

pub at_page : (v : View) (at : Occ) → HasOcc v at → is_at_page at ≡ true
at_page v (Run place) has = let e = has.2 in eq-eqb (place % 4096) 0 (omega arith)
at_page v (Zone zone) has = refl

-- two occupancy words that are one
same_occ : (at other : Occ) → is_same_occ at other ≡ true → at ≡ other
same_occ (Run p) (Run q) e = ap (λ y. Run y) (eqb-true p q e)
same_occ (Run p) (Zone z) e = absurd (both_ways false refl e)
same_occ (Zone z) (Run q) e = absurd (both_ways false refl e)
same_occ (Zone z) (Zone y) e = ap (λ y. Zone y) (eqb-true z y e)

pub if_some : (a : Option ℕ) (P : ℕ → Type 0) → ((x : ℕ) → a ≡ Some x → P x) → Rattle.std.specs.Prelude.IfSome a P
if_some None P u = tt
if_some (Some x) P u = u x refl

-- a look at an occupancy word is of its value
pub occupied : (at : Occ) (found : ℕ) → Keeps (Occupied at found)
occupied at found o mem new views views' g k x ink law moves t = let f = x.each_lane k ink in let v = after (views k) (Occupied at found) in (
  plain_step o mem new views views' g x k ink moves.0 v t refl refl (λ e. e) record { lane = f.lane; shape = f.shape; lanes = f.lanes; log = f.log; made = f.made; recorded = f.recorded; number = f.number; zones = f.zones; masks = f.masks; room = f.room; within = f.within; alone = λ one. record { words = (f.alone one).words; occupancy = λ other y e. seen (f.alone one).occupancy other y e }; entries = f.entries },
  λ one. if_some (occupancy_of (views k).occupancy at) (λ y. found ≡ y) (λ y e. moves.1 ∙ ((f.alone (sym f.lanes ∙ eqb-true (views k).fixed.lanes 1 one)).occupancy at y e).0),
)
  where
    seen : ((other : Occ) (y : ℕ) → occupancy_of (views k).occupancy other ≡ Some y → (mem (occ_at other) ≡ y) × (is_at_page other ≡ true)) → (other : Occ) (y : ℕ) → cond (is_same_occ at other) (Some found) (occupancy_of (views k).occupancy other) ≡ Some y → (mem (occ_at other) ≡ y) × (is_at_page other ≡ true)
    seen u other y e = ⊎_elim (λ (s : is_same_occ at other ≡ true). let q = same_occ at other s in (ap (λ a. mem (occ_at a)) (sym q) ∙ (sym moves.1 ∙ some_is found y (sym (cond-true (is_same_occ at other) (Some found) (occupancy_of (views k).occupancy other) s) ∙ e)), ap is_at_page (sym q) ∙ at_page (views k) at law.allowed))
        (λ (s : is_same_occ at other ≡ false). u other y (sym (cond-false (is_same_occ at other) (Some found) (occupancy_of (views k).occupancy other) s) ∙ e)) (cases_Bool (is_same_occ at other))

-- bits of which some are taken stay as they are
pub occupy_lost : (at : Occ) (bits : ℕ) → Keeps (Occupy at bits false)
occupy_lost at bits o mem new views views' g k x ink law moves t = let f = x.each_lane k ink in let v = after (views k) (Occupy at bits false) in (
  plain_step o mem new views views' g x k ink moves.0 v t refl refl (λ e. e) (lane_told o mem g k (views k) (Occupy at bits false ∷ (views k).seen) (views k).call (views k).actions (views k).published f),
  λ one. if_some (occupancy_of (views k).occupancy at) (λ y. (false ≡ true) ↔ (bit_and y bits ≡ 0))
      (λ y e. let w = ((f.alone (sym f.lanes ∙ eqb-true (views k).fixed.lanes 1 one)).occupancy at y e).0 in (λ q. absurd (both_ways false refl q), λ q. absurd (moves.1 (ap (λ z. bit_and z bits) w ∙ q)))),
)

-- occupancy words that are one location are one
one_occ : (at other : Occ) → is_at_page at ≡ true → is_at_page other ≡ true → occ_at at ≡ occ_at other → at ≡ other
one_occ (Run p) (Run q) a b e = let x = eqb-true (p % 4096) 0 a in let y = eqb-true (q % 4096) 0 b in let z : p / 4096 ≡ q / 4096 = ap number e in ap (λ r. Run r) (omega arith)
one_occ (Run p) (Zone z) a b e = let q : ◌≡◌ {A = ℕ} 2 3 = ap sort e in absurd (omega arith)
one_occ (Zone z) (Run q) a b e = let q : ◌≡◌ {A = ℕ} 3 2 = ap sort e in absurd (omega arith)
one_occ (Zone z) (Zone y) a b e = ap (λ r. Zone r) (ap number e)

same_true : (at : Occ) → is_same_occ at at ≡ true
same_true (Run p) = eq-eqb p p refl
same_true (Zone z) = eq-eqb z z refl

-- the occupancy words that the lane knows after it changed one
pub occ_known : (at : Occ) (F : ℕ → ℕ) (mem new : Memory) → is_at_page at ≡ true → Becomes (occ_at at) (F (mem (occ_at at))) mem new → (l : List Seen) → ((other : Occ) (y : ℕ) → occupancy_of l other ≡ Some y → (mem (occ_at other) ≡ y) × (is_at_page other ≡ true))
    → (other : Occ) (z : ℕ) → occupancy_of (occupancy_with at (option_map F (occupancy_of l at)) l) other ≡ Some z → (new (occ_at other) ≡ z) × (is_at_page other ≡ true)
occ_known at F mem new page b l u other z e = go (occupancy_of l at) refl e
  where
    elsewhere : (at ≡ other → ⊥) → occupancy_of l other ≡ Some z → (new (occ_at other) ≡ z) × (is_at_page other ≡ true)
    elsewhere ne r = let y = u other z r in (b.0 (occ_at other) (λ q. ne (one_occ at other page y.1 (sym q))) ∙ y.0, y.1)

    is_some : Option ℕ → Bool
    is_some None = false
    is_some (Some y) = true

    go : (a : Option ℕ) → occupancy_of l at ≡ a → occupancy_of (occupancy_with at (option_map F a) l) other ≡ Some z → (new (occ_at other) ≡ z) × (is_at_page other ≡ true)
    go None q r = elsewhere (λ s. both_ways (is_some (occupancy_of l at)) (ap is_some q) (ap (λ a. is_some (occupancy_of l a)) s ∙ ap is_some r)) r
    go (Some y) q r = ⊎_elim (λ (s : is_same_occ at other ≡ true). let e = same_occ at other s in let w : F y ≡ z = some_is (F y) z (sym (cond-true (is_same_occ at other) (Some (F y)) (occupancy_of l other) s) ∙ r) in
        (ap (λ a. new (occ_at a)) (sym e) ∙ (b.1 ∙ (ap F (u at y q).0 ∙ w)), ap is_at_page (sym e) ∙ page))
        (λ (s : is_same_occ at other ≡ false). elsewhere (λ e. both_ways (is_same_occ at other) s (ap (is_same_occ at) (sym e) ∙ same_true at)) (sym (cond-false (is_same_occ at other) (Some (F y)) (occupancy_of l other) s) ∙ r)) (cases_Bool (is_same_occ at other))

-- ---- THE BIT OF A RUN'S BLOCK is got
pub none_some : {A : Type 0} {y : A} → None ≡ Some y → ⊥
none_some {A} {y} e = both_ways false refl (ap some e)
  where
    some : Option A → Bool
    some None = false
    some (Some z) = true

-- a picture where words that are new are not known
pub less_known : {A : Type 0} (g n : Bool) (a : Option ℕ) (F : ℕ → A) (y : A) → cond g (option_map F (cond n None a)) None ≡ Some y → cond g (option_map F a) None ≡ Some y
less_known true true a F y e = absurd (none_some e)
less_known true false a F y e = e
less_known false n a F y e = e

pub none_known : {A : Type 0} (g n : Bool) (a : Option ℕ) (F : ℕ → A) → (g ≡ true → n ≡ true) → cond g (option_map F (cond n None a)) None ≡ None
none_known true n a F u = ap (λ t. option_map F (cond t None a)) (u refl)
none_known false n a F u = refl

pub same_known : {A : Type 0} (g n : Bool) (a : Option ℕ) (F : ℕ → A) → (g ≡ true → n ≡ false) → cond g (option_map F (cond n None a)) None ≡ cond g (option_map F a) None
same_known true n a F u = ap (λ t. option_map F (cond t None a)) (u refl)
same_known false n a F u = refl

-- what the call made final is the same where its picture is
pub same_fresh : (g : Bool) (a c : Option Bool) → ((y : Bool) → a ≡ Some y → c ≡ Some y) → (given (cond g c None) ≡ true → a ≡ c) → cond g a None ≡ cond g c None
same_fresh false a c u w = refl
same_fresh true None None u w = refl
same_fresh true None (Some y) u w = w refl
same_fresh true (Some y) c u w = sym (u y refl)

pub part_of_data : (cl w a b : ℕ) → 8 ≤ w → part cl w a ≡ part cl w b
part_of_data cl w a b l = let z : eqb w 0 ≡ false = ne_eqb w 0 (λ e. omega arith) in cond-false (eqb w 0) a ((w / 8 - 1) / cl) z ∙ sym (cond-false (eqb w 0) b ((w / 8 - 1) / cl) z)

module _ (o : Opening) (mem new : Memory) (views views' : Views) (g : Past) (x : World o mem views g) (k : ℕ) (ink : k < o.lanes) (place bits : ℕ) (law : IsLawful (views k) (Occupy (Run place) bits true)) (moves : Moves k (Occupy (Run place) bits true) mem new)
    (t : Turn views views' k (after (views k) (Occupy (Run place) bits true))) where
  abbrev v : View
  v = views k

  abbrev at : Occ
  at = Run place

  abbrev c : ℕ
  c = law.allowed.there.0

  abbrev i : ℕ
  i = law.allowed.one.0

  abbrev got : Block → Bool
  got B = is_block_of (views k).fixed.shape (Run place) bits B

  abbrev sights : ℕ → Sight
  sights j = sight_of (views j)

  abbrev cells : Cells
  cells = cells_of o.shape mem

  abbrev S : State
  S = settled_words o g

  abbrev claims' : List Claim
  claims' = Reserved (Run place) bits ∷ (views k).claims

  abbrev pc : Diff
  pc = picture (views k).fixed.shape (Reserved (Run place) bits ∷ (views k).claims)

  fl : LaneFits o mem g k (views k)
  fl = x.each_lane k ink

  sh_is : (views k).fixed.shape ≡ o.shape
  sh_is = fl.shape

  chunk_is : run_chunk (views k).fixed.shape place ≡ c
  chunk_is = run_chunk_is (views k).fixed.shape c place law.allowed.there.2

  got_is : (B : Block) → got B ≡ same B (Small c i)
  got_is (Small d j) = ap (λ a. (d == a) && (bit_at bits j == 1)) chunk_is ∙ ap (λ a. (d == c) && a) (ap (λ n. bit n j) law.allowed.one.2 ∙ pow_bit i j)
  got_is (Big d) = refl
  got_is Root = refl

  known : (sights k).hold.class c ≢ 0
  known e = law.allowed.open_ (ap (class (views k).claims) chunk_is ∙ e)

  inside : is_occupancy o.shape (Small c i) ≡ true
  inside = and_from (nat_lt c (chunks_of o.shape)) (nat_lt i 64) (lt-ltb c (chunks_of o.shape) (subst (λ s. c < chunks_of s) sh_is law.allowed.there.1)) (lt-ltb i 64 law.allowed.one.1)

  page_is : place / 4096 ≡ page_of_chunk o.shape c
  page_is = let e = law.allowed.there.2 in let q : place / 4096 ≡ page_of_chunk (views k).fixed.shape c = omega arith in q ∙ ap (λ s. page_of_chunk s c) sh_is

  was_free : cells.occ (Small c i) ≡ false
  was_free = ap (λ p. bit (mem (RunWord p)) i) (sym page_is) ∙ clear_bit (mem (RunWord (place / 4096))) bits i moves.1 (ap (λ n. bit n i) law.allowed.one.2 ∙ (pow_bit i i ∙ eq-eqb i i refl))

  fb : (valid (ghost_of g) (Small c i) ≡ true) × (there S (Small c i) ≡ false) × (g.holder (Small c i) ≡ 0)
  fb = free_block o.shape o.lanes (origin o) cells sights (ghost_of g) x.bits k ink c i got got_is inside was_free

  none_ : (j : ℕ) → own (sights j).hold (Small c i) ≡ false
  none_ = nobody o.shape o.lanes (origin o) cells sights (ghost_of g) x.bits k ink c i got got_is fb.0 fb.1 fb.2

  class_is : class (views k).claims c ≡ g.geo.class c
  class_is = class_known o.shape o.lanes (origin o) cells sights (ghost_of g) x.bits k ink c i got got_is fb.0 known

  run : g.runs c ≡ true
  run = (and_parts (g.runs c) (nat_lt i (blocks_of (g.geo.class c))) fb.0).0

  -- a word is new where its block is the one that is got
  abbrev is_newly : Option Block → Bool
  is_newly B = passes (λ C. got C && not (mine (views k).fixed.shape (views k).claims C)) B

  newly_at : (d u : ℕ) → u < 512 → (d < chunks_of (views k).fixed.shape) → is_new_by (views k).fixed.shape (views k).claims (Run place) bits (word_of_chunk (views k).fixed.shape d + u) ≡ is_newly (Some (block_of (geometry (views k).fixed.shape (views k).claims) (chunk_place (class (views k).claims d) d u) 64))
  newly_at d u l m = ap (λ p. is_newly (block_in (views k).fixed.shape (views k).claims (place_in (class (views k).claims) p) 64)) (chunk_part (views k).fixed.shape d u l m)

  newly_out : (d u : ℕ) → u < 512 → chunks_of (views k).fixed.shape ≤ d → is_new_by (views k).fixed.shape (views k).claims (Run place) bits (word_of_chunk (views k).fixed.shape d + u) ≡ false
  newly_out d u l m = ap (λ p. is_newly (block_in (views k).fixed.shape (views k).claims (place_in (class (views k).claims) p) 64)) (no_part (views k).fixed.shape d u l m)

  -- of another chunk's words none is
  newly_else : (d u : ℕ) → u < 512 → (d < chunks_of (views k).fixed.shape) → ((j : ℕ) → j ≡ part (class (views k).claims d) u 64 → got (Small d j) ≡ false) → is_new_by (views k).fixed.shape (views k).claims (Run place) bits (word_of_chunk (views k).fixed.shape d + u) ≡ false
  newly_else d u l m q = newly_at d u l m ∙ go (class (views k).claims d) (q (part (class (views k).claims d) u 64) refl)
    where
      go : (n : ℕ) → got (Small d (part (class (views k).claims d) u 64)) ≡ false → is_newly (Some (block_of (geometry (views k).fixed.shape (views k).claims) (chunk_place n d u) 64)) ≡ false
      go zero e = refl
      go (suc n) e = and_left (got (Small d (part (class (views k).claims d) u 64))) (not (mine (views k).fixed.shape (views k).claims (Small d (part (class (views k).claims d) u 64)))) e

  newly_here : (u b : ℕ) → u < 512 → 8 ≤ u → part (g.geo.class c) u b ≡ i → is_new_by (views k).fixed.shape (views k).claims (Run place) bits (word_of_chunk (views k).fixed.shape c + u) ≡ true
  newly_here u b l m e = newly_at c u l law.allowed.there.1 ∙ go (class (views k).claims c) (λ z. known z) (ap (λ n. part n u 64) class_is ∙ (part_of_data (g.geo.class c) u 64 b m ∙ e))
    where
      at_i : (j : ℕ) → j ≡ i → (got (Small c j) && not (mine (views k).fixed.shape (views k).claims (Small c j))) ≡ true
      at_i j q = ap (λ a. got (Small c a) && not (mine (views k).fixed.shape (views k).claims (Small c a))) q ∙ and_from (got (Small c i)) (not (mine (views k).fixed.shape (views k).claims (Small c i))) (got_is (Small c i) ∙ and_from (c == c) (i == i) (eq-eqb c c refl) (eq-eqb i i refl)) (not_from_false (mine (views k).fixed.shape (views k).claims (Small c i)) (or_parts ((sights k).hold.mine (Small c i)) ((sights k).hold.here (Small c i) || (sights k).hold.making c) (none_ k)).0)

      go : (n : ℕ) → n ≢ 0 → part (class (views k).claims c) u 64 ≡ i → is_newly (Some (block_of (geometry (views k).fixed.shape (views k).claims) (chunk_place n c u) 64)) ≡ true
      go zero ne q = absurd (ne refl)
      go (suc n) ne q = at_i (part (class (views k).claims c) u 64) q

  -- the lane owns no bit of such a word
  owned_old : (p : Place) (b : ℕ) → owns g.geo S (sights k).hold p b ≡ true → is_pictured p ≡ true → is_new_by (views k).fixed.shape (views k).claims (Run place) bits (word_of (views k).fixed.shape p) ≡ false
  owned_old (InRun d u) b a e = let z = and_parts (nat_le 8 u) (nat_lt u 512) e in let l = ltb-true u 512 z.1 in ⊎_elim
      (λ (m : d < chunks_of (views k).fixed.shape). newly_else d u l m (λ j q. false_from_ne_true (got (Small d j)) (λ y. let w = and_parts (d == c) (j == i) (sym (got_is (Small d j)) ∙ y) in let dc = eqb-true d c w.0 in
      both_ways (own (sights k).hold (Small c i)) (none_ k) (subst (λ a. own (sights k).hold (Small c a) ≡ true) (part_of_data (g.geo.class c) u b 64 (leb-true 8 u z.0) ∙ (sym (ap (λ n. part n u 64) class_is) ∙ (sym (ap (λ a. part (class (views k).claims a) u 64) dc) ∙ (sym q ∙ eqb-true j i w.1)))) (subst (λ a. own (sights k).hold (Small a (part (g.geo.class a) u b)) ≡ true) dc a)))))
      (λ (m : chunks_of (views k).fixed.shape ≤ d). newly_out d u l m) (cases_lt d (chunks_of (views k).fixed.shape))
  owned_old (InHuge d u) b a e = let l = ltb-true u 512 e in ⊎_elim
      (λ (m : d < chunks_of (views k).fixed.shape). newly_else d u l m (λ j q. false_from_ne_true (got (Small d j)) (λ y. let w = and_parts (d == c) (j == i) (sym (got_is (Small d j)) ∙ y) in
      both_ways (g.runs d) (no_run o.shape cells S (Flies (ghost_of g) k) (ghost_of g) x.bits.geo k (sights k) (x.bits.each_lane k) d a) (ap g.runs (eqb-true d c w.0) ∙ run))))
      (λ (m : chunks_of (views k).fixed.shape ≤ d). newly_out d u l m) (cases_lt d (chunks_of (views k).fixed.shape))
  owned_old (Descr d) b a e = absurd (both_ways false refl e)
  owned_old RootWord b a e = refl

  new_old : (p : Place) (b : ℕ) → got (block_of g.geo p b) ≡ true → is_pictured p ≡ true → is_new_by (views k).fixed.shape (views k).claims (Run place) bits (word_of (views k).fixed.shape p) ≡ true
  new_old (InRun d u) b y e = let z = and_parts (nat_le 8 u) (nat_lt u 512) e in let j = part (g.geo.class d) u b in let w = and_parts (d == c) (j == i) (sym (got_is (Small d j)) ∙ y) in let dc = eqb-true d c w.0 in
      ap (λ a. is_new_by (views k).fixed.shape (views k).claims (Run place) bits (word_of_chunk (views k).fixed.shape a + u)) dc ∙ newly_here u b (ltb-true u 512 z.1) (leb-true 8 u z.0) (sym (ap (λ a. part (g.geo.class a) u b) dc) ∙ eqb-true j i w.1)
  new_old (InHuge d u) b y e = absurd (both_ways false refl y)
  new_old (Descr d) b y e = absurd (both_ways false refl y)
  new_old RootWord b y e = absurd (both_ways false refl y)

  pic : Pictured o.shape o.lanes (origin o) cells sights (ghost_of g) x.bits k ink c i got got_is pc
  pic = record {
    less = λ p b y e. less_known (is_pictured p) (is_new_by (views k).fixed.shape (views k).claims (Run place) bits (word_of (views k).fixed.shape p)) (pictured (views k).fixed.shape (views k).claims (word_of (views k).fixed.shape p)) (λ n. bit_at n b == 1) y e;
    none_ = λ p b y. none_known (is_pictured p) (is_new_by (views k).fixed.shape (views k).claims (Run place) bits (word_of (views k).fixed.shape p)) (pictured (views k).fixed.shape (views k).claims (word_of (views k).fixed.shape p)) (λ n. bit_at n b == 1) (new_old p b y);
    else_ = λ p b a. same_known (is_pictured p) (is_new_by (views k).fixed.shape (views k).claims (Run place) bits (word_of (views k).fixed.shape p)) (pictured (views k).fixed.shape (views k).claims (word_of (views k).fixed.shape p)) (λ n. bit_at n b == 1) (owned_old p b a);
  }

  fresh_same : (p : Place) (b : ℕ) → fresh (views k).fixed.shape (Reserved (Run place) bits ∷ (views k).claims) (views k).log p b ≡ (sights k).call.fresh p b
  fresh_same p b = let f = x.bits.each_lane k in same_fresh (is_data p && (is_made (turn (latest (redos (views k).log.entries)) (block_of (geometry (views k).fixed.shape (views k).claims) p b)) || is_recorded (views k).log.records p)) (pc p b) ((sights k).picture p b) (pic.less p b)
      (λ y. pic.else_ p b (f.reach p b (fresh_given (latest (sights k).call.entries p b) ((sights k).call.fresh p b) y)))

  sight_is : sight_of (after (views k) (Occupy (Run place) bits true)) ≡ record (sight_of (views k)) { hold = with_mine (sight_of (views k)).hold got; picture = pc }
  sight_is = λ r. record (sight_of (views k)) { hold = with_mine (sight_of (views k)).hold got; picture = pc; call = record { entries = redos (views k).log.entries; fresh = λ p b. fresh_same p b r } }

  abbrev occ' : Block → Bool
  occ' = occupancy_bit o.shape (put1 (λ p. mem (RunWord p)) (place / 4096) (bit_or (mem (RunWord (place / 4096))) bits)) (λ z. mem (ZoneWord z))

  occ_is : (a : Block) → is_occupancy o.shape a ≡ true → occ' a ≡ (got a || cells.occ a)
  occ_is (Small d j) in_ = ⊎_elim
      (λ (e : d ≡ c). let q : page_of_chunk o.shape d ≡ place / 4096 = ap (page_of_chunk o.shape) e ∙ sym page_is in
      ap (λ p. bit (put1 (λ p. mem (RunWord p)) (place / 4096) (bit_or (mem (RunWord (place / 4096))) bits) p) j) q ∙ (ap (λ n. bit n j) (put1_here (λ p. mem (RunWord p)) (place / 4096) (bit_or (mem (RunWord (place / 4096))) bits))
      ∙ (or_bit (mem (RunWord (place / 4096))) bits j ∙ (ap (λ p. bit bits j || bit (mem (RunWord p)) j) (sym q) ∙ ap (λ b. b || bit (mem (RunWord (page_of_chunk o.shape d))) j) (sym (ap (λ b. b && bit bits j) (eq-eqb d (run_chunk (views k).fixed.shape place) (e ∙ sym chunk_is))))))))
      (λ (ne : d ≢ c). ap (λ n. bit n j) (put1_else (λ p. mem (RunWord p)) (place / 4096) (bit_or (mem (RunWord (place / 4096))) bits) (page_of_chunk o.shape d) (λ q. ne (page_apart o.shape d c (q ∙ page_is))))
      ∙ ap (λ b. b || bit (mem (RunWord (page_of_chunk o.shape d))) j) (sym (and_left (d == run_chunk (views k).fixed.shape place) (bit_at bits j == 1) (ne_eqb d (run_chunk (views k).fixed.shape place) (λ q. ne (q ∙ chunk_is)))))) (cases_eq d c)
  occ_is (Big d) in_ = refl
  occ_is Root in_ = refl

  abbrev g2 : Past
  g2 = record g { geo = g.geo; holder = λ B. cond (is_block_of (views k).fixed.shape (Run place) bits B) (suc (views k).fixed.lane) (g.holder B) }

  pub occupy_run : World o new views' (past_after g (views k) (Occupy (Run place) bits true)) × Found (views k) (Occupy (Run place) bits true)
  occupy_run = let un = early_undecided (views k).log.phase law.allowed.early in
      let step = occupies_small o.shape o.lanes (origin o) cells sights (ghost_of g) x.bits k ink c i got got_is inside was_free known un.0 un.1 occ' occ_is pc pic (λ j. sight_of (views' j))
      (subst (λ y. Turned sights (λ j. sight_of (views' j)) k y) sight_is (turned views views' k (after (views k) (Occupy (Run place) bits true)) t)) in
      let to : cells_of o.shape new ≡ record cells { occ = occ' } = cells_run o.shape mem new (place / 4096) (bit_or (mem (RunWord (place / 4096))) bits) moves.0 in
      let lane : suc k ≡ suc (views k).fixed.lane = ap suc (sym fl.lane) in (
        occ_world o mem new views views' g x k ink (Run place) (bit_or (mem (RunWord (place / 4096))) bits) moves.0 (Reserved (Run place) bits ∷ (views k).claims) (after (views k) (Occupy (Run place) bits true)).occupancy (Occupy (Run place) bits true ∷ (views k).seen) g.geo
            (λ B. cond (is_block_of (views k).fixed.shape (Run place) bits B) (suc (views k).fixed.lane) (g.holder B)) record {
              early = law.allowed.early;
              olds = λ p b q a. more_owned g.geo S (sights k).hold got refl p b a;
              recorded = λ p b q y z. (y, ap given (pic.else_ p b (data_owned (sights k).hold g.geo S p b q y)) ∙ z);
              words = λ w z e. some_else (is_new_by (views k).fixed.shape (views k).claims (Run place) bits w) (pictured (views k).fixed.shape (views k).claims w) z e;
              occs = λ one other z e. occ_known (Run place) (λ n. bit_or n bits) mem new (at_page (views k) (Run place) law.allowed.there) moves.0 (views k).occupancy (fl.alone one).occupancy other z e;
              draws = refl;
            }
            (subst (λ m. Around k (sights k).hold (λ j. (sights j).hold) cells (cells_of o.shape new) S S (ghost_of g) (record (ghost_of g) { holder = λ B. cond (got B) m (g.holder B) })) lane (subst (λ y. Around k (sights k).hold (λ j. (sights j).hold) cells y S S (ghost_of g) (record (ghost_of g) { holder = λ B. cond (got B) (suc k) (g.holder B) })) (sym to) step.0))
            (subst (λ m. Bits o.shape o.lanes (origin o) (cells_of o.shape new) (λ j. sight_of (views' j)) (record (ghost_of g) { holder = λ B. cond (got B) m (g.holder B) })) lane (subst (λ y. Bits o.shape o.lanes (origin o) y (λ j. sight_of (views' j)) (record (ghost_of g) { holder = λ B. cond (got B) (suc k) (g.holder B) })) (sym to) step.1)) t,
        λ one. if_some (occupancy_of (views k).occupancy (Run place)) (λ y. (true ≡ true) ↔ (bit_and y bits ≡ 0)) (λ y e. let w = ((fl.alone (sym fl.lanes ∙ eqb-true (views k).fixed.lanes 1 one)).occupancy (Run place) y e).0 in (λ q. ap (λ z. bit_and z bits) (sym w) ∙ moves.1, λ q. refl)),
      )

pub occupy_run_keeps : (place bits : ℕ) → Keeps (Occupy (Run place) bits true)
occupy_run_keeps place bits o mem new views views' g k x ink law moves t = occupy_run o mem new views views' g x k ink place bits law moves t
