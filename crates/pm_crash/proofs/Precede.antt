-- AS A LANE TAKES ITS NUMBER, whichever calls are kept, the bits so far may precede its call: what it
-- owns or sees is settled, and no allocated block has a line of its own ones.
use Rattle.std.proofs.Common.{◌≡◌, ◌≢◌, ⊎_elim, ℕ, suc, ◌+◌, ◌-◌, ◌*◌, ◌/◌, ◌<◌, ◌≤◌, nat_le, nat_lt, ◌&&◌, ◌||◌, not, Bool, true, false, cond, List, [], ◌∷◌, Option, None, Some, refl, sym, ap, ◌∙◌, subst, arith}
use Rattle.std.proofs.lemmas.Bool.{and_from, and_parts, both_ways, cases_Bool, cond-false, cond-true, eqb-true, false_from_ne_true, leb-true, le-leb, lt-ltb, ltb-true, or_cases, or_left, or_right}
use Rattle.std.proofs.Math.Nat.{mul_comm}
use Rattle.std.specs.Option.{option_map}
use lib.Arith.{digits_div}
use Rattle.pm_layout.specs.declared.shape.Shape.{Shape}
use Rattle.pm_layout.specs.Chunks.{line_of_chunk}
use Rattle.pm_layout.specs.Sizes.{blocks_of}
use Rattle.pm_image.proofs.Rooms.{run_fits}
use Rattle.pm_view.specs.Changes.{Undrained}
use Rattle.pm_view.specs.Claims.{class, first, span}
use Rattle.pm_view.specs.Entries.{first_of_two}
use Rattle.pm_view.specs.Log.{Open, Recorded, old_in, old_of}
use Rattle.pm_view.specs.Places.{Place, InRun, InHuge, Descr, RootWord, Block, Small, Big, Root, Geometry, block_of, in_span, is_data}
use Rattle.pm_view.specs.View.{View}
use Rattle.pm_world.specs.States.{State, diff, given, live, over, read, shown, bright_huge, there, val}
use Rattle.pm_world.specs.Sights.{Hold, is_logged_from, is_recorded, is_slot_drained, picture, sight_of}
use Rattle.pm_world.specs.Lanes.{Flies, Ghost, SightFits, has, own, owns, sees, valid, views}
use Rattle.pm_world.specs.Memory.{Memory, bit, cells_of}
use Rattle.pm_world.specs.BlockLines.{AllocatedHas, IsInChunk, IsInSmall, OwnHas}
use Rattle.pm_world.specs.World.{Opening, Views, Past, World, ghost_of, settled_words}
use Rattle.pm_world.proofs.BlocksKnown.{block_so, first_so}
use Rattle.pm_world.proofs.Frame.{found_has, mine_own, own_has, owns_apart, sees_apart}
use Rattle.pm_world.proofs.Geometry.{live_same}
use Rattle.pm_world.proofs.WordPlaces.{page_apart}
use Rattle.pm_crash.specs.Footprints.{KeepsDecided, MayPrecede, bit_before, geometry_of, has_found, has_own, is_of_object, is_run_to, kept_bits}
use Rattle.pm_crash.specs.Roots.{RootsAreSeen}
use Rattle.pm_crash.specs.Spelled.{has_blocks}
use Rattle.pm_crash.proofs.KeptBits as kept
use Rattle.pm_crash.proofs.Spelling.{some_block}

-- ---- LINES AND THEIR BLOCKS

-- so many chunks from one on are as many as others, where both have the same chunks
pub same_span : (f n m : ℕ) → ((c : ℕ) → in_span f n c ≡ in_span f m c) → n ≡ m
same_span f n m h = ⊎_elim (λ (l : n < m). absurd (over_ n m l h))
    (λ (l : m ≤ n). ⊎_elim (λ (k : m < n). absurd (over_ m n k (λ c. sym (h c)))) (λ (k : n ≤ m). omega arith)
    (Rattle.std.proofs.lemmas.Bool.cases_lt m n)) (Rattle.std.proofs.lemmas.Bool.cases_lt n m)
  where
    over_ : (a b : ℕ) → a < b → ((c : ℕ) → in_span f a c ≡ in_span f b c) → ⊥
    over_ a b l e =
        let t : in_span f b (f + a) ≡ true = and_from (nat_le f (f + a)) (nat_lt (f + a) (f + b))
        (le-leb f (f + a) (omega arith)) (lt-ltb (f + a) (f + b) (omega arith)) in
        let y = ltb-true (f + a) (f + a) (and_parts (nat_le f (f + a)) (nat_lt (f + a) (f + a)) (e (f + a) ∙ t)).1 in
        omega arith

next_times : (m i : ℕ) → m * suc i ≡ m * i + m
next_times m i = mul_comm m (suc i)
    ∙ (let e : suc i * m ≡ i * m + m = omega arith in e ∙ ap (λ n. n + m) (mul_comm i m))

-- line l of a run's chunk is of this block
small_lines : (cl l i : ℕ) → 1 + cl * i ≤ l → l < 1 + cl * i + cl → (l - 1) / cl ≡ i
small_lines cl l i from to = let r = l - 1 - cl * i in let e : l - 1 ≡ cl * i + r = omega arith in
    ap (λ x. x / cl) (e ∙ ap (λ x. x + r) (mul_comm cl i)) ∙ digits_div i {m = cl} {r = r} (omega arith)

-- THE BLOCK OF A LINE
abbrev block_at : Geometry → (ℕ → Bool) → ℕ → ℕ → Block
block_at G runs c l = cond (runs c) (Small c ((l - 1) / G.class c)) (Big (G.first c))

abbrev IsOf : Shape → Past → Block → ℕ → Type 0
IsOf sh g B line = (c : ℕ) × IsInChunk sh c line
    × (B ≡ block_at g.geo g.runs c (line - line_of_chunk sh c))

one_block : (sh : Shape) (g : Past) (B C : Block) (line : ℕ) → IsOf sh g B line → IsOf sh g C line → B ≡ C
one_block sh g B C line a b = let p = a.1.from in let q = a.1.to in let r = b.1.from in let s = b.1.to in
    a.2 ∙ (ap (λ c. block_at g.geo g.runs c (line - line_of_chunk sh c)) (page_apart sh a.0 b.0 (omega arith)) ∙ sym b.2)

small_has : (sh : Shape) (g : Past) (c i line : ℕ) → valid (ghost_of g) (Small c i) ≡ true
    → IsInSmall sh (g.geo.class c) c i line → IsOf sh g (Small c i) line
small_has sh g c i line v a = let cl = g.geo.class c in let l = line - line_of_chunk sh c in
    let y = and_parts (g.runs c) (nat_lt i (blocks_of cl)) v in
    let most = run_fits cl i (ltb-true i (blocks_of cl) y.1) in let from = a.from in
    let to : line < line_of_chunk sh c + 1 + (cl * i + cl) =
    subst (λ n. line < line_of_chunk sh c + 1 + n) (next_times cl i) a.to in (
      c,
      record { from = omega arith; to = omega arith },
      sym (cond-true (g.runs c) (Small c ((l - 1) / cl)) (Big (g.geo.first c)) y.0
          ∙ ap (λ j. Small c j) (small_lines cl l i (omega arith) (omega arith))),
    )

big_has : (sh : Shape) (g : Past) (f c line : ℕ) → g.geo.first c ≡ f → g.runs c ≡ false
    → IsInChunk sh c line → IsOf sh g (Big f) line
big_has sh g f c line e none a = let l = line - line_of_chunk sh c in (
  c,
  a,
  sym (cond-false (g.runs c) (Small c ((l - 1) / g.geo.class c)) (Big (g.geo.first c)) none ∙ ap (λ y. Big y) e),
)

-- a drained record covers what it is of
pub logged_recorded : (sh : Shape) (lane : ℕ) (changes : List Undrained) (j : ℕ) (records : List Recorded) (p : Place)
    → is_logged_from sh lane changes j records p ≡ true → is_recorded records p ≡ true
logged_recorded sh lane changes j [] p e = e
logged_recorded sh lane changes j (r ∷ t) p e = ⊎_elim
    (λ (y : (given (old_in r p) && is_slot_drained sh lane changes j) ≡ true).
    first_given (old_in r p) (old_of t p) (and_parts (given (old_in r p)) (is_slot_drained sh lane changes j) y).0)
    (λ (y : is_logged_from sh lane changes (suc j) t p ≡ true).
    later_given (old_in r p) (old_of t p) (logged_recorded sh lane changes (suc j) t p y))
    (or_cases (given (old_in r p) && is_slot_drained sh lane changes j) (is_logged_from sh lane changes (suc j) t p) e)
  where
    first_given : (a b : Option ℕ) → given a ≡ true → given (first_of_two a b) ≡ true
    first_given None b e = absurd (both_ways false refl e)
    first_given (Some y) b e = refl

    later_given : (a b : Option ℕ) → given b ≡ true → given (first_of_two a b) ≡ true
    later_given None b e = e
    later_given (Some y) b e = refl

-- blocks of chunks are not the root word
is_chunk_block : Block → Bool
is_chunk_block (Small c i) = true
is_chunk_block (Big f) = true
is_chunk_block Root = false

module _ (o : Opening) (mem : Memory) (views : Views) (g : Past) (x : World o mem views g) (k : ℕ)
    (ink : k < o.lanes) (is_open : (views k).log.phase ≡ Open) (keep : ℕ → Bool) (d : KeepsDecided g keep) where
  abbrev v : View
  v = views k

  abbrev h : Hold
  h = (sight_of (views k)).hold

  abbrev S : State
  S = settled_words o g

  abbrev K : State
  K = kept_bits o g keep g.length

  fit : (j : ℕ) → SightFits o.shape (cells_of o.shape mem) (settled_words o g)
      (Flies (ghost_of g) j) (ghost_of g) j (sight_of (views j))
  fit j = x.bits.each_lane j

  sh_is : v.fixed.shape ≡ o.shape
  sh_is = (x.each_lane k ink).shape

  -- WHAT LANE k OWNS OR SEES IS SETTLED
  others : (j : ℕ) → j ≢ k → (p : Place) (b : ℕ)
      → (owns g.geo S h p b || sees g.geo S h p b) ≡ true → owns g.geo S (sight_of (views j)).hold p b ≡ false
  others j ne p b t = ⊎_elim
      (λ (e : owns g.geo S h p b ≡ true). owns_apart o.shape (cells_of o.shape mem) S (Flies (ghost_of g) k)
      (Flies (ghost_of g) j) (ghost_of g) x.bits.geo x.bits.alone k j (sight_of (views k)) (sight_of (views j)) (fit k) (fit j)
      (λ e. ne (sym e)) p b e)
      (λ (e : sees g.geo S h p b ≡ true). sees_apart o.shape (cells_of o.shape mem) S (Flies (ghost_of g) k)
      (Flies (ghost_of g) j) (ghost_of g) x.bits.geo x.bits.alone k j (sight_of (views k)) (sight_of (views j)) (fit k) (fit j)
      (λ e. ne (sym e)) p b e)
      (or_cases (owns g.geo S h p b) (sees g.geo S h p b) t)

  as_settled : (p : Place) (b : ℕ) → (owns g.geo S h p b || sees g.geo S h p b) ≡ true → K p b ≡ S p b
  as_settled p b t = kept.kept_over o mem views g x keep d k p b (λ j ne. others j ne p b t)
      ∙ ap (λ ph. cond (kept.is_flight_kept keep ph) (over (diff (sight_of (views k)).call p b) (S p b)) (S p b)) is_open

  owned_so : (p : Place) (b : ℕ) → owns g.geo S h p b ≡ true → K p b ≡ S p b
  owned_so p b e = as_settled p b (or_left (owns g.geo S h p b) (sees g.geo S h p b) e)

  seen_so : (p : Place) (b : ℕ) → sees g.geo S h p b ≡ true → K p b ≡ S p b
  seen_so p b e = as_settled p b (or_right (owns g.geo S h p b) (sees g.geo S h p b) e)

  -- ---- BLOCKS THAT IT FOUND, AND ITS OWN

  found_first : (f : ℕ) → h.found (Big f) ≡ true → g.geo.first f ≡ f
  found_first f t = eqb-true (g.geo.first f) f ((fit k).hold.found (Big f) t).1

  descriptor_so : (f b : ℕ) → h.found (Big f) ≡ true → K (Descr f) b ≡ S (Descr f) b
  descriptor_so f b t = seen_so (Descr f) b (ap (λ c. h.found (Big c)) (found_first f t) ∙ t)

  found_there : (B : Block) → has_found v B ≡ true → there K B ≡ true
  found_there (Small c i) t = seen_so (InRun c 0) i t ∙ ((fit k).hold.found (Small c i) t).2
  found_there (Big f) t = descriptor_so f 1 t ∙ ((fit k).hold.found (Big f) t).2
  found_there Root t = refl

  found_spans : (f : ℕ) → has_found v (Big f) ≡ true → val (K (Descr f)) 8 56 ≡ span v.fixed.shape v.claims f
  found_spans f t = ap (λ w. val w 8 56) (λ i b. descriptor_so f b t i)
      ∙ same_span f (val (S (Descr f)) 8 56) (h.span f)
      (λ c. sym (x.bits.geo.shape f ((fit k).hold.found (Big f) t).2 c)
      ∙ (fit k).hold.span f (found_has h (Big f) t) c)

  found_whole : (f : ℕ) → has_found v (Big f) ≡ true → has_blocks K f ≡ false
  found_whole f t = false_from_ne_true (has_blocks K f) (λ e. let y = some_block K f e in
      let q = found_first f t in
      both_ways (g.runs f) (kept.huge o mem views g x keep d f (ap (λ c. there K (Big c)) q ∙ found_there (Big f) t))
      (and_parts (g.runs f) (nat_lt y.0 (blocks_of (g.geo.class f))) (kept.within o mem views g x keep d f y.0 y.2)).0)

  found_plain : (c i : ℕ) → has_found v (Small c i) ≡ true → K (Descr c) 1 ≡ false
  found_plain c i t = false_from_ne_true (K (Descr c) 1) (λ e.
      both_ways (g.runs c)
      (kept.huge o mem views g x keep d c (ap (λ f. there K (Big f)) (kept.head o mem views g x keep d c e) ∙ e))
      (and_parts (g.runs c) (nat_lt i (blocks_of (g.geo.class c))) ((fit k).hold.found (Small c i) t).1).0)

  own_first : (f : ℕ) → h.mine (Big f) ≡ true → g.geo.first f ≡ f
  own_first f t = eqb-true (g.geo.first f) f ((fit k).hold.mine (Big f) t).1

  own_gone : (B : Block) → h.mine B ≡ true → there K B ≡ false
  own_gone (Small c i) t = owned_so (InRun c 0) i (mine_own h (Small c i) t) ∙ ((fit k).hold.mine (Small c i) t).2
  own_gone (Big f) t = owned_so (Descr f) 1
      (ap (λ c. own h (Big c)) (own_first f t) ∙ mine_own h (Big f) t) ∙ ((fit k).hold.mine (Big f) t).2
  own_gone Root t = ((fit k).hold.mine Root t).2

  class_so : (c i : ℕ) → (has_found v (Small c i) || has_own v (Small c i)) ≡ true → g.geo.class c ≡ class v.claims c
  class_so c i t = sym ((fit k).hold.class c i (⊎_elim
      (λ (e : h.found (Small c i) ≡ true). found_has h (Small c i) e)
      (λ (e : h.mine (Small c i) ≡ true). own_has h (Small c i) (mine_own h (Small c i) e))
      (or_cases (h.found (Small c i)) (h.mine (Small c i)) t)))

  -- ---- NO ALLOCATED BLOCK HAS A LINE OF ITS OWN ONES

  allocated_of : (C : Block) (line : ℕ) → is_chunk_block C ≡ true
      → AllocatedHas o.shape K (record { first = λ c. c; class = g.geo.class }) C line → IsOf o.shape g C line
  unfolding is_chunk_block
  allocated_of (Small c i) line e a =
      small_has o.shape g c i line (kept.within o mem views g x keep d c i a.allocated) a.has
  allocated_of (Big f) line e a = let t = a.has in
      let q = eqb-true (g.geo.first t.0) f (kept.shape o mem views g x keep d f a.allocated t.0 ∙ t.1) in
      big_has o.shape g f t.0 line q
      (kept.huge o mem views g x keep d t.0 (subst (λ y. there K (Big y) ≡ true) (sym q) a.allocated)) t.2
  allocated_of Root line e a = absurd (both_ways false refl e)

  own_of : (B : Block) (line : ℕ) → is_chunk_block B ≡ true
      → OwnHas o.shape h (geometry_of v) B line → IsOf o.shape g B line
  unfolding is_chunk_block
  own_of (Small c i) line e a = small_has o.shape g c i line ((fit k).hold.mine (Small c i) a.mine).1
      (subst (λ n. IsInSmall o.shape n c i line)
      ((fit k).hold.class c i (own_has h (Small c i) (mine_own h (Small c i) a.mine))) a.has)
  own_of (Big f) line e a = let t = a.has in
      let q = eqb-true (g.geo.first t.0) f ((fit k).hold.span f (own_has h (Big f) (mine_own h (Big f) a.mine)) t.0 ∙ t.1) in
      big_has o.shape g f t.0 line q
      ((fit k).hold.free t.0 (subst (λ y. h.mine (Big y) ≡ true) (sym q) a.mine)) t.2
  own_of Root line e a = absurd (both_ways false refl e)

  two_apart : (B C : Block) (line : ℕ) → IsOf o.shape g B line → IsOf o.shape g C line
      → h.mine B ≡ true → there K C ≡ true → ⊥
  two_apart B C line p q m t = both_ways (there K B) (own_gone B m)
      (subst (λ D. there K D ≡ true) (sym (one_block o.shape g B C line p q)) t)

  lines_apart : (B C : Block) (line : ℕ) → OwnHas o.shape h (geometry_of v) B line
      → AllocatedHas o.shape K (record { first = λ c. c; class = g.geo.class }) C line → ⊥
  unfolding is_chunk_block
  lines_apart Root C line a c = both_ways true ((fit k).hold.mine Root a.mine).2 refl
  lines_apart (Small d i) (Small e j) line a c = two_apart (Small d i) (Small e j) line
      (own_of (Small d i) line refl a) (allocated_of (Small e j) line refl c) a.mine c.allocated
  lines_apart (Small d i) (Big f) line a c = two_apart (Small d i) (Big f) line
      (own_of (Small d i) line refl a) (allocated_of (Big f) line refl c) a.mine c.allocated
  lines_apart (Small d i) Root line a c =
      let y = own_of (Small d i) line refl a in let p = y.1.from in let q = c.has in omega arith
  lines_apart (Big f) (Small e j) line a c = two_apart (Big f) (Small e j) line
      (own_of (Big f) line refl a) (allocated_of (Small e j) line refl c) a.mine c.allocated
  lines_apart (Big f) (Big e) line a c = two_apart (Big f) (Big e) line
      (own_of (Big f) line refl a) (allocated_of (Big e) line refl c) a.mine c.allocated
  lines_apart (Big f) Root line a c =
      let y = own_of (Big f) line refl a in let p = y.1.from in let q = c.has in omega arith

  -- ---- WHAT IT KNOWS IS SO

  -- the place is of a block that it found, or is the root word under the lock of line 0
  abbrev Sees : Place → ℕ → Type 0
  Sees p b = sees (geometry_of v) K h p b ≡ true

  found_block : (p : Place) (b : ℕ) → h.found (block_of (geometry_of v) p b) ≡ true
      → block_of (geometry_of v) p b ≡ block_of g.geo p b
  found_block p b t = block_so o.shape (cells_of o.shape mem) S (Flies (ghost_of g) k) (ghost_of g) x.bits.geo k v
      v.log.phase (fit k) p b (found_has h (block_of (geometry_of v) p b) t)

  pub sees_real : (p : Place) (b : ℕ) → Sees p b → sees g.geo S h p b ≡ true
  sees_real (InRun c w) b t = subst (λ B. h.found B ≡ true) (found_block (InRun c w) b t) t
  sees_real (InHuge c w) b t = subst (λ B. h.found B ≡ true) (found_block (InHuge c w) b t) t
  sees_real (Descr c) b t = subst (λ B. h.found B ≡ true) (found_block (Descr c) b t) t
  sees_real RootWord b t = t

  -- bits of one block are seen together
  no_root : (B : Block) → h.found B ≡ true → (q : Place) (e : ℕ) → is_chunk_block B ≡ true
      → block_of g.geo q e ≡ B → K q e ≡ S q e
  unfolding is_chunk_block
  no_root B t (InRun c w) e is s = seen_so (InRun c w) e (subst (λ C. h.found C ≡ true) (sym s) t)
  no_root B t (InHuge c w) e is s = seen_so (InHuge c w) e (subst (λ C. h.found C ≡ true) (sym s) t)
  no_root B t (Descr c) e is s = seen_so (Descr c) e (subst (λ C. h.found C ≡ true) (sym s) t)
  no_root B t RootWord e is s = absurd (both_ways false refl (subst (λ C. is_chunk_block C ≡ true) (sym s) is))

  alive_by : (p : Place) (b : ℕ) → h.found (block_of g.geo p b) ≡ true → is_chunk_block (block_of g.geo p b) ≡ true
      → live K g.geo g.runs p ≡ live S g.geo g.runs p
  alive_by p b t is = live_same g.geo g.runs S K x.bits.geo.twice (λ c r. (x.bits.geo.classes c r).0) p b
      (λ q e s. no_root (block_of g.geo p b) t q e is s)

  alive : (p : Place) (b : ℕ) → Sees p b → live K (geometry_of v) (is_run_to v) p ≡ true
      → live S g.geo g.runs p ≡ true
  unfolding is_chunk_block
  alive (InRun c w) b t l =
      let cl = class v.claims c in
      let B = Small c (Rattle.pm_view.specs.Places.part cl w b) in
      let r = and_parts (g.runs c) (nat_lt (Rattle.pm_view.specs.Places.part cl w b) (blocks_of (g.geo.class c)))
      ((fit k).hold.found B t).1 in
      let e = (fit k).hold.class c (Rattle.pm_view.specs.Places.part cl w b) (found_has h B t) in
      sym (alive_by (InRun c w) b (sees_real (InRun c w) b t) refl)
      ∙ and_from (g.runs c) (shown K (g.geo.class c) c w) r.0
      (subst (λ n. shown K n c w ≡ true) e (and_parts (is_run_to v c) (shown K cl c w) l).1)
  alive (InHuge c w) b t l =
      let f = first v.fixed.shape v.claims c in
      let e = first_so o.shape (cells_of o.shape mem) S (Flies (ghost_of g) k) (ghost_of g) x.bits.geo k v
      v.log.phase (fit k) c (found_has h (Big f) t) in
      sym (alive_by (InHuge c w) b (sees_real (InHuge c w) b t) refl)
      ∙ subst (λ n. (nat_lt w 512 && bright_huge K n (64 * (c - n) + w / 8)) ≡ true) e l
  alive (Descr c) b t l = refl
  alive RootWord b t l = refl

  -- in memory an object that it found is as its picture says, and as it is settled
  unlogged : (p : Place) → is_recorded v.log.records p ≡ false
      → ((sight_of v).logged p && not (Rattle.pm_world.specs.Lanes.is_decided v.log.phase)) ≡ false
  unlogged p e = false_from_ne_true ((sight_of v).logged p && not (Rattle.pm_world.specs.Lanes.is_decided v.log.phase))
      (λ t. both_ways (is_recorded v.log.records p) e (logged_recorded v.fixed.shape v.fixed.lane v.changes 0 v.log.records p
      (and_parts ((sight_of v).logged p) (not (Rattle.pm_world.specs.Lanes.is_decided v.log.phase)) t).0))

  unapplied : (p : Place) (b : ℕ) → given (Rattle.pm_world.specs.Lanes.left v.log.phase p b) ≡ false
  unapplied p b = ap (λ ph. given (Rattle.pm_world.specs.Lanes.left ph p b)) is_open

  pub as_in_memory : (p : Place) (b : ℕ) → sees g.geo S h p b ≡ true → live S g.geo g.runs p ≡ true
      → is_recorded v.log.records p ≡ false → read (cells_of o.shape mem).pool p b ≡ S p b
  as_in_memory p b t l e = ⊎_elim
      (λ (y : owns g.geo S h p b ≡ true). ((fit k).bits p b y).0 l (unapplied p b) (unlogged p e))
      (λ (y : owns g.geo S h p b ≡ false). x.bits.unowned p b (λ j. ⊎_elim
      (λ (q : j ≡ k). subst (λ i. owns g.geo S (sight_of (views i)).hold p b ≡ false) (sym q) y)
      (λ (ne : j ≢ k). others j ne p b (or_right (owns g.geo S h p b) (sees g.geo S h p b) t))
      (Rattle.std.proofs.lemmas.Bool.cases_eq j k)) l)
      (cases_Bool (owns g.geo S h p b))

  pub same_some : {A : Type 0} → (a b : A) → Some a ≡ Some b → a ≡ b
  same_some {A = A} a b e = ap (λ (z : Option A). Rattle.std.specs.Prelude.unwrap_or z a) e

  known_so : (p : Place) (b : ℕ) (y : Bool) → Sees p b → is_of_object v K p ≡ true
      → bit_before v p b ≡ Some y → K p b ≡ y
  known_so p b y t ob e = seen_so p b (sees_real p b t) ∙ by_record (old_of v.log.records p) refl
    where
      by_record : (old : Option ℕ) → old_of v.log.records p ≡ old → S p b ≡ y
      by_record (Some n) q =
          ((x.each_lane k ink).log.olds p n q b).1 (ap Rattle.pm_world.specs.Lanes.is_decided is_open)
          ∙ same_some (bit n b) y (sym (ap (λ z. first_of_two (option_map (λ m. bit m b) z) (picture v.fixed.shape v.claims p b)) q) ∙ e)
      by_record None q =
          let bare : is_recorded v.log.records p ≡ false = ap given q in
          let pic : picture v.fixed.shape v.claims p b ≡ Some y =
          sym (ap (λ z. first_of_two (option_map (λ m. bit m b) z) (picture v.fixed.shape v.claims p b)) q) ∙ e in
          let l = alive p b t (⊎_elim
          (λ (r : is_recorded v.log.records p ≡ true). absurd (both_ways (is_recorded v.log.records p) bare r))
          (λ (r : live K (geometry_of v) (is_run_to v) p ≡ true). r)
          (or_cases (is_recorded v.log.records p) (live K (geometry_of v) (is_run_to v) p) ob)) in
          sym (as_in_memory p b (sees_real p b t) l bare)
          ∙ (fit k).picture p b (sees_real p b t) y pic

  -- SO THESE BITS MAY PRECEDE THE CALL
  pub precedes : RootsAreSeen (views k).fixed.shape (views k).claims (kept_bits o g keep g.length)
      → MayPrecede g.geo.class (views k) (kept_bits o g keep g.length)
  precedes sees_root = record {
    found = found_there;
    spans = found_spans;
    whole = found_whole;
    plain = found_plain;
    class = class_so;
    known = known_so;
    apart = λ B C line t a c. lines_apart B C line (subst (λ s. OwnHas s h (geometry_of v) B line) sh_is a)
        (subst (λ s. AllocatedHas s K (record { first = λ c. c; class = g.geo.class }) C line) sh_is c);
    roots = sees_root;
  }
