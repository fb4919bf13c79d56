-- NO TWO BLOCKS SHARE A LINE: a line of a chunk names its block. And a run stays a run.
use Rattle.std.specs.Prelude.{find}
use Rattle.std.specs.Option.{option_map_or}
use Rattle.std.proofs.Common.{◌≡◌, ◌⊎◌, ℕ, suc, ◌+◌, ◌-◌, ◌*◌, ◌/◌, ◌<◌, ◌≤◌, nat_lt, inl, inr, Bool, true, false, cond, ◌==◌, List, [], ◌∷◌, Some, refl, sym, ap, ◌∙◌, subst, arith, ne_eqb}
use Rattle.std.proofs.lemmas.Bool.{eqb-true, ltb-true, both_ways, and_parts, or_right, cond-true, cond-false, cond_both}
use Rattle.std.proofs.Math.Nat.{mul_comm}
use lib.Arith.{digits_div}
use Rattle.pm_layout.specs.declared.shape.Shape.{Shape}
use Rattle.pm_layout.specs.Chunks.{line_of_chunk, word_of_root}
use Rattle.pm_layout.specs.Sizes.{blocks_by_class, blocks_of}
use Rattle.pm_view.specs.declared.occ.Occ.TheVariants.{Run, Zone}
use Rattle.pm_view.specs.Changes.{Undrained, drained}
use Rattle.pm_view.specs.Claims.{becomes}
use Rattle.pm_view.specs.Places.{Block, Small, Big, Root, Geometry}
use Rattle.pm_view.specs.Parts.{Part, GenerationPart, SealPart, EntryPart, SlotPart, RootPart, DescriptorPart, ChunkPart, OtherPart}
use Rattle.pm_view.specs.Log.{Phase, Idle, Open, Drawn, Sealing, Applying, Clearing, Retiring, Voiding}
use Rattle.pm_view.specs.Steps.{Step}
use Rattle.pm_view.specs.Steps.Step.{Load, Store, Or, And, Flush, Drain, TakeWrite, TakeRead, Raise, Give, ZoneTry, ZoneGive, Occupied, Occupy, Vacate, Draw, NumberSeen, StopSeen, SetStop, Tell}
use Rattle.pm_view.specs.View.{View}
use Rattle.pm_view.specs.Views.{part_in}
use Rattle.pm_world.specs.States.{there}
use Rattle.pm_world.specs.Sights.{sight_of}
use Rattle.pm_world.specs.Lanes.{valid, Flies, SightFits}
use Rattle.pm_world.specs.Memory.{Memory, cells_of}
use Rattle.pm_world.specs.World.{Opening, Views, Past, ghost_of, settled_words, World}
use Rattle.pm_world.specs.Lawful.{StoreFits, IsLawful}
use Rattle.pm_world.specs.Course.{past_after, past_stored, past_made, past_decided, past_drained}
use Rattle.pm_world.specs.BlockLines.{IsInChunk, IsInSmall, AllocatedHas, OwnHas, HasLine}
use Rattle.pm_world.proofs.WordPlaces.{page_apart}
use Rattle.pm_world.proofs.Frame.{mine_own, own_has}

-- ---- THE BLOCKS OF A RUN end within its chunk
abbrev AllFit : List (ℕ × ℕ) → Type 0
AllFit [] = ℕ
AllFit (e ∷ t) = ((i : ℕ) → i < e.1 → 1 + (e.0 * i + e.0) ≤ 64) × AllFit t

abbrev blocks_in : List (ℕ × ℕ) → ℕ → ℕ
blocks_in t lines = option_map_or (λ e. e.1) (find (λ e. e.0 == lines) t) 0

fit_in : (t : List (ℕ × ℕ)) → AllFit t → (lines i : ℕ) → i < blocks_in t lines
    → 1 + (lines * i + lines) ≤ 64
fit_in [] f lines i = λ q. absurd (omega arith)
fit_in (e ∷ t) f lines i = cond_both (e.0 == lines) (Some e) (find (λ e. e.0 == lines) t)
    (λ r. i < option_map_or (λ e. e.1) r 0 → 1 + (lines * i + lines) ≤ 64)
    (λ s q. subst (λ n. 1 + (n * i + n) ≤ 64) (eqb-true e.0 lines s) (f.0 i q))
    (λ _ q. fit_in t f.1 lines i q)

all_fit : AllFit blocks_by_class
all_fit = (
  λ i q. omega arith,
  (
    λ i q. omega arith,
    (
      λ i q. omega arith,
      (
        λ i q. omega arith,
        (λ i q. omega arith, (λ i q. omega arith, (λ i q. omega arith, (λ i q. omega arith, 0)))),
      ),
    ),
  ),
)

pub run_fits : (lines i : ℕ) → i < blocks_of lines → 1 + (lines * i + lines) ≤ 64
run_fits lines i q = fit_in blocks_by_class all_fit lines i q

next_times : (m i : ℕ) → m * suc i ≡ m * i + m
next_times m i = mul_comm m (suc i)
    ∙ (let e : suc i * m ≡ i * m + m = omega arith in e ∙ ap (λ n. n + m) (mul_comm i m))

-- line l of a run's chunk is of this block
pub small_lines : (cl l i : ℕ) → 1 + cl * i ≤ l → l < 1 + cl * i + cl → (l - 1) / cl ≡ i
small_lines cl l i from to = let r = l - 1 - cl * i in let e : l - 1 ≡ cl * i + r = omega arith in
    ap (λ x. x / cl) (e ∙ ap (λ x. x + r) (mul_comm cl i))
    ∙ digits_div i {m = cl} {r = r} (omega arith)

chunk_apart : (sh : Shape) (c d line : ℕ) → IsInChunk sh c line → IsInChunk sh d line → c ≡ d
chunk_apart sh c d line x y = let a = x.from in let b = x.to in let p = y.from in let q = y.to in
    page_apart sh c d (omega arith)

-- ---- THE BLOCK OF A LINE
abbrev block_at : Geometry → (ℕ → Bool) → ℕ → ℕ → Block
block_at G runs c l = cond (runs c) (Small c ((l - 1) / G.class c)) (Big (G.first c))

abbrev IsOf : Shape → Past → Block → ℕ → Type 0
IsOf sh g B line =
    ((B ≡ Root) × (line ≡ word_of_root sh / 8))
    ⊎ ((c : ℕ) × IsInChunk sh c line
    × (B ≡ block_at g.geo g.runs c (line - line_of_chunk sh c)))

-- the root word is in the header page, which no chunk is
header_page : (sh : Shape) (c line : ℕ) → line ≡ word_of_root sh / 8 → IsInChunk sh c line → ⊥
header_page sh c line e x = let a = x.from in absurd (omega arith)

one_block : (sh : Shape) (g : Past) (B C : Block) (line : ℕ)
    → IsOf sh g B line → IsOf sh g C line → B ≡ C
one_block sh g B C line (inl a) (inl b) = a.0 ∙ sym b.0
one_block sh g B C line (inl a) (inr b) = absurd (header_page sh b.0 line a.1 b.1)
one_block sh g B C line (inr a) (inl b) = absurd (header_page sh a.0 line b.1 a.1)
one_block sh g B C line (inr a) (inr b) = a.2
    ∙ (ap (λ c. block_at g.geo g.runs c (line - line_of_chunk sh c))
    (chunk_apart sh a.0 b.0 line a.1 b.1) ∙ sym b.2)

module _ (o : Opening) (mem : Memory) (views : Views) (g : Past) (x : World o mem views g) where
  fit : (k : ℕ) → SightFits o.shape (cells_of o.shape mem) (settled_words o g)
      (Flies (ghost_of g) k) (ghost_of g) k (sight_of (views k))
  fit k = x.bits.each_lane k

  small_has : (c i line : ℕ) → valid (ghost_of g) (Small c i) ≡ true
      → IsInSmall o.shape (g.geo.class c) c i line → IsOf o.shape g (Small c i) line
  small_has c i line v a = let cl = g.geo.class c in let l = line - line_of_chunk o.shape c in
      let y = and_parts (g.runs c) (nat_lt i (blocks_of cl)) v in
      let most = run_fits cl i (ltb-true i (blocks_of cl) y.1) in let from = a.from in
      let to : line < line_of_chunk o.shape c + 1 + (cl * i + cl) =
      subst (λ n. line < line_of_chunk o.shape c + 1 + n) (next_times cl i) a.to in
      inr (
        c,
        record { from = omega arith; to = omega arith },
        sym (cond-true (g.runs c) (Small c ((l - 1) / cl)) (Big (g.geo.first c)) y.0
            ∙ ap (λ j. Small c j) (small_lines cl l i (omega arith) (omega arith))),
      )

  big_has : (f c line : ℕ) → (g.geo.first c == f) ≡ true
      → (g.geo.first c ≡ f → g.runs c ≡ false) → IsInChunk o.shape c line
      → IsOf o.shape g (Big f) line
  big_has f c line e none a = let l = line - line_of_chunk o.shape c in
      let q = eqb-true (g.geo.first c) f e in
      inr (
        c,
        a,
        sym (cond-false (g.runs c) (Small c ((l - 1) / g.geo.class c))
            (Big (g.geo.first c)) (none q) ∙ ap (λ y. Big y) q),
      )

  allocated_of : (B : Block) (line : ℕ) → AllocatedHas o.shape (settled_words o g) g.geo B line
      → IsOf o.shape g B line
  allocated_of (Small c i) line a = small_has c i line (x.bits.geo.within c i a.allocated) a.has
  allocated_of (Big f) line a = let t = a.has in
      big_has f t.0 line (x.bits.geo.shape f a.allocated t.0 ∙ t.1)
      (λ q. x.bits.geo.huge t.0
      (subst (λ y. there (settled_words o g) (Big y) ≡ true) (sym q) a.allocated)) t.2
  allocated_of Root line a = inl (refl, a.has)

  own_of : (k : ℕ) (B : Block) (line : ℕ)
      → OwnHas o.shape (sight_of (views k)).hold g.geo B line → IsOf o.shape g B line
  own_of k (Small c i) line a =
      small_has c i line ((fit k).hold.mine (Small c i) a.mine).1 a.has
  own_of k (Big f) line a = let h = (sight_of (views k)).hold in let t = a.has in
      let has = own_has h (Big f) (mine_own h (Big f) a.mine) in
      big_has f t.0 line ((fit k).hold.span f has t.0 ∙ t.1)
      (λ q. (fit k).hold.free t.0 (subst (λ y. h.mine (Big y) ≡ true) (sym q) a.mine)) t.2
  own_of k Root line a = inl (refl, a.has)

  block_of_line : (B : Block) (line : ℕ) → HasLine o views g B line → IsOf o.shape g B line
  block_of_line B line (inl a) = allocated_of B line a
  block_of_line B line (inr a) = own_of a.0 B line a.1

  pub lines_apart : (B C : Block) (line : ℕ)
      → HasLine o views g B line → HasLine o views g C line → B ≡ C
  lines_apart B C line b c =
      one_block o.shape g B C line (block_of_line B line b) (block_of_line C line c)

-- ---- A RUN STAYS A RUN
stored_runs : (ph : Phase) (q : Part) (n : ℕ) (g : Past) (c : ℕ)
    → (past_stored ph q n g).runs c ≡ g.runs c
stored_runs Open GenerationPart n g c = refl
stored_runs Open SealPart n g c = refl
stored_runs Open EntryPart n g c = refl
stored_runs Open SlotPart n g c = refl
stored_runs Open RootPart n g c = refl
stored_runs Open (DescriptorPart d) n g c = refl
stored_runs Open (ChunkPart d i) n g c = refl
stored_runs Open OtherPart n g c = refl
stored_runs Idle q n g c = refl
stored_runs (Drawn m) q n g c = refl
stored_runs (Sealing m) q n g c = refl
stored_runs (Applying todo) q n g c = refl
stored_runs Clearing q n g c = refl
stored_runs (Retiring m) q n g c = refl
stored_runs Voiding q n g c = refl

decided_runs : (ph : Phase) (v : View) (g : Past) (c : ℕ) → (past_decided ph v g).runs c ≡ g.runs c
decided_runs Idle v g c = refl
decided_runs Open v g c = refl
decided_runs (Drawn n) v g c = refl
decided_runs (Sealing n) v g c = refl
decided_runs (Applying todo) v g c = refl
decided_runs Clearing v g c = refl
decided_runs (Retiring n) v g c = refl
decided_runs Voiding v g c = refl

drained_runs : (g : Past) (v : View) (left : List Undrained) (c : ℕ) → g.runs c ≡ true
    → (past_drained g v left).runs c ≡ true
drained_runs g v [] c r = decided_runs v.log.phase v (past_made g v []) c
    ∙ or_right (becomes v.fixed.shape [] v.claims c) (g.runs c) r
drained_runs g v (u ∷ left) c r =
    or_right (becomes v.fixed.shape (u ∷ left) v.claims c) (g.runs c) r

pub runs_stay : (g : Past) (v : View) (s : Step) (c : ℕ) → g.runs c ≡ true
    → (past_after g v s).runs c ≡ true
runs_stay g v (Load w found) c r = r
runs_stay g v (Store w n) c r = stored_runs v.log.phase (part_in v w) n g c ∙ r
runs_stay g v (Or w bits found) c r = r
runs_stay g v (And w bits found) c r = r
runs_stay g v (Flush line) c r = r
runs_stay g v Drain c r = drained_runs g v (drained v.changes) c r
runs_stay g v (TakeWrite line won) c r = r
runs_stay g v (TakeRead line won) c r = r
runs_stay g v (Raise line won) c r = r
runs_stay g v (Give line) c r = r
runs_stay g v (ZoneTry zone won) c r = r
runs_stay g v (ZoneGive zone) c r = r
runs_stay g v (Occupied at found) c r = r
runs_stay g v (Occupy at bits true) c r = r
runs_stay g v (Occupy at bits false) c r = r
runs_stay g v (Vacate at bits) c r = r
runs_stay g v (Draw n) c r = r
runs_stay g v (NumberSeen n) c r = r
runs_stay g v (StopSeen set) c r = r
runs_stay g v SetStop c r = r
runs_stay g v (Tell operation reply) c r = r

-- ---- ITS CLASS STAYS: a lane makes a run of a chunk of its own alone
decided_class : (ph : Phase) (v : View) (g : Past) (c : ℕ)
    → (past_decided ph v g).geo.class c ≡ g.geo.class c
decided_class Idle v g c = refl
decided_class Open v g c = refl
decided_class (Drawn n) v g c = refl
decided_class (Sealing n) v g c = refl
decided_class (Applying todo) v g c = refl
decided_class Clearing v g c = refl
decided_class (Retiring n) v g c = refl
decided_class Voiding v g c = refl

drained_class : (g : Past) (v : View) (left : List Undrained) (c : ℕ)
    → (past_drained g v left).geo.class c ≡ g.geo.class c
drained_class g v [] c = decided_class v.log.phase v (past_made g v []) c
drained_class g v (u ∷ left) c = refl

module _ (o : Opening) (mem : Memory) (views : Views) (g : Past) (x : World o mem views g)
    (k : ℕ) where
  own_no_run : (d : ℕ) → (sight_of (views k)).hold.mine (Big d) ≡ true → g.runs d ≡ false
  own_no_run d m = let f = x.bits.each_lane k in let h = (sight_of (views k)).hold in
      let e = eqb-true (g.geo.first d) d (f.hold.mine (Big d) m).1 in
      f.hold.free d (subst (λ y. h.mine (Big y) ≡ true) (sym e) m)

  stored_class : (ph : Phase) (q : Part) (w n : ℕ) → StoreFits (views k) w n ph q
      → (c : ℕ) → g.runs c ≡ true → (past_stored ph q n g).geo.class c ≡ g.geo.class c
  stored_class Open GenerationPart w n f c r = refl
  stored_class Open SealPart w n f c r = refl
  stored_class Open EntryPart w n f c r = refl
  stored_class Open SlotPart w n f c r = refl
  stored_class Open RootPart w n f c r = refl
  stored_class Open (DescriptorPart d) w n f c r = cond-false (c == d) (n / 256) (g.geo.class c)
      (ne_eqb c d (λ e. both_ways (g.runs d) (own_no_run d f.own)
      (subst (λ y. g.runs y ≡ true) e r)))
  stored_class Open (ChunkPart d i) w n f c r = refl
  stored_class Open OtherPart w n f c r = refl
  stored_class Idle q w n f c r = refl
  stored_class (Drawn m) q w n f c r = refl
  stored_class (Sealing m) q w n f c r = refl
  stored_class (Applying todo) q w n f c r = refl
  stored_class Clearing q w n f c r = refl
  stored_class (Retiring m) q w n f c r = refl
  stored_class Voiding q w n f c r = refl

  pub classes_stay : (s : Step) → IsLawful (views k) s → (c : ℕ) → g.runs c ≡ true
      → (past_after g (views k) s).geo.class c ≡ g.geo.class c
  classes_stay (Load w found) law c r = refl
  classes_stay (Store w n) law c r =
      stored_class (views k).log.phase (part_in (views k) w) w n law.allowed.fits c r
  classes_stay (Or w bits found) law c r = refl
  classes_stay (And w bits found) law c r = refl
  classes_stay (Flush line) law c r = refl
  classes_stay Drain law c r = drained_class g (views k) (drained (views k).changes) c
  classes_stay (TakeWrite line won) law c r = refl
  classes_stay (TakeRead line won) law c r = refl
  classes_stay (Raise line won) law c r = refl
  classes_stay (Give line) law c r = refl
  classes_stay (ZoneTry zone won) law c r = refl
  classes_stay (ZoneGive zone) law c r = refl
  classes_stay (Occupied at found) law c r = refl
  classes_stay (Occupy (Run place) bits true) law c r = refl
  classes_stay (Occupy (Zone zone) bits true) law c r = refl
  classes_stay (Occupy at bits false) law c r = refl
  classes_stay (Vacate at bits) law c r = refl
  classes_stay (Draw n) law c r = refl
  classes_stay (NumberSeen n) law c r = refl
  classes_stay (StopSeen set) law c r = refl
  classes_stay SetStop law c r = refl
  classes_stay (Tell operation reply) law c r = refl
