-- Looks over bits: a load under the lock of a block shows that it is allocated, how many lines or chunks it has, and its words come to be known.
use Rattle.std.proofs.Common.{◌≡◌, ◌≢◌, ℕ, zero, suc, ◌+◌, ◌%◌, ◌<◌, ◌≤◌, nat_lt, ◌⊎◌, inl, inr, ⊎_elim, Bool, true, false, cond, not, ◌&&◌, ◌||◌, ◌==◌, refl, sym, ap, ◌∙◌, subst, arith, eq-eqb, Option, None, Some}
use Rattle.std.proofs.lemmas.Bool.{cases_eq, cases_Bool, cases_lt, both_ways, and_parts, and_from, or_cases, or_left, or_right, false_from_ne_true}
use Rattle.pm_layout.specs.declared.shape.Shape.{Shape}
use Rattle.pm_layout.specs.Sizes.{blocks_of}
use Rattle.pm_view.specs.Places.{Place, InRun, InHuge, Descr, RootWord, Block, Small, Big, Root, block_of, header, in_span}
use Rattle.pm_view.specs.Entries.{latest, turn}
use Rattle.pm_view.specs.Log.{Phase, Idle, Open, Drawn, Sealing, Applying, Clearing, Retiring, Voiding, is_early}
use Rattle.pm_view.specs.Claims.{making_of}
use Rattle.pm_world.specs.States.{State, Diff, given, live, there, val, spans, read, Cells}
use Rattle.pm_world.specs.Sights.{Hold, Sight, is_pictured}
use Rattle.pm_world.specs.Lanes.{Ghost, own, owns, sees, has, valid, is_decided, left, settled, TurnFits, SightFits, Flies, Bits}
use Rattle.pm_world.proofs.Frame.{own_cases, making_own, own_has, found_has, not_making, maker_no_run, small_cases, small_run, turn_stays}
use Rattle.pm_world.proofs.Going.{Turned}
use Rattle.pm_world.proofs.Locks.{held, sighted, reclaims, gains_by, none_where_found, others_unlocked, owned_more, own_new, true_picture}

-- some lane of so many passes a test, or none does
pub some_lane : (P : ℕ → Bool) (n : ℕ) → ((j : ℕ) × (P j ≡ true)) ⊎ ((j : ℕ) → j < n → P j ≡ false)
some_lane P zero = inr (λ j l. absurd (omega arith))
some_lane P (suc n) = ⊎_elim (λ (e : P n ≡ true). inl (n, e)) (λ (e : P n ≡ false). ⊎_elim (λ (y : (j : ℕ) × (P j ≡ true)). inl y)
    (λ (y : (j : ℕ) → j < n → P j ≡ false). inr (λ j l. ⊎_elim (λ (q : j ≡ n). ap P q ∙ e) (λ (ne : j ≢ n). y j (omega arith)) (cases_eq j n))) (some_lane P n)) (cases_Bool (P n))

-- what is left to be applied is given after the decision alone
applying : (ph : Phase) (p : Place) (b : ℕ) (l m h : Bool) (a : Option Bool) → given (left ph p b) ≡ true → given a ≡ true → TurnFits ph l m h a → (h ≡ true → l ≡ true) → l ≡ true
applying Idle p b l m h a e s f u = absurd (both_ways false refl e)
applying Open p b l m h a e s f u = absurd (both_ways false refl e)
applying (Drawn n) p b l m h a e s f u = absurd (both_ways false refl e)
applying (Sealing n) p b l m h a e s f u = absurd (both_ways false refl e)
applying (Applying t) p b l m h None e s f u = absurd (both_ways false refl s)
applying (Applying t) p b l m h (Some true) e s f u = u f
applying (Applying t) p b l m h (Some false) e s f u = f.1
applying Clearing p b l m h a e s f u = absurd (both_ways false refl e)
applying (Retiring n) p b l m h a e s f u = absurd (both_ways false refl e)
applying Voiding p b l m h a e s f u = absurd (both_ways false refl e)

pub early_unapplied : (ph : Phase) → is_early ph ≡ true → (p : Place) (b : ℕ) → given (left ph p b) ≡ false
early_unapplied Idle e p b = refl
early_unapplied Open e p b = refl
early_unapplied (Drawn n) e p b = refl
early_unapplied (Sealing n) e p b = refl
early_unapplied (Applying t) e p b = absurd (both_ways false refl e)
early_unapplied Clearing e p b = refl
early_unapplied (Retiring n) e p b = refl
early_unapplied Voiding e p b = refl

some_given : (a : Option Bool) → given a ≡ true → (y : Bool) × (a ≡ Some y)
some_given None e = absurd (both_ways false refl e)
some_given (Some y) e = (y, refl)

not_true : (lg dec : Bool) → (lg ≡ true → dec ≡ false → ⊥) → (lg && not dec) ≡ false
not_true true true u = refl
not_true true false u = absurd (u refl refl)
not_true false dec u = refl

module _ (sh : Shape) (L : ℕ) (o : State) (cells : Cells) (sights : ℕ → Sight) (g : Ghost) (x : Bits sh L o cells sights g) (k : ℕ) (ink : k < L) (early : is_early (sights k).phase ≡ true)
    (plain : (j : ℕ) (p : Place) (b : ℕ) → is_pictured p ≡ false → given ((sights j).call.fresh p b) ≡ false) where
  abbrev S : State
  S = settled o g

  fit : (j : ℕ) → SightFits sh cells (settled o g) (Flies g j) g j (sights j)
  fit j = x.each_lane j

  -- a word that says which blocks are allocated is under no record
  pub unlogged : (j : ℕ) (p : Place) (b : ℕ) → is_pictured p ≡ false → ((sights j).logged p && not (is_decided (sights j).phase)) ≡ false
  unlogged j p b e = not_true ((sights j).logged p) (is_decided (sights j).phase) (λ l u. both_ways (given ((sights j).call.fresh p b)) (plain j p b e) ((fit j).stored p b u l))

  pub owner_of : (B : Block) → ((j : ℕ) × (own (sights j).hold B ≡ true)) ⊎ ((j : ℕ) → own (sights j).hold B ≡ false)
  owner_of B = ⊎_elim (λ (y : (j : ℕ) × (own (sights j).hold B ≡ true)). inl y)
      (λ (y : (j : ℕ) → j < L → own (sights j).hold B ≡ false). inr (λ j. ⊎_elim (λ (l : j < L). y j l) (λ (l : L ≤ j). (x.beyond j l B).0) (cases_lt j L))) (some_lane (λ j. own (sights j).hold B) L)

  pub maker_of : (c : ℕ) → ((j : ℕ) × ((sights j).hold.making c ≡ true)) ⊎ ((j : ℕ) → (sights j).hold.making c ≡ false)
  maker_of c = ⊎_elim (λ (y : (j : ℕ) × ((sights j).hold.making c ≡ true)). inl y)
      (λ (y : (j : ℕ) → j < L → (sights j).hold.making c ≡ false). inr (λ j. ⊎_elim (λ (l : j < L). y j l) (λ (l : L ≤ j). not_making (sights j).hold c 0 (x.beyond j l (Small c 0)).0) (cases_lt j L))) (some_lane (λ j. (sights j).hold.making c) L)

  -- THE OWNER'S ARGUMENT: a block whose lock lane k holds is allocated where memory has its bit: none that owns the bit has it otherwise
  at_owned : (B : Block) (p : Place) (b : ℕ) → is_pictured p ≡ false → ((sights k).hold.locked (header sh g.geo B) || (sights k).hold.reads (header sh g.geo B)) ≡ true → live (settled o g) g.geo g.runs p ≡ true
      → read cells.pool p b ≡ true → (j : ℕ) → turn (latest (sights j).call.entries) B ≡ latest (sights j).call.entries p b → owns g.geo (settled o g) (sights j).hold p b ≡ true → settled o g p b ≡ true
  at_owned B p b np lk al m j is w = ⊎_elim (λ (e : given (left (sights j).phase p b) ≡ true). absurd (applied e)) (λ (e : given (left (sights j).phase p b) ≡ false). sym (((fit j).bits p b w).0 al e (unlogged j p b np)) ∙ m) (cases_Bool (given (left (sights j).phase p b)))
    where
      applied : given (left (sights j).phase p b) ≡ true → ⊥
      applied e = let y = some_given (left (sights j).phase p b) e in let l = header sh g.geo B in let a = turn (latest (sights j).call.entries) B in
          let lj : (sights j).hold.locked l ≡ true = applying (sights j).phase p b ((sights j).hold.locked l) ((sights j).hold.mine B) ((sights j).hold.here B) a e (ap given (is ∙ (fit j).call.todo p b y.0 y.1)) ((fit j).turns B) (λ h. ((fit j).hold.here B h).0) in
          ⊎_elim (λ (q : j ≡ k). both_ways (given (left (sights j).phase p b)) (early_unapplied (sights j).phase (ap (λ i. is_early (sights i).phase) q ∙ early) p b) e)
          (λ (ne : j ≢ k). both_ways ((sights j).hold.locked l) (others_unlocked sh L o cells sights g x k ink l lk j ne) lj) (cases_eq j k)

  -- the chunk that memory tells to be a run is one, where a bit of its bitmap is set
  pub is_run_there : (c i n : ℕ) → cells.descr c ≡ suc n → read cells.pool (InRun c 0) i ≡ true → g.runs c ≡ true
  is_run_there c i n d m = ⊎_elim (λ (e : g.runs c ≡ true). e) (λ (e : g.runs c ≡ false). absurd (⊎_elim
      (λ (y : (j : ℕ) × ((sights j).hold.making c ≡ true)). both_ways (read cells.pool (InRun c 0) i) (((fit y.0).bits (InRun c 0) i (making_own (sights y.0).hold c i y.1)).1 y.1) m)
      (λ (y : (j : ℕ) → (sights j).hold.making c ≡ false). let z : cells.descr c ≡ 0 = x.descr c y ∙ ap (λ t. cond t (g.geo.class c) 0) e in (omega arith)) (maker_of c))) (cases_Bool (g.runs c))

  -- what the word of a run's descriptor tells
  pub run_class : (c : ℕ) → g.runs c ≡ true → cells.descr c ≡ g.geo.class c
  run_class c r = x.descr c (λ j. false_from_ne_true ((sights j).hold.making c) (λ e. both_ways (g.runs c) (maker_no_run sh cells (settled o g) (Flies g j) g x.geo j (sights j) (fit j) c e) r)) ∙ ap (λ t. cond t (g.geo.class c) 0) r

  -- memory shows the block: a bit of a run's bitmap, a descriptor
  abbrev pub Shows : Block → Type 0
  Shows (Small c i) = (read cells.pool (InRun c 0) i ≡ true) × ((n : ℕ) × (cells.descr c ≡ suc n))
  Shows (Big f) = read cells.pool (Descr f) 1 ≡ true
  Shows Root = ⊥

  pub shown_there : (B : Block) → ((sights k).hold.locked (header sh g.geo B) || (sights k).hold.reads (header sh g.geo B)) ≡ true → Shows B → there (settled o g) B ≡ true
  shown_there (Small c i) lk s = let r = is_run_there c i s.1.0 s.1.1 s.0 in let al : live (settled o g) g.geo g.runs (InRun c 0) ≡ true = and_from (g.runs c) true r refl in
      ⊎_elim (λ (y : (j : ℕ) × (own (sights j).hold (Small c i) ≡ true)). at_owned (Small c i) (InRun c 0) i refl lk al s.0 y.0 refl y.1) (λ (y : (j : ℕ) → own (sights j).hold (Small c i) ≡ false). sym (x.unowned (InRun c 0) i y al) ∙ s.0) (owner_of (Small c i))
  shown_there (Big f) lk s = ⊎_elim (λ (y : (j : ℕ) × (own (sights j).hold (Big (g.geo.first f)) ≡ true)). at_owned (Big f) (Descr f) 1 refl lk refl s y.0 refl y.1)
      (λ (y : (j : ℕ) → own (sights j).hold (Big (g.geo.first f)) ≡ false). sym (x.unowned (Descr f) 1 y refl) ∙ s) (owner_of (Big (g.geo.first f)))
  shown_there Root lk s = absurd s

  pub there_valid : (B : Block) → there (settled o g) B ≡ true → valid g B ≡ true
  there_valid (Small c i) t = x.geo.within c i t
  there_valid (Big f) t = eq-eqb (g.geo.first f) f (x.geo.head f t)
  there_valid Root t = refl

  -- a block that is allocated, and of which lane k holds the lock, is another's in no way, and its own only where it found it
  no_maker : (j : ℕ) (B : Block) → making_of (sights j).hold.making B ≡ true → valid g B ≡ true → ⊥
  no_maker j (Small c i) e v = both_ways (g.runs c) (maker_no_run sh cells (settled o g) (Flies g j) g x.geo j (sights j) (fit j) c e) (small_run sh cells (settled o g) (Flies g j) g x.geo j (sights j) (fit j) c i v)
  no_maker j (Big f) e v = both_ways false refl e
  no_maker j Root e v = both_ways false refl e

  pub not_others : (B : Block) → ((sights k).hold.locked (header sh g.geo B) || (sights k).hold.reads (header sh g.geo B)) ≡ true → there (settled o g) B ≡ true → (j : ℕ) → j ≢ k → own (sights j).hold B ≡ false
  not_others B lk t j ne = false_from_ne_true (own (sights j).hold B) (λ e. ⊎_elim (λ (m : (sights j).hold.mine B ≡ true). both_ways (there (settled o g) B) ((fit j).hold.mine B m).2 t)
      (⊎_elim (λ (m : (sights j).hold.here B ≡ true). both_ways ((sights j).hold.locked (header sh g.geo B)) (others_unlocked sh L o cells sights g x k ink (header sh g.geo B) lk j ne) ((fit j).hold.here B m).0) (λ (m : making_of (sights j).hold.making B ≡ true). no_maker j B m (there_valid B t))) (own_cases (sights j).hold B e))

  pub own_found : (B : Block) → there (settled o g) B ≡ true → own (sights k).hold B ≡ true → (sights k).hold.found B ≡ true
  own_found B t e = ⊎_elim (λ (m : (sights k).hold.mine B ≡ true). absurd (both_ways (there (settled o g) B) ((fit k).hold.mine B m).2 t))
      (⊎_elim (λ (m : (sights k).hold.here B ≡ true). ((fit k).hold.here B m).1) (λ (m : making_of (sights k).hold.making B ≡ true). absurd (no_maker k B m (there_valid B t)))) (own_cases (sights k).hold B e)

  -- the descriptor of a huge block that is allocated, whose lock lane k holds, is in memory what is settled
  pub same_descr : (f : ℕ) → ((sights k).hold.locked (header sh g.geo (Big f)) || (sights k).hold.reads (header sh g.geo (Big f))) ≡ true → there (settled o g) (Big f) ≡ true → (b : ℕ) → read cells.pool (Descr f) b ≡ settled o g (Descr f) b
  same_descr f lk t b = let e = x.geo.head f t in let is : own (sights k).hold (Big (g.geo.first f)) ≡ own (sights k).hold (Big f) = ap (λ a. own (sights k).hold (Big a)) e in
      ⊎_elim (λ (w : own (sights k).hold (Big (g.geo.first f)) ≡ true). ((fit k).bits (Descr f) b w).0 refl (early_unapplied (sights k).phase early (Descr f) b) (unlogged k (Descr f) b refl))
      (λ (w : own (sights k).hold (Big (g.geo.first f)) ≡ false). x.unowned (Descr f) b (λ j. ⊎_elim (λ (q : j ≡ k). subst (λ i. own (sights i).hold (Big (g.geo.first f)) ≡ false) (sym q) w)
      (λ (ne : j ≢ k). subst (λ a. own (sights j).hold (Big a) ≡ false) (sym e) (not_others (Big f) lk t j ne)) (cases_eq j k)) refl) (cases_Bool (own (sights k).hold (Big (g.geo.first f))))

  -- what memory tells of the run of a block that the lane has
  pub class_told : (c i : ℕ) → has (sights k).hold (Small c i) ≡ true → cells.descr c ≡ g.geo.class c
  class_told c i t = ⊎_elim (λ (e : own (sights k).hold (Small c i) ≡ true). ⊎_elim (λ (r : g.runs c ≡ true). run_class c r) (λ (m : (sights k).hold.making c ≡ true). ((fit k).hold.making c m).1) (small_cases sh cells (settled o g) (Flies g k) g x.geo k (sights k) (fit k) c i e))
      (λ (e : (sights k).hold.found (Small c i) ≡ true). run_class c (small_run sh cells (settled o g) (Flies g k) g x.geo k (sights k) (fit k) c i ((fit k).hold.found (Small c i) e).1)) (or_cases (own (sights k).hold (Small c i)) ((sights k).hold.found (Small c i)) t)

  -- and so the chunks of that block are those that memory tells
  pub span_told : (f : ℕ) → ((sights k).hold.locked (header sh g.geo (Big f)) || (sights k).hold.reads (header sh g.geo (Big f))) ≡ true → there (settled o g) (Big f) ≡ true → (c : ℕ) → (g.geo.first c == f) ≡ in_span f (val (read cells.pool (Descr f)) 8 56) c
  span_told f lk t c = x.geo.shape f t c ∙ sym (ap (λ w. spans w f c) (λ i b. same_descr f lk t b i))

  -- A LOAD SHOWS BLOCKS whose locks the lane holds: they are found, and those under a lock for writing are its to change. What it knows of their runs and
  -- chunks is what memory tells; of their words it knows nothing yet
  pub record Finds (now found' here' : Block → Bool) (class' span' first' : ℕ → ℕ) (pc : Diff) (so : Place → ℕ → Bool) : Type 0 where
    pub shows : (B : Block) → now B ≡ true → (((sights k).hold.locked (header sh g.geo B) || (sights k).hold.reads (header sh g.geo B)) ≡ true) × Shows B
    pub found : (B : Block) → found' B ≡ (now B || (sights k).hold.found B)
    pub here : (B : Block) → here' B ≡ (found' B && (sights k).hold.locked (header sh g.geo B))
    pub class : (c : ℕ) → (class' c ≡ (sights k).hold.class c) ⊎ (class' c ≡ cells.descr c)
    pub knows : (c i : ℕ) → now (Small c i) ≡ true → (n : ℕ) × (class' c ≡ suc n)
    pub span_new : (f : ℕ) → now (Big f) ≡ true → (sights k).hold.found (Big f) ≡ false → span' f ≡ val (read cells.pool (Descr f)) 8 56
    pub span_old : (f : ℕ) → (now (Big f) ≡ false) ⊎ ((sights k).hold.found (Big f) ≡ true) → span' f ≡ (sights k).hold.span f
    pub first_in : (c : ℕ) → now (Big (g.geo.first c)) ≡ true → first' c ≡ g.geo.first c
    pub first_old : (c : ℕ) → now (Big (g.geo.first c)) ≡ false → has (sights k).hold (Big (g.geo.first c)) ≡ true → first' c ≡ g.geo.first c
    pub less : (p : Place) (b : ℕ) (y : Bool) → pc p b ≡ Some y → (sights k).picture p b ≡ Some y
    pub dark : (p : Place) (b : ℕ) → now (block_of g.geo p b) ≡ true → (sights k).hold.found (block_of g.geo p b) ≡ false → pc p b ≡ None
    pub fresh : (p : Place) (b : ℕ) (y : Bool) → (sights k).call.fresh p b ≡ Some y → pc p b ≡ Some y
    pub soiled : (p : Place) (b : ℕ) → so p b ≡ true → (sights k).soiled p b ≡ true

  abbrev pub finding : (Block → Bool) → (Block → Bool) → (ℕ → ℕ) → (ℕ → ℕ) → (ℕ → ℕ) → Hold
  finding found' here' class' span' first' = record (sights k).hold { found = found'; here = here'; class = class'; span = span'; first = first' }

  pub finds : (now found' here' : Block → Bool) (class' span' first' : ℕ → ℕ) (pc : Diff) (so : Place → ℕ → Bool) → Finds now found' here' class' span' first' pc so
      → (sights' : ℕ → Sight) → Turned sights sights' k (sighted sh L o cells sights g x k ink (finding found' here' class' span' first') pc so) → Bits sh L o cells sights' g
  finds now found' here' class' span' first' pc so r sights' t = let f = fit k in let n = finding found' here' class' span' first' in
      reclaims sh L o cells sights g x k ink cells.writer cells.reader n pc so record {
        early = early;
        hold = record {
          locks = f.hold.locks;
          reading = f.hold.reading;
          found = λ B s. ⊎_elim (λ (e : now B ≡ true). ((r.shows B e).0, there_valid B (there_now B e), there_now B e)) (λ (e : (sights k).hold.found B ≡ true). f.hold.found B e) (found_cases B s);
          here = λ B s. let y = and_parts (found' B) ((sights k).hold.locked (header sh g.geo B)) (sym (r.here B) ∙ s) in (y.1, y.0);
          found_here = λ B s e. r.here B ∙ and_from (found' B) ((sights k).hold.locked (header sh g.geo B)) s e;
          mine = f.hold.mine;
          holds = f.hold.holds;
          class = λ c i s. ⊎_elim (λ (e : has (sights k).hold (Small c i) ≡ true). ⊎_elim (λ (q : class' c ≡ (sights k).hold.class c). q ∙ f.hold.class c i e) (λ (q : class' c ≡ cells.descr c). q ∙ class_told c i e) (r.class c))
              (λ (e : now (Small c i) ≡ true). let y = r.knows c i e in y.1 ∙ (sym (knew c y.0 y.1) ∙ run_class c (and_parts (g.runs c) (nat_lt i (blocks_of (g.geo.class c))) (there_valid (Small c i) (there_now (Small c i) e))).0)) (had (Small c i) s);
          span = λ a s c. ⊎_elim (λ (e : (sights k).hold.found (Big a) ≡ true). f.hold.span a (found_has (sights k).hold (Big a) e) c ∙ ap (λ z. in_span a z c) (sym (r.span_old a (inr e))))
              (λ (e : (sights k).hold.found (Big a) ≡ false). ⊎_elim (λ (q : now (Big a) ≡ true). spanned a q c ∙ ap (λ z. in_span a z c) (sym (r.span_new a q e)))
              (λ (q : now (Big a) ≡ false). f.hold.span a (had_old (Big a) s q) c ∙ ap (λ z. in_span a z c) (sym (r.span_old a (inl q)))) (cases_Bool (now (Big a)))) (cases_Bool ((sights k).hold.found (Big a)));
          first = λ c s. let y = g.geo.first c in ⊎_elim (λ (q : now (Big y) ≡ true). r.first_in c q) (λ (q : now (Big y) ≡ false). r.first_old c q (had_old (Big y) s q)) (cases_Bool (now (Big y)));
          zone = λ a s. ⊎_elim (λ (e : (sights k).hold.found (Big a) ≡ true). subst (λ z. a % 64 + z ≤ 64) (sym (r.span_old a (inr e))) (f.hold.zone a (found_has (sights k).hold (Big a) e)))
              (λ (e : (sights k).hold.found (Big a) ≡ false). ⊎_elim (λ (q : now (Big a) ≡ true). subst (λ z. a % 64 + z ≤ 64) (sym (r.span_new a q e ∙ ap (λ w. val w 8 56) (λ i b. told a q b i))) (x.geo.in_zone a (there_now (Big a) q)))
              (λ (q : now (Big a) ≡ false). subst (λ z. a % 64 + z ≤ 64) (sym (r.span_old a (inl q))) (f.hold.zone a (had_old (Big a) s q))) (cases_Bool (now (Big a)))) (cases_Bool ((sights k).hold.found (Big a)));
          making = λ c e. let y = f.hold.making c e in (y.0, y.1, y.2, y.3, r.span_old c (inl (false_from_ne_true (now (Big c)) (λ q. both_ways (there (settled o g) (Big c)) (f.hold.mine (Big c) y.0).2 (there_now (Big c) q)))) ∙ y.4);
          free = f.hold.free;
          seen = knew;
        };
        gains = gains_by sh L o cells sights g x k ink n (λ B s z. ⊎_elim (λ (e : now B ≡ true). λ j. ⊎_elim (λ (q : j ≡ k). subst (λ i. own (sights i).hold B ≡ false) (sym q) z) (λ (ne : j ≢ k). not_others B (r.shows B e).0 (there_now B e) j ne) (cases_eq j k))
            (λ (e : (sights k).hold.found B ≡ true). none_where_found sh L o cells sights g x k ink B z e) (found_cases B (shown_here B s).0)) (λ s. others_unlocked sh L o cells sights g x k ink 0 (or_left ((sights k).hold.locked 0) ((sights k).hold.reads 0) s));
        lost = λ p b s z. absurd (both_ways (owns g.geo (settled o g) (held sh L o cells sights g x k ink n) p b) z (owned_more sh L o cells sights g x k ink n still (λ m y. y) p b s));
        pictures = pictured_so;
        fresh = r.fresh;
        turned = λ B _ s. still B s;
        spans = λ a. ⊎_elim (λ (e : own (sights k).hold (Big a) ≡ false). inl (turn_stays (sights k).phase ((sights k).hold.locked (header sh g.geo (Big a))) ((sights k).hold.mine (Big a)) ((sights k).hold.here (Big a)) false (turn (latest (sights k).call.entries) (Big a)) (f.turns (Big a)) e))
            (λ (e : own (sights k).hold (Big a) ≡ true). inr (r.span_old a (⊎_elim (λ (q : now (Big a) ≡ true). inr (own_found (Big a) (there_now (Big a) q) e)) (λ (q : now (Big a) ≡ false). inl q) (cases_Bool (now (Big a)))))) (⊎_elim (λ (q : own (sights k).hold (Big a) ≡ true). inr q) (λ (q : own (sights k).hold (Big a) ≡ false). inl q) (cases_Bool (own (sights k).hold (Big a))));
        soiled = r.soiled;
        alone = x.alone;
        writers = λ m j ne. refl;
        readers = λ m j ne. refl;
      } sights' t
    where
      there_now : (B : Block) → now B ≡ true → there (settled o g) B ≡ true
      there_now B e = let y = r.shows B e in shown_there B y.0 y.1

      found_cases : (B : Block) → found' B ≡ true → (now B ≡ true) ⊎ ((sights k).hold.found B ≡ true)
      found_cases B s = or_cases (now B) ((sights k).hold.found B) (sym (r.found B) ∙ s)

      shown_here : (B : Block) → here' B ≡ true → (found' B ≡ true) × ((sights k).hold.locked (header sh g.geo B) ≡ true)
      shown_here B s = and_parts (found' B) ((sights k).hold.locked (header sh g.geo B)) (sym (r.here B) ∙ s)

      still : (B : Block) → (sights k).hold.here B ≡ true → here' B ≡ true
      still B s = let y = (fit k).hold.here B s in r.here B ∙ and_from (found' B) ((sights k).hold.locked (header sh g.geo B)) (r.found B ∙ or_right (now B) ((sights k).hold.found B) y.1) y.0

      -- what the lane has after it had before, or it is shown now
      had : (B : Block) → (own (held sh L o cells sights g x k ink (finding found' here' class' span' first')) B || found' B) ≡ true → (has (sights k).hold B ≡ true) ⊎ (now B ≡ true)
      had B s = ⊎_elim (λ (e : own (held sh L o cells sights g x k ink (finding found' here' class' span' first')) B ≡ true). ⊎_elim (λ (q : own (sights k).hold B ≡ true). inl (own_has (sights k).hold B q)) (λ (q : (here' B ≡ true) × (own (sights k).hold B ≡ false)). by_found B (shown_here B q.0).0) (own_new sh L o cells sights g x k ink (finding found' here' class' span' first') B e))
          (λ (e : found' B ≡ true). by_found B e) (or_cases (own (held sh L o cells sights g x k ink (finding found' here' class' span' first')) B) (found' B) s)
        where
          by_found : (B : Block) → found' B ≡ true → (has (sights k).hold B ≡ true) ⊎ (now B ≡ true)
          by_found B e = ⊎_elim (λ (q : now B ≡ true). inr q) (λ (q : (sights k).hold.found B ≡ true). inl (found_has (sights k).hold B q)) (found_cases B e)

      had_old : (B : Block) → (own (held sh L o cells sights g x k ink (finding found' here' class' span' first')) B || found' B) ≡ true → now B ≡ false → has (sights k).hold B ≡ true
      had_old B s u = ⊎_elim (λ (q : has (sights k).hold B ≡ true). q) (λ (q : now B ≡ true). absurd (both_ways (now B) u q)) (had B s)

      knew : (c m : ℕ) → class' c ≡ suc m → cells.descr c ≡ suc m
      knew c m e = ⊎_elim (λ (q : class' c ≡ (sights k).hold.class c). (fit k).hold.seen c m (sym q ∙ e)) (λ (q : class' c ≡ cells.descr c). sym q ∙ e) (r.class c)

      told : (a : ℕ) → now (Big a) ≡ true → (b : ℕ) → read cells.pool (Descr a) b ≡ settled o g (Descr a) b
      told a q = same_descr a (r.shows (Big a) q).0 (there_now (Big a) q)

      spanned : (a : ℕ) → now (Big a) ≡ true → (c : ℕ) → (g.geo.first c == a) ≡ in_span a (val (read cells.pool (Descr a)) 8 56) c
      spanned a q c = x.geo.shape a (there_now (Big a) q) c ∙ sym (ap (λ w. spans w a c) (λ i b. told a q b i))

      block_pictured : (B : Block) (p : Place) (b : ℕ) → (now B ≡ true → (sights k).hold.found B ≡ false → pc p b ≡ None) → (has (sights k).hold B ≡ true → (owns g.geo (settled o g) (sights k).hold p b || sees g.geo (settled o g) (sights k).hold p b) ≡ true)
          → (own (held sh L o cells sights g x k ink (finding found' here' class' span' first')) B || found' B) ≡ true → (y : Bool) → pc p b ≡ Some y → read cells.pool p b ≡ y
      block_pictured B p b dark seen s y e = let pic : has (sights k).hold B ≡ true → read cells.pool p b ≡ y = λ h. true_picture sh L o cells sights g x k ink p b (seen h) y (r.less p b y e) in
          ⊎_elim pic (λ (q : now B ≡ true). ⊎_elim (λ (z : (sights k).hold.found B ≡ true). pic (found_has (sights k).hold B z)) (λ (z : (sights k).hold.found B ≡ false). absurd (both_ways false refl (ap given (sym (dark q z) ∙ e)))) (cases_Bool ((sights k).hold.found B))) (had B s)

      pictured_so : (p : Place) (b : ℕ) → (owns g.geo (settled o g) (held sh L o cells sights g x k ink (finding found' here' class' span' first')) p b || sees g.geo (settled o g) (held sh L o cells sights g x k ink (finding found' here' class' span' first')) p b) ≡ true → (y : Bool) → pc p b ≡ Some y → read cells.pool p b ≡ y
      pictured_so (InRun c a) b s = block_pictured (block_of g.geo (InRun c a) b) (InRun c a) b (r.dark (InRun c a) b) (λ h. h) s
      pictured_so (InHuge c a) b s = block_pictured (Big (g.geo.first c)) (InHuge c a) b (r.dark (InHuge c a) b) (λ h. h) s
      pictured_so (Descr c) b s = block_pictured (Big (g.geo.first c)) (Descr c) b (r.dark (Descr c) b) (λ h. h) s
      pictured_so RootWord b s = λ y e. true_picture sh L o cells sights g x k ink RootWord b s y (r.less RootWord b y e)
