-- Locks over bits: taken, raised and given back. What a lane holds changes, the words and the history stay.
use Rattle.std.specs.Prelude.{List, [], ◌∷◌}
use Rattle.std.proofs.Common.{◌≡◌, ◌≢◌, ℕ, ◌<◌, ◌⊎◌, inl, inr, ⊎_elim, Bool, true, false, not, ◌&&◌, ◌||◌, eqb, ◌==◌, refl, sym, ap, ◌∙◌, subst, eq-eqb, ne_eqb, Option, None, Some}
use Rattle.std.proofs.lemmas.Bool.{cases_eq, cases_Bool, eqb-true, both_ways, and_parts, and_from, or_cases, or_left, or_right, or_parts, false_from_ne_true}
use Rattle.pm_layout.specs.declared.shape.Shape.{Shape}
use Rattle.pm_view.specs.Places.{Place, InRun, InHuge, Descr, RootWord, Block, Small, Big, Root, block_of, header}
use Rattle.pm_view.specs.Entries.{latest, turn}
use Rattle.pm_view.specs.Log.{Phase, Idle, Open, Drawn, Sealing, Applying, Clearing, Retiring, Voiding, is_early}
use Rattle.pm_view.specs.Claims.{making_of}
use Rattle.pm_world.specs.States.{State, Diff, diff, given, live, val, root_line, read, Cells}
use Rattle.pm_world.specs.Sights.{Hold, Sight}
use Rattle.pm_world.specs.Lanes.{Ghost, own, owns, sees, all_held, has, blank, is_decided, in_flight, left, settled, TurnFits, DescrFits, HoldFits, SightFits, Flies, Alone, Bits, TurnBefore}
use Rattle.pm_world.proofs.Basics.{more3, early_undecided, early_cases}
use Rattle.pm_world.proofs.Frame.{own_cases, here_own, making_own, found_apart, root_rights, lock_apart}
use Rattle.pm_world.proofs.Going.{Turned, goes_on, own_fits, same_made, still_flying}

-- ---- phases before the number

pub early_grounded : (ph : Phase) → is_early ph ≡ true → in_flight ph ≡ false
early_grounded Idle e = refl
early_grounded Open e = refl
early_grounded (Drawn n) e = absurd (both_ways false refl e)
early_grounded (Sealing n) e = absurd (both_ways false refl e)
early_grounded (Applying t) e = refl
early_grounded Clearing e = refl
early_grounded (Retiring n) e = absurd (both_ways false refl e)
early_grounded Voiding e = refl

turn_open : (l l' m h h' : Bool) (a : Option Bool) → (a ≡ Some false → h ≡ true → h' ≡ true) → TurnBefore l m h a → TurnBefore l' m h' a
turn_open l l' m h h' None u f = tt
turn_open l l' m h h' (Some true) u f = f
turn_open l l' m h h' (Some false) u f = u refl f

turn_early : (ph : Phase) (l l' m h h' : Bool) (a : Option Bool) → is_early ph ≡ true → (a ≡ Some false → h ≡ true → h' ≡ true) → TurnFits ph l m h a → TurnFits ph l' m h' a
turn_early ph l l' m h h' a e u f = early_cases (λ p. TurnFits p l m h a → TurnFits p l' m h' a) (λ y. y) (turn_open l l' m h h' a u) ph e f

descr_same : (a : Option Bool) (f n n' : ℕ) (d : ℕ → Option Bool) → (a ≡ None) ⊎ (n' ≡ n) → DescrFits a f n d → DescrFits a f n' d
descr_same a f n n' d e = ⊎_elim (λ (q : a ≡ None). subst (λ z. DescrFits z f n d → DescrFits z f n' d) (sym q) (λ y. y)) (λ (q : n' ≡ n). subst (λ z. DescrFits a f n d → DescrFits a f z d) (sym q) (λ y. y)) e

-- ---- rights that grow

more2 : (a t t' : Bool) → (t ≡ true → t' ≡ true) → (a || t) ≡ true → (a || t') ≡ true
more2 true t t' u e = refl
more2 false t t' u e = u e

pub all_more : (l l' : ℕ → Bool) → ((m : ℕ) → l m ≡ true → l' m ≡ true) → (t : List ℕ) → all_held l t ≡ true → all_held l' t ≡ true
all_more l l' u [] e = refl
all_more l l' u (m ∷ t) e = let y = and_parts (l m) (all_held l t) e in and_from (l' m) (all_held l' t) (u m y.0) (all_more l l' u t y.1)

-- ---- THE CLAIMS CHANGE of a lane that did not take its number: its own blocks and the runs that it makes stay

module _ (sh : Shape) (L : ℕ) (o : State) (cells : Cells) (sights : ℕ → Sight) (g : Ghost) (x : Bits sh L o cells sights g) (k : ℕ) (ink : k < L) where
  -- what the lane has after the step, with its own blocks as they were
  abbrev pub held : Hold → Hold
  held n = record n { mine = (sights k).hold.mine; making = (sights k).hold.making }

  abbrev pub sighted : Hold → Diff → (Place → ℕ → Bool) → Sight
  sighted n pc so = record (sights k) { hold = held n; picture = pc; soiled = so }

  abbrev S : State
  S = settled o g

  -- no lane owns the bit
  abbrev pub Unowned : Place → ℕ → Type 0
  Unowned p b = (j : ℕ) → owns g.geo (settled o g) (sights j).hold p b ≡ false

  -- what the step owes: a bit that comes to be owned was nobody's; of one that is owned no more the call makes nothing, and it is settled; the picture is true
  pub record Reclaims (writer' reader' : ℕ → ℕ → Bool) (n : Hold) (pc : Diff) (so : Place → ℕ → Bool) : Type 0 where
    pub early : is_early (sights k).phase ≡ true
    pub hold : HoldFits sh writer' reader' cells.descr (settled o g) g k (held n)
    pub gains : (p : Place) (b : ℕ) → owns g.geo (settled o g) (held n) p b ≡ true → (owns g.geo (settled o g) (sights k).hold p b ≡ true) ⊎ Unowned p b
    pub lost : (p : Place) (b : ℕ) → owns g.geo (settled o g) (sights k).hold p b ≡ true → owns g.geo (settled o g) (held n) p b ≡ false
        → (given (diff (sights k).call p b) ≡ false) × ((sights k).logged p ≡ false) × (live (settled o g) g.geo g.runs p ≡ true → read cells.pool p b ≡ settled o g p b)
    pub pictures : (p : Place) (b : ℕ) → (owns g.geo (settled o g) (held n) p b || sees g.geo (settled o g) (held n) p b) ≡ true → (y : Bool) → pc p b ≡ Some y → read cells.pool p b ≡ y
    pub fresh : (p : Place) (b : ℕ) (y : Bool) → (sights k).call.fresh p b ≡ Some y → pc p b ≡ Some y
    pub turned : (B : Block) → turn (latest (sights k).call.entries) B ≡ Some false → (sights k).hold.here B ≡ true → n.here B ≡ true
    pub spans : (f : ℕ) → (turn (latest (sights k).call.entries) (Big f) ≡ None) ⊎ (n.span f ≡ (sights k).hold.span f)
    pub soiled : (p : Place) (b : ℕ) → so p b ≡ true → (sights k).soiled p b ≡ true
    pub alone : Alone writer' reader'
    pub writers : (l j : ℕ) → j ≢ k → writer' l j ≡ cells.writer l j
    pub readers : (l j : ℕ) → j ≢ k → reader' l j ≡ cells.reader l j

  not_blank : (p : Place) (b : ℕ) → owns g.geo (settled o g) (sights k).hold p b ≡ false → blank (sights k).hold p ≡ true → ⊥
  not_blank (InRun c w) b u e = both_ways (owns g.geo (settled o g) (sights k).hold (InRun c w) b) u (making_own (sights k).hold c (Rattle.pm_view.specs.Places.part (g.geo.class c) w b) (and_parts (eqb w 0) ((sights k).hold.making c) e).1)
  not_blank (InHuge c w) b u e = both_ways false refl e
  not_blank (Descr c) b u e = both_ways false refl e
  not_blank RootWord b u e = both_ways false refl e

  pub reclaims : (writer' reader' : ℕ → ℕ → Bool) (n : Hold) (pc : Diff) (so : Place → ℕ → Bool) → Reclaims writer' reader' n pc so → (sights' : ℕ → Sight) → Turned sights sights' k (sighted n pc so)
      → Bits sh L o (record cells { writer = writer'; reader = reader' }) sights' g
  reclaims writer' reader' n pc so r sights' t = let f = own_fits sh L o cells sights g x k ink in let q = sights k in let undecided = (early_undecided q.phase r.early).0 in
      goes_on sh L o cells sights g x k ink (settled o g) (record cells { writer = writer'; reader = reader' }) (sighted n pc so) g sights' refl
      record { writer = r.writers; reader = r.readers; pool = λ p b u w. refl; set = λ p b u. refl; descr = λ c u. refl; up = λ c n e. e; runs = λ c u. refl; holder = λ B j ne e. e; holder_back = λ B j ne e. e; class = λ c u. refl; first = λ c j ne. inl refl; flies = λ j n d ne w y. y }
      record {
        hold = r.hold;
        bits = λ p b o'. let pic : (y : Bool) → pc p b ≡ Some y → read cells.pool p b ≡ y = r.pictures p b (or_left (owns g.geo (settled o g) (held n) p b) (sees g.geo (settled o g) (held n) p b) o') in
            ⊎_elim (λ (w : owns g.geo (settled o g) q.hold p b ≡ true). let y = f.bits p b w in (y.0, y.1, y.2, pic))
            (λ (w : Unowned p b). (λ al _ _. x.unowned p b w al, λ bl. absurd (not_blank p b (w k) bl), λ d. absurd (both_ways (is_decided q.phase) undecided d), pic)) (r.gains p b o');
        picture = λ p b s. r.pictures p b (or_right (owns g.geo (settled o g) (held n) p b) (sees g.geo (settled o g) (held n) p b) s);
        turns = λ B. turn_early q.phase (q.hold.locked (header sh g.geo B)) (n.locked (header sh g.geo B)) (q.hold.mine B) (q.hold.here B) (n.here B) (turn (latest q.call.entries) B) r.early (r.turned B) (f.turns B);
        call = record { flight = f.call.flight; todo = f.call.todo; descr = λ y. descr_same (turn (latest q.call.entries) (Big y)) y (q.hold.span y) (n.span y) (λ b. diff q.call (Descr y) b) (r.spans y) (f.call.descr y) };
        reach = λ p b d. still p b (f.reach p b d) (λ l. both_ways (given (diff q.call p b)) l.0 d);
        plain = f.plain;
        logged = λ p b u l. let y = f.logged p b u l in (still p b y.0 (λ z. both_ways (q.logged p) z.1 l), y.1);
        stored = f.stored;
        fresh = r.fresh;
        sizes = f.sizes;
        born = λ y. absurd (both_ways (in_flight q.phase) (early_grounded q.phase r.early) y);
        guarded = λ y. absurd (both_ways (in_flight q.phase) (early_grounded q.phase r.early) y);
        soiled = λ p b e. f.soiled p b (r.soiled p b e);
      } record {
        gone = λ p b w u l. (r.lost p b w u).2 l;
        back = λ p b u u' l. (l, λ j ne y. y);
        made = same_made sh L o cells sights g x k ink (sighted n pc so) (λ c. refl);
        occ = x.occ;
        geo = x.geo;
        alone = r.alone;
        counter = x.counter;
        flying = still_flying sh L o cells sights g x k ink (sighted n pc so) (λ n y. y);
      } t
    where
      still : (p : Place) (b : ℕ) → owns g.geo (settled o g) (sights k).hold p b ≡ true
          → ((given (diff (sights k).call p b) ≡ false) × ((sights k).logged p ≡ false) × (live (settled o g) g.geo g.runs p ≡ true → read cells.pool p b ≡ settled o g p b) → ⊥) → owns g.geo (settled o g) (held n) p b ≡ true
      still p b w never = ⊎_elim (λ (e : owns g.geo (settled o g) (held n) p b ≡ true). e) (λ (e : owns g.geo (settled o g) (held n) p b ≡ false). absurd (never (r.lost p b w e))) (cases_Bool (owns g.geo (settled o g) (held n) p b))

  -- what lane k holds a lock of no other has locked, and none owns a block that it found
  own_sight : (j : ℕ) → SightFits sh cells (settled o g) (Flies g j) g j (sights j)
  own_sight j = x.each_lane j

  pub none_where_found : (B : Block) → own (sights k).hold B ≡ false → (sights k).hold.found B ≡ true → (j : ℕ) → own (sights j).hold B ≡ false
  none_where_found B u t j = ⊎_elim (λ (e : j ≡ k). subst (λ i. own (sights i).hold B ≡ false) (sym e) u)
      (λ (ne : j ≢ k). found_apart sh cells (settled o g) (Flies g k) (Flies g j) g x.geo x.alone k j (sights k) (sights j) (own_sight k) (own_sight j) (λ e. ne (sym e)) B t) (cases_eq j k)

  pub none_at_root : ((j : ℕ) → j ≢ k → (sights j).hold.locked 0 ≡ false) → (b : ℕ) → owns g.geo (settled o g) (sights k).hold RootWord b ≡ false → Unowned RootWord b
  none_at_root free b u j = ⊎_elim (λ (e : j ≡ k). subst (λ i. owns g.geo (settled o g) (sights i).hold RootWord b ≡ false) (sym e) u)
      (λ (ne : j ≢ k). false_from_ne_true (owns g.geo (settled o g) (sights j).hold RootWord b) (λ w. both_ways ((sights j).hold.locked 0) (free j ne) (root_rights sh cells (settled o g) (Flies g j) g x.geo j (sights j) (own_sight j) 0 (root_line (val (settled o g RootWord) 0 64)) w))) (cases_eq j k)

  pub others_unlocked : (l : ℕ) → ((sights k).hold.locked l || (sights k).hold.reads l) ≡ true → (j : ℕ) → j ≢ k → (sights j).hold.locked l ≡ false
  others_unlocked l t j ne = lock_apart sh cells (settled o g) (Flies g k) (Flies g j) g x.geo x.alone k j (sights k) (sights j) (own_sight k) (own_sight j) (λ e. ne (sym e)) l t

  -- the root word is the lane's by line 0 and the root object's line
  pub root_locked : (locked : ℕ → Bool) (t : List ℕ) → (((sights k).hold.mine Root || false) || all_held locked (0 ∷ t)) ≡ true → locked 0 ≡ true
  root_locked locked t e = ⊎_elim (λ (w : ((sights k).hold.mine Root || false) ≡ true). ⊎_elim (λ (m : (sights k).hold.mine Root ≡ true). absurd (both_ways true ((own_sight k).hold.mine Root m).2 refl)) (λ (m : false ≡ true). absurd (both_ways false refl m)) (or_cases ((sights k).hold.mine Root) false w))
      (λ (w : all_held locked (0 ∷ t) ≡ true). (and_parts (locked 0) (all_held locked t) w).0) (or_cases ((sights k).hold.mine Root || false) (all_held locked (0 ∷ t)) e)

  -- rights grow with what is found under locks for writing
  pub owned_more : (n : Hold) → ((B : Block) → (sights k).hold.here B ≡ true → n.here B ≡ true) → ((m : ℕ) → (sights k).hold.locked m ≡ true → n.locked m ≡ true) → (p : Place) (b : ℕ)
      → owns g.geo (settled o g) (sights k).hold p b ≡ true → owns g.geo (settled o g) (held n) p b ≡ true
  owned_more n u w (InRun c a) b t = let B = block_of g.geo (InRun c a) b in more3 ((sights k).hold.mine B) ((sights k).hold.here B) (n.here B) (making_of (sights k).hold.making B) (u B) t
  owned_more n u w (InHuge c a) b t = let B = Big (g.geo.first c) in more3 ((sights k).hold.mine B) ((sights k).hold.here B) (n.here B) false (u B) t
  owned_more n u w (Descr c) b t = let B = Big (g.geo.first c) in more3 ((sights k).hold.mine B) ((sights k).hold.here B) (n.here B) false (u B) t
  owned_more n u w RootWord b t = let gs = 0 ∷ root_line (val (settled o g RootWord) 0 64) in more2 ((sights k).hold.mine Root || false) (all_held (sights k).hold.locked gs) (all_held n.locked gs) (all_more (sights k).hold.locked n.locked w gs) t

  -- and shrink with them
  pub owned_less : (n : Hold) → ((B : Block) → n.here B ≡ true → (sights k).hold.here B ≡ true) → ((m : ℕ) → n.locked m ≡ true → (sights k).hold.locked m ≡ true) → (p : Place) (b : ℕ)
      → owns g.geo (settled o g) (held n) p b ≡ true → owns g.geo (settled o g) (sights k).hold p b ≡ true
  owned_less n u w (InRun c a) b t = let B = block_of g.geo (InRun c a) b in more3 ((sights k).hold.mine B) (n.here B) ((sights k).hold.here B) (making_of (sights k).hold.making B) (u B) t
  owned_less n u w (InHuge c a) b t = let B = Big (g.geo.first c) in more3 ((sights k).hold.mine B) (n.here B) ((sights k).hold.here B) false (u B) t
  owned_less n u w (Descr c) b t = let B = Big (g.geo.first c) in more3 ((sights k).hold.mine B) (n.here B) ((sights k).hold.here B) false (u B) t
  owned_less n u w RootWord b t = let gs = 0 ∷ root_line (val (settled o g RootWord) 0 64) in more2 ((sights k).hold.mine Root || false) (all_held n.locked gs) (all_held (sights k).hold.locked gs) (all_more n.locked (sights k).hold.locked w gs) t

  -- what the lane has after is what it had, or a block newly found under its lock for writing, which is nobody's
  pub own_new : (n : Hold) (B : Block) → own (held n) B ≡ true → (own (sights k).hold B ≡ true) ⊎ ((n.here B ≡ true) × (own (sights k).hold B ≡ false))
  own_new n B t = ⊎_elim (λ (e : own (sights k).hold B ≡ true). inl e) (λ (e : own (sights k).hold B ≡ false). inr (
    let y = or_parts ((sights k).hold.mine B) ((sights k).hold.here B || making_of (sights k).hold.making B) e in let z = or_parts ((sights k).hold.here B) (making_of (sights k).hold.making B) y.1 in
        ⊎_elim (λ (m : (sights k).hold.mine B ≡ true). absurd (both_ways ((sights k).hold.mine B) y.0 m)) (⊎_elim (λ (m : n.here B ≡ true). m) (λ (m : making_of (sights k).hold.making B ≡ true). absurd (both_ways (making_of (sights k).hold.making B) z.1 m))) (own_cases (held n) B t),
    e,
  )) (cases_Bool (own (sights k).hold B))

  pub gains_by : (n : Hold) → ((B : Block) → n.here B ≡ true → own (sights k).hold B ≡ false → (j : ℕ) → own (sights j).hold B ≡ false) → (n.locked 0 ≡ true → (j : ℕ) → j ≢ k → (sights j).hold.locked 0 ≡ false)
      → (p : Place) (b : ℕ) → owns g.geo (settled o g) (held n) p b ≡ true → (owns g.geo (settled o g) (sights k).hold p b ≡ true) ⊎ Unowned p b
  gains_by n u w (InRun c a) b t = let B = block_of g.geo (InRun c a) b in ⊎_elim (λ (e : own (sights k).hold B ≡ true). inl e) (λ (e : (n.here B ≡ true) × (own (sights k).hold B ≡ false)). inr (u B e.0 e.1)) (own_new n B t)
  gains_by n u w (InHuge c a) b t = let B = Big (g.geo.first c) in ⊎_elim (λ (e : own (sights k).hold B ≡ true). inl e) (λ (e : (n.here B ≡ true) × (own (sights k).hold B ≡ false)). inr (u B e.0 e.1)) (own_new n B t)
  gains_by n u w (Descr c) b t = let B = Big (g.geo.first c) in ⊎_elim (λ (e : own (sights k).hold B ≡ true). inl e) (λ (e : (n.here B ≡ true) × (own (sights k).hold B ≡ false)). inr (u B e.0 e.1)) (own_new n B t)
  gains_by n u w RootWord b t = ⊎_elim (λ (e : owns g.geo (settled o g) (sights k).hold RootWord b ≡ true). inl e) (λ (e : owns g.geo (settled o g) (sights k).hold RootWord b ≡ false). inr (none_at_root (w (root_locked n.locked (root_line (val (settled o g RootWord) 0 64)) t)) b e)) (cases_Bool (owns g.geo (settled o g) (sights k).hold RootWord b))

  -- the lane's picture is true of what it owns or has found
  pub true_picture : (p : Place) (b : ℕ) → (owns g.geo (settled o g) (sights k).hold p b || sees g.geo (settled o g) (sights k).hold p b) ≡ true → (y : Bool) → (sights k).picture p b ≡ Some y → read cells.pool p b ≡ y
  true_picture p b t y e = ⊎_elim (λ (w : owns g.geo (settled o g) (sights k).hold p b ≡ true). ((own_sight k).bits p b w).3 y e) (λ (w : sees g.geo (settled o g) (sights k).hold p b ≡ true). (own_sight k).picture p b w y e) (or_cases (owns g.geo (settled o g) (sights k).hold p b) (sees g.geo (settled o g) (sights k).hold p b) t)

-- ---- THE LOCK OF ONE LINE changes, in one lane's bits: whether it writes and whether it reads

pub record Relocked (cells : Cells) (k l : ℕ) (writer' reader' : ℕ → ℕ → Bool) (w r : Bool) : Type 0 where
  pub writer_here : writer' l k ≡ w
  pub reader_here : reader' l k ≡ r
  pub writer_else : (m j : ℕ) → (m ≢ l) ⊎ (j ≢ k) → writer' m j ≡ cells.writer m j
  pub reader_else : (m j : ℕ) → (m ≢ l) ⊎ (j ≢ k) → reader' m j ≡ cells.reader m j

module _ (cells : Cells) (k l : ℕ) (writer' reader' : ℕ → ℕ → Bool) (w r : Bool) (c : Relocked cells k l writer' reader' w r) (al : Alone cells.writer cells.reader) where
  pub alone_after : (w && r) ≡ false → ((i : ℕ) → i ≢ k → (w || r) ≡ true → cells.writer l i ≡ false) → ((i : ℕ) → i ≢ k → w ≡ true → cells.reader l i ≡ false) → Alone writer' reader'
  alone_after one nw nr m j t i = ⊎_elim (λ (e : m ≡ l). subst (λ a. writer' a j ≡ true → (reader' a i ≡ false) × (i ≢ j → writer' a i ≡ false)) (sym e) at_line t)
      (λ (ne : m ≢ l). let y = al m j (sym (c.writer_else m j (inl ne)) ∙ t) i in (c.reader_else m i (inl ne) ∙ y.0, λ q. c.writer_else m i (inl ne) ∙ y.1 q)) (cases_eq m l)
    where
      writes : writer' l k ≡ true → (reader' l i ≡ false) × (i ≢ k → writer' l i ≡ false)
      writes s = let wt : w ≡ true = sym c.writer_here ∙ s in (⊎_elim (λ (e : i ≡ k). ap (reader' l) e ∙ (c.reader_here ∙ (sym (ap (λ z. z && r) wt) ∙ one))) (λ (ne : i ≢ k). c.reader_else l i (inr ne) ∙ nr i ne wt) (cases_eq i k), λ ne. c.writer_else l i (inr ne) ∙ nw i ne (or_left w r wt))

      another : j ≢ k → cells.writer l j ≡ true → (reader' l i ≡ false) × (i ≢ j → writer' l i ≡ false)
      another ne s = let none_ = or_parts w r (false_from_ne_true (w || r) (λ z. both_ways (cells.writer l j) (nw j ne z) s)) in let y = al l j s i in
          ⊎_elim (λ (e : i ≡ k). (ap (reader' l) e ∙ (c.reader_here ∙ none_.1), λ q. ap (writer' l) e ∙ (c.writer_here ∙ none_.0))) (λ (n : i ≢ k). (c.reader_else l i (inr n) ∙ y.0, λ q. c.writer_else l i (inr n) ∙ y.1 q)) (cases_eq i k)

      at_line : writer' l j ≡ true → (reader' l i ≡ false) × (i ≢ j → writer' l i ≡ false)
      at_line s = ⊎_elim (λ (e : j ≡ k). subst (λ a. writer' l a ≡ true → (reader' l i ≡ false) × (i ≢ a → writer' l i ≡ false)) (sym e) writes s) (λ (ne : j ≢ k). another ne (sym (c.writer_else l j (inr ne)) ∙ s)) (cases_eq j k)

took_here : (w a : Bool) → a ≡ false → ((w && true) || a) ≡ w
took_here true a e = refl
took_here false a e = e

pub took_else : (w a : Bool) → ((w && false) || a) ≡ a
took_else true a = refl
took_else false a = refl

took_bit : (bits : ℕ → Bool) (has : ℕ → Bool) (l : ℕ) (w : Bool) → bits l ≡ w → has l ≡ false → ((m : ℕ) → m ≢ l → bits m ≡ has m) → (m : ℕ) → bits m ≡ ((w && (l == m)) || has m)
took_bit bits has l w e u else_ m = ⊎_elim (λ (q : m ≡ l). subst (λ a. bits a ≡ ((w && (l == a)) || has a)) (sym q) (e ∙ sym (ap (λ t. (w && t) || has l) (eq-eqb l l refl) ∙ took_here w (has l) u)))
    (λ (ne : m ≢ l). else_ m ne ∙ sym (ap (λ t. (w && t) || has m) (ne_eqb l m (λ q. ne (sym q))) ∙ took_else w (has m))) (cases_eq m l)

not_both : (w : Bool) → (w && not w) ≡ false
not_both true = refl
not_both false = refl

module _ (sh : Shape) (L : ℕ) (o : State) (cells : Cells) (sights : ℕ → Sight) (g : Ghost) (x : Bits sh L o cells sights g) (k : ℕ) (ink : k < L) (early : is_early (sights k).phase ≡ true) (l : ℕ) (writer' reader' : ℕ → ℕ → Bool) where
  abbrev h : Hold
  h = (sights k).hold

  -- A LOCK IS TAKEN, for writing where nobody has it, for reading where nobody writes. The root word comes to be known no more under line 0
  abbrev pub taking : Bool → Hold
  taking w = record (sights k).hold { locked = λ m. (w && (l == m)) || (sights k).hold.locked m; reads = λ m. (not w && (l == m)) || (sights k).hold.reads m }

  pub takes : (w : Bool) → ((sights k).hold.locked l || (sights k).hold.reads l) ≡ false → Relocked cells k l writer' reader' w (not w) → ((i : ℕ) → i ≢ k → cells.writer l i ≡ false) → ((i : ℕ) → i ≢ k → w ≡ true → cells.reader l i ≡ false)
      → (pc : Diff) → ((p : Place) (b : ℕ) (y : Bool) → pc p b ≡ Some y → (sights k).picture p b ≡ Some y) → (l ≡ 0 → (b : ℕ) → pc RootWord b ≡ None) → ((p : Place) (b : ℕ) (y : Bool) → (sights k).call.fresh p b ≡ Some y → pc p b ≡ Some y)
      → (sights' : ℕ → Sight) → Turned sights sights' k (sighted sh L o cells sights g x k ink (taking w) pc (sights k).soiled) → Bits sh L o (record cells { writer = writer'; reader = reader' }) sights' g
  takes w free c nw nr pc less dark fresh sights' t = let f = own_fits sh L o cells sights g x k ink in let u = or_parts ((sights k).hold.locked l) ((sights k).hold.reads l) free in let n = taking w in
      reclaims sh L o cells sights g x k ink writer' reader' n pc (sights k).soiled record {
        early = early;
        hold = record {
          locks = took_bit (λ m. writer' m k) (sights k).hold.locked l w c.writer_here u.0 (λ m ne. c.writer_else m k (inl ne) ∙ f.hold.locks m);
          reading = took_bit (λ m. reader' m k) (sights k).hold.reads l (not w) c.reader_here u.1 (λ m ne. c.reader_else m k (inl ne) ∙ f.hold.reading m);
          found = λ B s. let y = f.hold.found B s in (more (header sh g.geo B) y.0, y.1, y.2);
          here = λ B s. let y = f.hold.here B s in (or_right (w && (l == header sh g.geo B)) ((sights k).hold.locked (header sh g.geo B)) y.0, y.1);
          found_here = λ B s e. let m = header sh g.geo B in ⊎_elim (λ (q : (w && (l == m)) ≡ true). absurd (both_ways ((sights k).hold.locked l || (sights k).hold.reads l) free
              (subst (λ a. ((sights k).hold.locked a || (sights k).hold.reads a) ≡ true) (sym (eqb-true l m (and_parts w (l == m) q).1)) (f.hold.found B s).0))) (λ (q : (sights k).hold.locked m ≡ true). f.hold.found_here B s q) (or_cases (w && (l == m)) ((sights k).hold.locked m) e);
          mine = f.hold.mine;
          holds = f.hold.holds;
          class = f.hold.class;
          span = f.hold.span;
          first = f.hold.first;
          zone = f.hold.zone;
          making = f.hold.making;
          free = f.hold.free;
          seen = f.hold.seen;
        };
        gains = gains_by sh L o cells sights g x k ink n (λ B s z. absurd (both_ways (own (sights k).hold B) z (here_own (sights k).hold B s))) (λ s. unlocked s);
        lost = λ p b s z. absurd (both_ways (owns g.geo (settled o g) n p b) z (owned_more sh L o cells sights g x k ink n (λ B y. y) (λ m y. or_right (w && (l == m)) ((sights k).hold.locked m) y) p b s));
        pictures = λ p b s y e. seen p b s y e;
        fresh = fresh;
        turned = λ B _ s. s;
        spans = λ _. inr refl;
        soiled = λ p b s. s;
        alone = alone_after cells k l writer' reader' w (not w) c x.alone (not_both w) (λ i ne _. nw i ne) nr;
        writers = λ m j ne. c.writer_else m j (inr ne);
        readers = λ m j ne. c.reader_else m j (inr ne);
      } sights' t
    where
      more : (m : ℕ) → ((sights k).hold.locked m || (sights k).hold.reads m) ≡ true → (((w && (l == m)) || (sights k).hold.locked m) || ((not w && (l == m)) || (sights k).hold.reads m)) ≡ true
      more m s = ⊎_elim (λ (q : (sights k).hold.locked m ≡ true). or_left ((w && (l == m)) || (sights k).hold.locked m) ((not w && (l == m)) || (sights k).hold.reads m) (or_right (w && (l == m)) ((sights k).hold.locked m) q))
          (λ (q : (sights k).hold.reads m ≡ true). or_right ((w && (l == m)) || (sights k).hold.locked m) ((not w && (l == m)) || (sights k).hold.reads m) (or_right (not w && (l == m)) ((sights k).hold.reads m) q)) (or_cases ((sights k).hold.locked m) ((sights k).hold.reads m) s)

      unlocked : ((w && (l == 0)) || (sights k).hold.locked 0) ≡ true → (j : ℕ) → j ≢ k → (sights j).hold.locked 0 ≡ false
      unlocked s j ne = ⊎_elim (λ (q : (w && (l == 0)) ≡ true). sym ((x.each_lane j).hold.locks 0) ∙ subst (λ a. cells.writer a j ≡ false) (eqb-true l 0 (and_parts w (l == 0) q).1) (nw j ne))
          (λ (q : (sights k).hold.locked 0 ≡ true). others_unlocked sh L o cells sights g x k ink 0 (or_left ((sights k).hold.locked 0) ((sights k).hold.reads 0) q) j ne) (or_cases (w && (l == 0)) ((sights k).hold.locked 0) s)

      -- line 0 was held before, where it is another
      old_root : l ≢ 0 → (((w && (l == 0)) || (sights k).hold.locked 0) || ((not w && (l == 0)) || (sights k).hold.reads 0)) ≡ true → ((sights k).hold.locked 0 || (sights k).hold.reads 0) ≡ true
      old_root ne s = let z = ne_eqb l 0 ne in sym (ap (λ t. ((w && t) || (sights k).hold.locked 0) || ((not w && t) || (sights k).hold.reads 0)) z ∙ (ap (λ t. t || ((not w && false) || (sights k).hold.reads 0)) (took_else w ((sights k).hold.locked 0)) ∙ ap (λ t. (sights k).hold.locked 0 || t) (took_else (not w) ((sights k).hold.reads 0)))) ∙ s

      seen : (p : Place) (b : ℕ) → (owns g.geo (settled o g) (taking w) p b || sees g.geo (settled o g) (taking w) p b) ≡ true → (y : Bool) → pc p b ≡ Some y → read cells.pool p b ≡ y
      seen (InRun c a) b s y e = true_picture sh L o cells sights g x k ink (InRun c a) b s y (less (InRun c a) b y e)
      seen (InHuge c a) b s y e = true_picture sh L o cells sights g x k ink (InHuge c a) b s y (less (InHuge c a) b y e)
      seen (Descr c) b s y e = true_picture sh L o cells sights g x k ink (Descr c) b s y (less (Descr c) b y e)
      seen RootWord b s y e = ⊎_elim (λ (q : l ≡ 0). absurd (both_ways false refl (ap given (sym (dark q b) ∙ e)))) (λ (ne : l ≢ 0). (own_fits sh L o cells sights g x k ink).picture RootWord b (old_root ne
          (⊎_elim (λ (z : owns g.geo (settled o g) (taking w) RootWord b ≡ true). or_left ((w && (l == 0)) || (sights k).hold.locked 0) ((not w && (l == 0)) || (sights k).hold.reads 0) (root_locked sh L o cells sights g x k ink (taking w).locked (root_line (val (settled o g RootWord) 0 64)) z)) (λ (z : sees g.geo (settled o g) (taking w) RootWord b ≡ true). z)
          (or_cases (owns g.geo (settled o g) (taking w) RootWord b) (sees g.geo (settled o g) (taking w) RootWord b) s))) y (less RootWord b y e)) (cases_eq l 0)

  -- A LOCK FOR READING IS RAISED where no other lane has it: blocks found under it come to be the lane's to change
  pub raised_holds : (e a r : Bool) → (a || r) ≡ true → ((e || a) || (not e && r)) ≡ true
  raised_holds true a r t = refl
  raised_holds false a r t = t

  pub raised_held : (e a r : Bool) → (e ≡ true → r ≡ true) → ((e || a) || (not e && r)) ≡ true → (a || r) ≡ true
  raised_held true a r u t = or_right a r (u refl)
  raised_held false a r u t = t

  abbrev pub raising : (Block → Bool) → Hold
  raising here' = record (sights k).hold { locked = λ m. (l == m) || (sights k).hold.locked m; reads = λ m. not (l == m) && (sights k).hold.reads m; here = here' }

  pub raises : (sights k).hold.reads l ≡ true → Relocked cells k l writer' reader' true false → ((i : ℕ) → i ≢ k → cells.writer l i ≡ false) → ((i : ℕ) → i ≢ k → cells.reader l i ≡ false)
      → (here' : Block → Bool) → ((B : Block) → here' B ≡ ((sights k).hold.found B && ((l == header sh g.geo B) || (sights k).hold.locked (header sh g.geo B))))
      → (sights' : ℕ → Sight) → Turned sights sights' k (sighted sh L o cells sights g x k ink (raising here') (sights k).picture (sights k).soiled) → Bits sh L o (record cells { writer = writer'; reader = reader' }) sights' g
  raises read_ c nw nr here' is sights' t = let f = own_fits sh L o cells sights g x k ink in let n = raising here' in
      reclaims sh L o cells sights g x k ink writer' reader' n (sights k).picture (sights k).soiled record {
        early = early;
        hold = record {
          locks = λ m. ⊎_elim (λ (q : m ≡ l). subst (λ a. writer' a k ≡ ((l == a) || (sights k).hold.locked a)) (sym q) (c.writer_here ∙ sym (ap (λ t. t || (sights k).hold.locked l) (eq-eqb l l refl))))
              (λ (ne : m ≢ l). c.writer_else m k (inl ne) ∙ (f.hold.locks m ∙ sym (ap (λ t. t || (sights k).hold.locked m) (ne_eqb l m (λ q. ne (sym q)))))) (cases_eq m l);
          reading = λ m. ⊎_elim (λ (q : m ≡ l). subst (λ a. reader' a k ≡ (not (l == a) && (sights k).hold.reads a)) (sym q) (c.reader_here ∙ sym (ap (λ t. not t && (sights k).hold.reads l) (eq-eqb l l refl))))
              (λ (ne : m ≢ l). c.reader_else m k (inl ne) ∙ (f.hold.reading m ∙ sym (ap (λ t. not t && (sights k).hold.reads m) (ne_eqb l m (λ q. ne (sym q)))))) (cases_eq m l);
          found = λ B s. let y = f.hold.found B s in let m = header sh g.geo B in (raised_holds (l == m) ((sights k).hold.locked m) ((sights k).hold.reads m) y.0, y.1, y.2);
          here = λ B s. let y = shown B s in (y.1, y.0);
          found_here = λ B s e. is B ∙ and_from ((sights k).hold.found B) ((l == header sh g.geo B) || (sights k).hold.locked (header sh g.geo B)) s e;
          mine = f.hold.mine;
          holds = f.hold.holds;
          class = λ a i s. f.hold.class a i (had (Small a i) s);
          span = λ a s. f.hold.span a (had (Big a) s);
          first = λ a s. f.hold.first a (had (Big (g.geo.first a)) s);
          zone = λ a s. f.hold.zone a (had (Big a) s);
          making = f.hold.making;
          free = f.hold.free;
          seen = f.hold.seen;
        };
        gains = gains_by sh L o cells sights g x k ink n (λ B s z. none_where_found sh L o cells sights g x k ink B z (shown B s).0) (λ s. others_unlocked sh L o cells sights g x k ink 0 (was 0 (or_left ((l == 0) || (sights k).hold.locked 0) (not (l == 0) && (sights k).hold.reads 0) s)));
        lost = λ p b s z. absurd (both_ways (owns g.geo (settled o g) (held sh L o cells sights g x k ink n) p b) z (owned_more sh L o cells sights g x k ink n still (λ m y. or_right (l == m) ((sights k).hold.locked m) y) p b s));
        pictures = λ p b s. true_picture sh L o cells sights g x k ink p b (seen p b s);
        fresh = f.fresh;
        turned = λ B _ s. still B s;
        spans = λ _. inr refl;
        soiled = λ p b s. s;
        alone = alone_after cells k l writer' reader' true false c x.alone refl (λ i ne _. nw i ne) (λ i ne _. nr i ne);
        writers = λ m j ne. c.writer_else m j (inr ne);
        readers = λ m j ne. c.reader_else m j (inr ne);
      } sights' t
    where
      was : (m : ℕ) → (((l == m) || (sights k).hold.locked m) || (not (l == m) && (sights k).hold.reads m)) ≡ true → ((sights k).hold.locked m || (sights k).hold.reads m) ≡ true
      was m s = raised_held (l == m) ((sights k).hold.locked m) ((sights k).hold.reads m) (λ e. ap (sights k).hold.reads (sym (eqb-true l m e)) ∙ read_) s

      shown : (B : Block) → here' B ≡ true → ((sights k).hold.found B ≡ true) × (((l == header sh g.geo B) || (sights k).hold.locked (header sh g.geo B)) ≡ true)
      shown B s = and_parts ((sights k).hold.found B) ((l == header sh g.geo B) || (sights k).hold.locked (header sh g.geo B)) (sym (is B) ∙ s)

      still : (B : Block) → (sights k).hold.here B ≡ true → here' B ≡ true
      still B s = let y = (own_fits sh L o cells sights g x k ink).hold.here B s in is B ∙ and_from ((sights k).hold.found B) ((l == header sh g.geo B) || (sights k).hold.locked (header sh g.geo B)) y.1 (or_right (l == header sh g.geo B) ((sights k).hold.locked (header sh g.geo B)) y.0)

      owned_had : (B : Block) → own (held sh L o cells sights g x k ink (raising here')) B ≡ true → (own (sights k).hold B || (sights k).hold.found B) ≡ true
      owned_had B s = ⊎_elim (λ (e : own (sights k).hold B ≡ true). or_left (own (sights k).hold B) ((sights k).hold.found B) e) (λ (e : (here' B ≡ true) × (own (sights k).hold B ≡ false)). or_right (own (sights k).hold B) ((sights k).hold.found B) (shown B e.0).0) (own_new sh L o cells sights g x k ink (raising here') B s)

      had : (B : Block) → (own (held sh L o cells sights g x k ink (raising here')) B || (sights k).hold.found B) ≡ true → (own (sights k).hold B || (sights k).hold.found B) ≡ true
      had B s = ⊎_elim (λ (e : own (held sh L o cells sights g x k ink (raising here')) B ≡ true). owned_had B e) (λ (e : (sights k).hold.found B ≡ true). or_right (own (sights k).hold B) ((sights k).hold.found B) e) (or_cases (own (held sh L o cells sights g x k ink (raising here')) B) ((sights k).hold.found B) s)

      seen : (p : Place) (b : ℕ) → (owns g.geo (settled o g) (held sh L o cells sights g x k ink (raising here')) p b || sees g.geo (settled o g) (held sh L o cells sights g x k ink (raising here')) p b) ≡ true → (owns g.geo (settled o g) (sights k).hold p b || sees g.geo (settled o g) (sights k).hold p b) ≡ true
      seen (InRun c a) b s = had (block_of g.geo (InRun c a) b) s
      seen (InHuge c a) b s = had (Big (g.geo.first c)) s
      seen (Descr c) b s = had (Big (g.geo.first c)) s
      seen RootWord b s = or_right (owns g.geo (settled o g) (sights k).hold RootWord b) ((sights k).hold.locked 0 || (sights k).hold.reads 0) (was 0
          (⊎_elim (λ (z : owns g.geo (settled o g) (held sh L o cells sights g x k ink (raising here')) RootWord b ≡ true). or_left ((l == 0) || (sights k).hold.locked 0) (not (l == 0) && (sights k).hold.reads 0) (root_locked sh L o cells sights g x k ink (raising here').locked (root_line (val (settled o g RootWord) 0 64)) z))
          (λ (z : sees g.geo (settled o g) (held sh L o cells sights g x k ink (raising here')) RootWord b ≡ true). z) (or_cases (owns g.geo (settled o g) (held sh L o cells sights g x k ink (raising here')) RootWord b) (sees g.geo (settled o g) (held sh L o cells sights g x k ink (raising here')) RootWord b) s)))

  -- A LOCK IS GIVEN BACK: what was found under it is so no more. Of what the lane owns no more its call makes nothing
  abbrev pub giving : (Block → Bool) → (Block → Bool) → Hold
  giving found' here' = record (sights k).hold { locked = λ m. not (l == m) && (sights k).hold.locked m; reads = λ m. not (l == m) && (sights k).hold.reads m; found = found'; here = here' }

  pub gives : Relocked cells k l writer' reader' false false → (found' here' : Block → Bool) → ((B : Block) → found' B ≡ (not (l == header sh g.geo B) && (sights k).hold.found B)) → ((B : Block) → here' B ≡ (found' B && (not (l == header sh g.geo B) && (sights k).hold.locked (header sh g.geo B))))
      → ((B : Block) → turn (latest (sights k).call.entries) B ≡ Some false → (sights k).hold.here B ≡ true → here' B ≡ true)
      → ((p : Place) (b : ℕ) → owns g.geo (settled o g) (sights k).hold p b ≡ true → owns g.geo (settled o g) (held sh L o cells sights g x k ink (giving found' here')) p b ≡ false → (given (diff (sights k).call p b) ≡ false) × ((sights k).logged p ≡ false))
      → (sights' : ℕ → Sight) → Turned sights sights' k (sighted sh L o cells sights g x k ink (giving found' here') (sights k).picture (sights k).soiled) → Bits sh L o (record cells { writer = writer'; reader = reader' }) sights' g
  gives c found' here' fi hi turned undone sights' t = let f = own_fits sh L o cells sights g x k ink in let n = giving found' here' in
      reclaims sh L o cells sights g x k ink writer' reader' n (sights k).picture (sights k).soiled record {
        early = early;
        hold = record {
          locks = gave_bit (λ m. writer' m k) (sights k).hold.locked c.writer_here (λ m ne. c.writer_else m k (inl ne) ∙ f.hold.locks m);
          reading = gave_bit (λ m. reader' m k) (sights k).hold.reads c.reader_here (λ m ne. c.reader_else m k (inl ne) ∙ f.hold.reading m);
          found = λ B s. let y = found_was B s in let z = f.hold.found B y.1 in let m = header sh g.geo B in (ap (λ t. (t && (sights k).hold.locked m) || (t && (sights k).hold.reads m)) y.0 ∙ z.0, z.1, z.2);
          here = λ B s. let y = and_parts (found' B) (not (l == header sh g.geo B) && (sights k).hold.locked (header sh g.geo B)) (sym (hi B) ∙ s) in (y.1, y.0);
          found_here = λ B s e. hi B ∙ and_from (found' B) (not (l == header sh g.geo B) && (sights k).hold.locked (header sh g.geo B)) s e;
          mine = f.hold.mine;
          holds = f.hold.holds;
          class = λ a i s. f.hold.class a i (had (Small a i) s);
          span = λ a s. f.hold.span a (had (Big a) s);
          first = λ a s. f.hold.first a (had (Big (g.geo.first a)) s);
          zone = λ a s. f.hold.zone a (had (Big a) s);
          making = f.hold.making;
          free = f.hold.free;
          seen = f.hold.seen;
        };
        gains = λ p b s. inl (owned_less sh L o cells sights g x k ink n here_was locked_was p b s);
        lost = λ p b s z. let y = undone p b s z in (y.0, y.1, λ al. (f.bits p b s).0 al (unapplied (sights k).phase early p b) (ap (λ t. t && not (is_decided (sights k).phase)) y.1));
        pictures = λ p b s. true_picture sh L o cells sights g x k ink p b (⊎_elim (λ (z : owns g.geo (settled o g) (held sh L o cells sights g x k ink n) p b ≡ true). or_left (owns g.geo (settled o g) (sights k).hold p b) (sees g.geo (settled o g) (sights k).hold p b) (owned_less sh L o cells sights g x k ink n here_was locked_was p b z))
            (λ (z : sees g.geo (settled o g) (held sh L o cells sights g x k ink n) p b ≡ true). or_right (owns g.geo (settled o g) (sights k).hold p b) (sees g.geo (settled o g) (sights k).hold p b) (saw p b z)) (or_cases (owns g.geo (settled o g) (held sh L o cells sights g x k ink n) p b) (sees g.geo (settled o g) (held sh L o cells sights g x k ink n) p b) s));
        fresh = f.fresh;
        turned = turned;
        spans = λ _. inr refl;
        soiled = λ p b s. s;
        alone = alone_after cells k l writer' reader' false false c x.alone refl (λ i ne e. absurd (both_ways false refl e)) (λ i ne e. absurd (both_ways false refl e));
        writers = λ m j ne. c.writer_else m j (inr ne);
        readers = λ m j ne. c.reader_else m j (inr ne);
      } sights' t
    where
      unapplied : (ph : Phase) → is_early ph ≡ true → (p : Place) (b : ℕ) → given (left ph p b) ≡ false
      unapplied ph e p b = early_cases (λ h. given (left h p b) ≡ false) refl refl ph e

      gave_bit : (bits has : ℕ → Bool) → bits l ≡ false → ((m : ℕ) → m ≢ l → bits m ≡ has m) → (m : ℕ) → bits m ≡ (not (l == m) && has m)
      gave_bit bits has e else_ m = ⊎_elim (λ (q : m ≡ l). subst (λ a. bits a ≡ (not (l == a) && has a)) (sym q) (e ∙ sym (ap (λ t. not t && has l) (eq-eqb l l refl))))
          (λ (ne : m ≢ l). else_ m ne ∙ sym (ap (λ t. not t && has m) (ne_eqb l m (λ q. ne (sym q))))) (cases_eq m l)

      found_was : (B : Block) → found' B ≡ true → (not (l == header sh g.geo B) ≡ true) × ((sights k).hold.found B ≡ true)
      found_was B s = and_parts (not (l == header sh g.geo B)) ((sights k).hold.found B) (sym (fi B) ∙ s)

      here_was : (B : Block) → here' B ≡ true → (sights k).hold.here B ≡ true
      here_was B s = let m = header sh g.geo B in let y = and_parts (found' B) (not (l == m) && (sights k).hold.locked m) (sym (hi B) ∙ s) in
          (own_fits sh L o cells sights g x k ink).hold.found_here B (found_was B y.0).1 (and_parts (not (l == m)) ((sights k).hold.locked m) y.1).1

      locked_was : (m : ℕ) → (not (l == m) && (sights k).hold.locked m) ≡ true → (sights k).hold.locked m ≡ true
      locked_was m s = (and_parts (not (l == m)) ((sights k).hold.locked m) s).1

      had : (B : Block) → (own (held sh L o cells sights g x k ink (giving found' here')) B || found' B) ≡ true → (own (sights k).hold B || (sights k).hold.found B) ≡ true
      had B s = ⊎_elim (λ (e : own (held sh L o cells sights g x k ink (giving found' here')) B ≡ true). or_left (own (sights k).hold B) ((sights k).hold.found B) (more3 ((sights k).hold.mine B) (here' B) ((sights k).hold.here B) (making_of (sights k).hold.making B) (here_was B) e))
          (λ (e : found' B ≡ true). or_right (own (sights k).hold B) ((sights k).hold.found B) (found_was B e).1) (or_cases (own (held sh L o cells sights g x k ink (giving found' here')) B) (found' B) s)

      saw : (p : Place) (b : ℕ) → sees g.geo (settled o g) (held sh L o cells sights g x k ink (giving found' here')) p b ≡ true → sees g.geo (settled o g) (sights k).hold p b ≡ true
      saw (InRun c a) b s = (found_was (block_of g.geo (InRun c a) b) s).1
      saw (InHuge c a) b s = (found_was (Big (g.geo.first c)) s).1
      saw (Descr c) b s = (found_was (Big (g.geo.first c)) s).1
      saw RootWord b s = ⊎_elim (λ (z : (not (l == 0) && (sights k).hold.locked 0) ≡ true). or_left ((sights k).hold.locked 0) ((sights k).hold.reads 0) (and_parts (not (l == 0)) ((sights k).hold.locked 0) z).1)
          (λ (z : (not (l == 0) && (sights k).hold.reads 0) ≡ true). or_right ((sights k).hold.locked 0) ((sights k).hold.reads 0) (and_parts (not (l == 0)) ((sights k).hold.reads 0) z).1) (or_cases (not (l == 0) && (sights k).hold.locked 0) (not (l == 0) && (sights k).hold.reads 0) s)
