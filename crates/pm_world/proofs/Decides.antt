-- A CALL IS DECIDED, over bits: what it makes final is settled, and the blocks that it allocates or frees change hands.
use Rattle.std.specs.Prelude.{List, [], ◌∷◌}
use Rattle.std.proofs.Common.{◌≡◌, ◌≢◌, ℕ, zero, suc, ◌+◌, ◌%◌, ◌<◌, ◌≤◌, ◌⊎◌, inl, inr, ⊎_elim, Bool, true, false, cond, nat_le, nat_lt, ◌&&◌, ◌||◌, not, ◌==◌, refl, sym, ap, ◌∙◌, subst, arith, ne_eqb, Option, None, Some}
use Rattle.std.proofs.lemmas.Bool.{cases_eq, cases_Bool, cases_lt, eqb-true, le-leb, lt-ltb, ltb-true, both_ways, and_parts, and_from, or_cases, or_left, or_right, false_from_ne_true, true_from_ne_false, cond-false}
use Rattle.pm_layout.specs.declared.shape.Shape.{Shape}
use Rattle.pm_view.specs.Places.{Place, InRun, InHuge, Descr, RootWord, Block, Small, Big, Root, block_of, header, in_span, is_data, same_place}
use Rattle.pm_view.specs.Entries.{Entry, Redo, given_bit, latest, redos, turn, first_of_two}
use Rattle.pm_view.specs.Log.{Phase, Idle, Open, Sealing, Applying}
use Rattle.pm_view.specs.Claims.{making_of, found_after, mine_after}
use Rattle.pm_world.specs.States.{State, Diff, Call, diff, given, over, after_diff, there, val, spans, live, root_line, guards, read, put1, Cells}
use Rattle.pm_world.specs.Sights.{Hold, Sight}
use Rattle.pm_world.specs.Lanes.{Ghost, own, rights, owns, sees, has, valid, TurnFlight, TurnAfter, TurnFits, DescrFits, HoldFits, SightFits, settled, Flies, flies_at, is_taken, GeoFits, Bits}
use Rattle.pm_world.specs.Course.{holder_after}
use Rattle.pm_world.proofs.Basics.{some_of, none_of, val_alike}
use Rattle.pm_world.proofs.Frame.{Around, some_first, mine_own, here_own, own_has, found_has, no_run, owned_kept}
use Rattle.pm_world.proofs.Geometry.{live_same}
use Rattle.pm_world.proofs.Going.{Turned, goes_on, same_made}
use Rattle.pm_world.proofs.Replays.{put1_here, put1_else, over_none, replay_same, replay_last}

-- the ghosts once call n is decided, which is this, of lane l
abbrev pub decided_ghost : Ghost → ℕ → Call → ℕ → Ghost
decided_ghost g l a n = record g { decided = put1 g.decided n true; holder = λ B. holder_after l (turn (latest a.entries) B) (g.holder B) }

-- the lane's sight then: these entries are left to be applied
abbrev pub decided_sight : Sight → List Entry → Sight
decided_sight x todo = record x {
  hold = record x.hold {
    found = λ B. found_after (turn (latest x.call.entries) B) (x.hold.found B);
    mine = λ B. mine_after (turn (latest x.call.entries) B) (x.hold.mine B);
    here = λ B. found_after (turn (latest x.call.entries) B) (x.hold.here B);
  };
  phase = Applying todo;
}

-- ---- one bit, one block

split_bit : (d : Option Bool) → (P : Option Bool → Type 0) → (d ≡ None → P None) → ((y : Bool) → d ≡ Some y → P (Some y)) → P d
split_bit None P a b = a refl
split_bit (Some y) P a b = b y refl

pub first_none : (a d : Option Bool) → given a ≡ false → first_of_two a d ≡ d
first_none None d e = refl
first_none (Some y) d e = absurd (both_ways true e refl)

pub first_left : (a d : Option Bool) (y : Bool) → a ≡ Some y → first_of_two a d ≡ Some y
first_left None d y e = absurd (both_ways false refl (ap given e))
first_left (Some z) d y e = e

alike : (a b : Bool) → (a ≡ true → b ≡ true) → (b ≡ true → a ≡ true) → a ≡ b
alike true b f h = sym (f refl)
alike false b f h = sym (false_from_ne_true b (λ e. both_ways false refl (h e)))

abbrev is_root : Block → Bool
is_root (Small c i) = false
is_root (Big f) = false
is_root Root = true

-- what a call in flight does to a block
by_turn : (l m h : Bool) (a : Option Bool) (P : Option Bool → Type 0) → TurnFlight l m h a → P None → (m ≡ true → l ≡ true → P (Some true)) → (h ≡ true → P (Some false)) → P a
by_turn l m h None P f n t u = n
by_turn l m h (Some true) P f n t u = t f.0 f.1
by_turn l m h (Some false) P f n t u = u f

-- an entry gives the bits of a word
pub latest_short : (es : List Redo) (p : Place) (b : ℕ) → 64 ≤ b → latest es p b ≡ None
latest_short [] p b l = refl
latest_short (e ∷ t) p b l = ap (λ y. first_of_two y (cond (same_place e.place p) (given_bit e.op e.value b) None)) (latest_short t p b l) ∙ (ap (λ y. cond (same_place e.place p) y None) (cond-false (nat_lt b 64) (Rattle.pm_view.specs.Entries.op_bit e.op e.value b) None (false_from_ne_true (nat_lt b 64) (λ q. let z = ltb-true b 64 q in omega arith))) ∙ none_both (same_place e.place p))
  where
    none_both : (t : Bool) → ◌≡◌ {A = Option Bool} (cond t None None) None
    none_both true = refl
    none_both false = refl

-- one of some bits is given, or none is
some_given : (d : ℕ → Option Bool) (n : ℕ) → ((b : ℕ) → b < n → given (d b) ≡ false) ⊎ ((b : ℕ) × (given (d b) ≡ true))
some_given d zero = inl (λ b l. absurd (omega arith))
some_given d (suc n) = ⊎_elim (λ (t : given (d n) ≡ true). inr (n, t))
    (λ (u : given (d n) ≡ false). ⊎_elim (λ (y : (b : ℕ) → b < n → given (d b) ≡ false). inl (λ b l. ⊎_elim (λ (e : b ≡ n). ap (λ i. given (d i)) e ∙ u) (λ (ne : b ≢ n). y b (omega arith)) (cases_eq b n)))
    (λ (y : (b : ℕ) × (given (d b) ≡ true)). inr y) (some_given d n)) (cases_Bool (given (d n)))

-- two numbers of chunks, from one chunk on, that are of the same chunks
in_span_true : (f n c : ℕ) → f ≤ c → c < f + n → in_span f n c ≡ true
in_span_true f n c a b = and_from (nat_le f c) (nat_lt c (f + n)) (le-leb f c a) (lt-ltb c (f + n) b)

same_span : (f n m : ℕ) → ((c : ℕ) → in_span f n c ≡ in_span f m c) → n ≡ m
same_span f n m e = ⊎_elim (λ (q : n ≡ m). q) (λ (ne : n ≢ m). ⊎_elim (λ (l : n < m). absurd (less n m (λ c. sym (e c)) l)) (λ (l : m ≤ n). absurd (less m n e (omega arith))) (cases_lt n m)) (cases_eq n m)
  where
    less : (n m : ℕ) → ((c : ℕ) → in_span f m c ≡ in_span f n c) → n < m → ⊥
    less n m e l = let t = sym (e (f + n)) ∙ in_span_true f m (f + n) (omega arith) (omega arith) in let z = ltb-true (f + n) (f + n) (and_parts (nat_le f (f + n)) (nat_lt (f + n) (f + n)) t).1 in omega arith

-- ---- THE CALL OF LANE k, which flies as number n, IS DECIDED. Its bits that no entry makes are stored; nothing is undrained. `todo` are its entries
module _ (sh : Shape) (L : ℕ) (o : State) (cells : Cells) (sights : ℕ → Sight) (g : Ghost) (x : Bits sh L o cells sights g) (k : ℕ) (ink : k < L) (l : ℕ) (el : l ≡ k) (n : ℕ) (todo : List Entry)
    (f : SightFits sh cells (settled o g) (Flies g k) g k (record (sights k) { phase = Sealing n })) (only : (m : ℕ) → flies_at (sights k).phase m → n ≡ m)
    (data_only : (p : Place) (b : ℕ) → is_data p ≡ false → given ((sights k).call.fresh p b) ≡ false) (high : (c b : ℕ) → 64 ≤ b → read cells.pool (Descr c) b ≡ false)
    (whole : (p : Place) (b : ℕ) → latest (redos todo) p b ≡ latest (sights k).call.entries p b) where
  abbrev S : State
  S = settled o g

  abbrev h : Hold
  h = (sights k).hold

  abbrev call : Call
  call = (sights k).call

  abbrev turns : Block → Option Bool
  turns B = turn (latest (sights k).call.entries) B

  abbrev g' : Ghost
  g' = decided_ghost g l (sights k).call n

  abbrev S' : State
  S' = settled o (decided_ghost g l (sights k).call n)

  abbrev x' : Sight
  x' = decided_sight (sights k) todo

  -- what is settled after it is its difference over what was
  pub now : (p : Place) (b : ℕ) → S' p b ≡ after_diff (diff call) S p b
  now p b = split_bit (diff call p b) (λ d. S' p b ≡ over d (S p b)) (λ e. replay_same g.decided (put1 g.decided n true) o g.log g.log p b g.length
      (λ m a. (refl, ⊎_elim (λ (i : m ≡ n). inr (ap given (ap (λ z. diff (g.log z) p b) i ∙ (f.call.flight.1 p b ∙ e)))) (λ (ne : m ≢ n). inl (put1_else g.decided n true m ne)) (cases_eq m n))))
      (λ y e. replay_last (put1 g.decided n true) o g.log p b g.length n y f.call.flight.0 (put1_here g.decided n true) (f.call.flight.1 p b ∙ e) (λ m a c. f.call.flight.4 m a c p b (ap given e)))

  keep : (p : Place) (b : ℕ) → given (diff call p b) ≡ false → S' p b ≡ S p b
  keep p b u = now p b ∙ over_none (diff call p b) (S p b) u

  new : (p : Place) (b : ℕ) (y : Bool) → diff call p b ≡ Some y → S' p b ≡ y
  new p b y e = now p b ∙ ap (λ d. over d (S p b)) e

  undone : (p : Place) (b : ℕ) → owns g.geo S h p b ≡ false → given (diff call p b) ≡ false
  undone p b u = false_from_ne_true (given (diff call p b)) (λ t. both_ways (owns g.geo S h p b) u (f.reach p b t))

  pub set : (p : Place) (b : ℕ) → owns g.geo S h p b ≡ false → S' p b ≡ S p b
  set p b u = keep p b (undone p b u)

  -- whether a block is allocated
  plain_diff : (p : Place) (b : ℕ) → is_data p ≡ false → diff call p b ≡ latest call.entries p b
  plain_diff p b e = go (latest call.entries p b) (none_of (call.fresh p b) (data_only p b e))
    where
      go : (a : Option Bool) → call.fresh p b ≡ None → first_of_two a (call.fresh p b) ≡ a
      go None q = q
      go (Some y) q = refl

  there_now : (B : Block) → there S' B ≡ over (turns B) (there S B)
  there_now (Small c i) = now (InRun c 0) i ∙ ap (λ d. over d (S (InRun c 0) i)) (plain_diff (InRun c 0) i refl)
  there_now (Big c) = now (Descr c) 1 ∙ ap (λ d. over d (S (Descr c) 1)) (plain_diff (Descr c) 1 refl)
  there_now Root = refl

  fact : (B : Block) → TurnFlight (h.locked (header sh g.geo B)) (h.mine B) (h.here B) (turns B)
  fact B = f.turns B

  by : (B : Block) (P : Option Bool → Type 0) → P None → (h.mine B ≡ true → h.locked (header sh g.geo B) ≡ true → P (Some true)) → (h.here B ≡ true → P (Some false)) → P (turns B)
  by B P = by_turn (h.locked (header sh g.geo B)) (h.mine B) (h.here B) (turns B) P (fact B)

  -- the lane owns the same blocks
  own_now : (B : Block) → own x'.hold B ≡ own h B
  own_now B = by B (λ a. (mine_after a (h.mine B) || (found_after a (h.here B) || making_of h.making B)) ≡ own h B) refl (λ m e. sym (or_left (h.mine B) (h.here B || making_of h.making B) m)) (λ e. sym (here_own h B e))

  has_back : (B : Block) → has x'.hold B ≡ true → has h B ≡ true
  has_back B t = ⊎_elim (λ (q : own x'.hold B ≡ true). own_has h B (sym (own_now B) ∙ q)) (λ (q : found_after (turns B) (h.found B) ≡ true).
      by B (λ a. found_after a (h.found B) ≡ true → has h B ≡ true) (λ y. found_has h B y) (λ m e y. own_has h B (mine_own h B m)) (λ e y. absurd (both_ways false refl y)) q) (or_cases (own x'.hold B) (x'.hold.found B) t)

  -- the root word: where the call changes it, it keeps the guards to come
  root_now : (b : ℕ) → rights h Root (guards S' RootWord) ≡ rights h Root (guards (after_diff (diff call) S) RootWord)
  root_now b = ap (λ w. rights h Root (0 ∷ root_line (val w 0 64))) (λ i c. now RootWord c i)

  pub owned_now : (p : Place) (b : ℕ) → owns g.geo S h p b ≡ true → owns g.geo S' x'.hold p b ≡ true
  owned_now (InRun c w) b t = own_now (block_of g.geo (InRun c w) b) ∙ t
  owned_now (InHuge c w) b t = own_now (block_of g.geo (InHuge c w) b) ∙ t
  owned_now (Descr c) b t = own_now (block_of g.geo (Descr c) b) ∙ t
  owned_now RootWord b t = root_now b ∙ f.guarded refl b t

  owned_before : (p : Place) (b : ℕ) → owns g.geo S' x'.hold p b ≡ true → owns g.geo S h p b ≡ true
  owned_before (InRun c w) b t = sym (own_now (block_of g.geo (InRun c w) b)) ∙ t
  owned_before (InHuge c w) b t = sym (own_now (block_of g.geo (InHuge c w) b)) ∙ t
  owned_before (Descr c) b t = sym (own_now (block_of g.geo (Descr c) b)) ∙ t
  owned_before RootWord b t = ⊎_elim (λ (u : (c : ℕ) → c < 64 → given (diff call RootWord c) ≡ false). subst (λ y. rights h Root (0 ∷ root_line y) ≡ true) (val_alike (S' RootWord) (S RootWord) 0 64 (λ c a. keep RootWord c (u c (omega arith)))) t)
      (λ (u : (c : ℕ) × (given (diff call RootWord c) ≡ true)). f.reach RootWord u.0 u.1) (some_given (diff call RootWord) 64)

  -- a chunk that the lane makes a run stays its own
  unmade : (c : ℕ) → h.making c ≡ true → turns (Big c) ≡ None
  unmade c t = none_of (turns (Big c)) (false_from_ne_true (given (turns (Big c))) (λ y. both_ways (h.making c) (f.plain (Descr c) 1 (some_first (latest call.entries (Descr c) 1) (call.fresh (Descr c) 1) y)) t))

  hold_now : HoldFits sh cells.writer cells.reader cells.descr S' g' k x'.hold
  hold_now = record {
    locks = f.hold.locks;
    reading = f.hold.reading;
    found = λ B t. let y = by B (λ a. found_after a (h.found B) ≡ true → ((h.locked (header sh g.geo B) || h.reads (header sh g.geo B)) ≡ true) × (valid g B ≡ true) × (over a (there S B) ≡ true)) (λ e. f.hold.found B e)
        (λ m e _. (or_left (h.locked (header sh g.geo B)) (h.reads (header sh g.geo B)) e, (f.hold.mine B m).1, refl)) (λ _ e. absurd (both_ways false refl e)) t in (y.0, y.1, there_now B ∙ y.2);
    here = λ B t. by B (λ a. found_after a (h.here B) ≡ true → (h.locked (header sh g.geo B) ≡ true) × (found_after a (h.found B) ≡ true)) (λ e. f.hold.here B e) (λ m e _. (e, refl)) (λ _ e. absurd (both_ways false refl e)) t;
    found_here = λ B t e. by B (λ a. found_after a (h.found B) ≡ true → found_after a (h.here B) ≡ true) (λ y. f.hold.found_here B y e) (λ _ _ y. refl) (λ _ y. y) t;
    mine = λ B t. let y = by B (λ a. mine_after a (h.mine B) ≡ true → (holder_after l a (g.holder B) ≡ suc k) × (valid g B ≡ true) × (over a (there S B) ≡ false)) (λ e. f.hold.mine B e) (λ _ _ e. absurd (both_ways false refl e))
        (λ e _. (ap suc el, (f.hold.found B (f.hold.here B e).1).1, refl)) t in (y.0, y.1, there_now B ∙ y.2);
    holds = λ B t. by B (λ a. holder_after l a (g.holder B) ≡ suc k → mine_after a (h.mine B) ≡ true) (λ e. f.hold.holds B e) (λ _ _ e. absurd (omega arith)) (λ _ e. refl) t;
    class = λ c i t. f.hold.class c i (has_back (Small c i) t);
    span = λ y t. f.hold.span y (has_back (Big y) t);
    first = λ c t. f.hold.first c (has_back (Big (g.geo.first c)) t);
    zone = λ y t. f.hold.zone y (has_back (Big y) t);
    making = λ c t. let y = f.hold.making c t in (ap (λ a. mine_after a (h.mine (Big c))) (unmade c t) ∙ y.0, y.1, y.2, y.3, y.4);
    free = λ c t. no_run sh cells S (Flies g k) g x.geo k (record (sights k) { phase = Sealing n }) f c (sym (own_now (Big (g.geo.first c))) ∙ mine_own x'.hold (Big (g.geo.first c)) t);
    seen = f.hold.seen;
  }

  -- memory has what is settled now of a bit that no entry makes: it was stored, or was so
  stored_bit : (p : Place) (b : ℕ) → owns g.geo S h p b ≡ true → given (latest call.entries p b) ≡ false → live S' g.geo g.runs p ≡ true → read cells.pool p b ≡ S' p b
  stored_bit p b t u al = let z = f.bits p b t in let d = first_none (latest call.entries p b) (call.fresh p b) u in
      ⊎_elim (λ (q : given (call.fresh p b) ≡ true). let y = some_of (call.fresh p b) q in z.3 y.0 (f.fresh p b y.0 y.1) ∙ sym (new p b y.0 (d ∙ y.1)))
      (λ (q : given (call.fresh p b) ≡ false). let none_ : given (diff call p b) ≡ false = ap given d ∙ q in
      z.0 (true_from_ne_false (live S g.geo g.runs p) (λ dead. both_ways (given (diff call p b)) none_ (f.born refl p b t dead (sym (live_same g.geo g.runs (after_diff (diff call) S) S' x.geo.twice (λ c r. (x.geo.classes c r).0) p b (λ a e _. now a e)) ∙ al))))
      refl (ap (λ t. t && true) (false_from_ne_true ((sights k).logged p) (λ y. both_ways (given (call.fresh p b)) q (f.stored p b refl y)))) ∙ sym (keep p b none_)) (cases_Bool (given (call.fresh p b)))

  saw : (p : Place) (b : ℕ) → sees g.geo S' x'.hold p b ≡ true → (y : Bool) → (sights k).picture p b ≡ Some y → read cells.pool p b ≡ y
  saw (InRun c w) b t y e = let B = block_of g.geo (InRun c w) b in by B (λ a. found_after a (h.found B) ≡ true → read cells.pool (InRun c w) b ≡ y) (λ q. f.picture (InRun c w) b q y e) (λ m _ _. (f.bits (InRun c w) b (mine_own h B m)).3 y e) (λ _ q. absurd (both_ways false refl q)) t
  saw (InHuge c w) b t y e = let B = block_of g.geo (InHuge c w) b in by B (λ a. found_after a (h.found B) ≡ true → read cells.pool (InHuge c w) b ≡ y) (λ q. f.picture (InHuge c w) b q y e) (λ m _ _. (f.bits (InHuge c w) b (mine_own h B m)).3 y e) (λ _ q. absurd (both_ways false refl q)) t
  saw (Descr c) b t y e = let B = block_of g.geo (Descr c) b in by B (λ a. found_after a (h.found B) ≡ true → read cells.pool (Descr c) b ≡ y) (λ q. f.picture (Descr c) b q y e) (λ m _ _. (f.bits (Descr c) b (mine_own h B m)).3 y e) (λ _ q. absurd (both_ways false refl q)) t
  saw RootWord b t y e = f.picture RootWord b t y e

  pub sight_now : SightFits sh cells S' (Flies g' k) g' k x'
  sight_now = record {
    hold = hold_now;
    bits = λ p b t. let t' = owned_before p b t in (
      λ al u _. stored_bit p b t' (sym (ap given (whole p b)) ∙ u) al,
      (f.bits p b t').1,
      λ _ y e. new p b y (first_left (latest call.entries p b) (call.fresh p b) y e),
      (f.bits p b t').3,
    );
    picture = saw;
    turns = λ B. by B (λ a. TurnAfter (h.locked (header sh g.geo B)) (mine_after a (h.mine B)) (found_after a (h.here B)) a) tt (λ _ _. refl) (λ e. (refl, (f.hold.here B e).0));
    call = record { flight = tt; todo = λ p b y e. sym (whole p b) ∙ e; descr = f.call.descr };
    reach = λ p b t. owned_now p b (f.reach p b t);
    plain = f.plain;
    logged = λ p b e. absurd (both_ways true e refl);
    stored = λ p b e. absurd (both_ways true e refl);
    fresh = f.fresh;
    sizes = f.sizes;
    born = λ e. absurd (both_ways false refl e);
    guarded = λ e. absurd (both_ways false refl e);
    soiled = λ p b t. absurd (both_ways false refl (f.soiled p b t).0);
  }

  -- what the other lanes see of it
  pub around : Around k h (λ j. (sights j).hold) cells cells S S' g g'
  around = record {
    writer = λ m j ne. refl;
    reader = λ m j ne. refl;
    pool = λ p b u t. refl;
    set = set;
    descr = λ c u. refl;
    up = λ c m e. e;
    runs = λ c u. refl;
    holder = λ B j ne e. by B (λ a. holder_after l a (g.holder B) ≡ suc j) e (λ m _. let z = (f.hold.mine B m).0 in absurd (ne (omega arith)))
        (λ q. absurd (both_ways (there S B) ((x.each_lane j).hold.mine B ((x.each_lane j).hold.holds B e)).2 (f.hold.found B (f.hold.here B q).1).2));
    holder_back = λ B j ne e. by B (λ a. holder_after l a (g.holder B) ≡ suc j → g.holder B ≡ suc j) (λ z. z) (λ _ _ z. absurd (omega arith)) (λ _ z. absurd (ne (omega arith))) e;
    class = λ c u. refl;
    first = λ c j ne. inl refl;
    flies = λ j m d ne w t. (t.0, t.1, t.2, put1_else g.decided n true m (λ q. ne (sym t.2 ∙ (ap g.who q ∙ f.call.flight.2))) ∙ t.3, t.4);
  }

  -- ---- occupancy and huge blocks
  taken : (B : Block) → (there S' B || not (holder_after l (turns B) (g.holder B) == 0)) ≡ (there S B || not (g.holder B == 0))
  taken B = ap (λ t. t || not (holder_after l (turns B) (g.holder B) == 0)) (there_now B) ∙ by B (λ a. (over a (there S B) || not (holder_after l a (g.holder B) == 0)) ≡ (there S B || not (g.holder B == 0))) refl
      (λ m _. let z = (f.hold.mine B m).0 in sym (or_right (there S B) (not (g.holder B == 0)) (ap not (ne_eqb (g.holder B) 0 (λ q. omega arith)))))
      (λ e. ap not (ne_eqb (suc l) 0 (λ q. omega arith)) ∙ sym (or_left (there S B) (not (g.holder B == 0)) (f.hold.found B (f.hold.here B e).1).2))

  occupied : (a : Block) → is_taken S g a ≡ is_taken S' g' a
  occupied (Small c i) = ap (λ t. not (valid g (Small c i)) || t) (sym (taken (Small c i)))
  occupied (Big c) = ap (λ t. g.runs c || t) (sym (taken (Big (g.geo.first c))))
  occupied Root = refl

  -- of a huge block the descriptor stays, comes to tell of the lane's chunks, or of nothing
  same_descr : (c : ℕ) → ((b : ℕ) → given (diff call (Descr c) b) ≡ false) → S' (Descr c) ≡ S (Descr c)
  same_descr c d = λ i b. keep (Descr c) b (d b) i

  made_descr : (c : ℕ) → h.mine (Big c) ≡ true → S' (Descr c) ≡ (λ b. over (diff call (Descr c) b) false)
  made_descr c m = λ i b. (now (Descr c) b ∙ ap (over (diff call (Descr c) b)) (x.geo.zeros c (f.hold.mine (Big c) m).2 b)) i

  high_descr : (c b : ℕ) → h.here (Big c) ≡ true → 64 ≤ b → S' (Descr c) b ≡ false
  high_descr c b e q = let e' : g.geo.first c ≡ c = eqb-true (g.geo.first c) c (f.hold.found (Big c) (f.hold.here (Big c) e).1).1 in
      let none_ : given (diff call (Descr c) b) ≡ false = ap given (plain_diff (Descr c) b refl ∙ latest_short call.entries (Descr c) b q) in
      keep (Descr c) b none_ ∙ (sym ((f.bits (Descr c) b (here_own h (Big (g.geo.first c)) (subst (λ y. h.here (Big y) ≡ true) (sym e') e))).0 refl refl
      (ap (λ t. t && true) (false_from_ne_true ((sights k).logged (Descr c)) (λ y. both_ways (given (call.fresh (Descr c) b)) (data_only (Descr c) b refl) (f.stored (Descr c) b refl y))))) ∙ high c b q)

  -- by what the call does to it
  by_descr : (c : ℕ) (P : Option Bool → Type 0) → (((b : ℕ) → given (diff call (Descr c) b) ≡ false) → P None)
      → (h.mine (Big c) ≡ true → ((d : ℕ) → spans (λ b. over (diff call (Descr c) b) false) c d ≡ in_span c (h.span c) d) → P (Some true))
      → (h.here (Big c) ≡ true → ((b : ℕ) → b < 64 → diff call (Descr c) b ≡ Some false) → P (Some false)) → P (turns (Big c))
  by_descr c P none_ made_ freed = by (Big c) (λ a. DescrFits a c (h.span c) (λ b. diff call (Descr c) b) → P a) none_ (λ m _. made_ m) freed (f.call.descr c)

  geo_now : GeoFits sh S' g'
  geo_now = record {
    twice = x.geo.twice;
    classes = x.geo.classes;
    shape = λ y t c. by_descr y (λ a. over a (there S (Big y)) ≡ true → (g.geo.first c == y) ≡ spans (S' (Descr y)) y c) (λ d q. x.geo.shape y q c ∙ ap (λ w. spans w y c) (sym (same_descr y d)))
        (λ m d q. f.hold.span y (own_has h (Big y) (mine_own h (Big y) m)) c ∙ (sym (d c) ∙ ap (λ w. spans w y c) (sym (made_descr y m)))) (λ _ _ q. absurd (both_ways false refl q)) (sym (there_now (Big y)) ∙ t);
    head = λ y t. by (Big y) (λ a. over a (there S (Big y)) ≡ true → g.geo.first y ≡ y) (λ q. x.geo.head y q) (λ m _ _. eqb-true (g.geo.first y) y (f.hold.mine (Big y) m).1) (λ _ q. absurd (both_ways false refl q)) (sym (there_now (Big y)) ∙ t);
    huge = λ c t. let B = Big (g.geo.first c) in by B (λ a. over a (there S B) ≡ true → g.runs c ≡ false) (λ q. x.geo.huge c q) (λ m _ _. f.hold.free c m) (λ _ q. absurd (both_ways false refl q)) (sym (there_now B) ∙ t);
    zeros = λ c t b. by_descr c (λ a. over a (there S (Big c)) ≡ false → S' (Descr c) b ≡ false) (λ d q. keep (Descr c) b (d b) ∙ x.geo.zeros c q b) (λ _ _ q. absurd (both_ways true q refl))
        (λ e d q. ⊎_elim (λ (a : b < 64). new (Descr c) b false (d b a)) (λ (a : 64 ≤ b). high_descr c b e a) (cases_lt b 64)) (sym (there_now (Big c)) ∙ t);
    in_zone = λ y t. by_descr y (λ a. over a (there S (Big y)) ≡ true → y % 64 + val (S' (Descr y)) 8 56 ≤ 64) (λ d q. subst (λ w. y % 64 + val w 8 56 ≤ 64) (sym (same_descr y d)) (x.geo.in_zone y q))
        (λ m d q. let z = f.hold.zone y (own_has h (Big y) (mine_own h (Big y) m)) in let e = same_span y (val (λ b. over (diff call (Descr y) b) false) 8 56) (h.span y) d in
        subst (λ w. y % 64 + val w 8 56 ≤ 64) (sym (made_descr y m)) (subst (λ s. y % 64 + s ≤ 64) (sym e) z)) (λ _ _ q. absurd (both_ways false refl q)) (sym (there_now (Big y)) ∙ t);
    within = λ c i t. by (Small c i) (λ a. over a (there S (Small c i)) ≡ true → valid g (Small c i) ≡ true) (λ q. x.geo.within c i q) (λ m _ _. (f.hold.mine (Small c i) m).1) (λ _ q. absurd (both_ways false refl q)) (sym (there_now (Small c i)) ∙ t);
  }

  -- what the lane does not own lives as it did
  set_at : (B : Block) → is_root B ≡ false → own h B ≡ false → (q : Place) (i : ℕ) → block_of g.geo q i ≡ B → S' q i ≡ S q i
  set_at B r u (InRun c w) i y = set (InRun c w) i (ap (own h) y ∙ u)
  set_at B r u (InHuge c w) i y = set (InHuge c w) i (ap (own h) y ∙ u)
  set_at B r u (Descr c) i y = set (Descr c) i (ap (own h) y ∙ u)
  set_at B r u RootWord i y = absurd (both_ways true (ap is_root y ∙ r) refl)

  live_before : (p : Place) (b : ℕ) → owns g.geo S h p b ≡ false → live S' g.geo g.runs p ≡ live S g.geo g.runs p
  live_before (InRun c w) b u = live_same g.geo g.runs S S' x.geo.twice (λ c r. (x.geo.classes c r).0) (InRun c w) b (set_at (block_of g.geo (InRun c w) b) refl u)
  live_before (InHuge c w) b u = live_same g.geo g.runs S S' x.geo.twice (λ c r. (x.geo.classes c r).0) (InHuge c w) b (set_at (block_of g.geo (InHuge c w) b) refl u)
  live_before (Descr c) b u = refl
  live_before RootWord b u = refl

  -- THE WORLD OVER BITS ONCE THE CALL IS DECIDED
  pub decides : (sights' : ℕ → Sight) → Turned sights sights' k x' → Bits sh L o cells sights' g'
  decides sights' t = goes_on sh L o cells sights g x k ink S' cells x' g' sights' refl around sight_now record {
    gone = λ p b q u e. absurd (both_ways (owns g.geo S' x'.hold p b) u (owned_now p b q));
    back = λ p b u u' e. (
      sym (live_before p b u) ∙ e,
      λ j ne y. false_from_ne_true (owns g.geo S (sights j).hold p b) (λ q. both_ways (owns g.geo S' (sights j).hold p b) y (owned_kept sh k (record (sights k) { phase = Sealing n }) (λ i. (sights i).hold) cells cells S S' g g' x.geo x.alone f around j ne (sights j) refl (x.each_lane j) p b q)),
    );
    made = same_made sh L o cells sights g x k ink x' (λ c. refl);
    occ = λ a e. x.occ a e ∙ occupied a;
    geo = geo_now;
    alone = x.alone;
    counter = x.counter;
    flying = λ m a u. let ne : m ≢ n = λ q. both_ways (put1 g.decided n true m) u (ap (put1 g.decided n true) q ∙ put1_here g.decided n true) in let y = x.flying m a (sym (put1_else g.decided n true m ne) ∙ u) in
        (λ q. absurd (ne (sym (only m (subst (λ i. flies_at (sights i).phase m) q y)))), λ _. y);
  } t

-- ---- A CALL IS OVER, over bits: its log has neither records nor entries any more. Where the lane owns a living bit, memory has the settled one
module _ (sh : Shape) (cells : Cells) (S : State) (flies : ℕ → Diff → Type 0) (g : Ghost) (k : ℕ) (x : Sight) (f : SightFits sh cells S flies g k x) (fresh : Diff) (none_ : (p : Place) (b : ℕ) → given (fresh p b) ≡ false)
    (clean : (p : Place) (b : ℕ) → x.soiled p b ≡ false) (same : (p : Place) (b : ℕ) → owns g.geo S x.hold p b ≡ true → live S g.geo g.runs p ≡ true → read cells.pool p b ≡ S p b) where
  no_turn : (B : Block) → turn (latest []) B ≡ None
  no_turn (Small c i) = refl
  no_turn (Big c) = refl
  no_turn Root = refl

  -- in either phase in which no call is to be decided
  abbrev Over : Phase → Type 0
  Over ph = SightFits sh cells S flies g k (record x { phase = ph; call = record { entries = []; fresh = fresh }; logged = λ p. false })

  pub over_idle : Over Idle
  over_idle = record {
    hold = f.hold;
    bits = λ p b t. (λ al _ _. same p b t al, (f.bits p b t).1, λ e. absurd (both_ways false refl e), (f.bits p b t).3);
    picture = f.picture;
    turns = no_turn;
    call = record { flight = tt; todo = λ p b y e. absurd (both_ways false refl (ap given e)); descr = λ c b. none_ (Descr c) b };
    reach = λ p b t. absurd (both_ways (given (fresh p b)) (none_ p b) t);
    plain = λ p b t. absurd (both_ways (given (fresh p b)) (none_ p b) t);
    logged = λ p b _ e. absurd (both_ways false refl e);
    stored = λ p b _ e. absurd (both_ways false refl e);
    fresh = λ p b y e. absurd (both_ways (given (fresh p b)) (none_ p b) (ap given e));
    sizes = λ p b _. (refl, λ t. absurd (both_ways (given (fresh p b)) (none_ p b) t));
    born = λ e. absurd (both_ways false refl e);
    guarded = λ e. absurd (both_ways false refl e);
    soiled = λ p b t. absurd (both_ways (x.soiled p b) (clean p b) t);
  }

  pub over_open : Over Open
  over_open = let z = over_idle in record {
    hold = f.hold;
    bits = z.bits;
    picture = f.picture;
    turns = λ B. subst (TurnFits Open (x.hold.locked (header sh g.geo B)) (x.hold.mine B) (x.hold.here B)) (sym (no_turn B)) tt;
    call = record { flight = tt; todo = z.call.todo; descr = z.call.descr };
    reach = z.reach;
    plain = z.plain;
    logged = z.logged;
    stored = z.stored;
    fresh = z.fresh;
    sizes = z.sizes;
    born = λ e. absurd (both_ways false refl e);
    guarded = λ e. absurd (both_ways false refl e);
    soiled = λ p b t. absurd (both_ways (x.soiled p b) (clean p b) t);
  }
