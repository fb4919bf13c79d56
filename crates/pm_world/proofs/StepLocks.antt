-- LOCKS ARE TAKEN for writing and for reading, raised, and given back.
use Rattle.std.specs.Prelude.{List, [], ◌∷◌, IsTrue, All, length, slice_get, slice_index}
use Rattle.std.specs.Option.{option_map}
use Rattle.std.specs.Int.{bit_at}
use Rattle.std.proofs.Common.{◌≡◌, ◌≢◌, ℕ, suc, ◌+◌, ◌-◌, ◌*◌, ◌^◌, ◌<◌, ◌≤◌, nat_lt, ◌⊎◌, inl, inr, ⊎_elim, Bool, true, false, cond, not, ◌&&◌, ◌||◌, ◌==◌, refl, sym, ap, ◌∙◌, subst, arith, eq-eqb, ne_eqb, lt-ltb, Option, None, Some}
use Rattle.std.proofs.lemmas.Bool.{cases_eq, cases_lt, cases_Bool, eqb-true, both_ways, and_parts, and_from, or_right, or_parts, false_from_ne_true}
use Rattle.std.proofs.lemmas.Nat.Bits.{bit_at-zero, bit_at-pow_same, bit_at-pow_other, same_from_bits}
use Rattle.pm_layout.specs.declared.shape.Shape.{Shape}
use Rattle.pm_layout.specs.Chunks.{line_of_chunk, word_of_root}
use Rattle.pm_view.specs.Changes.{Undrained}
use Rattle.pm_view.specs.LockWords.{reader_bit, writer_bit, with_writer, with_reader, with_raised, without_lane}
use Rattle.pm_view.specs.Places.{Place, InRun, InHuge, Descr, RootWord, Block, Small, Big, Root, block_of, header, is_data, word_of, is_after, distance}
use Rattle.pm_view.specs.Entries.{Entry, latest, redos, with_redo, first_of_two, turn}
use Rattle.pm_view.specs.Log.{Phase, Idle, Open, Drawn, Sealing, Applying, Clearing, Retiring, Voiding, Recorded, Log, is_early, old_of}
use Rattle.pm_view.specs.Claims.{Claim, Took, Raised, Gave, making_of, locked, reads, holds, class, header_in, found, here, geometry, pictured}
use Rattle.pm_view.specs.Steps.{Step}
use Rattle.pm_view.specs.Steps.Step.{TakeWrite, TakeRead, Raise, Give}
use Rattle.pm_view.specs.View.{runs_one}
use Rattle.pm_view.specs.Views.{after}
use Rattle.pm_world.specs.States.{diff, given}
use Rattle.pm_world.specs.Sights.{Hold, is_pictured, is_recorded, is_logged, is_made, picture, fresh, call_of, call_in, sight_by, sight_of}
use Rattle.pm_world.specs.Lanes.{own, owns, has, TurnFits, SightFits, Flies}
use Rattle.pm_world.specs.Lawful.{GiveFits, MayGive}
use Rattle.pm_world.specs.Logs.{PhaseFits}
use Rattle.pm_world.specs.Memory.{Memory, LockWord, IsSame, IsSameBut, Becomes, bit, cells_of}
use Rattle.pm_world.specs.World.{Opening, Views, Past, origin, ghost_of, settled_words, may_draw, World}
use Rattle.pm_world.specs.Laws.{Turn, Keeps}
use Rattle.pm_world.proofs.Basics.{some_else, more3, early_undecided}
use Rattle.pm_world.proofs.Cells.{other_number}
use Rattle.pm_world.proofs.Frame.{found_has}
use Rattle.pm_world.proofs.LockBits.{WordMoves, NoneElse, NoReader, clear_at, write_moves, read_moves, raise_moves, give_moves}
use Rattle.pm_world.proofs.Locks.{Relocked, taking, takes, raising, raises, giving, gives, held, owned_more, took_else}
use Rattle.pm_world.proofs.StepClaims.{claims_step}
use Rattle.pm_world.proofs.StepPlain.{plain_step, lane_told}

-- ---- of a picture that forgets some words, what the call made stays
pub fresh_same : (C : Bool) (pc pc' : Option Bool) → ((y : Bool) → pc' ≡ Some y → pc ≡ Some y) → (given (cond C pc None) ≡ true → pc' ≡ pc) → cond C pc' None ≡ cond C pc None
fresh_same false pc pc' less u = refl
fresh_same true None None less u = refl
fresh_same true None (Some y) less u = absurd (both_ways false refl (ap given (less y refl)))
fresh_same true (Some z) pc' less u = u refl

pub forgets : (a q : Bool) (o : Option ℕ) (f : ℕ → Bool) (y : Bool) → cond a (option_map f (cond q None o)) None ≡ Some y → cond a (option_map f o) None ≡ Some y
forgets true true o f y e = absurd (both_ways false refl (ap given e))
forgets true false o f y e = e
forgets false q o f y e = absurd (both_ways false refl (ap given e))

pub and_at : (a x y : Bool) → (a ≡ true → x ≡ y) → (a && x) ≡ (a && y)
and_at true x y u = u refl
and_at false x y u = refl

-- ---- what a lane sees once it took a lock
module _ (sh : Shape) (lane : ℕ) (t : List Claim) (log : Log) (changes : List Undrained) (l : ℕ) (w : Bool) where
  abbrev takes_root : Place → Bool
  takes_root p = (l == 0) && (word_of sh p == word_of_root sh)

  -- a word that is forgotten was none that the call made
  kept_made : (p : Place) (b : ℕ) → given (fresh sh t log p b) ≡ true → takes_root p ≡ false
  kept_made p b e = false_from_ne_true (takes_root p) (λ q. let y = and_parts (l == 0) (word_of sh p == word_of_root sh) q in at p (eqb-true l 0 y.0) (eqb-true (word_of sh p) (word_of_root sh) y.1) e)
    where
      at : (p : Place) → l ≡ 0 → word_of sh p ≡ word_of_root sh → given (fresh sh t log p b) ≡ true → ⊥
      at (InRun c a) z e s = absurd (omega arith)
      at (InHuge c a) z e s = absurd (omega arith)
      at (Descr c) z e s = both_ways false refl s
      at RootWord z e s = both_ways false refl s

  pub took_less : (p : Place) (b : ℕ) (y : Bool) → picture sh (Took l w ∷ t) p b ≡ Some y → picture sh t p b ≡ Some y
  took_less p b y e = forgets (is_pictured p) (takes_root p) (pictured sh t (word_of sh p)) (λ x. bit_at x b == 1) y e

  pub took_same : (p : Place) (b : ℕ) → given (fresh sh t log p b) ≡ true → picture sh (Took l w ∷ t) p b ≡ picture sh t p b
  took_same p b e = ap (λ q. cond (is_pictured p) (option_map (λ x. bit_at x b == 1) (cond q None (pictured sh t (word_of sh p)))) None) (kept_made p b e)

  pub took_dark : l ≡ 0 → (b : ℕ) → picture sh (Took l w ∷ t) RootWord b ≡ None
  took_dark z b = ap (λ n. option_map (λ x. bit_at x b == 1) (cond ((n == 0) && true) None (pictured sh t (word_of_root sh)))) z

  took_here : ((B : Block) → found sh t B ≡ true → holds t (header_in sh t B) ≡ true) → holds t l ≡ false → (B : Block) → here sh (Took l w ∷ t) B ≡ here sh t B
  took_here hd free B = let m = header_in sh t B in and_at (found sh t B) ((w && (l == m)) || locked t m) (locked t m)
      (λ e. ap (λ z. (w && z) || locked t m) (ne_eqb l m (λ q. both_ways (holds t l) free (subst (λ a. holds t a ≡ true) (sym q) (hd B e)))) ∙ took_else w (locked t m))

  -- data that is known stays so
  took_known : (p : Place) (b : ℕ) → is_data p ≡ true → picture sh (Took l w ∷ t) p b ≡ picture sh t p b
  took_known p b d = ap (λ q. cond (is_pictured p) (option_map (λ x. bit_at x b == 1) (cond q None (pictured sh t (word_of sh p)))) None)
      (false_from_ne_true (takes_root p) (λ q. let y = and_parts (l == 0) (word_of sh p == word_of_root sh) q in at p (eqb-true (word_of sh p) (word_of_root sh) y.1) d))
    where
      at : (p : Place) → word_of sh p ≡ word_of_root sh → is_data p ≡ true → ⊥
      at (InRun c a) e s = absurd (omega arith)
      at (InHuge c a) e s = absurd (omega arith)
      at (Descr c) e s = both_ways false refl s
      at RootWord e s = both_ways false refl s

  took_fresh : (p : Place) (b : ℕ) → fresh sh (Took l w ∷ t) log p b ≡ fresh sh t log p b
  took_fresh p b = fresh_same (is_data p && (is_made (turn (latest (redos log.entries)) (block_of (geometry sh t) p b)) || is_recorded log.records p)) (picture sh t p b) (picture sh (Took l w ∷ t) p b) (took_less p b) (took_same p b)

  pub took_sight : ((B : Block) → found sh t B ≡ true → holds t (header_in sh t B) ≡ true) → holds t l ≡ false
      → sight_by sh lane (Took l w ∷ t) log changes ≡ record (sight_by sh lane t log changes) {
        hold = record (sight_by sh lane t log changes).hold { locked = λ m. (w && (l == m)) || locked t m; reads = λ m. (not w && (l == m)) || reads t m };
        picture = picture sh (Took l w ∷ t);
      }
  took_sight hd free = λ i. record (sight_by sh lane (Took l w ∷ t) log changes) {
    hold = record (sight_by sh lane (Took l w ∷ t) log changes).hold { here = λ B. took_here hd free B i };
    call = record { entries = redos log.entries; fresh = λ p b. took_fresh p b i };
  }

-- ---- TAKES
module _ (o : Opening) (mem : Memory) (views : Views) (g : Past) (x : World o mem views g) (k : ℕ) (ink : k < o.lanes) where
  own_sight : SightFits o.shape (cells_of o.shape mem) (settled_words o g) (Flies (ghost_of g) k) (ghost_of g) k (sight_of (views k))
  own_sight = x.bits.each_lane k

  shape_is : (views k).fixed.shape ≡ o.shape
  shape_is = (x.each_lane k ink).shape

  -- the header's line as the lane knows it
  pub header_known : (B : Block) → has (sight_of (views k)).hold B ≡ true → header_in (views k).fixed.shape (views k).claims B ≡ header o.shape g.geo B
  header_known (Small c i) h = ap (λ s. line_of_chunk s c + (1 + class (views k).claims c * i)) shape_is ∙ ap (λ n. line_of_chunk o.shape c + (1 + n * i)) (own_sight.hold.class c i h)
  header_known (Big f) h = ap (λ s. line_of_chunk s f) shape_is
  header_known Root h = refl

  pub header_found : (B : Block) → found (views k).fixed.shape (views k).claims B ≡ true → header_in (views k).fixed.shape (views k).claims B ≡ header o.shape g.geo B
  header_found B e = header_known B (found_has (sight_of (views k)).hold B e)

  pub found_held : (B : Block) → found (views k).fixed.shape (views k).claims B ≡ true → holds (views k).claims (header_in (views k).fixed.shape (views k).claims B) ≡ true
  found_held B e = ap (holds (views k).claims) (header_found B e) ∙ (own_sight.hold.found B e).0

  -- a lock word changed by this lane's hand
  pub relocked_by : (new : Memory) (l : ℕ) (w r : Bool) → IsSameBut (LockWord l) mem new → WordMoves k (mem (LockWord l)) (new (LockWord l)) w r → Relocked (cells_of o.shape mem) k l (cells_of o.shape new).writer (cells_of o.shape new).reader w r
  relocked_by new l w r same c = record {
    writer_here = c.writer_here;
    reader_here = c.reader_here;
    writer_else = λ m j ne. ⊎_elim (λ (q : m ≡ l). subst (λ a. bit (new (LockWord a)) (32 + j) ≡ bit (mem (LockWord a)) (32 + j)) (sym q) (c.writer_else j (⊎_elim (λ (n : m ≢ l). absurd (n q)) (λ (n : j ≢ k). n) ne) (small j)))
        (λ (n : m ≢ l). ap (λ y. bit y (32 + j)) (same (LockWord m) (other_number (LockWord m) (LockWord l) n))) (cases_eq m l);
    reader_else = λ m j ne. ⊎_elim (λ (q : m ≡ l). subst (λ a. (nat_lt j 32 && bit (new (LockWord a)) j) ≡ (nat_lt j 32 && bit (mem (LockWord a)) j)) (sym q) (c.reader_else j (⊎_elim (λ (n : m ≢ l). absurd (n q)) (λ (n : j ≢ k). n) ne)))
        (λ (n : m ≢ l). ap (λ y. nat_lt j 32 && bit y j) (same (LockWord m) (other_number (LockWord m) (LockWord l) n))) (cases_eq m l);
  }
    where
      small : (j : ℕ) → (j < 32) ⊎ (bit (mem (LockWord l)) (32 + j) ≡ false)
      small j = ⊎_elim (λ (a : j < 32). inl a) (λ (a : 32 ≤ j). let few = x.few_lanes in inr ((x.bits.each_lane j).hold.locks l ∙ (x.bits.beyond j (omega arith) Root).1 l)) (cases_lt j 32)

  pub low_lane : k < 32
  low_lane = let few = x.few_lanes in omega arith

  -- a lock is won
  wins : (new : Memory) (views' : Views) (l : ℕ) (w : Bool) (s : Step) → is_early (views k).log.phase ≡ true → holds (views k).claims l ≡ false → IsSameBut (LockWord l) mem new → WordMoves k (mem (LockWord l)) (new (LockWord l)) w (not w) → NoneElse k (mem (LockWord l))
      → (w ≡ true → NoReader k (mem (LockWord l))) → Turn views views' k (record (views k) { claims = Took l w ∷ (views k).claims; seen = s ∷ (views k).seen })
      → may_draw (record (views k) { claims = Took l w ∷ (views k).claims; seen = s ∷ (views k).seen }) ≡ may_draw (views k) → World o new views' g
  wins new views' l w s early free same c none_ readers t draws = let sh = (views k).fixed.shape in let n = taking o.shape o.lanes (origin o) (cells_of o.shape mem) (λ j. sight_of (views j)) (ghost_of g) x.bits k ink early l (cells_of o.shape new).writer (cells_of o.shape new).reader w in
      let r = relocked_by new l w (not w) same c in
      let sight = took_sight sh (views k).fixed.lane (views k).claims (views k).log (views k).changes l w found_held free in
      claims_step o mem new views views' g x k ink l same (Took l w ∷ (views k).claims) (s ∷ (views k).seen) t early
      (λ p b _ e. subst (λ z. owns g.geo (settled_words o g) z.hold p b ≡ true) (sym sight) (owned_more o.shape o.lanes (origin o) (cells_of o.shape mem) (λ j. sight_of (views j)) (ghost_of g) x.bits k ink n (λ B y. y) (λ m y. or_right (w && (l == m)) (locked (views k).claims m) y) p b e))
      (λ p q B y. took_here sh (views k).fixed.lane (views k).claims (views k).log (views k).changes l w found_held free B ∙ y)
      (λ p b q d y. ap given (took_known sh (views k).fixed.lane (views k).claims (views k).log (views k).changes l w p b d) ∙ y)
      (λ one v y e. ((x.each_lane k ink).alone one).words v y (some_else ((l == 0) && (v == word_of_root sh)) (pictured sh (views k).claims v) y e))
      (λ m j ne. r.writer_else m j (inr ne)) (λ m j ne. r.reader_else m j (inr ne)) draws
      (takes o.shape o.lanes (origin o) (cells_of o.shape mem) (λ j. sight_of (views j)) (ghost_of g) x.bits k ink early l (cells_of o.shape new).writer (cells_of o.shape new).reader w free r (λ i ne. none_.writer i ne) (λ i ne e. (readers e).reader i ne)
      (picture sh (Took l w ∷ (views k).claims)) (took_less sh (views k).fixed.lane (views k).claims (views k).log (views k).changes l w) (took_dark sh (views k).fixed.lane (views k).claims (views k).log (views k).changes l w)
      (λ p b y e. took_same sh (views k).fixed.lane (views k).claims (views k).log (views k).changes l w p b (ap given e) ∙ own_sight.fresh p b y e)
      (λ j. sight_of (views' j)) record { here = ap sight_of t.here ∙ sight; else_ = λ j ne. ap sight_of (t.else_ j ne) })

  -- a lock is refused
  refused : (new : Memory) (views' : Views) (s : Step) → IsSame mem new → Turn views views' k (record (views k) { seen = s ∷ (views k).seen }) → may_draw (record (views k) { seen = s ∷ (views k).seen }) ≡ may_draw (views k) → World o new views' g
  refused new views' s same t draws = plain_step o mem new views views' g x k ink same (record (views k) { seen = s ∷ (views k).seen }) t refl draws (λ e. e) (lane_told o mem g k (views k) (s ∷ (views k).seen) (views k).call (views k).actions (views k).published (x.each_lane k ink))

  -- ---- WHERE ONE LANE RUNS the word of a lock tells of it alone
  others_none : o.lanes ≡ 1 → (j : ℕ) → j ≢ k → (views j).claims ≡ []
  others_none one j ne = (x.idle_beyond j (omega arith)).2

  one_runs : IsTrue (runs_one (views k)) → o.lanes ≡ 1
  one_runs e = sym (x.each_lane k ink).lanes ∙ eqb-true (views k).fixed.lanes 1 e

  lone_bit : o.lanes ≡ 1 → (l b : ℕ) → b ≢ k → locked (views k).claims l ≡ false → bit_at (mem (LockWord l)) b ≡ 0
  lone_bit one l b ne free = clear_at (mem (LockWord l)) b (⊎_elim
      (λ (a : b < 32). sym (ap (λ t. t && bit (mem (LockWord l)) b) (lt-ltb b 32 a)) ∙ ((x.bits.each_lane b).hold.reading l ∙ ap (λ t. reads t l) (others_none one b ne)))
      (λ (a : 32 ≤ b). let j = b - 32 in let e : 32 + j ≡ b = omega arith in sym (ap (bit (mem (LockWord l))) e) ∙ ((x.bits.each_lane j).hold.locks l ∙ ⊎_elim (λ (q : j ≡ k). ap (λ i. locked (views i).claims l) q ∙ free) (λ (n : j ≢ k). ap (λ t. locked t l) (others_none one j n)) (cases_eq j k))) (cases_lt b 32))

  own_reader : (l : ℕ) → bit (mem (LockWord l)) k ≡ reads (views k).claims l
  own_reader l = sym (ap (λ t. t && bit (mem (LockWord l)) k) (lt-ltb k 32 low_lane)) ∙ own_sight.hold.reading l

  lone_free : o.lanes ≡ 1 → (l : ℕ) → holds (views k).claims l ≡ false → mem (LockWord l) ≡ 0
  lone_free one l free = let u = or_parts (locked (views k).claims l) (reads (views k).claims l) free in same_from_bits (mem (LockWord l)) 0 (λ b. ⊎_elim (λ (q : b ≡ k). clear_at (mem (LockWord l)) b (ap (bit (mem (LockWord l))) q ∙ (own_reader l ∙ u.1))) (λ (ne : b ≢ k). lone_bit one l b ne u.0) (cases_eq b k) ∙ sym (bit_at-zero b))

  lone_reader : o.lanes ≡ 1 → (l : ℕ) → reads (views k).claims l ≡ true → mem (LockWord l) ≡ reader_bit k
  lone_reader one l e = same_from_bits (mem (LockWord l)) (2 ^ k) (λ b. ⊎_elim (λ (q : b ≡ k). ap (bit_at (mem (LockWord l))) q ∙ (eqb-true (bit_at (mem (LockWord l)) k) 1 (own_reader l ∙ e) ∙ (sym (bit_at-pow_same k) ∙ ap (bit_at (2 ^ k)) (sym q)))) (λ (ne : b ≢ k). lone_bit one l b ne free ∙ sym (bit_at-pow_other k b ne)) (cases_eq b k))
    where
      free : locked (views k).claims l ≡ false
      free = false_from_ne_true (locked (views k).claims l) (λ q. both_ways (reads (views k).claims l) (sym (own_sight.hold.reading l) ∙ (x.bits.alone l k (own_sight.hold.locks l ∙ q) k).0) e)

never_none : (a b : Option ℕ) → a ≡ None → a ≡ b → given b ≡ true → ⊥
never_none a b n e s = both_ways (given b) (ap given (sym e ∙ n)) s

pub takes_write : (line : ℕ) (won : Bool) → Keeps (TakeWrite line won)
takes_write line true o mem new views views' g k x ink law moves t = let m = write_moves k (mem (LockWord line)) (new (LockWord line)) moves.1 in
    (wins o mem views g x k ink new views' line true (TakeWrite line true) law.allowed.early law.allowed.free moves.0 m.0 m.1 (λ _. m.2) t refl, λ _. refl)
takes_write line false o mem new views views' g k x ink law moves t = (
  refused o mem views g x k ink new views' (TakeWrite line false) moves.0 t refl,
  λ one. absurd (never_none (with_writer k (mem (LockWord line))) (with_writer k 0) moves.1 (ap (with_writer k) (lone_free o mem views g x k ink (one_runs o mem views g x k ink one) line law.allowed.free)) refl),
)

pub takes_read : (line : ℕ) (won : Bool) → Keeps (TakeRead line won)
takes_read line true o mem new views views' g k x ink law moves t = let m = read_moves k (mem (LockWord line)) (new (LockWord line)) (low_lane o mem views g x k ink) moves.1 in
    (wins o mem views g x k ink new views' line false (TakeRead line true) law.allowed.early law.allowed.free moves.0 m.0 m.1 (λ e. absurd (both_ways false refl e)) t refl, λ _. refl)
takes_read line false o mem new views views' g k x ink law moves t = (
  refused o mem views g x k ink new views' (TakeRead line false) moves.0 t refl,
  λ one. absurd (never_none (with_reader k (mem (LockWord line))) (with_reader k 0) moves.1 (ap (with_reader k) (lone_free o mem views g x k ink (one_runs o mem views g x k ink one) line law.allowed.free)) refl),
)

-- ---- RAISES
pub raised : (line : ℕ) (won : Bool) → Keeps (Raise line won)
raised line true o mem new views views' g k x ink law moves t = let m = raise_moves k (mem (LockWord line)) (new (LockWord line)) (low_lane o mem views g x k ink) moves.1 in let sh = (views k).fixed.shape in let c = (views k).claims in
    let r = relocked_by o mem views g x k ink new line true false moves.0 m.0 in
    let is : (B : Block) → here sh (Raised line ∷ c) B ≡ (found sh c B && ((line == header o.shape g.geo B) || locked c (header o.shape g.geo B))) = λ B. and_at (found sh c B) ((line == header_in sh c B) || locked c (header_in sh c B)) ((line == header o.shape g.geo B) || locked c (header o.shape g.geo B))
    (λ e. ap (λ a. (line == a) || locked c a) (header_found o mem views g x k ink B e)) in
    let n = raising o.shape o.lanes (origin o) (cells_of o.shape mem) (λ j. sight_of (views j)) (ghost_of g) x.bits k ink law.allowed.early line (cells_of o.shape new).writer (cells_of o.shape new).reader (here sh (Raised line ∷ c)) in (
      claims_step o mem new views views' g x k ink line moves.0 (Raised line ∷ c) (Raise line true ∷ (views k).seen) t law.allowed.early
          (λ p b _ e. owned_more o.shape o.lanes (origin o) (cells_of o.shape mem) (λ j. sight_of (views j)) (ghost_of g) x.bits k ink n (λ B y. let z = and_parts (found sh c B) (locked c (header_in sh c B)) y in and_from (found sh c B) ((line == header_in sh c B) || locked c (header_in sh c B)) z.0 (or_right (line == header_in sh c B) (locked c (header_in sh c B)) z.1))
          (λ a y. or_right (line == a) (locked c a) y) p b e)
          (λ p q B y. let z = and_parts (found sh c B) (locked c (header_in sh c B)) y in and_from (found sh c B) ((line == header_in sh c B) || locked c (header_in sh c B)) z.0 (or_right (line == header_in sh c B) (locked c (header_in sh c B)) z.1))
          (λ p b r d y. y)
          (λ one w y e. ((x.each_lane k ink).alone one).words w y e) (λ a j ne. r.writer_else a j (inr ne)) (λ a j ne. r.reader_else a j (inr ne)) refl
          (raises o.shape o.lanes (origin o) (cells_of o.shape mem) (λ j. sight_of (views j)) (ghost_of g) x.bits k ink law.allowed.early line (cells_of o.shape new).writer (cells_of o.shape new).reader law.allowed.held r (λ i ne. m.1.writer i ne) (λ i ne. m.2.reader i ne)
          (here sh (Raised line ∷ c)) is (λ j. sight_of (views' j)) record { here = ap sight_of t.here; else_ = λ j ne. ap sight_of (t.else_ j ne) }),
      λ _. refl,
    )
raised line false o mem new views views' g k x ink law moves t = (
  refused o mem views g x k ink new views' (Raise line false) moves.0 t refl,
  λ one. absurd (never_none (with_raised k (mem (LockWord line))) (with_raised k (reader_bit k)) moves.1 (ap (with_raised k) (lone_reader o mem views g x k ink (one_runs o mem views g x k ink one) line law.allowed.held)) (ap (λ z. given (cond z (Some (writer_bit k)) None)) (eq-eqb (reader_bit k) (reader_bit k) refl))),
)

-- ---- GIVES
and_at_left : (x y a : Bool) → (a ≡ true → x ≡ y) → (x && a) ≡ (y && a)
and_at_left x y true u = ap (λ t. t && true) (u refl)
and_at_left true true false u = refl
and_at_left true false false u = refl
and_at_left false true false u = refl
and_at_left false false false u = refl

-- a call without records and entries makes nothing
made_by_none : (B : Block) → is_made (turn (latest []) B) ≡ false
made_by_none (Small c i) = refl
made_by_none (Big f) = refl
made_by_none Root = refl

nothing_made : (d m : Bool) (pc : Option Bool) → m ≡ false → given (cond (d && (m || false)) pc None) ≡ false
nothing_made true false pc e = refl
nothing_made true true pc e = absurd (both_ways true e refl)
nothing_made false m pc e = refl

made_nothing : (sh : Shape) (t : List Claim) (log : Log) → log.records ≡ [] → log.entries ≡ [] → (p : Place) (b : ℕ) → given (diff (call_of sh t log) p b) ≡ false
made_nothing sh t log r e p b = let B = block_of (geometry sh t) p b in
    ap (λ es. given (first_of_two (latest (redos es) p b) (cond (is_data p && (is_made (turn (latest (redos es)) B) || is_recorded log.records p)) (picture sh t p b) None))) e
    ∙ (ap (λ rs. given (cond (is_data p && (is_made (turn (latest []) B) || is_recorded rs p)) (picture sh t p b) None)) r ∙ nothing_made (is_data p) (is_made (turn (latest []) B)) (picture sh t p b) (made_by_none B))

-- no entry changes the root word
no_root : (es : List Entry) → All (λ (e : Entry). e.place ≢ Some RootWord) es → (b : ℕ) → latest (redos es) RootWord b ≡ None
no_root [] a b = refl
no_root (e ∷ es) a b = go e.place refl (no_root es (λ n d l. a (suc n) d (omega arith)) b)
  where
    go : (p : Option Place) → e.place ≡ p → latest (redos es) RootWord b ≡ None → latest (with_redo p e (redos es)) RootWord b ≡ None
    go None q r = r
    go (Some (InRun c w)) q r = ap (λ y. first_of_two y None) r
    go (Some (InHuge c w)) q r = ap (λ y. first_of_two y None) r
    go (Some (Descr c)) q r = ap (λ y. first_of_two y None) r
    go (Some RootWord) q r = absurd (a 0 e (omega arith) q)

-- nor is it under a record
root_unrecorded : (rs : List Recorded) → ((j : ℕ) (r : Recorded) → slice_get rs j ≡ Some r → is_data r.place ≡ true) → old_of rs RootWord ≡ None
root_unrecorded [] a = refl
root_unrecorded (r ∷ rs) a = ap (λ y. first_of_two y (old_of rs RootWord)) (of r.place (a 0 r refl)) ∙ root_unrecorded rs (λ j q e. a (suc j) q e)
  where
    of : (p : Place) → is_data p ≡ true → cond (is_after p RootWord && nat_lt (distance p RootWord) (length r.old)) (Some (slice_index r.old (distance p RootWord))) None ≡ None
    of (InRun c w) e = refl
    of (InHuge c w) e = refl
    of (Descr c) e = refl
    of RootWord e = absurd (both_ways false refl e)

module _ (o : Opening) (mem new : Memory) (views views' : Views) (g : Past) (x : World o mem views g) (k : ℕ) (ink : k < o.lanes) (line : ℕ) (law : MayGive (views k) line) (moves : Becomes (LockWord line) (without_lane k (mem (LockWord line))) mem new)
    (t : Turn views views' k (after (views k) (Give line))) where
  fit : SightFits o.shape (cells_of o.shape mem) (settled_words o g) (Flies (ghost_of g) k) (ghost_of g) k (sight_of (views k))
  fit = x.bits.each_lane k

  early : is_early (views k).log.phase ≡ true
  early = go (views k).log.phase law.fits
    where
      go : (ph : Phase) → GiveFits (views k) line ph → is_early ph ≡ true
      go Idle f = refl
      go Open f = refl
      go (Drawn n) f = absurd f
      go (Sealing n) f = absurd f
      go (Applying es) f = absurd f
      go Clearing f = absurd f
      go (Retiring n) f = absurd f
      go Voiding f = absurd f

  -- its call is idle, or has found nothing under the line
  phases : ((views k).log.phase ≡ Idle) ⊎ (((B : Block) → found (views k).fixed.shape (views k).claims B ≡ true → header_in (views k).fixed.shape (views k).claims B ≢ line) × All (λ (e : Entry). e.place ≢ Some RootWord) (views k).log.entries)
  phases = go (views k).log.phase refl law.fits
    where
      go : (ph : Phase) → (views k).log.phase ≡ ph → GiveFits (views k) line ph → ((views k).log.phase ≡ Idle) ⊎ (((B : Block) → found (views k).fixed.shape (views k).claims B ≡ true → header_in (views k).fixed.shape (views k).claims B ≢ line) × All (λ (e : Entry). e.place ≢ Some RootWord) (views k).log.entries)
      go Idle q f = inl q
      go Open q f = inr f
      go (Drawn n) q f = absurd f
      go (Sealing n) q f = absurd f
      go (Applying es) q f = absurd f
      go Clearing q f = absurd f
      go (Retiring n) q f = absurd f
      go Voiding q f = absurd f

  abbrev gave : Hold
  gave = giving o.shape o.lanes (origin o) (cells_of o.shape mem) (λ j. sight_of (views j)) (ghost_of g) x.bits k ink early line (cells_of o.shape new).writer (cells_of o.shape new).reader (found (views k).fixed.shape (Gave line ∷ (views k).claims)) (here (views k).fixed.shape (Gave line ∷ (views k).claims))

  abbrev gave_held : Hold
  gave_held = held o.shape o.lanes (origin o) (cells_of o.shape mem) (λ j. sight_of (views j)) (ghost_of g) x.bits k ink gave

  -- what is not under the line is the lane's still
  still_here : ((B : Block) → found (views k).fixed.shape (views k).claims B ≡ true → header_in (views k).fixed.shape (views k).claims B ≢ line) → (B : Block) → here (views k).fixed.shape (views k).claims B ≡ true → here (views k).fixed.shape (Gave line ∷ (views k).claims) B ≡ true
  still_here none_ B e = let m = header_in (views k).fixed.shape (views k).claims B in let y = and_parts (found (views k).fixed.shape (views k).claims B) (locked (views k).claims m) e in
      let z : not (line == m) ≡ true = ap not (ne_eqb line m (λ q. none_ B y.0 (sym q))) in
      and_from (not (line == m) && found (views k).fixed.shape (views k).claims B) (not (line == m) && locked (views k).claims m) (and_from (not (line == m)) (found (views k).fixed.shape (views k).claims B) z y.0) (and_from (not (line == m)) (locked (views k).claims m) z y.1)

  kept : ((B : Block) → found (views k).fixed.shape (views k).claims B ≡ true → header_in (views k).fixed.shape (views k).claims B ≢ line) → (B : Block) → own (sight_of (views k)).hold B ≡ true → own gave_held B ≡ true
  kept none_ B w = more3 ((sight_of (views k)).hold.mine B) ((sight_of (views k)).hold.here B) (here (views k).fixed.shape (Gave line ∷ (views k).claims) B) (making_of (sight_of (views k)).hold.making B) (still_here none_ B) w

  unlogged_root : (sight_of (views k)).logged RootWord ≡ false
  unlogged_root = false_from_ne_true ((sight_of (views k)).logged RootWord) (λ e. both_ways false refl (fit.stored RootWord 0 (early_undecided (views k).log.phase early).0 e))

  -- of what the lane owns no more its call makes nothing
  undone : (p : Place) (b : ℕ) → owns g.geo (settled_words o g) (sight_of (views k)).hold p b ≡ true → owns g.geo (settled_words o g) gave_held p b ≡ false → (given (diff (call_in (views k)) p b) ≡ false) × ((sight_of (views k)).logged p ≡ false)
  undone p b w u = ⊎_elim (λ (q : (views k).log.phase ≡ Idle). let z = subst (PhaseFits o.shape k (sight_of (views k)).picture (views k).log (views k).changes) q (x.each_lane k ink).log.phase in
      let d = made_nothing (views k).fixed.shape (views k).claims (views k).log z.0 z.1 p b in
      (d, ap (λ rs. is_logged (views k).fixed.shape (views k).fixed.lane (views k).changes rs p) z.0))
      (λ (q : ((B : Block) → found (views k).fixed.shape (views k).claims B ≡ true → header_in (views k).fixed.shape (views k).claims B ≢ line) × All (λ (e : Entry). e.place ≢ Some RootWord) (views k).log.entries). by_place q.0 q.1 p w u) phases
    where
      by_place : ((B : Block) → found (views k).fixed.shape (views k).claims B ≡ true → header_in (views k).fixed.shape (views k).claims B ≢ line) → All (λ (e : Entry). e.place ≢ Some RootWord) (views k).log.entries
          → (p : Place) → owns g.geo (settled_words o g) (sight_of (views k)).hold p b ≡ true → owns g.geo (settled_words o g) gave_held p b ≡ false → (given (diff (call_in (views k)) p b) ≡ false) × ((sight_of (views k)).logged p ≡ false)
      by_place none_ a (InRun d i) w u = absurd (both_ways (owns g.geo (settled_words o g) gave_held (InRun d i) b) u (kept none_ (block_of g.geo (InRun d i) b) w))
      by_place none_ a (InHuge d i) w u = absurd (both_ways (own gave_held (Big (g.geo.first d))) u (kept none_ (Big (g.geo.first d)) w))
      by_place none_ a (Descr d) w u = absurd (both_ways (own gave_held (Big (g.geo.first d))) u (kept none_ (Big (g.geo.first d)) w))
      by_place none_ a RootWord w u = (ap (λ y. given (first_of_two y None)) (no_root (views k).log.entries a b), unlogged_root)

  freed : (B : Block) → turn (latest (redos (views k).log.entries)) B ≡ Some false → here (views k).fixed.shape (views k).claims B ≡ true → here (views k).fixed.shape (Gave line ∷ (views k).claims) B ≡ true
  freed B e h = ⊎_elim (λ (q : (views k).log.phase ≡ Idle). let z = subst (λ ph. TurnFits ph (locked (views k).claims (header o.shape g.geo B)) ((sight_of (views k)).hold.mine B) ((sight_of (views k)).hold.here B) (turn (latest (redos (views k).log.entries)) B)) q (fit.turns B) in absurd (both_ways false refl (ap given (sym z ∙ e))))
      (λ (q : ((B : Block) → found (views k).fixed.shape (views k).claims B ≡ true → header_in (views k).fixed.shape (views k).claims B ≢ line) × All (λ (e : Entry). e.place ≢ Some RootWord) (views k).log.entries). still_here q.0 B h) phases

  recorded_kept : (p : Place) (b : ℕ) → is_recorded (views k).log.records p ≡ true → owns g.geo (settled_words o g) (sight_of (views k)).hold p b ≡ true → owns g.geo (settled_words o g) gave_held p b ≡ false → ⊥
  recorded_kept p b e w u = ⊎_elim (λ (q : (views k).log.phase ≡ Idle). let z = subst (PhaseFits o.shape k (sight_of (views k)).picture (views k).log (views k).changes) q (x.each_lane k ink).log.phase in both_ways (is_recorded (views k).log.records p) (ap (λ rs. is_recorded rs p) z.0) e)
      (λ (q : ((B : Block) → found (views k).fixed.shape (views k).claims B ≡ true → header_in (views k).fixed.shape (views k).claims B ≢ line) × All (λ (e : Entry). e.place ≢ Some RootWord) (views k).log.entries). by_place q.0 p e w u) phases
    where
      by_place : ((B : Block) → found (views k).fixed.shape (views k).claims B ≡ true → header_in (views k).fixed.shape (views k).claims B ≢ line) → (p : Place) → is_recorded (views k).log.records p ≡ true → owns g.geo (settled_words o g) (sight_of (views k)).hold p b ≡ true → owns g.geo (settled_words o g) gave_held p b ≡ false → ⊥
      by_place none_ (InRun d i) e w u = both_ways (owns g.geo (settled_words o g) gave_held (InRun d i) b) u (kept none_ (block_of g.geo (InRun d i) b) w)
      by_place none_ (InHuge d i) e w u = both_ways (own gave_held (Big (g.geo.first d))) u (kept none_ (Big (g.geo.first d)) w)
      by_place none_ (Descr d) e w u = both_ways (own gave_held (Big (g.geo.first d))) u (kept none_ (Big (g.geo.first d)) w)
      by_place none_ RootWord e w u = both_ways (is_recorded (views k).log.records RootWord) (ap given (root_unrecorded (views k).log.records (λ j r q. ((x.each_lane k ink).log.records j r q).4))) e

  recorded_here : (p : Place) → is_recorded (views k).log.records p ≡ true → (B : Block) → here (views k).fixed.shape (views k).claims B ≡ true → here (views k).fixed.shape (Gave line ∷ (views k).claims) B ≡ true
  recorded_here p e B h = ⊎_elim (λ (q : (views k).log.phase ≡ Idle). let z = subst (PhaseFits o.shape k (sight_of (views k)).picture (views k).log (views k).changes) q (x.each_lane k ink).log.phase in absurd (both_ways (is_recorded (views k).log.records p) (ap (λ rs. is_recorded rs p) z.0) e))
      (λ (q : ((B : Block) → found (views k).fixed.shape (views k).claims B ≡ true → header_in (views k).fixed.shape (views k).claims B ≢ line) × All (λ (e : Entry). e.place ≢ Some RootWord) (views k).log.entries). still_here q.0 B h) phases

  pub given_back : World o new views' g
  given_back = let r = relocked_by o mem views g x k ink new line false false moves.0 (subst (λ n. WordMoves k (mem (LockWord line)) n false false) (sym moves.1) (give_moves k (mem (LockWord line)) (low_lane o mem views g x k ink))) in
      let sh = (views k).fixed.shape in let c = (views k).claims in
      let fi : (B : Block) → found sh (Gave line ∷ c) B ≡ (not (line == header o.shape g.geo B) && found sh c B) = λ B. and_at_left (not (line == header_in sh c B)) (not (line == header o.shape g.geo B)) (found sh c B) (λ e. ap (λ a. not (line == a)) (header_found o mem views g x k ink B e)) in
      let hi : (B : Block) → here sh (Gave line ∷ c) B ≡ (found sh (Gave line ∷ c) B && (not (line == header o.shape g.geo B) && locked c (header o.shape g.geo B))) = λ B. and_at (found sh (Gave line ∷ c) B) (not (line == header_in sh c B) && locked c (header_in sh c B)) (not (line == header o.shape g.geo B) && locked c (header o.shape g.geo B))
      (λ e. ap (λ a. not (line == a) && locked c a) (header_found o mem views g x k ink B (and_parts (not (line == header_in sh c B)) (found sh c B) e).1)) in
      claims_step o mem new views views' g x k ink line moves.0 (Gave line ∷ c) (views k).seen t early
      (λ p b e w. ⊎_elim (λ (q : owns g.geo (settled_words o g) gave_held p b ≡ true). q) (λ (q : owns g.geo (settled_words o g) gave_held p b ≡ false). absurd (recorded_kept p b e w q)) (cases_Bool (owns g.geo (settled_words o g) gave_held p b))) recorded_here (λ p b r d y. y)
      (λ one w y e. ((x.each_lane k ink).alone one).words w y e) (λ a j ne. r.writer_else a j (inr ne)) (λ a j ne. r.reader_else a j (inr ne)) refl
      (gives o.shape o.lanes (origin o) (cells_of o.shape mem) (λ j. sight_of (views j)) (ghost_of g) x.bits k ink early line (cells_of o.shape new).writer (cells_of o.shape new).reader r (found sh (Gave line ∷ c)) (here sh (Gave line ∷ c)) fi hi
      freed undone (λ j. sight_of (views' j)) record { here = ap sight_of t.here; else_ = λ j ne. ap sight_of (t.else_ j ne) })

pub gave_back : (line : ℕ) → Keeps (Give line)
gave_back line o mem new views views' g k x ink law moves t = (given_back o mem new views views' g x k ink line law.allowed moves t, tt)
