-- A BLOCK THAT A LOOK MISSES has no object in the words after the entries drawn so far, whichever
-- calls are kept: no call in flight allocates it or frees it, since the looking lane holds its
-- lock.
use Rattle.std.proofs.Common.{◌≡◌, ◌≢◌, ◌⊎◌, inl, inr, ⊎_elim, ℕ, zero, suc, ◌+◌, ◌*◌, ◌/◌, ◌<◌}
use Rattle.std.proofs.Common.{Bool, true, false, cond, not, ◌==◌, ◌&&◌, ◌||◌, ◌%◌}
use Rattle.std.proofs.Common.{refl, sym, ap, ◌∙◌, subst, arith, Option, None, Some}
use Rattle.std.specs.Int.{bit_at}
use Rattle.std.proofs.lemmas.Bool.{cases_eq, cases_Bool, eqb-true, both_ways, and_parts}
use Rattle.std.proofs.lemmas.Bool.{and_right, false_from_ne_true, cond-false, not-true}
use Rattle.std.proofs.lemmas.Bool.{and_from, lt-ltb}
use Rattle.std.proofs.Math.Nat.{div-one}
use Rattle.pm_layout.specs.declared.shape.Shape.{Shape}
use Rattle.pm_layout.specs.Chunks.{chunks_of, line_of_chunk, word_of_chunk, word_of_descriptor}
use Rattle.pm_view.specs.Places.{Place, InRun, Descr, Block, Small, Big, Root, header, is_place}
use Rattle.pm_view.specs.Entries.{first_of_two, latest, turn}
use Rattle.pm_view.specs.Log.{Phase, Idle, Open, Drawn, Sealing, Applying, Clearing, Retiring}
use Rattle.pm_view.specs.Log.{Voiding, is_early}
use Rattle.pm_view.specs.Claims.{class, holds, header_in, is_run, is_huge}
use Rattle.pm_world.specs.States.{State, diff, given, val, there, replay, live, read, Cells}
use Rattle.pm_world.specs.Sights.{Sight, is_pictured, sight_of}
use Rattle.pm_world.specs.Lanes.{Ghost, own, valid, settled, TurnFits, SightFits, Flies, flies_at}
use Rattle.pm_world.specs.Lanes.{DescrFits, Bits}
use Rattle.pm_world.specs.Memory.{Memory, PoolWord, bit, huge_told, cells_of}
use Rattle.pm_world.specs.World.{Opening, Views, Past, World, origin, ghost_of, settled_words}
use Rattle.pm_world.specs.Causes.{misses_in_bitmap, misses_in_descriptor, stands, IsGone}
use Rattle.pm_world.proofs.Finds.{early_unapplied, unlogged, owner_of, run_class, there_valid}
use Rattle.pm_world.proofs.Finds.{not_others, same_descr}
use Rattle.pm_world.proofs.Frame.{small_run}
use Rattle.pm_world.proofs.Histories.{at_flight}
use Rattle.pm_world.proofs.Locks.{others_unlocked}
use Rattle.pm_world.proofs.Looks.{unpictured}
use Rattle.pm_world.proofs.Replays.{replay_same}
use Rattle.pm_world.proofs.Values.{val_from}

-- what a call in flight does to a block rests on what its lane has: it is its own, and locked; or
-- found under a write lock
flying_turn : (ph : Phase) (m : ℕ) (l own here : Bool) (a : Option Bool) → flies_at ph m
    → TurnFits ph l own here a → given a ≡ true
    → ((own ≡ true) × (l ≡ true)) ⊎ (here ≡ true)
flying_turn Idle m l w h a f t e = absurd f
flying_turn Open m l w h a f t e = absurd f
flying_turn (Drawn n) m l w h None f t e = absurd (both_ways false refl e)
flying_turn (Drawn n) m l w h (Some true) f t e = inl t
flying_turn (Drawn n) m l w h (Some false) f t e = inr t
flying_turn (Sealing n) m l w h None f t e = absurd (both_ways false refl e)
flying_turn (Sealing n) m l w h (Some true) f t e = inl t
flying_turn (Sealing n) m l w h (Some false) f t e = inr t
flying_turn (Applying todo) m l w h a f t e = absurd f
flying_turn Clearing m l w h a f t e = absurd f
flying_turn (Retiring n) m l w h a f t e = absurd (both_ways (given a) (ap given t) e)
flying_turn Voiding m l w h a f t e = absurd f

early_lands : (ph : Phase) (m : ℕ) → is_early ph ≡ true → flies_at ph m → ⊥
early_lands Idle m e f = f
early_lands Open m e f = f
early_lands (Drawn n) m e f = both_ways false refl e
early_lands (Sealing n) m e f = both_ways false refl e
early_lands (Applying todo) m e f = f
early_lands Clearing m e f = f
early_lands (Retiring n) m e f = both_ways false refl e
early_lands Voiding m e f = f

neither : (a c : Option Bool) → given a ≡ false → given c ≡ false
    → given (first_of_two a c) ≡ false
neither None c e u = u
neither (Some y) c e u = absurd (both_ways true e refl)

module _ (sh : Shape) (L : ℕ) (o : State) (cells : Cells) (sights : ℕ
    → Sight) (g : Ghost) (x : Bits sh L o cells sights g) (k : ℕ) (ink : k < L)
    (early : is_early (sights k).phase ≡ true)
    (plain : (j : ℕ) (p : Place) (b : ℕ) → is_pictured p ≡ false
    → given ((sights j).call.fresh p b) ≡ false) where
  fit : (j : ℕ) → SightFits sh cells (settled o g) (Flies g j) g j (sights j)
  fit j = x.each_lane j

  abbrev Locked : Block → Type 0
  Locked B = ((sights k).hold.locked (header sh g.geo B) || (sights k).hold.reads
      (header sh g.geo B)) ≡ true

  -- memory shows a block that is allocated and whose lock lane k holds
  in_memory : (c i : ℕ) → Locked (Small c i) → there (settled o g) (Small c i) ≡ true
      → read cells.pool (InRun c 0) i ≡ true
  in_memory c i lk t =
      let r = small_run sh cells (settled o g) (Flies g k) g x.geo k (sights k) (fit k) c i
      (x.geo.within c i t) in
      let al : live (settled o g) g.geo g.runs (InRun c 0) ≡ true =
      and_from (g.runs c) true r refl in
      ⊎_elim
      (λ (y : (j : ℕ) × (own (sights j).hold (Small c i) ≡ true)). ⊎_elim
      (λ (q : y.0 ≡ k).
      ((fit k).bits (InRun c 0) i (subst (λ j. own (sights j).hold (Small c i) ≡ true) q y.1)).0 al
      (early_unapplied (sights k).phase early (InRun c 0) i)
      (unlogged sh L o cells sights g x k ink early plain k (InRun c 0) i refl) ∙ t)
      (λ (q : y.0 ≢ k). absurd (both_ways (own (sights y.0).hold (Small c i))
      (not_others sh L o cells sights g x k ink early plain (Small c i) lk t y.0 q) y.1))
      (cases_eq y.0 k))
      (λ (y : (j : ℕ) → own (sights j).hold (Small c i) ≡ false). x.unowned (InRun c 0) i y al ∙ t)
      (owner_of sh L o cells sights g x k ink early plain (Small c i))

  module _ (B : Block) (lk : valid g B ≡ true → Locked B) where
    abbrev turn_of : ℕ → Option Bool
    turn_of j = turn (latest (sights j).call.entries) B

    -- no call that is not decided allocates it or frees it
    unturned : (m : ℕ) → m < g.length → g.decided m ≡ false → given (turn_of (g.who m)) ≡ false
    unturned m l u = let j = g.who m in let flies = x.flying m l u in
        false_from_ne_true (given (turn_of j)) (λ e.
        let ne : j ≢ k =
        λ q. early_lands (sights j).phase m (ap (λ i. is_early (sights i).phase) q
        ∙ early) flies in
        let line = header sh g.geo B in
        let free : valid g B ≡ true → (sights j).hold.locked line ≡ false =
        λ v. others_unlocked sh L o cells sights g x k ink line (lk v) j ne in
        ⊎_elim
        (λ (y : ((sights j).hold.mine B ≡ true) × ((sights j).hold.locked line ≡ true)).
        both_ways ((sights j).hold.locked line) (free ((fit j).hold.mine B y.0).1) y.1)
        (λ (y : (sights j).hold.here B ≡ true). let h = (fit j).hold.here B y in
        both_ways ((sights j).hold.locked line) (free ((fit j).hold.found B h.1).1) h.0)
        (flying_turn (sights j).phase m ((sights j).hold.locked line) ((sights j).hold.mine B)
        ((sights j).hold.here B) (turn_of j) flies ((fit j).turns B) e))

  -- what such a call makes final is its lane's
  in_flight : (m : ℕ) → m < g.length → g.decided m ≡ false → (p : Place) (b : ℕ)
      → diff (g.log m) p b ≡ diff (sights (g.who m)).call p b
  in_flight m l u = let j = g.who m in let d = diff (sights j).call in
      (at_flight (sights j).phase m d (Flies g j) (x.flying m l u) (fit j).call.flight).1

  -- so which calls are kept makes no difference
  replayed : (keep : ℕ → Bool) → ((m : ℕ) → m < g.length → g.decided m ≡ true → keep m ≡ true)
      → (p : Place) (b : ℕ)
      → ((m : ℕ) → m < g.length → g.decided m ≡ false
      → given (diff (sights (g.who m)).call p b) ≡ false)
      → replay keep o g.log g.length p b ≡ settled o g p b
  replayed keep d p b none_ = replay_same g.decided keep o g.log g.log p b g.length (λ m l. (
    refl,
    ⊎_elim (λ (y : g.decided m ≡ true). inl (d m l y ∙ sym y))
        (λ (y : g.decided m ≡ false). inr (ap given (in_flight m l y p b) ∙ none_ m l y))
        (cases_Bool (g.decided m)),
  ))

  -- ---- A BLOCK OF A RUN whose bit is clear in memory
  pub small_gone : (c i : ℕ) → (valid g (Small c i) ≡ true → Locked (Small c i))
      → (valid g (Small c i) ≡ true → read cells.pool (InRun c 0) i ≡ false) → (keep : ℕ → Bool)
      → ((m : ℕ) → m < g.length → g.decided m ≡ true → keep m ≡ true)
      → stands (replay keep o g.log g.length) (Small c i) ≡ false
  small_gone c i lk clear keep d = replayed keep d (InRun c 0) i (λ m l u. let j = g.who m in
      neither (latest (sights j).call.entries (InRun c 0) i) ((sights j).call.fresh (InRun c 0) i)
      (unturned (Small c i) lk m l u) (plain j (InRun c 0) i refl))
      ∙ false_from_ne_true (there (settled o g) (Small c i)) (λ t.
      let v = there_valid sh L o cells sights g x k ink early plain (Small c i) t in
      both_ways (read cells.pool (InRun c 0) i) (clear v) (in_memory c i (lk v) t))

  -- ---- A HUGE BLOCK whose descriptor in memory is none of one
  none_made : (a : Option Bool) (f n : ℕ) (d : ℕ → Option Bool) → DescrFits a f n d
      → given a ≡ false → (b : ℕ) → given (d b) ≡ false
  none_made None f n d t e b = t b
  none_made (Some y) f n d t e b = absurd (both_ways true e refl)

  pub big_gone : (f n : ℕ) → (valid g (Big f) ≡ true → Locked (Big f)) → is_huge n ≡ false
      → ((b : ℕ) → read cells.pool (Descr f) b ≡ (not (is_run n) && bit n b)) → (keep : ℕ → Bool)
      → ((m : ℕ) → m < g.length → g.decided m ≡ true → keep m ≡ true)
      → stands (replay keep o g.log g.length) (Big f) ≡ false
  big_gone f n lk other told keep d =
      let S = settled o g in
      let word : replay keep o g.log g.length (Descr f) ≡ S (Descr f) =
      λ i b. replayed keep d (Descr f) b (λ m l u. let j = g.who m in
      none_made (turn (latest (sights j).call.entries) (Big f)) f ((sights j).hold.span f)
      (λ c. diff (sights j).call (Descr f) c) ((fit j).call.descr f)
      (unturned (Big f) lk m l u) b) i in
      ap (λ (w : ℕ → Bool). w 1 && (val w 0 8 == 2)) word
      ∙ false_from_ne_true (S (Descr f) 1 && (val (S (Descr f)) 0 8 == 2)) (λ e.
      let y = and_parts (S (Descr f) 1) (val (S (Descr f)) 0 8 == 2) e in
      let v = there_valid sh L o cells sights g x k ink early plain (Big f) y.0 in
      let bits : (b : ℕ) → S (Descr f) b ≡ (not (is_run n) && bit n b) =
      λ b. sym (same_descr sh L o cells sights g x k ink early plain f (lk v) y.0 b) ∙ told b in
      let no_run = (and_parts (not (is_run n)) (bit n 1) (sym (bits 1) ∙ y.0)).0 in
      let is : S (Descr f) ≡ bit n =
      λ i b. (bits b ∙ ap (λ t. t && bit n b) no_run) i in
      let low : val (bit n) 0 8 ≡ n % 256 = val_from n 0 8 ∙ ap (λ z. z % 256) (div-one n) in
      both_ways (is_huge n) other (ap (λ z. z == 2) (sym low ∙ ap (λ w. val w 0 8) (sym is))
      ∙ y.1))

-- ---- WHAT A LOAD SHOWS
module _ (o : Opening) (mem : Memory) (views : Views) (g : Past) (x : World o mem views g) (k : ℕ)
    (ink : k < o.lanes) (early : is_early (views k).log.phase ≡ true) where
  abbrev Gone : Block → Type 0
  Gone B = IsGone o g g.length B

  small : (c i : ℕ)
      → (valid (ghost_of g) (Small c i) ≡ true
      → holds (views k).claims (header o.shape g.geo (Small c i)) ≡ true)
      → (valid (ghost_of g) (Small c i) ≡ true
      → read (cells_of o.shape mem).pool (InRun c 0) i ≡ false)
      → Gone (Small c i)
  small c i lk clear = small_gone o.shape o.lanes (origin o) (cells_of o.shape mem)
      (λ j. sight_of (views j)) (ghost_of g) x.bits k ink early
      (unpictured o mem views g x k ink early) c i lk clear

  class_of_run : (c : ℕ) → g.runs c ≡ true → (cells_of o.shape mem).descr c ≡ g.geo.class c
  class_of_run c r = run_class o.shape o.lanes (origin o) (cells_of o.shape mem)
      (λ j. sight_of (views j)) (ghost_of g) x.bits k ink early
      (unpictured o mem views g x k ink early) c r

  run_of : (c i : ℕ) → valid (ghost_of g) (Small c i) ≡ true → g.runs c ≡ true
  run_of c i v = small_run o.shape (cells_of o.shape mem) (settled_words o g)
      (Flies (ghost_of g) k) (ghost_of g) x.bits.geo k (sight_of (views k))
      (x.bits.each_lane k) c i v

  known_class : (c i n : ℕ) → class (views k).claims c ≡ n → not (n == 0) ≡ true
      → valid (ghost_of g) (Small c i) ≡ true → n ≡ g.geo.class c
  known_class c i zero e z v = absurd (both_ways false refl z)
  known_class c i (suc n) e z v = sym ((x.bits.each_lane k).hold.seen c n e)
      ∙ class_of_run c (run_of c i v)

  not_set : (a b : Bool) → b ≡ false → (a && b) ≡ false
  not_set a b e = and_right a b e

  -- of a run's block its bit in the bitmap is clear, under its lock
  pub bitmap_misses : (c n : ℕ) → n ≡ mem (PoolWord (word_of_chunk o.shape c)) → (B : Block)
      → misses_in_bitmap o.shape (views k).claims c n B ≡ true → Gone B
  bitmap_misses c n word (Small d i) e = let t = (views k).claims in
      let line = header_in o.shape t (Small d i) in
      let y = and_parts (d == c)
      (not (bit_at n i == 1) && (not (class t d == 0) && holds t line)) e in
      let z = and_parts (not (bit_at n i == 1)) (not (class t d == 0) && holds t line) y.1 in
      let w = and_parts (not (class t d == 0)) (holds t line) z.1 in
      small d i
      (λ v. ap (λ m. holds t (line_of_chunk o.shape d + (1 + m * i)))
      (sym (known_class d i (class t d) refl w.0 v)) ∙ w.1)
      (λ v. not_set (is_place o.shape (InRun d 0))
      (bit (mem (PoolWord (word_of_chunk o.shape d + 0))) i)
      (ap (λ u. bit (mem (PoolWord u)) i) (let q = eqb-true d c y.0 in
      let r : word_of_chunk o.shape d + 0 ≡ word_of_chunk o.shape d = omega arith in r
      ∙ ap (word_of_chunk o.shape) q)
      ∙ (ap (λ u. bit u i) (sym word) ∙ not-true (bit_at n i == 1) z.0)))
  bitmap_misses c n word (Big f) e = absurd (both_ways false refl e)
  bitmap_misses c n word Root e = absurd (both_ways false refl e)

  -- the chunk is no run; or the descriptor is no huge block's, under the block's lock
  pub descriptor_misses : (c n : ℕ) → c < chunks_of o.shape
      → n ≡ mem (PoolWord (word_of_descriptor o.shape c)) → (B : Block)
      → misses_in_descriptor o.shape (views k).claims c n B ≡ true → Gone B
  descriptor_misses c n inside word (Small d i) e = let y =
      and_parts (d == c) (not (is_run n)) e in let q = eqb-true d c y.0 in
      let none_ : valid (ghost_of g) (Small d i) ≡ true → ⊥ = λ v. let r = run_of d i v in
      let one = (x.bits.geo.classes d r).0 in
      let told : (cells_of o.shape mem).descr d ≡ 0 = ap (cells_of o.shape mem).descr q ∙ no_run in
      let a = class_of_run d r in omega arith in
      small d i (λ v. absurd (none_ v)) (λ v. absurd (none_ v))
    where
      told_at : (a b : Bool) (m : ℕ) → b ≡ false → cond a (cond b m 0) 0 ≡ 0
      told_at true b m e = cond-false b m 0 e
      told_at false b m e = refl

      no_run : (cells_of o.shape mem).descr c ≡ 0
      no_run = let y = and_parts (d == c) (not (is_run n)) e in
          let w = mem (PoolWord (word_of_descriptor o.shape c)) in
          told_at (is_place o.shape (Descr c)) (is_run w) (w / 256) (ap is_run (sym word)
          ∙ not-true (is_run n) y.1)
  descriptor_misses c n inside word (Big f) e = let t = (views k).claims in
      let y = and_parts (f == c) (not (is_huge n) && holds t (header_in o.shape t (Big f))) e in
      let z = and_parts (not (is_huge n)) (holds t (header_in o.shape t (Big f))) y.1 in
      let q = eqb-true f c y.0 in
      let told : (b : ℕ)
      → read (cells_of o.shape mem).pool (Descr f) b ≡ (not (is_run n) && bit n b) =
      λ b. ap (λ t. t && huge_told (mem (PoolWord (word_of_descriptor o.shape f))) b)
      (lt-ltb f (chunks_of o.shape) (subst (λ i. i < chunks_of o.shape) (sym q) inside))
      ∙ ap (λ m. huge_told m b) (ap (λ i. mem (PoolWord (word_of_descriptor o.shape i))) q
      ∙ sym word) in
      big_gone o.shape o.lanes (origin o) (cells_of o.shape mem) (λ j. sight_of (views j))
      (ghost_of g) x.bits k ink early (unpictured o mem views g x k ink early) f n (λ v. z.1)
      (not-true (is_huge n) z.0) told
  descriptor_misses c n inside word Root e = absurd (both_ways false refl e)
