-- A ZONE IS FILLED BY THE LANES: of its chunks as many are set, that were not at the opening, as
-- the
-- lanes got at most; and so it is in each word of the zone that a lane saw or made.
use Rattle.std.specs.Prelude.{bit_and, bit_or, unwrap_or}
use Rattle.std.specs.Int.{bit_at, bit_not, w64}
use Rattle.std.specs.List.{All}
use Rattle.std.specs.Option.{option_map}
use Rattle.std.proofs.Common.{◌≡◌, ◌≢◌, ℕ, zero, suc, ◌+◌, ◌*◌, ◌/◌, ◌%◌, ◌<◌, ◌≤◌, ⊎_elim}
use Rattle.std.proofs.Common.{Bool, true, false, cond, not, ◌==◌, ◌&&◌, List, [], ◌∷◌}
use Rattle.std.proofs.Common.{refl, sym, ap, ◌∙◌, subst, arith, Option, None, Some, eq-eqb}
use Rattle.std.proofs.lemmas.Bool.{cases_eq, eqb-true, both_ways, lt-ltb, cond-true}
use Rattle.std.proofs.lemmas.List.Elements.{All-cons, All-nil}
use Rattle.std.proofs.lemmas.Option.{none-some}
use Rattle.std.proofs.lemmas.Nat.Bits.{bit_at_and, bit_at_or, bit_at-lt, bit_at-suc, bit_at_lowest}
use Rattle.pm_layout.specs.Chunks.{chunks_of}
use Rattle.pm_view.specs.declared.occ.Occ.{Occ}
use Rattle.pm_view.specs.declared.occ.Occ.TheVariants.{Run, Zone}
use Rattle.pm_view.specs.Places.{Block, Big}
use Rattle.pm_view.specs.Claims.{ones}
use Rattle.pm_view.specs.Steps.{Step}
use Rattle.pm_view.specs.Steps.Step.{Load, Store, Or, And, Flush, Drain, TakeWrite, TakeRead}
use Rattle.pm_view.specs.Steps.Step.{Raise, Give, ZoneTry, ZoneGive, Occupied, Occupy, Vacate}
use Rattle.pm_view.specs.Steps.Step.{Draw, NumberSeen, StopSeen, SetStop, Tell}
use Rattle.pm_view.specs.View.{View, Seen, Constants}
use Rattle.pm_view.specs.Views.{after, is_same_occ, occupancy_of, occupancy_with, begun}
use Rattle.pm_view.specs.Log.{Phase, Idle, Open, Drawn, Sealing, Applying, Clearing, Retiring}
use Rattle.pm_view.specs.Log.{Voiding}
use Rattle.pm_world.specs.Lanes.{is_occupancy}
use Rattle.pm_world.specs.Memory.{Memory, RunWord, ZoneWord, occ_at, bit, cells_of}
use Rattle.pm_world.specs.Moves.{Moves}
use Rattle.pm_world.specs.Laws.{Turn}
use Rattle.pm_world.specs.Opens.{takes, idle_views}
use Rattle.pm_world.specs.World.{Opening, Views}
use Rattle.pm_world.specs.Causes.{filled, got_at, chunks_got, all_got, FilledByLanes, SeenFilled}
use Rattle.pm_world.specs.Causes.{NoSpaceHasCause}
use Rattle.pm_world.proofs.Cells.{other_sort, other_number}
use Rattle.pm_world.proofs.ClaimCounts.{rising_got, grows}
use Rattle.pm_world.proofs.WrongSteps.{occupancy_stays}

-- ---- HOW MANY BITS OF A WORD ARE SET
abbrev one : Bool → ℕ
one t = cond t 1 0

abbrev count : ℕ → ℕ → ℕ
count zero w = 0
count (suc n) w = one (bit w n) + count n w

one_bit : (w i : ℕ) → one (bit w i) ≡ bit_at w i
one_bit w i = go (bit_at w i) (bit_at-lt w i)
  where
    go : (y : ℕ) → y < 2 → one (y == 1) ≡ y
    go zero l = refl
    go (suc zero) l = refl
    go (suc (suc y)) l = absurd (omega arith)

halved : (n w : ℕ) → count (suc n) w ≡ w % 2 + count n (w / 2)
halved zero w = let a = one_bit w 0 in let b = bit_at_lowest w in omega arith
halved (suc n) w =
    let h = halved n w in let a = one_bit w (suc n) in let b = bit_at-suc w n in
    let c = one_bit (w / 2) n in omega arith

ones_count : (n w : ℕ) → ones n w ≡ count n w
ones_count zero w = refl
ones_count (suc n) w = let h = halved n w in let r = ones_count n (w / 2) in omega arith

-- ---- CHUNKS OF A ZONE THAT ARE SET, and were not at the opening
module _ (o : Opening) (zone : ℕ) where
  abbrev new_at : ℕ → ℕ → Bool
  new_at x i = bit x i && not (takes o (Big (64 * zone + i)))

  some : (a b c t : Bool) → (a ≡ true → (b ≡ true → ⊥) → c ≡ true)
      → one (a && t) ≤ one (b && t) + one c
  some true true c true u = omega arith
  some true false true true u = omega arith
  some true false false true u =
      absurd (both_ways false refl (u refl (λ e. both_ways false refl e)))
  some true b c false u = omega arith
  some false b c t u = omega arith

  -- a word with more bits, with less
  filled_more : (x y z : ℕ) → ((i : ℕ) → bit y i ≡ true → (bit x i ≡ true → ⊥) → bit z i ≡ true)
      → (n : ℕ) → filled o zone y n ≤ filled o zone x n + count n z
  filled_more x y z u zero = omega arith
  filled_more x y z u (suc n) =
      let r = filled_more x y z u n in
      let a = some (bit y n) (bit x n) (bit z n) (not (takes o (Big (64 * zone + n)))) (u n) in
      omega arith

  none_set : (n : ℕ) → count n 0 ≡ 0
  none_set n = sym (ones_count n 0) ∙ no_ones n
    where
      no_ones : (m : ℕ) → ones m 0 ≡ 0
      no_ones zero = refl
      no_ones (suc m) = let e = no_ones m in let q : 0 + ones m 0 ≡ 0 = omega arith in q

  filled_less : (x y : ℕ) → ((i : ℕ) → bit y i ≡ true → bit x i ≡ true)
      → filled o zone y 64 ≤ filled o zone x 64
  filled_less x y u =
      let a = filled_more x y 0 (λ i e ne. absurd (ne (u i e))) 64 in let b = none_set 64 in
      omega arith

or_bit : (x y i : ℕ) → bit (bit_or x y) i ≡ true → (bit x i ≡ true → ⊥) → bit y i ≡ true
or_bit x y i e ne =
    let b = bit_at_or x y i in let l = bit_at-lt x i in
    let top = eqb-true (bit_at (bit_or x y) i) 1 e in
    ⊎_elim (λ (q : bit_at x i ≡ 1). absurd (ne (eq-eqb (bit_at x i) 1 q)))
    (λ (q : bit_at x i ≢ 1). eq-eqb (bit_at y i) 1 (omega (arith, b, l, top)))
    (cases_eq (bit_at x i) 1)

and_bit : (x y i : ℕ) → bit (bit_and x y) i ≡ true → bit x i ≡ true
and_bit x y i e =
    let b = bit_at_and x y i in let l = bit_at-lt x i in let m = bit_at-lt y i in
    let top = eqb-true (bit_at (bit_and x y) i) 1 e in
    eq-eqb (bit_at x i) 1 (omega (arith, b, l, m, top))

-- bits are got, and released
filled_or : (o : Opening) (zone x bits : ℕ)
    → filled o zone (bit_or x bits) 64 ≤ filled o zone x 64 + ones 64 bits
filled_or o zone x bits =
    let a = filled_more o zone x (bit_or x bits) bits (λ i. or_bit x bits i) 64 in
    let b = ones_count 64 bits in omega arith

filled_and : (o : Opening) (zone x y : ℕ) → filled o zone (bit_and x y) 64 ≤ filled o zone x 64
filled_and o zone x y = filled_less o zone x (bit_and x y) (λ i. and_bit x y i)

-- ---- WHAT ALL LANES GOT
module _ (zone : ℕ) (views views' : Views) where
  got_more : ((j : ℕ) → chunks_got zone (views j).claims ≤ chunks_got zone (views' j).claims)
      → (n : ℕ)
      → all_got zone views n ≤ all_got zone views' n
  got_more u zero = omega arith
  got_more u (suc n) = let a = got_more u n in let b = u n in omega arith

  got_by : (k d : ℕ)
      → ((j : ℕ) → chunks_got zone (views j).claims ≤ chunks_got zone (views' j).claims)
      → chunks_got zone (views k).claims + d ≤ chunks_got zone (views' k).claims → (n : ℕ) → k < n
      → all_got zone views n + d ≤ all_got zone views' n
  got_by k d u e zero l = absurd (omega arith)
  got_by k d u e (suc n) l = ⊎_elim
      (λ (q : k ≡ n). let a = got_more u n in
      let b = subst
      (λ i. chunks_got zone (views i).claims + d ≤ chunks_got zone (views' i).claims) q e in
      omega arith)
      (λ (ne : k ≢ n). let a = got_by k d u e n (omega arith) in let b = u n in
      omega arith) (cases_eq k n)

-- what a lane saw of an occupancy word is in its list
same_occ : (a b : Occ) → is_same_occ a b ≡ true → a ≡ b
same_occ (Run p) (Run q) e = ap (λ n. Run n) (eqb-true p q e)
same_occ (Run p) (Zone q) e = absurd (both_ways false refl e)
same_occ (Zone p) (Run q) e = absurd (both_ways false refl e)
same_occ (Zone p) (Zone q) e = ap (λ n. Zone n) (eqb-true p q e)

module _ (o : Opening) (views : Views) where
  last_seen : (seen : List Seen) (at : Occ) (x : ℕ) → All (SeenFilled o views) seen
      → occupancy_of seen at ≡ Some x → SeenFilled o views (record { at = at; bits = x })
  last_seen [] at x a e = absurd (none-some x e)
  last_seen (s ∷ t) at x a e = by (is_same_occ s.at at) refl e
      (λ r. last_seen t at x (λ i d l. a (suc i) d (omega arith)) r)
    where
      by : (b : Bool) → is_same_occ s.at at ≡ b → cond b (Some s.bits) (occupancy_of t at) ≡ Some x
          → (occupancy_of t at ≡ Some x → SeenFilled o views (record { at = at; bits = x }))
          → SeenFilled o views (record { at = at; bits = x })
      by true q r u = λ zone l z. subst
          (λ y. FilledByLanes o views zone y) (ap (λ z. unwrap_or z s.bits) r)
          (a 0 s (omega arith) zone l (same_occ s.at at q ∙ z))
      by false q r u = u r

-- ---- ONE STEP of lane k
module _ (o : Opening) (old mem : Memory) (views new : Views) (k : ℕ) (ink : k < o.lanes)
    (x : NoSpaceHasCause o old views) where
  -- no lane got less
  abbrev Grown : Type 0
  Grown = (zone j : ℕ) → chunks_got zone (views j).claims ≤ chunks_got zone (new j).claims

  grown : (s : Step) → Turn views new k (after (views k) s) → Grown
  grown s t zone j = ⊎_elim
      (λ (q : j ≡ k). subst
      (λ i. chunks_got zone (views i).claims ≤ chunks_got zone (new i).claims) (sym q)
      (subst (λ v. chunks_got zone (views k).claims ≤ chunks_got zone v.claims) (sym t.here)
      (grows (chunks_got zone) (rising_got zone) (views k) s)))
      (λ (ne : j ≢ k). subst (λ v. chunks_got zone (views j).claims ≤ chunks_got zone v.claims)
      (sym (t.else_ j ne)) (omega arith)) (cases_eq j k)

  still : Grown → (zone y : ℕ) → FilledByLanes o views zone y → FilledByLanes o new zone y
  still u zone y e = let a = got_more zone views new (u zone) o.lanes in omega arith

  all_still : Grown → (seen : List Seen) → All (SeenFilled o views) seen
      → All (SeenFilled o new) seen
  all_still u seen a i d l zone inz e =
      still u zone (Rattle.std.specs.List.slice_index_or seen i d).bits (a i d l zone inz e)

  rebuilt : (s : Step) (t : Turn views new k (after (views k) s))
      → ((zone : ℕ) → zone < o.shape.zones → FilledByLanes o new zone (mem (ZoneWord zone)))
      → All (SeenFilled o new) (after (views k) s).occupancy → NoSpaceHasCause o mem new
  rebuilt s t zones seen = record {
    zones = zones;
    seen = λ j l. ⊎_elim
        (λ (q : j ≡ k). subst (λ i. All (SeenFilled o new) (new i).occupancy) (sym q)
        (subst (λ v. All (SeenFilled o new) v.occupancy) (sym t.here) seen))
        (λ (ne : j ≢ k). subst (λ v. All (SeenFilled o new) v.occupancy) (sym (t.else_ j ne))
        (all_still (grown s t) (views j).occupancy (x.seen j l))) (cases_eq j k);
  }

  -- a step that changes no occupancy word and sees none
  plain : (s : Step) (t : Turn views new k (after (views k) s))
      → ((n : ℕ) → mem (ZoneWord n) ≡ old (ZoneWord n))
      → (after (views k) s).occupancy ≡ (views k).occupancy → NoSpaceHasCause o mem new
  plain s t same q = rebuilt s t
      (λ zone l. still (grown s t) zone (mem (ZoneWord zone))
      (subst (FilledByLanes o views zone) (sym (same zone)) (x.zones zone l)))
      (subst (All (SeenFilled o new)) (sym q)
      (all_still (grown s t) (views k).occupancy (x.seen k ink)))

  -- ---- a word is loaded
  loads : (at : Occ) (found : ℕ) → Moves k (Occupied at found) old mem
      → Turn views new k (after (views k) (Occupied at found)) → NoSpaceHasCause o mem new
  loads at found m t = let u = grown (Occupied at found) t in rebuilt (Occupied at found) t
      (λ zone l. still u zone (mem (ZoneWord zone))
      (subst (FilledByLanes o views zone) (sym (m.0 (ZoneWord zone))) (x.zones zone l)))
      (All-cons (SeenFilled o new) (record { at = at; bits = found }) (views k).occupancy
      (λ zone l e. still u zone found (subst (FilledByLanes o views zone)
      (sym (m.1 ∙ ap (λ a. old (occ_at a)) e)) (x.zones zone l)))
      (all_still u (views k).occupancy (x.seen k ink)))

  -- a word that was seen is changed
  changed : (s : Step) → Turn views new k (after (views k) s) → (at : Occ) (f : ℕ → ℕ)
      → ((y : ℕ) → SeenFilled o views (record { at = at; bits = y })
      → SeenFilled o new (record { at = at; bits = f y }))
      → All (SeenFilled o new)
      (occupancy_with at (option_map f (occupancy_of (views k).occupancy at)) (views k).occupancy)
  changed s t at f w = by (occupancy_of (views k).occupancy at) refl
    where
      rest : All (SeenFilled o new) (views k).occupancy
      rest = all_still (grown s t) (views k).occupancy (x.seen k ink)

      by : (a : Option ℕ) → occupancy_of (views k).occupancy at ≡ a
          → All (SeenFilled o new) (occupancy_with at (option_map f a) (views k).occupancy)
      by None q = rest
      by (Some y) q = All-cons (SeenFilled o new) (record { at = at; bits = f y })
          (views k).occupancy
          (w y (last_seen o views (views k).occupancy at y (x.seen k ink) q)) rest

  -- ---- bits are got
  more_room : (a b c d e : ℕ) → a ≤ b → b + c ≤ d → e ≤ a + c → e ≤ d
  more_room a b c d e x y z = omega arith

  module _ (bits : ℕ) where
    abbrev more : ℕ → ℕ
    more y = bit_or y bits

    got_here : (at : Occ) → Turn views new k (after (views k) (Occupy at bits true)) → (zone y : ℕ)
        → at ≡ Zone zone → FilledByLanes o views zone y → FilledByLanes o new zone (more y)
    got_here at t zone y e a =
        let s = Occupy at bits true in
        let w : got_at zone at bits ≡ ones 64 bits =
        ap (λ a. got_at zone a bits) e
        ∙ cond-true (zone == zone) (ones 64 bits) 0 (eq-eqb zone zone refl) in
        let h : chunks_got zone (views k).claims + ones 64 bits ≤ chunks_got zone (new k).claims =
        subst (λ v. chunks_got zone (views k).claims + ones 64 bits ≤ chunks_got zone v.claims)
        (sym t.here)
        (omega arith) in
        let b = got_by zone views new k (ones 64 bits) (grown s t zone) h o.lanes ink in
        more_room (filled o zone y 64) (all_got zone views o.lanes) (ones 64 bits)
        (all_got zone new o.lanes) (filled o zone (more y) 64) a b (filled_or o zone y bits)

    got : (at : Occ) → Moves k (Occupy at bits true) old mem
        → Turn views new k (after (views k) (Occupy at bits true)) → NoSpaceHasCause o mem new
    got (Run place) m t = let s = Occupy (Run place) bits true in let u = grown s t in rebuilt s t
        (λ zone l. still u zone (mem (ZoneWord zone)) (subst (FilledByLanes o views zone)
        (sym (m.0.0 (ZoneWord zone) (other_sort (ZoneWord zone) (RunWord (place / 4096))
        (λ q. omega arith))))
        (x.zones zone l)))
        (changed s t (Run place) more
        (λ y a zone l e. got_here (Run place) t zone y e (a zone l e)))
    got (Zone z) m t = let s = Occupy (Zone z) bits true in let u = grown s t in rebuilt s t
        (λ zone l. ⊎_elim
        (λ (q : z ≡ zone). subst (FilledByLanes o new zone)
        (sym (subst (λ i. mem (ZoneWord i) ≡ more (old (ZoneWord i))) q m.0.1))
        (got_here (Zone z) t zone (old (ZoneWord zone)) (ap (λ n. Zone n) q) (x.zones zone l)))
        (λ (ne : z ≢ zone). still u zone (mem (ZoneWord zone)) (subst (FilledByLanes o views zone)
        (sym (m.0.0 (ZoneWord zone) (other_number (ZoneWord zone) (ZoneWord z) (λ q. ne (sym q)))))
        (x.zones zone l))) (cases_eq z zone))
        (changed s t (Zone z) more (λ y a zone l e. got_here (Zone z) t zone y e (a zone l e)))

  -- ---- bits are released
  module _ (bits : ℕ) where
    abbrev less : ℕ → ℕ
    less y = bit_and y (bit_not w64 bits)

    freed_here : (at : Occ) → Turn views new k (after (views k) (Vacate at bits)) → (zone y : ℕ)
        → FilledByLanes o views zone y → FilledByLanes o new zone (less y)
    freed_here at t zone y a =
        let b = still (grown (Vacate at bits) t) zone y a in
        let c = filled_and o zone y (bit_not w64 bits) in omega arith

    freed : (at : Occ) → Moves k (Vacate at bits) old mem
        → Turn views new k (after (views k) (Vacate at bits)) → NoSpaceHasCause o mem new
    freed (Run place) m t = let s = Vacate (Run place) bits in let u = grown s t in rebuilt s t
        (λ zone l. still u zone (mem (ZoneWord zone)) (subst (FilledByLanes o views zone)
        (sym (m.0 (ZoneWord zone) (other_sort (ZoneWord zone) (RunWord (place / 4096))
        (λ q. omega arith))))
        (x.zones zone l)))
        (changed s t (Run place) less
        (λ y a zone l e. freed_here (Run place) t zone y (a zone l e)))
    freed (Zone z) m t = let s = Vacate (Zone z) bits in let u = grown s t in rebuilt s t
        (λ zone l. ⊎_elim
        (λ (q : z ≡ zone). subst (FilledByLanes o new zone)
        (sym (subst (λ i. mem (ZoneWord i) ≡ less (old (ZoneWord i))) q m.1))
        (freed_here (Zone z) t zone (old (ZoneWord zone)) (x.zones zone l)))
        (λ (ne : z ≢ zone). still u zone (mem (ZoneWord zone)) (subst (FilledByLanes o views zone)
        (sym (m.0 (ZoneWord zone) (other_number (ZoneWord zone) (ZoneWord z) (λ q. ne (sym q)))))
        (x.zones zone l))) (cases_eq z zone))
        (changed s t (Zone z) less (λ y a zone l e. freed_here (Zone z) t zone y (a zone l e)))

  begins : (ph : Phase) (v : View) → (begun ph v).occupancy ≡ v.occupancy
  begins Idle v = refl
  begins Open v = refl
  begins (Drawn n) v = refl
  begins (Sealing n) v = refl
  begins (Applying todo) v = refl
  begins Clearing v = refl
  begins (Retiring n) v = refl
  begins Voiding v = refl

  -- EVERY STEP
  pub zones_kept : (s : Step) → Moves k s old mem → Turn views new k (after (views k) s)
      → NoSpaceHasCause o mem new
  zones_kept (Load w found) m t = plain (Load w found) t
      (λ n. (occupancy_stays k (Load w found) old mem m refl n).1) refl
  zones_kept (Store w y) m t = plain (Store w y) t
      (λ n. (occupancy_stays k (Store w y) old mem m refl n).1) refl
  zones_kept (Or w bits found) m t = plain (Or w bits found) t
      (λ n. (occupancy_stays k (Or w bits found) old mem m refl n).1) refl
  zones_kept (And w bits found) m t = plain (And w bits found) t
      (λ n. (occupancy_stays k (And w bits found) old mem m refl n).1) refl
  zones_kept (Flush line) m t = plain (Flush line) t
      (λ n. (occupancy_stays k (Flush line) old mem m refl n).1) refl
  zones_kept Drain m t = plain Drain t (λ n. (occupancy_stays k Drain old mem m refl n).1) refl
  zones_kept (TakeWrite line won) m t = plain (TakeWrite line won) t
      (λ n. (occupancy_stays k (TakeWrite line won) old mem m refl n).1) refl
  zones_kept (TakeRead line won) m t = plain (TakeRead line won) t
      (λ n. (occupancy_stays k (TakeRead line won) old mem m refl n).1) refl
  zones_kept (Raise line won) m t = plain (Raise line won) t
      (λ n. (occupancy_stays k (Raise line won) old mem m refl n).1) refl
  zones_kept (Give line) m t = plain (Give line) t
      (λ n. (occupancy_stays k (Give line) old mem m refl n).1) refl
  zones_kept (ZoneTry zone won) m t = plain (ZoneTry zone won) t
      (λ n. (occupancy_stays k (ZoneTry zone won) old mem m refl n).1) refl
  zones_kept (ZoneGive zone) m t = plain (ZoneGive zone) t
      (λ n. (occupancy_stays k (ZoneGive zone) old mem m refl n).1) refl
  zones_kept (Occupied at found) m t = loads at found m t
  zones_kept (Occupy at bits true) m t = got bits at m t
  zones_kept (Occupy at bits false) m t = plain (Occupy at bits false) t
      (λ n. m.0 (ZoneWord n)) refl
  zones_kept (Vacate at bits) m t = freed bits at m t
  zones_kept (Draw n) m t = plain (Draw n) t
      (λ i. (occupancy_stays k (Draw n) old mem m refl i).1) refl
  zones_kept (NumberSeen n) m t = plain (NumberSeen n) t
      (λ i. (occupancy_stays k (NumberSeen n) old mem m refl i).1)
      (begins (views k).log.phase (views k))
  zones_kept (StopSeen set) m t = plain (StopSeen set) t
      (λ n. (occupancy_stays k (StopSeen set) old mem m refl n).1) refl
  zones_kept SetStop m t = plain SetStop t
      (λ n. (occupancy_stays k SetStop old mem m refl n).1) refl
  zones_kept (Tell operation reply) m t = plain (Tell operation reply) t
      (λ n. (occupancy_stays k (Tell operation reply) old mem m refl n).1) refl

-- ---- AT THE OPENING no chunk is set that was not
module _ (o : Opening) (mem : Memory)
    (occ : (a : Block) → is_occupancy o.shape a ≡ true
    → (cells_of o.shape mem).occ a ≡ takes o a) where
  none_filled : (zone : ℕ) → zone < o.shape.zones → (n : ℕ) → n ≤ 64
      → filled o zone (mem (ZoneWord zone)) n ≡ 0
  none_filled zone l zero m = refl
  none_filled zone l (suc n) m =
      let r = none_filled zone l n (omega arith) in
      let c = 64 * zone + n in let z : c / 64 ≡ zone = omega arith in
      let i : c % 64 ≡ n = omega arith in
      let a : bit (mem (ZoneWord (c / 64))) (c % 64) ≡ takes o (Big c) =
      occ (Big c) (lt-ltb c (chunks_of o.shape) (omega arith)) in
      let b : bit (mem (ZoneWord zone)) n ≡ takes o (Big c) =
      sym (ap (λ y. bit (mem (ZoneWord y)) (c % 64)) z ∙ ap (λ y. bit (mem (ZoneWord zone)) y) i)
      ∙ a in
      let e : one (bit (mem (ZoneWord zone)) n && not (takes o (Big c))) ≡ 0 =
      ap (λ t. one (t && not (takes o (Big c)))) b ∙ neither (takes o (Big c)) in omega arith
    where
      neither : (t : Bool) → one (t && not t) ≡ 0
      neither true = refl
      neither false = refl

  pub zones_begin : (fixed : ℕ → Constants) (generation : ℕ → ℕ)
      → NoSpaceHasCause o mem (idle_views fixed generation)
  zones_begin fixed generation = record {
    zones = λ zone l. let e = none_filled zone l 64 (omega arith) in omega arith;
    seen = λ k l. All-nil (SeenFilled o (idle_views fixed generation));
  }
