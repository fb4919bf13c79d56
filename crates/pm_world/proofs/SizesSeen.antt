-- WHAT A LANE KNOWS OF THE SIZE OF AN OBJECT that it found fits the object's block.
use Rattle.std.proofs.Common.{◌≡◌, ◌≢◌, ℕ, ◌+◌, ◌-◌, ◌*◌, ◌/◌, ◌%◌, ◌<◌, ◌≤◌, inr, ⊎_elim, nat_le, nat_lt, Bool, true, false, not, ◌==◌, ◌&&◌, ◌||◌, refl, sym, ap, ◌∙◌, subst, arith, eqb, eq-eqb, ne_eqb, Option, None, Some}
use Rattle.std.proofs.lemmas.Bool.{and_from, and_parts, both_ways, cases_Bool, cases_eq, cases_lt, cond-false, eqb-true, false_from_ne_true, le-leb, lt-ltb, ltb-true, or_right}
use Rattle.std.proofs.Math.Nat.{mul-mod_right}
use Rattle.pm_layout.specs.Chunks.{chunks_of, word_of_chunk}
use Rattle.pm_view.specs.Claims.{class, header_in, making_of, span, found}
use Rattle.pm_view.specs.Entries.{latest, redos, turn}
use Rattle.pm_view.specs.Log.{Phase, Idle, Open, Drawn, Sealing, Applying, Clearing, Retiring, Voiding}
use Rattle.pm_view.specs.Places.{Place, InRun, InHuge, Descr, Block, Small, Big, Root, block_of, header, is_place, word_of}
use Rattle.pm_view.specs.Steps.Step.{Load}
use Rattle.pm_view.specs.View.{View}
use Rattle.pm_view.specs.Views.{after, value_in}
use Rattle.pm_world.specs.Course.{past_after}
use Rattle.pm_world.specs.InWorld.{SizesFit, SizesSeen, SizeFound, block_bytes}
use Rattle.pm_world.specs.Lanes.{is_decided, left, own, owns, sees, valid, Flies, SightFits, TurnFits, is_occupancy}
use Rattle.pm_world.specs.Lawful.{IsLawful}
use Rattle.pm_world.specs.Laws.{Turn}
use Rattle.pm_world.specs.Memory.{Memory, PoolWord, bit, cells_of}
use Rattle.pm_world.specs.Sights.{is_pictured, sight_of}
use Rattle.pm_world.specs.Sizes.{ObjectsFit, size_place, stored_size, HasRoomFor}
use Rattle.pm_world.specs.States.{State, bright, given, lit, live, over, read, shown, size_at, there, val}
use Rattle.pm_world.specs.World.{Opening, Past, Views, World, ghost_of, origin, settled_words}
use Rattle.pm_world.proofs.Basics.{val_alike}
use Rattle.pm_world.proofs.BlockLines.{run_fits}
use Rattle.pm_world.proofs.EveryStep.{every_step}
use Rattle.pm_world.proofs.Frame.{found_has, maker_no_run, own_cases}
use Rattle.pm_world.proofs.Geometry.{size_part}
use Rattle.pm_world.proofs.Known.{in_pool, place_so}
use Rattle.pm_world.proofs.Locks.{others_unlocked}
use Rattle.pm_world.proofs.SizesKept.{not_root, size_block, size_is, small_run, turned_to, turns_to}
use Rattle.pm_world.proofs.Values.{val_word}

-- before the decision a lane allocates blocks of its own alone
undecided_mine : (ph : Phase) (l m h : Bool) (a : Option Bool) → is_decided ph ≡ false → TurnFits ph l m h a → a ≡ Some true → m ≡ true
undecided_mine Idle l m h a u f e = absurd (both_ways false refl (ap given (sym f ∙ e)))
undecided_mine Open l m h None u f e = absurd (both_ways false refl (ap given e))
undecided_mine Open l m h (Some true) u f e = f
undecided_mine Open l m h (Some false) u f e = absurd (both_ways false refl (ap (λ a. over a false) e))
undecided_mine (Drawn n) l m h None u f e = absurd (both_ways false refl (ap given e))
undecided_mine (Drawn n) l m h (Some true) u f e = f.0
undecided_mine (Drawn n) l m h (Some false) u f e = absurd (both_ways false refl (ap (λ a. over a false) e))
undecided_mine (Sealing n) l m h None u f e = absurd (both_ways false refl (ap given e))
undecided_mine (Sealing n) l m h (Some true) u f e = f.0
undecided_mine (Sealing n) l m h (Some false) u f e = absurd (both_ways false refl (ap (λ a. over a false) e))
undecided_mine (Applying todo) l m h a u f e = absurd (both_ways true u refl)
undecided_mine Clearing l m h a u f e = absurd (both_ways true u refl)
undecided_mine (Retiring n) l m h a u f e = absurd (both_ways false refl (ap given (sym f ∙ e)))
undecided_mine Voiding l m h a u f e = absurd (both_ways false refl (ap given (sym f ∙ e)))

-- the header's line is one of the object's
first_lit : (size : ℕ → Bool) (l : ℕ) → l ≡ 0 → lit size l ≡ true
first_lit size l e = ap (lit size) e ∙ le-leb 0 ((val size 0 64 + 63) / 64) (omega arith)

not_logged : (lg dec : Bool) → (lg ≡ true → dec ≡ false → ⊥) → (lg && not dec) ≡ false
not_logged true true u = refl
not_logged true false u = absurd (u refl refl)
not_logged false dec u = refl

module _ (o : Opening) (mem : Memory) (views : Views) (g : Past) (k : ℕ) (x : World o mem views g) (ink : k < o.lanes) (fits : ObjectsFit o g) where
  abbrev S : State
  S = settled_words o g

  fit : (j : ℕ) → SightFits o.shape (cells_of o.shape mem) (settled_words o g) (Flies (ghost_of g) j) (ghost_of g) j (sight_of (views j))
  fit j = x.bits.each_lane j

  shape_is : (views k).fixed.shape ≡ o.shape
  shape_is = (x.each_lane k ink).shape

  -- where a block's size stands
  record IsSizeWord (B : Block) : Type 0 where
    pictured : is_pictured (size_place g.geo B) ≡ true
    placed : is_place o.shape (size_place g.geo B) ≡ true
    at : word_of (views k).fixed.shape (size_place g.geo B) ≡ 8 * header_in (views k).fixed.shape (views k).claims B + 1
    alive : live (settled_words o g) g.geo g.runs (size_place g.geo B) ≡ true

  owned : (B : Block) → (B ≢ Root) → (j b : ℕ) → owns g.geo (settled_words o g) (sight_of (views j)).hold (size_place g.geo B) b ≡ own (sight_of (views j)).hold (block_of g.geo (size_place g.geo B) b)
  owned (Small c i) ne j b = refl
  owned (Big h) ne j b = refl
  owned Root ne j b = absurd (ne refl)

  seen : (B : Block) → (B ≢ Root) → (b : ℕ) → sees g.geo (settled_words o g) (sight_of (views k)).hold (size_place g.geo B) b ≡ (sight_of (views k)).hold.found (block_of g.geo (size_place g.geo B) b)
  seen (Small c i) ne b = refl
  seen (Big h) ne b = refl
  seen Root ne b = absurd (ne refl)

  -- ---- A BLOCK THAT LANE k FOUND, by the word of its size
  module _ (B : Block) (user : B ≢ Root) (f : (sight_of (views k)).hold.found B ≡ true) where
    abbrev p : Place
    p = size_place g.geo B

    allocated : ((sight_of (views k)).hold.locked (header o.shape g.geo B) || (sight_of (views k)).hold.reads (header o.shape g.geo B)) ≡ true × (valid (ghost_of g) B ≡ true) × (there (settled_words o g) B ≡ true)
    allocated = (fit k).hold.found B f

    of_block : (b : ℕ) → block_of g.geo (size_place g.geo B) b ≡ B
    of_block = size_block o mem views g k x ink fits B allocated.1

    -- no other lane owns it
    no_maker : (j : ℕ) (C : Block) → making_of (sight_of (views j)).hold.making C ≡ true → valid (ghost_of g) C ≡ true → ⊥
    no_maker j (Small c i) e v = both_ways (g.runs c) (maker_no_run o.shape (cells_of o.shape mem) (settled_words o g) (Flies (ghost_of g) j) (ghost_of g) x.bits.geo j (sight_of (views j)) (fit j) c e) (small_run o mem views g k x ink fits c i v).0
    no_maker j (Big c) e v = both_ways false refl e
    no_maker j Root e v = both_ways false refl e

    not_others : (j : ℕ) → j ≢ k → own (sight_of (views j)).hold B ≡ false
    not_others j ne = false_from_ne_true (own (sight_of (views j)).hold B) (λ e. ⊎_elim
        (λ (m : (sight_of (views j)).hold.mine B ≡ true). both_ways (there (settled_words o g) B) ((fit j).hold.mine B m).2 allocated.2)
        (⊎_elim (λ (m : (sight_of (views j)).hold.here B ≡ true). both_ways ((sight_of (views j)).hold.locked (header o.shape g.geo B))
        (others_unlocked o.shape o.lanes (origin o) (cells_of o.shape mem) (λ i. sight_of (views i)) (ghost_of g) x.bits k ink (header o.shape g.geo B) allocated.0 j ne) ((fit j).hold.here B m).0)
        (λ (m : making_of (sight_of (views j)).hold.making B ≡ true). no_maker j B m allocated.1)) (own_cases (sight_of (views j)).hold B e))

    -- memory has the size that is settled: no entry gives it, and no store in a block that was found
    module _ (w : IsSizeWord B) where
      settled_bit : (b : ℕ) → read (cells_of o.shape mem).pool (size_place g.geo B) b ≡ settled_words o g (size_place g.geo B) b
      settled_bit b = ⊎_elim
          (λ (t : owns g.geo (settled_words o g) (sight_of (views k)).hold (size_place g.geo B) b ≡ true). ((fit k).bits (size_place g.geo B) b t).0 w.alive unapplied unlogged)
          (λ (u : owns g.geo (settled_words o g) (sight_of (views k)).hold (size_place g.geo B) b ≡ false). x.bits.unowned (size_place g.geo B) b
          (λ j. ⊎_elim (λ (e : j ≡ k). subst (λ i. owns g.geo (settled_words o g) (sight_of (views i)).hold (size_place g.geo B) b ≡ false) (sym e) u)
          (λ (ne : j ≢ k). owned B user j b ∙ (ap (own (sight_of (views j)).hold) (of_block b) ∙ not_others j ne)) (cases_eq j k)) w.alive)
          (cases_Bool (owns g.geo (settled_words o g) (sight_of (views k)).hold (size_place g.geo B) b))
        where
          unapplied : given (left (sight_of (views k)).phase (size_place g.geo B) b) ≡ false
          unapplied = by (left (sight_of (views k)).phase (size_place g.geo B) b) refl
            where
              by : (a : Option Bool) → left (sight_of (views k)).phase (size_place g.geo B) b ≡ a → given a ≡ false
              by None e = refl
              by (Some y) e = absurd (both_ways (given (latest (redos (views k).log.entries) (size_place g.geo B) b)) ((fit k).sizes (size_place g.geo B) b (size_is o mem views g k x ink fits B user allocated.1)).0
                  (ap given ((fit k).call.todo (size_place g.geo B) b y e)))

          unlogged : ((sight_of (views k)).logged (size_place g.geo B) && not (is_decided (sight_of (views k)).phase)) ≡ false
          unlogged = not_logged ((sight_of (views k)).logged (size_place g.geo B)) (is_decided (sight_of (views k)).phase) (λ l u.
              let made = ((fit k).sizes (size_place g.geo B) b (size_is o mem views g k x ink fits B user allocated.1)).1 ((fit k).stored (size_place g.geo B) b u l) in
              let mine = undecided_mine (sight_of (views k)).phase ((sight_of (views k)).hold.locked (header o.shape g.geo B)) ((sight_of (views k)).hold.mine B) ((sight_of (views k)).hold.here B) (turn (latest (redos (views k).log.entries)) B) u ((fit k).turns B)
              (ap (turn (latest (redos (views k).log.entries))) (sym (of_block b)) ∙ made) in
              both_ways (there (settled_words o g) B) ((fit k).hold.mine B mine).2 allocated.2)

      -- so the settled size is the word's
      size_is_stored : stored_size g.geo (settled_words o g) B ≡ mem (PoolWord (8 * header_in (views k).fixed.shape (views k).claims B + 1))
      size_is_stored = let at = ap (λ s. word_of s (size_place g.geo B)) (sym shape_is) ∙ w.at in
          val_alike (settled_words o g (size_place g.geo B)) (bit (mem (PoolWord (word_of o.shape (size_place g.geo B))))) 0 64 (λ b _. sym (settled_bit b) ∙ in_pool o mem views g x k ink (size_place g.geo B) b w.pictured w.placed)
          ∙ (val_word (mem (PoolWord (word_of o.shape (size_place g.geo B)))) (x.small (word_of o.shape (size_place g.geo B))) ∙ ap (λ n. mem (PoolWord n)) at)

      -- and it is what the lane knows
      known_so : (y : ℕ) → value_in (views k) (8 * header_in (views k).fixed.shape (views k).claims B + 1) ≡ Some y → mem (PoolWord (8 * header_in (views k).fixed.shape (views k).claims B + 1)) ≡ y
      known_so y e = place_so o mem views g x k ink (size_place g.geo B) (8 * header_in (views k).fixed.shape (views k).claims B + 1) y w.pictured w.placed w.at
          (λ b. inr (seen B user b ∙ (ap (sight_of (views k)).hold.found (of_block b) ∙ f))) e

      room : HasRoomFor g.geo B (mem (PoolWord (8 * header_in (views k).fixed.shape (views k).claims B + 1)))
      room = subst (HasRoomFor g.geo B) size_is_stored (fits.settled B allocated.2)

  -- ---- the word of a small block's size, and of a huge one's
  small_word : (c i : ℕ) → (sight_of (views k)).hold.found (Small c i) ≡ true → is_occupancy (views k).fixed.shape (Small c i) ≡ true → IsSizeWord (Small c i)
  small_word c i f occ = let ok = (fit k).hold.found (Small c i) f in let run = small_run o mem views g k x ink fits c i ok.1 in let cl = g.geo.class c in let w = 8 * (1 + cl * i) + 1 in
      let known : class (views k).claims c ≡ cl = (fit k).hold.class c i (found_has (sight_of (views k)).hold (Small c i) f) in
      let row = run_fits cl i run.1 in let one = run.2 in
      let low = le-leb 8 w (omega arith) in let high = lt-ltb w 512 (omega arith) in
      let inside = (and_parts (nat_lt c (chunks_of (views k).fixed.shape)) (nat_lt i 64) occ).0 in
      let number : (w / 8 - 1) / cl ≡ i = block_number cl i one in
      record {
        pictured = and_from (nat_le 8 w) (nat_lt w 512) low high;
        placed = and_from (nat_lt c (chunks_of o.shape)) (nat_lt w 512) (subst (λ s. nat_lt c (chunks_of s) ≡ true) shape_is inside) high;
        at = ap (λ n. word_of_chunk (views k).fixed.shape c + (8 * (1 + n * i) + 1)) (sym known) ∙ (let before : ℕ = class (views k).claims c * i in omega arith);
        alive = and_from (g.runs c) (shown (settled_words o g) cl c w) run.0
            (or_right (w == 0) ((nat_le 8 w && nat_lt w 512) && bright (settled_words o g) cl c ((w / 8 - 1) / cl) ((w / 8 - 1) % cl))
            (and_from (nat_le 8 w && nat_lt w 512) (bright (settled_words o g) cl c ((w / 8 - 1) / cl) ((w / 8 - 1) % cl)) (and_from (nat_le 8 w) (nat_lt w 512) low high)
            (and_from (settled_words o g (InRun c 0) ((w / 8 - 1) / cl)) (lit (settled_words o g (size_at cl c ((w / 8 - 1) / cl))) ((w / 8 - 1) % cl))
            (ap (settled_words o g (InRun c 0)) number ∙ ok.2) (first_lit (settled_words o g (size_at cl c ((w / 8 - 1) / cl))) ((w / 8 - 1) % cl) (header_line cl i)))));
      }
    where
      block_number : (cl i : ℕ) → 1 ≤ cl → ((8 * (1 + cl * i) + 1) / 8 - 1) / cl ≡ i
      block_number cl i one = sym (cond-false (eqb (8 * (1 + cl * i) + 1) 0) 64 (((8 * (1 + cl * i) + 1) / 8 - 1) / cl) (ne_eqb (8 * (1 + cl * i) + 1) 0 (λ e. omega arith))) ∙ size_part cl i 64 one

      header_line : (cl i : ℕ) → ((8 * (1 + cl * i) + 1) / 8 - 1) % cl ≡ 0
      header_line cl i = let e : (8 * (1 + cl * i) + 1) / 8 - 1 ≡ cl * i = omega arith in ap (λ n. n % cl) e ∙ mul-mod_right cl i

  huge_word : (h : ℕ) → (sight_of (views k)).hold.found (Big h) ≡ true → is_occupancy (views k).fixed.shape (Big h) ≡ true → IsSizeWord (Big h)
  huge_word h f occ = let ok = (fit k).hold.found (Big h) f in let head : g.geo.first h ≡ h = eqb-true (g.geo.first h) h ok.1 in
      let line : 64 * (h - g.geo.first h) + 1 / 8 ≡ 0 = ap (λ n. 64 * (h - n) + 1 / 8) head ∙ omega arith in
      record {
        pictured = refl;
        placed = and_from (nat_lt h (chunks_of o.shape)) true (subst (λ s. nat_lt h (chunks_of s) ≡ true) shape_is occ) refl;
        at = omega arith;
        alive = and_from (settled_words o g (Descr (g.geo.first h)) 1) (lit (settled_words o g (InHuge (g.geo.first h) 1)) (64 * (h - g.geo.first h) + 1 / 8))
            (ap (λ n. settled_words o g (Descr n) 1) head ∙ ok.2) (first_lit (settled_words o g (InHuge (g.geo.first h) 1)) (64 * (h - g.geo.first h) + 1 / 8) line);
      }

  -- what the lane knows of the block's bytes
  has_bytes : (B : Block) → (sight_of (views k)).hold.found B ≡ true → is_occupancy (views k).fixed.shape B ≡ true → (n : ℕ) → HasRoomFor g.geo B n → 64 + n ≤ block_bytes (views k) B
  has_bytes (Small c i) f occ n r = subst (λ m. 64 + n ≤ 64 * m) (sym ((fit k).hold.class c i (found_has (sight_of (views k)).hold (Small c i) f))) r
  has_bytes (Big h) f occ n r = let many : ℕ = span (views k).fixed.shape (views k).claims h in
      ⊎_elim (λ (l : 4096 * many < 64 + n). absurd (let t = sym ((fit k).hold.span h (found_has (sight_of (views k)).hold (Big h) f) (h + many)) ∙ eq-eqb (g.geo.first (h + many)) h (r many l) in
      let z = ltb-true (h + many) (h + many) (and_parts (nat_le h (h + many)) (nat_lt (h + many) (h + many)) t).1 in omega (arith, z)))
      (λ (l : 64 + n ≤ 4096 * many). l) (cases_lt (4096 * many) (64 + n))
  has_bytes Root f occ n r = absurd (both_ways false refl occ)

  -- THE SIZE IN MEMORY FITS, and so does what the lane knows of it
  pub stored_fits : (B : Block) → (sight_of (views k)).hold.found B ≡ true → is_occupancy (views k).fixed.shape B ≡ true → 64 + mem (PoolWord (8 * header_in (views k).fixed.shape (views k).claims B + 1)) ≤ block_bytes (views k) B
  stored_fits (Small c i) f occ = has_bytes (Small c i) f occ _ (room (Small c i) (not_root (Small c i) refl) f (small_word c i f occ))
  stored_fits (Big h) f occ = has_bytes (Big h) f occ _ (room (Big h) (not_root (Big h) refl) f (huge_word h f occ))
  stored_fits Root f occ = absurd (both_ways false refl occ)

  pub sizes_fit : SizesFit (views k)
  sizes_fit (Small c i) y f occ e = subst (λ n. 64 + n ≤ block_bytes (views k) (Small c i)) (known_so (Small c i) (not_root (Small c i) refl) f (small_word c i f occ) y e) (stored_fits (Small c i) f occ)
  sizes_fit (Big h) y f occ e = subst (λ n. 64 + n ≤ block_bytes (views k) (Big h)) (known_so (Big h) (not_root (Big h) refl) f (huge_word h f occ) y e) (stored_fits (Big h) f occ)
  sizes_fit Root y f occ e = absurd (both_ways false refl occ)

-- so a size that is found fits
pub size_found : SizeFound
size_found v B x f occ i = subst (λ n. 64 + n ≤ block_bytes v B) i.word (subst (λ (u : View). found u.fixed.shape u.claims B ≡ true → is_occupancy u.fixed.shape B ≡ true → 64 + i.memory (PoolWord (8 * header_in u.fixed.shape u.claims B + 1)) ≤ block_bytes u B) i.here
    (stored_fits i.opening i.memory i.views i.past v.fixed.lane i.world i.runs i.sizes B) f occ)

-- so after a look: the world goes on
pub sizes_seen : SizesSeen
sizes_seen v w x i = (
  subst SizesFit i.here (sizes_fit i.opening i.memory i.views i.past v.fixed.lane i.world i.runs i.sizes),
  subst SizesFit (turn_now.here ∙ ap (λ (u : View). after u (Load w x)) i.here) (sizes_fit i.opening i.memory (turned_to i.views v.fixed.lane (after (i.views v.fixed.lane) (Load w x))) (past_after i.past (i.views v.fixed.lane) (Load w x)) v.fixed.lane
      (every_step (Load w x) i.opening i.memory i.memory i.views (turned_to i.views v.fixed.lane (after (i.views v.fixed.lane) (Load w x))) i.past v.fixed.lane i.world i.runs lawful (λ l. refl, sym i.word) turn_now).0 i.runs i.sizes),
)
  where
    turn_now : Turn i.views (turned_to i.views v.fixed.lane (after (i.views v.fixed.lane) (Load w x))) v.fixed.lane (after (i.views v.fixed.lane) (Load w x))
    turn_now = turns_to i.views v.fixed.lane (after (i.views v.fixed.lane) (Load w x))

    lawful : IsLawful (i.views v.fixed.lane) (Load w x)
    lawful = subst (λ (u : View). IsLawful u (Load w x)) (sym i.here) (record { allowed = i.inside; due = λ u. absurd (both_ways false refl u) })
