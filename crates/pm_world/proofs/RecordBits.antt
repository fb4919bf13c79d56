-- What a lane records of a word is what is settled of it: the word is in a line that its object has, and no record of it is drained.
use Rattle.std.specs.Option.{option_map}
use Rattle.std.proofs.Common.{◌≡◌, ℕ, ◌+◌, ◌-◌, ◌*◌, ◌/◌, ◌%◌, ◌^◌, ◌<◌, ◌≤◌, nat_le, nat_lt, true, false, ◌==◌, ◌&&◌, ◌||◌, refl, sym, ap, ◌∙◌, subst, arith, eq-eqb, ne_eqb, None, Some}
use Rattle.std.proofs.lemmas.Bool.{leb-true, ltb-true, le-leb, lt-ltb, and_from, or_right, cond-true, cond-false, false_from_ne_true}
use Rattle.std.proofs.Math.Nat.{mod-eq-sub-mul-div, mul-div-le, mul-mod_right}
use Rattle.pm_layout.specs.declared.shape.Shape.{Shape}
use Rattle.pm_view.specs.Claims.{class, first, pictured, geometry}
use Rattle.pm_view.specs.Entries.{latest, turn}
use Rattle.pm_view.specs.Founds.{knows}
use Rattle.pm_view.specs.Log.{Open}
use Rattle.pm_view.specs.Places.{Place, InRun, InHuge, Descr, Block, Small, Big, part, block_of, header, is_data, word_of}
use Rattle.pm_view.specs.View.{View}
use Rattle.pm_world.specs.States.{State, Diff, val, lit, size_at, bright, shown, bright_huge, live, read, Cells}
use Rattle.pm_world.specs.Sights.{Sight, is_pictured, call_in, sight_of}
use Rattle.pm_world.specs.Lanes.{Ghost, own, owns, TurnBefore, is_size, SightFits, GeoFits}
use Rattle.pm_world.specs.Lawful.{offset_in, size_in}
use Rattle.pm_world.specs.Memory.{bit}
use Rattle.pm_world.proofs.Basics.{some_cond}
use Rattle.pm_world.proofs.Entering.{huge_known, not_both}
use Rattle.pm_world.proofs.Frame.{here_own, own_has, small_run}
use Rattle.pm_world.proofs.Geometry.{size_part}
use Rattle.pm_world.proofs.Values.{val_word}

in_line : (n cl : ℕ) → n ≡ cl * (n / cl) + n % cl
in_line n cl = let a = mod-eq-sub-mul-div n cl in let b = mul-div-le n cl in omega arith

module _ (sh : Shape) (cells : Cells) (S : State) (flies : ℕ → Diff → Type 0) (g : Ghost) (geo : GeoFits sh S g) (k : ℕ) (v : View) (f : SightFits sh cells S flies g k (record (sight_of v) { phase = Open }))
    (small : (p : Place) (y : ℕ) → is_data p ≡ true → ((b : ℕ) → read cells.pool p b ≡ bit y b) → y < 2 ^ 64) where
  abbrev x : Sight
  x = record (sight_of v) { phase = Open }

  told : (p : Place) (y : ℕ) → is_pictured p ≡ true → knows v (word_of v.fixed.shape p) ≡ Some y → (b : ℕ) → (sight_of v).picture p b ≡ Some (bit y b)
  told p y t e b = cond-true (is_pictured p) (option_map (λ z. bit z b) (pictured v.fixed.shape v.claims (word_of v.fixed.shape p))) None t
      ∙ ap (option_map (λ z. bit z b)) (some_cond (Rattle.pm_view.specs.View.runs_one v || Rattle.pm_view.specs.Claims.is_held v.fixed.shape v.claims (word_of v.fixed.shape p)) (pictured v.fixed.shape v.claims (word_of v.fixed.shape p)) y e)

  -- of a living word that the lane owns and knows, under no drained record, the settled value is the known one
  pub settled_known : (p : Place) (y : ℕ) → is_pictured p ≡ true → knows v (word_of v.fixed.shape p) ≡ Some y → live S g.geo g.runs p ≡ true → (sight_of v).logged p ≡ false → (b : ℕ) → owns g.geo S (sight_of v).hold p b ≡ true → (S p b ≡ bit y b) × (read cells.pool p b ≡ bit y b)
  settled_known p y t e al lg b o = let z = f.bits p b o in let m = z.3 (bit y b) (told p y t e b) in (sym (z.0 al refl (ap (λ q. q && true) lg)) ∙ m, m)

  -- an object's size is under no drained record
  unlogged_size : (p : Place) (B : Block) → is_size g.geo p ≡ true → block_of g.geo p 0 ≡ B → (sight_of v).hold.here B ≡ true → (sight_of v).logged p ≡ false
  unlogged_size p B s e h = false_from_ne_true ((sight_of v).logged p) (λ t. let turned = subst (λ C. turn (latest (call_in v).entries) C ≡ Some true) e ((f.sizes p 0 s).1 (f.stored p 0 refl t)) in
      not_both sh cells S flies g geo k v f B (subst (TurnBefore ((sight_of v).hold.locked (header sh g.geo B)) ((sight_of v).hold.mine B) ((sight_of v).hold.here B)) turned (f.turns B)) h)

  -- ---- of a run's block
  module _ (c u : ℕ) (low : nat_le 8 u ≡ true) (high : nat_lt u 512 ≡ true) (found : (sight_of v).hold.here (Small c (part (class v.claims c) u 64)) ≡ true) where
    cl : ℕ
    cl = g.geo.class c

    i : ℕ
    i = (u / 8 - 1) / g.geo.class c

    known : class v.claims c ≡ g.geo.class c
    known = f.hold.class c (part (class v.claims c) u 64) (own_has (sight_of v).hold (Small c (part (class v.claims c) u 64)) (here_own (sight_of v).hold (Small c (part (class v.claims c) u 64)) found))

    from : 8 ≤ u
    from = leb-true 8 u low

    to : u < 512
    to = ltb-true u 512 high

    at : (b : ℕ) → part (g.geo.class c) u b ≡ (u / 8 - 1) / g.geo.class c
    at b = let l = from in cond-false (u == 0) b ((u / 8 - 1) / g.geo.class c) (ne_eqb u 0 (λ e. omega arith))

    here_ : (sight_of v).hold.here (Small c ((u / 8 - 1) / g.geo.class c)) ≡ true
    here_ = subst (λ n. (sight_of v).hold.here (Small c n) ≡ true) (ap (λ n. part n u 64) known ∙ at 64) found

    runs_ : g.runs c ≡ true
    runs_ = small_run sh cells S flies g geo k (record (sight_of v) { phase = Open }) f c ((u / 8 - 1) / g.geo.class c) (f.hold.found (Small c ((u / 8 - 1) / g.geo.class c)) (f.hold.here (Small c ((u / 8 - 1) / g.geo.class c)) here_).1).1

    there_ : S (InRun c 0) ((u / 8 - 1) / g.geo.class c) ≡ true
    there_ = (f.hold.found (Small c ((u / 8 - 1) / g.geo.class c)) (f.hold.here (Small c ((u / 8 - 1) / g.geo.class c)) here_).1).2

    one : 1 ≤ g.geo.class c
    one = (geo.classes c runs_).0

    abbrev ws : ℕ
    ws = 8 * (1 + g.geo.class c * ((u / 8 - 1) / g.geo.class c)) + 1

    size_low : 8 * (1 + g.geo.class c * ((u / 8 - 1) / g.geo.class c)) + 1 < 512
    size_low = let a = mul-div-le (u / 8 - 1) (g.geo.class c) in let l = from in let h = to in omega arith

    size_line : (8 * (1 + g.geo.class c * ((u / 8 - 1) / g.geo.class c)) + 1) / 8 - 1 ≡ g.geo.class c * ((u / 8 - 1) / g.geo.class c)
    size_line = omega arith

    size_block : (b : ℕ) → block_of g.geo (size_at (g.geo.class c) c ((u / 8 - 1) / g.geo.class c)) b ≡ Small c ((u / 8 - 1) / g.geo.class c)
    size_block b = ap (λ n. Small c n) (size_part (g.geo.class c) ((u / 8 - 1) / g.geo.class c) b one)

    size_is : is_size g.geo (size_at (g.geo.class c) c ((u / 8 - 1) / g.geo.class c)) ≡ true
    size_is = and_from (nat_le 8 ws) (((ws / 8 - 1) % g.geo.class c == 0) && (ws % 8 == 1)) (le-leb 8 ws (omega arith))
        (and_from ((ws / 8 - 1) % g.geo.class c == 0) (ws % 8 == 1) (eq-eqb ((ws / 8 - 1) % g.geo.class c) 0 (ap (λ n. n % g.geo.class c) size_line ∙ mul-mod_right (g.geo.class c) ((u / 8 - 1) / g.geo.class c))) (eq-eqb (ws % 8) 1 (omega arith)))

    size_alive : live S g.geo g.runs (size_at (g.geo.class c) c ((u / 8 - 1) / g.geo.class c)) ≡ true
    size_alive = let n = (ws / 8 - 1) / g.geo.class c in let l = (ws / 8 - 1) % g.geo.class c in
        let e : n ≡ (u / 8 - 1) / g.geo.class c = sym (cond-false (ws == 0) 0 n (ne_eqb ws 0 (λ q. omega arith))) ∙ size_part (g.geo.class c) ((u / 8 - 1) / g.geo.class c) 0 one in
        let z : l ≡ 0 = ap (λ y. y % g.geo.class c) size_line ∙ mul-mod_right (g.geo.class c) ((u / 8 - 1) / g.geo.class c) in
        and_from (g.runs c) (shown S (g.geo.class c) c ws) runs_ (or_right (ws == 0) ((nat_le 8 ws && nat_lt ws 512) && bright S (g.geo.class c) c n l)
        (and_from (nat_le 8 ws && nat_lt ws 512) (bright S (g.geo.class c) c n l) (and_from (nat_le 8 ws) (nat_lt ws 512) (le-leb 8 ws (omega arith)) (lt-ltb ws 512 size_low))
        (and_from (S (InRun c 0) n) (lit (S (size_at (g.geo.class c) c n)) l) (ap (S (InRun c 0)) e ∙ there_) (le-leb l ((val (S (size_at (g.geo.class c) c n)) 0 64 + 63) / 64) (omega arith)))))

    -- the word is alive, where its line is one that the object has
    pub run_alive : (size : ℕ) → knows v (size_in v (InRun c u)) ≡ Some size → offset_in v (InRun c u) / 8 ≤ (size + 63) / 64 → live S g.geo g.runs (InRun c u) ≡ true
    run_alive size e within = let p = size_at (g.geo.class c) c ((u / 8 - 1) / g.geo.class c) in let l = (u / 8 - 1) % g.geo.class c in
        let e' : knows v (word_of v.fixed.shape p) ≡ Some size = ap (λ n. knows v (Rattle.pm_layout.specs.Chunks.word_of_chunk v.fixed.shape c + (8 * (1 + n * ((u / 8 - 1) / n)) + 1))) (sym known) ∙ e in
        let lg = unlogged_size p (Small c ((u / 8 - 1) / g.geo.class c)) size_is (size_block 0) here_ in
        let both : (b : ℕ) → (S p b ≡ bit size b) × (read cells.pool p b ≡ bit size b) = λ b. settled_known p size (and_from (nat_le 8 ws) (nat_lt ws 512) (le-leb 8 ws (omega arith)) (lt-ltb ws 512 size_low)) e' size_alive lg b
        (subst (λ B. own (sight_of v).hold B ≡ true) (sym (size_block b)) (here_own (sight_of v).hold (Small c ((u / 8 - 1) / g.geo.class c)) here_)) in
        let s : val (S p) 0 64 ≡ size = ap (λ w. val w 0 64) (let q : S p ≡ bit size = λ t b. (both b).0 t in q) ∙ val_word size (small p size (le-leb 8 ws (omega arith)) (λ b. (both b).1)) in
        let line = in_line (u / 8 - 1) (g.geo.class c) in
        let off : offset_in v (InRun c u) / 8 ≡ l = ap (λ n. (u - 8 * (1 + n * ((u / 8 - 1) / n))) / 8) known ∙ (let a = from in omega arith) in
        and_from (g.runs c) (shown S (g.geo.class c) c u) runs_ (or_right (u == 0) ((nat_le 8 u && nat_lt u 512) && bright S (g.geo.class c) c ((u / 8 - 1) / g.geo.class c) l)
        (and_from (nat_le 8 u && nat_lt u 512) (bright S (g.geo.class c) c ((u / 8 - 1) / g.geo.class c) l) (and_from (nat_le 8 u) (nat_lt u 512) low high)
        (and_from (S (InRun c 0) ((u / 8 - 1) / g.geo.class c)) (lit (S p) l) there_ (le-leb l ((val (S p) 0 64 + 63) / 64) (subst (λ y. l ≤ (y + 63) / 64) (sym s) (subst (λ y. y ≤ (size + 63) / 64) off within))))))

  -- ---- of a huge block
  module _ (c u : ℕ) (high : nat_lt u 512 ≡ true) (found : (sight_of v).hold.here (Big (first v.fixed.shape v.claims c)) ≡ true) where
    first_is : first v.fixed.shape v.claims c ≡ g.geo.first c
    first_is = huge_known sh cells S flies g geo k v f c (own_has (sight_of v).hold (Big (first v.fixed.shape v.claims c)) (here_own (sight_of v).hold (Big (first v.fixed.shape v.claims c)) found))

    big_here : (sight_of v).hold.here (Big (g.geo.first c)) ≡ true
    big_here = subst (λ n. (sight_of v).hold.here (Big n) ≡ true) first_is found

    big_there : S (Descr (g.geo.first c)) 1 ≡ true
    big_there = (f.hold.found (Big (g.geo.first c)) (f.hold.here (Big (g.geo.first c)) big_here).1).2

    twice : g.geo.first (g.geo.first c) ≡ g.geo.first c
    twice = geo.twice c

    pub huge_alive : (size : ℕ) → knows v (size_in v (InHuge c u)) ≡ Some size → offset_in v (InHuge c u) / 8 ≤ (size + 63) / 64 → live S g.geo g.runs (InHuge c u) ≡ true
    huge_alive size e within = let y = g.geo.first c in let p = InHuge y 1 in let l = 64 * (c - y) + u / 8 in
        let e' : knows v (word_of v.fixed.shape p) ≡ Some size = ap (λ n. knows v (Rattle.pm_layout.specs.Chunks.word_of_chunk v.fixed.shape n + 1)) (sym first_is) ∙ e in
        let s : is_size g.geo p ≡ true = and_from (g.geo.first y == y) true (eq-eqb (g.geo.first y) y twice) refl in
        let alive : live S g.geo g.runs p ≡ true = subst (λ n. bright_huge S n (64 * (y - n) + 1 / 8) ≡ true) (sym twice) (and_from (S (Descr y) 1) (lit (S (InHuge y 1)) (64 * (y - y) + 1 / 8)) big_there (le-leb (64 * (y - y) + 1 / 8) ((val (S (InHuge y 1)) 0 64 + 63) / 64) (omega arith))) in
        let lg = unlogged_size p (Big y) s (ap (λ n. Big n) twice) big_here in
        let both : (b : ℕ) → (S p b ≡ bit size b) × (read cells.pool p b ≡ bit size b) = λ b. settled_known p size refl e' alive lg b (subst (λ n. own (sight_of v).hold (Big n) ≡ true) (sym twice) (here_own (sight_of v).hold (Big y) big_here)) in
        let w : val (S p) 0 64 ≡ size = ap (λ a. val a 0 64) (let q : S p ≡ bit size = λ t b. (both b).0 t in q) ∙ val_word size (small p size refl (λ b. (both b).1)) in
        let off : offset_in v (InHuge c u) / 8 ≡ l = ap (λ n. (512 * (c - n) + u) / 8) first_is ∙ omega arith in
        and_from (nat_lt u 512) (bright_huge S y l) high (and_from (S (Descr y) 1) (lit (S p) l) big_there (le-leb l ((val (S p) 0 64 + 63) / 64) (subst (λ n. l ≤ (n + 63) / 64) (sym w) (subst (λ n. n ≤ (size + 63) / 64) off within))))
