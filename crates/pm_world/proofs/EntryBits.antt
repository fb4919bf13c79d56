-- The bits of an entry that a lane may store: they are its own, of no run in the making, of no object's size, and allocate or free a block that the lane has.
use Rattle.std.specs.Prelude.{IsTrue, IsSomeAnd}
use Rattle.std.specs.Int.{bit_at}
use Rattle.std.proofs.Common.{◌≡◌, ℕ, zero, suc, ◌+◌, ◌-◌, ◌*◌, ◌/◌, ◌%◌, ◌^◌, ◌<◌, ◌⊎◌, inl, inr, ⊎_elim, nat_le, nat_lt, Bool, true, false, cond, ◌==◌, ◌&&◌, refl, sym, ap, ◌∙◌, subst, arith, ne_eqb, Option, None, Some}
use Rattle.std.proofs.lemmas.Bool.{cases_Bool, eqb-true, leb-true, lt-ltb, both_ways, and_parts, cond-true, cond-false, false_from_ne_true}
use Rattle.std.proofs.lemmas.Nat.Bits.{bit_at-zero}
use Rattle.std.proofs.Math.Nat.{mod-eq-sub-mul-div, mul-div-le, mod-eq_of_lt}
use Rattle.pm_layout.specs.declared.shape.Shape.{Shape}
use Rattle.pm_record.specs.declared.redo.Op.{Op}
use Rattle.pm_record.specs.declared.redo.Op.TheVariants.{Set}
use Rattle.pm_view.specs.Claims.{class, span, geometry}
use Rattle.pm_view.specs.Entries.{delta, given_bit, op_bit, turn}
use Rattle.pm_view.specs.Log.{Open}
use Rattle.pm_view.specs.Places.{Place, InRun, InHuge, Descr, RootWord, Block, Small, Big, Root, Geometry, part, block_of, is_data, in_span, same_place, word_of}
use Rattle.pm_view.specs.View.{View}
use Rattle.pm_view.specs.Views.{value_in}
use Rattle.pm_world.specs.States.{State, Diff, given, over, spans, Cells}
use Rattle.pm_world.specs.Sights.{sight_of}
use Rattle.pm_world.specs.Lanes.{Ghost, own, has, owns, is_in_making, TurnBefore, DescrFits, is_size, SightFits, GeoFits}
use Rattle.pm_world.specs.Lawful.{offset_in, is_guarded, HoldsRoot, MayChangeAt, IsOwnData, EntersAt, EntersDescriptor}
use Rattle.pm_world.specs.Memory.{bit}
use Rattle.pm_world.proofs.Basics.{given_cond, some_of, val_alike}
use Rattle.pm_world.proofs.Entering.{added, Enters, block_known, huge_known}
use Rattle.pm_world.proofs.Frame.{mine_own, here_own, own_has, making_own, big_valid, maker_no_run, small_run}
use Rattle.pm_world.proofs.PlacesAt.{HasUse, same_place_true}
use Rattle.pm_world.proofs.Values.{val_from}

-- all bits of a data word are of one block
pub data_bit : (G : Geometry) (p : Place) (b : ℕ) → is_data p ≡ true → block_of G p b ≡ block_of G p 64
data_bit G (InRun c u) b d = let l = leb-true 8 u d in let z = ne_eqb u 0 (λ e. omega arith) in ap (λ t. Small c t) (cond-false (u == 0) b ((u / 8 - 1) / G.class c) z ∙ sym (cond-false (u == 0) 64 ((u / 8 - 1) / G.class c) z))
data_bit G (InHuge c u) b d = refl
data_bit G (Descr c) b d = refl
data_bit G RootWord b d = refl

turn_cond : (t m h : Bool) (y : Option Bool) → (t ≡ true → TurnBefore false m h y) → TurnBefore false m h (cond t y None)
turn_cond true m h y f = f refl
turn_cond false m h y f = tt

turn_from : (m h : Bool) (y : Option Bool) → ((z : Bool) → y ≡ Some z → (z ≡ true → m ≡ true) × (z ≡ false → h ≡ true)) → TurnBefore false m h y
turn_from m h None f = tt
turn_from m h (Some true) f = (f true refl).0 refl
turn_from m h (Some false) f = (f false refl).1 refl

line_of : (n cl : ℕ) → n % cl ≡ 0 → cl * (n / cl) ≡ n
line_of n cl e = let a = mod-eq-sub-mul-div n cl in let b = mul-div-le n cl in omega arith

-- what a descriptor that is set tells
set_huge : (value y n : ℕ) → value < 2 ^ 64 → value ≡ 2 + 256 * n → DescrFits (given_bit Set value 1) y n (given_bit Set value)
set_huge value y n l e = subst (λ a. DescrFits a y n (given_bit Set value)) (sym one) told
  where
    one : given_bit Set value 1 ≡ Some true
    one = ap (λ t. Some (t == 1)) (let q : bit_at value 1 ≡ 1 = omega arith in q)

    told : (c : ℕ) → spans (λ b. over (given_bit Set value b) false) y c ≡ in_span y n c
    told c = ap (λ t. in_span y t c) (val_alike (λ b. over (given_bit Set value b) false) (bit value) 8 56 (λ b s. ap (λ t. over t false) (cond-true (nat_lt b 64) (op_bit Set value b) None (lt-ltb b 64 (omega arith))))
        ∙ (val_from value 8 56 ∙ (ap (λ t. t % 2 ^ 56) (let q : value / 2 ^ 8 ≡ n = omega arith in q) ∙ mod-eq_of_lt (omega arith))))

set_none : (value y n : ℕ) → value ≡ 0 → DescrFits (given_bit Set value 1) y n (given_bit Set value)
set_none value y n e = subst (λ x. DescrFits (given_bit Set x 1) y n (given_bit Set x)) (sym e) (λ b l. cond-true (nat_lt b 64) (op_bit Set 0 b) None (lt-ltb b 64 l) ∙ ap (λ t. Some (t == 1)) (bit_at-zero b))

module _ (sh : Shape) (cells : Cells) (S : State) (flies : ℕ → Diff → Type 0) (g : Ghost) (geo : GeoFits sh S g) (k : ℕ) (v : View) (f : SightFits sh cells S flies g k (record (sight_of v) { phase = Open }))
    (root : (x : ℕ) → value_in v (word_of v.fixed.shape RootWord) ≡ Some x → HoldsRoot v x → (b : ℕ) → owns g.geo S (sight_of v).hold RootWord b ≡ true) where
  known : (p : Place) (b : ℕ) → has (sight_of v).hold (block_of (geometry v.fixed.shape v.claims) p b) ≡ true → block_of (geometry v.fixed.shape v.claims) p b ≡ block_of g.geo p b
  known = block_known sh cells S flies g geo k v f

  here_has : (B : Block) → (sight_of v).hold.here B ≡ true → has (sight_of v).hold B ≡ true
  here_has B e = own_has (sight_of v).hold B (here_own (sight_of v).hold B e)

  mine_has : (B : Block) → (sight_of v).hold.mine B ≡ true → has (sight_of v).hold B ≡ true
  mine_has B e = own_has (sight_of v).hold B (mine_own (sight_of v).hold B e)

  -- a data word in a block that the lane owns
  pub data_owned : (p : Place) (b : ℕ) → is_data p ≡ true → own (sight_of v).hold (block_of (geometry v.fixed.shape v.claims) p 64) ≡ true → owns g.geo S (sight_of v).hold p b ≡ true
  data_owned p b d o = go p d (subst (λ B. own (sight_of v).hold B ≡ true) (known p 64 (own_has (sight_of v).hold (block_of (geometry v.fixed.shape v.claims) p 64) o) ∙ sym (data_bit g.geo p b d)) o)
    where
      go : (p : Place) → is_data p ≡ true → own (sight_of v).hold (block_of g.geo p b) ≡ true → owns g.geo S (sight_of v).hold p b ≡ true
      go (InRun c u) d o = o
      go (InHuge c u) d o = o
      go (Descr c) d o = absurd (both_ways false refl d)
      go RootWord d o = absurd (both_ways false refl d)

  -- a word that the lane knows in its huge use is in no run that it makes
  pub huge_plain : (c : ℕ) → class v.claims c ≡ 0 → (sight_of v).hold.making c ≡ false
  huge_plain c z = false_from_ne_true ((sight_of v).hold.making c) (λ m. let q = f.hold.making c m in let e = f.hold.class c 0 (own_has (sight_of v).hold (Small c 0) (making_own (sight_of v).hold c 0 m)) in let one = q.2 in omega arith)

  pub run_plain : (c i : ℕ) → (sight_of v).hold.mine (Small c i) ≡ true → (sight_of v).hold.making c ≡ false
  run_plain c i m = false_from_ne_true ((sight_of v).hold.making c) (λ y. both_ways (g.runs c) (maker_no_run sh cells S flies g geo k (record (sight_of v) { phase = Open }) f c y) (small_run sh cells S flies g geo k (record (sight_of v) { phase = Open }) f c i (f.hold.mine (Small c i) m).1))

  pub found_plain : (c i : ℕ) → (sight_of v).hold.here (Small c i) ≡ true → (sight_of v).hold.making c ≡ false
  found_plain c i m = false_from_ne_true ((sight_of v).hold.making c) (λ y. both_ways (g.runs c) (maker_no_run sh cells S flies g geo k (record (sight_of v) { phase = Open }) f c y) (small_run sh cells S flies g geo k (record (sight_of v) { phase = Open }) f c i (f.hold.found (Small c i) (f.hold.here (Small c i) m).1).1))

  -- the size word is the second of its block
  pub size_offset : (p : Place) → has (sight_of v).hold (block_of (geometry v.fixed.shape v.claims) p 64) ≡ true → is_size g.geo p ≡ true → offset_in v p ≡ 1
  size_offset (InRun c u) o s = let cl = g.geo.class c in let t = and_parts (nat_le 8 u) (((u / 8 - 1) % cl == 0) && (u % 8 == 1)) s in let y = and_parts ((u / 8 - 1) % cl == 0) (u % 8 == 1) t.1 in
      let l = leb-true 8 u t.0 in let r = eqb-true (u % 8) 1 y.1 in let z = line_of (u / 8 - 1) cl (eqb-true ((u / 8 - 1) % cl) 0 y.0) in
      ap (λ n. u - 8 * (1 + n * ((u / 8 - 1) / n))) (f.hold.class c (part (class v.claims c) u 64) o) ∙ (ap (λ n. u - 8 * (1 + n)) z ∙ omega arith)
  size_offset (InHuge c u) o s = let t = and_parts (g.geo.first c == c) (u == 1) s in let e = huge_known sh cells S flies g geo k v f c o ∙ eqb-true (g.geo.first c) c t.0 in let r = eqb-true u 1 t.1 in
      ap (λ n. 512 * (c - n) + u) e ∙ omega arith
  size_offset (Descr c) o s = absurd (both_ways false refl s)
  size_offset RootWord o s = absurd (both_ways false refl s)

  not_size : (p : Place) → has (sight_of v).hold (block_of (geometry v.fixed.shape v.claims) p 64) ≡ true → (offset_in v p ≡ 1 → ⊥) → is_size g.geo p ≡ false
  not_size p o n = false_from_ne_true (is_size g.geo p) (λ s. n (size_offset p o s))

  one_unguarded : (x : ℕ) → x ≡ 1 → is_guarded x ≡ true → ⊥
  one_unguarded x e t = both_ways false refl (sym (ap is_guarded e) ∙ t)

  -- ---- A WORD THAT THE LANE MAY CHANGE
  pub change_owned : (p : Place) → MayChangeAt v p → (b : ℕ) → owns g.geo S (sight_of v).hold p b ≡ true
  change_owned (InRun c u) a b = data_owned (InRun c u) b a.1 (here_own (sight_of v).hold (block_of (geometry v.fixed.shape v.claims) (InRun c u) 64) a.0)
  change_owned (InHuge c u) a b = data_owned (InHuge c u) b refl (here_own (sight_of v).hold (block_of (geometry v.fixed.shape v.claims) (InHuge c u) 64) a.0)
  change_owned (Descr c) a b = absurd a
  change_owned RootWord a b = go (value_in v (word_of v.fixed.shape RootWord)) refl a
    where
      go : (y : Option ℕ) → value_in v (word_of v.fixed.shape RootWord) ≡ y → IsSomeAnd y (λ x. HoldsRoot v x) → owns g.geo S (sight_of v).hold RootWord b ≡ true
      go None e h = absurd h
      go (Some x) e h = root x e h b

  pub change_plain : (p : Place) → HasUse (class v.claims) p → MayChangeAt v p → is_in_making (sight_of v).hold p ≡ false
  change_plain (InRun c u) e a = found_plain c (part (class v.claims c) u 64) a.0
  change_plain (InHuge c u) e a = huge_plain c e
  change_plain (Descr c) e a = absurd a
  change_plain RootWord e a = refl

  pub change_size : (p : Place) → MayChangeAt v p → is_size g.geo p ≡ false
  change_size (InRun c u) a = not_size (InRun c u) (here_has (block_of (geometry v.fixed.shape v.claims) (InRun c u) 64) a.0) (λ e. one_unguarded (offset_in v (InRun c u)) e a.2)
  change_size (InHuge c u) a = not_size (InHuge c u) (here_has (block_of (geometry v.fixed.shape v.claims) (InHuge c u) 64) a.0) (λ e. one_unguarded (offset_in v (InHuge c u)) e a.1)
  change_size (Descr c) a = refl
  change_size RootWord a = refl

  -- ---- AN ENTRY
  module _ (how : Op) (value : ℕ) (small : value < 2 ^ 64) where
    one_at : (p : Place) → EntersAt v p how value → (b : ℕ) → given (given_bit how value b) ≡ true → owns g.geo S (sight_of v).hold p b ≡ true
    one_at (InRun c zero) a b t = let y = some_of (given_bit how value b) t in let z = a.1 b y.0 y.1 in ⊎_elim (λ (e : y.0 ≡ true). mine_own (sight_of v).hold (Small c b) (z.0 e)) (λ (e : y.0 ≡ false). here_own (sight_of v).hold (Small c b) (z.1 e)) (cases_Bool y.0)
    one_at (InRun c (suc u)) a b t = ⊎_elim (λ (z : MayChangeAt v (InRun c (suc u))). change_owned (InRun c (suc u)) z b) (λ (z : IsOwnData v (InRun c (suc u))). data_owned (InRun c (suc u)) b z.0 (mine_own (sight_of v).hold (block_of (geometry v.fixed.shape v.claims) (InRun c (suc u)) 64) z.1)) a
    one_at (InHuge c u) a b t = ⊎_elim (λ (z : MayChangeAt v (InHuge c u)). change_owned (InHuge c u) z b) (λ (z : IsOwnData v (InHuge c u)). data_owned (InHuge c u) b z.0 (mine_own (sight_of v).hold (block_of (geometry v.fixed.shape v.claims) (InHuge c u) 64) z.1)) a
    one_at (Descr c) a b t = let o : own (sight_of v).hold (Big c) ≡ true = ⊎_elim (λ (z : (value ≡ 2 + 256 * span v.fixed.shape v.claims c) × IsTrue ((sight_of v).hold.mine (Big c))). mine_own (sight_of v).hold (Big c) z.1) (λ (z : (value ≡ 0) × IsTrue ((sight_of v).hold.here (Big c))). here_own (sight_of v).hold (Big c) z.1) a.2 in
        subst (λ y. own (sight_of v).hold (Big y) ≡ true) (sym (big_valid sh cells S flies g geo k (record (sight_of v) { phase = Open }) f c o)) o
    one_at RootWord a b t = change_owned RootWord a.0 b

    plain_at : (p : Place) → HasUse (class v.claims) p → EntersAt v p how value → (b : ℕ) → given (given_bit how value b) ≡ true → is_in_making (sight_of v).hold p ≡ false
    plain_at (InRun c zero) e a b t = let y = some_of (given_bit how value b) t in let z = a.1 b y.0 y.1 in ⊎_elim (λ (q : y.0 ≡ true). run_plain c b (z.0 q)) (λ (q : y.0 ≡ false). found_plain c b (z.1 q)) (cases_Bool y.0)
    plain_at (InRun c (suc u)) e a b t = ⊎_elim (λ (z : MayChangeAt v (InRun c (suc u))). change_plain (InRun c (suc u)) e z) (λ (z : IsOwnData v (InRun c (suc u))). run_plain c (part (class v.claims c) (suc u) 64) z.1) a
    plain_at (InHuge c u) e a b t = huge_plain c e
    plain_at (Descr c) e a b t = a.1
    plain_at RootWord e a b t = refl

    size_at_ : (p : Place) → EntersAt v p how value → is_size g.geo p ≡ false
    size_at_ (InRun c zero) a = refl
    size_at_ (InRun c (suc u)) a = ⊎_elim (λ (z : MayChangeAt v (InRun c (suc u))). change_size (InRun c (suc u)) z) (λ (z : IsOwnData v (InRun c (suc u))). not_size (InRun c (suc u)) (mine_has (block_of (geometry v.fixed.shape v.claims) (InRun c (suc u)) 64) z.1) (λ e. let l = z.2 in omega arith)) a
    size_at_ (InHuge c u) a = ⊎_elim (λ (z : MayChangeAt v (InHuge c u)). change_size (InHuge c u) z) (λ (z : IsOwnData v (InHuge c u)). not_size (InHuge c u) (mine_has (block_of (geometry v.fixed.shape v.claims) (InHuge c u) 64) z.1) (λ e. let l = z.2 in omega arith)) a
    size_at_ (Descr c) a = refl
    size_at_ RootWord a = refl

    abbrev d : Place → Diff
    d p = delta record { place = p; op = how; value = value }

    descriptor_turn : (c : ℕ) → EntersDescriptor v c how value → TurnBefore false ((sight_of v).hold.mine (Big c)) ((sight_of v).hold.here (Big c)) (given_bit how value 1)
    descriptor_turn c a = subst (λ o. TurnBefore false ((sight_of v).hold.mine (Big c)) ((sight_of v).hold.here (Big c)) (given_bit o value 1)) (sym a.0) (⊎_elim
        (λ (z : (value ≡ 2 + 256 * span v.fixed.shape v.claims c) × IsTrue ((sight_of v).hold.mine (Big c))). subst (TurnBefore false ((sight_of v).hold.mine (Big c)) ((sight_of v).hold.here (Big c))) (sym (ap (λ t. Some (t == 1)) (let e = z.0 in let q : bit_at value 1 ≡ 1 = omega arith in q))) z.1)
        (λ (z : (value ≡ 0) × IsTrue ((sight_of v).hold.here (Big c))). subst (TurnBefore false ((sight_of v).hold.mine (Big c)) ((sight_of v).hold.here (Big c))) (sym (ap (λ t. Some (t == 1)) (let e = z.0 in let q : bit_at value 1 ≡ 0 = omega arith in q))) z.1) a.2)

    turn_at : (p : Place) → EntersAt v p how value → (B : Block) → TurnBefore false ((sight_of v).hold.mine B) ((sight_of v).hold.here B) (turn (d p) B)
    turn_at (InRun c zero) a (Small e i) = turn_cond ((c == e) && (0 == 0)) ((sight_of v).hold.mine (Small e i)) ((sight_of v).hold.here (Small e i)) (given_bit how value i) (λ t. let q = eqb-true c e (and_parts (c == e) (0 == 0) t).0 in
        subst (λ n. TurnBefore false ((sight_of v).hold.mine (Small n i)) ((sight_of v).hold.here (Small n i)) (given_bit how value i)) q (turn_from ((sight_of v).hold.mine (Small c i)) ((sight_of v).hold.here (Small c i)) (given_bit how value i) (a.1 i)))
    turn_at (InRun c zero) a (Big y) = tt
    turn_at (InRun c zero) a Root = tt
    turn_at (InRun c (suc u)) a (Small e i) = turn_cond ((c == e) && (suc u == 0)) ((sight_of v).hold.mine (Small e i)) ((sight_of v).hold.here (Small e i)) (given_bit how value i) (λ t. absurd (let q = eqb-true (suc u) 0 (and_parts (c == e) (suc u == 0) t).1 in omega arith))
    turn_at (InRun c (suc u)) a (Big y) = tt
    turn_at (InRun c (suc u)) a Root = tt
    turn_at (InHuge c u) a (Small e i) = tt
    turn_at (InHuge c u) a (Big y) = tt
    turn_at (InHuge c u) a Root = tt
    turn_at (Descr c) a (Small e i) = tt
    turn_at (Descr c) a (Big y) = turn_cond (c == y) ((sight_of v).hold.mine (Big y)) ((sight_of v).hold.here (Big y)) (given_bit how value 1) (λ t. subst (λ n. TurnBefore false ((sight_of v).hold.mine (Big n)) ((sight_of v).hold.here (Big n)) (given_bit how value 1)) (eqb-true c y t) (descriptor_turn c a))
    turn_at (Descr c) a Root = tt
    turn_at RootWord a (Small e i) = tt
    turn_at RootWord a (Big y) = tt
    turn_at RootWord a Root = tt

    abbrev Told : (ℕ → Option Bool) → ℕ → Type 0
    Told t y = ((b : ℕ) → t b ≡ None) ⊎ (((b : ℕ) → b < 64 → given (t b) ≡ true) × DescrFits (t 1) y (span v.fixed.shape v.claims y) t)

    descriptor_told : (c : ℕ) → EntersDescriptor v c how value → Told (given_bit how value) c
    descriptor_told c a = subst (λ o. Told (given_bit o value) c) (sym a.0) (inr (
      (λ b l. ap given (cond-true (nat_lt b 64) (op_bit Set value b) None (lt-ltb b 64 l))),
      ⊎_elim (λ (z : (value ≡ 2 + 256 * span v.fixed.shape v.claims c) × IsTrue ((sight_of v).hold.mine (Big c))). set_huge value c (span v.fixed.shape v.claims c) small z.0) (λ (z : (value ≡ 0) × IsTrue ((sight_of v).hold.here (Big c))). set_none value c (span v.fixed.shape v.claims c) z.0) a.2,
    ))

    told_at : (p : Place) → EntersAt v p how value → (y : ℕ) → Told (d p (Descr y)) y
    told_at (InRun c u) a y = inl (λ b. refl)
    told_at (InHuge c u) a y = inl (λ b. refl)
    told_at (Descr c) a y = ⊎_elim (λ (e : (c == y) ≡ true). let q = eqb-true c y e in let r : given_bit how value ≡ d (Descr c) (Descr y) = λ i b. cond (sym e i) (given_bit how value b) None in subst (λ t. Told t y) r (subst (λ n. Told (given_bit how value) n) q (descriptor_told c a)))
        (λ (e : (c == y) ≡ false). inl (λ b. ap (λ t. cond t (given_bit how value b) None) e)) (cases_Bool (c == y))
    told_at RootWord a y = inl (λ b. refl)

    -- WHAT IS ASKED OF AN ENTRY HOLDS of one that the lane may store
    pub enters : (w : ℕ) (p : Place) → HasUse (class v.claims) p → EntersAt v p how value → Enters S g (sight_of v).hold (added record { word = w; place = Some p; op = how; value = value })
    enters w p e a = record {
      turns = turn_at p a;
      reach = λ q b t. let y = given_cond (same_place p q) (given_bit how value b) t in subst (λ r. owns g.geo S (sight_of v).hold r b ≡ true) (same_place_true p q y.0) (one_at p a b y.1);
      plain = λ q b t. let y = given_cond (same_place p q) (given_bit how value b) t in subst (λ r. is_in_making (sight_of v).hold r ≡ false) (same_place_true p q y.0) (plain_at p e a b y.1);
      sizes = λ q b s. false_from_ne_true (given (d p q b)) (λ t. let y = given_cond (same_place p q) (given_bit how value b) t in both_ways (is_size g.geo q) (subst (λ r. is_size g.geo r ≡ false) (same_place_true p q y.0) (size_at_ p a)) s);
      descr = told_at p a;
    }

  -- the entry of the generation is of no place
  pub enters_none : (w : ℕ) (how : Op) (value : ℕ) → Enters S g (sight_of v).hold (added record { word = w; place = None; op = how; value = value })
  enters_none w how value = record { turns = none_turn; reach = λ p b t. absurd (both_ways false refl t); plain = λ p b t. absurd (both_ways false refl t); sizes = λ p b s. refl; descr = λ y. inl (λ b. refl) }
    where
      none_turn : (B : Block) → TurnBefore false ((sight_of v).hold.mine B) ((sight_of v).hold.here B) (turn (λ p b. None) B)
      none_turn (Small c i) = tt
      none_turn (Big y) = tt
      none_turn Root = tt
