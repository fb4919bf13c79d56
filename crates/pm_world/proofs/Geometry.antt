-- Blocks and their bits: an allocated block's bit is its own, and living bits depend on their block's bits alone.
use Rattle.std.proofs.Common.{◌≡◌, ℕ, ◌≤◌, ◌+◌, ◌-◌, ◌*◌, ◌/◌, ◌%◌, nat_le, nat_lt, Bool, true, false, ◌&&◌, ◌||◌, eqb, refl, sym, ap, ◌∙◌, arith, ne_eqb}
use Rattle.std.proofs.lemmas.Bool.{eqb-true, both_ways, and_parts, cond-false}
use Rattle.std.proofs.Math.Nat.{mul_comm}
use lib.Arith.{digits_div}
use Rattle.pm_view.specs.Places.{Place, InRun, InHuge, Descr, RootWord, Block, Small, Big, Root, Geometry, part, block_of, place_of, bit_of, same}
use Rattle.pm_world.specs.States.{State, lit, size_at, bright, shown, live}
use Rattle.pm_world.specs.Lanes.{Ghost, valid}

pub same_true : (B C : Block) → same B C ≡ true → B ≡ C
same_true (Small c i) (Small d j) e = let t = and_parts (eqb c d) (eqb i j) e in ap (λ x. Small x i) (eqb-true c d t.0) ∙ ap (λ x. Small d x) (eqb-true i j t.1)
same_true (Small c i) (Big f) e = absurd (both_ways false refl e)
same_true (Small c i) Root e = absurd (both_ways false refl e)
same_true (Big f) (Small c i) e = absurd (both_ways false refl e)
same_true (Big f) (Big e) t = ap (λ x. Big x) (eqb-true f e t)
same_true (Big f) Root e = absurd (both_ways false refl e)
same_true Root (Small c i) e = absurd (both_ways false refl e)
same_true Root (Big f) e = absurd (both_ways false refl e)
same_true Root Root e = refl

-- a block's allocation bit is its own
pub alloc_block : (g : Ghost) (B : Block) → valid g B ≡ true → block_of g.geo (place_of B) (bit_of B) ≡ B
alloc_block g (Small c i) v = refl
alloc_block g (Big f) v = ap (λ x. Big x) (eqb-true (g.geo.first f) f v)
alloc_block g Root v = refl

abbrev pub huge_line : Geometry → ℕ → ℕ → ℕ
huge_line G c w = 64 * (c - G.first c) + w / 8

-- LIVING BITS depend on their block's bits
and_same : (r a a' : Bool) → (r ≡ true → a' ≡ a) → (r && a') ≡ (r && a)
and_same true a a' h = h refl
and_same false a a' h = refl

or_same : (r a a' : Bool) → (r ≡ false → a' ≡ a) → (r || a') ≡ (r || a)
or_same true a a' h = refl
or_same false a a' h = h refl

two_same : (a a' b b' : Bool) → a' ≡ a → b' ≡ b → (a' && b') ≡ (a && b)
two_same a a' b b' e f = ap (λ t. t && b') e ∙ ap (λ t. a && t) f

pub size_part : (cl i b : ℕ) → 1 ≤ cl → part cl (8 * (1 + cl * i) + 1) b ≡ i
size_part cl i b one = cond-false (eqb (8 * (1 + cl * i) + 1) 0) b (((8 * (1 + cl * i) + 1) / 8 - 1) / cl) (ne_eqb (8 * (1 + cl * i) + 1) 0 (λ e. omega arith))
    ∙ (ap (λ x. x / cl) (let e : (8 * (1 + cl * i) + 1) / 8 - 1 ≡ cl * i + 0 = omega arith in e ∙ ap (λ x. x + 0) (mul_comm cl i)) ∙ digits_div i {m = cl} {r = 0} (omega arith))

pub live_same : (G : Geometry) (runs : ℕ → Bool) (s s' : State) → ((c : ℕ) → G.first (G.first c) ≡ G.first c) → ((c : ℕ) → runs c ≡ true → 1 ≤ G.class c) → (p : Place) (b : ℕ)
    → ((q : Place) (e : ℕ) → block_of G q e ≡ block_of G p b → s' q e ≡ s q e) → live s' G runs p ≡ live s G runs p
live_same G runs s s' twice classes (InRun c w) b h = let cl = G.class c in let i = (w / 8 - 1) / cl in let l = (w / 8 - 1) % cl in
    and_same (runs c) (shown s cl c w) (shown s' cl c w) (λ r. or_same (eqb w 0) ((nat_le 8 w && nat_lt w 512) && bright s cl c i l) ((nat_le 8 w && nat_lt w 512) && bright s' cl c i l) (λ z.
    let e : part cl w b ≡ i = cond-false (eqb w 0) b i z in
    ap (λ t. (nat_le 8 w && nat_lt w 512) && t) (two_same (s (InRun c 0) i) (s' (InRun c 0) i) (lit (s (size_at cl c i)) l) (lit (s' (size_at cl c i)) l) (h (InRun c 0) i (ap (λ t. Small c t) (sym e)))
    (let f : s' (size_at cl c i) ≡ s (size_at cl c i) = λ t j. h (size_at cl c i) j (ap (λ a. Small c a) (size_part cl i j (classes c r) ∙ sym e)) t in ap (λ a. lit a l) f))))
live_same G runs s s' twice classes (InHuge c w) b h = let f = G.first c in let l = 64 * (c - f) + w / 8 in ap (λ t. nat_lt w 512 && t) (two_same (s (Descr f) 1) (s' (Descr f) 1) (lit (s (InHuge f 1)) l) (lit (s' (InHuge f 1)) l) (h (Descr f) 1 (ap (λ t. Big t) (twice c)))
    (let e : s' (InHuge f 1) ≡ s (InHuge f 1) = λ t j. h (InHuge f 1) j (ap (λ a. Big a) (twice c)) t in ap (λ a. lit a l) e))
live_same G runs s s' twice classes (Descr c) b h = refl
live_same G runs s s' twice classes RootWord b h = refl
