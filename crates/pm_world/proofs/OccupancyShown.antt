-- WHAT AN OCCUPANCY WORD SHOWS: each of its bits is set exactly where its block or chunk is taken.
use Rattle.std.specs.Prelude.{bit_and}
use Rattle.std.specs.Int.{bit_at}
use Rattle.std.proofs.Common.{◌≡◌, ◌≢◌, ⊎_elim, ℕ, zero, suc, ◌+◌, ◌*◌, ◌/◌, ◌%◌, ◌<◌}
use Rattle.std.proofs.Common.{◌≤◌, nat_le, nat_lt}
use Rattle.std.proofs.Common.{true, ◌==◌, sym, ap, ◌∙◌, subst, arith, eq-eqb}
use Rattle.std.proofs.lemmas.Bool.{cases_eq, eqb-true, and_parts, and_from, lt-ltb, ltb-true}
use Rattle.std.proofs.lemmas.Nat.Bits.{bit_at_and, bit_at-lt, bit_at-suc, bit_at_lowest}
use Rattle.std.proofs.Common.{inl, inr, ◌||◌, not, false, refl}
use Rattle.std.proofs.lemmas.Bool.{cases_lt, both_ways, or_cases, not-true}
use Rattle.pm_layout.specs.declared.shape.Shape.{Shape}
use Rattle.pm_layout.specs.Chunks.{chunks_of, page_of_chunk}
use Rattle.pm_view.specs.declared.occ.Occ.{Occ}
use Rattle.pm_view.specs.declared.occ.Occ.TheVariants.{Run, Zone}
use Rattle.pm_view.specs.Places.{Block, Small, Big, Root}
use Rattle.pm_view.specs.Claims.{mine, run_chunk}
use Rattle.pm_world.specs.States.{there}
use Rattle.pm_world.specs.Lanes.{valid, is_taken}
use Rattle.pm_world.specs.Memory.{Memory, RunWord, ZoneWord, occ_at, bit}
use Rattle.pm_world.specs.Lawful.{HasOcc, IsOneBlock, is_mine}
use Rattle.pm_world.specs.World.{Opening, Views, Past, World, ghost_of, settled_words}
use Rattle.pm_world.specs.CauseLaws.{occupied_by, LoadShowsTaken, RefusalShowsTaken}
use Rattle.pm_world.specs.CauseLaws.{IsSomeones, TakenIsSomeones}
use Rattle.pm_world.proofs.RowBits.{row_bit}
use Rattle.pm_world.proofs.WordPlaces.{run_chunk_is, pow_bit}

-- the word of the memory, bit by bit
module _ (o : Opening) (mem : Memory) (views : Views) (g : Past) (x : World o mem views g) (k : ℕ)
    (ink : k < o.lanes) where
  word_taken : (at : Occ) → HasOcc (views k) at → (i : ℕ) → i < 64
      → bit (mem (occ_at at)) i ≡ is_taken (settled_words o g) (ghost_of g)
      (occupied_by o.shape at i)
  word_taken (Run place) has i l =
      let s = (x.each_lane k ink).shape in let c = has.0 in
      let at : place ≡ 4096 * page_of_chunk o.shape c = has.2
      ∙ ap (λ h. 4096 * page_of_chunk h c) s in
      let inside : c < chunks_of o.shape = subst (λ h. c < chunks_of h) s has.1 in
      let e : run_chunk o.shape place ≡ c = run_chunk_is o.shape c place at in
      let page : place / 4096 ≡ page_of_chunk o.shape c = omega arith in
      ap (λ n. bit (mem (RunWord n)) i) (page ∙ ap (page_of_chunk o.shape) (sym e))
      ∙ x.bits.occ (Small (run_chunk o.shape place) i)
      (and_from (nat_lt (run_chunk o.shape place) (chunks_of o.shape)) (nat_lt i 64)
      (lt-ltb (run_chunk o.shape place) (chunks_of o.shape) (subst
      (λ n. n < chunks_of o.shape) (sym e) inside)) (lt-ltb i 64 l))
  word_taken (Zone zone) has i l =
      let s = (x.each_lane k ink).shape in
      let inside : zone < o.shape.zones = subst (λ (h : Shape). zone < h.zones) s has in
      let c = 64 * zone + i in let z : zone ≡ c / 64 = omega arith in
      let r : i ≡ c % 64 = omega arith in
      ap (λ n. bit (mem (ZoneWord n)) i) z ∙ (ap (λ n. bit (mem (ZoneWord (c / 64))) n) r
      ∙ x.bits.occ (Big c) (lt-ltb c (chunks_of o.shape) (omega arith)))

-- whose a block is that is not allocated
holder_is : (n : ℕ) → not (n == 0) ≡ true → (j : ℕ) × (n ≡ suc j)
holder_is zero e = absurd (both_ways false refl e)
holder_is (suc j) e = (j, refl)

module _ (o : Opening) (mem : Memory) (views : Views) (g : Past) (x : World o mem views g) where
  someones : (B : Block) → (there (settled_words o g) B || not (g.holder B == 0)) ≡ true
      → IsSomeones o views g B
  someones B e = ⊎_elim (λ (t : there (settled_words o g) B ≡ true). inl t)
      (λ (h : not (g.holder B == 0) ≡ true). let y = holder_is (g.holder B) h in let j = y.0 in
      let m : is_mine (views j) B ≡ true = (x.bits.each_lane j).hold.holds B y.1 in
      inr (
        j,
        ⊎_elim (λ (l : j < o.lanes). l)
            (λ (l : o.lanes ≤ j). absurd (both_ways false refl
            (subst (λ t. mine (views j).fixed.shape t B ≡ true) (x.idle_beyond j l).2 m)))
            (cases_lt j o.lanes),
        m,
      )) (or_cases (there (settled_words o g) B) (not (g.holder B == 0)) e)

pub taken_is_someones : TakenIsSomeones
taken_is_someones o mem views g x (Small c i) e = let v = valid (ghost_of g) (Small c i) in
    let rest = there (settled_words o g) (Small c i) || not (g.holder (Small c i) == 0) in
    ⊎_elim (λ (n : not v ≡ true). inl (not-true v n))
    (λ (t : rest ≡ true). inr (someones o mem views g x (Small c i) t)) (or_cases (not v) rest e)
taken_is_someones o mem views g x (Big c) e = let B = Big (g.geo.first c) in
    let rest = there (settled_words o g) B || not (g.holder B == 0) in
    ⊎_elim (λ (r : g.runs c ≡ true). inl r)
    (λ (t : rest ≡ true). inr (someones o mem views g x B t)) (or_cases (g.runs c) rest e)
taken_is_someones o mem views g x Root e = tt

-- a number that is not 0 has a bit
some_bit : (n w : ℕ) → w ≤ n → (w ≡ 0 → ⊥) → (b : ℕ) × (bit w b ≡ true)
some_bit zero w l ne = absurd (ne (omega arith))
some_bit (suc n) w l ne = ⊎_elim
    (λ (e : w % 2 ≡ 1). (0, eq-eqb (bit_at w 0) 1 (bit_at_lowest w ∙ e)))
    (λ (e : w % 2 ≢ 1). let half = w / 2 in
    let r = some_bit n half (omega arith) (λ z. ne (omega arith)) in
    (suc r.0, ap (λ y. y == 1) (bit_at-suc w r.0) ∙ r.1)) (cases_eq (w % 2) 1)

both_bits : (x y i : ℕ) → bit (bit_and x y) i ≡ true → (bit x i ≡ true) × (bit y i ≡ true)
both_bits x y i e =
    let b = bit_at_and x y i in let l = bit_at-lt x i in let m = bit_at-lt y i in
    let top = eqb-true (bit_at (bit_and x y) i) 1 e in (
      eq-eqb (bit_at x i) 1 (omega (arith, b, l, m, top)),
      eq-eqb (bit_at y i) 1 (omega (arith, b, l, m, top)),
    )

-- the bits of one block are the word's first 64
bits_low : (at : Occ) (bits : ℕ) → IsOneBlock at bits → (i : ℕ) → bit bits i ≡ true → i < 64
bits_low (Run place) bits one i e = let n = one.1 in
    let q = eqb-true i one.0 (sym (pow_bit one.0 i) ∙ (ap (λ w. bit w i) (sym one.2) ∙ e)) in
    omega arith
bits_low (Zone zone) bits one i e = let a = one.0 in let n = one.1 in let top = one.3 in
    let s = and_parts (nat_le a i) (nat_lt i (a + n)) (sym (row_bit a n i)
    ∙ (ap (λ w. bit w i) (sym one.4) ∙ e)) in
    let l = ltb-true i (a + n) s.1 in omega arith

pub load_shows_taken : LoadShowsTaken
load_shows_taken o old new views g k found at i x ink law moves l =
    ap (λ w. bit w i) moves.1 ∙ word_taken o old views g x k ink at law.allowed i l

pub refusal_shows_taken : RefusalShowsTaken
refusal_shows_taken o old new views g k bits at x ink law moves =
    let both = bit_and (old (occ_at at)) bits in
    let r = some_bit both both (omega arith) moves.1 in let i = r.0 in
    let y = both_bits (old (occ_at at)) bits i r.1 in
    let l = bits_low at bits law.allowed.one i y.1 in
    (i, l, y.1, sym (word_taken o old views g x k ink at law.allowed.there i l) ∙ y.0)
