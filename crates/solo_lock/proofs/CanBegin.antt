-- Where a block can begin: by the classes of runs, and in which chunk and line of the pool that is.
use Rattle.std.proofs.Common.{◌≡◌, ℕ, ◌+◌, ◌-◌, ◌*◌, ◌/◌, ◌%◌, ◌<◌, ◌≤◌, Bool, true, false, eqb, leb, ltb, ◌&&◌, ◌||◌, refl, sym, ap, ◌∙◌, arith}
use Rattle.std.proofs.lemmas.Bool.{and_from, and_parts, eqb-true, false_from_ne_true, le-leb, leb-true, ltb-true, ne_eqb}
use Rattle.solo_model.specs.Places.{bytes_in_zones, can_begin, can_begin_at_line}
use Rattle.solo_view.specs.Blocks.{chunk_of, is_chunk, zone_page}

pub at_line_0 : (line : ℕ) → line ≡ 0 → can_begin_at_line line ≡ true
unfolding can_begin_at_line
at_line_0 line zero = ap can_begin_at_line zero

-- eight tests in a row
flat : (a b c d e f g h : Bool) → (a || (b || (c || (d || (e || (f || (g || (h || false)))))))) ≡ (((((((a || b) || c) || d) || e) || f) || g) || h)
flat true b c d e f g h = refl
flat false true c d e f g h = refl
flat false false true d e f g h = refl
flat false false false true e f g h = refl
flat false false false false true f g h = refl
flat false false false false false true g h = refl
flat false false false false false false true h = refl
flat false false false false false false false true = refl
flat false false false false false false false false = refl

abbrev test : ℕ → ℕ → ℕ → Bool
test before lines blocks = eqb (before % lines) 0 && ltb (before / lines) blocks

pub behind_line_0 : (line : ℕ) → 0 < line
    → (((((((test (line - 1) 2 31 || test (line - 1) 3 21) || test (line - 1) 4 15) || test (line - 1) 5 12) || test (line - 1) 7 9) || test (line - 1) 9 7) || test (line - 1) 15 4) || test (line - 1) 31 2) ≡ can_begin_at_line line
unfolding can_begin_at_line
behind_line_0 line some =
    let t : ℕ → ℕ → Bool = test (line - 1) in
    sym (flat (t 2 31) (t 3 21) (t 4 15) (t 5 12) (t 7 9) (t 9 7) (t 15 4) (t 31 2))
    ∙ sym (λ i. ne_eqb line 0 (λ zero. omega (arith, zero, some)) i || (le-leb 1 line (omega (arith, some)) i && (t 2 31 || (t 3 21 || (t 4 15 || (t 5 12 || (t 7 9 || (t 9 7 || (t 15 4 || (t 31 2 || false))))))))))

pub not_in_zones : (lanes zones off : ℕ) → off < 4096 + 8192 * lanes + 266240 * 0 + 64 → can_begin lanes zones off ≡ false
unfolding can_begin
not_in_zones lanes zones off low =
    let p : ℕ = bytes_in_zones lanes off in
    let first : ℕ = 4096 + 8192 * lanes + 266240 * 0 + 64 in
    ap (λ b. (((b && ltb (p / 266240) zones) && leb 4096 (p % 266240)) && eqb (p % 64) 0) && can_begin_at_line (p % 4096 / 64))
    (false_from_ne_true (leb first off) (λ high. let e = leb-true first off high in absurd (omega (arith, e, low))))

pub in_zones : (lanes zones off place : ℕ) → 4096 + 8192 * lanes + 266240 * 0 + 64 ≤ off → place ≡ bytes_in_zones lanes off
    → (((ltb (place / 266240) zones && leb 4096 (place % 266240)) && eqb (place % 64) 0) && can_begin_at_line (place % 4096 / 64)) ≡ can_begin lanes zones off
unfolding can_begin
in_zones lanes zones off place high is =
    let p : ℕ = bytes_in_zones lanes off in
    let first : ℕ = 4096 + 8192 * lanes + 266240 * 0 + 64 in
    ap (λ p. ((ltb (p / 266240) zones && leb 4096 (p % 266240)) && eqb (p % 64) 0) && can_begin_at_line (p % 4096 / 64)) is
    ∙ sym (ap (λ b. (((b && ltb (p / 266240) zones) && leb 4096 (p % 266240)) && eqb (p % 64) 0) && can_begin_at_line (p % 4096 / 64)) (le-leb first off high))

-- the line before an offset where a block can begin lies in a chunk of the pool
pub record IsPlaced (lanes zones off : ℕ) : Type 0 where
  pub place : off ≡ 64 * (off / 64 - 1) + 64
  pub chunk : is_chunk lanes ((off / 64 - 1) / 64) ≡ true
  pub inside : off / 64 - 1 < 64 + 128 * lanes + 4160 * zones

pub placed_at : (lanes zones off : ℕ) → can_begin lanes zones off ≡ true → IsPlaced lanes zones off
unfolding can_begin
placed_at lanes zones off can =
    let p : ℕ = bytes_in_zones lanes off in
    let four = and_parts (((leb (4096 + 8192 * lanes + 266240 * 0 + 64) off && ltb (p / 266240) zones) && leb 4096 (p % 266240)) && eqb (p % 64) 0) (can_begin_at_line (p % 4096 / 64)) can in
    let three = and_parts ((leb (4096 + 8192 * lanes + 266240 * 0 + 64) off && ltb (p / 266240) zones) && leb 4096 (p % 266240)) (eqb (p % 64) 0) four.0 in
    let two = and_parts (leb (4096 + 8192 * lanes + 266240 * 0 + 64) off && ltb (p / 266240) zones) (leb 4096 (p % 266240)) three.0 in
    let one = and_parts (leb (4096 + 8192 * lanes + 266240 * 0 + 64) off) (ltb (p / 266240) zones) two.0 in
    facts lanes zones off p refl (leb-true _ _ one.0) (ltb-true _ _ one.1) (leb-true _ _ two.1) (eqb-true _ _ three.1) where
      facts : (lanes zones off p : ℕ) → p ≡ off - 64 - (4096 + 8192 * lanes + 266240 * 0) → 4096 + 8192 * lanes + 266240 * 0 + 64 ≤ off → p / 266240 < zones → 4096 ≤ p % 266240 → p % 64 ≡ 0 → IsPlaced lanes zones off
      facts lanes zones off p is high zone chunk even =
          let off_is : off ≡ p + 64 + 4096 + 8192 * lanes = omega (arith, is, high) in
          let line_is : off / 64 - 1 ≡ p / 64 + 64 + 128 * lanes = omega (arith, off_is) in
          let page_is : (off / 64 - 1) / 64 ≡ p / 4096 + 1 + 2 * lanes = omega (arith, line_is) in
          let pages : p / 4096 ≡ 65 * (p / 266240) + p % 266240 / 4096 = omega arith in
          let some : 1 ≤ p % 266240 / 4096 = omega (arith, chunk) in
          let few : p % 266240 / 4096 < 65 = omega arith in
          record {
            place = omega (arith, off_is, even);
            chunk = and_from (leb (zone_page lanes 0) ((off / 64 - 1) / 64)) (leb 1 (chunk_of lanes ((off / 64 - 1) / 64)))
                (le-leb (zone_page lanes 0) ((off / 64 - 1) / 64) (omega (arith, page_is)))
                (le-leb 1 (chunk_of lanes ((off / 64 - 1) / 64)) (omega (arith, page_is, pages, some, few)));
            inside = omega (arith, line_is, zone);
          }
