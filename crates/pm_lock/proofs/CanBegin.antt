-- Where a block can begin: by the classes of runs, and in which chunk and line of the pool that is.
use Rattle.std.proofs.Common.{None, Some, cond, ◌≡◌, ℕ, ◌+◌, ◌-◌, ◌*◌, ◌/◌, ◌%◌, ◌<◌, ◌≤◌, Bool, true, false, eqb, leb, ltb, ◌&&◌, ◌||◌, refl, sym, ap, ◌∙◌, subst, arith}
use Rattle.std.proofs.lemmas.Bool.{and_from, and_parts, eqb-true, false_from_ne_true, le-leb, leb-true, lt-ltb, ltb-true, ne_eqb}
use Rattle.pm_model.specs.Places.{bytes_in_zones, can_begin, can_begin_at_line}
use Rattle.pm_layout.specs.declared.shape.Shape.{Shape}
use Rattle.pm_layout.specs.Chunks.{is_in_zone, page_in_zone, page_of_zone}
use Rattle.pm_objects.specs.declared.ids.Oid.{Oid}
use Rattle.pm_lock.specs.Objects.{IsHeader, is_placed, line_before, line_of}

pub at_line_0 : (line : ℕ) → line ≡ 0 → can_begin_at_line line ≡ true
unfolding can_begin_at_line
at_line_0 line zero = ap can_begin_at_line zero

-- eight tests in a row
flat : (a b c d e f g h : Bool) → (a || (b || (c || (d || (e || (f || (g || (h || false)))))))) ≡ (((((((a || b) || c) || d) || e) || f) || g) || h)
flat true b c d e f g h = refl
flat false true c d e f g h = refl
flat false false true d e f g h = refl
flat false false false true e f g h = refl
flat false false false false true f g h = refl
flat false false false false false true g h = refl
flat false false false false false false true h = refl
flat false false false false false false false true = refl
flat false false false false false false false false = refl

abbrev test : ℕ → ℕ → ℕ → Bool
test before lines blocks = eqb (before % lines) 0 && ltb (before / lines) blocks

pub behind_line_0 : (line : ℕ) → 0 < line
    → (((((((test (line - 1) 2 31 || test (line - 1) 3 21) || test (line - 1) 4 15) || test (line - 1) 5 12) || test (line - 1) 7 9) || test (line - 1) 9 7) || test (line - 1) 15 4) || test (line - 1) 31 2) ≡ can_begin_at_line line
unfolding can_begin_at_line
behind_line_0 line some =
    let t : ℕ → ℕ → Bool = test (line - 1) in
    sym (flat (t 2 31) (t 3 21) (t 4 15) (t 5 12) (t 7 9) (t 9 7) (t 15 4) (t 31 2))
    ∙ sym (λ i. ne_eqb line 0 (λ zero. omega (arith, zero, some)) i || (le-leb 1 line (omega (arith, some)) i && (t 2 31 || (t 3 21 || (t 4 15 || (t 5 12 || (t 7 9 || (t 9 7 || (t 15 4 || (t 31 2 || false))))))))))

pub not_in_zones : (lanes zones off : ℕ) → off < 4096 + 8192 * lanes + 266240 * 0 + 64 → can_begin lanes zones off ≡ false
unfolding can_begin
not_in_zones lanes zones off low =
    let p : ℕ = bytes_in_zones lanes off in
    let first : ℕ = 4096 + 8192 * lanes + 266240 * 0 + 64 in
    ap (λ b. (((b && ltb (p / 266240) zones) && leb 4096 (p % 266240)) && eqb (p % 64) 0) && can_begin_at_line (p % 4096 / 64))
    (false_from_ne_true (leb first off) (λ high. let e = leb-true first off high in absurd (omega (arith, e, low))))

pub in_zones : (lanes zones off place : ℕ) → 4096 + 8192 * lanes + 266240 * 0 + 64 ≤ off → place ≡ bytes_in_zones lanes off
    → (((ltb (place / 266240) zones && leb 4096 (place % 266240)) && eqb (place % 64) 0) && can_begin_at_line (place % 4096 / 64)) ≡ can_begin lanes zones off
unfolding can_begin
in_zones lanes zones off place high is =
    let p : ℕ = bytes_in_zones lanes off in
    let first : ℕ = 4096 + 8192 * lanes + 266240 * 0 + 64 in
    ap (λ p. ((ltb (p / 266240) zones && leb 4096 (p % 266240)) && eqb (p % 64) 0) && can_begin_at_line (p % 4096 / 64)) is
    ∙ sym (ap (λ b. (((b && ltb (p / 266240) zones) && leb 4096 (p % 266240)) && eqb (p % 64) 0) && can_begin_at_line (p % 4096 / 64)) (le-leb first off high))

-- the line before an offset where a block can begin is of a chunk of the pool, and the offset follows it
pub placed_at : (sh : Shape) (id : Oid) → can_begin sh.lanes sh.zones id.off ≡ true → IsHeader sh id (line_before id.off)
unfolding can_begin
placed_at sh id can =
    let p : ℕ = bytes_in_zones sh.lanes id.off in
    let four = and_parts (((leb (4096 + 8192 * sh.lanes + 266240 * 0 + 64) id.off && ltb (p / 266240) sh.zones) && leb 4096 (p % 266240)) && eqb (p % 64) 0) (can_begin_at_line (p % 4096 / 64)) can in
    let three = and_parts ((leb (4096 + 8192 * sh.lanes + 266240 * 0 + 64) id.off && ltb (p / 266240) sh.zones) && leb 4096 (p % 266240)) (eqb (p % 64) 0) four.0 in
    let two = and_parts (leb (4096 + 8192 * sh.lanes + 266240 * 0 + 64) id.off && ltb (p / 266240) sh.zones) (leb 4096 (p % 266240)) three.0 in
    let one = and_parts (leb (4096 + 8192 * sh.lanes + 266240 * 0 + 64) id.off) (ltb (p / 266240) sh.zones) two.0 in
    facts id.off p refl (leb-true _ _ one.0) (ltb-true _ _ one.1) (leb-true _ _ two.1) (eqb-true _ _ three.1) refl where
      facts : (off p : ℕ) → p ≡ off - 64 - (4096 + 8192 * sh.lanes + 266240 * 0) → 4096 + 8192 * sh.lanes + 266240 * 0 + 64 ≤ off → p / 266240 < sh.zones → 4096 ≤ p % 266240 → p % 64 ≡ 0 → id.off ≡ off → IsHeader sh id (line_before off)
      facts off p is high zone chunk even same =
          let off_is : off ≡ p + 64 + 4096 + 8192 * sh.lanes = omega (arith, is, high) in
          let line_is : off / 64 - 1 ≡ p / 64 + 64 + 128 * sh.lanes = omega (arith, off_is) in
          let page_is : (off / 64 - 1) / 64 ≡ p / 4096 + 1 + 2 * sh.lanes = omega (arith, line_is) in
          let pages : p / 4096 ≡ 65 * (p / 266240) + p % 266240 / 4096 = omega arith in
          let some : 1 ≤ p % 266240 / 4096 = omega (arith, chunk) in
          let few : p % 266240 / 4096 < 65 = omega arith in
          let page : ℕ = (off / 64 - 1) / 64 in
          record {
            before = omega (arith, off_is, even, same);
            chunk = and_from (is_in_zone sh page) (leb 1 (page_in_zone sh page))
                (and_from (leb (page_of_zone sh 0) page) (ltb page (page_of_zone sh sh.zones)) (le-leb (page_of_zone sh 0) page (omega (arith, page_is))) (lt-ltb page (page_of_zone sh sh.zones) (omega (arith, page_is, pages, few, zone))))
                (le-leb 1 (page_in_zone sh page) (omega (arith, page_is, pages, some, few)));
          }

-- such an offset is not in the first line
pub begins_high : (sh : Shape) (off : ℕ) → can_begin sh.lanes sh.zones off ≡ true → 1 ≤ off / 64
begins_high sh off can = let h = (placed_at sh (record { pool = 0; off = off }) can).before in omega (arith, h)

pub has_header : (sh : Shape) (pool line : ℕ) (id : Oid) → line_of sh pool id ≡ Some line → IsHeader sh id line
has_header sh pool line id is = at (is_placed sh pool id) refl is where
  at : (b : Bool) → is_placed sh pool id ≡ b → cond b (Some (line_before id.off)) None ≡ Some line → IsHeader sh id line
  at true e f = subst (IsHeader sh id) (inside f) (placed_at sh id (and_parts (eqb id.pool pool) (can_begin sh.lanes sh.zones id.off) e).1)
    where
      inside : Some (line_before id.off) ≡ Some line → line_before id.off ≡ line
      inside f = cc
  at false e f = absurd (none f)
    where
      none : None ≡ Some line → ⊥
      none f = cc
