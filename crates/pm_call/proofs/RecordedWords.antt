-- A word that a lane recorded is no word that the lane sees in another use, and no word of a header.
use Rattle.std.proofs.Common.{◌≡◌, ◌≢◌, ℕ, suc, ◌+◌, ◌-◌, ◌*◌, ◌/◌, ◌%◌, ◌<◌, ◌≤◌, ⊎_elim, nat_le, nat_lt, Bool, true, false, refl, sym, ap, ◌∙◌, subst, arith}
use Rattle.std.proofs.lemmas.Bool.{and_from, and_parts, both_ways, cases_lt, cond-true, cond-false, le-leb, lt-ltb, ltb-true}
use Rattle.std.proofs.Math.Nat.{mul-le-mul_left}
use Rattle.pm_layout.specs.Chunks.{page_of_chunk, word_of_chunk}
use Rattle.pm_layout.specs.declared.shape.Shape.{Shape}
use Rattle.pm_world.proofs.BlockLines.{run_fits}
use Rattle.pm_view.specs.Claims.{class, first, last_first, span}
use Rattle.pm_view.specs.Places.{Place, InRun, InHuge, Descr, RootWord, Block, Small, Big, Root, in_span, part, word_of}
use Rattle.pm_view.specs.View.{View}
use Rattle.pm_world.specs.InWorld.{IsSound}
use Rattle.pm_world.specs.Sights.{is_pictured}
use Rattle.pm_crash.specs.Footprints.{has_found}
use Rattle.pm_crash.specs.Looked.{word_place, words_in}
use Rattle.pm_crash.specs.Sim.{known_offset, sees_at}
use Rattle.pm_crash.proofs.ChangedHeaps.{next_times}
use Rattle.pm_crash.proofs.OwnEntries.{chunk_in, word_in}

-- words of two blocks of a run: of the header of one, and of the data of another
apart_times : (cl i l k j : ℕ) → 8 * (1 + cl * i) + k ≡ 8 * (1 + cl * l) + j → k < 8 → 8 ≤ j → j < 8 * cl → ⊥
apart_times cl i l k j e few far within = ⊎_elim
    (λ (low : i < suc l).
    let m : cl * i ≤ cl * l = mul-le-mul_left cl (let z : i ≤ l = omega (arith, low) in z) in
    let a : ℕ = cl * i in let b : ℕ = cl * l in omega (arith, m, e, few, far))
    (λ (high : suc l ≤ i).
    let m : cl * suc l ≤ cl * i = mul-le-mul_left cl high in
    let n : cl * suc l ≡ cl * l + cl = next_times cl l in
    let a : ℕ = cl * i in let b : ℕ = cl * l in let c : ℕ = cl * suc l in omega (arith, m, n, e, few, within))
    (cases_lt i (suc l))

-- in a chunk: which one, and which word of it
module _ (sh : Shape) (c d w u : ℕ) (a : w < 512) (b : u < 512) (e : word_of_chunk sh c + w ≡ word_of_chunk sh d + u) where
  same_chunk : c ≡ d
  same_chunk = let p : page_of_chunk sh c ≡ page_of_chunk sh d = omega arith in omega arith

  same_word : w ≡ u
  same_word = omega arith

  chunk_cells : InRun c w ≡ InRun d u
  chunk_cells = λ i. InRun (same_chunk i) (same_word i)

in_spans : (f n c : ℕ) → f ≤ c → c < f + n → in_span f n c ≡ true
in_spans f n c low high = and_from (nat_le f c) (nat_lt c (f + n)) (le-leb f c low) (lt-ltb c (f + n) high)

module _ (v : View) (sound : IsSound v) where
  abbrev sh : Shape
  sh = v.fixed.shape

  -- the chunks of a huge block that it found
  whole : (f k : ℕ) → has_found v (Big f) ≡ true → k < 512 * span sh v.claims f → (first sh v.claims (f + k / 512) ≡ f) × (class v.claims (f + k / 512) ≡ 0)
  whole f k t low = sound.huge f (f + k / 512) t (in_spans f (span sh v.claims f) (f + k / 512) (omega arith) (omega (arith, low)))

  -- a chunk in the first chunk's block of which it found that is no run
  huge_class : (c : ℕ) → has_found v (Big (first sh v.claims c)) ≡ true → class v.claims c ≡ 0
  huge_class c t = at (in_span (last_first sh v.claims c) (span sh v.claims (last_first sh v.claims c)) c) refl where
    at : (b : Bool) → in_span (last_first sh v.claims c) (span sh v.claims (last_first sh v.claims c)) c ≡ b → class v.claims c ≡ 0
    at true e = let l : ℕ = last_first sh v.claims c in (sound.huge l c (ap (λ f. has_found v (Big f)) (sym (cond-true (in_span l (span sh v.claims l) c) l c e)) ∙ t) e).1
    at false e =
        let l : ℕ = last_first sh v.claims c in
        let here : has_found v (Big c) ≡ true = ap (λ f. has_found v (Big f)) (sym (cond-false (in_span l (span sh v.claims l) c) l c e)) ∙ t in
        let some = sound.some c here in
        (sound.huge c c here (in_spans c (span sh v.claims c) c (omega arith) (omega (arith, some)))).1

  -- NO WORD OF A HEADER is one of an object's data
  pub header_apart : (B C : Block) (k j : ℕ) → has_found v B ≡ true → has_found v C ≡ true → k < 8 → 8 ≤ j → j < words_in v C → word_place v B k ≢ word_place v C j
  header_apart (Small c i) (Small d l) k j fb fc few far within e =
      let ec : c ≡ d = ap chunk_in e in
      let er : 8 * (1 + class v.claims c * i) + k ≡ 8 * (1 + class v.claims d * l) + j = ap word_in e in
      apart_times (class v.claims c) i l k j (er ∙ ap (λ n. 8 * (1 + class v.claims n * l) + j) (sym ec)) few far (subst (λ n. j < 8 * class v.claims n) (sym ec) within)
  header_apart (Small c i) (Big f) k j fb fc few far within e = absurd cc
  header_apart (Small c i) Root k j fb fc few far within e = absurd cc
  header_apart (Big f) (Small d l) k j fb fc few far within e = absurd cc
  header_apart (Big f) (Big g) k j fb fc few far within e =
      let ec : f + k / 512 ≡ g + j / 512 = ap chunk_in e in
      let er : k % 512 ≡ j % 512 = ap word_in e in
      let here : first sh v.claims f ≡ f = ap (λ n. first sh v.claims n) (let z : f ≡ f + 0 / 512 = omega arith in z) ∙ (whole f 0 fb (let s = sound.some f fb in omega (arith, s))).0 in
      let there : first sh v.claims f ≡ g = ap (λ n. first sh v.claims n) (let z : f ≡ g + j / 512 = omega (arith, ec, few) in z) ∙ (whole g j fc within).0 in
      let same : f ≡ g = sym here ∙ there in
      omega (arith, ec, er, few, far, same)
  header_apart (Big f) Root k j fb fc few far within e = absurd cc
  header_apart Root (Small d l) k j fb fc few far within e = absurd cc
  header_apart Root (Big g) k j fb fc few far within e = absurd cc
  header_apart Root Root k j fb fc few far within e = absurd (omega (arith, within))

  -- where a word of data of a block of a run lies
  small_low : (c i j : ℕ) → has_found v (Small c i) ≡ true → j < 8 * class v.claims c → 8 * (1 + class v.claims c * i) + j < 512
  small_low c i j t low = let f = run_fits (class v.claims c) i (sound.small c i t).1 in let m : ℕ = class v.claims c * i in omega (arith, f, low)

  -- A WORD THAT IT SEES, and that is one of an object's data, is so in the same use
  pub one_use : (p : Place) (b : ℕ) (C : Block) (j : ℕ) → sees_at v p b ≡ true → is_pictured p ≡ true → has_found v C ≡ true → j < words_in v C
      → word_of sh p ≡ word_of sh (word_place v C j) → p ≡ word_place v C j
  one_use (InRun c w) b (Small d l) j sees in_picture t within e =
      chunk_cells sh c d w (8 * (1 + class v.claims d * l) + j) (ltb-true w 512 (and_parts (nat_le 8 w) (nat_lt w 512) in_picture).1) (small_low d l j t within) e
  one_use (InHuge c w) b (Small d l) j sees in_picture t within e =
      let ec : c ≡ d = same_chunk sh c d w (8 * (1 + class v.claims d * l) + j) (ltb-true w 512 in_picture) (small_low d l j t within) e in
      absurd ((sound.small d l t).0 (ap (class v.claims) (sym ec) ∙ huge_class c sees))
  one_use (Descr c) b C j sees in_picture t within e = absurd (both_ways false refl in_picture)
  one_use RootWord b (Small d l) j sees in_picture t within e = let low = small_low d l j t within in let u : ℕ = 8 * (1 + class v.claims d * l) + j in absurd (omega (arith, e))
  one_use (InRun c w) b (Big f) j sees in_picture t within e =
      let ec : c ≡ f + j / 512 = same_chunk sh c (f + j / 512) w (j % 512) (ltb-true w 512 (and_parts (nat_le 8 w) (nat_lt w 512) in_picture).1) (omega arith) e in
      absurd ((sound.small c (part (class v.claims c) w b) sees).0 (ap (class v.claims) ec ∙ (whole f j t within).1))
  one_use (InHuge c w) b (Big f) j sees in_picture t within e =
      let low = ltb-true w 512 in_picture in
      let ec : c ≡ f + j / 512 = same_chunk sh c (f + j / 512) w (j % 512) low (omega arith) e in
      let ew : w ≡ j % 512 = same_word sh c (f + j / 512) w (j % 512) low (omega arith) e in
      λ i. InHuge (ec i) (ew i)
  one_use RootWord b (Big f) j sees in_picture t within e = absurd (omega (arith, e))
  one_use p b Root j sees in_picture t within e = absurd (omega (arith, within))

  -- the word of a block's size, as a look finds it by the object's offset
  pub size_word : (B : Block) → 1 < words_in v B → word_of sh (word_place v B 1) ≡ known_offset v B / 8 - 7
  size_word (Small c i) low = let m : ℕ = class v.claims c * i in omega arith
  size_word (Big f) low = omega arith
  size_word Root low = absurd (omega (arith, low))

  -- and a lane may have a picture of it
  pub size_pictured : (B : Block) → has_found v B ≡ true → 1 < words_in v B → is_pictured (word_place v B 1) ≡ true
  size_pictured (Small c i) t low = let m : ℕ = class v.claims c * i in and_from (nat_le 8 (8 * (1 + m) + 1)) (nat_lt (8 * (1 + m) + 1) 512) (le-leb 8 (8 * (1 + m) + 1) (omega arith)) (lt-ltb (8 * (1 + m) + 1) 512 (small_low c i 1 t low))
  size_pictured (Big f) t low = refl
  size_pictured Root t low = refl
