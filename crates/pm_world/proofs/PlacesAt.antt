-- Which place a word is, and what is so of it.
use Rattle.std.specs.Prelude.{if◌then◌else◌}
use Rattle.std.proofs.Common.{◌≡◌, ◌≢◌, ℕ, zero, suc, ◌+◌, ◌/◌, ◌%◌, ◌<◌, nat_le, nat_lt, true, false, ◌==◌, ◌&&◌, refl, sym, ap, ◌∙◌, subst, arith, Option, None, Some}
use Rattle.std.proofs.lemmas.Bool.{both_ways, eqb-true, ltb-true, leb-true, lt-ltb, and_parts, and_from, cond_both}
use Rattle.pm_layout.specs.declared.shape.Shape.{Shape}
use Rattle.pm_layout.specs.Chunks.{chunks_of, page_of_zone, word_of_chunk, word_of_root, zone_at, page_in_zone, is_in_zone, is_chunk_page, chunk_at, is_descriptor_word, chunk_described}
use Rattle.pm_view.specs.Places.{Place, InRun, InHuge, Descr, RootWord, same_place, is_place, word_of}
use Rattle.pm_view.specs.Parts.{RootPart, DescriptorPart, ChunkPart, OtherPart, chunk_place, place_in}
use Rattle.pm_view.specs.Log.{place_at}

pub same_place_true : (p q : Place) → same_place p q ≡ true → p ≡ q
same_place_true (InRun c w) (InRun d v) e = let t = and_parts (c == d) (w == v) e in ap (λ x. InRun x w) (eqb-true c d t.0) ∙ ap (λ x. InRun d x) (eqb-true w v t.1)
same_place_true (InRun c w) (InHuge d v) e = absurd (both_ways false refl e)
same_place_true (InRun c w) (Descr d) e = absurd (both_ways false refl e)
same_place_true (InRun c w) RootWord e = absurd (both_ways false refl e)
same_place_true (InHuge c w) (InRun d v) e = absurd (both_ways false refl e)
same_place_true (InHuge c w) (InHuge d v) e = let t = and_parts (c == d) (w == v) e in ap (λ x. InHuge x w) (eqb-true c d t.0) ∙ ap (λ x. InHuge d x) (eqb-true w v t.1)
same_place_true (InHuge c w) (Descr d) e = absurd (both_ways false refl e)
same_place_true (InHuge c w) RootWord e = absurd (both_ways false refl e)
same_place_true (Descr c) (InRun d v) e = absurd (both_ways false refl e)
same_place_true (Descr c) (InHuge d v) e = absurd (both_ways false refl e)
same_place_true (Descr c) (Descr d) e = ap (λ x. Descr x) (eqb-true c d e)
same_place_true (Descr c) RootWord e = absurd (both_ways false refl e)
same_place_true RootWord (InRun d v) e = absurd (both_ways false refl e)
same_place_true RootWord (InHuge d v) e = absurd (both_ways false refl e)
same_place_true RootWord (Descr d) e = absurd (both_ways false refl e)
same_place_true RootWord RootWord e = refl

-- a word of a chunk is a run's where the chunk is known to be a run
abbrev pub HasUse : (ℕ → ℕ) → Place → Type 0
HasUse class (InRun c u) = class c ≢ 0
HasUse class (InHuge c u) = class c ≡ 0
HasUse class (Descr c) = Unit {0}
HasUse class RootWord = Unit {0}

pub record IsAt (sh : Shape) (class : ℕ → ℕ) (w : ℕ) (p : Place) : Type 0 where
  pub inside : is_place sh p ≡ true
  pub word : word_of sh p ≡ w
  pub use_ : HasUse class p

abbrev pub AreAt : Shape → (ℕ → ℕ) → ℕ → Option Place → Type 0
AreAt sh class w None = Unit {0}
AreAt sh class w (Some p) = IsAt sh class w p

module _ (sh : Shape) (class : ℕ → ℕ) (w : ℕ) where
  in_chunk : (c u : ℕ) → c < chunks_of sh → u < 512 → word_of_chunk sh c + u ≡ w → AreAt sh class w (Some (chunk_place (class c) c u))
  in_chunk c u a b e = go (class c) refl
    where
      go : (n : ℕ) → class c ≡ n → AreAt sh class w (Some (chunk_place n c u))
      go zero q = record { inside = and_from (nat_lt c (chunks_of sh)) (nat_lt u 512) (lt-ltb c (chunks_of sh) a) (lt-ltb u 512 b); word = e; use_ = q }
      go (suc n) q = record { inside = and_from (nat_lt c (chunks_of sh)) (nat_lt u 512) (lt-ltb c (chunks_of sh) a) (lt-ltb u 512 b); word = e; use_ = λ z. omega arith }

  chunk_page : is_chunk_page sh (w / 512) ≡ true → AreAt sh class w (place_in class (ChunkPart (chunk_at sh (w / 512)) (w % 512)))
  chunk_page e = let t = and_parts (is_in_zone sh (w / 512)) (nat_le 1 (page_in_zone sh (w / 512))) e in
      let y = and_parts (nat_le (page_of_zone sh 0) (w / 512)) (nat_lt (w / 512) (page_of_zone sh sh.zones)) t.0 in
      let from = leb-true (page_of_zone sh 0) (w / 512) y.0 in let to = ltb-true (w / 512) (page_of_zone sh sh.zones) y.1 in let one = leb-true 1 (page_in_zone sh (w / 512)) t.1 in
      let q : chunk_at sh (w / 512) / 64 ≡ zone_at sh (w / 512) = omega arith in
      in_chunk (chunk_at sh (w / 512)) (w % 512) (omega arith) (omega arith) (omega arith)

  descriptor : is_descriptor_word sh w ≡ true → AreAt sh class w (Some (Descr (chunk_described sh w)))
  descriptor e = let t = and_parts (is_in_zone sh (w / 512) && page_in_zone sh (w / 512) == 0) (nat_lt (w % 512) 64) e in let s = and_parts (is_in_zone sh (w / 512)) (page_in_zone sh (w / 512) == 0) t.0 in
      let y = and_parts (nat_le (page_of_zone sh 0) (w / 512)) (nat_lt (w / 512) (page_of_zone sh sh.zones)) s.0 in
      let from = leb-true (page_of_zone sh 0) (w / 512) y.0 in let to = ltb-true (w / 512) (page_of_zone sh sh.zones) y.1 in let none_ = eqb-true (page_in_zone sh (w / 512)) 0 s.1 in let small = ltb-true (w % 512) 64 t.1 in
      let q : chunk_described sh w / 64 ≡ zone_at sh (w / 512) = omega arith in
      record { inside = lt-ltb (chunk_described sh w) (chunks_of sh) (omega arith); word = omega arith; use_ = tt }

  are_at : AreAt sh class w (place_at sh class w)
  are_at = cond_both (w == word_of_root sh) RootPart (if is_descriptor_word sh w then DescriptorPart (chunk_described sh w) else if is_chunk_page sh (w / 512) then ChunkPart (chunk_at sh (w / 512)) (w % 512) else OtherPart) (λ q. AreAt sh class w (place_in class q))
      (λ e. record { inside = refl; word = sym (eqb-true w (word_of_root sh) e); use_ = tt })
      (λ _. cond_both (is_descriptor_word sh w) (DescriptorPart (chunk_described sh w)) (if is_chunk_page sh (w / 512) then ChunkPart (chunk_at sh (w / 512)) (w % 512) else OtherPart) (λ q. AreAt sh class w (place_in class q)) descriptor
      (λ _. cond_both (is_chunk_page sh (w / 512)) (ChunkPart (chunk_at sh (w / 512)) (w % 512)) OtherPart (λ q. AreAt sh class w (place_in class q)) chunk_page (λ _. tt)))

  -- THE PLACE OF A WORD
  pub is_at : (p : Place) → place_at sh class w ≡ Some p → IsAt sh class w p
  is_at p e = subst (AreAt sh class w) e are_at
