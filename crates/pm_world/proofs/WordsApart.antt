-- Two places of a pool that are one word are that word in its two uses; and no place lies in a lane's area.
use Rattle.std.proofs.Common.{◌≡◌, ℕ, ◌+◌, ◌<◌, nat_lt, true, ◌&&◌, refl, sym, ap, ◌∙◌, arith}
use Rattle.std.proofs.lemmas.Bool.{ltb-true, and_parts}
use Rattle.pm_layout.specs.declared.shape.Shape.{Shape}
use Rattle.pm_layout.specs.Areas.{word_of_generation}
use Rattle.pm_layout.specs.Chunks.{chunks_of, page_of_chunk, word_of_chunk, word_of_descriptor}
use Rattle.pm_view.specs.Places.{Place, InRun, InHuge, Descr, RootWord, is_place, word_of}
use Rattle.pm_world.specs.States.{cell}

module _ (sh : Shape) where
  -- in a chunk: which one, and which word of it
  same_chunk : (c d w u : ℕ) → w < 512 → u < 512 → word_of_chunk sh c + w ≡ word_of_chunk sh d + u → c ≡ d
  same_chunk c d w u a b e = let p : page_of_chunk sh c ≡ page_of_chunk sh d = omega arith in omega arith

  same_word : (c d w u : ℕ) → w < 512 → u < 512 → word_of_chunk sh c + w ≡ word_of_chunk sh d + u → w ≡ u
  same_word c d w u a b e = omega arith

  same_descriptor : (c d : ℕ) → word_of_descriptor sh c ≡ word_of_descriptor sh d → c ≡ d
  same_descriptor c d e = omega arith

  not_descriptor : (c d w : ℕ) → w < 512 → word_of_chunk sh c + w ≡ word_of_descriptor sh d → ⊥
  not_descriptor c d w a e = omega arith

  in_chunk : (c w : ℕ) → (nat_lt c (chunks_of sh) && nat_lt w 512) ≡ true → w < 512
  in_chunk c w e = ltb-true w 512 (and_parts (nat_lt c (chunks_of sh)) (nat_lt w 512) e).1

  chunk_cells : (c d w u : ℕ) → w < 512 → u < 512 → word_of_chunk sh c + w ≡ word_of_chunk sh d + u → InRun c w ≡ InRun d u
  chunk_cells c d w u a b e = ap (λ x. InRun x w) (same_chunk c d w u a b e) ∙ ap (λ x. InRun d x) (same_word c d w u a b e)

  pub one_cell : (p q : Place) → is_place sh p ≡ true → is_place sh q ≡ true → word_of sh p ≡ word_of sh q → cell p ≡ cell q
  one_cell (InRun c w) (InRun d u) a b e = chunk_cells c d w u (in_chunk c w a) (in_chunk d u b) e
  one_cell (InRun c w) (InHuge d u) a b e = chunk_cells c d w u (in_chunk c w a) (in_chunk d u b) e
  one_cell (InRun c w) (Descr d) a b e = absurd (not_descriptor c d w (in_chunk c w a) e)
  one_cell (InRun c w) RootWord a b e = absurd (omega arith)
  one_cell (InHuge c w) (InRun d u) a b e = chunk_cells c d w u (in_chunk c w a) (in_chunk d u b) e
  one_cell (InHuge c w) (InHuge d u) a b e = chunk_cells c d w u (in_chunk c w a) (in_chunk d u b) e
  one_cell (InHuge c w) (Descr d) a b e = absurd (not_descriptor c d w (in_chunk c w a) e)
  one_cell (InHuge c w) RootWord a b e = absurd (omega arith)
  one_cell (Descr c) (InRun d u) a b e = absurd (not_descriptor d c u (in_chunk d u b) (sym e))
  one_cell (Descr c) (InHuge d u) a b e = absurd (not_descriptor d c u (in_chunk d u b) (sym e))
  one_cell (Descr c) (Descr d) a b e = ap (λ x. Descr x) (same_descriptor c d e)
  one_cell (Descr c) RootWord a b e = absurd (omega arith)
  one_cell RootWord (InRun d u) a b e = absurd (omega arith)
  one_cell RootWord (InHuge d u) a b e = absurd (omega arith)
  one_cell RootWord (Descr d) a b e = absurd (omega arith)
  one_cell RootWord RootWord a b e = refl

  -- a lane's area, of 1024 words, has no place
  pub no_area : (p : Place) (lane i : ℕ) → lane < sh.lanes → i < 1024 → is_place sh p ≡ true → word_of sh p ≡ word_of_generation sh lane + i → ⊥
  no_area (InRun c w) lane i a b v e = let z = in_chunk c w v in omega arith
  no_area (InHuge c w) lane i a b v e = let z = in_chunk c w v in omega arith
  no_area (Descr c) lane i a b v e = omega arith
  no_area RootWord lane i a b v e = omega arith
