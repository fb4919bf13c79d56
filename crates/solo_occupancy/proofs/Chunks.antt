-- One chunk more of a zone: how far its huge blocks reach, and which of its chunks are taken.
use Rattle.std.proofs.Common.{◌≡◌, ◌≢◌, ℕ, suc, zero, ◌+◌, ◌*◌, ◌/◌, ◌↔◌, ◌&&◌, ◌||◌, nat_lt, Bool, true, false, List, [], ◌∷◌, ◌++◌, sym, ap, ◌∙◌, arith, add-one, add-zero, zero-add, below_more, refl}
use Rattle.std.specs.Int.{bit_at}
use Rattle.std.specs.List.{list_any, range_with_len}
use Rattle.std.proofs.lemmas.Bool.{false≢true}
use Rattle.std.proofs.lemmas.List.Recursion.{or_push}
use Rattle.solo_view.specs.Blocks.{zone_page, is_run, is_huge}
use Rattle.solo_view.specs.Occupancy.{is_chunk_taken, reaches}
use Rattle.solo_occupancy.specs.declared.taken.TakenChunks.{TakenChunks}
use Rattle.solo_occupancy.specs.Words.{TellsChunks}

range-more : (a n : ℕ) → range_with_len a (n + 1) ≡ range_with_len a n ++ (a + n) ∷ []
range-more a zero = ap (λ m. m ∷ []) (sym (add-zero a))
range-more a (suc n) =
    let shifted : a + 1 + n ≡ a + suc n = omega arith in
    ap (range_with_len a) (add-one (suc n)) ∙ ap (λ m. a ∷ range_with_len (a + 1) m) (sym (add-one n)) ∙ ap (λ (xs : List ℕ). a ∷ xs) (range-more (a + 1) n) ∙ ap (λ m. a ∷ (range_with_len (a + 1) n ++ m ∷ [])) shifted

any-more : (p : ℕ → Bool) (n : ℕ) → list_any p (range_with_len 0 (n + 1)) ≡ (list_any p (range_with_len 0 n) || p n)
any-more p n =
    ap (list_any p) (range-more 0 n) ∙ ap (λ m. list_any p (range_with_len 0 n ++ m ∷ [])) (zero-add n)
    ∙ or_push (list_any p) p refl (λ x xs. refl) (range_with_len 0 n) n

module _ (words : ℕ → ℕ) (lanes zone i descriptor end further : ℕ) (here : words (512 * zone_page lanes zone + i) ≡ descriptor)
    (reached : (other : ℕ) → list_any (reaches words lanes zone other) (range_with_len 0 i) ≡ nat_lt other end)
    (furthest : (other : ℕ) → nat_lt other further ≡ (nat_lt other end || (is_huge descriptor && nat_lt other (i + descriptor / 256)))) where
  -- the huge blocks that begin at the chunk or before it reach this far
  reached_more : (other : ℕ) → list_any (reaches words lanes zone other) (range_with_len 0 (i + 1)) ≡ nat_lt other further
  reached_more other =
      any-more (reaches words lanes zone other) i ∙ ap (λ b. b || reaches words lanes zone other i) (reached other)
      ∙ ap (λ d. nat_lt other end || (is_huge d && nat_lt other (i + d / 256))) here ∙ sym (furthest other)

  -- and this tells whether the chunk is taken
  taken_here : is_chunk_taken words lanes zone i ≡ (is_run descriptor || nat_lt i further)
  taken_here = ap (λ b. is_run (words (512 * zone_page lanes zone + i)) || b) (reached_more i) ∙ ap (λ d. is_run d || nat_lt i further) here

module _ (words : ℕ → ℕ) (lanes zone i descriptor further bits : ℕ) (taken : TakenChunks) (before : TellsChunks words lanes zone i taken)
    (here : words (512 * zone_page lanes zone + i) ≡ descriptor)
    (furthest : (other : ℕ) → nat_lt other further ≡ (nat_lt other taken.end || (is_huge descriptor && nat_lt other (i + descriptor / 256)))) where
  abbrev T : ℕ → Bool
  T = is_chunk_taken words lanes zone

  its : T i ≡ (is_run descriptor || nat_lt i further)
  its = taken_here words lanes zone i descriptor taken.end further here before.reached furthest

  told_more : ((k : ℕ) → k ≢ i → bit_at bits k ≡ bit_at taken.bits k) → (bit_at bits i ≡ 1) ↔ (T i ≡ true) → TellsChunks words lanes zone (i + 1) record { bits = bits; end = further }
  told_more same this = record {
    reached = reached_more words lanes zone i descriptor taken.end further here before.reached furthest;
    below = below_more (λ k. (bit_at bits k ≡ 1) ↔ (T k ≡ true)) i
        (λ k low. let apart : k ≢ i = omega arith in (λ one. (before.below k low).0 (sym (same k apart) ∙ one), λ so. same k apart ∙ (before.below k low).1 so))
        this;
    above = λ k high. let apart : k ≢ i = omega arith in same k apart ∙ before.above k (omega arith);
  }

  pub told_with : (is_run descriptor || nat_lt i further) ≡ true → bit_at bits i ≡ 1 → ((k : ℕ) → k ≢ i → bit_at bits k ≡ bit_at taken.bits k)
      → TellsChunks words lanes zone (i + 1) record { bits = bits; end = further }
  told_with so set same = told_more same (λ _. its ∙ so, λ _. set)

  pub told_without : (is_run descriptor || nat_lt i further) ≡ false → bits ≡ taken.bits → TellsChunks words lanes zone (i + 1) record { bits = bits; end = further }
  told_without so is =
      let none : bit_at bits i ≡ 0 = ap (λ n. bit_at n i) is ∙ before.above i (omega arith) in
      told_more (λ k _. ap (λ n. bit_at n k) is) (λ one. absurd (omega (arith, one, none)), λ on. absurd (false≢true (sym (its ∙ so) ∙ on)))
