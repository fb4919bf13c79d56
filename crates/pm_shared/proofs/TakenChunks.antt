-- WHAT A POOL'S WORDS TAKE: how far the huge blocks reach that begin at a chunk or before it, and so whether the chunk is taken.
use Rattle.std.proofs.Common.{◌≡◌, ◌≢◌, ℕ, zero, suc, ◌+◌, ◌-◌, ◌*◌, ◌/◌, ◌%◌, ◌^◌, ◌<◌, ◌≤◌, ⊎_elim, nat_lt, Bool, true, false, not, ◌==◌, ◌&&◌, ◌||◌, List, [], ◌∷◌, ◌++◌, slice_index, set, length, refl, sym, ap, ◌∙◌, arith, add-one, add-zero, zero-add, eq-eqb, ne_eqb, get_or-set_same, get_or-set_other, bit_or}
use Rattle.std.specs.List.{list_any, range_with_len}
use Rattle.std.proofs.lemmas.Bool.{cases_eq, cases_lt, and_right, le-leb, le-ltb, lt-leb, lt-ltb}
use Rattle.std.proofs.lemmas.List.Recursion.{or_push}
use Rattle.std.proofs.lemmas.Nat.Bits.{bit_at_mask_below, bit_at_mask_inside, ones_shl}
use Rattle.std.proofs.lemmas.Nat.{pow_below}
use Rattle.pm_view.specs.Claims.{is_run, is_huge}
use Rattle.pm_view.specs.Places.{in_span}
use Rattle.pm_world.proofs.WordPlaces.{or_bit, pow_bit}
use Rattle.pm_world.specs.Memory.{bit}

range_more : (a n : ℕ) → range_with_len a (n + 1) ≡ range_with_len a n ++ (a + n) ∷ []
range_more a zero = ap (λ m. m ∷ []) (sym (add-zero a))
range_more a (suc n) =
    let shifted : a + 1 + n ≡ a + suc n = omega arith in
    ap (range_with_len a) (add-one (suc n)) ∙ ap (λ m. a ∷ range_with_len (a + 1) m) (sym (add-one n)) ∙ ap (λ (xs : List ℕ). a ∷ xs) (range_more (a + 1) n) ∙ ap (λ m. a ∷ (range_with_len (a + 1) n ++ m ∷ [])) shifted

any_more : (p : ℕ → Bool) (n : ℕ) → list_any p (range_with_len 0 (n + 1)) ≡ (list_any p (range_with_len 0 n) || p n)
any_more p n = ap (list_any p) (range_more 0 n) ∙ ap (λ m. list_any p (range_with_len 0 n ++ m ∷ [])) (zero-add n) ∙ or_push (list_any p) p refl (λ x xs. refl) (range_with_len 0 n) n

or_false : (b : Bool) → (b || false) ≡ b
or_false true = refl
or_false false = refl

-- the huge block that begins at the other chunk reaches past this one
abbrev pub reaches : (ℕ → ℕ) → ℕ → ℕ → Bool
reaches d c f = is_huge (d f) && nat_lt c (f + d f / 256)

abbrev spans : (ℕ → ℕ) → ℕ → ℕ → Bool
spans d c f = is_huge (d f) && in_span f (d f / 256) c

module _ (d : ℕ → ℕ) (n descriptor further : ℕ) (here : d n ≡ descriptor) where
  pub reached_more : (end : ℕ) → ((c : ℕ) → list_any (reaches d c) (range_with_len 0 n) ≡ nat_lt c end)
      → ((c : ℕ) → nat_lt c further ≡ (nat_lt c end || (is_huge descriptor && nat_lt c (n + descriptor / 256))))
      → (c : ℕ) → list_any (reaches d c) (range_with_len 0 (n + 1)) ≡ nat_lt c further
  reached_more end reached furthest c = any_more (reaches d c) n ∙ (ap (λ t. t || reaches d c n) (reached c) ∙ (ap (λ x. nat_lt c end || (is_huge x && nat_lt c (n + x / 256))) here ∙ sym (furthest c)))

  -- of the chunks up to this one the same ones span it and reach past it; later ones do not
  up_to : (m : ℕ) → m ≤ n + 1 → list_any (spans d n) (range_with_len 0 m) ≡ list_any (reaches d n) (range_with_len 0 m)
  up_to zero l = refl
  up_to (suc m) l = let e : suc m ≡ m + 1 = omega arith in ap (λ k. list_any (spans d n) (range_with_len 0 k)) e ∙ (any_more (spans d n) m
      ∙ (ap (λ t. t || spans d n m) (up_to m (omega arith)) ∙ (ap (λ t. list_any (reaches d n) (range_with_len 0 m) || (is_huge (d m) && (t && nat_lt n (m + d m / 256)))) (le-leb m n (omega arith))
      ∙ (sym (any_more (reaches d n) m) ∙ ap (λ k. list_any (reaches d n) (range_with_len 0 k)) (sym e)))))

  beyond : (k : ℕ) → list_any (spans d n) (range_with_len 0 (n + 1 + k)) ≡ list_any (spans d n) (range_with_len 0 (n + 1))
  beyond zero = ap (λ k. list_any (spans d n) (range_with_len 0 k)) (add-zero (n + 1))
  beyond (suc k) = let f : ℕ = n + 1 + k in let e : n + 1 + suc k ≡ f + 1 = omega arith in
      ap (λ k. list_any (spans d n) (range_with_len 0 k)) e ∙ (any_more (spans d n) f
      ∙ (ap (λ t. list_any (spans d n) (range_with_len 0 f) || t) (and_right (is_huge (d f)) (in_span f (d f / 256) n) (ap (λ t. t && nat_lt n (f + d f / 256)) (lt-leb f n (omega arith))))
      ∙ (or_false (list_any (spans d n) (range_with_len 0 f)) ∙ beyond k)))

  -- WHETHER THE CHUNK IS TAKEN
  pub taken_here : (total : ℕ) → n < total → list_any (reaches d n) (range_with_len 0 (n + 1)) ≡ nat_lt n further
      → (is_run (d n) || list_any (spans d n) (range_with_len 0 total)) ≡ (is_run descriptor || nat_lt n further)
  taken_here total inside reached = let k : ℕ = total - (n + 1) in let e : total ≡ n + 1 + k = omega arith in
      ap (λ t. is_run (d n) || t) (ap (λ m. list_any (spans d n) (range_with_len 0 m)) e ∙ (beyond k ∙ (up_to (n + 1) (omega arith) ∙ reached))) ∙ ap (λ x. is_run x || nat_lt n further) here

-- ---- BITS of the words
pub mask_bit : (k i : ℕ) → k ≤ 64 → i < 64 → bit ((2 ^ 64 - 1) * 2 ^ k % 2 ^ 64) i ≡ not (nat_lt i k)
mask_bit k i within low = ap (λ n. bit n i) (ones_shl 64 k within) ∙ ⊎_elim
    (λ (before : i < k). ap (λ x. x == 1) (bit_at_mask_below k 64 i before) ∙ ap not (sym (lt-ltb i k before)))
    (λ (past : k ≤ i). ap (λ x. x == 1) (bit_at_mask_inside k 64 i past low) ∙ ap not (sym (le-ltb i k past)))
    (cases_lt i k)

pub shifted : (k : ℕ) → k < 64 → 1 * 2 ^ k % 2 ^ 64 ≡ 2 ^ k
shifted k l = let q = pow_below k 64 l in omega (arith, q)

-- the word of a zone with the bit of one more chunk
pub set_bit : (zones : List ℕ) (n c : ℕ) → n / 64 < length zones
    → bit (slice_index (set zones (n / 64) (bit_or (slice_index zones (n / 64)) (2 ^ (n % 64)))) (c / 64)) (c % 64) ≡ ((c == n) || bit (slice_index zones (c / 64)) (c % 64))
set_bit zones n c inside = ⊎_elim
    (λ (e : c / 64 ≡ n / 64). let x : ℕ = bit_or (slice_index zones (n / 64)) (2 ^ (n % 64)) in
    ap (λ k. bit (slice_index (set zones (n / 64) x) k) (c % 64)) e ∙ (ap (λ w. bit w (c % 64)) (get_or-set_same zones (n / 64) x 0 inside)
    ∙ (or_bit (slice_index zones (n / 64)) (2 ^ (n % 64)) (c % 64) ∙ (ap (λ t. t || bit (slice_index zones (n / 64)) (c % 64)) (pow_bit (n % 64) (c % 64) ∙ same e) ∙ ap (λ k. (c == n) || bit (slice_index zones k) (c % 64)) (sym e)))))
    (λ (ne : c / 64 ≢ n / 64). ap (λ w. bit w (c % 64)) (get_or-set_other zones (n / 64) (c / 64) (bit_or (slice_index zones (n / 64)) (2 ^ (n % 64))) 0 ne)
    ∙ ap (λ t. t || bit (slice_index zones (c / 64)) (c % 64)) (sym (ne_eqb c n (λ s. ne (ap (λ k. k / 64) s)))))
    (cases_eq (c / 64) (n / 64))
  where
    same : c / 64 ≡ n / 64 → (c % 64 == n % 64) ≡ (c == n)
    same e = ⊎_elim (λ (q : c ≡ n). eq-eqb (c % 64) (n % 64) (ap (λ k. k % 64) q) ∙ sym (eq-eqb c n q))
        (λ (q : c ≢ n). ne_eqb (c % 64) (n % 64) (λ r. q (omega arith)) ∙ sym (ne_eqb c n q)) (cases_eq c n)
