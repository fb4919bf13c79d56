-- The occupancy bits of a world that opens are what its words take.
use Rattle.std.specs.Prelude.{slice_index, slice_index_or}
use Rattle.std.specs.List.{range_with_len}
use Rattle.std.specs.Int.{bit_at}
use Rattle.std.proofs.Common.{◌≡◌, ℕ, ◌+◌, ◌/◌, ◌%◌, ◌^◌, ◌<◌, ⊎_elim, nat_le, nat_lt, Bool, true, false, not, ◌&&◌, ◌||◌, refl, sym, ap, ◌∙◌, subst, arith, eq-eqb, ne_eqb}
use Rattle.std.proofs.lemmas.Bool.{cases_Bool, both_ways, eqb-true, ltb-true, lt-ltb, leb-true, and_parts, and_from, false_from_ne_true}
use Rattle.std.proofs.lemmas.List.Folds.{list_any_none, list_any_at}
use Rattle.std.proofs.lemmas.List.FromFn.{length-range_with_len, get_or-range_with_len}
use Rattle.pm_layout.specs.Chunks.{chunks_of, word_of_chunk}
use Rattle.pm_layout.specs.Sizes.{blocks_of}
use Rattle.pm_view.specs.Claims.{is_run, is_huge}
use Rattle.pm_view.specs.Places.{Block, Small, Big, Root, Descr, is_place, in_span}
use Rattle.pm_view.specs.View.{Constants}
use Rattle.pm_world.specs.States.{there}
use Rattle.pm_world.specs.Lanes.{is_occupancy, is_taken}
use Rattle.pm_world.specs.Memory.{Memory, bit, huge_told, cells_of}
use Rattle.pm_world.specs.Opens.{first_of, descriptor, is_in_huge, takes, IsOpening, OpensIdle, idle_views}
use Rattle.pm_world.specs.Sizes.{ObjectsFit}
use Rattle.pm_world.specs.World.{Opening, Views, origin, ghost_of}
use Rattle.pm_world.proofs.Opened.{opened}
use Rattle.pm_world.proofs.OpenWords.{InTable}
use Rattle.pm_world.proofs.OpenChunks.{first_is}
use Rattle.pm_world.proofs.OpenGeometry.{huge_there, has_chunk, opens_in_table}

module _ (o : Opening) (views : Views) (small : (w : ℕ) → slice_index o.words w < 2 ^ 64) (table : (c : ℕ) → c < chunks_of o.shape → InTable o c) where
  abbrev has_it : ℕ → ℕ → Bool
  has_it c f = is_huge (descriptor o f) && in_span f (descriptor o f / 256) c

  in_huge : (c : ℕ) → c < chunks_of o.shape → is_in_huge o c ≡ there (origin o) (Big (first_of o c))
  in_huge c l = ⊎_elim
      (λ (t : there (origin o) (Big (first_of o c)) ≡ true). let y = huge_there o views small table (first_of o c) t in let s = sym (has_chunk o views small table (first_of o c) t c) ∙ eq-eqb (first_of o c) (first_of o c) refl in let low = ltb-true (first_of o c) (chunks_of o.shape) y.0 in
      list_any_at (λ f. is_huge (descriptor o f) && in_span f (descriptor o f / 256) c) (range_with_len 0 (chunks_of o.shape)) (first_of o c) 0 (subst (λ n. first_of o c < n) (sym (length-range_with_len 0 (chunks_of o.shape))) low)
      (ap (has_it c) (get_or-range_with_len 0 (chunks_of o.shape) (first_of o c) 0 low ∙ (let r : 0 + first_of o c ≡ first_of o c = omega arith in r)) ∙ and_from (is_huge (descriptor o (first_of o c))) (in_span (first_of o c) (descriptor o (first_of o c) / 256) c) (eq-eqb (descriptor o (first_of o c) % 256) 2 y.1.0) s) ∙ sym t)
      (λ (u : there (origin o) (Big (first_of o c)) ≡ false). list_any_none (λ f. is_huge (descriptor o f) && in_span f (descriptor o f / 256) c) (range_with_len 0 (chunks_of o.shape)) (λ i d q. let f = slice_index_or (range_with_len 0 (chunks_of o.shape)) i d in
      false_from_ne_true (has_it c f) (λ e. both_ways (there (origin o) (Big (first_of o c))) u (found f e))) ∙ sym u) (cases_Bool (there (origin o) (Big (first_of o c))))
    where
      found : (f : ℕ) → has_it c f ≡ true → there (origin o) (Big (first_of o c)) ≡ true
      found f e = let y = and_parts (is_huge (descriptor o f)) (in_span f (descriptor o f / 256) c) e in let z = leb-true f c (and_parts (nat_le f c) (nat_lt c (f + descriptor o f / 256)) y.1).0 in let p = lt-ltb f (chunks_of o.shape) (omega arith) in let two = eqb-true (descriptor o f % 256) 2 y.0 in
          subst (λ d. there (origin o) (Big d) ≡ true) (sym (first_is o small table f c (and_from (is_place o.shape (Descr f)) (has_it c f) p e)))
          (and_from (is_place o.shape (Descr f)) (huge_told (descriptor o f) 1) p (and_from (not (is_run (descriptor o f))) (bit (descriptor o f) 1) (ap not (ne_eqb (descriptor o f % 256) 1 (λ q. absurd (omega arith)))) (eq-eqb (bit_at (descriptor o f) 1) 1 (omega arith))))

  pub taken_is : (a : Block) → is_occupancy o.shape a ≡ true → takes o a ≡ is_taken (origin o) (ghost_of (opened o views (first_of o))) a
  taken_is (Small c i) e = go (nat_lt c (chunks_of o.shape)) (is_run (descriptor o c)) (nat_lt i (blocks_of (descriptor o c / 256))) (bit (slice_index o.words (word_of_chunk o.shape c)) i) (bit (slice_index o.words (word_of_chunk o.shape c + 0)) i)
      (and_parts (nat_lt c (chunks_of o.shape)) (nat_lt i 64) e).0 (ap (λ w. bit (slice_index o.words w) i) (let q : word_of_chunk o.shape c ≡ word_of_chunk o.shape c + 0 = omega arith in q))
    where
      go : (l r n y z : Bool) → l ≡ true → y ≡ z → (not (r && n) || y) ≡ (not ((l && r) && n) || ((r && ((l && true) && z)) || false))
      go true true true y true a q = q
      go true true true y false a q = q
      go true true false y z a q = refl
      go true false n y z a q = refl
      go false r n y z a q = absurd (both_ways false refl a)
  taken_is (Big c) e = ap (λ t. is_run (descriptor o c) || t) (in_huge c (ltb-true c (chunks_of o.shape) e)) ∙ go (nat_lt c (chunks_of o.shape)) (is_run (descriptor o c)) (there (origin o) (Big (first_of o c))) e
    where
      go : (l r t : Bool) → l ≡ true → (r || t) ≡ ((l && r) || (t || false))
      go true true t a = refl
      go true false true a = refl
      go true false false a = refl
      go false r t a = absurd (both_ways false refl a)
  taken_is Root e = refl

-- A WORLD OPENS where each descriptor is one of the table, and each object fits its block
pub opens_taken : (o : Opening) (mem : Memory) (fixed : ℕ → Constants) (generation : ℕ → ℕ) → IsOpening o mem fixed generation → ((c : ℕ) → c < chunks_of o.shape → InTable o c)
    → ((a : Block) → is_occupancy o.shape a ≡ true → (cells_of o.shape mem).occ a ≡ takes o a) → ObjectsFit o (opened o (idle_views fixed generation) (first_of o)) → OpensIdle o mem fixed generation
opens_taken o mem fixed generation x table occ fits = (opened o (idle_views fixed generation) (first_of o), opens_in_table o mem fixed generation x table (λ a e. occ a e ∙ taken_is o (idle_views fixed generation) x.small table a e), refl, fits, refl)
