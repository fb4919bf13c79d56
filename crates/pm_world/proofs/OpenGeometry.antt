-- The geometry of a world that opens fits its words; and so the world opens.
use Rattle.std.proofs.Common.{◌≡◌, ◌≢◌, ℕ, ◌+◌, ◌/◌, ◌%◌, ◌^◌, ◌<◌, ◌⊎◌, ⊎_elim, nat_le, nat_lt, true, false, not, ◌==◌, ◌&&◌, refl, sym, ap, ◌∙◌, subst, arith, eq-eqb, ne_eqb}
use Rattle.std.proofs.lemmas.Bool.{cases_eq, cases_Bool, both_ways, ltb-true, lt-ltb, leb-true, le-leb, and_parts, and_from, and_right}
use Rattle.std.proofs.lemmas.Nat.Bits.{bit_at-zero}
use Rattle.std.specs.Prelude.{slice_index}
use Rattle.pm_layout.specs.Chunks.{chunks_of, word_of_descriptor}
use Rattle.pm_view.specs.Claims.{is_run, is_huge}
use Rattle.pm_view.specs.Places.{Block, Descr, Big, is_place, in_span}
use Rattle.pm_view.specs.View.{Constants}
use Rattle.pm_world.specs.States.{there, val}
use Rattle.pm_world.specs.Lanes.{GeoFits, is_occupancy, is_taken}
use Rattle.pm_world.specs.Memory.{Memory, bit, huge_told, cells_of}
use Rattle.pm_world.specs.Opens.{first_of, is_head, descriptor, IsOpening, idle_views}
use Rattle.pm_world.specs.World.{Opening, Views, origin, ghost_of, World}
use Rattle.pm_world.proofs.Opened.{opened, opens}
use Rattle.pm_world.proofs.OpenWords.{IsRunIn, IsHugeIn, InTable, classes, within, zeros}
use Rattle.pm_world.proofs.OpenChunks.{first_is, first_cases, twice}
use Rattle.pm_world.proofs.Values.{val_from}

module _ (o : Opening) (views : Views) (small : (w : ℕ) → slice_index o.words w < 2 ^ 64) (table : (c : ℕ) → c < chunks_of o.shape → InTable o c) where
  -- a huge block that is allocated
  pub huge_there : (f : ℕ) → there (origin o) (Big f) ≡ true → (is_place o.shape (Descr f) ≡ true) × IsHugeIn o f
  huge_there f t = let y = and_parts (is_place o.shape (Descr f)) (huge_told (descriptor o f) 1) t in let z = and_parts (not (is_run (descriptor o f))) (bit (descriptor o f) 1) y.1 in (
    y.0,
    ⊎_elim (λ (d : descriptor o f ≡ 0). absurd (both_ways (bit (descriptor o f) 1) (ap (λ q. bit q 1) d ∙ ap (λ q. q == 1) (bit_at-zero 1)) z.1))
        (λ (d : IsRunIn o f ⊎ IsHugeIn o f). ⊎_elim (λ (r : IsRunIn o f). absurd (both_ways (not (is_run (descriptor o f))) (ap not (eq-eqb (descriptor o f % 256) 1 r.0)) z.0)) (λ (r : IsHugeIn o f). r) d) (table f (ltb-true f (chunks_of o.shape) y.0)),
  )

  pub no_run_word : (f : ℕ) → IsHugeIn o f → is_run (descriptor o f) ≡ false
  no_run_word f h = let q = h.0 in ne_eqb (descriptor o f % 256) 1 (λ e. absurd (omega arith))

  told : (f : ℕ) → there (origin o) (Big f) ≡ true → (b : ℕ) → origin o (Descr f) b ≡ bit (descriptor o f) b
  told f t b = let y = huge_there f t in ap (λ q. q && huge_told (descriptor o f) b) y.0 ∙ ap (λ q. not q && bit (descriptor o f) b) (no_run_word f y.1)

  span_told : (f : ℕ) → there (origin o) (Big f) ≡ true → val (origin o (Descr f)) 8 56 ≡ descriptor o f / 256
  span_told f t = ap (λ w. val w 8 56) (λ i b. told f t b i) ∙ (val_from (descriptor o f) 8 56 ∙ (let s = small (word_of_descriptor o.shape f) in omega arith))

  head_of : (f c : ℕ) → there (origin o) (Big f) ≡ true → in_span f (descriptor o f / 256) c ≡ true → is_head o f c ≡ true
  head_of f c t s = let y = huge_there f t in and_from (is_place o.shape (Descr f)) (is_huge (descriptor o f) && in_span f (descriptor o f / 256) c) y.0 (and_from (is_huge (descriptor o f)) (in_span f (descriptor o f / 256) c) (eq-eqb (descriptor o f % 256) 2 y.1.0) s)

  in_own : (f : ℕ) → there (origin o) (Big f) ≡ true → in_span f (descriptor o f / 256) f ≡ true
  in_own f t = let y = huge_there f t in let some = y.1.1 in and_from (nat_le f f) (nat_lt f (f + descriptor o f / 256)) (le-leb f f (omega arith)) (lt-ltb f (f + descriptor o f / 256) (omega arith))

  pub has_chunk : (f : ℕ) → there (origin o) (Big f) ≡ true → (c : ℕ) → (first_of o c == f) ≡ in_span f (descriptor o f / 256) c
  has_chunk f t c = ⊎_elim (λ (s : in_span f (descriptor o f / 256) c ≡ true). eq-eqb (first_of o c) f (first_is o small table f c (head_of f c t s)) ∙ sym s)
      (λ (u : in_span f (descriptor o f / 256) c ≡ false). ne_eqb (first_of o c) f (λ q. ⊎_elim
      (λ (h : is_head o (first_of o c) c ≡ true). let z = subst (λ e. is_head o e c ≡ true) q h in both_ways (in_span f (descriptor o f / 256) c) u (and_parts (is_huge (descriptor o f)) (in_span f (descriptor o f / 256) c) (and_parts (is_place o.shape (Descr f)) (is_huge (descriptor o f) && in_span f (descriptor o f / 256) c) z).1).1)
      (λ (r : first_of o c ≡ c). both_ways (in_span f (descriptor o f / 256) c) u (ap (in_span f (descriptor o f / 256)) (sym r ∙ q) ∙ in_own f t)) (first_cases o small table c)) ∙ sym u) (cases_Bool (in_span f (descriptor o f / 256) c))

  no_run_in : (c : ℕ) → there (origin o) (Big (first_of o c)) ≡ true → (is_place o.shape (Descr c) && is_run (descriptor o c)) ≡ false
  no_run_in c t = let f = first_of o c in let y = huge_there (first_of o c) t in let s = sym (has_chunk (first_of o c) t c) ∙ eq-eqb (first_of o c) (first_of o c) refl in
      let z = and_parts (nat_le (first_of o c) c) (nat_lt c (first_of o c + descriptor o (first_of o c) / 256)) s in let l = leb-true (first_of o c) c z.0 in let r = ltb-true c (first_of o c + descriptor o (first_of o c) / 256) z.1 in
      and_right (is_place o.shape (Descr c)) (is_run (descriptor o c)) (⊎_elim (λ (e : first_of o c ≡ c). ap (λ d. is_run (descriptor o d)) (sym e) ∙ no_run_word (first_of o c) y.1)
      (λ (ne : first_of o c ≢ c). let d = y.1.3 c (omega arith) r in ne_eqb (descriptor o c % 256) 1 (λ e. absurd (omega arith))) (cases_eq (first_of o c) c))

  pub geometry_fits : GeoFits o.shape (origin o) (ghost_of (opened o views (first_of o)))
  geometry_fits = record {
    twice = twice o small table;
    classes = classes o views (first_of o) table;
    shape = λ f t c. has_chunk f t c ∙ ap (λ m. in_span f m c) (sym (span_told f t));
    head = λ f t. first_is o small table f f (head_of f f t (in_own f t));
    huge = no_run_in;
    zeros = zeros o views (first_of o) table;
    in_zone = λ f t. let y = huge_there f t in let room = y.1.2 in let e = span_told f t in omega arith;
    within = within o views (first_of o) table;
  }

-- A WORLD OPENS where each descriptor is one of the table, and an occupancy bit is set exactly where the words take it
pub opens_in_table : (o : Opening) (mem : Memory) (fixed : ℕ → Constants) (generation : ℕ → ℕ) → IsOpening o mem fixed generation → ((c : ℕ) → c < chunks_of o.shape → InTable o c)
    → ((a : Block) → is_occupancy o.shape a ≡ true → (cells_of o.shape mem).occ a ≡ is_taken (origin o) (ghost_of (opened o (idle_views fixed generation) (first_of o))) a) → World o mem (idle_views fixed generation) (opened o (idle_views fixed generation) (first_of o))
opens_in_table o mem fixed generation x table occ = opens o mem fixed generation (first_of o) x (geometry_fits o (idle_views fixed generation) x.small table) occ
