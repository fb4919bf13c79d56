use Rattle.std.proofs.Common.{refl, Vec, Global, ◌≡◌, ◌≢◌, ℕ, ◌/◌, ◌%◌, ⊎_elim, Bool, true, false, ◌==◌, ◌&&◌, ◌||◌, slice_index, length, sym, ap, ◌∙◌, arith, eq-eqb, ne_eqb}
use Rattle.std.proofs.lemmas.Bool.{cases_eq}
use Rattle.pm_layout.specs.Chunks.{chunks_of}
use Rattle.pm_view.specs.Places.{Big}
use Rattle.pm_world.specs.Memory.{bit}
use Rattle.pm_world.specs.Opens.{descriptor, takes}
use Rattle.pm_shared.specs.Openings.{pool_opening}
use Rattle.pm_shared.proofs.TakenChunks.{reached_more, taken_here}
use Rattle.pm_shared.proofs.occupancy.zone_words.Goals.{then-is_taken, else-is_taken}
use Rattle.pm_shared.proofs.occupancy.zone_words.Goals as goal

pub loop-chunk-preserved : goal.loop-chunk-preserved
loop-chunk-preserved c = record {
  count = elim c.if-is_taken.branch [
    | then-is_taken w ↦ ap (λ (z : Vec ℕ Global). length z.items) w.zones-is ∙ (w.set_chunk.ensures.count ∙ c.loop-chunk.invariant.count)
    | else-is_taken w ↦ ap (λ (z : Vec ℕ Global). length z.items) w.zones-is ∙ c.loop-chunk.invariant.count
  ];
  reached = reached_more d n x c.further_end-end.result here c.loop-chunk.end c.loop-chunk.invariant.reached c.further_end-end.ensures;
  before = λ k l. ⊎_elim (λ (e : k ≡ n). at_it k e) (λ (ne : k ≢ n). marked k ∙ (ap (λ t. is && t || old k) (ne_eqb k n ne) ∙ (none is (old k) ∙ c.loop-chunk.invariant.before k (omega arith)))) (cases_eq k n);
  after = λ k l. marked k ∙ (ap (λ t. is && t || old k) (ne_eqb k n (λ e. omega arith)) ∙ (none is (old k) ∙ c.loop-chunk.invariant.after k (omega arith)));
}
  where
    n : ℕ
    n = c.loop-chunk.chunk

    x : ℕ
    x = slice_index c.args.words.now c.descriptor_at.result

    d : ℕ → ℕ
    d = descriptor (pool_opening c.args.shape 0 c.args.words.now)

    is : Bool
    is = c.is_taken.result

    old : ℕ → Bool
    old k = bit (slice_index c.loop-chunk.zones.items (k / 64)) (k % 64)

    here : d n ≡ x
    here = ap (slice_index c.args.words.now) (sym c.descriptor_at.ensures)

    none : (a b : Bool) → (a && false || b) ≡ b
    none true b = refl
    none false b = refl

    all : (a : Bool) → (a && true || false) ≡ a
    all true = refl
    all false = refl

    marked : (k : ℕ) → bit (slice_index c.if-is_taken.zones.items (k / 64)) (k % 64) ≡ (is && (k == n) || old k)
    marked k = elim c.if-is_taken.branch [
      | then-is_taken w ↦ ap bits w.zones-is ∙ (w.set_chunk.ensures.bits k ∙ ap (λ t. t && (k == n) || old k) (sym w.if-is_taken.true))
      | else-is_taken w ↦ ap bits w.zones-is ∙ ap (λ t. t && (k == n) || old k) (sym w.if-is_taken.false)
    ]
      where
        bits : Vec ℕ Global → Bool
        bits z = bit (slice_index z.items (k / 64)) (k % 64)

    at_it : (k : ℕ) → k ≡ n → bit (slice_index c.if-is_taken.zones.items (k / 64)) (k % 64) ≡ takes (pool_opening c.args.shape 0 c.args.words.now) (Big k)
    at_it k e = let inside = c.loop-chunk-test.true in marked k ∙ (ap (λ t. is && t || old k) (eq-eqb k n e) ∙ (ap (λ t. is && true || t) (c.loop-chunk.invariant.after k (omega arith)) ∙ (all is ∙ (c.is_taken.ensures
        ∙ (sym (taken_here d n x c.further_end-end.result here (chunks_of c.args.shape) (omega (arith, inside)) (reached_more d n x c.further_end-end.result here c.loop-chunk.end c.loop-chunk.invariant.reached c.further_end-end.ensures n))
        ∙ ap (λ m. takes (pool_opening c.args.shape 0 c.args.words.now) (Big m)) (sym e))))))
