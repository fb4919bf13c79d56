use Rattle.std.proofs.Common.{◌≡◌, ◌≢◌, ℕ, ◌+◌, ◌*◌, ◌/◌, ◌<◌, ⊎_elim, not, ◌&&◌, ◌||◌, nat_lt, slice_index, set, length, sym, ap, ◌∙◌, arith, get_or-set_same, get_or-set_other, length-set}
use Rattle.std.proofs.lemmas.Bool.{cases_eq}
use Rattle.pm_layout.specs.Chunks.{page_of_chunk, word_of_chunk, word_of_descriptor}
use Rattle.pm_layout.specs.Sizes.{blocks_of}
use Rattle.pm_view.specs.Claims.{is_run}
use Rattle.pm_view.specs.Places.{Small}
use Rattle.pm_world.proofs.WordPlaces.{page_apart}
use Rattle.pm_world.specs.Memory.{bit}
use Rattle.pm_world.specs.Opens.{takes}
use Rattle.pm_shared.specs.Openings.{pool_opening}
use Rattle.pm_shared.proofs.occupancy.run_words.Goals as goal

pub loop-chunk-preserved : goal.loop-chunk-preserved
loop-chunk-preserved c = record {
  count = length-set c.loop-chunk.runs.items c.page_of-page.result c.taken_blocks.result ∙ c.loop-chunk.invariant.count;
  each = λ k i l low. ⊎_elim (λ (e : k ≡ n). here k i e low) (λ (ne : k ≢ n). other k i ne (omega arith) low) (cases_eq k n);
}
  where
    n : ℕ
    n = c.loop-chunk.chunk

    sh : Rattle.pm_layout.specs.declared.shape.Shape.Shape
    sh = c.args.shape

    ws : Rattle.std.proofs.Common.List ℕ
    ws = c.args.words.now

    inside : c.page_of-page.result < length c.loop-chunk.runs.items
    inside = let q = c.loop-chunk.invariant.count in let p = c.page_of-page.ensures in let t = c.loop-chunk-test.true in omega (arith, q, p, t)

    here : (k i : ℕ) → k ≡ n → i < 64 → bit (slice_index (set c.loop-chunk.runs.items c.page_of-page.result c.taken_blocks.result) (page_of_chunk sh k)) i ≡ takes (pool_opening sh 0 ws) (Small k i)
    here k i e low = ap (λ m. bit (slice_index (set c.loop-chunk.runs.items c.page_of-page.result c.taken_blocks.result) m) i) (ap (page_of_chunk sh) e ∙ sym c.page_of-page.ensures)
        ∙ (ap (λ x. bit x i) (get_or-set_same c.loop-chunk.runs.items c.page_of-page.result c.taken_blocks.result 0 inside)
        ∙ (c.taken_blocks.ensures i low
        ∙ (ap (λ w. not (is_run (slice_index ws w) && nat_lt i (blocks_of (slice_index ws w / 256))) || bit (slice_index ws (c.page_of-page.result * 512)) i) c.descriptor_at.ensures
        ∙ (ap (λ w. not (is_run (slice_index ws (word_of_descriptor sh n)) && nat_lt i (blocks_of (slice_index ws (word_of_descriptor sh n) / 256))) || bit (slice_index ws w) i) (let p = c.page_of-page.ensures in let q : c.page_of-page.result * 512 ≡ word_of_chunk sh n = omega (arith, p) in q)
        ∙ ap (λ m. takes (pool_opening sh 0 ws) (Small m i)) (sym e)))))

    other : (k i : ℕ) → k ≢ n → k < n → i < 64 → bit (slice_index (set c.loop-chunk.runs.items c.page_of-page.result c.taken_blocks.result) (page_of_chunk sh k)) i ≡ takes (pool_opening sh 0 ws) (Small k i)
    other k i ne l low = ap (λ x. bit x i) (get_or-set_other c.loop-chunk.runs.items c.page_of-page.result (page_of_chunk sh k) c.taken_blocks.result 0 (λ q. ne (page_apart sh k n (q ∙ c.page_of-page.ensures))))
        ∙ c.loop-chunk.invariant.each k i l low
