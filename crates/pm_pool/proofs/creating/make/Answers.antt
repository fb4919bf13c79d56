use Rattle.std.proofs.Common.{◌≡◌, ◌/◌, ℕ, List, length, slice_index, slice_set, replicate, ◌∙◌, ap}
use Rattle.std.proofs.lemmas.List.{length-replicate}
use Rattle.pm_header.specs.Spelling.{with_pairs}
use Rattle.pm_pool.specs.Created.{Wanted, header_page}
use Rattle.pm_pool.proofs.Whole.{Parts, created_whole, replicate_zero}
use Rattle.pm_pool.proofs.creating.make.Goals as goal

pub returns : goal.returns
unfolding header_page
returns c =
    let w : Wanted = record { lanes = c.args.shape.lanes; zones = c.args.shape.zones; id = c.args.id; layout = c.args.name; root = c.args.root } in
    let zeros : c.in_ok-image.image ≡ replicate (c.size-2.result / 8) 0 = c.in_ok-image.ensures in
    let parts : Parts w c.in_ok-image.image c.encode.new.page c.put_header_page.new.image c.put_generations.new.image c.put_root.new.image = record {
      page_is = c.encode.ensures ∙ (λ i. with_pairs (slice_set (replicate 512 0) 64 (c.root_offset.ensures i)) (record { version = 1; id = c.args.id; lanes = c.args.shape.lanes; zones = c.args.shape.zones; bytes = c.size.ensures.value i; name = c.args.name }));
      zero = λ i. ap (λ (xs : List ℕ). slice_index xs i) zeros ∙ replicate_zero (c.size-2.result / 8) i;
      long = c.put_root.ensures.long ∙ c.put_generations.ensures.long ∙ c.put_header_page.ensures.long ∙ ap (λ (xs : List ℕ). length xs) zeros ∙ length-replicate (c.size-2.result / 8) 0 ∙ ap (λ (n : ℕ). n / 8) c.size-2.ensures.value;
      page_put = c.put_header_page.ensures.page;
      page_only = c.put_header_page.ensures.others;
      generations_put = c.put_generations.ensures.generations;
      generations_only = c.put_generations.ensures.others;
      root_only = c.put_root.ensures.before;
      root_put = c.put_root.ensures.zones;
    } in
    created_whole w c.in_ok-image.image c.encode.new.page c.put_header_page.new.image c.put_generations.new.image c.put_root.new.image parts
