use Rattle.std.proofs.Common.{get_or, ◌≡◌, inr, ℕ, ◌*◌, ◌≤◌, List, length, sym, ◌∙◌, ap, subst, arith}
use Rattle.std.specs.List.{count_by, range_with_len}
use Rattle.pm_image.specs.Blocks.{class_in, descriptor_word}
use Rattle.pm_image.specs.Logs.{area_word, recovered_at}
use Rattle.pm_image.specs.Means.{IsMeaning}
use Rattle.pm_info.specs.Facts.{is_run}
use Rattle.pm_info.proofs.Sizes.{lanes_there, words_there}
use Rattle.pm_info.proofs.counts.run_count.Goals as goal

pub runs_in-requires-clause-size : goal.runs_in-requires-clause-size
runs_in-requires-clause-size c =
    let is : IsMeaning c.in_ok-recovered.recovered c.args.pool.now = subst (λ (ws : List ℕ). IsMeaning ws c.args.pool.now) (sym c.in_ok-recovered.ensures) c.requires in
    let long = (c.in-Ok.ensures.recovered c.args.pool.now is).as_long in
    let same = words_there c.in_ok-recovered.recovered c.args.pool.now is in
    omega (arith, long, same)

pub runs_in-requires-clause-small : goal.runs_in-requires-clause-small
runs_in-requires-clause-small c =
    let is : IsMeaning c.in_ok-recovered.recovered c.args.pool.now = subst (λ (ws : List ℕ). IsMeaning ws c.args.pool.now) (sym c.in_ok-recovered.ensures) c.requires in
    let long = (c.in-Ok.ensures.recovered c.args.pool.now is).as_long in
    let small = (lanes_there c.in_ok-recovered.recovered c.args.pool.now is).small in
    omega (arith, long, small)

pub returns : goal.returns
returns c =
    let is : IsMeaning c.in_ok-recovered.recovered c.args.pool.now = subst (λ (ws : List ℕ). IsMeaning ws c.args.pool.now) (sym c.in_ok-recovered.ensures) c.requires in
    let done = c.in-Ok.ensures.recovered c.args.pool.now is in
    let lanes : ℕ = c.args.pool.now.lanes in
    let behind : (chunk : ℕ) → area_word lanes ≤ descriptor_word lanes chunk = λ chunk. omega arith in
    let same : (chunk : ℕ) → get_or c.recover.new.image (descriptor_word lanes chunk) 0 ≡ recovered_at c.args.image.now lanes (descriptor_word lanes chunk) =
    λ chunk. done.words (descriptor_word lanes chunk) (inr (behind chunk)) ∙ ap (λ (ws : List ℕ). recovered_at ws lanes (descriptor_word lanes chunk)) c.in_ok-recovered.ensures in
    c.runs_in.ensures ∙ (λ i. count_by (λ chunk. is_run (class_in (same chunk i))) (range_with_len 0 (64 * c.args.pool.now.zones)))
