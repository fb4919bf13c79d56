use Rattle.std.proofs.Common.{◌≡◌, ◌+◌, ◌-◌, ℕ, Bool, eqb, true, false, get_or, sym, arith}
use Rattle.std.proofs.lemmas.Bool.Decides.{nat_tests}
use Rattle.pm_image.specs.HeapFaults.{zeros_behind}
use Rattle.pm_image.proofs.Ranges.{all_more, all_fails, all_at_end}
use Rattle.pm_image.proofs.chunks.are_zero_behind.Goals as goal

pub returns-then-word-ne0 : goal.returns-then-word-ne0
unfolding zeros_behind
returns-then-word-ne0 c =
    let is_zero : ℕ → Bool = λ k. eqb (get_or c.args.words.now (c.args.at + 1 + k) 0) 0 in
    let here : is_zero c.loop-behind.behind ≡ false = grind (arith, nat_tests) in
    sym (all_fails is_zero (c.args.chunks - 1) c.loop-behind.behind (omega arith) here)

pub loop-behind-preserved : goal.loop-behind-preserved
loop-behind-preserved c =
    let is_zero : ℕ → Bool = λ k. eqb (get_or c.args.words.now (c.args.at + 1 + k) 0) 0 in
    let here : is_zero c.loop-behind.behind ≡ true = grind (arith, nat_tests) in
    all_more is_zero c.loop-behind.behind c.loop-behind.invariant here

pub returns : goal.returns
unfolding zeros_behind
returns c =
    let is_zero : ℕ → Bool = λ k. eqb (get_or c.args.words.now (c.args.at + 1 + k) 0) 0 in
    sym (all_at_end is_zero (c.args.chunks - 1) c.loop-behind.behind (omega arith) c.loop-behind.invariant)
