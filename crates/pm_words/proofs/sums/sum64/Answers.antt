use Rattle.std.proofs.Common.{refl}
use Rattle.pm_words.proofs.Running.{Sums_more, sum64-Sums}
use Rattle.pm_words.proofs.sums.sum64.Goals as goal

pub loop-word-init : goal.loop-word-init
loop-word-init c = record { low_is = refl; high_is = refl }

pub loop-word-preserved : goal.loop-word-preserved
loop-word-preserved c = Sums_more c.args.words.now c.loop-word.word-index c.loop-word.low c.loop-word.high _ _ c.loop-word-test.true c.low_half-low.ensures c.high_half-low.ensures c.loop-word.invariant

pub returns : goal.returns
returns c =
    sum64-Sums c.args.words.now c.loop-word.word-index c.loop-word.low c.loop-word.high c.from.result c.from-2.result c.loop-word-test.false c.loop-word.invariant c.from.ensures c.from-2.ensures
