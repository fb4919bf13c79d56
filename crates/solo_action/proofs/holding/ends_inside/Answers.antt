use Rattle.std.proofs.Common.{◌-◌, ◌^◌, ◌<◌, rules, arith}
use Rattle.std.proofs.lemmas.Bool.{leb-false, leb-true}
use Rattle.solo_action.proofs.LookedAgain.{ends_so, passes_so}
use Rattle.solo_action.proofs.holding.ends_inside.Goals as goal

pub returns-then-size-ge-WORD_BYTES-clause-inside : goal.returns-then-size-ge-WORD_BYTES-clause-inside
returns-then-size-ge-WORD_BYTES-clause-inside g c ends v there is =
    let made = c.load-size.ensures v there in
    let low : c.args.action.value < 2 ^ 64 = search rules in
    let few = c.if-size-ge-WORD_BYTES.true in
    let most = leb-true c.args.action.off (c.load-size.result - 8) ends in
    ends_so v c.args.action is c.load-size.result made.1 (g.M.LaneMem.at c.load-size.new.self) made.0 c.requires.aligned low (omega (arith, few, most))

pub returns-then-size-ge-WORD_BYTES-clause-past : goal.returns-then-size-ge-WORD_BYTES-clause-past
returns-then-size-ge-WORD_BYTES-clause-past g c past v there is =
    let made = c.load-size.ensures v there in
    let few = c.if-size-ge-WORD_BYTES.true in
    let more = leb-false c.args.action.off (c.load-size.result - 8) past in
    passes_so v c.args.action is c.load-size.result made.1 (g.M.LaneMem.at c.load-size.new.self) made.0 (omega (arith, few, more))

pub returns-else-size-ge-WORD_BYTES-clause-past : goal.returns-else-size-ge-WORD_BYTES-clause-past
returns-else-size-ge-WORD_BYTES-clause-past g c past v there is =
    let made = c.load-size.ensures v there in
    let few = c.if-size-ge-WORD_BYTES.false in
    passes_so v c.args.action is c.load-size.result made.1 (g.M.LaneMem.at c.load-size.new.self) made.0 (omega (arith, few))
