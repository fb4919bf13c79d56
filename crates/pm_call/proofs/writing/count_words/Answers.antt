use Rattle.std.proofs.Common.{◌≡◌, ◌<◌, length, sym, ap, ◌∙◌, arith, rules}
use Rattle.std.proofs.lemmas.List.FromFn.{length-range_with_len}
use Rattle.pm_model.specs.Transaction.{covered_words}
use Rattle.pm_crash.proofs.Covered.{count_of, covers_none, covers_some}
use Rattle.pm_call.proofs.writing.count_words.Goals as goal

pub returns-then-len-eq0 : goal.returns-then-len-eq0
returns-then-len-eq0 c = let none : c.args.len ≡ 0 = search rules in sym (ap length (ap (covered_words c.args.place) none ∙ covers_none c.args.place))

pub returns : goal.returns
returns c = let some : 0 < c.args.len = grind arith in
    sym (ap length (covers_some c.args.place c.args.len some) ∙ length-range_with_len _ (count_of c.args.place c.args.len))
