use Rattle.std.proofs.Common.{◌≡◌, List, ℕ, Bool, true, false, not, refl, sym, subst, ◌∙◌, ap, arith}
use Rattle.std.specs.Cmp.Lexicographic.{same_text}
use Rattle.pm_header.specs.Pairs.{main_pair, copy_pair, version_of, IsPairOf}
use Rattle.pm_header.proofs.PairLaws.{good_from_header, version_spelled}
use Rattle.pm_header.proofs.reading.read_pairs.Goals as goal

told_same : (told : Bool) → false ≡ not told → true ≡ told
told_same true told = refl
told_same false told = sym told

-- src/reading.rt:46:9
pub returns-then-header-ne-VERSION-clause-fault : goal.returns-then-header-ne-VERSION-clause-fault
returns-then-header-ne-VERSION-clause-fault c =
    let spelled : IsPairOf (main_pair c.args.page.now) c.in-Some-Some.header = c.in-Some-Some.ensures.spelled in
    (good_from_header (main_pair c.args.page.now) c.in-Some-Some.header spelled, same_text _ _ (told_same _ (sym c.if-ne.false ∙ c.ne.ensures)), ap version_of spelled.spelled ∙ version_spelled c.in-Some-Some.header, c.if-header-ne-VERSION.true)

-- src/reading.rt:26:1
pub returns-clause-read : goal.returns-clause-read
returns-clause-read c =
    let same : main_pair c.args.page.now ≡ copy_pair c.args.page.now = same_text _ _ (told_same _ (sym c.if-ne.false ∙ c.ne.ensures)) in
    record {
      version = omega arith;
      main = c.in-Some-Some.ensures.spelled;
      copy = subst (λ (words : List ℕ). IsPairOf words c.in-Some-Some.header) same c.in-Some-Some.ensures.spelled;
    }
