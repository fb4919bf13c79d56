use Rattle.std.proofs.Common.{◌++◌, List, ℕ, drop, sym, ◌∙◌, ap, subst}
use Rattle.pm_header.specs.Pairs.{main_pair, with_main_copied, HasOneGood, IsGood}
use Rattle.pm_check.proofs.repair.mend.Goals as goal

pub copy_good-requires-clause-one_good : goal.copy_good-requires-clause-one_good
copy_good-requires-clause-one_good c = subst HasOneGood (sym c.split_at_mut-page.ensures.front) c.requires.one_good

pub returns-clause-main : goal.returns-clause-main
returns-clause-main c = λ good.
    let front = c.split_at_mut-page.ensures.front in
    let still : IsGood (main_pair c.split_at_mut-page.result.0.now) = subst (λ (ws : List ℕ). IsGood (main_pair ws)) (sym front) good in
    (λ i. c.copy_good.ensures.main_good still i ++ c.split_at_mut-page.ensures.back i) ∙ ap (λ (ws : List ℕ). with_main_copied ws ++ drop 512 c.args.words.now) front
