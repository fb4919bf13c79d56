use Rattle.std.proofs.Common.{◌≡◌, ◌+◌, ◌-◌, IfOk, List, ℕ, length, take, drop, ◌++◌, sym, ◌∙◌, ap, subst, arith}
use Rattle.std.specs.List.{slice_range}
use Rattle.std.proofs.Math.Seq.{take-append_seam, take-length}
use Rattle.pm_header.specs.Pairs.{main_pair, HasOneGood, IsGood}
use Rattle.pm_image.specs.Means.{page}
use Rattle.pm_check.specs.Verdicts.{with_main}
use Rattle.pm_check.proofs.repair.with_good_pair.Goals as goal

all_words : (image : List ℕ) (count : ℕ) → count ≡ length image → slice_range image 0 (0 + count) ≡ image
all_words image count all = let long : 0 + count - 0 ≡ length image = omega arith in ap (λ (n : ℕ). take n image) long ∙ take-length image

written_back : (n : ℕ) (new old : List ℕ) → length new ≡ n → take n (new ++ drop (length new) old) ≡ new
written_back n new old long = ap (λ (k : ℕ). take k (new ++ drop (length new) old)) (sym long) ∙ take-append_seam new (drop (length new) old)

pub mend-requires-clause-one_good : goal.mend-requires-clause-one_good
mend-requires-clause-one_good c =
    let same : c.deref_mut.result.now ≡ c.args.image.now = c.deref_mut.ensures.value ∙ c.in_ok-words.ensures.items ∙ c.words.ensures ∙ all_words c.args.image.now _ c.len.ensures in
    subst (λ (ws : List ℕ). HasOneGood (page ws)) (sym same) c.requires.one_good

pub returns-clause-main : goal.returns-clause-main
returns-clause-main c = λ good.
    let same : c.deref_mut.result.now ≡ c.args.image.now = c.deref_mut.ensures.value ∙ c.in_ok-words.ensures.items ∙ c.words.ensures ∙ all_words c.args.image.now _ c.len.ensures in
    let still : IsGood (main_pair (page c.deref_mut.result.now)) = subst (λ (ws : List ℕ). IsGood (main_pair (page ws))) (sym same) good in
    let back : c.deref.result.now ≡ c.mend.new.words = c.deref.ensures.value ∙ written_back _ _ _ (omega (arith, c.mend.auto.words, c.deref_mut.ensures.len)) in
    subst (λ (ws : List ℕ). IfOk c.from_words.result (λ new. new ≡ ws)) (back ∙ c.mend.ensures.main still ∙ ap with_main same) c.from_words.ensures
