use Rattle.std.proofs.Common.{◌≡◌, IsTrue, refl, rules}
use Rattle.pm_image.specs.Means.{IsImageFault}
use Rattle.pm_check.specs.Verdicts.{IsOfOnePair}
use Rattle.pm_check.proofs.PageFaults.{good_pair, never_mended, one_good, page_whole}
use Rattle.pm_check.proofs.verdict.judge.Goals as goal

pub with_good_pair-requires-clause-page : goal.with_good_pair-requires-clause-page
with_good_pair-requires-clause-page c =
    let one : IsOfOnePair c.in-Err-Image.found = search rules in
    let is : IsImageFault c.args.image.now c.in-Err-Image.found = rw c.in-Err-Image.field-0-is at c.in-Err-Image.ensures.fault in
    page_whole c.args.image.now c.in-Err-Image.found one is

pub with_good_pair-requires-clause-one_good : goal.with_good_pair-requires-clause-one_good
with_good_pair-requires-clause-one_good c =
    let one : IsOfOnePair c.in-Err-Image.found = search rules in
    let is : IsImageFault c.args.image.now c.in-Err-Image.found = rw c.in-Err-Image.field-0-is at c.in-Err-Image.ensures.fault in
    one_good c.args.image.now c.in-Err-Image.found one is

pub returns-in-Ok-means-clause-verdict : goal.returns-in-Ok-means-clause-verdict
returns-in-Ok-means-clause-verdict c =
    let one : IsOfOnePair c.in-Err-Image.found = search rules in
    let is : IsImageFault c.args.image.now c.in-Err-Image.found = rw c.in-Err-Image.field-0-is at c.in-Err-Image.ensures.fault in
    let asked : IsTrue c.args.repair = search rules in (
      asked,
      record {
        fault = is;
        good_pair = good_pair c.args.image.now c.in_ok-mended.mended c.in-Err-Image.found one is c.in_ok-mended.ensures.main c.in_ok-mended.ensures.copy;
        whole = (c.in-Ok-means.field-0, c.in-Ok-means.ensures.pool);
      },
    )

pub returns-in-Err-Image-means-clause-verdict : goal.returns-in-Err-Image-means-clause-verdict
returns-in-Err-Image-means-clause-verdict c =
    let one : IsOfOnePair c.in-Err-Image.found = search rules in
    let is : IsImageFault c.args.image.now c.in-Err-Image.found = rw c.in-Err-Image.field-0-is at c.in-Err-Image.ensures.fault in
    let pair = good_pair c.args.image.now c.in_ok-mended.mended c.in-Err-Image.found one is c.in_ok-mended.ensures.main c.in_ok-mended.ensures.copy in
    let more : IsImageFault c.in_ok-mended.mended c.in-Err-Image-means.field-0-0 = rw c.in-Err-Image-means.field-0-is at c.in-Err-Image-means.ensures.fault in
    (is, refl, λ mended asked. never_mended c.args.image.now c.in_ok-mended.mended c.in-Err-Image.found c.in-Err-Image-means.field-0-0 pair more mended)
