use Rattle.std.proofs.Common.{ap, ◌∙◌, refl}
use Rattle.pm_text.proofs.DigitByDigit.{one_digit, last_digit}
use Rattle.pm_text.proofs.digits.+push_decimal.Goals as goal
use Rattle.pm_text.proofs.digits.+push_decimal.Goals.{then-number-ge10+in_ok-push_decimal, else-number-ge10}

pub returns : goal.returns
returns t c = elim c.if-number-ge10.branch [
  | then-number-ge10+in_ok-push_decimal w ↦
      last_digit c.args.out.now.items c.if-number-ge10.out.items _ c.args.number _ w.if-number-ge10.true c.ranges.number.fits (ap (λ v. v.items) w.out-is ∙ w.in_ok-push_decimal.ensures) refl c.in_ok-push.ensures.items
  | else-number-ge10 w ↦ one_digit c.args.out.now.items c.if-number-ge10.out.items _ c.args.number _ w.if-number-ge10.false (ap (λ v. v.items) w.out-is) refl c.in_ok-push.ensures.items
]
