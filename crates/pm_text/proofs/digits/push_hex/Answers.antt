use Rattle.pm_text.proofs.DigitByDigit.{hex_of_none, hex_of_more}
use Rattle.pm_text.proofs.digits.push_hex.Goals as goal

pub loop-byte-init : goal.loop-byte-init
loop-byte-init c = hex_of_none _

pub loop-byte-preserved : goal.loop-byte-preserved
loop-byte-preserved c =
    hex_of_more c.args.out.now.items c.loop-byte.out.items _ c.args.bytes.now c.loop-byte.byte-index _ _ c.loop-byte-test.true c.loop-byte.invariant c.hex_digit-high.ensures c.hex_digit-low.ensures c.in_ok-extend_from_slice.ensures.items
