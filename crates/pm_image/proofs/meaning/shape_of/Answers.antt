use Rattle.std.proofs.Common.{◌≡◌, ◌*◌, length, sym, ◌∙◌, ap, arith}
use Rattle.pm_image.specs.declared.fault.ImageFault.TheVariants as fault
use Rattle.pm_image.proofs.meaning.shape_of.Goals as goal

pub returns-in-None-clause-fault : goal.returns-in-None-clause-fault
returns-in-None-clause-fault c =
    let product = c.in-Some.ensures {u = tt} in
    let product_is : c.in-Some.bytes ≡ c.len.result * 8 = product.1 in
    let len_is : c.len.result ≡ length c.args.image.now = c.len.ensures in
    let bytes : c.in-Some.bytes ≡ 8 * length c.args.image.now = omega arith in
    record {
      no_shape = λ lanes zones has. c.in-None.ensures.none lanes zones has.shape (has.size ∙ sym bytes);
      is_size = ap fault.Size bytes;
    }
