use Rattle.std.proofs.Common.{◌≡◌, ◌*◌, arith}
use Rattle.pm_image.proofs.recovering.recovered.Goals as goal

pub returns-in-Some-of_bytes-clause-in_no_pool : goal.returns-in-Some-of_bytes-clause-in_no_pool
returns-in-Some-of_bytes-clause-in_no_pool c = λ none.
    let shape = c.in-Some-of_bytes.shape in
    let bytes : c.in-Some.bytes ≡ c.len.result * 8 = c.in-Some.ensures.1 in
    absurd (none shape.lanes shape.zones (record { lanes_from = shape.lanes_from; lanes_to = shape.lanes_to; zones_from = shape.zones_from; zones_to = shape.zones_to })
    (omega (arith, c.in-Some-of_bytes.ensures.some, bytes, c.len.ensures)))

pub returns-in-None-clause-in_a_pool : goal.returns-in-None-clause-in_a_pool
returns-in-None-clause-in_a_pool c = λ lanes zones shape size.
    let bytes : c.in-Some.bytes ≡ c.len.result * 8 = c.in-Some.ensures.1 in
    absurd (c.in-None.ensures.none lanes zones shape (omega (arith, size, bytes, c.len.ensures)))
