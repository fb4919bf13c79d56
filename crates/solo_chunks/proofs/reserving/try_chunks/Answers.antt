use Rattle.std.proofs.Common.{false, sym, ap, ◌∙◌, bit_and}
use Rattle.solo_chunks.proofs.Tried.{lost_tried, lost_untried, tried_as}
use Rattle.solo_chunks.specs.Chunks.{chunk_bits}
use Rattle.solo_chunks.proofs.reserving.try_chunks.Goals as goal

pub returns-then-found-bits-eq0-clause-lost : goal.returns-then-found-bits-eq0-clause-lost
returns-then-found-bits-eq0-clause-lost g c lost v there can =
    let made = c.occupy.ensures v there in
    let at = g.M.LaneMem.at c.occupy.new.self in
    let bits = chunk_bits c.args.first c.args.count in
    lost_tried at v c.args.zone c.args.found c.args.first c.args.count can c.requires.in_zone
    (tried_as at v c.args.zone c.chunk_bits-bits.result bits c.occupy.result false c.chunk_bits-bits.ensures lost (made.0, made.2))
    (ap (bit_and c.args.found) (sym c.chunk_bits-bits.ensures) ∙ c.if-found-bits-eq0.true)

pub returns-else-found-bits-eq0-clause-lost : goal.returns-else-found-bits-eq0-clause-lost
returns-else-found-bits-eq0-clause-lost g c lost v there can =
    lost_untried (g.M.LaneMem.at c.args.mem.now) v c.args.zone c.args.found c.args.first c.args.count can there
    (λ none. c.if-found-bits-eq0.false (ap (bit_and c.args.found) c.chunk_bits-bits.ensures ∙ none))
