use Rattle.std.proofs.Common.{rules, bit_and, bit_or}
use Rattle.std.specs.Int.{bit_not, w64}
use Rattle.std.proofs.lemmas.Nat.{or_lt}
use Rattle.solo_view.specs.Steps.Step.{Occupied, Vacate}
use Rattle.solo_view.specs.Views.{after}
use Rattle.solo_reclaim.proofs.Rest.{has_none, has_vacated, may_vacate, told_heap}
use Rattle.solo_reclaim.proofs.reclaiming.vacate_rest.Goals as goal

pub kept_bits-requires-clause-heap : goal.kept_bits-requires-clause-heap
kept_bits-requires-clause-heap g c = let r = c.requires in told_heap r.0 c.args.shape c.args.kept.now c.args.at c.args.taken r.1.1

pub vacate-requires : goal.vacate-requires
vacate-requires g c =
    let r = c.requires in
    let found = c.occupied-found.result in
    let made = c.occupied-found.ensures r.0 r.1.0 in
    let bits = c.kept_bits.result in
    g.met.M.LawfulMem.meets c.occupied-found.new.self (after r.0 (Occupied c.args.at found)) (Vacate c.args.at (bit_and found (bit_not w64 (bit_or c.args.taken bits)))) made.0
    (may_vacate r.0 c.args.shape c.args.kept.now c.args.at c.args.taken bits found r.1.1 c.kept_bits.ensures made.2 (search rules) (or_lt 64 c.args.taken c.kept_bits.result (search rules) (search rules)))

pub returns-then-rest-ne0 : goal.returns-then-rest-ne0
returns-then-rest-ne0 g c v there is =
    let made = c.occupied-found.ensures v there in
    has_vacated v c.args.shape c.args.kept.now c.args.at c.args.taken c.kept_bits.result c.occupied-found.result is c.kept_bits.ensures made.2 (search rules) (or_lt 64 c.args.taken c.kept_bits.result (search rules) (search rules)) (g.M.LaneMem.at c.vacate.new.self) (c.vacate.ensures _ made.0).0

pub returns-else-rest-ne0 : goal.returns-else-rest-ne0
returns-else-rest-ne0 g c v there is =
    let made = c.occupied-found.ensures v there in
    has_none v c.args.shape c.args.kept.now c.args.at c.args.taken c.kept_bits.result c.occupied-found.result is c.kept_bits.ensures made.2 (search rules) (or_lt 64 c.args.taken c.kept_bits.result (search rules) (search rules)) c.if-rest-ne0.false (g.M.LaneMem.at c.occupied-found.new.self) made.0
