use Rattle.std.proofs.Common.{arith}
use Rattle.pm_view.specs.Steps.Step.{Load}
use Rattle.pm_lock.specs.Sizes.{Sized, word_of_size}
use Rattle.pm_lock.proofs.SizeWords.{knows_size, size_below, size_inside}
use Rattle.pm_lock.proofs.size.size_of.Goals as goal

pub overflow_mul-line : goal.overflow_mul-line
overflow_mul-line g c = let low = size_below c.args.shape c.args.line c.requires.2.chunk in let lanes = c.args.shape.lanes_to in let zones = c.args.shape.zones_to in omega (arith, low, lanes, zones)

pub overflow_add-line : goal.overflow_add-line
overflow_add-line g c = let low = size_below c.args.shape c.args.line c.requires.2.chunk in let lanes = c.args.shape.lanes_to in let zones = c.args.shape.zones_to in omega (arith, low, lanes, zones)

pub see-requires : goal.see-requires
see-requires g c found = let s = c.requires in g.met.M.LawfulMem.meets c.args.mem.now s.0 (Load (word_of_size c.args.line) found) s.1 (size_inside s.0 c.args.shape c.args.line s.2)

pub returns : goal.returns
unfolding Sized
returns g c v seen can =
    let may = g.met.M.LawfulMem.grants v (Load (word_of_size c.args.line) c.see.result) (size_inside v c.args.shape c.args.line can) in
    knows_size (g.M.LaneMem.at c.see.new.self) v c.args.shape c.args.line c.see.result can (c.see.ensures.world v seen may) (c.see.ensures.made v seen may).0
