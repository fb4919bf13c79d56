use Rattle.std.proofs.Common.{ℕ, Bool, ◌^◌, subst}
use Rattle.std.proofs.lemmas.Bool.{eqb-false}
use Rattle.std.proofs.lemmas.Nat.{one_shl}
use Rattle.solo_memory.specs.Runs.{Made}
use Rattle.solo_view.specs.declared.occ.Occ.TheVariants.{Run}
use Rattle.solo_view.specs.Steps.Step.{Occupy}
use Rattle.solo_runs.proofs.TriedBlocks.{lost_as_found, lost_as_tried}
use Rattle.solo_runs.proofs.reserving.try_block.Goals as goal

pub returns-then-found-index-eq0-clause-lost : goal.returns-then-found-index-eq0-clause-lost
returns-then-found-index-eq0-clause-lost g c lost v there can =
    let old = g.M.LaneMem.at c.args.mem.now in
    let new = g.M.LaneMem.at c.occupy.new.self in
    let its_bit = subst (λ (n : ℕ). Made old new (Occupy (Run c.args.place) n c.occupy.result)) (one_shl c.args.index 64 c.requires.index) c.occupy.ensures in
    let made = subst (λ (won : Bool). Made old new (Occupy (Run c.args.place) (2 ^ c.args.index) won)) lost its_bit v there in
    lost_as_tried v c.args.place c.args.found c.args.index can c.requires.index made.2 new made.0

pub returns-else-found-index-eq0-clause-lost : goal.returns-else-found-index-eq0-clause-lost
returns-else-found-index-eq0-clause-lost g c lost v there can = lost_as_found v c.args.place c.args.found c.args.index can (eqb-false _ 0 lost) (g.M.LaneMem.at c.args.mem.now) there
