use Rattle.std.proofs.Common.{refl}
use Rattle.pm_objects.specs.declared.calls.Operation.TheVariants.{Free}
use Rattle.solo_view.specs.Steps.Step.{Tell}
use Rattle.std.proofs.Common.{None}
use Rattle.solo_transaction.proofs.Frees.{found_not_made, has_freed, held_when_found, may_tell}
use Rattle.solo_transaction.proofs.freeing.tell_freed.Goals as goal

pub tell-requires : goal.tell-requires
tell-requires g c =
    let r = c.requires.can in
    g.met.M.LawfulMem.meets c.args.lane.now.memory r.1.0 (Tell (Free c.args.id) None) r.1.1.0.work.seen.memory (may_tell r.0 g.M.LaneMem.at c.args.lane.now c.args.blocks.now r.1.0 r.1.1.0 c.args.id)

pub free-requires : goal.free-requires
free-requires g c =
    let r = c.requires.can in
    record { few = λ none. c.requires.few (found_not_made r.0 g.M.LaneMem.at c.args.lane.now c.args.blocks.now r.1.0 r.1.1.0 c.args.id c.args.owned r.1.1.1 none) }

pub returns-clause-done : goal.returns-clause-done
returns-clause-done g c o v is can =
    has_freed o g.M.LaneMem.at c.args.lane.now c.args.blocks.now v is c.args.id c.args.owned can c.free.new.self _
    (record { pool = refl; shape = refl; locks = refl; entries = refl; level = refl; stage = refl; error = refl; drawn = refl; last = refl; stopped = refl }) refl
    (c.tell.ensures v is.work.seen.memory).0 c.lines_of.result
    (held_when_found o g.M.LaneMem.at c.args.lane.now c.args.blocks.now v is c.args.id c.args.owned c.lines_of.result c.lines_of.ensures can) c.free.ensures.of_call c.free.ensures.freed c.free.ensures.pages
