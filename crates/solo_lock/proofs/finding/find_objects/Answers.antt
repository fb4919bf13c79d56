use Rattle.std.proofs.Common.{sym, subst}
use Rattle.solo_lock.specs.Finding.{IsHeldBy}
use Rattle.solo_lock.proofs.FoundObjects.{has_found, view_held}
use Rattle.solo_lock.proofs.finding.find_objects.Goals as goal

pub know_objects-requires : goal.know_objects-requires
know_objects-requires g c =
    let r = c.requires.lines in
    let looked = c.find_blocks.ensures.looked r.0 r.1.0 in
    record {
      held = (
        looked.view,
        (
          looked.begun.seen.memory,
          subst (IsHeldBy looked.view) (sym c.as_slice.ensures.value)
              (view_held g.M.LaneMem.at c.args.lane.now c.find_blocks.new.lane c.args.plan.now c.requires.rises c.requires.chunks c.find_blocks.ensures.else_same r.0 r.1.1 looked),
        ),
      );
    }

pub returns-clause-found : goal.returns-clause-found
returns-clause-found g c v is lines =
    let looked = c.find_blocks.ensures.looked v is in
    let held = view_held g.M.LaneMem.at c.args.lane.now c.find_blocks.new.lane c.args.plan.now c.requires.rises c.requires.chunks c.find_blocks.ensures.else_same v lines looked in
    has_found g.M.LaneMem.at c.args.lane.now c.find_blocks.new.lane c.args.plan.now c.requires.rises c.requires.chunks c.find_blocks.ensures.else_same v lines looked c.know_objects.new.mem c.know_objects.result
    (c.know_objects.ensures.known looked.view looked.begun.seen.memory (subst (IsHeldBy looked.view) (sym c.as_slice.ensures.value) held))
