use Rattle.std.proofs.Common.{◌≡◌, ◌≢◌, Err, rules, subst, sym}
use Rattle.pm_objects.specs.declared.refusal.Refusal.TheVariants as refusal
use Rattle.solo_crash.specs.Pending.{pending_before}
use Rattle.solo_action.specs.Holding.{RefusesToHold, SeeksObjects, named_in}
use Rattle.solo_action.proofs.RefusedHolding.{begun_alone, busy_free, goes_pending, refuses, refusing_view}
use Rattle.solo_action.proofs.holding.hold_actions.Goals as goal

pub returns-in_default-clause-held : goal.returns-in_default-clause-held
returns-in_default-clause-held g c w is =
    goes_pending g.M.LaneMem.at c.seek_named.new.lane c.args.pending.now w is.listed (c.in_default.ensures.sought w is.begins.begun (begun_alone g.M.LaneMem.at c.args.lane.now w is.begins))

pub returns-then-ne-clause-refused : goal.returns-then-ne-clause-refused
returns-then-ne-clause-refused g c w is =
    let apart : c.in-Err.refusal ≢ refusal.Busy = search rules in
    refuses g.M.LaneMem.at c.args.lane.now c.seek_named.new.lane c.end_outside.new.lane c.args.pending.now w is c.in-Err.refusal apart c.in-Err.ensures.causes
    (c.in-Err.ensures.sought w is.begins.begun (begun_alone g.M.LaneMem.at c.args.lane.now w is.begins)) c.end_outside.ensures.told

pub returns-else-ne-clause-refused : goal.returns-else-ne-clause-refused
returns-else-ne-clause-refused g c =
    let busy : c.in-Err.refusal ≡ refusal.Busy = search rules in
    λ w is. subst (λ r. RefusesToHold g.M.LaneMem.at c.seek_named.new.lane (pending_before w) w r) (sym busy)
    (subst (λ r. SeeksObjects {T = Unit {0}} g.M.LaneMem.at c.seek_named.new.lane (named_in c.args.pending.now) w (Err r)) busy (c.in-Err.ensures.sought w is.begins.begun (begun_alone g.M.LaneMem.at c.args.lane.now w is.begins)))

pub returns-else-ne-clause-free : goal.returns-else-ne-clause-free
returns-else-ne-clause-free g c =
    let busy : c.in-Err.refusal ≡ refusal.Busy = search rules in
    let w = c.requires.begun.0 in
    let is = c.requires.begun.1 in
    busy_free g.M.LaneMem.at c.seek_named.new.lane w
    (subst (λ r. SeeksObjects {T = Unit {0}} g.M.LaneMem.at c.seek_named.new.lane (named_in c.args.pending.now) w (Err r)) busy (c.in-Err.ensures.sought w is.begins.begun (begun_alone g.M.LaneMem.at c.args.lane.now w is.begins)))

pub end_outside-requires : goal.end_outside-requires
end_outside-requires g c =
    let apart : c.in-Err.refusal ≢ refusal.Busy = search rules in
    let w = c.requires.begun.0 in
    let is = c.requires.begun.1 in
    record {
      begun = refusing_view g.M.LaneMem.at c.seek_named.new.lane (named_in c.args.pending.now) w is.sound c.in-Err.refusal apart c.in-Err.ensures.causes
          (c.in-Err.ensures.sought w is.begins.begun (begun_alone g.M.LaneMem.at c.args.lane.now w is.begins));
    }
