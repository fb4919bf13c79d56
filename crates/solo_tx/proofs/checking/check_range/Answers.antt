use Rattle.std.proofs.Common.{◌≡◌, ◌+◌, ◌*◌, ◌<◌, ◌≤◌, true, map, refl, sym, ap, ◌∙◌, subst, arith}
use Rattle.std.specs.List.{list_any}
use Rattle.solo_view.specs.Steps.Step.{Load}
use Rattle.solo_crash.specs.OpenCall.{lock_of}
use Rattle.solo_model.specs.Transaction.{is_locked}
use Rattle.solo_world.specs.Lanes.{lock_of as view_lock}
use Rattle.solo_tx.proofs.HeldLocks.{end_checked, not_held, range_checked, size_in_pool}
use Rattle.solo_tx.specs.Ranges.{is_lock_of}
use Rattle.solo_tx.proofs.checking.check_range.Goals.{then-off-size-via-then-off-size, then-off-size-via-else-off-size+then-len-size}
use Rattle.solo_tx.proofs.checking.check_range.Goals as goal

pub returns-in_default-clause-not_locked : goal.returns-in_default-clause-not_locked
returns-in_default-clause-not_locked g c e o v work =
    not_held o g.M.LaneMem.at c.args.lane.now v work c.args.id c.args.write
    (λ same. ap (λ locks. is_locked (map lock_of (map view_lock locks)) c.args.id.off c.args.write) (sym c.as_slice.ensures.value) ∙ c.in_default.ensures.none refl same)

pub load-size-requires : goal.load-size-requires
load-size-requires g c found =
    let r = c.requires.work in
    let holds = subst (λ locks. list_any (is_lock_of c.in-Some.line c.args.write) locks ≡ true) c.as_slice.ensures.value c.in-Some.ensures.some.2 in
    g.met.M.LawfulMem.meets c.args.lane.now.memory r.1.0 (Load (8 * c.in-Some.line + 1) found) r.1.1.seen.memory (size_in_pool r.0 g.M.LaneMem.at c.args.lane.now r.1.0 r.1.1 c.in-Some.line c.args.write holds)

pub returns-then-off-size-clause-out_of_range : goal.returns-then-off-size-clause-out_of_range
returns-then-off-size-clause-out_of_range g c e o v work =
    let holds = subst (λ locks. list_any (is_lock_of c.in-Some.line c.args.write) locks ≡ true) c.as_slice.ensures.value c.in-Some.ensures.some.2 in
    let made = c.load-size.ensures v work.seen.memory in
    let high : c.load-size.result < c.args.off + c.args.len =
    elim c.then-off-size.branch [
      | then-off-size-via-then-off-size w ↦ (let more = w.if-off-size.true in omega (arith, more))
      | then-off-size-via-else-off-size+then-len-size w ↦ (let low = w.if-off-size.false in let more = w.if-len-size.true in omega (arith, low, more))
    ] in
    end_checked o g.M.LaneMem.at c.args.lane.now v work c.in-Some.line c.args.write holds c.load-size.result made.1 _
    (record { pool = refl; shape = refl; locks = refl; entries = refl; level = refl; stage = refl; error = refl; drawn = refl; last = refl; stopped = refl }) refl made.0 c.args.id c.args.off c.args.len c.in-Some.ensures.some.0 c.in-Some.ensures.some.1 high

pub returns-clause-ok : goal.returns-clause-ok
returns-clause-ok g c o v work =
    let holds = subst (λ locks. list_any (is_lock_of c.in-Some.line c.args.write) locks ≡ true) c.as_slice.ensures.value c.in-Some.ensures.some.2 in
    let made = c.load-size.ensures v work.seen.memory in
    let low : c.args.off + c.args.len ≤ c.load-size.result = (let one = c.if-off-size.false in let two = c.if-len-size.false in omega (arith, one, two)) in
    range_checked o g.M.LaneMem.at c.args.lane.now v work c.in-Some.line c.args.write holds c.load-size.result made.1 _
    (record { pool = refl; shape = refl; locks = refl; entries = refl; level = refl; stage = refl; error = refl; drawn = refl; last = refl; stopped = refl }) refl made.0 c.args.id c.args.off c.args.len c.in-Some.ensures.some.0 c.in-Some.ensures.some.1 low
