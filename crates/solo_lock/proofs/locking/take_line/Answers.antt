use Rattle.std.proofs.Common.{[], ◌∷◌, ◌++◌, None, true, false, ap, ◌∙◌, refl, subst, sym}
use Rattle.solo_view.specs.Views.{after}
use Rattle.solo_world.specs.declared.lane.HeldLock.{HeldLock}
use Rattle.solo_world.specs.declared.lane.Lane.{Lane}
use Rattle.solo_lock.specs.Begun.{IsBegun}
use Rattle.solo_lock.specs.Locking.{takes}
use Rattle.solo_lock.proofs.Taken.{is_taken, not_taken}
use Rattle.solo_lock.proofs.locking.take_line.Goals as goal

pub returns-then-won-clause-taken : goal.returns-then-won-clause-taken
returns-then-won-clause-taken g c v is free =
    let same = c.try_line-won.ensures.else_same in
    let write = c.args.write in
    let held : HeldLock = record { line = c.args.line; write = write; block = None } in
    let pushed = c.push.ensures.items ∙ ap (λ (lane : Lane g.row.M.Denot). lane.locks.items ++ held ∷ []) same in
    subst (λ won. IsBegun g.M.LaneMem.at (record c.try_line-won.new.lane { locks = c.push.new.self }) (after v (takes c.args.line write won))) (sym c.if-won.true)
    (subst (λ (lane : Lane g.row.M.Denot). IsBegun g.M.LaneMem.at (record lane { locks = c.push.new.self }) (after v (takes c.args.line write true))) (sym same)
    (is_taken g.M.LaneMem.at c.args.lane.now v is c.args.line free (record c.args.lane.now { memory = c.try_line-won.new.lane.memory; locks = c.push.new.self }) write (c.if-won.ensures.made v is.seen.memory).0 pushed refl refl refl refl (record { pool = refl; shape = refl }) refl refl))

pub returns-else-won-clause-taken : goal.returns-else-won-clause-taken
returns-else-won-clause-taken g c v is free =
    let same = c.try_line-won.ensures.else_same in
    let write = c.args.write in
    subst (λ won. IsBegun g.M.LaneMem.at c.try_line-won.new.lane (after v (takes c.args.line write won))) (sym c.if-won.false)
    (subst (λ (lane : Lane g.row.M.Denot). IsBegun g.M.LaneMem.at lane (after v (takes c.args.line write false))) (sym same)
    (not_taken g.M.LaneMem.at c.args.lane.now v is c.args.line free c.try_line-won.new.lane.memory write (c.if-won.ensures.made v is.seen.memory).0))
