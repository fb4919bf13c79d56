use Rattle.std.proofs.Common.{[], ◌∷◌}
use Rattle.pm_record.specs.declared.redo.Op.TheVariants as op
use Rattle.pm_reopen.specs.Plan.MemoryCall.{Change}
use Rattle.pm_reopen.proofs.Making.{change_made, halts_at, ran_error}
use Rattle.pm_reopen.proofs.writing.change.Goals as goal

pub returns-in_err-store-in-Set : goal.returns-in_err-store-in-Set
returns-in_err-store-in-Set c =
    ran_error c.args.mem.now c.store.new.self (Change c.args.one.now ∷ []) c.from_residual.result c.from_residual.ensures.0
    (halts_at c.args.mem.now c.store.new.self (Change c.args.one.now) c.in_err-store-in-Set.ensures.stop c.in_err-store-in-Set.ensures.said)

pub returns-in_err-or-in-Or : goal.returns-in_err-or-in-Or
returns-in_err-or-in-Or c =
    ran_error c.args.mem.now c.or.new.self (Change c.args.one.now ∷ []) c.from_residual-in_err-or-in-Or.result c.from_residual-in_err-or-in-Or.ensures.0
    (halts_at c.args.mem.now c.or.new.self (Change c.args.one.now) c.in_err-or-in-Or.ensures.stop c.in_err-or-in-Or.ensures.said)

pub returns-in_err-and-in-And : goal.returns-in_err-and-in-And
returns-in_err-and-in-And c =
    ran_error c.args.mem.now c.and.new.self (Change c.args.one.now ∷ []) c.from_residual-in_err-and-in-And.result c.from_residual-in_err-and-in-And.ensures.0
    (halts_at c.args.mem.now c.and.new.self (Change c.args.one.now) c.in_err-and-in-And.ensures.stop c.in_err-and-in-And.ensures.said)

pub returns-in_ok-store-in-Set : goal.returns-in_ok-store-in-Set
returns-in_ok-store-in-Set c =
    change_made c.args.mem.now c.store.new.self c.args.one.now op.Set c.in-Set.is c.in_ok-store-in-Set.ensures.due c.in_ok-store-in-Set.ensures.done

pub returns-in_ok-or-in-Or : goal.returns-in_ok-or-in-Or
returns-in_ok-or-in-Or c =
    change_made c.args.mem.now c.or.new.self c.args.one.now op.Or c.in-Or.is c.in_ok-or-in-Or.ensures.due c.in_ok-or-in-Or.ensures.done

pub returns-in_ok-and-in-And : goal.returns-in_ok-and-in-And
returns-in_ok-and-in-And c =
    change_made c.args.mem.now c.and.new.self c.args.one.now op.And c.in-And.is c.in_ok-and-in-And.ensures.due c.in_ok-and-in-And.ensures.done
