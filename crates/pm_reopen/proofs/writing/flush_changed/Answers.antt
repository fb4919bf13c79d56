use Rattle.std.proofs.Common.{◌∷◌, [], cond, sym, ◌∙◌, subst}
use Rattle.pm_memory.specs.Changes.{has_unflushed}
use Rattle.pm_reopen.specs.Plan.MemoryCall.{Flush}
use Rattle.pm_reopen.specs.Running.{Halts, Makes}
use Rattle.pm_reopen.proofs.Making.{halts_at, makes_none, makes_one, ran_error}
use Rattle.pm_reopen.proofs.Unflushed.{can_flush}
use Rattle.pm_reopen.proofs.writing.flush_changed.Goals as goal

pub flush-requires : goal.flush-requires
flush-requires c = can_flush c.args.line c.args.mem.now.changes (sym c.is_changed.ensures ∙ c.if-is_changed.true)

pub returns-in_err-flush : goal.returns-in_err-flush
returns-in_err-flush c =
    ran_error c.args.mem.now c.flush.new.self (cond (has_unflushed c.args.mem.now.changes c.args.line) (Flush c.args.line ∷ []) []) c.from_residual.result c.from_residual.ensures.0
    (subst (λ b. Halts c.args.mem.now c.flush.new.self (cond b (Flush c.args.line ∷ []) [])) (sym (sym c.is_changed.ensures ∙ c.if-is_changed.true))
    (halts_at c.args.mem.now c.flush.new.self (Flush c.args.line) c.in_err-flush.ensures.stop c.in_err-flush.ensures.said))

pub returns-in_ok-flush : goal.returns-in_ok-flush
returns-in_ok-flush c =
    subst (λ b. Makes c.args.mem.now c.flush.new.self (cond b (Flush c.args.line ∷ []) [])) (sym (sym c.is_changed.ensures ∙ c.if-is_changed.true))
    (makes_one c.args.mem.now c.flush.new.self (Flush c.args.line) c.in_ok-flush.ensures.due c.in_ok-flush.ensures.done)

pub returns-else-is_changed : goal.returns-else-is_changed
returns-else-is_changed c =
    subst (λ b. Makes c.args.mem.now c.args.mem.now (cond b (Flush c.args.line ∷ []) [])) (sym (sym c.is_changed.ensures ∙ c.if-is_changed.false)) (makes_none c.args.mem.now)
