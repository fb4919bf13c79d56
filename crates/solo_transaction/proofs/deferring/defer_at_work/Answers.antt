use Rattle.std.proofs.Common.{ap, ◌∙◌, refl, subst, Option}
use Rattle.std.specs.Option.{option_map}
use Rattle.solo_memory.specs.Runs.{Made}
use Rattle.solo_model.specs.Actions.{with_free}
use Rattle.pm_objects.specs.declared.calls.Operation.TheVariants.{DeferFree}
use Rattle.pm_objects.specs.declared.history.Value.TheVariants.{Refused}
use Rattle.pm_objects.specs.declared.refusal.Refusal.{Refusal}
use Rattle.solo_view.specs.Steps.Step.{Tell}
use Rattle.solo_crash.specs.Pending.{pending_in}
use Rattle.solo_pending.specs.Pending.{refusal_in}
use Rattle.solo_tx.proofs.ActionsAtWork.{error_is_reason}
use Rattle.solo_tx.proofs.Telling.{runs_made}
use Rattle.solo_transaction.proofs.Deferred.{defer_told}
use Rattle.solo_transaction.proofs.deferring.defer_at_work.Goals as goal

pub returns-clause-made : goal.returns-clause-made
returns-clause-made g c =
    let step = λ (r : Option Refusal). Tell (DeferFree c.args.id) (option_map Refused r) in
    let told = subst (λ (r : Option Refusal). Made (g.M.LaneMem.at c.args.lane.now.memory) (g.M.LaneMem.at c.tell_defer.new.mem) (step r)) (c.err.ensures.value ∙ error_is_reason c.defer_free-answer.result) c.tell_defer.ensures in
    runs_made (g.M.LaneMem.at c.args.lane.now.memory) (g.M.LaneMem.at c.tell_defer.new.mem) (step (refusal_in c.defer_free-answer.result)) told

pub returns-clause-stays : goal.returns-clause-stays
returns-clause-stays g c o v is are =
    let step = λ (r : Option Refusal). Tell (DeferFree c.args.id) (option_map Refused r) in
    let told = subst (λ (r : Option Refusal). Made (g.M.LaneMem.at c.args.lane.now.memory) (g.M.LaneMem.at c.tell_defer.new.mem) (step r)) (c.err.ensures.value ∙ error_is_reason c.defer_free-answer.result) c.tell_defer.ensures in
    defer_told o g.M.LaneMem.at c.args.lane.now _ c.args.blocks.now v is
    (record { pool = refl; shape = refl; locks = refl; entries = refl; level = refl; stage = refl; error = refl; drawn = refl; last = refl; stopped = refl }) refl
    c.args.pending.now c.defer_free-answer.new.self are c.defer_free-answer.result c.defer_free-answer.ensures.unchanged c.args.id (with_free c.args.id) refl
    (ap (option_map Refused) (c.defer_free-answer.ensures.reason (pending_in v) are)) (told v is.work.seen.memory).0 c.defer_free-answer.ensures.done
