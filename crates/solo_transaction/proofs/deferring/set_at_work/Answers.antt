use Rattle.std.proofs.Common.{ap, ◌∙◌, refl, subst, Option}
use Rattle.std.specs.Option.{option_map}
use Rattle.solo_memory.specs.Runs.{Made}
use Rattle.solo_model.specs.Actions.{with_set}
use Rattle.pm_objects.specs.declared.calls.Operation.TheVariants.{SetValue}
use Rattle.pm_objects.specs.declared.history.Value.TheVariants.{Refused}
use Rattle.pm_objects.specs.declared.refusal.Refusal.{Refusal}
use Rattle.solo_view.specs.Steps.Step.{Tell}
use Rattle.solo_crash.specs.Pending.{pending_in}
use Rattle.solo_pending.specs.Pending.{action_of, refusal_in}
use Rattle.solo_tx.proofs.ActionsAtWork.{error_is_reason}
use Rattle.solo_tx.proofs.Telling.{runs_made}
use Rattle.solo_transaction.proofs.Deferred.{set_told}
use Rattle.solo_transaction.proofs.deferring.set_at_work.Goals as goal

pub returns-clause-made : goal.returns-clause-made
returns-clause-made g c =
    let step = λ (r : Option Refusal). Tell (SetValue c.args.action.id c.args.action.off c.args.action.value) (option_map Refused r) in
    let told = subst (λ (r : Option Refusal). Made (g.M.LaneMem.at c.args.lane.now.memory) (g.M.LaneMem.at c.tell_set.new.mem) (step r)) (c.err.ensures.value ∙ error_is_reason c.set-answer.result) c.tell_set.ensures in
    runs_made (g.M.LaneMem.at c.args.lane.now.memory) (g.M.LaneMem.at c.tell_set.new.mem) (step (refusal_in c.set-answer.result)) told

pub returns-clause-stays : goal.returns-clause-stays
returns-clause-stays g c o v is are =
    let step = λ (r : Option Refusal). Tell (SetValue c.args.action.id c.args.action.off c.args.action.value) (option_map Refused r) in
    let told = subst (λ (r : Option Refusal). Made (g.M.LaneMem.at c.args.lane.now.memory) (g.M.LaneMem.at c.tell_set.new.mem) (step r)) (c.err.ensures.value ∙ error_is_reason c.set-answer.result) c.tell_set.ensures in
    set_told o g.M.LaneMem.at c.args.lane.now _ c.args.blocks.now v is
    (record { pool = refl; shape = refl; locks = refl; entries = refl; level = refl; stage = refl; error = refl; drawn = refl; last = refl; stopped = refl }) refl
    c.args.pending.now c.set-answer.new.self are c.set-answer.result c.set-answer.ensures.unchanged c.args.action.id c.args.action.off c.args.action.value (with_set (action_of c.args.action)) refl
    (ap (option_map Refused) (c.set-answer.ensures.reason (pending_in v) are)) (told v is.work.seen.memory).0 c.set-answer.ensures.done
