use Rattle.std.proofs.lemmas.Result.{IfErr-weaker, on_ok_weaker}
use Rattle.std.proofs.Common.{rules, ap, ◌∷◌, []}
use Rattle.solo_pending.specs.declared.actions.SetAction.{SetAction}
use Rattle.solo_exec.proofs.GivenLetters.{kept_as_they_are}
use Rattle.solo_exec.proofs.actions.act_at.Goals as goal

pub returns-in-Reserve-clause-done : goal.returns-in-Reserve-clause-done
returns-in-Reserve-clause-done c =
    on_ok_weaker c.reserve_at.result (λ done o first front a. done o first c.args.names front c.in-Reserve.letter a (search rules)) c.reserve_at.ensures.done

pub returns-in-Reserve-clause-ends : goal.returns-in-Reserve-clause-ends
returns-in-Reserve-clause-ends c =
    IfErr-weaker c.reserve_at.result _ _ (λ why ends o first front rest a. ends o first c.args.names front rest c.in-Reserve.letter a (search rules)) c.reserve_at.ensures.ends

pub returns-in-Set-clause-done : goal.returns-in-Set-clause-done
returns-in-Set-clause-done c =
    on_ok_weaker c.set_at.result
    (λ done o first front a. done o first c.args.names front c.in-Set.id a (search rules) (ap (λ (x : SetAction). x.id) c.action_of-action.ensures))
    c.set_at.ensures.done

pub returns-in-Set-clause-ends : goal.returns-in-Set-clause-ends
returns-in-Set-clause-ends c =
    IfErr-weaker c.set_at.result _ _
    (λ why ends o first front rest a. ends o first c.args.names front rest c.in-Set.id a (search rules) (ap (λ (x : SetAction). x.id) c.action_of-action.ensures))
    c.set_at.ensures.ends

pub returns-in-Publish-clause-letters : goal.returns-in-Publish-clause-letters
returns-in-Publish-clause-letters c = kept_as_they_are (c.args.said.now ∷ []) c.args.values.now.items c.publish_at.result

pub returns-in-Cancel-clause-letters : goal.returns-in-Cancel-clause-letters
returns-in-Cancel-clause-letters c = kept_as_they_are (c.args.said.now ∷ []) c.args.values.now.items c.cancel_at.result

pub returns-in-Publish-clause-done : goal.returns-in-Publish-clause-done
returns-in-Publish-clause-done c =
    on_ok_weaker c.publish_at.result (λ done o first front a. done o first c.args.names front c.args.values.now.items a) c.publish_at.ensures.done

pub returns-in-Publish-clause-ends : goal.returns-in-Publish-clause-ends
returns-in-Publish-clause-ends c =
    IfErr-weaker c.publish_at.result _ _ (λ why ends o first front rest a. ends o first c.args.names front rest c.args.values.now.items a) c.publish_at.ensures.ends

pub returns-in-Cancel-clause-done : goal.returns-in-Cancel-clause-done
returns-in-Cancel-clause-done c =
    on_ok_weaker c.cancel_at.result (λ done o first front a. done o first c.args.names front c.args.values.now.items a) c.cancel_at.ensures.done

pub returns-in-Cancel-clause-ends : goal.returns-in-Cancel-clause-ends
returns-in-Cancel-clause-ends c =
    IfErr-weaker c.cancel_at.result _ _ (λ why ends o first front rest a. ends o first c.args.names front rest c.args.values.now.items a) c.cancel_at.ensures.ends
