use Rattle.std.proofs.Common.{◌++◌, ◌∷◌, [], None, Some, ap, sym, ◌∙◌, subst}
use Rattle.solo_crash.specs.Pending.{pending_in}
use Rattle.solo_memory.specs.Solo.{Solo}
use Rattle.solo_world.specs.declared.lane.Lane.{Lane}
use Rattle.solo_exec.specs.Replies.{Values}
use Rattle.solo_exec.specs.Progress.{IsAtLine}
use Rattle.solo_exec.proofs.ActionLines.{defer_done}
use Rattle.solo_exec.proofs.AddAndWrite.{unrefused}
use Rattle.solo_exec.proofs.GivenLetters.{letters_same}
use Rattle.solo_exec.proofs.RefusedLines.{defer_unstopped, refused_done, refused_ends, refused_letters}
use Rattle.solo_exec.proofs.actions.defer_at.Goals as goal

pub returns-in-Ok-clause-done : goal.returns-in-Ok-clause-done
returns-in-Ok-clause-done c o first front a =
    let e = c.in-Ok.ensures in
    let none = unrefused c.args.lane.now a.works.work.unstopped a.level a.works.work.works in
    let level = ap (λ (l : Lane Solo). l.level) e.else_same ∙ a.level in
    let locks = ap (λ (l : Lane Solo). l.locks) e.else_same in
    defer_done o first c.args.lane.now c.args.blocks.now c.args.pending.now c.args.names front c.args.values.now.items a c.defer_free.new.lane c.args.said.now c.args.id c.id_of.result c.id_of.ensures c.requires.is_said None (e.answers none (pending_in a.view) a.pending) c.defer_free.new.pending (e.stays none o a.view a.works a.pending) level locks

pub returns-in-Ok-clause-letters : goal.returns-in-Ok-clause-letters
returns-in-Ok-clause-letters c = letters_same (c.args.said.now ∷ []) c.args.values.now.items

pub returns-in-Err-clause-done : goal.returns-in-Err-clause-done
returns-in-Err-clause-done c =
    refused_done _ c.in-Err.why c.args.said.now.line c.args.values.now.items c.give_refusal.new.values.items c.give_refusal.result c.give_refusal.ensures
    (λ goes given o first front a.
    let e = c.in-Err.ensures in
    let none = unrefused c.args.lane.now a.works.work.unstopped a.level a.works.work.works in
    let level = ap (λ (l : Lane Solo). l.level) e.else_same ∙ a.level in
    let locks = ap (λ (l : Lane Solo). l.locks) e.else_same in
    subst (λ (vs : Values). IsAtLine o first c.defer_free.new.lane c.args.blocks.now c.defer_free.new.pending c.args.names (front ++ c.args.said.now ∷ []) vs) (sym given)
    (defer_done o first c.args.lane.now c.args.blocks.now c.args.pending.now c.args.names front c.args.values.now.items a c.defer_free.new.lane c.args.said.now c.args.id c.id_of.result c.id_of.ensures c.requires.is_said (Some c.in-Err.why) (e.answers none (pending_in a.view) a.pending) c.defer_free.new.pending (e.stays none o a.view a.works a.pending) level locks))

pub returns-in-Err-clause-ends : goal.returns-in-Err-clause-ends
returns-in-Err-clause-ends c =
    refused_ends _ c.in-Err.why c.args.said.now.line c.args.values.now.items c.give_refusal.new.values.items c.give_refusal.result c.give_refusal.ensures (λ o first front rest a. tt)
    (λ stops same o first front rest a.
    let none = unrefused c.args.lane.now a.works.work.unstopped a.level a.works.work.works in
    absurd (defer_unstopped (pending_in a.view) c.in-Err.why (c.in-Err.ensures.answers none (pending_in a.view) a.pending) stops))

pub returns-in-Err-clause-letters : goal.returns-in-Err-clause-letters
returns-in-Err-clause-letters c = refused_letters c.args.said.now c.in-Err.why c.args.values.now.items c.give_refusal.new.values.items c.give_refusal.result c.give_refusal.ensures
