use Rattle.std.proofs.Common.{◌++◌, ◌∷◌, [], ap, sym, ◌∙◌, subst}
use Rattle.solo_memory.specs.Solo.{Solo}
use Rattle.solo_world.specs.declared.lane.Lane.{Lane}
use Rattle.solo_exec.specs.Replies.{Values}
use Rattle.solo_exec.specs.Progress.{IsAtLine, IsCut}
use Rattle.solo_exec.proofs.AddAndWrite.{unrefused}
use Rattle.solo_exec.proofs.GivenLetters.{letters_same}
use Rattle.solo_exec.proofs.PutLine.{put_cut, put_done, put_refused}
use Rattle.solo_exec.proofs.RefusedLines.{refused_done, refused_ends, refused_letters, why_of}
use Rattle.solo_exec.proofs.actions.put_at.Goals as goal

pub returns-in-Ok-clause-done : goal.returns-in-Ok-clause-done
returns-in-Ok-clause-done c o first front a =
    let e = c.in-Ok.ensures in
    let level = ap (λ (l : Lane Solo). l.level) (e.lane (λ clash. cc)) ∙ a.level in
    let locks = ap (λ (l : Lane Solo). l.locks) (e.lane (λ clash. cc)) in
    put_done o first c.args.lane.now c.args.blocks.now c.args.pending.now c.args.names front c.args.values.now.items a c.write_reserved.new.lane c.args.said.now c.args.range.0 c.id_of.result c.id_of.ensures c.args.range.1 c.args.range.2.now c.requires.is_said
    (e.done o a.view a.works a.pending) (e.listed o a.view a.works a.pending) level locks

pub returns-in-Ok-clause-letters : goal.returns-in-Ok-clause-letters
returns-in-Ok-clause-letters c = letters_same (c.args.said.now ∷ []) c.args.values.now.items

pub returns-in-Err-clause-done : goal.returns-in-Err-clause-done
returns-in-Err-clause-done c =
    refused_done _ c.in-Err.why c.args.said.now.line c.args.values.now.items c.give_refusal.new.values.items c.give_refusal.result c.give_refusal.ensures
    (λ goes given o first front a.
    let e = c.in-Err.ensures in
    let none = unrefused c.args.lane.now a.works.work.unstopped a.level a.works.work.works in
    let kept = e.lane (λ stops. goes (ap why_of stops)) in
    let level = ap (λ (l : Lane Solo). l.level) kept ∙ a.level in
    let locks = ap (λ (l : Lane Solo). l.locks) kept in
    subst (λ (vs : Values). IsAtLine o first c.write_reserved.new.lane c.args.blocks.now c.args.pending.now c.args.names (front ++ c.args.said.now ∷ []) vs) (sym given)
    (put_refused o first c.args.lane.now c.args.blocks.now c.args.pending.now c.args.names front c.args.values.now.items a c.write_reserved.new.lane c.args.said.now c.args.range.0 c.id_of.result c.id_of.ensures c.args.range.1 c.args.range.2.now c.requires.is_said
    c.in-Err.why (e.refuses none goes o a.view a.works a.pending) level locks))

pub returns-in-Err-clause-ends : goal.returns-in-Err-clause-ends
returns-in-Err-clause-ends c =
    refused_ends _ c.in-Err.why c.args.said.now.line c.args.values.now.items c.give_refusal.new.values.items c.give_refusal.result c.give_refusal.ensures (λ o first front rest a. tt)
    (λ stops same o first front rest a.
    let e = c.in-Err.ensures in
    let none = unrefused c.args.lane.now a.works.work.unstopped a.level a.works.work.works in
    subst (λ (vs : Values). IsCut o first c.write_reserved.new.lane c.args.names (front ++ c.args.said.now ∷ rest) vs) (sym same)
    (put_cut o first c.args.lane.now c.args.blocks.now c.args.pending.now c.args.names front c.args.values.now.items a c.write_reserved.new.lane c.args.said.now c.args.range.0 c.id_of.result c.id_of.ensures c.args.range.1 c.args.range.2.now c.requires.is_said
    rest (e.stopped_inside none stops o a.view a.works a.pending) (e.stopped none stops o a.view a.works a.pending)))

pub returns-in-Err-clause-letters : goal.returns-in-Err-clause-letters
returns-in-Err-clause-letters c = refused_letters c.args.said.now c.in-Err.why c.args.values.now.items c.give_refusal.new.values.items c.give_refusal.result c.give_refusal.ensures
