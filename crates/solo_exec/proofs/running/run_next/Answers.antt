use Rattle.std.proofs.Common.{◌≡◌, ◌++◌, ◌∷◌, [], List, refl, sym, ap, ◌∙◌, subst, rules}
use Rattle.solo_crash.specs.Alone.{standing}
use Rattle.solo_script.specs.declared.script.ScriptLine.{ScriptLine}
use Rattle.solo_exec.specs.Calls.{call_of}
use Rattle.solo_exec.specs.Letters.{KeepsLetters, Offsets, offsets_in, offsets_of, resolved}
use Rattle.solo_exec.specs.Replies.{Values}
use Rattle.solo_exec.specs.Progress.{HasCome, values_given}
use Rattle.solo_exec.specs.Running.{HasComeTo}
use Rattle.solo_exec.specs.declared.ending.CallEnd.{CallEnd}
use Rattle.solo_exec.specs.declared.ending.CallEnd.TheVariants as call_end
use Rattle.solo_exec.proofs.CallsInTurn.{begins, generation_inside, one_more, spent_at, stopped_in}
use Rattle.solo_exec.proofs.GivenLetters.{given_answered, given_keeps, given_open, given_unbegun, none_more}
use Rattle.solo_exec.proofs.running.run_next.Goals as goal

pub word-generation-requires : goal.word-generation-requires
word-generation-requires c =
    let r = c.requires.start in
    generation_inside r.0 r.1.0 c.args.lane.now c.args.blocks.now c.args.pending.now c.args.names r.1.1.0 c.args.history.now.items r.1.1.1

pub run_call-requires-clause-first : goal.run_call-requires-clause-first
run_call-requires-clause-first c =
    let r = c.requires.start in
    let h = r.1.1.1 in
    (standing r.0 h.answered.view, (h.answered.view, begins r.0 r.1.0 c.args.lane.now c.args.blocks.now c.args.pending.now c.args.names r.1.1.0 c.args.history.now.items h))

pub returns-in_ok-push-in-Answered-clause-answered : goal.returns-in_ok-push-in-Answered-clause-answered
returns-in_ok-push-in-Answered-clause-answered c o first calls h =
    let old = c.args.lane.now in
    let new = c.run_call.new.lane in
    let v = h.answered.view in
    let given : Offsets = c.give.new.given.items in
    let lines : List ScriptLine = resolved given c.args.lines.now in
    let values : Values = c.in-Answered.reply.values in
    let told : c.as_slice-in-Answered.result.now ≡ values = search rules in
    let was : c.as_slice.result.now ≡ c.args.given.now.items = search rules in
    let is : c.as_slice.result.now ++ offsets_in values ≡ given =
    ap (λ (g : Offsets). g ++ offsets_in values) was ∙ (ap (λ (vs : Values). c.args.given.now.items ++ offsets_in vs) (sym told) ∙ sym c.in_ok-give-in-Answered.ensures) in
    let came = subst (λ (g : Offsets). HasCome (standing o v) v new c.run_call.new.blocks c.run_call.new.pending c.args.names (resolved g c.args.lines.now) (call_end.Answered c.in-Answered.number c.in-Answered.answer c.in-Answered.reply)) is
    (subst (λ (e : CallEnd). HasCome (standing o v) v new c.run_call.new.blocks c.run_call.new.pending c.args.names (resolved (c.as_slice.result.now ++ offsets_in (values_given e)) c.args.lines.now) e) c.in-Answered.is
    (c.in_ok-number.ensures.made (standing o v) v (begins o first old c.args.blocks.now c.args.pending.now c.args.names calls c.args.history.now.items h))) in
    let seen : c.as_slice-in-Answered-2.result.now ≡ given = search rules in
    subst (HasComeTo o first new c.run_call.new.blocks c.run_call.new.pending c.args.names (calls ++ lines ∷ [])) (sym c.in_ok-push-in-Answered.ensures.items)
    (one_more o first old c.args.blocks.now c.args.pending.now c.args.names calls c.args.history.now.items h lines new c.run_call.new.blocks c.run_call.new.pending c.in-Answered.number c.in-Answered.answer c.in-Answered.reply c.in_ok-call-in-Answered.call c.settled_fate-fate.result came
    (c.in_ok-call-in-Answered.ensures ∙ ap (λ (g : Offsets). call_of c.args.names (resolved g c.args.lines.now)) seen) c.settled_fate-fate.ensures)

pub returns-in_ok-push-in-Answered-clause-letters : goal.returns-in_ok-push-in-Answered-clause-letters
returns-in_ok-push-in-Answered-clause-letters c =
    let values : Values = c.in-Answered.reply.values in
    let told : c.as_slice-in-Answered.result.now ≡ values = search rules in
    given_keeps c.args.lines.now values c.args.given.now.items c.give.new.given.items
    (subst (λ (e : CallEnd). KeepsLetters c.args.lines.now [] (values_given e)) c.in-Answered.is c.in_ok-number.ensures.letters)
    (c.in_ok-give-in-Answered.ensures ∙ ap (λ (vs : Values). c.args.given.now.items ++ offsets_in vs) told)

pub returns-in_ok-push-in-Answered-clause-gave : goal.returns-in_ok-push-in-Answered-clause-gave
returns-in_ok-push-in-Answered-clause-gave c were =
    let values : Values = c.in-Answered.reply.values in
    let told : c.as_slice-in-Answered.result.now ≡ values = search rules in
    (c.in_ok-give-in-Answered.ensures ∙ ap (λ (vs : Values). c.args.given.now.items ++ offsets_in vs) told)
    ∙ (given_answered c.args.history.now.items _ c.args.given.now.items were ∙ ap offsets_of (sym c.in_ok-push-in-Answered.ensures.items))

pub returns-in_ok-call-in-Halted-clause-halted : goal.returns-in_ok-call-in-Halted-clause-halted
returns-in_ok-call-in-Halted-clause-halted c o first calls h =
    let old = c.args.lane.now in
    let new = c.run_call.new.lane in
    let v = h.answered.view in
    let given : Offsets = c.give-in-Halted.new.given.items in
    let lines : List ScriptLine = resolved given c.args.lines.now in
    let values : Values = c.in-Halted.reply.values in
    let told : c.as_slice-in-Halted.result.now ≡ values = search rules in
    let was : c.as_slice.result.now ≡ c.args.given.now.items = search rules in
    let is : c.as_slice.result.now ++ offsets_in values ≡ given =
    ap (λ (g : Offsets). g ++ offsets_in values) was ∙ (ap (λ (vs : Values). c.args.given.now.items ++ offsets_in vs) (sym told) ∙ sym c.in_ok-give-in-Halted.ensures) in
    let came = subst (λ (g : Offsets). HasCome (standing o v) v new c.run_call.new.blocks c.run_call.new.pending c.args.names (resolved g c.args.lines.now) (call_end.Halted c.in-Halted.number c.in-Halted.reply)) is
    (subst (λ (e : CallEnd). HasCome (standing o v) v new c.run_call.new.blocks c.run_call.new.pending c.args.names (resolved (c.as_slice.result.now ++ offsets_in (values_given e)) c.args.lines.now) e) c.in-Halted.is
    (c.in_ok-number.ensures.made (standing o v) v (begins o first old c.args.blocks.now c.args.pending.now c.args.names calls c.args.history.now.items h))) in
    let seen : c.as_slice-in-Halted-2.result.now ≡ given = search rules in
    stopped_in o first old c.args.blocks.now c.args.pending.now c.args.names calls c.args.history.now.items h lines new c.run_call.new.pending c.in-Halted.number c.in-Halted.reply c.calls.result c.word-generation.result _ came c.calls.ensures c.word-generation.ensures
    (c.open_entry.ensures c.args.names lines (c.in_ok-call-in-Halted.ensures ∙ ap (λ (g : Offsets). call_of c.args.names (resolved g c.args.lines.now)) seen)) refl refl

pub returns-in_ok-call-in-Halted-clause-letters : goal.returns-in_ok-call-in-Halted-clause-letters
returns-in_ok-call-in-Halted-clause-letters c =
    let values : Values = c.in-Halted.reply.values in
    let told : c.as_slice-in-Halted.result.now ≡ values = search rules in
    given_keeps c.args.lines.now values c.args.given.now.items c.give-in-Halted.new.given.items
    (subst (λ (e : CallEnd). KeepsLetters c.args.lines.now [] (values_given e)) c.in-Halted.is c.in_ok-number.ensures.letters)
    (c.in_ok-give-in-Halted.ensures ∙ ap (λ (vs : Values). c.args.given.now.items ++ offsets_in vs) told)

pub returns-in_ok-call-in-Halted-clause-gave : goal.returns-in_ok-call-in-Halted-clause-gave
returns-in_ok-call-in-Halted-clause-gave c were =
    let given : Offsets = c.give-in-Halted.new.given.items in
    let lines : List ScriptLine = resolved given c.args.lines.now in
    let values : Values = c.in-Halted.reply.values in
    let told : c.as_slice-in-Halted.result.now ≡ values = search rules in
    let seen : c.as_slice-in-Halted-2.result.now ≡ given = search rules in
    given_open c.args.history.now.items c.args.names lines c.in-Halted.number c.in-Halted.reply _ c.args.given.now.items given
    (c.open_entry.ensures c.args.names lines (c.in_ok-call-in-Halted.ensures ∙ ap (λ (g : Offsets). call_of c.args.names (resolved g c.args.lines.now)) seen)) c.calls.result refl were
    (c.in_ok-give-in-Halted.ensures ∙ ap (λ (vs : Values). c.args.given.now.items ++ offsets_in vs) told)

pub returns-in-Unbegun-clause-halted : goal.returns-in-Unbegun-clause-halted
returns-in-Unbegun-clause-halted c o first calls h =
    let old = c.args.lane.now in
    let new = c.run_call.new.lane in
    let v = h.answered.view in
    let lines : List ScriptLine = resolved c.args.given.now.items c.args.lines.now in
    let was : c.as_slice.result.now ≡ c.args.given.now.items = search rules in
    let is : c.as_slice.result.now ++ offsets_in [] ≡ c.args.given.now.items = none_more c.as_slice.result.now ∙ was in
    let came = subst (λ (g : Offsets). HasCome (standing o v) v new c.run_call.new.blocks c.run_call.new.pending c.args.names (resolved g c.args.lines.now) (call_end.Unbegun c.in-Unbegun.line)) is
    (subst (λ (e : CallEnd). HasCome (standing o v) v new c.run_call.new.blocks c.run_call.new.pending c.args.names (resolved (c.as_slice.result.now ++ offsets_in (values_given e)) c.args.lines.now) e) c.in-Unbegun.is
    (c.in_ok-number.ensures.made (standing o v) v (begins o first old c.args.blocks.now c.args.pending.now c.args.names calls c.args.history.now.items h))) in
    spent_at o first old c.args.blocks.now c.args.pending.now c.args.names calls c.args.history.now.items h lines new c.run_call.new.pending c.in-Unbegun.line c.word-generation.result _ came.0 came.1 c.word-generation.ensures refl refl refl

pub returns-in-Unbegun-clause-gave : goal.returns-in-Unbegun-clause-gave
returns-in-Unbegun-clause-gave c were = given_unbegun c.args.history.now.items _ c.args.given.now.items c.in-Unbegun.line refl refl were
