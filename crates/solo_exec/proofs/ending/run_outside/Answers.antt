use Rattle.std.proofs.Common.{◌≡◌, ◌≢◌, Option, None, Some, Err, ℕ, [], ◌∷◌, refl, sym, ◌∙◌, subst, rules}
use Rattle.pm_objects.specs.declared.refusal.Refusal.{Refusal}
use Rattle.pm_objects.specs.declared.refusal.Refusal.TheVariants as refusal
use Rattle.solo_exec.specs.Progress.{ActedOutside, IsAnswered, IsCut, IsHalted}
use Rattle.solo_exec.specs.declared.ending.CallAnswer.TheVariants as answer
use Rattle.solo_exec.proofs.Closed.{halted}
use Rattle.solo_exec.proofs.OutsideAnswered.{outside_answered, outside_keeps, refused_acted}
use Rattle.solo_exec.proofs.ending.run_outside.Goals as goal

pub returns-in_ok-values_outside-in-Ok-clause-made : goal.returns-in_ok-values_outside-in-Ok-clause-made
returns-in_ok-values_outside-in-Ok-clause-made c o first is =
    let lane = c.act_outside.new.lane in
    let blocks = c.act_outside.new.blocks in
    let left = c.act_outside.new.pending in
    subst (λ (number : ℕ). IsAnswered o first lane blocks left c.args.names (c.args.said.now ∷ []) number (answer.Outside None) c.reply_of.result) (sym c.last_number.ensures)
    (outside_answered o first lane blocks left c.args.names c.args.said.now None c.in-Ok.gave c.reply_of.result c.requires.outside (c.reply_of.ensures.values ∙ c.in_ok-values_outside-in-Ok.ensures) c.reply_of.ensures.at (c.in-Ok.ensures o first is))

pub returns-in_ok-values_outside-in-Ok-clause-letters : goal.returns-in_ok-values_outside-in-Ok-clause-letters
returns-in_ok-values_outside-in-Ok-clause-letters c = outside_keeps c.args.said.now c.in-Ok.gave c.reply_of.result.values (c.reply_of.ensures.values ∙ c.in_ok-values_outside-in-Ok.ensures)

pub returns-in-Err-Stopped-clause-made : goal.returns-in-Err-Stopped-clause-made
returns-in-Err-Stopped-clause-made c o first is =
    let w = c.in-Err-Stopped in
    let lane = c.act_outside.new.lane in
    let reply = c.reply_of-in-Err-Stopped in
    let cut : IsCut o first lane c.args.names (c.args.said.now ∷ []) [] =
    subst (λ (why : Refusal). ActedOutside o first lane c.act_outside.new.blocks c.act_outside.new.pending c.args.names c.args.said.now.operation (Err why)) w.field-0-is (w.ensures o first is) c.args.said.now refl in
    subst (λ (number : Option ℕ). IsHalted o first lane c.args.names (c.args.said.now ∷ []) number reply.result) (sym c.in_flight.ensures)
    (halted o first lane c.args.names (c.args.said.now ∷ []) [] reply.result cut (reply.ensures.values ∙ c.new.ensures.items) reply.ensures.at)

pub returns-in-Err-Spent-clause-made : goal.returns-in-Err-Spent-clause-made
returns-in-Err-Spent-clause-made c o first is =
    let w = c.in-Err-Spent in
    (subst (λ (why : Refusal). ActedOutside o first c.act_outside.new.lane c.act_outside.new.blocks c.act_outside.new.pending c.args.names c.args.said.now.operation (Err why)) w.field-0-is (w.ensures o first is), refl)

pub returns-in-Err : goal.returns-in-Err
returns-in-Err c =
    let why = c.in-Err.why in
    let lane = c.act_outside.new.lane in
    let blocks = c.act_outside.new.blocks in
    let left = c.act_outside.new.pending in
    let reply = c.reply_of-in-Err in
    let none = reply.ensures.values ∙ c.new-in-Err.ensures.items in
    record {
      made = λ o first is.
          let going : why ≢ refusal.Stopped = search rules in
          let unspent : why ≢ refusal.Spent = search rules in
          subst (λ (number : ℕ). IsAnswered o first lane blocks left c.args.names (c.args.said.now ∷ []) number (answer.Outside (Some why)) reply.result) (sym c.last_number-in-Err.ensures)
          (outside_answered o first lane blocks left c.args.names c.args.said.now (Some why) None reply.result c.requires.outside none reply.ensures.at
          (refused_acted o first lane blocks left c.args.names c.args.said.now.operation why going unspent (c.in-Err.ensures o first is)));
      letters = outside_keeps c.args.said.now None reply.result.values none;
    }
