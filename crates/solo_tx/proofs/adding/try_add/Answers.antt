use Rattle.std.proofs.Common.{◌≡◌, ⊎_elim, Err, List, ap, subst, sym, true, rules}
use Rattle.solo_crash.specs.Operations.{IsReason}
use Rattle.solo_model.specs.Checks.{Range}
use Rattle.pm_objects.specs.declared.calls.Operation.TheVariants.{AddRange}
use Rattle.pm_objects.specs.declared.refusal.Refusal.{Refusal}
use Rattle.pm_objects.specs.declared.refusal.Refusal.TheVariants as refusal
use Rattle.solo_world.specs.declared.lane.Lane.{Lane}
use Rattle.solo_world.specs.declared.lane.Span.{Span}
use Rattle.solo_tx.proofs.Checked.{if_err, lock_or_end, looked_old, looked_so, of_err}
use Rattle.solo_tx.proofs.LearnsAtWork.{checked_so}
use Rattle.solo_tx.specs.Learning.{HasChecked}
use Rattle.solo_tx.specs.Ranges.{HasAddedRange, KnowsRange, StopsUndrawn, adds_range}
use Rattle.solo_tx.proofs.adding.try_add.Goals as goal

pub returns-in_err-check_words-clause-refused : goal.returns-in_err-check_words-clause-refused
returns-in_err-check_words-clause-refused g c =
    if_err _ c.from_residual.result
    (λ r is stays o v work.
    let e : c.check_words.result ≡ Err r = search rules in
    lock_or_end o g.M.LaneMem.at c.check_words.new.lane v (AddRange c.args.id c.args.off c.args.len) (record { id = c.args.id; off = c.args.off; len = c.args.len }) c.check_words.result r e
    (of_err _ c.check_words.result r e c.check_words.ensures.causes) (λ n. c.check_words.ensures.not_locked n o v work) (λ n. c.check_words.ensures.out_of_range n o v work))

pub do_add-requires : goal.do_add-requires
do_add-requires g c =
    let r = c.requires.at_work in
    let t = c.in_ok-check_words.ensures.ok r.0 r.1.0 r.1.1 in
    record { may = (r.0, t.view, t.works, t.holds) }

pub returns-in_err-do_add-clause-refused : goal.returns-in_err-do_add-clause-refused
returns-in_err-do_add-clause-refused g c =
    let op = AddRange c.args.id c.args.off c.args.len in
    let range : Range = record { id = c.args.id; off = c.args.off; len = c.args.len } in
    if_err _ c.from_residual-in_err-do_add.result
    (λ r is stays o v work.
    let e : c.do_add.result ≡ Err r = search rules in
    ⊎_elim
    (λ (full : r ≡ refusal.LogFull).
    let log : c.do_add.result ≡ Err refusal.LogFull = search rules in
    subst (λ (lane : Lane g.row.M.Denot). HasChecked o g.M.LaneMem.at lane v (λ w. IsReason w op range r)) (sym (c.do_add.ensures.unchanged log))
    (subst (λ (r : Refusal). HasChecked o g.M.LaneMem.at c.check_words.new.lane v (λ w. IsReason w op range r)) (sym full)
    (checked_so o g.M.LaneMem.at c.check_words.new.lane v (λ w. KnowsRange w c.args.id c.args.off c.args.len true) (λ w. IsReason w op range refusal.LogFull) (λ w works can. c.do_add.ensures.full log o w works can)
    (c.in_ok-check_words.ensures.ok o v work))))
    (λ (stopped : r ≡ refusal.Stopped). absurd (stays stopped))
    (of_err _ c.do_add.result r e c.do_add.ensures.causes))

pub returns-in_err-do_add-clause-stops : goal.returns-in_err-do_add-clause-stops
returns-in_err-do_add-clause-stops g c e o v work =
    let stopped : c.do_add.result ≡ Err refusal.Stopped = search rules in
    looked_so o g.M.LaneMem.at c.check_words.new.lane v (λ w. KnowsRange w c.args.id c.args.off c.args.len true) (λ w. KnowsRange w c.args.id c.args.off c.args.len true × StopsUndrawn (g.M.LaneMem.at c.do_add.new.lane.memory) w (adds_range c.args.lane.now.records.items c.args.id c.args.off c.args.len))
    (c.in_ok-check_words.ensures.ok o v work)
    (λ w works can. (
      can,
      subst (λ (spans : List Span). StopsUndrawn (g.M.LaneMem.at c.do_add.new.lane.memory) w (adds_range spans c.args.id c.args.off c.args.len)) (ap (λ (lane : Lane g.row.M.Denot). lane.records.items) c.check_words.ensures.else_same)
          (c.do_add.ensures.stops stopped o w works can),
    ))

pub returns-clause-done : goal.returns-clause-done
returns-clause-done g c o v work old =
    looked_old o g.M.LaneMem.at c.check_words.new.lane v (λ w. KnowsRange w c.args.id c.args.off c.args.len true)
    (λ w. KnowsRange w c.args.id c.args.off c.args.len true × HasAddedRange o g.M.LaneMem.at c.do_add.new.lane w c.args.lane.now.records.items c.args.id c.args.off c.args.len) c.args.id.off (c.in_ok-check_words.ensures.ok o v work) old
    (λ w works still can. (
      can,
      subst (λ (spans : List Span). HasAddedRange o g.M.LaneMem.at c.do_add.new.lane w spans c.args.id c.args.off c.args.len) (ap (λ (lane : Lane g.row.M.Denot). lane.records.items) c.check_words.ensures.else_same)
          (c.in_ok-do_add.ensures.done o w works still can),
    ))
