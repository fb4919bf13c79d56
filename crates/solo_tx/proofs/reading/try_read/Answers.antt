use Rattle.std.proofs.Common.{◌≡◌, Err, length, false, rules}
use Rattle.pm_objects.specs.declared.calls.Operation.TheVariants.{Read}
use Rattle.solo_tx.proofs.Checked.{if_err, lock_or_end, looked_old, of_err}
use Rattle.solo_tx.specs.Ranges.{HasReadRange, KnowsRange}
use Rattle.solo_tx.proofs.reading.try_read.Goals as goal

pub returns-in_err-check_words-clause-refused : goal.returns-in_err-check_words-clause-refused
returns-in_err-check_words-clause-refused g c =
    if_err _ c.from_residual.result
    (λ r is o v work.
    let e : c.check_words.result ≡ Err r = search rules in
    lock_or_end o g.M.LaneMem.at c.check_words.new.lane v (Read c.args.id c.args.off (length c.args.into.now)) (record { id = c.args.id; off = c.args.off; len = length c.args.into.now }) c.check_words.result r e
    (of_err _ c.check_words.result r e c.check_words.ensures.causes) (λ n. c.check_words.ensures.not_locked n o v work) (λ n. c.check_words.ensures.out_of_range n o v work))

pub do_read-requires : goal.do_read-requires
do_read-requires g c =
    let r = c.requires.at_work in
    let t = c.in_ok-check_words.ensures.ok r.0 r.1.0 r.1.1 in
    record { may = (r.0, t.view, t.works, t.holds) }

pub returns-clause-done : goal.returns-clause-done
returns-clause-done g c o v work old =
    looked_old o g.M.LaneMem.at c.check_words.new.lane v (λ w. KnowsRange w c.args.id c.args.off (length c.args.into.now) false)
    (λ w. KnowsRange w c.args.id c.args.off (length c.args.into.now) false × HasReadRange o g.M.LaneMem.at c.do_read.new.lane w c.args.id c.args.off (length c.args.into.now) c.do_read.new.into) c.args.id.off (c.in_ok-check_words.ensures.ok o v work) old
    (λ w works still can. (can, c.do_read.ensures.done o w works still can))
