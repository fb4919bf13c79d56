use Rattle.std.proofs.Common.{refl, arith, rules}
use Rattle.solo_tx.proofs.Objects.{covered_in_pool, range_is_low}
use Rattle.solo_tx.proofs.LearnsAtWork.{checked_then, range_learned}
use Rattle.solo_tx.proofs.checking.check_words.Goals as goal

pub overflow_add-id : goal.overflow_add-id
overflow_add-id g c =
    let r = c.requires.work in
    let t = c.in_ok-check_range.ensures.ok r.0 r.1.0 r.1.1 in
    let low = range_is_low t.view t.works.objects c.args.id c.args.off c.args.len c.args.write t.holds r.0 t.works.sound t.works.opening t.works.zones in omega (arith, low)

pub learn-requires-clause-range : goal.learn-requires-clause-range
learn-requires-clause-range g c =
    let r = c.requires.work in
    let t = c.in_ok-check_range.ensures.ok r.0 r.1.0 r.1.1 in
    range_is_low t.view t.works.objects c.args.id c.args.off c.args.len c.args.write t.holds r.0 t.works.sound t.works.opening t.works.zones

pub learn-requires-clause-inside : goal.learn-requires-clause-inside
learn-requires-clause-inside g c =
    let r = c.requires.work in
    let t = c.in_ok-check_range.ensures.ok r.0 r.1.0 r.1.1 in
    (t.view, (t.works.seen.memory, covered_in_pool t.view t.works.objects c.args.id c.args.off c.args.len c.args.write t.holds r.0 t.works.sound t.works.opening))

pub returns-clause-ok : goal.returns-clause-ok
returns-clause-ok g c o v work =
    let t = c.in_ok-check_range.ensures.ok o v work in
    let s = c.learn.ensures t.view t.works.seen.memory in
    checked_then o g.M.LaneMem.at _ _ v _ _ t
    (range_learned o g.M.LaneMem.at c.check_range.new.lane _ t.view s.0 c.args.id c.args.off c.args.len c.args.write t.works t.holds s.1.1
    (record { pool = refl; shape = refl; locks = refl; entries = refl; level = refl; stage = refl; error = refl; drawn = refl; last = refl; stopped = refl }) refl s.1.0)

pub returns-in_err-check_range-clause-not_locked : goal.returns-in_err-check_range-clause-not_locked
returns-in_err-check_range-clause-not_locked g c e = c.check_range.ensures.not_locked (search rules)

pub returns-in_err-check_range-clause-out_of_range : goal.returns-in_err-check_range-clause-out_of_range
returns-in_err-check_range-clause-out_of_range g c e = c.check_range.ensures.out_of_range (search rules)
