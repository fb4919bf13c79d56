use Rattle.std.proofs.Common.{rules, ◌<◌, ◌≤◌, ◌+◌, ◌*◌, subst, arith, get_or}
use Rattle.solo_view.specs.Steps.Step.{Load}
use Rattle.solo_lock.specs.Locking.{no_lock}
use Rattle.solo_lock.proofs.KnownObjects.{knows_all, knows_more, knows_no_block, knows_none, knows_not, word_fits, word_inside}
use Rattle.solo_lock.proofs.finding.know_objects.Goals as goal

pub loop-held-init : goal.loop-held-init
loop-held-init g c v there is = knows_none (g.M.LaneMem.at c.args.mem.now) v c.args.locks.now there

pub overflow_mul-held : goal.overflow_mul-held
overflow_mul-held g c =
    let r = c.requires.held in
    let e = word_fits r.0 c.args.locks.now r.1.1 c.loop-held.held-index c.loop-held-test.true (g.M.LaneMem.at c.loop-held.mem) (c.loop-held.invariant r.0 r.1.0 r.1.1) in
    omega (arith, e)

pub overflow_add-held : goal.overflow_add-held
overflow_add-held g c =
    let r = c.requires.held in
    let e = word_fits r.0 c.args.locks.now r.1.1 c.loop-held.held-index c.loop-held-test.true (g.M.LaneMem.at c.loop-held.mem) (c.loop-held.invariant r.0 r.1.0 r.1.1) in
    omega (arith, e)

pub load-size-requires : goal.load-size-requires
load-size-requires g c found =
    let r = c.requires.held in
    let t = c.loop-held.invariant r.0 r.1.0 r.1.1 in
    g.met.M.LawfulMem.meets c.loop-held.mem t.view (Load (8 * (get_or c.args.locks.now c.loop-held.held-index no_lock).line + 1) found) t.there
    (word_inside r.0 c.args.locks.now r.1.1 c.loop-held.held-index c.loop-held-test.true (g.M.LaneMem.at c.loop-held.mem) t)

pub returns-then-div_ceil-lines : goal.returns-then-div_ceil-lines
returns-then-div_ceil-lines g c = record {
  known = λ v there is.
      let t = c.loop-held.invariant v there is in
      let made = c.load-size.ensures t.view t.there in
      knows_not v c.args.locks.now is c.loop-held.held-index c.loop-held-test.true (g.M.LaneMem.at c.loop-held.mem) t c.load-size.result made.2 c.in-Some.lines c.in-Some.is
      (subst (λ n. c.in-Some.lines ≤ n) c.div_ceil.ensures c.if-div_ceil-lines.true) (g.M.LaneMem.at c.load-size.new.self) made.0;
}

pub returns-in_default : goal.returns-in_default
returns-in_default g c = record {
  known = λ v there is.
      let t = c.loop-held.invariant v there is in
      knows_no_block v c.args.locks.now is c.loop-held.held-index c.loop-held-test.true (g.M.LaneMem.at c.loop-held.mem) t c.in_default.not-Some;
}

pub loop-held-preserved : goal.loop-held-preserved
loop-held-preserved g c v there is =
    let t = c.loop-held.invariant v there is in
    let made = c.load-size.ensures t.view t.there in
    knows_more v c.args.locks.now is c.loop-held.held-index c.loop-held-test.true (g.M.LaneMem.at c.loop-held.mem) t c.load-size.result made.2 c.in-Some.lines c.in-Some.is
    (subst (λ n. n < c.in-Some.lines) c.div_ceil.ensures c.if-div_ceil-lines.false) (g.M.LaneMem.at c.load-size.new.self) made.0

pub returns : goal.returns
returns g c = record { known = λ v there is. knows_all (g.M.LaneMem.at c.loop-held.mem) v c.args.locks.now c.loop-held.held-index is.held (search rules) (c.loop-held.invariant v there is) }
