use Rattle.std.proofs.Common.{◌≡◌, ◌+◌, ◌-◌, ap, sym, subst, arith, false}
use Rattle.pm_view.specs.declared.change.Change.{Change}
use Rattle.pm_memory.proofs.TakingBack.{IsTakenTo, taken_none, taken_all, taken-other, taken-more, taken-kept}
use Rattle.pm_memory.proofs.survivors.left_of.Goals as goal
use Rattle.pm_memory.proofs.survivors.left_of.Goals.{else-change-word-via-then-change-word+else-to_take-gt0, else-change-word-via-else-change-word}

pub loop-i-init : goal.loop-i-init
loop-i-init c = taken_none c.args.kept c.args.word c.args.value c.args.changes.now (c.count_of.result - c.args.kept) (ap (λ n. n - c.args.kept) c.count_of.ensures.number)

abbrev nothing : Change
nothing = record { word = 0; mask = 0; old = 0; new = 0; flushed = false }

pub loop-i-preserved-then-to_take-gt0 : goal.loop-i-preserved-then-to_take-gt0
loop-i-preserved-then-to_take-gt0 c =
    let one : c.loop-i.i ≡ c.loop-i.i - 1 + 1 = omega arith in
    let is = subst (λ n. IsTakenTo c.args.kept c.args.word c.args.value c.args.changes.now n c.loop-i.left c.loop-i.to_take) one c.loop-i.invariant in
    let more = taken-more c.args.kept c.args.word c.args.value c.args.changes.now (c.loop-i.i - 1) nothing (omega arith) c.loop-i.left c.loop-i.to_take is c.if-change-word.true c.if-to_take-gt0.true in
    subst (λ n. IsTakenTo c.args.kept c.args.word c.args.value c.args.changes.now (c.loop-i.i - 1) n (c.loop-i.to_take - 1)) (sym c.without-left.ensures) more

pub loop-i-preserved : goal.loop-i-preserved
loop-i-preserved c =
    let one : c.loop-i.i ≡ c.loop-i.i - 1 + 1 = omega arith in
    let is = subst (λ n. IsTakenTo c.args.kept c.args.word c.args.value c.args.changes.now n c.loop-i.left c.loop-i.to_take) one c.loop-i.invariant in
    elim c.else-change-word.branch [
      | else-change-word-via-then-change-word+else-to_take-gt0 w ↦ taken-kept c.args.kept c.args.word c.args.value c.args.changes.now (c.loop-i.i - 1) nothing (omega arith) c.loop-i.left c.loop-i.to_take is w.if-change-word.true (omega arith)
      | else-change-word-via-else-change-word w ↦ taken-other c.args.kept c.args.word c.args.value c.args.changes.now (c.loop-i.i - 1) nothing (omega arith) c.loop-i.left c.loop-i.to_take is w.if-change-word.false
    ]

pub returns : goal.returns
returns c =
    let done : c.loop-i.i ≡ 0 = omega arith in
    taken_all c.args.kept c.args.word c.args.value c.args.changes.now c.loop-i.left c.loop-i.to_take (subst (λ n. IsTakenTo c.args.kept c.args.word c.args.value c.args.changes.now n c.loop-i.left c.loop-i.to_take) done c.loop-i.invariant)
