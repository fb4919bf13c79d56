use Rattle.std.proofs.Common.{◌∙◌, length, length-append, take, ap, arith}
use Rattle.pm_call.specs.Entering.{entries_of}
use Rattle.pm_call.proofs.EnteredWords.{entries_so_few, none_entered, word_entered}
use Rattle.pm_call.proofs.entering.enter_words.Goals as goal
use Rattle.pm_call.proofs.entering.enter_words.Goals.{in-Set, in_default}

pub push-requires : goal.push-requires
push-requires c =
    let xs = c.as_slice-action-items.result.now in
    let now = ap length c.loop-action.invariant
    ∙ length-append c.args.entries.now.items (entries_of (take c.loop-action.action-index xs)) in
    let low = c.loop-action-test.true in
    let few = entries_so_few xs c.loop-action.action-index (omega (arith, low)) in
    let same = ap length c.as_slice-action-items.ensures.value in
    let room = c.requires.room in
    (omega arith, omega (arith, now, low, few, same, room))

pub loop-action-preserved : goal.loop-action-preserved
loop-action-preserved c = elim c.match-action.branch [
  | in-Set w ↦ let e = word_entered c.args.entries.now.items c.loop-action.entries.items
      c.as_slice-action-items.result.now c.loop-action.action-index c.loop-action-test.true
      c.loop-action.invariant w.in-Set.id w.in-Set.off w.in-Set.value w.in-Set.is in
      let p = w.push.ensures.items in cc
  | in_default w ↦ let e = none_entered c.args.entries.now.items c.loop-action.entries.items
      c.as_slice-action-items.result.now c.loop-action.action-index c.loop-action-test.true
      c.loop-action.invariant w.in_default.not-Set in cc
]
