use Rattle.std.proofs.Common.{◌+◌, ◌-◌, ◌/◌, ◌<◌, ◌≤◌, true, false, arith}
use Rattle.pm_view.specs.Steps.Step.{Load}
use Rattle.pm_view.specs.Views.{after}
use Rattle.pm_call.proofs.LookedWords.{action_looked, ends_past, no_word, off_high, size_inside, word_among, word_fits, word_inside, word_seen}
use Rattle.pm_call.proofs.publications.look_action.Goals as goal
use Rattle.pm_call.proofs.publications.look_action.Goals.{then-off-size-via-then-off-size, then-off-size-via-else-off-size+then-size-off-lt-WORD_BYTES}

pub overflow_sub-id : goal.overflow_sub-id
overflow_sub-id g c =
    let r = c.requires in
    off_high g.M.LaneMem.at c.args.lane.now r.standing r.rests r.holding (record { id = c.in-Set.id; off = c.in-Set.off; value = c.in-Set.value }) (word_among g.M.LaneMem.at c.args.lane.now c.args.action c.in-Set.id c.in-Set.off c.in-Set.value c.in-Set.is c.requires)

pub see-size-requires : goal.see-size-requires
see-size-requires g c = λ found.
    let r = c.requires in
    g.met.M.LawfulMem.meets c.args.lane.now.memory r.standing.view (Load (c.in-Set.id.off / 8 - 7) found) r.rests.memory
    (size_inside g.M.LaneMem.at c.args.lane.now r.standing r.rests r.holding (record { id = c.in-Set.id; off = c.in-Set.off; value = c.in-Set.value }) (word_among g.M.LaneMem.at c.args.lane.now c.args.action c.in-Set.id c.in-Set.off c.in-Set.value c.in-Set.is c.requires))

pub returns-then-off-size : goal.returns-then-off-size
returns-then-off-size g c =
    let past : c.see-size.result < c.in-Set.off + 8 = elim c.then-off-size.branch [
      | then-off-size-via-then-off-size w ↦ let l = w.if-off-size.true in omega (arith, l)
      | then-off-size-via-else-off-size+then-size-off-lt-WORD_BYTES w ↦ let l = w.if-off-size.false in let k = w.if-size-off-lt-WORD_BYTES.true in omega (arith, l, k)
    ] in
    action_looked g.M.LaneMem.at c.args.lane.now c.args.action c.in-Set.id c.in-Set.off c.in-Set.value c.in-Set.is (record c.args.lane.now { memory = c.see-size.new.self }) false (λ s rests h among.
    let may = g.met.M.LawfulMem.grants s.view (Load (c.in-Set.id.off / 8 - 7) c.see-size.result) (size_inside g.M.LaneMem.at c.args.lane.now s rests h (record { id = c.in-Set.id; off = c.in-Set.off; value = c.in-Set.value }) among) in
    ends_past g.M.LaneMem.at c.args.lane.now s rests h (record { id = c.in-Set.id; off = c.in-Set.off; value = c.in-Set.value }) among c.see-size.result c.see-size.type_inv (c.see-size.ensures.world s.view rests.memory may)
    (record c.args.lane.now { memory = c.see-size.new.self }) (record { memory = (c.see-size.ensures.made s.view rests.memory may).0; fields = rests.fields }) past)

pub overflow_add-id : goal.overflow_add-id
overflow_add-id g c =
    let r = c.requires in
    let may = g.met.M.LawfulMem.grants r.standing.view (Load (c.in-Set.id.off / 8 - 7) c.see-size.result) (size_inside g.M.LaneMem.at c.args.lane.now r.standing r.rests r.holding (record { id = c.in-Set.id; off = c.in-Set.off; value = c.in-Set.value }) (word_among g.M.LaneMem.at c.args.lane.now c.args.action c.in-Set.id c.in-Set.off c.in-Set.value c.in-Set.is c.requires)) in
    let l = c.if-off-size.false in let k = c.if-size-off-lt-WORD_BYTES.false in
    let few = word_fits g.M.LaneMem.at c.args.lane.now r.standing r.rests r.holding (record { id = c.in-Set.id; off = c.in-Set.off; value = c.in-Set.value }) (word_among g.M.LaneMem.at c.args.lane.now c.args.action c.in-Set.id c.in-Set.off c.in-Set.value c.in-Set.is c.requires) c.see-size.result c.see-size.type_inv (c.see-size.ensures.world r.standing.view r.rests.memory may) (omega (arith, l, k)) in
    omega (arith, few)

pub see-found-requires : goal.see-found-requires
see-found-requires g c = λ found.
    let r = c.requires in
    let may = g.met.M.LawfulMem.grants r.standing.view (Load (c.in-Set.id.off / 8 - 7) c.see-size.result) (size_inside g.M.LaneMem.at c.args.lane.now r.standing r.rests r.holding (record { id = c.in-Set.id; off = c.in-Set.off; value = c.in-Set.value }) (word_among g.M.LaneMem.at c.args.lane.now c.args.action c.in-Set.id c.in-Set.off c.in-Set.value c.in-Set.is c.requires)) in
    let l = c.if-off-size.false in let k = c.if-size-off-lt-WORD_BYTES.false in
    g.met.M.LawfulMem.meets c.see-size.new.self (after r.standing.view (Load (c.in-Set.id.off / 8 - 7) c.see-size.result)) (Load ((c.in-Set.id.off + c.in-Set.off) / 8) found)
    (c.see-size.ensures.made r.standing.view r.rests.memory may).0
    (word_inside g.M.LaneMem.at c.args.lane.now r.standing r.rests r.holding (record { id = c.in-Set.id; off = c.in-Set.off; value = c.in-Set.value }) (word_among g.M.LaneMem.at c.args.lane.now c.args.action c.in-Set.id c.in-Set.off c.in-Set.value c.in-Set.is c.requires) c.see-size.result c.see-size.type_inv (c.see-size.ensures.world r.standing.view r.rests.memory may) (omega (arith, l, k)))

pub returns-else-size-off-lt-WORD_BYTES : goal.returns-else-size-off-lt-WORD_BYTES
returns-else-size-off-lt-WORD_BYTES g c =
    let l = c.if-off-size.false in let k = c.if-size-off-lt-WORD_BYTES.false in
    let inside : c.in-Set.off + 8 ≤ c.see-size.result = omega (arith, l, k) in
    action_looked g.M.LaneMem.at c.args.lane.now c.args.action c.in-Set.id c.in-Set.off c.in-Set.value c.in-Set.is (record c.args.lane.now { memory = c.see-found.new.self }) true (λ s rests h among.
    let may = g.met.M.LawfulMem.grants s.view (Load (c.in-Set.id.off / 8 - 7) c.see-size.result) (size_inside g.M.LaneMem.at c.args.lane.now s rests h (record { id = c.in-Set.id; off = c.in-Set.off; value = c.in-Set.value }) among) in
    let world = c.see-size.ensures.world s.view rests.memory may in
    let there = (c.see-size.ensures.made s.view rests.memory may).0 in
    let v = after s.view (Load (c.in-Set.id.off / 8 - 7) c.see-size.result) in
    let next = g.met.M.LawfulMem.grants v (Load ((c.in-Set.id.off + c.in-Set.off) / 8) c.see-found.result) (word_inside g.M.LaneMem.at c.args.lane.now s rests h (record { id = c.in-Set.id; off = c.in-Set.off; value = c.in-Set.value }) among c.see-size.result c.see-size.type_inv world inside) in
    word_seen g.M.LaneMem.at c.args.lane.now s rests h (record { id = c.in-Set.id; off = c.in-Set.off; value = c.in-Set.value }) among c.see-size.result c.see-size.type_inv world inside c.see-found.result c.see-found.type_inv (c.see-found.ensures.world v there next)
    (record c.args.lane.now { memory = c.see-found.new.self }) (record { memory = (c.see-found.ensures.made v there next).0; fields = rests.fields }))

pub returns-in_default : goal.returns-in_default
returns-in_default g c = no_word g.M.LaneMem.at c.args.lane.now c.args.action c.in_default.not-Set
