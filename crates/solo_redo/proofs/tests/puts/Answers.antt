use Rattle.std.proofs.Common.{◌≡◌, List, [], ◌∷◌, length, sym, subst, rules}
use Rattle.solo_memory.specs.Solo.{Sees}
use Rattle.pm_record.specs.declared.redo.Redo.{Redo}
use Rattle.solo_world.specs.Sequences.{IsReady}
use Rattle.solo_redo.specs.Sequences.{puts}
use Rattle.solo_redo.proofs.OneLane.{end, heap, may_put_end, may_put_heap, seen_with_area}
use Rattle.solo_redo.proofs.tests.puts.Goals as goal

pub put-requires-clause-area : goal.put-requires-clause-area
put-requires-clause-area g c = seen_with_area c.in_ok-lane.lane.memory c.in_ok-lane.ensures.held c.in_ok-lane.ensures.whole c.in_ok-lane.ensures.generation

pub put-requires-clause-ready : goal.put-requires-clause-ready
put-requires-clause-ready g c room =
    let items : c.in_ok-lane.lane.entries.items ≡ [] = c.in_ok-lane.ensures.unentered in
    let e : c.heap.result ≡ heap = search rules in
    subst (λ (es : List Redo). IsReady (Sees c.in_ok-lane.lane.memory) (puts (length es) c.heap.result)) (sym items)
    (subst (λ (r : Redo). IsReady (Sees c.in_ok-lane.lane.memory) (puts 0 r)) (sym e) (may_put_heap c.in_ok-lane.lane.memory c.in_ok-lane.ensures.held c.in_ok-lane.ensures.whole c.in_ok-lane.ensures.generation))

pub put-requires-2-clause-area : goal.put-requires-2-clause-area
put-requires-2-clause-area g c = seen_with_area c.in_ok-lane-2.lane.memory c.in_ok-lane-2.ensures.held c.in_ok-lane-2.ensures.whole c.in_ok-lane-2.ensures.generation

pub put-requires-2-clause-ready : goal.put-requires-2-clause-ready
put-requires-2-clause-ready g c room =
    let items : c.push.new.self.items ≡ c.heap-2.result ∷ [] = search rules in
    let e : c.ending.result ≡ end = search rules in
    subst (λ (es : List Redo). IsReady (Sees c.in_ok-lane-2.lane.memory) (puts (length es) c.ending.result)) (sym items)
    (subst (λ (r : Redo). IsReady (Sees c.in_ok-lane-2.lane.memory) (puts 1 r)) (sym e) (may_put_end c.in_ok-lane-2.lane.memory c.in_ok-lane-2.ensures.held c.in_ok-lane-2.ensures.whole c.in_ok-lane-2.ensures.generation))
