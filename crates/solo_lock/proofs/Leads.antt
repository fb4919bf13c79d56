-- Steps that lead from one view to another, one after another.
use Rattle.std.proofs.Common.{◌≡◌, ℕ, ◌+◌, Bool, false, cond, List, [], ◌∷◌, ◌++◌, flat_map, refl, sym, ap, ◌∙◌, subst, arith}
use Rattle.std.proofs.lemmas.Bool.{cond-false}
use Rattle.solo_crash.proofs.Leading.{leads_end, leads_then}
use Rattle.solo_lock.proofs.Leading.{ready_leads}
use Rattle.solo_crash.specs.HeldHistory.{DrawsEnded}
use Rattle.solo_crash.specs.Leading.{Leads}
use Rattle.solo_view.proofs.SameLane.{same_lane-after_all}
use Rattle.solo_view.specs.Constants.{IsSameLane}
use Rattle.solo_view.specs.Counts.{counted, is_counted}
use Rattle.solo_view.specs.Founds.{FoundAlone}
use Rattle.solo_view.specs.Steps.{Step}
use Rattle.solo_view.specs.View.{View}
use Rattle.solo_view.specs.Steps.Step.{Draw}
use Rattle.solo_view.specs.Views.{after, after_all, changes_heap, freed_by, unallocated}
use Rattle.solo_world.specs.Lawful.{Allowed}
use Rattle.solo_world.specs.Sequences.{Ready}
use Rattle.solo_lock.specs.Leading.{DrawEnded, IsLed, KeepsHeap, LeaveBlocks}

pub counted_then : (xs ys : List Step) → counted (xs ++ ys) ≡ counted xs + counted ys
unfolding counted
counted_then [] ys = omega arith
counted_then (x ∷ xs) ys = let rest = counted_then xs ys in omega (arith, rest)

pub heap_still : (v : View) → KeepsHeap v v
heap_still v = record { zone_locks = refl; reserved = refl; freed = refl }

pub heap_then : (u v w : View) → KeepsHeap u v → KeepsHeap v w → KeepsHeap u w
heap_then u v w first second = record { zone_locks = second.zone_locks ∙ first.zone_locks; reserved = second.reserved ∙ first.reserved; freed = second.freed ∙ first.freed }

-- a draw that publishes no change of a block keeps it
pub heap_drawn : (v : View) (n : ℕ) → changes_heap v ≡ false → KeepsHeap v (after v (Draw n))
heap_drawn v n plain = record {
  zone_locks = refl;
  reserved = cond-false (changes_heap v) (unallocated v) v.reserved plain;
  freed = cond-false (changes_heap v) (v.freed ++ flat_map (freed_by v) v.log.entries) v.freed plain;
}

pub led_none : (v : View) → IsLed v v
unfolding Leads counted LeaveBlocks
led_none v = record { steps = []; leads = refl; uncounted = refl; leaves = tt; heap = heap_still v }

pub leave_then : (u v : View) (xs ys : List Step) → after_all u xs ≡ v → LeaveBlocks u xs → LeaveBlocks v ys → LeaveBlocks u (xs ++ ys)
unfolding LeaveBlocks after_all
leave_then u v [] ys is first second = subst (λ (x : View). LeaveBlocks x ys) (sym is) second
leave_then u v (x ∷ xs) ys is first second = (first.0, leave_then (after u x) v xs ys is first.1 second)

pub led_then : (u v w : View) → IsLed u v → IsLed v w → IsLed u w
led_then u v w first second = record {
  steps = first.steps ++ second.steps;
  leads = leads_then u v w first.steps second.steps first.leads second.leads;
  uncounted = (let a = first.uncounted in let b = second.uncounted in let c = counted_then first.steps second.steps in omega (arith, a, b, c));
  leaves = leave_then u v first.steps second.steps (sym (leads_end u v first.steps first.leads)) first.leaves second.leaves;
  heap = heap_then u v w first.heap second.heap;
}

pub led_once : (v : View) (s : Step) → Allowed v s → FoundAlone v s → DrawsEnded v s → is_counted s ≡ false → KeepsHeap v (after v s) → IsLed v (after v s)
unfolding Leads counted LeaveBlocks
led_once v s allowed found draws free heap = record { steps = s ∷ []; leads = (allowed, found, draws, refl); uncounted = ap (λ (b : Bool). cond b 1 0 + 0) free; leaves = (heap.reserved, tt); heap = heap }

pub ready_led : (v : View) (steps : List Step) → Ready v steps → DrawEnded v steps → counted steps ≡ 0 → LeaveBlocks v steps → KeepsHeap v (after_all v steps) → IsLed v (after_all v steps)
ready_led v steps ready draws free leaves heap = record { steps = steps; leads = ready_leads v steps ready draws; uncounted = free; leaves = leaves; heap = heap }

-- no step changes the lane
pub led_same : (v w : View) → IsLed v w → IsSameLane v w
led_same v w led = subst (IsSameLane v) (sym (leads_end v w led.steps led.leads)) (same_lane-after_all v led.steps)
