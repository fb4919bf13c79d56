-- A whole call of the model, on a pool without objects.
use Rattle.std.proofs.Common.{◌≡◌, inl, ℕ, [], Bool, true, false, cond, eqb, Some, None, IsSome, refl, lit<}
use Rattle.pm_objects.specs.declared.calls.Operation.TheVariants.{Begin, Alloc, Commit}
use Rattle.pm_objects.specs.declared.calls.Want.{Want}
use Rattle.pm_objects.specs.declared.history.Value.TheVariants.{Offset}
use Rattle.pm_model.specs.Items.{all_edited}
use Rattle.pm_model.specs.Pending.{none_pending}
use Rattle.pm_model.specs.Places.{CanHold}
use Rattle.pm_model.specs.Transaction.{Transaction, all_locked, idle}
use Rattle.pm_model.specs.Refusals.{first_of, is_first_lock}
use Rattle.pm_model.specs.Inside.{Ran, Replies, after, is_kept}
use Rattle.pm_model.specs.Parts.{parts_inside}
use Rattle.pm_model.specs.CallStep.{CallStep, Runs, RunsOn, with_pending}
use Rattle.pm_model.specs.Samples.{after_allocating, allocating, empty, unhindered, idle_lanes, with_one_object}
use Rattle.pm_model.proofs.Lists.{all_of_each}

abbrev begin_ran : Ran
begin_ran = record { operation = Begin []; seen = unhindered; reply = None }

abbrev alloc_ran : Ran
alloc_ran = record { operation = Alloc 64 9; seen = unhindered; reply = Some (Offset 16512) }

abbrev commit_ran : Ran
commit_ran = record { operation = Commit; seen = unhindered; reply = None }

abbrev start : Transaction
start = idle empty none_pending

begins : Replies start begin_ran true
unfolding first_of all_locked
begins = record { inside = refl; reply = record { there = all_of_each (λ (w : Want). is_first_lock start w ≡ true → IsSome (empty.items w.id.off)) [] tt; publishes = tt; value = refl } }

place : CanHold 1 1 (Rattle.pm_layout.specs.Sizes.class_of 64) 16512
place = record { zone = 0; chunk = 0; zone_in_range = lit< tt; chunk_in_range = lit< tt; begins = (0, lit< tt, refl) }

allocs : Replies (after begin_ran start) alloc_ran true
unfolding first_of all_locked
allocs = record {
  inside = refl;
  reply = record {
    there = all_of_each (λ (w : Want). is_first_lock (after begin_ran start) w ≡ true → IsSome (empty.items w.id.off)) [] tt;
    publishes = tt;
    value = (16512, (place, record { objects = λ l off c. refl; others = λ l c. refl }), refl);
  };
}

commits : Replies (after alloc_ran (after begin_ran start)) commit_ran true
unfolding first_of all_locked
commits = record {
  inside = refl;
  reply = record {
    there = all_of_each (λ (w : Want). is_first_lock (after alloc_ran (after begin_ran start)) w ≡ true → IsSome (with_one_object.items w.id.off)) [] tt;
    publishes = tt;
    value = refl;
  };
}

none_left : (k : ℕ) → none_pending ≡ with_pending (λ lane. none_pending) 0 none_pending k
none_left k = by (eqb k 0) where
  by : (b : Bool) → none_pending ≡ cond b none_pending none_pending
  by true = refl
  by false = refl

pub allocates : CallStep idle_lanes allocating after_allocating
unfolding Runs RunsOn is_kept parts_inside all_edited all_locked
allocates = inl (record {
  last = after commit_ran (after alloc_ran (after begin_ran start));
  begins = refl;
  over = refl;
  runs = (begins, (refl, allocs, (refl, commits, refl)));
  parts = refl;
  leaves = λ i. record { pool = with_one_object; pending = λ k. none_left k i };
})
