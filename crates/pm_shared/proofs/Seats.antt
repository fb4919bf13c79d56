-- A lane over a seat: what its calls ask of the table, and what it may be seen as after them. `now` is the lane as its fields are.
use Rattle.std.proofs.Common.{◌≡◌, ℕ, true, false, None, sym, ap, ◌∙◌, subst}
use Rattle.std.proofs.lemmas.Bool.{both_ways}
use Rattle.atomic_table.specs.Table.{Me}
use Rattle.pm_memory.specs.Changes.{CanAdd}
use Rattle.pm_memory.specs.Runs.{AnyStep, Made}
use Rattle.pm_view.specs.Counts.{is_counted, MayCount, HasRoom}
use Rattle.pm_view.specs.Founds.{Found}
use Rattle.pm_view.specs.Steps.{Step}
use Rattle.pm_view.specs.View.{View, Constants}
use Rattle.pm_view.specs.Views.{after}
use Rattle.pm_world.specs.Lawful.{Allowed}
use Rattle.pm_shared.proofs.Asked.{one_view}
use Rattle.pm_shared.proofs.Constant.{fixed-after}
use Rattle.pm_shared.proofs.Tallying.{plain_tally, room}
use Rattle.pm_shared.specs.Rule.{Knowledge, SeatAsks, SeatMade, lane_of}
use Rattle.pm_shared.specs.Seats.{Seated, IsSeen, IsAllowed}
use Rattle.pm_shared.specs.Tallies.{Tallied, IsTally}

module _ (m now : Seated) (same : now ≡ m) where
  pub seen_now : (v : View) → IsSeen m v → IsSeen now v
  seen_now v seen = subst (λ (n : Seated). IsSeen n v) (sym same) seen

  pub same_view : (v w : View) → IsSeen m v → IsSeen m w → v ≡ w
  same_view v w a b = one_view v w None None m.me a.knows b.knows

  asks : (step : ℕ → Step) → ((r : ℕ) → IsAllowed m (step r)) → ((v : View) (r : ℕ) → IsSeen m v → is_counted (step r) ≡ true → MayCount v) → SeatAsks now.shape now.lane now.me step
  asks step can may = let first = can 0 in let seen = seen_now first.view first.seen in record {
    view = first.view;
    sees = seen.knows;
    shape = seen.shape;
    lane_is = seen.lane_is;
    lawful = λ r. record {
      allowed = subst (λ v. Allowed v (step r)) (same_view (can r).view first.view (can r).seen first.seen) (can r).allowed;
      due = λ counted. may first.view r first.seen counted;
    };
  }

  -- a call that is not counted, and one that is
  pub asks_plain : (step : ℕ → Step) → ((r : ℕ) → IsAllowed m (step r)) → ((r : ℕ) → is_counted (step r) ≡ false) → SeatAsks now.shape now.lane now.me step
  asks_plain step can plain = asks step can (λ v r seen counted. absurd (both_ways (is_counted (step r)) (plain r) counted))

  pub asks_counted : (step : ℕ → Step) → ((r : ℕ) → IsAllowed m (step r)) → ((v : View) → IsTally now.tally v → MayCount v) → SeatAsks now.shape now.lane now.me step
  asks_counted step can more = asks step can (λ v r seen counted. more v (seen_now v seen).tally)

  pub room_for : (v : View) → IsSeen m v → HasRoom v.changes → CanAdd now.tally.changes
  room_for v seen has = room now.tally v (seen_now v seen).tally has

  module _ (new : Me ℕ Knowledge) (s : Step) (told : SeatMade now.me new s) where
    seen_after : (tally : Tallied) (v : View) → IsSeen m v → IsTally tally (after v s) → IsSeen (record now { tally = tally; me = new }) (after v s)
    seen_after tally v seen is = let here = seen_now v seen in record {
      knows = (told v here.knows).0;
      shape = ap (λ (c : Constants). c.shape) (fixed-after v s) ∙ here.shape;
      lane_is = ap (λ (c : Constants). c.lane) (fixed-after v s) ∙ here.lane_is;
      tally = is;
    }

    pub made_plain : is_counted s ≡ false → Made AnyStep (IsSeen m) (IsSeen (record now { me = new })) s
    made_plain plain v seen _ = let here = seen_now v seen in (seen_after now.tally v seen (plain_tally now.tally v s plain here.tally), (told v here.knows).1)

    pub made_counted : (tally : Tallied) → ((v : View) → IsTally now.tally v → MayCount v) → ((v : View) → MayCount v → IsTally now.tally v → now.me ≡ lane_of v → IsTally tally (after v s))
        → (v : View) → IsSeen m v → AnyStep v s → IsSeen (record now { tally = tally; me = new }) (after v s) × Found v s × MayCount v
    made_counted tally more tallies v seen _ = let here = seen_now v seen in let may = more v here.tally in (seen_after tally v seen (tallies v may here.tally here.knows), (told v here.knows).1, may)
