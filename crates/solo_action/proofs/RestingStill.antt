-- A lane alone whose call outside of a transaction has ended rests, once that draws its number, with what it has reserved, which stands; and it makes no object.
use Rattle.std.proofs.Common.{◌≡◌, ℕ, ◌+◌, ◌<◌, All, List, [], ◌++◌, length, map, refl, sym, subst}
use Rattle.std.proofs.lemmas.List.Elements.{All-weaker}
use Rattle.pm_header.specs.declared.header.Header.{Header}
use Rattle.pm_layout.specs.declared.shape.Shape.{Shape}
use Rattle.solo_memory.specs.Solo.{AreNumbered}
use Rattle.solo_model.specs.Actions.{Pending}
use Rattle.pm_objects.specs.declared.pool.PoolView.{PoolView}
use Rattle.solo_view.specs.Steps.{Step}
use Rattle.solo_view.specs.Steps.Step.{Draw}
use Rattle.solo_view.specs.View.{View}
use Rattle.solo_view.specs.Views.{after}
use Rattle.solo_world.specs.Lawful.{Allowed, generation_limit}
use Rattle.solo_world.specs.Opening.{Opening}
use Rattle.solo_world.specs.Records.{generation_of}
use Rattle.solo_crash.proofs.AloneCourse.{grows_along, number_along}
use Rattle.solo_crash.specs.Alone.{standing}
use Rattle.solo_crash.specs.CallBlocks.{reserved_in, reserved_object}
use Rattle.solo_crash.specs.HeldHistory.{IsEndedCall}
use Rattle.solo_crash.specs.Leading.{Leads}
use Rattle.solo_crash.specs.Reserved.{IsReservedFor}
use Rattle.solo_epoch.proofs.RestingReservations.{draws_to_begin, pending_next}
use Rattle.solo_epoch.specs.Reserving.{IsAloneBetween, IsAloneOutside, RestsWithReserved, begins_next, with_next_call}
use Rattle.solo_transaction.proofs.GoingWith.{lies_still}
use Rattle.solo_transaction.proofs.LyingReserved.{lies_in_reserved}
use Rattle.solo_transaction.proofs.NotMaking.{not_making_able, not_making_still}
use Rattle.solo_transaction.specs.AtWork.{IsNotMaking, LiesInReserved}
use Rattle.solo_transaction.specs.Resting.{StandsAtRest}
use Rattle.solo_action.proofs.NextBegun.{next_before, next_heads}
use Rattle.solo_action.specs.Outside.{RestsStill}

module _ (o : Opening) (header : Header) (pool : PoolView) (start : View) (steps : List Step) (x : View) (shape : Shape) (rests : RestsWithReserved o header pool start steps x shape) (below : generation_of x < generation_limit) where
  abbrev y : View
  y = with_next_call x

  between : IsAloneBetween o header pool start (steps ++ begins_next x) y shape
  between = rests.next below

  lies_there : All (LiesInReserved x) (reserved_in y)
  lies_there = All-weaker (IsReservedFor y) (LiesInReserved x)
      (λ n has. lies_still y x (next_heads x) n (lies_in_reserved o header pool start (steps ++ begins_next x) y between.outside.works n has)) (reserved_in y) between.outside.borne_out.pending

  pub stands_at_rest : StandsAtRest x
  stands_at_rest = record {
    stands = between.outside.reserved;
    within = subst (λ (p : Pending). All (LiesInReserved x) (map reserved_object p.reserved)) (pending_next o header pool start steps x shape rests below) lies_there;
  }

  pub quiet_at_rest : IsNotMaking x
  quiet_at_rest = not_making_still y x (next_heads x) (sym (next_before x).zone_locks) (not_making_able y shape between.outside.can)

-- ---- behind the draw

-- a number that a lane alone draws is the next of its own
pub drawn_next : (o : Opening) (header : Header) (pool : PoolView) (w : View) (n : ℕ) → AreNumbered 1 (after w (Draw n)).entries → n ≡ length w.entries + 1
unfolding Leads
drawn_next o header pool w n numbered = number_along o header pool w (Draw n) (after w (Draw n)) (grows_along (after w (Draw n)) [] (after w (Draw n)) refl) numbered n refl

pub rests_behind_draw : (o : Opening) (header : Header) (pool : PoolView) (start : View) (steps : List Step) (w : View) (shape : Shape) (n : ℕ) → IsAloneOutside o header pool start steps w shape → IsEndedCall w → Allowed w (Draw n) → AreNumbered 1 (after w (Draw n)).entries
    → RestsStill o header pool (after w (Draw n)) shape
rests_behind_draw o header pool start steps w shape n c ended allowed numbered =
    let x : View = after w (Draw n) in
    let rests : RestsWithReserved (standing o x) header pool x [] x shape = draws_to_begin o header pool start steps w shape c n ended allowed (drawn_next o header pool w n numbered) in
    let below : generation_of x < generation_limit = c.can.run.working.area.below in
    record {
      rests = rests;
      stands = stands_at_rest (standing o x) header pool x [] x shape rests below;
      quiet = quiet_at_rest (standing o x) header pool x [] x shape rests below;
    }
