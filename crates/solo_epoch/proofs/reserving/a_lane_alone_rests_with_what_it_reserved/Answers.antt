use Rattle.solo_epoch.proofs.NothingReserved.{rests_with_none}
use Rattle.solo_epoch.proofs.RestingReservations.{draws_to_begin, draws_to_rest, kept_is_reserved, pending_drawn, pending_next, reserved_is_kept, rests_between}
use Rattle.solo_epoch.proofs.UntoldCalls.{rests_untold}
use Rattle.solo_epoch.proofs.reserving.a_lane_alone_rests_with_what_it_reserved.Goals as goal

pub returns : goal.returns
returns c = record {
  draws = λ o header pool start w steps shape n alone. draws_to_rest o header pool start steps w shape alone n;
  again = λ o header pool start w steps shape n alone. draws_to_begin o header pool start steps w shape alone n;
  drawn = pending_drawn;
  untold = λ o header pool start v steps shape. rests_untold o header pool start steps v shape;
  none = λ o header pool start v steps shape. rests_with_none o header pool start steps v shape;
  pending = λ o header pool start v steps shape. pending_next o header pool start steps v shape;
  between = λ o header pool start w next steps shape. rests_between o header pool start steps w next shape;
  kept = λ v n. (kept_is_reserved v n, reserved_is_kept v n);
}
