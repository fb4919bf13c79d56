-- What a write into what is reserved came to since its call began, it came to since the lane was at rest.
use Rattle.std.proofs.Common.{◌≡◌, ℕ, List, [], ◌∷◌, ◌++◌, length, None, Some, true, sym, ap, ◌∙◌, subst}
use Rattle.solo_crash.proofs.PendingOn.{same_before}
use Rattle.solo_crash.specs.Pending.{pending_in}
use Rattle.solo_crash.specs.Reserving.{put_refusal}
use Rattle.solo_epoch.proofs.RestingReservations.{begun_entries, pending_drawn}
use Rattle.solo_epoch.specs.Reserving.{with_next_call}
use Rattle.pm_objects.specs.declared.calls.Operation.TheVariants.{WriteReserved}
use Rattle.pm_objects.specs.declared.history.Value.TheVariants.{Refused}
use Rattle.pm_objects.specs.declared.ids.Oid.{Oid}
use Rattle.pm_objects.specs.declared.refusal.Refusal.{Refusal}
use Rattle.solo_pending.specs.AllPending.{IsPendingAs}
use Rattle.solo_pending.specs.declared.pending.PendingActions.{PendingActions}
use Rattle.solo_view.specs.View.{Told, View}
use Rattle.solo_world.specs.declared.lane.Lane.{Lane}
use Rattle.solo_tx.specs.Beginning.{IsBegunBy}
use Rattle.solo_tx.specs.Ending.{drawn_more}
use Rattle.solo_tx.specs.Ranges.{StopsUndrawn}
use Rattle.solo_tx.specs.Sequences.{starts}
use Rattle.solo_transaction.specs.Filling.{HasReservedRange, puts_range}
use Rattle.solo_action.proofs.BeginningAlone.{next_is, next_led, rests_no_table}
use Rattle.solo_action.proofs.NextBegun.{between_next, has_next_begun, next_before, next_below}
use Rattle.solo_action.proofs.Started.{told_at_once_since}
use Rattle.solo_action.specs.Filling.{HasPutBegun, HasPutOutside, HasRefusedPutOutside, HasStoppedPutting, put_view}
use Rattle.solo_action.specs.Outside.{IsToldAtOnce, RestsAlone}

module _ {M : Type 0} (at : M → View → Type 0) (old mid : Lane M) (v : View) (n : ℕ) (r : RestsAlone at old v) (started : IsBegunBy at mid v (starts n)) (id : Oid) (off : ℕ) (bytes : List ℕ) where
  abbrev w : View
  w = with_next_call v

  pub put_since_rest : (lane : Lane M) (pending : PendingActions) → HasPutBegun at lane (with_next_call v) id off bytes → IsPendingAs pending (pending_in (put_view (with_next_call v) id off bytes)) → HasPutOutside at lane pending v id off bytes
  put_since_rest lane pending put listed =
      let z : View = put_view w id off bytes in
      let entries : z.entries ≡ v.entries = put.written.tells.keeps.entries ∙ begun_entries v in
      let call : z.call ≡ record { operation = WriteReserved id off bytes; reply = None } ∷ [] =
      put.written.tells.call ∙ ap (λ (call : List Told). call ++ record { operation = WriteReserved id off bytes; reply = None } ∷ []) (has_next_begun at mid v n (rests_no_table at old mid v n r started) started).untold in
      record {
        led = next_led at old mid v n r started;
        below = next_below at mid v n (rests_no_table at old mid v n r started) started;
        ready = put.ready;
        draws = put.draws;
        written = put.written;
        may_draw = put.may_draw;
        rests = put.rests;
        listed = subst (IsPendingAs pending) (sym (pending_drawn z lane.last)) listed;
        entries = λ j. drawn_more (entries j) lane.last (call j);
        ended = λ o header pool start steps rests. put.ended o header pool start _ (between_next at mid v n (rests_no_table at old mid v n r started) started o header pool start steps lane.shape rests);
        keeps = λ o header pool start steps rests. put.keeps o header pool start _ (between_next at mid v n (rests_no_table at old mid v n r started) started o header pool start steps lane.shape rests);
      }

  pub refused_since_rest : (lane : Lane M) (why : Refusal) → HasRefusedPutOutside at lane (with_next_call v) id off bytes why → HasRefusedPutOutside at lane v id off bytes why
  refused_since_rest lane why refused = record {
    reason = (λ j. put_refusal (sym (next_before v).pool j) (sym (same_before v w (begun_entries v)) j) id off (length bytes)) ∙ refused.reason;
    told =
        told_at_once_since at mid v n started lane (WriteReserved id off bytes) (Some (Refused why))
        (subst (λ (u : View). IsToldAtOnce at lane u (WriteReserved id off bytes) (Some (Refused why))) (sym (next_is at old mid v n r started)) refused.told);
  }

  pub stopped_since_rest : mid ≡ record old { memory = mid.memory } → (lane : Lane M) → lane ≡ record mid { memory = lane.memory; stopped = true } → HasReservedRange (with_next_call v) id off (length bytes) × StopsUndrawn (at lane.memory) (with_next_call v) (puts_range id off bytes) → HasStoppedPutting at lane v id off bytes
  stopped_since_rest same lane fields stops = record {
    led = next_led at old mid v n r started;
    below = next_below at mid v n (rests_no_table at old mid v n r started) started;
    range = stops.0;
    stops = stops.1;
    stopped = ap (λ (l : Lane M). l.stopped) fields;
    undrawn = ap (λ (l : Lane M). l.drawn) fields ∙ (ap (λ (l : Lane M). l.drawn) same ∙ r.rests.answered);
  }
