-- WHAT LANES DID, by the table that closed; and why a lane stopped, by the stop numbers that lanes
-- were given.
use Rattle.std.proofs.Common.{◌≡◌, ◌≢◌, ⊎_elim, inl, inr, ℕ, ◌<◌, ◌%◌, ◌^◌, List}
use Rattle.std.proofs.Common.{length, arith, sym, ap, ◌∙◌, subst}
use Rattle.std.proofs.lemmas.Bool.{cases_eq}
use Rattle.pm_lanes.specs.Closed.{AllAreBack, CameToStop, HeadersAreKept, IsBack}
use Rattle.pm_lanes.specs.Closed.{BusyCallsHaveCauses, CallsAreListed, EntriesAreBefore, GenerationsAreKept, MaySurvive, MissedCallsHaveCauses, SeenNumbersAreDrawn}
use Rattle.pm_lanes.specs.Closed.{SeenStopsAreReached, StopsAreReached}
use Rattle.pm_shared.specs.Closings.{Closes}
use Rattle.pm_shared.specs.declared.rule.Beginning.{Beginning}
use Rattle.pm_view.specs.View.{View}
use Rattle.pm_call.specs.Standing.{IsStopDue}
use Rattle.pm_image.specs.Logs.{generation_word}
use Rattle.pm_objects.specs.declared.history.Entry.{Entry}
use Rattle.pm_exec.specs.Answers.{IsSpentView}
use Rattle.pm_exec.specs.Runs.{HasStopped, NoNumberIsLeft}

-- laws of closed pools, of lanes' stops and of the header
pub record LaneLaws : Type 0 where
  pub own : StopsAreReached
  pub seen : SeenStopsAreReached
  pub headers : HeadersAreKept
  pub drawn : SeenNumbersAreDrawn
  pub generation : GenerationsAreKept
  pub busy : BusyCallsHaveCauses
  pub missed : MissedCallsHaveCauses
  pub before : EntriesAreBefore
  pub listed : CallsAreListed

module _ (laws : LaneLaws) (b : Beginning) (back : List View) (words : List ℕ)
    (closed : Closes b back words) (all : AllAreBack b.lanes back) (k : ℕ) (low : k < b.lanes)
    (last : IsBack back k) where
  -- a view of the lane that came back is the lane's last
  is_last : (other : IsBack back k) → other.view ≡ last.view
  is_last other =
      let here = closed.lanes last.place last.view last.there in
      let there = closed.lanes other.place other.view other.there in
      sym there.1
      ∙ (ap (λ n. closed.last.views n) (other.lane_is ∙ sym last.lane_is) ∙ here.1)

  pub has_stopped : (calls : ℕ) → calls ≡ length last.view.calls % 2 ^ 64 → IsStopDue last.view
      → HasStopped b back k calls
  has_stopped calls count due = record {
    last = last;
    count = count;
    due = ⊎_elim
        (λ at. inl (laws.own b back words last.place last.view closed last.there at))
        (λ saw.
        let some = laws.seen b back words last.place last.view closed all last.there saw in
        ⊎_elim
        (λ (e : some.0 ≡ k).
        let at = subst (λ n. (back_at : IsBack back n) × CameToStop b back_at.view) e
        (some.2, some.3) in
        inl (subst (CameToStop b) (is_last at.0) at.1))
        (λ (ne : some.0 ≢ k). inr (record {
          saw = saw;
          other = some.0;
          runs = some.1;
          apart = ne;
          last = some.2;
          reached = some.3;
        }))
        (cases_eq some.0 k)) due;
  }

  -- no number is left, of as many as the history has
  pub none_left : (image : List ℕ) → MaySurvive b closed.last image → IsSpentView last.view
      → (entries : List Entry) → length entries ≡ closed.last.past.length
      → NoNumberIsLeft image k entries
  none_left image survives is entries count = ⊎_elim
      (λ great.
      let same : generation_word image k ≡ last.view.log.generation =
      subst (λ n. generation_word image n ≡ last.view.log.generation) last.lane_is
      (laws.generation b back words image last.place last.view closed survives last.there is.early) in
      inl (omega (arith, great, same)))
      (λ z.
      let fewer = laws.drawn b back words last.place last.view z.0 closed last.there z.2 in
      let big = z.1 in
      inr (omega (arith, fewer, big, count)))
      is.none
