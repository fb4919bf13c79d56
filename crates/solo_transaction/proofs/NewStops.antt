-- A lane that stopped in the steps of a write into an object that its call made.
use Rattle.std.proofs.Common.{◌≡◌, inl, None, true, refl, sym, ◌∙◌}
use Rattle.pm_objects.specs.declared.calls.Operation.{Operation}
use Rattle.solo_tx.proofs.GivenUp.{undrawn_lane}
use Rattle.solo_tx.specs.AtWork.{IsAtWork}
use Rattle.solo_tx.specs.Ending.{IsStoppedIn}
use Rattle.solo_tx.specs.Ranges.{StopsUndrawn}
use Rattle.solo_view.specs.View.{View}
use Rattle.solo_world.specs.Opening.{Opening}
use Rattle.solo_world.specs.Sequences.{Sequence}
use Rattle.solo_world.specs.declared.lane.Lane.{Lane}

pub stopped_in_steps : {M : Type 0} (o : Opening) (at : M → View → Type 0) (old mid : Lane M) (v : View) → IsAtWork o at old v → mid.drawn ≡ old.drawn → (op : Operation) (steps : Sequence) → StopsUndrawn (at mid.memory) v steps
    → IsStoppedIn at (record mid { stopped = true }) v steps op None
stopped_in_steps o at old mid v work drawn op steps s = record {
  ready = s.ready;
  draws = s.draws;
  stops = s.stops;
  stopped = refl;
  drawn = drawn ∙ (undrawn_lane at old v work.seen work.working.undrawn ∙ sym s.number);
  came = record { told = inl s.number; entries = inl (s.number, s.entries) };
}
