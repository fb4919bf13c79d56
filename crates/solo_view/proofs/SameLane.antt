-- No step changes which lane of which pool a view is of.
use Rattle.std.proofs.Common.{◌≡◌, ℕ, List, [], ◌∷◌, length, refl, ◌∙◌, length-set, set}
use Rattle.solo_view.specs.Constants.{IsSameLane}
use Rattle.solo_view.specs.Log.{Phase}
use Rattle.solo_view.specs.Log.Phase.{Idle, Open, Drawn, Sealing, Applying, Clearing, Retiring}
use Rattle.solo_view.specs.Steps.{Step}
use Rattle.solo_view.specs.Steps.Step.{Load, Store, Or, And, Flush, Drain, TakeWrite, TakeRead, Raise, Give, ZoneTry, ZoneGive, Occupied, Occupy, Vacate, Draw, NumberSeen, StopSeen, SetStop, Tell}
use Rattle.solo_view.specs.View.{View}
use Rattle.solo_view.specs.Views.{after, after_all, begun}

pub same_lane : (v : View) → IsSameLane v v
same_lane v = record { lanes = refl; zones = refl; pool = refl; lane = refl; stop = refl; table = refl; size = refl }

pub same_lane-then : (u v w : View) → IsSameLane u v → IsSameLane v w → IsSameLane u w
same_lane-then u v w first second = record {
  lanes = second.lanes ∙ first.lanes;
  zones = second.zones ∙ first.zones;
  pool = second.pool ∙ first.pool;
  lane = second.lane ∙ first.lane;
  stop = second.stop ∙ first.stop;
  table = second.table ∙ first.table;
  size = second.size ∙ first.size;
}

-- one word of the picture is another
with_word : (v w : View) (word x : ℕ) → w.lanes ≡ v.lanes → w.zones ≡ v.zones → w.pool ≡ v.pool → w.lane ≡ v.lane → w.stop ≡ v.stop → w.table ≡ v.table → w.words ≡ set v.words word x → IsSameLane v w
with_word v w word x lanes zones pool lane stop table words = record {
  lanes = lanes;
  zones = zones;
  pool = pool;
  lane = lane;
  stop = stop;
  table = table;
  size = (λ i. length (words i)) ∙ length-set v.words word x;
}

begins : (phase : Phase) (v : View) → IsSameLane v (begun phase v)
begins Idle v = record { lanes = refl; zones = refl; pool = refl; lane = refl; stop = refl; table = refl; size = refl }
begins (Open slot pair) v = same_lane v
begins Drawn v = same_lane v
begins Sealing v = same_lane v
begins (Applying applied) v = same_lane v
begins Clearing v = same_lane v
begins Retiring v = same_lane v

pub same_lane-after : (v : View) (s : Step) → IsSameLane v (after v s)
same_lane-after v (Load w x) = with_word v (after v (Load w x)) w x refl refl refl refl refl refl refl
same_lane-after v (Store w x) = with_word v (after v (Store w x)) w x refl refl refl refl refl refl refl
same_lane-after v (Or w bits found) = with_word v (after v (Or w bits found)) w _ refl refl refl refl refl refl refl
same_lane-after v (And w bits found) = with_word v (after v (And w bits found)) w _ refl refl refl refl refl refl refl
same_lane-after v (Flush line) = record { lanes = refl; zones = refl; pool = refl; lane = refl; stop = refl; table = refl; size = refl }
same_lane-after v Drain = record { lanes = refl; zones = refl; pool = refl; lane = refl; stop = refl; table = refl; size = refl }
same_lane-after v (TakeWrite line won) = record { lanes = refl; zones = refl; pool = refl; lane = refl; stop = refl; table = refl; size = refl }
same_lane-after v (TakeRead line won) = record { lanes = refl; zones = refl; pool = refl; lane = refl; stop = refl; table = refl; size = refl }
same_lane-after v (Raise line won) = record { lanes = refl; zones = refl; pool = refl; lane = refl; stop = refl; table = refl; size = refl }
same_lane-after v (Give line) = record { lanes = refl; zones = refl; pool = refl; lane = refl; stop = refl; table = refl; size = refl }
same_lane-after v (ZoneTry zone won) = record { lanes = refl; zones = refl; pool = refl; lane = refl; stop = refl; table = refl; size = refl }
same_lane-after v (ZoneGive zone) = record { lanes = refl; zones = refl; pool = refl; lane = refl; stop = refl; table = refl; size = refl }
same_lane-after v (Occupied at found) = record { lanes = refl; zones = refl; pool = refl; lane = refl; stop = refl; table = refl; size = refl }
same_lane-after v (Occupy at bits won) = record { lanes = refl; zones = refl; pool = refl; lane = refl; stop = refl; table = refl; size = refl }
same_lane-after v (Vacate at bits) = record { lanes = refl; zones = refl; pool = refl; lane = refl; stop = refl; table = refl; size = refl }
same_lane-after v (Draw n) = record { lanes = refl; zones = refl; pool = refl; lane = refl; stop = refl; table = refl; size = refl }
same_lane-after v (NumberSeen n) =
    let same : IsSameLane v (begun v.log.phase v) = begins v.log.phase v in
    record { lanes = same.lanes; zones = same.zones; pool = same.pool; lane = same.lane; stop = same.stop; table = same.table; size = same.size }
same_lane-after v (StopSeen stopped) = record { lanes = refl; zones = refl; pool = refl; lane = refl; stop = refl; table = refl; size = refl }
same_lane-after v SetStop = same_lane v
same_lane-after v (Tell operation reply) = record { lanes = refl; zones = refl; pool = refl; lane = refl; stop = refl; table = refl; size = refl }

pub same_lane-after_all : (v : View) (steps : List Step) → IsSameLane v (after_all v steps)
unfolding after_all
same_lane-after_all v [] = same_lane v
same_lane-after_all v (s ∷ steps) = same_lane-then v (after v s) (after_all (after v s) steps) (same_lane-after v s) (same_lane-after_all (after v s) steps)
