-- WHAT A LANE'S VIEW IS IN A WORLD: sizes fit, and what it sees and pictures is of the pool.
use Rattle.std.proofs.Common.{◌≡◌, ℕ, true, sym, subst, ap, ◌∙◌}
use Rattle.pm_view.specs.Log.{Open}
use Rattle.pm_view.specs.Places.{is_place}
use Rattle.pm_view.specs.View.{View}
use Rattle.pm_world.specs.InWorld.{InWorld, SizesFit}
use Rattle.pm_world.proofs.SizesSeen.{sizes_seen}
use Rattle.pm_crash.proofs.StepKnows as known
use Rattle.pm_call.proofs.KeptGrows.{SeesInside}

pub world_sizes : (v : View) (w x : ℕ) → InWorld v w x → SizesFit v
world_sizes v w x i = (sizes_seen v w x i).0

pub world_inside : (v : View) (w x : ℕ) → v.log.phase ≡ Open → InWorld v w x → SeesInside v
world_inside v w x is_open i p b e q = ap (λ sh. is_place sh p) shape ∙ known.inside i.opening i.memory i.views i.past i.world v.fixed.lane i.runs (ap (λ (u : View). u.log.phase) i.here ∙ is_open) p b
    (subst (λ (u : View). Rattle.pm_crash.specs.Sim.sees_at u p b ≡ true) (sym i.here) e) q
  where
    shape : v.fixed.shape ≡ i.opening.shape
    shape = ap (λ (u : View). u.fixed.shape) (sym i.here) ∙ (i.world.each_lane v.fixed.lane i.runs).shape
