use Rattle.std.proofs.Common.{ℕ, ◌/◌, replicate, sym, ap, ◌∙◌, subst}
use Rattle.pm_memory.specs.Solo.{Solo}
use Rattle.pm_view.specs.View.{idle}
use Rattle.pm_world.specs.SoloLanes.{StandsAs, only_lane}
use Rattle.pm_world.proofs.SoloSteps.{bare_stands}
use Rattle.pm_world.proofs.solo.SoloLane.on_bare_pool.Goals as goal

pub returns : goal.returns
returns c pool = subst (λ m. StandsAs m (idle (only_lane c.args.shape pool c.args.stop) 1))
    (sym (c.new-2.ensures ∙ (c.with_occupancy-memory.ensures
    ∙ ap (λ (m : Solo). record m { runs = c.in_ok-runs.runs.items; zones = c.in_ok-zones.zones.items }) c.in_ok-new.ensures)))
    (bare_stands c.args.shape pool c.args.stop c.in_ok-words.words.items c.in_ok-runs.runs.items c.in_ok-zones.zones.items
    c.in_ok-words.ensures (c.in_ok-runs.ensures.items_if_clones_equal (λ y e. e) ∙ ap (λ (n : ℕ). replicate {A = ℕ} (n / 512) 18446744073709551615) (c.len.ensures ∙ c.in_ok-words.words.ok.0))
    (c.in_ok-zones.ensures.items_if_clones_equal (λ y e. e)))
