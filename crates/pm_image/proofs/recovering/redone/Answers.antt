use Rattle.std.proofs.Common.{◌≡◌, ◌*◌, ℕ, Option, None, eqb, slice_index, sym, ◌∙◌, ap, arith}
use Rattle.std.specs.List.{filter}
use Rattle.pm_image.specs.Logs.{entries, entries_for}
use Rattle.pm_image.specs.Steps.{made}
use Rattle.pm_image.proofs.Redoing.{made_none, lane_more}
use Rattle.pm_image.proofs.recovering.redone.Goals as goal

pub loop-lane-init : goal.loop-lane-init
unfolding entries_for
loop-lane-init c = sym (made_none None (slice_index c.args.image.now c.args.word))

pub loop-lane-preserved : goal.loop-lane-preserved
loop-lane-preserved c =
    let word : ℕ = slice_index c.args.image.now c.args.word in
    c.redone_by-so_far.ensures ∙ ap (λ (o : Option ℕ). made o (filter (λ e. eqb e.place (8 * c.args.word)) (entries c.args.image.now c.loop-lane.lane)) word) c.loop-lane.invariant
    ∙ sym (lane_more c.args.image.now c.loop-lane.lane (8 * c.args.word) word)

pub returns : goal.returns
returns c =
    let all : c.loop-lane.lane ≡ c.args.lanes = omega arith in
    c.loop-lane.invariant ∙ ap (λ (n : ℕ). made None (entries_for c.args.image.now n (8 * c.args.word)) (slice_index c.args.image.now c.args.word)) all
