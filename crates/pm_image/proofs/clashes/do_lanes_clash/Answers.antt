use Rattle.std.proofs.Common.{◌||◌, ℕ, not, bit_and, bit_or, sym, ◌∙◌, ap, arith}
use Rattle.std.proofs.lemmas.Bool.{eq-eqb, ne_eqb}
use Rattle.pm_image.specs.LogFaults.{lane_mask}
use Rattle.pm_image.proofs.Masks.{any_more, clash_there, in_common, lane_clashes, no_clash_at_end, together_more}
use Rattle.pm_image.proofs.clashes.do_lanes_clash.Goals as goal

pub returns-then-earlier-bits-ne0 : goal.returns-then-earlier-bits-ne0
returns-then-earlier-bits-ne0 c =
    let bits : ℕ = lane_mask c.args.image.now c.args.place c.loop-lane.lane in
    sym (clash_there c.args.image.now c.args.lanes c.args.place c.loop-lane.lane (omega arith)
    (c.loop-lane.invariant.together bits ∙ ap (in_common c.loop-lane.earlier) (sym c.lane_mask-bits.ensures) ∙ ap not (ne_eqb (bit_and c.loop-lane.earlier c.lane_mask-bits.result) 0 c.if-earlier-bits-ne0.true)))

pub loop-lane-preserved : goal.loop-lane-preserved
loop-lane-preserved c =
    let bits : ℕ = lane_mask c.args.image.now c.args.place c.loop-lane.lane in
    record {
      together = λ x.
          together_more c.args.image.now c.args.place c.loop-lane.lane c.loop-lane.earlier c.loop-lane.invariant.together x
          ∙ ap (λ (n : ℕ). in_common (bit_or c.loop-lane.earlier n) x) (sym c.lane_mask-bits.ensures);
      none =
          any_more (lane_clashes c.args.image.now c.args.place) c.loop-lane.lane
          ∙ (λ j. c.loop-lane.invariant.none j
          || (c.loop-lane.invariant.together bits ∙ ap (in_common c.loop-lane.earlier) (sym c.lane_mask-bits.ensures) ∙ ap not (eq-eqb (bit_and c.loop-lane.earlier c.lane_mask-bits.result) 0 c.if-earlier-bits-ne0.false)) j);
    }

pub returns : goal.returns
returns c = sym (no_clash_at_end c.args.image.now c.args.lanes c.args.place c.loop-lane.lane (omega arith) c.loop-lane.invariant.none)
