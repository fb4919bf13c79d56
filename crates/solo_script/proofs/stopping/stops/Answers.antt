use Rattle.std.proofs.Common.{[], sym, ◌∙◌, ap, subst, arith}
use Rattle.std.proofs.lemmas.List.{get_or-map, length-map}
use Rattle.solo_script.specs.Stops.{AreStopsOf, IsStop}
use Rattle.solo_script.specs.Words.{texts}
use Rattle.solo_script.proofs.StopLists.{no_stop, one_more, twice}
use Rattle.solo_script.proofs.stopping.stops.Goals as goal

pub returns-in_default-clause-none : goal.returns-in_default-clause-none
returns-in_default-clause-none c = λ stops are.
    let items = c.deref-part-items.result.now in
    no_stop (texts items) c.loop-part.part-index c.loop-part.stops.items c.loop-part.invariant (omega (arith, length-map items (λ part. part.now), c.loop-part-test.true))
    (λ stop is. c.in_default.ensures.none stop (subst (λ t. IsStop t stop) (get_or-map (λ part. part.now) items c.loop-part.part-index _ [] (omega (arith, c.loop-part-test.true))) is)) stops
    (subst (λ ps. AreStopsOf ps stops) (sym (ap texts c.deref-part-items.ensures.value ∙ c.in_ok-parts.ensures)) are)

pub returns-then-has_lane-clause-none : goal.returns-then-has_lane-clause-none
returns-then-has_lane-clause-none c = λ stops are.
    let items = c.deref-part-items.result.now in
    twice (texts items) c.loop-part.part-index c.loop-part.stops.items c.loop-part.invariant (omega (arith, length-map items (λ part. part.now), c.loop-part-test.true)) c.in-Some.stop
    (subst (λ t. IsStop t c.in-Some.stop) (sym (get_or-map (λ part. part.now) items c.loop-part.part-index _ [] (omega (arith, c.loop-part-test.true)))) c.in-Some.ensures.some) (sym cc) stops
    (subst (λ ps. AreStopsOf ps stops) (sym (ap texts c.deref-part-items.ensures.value ∙ c.in_ok-parts.ensures)) are)

pub loop-part-preserved : goal.loop-part-preserved
loop-part-preserved c =
    let items = c.deref-part-items.result.now in
    one_more (texts items) c.loop-part.part-index c.loop-part.stops.items c.loop-part.invariant (omega (arith, length-map items (λ part. part.now), c.loop-part-test.true)) c.in-Some.stop
    (subst (λ t. IsStop t c.in-Some.stop) (sym (get_or-map (λ part. part.now) items c.loop-part.part-index _ [] (omega (arith, c.loop-part-test.true)))) c.in-Some.ensures.some) (sym cc) _ c.in_ok-push.ensures.items
