use Rattle.std.proofs.Common.{◌+◌, None, Err, refl, sym, subst, arith}
use Rattle.pm_objects.specs.declared.calls.Operation.TheVariants.{WriteReserved}
use Rattle.solo_lock.specs.Resting.{IsAtRest}
use Rattle.solo_view.specs.Steps.Step.{Draw, Tell}
use Rattle.pm_words.specs.Words.{AreBytes}
use Rattle.solo_world.proofs.Sequencing.{runs_err}
use Rattle.solo_view.specs.View.{View}
use Rattle.solo_world.specs.Lawful.{Allowed}
use Rattle.solo_world.specs.Sequences.{one}
use Rattle.solo_tx.proofs.Telling.{is_ready, was_made, was_stopped}
use Rattle.solo_tx.specs.Sequences.{writes}
use Rattle.solo_transaction.specs.Filling.{puts_range}
use Rattle.solo_action.proofs.BegunOn.{told_may_draw}
use Rattle.solo_action.proofs.PutsOutside.{begun_filled, put_alone, put_draws, put_drawn_is, put_ended, put_is, put_is_low, put_ready, put_rests_still, put_stops, put_written, puts_first}
use Rattle.solo_action.specs.Filling.{put_drawn}
use Rattle.solo_action.proofs.filling.put_or_stop.Goals as goal

pub overflow_add-id : goal.overflow_add-id
overflow_add-id g c =
    let r = c.requires.may in let t = r.1.0.world in
    let e = put_is_low t.0 t.1 t.2 t.3 t.4 r.0 c.args.lane.now.shape t.5 c.args.id c.args.off c.args.bytes.now r.1.1 in omega (arith, e)

pub write_words-requires-clause-range : goal.write_words-requires-clause-range
write_words-requires-clause-range g c = let r = c.requires.may in let t = r.1.0.world in put_is_low t.0 t.1 t.2 t.3 t.4 r.0 c.args.lane.now.shape t.5 c.args.id c.args.off c.args.bytes.now r.1.1

pub write_words-requires-clause-ready : goal.write_words-requires-clause-ready
write_words-requires-clause-ready g c =
    let r = c.requires.may in let t = r.1.0.world in
    is_ready (g.M.LaneMem.at c.args.lane.now.memory) (writes (c.args.id.off + c.args.off) c.args.bytes.now) r.0 r.1.0.begun.seen.memory
    (puts_first t.0 t.1 t.2 t.3 t.4 r.0 c.args.lane.now.shape t.5 c.args.id c.args.off c.args.bytes.now r.1.1)

pub end_put-requires-clause-begun : goal.end_put-requires-clause-begun
end_put-requires-clause-begun g c =
    let r = c.requires.may in let t = r.1.0.world in
    let first = puts_first t.0 t.1 t.2 t.3 t.4 r.0 c.args.lane.now.shape t.5 c.args.id c.args.off c.args.bytes.now r.1.1 in (
      _,
      begun_filled t.0 t.1 t.2 t.3 t.4 r.0 c.args.lane.now.shape t.5 c.args.id c.args.off c.args.bytes.now r.1.1 g.M.LaneMem.at c.args.lane.now r.1.0.begun c.write_words.new.mem
          (was_made (g.M.LaneMem.at c.args.lane.now.memory) (g.M.LaneMem.at c.write_words.new.mem) (writes (c.args.id.off + c.args.off) c.args.bytes.now) _ c.in-Ok.ensures r.0 r.1.0.begun.seen.memory first),
    )

pub returns-in-Ok-clause-done : goal.returns-in-Ok-clause-done
returns-in-Ok-clause-done g c w b range =
    let t = b.world in
    let id = c.args.id in let off = c.args.off in let bytes = c.args.bytes.now in
    let new = c.end_put.new.lane in
    let are : AreBytes bytes = (λ i. let e = c.type_inv.bytes i in omega (arith, e)) in
    let first = puts_first t.0 t.1 t.2 t.3 t.4 w c.args.lane.now.shape t.5 id off bytes range in
    let begun = begun_filled t.0 t.1 t.2 t.3 t.4 w c.args.lane.now.shape t.5 id off bytes range g.M.LaneMem.at c.args.lane.now b.begun c.write_words.new.mem
    (was_made (g.M.LaneMem.at c.args.lane.now.memory) (g.M.LaneMem.at c.write_words.new.mem) (writes (id.off + off) bytes) _ c.in-Ok.ensures w b.begun.seen.memory first) in
    let rests : IsAtRest g.M.LaneMem.at new (put_drawn w id off bytes new.last) =
    subst (IsAtRest g.M.LaneMem.at new) (put_drawn_is t.0 t.1 t.2 t.3 t.4 w c.args.lane.now.shape t.5 id off bytes range new.last) (c.end_put.ensures.rests _ begun) in
    record {
      ready = put_ready t.0 t.1 t.2 t.3 t.4 w c.args.lane.now.shape t.5 id off bytes range;
      draws = put_draws t.0 t.1 t.2 t.3 t.4 w c.args.lane.now.shape t.5 id off bytes range;
      written = put_written t.0 t.1 t.2 t.3 t.4 w c.args.lane.now.shape t.5 id off bytes range are;
      may_draw = subst (λ (z : View). Allowed z (Draw new.last)) (sym (put_is t.0 t.1 t.2 t.3 t.4 w c.args.lane.now.shape t.5 id off bytes range)) (told_may_draw g.M.LaneMem.at _ _ begun (WriteReserved id off bytes) None new.last);
      rests = rests;
      ended = λ o header pool start steps between. put_ended o header pool start steps w new.shape between id off bytes range are;
      keeps = λ o header pool start steps between.
          put_rests_still o header pool start steps w new.shape between id off bytes range are new.last
          (g.met.M.ReservedMem.counts new.memory (put_drawn w id off bytes new.last) rests.seen.memory (put_alone o header pool start steps w new.shape between id off bytes range new.last))
          (told_may_draw g.M.LaneMem.at _ _ begun (WriteReserved id off bytes) None new.last);
    }

pub returns-in-Err-clause-stops : goal.returns-in-Err-clause-stops
unfolding puts_range
returns-in-Err-clause-stops g c w b range =
    let t = b.world in
    let old = g.M.LaneMem.at c.args.lane.now.memory in
    let new = g.M.LaneMem.at c.write_words.new.mem in
    let stopped = c.in-Err.field-0 in
    put_stops t.0 t.1 t.2 t.3 t.4 w c.args.lane.now.shape t.5 c.args.id c.args.off c.args.bytes.now range new
    (was_stopped old new (puts_range c.args.id c.args.off c.args.bytes.now) stopped
    (runs_err (Unit {0}) old new (writes (c.args.id.off + c.args.off) c.args.bytes.now) (one (Tell (WriteReserved c.args.id c.args.off c.args.bytes.now) None)) stopped (Err stopped) refl c.in-Err.ensures)
    w b.begun.seen.memory (put_ready t.0 t.1 t.2 t.3 t.4 w c.args.lane.now.shape t.5 c.args.id c.args.off c.args.bytes.now range))
