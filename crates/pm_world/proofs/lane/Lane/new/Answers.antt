use Rattle.std.proofs.Common.{◌≡◌, ◌/◌, sym, ap, ◌∙◌, arith, false, None}
use Rattle.pm_layout.specs.Chunks.{words_of}
use Rattle.pm_model.specs.declared.stage.Stage.TheVariants as stage
use Rattle.pm_objects.specs.declared.history.TxErr.TheVariants as error
use Rattle.pm_world.specs.OwnedBits.{none_owned}
use Rattle.pm_world.proofs.lane.Lane.new.Goals as goal

pub returns : goal.returns
returns g c = record {
  unused = λ fixed generation p u. let t = c.look_at_log-generation.ensures fixed generation u in
      let size = c.size.ensures.value in let pages : c.size.result / 4096 ≡ words_of c.args.shape / 512 = omega (arith, size) in record {
        memory = t.1;
        fields = λ i. record {
          pool = sym p i;
          shape = sym u.shape i;
          locks = c.new.ensures i;
          generation = t.0 i;
          records = c.new-2.ensures i;
          entries = c.new-3.ensures i;
          pending = c.new-4.ensures i;
          reserved = (c.in_ok-new.ensures ∙ ap none_owned pages) i;
          freed = (c.in_ok-new-2.ensures ∙ ap none_owned pages) i;
          level = 0;
          stage = stage.None;
          error = error.None;
          drawn = None;
          last = 0;
          stopped = false;
        };
      };
}
