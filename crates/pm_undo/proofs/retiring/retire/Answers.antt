use Rattle.std.proofs.Common.{◌+◌, ap}
use Rattle.pm_world.specs.LaneFields.{fields_of}
use Rattle.pm_undo.proofs.Engines.{retire_ready, retired_err, retired_ok}
use Rattle.pm_undo.proofs.retiring.retire.Goals as goal

pub end_word-requires-clause-ready : goal.end_word-requires-clause-ready
end_word-requires-clause-ready g c = retire_ready g.M.LaneMem.at c.args.lane.now
    c.lane-number.result c.lane-number.ensures c.word_of_generation-word.result
    c.word_of_generation-word.ensures c.requires

pub returns-in_err-end_word : goal.returns-in_err-end_word
returns-in_err-end_word g c =
    retired_err g.M.LaneMem.at c.args.lane.now c.lane-number.result c.lane-number.ensures
    c.word_of_generation-word.result c.word_of_generation-word.ensures (Unit {0})
    c.end_word.new.mem c.in_err-end_word.field-0.0 c.from_residual.result
    c.from_residual.ensures.0 c.in_err-end_word.ensures

pub returns : goal.returns
returns g c =
    retired_ok g.M.LaneMem.at c.args.lane.now c.lane-number.result c.lane-number.ensures
    c.word_of_generation-word.result c.word_of_generation-word.ensures
    (record c.args.lane.now {
      memory = c.end_word.new.mem;
      log = record {
        generation = c.args.lane.now.log.generation + 1;
        records = c.clear.new.self;
      };
    }) c.in_ok-end_word.ensures
    (ap (λ items. record (fields_of c.args.lane.now)
    { generation = c.args.lane.now.log.generation + 1; records = items }) c.clear.ensures)
