use Rattle.std.proofs.Common.{length, map, sym, ◌∙◌, ap, subst, arith}
use Rattle.std.specs.List.{flat_map}
use Rattle.pm_image.specs.Logs.{entries, records}
use Rattle.pm_reopen.specs.Plan.{restores, writes}
use Rattle.pm_reopen.specs.Plan.MemoryCall.{Change}
use Rattle.pm_reopen.specs.Running.{Halts, Makes}
use Rattle.pm_reopen.proofs.Counting.{makes_long, makes_many}
use Rattle.pm_reopen.proofs.Making.{halts_after, halts_before, makes_then, ran_error}
use Rattle.pm_reopen.proofs.Parts.{writes_parts}
use Rattle.pm_reopen.proofs.Rooms.{records_few}
use Rattle.pm_reopen.proofs.writing.write_words.Goals as goal

pub apply_entries-requires-clause-words : goal.apply_entries-requires-clause-words
apply_entries-requires-clause-words c =
    makes_long c.args.mem.now c.restore_records.new.mem (map Change (flat_map restores (records c.args.image.now c.args.lane))) c.in_ok-restore_records.ensures ∙ c.requires.words

pub apply_entries-requires-clause-few : goal.apply_entries-requires-clause-few
apply_entries-requires-clause-few c =
    let many = makes_many c.args.mem.now c.restore_records.new.mem (map Change (flat_map restores (records c.args.image.now c.args.lane))) c.in_ok-restore_records.ensures in
    let few = records_few c.args.image.now c.args.lane c.requires.sound in
    let none = ap length c.requires.drained in
    omega (arith, many, few, none)

pub returns-in_err-restore_records : goal.returns-in_err-restore_records
returns-in_err-restore_records c =
    ran_error c.args.mem.now c.restore_records.new.mem (map Change (writes c.args.image.now c.args.lane)) c.from_residual.result c.from_residual.ensures.0
    (subst (Halts c.args.mem.now c.restore_records.new.mem) (sym (writes_parts c.args.image.now c.args.lane))
    (halts_before c.args.mem.now c.restore_records.new.mem (map Change (flat_map restores (records c.args.image.now c.args.lane))) (map Change (entries c.args.image.now c.args.lane)) c.in_err-restore_records.ensures))

pub returns-in_err-apply_entries : goal.returns-in_err-apply_entries
returns-in_err-apply_entries c =
    ran_error c.args.mem.now c.apply_entries.new.mem (map Change (writes c.args.image.now c.args.lane)) c.from_residual-in_err-apply_entries.result c.from_residual-in_err-apply_entries.ensures.0
    (subst (Halts c.args.mem.now c.apply_entries.new.mem) (sym (writes_parts c.args.image.now c.args.lane))
    (halts_after c.args.mem.now c.restore_records.new.mem c.apply_entries.new.mem (map Change (flat_map restores (records c.args.image.now c.args.lane))) (map Change (entries c.args.image.now c.args.lane))
    c.in_ok-restore_records.ensures c.in_err-apply_entries.ensures))

pub returns : goal.returns
returns c =
    subst (Makes c.args.mem.now c.apply_entries.new.mem) (sym (writes_parts c.args.image.now c.args.lane))
    (makes_then c.args.mem.now c.restore_records.new.mem c.apply_entries.new.mem (map Change (flat_map restores (records c.args.image.now c.args.lane))) (map Change (entries c.args.image.now c.args.lane))
    c.in_ok-restore_records.ensures c.in_ok-apply_entries.ensures)
