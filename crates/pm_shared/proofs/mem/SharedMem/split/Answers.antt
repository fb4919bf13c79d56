use Rattle.std.proofs.Common.{◌∙◌, sym}
use Rattle.pm_shared.proofs.Pools.{some_words, hands}
use Rattle.pm_shared.proofs.mem.SharedMem.split.Goals as goal

pub split_seat-seat-requires : goal.split_seat-seat-requires
split_seat-seat-requires g c = let m = c.args.self.now in (
  c.requires.table ∙ sym c.requires.name,
  some_words m,
  hands m.table.shared.key c.args.lane c.requires.lane c.requires.pool.0 c.args.pool.now.me c.requires.pool.1 c.args.pool.now.id,
)
