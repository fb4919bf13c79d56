use Rattle.std.proofs.Common.{◌<◌, bit_and, subst, sym}
use mathlib.Core.Option.{none}
use Rattle.atomic_table.specs.Table.{step}
use Rattle.pm_shared.proofs.Asked.{no_slots}
use Rattle.pm_shared.proofs.mem.SharedMem.and.Goals as goal

pub fetch_and-requires : goal.fetch_and-requires
fetch_and-requires g c = let m = c.args.self.now in let seat = c.args.seat.now in (
  c.requires.table,
  subst (λ n. c.args.word < n) (sym m.sized) c.requires.word,
  no_slots m.table.shared.key m.table.shared.table_id.slots seat.id c.args.word seat.me
      (λ n. bit_and n c.args.bits)
      (λ n.
      g.M.Play.then (step n c.args.word c.args.bits 0 none) seat.me) m.slotless c.requires.step,
)
