use Rattle.std.proofs.Common.{◌/◌, ◌<◌, ◌-◌, eqb, ap}
use mathlib.Core.Option.{none}
use prog.Atomic.{either}
use Rattle.atomic_table.specs.Table.{step}
use Rattle.pm_layout.specs.declared.shape.Shape.{Shape}
use Rattle.pm_layout.specs.Chunks.{words_of}
use Rattle.pm_view.specs.Steps.Step.{TakeWrite}
use Rattle.pm_world.specs.Memory.{LockWord}
use Rattle.pm_shared.specs.Placing.{start_of}
use Rattle.pm_shared.proofs.Asked.{asked, gave, in_shape, at_inside, below_place, number_is}
use Rattle.pm_shared.proofs.Moving as moves
use Rattle.pm_shared.proofs.mem.SharedMem.takes_write.Goals as goal

pub lock_at-requires : goal.lock_at-requires
lock_at-requires c = (in_shape _ _ _ _ c.requires.asks (λ (sh : Shape). c.args.line < words_of sh / 8) (c.requires.asks.lawful 0).allowed.inside)

pub swap_from-requires-clause-word : goal.swap_from-requires-clause-word
swap_from-requires-clause-word c = at_inside c.args.self.now.shape (LockWord c.args.line) c.lock_at.result c.lock_at.ensures (in_shape _ _ _ _ c.requires.asks (λ (sh : Shape). c.args.line < words_of sh / 8) (c.requires.asks.lawful 0).allowed.inside)

pub swap_from-requires-clause-step : goal.swap_from-requires-clause-step
swap_from-requires-clause-step c = asked c.args.self.now c.args.lane c.args.seat.now.me (λ v st r. TakeWrite (st.word - start_of v.fixed.shape 1) (eqb r 0)) (step 0 c.lock_at.result 0 c.writer.result none) (λ r. TakeWrite c.args.line (eqb r 0)) c.requires.asks
    (λ v s l r. ap (λ n. TakeWrite n (eqb r 0)) (number_is c.args.self.now.shape (LockWord c.args.line) c.lock_at.result c.lock_at.ensures (in_shape _ _ _ _ c.requires.asks (λ (sh : Shape). c.args.line < words_of sh / 8) (c.requires.asks.lawful 0).allowed.inside) v.fixed.shape s))
    c.args.seat.now.id c.lock_at.result (λ n. either (eqb n 0) c.writer.result n)
    (λ words size B fits. moves.write_moves c.args.self.now.shape words c.lock_at.result c.args.lane c.args.line c.writer.result c.writer.ensures (record { is = c.lock_at.ensures; inside = below_place c.args.self.now.shape (LockWord c.args.line) (in_shape _ _ _ _ c.requires.asks (λ (sh : Shape). c.args.line < words_of sh / 8) (c.requires.asks.lawful 0).allowed.inside); size = size }))

pub returns-clause-made : goal.returns-clause-made
returns-clause-made c = gave c.args.self.now c.args.lane c.args.seat.now.me (λ v st r. TakeWrite (st.word - start_of v.fixed.shape 1) (eqb r 0)) (step 0 c.lock_at.result 0 c.writer.result none) (λ r. TakeWrite c.args.line (eqb r 0)) c.requires.asks
    (λ v s l r. ap (λ n. TakeWrite n (eqb r 0)) (number_is c.args.self.now.shape (LockWord c.args.line) c.lock_at.result c.lock_at.ensures (in_shape _ _ _ _ c.requires.asks (λ (sh : Shape). c.args.line < words_of sh / 8) (c.requires.asks.lawful 0).allowed.inside) v.fixed.shape s))
    c.swap_from.result c.swap_from.new.seat.me c.swap_from.ensures.told
