use Rattle.std.proofs.Common.{◌/◌, ◌^◌, ◌<◌, ◌-◌, bit_or, eqb, ap}
use mathlib.Core.Option.{none}
use Rattle.atomic_table.specs.Table.{step}
use Rattle.pm_layout.specs.declared.shape.Shape.{Shape}
use Rattle.pm_layout.specs.Chunks.{words_of}
use Rattle.pm_view.specs.Steps.Step.{TakeRead}
use Rattle.pm_world.specs.Memory.{LockWord}
use Rattle.pm_shared.specs.Placing.{start_of}
use Rattle.pm_shared.proofs.Asked.{asked, gave, in_shape, at_inside, below_place, number_is, few_lanes}
use Rattle.pm_shared.proofs.Moving as moves
use Rattle.pm_shared.proofs.mem.SharedMem.takes_read.Goals as goal

pub lock_at-requires : goal.lock_at-requires
lock_at-requires c = (in_shape _ _ _ _ c.requires.asks (λ (sh : Shape). c.args.line < words_of sh / 8) (c.requires.asks.lawful 0).allowed.inside)

pub or-requires-clause-word : goal.or-requires-clause-word
or-requires-clause-word c = at_inside c.args.self.now.shape (LockWord c.args.line) c.lock_at.result c.lock_at.ensures (in_shape _ _ _ _ c.requires.asks (λ (sh : Shape). c.args.line < words_of sh / 8) (c.requires.asks.lawful 0).allowed.inside)

pub or-requires-clause-step : goal.or-requires-clause-step
or-requires-clause-step c = asked c.args.self.now c.args.lane c.args.seat.now.me (λ v st r. TakeRead (st.word - start_of v.fixed.shape 1) (eqb (r / 2 ^ 32) 0)) (step 0 c.lock_at.result c.reader.result 0 none) (λ r. TakeRead c.args.line (eqb (r / 2 ^ 32) 0)) c.requires.asks
    (λ v s l r. ap (λ n. TakeRead n (eqb (r / 2 ^ 32) 0)) (number_is c.args.self.now.shape (LockWord c.args.line) c.lock_at.result c.lock_at.ensures (in_shape _ _ _ _ c.requires.asks (λ (sh : Shape). c.args.line < words_of sh / 8) (c.requires.asks.lawful 0).allowed.inside) v.fixed.shape s))
    c.args.seat.now.id c.lock_at.result (λ n. bit_or n c.reader.result)
    (λ words size B fits. moves.read_moves c.args.self.now.shape words c.lock_at.result c.args.lane c.args.line c.reader.result (few_lanes c.args.self.now.shape c.args.lane c.requires.few) c.reader.ensures (record { is = c.lock_at.ensures; inside = below_place c.args.self.now.shape (LockWord c.args.line) (in_shape _ _ _ _ c.requires.asks (λ (sh : Shape). c.args.line < words_of sh / 8) (c.requires.asks.lawful 0).allowed.inside); size = size }))

pub returns-clause-made : goal.returns-clause-made
returns-clause-made c = gave c.args.self.now c.args.lane c.args.seat.now.me (λ v st r. TakeRead (st.word - start_of v.fixed.shape 1) (eqb (r / 2 ^ 32) 0)) (step 0 c.lock_at.result c.reader.result 0 none) (λ r. TakeRead c.args.line (eqb (r / 2 ^ 32) 0)) c.requires.asks
    (λ v s l r. ap (λ n. TakeRead n (eqb (r / 2 ^ 32) 0)) (number_is c.args.self.now.shape (LockWord c.args.line) c.lock_at.result c.lock_at.ensures (in_shape _ _ _ _ c.requires.asks (λ (sh : Shape). c.args.line < words_of sh / 8) (c.requires.asks.lawful 0).allowed.inside) v.fixed.shape s))
    c.or.result c.or.new.seat.me c.or.ensures.told
