use Rattle.std.proofs.Common.{◌<◌, bit_and, ap}
use mathlib.Core.Option.{none}
use Rattle.atomic_table.specs.Table.{step}
use Rattle.pm_layout.specs.declared.shape.Shape.{Shape}
use Rattle.pm_layout.specs.Chunks.{words_of}
use Rattle.pm_view.specs.Steps.Step.{And}
use Rattle.pm_world.specs.Memory.{PoolWord}
use Rattle.pm_shared.proofs.Asked.{asked, gave, in_shape, at_inside, below_place, word_is}
use Rattle.pm_shared.proofs.Moving as moves
use Rattle.pm_shared.proofs.mem.SharedMem.ands.Goals as goal

pub word_at-requires : goal.word_at-requires
word_at-requires c = (in_shape _ _ _ _ c.requires.asks (λ (sh : Shape). c.args.word < words_of sh) (c.requires.asks.lawful 0).allowed.inside)

pub and-requires-clause-word : goal.and-requires-clause-word
and-requires-clause-word c = at_inside c.args.self.now.shape (PoolWord c.args.word) c.word_at.result c.word_at.ensures (in_shape _ _ _ _ c.requires.asks (λ (sh : Shape). c.args.word < words_of sh) (c.requires.asks.lawful 0).allowed.inside)

pub and-requires-clause-step : goal.and-requires-clause-step
and-requires-clause-step c = asked c.args.self.now c.args.lane c.args.seat.now.me (λ v st r. And st.word st.first r) (step 0 c.word_at.result c.args.bits 0 none) (λ r. And c.args.word c.args.bits r) c.requires.asks
    (λ v s l r. ap (λ n. And n c.args.bits r) (word_is c.args.self.now.shape c.args.word c.word_at.result c.word_at.ensures (in_shape _ _ _ _ c.requires.asks (λ (sh : Shape). c.args.word < words_of sh) (c.requires.asks.lawful 0).allowed.inside)))
    c.args.seat.now.id c.word_at.result (λ n. bit_and n c.args.bits)
    (λ words size B fits. moves.and_moves c.args.self.now.shape words c.word_at.result c.args.lane c.args.word c.args.bits (record { is = c.word_at.ensures; inside = below_place c.args.self.now.shape (PoolWord c.args.word) (in_shape _ _ _ _ c.requires.asks (λ (sh : Shape). c.args.word < words_of sh) (c.requires.asks.lawful 0).allowed.inside); size = size }))

pub returns-clause-made : goal.returns-clause-made
returns-clause-made c = gave c.args.self.now c.args.lane c.args.seat.now.me (λ v st r. And st.word st.first r) (step 0 c.word_at.result c.args.bits 0 none) (λ r. And c.args.word c.args.bits r) c.requires.asks
    (λ v s l r. ap (λ n. And n c.args.bits r) (word_is c.args.self.now.shape c.args.word c.word_at.result c.word_at.ensures (in_shape _ _ _ _ c.requires.asks (λ (sh : Shape). c.args.word < words_of sh) (c.requires.asks.lawful 0).allowed.inside)))
    c.and.result c.and.new.seat.me c.and.ensures.told
