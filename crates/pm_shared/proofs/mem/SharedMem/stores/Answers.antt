use Rattle.std.proofs.Common.{◌<◌, ap, subst}
use mathlib.Core.Option.{none}
use Rattle.atomic_table.specs.Table.{step}
use Rattle.pm_layout.specs.declared.shape.Shape.{Shape}
use Rattle.pm_layout.specs.Chunks.{words_of}
use Rattle.pm_view.specs.Steps.Step.{Store}
use Rattle.pm_world.specs.Memory.{PoolWord}
use Rattle.pm_shared.proofs.Asked.{asked, gave, in_shape, at_inside, below_place, word_is}
use Rattle.pm_shared.proofs.Moving as moves
use Rattle.pm_shared.proofs.StoresTold.{stores_asked}
use Rattle.pm_shared.specs.Plays.{FindsWas}
use Rattle.pm_shared.proofs.mem.SharedMem.stores.Goals as goal

pub word_at-requires : goal.word_at-requires
word_at-requires c = (in_shape _ _ _ _ c.requires.asks (λ (sh : Shape). c.args.word < words_of sh) (c.requires.asks.lawful 0).allowed.inside)

pub store-requires-clause-word : goal.store-requires-clause-word
store-requires-clause-word c = at_inside c.args.self.now.shape (PoolWord c.args.word) c.word_at.result c.word_at.ensures (in_shape _ _ _ _ c.requires.asks (λ (sh : Shape). c.args.word < words_of sh) (c.requires.asks.lawful 0).allowed.inside)

pub store-requires-clause-step : goal.store-requires-clause-step
store-requires-clause-step c = let inside = in_shape _ _ _ _ c.requires.asks (λ (sh : Shape). c.args.word < words_of sh) (c.requires.asks.lawful 0).allowed.inside in
    stores_asked c.args.self.now c.args.lane c.args.seat.now.me c.args.seat.now.id c.word_at.result c.args.word c.args.value c.requires.asks inside c.word_at.ensures
    (asked c.args.self.now c.args.lane c.args.seat.now.me (λ v st r. Store st.word st.first) (step 0 c.word_at.result c.args.value 0 none) (λ r. Store c.args.word c.args.value) c.requires.asks
    (λ v s l r. ap (λ n. Store n c.args.value) (word_is c.args.self.now.shape c.args.word c.word_at.result c.word_at.ensures inside))
    c.args.seat.now.id c.word_at.result (λ _. c.args.value)
    (λ words size B fits. moves.store_moves c.args.self.now.shape words c.word_at.result c.args.lane c.args.word c.args.value (record { is = c.word_at.ensures; inside = below_place c.args.self.now.shape (PoolWord c.args.word) inside; size = size })))

pub returns-clause-made : goal.returns-clause-made
returns-clause-made c = gave c.args.self.now c.args.lane c.args.seat.now.me (λ v st r. Store st.word st.first) (step 0 c.word_at.result c.args.value 0 none) (λ r. Store c.args.word c.args.value) c.requires.asks
    (λ v s l r. ap (λ n. Store n c.args.value) (word_is c.args.self.now.shape c.args.word c.word_at.result c.word_at.ensures (in_shape _ _ _ _ c.requires.asks (λ (sh : Shape). c.args.word < words_of sh) (c.requires.asks.lawful 0).allowed.inside)))
    c.store.result c.store.new.seat.me (λ v e. (c.store.ensures.told v e).0)

pub returns-clause-found : goal.returns-clause-found
returns-clause-found c v e = subst (λ w. FindsWas v w c.store.result) (word_is c.args.self.now.shape c.args.word c.word_at.result c.word_at.ensures (in_shape _ _ _ _ c.requires.asks (λ (sh : Shape). c.args.word < words_of sh) (c.requires.asks.lawful 0).allowed.inside)) (c.store.ensures.told v e).1
