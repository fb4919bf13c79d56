use Rattle.std.proofs.Common.{◌<◌, ap, subst}
use mathlib.Core.Option.{none}
use Rattle.atomic_table.specs.Table.{step}
use Rattle.pm_layout.specs.declared.shape.Shape.{Shape}
use Rattle.pm_layout.specs.Chunks.{words_of}
use Rattle.pm_view.specs.Steps.Step.{Load}
use Rattle.pm_world.specs.InWorld.{InWorld}
use Rattle.pm_world.specs.Memory.{PoolWord}
use Rattle.pm_shared.proofs.Asked.{asked, gave, in_shape, at_inside, below_place, word_is}
use Rattle.pm_shared.proofs.LoadsTold.{loads_asked}
use Rattle.pm_shared.proofs.Moving as moves
use Rattle.pm_shared.proofs.mem.SharedMem.loads.Goals as goal

pub word_at-requires : goal.word_at-requires
word_at-requires c = (in_shape _ _ _ _ c.requires.asks (λ (sh : Shape). c.args.word < words_of sh) (c.requires.asks.lawful 0).allowed)

pub load-requires-clause-word : goal.load-requires-clause-word
load-requires-clause-word c = at_inside c.args.self.now.shape (PoolWord c.args.word) c.word_at.result c.word_at.ensures (in_shape _ _ _ _ c.requires.asks (λ (sh : Shape). c.args.word < words_of sh) (c.requires.asks.lawful 0).allowed)

pub load-requires-clause-step : goal.load-requires-clause-step
load-requires-clause-step c = let inside = in_shape _ _ _ _ c.requires.asks (λ (sh : Shape). c.args.word < words_of sh) (c.requires.asks.lawful 0).allowed in
    loads_asked c.args.self.now c.args.lane c.args.seat.now.me c.args.seat.now.id c.word_at.result c.args.word c.requires.asks inside c.word_at.ensures
    (asked c.args.self.now c.args.lane c.args.seat.now.me (λ v st r. Load st.word r) (step 0 c.word_at.result 0 0 none) (λ r. Load c.args.word r) c.requires.asks
    (λ v s l r. ap (λ n. Load n r) (word_is c.args.self.now.shape c.args.word c.word_at.result c.word_at.ensures inside))
    c.args.seat.now.id c.word_at.result (λ n. n)
    (λ words size B fits. moves.load_moves c.args.self.now.shape words c.word_at.result c.args.lane c.args.word (record { is = c.word_at.ensures; inside = below_place c.args.self.now.shape (PoolWord c.args.word) inside; size = size })))

pub returns-clause-made : goal.returns-clause-made
returns-clause-made c = gave c.args.self.now c.args.lane c.args.seat.now.me (λ v st r. Load st.word r) (step 0 c.word_at.result 0 0 none) (λ r. Load c.args.word r) c.requires.asks
    (λ v s l r. ap (λ n. Load n r) (word_is c.args.self.now.shape c.args.word c.word_at.result c.word_at.ensures (in_shape _ _ _ _ c.requires.asks (λ (sh : Shape). c.args.word < words_of sh) (c.requires.asks.lawful 0).allowed)))
    c.load.result c.load.new.seat.me (λ v e. (c.load.ensures.told v e).0)

pub returns-clause-world : goal.returns-clause-world
returns-clause-world c v e = subst (λ w. InWorld v w c.load.result) (word_is c.args.self.now.shape c.args.word c.word_at.result c.word_at.ensures (in_shape _ _ _ _ c.requires.asks (λ (sh : Shape). c.args.word < words_of sh) (c.requires.asks.lawful 0).allowed)) (c.load.ensures.told v e).1
