use Rattle.std.proofs.Common.{◌*◌, ◌/◌, ◌-◌, ap}
use mathlib.Core.Option.{none}
use Rattle.atomic_table.specs.Table.{step}
use Rattle.pm_layout.specs.Areas.{page_bytes}
use Rattle.pm_view.specs.declared.occ.Occ.TheVariants.{Run}
use Rattle.pm_view.specs.Steps.Step.{Occupied}
use Rattle.pm_world.specs.Memory.{RunWord}
use Rattle.pm_shared.specs.Placing.{start_of}
use Rattle.pm_shared.proofs.Asked.{asked, gave, at_inside, below_place, run_inside, run_whole, run_is}
use Rattle.pm_shared.proofs.Moving as moves
use Rattle.pm_shared.proofs.mem.SharedMem.sees_run.Goals as goal

pub run_at-requires : goal.run_at-requires
run_at-requires c = (run_inside c.requires.asks.view c.args.self.now.shape c.args.place c.requires.asks.shape (c.requires.asks.lawful 0).allowed)

pub load-requires-clause-word : goal.load-requires-clause-word
load-requires-clause-word c = at_inside c.args.self.now.shape (RunWord (c.args.place / page_bytes)) c.run_at.result c.run_at.ensures (run_inside c.requires.asks.view c.args.self.now.shape c.args.place c.requires.asks.shape (c.requires.asks.lawful 0).allowed)

pub load-requires-clause-step : goal.load-requires-clause-step
load-requires-clause-step c = asked c.args.self.now c.args.lane c.args.seat.now.me (λ v st r. Occupied (Run (page_bytes * (st.word - start_of v.fixed.shape 2))) r) (step 0 c.run_at.result 0 0 none) (λ r. Occupied (Run c.args.place) r) c.requires.asks
    (λ v s l r. ap (λ n. Occupied (Run n) r) (run_is c.args.self.now.shape c.args.place c.run_at.result c.run_at.ensures (run_inside c.requires.asks.view c.args.self.now.shape c.args.place c.requires.asks.shape (c.requires.asks.lawful 0).allowed) (run_whole c.requires.asks.view c.args.place (c.requires.asks.lawful 0).allowed) v.fixed.shape s))
    c.args.seat.now.id c.run_at.result (λ n. n)
    (λ words size B fits. moves.see_moves c.args.self.now.shape words c.run_at.result c.args.lane (Run c.args.place) (record { is = c.run_at.ensures; inside = below_place c.args.self.now.shape (RunWord (c.args.place / page_bytes)) (run_inside c.requires.asks.view c.args.self.now.shape c.args.place c.requires.asks.shape (c.requires.asks.lawful 0).allowed); size = size }))

pub returns-clause-made : goal.returns-clause-made
returns-clause-made c = gave c.args.self.now c.args.lane c.args.seat.now.me (λ v st r. Occupied (Run (page_bytes * (st.word - start_of v.fixed.shape 2))) r) (step 0 c.run_at.result 0 0 none) (λ r. Occupied (Run c.args.place) r) c.requires.asks
    (λ v s l r. ap (λ n. Occupied (Run n) r) (run_is c.args.self.now.shape c.args.place c.run_at.result c.run_at.ensures (run_inside c.requires.asks.view c.args.self.now.shape c.args.place c.requires.asks.shape (c.requires.asks.lawful 0).allowed) (run_whole c.requires.asks.view c.args.place (c.requires.asks.lawful 0).allowed) v.fixed.shape s))
    c.load.result c.load.new.seat.me c.load.ensures.told
