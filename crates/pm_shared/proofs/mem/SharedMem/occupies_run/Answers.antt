use Rattle.std.proofs.Common.{◌*◌, ◌/◌, ◌-◌, bit_and, bit_or, eqb, ap}
use mathlib.Core.Option.{none}
use Rattle.atomic_table.specs.Table.{step}
use Rattle.pm_layout.specs.Areas.{page_bytes}
use Rattle.pm_view.specs.declared.occ.Occ.TheVariants.{Run}
use Rattle.pm_view.specs.Steps.Step.{Occupy}
use Rattle.pm_world.specs.Memory.{RunWord}
use Rattle.pm_shared.specs.Placing.{start_of}
use Rattle.pm_shared.proofs.Asked.{asked, gave, at_inside, below_place, run_inside, run_whole, run_is}
use Rattle.pm_shared.proofs.Moving as moves
use Rattle.pm_shared.proofs.mem.SharedMem.occupies_run.Goals as goal

pub run_at-requires : goal.run_at-requires
run_at-requires c = (run_inside c.requires.asks.view c.args.self.now.shape c.args.place c.requires.asks.shape (c.requires.asks.lawful 0).allowed.there)

pub or-requires-clause-word : goal.or-requires-clause-word
or-requires-clause-word c = at_inside c.args.self.now.shape (RunWord (c.args.place / page_bytes)) c.run_at.result c.run_at.ensures (run_inside c.requires.asks.view c.args.self.now.shape c.args.place c.requires.asks.shape (c.requires.asks.lawful 0).allowed.there)

pub or-requires-clause-step : goal.or-requires-clause-step
or-requires-clause-step c = asked c.args.self.now c.args.lane c.args.seat.now.me (λ v st r. Occupy (Run (page_bytes * (st.word - start_of v.fixed.shape 2))) st.first (eqb (bit_and r st.first) 0)) (step 0 c.run_at.result c.args.bits 0 none) (λ r. Occupy (Run c.args.place) c.args.bits (eqb (bit_and r c.args.bits) 0)) c.requires.asks
    (λ v s l r. ap (λ n. Occupy (Run n) c.args.bits (eqb (bit_and r c.args.bits) 0)) (run_is c.args.self.now.shape c.args.place c.run_at.result c.run_at.ensures (run_inside c.requires.asks.view c.args.self.now.shape c.args.place c.requires.asks.shape (c.requires.asks.lawful 0).allowed.there) (run_whole c.requires.asks.view c.args.place (c.requires.asks.lawful 0).allowed.there) v.fixed.shape s))
    c.args.seat.now.id c.run_at.result (λ n. bit_or n c.args.bits)
    (λ words size B fits. moves.occupy_run c.args.self.now.shape words c.run_at.result c.args.lane c.args.place (c.requires.asks.lawful 0).allowed.one.0 c.args.bits (c.requires.asks.lawful 0).allowed.one.2 (record { is = c.run_at.ensures; inside = below_place c.args.self.now.shape (RunWord (c.args.place / page_bytes)) (run_inside c.requires.asks.view c.args.self.now.shape c.args.place c.requires.asks.shape (c.requires.asks.lawful 0).allowed.there); size = size }))

pub returns-clause-made : goal.returns-clause-made
returns-clause-made c = gave c.args.self.now c.args.lane c.args.seat.now.me (λ v st r. Occupy (Run (page_bytes * (st.word - start_of v.fixed.shape 2))) st.first (eqb (bit_and r st.first) 0)) (step 0 c.run_at.result c.args.bits 0 none) (λ r. Occupy (Run c.args.place) c.args.bits (eqb (bit_and r c.args.bits) 0)) c.requires.asks
    (λ v s l r. ap (λ n. Occupy (Run n) c.args.bits (eqb (bit_and r c.args.bits) 0)) (run_is c.args.self.now.shape c.args.place c.run_at.result c.run_at.ensures (run_inside c.requires.asks.view c.args.self.now.shape c.args.place c.requires.asks.shape (c.requires.asks.lawful 0).allowed.there) (run_whole c.requires.asks.view c.args.place (c.requires.asks.lawful 0).allowed.there) v.fixed.shape s))
    c.or.result c.or.new.seat.me c.or.ensures.told
