use Rattle.std.proofs.Common.{◌*◌, ◌/◌, ◌-◌, bit_and, ap, refl, ◌∙◌}
use Rattle.std.specs.Int.{bit_not, w64}
use mathlib.Core.Option.{none}
use Rattle.atomic_table.specs.Table.{step}
use Rattle.pm_layout.specs.Areas.{page_bytes}
use Rattle.pm_view.specs.declared.occ.Occ.TheVariants.{Run}
use Rattle.pm_view.specs.Steps.Step.{Vacate}
use Rattle.pm_world.specs.Memory.{RunWord}
use Rattle.pm_shared.specs.Placing.{start_of}
use Rattle.pm_shared.proofs.Asked.{asked, gave, at_inside, below_place, run_inside, run_whole, run_is, twice_not}
use Rattle.pm_shared.proofs.Moving as moves
use Rattle.pm_shared.proofs.mem.SharedMem.vacates_run.Goals as goal

pub run_at-requires : goal.run_at-requires
run_at-requires c = (run_inside c.requires.asks.view c.args.self.now.shape c.args.place c.requires.asks.shape (c.requires.asks.lawful 0).allowed.there)

pub and-requires-clause-word : goal.and-requires-clause-word
and-requires-clause-word c = at_inside c.args.self.now.shape (RunWord (c.args.place / page_bytes)) c.run_at.result c.run_at.ensures (run_inside c.requires.asks.view c.args.self.now.shape c.args.place c.requires.asks.shape (c.requires.asks.lawful 0).allowed.there)

pub and-requires-clause-step : goal.and-requires-clause-step
and-requires-clause-step c = asked c.args.self.now c.args.lane c.args.seat.now.me (λ v st r. Vacate (Run (page_bytes * (st.word - start_of v.fixed.shape 2))) (bit_not w64 st.first)) (step 0 c.run_at.result (bit_not w64 c.args.bits) 0 none) (λ r. Vacate (Run c.args.place) c.args.bits) c.requires.asks
    (λ v s l r. ap (λ n. Vacate (Run n) (bit_not w64 (bit_not w64 c.args.bits))) (run_is c.args.self.now.shape c.args.place c.run_at.result c.run_at.ensures (run_inside c.requires.asks.view c.args.self.now.shape c.args.place c.requires.asks.shape (c.requires.asks.lawful 0).allowed.there) (run_whole c.requires.asks.view c.args.place (c.requires.asks.lawful 0).allowed.there) v.fixed.shape s) ∙ ap (Vacate (Run c.args.place)) (twice_not c.args.bits (c.requires.asks.lawful 0).allowed.small))
    c.args.seat.now.id c.run_at.result (λ n. bit_and n (bit_not w64 c.args.bits))
    (λ words size B fits. moves.vacate_moves c.args.self.now.shape words c.run_at.result c.args.lane (Run c.args.place) c.args.bits (bit_not w64 c.args.bits) refl (record { is = c.run_at.ensures; inside = below_place c.args.self.now.shape (RunWord (c.args.place / page_bytes)) (run_inside c.requires.asks.view c.args.self.now.shape c.args.place c.requires.asks.shape (c.requires.asks.lawful 0).allowed.there); size = size }))

pub returns-clause-made : goal.returns-clause-made
returns-clause-made c = gave c.args.self.now c.args.lane c.args.seat.now.me (λ v st r. Vacate (Run (page_bytes * (st.word - start_of v.fixed.shape 2))) (bit_not w64 st.first)) (step 0 c.run_at.result (bit_not w64 c.args.bits) 0 none) (λ r. Vacate (Run c.args.place) c.args.bits) c.requires.asks
    (λ v s l r. ap (λ n. Vacate (Run n) (bit_not w64 (bit_not w64 c.args.bits))) (run_is c.args.self.now.shape c.args.place c.run_at.result c.run_at.ensures (run_inside c.requires.asks.view c.args.self.now.shape c.args.place c.requires.asks.shape (c.requires.asks.lawful 0).allowed.there) (run_whole c.requires.asks.view c.args.place (c.requires.asks.lawful 0).allowed.there) v.fixed.shape s) ∙ ap (Vacate (Run c.args.place)) (twice_not c.args.bits (c.requires.asks.lawful 0).allowed.small))
    c.and.result c.and.new.seat.me c.and.ensures.told
