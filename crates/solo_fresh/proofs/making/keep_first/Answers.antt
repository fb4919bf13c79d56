use Rattle.std.proofs.Common.{sym, ap, ◌∙◌, subst}
use Rattle.solo_memory.specs.Runs.{Made}
use Rattle.solo_view.specs.declared.occ.Occ.TheVariants.{Run}
use Rattle.solo_view.specs.Steps.{Step}
use Rattle.solo_view.specs.Steps.Step.{Vacate}
use Rattle.solo_world.specs.Lawful.{Allowed}
use Rattle.solo_world.proofs.Sequencing.{allowed_one}
use Rattle.solo_fresh.specs.Making.{behind_first, keeps_first, page_in, run_at}
use Rattle.solo_fresh.proofs.Vacating.{made_one}
use Rattle.solo_fresh.proofs.making.keep_first.Goals as goal

pub vacate-requires : goal.vacate-requires
unfolding keeps_first
vacate-requires g c =
    let page = page_in c.args.shape.lanes c.args.run.zone c.args.run.chunk in
    let s : Step = Vacate (Run c.place.result) c.behind_first.result in
    let t : Step = Vacate (run_at page) (behind_first c.args.run.lines) in
    let may = allowed_one (g.M.LaneMem.at c.args.mem.now) t c.requires.ready in
    let same = ap (λ place. Vacate (Run place) c.behind_first.result) c.place.ensures ∙ ap (λ bits. Vacate (run_at page) bits) c.behind_first.ensures in
    g.met.M.LawfulMem.meets c.args.mem.now may.0 s may.1.0 (subst (Allowed may.0) (sym same) may.1.1)

pub returns : goal.returns
unfolding keeps_first
returns g c =
    let page = page_in c.args.shape.lanes c.args.run.zone c.args.run.chunk in
    let old = g.M.LaneMem.at c.args.mem.now in
    let new = g.M.LaneMem.at c.vacate.new.self in
    let t : Step = Vacate (run_at page) (behind_first c.args.run.lines) in
    let same = ap (λ place. Vacate (Run place) c.behind_first.result) c.place.ensures ∙ ap (λ bits. Vacate (run_at page) bits) c.behind_first.ensures in
    made_one old new t (subst (λ (s : Step). Made old new s) same c.vacate.ensures)
