use Rattle.std.proofs.Common.{ℕ, List, refl, sym, ap, ◌∙◌, subst}
use Rattle.std.proofs.lemmas.Result.{err_from_is_err_and}
use Rattle.pm_image.specs.Means.{IsMeaning}
use Rattle.pm_layout.specs.declared.shape.Shape.{Shape}
use Rattle.pm_objects.specs.declared.pool.PoolView.{PoolView}
use Rattle.pm_shared.specs.Openings.{OccupancyFits, pool_opening}
use Rattle.pm_lanes.specs.Opens.{IsOpened}
use Rattle.pm_lanes.proofs.Names.{name_is_text}
use Rattle.pm_lanes.proofs.Recovered.{can_begin}
use Rattle.pm_lanes.proofs.opening.open_in_place.Goals as goal

pub returns-in_err-pool-clause-cause : goal.returns-in_err-pool-clause-cause
returns-in_err-pool-clause-cause c =
    let p = err_from_is_err_and c.from_residual.result c.from_residual.ensures.1 in
    rw (p.1, p.2) (c.in_err-pool.ensures.cause c.args.layout.now c.args.lanes)

pub of_layout-requires : goal.of_layout-requires
of_layout-requires c = name_is_text c.args.image c.in_ok-pool.pool c.in_ok-pool.ensures.means

pub returns-in_err-named-clause-cause : goal.returns-in_err-named-clause-cause
returns-in_err-named-clause-cause c =
    let p = err_from_is_err_and c.from_residual-in_err-named.result c.from_residual-in_err-named.ensures.1 in
    rw (p.1, p.2)
    (c.in_err-named.ensures.cause c.args.image c.args.lanes c.in_ok-pool.ensures.means)

pub returns-clause-begins : goal.returns-clause-begins
returns-clause-begins c =
    let image : List ℕ = c.args.image in
    let words : List ℕ = c.in_ok-words.words.items in
    let shape : Shape = c.shape_of-shape.result in
    let pool : PoolView = c.in_ok-named.named in
    let runs : List ℕ = c.in_ok-runs.field-0.runs.items in
    let zones : List ℕ = c.in_ok-runs.field-0.zones.items in
    let same = c.in_ok-named.ensures.same in
    let means : IsMeaning image pool =
    subst (IsMeaning image) (sym same) c.in_ok-pool.ensures.means in
    let opened : IsOpened image c.args.layout.now words shape pool.id = record {
      pool = pool;
      means = means;
      named = ap (λ (p : PoolView). p.name) same ∙ c.in_ok-named.ensures.named;
      recovered = c.in_ok-words.ensures.words pool means;
      of_lanes = c.shape_of-shape.ensures.lanes;
      of_zones = c.shape_of-shape.ensures.zones;
      of_id = refl;
    } in
    can_begin image c.args.layout.now _ opened c.in_ok-words.ensures.small
    c.in_ok-check_lanes.ensures.run
    (subst (λ (ws : List ℕ). OccupancyFits (pool_opening shape c.args.lanes ws) runs zones)
    c.deref.ensures.value (c.in_ok-runs.ensures c.args.lanes))
