use Rattle.std.proofs.Common.{◌≡◌, ℕ, ◌*◌, ◌<◌, ◌∙◌, ap, sym, subst, arith}
use Rattle.pm_image.specs.declared.block.Block.{Block}
use Rattle.pm_layout.specs.Sizes.{block_place, blocks_of}
use Rattle.solo_memory.specs.Runs.{Made}
use Rattle.solo_view.specs.declared.occ.Occ.TheVariants.{Run}
use Rattle.solo_view.specs.Steps.Step.{Occupied}
use Rattle.solo_runs.specs.Looking.{CanTry, HasLost, HasWon}
use Rattle.solo_runs.specs.Runs.{page_of}
use Rattle.solo_runs.proofs.SearchedRuns.{can_try, got_in_run, in_run_first, in_run_more, none_in_run}
use Rattle.solo_runs.proofs.reserving.reserve_in_run.Goals as goal

pub loop-index-init : goal.loop-index-init
loop-index-init g c v there may run =
    let new = g.M.LaneMem.at c.occupied-found.new.self in
    let found = c.occupied-found.result in
    let made = subst (λ (p : ℕ). Made (g.M.LaneMem.at c.args.mem.now) new (Occupied (Run p) found)) c.run_place-place.ensures.value c.occupied-found.ensures v there in
    in_run_first v c.args.shape may c.args.chunk c.requires.inside found made.2 new made.0

pub try_block-requires-clause-may : goal.try_block-requires-clause-may
try_block-requires-clause-may g c =
    let r = c.requires.may in
    let so = c.loop-index.invariant r.0 r.1.0 r.1.1 r.1.2 in
    let found = c.occupied-found.result in (
      so.looks.view,
      (
        so.looks.there,
        subst (λ (p : ℕ). CanTry so.looks.view p found) (sym c.run_place-place.ensures.value)
            (can_try r.0 c.args.shape r.1.1 c.args.chunk c.requires.inside (g.M.LaneMem.at c.loop-index.mem) found c.loop-index.index so c.args.class r.1.2),
      ),
    )

pub returns-then-try_block-clause-got : goal.returns-then-try_block-clause-got
returns-then-try_block-clause-got g c v there may run =
    let shape = c.args.shape in
    let i = c.loop-index.index in
    let at = g.M.LaneMem.at c.loop-index.mem in
    let new = g.M.LaneMem.at c.try_block.new.mem in
    let found = c.occupied-found.result in
    let place = 4096 * page_of shape.lanes c.args.chunk in
    let so = c.loop-index.invariant v there may run in
    let can = can_try v shape may c.args.chunk c.requires.inside at found i so c.args.class run in
    let here = c.run_place-place.ensures.value in
    let won = subst (λ (p : ℕ). CanTry so.looks.view p found → HasWon new so.looks.view p i) here (c.try_block.ensures.won c.if-try_block.true so.looks.view so.looks.there) can in
    let low : i < blocks_of c.args.class = subst (λ (n : ℕ). i < n) c.blocks_of-index-end.ensures.value c.loop-index-test.true in
    let stands = c.block_at.ensures.value ∙ ap (λ (p : ℕ). block_place p c.args.class i) here in
    got_in_run v shape may c.args.chunk c.requires.inside at found i so c.args.class run low new won _ (ap (λ (p : ℕ). let b : Block = record { place = p; lines = c.args.class } in b) stands)

pub loop-index-preserved : goal.loop-index-preserved
loop-index-preserved g c v there may run =
    let shape = c.args.shape in
    let i = c.loop-index.index in
    let at = g.M.LaneMem.at c.loop-index.mem in
    let new = g.M.LaneMem.at c.try_block.new.mem in
    let found = c.occupied-found.result in
    let so = c.loop-index.invariant v there may run in
    let can = can_try v shape may c.args.chunk c.requires.inside at found i so c.args.class run in
    let lost = subst (λ (p : ℕ). CanTry so.looks.view p found → HasLost new so.looks.view p i) c.run_place-place.ensures.value (c.try_block.ensures.lost c.if-try_block.false so.looks.view so.looks.there) can in
    in_run_more v shape may c.args.chunk c.requires.inside at found i so new lost

pub returns-clause-none : goal.returns-clause-none
returns-clause-none g c none v there may run =
    let i = c.loop-index.index in
    let count : blocks_of c.args.class ≡ i = (let value = c.blocks_of-index-end.ensures.value in omega (arith, value)) in
    none_in_run v c.args.shape may c.args.chunk c.requires.inside (g.M.LaneMem.at c.loop-index.mem) c.occupied-found.result i (c.loop-index.invariant v there may run) (blocks_of c.args.class) count
