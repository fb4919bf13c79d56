use Rattle.solo_view.specs.declared.occ.Occ.TheVariants.{Run}
use Rattle.solo_view.specs.Steps.Step.{Occupy}
use Rattle.solo_view.specs.Views.{after}
use Rattle.solo_reclaim.proofs.Resting.{keeps_then, may_then}
use Rattle.solo_reclaim.proofs.TestPlaces.{first_run}
use Rattle.solo_reclaim.proofs.tests.reserve.Goals as goal

pub returns : goal.returns
returns c kept rests =
    let v = rests.view in
    let place = c.chunk_at.result in
    let made = c.occupy.ensures.made v rests.sees in
    let there = first_run v c.args.shape rests.may place c.chunk_at.ensures.value in
    record {
      view = after v (Occupy (Run place) c.args.blocks c.occupy.result);
      sees = made.0;
      may = may_then v (Run place) c.args.blocks rests.may.rests there c.occupy.result c.args.shape made.2 rests.may;
      keeps = keeps_then v (Run place) c.args.blocks rests.may.rests there c.occupy.result kept rests.keeps;
    }
