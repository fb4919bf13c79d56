use Rattle.pm_layout.specs.Sizes.{class_of}
use Rattle.solo_transaction.proofs.GainedAtWork.{all_found}
use Rattle.solo_transaction.proofs.MadeBySteps.{object_makes}
use Rattle.solo_transaction.proofs.NoRoomFound.{finds_no_room}
use Rattle.solo_transaction.proofs.StopsMaking.{stops_making}
use Rattle.solo_transaction.proofs.alloc_laws.an_object_is_made_by_few_stores.Goals as goal

pub returns : goal.returns
returns g c = record {
  made = λ o header pool start v w steps lane blocks size kind block works may has within.
      object_makes o header pool start v steps works lane.shape may.can (all_found o g.M.LaneMem.at lane blocks v may.works) w size kind block has within;
  refused = λ o header pool start v w steps lane blocks size works may none. finds_no_room v lane.shape may.can (all_found o g.M.LaneMem.at lane blocks v may.works) w (class_of size) none;
  stopped = λ o header pool start v steps lane blocks memory size kind stop works may gives.
      stops_making o header pool start v steps works lane.shape may.can (all_found o g.M.LaneMem.at lane blocks v may.works) memory size kind stop gives;
}
