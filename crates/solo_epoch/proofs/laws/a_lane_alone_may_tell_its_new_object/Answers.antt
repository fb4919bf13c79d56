use Rattle.solo_epoch.proofs.ToldObjects.{allocates as may_allocate, bears_out as may_bear_out, goes_on as may_go_on}
use Rattle.solo_epoch.proofs.laws.a_lane_alone_may_tell_its_new_object.Goals as goal

pub returns : goal.returns
returns c = record {
  allocates = λ o header pool start v u steps shape level size kind block alone makes some most room. may_allocate o header pool start steps v shape level alone u size kind block makes some most room;
  bears_out = λ o header pool start v u steps shape level size kind block alone makes. may_bear_out o header pool start steps v shape level alone u size kind block makes;
  goes_on = λ o header pool start v u steps shape level size kind block at_level alone makes some most room. may_go_on o header pool start steps v shape level alone u size kind block makes at_level some most room;
}
