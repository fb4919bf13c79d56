use Rattle.solo_epoch.proofs.ToldReservations.{call_bears_out, call_goes_on, call_reserves, call_stands}
use Rattle.solo_epoch.proofs.reserving.a_lane_alone_may_reserve_its_new_object.Goals as goal

pub returns : goal.returns
returns c = record {
  reserves = λ o header pool start v u steps shape level size kind block alone makes. call_reserves o header pool start steps v shape level alone u size kind block makes;
  bears_out = λ o header pool start v u steps shape level size kind block alone makes. call_bears_out o header pool start steps v shape level alone u size kind block makes;
  goes_on = λ o header pool start v u steps shape level size kind block at_level alone makes. call_goes_on o header pool start steps v shape level alone u size kind block makes at_level;
  stands = λ o header pool start v u steps shape level size kind block alone has makes. call_stands o header pool start steps v shape level alone u size kind block makes has;
}
