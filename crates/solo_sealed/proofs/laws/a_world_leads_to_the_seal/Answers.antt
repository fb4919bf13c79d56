use Rattle.solo_sealed.proofs.FromWorlds.{leads_to_seal}
use Rattle.solo_sealed.proofs.laws.a_world_leads_to_the_seal.Goals as goal

pub returns : goal.returns
returns c = leads_to_seal
