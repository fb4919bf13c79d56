use Rattle.solo_epoch.proofs.HandedOver.{hands_over}
use Rattle.solo_epoch.proofs.laws.a_draw_hands_over.Goals as goal

pub returns : goal.returns
returns c = λ o header pool before now start v steps n all works has own. hands_over o header pool before now start v steps all works has n own
