use Rattle.pm_layout.specs.Sizes.{class_of}
use Rattle.solo_epoch.proofs.FilledStill.{drained_still, filled_still, refused_filled, refused_same}
use Rattle.solo_epoch.proofs.reserving.words_filled_stay_filled.Goals as goal

pub returns : goal.returns
returns c = record {
  made = λ o header pool start v u steps shape size kind block works can only makes. filled_still v shape can u size kind block makes o header pool start steps works only;
  drained = λ v u shape size kind block can makes. drained_still v shape can u size kind block makes;
  refused = λ v w shape size can. refused_filled v shape can w (class_of size);
  same = λ v w shape size can. refused_same v shape can w (class_of size);
}
