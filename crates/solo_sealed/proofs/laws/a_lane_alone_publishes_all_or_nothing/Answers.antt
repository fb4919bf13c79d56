use Rattle.solo_sealed.proofs.LeftImages.{all_of_it, decides, loses_nothing_of, nothing, same_size}
use Rattle.solo_sealed.proofs.NoFaults.{beside}
use Rattle.solo_sealed.proofs.laws.a_lane_alone_publishes_all_or_nothing.Goals as goal

pub returns : goal.returns
returns c = record {
  nothing = nothing;
  all = all_of_it;
  decided = decides;
  lost = λ b w steps keep image n leaves number. loses_nothing_of b w steps keep image leaves n number;
  beside = beside;
  size = same_size;
}
