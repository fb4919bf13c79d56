use Rattle.solo_crash.proofs.AloneImages.{calls_meant, header_stays, size_stays}
use Rattle.solo_crash.proofs.AtRest.{calls_meant_at_rest}
use Rattle.solo_crash.proofs.alone.a_lane_alone_leaves_its_whole_calls.Goals as goal

pub returns : goal.returns
returns c = record {
  meaning = λ o header pool v w steps keep image works is. calls_meant o header pool v w steps works keep image is;
  at_rest = calls_meant_at_rest;
  header_page = λ o header pool v w steps keep image works is. header_stays o header pool v w steps works keep image is;
  size = λ o header pool v w steps keep image works is. size_stays o header pool v w steps works keep image is;
}
