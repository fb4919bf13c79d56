use Rattle.solo_epoch.proofs.LeftCalls.{calls_meant, ended_meant, same_length, same_page}
use Rattle.solo_epoch.proofs.laws.a_publishing_lane_leaves_its_whole_calls.Goals as goal

pub returns : goal.returns
returns c = record {
  meaning = λ o header pool u n all w keep image call is. calls_meant o header pool u n all w call keep image is;
  header_page = λ o header pool u n all w keep image call is. same_page o header pool u n all w call keep image is;
  size = λ o header pool u n all w keep image call is. same_length o header pool u n all w call keep image is;
  ended = λ o header pool v keep image ended is. ended_meant o header pool v keep image ended is;
}
