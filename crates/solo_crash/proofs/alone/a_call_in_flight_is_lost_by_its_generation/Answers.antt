use Rattle.solo_crash.proofs.AloneImages.{ended_stays, fate, first_fate, since_fate, words_fate}
use Rattle.solo_crash.proofs.alone.a_call_in_flight_is_lost_by_its_generation.Goals as goal

pub returns : goal.returns
returns c = record {
  ended = ended_stays;
  in_flight = λ o header pool v w steps keep image n works is. fate o header pool v w steps works keep image is n;
  first = λ o header pool v w steps keep image n works is. first_fate o header pool v w steps works keep image is n;
  by_words = λ o header pool v w steps keep image g n works is. words_fate o header pool v w steps works keep image is g n;
  since = λ o header pool v b w steps keep image n works is. since_fate o header pool v w steps works keep image is b n;
}
