use Rattle.std.proofs.Common.{rules, ◌≡◌, ◌∙◌, slice_index, arith}
use Rattle.solo_occupancy.specs.Words.{zone_word_of}
use Rattle.solo_occupancy.proofs.Pushed.{pushed_holds}
use Rattle.solo_occupancy.proofs.Words.{one_zone_word, zone_words_are}
use Rattle.solo_occupancy.proofs.occupancy.zone_words.Goals as goal

pub loop-zone-preserved : goal.loop-zone-preserved
loop-zone-preserved c = record {
  count = search rules;
  each = pushed_holds
      (λ zone word. word ≡ zone_word_of (slice_index c.args.words.now) c.args.shape.lanes c.args.shape.zones zone)
      c.loop-zone.zones.items c.push.new.self.items c.zone_word.result c.loop-zone.zone c.in_ok-push.ensures.items c.loop-zone.invariant.count c.loop-zone.invariant.each
      (one_zone_word (slice_index c.args.words.now) c.args.shape.lanes c.args.shape.zones c.loop-zone.zone c.zone_word.result (search rules) c.zone_word.ensures.elsewhere c.zone_word.ensures.chunks);
}

pub returns : goal.returns
returns c =
    let all : c.loop-zone.zone ≡ 32 = omega arith in
    zone_words_are (slice_index c.args.words.now) c.args.shape.lanes c.args.shape.zones c.loop-zone.zones.items (c.loop-zone.invariant.count ∙ all)
    (λ zone low. c.loop-zone.invariant.each zone (omega arith))
