use Rattle.std.proofs.Common.{rules, ◌≡◌, ◌∙◌, ◌+◌, ◌*◌, slice_index, arith}
use Rattle.solo_occupancy.specs.Words.{page_word_of}
use Rattle.solo_occupancy.proofs.Pushed.{pushed_holds}
use Rattle.solo_occupancy.proofs.Words.{one_page_word, run_words_are}
use Rattle.solo_occupancy.proofs.occupancy.run_words.Goals as goal

pub loop-page-preserved : goal.loop-page-preserved
loop-page-preserved c = record {
  count = search rules;
  each = pushed_holds
      (λ page word. word ≡ page_word_of (slice_index c.args.words.now) c.args.shape.lanes page)
      c.loop-page.runs.items c.push.new.self.items c.page_word.result c.loop-page.page c.in_ok-push.ensures.items c.loop-page.invariant.count c.loop-page.invariant.each
      (one_page_word (slice_index c.args.words.now) c.args.shape.lanes c.loop-page.page c.page_word.result (search rules) c.page_word.ensures.elsewhere c.page_word.ensures.blocks);
}

pub returns : goal.returns
returns c =
    let all : c.loop-page.page ≡ 1 + 2 * c.args.shape.lanes + 65 * c.args.shape.zones = omega arith in
    run_words_are (slice_index c.args.words.now) c.args.shape.lanes c.args.shape.zones c.loop-page.runs.items (c.loop-page.invariant.count ∙ all)
    (λ page low. c.loop-page.invariant.each page (omega arith))
