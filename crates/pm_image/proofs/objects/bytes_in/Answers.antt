use Rattle.std.proofs.Common.{◌++◌, [], ◌∷◌, ℕ, get_or, sym, ◌∙◌, ap}
use Rattle.pm_words.specs.Words.{bytes_of}
use Rattle.pm_image.proofs.Reading.{word_more, no_words}
use Rattle.pm_image.proofs.objects.bytes_in.Goals as goal

pub loop-k-init : goal.loop-k-init
loop-k-init c = c.new-bytes.ensures.items ∙ no_words (λ i. get_or c.args.words.now i 0) 0

pub loop-k-preserved : goal.loop-k-preserved
loop-k-preserved c =
    let w : ℕ → ℕ = λ i. get_or c.args.words.now i 0 in
    c.in_ok-extend_from_slice.ensures.items
    ∙ (λ j. c.loop-k.invariant j ++ (c.bytes_of.ensures.bytes ∙ ap (λ (x : ℕ). bytes_of (x ∷ [])) c.word_or_zero.ensures) j)
    ∙ sym (word_more w _ c.loop-k.k)
