use Rattle.std.proofs.Common.{◌≡◌, ◌++◌, ◌⊎◌, inl, inr, ◌≤◌, ◌-◌, ◌+◌, ◌/◌, ℕ, [], ◌∷◌, get_or, vec_len, ◌∙◌, ap, arith}
use Rattle.pm_image.specs.Contents.{walk}
use Rattle.pm_image.proofs.Reading.{walked_more, walked_all}
use Rattle.pm_image.proofs.objects.members_from.Goals as goal
use Rattle.pm_image.proofs.objects.members_from.Goals.{then-loop-off-test+else-len-count, else-loop-off-test}

pub loop-off-preserved : goal.loop-off-preserved
loop-off-preserved c =
    let w : ℕ → ℕ = λ i. get_or c.args.words.now i 0 in
    let items : c.push.new.self.items ≡ c.loop-off.members.items ++ c.loop-off.off ∷ [] = c.in_ok-push.ensures.items in
    let len : vec_len c.push.new.self ≡ vec_len c.loop-off.members + 1 = c.in_ok-push.ensures.len in
    let next : c.word_or_zero-off.result ≡ w (c.loop-off.off / 8 - 6) = c.word_or_zero-off.ensures ∙ ap w c.saturating_sub.ensures in
    record {
      fits = omega arith;
      rest = (λ j. items j ++ walk w (c.args.count - len j) (next j))
          ∙ walked_more w c.loop-off.members.items _ c.args.count (vec_len c.loop-off.members) c.loop-off.off (omega arith) (λ none. absurd (omega arith)) c.loop-off.invariant.rest;
    }

pub returns : goal.returns
returns c =
    let over : (c.loop-off.off ≡ 0) ⊎ (c.args.count ≤ vec_len c.loop-off.members) =
    elim c.loop-off-test.branch [ then-loop-off-test+else-len-count w ↦ inr (omega arith) | else-loop-off-test w ↦ inl (omega arith) ] in
    walked_all (λ i. get_or c.args.words.now i 0) c.loop-off.members.items _ c.args.count (vec_len c.loop-off.members) c.loop-off.off over c.loop-off.invariant.rest
