use Rattle.std.proofs.Common.{◌≡◌, ◌+◌, List, sym, subst, take, rules}
use Rattle.std.proofs.lemmas.List.{take_more, take_all}
use Rattle.pm_view.specs.declared.change.Change.{Change}
use Rattle.pm_memory.specs.Changes.{IsLeastUnflushed}
use Rattle.pm_shared.proofs.tally.Tally.unflushed.Goals as goal

pub loop-change-preserved : goal.loop-change-preserved
loop-change-preserved c =
    let i = c.loop-change.change-index in
    let items : List Change = c.deref-change-items.result.now in
    let same : items ≡ c.args.self.now.changes = search rules in
    let passed = subst (λ (changes : List Change). IsLeastUnflushed (take i changes) c.loop-change.first) (sym same) c.loop-change.invariant in
    subst (λ (changes : List Change). IsLeastUnflushed (take (i + 1) changes) c.lesser-first.result) same
    (subst (λ (changes : List Change). IsLeastUnflushed changes c.lesser-first.result) (sym (take_more items i _ c.loop-change-test.true)) (c.lesser-first.ensures (take i items) passed))

pub returns : goal.returns
returns c =
    let items : List Change = c.deref-change-items.result.now in
    let same : items ≡ c.args.self.now.changes = search rules in
    subst (λ (changes : List Change). IsLeastUnflushed changes c.loop-change.first) (take_all c.loop-change.change-index c.args.self.now.changes (search rules)) c.loop-change.invariant
