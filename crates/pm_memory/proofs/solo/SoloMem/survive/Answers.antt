use Rattle.std.proofs.Common.{◌≡◌, ℕ, List, [], ◌∷◌, sym, subst, arith, rules}
use Rattle.std.proofs.lemmas.List.{with_items_is}
use Rattle.std.specs.Vec.{with_items}
use Rattle.pm_view.specs.declared.change.Change.{Change}
use Rattle.pm_memory.specs.Keeping.{IsTakenBack}
use Rattle.pm_memory.specs.Survivors.{Survives}
use Rattle.pm_memory.proofs.Imaging.{image_of_one, kept_survives}
use Rattle.pm_memory.proofs.solo.SoloMem.survive.Goals as goal

pub returns-clause-survives : goal.returns-clause-survives
returns-clause-survives c =
    let after : List ℕ = c.take_back.new.words in
    let now = c.args.self.now in
    let whole : (with_items c.in_ok-left.left after).items ≡ after = with_items_is c.in_ok-left.left after (omega (arith, c.take_back.auto.words, c.deref_mut.ensures.len)) in
    let words : c.deref_mut.result.now ≡ now.words = search rules in
    let changes : c.as_slice.result.now ≡ now.changes = search rules in
    let back : IsTakenBack c.args.keep 0 now.changes now.words after =
    subst (λ (ws : List ℕ). IsTakenBack c.args.keep 0 now.changes ws after) words (subst (λ (cs : List Change). IsTakenBack c.args.keep 0 cs c.deref_mut.result.now after) changes (c.take_back.ensures.left c.args.keep 0 c.of-kept.ensures)) in
    subst (λ (image : List ℕ). Survives now.words (now.changes ∷ []) image) (sym whole) (kept_survives c.args.keep now.words (now.changes ∷ []) after (image_of_one c.args.keep now.words after now.changes back))
