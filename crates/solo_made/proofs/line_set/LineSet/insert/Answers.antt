use Rattle.std.proofs.Common.{◌||◌, eqb, List, ℕ, length, sym, subst, ap, ◌∙◌}
use Rattle.solo_made.specs.Made.{IsOffsetIn, has_object}
use Rattle.solo_made.proofs.LineSets.{object_put}
use Rattle.solo_made.proofs.line_set.LineSet.insert.Goals as goal

pub returns-clause-put : goal.returns-clause-put
returns-clause-put c = λ other.
    object_put c.self.inside.words.items c.args.off other c.index_mut.result.now (subst (λ (words : List ℕ). IsOffsetIn (length words) c.args.off) (sym c.self.view_is) c.requires) c.index_mut.ensures.value
    ∙ ap (λ (words : List ℕ). has_object words other || eqb other c.args.off) c.self.view_is
