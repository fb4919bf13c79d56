use Rattle.std.proofs.Common.{◌||◌, Bool, ap, sym, ◌∙◌}
use Rattle.std.specs.List.{list_any}
use Rattle.solo_crash.specs.CallBlocks.{is_at}
use Rattle.solo_made.specs.Made.{BlockLists, has_object}
use Rattle.solo_made.proofs.CallLists.{made_is}
use Rattle.solo_made.proofs.blocks.CallBlocks.is_new.Goals as goal

pub returns-then-has_made : goal.returns-then-has_made
returns-then-has_made c = λ call lists.
    c.if-has_made.true
    ∙ ap (λ (b : Bool). b || list_any (is_at c.args.off) call.dropped) (sym c.if-has_made.true ∙ (c.has_made.ensures ∙ made_is c.args.self.now call c.args.off lists))

pub returns-else-has_made : goal.returns-else-has_made
returns-else-has_made c = λ call lists.
    c.contains.ensures ∙ (ap (λ (b : BlockLists). has_object b.dropped c.args.off) c.self.view_is
    ∙ (lists.dropped c.args.off
    ∙ ap (λ (b : Bool). b || list_any (is_at c.args.off) call.dropped) (sym c.if-has_made.false ∙ (c.has_made.ensures ∙ made_is c.args.self.now call c.args.off lists))))
