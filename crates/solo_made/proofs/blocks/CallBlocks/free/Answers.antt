use Rattle.std.proofs.Common.{not, ℕ, length, ap, sym, subst, ◌∙◌, rules, tests}
use Rattle.std.specs.List.{All, filter, list_any}
use Rattle.std.proofs.lemmas.List.Elements.{All-filter}
use Rattle.arrayvec.proofs.ArrayVecLemmas.{filter-from_retain}
use Rattle.solo_made.specs.declared.objects.Made.{Made}
use Rattle.solo_made.specs.Made.{BlockLists, FitsPages, ListsBlocks, begins_at}
use Rattle.solo_made.proofs.CallLists.{lists_dropped, lists_freed, made_fits, none_there}
use Rattle.solo_made.proofs.blocks.CallBlocks.free.Goals as goal

pub insert-requires : goal.insert-requires
insert-requires c =
    made_fits (length c.self.inside.dropped) c.args.off c.self.inside.made.items
    (ap (λ (b : BlockLists). list_any (begins_at c.args.off) b.made) c.self.view_is ∙ (sym c.has_made.ensures ∙ c.if-has_made.true)) c.self.invariant

pub invariant_of-self : goal.invariant_of-self
invariant_of-self c =
    let kept = filter-from_retain _ (λ (m : Made). not (begins_at c.args.off m)) _ (λ x b f y r. search (rules, tests)) _ _ c.retain.ensures.filtered in
    subst (λ (pages : ℕ). All (FitsPages pages) c.retain.new.self.items) (sym c.insert.ensures.pages)
    (subst (All (FitsPages (length c.self.inside.dropped))) (sym kept)
    (All-filter (λ (m : Made). not (begins_at c.args.off m)) (FitsPages (length c.self.inside.dropped)) c.self.inside.made.items c.self.invariant))

pub returns-then-has_made-clause-of_call : goal.returns-then-has_made-clause-of_call
returns-then-has_made-clause-of_call c = λ call lists.
    let kept = filter-from_retain _ (λ (m : Made). not (begins_at c.args.off m)) _ (λ x b f y r. search (rules, tests)) _ _ c.retain.ensures.filtered in
    lists_dropped (record { made = c.self.inside.made.items; freed = c.self.inside.freed.items; dropped = c.self.inside.dropped }) call c.args.off c.retain.new.self.items c.insert.new.self
    (subst (λ (b : BlockLists). ListsBlocks b call) (sym c.self.view_is) lists)
    (ap (λ (b : BlockLists). list_any (begins_at c.args.off) b.made) c.self.view_is ∙ (sym c.has_made.ensures ∙ c.if-has_made.true))
    kept c.insert.ensures.put

pub returns-else-has_made-clause-of_call : goal.returns-else-has_made-clause-of_call
returns-else-has_made-clause-of_call c = λ call lists.
    lists_freed (record { made = c.self.inside.made.items; freed = c.self.inside.freed.items; dropped = c.self.inside.dropped }) call (record { off = c.args.off; lines = c.args.lines }) c.push.new.self.items
    (subst (λ (b : BlockLists). ListsBlocks b call) (sym c.self.view_is) lists)
    (ap (λ (b : BlockLists). list_any (begins_at c.args.off) b.made) c.self.view_is ∙ (sym c.has_made.ensures ∙ c.if-has_made.false))
    c.push.ensures.items

pub returns-then-has_made-clause-made : goal.returns-then-has_made-clause-made
returns-then-has_made-clause-made c =
    let kept = filter-from_retain _ (λ (m : Made). not (begins_at c.args.off m)) _ (λ x b f y r. search (rules, tests)) _ _ c.retain.ensures.filtered in
    kept ∙ ap (λ (b : BlockLists). filter (λ (m : Made). not (begins_at c.args.off m)) b.made) c.self.view_is

pub returns-else-has_made-clause-made : goal.returns-else-has_made-clause-made
returns-else-has_made-clause-made c =
    ap (λ (b : BlockLists). b.made) c.self.view_is ∙ none_there c.args.off c.args.self.now.made (sym c.has_made.ensures ∙ c.if-has_made.false)
