use Rattle.std.proofs.Common.{◌≡◌, ◌||◌, Bool, eqb, ap, sym, ◌∙◌, rules, tests}
use Rattle.std.specs.List.{list_any}
use Rattle.std.proofs.lemmas.Iterator.{YieldsList-from_slice}
use Rattle.std.proofs.lemmas.Iterator.Search.{any_from_yields_List}
use Rattle.solo_model.specs.Bytes.{is_among}
use Rattle.solo_crash.specs.CallBlocks.{is_at}
use Rattle.solo_made.specs.declared.objects.Freed.{Freed}
use Rattle.solo_made.specs.Made.{BlockLists, has_object}
use Rattle.solo_made.proofs.CallLists.{freed_is}
use Rattle.solo_made.proofs.blocks.CallBlocks.is_gone.Goals as goal

pub returns-then-any : goal.returns-then-any
returns-then-any c = λ call lists.
    let found : c.any.result ≡ list_any (λ (f : Freed). eqb f.off c.args.off) c.as_slice.result.now =
    any_from_yields_List (λ (f : Freed). eqb f.off c.args.off) _ _ c.any.result c.any.ensures.ran (YieldsList-from_slice _ c.iter.ensures.rest) (λ x b q k. search (rules, tests)) in
    let among : c.any.result ≡ is_among call.freed c.args.off =
    found
    ∙ (ap (list_any (λ (f : Freed). eqb f.off c.args.off)) c.as_slice.ensures.value
    ∙ (ap (λ (b : BlockLists). list_any (λ (f : Freed). eqb f.off c.args.off) b.freed) c.self.view_is ∙ freed_is c.args.self.now call c.args.off lists)) in
    c.if-any.true ∙ ap (λ (b : Bool). b || list_any (is_at c.args.off) call.dropped) (sym c.if-any.true ∙ among)

pub returns-else-any : goal.returns-else-any
returns-else-any c = λ call lists.
    let found : c.any.result ≡ list_any (λ (f : Freed). eqb f.off c.args.off) c.as_slice.result.now =
    any_from_yields_List (λ (f : Freed). eqb f.off c.args.off) _ _ c.any.result c.any.ensures.ran (YieldsList-from_slice _ c.iter.ensures.rest) (λ x b q k. search (rules, tests)) in
    let among : c.any.result ≡ is_among call.freed c.args.off =
    found
    ∙ (ap (list_any (λ (f : Freed). eqb f.off c.args.off)) c.as_slice.ensures.value
    ∙ (ap (λ (b : BlockLists). list_any (λ (f : Freed). eqb f.off c.args.off) b.freed) c.self.view_is ∙ freed_is c.args.self.now call c.args.off lists)) in
    c.contains.ensures ∙ (ap (λ (b : BlockLists). has_object b.dropped c.args.off) c.self.view_is
    ∙ (lists.dropped c.args.off ∙ ap (λ (b : Bool). b || list_any (is_at c.args.off) call.dropped) (sym c.if-any.false ∙ among)))
