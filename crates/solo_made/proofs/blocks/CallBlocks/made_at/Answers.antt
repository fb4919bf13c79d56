use Rattle.std.proofs.Common.{◌≡◌, Option, None, Some, refl, sym, ap, ◌∙◌, find, rules, tests}
use Rattle.std.specs.Option.{option_map}
use Rattle.std.proofs.lemmas.Iterator.{YieldsList-from_slice}
use Rattle.std.proofs.lemmas.Iterator.Consumers.{YieldsList-from_copied}
use Rattle.std.proofs.lemmas.Iterator.Search.{find_from_yields_List}
use Rattle.solo_made.specs.declared.objects.Made.{Made}
use Rattle.solo_made.specs.Made.{BlockLists, begins_at, new_of}
use Rattle.solo_made.proofs.CallLists.{found_is}
use Rattle.solo_made.proofs.blocks.CallBlocks.made_at.Goals as goal

own : (found : Option Made) → option_map (λ (m : Made). m) found ≡ found
own None = refl
own (Some m) = refl

pub returns : goal.returns
returns c = λ call lists.
    let found : option_map (λ (m : Made). m) c.find.result ≡ find (begins_at c.args.off) c.as_slice.result.now =
    find_from_yields_List (begins_at c.args.off) _ _ c.find.result c.find.ensures.ran (YieldsList-from_copied (YieldsList-from_slice c.as_slice.result.now cc)) (λ x b q k. search (rules, tests)) in
    ap (option_map new_of) (sym (own c.find.result) ∙ (found ∙ (ap (find (begins_at c.args.off)) c.as_slice.ensures.value ∙ ap (λ (b : BlockLists). find (begins_at c.args.off) b.made) c.self.view_is)))
    ∙ found_is c.args.self.now call c.args.off lists
