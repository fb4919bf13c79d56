use Rattle.std.proofs.Common.{◌≡◌, ℕ, List, ◌++◌, map, ap, subst, sym, ◌∙◌}
use Rattle.std.specs.List.{AllZip}
use Rattle.std.proofs.lemmas.List.{map-append}
use Rattle.solo_crash.specs.HeapChanges.{entry_of}
use Rattle.solo_redo.specs.Entering.{final_of}
use Rattle.solo_made.specs.declared.objects.Freed.{Freed}
use Rattle.solo_made.specs.declared.objects.Made.{Made}
use Rattle.solo_made.specs.Made.{BlockLists}
use Rattle.solo_made.specs.Entries.{AllocatesBlockOf, FreesBlockOf, entry_freeing, entry_making}
use Rattle.solo_made.proofs.blocks.CallBlocks.list_entries.Goals as goal

pub returns-clause-perform : goal.returns-clause-perform
returns-clause-perform g c = λ freed made frees allocates.
    let lanes : ℕ = c.args.lane.now.shape.lanes in
    let fs : c.as_slice.result.now ≡ c.args.self.now.freed = c.as_slice.ensures.value ∙ ap (λ (b : BlockLists). b.freed) c.self.view_is in
    let ms : c.as_slice-2.result.now ≡ c.args.self.now.made = c.as_slice-2.ensures.value ∙ ap (λ (b : BlockLists). b.made) c.self.view_is in
    let same : c.list_freed.new.lane.shape.lanes ≡ lanes = (λ j. (c.list_freed.ensures.else_same j).shape.lanes) in
    let front : map final_of (map (entry_freeing lanes) c.args.self.now.freed) ≡ map (entry_of lanes) freed =
    subst (λ (xs : List Freed). AllZip (FreesBlockOf lanes) freed xs → map final_of (map (entry_freeing lanes) xs) ≡ map (entry_of lanes) freed) fs (c.list_freed.ensures.perform freed) frees in
    let rest : map final_of (map (entry_making lanes) c.args.self.now.made) ≡ map (entry_of lanes) made =
    subst (λ (n : ℕ). AllZip (AllocatesBlockOf n) made c.args.self.now.made → map final_of (map (entry_making n) c.args.self.now.made) ≡ map (entry_of n) made) same
    (subst
    (λ (xs : List Made). AllZip (AllocatesBlockOf c.list_freed.new.lane.shape.lanes) made xs → map final_of (map (entry_making c.list_freed.new.lane.shape.lanes) xs) ≡ map (entry_of c.list_freed.new.lane.shape.lanes) made)
    ms (c.list_made.ensures.perform made)) allocates in
    map-append final_of (map (entry_freeing lanes) c.args.self.now.freed) (map (entry_making lanes) c.args.self.now.made)
    ∙ ((λ j. front j ++ rest j) ∙ sym (map-append (entry_of lanes) freed made))
