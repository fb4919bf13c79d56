use Rattle.std.proofs.Common.{◌≡◌, ℕ, List, [], ◌∷◌, ◌++◌, cond, filter, not, inl, inr, refl, sym, ap, subst, ◌∙◌, lit<, lit≤}
use Rattle.std.specs.List.{All, list_any}
use Rattle.std.proofs.lemmas.List.Elements.{All-cons, All-nil, All-same}
use Rattle.solo_made.specs.declared.objects.Freed.{Freed}
use Rattle.solo_made.specs.declared.objects.Made.{Made}
use Rattle.solo_made.specs.Made.{BlockLists, begins_at}
use Rattle.solo_made.specs.Entries.{IsBlockIn, block_freed, block_made}
use Rattle.solo_made.proofs.CallLists.{none_freed, none_made}
use Rattle.solo_made.proofs.tests.lists.Goals as goal

abbrev small : Made
small = record { off = 16512; kind = 7; size = 64 }

abbrev large : Made
large = record { off = 20544; kind = 8; size = 4000 }

abbrev found : Freed
found = record { off = 16640; lines = 2 }

-- the blocks of a pool of one lane and one zone
small_in : IsBlockIn 1 1 (block_made small)
small_in = inl (record { chunk = 0; index = 0; in_pool = lit< tt; inside = lit< tt; is_block = refl })

large_in : IsBlockIn 1 1 (block_made large)
large_in = inr (record { chunk = 1; chunks = 1; in_pool = lit< tt; some = lit≤ tt; is_block = refl })

found_in : IsBlockIn 1 1 (block_freed found)
found_in = inl (record { chunk = 0; index = 1; in_pool = lit< tt; inside = lit< tt; is_block = refl })

of_shape : (lanes zones : ℕ) → lanes ≡ 1 → zones ≡ 1 → (P : ℕ → ℕ → Type 0) → P 1 1 → P lanes zones
of_shape lanes zones one single P holds = subst (λ n. P n zones) (sym one) (subst (P 1) (sym single) holds)

-- what is made and freed of a call that did nothing so far
both : (old one two : BlockLists) → old.made ≡ [] → one ≡ record old { made = old.made ++ small ∷ [] } → two ≡ record one { made = one.made ++ large ∷ [] } → two.made ≡ small ∷ large ∷ []
both old one two none first second =
    ap (λ (b : BlockLists). b.made) second ∙ ap (λ (ms : List Made). ms ++ large ∷ []) (ap (λ (b : BlockLists). b.made) first ∙ ap (λ (ms : List Made). ms ++ small ∷ []) none)

none_yet : (old one two : BlockLists) → old.freed ≡ [] → one ≡ record old { made = old.made ++ small ∷ [] } → two ≡ record one { made = one.made ++ large ∷ [] } → two.freed ≡ []
none_yet old one two none first second = ap (λ (b : BlockLists). b.freed) second ∙ (ap (λ (b : BlockLists). b.freed) first ∙ none)

pub list_entries-requires-clause-freed : goal.list_entries-requires-clause-freed
list_entries-requires-clause-freed g c =
    let made = both c.in_ok-blocks.blocks c.add_made.new.self c.add_made-2.new.self (none_made c.in_ok-blocks.blocks c.in_ok-blocks.ensures.none) c.add_made.ensures.listed c.add_made-2.ensures.listed in
    let before = none_yet c.in_ok-blocks.blocks c.add_made.new.self c.add_made-2.new.self (none_freed c.in_ok-blocks.blocks c.in_ok-blocks.ensures.none) c.add_made.ensures.listed c.add_made-2.ensures.listed in
    let now : c.free.new.self.freed ≡ found ∷ [] = c.free.ensures.freed ∙ (λ j. cond (list_any (begins_at 16640) (made j)) (before j) (before j ++ found ∷ [])) in
    of_shape c.in_ok-shape.shape.lanes c.in_ok-shape.shape.zones c.in_ok-shape.ensures.lanes c.in_ok-shape.ensures.zones (λ lanes zones. All (λ (f : Freed). IsBlockIn lanes zones (block_freed f)) c.free.new.self.freed)
    (All-same (λ (f : Freed). IsBlockIn 1 1 (block_freed f)) c.free.new.self.freed (found ∷ []) now (All-cons (λ (f : Freed). IsBlockIn 1 1 (block_freed f)) found [] found_in (All-nil (λ (f : Freed). IsBlockIn 1 1 (block_freed f)))))

pub list_entries-requires-clause-made : goal.list_entries-requires-clause-made
list_entries-requires-clause-made g c =
    let made = both c.in_ok-blocks.blocks c.add_made.new.self c.add_made-2.new.self (none_made c.in_ok-blocks.blocks c.in_ok-blocks.ensures.none) c.add_made.ensures.listed c.add_made-2.ensures.listed in
    let now : c.free.new.self.made ≡ small ∷ large ∷ [] = c.free.ensures.made ∙ ap (filter (λ (m : Made). not (begins_at 16640 m))) made in
    of_shape c.in_ok-shape.shape.lanes c.in_ok-shape.shape.zones c.in_ok-shape.ensures.lanes c.in_ok-shape.ensures.zones (λ lanes zones. All (λ (m : Made). IsBlockIn lanes zones (block_made m)) c.free.new.self.made)
    (All-same (λ (m : Made). IsBlockIn 1 1 (block_made m)) c.free.new.self.made (small ∷ large ∷ []) now
    (All-cons (λ (m : Made). IsBlockIn 1 1 (block_made m)) small (large ∷ []) small_in
    (All-cons (λ (m : Made). IsBlockIn 1 1 (block_made m)) large [] large_in (All-nil (λ (m : Made). IsBlockIn 1 1 (block_made m))))))
