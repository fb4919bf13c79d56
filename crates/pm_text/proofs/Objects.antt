-- The text of all objects of a pool.
use Rattle.std.proofs.Common.{◌≡◌, ℕ, ◌≤◌, List, [], ◌++◌, length, take, ◌∙◌, ap}
use Rattle.std.specs.List.{flat_map}
use Rattle.std.proofs.lemmas.List.{take_all}
use Rattle.pm_objects.specs.declared.pool.Object.{Object}
use Rattle.pm_objects.specs.declared.pool.PoolView.{PoolView}
use Rattle.pm_text.specs.Dump.{root_line, object_text, dump_text}

-- the root's line and the texts of all objects
pub dump_whole : (pool : PoolView) (before front after : List ℕ) (objects : List (ℕ × Object)) (n : ℕ) → before ≡ [] → front ≡ before ++ root_line pool.root → after ≡ front ++ flat_map object_text (take n objects)
    → objects ≡ pool.objects → length objects ≤ n → after ≡ dump_text pool
unfolding dump_text
dump_whole pool before front after objects n none root all same long =
    all ∙ ap (λ (xs : List ℕ). xs ++ flat_map object_text (take n objects)) (root ∙ ap (λ (xs : List ℕ). xs ++ root_line pool.root) none)
    ∙ ap (λ (entries : List (ℕ × Object)). root_line pool.root ++ flat_map object_text entries) (take_all n objects long ∙ same)
