use Rattle.std.proofs.Common.{◌≡◌, ◌*◌, ◌/◌, ◌%◌, ℕ, List, length, ◌∙◌, ap, arith}
use Rattle.std.proofs.lemmas.List.FromFn.{length-map-range_with_len}
use Rattle.pm_layout.specs.Layout.{pool_size}
use Rattle.pm_pool.specs.Created.{created, created_word, Wanted}
use Rattle.pm_commands.proofs.create_command.make_pool.Goals as goal

whole_lines : (w : Wanted) → length (created w) % 8 ≡ 0
whole_lines w = let long : length (created w) ≡ pool_size w.lanes w.zones / 8 = length-map-range_with_len (λ i. created_word w (8 * i)) 0 (pool_size w.lanes w.zones / 8) in omega arith

pub written_out-requires-clause-words : goal.written_out-requires-clause-words
written_out-requires-clause-words c = ap (λ (xs : List ℕ). length xs % 8) c.in-Ok-create.ensures.created ∙ whole_lines _
