use Rattle.pm_world.proofs.BlockLines as block_lines
use Rattle.pm_world.proofs.block_laws.blocks_share_no_line.Goals as goal

pub returns : goal.returns
returns _ = λ o mem views g x B C line b c. block_lines.lines_apart o mem views g x B C line b c
