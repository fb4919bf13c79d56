use Rattle.pm_lanes.proofs.tests.lanes_begin.Given as goal

-- the table of the memory that was made
abbrev pub ghosts-generations : goal.ghosts-generations
ghosts-generations g a = record { table = a.memory.table.shared.table_id }
