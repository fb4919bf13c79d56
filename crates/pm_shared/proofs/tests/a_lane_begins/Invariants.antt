use Rattle.pm_shared.proofs.tests.a_lane_begins.Given as goal

-- the table of the memory that was made
abbrev pub ghosts-first_generation : goal.ghosts-first_generation
ghosts-first_generation g a = record { table = a.memory.table.shared.table_id }
