use Rattle.pm_walks.proofs.shared.a_lock_of_another_lane_is_busy.Given as goal

-- the table of the memory that was made
abbrev pub ghosts-busy : goal.ghosts-busy
ghosts-busy g a = record { table = a.memory.table.shared.table_id }
