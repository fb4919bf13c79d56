use Rattle.pm_run.proofs.pool.run_lanes.Given as goal

-- the table of the memory that was made
abbrev pub ghosts-run_on : goal.ghosts-run_on
ghosts-run_on g a = record { table = a.pool.memory.table.shared.table_id }
