use Rattle.pm_shared.proofs.tests.two_lanes_take_turns.Given as goal

-- the table of the memory that was made
abbrev pub ghosts-run : goal.ghosts-run
ghosts-run g a = record { table = a.memory.table.shared.table_id }
