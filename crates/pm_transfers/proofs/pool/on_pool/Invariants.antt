use Rattle.pm_transfers.proofs.pool.on_pool.Given as goal

-- the table of the memory that was made
abbrev pub ghosts-on_first : goal.ghosts-on_first
ghosts-on_first g a = record { table = a.memory.now.table.shared.table_id }
