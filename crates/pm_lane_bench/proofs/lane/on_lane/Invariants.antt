use Rattle.pm_lane_bench.proofs.lane.on_lane.Given as goal

-- the table of the memory that was made
abbrev pub ghosts-on_first : goal.ghosts-on_first
ghosts-on_first a = record { table = a.memory.now.table.shared.table_id }
