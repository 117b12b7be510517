use Rattle.log_table.proofs.table.LogTable.split.Given as goal

abbrev pub ghosts-split_as : goal.ghosts-split_as
ghosts-split_as a = record { number = a.worker }
