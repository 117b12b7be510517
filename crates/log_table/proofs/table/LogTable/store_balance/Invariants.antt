use Rattle.log_table.proofs.table.LogTable.store_balance.Given as goal

abbrev pub ghosts-store_balance_as : goal.ghosts-store_balance_as
ghosts-store_balance_as a = record { number = a.account }
