use Rattle.log_table.proofs.table.LogTable.store_account.Given as goal

abbrev pub ghosts-store_account_as : goal.ghosts-store_account_as
ghosts-store_account_as a = record { number = a.account }
