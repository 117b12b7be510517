use Rattle.log_table.proofs.table.LogTable.load_account.Given as goal

abbrev pub ghosts-load_account_as : goal.ghosts-load_account_as
ghosts-load_account_as a = record { number = a.account }
