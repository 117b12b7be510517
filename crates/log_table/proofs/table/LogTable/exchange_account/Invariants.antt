use Rattle.log_table.proofs.table.LogTable.exchange_account.Given as goal

abbrev pub ghosts-exchange_account_as : goal.ghosts-exchange_account_as
ghosts-exchange_account_as a = record { number = a.account }
