use Rattle.log_table.proofs.table.LogTable.exchange_account.Goals as goal

pub returns : goal.returns
returns c = c.exchange_account_as.ensures
