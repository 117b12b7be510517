use Rattle.log_table.proofs.table.LogTable.store_account.Goals as goal

pub returns : goal.returns
returns c = c.store_account_as.ensures
