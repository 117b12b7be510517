use Rattle.log_table.proofs.table.LogTable.store_balance.Goals as goal

pub returns : goal.returns
returns c = c.store_balance_as.ensures
