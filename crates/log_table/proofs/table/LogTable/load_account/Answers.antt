use Rattle.log_table.proofs.table.LogTable.load_account.Goals as goal

pub returns : goal.returns
returns c = c.load_account_as.ensures
