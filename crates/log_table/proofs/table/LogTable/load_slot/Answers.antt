use Rattle.log_table.proofs.table.LogTable.load_slot.Goals as goal

pub returns : goal.returns
returns c = c.load_slot_as.ensures
