use Rattle.log_table.proofs.table.LogTable.load_slot.Given as goal

abbrev pub ghosts-load_slot_as : goal.ghosts-load_slot_as
ghosts-load_slot_as a = record { number = a.slot }
