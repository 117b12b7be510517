use Rattle.log_table.specs.Seats.{number_of, key_of}
use Rattle.log_table.proofs.table.LogTable.store_durable.Given as goal

abbrev pub ghosts-store_durable_as : goal.ghosts-store_durable_as
ghosts-store_durable_as a = record { key = key_of a.table.now; seat = number_of a.seat.now }
