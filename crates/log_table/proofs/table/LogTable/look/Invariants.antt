use Rattle.log_table.specs.Seats.{number_of, key_of}
use Rattle.log_table.proofs.table.LogTable.look.Given as goal

abbrev pub ghosts-look_as : goal.ghosts-look_as
ghosts-look_as a = record { key = key_of a.table.now; seat = number_of a.seat.now }
