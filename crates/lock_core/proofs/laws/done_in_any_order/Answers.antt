use Rattle.lock_core.proofs.Doing.{partly_serial-done_or_cut_short, serial-done, serial-balance_taken_given, serial_records-weight_of_done, serial-end_of_done_records}
use Rattle.lock_core.proofs.laws.done_in_any_order.Goals as goal

pub returns-clause-partly : goal.returns-clause-partly
returns-clause-partly c = λ base first jobs h room. partly_serial-done_or_cut_short base first jobs room h

pub returns-clause-done : goal.returns-clause-done
returns-clause-done c = λ base first jobs h room. serial-done base first jobs room h

pub returns-clause-balance : goal.returns-clause-balance
returns-clause-balance c = λ base first jobs h account room. serial-balance_taken_given base first jobs room h account

pub returns-clause-sums : goal.returns-clause-sums
returns-clause-sums c = λ base first jobs records weight room serial ignores. serial_records-weight_of_done base first jobs room weight records ignores serial

pub returns-clause-end : goal.returns-clause-end
returns-clause-end c = serial-end_of_done_records
