use Rattle.own_records.proofs.Readings.{one_list-holds, holds-no_log}
use Rattle.own_records.proofs.reading.one_list.Goals as goal

pub returns : goal.returns
returns c = record { one = one_list-holds; no_log = holds-no_log }
