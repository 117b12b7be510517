use Rattle.lock_core.proofs.Apart.{greatest_txn_below-all_below, numbers_apart-share_none}
use Rattle.lock_core.specs.Serial.{numbered}
use Rattle.lock_core.proofs.SerialFronts.{no_others-numbers_from, numbered-from}
use Rattle.lock_core.proofs.laws.numbers_apart.Goals as goal

pub returns-clause-below : goal.returns-clause-below
returns-clause-below c = greatest_txn_below-all_below

pub returns-clause-from : goal.returns-clause-from
returns-clause-from c = λ base first jobs h serial. no_others-numbers_from first (numbered first jobs) h (numbered-from first jobs) serial.others

pub returns-clause-apart : goal.returns-clause-apart
returns-clause-apart c = numbers_apart-share_none
