use Rattle.log_record.proofs.BoundLemmas.{length-spelling, spelling-all_units}
use Rattle.log_record.proofs.laws.spelling_bounds.Goals as goal

pub returns-clause-short : goal.returns-clause-short
returns-clause-short c = length-spelling

pub returns-clause-fits : goal.returns-clause-fits
returns-clause-fits c = spelling-all_units
