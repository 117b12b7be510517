use Rattle.segment_file.proofs.FirstFormat.{HoldsUnits-HoldsLog, HoldsLog-HoldsUnits}
use Rattle.segment_file.proofs.scanning.first_format.Goals as goal

pub returns : goal.returns
returns c = λ bytes units. (HoldsUnits-HoldsLog bytes units, HoldsLog-HoldsUnits bytes units)
