use Rattle.std.proofs.Common.{[]}
use Rattle.ship_stream.specs.declared.layout.TheConstants.{SHIPPED_UNITS}
use Rattle.ship_stream.proofs.PackingLemmas.{records_of-packed, shipped-short, shipped-stream}
use Rattle.ship_stream.proofs.laws.shipped_stream.Goals as goal

pub returns : goal.returns
returns c = record { stream = shipped-stream; records = records_of-packed SHIPPED_UNITS []; short = shipped-short }
