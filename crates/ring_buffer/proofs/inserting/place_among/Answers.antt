use Rattle.std.proofs.Common.{rules}
use Rattle.ring_buffer.proofs.inserting.place_among.Goals as goal

pub places-smaller : goal.places-smaller
places-smaller g c = search rules steps 1200000

pub returns-in_err-range-clause-refused : goal.returns-in_err-range-clause-refused
returns-in_err-range-clause-refused g c = search rules steps 1200000
