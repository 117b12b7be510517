use Rattle.ship_stream.proofs.StreamLemmas.{one_stream-come, one_stream-front, is_stream-not_bad_stream, bad_stream_offset-unique}
use Rattle.ship_stream.proofs.laws.one_stream.Goals as goal

pub returns : goal.returns
returns c = record { come = one_stream-come; front = one_stream-front; fine = is_stream-not_bad_stream; place = bad_stream_offset-unique }
