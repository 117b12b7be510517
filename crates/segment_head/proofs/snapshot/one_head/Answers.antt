use Rattle.segment_head.proofs.HeadLemmas.{snapshot_bytes-append_injective}
use Rattle.segment_head.proofs.snapshot.one_head.Goals as goal

pub returns : goal.returns
returns c = snapshot_bytes-append_injective
