use Rattle.std.proofs.Common.{ap}
use Rattle.lsn_space.specs.Opening.{Opening}
use Rattle.segment_head.proofs.HeadLemmas.{sealed_head-IsHead, opening_in-sealed}
use Rattle.segment_head.proofs.head.Head.make.Goals as goal

pub invariant_of-result : goal.invariant_of-result
invariant_of-result c = sealed_head-IsHead _ _ _ c.requires c.in_ok-bytes.ensures (ap (λ (opening : Opening). opening.lsn) c.opening.view_is)

pub returns : goal.returns
returns c = opening_in-sealed _ _ c.requires c.in_ok-bytes.ensures
