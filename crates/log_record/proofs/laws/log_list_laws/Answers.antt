use Rattle.std.proofs.Common.{arith}
use Rattle.log_record.specs.LogList.{end_of}
use Rattle.log_record.proofs.LogListLemmas.{length-starts_from, starts_from-tiling, boundary_is_front, front_is_boundary, prefix_to-front}
use Rattle.log_record.proofs.LogListLemmas.{end_of-prefix_to, prefix_to-append, end_of-prefix_to-boundary, prefix_to-end_of}
use Rattle.log_record.proofs.laws.log_list_laws.Goals as goal

pub returns : goal.returns
returns c = record {
  starts = length-starts_from 0;
  tiling = λ L. starts_from-tiling 0 (end_of L) L (omega arith);
  boundary = λ L x. (boundary_is_front L x, front_is_boundary L x);
  front = prefix_to-front;
  below = end_of-prefix_to;
  longest = prefix_to-append;
  exact = end_of-prefix_to-boundary;
  whole = prefix_to-end_of;
}
