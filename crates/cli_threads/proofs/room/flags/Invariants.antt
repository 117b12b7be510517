use Rattle.std.proofs.Common.{◌≡◌, vec_len, vec_capacity}
use Rattle.cli_threads.proofs.room.flags.Given as goal

abbrev pub invariant-loop-number : goal.invariant-loop-number
invariant-loop-number l = record { count : vec_len l.flags ≡ l._number; room : vec_capacity l.flags ≡ vec_capacity l.initial.flags }
