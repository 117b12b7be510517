use Rattle.std.proofs.Common.{◌≡◌, ◌++◌, take}
use Rattle.std.specs.List.{flat_map}
use Rattle.segment_head.specs.Head.{row_bytes}
use Rattle.segment_head.proofs.head.put_rows.Given as goal

abbrev pub invariant-accounts : goal.invariant-accounts
invariant-accounts l = l.bytes.items ≡ l.fn.bytes.items ++ flat_map row_bytes (take l.account l.accounts.rows)
