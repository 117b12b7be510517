use Rattle.std.proofs.Common.{rules}
use Rattle.txn_parts.proofs.ended.TransferEnd.release.Goals as goal

pub returns-in-Short : goal.returns-in-Short
returns-in-Short c = search rules steps 300000
