use Rattle.std.proofs.Common.{◌≡◌, ◌∙◌, sym, ap, length, arith}
use Rattle.lock_core.specs.Records.{txn_of}
use Rattle.lock_core.proofs.OwnLemmas.{updates_of-room}
use Rattle.lock_core.proofs.plain.own.own_records.Goals as goal

pub take-requires : goal.take-requires
take-requires c =
    let same : txn_of c.entry-item.result.rec ≡ c.args.txn = sym c.txn_of.ensures ∙ c.if-txn_of-txn.true in
    let room = updates_of-room c.args.txn c.args.entries.now c.loop-entry.entry-index c.entry-item.result c.loop-entry-test.true c.entry-item.is same c.requires in
    let gathered = ap length c.loop-entry.invariant.updates in
    omega arith
