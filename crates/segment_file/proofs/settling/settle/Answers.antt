use Rattle.std.proofs.Common.{refl}
use Rattle.segment_file.proofs.TailSettles.{settles-failed, settles-succeeded}
use Rattle.segment_file.proofs.settling.settle.Goals as goal

pub returns-in_err-close_gate : goal.returns-in_err-close_gate
returns-in_err-close_gate g c =
    settles-failed g.D.LogDisk c.args.at c.args.next _ _ (g.met.D.LogDisk.read_is_image _)
    g.met.D.LogDisk.counts_now g.met.D.LogDisk.only_now
    c.requires.stable _ c.close_gate.ensures c.in_err-close_gate.ensures.cause.failed _ _ c.from_residual.ensures.1

pub returns : goal.returns
returns g c =
    let closed = c.in_ok-close_gate.ensures in
    settles-succeeded g.D.LogDisk c.args.at c.args.next _ _ (g.met.D.LogDisk.read_is_image _)
    g.met.D.LogDisk.counts_now g.met.D.LogDisk.only_now
    c.requires.stable _ c.close_gate.ensures closed.shut closed.closed closed.settled closed.cause.fine _ refl
