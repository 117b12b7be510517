use Rattle.own_records.proofs.Opens.{closed-failed, closed-succeeded}
use Rattle.own_records.proofs.opening.go_on.Goals as goal

pub returns-in_err-close_gate-clause-opens : goal.returns-in_err-close_gate-clause-opens
returns-in_err-close_gate-clause-opens g c =
    closed-failed g.D.LogDisk g.met.D.LogDisk.read_is_image g.met.D.LogDisk.counts_now g.met.D.LogDisk.only_now
    c.args.at _ _ _ c.requires.stable c.requires.end c.close_gate.ensures _ _ c.from_residual.ensures.1

pub returns-clause-opens : goal.returns-clause-opens
returns-clause-opens g c =
    closed-succeeded g.D.LogDisk g.met.D.LogDisk.read_is_image g.met.D.LogDisk.counts_now g.met.D.LogDisk.only_now
    c.args.at _ _ _ c.requires.stable c.requires.end c.close_gate.ensures c.in_ok-close_gate.ensures.shut
