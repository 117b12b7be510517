use Rattle.std.proofs.Common.{ap, length, arith}
use Rattle.cli_cut.specs.Parts.{ReadsLog}
use Rattle.cli_cut.specs.Upgrading.{AllHoldUpgrade, CostsUpgrade, GrowsByUpgrade, MayBeUpgraded}
use Rattle.cli_cut.proofs.TryingLemmas.{tries-failed, tries-fine}
use Rattle.cli_cut.proofs.UpgradingLemmas.{writes_log-costs_upgrade, writes_log-grows_by_upgrade, writes_log-leaves_upgraded, writes_log-all_hold_upgrade, rest-units_of_made}
use Rattle.cli_cut.proofs.upgrade_command.make_upgrade.Goals as goal

-- the log is written
pub write_log-requires : goal.write_log-requires
write_log-requires g c =
    let are = c.in_ok-parts.ensures.told in
    let rest = rw c.as_slice.ensures at c.split_at.ensures.back in
    record {
      stable = λ honest. c.in_ok-finds_none.ensures.gate (c.in_ok-finds_none.ensures.honest.1 honest);
      records = (are.made.records, rest-units_of_made _ _ c.in_ok-parts.parts are _ rest);
      fits = omega (arith, are.fits, ap (λ o. o.lsn) are.head, ap length rest, ap length are.units);
      none = are.none;
      room = are.room;
    }

pub returns-in-Ok : goal.returns-in-Ok
returns-in-Ok g c =
    let found = c.in_ok-finds_none.ensures in
    let are = c.in_ok-parts.ensures.told in
    let parts = c.in_ok-parts.parts in
    let rest = rw c.as_slice.ensures at c.split_at.ensures.back in
    let written = c.in-Ok.ensures in
    let left = g.S.Source.left c.args.source.now in
    tries-fine g.D.LogDisk g.S.Source ReadsLog MayBeUpgraded AllHoldUpgrade (CostsUpgrade g.D.LogDisk left) (GrowsByUpgrade g.D.LogDisk left)
    _ _ c.finds_none.new.disk _ _ _ found.closed found.honest found.attached (found.disk.fine (λ is. cc))
    (writes_log-leaves_upgraded _ _ parts are g.D.LogDisk _ c.finds_none.new.disk _ _ rest _ found.honest.0 written found.moments)
    (writes_log-costs_upgrade _ _ parts are g.D.LogDisk _ c.finds_none.new.disk _ _ rest _ found.honest.0 written found.count)
    (writes_log-grows_by_upgrade _ _ parts are g.D.LogDisk _ c.finds_none.new.disk _ _ rest _ found.honest.0 written found.reads)
    written.honest written.attached (c.in_ok-parts.ensures.read.fine (λ is. cc)) parts.recovered (are.bytes, are.read, are.recovers)
    (writes_log-all_hold_upgrade _ _ parts are g.D.LogDisk _ c.finds_none.new.disk _ _ rest _ found.honest.0 written) written.cause.fine

-- the disk failed while it was written
pub returns-in-Err : goal.returns-in-Err
returns-in-Err g c =
    let found = c.in_ok-finds_none.ensures in
    let are = c.in_ok-parts.ensures.told in
    let parts = c.in_ok-parts.parts in
    let rest = rw c.as_slice.ensures at c.split_at.ensures.back in
    let written = c.in-Err.ensures in
    let left = g.S.Source.left c.args.source.now in
    tries-failed g.D.LogDisk g.S.Source ReadsLog MayBeUpgraded AllHoldUpgrade (CostsUpgrade g.D.LogDisk left) (GrowsByUpgrade g.D.LogDisk left)
    _ _ c.finds_none.new.disk _ _ _ found.closed found.honest found.attached (found.disk.fine (λ is. cc))
    (writes_log-leaves_upgraded _ _ parts are g.D.LogDisk _ c.finds_none.new.disk _ _ rest _ found.honest.0 written found.moments)
    (writes_log-costs_upgrade _ _ parts are g.D.LogDisk _ c.finds_none.new.disk _ _ rest _ found.honest.0 written found.count)
    (writes_log-grows_by_upgrade _ _ parts are g.D.LogDisk _ c.finds_none.new.disk _ _ rest _ found.honest.0 written found.reads)
    written.honest written.attached (c.in_ok-parts.ensures.read.fine (λ is. cc)) written.cause.failed
