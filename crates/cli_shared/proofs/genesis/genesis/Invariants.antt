use Rattle.std.proofs.Common.{◌≡◌, ◌*◌, length, map, take}
use Rattle.log_record.specs.LogList.{units_of}
use Rattle.cli_shared.specs.Creation.{genesis_list}
use Rattle.cli_shared.proofs.genesis.genesis.Given as goal

abbrev pub invariant-accounts : goal.invariant-accounts
invariant-accounts l = record {
  spelled : l.batch.units ≡ units_of (genesis_list (map (λ row. row.0) (take l.account l.balances.rows)));
  room : l.batch.room ≡ 2 * length l.balances.rows;
}
